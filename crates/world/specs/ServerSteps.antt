-- What one server made of an input.
use Rattle.std.specs.Prelude.{List}
use Rattle.versions.specs.Entries.{LogEntry}
use Rattle.node.specs.declared.messages.Input.{Input}
use Rattle.node.specs.declared.messages.Output.{Output}
use Rattle.node.specs.declared.standings.Standing.{Standing}
use Rattle.node.specs.Servers.{ServerState}
use Rattle.node.specs.Standings.{standing, entries_by}
use Rattle.node.specs.Steps.{step}

-- The input, where the server stood before it, the entries that it appended, what it put out, and where it stood after
-- it.
pub record StepShown : Type 0 where
  pub input : Input
  pub before : Standing
  pub entries : List LogEntry
  pub outputs : List Output
  pub after : Standing

-- what a server makes of an input
abbrev pub step_shown : ServerState → Input → StepShown
step_shown s input =
    record {
      input = input;
      before = standing s;
      entries = entries_by s input;
      outputs = (step s input).outputs;
      after = standing (step s input).state;
    }
