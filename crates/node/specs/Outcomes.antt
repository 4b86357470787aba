-- What a function has done: a rule's result.
use Rattle.std.specs.Prelude.{◌≡◌, List, ◌++◌}
use Rattle.node.specs.declared.messages.Output.{Output}
use Rattle.node.specs.Servers.{ServerState, RuleResult}

-- the server is the result's, and the outputs are those of before and then the result's
pub record Does (server : ServerState) (before after : List Output) (a : RuleResult) : Type 0 where
  pub state : server ≡ a.state
  pub outputs : after ≡ before ++ a.outputs
