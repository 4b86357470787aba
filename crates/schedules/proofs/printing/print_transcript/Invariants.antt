use Rattle.std.proofs.Common.{◌≡◌, ◌++◌, drop}
use Rattle.schedules.specs.Printing.{connections_text}
use Rattle.schedules.proofs.printing.print_transcript.Given as goal

-- the text so far with those of the connections that are left is the text of all
abbrev pub invariant-loop-number : goal.invariant-loop-number
invariant-loop-number l = l.text.items ++ connections_text l.number (drop l.number l.transcript.connections)
    ≡ connections_text 0 l.transcript.connections
