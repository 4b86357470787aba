use Rattle.std.proofs.Common.{◌≡◌, take}
use Rattle.rail.specs.Links.{HaveCarried}
use Rattle.rail.specs.Turns.{HasPut, messages_of}
use Rattle.rail.proofs.Spending.{spent_to}
use Rattle.rail.proofs.outputs.put_messages.Given as goal

-- the messages of the outputs so far are put
abbrev pub invariant-loop-k : goal.invariant-loop-k
invariant-loop-k g l = record {
  put : HasPut (g.L.Links.state l.initial.links) (g.L.Links.state l.links)
      (messages_of (take l.k l.fn.outputs.items));
  carried : HaveCarried (g.L.Links.state l.initial.links) (g.L.Links.state l.links);
  outputs : l.outputs.items ≡ spent_to l.k l.fn.outputs.items;
}
