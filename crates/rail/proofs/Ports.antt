-- The ports of calls and replies, one input further.
use Rattle.std.proofs.Common.{sym, subst, ℕ, [], ◌∷◌}
use Rattle.node.specs.declared.messages.Input.{Input}
use Rattle.node.specs.Lawful.{IsInput, HoldsEntry, IsLawful}
use Rattle.node.specs.Replies.{AreCallsBelow, AreRepliesBelow, AreOpenBelow}
use Rattle.node.proofs.RuleLaws.{lawful-step}
use Rattle.node.proofs.PortLaws.{open_below-step, replies_below-step}
use Rattle.faces.specs.Histories.{History, server_after, with_next}
use Rattle.faces.proofs.Stepping.{outputs_next, server_next}
use Rattle.rail.specs.Turns.{outputs_after}

pub lawful_next : (c : History) (i : Input)
    → IsInput i
    → HoldsEntry i
    → IsLawful (server_after c)
    → IsLawful (server_after (with_next c i))
lawful_next c i fit valid h = subst IsLawful (sym (server_next c i)) (lawful-step (server_after c) i fit valid h)

pub open_next : (c : History) (i : Input) (n : ℕ)
    → IsInput i
    → HoldsEntry i
    → IsLawful (server_after c)
    → AreOpenBelow n (server_after c)
    → AreCallsBelow n (i ∷ [])
    → AreOpenBelow n (server_after (with_next c i))
open_next c i n fit valid h waits calls =
    subst (AreOpenBelow n) (sym (server_next c i)) (open_below-step (server_after c) i n h fit valid waits calls)

-- each reply to an input goes to one of these ports
pub replies_next : (c : History) (i : Input) (n : ℕ)
    → IsInput i
    → HoldsEntry i
    → IsLawful (server_after c)
    → AreOpenBelow n (server_after c)
    → AreCallsBelow n (i ∷ [])
    → AreRepliesBelow n (outputs_after (with_next c i))
replies_next c i n fit valid h waits calls =
    subst (AreRepliesBelow n) (sym (outputs_next c.instance.start c.inputs i))
    (replies_below-step (server_after c) i n h fit valid waits calls)
