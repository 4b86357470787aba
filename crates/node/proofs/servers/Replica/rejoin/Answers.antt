use Rattle.std.proofs.Common.{ap, ◌∙◌}
use Rattle.node.specs.Servers.{ServerState}
use Rattle.node.specs.Joining.{promoted_to_tail}
use Rattle.node.proofs.DoneJoins.{ready}
use Rattle.node.proofs.Rejoining.{on_ok, rejoined_state, rejoined_outputs}
use Rattle.node.proofs.servers.Replica.rejoin.Goals as goal

-- the second step of a join leaves a server sound, as the third needs
pub promote_to_tail-requires : goal.promote_to_tail-requires
promote_to_tail-requires c =
    let r = ready c.args.old c.args.last_before c.args.self.now c.requires.chain c.requires.last_before.0
    c.requires.last_before.1 in
    record { chain = rw c.in_ok-promote_to_head.ensures.state r.second }

-- the third step of a join leaves a server sound, as the fourth needs
pub catch_up-requires-clause-chain : goal.catch_up-requires-clause-chain
catch_up-requires-clause-chain c =
    let r = ready c.args.old c.args.last_before c.args.self.now c.requires.chain c.requires.last_before.0
    c.requires.last_before.1 in
    let made = c.in_ok-promote_to_tail.ensures.state ∙ ap (λ (t : ServerState). (promoted_to_tail t).state)
    c.in_ok-promote_to_head.ensures.state in
    rw made r.third

-- the last number before the join is still from the floor to the last number
pub catch_up-requires-clause-last_before : goal.catch_up-requires-clause-last_before
catch_up-requires-clause-last_before c =
    let r = ready c.args.old c.args.last_before c.args.self.now c.requires.chain c.requires.last_before.0
    c.requires.last_before.1 in
    let made = c.in_ok-promote_to_tail.ensures.state ∙ ap (λ (t : ServerState). (promoted_to_tail t).state)
    c.in_ok-promote_to_head.ensures.state in
    rw made (r.low, r.high)

-- the fourth step changes nothing of a server, so it is sound for the fifth
pub ack_to_predecessor-requires : goal.ack_to_predecessor-requires
ack_to_predecessor-requires c =
    let r = ready c.args.old c.args.last_before c.args.self.now c.requires.chain c.requires.last_before.0
    c.requires.last_before.1 in
    let made = c.in_ok-promote_to_tail.ensures.state ∙ ap (λ (t : ServerState). (promoted_to_tail t).state)
    c.in_ok-promote_to_head.ensures.state in
    record { chain = rw made r.third }

-- the fifth step changes nothing of a server, so it is sound for the sixth
pub renew_asks-requires : goal.renew_asks-requires
renew_asks-requires c =
    let r = ready c.args.old c.args.last_before c.args.self.now c.requires.chain c.requires.last_before.0
    c.requires.last_before.1 in
    let made = c.in_ok-promote_to_tail.ensures.state ∙ ap (λ (t : ServerState). (promoted_to_tail t).state)
    c.in_ok-promote_to_head.ensures.state in
    record { chain = rw made r.third }

-- the steps after the first, one after another, do what a join does once the view was widened
pub returns : goal.returns
returns c =
    let made = c.in_ok-promote_to_tail.ensures.state ∙ ap (λ (t : ServerState). (promoted_to_tail t).state)
    c.in_ok-promote_to_head.ensures.state in
    on_ok c.renew_asks.result _ _
    (λ e. record {
      state = e.state ∙ rejoined_state c.args.old c.args.last_before c.args.acked_before c.args.self.now _ made;
      outputs = rejoined_outputs c.args.old c.args.last_before c.args.acked_before c.args.self.now _ _ _ _ _ _ _ _
          c.in_ok-promote_to_head.ensures.state made
          c.in_ok-promote_to_head.ensures.outputs c.in_ok-promote_to_tail.ensures.outputs c.in_ok-catch_up.ensures
          c.in_ok-ack_to_predecessor.ensures e.outputs;
    })
    c.renew_asks.ensures
