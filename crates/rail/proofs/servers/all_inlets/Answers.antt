use Rattle.std.proofs.Common.{◌≡◌, ◌∙◌, sym, ap, ◌+◌, ◌++◌, ◌∷◌, ℕ, [], arith}
use Rattle.crossbeam_channel.specs.Claims.{view}
use Rattle.rail.specs.declared.inbox.InboxKnowledge.{InboxKnowledge}
use Rattle.rail.specs.Inbox.{taker}
use Rattle.rail.specs.Inlets.{inlet_at}
use Rattle.rail.proofs.Opening.{inlets_more}
use Rattle.rail.proofs.servers.all_inlets.Goals as goal

pub loop-preserved : goal.loop-preserved
loop-preserved c =
    let at = c.loop.invariant in
    let n = c.loop.counter in
    let b = c.args.inbox_builder.now.pass.table_id in
    let first = (view c.args.inbox_builder.now.pass).made in
    let ports = (view c.args.inbox_builder.now.pass).ports in
    let made = ap (λ (v : InboxKnowledge). v.made) at.inbox_builder in
    let next : (first + n) + 1 ≡ first + (n + 1) = omega arith in
    let inlet = c.in_ok-inlet.ensures.inlet
    ∙ ((λ i. inlet_at (at.inbox i) (view c.loop.inbox_builder.pass).made) ∙ ap (λ (k : ℕ). inlet_at b k) made) in
    record {
      inlets = c.in_ok-push.ensures.items
          ∙ ((λ i. at.inlets i ++ inlet i ∷ []) ∙ sym (inlets_more b first n (first + n) (omega arith)));
      inbox_builder = c.in_ok-inlet.ensures.inbox_builder
          ∙ ((λ i. taker (made i + 1) (at.inbox_builder i).ports []) ∙ ap (λ (k : ℕ). taker k ports []) next);
      inbox = c.in_ok-inlet.ensures.inbox ∙ at.inbox;
    }
