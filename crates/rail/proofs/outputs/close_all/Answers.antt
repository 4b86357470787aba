use Rattle.std.proofs.Common.{◌≡◌, ◌∙◌, ◌<◌, ◌≤◌, ℕ, length, subst, sym, rules, []}
use Rattle.std.proofs.lemmas.List.{take_all}
use Rattle.faces.specs.Histories.{nowhere}
use Rattle.rail.specs.NotedReplies.{ReplySenderState}
use Rattle.rail.specs.Servers.{history_at}
use Rattle.rail.specs.Turns.{AreClosed, HasPutReplies}
use Rattle.rail.proofs.Replying.{replied_none, replied_on, closed_at, closed_next, length_replied}
use Rattle.rail.proofs.outputs.close_all.Goals as goal

pub loop-k-init : goal.loop-k-init
loop-k-init c = record { replies = λ k. replied_none k 0 c.args.reply_senders.now.items; closed = tt }

pub loop-k-preserved : goal.loop-k-preserved
loop-k-preserved c =
    let reply_senders = c.loop-k.reply_senders.items in
    let within : c.loop-k.k < length reply_senders = search rules in
    let closed =
    subst (λ (p : ReplySenderState). HasPutReplies p c.close.new.self []) c.index_mut.ensures.value
    c.close.ensures.replies_put in
    record {
      replies = λ k. replied_on k 0 c.args.reply_senders.now.items reply_senders _ [] [] (c.loop-k.invariant.replies k)
          (closed_at k 0 c.loop-k.k reply_senders c.index_mut.result.now c.close.new.self within closed);
      closed = closed_next c.loop-k.k reply_senders c.close.new.self within c.close.ensures.closed
          c.loop-k.invariant.closed;
    }

pub returns-clause-closed : goal.returns-clause-closed
returns-clause-closed c =
    let reply_senders = c.args.reply_senders.now.items in
    let same = length_replied (history_at nowhere) 0 reply_senders c.loop-k.reply_senders.items []
    (c.loop-k.invariant.replies (history_at nowhere)) in
    let len : c.len-k-end.result ≡ length reply_senders = search rules in
    subst AreClosed (take_all c.loop-k.k c.loop-k.reply_senders.items
    (subst (λ (n : ℕ). n ≤ c.loop-k.k) (len ∙ sym same) c.loop-k-test.false)) c.loop-k.invariant.closed
