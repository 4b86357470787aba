use Rattle.std.proofs.Common.{◌≡◌, sym, subst, ℕ, length, [], ◌∷◌, ◌++◌}
use Rattle.std.specs.Vec.Iter.{into_iter_items}
use Rattle.node.specs.Replies.{AreRepliesBelow}
use Rattle.rail.proofs.Replying.{length_replied, below_rest, replied_none, replied_on, one_on}
use Rattle.rail.proofs.Spending.{put_out_rest}
use Rattle.rail.proofs.outputs.put_replies.Goals as goal

pub loop-output-init : goal.loop-output-init
loop-output-init g c =
    let same : into_iter_items c.into_iter-output-iterator.result ≡ c.args.outputs.items =
    c.into_iter-output-iterator.ensures.into_iter_gives.0 in
    ([], sym same, c.requires.reply_senders, replied_none c.args.published.now 0 c.args.reply_senders.now.items)

pub put_if_reply-requires-clause-step : goal.put_if_reply-requires-clause-step
put_if_reply-requires-clause-step g c =
    let all = c.loop-output.invariant in
    put_out_rest c.args.published.now c.in-Some.output c.args.outputs.items all.0 _ _ all.1 c.in-Some.ensures.steps.0
    c.requires.step

pub put_if_reply-requires-clause-port : goal.put_if_reply-requires-clause-port
put_if_reply-requires-clause-port g c =
    let all = c.loop-output.invariant in
    let same : length c.loop-output.reply_senders.items ≡ length c.args.reply_senders.now.items =
    length_replied c.args.published.now 0 c.args.reply_senders.now.items c.loop-output.reply_senders.items all.0
    all.3 in
    subst (λ (n : ℕ). AreRepliesBelow n (c.in-Some.output ∷ [])) (sym same)
    (below_rest _ c.in-Some.output c.args.outputs.items all.0 _ _ all.1 c.in-Some.ensures.steps.0 c.requires.ports)

pub put_if_reply-requires-clause-reply_senders : goal.put_if_reply-requires-clause-reply_senders
put_if_reply-requires-clause-reply_senders g c = c.loop-output.invariant.2

pub loop-output-preserved : goal.loop-output-preserved
loop-output-preserved g c =
    let all = c.loop-output.invariant in (
      all.0 ++ c.in-Some.output ∷ [],
      one_on c.in-Some.output c.args.outputs.items all.0 _ _ all.1 c.in-Some.ensures.steps.0,
      c.put_if_reply.ensures.reply_senders,
      replied_on c.args.published.now 0 c.args.reply_senders.now.items c.loop-output.reply_senders.items
          c.put_if_reply.new.reply_senders.items
          all.0 (c.in-Some.output ∷ []) all.3 c.put_if_reply.ensures.put,
    )
