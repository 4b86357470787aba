use Rattle.std.proofs.Common.{◌≡◌, ◌∙◌, ap, sym, subst, arith, slice_index_or, [], ◌∷◌}
use Rattle.rail.specs.NotedReplies.{NotedReply, ReplySenderState}
use Rattle.rail.specs.Turns.{HasPutReplies}
use Rattle.rail.proofs.Replying.{address_at, are_set, replied_at}
use Rattle.rail.proofs.outputs.put_reply.Goals as goal

pub put-requires : goal.put-requires
put-requires g c =
    let reply_senders = c.args.reply_senders.now.items in
    let within = c.requires.port in
    let reply_message = c.new-reply_message.ensures in
    let told = c.tell.ensures in
    (λ i. record {
      instance = ((ap (λ (l : NotedReply). l.told.instance) reply_message) ∙ ap (λ t. t.instance) told) i;
      port = (reply_message i).port;
    })
    ∙ sym (ap (λ (p : ReplySenderState). p.address) c.index_mut.ensures.value
    ∙ address_at c.args.published.now.instance 0 c.args.port
    c.args.port reply_senders c.index_mut.result.now within (omega arith) c.requires.reply_senders)

pub returns-clause-reply_senders : goal.returns-clause-reply_senders
returns-clause-reply_senders g c =
    let reply_senders = c.args.reply_senders.now.items in
    let within = c.requires.port in
    are_set c.args.published.now.instance 0 c.args.port reply_senders c.index_mut.result.now c.put.new.self within
    (c.put.ensures.put.address ∙ ap (λ (p : ReplySenderState). p.address) c.index_mut.ensures.value)
    c.requires.reply_senders

pub returns-clause-put : goal.returns-clause-put
returns-clause-put g c =
    let reply_senders = c.args.reply_senders.now.items in
    let within = c.requires.port in
    let noted_reply : c.new-reply_message.result ≡ record {
      port = c.args.port;
      reply = c.args.reply;
      told = c.args.published.now;
    } =
    c.new-reply_message.ensures ∙ ap (λ t. record { port = c.args.port; reply = c.args.reply; told = t })
    c.tell.ensures in
    replied_at c.args.published.now 0 c.args.port c.args.port c.args.reply reply_senders c.index_mut.result.now
    c.put.new.self
    within (omega arith)
    (subst (λ (l : NotedReply). HasPutReplies (slice_index_or reply_senders c.args.port c.index_mut.result.now)
    c.put.new.self
    (l ∷ [])) noted_reply
    (subst (λ (p : ReplySenderState). HasPutReplies p c.put.new.self (c.new-reply_message.result ∷ []))
    c.index_mut.ensures.value
    c.put.ensures.put))
