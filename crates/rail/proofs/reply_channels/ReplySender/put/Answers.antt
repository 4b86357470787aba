use Rattle.std.proofs.Common.{◌∙◌, sym, ap, refl}
use Rattle.rail.specs.declared.reply_channels.ReplyKnowledge.{ReplyKnowledge}
use Rattle.rail.specs.NotedReplies.{ReplySenderState}
use Rattle.rail.proofs.ReplyQueues.{replies_put}
use Rattle.rail.proofs.reply_channels.ReplySender.put.Goals as goal

pub returns-else-not-put_at : goal.returns-else-not-put_at
returns-else-not-put_at g c =
    let r = c.if-not-put_at.ensures.put in
    let same = (λ i. record { instance = (r i).instance; port = (r i).port })
    ∙ (c.requires ∙ sym (ap (λ (p : ReplySenderState). p.address) c.self.view_is)) in
    rw (← c.self.view_is) (record {
      put = replies_put _ _ c.args.reply_message same
          (ap (λ (v : ReplyKnowledge). v.list) r) refl;
    })
