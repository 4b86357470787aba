use Rattle.std.proofs.Common.{◌≡◌, ◌∙◌, sym, ◌++◌, ◌∷◌, ◌+◌, [], arith, rules}
use Rattle.rail.proofs.Opening.{next_reply_senders, seats_more}
use Rattle.rail.proofs.servers.more_seats.Goals as goal

pub loop-k-preserved : goal.loop-k-preserved
loop-k-preserved c =
    let at = c.loop-k.invariant in
    let k = c.loop-k.k in
    let port = c.args.first + k in
    let o = c.args.published.now.instance in
    let seat = c.in_ok-seat.ensures.seat in
    let reply_sender = c.in_ok-seat.ensures.reply_sender in
    let pushed : c.push-in-loop-k.new.self.items ≡ c.loop-k.reply_senders.items ++ c.in_ok-seat.reply_sender ∷ [] =
    search rules in
    record {
      seats = c.in_ok-push.ensures.items
          ∙ ((λ i. at.seats i ++ seat i ∷ []) ∙ sym (seats_more o c.args.first k port (omega arith)));
      reply_senders = pushed ∙ ((λ i. at.reply_senders i ++ reply_sender i ∷ [])
          ∙ sym (next_reply_senders o c.args.first k port (omega arith)));
    }
