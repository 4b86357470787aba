use Rattle.std.proofs.Common.{◌++◌, ◌∷◌, [], ap, ◌∙◌, ℕ}
use Rattle.wire.specs.Spellings.{eight_bytes, target_spelling, reply_spelling, change_spelling}
use Rattle.wire.proofs.Appends.{then_more, spelled_so}
use Rattle.wire.proofs.spelling.put_entry.Goals as goal

-- an entry is written field by field
pub returns : goal.returns
returns c =
    let e = c.args.entry.now in
    let old = c.args.out.now.items in
    let numbered = c.extend_reserved.new.self.items in
    let served = c.extend_reserved-2.new.self.items in
    let called = c.extend_reserved-3.new.self.items in
    let aimed = c.put_target.new.out.items in
    let told = c.put_reply.new.out.items in
    let done = c.put_change.new.out.items in
    let number_put = spelled_so old numbered c.to_be_bytes.result (eight_bytes e.number) c.extend_reserved.ensures.items
    (c.to_be_bytes.ensures ∙ ap eight_bytes c.number.ensures.number) in
    let origin_put = spelled_so numbered served (c.origin.result ∷ []) (e.origin ∷ []) c.extend_reserved-2.ensures.items
    (ap (λ (n : ℕ). n ∷ []) c.origin.ensures.origin) in
    let id_put = spelled_so served called c.to_be_bytes-2.result (eight_bytes e.id) c.extend_reserved-3.ensures.items
    (c.to_be_bytes-2.ensures ∙ ap eight_bytes c.id.ensures.id) in
    let target_put = spelled_so called aimed (target_spelling c.target.result.now) (target_spelling e.target)
    c.put_target.ensures.text (ap target_spelling c.target.ensures.target) in
    let reply_put = spelled_so aimed told (reply_spelling c.reply.result.now) (reply_spelling e.reply)
    c.put_reply.ensures.text (ap reply_spelling c.reply.ensures.reply) in
    let reply = reply_spelling e.reply in
    let change = change_spelling e.change in
    let target = target_spelling e.target in
    then_more old numbered done (eight_bytes e.number)
    ((e.origin ∷ []) ++ (eight_bytes e.id ++ (target ++ (reply ++ change)))) number_put
    (then_more numbered served done (e.origin ∷ []) (eight_bytes e.id ++ (target ++ (reply ++ change))) origin_put
    (then_more served called done (eight_bytes e.id) (target ++ (reply ++ change)) id_put
    (then_more called aimed done target (reply ++ change) target_put
    (then_more aimed told done reply change reply_put c.put_change.ensures))))
