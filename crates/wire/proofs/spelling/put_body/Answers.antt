use Rattle.std.proofs.Common.{◌++◌, ap, sym, ◌∙◌}
use Rattle.wire.specs.Spellings.{eight_bytes, body_spelling}
use Rattle.wire.proofs.Appends.{then_more, spelled_so}
use Rattle.wire.proofs.spelling.put_body.Goals as goal

-- an answer is written by its spelling
pub returns-in-Answer : goal.returns-in-Answer
returns-in-Answer c =
    let old = c.args.out.now.items in
    let asked = c.extend_reserved-in-Answer.new.self.items in
    let done = c.extend_reserved-in-Answer-2.new.self.items in
    let ask = eight_bytes c.in-Answer.ask in
    let n = eight_bytes c.in-Answer.n in
    let ask_put = spelled_so old asked c.to_be_bytes-in-Answer.result ask c.extend_reserved-in-Answer.ensures.items
    c.to_be_bytes-in-Answer.ensures in
    let n_put = spelled_so asked done c.to_be_bytes-in-Answer-2.result n c.extend_reserved-in-Answer-2.ensures.items
    c.to_be_bytes-in-Answer-2.ensures in
    then_more old asked done ask n ask_put n_put ∙ ap (λ says. old ++ body_spelling says) (sym c.in-Answer.is)
