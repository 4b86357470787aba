use Rattle.std.proofs.Common.{◌++◌, ◌∷◌, [], ap, sym, ◌∙◌}
use Rattle.wire.specs.Spellings.{eight_bytes, four_bytes, block_spelling, op_spelling}
use Rattle.wire.proofs.Appends.{then_more, spelled_so}
use Rattle.wire.proofs.spelling.put_op.Goals as goal

-- a cas is written by its spelling
pub returns-in-Cas : goal.returns-in-Cas
returns-in-Cas c =
    let old = c.args.out.now.items in
    let coded = c.put_code-in-Cas.new.out.items in
    let flagged = c.extend_reserved.new.self.items in
    let marked = c.extend_reserved-in-Cas.new.self.items in
    let done = c.put_block-in-Cas.new.out.items in
    let flags = four_bytes c.in-Cas.flags in
    let unique = eight_bytes c.in-Cas.unique in
    let block = block_spelling c.in-Cas.bytes in
    let flags_put = spelled_so coded flagged c.to_be_bytes.result flags c.extend_reserved.ensures.items
    c.to_be_bytes.ensures in
    let unique_put = spelled_so flagged marked c.to_be_bytes-in-Cas.result unique
    c.extend_reserved-in-Cas.ensures.items c.to_be_bytes-in-Cas.ensures in
    let behind = then_more coded flagged done flags (unique ++ block) flags_put
    (then_more flagged marked done unique block unique_put c.put_block-in-Cas.ensures) in
    then_more old coded done (6 ∷ []) (flags ++ (unique ++ block)) c.put_code-in-Cas.ensures.text behind
    ∙ ap (λ op. old ++ op_spelling op) (sym c.in-Cas.is)
