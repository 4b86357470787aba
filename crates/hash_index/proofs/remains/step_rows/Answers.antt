use Rattle.std.proofs.Common.{◌≡◌, ap, sym, ◌∙◌, length, false, nat_eq}
use Rattle.std.proofs.lemmas.Bool.{both_ways, eq-eqb}
use Rattle.hash_index.proofs.IndexLaws.{step_less}
use Rattle.hash_index.proofs.remains.step_rows.Goals as goal

-- an entry less
pub returns-clause-less : goal.returns-clause-less
returns-clause-less g c =
    let filled : nat_eq (length c.get.result.now) 0 ≡ false =
    sym (c.is_empty.ensures ∙ ap (λ xs. nat_eq (length xs) 0) c.as_slice.ensures) ∙ c.if-is_empty.false in
    step_less c.args.rows.now c.swap-bucket.new.self c.swap.new.self c.len-count.result c.swap-bucket.result
    c.get.result.now c.new.result c.pop-2.new.self c.len-count.ensures.len c.if-count-eq0.false
    c.swap-bucket.ensures.old
    c.get.ensures (λ z. both_ways (nat_eq (length c.get.result.now) 0) filled (eq-eqb (length c.get.result.now) 0 z))
    c.swap-bucket.ensures.new c.pop-2.ensures c.swap.ensures.new
