use Rattle.std.proofs.Common.{◌∙◌, ◌≡◌, ◌+◌, ◌∷◌, ap, sym, subst, refl, take}
use Rattle.std.specs.Prelude.{min, Option, None, Some, IfSome, IsSome}
use Rattle.table.specs.Keys.{IsKey}
use Rattle.proto.specs.Keys.{keys_in}
use Rattle.proto.specs.Words.{first_end}
use Rattle.proto.proofs.FieldLaws.{Popped, popped_key, no_key_left}
use Rattle.proto.proofs.requests.pop_key.Goals as goal

found_none : {X : Type 0} (o : Option X) → o ≡ None → IsSome o → ⊥
found_none None none some = cc
found_none (Some x) none some = cc

-- if no key stands at the front, none is left
pub returns-in_default-clause-ok : goal.returns-in_default-clause-ok
returns-in_default-clause-ok c =
    let none = no_key_left c.args.text.now c.first_end-at.result c.requires.keys
    (c.first_end-at.ensures ∙ ap first_end c.as_slice.ensures)
    (λ is. found_none c.in_ok-key.field-0 c.in_default.is (c.in_ok-key.ensures.valid.1
    (subst (λ text. IsKey (take c.first_end-at.result text)) (sym c.as_slice-2.ensures) is))) in
    (none, none)

first : (c : goal.After-pass) → Popped c.args.text.now c.in-Some.key c.pass.new.text
first c =
    let past = c.min.ensures ∙ ap (λ n. min n (c.first_end-at.result + 1)) c.len.ensures.value in
    let cut = ap (take c.first_end-at.result) c.as_slice-2.ensures in
    let bytes = subst (λ o. IfSome o (λ key. key ≡ take c.first_end-at.result c.as_slice-2.result.now)) c.in-Some.is
    c.in_ok-key.ensures.bytes in
    let is_key = c.in_ok-key.ensures.valid.0 (subst IsSome (sym c.in-Some.is) refl) in
    popped_key c.args.text.now c.in-Some.key c.pass.new.text c.first_end-at.result c.min.result
    c.requires.keys (c.first_end-at.ensures ∙ ap first_end c.as_slice.ensures) past
    (bytes ∙ cut) c.pass.ensures (subst IsKey (sym bytes) is_key)

-- the fields that are left are keys
pub returns-clause-keys : goal.returns-clause-keys
returns-clause-keys c = (first c).keys

-- the key that is taken off was the first, and the others are left
pub returns-clause-ok : goal.returns-clause-ok
returns-clause-ok c = (sym c.in-Ok.ensures.cases, (first c).first)
