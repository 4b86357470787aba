use Rattle.std.proofs.Common.{◌∙◌, ◌∷◌, ◌+◌, sym, ap, arith, take, drop, length-drop}
use Rattle.std.proofs.lemmas.List.{take_all}
use Rattle.proto.specs.Words.{fields_of}
use Rattle.proto.proofs.FieldLaws.{cut_at, cut_none}
use Rattle.proto.proofs.fields.first_field.Goals as goal

-- what stands before the first space is the first field, and the others are cut from what stands after it
pub returns-in-Some : goal.returns-in-Some
returns-in-Some c =
    let text = c.args.text.now in
    let rest = take_all _ (drop (c.in-Some.at + 1) text) (omega (arith, length-drop (c.in-Some.at + 1) text)) in
    cut_at text c.in-Some.at (sym c.in-Some.ensures.place) ∙ ap (λ t. take c.in-Some.at text ∷ fields_of t) (sym rest)

-- a text without space is one field
pub returns-in-None : goal.returns-in-None
returns-in-None c = cut_none c.args.text.now (sym c.in-None.ensures.place)
