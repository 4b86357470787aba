use Rattle.std.proofs.Common.{◌%◌, ◌-◌, ap, sym, ◌∙◌, bit_and}
use Rattle.std.proofs.lemmas.Nat.{and_mask}
use Rattle.hash_index.proofs.places.rest_of.Goals as goal

-- a mask of ones takes the rest by a power of two
pub returns : goal.returns
returns c =
    ap (λ p. bit_and c.args.number (p - 1)) c.requires.1 ∙ and_mask c.args.number c.requires.0
    ∙ ap (λ p. c.args.number % p) (sym c.requires.1)
