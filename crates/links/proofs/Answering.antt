-- What was written of an answer.
use Rattle.std.proofs.Common.{◌≡◌, ◌∙◌, sym, refl, List, ℕ, [], ◌++◌, append-nil}
use Rattle.ends.specs.Ends.{WritesBeginning}

-- nothing is a beginning of any bytes
pub nothing_begun : (before after bytes : List ℕ) → after ≡ before → WritesBeginning before after bytes
nothing_begun before after bytes same = ([], bytes, refl, same ∙ sym (append-nil before))

-- all of them are one too
pub whole_begun : (before after bytes : List ℕ) → after ≡ before ++ bytes → WritesBeginning before after bytes
whole_begun before after bytes written = (bytes, [], sym (append-nil bytes), written)
