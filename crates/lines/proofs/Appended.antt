-- What a writer holds after a text.
use Rattle.std.proofs.Common.{◌≡◌, ℕ, List, ◌++◌, Option, None, Some}
use Rattle.std.specs.Fmt.{AppendsText, WritesText}
use Rattle.std.proofs.lemmas.Fmt.{contents_after_writes}

-- if each piece of a text is appended, then so is the text, if it is known
pub appends_text : {W : Type 0} (took : W → List ℕ → W → Type 0) (contents : W → List ℕ)
    → ((w : W) (bytes : List ℕ) (v : W) → took w bytes v → contents v ≡ contents w ++ bytes)
    → (output : Option (List ℕ)) (w v : W)
    → WritesText took w output v
    → AppendsText (contents w) (contents v) output
appends_text took contents each None w v written = written
appends_text took contents each (Some bytes) w v written = contents_after_writes took contents each w bytes v written
