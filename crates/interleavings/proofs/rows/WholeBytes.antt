-- Whole requests leave the requests of what follows them, and so its turns.
use Rattle.std.proofs.Common.{◌≡◌, ℕ, Bool, true, false, cond, List, [], ◌∷◌, ◌++◌, drop, refl, ap, sym, ◌∙◌}
use Rattle.std.proofs.lemmas.Grind.{flat_map-append}
use Rattle.proto.specs.declared.requests.Request.{Request}
use Rattle.proto.specs.Fronts.{is_last}
use Rattle.proto.specs.Turns.{turns_of}
use Rattle.proto.specs.Streams.{requests, turns}
use Rattle.proto.proofs.RequestLaws.{requests_some, requests_more}
use Rattle.interleavings.specs.Rows.{AreWhole, NoBytes, OneMore}

goes_on : (b : Bool) (request : Request) (rs : List Request) → b ≡ false → request ∷ cond b [] rs ≡ request ∷ rs
goes_on true request rs e = absurd (let no : true ≡ false = e in cc)
goes_on false request rs e = refl

-- their requests come first
requests_joined : (bytes more : List ℕ) → AreWhole bytes → requests (bytes ++ more) ≡ requests bytes ++ requests more
requests_joined _ more NoBytes = refl
requests_joined _ more (OneMore bytes found e lasts whole) =
    let rest = drop found.1 bytes in
    requests_more bytes more found e
    ∙ goes_on (is_last found.0) found.0 (requests (rest ++ more)) lasts
    ∙ ap (λ rs. found.0 ∷ rs) (requests_joined rest more whole)
    ∙ ap (λ rs. rs ++ requests more)
    (sym (requests_some bytes found e ∙ goes_on (is_last found.0) found.0 (requests rest) lasts))

-- and so do their turns
pub turns_joined : (bytes more : List ℕ) → AreWhole bytes → turns (bytes ++ more) ≡ turns bytes ++ turns more
turns_joined bytes more whole =
    ap (Rattle.std.specs.List.flat_map turns_of) (requests_joined bytes more whole)
    ∙ flat_map-append turns_of (requests bytes) (requests more)
