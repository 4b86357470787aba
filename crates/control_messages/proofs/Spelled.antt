-- The bytes of numbers, and numbers that eight bytes can spell.
use Rattle.std.proofs.Common.{◌≡◌, ℕ, suc, ◌<◌, ◌^◌, List, [], ◌∷◌, ◌++◌, get_or, refl, ap, subst, ◌∙◌}
use Rattle.std.proofs.Common.{append_assoc}
use Rattle.std.proofs.lemmas.Grind.{flat_map-append}
use Rattle.std.proofs.lemmas.List.{append-nil}
use Rattle.control_messages.specs.declared.messages.ControlMessage.{ControlMessage}
use Rattle.control_messages.specs.Spellings.{AreNumbers, HasWidths, Spells, eight_bytes, numbers_of, spelled}

pub spelled_none : spelled [] ≡ []
unfolding spelled
spelled_none = refl

pub spelled_one : (n : ℕ) → spelled (n ∷ []) ≡ eight_bytes n
unfolding spelled
spelled_one n = append-nil (eight_bytes n)

pub spelled_both : (front back : List ℕ) → spelled (front ++ back) ≡ spelled front ++ spelled back
unfolding spelled
spelled_both front back = flat_map-append eight_bytes front back

-- numbers, others, and the bytes after them
pub regrouped : (front back rest : List ℕ)
    → spelled (front ++ back) ++ rest ≡ spelled front ++ (spelled back ++ rest)
regrouped front back rest =
    ap (λ (bytes : List ℕ). bytes ++ rest) (spelled_both front back)
    ∙ append_assoc (spelled front) (spelled back) rest

-- ---- numbers

pub AreNumbers-both : (front back : List ℕ) → AreNumbers front → AreNumbers back → AreNumbers (front ++ back)
AreNumbers-both [] back a b = b
AreNumbers-both (n ∷ front) back a b = (a.0, AreNumbers-both front back a.1 b)

pub AreNumbers-front : (front back : List ℕ) → AreNumbers (front ++ back) → AreNumbers front
AreNumbers-front [] back h = tt
AreNumbers-front (n ∷ front) back h = (h.0, AreNumbers-front front back h.1)

pub AreNumbers-back : (front back : List ℕ) → AreNumbers (front ++ back) → AreNumbers back
AreNumbers-back [] back h = h
AreNumbers-back (n ∷ front) back h = AreNumbers-back front back h.1

-- numbers that fit, each by its place
pub AreNumbers-each : (numbers : List ℕ) → ((i : ℕ) → get_or numbers i 0 < 2 ^ 64) → AreNumbers numbers
AreNumbers-each [] h = tt
AreNumbers-each (n ∷ numbers) h = (h 0, AreNumbers-each numbers (λ i. h (suc i)))

-- a message whose numbers fit is spelled by their bytes
pub is_spelled : (m : ControlMessage) (numbers bytes : List ℕ)
    → HasWidths m
    → AreNumbers numbers
    → numbers ≡ numbers_of m
    → bytes ≡ spelled numbers
    → Spells m bytes
is_spelled m numbers bytes widths fit are same = record {
  message = record { numbers = subst AreNumbers are fit; widths = widths };
  same = same ∙ ap spelled are;
}
