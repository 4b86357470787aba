-- A session without unread bytes waits for more.
use Rattle.std.proofs.Common.{◌≡◌, ℕ, List, [], ◌∷◌, length, true, false, refl, sym, ap, ◌∙◌, arith}
use Rattle.std.proofs.lemmas.Bool.Decides.{nat_tests}
use Rattle.std.specs.Prelude.{◌==◌, if◌then◌else◌}
use Rattle.proto.specs.declared.front.Found.TheVariants.{Nothing}
use Rattle.proto.specs.declared.sessions.Step.TheVariants.{Wait, Close}
use Rattle.proto.specs.Words.{line_limit}
use Rattle.proto.specs.Fronts.{found_at}
use Rattle.proto.specs.Sessions.{Held, by_found, step_of}

nothing_found : (bytes : List ℕ)
    → (length bytes == 0) ≡ true
    → found_at bytes ≡ Nothing
unfolding line_limit
nothing_found [] is = refl
nothing_found (b ∷ bytes) is = absurd (grind (arith, nat_tests, is))

-- it shows as a wait
pub waits : (h : Held)
    → (length h.unread == 0) ≡ true
    → h.closed ≡ false
    → Wait ≡ step_of (by_found (found_at h.unread) h)
waits h is unclosed =
    sym (ap (λ closed. if closed then Close else Wait) unclosed)
    ∙ ap (λ found. step_of (by_found found h)) (sym (nothing_found h.unread is))

-- it stays as it was
pub stays : (h : Held)
    → (length h.unread == 0) ≡ true
    → h ≡ (by_found (found_at h.unread) h).1
stays h is = ap (λ found. (by_found found h).1) (sym (nothing_found h.unread is))
