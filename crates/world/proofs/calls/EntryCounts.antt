-- How many entries of an origin a log has.
use Rattle.std.proofs.Common.{◌≡◌, ◌≢◌, ℕ, suc, ◌+◌, Bool, true, false, cond, List, [], ◌∷◌, ◌++◌, refl, arith, ap, ◌∙◌}
use Rattle.std.specs.Prelude.{◌==◌}
use Rattle.std.proofs.lemmas.Bool.Decides.{nat_tests}
use Rattle.versions.specs.Entries.{LogEntry}
use Rattle.world.proofs.trace.Layers.{entries_of}

joined_step : (b : Bool) (n m k : ℕ) → n ≡ m + k → cond b (suc n) n ≡ cond b (suc m) m + k
joined_step true n m k e = omega (arith, e)
joined_step false n m k e = e

-- two joined logs have as many entries of an origin as both together
pub entries-joined : (o : ℕ) (es fs : List LogEntry) → entries_of o (es ++ fs) ≡ entries_of o es + entries_of o fs
unfolding entries_of
entries-joined o [] fs = omega arith
entries-joined o (e ∷ es) fs = joined_step (e.origin == o) _ _ _ (entries-joined o es fs)

-- a single entry is one of its own origin, and none of another
pub entries-one : (o : ℕ) (e : LogEntry) → entries_of o (e ∷ []) ≡ cond (e.origin == o) 1 0
unfolding entries_of
entries-one o e = refl

-- an empty log has no entry of any origin
pub entries-none : (o : ℕ) → entries_of o [] ≡ 0
unfolding entries_of
entries-none o = refl

-- one more of its own origin
pub entries-own : (es : List LogEntry) (e : LogEntry) → entries_of e.origin (es ++ e ∷ []) ≡ entries_of e.origin es + 1
entries-own es e =
    let same : (e.origin == e.origin) ≡ true = grind (arith, nat_tests) in
    entries-joined e.origin es (e ∷ []) ∙ ap (λ n. entries_of e.origin es + n) (entries-one e.origin e ∙ rw same refl)

-- none more of another
pub entries-other : (o : ℕ) (es : List LogEntry) (e : LogEntry)
    → e.origin ≢ o
    → entries_of o (es ++ e ∷ []) ≡ entries_of o es
entries-other o es e other =
    let apart : (e.origin == o) ≡ false = grind (arith, nat_tests) in
    let none : entries_of o (e ∷ []) ≡ 0 = entries-one o e ∙ rw apart refl in
    omega (arith, entries-joined o es (e ∷ []), none)
