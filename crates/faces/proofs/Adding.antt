-- The exchange that adds an input keeps the rule of the log.
use Rattle.std.proofs.Common.{◌≡◌, ℕ, ◌+◌, ◌<◌, ◌==◌, Bool, true, false, List, [], ◌∷◌, ◌++◌, length, drop, refl, ap}
use Rattle.std.proofs.Common.{sym, subst, arith, inl, length-append, append-nil, None}
use Rattle.std.proofs.lemmas.Bool.Decides.{nat_tests}
use mathlib.Core.List.{IsPrefix}
use prog.Atomic.{either}
use Rattle.logbook.specs.Pages.{Cell, cell, keeps, no_nib, step, Moves, Goes}
use Rattle.faces.specs.declared.logs.HistoryItem.{HistoryItem}
use Rattle.faces.specs.Logs.{IsBegun, IsCounted, Adds}
use Rattle.faces.proofs.Beginnings.{prefix_whole, begun_length, still_begun}

abbrev pub shown : List HistoryItem → List HistoryItem
shown log = []

abbrev pub moved : List HistoryItem → List HistoryItem → ℕ → Type 0
moved xs ys n = Unit {0}

pub adds_goes : (log v : List HistoryItem) (e : HistoryItem) (old : ℕ)
    → length (drop 1 v) ≡ old
    → IsBegun v
    → IsBegun log
    → IsPrefix v log
    → (b : Bool) → (length (drop 1 log) == old) ≡ b
    → Goes IsCounted shown moved 0 (v, (no_nib, None)) (λ n. either (n == old) (old + 1) n)
    (Adds (step 0 old (old + 1) e) (v, (no_nib, None))) ((length (drop 1 log), true) ∷ []) log
adds_goes log v e old len begun has pre true is =
    let here : length (drop 1 log) ≡ old = grind (arith, nat_tests) in
    let same : v ≡ log = prefix_whole v log pre (omega (arith, begun_length v begun, begun_length log has)) in
    let more = still_begun log (e ∷ []) has in
    let n : either (length (drop 1 log) == old) (old + 1) (length (drop 1 log)) ≡ length (drop 1 (log ++ e ∷ [])) =
    rw is (omega (arith, length-append log (e ∷ []), begun_length log has, begun_length (log ++ e ∷ []) more)) in (
      keeps,
      e ∷ [],
      None,
      tt,
      record { words = ap (λ (k : ℕ). (k, true) ∷ []) n; begun = more },
      inl (refl, refl),
      rw is (ap (λ w. w ++ e ∷ []) (sym same)),
    )
adds_goes log v e old len begun has pre false is =
    let all : log ++ [] ≡ log = append-nil log in
    let n : either (length (drop 1 log) == old) (old + 1) (length (drop 1 log)) ≡ length (drop 1 (log ++ [])) =
    rw is (ap (λ (l : List HistoryItem). length (drop 1 l)) (sym all)) in (
      keeps,
      [],
      None,
      tt,
      record { words = ap (λ (k : ℕ). (k, true) ∷ []) n; begun = still_begun log [] has },
      inl (refl, refl),
      rw is tt,
    )

-- whatever the book is, the exchange adds the item to all that was seen, or finds that the log is longer
pub adds_moves : (v : List HistoryItem) (e : HistoryItem) (old : ℕ) → length (drop 1 v) ≡ old → IsBegun v
    → Moves IsCounted shown moved 0 (v, (no_nib, None)) (λ n. either (n == old) (old + 1) n)
    (Adds (step 0 old (old + 1) e) (v, (no_nib, None)))
adds_moves v e old len begun cs log kept pre away =
    let P : List Cell → Type 0 = λ c. (0 < length c) × ((cell c 0).1 ≡ true)
    × Goes IsCounted shown moved 0 (v, (no_nib, None)) (λ n. either (n == old) (old + 1) n)
    (Adds (step 0 old (old + 1) e) (v, (no_nib, None))) c log in
    subst P (sym kept.words)
    (omega arith, refl, adds_goes log v e old len begun kept.begun pre (length (drop 1 log) == old) refl)
