-- A chain that begins with a reached table is one that moves lead to.
use Rattle.std.proofs.Common.{◌≡◌, ◌≢◌, ℕ, zero, suc, ◌+◌, ◌-◌, ◌*◌, ◌<◌, ◌≤◌, cond, List, [], ◌∷◌, ◌++◌, length, refl}
use Rattle.std.proofs.Common.{arith, ap, sym, ◌∙◌, subst, inl, inr, length-append, suc-mul, zero-mul}
use Rattle.std.specs.Prelude.{◌==◌, not, slice_index_or}
use Rattle.std.proofs.lemmas.Bool.{cases_eq, cases_lt, lt-ltb}
use mathlib.Core.Path.{fun_ext}
use Rattle.table.specs.Plain.{PlainTable, opening as empty_table, apply}
use Rattle.table.specs.declared.operations.Call.{Call}
use Rattle.node.specs.Servers.{most, opening}
use Rattle.interleavings.specs.Chains.{Seat, with_at, with_seat, opening_running, opening_seat, opening_chain}
use Rattle.interleavings.specs.Moves.{Move, Replies, Receives, moved_from, moved}
use Rattle.interleavings.specs.Asked.{AreAsked}
use Rattle.interleavings.specs.Restored.{table_after, AreAskedUpdates, IsReached, restored_running, restored_chain}
use Rattle.interleavings.specs.Restored.{replaying_seat, Restores}
use Rattle.interleavings.proofs.served.Along.{both_asked}
use Rattle.interleavings.proofs.lists.ChangedFunctions.{at_same, at_other, same_both}
use Rattle.interleavings.proofs.restored.Hops.{calm, running, hop}
use Rattle.interleavings.proofs.restored.Replays.{down, up, replay_of, replay, replayed, within, beyond}

-- ---- what the moves of a replay are

down_asked : (k n : ℕ) → AreAsked (down k n)
down_asked k zero = tt
down_asked k (suc n) = both_asked (hop k (suc k)) (down (suc k) n) (tt, (tt, (tt, (tt, tt)))) (down_asked (suc k) n)

up_asked : (k : ℕ) → AreAsked (up k)
up_asked zero = tt
up_asked (suc k) = both_asked (hop (suc k) k) (up k) (tt, (tt, (tt, (tt, tt)))) (up_asked k)

pub replay_asked : (n c : ℕ) (us : List Call) → AreAskedUpdates us → AreAsked (replay n c us)
replay_asked n c [] h = tt
replay_asked n c (u ∷ us) h =
    both_asked (replay_of n c u) (replay n c us) (
      h.0,
      (
        tt,
        (
          tt,
          both_asked (down 0 n) (up n ++ Replies 0 c ∷ Receives c ∷ []) (down_asked 0 n)
              (both_asked (up n) (Replies 0 c ∷ Receives c ∷ []) (up_asked n) (tt, (tt, tt))),
        ),
      ),
    )
    (replay_asked n c us h.2)

length-down : (k n : ℕ) → length (down k n) ≡ 4 * n
length-down k zero = refl
length-down k (suc n) = omega (arith, length-down (suc k) n)

length-up : (k : ℕ) → length (up k) ≡ 4 * k
length-up zero = refl
length-up (suc k) = omega (arith, length-up k)

length_one : (n c : ℕ) (u : Call) → length (replay_of n c u) ≡ 8 * suc n - 3
length_one n c u =
    omega (
      arith,
      length-append (down 0 n) (up n ++ Replies 0 c ∷ Receives c ∷ []),
      length-append (up n) (Replies 0 c ∷ Receives c ∷ []),
      length-down 0 n,
      length-up n,
    )

pub length-replay : (n c : ℕ) (us : List Call) → length (replay n c us) ≡ length us * (8 * suc n - 3)
length-replay n c [] = sym (zero-mul (8 * suc n - 3))
length-replay n c (u ∷ us) =
    let e = suc-mul (length us) (8 * suc n - 3) in
    omega (arith, length-append (replay_of n c u) (replay n c us), length_one n c u, length-replay n c us, e)

-- ---- how many numbers updates take

pub count_after : (us : List Call) (t : PlainTable)
    → AreAskedUpdates us
    → (table_after t us).count ≡ t.count + length us
count_after [] t h = omega arith
count_after (u ∷ us) t h =
    let next = (apply t u.target u.op).1 in
    let one : next.count ≡ t.count + 1 = ap (λ b. cond b (t.count + 1) t.count) h.1 in
    omega (arith, count_after us next h.2, one)

pub count_is : (t : PlainTable) (r : IsReached t) → t.count ≡ length r.updates
count_is t r =
    let e = count_after r.updates empty_table r.asked in
    let f = ap (λ (u : PlainTable). u.count) r.leave in
    omega (arith, e, f)

-- ---- the opening chain begins with the empty table

opened : (count : ℕ) → opening_running count ≡ restored_running count empty_table
opened count = fun_ext (λ i. elim (cases_lt i count) [
  | inl less ↦ ap (λ b. record (opening_running count i) { stopped = not b }) (lt-ltb i count less)
      ∙ ap (λ n. running (record (opening i count) { next_id = n }) []) (sym (same_both (i == 0) 1))
      ∙ sym (within count empty_table i less)
  | inr past ↦ sym (beyond count empty_table i past)
])

-- one more seat
seat_before : (homes : List ℕ) (d n : ℕ)
    → d ≢ length homes
    → slice_index_or (homes ++ 0 ∷ []) d n ≡ slice_index_or homes d n
seat_before [] zero n other = absurd (other refl)
seat_before [] (suc d) n other = refl
seat_before (home ∷ homes) zero n other = refl
seat_before (home ∷ homes) (suc d) n other = seat_before homes d n (λ e. other (ap suc e))

last_seat : (homes : List ℕ) (n : ℕ) → slice_index_or (homes ++ 0 ∷ []) (length homes) n ≡ 0
last_seat [] n = refl
last_seat (home ∷ homes) n = last_seat homes n

seats_but_one : (count : ℕ) (homes : List ℕ) (s : Seat)
    → with_at (opening_chain count (homes ++ 0 ∷ [])).seats (length homes) s
    ≡ with_at (opening_chain count homes).seats (length homes) s
seats_but_one count homes s = fun_ext (λ d. elim (cases_eq d (length homes)) [
  | inl same ↦ rw same (at_same (opening_chain count (homes ++ 0 ∷ [])).seats (length homes) s
      ∙ sym (at_same (opening_chain count homes).seats (length homes) s))
  | inr other ↦ at_other (opening_chain count (homes ++ 0 ∷ [])).seats (length homes) s d other
      ∙ ap opening_seat (seat_before homes d count other)
      ∙ sym (at_other (opening_chain count homes).seats (length homes) s d other)
])

-- ---- the law

-- some first updates of a replay leave their table
pub after_some : (n : ℕ) (homes : List ℕ) (us : List Call)
    → AreAskedUpdates us
    → length us < most
    → moved (suc n) (homes ++ 0 ∷ []) (replay n (length homes) us)
    ≡ with_seat (restored_chain (suc n) homes (table_after empty_table us)) (length homes) (replaying_seat us)
after_some n homes us asked few =
    let seats = (opening_chain (suc n) (homes ++ 0 ∷ [])).seats in
    ap (λ ss. moved_from (calm (suc n) ss seats) (replay n (length homes) us)) (opened (suc n))
    ∙ replayed n (length homes) us empty_table seats [] [] (ap opening_seat (last_seat homes (suc n))) refl asked
    (omega (arith, few))
    ∙ ap (calm (suc n) (restored_running (suc n) (table_after empty_table us)))
    (seats_but_one (suc n) homes (replaying_seat us))

restored_by : (n : ℕ) (homes : List ℕ) (t : PlainTable) (r : IsReached t)
    → t.count < most
    → Restores (suc n) homes t r.updates (replay n (length homes) r.updates)
restored_by n homes t r few = record {
  asked = replay_asked n (length homes) r.updates r.asked;
  many = length-replay n (length homes) r.updates;
  leaves = after_some n homes r.updates r.asked (subst (λ k. k < most) (count_is t r) few)
      ∙ ap (λ u. with_seat (restored_chain (suc n) homes u) (length homes) (replaying_seat r.updates)) r.leave;
}

-- for each count from 1 on
pub is_restored : (count : ℕ) (homes : List ℕ) (t : PlainTable) (r : IsReached t)
    → 1 ≤ count
    → t.count < most
    → (replay : List Move) × Restores count homes t r.updates replay
is_restored zero homes t r some few = absurd (omega (arith, some))
is_restored (suc n) homes t r some few = (replay n (length homes) r.updates, restored_by n homes t r few)
