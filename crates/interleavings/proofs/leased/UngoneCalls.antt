-- No call at a server that wasn't called gone is forgotten.
use Rattle.std.proofs.Common.{◌≡◌, ℕ, ◌<◌, ◌≤◌, ◌^◌, Bool, true, false, cond, List, [], ◌∷◌, length}
use Rattle.std.proofs.Common.{arith, ap, sym, ◌∙◌, subst, length-append}
use Rattle.std.specs.Prelude.{nat_lt, not, ◌&&◌, IsSome, slice_get}
use Rattle.std.proofs.lemmas.List.{take_all}
use Rattle.interleavings.specs.Chains.{RunningServer, Seat, Chain}
use Rattle.interleavings.specs.Moves.{Move, Stops, moved}
use Rattle.interleavings.specs.Quiet.{goes_on, IsQuiet}
use Rattle.interleavings.specs.LeasedMoves.{LeasedChain, LeasedMove, Does, Calls, Writes, may_be_called, leased_by}
use Rattle.interleavings.specs.LeasedMoves.{opening_leased, leased, AreAskedLeased, home_of}
use Rattle.interleavings.specs.LeasedOrders.{IsLeased, mover, kept, kept_from, as_stopped, NoneForgottenUngone}
use Rattle.interleavings.proofs.quiet.Answering.{none_forgotten}
use Rattle.interleavings.proofs.leased.Beside.{Beside}
use Rattle.interleavings.proofs.leased.StoppedRuns.{most_arrived, most_got, beside_at, asked_still}

-- what is left of moves are no more
kept_one : (home : ℕ → ℕ) (s : LeasedChain) (m : LeasedMove) → length (kept home s m) ≤ 1
kept_one home s (Does m) = by (s.called (mover home m))
  where
    by : (b : Bool) → length (cond b [] (m ∷ [])) ≤ 1
    by true = omega arith
    by false = omega arith
kept_one home s (Calls i) = by (may_be_called s i)
  where
    by : (b : Bool) → length (cond b (Stops i ∷ []) []) ≤ 1
    by true = omega arith
    by false = omega arith
kept_one home s (Writes c) = omega arith

kept_short : (home : ℕ → ℕ) (ms : List LeasedMove) (s : LeasedChain) → length (kept_from home s ms) ≤ length ms
kept_short home [] s = omega arith
kept_short home (m ∷ ms) s =
    let n = length-append (kept home s m) (kept_from home (leased_by s m) ms) in
    let a = kept_one home s m in
    let b = kept_short home ms (leased_by s m) in
    omega (arith, n, a, b)

fewer : (a b c : ℕ) → a ≤ b → b < c → a < c
fewer a b c l k = omega (arith, l, k)

module _ (count : ℕ) (homes : List ℕ) (moves : List LeasedMove) (leases : IsLeased count homes moves) where
  abbrev stops : List Move
  stops = as_stopped count homes moves

  abbrev d : Chain
  d = moved count homes stops

  abbrev s : LeasedChain
  s = leased count homes moves

  beside : Beside (home_of count homes) (most_arrived count homes moves leases) (most_got count homes moves leases)
      s.called s.arrived s.chain d
  beside = subst
      (λ ms. Beside (home_of count homes) (most_arrived count homes moves leases) (most_got count homes moves leases)
      (leased count homes ms).called (leased count homes ms).arrived (leased count homes ms).chain
      (moved count homes (as_stopped count homes ms))) (take_all (length moves) moves (omega arith))
      (beside_at count homes moves leases (length moves))

  pub none_forgotten_ungone : count ≤ 16
      → length moves < 2 ^ 62
      → AreAskedLeased moves
      → IsQuiet d
      → NoneForgottenUngone s
  none_forgotten_ungone few short asked quiet x ungone going begun =
      let c = x.connection in
      let at_home = ap s.called (sym (beside.seats.sits c)) ∙ ungone in
      let seat : d.seats c ≡ s.chain.seats c =
      beside.seats.same c (ap s.called (sym (beside.seats.sits c)) ∙ ungone) in
      let server : d.servers (s.chain.seats c).home ≡ s.chain.servers (s.chain.seats c).home =
      beside.servers.same (s.chain.seats c).home ungone in
      let on : goes_on d (d.seats c).home ≡ true =
      ap (λ (u : Seat). goes_on d u.home) seat
      ∙ ap (λ n. nat_lt (s.chain.seats c).home n && not (d.servers (s.chain.seats c).home).stopped) beside.count
      ∙ ap (λ (v : RunningServer). nat_lt (s.chain.seats c).home s.chain.count && not v.stopped) server
      ∙ going in
      subst (λ (u : Seat). IsSome (slice_get u.got x.ordinal)) seat
      (none_forgotten count homes stops few
      (fewer (length stops) (length moves) (2 ^ 62)
      (kept_short (home_of count homes) moves (opening_leased count homes)) short)
      (asked_still (home_of count homes) moves (opening_leased count homes) asked) quiet x on
      (subst (λ (u : Seat). IsSome (slice_get u.calls x.ordinal)) (sym seat) begun))
