-- Beside a leased run, in which all that servers put out was made up before they were called gone: the run in which
-- each stops when it is called gone.
use Rattle.std.proofs.Common.{◌≡◌, ℕ, zero, suc, ◌≤◌, Bool, true, false, cond, List, [], ◌∷◌, ◌++◌, length, take}
use Rattle.std.proofs.Common.{refl, arith, ap, sym, ◌∙◌, subst, length-append, append_assoc, inl, inr}
use Rattle.std.specs.Prelude.{nat_lt}
use Rattle.std.proofs.lemmas.Bool.{both_ways, and_parts, cases_eq, ltb-true}
use Rattle.interleavings.specs.Chains.{Seat, Chain, with_at, opening_chain}
use Rattle.interleavings.specs.Moves.{Move, Stops, moved_from, moved}
use Rattle.interleavings.specs.Asked.{AreAsked}
use Rattle.interleavings.specs.Quiet.{goes_on}
use Rattle.interleavings.specs.LeasedMoves.{LeasedChain, LeasedMove, Does, Calls, Writes, may_be_called, leased_by}
use Rattle.interleavings.specs.LeasedMoves.{opening_leased, leased_from, leased, IsAskedByLeased, AreAskedLeased}
use Rattle.interleavings.specs.LeasedMoves.{home_of, put_for}
use Rattle.interleavings.specs.LeasedOrders.{IsLeased, mover, kept, kept_from, as_stopped, IsBegunBy, IsSeenAs}
use Rattle.interleavings.proofs.lists.ChangedFunctions.{at_same, at_other}
use Rattle.interleavings.proofs.lists.TwoParts.{moved_from-append}
use Rattle.interleavings.proofs.leased.SeatGrowth.{seat_same}
use Rattle.interleavings.proofs.leased.HomePorts.{at_home, Owns}
use Rattle.interleavings.proofs.leased.LaterChains.{Later, later_by, later_from, later_at}
use Rattle.interleavings.proofs.leased.Beside.{Beside}
use Rattle.interleavings.proofs.leased.BesideMoves.{one_does, both_do, calls_gone}

-- a seat has no fewer replies later
got_longer : (s t : LeasedChain) (c : ℕ)
    → Later s t
    → length (s.chain.seats c).got ≤ length (t.chain.seats c).got
got_longer s t c later =
    let g = (later.seats c).got in
    let n : length (t.chain.seats c).got ≡ length ((s.chain.seats c).got ++ g.more) = ap (λ us. length us) g.all in
    let m = length-append (s.chain.seats c).got g.more in
    omega (arith, n, m)

module _ (home : ℕ → ℕ) (most_arrived : ℕ → ℕ → ℕ) (most_got : ℕ → ℕ) where
  abbrev S : LeasedChain → Chain → Type 0
  S s d = Beside home most_arrived most_got s.called s.arrived s.chain d

  abbrev after : LeasedChain → ℕ → List LeasedMove → LeasedChain
  after s k ms = leased_from s (take k ms)

  -- What is still to come of a run: of each server that wasn't called gone there is a moment before it is, at which it
  -- has made up all that is to be seen of it.
  pub record Timely (s : LeasedChain) (ms : List LeasedMove) : Type 0 where
    pub replies : (c : ℕ)
        → s.called (home c) ≡ false
        → (k : ℕ) × ((after s k ms).called (home c) ≡ false)
        × (most_got c ≤ length ((after s k ms).chain.seats c).got)
    pub messages : (i j : ℕ)
        → s.called i ≡ false
        → (k : ℕ) × ((after s k ms).called i ≡ false) × (most_arrived i j ≤ put_for (after s k ms) i j)
    pub arrived : (i j : ℕ) → (leased_from s ms).arrived i j ≤ most_arrived i j

  -- who isn't called gone later wasn't before
  not_before : (s t : LeasedChain) (i : ℕ) → Later s t → t.called i ≡ false → s.called i ≡ false
  not_before s t i later going = by (s.called i) refl
    where
      by : (b : Bool) → s.called i ≡ b → s.called i ≡ false
      by true is = absurd (both_ways (t.called i) going (later.called i is))
      by false is = is

  module _ (s : LeasedChain) (m : LeasedMove) (ms : List LeasedMove) (t : Timely s (m ∷ ms)) where
    next_replies : (c : ℕ)
        → (leased_by s m).called (home c) ≡ false
        → (k : ℕ)
        → (after s k (m ∷ ms)).called (home c) ≡ false
        → most_got c ≤ length ((after s k (m ∷ ms)).chain.seats c).got
        → (k : ℕ) × ((after (leased_by s m) k ms).called (home c) ≡ false)
        × (most_got c ≤ length ((after (leased_by s m) k ms).chain.seats c).got)
    next_replies c going zero e most =
        let g = got_longer s (leased_by s m) c (later_by s m) in
        (0, going, omega (arith, g, most))
    next_replies c going (suc k) e most = (k, e, most)

    next_messages : (i j : ℕ)
        → (leased_by s m).called i ≡ false
        → (k : ℕ)
        → (after s k (m ∷ ms)).called i ≡ false
        → most_arrived i j ≤ put_for (after s k (m ∷ ms)) i j
        → (k : ℕ) × ((after (leased_by s m) k ms).called i ≡ false)
        × (most_arrived i j ≤ put_for (after (leased_by s m) k ms) i j)
    next_messages i j going zero e most =
        let g = (later_by s m).put i j in
        (0, going, omega (arith, g, most))
    next_messages i j going (suc k) e most = (k, e, most)

    timely_next : Timely (leased_by s m) ms
    timely_next = record {
      replies = λ c going.
          let it = t.replies c (not_before s (leased_by s m) (home c) (later_by s m) going) in
          next_replies c going it.0 it.1 it.2;
      messages = λ i j going.
          let it = t.messages i j (not_before s (leased_by s m) i (later_by s m) going) in
          next_messages i j going it.0 it.1 it.2;
      arrived = t.arrived;
    }

    -- when a server is called gone, all that is to be seen of it was made up
    now_replies : (c : ℕ)
        → (leased_by s m).called (home c) ≡ true
        → (k : ℕ)
        → (after s k (m ∷ ms)).called (home c) ≡ false
        → most_got c ≤ length ((after s k (m ∷ ms)).chain.seats c).got
        → most_got c ≤ length (s.chain.seats c).got
    now_replies c gone zero e most = most
    now_replies c gone (suc k) e most =
        absurd (both_ways _ e ((later_from (take k ms) (leased_by s m)).called (home c) gone))

    now_messages : (i j : ℕ)
        → (leased_by s m).called i ≡ true
        → (k : ℕ)
        → (after s k (m ∷ ms)).called i ≡ false
        → most_arrived i j ≤ put_for (after s k (m ∷ ms)) i j
        → most_arrived i j ≤ put_for s i j
    now_messages i j gone zero e most = most
    now_messages i j gone (suc k) e most =
        absurd (both_ways _ e ((later_from (take k ms) (leased_by s m)).called i gone))

    within : (i j : ℕ) → (leased_by s m).arrived i j ≤ most_arrived i j
    within i j =
        let a = (later_from ms (leased_by s m)).arrived i j in
        let b = t.arrived i j in
        omega (arith, a, b)

  -- ---- one move

  does_step : (s : LeasedChain) (d : Chain) (m : Move) (ms : List LeasedMove)
      → S s d
      → Timely s (Does m ∷ ms)
      → S (leased_by s (Does m)) (moved_from d (kept home s (Does m)))
  does_step s d m ms h t = by (s.called (mover home m)) refl
    where
      by : (b : Bool)
          → s.called (mover home m) ≡ b
          → S (leased_by s (Does m)) (moved_from d (cond b [] (m ∷ [])))
      by true is = one_does home most_arrived most_got s.called s.arrived s.chain d h m is
      by false is = both_do home most_arrived most_got s.called s.arrived s.chain d h m is (within s (Does m) ms t)

  calls_step : (s : LeasedChain) (d : Chain) (i : ℕ) (ms : List LeasedMove)
      → S s d
      → Timely s (Calls i ∷ ms)
      → S (leased_by s (Calls i)) (moved_from d (kept home s (Calls i)))
  calls_step s d i ms h t = by (may_be_called s i) refl
    where
      gone_then : may_be_called s i ≡ true → (leased_by s (Calls i)).called i ≡ true
      gone_then is =
          ap (λ b. (cond b (record s { called = with_at s.called i true }) s).called i) is
          ∙ at_same s.called i true

      by : (b : Bool)
          → may_be_called s i ≡ b
          → S (cond b (record s { called = with_at s.called i true }) s) (moved_from d (cond b (Stops i ∷ []) []))
      by true is =
          let there = and_parts (nat_lt i s.chain.count) _ (and_parts (goes_on s.chain i) _ is).0 in
          calls_gone home most_arrived most_got s.called s.arrived s.chain d h i there.0
          (λ c same going.
          let it = t.replies c (ap s.called same ∙ going) in
          now_replies s (Calls i) ms t c (ap (leased_by s (Calls i)).called same ∙ gone_then is) it.0 it.1 it.2)
          (λ j going.
          let it = t.messages i j going in
          now_messages s (Calls i) ms t i j (gone_then is) it.0 it.1 it.2)
      by false is = h

  writes_step : (s : LeasedChain) (d : Chain) (c : ℕ)
      → S s d
      → S (leased_by s (Writes c)) (moved_from d (kept home s (Writes c)))
  writes_step s d c h = by (nat_lt (s.written c) (length (s.chain.seats c).got))
    where
      by : (b : Bool) → S (cond b (record s { written = with_at s.written c (suc (s.written c)) }) s) d
      by true = h
      by false = h

  step : (s : LeasedChain) (d : Chain) (m : LeasedMove) (ms : List LeasedMove)
      → S s d
      → Timely s (m ∷ ms)
      → S (leased_by s m) (moved_from d (kept home s m))
  step s d (Does m) ms h t = does_step s d m ms h t
  step s d (Calls i) ms h t = calls_step s d i ms h t
  step s d (Writes c) ms h t = writes_step s d c h

  -- ---- a run

  pub beside_along : (k : ℕ) (ms : List LeasedMove) (s : LeasedChain) (d : Chain)
      → S s d
      → Timely s ms
      → S (after s k ms) (moved_from d (kept_from home s (take k ms)))
  beside_along zero ms s d h t = h
  beside_along (suc k) [] s d h t = h
  beside_along (suc k) (m ∷ ms) s d h t =
      let next = leased_by s m in
      subst (S (after next k ms)) (sym (moved_from-append d (kept home s m) (kept_from home next (take k ms))))
      (beside_along k ms next (moved_from d (kept home s m)) (step s d m ms h t) (timely_next s m ms t))

-- ---- from the start on

-- no server of an opening chain has a call or a reply
pub opening_owns : (home : ℕ → ℕ) (count : ℕ) (homes : List ℕ) (i : ℕ)
    → Owns (at_home home i) ((opening_chain count homes).servers i)
opening_owns home count homes i = record { node = refl; inbox = tt; unpublished = tt; outbox = tt }

-- no client is written more replies than its seat has
pub written_along : (ms : List LeasedMove) (s : LeasedChain)
    → ((c : ℕ) → s.written c ≤ length (s.chain.seats c).got)
    → (c : ℕ)
    → (leased_from s ms).written c ≤ length ((leased_from s ms).chain.seats c).got
written_along [] s h c = h c
written_along (m ∷ ms) s h c = written_along ms (leased_by s m) (one m) c
  where
    one : (m : LeasedMove) (c : ℕ) → (leased_by s m).written c ≤ length ((leased_by s m).chain.seats c).got
    one (Does m) c =
        let g = got_longer s (leased_by s (Does m)) c (later_by s (Does m)) in
        let w = h c in
        omega (arith, g, w)
    one (Calls i) c = by (may_be_called s i)
      where
        by : (b : Bool)
            → (cond b (record s { called = with_at s.called i true }) s).written c
            ≤ length ((cond b (record s { called = with_at s.called i true }) s).chain.seats c).got
        by true = h c
        by false = h c
    one (Writes d) c = by (nat_lt (s.written d) (length (s.chain.seats d).got)) refl
      where
        by : (b : Bool)
            → nat_lt (s.written d) (length (s.chain.seats d).got) ≡ b
            → (cond b (record s { written = with_at s.written d (suc (s.written d)) }) s).written c
            ≤ length ((cond b (record s { written = with_at s.written d (suc (s.written d)) }) s).chain.seats c).got
        by true is = elim (cases_eq c d) [
          | inl same ↦ rw same (
              let a = at_same s.written d (suc (s.written d)) in
              let l = ltb-true (s.written d) (length (s.chain.seats d).got) is in
              omega (arith, a, l))
          | inr other ↦
              let a = at_other s.written d (suc (s.written d)) c other in
              let w = h c in
              omega (arith, a, w)
        ]
        by false is = h c

module _ (count : ℕ) (homes : List ℕ) (moves : List LeasedMove) (leases : IsLeased count homes moves) where
  -- how many messages may arrive, and how many replies are to be written
  abbrev pub most_arrived : ℕ → ℕ → ℕ
  most_arrived i j =
      put_for (leased count homes (take (leases.messages i j).0 moves)) i j

  abbrev pub most_got : ℕ → ℕ
  most_got c =
      length ((leased count homes (take (leases.replies c).0 moves)).chain.seats c).got

  opening_beside : Beside (home_of count homes) most_arrived most_got (λ i. false) (λ i j. 0)
      (opening_chain count homes) (opening_chain count homes)
  opening_beside = record {
    count = refl;
    of_chain = λ i gone. absurd cc;
    servers = record {
      same = λ i going. refl;
      stopped = λ i gone. absurd cc;
      own = opening_owns (home_of count homes) count homes;
    };
    seats = record {
      sits = λ c. refl;
      same = λ c going. refl;
      grown = λ c. seat_same ((opening_chain count homes).seats c);
      room = λ c gone. absurd cc;
    };
    channels = record {
      longer = λ i j to. record { late = []; all = refl; none = λ e. refl };
      room = λ i j to gone. absurd cc;
    };
  }

  timely : Timely (home_of count homes) most_arrived most_got (opening_leased count homes) moves
  timely = record {
    replies = λ c going. ((leases.replies c).0, (leases.replies c).1, omega arith);
    messages = λ i j going. ((leases.messages i j).0, (leases.messages i j).1, omega arith);
    arrived = λ i j. (leases.messages i j).2;
  }

  -- after some first k moves
  pub beside_at : (k : ℕ)
      → Beside (home_of count homes) most_arrived most_got (leased count homes (take k moves)).called
      (leased count homes (take k moves)).arrived (leased count homes (take k moves)).chain
      (moved count homes (as_stopped count homes (take k moves)))
  beside_at k =
      beside_along (home_of count homes) most_arrived most_got k moves (opening_leased count homes)
      (opening_chain count homes) opening_beside timely

  -- each client was written replies that its seat has in both
  pub written_at : (k c : ℕ)
      → (leased count homes (take k moves)).written c
      ≤ length ((moved count homes (as_stopped count homes (take k moves))).seats c).got
  written_at k c = by ((leased count homes (take k moves)).called (home_of count homes c)) refl
    where
      by : (b : Bool)
          → (leased count homes (take k moves)).called (home_of count homes c) ≡ b
          → (leased count homes (take k moves)).written c
          ≤ length ((moved count homes (as_stopped count homes (take k moves))).seats c).got
      by true is =
          let r = (beside_at k).seats.room c is in
          let a = (later_at k moves (opening_leased count homes)).written c in
          let e = (leases.replies c).2 in
          omega (arith, r, a, e)
      by false is =
          subst (λ (u : Seat). (leased count homes (take k moves)).written c ≤ length u.got)
          (sym ((beside_at k).seats.same c is))
          (written_along (take k moves) (opening_leased count homes) (λ x. omega arith) c)

  -- so what is seen of the chain is what that run leaves
  pub seen_at : (k : ℕ)
      → IsSeenAs (leased count homes (take k moves)) (moved count homes (as_stopped count homes (take k moves)))
  seen_at k =
      let b = beside_at k in
      record {
        servers = b.servers.same;
        stopped = b.servers.stopped;
        seats = λ c going.
            b.seats.same c (ap (leased count homes (take k moves)).called (sym (b.seats.sits c)) ∙ going);
        calls = λ c. (b.seats.grown c).calls;
        got = λ c. (b.seats.grown c).got;
        written = written_at k;
      }

-- ---- its calls

both_asked : (ms ns : List Move) → AreAsked ms → AreAsked ns → AreAsked (ms ++ ns)
both_asked [] ns a b = b
both_asked (m ∷ ms) ns a b = (a.0, both_asked ms ns a.1 b)

kept_asked : (home : ℕ → ℕ) (s : LeasedChain) (m : LeasedMove) → IsAskedByLeased m → AreAsked (kept home s m)
kept_asked home s (Does m) a = by (s.called (mover home m))
  where
    by : (b : Bool) → AreAsked (cond b [] (m ∷ []))
    by true = tt
    by false = (a, tt)
kept_asked home s (Calls i) a = by (may_be_called s i)
  where
    by : (b : Bool) → AreAsked (cond b (Stops i ∷ []) [])
    by true = (tt, tt)
    by false = tt
kept_asked home s (Writes c) a = tt

-- clients can ask them
pub asked_still : (home : ℕ → ℕ) (ms : List LeasedMove) (s : LeasedChain)
    → AreAskedLeased ms
    → AreAsked (kept_from home s ms)
asked_still home [] s a = tt
asked_still home (m ∷ ms) s a =
    both_asked (kept home s m) (kept_from home (leased_by s m) ms) (kept_asked home s m a.0)
    (asked_still home ms (leased_by s m) a.1)

-- ---- of a beginning

-- what is left of some first moves begins what is left of all
pub kept_begins : (home : ℕ → ℕ) (k : ℕ) (ms : List LeasedMove) (s : LeasedChain)
    → IsBegunBy (kept_from home s ms) (kept_from home s (take k ms))
kept_begins home zero ms s = record { more = kept_from home s ms; all = refl }
kept_begins home (suc k) [] s = record { more = []; all = refl }
kept_begins home (suc k) (m ∷ ms) s =
    let b = kept_begins home k ms (leased_by s m) in
    record {
      more = b.more;
      all = ap (λ us. kept home s m ++ us) b.all
          ∙ sym (append_assoc (kept home s m) (kept_from home (leased_by s m) (take k ms)) b.more);
    }
