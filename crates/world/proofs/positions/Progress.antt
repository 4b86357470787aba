-- A connection at its position has passed, has open and has still to give the turns of its stream; and a `begin` after
-- which no call is open leaves none of them.
use Rattle.std.proofs.Common.{◌≡◌, ℕ, zero, suc, ◌<◌, Bool, cond, true, false, List, [], ◌∷◌, ◌++◌, length, None, Some}
use Rattle.std.proofs.Common.{refl, sym, ap, subst, ◌∙◌, arith, append-nil, length-append, inl, inr}
use Rattle.std.specs.Prelude.{slice_get}
use Rattle.table.specs.declared.operations.Call.{Call}
use Rattle.proto.specs.declared.requests.Fault.{Fault}
use Rattle.proto.specs.declared.texts.Form.{Form}
use Rattle.proto.specs.Turns.{Faulty, Calls}
use Rattle.proto.specs.Sessions.{Held, Given, fed, next_of}
use Rattle.proto.specs.Streams.{turns, ends, to_come, will_close, most_faults, GivesFirst, KeepsEnd}
use Rattle.proto.proofs.StreamLaws.{fed_none}
use Rattle.world.specs.declared.events.Event.{Event}
use Rattle.world.specs.declared.events.Event.TheVariants.{Begin}
use Rattle.world.specs.declared.connections.Stage.{Stage}
use Rattle.world.specs.declared.connections.Stage.TheVariants.{Idle, Begun, Asked, Replied}
use Rattle.world.specs.Connections.{Connection, behind, past_faults, past_faults_upto, begun_by, begun, open_call}
use Rattle.world.specs.Worlds.{World, lives, with_connection, where_home_lives, happens, run_of, opening_world}
use Rattle.world.specs.Sent.{StreamPosition, position_of, calls_of}
use Rattle.world.specs.Progress.{turn_of, open_turn, IsAt}
use Rattle.world.proofs.positions.FaultLaws.{FaultsTakeBytes}
use Rattle.world.proofs.lists.Standing.{changed_cases}
use Rattle.world.proofs.moments.Moments.{run-append}
use Rattle.world.proofs.positions.PositionsAlong.{SessionLaws, IsOpenTurn, IsOpen, Along, past_of, whole_of}
use Rattle.world.proofs.positions.PositionsRun.{along_run}

-- ---- what a connection at its position has open

none_at_end : {X : Type 0} (xs : List X) (n : ℕ) → n ≡ length xs → slice_get xs n ≡ None
none_at_end [] n e = refl
none_at_end (x ∷ xs) zero e = absurd (omega (arith, e))
none_at_end (x ∷ xs) (suc n) e = none_at_end xs n (omega (arith, e))

first_behind : {X : Type 0} (xs : List X) (x : X) (n : ℕ) → n ≡ length xs → slice_get (xs ++ x ∷ []) n ≡ Some x
first_behind [] x zero e = refl
first_behind [] x (suc n) e = absurd (omega (arith, e))
first_behind (y ∷ xs) x zero e = absurd (omega (arith, e))
first_behind (y ∷ xs) x (suc n) e = first_behind xs x n (omega (arith, e))

-- if no turn is open, no call is
none_open : (k : Connection) (m : StreamPosition) (a : Along k m) → a.open_turn ≡ [] → open_call k ≡ None
none_open k m a none =
    let called : k.calls ≡ calls_of a.past = a.called ∙ ap (λ ts. calls_of a.past ++ calls_of ts) none
    ∙ append-nil (calls_of a.past) in
    none_at_end k.calls (length k.replies) (a.answered ∙ ap length (sym called))

-- if one is open, it is the turn of the open call
some_open : (k : Connection) (m : StreamPosition) (a : Along k m) (call : Call) (form : Form)
    → a.open_turn ≡ Calls call form ∷ []
    → open_call k ≡ Some call
some_open k m a call form one =
    ap (λ calls. slice_get calls (length k.replies)) (a.called ∙ ap (λ ts. calls_of a.past ++ calls_of ts) one)
    ∙ first_behind (calls_of a.past) call (length k.replies) a.answered

-- if a turn is open, a call is
one_and_none : (k : Connection) (m : StreamPosition) (a : Along k m)
    → IsOpenTurn k.session.asked a.open_turn
    → open_call k ≡ None
    → ⊥
one_and_none k m a o none = let e : Some o.0 ≡ None = sym (some_open k m a o.0 o.1 o.2) ∙ none in cc

by_turn : (k : Connection) (m : StreamPosition) (a : Along k m)
    → IsOpenTurn k.session.asked a.open_turn
    → open_turn k ≡ a.open_turn
by_turn k m a o =
    ap (λ c. turn_of c k.session.asked) (some_open k m a o.0 o.1 o.2) ∙ ap (λ asked. turn_of (Some o.0) asked) o.3
    ∙ sym o.2

same_open : (s : Stage) (k : Connection) (m : StreamPosition) (a : Along k m)
    → IsOpen s k.session.asked a.open_turn
    → open_turn k ≡ a.open_turn
same_open Idle k m a o = ap (λ c. turn_of c k.session.asked) (none_open k m a o) ∙ sym o
same_open Begun k m a o = by_turn k m a o
same_open Asked k m a o = by_turn k m a o
same_open (Replied reply) k m a o = by_turn k m a o

-- a connection at its position has passed, has open and has still to give the turns of its stream
pub at_along : (k : Connection) (m : StreamPosition) → Along k m → IsAt k m
at_along k m a = record {
  ordinal =
      rw (whole_of k m a) (omega (arith, a.ordinal, length-append a.past (a.open_turn ++ to_come (fed k.session []))));
  end = a.end;
  whole = λ more. rw (past_of k m a, same_open k.stage k m a a.opened) (a.split more);
}

-- ---- what a begin leaves

-- if no call is open, no turn is
no_turn_open : (s : Stage) (k : Connection) (m : StreamPosition) (a : Along k m)
    → IsOpen s k.session.asked a.open_turn
    → open_call k ≡ None
    → a.open_turn ≡ []
no_turn_open Idle k m a o none = o
no_turn_open Begun k m a o none = absurd (one_and_none k m a o none)
no_turn_open Asked k m a o none = absurd (one_and_none k m a o none)
no_turn_open (Replied reply) k m a o none = absurd (one_and_none k m a o none)

-- if nothing is open and nothing is to come, all turns are past
all_past : (k : Connection) (m : StreamPosition)
    → Along k m
    → open_call k ≡ None
    → to_come k.session ≡ []
    → m.ordinal ≡ length (turns m.stream)
all_past k m a none left =
    let whole : turns m.stream ≡ a.past =
    whole_of k m a ∙ ap (λ ts. a.past ++ (ts ++ to_come (fed k.session []))) (no_turn_open k.stage k m a a.opened none)
    ∙ ap (λ h. a.past ++ to_come h) (fed_none k.session) ∙ ap (λ ts. a.past ++ ts) left ∙ append-nil a.past in
    rw whole (sym a.ordinal)

-- nothing is to come of what a session has, and it is closed exactly if it has come to the end
record IsSpent (h : Held) : Type 0 where
  none : to_come h ≡ []
  closed : h.closed ≡ will_close h

-- the step opens no call
abbrev OpensNone : Given → Type 0
OpensNone r = (call : Call) (form : Form) → r.0 ≡ Some (Calls call form) → ⊥

module _ (law : SessionLaws) (takes : FaultsTakeBytes) where
  -- if no call stands after the faults that stand next, nothing is to come
  nothing_left : (n : ℕ) (h : Held)
      → most_faults h < n
      → OpensNone (past_faults_upto n h)
      → IsSpent (past_faults_upto n h).1
  nothing_left zero h enough none = absurd (omega arith)
  nothing_left (suc n) h enough none =
      by_given (next_of h) (law.first h) (law.keeps h) (takes h)
      (λ shorter. nothing_left n (next_of h).1 (omega (arith, shorter))) none
    where
      by_given : (r : Given)
          → GivesFirst h r.0 r.1
          → KeepsEnd h r.0 r.1
          → ((fault : Fault) → r.0 ≡ Some (Faulty fault) → most_faults r.1 < most_faults h)
          → (most_faults r.1 < most_faults h
          → OpensNone (past_faults_upto n r.1)
          → IsSpent (past_faults_upto n r.1).1)
          → OpensNone (behind r (past_faults_upto n r.1)) → IsSpent (behind r (past_faults_upto n r.1)).1
      by_given (None, left) first end shorter later none = record {
        none = ap to_come (sym (fed_none left)) ∙ sym (first.first []) ∙ ap to_come (fed_none h) ∙ first.none refl;
        closed =
            end.come refl ∙ ap will_close (sym (fed_none h)) ∙ end.kept [] ∙ ap will_close (fed_none left);
      }
      by_given (Some (Faulty fault), left) first end shorter later none = later (shorter fault refl) none
      by_given (Some (Calls call form), left) first end shorter later none = absurd (none call form refl)

  left_by : (r : Given) (k : Connection) (m : StreamPosition)
      → Along (begun_by r k) m
      → open_call (begun_by r k) ≡ None
      → (OpensNone r → IsSpent r.1)
      → IsSpent (begun_by r k).session
  left_by (None, left) k m a none nothing = nothing (λ call form e. cc)
  left_by (Some (Faulty fault), left) k m a none nothing = nothing (λ call form e. cc)
  left_by (Some (Calls call form), left) k m a none nothing = absurd (one_and_none _ m a a.opened none)

  left_begun : (s : Stage) (k : Connection) (m : StreamPosition)
      → k.stage ≡ s
      → Along (begun s k) m
      → open_call (begun s k) ≡ None
      → IsSpent (begun s k).session
  left_begun Idle k m e a none =
      left_by (past_faults k.session) k m a none (nothing_left (suc (most_faults k.session)) k.session (omega arith))
  left_begun Begun k m e a none = absurd (one_and_none k m a (rw e at a.opened) none)
  left_begun Asked k m e a none = absurd (one_and_none k m a (rw e at a.opened) none)
  left_begun (Replied reply) k m e a none = absurd (one_and_none k m a (rw e at a.opened) none)

  left_where_it_lives : (w : World) (b : Bool) (old new : Connection) (m : StreamPosition)
      → lives w old.home ≡ b
      → cond b (begun old.stage old) old ≡ new
      → lives w new.home ≡ true
      → Along new m → open_call new ≡ None → IsSpent new.session
  left_where_it_lives w true old new m e is alive a none =
      let along = subst (λ k. Along k m) (sym is) a in
      subst (λ k. IsSpent k.session) is (left_begun old.stage old m refl along (ap open_call is ∙ none))
  left_where_it_lives w false old new m e is alive a none =
      absurd (let both : false ≡ true = sym e ∙ ap (λ k. lives w k.home) is ∙ alive in cc)

  left_after : (w : World) (c : ℕ) (m : StreamPosition) (new : Connection)
      → slice_get (happens w (Begin c)).connections c ≡ Some new
      → lives (happens w (Begin c)) new.home ≡ true
      → Along new m → open_call new ≡ None → IsSpent new.session
  unfolding with_connection
  left_after w c m new here alive a none =
      elim (changed_cases w.connections c c (where_home_lives w (λ k. begun k.stage k)) new here) [
        | inl other ↦ absurd (other.0 refl)
        | inr same ↦ left_where_it_lives w (lives w same.0.home) same.0 new m refl same.3 alive a none
      ]

  -- a connection after a begin at a living home, if no call is open
  abbrev Begins : (count : ℕ) (homes : List ℕ) (events : List Event) (c : ℕ) (k : Connection) → Type 0
  Begins count homes events c k =
      (slice_get (run_of count homes events).connections c ≡ Some k)
      × (lives (run_of count homes events) k.home ≡ true)
      × (open_call k ≡ None)

  spent : (count : ℕ) (homes : List ℕ) (events : List Event) (c : ℕ) (k : Connection)
      → Begins count homes (events ++ Begin c ∷ []) c k
      → IsSpent k.session
  spent count homes events c k b =
      let a = along_run law takes count homes (events ++ Begin c ∷ []) c k b.0 in
      let w : World = run_of count homes events in
      let last : happens w (Begin c) ≡ run_of count homes (events ++ Begin c ∷ []) =
      sym (run-append events (Begin c ∷ []) (opening_world count homes)) in
      let there = ap (λ (w : World). slice_get w.connections c) last ∙ b.0 in
      left_after w c _ k there (ap (λ w. lives w k.home) last ∙ b.1) a b.2

  -- a begin at a living home after which no call is open has passed all turns of the stream
  pub begin_passes_all : (count : ℕ) (homes : List ℕ) (events : List Event) (c : ℕ) (k : Connection)
      → Begins count homes (events ++ Begin c ∷ []) c k
      → let m = position_of count homes (events ++ Begin c ∷ []) c in m.ordinal ≡ length (turns m.stream)
  begin_passes_all count homes events c k b =
      let a = along_run law takes count homes (events ++ Begin c ∷ []) c k b.0 in
      all_past k _ a b.2 (spent count homes events c k b).none

  -- after a begin that leaves no call open the session is closed exactly if the stream has come to its end
  pub begin_closes : (count : ℕ) (homes : List ℕ) (events : List Event) (c : ℕ) (k : Connection)
      → Begins count homes (events ++ Begin c ∷ []) c k
      → k.session.closed ≡ ends (position_of count homes (events ++ Begin c ∷ []) c).stream
  begin_closes count homes events c k b =
      let a = along_run law takes count homes (events ++ Begin c ∷ []) c k b.0 in
      let m = position_of count homes (events ++ Begin c ∷ []) c in
      (spent count homes events c k b).closed
      ∙ ap will_close (sym (fed_none k.session)) ∙ a.end [] ∙ ap ends (append-nil m.stream)

  -- after each schedule each connection has passed, has open and has still to give the turns of its stream
  pub is_at : (count : ℕ) (homes : List ℕ) (events : List Event) (c : ℕ) (k : Connection)
      → slice_get (run_of count homes events).connections c ≡ Some k
      → IsAt k (position_of count homes events c)
  is_at count homes events c k here = at_along k _ (along_run law takes count homes events c k here)
