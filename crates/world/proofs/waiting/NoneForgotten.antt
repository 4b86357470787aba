-- In a world at rest, and so in a quiet one, each begun call of a connection whose home lives is answered.
use Rattle.std.proofs.Common.{◌≡◌, ℕ, zero, suc, ◌+◌, ◌-◌, ◌^◌, ◌<◌, ◌≤◌, Bool, true, false, not, ◌&&◌, ◌||◌, List, []}
use Rattle.std.proofs.Common.{◌∷◌, length, Option, Some, None, refl, sym, ap, subst, ◌∙◌, arith, lit<, inl, inr}
use Rattle.std.specs.Prelude.{slice_get, IsSome}
use Rattle.std.specs.Option.{option_and_then}
use Rattle.std.specs.List.{list_all}
use Rattle.std.proofs.lemmas.Bool.{and_parts}
use Rattle.std.proofs.lemmas.List.{take_all}
use Rattle.std.proofs.lemmas.Option.{slice_get_within}
use Rattle.node.specs.Servers.{most}
use Rattle.node.specs.Lawful.{IsLawful}
use Rattle.world.specs.declared.events.Event.{Event}
use Rattle.world.specs.declared.connections.Stage.{Stage}
use Rattle.world.specs.declared.connections.Stage.TheVariants.{Idle, Begun, Asked, Replied}
use Rattle.world.specs.Connections.{Connection}
use Rattle.world.specs.Worlds.{World, server, lives, home_lives, happens, run_of}
use Rattle.world.specs.Calls.{CallId, IsBegun, IsAnswered, has_living_home}
use Rattle.world.specs.Quiet.{waits, is_server_quiet, all_below, is_quiet}
use Rattle.node.proofs.BegunLists.{found_below}
use Rattle.world.proofs.trace.IdLaws.{living_parts}
use Rattle.world.proofs.trace.Traces.{Traced, count, outset}
use Rattle.world.proofs.trace.Layers.{Lawful}
use Rattle.world.proofs.moments.Moments.{Moments, next_world}
use Rattle.world.proofs.moments.AllLaws.{all_moments}
use Rattle.world.proofs.lists.Standing.{some_of, get_within}
use Rattle.world.proofs.streams.Streaming.{Streaming}
use Rattle.world.proofs.streams.Stepped.{Effect, Follows, effect}
use Rattle.world.proofs.streams.StreamEvents.{streaming_happens, streaming_outset}
use Rattle.world.proofs.streams.AtRest.{IsAtRest, at_rest, all_level}
use Rattle.world.proofs.waiting.Opening.{Opening}
use Rattle.world.proofs.waiting.OpeningEvents.{opening_happens, opening_outset}
use Rattle.world.proofs.waiting.Rooms.{has_rooms}
use Rattle.world.proofs.streams.Ways.{Way, way}
use Rattle.world.proofs.waiting.InStep.{open_calls, InStep, AllInStep, in_step_happens, in_step_outset}
use Rattle.world.proofs.waiting.Stages.{AllOpen}
use Rattle.world.proofs.waiting.StageEvents.{open_way, open_outset}
use Rattle.world.proofs.waiting.Bounds.{Bounded, room, bounded_next, bounded_first, bounded_outset}
use Rattle.world.proofs.waiting.Asking.{Asking}
use Rattle.world.proofs.waiting.AskEvents.{asking_happens, asking_outset}
use Rattle.world.proofs.waiting.RestingCalls.{reads_closed, updates_closed}

-- ---- what holds after k events

-- the first event uses no number
abbrev less_one : ℕ → ℕ
less_one zero = zero
less_one (suc k) = k

below : (m n : ℕ) → n < m → n ≤ m - 1
below m n h = omega (arith, h)

at_most : (n : ℕ) → n < 2 ^ 64 → n ≤ most
unfolding most
at_most n h = below (2 ^ 64) n h

one_below_most : 1 < most
unfolding most
one_below_most = lit< tt

less_one_below : (k : ℕ) → k < most → less_one k + 1 < most
less_one_below zero l = one_below_most
less_one_below (suc k) l = omega (arith, l)

record Running (k : ℕ) (t : Traced) : Type 0 where
  in_step : AllInStep t.world
  bounded : Bounded (less_one k) t.world
  waits : AllOpen t.world
  asking : Asking t.world
  streaming : Streaming t.world
  opening : Opening t.world

running_next : (k : ℕ) (t u : Traced) (e : Event)
    → Follows t u
    → u.world ≡ happens t.world e
    → k < most
    → Bounded k u.world
    → Running k t
    → Running (suc k) u
running_next k t u e f next few bounded r =
    let goes : Way t.world u.world = subst (λ w. Way t.world w) (sym next) (way t.world e) in
    let event = effect t f.before u.world goes in
    record {
      in_step = subst AllInStep (sym next) (in_step_happens t.world e r.in_step);
      bounded = bounded;
      waits = open_way t f.before f.servers r.waits u.world goes
          (room (less_one k) t f.before r.bounded (less_one_below k few));
      asking = asking_happens t u f r.asking event;
      streaming = streaming_happens t u f r.streaming event;
      opening = opening_happens t u f r.opening
          (has_rooms t f.before (omega (arith, r.bounded.all, less_one_below k few))) event;
    }

running_first : (n : ℕ) (homes : List ℕ) → Running 0 (outset n homes)
running_first n homes = record {
  in_step = in_step_outset n homes;
  bounded = bounded_outset n homes;
  waits = open_outset n homes;
  asking = asking_outset n homes;
  streaming = streaming_outset n homes;
  opening = opening_outset n homes;
}

module _ (n : ℕ) (homes : List ℕ) (few : n ≤ 16) (events : List Event) (m : Moments (outset n homes) events)
    (short : length events ≤ most) where
  follows : (k : ℕ) → Follows (m.at k) (m.at (suc k))
  follows k = record {
    before = m.lawful k;
    after = m.lawful (suc k);
    later = (m.goes k (suc k) (omega arith) None).later;
    servers = m.all k;
  }

  bounded_at : (k : ℕ)
      → Effect (m.at k).world (m.at (suc k)).world
      → Running k (m.at k)
      → Bounded k (m.at (suc k)).world
  bounded_at zero event r =
      bounded_first n homes few (m.at 1).world (subst (λ t. Effect t.world (m.at 1).world) m.start event)
  bounded_at (suc k) event r =
      bounded_next k (m.at (suc k)) (m.all (suc k)) r.bounded (m.at (suc (suc k))).world event

  running : (k : ℕ) → k ≤ length events → Running k (m.at k)
  running zero l = subst (λ t. Running 0 t) (sym m.start) (running_first n homes)
  running (suc k) l =
      let e = found_below events k (omega (arith, l)) in
      let next = next_world (outset n homes) events m k e.0 e.1 in
      let before = running k (omega (arith, l)) in
      running_next k (m.at k) (m.at (suc k)) e.0 (follows k) next (omega (arith, l, short))
      (bounded_at k (effect (m.at k) (m.lawful k) (m.at (suc k)).world
      (subst (λ w. Way (m.at k).world w) (sym next) (way (m.at k).world e.0))) before) before

-- ---- a quiet world

quiet_connection : (test : Connection → Bool) (ks : List Connection) (c : ℕ) (k : Connection)
    → list_all test ks ≡ true
    → slice_get ks c ≡ Some k
    → test k ≡ true
quiet_connection test [] c k quiet here = absurd cc
quiet_connection test (j ∷ ks) zero k quiet here =
    let e : j ≡ k = cc in subst (λ x. test x ≡ true) e (and_parts (test j) (list_all test ks) quiet).0
quiet_connection test (j ∷ ks) (suc c) k quiet here =
    quiet_connection test ks c k (and_parts (test j) (list_all test ks) quiet).1 here

-- no call waits at a connection whose home lives
not_waiting : (w : World) (c : ℕ) (k : Connection)
    → is_quiet w ≡ true
    → slice_get w.connections c ≡ Some k
    → lives w k.home ≡ true
    → waits k.stage ≡ false
not_waiting w c k quiet here alive =
    let all = (and_parts (all_below (length w.servers) (λ j. not (lives w j) || is_server_quiet w j)) _ quiet).1 in
    let one : not (lives w k.home && waits k.stage) ≡ true =
    quiet_connection (λ x. not (lives w x.home && waits x.stage)) w.connections c k all here in
    not_both (lives w k.home) (waits k.stage) alive one
  where
    not_both : (a b : Bool) → a ≡ true → not (a && b) ≡ true → b ≡ false
    not_both true true e h = absurd cc
    not_both true false e h = refl
    not_both false b e h = absurd cc

-- so each of its calls has its reply
all_replied : (s : Stage) (k : Connection) (p : ℕ)
    → k.stage ≡ s
    → InStep k
    → waits s ≡ false
    → (s ≡ Asked → ⊥)
    → p < length k.calls
    → IsSome (slice_get k.replies p)
all_replied Idle k p e h quiet other l = get_within k.replies p (omega (arith, l, h, ap open_calls e))
all_replied Begun k p e h quiet other l = absurd cc
all_replied Asked k p e h quiet other l = absurd (other refl)
all_replied (Replied reply) k p e h quiet other l = absurd cc

-- the world is at rest, and no call or reply waits at a connection whose home lives
pub record IsResting (w : World) : Type 0 where
  pub servers : IsAtRest w
  pub connections : (c : ℕ) (k : Connection)
      → slice_get w.connections c ≡ Some k
      → lives w k.home ≡ true
      → waits k.stage ≡ false

module _ (k : ℕ) (t : Traced) (h : Lawful t) (servers : (i : ℕ) → i < count t → IsLawful (server t.world i))
    (r : Running k t) (resting : IsResting t.world) where
  none_asked : (c : ℕ) (x : Connection)
      → slice_get t.world.connections c ≡ Some x
      → lives t.world x.home ≡ true
      → x.stage ≡ Asked
      → ⊥
  none_asked c x here alive stage = elim (r.waits c x here stage) [
    | inl update ↦ updates_closed t h resting.servers servers r.opening
        (all_level t h r.streaming resting.servers (λ i a. (servers i (living_parts t.world i a).0).settled)) x.home
        update.0 alive update.1
    | inr read ↦ reads_closed t h resting.servers servers r.asking x.home read.0 alive read.1
  ]

  answered_at : (x : CallId) (o : Option Connection)
      → slice_get t.world.connections x.connection ≡ o
      → home_lives t.world o ≡ true
      → IsSome (option_and_then (λ c. slice_get c.calls x.ordinal) o)
      → IsSome (option_and_then (λ c. slice_get c.replies x.ordinal) o)
  answered_at x None here alive begun = absurd cc
  answered_at x (Some c) here alive begun =
      let call = some_of (slice_get c.calls x.ordinal) begun in
      all_replied c.stage c x.ordinal refl (r.in_step x.connection c here)
      (resting.connections x.connection c here alive) (none_asked x.connection c here alive)
      (slice_get_within c.calls x.ordinal call.0 call.1)

  all_answered : (x : CallId) → IsBegun t.world x → has_living_home t.world x ≡ true → IsAnswered t.world x
  all_answered x begun alive = answered_at x (slice_get t.world.connections x.connection) refl alive begun

-- no call is forgotten in a world at rest
pub none_forgotten_at_rest : (n : ℕ) (homes : List ℕ) (events : List Event)
    → n ≤ 16
    → length events < 2 ^ 64
    → IsResting (run_of n homes events)
    → (x : CallId)
    → IsBegun (run_of n homes events) x
    → has_living_home (run_of n homes events) x ≡ true
    → IsAnswered (run_of n homes events) x
none_forgotten_at_rest n homes events few short resting x begun alive =
    let m = all_moments n homes events few in
    let k = length events in
    let same : (m.at k).world ≡ run_of n homes events =
    m.world k ∙ ap (λ es. run_of n homes es) (take_all k events (omega arith)) in
    let back = sym same in
    subst (λ w. IsAnswered w x) same
    (all_answered k (m.at k) (m.lawful k) (m.all k) (running n homes few events m (at_most k short) k (omega arith))
    (subst (λ w. IsResting w) back resting) x
    (subst (λ w. IsBegun w x) back begun) (subst (λ w. has_living_home w x ≡ true) back alive))

-- nor in a quiet one
pub none_forgotten : (n : ℕ) (homes : List ℕ) (events : List Event)
    → n ≤ 16
    → length events < 2 ^ 64
    → is_quiet (run_of n homes events) ≡ true
    → (x : CallId)
    → IsBegun (run_of n homes events) x
    → has_living_home (run_of n homes events) x ≡ true
    → IsAnswered (run_of n homes events) x
none_forgotten n homes events few short quiet = none_forgotten_at_rest n homes events few short (record {
  servers = at_rest (run_of n homes events) quiet;
  connections = λ c k here alive. not_waiting (run_of n homes events) c k quiet here alive;
})
