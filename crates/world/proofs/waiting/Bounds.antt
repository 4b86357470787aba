-- How many ids and asks servers have used, and how long their logs are: fewer than events have come, since the first
-- can't give a call.
use Rattle.std.proofs.Common.{◌≡◌, ◌≢◌, ℕ, suc, ◌+◌, ◌<◌, ◌≤◌, List, length, None, Some, refl, arith, sym, ap, ◌∙◌, inl}
use Rattle.std.proofs.Common.{inr}
use Rattle.std.specs.Prelude.{slice_get}
use Rattle.std.proofs.lemmas.Bool.{cases_eq}
use Rattle.node.specs.declared.messages.Input.{Input}
use Rattle.node.specs.declared.messages.Input.TheVariants.{Call as Called, From, Gone}
use Rattle.node.specs.Servers.{ServerState, most}
use Rattle.node.specs.Steps.{step}
use Rattle.node.specs.Lawful.{IsLawful}
use Rattle.world.specs.declared.connections.Stage.TheVariants.{Idle, Begun}
use Rattle.world.specs.Connections.{Connection}
use Rattle.world.specs.Worlds.{World, server}
use Rattle.node.specs.Actions.{Cause, IsDone}
use Rattle.world.proofs.trace.Traces.{Traced, log, count, outset}
use Rattle.world.proofs.trace.Layers.{Lawful, entries_of}
use Rattle.world.proofs.trace.Outsets.{count_outset, server_outset, lawful_outset, fresh_at}
use Rattle.node.proofs.DoneSteps.{step_done}
use Rattle.world.proofs.streams.Stepped.{HasCome, Stepped, Effect, Stands, Steps}
use Rattle.world.proofs.streams.StreamSteps.{last_is}
use Rattle.world.proofs.waiting.Paces.{takes_of, pace}
use Rattle.world.proofs.waiting.Totals.{total, total_low, total_grows, total_none, entries_total}
use Rattle.world.proofs.waiting.Rooms.{issued_at, issued_in, issued_bound, origin_bound}
use Rattle.world.proofs.waiting.CallsOpened.{HasRoom}

-- no log is longer than all issued updates together
pub log_below : (t : Traced) (i : ℕ) → Lawful t → i < count t → length (log t i) ≤ issued_in t.world
log_below t i h l =
    omega (
      arith,
      entries_total (log t i) (count t) (origin_bound t h i),
      total_low (λ o. entries_of o (log t i)) (issued_at t.world) (count t)
          (λ o there. issued_bound t h i o l there),
    )

-- ---- upper bounds

-- at most k updates were issued, and no server has used more than k ids or asks
pub record Bounded (k : ℕ) (w : World) : Type 0 where
  pub all : issued_in w ≤ k
  pub ids : (i : ℕ) → i < length w.servers → (server w i).next_id ≤ k + 1
  pub asks : (i : ℕ) → i < length w.servers → (server w i).next_ask ≤ k + 1

-- as long as few ids and asks are used, every server has an id, an ask and a number left
pub room : (k : ℕ) (t : Traced)
    → Lawful t
    → Bounded k t.world
    → k + 1 < most
    → (i : ℕ)
    → i < count t
    → HasRoom (server t.world i)
room k t h b few i l = record {
  id = omega (arith, b.ids i l, few);
  number = omega (arith, log_below t i h l, b.all, last_is t h.logged i l, few);
  ask = omega (arith, b.asks i l, few);
}

-- the same servers
bounded_same : (k : ℕ) (w v : World)
    → length v.servers ≡ length w.servers
    → ((x : ℕ) → server v x ≡ server w x)
    → Bounded k w
    → Bounded k v
bounded_same k w v long same b = record {
  all = omega (
    arith,
    b.all,
    ap (λ n. total (issued_at v) n) long,
    total_low (issued_at v) (issued_at w) (length w.servers)
        (λ i l. omega (arith, ap (λ (s : ServerState). s.next_id) (same i))),
  );
  ids = λ i l. omega (arith, b.ids i (omega (arith, l, long)), ap (λ (s : ServerState). s.next_id) (same i));
  asks = λ i l. omega (arith, b.asks i (omega (arith, l, long)), ap (λ (s : ServerState). s.next_ask) (same i));
}

bounded_more : (k : ℕ) (w : World) → Bounded k w → Bounded (suc k) w
bounded_more k w b =
    record {
      all = omega (arith, b.all);
      ids = λ i l. omega (arith, b.ids i l);
      asks = λ i l. omega (arith, b.asks i l);
    }

-- an upper bound after a step, if at most k were used before it
abbrev behind : Cause → ℕ → ℕ
behind None k = k
behind (Some (Called port call)) k = suc k
behind (Some (From i m)) k = k
behind (Some (Gone j)) k = k

behind_is : (c : Cause) (k : ℕ) → behind c k ≡ takes_of c + k
behind_is None k = omega arith
behind_is (Some (Called port call)) k = omega arith
behind_is (Some (From i m)) k = omega arith
behind_is (Some (Gone j)) k = omega arith

bounded_taken : (k : ℕ) (w u : World) (a : ℕ) (input : Input)
    → Stepped w u a input
    → IsDone (Some input) (server w a) (step (server w a) input)
    → Bounded k w
    → Bounded (behind (Some input) k) u
bounded_taken k w u a input s d b =
    let o = step (server w a) input in
    let p = pace (Some input) (server w a) o d in
    let used = behind_is (Some input) k in
    let id_other = λ (i : ℕ) (other : i ≢ a). ap (λ (x : ServerState). x.next_id) (s.others i other) in
    let ask_other = λ (i : ℕ) (other : i ≢ a). ap (λ (x : ServerState). x.next_ask) (s.others i other) in
    let id_own = ap (λ (x : ServerState). x.next_id) s.own in
    let ask_own = ap (λ (x : ServerState). x.next_ask) s.own in
    let sums = total_grows (issued_at w) (issued_at u) (takes_of (Some input)) (length w.servers) a
    (λ i other. omega (arith, id_other i other)) (omega (arith, id_own, p.0)) in
    record {
      all = omega (arith, sums, used, b.all, ap (λ n. total (issued_at u) n) s.count);
      ids = λ i m. elim (cases_eq i a) [
        | inl same ↦ omega (arith, ap (λ x. (server u x).next_id) same, id_own, p.0, used, b.ids a s.here)
        | inr other ↦ omega (arith, id_other i other, used, b.ids i (omega (arith, m, s.count)))
      ];
      asks = λ i m. elim (cases_eq i a) [
        | inl same ↦ omega (arith, ap (λ x. (server u x).next_ask) same, ask_own, p.1, used, b.asks a s.here)
        | inr other ↦ omega (arith, ask_other i other, used, b.asks i (omega (arith, m, s.count)))
      ];
    }

-- an input takes at most one
at_most_one : (input : Input) (k : ℕ) (u : World) → Bounded (behind (Some input) k) u → Bounded (suc k) u
at_most_one (Called port call) k u b = b
at_most_one (From i m) k u b = bounded_more k u b
at_most_one (Gone j) k u b = bounded_more k u b

-- and none if no connection has begun a call
none_at_all : (t : World) (a : ℕ) (input : Input) (k : ℕ) (u : World)
    → HasCome t a input
    → ((c : ℕ) (x : Connection) → slice_get t.connections c ≡ Some x → x.stage ≡ Begun → ⊥)
    → Bounded (behind (Some input) k) u
    → Bounded k u
none_at_all t a (Called port call) k u came none b = absurd (none port came.0 came.1 came.2)
none_at_all t a (From i m) k u came none b = b
none_at_all t a (Gone j) k u came none b = b

module _ (k : ℕ) (t : Traced) (servers : (i : ℕ) → i < count t → IsLawful (server t.world i)) (b : Bounded k t.world)
    (u : World) where
  bounded_step : (a : ℕ) (input : Input) → Stepped t.world u a input → Bounded (behind (Some input) k) u
  bounded_step a input s = bounded_taken k t.world u a input s
      (step_done (server t.world a) input (servers a s.here) s.fit s.valid) b

  -- one event more
  pub bounded_next : Effect t.world u → Bounded (suc k) u
  bounded_next (Stands still) = bounded_more k u (bounded_same k t.world u still.count still.servers b)
  bounded_next (Steps a input s) = at_most_one input k u (bounded_step a input s)

  -- an event that finds no call to give
  bounded_idle : ((c : ℕ) (x : Connection) → slice_get t.world.connections c ≡ Some x → x.stage ≡ Begun → ⊥)
      → Effect t.world u
      → Bounded k u
  bounded_idle none (Stands still) = bounded_same k t.world u still.count still.servers b
  bounded_idle none (Steps a input s) = none_at_all t.world a input k u s.came none (bounded_step a input s)

no_call : (n : ℕ) (homes : List ℕ) (c : ℕ) (k : Connection)
    → slice_get (outset n homes).world.connections c ≡ Some k
    → k.stage ≡ Begun
    → ⊥
no_call n homes c k here begun = let f = fresh_at homes c k here in let e : Idle ≡ Begun =
    ap (λ (x : Connection). x.stage) (sym f.2) ∙ begun in cc

-- before any event no update is issued, and no id or ask is used
pub bounded_outset : (n : ℕ) (homes : List ℕ) → Bounded 0 (outset n homes).world
bounded_outset n homes =
    let w = (outset n homes).world in
    let same = λ (i : ℕ) (l : i < length w.servers). server_outset n homes i (rw (count_outset n homes) at l) in
    record {
      all = omega (
        arith,
        total_low (issued_at w) (λ i. 0) (length w.servers)
            (λ i l. omega (arith, ap (λ (s : ServerState). s.next_id) (same i l))),
        total_none (λ i. 0) (length w.servers) (λ i. refl),
      );
      ids = λ i l. omega (arith, ap (λ (s : ServerState). s.next_id) (same i l));
      asks = λ i l. omega (arith, ap (λ (s : ServerState). s.next_ask) (same i l));
    }

-- ---- the first event uses none, so that there are fewer than events

-- after the first event no update is issued, and no id or ask is used, since no call was begun before it
pub bounded_first : (n : ℕ) (homes : List ℕ)
    → n ≤ 16
    → (u : World)
    → Effect (outset n homes).world u
    → Bounded 0 u
bounded_first n homes few u event =
    bounded_idle 0 (outset n homes) (λ i l. lawful_outset n homes few i (rw (count_outset n homes) at l))
    (bounded_outset n homes) u (no_call n homes) event
