-- Own calls and own reads that wait: which one has an id, which are left without it, and which an action adds.
use Rattle.std.proofs.Common.{◌≡◌, ◌≢◌, ℕ, zero, suc, ◌<◌, ◌≤◌, Bool, true, false, cond, List, [], ◌∷◌, Option, Some}
use Rattle.std.proofs.Common.{None, refl, arith, ◌⊎◌, inl, inr}
use Rattle.std.specs.Prelude.{◌==◌}
use Rattle.std.proofs.lemmas.Option.{same_Some}
use Rattle.std.proofs.lemmas.Bool.{eqb-true}
use Rattle.std.proofs.lemmas.Bool.Decides.{nat_tests}
use Rattle.table.specs.declared.operations.Call.{Call}
use Rattle.table.specs.declared.operations.Reply.{Reply}
use Rattle.versions.specs.Entries.{LogEntry}
use Rattle.node.specs.declared.servers.OpenUpdate.{OpenUpdate}
use Rattle.node.specs.declared.servers.OpenRead.{OpenRead}
use Rattle.node.specs.declared.messages.Output.TheVariants.{Reply as Answered}
use Rattle.node.specs.Servers.{ServerState, without_first, reply_at}
use Rattle.node.specs.Numbering.{open_update, without_update, left_open_by, replied, reply_to, appended, entered}
use Rattle.node.specs.Reading.{without_read, asked}
use Rattle.node.specs.Joining.{widened}
use Rattle.node.specs.Steps.{trimmed}
use Rattle.node.specs.Lawful.{AreUpdates, AreReads}
use Rattle.node.proofs.Lists.{In, in_pushed}
use Rattle.node.specs.Actions.{Action, Widen, Append, Reach, Settle, Send, Finish, Trim, Enter, Ask, Show, act}

-- ---- lists without the first that passes a test

in_step : {X : Type 0} (b : Bool) (y x : X) (ys rest : List X)
    → (In x rest → In x ys)
    → In x (cond b ys (y ∷ rest))
    → In x (y ∷ ys)
in_step true y x ys rest f h = (suc h.0, h.1)
in_step false y x ys rest f (zero, h) = (0, h)
in_step false y x ys rest f (suc k, h) = let g = f (k, h) in (suc g.0, g.1)

-- what stands in a list without its first that passes a test stands in the list
pub in_without : {X : Type 0} (test : X → Bool) (xs : List X) (x : X) → In x (without_first test xs) → In x xs
in_without test [] x h = h
in_without test (y ∷ xs) x h = in_step (test y) y x xs (without_first test xs) (in_without test xs x) h

-- each own call that waits has an id above the bound of the list
pub update_above : (above : ℕ) (us : List OpenUpdate) (next_id : ℕ) (u : OpenUpdate)
    → AreUpdates above us next_id
    → In u us
    → above < u.id
update_above above [] next_id u h (k, e) = absurd cc
update_above above (v ∷ us) next_id u h (zero, e) = let same : v ≡ u = same_Some v u e in rw (← same) h.0
update_above above (v ∷ us) next_id u h (suc k, e) = omega (arith, h.0, update_above v.id us next_id u h.3 (k, e))

update_step : (b : Bool) (v u : OpenUpdate) (us rest : List OpenUpdate) (next_id id : ℕ)
    → (v.id == id) ≡ b
    → AreUpdates v.id us next_id
    → (In u rest → u.id ≢ id)
    → In u (cond b us (v ∷ rest))
    → u.id ≢ id
update_step true v u us rest next_id id t a f h = let same = eqb-true v.id id t in let more =
    update_above v.id us next_id u a h in λ e. absurd (omega (arith, same, more, e))
update_step false v u us rest next_id id t a f (zero, h) = let same : v ≡ u =
    same_Some v u h in λ e. (let is : (v.id == id) ≡ true = rw (same, e) (grind (arith, nat_tests)) in absurd cc)
update_step false v u us rest next_id id t a f (suc k, h) = f (k, h)

-- the others have other ids
pub update_apart : (above : ℕ) (us : List OpenUpdate) (next_id id : ℕ) (u : OpenUpdate)
    → AreUpdates above us next_id
    → In u (without_update us id)
    → u.id ≢ id
update_apart above [] next_id id u h (k, e) = absurd cc
update_apart above (v ∷ us) next_id id u h i =
    update_step _ v u us (without_update us id) next_id id refl h.3 (update_apart v.id us next_id id u h.3) i

-- each read that waits has an ask above the list's bound of asks, and a lower bound no lower than the list's
pub read_above : (above lower_bound : ℕ) (rs : List OpenRead) (next_ask acked : ℕ) (r : OpenRead)
    → AreReads above lower_bound rs next_ask acked
    → In r rs
    → (above < r.ask) × (lower_bound ≤ r.lower_bound)
read_above above lower_bound [] next_ask acked r h (k, e) = absurd cc
read_above above lower_bound (q ∷ rs) next_ask acked r h (zero, e) =
    let same : q ≡ r = same_Some q r e in rw (← same) (h.0, h.1)
read_above above lower_bound (q ∷ rs) next_ask acked r h (suc k, e) =
    let g = read_above q.ask q.lower_bound rs next_ask acked r h.2 (k, e) in
    (omega (arith, h.0, g.0), omega (arith, h.1, g.1))

read_step : (b : Bool) (q r : OpenRead) (rs rest : List OpenRead) (next_ask acked ask : ℕ)
    → (q.ask == ask) ≡ b
    → AreReads q.ask q.lower_bound rs next_ask acked
    → (In r rest → r.ask ≢ ask)
    → In r (cond b rs (q ∷ rest))
    → r.ask ≢ ask
read_step true q r rs rest next_ask acked ask t a f h = let same = eqb-true q.ask ask t in let more =
    read_above q.ask q.lower_bound rs next_ask acked r a h in λ e. absurd (omega (arith, same, more.0, e))
read_step false q r rs rest next_ask acked ask t a f (zero, h) =
    let same : q ≡ r =
    same_Some q r h in λ e. (let is : (q.ask == ask) ≡ true = rw (same, e) (grind (arith, nat_tests)) in absurd cc)
read_step false q r rs rest next_ask acked ask t a f (suc k, h) = f (k, h)

-- the reads that are left without that of an ask have other asks
pub read_apart : (above lower_bound : ℕ) (rs : List OpenRead) (next_ask acked ask : ℕ) (r : OpenRead)
    → AreReads above lower_bound rs next_ask acked
    → In r (without_read rs ask)
    → r.ask ≢ ask
read_apart above lower_bound [] next_ask acked ask r h (k, e) = absurd cc
read_apart above lower_bound (q ∷ rs) next_ask acked ask r h i =
    read_step _ q r rs (without_read rs ask) next_ask acked ask refl h.2
    (read_apart q.ask q.lower_bound rs next_ask acked ask r h.2) i

-- ---- the one of an id

found_step : (b : Bool) (v u : OpenUpdate) (us : List OpenUpdate) (rest : Option OpenUpdate) (id : ℕ)
    → (v.id == id) ≡ b
    → (rest ≡ Some u → In u us × (u.id ≡ id))
    → cond b (Some v) rest ≡ Some u
    → In u (v ∷ us) × (u.id ≡ id)
found_step true v u us rest id t f h = let same : v ≡ u = same_Some v u h in ((0, h), rw (← same) (eqb-true v.id id t))
found_step false v u us rest id t f h = let g = f h in ((suc g.0.0, g.0.1), g.1)

-- the open call that is found for an id is one of those that wait, and has this id
pub found_update : (us : List OpenUpdate) (id : ℕ) (u : OpenUpdate) → open_update us id ≡ Some u → In u us × (u.id ≡ id)
found_update [] id u h = absurd cc
found_update (v ∷ us) id u h = found_step _ v u us (open_update us id) id refl (found_update us id u) h

-- ---- a reply at a port

-- of a single reply that is put out, one knows the port and what it says
pub reply_there : (c p : ℕ) (r q : Reply) → In (Answered c r) (reply_at p q) → (p ≡ c) × (q ≡ r)
reply_there c p r q (zero, h) = (cc, cc)
reply_there c p r q (suc k, h) = absurd cc

-- an own update that an entry closes
pub record IsClosed (id : ℕ) (pend : List OpenUpdate) (e : LogEntry) (c : ℕ) (reply : Reply) : Type 0 where
  pub update : OpenUpdate
  pub own : e.origin ≡ id
  pub here : In update pend
  pub same : update.id ≡ e.id
  pub port : update.port ≡ c
  pub answer : e.reply ≡ reply
  pub left : left_open_by id pend e ≡ without_update pend e.id

closed_found : (id : ℕ) (pend : List OpenUpdate) (e : LogEntry) (c : ℕ) (reply : Reply) (o : Option OpenUpdate)
    → open_update pend e.id ≡ o
    → (e.origin == id) ≡ true
    → In (Answered c reply) (replied e.reply o)
    → IsClosed id pend e c reply
closed_found id pend e c reply None o t h = absurd cc
closed_found id pend e c reply (Some u) o t h =
    let f = found_update pend e.id u o in
    let g = reply_there c u.port reply e.reply h in
    record {
      update = u;
      own = eqb-true e.origin id t;
      here = f.0;
      same = f.1;
      port = g.0;
      answer = g.1;
      left = rw t refl;
    }

closed_step : (b : Bool) (id : ℕ) (pend : List OpenUpdate) (e : LogEntry) (c : ℕ) (reply : Reply)
    → (e.origin == id) ≡ b
    → In (Answered c reply) (cond b (replied e.reply (open_update pend e.id)) [])
    → IsClosed id pend e c reply
closed_step true id pend e c reply t h = closed_found id pend e c reply _ refl t h
closed_step false id pend e c reply t h = absurd cc

-- a reply that an entry gives is that to the own update which it closes
pub closed_by : (id : ℕ) (pend : List OpenUpdate) (e : LogEntry) (c : ℕ) (reply : Reply)
    → In (Answered c reply) (reply_to id pend e)
    → IsClosed id pend e c reply
closed_by id pend e c reply h = closed_step _ id pend e c reply refl h

left_step : (b : Bool) (pend : List OpenUpdate) (e : LogEntry) (u : OpenUpdate)
    → In u (cond b (without_update pend e.id) pend)
    → In u pend
left_step true pend e u h = in_without _ pend u h
left_step false pend e u h = h

-- ---- what an action adds

-- an own call that waits after an action waited before it, or has just entered
pub updates_act : (s : ServerState) (a : Action) (u : OpenUpdate)
    → In u (act s a).state.pend
    → In u s.pend ⊎ ((port : ℕ) × (call : Call) × (a ≡ Enter port call)
    × (u ≡ record { id = s.next_id; port = port; call = call }))
unfolding act widened appended entered asked trimmed
updates_act s (Widen v) u h = inl h
updates_act s (Append e) u h = inl h
updates_act s (Reach n) u h = inl h
updates_act s (Settle e) u h = inl (left_step _ s.pend e u h)
updates_act s (Send j body) u h = inl h
updates_act s (Finish r n) u h = inl h
updates_act s Trim u h = inl h
updates_act s (Enter port call) u h =
    elim (in_pushed s.pend _ u h) [ inl old ↦ inl old | inr new ↦ inr (port, call, refl, new) ]
updates_act s (Ask port key) u h = inl h
updates_act s (Show port key) u h = inl h

-- a read that waits after an action waited before it, or has just asked
pub reads_act : (s : ServerState) (a : Action) (r : OpenRead)
    → In r (act s a).state.asks
    → In r s.asks ⊎ ((port : ℕ) × (key : List ℕ) × (a ≡ Ask port key)
    × (r ≡ record { ask = s.next_ask; port = port; key = key; lower_bound = s.store.acked }))
unfolding act widened appended entered asked trimmed
reads_act s (Widen v) r h = inl h
reads_act s (Append e) r h = inl h
reads_act s (Reach n) r h = inl h
reads_act s (Settle e) r h = inl h
reads_act s (Send j body) r h = inl h
reads_act s (Finish q n) r h = inl (in_without _ s.asks r h)
reads_act s Trim r h = inl h
reads_act s (Enter port call) r h = inl h
reads_act s (Ask port key) r h =
    elim (in_pushed s.asks _ r h) [ inl old ↦ inl old | inr new ↦ inr (port, key, refl, new) ]
reads_act s (Show port key) r h = inl h
