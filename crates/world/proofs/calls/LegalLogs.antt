-- After an action: the ids in each log, what was seen of each origin, and that each entry is what its call decides.
use Rattle.std.proofs.Common.{◌≡◌, ℕ, ◌+◌, ◌-◌, ◌<◌, true, max, List, [], ◌∷◌, ◌++◌, length, take, Some, refl, arith}
use Rattle.std.proofs.Common.{◌⊎◌, inl, inr, ap, sym, ◌∙◌, subst, append-nil}
use Rattle.std.specs.Prelude.{slice_get, slice_index_or, slice_set}
use Rattle.std.proofs.lemmas.Option.{slice_get_within}
use Rattle.std.proofs.lemmas.Bool.{cases_eq, and_parts, eqb-true}
use Rattle.std.proofs.lemmas.List.{take_all, get_or-set_same, get_or-set_other}
use Rattle.table.specs.Operations.{is_update}
use Rattle.table.specs.Decisions.{decision}
use Rattle.table.specs.Plain.{item_at, item_of, opening as opening_table}
use Rattle.table.specs.declared.operations.Call.{Call}
use Rattle.table.specs.declared.operations.Target.{Target}
use Rattle.table.specs.declared.operations.Target.TheVariants.{One, All}
use Rattle.versions.specs.Entries.{LogEntry}
use Rattle.versions.specs.Stores.{StoreState, last_number, items_after}
use Rattle.node.specs.declared.messages.Input.TheVariants.{From}
use Rattle.node.specs.Servers.{ServerState, seen_of}
use Rattle.node.specs.Numbering.{newest, appended, entered}
use Rattle.node.specs.Reading.{asked}
use Rattle.node.specs.Joining.{widened}
use Rattle.node.specs.Steps.{trimmed}
use Rattle.node.proofs.ViewLaws.{predecessor_is}
use Rattle.world.specs.Worlds.{server}
use Rattle.node.proofs.Lists.{pushed_cases}
use Rattle.node.specs.Actions.{Action, Widen, Append, Reach, Settle, Send, Finish, Trim, Enter, Ask, Show, act, Cause}
use Rattle.node.specs.Actions.{IsWanted, IsMade, IsPassed}
use Rattle.world.proofs.trace.Traces.{Traced, log, count, open_id, done}
use Rattle.world.proofs.trace.Layers.{Holds, IsIssued, IsDecided, Asks, Carries, entries_of}
use Rattle.world.proofs.trace.TraceLaws.{new_entries, server_done, server_other, log_done, log_other}
use Rattle.node.proofs.Beginnings.{begins-take}
use Rattle.node.proofs.BegunLists.{begins_taken}
use Rattle.world.proofs.layers.HeldLogs.{held_last, held_value}
use Rattle.world.proofs.calls.EntryCounts.{entries-own, entries-other}
use Rattle.world.proofs.calls.Kept.{decided_as, decided_later}
use Rattle.world.proofs.calls.OpenIds.{with_begun}
use Rattle.world.proofs.calls.StepInputs.{IsStep, within, known_of}

-- ---- an entry that may be appended

-- its id is the next one of its origin, and it is what its call decides after the whole log
pub record IsNextEntry (t : Traced) (i : ℕ) (e : LogEntry) : Type 0 where
  pub id : e.id ≡ entries_of e.origin (log t i) + 1
  pub decided : IsDecided t (log t i) (length (log t i)) e

-- the newest item of a store's target
newest_held : (es : List LogEntry) (s : StoreState) (target : Target)
    → Holds es s
    → item_of (items_after opening_table.items es) target ≡ newest s target
newest_held es s (One key) h =
    let last = held_last es s h in
    let all : take (last_number s) es ≡ es = take_all (last_number s) es (omega (arith, last)) in
    sym (held_value es s key (last_number s) h (omega arith)
    ∙ ap (λ fs. item_at (items_after opening_table.items fs) key) all)
newest_held es s All h = refl

wanted_issued : (t : Traced) (i : ℕ) (cause : Cause) (e : LogEntry) (origin id : ℕ) (call : Call)
    → IsStep t i cause (Append e)
    → is_update call.op ≡ true
    → IsWanted cause (server t.world i) origin id call
    → IsIssued t origin id call
wanted_issued t i cause e origin id call g update (inl own) =
    let lt = within t i cause (Append e) g in
    let p = g.lawful.calling.pend i (record { id = id; port = own.1; call = call }) lt own.2 in
    let here : origin ≡ i = own.0 ∙ g.lawful.framed.id i lt in
    rw here (record {
      name = open_id t.world own.1;
      low = p.0;
      issued = p.1;
      begun = with_begun t i own.1 call p.2;
      update = update;
    })
wanted_issued t i cause e origin id call g update (inr op) =
    let k = known_of t i cause (Some (From origin op.0)) op.1 g.known in
    subst (λ b. Asks t origin b) op.2 k.2

made_decided : (t : Traced) (i : ℕ) (cause : Cause) (e : LogEntry)
    → Holds (log t i) (server t.world i).store
    → (m : IsMade cause (server t.world i) e)
    → decision (item_of (items_after opening_table.items (take (length (log t i)) (log t i))) e.target) m.call.op
    (length (log t i) + 1) ≡ (e.reply, e.change)
made_decided t i cause e h m =
    let es = log t i in
    let s = server t.world i in
    let target : e.target ≡ m.call.target = ap (λ (x : LogEntry). x.target) m.made in
    ap (λ fs. decision (item_of (items_after opening_table.items fs) e.target) m.call.op (length es + 1))
    (take_all (length es) es (omega arith))
    ∙ ap (λ x. decision (item_of (items_after opening_table.items es) x) m.call.op (length es + 1)) target
    ∙ ap (λ item. decision item m.call.op (length es + 1)) (newest_held es s.store m.call.target h)
    ∙ ap (λ n. decision (newest s.store m.call.target) m.call.op (n + 1)) (sym (held_last es s.store h))
    ∙ sym (ap (λ (x : LogEntry). (x.reply, x.change)) m.made)

made_next : (t : Traced) (i : ℕ) (cause : Cause) (e : LogEntry)
    → IsStep t i cause (Append e)
    → IsMade cause (server t.world i) e
    → IsNextEntry t i e
made_next t i cause e g m =
    let lt = within t i cause (Append e) g in
    let origin : e.origin ≡ m.origin = ap (λ (x : LogEntry). x.origin) m.made in
    let id : e.id ≡ m.id = ap (λ (x : LogEntry). x.id) m.made in
    let served : e.origin < 16 = g.guard.0.served in
    let seen = g.lawful.calling.seen i e.origin lt served in
    let next : m.id ≡ seen_of (server t.world i) m.origin + 1 = eqb-true _ _ (and_parts _ _ m.taken).0 in
    let same : seen_of (server t.world i) m.origin ≡ seen_of (server t.world i) e.origin =
    ap (λ o. seen_of (server t.world i) o) (sym origin) in
    record {
      id = omega (arith, id, next, same, seen);
      decided = record {
        call = m.call;
        issued = rw (origin, id) (wanted_issued t i cause e m.origin m.id m.call g m.update m.wanted);
        target = ap (λ (x : LogEntry). x.target) m.made;
        decided = made_decided t i cause e (g.lawful.logged.holds i lt) m;
      };
    }

passed_next : (t : Traced) (i : ℕ) (cause : Cause) (e : LogEntry)
    → IsStep t i cause (Append e)
    → IsPassed cause (server t.world i) e
    → IsNextEntry t i e
passed_next t i cause e g m =
    let l = g.lawful in
    let lt = within t i cause (Append e) g in
    let k = known_of t i cause (Some (From m.from m.message)) m.came g.known in
    let carried = subst (λ b. Carries t m.from m.message.view b) m.body k.1 in
    let before = predecessor_is _ _ _ m.predecessor in
    let below : m.from < i = rw (l.framed.id i lt) at before.below in
    let front = begins_taken (log t i) (log t m.from) (l.logged.begins m.from i below lt before.out) in
    let ordinal : e.number - 1 ≡ length (log t i) =
    omega (arith, m.next, held_last (log t i) (server t.world i).store (l.logged.holds i lt)) in
    let at : slice_get (log t m.from) (length (log t i)) ≡ Some e = rw ordinal at carried.1 in
    let own = take_all (length (log t i)) (log t i) (omega arith) in
    record {
      id = rw front at (l.calling.ids m.from (length (log t i)) e at);
      decided = decided_as t (log t m.from) (log t i) (length (log t i)) e (own ∙ sym front)
          (l.calling.decided m.from (length (log t i)) e at);
    }

-- an entry that a step appends has the next id of its origin, and is what its call decides
pub next_entry : (t : Traced) (i : ℕ) (cause : Cause) (e : LogEntry) → IsStep t i cause (Append e) → IsNextEntry t i e
next_entry t i cause e g =
    elim g.guard.1 [ inl made ↦ made_next t i cause e g made | inr passed ↦ passed_next t i cause e g passed ]

-- ---- logs after an action

-- an entry of a log is an old one, or that which is appended
pub record IsAppended (t : Traced) (i : ℕ) (a : Action) (j k : ℕ) (e : LogEntry) : Type 0 where
  pub is : a ≡ Append e
  pub here : j ≡ i
  pub ordinal : k ≡ length (log t i)

appended_or_old : (t : Traced) (i : ℕ) (a : Action) (k : ℕ) (e : LogEntry)
    → slice_get (log t i ++ new_entries a) k ≡ Some e
    → (slice_get (log t i) k ≡ Some e) ⊎ IsAppended t i a i k e
appended_or_old t i (Widen v) k e h = inl (rw append-nil at h)
appended_or_old t i (Append d) k e h =
    elim (pushed_cases (log t i) d k e h)
    [ inl old ↦ inl old | inr new ↦ inr (record { is = ap Append (sym new.1); here = refl; ordinal = new.0 }) ]
appended_or_old t i (Reach n) k e h = inl (rw append-nil at h)
appended_or_old t i (Settle d) k e h = inl (rw append-nil at h)
appended_or_old t i (Send j body) k e h = inl (rw append-nil at h)
appended_or_old t i (Finish r n) k e h = inl (rw append-nil at h)
appended_or_old t i Trim k e h = inl (rw append-nil at h)
appended_or_old t i (Enter port call) k e h = inl (rw append-nil at h)
appended_or_old t i (Ask port key) k e h = inl (rw append-nil at h)
appended_or_old t i (Show port key) k e h = inl (rw append-nil at h)

whole_log : (t : Traced) (i : ℕ) (cause : Cause) (a : Action)
    → IsStep t i cause a
    → log (done t i a) i ≡ log t i ++ new_entries a
whole_log t i cause a g =
    let rooms : i < length t.logs = rw g.lawful.framed.logs (within t i cause a g) in log_done t i a rooms

in_logs : (t : Traced) (i : ℕ) (cause : Cause) (a : Action)
    → IsStep t i cause a
    → (j k : ℕ) (e : LogEntry)
    → slice_get (log (done t i a) j) k ≡ Some e
    → (slice_get (log t j) k ≡ Some e) ⊎ IsAppended t i a j k e
in_logs t i cause a g j k e h =
    elim (cases_eq j i) [
      | inl same ↦
          let all : log (done t i a) j ≡ log t i ++ new_entries a = rw same (whole_log t i cause a g) in
          rw same (appended_or_old t i a k e (subst (λ es. slice_get es k ≡ Some e) all h))
      | inr other ↦ inl (subst (λ es. slice_get es k ≡ Some e) (log_other t i a j other) h)
    ]

-- what stood before an old entry stands there still
old_front : (t : Traced) (i : ℕ) (cause : Cause) (a : Action) (j k : ℕ) (e : LogEntry)
    → IsStep t i cause a
    → slice_get (log t j) k ≡ Some e
    → take k (log (done t i a) j) ≡ take k (log t j)
old_front t i cause a j k e g h = let less =
    slice_get_within (log t j) k e h in begins-take k (log t j) (log (done t i a) j) (g.later.logs j)
    (omega (arith, less))

-- before the new one stands the old log
new_front : (t : Traced) (i : ℕ) (cause : Cause) (a : Action) (j k : ℕ) (e : LogEntry)
    → IsStep t i cause a
    → IsAppended t i a j k e
    → take k (log (done t i a) j) ≡ log t i
new_front t i cause a j k e g new =
    rw (new.here, new.ordinal) (begins_taken (log t i) (log (done t i a) i) (g.later.logs i))

-- after an action the ids of an origin are 1, 2, 3 and so on in each log
pub ids_done : (t : Traced) (i : ℕ) (cause : Cause) (a : Action) (j k : ℕ) (e : LogEntry)
    → IsStep t i cause a
    → slice_get (log (done t i a) j) k ≡ Some e
    → e.id ≡ entries_of e.origin (take k (log (done t i a) j)) + 1
ids_done t i cause a j k e g h =
    elim (in_logs t i cause a g j k e h) [
      | inl old ↦ rw (old_front t i cause a j k e g old) (g.lawful.calling.ids j k e old)
      | inr new ↦ rw (new_front t i cause a j k e g new)
          (next_entry t i cause e (subst (λ b. IsStep t i cause b) new.is g)).id
    ]

-- after an action each entry of a log is what its call decides on what those before it leave
pub decided_done : (t : Traced) (i : ℕ) (cause : Cause) (a : Action) (j k : ℕ) (e : LogEntry)
    → IsStep t i cause a
    → slice_get (log (done t i a) j) k ≡ Some e
    → IsDecided (done t i a) (log (done t i a) j) k e
decided_done t i cause a j k e g h =
    decided_later t (done t i a) _ k e g.later (elim (in_logs t i cause a g j k e h) [
      | inl old ↦ decided_as t (log t j) _ k e (old_front t i cause a j k e g old) (g.lawful.calling.decided j k e old)
      | inr new ↦
          let all = take_all (length (log t i)) (log t i) (omega arith) in
          let front : take k (log (done t i a) j) ≡ take k (log t i) =
          new_front t i cause a j k e g new ∙ sym all ∙ ap (λ n. take n (log t i)) (sym new.ordinal) in
          decided_as t (log t i) _ k e front
          (rw new.ordinal (next_entry t i cause e (subst (λ b. IsStep t i cause b) new.is g)).decided)
    ])

-- ---- what was seen

seen_appended : (s : ServerState) (es : List LogEntry) (e : LogEntry) (o : ℕ)
    → length s.seen ≡ 16
    → e.origin < 16
    → e.id ≡ entries_of e.origin es + 1
    → seen_of s e.origin ≡ entries_of e.origin es → seen_of s o ≡ entries_of o es
    → slice_index_or (slice_set s.seen e.origin (max (seen_of s e.origin) e.id)) o 0 ≡ entries_of o (es ++ e ∷ [])
seen_appended s es e o all low id own before =
    elim (cases_eq o e.origin) [
      | inl same ↦
          let rooms : e.origin < length s.seen = rw all low in
          let new : slice_index_or (slice_set s.seen e.origin (max (seen_of s e.origin) e.id)) e.origin 0
          ≡ max (seen_of s e.origin) e.id =
          get_or-set_same s.seen e.origin _ 0 rooms in
          let many = entries-own es e in
          rw same (omega (arith, new, many, id, own))
      | inr other ↦ get_or-set_other s.seen e.origin o _ 0 other ∙ before
          ∙ sym (entries-other o es e (λ same. other (sym same)))
    ]

none_new : (o : ℕ) (n : ℕ) (es : List LogEntry) → n ≡ entries_of o es → n ≡ entries_of o (es ++ [])
none_new o n es h = rw append-nil h

seen_act : (t : Traced) (i : ℕ) (cause : Cause) (a : Action) (o : ℕ)
    → IsStep t i cause a
    → o < 16
    → seen_of (act (server t.world i) a).state o ≡ entries_of o (log t i ++ new_entries a)
unfolding act widened appended entered asked trimmed
seen_act t i cause (Widen v) o g l = none_new o _ (log t i) (g.lawful.calling.seen i o (within t i cause (Widen v) g) l)
seen_act t i cause (Append e) o g l =
    let lt = within t i cause (Append e) g in
    let low : e.origin < 16 = g.guard.0.served in
    seen_appended (server t.world i) (log t i) e o g.sound.seen low (next_entry t i cause e g).id
    (g.lawful.calling.seen i e.origin lt low) (g.lawful.calling.seen i o lt l)
seen_act t i cause (Reach n) o g l = none_new o _ (log t i) (g.lawful.calling.seen i o (within t i cause (Reach n) g) l)
seen_act t i cause (Settle e) o g l =
    none_new o _ (log t i) (g.lawful.calling.seen i o (within t i cause (Settle e) g) l)
seen_act t i cause (Send j body) o g l =
    none_new o _ (log t i) (g.lawful.calling.seen i o (within t i cause (Send j body) g) l)
seen_act t i cause (Finish r n) o g l =
    none_new o _ (log t i) (g.lawful.calling.seen i o (within t i cause (Finish r n) g) l)
seen_act t i cause Trim o g l = none_new o _ (log t i) (g.lawful.calling.seen i o (within t i cause Trim g) l)
seen_act t i cause (Enter port call) o g l =
    none_new o _ (log t i) (g.lawful.calling.seen i o (within t i cause (Enter port call) g) l)
seen_act t i cause (Ask port key) o g l =
    none_new o _ (log t i) (g.lawful.calling.seen i o (within t i cause (Ask port key) g) l)
seen_act t i cause (Show port key) o g l =
    none_new o _ (log t i) (g.lawful.calling.seen i o (within t i cause (Show port key) g) l)

-- after an action what a server has seen of an origin is how many entries of it its log has
pub seen_done : (t : Traced) (i : ℕ) (cause : Cause) (a : Action) (j o : ℕ)
    → IsStep t i cause a
    → j < count (done t i a)
    → o < 16
    → seen_of (server (done t i a).world j) o ≡ entries_of o (log (done t i a) j)
seen_done t i cause a j o g lt l =
    elim (cases_eq j i) [
      | inl same ↦ rw (same, server_done t i a (within t i cause a g), whole_log t i cause a g)
          (seen_act t i cause a o g l)
      | inr other ↦ rw (server_other t i a j other, log_other t i a j other)
          (g.lawful.calling.seen j o (rw (← g.later.count) lt) l)
    ]
