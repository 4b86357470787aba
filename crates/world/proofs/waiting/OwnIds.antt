-- The ids of own updates, one case an action.
use Rattle.std.proofs.Common.{◌≡◌, ◌≢◌, ℕ, ◌+◌, ◌-◌, ◌<◌, ◌≤◌, max, Bool, true, false, cond, List, [], ◌∷◌, ◌++◌, take}
use Rattle.std.proofs.Common.{drop, refl, arith, inl, inr, ap, sym, subst, ◌∙◌, append_assoc}
use Rattle.std.specs.Prelude.{◌==◌}
use Rattle.std.proofs.lemmas.Bool.{cases_eq, eq-eqb, ne_eqb}
use Rattle.std.proofs.lemmas.List.{append-nil, drop-drop, drop-append-le, take-append-drop}
use Rattle.table.specs.declared.operations.Call.{Call}
use Rattle.versions.specs.Entries.{LogEntry}
use Rattle.versions.specs.Stores.{IsStore, entries_after, dropped_to}
use Rattle.node.specs.declared.servers.OpenUpdate.{OpenUpdate}
use Rattle.node.specs.declared.messages.Body.{Body}
use Rattle.node.specs.declared.messages.Body.TheVariants.{Op, Forward, Ack, Query, Answer}
use Rattle.node.specs.Views.{View}
use Rattle.node.specs.Servers.{ServerState, seen_of}
use Rattle.node.specs.Numbering.{newly_acked, left_open_by, without_update, appended, entered}
use Rattle.node.specs.Reading.{asked}
use Rattle.node.specs.Joining.{widened}
use Rattle.node.specs.Steps.{trimmed, least_open}
use Rattle.node.specs.Lawful.{IsSound}
use Rattle.node.specs.Actions.{Action, Widen, Append, Reach, Settle, Send, Finish, Trim, Enter, Ask, Show, act, Cause}
use Rattle.node.specs.Actions.{Guard, Due, IsTurn, due, due_after, nothing_due, due_to_new, but_first}
use Rattle.node.proofs.SoundLaws.{least_within}
use Rattle.node.proofs.DoneRules.{seen_same, seen_other}
use Rattle.world.proofs.streams.Streaming.{IsRun}
use Rattle.world.proofs.streams.ForwardRuns.{run-append, run_up}
use Rattle.world.proofs.waiting.Opening.{ids, ids_of, unacked, AreOwn}

-- ---- lists

joined_step : (b : Bool) (x : ℕ) (xs ys all : List ℕ) → all ≡ xs ++ ys → cond b (x ∷ all) all ≡ cond b (x ∷ xs) xs ++ ys
joined_step true x xs ys all h = ap (λ rest. x ∷ rest) h
joined_step false x xs ys all h = h

-- two joined logs have the ids that the first has of an origin, and then those that the second has
pub ids_of-append : (o : ℕ) (es fs : List LogEntry) → ids_of o (es ++ fs) ≡ ids_of o es ++ ids_of o fs
ids_of-append o [] fs = refl
ids_of-append o (e ∷ es) fs = joined_step (e.origin == o) e.id (ids_of o es) (ids_of o fs) _ (ids_of-append o es fs)

-- ---- rising

-- the first that waits is answered
first_out : (a last id : ℕ) (us : List OpenUpdate)
    → IsRun a last (ids us)
    → id ≡ a + 1
    → id ≤ last
    → IsRun (a + 1) last (ids (without_update us id))
first_out a last id [] run is low = absurd (omega (arith, run, is, low))
first_out a last id (u ∷ us) run is low = rw (eq-eqb u.id id (run.0 ∙ sym is)) run.1

own_step : (b : Bool) (o next_id seen : ℕ) (us : List OpenUpdate) (e : LogEntry) (rest : List ℕ)
    → AreOwn next_id seen (ids us) (cond b (e.id ∷ rest) rest)
    → AreOwn next_id seen (ids (cond b (without_update us e.id) us)) rest
own_step false o next_id seen us e rest h = h
own_step true o next_id seen us e rest h =
    let up = run_up rest (h.answered + 1) seen h.taken.1 in
    record {
      answered = h.answered + 1;
      last = h.last;
      issued = h.issued;
      waiting = first_out h.answered h.last e.id us h.waiting h.taken.0 (omega (arith, up, h.high, h.taken.0));
      taken = h.taken.1;
      high = h.high;
    }

-- ---- appending

-- an entry that is appended isn't acknowledged yet
pub unacked_appended : (s : ServerState) (e : LogEntry)
    → IsStore s.store
    → unacked (appended s e).store ≡ unacked s.store ++ e ∷ []
unfolding appended
unacked_appended s e store = drop-append-le (s.store.acked - s.store.floor) s.store.rest (e ∷ [])
    (omega (arith, store.acked_held, store.floor_acked))

-- one more own entry
own_more : (o next_id seen : ℕ) (waits : List ℕ) (es all : List LogEntry) (e : LogEntry)
    → all ≡ es ++ e ∷ []
    → e.origin ≡ o
    → e.id ≡ seen + 1
    → e.id < next_id
    → AreOwn next_id seen waits (ids_of o es) → AreOwn next_id (seen + 1) waits (ids_of o all)
own_more o next_id seen waits es all e is own next low h = record {
  answered = h.answered;
  last = h.last;
  issued = h.issued;
  waiting = h.waiting;
  taken = rw (is, ids_of-append o es (e ∷ []), own, eq-eqb o o refl)
      (run-append (ids_of o es) (e.id ∷ []) h.answered seen (seen + 1) h.taken (next, refl));
  high = omega (arith, low, next, h.issued);
}

-- one more of another origin
own_other : (o next_id seen : ℕ) (waits : List ℕ) (es all : List LogEntry) (e : LogEntry)
    → all ≡ es ++ e ∷ []
    → e.origin ≢ o
    → AreOwn next_id seen waits (ids_of o es) → AreOwn next_id seen waits (ids_of o all)
own_other o next_id seen waits es all e is other h =
    rw (is, ids_of-append o es (e ∷ []), ne_eqb e.origin o other, append-nil (ids_of o es)) h

-- an entry of this server's own is its next one
abbrev pub IsNextOwn : ServerState → LogEntry → Type 0
IsNextOwn s e = e.origin ≡ s.id → (e.id ≡ seen_of s s.id + 1) × (e.id < s.next_id)

-- what an append leaves
same_appended : (s : ServerState) (e : LogEntry)
    → ((appended s e).id ≡ s.id) × ((appended s e).next_id ≡ s.next_id) × ((appended s e).pend ≡ s.pend)
unfolding appended
same_appended s e = (refl, refl, refl)

seen_own : (s : ServerState) (e : LogEntry)
    → IsSound s
    → IsNextOwn s e
    → e.origin ≡ s.id
    → seen_of (appended s e) s.id ≡ seen_of s s.id + 1
seen_own s e h next own =
    let new : seen_of (appended s e) s.id ≡ max (seen_of s s.id) e.id =
    ap (λ o. seen_of (appended s e) o) (sym own) ∙ seen_same s e (omega (arith, own, h.placed, h.counted, h.seen))
    ∙ ap (λ o. max (seen_of s o) e.id) own in
    omega (arith, new, (next own).0)

-- ---- actions

-- the same within a step, in which acknowledged entries are still to close their calls
abbrev pub OwnDue : ServerState → Due → Type 0
OwnDue s d = AreOwn s.next_id (seen_of s s.id) (ids s.pend) (ids_of s.id (d.unsettled ++ unacked s.store))

own_widened : (s : ServerState) (v : View)
    → OwnDue s (nothing_due s)
    → OwnDue (widened s v) (due_to_new s (widened s v))
unfolding widened
own_widened s v h = h

own_appended : (s : ServerState) (d : Due) (e : LogEntry)
    → IsSound s
    → IsNextOwn s e
    → OwnDue s d
    → OwnDue (appended s e) d
own_appended s d e h next own =
    let same = same_appended s e in
    let old = d.unsettled ++ unacked s.store in
    let all : d.unsettled ++ unacked (appended s e).store ≡ old ++ e ∷ [] =
    ap (λ es. d.unsettled ++ es) (unacked_appended s e h.store)
    ∙ sym (append_assoc d.unsettled (unacked s.store) (e ∷ [])) in
    elim (cases_eq e.origin s.id) [
      | inl is ↦
          let n = next is in
          rw (same.0, same.1, same.2, seen_own s e h next is)
          (own_more s.id s.next_id (seen_of s s.id) (ids s.pend) old _ e all is n.0 n.1 own)
      | inr other ↦
          let seen = seen_other s e s.id (λ is. other (sym is)) in
          rw (same.0, same.1, same.2, seen)
          (own_other s.id s.next_id (seen_of s s.id) (ids s.pend) old _ e all other own)
    ]

own_reached : (s : ServerState) (d : Due) (n : ℕ) → IsStore s.store → s.store.acked ≤ n → d.unsettled ≡ [] → OwnDue s d
    → AreOwn s.next_id (seen_of s s.id) (ids s.pend) (ids_of s.id (newly_acked s n ++ entries_after s.store n))
own_reached s d n store le due own =
    let k = n - s.store.acked in
    let later : drop k (unacked s.store) ≡ entries_after s.store n =
    drop-drop k (s.store.acked - s.store.floor) s.store.rest
    ∙ ap (λ j. drop j s.store.rest) (omega (arith, store.floor_acked, le)) in
    let all : newly_acked s n ++ entries_after s.store n ≡ unacked s.store =
    ap (λ es. take k (unacked s.store) ++ es) (sym later) ∙ take-append-drop k (unacked s.store) in
    subst (λ es. AreOwn s.next_id (seen_of s s.id) (ids s.pend) (ids_of s.id es)) (sym all)
    (subst (λ us. AreOwn s.next_id (seen_of s s.id) (ids s.pend) (ids_of s.id (us ++ unacked s.store))) due own)

own_settled : (s : ServerState) (d : Due) (e : LogEntry) (more : List LogEntry) → d.unsettled ≡ e ∷ more → OwnDue s d
    → AreOwn s.next_id (seen_of s s.id) (ids (left_open_by s.id s.pend e))
    (ids_of s.id (but_first d.unsettled ++ unacked s.store))
own_settled s d e more due own =
    subst (λ us. AreOwn s.next_id (seen_of s s.id) (ids (left_open_by s.id s.pend e))
    (ids_of s.id (us ++ unacked s.store))) (sym (ap (λ (us : List LogEntry). but_first us) due))
    (own_step (e.origin == s.id) s.id s.next_id (seen_of s s.id) s.pend e (ids_of s.id (more ++ unacked s.store))
    (subst (λ us. AreOwn s.next_id (seen_of s s.id) (ids s.pend) (ids_of s.id (us ++ unacked s.store))) due own))

own_trimmed : (s : ServerState) (d : Due) → IsSound s → OwnDue s d → OwnDue (trimmed s) d
unfolding trimmed
own_trimmed s d h own =
    let between = least_within 0 s.store.floor s.asks s.next_ask s.store.acked h.reads in
    let n = least_open s.store.acked s.asks in
    let same : unacked (dropped_to s.store n) ≡ unacked s.store =
    drop-drop (s.store.acked - n) (n - s.store.floor) s.store.rest
    ∙ ap (λ k. drop k s.store.rest) (omega (arith, between.0, between.1)) in
    rw same own

own_sent : (s : ServerState) (d : Due) (body : Body) → OwnDue s d → OwnDue s (due_after body d)
own_sent s d (Op id call) own = own
own_sent s d (Forward e) own = own
own_sent s d (Ack n) own = own
own_sent s d (Query ask key) own = own
own_sent s d (Answer ask n) own = own

-- one more waits
pub ids-append : (us vs : List OpenUpdate) → ids (us ++ vs) ≡ ids us ++ ids vs
ids-append [] vs = refl
ids-append (u ∷ us) vs = ap (λ ns. u.id ∷ ns) (ids-append us vs)

own_pushed : (next_id seen : ℕ) (us : List OpenUpdate) (u : OpenUpdate) (takes : List ℕ)
    → u.id ≡ next_id
    → AreOwn next_id seen (ids us) takes
    → AreOwn (next_id + 1) seen (ids (us ++ u ∷ [])) takes
own_pushed next_id seen us u takes is h = record {
  answered = h.answered;
  last = h.last + 1;
  issued = omega (arith, h.issued);
  waiting = rw (ids-append us (u ∷ []))
      (run-append (ids us) (u.id ∷ []) h.answered h.last (h.last + 1) h.waiting (omega (arith, is, h.issued), refl));
  taken = h.taken;
  high = omega (arith, h.high);
}

own_entered : (s : ServerState) (d : Due) (port : ℕ) (made : Call) (us : List OpenUpdate)
    → OwnDue s d
    → OwnDue (entered s port made) (record d { unsent = us })
unfolding entered
own_entered s d port made us h =
    own_pushed s.next_id (seen_of s s.id) s.pend (record { id = s.next_id; port = port; call = made }) _ refl h

-- each action keeps it
pub own_act : (c : Cause) (d : Due) (s : ServerState) (a : Action)
    → IsSound s
    → Guard c s a
    → IsTurn d s a
    → ((e : LogEntry) → a ≡ Append e → IsNextOwn s e)
    → OwnDue s d
    → OwnDue (act s a).state (due d s a)
unfolding act asked
own_act c d s (Widen v) h g t next own = own_widened s v (subst (λ (x : Due). OwnDue s x) t own)
own_act c d s (Append e) h g t next own = own_appended s d e h (next e refl) own
own_act c d s (Reach n) h g t next own = own_reached s d n h.store (omega (arith, g.0)) t own
own_act c d s (Settle e) h g t next own = own_settled s d e t.0 t.1 own
own_act c d s (Send j body) h g t next own = own_sent s d body own
own_act c d s (Finish r n) h g t next own = own
own_act c d s Trim h g t next own = own_trimmed s d h own
own_act c d s (Enter port call) h g t next own =
    own_entered s d port call (d.unsent ++ record { id = s.next_id; port = port; call = call } ∷ []) own
own_act c d s (Ask port key) h g t next own = own
own_act c d s (Show port key) h g t next own = own
