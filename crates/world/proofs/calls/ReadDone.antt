-- An action keeps what is known of answered reads.
use Rattle.std.proofs.Common.{◌≡◌, ◌≢◌, ℕ, ◌<◌, ◌≤◌, true, List, [], ◌∷◌, ◌++◌, length, take, Some, refl, arith, ◌⊎◌}
use Rattle.std.proofs.Common.{inl, inr, ap, sym, ◌∙◌, subst, append-nil}
use Rattle.std.specs.Prelude.{slice_get}
use Rattle.std.proofs.lemmas.Option.{same_Some}
use Rattle.table.specs.Plain.{item_at, opening as opening_table}
use Rattle.table.specs.declared.operations.Call.{Call}
use Rattle.table.specs.declared.operations.Reply.{Reply}
use Rattle.table.specs.declared.operations.Reply.TheVariants.{Value}
use Rattle.versions.specs.Stores.{items_after}
use Rattle.node.specs.declared.messages.Output.{Output}
use Rattle.node.specs.Servers.{ServerState, reply_at}
use Rattle.world.specs.declared.connections.Stage.TheVariants.{Asked, Replied}
use Rattle.world.specs.Connections.{Connection, open_call, may_have, replied}
use Rattle.world.specs.Worlds.{World, server, with_server, with_connection, put_all}
use Rattle.world.specs.Calls.{CallId}
use Rattle.node.proofs.Lists.{Begins, pushed_cases}
use Rattle.node.specs.Actions.{Action, Widen, Append, Reach, Settle, Send, Finish, Trim, Enter, Ask, Show, act, Cause}
use Rattle.world.proofs.trace.Traces.{Traced, AnsweredRead, open_id, done}
use Rattle.world.proofs.trace.Layers.{Later, IsWith, IsRead, Read}
use Rattle.world.proofs.trace.WorldLaws.{Answers, changed_one}
use Rattle.world.proofs.trace.TraceLaws.{new_reads, reads_done, connection_done}
use Rattle.node.proofs.Beginnings.{begins-take, begins-length}
use Rattle.world.proofs.calls.OpenIds.{ordinal_of, with_begun}
use Rattle.world.proofs.calls.StepInputs.{IsStep}
use Rattle.world.proofs.calls.NewReads.{IsNewRead, new_read}

-- ---- the call of an answered read isn't with its server

-- the call of this ordinal has a reply, which was handed over or waits
abbrev pub IsOver : ℕ → Connection → Type 0
IsOver ordinal c =
    (ordinal < length c.replies) ⊎ ((ordinal ≡ length c.replies) × (reply : Reply) × (c.stage ≡ Replied reply))

over_kept : (os : List Output) (c ordinal : ℕ) (k l : Connection) → Answers os c k l → IsOver ordinal k
    → IsOver ordinal l
over_kept os c ordinal k l (inl same) h = rw same h
over_kept os c ordinal k l (inr answered) (inl less) = rw answered.4 (inl less)
over_kept os c ordinal k l (inr answered) (inr waits) = rw answered.4 (inr (waits.0, answered.0, refl))

asked_not_over : (ordinal : ℕ) (k : Connection) → ordinal ≡ length k.replies → k.stage ≡ Asked → IsOver ordinal k → ⊥
asked_not_over ordinal k at asked (inl less) = omega (arith, at)
asked_not_over ordinal k at asked (inr waits) = let e : Asked ≡ Replied waits.1 = sym asked ∙ waits.2 in absurd cc

-- a call that is with its server is none of the answered reads
pub unread : (t : Traced) (i c : ℕ) (call : Call) (r : AnsweredRead)
    → IsWith t i c call
    → IsRead t r
    → r.id ≢ open_id t.world c
unread t i c call r h is =
    λ same.
    let spot : slice_get t.world.connections c ≡ Some is.connection =
    subst (λ (x : CallId). slice_get t.world.connections x.connection ≡ Some is.connection) same is.here in
    let one : is.connection ≡ h.connection = same_Some _ _ (sym spot ∙ h.here) in
    let ordinal : r.id.ordinal ≡ length is.connection.replies =
    ap (λ (x : CallId). x.ordinal) same ∙ ordinal_of t.world c is.connection spot in
    asked_not_over r.id.ordinal is.connection ordinal (rw one h.stage) is.over

-- ---- an answered read, later on

-- its item is that of the same number, as committed entries stay
pub item_kept : (t u : Traced) (n : ℕ) (key : List ℕ)
    → Begins t.committed u.committed
    → n ≤ length t.committed
    → item_at (items_after opening_table.items (take n t.committed)) key
    ≡ item_at (items_after opening_table.items (take n u.committed)) key
item_kept t u n key b l =
    ap (λ es. item_at (items_after opening_table.items es) key) (sym (begins-take n t.committed u.committed b l))

-- an answered read is one later on, as long as its call's reply waits or was handed over
pub read_later : (t u : Traced) (r : AnsweredRead) (k : Connection)
    → Later t u
    → (is : IsRead t r)
    → slice_get u.world.connections r.id.connection ≡ Some k
    → IsOver r.id.ordinal k
    → IsRead u r
read_later t u r k l is here over =
    let more = begins-length t.committed u.committed l.committed in
    record {
      call = is.call;
      connection = k;
      begun = l.calls r.id is.call is.begun;
      read = is.read;
      target = is.target;
      number = omega (arith, is.number, more);
      item = is.item ∙ item_kept t u r.number r.key l.committed is.number;
      here = here;
      over = over;
    }

old_read : (t : Traced) (i : ℕ) (a : Action) (r : AnsweredRead)
    → Later t (done t i a)
    → IsRead t r
    → IsRead (done t i a) r
old_read t i a r l is =
    let k = connection_done t i a r.id.connection is.connection is.here in
    read_later t (done t i a) r k.0 l is k.1 (over_kept _ r.id.connection r.id.ordinal is.connection k.0 k.2 is.over)

-- ---- a read that is answered now

-- the reply that a server puts out alone waits at its connection
put_one : (w : World) (i c : ℕ) (s : ServerState) (os : List Output) (reply : Reply) (k : Connection)
    → os ≡ reply_at c reply
    → slice_get w.connections c ≡ Some k
    → slice_get (put_all (with_server w i s) i os).connections c ≡ Some (replied k.stage reply k)
unfolding put_all with_server with_connection
put_one w i c s os reply k is here =
    let change = λ (k : Connection). replied k.stage reply k in
    let one = changed_one w.connections c change c k here in
    let same : one.0 ≡ change k = elim one.2 [ inl h ↦ h.1 | inr h ↦ absurd (h.0 refl) ] in
    rw (is, ← same) one.1

put_there : (t : Traced) (i : ℕ) (a : Action) (c : ℕ) (reply : Reply) (k : Connection)
    → (act (server t.world i) a).outputs ≡ reply_at c reply
    → slice_get t.world.connections c ≡ Some k
    → slice_get (done t i a).world.connections c ≡ Some (replied k.stage reply k)
unfolding done
put_there t i a c reply k is here = put_one t.world i c (act (server t.world i) a).state _ reply k is here

read_waits : (k : Connection) (call : Call) (reply : Reply)
    → k.stage ≡ Asked
    → open_call k ≡ Some call
    → may_have (Some call) reply ≡ true
    → replied k.stage reply k ≡ record k { stage = Replied reply }
read_waits k call reply asked is may = rw (asked, is, may) refl

now_read : (t : Traced) (i : ℕ) (a : Action) (r : AnsweredRead)
    → Later t (done t i a)
    → IsNewRead t i a r
    → IsRead (done t i a) r
now_read t i a r l n =
    let k = n.asked.connection in
    let may : may_have (Some n.call) (Value r.item) ≡ true = rw n.read refl in
    let waits = read_waits k n.call (Value r.item) n.asked.stage n.asked.asked may in
    let there : slice_get (done t i a).world.connections n.port ≡ Some (record k { stage = Replied (Value r.item) }) =
    rw (← waits) (put_there t i a n.port (Value r.item) k n.put n.asked.here) in
    let port : r.id.connection ≡ n.port = ap (λ (x : CallId). x.connection) n.name in
    let ordinal : r.id.ordinal ≡ length k.replies =
    ap (λ (x : CallId). x.ordinal) n.name ∙ ordinal_of t.world n.port k n.asked.here in
    let more = begins-length t.committed (done t i a).committed l.committed in
    record {
      call = n.call;
      connection = record k { stage = Replied (Value r.item) };
      begun = rw n.name (l.calls (open_id t.world n.port) n.call (with_begun t i n.port n.call n.asked));
      read = n.read;
      target = n.target;
      number = omega (arith, n.number, more);
      item = n.item ∙ item_kept t (done t i a) r.number r.key l.committed n.number;
      here = rw port there;
      over = inr (ordinal, Value r.item, refl);
    }

-- ---- the answered reads after an action

-- an answered read is an old one, or that which is answered now
reads_cases : (t : Traced) (i : ℕ) (a : Action) (k : ℕ) (r : AnsweredRead)
    → slice_get (t.reads ++ new_reads t i a) k ≡ Some r
    → (slice_get t.reads k ≡ Some r) ⊎ ((k ≡ length t.reads) × (new_reads t i a ≡ r ∷ []))
reads_cases t i (Widen v) k r h = inl (rw append-nil at h)
reads_cases t i (Append e) k r h = inl (rw append-nil at h)
reads_cases t i (Reach n) k r h = inl (rw append-nil at h)
reads_cases t i (Settle e) k r h = inl (rw append-nil at h)
reads_cases t i (Send j body) k r h = inl (rw append-nil at h)
reads_cases t i (Finish q n) k r h =
    elim (pushed_cases t.reads _ k r h) [ inl old ↦ inl old | inr new ↦ inr (new.0, ap (λ x. x ∷ []) (sym new.1)) ]
reads_cases t i Trim k r h = inl (rw append-nil at h)
reads_cases t i (Enter port call) k r h = inl (rw append-nil at h)
reads_cases t i (Ask port key) k r h = inl (rw append-nil at h)
reads_cases t i (Show port key) k r h =
    elim (pushed_cases t.reads _ k r h) [ inl old ↦ inl old | inr new ↦ inr (new.0, ap (λ x. x ∷ []) (sym new.1)) ]

in_reads : (t : Traced) (i : ℕ) (a : Action) (k : ℕ) (r : AnsweredRead)
    → slice_get (done t i a).reads k ≡ Some r
    → (slice_get t.reads k ≡ Some r) ⊎ ((k ≡ length t.reads) × (new_reads t i a ≡ r ∷ []))
in_reads t i a k r h = reads_cases t i a k r (subst (λ rs. slice_get rs k ≡ Some r) (reads_done t i a) h)

apart : (t : Traced) (i : ℕ) (cause : Cause) (a : Action) (j : ℕ) (r q : AnsweredRead)
    → IsStep t i cause a
    → new_reads t i a ≡ r ∷ []
    → slice_get t.reads j ≡ Some q
    → q.id ≢ r.id
apart t i cause a j r q g new old =
    let n = new_read t i cause a r g new in
    λ same. unread t i n.port n.call q n.asked (g.lawful.read.reads j q old) (same ∙ n.name)

reads_once : (t : Traced) (i : ℕ) (cause : Cause) (a : Action) (j k : ℕ) (r q : AnsweredRead)
    → IsStep t i cause a
    → slice_get (done t i a).reads j ≡ Some r
    → slice_get (done t i a).reads k ≡ Some q
    → r.id ≡ q.id
    → j ≡ k
reads_once t i cause a j k r q g h f same =
    elim (in_reads t i a j r h) [
      | inl old ↦ elim (in_reads t i a k q f) [
        | inl too ↦ g.lawful.read.once j k r q old too same
        | inr new ↦ absurd (apart t i cause a j q r g new.1 old same)
      ]
      | inr new ↦ elim (in_reads t i a k q f) [
        | inl old ↦ absurd (apart t i cause a k r q g new.1 old (sym same))
        | inr too ↦ new.0 ∙ sym too.0
      ]
    ]

-- an action keeps what is known of answered reads
pub read_done : (t : Traced) (i : ℕ) (cause : Cause) (a : Action) → IsStep t i cause a → Read (done t i a)
read_done t i cause a g = record {
  reads = λ k r h. elim (in_reads t i a k r h) [
    | inl old ↦ old_read t i a r g.later (g.lawful.read.reads k r old)
    | inr new ↦ now_read t i a r g.later (new_read t i cause a r g new.1)
  ];
  once = λ j k r q h f same. reads_once t i cause a j k r q g h f same;
}
