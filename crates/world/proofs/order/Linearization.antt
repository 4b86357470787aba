-- The order of a traced world is a linearization of its schedule.
use Rattle.std.proofs.Common.{◌≡◌, ℕ, ◌+◌, ◌-◌, ◌<◌, ◌≤◌, List, length, take, Option, None, Some, refl, sym, ap, ◌∙◌}
use Rattle.std.proofs.Common.{suc, arith, subst, ◌⊎◌, inl, inr}
use Rattle.std.specs.Prelude.{slice_get, IsSome}
use Rattle.std.proofs.lemmas.Bool.{both_ways, cases_lt, cases_order}
use Rattle.std.proofs.lemmas.Option.{same_Some, slice_get_within}
use Rattle.table.specs.declared.operations.Reply.{Reply}
use Rattle.versions.specs.Entries.{LogEntry}
use Rattle.world.specs.declared.events.Event.{Event}
use Rattle.world.specs.Worlds.{World, run_of}
use Rattle.world.specs.Calls.{CallId, begun_call, reply_to, IsUpdate, is_given}
use Rattle.world.specs.Orders.{OrderedCall, StandsAt, IsLinearization, Precedes, GivenBefore}
use Rattle.world.proofs.lists.Standing.{some_of}
use Rattle.world.proofs.trace.Traces.{Traced, AnsweredRead, issued_by}
use Rattle.world.proofs.trace.Layers.{entries_of, IsNamed, IsAnswer, Later, Newer, Lawful}
use Rattle.world.proofs.order.Placing.{Placed, IsBefore, of_update, of_read, sorted_ordinals, before_ordinals}
use Rattle.world.proofs.order.Placing.{never_before_itself}
use Rattle.world.proofs.order.Placings.{sorted, update_found, read_placed}
use Rattle.world.proofs.order.LegalOrder.{legal}
use Rattle.world.proofs.order.Linear.{get_mapped, mapped_get, front, nothing_there, more_of, name_of, asked_of}
use Rattle.world.proofs.order.Linear.{named_is, asked_is, ranked, order_of, decided_committed, all_make, all_show}
use Rattle.world.proofs.order.Linear.{Sources, comes_from, stands, table_of}
use Rattle.node.proofs.BegunLists.{found_below, begins_back}
use Rattle.world.proofs.order.Since.{is_some}
use Rattle.world.proofs.order.AtHomes.{AtHomes}
use Rattle.world.proofs.order.Spent.{IsFull}
use Rattle.world.proofs.order.Given.{AllIssued, given_at, issued_is_given, given_is_issued}
use Rattle.world.proofs.order.EarlierIds.{entry_below}

-- the id of a committed entry counts those of its origin
id_committed : (t : Traced)
    → Lawful t
    → (k : ℕ) (e : LogEntry)
    → slice_get t.committed k ≡ Some e
    → e.id ≡ entries_of e.origin (take k t.committed) + 1
id_committed t l k e h = elim l.logged.source [
  | inl none ↦ absurd (nothing_there t.committed none k e h)
  | inr one ↦ subst (λ es. e.id ≡ entries_of e.origin (take k es) + 1) (sym one.2)
      (l.calling.ids one.0 k e (rw (one.2) at h))
]

-- each committed entry is that of the call whose name is found for it
pub is_named : (t : Traced)
    → Lawful t
    → (k : ℕ) (e : LogEntry)
    → slice_get t.committed k ≡ Some e
    → IsNamed t e (name_of t e)
is_named t l k e h =
    let d = decided_committed t l k e h in
    let n : IsNamed t e d.issued.name = (d.issued.low, d.issued.issued) in
    rw (named_is t e d.issued.name n) n

-- two updates of one name are one
once_update : (t : Traced)
    → Lawful t
    → (j k : ℕ) (d e : LogEntry)
    → slice_get t.committed j ≡ Some d
    → slice_get t.committed k ≡ Some e
    → name_of t d ≡ name_of t e
    → j ≡ k
once_update t l j k d e h g same =
    let n = is_named t l j d h in
    let m = is_named t l k e g in
    let o = l.calling.once d.origin e.origin (d.id - 1) (e.id - 1) (name_of t d) n.1 (rw same m.1) in
    let id : d.id ≡ e.id = omega (arith, n.0, m.0, o.1) in
    let a = id_committed t l j d h in
    let b = id_committed t l k e g in
    elim (cases_order j k) [
      | inl is ↦ is
      | inr other ↦ elim other [
        | inl less ↦ absurd (let c = more_of t.committed j k d less h in omega (arith, a, rw (← o.0) at b, id, c))
        | inr greater ↦ absurd (let c = more_of t.committed k j e greater g in omega (arith, rw o.0 at a, b, id, c))
      ]
    ]

-- an update isn't a read
never_alike : (t : Traced)
    → Lawful t
    → (k j : ℕ) (e : LogEntry) (r : AnsweredRead)
    → slice_get t.committed k ≡ Some e
    → slice_get t.reads j ≡ Some r
    → name_of t e ≡ r.id
    → ⊥
never_alike t l k j e r h g same =
    let d = decided_committed t l k e h in
    let f = l.read.reads j r g in
    let name : d.issued.name ≡ r.id = sym (named_is t e d.issued.name (d.issued.low, d.issued.issued)) ∙ same in
    let call : d.call ≡ f.call =
    same_Some d.call f.call (sym d.issued.begun ∙ ap (begun_call t.world) name ∙ f.begun) in
    both_ways _ f.read (rw call at d.issued.update)

id_of : {p q : Placed} → p ≡ q → p.entry.id ≡ q.entry.id
id_of e = ap (λ (p : Placed). p.entry.id) e

-- what has one name has one rank
same_rank : (t : Traced) → Lawful t → (p q : Placed) → Sources t p → Sources t q → p.entry.id ≡ q.entry.id → p ≡ q
same_rank t l p q s r same = elim s [
  | inl u ↦ elim r [
    | inl v ↦
        let name : name_of t u.1 ≡ name_of t v.1 = sym (id_of u.2.1) ∙ same ∙ id_of v.2.1 in
        let at_k = once_update t l u.0 v.0 u.1 v.1 u.2.0 v.2.0 name in
        let one = same_Some u.1 v.1 (sym u.2.0 ∙ ap (slice_get t.committed) at_k ∙ v.2.0) in
        u.2.1 ∙ ap (λ k. of_update (name_of t) (asked_of t) k u.1) at_k
        ∙ ap (λ e. of_update (name_of t) (asked_of t) v.0 e) one ∙ sym v.2.1
    | inr v ↦ absurd (never_alike t l u.0 v.0 u.1 v.1 u.2.0 v.2.0 (sym (id_of u.2.1) ∙ same ∙ id_of v.2.1))
  ]
  | inr u ↦ elim r [
    | inl v ↦ absurd (never_alike t l v.0 u.0 v.1 u.1 v.2.0 u.2.0 (sym (id_of v.2.1) ∙ sym same ∙ id_of u.2.1))
    | inr v ↦
        let id : u.1.id ≡ v.1.id = sym (id_of u.2.1) ∙ same ∙ id_of v.2.1 in
        let at_j = l.read.once u.0 v.0 u.1 v.1 u.2.0 v.2.0 id in
        let one = same_Some u.1 v.1 (sym u.2.0 ∙ ap (slice_get t.reads) at_j ∙ v.2.0) in
        u.2.1 ∙ ap (λ k. of_read (name_of t) (asked_of t) k u.1) at_j ∙ ap (λ r. of_read (name_of t) (asked_of t) v.0 r)
        one ∙ sym v.2.1
  ]
]

sorted_order : (t : Traced) → Rattle.world.proofs.order.Placing.Sorted (ranked t)
sorted_order t = sorted (name_of t) (asked_of t) t.reads 0 t.committed

-- no call stands twice
once : (t : Traced) → Lawful t → (i j : ℕ) (x : CallId) → StandsAt (order_of t) i x → StandsAt (order_of t) j x → i ≡ j
once t l i j x a b =
    let p = stands t i x a in
    let q = stands t j x b in
    let one : p.rank ≡ q.rank = same_rank t l p.rank q.rank (comes_from t p.rank (i, p.here))
    (comes_from t q.rank (j, q.here)) (p.same ∙ sym q.same) in
    elim (cases_order i j) [
      | inl same ↦ same
      | inr other ↦ elim other [
        | inl less ↦ absurd
            (never_before_itself q.rank
            (rw one at (sorted_ordinals (ranked t) i j p.rank q.rank (sorted_order t) less p.here q.here)))
        | inr greater ↦ absurd
            (never_before_itself q.rank
            (rw one at (sorted_ordinals (ranked t) j i q.rank p.rank (sorted_order t) greater q.here p.here)))
      ]
    ]

-- each call of the order was begun
begun : (t : Traced)
    → Lawful t
    → (i : ℕ) (e : OrderedCall)
    → slice_get (order_of t) i ≡ Some e
    → begun_call t.world e.id ≡ Some e.call
begun t l i e h =
    let s = stands t i e.id (record { entry = e; here = h; same = refl }) in
    let p = mapped_get (λ (p : Placed). p.entry) (ranked t) i e h in
    elim (comes_from t p.0 (i, p.1)) [
      | inl u ↦
          let d = decided_committed t l u.0 u.1 u.2.0 in
          let name = named_is t u.1 d.issued.name (d.issued.low, d.issued.issued) in
          let call = ap (asked_of t) name ∙ asked_is t d.issued.name d.call d.issued.begun in
          rw (← p.2, u.2.1, name, asked_is t d.issued.name d.call d.issued.begun) d.issued.begun
      | inr r ↦
          let f = l.read.reads r.0 r.1 r.2.0 in
          rw (← p.2, r.2.1, asked_is t r.1.id f.call f.begun) f.begun
    ]

-- an answer's place in the order
record Answered (t : Traced) (x : CallId) (reply : Reply) (p : Placed) : Type 0 where
  ordinal : ℕ
  here : slice_get (ranked t) ordinal ≡ Some p
  same : p.entry.id ≡ x
  replied : p.entry.reply ≡ reply

stands_there : (t : Traced) (x : CallId) (reply : Reply) (p : Placed) (a : Answered t x reply p)
    → (i : ℕ) × (at : StandsAt (order_of t) i x) × (at.entry.reply ≡ reply)
stands_there t x reply p a = (
  a.ordinal,
  record {
    entry = p.entry;
    here = get_mapped (λ (p : Placed). p.entry) (ranked t) a.ordinal p a.here;
    same = a.same;
  },
  a.replied,
)

-- the rank of an answer
abbrev rank_of : (t : Traced) (x : CallId) (reply : Reply) → IsAnswer t x reply → Placed
rank_of t x reply (inl u) = of_update (name_of t) (asked_of t) u.0 u.1
rank_of t x reply (inr r) = of_read (name_of t) (asked_of t) r.0 r.1

answer_stands : (t : Traced)
    → Lawful t
    → (x : CallId) (reply : Reply) (a : IsAnswer t x reply)
    → Answered t x reply (rank_of t x reply a)
answer_stands t l x reply (inl u) =
    let p = update_found (name_of t) (asked_of t) t.reads 0 t.committed u.0 u.1 u.2 in
    record {
      ordinal = p.0;
      here = p.1 ∙ ap (λ k. Some (of_update (name_of t) (asked_of t) k u.1)) (front u.0);
      same = named_is t u.1 x u.3;
      replied = u.4;
    }
answer_stands t l x reply (inr r) =
    let f = l.read.reads r.0 r.1 r.2 in
    let p = read_placed (name_of t) (asked_of t) t.reads 0 t.committed r.0 r.1 r.2 (omega arith)
    (omega (arith, f.number)) in
    record { ordinal = p.0; here = p.1; same = r.3; replied = r.4 }

answered : (t : Traced)
    → Lawful t
    → (x : CallId) (reply : Reply)
    → IsAnswer t x reply
    → (i : ℕ) × (at : StandsAt (order_of t) i x) × (at.entry.reply ≡ reply)
answered t l x reply a = stands_there t x reply _ (answer_stands t l x reply a)

-- ---- in time

-- what is known of the world after the first k events
pub record Moment (count : ℕ) (homes : List ℕ) (events : List Event) (t : Traced) (k : ℕ) : Type 0 where
  pub past : Traced
  pub same : past.world ≡ run_of count homes (take k events)
  pub lawful : Lawful past
  pub later : Later past t
  pub newer : Newer past t
  pub at_homes : AtHomes homes past
  pub issued : AllIssued past
  pub spent : (i : ℕ) → IsFull past i → issued_by t i ≡ issued_by past i

-- an answer at a moment stands at most at what was committed then, and among the reads of then
abbrev IsEarly : Traced → Placed → Type 0
IsEarly past p = ((p.number ≤ length past.committed) × (p.turn ≡ 0))
    ⊎ ((p.number ≤ length past.committed) × (p.turn ≤ length past.reads))

-- what wasn't begun then stands above what was committed then, or among later reads
abbrev IsLate : Traced → Placed → Type 0
IsLate past p = (length past.committed < p.number) ⊎ ((length past.committed ≤ p.number) × (length past.reads < p.turn))

early_late : (past : Traced) (p q : Placed) → IsEarly past p → IsLate past q → IsBefore p q
early_late past p q e l =
    let n : p.number ≤ length past.committed = elim e [ inl a ↦ a.0 | inr a ↦ a.0 ] in
    let m : p.turn ≤ length past.reads = elim e [ inl a ↦ omega (arith, a.1) | inr a ↦ a.1 ] in
    elim l [
      | inl above ↦ inl (omega arith)
      | inr behind ↦ elim (cases_order p.number q.number) [
        | inl same ↦ inr (same, omega (arith, behind.1))
        | inr other ↦ elim other [ inl less ↦ inl less | inr greater ↦ absurd (omega (arith, behind.0)) ]
      ]
    ]

-- an answer of the moment is one of the end
answer_later : (past t : Traced)
    → Later past t
    → (x : CallId) (reply : Reply)
    → IsAnswer past x reply
    → IsAnswer t x reply
answer_later past t later x reply (inl (k, e, h, named, is)) =
    inl (k, e, later.committed k e h, (named.0, later.issued e.origin (e.id - 1) x named.1), is)
answer_later past t later x reply (inr (k, r, h, id, is)) = inr (k, r, later.reads k r h, id, is)

answer_early : (past t : Traced) (l : Lawful past) (later : Later past t) (x : CallId) (reply : Reply)
    (a : IsAnswer past x reply)
    → IsEarly past (rank_of t x reply (answer_later past t later x reply a))
unfolding answer_later
answer_early past t l later x reply (inl (k, e, h, named, is)) = inl (slice_get_within past.committed k e h, refl)
answer_early past t l later x reply (inr (k, r, h, id, is)) =
    inr ((l.read.reads k r h).number, slice_get_within past.reads k r h)

not_some : {X : Type 0} (o : Option X) → o ≡ None → IsSome o → ⊥
not_some None e h = absurd cc
not_some (Some x) e h = absurd cc

-- an update or a read whose call wasn't begun at a moment stands late
late_update : (past t : Traced)
    → Lawful past
    → Later past t
    → Newer past t
    → (y : CallId)
    → begun_call past.world y ≡ None
    → (k : ℕ) (e : LogEntry)
    → slice_get t.committed k ≡ Some e
    → name_of t e ≡ y
    → length past.committed ≤ k
late_update past t l later newer y none k e h name = elim (newer.entries k e h) [
  | inl n ↦
      let was : name_of t e ≡ n.0 = named_is t e n.0 (n.1.0, later.issued e.origin (e.id - 1) n.0 n.1.1) in
      let b = l.calling.begun e.origin (e.id - 1) n.0 n.1.1 in
      absurd (not_some _ none (is_some _ b.0 (ap (begun_call past.world) (sym name ∙ was) ∙ b.2)))
  | inr above ↦ above
]

late_read : (past t : Traced)
    → Lawful past
    → Later past t
    → Newer past t
    → (y : CallId)
    → begun_call past.world y ≡ None
    → (j : ℕ) (r : AnsweredRead)
    → slice_get t.reads j ≡ Some r
    → r.id ≡ y
    → (length past.committed ≤ r.number) × (length past.reads ≤ j)
late_read past t l later newer y none j r h id = (
  elim (newer.answers j r h) [
    | inl b ↦ absurd (not_some _ none (rw id at b))
    | inr above ↦ above
  ],
  elim (cases_order j (length past.reads)) [
    | inl is ↦ omega (arith, is)
    | inr other ↦ elim other [
      | inl less ↦
          let old = found_below past.reads j less in
          let one = same_Some old.0 r (sym (later.reads j old.0 old.1) ∙ h) in
          let f = l.read.reads j old.0 old.1 in
          absurd (not_some _ none
          (is_some _ f.call
          (ap (begun_call past.world) (sym id ∙ ap (λ (r : AnsweredRead). r.id) (sym one)) ∙ f.begun)))
      | inr greater ↦ omega arith
    ]
  ],
)

late : (past t : Traced)
    → Lawful past
    → Later past t
    → Newer past t
    → (y : CallId)
    → begun_call past.world y ≡ None
    → (p : Placed)
    → Sources t p
    → p.entry.id ≡ y
    → IsLate past p
late past t l later newer y none p (inl u) same =
    let h = late_update past t l later newer y none u.0 u.1 u.2.0 (sym (id_of u.2.1) ∙ same) in
    rw u.2.1 (inl (omega arith))
late past t l later newer y none p (inr r) same =
    let h = late_read past t l later newer y none r.0 r.1 r.2.0 (sym (id_of r.2.1) ∙ same) in
    rw r.2.1 (inr (h.0, omega (arith, h.1)))

-- what was answered before another call began stands before it
in_time : (count : ℕ) (homes : List ℕ) (events : List Event) (t : Traced)
    → Lawful t
    → ((k : ℕ) → Moment count homes events t k)
    → (x y : CallId) (j : ℕ)
    → Precedes count homes events x y
    → StandsAt (order_of t) j y
    → (i : ℕ) × (i < j) × StandsAt (order_of t) i x
in_time count homes events t l moment x y j before at_j =
    let m = moment before.k in
    let reply = some_of (reply_to m.past.world x) (rw (← m.same) at before.answered) in
    let a = m.lawful.calling.handed x reply.0 reply.1 in
    let b = answer_later m.past t m.later x reply.0 a in
    let p = answer_stands t l x reply.0 b in
    let q = stands t j y at_j in
    let early = answer_early m.past t m.lawful m.later x reply.0 a in
    let after = late m.past t m.lawful m.later m.newer y (rw (← m.same) at before.not_begun) q.rank
    (comes_from t q.rank (j, q.here)) q.same in
    let earlier = before_ordinals (ranked t) p.ordinal j (rank_of t x reply.0 b) q.rank (sorted_order t)
    (early_late m.past (rank_of t x reply.0 b) q.rank early after) p.here q.here in (
      p.ordinal,
      earlier,
      record {
        entry = (rank_of t x reply.0 b).entry;
        here = get_mapped (λ (p : Placed). p.entry) (ranked t) p.ordinal (rank_of t x reply.0 b) p.here;
        same = p.same;
      },
    )

-- ---- in turn

-- an update that stands in the order is a committed entry
record IsUpdateThere (t : Traced) (j : ℕ) (y : CallId) : Type 0 where
  ordinal : ℕ
  entry : LogEntry
  here : slice_get t.committed ordinal ≡ Some entry
  named : IsNamed t entry y
  rank : Placed
  there : slice_get (ranked t) j ≡ Some rank
  number : rank.number ≡ suc ordinal

update_there : (t : Traced)
    → Lawful t
    → (y : CallId) (j : ℕ)
    → IsUpdate t.world y
    → StandsAt (order_of t) j y
    → IsUpdateThere t j y
update_there t l y j update s =
    let q = stands t j y s in
    elim (comes_from t q.rank (j, q.here)) [
      | inl u ↦ record {
        ordinal = u.0;
        entry = u.1;
        here = u.2.0;
        named = subst (λ n. IsNamed t u.1 n) (sym (id_of u.2.1) ∙ q.same) (is_named t l u.0 u.1 u.2.0);
        rank = q.rank;
        there = q.here;
        number = ap (λ (p : Placed). p.number) u.2.1;
      }
      | inr r ↦
          let f = l.read.reads r.0 r.1 r.2.0 in
          let id : r.1.id ≡ y = sym (id_of r.2.1) ∙ q.same in
          let call : f.call ≡ update.0 =
          same_Some f.call update.0 (sym f.begun ∙ ap (begun_call t.world) id ∙ update.1) in
          absurd (both_ways _ f.read (rw call update.2))
    ]

-- an entry that was committed earlier stands earlier
earlier_entry : (t : Traced) (x : CallId) (i : ℕ) (e : LogEntry) (j : ℕ) (y : CallId) (u : IsUpdateThere t j y)
    → slice_get t.committed i ≡ Some e
    → IsNamed t e x
    → i < u.ordinal
    → (k : ℕ) × (k < j) × StandsAt (order_of t) k x
earlier_entry t x i e j y u here named less =
    let p = update_found (name_of t) (asked_of t) t.reads 0 t.committed i e here in
    let rank = of_update (name_of t) (asked_of t) i e in
    let there : slice_get (ranked t) p.0 ≡ Some rank =
    p.1 ∙ ap (λ k. Some (of_update (name_of t) (asked_of t) k e)) (front i) in
    let less_number : suc i < u.rank.number = omega (arith, less, u.number) in (
      p.0,
      before_ordinals (ranked t) p.0 j rank u.rank (sorted_order t) (inl less_number) there u.there,
      record {
        entry = rank.entry;
        here = get_mapped (λ (p : Placed). p.entry) (ranked t) p.0 rank there;
        same = named_is t e x named;
      },
    )

-- and so an earlier id of its origin
earlier_id : (t : Traced)
    → Lawful t
    → (x y : CallId) (j n : ℕ) (u : IsUpdateThere t j y)
    → slice_get (issued_by t u.entry.origin) n ≡ Some x
    → n < u.entry.id - 1
    → (i : ℕ) × (i < j) × StandsAt (order_of t) i x
earlier_id t l x y j n u here less =
    let id = id_committed t l u.ordinal u.entry u.here in
    let e = entry_below u.entry.origin n t.committed u.ordinal (id_committed t l)
    (omega (arith, slice_get_within t.committed u.ordinal u.entry u.here)) (omega (arith, less, id)) in
    let ordinal : e.1.id - 1 ≡ n = omega (arith, e.5) in
    let named : IsNamed t e.1 x = (
      omega (arith, e.5),
      ap (λ o. slice_get (issued_by t o) (e.1.id - 1)) e.4 ∙ ap (slice_get (issued_by t u.entry.origin)) ordinal ∙ here,
    ) in
    earlier_entry t x e.0 e.1 j y u e.3 named e.2

-- an update that was given to its server before another stands before it
in_turn : (count : ℕ) (homes : List ℕ) (events : List Event) (t : Traced)
    → t.world ≡ run_of count homes events
    → Lawful t
    → AtHomes homes t
    → ((k : ℕ) → Moment count homes events t k)
    → (x y : CallId) (j : ℕ)
    → GivenBefore count homes events x y
    → StandsAt (order_of t) j y
    → (i : ℕ) × (i < j) × StandsAt (order_of t) i x
in_turn count homes events t same l at_homes moment x y j before at_j =
    let m = moment before.k in
    let first = subst (λ w. IsUpdate w x) (sym same) before.update in
    let u = update_there t l y j (subst (λ w. IsUpdate w y) (sym same) before.later_update) at_j in
    let id = u.entry.id - 1 in
    let g = given_at m.past.world x (ap (λ (w : World). is_given w x) m.same ∙ before.given) in
    let o = g.connection.home in
    let own = l.calling.begun u.entry.origin id y u.named.1 in
    let home : o ≡ u.entry.origin =
    same_Some o own.1.home
    (sym (m.at_homes x.connection g.connection g.here) ∙ before.one_server ∙ at_homes y.connection own.1 own.4)
    ∙ own.5 in
    let issued : slice_get (issued_by t o) id ≡ Some y = ap (λ i. slice_get (issued_by t i) id) home ∙ u.named.1 in
    let never : (i : ℕ) → slice_get (issued_by m.past o) i ≡ Some y → ⊥ = λ i h. both_ways (is_given m.past.world y)
    (ap (λ (w : World). is_given w y) m.same ∙ before.not_given) (issued_is_given m.past m.lawful o i y h) in
    elim (given_is_issued m.past m.lawful m.issued x
    (λ call h. (let one : call ≡ first.0 = same_Some call first.0 (sym (m.later.calls x call h) ∙ first.1) in
    rw one first.2)) g) [
      | inr full ↦ absurd (never id (ap (λ xs. slice_get xs id) (sym (m.spent o full)) ∙ issued))
      | inl there ↦ elim (cases_lt there.0 id) [
        | inl less ↦ earlier_id t l x y j there.0 u
            (ap (λ i. slice_get (issued_by t i) there.0) (sym home) ∙ m.later.issued o there.0 x there.1) less
        | inr high ↦
            let within = slice_get_within (issued_by m.past o) there.0 x there.1 in
            absurd (never id
            (begins_back (issued_by m.past o) (issued_by t o) id y (m.later.issued o) issued
            (omega (arith, high, within))))
      ]
    ]

-- The order of a traced world is a linearization, if each moment of the schedule was one of its past.
pub linearization : (count : ℕ) (homes : List ℕ) (events : List Event) (t : Traced)
    → t.world ≡ run_of count homes events
    → Lawful t
    → AtHomes homes t
    → ((k : ℕ) → Moment count homes events t k)
    → IsLinearization count homes events (order_of t)
linearization count homes events t same l at_homes moment = record {
  legal = legal (name_of t) (asked_of t) (table_of t) t.reads 0 t.committed (all_show t l)
      (λ k e h. rw (front k) (all_make t l k e h));
  begun = λ i e h. rw (← same) (begun t l i e h);
  once = once t l;
  answered = λ x reply h. answered t l x reply (l.calling.handed x reply (rw (← same) at h));
  in_time = in_time count homes events t l moment;
  in_turn = in_turn count homes events t same l at_homes moment;
}
