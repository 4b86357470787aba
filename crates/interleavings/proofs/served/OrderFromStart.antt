-- An order of the seats' calls, each by the name of its connection, is one of all connections' calls: so it is from any
-- start on at which connections and seats agree.
use Rattle.std.proofs.Common.{◌≡◌, ℕ, ◌+◌, ◌<◌, ◌≤◌, List, [], ◌∷◌, length, take, map, Option, None, Some, true, false}
use Rattle.std.proofs.Common.{refl, arith, inl, inr, ap, sym, ◌∙◌, subst}
use Rattle.std.specs.Prelude.{slice_get, IsSome}
use Rattle.std.specs.Option.{option_map}
use Rattle.std.proofs.lemmas.Bool.{cases_lt, le-ltb, and_parts}
use Rattle.std.proofs.lemmas.Option.{same_Some, slice_get-map, slice_get_within, slice_get_past}
use Rattle.table.specs.Histories.{IsLegalFrom}
use Rattle.table.specs.Plain.{PlainTable, opening as empty_table}
use Rattle.table.specs.declared.operations.Call.{Call}
use Rattle.table.specs.declared.operations.Reply.{Reply}
use Rattle.world.specs.Calls.{CallId}
use Rattle.world.specs.Orders.{OrderedCall, StandsAt}
use Rattle.node.proofs.BegunLists.{found_below}
use Rattle.world.proofs.lists.Standing.{get_within, some_of}
use Rattle.world.proofs.order.Since.{is_some}
use Rattle.interleavings.specs.Chains.{Chain, opening_chain}
use Rattle.interleavings.specs.Moves.{Move, moved_from, done}
use Rattle.interleavings.specs.Orders.{begun_call, reply_to, waiting_calls, is_published, IsUpdate, IsLinearization}
use Rattle.interleavings.specs.Asked.{AreAsked}
use Rattle.interleavings.specs.Quiet.{goes_on, IsQuiet, NoneForgotten}
use Rattle.interleavings.specs.Restored.{table_after}
use Rattle.interleavings.specs.OrdersFrom.{PrecedesFrom, IsLinearizationFrom, IsHeld, LeavesWhatIsHeld}
use Rattle.interleavings.specs.ServingMoves.{ServingChain, ServingMove, served_from}
use Rattle.interleavings.specs.Served.{IsRested, HasAll}
use Rattle.interleavings.specs.Served.{IsServed, CallName, call_made, reply_got, ServedCall, StandsThere}
use Rattle.interleavings.specs.Served.{is_call_published, IsMadeUpdate, IsEarlier, NoneUnanswered, AllHaveAll}
use Rattle.interleavings.specs.ServedFrom.{ComesBeforeFrom, IsOneOrderFrom, LeavesWhatIsServed}
use Rattle.interleavings.proofs.relation.Transfer.{take_front}
use Rattle.interleavings.proofs.served.Connected.{is_served, has_all}
use Rattle.interleavings.proofs.served.Steps.{calls_at, replies_at, IsInOrder, Grows}
use Rattle.interleavings.proofs.served.Along.{made_along, order_along, chain_along, short_along, asked_along}
use Rattle.interleavings.proofs.served.Along.{grows_from, first_along, earlier_answered}
use Rattle.interleavings.proofs.served.Names.{ordinal_of, name_of, begun_there, same_reply, named_there}
use Rattle.interleavings.proofs.served.Names.{made_if_answered, made_there, same_id, same_ordinal}

-- a call of an order, by the name that its connection gives it
abbrev pub named : ServingChain → OrderedCall → ServedCall
named s e = record { id = name_of s e.id; call = e.call; reply = e.reply }

same_history : (s : ServingChain) (h : List OrderedCall)
    → map {B = Call × Reply} (λ (e : OrderedCall). (e.call, e.reply)) h
    ≡ map {B = Call × Reply} (λ (e : ServedCall). (e.call, e.reply)) (map (named s) h)
same_history s [] = refl
same_history s (e ∷ es) = ap (λ xs. (e.call, e.reply) ∷ xs) (same_history s es)

same_calls : (s : ServingChain) (h : List OrderedCall)
    → map (λ (e : OrderedCall). e.call) h ≡ map (λ (e : ServedCall). e.call) (map (named s) h)
same_calls s [] = refl
same_calls s (e ∷ es) = ap (λ xs. e.call ∷ xs) (same_calls s es)

-- what stands in a list whose elements were changed
mapped : {X Y : Type 0} (f : X → Y) (o : Option X) (y : Y)
    → option_map f o ≡ Some y
    → (x : X) × (o ≡ Some x) × (f x ≡ y)
mapped f None y e = absurd (let no : None ≡ Some y = e in cc)
mapped f (Some x) y e = (x, refl, same_Some (f x) y e)

not_some : {X : Type 0} (o : Option X) → ((x : X) → o ≡ Some x → ⊥) → o ≡ None
not_some None f = refl
not_some (Some x) f = absurd (f x refl)

-- an order of a run is one from the opening chain and the empty table on
pub from_opening : (count : ℕ) (homes : List ℕ) (moves : List Move) (h : List OrderedCall)
    → IsLinearization count homes moves h
    → IsLinearizationFrom empty_table (opening_chain count homes) moves h
from_opening count homes moves h lin = record {
  legal = lin.legal;
  begun = lin.begun;
  once = lin.once;
  answered = lin.answered;
  in_time = λ x y j p s.
      lin.in_time x y j (record { k = p.k; answered = p.answered; not_begun = p.not_begun }) s;
}

module _ (first : ServingChain) (opened : IsInOrder first) (moves : List ServingMove) where
  abbrev pub last : ServingChain
  last = served_from done first moves

  ordered : IsInOrder last
  ordered = order_along moves first opened

  -- each connection got what its bytes ask for
  pub each_is_served : (c n : ℕ) → IsServed ((served_from done first moves).connections c n)
  each_is_served c n =
      is_served (last.connections c n)
      ((order_along moves first opened).connected c n)

  -- the moves of the running chain
  abbrev pub run : List Move
  run = made_along moves first opened

  pub same_chain : last.chain ≡ moved_from first.chain run
  same_chain = chain_along moves first opened

  -- after the first k moves
  abbrev front : ℕ → ServingChain
  front k = served_from done first (take k moves)

  front_ordered : (k : ℕ) → IsInOrder (front k)
  front_ordered k = order_along (take k moves) first opened

  front_chain : (k : ℕ) → (j : ℕ) × (moved_from first.chain (take j run) ≡ (front k).chain)
  front_chain k =
      let part = made_along (take k moves) first opened in
      let f = first_along k moves first opened in (
        length part,
        ap (moved_from first.chain) (ap (take (length part)) f.1 ∙ take_front part f.0)
            ∙ sym (chain_along (take k moves) first opened),
      )

  front_grows : (k : ℕ) → Grows (front k) last
  front_grows k = grows_from k moves first opened

  module _ (t : PlainTable) (h : List OrderedCall) (lin : IsLinearizationFrom t first.chain run h) where
    abbrev order : List ServedCall
    order = map (named last) h

    -- a call of the one order is a call of the other
    record IsEntry (i : ℕ) (x : CallName) : Type 0 where
      entry : OrderedCall
      here : slice_get h i ≡ Some entry
      its_name : name_of last entry.id ≡ x
      begun : begun_call last.chain entry.id ≡ Some entry.call

    entry_at : (i : ℕ) (e : ServedCall)
        → slice_get order i ≡ Some e
        → (x : OrderedCall) × (slice_get h i ≡ Some x) × (named last x ≡ e)
    entry_at i e at = mapped (named last) (slice_get h i) e (sym (slice_get-map (named last) h i) ∙ at)

    begun_last : (i : ℕ) (x : OrderedCall) → slice_get h i ≡ Some x → begun_call last.chain x.id ≡ Some x.call
    begun_last i x at = ap (λ l. begun_call l x.id) same_chain ∙ lin.begun i x at

    stands_there : (i : ℕ) (x : CallName) → StandsThere order i x → IsEntry i x
    stands_there i x s =
        let e = entry_at i s.entry s.here in
        record {
          entry = e.0;
          here = e.1;
          its_name = ap (λ (z : ServedCall). z.id) e.2 ∙ s.named;
          begun = begun_last i e.0 e.1;
        }

    -- its id among the calls of its seat
    ordinal_is : (i : ℕ) (x : CallName) (e : IsEntry i x) → ordinal_of last x ≡ e.entry.id
    ordinal_is i x e =
        subst (λ z. ordinal_of last z ≡ e.entry.id) e.its_name
        (made_there last ordered e.entry.id e.entry.call e.begun).1

    -- a call that was made stands there if its id does
    named_so : (i : ℕ) (x : CallName) (call : Call)
        → call_made last x ≡ Some call
        → (at : StandsAt h i (ordinal_of last x))
        → StandsThere order i x
    named_so i x call made at = record {
      entry = named last at.entry;
      here = slice_get-map (named last) h i ∙ ap (option_map (named last)) at.here;
      named = ap (name_of last) at.same ∙ named_there last ordered x call made;
    }

    answered_there : (x : CallName) (reply : Reply)
        → reply_got last x ≡ Some reply
        → (i : ℕ) × (at : StandsThere order i x) × (at.entry.reply ≡ reply)
    unfolding named_so
    answered_there x reply got =
        let m = made_if_answered last ordered x reply got in
        let r = ap (λ l. reply_to l (ordinal_of last x)) (sym same_chain)
        ∙ sym (same_reply last ordered x m.0 m.1) ∙ got in
        let a = lin.answered (ordinal_of last x) reply r in
        (a.0, named_so a.0 x m.0 m.1 a.1, a.2)

    -- what wasn't made then has no call of its seat then
    not_begun : (y : CallName) (j k : ℕ)
        → call_made (front k) y ≡ None
        → (e : IsEntry j y)
        → begun_call (front k).chain e.entry.id ≡ None
    not_begun y j k not_made e =
        not_some (begun_call (front k).chain e.entry.id) (λ call begun. not_there call begun)
      where
        not_there : (call : Call) → begun_call (front k).chain e.entry.id ≡ Some call → ⊥
        not_there call begun =
            let z = name_of (front k) e.entry.id in
            let m = made_there (front k) (front_ordered k) e.entry.id call begun in
            let now = (front_grows k).calls z.seat z.number z.ordinal call m.0 in
            let same = same_ordinal (front k) last z call (front_ordered k) (front_grows k) m.0 ∙ m.1 in
            let is : y ≡ z =
            sym e.its_name ∙ ap (name_of last) (sym same) ∙ named_there last ordered z call now in
            let no : None ≡ Some call = sym not_made ∙ ap (call_made (front k)) is ∙ m.0 in
            absurd cc

    precedes : (x y : CallName) (j k : ℕ) (reply : Reply)
        → reply_got (front k) x ≡ Some reply
        → call_made (front k) y ≡ None
        → (e : IsEntry j y)
        → PrecedesFrom first.chain run (ordinal_of last x) e.entry.id
    precedes x y j k reply got not_made e =
        let f = front_chain k in
        let m = made_if_answered (front k) (front_ordered k) x reply got in
        let same = same_ordinal (front k) last x m.0 (front_ordered k) (front_grows k) m.1 in
        let r : reply_to (front k).chain (ordinal_of last x) ≡ Some reply =
        ap (reply_to (front k).chain) same ∙ sym (same_reply (front k) (front_ordered k) x m.0 m.1) ∙ got in
        record {
          k = f.0;
          answered = is_some _ reply (ap (λ l. reply_to l (ordinal_of last x)) f.1 ∙ r);
          not_begun = ap (λ l. begun_call l e.entry.id) f.1 ∙ not_begun y j k not_made e;
        }

    in_time_there : (x y : CallName) (j : ℕ)
        → ComesBeforeFrom first moves x y
        → StandsThere order j y
        → (i : ℕ) × (i < j) × StandsThere order i x
    in_time_there x y j p s =
        let e = stands_there j y s in
        let r = some_of (reply_got (front p.k) x) p.answered in
        let m = made_if_answered (front p.k) (front_ordered p.k) x r.0 r.1 in
        let t = lin.in_time (ordinal_of last x) e.entry.id j (precedes x y j p.k r.0 r.1 p.not_made e)
        (record { entry = e.entry; here = e.here; same = refl }) in
        (t.0, t.1, named_so t.0 x m.0 ((front_grows p.k).calls x.seat x.number x.ordinal m.0 m.1) t.2)

    -- ---- in turn

    -- a call that was made then is published then, by its connection's name, if its seat's call is
    same_published : (x : CallName) (k : ℕ)
        → IsSome (call_made (front k) x)
        → is_call_published (λ c. c) (front k) x ≡ is_published (front k).chain (ordinal_of last x)
    same_published x k made =
        let m = some_of (call_made (front k) x) made in
        rw made (ap (is_published (front k).chain)
        (same_id (front k) x ∙ sym (same_ordinal (front k) last x m.0 (front_ordered k) (front_grows k) m.1)))

    -- what isn't begun isn't published
    not_before_begun : (l : Chain) (x : CallId) → begun_call l x ≡ None → is_published l x ≡ false
    not_before_begun l x none = elim (cases_lt x.ordinal (length (l.seats x.connection).calls)) [
      | inl less ↦
          let there = found_below (l.seats x.connection).calls x.ordinal less in
          absurd (let no : None ≡ Some there.0 = sym none ∙ there.1 in cc)
      | inr past ↦
          le-ltb (x.ordinal + length (waiting_calls l x.connection)) (length (l.seats x.connection).calls)
          (omega (arith, past))
    ]

    not_published : (y : CallName) (j k : ℕ)
        → is_call_published (λ c. c) (front k) y ≡ false
        → IsEntry j y
        → is_published (front k).chain (ordinal_of last y) ≡ false
    not_published y j k none e = by (call_made (front k) y) refl
      where
        by : (o : Option Call)
            → call_made (front k) y ≡ o
            → is_published (front k).chain (ordinal_of last y) ≡ false
        by None same =
            ap (is_published (front k).chain) (ordinal_is j y e)
            ∙ not_before_begun (front k).chain e.entry.id (not_begun y j k same e)
        by (Some call) same = sym (same_published y k (is_some _ call same)) ∙ none

    update_there : (x : CallName)
        → IsMadeUpdate last x
        → IsUpdate (moved_from first.chain run) (ordinal_of last x)
    update_there x u = (
      u.0,
      ap (λ l. begun_call l (ordinal_of last x)) (sym same_chain) ∙ begun_there last ordered x u.0 u.1,
      u.2,
    )

    -- two seats are at one server: whatever that means, if the order is in turn by it for the seats, it is for the
    -- connections
    pub in_turn_there : (at_one : ℕ → ℕ → Type 0)
        → ((k j : ℕ) (a b : CallId)
        → is_published (moved_from first.chain (take k run)) a ≡ true
        → is_published (moved_from first.chain (take k run)) b ≡ false
        → at_one a.connection b.connection
        → IsUpdate (moved_from first.chain run) a
        → IsUpdate (moved_from first.chain run) b
        → StandsAt h j b
        → (i : ℕ) × (i < j) × StandsAt h i a)
        → (k j : ℕ) (x y : CallName)
        → is_call_published (λ c. c) (served_from done first (take k moves)) x ≡ true
        → is_call_published (λ c. c) (served_from done first (take k moves)) y ≡ false
        → at_one x.seat y.seat
        → IsMadeUpdate (served_from done first moves) x
        → IsMadeUpdate (served_from done first moves) y
        → StandsThere (map (named (served_from done first moves)) h) j y
        → (i : ℕ) × (i < j) × StandsThere (map (named (served_from done first moves)) h) i x
    in_turn_there at_one turn k j x y published unpublished one update later_update s =
        let e = stands_there j y s in
        let f = front_chain k in
        let made = (and_parts (Rattle.std.specs.Prelude.is_some (call_made (front k) x)) _ published).0 in
        let r = turn f.0 j (ordinal_of last x) (ordinal_of last y)
        (ap (λ l. is_published l (ordinal_of last x)) f.1 ∙ sym (same_published x k made) ∙ published)
        (ap (λ l. is_published l (ordinal_of last y)) f.1 ∙ not_published y j k unpublished e)
        one (update_there x update) (update_there y later_update)
        (record { entry = e.entry; here = e.here; same = sym (ordinal_is j y e) }) in
        (r.0, r.1, named_so r.0 x update.0 update.1 r.2)

    -- so it is an order of all connections' calls
    pub is_one_order : IsOneOrderFrom t first moves (map (named (served_from done first moves)) h)
    is_one_order = record {
      legal = subst (IsLegalFrom t) (same_history last h) lin.legal;
      made = λ i e at.
          let x = entry_at i e at in
          subst (λ (z : ServedCall). call_made last z.id ≡ Some z.call) x.2
          (made_there last ordered x.0.id x.0.call (begun_last i x.0 x.1)).0;
      once = λ i j x s u.
          let e = stands_there i x s in
          let f = stands_there j x u in
          lin.once i j (ordinal_of last x) (record { entry = e.entry; here = e.here; same = sym (ordinal_is i x e) })
          (record { entry = f.entry; here = f.here; same = sym (ordinal_is j x f) });
      answered = answered_there;
      in_time = in_time_there;
    }

    -- and leaves what the seats' order leaves
    pub leaves_same : LeavesWhatIsHeld t (moved_from first.chain run) h
        → LeavesWhatIsServed t (served_from done first moves) (map (named (served_from done first moves)) h)
    leaves_same all u held =
        ap (table_after t) (sym (same_calls last h)) ∙ all u (subst (λ l. IsHeld l u) same_chain held)

  -- an earlier call of a connection comes before
  own_before : ((c n : ℕ) → (first.connections c n).calls ≡ [])
      → (x y : CallName) (call : Call)
      → IsEarlier x y
      → call_made last y ≡ Some call
      → ComesBeforeFrom first moves x y
  own_before none x y call own made =
      let empty = ap length (none y.seat y.number) in
      let a = earlier_answered moves first y.seat y.number x.ordinal y.ordinal opened own.earlier (omega (arith, empty))
      (slice_get_within (calls_at last y.seat y.number) y.ordinal
      call made) in
      record {
        k = a.0;
        answered = subst (λ (z : ℕ). IsSome (slice_get ((front a.0).connections z x.number).replies x.ordinal))
            (sym own.seat)
            (subst (λ (z : ℕ). IsSome (slice_get ((front a.0).connections y.seat z).replies x.ordinal))
            (sym own.number) (get_within (replies_at (front a.0) y.seat y.number) x.ordinal a.1));
        not_made = slice_get_past (calls_at (front a.0) y.seat y.number) y.ordinal a.2;
      }

  -- so it stands before
  pub own_in_turn : ((c n : ℕ) → (first.connections c n).calls ≡ [])
      → (t : PlainTable) (h : List ServedCall)
      → IsOneOrderFrom t first moves h
      → (x y : CallName) (j : ℕ)
      → IsEarlier x y
      → StandsThere h j y
      → (i : ℕ) × (i < j) × StandsThere h i x
  own_in_turn none t h o x y j own s =
      o.in_time x y j
      (own_before none x y s.entry.call own
      (subst (λ z. call_made last z ≡ Some s.entry.call) s.named (o.made j s.entry s.here))) s

  -- a call that was made has its reply if its seat has it,
  pub has_its_reply : (x : CallName)
      → (IsSome (begun_call (moved_from first.chain run) (ordinal_of last x))
      → IsSome (reply_to (moved_from first.chain run) (ordinal_of last x)))
      → IsSome (call_made last x)
      → IsSome (reply_got last x)
  has_its_reply x there made =
      let m = some_of (call_made last x) made in
      subst IsSome (ap (λ l. reply_to l (ordinal_of last x)) (sym same_chain) ∙ sym (same_reply last ordered x m.0 m.1))
      (there (is_some _ m.0 (ap (λ l. begun_call l (ordinal_of last x)) (sym same_chain)
      ∙ begun_there last ordered x m.0 m.1)))

  -- and a connection at which nothing is left to do has all if its next call has one, should it be made
  pub has_all_there : (c n : ℕ)
      → (IsSome (call_made last (record { seat = c; number = n; ordinal = length (last.connections c n).replies }))
      → IsSome (reply_got last (record { seat = c; number = n; ordinal = length (last.connections c n).replies })))
      → IsRested (last.connections c n)
      → HasAll (last.connections c n)
  has_all_there c n none rested = has_all (last.connections c n) (ordered.connected c n) none rested

  -- and no call is unanswered in a quiet chain
  pub none_unanswered : (IsQuiet (moved_from first.chain run) → NoneForgotten (moved_from first.chain run))
      → IsQuiet (served_from done first moves).chain
      → NoneUnanswered (served_from done first moves)
  none_unanswered none quiet x on made =
      let m = some_of (call_made last x) made in
      let there = none (subst IsQuiet same_chain quiet) (ordinal_of last x)
      (subst (λ l. goes_on l (l.seats x.seat).home ≡ true) same_chain on)
      (is_some _ m.0 (ap (λ l. begun_call l (ordinal_of last x)) (sym same_chain)
      ∙ begun_there last ordered x m.0 m.1)) in
      subst IsSome (ap (λ l. reply_to l (ordinal_of last x)) (sym same_chain) ∙ sym (same_reply last ordered x m.0 m.1))
      there

  -- so a connection at which nothing is left to do has all
  pub all_have_all : NoneUnanswered (served_from done first moves) → AllHaveAll (served_from done first moves)
  all_have_all none c n on rested =
      has_all (last.connections c n) (ordered.connected c n) (λ made. none (name c n) on made) rested
    where
      name : ℕ → ℕ → CallName
      name a b = record { seat = a; number = b; ordinal = length (last.connections a b).replies }

  -- its servers make a run of moves, which are no more
  pub run_asked : AreAsked run
  run_asked = asked_along moves first opened

  pub run_short : length run ≤ length moves
  run_short = short_along moves first opened
