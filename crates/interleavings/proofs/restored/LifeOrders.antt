-- A life's order: that of its first chain's calls, then that of the next one's, and so on.
use Rattle.std.proofs.Common.{◌≡◌, ◌≢◌, ◌⊎◌, ℕ, zero, suc, ◌+◌, ◌<◌, ◌≤◌, Bool, true, false, cond, List, [], ◌∷◌, ◌++◌}
use Rattle.std.proofs.Common.{length, take, drop, map, Option, None, Some, refl, arith, ap, sym, ◌∙◌, subst, inl, inr}
use Rattle.std.proofs.Common.{take-append-drop}
use Rattle.std.specs.Prelude.{◌==◌, slice_get, IsSome, not, ◌&&◌}
use Rattle.std.specs.Option.{option_and_then}
use Rattle.std.proofs.lemmas.Bool.{cases_eq, cases_order, cond_both}
use Rattle.std.proofs.lemmas.Option.{same_Some, slice_get_within, slice_get_past}
use Rattle.table.specs.Histories.{IsLegalFrom}
use Rattle.table.specs.Items.{Item}
use Rattle.table.specs.Plain.{PlainTable, apply}
use Rattle.table.specs.declared.operations.Call.{Call}
use Rattle.table.specs.declared.operations.Reply.{Reply}
use Rattle.table.specs.declared.operations.Reply.TheVariants.{Value}
use Rattle.node.specs.Servers.{most}
use Rattle.node.specs.declared.messages.Input.TheVariants.{Call as Called, Gone}
use Rattle.node.specs.declared.messages.Peer.{Peer}
use Rattle.node.specs.declared.looks.Look.{Look}
use Rattle.node.specs.declared.looks.Look.TheVariants.{Clean, Dirty}
use Rattle.node.specs.Faces.{face_of, look_at}
use Rattle.node.proofs.Lists.{get_front}
use Rattle.world.specs.Calls.{CallId}
use Rattle.world.specs.Orders.{OrderedCall, StandsAt}
use Rattle.node.proofs.BegunLists.{found_below}
use Rattle.world.proofs.lists.Standing.{some_of}
use Rattle.world.proofs.order.Since.{is_some}
use Rattle.world.proofs.order.Linear.{get_mapped, mapped_get}
use Rattle.interleavings.specs.Chains.{Seat, Chain, with_seat, messages_to, replies_to}
use Rattle.interleavings.specs.Moves.{Move, Sends, Takes, Publishes, Puts, Arrives, Replies, Receives, Looks, Stops}
use Rattle.interleavings.specs.Moves.{Notices, is_free, brought, received, looked, put, arrived, reply_put, has_stopped}
use Rattle.interleavings.specs.Moves.{read_of, done, moved_from}
use Rattle.interleavings.specs.Asked.{AreAsked}
use Rattle.interleavings.specs.Orders.{begun_call, reply_to}
use Rattle.interleavings.specs.Restored.{table_after, IsReached}
use Rattle.interleavings.specs.OrdersFrom.{PrecedesFrom, PublishedBeforeFrom, IsLinearizationFrom, IsInTurnFrom}
use Rattle.interleavings.specs.OrdersFrom.{LeavesWhatIsHeld}
use Rattle.interleavings.specs.Lives.{Generation, LifeMove, LifeName, moves_of, start_of, run_of, begun_in, reply_in}
use Rattle.interleavings.specs.Lives.{AreSuccessive, PrecedesIn, LifeCall, StandsIn, IsLifeOrder}
use Rattle.interleavings.proofs.lists.ChangedFunctions.{at_same, at_other}
use Rattle.interleavings.proofs.restored.HeldTables.{order_reaches}
use Rattle.interleavings.proofs.relation.Transfer.{take_front}
use Rattle.interleavings.proofs.lists.TwoParts.{moved_from-append as parts, split_get, get_behind}

-- ---- a seat keeps its replies

-- what a seat has got is a beginning of what it has later
Grows : Chain → Chain → ℕ → Type 0
Grows l m c = (p : ℕ) (reply : Reply) → slice_get (l.seats c).got p ≡ Some reply → slice_get (m.seats c).got p ≡ Some
    reply

module _ (l : Chain) (c : ℕ) where
  stays : Grows l l c
  unfolding Grows
  stays p reply e = e

  same_seats : (m : Chain) → m.seats ≡ l.seats → Grows l m c
  unfolding Grows
  same_seats m same p reply e = ap (λ (ss : ℕ → Seat). slice_get (ss c).got p) same ∙ e

  other_seat : (d : ℕ) (s : Seat) (m : Chain)
      → m.seats ≡ (with_seat l d s).seats
      → ((p : ℕ) (reply : Reply) → slice_get (l.seats d).got p ≡ Some reply → slice_get s.got p ≡ Some reply)
      → Grows l m c
  unfolding Grows
  other_seat d s m same more p reply e =
      ap (λ (ss : ℕ → Seat). slice_get (ss c).got p) same ∙ elim (cases_eq c d) [
        | inl own ↦ ap (λ b. slice_get ((with_seat l d s).seats b).got p) own
            ∙ ap (λ (t : Seat). slice_get t.got p) (at_same l.seats d s)
            ∙ more p reply (ap (λ b. slice_get (l.seats b).got p) (sym own) ∙ e)
        | inr other ↦ ap (λ (t : Seat). slice_get t.got p) (at_other l.seats d s c other) ∙ e
      ]

  received_grows : (d : ℕ) (rs : List Reply) → Grows l (received l d (l.seats d) rs) c
  received_grows d [] = stays
  received_grows d (reply ∷ more) =
      other_seat d (record (l.seats d) { got = (l.seats d).got ++ reply ∷ []; queued = more }) _ refl
      (λ p r e. get_front (l.seats d).got (reply ∷ []) p r e)

  looked_grows : (d : ℕ) (key : List ℕ) (look : Look Item) → Grows l (looked l d (l.seats d) key look) c
  looked_grows d key Dirty = stays
  looked_grows d key (Clean item) =
      other_seat d (record (l.seats d) {
        calls = (l.seats d).calls ++ read_of key ∷ [];
        got = (l.seats d).got ++ Value item ∷ [];
      }) _ refl (λ p r e. get_front (l.seats d).got (Value item ∷ []) p r e)

  put_grows : (i j : ℕ) (ms : List Peer) → Grows l (put l i j ms) c
  put_grows i j [] = stays
  put_grows i j (m ∷ ms) = same_seats (put l i j (m ∷ ms)) refl

  arrived_grows : (i j : ℕ) (ms : List Peer) → Grows l (arrived l i j ms) c
  arrived_grows i j [] = stays
  arrived_grows i j (m ∷ ms) = same_seats (arrived l i j (m ∷ ms)) refl

  reply_grows : (i d : ℕ) (rs : List Reply) → Grows l (reply_put l i d (l.seats d) rs) c
  reply_grows i d [] = stays
  reply_grows i d (reply ∷ more) =
      other_seat d (record (l.seats d) { queued = (l.seats d).queued ++ reply ∷ [] }) _ refl (λ p r e. e)

  each_grows : (m : Move) → Grows l (done l m) c
  each_grows (Sends d call) =
      let s : Seat = record (l.seats d) { calls = (l.seats d).calls ++ call ∷ [] } in
      cond_both (is_free (l.seats d)) (brought (with_seat l d s) (l.seats d).home (Called d call)) l
      (λ m. Grows l m c) (λ free. other_seat d s _ refl (λ p r e. e)) (λ busy. stays)
  each_grows (Takes i sender) = same_seats (done l (Takes i sender)) refl
  each_grows (Publishes i) = same_seats (done l (Publishes i)) refl
  each_grows (Puts i j) =
      cond_both (l.servers i).stopped l (put l i j (messages_to j (l.servers i).outbox)) (λ m. Grows l m c)
      (λ over. stays) (λ going. put_grows i j (messages_to j (l.servers i).outbox))
  each_grows (Arrives i j) = arrived_grows i j (l.channels i j)
  each_grows (Replies i d) =
      cond_both (l.servers i).stopped l (reply_put l i d (l.seats d) (replies_to d (l.servers i).outbox))
      (λ m. Grows l m c) (λ over. stays) (λ going. reply_grows i d (replies_to d (l.servers i).outbox))
  each_grows (Receives d) = received_grows d (l.seats d).queued
  each_grows (Looks d key) =
      let s = l.seats d in
      let look = look_at (face_of (l.servers s.home).node) key in
      cond_both (is_free s && not (l.servers s.home).stopped) (looked l d s key look) l (λ m. Grows l m c)
      (λ both. looked_grows d key look) (λ none. stays)
  each_grows (Stops i) = same_seats (done l (Stops i)) refl
  each_grows (Notices i j) =
      cond_both (has_stopped l j) (brought l i (Gone j)) l (λ m. Grows l m c)
      (λ over. same_seats (brought l i (Gone j)) refl) (λ going. stays)

-- a reply that a seat has stays
reply_still : (ms : List Move) (l : Chain) (x : CallId) (reply : Reply)
    → reply_to l x ≡ Some reply
    → reply_to (moved_from l ms) x ≡ Some reply
unfolding Grows
reply_still [] l x reply e = e
reply_still (m ∷ ms) l x reply e =
    reply_still ms (done l m) x reply (each_grows l x.connection m x.ordinal reply e)

-- ---- a chain's moves among those of a life

pub moves-append : (g : ℕ) (ms ns : List LifeMove) → moves_of g (ms ++ ns) ≡ moves_of g ms ++ moves_of g ns
moves-append g [] ns = refl
moves-append g (m ∷ ms) ns = by (m.chain == g) (moves-append g ms ns)
  where
    by : (b : Bool) → moves_of g (ms ++ ns) ≡ moves_of g ms ++ moves_of g ns
        → cond b (m.move ∷ moves_of g (ms ++ ns)) (moves_of g (ms ++ ns))
        ≡ cond b (m.move ∷ moves_of g ms) (moves_of g ms) ++ moves_of g ns
    by true e = ap (λ xs. m.move ∷ xs) e
    by false e = e

-- its first ones
both_parts : (g k : ℕ) (moves : List LifeMove)
    → moves_of g moves ≡ moves_of g (take k moves) ++ moves_of g (drop k moves)
both_parts g k moves = ap (moves_of g) (sym (take-append-drop k moves)) ∙ moves-append g (take k moves) (drop k moves)

first_moves : (g k : ℕ) (moves : List LifeMove)
    → take (length (moves_of g (take k moves))) (moves_of g moves) ≡ moves_of g (take k moves)
first_moves g k moves =
    ap (take (length (moves_of g (take k moves)))) (both_parts g k moves)
    ∙ take_front (moves_of g (take k moves)) (moves_of g (drop k moves))

asked_front : (ms ns : List Move) → AreAsked (ms ++ ns) → AreAsked ms
asked_front [] ns h = tt
asked_front (m ∷ ms) ns h = (h.0, asked_front ms ns h.1)

-- ---- calls of one chain in a life

-- the entry of a chain's order in that of the life
abbrev tagged : ℕ → OrderedCall → LifeCall
tagged g e = record { name = record { chain = g; id = e.id }; call = e.call; reply = e.reply }

abbrev tagged_all : ℕ → List OrderedCall → List LifeCall
tagged_all g h = map (tagged g) h

length-tagged : (g : ℕ) (h : List OrderedCall) → length (tagged_all g h) ≡ length h
length-tagged g [] = refl
length-tagged g (x ∷ h) = ap suc (length-tagged g h)

abbrev said : List LifeCall → List (Call × Reply)
said h = map (λ e. (e.call, e.reply)) h

legal_both : (g : ℕ) (h : List OrderedCall) (t : PlainTable) (more : List LifeCall)
    → IsLegalFrom t (map (λ e. (e.call, e.reply)) h)
    → IsLegalFrom (table_after t (map (λ e. e.call) h)) (said more)
    → IsLegalFrom t (said (tagged_all g h ++ more))
legal_both g [] t more a b = b
legal_both g (e ∷ h) t more a b = (a.0, legal_both g h (apply t e.call.target e.call.op).1 more a.1 b)

-- ---- the order

-- what is known of each chain: its own order
abbrev pub Orders : Type 0
Orders = (x : Generation) (moves : List Move)
    → 1 ≤ x.count
    → x.count ≤ 16
    → IsReached x.table
    → x.table.count < most
    → AreAsked moves
    → (h : List OrderedCall) × IsLinearizationFrom x.table (start_of x) moves h × IsInTurnFrom (start_of x) moves h
    × LeavesWhatIsHeld x.table (moved_from (start_of x) moves) h

module _ (orders : Orders) (gs : List Generation) (moves : List LifeMove) (s : AreSuccessive gs moves) where
  -- an order of the calls of chain g and those after it
  record IsPart (g : ℕ) (t : PlainTable) (h : List LifeCall) : Type 0 where
    from : (i : ℕ) (e : LifeCall) → slice_get h i ≡ Some e → g ≤ e.name.chain
    legal : IsLegalFrom t (said h)
    begun : (i : ℕ) (e : LifeCall) → slice_get h i ≡ Some e → begun_in gs moves e.name ≡ Some e.call
    once : (i j : ℕ) (x : LifeName) → StandsIn h i x → StandsIn h j x → i ≡ j
    answered : (x : LifeName) (reply : Reply)
        → g ≤ x.chain
        → reply_in gs moves x ≡ Some reply
        → (i : ℕ) × (at : StandsIn h i x) × (at.entry.reply ≡ reply)
    later : (x y : LifeName) (reply : Reply) (j : ℕ)
        → g ≤ x.chain
        → x.chain < y.chain
        → reply_in gs moves x ≡ Some reply
        → StandsIn h j y
        → (i : ℕ) × (i < j) × StandsIn h i x
    in_time : (x y : LifeName) (j : ℕ)
        → g ≤ x.chain
        → x.chain ≡ y.chain
        → PrecedesIn gs moves x y
        → StandsIn h j y
        → (i : ℕ) × (i < j) × StandsIn h i x
    in_turn : (d : ℕ) (x : Generation) (a b : CallId) (j : ℕ)
        → g ≤ d
        → slice_get gs d ≡ Some x
        → PublishedBeforeFrom (start_of x) (moves_of d moves) a b
        → StandsIn h j (record { chain = d; id = b })
        → (i : ℕ) × (i < j) × StandsIn h i (record { chain = d; id = a })

  from_of : (g : ℕ) (t : PlainTable) (h : List LifeCall) (p : IsPart g t h) (i : ℕ) (x : LifeName)
      → StandsIn h i x
      → g ≤ x.chain
  from_of g t h p i x at = subst (λ (y : LifeName). g ≤ y.chain) at.same (p.from i at.entry at.here)

  -- no chain is left: there are no calls
  none_left : (g : ℕ) (t : PlainTable) → ((d : ℕ) → g ≤ d → slice_get gs d ≡ None) → IsPart g t []
  none_left g t past = record {
    from = λ i e f. absurd cc;
    legal = tt;
    begun = λ i e f. absurd cc;
    once = λ i j x a b. absurd (none i x a);
    answered = λ x reply low e.
        (let no : None ≡ Some reply = sym (ap (option_and_then (λ y. reply_to (run_of y x.chain moves) x.id))
        (past x.chain low)) ∙ e in
        absurd cc);
    later = λ x y reply j low l e at. absurd (none j y at);
    in_time = λ x y j low same p at. absurd (none j y at);
    in_turn = λ d x a b j low here p at. absurd (none j (record { chain = d; id = b }) at);
  }
    where
      none : (i : ℕ) (x : LifeName) → StandsIn [] i x → ⊥
      none i x at = (let no : None ≡ Some at.entry = at.here in absurd cc)

  module _ (g : ℕ) (x : Generation) (here : slice_get gs g ≡ Some x) (h : List OrderedCall)
      (one : IsLinearizationFrom x.table (start_of x) (moves_of g moves) h)
      (turn : IsInTurnFrom (start_of x) (moves_of g moves) h) (more : List LifeCall)
      (next : IsPart (suc g) (table_after x.table (map (λ e. e.call) h)) more) where
    abbrev both : List LifeCall
    both = tagged_all g h ++ more

    abbrev named : CallId → LifeName
    named a = record { chain = g; id = a }

    -- of chain g
    reply_here : (a : CallId) → reply_in gs moves (named a) ≡ reply_to (run_of x g moves) a
    reply_here a = ap (option_and_then (λ y. reply_to (run_of y g moves) a)) here

    begun_here : (a : CallId) → begun_in gs moves (named a) ≡ begun_call (run_of x g moves) a
    begun_here a = ap (option_and_then (λ y. begun_call (run_of y g moves) a)) here

    own : (y : LifeName) → y.chain ≡ g → y ≡ named y.id
    own y e = ap (λ c. record { chain = c; id = y.id }) e

    -- places of the first part
    in_front : (i : ℕ) (a : CallId) (p : StandsAt h i a)
        → (at : StandsIn both i (named a)) × (at.entry.reply ≡ p.entry.reply)
    in_front i a p = (
      record {
        entry = tagged g p.entry;
        here = get_front (tagged_all g h) more i (tagged g p.entry) (get_mapped (tagged g) h i p.entry p.here);
        same = ap (λ b. named b) p.same;
      },
      refl,
    )

    -- and of the second
    behind : (k : ℕ) (y : LifeName) (p : StandsIn more k y)
        → (at : StandsIn both (length h + k) y) × (at.entry.reply ≡ p.entry.reply)
    behind k y p = (
      record {
        entry = p.entry;
        here = ap (λ n. slice_get both (n + k)) (sym (length-tagged g h)) ∙ get_behind (tagged_all g h) more k ∙ p.here;
        same = p.same;
      },
      refl,
    )

    -- who stands in it
    placed : (i : ℕ) (y : LifeName)
        → StandsIn both i y
        → ((a : CallId) × (y ≡ named a) × StandsAt h i a) ⊎ ((k : ℕ) × (i ≡ length h + k) × StandsIn more k y)
    placed i y at = elim (split_get (tagged_all g h) more i at.entry at.here) [
      | inl front ↦ (let e = mapped_get (tagged g) h i at.entry front in
          inl (
            e.0.id,
            sym at.same ∙ ap (λ (c : LifeCall). c.name) (sym e.2),
            record { entry = e.0; here = e.1; same = refl },
          ))
      | inr there ↦ inr (
        there.0,
        there.1 ∙ ap (λ n. n + there.0) (length-tagged g h),
        record { entry = at.entry; here = there.2; same = at.same },
      )
    ]

    not_behind : (y : LifeName) (k : ℕ) → y.chain ≡ g → StandsIn more k y → ⊥
    not_behind y k e at =
        let low = from_of (suc g) (table_after x.table (map (λ e. e.call) h)) more next k y at in omega (arith, e, low)

    -- a call of chain g stands in the first part
    front_of : (i : ℕ) (a : CallId) → StandsIn both i (named a) → StandsAt h i a
    front_of i a at = elim (placed i (named a) at) [
      | inl p ↦ subst (λ b. StandsAt h i b) (sym (ap (λ (y : LifeName). y.id) p.1)) p.2
      | inr p ↦ absurd (not_behind (named a) p.0 refl p.2)
    ]

    -- one of another chain in the second
    behind_of : (i : ℕ) (y : LifeName)
        → suc g ≤ y.chain
        → StandsIn both i y
        → (k : ℕ) × (i ≡ length h + k) × StandsIn more k y
    behind_of i y low at = elim (placed i y at) [
      | inl p ↦ (let e = ap (λ (z : LifeName). z.chain) p.1 in absurd (omega (arith, e, low)))
      | inr p ↦ p
    ]

    earlier_behind : (y : LifeName) (j k : ℕ)
        → j ≡ length h + k
        → (i : ℕ) × (i < k) × StandsIn more i y
        → (i : ℕ) × (i < j) × StandsIn both i y
    earlier_behind y j k e p = (length h + p.0, omega (arith, e, p.1), (behind p.0 y p.2).0)

    earlier_front : (y : LifeName) (j : ℕ)
        → y.chain ≡ g
        → (i : ℕ) × (i < j) × StandsAt h i y.id
        → (i : ℕ) × (i < j) × StandsIn both i y
    earlier_front y j e p =
        (p.0, p.1, subst (λ z. StandsIn both p.0 z) (sym (own y e)) (in_front p.0 y.id p.2).0)

    once_by : (i j : ℕ) (y : LifeName) → StandsIn both i y → StandsIn both j y → i ≡ j
    once_by i j y a b = elim (cases_eq y.chain g) [
      | inl same ↦ one.once i j y.id (front_of i y.id (subst (λ z. StandsIn both i z) (own y same) a))
          (front_of j y.id (subst (λ z. StandsIn both j z) (own y same) b))
      | inr other ↦ (let low = above y i other a in
          let p = behind_of i y low a in
          let q = behind_of j y low b in
          let e = next.once p.0 q.0 y p.2 q.2 in
          omega (arith, p.1, q.1, e))
    ]
      where
        above : (y : LifeName) (i : ℕ) → y.chain ≢ g → StandsIn both i y → suc g ≤ y.chain
        above y i other at = elim (placed i y at) [
          | inl p ↦ absurd (other (ap (λ (z : LifeName). z.chain) p.1))
          | inr p ↦ from_of (suc g) (table_after x.table (map (λ e. e.call) h)) more next p.0 y p.2
        ]

    up : (y : LifeName) → g ≤ y.chain → y.chain ≢ g → suc g ≤ y.chain
    up y low other = omega (arith, low, other)

    reply_own : (y : LifeName) (reply : Reply)
        → y.chain ≡ g
        → reply_in gs moves y ≡ Some reply
        → reply_to (run_of x g moves) y.id ≡ Some reply
    reply_own y reply e f = sym (reply_here y.id) ∙ ap (reply_in gs moves) (sym (own y e)) ∙ f

    answered_by : (y : LifeName) (reply : Reply)
        → g ≤ y.chain
        → reply_in gs moves y ≡ Some reply
        → (i : ℕ) × (at : StandsIn both i y) × (at.entry.reply ≡ reply)
    answered_by y reply low e = elim (cases_eq y.chain g) [
      | inl same ↦ (let p = one.answered y.id reply (reply_own y reply same e) in
          let f = in_front p.0 y.id p.1 in
          subst (λ z. (i : ℕ) × (at : StandsIn both i z) × (at.entry.reply ≡ reply)) (sym (own y same))
          (p.0, f.0, f.1 ∙ p.2))
      | inr other ↦ (let p = next.answered y reply (up y low other) e in
          let f = behind p.0 y p.1 in
          (length h + p.0, f.0, f.1 ∙ p.2))
    ]

    later_by : (y z : LifeName) (reply : Reply) (j : ℕ)
        → g ≤ y.chain
        → y.chain < z.chain
        → reply_in gs moves y ≡ Some reply
        → StandsIn both j z
        → (i : ℕ) × (i < j) × StandsIn both i y
    later_by y z reply j low l e at =
        let q = behind_of j z (omega (arith, low, l)) at in
        elim (cases_eq y.chain g) [
          | inl same ↦ (let p = one.answered y.id reply (reply_own y reply same e) in
              let w = slice_get_within h p.0 p.1.entry p.1.here in
              earlier_front y j same (p.0, omega (arith, w, q.1), p.1))
          | inr other ↦ earlier_behind y j q.0 q.1 (next.later y z reply q.0 (up y low other) l e q.2)
        ]

    precedes_here : (y z : LifeName)
        → y.chain ≡ g
        → z.chain ≡ g
        → PrecedesIn gs moves y z
        → PrecedesFrom (start_of x) (moves_of g moves) y.id z.id
    precedes_here y z e f p = record {
      k = length (moves_of g (take p.k moves));
      answered = subst (λ ms. IsSome (reply_to (moved_from (start_of x) ms) y.id)) (sym (first_moves g p.k moves))
          (subst (λ (o : Option Reply). IsSome o)
          (ap (reply_in gs (take p.k moves)) (own y e)
          ∙ ap (option_and_then (λ u. reply_to (run_of u g (take p.k moves)) y.id)) here) p.answered);
      not_begun = ap (λ ms. begun_call (moved_from (start_of x) ms) z.id) (first_moves g p.k moves)
          ∙ sym (ap (begun_in gs (take p.k moves)) (own z f)
          ∙ ap (option_and_then (λ u. begun_call (run_of u g (take p.k moves)) z.id)) here) ∙ p.not_begun;
    }

    in_time_by : (y z : LifeName) (j : ℕ)
        → g ≤ y.chain
        → y.chain ≡ z.chain
        → PrecedesIn gs moves y z
        → StandsIn both j z
        → (i : ℕ) × (i < j) × StandsIn both i y
    in_time_by y z j low same p at = elim (cases_eq y.chain g) [
      | inl e ↦ (let f : z.chain ≡ g = sym same ∙ e in
          earlier_front y j e (one.in_time y.id z.id j (precedes_here y z e f p)
          (front_of j z.id (subst (λ u. StandsIn both j u) (own z f) at))))
      | inr other ↦ (let q = behind_of j z (omega (arith, low, other, same)) at in
          earlier_behind y j q.0 q.1 (next.in_time y z q.0 (up y low other) same p q.2))
    ]

    in_turn_by : (d : ℕ) (u : Generation) (a b : CallId) (j : ℕ)
        → g ≤ d
        → slice_get gs d ≡ Some u
        → PublishedBeforeFrom (start_of u) (moves_of d moves) a b
        → StandsIn both j (record { chain = d; id = b })
        → (i : ℕ) × (i < j) × StandsIn both i (record { chain = d; id = a })
    in_turn_by d u a b j low there p at = elim (cases_eq d g) [
      | inl same ↦ (let e : u ≡ x = same_Some u x (sym there ∙ ap (slice_get gs) same ∙ here) in
          let q : PublishedBeforeFrom (start_of x) (moves_of g moves) a b =
          subst (λ c. PublishedBeforeFrom (start_of x) (moves_of c moves) a b) same
          (subst (λ y. PublishedBeforeFrom (start_of y) (moves_of d moves) a b) e p) in
          earlier_front (record { chain = d; id = a }) j same
          (turn.in_turn a b j q (front_of j b (subst (λ c. StandsIn both j (record { chain = c; id = b })) same at))))
      | inr other ↦ (let q = behind_of j (record { chain = d; id = b }) (omega (arith, low, other)) at in
          earlier_behind (record { chain = d; id = a }) j q.0 q.1
          (next.in_turn d u a b q.0 (omega (arith, low, other)) there p q.2))
    ]

    from_by : (i : ℕ) (e : LifeCall) → slice_get both i ≡ Some e → g ≤ e.name.chain
    from_by i e f = elim (placed i e.name (record { entry = e; here = f; same = refl })) [
      | inl p ↦ (let c = ap (λ (z : LifeName). z.chain) p.1 in omega (arith, c))
      | inr p ↦ (let c = from_of (suc g) (table_after x.table (map (λ e. e.call) h)) more next p.0 e.name p.2 in
          omega (arith, c))
    ]

    begun_by : (i : ℕ) (e : LifeCall) → slice_get both i ≡ Some e → begun_in gs moves e.name ≡ Some e.call
    begun_by i e f = elim (split_get (tagged_all g h) more i e f) [
      | inl front ↦ (let c = mapped_get (tagged g) h i e front in
          ap (begun_in gs moves) (ap (λ (z : LifeCall). z.name) (sym c.2)) ∙ begun_here c.0.id ∙ one.begun i c.0 c.1
          ∙ ap (λ (z : LifeCall). Some z.call) c.2)
      | inr there ↦ next.begun there.0 e there.2
    ]

    -- both parts are an order of the calls from chain g on
    joined : IsPart g x.table both
    joined = record {
      from = from_by;
      legal = legal_both g h x.table more one.legal next.legal;
      begun = begun_by;
      once = once_by;
      answered = answered_by;
      later = later_by;
      in_time = in_time_by;
      in_turn = in_turn_by;
    }

  -- the order of each chain's calls
  abbrev order_at : (g : ℕ) (x : Generation) → slice_get gs g ≡ Some x → IsReached x.table
      → (h : List OrderedCall) × IsLinearizationFrom x.table (start_of x) (moves_of g moves) h
      × IsInTurnFrom (start_of x) (moves_of g moves) h × LeavesWhatIsHeld x.table (run_of x g moves) h
  order_at g x here r =
      orders x (moves_of g moves) (s.some g x here) (s.few g x here) r (s.numbers g x here) (s.asked g)

  -- each begins with a reached table
  reached_at : (g : ℕ) (x : Generation) → slice_get gs g ≡ Some x → IsReached x.table
  reached_at zero x here = s.reached x here
  reached_at (suc g) y there =
      let x = found_below gs g (let l = slice_get_within gs (suc g) y there in omega (arith, l)) in
      let r = reached_at g x.0 x.1 in
      let o = order_at g x.0 x.1 r in
      subst IsReached (o.3 y.table (s.handed g x.0 y x.1 there))
      (order_reaches (start_of x.0) (moves_of g moves) o.0 x.0.table (λ c. refl) (s.asked g) o.1.begun r)

  -- the order of the calls of the last n chains, from chain g on
  build : (n g : ℕ) (t : PlainTable)
      → length gs ≡ g + n
      → ((x : Generation) → slice_get gs g ≡ Some x → x.table ≡ t)
      → (h : List LifeCall) × IsPart g t h
  build zero g t many first = ([], none_left g t (λ d low. slice_get_past gs d (omega (arith, many, low))))
  build (suc n) g t many first =
      let x = found_below gs g (omega (arith, many)) in
      let o = order_at g x.0 x.1 (reached_at g x.0 x.1) in
      let rest = build n (suc g) (table_after x.0.table (map (λ e. e.call) o.0)) (omega (arith, many))
      (λ y there. sym (o.3 y.table (s.handed g x.0 y x.1 there))) in
      subst (λ u. (h : List LifeCall) × IsPart g u h) (first x.0 x.1)
      (tagged_all g o.0 ++ rest.0, joined g x.0 x.1 o.0 o.1 o.2 rest.0 rest.1)

  -- ---- in time

  -- a call that is answered at some time has its reply in the end,
  replied_still : (k : ℕ) (x : LifeName) (reply : Reply) (o : Option Generation)
      → slice_get gs x.chain ≡ o
      → option_and_then (λ y. reply_to (run_of y x.chain (take k moves)) x.id) o ≡ Some reply
      → option_and_then (λ y. reply_to (run_of y x.chain moves) x.id) o ≡ Some reply
  replied_still k x reply None there e = absurd cc
  replied_still k x reply (Some y) there e =
      ap (λ ms. reply_to (moved_from (start_of y) ms) x.id) (both_parts x.chain k moves)
      ∙ ap (λ l. reply_to l x.id)
      (parts (start_of y) (moves_of x.chain (take k moves)) (moves_of x.chain (drop k moves)))
      ∙ reply_still (moves_of x.chain (drop k moves)) (run_of y x.chain (take k moves)) x.id reply e

  -- and was begun by then
  begun_then : (k : ℕ) (x : LifeName) (reply : Reply) (o : Option Generation)
      → slice_get gs x.chain ≡ o
      → option_and_then (λ y. reply_to (run_of y x.chain (take k moves)) x.id) o ≡ Some reply
      → IsSome (option_and_then (λ y. begun_call (run_of y x.chain (take k moves)) x.id) o)
  begun_then k x reply None there e = absurd cc
  begun_then k x reply (Some y) there e =
      let asked = asked_front (moves_of x.chain (take k moves)) (moves_of x.chain (drop k moves))
      (subst AreAsked (both_parts x.chain k moves) (s.asked x.chain)) in
      let o = orders y (moves_of x.chain (take k moves)) (s.some x.chain y there) (s.few x.chain y there)
      (reached_at x.chain y there) (s.numbers x.chain y there) asked in
      let p = o.1.answered x.id reply e in
      is_some (begun_call (run_of y x.chain (take k moves)) x.id) p.1.entry.call
      (ap (begun_call (run_of y x.chain (take k moves))) (sym p.1.same) ∙ o.1.begun p.0 p.1.entry p.1.here)

  -- no call precedes one of an earlier chain
  never_before : (x y : LifeName) (call : Call)
      → y.chain < x.chain
      → PrecedesIn gs moves x y
      → begun_in gs moves y ≡ Some call
      → ⊥
  never_before x y call l p begun =
      let r = some_of (reply_in gs (take p.k moves) x) p.answered in
      let then_begun = s.retired p.k y x l (begun_then p.k x r.0 (slice_get gs x.chain) refl r.1)
      (is_some (begun_in gs moves y) call begun) in
      let no : false ≡ true = subst (λ (o : Option Call). IsSome o) p.not_begun then_begun in
      absurd cc

  -- a life has an order
  pub life_order : (first : Generation)
      → slice_get gs 0 ≡ Some first
      → (h : List LifeCall) × IsLifeOrder first.table gs moves h
  life_order first here =
      let b = build (length gs) 0 first.table (omega arith)
      (λ y e. ap (λ (z : Generation). z.table) (same_Some y first (sym e ∙ here))) in (
        b.0,
        record {
          legal = b.1.legal;
          begun = b.1.begun;
          once = b.1.once;
          answered = λ x reply e. b.1.answered x reply (omega arith) e;
          in_time = λ x y j p at. elim (cases_order x.chain y.chain) [
            | inl same ↦ b.1.in_time x y j (omega arith) same p at
            | inr other ↦ elim other [
              | inl less ↦ (let r = some_of (reply_in gs (take p.k moves) x) p.answered in
                  b.1.later x y r.0 j (omega arith) less (replied_still p.k x r.0 (slice_get gs x.chain) refl r.1) at)
              | inr greater ↦ absurd (never_before x y at.entry.call greater p
                  (ap (begun_in gs moves) (sym at.same) ∙ b.1.begun j at.entry at.here))
            ]
          ];
          in_turn = λ d x a c j there p at. b.1.in_turn d x a c j (omega arith) there p at;
        },
      )
