-- The updates of a row are published in turn, if its seats send by one sender and each sender's calls are taken in
-- order.
use Rattle.std.proofs.Common.{◌≡◌, ℕ, zero, suc, ◌+◌, ◌<◌, ◌≤◌, Bool, true, false, cond, List, [], ◌∷◌, ◌++◌, length}
use Rattle.std.proofs.Common.{take, Option, None, Some, refl, arith, ap, sym, ◌∙◌, subst, ◌⊎◌, inl, inr, length-append}
use Rattle.std.specs.Prelude.{slice_get, slice_index_or, is_some, IsSome, not, ◌&&◌}
use Rattle.std.proofs.lemmas.Bool.{cases_eq, cases_Bool, cases_lt, and_from, and_parts, lt-ltb, ltb-true, ltb-false}
use Rattle.std.proofs.lemmas.Bool.{eqb-true, both_ways}
use Rattle.std.proofs.lemmas.List.{take_all}
use Rattle.std.proofs.lemmas.Option.{same_Some, slice_get_within, get_or_from_slice_get}
use Rattle.table.specs.Operations.{is_update}
use Rattle.table.specs.declared.operations.Call.{Call}
use Rattle.table.specs.Items.{Item}
use Rattle.table.specs.declared.operations.Reply.{Reply}
use Rattle.table.specs.declared.operations.Reply.TheVariants.{Value}
use Rattle.node.specs.Faces.{face_of, look_at}
use Rattle.node.specs.declared.looks.Look.{Look}
use Rattle.node.specs.declared.looks.Look.TheVariants.{Clean, Dirty}
use Rattle.node.specs.declared.messages.Input.TheVariants.{Call as Called}
use Rattle.node.proofs.BegunLists.{found_below}
use Rattle.world.proofs.lists.Standing.{get_within, some_of}
use Rattle.proto.specs.Turns.{is_store}
use Rattle.interleavings.specs.Asked.{AreAsked}
use Rattle.interleavings.specs.Chains.{with_at, with_seat, Seat, Chain, OfSeat, queue, calls_from, opening_chain}
use Rattle.interleavings.specs.Moves.{Move, Sends, Takes, Publishes, Puts, Arrives, Replies, Receives, Looks, Stops}
use Rattle.interleavings.specs.Moves.{Notices, brought, received, looked, is_free, read_of, done, moved_from, moved}
use Rattle.interleavings.specs.Orders.{begun_call, waiting_calls}
use Rattle.interleavings.specs.OtherMoves.{is_published_from}
use Rattle.interleavings.specs.Connections.{made}
use Rattle.interleavings.specs.ServingMoves.{ServingChain, ServingMove, Reads, Begins, Asks, Peeks, Refuses, Answers}
use Rattle.interleavings.specs.ServingMoves.{Writes, Ends, Runs, served_at, refusing, key_due, look_reply, is_of_seat}
use Rattle.interleavings.specs.ServingMoves.{opening_serving, asking, peeked, peeking, answering, served_by}
use Rattle.interleavings.specs.ServingMoves.{served_from}
use Rattle.interleavings.specs.ServingMoves.{served}
use Rattle.interleavings.specs.Served.{CallName, call_made, ServedCall, IsOneOrder, IsServedInTurn}
use Rattle.interleavings.specs.Served.{id_at_seat, is_call_published, IsMadeUpdate}
use Rattle.interleavings.specs.Rows.{PartName, part_at, part_of, IsPart, IsBefore, IsRow, IsPublishedInTurn}
use Rattle.interleavings.specs.Rows.{IsRowInTurn}
use Rattle.interleavings.specs.Senders.{Senders, AreTakenInOrder, HaveOneSender}
use Rattle.interleavings.proofs.lists.ChangedFunctions.{at_other, at_same}
use Rattle.interleavings.proofs.relation.Published.{each_keeps}
use Rattle.interleavings.proofs.relation.Replied.{waits_behind}
use Rattle.interleavings.proofs.runs.Simulating.{simulates}
use Rattle.interleavings.proofs.rows.Going.{goes_between}
use Rattle.interleavings.proofs.rows.PairsInOrder.{CallsChange, NoneBegun, OneSent, OneLooked, calls_change, Passed}
use Rattle.interleavings.proofs.rows.PairsInOrder.{Ready, passed_then, published_before}
use Rattle.interleavings.proofs.rows.RowOrder.{no_more, row_in_turn}
use Rattle.interleavings.proofs.rows.SentInOrder.{sent_at, TakesFirst, times, waits_there}
use Rattle.interleavings.proofs.served.ChainMoves.{others_same}
use Rattle.interleavings.proofs.served.Along.{opening_order, order_along, made_along, chain_along, asked_along}
use Rattle.interleavings.proofs.served.Along.{grows_from}
use Rattle.interleavings.proofs.served.Names.{ordinal_of, name_of, begun_there, named_there, made_there, same_ordinal}
use Rattle.interleavings.proofs.served.Names.{same_id}
use Rattle.interleavings.proofs.served.OneOrder.{one_order}
use Rattle.interleavings.proofs.served.Steps.{IsInOrder, Grows}

-- ---- one move of a chain that serves

-- Its chain stays, or makes one move; and that takes a call only if the move itself does.
pub data ChainGoes (s t : ServingChain) (m : ServingMove) : Type 0 where
  Stays : t.chain ≡ s.chain → ChainGoes s t m
  Goes : (mv : Move)
      → t.chain ≡ done s.chain mv
      → ((i c : ℕ) → mv ≡ Takes i (OfSeat c) → m ≡ Runs (Takes i (OfSeat c)))
      → ChainGoes s t m

module _ (s : ServingChain) where
  either : (m : ServingMove) (b : Bool) (x y : ServingChain)
      → ChainGoes s x m
      → ChainGoes s y m
      → ChainGoes s (cond b x y) m
  either m true x y e f = e
  either m false x y e f = f

  asks_go : (c : ℕ) (due : Option Call) → ChainGoes s (asking done s c due) (Asks c)
  asks_go c None = Stays refl
  asks_go c (Some call) =
      either (Asks c) (is_free (s.chain.seats c)) _ s
      (Goes (Sends c call) refl (λ i d e. (let no : Sends c call ≡ Takes i (OfSeat d) = e in absurd cc))) (Stays refl)

  peeked_goes : (c : ℕ) (key : List ℕ) (reply : Option Reply) → ChainGoes s (peeked done s c key reply) (Peeks c)
  peeked_goes c key None = Stays refl
  peeked_goes c key (Some reply) =
      Goes (Looks c key) refl (λ i d e. (let no : Looks c key ≡ Takes i (OfSeat d) = e in absurd cc))

  peeks_go : (c : ℕ) (key : Option (List ℕ)) → ChainGoes s (peeking done s c key) (Peeks c)
  peeks_go c None = Stays refl
  peeks_go c (Some key) = peeked_goes c key (look_reply s.chain c key)

  refuses_go : (c : ℕ) (due : Option Call) → ChainGoes s (refusing s c due) (Refuses c)
  refuses_go c None = Stays refl
  refuses_go c (Some call) = either (Refuses c) (is_store call.op) _ s (Stays refl) (Stays refl)

  answers_go : (c : ℕ) (queued : List Reply) → ChainGoes s (answering done s c queued) (Answers c)
  answers_go c [] = Stays refl
  answers_go c (reply ∷ more) =
      either (Answers c) _ _ s
      (Goes (Receives c) refl (λ i d e. (let no : Receives c ≡ Takes i (OfSeat d) = e in absurd cc))) (Stays refl)

  pub chain_goes : (m : ServingMove) → ChainGoes s (served_by done s m) m
  chain_goes (Reads c piece) = Stays refl
  chain_goes (Begins c) = Stays refl
  chain_goes (Asks c) = asks_go c (served_at s c).due
  chain_goes (Peeks c) = peeks_go c (key_due (served_at s c).due)
  chain_goes (Refuses c) = refuses_go c (served_at s c).due
  chain_goes (Answers c) = answers_go c (s.chain.seats c).queued
  chain_goes (Writes c n) = Stays refl
  chain_goes (Ends c) = Stays refl
  chain_goes (Runs mv) =
      either (Runs mv) (is_of_seat mv) s (record s { chain = done s.chain mv }) (Stays refl)
      (Goes mv refl (λ i c e. ap (λ k. Runs k) e))

-- the k-th move of a run, if there is one
one_step : (ms : List ServingMove) (s : ServingChain) (k : ℕ)
    → (served_from done s (take (suc k) ms) ≡ served_from done s (take k ms))
    ⊎ ((m : ServingMove) × (slice_get ms k ≡ Some m)
    × (served_from done s (take (suc k) ms) ≡ served_by done (served_from done s (take k ms)) m))
one_step [] s zero = inl refl
one_step [] s (suc k) = inl refl
one_step (m ∷ ms) s zero = inr (m, refl, refl)
one_step (m ∷ ms) s (suc k) = one_step ms (served_by done s m) k

-- ---- seats along a run

-- a seat stays at its server,
home_stays : (ms : List Move) (l : Chain) (c : ℕ) → ((moved_from l ms).seats c).home ≡ (l.seats c).home
home_stays [] l c = refl
home_stays (m ∷ ms) l c = home_stays ms (done l m) c ∙ (each_keeps l c m).home

-- its replies only grow,
module _ (l : Chain) (c : ℕ) where
  longer_at : (d : ℕ) (s : Seat)
      → length (l.seats d).got ≤ length s.got
      → length (l.seats c).got ≤ length (with_at l.seats d s c).got
  longer_at d s more = elim (cases_eq c d) [
    | inl same ↦ subst (λ e. length (l.seats e).got ≤ length (with_at l.seats d s e).got) (sym same)
        (subst (λ (t : Seat). length (l.seats d).got ≤ length t.got) (sym (at_same l.seats d s)) more)
    | inr other ↦ subst (λ (t : Seat). length (l.seats c).got ≤ length t.got) (sym (at_other l.seats d s c other))
        (omega arith)
  ]

  by_others : (m : Move) → is_of_seat m ≡ false → length (l.seats c).got ≤ length ((done l m).seats c).got
  by_others m e = (let n = ap (λ rs. length rs) (others_same l m c e).got in omega (arith, n))

  got_grows : (m : Move) → length (l.seats c).got ≤ length ((done l m).seats c).got
  got_grows (Sends d call) = by (is_free (l.seats d))
    where
      by : (b : Bool)
          → length (l.seats c).got
          ≤ length ((cond b
          (brought (with_seat l d (record (l.seats d) { calls = (l.seats d).calls ++ call ∷ [] })) (l.seats d).home
          (Called d call)) l).seats c).got
      by true = longer_at d (record (l.seats d) { calls = (l.seats d).calls ++ call ∷ [] }) (omega arith)
      by false = omega arith
  got_grows (Takes i sender) = by_others (Takes i sender) refl
  got_grows (Publishes i) = by_others (Publishes i) refl
  got_grows (Puts i j) = by_others (Puts i j) refl
  got_grows (Arrives i j) = by_others (Arrives i j) refl
  got_grows (Replies i d) = by_others (Replies i d) refl
  got_grows (Receives d) = by (l.seats d).queued
    where
      by : (rs : List Reply) → length (l.seats c).got ≤ length ((received l d (l.seats d) rs).seats c).got
      by [] = omega arith
      by (r ∷ rs) =
          longer_at d (record (l.seats d) { got = (l.seats d).got ++ r ∷ []; queued = rs })
          (let n = length-append (l.seats d).got (r ∷ []) in omega (arith, n))
  got_grows (Looks d key) =
      by (is_free (l.seats d) && not (l.servers (l.seats d).home).stopped)
      (look_at (face_of (l.servers (l.seats d).home).node) key)
    where
      by : (b : Bool) (look : Look Item)
          → length (l.seats c).got ≤ length ((cond b (looked l d (l.seats d) key look) l).seats c).got
      by true (Clean item) =
          longer_at d
          (record (l.seats d) {
            calls = (l.seats d).calls ++ read_of key ∷ [];
            got = (l.seats d).got ++ Value item ∷ [];
          })
          (let n = length-append (l.seats d).got (Value item ∷ []) in omega (arith, n))
      by true Dirty = omega arith
      by false look = omega arith
  got_grows (Stops i) = by_others (Stops i) refl
  got_grows (Notices i j) = by_others (Notices i j) refl

  -- and one call of it is open at most
  open_kept : (m : Move)
      → length (l.seats c).calls ≤ length (l.seats c).got + 1
      → length ((done l m).seats c).calls ≤ length ((done l m).seats c).got + 1
  open_kept m h = by (calls_change l c m) (got_grows m)
    where
      by : CallsChange l m c
          → length (l.seats c).got ≤ length ((done l m).seats c).got
          → length ((done l m).seats c).calls ≤ length ((done l m).seats c).got + 1
      by (NoneBegun same) more = (let n = ap (λ cs. length cs) same in omega (arith, n, more, h))
      by (OneSent call is free same) more =
          let n = ap (λ cs. length cs) same ∙ length-append (l.seats c).calls (call ∷ []) in
          let level : length (l.seats c).calls ≡ length (l.seats c).got = eqb-true _ _ free in
          omega (arith, n, more, level)
      by (OneLooked key is free same) more =
          let n = ap (λ cs. length cs) same ∙ length-append (l.seats c).calls (read_of key ∷ []) in
          let level : length (l.seats c).calls ≡ length (l.seats c).got = eqb-true _ _ free in
          omega (arith, n, more, level)

few_open : (ms : List Move) (l : Chain) (c : ℕ)
    → length (l.seats c).calls ≤ length (l.seats c).got + 1
    → length ((moved_from l ms).seats c).calls ≤ length ((moved_from l ms).seats c).got + 1
few_open [] l c h = h
few_open (m ∷ ms) l c h = few_open ms (done l m) c (open_kept l c m h)

-- ---- lists and times

-- the last element
at_end : {X : Type 0} (xs : List X) (x : X) (q : ℕ)
    → length xs ≤ q
    → q < length (xs ++ x ∷ [])
    → slice_get (xs ++ x ∷ []) q ≡ Some x
at_end [] x zero h k = refl
at_end [] x (suc q) h k = absurd (omega (arith, k))
at_end (y ∷ xs) x zero h k = absurd (omega (arith, h))
at_end (y ∷ xs) x (suc q) h k = at_end xs x q (omega (arith, h)) (omega (arith, k))

-- what isn't there lies behind
beyond : (cs : List Call) (q : ℕ) → slice_get cs q ≡ None → length cs ≤ q
beyond [] q e = omega arith
beyond (c ∷ cs) zero e = absurd (let no : Some c ≡ None = e in cc)
beyond (c ∷ cs) (suc q) e = (let l = beyond cs q e in omega (arith, l))

none_there : {X : Type 0} (o : Option X) → is_some o ≡ false → o ≡ None
none_there None e = refl
none_there (Some x) e = absurd (let no : true ≡ false = e in cc)

-- what is false at first and true later becomes true at some place before
time_below : (f : ℕ → Bool) (n : ℕ)
    → f 0 ≡ false
    → f n ≡ true
    → (k : ℕ) × (k < n) × (f k ≡ false) × (f (suc k) ≡ true)
time_below f zero none there = absurd (let no : false ≡ true = sym none ∙ there in cc)
time_below f (suc n) none there = elim (cases_Bool (f n)) [
  | inl already ↦ (let t = time_below f n none already in (t.0, omega (arith, t.1), t.2, t.3))
  | inr still ↦ (n, omega arith, still, there)
]

module _ (senders : Senders) (count : ℕ) (homes : List ℕ) (moves : List ServingMove) (row : List PartName)
    (few : count ≤ 16) (r : IsRow done count homes moves row) (one : HaveOneSender senders row)
    (order : AreTakenInOrder senders count homes moves) where
  abbrev first : ServingChain
  first = opening_serving count homes

  opened : IsInOrder (opening_serving count homes)
  opened = opening_order count homes

  abbrev last : ServingChain
  last = served done count homes moves

  abbrev front : ℕ → ServingChain
  front k = served done count homes (take k moves)

  ordered : IsInOrder (served done count homes moves)
  ordered = order_along moves (opening_serving count homes) (opening_order count homes)

  front_ordered : (k : ℕ) → IsInOrder (served done count homes (take k moves))
  front_ordered k = order_along (take k moves) (opening_serving count homes) (opening_order count homes)

  front_grows : (k : ℕ) → Grows (served done count homes (take k moves)) (served done count homes moves)
  front_grows k = grows_from k moves (opening_serving count homes) (opening_order count homes)

  -- the moves of the running chain
  front_run : (k : ℕ)
      → (ms : List Move) × AreAsked ms × ((served done count homes (take k moves)).chain ≡ moved count homes ms)
  front_run k = (
    made_along (take k moves) (opening_serving count homes) (opening_order count homes),
    asked_along (take k moves) (opening_serving count homes) (opening_order count homes),
    chain_along (take k moves) (opening_serving count homes) (opening_order count homes),
  )

  at_home : (k c : ℕ) → ((front k).chain.seats c).home ≡ slice_index_or homes c count
  at_home k c =
      let f = front_run k in
      ap (λ (l : Chain). (l.seats c).home) f.2 ∙ home_stays f.0 (opening_chain count homes) c

  -- the calls of a seat that wait come after those that have replies
  waits : (k c : ℕ)
      → length (waiting_calls (front k).chain c)
      + (length ((front k).chain.seats c).got + length ((front k).chain.seats c).queued)
      ≤ length ((front k).chain.seats c).calls
  waits k c =
      let f = front_run k in
      subst
      (λ (l : Chain). length (waiting_calls l c) + (length (l.seats c).got + length (l.seats c).queued)
      ≤ length (l.seats c).calls) (sym f.2) (waits_behind count homes (simulates count homes few) f.0 c f.1)

  one_open : (k c : ℕ)
      → length ((front k).chain.seats c).calls ≤ length ((front k).chain.seats c).got + 1
  one_open k c =
      let f = front_run k in
      subst (λ (l : Chain). length (l.seats c).calls ≤ length (l.seats c).got + 1) (sym f.2)
      (few_open f.0 (opening_chain count homes) c (omega arith))

  -- ---- names and places

  -- a call that was made then stands at its place among its seat's calls,
  begun_at : (k : ℕ) (z : CallName) (call : Call)
      → call_made (front k) z ≡ Some call
      → begun_call (front k).chain (ordinal_of last z) ≡ Some call
  begun_at k z call e =
      ap (begun_call (front k).chain) (same_ordinal (front k) last z call (front_ordered k) (front_grows k) e)
      ∙ begun_there (front k) (front_ordered k) z call e

  -- and what stands there then was made then
  made_then : (k : ℕ) (z : CallName) (call later : Call)
      → call_made last z ≡ Some later
      → begun_call (front k).chain (ordinal_of last z) ≡ Some call
      → call_made (front k) z ≡ Some call
  made_then k z call later made e =
      let w = name_of (front k) (ordinal_of last z) in
      let m = made_there (front k) (front_ordered k) (ordinal_of last z) call e in
      let now = (front_grows k).calls w.seat w.number w.ordinal call m.0 in
      let same = same_ordinal (front k) last w call (front_ordered k) (front_grows k) m.0 ∙ m.1 in
      let is : z ≡ w =
      sym (named_there last ordered z later made) ∙ ap (name_of last) (sym same)
      ∙ named_there last ordered w call now in
      ap (call_made (front k)) is ∙ m.0

  id_is : (k : ℕ) (z : CallName) (call : Call)
      → call_made (front k) z ≡ Some call
      → id_at_seat (front k) z ≡ ordinal_of last z
  id_is k z call e =
      same_id (front k) z ∙ sym (same_ordinal (front k) last z call (front_ordered k) (front_grows k) e)

  -- the chain stays, or makes a move that takes the first call of a sender
  change : (k : ℕ)
      → ((front (suc k)).chain ≡ (front k).chain)
      ⊎ ((mv : Move) × ((front (suc k)).chain ≡ done (front k).chain mv) × TakesFirst senders one.sender
      (front k).chain mv)
  change k = by (one_step moves (opening_serving count homes) k)
    where
      of : (m : ServingMove)
          → slice_get moves k ≡ Some m
          → (t : ServingChain)
          → ChainGoes (served done count homes (take k moves)) t m
          → (t.chain ≡ (served done count homes (take k moves)).chain)
          ⊎ ((mv : Move) × (t.chain ≡ done (served done count homes (take k moves)).chain mv)
          × TakesFirst senders one.sender (served done count homes (take k moves)).chain mv)
      of m at t (Stays same) = inl same
      of m at t (Goes mv is takes) = inr (
        mv,
        is,
        λ i c e some. order.in_order k i c (at ∙ ap (λ q. Some q) (takes i c e)) some,
      )

      by : (served done count homes (take (suc k) moves) ≡ served done count homes (take k moves))
          ⊎ ((m : ServingMove) × (slice_get moves k ≡ Some m)
          × (served done count homes (take (suc k) moves) ≡ served_by done (served done count homes (take k moves)) m))
          → ((served done count homes (take (suc k) moves)).chain ≡ (served done count homes (take k moves)).chain)
          ⊎ ((mv : Move)
          × ((served done count homes (take (suc k) moves)).chain
          ≡ done (served done count homes (take k moves)).chain mv)
          × TakesFirst senders one.sender (served done count homes (take k moves)).chain mv)
      by (inl same) = inl (ap (λ (s : ServingChain). s.chain) same)
      by (inr at) =
          of at.0 at.1 (served done count homes (take (suc k) moves))
          (subst (λ t. ChainGoes (served done count homes (take k moves)) t at.0) (sym at.2)
          (chain_goes (served done count homes (take k moves)) at.0))

  -- ---- a call of a part, and one of a later part

  module _ (x y : CallName) (b : IsBefore row (part_of x) (part_of y)) (ux : IsMadeUpdate last x)
      (uy : IsMadeUpdate last y) where
    abbrev g : ℕ
    g = one.sender

    abbrev i : ℕ
    i = r.server

    abbrev X : ℕ
    X = (ordinal_of (served done count homes moves) x).ordinal

    abbrev Y : ℕ
    Y = (ordinal_of (served done count homes moves) y).ordinal

    abbrev begun : ℕ → ℕ → ℕ
    begun k e = length ((front k).chain.seats e).calls

    part_x : IsPart row (part_of x)
    part_x = record { place = b.place; here = b.here }

    part_y : IsPart row (part_of y)
    part_y = record { place = b.later_place; here = b.there }

    own_x : senders x.seat ≡ one.sender
    own_x = one.sends (part_of x) part_x

    own_y : senders y.seat ≡ one.sender
    own_y = one.sends (part_of y) part_y

    home_x : (k : ℕ) → ((front k).chain.seats x.seat).home ≡ r.server
    home_x k = at_home k x.seat ∙ get_or_from_slice_get homes x.seat r.server count (r.at_server (part_of x) part_x)

    home_y : (k : ℕ) → ((front k).chain.seats y.seat).home ≡ r.server
    home_y k = at_home k y.seat ∙ get_or_from_slice_get homes y.seat r.server count (r.at_server (part_of y) part_y)

    -- when y is made, x was made before
    first_made : (n : ℕ)
        → is_some (call_made (front n) y) ≡ true
        → (j : ℕ) × (j < n) × (call_made (front j) y ≡ None)
        × ((k : ℕ) → j ≤ k → IsSome (call_made (front k) x))
    first_made n made =
        let f = time_below (λ k. is_some (call_made (front k) y)) n refl made in
        let none = none_there (call_made (front f.0) y) f.2 in
        let now = some_of (call_made (front (suc f.0)) y) f.3 in
        let past = beyond (part_at (front f.0) (part_of y)).calls y.ordinal none in
        let inside = slice_get_within (part_at (front (suc f.0)) (part_of y)).calls y.ordinal now.0 now.1 in
        let asked = r.made_in_turn (part_of x) (part_of y) f.0 b (omega (arith, past, inside)) in
        let all = (no_more done count homes moves row r (part_of x) f.0 asked).0 in
        let there = slice_get_within (part_at last (part_of x)).calls x.ordinal ux.0 ux.1 in (
          f.0,
          f.1,
          none,
          λ k later.
              let more = (goes_between done count homes moves f.0 k x.seat x.number later).calls in
              get_within (part_at (front k) (part_of x)).calls x.ordinal (omega (arith, all, there, more)),
        )

    x_begun : (k : ℕ) → IsSome (call_made (front k) x) → X < begun k x.seat
    x_begun k made =
        let m = some_of (call_made (front k) x) made in
        slice_get_within ((front k).chain.seats x.seat).calls X m.0 (begun_at k x m.0 m.1)

    y_made : (k : ℕ) → Y < begun k y.seat → is_some (call_made (front k) y) ≡ true
    y_made k less =
        let f = found_below ((front k).chain.seats y.seat).calls Y less in
        ap is_some (made_then k y f.0 uy.0 uy.1 f.1)

    y_not_begun : (k : ℕ) → call_made (front k) y ≡ None → begun k y.seat ≤ Y
    y_not_begun k none = elim (cases_lt Y (begun k y.seat)) [
      | inl less ↦ absurd (both_ways _ (ap is_some none) (y_made k less))
      | inr past ↦ past
    ]

    x_made : (k : ℕ) → Y < begun (suc k) y.seat → IsSome (call_made (front k) x)
    x_made k now =
        let f = first_made (suc k) (y_made (suc k) now) in
        f.3 k (omega (arith, f.1))

    at_last : front (length moves) ≡ last
    at_last = ap (served done count homes) (take_all (length moves) moves (omega arith))

    apart : x.seat ≡ y.seat → X < Y
    apart same =
        let f = first_made (length moves) (ap (λ s. is_some (call_made s y)) at_last ∙ ap is_some uy.1) in
        let early = x_begun f.0 (f.3 f.0 (omega arith)) in
        let late = y_not_begun f.0 f.2 in
        let calls = ap (λ e. length ((front f.0).chain.seats e).calls) same in
        omega (arith, early, late, calls)

    -- as many calls wait as stand in the queue
    waits_x : (k : ℕ)
        → length (waiting_calls (front k).chain x.seat)
        ≡ times senders one.sender x.seat (sent_at senders one.sender (front k).chain r.server)
    waits_x k =
        ap (λ j. length (calls_from x.seat (queue ((front k).chain.servers j)))) (home_x k)
        ∙ waits_there senders one.sender x.seat (queue ((front k).chain.servers r.server)) own_x

    waits_y : (k : ℕ)
        → length (waiting_calls (front k).chain y.seat)
        ≡ times senders one.sender y.seat (sent_at senders one.sender (front k).chain r.server)
    waits_y k =
        ap (λ j. length (calls_from y.seat (queue ((front k).chain.servers j)))) (home_y k)
        ∙ waits_there senders one.sender y.seat (queue ((front k).chain.servers r.server)) own_y

    -- y isn't begun by a look
    no_look : (k : ℕ) (mv : Move)
        → (front (suc k)).chain ≡ done (front k).chain mv
        → (key : List ℕ)
        → mv ≡ Looks y.seat key
        → Y < length ((done (front k).chain mv).seats y.seat).calls
        → Y < begun k y.seat
    no_look k mv is key looks now = by (calls_change (front k).chain y.seat mv)
      where
        by : CallsChange (served done count homes (take k moves)).chain mv y.seat
            → Y < length ((served done count homes (take k moves)).chain.seats y.seat).calls
        by (NoneBegun same) = (let n = ap (λ cs. length cs) same in omega (arith, n, now))
        by (OneSent call sends free same) =
            (let no : Sends y.seat call ≡ Looks y.seat key = sym sends ∙ looks in absurd cc)
        by (OneLooked other is_look free same) =
            elim (cases_lt Y (length ((served done count homes (take k moves)).chain.seats y.seat).calls)) [
              | inl less ↦ less
              | inr past ↦
                  let cs = ((served done count homes (take k moves)).chain.seats y.seat).calls in
                  let n = ap (λ xs. length xs) same in
                  let read : begun_call (served done count homes (take (suc k) moves)).chain
                  (ordinal_of (served done count homes moves) y)
                  ≡ Some (read_of other) =
                  ap (λ (l : Chain). slice_get (l.seats y.seat).calls Y) is ∙ ap (λ xs. slice_get xs Y) same
                  ∙ at_end cs (read_of other) Y past (omega (arith, n, now)) in
                  let then = made_then (suc k) y (read_of other) uy.0 uy.1 read in
                  let in_the_end = (front_grows (suc k)).calls y.seat y.number y.ordinal (read_of other) then in
                  let call : read_of other ≡ uy.0 = same_Some _ _ (sym in_the_end ∙ uy.1) in
                  absurd (let no : false ≡ true = ap (λ (q : Call). is_update q.op) call ∙ uy.2 in cc)
            ]

    ready : (k : ℕ) (mv : Move)
        → (front (suc k)).chain ≡ done (front k).chain mv
        → TakesFirst senders one.sender (front k).chain mv
        → Ready senders one.sender x.seat y.seat r.server X Y (front k).chain mv
    ready k mv is takes = record {
      own = own_y;
      home = home_y k;
      first = takes;
      idle = λ free.
          let n = waits k y.seat in
          let w = waits_y k in
          let same : length ((front k).chain.seats y.seat).calls ≡ length ((front k).chain.seats y.seat).got =
          eqb-true _ _ free in
          omega (arith, n, w, same);
      one =
          let n = waits k x.seat in
          let w = waits_x k in
          let few = one_open k x.seat in
          omega (arith, n, w, few);
      earlier = λ now. x_begun k (x_made k (subst (λ (l : Chain). Y < length (l.seats y.seat).calls) (sym is) now));
      apart = apart;
      no_read = λ key looks now. no_look k mv is key looks now;
    }

    -- if y is begun, x is published, or stands before it
    passed : (k : ℕ)
        → Y < begun k y.seat
        → Passed senders one.sender x.seat y.seat r.server X Y (front k).chain (Receives 0) (front k).chain
    passed zero now = absurd (omega (arith, now))
    passed (suc k) now = by (change k) (passed k)
      where
        by : ((front (suc k)).chain ≡ (front k).chain)
            ⊎ ((mv : Move) × ((front (suc k)).chain ≡ done (front k).chain mv) × TakesFirst senders one.sender
            (front k).chain mv)
            → (Y < length ((front k).chain.seats y.seat).calls
            → Passed senders one.sender x.seat y.seat r.server X Y (front k).chain (Receives 0) (front k).chain)
            → Passed senders one.sender x.seat y.seat r.server X Y (front (suc k)).chain (Receives 0)
            (front (suc k)).chain
        by (inl same) before =
            subst
            (λ (l : Chain). Passed senders one.sender x.seat y.seat r.server X Y l (Receives 0) l) (sym same)
            (before (subst (λ (l : Chain). Y < length (l.seats y.seat).calls) same now))
        by (inr goes) before =
            subst
            (λ (l : Chain). Passed senders one.sender x.seat y.seat r.server X Y l (Receives 0) l) (sym goes.1)
            (passed_then senders one.sender x.seat y.seat r.server X Y (front k).chain goes.0
            (ready k goes.0 goes.1 goes.2) before
            (subst (λ (l : Chain). Y < length (l.seats y.seat).calls) goes.1 now))

    -- so if a move publishes y, x is published before
    in_turn : (k : ℕ)
        → is_call_published (λ e. e) (front k) y ≡ false
        → is_call_published (λ e. e) (front (suc k)) y ≡ true
        → is_call_published (λ e. e) (front k) x ≡ true
    in_turn k none now = by (change k)
      where
        made_now : IsSome (call_made (front (suc k)) y)
        made_now = (and_parts (is_some (call_made (front (suc k)) y)) _ now).0

        after : Y + times senders one.sender y.seat (sent_at senders one.sender (front (suc k)).chain r.server)
            < length ((front (suc k)).chain.seats y.seat).calls
        after =
            let m = some_of (call_made (front (suc k)) y) made_now in
            let w = waits_y (suc k) in
            let n = ltb-true
            (Y + length (waiting_calls (front (suc k)).chain y.seat))
            (length ((front (suc k)).chain.seats y.seat).calls)
            (ap (is_published_from (λ e. e) (front (suc k)).chain) (sym (id_is (suc k) y m.0 m.1))
            ∙ (and_parts (is_some (call_made (front (suc k)) y)) _ now).1) in
            omega (arith, w, n)

        before : length ((front k).chain.seats y.seat).calls
            ≤ Y + times senders one.sender y.seat (sent_at senders one.sender (front k).chain r.server)
        before = of (call_made (front k) y) refl
          where
            of : (o : Option Call)
                → call_made (front k) y ≡ o
                → length ((front k).chain.seats y.seat).calls
                ≤ Y + times senders one.sender y.seat (sent_at senders one.sender (front k).chain r.server)
            of None e = (let n = y_not_begun k e in omega (arith, n))
            of (Some call) e =
                let w = waits_y k in
                let n = ltb-false
                (Y + length (waiting_calls (front k).chain y.seat))
                (length ((front k).chain.seats y.seat).calls)
                (ap (is_published_from (λ e. e) (front k).chain) (sym (id_is k y call e))
                ∙ sym (ap (λ o. is_some o && is_published_from (λ e. e) (front k).chain (id_at_seat (front k) y)) e)
                ∙ none) in
                omega (arith, w, n)

        published : X + times senders one.sender x.seat (sent_at senders one.sender (front k).chain r.server)
            < length ((front k).chain.seats x.seat).calls
            → is_call_published (λ e. e) (front k) x ≡ true
        published less =
            let made = x_made k (omega (arith, after)) in
            let m = some_of (call_made (front k) x) made in
            let w = waits_x k in
            and_from (is_some (call_made (front k) x)) (is_published_from (λ e. e) (front k).chain (id_at_seat
            (front k) x))
            made
            (ap (is_published_from (λ e. e) (front k).chain) (id_is k x m.0 m.1)
            ∙ lt-ltb (X + length (waiting_calls (front k).chain x.seat))
            (length ((front k).chain.seats x.seat).calls) (omega (arith, w, less)))

        by : ((front (suc k)).chain ≡ (front k).chain)
            ⊎ ((mv : Move) × ((front (suc k)).chain ≡ done (front k).chain mv) × TakesFirst senders one.sender
            (front k).chain mv)
            → is_call_published (λ e. e) (front k) x ≡ true
        by (inl same) =
            let n = ap (λ (l : Chain). length (l.seats y.seat).calls) same in
            let w = ap (λ (l : Chain). times senders one.sender y.seat (sent_at senders one.sender l r.server)) same in
            absurd (omega (arith, after, before, n, w))
        by (inr goes) =
            published
            (published_before senders one.sender x.seat y.seat r.server X Y (front k).chain goes.0
            (ready k goes.0 goes.1 goes.2) (passed k) before
            (subst
            (λ (l : Chain). Y + times senders one.sender y.seat (sent_at senders one.sender l r.server)
            < length (l.seats y.seat).calls) goes.1 after))

  -- so the row's updates are published in turn,
  pub one_sender_in_turn : IsPublishedInTurn done (λ c. c) count homes moves row
  one_sender_in_turn = record {
    published_in_turn = λ x y k b ux uy none now. in_turn x y b ux uy k none now;
  }

  -- and there is an order in which its calls stand in turn
  pub one_sender_order : (h : List ServedCall) × IsOneOrder done count homes moves h
      × IsServedInTurn done (λ c. c) count homes moves h
      × IsRowInTurn (λ c. c) (served done count homes moves) row h
  one_sender_order =
      let o = one_order count homes moves few in
      (o.0, o.1, o.2, row_in_turn done count homes moves row r (λ c. c) one_sender_in_turn o.0 o.1 o.2)
