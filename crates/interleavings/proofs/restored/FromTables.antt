-- Runs of a chain that begins with a table: their order of calls is what is left of that of a run that begins with a
-- replay.
use Rattle.std.proofs.Common.{◌≡◌, ◌≢◌, ℕ, zero, suc, ◌+◌, ◌-◌, ◌*◌, ◌<◌, ◌≤◌, Bool, true, false, List, [], ◌∷◌, ◌++◌}
use Rattle.std.proofs.Common.{length, take, drop, map, replicate, Option, None, Some, refl, arith, ap, sym, ◌∙◌, subst}
use Rattle.std.proofs.Common.{inl, inr, length-append, take-append-drop, append_assoc, length-take, zero-add}
use Rattle.std.specs.Prelude.{nat_lt, slice_get, slice_index_or, IsSome}
use Rattle.std.proofs.lemmas.Bool.{cases_eq, cases_lt}
use Rattle.std.proofs.lemmas.Option.{same_Some, slice_get_within, slice_get_past}
use Rattle.std.proofs.lemmas.List.{length-replicate}
use mathlib.Core.Path.{fun_ext}
use Rattle.table.specs.Histories.{IsLegalFrom}
use Rattle.table.specs.Plain.{PlainTable, opening as empty_table, apply}
use Rattle.table.specs.declared.operations.Call.{Call}
use Rattle.table.specs.declared.operations.Reply.{Reply}
use Rattle.node.specs.Servers.{most}
use Rattle.node.proofs.Beginnings.{slice_get-drop}
use Rattle.world.specs.Calls.{CallId}
use Rattle.world.specs.Orders.{OrderedCall, StandsAt}
use Rattle.node.proofs.BegunLists.{found_below}
use Rattle.world.proofs.order.Since.{is_some}
use Rattle.world.proofs.trace.Outsets.{all_alike}
use Rattle.interleavings.specs.Chains.{RunningServer, Seat, Chain, with_seat, opening_seat, calls_from, queue}
use Rattle.interleavings.specs.Moves.{Move, moved_from, moved}
use Rattle.interleavings.specs.Asked.{AreAsked}
use Rattle.interleavings.specs.Orders.{begun_call, reply_to, is_published, IsUpdate, Precedes, PublishedBefore}
use Rattle.interleavings.specs.Orders.{IsLinearization, IsInTurn}
use Rattle.interleavings.specs.Restored.{table_after, replies_from, AreAskedUpdates, IsReached, restored_chain}
use Rattle.interleavings.specs.Restored.{replaying_seat}
use Rattle.interleavings.specs.Quiet.{goes_on, IsQuiet, NoneForgotten}
use Rattle.interleavings.specs.OrdersFrom.{PrecedesFrom, PublishedBeforeFrom, IsLinearizationFrom, IsInTurnFrom, IsHeld}
use Rattle.interleavings.specs.OrdersFrom.{LeavesWhatIsHeld}
use Rattle.interleavings.proofs.served.Along.{both_asked}
use Rattle.interleavings.proofs.lists.ChangedFunctions.{at_same, at_other}
use Rattle.interleavings.proofs.relation.Transfer.{take_front}
use Rattle.interleavings.proofs.lists.TwoParts.{moved_from-append as parts, take_past}
use Rattle.interleavings.proofs.restored.Replays.{replay_of, replay}
use Rattle.interleavings.proofs.restored.RestoredChains.{replay_asked, length-replay, after_some, count_is}
use Rattle.interleavings.proofs.restored.BesideSeat.{AreBelow, after_all_named, all_below, below_front, moved_beside}
use Rattle.interleavings.proofs.restored.BesideSeat.{seat_kept}
use Rattle.interleavings.proofs.restored.Fronts.{AreFirst, in_front, legal_after, leaves_after, in_whole}

-- ---- lists

-- homes that are none of the chain change nothing
padded : (homes : List ℕ) (many c n : ℕ) → slice_index_or (homes ++ replicate many n) c n ≡ slice_index_or homes c n
padded [] many c n = all_alike many c n
padded (home ∷ homes) many zero n = refl
padded (home ∷ homes) many (suc c) n = padded homes many c n

listed_home : (homes more : List ℕ) (c n : ℕ)
    → c < length homes
    → slice_get (homes ++ more) c ≡ Some (slice_index_or homes c n)
listed_home [] more c n l = absurd (omega (arith, l))
listed_home (home ∷ homes) more zero n l = refl
listed_home (home ∷ homes) more (suc c) n l = listed_home homes more c n (omega (arith, l))

length-replies : (us : List Call) (t : PlainTable) → length (replies_from t us) ≡ length us
length-replies [] t = refl
length-replies (u ∷ us) t = ap suc (length-replies us (apply t u.target u.op).1)

replay-append : (n c : ℕ) (us vs : List Call) → replay n c (us ++ vs) ≡ replay n c us ++ replay n c vs
replay-append n c [] vs = refl
replay-append n c (u ∷ us) vs =
    ap (λ ms. replay_of n c u ++ ms) (replay-append n c us vs)
    ∙ sym (append_assoc (replay_of n c u) (replay n c us) (replay n c vs))

asked_front : (k : ℕ) (us : List Call) → AreAskedUpdates us → AreAskedUpdates (take k us)
asked_front zero us h = tt
asked_front (suc k) [] h = tt
asked_front (suc k) (u ∷ us) h = (h.0, h.1, asked_front k us h.2)

-- what a seat shows of a call
abbrev published_by : (ℕ → RunningServer) → CallId → Seat → Bool
published_by servers x s =
    nat_lt (x.ordinal + length (calls_from x.connection (queue (servers s.home)))) (length s.calls)

-- ---- the run

module _ (n : ℕ) (homes : List ℕ) (t : PlainTable) (r : IsReached t) (few : t.count < most) (moves : List Move) where
  abbrev pub count : ℕ
  count = suc n

  -- homes for all seats that the moves name: those that aren't listed are none of the chain
  abbrev pub wide : List ℕ
  wide = homes ++ replicate (after_all_named moves) count

  -- the seat that replays
  abbrev pub place : ℕ
  place = length wide

  abbrev pub us : List Call
  us = r.updates

  abbrev pub seat : Seat
  seat = replaying_seat us

  abbrev pub start : Chain
  start = restored_chain count homes t

  abbrev pub first_moves : List Move
  first_moves = replay n place us

  abbrev pub whole : List Move
  whole = first_moves ++ moves

  abbrev pub all_homes : List ℕ
  all_homes = wide ++ 0 ∷ []

  below : AreBelow place moves
  below = all_below place moves
      (omega (
        arith,
        length-append homes (replicate (after_all_named moves) count),
        length-replicate (after_all_named moves) count,
      ))

  same_start : (u : PlainTable) → restored_chain count wide u ≡ restored_chain count homes u
  same_start u = ap (λ ss. record (restored_chain count homes u) { seats = ss })
      (fun_ext (λ c. ap opening_seat (padded homes (after_all_named moves) c count)))

  many_is : t.count ≡ length us
  many_is = count_is t r

  restored : moved count all_homes first_moves ≡ with_seat start place seat
  restored =
      after_some n wide us r.asked (omega (arith, few, many_is))
      ∙ ap (λ u. with_seat u place seat) (ap (restored_chain count wide) r.leave ∙ same_start t)

  -- after the replay it is the run of the restored chain, beside that seat
  after_moves : (k : ℕ)
      → moved count all_homes (take (length first_moves + k) whole)
      ≡ with_seat (moved_from start (take k moves)) place seat
  after_moves k =
      ap (moved count all_homes) (take_past first_moves moves k)
      ∙ parts (moved count all_homes []) first_moves (take k moves)
      ∙ ap (λ l. moved_from l (take k moves)) restored
      ∙ moved_beside place seat (take k moves) start (below_front place k moves below)

  pub in_the_end : moved count all_homes whole ≡ with_seat (moved_from start moves) place seat
  in_the_end =
      parts (moved count all_homes []) first_moves moves
      ∙ ap (λ l. moved_from l moves) restored
      ∙ moved_beside place seat moves start below

  -- in the replay some first updates are answered, and no other call is begun
  abbrev replayed_by : ℕ → ℕ
  replayed_by a = length (replay n place (take (suc a) us))

  in_replay : (a : ℕ)
      → a < length us
      → moved count all_homes (take (replayed_by a) whole)
      ≡ with_seat (restored_chain count wide (table_after empty_table (take (suc a) us))) place
      (replaying_seat (take (suc a) us))
  in_replay a l =
      ap (moved count all_homes)
      (ap (λ ms. take (replayed_by a) (ms ++ moves))
      (ap (replay n place) (sym (take-append-drop (suc a) us)) ∙ replay-append n place (take (suc a) us) (drop (suc a)
      us))
      ∙ ap (take (replayed_by a)) (append_assoc (replay n place (take (suc a) us)) (replay n place (drop (suc a) us))
      moves)
      ∙ take_front (replay n place (take (suc a) us)) (replay n place (drop (suc a) us) ++ moves))
      ∙ after_some n wide (take (suc a) us) (asked_front (suc a) us r.asked)
      (omega (arith, few, many_is, length-take (suc a) us))

  abbrev name : ℕ → CallId
  name a = record { connection = place; ordinal = a }

  names_apart : (a b : ℕ) → name a ≡ name b → a ≡ b
  names_apart a b e = ap (λ (x : CallId). x.ordinal) e

  named : (x : CallId) → x.connection ≡ place → x ≡ name x.ordinal
  named x e = ap (λ c. record { connection = c; ordinal = x.ordinal }) e

  -- ---- calls beside the seat, and of it

  beside : (l : Chain) (s : Seat) (c : ℕ) → c ≢ place → (with_seat l place s).seats c ≡ l.seats c
  beside l s c other = at_other l.seats place s c other

  begun_beside : (l : Chain) (s : Seat) (x : CallId)
      → x.connection ≢ place
      → begun_call (with_seat l place s) x ≡ begun_call l x
  begun_beside l s x other = ap (λ (z : Seat). slice_get z.calls x.ordinal) (beside l s x.connection other)

  reply_beside : (l : Chain) (s : Seat) (x : CallId)
      → x.connection ≢ place
      → reply_to (with_seat l place s) x ≡ reply_to l x
  reply_beside l s x other = ap (λ (z : Seat). slice_get z.got x.ordinal) (beside l s x.connection other)

  published_beside : (l : Chain) (s : Seat) (x : CallId)
      → x.connection ≢ place
      → is_published (with_seat l place s) x ≡ is_published l x
  published_beside l s x other = ap (published_by l.servers x) (beside l s x.connection other)

  begun_of : (l : Chain) (s : Seat) (x : CallId)
      → x.connection ≡ place
      → begun_call (with_seat l place s) x ≡ slice_get s.calls x.ordinal
  begun_of l s x same =
      ap (λ c. slice_get ((with_seat l place s).seats c).calls x.ordinal) same
      ∙ ap (λ (z : Seat). slice_get z.calls x.ordinal) (at_same l.seats place s)

  reply_of : (l : Chain) (s : Seat) (x : CallId)
      → x.connection ≡ place
      → reply_to (with_seat l place s) x ≡ slice_get s.got x.ordinal
  reply_of l s x same =
      ap (λ c. slice_get ((with_seat l place s).seats c).got x.ordinal) same
      ∙ ap (λ (z : Seat). slice_get z.got x.ordinal) (at_same l.seats place s)

  -- the run of the restored chain has no calls of seats from that one on
  kept : (k : ℕ) (c : ℕ) → place ≤ c → (moved_from start (take k moves)).seats c ≡ start.seats c
  kept k c l = seat_kept place (take k moves) start c l (below_front place k moves below)

  never_answered : (k : ℕ) (x : CallId) → place ≤ x.connection → reply_to (moved_from start (take k moves)) x ≡ None
  never_answered k x l = ap (λ (s : Seat). slice_get s.got x.ordinal) (kept k x.connection l)

  never_begun : (x : CallId) → place ≤ x.connection → begun_call (moved_from start moves) x ≡ None
  never_begun x l = ap (λ (s : Seat). slice_get s.calls x.ordinal) (seat_kept place moves start x.connection l below)

  never_replied : (x : CallId) → place ≤ x.connection → reply_to (moved_from start moves) x ≡ None
  never_replied x l = ap (λ (s : Seat). slice_get s.got x.ordinal) (seat_kept place moves start x.connection l below)

  pub begun_below : (x : CallId) (call : Call) → begun_call (moved_from start moves) x ≡ Some call → x.connection <
      place
  begun_below x call e = elim (cases_lt x.connection place) [
    | inl less ↦ less
    | inr past ↦ (let no : None ≡ Some call = sym (never_begun x past) ∙ e in absurd cc)
  ]

  replied_below : (x : CallId) (reply : Reply)
      → reply_to (moved_from start moves) x ≡ Some reply
      → x.connection < place
  replied_below x reply e = elim (cases_lt x.connection place) [
    | inl less ↦ less
    | inr past ↦ (let no : None ≡ Some reply = sym (never_replied x past) ∙ e in absurd cc)
  ]

  answered_below : (k : ℕ) (x : CallId) → IsSome (reply_to (moved_from start (take k moves)) x) → x.connection < place
  answered_below k x e = elim (cases_lt x.connection place) [
    | inl less ↦ less
    | inr past ↦ (let no : false ≡ true = subst (λ (o : Option Reply). IsSome o) (never_answered k x past) e in absurd
        cc)
  ]

  pub other_than : (c : ℕ) → c < place → c ≢ place
  other_than c l e = omega (arith, l, e)

  -- ---- the order of the whole run

  module _ (h : List OrderedCall) (one : IsLinearization count all_homes whole h) where
    abbrev pub many : ℕ
    many = length us

    -- an update that is replayed is answered at some time, before any other call but those before it is begun
    precedes_others : (a : ℕ) (y : CallId)
        → a < many
        → ((b : ℕ) → b ≤ a → y ≢ name b)
        → Precedes count all_homes whole (name a) y
    precedes_others a y l others = record {
      k = replayed_by a;
      answered = subst (λ (m : Chain). IsSome (reply_to m (name a))) (sym (in_replay a l))
          (subst (λ (o : Option Reply). IsSome o) (sym (reply_of before s (name a) refl)) there);
      not_begun = ap (λ (m : Chain). begun_call m y) (in_replay a l) ∙ elim (cases_eq y.connection place) [
        | inl same ↦ begun_of before s y same ∙ slice_get_past (take (suc a) us) y.ordinal (later same)
        | inr other ↦ begun_beside before s y other
      ];
    }
      where
        before : Chain
        before = restored_chain count wide (table_after empty_table (take (suc a) us))

        s : Seat
        s = replaying_seat (take (suc a) us)

        got : (x : Reply) × (slice_get (replies_from empty_table (take (suc a) us)) a ≡ Some x)
        got = found_below (replies_from empty_table (take (suc a) us)) a
            (omega (arith, l, length-replies (take (suc a) us) empty_table, length-take (suc a) us))

        there : IsSome (slice_get s.got a)
        there = is_some (slice_get s.got a) got.0 got.1

        later : y.connection ≡ place → length (take (suc a) us) ≤ y.ordinal
        later same = elim (cases_lt a y.ordinal) [
          | inl less ↦ omega (arith, less, length-take (suc a) us)
          | inr low ↦ absurd (others y.ordinal low (named y same))
        ]

    is_replied : (a : ℕ) → a < many → (i : ℕ) × StandsAt h i (name a)
    is_replied a l =
        let g = found_below (replies_from empty_table us) a (omega (arith, l, length-replies us empty_table)) in
        let s = one.answered (name a) g.0
        (ap (λ (m : Chain). reply_to m (name a)) in_the_end ∙ reply_of (moved_from start moves) seat (name a) refl ∙
        g.1) in
        (s.0, s.1)

    are_first : AreFirst name many 0 h
    are_first = record {
      once = one.once;
      stand = λ a low l. is_replied a (omega (arith, l));
      before = λ a j y low l s others.
          one.in_time (name a) y j (precedes_others a y (omega (arith, l)) others) s;
      none = λ b j l s. absurd (omega (arith, l));
    }

    at_front : (a : ℕ) → a < many → StandsAt h a (name a)
    at_front a l =
        subst (λ b. StandsAt h a (name b)) (zero-add a) (in_front name names_apart many 0 h are_first a l)

    -- what an entry asks
    entry_begun : (i : ℕ) (x : CallId) (s : StandsAt h i x)
        → begun_call (with_seat (moved_from start moves) place seat) x ≡ Some s.entry.call
    entry_begun i x s =
        ap (λ (m : Chain). begun_call m x) (sym in_the_end)
        ∙ ap (begun_call (moved count all_homes whole)) (sym s.same)
        ∙ one.begun i s.entry s.here

    -- after the front no call of the seat stands,
    left_beside : (i : ℕ) (x : CallId) → StandsAt h (many + i) x → x.connection ≢ place
    left_beside i x s same =
        let e = sym (begun_of (moved_from start moves) seat x same) ∙ entry_begun (many + i) x s in
        let l = slice_get_within us x.ordinal s.entry.call e in
        let there = subst (λ y. StandsAt h x.ordinal y) (sym (named x same)) (at_front x.ordinal l) in
        let n = one.once (many + i) x.ordinal x s there in
        omega (arith, l, n)

    -- and all others stand after it
    after_front : (i : ℕ) (x : CallId) → x.connection ≢ place → StandsAt h i x → (k : ℕ) × (i ≡ many + k)
    after_front i x other s = elim (cases_lt i many) [
      | inl less ↦ absurd (other (
          (let f = at_front i less in
          let e : s.entry ≡ f.entry = same_Some s.entry f.entry (sym s.here ∙ f.here) in
          ap (λ (y : CallId). y.connection) (sym s.same ∙ ap (λ (c : OrderedCall). c.id) e ∙ f.same))))
      | inr past ↦ (i - many, omega (arith, past))
    ]

    abbrev pub rest : List OrderedCall
    rest = drop many h

    stands_there : (i : ℕ) (x : CallId) → x.connection ≢ place → (s : StandsAt h i x)
        → (k : ℕ) × (i ≡ many + k) × (t : StandsAt rest k x) × (t.entry ≡ s.entry)
    stands_there i x other s =
        let k = after_front i x other s in (
          k.0,
          k.1,
          record {
            entry = s.entry;
            here = slice_get-drop many h k.0 ∙ ap (slice_get h) (sym k.1) ∙ s.here;
            same = s.same;
          },
          refl,
        )

    -- an earlier place
    earlier : (x : CallId) (j : ℕ)
        → x.connection ≢ place
        → (i : ℕ) × (i < many + j) × StandsAt h i x
        → (i : ℕ) × (i < j) × StandsAt rest i x
    earlier x j other p =
        let k = stands_there p.0 x other p.2 in
        (k.0, omega (arith, p.1, k.1), k.2)

    front_calls : (a : ℕ) → a < many → (e : OrderedCall) × (slice_get h a ≡ Some e) × (slice_get us a ≡ Some e.call)
    front_calls a l =
        let s = at_front a l in
        (s.entry, s.here, sym (begun_of (moved_from start moves) seat (name a) refl) ∙ entry_begun a (name a) s)

    precedes_too : (x y : CallId)
        → PrecedesFrom start moves x y
        → y.connection ≢ place
        → Precedes count all_homes whole x y
    precedes_too x y p other =
        let l = moved_from start (take p.k moves) in
        let mine = other_than x.connection (answered_below p.k x p.answered) in
        record {
          k = length first_moves + p.k;
          answered = subst (λ (m : Chain). IsSome (reply_to m x)) (sym (after_moves p.k))
              (subst (λ (o : Option Reply). IsSome o) (sym (reply_beside l seat x mine)) p.answered);
          not_begun = ap (λ (m : Chain). begun_call m y) (after_moves p.k) ∙ begun_beside l seat y other ∙ p.not_begun;
        }

    -- what is left is a linearization
    pub linearized : IsLinearizationFrom t start moves rest
    linearized = record {
      legal = subst (λ (u : PlainTable). IsLegalFrom u (map (λ e. (e.call, e.reply)) rest)) r.leave
          (legal_after us h empty_table front_calls one.legal);
      begun = λ i e here. (let s : StandsAt h (many + i) e.id =
          record { entry = e; here = sym (slice_get-drop many h i) ∙ here; same = refl } in
          sym (begun_beside (moved_from start moves) seat e.id (left_beside i e.id s)) ∙ entry_begun (many + i) e.id s);
      once = λ i j x s u. (let e = one.once (many + i) (many + j) x (in_whole many i h x s) (in_whole many j h x u) in
          omega (arith, e));
      answered = λ x reply got.
          (let other = other_than x.connection (replied_below x reply got) in
          let s = one.answered x reply
          (ap (λ (m : Chain). reply_to m x) in_the_end ∙ reply_beside (moved_from start moves) seat x other ∙ got) in
          let k = stands_there s.0 x other s.1 in
          (k.0, k.2, ap (λ (c : OrderedCall). c.reply) k.3 ∙ s.2));
      in_time = λ x y j p s.
          (let there = in_whole many j h y s in
          earlier x j (other_than x.connection (answered_below p.k x p.answered))
          (one.in_time x y (many + j) (precedes_too x y p (left_beside j y there)) there));
    }

    update_too : (x : CallId) → IsUpdate (moved_from start moves) x → IsUpdate (moved count all_homes whole) x
    update_too x u = (
      u.0,
      ap (λ (m : Chain). begun_call m x) in_the_end
          ∙ begun_beside (moved_from start moves) seat x (other_than x.connection (begun_below x u.0 u.1)) ∙ u.1,
      u.2,
    )

    home_of : (x : CallId)
        → IsUpdate (moved_from start moves) x
        → slice_get all_homes x.connection ≡ Some (slice_index_or homes x.connection count)
    home_of x u =
        listed_home wide (0 ∷ []) x.connection count (begun_below x u.0 u.1)
        ∙ ap Some (padded homes (after_all_named moves) x.connection count)

    published_too : (x y : CallId)
        → PublishedBeforeFrom start moves x y
        → PublishedBefore count all_homes whole x y
    published_too x y p =
        let l = moved_from start (take p.k moves) in
        let mine = other_than x.connection (begun_below x p.update.0 p.update.1) in
        let other = other_than y.connection (begun_below y p.later_update.0 p.later_update.1) in
        record {
          k = length first_moves + p.k;
          published = ap (λ (m : Chain). is_published m x) (after_moves p.k) ∙ published_beside l seat x mine ∙
              p.published;
          not_published = ap (λ (m : Chain). is_published m y) (after_moves p.k) ∙ published_beside l seat y other
              ∙ p.not_published;
          one_server = home_of x p.update ∙ ap Some p.one_server ∙ sym (home_of y p.later_update);
          update = update_too x p.update;
          later_update = update_too y p.later_update;
        }

    -- and it is in turn, if the whole is
    pub in_turn : IsInTurn count all_homes whole h → IsInTurnFrom start moves rest
    in_turn turn = record {
      in_turn = λ x y j p s.
          (let there = in_whole many j h y s in
          earlier x j (other_than x.connection (begun_below x p.update.0 p.update.1))
          (turn.in_turn x y (many + j) (published_too x y p) there));
    }

    -- and it leaves what is held, if the whole does
    pub leaves : LeavesWhatIsHeld empty_table (moved count all_homes whole) h
        → LeavesWhatIsHeld t (moved_from start moves) rest
    leaves all u held =
        let there : IsHeld (with_seat (moved_from start moves) place seat) u = record {
          server = held.server;
          going = held.going;
          items = held.items;
          count = held.count;
          whole = held.whole;
        } in
        ap (λ (v : PlainTable). table_after v (map (λ e. e.call) rest)) (sym r.leave)
        ∙ leaves_after us h empty_table front_calls
        ∙ all u (subst (λ (m : Chain). IsHeld m u) (sym in_the_end) there)

  -- ---- quiet

  -- who is quiet is so beside that seat
  quiet_beside : IsQuiet (moved_from start moves) → IsQuiet (with_seat (moved_from start moves) place seat)
  quiet_beside q = record {
    inboxes = q.inboxes;
    all_published = q.all_published;
    messages = q.messages;
    replies = q.replies;
    views = q.views;
    channels = q.channels;
    queues = λ c on. elim (cases_eq c place) [
      | inl same ↦ ap (λ b. ((with_seat (moved_from start moves) place seat).seats b).queued) same
          ∙ ap (λ (s : Seat). s.queued) (at_same (moved_from start moves).seats place seat)
      | inr other ↦ ap (λ (s : Seat). s.queued) (beside (moved_from start moves) seat c other)
          ∙ q.queues c (ap (λ (s : Seat). goes_on (moved_from start moves) s.home)
          (sym (beside (moved_from start moves) seat c other)) ∙ on)
    ];
  }

  -- if no call of the whole run is forgotten, none of the run of the restored chain is
  pub none_forgotten_beside : (IsQuiet (moved count all_homes whole) → NoneForgotten (moved count all_homes whole))
      → IsQuiet (moved_from start moves)
      → NoneForgotten (moved_from start moves)
  none_forgotten_beside none quiet x on begun =
      let l = moved_from start moves in
      let low = below_of_begun begun in
      let other = other_than x.connection low in
      let all : NoneForgotten (with_seat l place seat) = subst NoneForgotten in_the_end
      (none (subst IsQuiet (sym in_the_end) (quiet_beside quiet))) in
      subst (λ (o : Option Reply). IsSome o) (reply_beside l seat x other)
      (all x (ap (λ (s : Seat). goes_on l s.home) (beside l seat x.connection other) ∙ on)
      (subst (λ (o : Option Call). IsSome o) (sym (begun_beside l seat x other)) begun))
    where
      below_of_begun : IsSome (begun_call (moved_from start moves) x) → x.connection < place
      below_of_begun b = elim (cases_lt x.connection place) [
        | inl less ↦ less
        | inr past ↦ (let no : false ≡ true = subst (λ (o : Option Call). IsSome o) (never_begun x past) b in absurd cc)
      ]

  -- its moves
  pub whole_asked : AreAsked moves → AreAsked whole
  whole_asked asked = both_asked first_moves moves (replay_asked n place us r.asked) asked

  pub whole_length : length whole ≡ t.count * (8 * count - 3) + length moves
  whole_length =
      length-append first_moves moves
      ∙ ap (λ k. k + length moves) (length-replay n place us ∙ ap (λ k. k * (8 * count - 3)) (sym many_is))
