-- In one order of all connections' calls those of a row stand in turn: each call of an earlier part was answered when a
-- later one was made, or both are updates, and it was published when the later one was.
use Rattle.std.proofs.Common.{◌≡◌, ◌≢◌, ℕ, zero, suc, ◌<◌, ◌≤◌, Bool, true, false, List, [], ◌∷◌, ◌++◌, length, take}
use Rattle.std.proofs.Common.{drop, Option, None, Some, refl, arith, ap, sym, ◌∙◌, subst, inl, inr, length-append}
use Rattle.std.specs.Prelude.{slice_get, is_some, IsSome, nat_lt}
use Rattle.std.proofs.lemmas.Bool.{cases_Bool, lt-ltb, ltb-true, ltb-false}
use Rattle.std.proofs.lemmas.List.{take_all}
use Rattle.std.proofs.lemmas.Option.{slice_get_within}
use Rattle.table.specs.declared.operations.Call.{Call}
use Rattle.table.specs.declared.operations.Reply.{Reply}
use Rattle.proto.specs.Turns.{Outcome, Replied, Refused, calls_of}
use Rattle.proto.specs.Streams.{turns}
use Rattle.world.proofs.lists.Standing.{get_within, some_of}
use Rattle.interleavings.specs.OtherMoves.{Doing}
use Rattle.interleavings.specs.ServingMoves.{ServingChain, ServingMove, served}
use Rattle.interleavings.specs.Served.{unrefused, CallName, call_made, reply_got, ServedCall, StandsThere}
use Rattle.interleavings.specs.Served.{IsOneOrder, is_call_published, IsMadeUpdate, IsServedInTurn}
use Rattle.interleavings.specs.Rows.{PartName, part_at, part_of, IsBefore, OfEarlierPart, OfOnePart}
use Rattle.interleavings.specs.Rows.{HasAsked, IsRow, IsPublishedInTurn, IsRowServed, IsRowInTurn}
use Rattle.interleavings.proofs.rows.RowEnds.{row_served, behind}
use Rattle.interleavings.proofs.rows.Going.{goes, served_by_any}

-- ---- the first time

-- what is false at first and true in the end becomes true at some place
first_time : (f : ℕ → Bool) (n : ℕ)
    → f 0 ≡ false
    → f n ≡ true
    → (k : ℕ) × (f k ≡ false) × (f (suc k) ≡ true)
first_time f zero none there = absurd (let no : false ≡ true = sym none ∙ there in cc)
first_time f (suc n) none there = elim (cases_Bool (f n)) [
  | inl already ↦ first_time f n none already
  | inr still ↦ (n, still, there)
]

-- ---- counts of calls

-- of fewer calls the outcomes are known: at least as many aren't known to be refused
unrefused_within : (cs : List Call) (os : List Outcome) → length (unrefused cs os) ≤ length cs
unrefused_within [] os = omega arith
unrefused_within (c ∷ cs) [] = omega arith
unrefused_within (c ∷ cs) (Replied r ∷ os) = let l = unrefused_within cs os in omega (arith, l)
unrefused_within (c ∷ cs) (Refused ∷ os) = let l = unrefused_within cs os in omega (arith, l)

unrefused_fewer : (cs : List Call) (os ps : List Outcome)
    → length (unrefused cs (os ++ ps)) ≤ length (unrefused cs os)
unrefused_fewer [] os ps = omega arith
unrefused_fewer (c ∷ cs) [] ps = unrefused_within (c ∷ cs) ps
unrefused_fewer (c ∷ cs) (Replied r ∷ os) ps = let l = unrefused_fewer cs os ps in omega (arith, l)
unrefused_fewer (c ∷ cs) (Refused ∷ os) ps = unrefused_fewer cs os ps

within : {X : Type 0} (xs ys : List X) → xs ≡ take (length xs) ys → length xs ≤ length ys
within xs ys e =
    let n = ap length (behind xs ys e) ∙ length-append xs (drop (length xs) ys) in
    omega (arith, n)

none_there : {X : Type 0} (o : Option X) → is_some o ≡ false → o ≡ None
none_there None e = refl
none_there (Some x) e = absurd (let no : true ≡ false = e in cc)

module _ (does : Doing) (count : ℕ) (homes : List ℕ) (moves : List ServingMove) (row : List PartName)
    (r : IsRow does count homes moves row) where
  abbrev last : ServingChain
  last = served does count homes moves

  -- after the first k moves
  abbrev front : ℕ → ServingChain
  front k = served does count homes (take k moves)

  at_last : front (length moves) ≡ last
  at_last = ap (served does count homes) (take_all (length moves) moves (omega arith))

  -- a part that had asked all then makes no call any more
  pub no_more : (p : PartName) (k : ℕ)
      → HasAsked (part_at last p).read (part_at (front k) p)
      → (length (part_at last p).calls ≤ length (part_at (front k) p).calls)
      × HasAsked (part_at last p).read (part_at last p)
  no_more p k asked =
      let g = goes does count homes moves k p.seat p.number in
      let cs = calls_of (turns (part_at last p).read) in
      let o = g.outcomes in
      let fewer : length (unrefused cs (part_at last p).outcomes)
      ≤ length (unrefused cs (part_at (front k) p).outcomes) =
      subst (λ os. length (unrefused cs os) ≤ length (unrefused cs (part_at (front k) p).outcomes)) (sym o.1)
      (unrefused_fewer cs (part_at (front k) p).outcomes o.0) in
      let made = within (part_at last p).calls (unrefused cs (part_at last p).outcomes)
      (served_by_any does count homes moves p.seat p.number).calls in
      let more = g.calls in
      (omega (arith, asked, fewer, made), omega (arith, asked, fewer, made, more))

  -- if a part has made a call, each part before it has asked all
  asked_before : (p q : PartName)
      → IsBefore row p q
      → (part_at last q).calls ≢ []
      → HasAsked (part_at last p).read (part_at last p)
  asked_before p q b some =
      let f = first_time (λ k. nat_lt 0 (length (part_at (front k) q).calls)) (length moves) refl
      (subst (λ s. nat_lt 0 (length (part_at s q).calls) ≡ true) (sym at_last) (any (part_at last q).calls some)) in
      let none = ltb-false 0 (length (part_at (front f.0) q).calls) f.1 in
      let one = ltb-true 0 (length (part_at (front (suc f.0)) q).calls) f.2 in
      (no_more p f.0 (r.made_in_turn p q f.0 b (omega (arith, none, one)))).1
    where
      any : (cs : List Call) → cs ≢ [] → nat_lt 0 (length cs) ≡ true
      any [] h = absurd (h refl)
      any (c ∷ cs) h = lt-ltb 0 (length (c ∷ cs)) (omega arith)

  -- so the client got what its bytes ask for
  pub row_is_served : IsRowServed (served does count homes moves) row
  row_is_served = row_served last row (record {
    served = λ p. served_by_any does count homes moves p.seat p.number;
    whole = r.whole;
    asked = asked_before;
    written = r.written_in_turn;
  })

  module _ (port : ℕ → ℕ) (in_turn : IsPublishedInTurn does port count homes moves row) (h : List ServedCall)
      (one : IsOneOrder does count homes moves h)
      (turn : IsServedInTurn does port count homes moves h) where
    -- both are updates, of which the later one is published in the end: when it was published, the other one was
    by_publishing : (x y : CallName) (j : ℕ)
        → IsBefore row (part_of x) (part_of y)
        → IsMadeUpdate last x × IsMadeUpdate last y
        → is_call_published port last y ≡ true
        → StandsThere h j y
        → (i : ℕ) × (i < j) × StandsThere h i x
    by_publishing x y j b both published s =
        let f = first_time (λ k. is_call_published port (front k) y) (length moves) refl
        (subst (λ t. is_call_published port t y ≡ true) (sym at_last) published) in
        turn.in_turn x y j
        (record {
          k = f.0;
          published = in_turn.published_in_turn x y f.0 b both.0 both.1 f.1 f.2;
          not_published = f.1;
          server = r.server;
          of_chain = r.of_chain;
          here = r.at_server (part_of x) (record { place = b.place; here = b.here });
          there = r.at_server (part_of y) (record { place = b.later_place; here = b.there });
          update = both.0;
          later_update = both.1;
        }) s

    -- the earlier part's call was answered when the other one was made, or both are updates
    by_reply : (x y : CallName) (j k : ℕ) (o : Option Reply)
        → IsBefore row (part_of x) (part_of y)
        → call_made (front k) y ≡ None
        → IsSome (call_made (front (suc k)) y)
        → IsSome (call_made (front k) x)
        → reply_got (front k) x ≡ o
        → (IsMadeUpdate last y → is_call_published port last y ≡ true)
        → StandsThere h j y
        → (i : ℕ) × (i < j) × StandsThere h i x
    by_reply x y j k None b not_made now made e published s =
        let both = r.only_updates x y k b not_made now made e in
        by_publishing x y j b both (published both.1) s
    by_reply x y j k (Some reply) b not_made now made e published s =
        one.in_time x y j
        (record { k = k; answered = Rattle.world.proofs.order.Since.is_some _ reply e; not_made = not_made }) s

    of_parts : (x y : CallName) (j : ℕ)
        → IsBefore row (part_of x) (part_of y)
        → IsSome (call_made last x)
        → (IsMadeUpdate last y → is_call_published port last y ≡ true)
        → StandsThere h j y
        → (i : ℕ) × (i < j) × StandsThere h i x
    of_parts x y j b made published s =
        let y_made : call_made last y ≡ Some s.entry.call =
        subst (λ z. call_made last z ≡ Some s.entry.call) s.named (one.made j s.entry s.here) in
        let f = first_time (λ k. is_some (call_made (front k) y)) (length moves) refl
        (subst (λ t. is_some (call_made t y) ≡ true) (sym at_last) (ap is_some y_made)) in
        let not_made = none_there (call_made (front f.0) y) f.1 in
        let now = some_of (call_made (front (suc f.0)) y) f.2 in
        let past = beyond (part_at (front f.0) (part_of y)).calls y.ordinal not_made in
        let inside = slice_get_within (part_at (front (suc f.0)) (part_of y)).calls y.ordinal now.0 now.1 in
        let asked = r.made_in_turn (part_of x) (part_of y) f.0 b (omega (arith, past, inside)) in
        let m = some_of (call_made last x) made in
        let there = slice_get_within (part_at last (part_of x)).calls x.ordinal m.0 m.1 in
        let no = (no_more (part_of x) f.0 asked).0 in
        by_reply x y j f.0 (reply_got (front f.0) x) b not_made f.2
        (get_within (part_at (front f.0) (part_of x)).calls x.ordinal (omega (arith, there, no))) refl published s
      where
        beyond : (cs : List Call) (q : ℕ) → slice_get cs q ≡ None → length cs ≤ q
        beyond [] q e = omega arith
        beyond (c ∷ cs) zero e = absurd (let no : Some c ≡ None = e in cc)
        beyond (c ∷ cs) (suc q) e = let l = beyond cs q e in omega (arith, l)

    -- so they stand in turn
    pub row_in_turn : IsRowInTurn port (served does count homes moves) row h
    row_in_turn x y j (OfEarlierPart b) made published s = of_parts x y j b made published s
    row_in_turn x y j (OfOnePart own) made published s = turn.own x y j own s
