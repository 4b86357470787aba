-- Two sets of one client are in flight: its two connections are a row of the run, whichever is published first.
use Rattle.std.proofs.Common.{◌≡◌, ◌≢◌, ℕ, zero, suc, ◌<◌, false, List, [], ◌∷◌, length, take, None}
use Rattle.std.proofs.Common.{Some, refl, arith, ap, sym, ◌∙◌, subst, inl, inr, lit<}
use Rattle.std.specs.Prelude.{slice_get, IsSome, codes}
use Rattle.std.proofs.lemmas.Bool.{cases_lt, cases_eq}
use Rattle.std.proofs.lemmas.Option.{same_Some, slice_get_within}
use Rattle.world.proofs.lists.Standing.{some_of}
use Rattle.table.specs.declared.operations.Call.{Call}
use Rattle.table.specs.declared.operations.Op.TheVariants.{Set}
use Rattle.table.specs.declared.operations.Reply.TheVariants.{Stored}
use Rattle.proto.specs.declared.requests.Request.TheVariants.{Store}
use Rattle.proto.specs.declared.texts.Form.TheVariants.{Status}
use Rattle.proto.specs.Turns.{Calls, Replied, calls_of}
use Rattle.proto.specs.Streams.{turns, outcome_texts}
use Rattle.proto.specs.Words.{line_limit}
use Rattle.interleavings.specs.Moves.{done}
use Rattle.interleavings.specs.ServingMoves.{ServingChain, ServingMove, served}
use Rattle.interleavings.specs.Served.{CallName, call_made, reply_got, IsMadeUpdate, HasAll}
use Rattle.interleavings.specs.Rows.{PartName, part_at, part_of, IsPart, IsBefore, AreWhole, NoBytes, OneMore, HasAsked}
use Rattle.interleavings.specs.Rows.{IsRow}
use Rattle.interleavings.specs.WorkedRuns.{set, flight_homes}
use Rattle.interleavings.specs.WorkedRows.{first_bytes, first_part, second_part, two_parts}
use Rattle.interleavings.proofs.rows.Going.{goes, goes_between}

-- ---- its parts and their calls

-- one part stands before the other, and no others
pub which : (p q : PartName) → IsBefore two_parts p q → (p ≡ first_part) × (q ≡ second_part)
which p q b = by b.place b.later_place b.earlier b.here b.there
  where
    by : (i j : ℕ)
        → i < j
        → slice_get two_parts i ≡ Some p
        → slice_get two_parts j ≡ Some q
        → (p ≡ first_part) × (q ≡ second_part)
    by i zero l here there = absurd (omega (arith, l))
    by zero (suc zero) l here there =
        (sym (same_Some first_part p here), sym (same_Some second_part q there))
    by (suc i) (suc zero) l here there = absurd (omega (arith, l))
    by i (suc (suc j)) l here there = absurd (let no : None ≡ Some q = there in cc)

-- what holds of these two parts holds of each pair
pub for_parts : (P : PartName → PartName → Type 0) → P first_part second_part
    → (p q : PartName)
    → IsBefore two_parts p q
    → P p q
for_parts P h p q b =
    let w = which p q b in subst (λ z. P z q) (sym w.0) (subst (λ z. P first_part z) (sym w.1) h)

-- the calls of a part
abbrev pub call_of : PartName → ℕ → CallName
call_of p n = record { seat = p.seat; number = p.number; ordinal = n }

-- what holds of their calls holds of those of each pair
pub for_calls : (P : CallName → CallName → Type 0)
    → ((m n : ℕ) → P (call_of first_part m) (call_of second_part n))
    → (x y : CallName)
    → IsBefore two_parts (part_of x) (part_of y)
    → P x y
for_calls P h x y b =
    for_parts (λ p q. P (call_of p x.ordinal) (call_of q y.ordinal)) (h x.ordinal y.ordinal) (part_of x) (part_of y) b

at_one_server : (p : PartName) → IsPart two_parts p → slice_get flight_homes p.seat ≡ Some 0
at_one_server p h = by h.place h.here
  where
    by : (i : ℕ) → slice_get two_parts i ≡ Some p → slice_get flight_homes p.seat ≡ Some 0
    by zero e = subst (λ (q : PartName). slice_get flight_homes q.seat ≡ Some 0) (same_Some first_part p e) refl
    by (suc zero) e = subst (λ (q : PartName). slice_get flight_homes q.seat ≡ Some 0) (same_Some second_part p e) refl
    by (suc (suc i)) e = absurd (let no : None ≡ Some p = e in cc)

-- ---- runs of both

-- What is computed of a run: the first set is made when the second one is, and in the end both are answered.
pub record Answers (moves : List ServingMove) : Type 0 where
  pub read : (part_at (served done 1 flight_homes moves) first_part).read ≡ first_bytes
  pub asked : HasAsked first_bytes (part_at (served done 1 flight_homes (take 5 moves)) first_part)
  pub none_before : length (part_at (served done 1 flight_homes (take 5 moves)) second_part).calls ≡ 0
  pub one_then : length (part_at (served done 1 flight_homes (take 6 moves)) second_part).calls ≡ 1
  pub first_call : length (part_at (served done 1 flight_homes moves) first_part).calls ≡ 1
  pub second_call : length (part_at (served done 1 flight_homes moves) second_part).calls ≡ 1
  pub first_update : IsMadeUpdate (served done 1 flight_homes moves) (call_of first_part 0)
  pub second_update : IsMadeUpdate (served done 1 flight_homes moves) (call_of second_part 0)
  pub outcomes : (part_at (served done 1 flight_homes moves) first_part).outcomes ≡ Replied Stored ∷ []
  pub written : (part_at (served done 1 flight_homes moves) first_part).written ≡ codes "STORED\r\n"

first_is_whole : AreWhole first_bytes
unfolding line_limit
first_is_whole = OneMore first_bytes (Store (codes "a") (Set 0 (codes "p")) false, 16) refl refl NoBytes

first_turns : turns first_bytes ≡ Calls set Status ∷ []
unfolding line_limit
first_turns = refl

module _ (moves : List ServingMove) (f : Answers moves) where
  abbrev last : ServingChain
  last = served done 1 flight_homes moves

  abbrev front : ℕ → ServingChain
  front k = served done 1 flight_homes (take k moves)

  -- a call of the second part is made when the first one has asked all
  asked_then : (k : ℕ)
      → length (part_at (front k) second_part).calls < length (part_at (front (suc k)) second_part).calls
      → HasAsked (part_at last first_part).read (part_at (front k) first_part)
  asked_then k more = elim (cases_lt k 5) [
    | inl early ↦
        let g = (goes_between done 1 flight_homes moves (suc k) 5 1 0 (omega (arith, early))).calls in
        absurd (omega (arith, g, more, f.none_before))
    | inr other ↦ elim (cases_eq k 5) [
      | inl then ↦ subst (λ j. HasAsked (part_at last first_part).read (part_at (front j) first_part)) (sym then)
          (subst (λ bytes. HasAsked bytes (part_at (front 5) first_part)) (sym f.read) f.asked)
      | inr past ↦
          let g = (goes_between done 1 flight_homes moves 6 k 1 0 (omega (arith, other, past))).calls in
          let h = (goes done 1 flight_homes moves (suc k) 1 0).calls in
          absurd (omega (arith, g, h, more, f.one_then, f.second_call))
    ]
  ]

  -- the first part makes one call
  pub only_first : (m : ℕ) (call : Call) → call_made last (call_of first_part m) ≡ Some call → m ≡ 0
  only_first m call e =
      let a = slice_get_within (part_at last first_part).calls m call e in
      omega (arith, a, f.first_call)

  -- and so does the second one
  pub only_second : (n : ℕ) (call : Call) → call_made last (call_of second_part n) ≡ Some call → n ≡ 0
  only_second n call e =
      let a = slice_get_within (part_at last second_part).calls n call e in
      omega (arith, a, f.second_call)

  -- both are updates
  updates_then : (m n k : ℕ)
      → IsSome (call_made (front (suc k)) (call_of second_part n))
      → IsSome (call_made (front k) (call_of first_part m))
      → IsMadeUpdate last (call_of first_part m) × IsMadeUpdate last (call_of second_part n)
  updates_then m n k now made =
      let x = some_of (call_made (front k) (call_of first_part m)) made in
      let y = some_of (call_made (front (suc k)) (call_of second_part n)) now in
      let a = slice_get_within (part_at (front k) first_part).calls m x.0 x.1 in
      let b = slice_get_within (part_at (front (suc k)) second_part).calls n y.0 y.1 in
      let g = (goes done 1 flight_homes moves k 0 0).calls in
      let h = (goes done 1 flight_homes moves (suc k) 1 0).calls in
      let m_is : m ≡ 0 = omega (arith, a, g, f.first_call) in
      let n_is : n ≡ 0 = omega (arith, b, h, f.second_call) in (
        subst (λ i. IsMadeUpdate last (call_of first_part i)) (sym m_is) f.first_update,
        subst (λ i. IsMadeUpdate last (call_of second_part i)) (sym n_is) f.second_update,
      )

  -- to the first part all is written
  first_has_all : HasAll (part_at last first_part)
  first_has_all =
      let ts : turns (part_at last first_part).read ≡ Calls set Status ∷ [] = ap turns f.read ∙ first_turns in
      record {
        answered = ap length f.outcomes ∙ sym (ap (λ xs. length (calls_of xs)) ts);
        written = f.written ∙ sym (ap (outcome_texts (turns (part_at last first_part).read)) f.outcomes
            ∙ ap (λ xs. outcome_texts xs (Replied Stored ∷ [])) ts);
      }

  -- so they are a row
  pub is_row : IsRow done 1 flight_homes moves two_parts
  is_row = record {
    whole = for_parts (λ p q. AreWhole (part_at last p).read) (subst AreWhole (sym f.read) first_is_whole);
    server = 0;
    of_chain = lit< tt;
    at_server = at_one_server;
    made_in_turn = λ p q k b.
        for_parts
        (λ p q. length (part_at (front k) q).calls < length (part_at (front (suc k)) q).calls
        → HasAsked (part_at last p).read (part_at (front k) p)) (asked_then k) p q b;
    only_updates = λ x y k b.
        for_calls
        (λ x y. call_made (front k) y ≡ None
        → IsSome (call_made (front (suc k)) y)
        → IsSome (call_made (front k) x)
        → reply_got (front k) x ≡ None
        → IsMadeUpdate last x × IsMadeUpdate last y) (λ m n not_made now made none. updates_then m n k now made) x y b;
    written_in_turn = for_parts (λ p q. (part_at last q).written ≢ [] → HasAll (part_at last p))
        (λ some. first_has_all);
  }
