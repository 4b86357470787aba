-- Two sets of one client are in flight, and are published in turn.
use Rattle.std.proofs.Common.{◌≡◌, ℕ, zero, suc, ◌<◌, ◌≤◌, true, false, List, [], ◌∷◌, ◌++◌, take, Some, refl, arith}
use Rattle.std.proofs.Common.{sym, subst, lit<, lit≤}
use Rattle.std.specs.Prelude.{codes}
use Rattle.world.proofs.order.Since.{is_some}
use Rattle.table.specs.declared.operations.Reply.TheVariants.{Stored}
use Rattle.node.specs.Numbering.{left_open, replies, risen, appended, passed_on, take_update, entered}
use Rattle.node.specs.Servers.{most}
use Rattle.node.specs.Steps.{trimmed}
use Rattle.node.specs.Views.{has, union, single, is_below, adds, next_from, predecessor}
use Rattle.proto.specs.Words.{line_limit}
use Rattle.interleavings.specs.Chains.{with_at}
use Rattle.interleavings.specs.Moves.{done}
use Rattle.interleavings.specs.ServingMoves.{ServingChain, served}
use Rattle.interleavings.specs.Served.{call_made, reply_got, ServedCall, StandsThere, IsOneOrder, is_call_published}
use Rattle.interleavings.specs.Served.{IsMadeUpdate, IsServedInTurn}
use Rattle.interleavings.specs.Rows.{OfEarlierPart, IsRow, IsPublishedInTurn, row_read, row_calls, row_replies}
use Rattle.interleavings.specs.Rows.{row_written}
use Rattle.interleavings.specs.WorkedRuns.{set, other_set, flight_homes}
use Rattle.interleavings.specs.WorkedRows.{first_bytes, second_bytes, first_part, second_part, two_parts}
use Rattle.interleavings.specs.WorkedRows.{first_call, second_call, pipelined_moves}
use Rattle.interleavings.proofs.rows.Answered.{answered_published}
use Rattle.interleavings.proofs.rows.RowOrder.{row_in_turn}
use Rattle.interleavings.proofs.examples.SetsOfOneClient.{call_of, for_calls, Answers, only_first, only_second, is_row}

-- what its parts read is what it sent
pub read_is : row_read (served done 1 flight_homes pipelined_moves) two_parts ≡ first_bytes ++ second_bytes
unfolding pipelined_moves with_at line_limit has union single is_below adds next_from predecessor most appended entered
    trimmed left_open replies risen passed_on take_update
read_is = refl

-- after six moves both sets are made
pub in_flight : row_calls (served done 1 flight_homes (take 6 pipelined_moves)) two_parts ≡ set ∷ other_set ∷ []
unfolding pipelined_moves with_at line_limit has union single is_below adds next_from predecessor most appended entered
    trimmed left_open replies risen passed_on take_update
in_flight = refl

-- and none is answered
pub no_reply : row_replies (served done 1 flight_homes (take 6 pipelined_moves)) two_parts ≡ []
unfolding pipelined_moves with_at line_limit has union single is_below adds next_from predecessor most appended entered
    trimmed left_open replies risen passed_on take_update
no_reply = refl

-- in the end both lines are written, in turn
pub written_is : row_written (served done 1 flight_homes pipelined_moves) two_parts ≡ codes "STORED\r\nSTORED\r\n"
unfolding pipelined_moves with_at line_limit has union single is_below adds next_from predecessor most appended entered
    trimmed left_open replies risen passed_on take_update
written_is = refl

answers : Answers pipelined_moves
unfolding pipelined_moves with_at line_limit has union single is_below adds next_from predecessor most appended entered
    trimmed left_open replies risen passed_on take_update
answers = record {
  read = refl;
  asked = refl;
  none_before = refl;
  one_then = refl;
  first_call = refl;
  second_call = refl;
  first_update = (set, refl, refl);
  second_update = (other_set, refl, refl);
  outcomes = refl;
  written = refl;
}

-- its two connections are a row
pub are_row : IsRow done 1 flight_homes pipelined_moves two_parts
are_row = is_row pipelined_moves answers

-- ---- in turn

abbrev front : ℕ → ServingChain
front k = served done 1 flight_homes (take k pipelined_moves)

-- the second set is published by the tenth move,
not_published : (k : ℕ) → is_call_published (λ c. c) (front (suc k)) (call_of second_part 0) ≡ true → 9 ≤ k
unfolding pipelined_moves with_at line_limit has union single is_below adds next_from predecessor most appended entered
    trimmed left_open replies risen passed_on take_update
not_published zero e = absurd (let no : false ≡ true = e in cc)
not_published (suc zero) e = absurd (let no : false ≡ true = e in cc)
not_published (suc (suc zero)) e = absurd (let no : false ≡ true = e in cc)
not_published (suc (suc (suc zero))) e = absurd (let no : false ≡ true = e in cc)
not_published (suc (suc (suc (suc zero)))) e = absurd (let no : false ≡ true = e in cc)
not_published (suc (suc (suc (suc (suc zero))))) e = absurd (let no : false ≡ true = e in cc)
not_published (suc (suc (suc (suc (suc (suc zero)))))) e = absurd (let no : false ≡ true = e in cc)
not_published (suc (suc (suc (suc (suc (suc (suc zero))))))) e = absurd (let no : false ≡ true = e in cc)
not_published (suc (suc (suc (suc (suc (suc (suc (suc zero)))))))) e = absurd (let no : false ≡ true = e in cc)
not_published (suc (suc (suc (suc (suc (suc (suc (suc (suc k))))))))) e = omega arith

-- and the first one before it
published : (k : ℕ) → 9 ≤ k → is_call_published (λ c. c) (front k) (call_of first_part 0) ≡ true
unfolding pipelined_moves with_at line_limit has union single is_below adds next_from predecessor most appended entered
    trimmed left_open replies risen passed_on take_update
published zero l = absurd (omega (arith, l))
published (suc zero) l = absurd (omega (arith, l))
published (suc (suc zero)) l = absurd (omega (arith, l))
published (suc (suc (suc zero))) l = absurd (omega (arith, l))
published (suc (suc (suc (suc zero)))) l = absurd (omega (arith, l))
published (suc (suc (suc (suc (suc zero))))) l = absurd (omega (arith, l))
published (suc (suc (suc (suc (suc (suc zero)))))) l = absurd (omega (arith, l))
published (suc (suc (suc (suc (suc (suc (suc zero))))))) l = absurd (omega (arith, l))
published (suc (suc (suc (suc (suc (suc (suc (suc zero)))))))) l = absurd (omega (arith, l))
published (suc (suc (suc (suc (suc (suc (suc (suc (suc zero))))))))) l = refl
published (suc (suc (suc (suc (suc (suc (suc (suc (suc (suc zero)))))))))) l = refl
published (suc (suc (suc (suc (suc (suc (suc (suc (suc (suc (suc zero))))))))))) l = refl
published (suc (suc (suc (suc (suc (suc (suc (suc (suc (suc (suc (suc zero)))))))))))) l = refl
published (suc (suc (suc (suc (suc (suc (suc (suc (suc (suc (suc (suc (suc zero))))))))))))) l = refl
published (suc (suc (suc (suc (suc (suc (suc (suc (suc (suc (suc (suc (suc (suc zero)))))))))))))) l = refl
published (suc (suc (suc (suc (suc (suc (suc (suc (suc (suc (suc (suc (suc (suc (suc zero))))))))))))))) l = refl
published (suc (suc (suc (suc (suc (suc (suc (suc (suc (suc (suc (suc (suc (suc (suc (suc zero)))))))))))))))) l = refl
published (suc (suc (suc (suc (suc (suc (suc (suc (suc (suc (suc (suc (suc (suc (suc (suc (suc k))))))))))))))))) l =
    refl

in_turn : (m n k : ℕ)
    → IsMadeUpdate (served done 1 flight_homes pipelined_moves) (call_of first_part m)
    → IsMadeUpdate (served done 1 flight_homes pipelined_moves) (call_of second_part n)
    → is_call_published (λ c. c) (front (suc k)) (call_of second_part n) ≡ true
    → is_call_published (λ c. c) (front k) (call_of first_part m) ≡ true
in_turn m n k u v now =
    let m_is = only_first pipelined_moves answers m u.0 u.1 in
    let n_is = only_second pipelined_moves answers n v.0 v.1 in
    subst (λ i. is_call_published (λ c. c) (front k) (call_of first_part i) ≡ true) (sym m_is)
    (published k (not_published k
    (subst (λ i. is_call_published (λ c. c) (front (suc k)) (call_of second_part i) ≡ true) n_is now)))

-- so they are published in turn
pub are_published : IsPublishedInTurn done (λ c. c) 1 flight_homes pipelined_moves two_parts
are_published = record {
  published_in_turn = λ x y k b.
      for_calls
      (λ x y. IsMadeUpdate (served done 1 flight_homes pipelined_moves) x
      → IsMadeUpdate (served done 1 flight_homes pipelined_moves) y
      → is_call_published (λ c. c) (front k) y ≡ false
      → is_call_published (λ c. c) (front (suc k)) y ≡ true
      → is_call_published (λ c. c) (front k) x ≡ true) (λ m n u v none now. in_turn m n k u v now) x y b;
}

-- ---- in each order

both_answered : (reply_got (served done 1 flight_homes pipelined_moves) first_call ≡ Some Stored)
    × (reply_got (served done 1 flight_homes pipelined_moves) second_call ≡ Some Stored)
unfolding pipelined_moves with_at line_limit has union single is_below adds next_from predecessor most appended entered
    trimmed left_open replies risen passed_on take_update
both_answered = (refl, refl)

first_made : call_made (served done 1 flight_homes pipelined_moves) first_call ≡ Some set
unfolding pipelined_moves with_at line_limit has union single is_below adds next_from predecessor most appended entered
    trimmed left_open replies risen passed_on take_update
first_made = refl

-- the first set stands first
pub first_before : (h : List ServedCall)
    → IsOneOrder done 1 flight_homes pipelined_moves h
    → IsServedInTurn done (λ c. c) 1 flight_homes pipelined_moves h
    → (i : ℕ) × (j : ℕ) × (i < j) × StandsThere h i first_call × StandsThere h j second_call
first_before h one turn =
    let b = one.answered second_call Stored both_answered.1 in
    let x = row_in_turn done 1 flight_homes pipelined_moves two_parts are_row (λ c. c) are_published h one turn
    first_call second_call b.0
    (OfEarlierPart (record { place = 0; later_place = 1; earlier = lit< tt; here = refl; there = refl }))
    (is_some _ set first_made)
    (λ update. answered_published 1 flight_homes pipelined_moves (lit≤ tt) second_call
    (is_some _ Stored both_answered.1)) b.1 in
    (x.0, b.0, x.1, x.2, b.1)
