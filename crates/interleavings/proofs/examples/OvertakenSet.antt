-- If the second set of a client is published first, no order of all calls has its calls in turn.
use Rattle.std.proofs.Common.{◌≡◌, List, true, Some, refl, arith, lit<}
use Rattle.table.specs.declared.operations.Reply.TheVariants.{Stored}
use Rattle.node.specs.Numbering.{left_open, replies, risen, appended, passed_on, take_update, entered}
use Rattle.node.specs.Servers.{most}
use Rattle.node.specs.Steps.{trimmed}
use Rattle.node.specs.Views.{has, union, single, is_below, adds, next_from, predecessor}
use Rattle.proto.specs.Words.{line_limit}
use Rattle.interleavings.specs.Chains.{with_at}
use Rattle.interleavings.specs.Moves.{done}
use Rattle.interleavings.specs.ServingMoves.{ServingChain, served}
use Rattle.interleavings.specs.Served.{call_made, reply_got, ServedCall, IsOneOrder, is_call_published, PublishedFirst}
use Rattle.interleavings.specs.Served.{IsServedInTurn}
use Rattle.interleavings.specs.Rows.{part_of, IsBefore, OfEarlierPart, IsRow, IsRowInTurn}
use Rattle.interleavings.specs.WorkedRuns.{set, other_set, flight_homes}
use Rattle.interleavings.specs.WorkedRows.{two_parts, first_call, second_call, overtaken_moves}
use Rattle.interleavings.proofs.examples.SetsOfOneClient.{Answers, is_row}

abbrev last : ServingChain
last = served done 1 flight_homes overtaken_moves

-- the second set is published first
second_first : PublishedFirst done (λ c. c) 1 flight_homes overtaken_moves second_call first_call
unfolding overtaken_moves with_at line_limit has union single is_below adds next_from predecessor most appended entered
    trimmed left_open replies risen passed_on take_update
second_first = record {
  k = 8;
  published = refl;
  not_published = refl;
  server = 0;
  of_chain = lit< tt;
  here = refl;
  there = refl;
  update = (other_set, refl, refl);
  later_update = (set, refl, refl);
}

-- both are made and answered
answers : Answers overtaken_moves
unfolding overtaken_moves with_at line_limit has union single is_below adds next_from predecessor most appended entered
    trimmed left_open replies risen passed_on take_update
answers = record {
  read = refl;
  asked = refl;
  none_before = refl;
  one_then = refl;
  first_call = refl;
  second_call = refl;
  first_update = (set, refl, refl);
  second_update = (other_set, refl, refl);
  outcomes = refl;
  written = refl;
}

-- its two connections are a row
pub are_row : IsRow done 1 flight_homes overtaken_moves two_parts
are_row = is_row overtaken_moves answers

-- in the end both are answered
both_answered : (reply_got last first_call ≡ Some Stored) × (reply_got last second_call ≡ Some Stored)
unfolding overtaken_moves with_at line_limit has union single is_below adds next_from predecessor most appended entered
    trimmed left_open replies risen passed_on take_update
both_answered = (refl, refl)

first_made : call_made last first_call ≡ Some set
unfolding overtaken_moves with_at line_limit has union single is_below adds next_from predecessor most appended entered
    trimmed left_open replies risen passed_on take_update
first_made = refl

second_published : is_call_published (λ c. c) last second_call ≡ true
unfolding overtaken_moves with_at line_limit has union single is_below adds next_from predecessor most appended entered
    trimmed left_open replies risen passed_on take_update
second_published = refl

before : IsBefore two_parts (part_of first_call) (part_of second_call)
before = record { place = 0; later_place = 1; earlier = lit< tt; here = refl; there = refl }

-- so each would stand before the other
pub out_of_turn : (h : List ServedCall)
    → IsOneOrder done 1 flight_homes overtaken_moves h
    → IsServedInTurn done (λ c. c) 1 flight_homes overtaken_moves h
    → IsRowInTurn (λ c. c) (served done 1 flight_homes overtaken_moves) two_parts h
    → ⊥
out_of_turn h one turn row =
    let a = one.answered first_call Stored both_answered.0 in
    let b = one.answered second_call Stored both_answered.1 in
    let t = turn.in_turn second_call first_call a.0 second_first a.1 in
    let made = Rattle.world.proofs.order.Since.is_some (call_made last first_call) set first_made in
    let u = row first_call second_call b.0 (OfEarlierPart before) made (λ update. second_published) b.1 in
    let same = one.once t.0 b.0 second_call t.2 b.1 in
    let other = one.once u.0 a.0 first_call u.2 a.1 in
    absurd (omega (arith, t.1, u.1, same, other))
