-- Two sets of two connections of one server: the one that is made last is published first.
use Rattle.std.proofs.Common.{◌≡◌, take, false, refl, lit<}
use Rattle.node.specs.Numbering.{left_open, replies, risen, appended, passed_on, take_update, entered}
use Rattle.node.specs.Servers.{most}
use Rattle.node.specs.Steps.{trimmed}
use Rattle.node.specs.Views.{has, union, single, is_below, adds, next_from, predecessor}
use Rattle.proto.specs.Words.{line_limit}
use Rattle.interleavings.specs.Chains.{with_at}
use Rattle.interleavings.specs.Moves.{done}
use Rattle.interleavings.specs.ServingMoves.{served}
use Rattle.interleavings.specs.Served.{is_call_published, PublishedFirst}
use Rattle.interleavings.specs.WorkedRuns.{set, other_set, flight_homes}
use Rattle.interleavings.specs.WorkedServing.{turn_moves, first_set, second_set}

-- after it was made, the last one waits
pub waits_first : is_call_published (λ c. c) (served done 1 flight_homes (take 14 turn_moves)) first_set ≡ false
unfolding turn_moves with_at line_limit has union single is_below adds next_from predecessor most appended entered
    trimmed left_open replies risen passed_on take_update
waits_first = refl

-- in the end it is published, and the other still waits
pub published_first : PublishedFirst done (λ c. c) 1 flight_homes turn_moves first_set second_set
unfolding turn_moves with_at line_limit has union single is_below adds next_from predecessor most appended entered
    trimmed left_open replies risen passed_on take_update
published_first = record {
  k = 18;
  published = refl;
  not_published = refl;
  server = 0;
  of_chain = lit< tt;
  here = refl;
  there = refl;
  update = (set, refl, refl);
  later_update = (other_set, refl, refl);
}
