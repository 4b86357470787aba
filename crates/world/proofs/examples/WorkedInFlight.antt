-- A worked schedule: two sets on two keys, both on their way from one server to the head.
use Rattle.std.proofs.Common.{◌≡◌, [], ◌∷◌, take, true, false, refl}
use Rattle.table.specs.declared.operations.Reply.TheVariants.{Stored}
use Rattle.proto.specs.Words.{line_limit}
use Rattle.node.specs.Views.{has, union, single, is_below, adds, next_from, predecessor}
use Rattle.node.specs.Servers.{most}
use Rattle.node.specs.Numbering.{left_open, replies, risen, appended, passed_on, take_update, entered}
use Rattle.node.specs.Steps.{trimmed}
use Rattle.world.specs.Worlds.{server, link, with_server, with_link, with_connection, put_all, run_of}
use Rattle.world.specs.Calls.{is_given}
use Rattle.world.specs.Transcripts.{transcript_of}
use Rattle.world.specs.WorkedSchedules.{name, flight_homes, flight_events, flight_transcript}
use Rattle.world.proofs.examples.WorkedOrders.{calls_in, replies_in}
use Rattle.world.proofs.examples.WorkedInTime.{first, second}

-- both sets are answered, and nothing waits
pub flight_is_shown : transcript_of (run_of 2 flight_homes flight_events) ≡ flight_transcript
unfolding flight_events line_limit has union single is_below adds next_from predecessor most appended entered trimmed
    left_open replies risen passed_on take_update server link with_server with_link with_connection put_all
flight_is_shown = refl

-- after the schedule both sets are begun
pub called : calls_in (run_of 2 flight_homes flight_events) ≡ (first ∷ []) ∷ (second ∷ []) ∷ []
unfolding flight_events line_limit has union single is_below adds next_from predecessor most appended entered trimmed
    left_open replies risen passed_on take_update server link with_server with_link with_connection put_all
called = refl

-- after the schedule both sets are answered
pub replied : replies_in (run_of 2 flight_homes flight_events) ≡ (Stored ∷ []) ∷ (Stored ∷ []) ∷ []
unfolding flight_events line_limit has union single is_below adds next_from predecessor most appended entered trimmed
    left_open replies risen passed_on take_update server link with_server with_link with_connection put_all
replied = refl

-- after four events both are begun, and none is answered
pub called_soon : calls_in (run_of 2 flight_homes (take 4 flight_events)) ≡ (first ∷ []) ∷ (second ∷ []) ∷ []
unfolding flight_events line_limit has union single is_below adds next_from predecessor most appended entered trimmed
    left_open replies risen passed_on take_update server link with_server with_link with_connection put_all
called_soon = refl

-- after four events neither has a reply
pub replied_late : replies_in (run_of 2 flight_homes (take 4 flight_events)) ≡ [] ∷ [] ∷ []
unfolding flight_events line_limit has union single is_below adds next_from predecessor most appended entered trimmed
    left_open replies risen passed_on take_update server link with_server with_link with_connection put_all
replied_late = refl

-- after one more the first is given to its server, and the second isn't
pub first_given : is_given (run_of 2 flight_homes (take 5 flight_events)) (name 0 0) ≡ true
unfolding flight_events line_limit has union single is_below adds next_from predecessor most appended entered trimmed
    left_open replies risen passed_on take_update server link with_server with_link with_connection put_all
first_given = refl

-- after five events the second set isn't given to its server
pub second_not : is_given (run_of 2 flight_homes (take 5 flight_events)) (name 1 0) ≡ false
unfolding flight_events line_limit has union single is_below adds next_from predecessor most appended entered trimmed
    left_open replies risen passed_on take_update server link with_server with_link with_connection put_all
second_not = refl
