-- A worked schedule: two sets on two keys, of which one is answered before the other begins.
use Rattle.std.proofs.Common.{◌≡◌, refl, [], ◌∷◌}
use Rattle.std.specs.Prelude.{codes}
use Rattle.table.specs.declared.operations.Call.{Call}
use Rattle.table.specs.declared.operations.Reply.TheVariants.{Stored}
use Rattle.proto.specs.Words.{line_limit}
use Rattle.node.specs.Views.{has, union, single, is_below, adds, next_from, predecessor}
use Rattle.node.specs.Servers.{most}
use Rattle.node.specs.Numbering.{left_open, replies, risen, appended, passed_on, take_update, entered}
use Rattle.node.specs.Steps.{trimmed}
use Rattle.world.specs.Worlds.{server, link, with_server, with_link, with_connection, put_all, run_of}
use Rattle.world.specs.Transcripts.{transcript_of}
use Rattle.world.specs.Orders.{Precedes}
use Rattle.world.specs.WorkedSchedules.{name, set_of, sets_homes, sets_events, sets_transcript}
use Rattle.world.proofs.examples.WorkedOrders.{calls_in, replies_in}

-- both sets are answered, and nothing waits
pub sets_are_shown : transcript_of (run_of 2 sets_homes sets_events) ≡ sets_transcript
unfolding sets_events line_limit has union single is_below adds next_from predecessor most appended entered trimmed
    left_open replies risen passed_on take_update server link with_server with_link with_connection put_all
sets_are_shown = refl

-- the set that is answered first
abbrev pub first : Call
first = set_of (codes "a") (codes "p")

-- the set that begins once the first is answered
abbrev pub second : Call
second = set_of (codes "b") (codes "q")

-- after the schedule both sets are begun
pub called : calls_in (run_of 2 sets_homes sets_events) ≡ (first ∷ []) ∷ (second ∷ []) ∷ []
unfolding sets_events line_limit has union single is_below adds next_from predecessor most appended entered trimmed
    left_open replies risen passed_on take_update server link with_server with_link with_connection put_all
called = refl

-- after the schedule both sets are answered
pub replied : replies_in (run_of 2 sets_homes sets_events) ≡ (Stored ∷ []) ∷ (Stored ∷ []) ∷ []
unfolding sets_events line_limit has union single is_below adds next_from predecessor most appended entered trimmed
    left_open replies risen passed_on take_update server link with_server with_link with_connection put_all
replied = refl

-- the first is answered before the second begins
pub first_before_second : Precedes 2 sets_homes sets_events (name 0 0) (name 1 0)
unfolding sets_events line_limit has union single is_below adds next_from predecessor most appended entered trimmed
    left_open replies risen passed_on take_update server link with_server with_link with_connection put_all
first_before_second = record { k = 6; answered = refl; not_begun = refl }
