-- A worked schedule: both neighbours of a server fail. It is left as the head and the tail, and its client gets its
-- reply.
use Rattle.std.proofs.Common.{◌≡◌, refl, [], ◌∷◌}
use Rattle.std.specs.Prelude.{codes}
use Rattle.table.specs.declared.operations.Call.{Call}
use Rattle.table.specs.declared.operations.Reply.TheVariants.{Stored}
use Rattle.proto.specs.Words.{line_limit}
use Rattle.node.specs.Views.{has, union, single, is_below, adds, next_from, predecessor}
use Rattle.node.specs.Servers.{most}
use Rattle.node.specs.Numbering.{left_open, replies, risen, appended, passed_on, take_update, entered}
use Rattle.node.specs.Joining.{widened, taken_all, sent_again, forwarded, replies_to, promoted_to_head}
use Rattle.node.specs.Joining.{promoted_to_tail, caught_up, acked_to_predecessor, asks_renewed}
use Rattle.node.specs.Steps.{trimmed}
use Rattle.world.specs.Worlds.{server, link, with_server, with_link, with_connection, put_all, run_of}
use Rattle.world.specs.Transcripts.{transcript_of}
use Rattle.world.specs.WorkedSchedules.{set_of, alone_homes, alone_events, alone_transcript}
use Rattle.world.proofs.examples.WorkedOrders.{calls_in, replies_in}

-- the server that is left alone answers its client's set, and nothing waits
pub middle_server_left_alone : transcript_of (run_of 3 alone_homes alone_events) ≡ alone_transcript
unfolding alone_events line_limit has union single is_below adds next_from predecessor most appended entered widened
    taken_all sent_again forwarded replies_to trimmed left_open replies risen passed_on take_update promoted_to_head
    promoted_to_tail caught_up acked_to_predecessor asks_renewed server link with_server with_link
    with_connection put_all
middle_server_left_alone = refl

-- the client's set
abbrev pub set : Call
set = set_of (codes "a") (codes "p")

-- after the schedule the set is begun, and nothing else
pub called : calls_in (run_of 3 alone_homes alone_events) ≡ (set ∷ []) ∷ []
unfolding alone_events line_limit has union single is_below adds next_from predecessor most appended entered widened
    taken_all sent_again forwarded replies_to trimmed left_open replies risen passed_on take_update promoted_to_head
    promoted_to_tail caught_up acked_to_predecessor asks_renewed server link with_server with_link
    with_connection put_all
called = refl

-- after the schedule the set is answered
pub replied : replies_in (run_of 3 alone_homes alone_events) ≡ (Stored ∷ []) ∷ []
unfolding alone_events line_limit has union single is_below adds next_from predecessor most appended entered widened
    taken_all sent_again forwarded replies_to trimmed left_open replies risen passed_on take_update promoted_to_head
    promoted_to_tail caught_up acked_to_predecessor asks_renewed server link with_server with_link
    with_connection put_all
replied = refl
