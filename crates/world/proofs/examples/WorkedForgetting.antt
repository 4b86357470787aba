-- Worked worlds in which a call is forgotten: one as it stands, and three that wrong steps of servers come to.
use Rattle.std.proofs.Common.{◌≡◌, refl, true, false, None}
use Rattle.std.specs.Prelude.{IsSome}
use Rattle.proto.specs.Words.{line_limit}
use Rattle.node.specs.Views.{has, union, single, is_below, adds, next_from, predecessor}
use Rattle.node.specs.Servers.{most}
use Rattle.node.specs.Numbering.{left_open, replies, risen, appended, passed_on, take_update, entered}
use Rattle.node.specs.Joining.{widened, taken_all, sent_again, forwarded, replies_to, promoted_to_head}
use Rattle.node.specs.Joining.{promoted_to_tail, caught_up, acked_to_predecessor, asks_renewed}
use Rattle.node.specs.Steps.{trimmed}
use Rattle.world.specs.Worlds.{World, server, link, with_server, with_link, with_connection, put_all, run_of}
use Rattle.world.specs.Calls.{CallId, reply_to, IsBegun, has_living_home}
use Rattle.world.specs.Quiet.{is_quiet}
use Rattle.world.specs.Transcripts.{transcript_of}
use Rattle.world.specs.WorkedSchedules.{name}
use Rattle.world.specs.Forgotten.{NoneForgotten}
use Rattle.world.specs.OtherSteps.{run_by}
use Rattle.world.specs.WrongSteps.{never_forwarding, silent_at_tail, not_caught_up}
use Rattle.world.specs.ForgettingWorlds.{stuck, head_homes, set_taken_events, new_tail_events, new_successor_events}
use Rattle.world.specs.ForgettingWorlds.{forgotten_transcript}

-- a quiet world with a begun call at a living home that has no reply
forgets : (w : World) (x : CallId)
    → is_quiet w ≡ true
    → IsBegun w x
    → has_living_home w x ≡ true
    → reply_to w x ≡ None
    → NoneForgotten w
    → ⊥
forgets w x quiet begun home none law =
    let answered : IsSome (reply_to w x) = law quiet x begun home in
    let no = rw none at answered in cc

-- a server that knows nothing of the call that its client waits for has forgotten it
pub stuck_forgets : NoneForgotten stuck → ⊥
unfolding has server link
stuck_forgets = forgets stuck (name 0 0) refl refl refl refl

-- ---- an entry that is never forwarded

-- if the head forwards no entry, nothing waits, and the set has no reply
pub unforwarded_shown : transcript_of (run_by never_forwarding 2 head_homes set_taken_events) ≡ forgotten_transcript
unfolding set_taken_events line_limit has union single is_below adds next_from predecessor most appended entered trimmed
    left_open replies risen passed_on take_update server link with_server with_link with_connection put_all
unforwarded_shown = refl

-- a head that forwards no entry forgets the set of its client
pub unforwarded_forgets : NoneForgotten (run_by never_forwarding 2 head_homes set_taken_events) → ⊥
unfolding set_taken_events line_limit has union single is_below adds next_from predecessor most appended entered trimmed
    left_open replies risen passed_on take_update server link with_server with_link with_connection put_all
unforwarded_forgets = forgets (run_by never_forwarding 2 head_homes set_taken_events) (name 0 0) refl refl refl refl

-- with the step of `node` the entry is still on its way
pub forwarded_waits : is_quiet (run_of 2 head_homes set_taken_events) ≡ false
unfolding set_taken_events line_limit has union single is_below adds next_from predecessor most appended entered trimmed
    left_open replies risen passed_on take_update server link with_server with_link with_connection put_all
forwarded_waits = refl

-- ---- a new tail that keeps silent

-- if a new tail acknowledges nothing, nothing waits, and the set has no reply
pub silent_shown : transcript_of (run_by silent_at_tail 2 head_homes new_tail_events) ≡ forgotten_transcript
unfolding new_tail_events line_limit has union single is_below adds next_from predecessor most appended entered widened
    taken_all sent_again forwarded replies_to trimmed left_open replies risen passed_on take_update promoted_to_head
    promoted_to_tail caught_up acked_to_predecessor asks_renewed server link with_server with_link
    with_connection put_all
silent_shown = refl

-- a new tail that acknowledges nothing forgets the set
pub silent_forgets : NoneForgotten (run_by silent_at_tail 2 head_homes new_tail_events) → ⊥
unfolding new_tail_events line_limit has union single is_below adds next_from predecessor most appended entered widened
    taken_all sent_again forwarded replies_to trimmed left_open replies risen passed_on take_update promoted_to_head
    promoted_to_tail caught_up acked_to_predecessor asks_renewed server link with_server with_link
    with_connection put_all
silent_forgets = forgets (run_by silent_at_tail 2 head_homes new_tail_events) (name 0 0) refl refl refl refl

-- with the step of `node` the reply still waits
pub acknowledged_waits : is_quiet (run_of 2 head_homes new_tail_events) ≡ false
unfolding new_tail_events line_limit has union single is_below adds next_from predecessor most appended entered widened
    taken_all sent_again forwarded replies_to trimmed left_open replies risen passed_on take_update promoted_to_head
    promoted_to_tail caught_up acked_to_predecessor asks_renewed server link with_server with_link
    with_connection put_all
acknowledged_waits = refl

-- ---- a new successor that is not sent what it misses

-- if a new successor isn't caught up, nothing waits, and the set has no reply
pub missed_shown : transcript_of (run_by not_caught_up 3 head_homes new_successor_events) ≡ forgotten_transcript
unfolding new_successor_events line_limit has union single is_below adds next_from predecessor most appended entered
    widened taken_all sent_again forwarded replies_to trimmed left_open replies risen passed_on take_update
    promoted_to_head promoted_to_tail caught_up acked_to_predecessor asks_renewed server link with_server with_link
    with_connection put_all
missed_shown = refl

-- a head that doesn't catch its new successor up forgets the set
pub missed_forgets : NoneForgotten (run_by not_caught_up 3 head_homes new_successor_events) → ⊥
unfolding new_successor_events line_limit has union single is_below adds next_from predecessor most appended entered
    widened taken_all sent_again forwarded replies_to trimmed left_open replies risen passed_on take_update
    promoted_to_head promoted_to_tail caught_up acked_to_predecessor asks_renewed server link with_server with_link
    with_connection put_all
missed_forgets = forgets (run_by not_caught_up 3 head_homes new_successor_events) (name 0 0) refl refl refl refl

-- with the step of `node` the entry is still on its way to the new successor
pub sent_waits : is_quiet (run_of 3 head_homes new_successor_events) ≡ false
unfolding new_successor_events line_limit has union single is_below adds next_from predecessor most appended entered
    widened taken_all sent_again forwarded replies_to trimmed left_open replies risen passed_on take_update
    promoted_to_head promoted_to_tail caught_up acked_to_predecessor asks_renewed server link with_server with_link
    with_connection put_all
sent_waits = refl
