-- Runs in which a move lacks its rule: three that have no order, and one that forgets a call.
use Rattle.std.proofs.Common.{◌≡◌, ℕ, false, [], ◌∷◌, ◌++◌, None, Some, refl, arith, ap, ◌∙◌}
use Rattle.node.specs.Joining.{widened, taken_all, sent_again, forwarded, replies_to, promoted_to_head}
use Rattle.node.specs.Joining.{promoted_to_tail, caught_up, acked_to_predecessor, asks_renewed}
use Rattle.node.specs.Numbering.{left_open, replies, risen, appended, passed_on, take_update, entered}
use Rattle.node.specs.Servers.{most, opening}
use Rattle.node.specs.Steps.{trimmed}
use Rattle.node.specs.Views.{has, union, single, is_below, adds, next_from, predecessor}
use Rattle.world.specs.WorkedSchedules.{name}
use Rattle.interleavings.specs.Chains.{Seat, Chain, with_at}
use Rattle.interleavings.specs.Moves.{Looks}
use Rattle.interleavings.specs.Orders.{begun_call, reply_to}
use Rattle.interleavings.specs.OtherMoves.{moved_by, HasNoOrder}
use Rattle.interleavings.specs.WrongMoves.{with_older_looks, with_early_puts, with_early_notices, with_lossy_channels}
use Rattle.interleavings.specs.WorkedRuns.{key, set, older_homes, before_older_look, early_homes}
use Rattle.interleavings.specs.WorkedRuns.{before_unpublished_look, told_homes, before_outlived_look}
use Rattle.interleavings.specs.WorkedRuns.{set_homes, lossy_moves, left_to_do}
use Rattle.interleavings.proofs.examples.MissedSet.{served_seats, served_other, no_order}
use Rattle.interleavings.proofs.examples.WorkedLooks.{opening_shows, look_shows, older_look_shows}

-- ---- a look at an older face

abbrev older : Chain
older = moved_by with_older_looks 1 older_homes before_older_look

older_served : older.seats ≡ served_seats 1 older_homes 0
unfolding before_older_look with_at has union single is_below adds next_from predecessor most appended entered trimmed
    left_open replies risen passed_on take_update
older_served = refl

older_goes_on : (older.servers 0).stopped ≡ false
unfolding before_older_look with_at has union single is_below adds next_from predecessor most appended entered trimmed
    left_open replies risen passed_on take_update
older_goes_on = refl

older_count : older.count ≡ 1
unfolding before_older_look with_at has union single is_below adds next_from predecessor most appended entered trimmed
    left_open replies risen passed_on take_update
older_count = refl

-- no order has its calls
pub older_look : HasNoOrder with_older_looks 1 older_homes (before_older_look ++ Looks 1 key ∷ [])
older_look = no_order with_older_looks 1 older_homes before_older_look 0 0 older_served
    (older_look_shows older 0 1
    (ap (λ (f : ℕ → Seat). f 1) older_served ∙ served_other 1 older_homes 0 1 (λ e. omega (arith, e)))
    older_goes_on older_count (omega arith) (omega arith))

-- ---- a put before the publish

abbrev early : Chain
early = moved_by with_early_puts 2 early_homes before_unpublished_look

early_served : early.seats ≡ served_seats 2 early_homes 1
unfolding before_unpublished_look with_at has union single is_below adds next_from predecessor most appended entered
    widened trimmed left_open replies risen passed_on take_update
early_served = refl

early_goes_on : (early.servers 0).stopped ≡ false
unfolding before_unpublished_look with_at has union single is_below adds next_from predecessor most appended entered
    widened trimmed left_open replies risen passed_on take_update
early_goes_on = refl

early_node : (early.servers 0).node ≡ opening 0 2
unfolding before_unpublished_look with_at has union single is_below adds next_from predecessor most appended entered
    widened trimmed left_open replies risen passed_on take_update
early_node = refl

-- no order has its calls
pub early_put : HasNoOrder with_early_puts 2 early_homes (before_unpublished_look ++ Looks 1 key ∷ [])
early_put = no_order with_early_puts 2 early_homes before_unpublished_look 1 0 early_served
    (look_shows early 0 (opening 0 2) None
    (ap (λ (f : ℕ → Seat). f 1) early_served ∙ served_other 2 early_homes 1 1 (λ e. omega (arith, e)))
    early_goes_on early_node (opening_shows 0 2 (omega arith) (omega arith)))

-- ---- a notice of a server that goes on

abbrev told : Chain
told = moved_by with_early_notices 2 told_homes before_outlived_look

told_served : told.seats ≡ served_seats 2 told_homes 0
unfolding before_outlived_look with_at has union single is_below adds next_from predecessor most appended entered
    widened taken_all sent_again forwarded replies_to trimmed left_open replies risen passed_on take_update
    promoted_to_head promoted_to_tail caught_up acked_to_predecessor asks_renewed
told_served = refl

told_goes_on : (told.servers 1).stopped ≡ false
unfolding before_outlived_look with_at has union single is_below adds next_from predecessor most appended entered
    widened taken_all sent_again forwarded replies_to trimmed left_open replies risen passed_on take_update
    promoted_to_head promoted_to_tail caught_up acked_to_predecessor asks_renewed
told_goes_on = refl

told_node : (told.servers 1).node ≡ opening 1 2
unfolding before_outlived_look with_at has union single is_below adds next_from predecessor most appended entered
    widened taken_all sent_again forwarded replies_to trimmed left_open replies risen passed_on take_update
    promoted_to_head promoted_to_tail caught_up acked_to_predecessor asks_renewed
told_node = refl

-- no order has its calls
pub early_notice : HasNoOrder with_early_notices 2 told_homes (before_outlived_look ++ Looks 1 key ∷ [])
early_notice = no_order with_early_notices 2 told_homes before_outlived_look 0 1 told_served
    (look_shows told 1 (opening 1 2) None
    (ap (λ (f : ℕ → Seat). f 1) told_served ∙ served_other 2 told_homes 0 1 (λ e. omega (arith, e)))
    told_goes_on told_node (opening_shows 1 2 (omega arith) (omega arith)))

-- ---- a channel that leaves out a message

abbrev lossy : Chain
lossy = moved_by with_lossy_channels 2 set_homes lossy_moves

-- the set is begun,
pub lossy_begun : begun_call lossy (name 0 0) ≡ Some set
unfolding lossy_moves with_at has union single is_below adds next_from predecessor most appended entered trimmed
    passed_on take_update
lossy_begun = refl

-- and has no reply;
pub lossy_forgotten : reply_to lossy (name 0 0) ≡ None
unfolding lossy_moves with_at has union single is_below adds next_from predecessor most appended entered trimmed
    passed_on take_update
lossy_forgotten = refl

-- no server has anything to do,
pub lossy_first : left_to_do lossy 0 ≡ ([], None, [])
unfolding lossy_moves with_at has union single is_below adds next_from predecessor most appended entered trimmed
    passed_on take_update
lossy_first = refl

-- nothing is left to do at the second server
pub lossy_second : left_to_do lossy 1 ≡ ([], None, [])
unfolding lossy_moves with_at has union single is_below adds next_from predecessor most appended entered trimmed
    passed_on take_update
lossy_second = refl

-- nothing is on a channel,
pub lossy_down : lossy.channels 0 1 ≡ []
unfolding lossy_moves with_at has union single is_below adds next_from predecessor most appended entered trimmed
    passed_on take_update
lossy_down = refl

-- nothing is on the channel back
pub lossy_back : lossy.channels 1 0 ≡ []
unfolding lossy_moves with_at has union single is_below adds next_from predecessor most appended entered trimmed
    passed_on take_update
lossy_back = refl

-- or in the seat's queue,
pub lossy_mail : (lossy.seats 0).queued ≡ []
unfolding lossy_moves with_at has union single is_below adds next_from predecessor most appended entered trimmed
    passed_on take_update
lossy_mail = refl

-- and both servers go on
pub lossy_head : (lossy.servers 0).stopped ≡ false
unfolding lossy_moves with_at has union single is_below adds next_from predecessor most appended entered trimmed
    passed_on take_update
lossy_head = refl

-- the tail goes on
pub lossy_tail : (lossy.servers 1).stopped ≡ false
unfolding lossy_moves with_at has union single is_below adds next_from predecessor most appended entered trimmed
    passed_on take_update
lossy_tail = refl
