-- The reply to a call of a connection that has ended stays in the queue of its seat.
use Rattle.std.proofs.Common.{◌≡◌, [], ◌∷◌, Some, refl}
use Rattle.table.specs.declared.operations.Reply.TheVariants.{Stored}
use Rattle.node.specs.Numbering.{left_open, replies, risen, appended, passed_on, take_update, entered}
use Rattle.node.specs.Servers.{most}
use Rattle.node.specs.Steps.{trimmed}
use Rattle.node.specs.Views.{has, union, single, is_below, adds, next_from, predecessor}
use Rattle.proto.specs.Words.{line_limit}
use Rattle.interleavings.specs.Chains.{with_at}
use Rattle.interleavings.specs.Moves.{done}
use Rattle.interleavings.specs.ServingMoves.{ServingChain, served}
use Rattle.interleavings.specs.WorkedServing.{talk_homes, lost_moves, delete}

abbrev lost : ServingChain
lost = served done 2 talk_homes lost_moves

-- it stands there,
pub reply_kept : (lost.chain.seats 0).queued ≡ Stored ∷ []
unfolding lost_moves with_at line_limit has union single is_below adds next_from predecessor most appended entered
    trimmed left_open replies risen passed_on take_update
reply_kept = refl

-- the next connection has a call to be made,
pub delete_due : (lost.connections 0 1).due ≡ Some delete
unfolding lost_moves with_at line_limit has union single is_below adds next_from predecessor most appended entered
    trimmed left_open replies risen passed_on take_update
delete_due = refl

-- but has made none,
pub no_calls : (lost.connections 0 1).calls ≡ []
unfolding lost_moves with_at line_limit has union single is_below adds next_from predecessor most appended entered
    trimmed left_open replies risen passed_on take_update
no_calls = refl

-- and nothing was written to it
pub none_written : (lost.connections 0 1).written ≡ []
unfolding lost_moves with_at line_limit has union single is_below adds next_from predecessor most appended entered
    trimmed left_open replies risen passed_on take_update
none_written = refl
