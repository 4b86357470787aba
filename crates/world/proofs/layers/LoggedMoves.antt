-- Logs and commit numbers hold after each move, and the committed entries only grow.
use Rattle.std.proofs.Common.{ℕ, List}
use Rattle.node.specs.declared.messages.Peer.{Peer}
use Rattle.world.specs.Connections.{Connection, came, begun, asked, handed}
use Rattle.world.specs.Worlds.{where_home_lives}
use Rattle.node.proofs.Lists.{Begins}
use Rattle.node.proofs.Beginnings.{begins_same}
use Rattle.world.proofs.trace.Traces.{Traced, reconnected, unlinked}
use Rattle.world.proofs.trace.ChangeLaws.{committed_reconnected, committed_unlinked}
use Rattle.world.proofs.trace.Moves.{Move, Does, Comes, Starts, Works, Hands, Takes, Fails, moved, IsMove}
use Rattle.world.proofs.trace.Layers.{Later, Framed, Logged, Lawful}
use Rattle.world.proofs.layers.LastLiving.{grows_done, grows_failing}
use Rattle.world.proofs.layers.LoggedActions.{logged_done}
use Rattle.world.proofs.layers.LoggedEvents.{logged_reconnected, logged_unlinked, logged_failing}

grows_reconnected : (t : Traced) (c : ℕ) (change : Connection → Connection)
    → Begins t.committed (reconnected t c change).committed
grows_reconnected t c change = rw (committed_reconnected t c change) (begins_same t.committed)

grows_unlinked : (t : Traced) (i j : ℕ) (ms : List Peer) → Begins t.committed (unlinked t i j ms).committed
grows_unlinked t i j ms = rw (committed_unlinked t i j ms) (begins_same t.committed)

-- the committed entries only grow by a move
pub grows_moved : (t : Traced) (m : Move) → IsMove t m → Lawful t → Begins t.committed (moved t m).committed
grows_moved t (Does i cause a) h w = grows_done t i a w.framed w.logged h.lives
grows_moved t (Comes c bytes) h w = grows_reconnected t c (where_home_lives t.world (came bytes))
grows_moved t (Starts c) h w = grows_reconnected t c (where_home_lives t.world (λ k. begun k.stage k))
grows_moved t (Works c) h w = grows_reconnected t c asked
grows_moved t (Hands c) h w = grows_reconnected t c (where_home_lives t.world (λ k. handed k.stage k))
grows_moved t (Takes i j ms) h w = grows_unlinked t i j ms
grows_moved t (Fails i) h w = grows_failing t i w.logged

-- logs and commit numbers hold after each move
pub logged_moved : (t : Traced) (m : Move)
    → IsMove t m
    → Lawful t
    → Later t (moved t m)
    → Framed (moved t m)
    → Logged (moved t m)
logged_moved t (Does i cause a) h w later framed =
    logged_done t i cause a h.lives w h.known h.sound h.guard later framed
logged_moved t (Comes c bytes) h w later framed =
    logged_reconnected t c (where_home_lives t.world (came bytes)) w later framed
logged_moved t (Starts c) h w later framed =
    logged_reconnected t c (where_home_lives t.world (λ k. begun k.stage k)) w later framed
logged_moved t (Works c) h w later framed = logged_reconnected t c asked w later framed
logged_moved t (Hands c) h w later framed =
    logged_reconnected t c (where_home_lives t.world (λ k. handed k.stage k)) w later framed
logged_moved t (Takes i j ms) h w later framed = logged_unlinked t i j h.message ms h.here w later framed
logged_moved t (Fails i) h w later framed = logged_failing t i w later framed
