-- What was known is known still after each move that isn't a server's action.
use Rattle.std.proofs.Common.{◌≡◌, ℕ, List, [], ◌∷◌, Some, None, refl, inl, inr}
use Rattle.std.specs.Prelude.{slice_get}
use Rattle.std.proofs.lemmas.Bool.{cond_both, or_left}
use Rattle.std.proofs.lemmas.Option.{option_and_then_some}
use Rattle.table.specs.declared.operations.Call.{Call}
use Rattle.table.specs.declared.operations.Reply.{Reply}
use Rattle.node.specs.declared.messages.Peer.{Peer}
use Rattle.node.specs.Views.{single}
use Rattle.proto.specs.Turns.{Faulty, Calls}
use Rattle.proto.specs.Sessions.{Given}
use Rattle.world.specs.declared.connections.Stage.{Stage}
use Rattle.world.specs.declared.connections.Stage.TheVariants.{Idle, Begun, Asked, Replied}
use Rattle.world.specs.Connections.{Connection, came, begun_by, begun, past_faults, asked, handed}
use Rattle.world.specs.Worlds.{World, server, lives, with_link, with_connection, where_home_lives}
use Rattle.world.specs.Calls.{CallId, begun_call, reply_to}
use Rattle.node.proofs.Lists.{Begins, get_front}
use Rattle.world.proofs.trace.Traces.{Traced, log, issued_by, reconnected, unlinked, failing}
use Rattle.world.proofs.trace.Layers.{Later, Framed}
use Rattle.world.proofs.trace.Moves.{Move, Does, Comes, Starts, Works, Hands, Takes, Fails, moved, IsMove}
use Rattle.world.proofs.trace.WorldLaws.{Changes}
use Rattle.world.proofs.trace.IdLaws.{has-union, living_parts}
use Rattle.world.proofs.trace.LaterLaws.{later_same, later_done}
use Rattle.world.proofs.trace.ChangeLaws.{connection_reconnected}

-- ---- calls and replies by their names

-- a begun call stands at its ordinal among the calls of its connection
pub call_stands : (w : World) (x : CallId) (call : Call)
    → begun_call w x ≡ Some call
    → (k : Connection) × (slice_get w.connections x.connection ≡ Some k) × (slice_get k.calls x.ordinal ≡ Some call)
call_stands w x call h = option_and_then_some (λ (k : Connection). slice_get k.calls x.ordinal)
    (slice_get w.connections x.connection) call h (λ k e g. (k, e, g))

-- what stands among the calls of a connection is a begun call
pub call_found : (w : World) (x : CallId) (k : Connection) (call : Call)
    → slice_get w.connections x.connection ≡ Some k
    → slice_get k.calls x.ordinal ≡ Some call
    → begun_call w x ≡ Some call
call_found w x k call e h = rw e h

-- the reply to a call stands at the call's ordinal among the replies of its connection
pub reply_stands : (w : World) (x : CallId) (reply : Reply)
    → reply_to w x ≡ Some reply
    → (k : Connection) × (slice_get w.connections x.connection ≡ Some k) × (slice_get k.replies x.ordinal ≡ Some reply)
reply_stands w x reply h = option_and_then_some (λ (k : Connection). slice_get k.replies x.ordinal)
    (slice_get w.connections x.connection) reply h (λ k e g. (k, e, g))

-- what stands among the replies of a connection is the reply to the call of this ordinal
pub reply_found : (w : World) (x : CallId) (k : Connection) (reply : Reply)
    → slice_get w.connections x.connection ≡ Some k
    → slice_get k.replies x.ordinal ≡ Some reply
    → reply_to w x ≡ Some reply
reply_found w x k reply e h = rw e h

-- ---- a connection's changes

-- its home stays, and its calls and replies only grow
pub record Kept (k l : Connection) : Type 0 where
  pub home : l.home ≡ k.home
  pub calls : Begins k.calls l.calls
  pub replies : Begins k.replies l.replies

-- a connection that doesn't change keeps its home, calls and replies
pub kept_same : (k : Connection) → Kept k k
kept_same k = record { home = refl; calls = λ n x h. h; replies = λ n x h. h }

-- bytes that come leave a connection's home, calls and replies as they are
pub kept_came : (bytes : List ℕ) (k : Connection) → Kept k (came bytes k)
kept_came bytes k = record { home = refl; calls = λ n x h. h; replies = λ n x h. h }

-- whatever turn a session gives next, home and replies stay, and calls only grow
pub kept_by : (given : Given) (k : Connection) → Kept k (begun_by given k)
kept_by (None, left) k = record { home = refl; calls = λ n x h. h; replies = λ n x h. h }
kept_by (Some (Faulty fault), left) k = record { home = refl; calls = λ n x h. h; replies = λ n x h. h }
kept_by (Some (Calls call form), left) k =
    record { home = refl; calls = λ n x h. get_front k.calls (call ∷ []) n x h; replies = λ n x h. h }

-- a begin leaves home and replies as they are, and calls only grow
pub kept_begun : (stage : Stage) (k : Connection) → Kept k (begun stage k)
kept_begun Idle k = kept_by (past_faults k.session) k
kept_begun Begun k = kept_same k
kept_begun Asked k = kept_same k
kept_begun (Replied reply) k = kept_same k

-- a call that goes to its server leaves home, calls and replies as they are
pub kept_asked : (k : Connection) → Kept k (asked k)
kept_asked k = record { home = refl; calls = λ n x h. h; replies = λ n x h. h }

-- a hand leaves home and calls as they are, and replies only grow
pub kept_handed : (stage : Stage) (k : Connection) → Kept k (handed stage k)
kept_handed Idle k = kept_same k
kept_handed Begun k = kept_same k
kept_handed Asked k = kept_same k
kept_handed (Replied reply) k =
    record { home = refl; calls = λ n x h. h; replies = λ n x h. get_front k.replies (reply ∷ []) n x h }

-- a change that leaves the home and only adds calls and replies does so also if only living homes change
pub kept_where_home_lives : (w : World) (change : Connection → Connection)
    → ((k : Connection) → Kept k (change k))
    → (k : Connection)
    → Kept k (where_home_lives w change k)
kept_where_home_lives w change f k =
    cond_both (lives w k.home) (change k) k (λ l. Kept k l) (λ t. f k) (λ t. kept_same k)

kept_changed : (c : ℕ) (change : Connection → Connection) (d : ℕ) (k l : Connection)
    → ((k : Connection) → Kept k (change k))
    → Changes c change d k l
    → Kept k l
kept_changed c change d k l f (inl h) = rw h.1 (f k)
kept_changed c change d k l f (inr h) = rw h.1 (kept_same k)

-- what was known is known still after a change of a connection by which calls and replies only grow
pub later_reconnected : (t : Traced) (c : ℕ) (change : Connection → Connection)
    → ((k : Connection) → Kept k (change k))
    → Later t (reconnected t c change)
unfolding reconnected with_connection server log issued_by
later_reconnected t c change f =
    let same = later_same t in
    record {
      count = refl;
      failed = λ k h. h;
      views = same.views;
      acks = same.acks;
      ids = same.ids;
      asks = same.asks;
      logs = same.logs;
      issued = same.issued;
      committed = λ k x h. h;
      reads = λ k x h. h;
      calls = λ x call h. (let at = call_stands t.world x call h in
          let new = connection_reconnected t c change x.connection at.0 at.1 in
          call_found (reconnected t c change).world x new.0 call new.1
          ((kept_changed c change x.connection at.0 new.0 f new.2).calls x.ordinal call at.2));
      replies = λ x reply h. (let at = reply_stands t.world x reply h in
          let new = connection_reconnected t c change x.connection at.0 at.1 in
          reply_found (reconnected t c change).world x new.0 reply new.1
          ((kept_changed c change x.connection at.0 new.0 f new.2).replies x.ordinal reply at.2));
    }

-- ---- links and failures

-- what was known is known still after a message was taken off a link
pub later_unlinked : (t : Traced) (i j : ℕ) (ms : List Peer) → Later t (unlinked t i j ms)
unfolding unlinked with_link server log issued_by
later_unlinked t i j ms =
    let same = later_same t in
    record {
      count = refl;
      failed = λ k h. h;
      views = same.views;
      acks = same.acks;
      ids = same.ids;
      asks = same.asks;
      logs = same.logs;
      issued = same.issued;
      committed = λ k x h. h;
      reads = λ k x h. h;
      calls = λ x call h. h;
      replies = λ x reply h. h;
    }

-- what was known is known still after a failure, if the committed entries only grow by it
pub later_failing : (t : Traced) (i : ℕ) → Begins t.committed (failing t i).committed → Later t (failing t i)
unfolding failing server log issued_by
later_failing t i c =
    let same = later_same t in
    record {
      count = refl;
      failed = λ k h. rw (has-union t.world.failed (single i) k) (or_left _ _ h);
      views = same.views;
      acks = same.acks;
      ids = same.ids;
      asks = same.asks;
      logs = same.logs;
      issued = same.issued;
      committed = c;
      reads = λ k x h. h;
      calls = λ x call h. h;
      replies = λ x reply h. h;
    }

-- ---- all moves

-- what was known is known still after a move, if the committed entries only grow by it
pub later_moved : (t : Traced) (m : Move)
    → IsMove t m
    → Framed t
    → Begins t.committed (moved t m).committed
    → Later t (moved t m)
later_moved t (Does i cause a) g f c = later_done t i cause a f (living_parts t.world i g.lives).0 g.guard c
later_moved t (Comes c bytes) g f b =
    later_reconnected t c _ (kept_where_home_lives t.world (came bytes) (kept_came bytes))
later_moved t (Starts c) g f b =
    later_reconnected t c _ (kept_where_home_lives t.world (λ k. begun k.stage k) (λ k. kept_begun k.stage k))
later_moved t (Works c) g f b = later_reconnected t c asked kept_asked
later_moved t (Hands c) g f b =
    later_reconnected t c _ (kept_where_home_lives t.world (λ k. handed k.stage k) (λ k. kept_handed k.stage k))
later_moved t (Takes i j ms) g f c = later_unlinked t i j ms
later_moved t (Fails i) g f c = later_failing t i c
