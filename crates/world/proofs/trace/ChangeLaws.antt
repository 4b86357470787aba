-- What is left of a traced world if a connection changes, a link loses its first message, or a server fails.
use Rattle.std.proofs.Common.{◌≡◌, ℕ, suc, List, ◌∷◌, Some, None, refl, inl, inr}
use Rattle.std.specs.Prelude.{slice_get}
use Rattle.node.specs.declared.messages.Peer.{Peer}
use Rattle.node.specs.Views.{union, single}
use Rattle.world.specs.Connections.{Connection}
use Rattle.world.specs.Worlds.{server, link, lives, with_link, with_connection}
use Rattle.node.proofs.Lists.{In}
use Rattle.world.proofs.trace.WorldLaws.{link_cases, Changes, changed_one, unchanged_one}
use Rattle.world.proofs.trace.Traces.{Traced, log, issued_by, count, last_living, reconnected, unlinked, failing}

-- ---- a connection changes

-- a changed connection leaves the count of servers as it is
pub count_reconnected : (t : Traced) (c : ℕ) (change : Connection → Connection)
    → count (reconnected t c change) ≡ count t
unfolding reconnected with_connection
count_reconnected t c change = refl

-- a changed connection fails no server
pub failed_reconnected : (t : Traced) (c : ℕ) (change : Connection → Connection)
    → (reconnected t c change).world.failed ≡ t.world.failed
unfolding reconnected with_connection
failed_reconnected t c change = refl

-- the same servers live after a connection changed
pub lives_reconnected : (t : Traced) (c : ℕ) (change : Connection → Connection) (k : ℕ)
    → lives (reconnected t c change).world k ≡ lives t.world k
unfolding reconnected with_connection
lives_reconnected t c change k = refl

-- a changed connection leaves each server as it is
pub server_reconnected : (t : Traced) (c : ℕ) (change : Connection → Connection) (k : ℕ)
    → server (reconnected t c change).world k ≡ server t.world k
unfolding reconnected with_connection server
server_reconnected t c change k = refl

-- a changed connection leaves each link as it is
pub link_reconnected : (t : Traced) (c : ℕ) (change : Connection → Connection) (x y : ℕ)
    → link (reconnected t c change).world x y ≡ link t.world x y
unfolding reconnected with_connection link
link_reconnected t c change x y = refl

-- a changed connection leaves each log as it is
pub log_reconnected : (t : Traced) (c : ℕ) (change : Connection → Connection) (k : ℕ)
    → log (reconnected t c change) k ≡ log t k
unfolding reconnected with_connection log
log_reconnected t c change k = refl

-- a changed connection leaves each server's issued updates as they are
pub issued_reconnected : (t : Traced) (c : ℕ) (change : Connection → Connection) (k : ℕ)
    → issued_by (reconnected t c change) k ≡ issued_by t k
unfolding reconnected with_connection issued_by
issued_reconnected t c change k = refl

-- a changed connection leaves the answered reads as they are
pub reads_reconnected : (t : Traced) (c : ℕ) (change : Connection → Connection)
    → (reconnected t c change).reads ≡ t.reads
unfolding reconnected with_connection
reads_reconnected t c change = refl

-- a changed connection leaves the committed entries as they are
pub committed_reconnected : (t : Traced) (c : ℕ) (change : Connection → Connection)
    → (reconnected t c change).committed ≡ t.committed
unfolding reconnected with_connection
committed_reconnected t c change = refl

-- a connection is still there after one of them changed, with the change or without
pub connection_reconnected : (t : Traced) (c : ℕ) (change : Connection → Connection) (d : ℕ) (k : Connection)
    → slice_get t.world.connections d ≡ Some k
    → (k' : Connection) × (slice_get (reconnected t c change).world.connections d ≡ Some k') × Changes c change d k k'
unfolding reconnected with_connection
connection_reconnected t c change d k h = changed_one t.world.connections c change d k h

-- a connection that is there after one of them changed was there before it
pub connection_unchanged : (t : Traced) (c : ℕ) (change : Connection → Connection) (d : ℕ) (k' : Connection)
    → slice_get (reconnected t c change).world.connections d ≡ Some k'
    → (k : Connection) × (slice_get t.world.connections d ≡ Some k) × Changes c change d k k'
unfolding reconnected with_connection
connection_unchanged t c change d k' h = unchanged_one t.world.connections c change d k' h

-- ---- a message is taken off

-- a message taken off a link leaves the count of servers as it is
pub count_unlinked : (t : Traced) (i j : ℕ) (ms : List Peer) → count (unlinked t i j ms) ≡ count t
unfolding unlinked with_link
count_unlinked t i j ms = refl

-- a message taken off a link fails no server
pub failed_unlinked : (t : Traced) (i j : ℕ) (ms : List Peer) → (unlinked t i j ms).world.failed ≡ t.world.failed
unfolding unlinked with_link
failed_unlinked t i j ms = refl

-- the same servers live after a message was taken off a link
pub lives_unlinked : (t : Traced) (i j : ℕ) (ms : List Peer) (k : ℕ)
    → lives (unlinked t i j ms).world k ≡ lives t.world k
unfolding unlinked with_link
lives_unlinked t i j ms k = refl

-- a message taken off a link leaves each server as it is
pub server_unlinked : (t : Traced) (i j : ℕ) (ms : List Peer) (k : ℕ)
    → server (unlinked t i j ms).world k ≡ server t.world k
unfolding unlinked with_link server
server_unlinked t i j ms k = refl

-- what is on a link after a message was taken off one was there before
pub link_unlinked : (t : Traced) (i j : ℕ) (m : Peer) (ms : List Peer)
    → link t.world i j ≡ m ∷ ms
    → (x y : ℕ) (n : Peer)
    → In n (link (unlinked t i j ms).world x y)
    → In n (link t.world x y)
unfolding unlinked
link_unlinked t i j m ms e x y n h =
    elim (link_cases t.world i j x y ms) [
      | inl c ↦ rw (c.0, c.1, e) (let g = rw c.2 at h in (suc g.0, g.1))
      | inr c ↦ rw c at h
    ]

-- a message taken off a link leaves each log as it is
pub log_unlinked : (t : Traced) (i j : ℕ) (ms : List Peer) (k : ℕ) → log (unlinked t i j ms) k ≡ log t k
unfolding unlinked with_link log
log_unlinked t i j ms k = refl

-- a message taken off a link leaves each server's issued updates as they are
pub issued_unlinked : (t : Traced) (i j : ℕ) (ms : List Peer) (k : ℕ) → issued_by (unlinked t i j ms) k ≡ issued_by t k
unfolding unlinked with_link issued_by
issued_unlinked t i j ms k = refl

-- a message taken off a link leaves the answered reads as they are
pub reads_unlinked : (t : Traced) (i j : ℕ) (ms : List Peer) → (unlinked t i j ms).reads ≡ t.reads
unfolding unlinked with_link
reads_unlinked t i j ms = refl

-- a message taken off a link leaves the committed entries as they are
pub committed_unlinked : (t : Traced) (i j : ℕ) (ms : List Peer) → (unlinked t i j ms).committed ≡ t.committed
unfolding unlinked with_link
committed_unlinked t i j ms = refl

-- a message taken off a link leaves the connections as they are
pub connections_unlinked : (t : Traced) (i j : ℕ) (ms : List Peer)
    → (unlinked t i j ms).world.connections ≡ t.world.connections
unfolding unlinked with_link
connections_unlinked t i j ms = refl

-- ---- server i fails

-- a failure leaves the count of servers as it is
pub count_failing : (t : Traced) (i : ℕ) → count (failing t i) ≡ count t
unfolding failing
count_failing t i = refl

-- the failed servers after a failure are those before it and the one that fails
pub failed_failing : (t : Traced) (i : ℕ) → (failing t i).world.failed ≡ union t.world.failed (single i)
unfolding failing
failed_failing t i = refl

-- a failure leaves each server's state as it is
pub server_failing : (t : Traced) (i k : ℕ) → server (failing t i).world k ≡ server t.world k
unfolding failing server
server_failing t i k = refl

-- a failure leaves each link as it is
pub link_failing : (t : Traced) (i x y : ℕ) → link (failing t i).world x y ≡ link t.world x y
unfolding failing link
link_failing t i x y = refl

-- a failure leaves each log as it is
pub log_failing : (t : Traced) (i k : ℕ) → log (failing t i) k ≡ log t k
unfolding failing log
log_failing t i k = refl

-- a failure leaves each server's issued updates as they are
pub issued_failing : (t : Traced) (i k : ℕ) → issued_by (failing t i) k ≡ issued_by t k
unfolding failing issued_by
issued_failing t i k = refl

-- a failure leaves the answered reads as they are
pub reads_failing : (t : Traced) (i : ℕ) → (failing t i).reads ≡ t.reads
unfolding failing
reads_failing t i = refl

-- a failure leaves the connections as they are
pub connections_failing : (t : Traced) (i : ℕ) → (failing t i).world.connections ≡ t.world.connections
unfolding failing
connections_failing t i = refl

-- after a failure the committed entries are the log of the last server that lives still
pub committed_failing : (t : Traced) (i k : ℕ)
    → last_living (failing t i).world ≡ Some k
    → (failing t i).committed ≡ log t k
unfolding failing log
committed_failing t i k h = rw h refl

-- if none lives after a failure, the committed entries are what they were
pub committed_left : (t : Traced) (i : ℕ)
    → last_living (failing t i).world ≡ None
    → (failing t i).committed ≡ t.committed
unfolding failing
committed_left t i h = rw h refl
