-- What an event does, one way or another: nothing, a change of a connection, a failure, or a step of a living server.
use Rattle.std.proofs.Common.{◌≡◌, ℕ, ◌&&◌, true, length, List, [], ◌∷◌, Option, None, Some, refl}
use Rattle.std.specs.Prelude.{slice_get}
use Rattle.std.proofs.lemmas.Bool.{cond_both, and_parts}
use Rattle.table.specs.declared.operations.Call.{Call}
use Rattle.node.specs.declared.messages.Peer.{Peer}
use Rattle.node.specs.declared.messages.Input.TheVariants.{Call as Called, From, Gone}
use Rattle.node.specs.Views.{union, single}
use Rattle.world.specs.declared.events.Event.{Event}
use Rattle.world.specs.declared.events.Event.TheVariants.{Piece, Begin, Work, Deliver, Fail, Tell, Hand}
use Rattle.world.specs.declared.connections.Stage.{Stage}
use Rattle.world.specs.declared.connections.Stage.TheVariants.{Idle, Begun, Asked, Replied}
use Rattle.world.specs.Connections.{Connection, came, begun, handed, open_call, to_work, asked}
use Rattle.world.specs.Worlds.{World, server, link, lives, has_failed, takes, with_link, with_connection}
use Rattle.world.specs.Worlds.{where_home_lives, sent_in, worked, delivered, happens}

-- a begun call goes to its server
pub record Working (w u : World) : Type 0 where
  pub c : ℕ
  pub connection : Connection
  pub call : Call
  pub here : slice_get w.connections c ≡ Some connection
  pub lives : lives w connection.home ≡ true
  pub stage : connection.stage ≡ Begun
  pub called : open_call connection ≡ Some call
  pub world : u ≡ takes (with_connection w c asked) connection.home (Called c call)

-- a message reaches a server
pub record Delivering (w u : World) : Type 0 where
  pub i : ℕ
  pub j : ℕ
  pub message : Peer
  pub later : List Peer
  pub first : link w i j ≡ message ∷ later
  pub lives : lives w j ≡ true
  pub world : u ≡ takes (with_link w i j later) j (From i message)

-- a server is told of a failure
pub record Telling (w u : World) : Type 0 where
  pub i : ℕ
  pub j : ℕ
  pub lives : lives w i ≡ true
  pub world : u ≡ takes w i (Gone j)

-- how the world u comes of w by an event
pub data Way (w u : World) : Type 0 where
  Stays : u ≡ w → Way w u
  Comes : (c : ℕ) (bytes : List ℕ) → u ≡ with_connection w c (where_home_lives w (came bytes)) → Way w u
  Starts : (c : ℕ) → u ≡ with_connection w c (where_home_lives w (λ k. begun k.stage k)) → Way w u
  Hands : (c : ℕ) → u ≡ with_connection w c (where_home_lives w (λ k. handed k.stage k)) → Way w u
  Fails : (i : ℕ) → u ≡ record w { failed = union w.failed (single i) } → Way w u
  Works : Working w u → Way w u
  Delivers : Delivering w u → Way w u
  Tells : Telling w u → Way w u

sent_way : (w : World) (c : ℕ) (k : Connection) (stage : Stage)
    → k.stage ≡ stage
    → slice_get w.connections c ≡ Some k
    → lives w k.home ≡ true
    → (o : Option Call)
    → to_work stage k ≡ o
    → Way w (sent_in w c k.home o)
sent_way w c k stage e here alive None is = Stays refl
sent_way w c k Idle e here alive (Some call) is = absurd cc
sent_way w c k Begun e here alive (Some call) is =
    Works (record {
      c = c;
      connection = k;
      call = call;
      here = here;
      lives = alive;
      stage = e;
      called = is;
      world = refl;
    })
sent_way w c k Asked e here alive (Some call) is = absurd cc
sent_way w c k (Replied reply) e here alive (Some call) is = absurd cc

worked_way : (w : World) (c : ℕ) (o : Option Connection) → slice_get w.connections c ≡ o → Way w (worked w c o)
worked_way w c None here = Stays refl
worked_way w c (Some k) here = cond_both (lives w k.home) _ _ (λ (u : World). Way w u)
    (λ t. sent_way w c k k.stage refl here t (to_work k.stage k) refl)
    (λ f. Stays refl)

delivered_way : (w : World) (i j : ℕ) (ms : List Peer) → link w i j ≡ ms → Way w (delivered w i j ms)
delivered_way w i j [] first = Stays refl
delivered_way w i j (m ∷ ms) first = cond_both (lives w j) _ _ (λ (u : World). Way w u)
    (λ t. Delivers (record { i = i; j = j; message = m; later = ms; first = first; lives = t; world = refl }))
    (λ f. Stays refl)

-- each event goes one of these ways
pub way : (w : World) (e : Event) → Way w (happens w e)
way w (Piece c bytes) = Comes c bytes refl
way w (Begin c) = Starts c refl
way w (Work c) = worked_way w c (slice_get w.connections c) refl
way w (Deliver i j) = delivered_way w i j (link w i j) refl
way w (Fail i) = cond_both (lives w i) _ _ (λ (u : World). Way w u) (λ t. Fails i refl) (λ f. Stays refl)
way w (Tell i j) = cond_both (lives w i && has_failed w j) _ _ (λ (u : World). Way w u)
    (λ t. Tells (record { i = i; j = j; lives = (and_parts (lives w i) (has_failed w j) t).0; world = refl }))
    (λ f. Stays refl)
way w (Hand c) = Hands c refl

-- ---- what a change of a connection or of a link leaves of servers

-- a changed connection leaves the servers as they are
pub servers_connected : (w : World) (c : ℕ) (change : Connection → Connection)
    → (length (with_connection w c change).servers ≡ length w.servers)
    × ((x : ℕ) → server (with_connection w c change) x ≡ server w x)
unfolding with_connection server
servers_connected w c change = (refl, λ x. refl)

-- a changed link leaves the servers as they are
pub servers_linked : (w : World) (i j : ℕ) (ms : List Peer)
    → (length (with_link w i j ms).servers ≡ length w.servers) × ((x : ℕ) → server (with_link w i j ms) x ≡ server w x)
unfolding with_link server
servers_linked w i j ms = (refl, λ x. refl)

-- a changed link leaves the connections as they are
pub connections_linked : (w : World) (i j : ℕ) (ms : List Peer) → (with_link w i j ms).connections ≡ w.connections
unfolding with_link
connections_linked w i j ms = refl
