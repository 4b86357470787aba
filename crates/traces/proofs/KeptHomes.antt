-- No event changes a connection's home.
use Rattle.std.proofs.Common.{◌≡◌, ℕ, zero, suc, ◌&&◌, List, [], ◌∷◌, Option, Some, None, refl, ap, ◌∙◌}
use Rattle.std.specs.Prelude.{map, slice_get}
use Rattle.std.proofs.lemmas.Bool.{cond_both}
use Rattle.std.proofs.lemmas.Option.{same_Some}
use Rattle.table.specs.declared.operations.Call.{Call}
use Rattle.table.specs.declared.operations.Reply.{Reply}
use Rattle.node.specs.declared.messages.Peer.{Peer}
use Rattle.node.specs.declared.messages.Input.{Input}
use Rattle.node.specs.declared.messages.Input.TheVariants.{Call as Called, From, Gone}
use Rattle.node.specs.declared.messages.Output.{Output}
use Rattle.node.specs.declared.messages.Output.TheVariants.{To, Reply as Answered}
use Rattle.node.specs.Steps.{step}
use Rattle.node.specs.Views.{union, single}
use Rattle.proto.specs.Turns.{Faulty, Calls}
use Rattle.proto.specs.Sessions.{Given}
use Rattle.world.specs.declared.connections.Stage.{Stage}
use Rattle.world.specs.declared.connections.Stage.TheVariants.{Idle, Begun, Asked, Replied}
use Rattle.world.specs.declared.events.Event.{Event}
use Rattle.world.specs.declared.events.Event.TheVariants.{Piece, Begin, Work, Deliver, Fail, Tell, Hand}
use Rattle.world.specs.Connections.{Connection, fresh, came, begun_by, past_faults, begun, to_work, open_call, asked}
use Rattle.world.specs.Connections.{may_have, replied, handed, changed_at}
use Rattle.world.specs.Worlds.{World, server, link, with_server, with_link, with_connection, lives, has_failed, put}
use Rattle.world.specs.Worlds.{put_all, takes, where_home_lives, sent_in, worked, delivered, happens, run_from}

-- the homes of connections
abbrev pub homes_of : List Connection → List ℕ
homes_of ks = map (λ k. k.home) ks

-- the home of a connection
pub home_at : (ks : List Connection) (c : ℕ) (k : Connection)
    → slice_get ks c ≡ Some k
    → slice_get (homes_of ks) c ≡ Some k.home
home_at [] zero k here = absurd cc
home_at [] (suc c) k here = absurd cc
home_at (l ∷ ks) zero k here = ap (λ (x : Connection). Some x.home) (same_Some l k here)
home_at (l ∷ ks) (suc c) k here = home_at ks c k here

-- those of connections before any event
pub fresh_homes : (homes : List ℕ) → homes_of (map fresh homes) ≡ homes
fresh_homes [] = refl
fresh_homes (home ∷ homes) = ap (λ hs. home ∷ hs) (fresh_homes homes)

-- a change of one connection that keeps its home keeps all
pub changed_homes : (ks : List Connection) (c : ℕ) (change : Connection → Connection)
    → ((k : Connection) → (change k).home ≡ k.home)
    → homes_of (changed_at ks c change) ≡ homes_of ks
changed_homes [] c change keeps = refl
changed_homes (k ∷ ks) zero change keeps = ap (λ h. h ∷ homes_of ks) (keeps k)
changed_homes (k ∷ ks) (suc c) change keeps = ap (λ hs. k.home ∷ hs) (changed_homes ks c change keeps)

-- the same in a world
pub connection_homes : (w : World) (c : ℕ) (change : Connection → Connection)
    → ((k : Connection) → (change k).home ≡ k.home)
    → homes_of (with_connection w c change).connections ≡ homes_of w.connections
unfolding with_connection
connection_homes w c change keeps = changed_homes w.connections c change keeps

-- a reply that waits keeps the home
pub replied_home : (s : Stage) (reply : Reply) (k : Connection) → (replied s reply k).home ≡ k.home
replied_home Idle reply k = refl
replied_home Begun reply k = refl
replied_home Asked reply k =
    cond_both (may_have (open_call k) reply) (record k { stage = Replied reply }) k
    (λ (l : Connection). l.home ≡ k.home) (λ t. refl) (λ f. refl)
replied_home (Replied first) reply k = refl

begun_by_home : (g : Given) (k : Connection) → (begun_by g k).home ≡ k.home
begun_by_home (None, left) k = refl
begun_by_home (Some (Faulty fault), left) k = refl
begun_by_home (Some (Calls call form), left) k = refl

begun_home : (s : Stage) (k : Connection) → (begun s k).home ≡ k.home
begun_home Idle k = begun_by_home (past_faults k.session) k
begun_home Begun k = refl
begun_home Asked k = refl
begun_home (Replied reply) k = refl

handed_home : (s : Stage) (k : Connection) → (handed s k).home ≡ k.home
handed_home Idle k = refl
handed_home Begun k = refl
handed_home Asked k = refl
handed_home (Replied reply) k = refl

-- at a home that lives or not
there_home : (w : World) (change : Connection → Connection)
    → ((k : Connection) → (change k).home ≡ k.home)
    → (k : Connection)
    → (where_home_lives w change k).home ≡ k.home
there_home w change keeps k =
    cond_both (lives w k.home) (change k) k (λ (l : Connection). l.home ≡ k.home) (λ t. keeps k) (λ f. refl)

put_homes : (w : World) (i : ℕ) (o : Output) → homes_of (put w i o).connections ≡ homes_of w.connections
unfolding with_link
put_homes w i (To j peer) = refl
put_homes w i (Answered c reply) =
    connection_homes w c (λ k. replied k.stage reply k) (λ k. replied_home k.stage reply k)

put_all_homes : (w : World) (i : ℕ) (os : List Output)
    → homes_of (put_all w i os).connections ≡ homes_of w.connections
unfolding put_all
put_all_homes w i [] = refl
put_all_homes w i (o ∷ os) = put_all_homes (put w i o) i os ∙ put_homes w i o

takes_homes : (w : World) (i : ℕ) (input : Input) → homes_of (takes w i input).connections ≡ homes_of w.connections
unfolding with_server
takes_homes w i input =
    put_all_homes (with_server w i (step (server w i) input).state) i (step (server w i) input).outputs

sent_homes : (w : World) (c home : ℕ) (o : Option Call)
    → homes_of (sent_in w c home o).connections ≡ homes_of w.connections
sent_homes w c home None = refl
sent_homes w c home (Some call) =
    takes_homes (with_connection w c asked) home (Called c call) ∙ connection_homes w c asked (λ k. refl)

worked_homes : (w : World) (c : ℕ) (o : Option Connection)
    → homes_of (worked w c o).connections ≡ homes_of w.connections
worked_homes w c None = refl
worked_homes w c (Some k) =
    cond_both (lives w k.home) (sent_in w c k.home (to_work k.stage k)) w
    (λ (v : World). homes_of v.connections ≡ homes_of w.connections)
    (λ t. sent_homes w c k.home (to_work k.stage k)) (λ f. refl)

link_homes : (w : World) (i j : ℕ) (ms : List Peer)
    → homes_of (with_link w i j ms).connections ≡ homes_of w.connections
unfolding with_link
link_homes w i j ms = refl

delivered_homes : (w : World) (i j : ℕ) (ms : List Peer)
    → homes_of (delivered w i j ms).connections ≡ homes_of w.connections
delivered_homes w i j [] = refl
delivered_homes w i j (m ∷ ms) =
    cond_both (lives w j) (takes (with_link w i j ms) j (From i m)) w
    (λ (v : World). homes_of v.connections ≡ homes_of w.connections)
    (λ t. takes_homes (with_link w i j ms) j (From i m) ∙ link_homes w i j ms) (λ f. refl)

happens_homes : (w : World) (e : Event) → homes_of (happens w e).connections ≡ homes_of w.connections
happens_homes w (Piece c bytes) =
    connection_homes w c (where_home_lives w (came bytes)) (there_home w (came bytes) (λ k. refl))
happens_homes w (Begin c) =
    connection_homes w c (where_home_lives w (λ k. begun k.stage k))
    (there_home w (λ k. begun k.stage k) (λ k. begun_home k.stage k))
happens_homes w (Work c) = worked_homes w c (slice_get w.connections c)
happens_homes w (Deliver i j) = delivered_homes w i j (link w i j)
happens_homes w (Fail i) =
    cond_both (lives w i) (record w { failed = union w.failed (single i) }) w
    (λ (v : World). homes_of v.connections ≡ homes_of w.connections) (λ t. refl) (λ f. refl)
happens_homes w (Tell i j) =
    cond_both (lives w i && has_failed w j) (takes w i (Gone j)) w
    (λ (v : World). homes_of v.connections ≡ homes_of w.connections) (λ t. takes_homes w i (Gone j)) (λ f. refl)
happens_homes w (Hand c) =
    connection_homes w c (where_home_lives w (λ k. handed k.stage k))
    (there_home w (λ k. handed k.stage k) (λ k. handed_home k.stage k))

-- a run keeps all homes
pub run_homes : (w : World) (es : List Event) → homes_of (run_from w es).connections ≡ homes_of w.connections
run_homes w [] = refl
run_homes w (e ∷ es) = run_homes (happens w e) es ∙ happens_homes w e
