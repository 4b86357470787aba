-- With the step of `node`, and with a join as ever, the worlds whose step is an argument are the ordinary ones.
use Rattle.std.proofs.Common.{◌≡◌, ℕ, List, [], ◌∷◌, Option, None, Some, refl, ap, ◌∙◌}
use Rattle.std.specs.Prelude.{slice_get}
use Rattle.table.specs.declared.operations.Call.{Call}
use Rattle.node.specs.declared.messages.Peer.{Peer}
use Rattle.node.specs.declared.messages.Input.{Input}
use Rattle.node.specs.declared.messages.Input.TheVariants.{Call as Called, From, Gone}
use Rattle.node.specs.Servers.{ServerState}
use Rattle.node.specs.Steps.{step}
use Rattle.world.specs.declared.events.Event.{Event}
use Rattle.world.specs.declared.events.Event.TheVariants.{Piece, Begin, Work, Deliver, Fail, Tell, Hand}
use Rattle.world.specs.Connections.{Connection, to_work}
use Rattle.world.specs.Worlds.{World, link, sent_in, worked, delivered, happens, run_from, run_of, opening_world}
use Rattle.world.specs.OtherSteps.{sent_in_by, worked_by, delivered_by, happens_by, run_from_by, run_by}
use Rattle.world.specs.WrongSteps.{as_ever, step_by}

-- a server that joins as ever takes the ordinary step
pub steps_as_ever : (s : ServerState) (input : Input) → step_by as_ever s input ≡ step s input
steps_as_ever s (Called port asked) = refl
steps_as_ever s (From i peer) = refl
steps_as_ever s (Gone j) = refl

sent_in_as : (w : World) (c home : ℕ) (o : Option Call) → sent_in_by step w c home o ≡ sent_in w c home o
sent_in_as w c home None = refl
sent_in_as w c home (Some call) = refl

worked_as : (w : World) (c : ℕ) (o : Option Connection) → worked_by step w c o ≡ worked w c o
worked_as w c None = refl
worked_as w c (Some k) = rw (sent_in_as w c k.home (to_work k.stage k)) refl

delivered_as : (w : World) (i j : ℕ) (ms : List Peer) → delivered_by step w i j ms ≡ delivered w i j ms
delivered_as w i j [] = refl
delivered_as w i j (m ∷ ms) = refl

happens_as : (w : World) (e : Event) → happens_by step w e ≡ happens w e
happens_as w (Piece c bytes) = refl
happens_as w (Begin c) = refl
happens_as w (Work c) = worked_as w c (slice_get w.connections c)
happens_as w (Deliver i j) = delivered_as w i j (link w i j)
happens_as w (Fail i) = refl
happens_as w (Tell i j) = refl
happens_as w (Hand c) = refl

runs_as : (w : World) (es : List Event) → run_from_by step w es ≡ run_from w es
runs_as w [] = refl
runs_as w (e ∷ es) = ap (λ w. run_from_by step w es) (happens_as w e) ∙ runs_as (happens w e) es

-- with the ordinary step a run is the ordinary one
pub run_as_ever : (count : ℕ) (homes : List ℕ) (events : List Event)
    → run_by step count homes events ≡ run_of count homes events
run_as_ever count homes events = runs_as (opening_world count homes) events
