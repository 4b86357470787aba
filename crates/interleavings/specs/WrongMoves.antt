-- Moves without one rule; all that the rule doesn't bear on are those of `Moves.antt`.
use Rattle.std.specs.Prelude.{ℕ, not, ◌&&◌, nat_lt, List, ◌++◌, drop, Option, None, Some, is_some, if◌then◌else◌}
use Rattle.node.specs.declared.messages.Input.{Input}
use Rattle.node.specs.declared.messages.Input.TheVariants.{Gone}
use Rattle.node.specs.Faces.{face_of, look_at}
use Rattle.node.specs.Servers.{opening}
use Rattle.node.specs.Steps.{step}
use Rattle.interleavings.specs.Chains.{RunningServer, Seat, Chain, with_running, with_channel, Sender, first_of}
use Rattle.interleavings.specs.Chains.{without_first_of}
use Rattle.interleavings.specs.Moves.{Sends, Takes, Publishes, Arrives, Replies, Looks, Notices, is_free, looked}
use Rattle.interleavings.specs.Moves.{brought}
use Rattle.interleavings.specs.Moves.{done}
use Rattle.interleavings.specs.OtherMoves.{Doing}
use Rattle.interleavings.specs.OwnPorts.{sent_from, replying_from}
use Rattle.interleavings.specs.FreePorts.{PortChoice, port_now, with_free_ports}

-- ---- A look may show an older face than the one that stands: here it shows the one with which the server opened.

-- a look at that face, if a look may be made
abbrev pub looking_back : Chain → ℕ → List ℕ → Seat → Chain
looking_back l c key s =
    if is_free s && not (l.servers s.home).stopped
    then looked l c s key (look_at (face_of (opening s.home l.count)) key)
    else l

-- moves with such looks
abbrev pub with_older_looks : Doing
with_older_looks l (Looks c key) = looking_back l c key (l.seats c)
with_older_looks l m = done l m

-- ---- What a step puts out may be put before the step is published: here as soon as its input is taken.

-- a server takes this input of a sender, if there is one, and has its step's outputs left to put
abbrev pub took_early : RunningServer → Sender → Option Input → RunningServer
took_early s sender None = s
took_early s sender (Some input) =
    record s {
      inbox = without_first_of sender s.inbox;
      unpublished = Some input;
      outbox = s.outbox ++ (step s.node input).outputs;
    }

-- one input at a time
abbrev pub taking_early : RunningServer → Sender → RunningServer
taking_early s sender =
    if s.stopped then s else (if is_some s.unpublished then s else took_early s sender (first_of sender s.inbox))

-- the publish itself puts nothing out any more
abbrev pub published_late : RunningServer → Option Input → RunningServer
published_late s None = s
published_late s (Some input) = record s { node = (step s.node input).state; unpublished = None }

-- a server that goes on publishes the step of the input that it took
abbrev pub publishing_late : RunningServer → RunningServer
publishing_late s = if s.stopped then s else published_late s s.unpublished

-- moves with such puts
abbrev pub with_early_puts : Doing
with_early_puts l (Takes i sender) = with_running l i (taking_early (l.servers i) sender)
with_early_puts l (Publishes i) = with_running l i (publishing_late (l.servers i))
with_early_puts l m = done l m

-- ---- The notice that a server has stopped may be brought while it goes on.

-- moves with such notices
abbrev pub with_early_notices : Doing
with_early_notices l (Notices i j) = if nat_lt j l.count then brought l i (Gone j) else l
with_early_notices l m = done l m

-- ---- A channel leaves out a message: the first one is taken off it, and comes nowhere.

-- moves with such channels
abbrev pub with_lossy_channels : Doing
with_lossy_channels l (Arrives i j) = with_channel l i j (drop 1 (l.channels i j))
with_lossy_channels l m = done l m

-- ---- A call may be sent from a port at which another one is open.

-- moves with such calls
abbrev pub with_taken_ports : List ℕ → PortChoice → Doing
with_taken_ports homes ports l (Sends c call) = sent_from (port_now ports l c) l c call (l.seats c)
with_taken_ports homes ports l m = with_free_ports homes ports l m

-- ---- A reply may go to the seat that had its port before.

-- moves with such replies
abbrev pub with_old_holders : List ℕ → PortChoice → Doing
with_old_holders homes ports l (Replies i c) = replying_from (port_now ports l c) l i c (l.seats c)
with_old_holders homes ports l m = with_free_ports homes ports l m
