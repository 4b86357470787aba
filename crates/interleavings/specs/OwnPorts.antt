-- The moves with the ports of the code: each server numbers its own seats from 0 on, so that a seat is a server and a
-- port.
use Rattle.std.specs.Prelude.{ℕ, suc, not, ◌&&◌, ◌==◌, List, [], ◌∷◌, ◌++◌, take, slice_index_or, if◌then◌else◌}
use Rattle.table.specs.declared.operations.Call.{Call}
use Rattle.table.specs.declared.operations.Reply.{Reply}
use Rattle.node.specs.declared.messages.Input.TheVariants.{Call as Called}
use Rattle.interleavings.specs.Chains.{Seat, Chain, with_running, with_seat, replies_to, without_reply}
use Rattle.interleavings.specs.Moves.{Sends, Replies, is_free, brought, done}
use Rattle.interleavings.specs.OtherMoves.{Doing}

-- how many seats are at server i, by the homes of the seats
abbrev pub seats_at : List ℕ → ℕ → ℕ
seats_at [] i = 0
seats_at (home ∷ homes) i = if home == i then suc (seats_at homes i) else seats_at homes i

-- the port of seat c at server i: how many seats before it are at the same server
abbrev pub port_at : List ℕ → ℕ → ℕ → ℕ
port_at homes c i = seats_at (take c homes) i

-- the port of seat c at its own server
abbrev pub own_port : ℕ → List ℕ → ℕ → ℕ
own_port count homes c = port_at homes c (slice_index_or homes c count)

-- a seat that waits for no reply sends this call from its port into its server's inbox
abbrev pub sent_from : ℕ → Chain → ℕ → Call → Seat → Chain
sent_from port l c call s =
    if is_free s then brought (with_seat l c (record s { calls = s.calls ++ call ∷ [] })) s.home (Called port call)
    else l

-- server i puts the first of these replies, which it has left for the port of seat c, into the queue of that seat
abbrev pub reply_put_from : ℕ → Chain → ℕ → ℕ → Seat → List Reply → Chain
reply_put_from port l i c s [] = l
reply_put_from port l i c s (reply ∷ more) =
    with_seat (with_running l i (record (l.servers i) { outbox = without_reply port (l.servers i).outbox })) c
    (record s { queued = s.queued ++ reply ∷ [] })

-- server i puts the first reply that it has left for this port, which is that of seat c, if c is one of its seats
abbrev pub replying_from : ℕ → Chain → ℕ → ℕ → Seat → Chain
replying_from port l i c s =
    if s.home == i && not (l.servers i).stopped
    then reply_put_from port l i c s (replies_to port (l.servers i).outbox)
    else l

-- The moves with these ports. If server i takes an input of seat p, p is a port there.
abbrev pub with_own_ports : List ℕ → Doing
with_own_ports homes l (Sends c call) = sent_from (port_at homes c (l.seats c).home) l c call (l.seats c)
with_own_ports homes l (Replies i c) = replying_from (port_at homes c (l.seats c).home) l i c (l.seats c)
with_own_ports homes l m = done l m
