use Rattle.rail.proofs.Refusing.{turn_fault, turn_closed, turn_memory, turn_stops}
use Rattle.rail.proofs.Staying.{turn_server}
use Rattle.rail.proofs.workers.Worker.turn.Goals as goal

pub returns-clause-fault : goal.returns-clause-fault
returns-clause-fault g c =
    let l = g.L.Links.state c.args.links.now in
    let done = c.take_turn in
    turn_fault c.args.self.now done.new.self l (g.L.Links.state done.new.links) done.result done.ensures.turn

pub returns-clause-closed : goal.returns-clause-closed
returns-clause-closed g c =
    let l = g.L.Links.state c.args.links.now in
    let done = c.take_turn in
    turn_closed c.args.self.now done.new.self l (g.L.Links.state done.new.links) done.result done.ensures.turn

pub returns-clause-memory : goal.returns-clause-memory
returns-clause-memory g c =
    let l = g.L.Links.state c.args.links.now in
    let done = c.take_turn in
    turn_memory c.args.self.now done.new.self l (g.L.Links.state done.new.links) done.result done.ensures.turn

pub returns-clause-stops : goal.returns-clause-stops
returns-clause-stops g c =
    let l = g.L.Links.state c.args.links.now in
    let done = c.take_turn in
    turn_stops c.args.self.now done.new.self l (g.L.Links.state done.new.links) done.result done.ensures.turn

pub returns-clause-server : goal.returns-clause-server
returns-clause-server g c =
    let l = g.L.Links.state c.args.links.now in
    let done = c.take_turn in
    turn_server c.args.self.now done.new.self l (g.L.Links.state done.new.links) done.result done.ensures.turn
