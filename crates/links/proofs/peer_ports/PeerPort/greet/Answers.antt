-- Who greets is judged by the admission as it stands under the lock.
use Rattle.links.proofs.Greeting.{admitted_there, refused_there}
use Rattle.links.proofs.peer_ports.PeerPort.greet.Goals as goal

pub returns-clause-accepted : goal.returns-clause-accepted
returns-clause-accepted g c =
    admitted_there c.greet_at.result c.args.self.now.host c.deref_mut.result.now c.args.id c.args.opener.now
    c.greet_at.ensures.accepted c.greet_at.ensures.link c.greet_at.ensures.gone

pub returns-clause-refused : goal.returns-clause-refused
returns-clause-refused g c =
    refused_there c.greet_at.result c.args.self.now.host c.deref_mut.result.now c.args.id c.args.opener.now
    c.greet_at.ensures.refused
