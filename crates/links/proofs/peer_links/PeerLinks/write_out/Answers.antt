use Rattle.std.proofs.Common.{length}
use Rattle.links.proofs.Writing.{same_down, same_put}
use Rattle.links.proofs.peer_links.PeerLinks.write_out.Goals as goal

pub returns-clause-given : goal.returns-clause-given
returns-clause-given g c = λ j.
    let links = c.args.self.now.links.items in
    same_put g.W.LinkSink.taken (length links) links c.write_each.new.links.items j c.write_each.ensures.written

pub returns-clause-failures : goal.returns-clause-failures
returns-clause-failures g c = λ j.
    let links = c.args.self.now.links.items in
    same_down g.W.LinkSink.taken (length links) links c.write_each.new.links.items j c.write_each.ensures.written
