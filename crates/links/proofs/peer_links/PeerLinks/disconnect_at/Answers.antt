use Rattle.std.proofs.Common.{◌∙◌, ap, refl}
use Rattle.links.specs.PeerLinks.{disconnected, failures_at, given_at}
use Rattle.links.proofs.PeerLinked.{none_fails, same_given}
use Rattle.links.proofs.peer_links.PeerLinks.disconnect_at.Goals as goal

pub returns-clause-given : goal.returns-clause-given
returns-clause-given g c = λ k.
    ap (λ ls. given_at ls k) c.disconnect_from.ensures
    ∙ same_given disconnected (λ x. refl) c.args.self.now.links.items c.args.j k

pub returns-clause-failures : goal.returns-clause-failures
returns-clause-failures g c = λ k.
    ap (λ ls. failures_at ls k) c.disconnect_from.ensures
    ∙ none_fails disconnected (λ x. refl) c.args.self.now.links.items c.args.j k
