use Rattle.std.proofs.Common.{◌∙◌, ap, refl}
use Rattle.links.specs.PeerLinks.{connected, disconnected, failures_at, given_at}
use Rattle.links.proofs.PeerLinked.{none_fails, same_given, whichever}
use Rattle.links.proofs.peer_links.PeerLinks.connect_at.Goals as goal

pub returns-clause-given : goal.returns-clause-given
returns-clause-given g c = λ k.
    let links = c.args.self.now.links.items in
    whichever c.connect_to.result c.connect_to.ensures.connected c.connect_to.ensures.refused
    (λ is. ap (λ ls. given_at ls k) is
    ∙ same_given (connected c.args.sink c.args.count) (λ x. refl) links c.args.j k)
    (λ is. ap (λ ls. given_at ls k) is ∙ same_given disconnected (λ x. refl) links c.args.j k)

pub returns-clause-failures : goal.returns-clause-failures
returns-clause-failures g c = λ k.
    let links = c.args.self.now.links.items in
    whichever c.connect_to.result c.connect_to.ensures.connected c.connect_to.ensures.refused
    (λ is. ap (λ ls. failures_at ls k) is
    ∙ none_fails (connected c.args.sink c.args.count) (λ x. refl) links c.args.j k)
    (λ is. ap (λ ls. failures_at ls k) is ∙ none_fails disconnected (λ x. refl) links c.args.j k)
