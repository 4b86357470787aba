use Rattle.std.proofs.Common.{◌∙◌, ap, refl}
use Rattle.links.specs.PeerLinks.{confirmed, failures_at, given_at}
use Rattle.links.proofs.PeerLinked.{none_fails, same_given, whichever}
use Rattle.links.proofs.peer_links.PeerLinks.confirm_at.Goals as goal

pub returns-clause-given : goal.returns-clause-given
returns-clause-given g c = λ k.
    whichever c.confirm_of.result c.confirm_of.ensures.confirmed c.confirm_of.ensures.stays
    (λ is. ap (λ ls. given_at ls k) is
    ∙ same_given (confirmed c.args.count) (λ x. refl) c.args.self.now.links.items c.args.j k)
    (λ is. ap (λ ls. given_at ls k) is)

pub returns-clause-failures : goal.returns-clause-failures
returns-clause-failures g c = λ k.
    whichever c.confirm_of.result c.confirm_of.ensures.confirmed c.confirm_of.ensures.stays
    (λ is. ap (λ ls. failures_at ls k) is
    ∙ none_fails (confirmed c.args.count) (λ x. refl) c.args.self.now.links.items c.args.j k)
    (λ is. ap (λ ls. failures_at ls k) is)
