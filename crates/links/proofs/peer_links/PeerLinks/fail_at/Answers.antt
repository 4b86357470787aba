use Rattle.std.proofs.Common.{◌∙◌, ◌<◌, ap, subst, sym}
use Rattle.links.specs.PeerLinks.{ended, failures_at, given_at}
use Rattle.links.proofs.PeerLinked.{ended_is_down, given_to_others, others_stay}
use Rattle.links.proofs.peer_links.PeerLinks.fail_at.Goals as goal

pub returns-clause-down : goal.returns-clause-down
returns-clause-down g c =
    subst (λ ls. 0 < failures_at ls c.args.j) (sym c.give_up.ensures)
    (ended_is_down c.args.self.now.links.items c.args.j)

pub returns-clause-given : goal.returns-clause-given
returns-clause-given g c = λ k other.
    ap (λ ls. given_at ls k) c.give_up.ensures
    ∙ given_to_others ended c.args.self.now.links.items c.args.j k other

pub returns-clause-failures : goal.returns-clause-failures
returns-clause-failures g c = λ k other.
    ap (λ ls. failures_at ls k) c.give_up.ensures
    ∙ others_stay ended c.args.self.now.links.items c.args.j k other
