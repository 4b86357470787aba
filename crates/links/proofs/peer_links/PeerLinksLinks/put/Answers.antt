-- What was put is the message of the snapshot, the receiver and the message, and so is what its link was given.
use Rattle.std.proofs.Common.{◌≡◌, ◌∙◌, ◌<◌, ◌≤◌, ap, subst, sym, inl, [], ◌∷◌, ◌++◌}
use Rattle.wire.specs.Spellings.{spelling}
use Rattle.links.specs.PeerLinks.{changed_at, ended, failures_at, given_at}
use Rattle.links.proofs.PeerLinked.{ended_is_down, given_to_others, none_fewer, others_stay}
use Rattle.links.proofs.peer_links.PeerLinksLinks.put.Goals as goal

pub returns-in-Ok-clause-ok : goal.returns-in-Ok-clause-ok
returns-in-Ok-clause-ok g c =
    let added : c.add.new.self ≡ c.args.self.now.puts ++ c.framed-snapshot.result.0.value ∷ [] =
    c.in-Ok.ensures.ok in
    added ∙ ap (λ m. c.args.self.now.puts ++ m ∷ []) c.framed-snapshot.ensures.snapshot

pub returns-in-Ok-clause-given : goal.returns-in-Ok-clause-given
returns-in-Ok-clause-given g c =
    let before = given_at c.args.self.now.links.items c.args.to in
    c.in_ok-given.ensures.given ∙ ap (λ f. before ++ spelling f) c.framed-snapshot.ensures.frame

pub returns-in-Err-clause-failures : goal.returns-in-Err-clause-failures
returns-in-Err-clause-failures g c = λ j.
    let links = c.put_to-given.new.links.items in
    subst (λ ls. failures_at c.args.self.now.links.items j ≤ failures_at ls j) (sym c.give_up.ensures)
    (subst (λ n. n ≤ failures_at (changed_at ended links c.args.to) j) (c.put_to-given.ensures.failures j)
    (none_fewer links c.args.to j))

pub returns-in-Err-clause-unput : goal.returns-in-Err-clause-unput
returns-in-Err-clause-unput g c =
    inl (subst (λ ls. 0 < failures_at ls c.args.to) (sym c.give_up.ensures)
    (ended_is_down c.put_to-given.new.links.items c.args.to))

pub returns-in-Err-clause-elsewhere : goal.returns-in-Err-clause-elsewhere
returns-in-Err-clause-elsewhere g c = λ j other.
    ap (λ ls. given_at ls j) c.give_up.ensures
    ∙ given_to_others ended c.put_to-given.new.links.items c.args.to j other
    ∙ c.put_to-given.ensures.elsewhere j other

pub returns-in-Err-clause-others : goal.returns-in-Err-clause-others
returns-in-Err-clause-others g c = λ j other.
    ap (λ ls. failures_at ls j) c.give_up.ensures
    ∙ others_stay ended c.put_to-given.new.links.items c.args.to j other
    ∙ c.put_to-given.ensures.failures j
