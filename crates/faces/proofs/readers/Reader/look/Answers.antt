use Rattle.std.proofs.Common.{◌≡◌, None, subst, rules}
use Rattle.faces.specs.Readers.{IsPlaceOf}
use Rattle.faces.proofs.readers.Reader.look.Goals as goal

pub unreachable-requires : goal.unreachable-requires
unreachable-requires c =
    let me = c.self.inside in
    let none : me.place ≡ None = search rules in
    subst (λ o. IsPlaceOf o me.log_position.instance) none c.self.invariant

pub returns-clause-looked : goal.returns-clause-looked
returns-clause-looked c = rw (← c.self.view_is, ← c.in-Some.ensures.value) c.look_from-place.ensures.looked

pub returns-clause-once : goal.returns-clause-once
returns-clause-once c = rw (← c.self.view_is, ← c.in-Some.ensures.value) c.look_from-place.ensures.once

pub returns-clause-memory : goal.returns-clause-memory
returns-clause-memory c = rw (← c.self.view_is, ← c.in-Some.ensures.value) c.look_from-place.ensures.memory
