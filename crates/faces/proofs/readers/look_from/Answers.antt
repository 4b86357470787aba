use Rattle.std.proofs.Common.{◌∙◌, ap, sym, subst}
use Rattle.left_right.specs.Sides.{view}
use Rattle.node.specs.Faces.{FaceState, look_at}
use Rattle.faces.specs.Boards.{IsShownBy}
use Rattle.faces.specs.Readers.{ShowsItem}
use Rattle.faces.specs.Shown.{Shown}
use Rattle.faces.proofs.Looks.{knows_after, found_after, seen_after, looked_after, never_looked, once_looked}
use Rattle.faces.proofs.BoardRuleLaws.{enters}
use Rattle.faces.proofs.readers.look_from.Goals as goal

pub enter_as-requires : goal.enter_as-requires
enter_as-requires c x = enters _ _ x

pub see-found-requires : goal.see-found-requires
see-found-requires c =
    let told = c.in-Ok.ensures.1 in
    record {
      server = ap (λ (z : Shown). z.history.instance) c.get.ensures
          ∙ (sym (told.same c.requires.server.0) ∙ c.requires.server.1);
    }

pub returns-in-Ok-clause-server : goal.returns-in-Ok-clause-server
returns-in-Ok-clause-server c =
    let told = c.in-Ok.ensures.1 in
    knows_after (view c.in-Ok.reading.place) (view c.leave.result.place) c.in-Ok.reading.part.value.history
    c.args.log_position.now c.see-found.new.log_position c.leave.ensures.1 told.server
    (sym (told.same c.requires.server.0) ∙ c.requires.server.1) c.see-found.ensures.later

pub returns-in-Ok-clause-found : goal.returns-in-Ok-clause-found
returns-in-Ok-clause-found c =
    let told = c.in-Ok.ensures.1 in
    found_after c.see-found.result (λ (f : FaceState). look_at f c.args.key.now) c.get.result.now
    c.see-found.new.log_position
    (subst (λ (z : Shown). IsShownBy z) (sym c.get.ensures) told.shown) c.see-found.ensures.found

pub returns-in-Ok-clause-looked : goal.returns-in-Ok-clause-looked
returns-in-Ok-clause-looked c =
    let told = c.in-Ok.ensures.1 in
    looked_after c.see-found.result _ (view c.args.place.place).histories (view c.leave.result.place)
    c.get.result.now.history c.see-found.new.log_position
    (seen_after _ (view c.in-Ok.reading.place) (view c.leave.result.place) c.in-Ok.reading.part.value.history
    c.get.result.now c.leave.ensures.1 told.histories (ap (λ (z : Shown). z.history) c.get.ensures))
    c.see-found.ensures.found

pub returns-in-Ok-clause-once : goal.returns-in-Ok-clause-once
returns-in-Ok-clause-once c =
    let told = c.in-Ok.ensures.1 in
    once_looked (view c.args.place.place).histories (view c.in-Ok.reading.place) (view c.leave.result.place) _
    c.leave.ensures.1 told.histories

pub returns-in-Err-clause-once : goal.returns-in-Err-clause-once
returns-in-Err-clause-once c = never_looked (view c.args.place.place) (view c.in-Err.place.place) c.in-Err.ensures.1

pub returns-in-Ok-clause-memory : goal.returns-in-Ok-clause-memory
returns-in-Ok-clause-memory c =
    λ refused.
    let told = c.in-Ok.ensures.1 in
    let found = c.see-found.ensures.memory refused in
    let shown = subst (λ (z : Shown). IsShownBy z) (sym c.get.ensures) told.shown in (
      c.get.result.now.history,
      seen_after _ (view c.in-Ok.reading.place) (view c.leave.result.place) c.in-Ok.reading.part.value.history
          c.get.result.now c.leave.ensures.1 told.histories (ap (λ (z : Shown). z.history) c.get.ensures),
      found.0,
      subst (λ (f : FaceState). ShowsItem f c.args.key.now) shown found.1,
    )
