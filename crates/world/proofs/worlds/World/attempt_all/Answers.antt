use Rattle.std.proofs.Common.{◌≡◌, ℕ, Vec, Global, sym, ap, ◌∙◌}
use Rattle.world.proofs.failures.FailingRuns.{noted, one_more}
use Rattle.world.proofs.worlds.World.attempt_all.Goals as goal
use Rattle.world.proofs.worlds.World.attempt_all.Goals.{in-Some+in_ok-push, in_default}

-- one event more has happened, or was refused
pub loop-ordinal-preserved : goal.loop-ordinal-preserved
loop-ordinal-preserved c =
    let so_far = c.loop-ordinal.refused.items in
    let found = c.in_ok-server.field-0 in
    let one : c.match-branch-2.refused.items ≡ noted c.loop-ordinal.ordinal so_far found =
    elim c.match-branch-2.branch [
      | in-Some+in_ok-push w ↦ ap (λ (v : Vec (ℕ × ℕ) Global). v.items) w.refused-is ∙ w.in_ok-push.ensures.items
          ∙ ap (noted c.loop-ordinal.ordinal so_far) (sym w.in-Some.is)
      | in_default w ↦ ap (λ (v : Vec (ℕ × ℕ) Global). v.items) w.refused-is
          ∙ ap (noted c.loop-ordinal.ordinal so_far) (sym w.in_default.is)
    ]
    in
    one_more c.args.self.now c.args.events.now c.loop-ordinal.ordinal c.index-events-ordinal.result so_far
    c.match-branch-2.refused.items c.loop-ordinal.self c.attempt.new.self found
    c.loop-ordinal-test.true c.index-events-ordinal.is c.loop-ordinal.invariant c.in_ok-server.ensures.ok one
