use Rattle.std.proofs.Common.{◌≡◌, sym, ◌∙◌, true}
use Rattle.std.proofs.lemmas.Result.{IfOk-weaker}
use Rattle.world.specs.Worlds.{lives, has_failed}
use Rattle.world.proofs.failures.Losses.{told_comes}
use Rattle.world.proofs.worlds.World.tell.Goals as goal

-- a living server that is told of a failed one takes the notice, or is lost
pub returns-then-has_failed-clause-ok : goal.returns-then-has_failed-clause-ok
returns-then-has_failed-clause-ok c =
    let alive : lives c.args.self.now c.args.i ≡ true = sym c.lives.ensures.lives ∙ c.if-lives.true in
    let gone : has_failed c.args.self.now c.args.j ≡ true = sym c.has_failed.ensures.failed ∙ c.if-has_failed.true in
    IfOk-weaker c.take.result _ _ (λ r. told_comes c.args.self.now c.args.i c.args.j alive gone r c.take.new.self)
    c.take.ensures.ok
