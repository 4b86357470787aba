use Rattle.std.proofs.Common.{◌≡◌, sym, ◌∙◌, true}
use Rattle.std.proofs.lemmas.Result.{IfOk-weaker}
use Rattle.world.specs.Worlds.{lives}
use Rattle.world.proofs.bodies.LinkLists.{none_delivered}
use Rattle.world.proofs.failures.Losses.{delivered_comes}
use Rattle.world.proofs.worlds.World.deliver.Goals as goal

-- the first message of the link is given to the server, which takes it or is lost
pub returns-in-Some-clause-ok : goal.returns-in-Some-clause-ok
returns-in-Some-clause-ok c =
    let alive : lives c.args.self.now c.args.j ≡ true = sym c.lives.ensures.lives ∙ c.if-not-lives.false in
    IfOk-weaker c.take.result _ _
    (λ r. delivered_comes _ _ c.self.view_is c.args.i c.args.j c.in-Some.message c.pop.new.self alive
    c.in-Some.ensures.first c.in-Some.ensures.rest r c.take.new.self) c.take.ensures.ok

-- from a link without messages nothing is delivered
pub returns-in-None-clause-ok : goal.returns-in-None-clause-ok
returns-in-None-clause-ok c = none_delivered _ _ c.self.view_is c.args.i c.args.j c.pop.new.self
    c.in-None.ensures.first c.in-None.ensures.rest
