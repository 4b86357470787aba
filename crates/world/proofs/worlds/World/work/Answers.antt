use Rattle.std.proofs.Common.{◌≡◌, sym, ap, ◌∙◌, true, Some, None}
use Rattle.std.specs.Prelude.{slice_get}
use Rattle.world.specs.Connections.{to_work, asked}
use Rattle.world.specs.Worlds.{home_lives}
use Rattle.world.specs.LivingParts.{living_part}
use Rattle.world.proofs.failures.Losses.{read_twice, worked_comes, worked_lost, unworked}
use Rattle.world.proofs.worlds.World.work.Goals as goal

-- the begun call goes to its server, and what that puts out goes its ways
pub returns-in_ok-put_all-in-Ok-clause-ok : goal.returns-in_ok-put_all-in-Ok-clause-ok
returns-in_ok-put_all-in-Ok-clause-ok c =
    let served : home_lives c.args.self.now (slice_get c.args.self.now.connections c.args.c)
    ≡ true = sym c.home_lives.ensures
    ∙ c.if-not-home_lives.false in
    let old = c.index-connection.result.now in
    let call_is : Some c.in-Some.call ≡ to_work old.stage old = sym c.in-Some.is ∙ c.in_ok-call.ensures.call in
    let same = read_twice _ _ c.self.view_is c.args.c c.index_mut.result.now old served c.index_mut.ensures.value
    c.index-connection.ensures in
    let asked_is : c.ask.new.self ≡ asked old = c.ask.ensures ∙ ap asked same in
    c.in_ok-put_all-in-Ok.ensures.ok
    ∙ worked_comes _ _ c.self.view_is c.args.c c.home-home.result old c.ask.new.self c.in-Some.call c.step.new.self
    c.in-Ok.outputs.items served c.index-connection.ensures c.home-home.ensures call_is asked_is
    c.in-Ok.ensures.state c.in-Ok.ensures.outputs

-- if the server's step is refused, the server is lost
pub returns-in-Err-clause-ok : goal.returns-in-Err-clause-ok
returns-in-Err-clause-ok c =
    let served : home_lives c.args.self.now (slice_get c.args.self.now.connections c.args.c)
    ≡ true = sym c.home_lives.ensures
    ∙ c.if-not-home_lives.false in
    let old = c.index-connection.result.now in
    let call_is : Some c.in-Some.call ≡ to_work old.stage old = sym c.in-Some.is ∙ c.in_ok-call.ensures.call in
    let comes = worked_lost _ _ c.self.view_is c.args.c c.home-home.result old c.in-Some.call c.step.new.self served
    c.index-connection.ensures c.home-home.ensures call_is c.in-Err.ensures.err in
    (comes.0, ap living_part c.lose.ensures ∙ comes.1)

-- if no call was begun, nothing happens
pub returns-in_default-clause-ok : goal.returns-in_default-clause-ok
returns-in_default-clause-ok c =
    let served : home_lives c.args.self.now (slice_get c.args.self.now.connections c.args.c)
    ≡ true = sym c.home_lives.ensures
    ∙ c.if-not-home_lives.false in
    let old = c.index-connection.result.now in
    let none : None ≡ to_work old.stage old = sym c.in_default.is ∙ c.in_ok-call.ensures.call in
    unworked _ _ c.self.view_is c.args.c old served c.index-connection.ensures none
