use Rattle.craq_server.proofs.Carrying.{carry_but_one}
use Rattle.craq_server.proofs.server_links.lose.Goals as goal

pub returns-then-is_lost : goal.returns-then-is_lost
returns-then-is_lost g c =
    carry_but_one c.args.links.now c.fail_at.new.self c.args.j c.fail_at.ensures.down c.fail_at.ensures.given
    c.fail_at.ensures.failures c.fail_at.ensures.list
