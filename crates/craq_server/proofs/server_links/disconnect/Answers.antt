use Rattle.craq_server.proofs.Carrying.{carry_all}
use Rattle.craq_server.proofs.server_links.disconnect.Goals as goal

pub returns-then-has_ended : goal.returns-then-has_ended
returns-then-has_ended g c =
    carry_all c.args.links.now c.disconnect_at.new.self c.disconnect_at.ensures.list c.disconnect_at.ensures.given
    c.disconnect_at.ensures.failures
