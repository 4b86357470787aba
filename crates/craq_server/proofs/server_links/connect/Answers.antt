use Rattle.craq_server.proofs.Carrying.{carry_all}
use Rattle.craq_server.proofs.server_links.connect.Goals as goal

pub returns : goal.returns
returns g c =
    carry_all c.args.links.now c.connect_at.new.self c.connect_at.ensures.list c.connect_at.ensures.given
    c.connect_at.ensures.failures
