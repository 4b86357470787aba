use Rattle.craq_server.proofs.Carrying.{carry_all, carry_then}
use Rattle.craq_server.proofs.server_links.confirm.Goals as goal

pub returns : goal.returns
returns g c =
    carry_then c.args.links.now c.confirm_at.new.self c.disconnect.new.links
    (carry_all c.args.links.now c.confirm_at.new.self c.confirm_at.ensures.list c.confirm_at.ensures.given
    c.confirm_at.ensures.failures) c.disconnect.ensures
