use Rattle.craq_server.proofs.Carrying.{carry_then}
use Rattle.craq_server.proofs.server_links.take_news_of_each.Goals as goal

pub loop-j-preserved : goal.loop-j-preserved
loop-j-preserved g c =
    carry_then c.args.links.now c.loop-j.links c.take_news-is_kept.new.links c.loop-j.invariant c.take_news-is_kept.ensures
