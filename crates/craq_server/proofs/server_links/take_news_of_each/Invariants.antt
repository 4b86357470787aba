use Rattle.craq_server.specs.Healing.{CarryOn}
use Rattle.craq_server.proofs.server_links.take_news_of_each.Given as goal

abbrev pub invariant-loop-j : goal.invariant-loop-j
invariant-loop-j g l = CarryOn l.fn.links l.links
