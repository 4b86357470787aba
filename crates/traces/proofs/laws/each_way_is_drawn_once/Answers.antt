use Rattle.traces.proofs.WayLaws.{on_each_way}
use Rattle.traces.proofs.laws.each_way_is_drawn_once.Goals as goal

pub returns : goal.returns
returns c = on_each_way
