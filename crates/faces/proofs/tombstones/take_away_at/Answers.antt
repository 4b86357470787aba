use Rattle.std.proofs.Common.{sym, ◌∙◌}
use Rattle.faces.proofs.tombstones.take_away_at.Goals as goal

pub returns-then-is_to_go : goal.returns-then-is_to_go
returns-then-is_to_go c = rw (sym c.is_to_go.ensures ∙ c.if-is_to_go.true) c.remove.ensures
