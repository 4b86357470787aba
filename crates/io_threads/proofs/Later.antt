-- What a reader has seen grows.
use Rattle.std.proofs.Common.{◌∙◌, refl}
use Rattle.faces.specs.Histories.{History, IsLater}
use Rattle.faces.proofs.Beginnings.{prefix_self, prefix_trans}

pub later_same : (c : History) → IsLater c c
later_same c = record { instance = refl; inputs = prefix_self c.inputs }

-- what is later than a later history is later
pub later_then : (first second third : History) → IsLater first second → IsLater second third → IsLater first third
later_then first second third p q =
    record { instance = q.instance ∙ p.instance; inputs = prefix_trans _ _ _ p.inputs q.inputs }

-- what a goal on what was seen may need
pub ruleset seeing = (later_same, later_then)
