use Rattle.world.proofs.waiting.NoneForgotten.{none_forgotten}
use Rattle.world.proofs.laws.none_forgotten.Goals as goal

-- in a quiet world each begun call at a living home has a reply
pub returns : goal.returns
returns c count homes events few short quiet x begun lives =
    none_forgotten count homes events few short quiet x begun lives
