use Rattle.wire.proofs.StreamLaws.{bad_is_final}
use Rattle.wire.proofs.laws.bad_front_is_final.Goals as goal

-- at a bad front no frame is read, whatever bytes follow
pub returns : goal.returns
returns c = bad_is_final
