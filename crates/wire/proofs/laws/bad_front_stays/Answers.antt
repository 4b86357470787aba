use Rattle.std.proofs.Common.{◌++◌}
use Rattle.wire.proofs.FrontLaws.{malformed_from, malformed_stays, malformed_to}
use Rattle.wire.proofs.laws.bad_front_stays.Goals as goal

-- a bad front stays bad, whatever bytes follow
pub returns : goal.returns
returns c = λ bytes more fits m. malformed_from (bytes ++ more) fits (malformed_stays bytes more (malformed_to bytes m))
