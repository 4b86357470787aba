use Rattle.std.proofs.Common.{◌+◌, refl}
use Rattle.versions.proofs.Logs.{log-take, log-drop, log-push}
use Rattle.versions.proofs.laws.parts_are_logs.Goals as goal

-- a beginning of a log is a log
pub returns-clause-take : goal.returns-clause-take
returns-clause-take c = log-take

-- what follows a beginning of a log is a log
pub returns-clause-drop : goal.returns-clause-drop
returns-clause-drop c before n es log = log-drop before n (before + n) es refl log

-- a log with its next entry is a log
pub returns-clause-push : goal.returns-clause-push
returns-clause-push c = log-push
