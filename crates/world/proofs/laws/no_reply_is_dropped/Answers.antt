use Rattle.world.proofs.shown.Awaiting.{works_awaited, delivers_awaited, tells_awaited}
use Rattle.world.proofs.laws.no_reply_is_dropped.Goals as goal

-- each reply that is put out when a call goes to its server is awaited
pub returns-clause-work : goal.returns-clause-work
returns-clause-work c count homes events few = works_awaited count homes events few

-- each reply that is put out at a delivery is awaited
pub returns-clause-deliver : goal.returns-clause-deliver
returns-clause-deliver c count homes events few = delivers_awaited count homes events few

-- each reply that is put out at the news of a failure is awaited
pub returns-clause-tell : goal.returns-clause-tell
returns-clause-tell c count homes events few = tells_awaited count homes events few
