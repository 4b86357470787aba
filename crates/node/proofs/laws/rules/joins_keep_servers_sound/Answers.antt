use Rattle.node.proofs.RuleLaws.{good-join, good-received, good-taken_in}
use Rattle.node.proofs.StoreChanges.{clean_at_last}
use Rattle.node.proofs.Neighbours.{to_head, to_tail}
use Rattle.node.proofs.laws.rules.joins_keep_servers_sound.Goals as goal

-- a join keeps a server sound, and settled if it is the tail
pub returns-clause-join : goal.returns-clause-join
returns-clause-join c s v below out h settled =
    let g = good-join s v below out (record { sound = h; settled = settled }) in (g.sound, g.settled)

-- a message's body keeps a server sound, and settled if it is the tail
pub returns-clause-received : goal.returns-clause-received
returns-clause-received c s i body low fit valid h settled =
    let g = good-received s i body low fit valid (record { sound = h; settled = settled }) in (g.sound, g.settled)

-- an input keeps a server sound, and settled if it is the tail, before the floor follows
pub returns-clause-taken_in : goal.returns-clause-taken_in
returns-clause-taken_in c s input fit valid h settled =
    let g = good-taken_in s input fit valid (record { sound = h; settled = settled }) in (g.sound, g.settled)

-- who has acknowledged everything has only clean keys
pub returns-clause-clean : goal.returns-clause-clean
returns-clause-clean c = clean_at_last

-- who isn't the head takes another server of the chain for it
pub returns-clause-other_head : goal.returns-clause-other_head
returns-clause-other_head c = to_head

-- who isn't the tail takes another server of the chain for it
pub returns-clause-other_tail : goal.returns-clause-other_tail
returns-clause-other_tail c = to_tail
