use Rattle.io_threads.proofs.Dealt.{senders_same}
use Rattle.io_threads.proofs.pools.give.Goals as goal

pub returns-in-Some-clause-senders : goal.returns-in-Some-clause-senders
returns-in-Some-clause-senders c =
    senders_same c.args.pools.now.items c.args.place c.in-Some.pool.now c.add.new.self c.in-Some.ensures.value
    c.add.ensures.unsent
