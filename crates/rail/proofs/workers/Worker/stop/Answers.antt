use Rattle.std.proofs.Common.{◌≡◌, None, refl, rules}
use Rattle.rail.proofs.Turning.{stopped_worker}
use Rattle.rail.proofs.workers.Worker.stop.Goals as goal

pub invariant_of-self : goal.invariant_of-self
invariant_of-self g c =
    let me = c.self.inside in
    let none : c.take.new.self ≡ None = search rules in
    stopped_worker c.take.new.self me.told me.reply_senders.items _ _ me.told.instance none refl
    (c.close_all.ensures.replies me.told) c.self.invariant.placed c.self.invariant.as_many
    c.close_all.ensures.closed
