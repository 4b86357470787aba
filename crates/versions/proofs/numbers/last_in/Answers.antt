use Rattle.std.proofs.Common.{◌∙◌}
use Rattle.versions.proofs.Lists.{last_of-back}
use Rattle.versions.proofs.numbers.last_in.Goals as goal

-- the back of a queue is the last of its numbers
pub returns : goal.returns
returns c =
    let queue = c.args.queue.now in
    c.copied.ensures ∙ last_of-back queue.items queue.len c.back.result queue.ok.0 c.back.ensures.variant
    c.back.ensures.lookup
