use Rattle.std.proofs.Common.{rules, of_calls, ◌<◌, ◌≤◌, ◌∙◌, nat_le, length, take, arith, ap, sym}
use Rattle.std.proofs.lemmas.Fn.{always_returns_same}
use Rattle.versions.specs.Numbers.{last_of}
use Rattle.versions.proofs.Lists.{partitioned-rising, front-from_point, last_of-front}
use Rattle.versions.proofs.numbers.last_up_to_in.Goals as goal

-- the number before the point that the search finds is the last one up to n
pub returns : goal.returns
returns c =
    let queue = c.args.queue.now in
    let after = c.partition_point-after.result in
    let point = c.partition_point-after.ensures.partitioned (λ k. nat_le k c.args.n)
    (always_returns_same _ _ _ (λ a r f k. search (rules, of_calls)))
    (partitioned-rising 0 c.args.n queue.items c.requires.rising) in
    let within : c.partition_point-after.result ≤ length queue.items =
    omega (arith, queue.ok.0, c.partition_point-after.ensures.bound) in
    let some : 0 < c.partition_point-after.result = omega (arith, c.if-after-eq0.false) in
    c.copied.ensures ∙ last_of-front queue.items after c.get.result some within
    (rw (← queue.ok.0) c.get.ensures.variant) c.get.ensures.lookup
    ∙ ap last_of (sym (front-from_point c.args.n queue.items after point within))

-- if the search finds none up to n, there is no last one
pub returns-then-after-eq0 : goal.returns-then-after-eq0
returns-then-after-eq0 c =
    let queue = c.args.queue.now in
    let point = c.partition_point-after.ensures.partitioned (λ k. nat_le k c.args.n)
    (always_returns_same _ _ _ (λ a r f k. search (rules, of_calls)))
    (partitioned-rising 0 c.args.n queue.items c.requires.rising) in
    let within : c.partition_point-after.result ≤ length queue.items =
    omega (arith, queue.ok.0, c.partition_point-after.ensures.bound) in
    sym (ap last_of (front-from_point c.args.n queue.items c.partition_point-after.result point within
    ∙ ap (λ k. take k queue.items) c.if-after-eq0.true))
