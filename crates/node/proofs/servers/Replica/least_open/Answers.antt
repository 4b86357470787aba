use Rattle.std.proofs.Common.{◌≡◌, ◌<◌, length, refl, arith, sym, ap, subst}
use Rattle.node.specs.Servers.{ServerState}
use Rattle.node.specs.Lawful.{AreReads}
use Rattle.node.specs.Steps.{least_open}
use Rattle.node.proofs.SoundLaws.{least_at_front}
use Rattle.node.proofs.servers.Replica.least_open.Goals as goal

-- the first open read has the least lower bound
pub returns-in-Some-clause-least : goal.returns-in-Some-clause-least
returns-in-Some-clause-least c =
    let inside = c.self.inside in
    let reads = subst (λ (s : ServerState). AreReads 0 s.store.floor s.asks s.next_ask s.store.acked)
    (sym c.self.view_is) c.requires.chain.reads in
    let some : 0 < length inside.asks.items = omega (arith, inside.asks.ok.0, c.in-Some.ensures.variant.0 refl) in
    subst (λ (s : ServerState). c.in-Some.read.now.lower_bound ≡ least_open s.store.acked s.asks) c.self.view_is
    (least_at_front 0 inside.store.floor inside.asks.items inside.next_ask inside.store.acked c.in-Some.read.now
    reads some c.in-Some.ensures.lookup).0

-- the lower bound of the first open read is at most the commit number
pub returns-in-Some-clause-high : goal.returns-in-Some-clause-high
returns-in-Some-clause-high c =
    let inside = c.self.inside in
    let reads = subst (λ (s : ServerState). AreReads 0 s.store.floor s.asks s.next_ask s.store.acked)
    (sym c.self.view_is) c.requires.chain.reads in
    let some : 0 < length inside.asks.items = omega (arith, inside.asks.ok.0, c.in-Some.ensures.variant.0 refl) in
    let same = ap (λ (s : ServerState). s.store.acked) c.self.view_is in
    omega (
      arith,
      same,
      (least_at_front 0 inside.store.floor inside.asks.items inside.next_ask inside.store.acked c.in-Some.read.now
          reads some c.in-Some.ensures.lookup).1,
    )
