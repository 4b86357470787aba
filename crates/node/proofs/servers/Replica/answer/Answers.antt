use Rattle.std.proofs.Common.{◌≡◌, Some, arith, sym, subst, map}
use Rattle.versions.specs.Numbers.{IsRising}
use Rattle.node.specs.declared.servers.OpenRead.{OpenRead}
use Rattle.node.specs.Servers.{ServerState}
use Rattle.node.specs.Reading.{open_read}
use Rattle.node.specs.Lawful.{AreReads}
use Rattle.node.proofs.SoundLaws.{read-found}
use Rattle.node.proofs.Orders.{rising-reads}
use Rattle.node.proofs.servers.Replica.answer.Goals as goal

-- a number from the read's lower bound on is at least the floor, so the store still has the items at it
pub at-requires-clause-above : goal.at-requires-clause-above
at-requires-clause-above c =
    let inside = c.self.inside in
    let reads = subst (λ (s : ServerState). AreReads 0 s.store.floor s.asks s.next_ask s.store.acked)
    (sym c.self.view_is) c.requires.chain.reads in
    let found : open_read inside.asks.items c.args.ask ≡ Some c.in-Some.read.now = sym c.in-Some.ensures.found in
    let within = read-found 0 inside.store.floor inside.asks.items inside.next_ask inside.store.acked c.args.ask
    c.in-Some.read.now reads found in
    omega (arith, within.0, c.if-n-read.false)

-- the open reads are in the order of their asks, as the search needs
pub look_up-requires : goal.look_up-requires
look_up-requires c =
    let s = c.args.self.now in
    record {
      order = subst (λ (t : ServerState). IsRising 0 (map (λ (r : OpenRead). r.ask) t.asks)) (sym c.self.view_is)
          (rising-reads 0 s.store.floor s.next_ask s.store.acked s.asks c.requires.chain.reads);
    }
