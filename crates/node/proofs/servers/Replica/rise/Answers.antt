use Rattle.std.proofs.Common.{sym, subst, map}
use Rattle.versions.specs.Numbers.{IsRising}
use Rattle.node.specs.declared.servers.OpenUpdate.{OpenUpdate}
use Rattle.node.specs.Servers.{ServerState}
use Rattle.node.proofs.Orders.{rising-updates}
use Rattle.node.proofs.servers.Replica.rise.Goals as goal

-- own open calls are in the order of their ids, as closing them needs
pub settle_first-requires : goal.settle_first-requires
settle_first-requires c =
    let s = c.args.self.now in
    record {
      order = subst (λ (t : ServerState). IsRising 0 (map (λ (u : OpenUpdate). u.id) t.pend))
          (sym c.self.view_is) (rising-updates 0 s.next_id s.pend c.requires.chain.updates);
    }
