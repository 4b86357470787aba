use Rattle.std.proofs.Common.{ap, length, length-append, arith}
use Rattle.craq_server.proofs.Dealt.{seated_more}
use Rattle.craq_server.proofs.dealing.inlets_for_all.Goals as goal

pub loop-j-preserved : goal.loop-j-preserved
loop-j-preserved c = record {
  count = omega (arith, simp length-append at (ap length c.in_ok-push.ensures.items));
  seated = seated_more c.args.id c.loop-j.j c.args.inlets.now.items c.loop-j.inlets.items c.inlet_for.new.inlets.items
      c.loop-j.taken.items c.push.new.self.items c.inlet_for.result c.loop-j.invariant.seated c.loop-j.invariant.count
      c.inlet_for.ensures.taken c.inlet_for.ensures.own c.inlet_for.ensures.whole c.in_ok-push.ensures.items;
}
