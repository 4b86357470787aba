use Rattle.std.proofs.Common.{◌≡◌, ◌∙◌, sym}
use Rattle.proto.specs.declared.sessions.Step.TheVariants.{Emit}
use Rattle.proto.specs.Sessions.{next_of, step_of}
use Rattle.world.proofs.positions.FaultLaws.{passed_step, shorter_step}
use Rattle.world.proofs.connections.next_call.Goals as goal

-- after a fault fewer are to come, so the loop ends
pub passing-smaller : goal.passing-smaller
passing-smaller c =
    let fault : Emit ≡ step_of (next_of c.passing.session) = sym c.in-Emit.is ∙ c.in_ok-target.ensures.step in
    shorter_step c.faults_take_bytes.ensures c.passing.session c.next.new.self fault c.in_ok-target.ensures.left

-- one fault more is passed, and what stands after the faults stays
pub passing-preserved : goal.passing-preserved
passing-preserved c =
    let fault : Emit ≡ step_of (next_of c.passing.session) = sym c.in-Emit.is ∙ c.in_ok-target.ensures.step in
    record {
      same = passed_step c.faults_take_bytes.ensures c.passing.session c.next.new.self fault c.in_ok-target.ensures.left
          ∙ c.passing.invariant.same;
      idle = rw c.in-Emit.is at c.in_ok-target.ensures.opens;
    }
