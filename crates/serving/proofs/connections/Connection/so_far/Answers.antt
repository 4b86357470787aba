use Rattle.std.proofs.Common.{◌++◌, subst}
use Rattle.serving.specs.Connections.{IsBegun}
use Rattle.serving.proofs.GoingAhead.{begun_ahead}
use Rattle.serving.proofs.connections.Connection.so_far.Goals as goal

pub returns : goal.returns
returns c =
    let s = c.self.inside in
    record {
      begun = λ more. subst (λ v. IsBegun v (v.read ++ more)) c.self.view_is
          (begun_ahead s.read s.outcomes.all s.written s.session s.ahead.items s.ended s.failed c.self.invariant.0
          more);
    }
