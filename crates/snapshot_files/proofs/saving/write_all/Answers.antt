use Rattle.std.proofs.Common.{◌≡◌, ◌∙◌, ◌≤◌, ◌-◌, length, take, drop, arith, length-drop}
use Rattle.std.proofs.Math.Seq.{take-add}
use Rattle.std.proofs.lemmas.List.{take_all}
use Rattle.std.proofs.lemmas.Bool.Decides.{nat_tests}
use Rattle.ends.proofs.Written.{begun-at, written-then}
use Rattle.snapshot_files.proofs.saving.write_all.Goals as goal

pub loop-at-preserved : goal.loop-at-preserved
loop-at-preserved g c =
    let bytes = c.args.bytes.now in
    let at = c.loop-at.at in
    let whole : take (length bytes - at) (drop at bytes) ≡ drop at bytes =
    take_all _ _ (omega (arith, length-drop at bytes)) in
    let bound : c.in-Ok.n ≤ length (drop at bytes) = rw whole at c.in-Ok.ensures.bound in
    let more = rw whole at c.in-Ok.ensures.written in
    let same : g.W.Sink.failures c.write.new.self ≡ g.W.Sink.failures c.loop-at.sink =
    grind (arith, nat_tests, c.in-Ok.ensures.counted, c.in-Ok.n-test.1) in
    record {
      within = omega (arith, bound, length-drop at bytes);
      written = rw (take-add at c.in-Ok.n bytes)
          (written-then _ _ _ (take at bytes) (take c.in-Ok.n (drop at bytes)) c.loop-at.invariant.written more);
      none_failed = same ∙ c.loop-at.invariant.none_failed;
    }

pub returns-in-Ok-eq0-clause-begun : goal.returns-in-Ok-eq0-clause-begun
returns-in-Ok-eq0-clause-begun g c =
    begun-at _ _ _ c.args.bytes.now c.loop-at.at c.loop-at.invariant.written
    (rw c.in-Ok-eq0.field-0-test at c.in-Ok-eq0.ensures.written)

pub returns-in-Err-clause-begun : goal.returns-in-Err-clause-begun
returns-in-Err-clause-begun g c =
    begun-at _ _ _ c.args.bytes.now c.loop-at.at c.loop-at.invariant.written c.in-Err.ensures.written
