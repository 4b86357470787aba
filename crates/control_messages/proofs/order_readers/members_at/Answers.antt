use Rattle.std.proofs.Common.{◌<◌, ap, ◌∙◌, refl, length, take, Some, List, ℕ, arith}
use Rattle.std.proofs.lemmas.List.{length-set, take_all, take_more_set}
use Rattle.control_messages.specs.Readings.{several_at}
use Rattle.control_messages.proofs.Loop.{ends, goes_on, is_done, members_none, members_some, starts}
use Rattle.control_messages.proofs.order_readers.members_at.Goals as goal

-- a process is missing
pub returns-in_err-process : goal.returns-in_err-process
returns-in_err-process c =
    rw c.from_residual.ensures (members_none c.args.bytes.now
    (ends (take c.loop-place.place c.loop-place.processes) 16 c.loop-place.place c.loop-place.rest.now
    (several_at 16 c.args.bytes.now) c.loop-place-test.true c.in_err-process.ensures c.loop-place.invariant.read))

-- one more is read
pub loop-place-preserved : goal.loop-place-preserved
loop-place-preserved c =
    let inside : c.loop-place.place < length c.loop-place.processes =
    omega (arith, c.loop-place.invariant.size, c.loop-place-test.true) in record {
      size = length-set c.loop-place.processes c.loop-place.place c.in_ok-process.process
          ∙ c.loop-place.invariant.size;
      read = rw (take_more_set c.loop-place.processes c.loop-place.place c.in_ok-process.process inside)
          (goes_on (take c.loop-place.place c.loop-place.processes) 16 c.loop-place.place c.loop-place.rest.now
          c.in_ok-process.process c.in_ok-process.after.now (several_at 16 c.args.bytes.now) c.loop-place-test.true
          c.in_ok-process.ensures c.loop-place.invariant.read);
    }

-- none is read at first
pub loop-place-init : goal.loop-place-init
loop-place-init c = record { size = refl; read = starts (several_at 16 c.args.bytes.now) }

-- all are read
pub returns : goal.returns
returns c =
    members_some c.args.bytes.now c.loop-place.processes c.loop-place.rest.now
    (is_done (take c.loop-place.place c.loop-place.processes) 16 c.loop-place.place c.loop-place.rest.now
    (several_at 16 c.args.bytes.now) c.loop-place-test.false c.loop-place.invariant.read
    ∙ ap (λ (ps : List ℕ). Some (ps, c.loop-place.rest.now)) (take_all c.loop-place.place c.loop-place.processes
    (omega (arith, c.loop-place.invariant.size, c.loop-place-test.false))))
