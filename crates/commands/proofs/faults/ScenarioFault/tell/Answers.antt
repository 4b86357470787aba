use Rattle.commands.proofs.faults.ScenarioFault.tell.Goals as goal

pub returns-in-Unreadable-clause-told : goal.returns-in-Unreadable-clause-told
returns-in-Unreadable-clause-told g c =
    rw (c.in-Unreadable.is, ← c.as_bytes.ensures.value) c.write_parts.ensures.written

pub returns-in-Run-clause-told : goal.returns-in-Run-clause-told
returns-in-Run-clause-told g c = rw c.in-Run.is c.write_all-in-Run.ensures.written

pub returns-in-Unreadable-clause-begun : goal.returns-in-Unreadable-clause-begun
returns-in-Unreadable-clause-begun g c =
    rw (c.in-Unreadable.is, ← c.as_bytes.ensures.value) c.write_parts.ensures.begun

pub returns-in-Run-clause-begun : goal.returns-in-Run-clause-begun
returns-in-Run-clause-begun g c = rw c.in-Run.is c.write_all-in-Run.ensures.begun
