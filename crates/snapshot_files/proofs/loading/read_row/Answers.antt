use Rattle.snapshot_files.proofs.Loads.{fault_flawed, nothing_come, nothing_passed, some_come, some_passed}
use Rattle.snapshot_files.proofs.loading.read_row.Goals as goal

pub returns-in_ok-push_row-in-Ok-Some-clause-come : goal.returns-in_ok-push_row-in-Ok-Some-clause-come
returns-in_ok-push_row-in-Ok-Some-clause-come c =
    some_come c.args.rows.now.items c.in-Ok-Some.field-0 c.in-Ok-Some.row c.args.reader.now c.next.new.self
    c.requires.read c.in-Ok-Some.field-0-is c.in-Ok-Some.ensures.row

pub returns-in_ok-push_row-in-Ok-Some-clause-read : goal.returns-in_ok-push_row-in-Ok-Some-clause-read
returns-in_ok-push_row-in-Ok-Some-clause-read c =
    some_passed c.args.rows.now.items c.push_row.new.rows.items c.in-Ok-Some.field-0 c.in-Ok-Some.row c.args.reader.now
    c.next.new.self c.requires.read c.in-Ok-Some.field-0-is c.in-Ok-Some.ensures.row
    c.in_ok-push_row-in-Ok-Some.ensures.pushed

pub returns-in-Ok-None-clause-come : goal.returns-in-Ok-None-clause-come
returns-in-Ok-None-clause-come c =
    nothing_come c.args.rows.now.items c.in-Ok-None.field-0 c.args.reader.now c.next.new.self c.requires.read
    c.in-Ok-None.field-0-is c.in-Ok-None.ensures.none

pub returns-in-Ok-None-clause-read : goal.returns-in-Ok-None-clause-read
returns-in-Ok-None-clause-read c =
    nothing_passed c.args.rows.now.items c.in-Ok-None.field-0 c.args.reader.now c.next.new.self c.requires.read
    c.in-Ok-None.field-0-is c.in-Ok-None.ensures.none

pub returns-in-Err-Flawed-clause-told : goal.returns-in-Err-Flawed-clause-told
returns-in-Err-Flawed-clause-told c =
    λ ended. fault_flawed c.args.rows.now.items c.args.reader.now c.in-Err-Flawed.field-0 c.in-Err-Flawed.flaw
    c.in-Err-Flawed.byte c.count.result ended c.requires.read c.in-Err-Flawed.field-0-is c.in-Err-Flawed.ensures.fault
    c.count.ensures
