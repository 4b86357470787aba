use Rattle.std.proofs.Common.{◌++◌}
use Rattle.std.proofs.lemmas.Result.{on_ok_weaker}
use Rattle.control_messages.specs.Spellings.{memory_numbers, usage_numbers}
use Rattle.control_messages.specs.ServerParts.{head_numbers, work_numbers}
use Rattle.control_messages.proofs.Appends.{then_more}
use Rattle.control_messages.proofs.spelling.put_server.Goals as goal

-- a server's report is written part by part
pub returns : goal.returns
returns c =
    let r = c.args.report.now in
    let old = c.args.out.now.items in
    let headed = c.put_head.new.out.items in
    let stored = c.put_memory.new.out.items in
    let connected = c.put_usage.new.out.items in
    let seated = c.put_usage-2.new.out.items in
    let done = c.put_work.new.out.items in
    let memory = memory_numbers r.memory in
    let connections = usage_numbers r.connections in
    let seats = usage_numbers r.seats in
    let work = work_numbers r in
    on_ok_weaker c.put_work.result
    (λ e. then_more old headed done (head_numbers r) (memory ++ (connections ++ (seats ++ work)))
    c.in_ok-put_head.ensures
    (then_more headed stored done memory (connections ++ (seats ++ work)) c.in_ok-put_memory.ensures
    (then_more stored connected done connections (seats ++ work) c.in_ok-put_usage.ensures
    (then_more connected seated done seats work c.in_ok-put_usage-2.ensures e)))) c.put_work.ensures
