use Rattle.std.proofs.Common.{◌+◌, ◌%◌, arith, rules}
use Rattle.in_process_links.proofs.ServerBits.{first_again, first_from, had_from}
use Rattle.in_process_links.proofs.server_sets.first_after.Goals as goal

pub returns-then-above-eq0-clause-first : goal.returns-then-above-eq0-clause-first
returns-then-above-eq0-clause-first c j has =
    let low = c.lowest.ensures in
    first_again c.args.bits ((c.args.last + 1) % 32) (omega arith) (omega arith) c.lowest.result j low.0 low.1 low.2
    (search rules) has

pub returns-else-above-eq0-clause-had : goal.returns-else-above-eq0-clause-had
returns-else-above-eq0-clause-had c =
    let low = rw (c.wrapping_shl.ensures, c.from.ensures) at c.lowest-else-above-eq0.ensures in
    had_from c.args.bits ((c.args.last + 1) % 32) (omega arith) (omega arith) c.lowest-else-above-eq0.result low.0 low.1

pub returns-else-above-eq0-clause-first : goal.returns-else-above-eq0-clause-first
returns-else-above-eq0-clause-first c j has =
    let low = rw (c.wrapping_shl.ensures, c.from.ensures) at c.lowest-else-above-eq0.ensures in
    first_from c.args.bits ((c.args.last + 1) % 32) (omega arith) (omega arith) c.lowest-else-above-eq0.result j low.0
    low.1 low.2 has
