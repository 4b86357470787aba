use Rattle.std.proofs.Common.{◌≡◌, sym, nat_eq, true, false, rules, tests}
use Rattle.schedules.proofs.Rounds.{other_more, same_more}
use Rattle.schedules.proofs.settling.push_pairs_with.Goals as goal
use Rattle.schedules.proofs.settling.push_pairs_with.Goals.{then-i-j+in_ok-push, else-i-j}

-- one server more is paired with this one, if it is another
pub loop-j-preserved : goal.loop-j-preserved
loop-j-preserved c =
    let front = c.args.pairs.now.items in
    elim c.if-i-j.branch [
      | then-i-j+in_ok-push w ↦
          let other : nat_eq c.args.i c.loop-j.j ≡ false = search (rules, tests) in
          rw (w.pairs-is, w.in_ok-push.ensures.items, c.loop-j.invariant)
          (sym (other_more front c.args.i c.loop-j.j other))
      | else-i-j w ↦
          let same : nat_eq c.args.i c.loop-j.j ≡ true = search (rules, tests) in
          rw (w.pairs-is, c.loop-j.invariant) (sym (same_more front c.args.i c.loop-j.j same))
    ]
