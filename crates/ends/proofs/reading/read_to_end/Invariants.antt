use Rattle.std.proofs.Common.{◌≡◌, ◌-◌, ◌^◌, ◌++◌, vec_len}
use Rattle.ends.proofs.reading.read_to_end.Given as goal

abbrev pub invariant-loop-all : goal.invariant-loop-all
invariant-loop-all g l =
    record {
      bytes : g.R.Source.given l.source ≡ g.R.Source.given l.fn.source ++ l.all.items;
      none_failed : g.R.Source.failures l.source ≡ g.R.Source.failures l.fn.source;
    }

-- each read but the last adds a byte, and no vector holds 2 ^ 63 of them
abbrev pub decreases-loop-all : goal.decreases-loop-all
decreases-loop-all g l = 2 ^ 63 - vec_len l.all
