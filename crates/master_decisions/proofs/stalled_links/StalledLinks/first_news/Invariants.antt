use Rattle.std.proofs.Common.{◌≡◌, ℕ, ◌<◌, false}
use Rattle.master_decisions.specs.StalledLinks.{is_news}
use Rattle.master_decisions.proofs.stalled_links.StalledLinks.first_news.Given as goal

-- nothing is to be told of a link of a server so far
abbrev pub invariant-loop-i : goal.invariant-loop-i
invariant-loop-i l = (k j : ℕ) → k < l.i → j < 16 → is_news l.self l.living k j ≡ false
