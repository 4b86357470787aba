use Rattle.std.proofs.Common.{◌≡◌, ℕ, ◌<◌, false}
use Rattle.master_decisions.specs.StalledLinks.{is_news}
use Rattle.master_decisions.proofs.stalled_links.StalledLinks.first_news_of.Given as goal

-- nothing is to be told of a link to a server so far
abbrev pub invariant-loop-j : goal.invariant-loop-j
invariant-loop-j l = (k : ℕ) → k < l.j → is_news l.self l.living l.i k ≡ false
