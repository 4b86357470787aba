-- What a line of a master's input names (docs/RUNNING.md).
use Rattle.std.specs.Prelude.{◌≡◌, ◌≢◌, ◌<◌, ◌++◌, ◌∷◌, ℕ, List, codes, decimal}
use Rattle.master_decisions.specs.declared.news.News.{News}
use Rattle.master_decisions.specs.declared.news.News.TheVariants as news

-- `gone J` names the server J, if the chain has it; any other line means nothing
abbrev pub Names : List ℕ → ℕ → News → Type 0
Names line servers (news.Typed j) = (j < servers) × (line ≡ codes "gone" ++ 32 ∷ decimal j)
Names line servers news.BadLine = (j : ℕ) → j < servers → line ≢ codes "gone" ++ 32 ∷ decimal j
Names line servers _ = ⊥
