-- Which end of a link that stands still is to be called gone (this project's rule).
use Rattle.std.specs.Prelude.{ℕ, zero, suc, ◌+◌, nat_eq, Bool, not, ◌&&◌, ◌||◌, List, if◌then◌else◌}
use Rattle.node.specs.Views.{View}
use Rattle.master_decisions.specs.ServerSets.{is_among}
use Rattle.master_decisions.specs.StalledLinks.{says}

-- a link between two of the servers that live stands still, by the word of one of them: else they reach one another
abbrev pub is_apart : List ℕ → View → ℕ → ℕ → Bool
is_apart said living i j =
    (not (nat_eq i j) && (is_among living i && is_among living j)) && (says said i j || says said j i)

-- with how many servers below the count a link of this one stands still
abbrev pub apart_below : ℕ → List ℕ → View → ℕ → ℕ
apart_below zero said living j = 0
apart_below (suc i) said living j =
    if is_apart said living i j then apart_below i said living j + 1 else apart_below i said living j

-- How much speaks for calling a server gone: nothing if none of its links stands still. The more of them do, the fewer
-- others reach it. That it doesn't answer the master counts more than all of them.
abbrev pub weight : List ℕ → View → View → ℕ → ℕ
weight said living heard j =
    if nat_eq (apart_below 16 said living j) 0 then 0
    else if is_among heard j then apart_below 16 said living j
    else apart_below 16 said living j + 16
