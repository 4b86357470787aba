-- Settling: the rounds of events that a `settle` line stands for (this project's rule).
use Rattle.std.specs.Prelude.{ℕ, ◌==◌, not, List, ◌++◌, map, filter, flat_map}
use Rattle.std.specs.List.{range_with_len, repeat}
use Rattle.world.specs.declared.events.Event.{Event}
use Rattle.world.specs.declared.events.Event.TheVariants.{Work, Deliver, Tell, Hand}

-- the first n numbers: 0, 1 and so on
abbrev pub first_numbers : ℕ → List ℕ
first_numbers n = range_with_len 0 n

-- this server with each other one of a chain, the other rising
abbrev pub pairs_with : ℕ → ℕ → List (ℕ × ℕ)
pairs_with count i = filter (λ p. not (p.0 == p.1)) (map (λ j. (i, j)) (first_numbers count))

-- each server of a chain with each other one: the first rises, and for each first the second
unfoldable pub pairs : ℕ → List (ℕ × ℕ)
pairs count = flat_map (pairs_with count) (first_numbers count)

-- one round over such pairs: each first is told that its second has failed, each link between them delivers, each
-- connection's call is worked, and each one's reply handed
unfoldable pub round : List (ℕ × ℕ) → ℕ → List Event
round links connections =
    map (λ p. Tell p.0 p.1) links ++ map (λ p. Deliver p.0 p.1) links
    ++ map Work (first_numbers connections) ++ map Hand (first_numbers connections)

-- `rounds` rounds, one after another
unfoldable pub settled : ℕ → ℕ → ℕ → List Event
settled rounds count connections = repeat rounds (round (pairs count) connections)
