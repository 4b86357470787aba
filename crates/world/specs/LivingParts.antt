-- Serves the contracts inside this crate; no public one needs it. What of a world counts: all but the states of its
-- failed servers and the links to them.
use Rattle.std.specs.Prelude.{◌≡◌, ℕ, zero, suc, Bool, List, [], ◌∷◌, length, map, slice_set, Option, None, Some}
use Rattle.std.specs.Prelude.{slice_get, if◌then◌else◌}
use Rattle.node.specs.declared.messages.Input.{Input}
use Rattle.node.specs.Views.{has, union, single}
use Rattle.node.specs.Servers.{opening}
use Rattle.world.specs.declared.events.Event.{Event}
use Rattle.world.specs.declared.events.Event.TheVariants.{Fail}
use Rattle.world.specs.Worlds.{World, nobody, takes, happens, run_from}
use Rattle.world.specs.Refusals.{steps_at, with_failures, RiseFrom, WouldStep}

-- these, with this one in each place that passes the test
abbrev pub blanked : {X : Type 0} → X → (ℕ → Bool) → List X → List X
blanked blank test [] = []
blanked blank test (x ∷ xs) = (if test zero then blank else x) ∷ blanked blank (λ i. test (suc i)) xs

-- the world with nobody in place of each failed server, and with nothing on the links to it
abbrev pub living_part : World → World
living_part w =
    record w { servers = blanked nobody (has w.failed) w.servers; links = map (blanked [] (has w.failed)) w.links }

-- server i has failed, and holds nothing
abbrev pub lost : World → ℕ → World
lost w i =
    record w { servers = slice_set w.servers i (opening i (length w.servers)); failed = union w.failed (single i) }

-- what comes of an input that server i takes: what it should, or, if its step is refused, its loss
abbrev pub Takes : World → ℕ → Input → Option ℕ → World → Type 0
Takes w i input None v = v ≡ takes w i input
Takes w i input (Some s) v = (s ≡ i) × (v ≡ lost w i)

-- what comes of an event: what it should, or, if the step of a server is refused, its failure, as far as that counts
abbrev pub Comes : World → Event → Option ℕ → World → Type 0
Comes w e None v = v ≡ happens w e
Comes w e (Some s) v = (steps_at w e ≡ Some s) × (living_part v ≡ living_part (happens w (Fail s)))

-- From the world w on, with these steps refused, the events come to the world v, as far as it counts:
pub record IsFailingRun (w : World) (events : List Event) (refused : List (ℕ × ℕ)) (v : World) : Type 0 where
  pub same : living_part v ≡ living_part (run_from w (with_failures events refused))
  pub rise : RiseFrom 0 refused
  pub stepped : (n : ℕ) (p : ℕ × ℕ) → slice_get refused n ≡ Some p → WouldStep w events refused p.0 p.1
