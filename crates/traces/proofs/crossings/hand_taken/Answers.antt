use Rattle.std.proofs.Common.{rules, ◌≡◌, ◌≤◌, ℕ, zero, suc, List, [], ◌∷◌, length, Option, None, Some, refl, arith}
use Rattle.std.specs.Prelude.{slice_get}
use Rattle.world.specs.declared.events.Event.{Event}
use Rattle.traces.specs.Crossings as crossings
use Rattle.traces.proofs.crossings.hand_taken.Goals as goal

past_end : {X : Type 0} (xs : List X) (k : ℕ) → length xs ≤ k → slice_get xs k ≡ None
past_end [] zero less = refl
past_end [] (suc k) less = refl
past_end (x ∷ xs) zero less = absurd (omega (arith, less))
past_end (x ∷ xs) (suc k) less = past_end xs k (omega (arith, less))

no_event : (row : ℕ) (homes : List ℕ) (event : Option Event) → event ≡ None → [] ≡ crossings.hand_taken row homes event
unfolding crossings.hand_taken
no_event row homes None none = refl
no_event row homes (Some event) none = absurd cc

pub returns-in-None : goal.returns-in-None
returns-in-None c = no_event _ _ _ (past_end c.args.events.now c.args.place (search rules))
