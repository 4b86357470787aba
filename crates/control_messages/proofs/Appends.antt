-- What is written in turn stands in turn.
use Rattle.std.proofs.Common.{◌≡◌, ℕ, List, ◌++◌, ap, ◌∙◌, append_assoc}

-- first these, and then those
pub then_more : (old mid new xs ys : List ℕ) → mid ≡ old ++ xs → new ≡ mid ++ ys → new ≡ old ++ (xs ++ ys)
then_more old mid new xs ys e f = f ∙ ap (λ (t : List ℕ). t ++ ys) e ∙ append_assoc old xs ys
