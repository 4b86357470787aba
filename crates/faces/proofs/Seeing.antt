-- What any two places have seen.
use Rattle.std.proofs.Common.{◌≡◌, ◌∙◌, ◌<◌, ◌≤◌, ◌⊎◌, inl, inr, ⊎_elim, ℕ, sym, subst, List, length}
use Rattle.std.proofs.Common.{All, Contains, arith}
use Rattle.std.proofs.lemmas.Bool.{cases_lt}
use mathlib.Core.Option.{some}
use lib.ListN.{get_elem?}
use Rattle.faces.specs.declared.faces.Face.{Face}
use Rattle.faces.specs.declared.boards.BoardKnowledge.{BoardKnowledge}
use Rattle.faces.specs.Boards.{Keeps}
use Rattle.faces.specs.Histories.{History, IsLater}
use Rattle.faces.proofs.Beginnings.{prefix_shorter}

-- each history that a place has seen begins what stands
pub each_begins : (x : Face) (views : List BoardKnowledge) (i : ℕ) (v : BoardKnowledge)
    → Keeps x views
    → get_elem? views i ≡ some v
    → All (λ c. IsLater c x.history) v.histories
each_begins x views i v h at = (h.1 i v at).seen

-- one of them does
one_begins : (stands : History) (cs : List History) (c : History)
    → All (λ d. IsLater d stands) cs
    → Contains cs c
    → IsLater c stands
one_begins stands cs c all has = subst (λ (d : History). IsLater d stands) has.2 (all has.0 c has.1)

-- of two beginnings of one list the shorter begins the longer
shorter_begins : (c d stands : History)
    → IsLater c stands
    → IsLater d stands
    → length c.inputs ≤ length d.inputs
    → IsLater c d
shorter_begins c d stands p q le = record {
  instance = sym q.instance ∙ p.instance;
  inputs = prefix_shorter c.inputs d.inputs stands.inputs p.inputs q.inputs le;
}

one_of_two : (c d stands : History) → IsLater c stands → IsLater d stands → IsLater c d ⊎ IsLater d c
one_of_two c d stands p q = ⊎_elim
    (λ (less : length c.inputs < length d.inputs). inl (shorter_begins c d stands p q (omega (arith, less))))
    (λ (most : length d.inputs ≤ length c.inputs). inr (shorter_begins d c stands q p most))
    (cases_lt (length c.inputs) (length d.inputs))

pub any_two : (x : Face) (views : List BoardKnowledge) (i j : ℕ) (v w : BoardKnowledge) (c d : History)
    → Keeps x views
    → get_elem? views i ≡ some v
    → get_elem? views j ≡ some w
    → Contains v.histories c
    → Contains w.histories d
    → IsLater c d ⊎ IsLater d c
any_two x views i j v w c d h at there has holds = one_of_two c d x.history
    (one_begins x.history v.histories c (each_begins x views i v h at) has)
    (one_begins x.history w.histories d (each_begins x views j w h there) holds)
