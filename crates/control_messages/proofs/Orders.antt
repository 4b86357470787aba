-- Orders: what is read of each kind, and that it is read again.
use Rattle.std.proofs.Common.{◌≡◌, ℕ, eqb, List, [], ◌∷◌, ◌++◌, Some, refl, inl, inr}
use Rattle.successions.specs.declared.members.Members.{Members}
use Rattle.successions.specs.declared.orders.Order.{Order}
use Rattle.successions.specs.declared.orders.Order.TheVariants.{Seal, Resume, Poll, Switch, Open}
use Rattle.control_messages.specs.Spellings.{AreNumbers, HasMembers, HasOrderWidths, alone, order_numbers, spelled}
use Rattle.control_messages.specs.Readings.{both_at, number_at, members_at, order_at, seal_at, resume_at, poll_at}
use Rattle.control_messages.specs.Readings.{switch_at, open_at}
use Rattle.control_messages.proofs.Formats.{IsFormat, Takes, both, made_again}
use Rattle.control_messages.proofs.Choices.{chosen, picked}
use Rattle.control_messages.proofs.Fields.{number, members}

-- what is said of any number
abbrev Any : ℕ → Type 0
Any n = Unit {0}

-- an epoch and a generation
abbrev pair_numbers : ℕ × ℕ → List ℕ
pair_numbers p = alone p.0 ++ alone p.1

pair : IsFormat (both_at number_at number_at) pair_numbers (λ p. Any p.0 × Any p.1)
pair = both number_at alone Any number_at alone Any number number

-- these, and members
abbrev named_numbers : ℕ × (ℕ × Members) → List ℕ
named_numbers p = alone p.0 ++ (alone p.1.0 ++ p.1.1.processes)

abbrev Named : ℕ × (ℕ × Members) → Type 0
Named p = Any p.0 × (Any p.1.0 × HasMembers p.1.1)

named : IsFormat (both_at number_at (both_at number_at members_at)) named_numbers Named
named =
    both number_at alone Any (both_at number_at members_at) (λ (p : ℕ × Members). alone p.0 ++ p.1.processes)
    (λ (p : ℕ × Members). Any p.0 × HasMembers p.1) number
    (both number_at alone Any members_at (λ (m : Members). m.processes) HasMembers number members)

-- these, and a count
abbrev counted_numbers : ℕ × (ℕ × (Members × ℕ)) → List ℕ
counted_numbers p = alone p.0 ++ (alone p.1.0 ++ (p.1.1.0.processes ++ alone p.1.1.1))

abbrev Counted : ℕ × (ℕ × (Members × ℕ)) → Type 0
Counted p = Any p.0 × (Any p.1.0 × (HasMembers p.1.1.0 × Any p.1.1.1))

counted : IsFormat (both_at number_at (both_at number_at (both_at members_at number_at))) counted_numbers Counted
counted =
    both number_at alone Any (both_at number_at (both_at members_at number_at))
    (λ (p : ℕ × (Members × ℕ)). alone p.0 ++ (p.1.0.processes ++ alone p.1.1))
    (λ (p : ℕ × (Members × ℕ)). Any p.0 × (HasMembers p.1.0 × Any p.1.1)) number
    (both number_at alone Any (both_at members_at number_at) (λ (p : Members × ℕ). p.0.processes ++ alone p.1)
    (λ (p : Members × ℕ). HasMembers p.0 × Any p.1) number
    (both members_at (λ (m : Members). m.processes) HasMembers number_at alone Any members number))

-- an order that is read after its kind was spelled so
pub order_takes : (n : ℕ) (bytes after : List ℕ) (x : Order) (rest : List ℕ)
    → Takes (alone n) (Unit {0}) bytes after
    → order_at n after ≡ Some (x, rest)
    → Takes (order_numbers x) (HasOrderWidths x) bytes rest
unfolding order_at seal_at resume_at poll_at switch_at open_at
order_takes n bytes after x rest t e =
    elim (chosen (eqb n 1) _ _ _ e) [
      | inl seal ↦
          picked (both_at number_at (both_at number_at members_at)) named_numbers Named
          (λ (p : ℕ × (ℕ × Members)). Seal p.0 p.1.0 p.1.1) order_numbers HasOrderWidths n 1 bytes after x rest named
          (λ p. refl) (λ p h. h.1.1) t seal.0 seal.1
      | inr e1 ↦ elim (chosen (eqb n 2) _ _ _ e1.1) [
        | inl resume ↦
            picked (both_at number_at number_at) pair_numbers (λ (p : ℕ × ℕ). Any p.0 × Any p.1)
            (λ (p : ℕ × ℕ). Resume p.0 p.1) order_numbers HasOrderWidths n 2 bytes after x rest pair
            (λ p. refl) (λ p h. tt) t resume.0 resume.1
        | inr e2 ↦ elim (chosen (eqb n 3) _ _ _ e2.1) [
          | inl poll ↦
              picked number_at alone Any (λ (epoch : ℕ). Poll epoch) order_numbers HasOrderWidths n 3 bytes after x rest
              number (λ p. refl) (λ p h. tt) t poll.0 poll.1
          | inr e3 ↦ elim (chosen (eqb n 4) _ _ _ e3.1) [
            | inl switch ↦
                picked (both_at number_at (both_at number_at (both_at members_at number_at))) counted_numbers Counted
                (λ (p : ℕ × (ℕ × (Members × ℕ))). Switch p.0 p.1.0 p.1.1.0 p.1.1.1) order_numbers HasOrderWidths n 4
                bytes after x rest counted (λ p. refl) (λ p h. h.1.1.0) t switch.0 switch.1
            | inr e4 ↦ elim (chosen (eqb n 5) _ _ _ e4.1) [
              | inl opens ↦
                  picked (both_at number_at (both_at number_at members_at)) named_numbers Named
                  (λ (p : ℕ × (ℕ × Members)). Open p.0 p.1.0 p.1.1) order_numbers HasOrderWidths n 5 bytes after x rest
                  named (λ p. refl) (λ p h. h.1.1) t opens.0 opens.1
              | inr none ↦ absurd cc
            ]
          ]
        ]
      ]
    ]

-- an order's kind, and the numbers after it
abbrev pub kind_of : Order → ℕ
kind_of (Seal epoch generation next) = 1
kind_of (Resume epoch generation) = 2
kind_of (Poll epoch) = 3
kind_of (Switch epoch generation next count) = 4
kind_of (Open epoch generation own) = 5

abbrev pub said_of : Order → List ℕ
said_of (Seal epoch generation next) = epoch ∷ generation ∷ next.processes
said_of (Resume epoch generation) = epoch ∷ generation ∷ []
said_of (Poll epoch) = epoch ∷ []
said_of (Switch epoch generation next count) = epoch ∷ generation ∷ (next.processes ++ count ∷ [])
said_of (Open epoch generation own) = epoch ∷ generation ∷ own.processes

-- an order that was spelled is read after its kind
pub order_again : (x : Order) (rest : List ℕ)
    → AreNumbers (said_of x)
    → HasOrderWidths x
    → order_at (kind_of x) (spelled (said_of x) ++ rest) ≡ Some (x, rest)
unfolding order_at seal_at resume_at poll_at switch_at open_at
order_again (Seal epoch generation next) rest each fits =
    made_again (both_at number_at (both_at number_at members_at)) named_numbers Named
    (λ (p : ℕ × (ℕ × Members)). Seal p.0 p.1.0 p.1.1) (epoch, (generation, next)) rest named each (tt, (tt, fits))
order_again (Resume epoch generation) rest each fits =
    made_again (both_at number_at number_at) pair_numbers (λ (p : ℕ × ℕ). Any p.0 × Any p.1)
    (λ (p : ℕ × ℕ). Resume p.0 p.1) (epoch, generation) rest pair each (tt, tt)
order_again (Poll epoch) rest each fits =
    made_again number_at alone Any (λ (epoch : ℕ). Poll epoch) epoch rest number each tt
order_again (Switch epoch generation next count) rest each fits =
    made_again (both_at number_at (both_at number_at (both_at members_at number_at))) counted_numbers Counted
    (λ (p : ℕ × (ℕ × (Members × ℕ))). Switch p.0 p.1.0 p.1.1.0 p.1.1.1) (epoch, (generation, (next, count))) rest
    counted each (tt, (tt, (fits, tt)))
order_again (Open epoch generation own) rest each fits =
    made_again (both_at number_at (both_at number_at members_at)) named_numbers Named
    (λ (p : ℕ × (ℕ × Members)). Open p.0 p.1.0 p.1.1) (epoch, (generation, own)) rest named each (tt, (tt, fits))
