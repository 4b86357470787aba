-- A list of inputs of which the first one of a sender is put in front.
use Rattle.std.proofs.Common.{◌≡◌, ℕ, zero, suc, Bool, true, false, cond, List, [], ◌∷◌, Some, refl, ap, sym, ◌∙◌}
use Rattle.std.proofs.Common.{subst, inl, inr}
use Rattle.std.specs.Prelude.{◌==◌}
use Rattle.std.proofs.lemmas.Bool.{cases_eq, ne_eqb, eqb-true}
use Rattle.node.specs.declared.messages.Input.{Input}
use Rattle.node.specs.declared.messages.Input.TheVariants.{Call as Called, From, Gone}
use Rattle.node.proofs.Lists.{In}
use Rattle.interleavings.specs.Chains.{messages_from, calls_from, Sender, OfSeat, OfServer, OfNotices, is_of, first_of}
use Rattle.interleavings.specs.Chains.{without_first_of}

first_is : (s : Sender) (x : Input) (xs : List Input) → first_of s xs ≡ Some x → is_of s x ≡ true
first_is s x [] e = absurd cc
first_is s x (y ∷ ys) e = by (is_of s y) refl e (first_is s x ys)
  where
    by : (b : Bool) → is_of s y ≡ b → cond b (Some y) (first_of s ys) ≡ Some x
        → (first_of s ys ≡ Some x → is_of s x ≡ true)
        → is_of s x ≡ true
    by true is g f = (let same : y ≡ x = cc in subst (λ z. is_of s z ≡ true) same is)
    by false is g f = f g

-- two inputs of different senders in either order
from_swapped : (s : Sender) (j : ℕ) (x y : Input) (xs : List Input)
    → is_of s x ≡ true
    → is_of s y ≡ false
    → messages_from j (x ∷ (y ∷ xs)) ≡ messages_from j (y ∷ (x ∷ xs))
from_swapped s j (Called c call) (Called d other) xs e f = refl
from_swapped s j (Called c call) (From k m) xs e f = refl
from_swapped s j (Called c call) (Gone k) xs e f = refl
from_swapped s j (Gone c) (Called d other) xs e f = refl
from_swapped s j (Gone c) (From k m) xs e f = refl
from_swapped s j (Gone c) (Gone k) xs e f = refl
from_swapped s j (From a n) (Called d other) xs e f = refl
from_swapped s j (From a n) (Gone k) xs e f = refl
from_swapped (OfSeat c) j (From a n) (From b m) xs e f = absurd cc
from_swapped OfNotices j (From a n) (From b m) xs e f = absurd cc
from_swapped (OfServer q) j (From a n) (From b m) xs e f = elim (cases_eq a j) [
  | inl own ↦
      let other : (b == j) ≡ false = sym (ap (λ z. b == z) (sym (eqb-true a q e) ∙ own)) ∙ f in
      ap (λ t. cond (a == j) (n ∷ cond t (m ∷ messages_from j xs) (messages_from j xs))
      (cond t (m ∷ messages_from j xs) (messages_from j xs))) other
      ∙ sym (ap (λ t. cond t (m ∷ cond (a == j) (n ∷ messages_from j xs) (messages_from j xs))
      (cond (a == j) (n ∷ messages_from j xs) (messages_from j xs))) other)
  | inr apart ↦
      ap (λ t. cond t (n ∷ cond (b == j) (m ∷ messages_from j xs) (messages_from j xs))
      (cond (b == j) (m ∷ messages_from j xs) (messages_from j xs))) (ne_eqb a j apart)
      ∙ sym (ap (λ t. cond (b == j) (m ∷ cond t (n ∷ messages_from j xs) (messages_from j xs))
      (cond t (n ∷ messages_from j xs) (messages_from j xs))) (ne_eqb a j apart))
]

one_in_front : (j : ℕ) (y : Input) (xs ys : List Input)
    → messages_from j xs ≡ messages_from j ys
    → messages_from j (y ∷ xs) ≡ messages_from j (y ∷ ys)
one_in_front j (Called c call) xs ys e = e
one_in_front j (From k m) xs ys e = ap (λ ms. cond (k == j) (m ∷ ms) ms) e
one_in_front j (Gone k) xs ys e = e

-- the messages of each server stay, in order, if the first input of a sender is put in front
pub from_picked : (s : Sender) (j : ℕ) (x : Input) (xs : List Input)
    → first_of s xs ≡ Some x
    → messages_from j (x ∷ without_first_of s xs) ≡ messages_from j xs
from_picked s j x [] e = absurd cc
from_picked s j x (y ∷ ys) e = by (is_of s y) refl e (from_picked s j x ys)
  where
    by : (b : Bool) → is_of s y ≡ b → cond b (Some y) (first_of s ys) ≡ Some x
        → (first_of s ys ≡ Some x → messages_from j (x ∷ without_first_of s ys) ≡ messages_from j ys)
        → messages_from j (x ∷ cond b ys (y ∷ without_first_of s ys)) ≡ messages_from j (y ∷ ys)
    by true is g f = (let same : y ≡ x = cc in ap (λ z. messages_from j (z ∷ ys)) (sym same))
    by false is g f = from_swapped s j x y (without_first_of s ys) (first_is s x ys g) is
        ∙ one_in_front j y (x ∷ without_first_of s ys) ys (f g)

calls_swapped : (s : Sender) (c : ℕ) (x y : Input) (xs : List Input)
    → is_of s x ≡ true
    → is_of s y ≡ false
    → calls_from c (x ∷ (y ∷ xs)) ≡ calls_from c (y ∷ (x ∷ xs))
calls_swapped s c (From k m) (Called d other) xs e f = refl
calls_swapped s c (From k m) (From a n) xs e f = refl
calls_swapped s c (From k m) (Gone a) xs e f = refl
calls_swapped s c (Gone k) (Called d other) xs e f = refl
calls_swapped s c (Gone k) (From a n) xs e f = refl
calls_swapped s c (Gone k) (Gone a) xs e f = refl
calls_swapped s c (Called a n) (From b m) xs e f = refl
calls_swapped s c (Called a n) (Gone b) xs e f = refl
calls_swapped (OfServer q) c (Called a n) (Called b m) xs e f = absurd cc
calls_swapped OfNotices c (Called a n) (Called b m) xs e f = absurd cc
calls_swapped (OfSeat q) c (Called a n) (Called b m) xs e f = elim (cases_eq a c) [
  | inl own ↦
      let other : (b == c) ≡ false = sym (ap (λ z. b == z) (sym (eqb-true a q e) ∙ own)) ∙ f in
      ap (λ t. cond (a == c) (n ∷ cond t (m ∷ calls_from c xs) (calls_from c xs))
      (cond t (m ∷ calls_from c xs) (calls_from c xs))) other
      ∙ sym (ap (λ t. cond t (m ∷ cond (a == c) (n ∷ calls_from c xs) (calls_from c xs))
      (cond (a == c) (n ∷ calls_from c xs) (calls_from c xs))) other)
  | inr apart ↦
      ap (λ t. cond t (n ∷ cond (b == c) (m ∷ calls_from c xs) (calls_from c xs))
      (cond (b == c) (m ∷ calls_from c xs) (calls_from c xs))) (ne_eqb a c apart)
      ∙ sym (ap (λ t. cond (b == c) (m ∷ cond t (n ∷ calls_from c xs) (calls_from c xs))
      (cond t (n ∷ calls_from c xs) (calls_from c xs))) (ne_eqb a c apart))
]

call_in_front : (c : ℕ) (y : Input) (xs ys : List Input)
    → calls_from c xs ≡ calls_from c ys
    → calls_from c (y ∷ xs) ≡ calls_from c (y ∷ ys)
call_in_front c (Called d call) xs ys e = ap (λ ms. cond (d == c) (call ∷ ms) ms) e
call_in_front c (From k m) xs ys e = e
call_in_front c (Gone k) xs ys e = e

-- so do the calls of each seat
pub calls_picked : (s : Sender) (c : ℕ) (x : Input) (xs : List Input)
    → first_of s xs ≡ Some x
    → calls_from c (x ∷ without_first_of s xs) ≡ calls_from c xs
calls_picked s c x [] e = absurd cc
calls_picked s c x (y ∷ ys) e = by (is_of s y) refl e (calls_picked s c x ys)
  where
    by : (b : Bool) → is_of s y ≡ b → cond b (Some y) (first_of s ys) ≡ Some x
        → (first_of s ys ≡ Some x → calls_from c (x ∷ without_first_of s ys) ≡ calls_from c ys)
        → calls_from c (x ∷ cond b ys (y ∷ without_first_of s ys)) ≡ calls_from c (y ∷ ys)
    by true is g f = (let same : y ≡ x = cc in ap (λ z. calls_from c (z ∷ ys)) (sym same))
    by false is g f = calls_swapped s c x y (without_first_of s ys) (first_is s x ys g) is
        ∙ call_in_front c y (x ∷ without_first_of s ys) ys (f g)

in_swapped : {X : Type 0} (x y z : X) (xs : List X) → In z (x ∷ (y ∷ xs)) → In z (y ∷ (x ∷ xs))
in_swapped x y z xs (zero, h) = (1, h)
in_swapped x y z xs (suc zero, h) = (0, h)
in_swapped x y z xs (suc (suc n), h) = (suc (suc n), h)

in_front_too : {X : Type 0} (y z : X) (xs ys : List X) → (In z xs → In z ys) → In z (y ∷ xs) → In z (y ∷ ys)
in_front_too y z xs ys f (zero, h) = (0, h)
in_front_too y z xs ys f (suc n, h) = (let g = f (n, h) in (suc g.0, g.1))

-- and nothing else stands there
pub in_picked : (s : Sender) (x z : Input) (xs : List Input)
    → first_of s xs ≡ Some x
    → In z (x ∷ without_first_of s xs)
    → In z xs
in_picked s x z [] e g = absurd cc
in_picked s x z (y ∷ ys) e g = by (is_of s y) e g (in_picked s x z ys)
  where
    by : (b : Bool) → cond b (Some y) (first_of s ys) ≡ Some x
        → In z (x ∷ cond b ys (y ∷ without_first_of s ys))
        → (first_of s ys ≡ Some x → In z (x ∷ without_first_of s ys) → In z ys)
        → In z (y ∷ ys)
    by true g k f = (let same : y ≡ x = cc in subst (λ u. In z (u ∷ ys)) (sym same) k)
    by false g k f = in_front_too y z (x ∷ without_first_of s ys) ys (f g) (in_swapped x y z (without_first_of s ys) k)
