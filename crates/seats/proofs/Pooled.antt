-- The seats of a pool.
use Rattle.std.proofs.Common.{◌≡◌, ◌∙◌, ◌∷◌, ◌++◌, [], List, All, ap, sym, subst, append-nil, append_assoc, arith}
use Rattle.std.proofs.Common.{refl}
use Rattle.std.proofs.lemmas.List.Elements.{All-push, All-same, All-tail}
use Rattle.faces.specs.Histories.{History, IsLater, Instance}
use Rattle.rail.specs.Seats.{SeatState}
use Rattle.seats.specs.SeatPools.{HasAllSeats, IsFreeAt, IsOneOut, Pooling, here}
use Rattle.seats.specs.Submitters.{Submitting, unused}

-- one more
pub all_pushed : (P : Submitting → Type 0) (xs ys : List Submitting) (s : Submitting)
    → ys ≡ xs ++ s ∷ []
    → All P xs
    → P s
    → All P ys
all_pushed P xs ys s e all one = All-same P ys (xs ++ s ∷ []) e (All-push P xs s all one)

-- a seat of this server
pub added : (seen now : History) (seat : SeatState) (s : Submitting) → s ≡ unused seat → seat.instance ≡ now.instance
    → seen ≡ now
    → IsFreeAt seen.instance s
added seen now seat s e at same = (
  ap (λ (x : Submitting). x.seat.instance) e ∙ (at ∙ sym (ap (λ (x : History). x.instance) same)),
  ap (λ (x : Submitting). x.waiting) e,
)

-- the reader has seen more
pub all_later : (P : Instance → Submitting → Type 0) (p q : History) (xs : List Submitting) → IsLater p q
    → All (P p.instance) xs
    → All (P q.instance) xs
all_later P p q xs later all = subst (λ o. All (P o) xs) (sym later.instance) all

-- all but the first
pub all_without : (P : Submitting → Type 0) (xs rest : List Submitting) (s : Submitting) → xs ≡ s ∷ rest → All P xs
    → All P rest
all_without P xs rest s e all = All-tail P s rest (All-same P (s ∷ rest) xs (sym e) all)

-- a seat of the pool's server is one of its reader's
pub at_reader : (P : Instance → Submitting → Type 0) (seen now : History) (s : Submitting)
    → seen ≡ now
    → P now.instance s
    → P seen.instance s
at_reader P seen now s same at = subst (λ (x : History). P x.instance s) (sym same) at

-- either none of its seats is out, or one
pub not_both : {X : Type 0} (p q : Pooling) → p ≡ q → here p ≡ p.seats → IsOneOut q → X
not_both p q same none out = absurd (omega (arith, none, subst IsOneOut (sym same) out))

-- all its seats are as they were
pub all_seats : (p : Pooling) → HasAllSeats p p
all_seats p = record { more = []; seats = refl; count = refl; free = sym (append-nil p.free) }

-- one that was left is free
pub one_freed : (p before after : Pooling) (s : Submitting) → before ≡ p → after.seats ≡ before.seats
    → here after ≡ here before
    → after.free ≡ before.free ++ s ∷ []
    → HasAllSeats p after
one_freed p before after s view seats count free =
    subst (λ q. HasAllSeats q after) view (record { more = s ∷ []; seats = seats; count = count; free = free })

-- and after two steps
pub all_seats_then : (p q r : Pooling) → HasAllSeats p q → HasAllSeats q r → HasAllSeats p r
all_seats_then p q r a b =
    record {
      more = a.more ++ b.more;
      seats = b.seats ∙ a.seats;
      count = b.count ∙ a.count;
      free = b.free ∙ (ap (λ xs. xs ++ b.more) a.free ∙ append_assoc p.free a.more b.more);
    }
