-- Reading numbers one after another, as a loop does.
use Rattle.std.proofs.Common.{◌≡◌, ℕ, suc, ◌-◌, ◌+◌, ◌≤◌, ◌<◌, List, [], ◌∷◌, ◌++◌, Option, Some, None}
use Rattle.std.proofs.Common.{refl, sym, ap, ◌∙◌, append_assoc, arith}
use Rattle.std.proofs.lemmas.List.{append-nil}
use Rattle.control_messages.specs.Readings.{◌>>=◌, number_at, several_at, members_at}

-- what was read before, and what is still read
abbrev pub with_front : List ℕ → Option (List ℕ × List ℕ) → Option (List ℕ × List ℕ)
with_front front read = read >>= λ x. Some (front ++ x.0, x.1)

regroup : (front : List ℕ) (n : ℕ) (read : Option (List ℕ × List ℕ))
    → with_front front (read >>= λ x. Some (n ∷ x.0, x.1)) ≡ with_front (front ++ n ∷ []) read
regroup front n (Some x) = ap (λ (ns : List ℕ). Some (ns, x.1)) (simp append_assoc)
regroup front n None = refl

-- a number more is read
pub goes_on : (front : List ℕ) (count i : ℕ) (bytes : List ℕ) (n : ℕ) (after : List ℕ)
    (total : Option (List ℕ × List ℕ))
    → i < count
    → number_at bytes ≡ Some (n, after)
    → with_front front (several_at (count - i) bytes) ≡ total
    → with_front (front ++ n ∷ []) (several_at (count - (i + 1)) after) ≡ total
unfolding several_at
goes_on front count i bytes n after total lt h so_far =
    let k : count - i ≡ suc (count - (i + 1)) = omega arith in
    let one : with_front front (several_at (count - i) bytes)
    ≡ with_front (front ++ n ∷ []) (several_at (count - (i + 1)) after) =
    rw (k, h) (regroup front n (several_at (count - (i + 1)) after)) in sym one ∙ so_far

-- a number is missing
pub ends : (front : List ℕ) (count i : ℕ) (bytes : List ℕ) (total : Option (List ℕ × List ℕ))
    → i < count
    → number_at bytes ≡ None
    → with_front front (several_at (count - i) bytes) ≡ total
    → total ≡ None
unfolding several_at
ends front count i bytes total lt h so_far =
    let k : count - i ≡ suc (count - (i + 1)) = omega arith in
    let one : with_front front (several_at (count - i) bytes) ≡ None = rw (k, h) refl in sym so_far ∙ one

-- all are read
pub is_done : (front : List ℕ) (count i : ℕ) (bytes : List ℕ) (total : Option (List ℕ × List ℕ))
    → count ≤ i
    → with_front front (several_at (count - i) bytes) ≡ total
    → total ≡ Some (front, bytes)
unfolding several_at
is_done front count i bytes total le so_far =
    let k : count - i ≡ 0 = omega arith in
    let one : with_front front (several_at (count - i) bytes) ≡ Some (front, bytes) =
    rw k (ap (λ (ns : List ℕ). Some (ns, bytes)) (append-nil front)) in sym so_far ∙ one

-- members are read if sixteen numbers are
pub members_some : (bytes processes rest : List ℕ)
    → several_at 16 bytes ≡ Some (processes, rest)
    → members_at bytes ≡ Some (record { processes = processes }, rest)
unfolding members_at
members_some bytes processes rest e = ap (λ r. r >>= λ x. Some (record { processes = x.0 }, x.1)) e

pub members_none : (bytes : List ℕ) → several_at 16 bytes ≡ None → members_at bytes ≡ None
unfolding members_at
members_none bytes e = ap (λ r. r >>= λ x. Some (record { processes = x.0 }, x.1)) e

-- at first nothing was read
pub starts : (read : Option (List ℕ × List ℕ)) → with_front [] read ≡ read
starts (Some x) = refl
starts None = refl
