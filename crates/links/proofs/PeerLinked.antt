-- Which links have failed, what was put on each, and what is made of one of them.
use Rattle.std.proofs.Common.{◌≡◌, ◌≢◌, ap, ℕ, zero, suc, ◌<◌, ◌≤◌, Bool, true, false}
use Rattle.std.proofs.Common.{if◌then◌else◌, ◌∙◌, subst}
use Rattle.std.proofs.Common.{List, [], ◌∷◌, length, slice_index_or, slice_set, nat_lt, refl, sym, arith}
use Rattle.std.proofs.Common.{Result, Ok, Err, OnOk, OnErr, IfErr, IsErrOf, ◌↔◌}
use Rattle.link_streams.specs.declared.faults.StreamFault.{StreamFault}
use Rattle.link_streams.specs.declared.faults.StreamFault.TheVariants.{Unsent}
use Rattle.links.specs.declared.peer_links.PeerLink.{PeerLink}
use Rattle.links.specs.PeerLinks.{changed_at, ended, failures_at, given_at, given_by, kept_at, kept_by, meets_at}
use Rattle.links.specs.PeerLinks.{unwritten_at}
use Rattle.link_streams.specs.Streams.{unwritten}

-- if one is as it was, so are all
pub same_failures : {W : Type 0} (place : ℕ) (ls : List (PeerLink W)) (d x : PeerLink W) (j : ℕ) → place < length ls
    → x.has_failed ≡ (slice_index_or ls place d).has_failed
    → failures_at (slice_set ls place x) j ≡ failures_at ls j
same_failures place [] d x j within same = absurd (omega (arith, within))
same_failures zero (l ∷ ls) d x zero within same = ap (λ b. if b then 1 else 0) same
same_failures zero (l ∷ ls) d x (suc j) within same = refl
same_failures (suc place) (l ∷ ls) d x zero within same = refl
same_failures (suc place) (l ∷ ls) d x (suc j) within same = same_failures place ls d x j (omega (arith, within)) same

-- beyond the last link each has failed
pub beyond : {W : Type 0} (place : ℕ) (ls : List (PeerLink W)) → length ls ≤ place
    → failures_at ls place ≡ 1
beyond place [] out = refl
beyond zero (l ∷ ls) out = absurd (omega (arith, out))
beyond (suc place) (l ∷ ls) out = beyond place ls (omega (arith, out))

counts : (b : Bool) → nat_lt 0 (if b then 1 else 0) ≡ b
counts true = refl
counts false = refl

-- a link has failures exactly if it has failed
pub tells_failed : {W : Type 0} (place : ℕ) (ls : List (PeerLink W)) (d : PeerLink W) → place < length ls
    → (slice_index_or ls place d).has_failed ≡ nat_lt 0 (failures_at ls place)
tells_failed place [] d within = absurd (omega (arith, within))
tells_failed zero (l ∷ ls) d within = sym (counts l.has_failed)
tells_failed (suc place) (l ∷ ls) d within = tells_failed place ls d (omega (arith, within))

-- beyond the last link each has
pub tells_beyond : {W : Type 0} (place : ℕ) (ls : List (PeerLink W)) → length ls ≤ place
    → true ≡ nat_lt 0 (failures_at ls place)
tells_beyond place ls out = rw (beyond place ls out) refl

-- a link that has failed has failures
pub failed_at : {W : Type 0} (place : ℕ) (ls : List (PeerLink W)) (x : PeerLink W) → place < length ls
    → x.has_failed ≡ true
    → 0 < failures_at (slice_set ls place x) place
failed_at place [] x within bad = absurd (omega (arith, within))
failed_at zero (l ∷ ls) x within bad = rw bad omega arith
failed_at (suc place) (l ∷ ls) x within bad = failed_at place ls x (omega (arith, within)) bad

-- what the link to a server was given is what that link was given
pub given_there : {W : Type 0} (place : ℕ) (ls : List (PeerLink W)) (d : PeerLink W) → place < length ls
    → given_by (slice_index_or ls place d) ≡ given_at ls place
given_there place [] d within = absurd (omega (arith, within))
given_there zero (l ∷ ls) d within = refl
given_there (suc place) (l ∷ ls) d within = given_there place ls d (omega (arith, within))

-- the same of a link that was changed
pub given_now : {W : Type 0} (place : ℕ) (ls : List (PeerLink W)) (x : PeerLink W) → place < length ls
    → given_at (slice_set ls place x) place ≡ given_by x
given_now place [] x within = absurd (omega (arith, within))
given_now zero (l ∷ ls) x within = refl
given_now (suc place) (l ∷ ls) x within = given_now place ls x (omega (arith, within))

-- the others were given nothing
pub given_elsewhere : {W : Type 0} (place : ℕ) (ls : List (PeerLink W)) (x : PeerLink W) (j : ℕ)
    → j ≢ place
    → given_at (slice_set ls place x) j ≡ given_at ls j
given_elsewhere place [] x j other = refl
given_elsewhere zero (l ∷ ls) x zero other = absurd (other refl)
given_elsewhere zero (l ∷ ls) x (suc j) other = refl
given_elsewhere (suc place) (l ∷ ls) x zero other = refl
given_elsewhere (suc place) (l ∷ ls) x (suc j) other = given_elsewhere place ls x j (λ same. other (ap suc same))

-- how many bytes the link to a server keeps is how many that link keeps
pub kept_there : {W : Type 0} (place : ℕ) (ls : List (PeerLink W)) (d : PeerLink W) → place < length ls
    → length (kept_by (slice_index_or ls place d)) ≡ kept_at ls place
kept_there place [] d within = absurd (omega (arith, within))
kept_there zero (l ∷ ls) d within = refl
kept_there (suc place) (l ∷ ls) d within = kept_there place ls d (omega (arith, within))

-- what no connection has taken at a place
pub unwritten_there : {W : Type 0} (place : ℕ) (ls : List (PeerLink W)) (d : PeerLink W) → place < length ls
    → length (unwritten (slice_index_or ls place d).stream) ≡ unwritten_at ls place
unwritten_there place [] d within = absurd (omega (arith, within))
unwritten_there zero (l ∷ ls) d within = refl
unwritten_there (suc place) (l ∷ ls) d within = unwritten_there place ls d (omega (arith, within))

-- beyond the last link there is none of it
pub unwritten_beyond : {W : Type 0} (place : ℕ) (ls : List (PeerLink W)) → length ls ≤ place → 0 ≡ unwritten_at ls place
unwritten_beyond place [] out = refl
unwritten_beyond zero (l ∷ ls) out = absurd (omega (arith, out))
unwritten_beyond (suc place) (l ∷ ls) out = unwritten_beyond place ls (omega (arith, out))

-- beyond the last link nothing is kept
pub kept_beyond : {W : Type 0} (place : ℕ) (ls : List (PeerLink W)) → length ls ≤ place → 0 ≡ kept_at ls place
kept_beyond place [] out = refl
kept_beyond zero (l ∷ ls) out = absurd (omega (arith, out))
kept_beyond (suc place) (l ∷ ls) out = kept_beyond place ls (omega (arith, out))

changed_there : {W : Type 0} (change : PeerLink W → PeerLink W) (place : ℕ) (ls : List (PeerLink W))
    (d x : PeerLink W) → place < length ls
    → x ≡ change (slice_index_or ls place d)
    → slice_set ls place x ≡ changed_at change ls place
changed_there change place [] d x within is = absurd (omega (arith, within))
changed_there change zero (l ∷ ls) d x within is = ap (λ y. y ∷ ls) is
changed_there change (suc place) (l ∷ ls) d x within is =
    ap (λ xs. l ∷ xs) (changed_there change place ls d x (omega (arith, within)) is)

-- the links, of which the one to a server was changed so
pub changed_to : {W : Type 0} (change : PeerLink W → PeerLink W) (place to : ℕ) (ls : List (PeerLink W))
    (was x : PeerLink W) → place ≡ to
    → place < length ls
    → was ≡ slice_index_or ls place was
    → x ≡ change was
    → slice_set ls place x ≡ changed_at change ls to
changed_to change place to ls was x same within at is =
    changed_there change place ls was x within (is ∙ ap change at) ∙ ap (λ k. changed_at change ls k) same

-- beyond the last link nothing is changed
pub changed_beyond : {W : Type 0} (change : PeerLink W → PeerLink W) (place : ℕ) (ls : List (PeerLink W))
    → length ls ≤ place
    → ls ≡ changed_at change ls place
changed_beyond change place [] out = refl
changed_beyond change zero (l ∷ ls) out = absurd (omega (arith, out))
changed_beyond change (suc place) (l ∷ ls) out =
    ap (λ xs. l ∷ xs) (changed_beyond change place ls (omega (arith, out)))

meets_there : {W : Type 0} (test : PeerLink W → Bool) (place : ℕ) (ls : List (PeerLink W)) (d : PeerLink W)
    → place < length ls
    → meets_at test ls place ≡ test (slice_index_or ls place d)
meets_there test place [] d within = absurd (omega (arith, within))
meets_there test zero (l ∷ ls) d within = refl
meets_there test (suc place) (l ∷ ls) d within = meets_there test place ls d (omega (arith, within))

-- whether the link to a server meets a test is whether that link does
pub meets_to : {W : Type 0} (test : PeerLink W → Bool) (place to : ℕ) (ls : List (PeerLink W)) (was : PeerLink W)
    (b : Bool) → place ≡ to
    → place < length ls
    → was ≡ slice_index_or ls place was
    → test was ≡ b
    → meets_at test ls to ≡ b
meets_to test place to ls was b same within at is =
    ap (λ k. meets_at test ls k) (sym same) ∙ meets_there test place ls was within ∙ ap test (sym at) ∙ is

-- beyond the last link none does
pub meets_beyond : {W : Type 0} (test : PeerLink W → Bool) (place : ℕ) (ls : List (PeerLink W)) → length ls ≤ place
    → meets_at test ls place ≡ false
meets_beyond test place [] out = refl
meets_beyond test zero (l ∷ ls) out = absurd (omega (arith, out))
meets_beyond test (suc place) (l ∷ ls) out = meets_beyond test place ls (omega (arith, out))

-- a change that puts nothing leaves to each what it was given
pub same_given : {W : Type 0} (change : PeerLink W → PeerLink W) → ((x : PeerLink W) → given_by (change x) ≡ given_by x)
    → (ls : List (PeerLink W)) (j k : ℕ)
    → given_at (changed_at change ls j) k ≡ given_at ls k
same_given change same [] j k = refl
same_given change same (l ∷ ls) zero zero = same l
same_given change same (l ∷ ls) zero (suc k) = refl
same_given change same (l ∷ ls) (suc j) zero = refl
same_given change same (l ∷ ls) (suc j) (suc k) = same_given change same ls j k

-- a change by which none fails
pub none_fails : {W : Type 0} (change : PeerLink W → PeerLink W)
    → ((x : PeerLink W) → (change x).has_failed ≡ x.has_failed)
    → (ls : List (PeerLink W)) (j k : ℕ)
    → failures_at (changed_at change ls j) k ≡ failures_at ls k
none_fails change same [] j k = refl
none_fails change same (l ∷ ls) zero zero = ap (λ b. if b then 1 else 0) (same l)
none_fails change same (l ∷ ls) zero (suc k) = refl
none_fails change same (l ∷ ls) (suc j) zero = refl
none_fails change same (l ∷ ls) (suc j) (suc k) = none_fails change same ls j k

-- whatever is made of one link, the others were given what they were given
pub given_to_others : {W : Type 0} (change : PeerLink W → PeerLink W) (ls : List (PeerLink W)) (j k : ℕ) → k ≢ j
    → given_at (changed_at change ls j) k ≡ given_at ls k
given_to_others change [] j k other = refl
given_to_others change (l ∷ ls) zero zero other = absurd (other refl)
given_to_others change (l ∷ ls) zero (suc k) other = refl
given_to_others change (l ∷ ls) (suc j) zero other = refl
given_to_others change (l ∷ ls) (suc j) (suc k) other =
    given_to_others change ls j k (λ same. other (ap suc same))

-- and they have failed, or haven't, as before
pub others_stay : {W : Type 0} (change : PeerLink W → PeerLink W) (ls : List (PeerLink W)) (j k : ℕ) → k ≢ j
    → failures_at (changed_at change ls j) k ≡ failures_at ls k
others_stay change [] j k other = refl
others_stay change (l ∷ ls) zero zero other = absurd (other refl)
others_stay change (l ∷ ls) zero (suc k) other = refl
others_stay change (l ∷ ls) (suc j) zero other = refl
others_stay change (l ∷ ls) (suc j) (suc k) other = others_stay change ls j k (λ same. other (ap suc same))

-- a link that was ended has failed
pub ended_is_down : {W : Type 0} (ls : List (PeerLink W)) (j : ℕ) → 0 < failures_at (changed_at ended ls j) j
ended_is_down [] j = omega arith
ended_is_down (l ∷ ls) zero = omega arith
ended_is_down (l ∷ ls) (suc j) = ended_is_down ls j

at_most : (b : Bool) → (if b then 1 else 0) ≤ 1
at_most true = omega arith
at_most false = omega arith

-- none that had failed is up again
pub none_fewer : {W : Type 0} (ls : List (PeerLink W)) (j k : ℕ)
    → failures_at ls k ≤ failures_at (changed_at ended ls j) k
none_fewer [] j k = omega arith
none_fewer (l ∷ ls) zero zero = at_most l.has_failed
none_fewer (l ∷ ls) zero (suc k) = omega arith
none_fewer (l ∷ ls) (suc j) zero = omega arith
none_fewer (l ∷ ls) (suc j) (suc k) = none_fewer ls j k

-- what follows from what is known if a call went well, or was refused
pub on_ok : {T E P Q : Type 0} (r : Result T E) → (P → Q) → OnOk r P → OnOk r Q
on_ok (Ok x) makes is = makes is
on_ok (Err e) makes is = tt

pub on_err : {T E P Q : Type 0} (r : Result T E) → (P → Q) → OnErr r P → OnErr r Q
on_err (Ok x) makes is = tt
on_err (Err e) makes is = makes is

-- what follows from both
pub whichever : {T E P Q R : Type 0} (r : Result T E) → OnOk r P → OnErr r Q → (P → R) → (Q → R) → R
whichever (Ok x) well refused one other = one well
whichever (Err e) well refused one other = other refused

-- a confirmation that was taken may be, and one that was refused may not
pub may_be_taken : {T : Type 0} (r : Result T StreamFault) (b : Bool) → (IsErrOf r Unsent ↔ (b ≡ false))
    → OnOk r (b ≡ true)
may_be_taken (Ok x) true tells = refl
may_be_taken (Ok x) false tells = absurd (subst (λ r. IfErr r (λ fault. ⊥)) (tells.1 refl) tt)
may_be_taken (Err e) b tells = tt

pub may_be_refused : {T : Type 0} (r : Result T StreamFault) (b : Bool) → (IsErrOf r Unsent ↔ (b ≡ false))
    → IfErr r (λ fault. fault ≡ Unsent)
    → OnErr r (b ≡ false)
may_be_refused (Ok x) b tells fault = tt
may_be_refused (Err e) b tells fault = tells.0 (ap Err fault)
