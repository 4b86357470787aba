-- What connections do to links that heal.
use Rattle.std.proofs.Common.{◌≡◌, ◌≢◌, ◌≤◌, ◌<◌, ◌∙◌, ℕ, zero, suc, List, [], ◌∷◌, Bool, true, false, if◌then◌else◌}
use Rattle.std.proofs.Common.{◌||◌, ◌&&◌, is_some, nat_lt, length, Option, Some, None}
use Rattle.std.proofs.Common.{◌⊎◌, inl, inr, eqb, arith, refl, sym, subst}
use Rattle.std.proofs.lemmas.Bool.{ltb-false, true≢false}
use Rattle.std.proofs.lemmas.Bool.Decides.{eqb_tells}
use Rattle.links.specs.declared.peer_links.PeerLink.{PeerLink}
use Rattle.links.specs.declared.peer_links.PeerLinks.{PeerLinks}
use Rattle.link_streams.specs.Streams.{unwritten}
use Rattle.links.specs.PeerLinks.{failures_at, given_at, some_waits, waits}
use Rattle.craq_server.specs.Healing.{CarryOn, waiting_at, waiting_for}

-- as they were
pub carry_same : {W : Type 0} (links : PeerLinks W) → CarryOn links links
carry_same links = record { list = refl; failures = λ j. omega arith; given = λ j up. refl }

-- one after another
pub carry_then : {W : Type 0} (a b c : PeerLinks W) → CarryOn a b → CarryOn b c → CarryOn a c
carry_then a b c first second = record {
  list = second.list ∙ first.list;
  failures = λ j. omega (arith, first.failures j, second.failures j);
  given = λ j up. second.given j up ∙ first.given j (omega (arith, second.failures j, up));
}

-- none has failed meanwhile
pub carry_all : {W : Type 0} (before after : PeerLinks W) → after.puts ≡ before.puts
    → ((j : ℕ) → given_at after.links.items j ≡ given_at before.links.items j)
    → ((j : ℕ) → failures_at after.links.items j ≡ failures_at before.links.items j)
    → CarryOn before after
carry_all before after list given failures = record {
  list = list;
  failures = λ j. omega (arith, failures j);
  given = λ j up. given j;
}

-- a link fails once
one_at_most : (b : Bool) → (if b then 1 else 0) ≤ 1
one_at_most true = omega arith
one_at_most false = omega arith

fails_once : {W : Type 0} (links : List (PeerLink W)) (j : ℕ) → failures_at links j ≤ 1
fails_once [] j = omega arith
fails_once (x ∷ xs) zero = one_at_most x.has_failed
fails_once (x ∷ xs) (suc j) = fails_once xs j

-- a link fails, and no other one does
module _ {W : Type 0} (before after : PeerLinks W) (j : ℕ) (down : 0 < failures_at after.links.items j)
    (given : (k : ℕ) → k ≢ j → given_at after.links.items k ≡ given_at before.links.items k)
    (others : (k : ℕ) → k ≢ j → failures_at after.links.items k ≡ failures_at before.links.items k) where
  abbrev Told : ℕ → Type 0
  Told k = ((eqb k j ≡ true) × (k ≡ j)) ⊎ ((eqb k j ≡ false) × (k ≢ j))

  down_at : (k : ℕ) → k ≡ j → 0 < failures_at after.links.items k
  down_at k same = subst (λ n. 0 < failures_at after.links.items n) (sym same) down

  more_fail : (k : ℕ) → Told k → failures_at before.links.items k ≤ failures_at after.links.items k
  more_fail k (inl same) = omega (arith, fails_once before.links.items k, down_at k same.1)
  more_fail k (inr other) = omega (arith, others k other.1)

  still_given : (k : ℕ) → Told k → failures_at after.links.items k ≡ 0
      → given_at after.links.items k ≡ given_at before.links.items k
  still_given k (inl same) up = absurd (omega (arith, down_at k same.1, up))
  still_given k (inr other) up = given k other.1

  pub carry_but_one : after.puts ≡ before.puts → CarryOn before after
  carry_but_one list = record {
    list = list;
    failures = λ k. more_fail k (eqb_tells k j);
    given = λ k. still_given k (eqb_tells k j);
  }

-- of two, neither holds
neither : (a b : Bool) → (a || b) ≡ false → (a ≡ false) × (b ≡ false)
neither false false none = (refl, refl)
neither false true none = absurd (true≢false none)
neither true b none = absurd (true≢false none)

-- nothing waits for a connection that doesn't stand, or at which nothing is unwritten
none_here : {W : Type 0} (sink : Option W) (bytes : List ℕ)
    → (is_some sink && nat_lt 0 (length bytes)) ≡ false → waiting_for sink bytes ≡ []
none_here None bytes none = refl
none_here (Some sink) [] none = refl
none_here (Some sink) (b ∷ bytes) none = absurd (omega (arith, ltb-false 0 (suc (length bytes)) none))

-- if no link waits, nothing waits for any
pub none_waits : {W : Type 0} (links : List (PeerLink W)) (j : ℕ) → some_waits links ≡ false → waiting_at links j ≡ []
none_waits [] j none = refl
none_waits (x ∷ xs) zero none = none_here x.sink (unwritten x.stream) (neither (waits x) (some_waits xs) none).0
none_waits (x ∷ xs) (suc j) none = none_waits xs j (neither (waits x) (some_waits xs) none).1
