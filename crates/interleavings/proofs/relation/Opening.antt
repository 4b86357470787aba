-- The opening world stands for the opening chain.
use Rattle.std.proofs.Common.{◌≡◌, ℕ, zero, suc, ◌<◌, Bool, true, false, List, [], ◌∷◌, map, Option, None, Some, refl}
use Rattle.std.proofs.Common.{arith, ap, sym, subst, inl, inr}
use Rattle.std.specs.Prelude.{slice_get, slice_index_or, not, nat_lt, ◌==◌, ◌&&◌}
use Rattle.std.proofs.lemmas.Bool.{not-false, ltb-true, cases_Bool}
use Rattle.std.proofs.lemmas.Option.{get_or_from_slice_get}
use Rattle.node.specs.declared.messages.Input.TheVariants.{Gone}
use Rattle.world.specs.Connections.{Connection, fresh}
use Rattle.world.specs.Worlds.{lives, opening_world}
use Rattle.world.proofs.trace.IdLaws.{nowhere}
use Rattle.world.proofs.trace.Outsets.{length-opening_servers, server_outset, link_outset, fresh_at, nothing_in}
use Rattle.interleavings.specs.Chains.{opening_chain, opening_seat}
use Rattle.interleavings.proofs.relation.StandsFor.{IsSeat, Sits, StandsFor, call_at, reply_at}
use Rattle.interleavings.proofs.lists.ChangedFunctions.{same_both}

no_call : (i : ℕ) (o : Option Connection)
    → ((k : Connection) → o ≡ Some k → (home : ℕ) × (k ≡ fresh home))
    → call_at i o ≡ []
no_call i None f = refl
no_call i (Some k) f = let g = f k refl in rw g.1 (same_both (g.0 == i) [])

no_reply : (i : ℕ) (o : Option Connection)
    → ((k : Connection) → o ≡ Some k → (home : ℕ) × (k ≡ fresh home))
    → reply_at i o ≡ []
no_reply i None f = refl
no_reply i (Some k) f = let g = f k refl in rw g.1 (same_both (g.0 == i) [])

none_there : (homes : List ℕ) (c d : ℕ) → slice_get (map fresh homes) c ≡ None → slice_index_or homes c d ≡ d
none_there [] c d h = refl
none_there (x ∷ homes) zero d h = absurd cc
none_there (x ∷ homes) (suc c) d h = none_there homes c d h

beyond : (n : ℕ) → not (nat_lt n n) ≡ true
beyond n = elim (cases_Bool (nat_lt n n)) [
  | inl below ↦ absurd (let no : n < n = ltb-true n n below in omega arith)
  | inr above ↦ ap not above
]

module _ (n : ℕ) (homes : List ℕ) where
  lived : (i : ℕ) → lives (opening_world n homes) i ≡ not (not (nat_lt i n))
  lived i = rw (length-opening_servers n n, nowhere i) (twice (nat_lt i n))
    where
      twice : (b : Bool) → (b && true) ≡ not (not b)
      twice true = refl
      twice false = refl

  sits : (c : ℕ) (o : Option Connection)
      → slice_get (map fresh homes) c ≡ o
      → Sits (opening_chain n homes) (opening_world n homes) o (opening_seat (slice_index_or homes c n))
  sits c None e = record { stopped = rw (none_there homes c n e) (beyond n); none = (refl, refl) }
  sits c (Some k) e =
      let f = fresh_at homes c k e in
      subst (λ x. IsSeat (opening_world n homes) x (opening_seat (slice_index_or homes c n))) (sym f.2) (record {
        home = sym (get_or_from_slice_get homes c f.0 n f.1);
        replies = refl;
        unheard = [];
        calls = refl;
        heard = λ living. refl;
        rested = λ living. record { unread = refl; skipped_block = refl; later = refl; closed = refl };
        tallies = refl;
      })

  -- the opening world does
  pub opens : StandsFor (opening_chain n homes) (opening_world n homes)
  opens = record {
    count = sym (length-opening_servers n n);
    lives = lived;
    servers = λ i e. server_outset n homes i (ltb-true _ _ (not-false _ e));
    links = λ i j e. link_outset n homes i j;
    calls = λ i c e. sym (no_call i _ (λ k h. (let g = fresh_at homes c k h in (g.0, g.2))));
    replies = λ i c e. sym (no_reply i _ (λ k h. (let g = fresh_at homes c k h in (g.0, g.2))));
    notices = λ i j g. absurd (nothing_in (Gone j) g);
    seats = λ c. sits c _ refl;
  }
