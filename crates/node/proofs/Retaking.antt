-- The own calls that a new head takes, one after another.
use Rattle.std.proofs.Common.{◌≡◌, ℕ, zero, suc, ◌+◌, true, List, [], ◌∷◌, drop, get_or, Option, Some, None, refl, sym}
use Rattle.std.proofs.Common.{ap, ◌∙◌, arith}
use Rattle.std.proofs.lemmas.Bool.{cond_both}
use Rattle.std.proofs.lemmas.Option.{same_Some}
use Rattle.table.specs.Operations.{is_update}
use Rattle.table.specs.declared.operations.Call.{Call}
use Rattle.node.specs.declared.servers.OpenUpdate.{OpenUpdate}
use Rattle.node.specs.Servers.{ServerState}
use Rattle.node.specs.Numbering.{taken, is_taken, appended}
use Rattle.node.specs.Joining.{call_at, taken_all}
use Rattle.node.specs.Lawful.{IsCall, AreUpdates}

-- the call at a place, and those after it
pub record IsCallAt (us : List OpenUpdate) (i : ℕ) (id : ℕ) (made : Call) : Type 0 where
  pub update : OpenUpdate
  pub is_id : id ≡ update.id
  pub is_call : made ≡ update.call
  pub rest : drop i us ≡ update ∷ drop (i + 1) us

-- a call that is found at a place stands there
pub call_at_is : (us : List OpenUpdate) (i : ℕ) (id : ℕ) (made : Call)
    → ◌≡◌ {A = Option (ℕ × Call)} (Some (id, made)) (call_at us i)
    → IsCallAt us i id made
call_at_is [] i id made h = absurd cc
call_at_is (u ∷ us) zero id made h =
    let same = same_Some (id, made) (u.id, u.call) h in
    record {
      update = u;
      is_id = ap (λ (p : ℕ × Call). p.0) same;
      is_call = ap (λ (p : ℕ × Call). p.1) same;
      rest = refl;
    }
call_at_is (u ∷ us) (suc i) id made h =
    let g = call_at_is us i id made h in
    let next : suc i + 1 ≡ suc (i + 1) = omega arith in
    record { update = g.update; is_id = g.is_id; is_call = g.is_call; rest = rw next g.rest }

-- if no call is found at a place, none is after it
pub no_call_at : (us : List OpenUpdate) (i : ℕ) → ◌≡◌ {A = Option (ℕ × Call)} None (call_at us i) → drop i us ≡ []
no_call_at [] zero h = refl
no_call_at [] (suc i) h = refl
no_call_at (u ∷ us) zero h = absurd cc
no_call_at (u ∷ us) (suc i) h = no_call_at us i h

-- an own call that waits fits, and is an update
pub waiting : (above : ℕ) (us : List OpenUpdate) (next_id i : ℕ) (u : OpenUpdate) (rest : List OpenUpdate)
    → AreUpdates above us next_id
    → drop i us ≡ u ∷ rest
    → IsCall u.call × (is_update u.call.op ≡ true)
waiting above [] next_id zero u rest h e = absurd cc
waiting above [] next_id (suc i) u rest h e = absurd cc
waiting above (v ∷ us) next_id zero u rest h e =
    let same : v ≡ u = ap (λ (xs : List OpenUpdate). get_or xs 0 v) e in rw (← same) (h.1, h.2)
waiting above (v ∷ us) next_id (suc i) u rest h e = waiting v.id us next_id i u rest h.3 e

-- taking an update leaves the own calls that wait as they are
pub pend-taken : (s : ServerState) (origin id : ℕ) (made : Call) → (taken s origin id made).pend ≡ s.pend
unfolding taken appended
pend-taken s origin id made =
    cond_both (is_taken s origin id) _ _ (λ (t : ServerState). t.pend ≡ s.pend) (λ t. refl) (λ f. refl)

taken_all_more : (s : ServerState) (u : OpenUpdate) (us : List OpenUpdate)
    → taken_all s (u ∷ us) ≡ taken_all (taken s s.id u.id u.call) us
unfolding taken_all
taken_all_more s u us = refl

taken_all_none : (s : ServerState) → taken_all s [] ≡ s
unfolding taken_all
taken_all_none s = refl

-- one call more was taken
pub taken_step : (whole s next : ServerState) (i id : ℕ) (made : Call)
    → IsCallAt s.pend i id made
    → next ≡ taken s s.id id made
    → whole ≡ taken_all s (drop i s.pend)
    → whole ≡ taken_all next (drop (i + 1) next.pend)
taken_step whole s next i id made at is h =
    let stays : next.pend ≡ s.pend = ap (λ (t : ServerState). t.pend) is ∙ pend-taken s s.id id made in
    h ∙ ap (taken_all s) at.rest ∙ taken_all_more s at.update _
    ∙ ap (λ (t : ServerState). taken_all t (drop (i + 1) s.pend))
    (ap (λ n. taken s s.id n at.update.call) (sym at.is_id) ∙ ap (taken s s.id id) (sym at.is_call) ∙ sym is)
    ∙ ap (λ us. taken_all next (drop (i + 1) us)) (sym stays)

-- with no own call left, all are taken
pub taken_end : (whole s : ServerState) (i : ℕ) → drop i s.pend ≡ [] → whole ≡ taken_all s (drop i s.pend) → s ≡ whole
taken_end whole s i none h = sym (h ∙ ap (taken_all s) none ∙ taken_all_none s)
