-- The steps of joining, one after another: the server after each, and all that they put out.
use Rattle.std.proofs.Common.{◌≡◌, ℕ, ◌==◌, ◌&&◌, not, List, ◌++◌, refl, sym, ap, ◌∙◌, append_assoc}
use Rattle.std.proofs.lemmas.Bool.{cond_both}
use Rattle.std.specs.Prelude.{Result, Ok, Err, OnOk}
use Rattle.node.specs.declared.messages.Output.{Output}
use Rattle.node.specs.Views.{View, predecessor, is_same}
use Rattle.node.specs.Servers.{ServerState, RuleResult, predecessor_of}
use Rattle.node.specs.Joining.{promoted_to_head, promoted_to_tail, caught_up, acked_to_predecessor, asks_renewed}
use Rattle.node.specs.Joining.{rejoined}

-- what follows from what a success promises is promised by it too
pub on_ok : {T E : Type 0} (r : Result T E) (P Q : Type 0) → (P → Q) → OnOk r P → OnOk r Q
on_ok (Ok x) P Q f h = f h
on_ok (Err e) P Q f h = h

-- one part more at the end of what was put out
pub one_part : (start sofar done part after : List Output)
    → done ≡ start ++ sofar
    → after ≡ done ++ part
    → after ≡ start ++ (sofar ++ part)
one_part start sofar done part after h put = put ∙ ap (λ d. d ++ part) h ∙ append_assoc start sofar part

-- the fourth and the fifth step leave the server
silent-caught_up : (old : View) (n : ℕ) (s : ServerState) → (caught_up old n s).state ≡ s
unfolding caught_up
silent-caught_up old n s = refl

silent-acked_to_predecessor : (old : View) (n : ℕ) (s : ServerState) → (acked_to_predecessor old n s).state ≡ s
unfolding acked_to_predecessor
silent-acked_to_predecessor old n s =
    cond_both (not (is_same (predecessor old s.id) (predecessor_of s)) && s.store.acked == n) _ _
    (λ (a : RuleResult). a.state ≡ s) (λ t. refl) (λ f. refl)

module _ (old : View) (n m : ℕ) (s : ServerState) where
  third : ServerState
  third = (promoted_to_tail (promoted_to_head old s).state).state

  still : (acked_to_predecessor old m (caught_up old n third).state).state ≡ third
  unfolding third
  still = silent-acked_to_predecessor old m _ ∙ silent-caught_up old n _

  -- the sixth step leaves the server that all steps after the first leave
  pub rejoined_state : (t : ServerState)
      → t ≡ (promoted_to_tail (promoted_to_head old s).state).state
      → (asks_renewed old t).state ≡ (rejoined old n m s).state
  unfolding third
  rejoined_state t is = ap (λ u. (asks_renewed old u).state) (is ∙ sym still)

  -- what the steps after the first put out, one after another, is what they put out together
  pub rejoined_outputs : (t h : ServerState) (start o1 o2 o3 o4 o5 : List Output)
      → h ≡ (promoted_to_head old s).state
      → t ≡ (promoted_to_tail (promoted_to_head old s).state).state
      → o1 ≡ start ++ (promoted_to_head old s).outputs
      → o2 ≡ o1 ++ (promoted_to_tail h).outputs
      → o3 ≡ o2 ++ (caught_up old n t).outputs
      → o4 ≡ o3 ++ (acked_to_predecessor old m t).outputs
      → o5 ≡ o4 ++ (asks_renewed old t).outputs
      → o5 ≡ start ++ (rejoined old n m s).outputs
  unfolding third
  rejoined_outputs t h start o1 o2 o3 o4 o5 head_is is e1 e2 e3 e4 e5 =
      let f2 = one_part start _ o1 _ o2 e1 (e2 ∙ ap (λ u. o1 ++ (promoted_to_tail u).outputs) head_is) in
      let f3 = one_part start _ o2 _ o3 f2 (e3 ∙ ap (λ u. o2 ++ (caught_up old n u).outputs) is) in
      let f4 = one_part start _ o3 _ o4 f3
      (e4 ∙ ap (λ u. o3 ++ (acked_to_predecessor old m u).outputs) (is ∙ sym (silent-caught_up old n _))) in
      one_part start _ o4 _ o5 f4 (e5 ∙ ap (λ u. o4 ++ (asks_renewed old u).outputs) (is ∙ sym still))
