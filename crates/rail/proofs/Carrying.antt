-- What is put to each server, and what the link to it carries.
use Rattle.std.proofs.Common.{◌≡◌, ◌≢◌, ◌⊎◌, inl, inr, ⊎_elim, ℕ, ◌<◌, ◌≤◌, ◌==◌, zero, suc, Bool, true, false}
use Rattle.std.proofs.Common.{if◌then◌else◌, List, [], ◌∷◌, ◌++◌, refl, ap, sym, ◌∙◌, subst, append_assoc, append-nil}
use Rattle.std.proofs.Common.{arith}
use Rattle.std.proofs.lemmas.Bool.Decides.{nat_tests}
use Rattle.node.specs.declared.messages.Peer.{Peer}
use Rattle.rail.specs.Links.{LinksState, HaveCarried, messages_to, all_spelled}

-- a number is itself
pub same : (p : ℕ) → (p == p) ≡ true
same p = grind (arith, nat_tests)

-- and no other
pub other : (p q : ℕ) → p ≢ q → (p == q) ≡ false
other p q n = grind (arith, nat_tests, n)

-- a server is this one, or another
is_it : (j to : ℕ) → (j ≡ to) ⊎ (j ≢ to)
is_it zero zero = inl refl
is_it zero (suc to) = inr (λ e. omega (arith, e))
is_it (suc j) zero = inr (λ e. omega (arith, e))
is_it (suc j) (suc to) =
    ⊎_elim (λ (e : j ≡ to). inl (ap suc e)) (λ (n : j ≢ to). inr (λ e. n (omega (arith, e)))) (is_it j to)

-- a message is one to its receiver
pub to_same : (to : ℕ) (peer : Peer) → messages_to to ((to, peer) ∷ []) ≡ peer ∷ []
to_same to peer = ap (λ (b : Bool). if b then peer ∷ [] else []) (same to)

-- and to no other server
pub to_other : (j to : ℕ) (peer : Peer) → j ≢ to → messages_to j ((to, peer) ∷ []) ≡ []
to_other j to peer n = ap (λ (b : Bool). if b then peer ∷ [] else []) (other to j (λ e. n (sym e)))

one_message : (b : Bool) (p : Peer) (xs ys : List Peer)
    → (if b then p ∷ (xs ++ ys) else xs ++ ys) ≡ (if b then p ∷ xs else xs) ++ ys
one_message true p xs ys = refl
one_message false p xs ys = refl

-- the messages to a server among more of them
pub messages_to-append : (j : ℕ) (xs ys : List (ℕ × Peer))
    → messages_to j (xs ++ ys) ≡ messages_to j xs ++ messages_to j ys
messages_to-append j [] ys = refl
messages_to-append j (m ∷ ms) ys =
    ap (λ l. if m.0 == j then m.1 ∷ l else l) (messages_to-append j ms ys)
    ∙ one_message (m.0 == j) m.1 (messages_to j ms) (messages_to j ys)

all_spelled-append : {C : Type 0} (spelled : Peer → List C) (ps qs : List Peer)
    → all_spelled spelled (ps ++ qs) ≡ all_spelled spelled ps ++ all_spelled spelled qs
all_spelled-append spelled [] qs = refl
all_spelled-append spelled (p ∷ ps) qs =
    ap (λ l. spelled p ++ l) (all_spelled-append spelled ps qs)
    ∙ sym (append_assoc (spelled p) (all_spelled spelled ps) (all_spelled spelled qs))

-- nothing was put, and no link carried anything
pub carried_none : {C : Type 0} (l : LinksState C) → HaveCarried l l
carried_none l = record {
  put = [];
  list = sym (append-nil l.list);
  failures = λ j. omega arith;
  carried = λ j up. sym (append-nil (l.carried j));
  spelled = refl;
}

-- one thing after another
pub carried_on : {C : Type 0} (a b c : LinksState C) → HaveCarried a b → HaveCarried b c → HaveCarried a c
carried_on a b c h k = record {
  put = h.put ++ k.put;
  list = k.list ∙ (ap (λ w. w ++ k.put) h.list ∙ append_assoc a.list h.put k.put);
  failures = λ j. omega (arith, h.failures j, k.failures j);
  carried = λ j up.
      let ps = messages_to j h.put in
      let qs = messages_to j k.put in
      let before : b.failures j ≡ 0 = omega (arith, k.failures j, up) in
      k.carried j up
      ∙ (ap (λ s. b.carried j ++ all_spelled s qs) h.spelled
      ∙ (ap (λ w. w ++ all_spelled a.spelled qs) (h.carried j before)
      ∙ (append_assoc (a.carried j) (all_spelled a.spelled ps) (all_spelled a.spelled qs)
      ∙ ap (λ w. a.carried j ++ w)
      (sym (ap (all_spelled a.spelled) (messages_to-append j h.put k.put) ∙ all_spelled-append a.spelled ps qs)))));
  spelled = k.spelled ∙ h.spelled;
}

module _ {C : Type 0} (l l' : LinksState C) (to : ℕ) (peer : Peer)
    (rise : (j : ℕ) → l.failures j ≤ l'.failures j)
    (elsewhere : (j : ℕ) → j ≢ to → l'.carried j ≡ l.carried j)
    (words : l'.spelled ≡ l.spelled)
  where
    carried_to : l'.carried to ≡ l.carried to ++ l.spelled peer
        → (j : ℕ) → l'.carried j ≡ l.carried j ++ all_spelled l.spelled (messages_to j ((to, peer) ∷ []))
    carried_to given j =
        ⊎_elim
        (λ (e : j ≡ to). subst
        (λ k. l'.carried k ≡ l.carried k ++ all_spelled l.spelled (messages_to k ((to, peer) ∷ []))) (sym e)
        (given ∙ sym (ap (λ ps. l.carried to ++ all_spelled l.spelled ps) (to_same to peer)
        ∙ ap (λ w. l.carried to ++ w) (append-nil (l.spelled peer)))))
        (λ (n : j ≢ to). elsewhere j n
        ∙ sym (ap (λ ps. l.carried j ++ all_spelled l.spelled ps) (to_other j to peer n) ∙ append-nil (l.carried j)))
        (is_it j to)

    -- a message was put
    pub carried_one : l'.list ≡ l.list ++ (to, peer) ∷ []
        → l'.carried to ≡ l.carried to ++ l.spelled peer
        → HaveCarried l l'
    carried_one list given = record {
      put = (to, peer) ∷ [];
      list = list;
      failures = rise;
      carried = λ j up. carried_to given j;
      spelled = words;
    }

    not_carried : (0 < l'.failures to) ⊎ (l'.carried to ≡ l.carried to)
        → (j : ℕ)
        → l'.failures j ≡ 0
        → l'.carried j ≡ l.carried j
    not_carried unput j up =
        ⊎_elim
        (λ (e : j ≡ to). ⊎_elim
        (λ (failed : 0 < l'.failures to). let none : l'.failures to ≡ 0 =
        subst (λ k. l'.failures k ≡ 0) e up in absurd (omega (arith, none, failed)))
        (λ (kept : l'.carried to ≡ l.carried to). subst (λ k. l'.carried k ≡ l.carried k) (sym e) kept) unput)
        (λ (n : j ≢ to). elsewhere j n)
        (is_it j to)

    -- a message was refused
    pub carried_refused : l'.list ≡ l.list → (0 < l'.failures to) ⊎ (l'.carried to ≡ l.carried to) → HaveCarried l l'
    carried_refused list unput = record {
      put = [];
      list = list ∙ sym (append-nil l.list);
      failures = rise;
      carried = λ j up. not_carried unput j up ∙ sym (append-nil (l.carried j));
      spelled = words;
    }
