-- What is put of a list of messages.
use Rattle.std.proofs.Common.{◌≡◌, ◌≢◌, ◌⊎◌, inl, inr, ⊎_elim, ℕ, ◌+◌, ◌<◌, ◌≤◌, zero, suc, List, [], ◌∷◌, ◌++◌}
use Rattle.std.proofs.Common.{length, take}
use Rattle.std.proofs.Common.{slice_index_or, refl, ap, sym, ◌∙◌, subst, append_assoc, append-nil, arith}
use Rattle.std.proofs.Common.{Ok, Err, OnErr}
use Rattle.std.specs.declared.result.Result.{Result}
use Rattle.node.specs.declared.messages.Peer.{Peer}
use Rattle.node.specs.declared.messages.Output.{Output}
use Rattle.node.specs.declared.messages.Output.TheVariants.{To, Reply as Replied}
use Rattle.node.specs.Lawful.{IsFit, AreFit}
use Rattle.faces.specs.Outputs.{IsAmong}
use Rattle.rail.specs.Links.{LinksState, HaveCarried, messages_to}
use Rattle.rail.specs.Turns.{messages_of, IsLeft, HasPut}
use Rattle.rail.proofs.Carrying.{messages_to-append, to_other}

pub among_at : (x : Output) (xs : List Output) (k : ℕ) (d : Output)
    → k < length xs
    → slice_index_or xs k d ≡ x
    → IsAmong x xs
among_at x [] k d within is = absurd (omega (arith, within))
among_at x (y ∷ ys) zero d within is = inl is
among_at x (y ∷ ys) (suc k) d within is = inr (among_at x ys k d (omega (arith, within)) is)

pub fit_at : (x : Output) (xs : List Output) (k : ℕ) (d : Output)
    → k < length xs
    → slice_index_or xs k d ≡ x
    → AreFit xs
    → IsFit x
fit_at x [] k d within is fit = absurd (omega (arith, within))
fit_at x (y ∷ ys) zero d within is fit = subst IsFit is fit.0
fit_at x (y ∷ ys) (suc k) d within is fit = fit_at x ys k d (omega (arith, within)) is fit.1

pub take_on : (xs : List Output) (k : ℕ) (d : Output)
    → k < length xs
    → take (k + 1) xs ≡ take k xs ++ slice_index_or xs k d ∷ []
take_on [] k d within = absurd (omega (arith, within))
take_on (y ∷ ys) zero d within = refl
take_on (y ∷ ys) (suc k) d within =
    let n : suc k + 1 ≡ suc (k + 1) =
    omega arith in ap (λ m. take m (y ∷ ys)) n ∙ ap (λ l. y ∷ l) (take_on ys k d (omega (arith, within)))

pub messages_of-append : (xs ys : List Output) → messages_of (xs ++ ys) ≡ messages_of xs ++ messages_of ys
messages_of-append [] ys = refl
messages_of-append (To to peer ∷ xs) ys = ap (λ l. (to, peer) ∷ l) (messages_of-append xs ys)
messages_of-append (Replied port reply ∷ xs) ys = messages_of-append xs ys

-- more may be left out
pub left_more : {X : Type 0} (may more : X → Type 0)
    → ((x : X) → may x → more x)
    → (xs ys : List X)
    → IsLeft may xs ys
    → IsLeft more xs ys
left_more may more h [] ys l = l
left_more {X = X} may more h (x ∷ xs) ys l =
    ⊎_elim (λ (t : may x × IsLeft may xs ys). inl (h x t.0, left_more may more h xs ys t.1))
    (λ (t : (rest : List X) × (ys ≡ x ∷ rest) × IsLeft may xs rest). inr (t.0, t.1, left_more may more h xs t.0 t.2)) l

pub left_append : {X : Type 0} (may : X → Type 0) (xs ys us vs : List X)
    → IsLeft may xs us
    → IsLeft may ys vs
    → IsLeft may (xs ++ ys) (us ++ vs)
left_append may [] ys us vs l m = subst (λ w. IsLeft may ys (w ++ vs)) (sym l) m
left_append {X = X} may (x ∷ xs) ys us vs l m =
    ⊎_elim (λ (t : may x × IsLeft may xs us). inl (t.0, left_append may xs ys us vs t.1 m))
    (λ (t : (rest : List X) × (us ≡ x ∷ rest) × IsLeft may xs rest). inr
    (t.0 ++ vs, ap (λ w. w ++ vs) t.1, left_append may xs ys t.0 vs t.2 m)) l

fails_still : (f g : ℕ → ℕ) → ((j : ℕ) → f j ≤ g j) → (m : ℕ × Peer) → 0 < f m.0 → 0 < g m.0
fails_still f g rise m failed = omega (arith, rise m.0, failed)

-- no link has failed, or it has
is_up : (n : ℕ) → (n ≡ 0) ⊎ (0 < n)
is_up zero = inl refl
is_up (suc n) = inr (omega arith)

-- another server than one whose link is up
is_other : (f : ℕ → ℕ) (j to : ℕ) → 0 < f j → f to ≡ 0 → j ≢ to
is_other f j to failed up e = let down : 0 < f to = subst (λ k. 0 < f k) e failed in omega (arith, down, up)

-- nothing is put yet
pub put_none : {C : Type 0} (l : LinksState C) → HasPut l l []
put_none l = record {
  put = [];
  list = sym (append-nil l.list);
  order = refl;
  beginning = λ j. ([], refl);
  whole = λ j up. refl;
  down = λ j failed. refl;
}

-- a message was put
pub put_one : {C : Type 0} (l l' : LinksState C) (to : ℕ) (peer : Peer)
    → l.failures to ≡ 0
    → l'.list ≡ l.list ++ (to, peer) ∷ []
    → HasPut l l' ((to, peer) ∷ [])
put_one l l' to peer up list = record {
  put = (to, peer) ∷ [];
  list = list;
  order = inr ([], refl, refl);
  beginning = λ j. ([], sym (append-nil (messages_to j ((to, peer) ∷ []))));
  whole = λ j still. refl;
  down = λ j failed. to_other j to peer (is_other l.failures j to failed up);
}

-- a message was left out
pub put_left : {C : Type 0} (l l' : LinksState C) (to : ℕ) (peer : Peer)
    → 0 < l'.failures to
    → l'.list ≡ l.list
    → HasPut l l' ((to, peer) ∷ [])
put_left l l' to peer failed list = record {
  put = [];
  list = list ∙ sym (append-nil l.list);
  order = inl (failed, refl);
  beginning = λ j. (messages_to j ((to, peer) ∷ []), refl);
  whole = λ j up. sym (to_other j to peer (λ e. is_other l'.failures to j failed up (sym e)));
  down = λ j before. refl;
}

module _ {C : Type 0} (a b c : LinksState C) (rise : (j : ℕ) → b.failures j ≤ c.failures j) where
  -- a link failed meanwhile
  pub put_failing : (ms : List (ℕ × Peer)) → c.list ≡ b.list → HasPut a b ms → HasPut a c ms
  put_failing ms list p = record {
    put = p.put;
    list = list ∙ p.list;
    order =
        left_more (λ m. 0 < b.failures m.0) (λ m. 0 < c.failures m.0) (fails_still b.failures c.failures rise) ms p.put
        p.order;
    beginning = p.beginning;
    whole = λ j up. p.whole j (omega (arith, rise j, up));
    down = p.down;
  }

module _ {C : Type 0} (a b c : LinksState C) (ms ns : List (ℕ × Peer)) (p : HasPut a b ms) (q : HasPut b c ns)
    (earlier : (j : ℕ) → a.failures j ≤ b.failures j)
    (rise : (j : ℕ) → b.failures j ≤ c.failures j)
  where
    -- if a link is up, all was put on it so far, and now a beginning of the rest
    goes_on : (j : ℕ) → b.failures j ≡ 0
        → (rest : List Peer) × (messages_to j (ms ++ ns) ≡ messages_to j (p.put ++ q.put) ++ rest)
    goes_on j up =
        let more = q.beginning j in (
          more.0,
          messages_to-append j ms ns
              ∙ ((λ i. sym (p.whole j up) i ++ more.1 i)
              ∙ (sym (append_assoc (messages_to j p.put) (messages_to j q.put) more.0)
              ∙ ap (λ l. l ++ more.0) (sym (messages_to-append j p.put q.put)))),
        )

    -- if it has failed, nothing was put on it now
    stands_still : (j : ℕ) → 0 < b.failures j
        → (rest : List Peer) × (messages_to j (ms ++ ns) ≡ messages_to j (p.put ++ q.put) ++ rest)
    stands_still j failed =
        let before = p.beginning j in
        let nothing : messages_to j (p.put ++ q.put) ≡ messages_to j p.put =
        messages_to-append j p.put q.put
        ∙ (ap (λ l. messages_to j p.put ++ l) (q.down j failed) ∙ append-nil (messages_to j p.put)) in (
          before.0 ++ messages_to j ns,
          messages_to-append j ms ns
              ∙ (ap (λ l. l ++ messages_to j ns) before.1
              ∙ (append_assoc (messages_to j p.put) before.0 (messages_to j ns)
              ∙ ap (λ l. l ++ (before.0 ++ messages_to j ns)) (sym nothing))),
        )

    all_up : (j : ℕ) → c.failures j ≡ 0 → messages_to j (p.put ++ q.put) ≡ messages_to j (ms ++ ns)
    all_up j up =
        let still : b.failures j ≡ 0 = omega (arith, rise j, up) in
        messages_to-append j p.put q.put
        ∙ ((λ i. p.whole j still i ++ q.whole j up i) ∙ sym (messages_to-append j ms ns))

    none_down : (j : ℕ) → 0 < a.failures j → messages_to j (p.put ++ q.put) ≡ []
    none_down j failed =
        let still : 0 < b.failures j = omega (arith, earlier j, failed) in
        messages_to-append j p.put q.put
        ∙ (ap (λ l. l ++ messages_to j q.put) (p.down j failed) ∙ q.down j still)

    -- the messages of one output more
    pub put_on : HasPut a c (ms ++ ns)
    put_on = record {
      put = p.put ++ q.put;
      list = q.list ∙ (ap (λ w. w ++ q.put) p.list ∙ append_assoc a.list p.put q.put);
      order = left_append (λ m. 0 < c.failures m.0) ms ns p.put q.put
          (left_more (λ m. 0 < b.failures m.0) (λ m. 0 < c.failures m.0) (fails_still b.failures c.failures rise) ms
          p.put p.order) q.order;
      beginning = λ j.
          ⊎_elim (λ (up : b.failures j ≡ 0). goes_on j up) (λ (failed : 0 < b.failures j). stands_still j failed)
          (is_up (b.failures j));
      whole = all_up;
      down = none_down;
    }

one_more : (xs : List Output) (k : ℕ) (d : Output)
    → k < length xs
    → messages_of (take (k + 1) xs) ≡ messages_of (take k xs) ++ messages_of (slice_index_or xs k d ∷ [])
one_more xs k d within =
    ap messages_of (take_on xs k d within) ∙ messages_of-append (take k xs) (slice_index_or xs k d ∷ [])

-- a message more
pub put_next : {C : Type 0} (xs : List Output) (k : ℕ) (d : Output) (to : ℕ) (peer : Peer) (a b c : LinksState C)
    → k < length xs
    → slice_index_or xs k d ≡ To to peer
    → HaveCarried a b
    → HaveCarried b c
    → HasPut a b (messages_of (take k xs))
    → HasPut b c ((to, peer) ∷ [])
    → HasPut a c (messages_of (take (k + 1) xs))
put_next xs k d to peer a b c within is before now p q =
    let one : HasPut b c (messages_of (slice_index_or xs k d ∷ [])) =
    subst (λ (o : Output). HasPut b c (messages_of (o ∷ []))) (sym is) q in
    subst (HasPut a c) (sym (one_more xs k d within))
    (put_on a b c (messages_of (take k xs)) (messages_of (slice_index_or xs k d ∷ [])) p one before.failures
    now.failures)

-- no message more
pub put_same : {C : Type 0} (xs : List Output) (k : ℕ) (d : Output) (a b : LinksState C)
    → k < length xs
    → messages_of (slice_index_or xs k d ∷ []) ≡ []
    → HasPut a b (messages_of (take k xs))
    → HasPut a b (messages_of (take (k + 1) xs))
put_same xs k d a b within none p =
    subst (HasPut a b)
    (sym (one_more xs k d within
    ∙ (ap (λ l. messages_of (take k xs) ++ l) none ∙ append-nil (messages_of (take k xs))))) p

pub on_err : {T E : Type 0} (r : Result T E) (P : Type 0) → P → OnErr r P
on_err (Ok x) P p = tt
on_err (Err e) P p = p
