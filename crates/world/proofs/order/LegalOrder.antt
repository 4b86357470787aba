-- The list of updates and reads is legal, if each update is decided at its number, and each read answered at its
-- own.
use Rattle.std.proofs.Common.{◌≡◌, ℕ, suc, ◌+◌, List, [], ◌∷◌, ◌++◌, map, Some, refl, sym, ap, arith, subst, append-nil}
use Rattle.std.specs.Prelude.{slice_get, ◌==◌}
use Rattle.std.proofs.lemmas.Bool.{cond_both, eqb-true}
use Rattle.table.specs.Plain.{PlainTable, apply}
use Rattle.table.specs.Histories.{IsLegalFrom}
use Rattle.table.specs.declared.operations.Call.{Call}
use Rattle.table.specs.declared.operations.Reply.{Reply}
use Rattle.table.specs.declared.operations.Reply.TheVariants.{Value}
use Rattle.versions.specs.Entries.{LogEntry}
use Rattle.world.specs.Calls.{CallId}
use Rattle.world.specs.Orders.{OrderedCall}
use Rattle.world.proofs.trace.Traces.{AnsweredRead}
use Rattle.world.proofs.order.Placing.{Placed, of_update, of_read, reads_at, placed}

-- what a list of the order says: calls with their replies
abbrev pub said : List Placed → List (Call × Reply)
said ps = map (λ (e : OrderedCall). (e.call, e.reply)) (map (λ (p : Placed). p.entry) ps)

module _ (name : LogEntry → CallId) (asked : CallId → Call) (table : ℕ → PlainTable) where
  -- the k-th update makes of the k-th table the next one
  abbrev pub Makes : ℕ → LogEntry → Type 0
  Makes k e = apply (table k) (asked (name e)).target (asked (name e)).op ≡ (e.reply, table (suc k))

  -- a read is answered from the table of its number
  abbrev pub Shows : AnsweredRead → Type 0
  Shows r = apply (table r.number) (asked r.id).target (asked r.id).op ≡ (Value r.item, table r.number)

  legal_reads : (n q : ℕ) (rs : List AnsweredRead) (rest : List Placed)
      → ((j : ℕ) (r : AnsweredRead) → slice_get rs j ≡ Some r → Shows r)
      → IsLegalFrom (table n) (said rest) → IsLegalFrom (table n) (said (reads_at name asked n q rs ++ rest))
  unfolding reads_at
  legal_reads n q [] rest f l = l
  legal_reads n q (r ∷ rs) rest f l =
      let later = legal_reads n (suc q) rs rest (λ j x h. f (suc j) x h) l in
      cond_both (r.number == n) (of_read name asked q r ∷ reads_at name asked n (suc q) rs)
      (reads_at name asked n (suc q) rs) (λ ps. IsLegalFrom (table n) (said (ps ++ rest)))
      (λ t.
      let here : apply (table n) (asked r.id).target (asked r.id).op ≡ (Value r.item, table n) =
      subst (λ m. apply (table m) (asked r.id).target (asked r.id).op ≡ (Value r.item, table m)) (eqb-true _ _ t)
      (f 0 r refl) in
      (sym (ap (λ (p : Reply × PlainTable). p.0) here), rw (ap (λ (p : Reply × PlainTable). p.1) here) later))
      (λ t. later)

  -- if each update makes the next table, and each read shows its own one, the order is legal from the table on
  pub legal : (rs : List AnsweredRead) (n : ℕ) (es : List LogEntry)
      → ((j : ℕ) (r : AnsweredRead) → slice_get rs j ≡ Some r → Shows r)
      → ((k : ℕ) (e : LogEntry) → slice_get es k ≡ Some e → Makes (n + k) e)
      → IsLegalFrom (table n) (said (placed name asked rs n es))
  unfolding placed
  legal rs n [] f g = whole (reads_at name asked n 0 rs) refl
    where
      whole : (ps : List Placed) → reads_at name asked n 0 rs ≡ ps → IsLegalFrom (table n) (said ps)
      whole ps e = rw e at (rw append-nil at (legal_reads n 0 rs [] f tt))
  legal rs n (e ∷ es) f g =
      let at_n : n + 0 ≡ n = omega arith in
      let here : Makes n e = rw at_n at (g 0 e refl) in
      let behind =
      legal rs (suc n) es f (λ k x h. (let m : n + suc k ≡ suc n + k = omega arith in rw m at (g (suc k) x h))) in
      legal_reads n 0 rs (of_update name asked n e ∷ placed name asked rs (suc n) es) f
      (sym (ap (λ (p : Reply × PlainTable). p.0) here), rw (ap (λ (p : Reply × PlainTable). p.1) here) behind)
