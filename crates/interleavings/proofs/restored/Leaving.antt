-- The order of a run's calls leaves the table that a server holds in the end, if it holds no entry above it.
use Rattle.std.proofs.Common.{◌≡◌, ℕ, zero, suc, ◌+◌, ◌≤◌, true, List, [], ◌∷◌, ◌++◌, length, take, drop, map, Some}
use Rattle.std.proofs.Common.{refl, sym, ap, ◌∙◌, arith, subst, append-nil, add-zero}
use Rattle.std.specs.Prelude.{slice_get, ◌==◌, nat_lt, not}
use Rattle.std.proofs.lemmas.Bool.{cond_both, eqb-true, and_parts, not-true}
use Rattle.table.specs.Plain.{PlainTable, opening as empty_table, apply}
use Rattle.table.specs.declared.operations.Call.{Call}
use Rattle.table.specs.declared.operations.Reply.{Reply}
use Rattle.table.specs.declared.operations.Reply.TheVariants.{Value}
use Rattle.versions.specs.Entries.{LogEntry}
use Rattle.versions.specs.Stores.{StoreState, items_after}
use Rattle.node.proofs.Beginnings.{begins-length, begins-take}
use Rattle.world.specs.declared.events.Event.{Event}
use Rattle.world.specs.Calls.{CallId}
use Rattle.world.specs.Orders.{OrderedCall}
use Rattle.world.specs.Worlds.{server, lives, run_of}
use Rattle.world.proofs.trace.Traces.{Traced, AnsweredRead, log, count}
use Rattle.world.proofs.trace.Layers.{Lawful, Holds}
use Rattle.world.proofs.trace.IdLaws.{living_parts}
use Rattle.world.proofs.order.Placing.{Placed, of_update, of_read, reads_at, placed}
use Rattle.world.proofs.order.LegalOrder.{Makes, Shows}
use Rattle.world.proofs.order.Linear.{name_of, asked_of, order_of, table_of, all_make, all_show}
use Rattle.interleavings.specs.Chains.{Chain}
use Rattle.interleavings.specs.Moves.{Move, moved}
use Rattle.interleavings.specs.Asked.{AreAsked}
use Rattle.interleavings.specs.Orders.{IsLinearization, IsInTurn}
use Rattle.interleavings.specs.Restored.{table_after}
use Rattle.interleavings.specs.OrdersFrom.{IsHeld, LeavesWhatIsHeld}
use Rattle.interleavings.proofs.relation.StandsFor.{StandsFor, lives_on}
use Rattle.interleavings.proofs.relation.CommittedOrder.{all, last, last_world, committed_order}
use Rattle.interleavings.proofs.relation.Following.{ordered}
use Rattle.interleavings.proofs.runs.Simulating.{simulates}

-- ---- the table after all updates and reads

-- what a list of the order asks
abbrev asks : List Placed → List Call
asks ps = map (λ (e : OrderedCall). e.call) (map (λ (p : Placed). p.entry) ps)

module _ (name : LogEntry → CallId) (asked : CallId → Call) (table : ℕ → PlainTable) where
  leave_reads : (n q : ℕ) (rs : List AnsweredRead) (rest : List Placed)
      → ((j : ℕ) (r : AnsweredRead) → slice_get rs j ≡ Some r → Shows name asked table r)
      → table_after (table n) (asks (reads_at name asked n q rs ++ rest)) ≡ table_after (table n) (asks rest)
  unfolding reads_at
  leave_reads n q [] rest f = refl
  leave_reads n q (r ∷ rs) rest f =
      let later = leave_reads n (suc q) rs rest (λ j x h. f (suc j) x h) in
      cond_both (r.number == n) (of_read name asked q r ∷ reads_at name asked n (suc q) rs)
      (reads_at name asked n (suc q) rs)
      (λ ps. table_after (table n) (asks (ps ++ rest)) ≡ table_after (table n) (asks rest))
      (λ t.
      let here : apply (table n) (asked r.id).target (asked r.id).op ≡ (Value r.item, table n) =
      subst (λ m. apply (table m) (asked r.id).target (asked r.id).op ≡ (Value r.item, table m)) (eqb-true _ _ t)
      (f 0 r refl) in
      ap (λ (p : Reply × PlainTable). table_after p.1 (asks (reads_at name asked n (suc q) rs ++ rest))) here ∙ later)
      (λ t. later)

  leave_all : (rs : List AnsweredRead) (n : ℕ) (es : List LogEntry)
      → ((j : ℕ) (r : AnsweredRead) → slice_get rs j ≡ Some r → Shows name asked table r)
      → ((k : ℕ) (e : LogEntry) → slice_get es k ≡ Some e → Makes name asked table (n + k) e)
      → table_after (table n) (asks (placed name asked rs n es)) ≡ table (n + length es)
  unfolding placed
  leave_all rs n [] f g =
      ap (λ ps. table_after (table n) (asks ps)) (sym (append-nil (reads_at name asked n 0 rs)))
      ∙ leave_reads n 0 rs [] f
      ∙ ap table (sym (add-zero n))
  leave_all rs n (e ∷ es) f g =
      let at_n : n + 0 ≡ n = omega arith in
      let here : Makes name asked table n e = rw at_n at (g 0 e refl) in
      let behind =
      leave_all rs (suc n) es f (λ k x h. (let m : n + suc k ≡ suc n + k = omega arith in rw m at (g (suc k) x h))) in
      let last : suc n + length es ≡ n + suc (length es) = omega arith in
      leave_reads n 0 rs (of_update name asked n e ∷ placed name asked rs (suc n) es) f
      ∙ ap (λ (p : Reply × PlainTable). table_after p.1 (asks (placed name asked rs (suc n) es))) here
      ∙ behind ∙ ap table last

-- the order of a traced world leaves the table of all committed entries
order_leaves : (t : Traced)
    → Lawful t
    → table_after empty_table (map (λ e. e.call) (order_of t)) ≡ table_of t (length t.committed)
order_leaves t l =
    leave_all (name_of t) (asked_of t) (table_of t) t.reads 0 t.committed (all_show t l)
    (λ k e h. (let m : 0 + k ≡ k = omega arith in rw m (all_make t l k e h)))
    ∙ (let m : 0 + length t.committed ≡ length t.committed = omega arith in ap (table_of t) m)

-- ---- what a living server holds

-- nothing is left of a list after its first n: it is no longer
none_beyond : {X : Type 0} (n : ℕ) (xs : List X) → drop n xs ≡ [] → length xs ≤ n
none_beyond zero [] e = omega arith
none_beyond zero (x ∷ xs) e = absurd cc
none_beyond (suc n) [] e = omega arith
none_beyond (suc n) (x ∷ xs) e = omega (arith, none_beyond n xs e)

-- a living server that holds no entry above its floor holds all that is committed
holds_all : (t : Traced)
    → Lawful t
    → (i : ℕ) (s : StoreState)
    → lives t.world i ≡ true
    → (server t.world i).store ≡ s
    → s.rest ≡ []
    → table_of t (length t.committed) ≡ record { items = s.base; count = s.floor }
holds_all t l i s living same none =
    let within = (living_parts t.world i living).0 in
    let h : Holds (log t i) s = subst (Holds (log t i)) same (l.logged.holds i within) in
    let low : s.acked ≤ length t.committed = subst (λ (u : StoreState). u.acked ≤ length t.committed) same
    (l.logged.within i within) in
    let short = none_beyond s.floor (log t i) (sym h.rest ∙ none) in
    let long = begins-length t.committed (log t i) (l.logged.living i living) in
    let all_of : length t.committed ≡ s.floor = omega (arith, h.floor, low, short, long, h.within) in
    let items : items_after empty_table.items (take (length t.committed) t.committed) ≡ s.base =
    ap (items_after empty_table.items)
    (sym (begins-take (length t.committed) t.committed (log t i) (l.logged.living i living) (omega arith))
    ∙ ap (λ n. take n (log t i)) all_of)
    ∙ sym h.base in
    λ x. record { items = items x; count = all_of x }

-- ---- runs

-- the order of a schedule's calls leaves what is held in a chain for which its world stands
pub leaves_held : (count : ℕ) (homes : List ℕ) (events : List Event) (few : count ≤ 16) (l : Chain)
    → StandsFor l (run_of count homes events)
    → (u : PlainTable)
    → IsHeld l u
    → table_after empty_table (map (λ e. e.call) (committed_order count homes events few)) ≡ u
leaves_held count homes events few l stands u held =
    let t = last count homes events few in
    let lawful = (all count homes events few).lawful (length events) in
    let w = last_world count homes events few in
    let going = not-true _ (and_parts (nat_lt held.server l.count) (not (l.servers held.server).stopped) held.going).1
    in
    let living = subst (λ v. lives v held.server ≡ true) (sym w) (lives_on l (run_of count homes events) held.server
    stands going) in
    let store = ap (λ v. (server v held.server).store) w
    ∙ ap (λ s. s.store) (stands.servers held.server going) in
    order_leaves t lawful
    ∙ holds_all t lawful held.server (l.servers held.server).node.store living store held.whole
    ∙ (λ x. record { items = held.items x; count = held.count x })

-- every run has an order that leaves it
pub order_leaving : (count : ℕ) (homes : List ℕ) (moves : List Move)
    → count ≤ 16
    → AreAsked moves
    → (h : List OrderedCall) × IsLinearization count homes moves h × IsInTurn count homes moves h
    × LeavesWhatIsHeld empty_table (moved count homes moves) h
order_leaving count homes moves few asked =
    let o = ordered count homes (simulates count homes few) moves few asked in (
      committed_order count homes o.0 few,
      o.2,
      o.3,
      λ u held. leaves_held count homes o.0 few (moved count homes moves) o.1 u held,
    )
