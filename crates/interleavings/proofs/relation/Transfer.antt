-- If schedules follow a run, move by move, an order of the calls of the last schedule is one of the run's calls, and is
-- in turn there.
use Rattle.std.proofs.Common.{◌≡◌, ℕ, ◌+◌, ◌<◌, ◌≤◌, true, false, List, [], ◌∷◌, ◌++◌, length, take, Option, None, Some}
use Rattle.std.proofs.Common.{refl, arith, inl, inr, ap, sym, ◌∙◌, subst, length-append}
use Rattle.std.specs.Prelude.{IsSome}
use Rattle.std.proofs.lemmas.Bool.{cases_lt, ltb-true}
use Rattle.std.proofs.lemmas.List.{take_all}
use Rattle.std.proofs.lemmas.Option.{same_Some}
use Rattle.table.specs.declared.operations.Call.{Call}
use Rattle.table.specs.declared.operations.Reply.{Reply}
use Rattle.world.specs.declared.events.Event.{Event}
use Rattle.world.specs.Worlds.{World, run_of}
use Rattle.world.specs.Calls.{CallId}
use Rattle.world.specs.Orders.{OrderedCall}
use Rattle.node.proofs.BegunLists.{found_below}
use Rattle.world.proofs.lists.Standing.{some_of}
use Rattle.world.proofs.moments.AllLaws.{all_moments}
use Rattle.world.proofs.order.Since.{is_some}
use Rattle.interleavings.specs.Chains.{Chain}
use Rattle.interleavings.specs.Moves.{Move, moved}
use Rattle.interleavings.specs.Orders.{begun_call, reply_to, waiting_calls, is_published, IsUpdate, Precedes}
use Rattle.interleavings.specs.Orders.{PublishedBefore, IsLinearization, IsInTurn}
use Rattle.interleavings.proofs.relation.Given.{ShowsCall}
use Rattle.interleavings.proofs.relation.Published.{is_stopped, was_between}
use Rattle.world.specs.Calls as world
use Rattle.world.specs.Orders as schedules

-- what a world shows of calls is what a chain shows: begun calls, at least the replies that seats have, and of calls
-- whose server goes on which are published
pub record Seen (l : Chain) (w : World) : Type 0 where
  pub calls : (x : CallId) (call : Call) → world.begun_call w x ≡ Some call → begun_call l x ≡ Some call
  pub replies : (x : CallId) (reply : Reply) → reply_to l x ≡ Some reply → world.reply_to w x ≡ Some reply
  pub shown : (x : CallId) → is_stopped l x ≡ false → ShowsCall l w x

-- schedules that follow a run: one after each first k moves, each going on from those before it
pub record Follows (count : ℕ) (homes : List ℕ) (moves : List Move) : Type 0 where
  pub at : ℕ → List Event
  pub goes : (j k : ℕ) → j ≤ k → (more : List Event) × (at k ≡ at j ++ more)
  pub seen : (k : ℕ) → Seen (moved count homes (take k moves)) (run_of count homes (at k))

-- the front of two lists that are joined
pub take_front : {X : Type 0} (xs ys : List X) → take (length xs) (xs ++ ys) ≡ xs
take_front [] ys = refl
take_front (x ∷ xs) ys = ap (λ zs. x ∷ zs) (take_front xs ys)

none_of : {X : Type 0} (o p : Option X) → ((x : X) → o ≡ Some x → p ≡ Some x) → p ≡ None → o ≡ None
none_of None p f h = refl
none_of (Some x) p f h = absurd (let no : Some x ≡ None = sym (f x refl) ∙ h in cc)

module _ (count : ℕ) (homes : List ℕ) (moves : List Move) (f : Follows count homes moves) where
  -- after all moves, also if k is more than there are
  run_all : (k : ℕ) → length moves ≤ k → moved count homes (take k moves) ≡ moved count homes moves
  run_all k l = ap (moved count homes) (take_all k moves l)

  seen_last : Seen (moved count homes moves) (run_of count homes (f.at (length moves)))
  seen_last = subst (λ l. Seen l (run_of count homes (f.at (length moves)))) (run_all (length moves) (omega arith))
      (f.seen (length moves))

  precedes_at : (x y : CallId) (k : ℕ)
      → k ≤ length moves
      → IsSome (reply_to (moved count homes (take k moves)) x)
      → begun_call (moved count homes (take k moves)) y ≡ None
      → schedules.Precedes count homes (f.at (length moves)) x y
  precedes_at x y k within answered not_begun =
      let g = f.goes k (length moves) within in
      let same : take (length (f.at k)) (f.at (length moves)) ≡ f.at k =
      ap (take (length (f.at k))) g.1 ∙ take_front (f.at k) g.0 in
      let s = f.seen k in
      let a = some_of (reply_to (moved count homes (take k moves)) x) answered in
      record {
        k = length (f.at k);
        answered = is_some _ a.0 (ap (λ es. world.reply_to (run_of count homes es) x) same ∙ s.replies x a.0 a.1);
        not_begun = ap (λ es. world.begun_call (run_of count homes es) y) same
            ∙ none_of _ _ (λ call h. s.calls y call h) not_begun;
      }

  precedes : (x y : CallId) → Precedes count homes moves x y → schedules.Precedes count homes (f.at (length moves)) x y
  precedes x y p = elim (cases_lt p.k (length moves)) [
    | inl within ↦ precedes_at x y p.k (omega (arith, within)) p.answered p.not_begun
    | inr past ↦
        let same = run_all p.k (omega (arith, past)) ∙ sym (run_all (length moves) (omega arith)) in
        precedes_at x y (length moves) (omega arith)
        (subst (λ l. IsSome (reply_to l x)) same p.answered)
        (subst (λ l. begun_call l y ≡ None) same p.not_begun)
  ]

  -- ---- in turn

  abbrev schedule : List Event
  schedule = f.at (length moves)

  -- a call that was begun in a schedule that this one goes on from is begun in this one
  begun_later : count ≤ 16
      → (es more : List Event) (x : CallId) (call : Call)
      → schedule ≡ es ++ more
      → world.begun_call (run_of count homes es) x ≡ Some call
      → world.begun_call (run_of count homes schedule) x ≡ Some call
  begun_later few es more x call same h =
      let m = all_moments count homes schedule few in
      let n = length schedule in
      let shorter : length es ≤ n = omega (arith, ap (λ xs. length xs) same, length-append es more) in
      let past : (m.at (length es)).world ≡ run_of count homes es =
      m.world (length es) ∙ ap (run_of count homes) (ap (take (length es)) same ∙ take_front es more) in
      let last : (m.at n).world ≡ run_of count homes schedule =
      m.world n ∙ ap (run_of count homes) (take_all n schedule (omega arith)) in
      ap (λ w. world.begun_call w x) (sym last)
      ∙ (m.goes (length es) n shorter None).later.calls x call (ap (λ w. world.begun_call w x) past ∙ h)

  -- an update that was published while its server went on is one of the schedule's
  update_there : count ≤ 16
      → (k : ℕ) (x : CallId)
      → k ≤ length moves
      → is_stopped (moved count homes (take k moves)) x ≡ false
      → is_published (moved count homes (take k moves)) x ≡ true
      → IsUpdate (moved count homes moves) x
      → world.IsUpdate (run_of count homes schedule) x
  update_there few k x within going published update =
      let l = moved count homes (take k moves) in
      let c = found_below (l.seats x.connection).calls x.ordinal (below l published) in
      let g = f.goes k (length moves) within in
      let there = begun_later few (f.at k) g.0 x c.0 g.1 (((f.seen k).shown x going).begun ∙ c.1) in
      let same : c.0 ≡ update.0 =
      same_Some c.0 update.0 (sym (seen_last.calls x c.0 there) ∙ update.1) in
      (c.0, there, rw same update.2)
    where
      below : (l : Chain) → is_published l x ≡ true → x.ordinal < length (l.seats x.connection).calls
      below l h =
          let n = length (l.seats x.connection).calls in
          let less = ltb-true (x.ordinal + length (waiting_calls l x.connection)) n h in
          omega (arith, less)

  given_before : count ≤ 16
      → (x y : CallId) (call : Call)
      → PublishedBefore count homes moves x y
      → world.begun_call (run_of count homes schedule) y ≡ Some call
      → schedules.GivenBefore count homes schedule x y
  given_before few x y call p begun =
      let b = was_between count homes moves x y p.k p.one_server
      (record { published = p.published; not_published = p.not_published }) in
      let going = subst
      (λ i. ((moved count homes (take b.k moves)).servers i).stopped ≡ false) b.one_home b.going in
      let g = f.goes b.k (length moves) b.within in
      let same : take (length (f.at b.k)) schedule ≡ f.at b.k =
      ap (take (length (f.at b.k))) g.1 ∙ take_front (f.at b.k) g.0 in
      let s = f.seen b.k in
      let asked : call ≡ p.later_update.0 =
      same_Some call p.later_update.0 (sym (seen_last.calls y call begun) ∙ p.later_update.1) in
      record {
        k = length (f.at b.k);
        given = ap (λ es. world.is_given (run_of count homes es) x) same ∙ (s.shown x b.going).given
            ∙ b.between.published;
        not_given = ap (λ es. world.is_given (run_of count homes es) y) same ∙ (s.shown y going).given
            ∙ b.between.not_published;
        one_server = p.one_server;
        update = update_there few b.k x b.within b.going b.between.published p.update;
        later_update = (call, begun, rw asked p.later_update.2);
      }

  -- an order of the last schedule is in turn for the run
  pub in_turn : count ≤ 16
      → (h : List OrderedCall)
      → schedules.IsLinearization count homes schedule h
      → IsInTurn count homes moves h
  in_turn few h lin = record {
    in_turn = λ x y j p s.
        let begun = subst (λ z. world.begun_call (run_of count homes schedule) z ≡ Some s.entry.call) s.same
        (lin.begun j s.entry s.here) in
        lin.in_turn x y j (given_before few x y s.entry.call p begun) s;
  }

  -- an order of the last schedule is one of the run
  pub transfer : (h : List OrderedCall)
      → schedules.IsLinearization count homes (f.at (length moves)) h
      → IsLinearization count homes moves h
  transfer h lin = record {
    legal = lin.legal;
    begun = λ i e here. seen_last.calls e.id e.call (lin.begun i e here);
    once = lin.once;
    answered = λ x reply got. lin.answered x reply (seen_last.replies x reply got);
    in_time = λ x y j p s. lin.in_time x y j (precedes x y p) s;
  }
