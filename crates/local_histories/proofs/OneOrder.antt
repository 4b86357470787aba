-- The order of the calls of a run of events is that of its moves.
use Rattle.std.proofs.Common.{◌≡◌, ℕ, ◌+◌, ◌<◌, ◌≤◌, List, [], length, take, drop, Some, ap, sym}
use Rattle.std.proofs.Common.{◌∙◌, subst, arith, length-append}
use Rattle.std.specs.Prelude.{slice_get, nat_lt, IsSome}
use Rattle.std.proofs.lemmas.List.{take_all, take-append-drop}
use Rattle.std.proofs.lemmas.Option.{get_or_from_slice_get}
use Rattle.world.specs.Calls.{CallId}
use Rattle.world.specs.Orders.{OrderedCall}
use Rattle.interleavings.specs.Asked.{AreAsked}
use Rattle.interleavings.specs.Chains.{Chain, listed, queue, calls_from}
use Rattle.interleavings.specs.Moves.{Move}
use Rattle.interleavings.specs.Orders as moves
use Rattle.interleavings.specs.OtherMoves.{moved_by, PrecedesBy, IsLinearizationBy, is_published_from}
use Rattle.interleavings.specs.OtherMoves.{PublishedBeforeBy, IsInTurnBy}
use Rattle.interleavings.specs.OwnPorts.{own_port, with_own_ports}
use Rattle.interleavings.proofs.lists.Joined.{calls_from-append}
use Rattle.interleavings.proofs.ports.OwnPortRuns.{one_order}
use Rattle.interleavings.proofs.relation.Published.{same_less}
use Rattle.interleavings.proofs.relation.Transfer.{take_front}
use Rattle.local_histories.specs.Events.{Event}
use Rattle.local_histories.specs.Objects.{OpenedChain, sent_from, shown_by}
use Rattle.local_histories.specs.Standing.{begun_at, given_to, StandsForChain, all_moves_after, all_moves, home_of}
use Rattle.local_histories.specs.Standing.{port_of}
use Rattle.local_histories.specs.CallOrders.{begun_call, reply_to, is_shown, Precedes, ShownBefore, IsOrderOf, IsInTurn}
use Rattle.local_histories.specs.Following.{AreRun}
use Rattle.local_histories.proofs.Runs.{moves_in_two}

module _ (s : OpenedChain) (es : List Event) (run : AreRun s es) where
  abbrev does : Chain → Move → Chain
  does = with_own_ports s.homes

  abbrev chain : List Event → Chain
  chain fs = moved_by does s.count s.homes (all_moves s fs)

  stands : StandsForChain s es (chain es)
  stands = subst (λ fs. StandsForChain s fs (chain fs)) (take_all (length es) es (omega arith)) (run.stands (length es))

  asked : AreAsked (all_moves s es)
  asked = subst (λ fs. AreAsked (all_moves s fs)) (take_all (length es) es (omega arith)) (run.asked (length es))

  -- both have the same calls and replies
  calls_same : (fs : List Event) (x : CallId)
      → StandsForChain s fs (chain fs)
      → moves.begun_call (chain fs) x ≡ begun_call s fs x
  calls_same fs x h = ap (λ cs. slice_get cs x.ordinal) (h.seats x.connection).calls

  replies_same : (fs : List Event) (x : CallId)
      → StandsForChain s fs (chain fs)
      → moves.reply_to (chain fs) x ≡ reply_to s fs x
  replies_same fs x h = ap (λ rs. slice_get rs x.ordinal) (h.seats x.connection).got

  -- the first moves are those of the first events
  abbrev many : ℕ → ℕ
  many k = length (all_moves s (take k es))

  front : (k : ℕ) → take (many k) (all_moves s es) ≡ all_moves s (take k es)
  front k =
      ap (λ fs. take (many k) (all_moves s fs)) (sym (take-append-drop k es))
      ∙ ap (take (many k)) (moves_in_two s [] (take k es) (drop k es))
      ∙ take_front (all_moves s (take k es)) (all_moves_after s (take k es) (drop k es))

  chain_front : (k : ℕ) → moved_by does s.count s.homes (take (many k) (all_moves s es)) ≡ chain (take k es)
  chain_front k = ap (moved_by does s.count s.homes) (front k)

  precedes_too : (x y : CallId) → Precedes s es x y → PrecedesBy does s.count s.homes (all_moves s es) x y
  precedes_too x y p = record {
    k = many p.k;
    answered = subst (λ o. IsSome o)
        (sym (replies_same (take p.k es) x (run.stands p.k)) ∙ ap (λ l. moves.reply_to l x) (sym (chain_front p.k)))
        p.answered;
    not_begun = ap (λ l. moves.begun_call l y) (chain_front p.k) ∙ calls_same (take p.k es) y (run.stands p.k)
        ∙ p.not_begun;
  }

  -- a call is published in the model exactly if the face after it is shown
  shown_same : (fs : List Event) (x : CallId) (i : ℕ)
      → StandsForChain s fs (chain fs)
      → slice_get s.homes x.connection ≡ Some i
      → i < s.count
      → is_published_from (own_port s.count s.homes) (chain fs) x ≡ is_shown s fs x
  shown_same fs x i h here within =
      let c = x.connection in
      let p = port_of s c in
      let l = chain fs in
      let sits = (h.seats c).home in
      let at : home_of s c ≡ i = get_or_from_slice_get s.homes c i s.count here in
      let there : home_of s c < s.count = omega (arith, at, within) in
      let server = h.servers (home_of s c) there in
      let r = l.servers (home_of s c) in
      let calls : length (l.seats c).calls ≡ length (begun_at (home_of s c) p fs) =
      ap (λ xs. length xs) (h.seats c).calls in
      let sent : length (sent_from (home_of s c) p fs)
      ≡ length (calls_from p (given_to (home_of s c) fs)) + length (calls_from p r.inbox) =
      ap (λ xs. length xs) (server.calls p)
      ∙ length-append (calls_from p (given_to (home_of s c) fs)) (calls_from p r.inbox) in
      let given : length (calls_from p (given_to (home_of s c) fs))
      ≡ length (calls_from p (shown_by (home_of s c) fs)) + length (calls_from p (listed r.unpublished)) =
      ap (λ xs. length (calls_from p xs)) server.unpublished
      ∙ ap (λ xs. length xs) (calls_from-append p (shown_by (home_of s c) fs) (listed r.unpublished))
      ∙ length-append (calls_from p (shown_by (home_of s c) fs)) (calls_from p (listed r.unpublished)) in
      let waits : length (calls_from p (queue r))
      ≡ length (calls_from p (listed r.unpublished)) + length (calls_from p r.inbox) =
      ap (λ xs. length xs) (calls_from-append p (listed r.unpublished) r.inbox)
      ∙ length-append (calls_from p (listed r.unpublished)) (calls_from p r.inbox) in
      ap (λ k. nat_lt (x.ordinal + length (calls_from p (queue (l.servers k)))) (length (l.seats c).calls)) sits
      ∙ same_less (x.ordinal + length (calls_from p (queue r))) (length (l.seats c).calls)
      (x.ordinal + length (sent_from (home_of s c) p fs))
      (length (begun_at (home_of s c) p fs) + length (calls_from p (shown_by (home_of s c) fs)))
      (omega (arith, calls, sent, given, waits))

  published_too : (x y : CallId)
      → ShownBefore s es x y
      → PublishedBeforeBy does (own_port s.count s.homes) s.count s.homes (all_moves s es) x y
  published_too x y p = record {
    k = many p.k;
    published = ap (λ l. is_published_from (own_port s.count s.homes) l x) (chain_front p.k)
        ∙ shown_same (take p.k es) x p.server (run.stands p.k) p.here p.of_chain ∙ p.shown;
    not_published = ap (λ l. is_published_from (own_port s.count s.homes) l y) (chain_front p.k)
        ∙ shown_same (take p.k es) y p.server (run.stands p.k) p.there p.of_chain ∙ p.not_shown;
    server = p.server;
    of_chain = p.of_chain;
    here = p.here;
    there = p.there;
    update = (p.update.0, calls_same es x stands ∙ p.update.1, p.update.2);
    later_update = (p.later_update.0, calls_same es y stands ∙ p.later_update.1, p.later_update.2);
  }

  order_too : (h : List OrderedCall)
      → IsLinearizationBy does s.count s.homes (all_moves s es) h
      → IsOrderOf s es h
  order_too h o = record {
    legal = o.legal;
    begun = λ i e here. sym (calls_same es e.id stands) ∙ o.begun i e here;
    once = o.once;
    answered = λ x reply got. o.answered x reply (replies_same es x stands ∙ got);
    in_time = λ x y j p at. o.in_time x y j (precedes_too x y p) at;
  }

  in_turn_too : (h : List OrderedCall)
      → IsInTurnBy does (own_port s.count s.homes) s.count s.homes (all_moves s es) h
      → IsInTurn s es h
  in_turn_too h o = record { in_turn = λ x y j p at. o.in_turn x y j (published_too x y p) at }

  -- so there is one, in turn
  pub order_of_run : s.count ≤ 16 → (h : List OrderedCall) × IsOrderOf s es h × IsInTurn s es h
  order_of_run few =
      let o = one_order s.count s.homes (all_moves s es) few asked in
      (o.0, order_too o.0 o.1, in_turn_too o.0 o.2)
