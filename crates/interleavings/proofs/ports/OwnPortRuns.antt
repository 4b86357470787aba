-- Every run with own ports has an order of its calls: that of the run with the seats' numbers as ports.
use Rattle.std.proofs.Common.{◌≡◌, ℕ, ◌<◌, ◌≤◌, List, [], ◌∷◌, map, take, Some, arith, ap, sym, ◌∙◌, subst}
use Rattle.std.specs.Prelude.{slice_get, slice_index_or, ◌==◌, IsSome}
use Rattle.std.proofs.lemmas.Bool.{cond_both}
use Rattle.std.proofs.lemmas.List.{take-map}
use Rattle.std.proofs.lemmas.Option.{get_or_from_slice_get}
use Rattle.world.specs.Calls.{CallId}
use Rattle.world.specs.Orders.{OrderedCall}
use Rattle.interleavings.specs.Asked.{IsAskedBy, AreAsked}
use Rattle.interleavings.specs.Chains.{Seat, Chain, opening_chain, OfNotices}
use Rattle.interleavings.specs.Moves.{Move, Sends, Takes, Publishes, Puts, Arrives, Replies, Receives, Looks, Stops}
use Rattle.interleavings.specs.Moves.{Notices, done, moved_from, moved}
use Rattle.interleavings.specs.Orders.{begun_call, reply_to, is_published, Precedes, PublishedBefore, IsLinearization}
use Rattle.interleavings.specs.Orders.{IsInTurn}
use Rattle.interleavings.specs.OtherMoves.{moved_from_by, moved_by, PrecedesBy, IsLinearizationBy, is_published_from}
use Rattle.interleavings.specs.OtherMoves.{PublishedBeforeBy, IsInTurnBy}
use Rattle.interleavings.specs.OwnPorts.{own_port, with_own_ports}
use Rattle.interleavings.proofs.ports.OwnPortMoves.{named, sends_same, takes_same, publishes_same, puts_same}
use Rattle.interleavings.proofs.ports.OwnPortMoves.{arrives_same, receives_same, looks_same, stops_same, notices_same}
use Rattle.interleavings.proofs.ports.OwnPortReplies.{replies_same}
use Rattle.interleavings.proofs.ports.OwnPortTurns.{published_same}
use Rattle.interleavings.proofs.ports.RenamedChains.{Same, same_opening}
use Rattle.interleavings.proofs.ports.SeatNames.{seat_apart}
use Rattle.interleavings.proofs.relation.Following.{linearizable}
use Rattle.interleavings.proofs.runs.Simulating.{simulates}

module _ (n : ℕ) (homes : List ℕ) where
  pub moves_same : (m : Move) (l g : Chain)
      → Same n homes l g
      → Same n homes (with_own_ports homes l m) (done g (named n homes m))
  moves_same (Sends c call) l g h = sends_same n homes l g h c call
  moves_same (Takes i sender) l g h = takes_same n homes l g h (seat_apart homes) i sender
  moves_same (Publishes i) l g h = publishes_same n homes l g h i
  moves_same (Puts i j) l g h = puts_same n homes l g h i j
  moves_same (Arrives i j) l g h = arrives_same n homes l g h i j
  moves_same (Replies i c) l g h = replies_same n homes l g h i c
  moves_same (Receives c) l g h = receives_same n homes l g h c
  moves_same (Looks c key) l g h = looks_same n homes l g h c key
  moves_same (Stops i) l g h = stops_same n homes l g h i
  moves_same (Notices i j) l g h = notices_same n homes l g h i j

  same_from : (ms : List Move) (l g : Chain)
      → Same n homes l g
      → Same n homes (moved_from_by (with_own_ports homes) l ms) (moved_from g (map (named n homes) ms))
  same_from [] l g h = h
  same_from (m ∷ ms) l g h =
      same_from ms (with_own_ports homes l m) (done g (named n homes m)) (moves_same m l g h)

  -- the two chains after a run
  pub same_run : (ms : List Move)
      → Same n homes (moved_by (with_own_ports homes) n homes ms) (moved n homes (map (named n homes) ms))
  same_run ms = same_from ms (opening_chain n homes) (opening_chain n homes) (same_opening n homes)

  one_asked : (m : Move) → IsAskedBy m → IsAskedBy (named n homes m)
  one_asked (Sends c call) a = a
  one_asked (Takes i sender) a = tt
  one_asked (Publishes i) a = tt
  one_asked (Puts i j) a = tt
  one_asked (Arrives i j) a = tt
  one_asked (Replies i c) a =
      cond_both (slice_index_or homes c n == i) (Replies i c) (Takes n OfNotices) IsAskedBy (λ t. tt) (λ f. tt)
  one_asked (Receives c) a = tt
  one_asked (Looks c key) a = a
  one_asked (Stops i) a = tt
  one_asked (Notices i j) a = tt

  all_asked : (ms : List Move) → AreAsked ms → AreAsked (map (named n homes) ms)
  all_asked [] a = tt
  all_asked (m ∷ ms) a = (one_asked m a.0, all_asked ms a.1)

  -- both show the same calls and replies
  calls_same : (ms : List Move) (x : CallId)
      → begun_call (moved n homes (map (named n homes) ms)) x
      ≡ begun_call (moved_by (with_own_ports homes) n homes ms) x
  calls_same ms x = ap (λ (ss : ℕ → Seat). slice_get (ss x.connection).calls x.ordinal) (same_run ms).seats

  replies_are : (ms : List Move) (x : CallId)
      → reply_to (moved n homes (map (named n homes) ms)) x
      ≡ reply_to (moved_by (with_own_ports homes) n homes ms) x
  replies_are ms x = ap (λ (ss : ℕ → Seat). slice_get (ss x.connection).got x.ordinal) (same_run ms).seats

  module _ (moves : List Move) where
    abbrev names : List Move
    names = map (named n homes) moves

    front : (k : ℕ) → take k names ≡ map (named n homes) (take k moves)
    front k = take-map (named n homes) k moves

    precedes_too : (x y : CallId) → PrecedesBy (with_own_ports homes) n homes moves x y → Precedes n homes names x y
    precedes_too x y p = record {
      k = p.k;
      answered = subst (λ o. IsSome o)
          (sym (replies_are (take p.k moves) x) ∙ ap (λ ms. reply_to (moved n homes ms) x) (sym (front p.k)))
          p.answered;
      not_begun = ap (λ ms. begun_call (moved n homes ms) y) (front p.k) ∙ calls_same (take p.k moves) y ∙ p.not_begun;
    }

    order_too : (h : List OrderedCall)
        → IsLinearization n homes names h
        → IsLinearizationBy (with_own_ports homes) n homes moves h
    order_too h o = record {
      legal = o.legal;
      begun = λ i e here. sym (calls_same moves e.id) ∙ o.begun i e here;
      once = o.once;
      answered = λ x reply got. o.answered x reply (replies_are moves x ∙ got);
      in_time = λ x y j p s. o.in_time x y j (precedes_too x y p) s;
    }

    published_there : (k : ℕ) (x : CallId) (i : ℕ)
        → slice_get homes x.connection ≡ Some i
        → i < n
        → is_published (moved n homes (take k names)) x
        ≡ is_published_from (own_port n homes) (moved_by (with_own_ports homes) n homes (take k moves)) x
    published_there k x i here within =
        let h = same_run (take k moves) in
        let home : i ≡ ((moved_by (with_own_ports homes) n homes (take k moves)).seats x.connection).home =
        sym (get_or_from_slice_get homes x.connection i n here) ∙ sym (h.sits x.connection) in
        ap (λ ms. is_published (moved n homes ms) x) (front k)
        ∙ published_same n homes _ _ h x (omega (arith, within, home))

    published_too : (x y : CallId)
        → PublishedBeforeBy (with_own_ports homes) (own_port n homes) n homes moves x y
        → PublishedBefore n homes names x y
    published_too x y p = record {
      k = p.k;
      published = published_there p.k x p.server p.here p.of_chain ∙ p.published;
      not_published = published_there p.k y p.server p.there p.of_chain ∙ p.not_published;
      one_server = p.here ∙ sym p.there;
      update = (p.update.0, calls_same moves x ∙ p.update.1, p.update.2);
      later_update = (p.later_update.0, calls_same moves y ∙ p.later_update.1, p.later_update.2);
    }

    in_turn_too : (h : List OrderedCall)
        → IsInTurn n homes names h
        → IsInTurnBy (with_own_ports homes) (own_port n homes) n homes moves h
    in_turn_too h o = record { in_turn = λ x y j p s. o.in_turn x y j (published_too x y p) s }

    -- so there is an order, in turn
    pub one_order : n ≤ 16
        → AreAsked moves
        → (h : List OrderedCall) × IsLinearizationBy (with_own_ports homes) n homes moves h
        × IsInTurnBy (with_own_ports homes) (own_port n homes) n homes moves h
    one_order few asked =
        let o = linearizable n homes (simulates n homes few) names few (all_asked moves asked) in
        (o.0, order_too o.0 o.1, in_turn_too o.0 o.2)
