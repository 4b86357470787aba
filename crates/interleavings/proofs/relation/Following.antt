-- If each single move has its events, each run has the schedules that follow it; and so an order of its calls.
use Rattle.std.proofs.Common.{◌≡◌, ℕ, zero, suc, ◌*◌, ◌≤◌, List, [], ◌∷◌, ◌++◌, length, take, Option, None, Some, refl}
use Rattle.std.proofs.Common.{arith, ap, sym, ◌∙◌, append-nil, append_assoc, subst, length-append}
use Rattle.std.specs.Prelude.{slice_get}
use Rattle.std.proofs.lemmas.List.{take_all}
use Rattle.table.specs.declared.operations.Call.{Call}
use Rattle.table.specs.declared.operations.Reply.{Reply}
use Rattle.node.proofs.Lists.{get_front}
use Rattle.world.specs.declared.events.Event.{Event}
use Rattle.world.specs.Connections.{Connection}
use Rattle.world.specs.Worlds.{World, run_of}
use Rattle.world.specs.Orders.{OrderedCall}
use Rattle.interleavings.specs.Chains.{Seat, Chain, opening_chain}
use Rattle.interleavings.specs.Moves.{Move, done, moved_from}
use Rattle.interleavings.specs.Asked.{IsAskedBy, AreAsked}
use Rattle.interleavings.specs.Orders.{IsLinearization, IsInTurn}
use Rattle.interleavings.proofs.relation.Given.{shows_call}
use Rattle.interleavings.proofs.relation.Transfer.{Follows, Seen, transfer, in_turn}
use Rattle.interleavings.proofs.relation.StandsFor.{Sits, StandsFor}
use Rattle.interleavings.proofs.relation.Opening.{opens}
use Rattle.interleavings.proofs.relation.CommittedOrder.{committed_order, is_committed_order}

-- ---- what stands for a chain shows its calls

begun_there : (l : Chain) (w : World) (s : Seat) (p : ℕ) (call : Call) (o : Option Connection)
    → Sits l w o s
    → Rattle.std.specs.Option.option_and_then (λ (k : Connection). slice_get k.calls p) o ≡ Some call
    → slice_get s.calls p ≡ Some call
begun_there l w s p call None h e = absurd cc
begun_there l w s p call (Some k) h e = rw h.calls (get_front k.calls h.unheard p call e)

replied_there : (l : Chain) (w : World) (s : Seat) (p : ℕ) (reply : Reply) (o : Option Connection)
    → Sits l w o s
    → slice_get s.got p ≡ Some reply
    → Rattle.std.specs.Option.option_and_then (λ (k : Connection). slice_get k.replies p) o ≡ Some reply
replied_there l w s p reply None h e = absurd (let no = rw h.none.0 at e in cc)
replied_there l w s p reply (Some k) h e = rw h.replies (get_front s.got s.queued p reply e)

-- a world that stands for a chain shows its begun calls, and at least the replies that its seats have
pub sees : (l : Chain) (w : World) → StandsFor l w → Seen l w
sees l w h = record {
  calls = λ x call e. begun_there l w (l.seats x.connection) x.ordinal call _ (h.seats x.connection) e;
  replies = λ x reply e. replied_there l w (l.seats x.connection) x.ordinal reply _ (h.seats x.connection) e;
  shown = λ x going. shows_call l w x h going;
}

-- ---- runs

-- the events of each move, four at most
abbrev pub Simulates : ℕ → List ℕ → Type 0
Simulates count homes = (es : List Event) (l : Chain) (m : Move)
    → StandsFor l (run_of count homes es)
    → IsAskedBy m
    → (fs : List Event) × (length fs ≤ 4) × StandsFor (done l m) (run_of count homes (es ++ fs))

module _ (count : ℕ) (homes : List ℕ) where
  record Behind (l : Chain) (es : List Event) (moves : List Move) : Type 0 where
    at : ℕ → List Event
    first : at 0 ≡ es
    goes : (j k : ℕ) → j ≤ k → (more : List Event) × (at k ≡ at j ++ more)
    stands : (k : ℕ) → StandsFor (moved_from l (take k moves)) (run_of count homes (at k))

  abbrev first_then : List Event → (ℕ → List Event) → ℕ → List Event
  first_then es at zero = es
  first_then es at (suc k) = at k

  goes_then : (es fs : List Event) (at : ℕ → List Event)
      → at 0 ≡ es ++ fs
      → ((j k : ℕ) → j ≤ k → (more : List Event) × (at k ≡ at j ++ more))
      → (j k : ℕ)
      → j ≤ k
      → (more : List Event) × (first_then es at k ≡ first_then es at j ++ more)
  goes_then es fs at first goes zero zero h = ([], sym (append-nil es))
  goes_then es fs at first goes zero (suc k) h =
      let g = goes 0 k (omega arith) in
      (fs ++ g.0, g.1 ∙ ap (λ xs. xs ++ g.0) first ∙ append_assoc es fs g.0)
  goes_then es fs at first goes (suc j) zero h = absurd (omega (arith, h))
  goes_then es fs at first goes (suc j) (suc k) h = goes j k (omega (arith, h))

  behind : Simulates count homes
      → (moves : List Move) (l : Chain) (es : List Event)
      → StandsFor l (run_of count homes es)
      → AreAsked moves
      → Behind l es moves
  behind sim [] l es h asked = record {
    at = λ k. es;
    first = refl;
    goes = λ j k le. ([], sym (append-nil es));
    stands = λ k. nothing_left k;
  }
    where
      nothing_left : (k : ℕ) → StandsFor (moved_from l (take k [])) (run_of count homes es)
      nothing_left zero = h
      nothing_left (suc k) = h
  behind sim (m ∷ ms) l es h asked =
      let one = sim es l m h asked.0 in
      let rest = behind sim ms (done l m) (es ++ one.0) one.2 asked.1 in
      record {
        at = first_then es rest.at;
        first = refl;
        goes = goes_then es one.0 rest.at rest.first rest.goes;
        stands = λ k. standing k rest.at rest.stands;
      }
    where
      standing : (k : ℕ) (at : ℕ → List Event)
          → ((k : ℕ) → StandsFor (moved_from (done l m) (take k ms)) (run_of count homes (at k)))
          → StandsFor (moved_from l (take k (m ∷ ms))) (run_of count homes (first_then es at k))
      standing zero at f = h
      standing (suc k) at f = f k

  -- so the order of some schedule's calls, whose world stands for the chain in the end, is one of the run's, and is in
  -- turn
  pub ordered : Simulates count homes
      → (moves : List Move) (few : count ≤ 16)
      → AreAsked moves
      → (es : List Event) × StandsFor (moved_from (opening_chain count homes) moves) (run_of count homes es)
      × IsLinearization count homes moves (committed_order count homes es few)
      × IsInTurn count homes moves (committed_order count homes es few)
  ordered sim moves few asked =
      let b = behind sim moves (opening_chain count homes) [] (opens count homes) asked in
      let f : Follows count homes moves = record {
        at = b.at;
        goes = b.goes;
        seen = λ k. sees _ _ (b.stands k);
      } in
      let o = committed_order count homes (b.at (length moves)) few in
      let lin = is_committed_order count homes (b.at (length moves)) few in (
        b.at (length moves),
        subst (λ ms. StandsFor (moved_from (opening_chain count homes) ms) (run_of count homes (b.at (length moves))))
            (take_all (length moves) moves (omega arith)) (b.stands (length moves)),
        transfer count homes moves f o lin,
        in_turn count homes moves f few o lin,
      )

  pub linearizable : Simulates count homes
      → (moves : List Move)
      → count ≤ 16
      → AreAsked moves
      → (h : List OrderedCall) × IsLinearization count homes moves h × IsInTurn count homes moves h
  linearizable sim moves few asked =
      let o = ordered sim moves few asked in (committed_order count homes o.0 few, o.2, o.3)

  -- and there are at most four events a move
  pub follows : Simulates count homes
      → (moves : List Move) (l : Chain) (es : List Event)
      → StandsFor l (run_of count homes es)
      → AreAsked moves
      → (fs : List Event) × (length fs ≤ length moves * 4)
      × StandsFor (moved_from l moves) (run_of count homes (es ++ fs))
  follows sim [] l es h asked =
      ([], omega arith, subst (λ xs. StandsFor l (run_of count homes xs)) (sym (append-nil es)) h)
  follows sim (m ∷ ms) l es h asked =
      let one = sim es l m h asked.0 in
      let rest = follows sim ms (done l m) (es ++ one.0) one.2 asked.1 in (
        one.0 ++ rest.0,
        omega (arith, one.1, rest.1, length-append one.0 rest.0),
        subst (λ xs. StandsFor (moved_from (done l m) ms) (run_of count homes xs)) (append_assoc es one.0 rest.0)
            rest.2,
      )
