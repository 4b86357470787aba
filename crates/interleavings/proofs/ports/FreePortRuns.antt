-- Every run with free ports has an order of its calls, and forgets none: those of a run with the seats' numbers as
-- ports.
use Rattle.std.proofs.Common.{◌≡◌, ◌≢◌, ℕ, zero, suc, ◌+◌, ◌^◌, ◌<◌, ◌≤◌, Bool, true, false, cond, List, [], ◌∷◌}
use Rattle.std.proofs.Common.{length}
use Rattle.std.proofs.Common.{map, take, Some, refl, arith, ap, sym, ◌∙◌, subst, eq-eqb}
use Rattle.std.specs.Prelude.{slice_get, nat_lt, not, ◌&&◌, ◌==◌, IsSome}
use Rattle.std.specs.Option.{option_map}
use Rattle.std.proofs.lemmas.Bool.{both_ways, and_parts, not-true, ne_eqb}
use Rattle.std.proofs.lemmas.Option.{get_or_from_slice_get}
use Rattle.table.specs.declared.operations.Call.{Call}
use Rattle.node.specs.declared.messages.Input.{Input}
use Rattle.node.specs.declared.messages.Input.TheVariants.{Call as Called, From, Gone}
use Rattle.node.specs.declared.messages.Output.{Output}
use Rattle.node.specs.declared.messages.Output.TheVariants.{To, Reply as Replied}
use Rattle.node.specs.declared.messages.Peer.{Peer}
use Rattle.node.specs.Views.{has}
use Rattle.world.specs.Calls.{CallId}
use Rattle.world.specs.Orders.{OrderedCall}
use Rattle.interleavings.specs.Asked.{AreAsked}
use Rattle.interleavings.specs.Chains.{RunningServer, Seat, Chain, opening_chain, queue, calls_from, messages_to}
use Rattle.interleavings.specs.Chains.{replies_to}
use Rattle.interleavings.specs.Moves.{Move, done, has_stopped, moved_from, moved}
use Rattle.interleavings.specs.Orders.{begun_call, reply_to, waiting_calls, is_published, Precedes, PublishedBefore}
use Rattle.interleavings.specs.Orders.{IsLinearization}
use Rattle.interleavings.specs.OtherMoves.{moved_from_by, moved_by, PrecedesBy, IsLinearizationBy}
use Rattle.interleavings.specs.FreePorts.{PortChoice, port_now, awaits_reply, with_free_ports, waiting_calls_at}
use Rattle.interleavings.specs.FreePorts.{is_published_at, PublishedBeforeAt, IsInTurnAt}
use Rattle.interleavings.specs.Pools.{HasNothingLeft}
use Rattle.interleavings.specs.Ports.{input_at, output_to}
use Rattle.interleavings.specs.Quiet.{goes_on, IsQuiet, NoneForgotten}
use Rattle.interleavings.proofs.ports.FreePortMoves.{follows, Alike as Named}
use Rattle.interleavings.proofs.ports.OwnPortTurns.{calls_renamed, queue_renamed}
use Rattle.interleavings.proofs.ports.PortHolders.{holds_opening}
use Rattle.interleavings.proofs.ports.RenamedChains.{of_chain, same_opening}
use Rattle.interleavings.proofs.ports.RenamedServers.{messages_renamed}
use Rattle.interleavings.proofs.quiet.Answering.{none_forgotten_there, nothing_left}
use Rattle.interleavings.proofs.relation.Following.{linearizable}
use Rattle.interleavings.proofs.runs.Simulating.{simulates}

module _ (n : ℕ) (homes : List ℕ) (ports : PortChoice) where
  abbrev Alike : Chain → Chain → Type 0
  Alike l g = Named n homes ports l g

  -- both are so at the start
  pub opening_alike : Alike (opening_chain n homes) (opening_chain n homes)
  opening_alike = record { names = λ i p. p; same = same_opening n homes; holds = holds_opening n ports homes }

  module _ (l g : Chain) (a : Alike l g) where
    -- ---- what is published

    -- no call comes from a port of another name
    none_named : (f : ℕ → ℕ) (c : ℕ) (xs : List Input)
        → ((q : ℕ) → 1 ≤ length (calls_from q xs) → f q ≢ c)
        → calls_from c (map (input_at f) xs) ≡ []
    none_named f c [] h = refl
    none_named f c (From j m ∷ xs) h = none_named f c xs h
    none_named f c (Gone j ∷ xs) h = none_named f c xs h
    none_named f c (Called d call ∷ xs) h =
        ap (λ cs. cond (f d == c) (call ∷ cs) cs)
        (none_named f c xs (λ q e. h q (omega (arith, e, longer (d == q) (calls_from q xs)))))
        ∙ ap (λ b. cond b (call ∷ []) [])
        (ne_eqb (f d) c (h d (omega (
          arith,
          ap (λ b. length (cond b (call ∷ calls_from d xs) (calls_from d xs)))
              (eq-eqb d d refl),
        ))))
      where
        longer : (b : Bool) (cs : List Call) → length cs ≤ length (cond b (call ∷ cs) cs)
        longer true cs = omega arith
        longer false cs = omega arith

    waits_named : (c : ℕ) (b : Bool)
        → awaits_reply (l.seats c) ≡ b
        → (l.seats c).home < n
        → calls_from c (map (input_at (a.names (l.seats c).home)) (queue (l.servers (l.seats c).home)))
        ≡ cond b (calls_from (port_now ports l c) (queue (l.servers (l.seats c).home))) []
    waits_named c true e within =
        let i = (l.seats c).home in
        let f = a.names i in
        ap (λ d. calls_from d (map (input_at f) (queue (l.servers i)))) (sym (a.holds.named c within e))
        ∙ calls_renamed f (a.holds.apart i) (port_now ports l c) (queue (l.servers i))
    waits_named c false e within =
        let i = (l.seats c).home in
        none_named (a.names i) c (queue (l.servers i))
        (λ q some is.
        let w = a.holds.held i q within (omega (arith, some)) in
        let named : a.names i q ≡ w.seat =
        ap (a.names i) (sym w.port) ∙ subst (λ k. a.names k (port_now ports l w.seat) ≡ w.seat) w.home
        (a.holds.named w.seat (subst (λ k. k < n) (sym w.home) within) w.awaits) in
        both_ways _ (ap (λ d. awaits_reply (l.seats d)) (sym named ∙ is) ∙ e) w.awaits)

    waits_same : (c : ℕ) → (l.seats c).home < n → waiting_calls g c ≡ waiting_calls_at ports l c
    waits_same c within =
        let i = (l.seats c).home in
        ap (λ (ss : ℕ → Seat). calls_from c (queue (g.servers (ss c).home))) a.same.seats
        ∙ ap (λ s. calls_from c (queue s)) (a.same.servers i within)
        ∙ ap (calls_from c) (queue_renamed (a.names i) (l.servers i))
        ∙ waits_named c (awaits_reply (l.seats c)) refl within

    -- which calls are published is the same
    pub published_same : (x : CallId)
        → (l.seats x.connection).home < n
        → is_published g x ≡ is_published_at ports l x
    published_same x within =
        ap (λ cs. nat_lt (x.ordinal + length cs) (length (g.seats x.connection).calls))
        (waits_same x.connection within)
        ∙ ap (λ (ss : ℕ → Seat).
        nat_lt (x.ordinal + length (waiting_calls_at ports l x.connection)) (length (ss x.connection).calls))
        a.same.seats

    -- ---- when nothing is left to do

    goes_on_same : (i : ℕ) → goes_on g i ≡ goes_on l i
    goes_on_same i = ap (λ k. nat_lt i k && not (g.servers i).stopped) a.same.count
        ∙ ap (λ b. nat_lt i l.count && not b) (a.same.stopped i)

    inside : (i : ℕ) → goes_on l i ≡ true → i < n
    inside i on = of_chain n homes l g a.same i (not-true _ (and_parts (nat_lt i l.count) _ on).1)

    none_put : (f : ℕ → ℕ) (os : List Output)
        → ((p : ℕ) → replies_to p os ≡ [])
        → (c : ℕ)
        → replies_to c (map (output_to f) os) ≡ []
    none_put f [] none c = refl
    none_put f (To to m ∷ os) none c = none_put f os none c
    none_put f (Replied d reply ∷ os) none c =
        absurd (let no : reply ∷ replies_to d os ≡ [] =
        sym (ap (λ b. cond b (reply ∷ replies_to d os) (replies_to d os)) (eq-eqb d d refl)) ∙ none d in cc)

    -- nor is anything left in the other chain
    pub nothing_there : HasNothingLeft l → HasNothingLeft g
    nothing_there q = record {
      inboxes = λ i on.
          let there = sym (goes_on_same i) ∙ on in
          ap (λ (s : RunningServer). s.inbox) (a.same.servers i (inside i there))
          ∙ ap (map (input_at (a.names i))) (q.inboxes i there);
      all_published = λ i on.
          let there = sym (goes_on_same i) ∙ on in
          ap (λ (s : RunningServer). s.unpublished) (a.same.servers i (inside i there))
          ∙ ap (option_map (input_at (a.names i))) (q.all_published i there);
      messages = λ i j on other.
          let there = sym (goes_on_same i) ∙ on in
          ap (λ (s : RunningServer). messages_to j s.outbox) (a.same.servers i (inside i there))
          ∙ messages_renamed (a.names i) j (l.servers i).outbox
          ∙ q.messages i j there (sym (goes_on_same j) ∙ other);
      replies = λ i c on.
          let there = sym (goes_on_same i) ∙ on in
          ap (λ (s : RunningServer). replies_to c s.outbox) (a.same.servers i (inside i there))
          ∙ none_put (a.names i) (l.servers i).outbox (λ p. q.replies i p there) c;
      views = λ i j on over.
          let there = sym (goes_on_same i) ∙ on in
          let stopped : has_stopped l j ≡ true =
          sym (ap (λ k. nat_lt j k && (g.servers j).stopped) a.same.count
          ∙ ap (λ b. nat_lt j l.count && b) (a.same.stopped j)) ∙ over in
          ap (λ (s : RunningServer). has s.node.view j) (a.same.servers i (inside i there)) ∙ q.views i j there stopped;
      channels = λ i j on other. ap (λ (ws : ℕ → ℕ → List Peer). ws i j) a.same.channels
          ∙ q.channels i j (sym (goes_on_same i) ∙ on) (sym (goes_on_same j) ∙ other);
    }

    -- who goes on there goes on here
    pub on_there : (c : ℕ) → goes_on l (l.seats c).home ≡ true → goes_on g (g.seats c).home ≡ true
    on_there c on = ap (λ (ss : ℕ → Seat). goes_on g (ss c).home) a.same.seats ∙ goes_on_same (l.seats c).home ∙ on

  -- ---- runs

  abbrev with_ports : Chain → Move → Chain
  with_ports = with_free_ports homes ports

  -- moves with the seats' numbers as ports, as many, that make what stands for the chain after each of these
  record Behind (l g : Chain) (ms : List Move) : Type 0 where
    moves : List Move
    asked : AreAsked ms → AreAsked moves
    long : length moves ≡ length ms
    stands : (k : ℕ) → Alike (moved_from_by with_ports l (take k ms)) (moved_from g (take k moves))
    ends : Alike (moved_from_by with_ports l ms) (moved_from g moves)

  behind : (ms : List Move) (l g : Chain) → Alike l g → Behind l g ms
  behind [] l g a = record {
    moves = [];
    asked = λ u. u;
    long = refl;
    stands = none_left;
    ends = a;
  }
    where
      none_left : (k : ℕ) → Alike (moved_from_by with_ports l (take k [])) (moved_from g (take k []))
      none_left zero = a
      none_left (suc k) = a
  behind (m ∷ ms) l g a =
      let f = follows n homes ports a.names l g a.same a.holds m in
      let b = behind ms (with_ports l m) (done g f.move) (record { names = f.names; same = f.same; holds = f.holds }) in
      record {
        moves = f.move ∷ b.moves;
        asked = λ u. (f.asked u.0, b.asked u.1);
        long = ap suc b.long;
        stands = first_then f.move b.moves b.stands;
        ends = b.ends;
      }
    where
      first_then : (o : Move) (os : List Move)
          → ((k : ℕ) → Alike (moved_from_by with_ports (with_ports l m) (take k ms)) (moved_from (done g o)
          (take k os)))
          → (k : ℕ)
          → Alike (moved_from_by with_ports l (take k (m ∷ ms))) (moved_from g (take k (o ∷ os)))
      first_then o os stands zero = a
      first_then o os stands (suc k) = stands k

  module _ (moves : List Move) where
    abbrev followed : Behind (opening_chain n homes) (opening_chain n homes) moves
    followed = behind moves (opening_chain n homes) (opening_chain n homes) opening_alike

    abbrev others : List Move
    others = followed.moves

    calls_same : (x : CallId)
        → begun_call (moved n homes others) x ≡ begun_call (moved_by with_ports n homes moves) x
    calls_same x = ap (λ (ss : ℕ → Seat). slice_get (ss x.connection).calls x.ordinal) followed.ends.same.seats

    replies_are : (x : CallId) → reply_to (moved n homes others) x ≡ reply_to (moved_by with_ports n homes moves) x
    replies_are x = ap (λ (ss : ℕ → Seat). slice_get (ss x.connection).got x.ordinal) followed.ends.same.seats

    precedes_too : (x y : CallId) → PrecedesBy with_ports n homes moves x y → Precedes n homes others x y
    precedes_too x y p =
        let same = (followed.stands p.k).same.seats in
        record {
          k = p.k;
          answered = subst (λ (ss : ℕ → Seat). IsSome (slice_get (ss x.connection).got x.ordinal))
              (sym same) p.answered;
          not_begun = ap (λ (ss : ℕ → Seat). slice_get (ss y.connection).calls y.ordinal) same ∙ p.not_begun;
        }

    order_too : (h : List OrderedCall)
        → IsLinearization n homes others h
        → IsLinearizationBy with_ports n homes moves h
    order_too h o = record {
      legal = o.legal;
      begun = λ i e here. sym (calls_same e.id) ∙ o.begun i e here;
      once = o.once;
      answered = λ x reply got. o.answered x reply (replies_are x ∙ got);
      in_time = λ x y j p s. o.in_time x y j (precedes_too x y p) s;
    }

    published_there : (k : ℕ) (x : CallId) (i : ℕ)
        → slice_get homes x.connection ≡ Some i
        → i < n
        → is_published (moved n homes (take k others)) x
        ≡ is_published_at ports (moved_by with_ports n homes (take k moves)) x
    published_there k x i here within =
        let a = followed.stands k in
        let home : i ≡ ((moved_by with_ports n homes (take k moves)).seats x.connection).home =
        sym (get_or_from_slice_get homes x.connection i n here) ∙ sym (a.same.sits x.connection) in
        published_same _ _ a x (subst (λ j. j < n) home within)

    published_too : (x y : CallId) → PublishedBeforeAt ports n homes moves x y → PublishedBefore n homes others x y
    published_too x y p = record {
      k = p.k;
      published = published_there p.k x p.server p.here p.of_chain ∙ p.published;
      not_published = published_there p.k y p.server p.there p.of_chain ∙ p.not_published;
      one_server = p.here ∙ sym p.there;
      update = (p.update.0, calls_same x ∙ p.update.1, p.update.2);
      later_update = (p.later_update.0, calls_same y ∙ p.later_update.1, p.later_update.2);
    }

    -- so there is an order, in turn,
    pub one_order : n ≤ 16
        → AreAsked moves
        → (h : List OrderedCall) × IsLinearizationBy (with_free_ports homes ports) n homes moves h
        × IsInTurnAt ports n homes moves h
    one_order few asked =
        let o = linearizable n homes (simulates n homes few) others few (followed.asked asked) in (
          o.0,
          order_too o.0 o.1,
          record { in_turn = λ x y j p s. o.2.in_turn x y j (published_too x y p) s },
        )

    -- and no call is forgotten
    pub none_forgotten : n ≤ 16
        → length moves < 2 ^ 62
        → AreAsked moves
        → IsQuiet (moved_by (with_free_ports homes ports) n homes moves)
        → NoneForgotten (moved_by (with_free_ports homes ports) n homes moves)
    none_forgotten few short asked quiet x on begun =
        let l = moved_by with_ports n homes moves in
        let a = followed.ends in
        subst (λ o. IsSome o) (replies_are x)
        (none_forgotten_there n homes others few (subst (λ k. k < 2 ^ 62) (sym followed.long) short)
        (followed.asked asked) (nothing_there l (moved n homes others) a (nothing_left l quiet)) x
        (on_there l (moved n homes others) a x.connection on)
        (ap (λ (ss : ℕ → Seat). (ss x.connection).queued) a.same.seats ∙ quiet.queues x.connection on)
        (subst (λ o. IsSome o) (sym (calls_same x)) begun))
