-- If each sender's calls are taken in order by their ports, so they are by their seats, in the run with the seats'
-- numbers as ports that shows the same connections.
use Rattle.std.proofs.Common.{◌≡◌, ℕ, ◌<◌, ◌≤◌, Bool, true, false, cond, List, [], ◌∷◌, length, map, take, Option}
use Rattle.std.proofs.Common.{None}
use Rattle.std.proofs.Common.{Some, refl, arith, ap, sym, ◌∙◌, subst, length-append, eq-eqb}
use Rattle.std.specs.Prelude.{◌==◌, slice_get, is_some, IsSome}
use Rattle.std.specs.Option.{option_map}
use Rattle.node.specs.declared.messages.Input.{Input}
use Rattle.node.specs.declared.messages.Input.TheVariants.{Call as Called, From, Gone}
use Rattle.table.specs.declared.operations.Call.{Call}
use Rattle.interleavings.specs.Chains.{RunningServer, OfSeat, listed, calls_from, first_of}
use Rattle.interleavings.specs.Moves.{Takes, done}
use Rattle.interleavings.specs.Ports.{input_at}
use Rattle.interleavings.specs.FreePorts.{PortChoice, port_now}
use Rattle.interleavings.specs.ServingMoves.{ServingMove, Runs, served}
use Rattle.interleavings.specs.Pools.{PooledMove, pooled}
use Rattle.interleavings.specs.Senders.{Senders, PortSenders, first_seat, AreTakenInOrder, AreOfSenders}
use Rattle.interleavings.specs.Senders.{AreTakenInPortOrder}
use Rattle.interleavings.proofs.lists.Joined.{calls_from-append}
use Rattle.interleavings.proofs.ports.RenamedChains.{seat_there}
use Rattle.interleavings.proofs.ports.RenamedServers.{cond_under, first_renamed}
use Rattle.interleavings.specs.Served.{ServedCall}
use Rattle.interleavings.specs.Pools.{IsOneOrderPooled, IsServedInTurnPooled}
use Rattle.interleavings.specs.Rows.{PartName, IsRow, IsRowInTurn}
use Rattle.interleavings.specs.Senders.{HaveOneSender}
use Rattle.interleavings.proofs.rows.OneSender.{one_sender_order}
use Rattle.interleavings.proofs.served.PooledOrders.{order_too, turn_too}
use Rattle.interleavings.proofs.served.PooledRuns.{followed}

more : (b : Bool) (call : Call) (cs : List Call) → length cs ≤ length (cond b (call ∷ cs) cs)
more true call cs = omega arith
more false call cs = omega arith

-- a call that stands there counts
first_counts : (p : ℕ) (xs : List Input)
    → is_some (first_of (OfSeat p) xs) ≡ true
    → 1 ≤ length (calls_from p xs)
first_counts p [] e = absurd (let no : false ≡ true = e in cc)
first_counts p (From j m ∷ xs) e = first_counts p xs e
first_counts p (Gone j ∷ xs) e = first_counts p xs e
first_counts p (Called d call ∷ xs) e = by (d == p) e (first_counts p xs)
  where
    by : (b : Bool)
        → is_some (cond b (Some (Called d call)) (first_of (OfSeat p) xs)) ≡ true
        → (is_some (first_of (OfSeat p) xs) ≡ true → 1 ≤ length (calls_from p xs))
        → 1 ≤ length (cond b (call ∷ calls_from p xs) (calls_from p xs))
    by true f h = omega arith
    by false f h = h f

mapped_some : (f : ℕ → ℕ) (o : Option Input) → is_some (option_map (input_at f) o) ≡ is_some o
mapped_some f None = refl
mapped_some f (Some x) = refl

-- the first call of a sender, by the names of its ports
first_named : (f : ℕ → ℕ) (of_ports of_seats : ℕ → ℕ) (g : ℕ) (xs : List Input)
    → ((q : ℕ) → 1 ≤ length (calls_from q xs) → of_seats (f q) ≡ of_ports q)
    → first_seat of_seats g (map (input_at f) xs) ≡ option_map f (first_seat of_ports g xs)
first_named f of_ports of_seats g [] h = refl
first_named f of_ports of_seats g (From j m ∷ xs) h = first_named f of_ports of_seats g xs h
first_named f of_ports of_seats g (Gone j ∷ xs) h = first_named f of_ports of_seats g xs h
first_named f of_ports of_seats g (Called d call ∷ xs) h =
    ap (λ o. cond (of_seats (f d) == g) (Some (f d)) o)
    (first_named f of_ports of_seats g xs
    (λ q e. h q (let m = more (d == q) call (calls_from q xs) in omega (arith, e, m))))
    ∙ ap (λ s. cond (s == g) (Some (f d)) (option_map f (first_seat of_ports g xs)))
    (h d (let one = ap (λ b. length (cond b (call ∷ calls_from d xs) (calls_from d xs))) (eq-eqb d d refl) in
    omega (arith, one)))
    ∙ cond_under (option_map f) (of_ports d == g) (Some d) (first_seat of_ports g xs)

module _ (port_senders : PortSenders) (senders : Senders) (n : ℕ) (homes : List ℕ) (ports : PortChoice)
    (moves : List PooledMove) (of : AreOfSenders port_senders senders ports homes)
    (order : AreTakenInPortOrder port_senders ports n homes moves) where
  -- each call that is taken is the first of its sender
  taken_first : (k i c : ℕ)
      → slice_get (followed n homes ports moves).moves k ≡ Some (Runs (Takes i (OfSeat c)))
      → IsSome
      (first_of (OfSeat c)
      ((served done n homes (take k (followed n homes ports moves).moves)).chain.servers i).inbox)
      → first_seat senders (senders c)
      ((served done n homes (take k (followed n homes ports moves).moves)).chain.servers i).inbox
      ≡ Some c
  taken_first k i c taken some =
      let st = (followed n homes ports moves).stands k in
      let a = st.same.chains in
      let l = (pooled n homes ports (take k moves)).chain in
      let t = st.takes i c taken in
      let inside = t.0 in
      let p = t.1.0 in
      let named : a.names i p ≡ c = t.1.2 in
      let f = a.names i in
      let xs = (l.servers i).inbox in
      let inbox = ap (λ (s : RunningServer). s.inbox) (a.same.servers i inside) in
      let there : is_some (first_of (OfSeat p) xs) ≡ true =
      sym (mapped_some f (first_of (OfSeat p) xs)) ∙ ap is_some (sym (first_renamed f (a.holds.apart i) (OfSeat p) xs))
      ∙ ap (λ x. is_some (first_of (OfSeat x) (map (input_at f) xs))) named
      ∙ ap (λ ys. is_some (first_of (OfSeat c) ys)) (sym inbox) ∙ some in
      let first = order.in_order k i p t.1.1 there in
      let sends : (q : ℕ) → 1 ≤ length (calls_from q xs) → senders (f q) ≡ port_senders i q = λ q e.
      let joined = ap length (calls_from-append q (listed (l.servers i).unpublished) xs)
      ∙ length-append (calls_from q (listed (l.servers i).unpublished)) (calls_from q xs) in
      let w = a.holds.held i q inside (omega (arith, e, joined)) in
      let own : f q ≡ w.seat =
      ap f (sym w.port) ∙ subst (λ j. a.names j (port_now ports l w.seat) ≡ w.seat) w.home
      (a.holds.named w.seat (subst (λ j. j < n) (sym w.home) inside) w.awaits) in
      let seat = seat_there n homes l _ a.same w.seat (subst (λ j. j < n) (sym w.home) inside) in
      ap senders own
      ∙ sym (of w.seat (length (l.seats w.seat).got) i (seat ∙ ap (λ j. Some j) w.home))
      ∙ ap (port_senders i) w.port in
      let one = sends p (first_counts p xs there) in
      ap (λ ys. first_seat senders (senders c) ys) inbox
      ∙ ap (λ x. first_seat senders (senders x) (map (input_at f) xs)) (sym named)
      ∙ ap (λ x. first_seat senders x (map (input_at f) xs)) one
      ∙ first_named f (port_senders i) senders (port_senders i p) xs sends
      ∙ ap (option_map f) first ∙ ap (λ x. Some x) named

  abbrev twin : List ServingMove
  twin = (followed n homes ports moves).moves

  twin_order : AreTakenInOrder senders n homes (followed n homes ports moves).moves
  twin_order = record { in_order = λ k i c taken some. taken_first k i c taken some }

  -- the run that shows the same connections
  pub twin_in_order : (others : List ServingMove) × (length others ≡ length moves)
      × ((k : ℕ)
      → (served done n homes (take k others)).connections ≡ (pooled n homes ports (take k moves)).connections)
      × AreTakenInOrder senders n homes others
  twin_in_order =
      let b = followed n homes ports moves in
      (b.moves, b.long, λ k. (b.stands k).same.connections, twin_order)

  -- and an order of all calls for each row of it
  pub twin_rows : n ≤ 16
      → (others : List ServingMove) × (length others ≡ length moves)
      × ((k : ℕ)
      → (served done n homes (take k others)).connections ≡ (pooled n homes ports (take k moves)).connections)
      × ((row : List PartName)
      → IsRow done n homes others row
      → HaveOneSender senders row
      → (h : List ServedCall) × IsOneOrderPooled ports n homes moves h × IsServedInTurnPooled ports n homes moves h
      × IsRowInTurn (λ c. c) (served done n homes others) row h)
  twin_rows few =
      let b = followed n homes ports moves in (
        b.moves,
        b.long,
        λ k. (b.stands k).same.connections,
        λ row r one.
            let o = one_sender_order senders n homes (followed n homes ports moves).moves row few r one twin_order in
            (o.0, order_too n homes ports moves o.0 o.1, turn_too n homes ports moves o.0 o.2, o.3),
      )
