-- Each move with own ports is one with the seats' numbers as ports.
use Rattle.std.proofs.Common.{◌≡◌, ℕ, Bool, true, false, cond, List, [], ◌∷◌, ◌++◌, refl}
use Rattle.std.proofs.Common.{ap, sym, ◌∙◌, subst}
use Rattle.std.specs.Prelude.{slice_index_or, not, nat_lt, ◌==◌, ◌&&◌}
use Rattle.std.proofs.lemmas.Bool.{and_parts, not-true}
use Rattle.table.specs.Items.{Item}
use Rattle.table.specs.declared.operations.Call.{Call}
use Rattle.table.specs.declared.operations.Reply.{Reply}
use Rattle.node.specs.declared.looks.Look.{Look}
use Rattle.node.specs.declared.looks.Look.TheVariants.{Clean, Dirty}
use Rattle.node.specs.declared.messages.Input.TheVariants.{Call as Called, From, Gone}
use Rattle.node.specs.declared.messages.Peer.{Peer}
use Rattle.node.specs.Faces.{face_of, look_at}
use Rattle.interleavings.specs.Chains.{RunningServer, Seat, Chain, with_running, with_channel, with_seat, messages_to}
use Rattle.interleavings.specs.Chains.{without_message, Sender, OfNotices}
use Rattle.interleavings.specs.Moves.{Move, Sends, Takes, Publishes, Puts, Arrives, Replies, Receives, Looks, Stops}
use Rattle.interleavings.specs.Moves.{Notices, is_free, brought, sent, received, looked, taking, publishing, put}
use Rattle.interleavings.specs.Moves.{arrived, has_stopped, done}
use Rattle.interleavings.specs.OwnPorts.{port_at, sent_from, with_own_ports}
use Rattle.interleavings.proofs.ports.RenamedChains.{Same, SameUnder, of_chain, seat_there, same_server, same_channel}
use Rattle.interleavings.proofs.ports.RenamedChains.{same_seat}
use Rattle.interleavings.proofs.ports.RenamedChains.{same_brought}
use Rattle.interleavings.proofs.ports.RenamedServers.{running_renamed, sender_at, messages_renamed}
use Rattle.interleavings.proofs.ports.RenamedServers.{without_message_renamed}
use Rattle.interleavings.proofs.ports.RenamedServers.{taking_renamed, taking_stopped, publishing_renamed}
use Rattle.interleavings.proofs.ports.RenamedServers.{publishing_stopped}
use Rattle.interleavings.proofs.ports.SeatNames.{seat_in, seat_named}

-- The move with the seats' numbers as ports. A reply that would go to a seat of another server isn't put: a move
-- without effect, of a server beyond the chain, stands for it.
abbrev pub named : ℕ → List ℕ → Move → Move
named n homes (Takes i sender) = Takes i (sender_at (seat_in homes i) sender)
named n homes (Replies i c) = cond (slice_index_or homes c n == i) (Replies i c) (Takes n OfNotices)
named n homes m = m

module _ (n : ℕ) (homes : List ℕ) {names : ℕ → ℕ → ℕ} (l g : Chain) (h : SameUnder n homes names l g) where
  -- of what a test chooses
  where_true : (b : Bool) (x y : Chain)
      → (b ≡ true → SameUnder n homes names x y)
      → SameUnder n homes names (cond b x l) (cond b y g)
  where_true true x y f = f refl
  where_true false x y f = h

  where_false : (b : Bool) (x y : Chain)
      → (b ≡ false → SameUnder n homes names x y)
      → SameUnder n homes names (cond b l x) (cond b g y)
  where_false true x y f = h
  where_false false x y f = f refl

  pub where_not : (b : Bool) (x y : Chain)
      → (b ≡ false → SameUnder n homes names x y)
      → SameUnder n homes names (cond (not b) x l) (cond b g y)
  where_not true x y f = h
  where_not false x y f = f refl

  -- ---- seats

  received_same : (c : ℕ) (rs : List Reply)
      → SameUnder n homes names (received l c (l.seats c) rs) (received g c (l.seats c) rs)
  received_same c [] = h
  received_same c (reply ∷ more) =
      same_seat n homes l g h c (record (l.seats c) { got = (l.seats c).got ++ reply ∷ []; queued = more }) refl

  pub receives_same : (c : ℕ) → SameUnder n homes names (done l (Receives c)) (done g (Receives c))
  receives_same c =
      subst (λ (ss : ℕ → Seat).
      SameUnder n homes names (received l c (l.seats c) (l.seats c).queued) (received g c (ss c) (ss c).queued))
      (sym h.seats) (received_same c (l.seats c).queued)

  looked_same : (c : ℕ) (key : List ℕ) (look : Look Item)
      → SameUnder n homes names (looked l c (l.seats c) key look) (looked g c (l.seats c) key look)
  looked_same c key (Clean item) = same_seat n homes l g h c _ refl
  looked_same c key Dirty = h

  pub looks_same : (c : ℕ) (key : List ℕ)
      → SameUnder n homes names (done l (Looks c key)) (done g (Looks c key))
  looks_same c key =
      let s = l.seats c in
      let i = s.home in
      let shown = look_at (face_of (l.servers i).node) key in
      let there = look_at (face_of (g.servers i).node) key in
      subst (λ (ss : ℕ → Seat).
      SameUnder n homes names (cond (is_free s && not (l.servers i).stopped) (looked l c s key shown) l)
      (cond (is_free (ss c) && not (g.servers (ss c).home).stopped)
      (looked g c (ss c) key (look_at (face_of (g.servers (ss c).home).node) key)) g))
      (sym h.seats)
      (subst (λ b. SameUnder n homes names (cond (is_free s && not (l.servers i).stopped) (looked l c s key shown) l)
      (cond (is_free s && not b) (looked g c s key there) g))
      (sym (h.stopped i))
      (where_true (is_free s && not (l.servers i).stopped) (looked l c s key shown) (looked g c s key there)
      (λ both.
      let within = of_chain n homes l g h i (not-true _ (and_parts (is_free s) _ both).1) in
      let same : there ≡ shown =
      ap (λ (u : RunningServer). look_at (face_of u.node) key) (h.servers i within) in
      subst (λ x. SameUnder n homes names (looked l c s key shown) (looked g c s key x)) (sym same)
      (looked_same c key shown))))

  -- ---- servers

  pub takes_same : ((i p q : ℕ) → names i p ≡ names i q → p ≡ q)
      → (i : ℕ) (sender : Sender)
      → SameUnder n homes names (done l (Takes i sender)) (done g (Takes i (sender_at (names i) sender)))
  takes_same apart i sender =
      let f = names i in
      same_server n homes l g h i (taking (l.servers i) sender) (taking (g.servers i) (sender_at f sender))
      (λ within.
      ap (λ u. taking u (sender_at f sender)) (h.servers i within)
      ∙ taking_renamed f (apart i) (l.servers i) sender)
      (taking_stopped (g.servers i) (sender_at f sender) ∙ h.stopped i ∙ sym (taking_stopped (l.servers i) sender))
      (λ over. taking_stopped (l.servers i) sender ∙ over)

  pub publishes_same : (i : ℕ) → SameUnder n homes names (done l (Publishes i)) (done g (Publishes i))
  publishes_same i =
      same_server n homes l g h i (publishing (l.servers i)) (publishing (g.servers i))
      (λ within. ap publishing (h.servers i within) ∙ publishing_renamed (names i) (l.servers i))
      (publishing_stopped (g.servers i) ∙ h.stopped i ∙ sym (publishing_stopped (l.servers i)))
      (λ over. publishing_stopped (l.servers i) ∙ over)

  put_same : (i j : ℕ) (ms : List Peer) → SameUnder n homes names (put l i j ms) (put g i j ms)
  put_same i j [] = h
  put_same i j (m ∷ ms) =
      let f = names i in
      let s : RunningServer = record (l.servers i) { outbox = without_message j (l.servers i).outbox } in
      let t : RunningServer = record (g.servers i) { outbox = without_message j (g.servers i).outbox } in
      let put_off = same_server n homes l g h i s t
      (λ within.
      ap (λ (u : RunningServer). record u { outbox = without_message j u.outbox }) (h.servers i within)
      ∙ ap (λ os. record (running_renamed f (l.servers i)) { outbox = os })
      (without_message_renamed f j (l.servers i).outbox))
      (h.stopped i) (λ over. over) in
      subst (λ (ws : ℕ → ℕ → List Peer).
      SameUnder n homes names (with_channel (with_running l i s) i j (l.channels i j ++ m ∷ []))
      (with_channel (with_running g i t) i j (ws i j ++ m ∷ [])))
      (sym h.channels)
      (same_channel n homes (with_running l i s) (with_running g i t) put_off i j (l.channels i j ++ m ∷ []))

  pub puts_same : (i j : ℕ) → SameUnder n homes names (done l (Puts i j)) (done g (Puts i j))
  puts_same i j =
      let ms = messages_to j (l.servers i).outbox in
      let there = messages_to j (g.servers i).outbox in
      subst (λ b. SameUnder n homes names (cond (l.servers i).stopped l (put l i j ms)) (cond b g (put g i j there)))
      (sym (h.stopped i))
      (where_false (l.servers i).stopped (put l i j ms) (put g i j there)
      (λ going.
      let same : there ≡ ms =
      ap (λ (u : RunningServer). messages_to j u.outbox) (h.servers i (of_chain n homes l g h i going))
      ∙ messages_renamed (names i) j (l.servers i).outbox in
      subst (λ xs. SameUnder n homes names (put l i j ms) (put g i j xs)) (sym same) (put_same i j ms)))

  arrived_same : (i j : ℕ) (ms : List Peer) → SameUnder n homes names (arrived l i j ms) (arrived g i j ms)
  arrived_same i j [] = h
  arrived_same i j (m ∷ ms) =
      same_brought n homes (with_channel l i j ms) (with_channel g i j ms) (same_channel n homes l g h i j ms) j
      (From i m)
      (From i m) (λ within. refl)

  pub arrives_same : (i j : ℕ) → SameUnder n homes names (done l (Arrives i j)) (done g (Arrives i j))
  arrives_same i j =
      subst (λ (ws : ℕ → ℕ → List Peer). SameUnder n homes names (arrived l i j (l.channels i j)) (arrived g i j
      (ws i j)))
      (sym h.channels) (arrived_same i j (l.channels i j))

  pub stops_same : (i : ℕ) → SameUnder n homes names (done l (Stops i)) (done g (Stops i))
  stops_same i =
      same_server n homes l g h i (record (l.servers i) { stopped = true }) (record (g.servers i) { stopped = true })
      (λ within. ap (λ (u : RunningServer). record u { stopped = true }) (h.servers i within)) refl (λ over. refl)

  pub notices_same : (i j : ℕ) → SameUnder n homes names (done l (Notices i j)) (done g (Notices i j))
  notices_same i j =
      let same : has_stopped g j ≡ has_stopped l j =
      ap (λ k. nat_lt j k && (g.servers j).stopped) h.count ∙ ap (λ b. nat_lt j l.count && b) (h.stopped j) in
      subst (λ b. SameUnder n homes names (cond (has_stopped l j) (brought l i (Gone j)) l) (cond b (brought g i
      (Gone j)) g))
      (sym same)
      (where_true (has_stopped l j) (brought l i (Gone j)) (brought g i (Gone j))
      (λ there. same_brought n homes l g h i (Gone j) (Gone j) (λ within. refl)))

-- ---- with the numbers of the seats as names

module _ (n : ℕ) (homes : List ℕ) (l g : Chain) (h : Same n homes l g) where
  pub sends_same : (c : ℕ) (call : Call)
      → Same n homes (with_own_ports homes l (Sends c call)) (done g (Sends c call))
  sends_same c call =
      let s = l.seats c in
      let port = port_at homes c s.home in
      let t : Seat = record s { calls = s.calls ++ call ∷ [] } in
      subst (λ (ss : ℕ → Seat). Same n homes (sent_from port l c call s) (sent g c call (ss c))) (sym h.seats)
      (where_true n homes l g h (is_free s) (brought (with_seat l c t) s.home (Called port call))
      (brought (with_seat g c t) s.home (Called c call))
      (λ free.
      same_brought n homes (with_seat l c t) (with_seat g c t) (same_seat n homes l g h c t refl) s.home
      (Called port call) (Called c call)
      (λ within. ap (λ d. Called d call) (sym (seat_named homes c s.home (seat_there n homes l g h c within))))))
