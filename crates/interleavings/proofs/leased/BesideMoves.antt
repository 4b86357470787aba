-- What a move leaves beside each other: one of a server that was called gone is a move of the first chain alone, any
-- other is one of both.
use Rattle.std.proofs.Common.{◌≡◌, ℕ, ◌+◌, ◌≤◌, Bool, true, false, cond, List, [], ◌∷◌, ◌++◌, length, refl, arith}
use Rattle.std.proofs.Common.{ap, sym, ◌∙◌, subst, inl, inr}
use Rattle.std.specs.Prelude.{nat_lt, not, ◌&&◌, ◌||◌}
use Rattle.std.proofs.lemmas.Bool.{cases_eq}
use Rattle.table.specs.Items.{Item}
use Rattle.table.specs.declared.operations.Call.{Call}
use Rattle.table.specs.declared.operations.Reply.{Reply}
use Rattle.node.specs.declared.looks.Look.{Look}
use Rattle.node.specs.declared.looks.Look.TheVariants.{Clean, Dirty}
use Rattle.node.specs.declared.messages.Input.{Input}
use Rattle.node.specs.declared.messages.Input.TheVariants.{Call as Called, From, Gone}
use Rattle.node.specs.declared.messages.Peer.{Peer}
use Rattle.node.specs.Faces.{face_of, look_at}
use Rattle.interleavings.specs.Chains.{RunningServer, Seat, Chain, with_at, with_running, with_channel, with_seat}
use Rattle.interleavings.specs.Chains.{messages_to, without_message, replies_to, without_reply}
use Rattle.interleavings.specs.Moves.{Move, Sends, Takes, Publishes, Puts, Arrives, Replies, Receives, Looks, Stops}
use Rattle.interleavings.specs.Moves.{Notices, is_free, brought, sent, received, looked, taking, publishing, put}
use Rattle.interleavings.specs.Moves.{reply_put, has_stopped, done}
use Rattle.interleavings.specs.Moves as moves
use Rattle.interleavings.specs.Ports.{input_at}
use Rattle.interleavings.specs.LeasedMoves.{with_leases, first_alone, counted}
use Rattle.interleavings.specs.LeasedOrders.{mover}
use Rattle.interleavings.proofs.lists.ChangedFunctions.{at_same, at_other}
use Rattle.interleavings.proofs.leased.SeatGrowth.{begun_same, begun_more}
use Rattle.interleavings.proofs.leased.HomePorts.{at_home, home_keeps, one_more_at, without_message_to}
use Rattle.interleavings.proofs.leased.HomePorts.{without_reply_to}
use Rattle.interleavings.proofs.leased.HomePorts.{Owns, taking_owns, publishing_owns, none_for_others}
use Rattle.interleavings.proofs.leased.Beside.{ServersBeside, SeatsBeside, ChannelsBeside, Longer, Beside}
use Rattle.interleavings.proofs.leased.Beside.{both_servers, one_server, server_called, both_seats, one_seat}
use Rattle.interleavings.proofs.leased.Beside.{seats_called, both_put, one_put, both_arrive, one_arrives}
use Rattle.interleavings.proofs.leased.Beside.{none_arrives, channels_called}

module _ (home : ℕ → ℕ) (most_arrived : ℕ → ℕ → ℕ) (most_got : ℕ → ℕ) (called : ℕ → Bool) where
  abbrev B : (ℕ → ℕ → ℕ) → Chain → Chain → Type 0
  B arrived l d = Beside home most_arrived most_got called arrived l d

  -- ---- parts change

  new_servers : (arrived : ℕ → ℕ → ℕ) (l d : Chain) (f g : ℕ → RunningServer)
      → B arrived l d
      → ServersBeside home called f g
      → B arrived (record l { servers = f }) (record d { servers = g })
  new_servers arrived l d f g h s =
      record { count = h.count; of_chain = h.of_chain; servers = s; seats = h.seats; channels = h.channels }

  new_seats : (arrived : ℕ → ℕ → ℕ) (l d : Chain) (f g : ℕ → Seat)
      → B arrived l d
      → SeatsBeside home most_got called f g
      → B arrived (record l { seats = f }) (record d { seats = g })
  new_seats arrived l d f g h s =
      record { count = h.count; of_chain = h.of_chain; servers = h.servers; seats = s; channels = h.channels }

  new_channels : (arrived after : ℕ → ℕ → ℕ) (l d : Chain) (f g : ℕ → ℕ → List Peer)
      → B arrived l d
      → ChannelsBeside most_arrived called after f g
      → B after (record l { channels = f }) (record d { channels = g })
  new_channels arrived after l d f g h s =
      record { count = h.count; of_chain = h.of_chain; servers = h.servers; seats = h.seats; channels = s }

  -- an input comes into the inbox of one server, or of both
  inbox_owns : (i : ℕ) (x : RunningServer) (input : Input)
      → Owns (at_home home i) x
      → input_at (at_home home i) input ≡ input
      → Owns (at_home home i) (record x { inbox = x.inbox ++ input ∷ [] })
  inbox_owns i x input o e = record {
    node = o.node;
    inbox = one_more_at (at_home home i) x.inbox input o.inbox e;
    unpublished = o.unpublished;
    outbox = o.outbox;
  }

  both_brought : (arrived : ℕ → ℕ → ℕ) (l d : Chain) (i : ℕ) (input : Input)
      → B arrived l d
      → called i ≡ false
      → input_at (at_home home i) input ≡ input
      → B arrived (brought l i input) (brought d i input)
  both_brought arrived l d i input h going e =
      new_servers arrived l d _ _ h
      (both_servers home called l.servers d.servers h.servers i
      (record (l.servers i) { inbox = (l.servers i).inbox ++ input ∷ [] })
      (record (d.servers i) { inbox = (d.servers i).inbox ++ input ∷ [] }) going
      (ap (λ (u : RunningServer). record u { inbox = u.inbox ++ input ∷ [] }) (h.servers.same i going))
      (inbox_owns i (l.servers i) input (h.servers.own i) e))

  one_brought : (arrived : ℕ → ℕ → ℕ) (l d : Chain) (i : ℕ) (input : Input)
      → B arrived l d
      → called i ≡ true
      → input_at (at_home home i) input ≡ input
      → B arrived (brought l i input) d
  one_brought arrived l d i input h gone e =
      new_servers arrived l d _ _ h
      (one_server home called l.servers d.servers h.servers i
      (record (l.servers i) { inbox = (l.servers i).inbox ++ input ∷ [] }) gone
      (inbox_owns i (l.servers i) input (h.servers.own i) e))

  module _ (arrived : ℕ → ℕ → ℕ) (l d : Chain) (h : B arrived l d) where
    -- by what a test chooses
    one_by_test : (b : Bool) (x : Chain) → B arrived x d → B arrived (cond b x l) d
    one_by_test true x g = g
    one_by_test false x g = h

    one_by_other_test : (b : Bool) (x : Chain) → B arrived x d → B arrived (cond b l x) d
    one_by_other_test true x g = h
    one_by_other_test false x g = g

    both_by_test : (b : Bool) (x y : Chain) → B arrived x y → B arrived (cond b x l) (cond b y d)
    both_by_test true x y g = g
    both_by_test false x y g = h

    both_by_other_test : (b : Bool) (x y : Chain) → B arrived x y → B arrived (cond b l x) (cond b d y)
    both_by_other_test true x y g = h
    both_by_other_test false x y g = g

    seat_home : (c : ℕ) → (l.seats c).home ≡ home c
    seat_home c = h.seats.sits c

    call_own : (c : ℕ) (call : Call)
        → input_at (at_home home (l.seats c).home) (Called c call) ≡ Called c call
    call_own c call = ap (λ p. Called p call) (home_keeps home (l.seats c).home c (sym (seat_home c)))

    unput_owns : (i j : ℕ)
        → Owns (at_home home i) (record (l.servers i) { outbox = without_message j (l.servers i).outbox })
    unput_owns i j =
        let o = h.servers.own i in
        record {
          node = o.node;
          inbox = o.inbox;
          unpublished = o.unpublished;
          outbox = without_message_to (at_home home i) j (l.servers i).outbox o.outbox;
        }

    unreplied_owns : (i c : ℕ)
        → Owns (at_home home i) (record (l.servers i) { outbox = without_reply c (l.servers i).outbox })
    unreplied_owns i c =
        let o = h.servers.own i in
        record {
          node = o.node;
          inbox = o.inbox;
          unpublished = o.unpublished;
          outbox = without_reply_to (at_home home i) c (l.servers i).outbox o.outbox;
        }

    stopped_owns : (i : ℕ) → Owns (at_home home i) (record (l.servers i) { stopped = true })
    stopped_owns i =
        let o = h.servers.own i in
        record { node = o.node; inbox = o.inbox; unpublished = o.unpublished; outbox = o.outbox }

    -- ---- moves of a server that was called gone

    module _ (i : ℕ) (gone : called i ≡ true) where
      one_server_does : (x : RunningServer) → Owns (at_home home i) x → B arrived (with_running l i x) d
      one_server_does x own =
          new_servers arrived l d _ _ h (one_server home called l.servers d.servers h.servers i x gone own)

      one_puts : (j : ℕ) (ms : List Peer) → B arrived (put l i j ms) d
      one_puts j [] = h
      one_puts j (m ∷ ms) =
          let x : RunningServer = record (l.servers i) { outbox = without_message j (l.servers i).outbox } in
          let k = with_running l i x in
          new_channels arrived arrived k d _ _ (one_server_does x (unput_owns i j))
          (one_put most_arrived called arrived l.channels d.channels h.channels i j m gone)

      one_replies : (c : ℕ) (rs : List Reply) → home c ≡ i → B arrived (reply_put l i c (l.seats c) rs) d
      one_replies c [] e = h
      one_replies c (reply ∷ more) e =
          let s = l.seats c in
          let x : RunningServer = record (l.servers i) { outbox = without_reply c (l.servers i).outbox } in
          let k = with_running l i x in
          new_seats arrived k d _ _ (one_server_does x (unreplied_owns i c))
          (one_seat home most_got called l.seats d.seats h.seats c (record s { queued = s.queued ++ reply ∷ [] })
          (ap called e ∙ gone)
          (record { home = refl; calls = begun_same s.calls; got = begun_same s.got }))

    one_receives : (c : ℕ) (rs : List Reply) → called (home c) ≡ true → B arrived (received l c (l.seats c) rs) d
    one_receives c [] gone = h
    one_receives c (reply ∷ more) gone =
        let s = l.seats c in
        new_seats arrived l d _ _ h
        (one_seat home most_got called l.seats d.seats h.seats c (record s { got = s.got ++ reply ∷ []; queued = more })
        gone
        (record { home = refl; calls = begun_same s.calls; got = begun_more s.got (reply ∷ []) }))

    one_looks : (c : ℕ) (key : List ℕ) (look : Look Item)
        → called (home c) ≡ true
        → B arrived (looked l c (l.seats c) key look) d
    one_looks c key (Clean item) gone =
        let s = l.seats c in
        new_seats arrived l d _ _ h
        (one_seat home most_got called l.seats d.seats h.seats c _ gone
        (record { home = refl; calls = begun_more s.calls _; got = begun_more s.got _ }))
    one_looks c key Dirty gone = h

    one_sends : (c : ℕ) (call : Call) → called (home c) ≡ true → B arrived (sent l c call (l.seats c)) d
    one_sends c call gone =
        let s = l.seats c in
        let t : Seat = record s { calls = s.calls ++ call ∷ [] } in
        one_by_test (is_free s) (brought (with_seat l c t) s.home (Called c call))
        (one_brought arrived (with_seat l c t) d s.home (Called c call)
        (new_seats arrived l d _ _ h (one_seat home most_got called l.seats d.seats h.seats c t gone
        (record { home = refl; calls = begun_more s.calls (call ∷ []); got = begun_same s.got })))
        (ap called (seat_home c) ∙ gone) (call_own c call))

    one_takes_in : (i j : ℕ) (ms : List Peer)
        → called j ≡ true
        → B (with_at arrived i (with_at (arrived i) j (arrived i j + first_alone ms))) (moves.arrived l i j ms) d
    one_takes_in i j [] gone =
        new_channels arrived _ l d _ _ h
        (none_arrives most_arrived called arrived l.channels d.channels h.channels i j 0 refl)
    one_takes_in i j (m ∷ ms) gone =
        one_brought _ (with_channel l i j ms) d j (From i m)
        (new_channels arrived _ l d _ _ h
        (one_arrives most_arrived called arrived l.channels d.channels h.channels i j (arrived i j + 1) ms gone)) gone
        refl

    pub one_does : (m : Move)
        → called (mover home m) ≡ true
        → B (counted arrived l m) (with_leases called l m) d
    one_does (Sends c call) gone = one_sends c call gone
    one_does (Takes i sender) gone =
        one_server_does i gone (taking (l.servers i) sender)
        (taking_owns (at_home home i) (l.servers i) sender (h.servers.own i))
    one_does (Publishes i) gone =
        one_server_does i gone (publishing (l.servers i))
        (publishing_owns (at_home home i) (l.servers i) (h.servers.own i))
    one_does (Puts i j) gone =
        one_by_other_test (l.servers i).stopped (put l i j (messages_to j (l.servers i).outbox))
        (one_puts i gone j (messages_to j (l.servers i).outbox))
    one_does (Arrives i j) gone = one_takes_in i j (l.channels i j) gone
    one_does (Replies i c) gone =
        one_by_other_test (l.servers i).stopped
        (reply_put l i c (l.seats c) (replies_to c (l.servers i).outbox))
        (elim (cases_eq (home c) i) [
          | inl same ↦ one_replies i gone c (replies_to c (l.servers i).outbox) same
          | inr other ↦ subst (λ rs. B arrived (reply_put l i c (l.seats c) rs) d)
              (sym (none_for_others home i c (l.servers i).outbox (h.servers.own i).outbox other)) h
        ])
    one_does (Receives c) gone = one_receives c (l.seats c).queued gone
    one_does (Looks c key) gone =
        let s = l.seats c in
        one_by_test (is_free s && not (l.servers s.home).stopped) _
        (one_looks c key (look_at (face_of (l.servers s.home).node) key) gone)
    one_does (Stops i) gone = one_server_does i gone (record (l.servers i) { stopped = true }) (stopped_owns i)
    one_does (Notices i j) gone =
        one_by_test (has_stopped l j || called j) (brought l i (Gone j))
        (one_brought arrived l d i (Gone j) h gone refl)

    -- ---- moves of one that wasn't

    module _ (i : ℕ) (going : called i ≡ false) where
      both_servers_do : (x y : RunningServer)
          → y ≡ x
          → Owns (at_home home i) x
          → B arrived (with_running l i x) (with_running d i y)
      both_servers_do x y e own =
          new_servers arrived l d _ _ h
          (both_servers home called l.servers d.servers h.servers i x y going e own)

      both_puts : (j : ℕ) (ms : List Peer) → B arrived (put l i j ms) (put d i j ms)
      both_puts j [] = h
      both_puts j (m ∷ ms) =
          let x : RunningServer = record (l.servers i) { outbox = without_message j (l.servers i).outbox } in
          let y : RunningServer = record (d.servers i) { outbox = without_message j (d.servers i).outbox } in
          new_channels arrived arrived (with_running l i x) (with_running d i y) _ _
          (both_servers_do x y
          (ap (λ (u : RunningServer). record u { outbox = without_message j u.outbox }) (h.servers.same i going))
          (unput_owns i j))
          (both_put most_arrived called arrived l.channels d.channels h.channels i j m going)

      both_reply : (c : ℕ) (rs : List Reply)
          → home c ≡ i
          → B arrived (reply_put l i c (l.seats c) rs) (reply_put d i c (l.seats c) rs)
      both_reply c [] e = h
      both_reply c (reply ∷ more) e =
          let s = l.seats c in
          let x : RunningServer = record (l.servers i) { outbox = without_reply c (l.servers i).outbox } in
          let y : RunningServer = record (d.servers i) { outbox = without_reply c (d.servers i).outbox } in
          new_seats arrived (with_running l i x) (with_running d i y) _ _
          (both_servers_do x y
          (ap (λ (u : RunningServer). record u { outbox = without_reply c u.outbox }) (h.servers.same i going))
          (unreplied_owns i c))
          (both_seats home most_got called l.seats d.seats h.seats c (record s { queued = s.queued ++ reply ∷ [] })
          (ap called e ∙ going) (seat_home c))

    seat_there : (c : ℕ) → called (home c) ≡ false → d.seats c ≡ l.seats c
    seat_there c going = h.seats.same c going

    both_receive : (c : ℕ) (rs : List Reply)
        → called (home c) ≡ false
        → B arrived (received l c (l.seats c) rs) (received d c (l.seats c) rs)
    both_receive c [] going = h
    both_receive c (reply ∷ more) going =
        let s = l.seats c in
        new_seats arrived l d _ _ h
        (both_seats home most_got called l.seats d.seats h.seats c
        (record s { got = s.got ++ reply ∷ []; queued = more }) going (seat_home c))

    both_look : (c : ℕ) (key : List ℕ) (look : Look Item)
        → called (home c) ≡ false
        → B arrived (looked l c (l.seats c) key look) (looked d c (l.seats c) key look)
    both_look c key (Clean item) going =
        new_seats arrived l d _ _ h
        (both_seats home most_got called l.seats d.seats h.seats c _ going (seat_home c))
    both_look c key Dirty going = h

    both_send : (c : ℕ) (call : Call)
        → called (home c) ≡ false
        → B arrived (sent l c call (l.seats c)) (sent d c call (l.seats c))
    both_send c call going =
        let s = l.seats c in
        let t : Seat = record s { calls = s.calls ++ call ∷ [] } in
        both_by_test (is_free s) (brought (with_seat l c t) s.home (Called c call))
        (brought (with_seat d c t) s.home (Called c call))
        (both_brought arrived (with_seat l c t) (with_seat d c t) s.home (Called c call)
        (new_seats arrived l d _ _ h
        (both_seats home most_got called l.seats d.seats h.seats c t going (seat_home c)))
        (ap called (seat_home c) ∙ going) (call_own c call))

    both_take_in : (i j : ℕ)
        → called j ≡ false
        → arrived i j + first_alone (l.channels i j) ≤ most_arrived i j
        → (ms ns : List Peer)
        → l.channels i j ≡ ms
        → d.channels i j ≡ ns
        → B (with_at arrived i (with_at (arrived i) j (arrived i j + first_alone ms))) (moves.arrived l i j ms)
        (moves.arrived d i j ns)
    both_take_in i j going within [] [] e k =
        new_channels arrived _ l d _ _ h
        (none_arrives most_arrived called arrived l.channels d.channels h.channels i j 0 refl)
    both_take_in i j going within [] (n ∷ ns) e k = absurd (
        let w = h.channels.longer i j going in
        let no : [] ≡ n ∷ (ns ++ w.late) = sym e ∙ w.all ∙ ap (λ us. us ++ w.late) k in
        cc
        )
    both_take_in i j going within (m ∷ ms) [] e k =
        absurd (by (called i) refl (h.channels.longer i j going))
      where
        by : (b : Bool) → called i ≡ b → Longer (called i) (l.channels i j) (d.channels i j) → ⊥
        by false is w =
            let no : m ∷ ms ≡ [] = sym e ∙ w.all ∙ ap (λ us. us ++ w.late) k ∙ w.none is in
            cc
        by true is w =
            let r = h.channels.room i j going is in
            let a : length (d.channels i j) ≡ 0 = ap (λ us. length us) k in
            let b : first_alone (l.channels i j) ≡ 1 = ap first_alone e in
            omega (arith, r, a, b, within)
    both_take_in i j going within (m ∷ ms) (n ∷ ns) e k =
        let w = h.channels.longer i j going in
        let both : m ∷ ms ≡ n ∷ (ns ++ w.late) = sym e ∙ w.all ∙ ap (λ us. us ++ w.late) k in
        let same : m ≡ n = cc in
        subst (λ x. B (with_at arrived i (with_at (arrived i) j (arrived i j + 1))) (moves.arrived l i j (m ∷ ms))
        (moves.arrived d i j (x ∷ ns))) same
        (both_brought _ (with_channel l i j ms) (with_channel d i j ns) j (From i m)
        (new_channels arrived _ l d _ _ h
        (both_arrive most_arrived called arrived l.channels d.channels h.channels i j m ms ns going e
        (k ∙ ap (λ x. x ∷ ns) (sym same)))) going refl)

    -- who has stopped there
    told_alike : (j : ℕ) → has_stopped d j ≡ (has_stopped l j || called j)
    told_alike j = by (called j) refl
      where
        or_false : (b : Bool) → b ≡ (b || false)
        or_false true = refl
        or_false false = refl

        or_true : (b : Bool) → true ≡ (b || true)
        or_true true = refl
        or_true false = refl

        by : (b : Bool) → called j ≡ b → has_stopped d j ≡ (has_stopped l j || b)
        by false is =
            ap (λ n. nat_lt j n && (d.servers j).stopped) h.count
            ∙ ap (λ (u : RunningServer). nat_lt j l.count && u.stopped) (h.servers.same j is)
            ∙ or_false (has_stopped l j)
        by true is =
            ap (λ n. nat_lt j n && (d.servers j).stopped) h.count
            ∙ ap (λ b. nat_lt j l.count && b) (h.servers.stopped j is)
            ∙ ap (λ b. b && true) (h.of_chain j is)
            ∙ or_true (has_stopped l j)

    pub both_do : (m : Move)
        → called (mover home m) ≡ false
        → ((i j : ℕ) → counted arrived l m i j ≤ most_arrived i j)
        → B (counted arrived l m) (with_leases called l m) (done d m)
    both_do (Sends c call) going within =
        subst (λ s. B arrived (sent l c call (l.seats c)) (sent d c call s)) (sym (seat_there c going))
        (both_send c call going)
    both_do (Takes i sender) going within =
        both_servers_do i going (taking (l.servers i) sender) (taking (d.servers i) sender)
        (ap (λ u. taking u sender) (h.servers.same i going))
        (taking_owns (at_home home i) (l.servers i) sender (h.servers.own i))
    both_do (Publishes i) going within =
        both_servers_do i going (publishing (l.servers i)) (publishing (d.servers i))
        (ap publishing (h.servers.same i going))
        (publishing_owns (at_home home i) (l.servers i) (h.servers.own i))
    both_do (Puts i j) going within =
        let ms = messages_to j (l.servers i).outbox in
        subst (λ (u : RunningServer).
        B arrived (cond (l.servers i).stopped l (put l i j ms))
        (cond u.stopped d (put d i j (messages_to j u.outbox)))) (sym (h.servers.same i going))
        (both_by_other_test (l.servers i).stopped (put l i j ms) (put d i j ms) (both_puts i going j ms))
    both_do (Arrives i j) going within =
        both_take_in i j going
        (subst (λ k. k ≤ most_arrived i j)
        (ap (λ (f : ℕ → ℕ). f j) (at_same arrived i _) ∙ at_same (arrived i) j _) (within i j))
        (l.channels i j) (d.channels i j) refl refl
    both_do (Replies i c) going within =
        let rs = replies_to c (l.servers i).outbox in
        subst (λ (u : RunningServer).
        B arrived (cond (l.servers i).stopped l (reply_put l i c (l.seats c) rs))
        (cond u.stopped d (reply_put d i c (d.seats c) (replies_to c u.outbox)))) (sym (h.servers.same i going))
        (both_by_other_test (l.servers i).stopped (reply_put l i c (l.seats c) rs) (reply_put d i c (d.seats c) rs)
        (elim (cases_eq (home c) i) [
          | inl same ↦
              subst (λ s. B arrived (reply_put l i c (l.seats c) rs) (reply_put d i c s rs))
              (sym (seat_there c (ap called same ∙ going))) (both_reply i going c rs same)
          | inr other ↦
              subst (λ xs. B arrived (reply_put l i c (l.seats c) xs) (reply_put d i c (d.seats c) xs))
              (sym (none_for_others home i c (l.servers i).outbox (h.servers.own i).outbox other)) h
        ]))
    both_do (Receives c) going within =
        subst (λ (s : Seat). B arrived (received l c (l.seats c) (l.seats c).queued) (received d c s s.queued))
        (sym (seat_there c going)) (both_receive c (l.seats c).queued going)
    both_do (Looks c key) going within =
        let s = l.seats c in
        let shown = look_at (face_of (l.servers s.home).node) key in
        subst (λ (t : Seat).
        B arrived (cond (is_free s && not (l.servers s.home).stopped) (looked l c s key shown) l)
        (cond (is_free t && not (d.servers t.home).stopped)
        (looked d c t key (look_at (face_of (d.servers t.home).node) key)) d))
        (sym (seat_there c going))
        (subst (λ (u : RunningServer).
        B arrived (cond (is_free s && not (l.servers s.home).stopped) (looked l c s key shown) l)
        (cond (is_free s && not u.stopped) (looked d c s key (look_at (face_of u.node) key)) d))
        (sym (h.servers.same s.home (ap called (seat_home c) ∙ going)))
        (both_by_test (is_free s && not (l.servers s.home).stopped) (looked l c s key shown)
        (looked d c s key shown) (both_look c key shown going)))
    both_do (Stops i) going within =
        both_servers_do i going (record (l.servers i) { stopped = true }) (record (d.servers i) { stopped = true })
        (ap (λ (u : RunningServer). record u { stopped = true }) (h.servers.same i going)) (stopped_owns i)
    both_do (Notices i j) going within =
        subst (λ b. B arrived (cond (has_stopped l j || called j) (brought l i (Gone j)) l)
        (cond b (brought d i (Gone j)) d)) (sym (told_alike j))
        (both_by_test (has_stopped l j || called j) (brought l i (Gone j)) (brought d i (Gone j))
        (both_brought arrived l d i (Gone j) h going refl))

-- ---- a server is called gone

module _ (home : ℕ → ℕ) (most_arrived : ℕ → ℕ → ℕ) (most_got : ℕ → ℕ) (called : ℕ → Bool) (arrived : ℕ → ℕ → ℕ)
    (l d : Chain) (h : Beside home most_arrived most_got called arrived l d) where
  -- it is of the chain, and all that is to be seen of it was made up before
  pub calls_gone : (i : ℕ)
      → nat_lt i l.count ≡ true
      → ((c : ℕ) → home c ≡ i → called i ≡ false → most_got c ≤ length (l.seats c).got)
      → ((j : ℕ) → called i ≡ false → most_arrived i j ≤ arrived i j + length (l.channels i j))
      → Beside home most_arrived most_got (with_at called i true) arrived l (done d (Stops i))
  calls_gone i there replies messages = record {
    count = h.count;
    of_chain = λ k gone. elim (cases_eq k i) [
      | inl same ↦ rw same there
      | inr other ↦ h.of_chain k (sym (at_other called i true k other) ∙ gone)
    ];
    servers = server_called home called l.servers d.servers h.servers i;
    seats = seats_called home most_got called l.seats d.seats h.seats i replies;
    channels = channels_called most_arrived called arrived l.channels d.channels h.channels i messages;
  }
