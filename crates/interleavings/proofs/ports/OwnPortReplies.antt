-- A reply that goes to a seat by its port goes to the seat of that number.
use Rattle.std.proofs.Common.{◌≡◌, ℕ, ◌<◌, true, cond, List, [], ◌∷◌, ◌++◌, map, refl, ap, sym, ◌∙◌, subst}
use Rattle.std.proofs.Common.{inl, inr, eq-eqb, arith}
use Rattle.std.specs.Prelude.{not, ◌==◌, ◌&&◌, is_some}
use Rattle.std.proofs.lemmas.Bool.{cases_eq, ne_eqb}
use Rattle.table.specs.declared.operations.Reply.{Reply}
use Rattle.interleavings.specs.Chains.{RunningServer, Seat, Chain, with_running, replies_to, without_reply}
use Rattle.interleavings.specs.Chains.{OfNotices, first_of}
use Rattle.interleavings.specs.Moves.{Takes, Replies, reply_put, took, done}
use Rattle.interleavings.specs.OwnPorts.{port_at, reply_put_from, with_own_ports}
use Rattle.interleavings.specs.Ports.{output_to}
use Rattle.interleavings.proofs.lists.ChangedFunctions.{at_self}
use Rattle.interleavings.proofs.ports.RenamedChains.{Same, SameUnder, of_chain, seat_there, same_server, same_seat}
use Rattle.interleavings.proofs.ports.RenamedServers.{running_renamed, replies_renamed, without_reply_renamed}
use Rattle.interleavings.proofs.ports.OwnPortMoves.{named, where_not}
use Rattle.interleavings.proofs.ports.SeatNames.{seat_in, seat_named, seat_apart}

module _ (n : ℕ) (homes : List ℕ) {names : ℕ → ℕ → ℕ} (l g : Chain) (h : SameUnder n homes names l g)
    (apart : (i p q : ℕ) → names i p ≡ names i q → p ≡ q) (i c : ℕ) where
  mailed_same : (port : ℕ)
      → names i port ≡ c
      → (rs : List Reply)
      → SameUnder n homes names (reply_put_from port l i c (l.seats c) rs) (reply_put g i c (l.seats c) rs)
  mailed_same port is [] = h
  mailed_same port is (reply ∷ more) =
      let f = names i in
      let os = (l.servers i).outbox in
      let s : RunningServer = record (l.servers i) { outbox = without_reply port os } in
      let t : RunningServer = record (g.servers i) { outbox = without_reply c (g.servers i).outbox } in
      same_seat n homes (with_running l i s) (with_running g i t)
      (same_server n homes l g h i s t
      (λ within.
      ap (λ (u : RunningServer). record u { outbox = without_reply c u.outbox }) (h.servers i within)
      ∙ ap (λ ps. record (running_renamed f (l.servers i)) { outbox = ps })
      (ap (λ d. without_reply d (map (output_to f) os)) (sym is)
      ∙ without_reply_renamed f (apart i) port os))
      (h.stopped i) (λ over. over))
      c (record (l.seats c) { queued = (l.seats c).queued ++ reply ∷ [] }) refl

  -- a reply to the seat whose number is the port's name
  pub replies_by : (port : ℕ)
      → (i < n → names i port ≡ c)
      → SameUnder n homes names
      (cond (not (l.servers i).stopped)
      (reply_put_from port l i c (l.seats c) (replies_to port (l.servers i).outbox)) l)
      (done g (Replies i c))
  replies_by port is =
      let s = l.seats c in
      let f = names i in
      let os = (l.servers i).outbox in
      let rs = replies_to port os in
      let there = replies_to c (g.servers i).outbox in
      subst (λ b. SameUnder n homes names (cond (not (l.servers i).stopped) (reply_put_from port l i c s rs) l)
      (cond b g (reply_put g i c (g.seats c) there)))
      (sym (h.stopped i))
      (subst (λ (ss : ℕ → Seat).
      SameUnder n homes names (cond (not (l.servers i).stopped) (reply_put_from port l i c s rs) l)
      (cond (l.servers i).stopped g (reply_put g i c (ss c) there)))
      (sym h.seats)
      (where_not n homes l g h (l.servers i).stopped (reply_put_from port l i c s rs) (reply_put g i c s there)
      (λ going.
      let within = of_chain n homes l g h i going in
      let same : there ≡ rs =
      ap (λ (u : RunningServer). replies_to c u.outbox) (h.servers i within)
      ∙ ap (λ d. replies_to d (map (output_to f) os)) (sym (is within)) ∙ replies_renamed f (apart i) port os in
      subst (λ xs. SameUnder n homes names (reply_put_from port l i c s rs) (reply_put g i c s xs)) (sym same)
      (mailed_same port (is within) rs))))

module _ (n : ℕ) (homes : List ℕ) {names : ℕ → ℕ → ℕ} (l g : Chain) (h : SameUnder n homes names l g) where
  -- a server beyond the chain takes nothing
  pub nothing_taken : done g (Takes n OfNotices) ≡ g
  nothing_taken =
      let s = g.servers n in
      let over : s.stopped ≡ true = h.stopped n ∙ h.over n (omega arith) in
      ap (λ t. with_running g n t)
      (ap (λ b. cond b s (cond (is_some s.unpublished) s (took s OfNotices (first_of OfNotices s.inbox)))) over)
      ∙ ap (λ ss. record g { servers = ss }) (at_self g.servers n)

module _ (n : ℕ) (homes : List ℕ) (l g : Chain) (h : Same n homes l g) (i c : ℕ) where
  -- a reply to a seat of this server
  replies_here : (l.seats c).home ≡ i
      → Same n homes
      (cond (not (l.servers i).stopped)
      (reply_put_from (port_at homes c (l.seats c).home) l i c (l.seats c)
      (replies_to (port_at homes c (l.seats c).home) (l.servers i).outbox)) l)
      (done g (Replies i c))
  replies_here at =
      let s = l.seats c in
      let port = port_at homes c s.home in
      replies_by n homes l g h (seat_apart homes) i c port
      (λ within.
      subst (λ k. seat_in homes k port ≡ c) at
      (seat_named homes c s.home (seat_there n homes l g h c (omega (arith, within, at)))))

  -- a reply by its port
  pub replies_same : Same n homes (with_own_ports homes l (Replies i c)) (done g (named n homes (Replies i c)))
  replies_same =
      let s = l.seats c in
      let port = port_at homes c s.home in
      let x = reply_put_from port l i c s (replies_to port (l.servers i).outbox) in
      let st = (l.servers i).stopped in
      subst
      (λ k. Same n homes (cond (s.home == i && not st) x l) (done g (cond (k == i) (Replies i c) (Takes n OfNotices))))
      (h.sits c)
      (elim (cases_eq s.home i) [
        | inl at ↦ subst
            (λ b. Same n homes (cond (b && not st) x l) (done g (cond b (Replies i c) (Takes n OfNotices))))
            (sym (eq-eqb s.home i at)) (replies_here at)
        | inr other ↦ subst
            (λ b. Same n homes (cond (b && not st) x l) (done g (cond b (Replies i c) (Takes n OfNotices))))
            (sym (ne_eqb s.home i other)) (subst (λ k. Same n homes l k) (sym (nothing_taken n homes l g h)) h)
      ])
