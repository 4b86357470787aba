-- A reply is put: its seat has no port any more.
use Rattle.std.proofs.Common.{◌≡◌, ◌≢◌, ℕ, ◌+◌, ◌<◌, ◌≤◌, true, false, List, [], ◌∷◌, ◌++◌, length, arith}
use Rattle.std.proofs.Common.{ap, sym, ◌∙◌, subst, inl, inr, length-append}
use Rattle.std.proofs.lemmas.Bool.{cases_eq, both_ways, le-ltb, ltb-true}
use Rattle.table.specs.declared.operations.Reply.{Reply}
use Rattle.interleavings.specs.Chains.{RunningServer, Seat, Chain, with_at, with_running, with_seat, replies_to}
use Rattle.interleavings.specs.Chains.{without_reply}
use Rattle.interleavings.specs.FreePorts.{PortChoice, port_now, awaits_reply}
use Rattle.interleavings.proofs.lists.ChangedFunctions.{at_other, at_same}
use Rattle.interleavings.proofs.ports.PortHolders.{Counts, Holder, Holds}
use Rattle.interleavings.proofs.ports.StandingPorts.{standing, reply_standing, other_standing}

module _ (n : ℕ) (ports : PortChoice) (names : ℕ → ℕ → ℕ) (l : Chain) (h : Holds n ports names l) (i c : ℕ)
    (reply : Reply)
    (more : List Reply)
    (home : (l.seats c).home ≡ i)
    (awaits : awaits_reply (l.seats c) ≡ true)
    (first : replies_to (port_now ports l c) (l.servers i).outbox ≡ reply ∷ more) where
  abbrev p : ℕ
  p = port_now ports l c

  abbrev lighter : RunningServer
  lighter = record (l.servers i) { outbox = without_reply p (l.servers i).outbox }

  abbrev replied : Seat
  replied = record (l.seats c) { queued = (l.seats c).queued ++ reply ∷ [] }

  abbrev pub after_reply : Chain
  after_reply = with_seat (with_running l i lighter) c replied

  longer : length ((l.seats c).queued ++ reply ∷ []) ≡ length (l.seats c).queued + 1
  longer = length-append (l.seats c).queued (reply ∷ [])

  waited : length (l.seats c).got + length (l.seats c).queued < length (l.seats c).calls
  waited = ltb-true _ _ awaits

  waits_no_more : awaits_reply replied ≡ false
  waits_no_more =
      le-ltb (length replied.got + length replied.queued) (length replied.calls)
      (let few = (h.counts c).1 in omega (arith, few, longer))

  one_less : standing p lighter + 1 ≤ standing p (l.servers i)
  one_less = reply_standing p (l.servers i) reply more first

  fewer : (q : ℕ) → standing q lighter ≤ standing q (l.servers i)
  fewer q = elim (cases_eq q p) [
    | inl own ↦ subst (λ x. standing x lighter ≤ standing x (l.servers i)) (sym own) (omega (arith, one_less))
    | inr other ↦ (let same = other_standing q p (l.servers i) other in omega (arith, same))
  ]

  seat_now : (d : ℕ) → d ≢ c → after_reply.seats d ≡ l.seats d
  seat_now d other = at_other l.seats c replied d other

  server_now : (q : ℕ) → standing q (after_reply.servers i) ≡ standing q lighter
  server_now q = ap (standing q) (at_same l.servers i lighter)

  server_else : (k q : ℕ) → k ≢ i → standing q (after_reply.servers k) ≡ standing q (l.servers k)
  server_else k q other = ap (standing q) (at_other l.servers i lighter k other)

  keeps_port : (k q : ℕ) → (w : Holder n ports l k q) → w.seat ≢ c → Holder n ports after_reply k q
  keeps_port k q w other =
      let same = seat_now w.seat other in
      record {
        seat = w.seat;
        home = ap (λ (u : Seat). u.home) same ∙ w.home;
        awaits = ap awaits_reply same ∙ w.awaits;
        port = ap (λ (u : Seat). ports w.seat (length u.got)) same ∙ w.port;
      }

  pub holds_replied : Holds n ports names after_reply
  holds_replied = record {
    counts = λ d. elim (cases_eq d c) [
      | inl same ↦ subst Counts (sym (ap (with_at l.seats c replied) same ∙ at_same l.seats c replied))
          (let few = (h.counts c).1 in (omega (arith, waited, longer), omega (arith, few)))
      | inr other ↦ subst Counts (sym (seat_now d other)) (h.counts d)
    ];
    apart = h.apart;
    few = λ k q within. elim (cases_eq k i) [
      | inl same ↦ subst (λ j. standing q (after_reply.servers j) ≤ 1) (sym same)
          (let before = h.few i q (subst (λ j. j < n) same within) in
          omega (arith, server_now q, fewer q, before))
      | inr other ↦ (let before = h.few k q within in omega (arith, server_else k q other, before))
    ];
    held = λ k q within some. elim (cases_eq k i) [
      | inl same ↦
          let inside = subst (λ j. j < n) same within in
          let now = ap (λ j. standing q (after_reply.servers j)) same ∙ server_now q in
          let w = h.held i q inside (omega (arith, some, now, fewer q)) in
          subst (λ j. Holder n ports after_reply j q) (sym same)
          (keeps_port i q w (λ e.
          let own : q ≡ p = sym w.port ∙ ap (port_now ports l) e in
          let before = h.few i p inside in
          let there = ap (λ x. standing x lighter) own in
          omega (arith, some, now, there, one_less, before)))
      | inr other ↦
          let w = h.held k q within (omega (arith, some, server_else k q other)) in
          keeps_port k q w (λ e. other (sym w.home ∙ ap (λ d. (l.seats d).home) e ∙ home))
    ];
    named = λ d within waits. elim (cases_eq d c) [
      | inl same ↦ absurd (both_ways _
          (ap awaits_reply (ap (with_at l.seats c replied) same ∙ at_same l.seats c replied) ∙ waits_no_more) waits)
      | inr other ↦
          let kept = seat_now d other in
          subst (λ (u : Seat). names u.home (ports d (length u.got)) ≡ d) (sym kept)
          (h.named d (subst (λ (u : Seat). u.home < n) kept within) (sym (ap awaits_reply kept) ∙ waits))
    ];
  }
