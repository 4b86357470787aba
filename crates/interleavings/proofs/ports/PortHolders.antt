-- Who has a port: each port that stands at a server is that of a seat whose call awaits its reply, and names lead from
-- the ports to these seats. Moves that send no call and put no reply leave it so.
use Rattle.std.proofs.Common.{◌≡◌, ◌≢◌, ℕ, zero, suc, ◌+◌, ◌<◌, ◌≤◌, true, false, List, [], ◌∷◌, ◌++◌, length}
use Rattle.std.proofs.Common.{refl, arith, ap, sym, ◌∙◌, subst, inl, inr, eq-eqb}
use Rattle.std.specs.Prelude.{not, ◌==◌}
use Rattle.std.proofs.lemmas.Bool.{cases_eq, both_ways, le-ltb}
use Rattle.std.proofs.lemmas.Bool.{and_parts, not-true, eqb-true}
use Rattle.node.specs.declared.messages.Input.{Input}
use Rattle.node.specs.declared.messages.Peer.{Peer}
use Rattle.interleavings.specs.Chains.{RunningServer, Seat, Chain, with_at, with_running, with_channel, with_seat}
use Rattle.interleavings.specs.Chains.{opening_chain, calls_from}
use Rattle.interleavings.specs.Moves.{brought}
use Rattle.interleavings.specs.FreePorts.{PortChoice, port_now, awaits_reply, has_port, is_free_port}
use Rattle.interleavings.proofs.lists.ChangedFunctions.{at_other, at_same}
use Rattle.interleavings.proofs.ports.StandingPorts.{standing, input_standing}

-- a seat's replies, got and queued, are those of its first calls, and one call is open at most
abbrev pub Counts : Seat → Type 0
Counts s = (length s.got + length s.queued ≤ length s.calls) × (length s.calls ≤ length s.got + 1)

module _ (n : ℕ) (ports : PortChoice) where
  -- the seat that has this port of server i
  pub record Holder (l : Chain) (i p : ℕ) : Type 0 where
    pub seat : ℕ
    pub home : (l.seats seat).home ≡ i
    pub awaits : awaits_reply (l.seats seat) ≡ true
    pub port : port_now ports l seat ≡ p

  -- Names of ports: no two of a server are the same; and a port that stands at a server of the chain stands there once,
  -- and is a seat's, whose number is its name.
  pub record Holds (names : ℕ → ℕ → ℕ) (l : Chain) : Type 0 where
    pub counts : (c : ℕ) → Counts (l.seats c)
    pub apart : (i p q : ℕ) → names i p ≡ names i q → p ≡ q
    pub few : (i p : ℕ) → i < n → standing p (l.servers i) ≤ 1
    pub held : (i p : ℕ) → i < n → 1 ≤ standing p (l.servers i) → Holder l i p
    pub named : (c : ℕ)
        → (l.seats c).home < n
        → awaits_reply (l.seats c) ≡ true
        → names (l.seats c).home (port_now ports l c) ≡ c

  -- so it is at the start
  pub holds_opening : (homes : List ℕ) → Holds (λ i p. p) (opening_chain n homes)
  holds_opening homes = record {
    counts = λ c. (omega arith, omega arith);
    apart = λ i p q e. e;
    few = λ i p within. omega arith;
    held = λ i p within some. absurd (omega (arith, some));
    named = λ c within awaits. absurd (let no : false ≡ true = awaits in cc);
  }

  module _ (names : ℕ → ℕ → ℕ) (l : Chain) (h : Holds names l) where
    -- a server changes, at which no port stands more often,
    pub holds_server : (i : ℕ) (s : RunningServer)
        → ((p : ℕ) → standing p s ≤ standing p (l.servers i))
        → Holds names (with_running l i s)
    holds_server i s fewer = record {
      counts = h.counts;
      apart = h.apart;
      few = λ k p within. below k p 1 (h.few k p within);
      held = λ k p within some.
          let w = h.held k p within (above k p some) in
          record { seat = w.seat; home = w.home; awaits = w.awaits; port = w.port };
      named = h.named;
    }
      where
        below : (k p m : ℕ) → standing p (l.servers k) ≤ m → standing p (with_at l.servers i s k) ≤ m
        below k p m e = elim (cases_eq k i) [
          | inl same ↦
              let now = ap (standing p) (ap (with_at l.servers i s) same ∙ at_same l.servers i s) in
              let then = ap (λ j. standing p (l.servers j)) same in
              omega (arith, e, now, then, fewer p)
          | inr other ↦ (let now = ap (standing p) (at_other l.servers i s k other) in omega (arith, e, now))
        ]

        above : (k p : ℕ) → 1 ≤ standing p (with_at l.servers i s k) → 1 ≤ standing p (l.servers k)
        above k p e = elim (cases_eq k i) [
          | inl same ↦
              let now = ap (standing p) (ap (with_at l.servers i s) same ∙ at_same l.servers i s) in
              let then = ap (λ j. standing p (l.servers j)) same in
              omega (arith, e, now, then, fewer p)
          | inr other ↦ (let now = ap (standing p) (at_other l.servers i s k other) in omega (arith, e, now))
        ]

    -- a channel does,
    pub holds_channel : (i j : ℕ) (ms : List Peer) → Holds names (with_channel l i j ms)
    holds_channel i j ms = record {
      counts = h.counts;
      apart = h.apart;
      few = h.few;
      held = λ k p within some.
          let w = h.held k p within some in
          record { seat = w.seat; home = w.home; awaits = w.awaits; port = w.port };
      named = h.named;
    }

    -- an input comes in that is no call,
    pub holds_brought : (i : ℕ) (x : Input)
        → ((p : ℕ) → calls_from p (x ∷ []) ≡ [])
        → Holds names (brought l i x)
    holds_brought i x none =
        holds_server i (record (l.servers i) { inbox = (l.servers i).inbox ++ x ∷ [] })
        (λ p. omega (arith, input_standing p (l.servers i) x, ap (λ cs. length cs) (none p)))

    -- or a seat that has no port
    pub holds_seat : (c : ℕ) (s : Seat)
        → awaits_reply (l.seats c) ≡ false
        → awaits_reply s ≡ false
        → Counts s
        → Holds names (with_seat l c s)
    holds_seat c s before after counts = record {
      counts = λ d. elim (cases_eq d c) [
        | inl same ↦ subst Counts (sym (ap (with_at l.seats c s) same ∙ at_same l.seats c s)) counts
        | inr other ↦ subst Counts (sym (at_other l.seats c s d other)) (h.counts d)
      ];
      apart = h.apart;
      few = h.few;
      held = λ k p within some.
          let w = h.held k p within some in
          let other : w.seat ≢ c = λ e. both_ways _ (ap (λ d. awaits_reply (l.seats d)) e ∙ before) w.awaits in
          let same = at_other l.seats c s w.seat other in
          record {
            seat = w.seat;
            home = ap (λ (u : Seat). u.home) same ∙ w.home;
            awaits = ap awaits_reply same ∙ w.awaits;
            port = ap (λ (u : Seat). ports w.seat (length u.got)) same ∙ w.port;
          };
      named = λ d within awaits. elim (cases_eq d c) [
        | inl same ↦ absurd (both_ways _
            (ap awaits_reply (ap (with_at l.seats c s) same ∙ at_same l.seats c s) ∙ after) awaits)
        | inr other ↦
            let same = at_other l.seats c s d other in
            subst (λ (u : Seat). names u.home (ports d (length u.got)) ≡ d) (sym same)
            (h.named d (subst (λ (u : Seat). u.home < n) same within) (sym (ap awaits_reply same) ∙ awaits))
      ];
    }

-- a seat that may send has no port
pub free_waits_not : (s : Seat) → (length s.calls == length s.got) ≡ true → awaits_reply s ≡ false
free_waits_not s e =
    le-ltb (length s.got + length s.queued) (length s.calls)
    (let same : length s.calls ≡ length s.got = eqb-true (length s.calls) (length s.got) e in omega (arith, same))

-- a port that is free is nobody's
pub free_is_not : (ports : PortChoice) (l : Chain) (i p m : ℕ) (c : ℕ)
    → is_free_port ports l i p m ≡ true
    → c < m
    → (l.seats c).home ≡ i
    → awaits_reply (l.seats c) ≡ true
    → port_now ports l c ≡ p
    → ⊥
free_is_not ports l i p zero c free below home awaits port = omega (arith, below)
free_is_not ports l i p (suc m) c free below home awaits port =
    let both = and_parts (not (has_port ports l i p m)) (is_free_port ports l i p m) free in
    elim (cases_eq c m) [
      | inl last ↦
          let has : has_port ports l i p c ≡ true = rw (
            eq-eqb (l.seats c).home i home,
            awaits,
            eq-eqb
                (port_now ports l c) p port,
          ) refl in
          both_ways _ (ap (has_port ports l i p) last ∙ not-true (has_port ports l i p m) both.0) has
      | inr other ↦ free_is_not ports l i p m c both.1 (omega (arith, below, other)) home awaits port
    ]
