-- A call is sent from a port that nobody has: the port's name is the seat's number from then on.
use Rattle.std.proofs.Common.{◌≡◌, ◌≢◌, ℕ, ◌+◌, ◌<◌, ◌≤◌, true, false, cond, List, [], ◌∷◌, ◌++◌, length, refl, arith}
use Rattle.std.proofs.Common.{ap, sym, ◌∙◌, subst, inl, inr, eq-eqb, length-append}
use Rattle.std.specs.Prelude.{◌==◌}
use Rattle.std.proofs.lemmas.Bool.{cases_eq, cases_lt, both_ways, lt-ltb, ne_eqb, eqb-true}
use Rattle.table.specs.declared.operations.Call.{Call}
use Rattle.node.specs.declared.messages.Input.TheVariants.{Call as Called}
use Rattle.interleavings.specs.Chains.{RunningServer, Seat, Chain, with_at, with_seat}
use Rattle.interleavings.specs.Moves.{brought}
use Rattle.interleavings.specs.FreePorts.{PortChoice, port_now, awaits_reply, is_free_port}
use Rattle.interleavings.proofs.lists.ChangedFunctions.{at_other, at_same}
use Rattle.interleavings.proofs.ports.PortHolders.{Counts, Holder, Holds, free_waits_not, free_is_not}
use Rattle.interleavings.proofs.ports.RenamedChains.{SameUnder, same_seat, same_brought}
use Rattle.interleavings.proofs.ports.RenamedServers.{running_renamed}
use Rattle.interleavings.proofs.ports.StandingPorts.{standing, input_standing, names_agree}

-- ---- two names exchanged

-- a stands for b, and b for a
abbrev pub exchanged : ℕ → ℕ → ℕ → ℕ
exchanged a b x = cond (x == a) b (cond (x == b) a x)

exchanged_first : (a b : ℕ) → exchanged a b a ≡ b
exchanged_first a b = ap (λ t. cond t b (cond (a == b) a a)) (eq-eqb a a refl)

exchanged_other : (a b x : ℕ) → x ≢ a → x ≢ b → exchanged a b x ≡ x
exchanged_other a b x f g =
    ap (λ t. cond t b (cond (x == b) a x)) (ne_eqb x a f) ∙ ap (λ t. cond t a x) (ne_eqb x b g)

exchanged_second : (a b : ℕ) → exchanged a b b ≡ a
exchanged_second a b = elim (cases_eq b a) [
  | inl same ↦ ap (λ t. cond t b (cond (b == b) a b)) (eq-eqb b a same) ∙ same
  | inr other ↦ ap (λ t. cond t b (cond (b == b) a b)) (ne_eqb b a other)
      ∙ ap (λ t. cond t a b) (eq-eqb b b refl)
]

-- exchanged twice they are as before
exchanged_twice : (a b x : ℕ) → exchanged a b (exchanged a b x) ≡ x
exchanged_twice a b x = elim (cases_eq x a) [
  | inl same ↦ ap (λ y. exchanged a b (exchanged a b y)) same ∙ ap (exchanged a b) (exchanged_first a b)
      ∙ exchanged_second a b ∙ sym same
  | inr apart ↦ elim (cases_eq x b) [
    | inl same ↦ ap (λ y. exchanged a b (exchanged a b y)) same ∙ ap (exchanged a b) (exchanged_second a b)
        ∙ exchanged_first a b ∙ sym same
    | inr other ↦ ap (exchanged a b) (exchanged_other a b x apart other) ∙ exchanged_other a b x apart other
  ]
]

module _ (n : ℕ) (homes : List ℕ) (ports : PortChoice) (names : ℕ → ℕ → ℕ) (l : Chain) (h : Holds n ports names l)
    (c : ℕ)
    (call : Call)
    (sits : (d : ℕ) → (l.seats d).home < n → d < length homes)
    (free : (length (l.seats c).calls == length (l.seats c).got) ≡ true)
    (unused : is_free_port ports l (l.seats c).home (port_now ports l c) (length homes) ≡ true) where
  abbrev i : ℕ
  i = (l.seats c).home

  abbrev p : ℕ
  p = port_now ports l c

  -- the names from then on: at this server the seat's number, and what named its port before, are exchanged
  abbrev pub renaming : ℕ → ℕ → ℕ
  renaming = with_at names i (λ q. exchanged (names i p) c (names i q))

  abbrev waiting : Seat
  waiting = record (l.seats c) { calls = (l.seats c).calls ++ call ∷ [] }

  abbrev pub after_send : Chain
  after_send = brought (with_seat l c waiting) i (Called p call)

  abbrev fuller : RunningServer
  fuller = record (l.servers i) { inbox = (l.servers i).inbox ++ Called p call ∷ [] }

  one_call : length (l.seats c).calls ≡ length (l.seats c).got
  one_call = eqb-true _ _ free

  idle : awaits_reply (l.seats c) ≡ false
  idle = free_waits_not (l.seats c) free

  not_this : (d : ℕ) → awaits_reply (l.seats d) ≡ true → d ≢ c
  not_this d awaits e = both_ways _ (ap (λ x. awaits_reply (l.seats x)) e ∙ idle) awaits

  -- nobody at this server has this port,
  nobody : i < n → (w : Holder n ports l i p) → ⊥
  nobody within w =
      free_is_not ports l i p (length homes) w.seat unused
      (sits w.seat (subst (λ k. k < n) (sym w.home) within)) w.home w.awaits w.port

  -- so it stands nowhere there
  nowhere : i < n → standing p (l.servers i) ≡ 0
  nowhere within = elim (cases_lt 0 (standing p (l.servers i))) [
    | inl some ↦ absurd (nobody within (h.held i p within (omega (arith, some))))
    | inr none ↦ omega (arith, none)
  ]

  -- the name of another seat that has a port there stays
  name_stays : i < n → (w : ℕ)
      → (l.seats w).home ≡ i
      → awaits_reply (l.seats w) ≡ true
      → (q : ℕ)
      → port_now ports l w ≡ q
      → exchanged (names i p) c (names i q) ≡ names i q
  name_stays within w home awaits q port =
      let named : names i q ≡ w =
      ap (names i) (sym port) ∙ subst (λ k. names k (port_now ports l w) ≡ w) home
      (h.named w (subst (λ k. k < n) (sym home) within) awaits) in
      exchanged_other (names i p) c (names i q)
      (λ e. nobody within
      (record { seat = w; home = home; awaits = awaits; port = port ∙ h.apart i q p e }))
      (λ e. not_this w awaits (sym named ∙ e))

  here : renaming i ≡ (λ q. exchanged (names i p) c (names i q))
  here = at_same names i (λ q. exchanged (names i p) c (names i q))

  own_name : renaming i p ≡ c
  own_name = ap (λ (f : ℕ → ℕ). f p) here ∙ exchanged_first (names i p) c

  there : (k : ℕ) → k ≢ i → renaming k ≡ names k
  there k other = at_other names i (λ q. exchanged (names i p) c (names i q)) k other

  -- what the servers are under the new names is what they were
  renamed_alike : (k : ℕ) → k < n → running_renamed (names k) (l.servers k) ≡ running_renamed (renaming k) (l.servers k)
  renamed_alike k within = elim (cases_eq k i) [
    | inl same ↦ subst
        (λ j. running_renamed (names j) (l.servers j) ≡ running_renamed (renaming j) (l.servers j)) (sym same)
        (names_agree (names i) (renaming i) (l.servers i)
        (λ q some.
        let inside = subst (λ j. j < n) same within in
        let w = h.held i q inside some in
        sym (ap (λ (f : ℕ → ℕ). f q) here ∙ name_stays inside w.seat w.home w.awaits q w.port)))
    | inr other ↦ ap (λ f. running_renamed f (l.servers k)) (sym (there k other))
  ]

  -- the two chains after it
  pub same_after : (g : Chain) → SameUnder n homes names l g
      → SameUnder n homes renaming after_send (brought (with_seat g c waiting) i (Called c call))
  same_after g s =
      let t : SameUnder n homes renaming l g = record {
        count = s.count;
        servers = λ k within. s.servers k within ∙ renamed_alike k within;
        stopped = s.stopped;
        over = s.over;
        channels = s.channels;
        seats = s.seats;
        sits = s.sits;
      } in
      same_brought n homes (with_seat l c waiting) (with_seat g c waiting) (same_seat n homes l g t c waiting refl) i
      (Called p call) (Called c call) (λ within. ap (λ d. Called d call) (sym own_name))

  -- ---- who has a port then

  seat_now : (d : ℕ) → d ≢ c → after_send.seats d ≡ l.seats d
  seat_now d other = at_other l.seats c waiting d other

  sent_seat : after_send.seats c ≡ waiting
  sent_seat = at_same l.seats c waiting

  longer : length ((l.seats c).calls ++ call ∷ []) ≡ length (l.seats c).calls + 1
  longer = length-append (l.seats c).calls (call ∷ [])

  counts_then : (d : ℕ) → Counts (after_send.seats d)
  counts_then d = elim (cases_eq d c) [
    | inl same ↦ subst (λ x. Counts (after_send.seats x)) (sym same)
        (subst Counts (sym sent_seat)
        (let few = (h.counts c).0 in (omega (arith, few, longer), omega (arith, one_call, longer))))
    | inr other ↦ subst Counts (sym (seat_now d other)) (h.counts d)
  ]

  apart_then : (k a b : ℕ) → renaming k a ≡ renaming k b → a ≡ b
  apart_then k a b e = elim (cases_eq k i) [
    | inl same ↦
        let f : exchanged (names i p) c (names i a) ≡ exchanged (names i p) c (names i b) =
        ap (λ (f : ℕ → ℕ). f a) (sym (ap renaming same ∙ here)) ∙ e
        ∙ ap (λ (f : ℕ → ℕ). f b) (ap renaming same ∙ here) in
        h.apart i a b (sym (exchanged_twice (names i p) c (names i a)) ∙ ap (exchanged (names i p) c) f
        ∙ exchanged_twice (names i p) c (names i b))
    | inr other ↦ h.apart k a b (ap (λ (f : ℕ → ℕ). f a) (sym (there k other)) ∙ e
        ∙ ap (λ (f : ℕ → ℕ). f b) (there k other))
  ]

  -- the call stands at its own port alone
  at_port : (q : ℕ) → q ≢ p → standing q fuller ≡ standing q (l.servers i)
  at_port q other =
      let none = ap (λ b. length (cond b (call ∷ []) [])) (ne_eqb p q (λ e. other (sym e))) in
      omega (arith, input_standing q (l.servers i) (Called p call), none)

  once : i < n → standing p fuller ≤ 1
  once within =
      let one = ap (λ b. length (cond b (call ∷ []) [])) (eq-eqb p p refl) in
      omega (arith, input_standing p (l.servers i) (Called p call), one, nowhere within)

  few_then : (k q : ℕ) → k < n → standing q (after_send.servers k) ≤ 1
  few_then k q within = elim (cases_eq k i) [
    | inl same ↦
        let inside = subst (λ j. j < n) same within in
        subst (λ j. standing q (after_send.servers j) ≤ 1) (sym same)
        (subst (λ s. standing q s ≤ 1) (sym (at_same l.servers i fuller))
        (elim (cases_eq q p) [
          | inl own ↦ subst (λ x. standing x fuller ≤ 1) (sym own) (once inside)
          | inr other ↦ (let before = h.few i q inside in omega (arith, at_port q other, before))
        ]))
    | inr other ↦ subst (λ s. standing q s ≤ 1) (sym (at_other l.servers i fuller k other)) (h.few k q within)
  ]

  awaits_then : awaits_reply waiting ≡ true
  awaits_then =
      lt-ltb (length waiting.got + length waiting.queued) (length waiting.calls)
      (let few = (h.counts c).0 in omega (arith, few, longer))

  keeps_port : (k q : ℕ) → Holder n ports l k q → Holder n ports after_send k q
  keeps_port k q w =
      let same = seat_now w.seat (not_this w.seat w.awaits) in
      record {
        seat = w.seat;
        home = ap (λ (u : Seat). u.home) same ∙ w.home;
        awaits = ap awaits_reply same ∙ w.awaits;
        port = ap (λ (u : Seat). ports w.seat (length u.got)) same ∙ w.port;
      }

  has_it : Holder n ports after_send i p
  has_it = record {
    seat = c;
    home = ap (λ (u : Seat). u.home) sent_seat;
    awaits = ap awaits_reply sent_seat ∙ awaits_then;
    port = ap (λ (u : Seat). ports c (length u.got)) sent_seat;
  }

  held_then : (k q : ℕ) → k < n → 1 ≤ standing q (after_send.servers k) → Holder n ports after_send k q
  held_then k q within some = elim (cases_eq k i) [
    | inl same ↦ subst (λ j. Holder n ports after_send j q) (sym same)
        (elim (cases_eq q p) [
          | inl own ↦ subst (λ x. Holder n ports after_send i x) (sym own) has_it
          | inr other ↦
              let now : standing q (after_send.servers k) ≡ standing q fuller =
              ap (λ j. standing q (after_send.servers j)) same ∙ ap (standing q) (at_same l.servers i fuller) in
              keeps_port i q (h.held i q (subst (λ j. j < n) same within) (omega (arith, some, now, at_port q other)))
        ])
    | inr other ↦
        let now = ap (standing q) (at_other l.servers i fuller k other) in
        keeps_port k q (h.held k q within (omega (arith, some, now)))
  ]

  named_then : (d : ℕ)
      → (after_send.seats d).home < n
      → awaits_reply (after_send.seats d) ≡ true
      → renaming (after_send.seats d).home (port_now ports after_send d) ≡ d
  named_then d within awaits = elim (cases_eq d c) [
    | inl same ↦ subst (λ x. renaming (after_send.seats x).home (port_now ports after_send x) ≡ x) (sym same)
        (subst (λ (u : Seat). renaming u.home (ports c (length u.got)) ≡ c) (sym sent_seat) own_name)
    | inr other ↦
        let kept = seat_now d other in
        subst (λ (u : Seat). renaming u.home (ports d (length u.got)) ≡ d) (sym kept)
        (stays d (subst (λ (u : Seat). u.home < n) kept within) (sym (ap awaits_reply kept) ∙ awaits))
  ]
    where
      stays : (d : ℕ)
          → (l.seats d).home < n
          → awaits_reply (l.seats d) ≡ true
          → renaming (l.seats d).home (port_now ports l d) ≡ d
      stays d inside was = elim (cases_eq (l.seats d).home i) [
        | inl at ↦
            ap (λ k. renaming k (port_now ports l d)) at ∙ ap (λ (f : ℕ → ℕ). f (port_now ports l d)) here
            ∙ name_stays (subst (λ k. k < n) at inside) d at was (port_now ports l d) refl
            ∙ ap (λ k. names k (port_now ports l d)) (sym at) ∙ h.named d inside was
        | inr away ↦ ap (λ (f : ℕ → ℕ). f (port_now ports l d)) (there (l.seats d).home away) ∙ h.named d inside was
      ]

  pub holds_after : Holds n ports renaming after_send
  holds_after = record {
    counts = counts_then;
    apart = apart_then;
    few = few_then;
    held = held_then;
    named = named_then;
  }
