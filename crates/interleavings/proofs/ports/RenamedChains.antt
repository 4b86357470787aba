-- A chain with each server's own ports, and the chain with the seats' numbers as ports, which does the same: under any
-- names that ports have, of which `seat_in` gives those of `OwnPorts.antt`.
use Rattle.std.proofs.Common.{◌≡◌, ℕ, zero, suc, ◌<◌, ◌≤◌, true, false, List, [], ◌∷◌, ◌++◌, map, Some, refl}
use Rattle.std.proofs.Common.{arith, ap, sym, ◌∙◌, subst, inl, inr}
use Rattle.std.specs.Prelude.{slice_get, slice_index_or, nat_lt, not}
use Rattle.std.proofs.lemmas.Bool.{cases_eq, cases_lt, both_ways, ltb-true, cases_Bool}
use Rattle.std.proofs.lemmas.List.{map-append}
use Rattle.node.specs.declared.messages.Input.{Input}
use Rattle.node.specs.declared.messages.Peer.{Peer}
use Rattle.interleavings.specs.Chains.{RunningServer, Seat, Chain, with_at, with_running, with_channel, with_seat}
use Rattle.interleavings.specs.Chains.{opening_chain}
use Rattle.interleavings.specs.Moves.{brought}
use Rattle.interleavings.specs.Ports.{input_at}
use Rattle.interleavings.proofs.lists.ChangedFunctions.{at_other, at_same, kept_at}
use Rattle.interleavings.proofs.ports.SeatNames.{seat_in}
use Rattle.interleavings.proofs.ports.RenamedServers.{running_renamed}

-- The chain g is the chain l, with these names of each server's ports. Only of servers of the chain is it asked.
pub record SameUnder (n : ℕ) (homes : List ℕ) (names : ℕ → ℕ → ℕ) (l g : Chain) : Type 0 where
  pub count : g.count ≡ l.count
  pub servers : (i : ℕ) → i < n → g.servers i ≡ running_renamed (names i) (l.servers i)
  pub stopped : (i : ℕ) → (g.servers i).stopped ≡ (l.servers i).stopped
  pub over : (i : ℕ) → n ≤ i → (l.servers i).stopped ≡ true
  pub channels : g.channels ≡ l.channels
  pub seats : g.seats ≡ l.seats
  pub sits : (c : ℕ) → (l.seats c).home ≡ slice_index_or homes c n

-- with the numbers of the seats as names
abbrev pub Same : ℕ → List ℕ → Chain → Chain → Type 0
Same n homes l g = SameUnder n homes (seat_in homes) l g

beyond : (i n : ℕ) → n ≤ i → not (nat_lt i n) ≡ true
beyond i n h = elim (cases_Bool (nat_lt i n)) [
  | inl below ↦ absurd (let no : i < n = ltb-true i n below in omega (arith, no, h))
  | inr above ↦ ap not above
]

module _ (n : ℕ) (homes : List ℕ) {names : ℕ → ℕ → ℕ} where
  -- so it is at the start
  pub same_opening : SameUnder n homes names (opening_chain n homes) (opening_chain n homes)
  same_opening = record {
    count = refl;
    servers = λ i within. refl;
    stopped = λ i. refl;
    over = λ i h. beyond i n h;
    channels = refl;
    seats = refl;
    sits = λ c. refl;
  }

module _ (n : ℕ) (homes : List ℕ) {names : ℕ → ℕ → ℕ} (l g : Chain) (h : SameUnder n homes names l g) where
  -- who goes on is of the chain
  pub of_chain : (i : ℕ) → (l.servers i).stopped ≡ false → i < n
  of_chain i going = elim (cases_lt i n) [
    | inl within ↦ within
    | inr above ↦ absurd (both_ways _ going (h.over i above))
  ]

  -- a seat at a server of the chain stands among the homes
  pub seat_there : (c : ℕ) → (l.seats c).home < n → slice_get homes c ≡ Some (l.seats c).home
  seat_there c within = by homes c (l.seats c).home (h.sits c) within
    where
      by : (xs : List ℕ) (k i : ℕ) → i ≡ slice_index_or xs k n → i < n → slice_get xs k ≡ Some i
      by [] k i e below = absurd (omega (arith, e, below))
      by (x ∷ xs) zero i e below = ap (λ y. Some y) (sym e)
      by (x ∷ xs) (suc k) i e below = by xs k i e below

  -- a server changes alike
  pub same_server : (i : ℕ) (s t : RunningServer)
      → (i < n → t ≡ running_renamed (names i) s)
      → t.stopped ≡ s.stopped
      → ((l.servers i).stopped ≡ true → s.stopped ≡ true)
      → SameUnder n homes names (with_running l i s) (with_running g i t)
  same_server i s t alike stays still = record {
    count = h.count;
    servers = λ k within. elim (cases_eq k i) [
      | inl same ↦ subst (λ x. with_at g.servers i t x ≡ running_renamed (names x) (with_at l.servers i s x))
          (sym same)
          (at_same g.servers i t ∙ alike (omega (arith, within, same))
          ∙ ap (running_renamed (names i)) (sym (at_same l.servers i s)))
      | inr other ↦ at_other g.servers i t k other ∙ h.servers k within
          ∙ ap (running_renamed (names k)) (sym (at_other l.servers i s k other))
    ];
    stopped = λ k. elim (cases_eq k i) [
      | inl same ↦ subst (λ x. (with_at g.servers i t x).stopped ≡ (with_at l.servers i s x).stopped) (sym same)
          (ap (λ (u : RunningServer). u.stopped) (at_same g.servers i t) ∙ stays
          ∙ ap (λ (u : RunningServer). u.stopped) (sym (at_same l.servers i s)))
      | inr other ↦ ap (λ (u : RunningServer). u.stopped) (at_other g.servers i t k other) ∙ h.stopped k
          ∙ ap (λ (u : RunningServer). u.stopped) (sym (at_other l.servers i s k other))
    ];
    over = λ k above. elim (cases_eq k i) [
      | inl same ↦ subst (λ x. (with_at l.servers i s x).stopped ≡ true) (sym same)
          (ap (λ (u : RunningServer). u.stopped) (at_same l.servers i s)
          ∙ still (h.over i (omega (arith, above, same))))
      | inr other ↦ ap (λ (u : RunningServer). u.stopped) (at_other l.servers i s k other) ∙ h.over k above
    ];
    channels = h.channels;
    seats = h.seats;
    sits = h.sits;
  }

  -- a channel does,
  pub same_channel : (i j : ℕ) (ms : List Peer) → SameUnder n homes names (with_channel l i j ms)
      (with_channel g i j ms)
  same_channel i j ms = record {
    count = h.count;
    servers = h.servers;
    stopped = h.stopped;
    over = h.over;
    channels = ap (λ ws. with_at ws i (with_at (ws i) j ms)) h.channels;
    seats = h.seats;
    sits = h.sits;
  }

  -- and a seat that stays at its server
  pub same_seat : (c : ℕ) (s : Seat) → s.home ≡ (l.seats c).home → SameUnder n homes names (with_seat l c s)
      (with_seat g c s)
  same_seat c s stays = record {
    count = h.count;
    servers = h.servers;
    stopped = h.stopped;
    over = h.over;
    channels = h.channels;
    seats = ap (λ ss. with_at ss c s) h.seats;
    sits = λ d. kept_at (λ (u : Seat). u.home) l.seats c s stays d ∙ h.sits d;
  }

  -- an input comes in alike
  pub same_brought : (i : ℕ) (x y : Input)
      → (i < n → y ≡ input_at (names i) x)
      → SameUnder n homes names (brought l i x) (brought g i y)
  same_brought i x y alike =
      let f = names i in
      let inbox = (l.servers i).inbox in
      same_server i (record (l.servers i) { inbox = inbox ++ x ∷ [] })
      (record (g.servers i) { inbox = (g.servers i).inbox ++ y ∷ [] })
      (λ within.
      ap (λ (u : RunningServer). record u { inbox = u.inbox ++ y ∷ [] }) (h.servers i within)
      ∙ ap (λ xs. record (running_renamed f (l.servers i)) { inbox = xs })
      (ap (λ z. map (input_at f) inbox ++ z ∷ []) (alike within) ∙ sym (map-append (input_at f) inbox (x ∷ []))))
      (h.stopped i) (λ e. e)
