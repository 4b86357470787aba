-- A chain in which servers have stopped, beside one in which they go on: what is the same in both.
use Rattle.std.proofs.Common.{◌≡◌, ℕ, suc, ◌+◌, ◌≤◌, Bool, true, false, List, [], ◌∷◌, ◌++◌, length, refl, arith, ap}
use Rattle.std.proofs.Common.{sym, ◌∙◌, subst, append_assoc, append-nil, ◌⊎◌, inl, inr}
use Rattle.std.specs.Prelude.{nat_lt}
use Rattle.std.proofs.lemmas.Bool.{cases_eq, both_ways}
use Rattle.node.specs.declared.messages.Peer.{Peer}
use Rattle.interleavings.specs.Chains.{RunningServer, Seat, Chain, with_at}
use Rattle.interleavings.proofs.lists.ChangedFunctions.{at_same, at_other}
use Rattle.interleavings.proofs.leased.SeatGrowth.{SeatGrows, seat_same, seat_then}
use Rattle.interleavings.proofs.leased.HomePorts.{at_home, Owns}

-- ---- functions of two numbers, changed at one pair

pub with_both : {X : Type 0} → (ℕ → ℕ → X) → ℕ → ℕ → X → ℕ → ℕ → X
with_both f i j x = with_at f i (with_at (f i) j x)

pub pair_same : {X : Type 0} (f : ℕ → ℕ → X) (i j : ℕ) (x : X) → with_at f i (with_at (f i) j x) i j ≡ x
pair_same f i j x = ap (λ g. g j) (at_same f i (with_at (f i) j x)) ∙ at_same (f i) j x

pub pair_other : {X : Type 0} (f : ℕ → ℕ → X) (i j : ℕ) (x : X) (p q : ℕ)
    → (p ≡ i → q ≡ j → ⊥)
    → with_at f i (with_at (f i) j x) p q ≡ f p q
pair_other f i j x p q other = elim (cases_eq p i) [
  | inl same ↦
      rw same (ap (λ g. g q) (at_same f i (with_at (f i) j x)) ∙ at_other (f i) j x q (λ e. other same e))
  | inr apart ↦ ap (λ g. g q) (at_other f i (with_at (f i) j x) p apart)
]

pub pair_cases : (p q i j : ℕ) → ((p ≡ i) × (q ≡ j)) ⊎ (p ≡ i → q ≡ j → ⊥)
pair_cases p q i j = elim (cases_eq p i) [
  | inl same ↦ elim (cases_eq q j) [
    | inl both ↦ inl (same, both)
    | inr other ↦ inr (λ e f. other f)
  ]
  | inr other ↦ inr (λ e f. other e)
]

-- ---- what is beside what

-- Servers: those that weren't called gone are the same, the others have stopped; and each has replies for its own seats
-- alone.
pub record ServersBeside (home : ℕ → ℕ) (called : ℕ → Bool) (f g : ℕ → RunningServer) : Type 0 where
  pub same : (i : ℕ) → called i ≡ false → g i ≡ f i
  pub stopped : (i : ℕ) → called i ≡ true → (g i).stopped ≡ true
  pub own : (i : ℕ) → Owns (at_home home i) (f i)

-- Seats: those at servers that weren't called gone are the same; the others have become what they are in the first
-- chain, after they had all replies that their clients are to be written.
pub record SeatsBeside (home : ℕ → ℕ) (most : ℕ → ℕ) (called : ℕ → Bool) (f g : ℕ → Seat) : Type 0 where
  pub sits : (c : ℕ) → (f c).home ≡ home c
  pub same : (c : ℕ) → called (home c) ≡ false → g c ≡ f c
  pub grown : (c : ℕ) → SeatGrows (g c) (f c)
  pub room : (c : ℕ) → called (home c) ≡ true → most c ≤ length (g c).got

-- What channels have beside each other: the first one some messages more, if its server was called gone.
pub record Longer (gone : Bool) (ms ns : List Peer) : Type 0 where
  pub late : List Peer
  pub all : ms ≡ ns ++ late
  pub none : gone ≡ false → late ≡ []

-- Channels to servers that weren't called gone: they have the same messages, and those that a server put after it was
-- called gone; the others are all that are to arrive.
pub record ChannelsBeside (most : ℕ → ℕ → ℕ) (called : ℕ → Bool) (arrived : ℕ → ℕ → ℕ) (f g : ℕ → ℕ → List Peer) :
    Type 0 where
  pub longer : (i j : ℕ) → called j ≡ false → Longer (called i) (f i j) (g i j)
  pub room : (i j : ℕ) → called j ≡ false → called i ≡ true → most i j ≤ arrived i j + length (g i j)

-- The chain d is beside l.
pub record Beside (home : ℕ → ℕ) (most_arrived : ℕ → ℕ → ℕ) (most_got : ℕ → ℕ) (called : ℕ → Bool)
    (arrived : ℕ → ℕ → ℕ) (l d : Chain) : Type 0 where
  pub count : d.count ≡ l.count
  pub of_chain : (i : ℕ) → called i ≡ true → nat_lt i l.count ≡ true
  pub servers : ServersBeside home called l.servers d.servers
  pub seats : SeatsBeside home most_got called l.seats d.seats
  pub channels : ChannelsBeside most_arrived called arrived l.channels d.channels

-- ---- servers change

module _ (home : ℕ → ℕ) (called : ℕ → Bool) (f g : ℕ → RunningServer) (h : ServersBeside home called f g) where
  owns_still : (i : ℕ) (x : RunningServer)
      → Owns (at_home home i) x
      → (k : ℕ)
      → Owns (at_home home k) (with_at f i x k)
  owns_still i x own k = elim (cases_eq k i) [
    | inl same ↦ rw same (subst (λ u. Owns (at_home home i) u) (sym (at_same f i x)) own)
    | inr other ↦ subst (λ u. Owns (at_home home k) u) (sym (at_other f i x k other)) (h.own k)
  ]

  -- one that wasn't called gone changes alike
  pub both_servers : (i : ℕ) (x y : RunningServer)
      → called i ≡ false
      → y ≡ x
      → Owns (at_home home i) x
      → ServersBeside home called (with_at f i x) (with_at g i y)
  both_servers i x y going e own = record {
    same = λ k going_k. elim (cases_eq k i) [
      | inl same ↦ rw same (at_same g i y ∙ e ∙ sym (at_same f i x))
      | inr other ↦ at_other g i y k other ∙ h.same k going_k ∙ sym (at_other f i x k other)
    ];
    stopped = λ k gone. elim (cases_eq k i) [
      | inl same ↦ absurd (both_ways (called i) going (ap called (sym same) ∙ gone))
      | inr other ↦ ap (λ (u : RunningServer). u.stopped) (at_other g i y k other) ∙ h.stopped k gone
    ];
    own = owns_still i x own;
  }

  -- one that was changes alone
  pub one_server : (i : ℕ) (x : RunningServer)
      → called i ≡ true
      → Owns (at_home home i) x
      → ServersBeside home called (with_at f i x) g
  one_server i x gone own = record {
    same = λ k going. elim (cases_eq k i) [
      | inl same ↦ absurd (both_ways (called i) (ap called (sym same) ∙ going) gone)
      | inr other ↦ h.same k going ∙ sym (at_other f i x k other)
    ];
    stopped = h.stopped;
    own = owns_still i x own;
  }

  -- one is called gone, and stops in the second chain
  pub server_called : (i : ℕ) → ServersBeside home (with_at called i true) f
      (with_at g i (record (g i) { stopped = true }))
  server_called i = record {
    same = λ k going. elim (cases_eq k i) [
      | inl same ↦ absurd (both_ways (with_at called i true i) (ap (with_at called i true) (sym same) ∙ going)
          (at_same called i true))
      | inr other ↦ at_other g i (record (g i) { stopped = true }) k other
          ∙ h.same k (sym (at_other called i true k other) ∙ going)
    ];
    stopped = λ k gone. elim (cases_eq k i) [
      | inl same ↦ rw same
          (ap (λ (u : RunningServer). u.stopped) (at_same g i (record (g i) { stopped = true })))
      | inr other ↦
          ap (λ (u : RunningServer). u.stopped) (at_other g i (record (g i) { stopped = true }) k other)
          ∙ h.stopped k (sym (at_other called i true k other) ∙ gone)
    ];
    own = h.own;
  }

-- ---- seats change

module _ (home : ℕ → ℕ) (most : ℕ → ℕ) (called : ℕ → Bool) (f g : ℕ → Seat)
    (h : SeatsBeside home most called f g) where
  sits_still : (c : ℕ) (t : Seat) → t.home ≡ home c → (k : ℕ) → (with_at f c t k).home ≡ home k
  sits_still c t e k = elim (cases_eq k c) [
    | inl same ↦ rw same (ap (λ (s : Seat). s.home) (at_same f c t) ∙ e)
    | inr other ↦ ap (λ (s : Seat). s.home) (at_other f c t k other) ∙ h.sits k
  ]

  -- one of a server that wasn't called gone changes alike
  pub both_seats : (c : ℕ) (t : Seat)
      → called (home c) ≡ false
      → t.home ≡ home c
      → SeatsBeside home most called (with_at f c t) (with_at g c t)
  both_seats c t going e = record {
    sits = sits_still c t e;
    same = λ k going_k. elim (cases_eq k c) [
      | inl same ↦ rw same (at_same g c t ∙ sym (at_same f c t))
      | inr other ↦ at_other g c t k other ∙ h.same k going_k ∙ sym (at_other f c t k other)
    ];
    grown = λ k. elim (cases_eq k c) [
      | inl same ↦ rw same (subst (λ u. SeatGrows u (with_at f c t c)) (sym (at_same g c t))
          (subst (λ u. SeatGrows t u) (sym (at_same f c t)) (seat_same t)))
      | inr other ↦ subst (λ u. SeatGrows u (with_at f c t k)) (sym (at_other g c t k other))
          (subst (λ u. SeatGrows (g k) u) (sym (at_other f c t k other)) (h.grown k))
    ];
    room = λ k gone. elim (cases_eq k c) [
      | inl same ↦ absurd (both_ways (called (home c)) going (ap (λ x. called (home x)) (sym same) ∙ gone))
      | inr other ↦ subst (λ (u : Seat). most k ≤ length u.got) (sym (at_other g c t k other)) (h.room k gone)
    ];
  }

  -- one of a server that was changes alone
  pub one_seat : (c : ℕ) (t : Seat)
      → called (home c) ≡ true
      → SeatGrows (f c) t
      → SeatsBeside home most called (with_at f c t) g
  one_seat c t gone grows = record {
    sits = sits_still c t (grows.home ∙ h.sits c);
    same = λ k going. elim (cases_eq k c) [
      | inl same ↦ absurd (both_ways (called (home c)) (ap (λ x. called (home x)) (sym same) ∙ going) gone)
      | inr other ↦ h.same k going ∙ sym (at_other f c t k other)
    ];
    grown = λ k. elim (cases_eq k c) [
      | inl same ↦ rw same (subst (λ u. SeatGrows (g c) u) (sym (at_same f c t))
          (seat_then (g c) (f c) t (h.grown c) grows))
      | inr other ↦ subst (λ u. SeatGrows (g k) u) (sym (at_other f c t k other)) (h.grown k)
    ];
    room = h.room;
  }

  -- their server is called gone, once they have all replies that their clients are to be written
  pub seats_called : (i : ℕ)
      → ((c : ℕ) → home c ≡ i → called i ≡ false → most c ≤ length (f c).got)
      → SeatsBeside home most (with_at called i true) f g
  seats_called i enough = record {
    sits = h.sits;
    same = λ c going. elim (cases_eq (home c) i) [
      | inl same ↦ absurd (both_ways (with_at called i true i) (ap (with_at called i true) (sym same) ∙ going)
          (at_same called i true))
      | inr other ↦ h.same c (sym (at_other called i true (home c) other) ∙ going)
    ];
    grown = h.grown;
    room = λ c gone. elim (cases_eq (home c) i) [
      | inl same ↦ by c same (called i) refl
      | inr other ↦ h.room c (sym (at_other called i true (home c) other) ∙ gone)
    ];
  }
    where
      by : (c : ℕ) → home c ≡ i → (b : Bool) → called i ≡ b → most c ≤ length (g c).got
      by c same true is = h.room c (ap called same ∙ is)
      by c same false is =
          subst (λ (u : Seat). most c ≤ length u.got) (sym (h.same c (ap called same ∙ is))) (enough c same is)

-- ---- channels change

module _ (most : ℕ → ℕ → ℕ) (called : ℕ → Bool) (arrived : ℕ → ℕ → ℕ) (f g : ℕ → ℕ → List Peer)
    (h : ChannelsBeside most called arrived f g) where
  -- a server that wasn't called gone puts a message
  pub both_put : (i j : ℕ) (m : Peer)
      → called i ≡ false
      → ChannelsBeside most called arrived (with_at f i (with_at (f i) j (f i j ++ m ∷ [])))
      (with_at g i (with_at (g i) j (g i j ++ m ∷ [])))
  both_put i j m going = record {
    longer = λ p q to. elim (pair_cases p q i j) [
      | inl same ↦ rw same.0 (rw same.1 (
          let w = h.longer i j (ap called (sym same.1) ∙ to) in
          record {
            late = [];
            all = pair_same f i j (f i j ++ m ∷ [])
                ∙ ap (λ ms. ms ++ m ∷ []) (w.all ∙ ap (λ ms. g i j ++ ms) (w.none going) ∙ append-nil (g i j))
                ∙ sym (append-nil (g i j ++ m ∷ []))
                ∙ ap (λ ms. ms ++ []) (sym (pair_same g i j (g i j ++ m ∷ [])));
            none = λ e. refl;
          }))
      | inr other ↦
          subst (λ ms. Longer (called p) ms (with_at g i (with_at (g i) j (g i j ++ m ∷ [])) p q))
          (sym (pair_other f i j (f i j ++ m ∷ []) p q other))
          (subst (λ ns. Longer (called p) (f p q) ns) (sym (pair_other g i j (g i j ++ m ∷ []) p q other))
          (h.longer p q to))
    ];
    room = λ p q to gone. elim (pair_cases p q i j) [
      | inl same ↦ absurd (both_ways (called i) going (ap called (sym same.0) ∙ gone))
      | inr other ↦ subst (λ (ms : List Peer). most p q ≤ arrived p q + length ms)
          (sym (pair_other g i j (g i j ++ m ∷ []) p q other)) (h.room p q to gone)
    ];
  }

  -- one that was puts one
  pub one_put : (i j : ℕ) (m : Peer)
      → called i ≡ true
      → ChannelsBeside most called arrived (with_at f i (with_at (f i) j (f i j ++ m ∷ []))) g
  one_put i j m gone = record {
    longer = λ p q to. elim (pair_cases p q i j) [
      | inl same ↦ rw same.0 (rw same.1 (
          let w = h.longer i j (ap called (sym same.1) ∙ to) in
          record {
            late = w.late ++ m ∷ [];
            all = pair_same f i j (f i j ++ m ∷ []) ∙ ap (λ ms. ms ++ m ∷ []) w.all
                ∙ append_assoc (g i j) w.late (m ∷ []);
            none = λ e. absurd (both_ways (called i) e gone);
          }))
      | inr other ↦ subst (λ ms. Longer (called p) ms (g p q))
          (sym (pair_other f i j (f i j ++ m ∷ []) p q other)) (h.longer p q to)
    ];
    room = h.room;
  }

  -- at a server that wasn't called gone a message arrives
  pub both_arrive : (i j : ℕ) (m : Peer) (ms ns : List Peer)
      → called j ≡ false
      → f i j ≡ m ∷ ms
      → g i j ≡ m ∷ ns
      → ChannelsBeside most called (with_at arrived i (with_at (arrived i) j (arrived i j + 1)))
      (with_at f i (with_at (f i) j ms)) (with_at g i (with_at (g i) j ns))
  both_arrive i j m ms ns going e k = record {
    longer = λ p q to. elim (pair_cases p q i j) [
      | inl same ↦ rw same.0 (rw same.1 (
          let w = h.longer i j going in
          let both : m ∷ ms ≡ m ∷ (ns ++ w.late) = sym e ∙ w.all ∙ ap (λ us. us ++ w.late) k in
          let rest : ms ≡ ns ++ w.late = cc in
          record {
            late = w.late;
            all = pair_same f i j ms ∙ rest ∙ ap (λ us. us ++ w.late) (sym (pair_same g i j ns));
            none = w.none;
          }))
      | inr other ↦
          subst (λ us. Longer (called p) us (with_at g i (with_at (g i) j ns) p q))
          (sym (pair_other f i j ms p q other))
          (subst (λ us. Longer (called p) (f p q) us) (sym (pair_other g i j ns p q other)) (h.longer p q to))
    ];
    room = λ p q to gone. elim (pair_cases p q i j) [
      | inl same ↦ rw same.0 (rw same.1 (
          let r = h.room i j going (ap called (sym same.0) ∙ gone) in
          let n : length (g i j) ≡ suc (length ns) = ap (λ us. length us) k in
          let a = pair_same arrived i j (arrived i j + 1) in
          let b : length (with_at g i (with_at (g i) j ns) i j) ≡ length ns =
          ap (λ us. length us) (pair_same g i j ns) in
          omega (arith, r, n, a, b)))
      | inr other ↦
          let r = h.room p q to gone in
          let a = pair_other arrived i j (arrived i j + 1) p q other in
          let b : length (with_at g i (with_at (g i) j ns) p q) ≡ length (g p q) =
          ap (λ us. length us) (pair_other g i j ns p q other) in
          omega (arith, r, a, b)
    ];
  }

  -- at one that was, one arrives, or none does
  pub one_arrives : (i j n : ℕ) (ms : List Peer)
      → called j ≡ true
      → ChannelsBeside most called (with_at arrived i (with_at (arrived i) j n)) (with_at f i (with_at (f i) j ms)) g
  one_arrives i j n ms gone = record {
    longer = λ p q to. subst (λ us. Longer (called p) us (g p q)) (sym (pair_other f i j ms p q (apart p q to)))
        (h.longer p q to);
    room = λ p q to from. subst (λ k. most p q ≤ k + length (g p q))
        (sym (pair_other arrived i j n p q (apart p q to))) (h.room p q to from);
  }
    where
      apart : (p q : ℕ) → called q ≡ false → p ≡ i → q ≡ j → ⊥
      apart p q to e k = both_ways (called j) (ap called (sym k) ∙ to) gone

  -- none arrives
  pub none_arrives : (i j n : ℕ)
      → n ≡ 0
      → ChannelsBeside most called (with_at arrived i (with_at (arrived i) j (arrived i j + n))) f g
  none_arrives i j n e = record {
    longer = h.longer;
    room = λ p q to gone. elim (pair_cases p q i j) [
      | inl same ↦ rw same.0 (rw same.1 (
          let r = h.room i j (ap called (sym same.1) ∙ to) (ap called (sym same.0) ∙ gone) in
          let a = pair_same arrived i j (arrived i j + n) in
          omega (arith, r, a, e)))
      | inr other ↦ subst (λ k. most p q ≤ k + length (g p q))
          (sym (pair_other arrived i j (arrived i j + n) p q other)) (h.room p q to gone)
    ];
  }

  -- a server is called gone, once it has put all messages that are to arrive
  pub channels_called : (i : ℕ)
      → ((j : ℕ) → called i ≡ false → most i j ≤ arrived i j + length (f i j))
      → ChannelsBeside most (with_at called i true) arrived f g
  channels_called i enough = record {
    longer = λ p q to. by_late p q (h.longer p q (earlier q to));
    room = λ p q to gone. elim (cases_eq p i) [
      | inl same ↦ rw same (by q (earlier q to) (called i) refl)
      | inr other ↦ h.room p q (earlier q to) (sym (at_other called i true p other) ∙ gone)
    ];
  }
    where
      earlier : (q : ℕ) → with_at called i true q ≡ false → called q ≡ false
      earlier q to = elim (cases_eq q i) [
        | inl same ↦ absurd (both_ways (with_at called i true i) (ap (with_at called i true) (sym same) ∙ to)
            (at_same called i true))
        | inr other ↦ sym (at_other called i true q other) ∙ to
      ]

      by_late : (p q : ℕ) → Longer (called p) (f p q) (g p q) → Longer (with_at called i true p) (f p q) (g p q)
      by_late p q w = record {
        late = w.late;
        all = w.all;
        none = λ going. w.none (earlier p going);
      }

      by : (q : ℕ) → called q ≡ false → (b : Bool) → called i ≡ b → most i q ≤ arrived i q + length (g i q)
      by q to true is = h.room i q to is
      by q to false is =
          let w = h.longer i q to in
          let same : f i q ≡ g i q = w.all ∙ ap (λ us. g i q ++ us) (w.none is) ∙ append-nil (g i q) in
          subst (λ us. most i q ≤ arrived i q + length us) same (enough q is)
