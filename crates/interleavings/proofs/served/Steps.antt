-- Each move of a chain that serves is some moves of the running chain, one at most, and keeps what holds of seats and
-- connections.
use Rattle.std.proofs.Common.{◌≡◌, ◌≢◌, ℕ, ◌<◌, ◌≤◌, List, [], ◌∷◌, length}
use Rattle.std.proofs.Common.{Some, refl, arith, ap, sym, ◌∙◌, inl, inr, subst}
use Rattle.std.specs.Prelude.{◌⊎◌, slice_get}
use mathlib.Core.Path.{fun_ext}
use Rattle.std.proofs.lemmas.Bool.{cases_eq}
use Rattle.table.specs.declared.operations.Call.{Call}
use Rattle.table.specs.declared.operations.Reply.{Reply}
use Rattle.interleavings.specs.Chains.{Seat, Chain, with_at}
use Rattle.interleavings.specs.Moves.{Move}
use Rattle.interleavings.specs.Moves.{done, moved_from}
use Rattle.interleavings.specs.Asked.{AreAsked, IsAskedBy}
use Rattle.interleavings.specs.Connections.{Connection}
use Rattle.interleavings.specs.ServingMoves.{ServingChain}
use Rattle.interleavings.specs.ServingMoves.{served_at, with_served}
use Rattle.interleavings.proofs.lists.ChangedFunctions.{at_same, at_other, at_self}
use Rattle.interleavings.proofs.served.Connected.{IsConnected}
use Rattle.interleavings.proofs.served.InTurn.{InTurn}
use Rattle.interleavings.proofs.served.ChainMoves.{SameCalls}

-- the calls of a seat's connections
abbrev pub calls_at : ServingChain → ℕ → ℕ → List Call
calls_at s c n = (s.connections c n).calls

-- and their replies
abbrev pub replies_at : ServingChain → ℕ → ℕ → List Reply
replies_at s c n = (s.connections c n).replies

-- What holds of every chain that serves.
pub record IsInOrder (s : ServingChain) : Type 0 where
  pub connected : (c n : ℕ) → IsConnected (s.connections c n)
  pub seats : (c : ℕ)
      → InTurn (s.chain.seats c).calls (s.chain.seats c).got (calls_at s c) (replies_at s c) (s.ended c)

-- What only grows: how many connections have ended; their calls; those that have ended make none.
pub record Grows (s t : ServingChain) : Type 0 where
  pub ended : (c : ℕ) → s.ended c ≤ t.ended c
  pub over : (c n : ℕ) → n < s.ended c → calls_at t c n ≡ calls_at s c n
  pub calls : (c n q : ℕ) (call : Call)
      → slice_get (calls_at s c n) q ≡ Some call
      → slice_get (calls_at t c n) q ≡ Some call

-- what stays grows by nothing
pub grows_same : (s : ServingChain) → Grows s s
grows_same s = record {
  ended = λ c. omega arith;
  over = λ c n l. refl;
  calls = λ c n q call h. h;
}

-- one after the other
pub grows_more : (s t u : ServingChain) → Grows s t → Grows t u → Grows s u
grows_more s t u g h = record {
  ended = λ c. let a = g.ended c in let b = h.ended c in omega (arith, a, b);
  over = λ c n l. let a = g.ended c in h.over c n (omega (arith, a, l)) ∙ g.over c n l;
  calls = λ c n q call e. h.calls c n q call (g.calls c n q call e);
}

-- A connection makes a call only if each that it made before has its reply: so its ordinal is how many these are.
abbrev pub Makes : ServingChain → ServingChain → Type 0
Makes s t =
    (c n q : ℕ) → length (calls_at s c n) ≤ q → q < length (calls_at t c n) → length (replies_at s c n) ≡ q

-- no call is made
pub makes_none : (s : ServingChain) → Makes s s
makes_none s c n q l k = absurd (omega (arith, l, k))

-- a move, as moves of the running chain, and what it keeps
pub record IsStep (s t : ServingChain) : Type 0 where
  pub moves : List Move
  pub chain : t.chain ≡ moved_from s.chain moves
  pub short : length moves ≤ 1
  pub asked : AreAsked moves
  pub order : IsInOrder t
  pub grows : Grows s t
  pub makes : Makes s t

-- nothing changes
pub stays : (s : ServingChain) → IsInOrder s → IsStep s s
stays s h = record {
  moves = [];
  chain = refl;
  short = omega arith;
  asked = tt;
  order = h;
  grows = grows_same s;
  makes = makes_none s;
}

-- ---- one connection changes

-- what is said of each connection is said of all, if it is said of the changed one
pub for_each : (P : ℕ → ℕ → Connection → Type 0) (s : ServingChain) (c : ℕ) (k : Connection)
    → ((d n : ℕ) → P d n (s.connections d n))
    → P c (s.ended c) k
    → (d n : ℕ)
    → P d n (with_at s.connections c (with_at (s.connections c) (s.ended c) k) d n)
for_each P s c k all one d n = elim (cases_eq d c) [
  | inl same ↦ subst (λ i. P i n (with_at s.connections c (with_at (s.connections c) (s.ended c) k) i n)) (sym same)
      (subst (λ (f : ℕ → Connection). P c n (f n))
      (sym (at_same s.connections c (with_at (s.connections c) (s.ended c) k))) (there (cases_eq n (s.ended c))))
  | inr other ↦ subst (λ (f : ℕ → Connection). P d n (f n))
      (sym (at_other s.connections c (with_at (s.connections c) (s.ended c) k) d other)) (all d n)
]
  where
    there : (n ≡ s.ended c) ⊎ (n ≢ s.ended c)
        → P c n (with_at (s.connections c) (s.ended c) k n)
    there (inl same) = subst (λ i. P c i (with_at (s.connections c) (s.ended c) k i)) (sym same)
        (subst (P c (s.ended c)) (sym (at_same (s.connections c) (s.ended c) k)) one)
    there (inr other) = subst (P c n) (sym (at_other (s.connections c) (s.ended c) k n other)) (all c n)

-- a view of the changed function is the changed view
pub view_at : {X Y : Type 0} (view : X → Y) (f : ℕ → X) (i : ℕ) (x : X)
    → (λ k. view (with_at f i x k)) ≡ with_at (λ k. view (f k)) i (view x)
view_at {X} view f i x = fun_ext (λ k. elim (cases_eq k i) [
  | inl same ↦ rw same (ap view (at_same f i x) ∙ sym (at_same (λ k. view (f k)) i (view x)))
  | inr other ↦ ap view (at_other f i x k other) ∙ sym (at_other (λ k. view (f k)) i (view x) k other)
])

module _ (s : ServingChain) (c : ℕ) (k : Connection) where
  -- the connection that is served is this one, and the running chain is that one
  abbrev changed : Chain → ServingChain
  changed l = with_served (record s { chain = l }) c k

  grows_changed : (l : Chain)
      → ((q : ℕ) (call : Call) → slice_get (served_at s c).calls q ≡ Some call → slice_get k.calls q ≡ Some call)
      → Grows s (changed l)
  grows_changed l more = record {
    ended = λ d. omega arith;
    over = for_each (λ d n m. n < s.ended d → m.calls ≡ calls_at s d n) s c k (λ d n less. refl)
        (λ less. absurd (omega (arith, less)));
    calls = for_each
        (λ d n m. (q : ℕ) (call : Call) → slice_get (calls_at s d n) q ≡ Some call → slice_get m.calls q ≡ Some call) s
        c k (λ d n q call e. e) more;
  }

  -- it makes a call only after as many replies
  makes_changed : (l : Chain)
      → ((q : ℕ) → length (served_at s c).calls ≤ q → q < length k.calls → length (served_at s c).replies ≡ q)
      → Makes s (changed l)
  makes_changed l =
      for_each
      (λ d n m. (q : ℕ) → length (calls_at s d n) ≤ q → q < length m.calls → length (replies_at s d n) ≡ q) s c k
      (makes_none s)

  -- the seats but for this one stay as they were
  in_order : (l : Chain) (calls : List Call) (got : List Reply)
      → IsInOrder s
      → IsConnected k
      → ((d : ℕ) → d ≢ c → SameCalls s.chain l d)
      → (l.seats c).calls ≡ calls
      → (l.seats c).got ≡ got
      → InTurn calls got (with_at (calls_at s c) (s.ended c) k.calls) (with_at (replies_at s c) (s.ended c) k.replies)
      (s.ended c)
      → IsInOrder (changed l)
  in_order l calls got h one others its_calls its_got turn = record {
    connected = for_each (λ d n m. IsConnected m) s c k h.connected one;
    seats = λ d. elim (cases_eq d c) [
      | inl same ↦ subst
          (λ i. InTurn (l.seats i).calls (l.seats i).got (calls_at (changed l) i) (replies_at (changed l) i)
          (s.ended i)) (sym same)
          (subst
          (λ (f : ℕ → Connection). InTurn (l.seats c).calls (l.seats c).got (λ n. (f n).calls) (λ n. (f n).replies)
          (s.ended c)) (sym (at_same s.connections c (with_at (s.connections c) (s.ended c) k)))
          (rw (
            its_calls,
            its_got,
            view_at (λ (m : Connection). m.calls) (s.connections c) (s.ended c) k,
            view_at (λ (m : Connection). m.replies) (s.connections c) (s.ended c) k,
          ) turn))
      | inr other ↦
          let o = others d other in
          subst
          (λ (f : ℕ → Connection). InTurn (l.seats d).calls (l.seats d).got (λ n. (f n).calls) (λ n. (f n).replies)
          (s.ended d)) (sym (at_other s.connections c (with_at (s.connections c) (s.ended c) k) d other))
          (rw (o.calls, o.got) (h.seats d))
    ];
  }

  -- the session alone goes on
  pub session_step : IsInOrder s
      → IsConnected k
      → k.calls ≡ (served_at s c).calls
      → k.replies ≡ (served_at s c).replies
      → IsStep s (changed s.chain)
  session_step h one same_calls same_replies = record {
    moves = [];
    chain = refl;
    short = omega arith;
    asked = tt;
    order = in_order s.chain (s.chain.seats c).calls (s.chain.seats c).got h one
        (λ d o. record { calls = refl; got = refl }) refl refl
        (rw (same_calls, same_replies, at_self (calls_at s c) (s.ended c), at_self (replies_at s c) (s.ended c))
        (h.seats c));
    grows = grows_changed s.chain (λ q call e. ap (λ cs. slice_get cs q) same_calls ∙ e);
    makes = makes_changed s.chain
        (λ q past within. let n = ap (λ cs. length cs) same_calls in absurd (omega (arith, n, past, within)));
  }

  -- a move of the chain by the seat: it has these calls and replies from now on
  pub seat_step : (m : Move) (seat : Seat)
      → IsInOrder s
      → IsConnected k
      → IsAskedBy m
      → (done s.chain m).seats ≡ with_at s.chain.seats c seat
      → ((q : ℕ) (call : Call) → slice_get (served_at s c).calls q ≡ Some call → slice_get k.calls q ≡ Some call)
      → ((q : ℕ) → length (served_at s c).calls ≤ q → q < length k.calls → length (served_at s c).replies ≡ q)
      → InTurn seat.calls seat.got (with_at (calls_at s c) (s.ended c) k.calls)
      (with_at (replies_at s c) (s.ended c) k.replies) (s.ended c)
      → IsStep s (changed (done s.chain m))
  seat_step m seat h one asked seats more even turn = record {
    moves = m ∷ [];
    chain = refl;
    short = omega arith;
    asked = (asked, tt);
    order = in_order (done s.chain m) seat.calls seat.got h one
        (λ d o. record {
          calls = ap (λ (f : ℕ → Seat). (f d).calls) seats
              ∙ ap (λ (x : Seat). x.calls) (at_other s.chain.seats c seat d o);
          got = ap (λ (f : ℕ → Seat). (f d).got) seats ∙ ap (λ (x : Seat). x.got) (at_other s.chain.seats c seat d o);
        })
        (ap (λ (f : ℕ → Seat). (f c).calls) seats ∙ ap (λ (x : Seat). x.calls) (at_same s.chain.seats c seat))
        (ap (λ (f : ℕ → Seat). (f c).got) seats ∙ ap (λ (x : Seat). x.got) (at_same s.chain.seats c seat)) turn;
    grows = grows_changed (done s.chain m) more;
    makes = makes_changed (done s.chain m) even;
  }
