-- A call of a connection is one of its seat, with an ordinal after those of the connections before.
use Rattle.std.proofs.Common.{◌≡◌, ℕ, zero, suc, ◌+◌, ◌<◌, List, length, Some, refl, arith, ap}
use Rattle.std.proofs.Common.{sym, ◌∙◌, inl, inr}
use Rattle.std.specs.Prelude.{slice_get}
use Rattle.std.proofs.lemmas.Bool.{cases_lt}
use Rattle.std.proofs.lemmas.Option.{slice_get_within, slice_get_cases}
use Rattle.table.specs.declared.operations.Call.{Call}
use Rattle.table.specs.declared.operations.Reply.{Reply}
use Rattle.world.specs.Calls.{CallId}
use Rattle.interleavings.specs.Orders.{begun_call, reply_to}
use Rattle.interleavings.specs.ServingMoves.{ServingChain}
use Rattle.interleavings.specs.Served.{CallName, call_made, reply_got, calls_before, id_at_seat}
use Rattle.interleavings.proofs.served.InTurn.{upto, upto_same, start, start_next, found_there, owner, owner_is}
use Rattle.interleavings.proofs.served.InTurn.{owner_found}
use Rattle.interleavings.proofs.served.Steps.{calls_at, replies_at, IsInOrder, Grows}

-- its id among the calls of its seat
abbrev pub ordinal_of : ServingChain → CallName → CallId
ordinal_of s x = record { connection = x.seat; ordinal = start (calls_at s x.seat) x.number + x.ordinal }

-- the name that its connection gives it
abbrev pub name_of : ServingChain → CallId → CallName
name_of s y = record {
  seat = y.connection;
  number = (owner (calls_at s y.connection) (suc (s.ended y.connection)) y.ordinal).0;
  ordinal = (owner (calls_at s y.connection) (suc (s.ended y.connection)) y.ordinal).1;
}

module _ (s : ServingChain) (h : IsInOrder s) where
  -- a call that was made is within its connection's calls,
  pub inside : (x : CallName) (call : Call)
      → call_made s x ≡ Some call
      → (x.number < suc (s.ended x.seat)) × (x.ordinal < length (calls_at s x.seat x.number))
  inside x call e =
      let within = slice_get_within (calls_at s x.seat x.number) x.ordinal call e in (
        elim (cases_lt (s.ended x.seat) x.number) [
          | inl past ↦
              let none = ap length ((h.seats x.seat).later x.number past).0 in
              absurd (omega (arith, within, none))
          | inr here ↦ omega (arith, here)
        ],
        within,
      )

  -- its seat has begun it, under its id,
  pub begun_there : (x : CallName) (call : Call)
      → call_made s x ≡ Some call
      → begun_call s.chain (ordinal_of s x) ≡ Some call
  begun_there x call e =
      let i = inside x call e in
      ap (λ cs. slice_get cs (start (calls_at s x.seat) x.number + x.ordinal)) (h.seats x.seat).all_calls
      ∙ found_there (calls_at s x.seat) (suc (s.ended x.seat)) x.number x.ordinal i.0 i.1 ∙ e

  -- and has the same reply,
  pub same_reply : (x : CallName) (call : Call)
      → call_made s x ≡ Some call
      → reply_got s x ≡ reply_to s.chain (ordinal_of s x)
  same_reply x call e = (h.seats x.seat).placed x.number x.ordinal (inside x call e).1

  -- and its id leads back to its name.
  pub named_there : (x : CallName) (call : Call) → call_made s x ≡ Some call → name_of s (ordinal_of s x) ≡ x
  named_there x call e =
      let i = inside x call e in
      ap (λ (p : ℕ × ℕ). record { seat = x.seat; number = p.0; ordinal = p.1 })
      (owner_found (calls_at s x.seat) (suc (s.ended x.seat)) x.number x.ordinal i.0 i.1)

  -- An answered call was made.
  pub made_if_answered : (x : CallName) (reply : Reply)
      → reply_got s x ≡ Some reply
      → (call : Call) × (call_made s x ≡ Some call)
  made_if_answered x reply e =
      let within = slice_get_within (replies_at s x.seat x.number) x.ordinal reply e in
      let few = (h.connected x.seat x.number).few in
      elim (slice_get_cases (calls_at s x.seat x.number) x.ordinal).1 [
        | inl found ↦ (found.0, found.2)
        | inr past ↦ let p = past.0 in absurd (omega (arith, within, few, p))
      ]

  -- A call that a seat has begun was made by the connection that it is named for, and the name leads back to its id.
  pub made_there : (y : CallId) (call : Call)
      → begun_call s.chain y ≡ Some call
      → (call_made s (name_of s y) ≡ Some call) × (ordinal_of s (name_of s y) ≡ y)
  made_there y call e =
      let c = y.connection in
      let cs = calls_at s c in
      let m = suc (s.ended c) in
      let at : slice_get (upto cs m) y.ordinal ≡ Some call =
      ap (λ xs. slice_get xs y.ordinal) (sym (h.seats c).all_calls) ∙ e in
      let o = owner_is cs m y.ordinal (slice_get_within (upto cs m) y.ordinal call at) in
      let n = (owner cs m y.ordinal).0 in
      let q = (owner cs m y.ordinal).1 in (
        sym (found_there cs m n q o.below o.inside) ∙ ap (slice_get (upto cs m)) o.ordinal ∙ at,
        ap (λ (p : ℕ). record { connection = c; ordinal = p }) o.ordinal,
      )

-- The calls of the first connections, counted in `Served.antt`, are those that a seat has there.
same_count : (s : ServingChain) (c n : ℕ) → calls_before s c n ≡ start (calls_at s c) n
unfolding upto
same_count s c zero = refl
same_count s c (suc n) =
    ap (λ k. k + length (calls_at s c n)) (same_count s c n) ∙ sym (start_next (calls_at s c) n)

-- So the call's id is the one that `Served.antt` gives it.
pub same_id : (s : ServingChain) (x : CallName) → id_at_seat s x ≡ ordinal_of s x
same_id s x = ap (λ k. record { connection = x.seat; ordinal = k + x.ordinal }) (same_count s x.seat x.number)

-- What was made has the same id from then on.
pub same_ordinal : (s t : ServingChain) (x : CallName) (call : Call)
    → IsInOrder s
    → Grows s t
    → call_made s x ≡ Some call
    → ordinal_of t x ≡ ordinal_of s x
same_ordinal s t x call h g e =
    let i = (inside s h x call e).0 in
    ap (λ (cs : List Call). record { connection = x.seat; ordinal = length cs + x.ordinal })
    (upto_same (calls_at t x.seat) (calls_at s x.seat) x.number (λ j l. g.over x.seat j (omega (arith, l, i))))
