-- A seat that moves don't name: they do the same whatever it holds.
use Rattle.std.proofs.Common.{◌≡◌, ◌≢◌, ℕ, zero, suc, ◌<◌, ◌≤◌, max, Bool, true, false, cond, List, [], ◌∷◌, ◌++◌, take}
use Rattle.std.proofs.Common.{refl, arith, ap, sym, ◌∙◌, inl, inr}
use Rattle.std.specs.Prelude.{not, ◌&&◌}
use Rattle.std.proofs.lemmas.Bool.{cases_eq}
use mathlib.Core.Path.{fun_ext}
use Rattle.table.specs.Items.{Item}
use Rattle.table.specs.declared.operations.Call.{Call}
use Rattle.table.specs.declared.operations.Reply.{Reply}
use Rattle.node.specs.declared.messages.Peer.{Peer}
use Rattle.node.specs.declared.messages.Input.TheVariants.{Call as Called, Gone}
use Rattle.node.specs.declared.looks.Look.{Look}
use Rattle.node.specs.declared.looks.Look.TheVariants.{Clean, Dirty}
use Rattle.node.specs.Faces.{face_of, look_at}
use Rattle.interleavings.specs.Chains.{Seat, Chain, with_at, with_seat, messages_to, replies_to}
use Rattle.interleavings.specs.Moves.{Move, Sends, Takes, Publishes, Puts, Arrives, Replies, Receives, Looks, Stops}
use Rattle.interleavings.specs.Moves.{Notices, is_free, brought, sent, received, looked, looking, put, arrived}
use Rattle.interleavings.specs.Moves.{reply_put, has_stopped, done, moved_from}
use Rattle.interleavings.proofs.lists.ChangedFunctions.{at_same, at_other, at_self}

-- the move names no seat from this one on
abbrev pub IsBelow : ℕ → Move → Type 0
IsBelow d (Sends c call) = c < d
IsBelow d (Takes i sender) = Unit {0}
IsBelow d (Publishes i) = Unit {0}
IsBelow d (Puts i j) = Unit {0}
IsBelow d (Arrives i j) = Unit {0}
IsBelow d (Replies i c) = c < d
IsBelow d (Receives c) = c < d
IsBelow d (Looks c key) = c < d
IsBelow d (Stops i) = Unit {0}
IsBelow d (Notices i j) = Unit {0}

-- none of them does
abbrev pub AreBelow : ℕ → List Move → Type 0
AreBelow d [] = Unit {0}
AreBelow d (m ∷ ms) = IsBelow d m × AreBelow d ms

-- ---- a seat that none names

abbrev after_named : Move → ℕ
after_named (Sends c call) = suc c
after_named (Takes i sender) = 0
after_named (Publishes i) = 0
after_named (Puts i j) = 0
after_named (Arrives i j) = 0
after_named (Replies i c) = suc c
after_named (Receives c) = suc c
after_named (Looks c key) = suc c
after_named (Stops i) = 0
after_named (Notices i j) = 0

-- from this one on none is named
pub after_all_named : List Move → ℕ
after_all_named [] = 0
after_all_named (m ∷ ms) = max (after_named m) (after_all_named ms)

below_one : (d : ℕ) (m : Move) → after_named m ≤ d → IsBelow d m
below_one d (Sends c call) l = omega (arith, l)
below_one d (Takes i sender) l = tt
below_one d (Publishes i) l = tt
below_one d (Puts i j) l = tt
below_one d (Arrives i j) l = tt
below_one d (Replies i c) l = omega (arith, l)
below_one d (Receives c) l = omega (arith, l)
below_one d (Looks c key) l = omega (arith, l)
below_one d (Stops i) l = tt
below_one d (Notices i j) l = tt

pub all_below : (d : ℕ) (ms : List Move) → after_all_named ms ≤ d → AreBelow d ms
unfolding after_all_named
all_below d [] l = tt
all_below d (m ∷ ms) l = (below_one d m (omega (arith, l)), all_below d ms (omega (arith, l)))

pub below_front : (d k : ℕ) (ms : List Move) → AreBelow d ms → AreBelow d (take k ms)
below_front d zero ms h = tt
below_front d (suc k) [] h = tt
below_front d (suc k) (m ∷ ms) h = (h.0, below_front d k ms h.1)

-- ---- what a move does beside it

-- changed at two places, in either order
swapped : {X : Type 0} (f : ℕ → X) (c d : ℕ) (x y : X)
    → c ≢ d
    → with_at (with_at f d y) c x ≡ with_at (with_at f c x) d y
swapped f c d x y other = fun_ext (λ k. elim (cases_eq k c) [
  | inl same ↦ rw same (at_same (with_at f d y) c x ∙ sym (at_other (with_at f c x) d y c other ∙ at_same f c x))
  | inr apart ↦ at_other (with_at f d y) c x k apart ∙ elim (cases_eq k d) [
    | inl same ↦ rw same (at_same f d y ∙ sym (at_same (with_at f c x) d y))
    | inr neither ↦ at_other f d y k neither ∙ sym (at_other (with_at f c x) d y k neither ∙ at_other f c x k apart)
  ]
])

apart : (c d : ℕ) → c < d → c ≢ d
apart c d l e = omega (arith, l, e)

module _ (l : Chain) (d : ℕ) (v : Seat) where
  abbrev other : Chain
  other = with_seat l d v

  -- by what a test chooses
  by_test : (b : Bool) (x y : Chain) → x ≡ with_seat y d v → cond b x other ≡ with_seat (cond b y l) d v
  by_test true x y e = e
  by_test false x y e = refl

  by_other_test : (b : Bool) (x y : Chain) → x ≡ with_seat y d v → cond b other x ≡ with_seat (cond b l y) d v
  by_other_test true x y e = refl
  by_other_test false x y e = e

  seat_there : (c : ℕ) → c < d → other.seats c ≡ l.seats c
  seat_there c low = at_other l.seats d v c (apart c d low)

  sent_beside : (c : ℕ) (call : Call) (s : Seat) → c < d → sent other c call s ≡ with_seat (sent l c call s) d v
  sent_beside c call s low =
      let t : Seat = record s { calls = s.calls ++ call ∷ [] } in
      by_test (is_free s) (brought (with_seat other c t) s.home (Called c call))
      (brought (with_seat l c t) s.home (Called c call))
      (ap (λ ss. record (brought (with_seat l c t) s.home (Called c call)) { seats = ss })
      (swapped l.seats c d t v (apart c d low)))

  received_beside : (c : ℕ) (s : Seat) (rs : List Reply)
      → c < d
      → received other c s rs ≡ with_seat (received l c s rs) d v
  received_beside c s [] low = refl
  received_beside c s (reply ∷ more) low =
      ap (λ ss. record l { seats = ss })
      (swapped l.seats c d (record s { got = s.got ++ reply ∷ []; queued = more }) v (apart c d low))

  looked_beside : (c : ℕ) (s : Seat) (key : List ℕ) (look : Look Item)
      → c < d
      → looked other c s key look ≡ with_seat (looked l c s key look) d v
  looked_beside c s key (Clean item) low = ap (λ ss. record l { seats = ss }) (swapped l.seats c d _ v (apart c d low))
  looked_beside c s key Dirty low = refl

  looking_beside : (c : ℕ) (key : List ℕ) (s : Seat)
      → c < d
      → looking other c key s ≡ with_seat (looking l c key s) d v
  looking_beside c key s low =
      by_test (is_free s && not (l.servers s.home).stopped)
      (looked other c s key (look_at (face_of (l.servers s.home).node) key))
      (looked l c s key (look_at (face_of (l.servers s.home).node) key))
      (looked_beside c s key (look_at (face_of (l.servers s.home).node) key) low)

  put_beside : (i j : ℕ) (ms : List Peer) → put other i j ms ≡ with_seat (put l i j ms) d v
  put_beside i j [] = refl
  put_beside i j (m ∷ ms) = refl

  arrived_beside : (i j : ℕ) (ms : List Peer) → arrived other i j ms ≡ with_seat (arrived l i j ms) d v
  arrived_beside i j [] = refl
  arrived_beside i j (m ∷ ms) = refl

  reply_put_beside : (i c : ℕ) (s : Seat) (rs : List Reply)
      → c < d
      → reply_put other i c s rs ≡ with_seat (reply_put l i c s rs) d v
  reply_put_beside i c s [] low = refl
  reply_put_beside i c s (reply ∷ more) low =
      ap (λ ss. record (reply_put l i c s (reply ∷ more)) { seats = ss })
      (swapped l.seats c d (record s { queued = s.queued ++ reply ∷ [] }) v (apart c d low))

  done_beside : (m : Move) → IsBelow d m → done other m ≡ with_seat (done l m) d v
  done_beside (Sends c call) low = ap (sent other c call) (seat_there c low) ∙ sent_beside c call (l.seats c) low
  done_beside (Takes i sender) low = refl
  done_beside (Publishes i) low = refl
  done_beside (Puts i j) low =
      by_other_test (l.servers i).stopped (put other i j (messages_to j (l.servers i).outbox))
      (put l i j (messages_to j (l.servers i).outbox)) (put_beside i j (messages_to j (l.servers i).outbox))
  done_beside (Arrives i j) low = arrived_beside i j (l.channels i j)
  done_beside (Replies i c) low =
      ap (λ (s : Seat). cond (l.servers i).stopped other (reply_put other i c s (replies_to c (l.servers i).outbox)))
      (seat_there c low)
      ∙ by_other_test (l.servers i).stopped (reply_put other i c (l.seats c) (replies_to c (l.servers i).outbox))
      (reply_put l i c (l.seats c) (replies_to c (l.servers i).outbox))
      (reply_put_beside i c (l.seats c) (replies_to c (l.servers i).outbox) low)
  done_beside (Receives c) low =
      ap (λ (s : Seat). received other c s s.queued) (seat_there c low)
      ∙ received_beside c (l.seats c) (l.seats c).queued low
  done_beside (Looks c key) low = ap (looking other c key) (seat_there c low) ∙ looking_beside c key (l.seats c) low
  done_beside (Stops i) low = refl
  done_beside (Notices i j) low = by_test (has_stopped l j) (brought other i (Gone j)) (brought l i (Gone j)) refl

-- the same of a run
pub moved_beside : (d : ℕ) (v : Seat) (ms : List Move) (l : Chain)
    → AreBelow d ms
    → moved_from (with_seat l d v) ms ≡ with_seat (moved_from l ms) d v
moved_beside d v [] l h = refl
moved_beside d v (m ∷ ms) l h =
    ap (λ k. moved_from k ms) (done_beside l d v m h.0) ∙ moved_beside d v ms (done l m) h.1

-- and it stays as it is; so do those after it
pub seat_kept : (d : ℕ) (ms : List Move) (l : Chain) (c : ℕ)
    → d ≤ c
    → AreBelow d ms
    → (moved_from l ms).seats c ≡ l.seats c
seat_kept d ms l c above h =
    let e : moved_from l ms ≡ with_seat (moved_from l ms) c (l.seats c) =
    ap (λ ss. moved_from (record l { seats = ss }) ms) (sym (at_self l.seats c))
    ∙ moved_beside c (l.seats c) ms l (raised ms h) in
    ap (λ (k : Chain). k.seats c) e ∙ at_same (moved_from l ms).seats c (l.seats c)
  where
    raised_one : (m : Move) → IsBelow d m → IsBelow c m
    raised_one (Sends a call) low = omega (arith, low, above)
    raised_one (Takes i sender) low = tt
    raised_one (Publishes i) low = tt
    raised_one (Puts i j) low = tt
    raised_one (Arrives i j) low = tt
    raised_one (Replies i a) low = omega (arith, low, above)
    raised_one (Receives a) low = omega (arith, low, above)
    raised_one (Looks a key) low = omega (arith, low, above)
    raised_one (Stops i) low = tt
    raised_one (Notices i j) low = tt

    raised : (ms : List Move) → AreBelow d ms → AreBelow c ms
    raised [] h = tt
    raised (m ∷ ms) h = (raised_one m h.0, raised ms h.1)
