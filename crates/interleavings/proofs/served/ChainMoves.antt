-- What the chain's moves make of the calls and replies of its seats.
use Rattle.std.proofs.Common.{◌≡◌, ℕ, Bool, true, false, cond, List, [], ◌∷◌, ◌++◌, None, Some, refl}
use Rattle.std.proofs.Common.{ap, sym}
use Rattle.std.specs.Prelude.{not, ◌&&◌}
use Rattle.std.proofs.lemmas.Option.{same_Some}
use Rattle.table.specs.Items.{Item}
use Rattle.table.specs.Operations.{is_value}
use Rattle.table.specs.declared.operations.Call.{Call}
use Rattle.table.specs.declared.operations.Reply.{Reply}
use Rattle.table.specs.declared.operations.Reply.TheVariants.{Value}
use Rattle.node.specs.declared.messages.Peer.{Peer}
use Rattle.node.specs.declared.messages.Input.TheVariants.{Gone}
use Rattle.node.specs.declared.looks.Look.{Look}
use Rattle.node.specs.declared.looks.Look.TheVariants.{Clean, Dirty}
use Rattle.node.specs.Faces.{face_of, look_at}
use Rattle.interleavings.specs.Chains.{Seat, Chain, with_at, messages_to, replies_to}
use Rattle.interleavings.specs.Moves.{Move, Sends, Takes, Publishes, Puts, Arrives, Replies, Receives, Looks, Stops}
use Rattle.interleavings.specs.Moves.{Notices, is_free, read_of, looked, put, arrived, reply_put}
use Rattle.interleavings.specs.Moves.{has_stopped, brought, done}
use Rattle.interleavings.specs.ServingMoves.{reply_by, look_reply, is_of_seat}
use Rattle.interleavings.proofs.lists.ChangedFunctions.{kept_at}

-- the seats after a call was sent,
pub sends_seats : (l : Chain) (c : ℕ) (call : Call)
    → is_free (l.seats c) ≡ true
    → (done l (Sends c call)).seats
    ≡ with_at l.seats c (record (l.seats c) { calls = (l.seats c).calls ++ call ∷ [] })
sends_seats l c call free = rw free refl

-- after a look that is the reply,
pub looks_seats : (l : Chain) (c : ℕ) (key : List ℕ) (reply : Reply)
    → look_reply l c key ≡ Some reply
    → (is_free (l.seats c) ≡ true)
    × ((done l (Looks c key)).seats
    ≡ with_at l.seats c
    (record (l.seats c) { calls = (l.seats c).calls ++ read_of key ∷ []; got = (l.seats c).got ++ reply ∷ [] }))
looks_seats l c key reply h =
    by_guard (is_free (l.seats c)) (not (l.servers (l.seats c).home).stopped)
    (look_at (face_of (l.servers (l.seats c).home).node) key) h
  where
    by_guard : (f g : Bool) (look : Look Item)
        → cond (f && g) (reply_by look) None ≡ Some reply
        → (f ≡ true)
        × ((cond (f && g) (looked l c (l.seats c) key look) l).seats
        ≡ with_at l.seats c
        (record (l.seats c) { calls = (l.seats c).calls ++ read_of key ∷ []; got = (l.seats c).got ++ reply ∷ [] }))
    by_guard true true (Clean item) e = (
      refl,
      ap (λ r. with_at l.seats c
          (record (l.seats c) { calls = (l.seats c).calls ++ read_of key ∷ []; got = (l.seats c).got ++ r ∷ [] }))
          (same_Some (Value item) reply e),
    )
    by_guard true true Dirty e = absurd (let no : None ≡ Some reply = e in cc)
    by_guard true false look e = absurd (let no : None ≡ Some reply = e in cc)
    by_guard false g look e = absurd (let no : None ≡ Some reply = e in cc)

-- a look shows an item, or none
pub look_shows_value : (l : Chain) (c : ℕ) (key : List ℕ) (reply : Reply)
    → look_reply l c key ≡ Some reply
    → is_value reply ≡ true
look_shows_value l c key reply h =
    by_guard (is_free (l.seats c) && not (l.servers (l.seats c).home).stopped)
    (look_at (face_of (l.servers (l.seats c).home).node) key) h
  where
    by_guard : (g : Bool) (look : Look Item) → cond g (reply_by look) None ≡ Some reply → is_value reply ≡ true
    by_guard true (Clean item) e = ap is_value (sym (same_Some (Value item) reply e))
    by_guard true Dirty e = absurd (let no : None ≡ Some reply = e in cc)
    by_guard false look e = absurd (let no : None ≡ Some reply = e in cc)

-- after a reply was taken
pub receives_seats : (l : Chain) (c : ℕ) (reply : Reply) (more : List Reply)
    → (l.seats c).queued ≡ reply ∷ more
    → (done l (Receives c)).seats
    ≡ with_at l.seats c (record (l.seats c) { got = (l.seats c).got ++ reply ∷ []; queued = more })
receives_seats l c reply more e = rw e refl

-- two chains have the same calls and replies at a seat
pub record SameCalls (l m : Chain) (d : ℕ) : Type 0 where
  pub calls : (m.seats d).calls ≡ (l.seats d).calls
  pub got : (m.seats d).got ≡ (l.seats d).got

same_calls : (l : Chain) (d : ℕ) → SameCalls l l d
same_calls l d = record { calls = refl; got = refl }

put_same : (l : Chain) (i j d : ℕ) (b : Bool) (ms : List Peer) → SameCalls l (cond b l (put l i j ms)) d
put_same l i j d true ms = same_calls l d
put_same l i j d false [] = same_calls l d
put_same l i j d false (m ∷ ms) = record { calls = refl; got = refl }

arrived_same : (l : Chain) (i j d : ℕ) (ms : List Peer) → SameCalls l (arrived l i j ms) d
arrived_same l i j d [] = same_calls l d
arrived_same l i j d (m ∷ ms) = record { calls = refl; got = refl }

mailed_same : (l : Chain) (i c d : ℕ) (b : Bool) (rs : List Reply)
    → SameCalls l (cond b l (reply_put l i c (l.seats c) rs)) d
mailed_same l i c d true rs = same_calls l d
mailed_same l i c d false [] = same_calls l d
mailed_same l i c d false (r ∷ rs) =
    let s = record (l.seats c) { queued = (l.seats c).queued ++ r ∷ [] } in
    record {
      calls = kept_at (λ (k : Seat). k.calls) l.seats c s refl d;
      got = kept_at (λ (k : Seat). k.got) l.seats c s refl d;
    }

noticed_same : (l m : Chain) (d : ℕ) (b : Bool) → SameCalls l m d → SameCalls l (cond b m l) d
noticed_same l m d true h = h
noticed_same l m d false h = same_calls l d

-- A move that no seat makes leaves the calls and replies of each seat.
pub others_same : (l : Chain) (m : Move) (d : ℕ) → is_of_seat m ≡ false → SameCalls l (done l m) d
others_same l (Sends c call) d e = absurd (let no : true ≡ false = e in cc)
others_same l (Takes i sender) d e = record { calls = refl; got = refl }
others_same l (Publishes i) d e = record { calls = refl; got = refl }
others_same l (Puts i j) d e = put_same l i j d (l.servers i).stopped (messages_to j (l.servers i).outbox)
others_same l (Arrives i j) d e = arrived_same l i j d (l.channels i j)
others_same l (Replies i c) d e = mailed_same l i c d (l.servers i).stopped (replies_to c (l.servers i).outbox)
others_same l (Receives c) d e = absurd (let no : true ≡ false = e in cc)
others_same l (Looks c key) d e = absurd (let no : true ≡ false = e in cc)
others_same l (Stops i) d e = record { calls = refl; got = refl }
others_same l (Notices i j) d e =
    noticed_same l (brought l i (Gone j)) d (has_stopped l j)
    (record { calls = refl; got = refl })
