-- What clients ask of a chain that begins with a reached table leaves reached tables.
use Rattle.std.proofs.Common.{◌≡◌, ℕ, zero, suc, Bool, true, false, List, [], ◌∷◌, ◌++◌, map, None, Some, refl, ap, sym}
use Rattle.std.proofs.Common.{◌∙◌, subst, inl, inr}
use Rattle.std.specs.Prelude.{not, ◌&&◌, slice_get}
use Rattle.std.proofs.lemmas.Bool.{cases_eq, cond_both}
use Rattle.std.proofs.lemmas.Option.{same_Some}
use Rattle.table.specs.Items.{Item}
use Rattle.table.specs.Operations.{is_update}
use Rattle.table.specs.Plain.{PlainTable, apply}
use Rattle.table.specs.declared.operations.Call.{Call}
use Rattle.table.specs.declared.operations.Op.{Op}
use Rattle.table.specs.declared.operations.Op.TheVariants.{Read, Set, Add, Replace, Append, Prepend, Cas, Incr, Decr}
use Rattle.table.specs.declared.operations.Op.TheVariants.{Delete, Flush}
use Rattle.table.specs.declared.operations.Reply.{Reply}
use Rattle.table.specs.declared.operations.Reply.TheVariants.{Value}
use Rattle.table.specs.declared.operations.Target.{Target}
use Rattle.table.specs.declared.operations.Target.TheVariants.{One, All}
use Rattle.node.specs.declared.messages.Input.TheVariants.{Call as Called, Gone}
use Rattle.node.specs.declared.messages.Peer.{Peer}
use Rattle.node.specs.declared.looks.Look.{Look}
use Rattle.node.specs.declared.looks.Look.TheVariants.{Clean, Dirty}
use Rattle.node.specs.Faces.{face_of, look_at}
use Rattle.world.specs.Orders.{OrderedCall}
use Rattle.interleavings.specs.Chains.{Seat, Chain, with_seat, messages_to, replies_to}
use Rattle.interleavings.specs.Moves.{Move, Sends, Takes, Publishes, Puts, Arrives, Replies, Receives, Looks, Stops}
use Rattle.interleavings.specs.Moves.{Notices, is_free, brought, received, looked, put, arrived, reply_put, has_stopped}
use Rattle.interleavings.specs.Moves.{read_of, done, moved_from}
use Rattle.interleavings.specs.Asked.{IsAsked, IsAskedBy, AreAsked}
use Rattle.interleavings.specs.Orders.{begun_call}
use Rattle.interleavings.specs.Restored.{table_after, IsReached}
use Rattle.interleavings.proofs.lists.ChangedFunctions.{at_same, at_other}
use Rattle.interleavings.proofs.lists.TwoParts.{split_get}
use Rattle.interleavings.proofs.restored.Tables.{one_more}

-- ---- all begun calls are ones that clients can ask

-- all that this seat has begun
AllAsked : Seat → Type 0
AllAsked s = (p : ℕ) (call : Call) → slice_get s.calls p ≡ Some call → IsAsked call

asked_of : (s : Seat) → AllAsked s → (p : ℕ) (call : Call) → slice_get s.calls p ≡ Some call → IsAsked call
unfolding AllAsked
asked_of s h = h

by_calls : (s t : Seat) → t.calls ≡ s.calls → AllAsked s → AllAsked t
unfolding AllAsked
by_calls s t same h p call e = h p call (ap (λ cs. slice_get cs p) (sym same) ∙ e)

one_call : (s t : Seat) (call : Call) → t.calls ≡ s.calls ++ call ∷ [] → IsAsked call → AllAsked s → AllAsked t
unfolding AllAsked
one_call s t call same asked h p other e =
    elim (split_get s.calls (call ∷ []) p other (ap (λ cs. slice_get cs p) (sym same) ∙ e)) [
      | inl before ↦ h p other before
      | inr last ↦ only last.0 last.2
    ]
  where
    only : (k : ℕ) → slice_get (call ∷ []) k ≡ Some other → IsAsked other
    only zero e = subst IsAsked (same_Some call other e) asked
    only (suc k) e = (let no : None ≡ Some other = e in absurd cc)

-- of each seat
AreAllAsked : Chain → Type 0
AreAllAsked l = (c : ℕ) → AllAsked (l.seats c)

begun_asked : (l : Chain) → AreAllAsked l → (c p : ℕ) (call : Call)
    → slice_get (l.seats c).calls p ≡ Some call
    → IsAsked call
unfolding AreAllAsked
begun_asked l h c p call e = asked_of (l.seats c) (h c) p call e

module _ (l : Chain) (h : AreAllAsked l) where
  same_seats : (m : Chain) → m.seats ≡ l.seats → AreAllAsked m
  unfolding AreAllAsked
  same_seats m same c = subst AllAsked (ap (λ (ss : ℕ → Seat). ss c) (sym same)) (h c)

  one_seat : (d : ℕ) (s : Seat) (m : Chain)
      → m.seats ≡ (with_seat l d s).seats
      → (AllAsked (l.seats d) → AllAsked s)
      → AreAllAsked m
  unfolding AreAllAsked
  one_seat d s m same more c =
      subst AllAsked (ap (λ (ss : ℕ → Seat). ss c) (sym same)) (elim (cases_eq c d) [
        | inl own ↦ subst AllAsked (sym (ap (with_seat l d s).seats own ∙ at_same l.seats d s)) (more (h d))
        | inr other ↦ subst AllAsked (sym (at_other l.seats d s c other)) (h c)
      ])

  received_asked : (d : ℕ) (rs : List Reply) → AreAllAsked (received l d (l.seats d) rs)
  received_asked d [] = h
  received_asked d (reply ∷ more) =
      one_seat d (record (l.seats d) { got = (l.seats d).got ++ reply ∷ []; queued = more }) _ refl
      (by_calls (l.seats d) _ refl)

  looked_asked : (d : ℕ) (key : List ℕ) (look : Look Item)
      → IsAsked (read_of key)
      → AreAllAsked (looked l d (l.seats d) key look)
  looked_asked d key Dirty asked = h
  looked_asked d key (Clean item) asked =
      one_seat d (record (l.seats d) {
        calls = (l.seats d).calls ++ read_of key ∷ [];
        got = (l.seats d).got ++ Value item ∷ [];
      }) _ refl (one_call (l.seats d) _ (read_of key) refl asked)

  put_asked : (i j : ℕ) (ms : List Peer) → AreAllAsked (put l i j ms)
  put_asked i j [] = h
  put_asked i j (m ∷ ms) = same_seats (put l i j (m ∷ ms)) refl

  arrived_asked : (i j : ℕ) (ms : List Peer) → AreAllAsked (arrived l i j ms)
  arrived_asked i j [] = h
  arrived_asked i j (m ∷ ms) = same_seats (arrived l i j (m ∷ ms)) refl

  reply_asked : (i d : ℕ) (rs : List Reply) → AreAllAsked (reply_put l i d (l.seats d) rs)
  reply_asked i d [] = h
  reply_asked i d (reply ∷ more) =
      one_seat d (record (l.seats d) { queued = (l.seats d).queued ++ reply ∷ [] }) _ refl (by_calls (l.seats d) _ refl)

  each_asked : (m : Move) → IsAskedBy m → AreAllAsked (done l m)
  each_asked (Sends d call) asked =
      let s : Seat = record (l.seats d) { calls = (l.seats d).calls ++ call ∷ [] } in
      cond_both (is_free (l.seats d)) (brought (with_seat l d s) (l.seats d).home (Called d call)) l AreAllAsked
      (λ free. one_seat d s _ refl (one_call (l.seats d) s call refl asked)) (λ busy. h)
  each_asked (Takes i sender) asked = same_seats (done l (Takes i sender)) refl
  each_asked (Publishes i) asked = same_seats (done l (Publishes i)) refl
  each_asked (Puts i j) asked =
      cond_both (l.servers i).stopped l (put l i j (messages_to j (l.servers i).outbox)) AreAllAsked
      (λ over. h) (λ going. put_asked i j (messages_to j (l.servers i).outbox))
  each_asked (Arrives i j) asked = arrived_asked i j (l.channels i j)
  each_asked (Replies i d) asked =
      cond_both (l.servers i).stopped l (reply_put l i d (l.seats d) (replies_to d (l.servers i).outbox)) AreAllAsked
      (λ over. h) (λ going. reply_asked i d (replies_to d (l.servers i).outbox))
  each_asked (Receives d) asked = received_asked d (l.seats d).queued
  each_asked (Looks d key) asked =
      let s = l.seats d in
      let look = look_at (face_of (l.servers s.home).node) key in
      cond_both (is_free s && not (l.servers s.home).stopped) (looked l d s key look) l AreAllAsked
      (λ both. looked_asked d key look asked) (λ none. h)
  each_asked (Stops i) asked = same_seats (done l (Stops i)) refl
  each_asked (Notices i j) asked =
      cond_both (has_stopped l j) (brought l i (Gone j)) l AreAllAsked
      (λ over. same_seats (brought l i (Gone j)) refl) (λ going. h)

-- after a run
all_asked : (ms : List Move) (l : Chain) → AreAllAsked l → AreAsked ms → AreAllAsked (moved_from l ms)
all_asked [] l h asked = h
all_asked (m ∷ ms) l h asked = all_asked ms (done l m) (each_asked l h m asked.0) asked.1

none_asked : (l : Chain) → ((c : ℕ) → (l.seats c).calls ≡ []) → AreAllAsked l
unfolding AreAllAsked AllAsked
none_asked l none c p call e =
    (let no : None ≡ Some call = sym (ap (λ cs. slice_get cs p) (none c)) ∙ e in absurd cc)

-- ---- tables

-- a read leaves the table
read_keeps : (t : PlainTable) (target : Target) (op : Op) → is_update op ≡ false → (apply t target op).1 ≡ t
read_keeps t (One key) Read is = refl
read_keeps t All Read is = refl
read_keeps t target (Set flags bytes) is = absurd cc
read_keeps t target (Add flags bytes) is = absurd cc
read_keeps t target (Replace flags bytes) is = absurd cc
read_keeps t target (Append bytes) is = absurd cc
read_keeps t target (Prepend bytes) is = absurd cc
read_keeps t target (Cas flags bytes unique) is = absurd cc
read_keeps t target (Incr amount) is = absurd cc
read_keeps t target (Decr amount) is = absurd cc
read_keeps t target Delete is = absurd cc
read_keeps t target Flush is = absurd cc

reached_by : (t : PlainTable) (c : Call) → IsReached t → IsAsked c → IsReached (apply t c.target c.op).1
reached_by t c r asked = by (is_update c.op) refl
  where
    by : (b : Bool) → is_update c.op ≡ b → IsReached (apply t c.target c.op).1
    by true is = one_more t (apply t c.target c.op).1 c r asked is refl
    by false is = subst IsReached (sym (read_keeps t c.target c.op is)) r

-- calls that clients can ask leave reached tables
pub reached_after : (h : List OrderedCall) (t : PlainTable)
    → IsReached t
    → ((i : ℕ) (e : OrderedCall) → slice_get h i ≡ Some e → IsAsked e.call)
    → IsReached (table_after t (map (λ e. e.call) h))
reached_after [] t r asked = r
reached_after (e ∷ h) t r asked =
    reached_after h (apply t e.call.target e.call.op).1 (reached_by t e.call r (asked 0 e refl))
    (λ i x there. asked (suc i) x there)

-- so do those of an order of a run, if at first no call is begun
pub order_reaches : (start : Chain) (moves : List Move) (h : List OrderedCall) (t : PlainTable)
    → ((c : ℕ) → (start.seats c).calls ≡ [])
    → AreAsked moves
    → ((i : ℕ) (e : OrderedCall) → slice_get h i ≡ Some e → begun_call (moved_from start moves) e.id ≡ Some e.call)
    → IsReached t
    → IsReached (table_after t (map (λ e. e.call) h))
order_reaches start moves h t none asked begun r =
    reached_after h t r (λ i e here.
    begun_asked (moved_from start moves) (all_asked moves start (none_asked start none) asked) e.id.connection
    e.id.ordinal
    e.call (begun i e here))
