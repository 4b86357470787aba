-- The reply that stands first in a seat's queue is one that the call which waits for it can have.
use Rattle.std.proofs.Common.{◌≡◌, ℕ, zero, suc, ◌+◌, ◌<◌, ◌≤◌, Bool, true, false, cond, List, [], ◌∷◌, ◌++◌, length}
use Rattle.std.proofs.Common.{map, Option, None, Some, refl, arith, ap, sym, ◌∙◌}
use Rattle.std.specs.Prelude.{not, slice_get}
use Rattle.std.specs.Option.{option_map}
use Rattle.std.proofs.lemmas.Bool.{ltb-true}
use Rattle.std.proofs.lemmas.Option.{same_Some, slice_get-map}
use Rattle.table.specs.Decisions.{decision}
use Rattle.table.specs.Histories.{IsLegalFrom}
use Rattle.table.specs.Operations.{Fits, is_update, is_value}
use Rattle.table.specs.Plain.{PlainTable, opening as empty_table, apply, item_of}
use Rattle.table.specs.Items.{Item}
use Rattle.table.specs.declared.operations.Call.{Call}
use Rattle.table.specs.declared.operations.Op.{Op}
use Rattle.table.specs.declared.operations.Op.TheVariants.{Read, Set, Add, Replace, Append, Prepend, Cas, Incr, Decr}
use Rattle.table.specs.declared.operations.Op.TheVariants.{Delete, Flush}
use Rattle.table.specs.declared.operations.Reply.{Reply}
use Rattle.node.proofs.Lists.{get_last}
use Rattle.node.proofs.DecisionLaws.{decided}
use Rattle.proto.specs.declared.texts.Form.{Form}
use Rattle.proto.specs.Sessions.{shows}
use Rattle.world.specs.Calls.{CallId}
use Rattle.world.specs.Orders.{OrderedCall}
use Rattle.interleavings.specs.Chains.{Seat}
use Rattle.interleavings.specs.Moves.{Move, Receives, done, moved_from}
use Rattle.interleavings.specs.Asked.{AreAsked}
use Rattle.interleavings.specs.Orders.{begun_call, reply_to}
use Rattle.interleavings.specs.Connections.{Connection, waits, may_have}
use Rattle.interleavings.specs.OrdersFrom.{IsLinearizationFrom}
use Rattle.interleavings.specs.ServingMoves.{ServingChain, ServingMove, served_at, opening_serving, served_from, served}
use Rattle.interleavings.proofs.lists.TwoParts.{moved_from-append}
use Rattle.interleavings.proofs.lists.ChangedFunctions.{at_same}
use Rattle.interleavings.proofs.relation.Following.{linearizable}
use Rattle.interleavings.proofs.runs.Simulating.{simulates}
use Rattle.interleavings.proofs.served.Connected.{is_served}
use Rattle.interleavings.proofs.served.AskedTurns.{made_asked}
use Rattle.interleavings.proofs.served.Forms.{IsWaiting, waiting}
use Rattle.interleavings.proofs.served.InTurn.{start, start_next}
use Rattle.interleavings.proofs.served.ChainMoves.{receives_seats}
use Rattle.interleavings.proofs.served.Steps.{calls_at, IsInOrder}
use Rattle.interleavings.proofs.served.Along.{opening_order, made_along, order_along, chain_along, asked_along}
use Rattle.interleavings.proofs.served.Along.{both_asked}
use Rattle.interleavings.proofs.served.Names.{begun_there}
use Rattle.interleavings.proofs.served.OrderFromStart.{from_opening}

-- ---- a table's replies

-- what is decided is an item, or none, exactly for a read
reply_kind : (item : Option Item) (op : Op) (number : ℕ)
    → Fits op
    → is_value (decision item op number).0 ≡ not (is_update op)
reply_kind item Read number fits = refl
reply_kind item (Set flags bytes) number fits = (decided item (Set flags bytes) number fits refl).answered
reply_kind item (Add flags bytes) number fits = (decided item (Add flags bytes) number fits refl).answered
reply_kind item (Replace flags bytes) number fits = (decided item (Replace flags bytes) number fits refl).answered
reply_kind item (Append bytes) number fits = (decided item (Append bytes) number fits refl).answered
reply_kind item (Prepend bytes) number fits = (decided item (Prepend bytes) number fits refl).answered
reply_kind item (Cas flags bytes unique) number fits =
    (decided item (Cas flags bytes unique) number fits refl).answered
reply_kind item (Incr amount) number fits = (decided item (Incr amount) number fits refl).answered
reply_kind item (Decr amount) number fits = (decided item (Decr amount) number fits refl).answered
reply_kind item Delete number fits = (decided item Delete number fits refl).answered
reply_kind item Flush number fits = (decided item Flush number fits refl).answered

pub legal_kind : (t : PlainTable) (h : List (Call × Reply)) (i : ℕ) (x : Call × Reply)
    → IsLegalFrom t h
    → slice_get h i ≡ Some x
    → Fits x.0.op
    → is_value x.1 ≡ not (is_update x.0.op)
legal_kind t [] i x l e fits = absurd (let no : None ≡ Some x = e in cc)
legal_kind t (y ∷ ys) zero x l e fits =
    let same = same_Some y x e in
    ap is_value (ap (λ (p : Call × Reply). p.1) (sym same) ∙ l.0)
    ∙ ap (λ (p : Call × Reply). is_value (apply t p.0.target p.0.op).0) same
    ∙ reply_kind (item_of t.items x.0.target) x.0.op (t.count + 1) fits
legal_kind t (y ∷ ys) (suc i) x l e fits = legal_kind (apply t y.0.target y.0.op).1 ys i x l.1 e fits

by_kind : (asked : Option Form) (form : Form) (reply : Reply)
    → asked ≡ Some form
    → is_value reply ≡ shows form
    → may_have asked reply ≡ true
by_kind asked form reply e same = rw e (both (is_value reply) (shows form) same)
  where
    both : (v s : Bool) → v ≡ s → cond s v (not v) ≡ true
    both true true e = refl
    both true false e = absurd (let no : true ≡ false = e in cc)
    both false true e = absurd (let no : false ≡ true = e in cc)
    both false false e = refl

-- ---- what stands first in a queue

-- from a start on, at which connections and seats agree, and from which each run has an order
module _ (first : ServingChain) (opened : IsInOrder first) (t : PlainTable)
    (orders : (ms : List Move) → AreAsked ms
    → (h : List OrderedCall) × IsLinearizationFrom t first.chain ms h)
    (moves : List ServingMove) (c : ℕ) (reply : Reply) (more : List Reply) where
  abbrev last : ServingChain
  last = served_from done first moves

  abbrev k : Connection
  k = served_at last c

  ordered : IsInOrder last
  ordered = order_along moves first opened

  abbrev run : List Move
  run = made_along moves first opened ++ Receives c ∷ []

  run_is : done last.chain (Receives c) ≡ moved_from first.chain run
  run_is =
      ap (λ l. done l (Receives c)) (chain_along moves first opened)
      ∙ sym (moved_from-append first.chain
      (made_along moves first opened) (Receives c ∷ []))

  -- the call's id among those of its seat
  abbrev ordinal : CallId
  ordinal = record { connection = c; ordinal = start (calls_at last c) (last.ended c) + length k.replies }

  module _ (queued : (last.chain.seats c).queued ≡ reply ∷ more) (wait : waits k ≡ true) where
    less : length k.replies < length k.calls
    less = ltb-true (length k.replies) (length k.calls) wait

    w : IsWaiting k
    w = waiting k (ordered.connected c (last.ended c)) less

    -- the seat waits for the reply of this call
    got_is : length (last.chain.seats c).got ≡ ordinal.ordinal
    got_is =
        let h = ordered.seats c in
        let o = h.open_one less in
        let a = ap length h.all_calls ∙ start_next (calls_at last c) (last.ended c) in
        let f = (is_served k (ordered.connected c (last.ended c))).one_open in
        omega (arith, o, a, f, less)

    seats_then : (done last.chain (Receives c)).seats c
        ≡ record (last.chain.seats c) { got = (last.chain.seats c).got ++ reply ∷ []; queued = more }
    seats_then =
        ap (λ (f : ℕ → Seat). f c) (receives_seats last.chain c reply more queued)
        ∙ at_same last.chain.seats c
        (record (last.chain.seats c) { got = (last.chain.seats c).got ++ reply ∷ []; queued = more })

    replied : reply_to (moved_from first.chain run) ordinal ≡ Some reply
    replied =
        ap (λ l. reply_to l ordinal) (sym run_is)
        ∙ ap (λ (x : Seat). slice_get x.got ordinal.ordinal) seats_then
        ∙ ap (slice_get ((last.chain.seats c).got ++ reply ∷ [])) (sym got_is)
        ∙ get_last (last.chain.seats c).got reply

    begun : begun_call (moved_from first.chain run) ordinal ≡ Some w.call
    begun =
        ap (λ l. begun_call l ordinal) (sym run_is)
        ∙ ap (λ (x : Seat). slice_get x.calls ordinal.ordinal) seats_then
        ∙ begun_there last ordered (record { seat = c; number = last.ended c; ordinal = length k.replies }) w.call
        w.made

    fits : Fits w.call.op
    fits = (made_asked k (ordered.connected c (last.ended c)) (length k.replies) w.call w.made).fits

    -- so it is of the kind that the call can have
    pub first_fits_from : may_have (served_at (served_from done first moves) c).session.asked reply ≡ true
    first_fits_from =
        let o = orders run (both_asked (made_along moves first opened) (Receives c ∷ [])
        (asked_along moves first opened) (tt, tt)) in
        let a = o.1.answered ordinal reply replied in
        let call : a.1.entry.call ≡ w.call =
        same_Some a.1.entry.call w.call
        (sym (o.1.begun a.0 a.1.entry a.1.here) ∙ ap (begun_call (moved_from first.chain run)) a.1.same ∙ begun) in
        let here : slice_get (map {B = Call × Reply} (λ (e : OrderedCall). (e.call, e.reply)) o.0) a.0 ≡ Some
        (w.call, reply) =
        slice_get-map (λ (e : OrderedCall). (e.call, e.reply)) o.0 a.0
        ∙ ap (option_map (λ (e : OrderedCall). (e.call, e.reply))) a.1.here
        ∙ ap (λ (x : Call). Some (x, a.1.entry.reply)) call
        ∙ ap (λ (r : Reply). Some (w.call, r)) a.2 in
        by_kind k.session.asked w.form reply w.asked
        (legal_kind t (map (λ (e : OrderedCall). (e.call, e.reply)) o.0) a.0 (w.call, reply) o.1.legal here
        fits
        ∙ sym w.fits)

-- from the opening on
pub first_fits : (count : ℕ) (homes : List ℕ) (moves : List ServingMove)
    → count ≤ 16
    → (c : ℕ) (reply : Reply) (more : List Reply)
    → ((served done count homes moves).chain.seats c).queued ≡ reply ∷ more
    → waits (served_at (served done count homes moves) c) ≡ true
    → may_have (served_at (served done count homes moves) c).session.asked reply ≡ true
first_fits count homes moves few c reply more queued wait =
    first_fits_from (opening_serving count homes) (opening_order count homes) empty_table
    (λ ms asked. (let o = linearizable count homes (simulates count homes few) ms few asked in
    (o.0, from_opening count homes ms o.0 o.1)))
    moves c reply more queued wait
