-- The tail was called gone, and answers a question of the head after a set was answered that it doesn't have: the head,
-- which isn't told, answers a get by that.
use Rattle.std.proofs.Common.{◌≡◌, ◌≢◌, ℕ, Bool, true, false, List, [], ◌∷◌, ◌++◌, length, take, map, Option, None}
use Rattle.std.proofs.Common.{Some, refl, arith}
use Rattle.std.proofs.Common.{ap, ◌∙◌, inl, inr}
use Rattle.std.specs.Prelude.{slice_get}
use Rattle.std.proofs.lemmas.Bool.{cases_eq}
use Rattle.table.specs.declared.operations.Reply.{Reply}
use Rattle.table.specs.declared.operations.Reply.TheVariants.{Stored, Value}
use Rattle.std.specs.FinMap.{empty, get-empty}
use Rattle.table.specs.Items.{Item}
use Rattle.table.specs.Keys.{key_cmp}
use Rattle.table.specs.Plain.{item_at}
use Rattle.node.specs.Joining.{widened, taken_all, sent_again, forwarded, replies_to, promoted_to_head}
use Rattle.node.specs.Joining.{promoted_to_tail, caught_up, acked_to_predecessor, asks_renewed}
use Rattle.node.specs.Numbering.{left_open, replies, risen, appended, passed_on, take_update, entered}
use Rattle.node.specs.Reading.{asked, dirty_read, answered}
use Rattle.node.specs.Servers.{most}
use Rattle.node.specs.Steps.{trimmed}
use Rattle.node.specs.Views.{has, union, single, is_below, adds, next_from, predecessor}
use Rattle.world.specs.WorkedSchedules.{name}
use Rattle.world.proofs.order.Since.{is_some}
use Rattle.interleavings.specs.Chains.{Seat, with_at}
use Rattle.interleavings.specs.Moves.{read_of}
use Rattle.interleavings.specs.Orders.{begun_call, reply_to}
use Rattle.interleavings.specs.WorkedRuns.{key}
use Rattle.interleavings.specs.LeasedMoves.{LeasedChain, Does, Writes, leased}
use Rattle.interleavings.specs.LeasedMoves.{reply_written}
use Rattle.interleavings.specs.LeasedOrders.{AreRepliesLeased, AreMessagesLeased, PrecedesWritten, HasNoOrderOfWritten}
use Rattle.interleavings.specs.WorkedLeases.{late_homes, set_is_passed, middle_is_told, head_asks, answer_is_late}
use Rattle.interleavings.specs.WorkedLeases.{before_late_get, late_message_moves}
use Rattle.interleavings.proofs.lists.ChangedFunctions.{at_same, at_other}
use Rattle.interleavings.proofs.relation.Transfer.{take_front}
use Rattle.interleavings.proofs.leased.Uncalled.{uncalled_messages, uncalled_replies, none_written}
use Rattle.interleavings.proofs.examples.MissedSet.{served_seats, served_first, served_other}
use Rattle.interleavings.proofs.examples.MissedWritten.{none_explains}

-- ---- before the get

abbrev before : LeasedChain
before = leased 3 late_homes before_late_get

before_seats : before.chain.seats ≡ served_seats 3 late_homes 1
unfolding before_late_get set_is_passed middle_is_told with_at has union single is_below adds next_from predecessor most
    appended entered widened taken_all sent_again forwarded replies_to trimmed left_open replies risen passed_on
    take_update promoted_to_head promoted_to_tail caught_up acked_to_predecessor asks_renewed
before_seats = refl

-- ---- in the end

-- what the head finds: nothing
abbrev found : Option Item
found = item_at empty key

-- a seat of the head that has begun the get
abbrev get_seat : List Reply → List Reply → Seat
get_seat got queued = record { home = 0; calls = read_of key ∷ []; got = got; queued = queued }

abbrev last_seats : ℕ → Seat
last_seats =
    with_at
    (with_at (with_at (served_seats 3 late_homes 1) 1 (get_seat [] [])) 1 (get_seat [] (Value found ∷ []))) 1
    (get_seat (Value found ∷ []) [])

abbrev last : LeasedChain
last = leased 3 late_homes late_message_moves

seats_are : last.chain.seats ≡ last_seats
unfolding before_late_get set_is_passed middle_is_told head_asks answer_is_late with_at has union single is_below adds
    next_from predecessor most appended entered widened taken_all sent_again forwarded replies_to trimmed left_open
    replies risen passed_on take_update promoted_to_head promoted_to_tail caught_up acked_to_predecessor asks_renewed
    asked dirty_read answered
seats_are = refl

called_are : last.called ≡ with_at (λ i. false) 2 true
unfolding before_late_get set_is_passed middle_is_told head_asks answer_is_late with_at has union single is_below adds
    next_from predecessor most appended entered widened taken_all sent_again forwarded replies_to trimmed left_open
    replies risen passed_on take_update promoted_to_head promoted_to_tail caught_up acked_to_predecessor asks_renewed
    asked dirty_read answered
called_are = refl

written_are : last.written ≡ with_at (with_at (λ c. 0) 0 1) 1 1
unfolding before_late_get set_is_passed middle_is_told head_asks answer_is_late with_at has union single is_below adds
    next_from predecessor most appended entered widened taken_all sent_again forwarded replies_to trimmed left_open
    replies risen passed_on take_update promoted_to_head promoted_to_tail caught_up acked_to_predecessor asks_renewed
    asked dirty_read answered
written_are = refl

first_seat : last.chain.seats 0 ≡ served_seats 3 late_homes 1 0
first_seat =
    ap (λ (f : ℕ → Seat). f 0) seats_are ∙ at_other _ 1 _ 0 (λ e. omega (arith, e))
    ∙ at_other _ 1 _ 0 (λ e. omega (arith, e)) ∙ at_other _ 1 _ 0 (λ e. omega (arith, e))

second_seat : last.chain.seats 1 ≡ get_seat (Value found ∷ []) []
second_seat = ap (λ (f : ℕ → Seat). f 1) seats_are ∙ at_same _ 1 _

other_seat : (c : ℕ) → c ≢ 0 → c ≢ 1 → (last.chain.seats c).calls ≡ []
other_seat c not_first not_second =
    ap (λ (f : ℕ → Seat). (f c).calls) seats_are
    ∙ ap (λ (s : Seat). s.calls) (at_other _ 1 _ c not_second ∙ at_other _ 1 _ c not_second
    ∙ at_other _ 1 _ c not_second ∙ served_other 3 late_homes 1 c not_first)

written_first : last.written 0 ≡ 1
written_first =
    ap (λ (f : ℕ → ℕ). f 0) written_are ∙ at_other (with_at (λ c. 0) 0 1) 1 1 0 (λ e. omega (arith, e))
    ∙ at_same (λ c. 0) 0 1

written_second : last.written 1 ≡ 1
written_second = ap (λ (f : ℕ → ℕ). f 1) written_are ∙ at_same (with_at (λ c. 0) 0 1) 1 1

written_other : (c : ℕ) → c ≢ 0 → c ≢ 1 → last.written c ≡ 0
written_other c not_first not_second =
    ap (λ (f : ℕ → ℕ). f c) written_are ∙ at_other (with_at (λ c. 0) 0 1) 1 1 c not_second
    ∙ at_other (λ c. 0) 0 1 c not_first

missed : reply_written last (name 1 0) ≡ Some (Value None)
missed = ap (λ n. slice_get (take n (last.chain.seats 1).got) 0) written_second
    ∙ ap (λ (s : Seat). slice_get (take 1 s.got) 0) second_seat
    ∙ ap (λ o. Some (Value o)) (get-empty key_cmp key)

stored : reply_written last (name 0 0) ≡ Some Stored
stored = ap (λ n. slice_get (take n (last.chain.seats 0).got) 0) written_first
    ∙ ap (λ (s : Seat). slice_get (take 1 s.got) 0) (first_seat ∙ served_first 3 late_homes 1)

-- the set is answered before the get
until : leased 3 late_homes (take (length before_late_get) late_message_moves) ≡ before
until = ap (leased 3 late_homes)
    (take_front before_late_get (map Does head_asks ++ map Does answer_is_late ++ Writes 1 ∷ []))

precedes : PrecedesWritten 3 late_homes late_message_moves (name 0 0) (name 1 0)
precedes = record {
  written = is_some _ Stored stored;
  k = length before_late_get;
  answered = is_some _ Stored (ap (λ (s : LeasedChain). reply_to s.chain (name 0 0)) until
      ∙ ap (λ (f : ℕ → Seat). slice_get (f 0).got 0) before_seats
      ∙ ap (λ (s : Seat). slice_get s.got 0) (served_first 3 late_homes 1));
  not_begun = ap (λ (s : LeasedChain). begun_call s.chain (name 1 0)) until
      ∙ ap (λ (f : ℕ → Seat). slice_get (f 1).calls 0) before_seats
      ∙ ap (λ (s : Seat). slice_get s.calls 0) (served_other 3 late_homes 1 1 (λ e. omega (arith, e)));
}

-- no order has its calls,
pub late_message : HasNoOrderOfWritten 3 late_homes late_message_moves
late_message =
    none_explains 3 late_homes late_message_moves
    (ap (λ (s : Seat). s.calls) (first_seat ∙ served_first 3 late_homes 1))
    (ap (λ (s : Seat). s.calls) second_seat) other_seat missed precedes

not_called : (i : ℕ) → i ≢ 2 → last.called i ≡ false
not_called i other = ap (λ (f : ℕ → Bool). f i) called_are ∙ at_other (λ i. false) 2 true i other

-- though each reply was made up in time,
pub late_message_replies : (c : ℕ) → AreRepliesLeased 3 late_homes late_message_moves c
late_message_replies c = elim (cases_eq c 0) [
  | inl same ↦ rw same
      (uncalled_replies 3 late_homes late_message_moves 0 (not_called 1 (λ e. omega (arith, e))))
  | inr not_first ↦ elim (cases_eq c 1) [
    | inl same ↦ rw same
        (uncalled_replies 3 late_homes late_message_moves 1 (not_called 0 (λ e. omega (arith, e))))
    | inr not_second ↦ none_written 3 late_homes late_message_moves c (written_other c not_first not_second)
  ]
]

-- and so was each message of another server
pub late_message_others : (i j : ℕ) → i ≢ 2 → AreMessagesLeased 3 late_homes late_message_moves i j
late_message_others i j other = uncalled_messages 3 late_homes late_message_moves i j (not_called i other)
