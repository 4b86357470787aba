-- The tail was called gone, a set is answered, and then a client is written what it found at the tail.
use Rattle.std.proofs.Common.{◌≡◌, ◌≢◌, ℕ, suc, Bool, true, false, cond, [], ◌∷◌, length, take, None, Some, refl}
use Rattle.std.proofs.Common.{arith, ap, ◌∙◌, inl, inr}
use Rattle.std.specs.Prelude.{nat_lt, slice_get}
use Rattle.std.proofs.lemmas.Bool.{cases_eq}
use Rattle.table.specs.declared.operations.Reply.TheVariants.{Stored, Value}
use Rattle.node.specs.Joining.{widened, taken_all, sent_again, forwarded, replies_to, promoted_to_head}
use Rattle.node.specs.Joining.{promoted_to_tail, caught_up, acked_to_predecessor, asks_renewed}
use Rattle.node.specs.Numbering.{left_open, replies, risen, appended, passed_on, take_update, entered}
use Rattle.node.specs.Servers.{most, opening}
use Rattle.node.specs.Steps.{trimmed}
use Rattle.node.specs.Views.{has, union, single, is_below, adds, next_from, predecessor}
use Rattle.world.specs.WorkedSchedules.{name}
use Rattle.world.proofs.order.Since.{is_some}
use Rattle.interleavings.specs.Chains.{Seat, Chain, with_at, with_seat}
use Rattle.interleavings.specs.Moves.{Looks}
use Rattle.interleavings.specs.Orders.{begun_call, reply_to}
use Rattle.interleavings.specs.WorkedRuns.{key, told_homes, before_outlived_look}
use Rattle.interleavings.specs.LeasedMoves.{LeasedChain, Does, Writes, opening_leased, leased_by, leased_from}
use Rattle.interleavings.specs.LeasedMoves.{leased, reply_written}
use Rattle.interleavings.specs.LeasedOrders.{AreRepliesLeased, AreMessagesLeased, PrecedesWritten, HasNoOrderOfWritten}
use Rattle.interleavings.specs.WorkedLeases.{tail_is_called, late_write_moves}
use Rattle.interleavings.proofs.lists.ChangedFunctions.{at_same, at_other}
use Rattle.interleavings.proofs.relation.Transfer.{take_front}
use Rattle.interleavings.proofs.leased.Uncalled.{uncalled_replies, none_arrived, none_written}
use Rattle.interleavings.proofs.examples.LeasedParts.{leased_from-append}
use Rattle.interleavings.proofs.examples.MissedSet.{served_seats, served_first, served_other}
use Rattle.interleavings.proofs.examples.MissedWritten.{none_explains}
use Rattle.interleavings.proofs.examples.WorkedLooks.{opening_shows, look_shows, looked_seat}

-- ---- before the look

abbrev before : LeasedChain
before = leased 2 told_homes tail_is_called

before_seats : before.chain.seats ≡ served_seats 2 told_homes 0
unfolding tail_is_called before_outlived_look with_at has union single is_below adds next_from predecessor most appended
    entered widened taken_all sent_again forwarded replies_to trimmed left_open replies risen passed_on take_update
    promoted_to_head promoted_to_tail caught_up acked_to_predecessor asks_renewed
before_seats = refl

before_goes_on : (before.chain.servers 1).stopped ≡ false
unfolding tail_is_called before_outlived_look with_at has union single is_below adds next_from predecessor most appended
    entered widened taken_all sent_again forwarded replies_to trimmed left_open replies risen passed_on take_update
    promoted_to_head promoted_to_tail caught_up acked_to_predecessor asks_renewed
before_goes_on = refl

before_node : (before.chain.servers 1).node ≡ opening 1 2
unfolding tail_is_called before_outlived_look with_at has union single is_below adds next_from predecessor most appended
    entered widened taken_all sent_again forwarded replies_to trimmed left_open replies risen passed_on take_update
    promoted_to_head promoted_to_tail caught_up acked_to_predecessor asks_renewed
before_node = refl

before_called : before.called ≡ with_at (λ i. false) 1 true
unfolding tail_is_called before_outlived_look with_at has union single is_below adds next_from predecessor most appended
    entered widened taken_all sent_again forwarded replies_to trimmed left_open replies risen passed_on take_update
    promoted_to_head promoted_to_tail caught_up acked_to_predecessor asks_renewed
before_called = refl

before_arrived : before.arrived ≡ (λ i j. 0)
unfolding tail_is_called before_outlived_look with_at has union single is_below adds next_from predecessor most appended
    entered widened taken_all sent_again forwarded replies_to trimmed left_open replies risen passed_on take_update
    promoted_to_head promoted_to_tail caught_up acked_to_predecessor asks_renewed
before_arrived = refl

before_written : before.written ≡ with_at (λ c. 0) 0 1
unfolding tail_is_called before_outlived_look with_at has union single is_below adds next_from predecessor most appended
    entered widened taken_all sent_again forwarded replies_to trimmed left_open replies risen passed_on take_update
    promoted_to_head promoted_to_tail caught_up acked_to_predecessor asks_renewed
before_written = refl

-- ---- the look, and the write

abbrev looked : LeasedChain
looked = record before { chain = with_seat before.chain 1 (looked_seat 1 None) }

abbrev last : LeasedChain
last = record looked { written = with_at (with_at (λ c. 0) 0 1) 1 1 }

look_is : leased_by before (Does (Looks 1 key)) ≡ looked
look_is = ap (λ (l : Chain). record before { chain = l })
    (look_shows before.chain 1 (opening 1 2) None
    (ap (λ (f : ℕ → Seat). f 1) before_seats ∙ served_other 2 told_homes 0 1 (λ e. omega (arith, e)))
    before_goes_on before_node (opening_shows 1 2 (omega arith) (omega arith)))

-- the client is written one more of what seat 1 has
write_is : (s : LeasedChain) (w : ℕ → ℕ)
    → s.written ≡ w
    → w 1 ≡ 0
    → (s.chain.seats 1).got ≡ Value None ∷ []
    → leased_by s (Writes 1) ≡ record s { written = with_at w 1 1 }
write_is s w is none got =
    ap (λ rs. cond (nat_lt (s.written 1) (length rs))
    (record s { written = with_at s.written 1 (suc (s.written 1)) }) s) got
    ∙ ap (λ (v : ℕ → ℕ). cond (nat_lt (v 1) 1)
    (record s { written = with_at v 1 (suc (v 1)) }) s) is
    ∙ ap (λ n. cond (nat_lt n 1) (record s { written = with_at w 1 (suc n) }) s) none

looked_got : (looked.chain.seats 1).got ≡ Value None ∷ []
looked_got = ap (λ (s : Seat). s.got) (at_same before.chain.seats 1 (looked_seat 1 None))

last_is : leased 2 told_homes late_write_moves ≡ last
last_is =
    leased_from-append (opening_leased 2 told_homes) tail_is_called (Does (Looks 1 key) ∷ Writes 1 ∷ [])
    ∙ ap (λ s. leased_from s (Writes 1 ∷ [])) look_is
    ∙ write_is looked (with_at (λ c. 0) 0 1) before_written (at_other (λ c. 0) 0 1 1 (λ e. omega (arith, e))) looked_got

-- ---- the seats in the end

first_seat : last.chain.seats 0 ≡ served_seats 2 told_homes 0 0
first_seat =
    at_other before.chain.seats 1 (looked_seat 1 None) 0 (λ e. omega (arith, e))
    ∙ ap (λ (f : ℕ → Seat). f 0) before_seats

second_seat : last.chain.seats 1 ≡ looked_seat 1 None
second_seat = at_same before.chain.seats 1 (looked_seat 1 None)

other_seat : (c : ℕ) → c ≢ 0 → c ≢ 1 → (last.chain.seats c).calls ≡ []
other_seat c not_first not_second =
    ap (λ (s : Seat). s.calls) (at_other before.chain.seats 1 (looked_seat 1 None) c not_second
    ∙ ap (λ (f : ℕ → Seat). f c) before_seats ∙ served_other 2 told_homes 0 c not_first)

written_first : last.written 0 ≡ 1
written_first = at_other (with_at (λ c. 0) 0 1) 1 1 0 (λ e. omega (arith, e)) ∙ at_same (λ c. 0) 0 1

written_second : last.written 1 ≡ 1
written_second = at_same (with_at (λ c. 0) 0 1) 1 1

written_other : (c : ℕ) → c ≢ 0 → c ≢ 1 → last.written c ≡ 0
written_other c not_first not_second =
    at_other (with_at (λ c. 0) 0 1) 1 1 c not_second ∙ at_other (λ c. 0) 0 1 c not_first

missed : reply_written last (name 1 0) ≡ Some (Value None)
missed = ap (λ n. slice_get (take n (last.chain.seats 1).got) 0) written_second
    ∙ ap (λ (s : Seat). slice_get (take 1 s.got) 0) second_seat

stored : reply_written last (name 0 0) ≡ Some Stored
stored = ap (λ n. slice_get (take n (last.chain.seats 0).got) 0) written_first
    ∙ ap (λ (s : Seat). slice_get (take 1 s.got) 0) (first_seat ∙ served_first 2 told_homes 0)

-- the set is answered before the look
until : leased 2 told_homes (take (length tail_is_called) late_write_moves) ≡ before
until = ap (leased 2 told_homes) (take_front tail_is_called (Does (Looks 1 key) ∷ Writes 1 ∷ []))

precedes : PrecedesWritten 2 told_homes late_write_moves (name 0 0) (name 1 0)
precedes = record {
  written = is_some _ Stored (ap (λ s. reply_written s (name 0 0)) last_is ∙ stored);
  k = length tail_is_called;
  answered = is_some _ Stored (ap (λ (s : LeasedChain). reply_to s.chain (name 0 0)) until
      ∙ ap (λ (f : ℕ → Seat). slice_get (f 0).got 0) before_seats
      ∙ ap (λ (s : Seat). slice_get s.got 0) (served_first 2 told_homes 0));
  not_begun = ap (λ (s : LeasedChain). begun_call s.chain (name 1 0)) until
      ∙ ap (λ (f : ℕ → Seat). slice_get (f 1).calls 0) before_seats
      ∙ ap (λ (s : Seat). slice_get s.calls 0) (served_other 2 told_homes 0 1 (λ e. omega (arith, e)));
}

-- no order has its calls,
pub late_write : HasNoOrderOfWritten 2 told_homes late_write_moves
late_write =
    none_explains 2 told_homes late_write_moves
    (ap (λ (s : LeasedChain). (s.chain.seats 0).calls) last_is
    ∙ ap (λ (s : Seat). s.calls) (first_seat ∙ served_first 2 told_homes 0))
    (ap (λ (s : LeasedChain). (s.chain.seats 1).calls) last_is ∙ ap (λ (s : Seat). s.calls) second_seat)
    (λ c a b. ap (λ (s : LeasedChain). (s.chain.seats c).calls) last_is ∙ other_seat c a b)
    (ap (λ s. reply_written s (name 1 0)) last_is ∙ missed) precedes

-- though each other reply was made up in time,
pub late_write_replies : (c : ℕ) → c ≢ 1 → AreRepliesLeased 2 told_homes late_write_moves c
late_write_replies c not_second = elim (cases_eq c 0) [
  | inl same ↦ rw same (uncalled_replies 2 told_homes late_write_moves 0
      (ap (λ (s : LeasedChain). s.called 0) last_is ∙ ap (λ (f : ℕ → Bool). f 0) before_called
      ∙ at_other (λ i. false) 1 true 0 (λ e. omega (arith, e))))
  | inr not_first ↦ none_written 2 told_homes late_write_moves c
      (ap (λ (s : LeasedChain). s.written c) last_is ∙ written_other c not_first not_second)
]

-- and no message arrived
pub late_write_messages : (i j : ℕ) → AreMessagesLeased 2 told_homes late_write_moves i j
late_write_messages i j =
    none_arrived 2 told_homes late_write_moves i j
    (ap (λ (s : LeasedChain). s.arrived i j) last_is ∙ ap (λ (f : ℕ → ℕ → ℕ). f i j) before_arrived)
