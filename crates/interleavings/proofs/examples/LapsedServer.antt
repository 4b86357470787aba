-- The tail was called gone, and goes on: it publishes the step of a set, puts a message, and a client looks there.
use Rattle.std.proofs.Common.{◌≡◌, ℕ, Bool, true, false, List, [], ◌∷◌, length, take, None, Some, refl, arith}
use Rattle.std.proofs.Common.{lit<, lit≤, ap, ◌∙◌, inl, inr}
use Rattle.std.specs.Prelude.{◌+◌, nat_lt, slice_get}
use Rattle.std.specs.FinMap.{empty, get-empty}
use Rattle.std.proofs.lemmas.Bool.{cases_eq}
use Rattle.table.specs.Keys.{key_cmp}
use Rattle.table.specs.Plain.{item_at}
use Rattle.table.specs.declared.operations.Reply.TheVariants.{Stored, Value}
use Rattle.node.specs.declared.looks.Look.TheVariants.{Clean}
use Rattle.node.specs.declared.messages.Input.TheVariants.{Call as Called}
use Rattle.node.specs.Faces.{face_of, look_at, peeked}
use Rattle.node.specs.Lawful.{IsLawful}
use Rattle.node.specs.Joining.{widened, taken_all, sent_again, forwarded, replies_to, promoted_to_head}
use Rattle.node.specs.Joining.{promoted_to_tail, caught_up, acked_to_predecessor, asks_renewed}
use Rattle.node.specs.Numbering.{left_open, replies, risen, appended, passed_on, take_update, entered}
use Rattle.node.specs.Servers.{ServerState, most, opening}
use Rattle.node.specs.Steps.{step, trimmed}
use Rattle.node.specs.Views.{has, union, single, is_below, adds, next_from, predecessor}
use Rattle.node.proofs.FaceLaws.{look-face_of}
use Rattle.node.proofs.RuleLaws.{lawful-opening, lawful-step}
use Rattle.world.specs.WorkedSchedules.{name}
use Rattle.world.specs.Orders.{OrderedCall}
use Rattle.interleavings.specs.Asked.{IsAsked}
use Rattle.interleavings.specs.Chains.{Seat, Chain, with_at, with_seat, opening_seat, calls_from, queue}
use Rattle.interleavings.specs.Moves.{Looks}
use Rattle.interleavings.specs.Orders.{reply_to, is_published}
use Rattle.interleavings.specs.WorkedRuns.{key, other_set, before_outlived_look}
use Rattle.interleavings.specs.LeasedMoves.{LeasedChain, Does, opening_leased, leased}
use Rattle.interleavings.specs.LeasedMoves.{AreAskedLeased, put_for, reply_written}
use Rattle.interleavings.specs.LeasedOrders.{IsLeased, IsOrderOfWritten}
use Rattle.interleavings.specs.WorkedLeases.{tail_is_called, tail_goes_on, lapsed_homes, before_lapsed_look}
use Rattle.interleavings.specs.WorkedLeases.{lapsed_moves}
use Rattle.interleavings.proofs.lists.ChangedFunctions.{at_same, at_other}
use Rattle.interleavings.proofs.leased.Uncalled.{uncalled_replies, none_arrived, none_written}
use Rattle.interleavings.proofs.leased.WrittenOrders.{one_written}
use Rattle.interleavings.proofs.examples.AskedCalls.{set_asked, get_asked}
use Rattle.interleavings.proofs.examples.LeasedParts.{leased_from-append}
use Rattle.interleavings.proofs.examples.WorkedLooks.{look_shows, looked_seat}

-- ---- before the look

abbrev before : LeasedChain
before = leased 2 lapsed_homes before_lapsed_look

-- the tail after its own set
abbrev own_set : ServerState
own_set = (step (opening 1 2) (Called 2 other_set)).state

lawful_own : IsLawful own_set
lawful_own = lawful-step (opening 1 2) (Called 2 other_set) (lit≤ tt, refl) tt
    (lawful-opening 1 2 (omega arith) (omega arith))

clean_there : peeked own_set key ≡ Clean (item_at empty key)
unfolding with_at has union single is_below adds next_from predecessor most appended entered
    widened taken_all sent_again forwarded replies_to trimmed left_open replies risen passed_on take_update
    promoted_to_head promoted_to_tail caught_up acked_to_predecessor asks_renewed
clean_there = refl

shows_nothing : look_at (face_of own_set) key ≡ Clean None
shows_nothing =
    look-face_of own_set key lawful_own.sound ∙ clean_there ∙ ap (λ found. Clean found) (get-empty key_cmp key)

before_first : (before.chain.seats 0).got ≡ Stored ∷ []
unfolding tail_is_called tail_goes_on before_outlived_look with_at has union single is_below adds next_from predecessor
    most appended entered widened taken_all sent_again forwarded replies_to trimmed left_open replies risen passed_on
    take_update promoted_to_head promoted_to_tail caught_up acked_to_predecessor asks_renewed
before_first = refl

before_seat : before.chain.seats 1 ≡ opening_seat 1
unfolding tail_is_called tail_goes_on before_outlived_look with_at has union single is_below adds next_from predecessor
    most appended entered widened taken_all sent_again forwarded replies_to trimmed left_open replies risen passed_on
    take_update promoted_to_head promoted_to_tail caught_up acked_to_predecessor asks_renewed
before_seat = refl

before_goes_on : (before.chain.servers 1).stopped ≡ false
unfolding tail_is_called tail_goes_on before_outlived_look with_at has union single is_below adds next_from predecessor
    most appended entered widened taken_all sent_again forwarded replies_to trimmed left_open replies risen passed_on
    take_update promoted_to_head promoted_to_tail caught_up acked_to_predecessor asks_renewed
before_goes_on = refl

before_node : (before.chain.servers 1).node ≡ own_set
unfolding tail_is_called tail_goes_on before_outlived_look with_at has union single is_below adds next_from predecessor
    most appended entered widened taken_all sent_again forwarded replies_to trimmed left_open replies risen passed_on
    take_update promoted_to_head promoted_to_tail caught_up acked_to_predecessor asks_renewed
before_node = refl

before_called : before.called ≡ with_at (λ i. false) 1 true
unfolding tail_is_called tail_goes_on before_outlived_look with_at has union single is_below adds next_from predecessor
    most appended entered widened taken_all sent_again forwarded replies_to trimmed left_open replies risen passed_on
    take_update promoted_to_head promoted_to_tail caught_up acked_to_predecessor asks_renewed
before_called = refl

before_arrived : before.arrived ≡ (λ i j. 0)
unfolding tail_is_called tail_goes_on before_outlived_look with_at has union single is_below adds next_from predecessor
    most appended entered widened taken_all sent_again forwarded replies_to trimmed left_open replies risen passed_on
    take_update promoted_to_head promoted_to_tail caught_up acked_to_predecessor asks_renewed
before_arrived = refl

before_written : before.written ≡ with_at (λ c. 0) 0 1
unfolding tail_is_called tail_goes_on before_outlived_look with_at has union single is_below adds next_from predecessor
    most appended entered widened taken_all sent_again forwarded replies_to trimmed left_open replies risen passed_on
    take_update promoted_to_head promoted_to_tail caught_up acked_to_predecessor asks_renewed
before_written = refl

before_published : is_published before.chain (name 2 0) ≡ true
unfolding tail_is_called tail_goes_on before_outlived_look with_at has union single is_below adds next_from predecessor
    most appended entered widened taken_all sent_again forwarded replies_to trimmed left_open replies risen passed_on
    take_update promoted_to_head promoted_to_tail caught_up acked_to_predecessor asks_renewed
before_published = refl

before_put : put_for before 1 0 ≡ 1
unfolding tail_is_called tail_goes_on before_outlived_look with_at has union single is_below adds next_from predecessor
    most appended entered widened taken_all sent_again forwarded replies_to trimmed left_open replies risen passed_on
    take_update promoted_to_head promoted_to_tail caught_up acked_to_predecessor asks_renewed
before_put = refl

-- ---- the look

abbrev last : LeasedChain
last = record before { chain = with_seat before.chain 1 (looked_seat 1 None) }

last_is : leased 2 lapsed_homes lapsed_moves ≡ last
last_is =
    leased_from-append (opening_leased 2 lapsed_homes) before_lapsed_look (Does (Looks 1 key) ∷ [])
    ∙ ap (λ (l : Chain). record before { chain = l })
    (look_shows before.chain 1 own_set None before_seat before_goes_on before_node shows_nothing)

-- the set is answered, and its client is written that;
pub lapsed_stored : reply_written (leased 2 lapsed_homes lapsed_moves) (name 0 0) ≡ Some Stored
lapsed_stored =
    ap (λ s. reply_written s (name 0 0)) last_is
    ∙ ap (λ (f : ℕ → ℕ). slice_get (take (f 0) (last.chain.seats 0).got) 0) before_written
    ∙ ap (λ n. slice_get (take n (last.chain.seats 0).got) 0) (at_same (λ c. 0) 0 1)
    ∙ ap (λ (s : Seat). slice_get (take 1 s.got) 0)
    (at_other before.chain.seats 1 (looked_seat 1 None) 0 (λ e. omega (arith, e)))
    ∙ ap (λ rs. slice_get (take 1 rs) 0) before_first

-- the step of the tail's own set is published,
pub lapsed_published : is_published (leased 2 lapsed_homes lapsed_moves).chain (name 2 0) ≡ true
lapsed_published =
    ap (λ (s : LeasedChain). is_published s.chain (name 2 0)) last_is
    ∙ ap (λ (s : Seat).
    nat_lt (0 + length (calls_from 2 (queue (before.chain.servers s.home)))) (length s.calls))
    (at_other before.chain.seats 1 (looked_seat 1 None) 2 (λ e. omega (arith, e)))
    ∙ before_published

-- and its message is put;
pub lapsed_put : put_for (leased 2 lapsed_homes lapsed_moves) 1 0 ≡ 1
lapsed_put = ap (λ s. put_for s 1 0) last_is ∙ before_put

-- a look there shows nothing,
pub lapsed_looked : reply_to (leased 2 lapsed_homes lapsed_moves).chain (name 1 0) ≡ Some (Value None)
lapsed_looked =
    ap (λ (s : LeasedChain). reply_to s.chain (name 1 0)) last_is
    ∙ ap (λ (s : Seat). slice_get s.got 0) (at_same before.chain.seats 1 (looked_seat 1 None))

-- of which nobody is written anything
pub lapsed_unwritten : reply_written (leased 2 lapsed_homes lapsed_moves) (name 1 0) ≡ None
lapsed_unwritten =
    ap (λ s. reply_written s (name 1 0)) last_is
    ∙ ap (λ (f : ℕ → ℕ). slice_get (take (f 1) (last.chain.seats 1).got) 0) before_written
    ∙ ap (λ n. slice_get (take n (last.chain.seats 1).got) 0) (at_other (λ c. 0) 0 1 1 (λ e. omega (arith, e)))

-- all that was put out was made up in time,
pub lapsed_leased : IsLeased 2 lapsed_homes lapsed_moves
lapsed_leased = record {
  replies = λ c. elim (cases_eq c 0) [
    | inl same ↦ rw same (uncalled_replies 2 lapsed_homes lapsed_moves 0
        (ap (λ (s : LeasedChain). s.called 0) last_is ∙ ap (λ (f : ℕ → Bool). f 0) before_called
        ∙ at_other (λ i. false) 1 true 0 (λ e. omega (arith, e))))
    | inr other ↦ none_written 2 lapsed_homes lapsed_moves c
        (ap (λ (s : LeasedChain). s.written c) last_is ∙ ap (λ (f : ℕ → ℕ). f c) before_written
        ∙ at_other (λ c. 0) 0 1 c other)
  ];
  messages = λ i j. none_arrived 2 lapsed_homes lapsed_moves i j
      (ap (λ (s : LeasedChain). s.arrived i j) last_is ∙ ap (λ (f : ℕ → ℕ → ℕ). f i j) before_arrived);
}

other_asked : IsAsked other_set
other_asked = record { fits = lit≤ tt; suits = refl; target = refl; numbers = lit< tt }

-- clients can ask these calls,
pub lapsed_asked : AreAskedLeased lapsed_moves
unfolding tail_is_called tail_goes_on before_outlived_look
lapsed_asked =
    (tt, (tt, (tt, (tt, (set_asked, (tt, (tt, (tt, (tt, (tt, (other_asked, (tt, (tt, (tt, (get_asked, tt)))))))))))))))

-- and there is an order
pub lapsed_order : (h : List OrderedCall) × IsOrderOfWritten 2 lapsed_homes lapsed_moves h
lapsed_order =
    let o = one_written 2 lapsed_homes lapsed_moves lapsed_leased (omega arith) lapsed_asked in
    (o.0, o.1)
