-- A chain that begins with a table takes a set; and two starts that lack a rule forget it.
use Rattle.std.proofs.Common.{◌≡◌, ℕ, zero, suc, ◌<◌, true, false, List, [], None, Some, refl, arith, ap, sym, ◌∙◌}
use Rattle.std.specs.Prelude.{not, nat_lt}
use Rattle.std.specs.FinMap.{get-empty}
use Rattle.std.proofs.lemmas.Bool.{and_parts, ltb-true}
use Rattle.table.specs.Items.{Item}
use Rattle.table.specs.Keys.{key_cmp}
use Rattle.table.specs.Plain.{item_at}
use Rattle.table.specs.declared.operations.Reply.TheVariants.{Stored}
use Rattle.node.specs.Joining.{widened, taken_all, sent_again, forwarded, replies_to as open_replies, promoted_to_head}
use Rattle.node.specs.Joining.{promoted_to_tail, caught_up, acked_to_predecessor, asks_renewed}
use Rattle.node.specs.Numbering.{left_open, replies, risen, appended, passed_on, take_update, entered}
use Rattle.node.specs.Servers.{most}
use Rattle.node.specs.Steps.{trimmed}
use Rattle.node.specs.Views.{has, union, single, is_below, adds, next_from, predecessor}
use Rattle.world.specs.WorkedSchedules.{name}
use Rattle.interleavings.specs.Chains.{Seat, Chain, with_at, opening_chain}
use Rattle.interleavings.specs.Moves.{has_stopped, moved_from}
use Rattle.interleavings.specs.Orders.{begun_call, reply_to}
use Rattle.interleavings.specs.Quiet.{goes_on, IsQuiet}
use Rattle.interleavings.specs.Restored.{IsReached, restored_chain}
use Rattle.interleavings.specs.WorkedRuns.{set, set_homes, set_moves, set_is_taken}
use Rattle.interleavings.specs.WorkedStarts.{counted_table, store_with_it, restored_but, with_ids_anew, with_none_seen}
use Rattle.interleavings.proofs.lists.ChangedFunctions.{kept_at}
use Rattle.interleavings.proofs.examples.MissedSet.{set_seat}
use Rattle.interleavings.proofs.examples.QuietPairs.{IsDone}
use Rattle.interleavings.proofs.restored.Tables.{is_reached}

-- ---- a set after a start

-- the table is reached
pub counted_reached : IsReached counted_table
counted_reached = is_reached counted_table
    (record {
      taken = λ key item e. absurd (none key item e);
      own = λ key other item found e f u. absurd (none key item
          e);
    })
    (record {
      keys = λ key item e. absurd (none key item e);
      flags = λ key item e. absurd (none key item e);
      bytes = λ key item e. absurd (none key item e);
    })
  where
    none : (key : List ℕ) (item : Item) → item_at counted_table.items key ≡ Some item → ⊥
    none key item e = (let no : None ≡ Some item = sym (get-empty key_cmp key) ∙ e in absurd cc)

abbrev after_set : Chain
after_set = moved_from (restored_chain 2 set_homes counted_table) set_moves

-- the set is answered,
pub set_stored : reply_to after_set (name 0 0) ≡ Some Stored
unfolding set_moves with_at has union single is_below adds next_from predecessor most appended entered widened
    taken_all sent_again forwarded open_replies trimmed left_open replies risen passed_on take_update promoted_to_head
    promoted_to_tail caught_up acked_to_predecessor asks_renewed
set_stored = refl

-- and both servers hold its item, under the next number
pub first_holds : (after_set.servers 0).node.store ≡ store_with_it
unfolding set_moves with_at has union single is_below adds next_from predecessor most appended entered widened
    taken_all sent_again forwarded open_replies trimmed left_open replies risen passed_on take_update promoted_to_head
    promoted_to_tail caught_up acked_to_predecessor asks_renewed
first_holds = refl

pub second_holds : (after_set.servers 1).node.store ≡ store_with_it
unfolding set_moves with_at has union single is_below adds next_from predecessor most appended entered widened
    taken_all sent_again forwarded open_replies trimmed left_open replies risen passed_on take_update promoted_to_head
    promoted_to_tail caught_up acked_to_predecessor asks_renewed
second_holds = refl

-- ---- one server alone

alone_below : (l : Chain) (i : ℕ) → l.count ≡ 1 → goes_on l i ≡ true → i ≡ 0
alone_below l i one on =
    let below = ltb-true i l.count (and_parts (nat_lt i l.count) (not (l.servers i).stopped) on).0 in
    omega (arith, one, below)

-- a server with nothing left to do, and empty queues: the chain is quiet
quiet_alone : (l : Chain)
    → l.count ≡ 1
    → IsDone l 0
    → ((c : ℕ) → (l.seats c).queued ≡ [])
    → IsQuiet l
quiet_alone l one first queued = record {
  inboxes = λ i on. (is_done i on).inbox;
  all_published = λ i on. (is_done i on).unpublished;
  messages = λ i j on there. (is_done i on).messages j there;
  replies = λ i c on. (is_done i on).replies c;
  views = λ i j on over. (is_done i on).views j over;
  channels = λ i j on there. (is_done i on).channels j there;
  queues = λ c on. queued c;
}
  where
    is_done : (i : ℕ) → goes_on l i ≡ true → IsDone l i
    is_done i on = rw (alone_below l i one on) first

-- ---- ids are dealt anew

abbrev anew : Chain
anew = moved_from (restored_but with_ids_anew) set_is_taken

pub anew_begun : begun_call anew (name 0 0) ≡ Some set
unfolding set_is_taken with_at has union single is_below adds next_from predecessor most appended entered trimmed
    left_open replies risen passed_on take_update
anew_begun = refl

pub anew_forgotten : reply_to anew (name 0 0) ≡ None
unfolding set_is_taken with_at has union single is_below adds next_from predecessor most appended entered trimmed
    left_open replies risen passed_on take_update
anew_forgotten = refl

pub anew_goes_on : goes_on anew 0 ≡ true
unfolding set_is_taken with_at has union single is_below adds next_from predecessor most appended entered trimmed
    left_open replies risen passed_on take_update
anew_goes_on = refl

anew_one : anew.count ≡ 1
unfolding set_is_taken with_at has union single is_below adds next_from predecessor most appended entered trimmed
    left_open replies risen passed_on take_update
anew_one = refl

anew_none : (i : ℕ) → has_stopped anew i ≡ true → i < 1 → ⊥
unfolding set_is_taken with_at has union single is_below adds next_from predecessor most appended entered trimmed
    left_open replies risen passed_on take_update
anew_none zero e l = (let no : false ≡ true = e in absurd cc)
anew_none (suc i) e l = omega (arith, l)

stopped_there : (l : Chain) (i : ℕ) → l.count ≡ 1 → has_stopped l i ≡ true → i < 1
stopped_there l i one over =
    let below = ltb-true i l.count (and_parts (nat_lt i l.count) (l.servers i).stopped over).0 in
    omega (arith, one, below)

anew_first : IsDone anew 0
unfolding set_is_taken with_at has union single is_below adds next_from predecessor most appended entered trimmed
    left_open replies risen passed_on take_update
anew_first = record {
  inbox = refl;
  unpublished = refl;
  messages = λ j on. refl;
  replies = λ c. refl;
  views = λ j over. absurd (anew_none j over (stopped_there anew j anew_one over));
  channels = λ j on. refl;
}

anew_seats : anew.seats ≡ with_at (opening_chain 1 set_homes).seats 0 (set_seat 0 [] [])
unfolding set_is_taken with_at has union single is_below adds next_from predecessor most appended entered trimmed
    left_open replies risen passed_on take_update
anew_seats = refl

-- nothing is left to do
pub anew_quiet : IsQuiet anew
anew_quiet = quiet_alone anew anew_one anew_first
    (λ c. ap (λ (ss : ℕ → Seat). (ss c).queued) anew_seats
    ∙ kept_at (λ (s : Seat). s.queued) (opening_chain 1 set_homes).seats 0 (set_seat 0 [] []) refl c)

-- ---- no ids were seen

abbrev unseen : Chain
unseen = moved_from (restored_but with_none_seen) set_is_taken

pub unseen_begun : begun_call unseen (name 0 0) ≡ Some set
unfolding set_is_taken with_at has union single is_below adds next_from predecessor most appended entered trimmed
    left_open replies risen passed_on take_update
unseen_begun = refl

pub unseen_forgotten : reply_to unseen (name 0 0) ≡ None
unfolding set_is_taken with_at has union single is_below adds next_from predecessor most appended entered trimmed
    left_open replies risen passed_on take_update
unseen_forgotten = refl

pub unseen_goes_on : goes_on unseen 0 ≡ true
unfolding set_is_taken with_at has union single is_below adds next_from predecessor most appended entered trimmed
    left_open replies risen passed_on take_update
unseen_goes_on = refl

unseen_one : unseen.count ≡ 1
unfolding set_is_taken with_at has union single is_below adds next_from predecessor most appended entered trimmed
    left_open replies risen passed_on take_update
unseen_one = refl

unseen_none : (i : ℕ) → has_stopped unseen i ≡ true → i < 1 → ⊥
unfolding set_is_taken with_at has union single is_below adds next_from predecessor most appended entered trimmed
    left_open replies risen passed_on take_update
unseen_none zero e l = (let no : false ≡ true = e in absurd cc)
unseen_none (suc i) e l = omega (arith, l)

unseen_first : IsDone unseen 0
unfolding set_is_taken with_at has union single is_below adds next_from predecessor most appended entered trimmed
    left_open replies risen passed_on take_update
unseen_first = record {
  inbox = refl;
  unpublished = refl;
  messages = λ j on. refl;
  replies = λ c. refl;
  views = λ j over. absurd (unseen_none j over (stopped_there unseen j unseen_one over));
  channels = λ j on. refl;
}

unseen_seats : unseen.seats ≡ with_at (opening_chain 1 set_homes).seats 0 (set_seat 0 [] [])
unfolding set_is_taken with_at has union single is_below adds next_from predecessor most appended entered trimmed
    left_open replies risen passed_on take_update
unseen_seats = refl

-- nothing is left to do
pub unseen_quiet : IsQuiet unseen
unseen_quiet = quiet_alone unseen unseen_one unseen_first
    (λ c. ap (λ (ss : ℕ → Seat). (ss c).queued) unseen_seats
    ∙ kept_at (λ (s : Seat). s.queued) (opening_chain 1 set_homes).seats 0 (set_seat 0 [] []) refl c)
