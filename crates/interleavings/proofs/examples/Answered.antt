-- Runs that answer: a set passes down a chain and back; a failover between a look that shows nothing and one that shows
-- the item.
use Rattle.std.proofs.Common.{◌≡◌, ℕ, false, [], ◌∷◌, ◌++◌, None, Some, refl, arith, lit≤, ap, ◌∙◌}
use Rattle.std.specs.Prelude.{slice_get}
use Rattle.std.specs.Cmp.Lexicographic.{nat_list_cmp_total}
use Rattle.std.specs.FinMap.{empty, insert, get-insert}
use Rattle.table.specs.Plain.{item_at}
use Rattle.table.specs.declared.operations.Reply.TheVariants.{Stored, Value}
use Rattle.node.specs.declared.looks.Look.TheVariants.{Clean, Dirty}
use Rattle.node.specs.declared.messages.Input.TheVariants.{Call as Called, Gone}
use Rattle.node.specs.Faces.{face_of, look_at, peeked}
use Rattle.node.specs.Joining.{widened, taken_all, sent_again, forwarded, replies_to, promoted_to_head}
use Rattle.node.specs.Joining.{promoted_to_tail, caught_up, acked_to_predecessor, asks_renewed}
use Rattle.node.specs.Lawful.{IsLawful}
use Rattle.node.specs.Numbering.{left_open, replies, risen, appended, passed_on, take_update, entered}
use Rattle.node.specs.Servers.{ServerState, most, opening}
use Rattle.node.specs.Steps.{step, trimmed}
use Rattle.node.specs.Views.{has, union, single, is_below, adds, next_from, predecessor}
use Rattle.node.proofs.FaceLaws.{look-face_of}
use Rattle.node.proofs.RuleLaws.{lawful-opening, lawful-step}
use Rattle.world.specs.WorkedSchedules.{name}
use Rattle.interleavings.specs.Asked.{AreAsked}
use Rattle.interleavings.specs.Chains.{Seat, Chain, with_at, with_seat, opening_seat, opening_chain}
use Rattle.interleavings.specs.Moves.{Looks, done, moved_from, moved}
use Rattle.interleavings.specs.Orders.{begun_call, reply_to}
use Rattle.interleavings.specs.WorkedRuns.{key, set, item, set_homes, set_moves, failover_homes, set_is_taken}
use Rattle.interleavings.specs.WorkedRuns.{tail_stops, look_while_dirty, failover_moves}
use Rattle.interleavings.proofs.lists.ChangedFunctions.{at_same, at_other}
use Rattle.interleavings.proofs.examples.AskedCalls.{set_asked, get_asked}
use Rattle.interleavings.proofs.examples.InTwoParts.{moved_from-append}
use Rattle.interleavings.proofs.examples.MissedSet.{served_seats, served_first, served_other}
use Rattle.interleavings.proofs.examples.WorkedLooks.{looked_seat, look_shows, look_passes}

-- ---- down the chain and back

-- the seat has the reply
pub set_answered : reply_to (moved 2 set_homes set_moves) (name 0 0) ≡ Some Stored
unfolding set_moves with_at has union single is_below adds next_from predecessor most appended entered widened
    taken_all sent_again forwarded replies_to trimmed left_open replies risen passed_on take_update promoted_to_head
    promoted_to_tail caught_up acked_to_predecessor asks_renewed
set_answered = refl

-- and clients can ask it
pub set_moves_asked : AreAsked set_moves
unfolding set_moves
set_moves_asked = (set_asked, (tt, (tt, (tt, (tt, (tt, (tt, (tt, (tt, (tt, (tt, (tt, (tt, tt)))))))))))))

-- ---- a failover

-- the head after the set, and after the notice
abbrev taken_set : ServerState
taken_set = (step (opening 0 2) (Called 0 set)).state

abbrev left_alone : ServerState
left_alone = (step taken_set (Gone 1)).state

lawful_set : IsLawful taken_set
lawful_set = lawful-step (opening 0 2) (Called 0 set) (lit≤ tt, refl) tt
    (lawful-opening 0 2 (omega arith) (omega arith))

lawful_alone : IsLawful left_alone
lawful_alone = lawful-step taken_set (Gone 1) tt tt lawful_set

dirty_there : peeked taken_set key ≡ Dirty
unfolding has union single is_below adds next_from predecessor most appended entered trimmed left_open replies risen
    passed_on take_update
dirty_there = refl

clean_there : peeked left_alone key ≡ Clean (item_at (insert empty key item) key)
unfolding has union single is_below adds next_from predecessor most appended entered widened taken_all sent_again
    forwarded replies_to trimmed left_open replies risen passed_on take_update promoted_to_head promoted_to_tail
    caught_up acked_to_predecessor asks_renewed
clean_there = refl

shows_dirty : look_at (face_of taken_set) key ≡ Dirty
shows_dirty = look-face_of taken_set key lawful_set.sound ∙ dirty_there

shows_item : look_at (face_of left_alone) key ≡ Clean (Some item)
shows_item = look-face_of left_alone key lawful_alone.sound ∙ clean_there
    ∙ ap (λ found. Clean found) (get-insert nat_list_cmp_total empty key item key)

abbrev first : Chain
first = moved 2 failover_homes set_is_taken

-- after the notice
abbrev pub second : Chain
second = moved_from first tail_stops

first_seat : first.seats 1 ≡ opening_seat 0
unfolding set_is_taken with_at has union single is_below adds next_from predecessor most appended entered trimmed
    left_open replies risen passed_on take_update
first_seat = refl

first_goes_on : (first.servers 0).stopped ≡ false
unfolding set_is_taken with_at has union single is_below adds next_from predecessor most appended entered trimmed
    left_open replies risen passed_on take_update
first_goes_on = refl

first_node : (first.servers 0).node ≡ taken_set
unfolding set_is_taken with_at has union single is_below adds next_from predecessor most appended entered trimmed
    left_open replies risen passed_on take_update
first_node = refl

-- the set is answered there
pub second_served : second.seats ≡ served_seats 2 failover_homes 0
unfolding set_is_taken tail_stops with_at has union single is_below adds next_from predecessor most appended entered
    widened taken_all sent_again forwarded replies_to trimmed left_open replies risen passed_on take_update
    promoted_to_head promoted_to_tail caught_up acked_to_predecessor asks_renewed
second_served = refl

second_goes_on : (second.servers 0).stopped ≡ false
unfolding set_is_taken tail_stops with_at has union single is_below adds next_from predecessor most appended entered
    widened taken_all sent_again forwarded replies_to trimmed left_open replies risen passed_on take_update
    promoted_to_head promoted_to_tail caught_up acked_to_predecessor asks_renewed
second_goes_on = refl

second_node : (second.servers 0).node ≡ left_alone
unfolding set_is_taken tail_stops with_at has union single is_below adds next_from predecessor most appended entered
    widened taken_all sent_again forwarded replies_to trimmed left_open replies risen passed_on take_update
    promoted_to_head promoted_to_tail caught_up acked_to_predecessor asks_renewed
second_node = refl

-- the look at the dirty key changes nothing
dirty_look : done first (Looks 1 key) ≡ first
dirty_look = look_passes first 0 taken_set first_seat first_goes_on first_node shows_dirty

-- the look after the failover shows the item
pub last_is : moved 2 failover_homes failover_moves ≡ with_seat second 1 (looked_seat 0 (Some item))
last_is =
    moved_from-append (opening_chain 2 failover_homes) set_is_taken (Looks 1 key ∷ (tail_stops ++ Looks 1 key ∷ []))
    ∙ ap (λ l. moved_from l (tail_stops ++ Looks 1 key ∷ [])) dirty_look
    ∙ moved_from-append first tail_stops (Looks 1 key ∷ [])
    ∙ look_shows second 0 left_alone (Some item)
    (ap (λ (f : ℕ → Seat). f 1) second_served ∙ served_other 2 failover_homes 0 1 (λ e. omega (arith, e)))
    second_goes_on second_node shows_item

-- the first look isn't a call,
pub failover_dirty : begun_call (moved 2 failover_homes look_while_dirty) (name 1 0) ≡ None
failover_dirty =
    ap (λ l. begun_call l (name 1 0))
    (moved_from-append (opening_chain 2 failover_homes) set_is_taken (Looks 1 key ∷ []) ∙ dirty_look)
    ∙ ap (λ (s : Seat). slice_get s.calls 0) first_seat

-- the set is answered,
pub failover_stored : reply_to (moved 2 failover_homes failover_moves) (name 0 0) ≡ Some Stored
failover_stored =
    ap (λ l. reply_to l (name 0 0)) last_is
    ∙ ap (λ (s : Seat). slice_get s.got 0)
    (at_other second.seats 1 (looked_seat 0 (Some item)) 0 (λ e. omega (arith, e))
    ∙ ap (λ (f : ℕ → Seat). f 0) second_served ∙ served_first 2 failover_homes 0)

-- the second look shows its item,
pub failover_shown : reply_to (moved 2 failover_homes failover_moves) (name 1 0) ≡ Some (Value (Some item))
failover_shown =
    ap (λ l. reply_to l (name 1 0)) last_is
    ∙ ap (λ (s : Seat). slice_get s.got 0) (at_same second.seats 1 (looked_seat 0 (Some item)))

-- and clients can ask it all
pub failover_asked : AreAsked failover_moves
unfolding set_is_taken tail_stops
failover_asked = (set_asked, (tt, (tt, (get_asked, (tt, (tt, (tt, (tt, (tt, (tt, (get_asked, tt)))))))))))
