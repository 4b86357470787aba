-- Worked runs of two servers at whose end nothing is left to do.
use Rattle.std.proofs.Common.{◌≡◌, ℕ, zero, suc, ◌<◌, true, false, [], ◌∷◌, Some, refl, arith, sym}
use Rattle.std.proofs.Common.{◌∙◌, subst}
use Rattle.table.specs.declared.operations.Reply.TheVariants.{Stored}
use Rattle.node.specs.declared.messages.Body.TheVariants.{Ack}
use Rattle.node.specs.Joining.{widened, taken_all, sent_again, forwarded, replies_to as open_replies, promoted_to_head}
use Rattle.node.specs.Joining.{promoted_to_tail, caught_up, acked_to_predecessor, asks_renewed}
use Rattle.node.specs.Numbering.{left_open, replies, risen, appended, passed_on, take_update, entered}
use Rattle.node.specs.Servers.{most}
use Rattle.node.specs.Steps.{trimmed}
use Rattle.node.specs.Views.{has, union, single, is_below, adds, next_from, predecessor}
use Rattle.world.specs.WorkedSchedules.{name}
use Rattle.interleavings.specs.Asked.{AreAsked}
use Rattle.interleavings.specs.Chains.{Seat, Chain, with_at, with_seat, messages_to}
use Rattle.interleavings.specs.Moves.{has_stopped, moved}
use Rattle.interleavings.specs.Orders.{reply_to}
use Rattle.interleavings.specs.Quiet.{goes_on, IsQuiet}
use Rattle.interleavings.specs.WorkedRuns.{set_homes, set_moves, failover_homes, set_is_taken, tail_stops}
use Rattle.interleavings.specs.WorkedRuns.{failover_moves, item, set_is_committed, cut_moves}
use Rattle.interleavings.proofs.lists.ChangedFunctions.{kept_at}
use Rattle.interleavings.proofs.examples.AskedCalls.{set_asked}
use Rattle.interleavings.proofs.examples.Answered.{second, second_served, last_is}
use Rattle.interleavings.proofs.examples.MissedSet.{served_seats}
use Rattle.interleavings.proofs.examples.WorkedLooks.{looked_seat}
use Rattle.interleavings.proofs.examples.QuietPairs.{IsDone, by_two, on_below, stopped_below, quiet_pair, served_quiet}

-- ---- down the chain and back

abbrev passed : Chain
passed = moved 2 set_homes set_moves

passed_served : passed.seats ≡ served_seats 2 set_homes 0
unfolding set_moves with_at has union single is_below adds next_from predecessor most appended entered widened
    taken_all sent_again forwarded open_replies trimmed left_open replies risen passed_on take_update promoted_to_head
    promoted_to_tail caught_up acked_to_predecessor asks_renewed
passed_served = refl

passed_two : passed.count ≡ 2
unfolding set_moves with_at has union single is_below adds next_from predecessor most appended entered widened
    taken_all sent_again forwarded open_replies trimmed left_open replies risen passed_on take_update promoted_to_head
    promoted_to_tail caught_up acked_to_predecessor asks_renewed
passed_two = refl

passed_on_none : (i : ℕ) → has_stopped passed i ≡ true → i < 2 → ⊥
unfolding set_moves with_at has union single is_below adds next_from predecessor most appended entered widened
    taken_all sent_again forwarded open_replies trimmed left_open replies risen passed_on take_update promoted_to_head
    promoted_to_tail caught_up acked_to_predecessor asks_renewed
passed_on_none zero e l = (let no : false ≡ true = e in absurd cc)
passed_on_none (suc zero) e l = (let no : false ≡ true = e in absurd cc)
passed_on_none (suc (suc i)) e l = omega (arith, l)

passed_first : IsDone passed 0
unfolding set_moves with_at has union single is_below adds next_from predecessor most appended entered widened
    taken_all sent_again forwarded open_replies trimmed left_open replies risen passed_on take_update promoted_to_head
    promoted_to_tail caught_up acked_to_predecessor asks_renewed
passed_first = record {
  inbox = refl;
  unpublished = refl;
  messages = λ j on. refl;
  replies = λ c. refl;
  views = λ j over. absurd (passed_on_none j over (stopped_below passed j passed_two over));
  channels = λ j on. by_two (λ k. passed.channels 0 k ≡ []) j (on_below passed j passed_two on) refl refl;
}

passed_last : IsDone passed 1
unfolding set_moves with_at has union single is_below adds next_from predecessor most appended entered widened
    taken_all sent_again forwarded open_replies trimmed left_open replies risen passed_on take_update promoted_to_head
    promoted_to_tail caught_up acked_to_predecessor asks_renewed
passed_last = record {
  inbox = refl;
  unpublished = refl;
  messages = λ j on. refl;
  replies = λ c. refl;
  views = λ j over. absurd (passed_on_none j over (stopped_below passed j passed_two over));
  channels = λ j on. by_two (λ k. passed.channels 1 k ≡ []) j (on_below passed j passed_two on) refl refl;
}

-- nothing is left to do
pub set_quiet : IsQuiet passed
set_quiet = quiet_pair passed passed_two passed_first (λ on. passed_last)
    (served_quiet passed set_homes passed_served)

-- ---- a failover: the head is left alone

second_two : second.count ≡ 2
unfolding set_is_taken tail_stops with_at has union single is_below adds next_from predecessor most appended entered
    widened taken_all sent_again forwarded open_replies trimmed left_open replies risen passed_on take_update
    promoted_to_head promoted_to_tail caught_up acked_to_predecessor asks_renewed
second_two = refl

second_stops : goes_on second 1 ≡ true → ⊥
unfolding set_is_taken tail_stops with_at has union single is_below adds next_from predecessor most appended entered
    widened taken_all sent_again forwarded open_replies trimmed left_open replies risen passed_on take_update
    promoted_to_head promoted_to_tail caught_up acked_to_predecessor asks_renewed
second_stops e = (let no : false ≡ true = e in absurd cc)

second_messages : (j : ℕ) → goes_on second j ≡ true → j < 2 → messages_to j (second.servers 0).outbox ≡ []
unfolding set_is_taken tail_stops with_at has union single is_below adds next_from predecessor most appended entered
    widened taken_all sent_again forwarded open_replies trimmed left_open replies risen passed_on take_update
    promoted_to_head promoted_to_tail caught_up acked_to_predecessor asks_renewed
second_messages zero e l = refl
second_messages (suc zero) e l = absurd (second_stops e)
second_messages (suc (suc j)) e l = absurd (omega (arith, l))

second_views : (j : ℕ) → has_stopped second j ≡ true → j < 2 → has (second.servers 0).node.view j ≡ true
unfolding set_is_taken tail_stops with_at has union single is_below adds next_from predecessor most appended entered
    widened taken_all sent_again forwarded open_replies trimmed left_open replies risen passed_on take_update
    promoted_to_head promoted_to_tail caught_up acked_to_predecessor asks_renewed
second_views zero e l = (let no : false ≡ true = e in absurd cc)
second_views (suc zero) e l = refl
second_views (suc (suc j)) e l = absurd (omega (arith, l))

second_channels : (j : ℕ) → goes_on second j ≡ true → j < 2 → second.channels 0 j ≡ []
unfolding set_is_taken tail_stops with_at has union single is_below adds next_from predecessor most appended entered
    widened taken_all sent_again forwarded open_replies trimmed left_open replies risen passed_on take_update
    promoted_to_head promoted_to_tail caught_up acked_to_predecessor asks_renewed
second_channels zero e l = refl
second_channels (suc zero) e l = absurd (second_stops e)
second_channels (suc (suc j)) e l = absurd (omega (arith, l))

second_done : IsDone second 0
unfolding set_is_taken tail_stops with_at has union single is_below adds next_from predecessor most appended entered
    widened taken_all sent_again forwarded open_replies trimmed left_open replies risen passed_on take_update
    promoted_to_head promoted_to_tail caught_up acked_to_predecessor asks_renewed
second_done = record {
  inbox = refl;
  unpublished = refl;
  messages = λ j on. second_messages j on (on_below second j second_two on);
  replies = λ c. refl;
  views = λ j over. second_views j over (stopped_below second j second_two over);
  channels = λ j on. second_channels j on (on_below second j second_two on);
}

second_quiet : IsQuiet second
second_quiet = quiet_pair second second_two second_done (λ on. absurd (second_stops on))
    (served_quiet second failover_homes second_served)

-- nothing is left to do after the look
pub failover_quiet : IsQuiet (moved 2 failover_homes failover_moves)
failover_quiet =
    let shown = looked_seat 0 (Some item) in
    let l : Chain = with_seat second 1 shown in
    let q = second_quiet in
    let queued : (c : ℕ) → (l.seats c).queued ≡ [] = λ c.
    kept_at (λ (s : Seat). s.queued) second.seats 1 shown (sym (served_quiet second failover_homes second_served 1)) c
    ∙ served_quiet second failover_homes second_served c in
    subst IsQuiet (sym last_is) (record {
      inboxes = q.inboxes;
      all_published = q.all_published;
      messages = q.messages;
      replies = q.replies;
      views = q.views;
      channels = q.channels;
      queues = λ c on. queued c;
    })

-- ---- the tail stops before it has put what it published

abbrev cut : Chain
cut = moved 2 set_homes cut_moves

-- the head is left alone

cut_two : cut.count ≡ 2
unfolding set_is_committed tail_stops with_at has union single is_below adds next_from predecessor most appended entered
    widened taken_all sent_again forwarded open_replies trimmed left_open replies risen passed_on take_update
    promoted_to_head promoted_to_tail caught_up acked_to_predecessor asks_renewed
cut_two = refl

cut_stops : goes_on cut 1 ≡ true → ⊥
unfolding set_is_committed tail_stops with_at has union single is_below adds next_from predecessor most appended entered
    widened taken_all sent_again forwarded open_replies trimmed left_open replies risen passed_on take_update
    promoted_to_head promoted_to_tail caught_up acked_to_predecessor asks_renewed
cut_stops e = (let no : false ≡ true = e in absurd cc)

cut_messages : (j : ℕ) → goes_on cut j ≡ true → j < 2 → messages_to j (cut.servers 0).outbox ≡ []
unfolding set_is_committed tail_stops with_at has union single is_below adds next_from predecessor most appended entered
    widened taken_all sent_again forwarded open_replies trimmed left_open replies risen passed_on take_update
    promoted_to_head promoted_to_tail caught_up acked_to_predecessor asks_renewed
cut_messages zero e l = refl
cut_messages (suc zero) e l = absurd (cut_stops e)
cut_messages (suc (suc j)) e l = absurd (omega (arith, l))

cut_views : (j : ℕ) → has_stopped cut j ≡ true → j < 2 → has (cut.servers 0).node.view j ≡ true
unfolding set_is_committed tail_stops with_at has union single is_below adds next_from predecessor most appended entered
    widened taken_all sent_again forwarded open_replies trimmed left_open replies risen passed_on take_update
    promoted_to_head promoted_to_tail caught_up acked_to_predecessor asks_renewed
cut_views zero e l = (let no : false ≡ true = e in absurd cc)
cut_views (suc zero) e l = refl
cut_views (suc (suc j)) e l = absurd (omega (arith, l))

cut_channels : (j : ℕ) → goes_on cut j ≡ true → j < 2 → cut.channels 0 j ≡ []
unfolding set_is_committed tail_stops with_at has union single is_below adds next_from predecessor most appended entered
    widened taken_all sent_again forwarded open_replies trimmed left_open replies risen passed_on take_update
    promoted_to_head promoted_to_tail caught_up acked_to_predecessor asks_renewed
cut_channels zero e l = refl
cut_channels (suc zero) e l = absurd (cut_stops e)
cut_channels (suc (suc j)) e l = absurd (omega (arith, l))

cut_done : IsDone cut 0
unfolding set_is_committed tail_stops with_at has union single is_below adds next_from predecessor most appended entered
    widened taken_all sent_again forwarded open_replies trimmed left_open replies risen passed_on take_update
    promoted_to_head promoted_to_tail caught_up acked_to_predecessor asks_renewed
cut_done = record {
  inbox = refl;
  unpublished = refl;
  messages = λ j on. cut_messages j on (on_below cut j cut_two on);
  replies = λ c. refl;
  views = λ j over. cut_views j over (stopped_below cut j cut_two over);
  channels = λ j on. cut_channels j on (on_below cut j cut_two on);
}

cut_served : cut.seats ≡ served_seats 2 set_homes 0
unfolding set_is_committed tail_stops with_at has union single is_below adds next_from predecessor most appended entered
    widened taken_all sent_again forwarded open_replies trimmed left_open replies risen passed_on take_update
    promoted_to_head promoted_to_tail caught_up acked_to_predecessor asks_renewed
cut_served = refl

-- nothing is left to do,
pub cut_quiet : IsQuiet cut
cut_quiet = quiet_pair cut cut_two cut_done (λ on. absurd (cut_stops on)) (served_quiet cut set_homes cut_served)

-- though the tail never put its acknowledgement;
pub cut_left : messages_to 0 (cut.servers 1).outbox ≡ record { view = 0; body = Ack 1 } ∷ []
unfolding set_is_committed tail_stops with_at has union single is_below adds next_from predecessor most appended entered
    widened taken_all sent_again forwarded open_replies trimmed left_open replies risen passed_on take_update
    promoted_to_head promoted_to_tail caught_up acked_to_predecessor asks_renewed
cut_left = refl

-- the set is answered,
pub cut_stored : reply_to cut (name 0 0) ≡ Some Stored
unfolding set_is_committed tail_stops with_at has union single is_below adds next_from predecessor most appended entered
    widened taken_all sent_again forwarded open_replies trimmed left_open replies risen passed_on take_update
    promoted_to_head promoted_to_tail caught_up acked_to_predecessor asks_renewed
cut_stored = refl

-- and clients can ask it
pub cut_asked : AreAsked cut_moves
unfolding set_is_committed tail_stops
cut_asked = (set_asked, (tt, (tt, (tt, (tt, (tt, (tt, (tt, (tt, (tt, (tt, (tt, (tt, tt)))))))))))))
