-- A worked run of two servers, and of a channel that leaves out a message, at whose end nothing is left to do.
use Rattle.std.proofs.Common.{◌≡◌, ℕ, zero, suc, ◌<◌, true, false, [], refl, arith, ap}
use Rattle.std.proofs.Common.{◌∙◌}
use Rattle.node.specs.Joining.{widened, taken_all, sent_again, forwarded, replies_to as open_replies, promoted_to_head}
use Rattle.node.specs.Joining.{promoted_to_tail, caught_up, acked_to_predecessor, asks_renewed}
use Rattle.node.specs.Numbering.{left_open, replies, risen, appended, passed_on, take_update, entered}
use Rattle.node.specs.Servers.{most}
use Rattle.node.specs.Steps.{trimmed}
use Rattle.node.specs.Views.{has, union, single, is_below, adds, next_from, predecessor}
use Rattle.interleavings.specs.Chains.{Seat, Chain, with_at, opening_chain}
use Rattle.interleavings.specs.Moves.{has_stopped}
use Rattle.interleavings.specs.OtherMoves.{moved_by}
use Rattle.interleavings.specs.Quiet.{IsQuiet}
use Rattle.interleavings.specs.WorkedRuns.{set_homes}
use Rattle.interleavings.specs.WorkedRuns.{lossy_moves}
use Rattle.interleavings.specs.WrongMoves.{with_lossy_channels}
use Rattle.interleavings.proofs.lists.ChangedFunctions.{kept_at}
use Rattle.interleavings.proofs.examples.MissedSet.{set_seat}
use Rattle.interleavings.proofs.examples.QuietPairs.{IsDone, by_two, on_below, stopped_below, quiet_pair}

abbrev lossy : Chain
lossy = moved_by with_lossy_channels 2 set_homes lossy_moves

lossy_two : lossy.count ≡ 2
unfolding lossy_moves with_at has union single is_below adds next_from predecessor most appended entered widened
    taken_all sent_again forwarded open_replies trimmed left_open replies risen passed_on take_update promoted_to_head
    promoted_to_tail caught_up acked_to_predecessor asks_renewed
lossy_two = refl

lossy_none : (i : ℕ) → has_stopped lossy i ≡ true → i < 2 → ⊥
unfolding lossy_moves with_at has union single is_below adds next_from predecessor most appended entered widened
    taken_all sent_again forwarded open_replies trimmed left_open replies risen passed_on take_update promoted_to_head
    promoted_to_tail caught_up acked_to_predecessor asks_renewed
lossy_none zero e l = (let no : false ≡ true = e in absurd cc)
lossy_none (suc zero) e l = (let no : false ≡ true = e in absurd cc)
lossy_none (suc (suc i)) e l = omega (arith, l)

lossy_first : IsDone lossy 0
unfolding lossy_moves with_at has union single is_below adds next_from predecessor most appended entered widened
    taken_all sent_again forwarded open_replies trimmed left_open replies risen passed_on take_update promoted_to_head
    promoted_to_tail caught_up acked_to_predecessor asks_renewed
lossy_first = record {
  inbox = refl;
  unpublished = refl;
  messages = λ j on. refl;
  replies = λ c. refl;
  views = λ j over. absurd (lossy_none j over (stopped_below lossy j lossy_two over));
  channels = λ j on. by_two (λ k. lossy.channels 0 k ≡ []) j (on_below lossy j lossy_two on) refl refl;
}

lossy_last : IsDone lossy 1
unfolding lossy_moves with_at has union single is_below adds next_from predecessor most appended entered widened
    taken_all sent_again forwarded open_replies trimmed left_open replies risen passed_on take_update promoted_to_head
    promoted_to_tail caught_up acked_to_predecessor asks_renewed
lossy_last = record {
  inbox = refl;
  unpublished = refl;
  messages = λ j on. refl;
  replies = λ c. refl;
  views = λ j over. absurd (lossy_none j over (stopped_below lossy j lossy_two over));
  channels = λ j on. by_two (λ k. lossy.channels 1 k ≡ []) j (on_below lossy j lossy_two on) refl refl;
}

lossy_seats : lossy.seats ≡ with_at (opening_chain 2 set_homes).seats 0 (set_seat 0 [] [])
unfolding lossy_moves with_at has union single is_below adds next_from predecessor most appended entered widened
    taken_all sent_again forwarded open_replies trimmed left_open replies risen passed_on take_update promoted_to_head
    promoted_to_tail caught_up acked_to_predecessor asks_renewed
lossy_seats = refl

-- nothing is left to do
pub lossy_quiet : IsQuiet lossy
lossy_quiet = quiet_pair lossy lossy_two lossy_first (λ on. lossy_last)
    (λ c. ap (λ (ss : ℕ → Seat). (ss c).queued) lossy_seats
    ∙ kept_at (λ (s : Seat). s.queued) (opening_chain 2 set_homes).seats 0 (set_seat 0 [] []) refl c)
