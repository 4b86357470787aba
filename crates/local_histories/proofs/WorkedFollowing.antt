-- Worked histories: each event may follow those before it, by the rules or by rules without one of their parts; and
-- four of them have no order.
use Rattle.std.proofs.Common.{◌≡◌, [], ◌∷◌, ◌++◌, Some, refl, lit<}
use Rattle.table.specs.declared.operations.Reply.TheVariants.{Stored}
use Rattle.node.specs.Joining.{widened, taken_all, sent_again, forwarded, replies_to, promoted_to_head}
use Rattle.node.specs.Joining.{promoted_to_tail, caught_up, acked_to_predecessor, asks_renewed}
use Rattle.node.specs.Numbering.{left_open, replies, risen, appended, passed_on, take_update, entered}
use Rattle.node.specs.Servers.{most}
use Rattle.node.specs.Steps.{trimmed}
use Rattle.node.specs.Views.{has, union, single, is_below, adds, next_from, predecessor}
use Rattle.world.specs.WorkedSchedules.{name}
use Rattle.local_histories.specs.CallOrders.{reply_to}
use Rattle.local_histories.specs.Following.{MayFollow}
use Rattle.local_histories.specs.Standing.{all_moves}
use Rattle.local_histories.specs.WorkedHistories.{opened, head_and_tail, set_events, look_at_tail, set_and_look_moves}
use Rattle.local_histories.specs.WrongRules.{AllFollow}

-- ---- a set passes down and back, and a look finds it

pub set_moves : all_moves (opened 2 head_and_tail) (set_events ++ look_at_tail ∷ []) ≡ set_and_look_moves
unfolding set_events set_and_look_moves
set_moves = refl

pub set_stored : reply_to (opened 2 head_and_tail) set_events (name 0 0) ≡ Some Stored
unfolding set_events
set_stored = refl

pub set_follows : AllFollow MayFollow (opened 2 head_and_tail) [] (set_events ++ look_at_tail ∷ [])
unfolding set_events has union single is_below adds next_from predecessor most appended entered widened taken_all
    sent_again forwarded replies_to trimmed left_open replies risen passed_on take_update promoted_to_head
    promoted_to_tail caught_up acked_to_predecessor asks_renewed
set_follows = (
  refl,
  (
    (λ g. (refl, ([], refl))),
    (
      (refl, refl),
      (
        (refl, ([], refl)),
        (
          tt,
          (
            (λ g. (refl, (lit< tt, ([], refl)))),
            (
              (refl, refl),
              (
                (refl, ([], refl)),
                (
                  tt,
                  (
                    (λ g. (refl, (lit< tt, ([], refl)))),
                    (
                      (refl, refl),
                      (
                        (refl, ([], refl)),
                        (
                          ([], refl),
                          ((refl, (refl, refl)), tt),
                        ),
                      ),
                    ),
                  ),
                ),
              ),
            ),
          ),
        ),
      ),
    ),
  ),
)
