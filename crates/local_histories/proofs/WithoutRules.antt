-- Histories that break one part of the rules: each has no order.
use Rattle.std.proofs.Common.{[], ◌∷◌, ◌++◌, refl, arith, ap, lit<}
use Rattle.node.specs.Joining.{widened, taken_all, sent_again, forwarded, replies_to, promoted_to_head}
use Rattle.node.specs.Joining.{promoted_to_tail, caught_up, acked_to_predecessor, asks_renewed}
use Rattle.node.specs.Numbering.{left_open, replies, risen, appended, passed_on, take_update, entered}
use Rattle.node.specs.Servers.{most}
use Rattle.node.specs.Steps.{trimmed}
use Rattle.node.specs.Views.{has, union, single, is_below, adds, next_from, predecessor}
use Rattle.node.specs.declared.messages.Input.TheVariants.{Call as Called}
use Rattle.interleavings.specs.WorkedRuns.{key, set}
use Rattle.interleavings.proofs.examples.WorkedLooks.{opening_shows}
use Rattle.local_histories.specs.CallOrders.{HasNoOrder}
use Rattle.local_histories.specs.Standing.{read_by, read_reply}
use Rattle.local_histories.specs.WorkedHistories.{opened, head_and_tail, look_at_first, alone, older_events}
use Rattle.local_histories.specs.WorkedHistories.{told_events}
use Rattle.local_histories.specs.WorkedHistories.{unput_events, tail_and_head, early_events}
use Rattle.local_histories.specs.WrongRules.{AllFollow, FollowsWithoutBoards, FollowsWithoutNotices}
use Rattle.local_histories.specs.WrongRules.{FollowsWithoutLinks, FollowsWithoutTurns}
use Rattle.local_histories.proofs.MissedLook.{no_order}

-- ---- without boards

pub older_follows : AllFollow FollowsWithoutBoards (opened 1 alone) [] (older_events ++ look_at_first 1 0 1 ∷ [])
unfolding older_events has union single is_below adds next_from predecessor most appended entered trimmed left_open
    replies risen passed_on take_update
older_follows = (
  refl,
  (
    (λ g. (refl, ([], refl))),
    (
      (refl, refl),
      (
        (refl, ([], refl)),
        (
          ([], refl),
          ((refl, record { instance = refl; inputs = (Called 0 set ∷ [], refl) }, refl), tt),
        ),
      ),
    ),
  ),
)

pub older_has_none : HasNoOrder (opened 1 alone) (older_events ++ look_at_first 1 0 1 ∷ [])
unfolding older_events
older_has_none =
    no_order (opened 1 alone) older_events (look_at_first 1 0 1) refl
    (ap (λ look. read_by key look ++ []) (opening_shows 0 1 (omega arith) (omega arith)))
    (λ c. refl)
    (ap (λ look. read_reply look ++ []) (opening_shows 0 1 (omega arith) (omega arith)))
    refl refl

-- ---- without notices

pub told_follows : AllFollow FollowsWithoutNotices (opened 2 head_and_tail) [] (told_events ++ look_at_first 2 1 0 ∷ [])
unfolding told_events has union single is_below adds next_from predecessor most appended entered widened taken_all
    sent_again forwarded replies_to trimmed left_open replies risen passed_on take_update promoted_to_head
    promoted_to_tail caught_up acked_to_predecessor asks_renewed
told_follows = (
  tt,
  (
    (λ g. (refl, lit< tt)),
    (
      (refl, refl),
      (
        refl,
        (
          (λ g. (refl, ([], refl))),
          (
            (refl, refl),
            ((refl, ([], refl)), (([], refl), ((refl, (refl, refl)), tt))),
          ),
        ),
      ),
    ),
  ),
)

pub told_has_none : HasNoOrder (opened 2 head_and_tail) (told_events ++ look_at_first 2 1 0 ∷ [])
unfolding told_events
told_has_none =
    no_order (opened 2 head_and_tail) told_events (look_at_first 2 1 0) refl
    (ap (λ look. read_by key look ++ []) (opening_shows 1 2 (omega arith) (omega arith)))
    (λ c. refl)
    (ap (λ look. read_reply look ++ []) (opening_shows 1 2 (omega arith) (omega arith)))
    refl refl

-- ---- without links

pub unput_follows : AllFollow FollowsWithoutLinks (opened 2 head_and_tail) [] (unput_events ++ look_at_first 2 1 0 ∷ [])
unfolding unput_events has union single is_below adds next_from predecessor most appended entered widened taken_all
    sent_again forwarded replies_to trimmed left_open replies risen passed_on take_update promoted_to_head
    promoted_to_tail caught_up acked_to_predecessor asks_renewed
unput_follows = (
  refl,
  (
    (λ g. (refl, ([], refl))),
    (
      (refl, refl),
      (
        (λ g. (refl, lit< tt)),
        (
          (refl, refl),
          ((refl, ([], refl)), (([], refl), ((refl, (refl, refl)), tt))),
        ),
      ),
    ),
  ),
)

pub unput_has_none : HasNoOrder (opened 2 head_and_tail) (unput_events ++ look_at_first 2 1 0 ∷ [])
unfolding unput_events
unput_has_none =
    no_order (opened 2 head_and_tail) unput_events (look_at_first 2 1 0) refl
    (ap (λ look. read_by key look ++ []) (opening_shows 1 2 (omega arith) (omega arith)))
    (λ c. refl)
    (ap (λ look. read_reply look ++ []) (opening_shows 1 2 (omega arith) (omega arith)))
    refl refl

-- ---- without turns

pub early_follows : AllFollow FollowsWithoutTurns (opened 2 tail_and_head) [] (early_events ++ look_at_first 2 0 0 ∷ [])
unfolding early_events has union single is_below adds next_from predecessor most appended entered widened taken_all
    sent_again forwarded replies_to trimmed left_open replies risen passed_on take_update promoted_to_head
    promoted_to_tail caught_up acked_to_predecessor asks_renewed
early_follows = (
  refl,
  (
    (λ g. (refl, ([], refl))),
    (
      (refl, refl),
      (
        (refl, ([], refl)),
        (
          tt,
          (
            (λ g. (refl, (lit< tt, ([], refl)))),
            (
              (refl, ([], refl)),
              (
                tt,
                (
                  (λ g. (refl, (lit< tt, ([], refl)))),
                  ((refl, refl), ((refl, ([], refl)), (([], refl), ((refl, (refl, refl)), tt)))),
                ),
              ),
            ),
          ),
        ),
      ),
    ),
  ),
)

pub early_has_none : HasNoOrder (opened 2 tail_and_head) (early_events ++ look_at_first 2 0 0 ∷ [])
unfolding early_events
early_has_none =
    no_order (opened 2 tail_and_head) early_events (look_at_first 2 0 0) refl
    (ap (λ look. read_by key look ++ []) (opening_shows 0 2 (omega arith) (omega arith)))
    (λ c. refl)
    (ap (λ look. read_reply look ++ []) (opening_shows 0 2 (omega arith) (omega arith)))
    refl refl
