-- A history that is right object by object but for a notice of a server that goes on: it has no order.
use Rattle.std.proofs.Common.{◌≡◌, ℕ, zero, suc, ◌<◌, Bool, true, false, cond, List, [], ◌∷◌, ◌++◌, take}
use Rattle.std.proofs.Common.{refl, arith, ap, sym, ◌∙◌, inl, inr, lit<}
use Rattle.std.specs.Prelude.{◌==◌}
use Rattle.std.specs.declared.result.Result.TheVariants.{Ok}
use mathlib.Core.List.{IsPrefix}
use Rattle.node.specs.Joining.{widened, taken_all, sent_again, forwarded, replies_to, promoted_to_head}
use Rattle.node.specs.Joining.{promoted_to_tail, caught_up, acked_to_predecessor, asks_renewed}
use Rattle.node.specs.Numbering.{left_open, replies, risen, appended, passed_on, take_update, entered}
use Rattle.node.specs.Servers.{most}
use Rattle.node.specs.Steps.{trimmed}
use Rattle.node.specs.Views.{has, union, single, is_below, adds, next_from, predecessor}
use Rattle.node.specs.declared.messages.Input.{Input}
use Rattle.node.specs.declared.messages.Input.TheVariants.{Call as Called, Gone}
use Rattle.rail.specs.declared.workers.Turn.TheVariants.{Went}
use Rattle.rail.specs.Links as links
use Rattle.rail.specs.NotedReplies.{NotedReply}
use Rattle.interleavings.specs.WorkedRuns.{set}
use Rattle.local_histories.specs.Events.{Event, Taken, Shown, Answered}
use Rattle.local_histories.specs.Objects.{all_messages_from, brought_from}
use Rattle.local_histories.specs.Objects.{takes}
use Rattle.local_histories.specs.Objects.{put_by, answers, gets}
use Rattle.local_histories.specs.Turns.{HasTurns, IsTurnAfter}
use Rattle.local_histories.proofs.Checking.{Follows, follows_along, mails, keeps_inbox, keeps_queue}
use Rattle.local_histories.proofs.OneSender.{AllOf}
use Rattle.local_histories.specs.LocalRules.{HasInbox, HasReplies, IsAtFreeSeat, ShowsWhatStands}
use Rattle.local_histories.specs.LocalRules.{BringsNoCall, IsOfChain}
use Rattle.local_histories.specs.WorkedHistories.{envelope, stored_by, told_events, look_at_first}
use Rattle.local_histories.specs.WrongRules.{AllFollow, TellsOfAny, AreRightWithoutNotices}
use Rattle.local_histories.proofs.WorkedPair.{s, all_by, get_of, IsNumbered, one_sender, goes_in, comes_out, all_in}
use Rattle.local_histories.proofs.WorkedPair.{all_out}

abbrev es : List Event
es = told_events ++ look_at_first 2 1 0 ∷ []

abbrev told : List Input
told = Gone 1 ∷ (Called 0 set ∷ [])

abbrev reply : NotedReply
reply = stored_by 2 0 told

none_out : (b : Bool) (i : ℕ) → [] ≡ all_messages_from i (cond b (Gone 1 ∷ []) []) ++ []
none_out true i = refl
none_out false i = refl

along : (i j : ℕ) → Follows (goes_in i j) (comes_out i j) [] es
unfolding told_events
along i j = (
  [],
  none_out (0 == j) i,
  (
    [],
    refl,
    (
      [],
      refl,
      (
        [],
        refl,
        (
          [],
          refl,
          (
            [],
            refl,
            (
              [],
              refl,
              (
                [],
                refl,
                (
                  [],
                  refl,
                  tt,
                ),
              ),
            ),
          ),
        ),
      ),
    ),
  ),
)

right_links : (n i j : ℕ) → IsPrefix (brought_from i j (take n es)) (links.messages_to j (put_by i (take n es)))
right_links n i j =
    let f = follows_along (goes_in i j) (comes_out i j) [] es n (along i j) in
    (f.0, ap (λ ms. ms ++ f.0) (sym (all_out i j (take n es))) ∙ sym f.1 ∙ all_in i j (take n es))

mails_head : Follows (mails 0) (takes 0) [] es
unfolding told_events
mails_head = (
  envelope 1 (Gone 1) ∷ [],
  refl,
  (
    [],
    refl,
    (
      [],
      refl,
      (
        envelope 0 (Called 0 set) ∷ [],
        refl,
        (
          [],
          refl,
          ([], refl, ([], refl, ([], refl, ([], refl, tt)))),
        ),
      ),
    ),
  ),
)

mails_tail : Follows (mails 1) (takes 1) [] es
unfolding told_events
mails_tail =
    ([], refl, ([], refl, ([], refl, ([], refl, ([], refl, ([], refl, ([], refl, ([], refl, ([], refl, tt)))))))))

right_head : (n : ℕ) → HasInbox s 0 (take n es)
unfolding told_events
right_head = keeps_inbox s 0 es mails_head (lit< tt, (lit< tt, tt)) (tt, ((lit< tt, tt), tt))

right_tail : (n : ℕ) → HasInbox s 1 (take n es)
unfolding told_events
right_tail = keeps_inbox s 1 es mails_tail tt tt

right_inbox : (n i : ℕ) → i < 2 → HasInbox s i (take n es)
right_inbox n zero within = right_head n
right_inbox n (suc zero) within = right_tail n
right_inbox n (suc (suc i)) within = absurd (omega (arith, within))

replies_head : Follows (answers 0 0) (gets 0 0) [] es
unfolding told_events
replies_head = (
  [],
  refl,
  (
    [],
    refl,
    (
      [],
      refl,
      (
        [],
        refl,
        (
          [],
          refl,
          (
            [],
            refl,
            (
              reply ∷ [],
              refl,
              (
                [],
                refl,
                (
                  [],
                  refl,
                  tt,
                ),
              ),
            ),
          ),
        ),
      ),
    ),
  ),
)

replies_tail : Follows (answers 1 0) (gets 1 0) [] es
unfolding told_events
replies_tail =
    ([], refl, ([], refl, ([], refl, ([], refl, ([], refl, ([], refl, ([], refl, ([], refl, ([], refl, tt)))))))))

head_queue : (n : ℕ) → HasReplies s 0 0 (take n es)
unfolding told_events
head_queue = keeps_queue s 0 0 es replies_head (refl, tt)

tail_queue : (n : ℕ) → HasReplies s 1 0 (take n es)
unfolding told_events
tail_queue = keeps_queue s 1 0 es replies_tail tt

right_queue : (n i p : ℕ) → i < 2 → p < 1 → HasReplies s i p (take n es)
right_queue n zero zero within below = head_queue n
right_queue n (suc zero) zero within below = tail_queue n
right_queue n (suc (suc i)) p within below = absurd (omega (arith, within))
right_queue n zero (suc p) within below = absurd (omega (arith, below))
right_queue n (suc zero) (suc p) within below = absurd (omega (arith, below))

right_seats : AllFollow (λ x. IsAtFreeSeat) s [] es
unfolding told_events
right_seats = (tt, (tt, (tt, (refl, (tt, (tt, (tt, (tt, (refl, tt)))))))))

right_boards : AllFollow ShowsWhatStands s [] es
unfolding told_events
right_boards = (tt, (tt, (tt, (tt, (tt, (tt, (tt, (tt, ((refl, refl), tt)))))))))

right_notices : AllFollow TellsOfAny s [] es
unfolding told_events
right_notices = (lit< tt, (tt, (tt, (tt, (tt, (tt, (tt, (tt, (tt, tt)))))))))

right_inlets : AllFollow (λ x before e. BringsNoCall e × IsOfChain x e) s [] es
unfolding told_events
right_inlets =
    ((tt, tt), ((tt, tt), ((tt, tt), ((tt, tt), ((tt, tt), ((tt, tt), ((tt, tt), ((tt, tt), ((tt, tt), tt)))))))))

numbered_told : AllOf IsNumbered es
unfolding told_events
numbered_told = (refl, (tt, (tt, (refl, (tt, (tt, (tt, (tt, (tt, tt)))))))))

abbrev takes_notice : List Event
takes_notice = Taken 0 (envelope 1 (Gone 1)) ∷ (Shown 0 (Gone 1) ∷ [])

abbrev takes_set : List Event
takes_set = Taken 0 (envelope 0 (Called 0 set)) ∷ (Shown 0 (Called 0 set) ∷ (Answered 0 reply ∷ []))

first_turn : IsTurnAfter s 0 [] takes_notice
unfolding has union single is_below adds next_from predecessor most appended entered widened taken_all sent_again
    forwarded replies_to trimmed left_open replies risen passed_on take_update promoted_to_head promoted_to_tail
    caught_up acked_to_predecessor asks_renewed
first_turn = record {
  own = (refl, (refl, tt));
  in_order = tt;
  result = Ok Went;
  is = record {
    message = envelope 1 (Gone 1);
    taken = refl;
    did = (
      Gone 1,
      refl,
      record {
        going = refl;
        still = refl;
        published = refl;
        messages = record {
          put = [];
          list = refl;
          order = refl;
          beginning = λ j. ([], refl);
          whole = λ j up. refl;
          down = λ j down. refl;
        };
        replies = (record { address = refl; more = []; put = refl; left = refl; gone = λ g. g }, refl);
        seated = tt;
      },
    );
  };
}

second_turn : IsTurnAfter s 0 takes_notice takes_set
unfolding has union single is_below adds next_from predecessor most appended entered widened taken_all sent_again
    forwarded replies_to trimmed left_open replies risen passed_on take_update promoted_to_head promoted_to_tail
    caught_up acked_to_predecessor asks_renewed
second_turn = record {
  own = (refl, (refl, (refl, tt)));
  in_order = tt;
  result = Ok Went;
  is = record {
    message = envelope 0 (Called 0 set);
    taken = refl;
    did = (
      Called 0 set,
      refl,
      record {
        going = refl;
        still = refl;
        published = refl;
        messages = record {
          put = [];
          list = refl;
          order = refl;
          beginning = λ j. ([], refl);
          whole = λ j up. refl;
          down = λ j down. refl;
        };
        replies = (
          record { address = refl; more = reply ∷ []; put = refl; left = inr ([], refl, refl); gone = λ g. g },
          refl,
        );
        seated = (lit< tt, tt);
      },
    );
  };
}

head_turns : HasTurns s 0 es
unfolding told_events
head_turns = record {
  turns = takes_notice ∷ (takes_set ∷ []);
  last = [];
  ended = [];
  all = refl;
  are = (inl first_turn, (inl second_turn, tt));
  begun = inl refl;
  may = inl refl;
}

tail_turns : HasTurns s 1 es
unfolding told_events
tail_turns = record {
  turns = [];
  last = [];
  ended = [];
  all = refl;
  are = tt;
  begun = inl refl;
  may = inl refl;
}

right_turns : (i : ℕ) → i < 2 → HasTurns s i es
right_turns zero within = head_turns
right_turns (suc zero) within = tail_turns
right_turns (suc (suc i)) within = absurd (omega (arith, within))

-- all but the notices is right
pub told_is_right : AreRightWithoutNotices s (told_events ++ look_at_first 2 1 0 ∷ [])
told_is_right = record {
  inboxes = right_inbox;
  replies = right_queue;
  links = right_links;
  seats = all_by (λ x. IsAtFreeSeat) [] es right_seats;
  boards = all_by ShowsWhatStands [] es right_boards;
  notices = all_by TellsOfAny [] es right_notices;
  inlets = all_by (λ x before e. BringsNoCall e × IsOfChain x e) [] es right_inlets;
  senders = λ m n e f here there. one_sender e f (get_of IsNumbered es m e numbered_told here)
      (get_of IsNumbered es n f numbered_told there);
  turns = right_turns;
}
