-- A history that keeps all rules of tables, and whose worker's events are no turns: it has no order.
use Rattle.std.proofs.Common.{◌≡◌, ℕ, zero, suc, List, [], ◌∷◌, ◌++◌, take, Some, refl, arith, ap, sym, subst, lit<}
use Rattle.std.specs.Prelude.{slice_get}
use Rattle.std.proofs.lemmas.Option.{same_Some}
use mathlib.Core.List.{IsPrefix}
use Rattle.rail.specs.Links as links
use Rattle.interleavings.specs.WorkedRuns.{key, set}
use Rattle.interleavings.proofs.examples.WorkedLooks.{opening_shows}
use Rattle.local_histories.specs.CallOrders.{HasNoOrder}
use Rattle.local_histories.specs.Events.{Event, Sent, Taken, Answered, Got}
use Rattle.local_histories.specs.Objects.{brought_from, put_by}
use Rattle.local_histories.specs.LocalRules.{HasInbox, HasReplies, IsAtFreeSeat, ShowsWhatStands, TellsOfStopped}
use Rattle.local_histories.specs.LocalRules.{BringsNoCall, IsOfChain, HaveOneSender, KeepRules}
use Rattle.local_histories.specs.Standing.{read_by, read_reply}
use Rattle.local_histories.specs.WorkedHistories.{unshown_events, look_at_first}
use Rattle.local_histories.proofs.MissedLook.{no_order}
use Rattle.local_histories.proofs.WorkedRight.{s, message, reply, at_zero, inbox_there, taken_there, sent_one, of_first}
use Rattle.local_histories.proofs.WorkedRight.{queue_there, take_none}

abbrev look : Event
look = look_at_first 1 0 1

abbrev es : List Event
es = unshown_events ++ look ∷ []

module _ (P : ℕ → Event → Type 0)
    (a : P 0 (Sent 0 0 0 set)) (b : P 1 (Taken 0 message)) (c : P 2 (Answered 0 reply)) (d : P 3 (Got 0 reply))
    (f : P 4 look) where
  each_place : (n : ℕ) (e : Event) → slice_get es n ≡ Some e → P n e
  unfolding unshown_events
  each_place zero e h = subst (λ x. P 0 x) (same_Some (Sent 0 0 0 set) e h) a
  each_place (suc zero) e h = subst (λ x. P 1 x) (same_Some (Taken 0 message) e h) b
  each_place (suc (suc zero)) e h = subst (λ x. P 2 x) (same_Some (Answered 0 reply) e h) c
  each_place (suc (suc (suc zero))) e h = subst (λ x. P 3 x) (same_Some (Got 0 reply) e h) d
  each_place (suc (suc (suc (suc zero)))) e h = subst (λ x. P 4 x) (same_Some look e h) f
  each_place (suc (suc (suc (suc (suc n))))) e h = absurd cc

module _ (P : List Event → Type 0)
    (p0 : P []) (p1 : P (Sent 0 0 0 set ∷ [])) (p2 : P (Sent 0 0 0 set ∷ (Taken 0 message ∷ [])))
    (p3 : P (Sent 0 0 0 set ∷ (Taken 0 message ∷ (Answered 0 reply ∷ []))))
    (p4 : P (Sent 0 0 0 set ∷ (Taken 0 message ∷ (Answered 0 reply ∷ (Got 0 reply ∷ [])))))
    (p5 : P (Sent 0 0 0 set ∷ (Taken 0 message ∷ (Answered 0 reply ∷ (Got 0 reply ∷ (look ∷ []))))))
  where
    each_front : (n : ℕ) → P (take n es)
    unfolding unshown_events
    each_front zero = p0
    each_front (suc zero) = p1
    each_front (suc (suc zero)) = p2
    each_front (suc (suc (suc zero))) = p3
    each_front (suc (suc (suc (suc zero)))) = p4
    each_front (suc (suc (suc (suc (suc n))))) =
        subst (λ xs. P (Sent 0 0 0 set ∷ (Taken 0 message ∷ (Answered 0 reply ∷ (Got 0 reply ∷ (look ∷ xs))))))
        (sym (take_none n)) p5

right_inbox : (n : ℕ) → HasInbox s 0 (take n es)
right_inbox = each_front (HasInbox s 0)
    (inbox_there [] [] [] (λ k. refl) refl (λ k high. refl) tt)
    (inbox_there (Sent 0 0 0 set ∷ []) (message ∷ []) [] sent_one refl of_first ((lit< tt, tt), tt))
    (taken_there _ (λ k. refl) refl) (taken_there _ (λ k. refl) refl) (taken_there _ (λ k. refl) refl)
    (taken_there _ (λ k. refl) refl)

right_queue : (n : ℕ) → HasReplies s 0 0 (take n es)
right_queue = each_front (HasReplies s 0 0)
    (queue_there _ [] [] [] refl refl refl tt) (queue_there _ [] [] [] refl refl refl tt)
    (queue_there _ [] [] [] refl refl refl tt)
    (queue_there _ (reply ∷ []) [] (reply ∷ []) refl refl refl (refl, tt))
    (queue_there _ (reply ∷ []) (reply ∷ []) [] refl refl refl tt)
    (queue_there _ (reply ∷ []) (reply ∷ []) [] refl refl refl tt)

right_links : (n i j : ℕ) → IsPrefix (brought_from i j (take n es)) (links.messages_to j (put_by i (take n es)))
right_links n i j = each_front (λ fs. IsPrefix (brought_from i j fs) (links.messages_to j (put_by i fs)))
    ([], refl) ([], refl) ([], refl) ([], refl) ([], refl) ([], refl) n

right_seats : (n : ℕ) (e : Event) → slice_get es n ≡ Some e → IsAtFreeSeat (take n es) e
unfolding unshown_events
right_seats = each_place (λ n e. IsAtFreeSeat (take n es) e) refl tt tt tt refl

right_boards : (n : ℕ) (e : Event) → slice_get es n ≡ Some e → ShowsWhatStands s (take n es) e
unfolding unshown_events
right_boards = each_place (λ n e. ShowsWhatStands s (take n es) e) tt tt tt tt (refl, refl)

right_senders : (m n : ℕ) (e f : Event)
    → slice_get es m ≡ Some e
    → slice_get es n ≡ Some f
    → HaveOneSender e f
right_senders m n e f first second = each_place (λ k x. HaveOneSender x f)
    (each_place (λ k y. HaveOneSender (Sent 0 0 0 set) y) (λ a b. refl) tt tt tt tt n f second)
    (each_place (λ k y. HaveOneSender (Taken 0 message) y) tt tt tt tt tt n f second)
    (each_place (λ k y. HaveOneSender (Answered 0 reply) y) tt tt tt tt tt n f second)
    (each_place (λ k y. HaveOneSender (Got 0 reply) y) tt tt tt tt tt n f second)
    (each_place (λ k y. HaveOneSender look y) tt tt tt tt tt n f second) m e first

-- all rules of tables are kept,
pub unshown_keeps : KeepRules s (unshown_events ++ look_at_first 1 0 1 ∷ [])
unshown_keeps = record {
  inboxes = λ n i within. subst (λ x. HasInbox s x (take n es)) (at_zero i within) (right_inbox n);
  replies = λ n i p within below. subst (λ x. HasReplies s x p (take n es)) (at_zero i within)
      (subst (λ q. HasReplies s 0 q (take n es)) (at_zero p below) (right_queue n));
  links = right_links;
  seats = right_seats;
  boards = right_boards;
  notices = each_place (λ n e. TellsOfStopped s (take n es) e) tt tt tt tt tt;
  inlets = each_place (λ n e. BringsNoCall e × IsOfChain s e) (tt, tt) (tt, tt) (tt, tt) (tt, tt) (tt, tt);
  senders = right_senders;
}

-- and there is no order
pub unshown_has_none : HasNoOrder s (unshown_events ++ look_at_first 1 0 1 ∷ [])
unfolding unshown_events
unshown_has_none =
    no_order s unshown_events (look_at_first 1 0 1) refl
    (ap (λ found. read_by key found ++ []) (opening_shows 0 1 (omega arith) (omega arith)))
    (λ c. refl)
    (ap (λ found. read_reply found ++ []) (opening_shows 0 1 (omega arith) (omega arith)))
    refl refl
