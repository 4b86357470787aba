-- A worked history that is right object by object: one server, a client that sets, and a reader that looks.
use Rattle.std.proofs.Common.{◌≡◌, ℕ, zero, suc, ◌<◌, ◌≤◌, cond, List, [], ◌∷◌, ◌++◌, take}
use Rattle.std.proofs.Common.{Some, refl, arith, ap, sym, ◌∙◌, subst, inl, inr, ◌⊎◌, lit<, lit≤, true≢false}
use Rattle.std.specs.Prelude.{◌==◌, slice_get}
use Rattle.std.specs.declared.result.Result.TheVariants.{Ok}
use Rattle.std.proofs.lemmas.Bool.{cases_eq, ne_eqb}
use Rattle.std.proofs.lemmas.Option.{same_Some}
use mathlib.Core.Option.{Option, some, none, some-injective, some-ne-none}
use lib.ListN.{get_elem?}
use Rattle.node.specs.Numbering.{left_open, replies, risen, appended, passed_on, take_update, entered}
use Rattle.node.specs.Servers.{most}
use Rattle.node.specs.Steps.{trimmed}
use Rattle.node.specs.Views.{has, union, single, is_below, adds, next_from, predecessor}
use Rattle.node.specs.declared.messages.Input.TheVariants.{Call as Called}
use Rattle.faces.specs.Histories.{History}
use Rattle.rail.specs.declared.inbox_messages.Envelope.{Envelope}
use Rattle.rail.specs.declared.inbox_messages.InboxMessage.TheVariants.{Took}
use Rattle.rail.specs.declared.inbox.InboxKnowledge.{InboxKnowledge}
use Rattle.rail.specs.declared.reply_channels.ReplyKnowledge.{ReplyKnowledge}
use Rattle.rail.specs.declared.workers.Turn.TheVariants.{Went}
use Rattle.rail.specs.Inbox as inboxes
use Rattle.rail.specs.InboxMessages.{AreBelow}
use Rattle.rail.specs.Links as links
use Rattle.rail.specs.NotedReplies.{Address, NotedReply}
use Rattle.rail.specs.ReplyMessages as queues
use Rattle.interleavings.specs.OwnPorts.{seats_at}
use Rattle.interleavings.specs.WorkedRuns.{key, set}
use Rattle.interleavings.proofs.examples.AskedCalls.{set_asked, get_asked}
use Rattle.local_histories.specs.Events.{Event, Sent, Taken, Shown, Answered, Got, Looked}
use Rattle.local_histories.specs.Objects.{OpenedChain, only_if, sent_by, taken_by, brought_from, answered_at, got_at}
use Rattle.local_histories.specs.Objects.{address_at, put_by}
use Rattle.local_histories.specs.LocalRules.{IsOpened, AreOf, HasInbox, HasReplies, IsAtFreeSeat, ShowsWhatStands}
use Rattle.local_histories.specs.LocalRules.{TellsOfStopped, BringsNoCall, IsOfChain, HaveOneSender}
use Rattle.local_histories.specs.LocalRules.{AreLocallyRight}
use Rattle.local_histories.specs.Turns.{HasTurns, IsTurnAfter}
use Rattle.local_histories.specs.WorkedHistories.{opened, envelope, stored_by, alone, older_events}
use Rattle.local_histories.specs.WorkedHistories.{after_inputs, look_at_first, look_at_last}
use Rattle.local_histories.specs.WrongRules.{AreRightWithoutBoards, ShowsAnyFace}
use mathlib.Core.List.{IsPrefix}

abbrev pub s : OpenedChain
s = opened 1 alone

abbrev pub message : Envelope
message = envelope 0 (Called 0 set)

abbrev pub reply : NotedReply
reply = stored_by 1 0 (Called 0 set ∷ [])

-- ---- tables

module _ (fs : List Event) (items taken : List Envelope)
    (sent : (k : ℕ) → sent_by 0 k fs ≡ inboxes.of k (taken ++ items))
    (took : taken_by 0 fs ≡ taken) (one : (k : ℕ) → 1 ≤ k → inboxes.of k (taken ++ items) ≡ [])
    (below : AreBelow 1 items) where
  abbrev views : List InboxKnowledge
  views = inboxes.taker 1 1 taken ∷ (inboxes.sender 0 1 (sent_by 0 0 fs) ∷ [])

  abbrev seat : ℕ → Option ℕ
  seat k = cond (k == 0) (some 1) none

  each_fits : (pass : ℕ) (v : InboxKnowledge)
      → get_elem? views pass ≡ some v
      → inboxes.Fits 0 seat (λ k. sent_by 0 k fs) taken 1 pass v
  each_fits zero v e =
      subst (λ x. inboxes.Fits 0 seat (λ k. sent_by 0 k fs) taken 1 0 x)
      (some-injective (inboxes.taker 1 1 taken) v e) (
        (λ z. absurd (true≢false (sym z))),
        λ z. (
          refl,
          refl,
          refl,
          λ k high.
              (ap (λ b. cond b (some 1) none) (ne_eqb k 0 (λ f. omega (arith, f, high))), sent k ∙ one k high),
        ),
      )
  each_fits (suc zero) v e =
      subst (λ x. inboxes.Fits 0 seat (λ k. sent_by 0 k fs) taken 1 1 x)
      (some-injective (inboxes.sender 0 1 (sent_by 0 0 fs)) v e)
      ((λ z. (refl, refl, omega arith)), λ z. absurd (true≢false (sym z)))
  each_fits (suc (suc pass)) v e = absurd (some-ne-none v (sym e))

  pub inbox_there : HasInbox s 0 fs
  inbox_there = record {
    items = items;
    views = views;
    rule = record {
      reader = 0;
      seat = seat;
      sent = λ k. sent_by 0 k fs;
      got = taken;
      ports = 1;
      order = λ k. sym (sent k);
      below = below;
      each = each_fits;
    };
    made = 1;
    ports = 1;
    receiver = 0;
    takes = ap (λ ms. some (inboxes.taker 1 1 ms)) (sym took);
    sends = λ k low.
        let e : 0 ≡ k = omega (arith, low) in
        (1, 1, ap (λ x. some (inboxes.sender x 1 (sent_by 0 x fs))) e);
    others = λ k high. sent k ∙ one k high;
  }

-- the one message, of sender 0
pub sent_one : (k : ℕ) → only_if (0 == k) (Took (Called 0 set)) ++ [] ≡ inboxes.of k (message ∷ [])
sent_one k = elim (cases_eq k 0) [
  | inl same ↦ subst (λ x. only_if (0 == x) (Took (Called 0 set)) ++ [] ≡ inboxes.of x (message ∷ [])) (sym same) refl
  | inr other ↦ ap (λ b. only_if b (Took (Called 0 set)) ++ []) (ne_eqb 0 k (λ f. other (sym f)))
      ∙ sym (ap (λ b. cond b (Took (Called 0 set) ∷ []) []) (ne_eqb k 0 other))
]

pub of_first : (k : ℕ) → 1 ≤ k → inboxes.of k (message ∷ []) ≡ []
of_first k high = ap (λ b. cond b (Took (Called 0 set) ∷ []) []) (ne_eqb k 0 (λ f. omega (arith, f, high)))

pub taken_there : (fs : List Event)
    → ((k : ℕ) → sent_by 0 k fs ≡ only_if (0 == k) (Took (Called 0 set)) ++ [])
    → taken_by 0 fs ≡ message ∷ []
    → HasInbox s 0 fs
taken_there fs sent took = inbox_there fs [] (message ∷ []) (λ k. sent k ∙ sent_one k) took of_first tt

abbrev there : Address
there = address_at s 0 0

module _ (fs : List Event) (put got items : List NotedReply) (order : got ++ items ≡ put)
    (puts : answered_at 0 0 fs ≡ put) (gets : got_at 0 0 fs ≡ got) (all : queues.AllAt there items) where
  abbrev passes : List ReplyKnowledge
  passes = queues.putter there put ∷ (queues.taker there got ∷ [])

  each_pass : (pass : ℕ) (v : ReplyKnowledge)
      → get_elem? passes pass ≡ some v
      → ((v ≡ queues.putter there put) × (pass ≡ 0)) ⊎ ((v ≡ queues.taker there got) × (pass ≡ 1))
  each_pass zero v e = inl (sym (some-injective (queues.putter there put) v e), refl)
  each_pass (suc zero) v e = inr (sym (some-injective (queues.taker there got) v e), refl)
  each_pass (suc (suc pass)) v e = absurd (some-ne-none v (sym e))

  pub queue_there : HasReplies s 0 0 fs
  queue_there = record {
    items = items;
    views = passes;
    rule = inr (record {
      address = there;
      put = put;
      taken = got;
      sender = 0;
      receiver = 1;
      order = order;
      all = all;
      each = each_pass;
    });
    sender = 0;
    receiver = 1;
    puts = ap (λ rs. some (queues.putter there rs)) (sym puts);
    takes = ap (λ rs. some (queues.taker there rs)) (sym gets);
  }

-- ---- the turn

abbrev turn : List Event
turn = Taken 0 message ∷ (Shown 0 (Called 0 set) ∷ (Answered 0 reply ∷ []))

turn_is : IsTurnAfter s 0 [] turn
unfolding has union single is_below adds next_from predecessor most appended entered trimmed left_open replies risen
    passed_on take_update
turn_is = record {
  own = (refl, (refl, (refl, tt)));
  in_order = tt;
  result = Ok Went;
  is = record {
    message = message;
    taken = refl;
    did = (
      Called 0 set,
      refl,
      record {
        going = refl;
        still = refl;
        published = refl;
        messages = record {
          put = [];
          list = refl;
          order = refl;
          beginning = λ j. ([], refl);
          whole = λ j up. refl;
          down = λ j down. refl;
        };
        replies = (
          record { address = refl; more = reply ∷ []; put = refl; left = inr ([], refl, refl); gone = λ g. g },
          refl,
        );
        seated = (lit< tt, tt);
      },
    );
  };
}

-- ---- the events, with a look at any face

pub at_zero : (i : ℕ) → i < 1 → 0 ≡ i
at_zero i within = omega (arith, within)

pub take_none : (n : ℕ) → take {A = Event} n [] ≡ []
take_none zero = refl
take_none (suc n) = refl

module _ (stood : History) where
  abbrev look : Event
  look = Looked 0 1 key stood

  abbrev es : List Event
  es = older_events ++ look ∷ []

  -- ---- by the places of the events

  module _ (P : ℕ → Event → Type 0)
      (a : P 0 (Sent 0 0 0 set)) (b : P 1 (Taken 0 message)) (c : P 2 (Shown 0 (Called 0 set)))
      (d : P 3 (Answered 0 reply)) (f : P 4 (Got 0 reply)) (g : P 5 look) where
    each_place : (n : ℕ) (e : Event) → slice_get es n ≡ Some e → P n e
    unfolding older_events
    each_place zero e h = subst (λ x. P 0 x) (same_Some (Sent 0 0 0 set) e h) a
    each_place (suc zero) e h = subst (λ x. P 1 x) (same_Some (Taken 0 message) e h) b
    each_place (suc (suc zero)) e h = subst (λ x. P 2 x) (same_Some (Shown 0 (Called 0 set)) e h) c
    each_place (suc (suc (suc zero))) e h = subst (λ x. P 3 x) (same_Some (Answered 0 reply) e h) d
    each_place (suc (suc (suc (suc zero)))) e h = subst (λ x. P 4 x) (same_Some (Got 0 reply) e h) f
    each_place (suc (suc (suc (suc (suc zero))))) e h = subst (λ x. P 5 x) (same_Some look e h) g
    each_place (suc (suc (suc (suc (suc (suc n)))))) e h = absurd cc

  module _ (P : List Event → Type 0)
      (p0 : P []) (p1 : P (Sent 0 0 0 set ∷ [])) (p2 : P (Sent 0 0 0 set ∷ (Taken 0 message ∷ [])))
      (p3 : P (Sent 0 0 0 set ∷ (Taken 0 message ∷ (Shown 0 (Called 0 set) ∷ []))))
      (p4 : P (Sent 0 0 0 set ∷ (Taken 0 message ∷ (Shown 0 (Called 0 set) ∷ (Answered 0 reply ∷ [])))))
      (p5 : P (Sent 0 0 0 set
      ∷ (Taken 0 message ∷ (Shown 0 (Called 0 set) ∷ (Answered 0 reply ∷ (Got 0 reply ∷ []))))))
      (p6 : P (Sent 0 0 0 set
      ∷ (Taken 0 message ∷ (Shown 0 (Called 0 set) ∷ (Answered 0 reply ∷ (Got 0 reply ∷ (look ∷ [])))))))
    where
      each_front : (n : ℕ) → P (take n es)
      unfolding older_events
      each_front zero = p0
      each_front (suc zero) = p1
      each_front (suc (suc zero)) = p2
      each_front (suc (suc (suc zero))) = p3
      each_front (suc (suc (suc (suc zero)))) = p4
      each_front (suc (suc (suc (suc (suc zero))))) = p5
      each_front (suc (suc (suc (suc (suc (suc n)))))) =
          subst (λ xs. P (Sent 0 0 0 set ∷ (Taken 0 message ∷ (Shown 0 (Called 0 set) ∷ (Answered 0 reply
          ∷ (Got 0 reply ∷ (look ∷ xs))))))) (sym (take_none n)) p6

  right_inbox : (n : ℕ) → HasInbox s 0 (take n es)
  right_inbox = each_front (HasInbox s 0)
      (inbox_there [] [] [] (λ k. refl) refl (λ k high. refl) tt)
      (inbox_there (Sent 0 0 0 set ∷ []) (message ∷ []) [] sent_one refl of_first ((lit< tt, tt), tt))
      (taken_there _ (λ k. refl) refl) (taken_there _ (λ k. refl) refl) (taken_there _ (λ k. refl) refl)
      (taken_there _ (λ k. refl) refl) (taken_there _ (λ k. refl) refl)

  right_queue : (n : ℕ) → HasReplies s 0 0 (take n es)
  right_queue = each_front (HasReplies s 0 0)
      (queue_there _ [] [] [] refl refl refl tt) (queue_there _ [] [] [] refl refl refl tt)
      (queue_there _ [] [] [] refl refl refl tt) (queue_there _ [] [] [] refl refl refl tt)
      (queue_there _ (reply ∷ []) [] (reply ∷ []) refl refl refl (refl, tt))
      (queue_there _ (reply ∷ []) (reply ∷ []) [] refl refl refl tt)
      (queue_there _ (reply ∷ []) (reply ∷ []) [] refl refl refl tt)

  right_links : (n i j : ℕ) → IsPrefix (brought_from i j (take n es)) (links.messages_to j (put_by i (take n es)))
  right_links n i j = each_front (λ fs. IsPrefix (brought_from i j fs) (links.messages_to j (put_by i fs)))
      ([], refl) ([], refl) ([], refl) ([], refl) ([], refl) ([], refl) ([], refl) n

  right_turns : HasTurns s 0 es
  unfolding older_events
  right_turns = record {
    turns = turn ∷ [];
    last = [];
    ended = [];
    all = refl;
    are = (inl turn_is, tt);
    begun = inl refl;
    may = inl refl;
  }

  right_seats : (n : ℕ) (e : Event) → slice_get es n ≡ Some e → IsAtFreeSeat (take n es) e
  unfolding older_events
  right_seats = each_place (λ n e. IsAtFreeSeat (take n es) e) refl tt tt tt tt refl

  right_senders : (m n : ℕ) (e f : Event)
      → slice_get es m ≡ Some e
      → slice_get es n ≡ Some f
      → HaveOneSender e f
  right_senders m n e f first second = each_place (λ k x. HaveOneSender x f)
      (each_place (λ k y. HaveOneSender (Sent 0 0 0 set) y) (λ a b. refl) tt tt tt tt tt n f second)
      (each_place (λ k y. HaveOneSender (Taken 0 message) y) tt tt tt tt tt tt n f second)
      (each_place (λ k y. HaveOneSender (Shown 0 (Called 0 set)) y) tt tt tt tt tt tt n f second)
      (each_place (λ k y. HaveOneSender (Answered 0 reply) y) tt tt tt tt tt tt n f second)
      (each_place (λ k y. HaveOneSender (Got 0 reply) y) tt tt tt tt tt tt n f second)
      (each_place (λ k y. HaveOneSender look y) tt tt tt tt tt tt n f second) m e first

  right_notices : (n : ℕ) (e : Event) → slice_get es n ≡ Some e → TellsOfStopped s (take n es) e
  right_notices = each_place (λ n e. TellsOfStopped s (take n es) e) tt tt tt tt tt tt

  right_inlets : (n : ℕ) (e : Event) → slice_get es n ≡ Some e → BringsNoCall e × IsOfChain s e
  right_inlets =
      each_place (λ n e. BringsNoCall e × IsOfChain s e) (tt, tt) (tt, tt) (tt, tt) (tt, tt) (tt, tt) (tt, tt)

  all_inboxes : (n i : ℕ) → i < 1 → HasInbox s i (take n es)
  all_inboxes n i within = subst (λ x. HasInbox s x (take n es)) (at_zero i within) (right_inbox n)

  all_queues : (n i p : ℕ) → i < 1 → p < 1 → HasReplies s i p (take n es)
  all_queues n i p within below = subst (λ x. HasReplies s x p (take n es)) (at_zero i within)
      (subst (λ q. HasReplies s 0 q (take n es)) (at_zero p below) (right_queue n))

  all_turns : (i : ℕ) → i < 1 → HasTurns s i es
  all_turns i within = subst (λ x. HasTurns s x es) (at_zero i within) right_turns

-- ---- a look at what stands

abbrev last : History
last = after_inputs 1 0 (Called 0 set ∷ [])

right_boards : (n : ℕ) (e : Event) → slice_get (es last) n ≡ Some e → ShowsWhatStands s (take n (es last)) e
unfolding older_events
right_boards = each_place last (λ n e. ShowsWhatStands s (take n (es last)) e) tt tt tt tt tt (refl, refl)

-- each object did what its contract says,
pub are_right : AreLocallyRight s (older_events ++ look_at_last ∷ [])
are_right = record {
  rules = record {
    inboxes = all_inboxes last;
    replies = all_queues last;
    links = right_links last;
    seats = right_seats last;
    boards = right_boards;
    notices = right_notices last;
    inlets = right_inlets last;
    senders = right_senders last;
  };
  turns = all_turns last;
}

-- of servers that were opened so,
pub is_opened : IsOpened s
is_opened = record {
  start = λ i within. refl;
  seated = λ i within. subst (λ x. 1 ≤ seats_at alone x) (at_zero i within) (lit≤ tt);
}

-- with events of these servers
pub are_of : AreOf s (older_events ++ look_at_last ∷ [])
unfolding older_events
are_of = (
  (lit< tt, lit< tt, set_asked),
  (
    lit< tt,
    (
      (lit< tt, (lit≤ tt, refl), tt),
      (
        (lit< tt, lit< tt),
        ((lit< tt, lit< tt), ((lit< tt, lit< tt, get_asked), tt)),
      ),
    ),
  ),
)

-- ---- a look at an older face

abbrev first : History
first = after_inputs 1 0 []

older_boards : (n : ℕ) (e : Event) → slice_get (es first) n ≡ Some e → ShowsAnyFace s (take n (es first)) e
unfolding older_events
older_boards = each_place first (λ n e. ShowsAnyFace s (take n (es first)) e) tt tt tt tt tt
    (record { instance = refl; inputs = (Called 0 set ∷ [], refl) }, refl)

-- all but the boards is right
pub older_is_right : AreRightWithoutBoards s (older_events ++ look_at_first 1 0 1 ∷ [])
older_is_right = record {
  inboxes = all_inboxes first;
  replies = all_queues first;
  links = right_links first;
  seats = right_seats first;
  boards = older_boards;
  notices = right_notices first;
  inlets = right_inlets first;
  senders = right_senders first;
  turns = all_turns first;
}
