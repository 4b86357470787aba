-- A worked history of two servers that is right object by object: a client of the head sets a key, the tail commits the
-- set, and a reader of the tail looks.
use Rattle.std.proofs.Common.{◌≡◌, ℕ, zero, suc, ◌<◌, ◌≤◌, Bool, true, false, cond, List, [], ◌∷◌, ◌++◌, take, Some}
use Rattle.std.proofs.Common.{refl, arith, ap, sym, ◌∙◌, subst, inl, inr, append_assoc, lit<, lit≤}
use Rattle.std.specs.Prelude.{◌==◌, ◌&&◌, slice_get}
use Rattle.std.specs.declared.result.Result.TheVariants.{Ok}
use Rattle.std.proofs.lemmas.List.{append-nil}
use Rattle.std.proofs.lemmas.Option.{same_Some}
use mathlib.Core.List.{IsPrefix}
use Rattle.versions.specs.Entries.{IsEntry}
use Rattle.node.specs.Joining.{widened, taken_all, sent_again, forwarded, replies_to, promoted_to_head}
use Rattle.node.specs.Joining.{promoted_to_tail, caught_up, acked_to_predecessor, asks_renewed}
use Rattle.node.specs.Numbering.{left_open, replies, risen, appended, passed_on, take_update, entered}
use Rattle.node.specs.Servers.{most}
use Rattle.node.specs.Steps.{trimmed}
use Rattle.node.specs.Views.{has, union, single, is_below, adds, next_from, predecessor}
use Rattle.node.specs.declared.messages.Input.{Input}
use Rattle.node.specs.declared.messages.Input.TheVariants.{Call as Called, From, Gone}
use Rattle.node.specs.declared.messages.Peer.{Peer}
use Rattle.rail.specs.declared.inbox_messages.InboxMessage.TheVariants.{Took, Stop, End}
use Rattle.rail.specs.declared.workers.Turn.TheVariants.{Went}
use Rattle.rail.specs.Links as links
use Rattle.rail.specs.NotedReplies.{NotedReply}
use Rattle.interleavings.specs.OwnPorts.{seats_at}
use Rattle.interleavings.specs.WorkedRuns.{set}
use Rattle.interleavings.proofs.examples.AskedCalls.{set_asked, get_asked}
use Rattle.local_histories.specs.Events.{Event, Sent, Brought, Taken, Shown, Put, Answered, HandedBack, Got, Looked}
use Rattle.local_histories.specs.Events.{Halted, Broke}
use Rattle.local_histories.specs.Objects.{OpenedChain, gathered, only_if, brings, all_messages_from, brought_from}
use Rattle.local_histories.specs.Objects.{takes}
use Rattle.local_histories.specs.Objects.{puts, put_by, answers, gets}
use Rattle.local_histories.specs.LocalRules.{IsOpened, AreOf, HasInbox, HasReplies, IsAtFreeSeat, ShowsWhatStands}
use Rattle.local_histories.specs.LocalRules.{TellsOfStopped, BringsNoCall, IsOfChain, HaveOneSender, AreLocallyRight}
use Rattle.local_histories.specs.Turns.{HasTurns, IsTurnAfter}
use Rattle.local_histories.specs.WorkedHistories.{opened, envelope, stored_by, forward, acknowledgement, head_and_tail}
use Rattle.local_histories.specs.WorkedHistories.{set_entry, set_events, look_at_tail}
use Rattle.local_histories.specs.WrongRules.{Rule, AllFollow}
use Rattle.local_histories.proofs.Checking.{Follows, follows_along, mails, keeps_inbox, keeps_queue}
use Rattle.local_histories.proofs.Inboxes.{all_messages_from-append}
use Rattle.local_histories.proofs.OneSender.{AllOf, brought_if}

abbrev pub s : OpenedChain
s = opened 2 head_and_tail

abbrev es : List Event
es = set_events ++ look_at_tail ∷ []

abbrev told : List Input
told = Called 0 set ∷ (From 1 acknowledgement ∷ [])

abbrev reply : NotedReply
reply = stored_by 2 0 told

-- ---- from lists to places

pub all_by : (rule : Rule) (before fs : List Event)
    → AllFollow rule s before fs
    → (n : ℕ) (e : Event)
    → slice_get fs n ≡ Some e
    → rule s (before ++ take n fs) e
all_by rule before [] f n e h = absurd cc
all_by rule before (x ∷ xs) f zero e h =
    subst (λ y. rule s (before ++ []) y) (same_Some x e h)
    (subst (λ gs. rule s gs x) (sym (append-nil before)) f.0)
all_by rule before (x ∷ xs) f (suc n) e h =
    subst (λ gs. rule s gs e) (append_assoc before (x ∷ []) (take n xs))
    (all_by rule (before ++ x ∷ []) xs f.1 n e h)

pub get_of : (P : Event → Type 0) (fs : List Event) (n : ℕ) (e : Event) → AllOf P fs → slice_get fs n ≡ Some e → P e
get_of P [] n e f h = absurd cc
get_of P (x ∷ xs) zero e f h = subst P (same_Some x e h) f.0
get_of P (x ∷ xs) (suc n) e f h = get_of P xs n e f.1 h

-- ---- links

links_both : (j : ℕ) (xs ys : List (ℕ × Peer))
    → links.messages_to j (xs ++ ys) ≡ links.messages_to j xs ++ links.messages_to j ys
links_both j [] ys = refl
links_both j (x ∷ xs) ys = by (x.0 == j) (links_both j xs ys)
  where
    by : (b : Bool) → links.messages_to j (xs ++ ys) ≡ links.messages_to j xs ++ links.messages_to j ys
        → cond b (x.1 ∷ links.messages_to j (xs ++ ys)) (links.messages_to j (xs ++ ys))
        ≡ cond b (x.1 ∷ links.messages_to j xs) (links.messages_to j xs) ++ links.messages_to j ys
    by true f = ap (λ ms. x.1 ∷ ms) f
    by false f = f

-- what an event puts on the link from i to j, and what it brings out of it
abbrev pub goes_in : ℕ → ℕ → Event → List Peer
goes_in i j e = links.messages_to j (puts i e)

abbrev pub comes_out : ℕ → ℕ → Event → List Peer
comes_out i j e = all_messages_from i (brings j e)

pub all_in : (i j : ℕ) (fs : List Event) → gathered (goes_in i j) fs ≡ links.messages_to j (put_by i fs)
all_in i j [] = refl
all_in i j (e ∷ fs) = ap (λ ms. goes_in i j e ++ ms) (all_in i j fs) ∙ sym (links_both j (puts i e) (put_by i fs))

pub all_out : (i j : ℕ) (fs : List Event) → gathered (comes_out i j) fs ≡ brought_from i j fs
all_out i j [] = refl
all_out i j (e ∷ fs) = ap (λ ms. comes_out i j e ++ ms) (all_out i j fs)
    ∙ sym (all_messages_from-append i (brings j e) (gathered (brings j) fs))

and_swapped : (a b : Bool) → (a && b) ≡ (b && a)
and_swapped true true = refl
and_swapped true false = refl
and_swapped false true = refl
and_swapped false false = refl

put_if : (b : Bool) (j to : ℕ) (peer : Peer) → links.messages_to j (only_if b (to, peer)) ≡ only_if (b && to == j) peer
put_if true j to peer = refl
put_if false j to peer = refl

-- a message that is put comes out
same_out : (i j from to : ℕ) (peer : Peer)
    → links.messages_to j (only_if (from == i) (to, peer)) ++ []
    ≡ all_messages_from i (cond (to == j) (From from peer ∷ []) []) ++ []
same_out i j from to peer = ap (λ ms. ms ++ []) (put_if (from == i) j to peer
    ∙ ap (λ b. only_if b peer) (and_swapped (from == i) (to == j)) ∙ sym (brought_if (to == j) i from peer))

along : (i j : ℕ) → Follows (goes_in i j) (comes_out i j) [] es
unfolding set_events
along i j = (
  [],
  refl,
  (
    [],
    refl,
    (
      [],
      refl,
      (
        links.messages_to j (only_if (0 == i) (1, forward 0)),
        refl,
        (
          [],
          same_out i j 0 1 (forward 0),
          (
            [],
            refl,
            (
              [],
              refl,
              (
                links.messages_to j (only_if (1 == i) (0, acknowledgement)),
                refl,
                (
                  [],
                  same_out i j 1 0 acknowledgement,
                  ([], refl, ([], refl, ([], refl, ([], refl, ([], refl, tt))))),
                ),
              ),
            ),
          ),
        ),
      ),
    ),
  ),
)

right_links : (n i j : ℕ) → IsPrefix (brought_from i j (take n es)) (links.messages_to j (put_by i (take n es)))
right_links n i j =
    let f = follows_along (goes_in i j) (comes_out i j) [] es n (along i j) in
    (f.0, ap (λ ms. ms ++ f.0) (sym (all_out i j (take n es))) ∙ sym f.1 ∙ all_in i j (take n es))

-- ---- inboxes and queues

mails_head : Follows (mails 0) (takes 0) [] es
unfolding set_events
mails_head = (
  envelope 0 (Called 0 set) ∷ [],
  refl,
  (
    [],
    refl,
    (
      [],
      refl,
      (
        [],
        refl,
        (
          [],
          refl,
          (
            [],
            refl,
            (
              [],
              refl,
              (
                [],
                refl,
                (
                  envelope 1 (From 1 acknowledgement) ∷ [],
                  refl,
                  (
                    [],
                    refl,
                    (
                      [],
                      refl,
                      (
                        [],
                        refl,
                        (
                          [],
                          refl,
                          ([], refl, tt),
                        ),
                      ),
                    ),
                  ),
                ),
              ),
            ),
          ),
        ),
      ),
    ),
  ),
)

mails_tail : Follows (mails 1) (takes 1) [] es
unfolding set_events
mails_tail = (
  [],
  refl,
  (
    [],
    refl,
    (
      [],
      refl,
      (
        [],
        refl,
        (
          envelope 1 (From 0 (forward 0)) ∷ [],
          refl,
          (
            [],
            refl,
            (
              [],
              refl,
              ([], refl, ([], refl, ([], refl, ([], refl, ([], refl, ([], refl, ([], refl, tt))))))),
            ),
          ),
        ),
      ),
    ),
  ),
)

right_head : (n : ℕ) → HasInbox s 0 (take n es)
unfolding set_events
right_head = keeps_inbox s 0 es mails_head (lit< tt, (lit< tt, tt)) ((lit< tt, tt), (tt, tt))

right_tail : (n : ℕ) → HasInbox s 1 (take n es)
unfolding set_events
right_tail = keeps_inbox s 1 es mails_tail (lit< tt, tt) (tt, tt)

right_inbox : (n i : ℕ) → i < 2 → HasInbox s i (take n es)
right_inbox n zero within = right_head n
right_inbox n (suc zero) within = right_tail n
right_inbox n (suc (suc i)) within = absurd (omega (arith, within))

replies_head : Follows (answers 0 0) (gets 0 0) [] es
unfolding set_events
replies_head = (
  [],
  refl,
  (
    [],
    refl,
    (
      [],
      refl,
      (
        [],
        refl,
        (
          [],
          refl,
          (
            [],
            refl,
            (
              [],
              refl,
              (
                [],
                refl,
                (
                  [],
                  refl,
                  (
                    [],
                    refl,
                    ([], refl, (reply ∷ [], refl, ([], refl, ([], refl, tt)))),
                  ),
                ),
              ),
            ),
          ),
        ),
      ),
    ),
  ),
)

replies_tail : Follows (answers 1 0) (gets 1 0) [] es
unfolding set_events
replies_tail = (
  [],
  refl,
  (
    [],
    refl,
    (
      [],
      refl,
      (
        [],
        refl,
        (
          [],
          refl,
          (
            [],
            refl,
            (
              [],
              refl,
              (
                [],
                refl,
                (
                  [],
                  refl,
                  (
                    [],
                    refl,
                    ([], refl, ([], refl, ([], refl, ([], refl, tt)))),
                  ),
                ),
              ),
            ),
          ),
        ),
      ),
    ),
  ),
)

head_queue : (n : ℕ) → HasReplies s 0 0 (take n es)
unfolding set_events
head_queue = keeps_queue s 0 0 es replies_head (refl, tt)

tail_queue : (n : ℕ) → HasReplies s 1 0 (take n es)
unfolding set_events
tail_queue = keeps_queue s 1 0 es replies_tail tt

right_queue : (n i p : ℕ) → i < 2 → p < 1 → HasReplies s i p (take n es)
right_queue n zero zero within below = head_queue n
right_queue n (suc zero) zero within below = tail_queue n
right_queue n (suc (suc i)) p within below = absurd (omega (arith, within))
right_queue n zero (suc p) within below = absurd (omega (arith, below))
right_queue n (suc zero) (suc p) within below = absurd (omega (arith, below))

-- ---- at each event

right_seats : AllFollow (λ x. IsAtFreeSeat) s [] es
unfolding set_events
right_seats = (refl, (tt, (tt, (tt, (tt, (tt, (tt, (tt, (tt, (tt, (tt, (tt, (tt, (refl, tt))))))))))))))

right_boards : AllFollow ShowsWhatStands s [] es
unfolding set_events
right_boards = (tt, (tt, (tt, (tt, (tt, (tt, (tt, (tt, (tt, (tt, (tt, (tt, (tt, ((refl, refl), tt))))))))))))))

right_notices : AllFollow TellsOfStopped s [] es
unfolding set_events
right_notices = (tt, (tt, (tt, (tt, (tt, (tt, (tt, (tt, (tt, (tt, (tt, (tt, (tt, (tt, tt))))))))))))))

right_inlets : AllFollow (λ x before e. BringsNoCall e × IsOfChain x e) s [] es
unfolding set_events
right_inlets = (
  (tt, tt),
  (
    (tt, tt),
    (
      (tt, tt),
      (
        (tt, tt),
        (
          (tt, lit< tt),
          (
            (tt, tt),
            (
              (tt, tt),
              (
                (tt, tt),
                (
                  (tt, lit< tt),
                  ((tt, tt), ((tt, tt), ((tt, tt), ((tt, tt), ((tt, tt), tt))))),
                ),
              ),
            ),
          ),
        ),
      ),
    ),
  ),
)

-- calls are sent by sender 0, and messages brought by inlet 1
abbrev pub IsNumbered : Event → Type 0
IsNumbered (Sent i k port call) = k ≡ 0
IsNumbered (Brought i k message) = k ≡ 1
IsNumbered e = Unit {0}

pub numbered : AllOf IsNumbered es
unfolding set_events
numbered = (refl, (tt, (tt, (tt, (refl, (tt, (tt, (tt, (refl, (tt, (tt, (tt, (tt, (tt, tt))))))))))))))

pub one_sender : (e f : Event) → IsNumbered e → IsNumbered f → HaveOneSender e f
one_sender (Sent i k p x) (Sent h m q y) a b = λ u v. a ∙ sym b
one_sender (Brought i k (Took (From c x))) (Brought h m (Took (From d y))) a b = λ u v. a ∙ sym b
one_sender (Sent i k p x) (Brought h m y) a b = tt
one_sender (Sent i k p x) (Taken h y) a b = tt
one_sender (Sent i k p x) (Shown h y) a b = tt
one_sender (Sent i k p x) (Put h j y) a b = tt
one_sender (Sent i k p x) (Answered h y) a b = tt
one_sender (Sent i k p x) (HandedBack h y) a b = tt
one_sender (Sent i k p x) (Got h y) a b = tt
one_sender (Sent i k p x) (Looked h q y z) a b = tt
one_sender (Sent i k p x) (Halted h) a b = tt
one_sender (Sent i k p x) (Broke h j) a b = tt
one_sender (Brought i k (Took (From c x))) (Brought h m (Took (Called q y))) a b = tt
one_sender (Brought i k (Took (From c x))) (Brought h m (Took (Gone j))) a b = tt
one_sender (Brought i k (Took (From c x))) (Brought h m Stop) a b = tt
one_sender (Brought i k (Took (From c x))) (Brought h m End) a b = tt
one_sender (Brought i k (Took (From c x))) (Sent h m q y) a b = tt
one_sender (Brought i k (Took (From c x))) (Taken h y) a b = tt
one_sender (Brought i k (Took (From c x))) (Shown h y) a b = tt
one_sender (Brought i k (Took (From c x))) (Put h j y) a b = tt
one_sender (Brought i k (Took (From c x))) (Answered h y) a b = tt
one_sender (Brought i k (Took (From c x))) (HandedBack h y) a b = tt
one_sender (Brought i k (Took (From c x))) (Got h y) a b = tt
one_sender (Brought i k (Took (From c x))) (Looked h q y z) a b = tt
one_sender (Brought i k (Took (From c x))) (Halted h) a b = tt
one_sender (Brought i k (Took (From c x))) (Broke h j) a b = tt
one_sender (Brought i k (Took (Called q y))) f a b = tt
one_sender (Brought i k (Took (Gone j))) f a b = tt
one_sender (Brought i k Stop) f a b = tt
one_sender (Brought i k End) f a b = tt
one_sender (Taken h y) f a b = tt
one_sender (Shown h y) f a b = tt
one_sender (Put h j y) f a b = tt
one_sender (Answered h y) f a b = tt
one_sender (HandedBack h y) f a b = tt
one_sender (Got h y) f a b = tt
one_sender (Looked h q y z) f a b = tt
one_sender (Halted h) f a b = tt
one_sender (Broke h j) f a b = tt

-- ---- turns

abbrev takes_set : List Event
takes_set = Taken 0 (envelope 0 (Called 0 set)) ∷ (Shown 0 (Called 0 set) ∷ (Put 0 1 (forward 0) ∷ []))

abbrev takes_forward : List Event
takes_forward =
    Taken 1 (envelope 1 (From 0 (forward 0))) ∷ (Shown 1 (From 0 (forward 0)) ∷ (Put 1 0 acknowledgement ∷ []))

abbrev takes_acknowledgement : List Event
takes_acknowledgement =
    Taken 0 (envelope 1 (From 1 acknowledgement)) ∷ (Shown 0 (From 1 acknowledgement) ∷ (Answered 0 reply ∷ []))

first_turn : IsTurnAfter s 0 [] takes_set
unfolding has union single is_below adds next_from predecessor most appended entered widened taken_all sent_again
    forwarded replies_to trimmed left_open replies risen passed_on take_update promoted_to_head promoted_to_tail
    caught_up acked_to_predecessor asks_renewed
first_turn = record {
  own = (refl, (refl, (refl, tt)));
  in_order = tt;
  result = Ok Went;
  is = record {
    message = envelope 0 (Called 0 set);
    taken = refl;
    did = (
      Called 0 set,
      refl,
      record {
        going = refl;
        still = refl;
        published = refl;
        messages = record {
          put = (1, forward 0) ∷ [];
          list = refl;
          order = inr ([], refl, refl);
          beginning = λ j. ([], sym (append-nil (links.messages_to j ((1, forward 0) ∷ []))));
          whole = λ j up. refl;
          down = λ j down. absurd (omega (arith, down));
        };
        replies = (record { address = refl; more = []; put = refl; left = refl; gone = λ g. g }, refl);
        seated = tt;
      },
    );
  };
}

tail_turn : IsTurnAfter s 1 [] takes_forward
unfolding has union single is_below adds next_from predecessor most appended entered widened taken_all sent_again
    forwarded replies_to trimmed left_open replies risen passed_on take_update promoted_to_head promoted_to_tail
    caught_up acked_to_predecessor asks_renewed
tail_turn = record {
  own = (refl, (refl, (refl, tt)));
  in_order = tt;
  result = Ok Went;
  is = record {
    message = envelope 1 (From 0 (forward 0));
    taken = refl;
    did = (
      From 0 (forward 0),
      refl,
      record {
        going = refl;
        still = refl;
        published = refl;
        messages = record {
          put = (0, acknowledgement) ∷ [];
          list = refl;
          order = inr ([], refl, refl);
          beginning = λ j. ([], sym (append-nil (links.messages_to j ((0, acknowledgement) ∷ []))));
          whole = λ j up. refl;
          down = λ j down. absurd (omega (arith, down));
        };
        replies = (record { address = refl; more = []; put = refl; left = refl; gone = λ g. g }, refl);
        seated = tt;
      },
    );
  };
}

second_turn : IsTurnAfter s 0 takes_set takes_acknowledgement
unfolding has union single is_below adds next_from predecessor most appended entered widened taken_all sent_again
    forwarded replies_to trimmed left_open replies risen passed_on take_update promoted_to_head promoted_to_tail
    caught_up acked_to_predecessor asks_renewed
second_turn = record {
  own = (refl, (refl, (refl, tt)));
  in_order = tt;
  result = Ok Went;
  is = record {
    message = envelope 1 (From 1 acknowledgement);
    taken = refl;
    did = (
      From 1 acknowledgement,
      refl,
      record {
        going = refl;
        still = refl;
        published = refl;
        messages = record {
          put = [];
          list = refl;
          order = refl;
          beginning = λ j. ([], refl);
          whole = λ j up. refl;
          down = λ j down. refl;
        };
        replies = (
          record { address = refl; more = reply ∷ []; put = refl; left = inr ([], refl, refl); gone = λ g. g },
          refl,
        );
        seated = (lit< tt, tt);
      },
    );
  };
}

head_turns : HasTurns s 0 es
unfolding set_events
head_turns = record {
  turns = takes_set ∷ (takes_acknowledgement ∷ []);
  last = [];
  ended = [];
  all = refl;
  are = (inl first_turn, (inl second_turn, tt));
  begun = inl refl;
  may = inl refl;
}

tail_turns : HasTurns s 1 es
unfolding set_events
tail_turns = record {
  turns = takes_forward ∷ [];
  last = [];
  ended = [];
  all = refl;
  are = (inl tail_turn, tt);
  begun = inl refl;
  may = inl refl;
}

right_turns : (i : ℕ) → i < 2 → HasTurns s i es
right_turns zero within = head_turns
right_turns (suc zero) within = tail_turns
right_turns (suc (suc i)) within = absurd (omega (arith, within))

-- ---- all of it

pub pair_is_right : AreLocallyRight s es
pair_is_right = record {
  rules = record {
    inboxes = right_inbox;
    replies = right_queue;
    links = right_links;
    seats = all_by (λ x. IsAtFreeSeat) [] es right_seats;
    boards = all_by ShowsWhatStands [] es right_boards;
    notices = all_by TellsOfStopped [] es right_notices;
    inlets = all_by (λ x before e. BringsNoCall e × IsOfChain x e) [] es right_inlets;
    senders = λ m n e f here there. one_sender e f (get_of IsNumbered es m e numbered here)
        (get_of IsNumbered es n f numbered there);
  };
  turns = right_turns;
}

seated_at : (i : ℕ) → i < 2 → 1 ≤ seats_at head_and_tail i
seated_at zero within = lit≤ tt
seated_at (suc zero) within = lit≤ tt
seated_at (suc (suc i)) within = absurd (omega (arith, within))

pub pair_is_opened : IsOpened s
pair_is_opened = record { start = λ i within. refl; seated = seated_at }

entry_is : IsEntry (set_entry 0)
entry_is = record {
  numbered = lit≤ tt;
  served = lit< tt;
  called = lit≤ tt;
  answered = refl;
  put = (refl, lit≤ tt);
  cleared = refl;
  flushed = refl;
}

pub pair_of : AreOf s es
unfolding set_events
pair_of = (
  (lit< tt, lit< tt, set_asked),
  (
    lit< tt,
    (
      (lit< tt, (lit≤ tt, refl), tt),
      (
        lit< tt,
        (
          lit< tt,
          (
            lit< tt,
            (
              (lit< tt, tt, entry_is),
              (
                lit< tt,
                (
                  lit< tt,
                  (
                    lit< tt,
                    (
                      (lit< tt, tt, tt),
                      (
                        (lit< tt, lit< tt),
                        ((lit< tt, lit< tt), ((lit< tt, lit< tt, get_asked), tt)),
                      ),
                    ),
                  ),
                ),
              ),
            ),
          ),
        ),
      ),
    ),
  ),
)
