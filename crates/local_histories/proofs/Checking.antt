-- Histories that are written out: each inbox, queue and link keeps its rule at every beginning, if what is taken is
-- always what stands first.
use Rattle.std.proofs.Common.{◌≡◌, ℕ, zero, suc, ◌<◌, ◌≤◌, Bool, true, false, cond, List, [], ◌∷◌, ◌++◌, take}
use Rattle.std.proofs.Common.{refl, arith, ap, sym, ◌∙◌, subst, inl, inr, ◌⊎◌, append_assoc, eq-eqb, true≢false}
use Rattle.std.specs.Prelude.{◌==◌, ◌&&◌}
use Rattle.std.proofs.lemmas.Bool.{cases_eq, ne_eqb}
use Rattle.std.proofs.lemmas.List.{append-nil}
use mathlib.Core.Option.{Option, some, none, some-injective, some-ne-none}
use mathlib.Core.List.{IsPrefix}
use lib.ListN.{get_elem?}
use Rattle.node.specs.declared.messages.Input.TheVariants.{Call as Called}
use Rattle.rail.specs.declared.inbox_messages.Envelope.{Envelope}
use Rattle.rail.specs.declared.inbox_messages.InboxMessage.{InboxMessage}
use Rattle.rail.specs.declared.inbox_messages.InboxMessage.TheVariants.{Took}
use Rattle.rail.specs.declared.inbox.InboxKnowledge.{InboxKnowledge}
use Rattle.rail.specs.declared.reply_channels.ReplyKnowledge.{ReplyKnowledge}
use Rattle.rail.specs.Inbox as inboxes
use Rattle.rail.specs.InboxMessages.{AreBelow}
use Rattle.rail.specs.NotedReplies.{Address, NotedReply}
use Rattle.rail.specs.ReplyMessages as queues
use Rattle.local_histories.specs.Events.{Event, Sent, Brought, Taken, Shown, Put, Answered, HandedBack, Got, Looked}
use Rattle.local_histories.specs.Events.{Halted, Broke}
use Rattle.local_histories.specs.Objects.{OpenedChain, gathered, only_if, sends, sent_by, takes, taken_by, answers}
use Rattle.local_histories.specs.Objects.{answered_at, gets, got_at, address_at}
use Rattle.local_histories.specs.LocalRules.{HasInbox, HasReplies}
use Rattle.local_histories.proofs.Inboxes.{of_both}

-- ---- one list that grows at its end, and one that takes from its front

-- what the first adds, and the second takes, event by event: what is taken stands first
abbrev pub Follows : {X : Type 0} → (Event → List X) → (Event → List X) → List X → List Event → Type 0
Follows adds drops waiting [] = Unit {0}
Follows {X} adds drops waiting (e ∷ es) =
    (rest : List X) × (waiting ++ adds e ≡ drops e ++ rest) × Follows adds drops rest es

-- so at each beginning what was added is what was taken, and then what waits
pub follows_along : {X : Type 0} (adds drops : Event → List X) (waiting : List X) (es : List Event) (n : ℕ)
    → Follows adds drops waiting es
    → (rest : List X) × (waiting ++ gathered adds (take n es) ≡ gathered drops (take n es) ++ rest)
follows_along adds drops waiting [] zero f = (waiting, append-nil waiting)
follows_along adds drops waiting [] (suc n) f = (waiting, append-nil waiting)
follows_along adds drops waiting (e ∷ es) zero f = (waiting, append-nil waiting)
follows_along adds drops waiting (e ∷ es) (suc n) f =
    let more = follows_along adds drops f.0 es n f.2 in (
      more.0,
      sym (append_assoc waiting (adds e) (gathered adds (take n es)))
          ∙ ap (λ xs. xs ++ gathered adds (take n es)) f.1
          ∙ append_assoc (drops e) f.0 (gathered adds (take n es))
          ∙ ap (λ xs. drops e ++ xs) more.1
          ∙ sym (append_assoc (drops e) (gathered drops (take n es)) more.0),
    )

-- ---- inboxes

-- the envelope that is sent to server i
abbrev pub mails : ℕ → Event → List Envelope
mails i (Sent h k port call) = only_if (h == i) (record { from = k; inbox_message = Took (Called port call) })
mails i (Brought h k message) = only_if (h == i) (record { from = k; inbox_message = message })
mails i e = []

either_way : (a b : ℕ) → (a == b) ≡ (b == a)
either_way a b = elim (cases_eq a b) [
  | inl same ↦ eq-eqb a b same ∙ sym (eq-eqb b a (sym same))
  | inr other ↦ ne_eqb a b other ∙ sym (ne_eqb b a (λ f. other (sym f)))
]

mailed : (b : Bool) (k m : ℕ) (x : InboxMessage)
    → only_if (b && m == k) x ≡ inboxes.of k (only_if b (record { from = m; inbox_message = x }))
mailed true k m x = ap (λ c. only_if c x) (either_way m k)
mailed false k m x = refl

sent_is_mailed : (i k : ℕ) (es : List Event) → sent_by i k es ≡ inboxes.of k (gathered (mails i) es)
sent_is_mailed i k [] = refl
sent_is_mailed i k (e ∷ es) =
    ap (λ xs. xs ++ sent_by i k es) (by e) ∙ ap (λ xs. inboxes.of k (mails i e) ++ xs) (sent_is_mailed i k es)
    ∙ sym (of_both k (mails i e) (gathered (mails i) es))
  where
    by : (f : Event) → sends i k f ≡ inboxes.of k (mails i f)
    by (Sent h m port call) = mailed (h == i) k m (Took (Called port call))
    by (Brought h m message) = mailed (h == i) k m message
    by (Taken h envelope) = refl
    by (Shown h x) = refl
    by (Put h j peer) = refl
    by (Answered h reply) = refl
    by (HandedBack h port) = refl
    by (Got h reply) = refl
    by (Looked h q key stood) = refl
    by (Halted h) = refl
    by (Broke h j) = refl

-- two senders, of which the first has one port
abbrev pub AreOfTwo : List Envelope → Type 0
AreOfTwo [] = Unit {0}
AreOfTwo (m ∷ ms) = (m.from < 2) × AreOfTwo ms

of_two : (k : ℕ) (ms : List Envelope) → 2 ≤ k → AreOfTwo ms → inboxes.of k ms ≡ []
of_two k [] high two = refl
of_two k (m ∷ ms) high two =
    let low = two.0 in
    ap (λ b. cond b (m.inbox_message ∷ inboxes.of k ms) (inboxes.of k ms))
    (ne_eqb k m.from (λ f. omega (arith, f, high, low)))
    ∙ of_two k ms high two.1

two_front : (xs ys : List Envelope) → AreOfTwo (xs ++ ys) → AreOfTwo xs
two_front [] ys h = tt
two_front (x ∷ xs) ys h = (h.0, two_front xs ys h.1)

below_back : (xs ys : List Envelope) → AreBelow 1 (xs ++ ys) → AreBelow 1 ys
below_back [] ys h = h
below_back (x ∷ xs) ys h = below_back xs ys h.1

below_front : (xs ys : List Envelope) → AreBelow 1 (xs ++ ys) → AreBelow 1 xs
below_front [] ys h = tt
below_front (x ∷ xs) ys h = (h.0, below_front xs ys h.1)

gathered_front : {X : Type 0} (adds : Event → List X) (es : List Event) (n : ℕ)
    → IsPrefix (gathered adds (take n es)) (gathered adds es)
gathered_front adds [] zero = ([], refl)
gathered_front adds [] (suc n) = ([], refl)
gathered_front adds (e ∷ es) zero = (gathered adds (e ∷ es), refl)
gathered_front adds (e ∷ es) (suc n) =
    let more = gathered_front adds es n in
    (more.0, append_assoc (adds e) (gathered adds (take n es)) more.0 ∙ ap (λ xs. adds e ++ xs) more.1)

module _ (s : OpenedChain) (i : ℕ) (es : List Event) (follows : Follows (mails i) (takes i) [] es)
    (two : AreOfTwo (gathered (mails i) es)) (below : AreBelow 1 (gathered (mails i) es)) (n : ℕ) where
  abbrev fs : List Event
  fs = take n es

  waits : (rest : List Envelope) × (gathered (mails i) fs ≡ taken_by i fs ++ rest)
  waits = follows_along (mails i) (takes i) [] es n follows

  two_here : AreOfTwo (gathered (mails i) fs)
  two_here =
      let front = gathered_front (mails i) es n in
      two_front (gathered (mails i) fs) front.0 (subst AreOfTwo (sym front.1) two)

  below_here : AreBelow 1 (gathered (mails i) fs)
  below_here =
      let front = gathered_front (mails i) es n in
      below_front (gathered (mails i) fs) front.0 (subst (AreBelow 1) (sym front.1) below)

  abbrev views : List InboxKnowledge
  views = inboxes.taker 2 1 (taken_by i fs) ∷ (inboxes.sender 0 1 (sent_by i 0 fs)
      ∷ (inboxes.sender 1 1 (sent_by i 1 fs) ∷ []))

  abbrev seat : ℕ → Option ℕ
  seat k = cond (k == 0) (some 1) (cond (k == 1) (some 2) none)

  unsent : (k : ℕ) → 2 ≤ k → sent_by i k fs ≡ []
  unsent k high = sent_is_mailed i k fs ∙ of_two k (gathered (mails i) fs) high two_here

  each_fits : (pass : ℕ) (v : InboxKnowledge)
      → get_elem? views pass ≡ some v
      → inboxes.Fits 0 seat (λ k. sent_by i k fs) (taken_by i fs) 1 pass v
  each_fits zero v e =
      subst (λ x. inboxes.Fits 0 seat (λ k. sent_by i k fs) (taken_by i fs) 1 0 x)
      (some-injective (inboxes.taker 2 1 (taken_by i fs)) v e) (
        (λ z. absurd (true≢false (sym z))),
        λ z. (
          refl,
          refl,
          refl,
          λ k high. (
            ap (λ b. cond b (some 1) (cond (k == 1) (some 2) none)) (ne_eqb k 0 (λ f. omega (arith, f, high)))
                ∙ ap (λ b. cond b (some 2) none) (ne_eqb k 1 (λ f. omega (arith, f, high))),
            unsent k high,
          ),
        ),
      )
  each_fits (suc zero) v e =
      subst (λ x. inboxes.Fits 0 seat (λ k. sent_by i k fs) (taken_by i fs) 1 1 x)
      (some-injective (inboxes.sender 0 1 (sent_by i 0 fs)) v e)
      ((λ z. (refl, refl, omega arith)), λ z. absurd (true≢false (sym z)))
  each_fits (suc (suc zero)) v e =
      subst (λ x. inboxes.Fits 0 seat (λ k. sent_by i k fs) (taken_by i fs) 1 2 x)
      (some-injective (inboxes.sender 1 1 (sent_by i 1 fs)) v e)
      ((λ z. (refl, refl, omega arith)), λ z. absurd (true≢false (sym z)))
  each_fits (suc (suc (suc pass))) v e = absurd (some-ne-none v (sym e))

  sender_of : (k : ℕ) → k < 2
      → (pass : ℕ) × (own : ℕ) × (get_elem? views pass ≡ some (inboxes.sender k own (sent_by i k fs)))
  sender_of zero low = (1, 1, refl)
  sender_of (suc zero) low = (2, 1, refl)
  sender_of (suc (suc k)) low = absurd (omega (arith, low))

  pub keeps_inbox : HasInbox s i fs
  keeps_inbox = record {
    items = waits.0;
    views = views;
    rule = record {
      reader = 0;
      seat = seat;
      sent = λ k. sent_by i k fs;
      got = taken_by i fs;
      ports = 1;
      order = λ k. sym (sent_is_mailed i k fs ∙ ap (inboxes.of k) waits.1);
      below = below_back (taken_by i fs) waits.0 (subst (AreBelow 1) waits.1 below_here);
      each = each_fits;
    };
    made = 2;
    ports = 1;
    receiver = 0;
    takes = refl;
    sends = sender_of;
    others = unsent;
  }

-- ---- queues

all_back : (a : Address) (xs ys : List NotedReply) → queues.AllAt a (xs ++ ys) → queues.AllAt a ys
all_back a [] ys h = h
all_back a (x ∷ xs) ys h = all_back a xs ys h.1

all_front : (a : Address) (xs ys : List NotedReply) → queues.AllAt a (xs ++ ys) → queues.AllAt a xs
all_front a [] ys h = tt
all_front a (x ∷ xs) ys h = (h.0, all_front a xs ys h.1)

module _ (s : OpenedChain) (i p : ℕ) (es : List Event) (follows : Follows (answers i p) (gets i p) [] es)
    (all : queues.AllAt (address_at s i p) (answered_at i p es)) (n : ℕ) where
  abbrev gs : List Event
  gs = take n es

  held : (rest : List NotedReply) × (answered_at i p gs ≡ got_at i p gs ++ rest)
  held = follows_along (answers i p) (gets i p) [] es n follows

  all_here : queues.AllAt (address_at s i p) (answered_at i p gs)
  all_here =
      let front = gathered_front (answers i p) es n in
      all_front (address_at s i p) (answered_at i p gs) front.0
      (subst (queues.AllAt (address_at s i p)) (sym front.1) all)

  abbrev passes : List ReplyKnowledge
  passes = queues.putter (address_at s i p) (answered_at i p gs)
      ∷ (queues.taker (address_at s i p) (got_at i p gs) ∷ [])

  each_pass : (pass : ℕ) (v : ReplyKnowledge)
      → get_elem? passes pass ≡ some v
      → ((v ≡ queues.putter (address_at s i p) (answered_at i p gs)) × (pass ≡ 0))
      ⊎ ((v ≡ queues.taker (address_at s i p) (got_at i p gs)) × (pass ≡ 1))
  each_pass zero v e = inl (sym (some-injective (queues.putter (address_at s i p) (answered_at i p gs)) v e), refl)
  each_pass (suc zero) v e = inr (sym (some-injective (queues.taker (address_at s i p) (got_at i p gs)) v e), refl)
  each_pass (suc (suc pass)) v e = absurd (some-ne-none v (sym e))

  pub keeps_queue : HasReplies s i p gs
  keeps_queue = record {
    items = held.0;
    views = passes;
    rule = inr (record {
      address = address_at s i p;
      put = answered_at i p gs;
      taken = got_at i p gs;
      sender = 0;
      receiver = 1;
      order = sym held.1;
      all = all_back (address_at s i p) (got_at i p gs) held.0
          (subst (queues.AllAt (address_at s i p)) held.1 all_here);
      each = each_pass;
    });
    sender = 0;
    receiver = 1;
    puts = refl;
    takes = refl;
  }
