-- Events that are right object by object may follow one another.
use Rattle.std.proofs.Common.{◌≡◌, ℕ, suc, ◌<◌, true, false, List, [], ◌∷◌, ◌++◌, Some, refl, ap, sym, ◌∙◌}
use Rattle.std.proofs.Common.{subst, inl, inr, append_assoc, eq-eqb}
use Rattle.std.specs.Prelude.{◌==◌, ◌&&◌, not, slice_get, take}
use Rattle.std.proofs.lemmas.Bool.{eqb-true, and_parts, lt-ltb, cases_Bool, both_ways}
use mathlib.Core.List.{IsPrefix}
use Rattle.table.specs.declared.operations.Call.{Call}
use Rattle.node.specs.declared.messages.Input.{Input}
use Rattle.node.specs.declared.messages.Input.TheVariants.{Call as Called, From, Gone}
use Rattle.node.specs.declared.messages.Peer.{Peer}
use Rattle.rail.specs.declared.inbox_messages.Envelope.{Envelope}
use Rattle.rail.specs.declared.inbox_messages.InboxMessage.{InboxMessage}
use Rattle.rail.specs.declared.inbox_messages.InboxMessage.TheVariants.{Took, Stop, End}
use Rattle.rail.specs.Inbox.{of}
use Rattle.rail.specs.Links as links
use Rattle.rail.specs.NotedReplies.{NotedReply}
use Rattle.rail.proofs.Beginnings.{taken_from}
use Rattle.interleavings.specs.Chains.{calls_from}
use Rattle.interleavings.proofs.lists.Joined.{calls_from-append}
use Rattle.local_histories.specs.Events.{Event, Sent, Brought, Taken, Shown, Put, Answered, HandedBack, Got, Looked}
use Rattle.local_histories.specs.Events.{Halted, Broke}
use Rattle.local_histories.specs.Objects.{OpenedChain, only_if, sends, sent_by, sent_from, all_messages_from}
use Rattle.local_histories.specs.Objects.{brought_from, takes, taken_by, has_halted, answers, answered_at, gets, got_at}
use Rattle.local_histories.specs.Objects.{goes_on, put_by, address_at}
use Rattle.local_histories.specs.LocalRules.{AreOf, HasInbox, AllBy, KeepRules, BringsNoCall}
use Rattle.local_histories.specs.LocalRules.{HasReplies, TellsOfStopped}
use Rattle.local_histories.specs.Standing.{given_to, replies_in}
use Rattle.local_histories.specs.Following.{GoesOnWith, IsNextMessage, EachMayFollow, IsWorkerStep}
use Rattle.local_histories.proofs.Gathering.{gathered_more, gathered_same}
use Rattle.local_histories.proofs.Inboxes.{all_inputs, all_messages_from-append, both_empty, begins_sent}
use Rattle.local_histories.proofs.Inboxes.{given_is_taken, next_sent, one_taker, next_seen, all_inputs-append}
use Rattle.local_histories.proofs.OneSender.{AllOf, all_of, Has, has_behind, found, has_only, take_get, take_next}
use Rattle.local_histories.proofs.OneSender.{halted_later, SendsBy, calls_sent, no_calls_sent, BringsBy}
use Rattle.local_histories.proofs.OneSender.{messages_brought, no_messages_brought}
use Rattle.local_histories.proofs.Runs.{of_each}
use Rattle.local_histories.proofs.SeatEvents.{replies_in-append, both_same}

-- who doesn't go on, and is of the chain, has halted
has_stopped : (s : OpenedChain) (j : ℕ) (es : List Event)
    → j < s.count
    → goes_on s j es ≡ false
    → has_halted j es ≡ true
has_stopped s j es within stops = elim (cases_Bool (has_halted j es)) [
  | inl halted ↦ halted
  | inr going ↦ absurd (both_ways (goes_on s j es)
      stops (ap (λ b. b && not (has_halted j es)) (lt-ltb j s.count within) ∙ ap not going))
]

-- what is seen of a beginning that has nothing to be seen
nothing_seen : {X : Type 0} (view : List Input → List X)
    → ((xs ys : List Input) → view (xs ++ ys) ≡ view xs ++ view ys)
    → (front whole : List InboxMessage)
    → IsPrefix front whole
    → view (all_inputs whole) ≡ []
    → view (all_inputs front) ≡ []
nothing_seen view both front whole begins none =
    (both_empty (view (all_inputs front)) (view (all_inputs begins.0))
    (sym (both (all_inputs front) (all_inputs begins.0))
    ∙ ap view (sym (all_inputs-append front begins.0)) ∙ ap (λ ms. view (all_inputs ms)) begins.1 ∙ none)).0

-- a list that goes on with this, of a longer one
longer : {X : Type 0} (front : List X) (x : X) (xs whole : List X)
    → GoesOnWith front x xs
    → IsPrefix xs whole
    → GoesOnWith front x whole
longer front x xs whole next begins = (
  next.0 ++ begins.0,
  sym begins.1 ∙ ap (λ ys. ys ++ begins.0) next.1
      ∙ append_assoc front (x ∷ next.0) begins.0,
)

module _ (s : OpenedChain) (es : List Event) (of_chain : AreOf s es) (rules : KeepRules s es)
    (n i : ℕ) (envelope : Envelope) (here : slice_get es n ≡ Some (Taken i envelope)) (within : i < s.count)
    (going : has_halted i (take n es) ≡ false) where
  abbrev before : List Event
  before = take n es

  abbrev k0 : ℕ
  k0 = envelope.from

  abbrev after : List Event
  after = before ++ Taken i envelope ∷ []

  inbox_then : HasInbox s i after
  inbox_then = subst (λ fs. HasInbox s i fs) (take_next es n (Taken i envelope) here) (rules.inboxes (suc n) i within)

  sent_then : sent_by i k0 after ≡ sent_by i k0 before
  sent_then = gathered_same (sends i k0) before (Taken i envelope) refl

  taken_then : taken_by i after ≡ taken_by i before ++ envelope ∷ []
  taken_then = gathered_more (takes i) before (Taken i envelope)
      ∙ ap (λ b. taken_by i before ++ only_if b envelope) (eq-eqb i i refl)

  -- it is what its sender sent next,
  next : GoesOnWith (of k0 (taken_by i before)) envelope.inbox_message (sent_by i k0 before)
  next = next_sent s i before envelope inbox_then sent_then taken_then

  -- by an event before
  was_sent : (m : ℕ) × (e : Event) × (slice_get before m ≡ Some e) × Has envelope.inbox_message (sends i k0 e)
  was_sent = found (sends i k0) before envelope.inbox_message
      (subst (λ ms. Has envelope.inbox_message ms) (sym next.1)
      (has_behind (of k0 (taken_by i before)) envelope.inbox_message next.0))

  begins_then : (k : ℕ) → IsPrefix (of k (taken_by i before)) (sent_by i k before)
  begins_then k = begins_sent s i before k (rules.inboxes n i within)

  -- ---- a call

  sends_by : (p : ℕ) (call : Call) (e : Event) (m : ℕ)
      → slice_get es m ≡ Some e
      → Has (Took (Called p call)) (sends i k0 e)
      → (f : Event) (q : ℕ)
      → slice_get es q ≡ Some f
      → SendsBy i p k0 f
  sends_by p call (Sent h k r x) m at has (Sent g l t y) q there =
      let it = has_only (h == i && k == k0) (Took (Called p call)) (Took (Called r x)) has in
      let tests = and_parts (h == i) (k == k0) it.0 in
      let port : r ≡ p = (let same : Took (Called r x) ≡ Took (Called p call) = it.1 in cc) in
      let one = rules.senders m q (Sent h k r x) (Sent g l t y) at there in
      λ a b. sym (eqb-true k k0 tests.1) ∙ one (eqb-true h i tests.0 ∙ a) (port ∙ b)
  sends_by p call (Brought h k message) m at has f q there =
      let it = has_only (h == i && k == k0) (Took (Called p call)) message has in
      absurd (subst (λ x. BringsNoCall (Brought h k x)) it.1 (rules.inlets m (Brought h k message) at).0)
  sends_by p call (Sent h k r x) m at has (Brought g l message) q there =
      (rules.inlets q (Brought g l message) there).0
  sends_by p call (Sent h k r x) m at has (Taken g y) q there = tt
  sends_by p call (Sent h k r x) m at has (Shown g y) q there = tt
  sends_by p call (Sent h k r x) m at has (Put g t y) q there = tt
  sends_by p call (Sent h k r x) m at has (Answered g y) q there = tt
  sends_by p call (Sent h k r x) m at has (HandedBack g y) q there = tt
  sends_by p call (Sent h k r x) m at has (Got g y) q there = tt
  sends_by p call (Sent h k r x) m at has (Looked g y z u) q there = tt
  sends_by p call (Sent h k r x) m at has (Halted g) q there = tt
  sends_by p call (Sent h k r x) m at has (Broke g y) q there = tt
  sends_by p call (Taken g y) m at has f q there = absurd has
  sends_by p call (Shown g y) m at has f q there = absurd has
  sends_by p call (Put g t y) m at has f q there = absurd has
  sends_by p call (Answered g y) m at has f q there = absurd has
  sends_by p call (HandedBack g y) m at has f q there = absurd has
  sends_by p call (Got g y) m at has f q there = absurd has
  sends_by p call (Looked g y z u) m at has f q there = absurd has
  sends_by p call (Halted g) m at has f q there = absurd has
  sends_by p call (Broke g y) m at has f q there = absurd has

  pub next_call : (p : ℕ) (call : Call)
      → envelope.inbox_message ≡ Took (Called p call)
      → GoesOnWith (calls_from p (given_to i before)) call (sent_from i p before)
  next_call p call is =
      let w = was_sent in
      let by : AllOf (SendsBy i p k0) before = all_of (SendsBy i p k0) before
      (λ q f there. sends_by p call w.1 w.0 (take_get es n w.0 w.1 w.2)
      (subst (λ x. Has x (sends i k0 w.1)) is w.3) f q (take_get es n q f there)) in
      let both : (xs ys : List Input) → calls_from p (xs ++ ys) ≡ calls_from p xs ++ calls_from p ys =
      calls_from-append p in
      let seen = next_seen (calls_from p) refl both (of k0 (taken_by i before)) (Took (Called p call))
      (sent_by i k0 before) (subst (λ x. GoesOnWith (of k0 (taken_by i before)) x (sent_by i k0 before)) is next) in
      let front : calls_from p (given_to i before) ≡ calls_from p (all_inputs (of k0 (taken_by i before))) =
      ap (calls_from p) (given_is_taken i before going)
      ∙ one_taker (calls_from p) refl both k0 (taken_by i before)
      (λ k other. nothing_seen (calls_from p) both (of k (taken_by i before)) (sent_by i k before) (begins_then k)
      (no_calls_sent i p k0 k before other by)) in (
        seen.0,
        calls_sent i p k0 before by ∙ seen.1
            ∙ ap (λ cs. cs ++ (calls_from p (Called p call ∷ []) ++ seen.0)) (sym front)
            ∙ ap (λ b. calls_from p (given_to i before) ++ (only_if b call ++ seen.0)) (eq-eqb p p refl),
      )

  -- ---- a message

  brings_by : (j : ℕ) (peer : Peer) (e : Event) (m : ℕ)
      → slice_get es m ≡ Some e
      → Has (Took (From j peer)) (sends i k0 e)
      → (k : ℕ) × (e ≡ Brought i k (Took (From j peer))) × (k ≡ k0)
  brings_by j peer (Brought h k message) m at has =
      let it = has_only (h == i && k == k0) (Took (From j peer)) message has in
      let tests = and_parts (h == i) (k == k0) it.0 in
      (k, ap (λ x. Brought x k message) (eqb-true h i tests.0) ∙ ap (Brought i k) it.1, eqb-true k k0 tests.1)
  brings_by j peer (Sent h k r x) m at has =
      absurd (let it = has_only (h == i && k == k0) (Took (From j peer)) (Took (Called r x)) has in
      let no : Took (Called r x) ≡ Took (From j peer) = it.1 in cc)
  brings_by j peer (Taken g y) m at has = absurd has
  brings_by j peer (Shown g y) m at has = absurd has
  brings_by j peer (Put g t y) m at has = absurd has
  brings_by j peer (Answered g y) m at has = absurd has
  brings_by j peer (HandedBack g y) m at has = absurd has
  brings_by j peer (Got g y) m at has = absurd has
  brings_by j peer (Looked g y z u) m at has = absurd has
  brings_by j peer (Halted g) m at has = absurd has
  brings_by j peer (Broke g y) m at has = absurd has

  one_inlet : (j k m : ℕ) (peer : Peer)
      → slice_get es m ≡ Some (Brought i k (Took (From j peer)))
      → k ≡ k0
      → (f : Event) (q : ℕ)
      → slice_get es q ≡ Some f
      → BringsBy i j k0 f
  one_inlet j k m peer at is (Brought h l (Took (From a x))) q there =
      λ b c. sym is ∙ rules.senders m q (Brought i k (Took (From j peer))) (Brought h l (Took (From a x))) at there b c
  one_inlet j k m peer at is (Brought h l (Took (Called r x))) q there = tt
  one_inlet j k m peer at is (Brought h l (Took (Gone a))) q there = tt
  one_inlet j k m peer at is (Brought h l Stop) q there = tt
  one_inlet j k m peer at is (Brought h l End) q there = tt
  one_inlet j k m peer at is (Sent h l r x) q there = tt
  one_inlet j k m peer at is (Taken g y) q there = tt
  one_inlet j k m peer at is (Shown g y) q there = tt
  one_inlet j k m peer at is (Put g t y) q there = tt
  one_inlet j k m peer at is (Answered g y) q there = tt
  one_inlet j k m peer at is (HandedBack g y) q there = tt
  one_inlet j k m peer at is (Got g y) q there = tt
  one_inlet j k m peer at is (Looked g y z u) q there = tt
  one_inlet j k m peer at is (Halted g) q there = tt
  one_inlet j k m peer at is (Broke g y) q there = tt

  next_peer : (j : ℕ) (peer : Peer)
      → envelope.inbox_message ≡ Took (From j peer)
      → (j < s.count)
      × GoesOnWith (all_messages_from j (given_to i before)) peer (links.messages_to i (put_by j before))
  next_peer j peer is =
      let w = was_sent in
      let at = take_get es n w.0 w.1 w.2 in
      let came = brings_by j peer w.1 w.0 at (subst (λ x. Has x (sends i k0 w.1)) is w.3) in
      let there : slice_get es w.0 ≡ Some (Brought i came.0 (Took (From j peer))) =
      at ∙ ap (λ e. Some e) came.1 in
      let by : AllOf (BringsBy i j k0) before = all_of (BringsBy i j k0) before
      (λ q f z. one_inlet j came.0 w.0 peer there came.2 f q (take_get es n q f z)) in
      let both : (xs ys : List Input)
      → all_messages_from j (xs ++ ys) ≡ all_messages_from j xs ++ all_messages_from j ys =
      all_messages_from-append j in
      let seen = next_seen (all_messages_from j) refl both (of k0 (taken_by i before)) (Took (From j peer))
      (sent_by i k0 before) (subst (λ x. GoesOnWith (of k0 (taken_by i before)) x (sent_by i k0 before)) is next) in
      let front : all_messages_from j (given_to i before)
      ≡ all_messages_from j (all_inputs (of k0 (taken_by i before))) =
      ap (all_messages_from j) (given_is_taken i before going)
      ∙ one_taker (all_messages_from j) refl both k0 (taken_by i before)
      (λ k other. nothing_seen (all_messages_from j) both (of k (taken_by i before)) (sent_by i k before)
      (begins_then k) (no_messages_brought i j k0 k before other by)) in
      let brought : GoesOnWith (all_messages_from j (given_to i before)) peer (brought_from j i before) = (
        seen.0,
        messages_brought i j k0 before by ∙ seen.1
            ∙ ap (λ ms. ms ++ (all_messages_from j (From j peer ∷ []) ++ seen.0)) (sym front)
            ∙ ap (λ b. all_messages_from j (given_to i before) ++ ((only_if b peer ++ []) ++ seen.0)) (eq-eqb j j refl),
      ) in (
        (rules.inlets w.0 (Brought i came.0 (Took (From j peer))) there).1,
        longer (all_messages_from j (given_to i before)) peer (brought_from j i before)
            (links.messages_to i (put_by j before)) brought (rules.links n j i),
      )

  -- ---- a notice

  tells_by : (j : ℕ) (e : Event) (m : ℕ)
      → slice_get es m ≡ Some e
      → slice_get before m ≡ Some e
      → Has (Took (Gone j)) (sends i k0 e)
      → (j < s.count) × (has_halted j before ≡ true)
  tells_by j (Brought h k message) m at there has =
      let it = has_only (h == i && k == k0) (Took (Gone j)) message has in
      let told = subst (λ x. TellsOfStopped s (take m es) (Brought h k x)) it.1
      (rules.notices m (Brought h k message) at) in
      (told.0, halted_later es j n m (Brought h k message) there (has_stopped s j (take m es) told.0 told.1))
  tells_by j (Sent h k r x) m at there has =
      absurd (let it = has_only (h == i && k == k0) (Took (Gone j)) (Took (Called r x)) has in
      let no : Took (Called r x) ≡ Took (Gone j) = it.1 in cc)
  tells_by j (Taken g y) m at there has = absurd has
  tells_by j (Shown g y) m at there has = absurd has
  tells_by j (Put g t y) m at there has = absurd has
  tells_by j (Answered g y) m at there has = absurd has
  tells_by j (HandedBack g y) m at there has = absurd has
  tells_by j (Got g y) m at there has = absurd has
  tells_by j (Looked g y z u) m at there has = absurd has
  tells_by j (Halted g) m at there has = absurd has
  tells_by j (Broke g y) m at there has = absurd has

  next_any : (m : InboxMessage) → envelope.inbox_message ≡ m → IsNextMessage s i before m
  next_any (Took (Called p call)) is = next_call p call is
  next_any (Took (From j peer)) is = next_peer j peer is
  next_any (Took (Gone j)) is =
      let w = was_sent in
      tells_by j w.1 w.0 (take_get es n w.0 w.1 w.2) w.2 (subst (λ x. Has x (sends i k0 w.1)) is w.3)
  next_any Stop is = tt
  next_any End is = tt

-- ---- a reply is taken

next_reply : (s : OpenedChain) (es : List Event) (rules : KeepRules s es) (n i : ℕ) (reply : NotedReply)
    → slice_get es n ≡ Some (Got i reply)
    → i < s.count
    → reply.port < s.ports i
    → GoesOnWith (replies_in (got_at i reply.port (take n es))) reply.reply
    (replies_in (answered_at i reply.port (take n es)))
next_reply s es rules n i reply here within below =
    let p = reply.port in
    let e = Got i reply in
    let before = take n es in
    let h = subst (λ fs. HasReplies s i p fs) (take_next es n e here) (rules.replies (suc n) i p within below) in
    let is = taken_from h.items h.views h.sender h.receiver (address_at s i p) (address_at s i p)
    (answered_at i p (before ++ e ∷ [])) (got_at i p (before ++ e ∷ [])) h.rule h.puts h.takes in
    let got_now : got_at i p (before ++ e ∷ []) ≡ got_at i p before ++ reply ∷ [] =
    gathered_more (gets i p) before e ∙ ap (λ b. got_at i p before ++ only_if b reply) (both_same i p) in (
      replies_in h.items,
      ap replies_in (sym (gathered_same (answers i p) before e refl) ∙ is)
          ∙ replies_in-append (got_at i p (before ++ e ∷ [])) h.items
          ∙ ap (λ rs. replies_in rs ++ replies_in h.items) got_now
          ∙ ap (λ rs. rs ++ replies_in h.items) (replies_in-append (got_at i p before) (reply ∷ []))
          ∙ append_assoc (replies_in (got_at i p before)) (reply.reply ∷ []) (replies_in h.items),
    )

-- ---- each event

pub each_follows : (s : OpenedChain) (es : List Event)
    → AreOf s es
    → KeepRules s es
    → AllBy (IsWorkerStep s) es
    → EachMayFollow s es
each_follows s es of_chain rules steps n (Sent i k port call) here = rules.seats n (Sent i k port call) here
each_follows s es of_chain rules steps n (Brought i k message) here = tt
each_follows s es of_chain rules steps n (Taken i envelope) here =
    let within = of_each s es n (Taken i envelope) of_chain here in
    λ going. (
      steps n (Taken i envelope) here going,
      next_any s es of_chain rules n i envelope here within going envelope.inbox_message refl,
    )
each_follows s es of_chain rules steps n (Shown i input) here = steps n (Shown i input) here
each_follows s es of_chain rules steps n (Put i j peer) here = steps n (Put i j peer) here
each_follows s es of_chain rules steps n (Answered i reply) here = steps n (Answered i reply) here
each_follows s es of_chain rules steps n (HandedBack i port) here = tt
each_follows s es of_chain rules steps n (Got i reply) here =
    let within = of_each s es n (Got i reply) of_chain here in
    next_reply s es rules n i reply here within.0 within.1
each_follows s es of_chain rules steps n (Looked i q key stood) here =
    (rules.seats n (Looked i q key stood) here, rules.boards n (Looked i q key stood) here)
each_follows s es of_chain rules steps n (Halted i) here = tt
each_follows s es of_chain rules steps n (Broke i j) here = tt
