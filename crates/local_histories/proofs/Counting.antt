-- No port is replied to more often than it has calls, and no port has more calls than one for which no reply was taken.
use Rattle.std.proofs.Common.{◌≡◌, ℕ, zero, suc, ◌+◌, ◌<◌, ◌≤◌, Bool, true, false, cond, List, [], ◌∷◌, ◌++◌, length}
use Rattle.std.proofs.Common.{take, Some, refl, arith, ap, sym, ◌∙◌, subst, inl, inr, append_assoc, eq-eqb}
use Rattle.std.proofs.Common.{length-append}
use Rattle.std.specs.Prelude.{◌==◌, ◌&&◌, not, slice_get}
use Rattle.std.specs.Bool.{beq}
use Rattle.std.proofs.lemmas.Bool.{cases_eq, cases_Bool, ne_eqb, eqb-true, and_parts}
use Rattle.table.specs.Operations.{is_update, is_value}
use Rattle.table.specs.declared.operations.Call.{Call}
use Rattle.node.specs.declared.messages.Input.{Input}
use Rattle.node.specs.declared.messages.Input.TheVariants.{Call as Called, From, Gone}
use Rattle.node.specs.declared.messages.Output.{Output}
use Rattle.node.specs.declared.messages.Output.TheVariants.{To, Reply as Replied}
use Rattle.node.specs.Replies.{is_call_at, is_reply_at, calls_at, replies_at}
use Rattle.node.specs.Runs.{put_out, AreInputs}
use Rattle.node.specs.Servers.{ServerState, opening}
use Rattle.node.proofs.Counts.{count-append}
use Rattle.node.proofs.PortLaws.{opening-none_open}
use Rattle.node.proofs.RuleLaws.{lawful-opening}
use Rattle.node.proofs.RunLaws.{closed-after}
use Rattle.rail.specs.declared.inbox_messages.Envelope.{Envelope}
use Rattle.rail.specs.declared.inbox_messages.InboxMessage.{InboxMessage}
use Rattle.rail.specs.declared.inbox_messages.InboxMessage.TheVariants.{Took, Stop, End}
use Rattle.rail.proofs.Beginnings.{taken_from}
use Rattle.interleavings.specs.Chains.{calls_from, replies_to}
use Rattle.interleavings.proofs.lists.Joined.{calls_from-append}
use Rattle.local_histories.specs.Events.{Event, Sent, Brought, Taken, Shown, Put, Answered, HandedBack, Got, Looked}
use Rattle.local_histories.specs.Events.{Halted, Broke}
use Rattle.local_histories.specs.Objects.{OpenedChain, only_if, sends_from, sent_from, inputs_in, shown_by}
use Rattle.local_histories.specs.Objects.{has_halted, answered_at, gets, got_at, address_at}
use Rattle.local_histories.specs.LocalRules.{IsOpened, AreOf, KeepRules}
use Rattle.local_histories.specs.Standing.{given_to}
use Rattle.local_histories.specs.Following.{outputs_of}
use Rattle.local_histories.proofs.Gathering.{gathered_more, gathered_same, given_more, given_no_more, given_same}
use Rattle.local_histories.proofs.Keeping.{elsewhere}
use Rattle.local_histories.proofs.LocalSteps.{next_call}
use Rattle.local_histories.proofs.Runs.{Next, next}

-- ---- replies and calls of a port, by their kinds

length_if : {X : Type 0} (b : Bool) (x : X) (xs : List X)
    → length (cond b (x ∷ xs) xs) ≡ cond b (suc (length xs)) (length xs)
length_if true x xs = refl
length_if false x xs = refl

-- one more, of one kind or the other
one_kind : (b v : Bool) (l m n : ℕ)
    → l ≡ m + n
    → cond b (suc l) l ≡ ((0 + cond (b && beq true v) 1 0) + m) + ((0 + cond (b && beq false v) 1 0) + n)
one_kind true true l m n e = omega (arith, e)
one_kind true false l m n e = omega (arith, e)
one_kind false v l m n e = omega (arith, e)

replies_by_kind : (p : ℕ) (os : List Output)
    → length (replies_to p os) ≡ replies_at p true os + replies_at p false os
replies_by_kind p [] = refl
replies_by_kind p (To to peer ∷ os) =
    let e = replies_by_kind p os in
    let reads : replies_at p true (To to peer ∷ os) ≡ 0 + replies_at p true os =
    count-append (is_reply_at p true) (To to peer ∷ []) os in
    let updates : replies_at p false (To to peer ∷ os) ≡ 0 + replies_at p false os =
    count-append (is_reply_at p false) (To to peer ∷ []) os in
    omega (arith, e, reads, updates)
replies_by_kind p (Replied q reply ∷ os) =
    let x = Replied q reply in
    length_if (q == p) reply (replies_to p os)
    ∙ one_kind (q == p) (is_value reply) (length (replies_to p os)) (replies_at p true os) (replies_at p false os)
    (replies_by_kind p os)
    ∙ ap (λ n. n + ((0 + cond (q == p && beq false (is_value reply)) 1 0) + replies_at p false os))
    (sym (count-append (is_reply_at p true) (x ∷ []) os))
    ∙ ap (λ n. replies_at p true (x ∷ os) + n) (sym (count-append (is_reply_at p false) (x ∷ []) os))

calls_by_kind : (p : ℕ) (xs : List Input) → length (calls_from p xs) ≡ calls_at p true xs + calls_at p false xs
calls_by_kind p [] = refl
calls_by_kind p (Called q call ∷ xs) =
    let x = Called q call in
    length_if (q == p) call (calls_from p xs)
    ∙ one_kind (q == p) (not (is_update call.op)) (length (calls_from p xs)) (calls_at p true xs) (calls_at p false xs)
    (calls_by_kind p xs)
    ∙ ap (λ n. n + ((0 + cond (q == p && beq false (not (is_update call.op))) 1 0) + calls_at p false xs))
    (sym (count-append (is_call_at p true) (x ∷ []) xs))
    ∙ ap (λ n. calls_at p true (x ∷ xs) + n) (sym (count-append (is_call_at p false) (x ∷ []) xs))
calls_by_kind p (From j peer ∷ xs) =
    let e = calls_by_kind p xs in
    let reads : calls_at p true (From j peer ∷ xs) ≡ 0 + calls_at p true xs =
    count-append (is_call_at p true) (From j peer ∷ []) xs in
    let updates : calls_at p false (From j peer ∷ xs) ≡ 0 + calls_at p false xs =
    count-append (is_call_at p false) (From j peer ∷ []) xs in
    omega (arith, e, reads, updates)
calls_by_kind p (Gone j ∷ xs) =
    let e = calls_by_kind p xs in
    let reads : calls_at p true (Gone j ∷ xs) ≡ 0 + calls_at p true xs =
    count-append (is_call_at p true) (Gone j ∷ []) xs in
    let updates : calls_at p false (Gone j ∷ xs) ≡ 0 + calls_at p false xs =
    count-append (is_call_at p false) (Gone j ∷ []) xs in
    omega (arith, e, reads, updates)

-- a server that began without calls puts out no more replies for a port than it has calls from there
replies_within : (id count p : ℕ) (xs : List Input)
    → id < count
    → count ≤ 16
    → AreInputs xs
    → length (replies_to p (put_out (opening id count) xs)) ≤ length (calls_from p xs)
replies_within id count p xs within few valid =
    let lawful = lawful-opening id count within few in
    let reads = closed-after (opening id count) xs p true valid lawful in
    let updates = closed-after (opening id count) xs p false valid lawful in
    let no_read = opening-none_open id count p true in
    let no_update = opening-none_open id count p false in
    let replies = replies_by_kind p (put_out (opening id count) xs) in
    let calls = calls_by_kind p xs in
    omega (arith, reads, updates, no_read, no_update, replies, calls)

-- all inputs that were shown are ones that a node may be given
shown_fit : (s : OpenedChain) (i : ℕ) (es : List Event) → AreOf s es → AreInputs (shown_by i es)
shown_fit s i [] of = tt
shown_fit s i (Shown h x ∷ es) of = by (h == i) (shown_fit s i es of.1)
  where
    by : (b : Bool) → AreInputs (shown_by i es) → AreInputs (only_if b x ++ shown_by i es)
    by true f = (of.0.1, of.0.2, f)
    by false f = f
shown_fit s i (Sent h k port call ∷ es) of = shown_fit s i es of.1
shown_fit s i (Brought h k message ∷ es) of = shown_fit s i es of.1
shown_fit s i (Taken h envelope ∷ es) of = shown_fit s i es of.1
shown_fit s i (Put h j peer ∷ es) of = shown_fit s i es of.1
shown_fit s i (Answered h reply ∷ es) of = shown_fit s i es of.1
shown_fit s i (HandedBack h port ∷ es) of = shown_fit s i es of.1
shown_fit s i (Got h reply ∷ es) of = shown_fit s i es of.1
shown_fit s i (Looked h q key stood ∷ es) of = shown_fit s i es of.1
shown_fit s i (Halted h ∷ es) of = shown_fit s i es of.1
shown_fit s i (Broke h j ∷ es) of = shown_fit s i es of.1

take_of : (s : OpenedChain) (n : ℕ) (es : List Event) → AreOf s es → AreOf s (take n es)
take_of s zero [] of = tt
take_of s (suc n) [] of = tt
take_of s zero (x ∷ xs) of = tt
take_of s (suc n) (x ∷ xs) of = (of.0, take_of s n xs of.1)

-- ---- along events

module _ (s : OpenedChain) (es : List Event) (of_chain : AreOf s es) (rules : KeepRules s es) (i p : ℕ)
    (within : i < s.count) where
  -- the calls of a port that were given are the first ones of those that were sent from it
  abbrev Begin : List Event → Type 0
  Begin fs = (rest : List Call) × (sent_from i p fs ≡ calls_from p (given_to i fs) ++ rest)

  kept : (fs : List Event) (e : Event)
      → given_to i (fs ++ e ∷ []) ≡ given_to i fs
      → Begin fs
      → Begin (fs ++ e ∷ [])
  kept fs e same b = (
    b.0 ++ sends_from i p e,
    gathered_more (sends_from i p) fs e ∙ ap (λ cs. cs ++ sends_from i p e) b.1
        ∙ append_assoc (calls_from p (given_to i fs)) b.0 (sends_from i p e)
        ∙ ap (λ xs. calls_from p xs ++ (b.0 ++ sends_from i p e)) (sym same),
  )

  given : (fs : List Event) (envelope : Envelope) (xs : List Input) (rest : List Call)
      → has_halted i fs ≡ false
      → inputs_in envelope.inbox_message ≡ xs
      → sent_from i p fs ≡ calls_from p (given_to i fs) ++ (calls_from p xs ++ rest)
      → Begin (fs ++ Taken i envelope ∷ [])
  given fs envelope xs rest going is b = (
    rest,
    gathered_same (sends_from i p) fs (Taken i envelope) refl ∙ b
        ∙ sym (append_assoc (calls_from p (given_to i fs)) (calls_from p xs) rest)
        ∙ ap (λ cs. cs ++ rest) (sym (calls_from-append p (given_to i fs) xs))
        ∙ ap (λ ys. calls_from p ys ++ rest)
        (sym (given_more i fs (Taken i envelope) going refl
        ∙ ap (λ c. given_to i fs ++ cond c (inputs_in envelope.inbox_message) []) (eq-eqb i i refl)
        ∙ ap (λ ys. given_to i fs ++ ys) is)),
  )

  taken : (n : ℕ) (envelope : Envelope) (m : InboxMessage)
      → envelope.inbox_message ≡ m
      → slice_get es n ≡ Some (Taken i envelope)
      → has_halted i (take n es) ≡ false
      → Begin (take n es)
      → Begin (take n es ++ Taken i envelope ∷ [])
  taken n envelope (Took (Called q call)) is here going b = elim (cases_eq q p) [
    | inl same ↦
        let next = next_call s es of_chain rules n i envelope here within going p call
        (is ∙ ap (λ x. Took (Called x call)) same) in
        given (take n es) envelope (Called p call ∷ []) next.0 going
        (ap inputs_in is ∙ ap (λ x. Called x call ∷ []) same)
        (next.1 ∙ ap (λ c. calls_from p (given_to i (take n es)) ++ (cond c (call ∷ []) [] ++ next.0))
        (sym (eq-eqb p p refl)))
    | inr other ↦
        given (take n es) envelope (Called q call ∷ []) b.0 going (ap inputs_in is)
        (b.1 ∙ ap (λ c. calls_from p (given_to i (take n es)) ++ (cond c (call ∷ []) [] ++ b.0))
        (sym (ne_eqb q p other)))
  ]
  taken n envelope (Took (From j peer)) is here going b =
      given (take n es) envelope (From j peer ∷ []) b.0 going (ap inputs_in is) b.1
  taken n envelope (Took (Gone j)) is here going b =
      given (take n es) envelope (Gone j ∷ []) b.0 going (ap inputs_in is) b.1
  taken n envelope Stop is here going b = given (take n es) envelope [] b.0 going (ap inputs_in is) b.1
  taken n envelope End is here going b = given (take n es) envelope [] b.0 going (ap inputs_in is) b.1

  begin_more : (n : ℕ) (e : Event) → slice_get es n ≡ Some e → Begin (take n es) → Begin (take n es ++ e ∷ [])
  begin_more n (Taken h envelope) here b = elim (cases_eq h i) [
    | inr other ↦ kept (take n es) (Taken h envelope) (elsewhere i (take n es) (Taken h envelope) other).given b
    | inl same ↦ subst (λ x. Begin (take n es ++ Taken x envelope ∷ [])) (sym same)
        (elim (cases_Bool (has_halted i (take n es))) [
          | inl halted ↦ kept (take n es) (Taken i envelope)
              (given_no_more i (take n es) (Taken i envelope) halted) b
          | inr going ↦ taken n envelope envelope.inbox_message refl
              (here ∙ ap (λ x. Some (Taken x envelope)) same) going b
        ])
  ]
  begin_more n (Sent h k port call) here b =
      kept (take n es) (Sent h k port call) (given_same i (take n es) (Sent h k port call) refl) b
  begin_more n (Brought h k message) here b =
      kept (take n es) (Brought h k message) (given_same i (take n es) (Brought h k message) refl) b
  begin_more n (Shown h x) here b = kept (take n es) (Shown h x) (given_same i (take n es) (Shown h x) refl) b
  begin_more n (Put h j peer) here b =
      kept (take n es) (Put h j peer) (given_same i (take n es) (Put h j peer) refl) b
  begin_more n (Answered h reply) here b =
      kept (take n es) (Answered h reply) (given_same i (take n es) (Answered h reply) refl) b
  begin_more n (HandedBack h port) here b =
      kept (take n es) (HandedBack h port) (given_same i (take n es) (HandedBack h port) refl) b
  begin_more n (Got h reply) here b =
      kept (take n es) (Got h reply) (given_same i (take n es) (Got h reply) refl) b
  begin_more n (Looked h q key stood) here b =
      kept (take n es) (Looked h q key stood) (given_same i (take n es) (Looked h q key stood) refl) b
  begin_more n (Halted h) here b = kept (take n es) (Halted h) (given_same i (take n es) (Halted h) refl) b
  begin_more n (Broke h j) here b = kept (take n es) (Broke h j) (given_same i (take n es) (Broke h j) refl) b

  given_begins : (n : ℕ) → Begin (take n es)
  given_begins zero = ([], refl)
  given_begins (suc n) = by (next es n) (given_begins n)
    where
      by : Next es n → Begin (take n es) → Begin (take (suc n) es)
      by (inl same) b = subst Begin (sym same) b
      by (inr more) b = subst Begin (sym more.2) (begin_more n more.0 more.1 b)

  -- no more than one call of a port has no reply
  abbrev Within : List Event → Type 0
  Within fs = length (sent_from i p fs) ≤ length (got_at i p fs) + 1

  grows : (fs : List Event) (e : Event) → sends_from i p e ≡ [] → Within fs → Within (fs ++ e ∷ [])
  grows fs e none w =
      let sent = ap (λ xs. length xs) (gathered_same (sends_from i p) fs e none) in
      let got = ap (λ xs. length xs) (gathered_more (gets i p) fs e) in
      let sum = length-append (got_at i p fs) (gets i p e) in
      omega (arith, w, sent, got, sum)

  within_more : (n : ℕ) (e : Event) → slice_get es n ≡ Some e → Within (take n es) → Within (take n es ++ e ∷ [])
  within_more n (Sent h k q call) here w = elim (cases_Bool (h == i && q == p)) [
    | inr other ↦ grows (take n es) (Sent h k q call) (ap (λ b. only_if b call) other) w
    | inl both ↦
        let tests = and_parts (h == i) (q == p) both in
        let free : length (sent_from i p (take n es)) ≡ length (got_at i p (take n es)) =
        subst (λ x. length (sent_from x p (take n es)) ≡ length (got_at x p (take n es))) (eqb-true h i tests.0)
        (subst (λ x. length (sent_from h x (take n es)) ≡ length (got_at h x (take n es))) (eqb-true q p tests.1)
        (rules.seats n (Sent h k q call) here)) in
        let sent = ap (λ xs. length xs) (gathered_more (sends_from i p) (take n es) (Sent h k q call)
        ∙ ap (λ b. sent_from i p (take n es) ++ only_if b call) both) in
        let sum = length-append (sent_from i p (take n es)) (call ∷ []) in
        let got = ap (λ xs. length xs) (gathered_same (gets i p) (take n es) (Sent h k q call) refl) in
        omega (arith, free, sent, sum, got)
  ]
  within_more n (Brought h k message) here w = grows (take n es) (Brought h k message) refl w
  within_more n (Taken h envelope) here w = grows (take n es) (Taken h envelope) refl w
  within_more n (Shown h x) here w = grows (take n es) (Shown h x) refl w
  within_more n (Put h j peer) here w = grows (take n es) (Put h j peer) refl w
  within_more n (Answered h reply) here w = grows (take n es) (Answered h reply) refl w
  within_more n (HandedBack h port) here w = grows (take n es) (HandedBack h port) refl w
  within_more n (Got h reply) here w = grows (take n es) (Got h reply) refl w
  within_more n (Looked h q key stood) here w = grows (take n es) (Looked h q key stood) refl w
  within_more n (Halted h) here w = grows (take n es) (Halted h) refl w
  within_more n (Broke h j) here w = grows (take n es) (Broke h j) refl w

  sent_within : (n : ℕ) → Within (take n es)
  sent_within zero = omega arith
  sent_within (suc n) = by (next es n) (sent_within n)
    where
      by : Next es n → Within (take n es) → Within (take (suc n) es)
      by (inl same) w = subst Within (sym same) w
      by (inr more) w = subst Within (sym more.2) (within_more n more.0 more.1 w)

  -- so of a server that has shown all that it was given no more replies were put out for a port than were put, and one
  pub replies_few : IsOpened s
      → s.count ≤ 16
      → p < s.ports i
      → (n : ℕ)
      → given_to i (take n es) ≡ shown_by i (take n es)
      → length (replies_to p (outputs_of s i (take n es))) ≤ length (answered_at i p (take n es)) + 1
  replies_few opened few below n all =
      let fs = take n es in
      let start = opened.start i within in
      let replies : length (replies_to p (outputs_of s i fs)) ≤ length (calls_from p (shown_by i fs)) =
      subst
      (λ (x : ServerState).
      length (replies_to p (put_out x (shown_by i fs))) ≤ length (calls_from p (shown_by i fs)))
      (sym start)
      (replies_within i s.count p (shown_by i fs) within few (shown_fit s i fs (take_of s n es of_chain))) in
      let begins = given_begins n in
      let sent = ap (λ xs. length xs) begins.1 in
      let sum = length-append (calls_from p (given_to i fs)) begins.0 in
      let calls = ap (λ xs. length (calls_from p xs)) all in
      let one = sent_within n in
      let queue = rules.replies n i p within below in
      let put = ap (λ xs. length xs) (taken_from queue.items queue.views queue.sender queue.receiver (address_at s i p)
      (address_at s i p) (answered_at i p fs) (got_at i p fs) queue.rule queue.puts queue.takes) in
      let held = length-append (got_at i p fs) queue.items in
      omega (arith, replies, sent, sum, calls, one, put, held)
