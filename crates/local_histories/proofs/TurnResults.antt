-- What the contract of a turn says of one in which a face is shown.
use Rattle.std.proofs.Common.{◌≡◌, ℕ, zero, suc, ◌+◌, ◌<◌, ◌≤◌, Bool, true, false, cond, List, [], ◌∷◌, ◌++◌, length}
use Rattle.std.proofs.Common.{refl}
use Rattle.std.proofs.Common.{arith, ap, sym, ◌∙◌, subst, inl, inr, append_assoc, length-append}
use Rattle.std.specs.Prelude.{◌==◌, not}
use Rattle.std.specs.declared.result.Result.{Result}
use Rattle.std.specs.declared.result.Result.TheVariants.{Ok, Err}
use Rattle.std.proofs.lemmas.Bool.{cases_eq, both_ways}
use Rattle.std.proofs.lemmas.List.{append_cancel_left}
use Rattle.node.specs.declared.messages.Input.{Input}
use Rattle.node.specs.declared.messages.Output.{Output}
use Rattle.node.specs.declared.messages.Output.TheVariants.{To, Reply as Replied}
use Rattle.node.specs.declared.messages.Peer.{Peer}
use Rattle.node.specs.Runs.{after}
use Rattle.node.specs.Servers.{ServerState}
use Rattle.node.specs.Steps.{step}
use Rattle.faces.specs.Histories.{History, with_next}
use Rattle.faces.specs.Outputs.{last_outputs}
use Rattle.rail.specs.declared.faults.RailFault.{RailFault}
use Rattle.rail.specs.declared.faults.RailFault.TheVariants.{Memory, Closed, LinkDown, NoReader}
use Rattle.rail.specs.declared.inbox_messages.Envelope.{Envelope}
use Rattle.rail.specs.declared.inbox_messages.InboxMessage.TheVariants.{Took}
use Rattle.rail.specs.declared.workers.Turn.{Turn}
use Rattle.rail.specs.declared.workers.Turn.TheVariants.{Went, Stopped, End as Ended}
use Rattle.rail.specs.Links as links
use Rattle.rail.specs.NotedReplies.{NotedReply}
use Rattle.rail.specs.Turns.{messages_of, noted_replies_to, outputs_after, HasReplied}
use Rattle.rail.specs.Workers.{IsTurn}
use Rattle.interleavings.specs.Chains.{messages_to, replies_to}
use Rattle.interleavings.proofs.lists.Joined.{messages_to-append}
use Rattle.local_histories.specs.Events.{Event}
use Rattle.local_histories.specs.Objects.{OpenedChain, takes, taken_by, shows, shown_by, has_halted, answered_at}
use Rattle.local_histories.specs.Objects.{published_by, reply_senders_after, worker_after, put_by, failures_by}
use Rattle.local_histories.specs.Objects.{links_after, gathered}
use Rattle.local_histories.specs.Standing.{replies_in}
use Rattle.local_histories.proofs.Parts.{Sub, sub_left, sub_nil, sub_replies, gathered-append}

-- ---- the words of a turn and those of the model

-- what the last step put out
last_more : (n : ServerState) (xs : List Input) (x : Input)
    → last_outputs n (xs ++ x ∷ []) ≡ (step (after n xs) x).outputs
last_more n [] x = refl
last_more n (y ∷ []) x = refl
last_more n (y ∷ (z ∷ zs)) x = last_more (step n y).state (z ∷ zs) x

messages_are : (j : ℕ) (os : List Output) → links.messages_to j (messages_of os) ≡ messages_to j os
messages_are j [] = refl
messages_are j (To to peer ∷ os) = by (to == j) (messages_are j os)
  where
    by : (b : Bool) → links.messages_to j (messages_of os) ≡ messages_to j os
        → cond b (peer ∷ links.messages_to j (messages_of os)) (links.messages_to j (messages_of os))
        ≡ cond b (peer ∷ messages_to j os) (messages_to j os)
    by true f = ap (λ ms. peer ∷ ms) f
    by false f = f
messages_are j (Replied port reply ∷ os) = messages_are j os

replies_are : (c : History) (p : ℕ) (os : List Output) → replies_in (noted_replies_to c p os) ≡ replies_to p os
replies_are c p [] = refl
replies_are c p (To to peer ∷ os) = replies_are c p os
replies_are c p (Replied port reply ∷ os) = by (port == p) (replies_are c p os)
  where
    by : (b : Bool) → replies_in (noted_replies_to c p os) ≡ replies_to p os
        → replies_in (cond b ((record { port = port; reply = reply; told = c }) ∷ noted_replies_to c p os)
        (noted_replies_to c p os))
        ≡ cond b (reply ∷ replies_to p os) (replies_to p os)
    by true f = ap (λ rs. reply ∷ rs) f
    by false f = f

-- what was put for one port
replied_at : (s : OpenedChain) (i : ℕ) (es fs : List Event) (c : History) (os : List Output) (k n p : ℕ)
    → HasReplied c k (reply_senders_after s i es k n) (reply_senders_after s i fs k n) os
    → k ≤ p
    → p < k + n
    → (more : List NotedReply) × (answered_at i p fs ≡ answered_at i p es ++ more)
    × Sub (replies_to p os) (replies_in more)
replied_at s i es fs c os k zero p h low high = absurd (omega (arith, low, high))
replied_at s i es fs c os k (suc n) p h low high = elim (cases_eq k p) [
  | inl same ↦ subst (λ q. (more : List NotedReply) × (answered_at i q fs ≡ answered_at i q es ++ more)
      × Sub (replies_to q os) (replies_in more)) same (
        h.0.more,
        h.0.put,
        subst (λ rs. Sub rs (replies_in h.0.more)) (replies_are c k os)
            (sub_replies (noted_replies_to c k os) h.0.more (sub_left _ (noted_replies_to c k os) h.0.more h.0.left)),
      )
  | inr other ↦ replied_at s i es fs c os (k + 1) n p h.1 (omega (arith, low, other)) (omega (arith, high))
]

pub one_more_apart : {X : Type 0} (xs : List X) (x : X) → xs ++ x ∷ [] ≡ xs → ⊥
one_more_apart xs x e =
    let many = ap (λ ys. length ys) e in
    let sum = length-append xs (x ∷ []) in
    omega (arith, many, sum)

-- ---- a turn in which a face is shown

module _ (s : OpenedChain) (i : ℕ) (done turn : List Event) (envelope : Envelope) (input : Input)
    (taken_is : gathered (takes i) turn ≡ envelope ∷ []) (shown_is : gathered (shows i) turn ≡ input ∷ []) where
  -- what the step of the input puts out
  abbrev pub outs : List Output
  outs = (step (after (s.instances i).start (shown_by i done)) input).outputs

  -- what it comes to
  pub record Advances : Type 0 where
    pub going : has_halted i done ≡ false
    pub took : envelope.inbox_message ≡ Took input
    pub put : List (ℕ × Peer)
    pub list : put_by i (done ++ turn) ≡ put_by i done ++ put
    pub front : (j : ℕ) → (rest : List Peer) × (messages_to j outs ≡ links.messages_to j put ++ rest)
    pub down : (j : ℕ) → 0 < failures_by i j done → links.messages_to j put ≡ []
    pub whole : has_halted i (done ++ turn) ≡ false
        → (j : ℕ)
        → failures_by i j (done ++ turn) ≡ 0
        → links.messages_to j put ≡ messages_to j outs
    pub replied : (p : ℕ) → p < s.ports i
        → (more : List NotedReply) × (answered_at i p (done ++ turn) ≡ answered_at i p done ++ more)
        × Sub (replies_to p outs) (replies_in more)

  shown_now : shown_by i (done ++ turn) ≡ shown_by i done ++ input ∷ []
  shown_now = gathered-append (shows i) done turn ∙ ap (λ xs. shown_by i done ++ xs) shown_is

  taken_now : taken_by i (done ++ turn) ≡ taken_by i done ++ envelope ∷ []
  taken_now = gathered-append (takes i) done turn ∙ ap (λ xs. taken_by i done ++ xs) taken_is

  goes_then : (b : Bool) → not b ≡ true → b ≡ false
  goes_then true e = absurd cc
  goes_then false e = refl

  halts_then : (b : Bool) → not b ≡ false → b ≡ true
  halts_then true e = refl
  halts_then false e = absurd cc

  -- the input that was published is this one
  same_input : (x : Input) → published_by s i (done ++ turn) ≡ with_next (published_by s i done) x → x ≡ input
  same_input x e =
      let lists : shown_by i done ++ x ∷ [] ≡ shown_by i done ++ input ∷ [] =
      sym (ap (λ (c : History). c.inputs) e) ∙ shown_now in
      let ones : x ∷ [] ≡ input ∷ [] = append_cancel_left (shown_by i done) (x ∷ []) (input ∷ []) lists in
      cc

  same_message : (m : Envelope) → taken_by i (done ++ turn) ≡ taken_by i done ++ m ∷ [] → m ≡ envelope
  same_message m e =
      let lists : taken_by i done ++ m ∷ [] ≡ taken_by i done ++ envelope ∷ [] = sym e ∙ taken_now in
      let ones : m ∷ [] ≡ envelope ∷ [] = append_cancel_left (taken_by i done) (m ∷ []) (envelope ∷ []) lists in
      cc

  unshown : published_by s i (done ++ turn) ≡ published_by s i done → ⊥
  unshown e = one_more_apart (shown_by i done) input (sym shown_now ∙ ap (λ (c : History). c.inputs) e)

  untaken : taken_by i (done ++ turn) ≡ taken_by i done → ⊥
  untaken e = one_more_apart (taken_by i done) envelope (sym taken_now ∙ e)

  outputs_are : (x : Input) → x ≡ input → outputs_after (with_next (published_by s i done) x) ≡ outs
  outputs_are x same = last_more (s.instances i).start (shown_by i done) x
      ∙ ap (λ y. (step (after (s.instances i).start (shown_by i done)) y).outputs) same

  pub advances : (result : Result Turn RailFault)
      → IsTurn (worker_after s i done) (worker_after s i (done ++ turn)) (links_after i done)
      (links_after i (done ++ turn)) result
      → Advances
  advances (Ok Went) h =
      let gone = h.did.2 in
      let x = h.did.0 in
      let same = same_input x gone.published in
      let out = outputs_are x same in
      let first : (j : ℕ) → links.messages_to j (messages_of (outputs_after (with_next (published_by s i done) x)))
      ≡ messages_to j outs =
      λ (j : ℕ).
      messages_are j (outputs_after (with_next (published_by s i done) x)) ∙ ap (messages_to j) out in
      record {
        going = goes_then (has_halted i done) gone.going;
        took = ap (λ (m : Envelope). m.inbox_message) (sym (same_message h.message h.taken)) ∙ h.did.1
            ∙ ap (λ y. Took y) same;
        put = gone.messages.put;
        list = gone.messages.list;
        front = λ j. ((gone.messages.beginning j).0, sym (first j) ∙ (gone.messages.beginning j).1);
        down = gone.messages.down;
        whole = λ on j up. gone.messages.whole j up ∙ first j;
        replied = λ p below.
            let r = replied_at s i done (done ++ turn) (with_next (published_by s i done) x)
            (outputs_after (with_next (published_by s i done) x)) 0 (s.ports i) p gone.replies (omega arith)
            (omega (arith, below)) in
            (r.0, r.1, subst (λ os. Sub (replies_to p os) (replies_in r.0)) out r.2);
      }
  advances (Ok Stopped) h = absurd (unshown h.did.1.stopped.published)
  advances (Ok Ended) h = absurd (unshown h.did.1.published)
  advances (Err Memory) h =
      let cut = h.did.2 in
      let x = h.did.0 in
      elim cut.cut [
        | inl still ↦ absurd (unshown still.0)
        | inr on ↦
            let same = same_input x on.0 in
            let out = outputs_are x same in
            let parts = on.1 in
            let put = parts.3 in
            let split : outs ≡ parts.0 ++ parts.1 = sym out ∙ parts.2 in
            record {
              going = goes_then (has_halted i done) cut.going;
              took = ap (λ (m : Envelope). m.inbox_message) (sym (same_message h.message h.taken)) ∙ h.did.1
                  ∙ ap (λ y. Took y) same;
              put = put.put;
              list = put.list;
              front = λ j. (
                (put.beginning j).0 ++ messages_to j parts.1,
                ap (messages_to j) split ∙ messages_to-append j parts.0 parts.1
                    ∙ ap (λ ms. ms ++ messages_to j parts.1) (sym (messages_are j parts.0) ∙ (put.beginning j).1)
                    ∙ append_assoc (links.messages_to j put.put) (put.beginning j).0 (messages_to j parts.1),
              );
              down = put.down;
              whole = λ on j up. absurd (both_ways (has_halted i (done ++ turn)) on
                  (halts_then (has_halted i (done ++ turn)) cut.stopped));
              replied = λ p below.
                  let r = replied_at s i done (done ++ turn) (published_by s i done) [] 0 (s.ports i) p cut.replies
                  (omega arith) (omega (arith, below)) in
                  (r.0, r.1, subst (λ rs. Sub (replies_to p outs) rs) (sym r.2) (sub_nil (replies_to p outs)));
            }
      ]
  advances (Err Closed) h = absurd (untaken h.taken)
  advances (Err LinkDown) h = absurd h
  advances (Err NoReader) h = absurd h
