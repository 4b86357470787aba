-- What is known between turns is known after each turn; and so at each event of a worker.
use Rattle.std.proofs.Common.{◌≡◌, ℕ, Bool, true, false, cond, List, [], ◌∷◌, ◌++◌, length, refl}
use Rattle.std.proofs.Common.{arith, ap, sym, ◌∙◌, subst, inl, inr, append_assoc, eq-eqb, length-append}
use Rattle.std.specs.Prelude.{◌==◌, ◌||◌, not}
use Rattle.std.specs.declared.result.Result.{Result}
use Rattle.std.specs.declared.result.Result.TheVariants.{Ok, Err}
use Rattle.std.proofs.lemmas.Bool.{both_ways, eqb-true, or_parts, or_right}
use Rattle.std.proofs.lemmas.List.{append_cancel_left, append-nil}
use Rattle.node.specs.declared.messages.Input.{Input}
use Rattle.node.specs.Runs.{put_out}
use Rattle.faces.specs.Histories.{History}
use Rattle.rail.specs.declared.faults.RailFault.{RailFault}
use Rattle.rail.specs.declared.faults.RailFault.TheVariants.{Memory, Closed, LinkDown, NoReader}
use Rattle.rail.specs.declared.inbox_messages.Envelope.{Envelope}
use Rattle.rail.specs.declared.workers.Turn.{Turn}
use Rattle.rail.specs.declared.workers.Turn.TheVariants.{Went, Stopped, End as Ended}
use Rattle.rail.specs.Links as links
use Rattle.rail.specs.Workers.{IsTurn}
use Rattle.interleavings.specs.Chains.{messages_to, replies_to}
use Rattle.interleavings.proofs.lists.Joined.{messages_to-append, replies_to-append}
use Rattle.local_histories.specs.Events.{Event, Sent, Brought, Taken, Shown, Put, Answered, HandedBack, Got, Looked}
use Rattle.local_histories.specs.Events.{Halted, Broke}
use Rattle.local_histories.specs.Objects.{OpenedChain, gathered, only_if, inputs_in, takes, taken_by, shows, shown_by}
use Rattle.local_histories.specs.Objects.{is_halt, has_halted, answers, answered_at, worker_after}
use Rattle.local_histories.specs.Objects.{links_after, puts, put_by, breaks, failures_by}
use Rattle.local_histories.specs.Standing.{replies_in, takes_input, given_to}
use Rattle.local_histories.specs.Turns.{AreOutputs, IsTurnAfter, IsBreak, AreTurns, joined, IsBegunAfter, MayEnd}
use Rattle.local_histories.specs.Following.{outputs_of}
use Rattle.local_histories.proofs.Gathering.{gathered_more, gathered_same, given_same, halted_same}
use Rattle.local_histories.proofs.Outputs.{put_out_more}
use Rattle.local_histories.proofs.Parts.{Sub, sub_both, in_either, gathered-append, halted-append}
use Rattle.local_histories.proofs.SeatEvents.{replies_in-append}
use Rattle.local_histories.proofs.TurnResults.{one_more_apart, outs}
use Rattle.local_histories.proofs.Turning.{Between, between_at_first, IsTurnStep, given-append, adv}
use Rattle.local_histories.proofs.Turning.{taken_is, shown_is, links_append, turn_step}

no_inputs : (i : ℕ) (es : List Event) → AreOutputs es → gathered (takes_input i) es ≡ []
no_inputs i [] h = refl
no_inputs i (Put g j peer ∷ es) h = no_inputs i es h
no_inputs i (Broke g j ∷ es) h = no_inputs i es h
no_inputs i (Answered g reply ∷ es) h = no_inputs i es h
no_inputs i (HandedBack g port ∷ es) h = no_inputs i es h
no_inputs i (Halted g ∷ es) h = ap (gathered (takes_input i)) h
no_inputs i (Sent g k port call ∷ es) h = absurd h
no_inputs i (Brought g k message ∷ es) h = absurd h
no_inputs i (Taken g envelope ∷ es) h = absurd h
no_inputs i (Shown g input ∷ es) h = absurd h
no_inputs i (Got g reply ∷ es) h = absurd h
no_inputs i (Looked g q key stood ∷ es) h = absurd h

halts_now : (b : Bool) → not b ≡ false → b ≡ true
halts_now true e = refl
halts_now false e = absurd cc

no_length : {X : Type 0} (xs ys : List X) → length (xs ++ ys) ≡ 0 → length xs ≡ 0
no_length xs ys e = (let sum = length-append xs ys in omega (arith, e, sum))

module _ (s : OpenedChain) (i : ℕ) (done : List Event) (h : Between s i done) where
  -- a turn at whose end the server has halted, and in which nothing is shown or replied
  halted_then : (t : List Event)
      → has_halted i (done ++ t) ≡ true
      → gathered (shows i) t ≡ []
      → ((p : ℕ) → gathered (answers i p) t ≡ [])
      → Between s i (done ++ t)
  halted_then t halted shown answered = record {
    shown = λ going. absurd (both_ways (has_halted i (done ++ t)) going halted);
    whole = λ going j up. absurd (both_ways (has_halted i (done ++ t)) going halted);
    some = λ p below.
        subst (λ xs. Sub (replies_to p (put_out (s.instances i).start xs)) (replies_in (answered_at i p (done ++ t))))
        (sym (gathered-append (shows i) done t ∙ ap (λ xs. shown_by i done ++ xs) shown
        ∙ append-nil (shown_by i done)))
        (subst (λ rs. Sub (replies_to p (outputs_of s i done)) (replies_in rs))
        (sym (gathered-append (answers i p) done t ∙ ap (λ xs. answered_at i p done ++ xs) (answered p)
        ∙ append-nil (answered_at i p done)))
        (h.some p below));
  }

  -- one event, at which nothing is shown, put or replied
  one_event : (e : Event)
      → (has_halted i (done ++ e ∷ []) ≡ false → given_to i (done ++ e ∷ []) ≡ given_to i done)
      → is_halt i e ≡ false
      → shows i e ≡ []
      → puts i e ≡ []
      → ((p : ℕ) → answers i p e ≡ [])
      → Between s i (done ++ e ∷ [])
  one_event e given on shown put answered = record {
    shown = λ going. given going ∙ h.shown (sym (halted_same i done e on) ∙ going)
        ∙ sym (gathered_same (shows i) done e shown);
    whole = λ going j up.
        ap (links.messages_to j) (gathered_same (puts i) done e put)
        ∙ h.whole (sym (halted_same i done e on) ∙ going) j
        (no_length (gathered (breaks i j) done) (breaks i j e)
        (ap (λ xs. length xs) (sym (gathered_more (breaks i j) done e)) ∙ up))
        ∙ ap (λ xs. messages_to j (put_out (s.instances i).start xs)) (sym (gathered_same (shows i) done e shown));
    some = λ p below.
        subst (λ xs. Sub (replies_to p (put_out (s.instances i).start xs))
        (replies_in (answered_at i p (done ++ e ∷ []))))
        (sym (gathered_same (shows i) done e shown))
        (subst (λ rs. Sub (replies_to p (outputs_of s i done)) (replies_in rs))
        (sym (gathered_same (answers i p) done e (answered p))) (h.some p below));
  }

  -- a message was taken, and nothing was shown: it was the word to stop or to end, or the server has halted
  taken_alone : (envelope : Envelope) (result : Result Turn RailFault)
      → IsTurn (worker_after s i done) (worker_after s i (done ++ Taken i envelope ∷ [])) (links_after i done)
      (links_after i (done ++ Taken i envelope ∷ [])) result
      → has_halted i (done ++ Taken i envelope ∷ []) ≡ false
      → given_to i (done ++ Taken i envelope ∷ []) ≡ given_to i done
  taken_alone envelope (Ok Went) turn going = absurd (one_more_apart (shown_by i done) turn.did.0
      (sym (ap (λ (c : History). c.inputs) turn.did.2.published)
      ∙ gathered_same (shows i) done (Taken i envelope) refl))
  taken_alone envelope (Ok Stopped) turn going = absurd (both_ways _ going (halts_now _ turn.did.1.stopped.stopped))
  taken_alone envelope (Ok Ended) turn going =
      let now : taken_by i (done ++ Taken i envelope ∷ []) ≡ taken_by i done ++ envelope ∷ [] =
      gathered_more (takes i) done (Taken i envelope)
      ∙ ap (λ b. taken_by i done ++ only_if b envelope) (eq-eqb i i refl) in
      let ones : turn.message ∷ [] ≡ envelope ∷ [] =
      append_cancel_left (taken_by i done) (turn.message ∷ []) (envelope ∷ []) (sym turn.taken ∙ now) in
      let same : turn.message ≡ envelope = cc in
      given_same i done (Taken i envelope)
      (ap (λ b. cond b (inputs_in envelope.inbox_message) []) (eq-eqb i i refl)
      ∙ ap (λ (m : Envelope). inputs_in m.inbox_message) (sym same) ∙ ap inputs_in turn.did.0)
  taken_alone envelope (Err Memory) turn going = absurd (both_ways _ going (halts_now _ turn.did.2.stopped))
  taken_alone envelope (Err Closed) turn going = absurd (both_ways _ going (halts_now _ turn.stopped.stopped.stopped))
  taken_alone envelope (Err LinkDown) turn going = absurd turn
  taken_alone envelope (Err NoReader) turn going = absurd turn

  -- a face was shown
  after_shown : (envelope : Envelope) (input : Input) (os : List Event) (outputs : AreOutputs os)
      (turn : IsTurnAfter s i done (Taken i envelope ∷ (Shown i input ∷ os)))
      → Between s i (done ++ (Taken i envelope ∷ (Shown i input ∷ os)))
  after_shown envelope input os outputs turn =
      let t = Taken i envelope ∷ (Shown i input ∷ os) in
      let a = adv s i done h envelope input os outputs turn in
      let step_outs = outs s i done t envelope input (taken_is s i done h envelope input os outputs turn)
      (shown_is s i done h envelope input os outputs turn) in
      let shown_now : shown_by i (done ++ t) ≡ shown_by i done ++ input ∷ [] =
      gathered-append (shows i) done t
      ∙ ap (λ xs. shown_by i done ++ xs) (shown_is s i done h envelope input os outputs turn) in
      let outputs_now : outputs_of s i (done ++ t) ≡ outputs_of s i done ++ step_outs =
      ap (put_out (s.instances i).start) shown_now ∙ put_out_more (s.instances i).start (shown_by i done) input in
      record {
        shown = λ going.
            let parts = or_parts (has_halted i done) (has_halted i t) (sym (halted-append i done t) ∙ going) in
            given-append i done t parts.0 parts.1
            ∙ ap (λ b. given_to i done ++ (cond b (inputs_in envelope.inbox_message) []
            ++ gathered (takes_input i) os)) (eq-eqb i i refl)
            ∙ ap (λ m. given_to i done ++ (inputs_in m ++ gathered (takes_input i) os)) a.took
            ∙ ap (λ xs. given_to i done ++ (input ∷ xs)) (no_inputs i os outputs)
            ∙ ap (λ xs. xs ++ input ∷ []) (h.shown parts.0) ∙ sym shown_now;
        whole = λ going j up.
            let none : failures_by i j done ≡ 0 =
            no_length (gathered (breaks i j) done) (gathered (breaks i j) t)
            (ap (λ xs. length xs) (sym (gathered-append (breaks i j) done t)) ∙ up) in
            ap (links.messages_to j) a.list
            ∙ links_append s i done h envelope input os outputs turn j (put_by i done) a.put
            ∙ ap (λ xs. xs ++ links.messages_to j a.put) (h.whole a.going j none)
            ∙ ap (λ xs. messages_to j (outputs_of s i done) ++ xs) (a.whole going j up)
            ∙ sym (ap (messages_to j) outputs_now ∙ messages_to-append j (outputs_of s i done) step_outs);
        some = λ p below.
            let r = a.replied p below in
            subst (λ xs. Sub xs (replies_in (answered_at i p (done ++ t))))
            (sym (ap (replies_to p) outputs_now ∙ replies_to-append p (outputs_of s i done) step_outs))
            (subst (λ ys. Sub (replies_to p (outputs_of s i done) ++ replies_to p step_outs) ys)
            (sym (ap replies_in r.1 ∙ replies_in-append (answered_at i p done) r.0))
            (sub_both (replies_to p (outputs_of s i done)) (replies_to p step_outs)
            (replies_in (answered_at i p done)) (replies_in r.0) (h.some p below) r.2));
      }

  after_taken : (envelope : Envelope) (rest : List Event)
      → IsTurnAfter s i done (Taken i envelope ∷ rest)
      → Between s i (done ++ Taken i envelope ∷ rest)
  after_taken envelope [] turn = one_event (Taken i envelope) (taken_alone envelope turn.result turn.is) refl refl refl
      (λ p. refl)
  after_taken envelope (Shown g input ∷ os) turn =
      let own : g ≡ i = eqb-true g i turn.own.1.0 in
      let here = subst (λ x. IsTurnAfter s i done (Taken i envelope ∷ (Shown x input ∷ os))) own turn in
      subst (λ x. Between s i (done ++ (Taken i envelope ∷ (Shown x input ∷ os)))) (sym own)
      (after_shown envelope input os turn.in_order here)
  after_taken envelope (Halted g ∷ os) turn =
      halted_then (Taken i envelope ∷ (Halted g ∷ os))
      (halted-append i done (Taken i envelope ∷ (Halted g ∷ os))
      ∙ or_right (has_halted i done) (g == i || has_halted i os)
      (ap (λ b. b || has_halted i os) turn.own.1.0))
      (ap (gathered (shows i)) turn.in_order) (λ p. ap (gathered (answers i p)) turn.in_order)
  after_taken envelope (Sent g k port call ∷ os) turn = absurd turn.in_order
  after_taken envelope (Brought g k message ∷ os) turn = absurd turn.in_order
  after_taken envelope (Taken g m ∷ os) turn = absurd turn.in_order
  after_taken envelope (Put g j peer ∷ os) turn = absurd turn.in_order
  after_taken envelope (Answered g reply ∷ os) turn = absurd turn.in_order
  after_taken envelope (HandedBack g port ∷ os) turn = absurd turn.in_order
  after_taken envelope (Got g reply ∷ os) turn = absurd turn.in_order
  after_taken envelope (Looked g q key stood ∷ os) turn = absurd turn.in_order
  after_taken envelope (Broke g j ∷ os) turn = absurd turn.in_order

  after_turn : (t : List Event) → IsTurnAfter s i done t → Between s i (done ++ t)
  after_turn (Taken g envelope ∷ rest) turn =
      let own : g ≡ i = eqb-true g i turn.own.0 in
      subst (λ x. Between s i (done ++ Taken x envelope ∷ rest)) (sym own)
      (after_taken envelope rest (subst (λ x. IsTurnAfter s i done (Taken x envelope ∷ rest)) own turn))
  after_turn (Halted g ∷ rest) turn =
      halted_then (Halted g ∷ rest)
      (halted-append i done (Halted g ∷ rest)
      ∙ or_right (has_halted i done) (g == i || has_halted i rest) (ap (λ b. b || has_halted i rest) turn.own.0))
      (ap (gathered (shows i)) turn.in_order) (λ p. ap (gathered (answers i p)) turn.in_order)
  after_turn [] turn = absurd turn.in_order
  after_turn (Sent g k port call ∷ os) turn = absurd turn.in_order
  after_turn (Brought g k message ∷ os) turn = absurd turn.in_order
  after_turn (Shown g x ∷ os) turn = absurd turn.in_order
  after_turn (Put g j peer ∷ os) turn = absurd turn.in_order
  after_turn (Answered g reply ∷ os) turn = absurd turn.in_order
  after_turn (HandedBack g port ∷ os) turn = absurd turn.in_order
  after_turn (Got g reply ∷ os) turn = absurd turn.in_order
  after_turn (Looked g q key stood ∷ os) turn = absurd turn.in_order
  after_turn (Broke g j ∷ os) turn = absurd turn.in_order

  after_break : (t : List Event) → IsBreak i t → Between s i (done ++ t)
  after_break t b = subst (λ x. Between s i (done ++ x)) (sym b.1)
      (one_event (Broke i b.0) (λ g. given_same i done (Broke i b.0) refl) refl refl refl (λ p. refl))

-- ---- all turns

module _ (s : OpenedChain) (i : ℕ) where
  -- what is known after them
  after_turns : (turns : List (List Event)) (done : List Event)
      → Between s i done
      → AreTurns s i done turns
      → Between s i (done ++ joined turns)
  after_turns [] done h are = subst (λ fs. Between s i fs) (sym (append-nil done)) h
  after_turns (t ∷ ts) done h are =
      let on : Between s i (done ++ t) = elim are.0 [
        | inl turn ↦ after_turn s i done h t turn
        | inr broke ↦ after_break s i done h t broke
      ] in
      subst (λ fs. Between s i fs) (append_assoc done t (joined ts)) (after_turns ts (done ++ t) on are.1)

  not_behind : (e f : Event) (before more : List Event) → e ∷ [] ≡ before ++ f ∷ more → e ≡ f
  not_behind e f [] more is = cc
  not_behind e f (x ∷ []) more is = absurd cc
  not_behind e f (x ∷ (y ∷ ys)) more is = absurd cc

  -- each of their events is a step
  in_turns : (turns : List (List Event)) (done : List Event)
      → Between s i done
      → AreTurns s i done turns
      → (before : List Event) (e : Event) (more : List Event)
      → joined turns ≡ before ++ e ∷ more
      → IsTurnStep s i (done ++ before) e
  in_turns [] done h are [] e more is = absurd cc
  in_turns [] done h are (x ∷ xs) e more is = absurd cc
  in_turns (t ∷ ts) done h are before e more is = elim (in_either t (joined ts) before e more is) [
    | inl here ↦ elim are.0 [
      | inl turn ↦ turn_step s i done h t turn before e here.0 here.1
      | inr broke ↦ subst (λ x. IsTurnStep s i (done ++ before) x)
          (not_behind (Broke i broke.0) e before here.0 (sym broke.1 ∙ here.1)) tt
    ]
    | inr there ↦
        let on : Between s i (done ++ t) = elim are.0 [
          | inl turn ↦ after_turn s i done h t turn
          | inr broke ↦ after_break s i done h t broke
        ] in
        subst (λ fs. IsTurnStep s i fs e) (append_assoc done t there.0 ∙ ap (λ fs. done ++ fs) (sym there.1))
        (in_turns ts (done ++ t) on are.1 there.0 e more there.2)
  ]

  -- so is each of a turn that was begun, and a halt
  pub in_all : (turns : List (List Event)) (last ended : List Event)
      → AreTurns s i [] turns
      → IsBegunAfter s i (joined turns) last
      → MayEnd i ended
      → (before : List Event) (e : Event) (more : List Event)
      → joined turns ++ (last ++ ended) ≡ before ++ e ∷ more
      → IsTurnStep s i before e
  in_all turns last ended are begun may before e more is =
      elim (in_either (joined turns) (last ++ ended) before e more is) [
        | inl here ↦ in_turns turns [] (between_at_first s i) are before e here.0 here.1
        | inr there ↦
            let h : Between s i (joined turns) = after_turns turns [] (between_at_first s i) are in
            subst (λ fs. IsTurnStep s i fs e) (sym there.1)
            (elim (in_either last ended there.0 e more there.2) [
              | inl in_last ↦ elim begun [
                | inl none ↦ absurd (nothing there.0 e in_last.0 (sym none ∙ in_last.1))
                | inr turn ↦ turn_step s i (joined turns) h (last ++ turn.0) turn.1 there.0 e
                    (in_last.0 ++ turn.0)
                    (ap (λ fs. fs ++ turn.0) in_last.1 ∙ append_assoc there.0 (e ∷ in_last.0) turn.0)
              ]
              | inr in_end ↦ elim may [
                | inl none ↦ absurd (nothing in_end.0 e more (sym none ∙ in_end.2))
                | inr halts ↦ subst (λ x. IsTurnStep s i (joined turns ++ there.0) x)
                    (not_behind (Halted i) e in_end.0 more (sym halts ∙ in_end.2)) tt
              ]
            ])
      ]
    where
      nothing : (xs : List Event) (x : Event) (ys : List Event) → [] ≡ xs ++ x ∷ ys → ⊥
      nothing [] x ys e = absurd cc
      nothing (z ∷ zs) x ys e = absurd cc
