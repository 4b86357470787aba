-- Turns are steps: at each event of a worker, by those of its events before it.
use Rattle.std.proofs.Common.{◌≡◌, ℕ, zero, suc, ◌<◌, Bool, true, false, cond, List, [], ◌∷◌, ◌++◌, length, refl}
use Rattle.std.proofs.Common.{arith, ap, sym, ◌∙◌, subst, inl, inr, ◌⊎◌, append_assoc, eq-eqb, length-append}
use Rattle.std.specs.Prelude.{◌==◌}
use Rattle.std.proofs.lemmas.Bool.{eqb-true, and_from, or_parts, or_from}
use Rattle.std.proofs.lemmas.List.{append_cancel_left, append-nil}
use Rattle.node.specs.declared.messages.Input.{Input}
use Rattle.node.specs.declared.messages.Output.{Output}
use Rattle.node.specs.declared.messages.Peer.{Peer}
use Rattle.node.specs.Runs.{put_out}
use Rattle.rail.specs.declared.inbox_messages.Envelope.{Envelope}
use Rattle.rail.specs.Links as links
use Rattle.rail.specs.NotedReplies.{NotedReply}
use Rattle.interleavings.specs.Chains.{messages_to, replies_to}
use Rattle.interleavings.proofs.lists.Joined.{messages_to-append, replies_to-append}
use Rattle.local_histories.specs.Events.{Event, Sent, Brought, Taken, Shown, Put, Answered, HandedBack, Got, Looked}
use Rattle.local_histories.specs.Events.{Halted, Broke, is_of_worker}
use Rattle.local_histories.specs.Objects.{OpenedChain, gathered, only_if, inputs_in, takes, shows, shown_by}
use Rattle.local_histories.specs.Objects.{is_halt, has_halted, answers, answered_at}
use Rattle.local_histories.specs.Objects.{puts, put_by, failures_by}
use Rattle.local_histories.specs.Standing.{replies_in, takes_input, given_to}
use Rattle.local_histories.specs.Turns.{AreOutputs, AreOwn, IsTurnAfter}
use Rattle.local_histories.specs.Following.{outputs_of, IsWorkerStep}
use Rattle.local_histories.proofs.Gathering.{gathered_same, given_more, halted_same}
use Rattle.local_histories.proofs.Outputs.{put_out_more}
use Rattle.local_histories.proofs.Parts.{Sub, sub_both, sub_front, gathered-append, halted-append}
use Rattle.local_histories.proofs.SeatEvents.{replies_in-append}
use Rattle.local_histories.proofs.TurnResults.{Advances, advances, outs}

-- ---- what is known between turns, and what at an event

-- All that was taken is shown; all that was put out is put, but for links that have failed; and of the replies that
-- were put out for each port those that were put are some, in order.
pub record Between (s : OpenedChain) (i : ℕ) (done : List Event) : Type 0 where
  pub shown : has_halted i done ≡ false → given_to i done ≡ shown_by i done
  pub whole : has_halted i done ≡ false → (j : ℕ) → failures_by i j done ≡ 0
      → links.messages_to j (put_by i done) ≡ messages_to j (outputs_of s i done)
  pub some : (p : ℕ) → p < s.ports i
      → Sub (replies_to p (outputs_of s i done)) (replies_in (answered_at i p done))

-- a worker's step; of a reply it is known that those that were put so far, and this one, are some of those put out
abbrev pub IsTurnStep : OpenedChain → ℕ → List Event → Event → Type 0
IsTurnStep s i es (Answered h reply) =
    (has_halted i es ≡ false) × (given_to i es ≡ shown_by i es) × (reply.port < s.ports i
    → Sub (replies_to reply.port (outputs_of s i es)) (replies_in (answered_at i reply.port es) ++ reply.reply ∷ []))
IsTurnStep s i es e = IsWorkerStep s es e

pub between_at_first : (s : OpenedChain) (i : ℕ) → Between s i []
between_at_first s i = record { shown = λ g. refl; whole = λ g j up. refl; some = λ p below. refl }

-- ---- outputs

pub outputs_quiet : (i : ℕ) (es : List Event)
    → AreOutputs es
    → (gathered (shows i) es ≡ []) × (gathered (takes i) es ≡ [])
outputs_quiet i [] h = (refl, refl)
outputs_quiet i (Put g j peer ∷ es) h = outputs_quiet i es h
outputs_quiet i (Broke g j ∷ es) h = outputs_quiet i es h
outputs_quiet i (Answered g reply ∷ es) h = outputs_quiet i es h
outputs_quiet i (HandedBack g port ∷ es) h = outputs_quiet i es h
outputs_quiet i (Halted g ∷ es) h = (ap (gathered (shows i)) h, ap (gathered (takes i)) h)
outputs_quiet i (Sent g k port call ∷ es) h = absurd h
outputs_quiet i (Brought g k message ∷ es) h = absurd h
outputs_quiet i (Taken g envelope ∷ es) h = absurd h
outputs_quiet i (Shown g input ∷ es) h = absurd h
outputs_quiet i (Got g reply ∷ es) h = absurd h
outputs_quiet i (Looked g q key stood ∷ es) h = absurd h

-- before an output nothing is shown, taken or halted
record IsQuiet (i : ℕ) (es : List Event) : Type 0 where
  pub shows_none : gathered (shows i) es ≡ []
  pub takes_none : gathered (takes_input i) es ≡ []
  pub goes : has_halted i es ≡ false

front_quiet : (i : ℕ) (es : List Event) (e : Event) (more : List Event)
    → AreOutputs (es ++ e ∷ more)
    → IsQuiet i es
front_quiet i [] e more h = record { shows_none = refl; takes_none = refl; goes = refl }
front_quiet i (Put g j peer ∷ es) e more h =
    let r = front_quiet i es e more h in
    record { shows_none = r.shows_none; takes_none = r.takes_none; goes = r.goes }
front_quiet i (Broke g j ∷ es) e more h =
    let r = front_quiet i es e more h in
    record { shows_none = r.shows_none; takes_none = r.takes_none; goes = r.goes }
front_quiet i (Answered g reply ∷ es) e more h =
    let r = front_quiet i es e more h in
    record { shows_none = r.shows_none; takes_none = r.takes_none; goes = r.goes }
front_quiet i (HandedBack g port ∷ es) e more h =
    let r = front_quiet i es e more h in
    record { shows_none = r.shows_none; takes_none = r.takes_none; goes = r.goes }
front_quiet i (Halted g ∷ []) e more h = absurd (let no : e ∷ more ≡ [] = h in cc)
front_quiet i (Halted g ∷ (f ∷ es)) e more h = absurd (let no : f ∷ (es ++ e ∷ more) ≡ [] = h in cc)
front_quiet i (Sent g k port call ∷ es) e more h = absurd h
front_quiet i (Brought g k message ∷ es) e more h = absurd h
front_quiet i (Taken g envelope ∷ es) e more h = absurd h
front_quiet i (Shown g input ∷ es) e more h = absurd h
front_quiet i (Got g reply ∷ es) e more h = absurd h
front_quiet i (Looked g q key stood ∷ es) e more h = absurd h

own_at : (i : ℕ) (es : List Event) (e : Event) (more : List Event)
    → AreOwn i (es ++ e ∷ more)
    → is_of_worker i e ≡ true
own_at i [] e more h = h.0
own_at i (x ∷ es) e more h = own_at i es e more h.1

-- what is given by more events of a server that goes on
pub given-append : (i : ℕ) (es fs : List Event)
    → has_halted i es ≡ false
    → has_halted i fs ≡ false
    → given_to i (es ++ fs) ≡ given_to i es ++ gathered (takes_input i) fs
given-append i es [] going on = ap (given_to i) (append-nil es) ∙ sym (append-nil (given_to i es))
given-append i es (f ∷ fs) going on =
    let parts = or_parts (is_halt i f) (has_halted i fs) on in
    ap (given_to i) (sym (append_assoc es (f ∷ []) fs))
    ∙ given-append i (es ++ f ∷ []) fs (halted_same i es f parts.0 ∙ going) parts.1
    ∙ ap (λ xs. xs ++ gathered (takes_input i) fs) (given_more i es f going parts.0)
    ∙ append_assoc (given_to i es) (takes_input i f) (gathered (takes_input i) fs)

-- ---- a turn in which a face is shown

module _ (s : OpenedChain) (i : ℕ) (done : List Event) (h : Between s i done) (envelope : Envelope) (input : Input)
    (os : List Event) (outputs : AreOutputs os)
    (turn : IsTurnAfter s i done (Taken i envelope ∷ (Shown i input ∷ os))) where
  abbrev t : List Event
  t = Taken i envelope ∷ (Shown i input ∷ os)

  pub taken_is : gathered (takes i) t ≡ envelope ∷ []
  taken_is = ap (λ b. only_if b envelope ++ gathered (takes i) os) (eq-eqb i i refl)
      ∙ ap (λ xs. envelope ∷ xs) (outputs_quiet i os outputs).1

  pub shown_is : gathered (shows i) t ≡ input ∷ []
  shown_is = ap (λ b. only_if b input ++ gathered (shows i) os) (eq-eqb i i refl)
      ∙ ap (λ xs. input ∷ xs) (outputs_quiet i os outputs).0

  pub adv : Advances s i done t envelope input taken_is shown_is
  adv = advances s i done t envelope input taken_is shown_is turn.result turn.is

  abbrev step_outs : List Output
  step_outs = outs s i done t envelope input taken_is shown_is

  -- the input is shown
  shown_step : IsWorkerStep s (done ++ Taken i envelope ∷ []) (Shown i input)
  shown_step =
      let going = halted_same i done (Taken i envelope) refl ∙ adv.going in (
        going,
        given_more i done (Taken i envelope) adv.going refl
            ∙ ap (λ b. given_to i done ++ cond b (inputs_in envelope.inbox_message) []) (eq-eqb i i refl)
            ∙ ap (λ m. given_to i done ++ inputs_in m) adv.took
            ∙ ap (λ xs. xs ++ input ∷ [])
            (h.shown adv.going ∙ sym (gathered_same (shows i) done (Taken i envelope) refl)),
      )

  -- after the face is shown, and some outputs
  module _ (a : List Event) (e : Event) (b : List Event) (is : os ≡ a ++ e ∷ b) where
    abbrev now : List Event
    now = done ++ (Taken i envelope ∷ (Shown i input ∷ a))

    quiet_a : IsQuiet i a
    quiet_a = front_quiet i a e b (subst AreOutputs is outputs)

    going_now : has_halted i now ≡ false
    going_now = halted-append i done (Taken i envelope ∷ (Shown i input ∷ a))
        ∙ or_from (has_halted i done) (has_halted i a) adv.going quiet_a.goes

    shown_now : shown_by i now ≡ shown_by i done ++ input ∷ []
    shown_now = gathered-append (shows i) done (Taken i envelope ∷ (Shown i input ∷ a))
        ∙ ap (λ c. shown_by i done ++ (only_if c input ++ gathered (shows i) a)) (eq-eqb i i refl)
        ∙ ap (λ xs. shown_by i done ++ (input ∷ xs)) quiet_a.shows_none

    given_now : given_to i now ≡ shown_by i now
    given_now = given-append i done (Taken i envelope ∷ (Shown i input ∷ a)) adv.going quiet_a.goes
        ∙ ap (λ c. given_to i done ++ (cond c (inputs_in envelope.inbox_message) []
        ++ gathered (takes_input i) a)) (eq-eqb i i refl)
        ∙ ap (λ m. given_to i done ++ (inputs_in m ++ gathered (takes_input i) a)) adv.took
        ∙ ap (λ xs. given_to i done ++ (input ∷ xs)) quiet_a.takes_none
        ∙ ap (λ xs. xs ++ input ∷ []) (h.shown adv.going) ∙ sym shown_now

    outputs_now : outputs_of s i now ≡ outputs_of s i done ++ step_outs
    outputs_now = ap (put_out (s.instances i).start) shown_now
        ∙ put_out_more (s.instances i).start (shown_by i done) input

    -- what the turn adds, at this event
    adds_now : {X : Type 0} (adds : Event → List X)
        → adds (Taken i envelope) ≡ []
        → adds (Shown i input) ≡ []
        → (gathered adds now ≡ gathered adds done ++ gathered adds a)
        × (gathered adds (done ++ t)
        ≡ gathered adds done ++ (gathered adds a ++ (adds e ++ gathered adds b)))
    adds_now adds first second = (
      gathered-append adds done (Taken i envelope ∷ (Shown i input ∷ a))
          ∙ ap (λ xs. gathered adds done ++ (xs ++ (adds (Shown i input) ++ gathered adds a))) first
          ∙ ap (λ xs. gathered adds done ++ (xs ++ gathered adds a)) second,
      gathered-append adds done t
          ∙ ap (λ xs. gathered adds done ++ (xs ++ (adds (Shown i input) ++ gathered adds os))) first
          ∙ ap (λ xs. gathered adds done ++ (xs ++ gathered adds os)) second
          ∙ ap (λ xs. gathered adds done ++ gathered adds xs) is
          ∙ ap (λ xs. gathered adds done ++ xs) (gathered-append adds a (e ∷ b)),
    )

  pub links_append : (j : ℕ) (xs ys : List (ℕ × Peer))
      → links.messages_to j (xs ++ ys) ≡ links.messages_to j xs ++ links.messages_to j ys
  links_append j [] ys = refl
  links_append j (x ∷ xs) ys = by (x.0 == j) (links_append j xs ys)
    where
      by : (b : Bool) → links.messages_to j (xs ++ ys) ≡ links.messages_to j xs ++ links.messages_to j ys
          → cond b (x.1 ∷ links.messages_to j (xs ++ ys)) (links.messages_to j (xs ++ ys))
          ≡ cond b (x.1 ∷ links.messages_to j xs) (links.messages_to j xs) ++ links.messages_to j ys
      by true f = ap (λ ms. x.1 ∷ ms) f
      by false f = f

  none_or_some : (n : ℕ) → (n ≡ 0) ⊎ (0 < n)
  none_or_some zero = inl refl
  none_or_some (suc n) = inr (omega arith)

  -- a message is put
  put_step : (a : List Event) (j : ℕ) (peer : Peer) (b : List Event)
      → os ≡ a ++ Put i j peer ∷ b
      → IsWorkerStep s (done ++ (Taken i envelope ∷ (Shown i input ∷ a))) (Put i j peer)
  put_step a j peer b is =
      let e = Put i j peer in
      let fs = done ++ (Taken i envelope ∷ (Shown i input ∷ a)) in
      let adds = adds_now a e b is (puts i) refl refl in
      let mine : puts i e ≡ (j, peer) ∷ [] = ap (λ c. only_if c (j, peer)) (eq-eqb i i refl) in
      let put_is : adv.put ≡ gathered (puts i) a ++ ((j, peer) ∷ gathered (puts i) b) =
      append_cancel_left (put_by i done) adv.put (gathered (puts i) a ++ ((j, peer) ∷ gathered (puts i) b))
      (sym adv.list ∙ adds.1
      ∙ ap (λ xs. put_by i done ++ (gathered (puts i) a ++ (xs ++ gathered (puts i) b))) mine) in
      let later = links.messages_to j (gathered (puts i) b) in
      let sent : links.messages_to j adv.put ≡ links.messages_to j (gathered (puts i) a) ++ peer ∷ later =
      ap (links.messages_to j) put_is ∙ links_append j (gathered (puts i) a) ((j, peer) ∷ gathered (puts i) b)
      ∙ ap (λ c. links.messages_to j (gathered (puts i) a) ++ cond c (peer ∷ later) later) (eq-eqb j j refl) in
      let up : failures_by i j done ≡ 0 = elim (none_or_some (failures_by i j done)) [
        | inl none ↦ none
        | inr failed ↦ absurd (
            let nothing : links.messages_to j (gathered (puts i) a) ++ peer ∷ later ≡ [] =
            sym sent ∙ adv.down j failed in
            let many = ap (λ xs. length xs) nothing in
            let sum = length-append (links.messages_to j (gathered (puts i) a)) (peer ∷ later) in
            omega (arith, many, sum)
            )
      ] in
      let whole = h.whole adv.going j up in
      let front = adv.front j in (
        going_now a e b is,
        (
          later ++ front.0,
          ap (messages_to j) (outputs_now a e b is) ∙ messages_to-append j (outputs_of s i done) step_outs
              ∙ ap (λ xs. xs ++ messages_to j step_outs) (sym whole)
              ∙ ap (λ xs. links.messages_to j (put_by i done) ++ xs) (front.1 ∙ ap (λ xs. xs ++ front.0) sent
              ∙ append_assoc (links.messages_to j (gathered (puts i) a)) (peer ∷ later) front.0)
              ∙ sym (append_assoc (links.messages_to j (put_by i done)) (links.messages_to j (gathered (puts i) a))
              (peer ∷ (later ++ front.0)))
              ∙ ap (λ xs. xs ++ peer ∷ (later ++ front.0))
              (sym (ap (links.messages_to j) adds.0 ∙ links_append j (put_by i done) (gathered (puts i) a))),
        ),
      )

  -- a reply is put
  answered_step : (a : List Event) (reply : NotedReply) (b : List Event)
      → os ≡ a ++ Answered i reply ∷ b
      → IsTurnStep s i (done ++ (Taken i envelope ∷ (Shown i input ∷ a))) (Answered i reply)
  answered_step a reply b is =
      let e = Answered i reply in
      let p = reply.port in
      let adds = adds_now a e b is (answers i p) refl refl in
      let mine : answers i p e ≡ reply ∷ [] =
      ap (λ c. only_if c reply) (and_from (i == i) (p == p) (eq-eqb i i refl) (eq-eqb p p refl)) in (
        going_now a e b is,
        given_now a e b is,
        λ below.
            let put = adv.replied p below in
            let more_is : put.0 ≡ gathered (answers i p) a ++ (reply ∷ gathered (answers i p) b) =
            append_cancel_left (answered_at i p done) put.0
            (gathered (answers i p) a ++ (reply ∷ gathered (answers i p) b))
            (sym put.1 ∙ adds.1
            ∙ ap (λ xs. answered_at i p done ++ (gathered (answers i p) a ++ (xs ++ gathered (answers i p) b))) mine) in
            let later = replies_in (gathered (answers i p) b) in
            let first = replies_in (gathered (answers i p) a) in
            let more : replies_in put.0 ≡ (first ++ reply.reply ∷ []) ++ later =
            ap replies_in more_is ∙ replies_in-append (gathered (answers i p) a) (reply ∷ gathered (answers i p) b)
            ∙ sym (append_assoc first (reply.reply ∷ []) later) in
            let all : Sub (replies_to p (outputs_of s i done) ++ replies_to p step_outs)
            (replies_in (answered_at i p done) ++ (first ++ reply.reply ∷ [])) =
            sub_both (replies_to p (outputs_of s i done)) (replies_to p step_outs) (replies_in (answered_at i p done))
            (first ++ reply.reply ∷ []) (h.some p below)
            (sub_front (replies_to p step_outs) (first ++ reply.reply ∷ []) later
            (subst (λ xs. Sub (replies_to p step_outs) xs) more put.2)) in
            subst (λ xs. Sub xs (replies_in (answered_at i p (done ++ (Taken i envelope ∷ (Shown i input ∷ a))))
            ++ reply.reply ∷ []))
            (sym (ap (replies_to p) (outputs_now a e b is) ∙ replies_to-append p (outputs_of s i done) step_outs))
            (subst (λ ys. Sub (replies_to p (outputs_of s i done) ++ replies_to p step_outs) ys)
            (sym (ap (λ xs. replies_in xs ++ reply.reply ∷ []) adds.0
            ∙ ap (λ xs. xs ++ reply.reply ∷ []) (replies_in-append (answered_at i p done) (gathered (answers i p) a))
            ∙ append_assoc (replies_in (answered_at i p done)) first (reply.reply ∷ [])))
            all),
      )

-- ---- any turn

outputs_from : (es : List Event) (e : Event) (more : List Event) → AreOutputs (es ++ e ∷ more) → AreOutputs (e ∷ more)
outputs_from [] e more h = h
outputs_from (Put g j peer ∷ es) e more h = outputs_from es e more h
outputs_from (Broke g j ∷ es) e more h = outputs_from es e more h
outputs_from (Answered g reply ∷ es) e more h = outputs_from es e more h
outputs_from (HandedBack g port ∷ es) e more h = outputs_from es e more h
outputs_from (Halted g ∷ []) e more h = absurd (let no : e ∷ more ≡ [] = h in cc)
outputs_from (Halted g ∷ (f ∷ es)) e more h = absurd (let no : f ∷ (es ++ e ∷ more) ≡ [] = h in cc)
outputs_from (Sent g k port call ∷ es) e more h = absurd h
outputs_from (Brought g k message ∷ es) e more h = absurd h
outputs_from (Taken g envelope ∷ es) e more h = absurd h
outputs_from (Shown g input ∷ es) e more h = absurd h
outputs_from (Got g reply ∷ es) e more h = absurd h
outputs_from (Looked g q key stood ∷ es) e more h = absurd h

not_nil : {X : Type 0} (xs : List X) (x : X) (ys : List X) → [] ≡ xs ++ x ∷ ys → ⊥
not_nil [] x ys e = absurd cc
not_nil (z ∷ zs) x ys e = absurd cc

module _ (s : OpenedChain) (i : ℕ) (done : List Event) (h : Between s i done) where
  -- a message is taken
  taken_step : (envelope : Envelope) → IsTurnStep s i (done ++ []) (Taken i envelope)
  taken_step envelope = subst (λ fs. has_halted i fs ≡ false → given_to i fs ≡ shown_by i fs) (sym (append-nil done))
      h.shown

  first_taken : (envelope : Envelope) (e : Event) → Taken i envelope ≡ e → IsTurnStep s i (done ++ []) e
  first_taken envelope e same = subst (λ x. IsTurnStep s i (done ++ []) x) same (taken_step envelope)

  pub halt_step : (g : ℕ) (fs : List Event) (e : Event) → Halted g ≡ e → IsTurnStep s i fs e
  halt_step g fs e same = subst (λ x. IsTurnStep s i fs x) same tt

  -- an output
  output_step : (envelope : Envelope) (input : Input) (os : List Event)
      → IsTurnAfter s i done (Taken i envelope ∷ (Shown i input ∷ os))
      → (a : List Event) (e : Event) (more : List Event)
      → os ≡ a ++ e ∷ more
      → IsTurnStep s i (done ++ (Taken i envelope ∷ (Shown i input ∷ a))) e
  output_step envelope input os turn a (Put g j peer) more is =
      let own : g ≡ i = eqb-true g i (own_at i a (Put g j peer) more (subst (AreOwn i) is turn.own.1.1)) in
      subst (λ x. IsTurnStep s i (done ++ (Taken i envelope ∷ (Shown i input ∷ a))) (Put x j peer)) (sym own)
      (put_step s i done h envelope input os turn.in_order turn a j peer more
      (is ∙ ap (λ x. a ++ Put x j peer ∷ more) own))
  output_step envelope input os turn a (Answered g reply) more is =
      let own : g ≡ i = eqb-true g i (own_at i a (Answered g reply) more (subst (AreOwn i) is turn.own.1.1)) in
      answered_step s i done h envelope input os turn.in_order turn a reply more
      (is ∙ ap (λ x. a ++ Answered x reply ∷ more) own)
  output_step envelope input os turn a (Taken g m) more is =
      absurd (outputs_from a (Taken g m) more (subst AreOutputs is turn.in_order))
  output_step envelope input os turn a (Shown g x) more is =
      absurd (outputs_from a (Shown g x) more (subst AreOutputs is turn.in_order))
  output_step envelope input os turn a (Sent g k port call) more is = tt
  output_step envelope input os turn a (Brought g k message) more is = tt
  output_step envelope input os turn a (HandedBack g port) more is = tt
  output_step envelope input os turn a (Got g reply) more is = tt
  output_step envelope input os turn a (Looked g q key stood) more is = tt
  output_step envelope input os turn a (Halted g) more is = tt
  output_step envelope input os turn a (Broke g j) more is = tt

  shown_turn : (envelope : Envelope) (input : Input) (os : List Event)
      → IsTurnAfter s i done (Taken i envelope ∷ (Shown i input ∷ os))
      → (before : List Event) (e : Event) (more : List Event)
      → Taken i envelope ∷ (Shown i input ∷ os) ≡ before ++ e ∷ more
      → IsTurnStep s i (done ++ before) e
  shown_turn envelope input os turn [] e more is =
      (let same : Taken i envelope ≡ e = cc in first_taken envelope e same)
  shown_turn envelope input os turn (x ∷ []) e more is =
      let first : Taken i envelope ≡ x = cc in
      let same : Shown i input ≡ e = cc in
      subst (λ y. IsTurnStep s i (done ++ y ∷ []) e) first
      (subst (λ y. IsTurnStep s i (done ++ Taken i envelope ∷ []) y) same
      (shown_step s i done h envelope input os turn.in_order turn))
  shown_turn envelope input os turn (x ∷ (y ∷ a)) e more is =
      let first : Taken i envelope ≡ x = cc in
      let second : Shown i input ≡ y = cc in
      let rest : os ≡ a ++ e ∷ more = cc in
      subst (λ u. IsTurnStep s i (done ++ (u ∷ (y ∷ a))) e) first
      (subst (λ v. IsTurnStep s i (done ++ (Taken i envelope ∷ (v ∷ a))) e) second
      (output_step envelope input os turn a e more rest))

  taken_turn : (envelope : Envelope) (rest : List Event)
      → IsTurnAfter s i done (Taken i envelope ∷ rest)
      → (before : List Event) (e : Event) (more : List Event)
      → Taken i envelope ∷ rest ≡ before ++ e ∷ more
      → IsTurnStep s i (done ++ before) e
  taken_turn envelope (Shown g input ∷ os) turn before e more is =
      let own : g ≡ i = eqb-true g i turn.own.1.0 in
      shown_turn envelope input os
      (subst (λ x. IsTurnAfter s i done (Taken i envelope ∷ (Shown x input ∷ os))) own turn) before e more
      (subst (λ x. Taken i envelope ∷ (Shown x input ∷ os) ≡ before ++ e ∷ more) own is)
  taken_turn envelope [] turn [] e more is =
      (let same : Taken i envelope ≡ e = cc in first_taken envelope e same)
  taken_turn envelope [] turn (x ∷ xs) e more is =
      absurd (let tail : [] ≡ xs ++ e ∷ more = cc in not_nil xs e more tail)
  taken_turn envelope (Halted g ∷ os) turn [] e more is =
      (let same : Taken i envelope ≡ e = cc in first_taken envelope e same)
  taken_turn envelope (Halted g ∷ os) turn (x ∷ []) e more is =
      (let same : Halted g ≡ e = cc in halt_step g (done ++ x ∷ []) e same)
  taken_turn envelope (Halted g ∷ os) turn (x ∷ (y ∷ a)) e more is =
      absurd (let tail : os ≡ a ++ e ∷ more = cc in not_nil a e more (sym turn.in_order ∙ tail))
  taken_turn envelope (Sent g k port call ∷ os) turn before e more is = absurd turn.in_order
  taken_turn envelope (Brought g k message ∷ os) turn before e more is = absurd turn.in_order
  taken_turn envelope (Taken g m ∷ os) turn before e more is = absurd turn.in_order
  taken_turn envelope (Put g j peer ∷ os) turn before e more is = absurd turn.in_order
  taken_turn envelope (Answered g reply ∷ os) turn before e more is = absurd turn.in_order
  taken_turn envelope (HandedBack g port ∷ os) turn before e more is = absurd turn.in_order
  taken_turn envelope (Got g reply ∷ os) turn before e more is = absurd turn.in_order
  taken_turn envelope (Looked g q key stood ∷ os) turn before e more is = absurd turn.in_order
  taken_turn envelope (Broke g j ∷ os) turn before e more is = absurd turn.in_order

  pub turn_step : (t : List Event)
      → IsTurnAfter s i done t
      → (before : List Event) (e : Event) (more : List Event)
      → t ≡ before ++ e ∷ more
      → IsTurnStep s i (done ++ before) e
  turn_step (Taken g envelope ∷ rest) turn before e more is =
      let own : g ≡ i = eqb-true g i turn.own.0 in
      taken_turn envelope rest (subst (λ x. IsTurnAfter s i done (Taken x envelope ∷ rest)) own turn) before e more
      (subst (λ x. Taken x envelope ∷ rest ≡ before ++ e ∷ more) own is)
  turn_step (Halted g ∷ rest) turn [] e more is =
      (let same : Halted g ≡ e = cc in halt_step g (done ++ []) e same)
  turn_step (Halted g ∷ rest) turn (x ∷ xs) e more is =
      absurd (let tail : rest ≡ xs ++ e ∷ more = cc in not_nil xs e more (sym turn.in_order ∙ tail))
  turn_step [] turn before e more is = absurd turn.in_order
  turn_step (Sent g k port call ∷ os) turn before e more is = absurd turn.in_order
  turn_step (Brought g k message ∷ os) turn before e more is = absurd turn.in_order
  turn_step (Shown g x ∷ os) turn before e more is = absurd turn.in_order
  turn_step (Put g j peer ∷ os) turn before e more is = absurd turn.in_order
  turn_step (Answered g reply ∷ os) turn before e more is = absurd turn.in_order
  turn_step (HandedBack g port ∷ os) turn before e more is = absurd turn.in_order
  turn_step (Got g reply ∷ os) turn before e more is = absurd turn.in_order
  turn_step (Looked g q key stood ∷ os) turn before e more is = absurd turn.in_order
  turn_step (Broke g j ∷ os) turn before e more is = absurd turn.in_order
