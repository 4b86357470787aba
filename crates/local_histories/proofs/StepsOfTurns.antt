-- Workers whose events are turns take one step after another.
use Rattle.std.proofs.Common.{◌≡◌, ℕ, zero, suc, ◌<◌, ◌≤◌, Bool, true, false, cond, List, [], ◌∷◌, ◌++◌, length, take}
use Rattle.std.proofs.Common.{Some, refl, arith, ap, sym, ◌∙◌, subst, eq-eqb, length-append}
use Rattle.std.specs.Prelude.{◌==◌, ◌&&◌, ◌||◌, slice_get}
use Rattle.std.proofs.lemmas.Option.{same_Some}
use Rattle.node.specs.Runs.{put_out}
use Rattle.rail.specs.Links as links
use Rattle.rail.specs.NotedReplies.{NotedReply}
use Rattle.interleavings.specs.Chains.{messages_to, replies_to}
use Rattle.local_histories.specs.Events.{Event, Sent, Brought, Taken, Shown, Put, Answered, HandedBack, Got, Looked}
use Rattle.local_histories.specs.Events.{Halted, Broke, is_of_worker}
use Rattle.local_histories.specs.Objects.{OpenedChain, gathered, only_if, inputs_in, shows, shown_by, is_halt}
use Rattle.local_histories.specs.Objects.{has_halted}
use Rattle.local_histories.specs.Objects.{answers, answered_at, puts, put_by}
use Rattle.local_histories.specs.LocalRules.{IsOpened, AreOf, AllBy, AreLocallyRight}
use Rattle.local_histories.specs.Standing.{replies_in, before_halt, takes_input, given_to}
use Rattle.local_histories.specs.Turns.{of_worker}
use Rattle.local_histories.specs.Following.{outputs_of, IsWorkerStep}
use Rattle.local_histories.proofs.BetweenTurns.{in_all}
use Rattle.local_histories.proofs.Counting.{replies_few}
use Rattle.local_histories.proofs.Parts.{Sub, sub_whole}
use Rattle.local_histories.proofs.Runs.{of_each}
use Rattle.local_histories.proofs.Turning.{IsTurnStep}

-- ---- what events that aren't of a worker add to what it left: nothing

shows_none : (i : ℕ) (e : Event) → is_of_worker i e ≡ false → shows i e ≡ []
shows_none i (Shown h x) is = ap (λ b. only_if b x) is
shows_none i (Sent h k port call) is = refl
shows_none i (Brought h k message) is = refl
shows_none i (Taken h envelope) is = refl
shows_none i (Put h j peer) is = refl
shows_none i (Answered h reply) is = refl
shows_none i (HandedBack h port) is = refl
shows_none i (Got h reply) is = refl
shows_none i (Looked h q key stood) is = refl
shows_none i (Halted h) is = refl
shows_none i (Broke h j) is = refl

puts_none : (i : ℕ) (e : Event) → is_of_worker i e ≡ false → puts i e ≡ []
puts_none i (Put h j peer) is = ap (λ b. only_if b (j, peer)) is
puts_none i (Sent h k port call) is = refl
puts_none i (Brought h k message) is = refl
puts_none i (Taken h envelope) is = refl
puts_none i (Shown h x) is = refl
puts_none i (Answered h reply) is = refl
puts_none i (HandedBack h port) is = refl
puts_none i (Got h reply) is = refl
puts_none i (Looked h q key stood) is = refl
puts_none i (Halted h) is = refl
puts_none i (Broke h j) is = refl

answers_none : (i p : ℕ) (e : Event) → is_of_worker i e ≡ false → answers i p e ≡ []
answers_none i p (Answered h reply) is = ap (λ b. only_if (b && reply.port == p) reply) is
answers_none i p (Sent h k port call) is = refl
answers_none i p (Brought h k message) is = refl
answers_none i p (Taken h envelope) is = refl
answers_none i p (Shown h x) is = refl
answers_none i p (Put h j peer) is = refl
answers_none i p (HandedBack h port) is = refl
answers_none i p (Got h reply) is = refl
answers_none i p (Looked h q key stood) is = refl
answers_none i p (Halted h) is = refl
answers_none i p (Broke h j) is = refl

takes_none : (i : ℕ) (e : Event) → is_of_worker i e ≡ false → takes_input i e ≡ []
takes_none i (Taken h envelope) is = ap (λ b. cond b (inputs_in envelope.inbox_message) []) is
takes_none i (Sent h k port call) is = refl
takes_none i (Brought h k message) is = refl
takes_none i (Shown h x) is = refl
takes_none i (Put h j peer) is = refl
takes_none i (Answered h reply) is = refl
takes_none i (HandedBack h port) is = refl
takes_none i (Got h reply) is = refl
takes_none i (Looked h q key stood) is = refl
takes_none i (Halted h) is = refl
takes_none i (Broke h j) is = refl

halts_none : (i : ℕ) (e : Event) → is_of_worker i e ≡ false → is_halt i e ≡ false
halts_none i (Halted h) is = is
halts_none i (Sent h k port call) is = refl
halts_none i (Brought h k message) is = refl
halts_none i (Taken h envelope) is = refl
halts_none i (Shown h x) is = refl
halts_none i (Put h j peer) is = refl
halts_none i (Answered h reply) is = refl
halts_none i (HandedBack h port) is = refl
halts_none i (Got h reply) is = refl
halts_none i (Looked h q key stood) is = refl
halts_none i (Broke h j) is = refl

own_gathered : {X : Type 0} (i : ℕ) (adds : Event → List X)
    → ((e : Event) → is_of_worker i e ≡ false → adds e ≡ [])
    → (es : List Event)
    → gathered adds (of_worker i es) ≡ gathered adds es
own_gathered i adds none [] = refl
own_gathered i adds none (e ∷ es) = by (is_of_worker i e) refl (own_gathered i adds none es)
  where
    by : (b : Bool) → is_of_worker i e ≡ b → gathered adds (of_worker i es) ≡ gathered adds es
        → gathered adds (cond b (e ∷ of_worker i es) (of_worker i es)) ≡ adds e ++ gathered adds es
    by true is f = ap (λ xs. adds e ++ xs) f
    by false is f = f ∙ sym (ap (λ xs. xs ++ gathered adds es) (none e is))

own_halted : (i : ℕ) (es : List Event) → has_halted i (of_worker i es) ≡ has_halted i es
own_halted i [] = refl
own_halted i (e ∷ es) = by (is_of_worker i e) refl (own_halted i es)
  where
    by : (b : Bool) → is_of_worker i e ≡ b → has_halted i (of_worker i es) ≡ has_halted i es
        → has_halted i (cond b (e ∷ of_worker i es) (of_worker i es)) ≡ (is_halt i e || has_halted i es)
    by true is f = ap (λ x. is_halt i e || x) f
    by false is f = f ∙ sym (ap (λ x. x || has_halted i es) (halts_none i e is))

own_given : (i : ℕ) (es : List Event) → given_to i (of_worker i es) ≡ given_to i es
own_given i [] = refl
own_given i (e ∷ es) = by (is_of_worker i e) refl (own_given i es)
  where
    stops : (c : Bool) → given_to i (of_worker i es) ≡ given_to i es
        → gathered (takes_input i) (cond c [] (e ∷ before_halt i (of_worker i es)))
        ≡ gathered (takes_input i) (cond c [] (e ∷ before_halt i es))
    stops true f = refl
    stops false f = ap (λ xs. takes_input i e ++ xs) f

    by : (b : Bool) → is_of_worker i e ≡ b → given_to i (of_worker i es) ≡ given_to i es
        → given_to i (cond b (e ∷ of_worker i es) (of_worker i es))
        ≡ gathered (takes_input i) (cond (is_halt i e) [] (e ∷ before_halt i es))
    by true is f = stops (is_halt i e) f
    by false is f = f
        ∙ sym (ap (λ c. gathered (takes_input i) (cond c [] (e ∷ before_halt i es))) (halts_none i e is)
        ∙ ap (λ xs. xs ++ given_to i es) (takes_none i e is))

-- an event of the worker, behind those of its events that come before
own_split : (i : ℕ) (es : List Event) (n : ℕ) (e : Event)
    → slice_get es n ≡ Some e
    → is_of_worker i e ≡ true
    → (more : List Event) × (of_worker i es ≡ of_worker i (take n es) ++ e ∷ more)
own_split i [] n e here own = absurd cc
own_split i (x ∷ xs) zero e here own =
    let same : x ≡ e = same_Some x e here in (
      of_worker i xs,
      ap (λ b. cond b (x ∷ of_worker i xs) (of_worker i xs)) (ap (is_of_worker i) same ∙ own)
          ∙ ap (λ y. y ∷ of_worker i xs) same,
    )
own_split i (x ∷ xs) (suc n) e here own = by (is_of_worker i x) (own_split i xs n e here own)
  where
    by : (b : Bool)
        → (more : List Event) × (of_worker i xs ≡ of_worker i (take n xs) ++ e ∷ more)
        → (more : List Event) × (cond b (x ∷ of_worker i xs) (of_worker i xs)
        ≡ cond b (x ∷ of_worker i (take n xs)) (of_worker i (take n xs)) ++ e ∷ more)
    by true f = (f.0, ap (λ ys. x ∷ ys) f.1)
    by false f = f

noted_many : (rs : List NotedReply) → length (replies_in rs) ≡ length rs
noted_many [] = refl
noted_many (r ∷ rs) = ap suc (noted_many rs)

-- ---- each step

module _ (s : OpenedChain) (es : List Event) (few : s.count ≤ 16) (opened : IsOpened s) (of : AreOf s es)
    (right : AreLocallyRight s es) where
  own_step : (n i : ℕ) (e : Event)
      → slice_get es n ≡ Some e
      → i < s.count
      → is_of_worker i e ≡ true
      → IsTurnStep s i (of_worker i (take n es)) e
  own_step n i e here within own =
      let t = right.turns i within in
      let split = own_split i es n e here own in
      in_all s i t.turns t.last t.ended t.are t.begun t.may (of_worker i (take n es)) e split.0 (sym t.all ∙ split.1)

  shown_same : (n i : ℕ) → shown_by i (of_worker i (take n es)) ≡ shown_by i (take n es)
  shown_same n i = own_gathered i (shows i) (shows_none i) (take n es)

  outputs_same : (n i : ℕ) → outputs_of s i (of_worker i (take n es)) ≡ outputs_of s i (take n es)
  outputs_same n i = ap (put_out (s.instances i).start) (shown_same n i)

  put_same : (n i : ℕ) → put_by i (of_worker i (take n es)) ≡ put_by i (take n es)
  put_same n i = own_gathered i (puts i) (puts_none i) (take n es)

  answered_same : (n i p : ℕ) → answered_at i p (of_worker i (take n es)) ≡ answered_at i p (take n es)
  answered_same n i p = own_gathered i (answers i p) (answers_none i p) (take n es)

  pub each_steps : AllBy (IsWorkerStep s) es
  each_steps n (Taken i envelope) here =
      let within = of_each s es n (Taken i envelope) of here in
      let step = own_step n i (Taken i envelope) here within (eq-eqb i i refl) in
      λ going. sym (own_given i (take n es)) ∙ step (own_halted i (take n es) ∙ going) ∙ shown_same n i
  each_steps n (Shown i input) here =
      let within = (of_each s es n (Shown i input) of here).0 in
      let step = own_step n i (Shown i input) here within (eq-eqb i i refl) in (
        sym (own_halted i (take n es)) ∙ step.0,
        sym (own_given i (take n es)) ∙ step.1 ∙ ap (λ xs. xs ++ input ∷ []) (shown_same n i),
      )
  each_steps n (Put i j peer) here =
      let within = of_each s es n (Put i j peer) of here in
      let step = own_step n i (Put i j peer) here within (eq-eqb i i refl) in (
        sym (own_halted i (take n es)) ∙ step.0,
        (
          step.1.0,
          ap (messages_to j) (sym (outputs_same n i)) ∙ step.1.1
              ∙ ap (λ ms. links.messages_to j ms ++ peer ∷ step.1.0) (put_same n i),
        ),
      )
  each_steps n (Answered i reply) here =
      let bounds = of_each s es n (Answered i reply) of here in
      let p = reply.port in
      let fs = take n es in
      let step = own_step n i (Answered i reply) here bounds.0 (eq-eqb i i refl) in
      let all : given_to i fs ≡ shown_by i fs = sym (own_given i fs) ∙ step.1 ∙ shown_same n i in
      let some : Sub (replies_to p (outputs_of s i fs)) (replies_in (answered_at i p fs) ++ reply.reply ∷ []) =
      subst (λ os. Sub (replies_to p os) (replies_in (answered_at i p fs) ++ reply.reply ∷ [])) (outputs_same n i)
      (subst (λ rs. Sub (replies_to p (outputs_of s i (of_worker i fs))) (replies_in rs ++ reply.reply ∷ []))
      (answered_same n i p) (step.2 bounds.1)) in
      let many = replies_few s es of right.rules i p bounds.0 opened few bounds.1 n all in
      let sum = length-append (replies_in (answered_at i p fs)) (reply.reply ∷ []) in
      let noted = noted_many (answered_at i p fs) in (
        sym (own_halted i fs) ∙ step.0,
        (
          [],
          sub_whole (replies_to p (outputs_of s i fs)) (replies_in (answered_at i p fs) ++ reply.reply ∷ []) some
              (omega (arith, many, sum, noted)),
        ),
      )
  each_steps n (Sent i k port call) here = tt
  each_steps n (Brought i k message) here = tt
  each_steps n (HandedBack i port) here = tt
  each_steps n (Got i reply) here = tt
  each_steps n (Looked i q key stood) here = tt
  each_steps n (Halted i) here = tt
  each_steps n (Broke i j) here = tt
