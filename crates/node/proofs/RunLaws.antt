-- What holds after a list of inputs.
use Rattle.std.proofs.Common.{◌≡◌, ℕ, ◌+◌, ◌≤◌, Bool, List, [], ◌∷◌, ◌++◌, refl, sym, ap, ◌∙◌, arith, append_assoc}
use Rattle.std.proofs.lemmas.Bool.{cond_both}
use Rattle.node.specs.declared.messages.Input.{Input}
use Rattle.node.specs.declared.messages.Output.{Output}
use Rattle.node.specs.Servers.{ServerState}
use Rattle.node.specs.Steps.{step}
use Rattle.node.specs.Lawful.{IsLawful, AreToOthers, AreFit}
use Rattle.node.specs.Runs.{after, put_out, AreInputs}
use Rattle.node.specs.Replies.{is_call_at, is_reply_at, calls_at, replies_at, open_at, opened_at, has_room}
use Rattle.node.proofs.RuleLaws.{lawful-step}
use Rattle.node.proofs.Addresses.{others_append, others_taken_in}
use Rattle.node.proofs.Fitness.{fit_append, fit_taken_in}
use Rattle.node.proofs.Counts.{count-append}
use Rattle.node.proofs.StepCloses.{answers-step}

-- a lawful server is lawful after any inputs that may be given
pub lawful-after : (s : ServerState) (inputs : List Input) → AreInputs inputs → IsLawful s → IsLawful (after s inputs)
lawful-after s [] valid h = h
lawful-after s (i ∷ is) valid h = lawful-after (step s i).state is valid.2 (lawful-step s i valid.0 valid.1 h)

-- inputs don't change a server's id
pub id-after : (s : ServerState) (inputs : List Input) → AreInputs inputs → IsLawful s → (after s inputs).id ≡ s.id
id-after s [] valid h = refl
id-after s (i ∷ is) valid h =
    id-after (step s i).state is valid.2 (lawful-step s i valid.0 valid.1 h) ∙ (answers-step s i valid.0 valid.1 h).id

-- inputs don't change the count of servers
pub count-after : (s : ServerState) (inputs : List Input)
    → AreInputs inputs
    → IsLawful s
    → (after s inputs).count ≡ s.count
count-after s [] valid h = refl
count-after s (i ∷ is) valid h = count-after (step s i).state is valid.2 (lawful-step s i valid.0 valid.1 h)
    ∙ (answers-step s i valid.0 valid.1 h).count

moved : (id count : ℕ) (s : ServerState) (os : List Output)
    → s.id ≡ id
    → s.count ≡ count
    → AreToOthers s.id s.count os
    → AreToOthers id count os
moved id count s os same_id same_count h = rw (← same_id, ← same_count) h

-- every message of a run goes to another server of the chain
pub others-after : (s : ServerState) (inputs : List Input)
    → AreInputs inputs
    → IsLawful s
    → AreToOthers s.id s.count (put_out s inputs)
others-after s [] valid h = tt
others-after s (i ∷ is) valid h =
    let next = (step s i).state in
    let done = answers-step s i valid.0 valid.1 h in
    others_append s.id s.count (step s i).outputs (put_out next is)
    (others_taken_in s i h.sound h.settled)
    (moved s.id s.count next (put_out next is) done.id done.count
    (others-after next is valid.2 (lawful-step s i valid.0 valid.1 h)))

-- every message of a run may be sent, and handed in where it goes
pub fit-after : (s : ServerState) (inputs : List Input) → AreInputs inputs → IsLawful s → AreFit (put_out s inputs)
fit-after s [] valid h = tt
fit-after s (i ∷ is) valid h =
    fit_append (step s i).outputs (put_out (step s i).state is)
    (fit_taken_in s i valid.0 valid.1 h)
    (fit-after (step s i).state is valid.2 (lawful-step s i valid.0 valid.1 h))

-- a run goes on: the server after two lists of inputs is that after the second, from that after the first
pub after-append : (s : ServerState) (first more : List Input) → after s (first ++ more) ≡ after (after s first) more
after-append s [] more = refl
after-append s (i ∷ is) more = after-append (step s i).state is more

-- a run goes on: what it puts out for two lists of inputs is that for the first, and then that for the second
pub put_out-append : (s : ServerState) (first more : List Input)
    → put_out s (first ++ more) ≡ put_out s first ++ put_out (after s first) more
put_out-append s [] more = refl
put_out-append s (i ∷ is) more = ap (λ os. (step s i).outputs ++ os) (put_out-append (step s i).state is more)
    ∙ sym (append_assoc (step s i).outputs (put_out (step s i).state is) (put_out (after (step s i).state is) more))

-- ---- calls and replies

-- an input opens no more than comes
pub opened-calls : (port : ℕ) (reads : Bool) (s : ServerState) (input : Input)
    → opened_at port reads s input ≤ calls_at port reads (input ∷ [])
opened-calls port reads s input = cond_both (has_room s input) _ _ (λ (n : ℕ). n ≤ calls_at port reads (input ∷ []))
    (λ t. omega arith) (λ f. omega arith)

-- the calls open after a run and the replies of it are no more than the calls open before and those that came
pub closed-after : (s : ServerState) (inputs : List Input) (port : ℕ) (reads : Bool)
    → AreInputs inputs
    → IsLawful s
    → open_at port reads (after s inputs) + replies_at port reads (put_out s inputs) ≤ open_at port reads s + calls_at
    port reads inputs
closed-after s [] port reads valid h = omega arith
closed-after s (i ∷ is) port reads valid h =
    let next = (step s i).state in
    let later = closed-after next is port reads valid.2 (lawful-step s i valid.0 valid.1 h) in
    let done = (answers-step s i valid.0 valid.1 h).calls port reads in
    let came = count-append (is_call_at port reads) (i ∷ []) is in
    omega (
      arith,
      later,
      done,
      came,
      opened-calls port reads s i,
      count-append (is_reply_at port reads) (step s i).outputs (put_out next is),
    )

-- inputs of two lists that may be given may be given one list after the other
pub inputs-append : (first more : List Input) → AreInputs first → AreInputs more → AreInputs (first ++ more)
inputs-append [] more h g = g
inputs-append (i ∷ is) more h g = (h.0, h.1, inputs-append is more h.2 g)
