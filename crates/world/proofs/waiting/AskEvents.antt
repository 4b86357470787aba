-- Each event keeps every open read on its way.
use Rattle.std.proofs.Common.{◌≡◌, ◌≢◌, ℕ, ◌<◌, false, List, Some, sym, ap, subst, ◌∙◌, inl, inr}
use Rattle.std.specs.Prelude.{slice_get}
use Rattle.std.proofs.lemmas.Bool.{cases_eq}
use Rattle.node.specs.declared.servers.OpenRead.{OpenRead}
use Rattle.node.specs.declared.messages.Peer.{Peer}
use Rattle.node.specs.declared.messages.Input.{Input}
use Rattle.node.specs.declared.messages.Output.TheVariants.{To}
use Rattle.node.specs.Views.{has}
use Rattle.node.specs.Servers.{ServerState, tail_of}
use Rattle.node.specs.Steps.{step}
use Rattle.world.specs.Worlds.{World, server, link}
use Rattle.node.proofs.Lists.{In, in_more, in_front, in_behind}
use Rattle.world.proofs.trace.Traces.{Traced, count, outset}
use Rattle.world.proofs.trace.Outsets.{count_outset, server_outset, nothing_in}
use Rattle.world.proofs.streams.ForwardRuns.{in_sent}
use Rattle.world.proofs.streams.StepTellings.{inquires_step}
use Rattle.world.proofs.streams.Stepped.{IsStill, Stepped, Effect, Stands, Steps, Follows}
use Rattle.world.proofs.waiting.Asking.{Tailed, IsOnItsWay, Asking, query_met, answer_met}
use Rattle.world.proofs.layers.LoggedLaws.{still_out}

asking_still : (w u : World) → IsStill w u → Asking w → Asking u
asking_still w u h asking i j l r waits =
    let way = asking i j (record {
      here = rw (← h.count) l.here;
      inside = rw (← h.count) l.inside;
      tail = ap (λ s. tail_of s) (sym (h.servers i)) ∙ l.tail;
      other = l.other;
      unaware = ap (λ s. has s.view i) (sym (h.servers j)) ∙ l.unaware;
    }) r (subst (λ (s : ServerState). In r s.asks) (h.servers i) waits) in
    elim way [
      | inl query ↦ inl (query.0, query.1, rw (h.links i j) query.2, query.3)
      | inr answer ↦ inr (answer.0, answer.1, rw (h.links j i) answer.2, answer.3, answer.4)
    ]

module _ (t u : Traced) (h : Follows t u) (asking : Asking t.world) where
  -- ---- a step of server a

  module _ (a : ℕ) (input : Input) (s : Stepped t.world u.world a input) where
    -- a link that doesn't go to a is as it was, if it isn't a's
    beside : (x y : ℕ) → x ≢ a → y ≢ a → link u.world x y ≡ link t.world x y
    beside x y other there = elim (s.links x y other) [ inl same ↦ same | inr took ↦ absurd (there took.0) ]

    -- who asks takes the step
    asker : (j : ℕ) → Tailed u.world a j → (r : OpenRead) → In r (server u.world a).asks → IsOnItsWay u.world a j r
    asker j l r i =
        let inside : j < count t = rw (← h.later.count) l.inside in
        let waits : In r (step (server t.world a) input).state.asks =
        subst (λ (x : ServerState). In r x.asks) s.own i in
        let to : tail_of (step (server t.world a) input).state ≡ Some j = ap (λ x. tail_of x) (sym s.own) ∙ l.tail in
        elim (inquires_step (server t.world a) input (h.servers a s.here) s.fit s.valid r j waits to) [
          | inr asks ↦ inl (
            asks.0,
            asks.1,
            rw (s.sent j inside)
                (in_behind (link t.world a j) _ asks.0 (in_sent j asks.0 _ asks.2.0 asks.2.1)),
            asks.3,
          )
          | inl old ↦ elim (asking a j
              (record {
                here = s.here;
                inside = inside;
                tail = old.1;
                other = l.other;
                unaware = still_out t u h.later j a l.unaware;
              }) r old.0) [
                | inl query ↦ inl
                    (query.0, query.1, rw (s.sent j inside) (in_front (link t.world a j) _ query.0 query.2), query.3)
                | inr answer ↦ elim (s.links j a l.other) [
                  | inl same ↦ inr (answer.0, answer.1, rw same answer.2, answer.3, answer.4)
                  | inr took ↦ elim (in_more took.1 (link u.world j a) answer.0 (rw took.2 at answer.2)) [
                    | inr behind ↦ inr (answer.0, answer.1, behind, answer.3, answer.4)
                    | inl first ↦ absurd
                        (answer_met t a j took.1 (link u.world j a) r answer.1 h.before took.2
                        (ap (λ (m : Peer). m.body) (sym first) ∙ answer.3) answer.4 (h.servers j inside).sound
                        (h.servers a s.here) s.alive
                        (subst (λ x. tail_of (step (server t.world a) x).state ≡ Some j) took.3 to)
                        (subst (λ x. In r (step (server t.world a) x).state.asks) took.3 waits))
                  ]
                ]
              ]
        ]

    -- who is asked takes it
    tail_steps : (i : ℕ)
        → i ≢ a
        → Tailed u.world i a
        → (r : OpenRead)
        → In r (server u.world i).asks
        → IsOnItsWay u.world i a r
    tail_steps i other l r waits =
        let inside : i < count t = rw (← h.later.count) l.here in
        let same = s.others i other in
        let old : In r (server t.world i).asks = subst (λ (x : ServerState). In r x.asks) same waits in
        let to : tail_of (server t.world i) ≡ Some a = ap (λ x. tail_of x) (sym same) ∙ l.tail in
        elim (asking i a (record {
          here = inside;
          inside = s.here;
          tail = to;
          other = l.other;
          unaware = still_out t u h.later a i l.unaware;
        }) r old) [
          | inr answer ↦ inr (
            answer.0,
            answer.1,
            rw (s.sent i inside) (in_front (link t.world a i) _ answer.0 answer.2),
            answer.3,
            answer.4,
          )
          | inl query ↦ elim (s.links i a other) [
            | inl still ↦ inl (query.0, query.1, rw still query.2, query.3)
            | inr took ↦ elim (in_more took.1 (link u.world i a) query.0 (rw took.2 at query.2)) [
              | inr behind ↦ inl (query.0, query.1, behind, query.3)
              | inl first ↦ (let met = query_met t i a took.1 (link u.world i a) r query.1 h.before took.2
                  (ap (λ (m : Peer). m.body) (sym first) ∙ query.3) (h.servers i inside).sound
                  (h.servers a s.here) old to
                  (subst (λ x. has (step (server t.world a) x).state.view i ≡ false) took.3
                  (ap (λ (x : ServerState). has x.view i) (sym s.own) ∙ l.unaware)) in
                  inr (
                    met.0,
                    met.1,
                    rw (s.sent i inside)
                        (in_behind (link t.world a i) _ met.0
                        (in_sent i met.0 _ met.2.0
                        (subst (λ x. slice_get (step (server t.world a) x).outputs met.2.0 ≡ Some (To i met.0))
                        (sym took.3) met.2.1))),
                    met.3,
                    met.4,
                  ))
            ]
          ]
        ]

    bystanders : (i j : ℕ)
        → i ≢ a
        → j ≢ a
        → Tailed u.world i j
        → (r : OpenRead)
        → In r (server u.world i).asks
        → IsOnItsWay u.world i j r
    bystanders i j other apart l r waits =
        let same = s.others i other in
        let old : In r (server t.world i).asks = subst (λ (x : ServerState). In r x.asks) same waits in
        elim (asking i j (record {
          here = rw (← h.later.count) l.here;
          inside = rw (← h.later.count) l.inside;
          tail = ap (λ x. tail_of x) (sym same) ∙ l.tail;
          other = l.other;
          unaware =
              still_out t u h.later j i l.unaware;
        }) r old) [
          | inl query ↦ inl (query.0, query.1, rw (beside i j other apart) query.2, query.3)
          | inr answer ↦ inr (answer.0, answer.1, rw (beside j i apart other) answer.2, answer.3, answer.4)
        ]

    asking_step : Asking u.world
    asking_step i j = elim (cases_eq i a) [
      | inl own ↦ subst
          (λ x. Tailed u.world x j → (r : OpenRead) → In r (server u.world x).asks → IsOnItsWay u.world x j r)
          (sym own) (asker j)
      | inr other ↦ elim (cases_eq j a) [
        | inl own ↦ subst
            (λ x. Tailed u.world i x → (r : OpenRead) → In r (server u.world i).asks → IsOnItsWay u.world i x r)
            (sym own) (tail_steps i other)
        | inr apart ↦ bystanders i j other apart
      ]
    ]

  -- each event keeps them
  pub asking_happens : Effect t.world u.world → Asking u.world
  asking_happens (Stands still) = asking_still t.world u.world still asking
  asking_happens (Steps a input s) = asking_step a input s

-- before any event no read is open
pub asking_outset : (n : ℕ) (homes : List ℕ) → Asking (outset n homes).world
asking_outset n homes i j l r waits =
    absurd (nothing_in r (rw (server_outset n homes i (rw (count_outset n homes) at l.here)) at waits))
