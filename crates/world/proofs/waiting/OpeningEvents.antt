-- Each event keeps what is known of own updates and of what is on its way to heads.
use Rattle.std.proofs.Common.{◌≡◌, ◌≢◌, ℕ, ◌+◌, ◌<◌, List, ◌∷◌, ◌++◌, refl, sym, ap, subst, ◌∙◌, arith, inl, inr}
use Rattle.std.proofs.lemmas.Bool.{cases_eq}
use Rattle.node.specs.declared.messages.Body.{Body}
use Rattle.node.specs.declared.messages.Body.TheVariants.{Op, Forward, Ack, Query, Answer}
use Rattle.node.specs.declared.messages.Peer.{Peer}
use Rattle.node.specs.declared.messages.Input.{Input}
use Rattle.node.specs.declared.messages.Input.TheVariants.{Call as Called, From, Gone}
use Rattle.node.specs.Views.{has}
use Rattle.node.specs.Servers.{ServerState, opening, seen_of, head_of}
use Rattle.node.specs.Steps.{step}
use Rattle.world.specs.Worlds.{World, server, link}
use Rattle.node.proofs.Lists.{In}
use Rattle.world.proofs.trace.Traces.{Traced, count, outset}
use Rattle.world.proofs.trace.Layers.{Lawful}
use Rattle.world.proofs.trace.Outsets.{all_alike, count_outset, server_outset, link_outset}
use Rattle.world.proofs.layers.Addressed.{sender_apart}
use Rattle.world.proofs.streams.Streaming.{IsRun}
use Rattle.world.proofs.streams.ForwardRuns.{run_up}
use Rattle.world.proofs.streams.Stepped.{IsStill, HasCome, Stepped, Effect, Stands, Steps, Follows}
use Rattle.world.proofs.waiting.Opening.{op_id, op_ids, Own, HasSeen, Headed, Sends, Opening}
use Rattle.world.proofs.waiting.OwnEntries.{IsExpected}
use Rattle.world.proofs.waiting.OpenSteps.{Serves, serves_step}
use Rattle.world.proofs.waiting.OpeningSteps.{headed_other, seen_later, sends_other, sends_own}
use Rattle.world.proofs.waiting.OpeningInputs.{HasRooms, expected, seen_there}

opening_still : (w w' : World) → IsStill w w' → Opening w → Opening w'
opening_still w w' h s = record {
  own = λ o l. rw (h.servers o) (s.own o (rw (← h.count) l));
  first = λ o l. rw (h.servers o) (s.first o (rw (← h.count) l));
  ops = λ x y l.
      let r = s.ops x y (record {
        here = rw (← h.count) l.here;
        inside = rw (← h.count) l.inside;
        head = ap (λ v. head_of v) (sym (h.servers x)) ∙ l.head;
        other = l.other;
        unaware = ap (λ v. has v.view x) (sym (h.servers y)) ∙ l.unaware;
      }) in
      record {
        from = r.from;
        last = r.last;
        issued = ap (λ v. v.next_id) (h.servers x) ∙ r.issued;
        seen = omega (arith, r.seen, ap (λ v. seen_of v x) (h.servers y));
        run = rw (h.links x y) r.run;
      };
}

-- ---- a delivery

module _ (t u : Traced) (h : Follows t u) (rooms : HasRooms t.world) (i a : ℕ) (m : Peer)
    (p : Stepped t.world u.world a (From i m))
    (serve : Serves (server t.world a) (From i m) (step (server t.world a) (From i m)))
    (first : link t.world i a ≡ m ∷ link u.world i a) where
  there : In m (link t.world i a)
  there = rw first (0, refl)

  -- a message of another kind leaves the updates as they were
  kept : (s : Sends t.world i a)
      → IsRun s.from s.last (op_ids (link u.world i a))
      → i ≢ a
      → Headed u.world i a
      → Sends u.world i a
  kept s run other l = record {
    from = s.from;
    last = s.last;
    issued = ap (λ (v : ServerState). v.next_id) (p.others i other) ∙ s.issued;
    seen = omega (arith, s.seen, seen_later t u h a (From i m) p serve i a (rw (← h.later.count) l.here));
    run = run;
  }

  -- what is left on its way, once the first was delivered
  left_by : (b : Body)
      → m.body ≡ b
      → (s : Sends t.world i a)
      → IsRun s.from s.last (op_id b ++ op_ids (link u.world i a))
      → i ≢ a
      → Headed u.world i a
      → Sends u.world i a
  left_by (Op id call) is s run other l =
      let sender = h.before.framed.sound i a m there in
      let unaware = ap (λ (x : ServerState). has x.view i) (sym p.own) ∙ l.unaware in
      let up = run_up (op_ids (link u.world i a)) (s.from + 1) s.last run.1 in
      let took = seen_there t h.before i a m there (h.servers a p.here) id call is (h.servers i sender.sender).sound
      serve rooms (omega (arith, run.0, s.seen)) (omega (arith, run.0, up, s.issued)) unaware in
      record {
        from = s.from + 1;
        last = s.last;
        issued = ap (λ (v : ServerState). v.next_id) (p.others i other) ∙ s.issued;
        seen = omega (arith, run.0, took, ap (λ (v : ServerState). seen_of v i) p.own);
        run = run.1;
      }
  left_by (Forward e) is s run other l = kept s run other l
  left_by (Ack n) is s run other l = kept s run other l
  left_by (Query ask key) is s run other l = kept s run other l
  left_by (Answer ask n) is s run other l = kept s run other l

  sends_delivered : (Headed t.world i a → Sends t.world i a) → Headed u.world i a → Sends u.world i a
  sends_delivered f l =
      let apart = sender_apart t i a m (h.before.framed.sound i a m there) in
      let old = f (headed_other t u h a (From i m) p serve i a apart l) in
      left_by m.body refl old (subst (λ xs. IsRun old.from old.last xs) (ap (λ xs. op_ids xs) first) old.run) apart l

-- ---- events

-- an own entry that comes is the next one
expected_of : (t : Traced) → Lawful t → (a : ℕ) (input : Input) → HasCome t.world a input → IsExpected (server t.world a) input
expected_of t l a (Called port call) came = tt
expected_of t l a (From i m) came = expected t l i a m came
expected_of t l a (Gone j) came = tt

module _ (t u : Traced) (h : Follows t u) (before : Opening t.world) (rooms : HasRooms t.world) where
  opening_step : (a : ℕ) (input : Input) → Stepped t.world u.world a input → Opening u.world
  opening_step a input p =
      let s = server t.world a in
      let serves = serves_step s input (h.servers a p.here) p.fit p.valid (before.own a p.here) (before.first a p.here)
      (rooms.own a p.here) (expected_of t h.before a input p.came) in
      record {
        own = λ o l. elim (cases_eq o a) [
          | inl is ↦ rw (is, p.own) serves.own
          | inr other ↦ rw (p.others o other) (before.own o (rw (← h.later.count) l))
        ];
        first = λ o l. elim (cases_eq o a) [
          | inl is ↦ rw (is, p.own) serves.first
          | inr other ↦ rw (p.others o other) (before.first o (rw (← h.later.count) l))
        ];
        ops = λ x y. elim (cases_eq x a) [
          | inl own ↦ subst (λ z. Headed u.world z y → Sends u.world z y) (sym own)
              (sends_own t u h a input p serves y (before.ops a y))
          | inr other ↦ elim (p.links x y other) [
            | inl same ↦ sends_other t u h a input p serves x y other same (before.ops x y)
            | inr took ↦ subst (λ z. Headed u.world x z → Sends u.world x z) (sym took.0)
                (sends_delivered t u h rooms x a took.1 (subst (λ i. Stepped t.world u.world a i) took.3 p)
                (subst (λ i. Serves s i (step s i)) took.3 serves) took.2 (before.ops x a))
          ]
        ];
      }

  -- each event keeps them
  pub opening_happens : Effect t.world u.world → Opening u.world
  opening_happens (Stands still) = opening_still t.world u.world still before
  opening_happens (Steps a input p) = opening_step a input p

-- ---- the outset

own_opening : (i n : ℕ) → Own (opening i n) × HasSeen (opening i n)
own_opening i n =
    let none : seen_of (opening i n) i ≡ 0 = all_alike 16 i 0 in (
      record { answered = 0; last = 0; issued = refl; waiting = refl; taken = sym none; high = omega (arith, none) },
      λ _. omega (arith, none),
    )

-- before any event no update is open
pub opening_outset : (n : ℕ) (homes : List ℕ) → Opening (outset n homes).world
opening_outset n homes =
    let t = outset n homes in
    let is = λ (i : ℕ) (l : i < count t). server_outset n homes i (rw (count_outset n homes) at l) in
    record {
      own = λ i l. rw (is i l) (own_opening i n).0;
      first = λ i l. rw (is i l) (own_opening i n).1;
      ops = λ x y l. record {
        from = 0;
        last = 0;
        issued = ap (λ (s : ServerState). s.next_id) (is x l.here);
        seen = omega arith;
        run = rw (link_outset n homes x y) refl;
      };
    }
