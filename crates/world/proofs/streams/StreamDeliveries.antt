-- A delivery keeps the stream whose first message is delivered.
use Rattle.std.proofs.Common.{◌≡◌, ◌≢◌, ℕ, ◌+◌, ◌<◌, ◌≤◌, true, false, ◌∷◌, ◌++◌, Some, refl, sym, ap, subst, ◌∙◌}
use Rattle.std.proofs.Common.{arith, inl, inr}
use Rattle.std.specs.Prelude.{max, bit_or}
use Rattle.std.specs.Int.{bit_at}
use Rattle.std.proofs.lemmas.Bool.{cases_eq, cases_lt, and_from, lt-ltb, ltb-true, eq-eqb, eqb-true, ne_eqb}
use Rattle.std.proofs.lemmas.Bool.{not_from_false}
use Rattle.std.proofs.lemmas.Nat.{le_or_r}
use Rattle.std.proofs.lemmas.Nat.Bits.{bit_at_or, bit_at-lt, same_from_bits}
use Rattle.versions.specs.Entries.{LogEntry}
use Rattle.versions.specs.Stores.{last_number}
use Rattle.node.specs.declared.messages.Body.{Body}
use Rattle.node.specs.declared.messages.Body.TheVariants.{Op, Forward, Ack, Query, Answer}
use Rattle.node.specs.declared.messages.Peer.{Peer}
use Rattle.node.specs.declared.messages.Input.TheVariants.{From}
use Rattle.node.specs.Views.{View, has, is_below, predecessor}
use Rattle.node.specs.Servers.{ServerState, predecessor_of, successor_of}
use Rattle.node.specs.Steps.{is_heard, step}
use Rattle.node.specs.Lawful.{IsSound}
use Rattle.world.specs.Worlds.{server, link}
use Rattle.node.proofs.Lists.{in_more}
use Rattle.world.proofs.trace.Traces.{Traced, count}
use Rattle.world.proofs.layers.Addressed.{sender_apart}
use Rattle.world.proofs.trace.Layers.{Goes, Carries, IsAddressed, Framed}
use Rattle.node.proofs.Beginnings.{begins-length}
use Rattle.world.proofs.trace.IdLaws.{following_from, predecessor_from, predecessor_found}
use Rattle.node.specs.Actions.{IsTakenIn}
use Rattle.node.proofs.DoneSteps.{step_whole}
use Rattle.world.proofs.streams.Streaming.{forwarded_number, numbers, IsRun, Linked, Stream, LinkedBack, IsTold}
use Rattle.world.proofs.streams.StepTellings.{Informs, informs_step}
use Rattle.world.proofs.streams.Stepped.{Stepped, Follows}
use Rattle.world.proofs.streams.StreamSteps.{next_in, last_is, last_later, linked_other, linked_back_other}

-- ---- a message that is heard

one_of : (x y : ℕ) → x < 2 → y < 2 → (y ≡ 1 → x ≡ 1) → max x y ≡ x
one_of x y a b f = elim (cases_eq y 1) [
  | inl same ↦ omega (arith, same, f same)
  | inr other ↦ (let none : y
      ≡ 0 = elim (cases_lt y 1) [ inl l ↦ omega (arith, l) | inr g ↦ absurd (other (omega (arith, g, b))) ] in omega
      (arith, none))
]

part_bits : (u v : View) → ((k : ℕ) → has v k ≡ true → has u k ≡ true) → (k : ℕ) → bit_at v k ≡ 1 → bit_at u k ≡ 1
unfolding has
part_bits u v f k e = eqb-true _ _ (f k (eq-eqb _ _ e))

-- a part of a view names no server that the view doesn't
part-below : (u v : View) (n : ℕ)
    → ((k : ℕ) → has v k ≡ true → has u k ≡ true)
    → is_below u n ≡ true
    → is_below v n ≡ true
unfolding is_below
part-below u v n f h =
    let whole : bit_or u v ≡ u =
    same_from_bits (bit_or u v) u
    (λ k. bit_at_or u v k ∙ one_of (bit_at u k) (bit_at v k) (bit_at-lt u k) (bit_at-lt v k)
    (part_bits u v f k)) in
    lt-ltb _ _ (omega (arith, le_or_r u v, whole, ltb-true _ _ h))

-- an addressed message is heard where it arrives
pub is_heard_there : (t : Traced) (i a : ℕ) (m : Peer)
    → Framed t
    → IsAddressed t i a m
    → IsSound (server t.world i)
    → is_heard (server t.world a) i m.view ≡ true
is_heard_there t i a m f h s =
    let below : is_below m.view (count t) ≡ true =
    part-below (server t.world i).view m.view (count t) h.part
    (ap (λ n. is_below (server t.world i).view n) (sym (f.chain i h.sender)) ∙ s.within) in
    rw (f.chain a h.receiver, f.id a h.receiver)
    (and_from _ _ (and_from _ _
    (and_from _ _ (lt-ltb _ _ h.sender) (not_from_false _ (ne_eqb i a (sender_apart t i a m h)))) below)
    (not_from_false _ h.to))

module _ (t u : Traced) (h : Follows t u) (i a : ℕ) (m : Peer) (p : Stepped t.world u.world a (From i m))
    (first : link t.world i a ≡ m ∷ link u.world i a) where
  addressed : IsAddressed t i a m
  addressed = h.before.framed.sound i a m (rw first (0, refl))

  informs : Informs (server t.world a) (step (server t.world a) (From i m))
  informs = informs_step (server t.world a) (From i m) (h.servers a p.here) p.fit p.valid

  -- what the message says is taken in
  heeded : ((k : ℕ) → has m.view k ≡ true → has (server u.world a).view k ≡ true)
      × (has (server u.world a).view i ≡ false → IsTakenIn i m.body (step (server t.world a) (From i m)))
  heeded = rw p.own
      ((step_whole (server t.world a) (From i m) (h.servers a p.here) p.fit p.valid).heeded
      (is_heard_there t i a m h.before.framed addressed (h.servers i addressed.sender).sound))

  -- ---- the stream of forwards

  -- the next entry is appended, if it wasn't yet
  reached_next : (e : LogEntry) (f : ℕ)
      → m.body ≡ Forward e
      → e.number ≡ f + 1
      → f ≤ last_number (server t.world a).store
      → has (server u.world a).view i ≡ false
      → f + 1 ≤ last_number (server u.world a).store
  reached_next e f is number low unaware =
      let s = server u.world a in
      let g : Goes i a m.view (count t) (Forward e) = subst (λ b. Goes i a m.view (count t) b) is addressed.goes in
      let from : predecessor_of s ≡ Some i = ap (λ x. predecessor s.view x) (h.after.framed.id a (rw h.later.count p.here))
      ∙ predecessor_from s.view a i
      (record { below = g.0; out = unaware; between = λ x p q. heeded.0 x (g.1 x p q) }) in
      let took : predecessor_of s ≡ Some i → e.number ≢ last_number s.store + 1 =
      subst (λ b. IsTakenIn i b (record { state = s; outputs = (step (server t.world a) (From i m)).outputs })) is
      (rw p.own (heeded.1 unaware)) in
      elim (cases_lt (last_number s.store) (f + 1)) [
        | inr held ↦ held
        | inl less ↦ absurd
            (took from (omega
            (arith, number, less, low, informs.last, ap (λ (x : ServerState). last_number x.store) p.own)))
      ]

  -- a message of another kind leaves it
  same_stream : (s : Stream t.world i a)
      → IsRun s.from (last_number (server t.world i).store) (numbers (link u.world i a))
      → i ≢ a
      → Stream u.world i a
  same_stream s run apart = record {
    from = s.from;
    reached = omega (arith, s.reached, last_later t u h.before.logged h.after.logged h.later a p.here);
    run = rw (p.others i apart) run;
  }

  stream_step : (b : Body)
      → m.body ≡ b
      → (s : Stream t.world i a)
      → IsRun s.from (last_number (server t.world i).store) (forwarded_number b ++ numbers (link u.world i a))
      → i ≢ a
      → has (server u.world a).view i ≡ false
      → Stream u.world i a
  stream_step (Forward e) is s run apart unaware = record {
    from = s.from + 1;
    reached = reached_next e s.from is run.0 s.reached unaware;
    run = rw (p.others i apart) run.1;
  }
  stream_step (Op id call) is s run apart unaware = same_stream s run apart
  stream_step (Ack n) is s run apart unaware = same_stream s run apart
  stream_step (Query ask key) is s run apart unaware = same_stream s run apart
  stream_step (Answer ask n) is s run apart unaware = same_stream s run apart

  -- what the sender of the message forwards to its receiver goes on after the delivery
  pub forwards_delivered : (Linked t.world i a → Stream t.world i a) → Linked u.world i a → Stream u.world i a
  forwards_delivered f l =
      let apart = sender_apart t i a m addressed in
      let s = f (linked_other t u h a (From i m) p i a apart l) in
      stream_step m.body refl s
      (subst (λ xs. IsRun s.from (last_number (server t.world i).store) xs) (ap (λ xs. numbers xs) first) s.run) apart
      l.unaware

  -- ---- the commit number

  -- the sender's number is reached
  reached_ack : (n : ℕ)
      → m.body ≡ Ack n
      → predecessor_of (server t.world i) ≡ Some a
      → has (server u.world a).view i ≡ false
      → n ≤ (server u.world a).store.acked
  reached_ack n is before unaware =
      let s = server u.world a in
      let here : a < count u = rw h.later.count p.here in
      let g : Goes i a m.view (count t) (Ack n) = subst (λ b. Goes i a m.view (count t) b) is addressed.goes in
      let c : Carries t i m.view (Ack n) =
      subst (λ b. Carries t i m.view b) is (h.before.logged.carries i a m (rw first (0, refl))) in
      let held = (h.before.logged.holds i addressed.sender).acked in
      let begins = begins-length _ _
      (h.before.logged.begins a i g.0 addressed.sender (predecessor_found (server t.world i) a before).out) in
      let inside : i < count u = rw h.later.count addressed.sender in
      let following : successor_of s ≡ Some i = next_in u h.after.framed a here
      ∙ following_from s.view (count u) a i
      (record { above = g.0; within = inside; out = unaware; between = λ x p q. heeded.0 x (g.1 x p q) }) in
      let took : successor_of s ≡ Some i → n ≤ last_number s.store → n ≤ s.store.acked =
      subst (λ b. IsTakenIn i b (record { state = s; outputs = (step (server t.world a) (From i m)).outputs })) is
      (rw p.own (heeded.1 unaware)) in
      took following (omega (
        arith,
        c.0,
        held,
        begins,
        last_is t h.before.logged a p.here,
        informs.last,
        ap (λ (x : ServerState). last_number x.store) p.own,
      ))

  -- the receiver of the message has what its sender acknowledged, or is told, after the delivery
  pub acks_delivered : (LinkedBack t.world a i → IsTold t.world a i) → LinkedBack u.world a i → IsTold u.world a i
  acks_delivered f l =
      let apart = sender_apart t i a m addressed in
      let old = linked_back_other t u h a (From i m) p a i apart l in
      let same = ap (λ s. s.store.acked) (p.others i apart) in
      elim (f old) [
        | inl low ↦ inl (omega (arith, same, low, h.later.acks a))
        | inr g ↦ elim (in_more m (link u.world i a) g.0 (rw first at g.2)) [
          | inl it ↦ inl (omega
              (arith, same, g.4, reached_ack g.1 (ap (λ x. x.body) (sym it) ∙ g.3) old.predecessor l.unaware))
          | inr behind ↦ inr (g.0, g.1, behind, g.3, omega (arith, same, g.4))
        ]
      ]
