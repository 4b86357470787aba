-- A step keeps the streams between servers: those of others stay, and the server's own go on.
use Rattle.std.proofs.Common.{◌≡◌, ◌≢◌, ℕ, suc, ◌<◌, ◌≤◌, false, List, [], ◌∷◌, ◌++◌, length, Some, refl, sym, ap}
use Rattle.std.proofs.Common.{subst, ◌∙◌, arith, inl, inr}
use Rattle.versions.specs.Entries.{LogEntry}
use Rattle.versions.specs.Stores.{last_number}
use Rattle.node.specs.declared.messages.Body.{Body}
use Rattle.node.specs.declared.messages.Body.TheVariants.{Op, Forward, Ack, Query, Answer}
use Rattle.node.specs.declared.messages.Input.{Input}
use Rattle.node.specs.declared.messages.Peer.{Peer}
use Rattle.node.specs.Views.{has, successor}
use Rattle.node.specs.Servers.{predecessor_of, successor_of}
use Rattle.node.specs.Steps.{step}
use Rattle.world.specs.Worlds.{server, link}
use Rattle.node.proofs.Lists.{In, in_front, in_behind}
use Rattle.world.proofs.trace.Traces.{Traced, log, count}
use Rattle.world.proofs.trace.Layers.{Later, Goes, Framed, Logged}
use Rattle.node.proofs.Beginnings.{begins-length}
use Rattle.world.proofs.layers.HeldLogs.{held_last}
use Rattle.world.proofs.trace.IdLaws.{successor_found, following_from, predecessor_found}
use Rattle.world.proofs.streams.Streaming.{forwarded_number, numbers, sent_to, Linked, Stream, LinkedBack, IsTold}
use Rattle.world.proofs.streams.ForwardRuns.{run-append, run_as, brought-append, in_sent}
use Rattle.world.proofs.streams.StepTellings.{some_or_not, Informs, informs_step}
use Rattle.world.proofs.streams.Stepped.{Stepped, Follows}
use Rattle.world.proofs.layers.LoggedLaws.{still_out}

-- ---- what a lawful world tells

-- a server's last number is the length of its log
pub last_is : (t : Traced) → Logged t → (i : ℕ) → i < count t → last_number (server t.world i).store ≡ length (log t i)
last_is t h i l = held_last (log t i) (server t.world i).store (h.holds i l)

-- no server's last number falls
pub last_later : (t u : Traced)
    → Logged t
    → Logged u
    → Later t u
    → (i : ℕ)
    → i < count t
    → last_number (server t.world i).store ≤ last_number (server u.world i).store
last_later t u h g l i a = omega (arith, last_is t h i a, last_is u g i (rw l.count a), begins-length _ _ (l.logs i))

-- a server's successor is that of its view in the chain of the world
pub next_in : (t : Traced)
    → Framed t
    → (i : ℕ)
    → i < count t
    → successor_of (server t.world i) ≡ successor (server t.world i).view (count t) i
next_in t f i l = rw (f.id i l, f.chain i l) refl

number_step : (b : Body) (ks : List ℕ) → ((e : LogEntry) → b ≡ Forward e → ⊥) → ks ≡ [] → forwarded_number b ++ ks ≡ []
number_step (Op id call) ks f h = h
number_step (Forward e) ks f h = absurd (f e refl)
number_step (Ack n) ks f h = h
number_step (Query ask key) ks f h = h
number_step (Answer ask n) ks f h = h

no_forwards : (ms : List Peer) → ((m : Peer) → In m ms → (e : LogEntry) → m.body ≡ Forward e → ⊥) → numbers ms ≡ []
no_forwards [] f = refl
no_forwards (m ∷ ms) f =
    number_step m.body (numbers ms) (λ e h. f m (0, refl) e h) (no_forwards ms (λ x g e h. f x (suc g.0, g.1) e h))

-- no forward is on its way to a server that isn't next
nothing_sent : (t : Traced)
    → Framed t
    → (a y : ℕ)
    → a < count t
    → y < count t
    → has (server t.world a).view y ≡ false
    → (successor_of (server t.world a) ≡ Some y → ⊥)
    → numbers (link t.world a y) ≡ []
nothing_sent t f a y here inside out other =
    no_forwards (link t.world a y) (λ m i e is.
    let s = f.sound a y m i in
    let g : Goes a y m.view (count t) (Forward e) = subst (λ b. Goes a y m.view (count t) b) is s.goes in
    other (next_in t f a here ∙ following_from (server t.world a).view (count t) a y
    (record { above = g.0; within = inside; out = out; between = λ x p q. s.part x (g.1 x p q) })))

-- ---- forwards

module _ (t u : Traced) (h : Follows t u) (a : ℕ) (input : Input) (p : Stepped t.world u.world a input) where
  informs : Informs (server t.world a) (step (server t.world a) input)
  informs = informs_step (server t.world a) input (h.servers a p.here) p.fit p.valid

  -- who is linked to its successor after another's step was so before it
  pub linked_other : (x y : ℕ) → x ≢ a → Linked u.world x y → Linked t.world x y
  linked_other x y other l = record {
    here = rw (← h.later.count) l.here;
    inside = rw (← h.later.count) l.inside;
    successor = ap (λ s. successor_of s) (sym (p.others x other)) ∙ l.successor;
    unaware = still_out t u h.later y x l.unaware;
    alive = ap (λ v. has v y) (sym p.failed) ∙ l.alive;
  }

  -- what another server forwards stays on its way
  pub forwards_other : (x y : ℕ)
      → x ≢ a
      → link u.world x y ≡ link t.world x y
      → (Linked t.world x y → Stream t.world x y)
      → Linked u.world x y
      → Stream u.world x y
  forwards_other x y other same f l =
      let old = linked_other x y other l in
      let s = f old in
      record {
        from = s.from;
        reached = omega (arith, s.reached, last_later t u h.before.logged h.after.logged h.later y old.inside);
        run = rw (p.others x other, same) s.run;
      }

  -- what the server that steps forwards goes on
  pub forwards_own : (y : ℕ) → (Linked t.world a y → Stream t.world a y) → Linked u.world a y → Stream u.world a y
  forwards_own y f l =
      let o = step (server t.world a) input in
      let inside : y < count t = rw (← h.later.count) l.inside in
      let follows = successor_found (server u.world a) y l.successor in
      let above : a < y = omega (arith, follows.above, h.after.framed.id a l.here) in
      let apart : y ≢ a = λ e. omega (arith, e, above) in
      let to : successor_of o.state ≡ Some y = ap (λ s. successor_of s) (sym p.own) ∙ l.successor in
      let now : numbers (link u.world a y) ≡ numbers (link t.world a y) ++ numbers (sent_to y o.outputs) =
      ap (λ ms. numbers ms) (p.sent y inside) ∙ brought-append forwarded_number (link t.world a y) (sent_to y o.outputs) in
      let last : last_number (server u.world a).store ≡ last_number o.state.store =
      ap (λ s. last_number s.store) p.own in
      elim (some_or_not (successor_of (server t.world a)) y) [
        | inl was ↦ (let s = f
            (record {
              here = p.here;
              inside = inside;
              successor = was;
              unaware = ap (λ s. has s.view a) (sym (p.others y apart)) ∙ l.unaware;
              alive =
                  ap (λ v. has v y) (sym p.failed) ∙ l.alive;
            }) in
            record {
              from = s.from;
              reached = omega (arith, s.reached, last_later t u h.before.logged h.after.logged h.later y inside);
              run = run_as s.from s.from _ _ _ _ refl last now
                  (run-append _ _ s.from (last_number (server t.world a).store) (last_number o.state.store) s.run
                  (informs.same y was to));
            })
        | inr new ↦ (let none = nothing_sent t h.before.framed a y p.here inside
            (still_out t u h.later a y follows.out) new in
            let told = h.after.logged.acks a y above l.inside follows.out in
            let r = informs.new y new to in
            let acked : (server u.world a).store.acked ≡ o.state.store.acked = ap (λ s. s.store.acked) p.own in
            record {
              from = r.0;
              reached = omega (
                arith,
                r.1,
                acked,
                told,
                (h.after.logged.holds y l.inside).acked,
                last_is u h.after.logged y l.inside,
              );
              run = run_as _ _ _ _ _ _ refl last (now ∙ ap (λ ks. ks ++ numbers (sent_to y o.outputs)) none) r.2;
            })
      ]

  -- ---- commit numbers

  -- who is linked to its predecessor after another's step was so before it
  pub linked_back_other : (x y : ℕ) → y ≢ a → LinkedBack u.world x y → LinkedBack t.world x y
  linked_back_other x y other l = record {
    here = rw (← h.later.count) l.here;
    inside = rw (← h.later.count) l.inside;
    predecessor = ap (λ s. predecessor_of s) (sym (p.others y other)) ∙ l.predecessor;
    unaware = still_out t u h.later x y l.unaware;
    alive = ap (λ v. has v x) (sym p.failed) ∙ l.alive;
  }

  -- what another server tells its predecessor stays on its way
  pub acks_other : (x y : ℕ)
      → y ≢ a
      → link u.world y x ≡ link t.world y x
      → (LinkedBack t.world x y → IsTold t.world x y)
      → LinkedBack u.world x y
      → IsTold u.world x y
  acks_other x y other same f l =
      elim (f (linked_back_other x y other l)) [
        | inl low ↦ inl (omega (arith, ap (λ s. s.store.acked) (p.others y other), low, h.later.acks x))
        | inr g ↦ inr (g.0, g.1, rw same g.2, g.3, omega (arith, ap (λ s. s.store.acked) (p.others y other), g.4))
      ]

  -- what the server that steps tells its predecessor goes on
  pub acks_own : (x : ℕ) → (LinkedBack t.world x a → IsTold t.world x a) → LinkedBack u.world x a → IsTold u.world x a
  acks_own x f l =
      let o = step (server t.world a) input in
      let below : x < a =
      omega (arith, (predecessor_found (server u.world a) x l.predecessor).below, h.after.framed.id a l.inside) in
      let apart : x ≢ a = λ e. omega (arith, e, below) in
      let inside : x < count t = rw (← h.later.count) l.here in
      let from : predecessor_of o.state ≡ Some x = ap (λ s. predecessor_of s) (sym p.own) ∙ l.predecessor in
      let acked : (server u.world a).store.acked ≡ o.state.store.acked = ap (λ s. s.store.acked) p.own in
      elim (informs.acks x from) [
        | inl old ↦ elim (f (record {
          here = inside;
          inside = p.here;
          predecessor = old.0;
          unaware = ap (λ s. has s.view a) (sym (p.others x apart)) ∙ l.unaware;
          alive = ap (λ v. has v x) (sym p.failed) ∙ l.alive;
        })) [
          | inl low ↦ inl (omega (arith, acked, old.1, low, h.later.acks x))
          | inr g ↦ inr (
            g.0,
            g.1,
            rw (p.sent x inside) (in_front (link t.world a x) (sent_to x o.outputs) g.0 g.2),
            g.3,
            omega (arith, acked, old.1, g.4),
          )
        ]
        | inr new ↦ inr (
          new.0,
          new.1,
          rw (p.sent x inside)
              (in_behind (link t.world a x) (sent_to x o.outputs) new.0 (in_sent x new.0 o.outputs new.2.0 new.2.1)),
          new.3,
          omega (arith, acked, new.4),
        )
      ]
