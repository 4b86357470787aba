-- A step keeps what is on its way to heads: what others send stays, and the server's own goes on.
use Rattle.std.proofs.Common.{◌≡◌, ◌≢◌, ℕ, suc, ◌<◌, ◌≤◌, false, List, [], ◌∷◌, ◌++◌, length, take, drop, Some, refl}
use Rattle.std.proofs.Common.{sym, ap, subst, ◌∙◌, arith, inl, inr, ◌⊎◌}
use Rattle.std.proofs.lemmas.Bool.{cases_eq, cases_lt, both_ways, false_from_ne_true}
use Rattle.std.proofs.lemmas.Option.{same_Some}
use Rattle.std.proofs.lemmas.List.{take-append-drop, take_all}
use Rattle.versions.specs.Entries.{LogEntry}
use Rattle.node.specs.declared.messages.Body.{Body}
use Rattle.node.specs.declared.messages.Body.TheVariants.{Op, Forward, Ack, Query, Answer}
use Rattle.node.specs.declared.messages.Peer.{Peer}
use Rattle.node.specs.Views.{has, head}
use Rattle.node.specs.declared.messages.Input.{Input}
use Rattle.node.specs.Servers.{ServerState, seen_of, head_of, is_head}
use Rattle.node.specs.Steps.{step}
use Rattle.table.specs.declared.operations.Call.{Call}
use Rattle.world.specs.Worlds.{server, link}
use Rattle.node.proofs.Lists.{In, Begins}
use Rattle.world.proofs.trace.Traces.{Traced, log, count}
use Rattle.world.proofs.trace.Layers.{Goes, Framed, Lawful, entries_of}
use Rattle.node.proofs.Beginnings.{begins-take}
use Rattle.world.proofs.trace.IdLaws.{that_is, head_of_is, head_from}
use Rattle.world.proofs.calls.EntryCounts.{entries-joined}
use Rattle.world.proofs.streams.Streaming.{sent_to}
use Rattle.world.proofs.streams.ForwardRuns.{run-append, brought-append}
use Rattle.world.proofs.streams.StepTellings.{some_or_not}
use Rattle.world.proofs.streams.Stepped.{Stepped, Follows}
use Rattle.world.proofs.waiting.Opening.{op_id, op_ids, Headed, Sends}
use Rattle.world.proofs.waiting.HeadOps.{ops_to}
use Rattle.world.proofs.waiting.OpenSteps.{Serves}
use Rattle.world.proofs.layers.LoggedLaws.{still_out}

-- ---- what a lawful world tells

op_step : (b : Body) (ks : List ℕ) → ((id : ℕ) (call : Call) → b ≡ Op id call → ⊥) → ks ≡ [] → op_id b ++ ks ≡ []
op_step (Op id call) ks f h = absurd (f id call refl)
op_step (Forward e) ks f h = h
op_step (Ack n) ks f h = h
op_step (Query ask key) ks f h = h
op_step (Answer ask n) ks f h = h

none_of : (ms : List Peer) → ((m : Peer) → In m ms → (id : ℕ) (call : Call) → m.body ≡ Op id call → ⊥) → op_ids ms ≡ []
none_of [] f = refl
none_of (m ∷ ms) f = op_step m.body (op_ids ms) (λ id call h. f m (0, refl) id call h)
    (none_of ms (λ x g id call h. f x (suc g.0, g.1) id call h))

-- whom a server takes for the head is that of its view in the chain of the world
pub head_in : (t : Traced)
    → Framed t
    → (i : ℕ)
    → i < count t
    → head_of (server t.world i) ≡ head (server t.world i).view (count t)
head_in t f i l = rw (f.chain i l) refl

-- no update is on its way to a server that isn't the head
none_sent : (t : Traced)
    → Framed t
    → (a y : ℕ)
    → a < count t
    → y < count t
    → has (server t.world a).view y ≡ false
    → (head_of (server t.world a) ≡ Some y → ⊥)
    → op_ids (link t.world a y) ≡ []
none_sent t f a y here inside out other =
    none_of (link t.world a y) (λ m i id call is.
    let s = f.sound a y m i in
    let g : Goes a y m.view (count t) (Op id call) = subst (λ b. Goes a y m.view (count t) b) is s.goes in
    other (head_in t f a here ∙ head_from (server t.world a).view (count t) y
    (record { within = inside; out = out; below = λ x p. s.part x (g.1 x p) })))

-- a beginning has at most as many entries of an origin
pub fewer_entries : (o : ℕ) (xs ys : List LogEntry) → Begins xs ys → entries_of o xs ≤ entries_of o ys
fewer_entries o xs ys h =
    let front : take (length xs) ys ≡ xs =
    begins-take (length xs) xs ys h (omega arith) ∙ take_all (length xs) xs (omega arith) in
    let whole = ap (λ es. entries_of o es) (sym (take-append-drop (length xs) ys)) in
    omega (arith, whole, entries-joined o (take (length xs) ys) (drop (length xs) ys), ap (λ es. entries_of o es) front)

-- who comes before in the chain has seen more
pub seen_before : (t : Traced)
    → Lawful t
    → (a y : ℕ)
    → a < count t
    → y < a
    → has (server t.world a).view y ≡ false
    → seen_of (server t.world a) a ≤ seen_of (server t.world y) a
seen_before t l a y here below out =
    let low : a < 16 = omega (arith, here, l.framed.most) in
    omega (
      arith,
      l.calling.seen a a here low,
      l.calling.seen y a (omega (arith, below, here)) low,
      fewer_entries a (log t a) (log t y) (l.logged.begins y a below here out),
    )

below_or_above : (x y : ℕ) → x ≢ y → (x < y) ⊎ (y < x)
below_or_above x y other = elim (cases_lt x y) [
  | inl low ↦ inl low
  | inr high ↦ elim (cases_eq x y) [ inl e ↦ absurd (other e) | inr apart ↦ inr (omega (arith, high, apart)) ]
]

-- ---- updates on their way

module _ (t u : Traced) (h : Follows t u) (a : ℕ) (input : Input) (p : Stepped t.world u.world a input)
    (serves : Serves (server t.world a) input (step (server t.world a) input)) where
  -- who has a head after another's step had it before
  pub headed_other : (x y : ℕ) → x ≢ a → Headed u.world x y → Headed t.world x y
  headed_other x y other l = record {
    here = rw (← h.later.count) l.here;
    inside = rw (← h.later.count) l.inside;
    head = ap (λ s. head_of s) (sym (p.others x other)) ∙ l.head;
    other = l.other;
    unaware = still_out t u h.later y x l.unaware;
  }

  -- more is seen
  pub seen_later : (x y : ℕ) → x < count t → seen_of (server t.world y) x ≤ seen_of (server u.world y) x
  seen_later x y inside = elim (cases_eq y a) [
    | inl own ↦ rw own
        (omega (arith, serves.seen x (omega (arith, inside, h.before.framed.most)), ap (λ s. seen_of s x) p.own))
    | inr other ↦ omega (arith, ap (λ s. seen_of s x) (p.others y other))
  ]

  -- what another server sends to its head stays on its way
  pub sends_other : (x y : ℕ)
      → x ≢ a
      → link u.world x y ≡ link t.world x y
      → (Headed t.world x y → Sends t.world x y)
      → Headed u.world x y
      → Sends u.world x y
  sends_other x y other same f l =
      let old = headed_other x y other l in
      let s = f old in
      record {
        from = s.from;
        last = s.last;
        issued = ap (λ v. v.next_id) (p.others x other) ∙ s.issued;
        seen = omega (arith, s.seen, seen_later x y old.here);
        run = rw same s.run;
      }

  -- what the server that steps sends to its head goes on
  pub sends_own : (y : ℕ) → (Headed t.world a y → Sends t.world a y) → Headed u.world a y → Sends u.world a y
  sends_own y f l =
      let o = step (server t.world a) input in
      let inside : y < count t = rw (← h.later.count) l.inside in
      let is : o.state.id ≡ a = serves.id ∙ h.before.framed.id a p.here in
      let first = head_of_is (server u.world a) y l.head in
      let to : head_of o.state ≡ Some y = ap (λ s. head_of s) (sym p.own) ∙ l.head in
      let apart : is_head o.state ≡ false =
      false_from_ne_true _ (λ e. l.other (same_Some y a (sym to ∙ that_is _ o.state.id e ∙ ap Some is))) in
      let out = still_out t u h.later a y first.out in
      let now : op_ids (link u.world a y) ≡ op_ids (link t.world a y) ++ ops_to y o.outputs =
      ap (λ ms. op_ids ms) (p.sent y inside) ∙ brought-append op_id (link t.world a y) (sent_to y o.outputs) in
      let issued = ap (λ s. s.next_id) p.own in
      elim (some_or_not (head_of (server t.world a)) y) [
        | inl was ↦
            let s = f (record {
              here = p.here;
              inside = inside;
              head = was;
              other = l.other;
              unaware = ap (λ s. has s.view a) (sym (p.others y l.other)) ∙ l.unaware;
            }) in
            let r = serves.same y was to apart s.last s.issued in
            record {
              from = s.from;
              last = r.0;
              issued = issued ∙ r.1;
              seen = omega (arith, s.seen, seen_later a y p.here);
              run = rw now (run-append _ _ s.from s.last r.0 s.run r.2);
            }
        | inr new ↦
            let none = none_sent t h.before.framed a y p.here inside out new in
            let r = serves.new y new to apart in
            let below : y < a =
            elim (below_or_above y a l.other) [
              | inl low ↦ low
              | inr high ↦ absurd
                  (both_ways _ (h.after.framed.own a (rw h.later.count p.here)) (first.below a high))
            ] in
            record {
              from = r.0;
              last = r.1;
              issued = issued ∙ r.3;
              seen = omega (
                arith,
                r.2,
                ap (λ i. seen_of o.state i) is,
                ap (λ (v : ServerState). seen_of v a) p.own,
                seen_before u h.after a y (rw h.later.count p.here) below first.out,
              );
              run = rw (now, none) r.4;
            }
      ]
