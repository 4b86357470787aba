-- After an action: each issued update is out, none is issued twice, and replies are answers.
use Rattle.std.proofs.Common.{◌≡◌, ℕ, ◌+◌, ◌<◌, true, List, length, Some, refl, arith, ◌⊎◌, inl, inr, ap, sym, ◌∙◌}
use Rattle.std.proofs.Common.{subst, length-append}
use Rattle.std.specs.Prelude.{slice_get}
use Rattle.std.proofs.lemmas.Bool.{cases_eq}
use Rattle.table.specs.Operations.{is_update}
use Rattle.table.specs.declared.operations.Call.{Call}
use Rattle.table.specs.declared.operations.Reply.{Reply}
use Rattle.node.specs.declared.servers.OpenRead.{OpenRead}
use Rattle.node.specs.declared.messages.Body.{Body}
use Rattle.node.specs.declared.messages.Body.TheVariants.{Op, Forward, Ack, Query, Answer}
use Rattle.node.specs.declared.messages.Peer.{Peer}
use Rattle.node.specs.declared.messages.Output.{Output}
use Rattle.node.specs.declared.messages.Input.TheVariants.{Call as Called}
use Rattle.node.specs.Servers.{ServerState}
use Rattle.node.specs.Numbering.{appended, entered}
use Rattle.node.specs.Reading.{asked}
use Rattle.node.specs.Joining.{widened}
use Rattle.node.specs.Steps.{trimmed}
use Rattle.world.specs.declared.connections.Stage.TheVariants.{Asked, Replied}
use Rattle.world.specs.Connections.{Connection}
use Rattle.world.specs.Worlds.{server, link}
use Rattle.world.specs.Calls.{CallId, begun_call, reply_to}
use Rattle.node.proofs.Lists.{In, in_pushed}
use Rattle.node.specs.Actions.{Action, Widen, Append, Reach, Settle, Send, Finish, Trim, Enter, Ask, Show, act, Cause}
use Rattle.world.proofs.trace.Traces.{Traced, issued_by, count, open_id, done}
use Rattle.world.proofs.trace.Layers.{IsWith, IsAnswer, IsKnown, Asks}
use Rattle.world.proofs.trace.WorldLaws.{Answers}
use Rattle.world.proofs.trace.TraceLaws.{new_issued, server_done, server_other, link_done, issued_other, issued_done}
use Rattle.world.proofs.trace.TraceLaws.{connection_done, connection_before, begun_done, replied_done}
use Rattle.node.proofs.OpenLists.{in_without}
use Rattle.world.proofs.calls.Kept.{answer_later, asks_later}
use Rattle.world.proofs.calls.OpenIds.{open_id_is, ordinal_of, with_begun}
use Rattle.world.proofs.calls.StepInputs.{IsStep, within, known_of}
use Rattle.world.proofs.calls.Replying.{given}
use Rattle.world.proofs.calls.CallsDone.{IsEntered, in_issued}

-- ---- issued updates

-- the call of this ordinal is with its server, or has a reply, which was handed over or waits
abbrev pub IsOut : ℕ → Connection → Type 0
IsOut ordinal c = (ordinal < length c.replies)
    ⊎ ((ordinal ≡ length c.replies) × ((c.stage ≡ Asked) ⊎ ((reply : Reply) × (c.stage ≡ Replied reply))))

out_kept : (os : List Output) (c ordinal : ℕ) (k l : Connection) → Answers os c k l → IsOut ordinal k → IsOut ordinal l
out_kept os c ordinal k l (inl same) h = rw same h
out_kept os c ordinal k l (inr answered) (inl less) = rw answered.4 (inl less)
out_kept os c ordinal k l (inr answered) (inr open_one) = rw answered.4 (inr (open_one.0, inr (answered.0, refl)))

home_kept : (os : List Output) (c : ℕ) (k l : Connection) → Answers os c k l → l.home ≡ k.home
home_kept os c k l (inl same) = rw same refl
home_kept os c k l (inr answered) = rw answered.4 refl

-- an issued update is a begun call of a connection at its origin, and is out
abbrev pub IsBegunAt : Traced → ℕ → CallId → Type 0
IsBegunAt t o x =
    (call : Call) × (c : Connection) × (begun_call t.world x ≡ Some call) × (is_update call.op ≡ true)
    × (slice_get t.world.connections x.connection ≡ Some c) × (c.home ≡ o) × IsOut x.ordinal c

out_done : (t : Traced) (i : ℕ) (a : Action) (o : ℕ) (x : CallId) → IsBegunAt t o x → IsBegunAt (done t i a) o x
out_done t i a o x h =
    let k = connection_done t i a x.connection h.1 h.4 in (
      h.0,
      k.0,
      begun_done t i a x ∙ h.2,
      h.3,
      k.1,
      home_kept _ x.connection h.1 k.0 k.2 ∙ h.5,
      out_kept _ x.connection x.ordinal h.1 k.0 k.2 h.6,
    )

-- what is known if an update enters
entered_known : (t : Traced) (i : ℕ) (cause : Cause) (a : Action) (o k : ℕ) (x : CallId)
    → IsStep t i cause a
    → (e : IsEntered t i a o k x)
    → IsKnown t i (Some (Called e.port e.call)) × (is_update e.call.op ≡ true)
entered_known t i cause a o k x g e =
    let s = subst (λ b. IsStep t i cause b) e.is g in
    (known_of t i cause (Some (Called e.port e.call)) s.guard.0 s.known, s.guard.2)

with_out : (t : Traced) (o c : ℕ) (call : Call)
    → IsWith t o c call
    → is_update call.op ≡ true
    → IsBegunAt t o (open_id t.world c)
with_out t o c call h update = (
  call,
  h.connection,
  with_begun t o c call h,
  update,
  h.here,
  h.home,
  inr (ordinal_of t.world c h.connection h.here, inl h.stage),
)

-- after an action each issued update is a begun call of a connection at its origin
pub issued_begun : (t : Traced) (i : ℕ) (cause : Cause) (a : Action) (o k : ℕ) (x : CallId)
    → IsStep t i cause a
    → slice_get (issued_by (done t i a) o) k ≡ Some x
    → IsBegunAt (done t i a) o x
issued_begun t i cause a o k x g h =
    elim (in_issued t i cause a g o k x h) [
      | inl old ↦ out_done t i a o x (g.lawful.calling.begun o k x old)
      | inr new ↦
          let e = entered_known t i cause a o k x g new in
          out_done t i a o x (rw (new.here, new.name) (with_out t i new.port new.call e.0.1 e.1))
    ]

new_once : (t : Traced) (i : ℕ) (cause : Cause) (a : Action) (o k p l : ℕ) (x : CallId)
    → IsStep t i cause a
    → IsEntered t i a o k x
    → slice_get (issued_by t p) l ≡ Some x
    → ⊥
new_once t i cause a o k p l x g new old = (entered_known t i cause a o k x g new).0.4 p l x old new.name

-- after an action no update is issued twice
pub issued_once : (t : Traced) (i : ℕ) (cause : Cause) (a : Action) (o p k l : ℕ) (x : CallId)
    → IsStep t i cause a
    → slice_get (issued_by (done t i a) o) k ≡ Some x
    → slice_get (issued_by (done t i a) p) l ≡ Some x
    → (o ≡ p) × (k ≡ l)
issued_once t i cause a o p k l x g h f =
    elim (in_issued t i cause a g o k x h) [
      | inl old ↦ elim (in_issued t i cause a g p l x f) [
        | inl too ↦ g.lawful.calling.once o p k l x old too
        | inr new ↦ absurd (new_once t i cause a p l o k x g new old)
      ]
      | inr new ↦ elim (in_issued t i cause a g p l x f) [
        | inl old ↦ absurd (new_once t i cause a o k p l x g new old)
        | inr too ↦ (new.here ∙ sym too.here, new.ordinal ∙ sym too.ordinal)
      ]
    ]

-- ---- the next id

next_act : (t : Traced) (s : ServerState) (a : Action) → (act s a).state.next_id ≡ s.next_id + length (new_issued t a)
unfolding act widened appended entered asked trimmed
next_act t s (Widen v) = omega arith
next_act t s (Append e) = omega arith
next_act t s (Reach n) = omega arith
next_act t s (Settle e) = omega arith
next_act t s (Send j body) = omega arith
next_act t s (Finish r n) = omega arith
next_act t s Trim = omega arith
next_act t s (Enter port call) = omega arith
next_act t s (Ask port key) = omega arith
next_act t s (Show port key) = omega arith

-- after an action a server's next id is the one after those of its issued updates
pub next_done : (t : Traced) (i : ℕ) (cause : Cause) (a : Action) (o : ℕ)
    → IsStep t i cause a
    → o < count (done t i a)
    → (server (done t i a).world o).next_id ≡ length (issued_by (done t i a) o) + 1
next_done t i cause a o g lt =
    let before = g.lawful.calling.next_id o (rw (← g.later.count) lt) in
    elim (cases_eq o i) [
      | inl same ↦
          let inside = within t i cause a g in
          let rooms : i < length t.issued = rw g.lawful.framed.issued inside in
          let state =
          ap (λ (s : ServerState). s.next_id) (server_done t i a inside) ∙ next_act t (server t.world i) a in
          let many = ap length (issued_done t i a rooms) ∙ length-append (issued_by t i) (new_issued t a) in
          let old : (server t.world i).next_id ≡ length (issued_by t i) + 1 = rw same at before in
          rw same (omega (arith, state, many, old))
      | inr other ↦ rw (server_other t i a o other, issued_other t i a o other) before
    ]

-- ---- open reads have a port each

alone_act : (t : Traced) (i : ℕ) (cause : Cause) (a : Action) (r q : OpenRead)
    → IsStep t i cause a
    → In r (act (server t.world i) a).state.asks
    → In q (act (server t.world i) a).state.asks
    → r.port ≡ q.port
    → r ≡ q
unfolding act widened appended entered asked trimmed
alone_act t i cause (Widen v) r q g h f e = g.lawful.calling.alone i r q (within t i cause (Widen v) g) h f e
alone_act t i cause (Append x) r q g h f e = g.lawful.calling.alone i r q (within t i cause (Append x) g) h f e
alone_act t i cause (Reach n) r q g h f e = g.lawful.calling.alone i r q (within t i cause (Reach n) g) h f e
alone_act t i cause (Settle x) r q g h f e = g.lawful.calling.alone i r q (within t i cause (Settle x) g) h f e
alone_act t i cause (Send j body) r q g h f e = g.lawful.calling.alone i r q (within t i cause (Send j body) g) h f e
alone_act t i cause (Finish p n) r q g h f e =
    g.lawful.calling.alone i r q (within t i cause (Finish p n) g) (in_without _ _ r h) (in_without _ _ q f) e
alone_act t i cause Trim r q g h f e = g.lawful.calling.alone i r q (within t i cause Trim g) h f e
alone_act t i cause (Enter port call) r q g h f e =
    g.lawful.calling.alone i r q (within t i cause (Enter port call) g) h f e
alone_act t i cause (Ask port key) r q g h f e =
    let k = known_of t i cause (Some (Called port g.guard.0)) g.guard.1 g.known in
    elim (in_pushed (server t.world i).asks _ r h) [
      | inl old ↦ elim (in_pushed (server t.world i).asks _ q f) [
        | inl too ↦ g.lawful.calling.alone i r q (within t i cause (Ask port key) g) old too e
        | inr new ↦ absurd (k.3 r old (e ∙ ap (λ (x : OpenRead). x.port) new))
      ]
      | inr new ↦ elim (in_pushed (server t.world i).asks _ q f) [
        | inl old ↦ absurd (k.3 q old (sym e ∙ ap (λ (x : OpenRead). x.port) new))
        | inr too ↦ new ∙ sym too
      ]
    ]
alone_act t i cause (Show port key) r q g h f e =
    g.lawful.calling.alone i r q (within t i cause (Show port key) g) h f e

-- after an action no two open reads of a server have the same port
pub alone_done : (t : Traced) (i : ℕ) (cause : Cause) (a : Action) (j : ℕ) (r q : OpenRead)
    → IsStep t i cause a
    → j < count (done t i a)
    → In r (server (done t i a).world j).asks → In q (server (done t i a).world j).asks → r.port ≡ q.port → r ≡ q
alone_done t i cause a j r q g lt h f e =
    elim (cases_eq j i) [
      | inl same ↦
          let state : server (done t i a).world j ≡ (act (server t.world i) a).state =
          rw same (server_done t i a (within t i cause a g)) in
          alone_act t i cause a r q g (subst (λ (s : ServerState). In r s.asks) state h)
          (subst (λ (s : ServerState). In q s.asks) state f) e
      | inr other ↦
          let state = server_other t i a j other in
          g.lawful.calling.alone j r q (rw (← g.later.count) lt) (subst (λ (s : ServerState). In r s.asks) state h)
          (subst (λ (s : ServerState). In q s.asks) state f) e
    ]

-- ---- replies

-- after an action each reply that was handed over is that of a committed entry or of an answered read
pub handed_done : (t : Traced) (i : ℕ) (cause : Cause) (a : Action) (x : CallId) (reply : Reply)
    → IsStep t i cause a
    → reply_to (done t i a).world x ≡ Some reply
    → IsAnswer (done t i a) x reply
handed_done t i cause a x reply g h =
    answer_later t (done t i a) x reply g.later (g.lawful.calling.handed x reply (sym (replied_done t i a x) ∙ h))

same_reply : (r q : Reply) → Replied r ≡ Replied q → r ≡ q
same_reply r q h = cc

-- after an action each reply that waits is that of a committed entry or of an answered read
pub waiting_done : (t : Traced) (i : ℕ) (cause : Cause) (a : Action) (c : ℕ) (l : Connection) (reply : Reply)
    → IsStep t i cause a
    → slice_get (done t i a).world.connections c ≡ Some l
    → l.stage ≡ Replied reply
    → IsAnswer (done t i a) (record { connection = c; ordinal = length l.replies }) reply
waiting_done t i cause a c l reply g h stage =
    let k = connection_before t i a c l h in
    elim k.2 [
      | inl same ↦
          let was = g.lawful.calling.waiting c k.0 reply k.1 (ap (λ (k : Connection). k.stage) (sym same) ∙ stage) in
          rw same (answer_later t (done t i a) _ reply g.later was)
      | inr answered ↦
          let given_one = given t i cause a c answered.0 g answered.1 in
          let one = same_reply answered.0 reply (sym (ap (λ (k : Connection). k.stage) answered.4) ∙ stage) in
          rw (answered.4, ← open_id_is t.world c k.0 k.1, ← one) given_one.answer
    ]

-- ---- what is asked of the head

sent_asks : (t : Traced) (i : ℕ) (cause : Cause) (y : ℕ) (body : Body) → IsStep t i cause (Send y body) → Asks t i body
sent_asks t i cause y (Op id call) g =
    let m = g.guard.0 in
    let p = g.lawful.calling.pend i (record { id = id; port = m.4; call = call })
    (within t i cause (Send y (Op id call)) g) m.5 in
    record { name = open_id t.world m.4; low = p.0; issued = p.1; begun = with_begun t i m.4 call p.2; update = m.2 }
sent_asks t i cause y (Forward e) g = tt
sent_asks t i cause y (Ack n) g = tt
sent_asks t i cause y (Query ask key) g = tt
sent_asks t i cause y (Answer ask n) g = tt

-- after an action each update on its way to a head was issued by its sender
pub asks_done : (t : Traced) (i : ℕ) (cause : Cause) (a : Action) (x y : ℕ) (m : Peer)
    → IsStep t i cause a
    → In m (link (done t i a).world x y)
    → Asks (done t i a) x m.body
asks_done t i cause a x y m g h =
    elim (link_done t i a x y m h) [
      | inl old ↦ asks_later t (done t i a) x m.body g.later (g.lawful.calling.issues x y m old)
      | inr new ↦
          let s = subst (λ b. IsStep t i cause b) new.2 g in
          let body : m.body ≡ new.1 = ap (λ (p : Peer). p.body) new.3 in
          asks_later t (done t i a) x m.body g.later (rw (body, new.0) (sent_asks t i cause y new.1 s))
    ]
