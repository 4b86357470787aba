-- After an action: what is known of issued updates, open updates and reads, and replies.
use Rattle.std.proofs.Common.{◌≡◌, ◌≢◌, ℕ, ◌+◌, ◌-◌, ◌<◌, ◌≤◌, false, List, ◌++◌, length, Some, refl, arith, ◌⊎◌, inl}
use Rattle.std.proofs.Common.{inr, ap, sym, ◌∙◌, subst, append-nil}
use Rattle.std.specs.Prelude.{slice_get}
use Rattle.std.proofs.lemmas.Option.{same_Some}
use Rattle.std.proofs.lemmas.Bool.{cases_eq}
use Rattle.table.specs.Operations.{is_update}
use Rattle.table.specs.declared.operations.Call.{Call}
use Rattle.table.specs.declared.operations.Reply.{Reply}
use Rattle.table.specs.declared.operations.Target.TheVariants.{One}
use Rattle.node.specs.declared.servers.OpenUpdate.{OpenUpdate}
use Rattle.node.specs.declared.servers.OpenRead.{OpenRead}
use Rattle.node.specs.declared.messages.Output.TheVariants.{Reply as Answered}
use Rattle.node.specs.declared.messages.Input.TheVariants.{Call as Called}
use Rattle.node.specs.Servers.{ServerState}
use Rattle.world.specs.Connections.{Connection}
use Rattle.world.specs.Worlds.{server}
use Rattle.world.specs.Calls.{CallId}
use Rattle.node.proofs.Lists.{In, get_last, pushed_cases}
use Rattle.node.specs.Actions.{Action, Widen, Append, Reach, Settle, Send, Finish, Trim, Enter, Ask, Show, act, Cause}
use Rattle.world.proofs.trace.Traces.{Traced, issued_by, count, open_id, done}
use Rattle.world.proofs.trace.Layers.{IsWith}
use Rattle.world.proofs.trace.TraceLaws.{new_issued, server_done, server_other, issued_other, issued_done}
use Rattle.world.proofs.trace.TraceLaws.{connection_done, open_id_done}
use Rattle.node.proofs.OpenLists.{updates_act, reads_act}
use Rattle.world.proofs.calls.StepInputs.{IsStep, within, known_of}
use Rattle.world.proofs.calls.Replying.{given}

-- ---- which updates are issued

-- an issued update is an old one, or the one that enters
pub record IsEntered (t : Traced) (i : ℕ) (a : Action) (o k : ℕ) (x : CallId) : Type 0 where
  pub port : ℕ
  pub call : Call
  pub is : a ≡ Enter port call
  pub here : o ≡ i
  pub ordinal : k ≡ length (issued_by t i)
  pub name : x ≡ open_id t.world port

entered_or_old : (t : Traced) (i : ℕ) (a : Action) (k : ℕ) (x : CallId)
    → slice_get (issued_by t i ++ new_issued t a) k ≡ Some x
    → (slice_get (issued_by t i) k ≡ Some x) ⊎ IsEntered t i a i k x
entered_or_old t i (Widen v) k x h = inl (rw append-nil at h)
entered_or_old t i (Append e) k x h = inl (rw append-nil at h)
entered_or_old t i (Reach n) k x h = inl (rw append-nil at h)
entered_or_old t i (Settle e) k x h = inl (rw append-nil at h)
entered_or_old t i (Send j body) k x h = inl (rw append-nil at h)
entered_or_old t i (Finish r n) k x h = inl (rw append-nil at h)
entered_or_old t i Trim k x h = inl (rw append-nil at h)
entered_or_old t i (Enter port call) k x h =
    elim (pushed_cases (issued_by t i) _ k x h) [
      | inl old ↦ inl old
      | inr new ↦ inr (record { port = port; call = call; is = refl; here = refl; ordinal = new.0; name = new.1 })
    ]
entered_or_old t i (Ask port key) k x h = inl (rw append-nil at h)
entered_or_old t i (Show port key) k x h = inl (rw append-nil at h)

-- after an action each issued update was issued before it, or is the one that entered
pub in_issued : (t : Traced) (i : ℕ) (cause : Cause) (a : Action)
    → IsStep t i cause a
    → (o k : ℕ) (x : CallId)
    → slice_get (issued_by (done t i a) o) k ≡ Some x
    → (slice_get (issued_by t o) k ≡ Some x) ⊎ IsEntered t i a o k x
in_issued t i cause a g o k x h =
    elim (cases_eq o i) [
      | inl same ↦
          let rooms : i < length t.issued = rw g.lawful.framed.issued (within t i cause a g) in
          let all : issued_by (done t i a) o ≡ issued_by t i ++ new_issued t a = rw same (issued_done t i a rooms) in
          rw same (entered_or_old t i a k x (subst (λ xs. slice_get xs k ≡ Some x) all h))
      | inr other ↦ inl (subst (λ xs. slice_get xs k ≡ Some x) (issued_other t i a o other) h)
    ]

-- ---- which calls are with their servers

-- a call that gets no reply is with its server still
stays_with : (t : Traced) (i : ℕ) (a : Action) (j c : ℕ) (call : Call)
    → IsWith t j c call
    → ((reply : Reply) → In (Answered c reply) (act (server t.world i) a).outputs → ⊥)
    → IsWith (done t i a) j c call
stays_with t i a j c call h none =
    let k = connection_done t i a c h.connection h.here in
    elim k.2 [
      | inl same ↦ record
          { connection = k.0; here = k.1; home = rw same h.home; stage = rw same h.stage; asked = rw same h.asked }
      | inr answered ↦ absurd (none answered.0 answered.1)
    ]

-- that of another server is
pub with_other : (t : Traced) (i : ℕ) (cause : Cause) (a : Action) (j c : ℕ) (call : Call)
    → IsStep t i cause a
    → j ≢ i
    → IsWith t j c call
    → IsWith (done t i a) j c call
with_other t i cause a j c call g other h =
    stays_with t i a j c call h (λ reply put.
    let r = given t i cause a c reply g put in
    let one : h.connection ≡ r.asked.connection = same_Some _ _ (sym h.here ∙ r.asked.here) in
    other (sym h.home ∙ ap (λ (k : Connection). k.home) one ∙ r.asked.home))

-- an open update's call is, if it is open still
pub with_update : (t : Traced) (i : ℕ) (cause : Cause) (a : Action) (u : OpenUpdate)
    → IsStep t i cause a
    → In u (act (server t.world i) a).state.pend
    → IsWith t i u.port u.call
    → IsWith (done t i a) i u.port u.call
with_update t i cause a u g left h =
    stays_with t i a i u.port u.call h (λ reply put. (given t i cause a u.port reply g put).no_update u left refl)

-- and so is an open read's
pub with_read : (t : Traced) (i : ℕ) (cause : Cause) (a : Action) (r : OpenRead) (call : Call)
    → IsStep t i cause a
    → In r (act (server t.world i) a).state.asks
    → IsWith t i r.port call
    → IsWith (done t i a) i r.port call
with_read t i cause a r call g left h =
    stays_with t i a i r.port call h (λ reply put. (given t i cause a r.port reply g put).no_read r left refl)

-- ---- open updates and reads

-- an open update of a server after an action: its id names an issued update, and its call is with the server
abbrev pub IsPending : Traced → ℕ → OpenUpdate → Type 0
IsPending t i u =
    (1 ≤ u.id) × (slice_get (issued_by t i) (u.id - 1) ≡ Some (open_id t.world u.port)) × IsWith t i u.port u.call

same_name : (t : Traced) (i : ℕ) (a : Action) (o k c : ℕ)
    → slice_get (issued_by (done t i a) o) k ≡ Some (open_id t.world c)
    → slice_get (issued_by (done t i a) o) k ≡ Some (open_id (done t i a).world c)
same_name t i a o k c h = rw (open_id_done t i a c) h

pending_old : (t : Traced) (i : ℕ) (cause : Cause) (a : Action) (u : OpenUpdate)
    → IsStep t i cause a
    → In u (act (server t.world i) a).state.pend
    → In u (server t.world i).pend
    → IsPending (done t i a) i u
pending_old t i cause a u g left h =
    let p = g.lawful.calling.pend i u (within t i cause a g) h in
    (p.0, same_name t i a i (u.id - 1) u.port (g.later.issued i (u.id - 1) _ p.1), with_update t i cause a u g left p.2)

pending_new : (t : Traced) (i : ℕ) (cause : Cause) (port : ℕ) (call : Call) (u : OpenUpdate)
    → IsStep t i cause (Enter port call)
    → In u (act (server t.world i) (Enter port call)).state.pend
    → u ≡ record { id = (server t.world i).next_id; port = port; call = call }
    → IsPending (done t i (Enter port call)) i u
pending_new t i cause port call u g left is =
    let lt = within t i cause (Enter port call) g in
    let rooms : i < length t.issued = rw g.lawful.framed.issued lt in
    let next = g.lawful.calling.next_id i lt in
    let id : u.id ≡ length (issued_by t i) + 1 = ap (λ (x : OpenUpdate). x.id) is ∙ next in
    let ordinal : u.id - 1 ≡ length (issued_by t i) = omega (arith, id) in
    let k = known_of t i cause (Some (Called port call)) g.guard.0 g.known in
    let at : slice_get (issued_by (done t i (Enter port call)) i) (u.id - 1) ≡ Some (open_id t.world port) =
    rw (ordinal, issued_done t i (Enter port call) rooms) (get_last (issued_by t i) _) in
    let same_port : port ≡ u.port = sym (ap (λ (x : OpenUpdate). x.port) is) in
    let same_call : call ≡ u.call = sym (ap (λ (x : OpenUpdate). x.call) is) in
    let here : IsWith t i u.port u.call = rw (← same_port, ← same_call) k.1 in (
      omega (arith, id),
      same_name t i (Enter port call) i (u.id - 1) u.port
          (subst (λ c. slice_get (issued_by (done t i (Enter port call)) i) (u.id - 1) ≡ Some (open_id t.world c))
          same_port at),
      with_update t i cause (Enter port call) u g left here,
    )

pending_act : (t : Traced) (i : ℕ) (cause : Cause) (a : Action) (u : OpenUpdate)
    → IsStep t i cause a
    → In u (act (server t.world i) a).state.pend
    → IsPending (done t i a) i u
pending_act t i cause a u g h =
    elim (updates_act (server t.world i) a u h) [
      | inl old ↦ pending_old t i cause a u g h old
      | inr new ↦ subst
          (λ b. IsStep t i cause b → In u (act (server t.world i) b).state.pend → IsPending (done t i b) i u)
          (sym new.2) (λ g h. pending_new t i cause new.0 new.1 u g h new.3) g h
    ]

pending_other : (t : Traced) (i : ℕ) (cause : Cause) (a : Action) (j : ℕ) (u : OpenUpdate)
    → IsStep t i cause a
    → j ≢ i
    → j < count t
    → In u (server t.world j).pend
    → IsPending (done t i a) j u
pending_other t i cause a j u g other lt h =
    let p = g.lawful.calling.pend j u lt h in (
      p.0,
      same_name t i a j (u.id - 1) u.port (g.later.issued j (u.id - 1) _ p.1),
      with_other t i cause a j u.port u.call g other p.2,
    )

-- after an action each open update's id names an issued update whose call is with the server
pub pending_done : (t : Traced) (i : ℕ) (cause : Cause) (a : Action) (j : ℕ) (u : OpenUpdate)
    → IsStep t i cause a
    → j < count (done t i a)
    → In u (server (done t i a).world j).pend
    → IsPending (done t i a) j u
pending_done t i cause a j u g lt h =
    elim (cases_eq j i) [
      | inl same ↦
          let state : server (done t i a).world j ≡ (act (server t.world i) a).state =
          rw same (server_done t i a (within t i cause a g)) in
          rw same (pending_act t i cause a u g (subst (λ (s : ServerState). In u s.pend) state h))
      | inr other ↦ pending_other t i cause a j u g other (rw (← g.later.count) lt)
          (subst (λ (s : ServerState). In u s.pend) (server_other t i a j other) h)
    ]

-- an open read of a server: its call is with it
abbrev pub IsAsking : Traced → ℕ → OpenRead → Type 0
IsAsking t i r = (call : Call) × IsWith t i r.port call × (call.target ≡ One r.key) × (is_update call.op ≡ false)

asking_new : (t : Traced) (i : ℕ) (cause : Cause) (port : ℕ) (key : List ℕ) (r : OpenRead)
    → IsStep t i cause (Ask port key)
    → In r (act (server t.world i) (Ask port key)).state.asks
    → r.port ≡ port → r.key ≡ key → IsAsking (done t i (Ask port key)) i r
asking_new t i cause port key r g left same_port same_key =
    let k = known_of t i cause (Some (Called port g.guard.0)) g.guard.1 g.known in
    let here : IsWith t i r.port g.guard.0 = rw same_port k.1 in
    (g.guard.0, with_read t i cause (Ask port key) r g.guard.0 g left here, rw same_key g.guard.3, g.guard.2)

asking_act : (t : Traced) (i : ℕ) (cause : Cause) (a : Action) (r : OpenRead)
    → IsStep t i cause a
    → In r (act (server t.world i) a).state.asks
    → IsAsking (done t i a) i r
asking_act t i cause a r g h =
    elim (reads_act (server t.world i) a r h) [
      | inl old ↦ (let p = g.lawful.calling.asks i r (within t i cause a g) old in
          (p.0, with_read t i cause a r p.0 g h p.1, p.2, p.3))
      | inr new ↦ subst
          (λ b. IsStep t i cause b → In r (act (server t.world i) b).state.asks → IsAsking (done t i b) i r) (sym new.2)
          (λ g h. asking_new t i cause new.0 new.1 r g h (ap (λ (x : OpenRead). x.port) new.3)
          (ap (λ (x : OpenRead). x.key) new.3)) g h
    ]

-- after an action each open read's call is with its server
pub asking_done : (t : Traced) (i : ℕ) (cause : Cause) (a : Action) (j : ℕ) (r : OpenRead)
    → IsStep t i cause a
    → j < count (done t i a)
    → In r (server (done t i a).world j).asks
    → IsAsking (done t i a) j r
asking_done t i cause a j r g lt h =
    elim (cases_eq j i) [
      | inl same ↦
          let state : server (done t i a).world j ≡ (act (server t.world i) a).state =
          rw same (server_done t i a (within t i cause a g)) in
          rw same (asking_act t i cause a r g (subst (λ (s : ServerState). In r s.asks) state h))
      | inr other ↦
          let p = g.lawful.calling.asks j r (rw (← g.later.count) lt)
          (subst (λ (s : ServerState). In r s.asks) (server_other t i a j other) h) in
          (p.0, with_other t i cause a j r.port p.0 g other p.1, p.2, p.3)
    ]
