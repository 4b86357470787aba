-- An update that was given to its server was issued by it, or it had no room for it.
use Rattle.std.proofs.Common.{◌≡◌, ℕ, ◌+◌, ◌-◌, ◌<◌, ◌≤◌, true, List, length, Option, Some, None, refl, sym, ap, ◌∙◌}
use Rattle.std.proofs.Common.{arith, subst, ◌⊎◌, inl, inr}
use Rattle.std.specs.Prelude.{slice_get}
use Rattle.std.proofs.lemmas.Bool.{both_ways, cases_Bool, cases_lt, lt-ltb, ltb-true}
use Rattle.std.proofs.lemmas.Option.{same_Some}
use Rattle.table.specs.Operations.{is_update}
use Rattle.table.specs.declared.operations.Call.{Call}
use Rattle.table.specs.declared.operations.Reply.{Reply}
use Rattle.node.specs.declared.messages.Input.{Input}
use Rattle.node.specs.declared.messages.Input.TheVariants.{Call as Called}
use Rattle.node.specs.declared.messages.Output.TheVariants.{Reply as Answered}
use Rattle.node.specs.Servers.{ServerState, RuleResult}
use Rattle.node.specs.Numbering.{is_room_for_update}
use Rattle.node.specs.Steps.{step}
use Rattle.node.proofs.Lists.{In}
use Rattle.world.specs.declared.connections.Stage.{Stage}
use Rattle.world.specs.declared.connections.Stage.TheVariants.{Idle, Begun, Asked, Replied}
use Rattle.world.specs.Connections.{Connection, open_call, may_have, asked}
use Rattle.world.specs.Worlds.{World, server, acted, with_server, with_connection}
use Rattle.world.specs.Calls.{CallId, begun_call, given_calls, is_given_by, is_given}
use Rattle.node.proofs.BegunLists.{found_below}
use Rattle.world.proofs.trace.Traces.{Traced, issued_by, open_id, outset}
use Rattle.world.proofs.trace.Layers.{Lawful, IsAnswer}
use Rattle.world.proofs.trace.IdLaws.{living_parts}
use Rattle.world.proofs.trace.LaterMoves.{call_found, reply_found}
use Rattle.world.proofs.trace.Outsets.{fresh_at}
use Rattle.world.proofs.calls.OpenIds.{open_id_is}
use Rattle.world.proofs.calls.ConnectionsDone.{IsOut}
use Rattle.world.proofs.moments.Happenings.{server-acted}
use Rattle.world.proofs.streams.Stepped.{Follows}
use Rattle.world.proofs.streams.Ways.{Way, servers_connected}
use Rattle.world.proofs.waiting.CallsOpened.{IsUpdateIn, update_opened}
use Rattle.world.proofs.waiting.Stages.{Fits, fitting}
use Rattle.world.proofs.waiting.StageEvents.{fits_update}
use Rattle.world.proofs.order.Spent.{IsFull, full_later}
use Rattle.world.proofs.order.WithServers.{WasAsked, IsNew, stood, asked_way}

-- the call of this ordinal of a connection
abbrev pub id_at : ℕ → ℕ → CallId
id_at c n = record { connection = c; ordinal = n }

-- ---- what holds after each event

-- the open call of this connection was issued by its server, or that has no room
abbrev pub IsIssuedOrFull : Traced → ℕ → Connection → Type 0
IsIssuedOrFull t c k = In (id_at c (length k.replies)) (issued_by t k.home) ⊎ IsFull t k.home

-- so is each update that is with its server
abbrev pub AllIssued : Traced → Type 0
AllIssued t = (c : ℕ) (k : Connection) → slice_get t.world.connections c ≡ Some k → k.stage ≡ Asked
    → (call : Call) × (open_call k ≡ Some call) × (is_update call.op ≡ true → IsIssuedOrFull t c k)

same_open : (k l : Connection) → k.calls ≡ l.calls → k.replies ≡ l.replies → open_call k ≡ open_call l
same_open k l calls replies = λ i. slice_get (calls i) (length (replies i))

-- who has a reply that fits isn't with its server any more
not_asked : (v : World) (a : ℕ) (o : RuleResult) (c : ℕ) (k : Connection)
    → slice_get v.connections c ≡ Some k
    → Fits c k o.outputs
    → (k' : Connection)
    → slice_get (acted v a o).connections c ≡ Some k'
    → k'.stage ≡ Asked
    → ⊥
unfolding with_server
not_asked v a o c k here fits k' there stage =
    fitting (with_server v a o.state) a o.outputs c k here fits k' there stage

module _ (t u : Traced) (f : Follows t u) where
  old_issued : (c : ℕ) (k : Connection)
      → AllIssued t
      → WasAsked t.world c k
      → (call : Call) × (open_call k ≡ Some call) × (is_update call.op ≡ true → IsIssuedOrFull u c k)
  old_issued c k before was =
      let old = was.before in
      let b = before c old was.here was.stage in (
        b.0,
        same_open k old was.calls was.replies ∙ b.1,
        λ is. elim (b.2 is) [
          | inl n ↦ inl (
            n.0,
            ap (λ h. slice_get (issued_by u h) n.0) was.home
                ∙ f.later.issued old.home n.0 (id_at c (length old.replies)) n.1
                ∙ ap (λ (rs : List Reply). Some (id_at c (length rs))) (sym was.replies),
          )
          | inr full ↦ inr
              (subst (λ h. IsFull u h) (sym was.home) (full_later t u old.home f.before f.after f.later full))
        ],
      )

  -- if there is room
  entered : (c : ℕ) (k : Connection) (new : IsNew t.world u.world c k)
      → slice_get u.world.connections c ≡ Some k
      → k.stage ≡ Asked
      → is_update new.working.call.op ≡ true
      → is_room_for_update (server t.world new.working.connection.home) ≡ true
      → In (id_at c (length k.replies)) (issued_by u k.home)
  entered c k new here stage is room =
      let r = new.working in
      let a = r.connection.home in
      let l = (living_parts t.world a r.lives).0 in
      let v = with_connection t.world r.c asked in
      let input : Input = Called r.c r.call in
      let same = servers_connected t.world r.c asked in
      let o = step (server v a) input in
      let fit = f.before.framed.calls r.c (length r.connection.replies) r.connection r.call r.here r.called in
      let home : k.home ≡ a = ap (λ (x : Connection). x.home) new.is in
      let called : open_call k ≡ Some r.call = ap (λ x. open_call x) new.is ∙ r.called in
      let own : server u.world a ≡ o.state =
      ap (λ w. server w a) r.world ∙ server-acted v a o (rw same.0 l) in
      let opened : IsUpdateIn r.c o = subst (λ s. IsUpdateIn r.c (step s input)) (sym (same.1 a))
      (update_opened (server t.world a) r.c r.call (f.servers a l) fit is room) in
      elim opened [
        | inl waits ↦
            let p = f.after.calling.pend a waits.0 (rw f.later.count l)
            (subst (λ (s : ServerState). In waits.0 s.pend) (sym own) waits.1) in
            let port : waits.0.port ≡ c = waits.2 ∙ sym new.port in (
              waits.0.id - 1,
              ap (λ h. slice_get (issued_by u h) (waits.0.id - 1)) home ∙ p.1
                  ∙ ap (λ n. Some (open_id u.world n)) port ∙ ap Some (open_id_is u.world c k here),
            )
        | inr x ↦ absurd (not_asked v a o c k new.here (
          x.0,
          (x.1.0, x.1.1 ∙ ap (λ p. Some (Answered p x.0)) (sym new.port)),
          ap (λ q. may_have q x.0) called ∙ fits_update r.call x.0 is x.2,
        )
            k (stood (acted v a o) u.world c k r.world here) stage)
      ]

  new_issued : (c : ℕ) (k : Connection) (new : IsNew t.world u.world c k)
      → slice_get u.world.connections c ≡ Some k
      → k.stage ≡ Asked
      → (call : Call) × (open_call k ≡ Some call) × (is_update call.op ≡ true → IsIssuedOrFull u c k)
  new_issued c k new here stage =
      let r = new.working in
      let a = r.connection.home in
      let l = (living_parts t.world a r.lives).0 in (
        r.call,
        ap (λ x. open_call x) new.is ∙ r.called,
        λ is. elim (cases_Bool (is_room_for_update (server t.world a))) [
          | inl room ↦ inl (entered c k new here stage is room)
          | inr full ↦ inr
              (subst (λ h. IsFull u h) (sym (ap (λ (x : Connection). x.home) new.is))
              (full_later t u a f.before f.after f.later (l, full)))
        ],
      )

  -- each event keeps it
  pub issued_way : Way t.world u.world → AllIssued t → AllIssued u
  issued_way way before c k here stage = elim (asked_way t.world u.world c k way here stage) [
    | inl was ↦ old_issued c k before was
    | inr new ↦ new_issued c k new here stage
  ]

-- and at the outset none is with a server
pub issued_first : (n : ℕ) (homes : List ℕ) → AllIssued (outset n homes)
issued_first n homes c k here stage =
    absurd (let f = fresh_at homes c k here in let e : Idle ≡ Asked = ap (λ (x : Connection). x.stage) (sym f.2)
    ∙ stage in cc)

-- ---- given calls

-- a call that was given to its server, with its connection
pub record IsGivenAt (w : World) (x : CallId) : Type 0 where
  pub connection : Connection
  pub here : slice_get w.connections x.connection ≡ Some connection
  pub low : x.ordinal < length connection.replies + given_calls connection.stage

-- if the test says so
pub given_at : (w : World) (x : CallId) → is_given w x ≡ true → IsGivenAt w x
given_at w x h = by_connection (slice_get w.connections x.connection) refl h
  where
    by_connection : (o : Option Connection)
        → slice_get w.connections x.connection ≡ o
        → is_given_by o x.ordinal ≡ true
        → IsGivenAt w x
    by_connection None e g = absurd cc
    by_connection (Some k) e g = record { connection = k; here = e; low = ltb-true _ _ g }

below_given : (ordinal : ℕ) (k : Connection) → IsOut ordinal k → ordinal < length k.replies + given_calls k.stage
below_given ordinal k (inl less) = omega (arith, less)
below_given ordinal k (inr (same, inl is)) = omega (arith, same, ap given_calls is)
below_given ordinal k (inr (same, inr waits)) = omega (arith, same, ap given_calls waits.1)

-- an issued update was given to its server
pub issued_is_given : (t : Traced)
    → Lawful t
    → (o n : ℕ) (x : CallId)
    → slice_get (issued_by t o) n ≡ Some x
    → is_given t.world x ≡ true
issued_is_given t l o n x h =
    let b = l.calling.begun o n x h in
    ap (λ p. is_given_by p x.ordinal) b.4
    ∙ lt-ltb x.ordinal (length b.1.replies + given_calls b.1.stage) (below_given x.ordinal b.1 b.6)

-- and an update that was given to its server is issued, or the server had no room
module _ (t : Traced) (l : Lawful t) (issued : AllIssued t) (x : CallId)
    (update : (call : Call) → begun_call t.world x ≡ Some call → is_update call.op ≡ true) where
  answered_issued : (k : Connection) (reply : Reply)
      → slice_get t.world.connections x.connection ≡ Some k
      → IsAnswer t x reply
      → In x (issued_by t k.home)
  answered_issued k reply here (inl (n, e, there, named, is)) =
      let b = l.calling.begun e.origin (e.id - 1) x named.1 in
      let one : k ≡ b.1 = same_Some k b.1 (sym here ∙ b.4) in
      let home : k.home ≡ e.origin = ap (λ (c : Connection). c.home) one ∙ b.5 in
      (e.id - 1, ap (λ o. slice_get (issued_by t o) (e.id - 1)) home ∙ named.1)
  answered_issued k reply here (inr (n, r, there, id, is)) =
      let f = l.read.reads n r there in
      absurd (both_ways _ f.read (update f.call (ap (begun_call t.world) (sym id) ∙ f.begun)))

  by_stage : (k : Connection) (stage : Stage)
      → slice_get t.world.connections x.connection ≡ Some k
      → k.stage ≡ stage
      → length k.replies ≤ x.ordinal
      → x.ordinal < length k.replies + given_calls stage
      → In x (issued_by t k.home) ⊎ IsFull t k.home
  by_stage k Idle here e high low = absurd (omega (arith, high, low))
  by_stage k Begun here e high low = absurd (omega (arith, high, low))
  by_stage k Asked here e high low =
      let same : x.ordinal ≡ length k.replies = omega (arith, high, low) in
      let i = issued x.connection k here e in
      let begun : begun_call t.world x ≡ Some i.0 =
      call_found t.world x k i.0 here (ap (slice_get k.calls) same ∙ i.1) in
      elim (i.2 (update i.0 begun)) [
        | inl there ↦ inl (there.0, there.1 ∙ ap (λ n. Some (id_at x.connection n)) (sym same))
        | inr full ↦ inr full
      ]
  by_stage k (Replied reply) here e high low =
      let same : x.ordinal ≡ length k.replies = omega (arith, high, low) in
      let answer = l.calling.waiting x.connection k reply here e in
      inl (answered_issued k reply here (subst (λ n. IsAnswer t (id_at x.connection n) reply) (sym same) answer))

  -- an update that was given to its server was issued by it, unless it had no id or number left
  pub given_is_issued : (g : IsGivenAt t.world x)
      → In x (issued_by t g.connection.home) ⊎ IsFull t g.connection.home
  given_is_issued g = elim (cases_lt x.ordinal (length g.connection.replies)) [
    | inl answered ↦
        let reply = found_below g.connection.replies x.ordinal answered in
        inl (answered_issued g.connection reply.0 g.here
        (l.calling.handed x reply.0 (reply_found t.world x g.connection reply.0 g.here reply.1)))
    | inr high ↦ by_stage g.connection g.connection.stage g.here refl high g.low
  ]
