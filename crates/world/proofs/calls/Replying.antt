-- Where a server's reply goes: to a call that is with it, which is open no more.
use Rattle.std.proofs.Common.{◌≡◌, ◌≢◌, ℕ, zero, suc, ◌-◌, ◌<◌, true, false, List, [], ◌∷◌, ◌++◌, length, Some, refl}
use Rattle.std.proofs.Common.{arith, inl, inr, ap, sym, ◌∙◌, subst}
use Rattle.std.specs.Prelude.{slice_get}
use Rattle.table.specs.Operations.{is_update}
use Rattle.table.specs.declared.operations.Call.{Call}
use Rattle.table.specs.declared.operations.Reply.{Reply}
use Rattle.table.specs.declared.operations.Reply.TheVariants.{Value}
use Rattle.versions.specs.Entries.{LogEntry}
use Rattle.versions.specs.Stores.{last_number, value_at}
use Rattle.node.specs.declared.servers.OpenUpdate.{OpenUpdate}
use Rattle.node.specs.declared.servers.OpenRead.{OpenRead}
use Rattle.node.specs.declared.messages.Peer.{Peer}
use Rattle.node.specs.declared.messages.Output.TheVariants.{To, Reply as Answered}
use Rattle.node.specs.declared.messages.Input.TheVariants.{Call as Called}
use Rattle.world.specs.Worlds.{server}
use Rattle.node.proofs.Lists.{In, get_last}
use Rattle.node.specs.Actions.{Action, Widen, Append, Reach, Settle, Send, Finish, Trim, Enter, Ask, Show, act, Cause}
use Rattle.world.proofs.trace.Traces.{Traced, AnsweredRead, issued_by, count, open_id, done}
use Rattle.world.proofs.trace.Layers.{Lawful, IsWith, IsNamed, IsAnswer}
use Rattle.world.proofs.trace.TraceLaws.{new_reads, reads_done}
use Rattle.node.proofs.OpenCalls.{update_in}
use Rattle.node.proofs.OpenLists.{IsClosed, closed_by, reply_there, update_apart, read_apart, in_without}
use Rattle.world.proofs.calls.Kept.{named_later}
use Rattle.world.proofs.calls.OpenIds.{with_same}
use Rattle.world.proofs.calls.StepInputs.{IsStep, within, known_of, acked_committed}

-- what is known of a reply that an action puts out
pub record IsGiven (t : Traced) (i : ℕ) (a : Action) (c : ℕ) (reply : Reply) : Type 0 where
  pub call : Call
  pub asked : IsWith t i c call
  pub answer : IsAnswer (done t i a) (open_id t.world c) reply
  pub no_update : (u : OpenUpdate) → In u (act (server t.world i) a).state.pend → u.port ≢ c
  pub no_read : (r : OpenRead) → In r (act (server t.world i) a).state.asks → r.port ≢ c

-- a call that is with its server isn't both an update and a read
apart : (t : Traced) (i : ℕ) (u : OpenUpdate) (r : OpenRead)
    → Lawful t
    → i < count t
    → is_update u.call.op ≡ true
    → In u (server t.world i).pend
    → In r (server t.world i).asks
    → u.port ≢ r.port
apart t i u r l lt update h g =
    let w = (l.calling.pend i u lt h).2 in
    let v = l.calling.asks i r lt g in
    λ same.
    let both = with_same t i i r.port u.call v.0 (subst (λ c. IsWith t i c u.call) same w) v.1 in
    let read : is_update u.call.op ≡ false = rw both.1 v.3 in
    absurd cc

-- an open update and an open read of a server have different ports
pub port_apart : (t : Traced) (i : ℕ) (cause : Cause) (a : Action) (u : OpenUpdate) (r : OpenRead)
    → IsStep t i cause a
    → In u (server t.world i).pend
    → In r (server t.world i).asks
    → u.port ≢ r.port
port_apart t i cause a u r g h k =
    apart t i u r g.lawful (within t i cause a g) (update_in _ _ u g.sound.updates h).1 h k

-- open updates with the same port are one
pub same_port : (t : Traced) (i : ℕ) (u v : OpenUpdate)
    → Lawful t
    → i < count t
    → In u (server t.world i).pend
    → In v (server t.world i).pend
    → u.port ≡ v.port
    → u.id ≡ v.id
same_port t i u v l lt h g same =
    let p = l.calling.pend i u lt h in
    let q = l.calling.pend i v lt g in
    let again : slice_get (issued_by t i) (u.id - 1) ≡ Some (open_id t.world v.port) =
    subst (λ c. slice_get (issued_by t i) (u.id - 1) ≡ Some (open_id t.world c)) same p.1 in
    let one = l.calling.once i i (u.id - 1) (v.id - 1) (open_id t.world v.port) again q.1 in
    omega (arith, one.1, p.0, q.0)

-- ---- an entry settles its call

settled_name : (t : Traced) (i : ℕ) (e : LogEntry) (u : OpenUpdate) (c : ℕ)
    → Lawful t
    → i < count t
    → In u (server t.world i).pend
    → e.origin ≡ i
    → u.id ≡ e.id
    → u.port ≡ c
    → IsNamed t e (open_id t.world c)
settled_name t i e u c l lt h own same port =
    let p = l.calling.pend i u lt h in
    (rw (← same) p.0, rw (own, ← same, ← port) p.1)

given_settled : (t : Traced) (i : ℕ) (cause : Cause) (e : LogEntry) (c : ℕ) (reply : Reply)
    → IsStep t i cause (Settle e)
    → IsClosed (server t.world i).id (server t.world i).pend e c reply
    → IsGiven t i (Settle e) c reply
unfolding act
given_settled t i cause e c reply g h =
    let l = g.lawful in
    let lt = within t i cause (Settle e) g in
    let k = acked_committed t i e l g.lives g.guard.0 g.guard.1 in
    let own : e.origin ≡ i = h.own ∙ l.framed.id i lt in
    record {
      call = h.update.call;
      asked = subst (λ c. IsWith t i c h.update.call) h.port (l.calling.pend i h.update lt h.here).2;
      answer = inl (
        e.number - 1,
        e,
        g.later.committed (e.number - 1) e k.0,
        named_later t (done t i (Settle e)) e _ g.later
            (settled_name t i e h.update c l lt h.here own h.same h.port),
        h.answer,
      );
      no_update = λ u in_left same.
          let among = subst (λ us. In u us) h.left in_left in
          update_apart 0 _ _ e.id u g.sound.updates among
          (same_port t i u h.update l lt (in_without _ _ u among) h.here (same ∙ sym h.port) ∙ h.same);
      no_read = λ r in_asks same. port_apart t i cause (Settle e) h.update r g h.here in_asks (h.port ∙ sym same);
    }

-- ---- a read is answered

-- what is pushed on the answered reads answers its call
read_answers : (t : Traced) (i : ℕ) (a : Action) (r : AnsweredRead)
    → new_reads t i a ≡ r ∷ []
    → IsAnswer (done t i a) r.id (Value r.item)
read_answers t i a r e =
    let pushed : (done t i a).reads ≡ t.reads ++ r ∷ [] = reads_done t i a ∙ ap (λ rs. t.reads ++ rs) e in
    inr (
      length t.reads,
      r,
      subst (λ rs. slice_get rs (length t.reads) ≡ Some r) (sym pushed) (get_last t.reads r),
      refl,
      refl,
    )

given_finished : (t : Traced) (i : ℕ) (cause : Cause) (r : OpenRead) (n c : ℕ) (reply : Reply)
    → IsStep t i cause (Finish r n)
    → r.port ≡ c
    → Value (value_at (server t.world i).store r.key n) ≡ reply
    → IsGiven t i (Finish r n) c reply
unfolding act
given_finished t i cause r n c reply g port value =
    let l = g.lawful in
    let lt = within t i cause (Finish r n) g in
    let w = l.calling.asks i r lt g.guard.1 in
    let answers = read_answers t i (Finish r n) _ refl in
    record {
      call = w.0;
      asked = subst (λ c. IsWith t i c w.0) port w.1;
      answer = rw (← port, ← value) answers;
      no_update = λ u in_pend same. port_apart t i cause (Finish r n) u r g in_pend g.guard.1 (same ∙ sym port);
      no_read = λ q left same.
          let one = l.calling.alone i q r lt (in_without _ _ q left) g.guard.1 (same ∙ sym port) in
          read_apart 0 _ _ _ _ r.ask q g.sound.reads left (ap (λ (x : OpenRead). x.ask) one);
    }

given_shown : (t : Traced) (i : ℕ) (cause : Cause) (port : ℕ) (key : List ℕ) (c : ℕ) (reply : Reply)
    → IsStep t i cause (Show port key)
    → port ≡ c
    → Value (value_at (server t.world i).store key (last_number (server t.world i).store)) ≡ reply
    → IsGiven t i (Show port key) c reply
unfolding act
given_shown t i cause port key c reply g same value =
    let call = g.guard.0 in
    let k = known_of t i cause (Some (Called port call)) g.guard.1 g.known in
    let answers = read_answers t i (Show port key) _ refl in
    record {
      call = call;
      asked = subst (λ c. IsWith t i c call) same k.1;
      answer = rw (← same, ← value) answers;
      no_update = λ u in_pend is. k.2 u in_pend (is ∙ sym same);
      no_read = λ r in_asks is. k.3 r in_asks (is ∙ sym same);
    }

no_message : (j c : ℕ) (m : Peer) (reply : Reply) → In (Answered c reply) (To j m ∷ []) → ⊥
no_message j c m reply (zero, h) = absurd cc
no_message j c m reply (suc k, h) = absurd cc

-- each reply that an action puts out goes to a call that is with its server
pub given : (t : Traced) (i : ℕ) (cause : Cause) (a : Action) (c : ℕ) (reply : Reply)
    → IsStep t i cause a
    → In (Answered c reply) (act (server t.world i) a).outputs
    → IsGiven t i a c reply
unfolding act
given t i cause (Widen v) c reply g h = absurd cc
given t i cause (Append e) c reply g h = absurd cc
given t i cause (Reach n) c reply g h = absurd cc
given t i cause (Settle e) c reply g h = given_settled t i cause e c reply g (closed_by _ _ e c reply h)
given t i cause (Send j body) c reply g h = absurd (no_message j c _ reply h)
given t i cause (Finish r n) c reply g h =
    let f = reply_there c r.port reply _ h in given_finished t i cause r n c reply g f.0 f.1
given t i cause Trim c reply g h = absurd cc
given t i cause (Enter port call) c reply g h = absurd cc
given t i cause (Ask port key) c reply g h = absurd cc
given t i cause (Show port key) c reply g h =
    let f = reply_there c port reply _ h in given_shown t i cause port key c reply g f.0 f.1
