-- Connections after a server's outputs, each reply of which is awaited.
use Rattle.std.proofs.Common.{◌≡◌, ◌≢◌, ℕ, true, cond, List, [], ◌∷◌, None, Some, refl, ◌⊎◌, inl, inr, ap, sym, ◌∙◌}
use Rattle.std.proofs.Common.{subst}
use Rattle.std.specs.Prelude.{slice_get, ◌==◌}
use Rattle.std.proofs.lemmas.Bool.{eq-eqb, ne_eqb}
use Rattle.std.proofs.lemmas.Option.{same_Some}
use Rattle.table.specs.declared.operations.Reply.{Reply}
use Rattle.node.specs.declared.messages.Output.{Output}
use Rattle.node.specs.declared.messages.Output.TheVariants.{To, Reply as Answered}
use Rattle.world.specs.declared.connections.Stage.{Stage}
use Rattle.world.specs.declared.connections.Stage.TheVariants.{Asked, Replied}
use Rattle.world.specs.Connections.{Connection, open_call, may_have, replied, to_work}
use Rattle.world.specs.Waiting.{waiting_reply}
use Rattle.world.specs.Worlds.{World, with_link, with_connection, put, put_all}
use Rattle.world.specs.Awaited.{AreAwaited}
use Rattle.world.proofs.trace.WorldLaws.{changed_one}
use Rattle.interleavings.specs.Chains.{replies_to}
use Rattle.interleavings.proofs.relation.StandsFor.{call_at, listed, reply_at}
use Rattle.world.proofs.lists.Changed.{none_changed}
use Rattle.interleavings.proofs.lists.ChangedFunctions.{same_both}

-- its open call has the one reply among them, or there is none
abbrev pub HasIts : ℕ → List Output → ℕ → Connection → Connection → Type 0
HasIts i os c k k' =
    ((replies_to c os ≡ []) × (k' ≡ k))
    ⊎ ((reply : Reply) × (replies_to c os ≡ reply ∷ []) × (k.home ≡ i) × (k.stage ≡ Asked)
    × (k' ≡ record k { stage = Replied reply }))

-- the connection after the reply to it
replied_is : (k : Connection) (stage : Stage) (reply : Reply)
    → stage ≡ Asked
    → may_have (open_call k) reply ≡ true
    → replied stage reply k ≡ record k { stage = Replied reply }
replied_is k stage reply e fits = rw (e, fits) refl

first_reply : (i c : ℕ) (reply : Reply) (os : List Output) (k x k' : Connection)
    → k.home ≡ i
    → k.stage ≡ Asked
    → x ≡ record k { stage = Replied reply }
    → HasIts i os c x k'
    → HasIts i (Answered c reply ∷ os) c k k'
first_reply i c reply os k x k' home stage is (inl h) =
    inr (reply, rw (eq-eqb c c refl) (ap (λ rs. reply ∷ rs) h.0), home, stage, h.1 ∙ is)
first_reply i c reply os k x k' home stage is (inr h) =
    absurd (let no : Replied reply ≡ Asked = sym (ap (λ (y : Connection). y.stage) is) ∙ h.3 in cc)

other_reply : (i c d : ℕ) (reply : Reply) (os : List Output) (k k' : Connection)
    → d ≢ c
    → HasIts i os c k k'
    → HasIts i (Answered d reply ∷ os) c k k'
other_reply i c d reply os k k' other (inl h) = inl (rw (ne_eqb d c other) h.0, h.1)
other_reply i c d reply os k k' other (inr h) = inr (h.0, rw (ne_eqb d c other) h.1, h.2, h.3, h.4)

-- after these outputs a connection has its own reply, or is as it was
pub connection_has : (w : World) (i : ℕ) (os : List Output) (c : ℕ) (k : Connection)
    → AreAwaited w.connections i os
    → slice_get w.connections c ≡ Some k
    → (k' : Connection) × (slice_get (put_all w i os).connections c ≡ Some k') × HasIts i os c k k'
unfolding put_all with_link with_connection
connection_has w i [] c k a h = (k, h, inl (refl, refl))
connection_has w i (To j m ∷ os) c k a h = connection_has (put w i (To j m)) i os c k a h
connection_has w i (Answered d reply ∷ os) c k a h =
    let one = changed_one w.connections d (λ x. replied x.stage reply x) c k h in
    let rest = connection_has (put w i (Answered d reply)) i os c one.0 a.1 one.1 in (
      rest.0,
      rest.1,
      elim one.2 [
        | inl same ↦ (
            let it : a.0.connection ≡ k =
            same_Some a.0.connection k (sym a.0.here ∙ ap (slice_get w.connections) (sym same.0) ∙ h) in
            let stage : k.stage ≡ Asked = rw it at a.0.stage in
            let fits : may_have (open_call k) reply ≡ true = rw it at a.0.fits in
            subst (λ e. HasIts i (Answered e reply ∷ os) c k rest.0) same.0
            (first_reply i c reply os k one.0 rest.0 (rw it at a.0.home) stage
            (same.1 ∙ replied_is k k.stage reply stage fits) rest.2)
            )
        | inr other ↦ other_reply i c d reply os k rest.0 (λ e. other.0 (sym e))
            (subst (λ x. HasIts i os c x rest.0) other.1 rest.2)
      ],
    )

-- to a place without a connection no reply goes
pub none_has : (w : World) (i : ℕ) (os : List Output) (c : ℕ)
    → AreAwaited w.connections i os
    → slice_get w.connections c ≡ None
    → (slice_get (put_all w i os).connections c ≡ None) × (replies_to c os ≡ [])
unfolding put_all with_link with_connection
none_has w i [] c a h = (h, refl)
none_has w i (To j m ∷ os) c a h = none_has (put w i (To j m)) i os c a h
none_has w i (Answered d reply ∷ os) c a h =
    let rest = none_has (put w i (Answered d reply)) i os c a.1
    (none_changed w.connections c d (λ x. replied x.stage reply x) h) in
    let other : d ≢ c = λ e. absurd (let no : Some a.0.connection ≡ None =
    sym a.0.here ∙ ap (slice_get w.connections) e ∙ h in cc) in
    (rest.0, rw (ne_eqb d c other) rest.1)

-- ---- what waits at a connection, by its stage

-- asked: no call waits for a step
pub asked_calls : (j : ℕ) (k : Connection) → k.stage ≡ Asked → call_at j (Some k) ≡ []
asked_calls j k e = subst (λ s. cond (k.home == j) (listed (to_work s k)) [] ≡ []) (sym e) (same_both (k.home == j) [])

-- replied: likewise
pub replied_calls : (j : ℕ) (k : Connection) (reply : Reply)
    → call_at j (Some (record k { stage = Replied reply })) ≡ []
replied_calls j k reply = same_both (k.home == j) []

-- asked: no reply waits
pub asked_replies : (j : ℕ) (k : Connection) → k.stage ≡ Asked → reply_at j (Some k) ≡ []
asked_replies j k e = subst (λ s. cond (k.home == j) (listed (waiting_reply s)) [] ≡ []) (sym e)
    (same_both (k.home == j) [])

-- replied: its reply waits at its own server
pub replied_own : (i : ℕ) (k : Connection) (reply : Reply)
    → k.home ≡ i
    → reply_at i (Some (record k { stage = Replied reply })) ≡ reply ∷ []
replied_own i k reply e = ap (λ b. cond b (reply ∷ []) []) (eq-eqb k.home i e)

-- and at no other
pub replied_other : (j : ℕ) (k : Connection) (reply : Reply)
    → k.home ≢ j
    → reply_at j (Some (record k { stage = Replied reply })) ≡ []
replied_other j k reply e = ap (λ b. cond b (reply ∷ []) []) (ne_eqb k.home j e)
