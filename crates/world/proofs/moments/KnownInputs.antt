-- What is known of a step's input: of a message when it is taken off its link, of a notice, and of a call when it goes
-- to its server; and that it stays known.
use Rattle.std.proofs.Common.{◌≡◌, ℕ, ◌<◌, List, length, Some, None, refl, arith, ◌⊎◌, inl, inr, ap, sym, ◌∙◌, subst}
use Rattle.std.specs.Prelude.{slice_get}
use Rattle.std.proofs.lemmas.Option.{same_Some}
use Rattle.table.specs.declared.operations.Call.{Call}
use Rattle.table.specs.declared.operations.Reply.{Reply}
use Rattle.node.specs.declared.messages.Input.TheVariants.{Call as Called, From, Gone}
use Rattle.node.specs.declared.messages.Peer.{Peer}
use Rattle.world.specs.declared.connections.Stage.TheVariants.{Begun, Asked, Replied}
use Rattle.world.specs.Connections.{Connection, asked}
use Rattle.world.specs.Worlds.{link}
use Rattle.world.specs.Calls.{CallId}
use Rattle.node.proofs.Lists.{In}
use Rattle.node.specs.Actions.{Cause, left}
use Rattle.world.proofs.trace.Traces.{AnsweredRead, Traced, issued_by, open_id, open_ordinal, reconnected, unlinked}
use Rattle.world.proofs.trace.Layers.{Later, Lawful, IsWith, IsKnown}
use Rattle.world.proofs.layers.Addressed.{addressed_later}
use Rattle.world.proofs.layers.LoggedLaws.{carries_later}
use Rattle.world.proofs.calls.Kept.{asks_later}
use Rattle.world.proofs.trace.IdLaws.{living_parts}
use Rattle.world.proofs.trace.Moves.{CanWork, CanTake}
use Rattle.world.proofs.trace.ChangeLaws.{server_reconnected, issued_reconnected, reads_reconnected}
use Rattle.world.proofs.trace.ChangeLaws.{connection_reconnected}

-- what a message or a notice says stays known
pub known_on : (t u : Traced) (i : ℕ) (cause : Cause) → Later t u → IsKnown t i cause → IsKnown u i (left cause)
known_on t u i None l h = tt
known_on t u i (Some (Called port call)) l h = tt
known_on t u i (Some (From j m)) l h =
    (addressed_later t u l j i m h.0, carries_later t u l j m.view m.body h.1, asks_later t u j m.body l h.2)
known_on t u i (Some (Gone j)) l h = (l.failed j h.0, rw l.count h.1)

-- a message on a link
pub known_message : (t : Traced) (i j : ℕ) (m : Peer)
    → Lawful t
    → In m (link t.world i j)
    → IsKnown t j (Some (From i m))
known_message t i j m l h = (l.framed.sound i j m h, l.logged.carries i j m h, l.calling.issues i j m h)

-- the first one, once it is taken off
pub known_taken : (t : Traced) (i j : ℕ) (ms : List Peer) (g : CanTake t i j ms)
    → Lawful t
    → Later t (unlinked t i j ms)
    → IsKnown (unlinked t i j ms) j (Some (From i g.message))
known_taken t i j ms g l later = known_on t (unlinked t i j ms) j (Some (From i g.message)) later
    (known_message t i j g.message l (rw g.here (0, refl)))

-- ---- a call

-- the connections at one place are one
same_there : (ks : List Connection) (c d : ℕ) (k l : Connection)
    → c ≡ d
    → slice_get ks c ≡ Some k
    → slice_get ks d ≡ Some l
    → k ≡ l
same_there ks c d k l e h g = same_Some k l (sym h ∙ ap (slice_get ks) e ∙ g)

-- a connection that has begun a call has none with its server
begun_apart : (t : Traced) (i c : ℕ) (call : Call) → CanWork t c → IsWith t i c call → ⊥
begun_apart t i c call g w =
    let same = same_there t.world.connections c c g.connection w.connection refl g.here w.here in
    let never : Begun ≡ Asked = sym g.stage ∙ ap (λ (k : Connection). k.stage) same ∙ w.stage in
    absurd cc

-- and no other call by its name is with its server, or has a reply
not_over : (k : Connection) (ordinal : ℕ) → k.stage ≡ Begun → ordinal ≡ length k.replies
    → (ordinal < length k.replies)
    ⊎ ((ordinal ≡ length k.replies) × ((k.stage ≡ Asked) ⊎ ((reply : Reply) × (k.stage ≡ Replied reply))))
    → ⊥
not_over k ordinal e same (inl less) = absurd (omega (arith, same, less))
not_over k ordinal e same (inr (at, inl asked)) = absurd (let never : Begun ≡ Asked = sym e ∙ asked in cc)
not_over k ordinal e same (inr (at, inr replied)) =
    absurd (let never : Begun ≡ Replied replied.0 = sym e ∙ replied.1 in cc)

asked_there : (t : Traced) (c : ℕ) (g : CanWork t c)
    → slice_get (reconnected t c asked).world.connections c ≡ Some (asked g.connection)
asked_there t c g =
    let new = connection_reconnected t c asked c g.connection g.here in
    elim new.2 [
      | inl is ↦ new.1 ∙ ap Some is.1
      | inr other ↦ absurd (other.0 refl)
    ]

open_id_asked : (t : Traced) (c : ℕ) (g : CanWork t c)
    → open_id (reconnected t c asked).world c ≡ record { connection = c; ordinal = length g.connection.replies }
open_id_asked t c g = ap (λ o. record { connection = c; ordinal = open_ordinal o }) (asked_there t c g)

with_asked : (t : Traced) (c : ℕ) (g : CanWork t c) → IsWith (reconnected t c asked) g.connection.home c g.call
with_asked t c g =
    record { connection = asked g.connection; here = asked_there t c g; home = refl; stage = refl; asked = g.called }

-- an update that was issued isn't this call
issued_apart : (t : Traced) (c : ℕ) (g : CanWork t c)
    → Lawful t
    → (o k : ℕ) (x : CallId)
    → slice_get (issued_by t o) k ≡ Some x
    → x ≡ record { connection = c; ordinal = length g.connection.replies }
    → ⊥
issued_apart t c g l o k x h e =
    let at = l.calling.begun o k x h in
    let same = same_there t.world.connections x.connection c at.1 g.connection (ap (λ (y : CallId). y.connection) e)
    at.4 g.here in
    not_over at.1 x.ordinal (ap (λ (y : Connection). y.stage) same ∙ g.stage)
    (ap (λ (y : CallId). y.ordinal) e ∙ ap (λ (y : Connection). length y.replies) (sym same)) at.6

read_apart : (t : Traced) (c : ℕ) (g : CanWork t c)
    → Lawful t
    → (k : ℕ) (r : AnsweredRead)
    → slice_get t.reads k ≡ Some r
    → r.id ≡ record { connection = c; ordinal = length g.connection.replies }
    → ⊥
read_apart t c g l k r h e =
    let at = l.read.reads k r h in
    let same = same_there t.world.connections r.id.connection c at.connection g.connection
    (ap (λ (y : CallId). y.connection) e) at.here g.here in
    not_over at.connection r.id.ordinal (ap (λ (y : Connection). y.stage) same ∙ g.stage)
    (ap (λ (y : CallId). y.ordinal) e ∙ ap (λ (y : Connection). length y.replies) (sym same))
    (elim at.over [ inl less ↦ inl less | inr over ↦ inr (over.0, inr (over.1, over.2)) ])

-- a call that goes to its server
pub known_called : (t : Traced) (c : ℕ) (g : CanWork t c)
    → Lawful t
    → IsKnown (reconnected t c asked) g.connection.home (Some (Called c g.call))
known_called t c g l =
    let low = (living_parts t.world g.connection.home g.lives).0 in
    let same = server_reconnected t c asked g.connection.home in (
      l.framed.calls c (length g.connection.replies) g.connection g.call g.here g.called,
      with_asked t c g,
      λ u h port. begun_apart t g.connection.home c u.call g
          (subst (λ n. IsWith t g.connection.home n u.call) port
          (l.calling.pend g.connection.home u low (rw same at h)).2),
      λ r h port. (let with = l.calling.asks g.connection.home r low (rw same at h) in begun_apart t g.connection.home c
          with.0 g (subst (λ n. IsWith t g.connection.home n with.0) port with.1)),
      λ o k x h e. issued_apart t c g l o k x (rw (issued_reconnected t c asked o) at h) (e ∙ open_id_asked t c g),
      λ k r h e. read_apart t c g l k r (rw (reads_reconnected t c asked) at h) (e ∙ open_id_asked t c g),
    )
