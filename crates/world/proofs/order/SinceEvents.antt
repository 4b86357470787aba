-- What holds with regard to an earlier moment is kept by every move.
use Rattle.std.proofs.Common.{◌≡◌, ℕ, ◌≤◌, List, ◌∷◌, length, Some, refl, sym, ap, ◌∙◌, arith, subst, ◌⊎◌, inl, inr}
use Rattle.std.specs.Prelude.{slice_get, IsSome}
use Rattle.std.proofs.lemmas.Bool.{cond_both}
use Rattle.table.specs.declared.operations.Reply.{Reply}
use Rattle.node.specs.declared.messages.Peer.{Peer}
use Rattle.world.specs.declared.connections.Stage.{Stage}
use Rattle.world.specs.declared.connections.Stage.TheVariants.{Idle, Begun, Asked, Replied}
use Rattle.world.specs.Connections.{Connection, came, begun, asked, handed}
use Rattle.world.specs.Worlds.{World, server, link, with_link, with_connection, lives, where_home_lives}
use Rattle.world.specs.Calls.{CallId, begun_call}
use Rattle.world.proofs.trace.Traces.{Traced, log, open_id, open_ordinal, reconnected, unlinked, failing}
use Rattle.world.proofs.trace.ChangeLaws.{connection_reconnected, link_unlinked, log_unlinked, server_unlinked}
use Rattle.world.proofs.trace.Layers.{Later, Lawful}
use Rattle.world.proofs.trace.Moves.{Move, Does, Comes, Starts, Works, Hands, Takes, Fails, moved, IsMove}
use Rattle.world.proofs.order.Since.{Since, IsKnownSince, says_later}
use Rattle.world.proofs.order.SinceMoves.{since_done}

-- a change that leaves the replies of a connection whose call is with its server
abbrev KeepsReplies : (Connection → Connection) → Type 0
KeepsReplies change = (k : Connection) → k.stage ≡ Asked → (change k).replies ≡ k.replies

-- the name of an open read's call stays
name_kept : (t : Traced) (c d : ℕ) (change : Connection → Connection) (k : Connection)
    → slice_get t.world.connections d ≡ Some k
    → k.stage ≡ Asked
    → KeepsReplies change
    → open_id (reconnected t c change).world d ≡ open_id t.world d
name_kept t c d change k h stage keeps =
    let r = connection_reconnected t c change d k h in
    let same : r.0.replies ≡ k.replies =
    elim r.2 [
      | inl g ↦ ap (λ (k : Connection). k.replies) g.1
          ∙ keeps k stage
      | inr g ↦ ap (λ (k : Connection). k.replies) g.1
    ] in
    ap (λ n. record { connection = d; ordinal = n })
    (ap open_ordinal r.1 ∙ ap (λ (rs : List Reply). length rs) same ∙ sym (ap open_ordinal h))

since_reconnected : (z t : Traced) (c : ℕ) (change : Connection → Connection)
    → Lawful t
    → KeepsReplies change
    → Since z t
    → Since z (reconnected t c change)
unfolding reconnected with_connection log server link
since_reconnected z t c change l keeps s = record {
  entries = s.entries;
  answers = s.answers;
  asks = λ i r lt h.
      let w = l.calling.asks i r lt h in
      subst (λ (id : CallId). IsSome (begun_call z.world id) ⊎ ((server z.world i).next_ask ≤ r.ask))
      (sym (name_kept t c r.port change w.1.connection w.1.here w.1.stage keeps)) (s.asks i r lt h);
  says = λ i j m h. s.says i j m h;
}

since_unlinked : (z t : Traced) (i j : ℕ) (m : Peer) (ms : List Peer)
    → link t.world i j ≡ m ∷ ms
    → Since z t
    → Since z (unlinked t i j ms)
unfolding unlinked with_link
since_unlinked z t i j m ms e s = record {
  entries = λ x k e2 lt h. s.entries x k e2 lt (rw (log_unlinked t i j ms x) at h);
  answers = s.answers;
  asks = λ x r lt h. s.asks x r lt (rw (server_unlinked t i j ms x) at h);
  says = λ x y n h. says_later z t (unlinked t i j ms) x y n.body (λ k. rw (server_unlinked t i j ms k) (omega arith))
      (s.says x y n (link_unlinked t i j m ms e x y n h));
}

since_failing : (z t : Traced) (i : ℕ) → Since z t → Since z (failing t i)
unfolding failing log server link
since_failing z t i s = record { entries = s.entries; answers = s.answers; asks = s.asks; says = s.says }

by_home : (w : World) (change : Connection → Connection)
    → KeepsReplies change
    → KeepsReplies (where_home_lives w change)
by_home w change keeps k e =
    cond_both (lives w k.home) (change k) k (λ x. x.replies ≡ k.replies) (λ t. keeps k e) (λ t. refl)

begun_keeps : (s : Stage) (k : Connection) → s ≡ Asked → (begun s k).replies ≡ k.replies
begun_keeps Asked k e = refl
begun_keeps Idle k e = absurd cc
begun_keeps Begun k e = absurd cc
begun_keeps (Replied reply) k e = absurd cc

handed_keeps : (s : Stage) (k : Connection) → s ≡ Asked → (handed s k).replies ≡ k.replies
handed_keeps Asked k e = refl
handed_keeps Idle k e = absurd cc
handed_keeps Begun k e = absurd cc
handed_keeps (Replied reply) k e = absurd cc

-- what is known of the input of an action with regard to the earlier moment
abbrev pub IsMoveSince : Traced → Traced → Move → Type 0
IsMoveSince z t (Does i cause a) = IsKnownSince z t i cause
IsMoveSince z t (Comes c bytes) = Unit {0}
IsMoveSince z t (Starts c) = Unit {0}
IsMoveSince z t (Works c) = Unit {0}
IsMoveSince z t (Hands c) = Unit {0}
IsMoveSince z t (Takes i j ms) = Unit {0}
IsMoveSince z t (Fails i) = Unit {0}

-- each move keeps what holds with regard to an earlier moment
pub since_moved : (z t : Traced) (m : Move)
    → IsMove t m
    → Lawful t
    → Later z t
    → Later t (moved t m)
    → IsMoveSince z t m
    → Since z t
    → Since z (moved t m)
since_moved z t (Does i cause a) g l later next known s =
    since_done z t i cause a later s known
    (record { lives = g.lives; lawful = l; known = g.known; sound = g.sound; guard = g.guard; later = next })
since_moved z t (Comes c bytes) g l later next known s =
    since_reconnected z t c _ l (by_home t.world (came bytes) (λ k e. refl)) s
since_moved z t (Starts c) g l later next known s =
    since_reconnected z t c _ l (by_home t.world (λ k. begun k.stage k) (λ k e. begun_keeps k.stage k e)) s
since_moved z t (Works c) g l later next known s = since_reconnected z t c asked l (λ k e. refl) s
since_moved z t (Hands c) g l later next known s =
    since_reconnected z t c _ l (by_home t.world (λ k. handed k.stage k) (λ k e. handed_keeps k.stage k e)) s
since_moved z t (Takes i j ms) g l later next known s = since_unlinked z t i j g.message ms g.here s
since_moved z t (Fails i) g l later next known s = since_failing z t i s
