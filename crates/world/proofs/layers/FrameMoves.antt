-- A world's shape after the moves that aren't a server's action, and at the outset.
use Rattle.std.proofs.Common.{◌≡◌, ℕ, zero, suc, List, ◌∷◌, Some, None, refl, ◌⊎◌, inl, inr}
use Rattle.std.specs.Prelude.{slice_get}
use Rattle.std.proofs.lemmas.Bool.{cond_both, or_left}
use Rattle.table.specs.declared.operations.Call.{Call}
use Rattle.proto.specs.declared.texts.Form.{Form}
use Rattle.proto.specs.Turns.{Faulty, Calls}
use Rattle.proto.specs.Sessions.{Held, Given, next_of}
use Rattle.proto.specs.Streams.{most_faults}
use Rattle.node.specs.declared.messages.Peer.{Peer}
use Rattle.node.specs.Views.{single}
use Rattle.node.specs.Lawful.{IsCall}
use Rattle.world.specs.declared.connections.Stage.{Stage}
use Rattle.world.specs.declared.connections.Stage.TheVariants.{Idle, Begun, Asked, Replied}
use Rattle.world.specs.Connections.{Connection, came, behind, past_faults_upto, past_faults, begun_by, begun, asked}
use Rattle.world.specs.Connections.{handed}
use Rattle.world.specs.Worlds.{World, server, link, lives, with_link, with_connection, where_home_lives}
use Rattle.node.proofs.Lists.{pushed_cases}
use Rattle.world.proofs.trace.WorldLaws.{Changes}
use Rattle.world.proofs.trace.Traces.{Traced, count, reconnected, unlinked, failing}
use Rattle.world.proofs.trace.Layers.{Later, Framed}
use Rattle.world.proofs.trace.IdLaws.{has-union}
use Rattle.world.proofs.trace.Moves.{Move, Does, Comes, Starts, Works, Hands, Takes, Fails, moved, IsMove}
use Rattle.world.proofs.layers.Addressed.{addressed_later}
use Rattle.world.proofs.layers.Frames.{square, square-with_link, framed_done}
use Rattle.world.proofs.trace.ChangeLaws.{connection_unchanged, link_unlinked}

-- ---- calls fit

-- a call that a session gives fits
abbrev pub NextFits : Type 0
NextFits = (h : Held) (call : Call) (form : Form) → (next_of h).0 ≡ Some (Calls call form) → IsCall call

-- the calls of a connection fit
abbrev pub AllFit : Connection → Type 0
AllFit k = (p : ℕ) (call : Call) → slice_get k.calls p ≡ Some call → IsCall call

behind_cases : (r later : Given) (call : Call) (form : Form)
    → (behind r later).0 ≡ Some (Calls call form)
    → (r.0 ≡ Some (Calls call form)) ⊎ (later.0 ≡ Some (Calls call form))
behind_cases (None, left) later call form h = absurd cc
behind_cases (Some (Faulty fault), left) later call form h = inr h
behind_cases (Some (Calls other more), left) later call form h = inl h

passed_fits : NextFits
    → (n : ℕ) (h : Held) (call : Call) (form : Form)
    → (past_faults_upto n h).0 ≡ Some (Calls call form)
    → IsCall call
passed_fits law zero h call form e = absurd cc
passed_fits law (suc n) h call form e =
    elim (behind_cases (next_of h) (past_faults_upto n (next_of h).1) call form e) [
      | inl now ↦ law h call form now
      | inr later ↦ passed_fits law n (next_of h).1 call form later
    ]

fit_by : (given : Given) (k : Connection)
    → ((call : Call) (form : Form) → given.0 ≡ Some (Calls call form) → IsCall call)
    → AllFit k
    → AllFit (begun_by given k)
fit_by (None, left) k f h = h
fit_by (Some (Faulty fault), left) k f h = h
fit_by (Some (Calls call form), left) k f h =
    λ p x e. elim (pushed_cases k.calls call p x e) [ inl old ↦ h p x old | inr new ↦ rw new.1 (f call form refl) ]

-- the calls of a connection still fit when its next one begins
pub fit_begun : NextFits → (stage : Stage) (k : Connection) → AllFit k → AllFit (begun stage k)
fit_begun law Idle k h =
    fit_by (past_faults k.session) k
    (λ call form e. passed_fits law (suc (most_faults k.session)) k.session call form e) h
fit_begun law Begun k h = h
fit_begun law Asked k h = h
fit_begun law (Replied reply) k h = h

fit_handed : (stage : Stage) (k : Connection) → AllFit k → AllFit (handed stage k)
fit_handed Idle k h = h
fit_handed Begun k h = h
fit_handed Asked k h = h
fit_handed (Replied reply) k h = h

fit_where_home_lives : (w : World) (change : Connection → Connection)
    → ((k : Connection) → AllFit k → AllFit (change k))
    → (k : Connection)
    → AllFit k
    → AllFit (where_home_lives w change k)
fit_where_home_lives w change f k h = cond_both (lives w k.home) (change k) k (λ l. AllFit l) (λ t. f k h) (λ t. h)

fit_changed : (c : ℕ) (change : Connection → Connection) (d : ℕ) (k l : Connection)
    → ((k : Connection) → AllFit k → AllFit (change k))
    → Changes c change d k l
    → AllFit k
    → AllFit l
fit_changed c change d k l f (inl h) g = rw h.1 (f k g)
fit_changed c change d k l f (inr h) g = rw h.1 g

-- ---- connections, links and failures

-- the shape is kept by a change of a connection after which its calls fit
pub framed_reconnected : (t : Traced) (c : ℕ) (change : Connection → Connection)
    → Framed t
    → Later t (reconnected t c change)
    → ((k : Connection) → AllFit k → AllFit (change k))
    → Framed (reconnected t c change)
unfolding reconnected with_connection server link
framed_reconnected t c change f later fit = record {
  most = f.most;
  rows = f.rows;
  row = f.row;
  logs = f.logs;
  issued = f.issued;
  id = f.id;
  chain = f.chain;
  own = f.own;
  known = f.known;
  sound = λ i j m h. addressed_later t _ later i j m (f.sound i j m h);
  calls = λ d p k call h g. (let old = connection_unchanged t c change d k h in
      fit_changed c change d old.0 k fit old.2 (λ n x e. f.calls d n old.0 x old.1 e) p call g);
}

-- the shape is kept if a message is taken off a link
pub framed_unlinked : (t : Traced) (i j : ℕ) (m : Peer) (ms : List Peer)
    → link t.world i j ≡ m ∷ ms
    → Framed t
    → Later t (unlinked t i j ms)
    → Framed (unlinked t i j ms)
unfolding unlinked with_link server
framed_unlinked t i j m ms e f later =
    let q = square-with_link t.world (count t) i j ms (square t f) in
    record {
      most = f.most;
      rows = q.rows;
      row = q.row;
      logs = f.logs;
      issued = f.issued;
      id = f.id;
      chain = f.chain;
      own = f.own;
      known = f.known;
      sound = λ x y n h. addressed_later t _ later x y n (f.sound x y n (link_unlinked t i j m ms e x y n h));
      calls = f.calls;
    }

-- the shape is kept by a failure
pub framed_failing : (t : Traced) (i : ℕ) → Framed t → Later t (failing t i) → Framed (failing t i)
unfolding failing server link
framed_failing t i f later = record {
  most = f.most;
  rows = f.rows;
  row = f.row;
  logs = f.logs;
  issued = f.issued;
  id = f.id;
  chain = f.chain;
  own = f.own;
  known = λ j k l h. rw (has-union t.world.failed (single i) k) (or_left _ _ (f.known j k l h));
  sound = λ x y n h. addressed_later t _ later x y n (f.sound x y n h);
  calls = f.calls;
}

-- ---- all moves

-- the shape is kept by each move
pub framed_moved : NextFits → (t : Traced) (m : Move) → IsMove t m → Framed t → Later t (moved t m) → Framed (moved t m)
framed_moved law t (Does i cause a) g f later = framed_done t i cause a f g later
framed_moved law t (Comes c bytes) g f later =
    framed_reconnected t c _ f later (fit_where_home_lives t.world (came bytes) (λ k h. h))
framed_moved law t (Starts c) g f later =
    framed_reconnected t c _ f later
    (fit_where_home_lives t.world (λ k. begun k.stage k) (λ k h. fit_begun law k.stage k h))
framed_moved law t (Works c) g f later = framed_reconnected t c asked f later (λ k h. h)
framed_moved law t (Hands c) g f later =
    framed_reconnected t c _ f later
    (fit_where_home_lives t.world (λ k. handed k.stage k) (λ k h. fit_handed k.stage k h))
framed_moved law t (Takes i j ms) g f later = framed_unlinked t i j g.message ms g.here f later
framed_moved law t (Fails i) g f later = framed_failing t i f later
