-- Each move keeps what is known of calls and of answered reads, and a chain at its outset has it.
use Rattle.std.proofs.Common.{◌≡◌, ℕ, ◌<◌, Bool, true, false, cond, List, [], ◌∷◌, Some, None, refl, inl, inr, ap, sym}
use Rattle.std.proofs.Common.{◌∙◌, subst}
use Rattle.std.specs.Prelude.{slice_get}
use Rattle.std.proofs.lemmas.Option.{same_Some}
use Rattle.table.specs.declared.operations.Reply.{Reply}
use Rattle.node.specs.declared.messages.Peer.{Peer}
use Rattle.proto.specs.Turns.{Faulty, Calls}
use Rattle.proto.specs.Sessions.{Given}
use Rattle.world.specs.declared.connections.Stage.{Stage}
use Rattle.world.specs.declared.connections.Stage.TheVariants.{Idle, Begun, Asked, Replied}
use Rattle.world.specs.Connections.{Connection, came, begun_by, begun, past_faults, asked, handed}
use Rattle.world.specs.Worlds.{World, link, lives, where_home_lives}
use Rattle.world.specs.Calls.{CallId, reply_to}
use Rattle.node.specs.Actions.{Action, Cause}
use Rattle.world.proofs.trace.Traces.{Traced, count, reconnected, unlinked, failing, outset}
use Rattle.world.proofs.trace.Layers.{Later, Framed, Lawful, Logged, Calling, Read}
use Rattle.world.proofs.trace.WorldLaws.{Changes}
use Rattle.world.proofs.trace.ChangeLaws.{server_reconnected, link_reconnected, log_reconnected, issued_reconnected}
use Rattle.world.proofs.trace.ChangeLaws.{reads_reconnected, connection_reconnected, connection_unchanged}
use Rattle.world.proofs.trace.ChangeLaws.{server_unlinked, link_unlinked, log_unlinked, issued_unlinked, reads_unlinked}
use Rattle.world.proofs.trace.ChangeLaws.{connections_unlinked, server_failing, link_failing, log_failing}
use Rattle.world.proofs.trace.ChangeLaws.{issued_failing, reads_failing, connections_failing}
use Rattle.world.proofs.trace.Moves.{Move, Does, Comes, Starts, Works, Hands, Takes, Fails, moved, IsMove, CanDo}
use Rattle.world.proofs.trace.Moves.{CanWork}
use Rattle.world.proofs.trace.LaterMoves.{reply_stands}
use Rattle.world.proofs.trace.Outsets.{count_outset, server_outset, log_outset, issued_outset, link_outset, all_alike}
use Rattle.world.proofs.trace.Outsets.{fresh_at, nothing_in}
use Rattle.world.proofs.calls.EntryCounts.{entries-none}
use Rattle.world.proofs.calls.StepInputs.{IsStep}
use Rattle.world.proofs.calls.CallingDone.{calling_done}
use Rattle.world.proofs.calls.ReadDone.{read_done}
use Rattle.world.proofs.calls.PassiveMoves.{IsPassive, Progress, stays_self, calling_passive, read_passive}
use Rattle.world.proofs.calls.PassiveMoves as progress

-- ---- what each event makes of a connection

progress_by : (given : Given) (k : Connection) → k.stage ≡ Idle → Progress k (begun_by given k)
progress_by (None, left) k idle = progress.Stays (record { home = refl; calls = refl; replies = refl; stage = refl })
progress_by (Some (Faulty fault), left) k idle =
    progress.Stays (record { home = refl; calls = refl; replies = refl; stage = refl })
progress_by (Some (Calls call form), left) k idle =
    progress.Starts (record { call = call; home = refl; calls = refl; replies = refl; before = idle; stage = refl })

progress_begun : (stage : Stage) (k : Connection) → k.stage ≡ stage → Progress k (begun stage k)
progress_begun Idle k e = progress_by (past_faults k.session) k e
progress_begun Begun k e = stays_self k
progress_begun Asked k e = stays_self k
progress_begun (Replied reply) k e = stays_self k

progress_handed : (stage : Stage) (k : Connection) → k.stage ≡ stage → Progress k (handed stage k)
progress_handed Idle k e = stays_self k
progress_handed Begun k e = stays_self k
progress_handed Asked k e = stays_self k
progress_handed (Replied reply) k e =
    progress.Hands (record { reply = reply; home = refl; calls = refl; replies = refl; before = e; stage = refl })

progress_came : (bytes : List ℕ) (k : Connection) → Progress k (came bytes k)
progress_came bytes k = progress.Stays (record { home = refl; calls = refl; replies = refl; stage = refl })

progress_asked : (k : Connection) → k.stage ≡ Begun → Progress k (asked k)
progress_asked k e = progress.Works (record { home = refl; calls = refl; replies = refl; before = e; stage = refl })

progress_if : (b : Bool) (k l : Connection) → Progress k l → Progress k (cond b l k)
progress_if true k l c = c
progress_if false k l c = stays_self k

-- if its home lives
at_home : (w : World) (change : Connection → Connection) (k : Connection)
    → Progress k (change k)
    → Progress k (where_home_lives w change k)
at_home w change k c = progress_if (lives w k.home) k (change k) c

-- ---- moves that aren't a server's action

progress_after : (c : ℕ) (change : Connection → Connection) (d : ℕ) (k l : Connection)
    → (d ≡ c → Progress k (change k))
    → Changes c change d k l
    → Progress k l
progress_after c change d k l f (inl h) = rw h.1 (f h.0)
progress_after c change d k l f (inr h) = rw h.1 (stays_self k)

passive_reconnected : (t : Traced) (c : ℕ) (change : Connection → Connection)
    → Later t (reconnected t c change)
    → ((k : Connection) → slice_get t.world.connections c ≡ Some k → Progress k (change k))
    → IsPassive t (reconnected t c change)
passive_reconnected t c change l f = record {
  later = l;
  server = λ k. server_reconnected t c change k;
  log = λ k. log_reconnected t c change k;
  issued = λ k. issued_reconnected t c change k;
  reads = reads_reconnected t c change;
  link = λ x y m h. rw (link_reconnected t c change x y) at h;
  after = λ d k h. (let g = connection_reconnected t c change d k h in
      (g.0, g.1, progress_after c change d k g.0 (λ same. f k (rw same at h)) g.2));
  before = λ d k h.
      (let g = connection_unchanged t c change d k h in (
        g.0,
        g.1,
        progress_after c change d g.0 k
            (λ same. f g.0 (subst (λ x. slice_get t.world.connections x ≡ Some g.0) same g.1)) g.2,
      ));
}

passive_unlinked : (t : Traced) (i j : ℕ) (m : Peer) (ms : List Peer)
    → Later t (unlinked t i j ms)
    → link t.world i j ≡ m ∷ ms
    → IsPassive t (unlinked t i j ms)
passive_unlinked t i j m ms l e =
    let same = connections_unlinked t i j ms in
    record {
      later = l;
      server = λ k. server_unlinked t i j ms k;
      log = λ k. log_unlinked t i j ms k;
      issued = λ k. issued_unlinked t i j ms k;
      reads = reads_unlinked t i j ms;
      link = λ x y n h. link_unlinked t i j m ms e x y n h;
      after = λ c k h. (k, rw same h, stays_self k);
      before = λ c k h. (k, rw same at h, stays_self k);
    }

passive_failing : (t : Traced) (i : ℕ) → Later t (failing t i) → IsPassive t (failing t i)
passive_failing t i l =
    let same = connections_failing t i in
    record {
      later = l;
      server = λ k. server_failing t i k;
      log = λ k. log_failing t i k;
      issued = λ k. issued_failing t i k;
      reads = reads_failing t i;
      link = λ x y n h. rw (link_failing t i x y) at h;
      after = λ c k h. (k, rw same h, stays_self k);
      before = λ c k h. (k, rw same at h, stays_self k);
    }

works_begun : (t : Traced) (c : ℕ) (g : CanWork t c) (k : Connection)
    → slice_get t.world.connections c ≡ Some k
    → Progress k (asked k)
works_begun t c g k h = let same : k ≡ g.connection = same_Some k g.connection (sym h ∙ g.here) in progress_asked k
    (ap (λ (x : Connection). x.stage) same ∙ g.stage)

-- a move that is an action is a step of a living server, as the laws allow
pub step_of_move : (t : Traced) (i : ℕ) (cause : Cause) (a : Action)
    → CanDo t i cause a
    → Lawful t
    → Later t (moved t (Does i cause a))
    → IsStep t i cause a
step_of_move t i cause a g l later =
    record { lives = g.lives; lawful = l; known = g.known; sound = g.sound; guard = g.guard; later = later }

-- each move keeps what is known of calls
pub calling_moved : (t : Traced) (m : Move)
    → IsMove t m
    → Lawful t
    → Later t (moved t m)
    → Framed (moved t m)
    → Logged (moved t m)
    → Calling (moved t m)
calling_moved t (Does i cause a) g l later framed logged = calling_done t i cause a (step_of_move t i cause a g l later)
calling_moved t (Comes c bytes) g l later framed logged =
    calling_passive t _
    (passive_reconnected t c _ later (λ k h. at_home t.world (came bytes) k (progress_came bytes k))) l
calling_moved t (Starts c) g l later framed logged =
    calling_passive t _
    (passive_reconnected t c _ later
    (λ k h. at_home t.world (λ k. begun k.stage k) k (progress_begun k.stage k refl))) l
calling_moved t (Works c) g l later framed logged =
    calling_passive t _ (passive_reconnected t c asked later (works_begun t c g)) l
calling_moved t (Hands c) g l later framed logged =
    calling_passive t _
    (passive_reconnected t c _ later
    (λ k h. at_home t.world (λ k. handed k.stage k) k (progress_handed k.stage k refl))) l
calling_moved t (Takes i j ms) g l later framed logged =
    calling_passive t _ (passive_unlinked t i j g.message ms later g.here) l
calling_moved t (Fails i) g l later framed logged = calling_passive t _ (passive_failing t i later) l

-- each move keeps what is known of answered reads
pub read_moved : (t : Traced) (m : Move)
    → IsMove t m
    → Lawful t
    → Later t (moved t m)
    → Framed (moved t m)
    → Logged (moved t m)
    → Calling (moved t m)
    → Read (moved t m)
read_moved t (Does i cause a) g l later framed logged calling =
    read_done t i cause a (step_of_move t i cause a g l later)
read_moved t (Comes c bytes) g l later framed logged calling =
    read_passive t _ (passive_reconnected t c _ later (λ k h. at_home t.world (came bytes) k (progress_came bytes k))) l
read_moved t (Starts c) g l later framed logged calling =
    read_passive t _ (passive_reconnected t c _ later
    (λ k h. at_home t.world (λ k. begun k.stage k) k (progress_begun k.stage k refl))) l
read_moved t (Works c) g l later framed logged calling =
    read_passive t _ (passive_reconnected t c asked later (works_begun t c g)) l
read_moved t (Hands c) g l later framed logged calling =
    read_passive t _ (passive_reconnected t c _ later
    (λ k h. at_home t.world (λ k. handed k.stage k) k (progress_handed k.stage k refl))) l
read_moved t (Takes i j ms) g l later framed logged calling =
    read_passive t _ (passive_unlinked t i j g.message ms later g.here) l
read_moved t (Fails i) g l later framed logged calling = read_passive t _ (passive_failing t i later) l

-- ---- at the outset

none_there : {X : Type 0} (k : ℕ) (x : X) → slice_get [] k ≡ Some x → ⊥
none_there k x h = absurd cc

never_waits : (n : ℕ) (homes : List ℕ) (c : ℕ) (k : Connection) (reply : Reply)
    → slice_get (outset n homes).world.connections c ≡ Some k
    → k.stage ≡ Replied reply
    → ⊥
never_waits n homes c k reply h waits =
    let f = fresh_at homes c k h in
    let never : Idle ≡ Replied reply = sym (ap (λ (k : Connection). k.stage) f.2) ∙ waits in
    absurd cc

never_replied : (n : ℕ) (homes : List ℕ) (x : CallId) (reply : Reply)
    → reply_to (outset n homes).world x ≡ Some reply
    → ⊥
never_replied n homes x reply h =
    let k = reply_stands (outset n homes).world x reply h in
    let f = fresh_at homes x.connection k.0 k.1 in
    none_there x.ordinal reply (ap (λ rs. slice_get rs x.ordinal) (sym (ap (λ (k : Connection). k.replies) f.2)) ∙ k.2)

-- what is known of calls holds before any event
pub calling_outset : (n : ℕ) (homes : List ℕ) → Calling (outset n homes)
calling_outset n homes =
    let t = outset n homes in
    let few = λ (i : ℕ) (h : i < count t). (let h' : i < n = rw (count_outset n homes) at h in h') in
    record {
      begun = λ o k x h. absurd (none_there k x (rw (issued_outset n homes o) at h));
      next_id = λ o h. rw (server_outset n homes o (few o h), issued_outset n homes o) refl;
      once = λ o p k l x h f. absurd (none_there k x (rw (issued_outset n homes o) at h));
      ids = λ i k e h. absurd (none_there k e (rw (log_outset n homes i) at h));
      seen = λ i o h f. rw (server_outset n homes i (few i h), log_outset n homes i, entries-none o) (all_alike 16 o 0);
      decided = λ i k e h. absurd (none_there k e (rw (log_outset n homes i) at h));
      pend = λ i u h f. absurd (nothing_in u (rw (server_outset n homes i (few i h)) at f));
      asks = λ i r h f. absurd (nothing_in r (rw (server_outset n homes i (few i h)) at f));
      alone = λ i r q h f g e. absurd (nothing_in r (rw (server_outset n homes i (few i h)) at f));
      handed = λ x reply h. absurd (never_replied n homes x reply h);
      waiting = λ c k reply h e. absurd (never_waits n homes c k reply h e);
      issues = λ i j m h. absurd (nothing_in m (rw (link_outset n homes i j) at h));
    }

-- what is known of answered reads holds before any event
pub read_outset : (n : ℕ) (homes : List ℕ) → Read (outset n homes)
read_outset n homes =
    record { reads = λ k r h. absurd (none_there k r h); once = λ j k r q h f e. absurd (none_there j r h) }
