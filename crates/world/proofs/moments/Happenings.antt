-- Each event is made of moves: after it stands a traced world whose world is the event's.
use Rattle.std.proofs.Common.{◌≡◌, ◌≢◌, ℕ, ◌<◌, true, List, [], ◌∷◌, length, Option, Some, None, refl, inl, inr, sym}
use Rattle.std.proofs.Common.{ap, ◌∙◌, subst}
use Rattle.std.specs.Prelude.{slice_get, nat_lt, ◌&&◌}
use Rattle.std.proofs.lemmas.Bool.{and_parts, cases_eq, cond_both, ltb-true}
use Rattle.std.proofs.lemmas.List.{length-set}
use Rattle.table.specs.declared.operations.Call.{Call}
use Rattle.node.specs.declared.messages.Peer.{Peer}
use Rattle.node.specs.declared.messages.Input.{Input}
use Rattle.node.specs.declared.messages.Input.TheVariants.{Call as Called, From, Gone}
use Rattle.node.specs.Views.{has, union, single}
use Rattle.node.specs.Servers.{ServerState, RuleResult}
use Rattle.node.specs.Steps.{step}
use Rattle.node.specs.Lawful.{IsLawful, IsInput, HoldsEntry}
use Rattle.node.proofs.RuleLaws.{lawful-step}
use Rattle.world.specs.declared.events.Event.{Event}
use Rattle.world.specs.declared.events.Event.TheVariants.{Piece, Begin, Work, Deliver, Fail, Tell, Hand}
use Rattle.world.specs.declared.connections.Stage.{Stage}
use Rattle.world.specs.declared.connections.Stage.TheVariants.{Idle, Begun, Asked, Replied}
use Rattle.world.specs.Connections.{Connection, open_call, to_work, asked}
use Rattle.world.specs.Worlds.{World, server, link, lives, has_failed, with_server, with_link, with_connection, acted}
use Rattle.world.specs.Worlds.{takes, sent_in, worked, delivered, happens}
use Rattle.world.proofs.trace.Traces.{Traced, all_done, reconnected, unlinked, failing}
use Rattle.world.proofs.trace.Layers.{Lawful, IsKnown}
use Rattle.world.proofs.trace.IdLaws.{living_parts}
use Rattle.world.proofs.trace.WorldLaws.{server_same, server_apart, servers-put_all, server-put_all}
use Rattle.world.proofs.trace.ChangeLaws.{lives_reconnected, lives_unlinked}
use Rattle.world.proofs.moments.WholeSteps.{world_of_all}
use Rattle.world.proofs.moments.KnownInputs.{known_taken, known_called}
use Rattle.world.proofs.trace.Moves.{Move, Comes, Starts, Works, Hands, Takes, Fails, moved, CanWork, CanTake, IsMove}
use Rattle.world.proofs.trace.Moves.{Memory, IsOf, Recalls}
use Rattle.world.proofs.moments.Goings.{Laws, GoesOn, Goes, stays, later_by, lawful_by, goes_first, goes_all}

-- each server is lawful, as it is between steps
abbrev pub AllLawful : World → Type 0
AllLawful w = (i : ℕ) → i < length w.servers → IsLawful (server w i)

-- after t stands a traced world whose world is w
pub record Reaches (t : Traced) (w : World) : Type 0 where
  pub after : Traced
  pub goes : Goes t after
  pub world : after.world ≡ w
  pub all : AllLawful w

-- a lawful world comes after itself
pub reached : (t : Traced) → Lawful t → AllLawful t.world → Reaches t t.world
reached t l all = record { after = t; goes = stays t l; world = refl; all = all }

-- ---- a server takes an input

-- what is known of an input makes it one
fits_known : (t : Traced) (i : ℕ) (input : Input) → IsKnown t i (Some input) → IsInput input × HoldsEntry input
fits_known t i (Called port call) known = (known.0, tt)
fits_known t i (From j m) known = (known.0.fit, known.0.entry)
fits_known t i (Gone j) known = (tt, tt)

-- the server that took an input is what its step made of it
pub server-acted : (w : World) (i : ℕ) (a : RuleResult) → i < length w.servers → server (acted w i a) i ≡ a.state
server-acted w i a l = server-put_all (with_server w i a.state) i a.outputs i ∙ server_same w i a.state l

server-acted_other : (w : World) (i k : ℕ) (a : RuleResult) → k ≢ i → server (acted w i a) k ≡ server w k
server-acted_other w i k a other =
    server-put_all (with_server w i a.state) i a.outputs k ∙ server_apart w i k a.state other

count-acted : (w : World) (i : ℕ) (a : RuleResult) → length (acted w i a).servers ≡ length w.servers
unfolding with_server
count-acted w i a = ap (λ (ss : List ServerState). length ss) (servers-put_all (with_server w i a.state) i a.outputs)
    ∙ length-set w.servers i a.state

all_taken : (w : World) (i : ℕ) (input : Input)
    → i < length w.servers
    → IsInput input × HoldsEntry input
    → AllLawful w
    → length (takes w i input).servers ≡ length w.servers
    → AllLawful (takes w i input)
all_taken w i input l fit all same k low =
    elim (cases_eq k i) [
      | inl is ↦ rw (is, server-acted w i (step (server w i) input) l)
          (lawful-step (server w i) input fit.0 fit.1 (all i l))
      | inr other ↦ rw (server-acted_other w i k (step (server w i) input) other) (all k (rw same at low))
    ]

-- after t, if server i takes this input, stands a traced world
record Took (t : Traced) (i : ℕ) (input : Input) : Type 0 where
  after : Traced
  goes : (before : Memory) → IsOf before i (Some input) → GoesOn before t after
  world : after.world ≡ takes t.world i input
  all : AllLawful (takes t.world i input)

took : Laws
    → (t : Traced) (i : ℕ) (input : Input)
    → Lawful t
    → AllLawful t.world
    → lives t.world i ≡ true
    → IsKnown t i (Some input)
    → Took t i input
took laws t i input l all living known =
    let low = (living_parts t.world i living).0 in
    let fit = fits_known t i input known in
    let d = laws.step (server t.world i) input (all i low) fit.0 fit.1 in
    let world = world_of_all t i d.actions low ∙ ap (λ a. acted t.world i a) (sym d.same) in
    record {
      after = all_done t i d.actions;
      goes = λ before of. goes_all laws before t i (Some input) d.actions of l living known d.guarded;
      world = world;
      all = all_taken t.world i input low fit all (count-acted t.world i (step (server t.world i) input));
    }

-- ---- connections

all_reconnected : (t : Traced) (c : ℕ) (change : Connection → Connection)
    → AllLawful t.world
    → AllLawful (reconnected t c change).world
unfolding reconnected with_connection server
all_reconnected t c change all = all

all_unlinked : (t : Traced) (i j : ℕ) (ms : List Peer) → AllLawful t.world → AllLawful (unlinked t i j ms).world
unfolding unlinked with_link server
all_unlinked t i j ms all = all

all_failing : (t : Traced) (i : ℕ) → AllLawful t.world → AllLawful (failing t i).world
unfolding failing server
all_failing t i all = all

changes : Laws
    → (t : Traced) (m : Move)
    → IsMove t m
    → ((before : Memory) → Recalls before m)
    → Lawful t
    → AllLawful (moved t m).world
    → Reaches t (moved t m).world
changes laws t m g r l all =
    record {
      after = moved t m;
      goes = λ before. goes_first laws before t m g (r before) l (moved t m)
          (stays (moved t m) (lawful_by laws t m g l) _);
      world = refl;
      all = all;
    }

world_reconnected : (t : Traced) (c : ℕ) (change : Connection → Connection)
    → (reconnected t c change).world ≡ with_connection t.world c change
unfolding reconnected
world_reconnected t c change = refl

works : Laws
    → (t : Traced) (c : ℕ) (k : Connection)
    → Lawful t
    → AllLawful t.world
    → slice_get t.world.connections c ≡ Some k
    → lives t.world k.home ≡ true
    → (stage : Stage) (o : Option Call)
    → k.stage ≡ stage
    → open_call k ≡ o
    → Reaches t (sent_in t.world c k.home (to_work stage k))
works laws t c k l all here living Idle o s e = reached t l all
works laws t c k l all here living Begun None s e = rw e (reached t l all)
works laws t c k l all here living Begun (Some call) s e =
    let g : CanWork t c = record { connection = k; call = call; here = here; lives = living; stage = s; called = e } in
    let u = reconnected t c asked in
    let r = took laws u k.home (Called c call) (lawful_by laws t (Works c) g l) (all_reconnected t c asked all)
    (lives_reconnected t c asked k.home ∙ living) (known_called t c g l) in
    let whole : Reaches t (takes u.world k.home (Called c call)) =
    record {
      after = r.after;
      goes = λ before. goes_first laws before t (Works c) g tt l r.after (r.goes before tt);
      world = r.world;
      all = r.all;
    } in
    rw e (subst (λ w. Reaches t (takes w k.home (Called c call))) (world_reconnected t c asked) whole)
works laws t c k l all here living Asked o s e = reached t l all
works laws t c k l all here living (Replied reply) o s e = reached t l all

worked_at : Laws
    → (t : Traced) (c : ℕ)
    → Lawful t
    → AllLawful t.world
    → (o : Option Connection)
    → slice_get t.world.connections c ≡ o
    → Reaches t (worked t.world c o)
worked_at laws t c l all None e = reached t l all
worked_at laws t c l all (Some k) e =
    cond_both (lives t.world k.home) (sent_in t.world c k.home (to_work k.stage k)) t.world (λ w. Reaches t w)
    (λ living. works laws t c k l all e living k.stage (open_call k) refl refl)
    (λ failed. reached t l all)

-- ---- links and failures

world_unlinked : (t : Traced) (i j : ℕ) (ms : List Peer) → (unlinked t i j ms).world ≡ with_link t.world i j ms
unfolding unlinked
world_unlinked t i j ms = refl

delivers : Laws
    → (t : Traced) (i j : ℕ)
    → Lawful t
    → AllLawful t.world
    → (ms : List Peer)
    → link t.world i j ≡ ms
    → Reaches t (delivered t.world i j ms)
delivers laws t i j l all [] e = reached t l all
delivers laws t i j l all (m ∷ ms) e =
    cond_both (lives t.world j) (takes (with_link t.world i j ms) j (From i m)) t.world (λ w. Reaches t w)
    (λ living.
    let g : CanTake t i j ms = record { message = m; here = e; lives = living } in
    let later = later_by laws t (Takes i j ms) g l in
    let u = unlinked t i j ms in
    let r = took laws u j (From i m) (lawful_by laws t (Takes i j ms) g l) (all_unlinked t i j ms all)
    (lives_unlinked t i j ms j ∙ living) (known_taken t i j ms g l later) in
    let whole : Reaches t (takes u.world j (From i m)) =
    record {
      after = r.after;
      goes = λ before. goes_first laws before t (Takes i j ms) g tt l r.after
          (r.goes (Some (record { from = i; to = j; message = m })) refl);
      world = r.world;
      all = r.all;
    } in
    subst (λ w. Reaches t (takes w j (From i m))) (world_unlinked t i j ms) whole)
    (λ failed. reached t l all)

world_failing : (t : Traced) (i : ℕ) → (failing t i).world ≡ record t.world { failed = union t.world.failed (single i) }
unfolding failing
world_failing t i = refl

fails : Laws → (t : Traced) (i : ℕ) → Lawful t → AllLawful t.world → Reaches t (happens t.world (Fail i))
fails laws t i l all =
    cond_both (lives t.world i) (record t.world { failed = union t.world.failed (single i) }) t.world (λ w. Reaches t w)
    (λ living. subst (λ w. Reaches t w) (world_failing t i)
    (changes laws t (Fails i) living (λ before. tt) l (all_failing t i all)))
    (λ failed. reached t l all)

tells : Laws → (t : Traced) (i j : ℕ) → Lawful t → AllLawful t.world → Reaches t (happens t.world (Tell i j))
tells laws t i j l all =
    cond_both (lives t.world i && has_failed t.world j) (takes t.world i (Gone j)) t.world (λ w. Reaches t w)
    (λ both.
    let p = and_parts (lives t.world i) (has_failed t.world j) both in
    let q = and_parts (nat_lt j (length t.world.servers)) (has t.world.failed j) p.1 in
    let r = took laws t i (Gone j) l all p.0 (q.1, ltb-true _ _ q.0) in
    record { after = r.after; goes = λ before. r.goes before tt; world = r.world; all = r.all })
    (λ other. reached t l all)

-- ---- all events

-- after each event stands a traced world that comes by moves
pub happened : Laws → (t : Traced) (e : Event) → Lawful t → AllLawful t.world → Reaches t (happens t.world e)
happened laws t (Piece c bytes) l all =
    subst (λ w. Reaches t w) (world_reconnected t c _)
    (changes laws t (Comes c bytes) tt (λ before. tt) l (all_reconnected t c _ all))
happened laws t (Begin c) l all =
    subst (λ w. Reaches t w) (world_reconnected t c _)
    (changes laws t (Starts c) tt (λ before. tt) l (all_reconnected t c _ all))
happened laws t (Work c) l all = worked_at laws t c l all (slice_get t.world.connections c) refl
happened laws t (Deliver i j) l all = delivers laws t i j l all (link t.world i j) refl
happened laws t (Fail i) l all = fails laws t i l all
happened laws t (Tell i j) l all = tells laws t i j l all
happened laws t (Hand c) l all =
    subst (λ w. Reaches t w) (world_reconnected t c _)
    (changes laws t (Hands c) tt (λ before. tt) l (all_reconnected t c _ all))
