-- In a quiet chain each begun call of a seat whose server goes on has its reply.
use Rattle.std.proofs.Common.{◌≡◌, ℕ, ◌*◌, ◌^◌, ◌<◌, ◌≤◌, true, false, List, [], ◌++◌, length, Option, None, Some}
use Rattle.std.proofs.Common.{arith, ap, sym, ◌∙◌, subst, append-nil}
use Rattle.std.specs.Prelude.{slice_get, nat_lt, IsSome}
use Rattle.std.specs.Option.{option_and_then}
use Rattle.std.proofs.lemmas.Bool.{and_parts, both_ways, not-true}
use Rattle.world.specs.Calls.{CallId}
use Rattle.world.specs.Connections.{Connection}
use Rattle.world.specs.Worlds.{World, lives, home_lives, run_of}
use Rattle.world.proofs.waiting.NoneForgotten.{none_forgotten_at_rest}
use Rattle.interleavings.specs.Chains.{Seat, Chain, opening_chain}
use Rattle.interleavings.specs.Moves.{Move, moved}
use Rattle.interleavings.specs.Asked.{AreAsked}
use Rattle.interleavings.specs.Orders.{begun_call, reply_to}
use Rattle.interleavings.specs.Pools.{HasNothingLeft}
use Rattle.interleavings.specs.Quiet.{goes_on, IsQuiet, NoneForgotten}
use Rattle.interleavings.proofs.relation.StandsFor.{IsSeat, Sits, StandsFor, lives_on}
use Rattle.interleavings.proofs.relation.Opening.{opens}
use Rattle.interleavings.proofs.relation.Following.{follows}
use Rattle.interleavings.proofs.runs.Simulating.{known, simulates}
use Rattle.interleavings.proofs.quiet.Resting.{resting}

-- the calls of a seat at a living server are those of its connection
all_heard : (w : World) (k : Connection) (s : Seat) → IsSeat w k s → lives w k.home ≡ true → s.calls ≡ k.calls
all_heard w k s g alive = g.calls ∙ ap (λ cs. k.calls ++ cs) (g.heard alive) ∙ append-nil k.calls

-- what is answered at the connection is answered at the seat
by_seat : (l : Chain) (w : World) (p : ℕ) (s : Seat) (o : Option Connection)
    → StandsFor l w
    → Sits l w o s
    → (l.servers s.home).stopped ≡ false
    → s.queued ≡ []
    → (IsSome (option_and_then (λ (k : Connection). slice_get k.calls p) o)
    → home_lives w o ≡ true
    → IsSome (option_and_then (λ (k : Connection). slice_get k.replies p) o))
    → IsSome (slice_get s.calls p)
    → IsSome (slice_get s.got p)
by_seat l w p s None h g going none f begun = absurd (both_ways _ going g.stopped)
by_seat l w p s (Some k) h g going none f begun =
    let alive : lives w k.home ≡ true =
    subst (λ i. lives w i ≡ true) (sym g.home) (lives_on l w s.home h going) in
    let same : k.replies ≡ s.got = g.replies ∙ ap (λ rs. s.got ++ rs) none ∙ append-nil s.got in
    subst (λ rs. IsSome (slice_get rs p)) same
    (f (subst (λ cs. IsSome (slice_get cs p)) (all_heard w k s g alive) begun) alive)

fourfold : (n m b : ℕ) → n ≤ m * 4 → m < b → n < b * 4
fourfold n m b e f = omega (arith, e, f)

-- a quiet chain has nothing left to do
pub nothing_left : (l : Chain) → IsQuiet l → HasNothingLeft l
nothing_left l q = record {
  inboxes = q.inboxes;
  all_published = q.all_published;
  messages = q.messages;
  replies = q.replies;
  views = q.views;
  channels = q.channels;
}

-- no call is forgotten, of a seat whose queue is empty
pub none_forgotten_there : (count : ℕ) (homes : List ℕ) (moves : List Move)
    → count ≤ 16
    → length moves < 2 ^ 62
    → AreAsked moves
    → HasNothingLeft (moved count homes moves)
    → (x : CallId)
    → goes_on (moved count homes moves) ((moved count homes moves).seats x.connection).home ≡ true
    → ((moved count homes moves).seats x.connection).queued ≡ []
    → IsSome (begun_call (moved count homes moves) x)
    → IsSome (reply_to (moved count homes moves) x)
none_forgotten_there count homes moves few short asked quiet x on empty begun =
    let l = moved count homes moves in
    let f = follows count homes (simulates count homes few) moves (opening_chain count homes) [] (opens count homes)
    asked in
    let w = run_of count homes f.0 in
    let going = not-true _ (and_parts (nat_lt (l.seats x.connection).home l.count) _ on).1 in
    let rests = resting l w f.2 quiet (known count homes f.0 few).named in
    by_seat l w x.ordinal (l.seats x.connection) (slice_get w.connections x.connection) f.2 (f.2.seats x.connection)
    going empty
    (λ there alive.
    none_forgotten_at_rest count homes f.0 few (fourfold (length f.0) (length moves) (2 ^ 62) f.1 short) rests x
    there alive)
    begun

-- so none is, in a quiet chain
pub none_forgotten : (count : ℕ) (homes : List ℕ) (moves : List Move)
    → count ≤ 16
    → length moves < 2 ^ 62
    → AreAsked moves
    → IsQuiet (moved count homes moves)
    → NoneForgotten (moved count homes moves)
none_forgotten count homes moves few short asked quiet x on begun =
    none_forgotten_there count homes moves few short asked (nothing_left (moved count homes moves) quiet) x on
    (quiet.queues x.connection on) begun
