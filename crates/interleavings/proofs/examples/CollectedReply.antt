-- A chain that serves, in which a reply was collected and its port was used again, has nothing left to do.
use Rattle.std.proofs.Common.{◌≡◌, ℕ, zero, suc, true, false, [], None, refl, arith, ap, ◌∙◌}
use Rattle.std.specs.Prelude.{not, nat_lt}
use Rattle.std.proofs.lemmas.Bool.{and_parts, both_ways, ltb-true}
use Rattle.node.specs.Numbering.{left_open, replies, risen, appended, passed_on, take_update, entered}
use Rattle.node.specs.Servers.{most}
use Rattle.node.specs.Steps.{trimmed}
use Rattle.node.specs.Views.{has, union, single, is_below, adds, next_from, predecessor}
use Rattle.proto.specs.Words.{line_limit}
use Rattle.interleavings.specs.Chains.{Chain, with_at, messages_to, replies_to}
use Rattle.interleavings.specs.Moves.{has_stopped}
use Rattle.interleavings.specs.Quiet.{goes_on}
use Rattle.interleavings.specs.Connections.{waits}
use Rattle.interleavings.specs.ServingMoves.{ServingChain, served_at}
use Rattle.interleavings.specs.Pools.{pooled, HasNothingLeft, IsServingQuiet}
use Rattle.interleavings.specs.WorkedPorts.{shared_homes, port_zero, set_is_lost, reply_is_put, port_is_free}
use Rattle.interleavings.specs.WorkedPorts.{collected_moves}
use Rattle.interleavings.proofs.served.PooledRuns.{followed}

abbrev last : ServingChain
last = pooled 1 shared_homes port_zero collected_moves

-- the one server
record IsDone (l : Chain) : Type 0 where
  count : l.count ≡ 1
  inbox : (l.servers 0).inbox ≡ []
  unpublished : (l.servers 0).unpublished ≡ None
  messages : (j : ℕ) → messages_to j (l.servers 0).outbox ≡ []
  replied : (port : ℕ) → replies_to port (l.servers 0).outbox ≡ []
  going : (l.servers 0).stopped ≡ false
  channel : l.channels 0 0 ≡ []

done_here : IsDone last.chain
unfolding set_is_lost reply_is_put port_is_free with_at line_limit has union single is_below adds next_from predecessor
    most appended entered trimmed left_open replies risen passed_on take_update
done_here = record {
  count = refl;
  inbox = refl;
  unpublished = refl;
  messages = λ j. refl;
  replied = λ port. refl;
  going = refl;
  channel = refl;
}

-- a server that goes on is the one
the_one : (l : Chain) → l.count ≡ 1 → (i : ℕ) → goes_on l i ≡ true → i ≡ 0
the_one l one i on =
    let below = ltb-true i l.count (and_parts (nat_lt i l.count) (not (l.servers i).stopped) on).0 in
    omega (arith, one, below)

-- and it is the one that can have stopped
none_stopped : (l : Chain) → IsDone l → (j : ℕ) → has_stopped l j ≡ true → ⊥
none_stopped l d j over =
    let both = and_parts (nat_lt j l.count) (l.servers j).stopped over in
    let below = ltb-true j l.count both.0 in
    let one = d.count in
    let same : j ≡ 0 = omega (arith, one, below) in
    both_ways _ (ap (λ k. (l.servers k).stopped) same ∙ d.going) both.1

nothing_left : (l : Chain) → IsDone l → HasNothingLeft l
nothing_left l d = record {
  inboxes = λ i on. ap (λ k. (l.servers k).inbox) (the_one l d.count i on) ∙ d.inbox;
  all_published = λ i on. ap (λ k. (l.servers k).unpublished) (the_one l d.count i on) ∙ d.unpublished;
  messages = λ i j on there. ap (λ k. messages_to j (l.servers k).outbox) (the_one l d.count i on) ∙ d.messages j;
  replies = λ i port on. ap (λ k. replies_to port (l.servers k).outbox) (the_one l d.count i on) ∙ d.replied port;
  views = λ i j on over. absurd (none_stopped l d j over);
  channels = λ i j on there. ap (λ k. l.channels k j) (the_one l d.count i on)
      ∙ ap (l.channels 0) (the_one l d.count j there) ∙ d.channel;
}

-- the first seat's connection waits for nothing, the second one's queue is empty, and there are no others
first_waits_not : waits (served_at last 0) ≡ false
unfolding set_is_lost reply_is_put port_is_free with_at line_limit has union single is_below adds next_from predecessor
    most appended entered trimmed left_open replies risen passed_on take_update
first_waits_not = refl

second_empty : (last.chain.seats 1).queued ≡ []
unfolding set_is_lost reply_is_put port_is_free with_at line_limit has union single is_below adds next_from predecessor
    most appended entered trimmed left_open replies risen passed_on take_update
second_empty = refl

other_home : (c : ℕ) → (last.chain.seats (suc (suc c))).home ≡ 1
other_home c = (followed 1 shared_homes port_zero collected_moves).ends.chains.same.sits (suc (suc c))

-- so nothing is left to do
pub collected_quiet : IsServingQuiet (pooled 1 shared_homes port_zero collected_moves)
collected_quiet = record { chain = nothing_left last.chain done_here; queues = λ c on wait. queue c on wait }
  where
    queue : (c : ℕ)
        → goes_on (pooled 1 shared_homes port_zero collected_moves).chain
        ((pooled 1 shared_homes port_zero collected_moves).chain.seats c).home
        ≡ true
        → waits (served_at (pooled 1 shared_homes port_zero collected_moves) c) ≡ true
        → ((pooled 1 shared_homes port_zero collected_moves).chain.seats c).queued ≡ []
    queue zero on wait = absurd (both_ways _ first_waits_not wait)
    queue (suc zero) on wait = second_empty
    queue (suc (suc c)) on wait =
        let zeroth = the_one last.chain done_here.count (last.chain.seats (suc (suc c))).home on in
        let home = other_home c in
        absurd (omega (arith, zeroth, home))
