-- Runs of servers with leases. A master may call a server gone that goes on: others are told so, while the server takes
-- inputs, publishes, is looked at and puts out as before.
use Rattle.std.specs.Prelude.{ℕ, suc, ◌+◌, Bool, true, false, not, ◌&&◌, ◌||◌, nat_lt, List, [], ◌∷◌, length, take}
use Rattle.std.specs.Prelude.{Option, slice_index_or, slice_get, if◌then◌else◌}
use Rattle.table.specs.declared.operations.Reply.{Reply}
use Rattle.node.specs.declared.messages.Peer.{Peer}
use Rattle.node.specs.declared.messages.Input.TheVariants.{Gone}
use Rattle.world.specs.Calls.{CallId}
use Rattle.interleavings.specs.Asked.{IsAskedBy}
use Rattle.interleavings.specs.Chains.{Chain, with_at, opening_chain}
use Rattle.interleavings.specs.Moves.{Move, Arrives, Notices, brought, has_stopped, done}
use Rattle.interleavings.specs.OtherMoves.{Doing}
use Rattle.interleavings.specs.Quiet.{goes_on}

-- A running chain whose servers have leases: the chain; which servers a master called gone while they went on; how many
-- messages from each server have arrived at each; and how many of its seat's replies the client of each seat was
-- written.
pub record LeasedChain : Type 0 where
  pub chain : Chain
  pub called : ℕ → Bool
  pub arrived : ℕ → ℕ → ℕ
  pub written : ℕ → ℕ

-- A move of such a chain.
pub data LeasedMove : Type 0 where
  -- one of the running chain, also of a server that was called gone
  Does : (m : Move) → LeasedMove
  -- a master calls server i gone, which goes on: from now on others may be told so
  Calls : (i : ℕ) → LeasedMove
  -- the client of seat c is written the next one of the replies that the seat has
  Writes : (c : ℕ) → LeasedMove

-- ---- what moves do

-- Moves of the running chain, if these servers were called gone. A notice may be of one of them too.
abbrev pub with_leases : (ℕ → Bool) → Doing
with_leases called l (Notices i j) = if has_stopped l j || called j then brought l i (Gone j) else l
with_leases called l m = done l m

-- how many of these messages an arrival takes: the first one, if there is one
abbrev pub first_alone : List Peer → ℕ
first_alone [] = 0
first_alone (m ∷ ms) = 1

-- how many have arrived after this move
abbrev pub counted : (ℕ → ℕ → ℕ) → Chain → Move → ℕ → ℕ → ℕ
counted arrived l (Arrives i j) =
    with_at arrived i (with_at (arrived i) j (arrived i j + first_alone (l.channels i j)))
counted arrived l m = arrived

-- server i goes on, and wasn't called gone before
abbrev pub may_be_called : LeasedChain → ℕ → Bool
may_be_called s i = goes_on s.chain i && not (s.called i)

-- what a move does. One that doesn't apply has no effect.
abbrev pub leased_by : LeasedChain → LeasedMove → LeasedChain
leased_by s (Does m) =
    record s { chain = with_leases s.called s.chain m; arrived = counted s.arrived s.chain m }
leased_by s (Calls i) = if may_be_called s i then record s { called = with_at s.called i true } else s
leased_by s (Writes c) =
    if nat_lt (s.written c) (length (s.chain.seats c).got)
    then record s { written = with_at s.written c (suc (s.written c)) }
    else s

-- ---- runs

-- a chain before any move
abbrev pub opening_leased : ℕ → List ℕ → LeasedChain
opening_leased count homes =
    record {
      chain = opening_chain count homes;
      called = λ i. false;
      arrived = λ i j. 0;
      written = λ c. 0;
    }

-- the chain after these moves, one after another
abbrev pub leased_from : LeasedChain → List LeasedMove → LeasedChain
leased_from s [] = s
leased_from s (m ∷ ms) = leased_from (leased_by s m) ms

-- the chain after a run
abbrev pub leased : ℕ → List ℕ → List LeasedMove → LeasedChain
leased count homes moves = leased_from (opening_leased count homes) moves

-- the calls of a move are ones that clients can ask
abbrev pub IsAskedByLeased : LeasedMove → Type 0
IsAskedByLeased (Does m) = IsAskedBy m
IsAskedByLeased (Calls i) = Unit {0}
IsAskedByLeased (Writes c) = Unit {0}

-- the same of all of these
abbrev pub AreAskedLeased : List LeasedMove → Type 0
AreAskedLeased [] = Unit {0}
AreAskedLeased (m ∷ ms) = IsAskedByLeased m × AreAskedLeased ms

-- ---- what was put out

-- the home of seat c, by the homes of the seats; one that isn't named is at no server of the chain
abbrev pub home_of : ℕ → List ℕ → ℕ → ℕ
home_of count homes c = slice_index_or homes c count

-- how many messages server i has put for server j: those that have arrived, and those that are on the channel
abbrev pub put_for : LeasedChain → ℕ → ℕ → ℕ
put_for s i j = s.arrived i j + length (s.chain.channels i j)

-- the reply to a call, once its client was written it
abbrev pub reply_written : LeasedChain → CallId → Option Reply
reply_written s x = slice_get (take (s.written x.connection) (s.chain.seats x.connection).got) x.ordinal
