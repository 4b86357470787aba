-- One server of the chain: what it holds, and what a rule makes of it.
use Rattle.std.specs.Prelude.{ℕ, ◌-◌, ◌^◌, Bool, List, [], ◌∷◌, ◌++◌, replicate, slice_index_or, Option, Some, None}
use Rattle.std.specs.Prelude.{if◌then◌else◌}
use Rattle.table.specs.declared.operations.Reply.{Reply}
use Rattle.versions.specs.Stores.{StoreState, opening_store}
use Rattle.node.specs.declared.servers.OpenUpdate.{OpenUpdate}
use Rattle.node.specs.declared.servers.OpenRead.{OpenRead}
use Rattle.node.specs.declared.messages.Body.{Body}
use Rattle.node.specs.declared.messages.Output.{Output}
use Rattle.node.specs.declared.messages.Output.TheVariants.{To, Reply as Replied}
use Rattle.node.specs.Views.{View, head, tail, predecessor, successor, is_that}

-- A server: its id in a chain of `count`, the servers that it knows to have failed, its items and its log,
-- the greatest call id of each origin among its entries so far, its own update calls without a reply,
-- the id of the next one, its own reads that wait for an answer, and the number of the next one.
pub record ServerState : Type 0 where
  pub id : ℕ
  pub count : ℕ
  pub view : View
  pub store : StoreState
  pub seen : List ℕ
  pub pend : List OpenUpdate
  pub next_id : ℕ
  pub asks : List OpenRead
  pub next_ask : ℕ

-- the greatest number of an entry; ids and asks that are given out stay below it
unfoldable pub most : ℕ
most = 2 ^ 64 - 1

-- a server of a chain before any input: all numbers are 0, the next id and the next ask are 1
abbrev pub opening : ℕ → ℕ → ServerState
opening id count =
    record {
      id = id;
      count = count;
      view = 0;
      store = opening_store;
      seen = replicate 16 0;
      pend = [];
      next_id = 1;
      asks = [];
      next_ask = 1;
    }

-- the greatest call id of this origin among its entries so far
abbrev pub seen_of : ServerState → ℕ → ℕ
seen_of s origin = slice_index_or s.seen origin 0

-- the head in its own view (CRAQ, "Chain Replication")
abbrev pub head_of : ServerState → Option ℕ
head_of s = head s.view s.count

-- the tail
abbrev pub tail_of : ServerState → Option ℕ
tail_of s = tail s.view s.count

-- it is the head in its own view
abbrev pub is_head : ServerState → Bool
is_head s = is_that (head_of s) s.id

-- it is the tail
abbrev pub is_tail : ServerState → Bool
is_tail s = is_that (tail_of s) s.id

-- its predecessor in its own view
abbrev pub predecessor_of : ServerState → Option ℕ
predecessor_of s = predecessor s.view s.id

-- its successor, in its own view
abbrev pub successor_of : ServerState → Option ℕ
successor_of s = successor s.view s.count s.id

-- What a rule makes of a server: the server after it, and what is put out, in order.
pub record RuleResult : Type 0 where
  pub state : ServerState
  pub outputs : List Output

-- the server as it is, and nothing put out
abbrev pub silent : ServerState → RuleResult
silent s = record { state = s; outputs = [] }

-- the server as it is, and these put out
abbrev pub putting : ServerState → List Output → RuleResult
putting s outputs = record { state = s; outputs = outputs }

-- one rule after another
abbrev pub and_then : RuleResult → (ServerState → RuleResult) → RuleResult
and_then a rule = record { state = (rule a.state).state; outputs = a.outputs ++ (rule a.state).outputs }

-- a message to this server, if it is one: each carries the sender's view
abbrev pub message_to : ServerState → Option ℕ → Body → List Output
message_to s None body = []
message_to s (Some to) body = To to (record { view = s.view; body = body }) ∷ []

-- the reply to the call of a port
abbrev pub reply_at : ℕ → Reply → List Output
reply_at port reply = Replied port reply ∷ []

-- a list without the first element that passes a test
abbrev pub without_first : {X : Type 0} → (X → Bool) → List X → List X
without_first test [] = []
without_first test (x ∷ xs) = if test x then xs else x ∷ without_first test xs
