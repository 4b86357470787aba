-- Reading: clean keys at once, dirty ones by asking the tail for its last number (CRAQ,
-- "Chain Replication with Apportioned Queries").
use Rattle.std.specs.Prelude.{ℕ, ◌+◌, ◌&&◌, ◌==◌, nat_lt, nat_le, List, [], ◌∷◌, ◌++◌, find, Option, Some, None}
use Rattle.std.specs.Prelude.{if◌then◌else◌}
use Rattle.table.specs.declared.operations.Reply.TheVariants.{Value}
use Rattle.table.specs.declared.operations.Target.{Target}
use Rattle.table.specs.declared.operations.Target.TheVariants.{One, All}
use Rattle.versions.specs.Stores.{last_number, value_at, is_clean}
use Rattle.node.specs.declared.servers.OpenRead.{OpenRead}
use Rattle.node.specs.declared.messages.Body.TheVariants.{Query, Answer}
use Rattle.node.specs.Views.{is_that}
use Rattle.node.specs.Servers.{ServerState, RuleResult, most, tail_of, is_tail, silent, putting, message_to, reply_at}
use Rattle.node.specs.Servers.{without_first}

-- a read waits for an answer under the next ask: its lower bound is the commit number (this project's rule)
unfoldable pub asked : ServerState → ℕ → List ℕ → ServerState
asked s port key =
    record s {
      asks = s.asks ++ record { ask = s.next_ask; port = port; key = key; lower_bound = s.store.acked } ∷ [];
      next_ask = s.next_ask + 1;
    }

-- a read of a dirty key: the tail is asked, if an ask is left
unfoldable pub dirty_read : ServerState → ℕ → List ℕ → RuleResult
dirty_read s port key =
    if nat_lt s.next_ask most then putting (asked s port key) (message_to s (tail_of s) (Query s.next_ask key))
    else silent s

-- a read: of a clean key the newest version is the answer
abbrev pub read : ServerState → ℕ → List ℕ → RuleResult
read s port key =
    if is_clean s.store key then putting s (reply_at port (Value (value_at s.store key (last_number s.store))))
    else dirty_read s port key

-- a read is of one key
abbrev pub read_of : ServerState → ℕ → Target → RuleResult
read_of s port (One key) = read s port key
read_of s port All = silent s

-- `Query` from server i: the tail answers its last number, whatever the key
abbrev pub receive_query : ServerState → ℕ → ℕ → RuleResult
receive_query s i ask =
    if is_tail s then putting s (message_to s (Some i) (Answer ask (last_number s.store))) else silent s

-- the open read of this ask, if there is one
abbrev pub open_read : List OpenRead → ℕ → Option OpenRead
open_read asks ask = find (λ r. r.ask == ask) asks

-- without the read of this ask
abbrev pub without_read : List OpenRead → ℕ → List OpenRead
without_read asks ask = without_first (λ r. r.ask == ask) asks

-- the read of this ask, if it is open, is answered with the number n: if that is from its lower bound to the last
-- number, the read is closed, and its port gets the key's value at that number
unfoldable pub answered : ServerState → ℕ → ℕ → Option OpenRead → RuleResult
answered s ask n None = silent s
answered s ask n (Some r) =
    if nat_le r.lower_bound n && nat_le n (last_number s.store)
    then record {
      state = record s { asks = without_read s.asks ask };
      outputs = reply_at r.port (Value (value_at s.store r.key n));
    }
    else silent s

-- `Answer` from server i: it counts from the tail alone
abbrev pub receive_answer : ServerState → ℕ → ℕ → ℕ → RuleResult
receive_answer s i ask n = if is_that (tail_of s) i then answered s ask n (open_read s.asks ask) else silent s
