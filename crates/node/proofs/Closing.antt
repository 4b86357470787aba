-- Each action leaves the server at its place in the chain, and each reply that it puts out closes an open call of its
-- port and kind.
use Rattle.std.proofs.Common.{◌≡◌, ℕ, ◌+◌, Bool, true, false, List, [], ◌∷◌, Option, Some, sym, subst}
use Rattle.std.proofs.Common.{arith}
use Rattle.std.specs.Prelude.{slice_get}
use Rattle.table.specs.Items.{Item}
use Rattle.table.specs.declared.operations.Call.{Call}
use Rattle.table.specs.declared.operations.Reply.TheVariants.{Value}
use Rattle.versions.specs.Entries.{LogEntry}
use Rattle.versions.specs.Stores.{value_at}
use Rattle.node.specs.declared.servers.OpenRead.{OpenRead}
use Rattle.node.specs.declared.messages.Input.TheVariants.{Call as Called}
use Rattle.node.specs.Servers.{ServerState, RuleResult, reply_at}
use Rattle.node.specs.Numbering.{appended, left_open_by, reply_to}
use Rattle.node.specs.Reading.{open_read, without_read}
use Rattle.node.specs.Joining.{widened}
use Rattle.node.specs.Steps.{trimmed}
use Rattle.node.specs.Lawful.{IsSound}
use Rattle.node.specs.Replies.{is_reply_at, replies_at, open_at}
use Rattle.node.specs.Actions.{Action, Widen, Append, Reach, Settle, Send, Finish, Trim, Enter, Ask, Show, act, does}
use Rattle.node.specs.Actions.{Cause, left, Guard, AreGuarded, IsDone}
use Rattle.node.proofs.Counts.{count-append, none_in-message, no-update, one-read, closed_by, no_read_closed}
use Rattle.node.proofs.Counts.{read_closed}
use Rattle.node.proofs.DoneActions.{came_left, seat_after}
use Rattle.node.proofs.StoreChanges.{log_entry}

-- the same server of the same chain, and with the calls that are open then, the replies are those that were open
pub record Closes (s : ServerState) (a : RuleResult) : Type 0 where
  pub id : a.state.id ≡ s.id
  pub count : a.state.count ≡ s.count
  pub calls : (port : ℕ) (reads : Bool)
      → open_at port reads a.state + replies_at port reads a.outputs ≡ open_at port reads s

-- the cause is no own call
abbrev pub IsNoCall : Cause → Type 0
IsNoCall c = (port : ℕ) (made : Call) → c ≡ Some (Called port made) → ⊥

settle_closes : (s : ServerState) (e : LogEntry) (h : IsSound s) (place : ℕ) (port : ℕ) (reads : Bool)
    → slice_get s.store.rest place ≡ Some e
    → open_at port reads (record s { pend = left_open_by s.id s.pend e }) + replies_at port reads
    (reply_to s.id s.pend e) ≡ open_at port reads s
settle_closes s e h place port true at =
    omega (
      arith,
      no_read_closed port s.id s.pend e
          (log_entry s.store.floor place s.store.rest e h.store.log at).answered,
    )
settle_closes s e h place port false at =
    closed_by port s.id s.pend e (log_entry s.store.floor place s.store.rest e h.store.log at).answered

finish_closes : (s : ServerState) (r : OpenRead) (item : Option Item) (port : ℕ) (reads : Bool)
    → open_read s.asks r.ask ≡ Some r
    → open_at port reads (record s { asks = without_read s.asks r.ask }) + replies_at port reads
    (reply_at r.port (Value item)) ≡ open_at port reads s
finish_closes s r item port true is = omega (arith, read_closed port s.asks r.ask r is, one-read port r.port item)
finish_closes s r item port false is = omega (arith, no-update port r.port item)

act_closes : (c : Cause) (s : ServerState) (a : Action) (port : ℕ) (reads : Bool)
    → IsSound s
    → Guard c s a
    → IsNoCall c
    → open_at port reads (act s a).state + replies_at port reads (act s a).outputs ≡ open_at port reads s
unfolding act widened appended trimmed
act_closes c s (Widen v) port reads h g none = omega arith
act_closes c s (Append e) port reads h g none = omega arith
act_closes c s (Reach n) port reads h g none = omega arith
act_closes c s (Settle e) port reads h g none = settle_closes s e h g.0.0 port reads g.0.1
act_closes c s (Send j body) port reads h g none = omega (arith, none_in-message port reads s (Some j) body)
act_closes c s (Finish r n) port reads h g none = finish_closes s r (value_at s.store r.key n) port reads g.0
act_closes c s Trim port reads h g none = omega arith
act_closes c s (Enter p made) port reads h g none = absurd (none p made g.0)
act_closes c s (Ask p key) port reads h g none = absurd (none p g.0 g.1)
act_closes c s (Show p key) port reads h g none = absurd (none p g.0 g.1)

does_closes : (actions : List Action) (c : Cause) (s : ServerState) (port : ℕ) (reads : Bool)
    → AreGuarded c s actions
    → IsNoCall c
    → open_at port reads (does s actions).state + replies_at port reads (does s actions).outputs ≡ open_at port reads s
unfolding does
does_closes [] c s port reads g none = omega arith
does_closes (a ∷ later) c s port reads g none =
    let u = (act s a).state in
    let first = act_closes c s a port reads g.0 g.1 none in
    let rest = does_closes later (left c) u port reads g.2 (λ p made e. none p made (came_left c _ e)) in
    omega (arith, first, rest, count-append (is_reply_at port reads) (act s a).outputs (does u later).outputs)

-- so does what such actions make
pub closes-done : (c : Cause) (s : ServerState) (a : RuleResult) → IsNoCall c → IsDone c s a → Closes s a
closes-done c s a none d =
    let seat = seat_after c s a d in
    record {
      id = seat.id;
      count = seat.count;
      calls = λ port reads. subst
          (λ (o : RuleResult). open_at port reads o.state + replies_at port reads o.outputs ≡ open_at port reads s)
          (sym d.same) (does_closes d.actions c s port reads d.guarded none);
    }
