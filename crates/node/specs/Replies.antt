-- Calls and replies at a port, the reads apart from the updates: how many calls came, how many are open, and how many
-- were answered (this project's rule).
use Rattle.std.specs.Prelude.{◌≡◌, ℕ, ◌<◌, ◌≤◌, Bool, false, not, ◌&&◌, ◌||◌, ◌==◌, nat_lt, List, [], ◌∷◌, count_by}
use Rattle.std.specs.Prelude.{if◌then◌else◌}
use Rattle.std.specs.Bool.{beq}
use Rattle.table.specs.Operations.{is_update, is_value}
use Rattle.table.specs.declared.operations.Target.{Target}
use Rattle.table.specs.declared.operations.Target.TheVariants.{One, All}
use Rattle.versions.specs.Stores.{is_clean}
use Rattle.node.specs.declared.servers.OpenUpdate.{OpenUpdate}
use Rattle.node.specs.declared.servers.OpenRead.{OpenRead}
use Rattle.node.specs.declared.messages.Input.{Input}
use Rattle.node.specs.declared.messages.Input.TheVariants.{Call as Called, From, Gone}
use Rattle.node.specs.declared.messages.Output.{Output}
use Rattle.node.specs.declared.messages.Output.TheVariants.{To, Reply as Replied}
use Rattle.node.specs.Servers.{ServerState, most}
use Rattle.node.specs.Numbering.{is_room_for_update}

-- the input is a call at this port: a read if `reads`, and else an update
abbrev pub is_call_at : ℕ → Bool → Input → Bool
is_call_at port reads (Called p call) = p == port && beq reads (not (is_update call.op))
is_call_at port reads (From i peer) = false
is_call_at port reads (Gone j) = false

-- the output is a reply at this port: an item or none if `reads`, and else neither
abbrev pub is_reply_at : ℕ → Bool → Output → Bool
is_reply_at port reads (To to peer) = false
is_reply_at port reads (Replied p reply) = p == port && beq reads (is_value reply)

-- how many calls of this kind came at the port
abbrev pub calls_at : ℕ → Bool → List Input → ℕ
calls_at port reads inputs = count_by (is_call_at port reads) inputs

-- how many were answered there
abbrev pub replies_at : ℕ → Bool → List Output → ℕ
replies_at port reads outputs = count_by (is_reply_at port reads) outputs

-- how many are open
abbrev pub open_at : ℕ → Bool → ServerState → ℕ
open_at port reads s =
    if reads then count_by (λ (r : OpenRead). r.port == port) s.asks else count_by
    (λ (u : OpenUpdate). u.port == port) s.pend

-- a read is answered at once, or an ask is left for it
abbrev pub is_room_for_read : ServerState → Target → Bool
is_room_for_read s (One key) = is_clean s.store key || nat_lt s.next_ask most
is_room_for_read s All = false

-- a call has an effect: its numbers are not used up
abbrev pub has_room : ServerState → Input → Bool
has_room s (Called port call) = if is_update call.op then is_room_for_update s else is_room_for_read s call.target
has_room s (From i peer) = false
has_room s (Gone j) = false

-- how many calls of this kind the input opens at the port: one, or none
abbrev pub opened_at : ℕ → Bool → ServerState → Input → ℕ
opened_at port reads s input = if has_room s input then calls_at port reads (input ∷ []) else 0

-- calls at ports below n alone
abbrev pub AreCallsBelow : ℕ → List Input → Type 0
AreCallsBelow n [] = Unit {0}
AreCallsBelow n (Called port call ∷ is) = (port < n) × AreCallsBelow n is
AreCallsBelow n (From i peer ∷ is) = AreCallsBelow n is
AreCallsBelow n (Gone j ∷ is) = AreCallsBelow n is

-- replies at ports below n alone
abbrev pub AreRepliesBelow : ℕ → List Output → Type 0
AreRepliesBelow n [] = Unit {0}
AreRepliesBelow n (To to peer ∷ os) = AreRepliesBelow n os
AreRepliesBelow n (Replied port reply ∷ os) = (port < n) × AreRepliesBelow n os

-- no call is open at a port from n on
abbrev pub AreOpenBelow : ℕ → ServerState → Type 0
AreOpenBelow n s = (port : ℕ) (reads : Bool) → n ≤ port → open_at port reads s ≡ 0
