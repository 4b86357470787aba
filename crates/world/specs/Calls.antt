-- Calls: how each is named, and what has become of it.
use Rattle.std.specs.Prelude.{◌≡◌, ℕ, ◌+◌, nat_lt, Bool, true, false, length, Option, None, Some, slice_get, IsSome}
use Rattle.std.specs.Option.{option_and_then}
use Rattle.table.specs.Operations.{is_update}
use Rattle.table.specs.declared.operations.Call.{Call}
use Rattle.table.specs.declared.operations.Reply.{Reply}
use Rattle.world.specs.declared.connections.Stage.{Stage}
use Rattle.world.specs.declared.connections.Stage.TheVariants.{Idle, Begun, Asked, Replied}
use Rattle.world.specs.Connections.{Connection}
use Rattle.world.specs.Worlds.{World, home_lives}

-- A call's name: a connection, and an ordinal among the calls that this connection has begun.
pub record CallId : Type 0 where
  pub connection : ℕ
  pub ordinal : ℕ

-- the call, once it is begun
abbrev pub begun_call : World → CallId → Option Call
begun_call w x = option_and_then (λ k. slice_get k.calls x.ordinal) (slice_get w.connections x.connection)

-- its reply, once it is answered
abbrev pub reply_to : World → CallId → Option Reply
reply_to w x = option_and_then (λ k. slice_get k.replies x.ordinal) (slice_get w.connections x.connection)

-- the call is begun
abbrev pub IsBegun : World → CallId → Type 0
IsBegun w x = IsSome (begun_call w x)

-- the call is answered
abbrev pub IsAnswered : World → CallId → Type 0
IsAnswered w x = IsSome (reply_to w x)

-- the server that the call's connection is at lives
abbrev pub has_living_home : World → CallId → Bool
has_living_home w x = home_lives w (slice_get w.connections x.connection)

-- the call is a begun update
abbrev pub IsUpdate : World → CallId → Type 0
IsUpdate w x = (call : Call) × (begun_call w x ≡ Some call) × (is_update call.op ≡ true)

-- how many open calls of a connection have been given to its server: one, if it is with the server or its reply waits
abbrev pub given_calls : Stage → ℕ
given_calls Idle = 0
given_calls Begun = 0
given_calls Asked = 1
given_calls (Replied reply) = 1

-- the call of this ordinal was given to its server: it is one of those with a reply, or the open one
abbrev pub is_given_by : Option Connection → ℕ → Bool
is_given_by None ordinal = false
is_given_by (Some k) ordinal = nat_lt ordinal (length k.replies + given_calls k.stage)

-- the call has been given to the server that its connection is at
abbrev pub is_given : World → CallId → Bool
is_given w x = is_given_by (slice_get w.connections x.connection) x.ordinal
