-- What waits at a stage.
use Rattle.std.specs.Prelude.{Bool, true, false, Option, None, Some}
use Rattle.table.specs.declared.operations.Reply.{Reply}
use Rattle.world.specs.declared.connections.Stage.{Stage}
use Rattle.world.specs.declared.connections.Stage.TheVariants.{Idle, Begun, Asked, Replied}

-- no call is open
abbrev pub is_idle : Stage → Bool
is_idle Idle = true
is_idle Begun = false
is_idle Asked = false
is_idle (Replied reply) = false

-- the reply that waits for the connection
abbrev pub waiting_reply : Stage → Option Reply
waiting_reply Idle = None
waiting_reply Begun = None
waiting_reply Asked = None
waiting_reply (Replied reply) = Some reply
