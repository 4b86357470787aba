-- Serves the fields of the code; no public contract needs it. What holds of a connection's fields at every moment: its
-- open call is its session's.
use Rattle.std.specs.Prelude.{◌≡◌, ◌+◌, List, length, Option, None, Some, slice_get}
use Rattle.table.specs.declared.operations.Call.{Call}
use Rattle.table.specs.declared.operations.Reply.{Reply}
use Rattle.proto.specs.declared.texts.Form.{Form}
use Rattle.proto.specs.declared.sessions.Step.TheVariants.{Call as Calls}
use Rattle.proto.specs.Sessions.{IsOpen, CanAnswer}
use Rattle.world.specs.declared.connections.Stage.{Stage}
use Rattle.world.specs.declared.connections.Stage.TheVariants.{Idle, Begun, Asked, Replied}

-- the session has this call open
abbrev pub HasOpen : Option Call → Option Form → Type 0
HasOpen None asked = ⊥
HasOpen (Some call) asked = IsOpen (Calls call.target call.op) asked

-- what holds at each stage: the open call is the first without a reply, and the session has it open
abbrev pub IsLawful : Stage → List Call → List Reply → Option Form → Type 0
IsLawful Idle calls replies asked = (asked ≡ None) × (length calls ≡ length replies)
IsLawful Begun calls replies asked =
    HasOpen (slice_get calls (length replies)) asked × (length calls ≡ length replies + 1)
IsLawful Asked calls replies asked =
    HasOpen (slice_get calls (length replies)) asked × (length calls ≡ length replies + 1)
IsLawful (Replied reply) calls replies asked = CanAnswer asked reply × (length calls ≡ length replies + 1)
