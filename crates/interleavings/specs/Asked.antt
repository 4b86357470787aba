-- Calls that clients can ask, and the bytes by which they ask them.
use Rattle.std.specs.Prelude.{◌≡◌, ◌<◌, ◌^◌, ℕ, List, [], ◌∷◌}
use Rattle.table.specs.Keys.{IsKey}
use Rattle.table.specs.Operations.{Fits, Suits}
use Rattle.table.specs.declared.operations.Call.{Call}
use Rattle.table.specs.declared.operations.Op.{Op}
use Rattle.table.specs.declared.operations.Op.TheVariants.{Read, Set, Add, Replace, Append, Prepend, Cas, Incr, Decr}
use Rattle.table.specs.declared.operations.Op.TheVariants.{Delete, Flush}
use Rattle.table.specs.declared.operations.Target.{Target}
use Rattle.table.specs.declared.operations.Target.TheVariants.{One, All}
use Rattle.proto.specs.declared.requests.Request.{Request}
use Rattle.proto.specs.declared.texts.Form.{Form}
use Rattle.proto.specs.Turns.{Calls, turns_of}
use Rattle.proto.specs.Grammar.{Spells}
use Rattle.interleavings.specs.Moves.{Move, Sends, Takes, Publishes, Puts, Arrives, Replies, Receives, Looks, Stops}
use Rattle.interleavings.specs.Moves.{Notices}
use Rattle.interleavings.specs.Moves.{read_of}

-- the target is one that there may be: its key is one
abbrev pub IsTarget : Target → Type 0
IsTarget (One key) = IsKey key
IsTarget All = Unit {0}

-- the numbers of an operation are in the ranges of their types
abbrev pub AreNumbers : Op → Type 0
AreNumbers Read = Unit {0}
AreNumbers (Set flags bytes) = flags < 2 ^ 32
AreNumbers (Add flags bytes) = flags < 2 ^ 32
AreNumbers (Replace flags bytes) = flags < 2 ^ 32
AreNumbers (Append bytes) = Unit {0}
AreNumbers (Prepend bytes) = Unit {0}
AreNumbers (Cas flags bytes unique) = (flags < 2 ^ 32) × (unique < 2 ^ 64)
AreNumbers (Incr amount) = amount < 2 ^ 64
AreNumbers (Decr amount) = amount < 2 ^ 64
AreNumbers Delete = Unit {0}
AreNumbers Flush = Unit {0}

-- A call that clients can ask: its data is within the limit, its operation suits its target, its key is one, and its
-- numbers are in the ranges of their types.
pub record IsAsked (call : Call) : Type 0 where
  pub fits : Fits call.op
  pub suits : Suits call.target call.op
  pub target : IsTarget call.target
  pub numbers : AreNumbers call.op

-- some bytes spell a request that asks this call and nothing else
pub record IsSpelled (call : Call) : Type 0 where
  pub request : Request
  pub bytes : List ℕ
  pub form : Form
  pub spelled : Spells request bytes
  pub alone : turns_of request ≡ Calls call form ∷ []

-- the call of a move is one that clients can ask
abbrev pub IsAskedBy : Move → Type 0
IsAskedBy (Sends c call) = IsAsked call
IsAskedBy (Takes i sender) = Unit {0}
IsAskedBy (Publishes i) = Unit {0}
IsAskedBy (Puts i j) = Unit {0}
IsAskedBy (Arrives i j) = Unit {0}
IsAskedBy (Replies i c) = Unit {0}
IsAskedBy (Receives c) = Unit {0}
IsAskedBy (Looks c key) = IsAsked (read_of key)
IsAskedBy (Stops i) = Unit {0}
IsAskedBy (Notices i j) = Unit {0}

-- the same of all of these
abbrev pub AreAsked : List Move → Type 0
AreAsked [] = Unit {0}
AreAsked (m ∷ ms) = IsAskedBy m × AreAsked ms
