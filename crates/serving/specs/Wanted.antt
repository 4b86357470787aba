-- What a connection wants next, and what has come of it then.
use Rattle.std.specs.Prelude.{◌≡◌, ◌<◌, ◌≤◌, ◌⊎◌, Bool, true, false, [], ◌∷◌, length}
use Rattle.table.specs.Operations.{Fits, Suits}
use Rattle.table.specs.declared.operations.Target.{Target}
use Rattle.table.specs.declared.operations.Op.{Op}
use Rattle.proto.specs.declared.sessions.Step.{Step}
use Rattle.proto.specs.declared.sessions.Step.TheVariants.{Call as Opens, Emit, Wait, Close}
use Rattle.serving.specs.declared.endings.End.TheVariants.{Input}
use Rattle.serving.specs.declared.connections.Wants.{Wants}
use Rattle.serving.specs.declared.connections.Wants.TheVariants.{Call, Write, Read, End}
use Rattle.serving.specs.declared.connections.TheConstants.{OUTPUT}
use Rattle.serving.specs.Serving.{is_closed}
use Rattle.serving.specs.Connections.{Connected, IsAnswered}

-- This call waits, alone. It fits, and suits its target.
pub record IsAsking (target : Target) (op : Op) (c : Connected) : Type 0 where
  pub waiting : c.waiting ≡ record { target = target; op = op } ∷ []
  pub fits : Fits op
  pub suits : Suits target op

-- The connection wants this. A call begins only while less than 64 KiB is due; output is to be written once that much
-- is due, or all is answered; it is written before more input is read, and before the end; and the end comes if all is
-- answered and written.
abbrev pub IsWanted : Wants → Connected → Type 0
IsWanted (Call target op) c = IsAsking target op c × (length c.due < OUTPUT)
IsWanted Write c =
    (c.waiting ≡ []) × (0 < length c.due) × (OUTPUT ≤ length c.due ⊎ ((shut : Bool) × IsAnswered shut c))
IsWanted Read c = IsAnswered false c × (c.due ≡ []) × (c.ended ≡ false)
IsWanted (End end) c = IsAnswered (is_closed end) c × (c.due ≡ []) × (end ≡ Input → c.ended ≡ true)

-- a step of the session has led from this to that
abbrev pub HasStepped : Step → Connected → Connected → Type 0
HasStepped (Opens target op) c d = IsAsking target op d × (d.due ≡ c.due)
HasStepped Emit c d = (d.waiting ≡ []) × (length c.due < length d.due)
HasStepped Wait c d = IsAnswered false d
HasStepped Close c d = IsAnswered true d
