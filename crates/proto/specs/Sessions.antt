-- What a session holds, and what each of its calls makes of it.
use Rattle.std.specs.Prelude.{◌≡◌, ℕ, ◌-◌, ◌==◌, ◌≤◌, Bool, true, false, not, List, [], ◌∷◌, ◌++◌, length, drop, Option}
use Rattle.std.specs.Prelude.{None, Some, if◌then◌else◌}
use Rattle.table.specs.Operations.{Fits, Suits, is_update, is_value}
use Rattle.table.specs.declared.operations.Target.{Target}
use Rattle.table.specs.declared.operations.Target.TheVariants.{One, All}
use Rattle.table.specs.declared.operations.Op.{Op}
use Rattle.table.specs.declared.operations.Op.TheVariants.{Delete as DeleteOp, Flush as FlushOp}
use Rattle.table.specs.declared.operations.Reply.{Reply}
use Rattle.proto.specs.declared.skipped_blocks.SkippedBlock.{SkippedBlock}
use Rattle.proto.specs.declared.front.Found.{Found}
use Rattle.proto.specs.declared.front.Found.TheVariants.{Request as Requested, Refused, Nothing}
use Rattle.proto.specs.declared.requests.Fault.{Fault}
use Rattle.proto.specs.declared.requests.Request.{Request}
use Rattle.proto.specs.declared.requests.Request.TheVariants.{Store, Get, Arith, Delete, Flush, Quit, Bad}
use Rattle.proto.specs.declared.texts.Form.{Form}
use Rattle.proto.specs.declared.texts.Form.TheVariants.{Status, Silent, Show}
use Rattle.proto.specs.declared.sessions.Step.{Step}
use Rattle.proto.specs.declared.sessions.Step.TheVariants.{Call, Emit, Wait, Close}
use Rattle.proto.specs.Fronts.{found_at, is_last}
use Rattle.proto.specs.Turns.{Turn, Faulty, Calls, look, none_left, form_of, fault_text, text, refusal_text}

-- What a session holds: the bytes that no request has taken yet, the refused block that it passes over, the keys that
-- the get at hand has still to read and whether it shows uniques, the form of the open call's answer, the output that
-- was not yet taken, and whether it is closed.
pub record Held : Type 0 where
  pub unread : List ℕ
  pub skipped_block : Option SkippedBlock
  pub later : List (List ℕ)
  pub unique : Bool
  pub asked : Option Form
  pub out : List ℕ
  pub closed : Bool

-- at first: nothing
abbrev pub fresh : Held
fresh = record { unread = []; skipped_block = None; later = []; unique = false; asked = None; out = []; closed = false }

-- what of a piece is kept: a refused block's bytes aren't
abbrev pub kept : Option SkippedBlock → List ℕ → List ℕ
kept None piece = piece
kept (Some p) piece = drop p.left piece

-- the refused block, of which this piece has come
abbrev pub passed : Option SkippedBlock → List ℕ → Option SkippedBlock
passed None piece = None
passed (Some p) piece = Some (record p { left = p.left - length piece })

-- more bytes; a closed session takes none
abbrev pub fed : Held → List ℕ → Held
fed h piece =
    if h.closed then h else record h {
      unread = h.unread
          ++ kept h.skipped_block piece;
      skipped_block = passed h.skipped_block piece;
    }

-- the refused block has still to come for as many bytes at least
abbrev pub IsWithinSkippedBlock : Option SkippedBlock → List ℕ → Type 0
IsWithinSkippedBlock None piece = ⊥
IsWithinSkippedBlock (Some p) piece = length piece ≤ p.left

-- the piece lies wholly inside a refused block that the session passes over
abbrev pub IsInside : Held → List ℕ → Type 0
IsInside h piece = (h.closed ≡ false) × IsWithinSkippedBlock h.skipped_block piece

-- A turn that a session gives, or none, and what it holds then.
abbrev pub Given : Type 0
Given = Option Turn × Held

-- a call is open from now on
abbrev pub opened : Target → Op → Form → Held → Given
opened target op form h = (Some (Calls (record { target = target; op = op }) form), record h { asked = Some form })

-- the read of this key is open, before the keys that are left
abbrev pub looking : List ℕ → Held → Held
looking key h = record h { asked = Some (Show (record { key = key; unique = h.unique; last = none_left h.later })) }

-- a read of the first of these keys
abbrev pub by_keys : List (List ℕ) → Bool → Held → Given
by_keys [] unique h = (None, h)
by_keys (key ∷ keys) unique h = (Some (look key unique keys), looking key (record h { later = keys; unique = unique }))

-- the first turn of this request, of which no byte is unread any more
abbrev pub by_request : Request → Held → Given
by_request (Store key op silent) h = opened (One key) op (form_of silent) h
by_request (Get keys unique) h = by_keys keys unique h
by_request (Arith key op silent) h = opened (One key) op (form_of silent) h
by_request (Delete key silent) h = opened (One key) DeleteOp (form_of silent) h
by_request (Flush silent) h = opened All FlushOp (form_of silent) h
by_request Quit h = (None, record h { closed = true })
by_request (Bad fault) h =
    (Some (Faulty fault), record h { out = h.out ++ fault_text fault; closed = is_last (Bad fault) })

-- the first turn of what is at the front; if that is an incomplete refused block, its bytes are skipped from now on
abbrev pub by_found : Found → Held → Given
by_found (Requested request n) h = by_request request (record h { unread = drop n h.unread })
by_found (Refused skipped_block) h = (None, record h { unread = []; skipped_block = Some skipped_block })
by_found Nothing h = (None, h)

-- the fault of a refused block, after all of it was skipped; or else the first turn of what is at the front
abbrev pub by_skipped_block : Option SkippedBlock → Held → Given
by_skipped_block None h = by_found (found_at h.unread) h
by_skipped_block (Some p) h =
    if p.left == 0 then by_request (Bad p.fault) (record h { skipped_block = None }) else (None, h)

-- the first turn of the keys that are left, or else of the bytes
abbrev pub by_later : List (List ℕ) → Held → Given
by_later [] h = by_skipped_block h.skipped_block h
by_later (key ∷ keys) h = by_keys (key ∷ keys) h.unique h

-- the next turn, and what the session holds then: a fault's line is written at once, a call is open from now on
abbrev pub next_of : Held → Given
next_of h = if h.closed then (None, h) else by_later h.later h

-- how the turn shows as a step
abbrev pub step_of : Given → Step
step_of (None, left) = if left.closed then Close else Wait
step_of (Some (Faulty fault), left) = Emit
step_of (Some (Calls call form), left) = Call call.target call.op

-- what a step tells: which turn was given, or that there was none and whether the session is closed
abbrev pub Tells : Step → Given → Type 0
Tells (Call target op) given = (form : Form) × (given.0 ≡ Some (Calls (record { target = target; op = op }) form))
Tells Emit given = (fault : Fault) × (given.0 ≡ Some (Faulty fault))
Tells Wait given = (given.0 ≡ None) × (given.1.closed ≡ false)
Tells Close given = (given.0 ≡ None) × (given.1.closed ≡ true)

-- what a step writes at the end of the output, and whose answer it waits for then
abbrev pub Writes : Held → Given → Type 0
Writes h (None, left) = (left.out ≡ h.out) × (left.asked ≡ h.asked)
Writes h (Some (Faulty fault), left) = (left.out ≡ h.out ++ fault_text fault) × (left.asked ≡ h.asked)
Writes h (Some (Calls call form), left) = (left.out ≡ h.out) × (left.asked ≡ Some form)

-- the open call is answered: its text is written
abbrev pub answered_by : Option Form → Held → Reply → Held
answered_by None h reply = h
answered_by (Some form) h reply = record h { asked = None; out = h.out ++ text form reply }

-- a read's answer shows an item, and no other call's does
abbrev pub shows : Form → Bool
shows Status = false
shows Silent = false
shows (Show look) = true

-- a call is open, and the reply is one that it can have
abbrev pub CanAnswer : Option Form → Reply → Type 0
CanAnswer None reply = ⊥
CanAnswer (Some form) reply = is_value reply ≡ shows form

-- the open call is refused: the line that says so is written, or nothing if it is silent
abbrev pub refused_by : Option Form → Held → Held
refused_by None h = h
refused_by (Some form) h = record h { asked = None; out = h.out ++ refusal_text form }

-- a call is open, and it is an update
abbrev pub CanRefuse : Option Form → Type 0
CanRefuse None = ⊥
CanRefuse (Some form) = shows form ≡ false

-- the answer's form is that of the operation
abbrev pub IsFormOf : Op → Option Form → Type 0
IsFormOf op None = ⊥
IsFormOf op (Some form) = shows form ≡ not (is_update op)

-- A call that a session hands out: it fits, it suits its target, and it is answered in its operation's form.
pub record IsOpenCall (target : Target) (op : Op) (asked : Option Form) : Type 0 where
  pub fits : Fits op
  pub aimed : Suits target op
  pub form : IsFormOf op asked

-- a step opens a call, or none
abbrev pub IsOpen : Step → Option Form → Type 0
IsOpen (Call target op) asked = IsOpenCall target op asked
IsOpen Emit asked = asked ≡ None
IsOpen Wait asked = asked ≡ None
IsOpen Close asked = asked ≡ None
