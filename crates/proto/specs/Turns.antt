-- Turns: what a request asks of the table, one call after another, and what is written for each.
use Rattle.std.specs.Prelude.{ℕ, Bool, true, false, List, [], ◌∷◌, ◌++◌, Option, None, Some, if◌then◌else◌, decimal}
use Rattle.std.specs.Prelude.{length, codes}
use Rattle.table.specs.Items.{Item}
use Rattle.table.specs.declared.operations.Call.{Call}
use Rattle.table.specs.declared.operations.Target.TheVariants.{One, All}
use Rattle.table.specs.declared.operations.Op.{Op}
use Rattle.table.specs.declared.operations.Op.TheVariants.{Read, Delete as DeleteOp, Flush as FlushOp}
use Rattle.table.specs.declared.operations.Op.TheVariants.{Set, Add, Replace, Append, Prepend, Cas}
use Rattle.table.specs.declared.operations.Reply.{Reply}
use Rattle.table.specs.declared.operations.Reply.TheVariants.{Stored, NotStored, Exists, NotFound, Deleted, Number}
use Rattle.table.specs.declared.operations.Reply.TheVariants.{Value, TooLarge as TooLargeReply, NotNumber, Flushed}
use Rattle.proto.specs.Words.{space, crlf}
use Rattle.proto.specs.declared.requests.Fault.{Fault}
use Rattle.proto.specs.declared.requests.Fault.TheVariants.{Command, Format, DataChunk, TooLarge, LineTooLong, Expiry}
use Rattle.proto.specs.declared.requests.Request.{Request}
use Rattle.proto.specs.declared.requests.Request.TheVariants.{Store, Get, Arith, Delete, Flush, Quit, Bad}
use Rattle.proto.specs.declared.texts.Look.{Look}
use Rattle.proto.specs.declared.texts.Form.{Form}
use Rattle.proto.specs.declared.texts.Form.TheVariants.{Status, Silent, Show}

-- A turn of a stream: a fault, or a call with the form of its answer.
pub data Turn : Type 0 where
  Faulty : (fault : Fault) → Turn
  Calls : (call : Call) (form : Form) → Turn

-- the call that a turn opens
abbrev pub call_of : Option Turn → Option Call
call_of None = None
call_of (Some (Faulty fault)) = None
call_of (Some (Calls call form)) = Some call

-- the calls among turns
abbrev pub calls_of : List Turn → List Call
calls_of [] = []
calls_of (Faulty fault ∷ ts) = calls_of ts
calls_of (Calls call form ∷ ts) = call ∷ calls_of ts

-- whether no key is left
abbrev pub none_left : List (List ℕ) → Bool
none_left [] = true
none_left (key ∷ keys) = false

-- a read of one key of a get, before these keys
abbrev pub look : List ℕ → Bool → List (List ℕ) → Turn
look key unique later =
    Calls (record { target = One key; op = Read })
    (Show (record { key = key; unique = unique; last = none_left later }))

-- one read for each key, in order
abbrev pub looks : List (List ℕ) → Bool → List Turn
looks [] unique = []
looks (key ∷ keys) unique = look key unique keys ∷ looks keys unique

-- how an update is answered: by a line, or by nothing if its line said `noreply` (protocol.txt, "Storage commands")
abbrev pub form_of : Bool → Form
form_of silent = if silent then Silent else Status

-- one call on one key
abbrev pub update : List ℕ → Op → Bool → Turn
update key op silent = Calls (record { target = One key; op = op }) (form_of silent)

-- the turns of a request
abbrev pub turns_of : Request → List Turn
turns_of (Store key op silent) = update key op silent ∷ []
turns_of (Get keys unique) = looks keys unique
turns_of (Arith key op silent) = update key op silent ∷ []
turns_of (Delete key silent) = update key DeleteOp silent ∷ []
turns_of (Flush silent) = Calls (record { target = All; op = FlushOp }) (form_of silent) ∷ []
turns_of Quit = []
turns_of (Bad fault) = Faulty fault ∷ []

-- a fault's line (protocol.txt, "Error strings"; the texts after the first word are this project's)
abbrev pub fault_text : Fault → List ℕ
fault_text Command = codes "ERROR\r\n"
fault_text Format = codes "CLIENT_ERROR bad command line format\r\n"
fault_text DataChunk = codes "CLIENT_ERROR bad data chunk\r\n"
fault_text TooLarge = codes "SERVER_ERROR object too large for cache\r\n"
fault_text LineTooLong = codes "CLIENT_ERROR line too long\r\n"
fault_text Expiry = codes "CLIENT_ERROR expiry is not supported\r\n"

-- a number after a space
abbrev pub number_text : ℕ → List ℕ
number_text n = space ∷ decimal n

-- the unique, if it is shown
abbrev pub unique_text : Bool → ℕ → List ℕ
unique_text unique n = if unique then number_text n else []

-- VALUE <key> <flags> <bytes> [<unique>] (protocol.txt, "Retrieval command")
abbrev pub value_line : List ℕ → Bool → Item → List ℕ
value_line key unique item =
    codes "VALUE " ++ key ++ number_text item.flags ++ number_text (length item.bytes) ++ unique_text unique
    item.unique ++ crlf

-- the line of an item, its data, and CR LF
abbrev pub value_text : List ℕ → Bool → Item → List ℕ
value_text key unique item = value_line key unique item ++ item.bytes ++ crlf

-- what is written for a read's item, or for none
abbrev pub item_text : List ℕ → Bool → Option Item → List ℕ
item_text key unique None = []
item_text key unique (Some item) = value_text key unique item

-- the end of a get, after its last key
abbrev pub end_text : Bool → List ℕ
end_text last = if last then codes "END\r\n" else []

-- the line of an update's reply (protocol.txt, "Storage commands", "Deletion", "Increment/Decrement" and "flush_all";
-- that an item which would grow too large has the text of a fault is this project's rule)
abbrev pub status_text : Reply → List ℕ
status_text Stored = codes "STORED\r\n"
status_text NotStored = codes "NOT_STORED\r\n"
status_text Exists = codes "EXISTS\r\n"
status_text NotFound = codes "NOT_FOUND\r\n"
status_text Deleted = codes "DELETED\r\n"
status_text (Number n) = decimal n ++ crlf
status_text (Value item) = []
status_text TooLargeReply = codes "SERVER_ERROR object too large for cache\r\n"
status_text NotNumber = codes "CLIENT_ERROR cannot increment or decrement non-numeric value\r\n"
status_text Flushed = codes "OK\r\n"

-- a counter's new value
abbrev pub is_number : Reply → Bool
is_number (Number n) = true
is_number reply = false

-- what is written for a read's reply: the item, and after the last key of a get its end
abbrev pub look_text : Look → Reply → List ℕ
look_text look (Value item) = item_text look.key look.unique item ++ end_text look.last
look_text look reply = []

-- what is written for a reply, by the form of the answer
abbrev pub text : Form → Reply → List ℕ
text Status reply = status_text reply
text Silent reply = []
text (Show look) reply = look_text look reply

-- an operation that stores the data that comes with it (protocol.txt, "Storage commands"). It is refused if the
-- server's memory is used up, and no other is (this project's rule).
abbrev pub is_store : Op → Bool
is_store (Set flags bytes) = true
is_store (Add flags bytes) = true
is_store (Replace flags bytes) = true
is_store (Append bytes) = true
is_store (Prepend bytes) = true
is_store (Cas flags bytes unique) = true
is_store op = false

-- What a call of a connection came to: its reply; or it was refused before it was sent, since the server's memory is
-- used up.
pub data Outcome : Type 0 where
  Replied : (reply : Reply) → Outcome
  Refused : Outcome

-- what is written for a call that was refused, by the form of the answer (memcached's text; protocol.txt,
-- "Error strings", has the first word)
abbrev pub refusal_text : Form → List ℕ
refusal_text Status = codes "SERVER_ERROR out of memory storing object\r\n"
refusal_text Silent = []
refusal_text (Show look) = []

-- what is written for what a call came to
abbrev pub outcome_text : Form → Outcome → List ℕ
outcome_text form (Replied reply) = text form reply
outcome_text form Refused = refusal_text form
