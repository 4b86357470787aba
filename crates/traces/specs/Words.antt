-- The words of a trace for calls, replies, entries, messages and views (docs/FORMATS.md, "Trace").
use Rattle.std.specs.Prelude.{ℕ, nat_eq, List, [], ◌++◌, Option, None, Some, flat_map, decimal, if◌then◌else◌, codes}
use Rattle.table.specs.Items.{Item}
use Rattle.table.specs.declared.operations.Target.{Target}
use Rattle.table.specs.declared.operations.Target.TheVariants.{One, All}
use Rattle.table.specs.declared.operations.Op.{Op}
use Rattle.table.specs.declared.operations.Op.TheVariants.{Read, Set, Add, Replace, Append, Prepend, Cas, Incr, Decr}
use Rattle.table.specs.declared.operations.Op.TheVariants.{Delete, Flush}
use Rattle.table.specs.declared.operations.Call.{Call}
use Rattle.table.specs.declared.operations.Reply.{Reply}
use Rattle.table.specs.declared.operations.Reply.TheVariants.{Stored, NotStored, Exists, NotFound, Deleted, Number}
use Rattle.table.specs.declared.operations.Reply.TheVariants.{Value, TooLarge, NotNumber, Flushed}
use Rattle.table.specs.declared.operations.Change.{Change}
use Rattle.table.specs.declared.operations.Change.TheVariants.{Keep, Put, Drop, Clear}
use Rattle.versions.specs.Entries.{LogEntry}
use Rattle.node.specs.declared.messages.Body.{Body}
use Rattle.node.specs.declared.messages.Body.TheVariants.{Op as Asked, Forward, Ack, Query, Answer}
use Rattle.node.specs.declared.messages.Peer.{Peer}
use Rattle.node.specs.Views.{View, has}
use Rattle.schedules.specs.Escapes.{escape}
use Rattle.schedules.specs.Settling.{first_numbers}

-- any bytes, in the escapes of transcripts
unfoldable pub escaped : List ℕ → List ℕ
escaped bytes = flat_map escape bytes

-- words and a number
unfoldable pub labelled : List ℕ → ℕ → List ℕ
labelled words number = words ++ decimal number

-- words and any bytes
unfoldable pub spelled : List ℕ → List ℕ → List ℕ
spelled words bytes = words ++ escaped bytes

-- the word for an operation
abbrev pub name_of : Op → List ℕ
name_of Read = codes "get"
name_of (Set flags bytes) = codes "set"
name_of (Add flags bytes) = codes "add"
name_of (Replace flags bytes) = codes "replace"
name_of (Append bytes) = codes "append"
name_of (Prepend bytes) = codes "prepend"
name_of (Cas flags bytes unique) = codes "cas"
name_of (Incr amount) = codes "incr"
name_of (Decr amount) = codes "decr"
name_of Delete = codes "delete"
name_of Flush = codes "flush_all"

-- flags and data
abbrev pub data_text : ℕ → List ℕ → List ℕ
data_text flags bytes = labelled (codes " flags ") flags ++ spelled (codes " data ") bytes

-- the key that a call is on, if it is on one
abbrev pub aim_text : Target → List ℕ
aim_text (One key) = spelled (codes " ") key
aim_text All = []

-- what an operation has besides
abbrev pub details_text : Op → List ℕ
details_text Read = []
details_text (Set flags bytes) = data_text flags bytes
details_text (Add flags bytes) = data_text flags bytes
details_text (Replace flags bytes) = data_text flags bytes
details_text (Append bytes) = spelled (codes " data ") bytes
details_text (Prepend bytes) = spelled (codes " data ") bytes
details_text (Cas flags bytes unique) = labelled (codes " unique ") unique ++ data_text flags bytes
details_text (Incr amount) = labelled (codes " ") amount
details_text (Decr amount) = labelled (codes " ") amount
details_text Delete = []
details_text Flush = []

-- a call: its name, its key, and what it has besides, the data last
unfoldable pub call_text : Call → List ℕ
call_text call = name_of call.op ++ aim_text call.target ++ details_text call.op

-- an item
abbrev pub item_text : Item → List ℕ
item_text item = labelled (codes " unique ") item.unique ++ data_text item.flags item.bytes

-- the words for a reply that shows no number and no item
abbrev pub status_of : Reply → List ℕ
status_of Stored = codes "stored"
status_of NotStored = codes "not stored"
status_of Exists = codes "exists"
status_of NotFound = codes "not found"
status_of Deleted = codes "deleted"
status_of (Number number) = codes "number"
status_of (Value item) = codes "no item"
status_of TooLarge = codes "too large"
status_of NotNumber = codes "not a number"
status_of Flushed = codes "flushed"

-- a reply
unfoldable pub reply_text : Reply → List ℕ
reply_text (Number number) = labelled (codes "number ") number
reply_text (Value (Some item)) = codes "item" ++ item_text item
reply_text reply = status_of reply

-- the value that a picture shows at a reply: an item's data, a number, or a word
abbrev pub value_text : Reply → List ℕ
value_text (Number number) = decimal number
value_text (Value (Some item)) = escaped item.bytes
value_text reply = status_of reply

-- what an entry was on
abbrev pub target_text : Target → List ℕ
target_text (One key) = spelled (codes " on ") key
target_text All = codes " on all keys"

-- what an entry does to the items
abbrev pub change_text : Change → List ℕ
change_text Keep = codes ", keeps the item"
change_text (Put item) = codes ", puts" ++ item_text item
change_text Drop = codes ", drops the item"
change_text Clear = codes ", clears"

-- an entry's number, what it was on, and whose call it was
abbrev pub asked_text : LogEntry → List ℕ
asked_text e =
    labelled (codes "entry ") e.number ++ target_text e.target ++ labelled (codes ", call ") e.id
    ++ labelled (codes " of server ") e.origin

-- an entry: that, what its call is answered, and its change, the data last
unfoldable pub entry_text : LogEntry → List ℕ
entry_text e = asked_text e ++ codes ": " ++ reply_text e.reply ++ change_text e.change

-- what a message says, in short
abbrev pub body_text : Body → List ℕ
body_text (Asked id call) = labelled (codes "op ") id ++ codes " " ++ call_text call
body_text (Forward entry) = labelled (codes "forward ") entry.number
body_text (Ack number) = labelled (codes "ack ") number
body_text (Query ask key) = labelled (codes "query ") ask ++ spelled (codes " ") key
body_text (Answer ask number) = labelled (codes "answer ") ask ++ labelled (codes " at ") number

-- a server's number after a space, if the view names it
abbrev pub named : View → ℕ → List ℕ
named view i = if has view i then labelled (codes " ") i else []

-- those below a count that a view names
unfoldable pub names_below : View → ℕ → List ℕ
names_below view count = flat_map (named view) (first_numbers count)

-- the servers of a view, or `none`
unfoldable pub view_text : View → List ℕ
view_text view = if nat_eq view 0 then codes " none" else names_below view 16

-- the failed servers of a message's view
abbrev pub known_text : View → List ℕ
known_text view = codes ", knowing failed" ++ view_text view

-- the same if there are any
abbrev pub knowing_text : View → List ℕ
knowing_text view = if nat_eq view 0 then [] else known_text view

-- a message: what it says, and the failed servers of its view
unfoldable pub message_text : Peer → List ℕ
message_text message = body_text message.body ++ knowing_text message.view

-- words and a server's number, or `none`
abbrev pub neighbour_text : List ℕ → Option ℕ → List ℕ
neighbour_text words None = words ++ codes "none"
neighbour_text words (Some i) = labelled words i
