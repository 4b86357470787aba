-- What events did, in lines (docs/FORMATS.md, "Trace").
use Rattle.std.specs.Prelude.{ℕ, nat_eq, nat_le, nat_lt, Bool, List, [], ◌∷◌, ◌++◌, Option, None, Some, flat_map}
use Rattle.std.specs.Prelude.{if◌then◌else◌, codes}
use Rattle.table.specs.declared.operations.Op.{Op}
use Rattle.table.specs.declared.operations.Op.TheVariants.{Read}
use Rattle.table.specs.declared.operations.Call.{Call}
use Rattle.table.specs.declared.operations.Reply.{Reply}
use Rattle.versions.specs.Entries.{LogEntry}
use Rattle.node.specs.declared.messages.Body.{Body}
use Rattle.node.specs.declared.messages.Body.TheVariants.{Answer}
use Rattle.node.specs.declared.messages.Input.{Input}
use Rattle.node.specs.declared.messages.Input.TheVariants.{Call as Called, From, Gone}
use Rattle.node.specs.declared.messages.Output.{Output}
use Rattle.node.specs.declared.messages.Peer.{Peer}
use Rattle.node.specs.declared.messages.Output.TheVariants.{To, Reply as Replied}
use Rattle.node.specs.declared.standings.Standing.{Standing}
use Rattle.node.specs.Views.{View, head, tail, predecessor, successor, is_that}
use Rattle.world.specs.declared.events.Event.{Event}
use Rattle.world.specs.declared.events.Event.TheVariants.{Fail}
use Rattle.world.specs.declared.event_effects.EventEffect.{EventEffect}
use Rattle.world.specs.declared.event_effects.EventEffect.TheVariants.{Nothing, Came, Began, Stepped, Failed, Handed}
use Rattle.world.specs.ServerSteps.{StepShown}
use Rattle.traces.specs.Words.{labelled, spelled, call_text, reply_text, entry_text, body_text, message_text, view_text}
use Rattle.traces.specs.Words.{neighbour_text}

-- the bytes that a connection was sent, if there are any
unfoldable pub sent_line : List ℕ → List ℕ
sent_line [] = []
sent_line (b ∷ bs) = spelled (codes "  is sent ") (b ∷ bs) ++ codes "\n"

-- the call that began, if one did
abbrev pub begun_line : Option Call → List ℕ
begun_line None = codes "  no call begins\n"
begun_line (Some call) = codes "  begins " ++ call_text call ++ codes "\n"

-- what a `begin` did
abbrev pub began_lines : Option Call → List ℕ → List ℕ
began_lines call sent = sent_line sent ++ begun_line call

-- what a `hand` did
abbrev pub handed_lines : Reply → List ℕ → List ℕ
handed_lines reply sent = codes "  is answered " ++ reply_text reply ++ codes "\n" ++ sent_line sent

-- the server that failed
abbrev pub failed_line : Event → List ℕ
failed_line (Fail i) = labelled (codes "  server ") i ++ codes " fails\n"
failed_line event = codes "  fails\n"

-- what a server takes
abbrev pub input_text : Input → List ℕ
input_text (Called port call) = labelled (codes " takes of connection ") port ++ codes ": " ++ call_text call
input_text (From i message) = labelled (codes " takes of server ") i ++ codes ": " ++ message_text message
input_text (Gone j) = labelled (codes " is told that server ") j ++ codes " has failed"

-- the same for a picture
abbrev pub taken_text : Input → List ℕ
taken_text (Called port call) = call_text call
taken_text (From i message) = body_text message.body
taken_text (Gone j) = labelled (codes "told of ") j

-- the server and what it takes
abbrev pub taking_line : ℕ → Input → List ℕ
taking_line i input = labelled (codes "  server ") i ++ input_text input ++ codes "\n"

-- the ends of a chain of n servers in a view
unfoldable pub ends_text : ℕ → View → List ℕ
ends_text count view =
    neighbour_text (codes ": head ") (head view count) ++ neighbour_text (codes ", tail ") (tail view count)

-- the neighbours of a server of the chain
unfoldable pub neighbours_text : ℕ → ℕ → View → List ℕ
neighbours_text count i view =
    if nat_lt i count then
    neighbour_text (codes ", predecessor ") (predecessor view i)
    ++ neighbour_text (codes ", successor ") (successor view count i)
    else []

-- the view that a server has now, and its places in it
abbrev pub places_line : ℕ → ℕ → View → List ℕ
places_line count i view =
    codes "    knows failed" ++ view_text view ++ ends_text count view ++ neighbours_text count i view ++ codes "\n"

-- the same if the view is another one than before
abbrev pub joined_line : ℕ → ℕ → View → View → List ℕ
joined_line count i before after = if nat_eq after before then [] else places_line count i after

-- an entry that was appended
unfoldable pub appended_line : LogEntry → List ℕ
appended_line entry = codes "    appends " ++ entry_text entry ++ codes "\n"

-- a server that stands so is the tail in its own view
abbrev pub is_tail : ℕ → ℕ → Standing → Bool
is_tail count i standing = is_that (tail standing.view count) i

-- what the tail acknowledges is committed
abbrev pub acknowledging : Bool → List ℕ
acknowledging is_last = if is_last then codes "    commits up to " else codes "    has acknowledged up to "

-- the number that a server has acknowledged, if it rose
abbrev pub acknowledged_line : ℕ → ℕ → Standing → Standing → List ℕ
acknowledged_line count i before after =
    if nat_le after.acked before.acked then []
    else labelled (acknowledging (is_tail count i after)) after.acked ++ codes "\n"

-- how a call is answered at once: a read is clean
abbrev pub call_way : Op → List ℕ
call_way Read = codes " clean"
call_way op = []

-- how a read is answered by a message: at the number of the tail's answer
abbrev pub body_way : Body → List ℕ
body_way (Answer ask number) = labelled (codes " at ") number
body_way body = []

-- the same by what was taken
abbrev pub way_text : Input → List ℕ
way_text (Called port call) = call_way call.op
way_text (From i message) = body_way message.body
way_text (Gone j) = []

-- a message that was put out
abbrev pub sending_line : ℕ → Peer → List ℕ
sending_line to message = labelled (codes "    sends server ") to ++ codes ": " ++ message_text message ++ codes "\n"

-- a reply that was put out for this input
abbrev pub answering_line : Input → ℕ → Reply → List ℕ
answering_line input port reply =
    labelled (codes "    answers connection ") port ++ way_text input ++ codes ": " ++ reply_text reply ++ codes "\n"

-- what was put out for this input
abbrev pub output_line : Input → Output → List ℕ
output_line input (To to message) = sending_line to message
output_line input (Replied port reply) = answering_line input port reply

-- what server i did: what it took, its view if it changed, the entries that it appended, its commit number if it
-- rose, and what it put out
abbrev pub step_lines : ℕ → ℕ → StepShown → List ℕ
step_lines count i step =
    taking_line i step.input ++ joined_line count i step.before.view step.after.view
    ++ flat_map appended_line step.entries ++ acknowledged_line count i step.before step.after
    ++ flat_map (output_line step.input) step.outputs

-- the lines that say what an event did, in a chain of n servers
abbrev pub event_effect_lines : ℕ → Event → EventEffect → List ℕ
event_effect_lines count event Nothing = codes "  no effect\n"
event_effect_lines count event Came = codes "  the bytes come\n"
event_effect_lines count event (Began call sent) = began_lines call sent
event_effect_lines count event (Stepped i step) = step_lines count i step
event_effect_lines count event Failed = failed_line event
event_effect_lines count event (Handed reply sent) = handed_lines reply sent
