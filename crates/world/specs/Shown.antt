-- What a transcript shows of a call, and of the calls of a connection.
use Rattle.std.specs.Prelude.{List, [], ◌∷◌, map, Option, None, Some, slice_get}
use Rattle.std.specs.Option.{option_and_then, option_map}
use Rattle.table.specs.declared.operations.Call.{Call}
use Rattle.table.specs.declared.operations.Reply.{Reply}
use Rattle.world.specs.declared.transcripts.CallTranscript.{CallTranscript}
use Rattle.world.specs.Transcripts.{ConnectionShown, TranscriptShown}
use Rattle.world.specs.Calls.{CallId}

-- what is shown under the call's name
abbrev pub shown_of : TranscriptShown → CallId → Option CallTranscript
shown_of t x =
    option_and_then (λ (k : ConnectionShown). slice_get k.calls x.ordinal) (slice_get t.connections x.connection)

-- a call as it was begun
abbrev pub call_in : CallTranscript → Call
call_in s = record { target = s.target; op = s.op }

-- the call itself
abbrev pub call_shown : TranscriptShown → CallId → Option Call
call_shown t x = option_map call_in (shown_of t x)

-- the reply of what is shown
abbrev pub reply_in : Option CallTranscript → Option Reply
reply_in None = None
reply_in (Some s) = s.reply

-- its reply
abbrev pub reply_shown : TranscriptShown → CallId → Option Reply
reply_shown t x = reply_in (shown_of t x)

-- the calls that are shown of a connection
abbrev pub calls_in : List CallTranscript → List Call
calls_in shown = map call_in shown

-- this reply, if there is one, and then the others
abbrev pub reply_first : Option Reply → List Reply → List Reply
reply_first None replies = replies
reply_first (Some reply) replies = reply ∷ replies

-- the replies that are shown of these calls, in order
abbrev pub replies_in : List CallTranscript → List Reply
replies_in [] = []
replies_in (s ∷ shown) = reply_first s.reply (replies_in shown)
