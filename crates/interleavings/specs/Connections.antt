-- What a seat's connection holds, from the bytes that were read of it to those that were written to it, and what each
-- move does with it.
use Rattle.std.specs.Prelude.{ℕ, Bool, false, not, ◌||◌, nat_lt, List, [], ◌∷◌, ◌++◌, length, take, Option, None, Some}
use Rattle.std.specs.Prelude.{is_some, if◌then◌else◌}
use Rattle.table.specs.Operations.{is_value}
use Rattle.table.specs.declared.operations.Call.{Call}
use Rattle.table.specs.declared.operations.Reply.{Reply}
use Rattle.proto.specs.declared.texts.Form.{Form}
use Rattle.proto.specs.Turns.{Outcome, Replied, Refused, call_of}
use Rattle.proto.specs.Sessions.{Held, fresh, fed, next_of, answered_by, refused_by, shows}
use Rattle.proto.specs.Runs.{taken_from}

-- A connection: the bytes that were read of it; what its session holds; the call that its session has given and that
-- isn't made yet; its calls that were made, and the replies that they got, the oldest first; what each call that its
-- session has given came to, a reply or a refusal; the bytes that were written to it.
pub record Connection : Type 0 where
  pub read : List ℕ
  pub session : Held
  pub due : Option Call
  pub calls : List Call
  pub replies : List Reply
  pub outcomes : List Outcome
  pub written : List ℕ

-- of which nothing was read
abbrev pub opening_connection : Connection
opening_connection =
    record { read = []; session = fresh; due = None; calls = []; replies = []; outcomes = []; written = [] }

-- these bytes are read: they come after those before, at whatever place the input was cut
abbrev pub heard : List ℕ → Connection → Connection
heard piece k = record k { read = k.read ++ piece; session = fed k.session piece }

-- if no call is open, the session gives its next turn: a fault, whose line is output at once; a call, which is to be
-- made; or none
abbrev pub begun : Connection → Connection
begun k =
    if is_some k.session.asked then k
    else record k { session = (next_of k.session).1; due = call_of (next_of k.session).0 }

-- this call, which was to be made, is made
abbrev pub made : Call → Connection → Connection
made call k = record k { due = None; calls = k.calls ++ call ∷ [] }

-- the open call gets this reply, and its text is output
abbrev pub answered : Reply → Connection → Connection
answered reply k =
    record k {
      session = answered_by k.session.asked k.session reply;
      replies = k.replies ++ reply ∷ [];
      outcomes = k.outcomes ++ Replied reply ∷ [];
    }

-- the call that was to be made is refused: it is never made, and its line is output, or nothing if it is silent
abbrev pub refused : Connection → Connection
refused k =
    record k {
      session = refused_by k.session.asked k.session;
      due = None;
      outcomes = k.outcomes ++ Refused ∷ [];
    }

-- the first n bytes of the output are written, or all if there are fewer
abbrev pub wrote : ℕ → Connection → Connection
wrote n k = record k { session = taken_from k.session n; written = k.written ++ take n k.session.out }

-- a call was made, and has no reply yet
abbrev pub waits : Connection → Bool
waits k = nat_lt (length k.replies) (length k.calls)

-- the open call, whose answer has this form, can have this reply: an item, or none, exactly if it is a read
abbrev pub may_have : Option Form → Reply → Bool
may_have None reply = false
may_have (Some form) reply = if shows form then is_value reply else not (is_value reply)

-- the session can give no turn now: a call is open, or no whole request is left of what was read
abbrev pub gives_none : Held → Bool
gives_none h = is_some h.asked || not (is_some (next_of h).0)
