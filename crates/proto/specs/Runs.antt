-- Runs of a session: what is done with it, one session call after another, and what has come of it.
use Rattle.std.specs.Prelude.{◌≡◌, ℕ, ◌≤◌, List, [], ◌∷◌, ◌++◌, length, take, drop, Option, None, Some}
use Rattle.table.specs.declared.operations.Reply.{Reply}
use Rattle.proto.specs.declared.texts.Form.{Form}
use Rattle.proto.specs.Turns.{Turn, Outcome, Replied, Refused}
use Rattle.proto.specs.Sessions.{Held, fresh, fed, next_of, answered_by, refused_by, CanAnswer, CanRefuse}

-- What may be done with a session: it is fed with a piece, or asked for its next turn, its open call is answered,
-- or refused, or the first n bytes of its output are taken.
pub data SessionCall : Type 0 where
  Feed : (piece : List ℕ) → SessionCall
  Next : SessionCall
  Answer : (reply : Reply) → SessionCall
  Refuse : SessionCall
  Take : (n : ℕ) → SessionCall

-- What has come of a run: all the bytes that were fed, as one stream, the turns that were given,
-- what their calls came to, all the bytes of the output that were taken, and what the session holds.
pub record Run : Type 0 where
  pub stream : List ℕ
  pub given : List Turn
  pub outcomes : List Outcome
  pub taken : List ℕ
  pub held : Held

-- before any session call
abbrev pub opening_run : Run
opening_run = record { stream = []; given = []; outcomes = []; taken = []; held = fresh }

-- a turn that was given, as a list
abbrev pub turn_given : Option Turn → List Turn
turn_given None = []
turn_given (Some turn) = turn ∷ []

-- the first n bytes of the output are taken away
abbrev pub taken_from : Held → ℕ → Held
taken_from h n = record h { out = drop n h.out }

-- a run with one session call more
abbrev pub acted : Run → SessionCall → Run
acted run (Feed piece) = record run { stream = run.stream ++ piece; held = fed run.held piece }
acted run Next = record run { given = run.given ++ turn_given (next_of run.held).0; held = (next_of run.held).1 }
acted run (Answer reply) =
    record run { outcomes = run.outcomes ++ Replied reply ∷ []; held = answered_by run.held.asked run.held reply }
acted run Refuse = record run { outcomes = run.outcomes ++ Refused ∷ []; held = refused_by run.held.asked run.held }
acted run (Take n) = record run { taken = run.taken ++ take n run.held.out; held = taken_from run.held n }

-- a session is asked while no call is open, a call is answered by a reply that it can have, one that is refused is an
-- update, and what is taken is there
abbrev pub IsAllowed : Held → SessionCall → Type 0
IsAllowed h (Feed piece) = Unit {0}
IsAllowed h Next = h.asked ≡ None
IsAllowed h (Answer reply) = CanAnswer h.asked reply
IsAllowed h Refuse = CanRefuse h.asked
IsAllowed h (Take n) = n ≤ length h.out

-- This has come of a run from a new session, each session call of which was allowed when it was made.
pub data IsRun : Run → Type 0 where
  Opens : IsRun opening_run
  Acts : (run : Run) (session_call : SessionCall) → IsRun run → IsAllowed run.held session_call → IsRun (acted run session_call)

-- how many calls are open
abbrev pub open_calls : Option Form → ℕ
open_calls None = 0
open_calls (Some form) = 1
