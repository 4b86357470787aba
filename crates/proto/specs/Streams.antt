-- Whole streams: their requests, their turns and the texts of these; and the turns that a session has still to give.
use Rattle.std.specs.Prelude.{◌≡◌, ℕ, zero, suc, ◌+◌, ◌<◌, ◌==◌, Bool, ◌||◌, List, [], ◌∷◌, ◌++◌, length, drop, Option}
use Rattle.std.specs.Prelude.{None, Some, is_some, if◌then◌else◌}
use Rattle.std.specs.List.{flat_map, list_any}
use Rattle.table.specs.declared.operations.Reply.{Reply}
use Rattle.proto.specs.declared.skipped_blocks.SkippedBlock.{SkippedBlock}
use Rattle.proto.specs.declared.requests.Request.{Request}
use Rattle.proto.specs.declared.requests.Request.TheVariants.{Bad}
use Rattle.proto.specs.declared.sessions.Step.{Step}
use Rattle.proto.specs.declared.sessions.Step.TheVariants.{Call, Emit, Wait, Close}
use Rattle.proto.specs.Fronts.{Front, front, is_last}
use Rattle.proto.specs.Turns.{Turn, Faulty, Calls, Outcome, looks, turns_of, fault_text, text, outcome_text}
use Rattle.proto.specs.Sessions.{Held, fed}

-- a request at the front, and those after it
abbrev pub and_later : Front → (ℕ → List Request) → List Request
and_later None later = []
and_later (Some found) later = found.0 ∷ (if is_last found.0 then [] else later found.1)

-- the requests that follow one another from the front, at most n
abbrev pub requests_upto : ℕ → List ℕ → List Request
requests_upto zero bytes = []
requests_upto (suc k) bytes = and_later (front bytes) (λ n. requests_upto k (drop n bytes))

-- the requests of a stream: each takes a byte at least
abbrev pub requests : List ℕ → List Request
requests bytes = requests_upto (length bytes) bytes

-- whether the stream ends in a request after which there is none
abbrev pub ends : List ℕ → Bool
ends bytes = list_any is_last (requests bytes)

-- the turns of a stream
abbrev pub turns : List ℕ → List Turn
turns bytes = flat_map turns_of (requests bytes)

-- the turns of a request, and those after it
abbrev pub turns_before : Request → List Turn → List Turn
turns_before request later = turns_of request ++ (if is_last request then [] else later)

-- what is written for turns, each call's text with its reply, up to the first call without one
abbrev pub texts : List Turn → List Reply → List ℕ
texts [] replies = []
texts (Faulty fault ∷ ts) replies = fault_text fault ++ texts ts replies
texts (Calls call form ∷ ts) [] = []
texts (Calls call form ∷ ts) (reply ∷ replies) = text form reply ++ texts ts replies

-- what is written for turns, each call's text with what it came to, up to the first call of which that isn't known
abbrev pub outcome_texts : List Turn → List Outcome → List ℕ
outcome_texts [] outcomes = []
outcome_texts (Faulty fault ∷ ts) outcomes = fault_text fault ++ outcome_texts ts outcomes
outcome_texts (Calls call form ∷ ts) [] = []
outcome_texts (Calls call form ∷ ts) (outcome ∷ outcomes) = outcome_text form outcome ++ outcome_texts ts outcomes

-- the requests that a session's bytes have still to give: if a refused block is being passed over, none before its end
abbrev pub unread_requests : Option SkippedBlock → List ℕ → List Request
unread_requests None unread = requests unread
unread_requests (Some p) unread =
    if p.left == 0 then Bad p.fault ∷ (if is_last (Bad p.fault) then [] else requests unread) else []

-- the turns that a session's bytes have still to give: if a refused block is being passed over, none before its end
abbrev pub unread_turns : Option SkippedBlock → List ℕ → List Turn
unread_turns None unread = turns unread
unread_turns (Some p) unread = if p.left == 0 then turns_before (Bad p.fault) (turns unread) else []

-- the turns that a session has still to give, if it is fed with no more
abbrev pub to_come : Held → List Turn
to_come h = if h.closed then [] else looks h.later h.unique ++ unread_turns h.skipped_block h.unread

-- whether a session is closed, or will be by the bytes that it has
abbrev pub will_close : Held → Bool
will_close h = h.closed || list_any is_last (unread_requests h.skipped_block h.unread)

-- the turn that was given stands in front of the others
abbrev pub with_turn : Option Turn → List Turn → List Turn
with_turn None turns = turns
with_turn (Some turn) turns = turn ∷ turns

-- The session gives its first turn and leaves the others, whatever bytes may follow, and however they will be cut;
-- and if it gives none, there was none.
pub record GivesFirst (h : Held) (given : Option Turn) (left : Held) : Type 0 where
  pub first : (more : List ℕ) → to_come (fed h more) ≡ with_turn given (to_come (fed left more))
  pub none : given ≡ None → to_come h ≡ []

-- an upper bound on the faults to come: each takes at least a byte, except the one whose block was skipped
abbrev pub most_faults : Held → ℕ
most_faults h = length h.unread + (if is_some h.skipped_block then 1 else 0)

-- An upper bound on the turns to come before more bytes: each takes a byte at least, or one of the keys that are left,
-- or the refused block that is skipped.
abbrev pub most_turns : Held → ℕ
most_turns h = length h.unread + length h.later + (if is_some h.skipped_block then 1 else 0)

-- a step that gives a turn leaves fewer to come
abbrev pub LeavesFewer : Step → Held → Held → Type 0
LeavesFewer (Call target op) h left = most_turns left < most_turns h
LeavesFewer Emit h left = most_turns left < most_turns h
LeavesFewer Wait h left = Unit {0}
LeavesFewer Close h left = Unit {0}

-- A step leaves the end of the stream where it is, whatever bytes may follow; and a session that gives no turn
-- is closed then exactly if it had come to that end.
pub record KeepsEnd (h : Held) (given : Option Turn) (left : Held) : Type 0 where
  pub kept : (more : List ℕ) → will_close (fed h more) ≡ will_close (fed left more)
  pub come : given ≡ None → left.closed ≡ will_close h

-- What is to come is the same, whatever bytes may follow: the turns, their end, and at most as many of them.
pub record SameToCome (h left : Held) : Type 0 where
  pub turns : (more : List ℕ) → to_come (fed left more) ≡ to_come (fed h more)
  pub end : (more : List ℕ) → will_close (fed left more) ≡ will_close (fed h more)
  pub most : most_turns left ≡ most_turns h
