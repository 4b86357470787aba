-- What a session's step, an answer and a refusal write, and the texts of turns with what their calls came to.
use Rattle.std.proofs.Common.{◌≡◌, ℕ, ◌==◌, Bool, true, false, cond, List, [], ◌∷◌, ◌++◌, length, drop, map, Option, None}
use Rattle.std.proofs.Common.{Some, refl, sym, ap, ◌∙◌, arith, append_assoc, append-nil}
use Rattle.table.specs.declared.operations.Call.{Call}
use Rattle.table.specs.declared.operations.Reply.{Reply}
use Rattle.proto.specs.declared.requests.Fault.{Fault}
use Rattle.proto.specs.declared.requests.Request.{Request}
use Rattle.proto.specs.declared.requests.Request.TheVariants.{Store, Get, Arith, Delete, Flush, Quit, Bad}
use Rattle.proto.specs.declared.skipped_blocks.SkippedBlock.{SkippedBlock}
use Rattle.proto.specs.declared.front.Found.{Found}
use Rattle.proto.specs.declared.front.Found.TheVariants.{Request as Requested, Refused, Nothing}
use Rattle.proto.specs.declared.texts.Form.{Form}
use Rattle.proto.specs.Fronts.{found_at}
use Rattle.proto.specs.declared.texts.Form.TheVariants.{Silent}
use Rattle.proto.specs.Turns.{Turn, Faulty, Calls, calls_of, fault_text, text, Outcome, Replied}
use Rattle.proto.specs.Turns.{Refused as RefusedCall, outcome_text, refusal_text}
use Rattle.proto.specs.Sessions.{Held, Given, Writes, by_keys, by_request, by_found, by_skipped_block, by_later}
use Rattle.proto.specs.Sessions.{next_of}
use Rattle.proto.specs.Sessions.{answered_by, refused_by}
use Rattle.proto.specs.Streams.{texts, outcome_texts}

keys_write : (keys : List (List ℕ)) (unique : Bool) (h : Held) → Writes h (by_keys keys unique h)
keys_write [] unique h = (refl, refl)
keys_write (key ∷ keys) unique h = (refl, refl)

request_writes : (request : Request) (h : Held) → Writes h (by_request request h)
request_writes (Store key op silent) h = (refl, refl)
request_writes (Get keys unique) h = keys_write keys unique h
request_writes (Arith key op silent) h = (refl, refl)
request_writes (Delete key silent) h = (refl, refl)
request_writes (Flush silent) h = (refl, refl)
request_writes Quit h = (refl, refl)
request_writes (Bad fault) h = (refl, refl)

-- what is taken off the unread bytes has no part in it
like : (h k : Held) (given : Given) → k.out ≡ h.out → k.asked ≡ h.asked → Writes k given → Writes h given
like h k (None, left) out asked w = (w.0 ∙ out, w.1 ∙ asked)
like h k (Some (Faulty fault), left) out asked w = (w.0 ∙ ap (λ bytes. bytes ++ fault_text fault) out, w.1 ∙ asked)
like h k (Some (Calls call form), left) out asked w = (w.0 ∙ out, w.1)

found_writes : (found : Found) (h : Held) → Writes h (by_found found h)
found_writes (Requested request n) h =
    like h (record h { unread = drop n h.unread }) _ refl refl (request_writes request _)
found_writes (Refused skipped_block) h = (refl, refl)
found_writes Nothing h = (refl, refl)

skipped_block_writes : (skipped_block : Option SkippedBlock) (h : Held) → Writes h (by_skipped_block skipped_block h)
skipped_block_writes None h = found_writes (found_at h.unread) h
skipped_block_writes (Some p) h = by_left (p.left == 0)
  where
    by_left : (b : Bool) → Writes h (cond b (by_request (Bad p.fault) (record h { skipped_block = None })) (None, h))
    by_left true = (refl, refl)
    by_left false = (refl, refl)

later_writes : (keys : List (List ℕ)) (h : Held) → Writes h (by_later keys h)
later_writes [] h = skipped_block_writes h.skipped_block h
later_writes (key ∷ keys) h = keys_write (key ∷ keys) h.unique h

-- what a step writes
pub next_writes : (h : Held) → Writes h (next_of h)
next_writes h = by_closed h.closed
  where
    by_closed : (b : Bool) → Writes h (cond b (None, h) (by_later h.later h))
    by_closed true = (refl, refl)
    by_closed false = later_writes h.later h

-- what an answer writes
pub answer_writes : (h : Held) (form : Form) (reply : Reply)
    → h.asked ≡ Some form
    → (answered_by h.asked h reply).out ≡ h.out ++ text form reply
answer_writes h form reply e = rw e refl

-- after an answer no call is open
pub answer_idle : (h : Held) (reply : Reply) → (answered_by h.asked h reply).asked ≡ None
answer_idle h reply = by_asked h.asked refl
  where
    by_asked : (asked : Option Form) → h.asked ≡ asked → (answered_by asked h reply).asked ≡ None
    by_asked None e = e
    by_asked (Some form) e = refl

-- what a refusal writes
pub refusal_writes : (h : Held) (form : Form)
    → h.asked ≡ Some form
    → (refused_by h.asked h).out ≡ h.out ++ refusal_text form
refusal_writes h form e = rw e refl

-- after a refusal no call is open
pub refusal_idle : (h : Held) → (refused_by h.asked h).asked ≡ None
refusal_idle h = by_asked h.asked refl
  where
    by_asked : (asked : Option Form) → h.asked ≡ asked → (refused_by asked h).asked ≡ None
    by_asked None e = e
    by_asked (Some form) e = refl

-- a silent call writes nothing
pub silent_writes_nothing : (outcome : Outcome) → outcome_text Silent outcome ≡ []
silent_writes_nothing (Replied reply) = refl
silent_writes_nothing RefusedCall = refl

-- if no call was refused, the texts are those of the replies
pub replies_are_outcomes : (ts : List Turn) (rs : List Reply) → outcome_texts ts (map Replied rs) ≡ texts ts rs
replies_are_outcomes [] rs = refl
replies_are_outcomes (Faulty fault ∷ ts) rs = ap (λ bytes. fault_text fault ++ bytes) (replies_are_outcomes ts rs)
replies_are_outcomes (Calls call form ∷ ts) [] = refl
replies_are_outcomes (Calls call form ∷ ts) (reply ∷ rs) =
    ap (λ bytes. text form reply ++ bytes) (replies_are_outcomes ts rs)

-- more turns, of whose calls more is known, have more text
pub fewer_outcomes_begin : (ts us : List Turn) (os ps : List Outcome)
    → (rest : List ℕ) × (outcome_texts (ts ++ us) (os ++ ps) ≡ outcome_texts ts os ++ rest)
fewer_outcomes_begin [] us os ps = (outcome_texts us (os ++ ps), refl)
fewer_outcomes_begin (Faulty fault ∷ ts) us os ps =
    let more = fewer_outcomes_begin ts us os ps in (
      more.0,
      ap (λ bytes. fault_text fault ++ bytes) more.1
          ∙ sym (append_assoc (fault_text fault) (outcome_texts ts os) more.0),
    )
fewer_outcomes_begin (Calls call form ∷ ts) us [] ps = (outcome_texts (Calls call form ∷ ts ++ us) ps, refl)
fewer_outcomes_begin (Calls call form ∷ ts) us (o ∷ os) ps =
    let more = fewer_outcomes_begin ts us os ps in (
      more.0,
      ap (λ bytes. outcome_text form o ++ bytes) more.1
          ∙ sym (append_assoc (outcome_text form o) (outcome_texts ts os) more.0),
    )

-- the calls among turns, with more of them after
pub calls_of_more : (ts us : List Turn) → calls_of (ts ++ us) ≡ calls_of ts ++ calls_of us
calls_of_more [] us = refl
calls_of_more (Faulty fault ∷ ts) us = calls_of_more ts us
calls_of_more (Calls call form ∷ ts) us = ap (λ calls. call ∷ calls) (calls_of_more ts us)

-- a fault after turns of whose calls all is known
pub texts_fault : (fault : Fault) (ts : List Turn) (os : List Outcome)
    → length os ≡ length (calls_of ts)
    → outcome_texts (ts ++ Faulty fault ∷ []) os ≡ outcome_texts ts os ++ fault_text fault
texts_fault fault [] os h = append-nil (fault_text fault)
texts_fault fault (Faulty g ∷ ts) os h =
    rw (texts_fault fault ts os h) (sym (append_assoc (fault_text g) (outcome_texts ts os) (fault_text fault)))
texts_fault fault (Calls call form ∷ ts) [] h = absurd (omega (arith, h))
texts_fault fault (Calls call form ∷ ts) (o ∷ os) h =
    rw (texts_fault fault ts os (omega (arith, h)))
    (sym (append_assoc (outcome_text form o) (outcome_texts ts os) (fault_text fault)))

-- an open call after them
pub texts_open : (call : Call) (form : Form) (ts : List Turn) (os : List Outcome)
    → length os ≡ length (calls_of ts)
    → outcome_texts (ts ++ Calls call form ∷ []) os ≡ outcome_texts ts os
texts_open call form [] [] h = refl
texts_open call form [] (o ∷ os) h = absurd (omega (arith, h))
texts_open call form (Faulty g ∷ ts) os h = ap (λ bytes. fault_text g ++ bytes) (texts_open call form ts os h)
texts_open call form (Calls other shape ∷ ts) [] h = absurd (omega (arith, h))
texts_open call form (Calls other shape ∷ ts) (o ∷ os) h =
    ap (λ bytes. outcome_text shape o ++ bytes) (texts_open call form ts os (omega (arith, h)))

-- a call that came to this, after them
pub texts_call : (call : Call) (form : Form) (outcome : Outcome) (ts : List Turn) (os : List Outcome)
    → length os ≡ length (calls_of ts)
    → outcome_texts (ts ++ Calls call form ∷ []) (os ++ outcome ∷ []) ≡ outcome_texts ts os ++ outcome_text form outcome
texts_call call form outcome [] [] h = append-nil (outcome_text form outcome)
texts_call call form outcome [] (o ∷ os) h = absurd (omega (arith, h))
texts_call call form outcome (Faulty g ∷ ts) os h =
    rw (texts_call call form outcome ts os h)
    (sym (append_assoc (fault_text g) (outcome_texts ts os) (outcome_text form outcome)))
texts_call call form outcome (Calls other shape ∷ ts) [] h = absurd (omega (arith, h))
texts_call call form outcome (Calls other shape ∷ ts) (o ∷ os) h =
    rw (texts_call call form outcome ts os (omega (arith, h)))
    (sym (append_assoc (outcome_text shape o) (outcome_texts ts os) (outcome_text form outcome)))
