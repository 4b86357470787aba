-- Turns in lists that grow at their end, and what a session's step does to its output.
use Rattle.std.proofs.Common.{◌≡◌, ℕ, ◌==◌, Bool, true, false, cond, List, [], ◌∷◌, ◌++◌, length, Option, None, Some}
use Rattle.std.proofs.Common.{refl, sym, ap, arith, append_assoc, append-nil}
use Rattle.table.specs.declared.operations.Call.{Call}
use Rattle.table.specs.declared.operations.Reply.{Reply}
use Rattle.proto.specs.declared.requests.Fault.{Fault}
use Rattle.proto.specs.declared.requests.Request.{Request}
use Rattle.proto.specs.declared.requests.Request.TheVariants.{Store, Get, Arith, Delete, Flush, Quit, Bad}
use Rattle.proto.specs.declared.skipped_blocks.SkippedBlock.{SkippedBlock}
use Rattle.proto.specs.declared.front.Found.{Found}
use Rattle.proto.specs.declared.front.Found.TheVariants.{Request as Requested, Refused, Nothing}
use Rattle.proto.specs.declared.texts.Form.{Form}
use Rattle.proto.specs.Fronts.{found_at}
use Rattle.proto.specs.Turns.{Turn, Faulty, Calls, fault_text, text}
use Rattle.proto.specs.Sessions.{Held, Given, kept, passed, fed, by_keys, by_request, by_found, by_skipped_block}
use Rattle.proto.specs.Sessions.{by_later}
use Rattle.proto.specs.Sessions.{next_of, answered_by}
use Rattle.proto.specs.Streams.{texts, to_come}
use Rattle.world.specs.Sent.{calls_of}

-- the calls among turns, with more of them at the end
pub calls_of_more : (xs ys : List Turn) → calls_of (xs ++ ys) ≡ calls_of xs ++ calls_of ys
calls_of_more [] ys = refl
calls_of_more (Faulty fault ∷ xs) ys = calls_of_more xs ys
calls_of_more (Calls call form ∷ xs) ys = ap (λ calls. call ∷ calls) (calls_of_more xs ys)

-- a fault after turns whose calls are answered
pub texts_fault : (fault : Fault) (ts : List Turn) (rs : List Reply)
    → length rs ≡ length (calls_of ts)
    → texts (ts ++ Faulty fault ∷ []) rs ≡ texts ts rs ++ fault_text fault
texts_fault fault [] rs h = append-nil (fault_text fault)
texts_fault fault (Faulty g ∷ ts) rs h =
    rw (texts_fault fault ts rs h) (sym (append_assoc (fault_text g) (texts ts rs) (fault_text fault)))
texts_fault fault (Calls call form ∷ ts) [] h = absurd (omega (arith, h))
texts_fault fault (Calls call form ∷ ts) (r ∷ rs) h =
    rw (texts_fault fault ts rs (omega (arith, h))) (sym (append_assoc (text form r) (texts ts rs) (fault_text fault)))

-- an answered call after them
pub texts_call : (call : Call) (form : Form) (reply : Reply) (ts : List Turn) (rs : List Reply)
    → length rs ≡ length (calls_of ts)
    → texts (ts ++ Calls call form ∷ []) (rs ++ reply ∷ []) ≡ texts ts rs ++ text form reply
texts_call call form reply [] [] h = append-nil (text form reply)
texts_call call form reply [] (r ∷ rs) h = absurd (omega (arith, h))
texts_call call form reply (Faulty g ∷ ts) rs h =
    rw (texts_call call form reply ts rs h) (sym (append_assoc (fault_text g) (texts ts rs) (text form reply)))
texts_call call form reply (Calls other shape ∷ ts) [] h = absurd (omega (arith, h))
texts_call call form reply (Calls other shape ∷ ts) (r ∷ rs) h =
    rw (texts_call call form reply ts rs (omega (arith, h)))
    (sym (append_assoc (text shape r) (texts ts rs) (text form reply)))

-- what a step writes after this output, and which call it opens
abbrev pub Writes : List ℕ → Given → Type 0
Writes out (None, left) = left.out ≡ out
Writes out (Some (Faulty fault), left) = left.out ≡ out ++ fault_text fault
Writes out (Some (Calls call form), left) = (left.out ≡ out) × (left.asked ≡ Some form)

keys_write : (keys : List (List ℕ)) (unique : Bool) (h : Held) → Writes h.out (by_keys keys unique h)
keys_write [] unique h = refl
keys_write (key ∷ keys) unique h = (refl, refl)

request_writes : (request : Request) (h : Held) → Writes h.out (by_request request h)
request_writes (Store key op silent) h = (refl, refl)
request_writes (Get keys unique) h = keys_write keys unique h
request_writes (Arith key op silent) h = (refl, refl)
request_writes (Delete key silent) h = (refl, refl)
request_writes (Flush silent) h = (refl, refl)
request_writes Quit h = refl
request_writes (Bad fault) h = refl

found_writes : (found : Found) (h : Held) → Writes h.out (by_found found h)
found_writes (Requested request n) h = request_writes request _
found_writes (Refused skipped_block) h = refl
found_writes Nothing h = refl

skipped_block_writes : (skipped_block : Option SkippedBlock) (h : Held)
    → Writes h.out (by_skipped_block skipped_block h)
skipped_block_writes None h = found_writes (found_at h.unread) h
skipped_block_writes (Some p) h = by_left (p.left == 0)
  where
    by_left : (b : Bool) → Writes h.out (cond b (by_request (Bad p.fault) (record h { skipped_block = None }))
        (None, h))
    by_left true = refl
    by_left false = refl

later_writes : (keys : List (List ℕ)) (h : Held) → Writes h.out (by_later keys h)
later_writes [] h = skipped_block_writes h.skipped_block h
later_writes (key ∷ keys) h = keys_write (key ∷ keys) h.unique h

-- a session's step writes a fault's text or nothing, and the call that it gives is open
pub next_writes : (h : Held) → Writes h.out (next_of h)
next_writes h = by_closed h.closed
  where
    by_closed : (b : Bool) → Writes h.out (cond b (None, h) (by_later h.later h))
    by_closed true = refl
    by_closed false = later_writes h.later h

-- bytes that come to a closed session have no effect
pub fed_closed : (h : Held) (xs : List ℕ) → h.closed ≡ true → fed h xs ≡ h
fed_closed h xs closed = rw closed refl

-- bytes that come leave a session's output as it is
pub fed_out : (h : Held) (xs : List ℕ) → (fed h xs).out ≡ h.out
fed_out h xs = by_closed h.closed
  where
    by_closed : (b : Bool)
        → (cond b h (record h {
          unread = h.unread
              ++ kept h.skipped_block xs;
          skipped_block = passed h.skipped_block xs;
        })).out ≡ h.out
    by_closed true = refl
    by_closed false = refl

-- bytes that come leave a session's open call as it is
pub fed_asked : (h : Held) (xs : List ℕ) → (fed h xs).asked ≡ h.asked
fed_asked h xs = by_closed h.closed
  where
    by_closed : (b : Bool)
        → (cond b h (record h
        { unread = h.unread ++ kept h.skipped_block xs; skipped_block = passed h.skipped_block xs })).asked ≡ h.asked
    by_closed true = refl
    by_closed false = refl

-- an answer writes the reply's text after the output
pub answered_out : (asked : Option Form) (form : Form) (h : Held) (reply : Reply)
    → asked ≡ Some form
    → (answered_by asked h reply).out ≡ h.out ++ text form reply
answered_out asked form h reply e = rw e refl

-- an answer changes nothing of the turns to come
pub answered_to_come : (asked : Option Form) (h : Held) (reply : Reply) (more : List ℕ)
    → to_come (fed (answered_by asked h reply) more) ≡ to_come (fed h more)
answered_to_come None h reply more = refl
answered_to_come (Some form) h reply more = by_fields h.unread h.skipped_block h.later h.unique h.asked h.out h.closed
  where
    by_fields : (unread : List ℕ) (skipped_block : Option SkippedBlock) (later : List (List ℕ)) (unique : Bool)
        (asked : Option Form) (out : List ℕ) (closed : Bool)
        → let h : Held = record {
          unread = unread;
          skipped_block = skipped_block;
          later = later;
          unique = unique;
          asked = asked;
          out = out;
          closed = closed;
        } in to_come (fed (answered_by (Some form) h reply) more) ≡ to_come (fed h more)
    by_fields unread skipped_block later unique asked out true = refl
    by_fields unread skipped_block later unique asked out false = refl
