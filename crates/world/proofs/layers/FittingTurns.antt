-- A call that a session hands out fits, and suits its target.
use Rattle.std.proofs.Common.{◌≡◌, ℕ, ◌+◌, ◌-◌, ◌≤◌, Bool, true, false, List, [], ◌∷◌, length, take, drop, Option, Some}
use Rattle.std.proofs.Common.{None, refl, arith}
use Rattle.std.specs.Prelude.{nat_lt, nat_le, ◌==◌, ◌&&◌, slice_index}
use Rattle.std.specs.List.{slice_range}
use Rattle.std.specs.Str.{bytes_eq}
use Rattle.std.specs.Option.{option_and_then, option_map}
use Rattle.std.proofs.lemmas.Bool.{cond_both, ltb-false}
use Rattle.std.proofs.lemmas.List.{length-take}
use Rattle.table.specs.Items.{limit}
use Rattle.table.specs.Operations.{Fits, is_flush}
use Rattle.table.specs.declared.operations.Call.{Call}
use Rattle.table.specs.declared.operations.Op.TheVariants as ops
use Rattle.proto.specs.Words.{cr, crlf, line_limit, first_lf, fields_of}
use Rattle.proto.specs.Keys.{key_of}
use Rattle.proto.specs.Requests.{word_of, silence_of, storage_line, counter_line, fate_of, block_of, asked_of}
use Rattle.proto.specs.Requests.{or_misfit, by_word, by_fields, by_line, by_end, asked_at}
use Rattle.proto.specs.Verbs.{op_of}
use Rattle.proto.specs.Fronts.{finished, completed, by_asked, front, refused_at, found_of, found_at}
use Rattle.proto.specs.declared.requests.Fault.TheVariants.{Command}
use Rattle.proto.specs.declared.requests.Request.{Request}
use Rattle.proto.specs.declared.requests.Request.TheVariants.{Store, Get, Arith, Delete, Flush, Quit, Bad}
use Rattle.proto.specs.declared.lines.Asked.{Asked}
use Rattle.proto.specs.declared.lines.Asked.TheVariants.{Whole, Behind}
use Rattle.proto.specs.declared.storage.StorageLine.{StorageLine}
use Rattle.proto.specs.declared.commands.CounterLine.{CounterLine}
use Rattle.proto.specs.declared.storage.Fate.{Fate}
use Rattle.proto.specs.declared.storage.Fate.TheVariants.{Put, Refuse}
use Rattle.proto.specs.declared.words.Word.{Word}
use Rattle.proto.specs.declared.words.Word.TheVariants as words
use Rattle.proto.specs.declared.storage.Verb.{Verb}
use Rattle.proto.specs.declared.storage.Verb.TheVariants as verbs
use Rattle.proto.specs.declared.skipped_blocks.SkippedBlock.{SkippedBlock}
use Rattle.proto.specs.declared.front.Found.{Found}
use Rattle.proto.specs.declared.front.Found.TheVariants.{Request as Requested, Refused, Nothing}
use Rattle.proto.specs.declared.texts.Form.{Form}
use Rattle.proto.specs.Turns.{Faulty, Calls}
use Rattle.proto.specs.Sessions.{Held, Given, by_keys, by_request, by_found, by_skipped_block, by_later, next_of}
use Rattle.node.specs.Lawful.{IsCall}

-- ---- what a line asks for

-- an operation on one key, whose data is within the limit
abbrev pub IsSafeRequest : Request → Type 0
IsSafeRequest (Store key op silent) = Fits op × (is_flush op ≡ false)
IsSafeRequest (Arith key op silent) = Fits op × (is_flush op ≡ false)
IsSafeRequest (Get keys unique) = Unit {0}
IsSafeRequest (Delete key silent) = Unit {0}
IsSafeRequest (Flush silent) = Unit {0}
IsSafeRequest Quit = Unit {0}
IsSafeRequest (Bad fault) = Unit {0}

-- a block that is to be put has data within the limit
abbrev pub IsSafeFate : Fate → ℕ → Type 0
IsSafeFate (Put key verb silent) size = size ≤ limit
IsSafeFate (Refuse fault) size = Unit {0}

-- what a line asks, alone or with the block after it, has data within the limit
abbrev pub IsSafe : Asked → Type 0
IsSafe (Whole request) = IsSafeRequest request
IsSafe (Behind block) = IsSafeFate block.fate block.size

-- what a line asks, if it asks for anything, has data within the limit
abbrev pub IfSafe : Option Asked → Type 0
IfSafe None = Unit {0}
IfSafe (Some asked) = IsSafe asked

fate_safe : (key : List ℕ) (line : StorageLine) → IsSafeFate (fate_of key line) line.size
fate_safe key line =
    cond_both (nat_lt limit line.size) _ _ (λ fate. IsSafeFate fate line.size) (λ t. tt) (λ f.
    cond_both line.expires _ _ (λ fate. IsSafeFate fate line.size) (λ t. tt) (λ g. ltb-false limit line.size f))

store_safe : (o : Option StorageLine) (k : Option (List ℕ))
    → IfSafe (option_map Behind (option_and_then (λ line. option_and_then (λ key. Some (block_of key line)) k) o))
store_safe None k = tt
store_safe (Some line) None = tt
store_safe (Some line) (Some key) = fate_safe key line

get_safe : (unique : Bool) (o : Option (List (List ℕ)))
    → IfSafe (option_map Whole (option_map (λ keys. Get keys unique) o))
get_safe unique None = tt
get_safe unique (Some keys) = tt

flush_safe : (o : Option Bool) → IfSafe (option_map Whole (option_map Flush o))
flush_safe None = tt
flush_safe (Some silent) = tt

incr_safe : (o : Option CounterLine)
    → IfSafe (option_map (λ line. Whole (Arith line.key (ops.Incr line.amount) line.silent)) o)
incr_safe None = tt
incr_safe (Some line) = (tt, refl)

decr_safe : (o : Option CounterLine)
    → IfSafe (option_map (λ line. Whole (Arith line.key (ops.Decr line.amount) line.silent)) o)
decr_safe None = tt
decr_safe (Some line) = (tt, refl)

delete_safe : (o : Option Bool) (k : Option (List ℕ))
    → IfSafe (option_map Whole (option_and_then (λ silent. option_and_then (λ key. Some (Delete key silent)) k) o))
delete_safe None k = tt
delete_safe (Some silent) None = tt
delete_safe (Some silent) (Some key) = tt

asked_safe : (word : Word) (fields : List (List ℕ)) → IfSafe (asked_of word fields)
asked_safe words.Get fields = get_safe false _
asked_safe words.Gets fields = get_safe true _
asked_safe (words.Store storing) [] = tt
asked_safe (words.Store storing) (key ∷ fields) = store_safe (storage_line storing fields) (key_of key)
asked_safe words.Incr fields = incr_safe (counter_line fields)
asked_safe words.Decr fields = decr_safe (counter_line fields)
asked_safe words.Delete [] = tt
asked_safe words.Delete (key ∷ fields) = delete_safe (silence_of fields) (key_of key)
asked_safe words.FlushAll fields = flush_safe (silence_of fields)
asked_safe words.Quit [] = tt
asked_safe words.Quit (field ∷ fields) = tt

misfit_safe : (o : Option Asked) → IfSafe o → IsSafe (or_misfit o)
misfit_safe None h = tt
misfit_safe (Some asked) h = h

word_safe : (word : Option Word) (fields : List (List ℕ)) → IsSafe (by_word word fields)
word_safe None fields = tt
word_safe (Some word) fields = misfit_safe (asked_of word fields) (asked_safe word fields)

fields_safe : (fields : List (List ℕ)) → IsSafe (by_fields fields)
fields_safe [] = tt
fields_safe (field ∷ fields) = word_safe (word_of field) fields

line_safe : (line : List ℕ) → IsSafe (by_line line)
line_safe line =
    let fields = fields_of (take (length line - 1) line) in
    cond_both (nat_le 1 (length line) && slice_index line (length line - 1) == cr) (by_fields fields)
    (Whole (Bad Command)) (λ asked. IsSafe asked) (λ t. fields_safe fields) (λ f. tt)

-- what a remembered line asks, if there is one, has data within the limit
abbrev pub IsSafeLine : Option (Asked × ℕ) → Type 0
IsSafeLine None = Unit {0}
IsSafeLine (Some line) = IsSafe line.0

end_safe : (most : ℕ) (bytes : List ℕ) (at : Option ℕ) → IsSafeLine (by_end most bytes at)
end_safe most bytes None = cond_both (nat_le most (length bytes)) _ _ (λ line. IsSafeLine line) (λ t. tt) (λ f. tt)
end_safe most bytes (Some i) = line_safe (take i bytes)

-- ---- what stands at the front

op_fits : (verb : Verb) (block : List ℕ)
    → length block ≤ limit
    → Fits (op_of verb block) × (is_flush (op_of verb block) ≡ false)
op_fits (verbs.Set flags) block h = (h, refl)
op_fits (verbs.Add flags) block h = (h, refl)
op_fits (verbs.Replace flags) block h = (h, refl)
op_fits verbs.Append block h = (h, refl)
op_fits verbs.Prepend block h = (h, refl)
op_fits (verbs.Cas flags unique) block h = (h, refl)

finished_safe : (fate : Fate) (size : ℕ) (block ends : List ℕ)
    → IsSafeFate fate size
    → length block ≤ size
    → IsSafeRequest (finished fate block ends)
finished_safe (Refuse fault) size block ends h l = tt
finished_safe (Put key verb silent) size block ends h l =
    cond_both (bytes_eq ends crlf) _ _ (λ request. IsSafeRequest request)
    (λ t. op_fits verb block (omega arith)) (λ f. tt)

-- the request at the front, if there is one, has data within the limit
abbrev pub IsSafeFront : Option (Request × ℕ) → Type 0
IsSafeFront None = Unit {0}
IsSafeFront (Some front) = IsSafeRequest front.0

block_length : (n size : ℕ) (bytes : List ℕ) → length (slice_range bytes n (n + size)) ≤ size
block_length n size bytes = (let l = length-take (n + size - n) (drop n bytes) in omega (arith, l))

completed_safe : (bytes : List ℕ) (asked : Asked) (n : ℕ) → IsSafe asked → IsSafeFront (completed bytes asked n)
completed_safe bytes (Whole request) n h = h
completed_safe bytes (Behind block) n h =
    cond_both (nat_lt (length bytes) (n + block.size + 2)) _ _ (λ front. IsSafeFront front) (λ t. tt) (λ f.
    finished_safe block.fate block.size _ _ h (block_length n block.size bytes))

asked_front : (bytes : List ℕ) (line : Option (Asked × ℕ)) → IsSafeLine line → IsSafeFront (by_asked bytes line)
asked_front bytes None h = tt
asked_front bytes (Some line) h = completed_safe bytes line.0 line.1 h

front_safe : (bytes : List ℕ) → IsSafeFront (front bytes)
front_safe bytes = asked_front bytes (asked_at bytes) (end_safe line_limit bytes (first_lf (take line_limit bytes)))

-- what is found at the front, if it is a request, has data within the limit
abbrev pub IsSafeFound : Found → Type 0
IsSafeFound (Requested request n) = IsSafeRequest request
IsSafeFound (Refused skipped_block) = Unit {0}
IsSafeFound Nothing = Unit {0}

found_safe : (o : Option (Request × ℕ)) (refused : Option SkippedBlock) → IsSafeFront o
    → IsSafeFound (found_of o refused)
found_safe (Some front) refused h = h
found_safe None (Some skipped_block) h = tt
found_safe None None h = tt

-- ---- the next turn

-- a turn that is given, if it is a call, fits and suits its target
abbrev pub HasCall : Given → Type 0
HasCall (None, left) = Unit {0}
HasCall (Some (Faulty fault), left) = Unit {0}
HasCall (Some (Calls call form), left) = IsCall call

keys_fit : (keys : List (List ℕ)) (unique : Bool) (h : Held) → HasCall (by_keys keys unique h)
keys_fit [] unique h = tt
keys_fit (key ∷ keys) unique h = (tt, refl)

request_fits : (request : Request) (h : Held) → IsSafeRequest request → HasCall (by_request request h)
request_fits (Store key op silent) h s = s
request_fits (Get keys unique) h s = keys_fit keys unique h
request_fits (Arith key op silent) h s = s
request_fits (Delete key silent) h s = (tt, refl)
request_fits (Flush silent) h s = (tt, refl)
request_fits Quit h s = tt
request_fits (Bad fault) h s = tt

found_fits : (found : Found) (h : Held) → IsSafeFound found → HasCall (by_found found h)
found_fits (Requested request n) h s = request_fits request _ s
found_fits (Refused skipped_block) h s = tt
found_fits Nothing h s = tt

skipped_block_fits : (skipped_block : Option SkippedBlock) (h : Held) → HasCall (by_skipped_block skipped_block h)
skipped_block_fits None h =
    found_fits (found_at h.unread) h (found_safe (front h.unread) (refused_at h.unread) (front_safe h.unread))
skipped_block_fits (Some p) h = cond_both (p.left == 0) _ _ (λ given. HasCall given) (λ t. tt) (λ f. tt)

later_fits : (keys : List (List ℕ)) (h : Held) → HasCall (by_later keys h)
later_fits [] h = skipped_block_fits h.skipped_block h
later_fits (key ∷ keys) h = keys_fit (key ∷ keys) h.unique h

turn_fits : (h : Held) → HasCall (next_of h)
turn_fits h = cond_both h.closed _ _ (λ given. HasCall given) (λ t. tt) (λ f. later_fits h.later h)

same_call : (c call : Call) (f form : Form) → Some (Calls c f) ≡ Some (Calls call form) → c ≡ call
same_call c call f form e = cc

call_fits : (given : Given) (call : Call) (form : Form) → HasCall given → given.0 ≡ Some (Calls call form) → IsCall call
call_fits (None, left) call form h e = absurd cc
call_fits (Some (Faulty fault), left) call form h e = absurd cc
call_fits (Some (Calls c f), left) call form h e = rw (← same_call c call f form e) h

-- a call that a session hands out next fits, and suits its target
pub next_fits : (h : Held) (call : Call) (form : Form) → (next_of h).0 ≡ Some (Calls call form) → IsCall call
next_fits h call form e = call_fits (next_of h) call form (turn_fits h) e
