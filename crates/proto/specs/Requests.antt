-- What the line at the front of a stream asks for, as a function.
use Rattle.std.specs.Prelude.{ℕ, ◌+◌, ◌-◌, ◌^◌, Bool, true, false, ◌&&◌, nat_lt, nat_le, ◌==◌, List, [], ◌∷◌, length}
use Rattle.std.specs.Prelude.{take, Option, None, Some, if◌then◌else◌, slice_index, codes}
use Rattle.std.specs.Option.{option_and_then, option_map}
use Rattle.std.specs.Str.{bytes_eq}
use Rattle.table.specs.Items.{limit}
use Rattle.table.specs.Numbers.{number_of}
use Rattle.table.specs.declared.operations.Op.TheVariants as ops
use Rattle.proto.specs.Words.{cr, line_limit, first_lf, fields_of, noreply_word, expiry_of}
use Rattle.proto.specs.Keys.{key_of, keys_of}
use Rattle.proto.specs.declared.requests.Fault.TheVariants.{Command, Format, TooLarge, LineTooLong, Expiry}
use Rattle.proto.specs.declared.requests.Request.{Request}
use Rattle.proto.specs.declared.requests.Request.TheVariants as requests
use Rattle.proto.specs.declared.words.Word.{Word}
use Rattle.proto.specs.declared.words.Word.TheVariants.{Get, Gets, Store, Incr, Decr, Delete, FlushAll, Quit}
use Rattle.proto.specs.declared.words.Storing.{Storing}
use Rattle.proto.specs.declared.words.Storing.TheVariants.{Set, Add, Replace, Append, Prepend, Cas}
use Rattle.proto.specs.declared.storage.Verb.{Verb}
use Rattle.proto.specs.declared.storage.Verb.TheVariants as verbs
use Rattle.proto.specs.declared.storage.StorageLine.{StorageLine}
use Rattle.proto.specs.declared.commands.CounterLine.{CounterLine}
use Rattle.proto.specs.declared.lines.Asked.{Asked}
use Rattle.proto.specs.declared.lines.Asked.TheVariants.{Whole, Behind}
use Rattle.proto.specs.declared.storage.Block.{Block}
use Rattle.proto.specs.declared.storage.Fate.{Fate}
use Rattle.proto.specs.declared.storage.Fate.TheVariants.{Put, Refuse}

-- what is found is handed to what follows
abbrev pub ◌>>=◌ : {A B : Type 0} → Option A → (A → Option B) → Option B
◌>>=◌ found next = option_and_then next found

-- the command word that a field is, if it is one
abbrev pub word_of : List ℕ → Option Word
word_of field =
    if bytes_eq field (codes "get") then Some Get
    else if bytes_eq field (codes "gets") then Some Gets
    else if bytes_eq field (codes "set") then Some (Store Set)
    else if bytes_eq field (codes "add") then Some (Store Add)
    else if bytes_eq field (codes "replace") then Some (Store Replace)
    else if bytes_eq field (codes "append") then Some (Store Append)
    else if bytes_eq field (codes "prepend") then Some (Store Prepend)
    else if bytes_eq field (codes "cas") then Some (Store Cas)
    else if bytes_eq field (codes "incr") then Some Incr
    else if bytes_eq field (codes "decr") then Some Decr
    else if bytes_eq field (codes "delete") then Some Delete
    else if bytes_eq field (codes "flush_all") then Some FlushAll
    else if bytes_eq field (codes "quit") then Some Quit
    else None

-- whether the reply is silent, by the fields at the end of a line: `noreply` or nothing
abbrev pub silence_of : List (List ℕ) → Option Bool
silence_of [] = Some false
silence_of (field ∷ []) = if bytes_eq field noreply_word then Some true else None
silence_of (field ∷ next ∷ fields) = None

-- the verb of a storage word, of the flags of its line and of the fields after the size; and the fields that are left.
-- Only a `cas` has a field of its own there: a unique. An append and a prepend leave an item's flags.
abbrev pub verb_of : Storing → ℕ → List (List ℕ) → Option (Verb × List (List ℕ))
verb_of Set flags fields = Some (verbs.Set flags, fields)
verb_of Add flags fields = Some (verbs.Add flags, fields)
verb_of Replace flags fields = Some (verbs.Replace flags, fields)
verb_of Append flags fields = Some (verbs.Append, fields)
verb_of Prepend flags fields = Some (verbs.Prepend, fields)
verb_of Cas flags [] = None
verb_of Cas flags (field ∷ fields) = option_map (λ unique. (verbs.Cas flags unique, fields)) (number_of (2 ^ 64) field)

-- what stands after the key of a storage line: flags exptime bytes, for a `cas` a unique, then `noreply` or nothing
-- (protocol.txt, "Storage commands")
abbrev pub storage_line : Storing → List (List ℕ) → Option StorageLine
storage_line storing (flags ∷ exptime ∷ size ∷ fields) = do
  flags ← number_of (2 ^ 32) flags
  expires ← expiry_of exptime
  size ← number_of (2 ^ 32) size
  (verb, fields) ← verb_of storing flags fields
  silent ← silence_of fields
  Some (record { verb = verb; expires = expires; size = size; silent = silent })
storage_line storing fields = None

-- what becomes of a block of such a line: it is refused for its size first, then for an expiry time
abbrev pub fate_of : List ℕ → StorageLine → Fate
fate_of key line =
    if nat_lt limit line.size then Refuse TooLarge
    else if line.expires then Refuse Expiry
    else Put key line.verb line.silent

-- the block after such a line: its size, and what becomes of it
abbrev pub block_of : List ℕ → StorageLine → Block
block_of key line = record { size = line.size; fate = fate_of key line }

-- the fields of a storage line: a key, then what stands after it
abbrev pub store_line : Storing → List (List ℕ) → Option Block
store_line storing [] = None
store_line storing (key ∷ fields) = do
  line ← storage_line storing fields
  key ← key_of key
  Some (block_of key line)

-- one key at least, and nothing else (protocol.txt, "Retrieval command")
abbrev pub get_line : Bool → List (List ℕ) → Option Request
get_line unique fields = option_map (λ keys. requests.Get keys unique) (keys_of fields)

-- key value, then `noreply` or nothing (protocol.txt, "Increment/Decrement")
abbrev pub counter_line : List (List ℕ) → Option CounterLine
counter_line (key ∷ amount ∷ fields) = do
  amount ← number_of (2 ^ 64) amount
  silent ← silence_of fields
  key ← key_of key
  Some (record { key = key; amount = amount; silent = silent })
counter_line fields = None

-- key, then `noreply` or nothing (protocol.txt, "Deletion")
abbrev pub delete_line : List (List ℕ) → Option Request
delete_line [] = None
delete_line (key ∷ fields) = do
  silent ← silence_of fields
  key ← key_of key
  Some (requests.Delete key silent)

-- `noreply` or nothing: a delay is not supported (protocol.txt, "flush_all")
abbrev pub flush_line : List (List ℕ) → Option Request
flush_line fields = option_map requests.Flush (silence_of fields)

-- nothing (protocol.txt, "quit")
abbrev pub quit_line : List (List ℕ) → Option Request
quit_line [] = Some requests.Quit
quit_line (field ∷ fields) = None

-- what a command asks for, if these fields fit it
abbrev pub asked_of : Word → List (List ℕ) → Option Asked
asked_of Get fields = option_map Whole (get_line false fields)
asked_of Gets fields = option_map Whole (get_line true fields)
asked_of (Store storing) fields = option_map Behind (store_line storing fields)
asked_of Incr fields =
    option_map (λ line. Whole (requests.Arith line.key (ops.Incr line.amount) line.silent)) (counter_line fields)
asked_of Decr fields =
    option_map (λ line. Whole (requests.Arith line.key (ops.Decr line.amount) line.silent)) (counter_line fields)
asked_of Delete fields = option_map Whole (delete_line fields)
asked_of FlushAll fields = option_map Whole (flush_line fields)
asked_of Quit fields = option_map Whole (quit_line fields)

-- what the line asks for, or the fault of a command whose fields don't fit it
abbrev pub or_misfit : Option Asked → Asked
or_misfit None = Whole (requests.Bad Format)
or_misfit (Some asked) = asked

-- by the command word that the first field is, or is not
abbrev pub by_word : Option Word → List (List ℕ) → Asked
by_word None fields = Whole (requests.Bad Command)
by_word (Some word) fields = or_misfit (asked_of word fields)

-- a line by its fields, the command word first
abbrev pub by_fields : List (List ℕ) → Asked
by_fields [] = Whole (requests.Bad Command)
by_fields (field ∷ fields) = by_word (word_of field) fields

-- a line without its LF: its text is what stands before a CR, and without a CR it asks for nothing known
abbrev pub by_line : List ℕ → Asked
by_line line =
    if nat_le 1 (length line) && slice_index line (length line - 1) == cr then by_fields
    (fields_of (take (length line - 1) line))
    else Whole (requests.Bad Command)

-- by the place of the first LF: what the line asks for, and how many bytes it has
abbrev pub by_end : ℕ → List ℕ → Option ℕ → Option (Asked × ℕ)
by_end most bytes None = if nat_le most (length bytes) then Some (Whole (requests.Bad LineTooLong), most) else None
by_end most bytes (Some i) = Some (by_line (take i bytes), i + 1)

-- the same for a given limit on the length of a line, if the line is complete
abbrev pub asked_within : ℕ → List ℕ → Option (Asked × ℕ)
asked_within most bytes = by_end most bytes (first_lf (take most bytes))

-- what the line at the front asks for, and how many bytes it has, if it is whole
abbrev pub asked_at : List ℕ → Option (Asked × ℕ)
asked_at bytes = asked_within line_limit bytes
