-- The request grammar: which bytes spell which request, by the protocol's cases.
use Rattle.std.specs.Prelude.{◌≡◌, ◌≢◌, ℕ, ◌^◌, ◌≤◌, ◌<◌, ◌⊎◌, Bool, true, false, not, ◌==◌, ◌&&◌, IsTrue}
use Rattle.std.specs.Prelude.{if◌then◌else◌, List, [], ◌∷◌, ◌++◌, length, Some, codes}
use Rattle.std.specs.List.{list_all, join_with_byte}
use Rattle.table.specs.Keys.{IsKey, is_key}
use Rattle.table.specs.Items.{limit}
use Rattle.table.specs.Numbers.{number_of}
use Rattle.table.specs.declared.operations.Op.TheVariants as ops
use Rattle.proto.specs.Words.{lf, cr, space, crlf, line_limit, noreply_word, is_exptime, is_zero}
use Rattle.proto.specs.Verbs.{op_of}
use Rattle.proto.specs.declared.requests.Fault.TheVariants.{Command, Format, DataChunk, TooLarge, LineTooLong, Expiry}
use Rattle.proto.specs.declared.requests.Request.{Request}
use Rattle.proto.specs.declared.requests.Request.TheVariants as requests
use Rattle.proto.specs.declared.words.Word.{Word}
use Rattle.proto.specs.declared.words.Word.TheVariants.{Get, Gets, Store, Incr, Decr, Delete, FlushAll, Quit}
use Rattle.proto.specs.declared.words.Storing.{Storing}
use Rattle.proto.specs.declared.words.Storing.TheVariants.{Set, Add, Replace, Append, Prepend, Cas}
use Rattle.proto.specs.declared.storage.Verb.{Verb}
use Rattle.proto.specs.declared.storage.Verb.TheVariants as verbs
use Rattle.proto.specs.declared.storage.StorageLine.{StorageLine}

-- no LF among the bytes
abbrev pub has_no_lf : List ℕ → Bool
has_no_lf bytes = list_all (λ b. not (b == lf)) bytes

-- a field: no space and no LF in it
abbrev pub is_field : List ℕ → Bool
is_field bytes = list_all (λ b. not (b == space) && not (b == lf)) bytes

-- A line of these fields, the command word first: one space between each two, CR LF at the end, and no more bytes than
-- a line may have.
pub record IsLine (fields : List (List ℕ)) (bytes : List ℕ) : Type 0 where
  pub spelled : bytes ≡ join_with_byte space fields ++ crlf
  pub separate : IsTrue (list_all is_field fields)
  pub short : length bytes ≤ line_limit

-- the command words
abbrev pub spelling : Word → List ℕ
spelling Get = codes "get"
spelling Gets = codes "gets"
spelling (Store Set) = codes "set"
spelling (Store Add) = codes "add"
spelling (Store Replace) = codes "replace"
spelling (Store Append) = codes "append"
spelling (Store Prepend) = codes "prepend"
spelling (Store Cas) = codes "cas"
spelling Incr = codes "incr"
spelling Decr = codes "decr"
spelling Delete = codes "delete"
spelling FlushAll = codes "flush_all"
spelling Quit = codes "quit"

-- the word of a `get` that shows uniques or doesn't
abbrev pub get_word : Bool → Word
get_word unique = if unique then Gets else Get

-- `noreply` at the end of a silent line, and nothing at that of another
abbrev pub noreply : Bool → List (List ℕ)
noreply silent = if silent then noreply_word ∷ [] else []

-- get, gets: keys, one at least
pub record AreKeys (fields : List (List ℕ)) : Type 0 where
  pub some : 1 ≤ length fields
  pub each : IsTrue (list_all is_key fields)

-- What a storage word makes of the flags, and of the fields between the size and `noreply`: there `cas` has a unique,
-- and the others nothing.
-- An append and a prepend leave an item's flags.
abbrev pub IsVerb : Storing → ℕ → List (List ℕ) → Verb → Type 0
IsVerb Set flags own verb = (own ≡ []) × (verb ≡ verbs.Set flags)
IsVerb Add flags own verb = (own ≡ []) × (verb ≡ verbs.Add flags)
IsVerb Replace flags own verb = (own ≡ []) × (verb ≡ verbs.Replace flags)
IsVerb Append flags own verb = (own ≡ []) × (verb ≡ verbs.Append)
IsVerb Prepend flags own verb = (own ≡ []) × (verb ≡ verbs.Prepend)
IsVerb Cas flags own verb = (field : List ℕ) × (unique : ℕ) × (own ≡ field ∷ [])
    × (number_of (2 ^ 64) field ≡ Some unique) × (verb ≡ verbs.Cas flags unique)

-- set, add, replace, append, prepend: key flags exptime bytes [noreply]; cas: key flags exptime bytes unique [noreply]
pub record AreStorage (storing : Storing) (fields : List (List ℕ)) (key : List ℕ) (line : StorageLine) : Type 0 where
  pub flags_field : List ℕ
  pub exptime : List ℕ
  pub size_field : List ℕ
  pub own : List (List ℕ)
  pub flags : ℕ
  pub fields_are : fields ≡ key ∷ flags_field ∷ exptime ∷ size_field ∷ (own ++ noreply line.silent)
  pub key_is : IsKey key
  pub flags_is : number_of (2 ^ 32) flags_field ≡ Some flags
  pub exptime_is : IsTrue (is_exptime exptime)
  pub expires_is : line.expires ≡ not (is_zero exptime)
  pub size_is : number_of (2 ^ 32) size_field ≡ Some line.size
  pub verb_is : IsVerb storing flags own line.verb

-- incr, decr: key value [noreply]
pub record AreCounter (fields : List (List ℕ)) (key : List ℕ) (amount : ℕ) (silent : Bool) : Type 0 where
  pub amount_field : List ℕ
  pub fields_are : fields ≡ key ∷ amount_field ∷ noreply silent
  pub key_is : IsKey key
  pub amount_is : number_of (2 ^ 64) amount_field ≡ Some amount

-- delete: key [noreply]
pub record AreDelete (fields : List (List ℕ)) (key : List ℕ) (silent : Bool) : Type 0 where
  pub fields_are : fields ≡ key ∷ noreply silent
  pub key_is : IsKey key

-- the fields fit the command
abbrev pub Fitting : Word → List (List ℕ) → Type 0
Fitting Get fields = AreKeys fields
Fitting Gets fields = AreKeys fields
Fitting (Store storing) fields = (key : List ℕ) × (line : StorageLine) × AreStorage storing fields key line
Fitting Incr fields = (key : List ℕ) × (amount : ℕ) × (silent : Bool) × AreCounter fields key amount silent
Fitting Decr fields = (key : List ℕ) × (amount : ℕ) × (silent : Bool) × AreCounter fields key amount silent
Fitting Delete fields = (key : List ℕ) × (silent : Bool) × AreDelete fields key silent
Fitting FlushAll fields = (silent : Bool) × (fields ≡ noreply silent)
Fitting Quit fields = fields ≡ []

-- A storage line with its data block after it, and two bytes more.
pub record IsBlock (key : List ℕ) (line : StorageLine) (block ends bytes : List ℕ) : Type 0 where
  pub storing : Storing
  pub fields : List (List ℕ)
  pub text : List ℕ
  pub is_line : IsLine (spelling (Store storing) ∷ fields) text
  pub are_storage : AreStorage storing fields key line
  pub size_is : length block ≡ line.size
  pub two : length ends ≡ 2
  pub spelled : bytes ≡ text ++ block ++ ends

-- a storage line, its block and two bytes more, of which this is so
abbrev pub HasBlock : (StorageLine → List ℕ → List ℕ → Type 0) → List ℕ → Type 0
HasBlock IsSo bytes = (key : List ℕ) × (line : StorageLine) × (block : List ℕ) × (ends : List ℕ)
    × IsBlock key line block ends bytes × IsSo line block ends

-- a line feed with no CR before it, within the bytes that a line may have
pub record IsBareLine (bytes : List ℕ) : Type 0 where
  pub text : List ℕ
  pub ends : bytes ≡ text ++ lf ∷ []
  pub single : IsTrue (has_no_lf text)
  pub bare : (front : List ℕ) → text ≢ front ++ cr ∷ []
  pub short : length bytes ≤ line_limit

-- a line whose first field is no command word
abbrev pub IsUnknown : List ℕ → Type 0
IsUnknown bytes = (field : List ℕ) × (fields : List (List ℕ)) × IsLine (field ∷ fields) bytes
    × ((word : Word) → field ≢ spelling word)

-- a command whose fields don't fit it
abbrev pub IsMisfit : List ℕ → Type 0
IsMisfit bytes =
    (word : Word) × (fields : List (List ℕ)) × IsLine (spelling word ∷ fields) bytes × (Fitting word fields → ⊥)

-- these bytes, and no fewer, spell the request
abbrev pub Spells : Request → List ℕ → Type 0
-- get <key>*, gets <key>*
Spells (requests.Get keys unique) bytes = IsLine (spelling (get_word unique) ∷ keys) bytes × AreKeys keys
-- a storage line without an expiry time, and a block of data within the limit, with CR LF after it
Spells (requests.Store key op silent) bytes =
    (line : StorageLine) × (block : List ℕ) × IsBlock key line block crlf bytes × (length block ≤ limit)
    × (line.expires ≡ false)
    × (op_of line.verb block ≡ op) × (line.silent ≡ silent)
-- incr <key> <value>, decr <key> <value>
Spells (requests.Arith key (ops.Incr amount) silent) bytes =
    (fields : List (List ℕ)) × IsLine (spelling Incr ∷ fields) bytes × AreCounter fields key amount silent
Spells (requests.Arith key (ops.Decr amount) silent) bytes =
    (fields : List (List ℕ)) × IsLine (spelling Decr ∷ fields) bytes × AreCounter fields key amount silent
Spells (requests.Arith key other silent) bytes = ⊥
-- delete <key>
Spells (requests.Delete key silent) bytes =
    (fields : List (List ℕ)) × IsLine (spelling Delete ∷ fields) bytes × AreDelete fields key silent
-- flush_all
Spells (requests.Flush silent) bytes = IsLine (spelling FlushAll ∷ noreply silent) bytes
-- quit
Spells requests.Quit bytes = IsLine (spelling Quit ∷ []) bytes
Spells (requests.Bad Command) bytes = IsBareLine bytes ⊎ IsUnknown bytes
Spells (requests.Bad Format) bytes = IsMisfit bytes
-- a block that is too large is passed over, whatever its expiry time and its last two bytes
Spells (requests.Bad TooLarge) bytes = HasBlock (λ line block ends. limit < length block) bytes
-- and so is one with an expiry time, whatever its last two bytes
Spells (requests.Bad Expiry) bytes = HasBlock (λ line block ends. (length block ≤ limit) × (line.expires ≡ true)) bytes
-- data that CR LF doesn't follow
Spells (requests.Bad DataChunk) bytes =
    HasBlock (λ line block ends. (length block ≤ limit) × (line.expires ≡ false) × (ends ≢ crlf)) bytes
Spells (requests.Bad LineTooLong) bytes = (length bytes ≡ line_limit) × IsTrue (has_no_lf bytes)
