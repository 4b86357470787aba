-- What a line asks for, by its command word and its fields.
use Rattle.std.proofs.Common.{◌≡◌, ◌≢◌, ℕ, ◌≤◌, inr, Bool, true, false, cond, List, [], ◌∷◌, ◌++◌, length, Option, None}
use Rattle.std.proofs.Common.{Some, refl, ap, sym, ◌∙◌, subst, arith, nat_le}
use Rattle.std.specs.Prelude.{◌^◌, ◌&&◌, not, IsTrue}
use Rattle.std.specs.List.{list_all}
use Rattle.std.specs.Option.{option_and_then, option_map}
use Rattle.std.specs.Str.{bytes_eq}
use Rattle.std.proofs.lemmas.Bool.{and_parts, and_from, leb-true, le-leb, cond-true}
use Rattle.std.proofs.lemmas.Slice.Eq.{bytes_eq-Decides}
use Rattle.table.specs.Keys.{IsKey, is_key}
use Rattle.table.specs.Numbers.{number_of}
use Rattle.table.specs.declared.operations.Op.TheVariants as ops
use Rattle.proto.specs.Words.{noreply_word, is_exptime, is_zero, expiry_of}
use Rattle.proto.specs.Keys.{key_of, keys_of}
use Rattle.proto.specs.declared.requests.Request.{Request}
use Rattle.proto.specs.declared.requests.Request.TheVariants as requests
use Rattle.proto.specs.declared.words.Word.{Word}
use Rattle.proto.specs.declared.words.Word.TheVariants.{Get, Gets, Store, Incr, Decr, Delete, FlushAll, Quit}
use Rattle.proto.specs.declared.words.Storing.{Storing}
use Rattle.proto.specs.declared.words.Storing.TheVariants.{Set, Add, Replace, Append, Prepend, Cas}
use Rattle.proto.specs.declared.storage.Verb.{Verb}
use Rattle.proto.specs.declared.storage.StorageLine.{StorageLine}
use Rattle.proto.specs.declared.commands.CounterLine.{CounterLine}
use Rattle.proto.specs.declared.lines.Asked.{Asked}
use Rattle.proto.specs.declared.lines.Asked.TheVariants.{Whole, Behind}
use Rattle.proto.specs.declared.storage.Block.{Block}
use Rattle.proto.specs.Requests.{word_of, silence_of, verb_of, storage_line, store_line, block_of, get_line}
use Rattle.proto.specs.Requests.{counter_line, delete_line, flush_line, asked_of, or_misfit, by_word, by_fields}
use Rattle.proto.specs.Grammar.{IsLine, spelling, get_word, noreply, AreKeys, IsVerb, AreStorage, AreCounter, AreDelete}
use Rattle.proto.specs.Grammar.{Fitting, Spells}

-- what was handed on, and what came of it
then_parts : {A B : Type 0} (f : A → Option B) (o : Option A) (y : B)
    → option_and_then f o ≡ Some y
    → (x : A) × (o ≡ Some x) × (f x ≡ Some y)
then_parts f None y e = cc
then_parts f (Some x) y e = (x, refl, e)

map_parts : {A B : Type 0} (f : A → B) (o : Option A) (y : B)
    → option_map f o ≡ Some y
    → (x : A) × (o ≡ Some x) × (f x ≡ y)
map_parts f None y e = cc
map_parts f (Some x) y e = (x, refl, cc)

-- a key, and no other field, is its own
key_spelled : (field key : List ℕ) → key_of field ≡ Some key → (field ≡ key) × IsKey key
key_spelled field key e = by_test (is_key field) refl e
  where
    by_test : (b : Bool) → is_key field ≡ b → cond b (Some field) None ≡ Some key → (field ≡ key) × IsKey key
    by_test true is found = let same : field ≡ key = cc in (same, subst IsKey same is)
    by_test false is none = cc

key_found : (key : List ℕ) → IsKey key → key_of key ≡ Some key
key_found key h = cond-true _ _ _ h

-- an expiry time is one of the two
expiry_spelled : (field : List ℕ) (expires : Bool)
    → expiry_of field ≡ Some expires
    → IsTrue (is_exptime field) × (expires ≡ not (is_zero field))
expiry_spelled field expires e = by_test (is_exptime field) refl e
  where
    by_test : (b : Bool)
        → is_exptime field ≡ b
        → cond b (Some (not (is_zero field))) None ≡ Some expires
        → IsTrue (is_exptime field) × (expires ≡ not (is_zero field))
    by_test true is found = (is, cc)
    by_test false is none = cc

expiry_found : (field : List ℕ) (expires : Bool)
    → IsTrue (is_exptime field)
    → expires ≡ not (is_zero field)
    → expiry_of field ≡ Some expires
expiry_found field expires h e = cond-true _ _ _ h ∙ ap (λ b. Some b) (sym e)

-- `noreply` or nothing
silence_spelled : (fields : List (List ℕ)) (silent : Bool) → silence_of fields ≡ Some silent → fields ≡ noreply silent
silence_spelled [] true e = cc
silence_spelled [] false e = refl
silence_spelled (field ∷ []) silent e = by_test (bytes_eq field noreply_word) refl e
  where
    by_test : (b : Bool)
        → bytes_eq field noreply_word ≡ b
        → cond b (Some true) None ≡ Some silent
        → field ∷ [] ≡ noreply silent
    by_test true is found =
        let yes : true ≡ silent = cc in
        subst (λ s. field ∷ [] ≡ noreply s) yes (ap (λ f. f ∷ []) ((bytes_eq-Decides field noreply_word).0 is))
    by_test false is none = cc
silence_spelled (field ∷ next ∷ fields) silent e = cc

silence_found : (silent : Bool) → silence_of (noreply silent) ≡ Some silent
silence_found true = refl
silence_found false = refl

-- the verb of a storage word, and the fields that it took
record TakesVerb (storing : Storing) (flags : ℕ) (fields : List (List ℕ)) (verb : Verb) (rest : List (List ℕ))
    : Type 0 where
  own : List (List ℕ)
  taken : fields ≡ own ++ rest
  verb_is : IsVerb storing flags own verb

no_own : (storing : Storing) (flags : ℕ) (fields : List (List ℕ)) (made verb : Verb) (rest : List (List ℕ))
    → IsVerb storing flags [] made
    → ◌≡◌ {A = Option (Verb × List (List ℕ))} (Some (made, fields)) (Some (verb, rest))
    → TakesVerb storing flags fields verb rest
no_own storing flags fields made verb rest h e =
    let pair : ◌≡◌ {A = Verb × List (List ℕ)} (made, fields) (verb, rest) = cc in
    record {
      own = [];
      taken = ap (λ (p : Verb × List (List ℕ)). p.1) pair;
      verb_is = subst (IsVerb storing flags []) (ap (λ (p : Verb × List (List ℕ)). p.0) pair) h;
    }

verb_spelled : (storing : Storing) (flags : ℕ) (fields : List (List ℕ)) (verb : Verb) (rest : List (List ℕ))
    → verb_of storing flags fields ≡ Some (verb, rest)
    → TakesVerb storing flags fields verb rest
verb_spelled Set flags fields verb rest e = no_own Set flags fields _ verb rest (refl, refl) e
verb_spelled Add flags fields verb rest e = no_own Add flags fields _ verb rest (refl, refl) e
verb_spelled Replace flags fields verb rest e = no_own Replace flags fields _ verb rest (refl, refl) e
verb_spelled Append flags fields verb rest e = no_own Append flags fields _ verb rest (refl, refl) e
verb_spelled Prepend flags fields verb rest e = no_own Prepend flags fields _ verb rest (refl, refl) e
verb_spelled Cas flags [] verb rest e = cc
verb_spelled Cas flags (field ∷ fields) verb rest e =
    let parts = map_parts _ (number_of (2 ^ 64) field) (verb, rest) e in
    record {
      own = field ∷ [];
      taken = ap (λ (p : Verb × List (List ℕ)). field ∷ p.1) parts.2;
      verb_is = (field, parts.0, refl, parts.1, sym (ap (λ (p : Verb × List (List ℕ)). p.0) parts.2));
    }

verb_found : (storing : Storing) (flags : ℕ) (own : List (List ℕ)) (verb : Verb) (rest : List (List ℕ))
    → IsVerb storing flags own verb
    → verb_of storing flags (own ++ rest) ≡ Some (verb, rest)
verb_found Set flags own verb rest h = rw (h.0, h.1) refl
verb_found Add flags own verb rest h = rw (h.0, h.1) refl
verb_found Replace flags own verb rest h = rw (h.0, h.1) refl
verb_found Append flags own verb rest h = rw (h.0, h.1) refl
verb_found Prepend flags own verb rest h = rw (h.0, h.1) refl
verb_found Cas flags own verb rest h = rw (h.2, h.3, h.4) refl

-- the fields of a storage line
storage_spelled : (storing : Storing) (rest : List (List ℕ)) (line : StorageLine)
    → storage_line storing rest ≡ Some line
    → (key : List ℕ)
    → IsKey key
    → AreStorage storing (key ∷ rest) key line
storage_spelled storing (f ∷ t ∷ s ∷ rest) line e key is_key =
    let flags = then_parts _ (number_of (2 ^ 32) f) line e in
    let expires = then_parts _ (expiry_of t) line flags.2 in
    let size = then_parts _ (number_of (2 ^ 32) s) line expires.2 in
    let made = then_parts _ (verb_of storing flags.0 rest) line size.2 in
    let silent = then_parts _ (silence_of made.0.1) line made.2 in
    let whole : record { verb = made.0.0; expires = expires.0; size = size.0; silent = silent.0 } ≡ line = cc in
    let took = verb_spelled storing flags.0 rest made.0.0 made.0.1 made.1 in
    let time = expiry_spelled t expires.0 expires.1 in
    subst (AreStorage storing (key ∷ f ∷ t ∷ s ∷ rest) key) whole
    (record {
      flags_field = f;
      exptime = t;
      size_field = s;
      own = took.own;
      flags = flags.0;
      fields_are = ap (λ fs. key ∷ f ∷ t ∷ s ∷ fs)
          (took.taken ∙ ap (λ fs. took.own ++ fs) (silence_spelled made.0.1 silent.0 silent.1));
      key_is = is_key;
      flags_is = flags.1;
      exptime_is = time.0;
      expires_is = time.1;
      size_is = size.1;
      verb_is = took.verb_is;
    })
storage_spelled storing [] line e key is_key = cc
storage_spelled storing (a ∷ []) line e key is_key = cc
storage_spelled storing (a ∷ b ∷ []) line e key is_key = cc

store_spelled : (storing : Storing) (fields : List (List ℕ)) (block : Block)
    → store_line storing fields ≡ Some block
    → (key : List ℕ) × (line : StorageLine) × AreStorage storing fields key line × (block_of key line ≡ block)
store_spelled storing [] block e = cc
store_spelled storing (field ∷ rest) block e =
    let line = then_parts _ (storage_line storing rest) block e in
    let name = then_parts _ (key_of field) block line.2 in
    let is_key = key_spelled field name.0 name.1 in (
      name.0,
      line.0,
      subst (λ k. AreStorage storing (k ∷ rest) name.0 line.0) (sym is_key.0)
          (storage_spelled storing rest line.0 line.1 name.0 is_key.1),
      cc,
    )

store_found : (storing : Storing) (fields : List (List ℕ)) (key : List ℕ) (line : StorageLine)
    → AreStorage storing fields key line
    → store_line storing fields ≡ Some (block_of key line)
store_found storing fields key line h =
    let time = expiry_found h.exptime line.expires h.exptime_is h.expires_is in
    let made = verb_found storing h.flags h.own line.verb (noreply line.silent) h.verb_is in
    rw (h.fields_are, h.flags_is, time, h.size_is, made, silence_found line.silent, key_found key h.key_is) refl

-- the fields of an `incr` or a `decr`
counter_spelled : (fields : List (List ℕ)) (line : CounterLine)
    → counter_line fields ≡ Some line
    → AreCounter fields line.key line.amount line.silent
counter_spelled [] line e = cc
counter_spelled (a ∷ []) line e = cc
counter_spelled (key ∷ a ∷ rest) line e =
    let amount = then_parts _ (number_of (2 ^ 64) a) line e in
    let silent = then_parts _ (silence_of rest) line amount.2 in
    let name = then_parts _ (key_of key) line silent.2 in
    let whole : record { key = name.0; amount = amount.0; silent = silent.0 } ≡ line = cc in
    let is_key = key_spelled key name.0 name.1 in
    subst (λ (l : CounterLine). AreCounter (key ∷ a ∷ rest) l.key l.amount l.silent) whole
    (record {
      amount_field = a;
      fields_are = ap (λ k. k ∷ a ∷ rest) is_key.0
          ∙ ap (λ fs. name.0 ∷ a ∷ fs) (silence_spelled rest silent.0 silent.1);
      key_is = is_key.1;
      amount_is =
          amount.1;
    })

counter_found : (fields : List (List ℕ)) (key : List ℕ) (amount : ℕ) (silent : Bool)
    → AreCounter fields key amount silent
    → counter_line fields ≡ Some (record { key = key; amount = amount; silent = silent })
counter_found fields key amount silent h =
    rw (h.fields_are, h.amount_is, silence_found silent, key_found key h.key_is) refl

-- the fields of a `delete`
delete_spelled : (fields : List (List ℕ)) (request : Request)
    → delete_line fields ≡ Some request
    → (key : List ℕ) × (silent : Bool) × AreDelete fields key silent × (requests.Delete key silent ≡ request)
delete_spelled [] request e = cc
delete_spelled (key ∷ rest) request e =
    let silent = then_parts _ (silence_of rest) request e in
    let name = then_parts _ (key_of key) request silent.2 in
    let is_key = key_spelled key name.0 name.1 in (
      name.0,
      silent.0,
      record {
        fields_are = ap (λ k. k ∷ rest) is_key.0
            ∙ ap (λ fs. name.0 ∷ fs) (silence_spelled rest silent.0 silent.1);
        key_is = is_key.1;
      },
      cc,
    )

delete_found : (fields : List (List ℕ)) (key : List ℕ) (silent : Bool)
    → AreDelete fields key silent
    → delete_line fields ≡ Some (requests.Delete key silent)
delete_found fields key silent h = rw (h.fields_are, silence_found silent, key_found key h.key_is) refl

-- the fields of a `get`
keys_spelled : (fields keys : List (List ℕ)) → keys_of fields ≡ Some keys → (fields ≡ keys) × AreKeys keys
keys_spelled fields keys e = by_test (nat_le 1 (length fields) && list_all is_key fields) refl e
  where
    by_test : (b : Bool)
        → nat_le 1 (length fields) && list_all is_key fields ≡ b
        → cond b (Some fields) None ≡ Some keys
        → (fields ≡ keys) × AreKeys keys
    by_test true is found =
        let same : fields ≡ keys = cc in
        let parts = and_parts (nat_le 1 (length fields)) (list_all is_key fields) is in
        (same, subst AreKeys same (record { some = leb-true 1 (length fields) parts.0; each = parts.1 }))
    by_test false is none = cc

keys_found : (fields : List (List ℕ)) → AreKeys fields → keys_of fields ≡ Some fields
keys_found fields h = cond-true _ _ _ (and_from _ _ (le-leb 1 (length fields) h.some) h.each)

-- fields that ask for something fit their command
fits : (word : Word) (fields : List (List ℕ)) (asked : Asked) → asked_of word fields ≡ Some asked → Fitting word fields
fits Get fields asked e = let request = map_parts _ (get_line false fields) asked e in let keys =
    map_parts _ (keys_of fields) request.0 request.1 in let is =
    keys_spelled fields keys.0 keys.1 in subst AreKeys (sym is.0) is.1
fits Gets fields asked e = let request = map_parts _ (get_line true fields) asked e in let keys =
    map_parts _ (keys_of fields) request.0 request.1 in let is =
    keys_spelled fields keys.0 keys.1 in subst AreKeys (sym is.0) is.1
fits (Store storing) fields asked e = let block = map_parts _ (store_line storing fields) asked e in let is =
    store_spelled storing fields block.0 block.1 in (is.0, is.1, is.2)
fits Incr fields asked e = let line =
    map_parts _ (counter_line fields) asked e in
    (line.0.key, line.0.amount, line.0.silent, counter_spelled fields line.0 line.1)
fits Decr fields asked e = let line =
    map_parts _ (counter_line fields) asked e in
    (line.0.key, line.0.amount, line.0.silent, counter_spelled fields line.0 line.1)
fits Delete fields asked e = let request = map_parts _ (delete_line fields) asked e in let is =
    delete_spelled fields request.0 request.1 in (is.0, is.1, is.2)
fits FlushAll fields asked e =
    let request = map_parts _ (flush_line fields) asked e in
    let silent = map_parts _ (silence_of fields) request.0 request.1 in
    (silent.0, silence_spelled fields silent.0 silent.1)
fits Quit [] asked e = refl
fits Quit (field ∷ fields) asked e = cc

-- fields that fit a command ask for this
pub get_asked : (unique : Bool) (fields : List (List ℕ))
    → AreKeys fields
    → asked_of (get_word unique) fields ≡ Some (Whole (requests.Get fields unique))
get_asked true fields h = rw (keys_found fields h) refl
get_asked false fields h = rw (keys_found fields h) refl

-- the fields of a storage command ask for its block
pub store_asked : (storing : Storing) (fields : List (List ℕ)) (key : List ℕ) (line : StorageLine)
    → AreStorage storing fields key line
    → asked_of (Store storing) fields ≡ Some (Behind (block_of key line))
store_asked storing fields key line h = ap (option_map Behind) (store_found storing fields key line h)

-- the fields of an incr ask for it
pub incr_asked : (fields : List (List ℕ)) (key : List ℕ) (amount : ℕ) (silent : Bool)
    → AreCounter fields key amount silent
    → asked_of Incr fields ≡ Some (Whole (requests.Arith key (ops.Incr amount) silent))
incr_asked fields key amount silent h = rw (counter_found fields key amount silent h) refl

-- the fields of a decr ask for it
pub decr_asked : (fields : List (List ℕ)) (key : List ℕ) (amount : ℕ) (silent : Bool)
    → AreCounter fields key amount silent
    → asked_of Decr fields ≡ Some (Whole (requests.Arith key (ops.Decr amount) silent))
decr_asked fields key amount silent h = rw (counter_found fields key amount silent h) refl

-- the fields of a delete ask for it
pub delete_asked : (fields : List (List ℕ)) (key : List ℕ) (silent : Bool)
    → AreDelete fields key silent
    → asked_of Delete fields ≡ Some (Whole (requests.Delete key silent))
delete_asked fields key silent h = rw (delete_found fields key silent h) refl

-- a flush_all, with `noreply` or without, asks for a flush
pub flush_asked : (silent : Bool) → asked_of FlushAll (noreply silent) ≡ Some (Whole (requests.Flush silent))
flush_asked true = refl
flush_asked false = refl

some_asked : (word : Word) (fields : List (List ℕ))
    → Fitting word fields
    → (asked : Asked) × (asked_of word fields ≡ Some asked)
some_asked Get fields h = (_, get_asked false fields h)
some_asked Gets fields h = (_, get_asked true fields h)
some_asked (Store storing) fields h = (_, store_asked storing fields h.0 h.1 h.2)
some_asked Incr fields h = (_, incr_asked fields h.0 h.1 h.2 h.3)
some_asked Decr fields h = (_, decr_asked fields h.0 h.1 h.2 h.3)
some_asked Delete fields h = (_, delete_asked fields h.0 h.1 h.2)
some_asked FlushAll fields h = (_, ap (asked_of FlushAll) h.1 ∙ flush_asked h.0)
some_asked Quit fields h = (_, ap (asked_of Quit) h)

-- fields that don't fit ask for nothing, and no others do
misfit : (word : Word) (fields : List (List ℕ)) → asked_of word fields ≡ None → Fitting word fields → ⊥
misfit word fields none h = let some = (some_asked word fields h).1 in cc

-- fields that don't fit a command ask for nothing
pub misfit_asked : (word : Word) (fields : List (List ℕ)) → (Fitting word fields → ⊥) → asked_of word fields ≡ None
misfit_asked word fields h = by_asked (asked_of word fields) refl
  where
    by_asked : (o : Option Asked) → asked_of word fields ≡ o → o ≡ None
    by_asked None e = refl
    by_asked (Some asked) e = absurd (h (fits word fields asked e))

-- the command words
word_step : (field : List ℕ) (first word : Word) (rest : Option Word)
    → cond (bytes_eq field (spelling first)) (Some first) rest ≡ Some word
    → (rest ≡ Some word → field ≡ spelling word)
    → field ≡ spelling word
word_step field first word rest e later = by_test (bytes_eq field (spelling first)) refl e
  where
    by_test : (b : Bool)
        → bytes_eq field (spelling first) ≡ b
        → cond b (Some first) rest ≡ Some word
        → field ≡ spelling word
    by_test true is found =
        let same : first ≡ word = cc in (bytes_eq-Decides field (spelling first)).0 is ∙ ap spelling same
    by_test false is other = later other

word_spelled : (field : List ℕ) (word : Word) → word_of field ≡ Some word → field ≡ spelling word
word_spelled field word e =
    word_step field Get word _ e λ e. word_step field Gets word _ e λ e. word_step field (Store Set) word _ e λ e.
    word_step field (Store Add) word _ e λ e.
    word_step field (Store Replace) word _ e λ e. word_step field (Store Append) word _ e λ e. word_step field
    (Store Prepend) word _ e λ e. word_step field (Store Cas) word _ e λ e.
    word_step field Incr word _ e λ e. word_step field Decr word _ e λ e. word_step field Delete word _ e λ e. word_step
    field FlushAll word _ e λ e. word_step field Quit word _ e λ e. cc

-- the spelling of a command word is found as it
pub word_found : (word : Word) → word_of (spelling word) ≡ Some word
word_found Get = refl
word_found Gets = refl
word_found (Store Set) = refl
word_found (Store Add) = refl
word_found (Store Replace) = refl
word_found (Store Append) = refl
word_found (Store Prepend) = refl
word_found (Store Cas) = refl
word_found Incr = refl
word_found Decr = refl
word_found Delete = refl
word_found FlushAll = refl
word_found Quit = refl

unknown : (field : List ℕ) → word_of field ≡ None → (word : Word) → field ≢ spelling word
unknown field none word is = let found : word_of field ≡ Some word = ap word_of is ∙ word_found word in cc

-- a field that spells no command word is found as none
pub unknown_asked : (field : List ℕ) → ((word : Word) → field ≢ spelling word) → word_of field ≡ None
unknown_asked field h = by_found (word_of field) refl
  where
    by_found : (o : Option Word) → word_of field ≡ o → o ≡ None
    by_found None e = refl
    by_found (Some word) e = absurd (h word (word_spelled field word e))

-- A line that asks for a block.
pub record IsBehind (bytes : List ℕ) (block : Block) : Type 0 where
  pub storing : Storing
  pub fields : List (List ℕ)
  pub key : List ℕ
  pub line : StorageLine
  pub is_line : IsLine (spelling (Store storing) ∷ fields) bytes
  pub are_storage : AreStorage storing fields key line
  pub block_is : block_of key line ≡ block

-- these bytes are a line that asks for this
abbrev pub Asks : Asked → List ℕ → Type 0
Asks (Whole request) bytes = Spells request bytes
Asks (Behind block) bytes = IsBehind bytes block

-- what is whole is spelled
asks_whole : (request : Request) (asked : Asked) (bytes : List ℕ)
    → Whole request ≡ asked
    → Spells request bytes
    → Asks asked bytes
asks_whole request asked bytes is spelled = subst (λ a. Asks a bytes) is spelled

asks_get : (unique : Bool) (fields : List (List ℕ)) (bytes : List ℕ) (asked : Asked)
    → IsLine (spelling (get_word unique) ∷ fields) bytes
    → option_map Whole (get_line unique fields) ≡ Some asked
    → Asks asked bytes
asks_get unique fields bytes asked line e =
    let request = map_parts _ (get_line unique fields) asked e in
    let keys = map_parts _ (keys_of fields) request.0 request.1 in
    let is = keys_spelled fields keys.0 keys.1 in
    asks_whole (requests.Get keys.0 unique) asked bytes (ap Whole keys.2 ∙ request.2)
    (subst (λ fs. IsLine (spelling (get_word unique) ∷ fs) bytes) is.0 line, is.1)

asks : (word : Word) (fields : List (List ℕ)) (bytes : List ℕ) (asked : Asked)
    → IsLine (spelling word ∷ fields) bytes
    → asked_of word fields ≡ Some asked
    → Asks asked bytes
asks Get fields bytes asked line e = asks_get false fields bytes asked line e
asks Gets fields bytes asked line e = asks_get true fields bytes asked line e
asks (Store storing) fields bytes asked line e =
    let block = map_parts _ (store_line storing fields) asked e in
    let is = store_spelled storing fields block.0 block.1 in
    subst (λ a. Asks a bytes) block.2
    (record {
      storing = storing;
      fields = fields;
      key = is.0;
      line = is.1;
      is_line = line;
      are_storage = is.2;
      block_is = is.3;
    })
asks Incr fields bytes asked line e =
    let found = map_parts _ (counter_line fields) asked e in
    asks_whole (requests.Arith found.0.key (ops.Incr found.0.amount) found.0.silent) asked bytes found.2
    (fields, line, counter_spelled fields found.0 found.1)
asks Decr fields bytes asked line e =
    let found = map_parts _ (counter_line fields) asked e in
    asks_whole (requests.Arith found.0.key (ops.Decr found.0.amount) found.0.silent) asked bytes found.2
    (fields, line, counter_spelled fields found.0 found.1)
asks Delete fields bytes asked line e =
    let request = map_parts _ (delete_line fields) asked e in
    let is = delete_spelled fields request.0 request.1 in
    asks_whole (requests.Delete is.0 is.1) asked bytes (ap Whole is.3 ∙ request.2) (fields, line, is.2)
asks FlushAll fields bytes asked line e =
    let request = map_parts _ (flush_line fields) asked e in
    let silent = map_parts _ (silence_of fields) request.0 request.1 in
    asks_whole (requests.Flush silent.0) asked bytes (ap Whole silent.2 ∙ request.2)
    (subst (λ fs. IsLine (spelling FlushAll ∷ fs) bytes) (silence_spelled fields silent.0 silent.1) line)
asks Quit [] bytes asked line e =
    let is : Whole requests.Quit ≡ asked = cc in asks_whole requests.Quit asked bytes is line
asks Quit (field ∷ fields) bytes asked line e = cc

asks_by_word : (word : Word) (fields : List (List ℕ)) (bytes : List ℕ)
    → IsLine (spelling word ∷ fields) bytes
    → Asks (by_word (Some word) fields) bytes
asks_by_word word fields bytes line = by_asked (asked_of word fields) refl
  where
    by_asked : (o : Option Asked) → asked_of word fields ≡ o → Asks (or_misfit o) bytes
    by_asked None e = (word, fields, line, misfit word fields e)
    by_asked (Some asked) e = asks word fields bytes asked line e

-- a line asks for what its fields ask for
pub asks_by_fields : (fields : List (List ℕ)) (bytes : List ℕ)
    → 1 ≤ length fields
    → IsLine fields bytes
    → Asks (by_fields fields) bytes
asks_by_fields [] bytes some line = absurd (omega arith)
asks_by_fields (field ∷ fields) bytes some line = by_found (word_of field) refl
  where
    by_found : (o : Option Word) → word_of field ≡ o → Asks (by_word o fields) bytes
    by_found None e = inr (field, fields, line, unknown field e)
    by_found (Some word) e =
        asks_by_word word fields bytes (subst (λ f. IsLine (f ∷ fields) bytes) (word_spelled field word e) line)
