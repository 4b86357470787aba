-- The bytes of a storage command: its line, its data, CR LF.
use Rattle.std.proofs.Common.{ℕ, ◌^◌, ◌<◌, ◌≤◌, false, List, [], ◌∷◌, ◌++◌, length, refl, arith}
use Rattle.std.specs.Prelude.{decimal, IsTrue, codes}
use Rattle.std.specs.List.{list_all}
use Rattle.std.proofs.lemmas.Bool.{and_from}
use Rattle.table.specs.Items.{limit}
use Rattle.table.specs.Keys.{IsKey}
use Rattle.proto.specs.declared.requests.Request.TheVariants as requests
use Rattle.proto.specs.declared.storage.Verb.{Verb}
use Rattle.proto.specs.declared.storage.StorageLine.{StorageLine}
use Rattle.proto.specs.declared.words.Storing.{Storing}
use Rattle.proto.specs.declared.words.Storing.TheVariants.{Set, Add, Replace, Append, Prepend, Cas}
use Rattle.proto.specs.declared.words.Word.TheVariants.{Store}
use Rattle.proto.specs.Grammar.{is_field, spelling, IsVerb, AreStorage, Spells}
use Rattle.proto.specs.Verbs.{op_of}
use Rattle.proto.specs.Words.{crlf}
use Rattle.interleavings.proofs.asking.SpelledFields.{number_read, number_field, number_short, key_field, key_short}
use Rattle.interleavings.proofs.asking.SpelledFields.{room, line_of, is_line}

-- ---- command words

word_field : (storing : Storing) → IsTrue (is_field (spelling (Store storing)))
word_field Set = refl
word_field Add = refl
word_field Replace = refl
word_field Append = refl
word_field Prepend = refl
word_field Cas = refl

word_short : (storing : Storing) → length (spelling (Store storing)) ≤ 9
word_short Set = omega arith
word_short Add = omega arith
word_short Replace = omega arith
word_short Append = omega arith
word_short Prepend = omega arith
word_short Cas = omega arith

-- ---- the whole command

-- the fields after the command word: no expiry time
abbrev pub store_fields : List ℕ → ℕ → ℕ → List (List ℕ) → List (List ℕ)
store_fields key flags size own = key ∷ decimal flags ∷ codes "0" ∷ decimal size ∷ (own ++ [])

-- the bytes of the command
abbrev pub store_bytes : Storing → List ℕ → ℕ → List (List ℕ) → List ℕ → List ℕ
store_bytes storing key flags own block =
    line_of (spelling (Store storing) ∷ store_fields key flags (length block) own) ++ block ++ crlf

below_more : (n : ℕ) → n < 2 ^ 32 → n < 2 ^ 64
below_more n h = omega (arith, h)

sized : (n : ℕ) → n ≤ limit → n < 2 ^ 32
sized n h = omega (arith, h)

module _ (storing : Storing) (key : List ℕ) (flags : ℕ) (own : List (List ℕ)) (verb : Verb) (block : List ℕ)
    (is_key : IsKey key) (low : flags < 2 ^ 32) (fits : length block ≤ limit)
    (separate : IsTrue (list_all is_field (own ++ []))) (few : room (own ++ []) ≤ 40)
    (is_verb : IsVerb storing flags own verb) where
  abbrev size : ℕ
  size = length block

  abbrev line : StorageLine
  line = record { verb = verb; expires = false; size = size; silent = false }

  all_fields : IsTrue (list_all is_field (spelling (Store storing) ∷ store_fields key flags size own))
  all_fields =
      and_from _ _ (word_field storing) (and_from _ _ (key_field key is_key)
      (and_from _ _ (number_field flags (below_more flags low)) (and_from _ _ refl
      (and_from _ _ (number_field size (below_more size (sized size fits))) separate))))

  all_short : room (spelling (Store storing) ∷ store_fields key flags size own) ≤ 2000
  all_short = omega (
    arith,
    word_short storing,
    key_short key is_key,
    number_short flags (below_more flags low),
    number_short size (below_more size (sized size fits)),
    few,
  )

  are_storage : AreStorage storing (store_fields key flags size own) key line
  are_storage = record {
    flags_field = decimal flags;
    exptime = codes "0";
    size_field = decimal size;
    own = own;
    flags = flags;
    fields_are = refl;
    key_is = is_key;
    flags_is = number_read (2 ^ 32) flags (below_more flags low) low;
    exptime_is = refl;
    expires_is = refl;
    size_is = number_read (2 ^ 32) size (below_more size (sized size fits)) (sized size fits);
    verb_is = is_verb;
  }

  -- they spell the request
  pub spelled_store : Spells (requests.Store key (op_of verb block) false) (store_bytes storing key flags own block)
  spelled_store = (
    line,
    block,
    record {
      storing = storing;
      fields = store_fields key flags size own;
      text = line_of (spelling (Store storing) ∷ store_fields key flags size own);
      is_line = is_line (spelling (Store storing) ∷ store_fields key flags size own) all_fields all_short;
      are_storage = are_storage;
      size_is = refl;
      two = refl;
      spelled = refl;
    },
    fits,
    refl,
    refl,
    refl,
  )
