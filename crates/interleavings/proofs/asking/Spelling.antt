-- Each call that clients can ask is spelled by some bytes.
use Rattle.std.proofs.Common.{ℕ, ◌^◌, ◌<◌, ◌≤◌, true, false, List, [], ◌∷◌, length, refl, arith}
use Rattle.std.specs.Prelude.{decimal, IsTrue, codes}
use Rattle.std.proofs.lemmas.Bool.{and_from}
use Rattle.table.specs.Items.{limit}
use Rattle.table.specs.Keys.{IsKey, is_key}
use Rattle.table.specs.Operations.{Fits, Suits}
use Rattle.table.specs.declared.operations.Call.{Call}
use Rattle.table.specs.declared.operations.Op.{Op}
use Rattle.table.specs.declared.operations.Op.TheVariants.{Read, Set, Add, Replace, Append, Prepend, Cas, Incr, Decr}
use Rattle.table.specs.declared.operations.Op.TheVariants.{Delete, Flush}
use Rattle.table.specs.declared.operations.Target.{Target}
use Rattle.table.specs.declared.operations.Target.TheVariants.{One, All}
use Rattle.proto.specs.declared.requests.Request.TheVariants as requests
use Rattle.proto.specs.declared.storage.Verb.{Verb}
use Rattle.proto.specs.declared.storage.Verb.TheVariants as verbs
use Rattle.proto.specs.declared.texts.Form.TheVariants.{Status, Show}
use Rattle.proto.specs.declared.words.Storing.{Storing}
use Rattle.proto.specs.declared.words.Storing.TheVariants as storing
use Rattle.proto.specs.Grammar.{is_field, IsLine, IsVerb}
use Rattle.proto.specs.Verbs.{op_of}
use Rattle.interleavings.specs.Asked.{AreNumbers, IsTarget, IsAsked, IsSpelled}
use Rattle.interleavings.proofs.asking.SpelledFields.{number_read, number_field, number_short, key_field, key_short}
use Rattle.interleavings.proofs.asking.SpelledFields.{line_of, is_line}
use Rattle.interleavings.proofs.asking.SpelledStores.{store_bytes, spelled_store}

-- a call on one key
abbrev on : List ℕ → Op → Call
on key op = record { target = One key; op = op }

-- a line of a word and a key
keyed_line : (word key : List ℕ)
    → IsTrue (is_field word)
    → length word ≤ 9
    → IsKey key
    → IsLine (word ∷ key ∷ []) (line_of (word ∷ key ∷ []))
keyed_line word key field short is =
    is_line (word ∷ key ∷ []) (and_from _ _ field (and_from _ _ (key_field key is) refl))
    (omega (arith, short, key_short key is))

-- a read, by a get of one key
read_spelled : (key : List ℕ) → IsKey key → IsSpelled (on key Read)
read_spelled key is = record {
  request = requests.Get (key ∷ []) false;
  bytes = line_of (codes "get" ∷ key ∷ []);
  form = Show (record { key = key; unique = false; last = true });
  spelled = (
    keyed_line (codes "get") key refl (omega arith) is,
    record { some = omega arith; each = and_from (is_key key) true is refl },
  );
  alone = refl;
}

delete_spelled : (key : List ℕ) → IsKey key → IsSpelled (on key Delete)
delete_spelled key is = record {
  request = requests.Delete key false;
  bytes = line_of (codes "delete" ∷ key ∷ []);
  form = Status;
  spelled = (
    key ∷ [],
    keyed_line (codes "delete") key refl (omega arith) is,
    record { fields_are = refl; key_is = is },
  );
  alone = refl;
}

counter_line : (word key : List ℕ) (amount : ℕ)
    → IsTrue (is_field word)
    → length word ≤ 9
    → IsKey key
    → amount < 2 ^ 64
    → IsLine (word ∷ key ∷ decimal amount ∷ []) (line_of (word ∷ key ∷ decimal amount ∷ []))
counter_line word key amount field short is low =
    is_line (word ∷ key ∷ decimal amount ∷ [])
    (and_from _ _ field (and_from _ _ (key_field key is) (and_from _ _ (number_field amount low) refl)))
    (omega (arith, short, key_short key is, number_short amount low))

incr_spelled : (key : List ℕ) (amount : ℕ) → IsKey key → amount < 2 ^ 64 → IsSpelled (on key (Incr amount))
incr_spelled key amount is low = record {
  request = requests.Arith key (Incr amount) false;
  bytes = line_of (codes "incr" ∷ key ∷ decimal amount ∷ []);
  form = Status;
  spelled = (
    key ∷ decimal amount ∷ [],
    counter_line (codes "incr") key amount refl (omega arith) is low,
    record {
      amount_field = decimal amount;
      fields_are = refl;
      key_is = is;
      amount_is = number_read (2 ^ 64) amount low low;
    },
  );
  alone = refl;
}

decr_spelled : (key : List ℕ) (amount : ℕ) → IsKey key → amount < 2 ^ 64 → IsSpelled (on key (Decr amount))
decr_spelled key amount is low = record {
  request = requests.Arith key (Decr amount) false;
  bytes = line_of (codes "decr" ∷ key ∷ decimal amount ∷ []);
  form = Status;
  spelled = (
    key ∷ decimal amount ∷ [],
    counter_line (codes "decr") key amount refl (omega arith) is low,
    record {
      amount_field = decimal amount;
      fields_are = refl;
      key_is = is;
      amount_is = number_read (2 ^ 64) amount low low;
    },
  );
  alone = refl;
}

flush_spelled : IsSpelled (record { target = All; op = Flush })
flush_spelled = record {
  request = requests.Flush false;
  bytes = line_of (codes "flush_all" ∷ []);
  form = Status;
  spelled = is_line (codes "flush_all" ∷ []) refl (omega arith);
  alone = refl;
}

-- a storage command without a field of its own
plain_spelled : (word : Storing) (key : List ℕ) (flags : ℕ) (verb : Verb) (block : List ℕ)
    → IsKey key
    → flags < 2 ^ 32
    → length block ≤ limit
    → IsVerb word flags [] verb
    → IsSpelled (on key (op_of verb block))
plain_spelled word key flags verb block is low fits is_verb = record {
  request = requests.Store key (op_of verb block) false;
  bytes = store_bytes word key flags [] block;
  form = Status;
  spelled = spelled_store word key flags [] verb block is low fits refl (omega arith) is_verb;
  alone = refl;
}

-- a cas, which has a unique
cas_spelled : (key : List ℕ) (flags : ℕ) (block : List ℕ) (unique : ℕ)
    → IsKey key
    → flags < 2 ^ 32
    → unique < 2 ^ 64
    → length block ≤ limit
    → IsSpelled (on key (Cas flags block unique))
cas_spelled key flags block unique is low small fits = record {
  request = requests.Store key (Cas flags block unique) false;
  bytes = store_bytes storing.Cas key flags (decimal unique ∷ []) block;
  form = Status;
  spelled = spelled_store storing.Cas key flags (decimal unique ∷ []) (verbs.Cas flags unique) block is low fits
      (and_from _ _ (number_field unique small) refl) (omega (arith, number_short unique small))
      (decimal unique, unique, refl, number_read (2 ^ 64) unique small small, refl);
  alone = refl;
}

by_parts : (target : Target) (op : Op)
    → Fits op
    → Suits target op
    → IsTarget target
    → AreNumbers op
    → IsSpelled (record { target = target; op = op })
by_parts (One key) Read fits suits is low = read_spelled key is
by_parts (One key) (Set flags block) fits suits is low =
    plain_spelled storing.Set key flags (verbs.Set flags) block is low fits (refl, refl)
by_parts (One key) (Add flags block) fits suits is low =
    plain_spelled storing.Add key flags (verbs.Add flags) block is low fits (refl, refl)
by_parts (One key) (Replace flags block) fits suits is low =
    plain_spelled storing.Replace key flags (verbs.Replace flags) block is low fits (refl, refl)
by_parts (One key) (Append block) fits suits is low =
    plain_spelled storing.Append key 0 verbs.Append block is (omega arith) fits (refl, refl)
by_parts (One key) (Prepend block) fits suits is low =
    plain_spelled storing.Prepend key 0 verbs.Prepend block is (omega arith) fits (refl, refl)
by_parts (One key) (Cas flags block unique) fits suits is low =
    cas_spelled key flags block unique is low.0 low.1 fits
by_parts (One key) (Incr amount) fits suits is low = incr_spelled key amount is low
by_parts (One key) (Decr amount) fits suits is low = decr_spelled key amount is low
by_parts (One key) Delete fits suits is low = delete_spelled key is
by_parts (One key) Flush fits suits is low = absurd cc
by_parts All Flush fits suits is low = flush_spelled
by_parts All Read fits suits is low = absurd cc
by_parts All (Set flags block) fits suits is low = absurd cc
by_parts All (Add flags block) fits suits is low = absurd cc
by_parts All (Replace flags block) fits suits is low = absurd cc
by_parts All (Append block) fits suits is low = absurd cc
by_parts All (Prepend block) fits suits is low = absurd cc
by_parts All (Cas flags block unique) fits suits is low = absurd cc
by_parts All (Incr amount) fits suits is low = absurd cc
by_parts All (Decr amount) fits suits is low = absurd cc
by_parts All Delete fits suits is low = absurd cc

-- some bytes spell it
pub is_spelled : (call : Call) → IsAsked call → IsSpelled call
is_spelled call a = by_parts call.target call.op a.fits a.suits a.target a.numbers
