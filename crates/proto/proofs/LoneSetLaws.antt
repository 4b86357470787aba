-- A plain `set` that stands whole at a front is found there, whatever follows.
use Rattle.std.proofs.Common.{◌≡◌, ℕ, ◌-◌, ◌^◌, ◌≤◌, Bool, true, false, cond, List, [], ◌∷◌, ◌++◌, length, Some, None}
use Rattle.std.proofs.Common.{refl, sym, ap, ◌∙◌, arith, append_assoc, length-append, subst, lit≤, drop}
use Rattle.std.proofs.Common.{take-append-drop}
use Rattle.std.specs.Prelude.{◌==◌, ◌&&◌, not, nat_le, nat_lt, IsTrue, codes}
use Rattle.std.specs.Char.{is_ascii_digit}
use Rattle.std.specs.List.{list_all, join_with_byte, IsSplitAt}
use Rattle.std.specs.Str.Parse.{digits_value}
use Rattle.std.proofs.lemmas.Bool.{and_parts, and_from, leb-true}
use Rattle.std.proofs.lemmas.Bool.Decides.{nat_tests}
use Rattle.table.specs.Items.{limit}
use Rattle.table.specs.Keys.{IsKey, is_key_byte}
use Rattle.table.specs.Numbers.{number_of}
use Rattle.table.specs.declared.operations.Op.TheVariants as ops
use Rattle.proto.specs.declared.front.Found.TheVariants.{Request as Requested}
use Rattle.proto.specs.declared.requests.Request.TheVariants.{Store}
use Rattle.proto.specs.declared.words.Storing.TheVariants.{Set}
use Rattle.proto.specs.declared.storage.Verb.TheVariants as verbs
use Rattle.proto.specs.declared.storage.StorageLine.{StorageLine}
use Rattle.proto.specs.Words.{lf, space, crlf, line_limit}
use Rattle.proto.specs.Grammar.{IsBlock, IsLine, AreStorage, Spells, is_field, noreply}
use Rattle.proto.specs.Fronts.{front, refused_at, found_of, found_at}
use Rattle.proto.specs.LoneSets.{IsAtFront, IsNumberBefore, IsPlainSet, ending}
use Rattle.proto.proofs.GrammarLaws.{spelled_is_found}
use Rattle.proto.proofs.LoneGetLaws.{key_fits}

-- a digit is neither a space nor a line feed
digit_fits : (b : ℕ)
    → IsTrue (is_ascii_digit b)
    → IsTrue (not (b == space) && not (b == lf))
digit_fits b is = grind (arith, nat_tests, is)

-- so digits are a field
digits_fit : (bytes : List ℕ) → IsTrue (list_all is_ascii_digit bytes) → IsTrue (is_field bytes)
digits_fit [] each = refl
digits_fit (b ∷ bs) each =
    let parts = and_parts (is_ascii_digit b) (list_all is_ascii_digit bs) each in
    and_from (not (b == space) && not (b == lf)) (is_field bs) (digit_fits b parts.0) (digits_fit bs parts.1)

-- and so is what spells a number
number_fits : (bound n : ℕ) (field : List ℕ) → number_of bound field ≡ Some n → IsTrue (is_field field)
number_fits bound n [] is = refl
number_fits bound n (c ∷ cs) is =
    by_test (list_all is_ascii_digit (c ∷ cs)) (nat_lt (digits_value 10 (c ∷ cs)) bound) refl is
  where
    by_test : (digits small : Bool)
        → list_all is_ascii_digit (c ∷ cs) ≡ digits
        → cond (digits && small) (Some (digits_value 10 (c ∷ cs))) None ≡ Some n
        → IsTrue (is_field (c ∷ cs))
    by_test true small e some = digits_fit (c ∷ cs) e
    by_test false small e none = cc

-- the line of a plain set
abbrev line_of : List ℕ → List ℕ → List ℕ → Bool → List ℕ
line_of key flags size silent =
    join_with_byte space (codes "set" ∷ key ∷ flags ∷ codes "0" ∷ size ∷ noreply silent) ++ crlf

line_in_pieces : (key flags size : List ℕ) (silent : Bool)
    → line_of key flags size silent
    ≡ 115 ∷ 101 ∷ 116 ∷ 32 ∷ (key ++ 32 ∷ (flags ++ 32 ∷ 48 ∷ 32 ∷ (size ++ ending silent)))
line_in_pieces key flags size true = simp append_assoc
line_in_pieces key flags size false = simp append_assoc

ending_is_short : (silent : Bool) → length (ending silent) ≤ 10
ending_is_short true = lit≤ tt
ending_is_short false = lit≤ tt

line_is_short : (key flags size : List ℕ) (silent : Bool)
    → length key ≤ 250
    → length flags ≤ 10
    → length size ≤ 10
    → length (line_of key flags size silent) ≤ line_limit
unfolding line_limit
line_is_short key flags size silent short few less = omega (
  arith,
  ap length (line_in_pieces key flags size silent),
  length-append key (32 ∷ (flags ++ 32 ∷ 48 ∷ 32 ∷ (size ++ ending silent))),
  length-append flags (32 ∷ 48 ∷ 32 ∷ (size ++ ending silent)),
  length-append size (ending silent),
  ending_is_short silent,
)

-- all of it
abbrev set_of : List ℕ → List ℕ → List ℕ → Bool → List ℕ → List ℕ
set_of key flags size silent block = line_of key flags size silent ++ block ++ crlf

-- what its line says after the key
abbrev said : ℕ → Bool → List ℕ → StorageLine
said flags silent block = record { verb = verbs.Set flags; expires = false; size = length block; silent = silent }

noreply_fits : (silent : Bool) → IsTrue (list_all is_field (noreply silent))
noreply_fits true = refl
noreply_fits false = refl

set_is_spelled : (bytes key : List ℕ) (flags : ℕ) (silent : Bool) (block rest : List ℕ)
    → (set : IsPlainSet bytes key flags silent block rest)
    → IsKey key
    → Spells (Store key (ops.Set flags block) silent) (set_of key set.flags_field set.size_field silent block)
set_is_spelled bytes key flags silent block rest set is =
    let sizes : IsTrue (nat_le 1 (length key) && nat_le (length key) 250) = (and_parts _ _ is).0 in
    let each : IsTrue (list_all is_key_byte key) = (and_parts _ _ is).1 in
    let short : length key ≤ 250 = leb-true (length key) 250 (and_parts _ _ sizes).1 in
    let fields = key ∷ set.flags_field ∷ codes "0" ∷ set.size_field ∷ noreply silent in
    let text = line_of key set.flags_field set.size_field silent in
    let is_line : IsLine (codes "set" ∷ fields) text = record {
      spelled = refl;
      separate = and_from (is_field key) _
          (key_fits key each)
          (and_from (is_field set.flags_field) (is_field set.size_field && list_all is_field (noreply silent))
          (number_fits (2 ^ 32) flags set.flags_field set.flags_are)
          (and_from (is_field set.size_field) (list_all is_field (noreply silent))
          (number_fits (2 ^ 32) (length block) set.size_field set.size_is) (noreply_fits silent)));
      short = line_is_short key set.flags_field set.size_field silent short set.few_flags set.few_sizes;
    } in
    let are : AreStorage Set fields key (said flags silent block) =
    record {
      flags_field = set.flags_field;
      exptime = codes "0";
      size_field = set.size_field;
      own = [];
      flags = flags;
      fields_are = refl;
      key_is = is;
      flags_is = set.flags_are;
      exptime_is = refl;
      expires_is = refl;
      size_is = set.size_is;
      verb_is = (refl, refl);
    } in
    let whole : IsBlock key (said flags silent block) block crlf (text ++ block ++ crlf) = record {
      storing = Set;
      fields = fields;
      text = text;
      is_line = is_line;
      are_storage = are;
      size_is = refl;
      two = refl;
      spelled = refl;
    } in
    (said flags silent block, block, whole, set.fits, refl, refl, refl)

-- it is found, as it stands
pub lone_set_found : (bytes key : List ℕ) (flags : ℕ) (silent : Bool) (block rest : List ℕ)
    → IsPlainSet bytes key flags silent block rest
    → IsKey key
    → found_at bytes ≡ Requested (Store key (ops.Set flags block) silent) (length bytes - length rest)
lone_set_found bytes key flags silent block rest set is =
    let request = Store key (ops.Set flags block) silent in
    let whole = set_of key set.flags_field set.size_field silent block in
    let cut : bytes ≡ whole ++ rest = set.bytes_are in
    let found : front bytes ≡ Some (request, length whole) =
    ap front cut ∙ spelled_is_found request whole rest (set_is_spelled bytes key flags silent block rest set is) in
    let count : length whole ≡ length bytes - length rest = omega (arith, ap length cut, length-append whole rest) in
    ap (λ f. found_of f (refused_at bytes)) found ∙ ap (λ n. Requested request n) count

-- and what is after it stands after it
pub lone_set_inside : (bytes key : List ℕ) (flags : ℕ) (silent : Bool) (block rest : List ℕ)
    → IsPlainSet bytes key flags silent block rest
    → length rest ≤ length bytes
lone_set_inside bytes key flags silent block rest set =
    let whole = set_of key set.flags_field set.size_field silent block in
    let cut : bytes ≡ whole ++ rest = set.bytes_are in
    omega (arith, ap length cut, length-append whole rest)

-- what was made of such a set stands at the front
pub lone_set_stands : (bytes text key : List ℕ) (flags : ℕ) (silent : Bool) (block copy rest : List ℕ) (end : ℕ)
    → IsPlainSet bytes text flags silent block rest
    → IsKey text
    → key ≡ text
    → copy ≡ block
    → end ≡ length bytes - length rest
    → IsAtFront (record { key = key; flags = flags; silent = silent; block = copy; end = end }) bytes
lone_set_stands bytes text key flags silent block copy rest end set is key_is copy_is end_is = record {
  found = rw (key_is, copy_is, end_is) (lone_set_found bytes text flags silent block rest set is);
  within = omega arith;
  fits = subst (λ xs. length xs ≤ limit) (sym copy_is) set.fits;
}

-- the pieces of such a set, one after another
in_pieces : (key flags size : List ℕ) (silent : Bool) (block rest : List ℕ)
    → set_of key flags size silent block ++ rest
    ≡ 115 ∷ 101 ∷ 116 ∷ 32
    ∷ (key ++ 32 ∷ (flags ++ 32 ∷ 48 ∷ 32 ∷ (size ++ (ending silent ++ (block ++ 13 ∷ 10 ∷ rest)))))
in_pieces key flags size silent block rest =
    ap (λ xs. xs ++ block ++ crlf ++ rest) (line_in_pieces key flags size silent) ∙ simp append_assoc

-- pieces that were cut off one after another make a plain set
pub plain_set_made : (bytes line key fields : List ℕ) (flags : ℕ) (more sized : List ℕ) (size : ℕ)
    (silent : Bool) (come block ends rest : List ℕ)
    → bytes ≡ 115 ∷ 101 ∷ 116 ∷ 32 ∷ line
    → line ≡ key ++ more
    → more ≡ 32 ∷ fields
    → IsNumberBefore (32 ∷ 48 ∷ 32 ∷ []) fields flags sized
    → IsNumberBefore (ending silent) sized size come
    → IsSplitAt come size block ends
    → ends ≡ 13 ∷ 10 ∷ rest
    → length block ≤ limit
    → IsPlainSet bytes key flags silent block rest
plain_set_made bytes line key fields flags more sized size silent come block ends rest word cut gap f s split end fits =
    let joined : come ≡ block ++ ends =
    sym (take-append-drop size come) ∙ ap (λ xs. xs ++ drop size come) (sym split.1) ∙ ap (λ xs. block ++ xs)
    (sym split.2) in
    let pieces : bytes
    ≡ 115 ∷ 101 ∷ 116 ∷ 32
    ∷ (key ++ 32 ∷ (f.field ++ 32 ∷ 48 ∷ 32 ∷ (s.field ++ (ending silent ++ (block ++ 13 ∷ 10 ∷ rest))))) =
    rw (word, cut, gap, f.bytes_are, s.bytes_are, joined, end) refl in
    record {
      flags_field = f.field;
      size_field = s.field;
      bytes_are = pieces ∙ sym (in_pieces key f.field s.field silent block rest);
      flags_are = f.number_is;
      size_is = s.number_is ∙ ap Some (sym split.3);
      few_flags = f.short;
      few_sizes = s.short;
      fits = fits;
    }
