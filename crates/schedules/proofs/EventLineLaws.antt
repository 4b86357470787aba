-- Lines after the head: a line is read as what it is the line of, and as nothing else.
use Rattle.std.proofs.Common.{◌≡◌, ℕ, ◌^◌, ◌<◌, ◌≤◌, ◌⊎◌, inl, inr, Bool, true, false, cond, List, [], ◌∷◌, ◌++◌}
use Rattle.std.proofs.Common.{length, Option, None, Some, refl, ap, ◌∙◌, subst, arith, lit≤}
use Rattle.std.specs.Prelude.{codes, decimal, replicate}
use Rattle.std.specs.Option.{option_and_then, option_map}
use Rattle.std.specs.Str.{bytes_eq}
use Rattle.std.proofs.lemmas.Slice.Eq.{bytes_eq-Decides}
use Rattle.std.proofs.lemmas.Option.{same_Some}
use Rattle.world.specs.declared.events.Event.{Event}
use Rattle.world.specs.declared.events.Event.TheVariants.{Piece, Begin, Work, Deliver, Fail, Tell, Hand}
use Rattle.schedules.specs.declared.event_lines.EventLine.{EventLine}
use Rattle.schedules.specs.declared.event_lines.EventLine.TheVariants.{One, Settle}
use Rattle.schedules.specs.Splits.{space, split_once}
use Rattle.schedules.specs.Numbers.{number_in}
use Rattle.schedules.specs.Escapes.{one_byte, SpellsByte, SpellsBytes}
use Rattle.schedules.specs.EventLines.{connection_number, server_number, text_of, piece_line, fill_fields, fill_line}
use Rattle.schedules.specs.EventLines.{two_servers, call_line, word_line, event_line}
use Rattle.schedules.specs.SpelledSchedules.{IsPieceLine, IsFillLine, IsCallLine, IsPairLine, IsLineOf, IsEventLine}
use Rattle.schedules.proofs.EscapeLaws.{spelled_bytes_read, read_bytes_spelled, one_byte_read, one_byte_spelled}
use Rattle.schedules.proofs.NumberLaws.{number_read, number_spelled, no_space_in_number}
use Rattle.schedules.proofs.SplitLaws.{split_read, split_spelled}

-- what was handed on, and what came of it
pub then_parts : {A B : Type 0} (f : A → Option B) (o : Option A) (y : B)
    → option_and_then f o ≡ Some y
    → (x : A) × (o ≡ Some x) × (f x ≡ Some y)
then_parts f None y e = cc
then_parts f (Some x) y e = (x, refl, e)

map_parts : {A B : Type 0} (f : A → B) (o : Option A) (y : B)
    → option_map f o ≡ Some y
    → (x : A) × (o ≡ Some x) × (f x ≡ y)
map_parts f None y e = cc
map_parts f (Some x) y e = (x, refl, cc)

-- the line has this word in front, or another
pub by_word : {X : Type 0} (word name : List ℕ) (o others : Option X) (x : X)
    → cond (bytes_eq word name) o others ≡ Some x
    → ((word ≡ name) × (o ≡ Some x)) ⊎ (others ≡ Some x)
by_word {X} word name o others x h = by_test (bytes_eq word name) refl h
  where
    by_test : (b : Bool)
        → bytes_eq word name ≡ b
        → cond b o others ≡ Some x
        → ((word ≡ name) × (o ≡ Some x)) ⊎ (others ≡ Some x)
    by_test true is e = inl ((bytes_eq-Decides word name).0 is, e)
    by_test false is e = inr e

-- two parts, and what they are
pub parts_are : (line front rest name field : List ℕ)
    → line ≡ front ++ space ∷ rest
    → front ≡ name
    → rest ≡ field
    → line ≡ name ++ space ∷ field
parts_are line front rest name field is first second = is ∙ rw (first, second) refl

-- the numbers of connections and servers
connection_read : (c : ℕ) → c < 1000 → connection_number (decimal c) ≡ Some c
connection_read c low = number_read 0 1000 c (lit≤ tt) (omega arith) low

connection_spelled : (field : List ℕ) (c : ℕ) → connection_number field ≡ Some c → (c < 1000) × (field ≡ decimal c)
connection_spelled field c h = let is = number_spelled 0 1000 field c (lit≤ tt) h in (is.1, is.2)

server_read : (i : ℕ) → i < 100 → server_number (decimal i) ≡ Some i
server_read i low = number_read 0 100 i (lit≤ tt) (omega arith) low

server_spelled : (field : List ℕ) (i : ℕ) → server_number field ≡ Some i → (i < 100) × (field ≡ decimal i)
server_spelled field i h = let is = number_spelled 0 100 field i (lit≤ tt) h in (is.1, is.2)

-- a number and what stands after its space
number_split : (n : ℕ) (rest : List ℕ) → n < 2 ^ 64
    → split_once space (decimal n ++ space ∷ rest) ≡ Some (decimal n, rest)
number_split n rest small = split_read space (decimal n) rest refl (no_space_in_number n small)

below_1000 : (n : ℕ) → n < 1000 → n < 2 ^ 64
below_1000 n low = let wide : 1000 ≤ 2 ^ 64 = lit≤ tt in omega arith

-- TEXT
text_read : (bytes text : List ℕ) → 1 ≤ length text → SpellsBytes bytes text → text_of text ≡ Some bytes
text_read bytes [] some h = absurd (omega arith)
text_read bytes (b ∷ bs) some h = spelled_bytes_read bytes (b ∷ bs) h

text_spelled : (text bytes : List ℕ) → text_of text ≡ Some bytes → (1 ≤ length text) × SpellsBytes bytes text
text_spelled [] bytes h = cc
text_spelled (b ∷ bs) bytes h = (omega arith, read_bytes_spelled bytes (b ∷ bs) h)

piece_read : (c : ℕ) (bytes line : List ℕ) → IsPieceLine c bytes line → event_line line ≡ Some (One (Piece c bytes))
piece_read c bytes line h =
    let split = number_split c h.text (below_1000 c h.number) in
    rw (h.line_is, split, connection_read c h.number, text_read bytes h.text h.some h.text_is) refl

fill_read : (c : ℕ) (bytes line : List ℕ) → IsFillLine c bytes line → event_line line ≡ Some (One (Piece c bytes))
fill_read c bytes line h =
    let few : h.copies < 2000001 = let a = h.few in omega arith in
    let wide : 2000001 ≤ 2 ^ 64 = lit≤ tt in
    let first = number_split c (decimal h.copies ++ space ∷ h.text) (below_1000 c h.number) in
    let second = number_split h.copies h.text (omega arith) in
    rw (
      h.line_is,
      h.bytes_are,
      first,
      second,
      connection_read c h.number,
      number_read 1 2000001 h.copies wide h.some
          few,
      one_byte_read h.byte h.text h.text_is,
    ) refl

line_read : (event : Event) (line : List ℕ) → IsLineOf event line → event_line line ≡ Some (One event)
line_read (Piece c bytes) line h =
    elim h [ inl piece ↦ piece_read c bytes line piece | inr fill ↦ fill_read c bytes line fill ]
line_read (Begin c) line h = rw (h.1, connection_read c h.0) refl
line_read (Work c) line h = rw (h.1, connection_read c h.0) refl
line_read (Hand c) line h = rw (h.1, connection_read c h.0) refl
line_read (Fail i) line h = rw (h.1, server_read i h.0) refl
line_read (Deliver i j) line h =
    rw (h.2, number_split i (decimal j) (below_1000 i (omega (arith, h.0))), server_read i h.0, server_read j h.1) refl
line_read (Tell i j) line h =
    rw (h.2, number_split i (decimal j) (below_1000 i (omega (arith, h.0))), server_read i h.0, server_read j h.1) refl

-- a line is read as what it says
pub event_read : (said : EventLine) (line : List ℕ) → IsEventLine said line → event_line line ≡ Some said
event_read (One event) line h = line_read event line h
event_read (Settle rounds) line h = rw (h.2, number_read 1 501 rounds (lit≤ tt) h.0 (omega (arith, h.1))) refl

piece_spelled : (rest line : List ℕ) (event : Event)
    → line ≡ codes "piece" ++ space ∷ rest
    → piece_line rest ≡ Some event
    → IsLineOf event line
piece_spelled rest line event is h =
    let c = then_parts _ (split_once space rest) event h in
    let n = then_parts _ (connection_number c.0.0) event c.2 in
    let t = then_parts _ (text_of c.0.1) event n.2 in
    let (low, field) = connection_spelled c.0.0 n.0 n.1 in
    let (some, spells) = text_spelled c.0.1 t.0 t.1 in
    let behind : rest ≡ decimal n.0 ++ space ∷ c.0.1 =
    parts_are rest c.0.0 c.0.1 (decimal n.0) c.0.1 (split_spelled space rest c.0.0 c.0.1 c.1) field refl in
    subst (λ e. IsLineOf e line) (same_Some (Piece n.0 t.0) event t.2)
    (inl (record {
      text = c.0.1;
      number = low;
      some = some;
      text_is = spells;
      line_is = is ∙ ap (λ r. codes "piece" ++ space ∷ r) behind;
    }))

fill_fields_spelled : (rest : List ℕ) (c n b : ℕ)
    → fill_fields rest ≡ Some (c, n, b)
    → (line : List ℕ)
    → line ≡ codes "fill" ++ space ∷ rest
    → IsFillLine c (replicate n b) line
fill_fields_spelled rest c n b h line is =
    let first = then_parts _ (split_once space rest) (c, n, b) h in
    let second = then_parts _ (split_once space first.0.1) (c, n, b) first.2 in
    let number = then_parts _ (connection_number first.0.0) (c, n, b) second.2 in
    let copies = then_parts _ (number_in 1 2000001 second.0.0) (c, n, b) number.2 in
    let byte = then_parts _ (one_byte second.0.1) (c, n, b) copies.2 in
    let same = same_Some {A = ℕ × ℕ × ℕ} (number.0, copies.0, byte.0) (c, n, b) byte.2 in
    let c_is : number.0 ≡ c = ap (λ (p : ℕ × ℕ × ℕ). p.0) same in
    let n_is : copies.0 ≡ n = ap (λ (p : ℕ × ℕ × ℕ). p.1) same in
    let b_is : byte.0 ≡ b = ap (λ (p : ℕ × ℕ × ℕ). p.2) same in
    let (low, field) = connection_spelled first.0.0 number.0 number.1 in
    let (some, few, amount) = number_spelled 1 2000001 second.0.0 copies.0 (lit≤ tt) copies.1 in
    let later : first.0.1 ≡ decimal n ++ space ∷ second.0.1 =
    parts_are first.0.1 second.0.0 second.0.1 (decimal n) second.0.1
    (split_spelled space first.0.1 second.0.0 second.0.1 second.1) (amount ∙ ap decimal n_is) refl in
    let behind : rest ≡ decimal c ++ space ∷ (decimal n ++ space ∷ second.0.1) =
    parts_are rest first.0.0 first.0.1 (decimal c) (decimal n ++ space ∷ second.0.1)
    (split_spelled space rest first.0.0 first.0.1 first.1) (field ∙ ap decimal c_is) later in
    record {
      copies = n;
      byte = b;
      text = second.0.1;
      number = subst (λ m. m < 1000) c_is low;
      some = subst (λ m. 1 ≤ m) n_is some;
      few = omega arith;
      text_is = subst (λ m. SpellsByte m second.0.1) b_is (one_byte_spelled byte.0 second.0.1 byte.1);
      bytes_are = refl;
      line_is = is ∙ ap (λ r. codes "fill" ++ space ∷ r) behind;
    }

fill_spelled : (rest line : List ℕ) (event : Event)
    → line ≡ codes "fill" ++ space ∷ rest
    → fill_line rest ≡ Some event
    → IsLineOf event line
fill_spelled rest line event is h =
    let f = then_parts _ (fill_fields rest) event h in
    subst (λ e. IsLineOf e line) (same_Some (Piece f.0.0 (replicate f.0.1 f.0.2)) event f.2)
    (inr (fill_fields_spelled rest f.0.0 f.0.1 f.0.2 f.1 line is))

pair_spelled : (word rest line : List ℕ) (i j : ℕ)
    → line ≡ word ++ space ∷ rest
    → two_servers rest ≡ Some (i, j)
    → IsPairLine word i j line
pair_spelled word rest line i j is h =
    let c = then_parts _ (split_once space rest) (i, j) h in
    let first = then_parts _ (server_number c.0.0) (i, j) c.2 in
    let second = then_parts _ (server_number c.0.1) (i, j) first.2 in
    let same = same_Some {A = ℕ × ℕ} (first.0, second.0) (i, j) second.2 in
    let i_is : first.0 ≡ i = ap (λ (p : ℕ × ℕ). p.0) same in
    let j_is : second.0 ≡ j = ap (λ (p : ℕ × ℕ). p.1) same in
    let (low, field) = server_spelled c.0.0 first.0 first.1 in
    let (under, other) = server_spelled c.0.1 second.0 second.1 in
    let behind : rest ≡ decimal i ++ space ∷ decimal j =
    parts_are rest c.0.0 c.0.1 (decimal i) (decimal j) (split_spelled space rest c.0.0 c.0.1 c.1)
    (field ∙ ap decimal i_is) (other ∙ ap decimal j_is) in
    (subst (λ m. m < 100) i_is low, subst (λ m. m < 100) j_is under, is ∙ ap (λ r. word ++ space ∷ r) behind)

call_spelled : (word rest line : List ℕ) (event : Event)
    → line ≡ word ++ space ∷ rest
    → call_line word rest ≡ Some event
    → IsLineOf event line
call_spelled word rest line event is h =
    let n = then_parts _ (connection_number rest) event h in
    let (low, field) = connection_spelled rest n.0 n.1 in
    let as_call = λ (name : List ℕ) (same : word ≡ name). let whole : IsCallLine name n.0 line =
    (low, parts_are line word rest name (decimal n.0) is same field) in whole in
    elim (by_word word (codes "begin") (Some (Begin n.0)) _ event n.2) [
      | inl (same, e) ↦ subst (λ e. IsLineOf e line) (same_Some (Begin n.0) event e) (as_call (codes "begin") same)
      | inr h ↦ elim (by_word word (codes "work") (Some (Work n.0)) _ event h) [
        | inl (same, e) ↦ subst (λ e. IsLineOf e line) (same_Some (Work n.0) event e) (as_call (codes "work") same)
        | inr h ↦ elim (by_word word (codes "hand") (Some (Hand n.0)) _ event h) [
          | inl (same, e) ↦ subst (λ e. IsLineOf e line) (same_Some (Hand n.0) event e) (as_call (codes "hand") same)
          | inr e ↦ cc
        ]
      ]
    ]

deliver_spelled : (rest line : List ℕ) (event : Event)
    → line ≡ codes "deliver" ++ space ∷ rest
    → option_map (λ p. Deliver p.0 p.1) (two_servers rest) ≡ Some event
    → IsLineOf event line
deliver_spelled rest line event is h =
    let p = map_parts _ (two_servers rest) event h in
    subst (λ e. IsLineOf e line) p.2 (pair_spelled (codes "deliver") rest line p.0.0 p.0.1 is p.1)

tell_spelled : (rest line : List ℕ) (event : Event)
    → line ≡ codes "tell" ++ space ∷ rest
    → option_map (λ p. Tell p.0 p.1) (two_servers rest) ≡ Some event
    → IsLineOf event line
tell_spelled rest line event is h =
    let p = map_parts _ (two_servers rest) event h in
    subst (λ e. IsLineOf e line) p.2 (pair_spelled (codes "tell") rest line p.0.0 p.0.1 is p.1)

fail_spelled : (rest line : List ℕ) (event : Event)
    → line ≡ codes "fail" ++ space ∷ rest
    → option_map Fail (server_number rest) ≡ Some event
    → IsLineOf event line
fail_spelled rest line event is h =
    let n = map_parts _ (server_number rest) event h in
    let (low, field) = server_spelled rest n.0 n.1 in
    subst (λ e. IsLineOf e line) n.2 (low, is ∙ ap (λ r. codes "fail" ++ space ∷ r) field)

-- with this word in front
named : (line word rest name : List ℕ) → line ≡ word ++ space ∷ rest → word ≡ name → line ≡ name ++ space ∷ rest
named line word rest name is same = parts_are line word rest name rest is same refl

line_spelled : (word rest line : List ℕ) (event : Event)
    → line ≡ word ++ space ∷ rest
    → word_line word rest ≡ Some event
    → IsLineOf event line
line_spelled word rest line event is h = elim (by_word word (codes "piece") (piece_line rest) _ event h) [
  | inl (same, e) ↦ piece_spelled rest line event (named line word rest (codes "piece") is same) e
  | inr h ↦ elim (by_word word (codes "fill") (fill_line rest) _ event h) [
    | inl (same, e) ↦ fill_spelled rest line event (named line word rest (codes "fill") is same) e
    | inr h ↦ elim (by_word word (codes "deliver") (option_map (λ p. Deliver p.0 p.1) (two_servers rest)) _ event h) [
      | inl (same, e) ↦ deliver_spelled rest line event (named line word rest (codes "deliver") is same) e
      | inr h ↦ elim (by_word word (codes "fail") (option_map Fail (server_number rest)) _ event h) [
        | inl (same, e) ↦ fail_spelled rest line event (named line word rest (codes "fail") is same) e
        | inr h ↦ elim (by_word word (codes "tell") (option_map (λ p. Tell p.0 p.1) (two_servers rest)) _ event h) [
          | inl (same, e) ↦ tell_spelled rest line event (named line word rest (codes "tell") is same) e
          | inr e ↦ call_spelled word rest line event is e
        ]
      ]
    ]
  ]
]

settle_spelled : (rest line : List ℕ) (said : EventLine)
    → line ≡ codes "settle" ++ space ∷ rest
    → option_map Settle (number_in 1 501 rest) ≡ Some said
    → IsEventLine said line
settle_spelled rest line said is h =
    let n = map_parts Settle (number_in 1 501 rest) said h in
    let (some, few, field) = number_spelled 1 501 rest n.0 (lit≤ tt) n.1 in
    subst (λ s. IsEventLine s line) n.2 (some, omega arith, is ∙ ap (λ r. codes "settle" ++ space ∷ r) field)

one_spelled : (word rest line : List ℕ) (said : EventLine)
    → line ≡ word ++ space ∷ rest
    → option_map One (word_line word rest) ≡ Some said
    → IsEventLine said line
one_spelled word rest line said is h =
    let e = map_parts One (word_line word rest) said h in
    subst (λ s. IsEventLine s line) e.2 (line_spelled word rest line e.0 is e.1)

-- what a line is read as it says
pub event_spelled : (line : List ℕ) (said : EventLine) → event_line line ≡ Some said → IsEventLine said line
event_spelled line said h =
    let c = then_parts _ (split_once space line) said h in
    let is : line ≡ c.0.0 ++ space ∷ c.0.1 = split_spelled space line c.0.0 c.0.1 c.1 in
    elim (by_word c.0.0 (codes "settle") (option_map Settle (number_in 1 501 c.0.1))
    (option_map One (word_line c.0.0 c.0.1)) said c.2) [
      | inl (same, e) ↦ settle_spelled c.0.1 line said (named line c.0.0 c.0.1 (codes "settle") is same) e
      | inr e ↦ one_spelled c.0.0 c.0.1 line said is e
    ]
