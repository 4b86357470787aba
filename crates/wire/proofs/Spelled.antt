-- What the format says is the one spelling of a frame that is in range, and what it says spells nothing else.
use Rattle.std.proofs.Common.{◌≡◌, ◌⊎◌, ℕ, zero, suc, ◌^◌, ◌<◌, ◌≤◌, Bool, true, false, List, [], ◌∷◌, ◌++◌, length}
use Rattle.std.proofs.Common.{refl, sym, ap, subst, ◌∙◌, arith, inl, inr}
use Rattle.std.specs.Prelude.{nat_le, ◌==◌, IsTrue}
use Rattle.std.specs.List.{list_all}
use Rattle.std.specs.Int.{w32, w64}
use Rattle.std.proofs.lemmas.Bool.{ltb-true, leb-true, le-leb, and_parts, and_from, eqb-true, ne_eqb}
use Rattle.std.proofs.lemmas.List.{append-nil}
use Rattle.table.specs.Items.{limit}
use Rattle.table.specs.Keys.{IsKey, is_key_byte}
use Rattle.table.specs.Operations.{Fits, is_flush, is_update}
use Rattle.table.specs.declared.operations.Target.{Target}
use Rattle.table.specs.declared.operations.Target.TheVariants.{One, All}
use Rattle.table.specs.declared.operations.Op.{Op}
use Rattle.table.specs.declared.operations.Op.TheVariants.{Read, Set, Add, Replace, Append, Prepend, Cas, Incr, Decr}
use Rattle.table.specs.declared.operations.Op.TheVariants.{Delete, Flush}
use Rattle.wire.specs.Spellings.{four_bytes, eight_bytes, key_spelling, target_spelling, block_spelling, op_spelling}
use Rattle.wire.specs.Spellings.{IsTarget, HasWidths}
use Rattle.wire.specs.Parts.{Part, followed, makes, refused, either, byte, number, text_of}
use Rattle.wire.specs.Grammar as format
use Rattle.wire.specs.Grammar.{any, positive, at_most, below, is_key_length}

-- ---- parts

-- one of two parts
pub by_test : {A : Type 0} (b : Bool) (p q : Part A) (x : A) (text : List ℕ)
    → (either b p q).Spells x text
    → ((b ≡ true) × p.Spells x text) ⊎ ((b ≡ false) × q.Spells x text)
by_test true p q x text s = inl (refl, s)
by_test false p q x text s = inr (refl, s)

-- what is made of a part
pub from_made : {A B : Type 0} (p : Part A) (f : A → B) (y : B) (text : List ℕ)
    → (followed p (λ x. makes (f x))).Spells y text
    → (x : A) × p.Spells x text × (y ≡ f x)
from_made p f y text s =
    (s.0, subst (p.Spells s.0) (sym (s.5 ∙ ap (λ (t : List ℕ). s.1 ++ t) s.4.1 ∙ append-nil s.1)) s.3, s.4.0)

-- what is made of a part is spelled as the part is
pub to_made : {A B : Type 0} (p : Part A) (f : A → B) (x : A) (text : List ℕ)
    → p.Spells x text
    → (followed p (λ x. makes (f x))).Spells (f x) text
to_made p f x text s = (x, text, [], s, (refl, refl), sym (append-nil text))

-- ---- ranges

-- who passes the test of a greatest number is at most that
pub at_most_is : (most n : ℕ) → at_most most n ≡ true → n ≤ most
at_most_is most n e = leb-true n most e

-- who passes the test of an end is below that
pub below_is : (end n : ℕ) → below end n ≡ true → n < end
below_is end n e = ltb-true n end e

-- ---- texts of keys

text_from : (n : ℕ) (x text : List ℕ)
    → (text_of is_key_byte n).Spells x text
    → (text ≡ x) × (length x ≡ n) × IsTrue (list_all is_key_byte x)
text_from zero x text s = (s.1 ∙ sym s.0, ap length s.0, ap (list_all is_key_byte) s.0)
text_from (suc n) x text s =
    let m = from_made (text_of is_key_byte n) (λ bs. s.0 ∷ bs) x s.2 s.4 in
    let h = text_from n m.0 s.2 m.1 in (
      s.5 ∙ ap (λ (t : List ℕ). t ++ s.2) s.3.1 ∙ ap (λ (t : List ℕ). s.0 ∷ t) h.0 ∙ sym m.2,
      ap length m.2 ∙ ap suc h.1,
      ap (list_all is_key_byte) m.2 ∙ and_from (is_key_byte s.0) (list_all is_key_byte m.0) s.3.0 h.2,
    )

text_to : (x : List ℕ) → IsTrue (list_all is_key_byte x) → (text_of is_key_byte (length x)).Spells x x
text_to [] h = (refl, refl)
text_to (b ∷ x) h =
    let p = and_parts (is_key_byte b) (list_all is_key_byte x) h in
    (b, b ∷ [], x, (p.0, refl), to_made (text_of is_key_byte (length x)) (λ bs. b ∷ bs) x x (text_to x p.1), refl)

-- what the format spells as a key is the key's spelling
pub key_from : (x text : List ℕ) → format.key.Spells x text → (text ≡ key_spelling x) × IsKey x
key_from x text s =
    let h = text_from s.0 x s.2 s.4 in
    let same = h.1 in
    let range : is_key_length (length x) ≡ true = ap is_key_length h.1 ∙ s.3.0 in (
      s.5 ∙ ap (λ (t : List ℕ). t ++ s.2) s.3.1 ∙ ap (λ (t : List ℕ). s.0 ∷ t) h.0 ∙ ap (λ (n : ℕ). n ∷ x) (sym h.1),
      and_from (is_key_length (length x)) (list_all is_key_byte x) range h.2,
    )

-- the format spells each key by its spelling
pub key_to : (x : List ℕ) → IsKey x → format.key.Spells x (key_spelling x)
key_to x h =
    let p = and_parts (is_key_length (length x)) (list_all is_key_byte x) h in
    (length x, length x ∷ [], x, (p.0, refl), text_to x p.1, refl)

positive_if : (n : ℕ) → (n == 0) ≡ false → 1 ≤ n
positive_if zero e = absurd cc
positive_if (suc n) e = omega arith

-- what the format spells as a target is the target's spelling
pub target_from : (on : Target) (text : List ℕ)
    → format.target.Spells on text
    → (text ≡ target_spelling on) × IsTarget on
target_from on text s =
    elim (by_test (s.0 == 0) (makes All) (followed (text_of is_key_byte s.0) (λ k. makes (One k))) on s.2 s.4) [
      | inl none ↦
          let spelled : text ≡ 0 ∷ [] = s.5 ∙ ap (λ (t : List ℕ). t ++ s.2) s.3.1
          ∙ ap (λ (t : List ℕ). s.0 ∷ t) none.1.1 ∙ ap (λ (n : ℕ). n ∷ []) (eqb-true s.0 0 none.0) in
          subst (λ on. (text ≡ target_spelling on) × IsTarget on) (sym none.1.0) (spelled, tt)
      | inr some ↦
          let m = from_made (text_of is_key_byte s.0) One on s.2 some.1 in
          let some_bytes = positive_if s.0 some.0 in
          let h = key_from m.0 text (
            s.0,
            s.1,
            s.2,
            (and_from (nat_le 1 s.0) (nat_le s.0 250) (le-leb 1 s.0 some_bytes) s.3.0, s.3.1),
            m.1,
            s.5,
          ) in
          subst (λ on. (text ≡ target_spelling on) × IsTarget on) (sym m.2) h
    ]

-- the format spells each target by its spelling
pub target_to : (on : Target) → IsTarget on → format.target.Spells on (target_spelling on)
target_to All h = (0, 0 ∷ [], [], (refl, refl), (refl, refl), refl)
target_to (One k) h =
    let p = and_parts (is_key_length (length k)) (list_all is_key_byte k) h in
    let range = and_parts (nat_le 1 (length k)) (nat_le (length k) 250) p.0 in
    let some_bytes = leb-true 1 (length k) range.0 in
    let text = text_to k p.1 in
    let not_all : (length k == 0) ≡ false = ne_eqb (length k) 0 (λ e. omega arith) in (
      length k,
      length k ∷ [],
      k,
      (range.1, refl),
      other (length k == 0) not_all (makes All) (followed (text_of is_key_byte (length k)) (λ k. makes (One k)))
          (One k) k (to_made (text_of is_key_byte (length k)) One k k text),
      refl,
    )
  where
    other : {A : Type 0} (b : Bool)
        → b ≡ false
        → (p q : Part A) (x : A) (text : List ℕ)
        → q.Spells x text
        → (either b p q).Spells x text
    other true e p q x text s = absurd cc
    other false e p q x text s = s

-- ---- data

-- parts one after another, by what each is
pub joined : (text a b x y : List ℕ) → text ≡ a ++ b → a ≡ x → b ≡ y → text ≡ x ++ y
joined text a b x y e ea eb = e ∙ ap (λ (a : List ℕ). a ++ b) ea ∙ ap (λ (b : List ℕ). x ++ b) eb

-- what the format spells as data is the data's spelling, and within the limit
pub block_from : (x text : List ℕ) → format.block.Spells x text → (text ≡ block_spelling x) × (length x ≤ limit)
block_from x text s = (
  joined text s.1 s.2 (four_bytes (length x)) x s.5 (s.3.2 ∙ ap four_bytes (sym s.4.0)) s.4.1,
  subst (λ n. n ≤ limit) (sym s.4.0) (at_most_is limit s.0 s.3.1),
)

-- the format spells data within the limit by its spelling
pub block_to : (x : List ℕ) → length x ≤ limit → format.block.Spells x (block_spelling x)
block_to x le =
    (length x, four_bytes (length x), x, (omega arith, le-leb (length x) limit le, refl), (refl, refl), refl)

-- what the format spells as flags and data is their spelling, in range
pub flagged_from : (x : ℕ × List ℕ) (text : List ℕ)
    → format.flagged.Spells x text
    → (text ≡ four_bytes x.0 ++ block_spelling x.1) × (x.0 < 2 ^ 32) × (length x.1 ≤ limit)
flagged_from x text s =
    let m = from_made format.block (λ b. (s.0, b)) x s.2 s.4 in
    let h = block_from m.0 s.2 m.1 in
    subst (λ (x : ℕ × List ℕ). (text ≡ four_bytes x.0 ++ block_spelling x.1) × (x.0 < 2 ^ 32)
    × (length x.1 ≤ limit)) (sym m.2)
    (joined text s.1 s.2 (four_bytes s.0) (block_spelling m.0) s.5 s.3.2 h.0, s.3.0, h.1)

-- the format spells flags and data that are in range by their spelling
pub flagged_to : (x : ℕ × List ℕ)
    → x.0 < 2 ^ 32
    → length x.1 ≤ limit
    → format.flagged.Spells x (four_bytes x.0 ++ block_spelling x.1)
flagged_to x lt le = (
  x.0,
  four_bytes x.0,
  block_spelling x.1,
  (lt, refl, refl),
  to_made format.block (λ b. (x.0, b)) x.1 (block_spelling x.1) (block_to x.1 le),
  refl,
)

-- ---- by codes

-- a value that is made of a part, if the code is this one
pub by_part : {A B : Type 0} (Q : ℕ → B → List ℕ → Type 0) (p : Part A) (make : A → B) (n code : ℕ) (y : B)
    (text : List ℕ)
    → (code == n) ≡ true
    → ((x : A) (t : List ℕ) → p.Spells x t → Q n (make x) t)
    → (followed p (λ x. makes (make x))).Spells y text
    → Q code y text
by_part Q p make n code y text e h s =
    let m = from_made p make y text s in
    subst (λ c. Q c y text) (sym (eqb-true code n e)) (subst (λ y. Q n y text) (sym m.2) (h m.0 text m.1))

-- a value that is made of nothing more, if the code is this one
pub by_value : {B : Type 0} (Q : ℕ → B → List ℕ → Type 0) (value : B) (n code : ℕ) (y : B) (text : List ℕ)
    → (code == n) ≡ true
    → Q n value []
    → (makes value).Spells y text
    → Q code y text
by_value Q value n code y text e h s =
    subst (λ c. Q c y text) (sym (eqb-true code n e))
    (subst (λ y. Q n y text) (sym s.0) (subst (λ t. Q n value t) (sym s.1) h))

-- what is spelled by a code and what stands after it, for all keys or for one
pub by_code : {A : Type 0} (all : Bool) (own : ℕ) (value : A) (p : ℕ → Part A) (Q : Bool → A → List ℕ → Type 0)
    → Q true value (own ∷ [])
    → ((code : ℕ) (y : A) (t : List ℕ) → (p code).Spells y t → Q false y (code ∷ t))
    → (y : A) (text : List ℕ)
    → (followed (byte any) (λ code. either all (either (code == own) (makes value) refused) (p code))).Spells y text
    → Q all y text
by_code true own value p Q one each y text s =
    elim (by_test (s.0 == own) (makes value) refused y s.2 s.4) [
      | inl h ↦
          let spelled : own ∷ [] ≡ text =
          sym (s.5 ∙ ap (λ (t : List ℕ). t ++ s.2) s.3.1 ∙ ap (λ (t : List ℕ). s.0 ∷ t) h.1.1
          ∙ ap (λ (n : ℕ). n ∷ []) (eqb-true s.0 own h.0)) in
          subst (λ y. Q true y text) (sym h.1.0) (subst (λ t. Q true value t) spelled one)
      | inr h ↦ absurd h.1
    ]
by_code false own value p Q one each y text s =
    let spelled : s.0 ∷ s.2 ≡ text = sym (s.5 ∙ ap (λ (t : List ℕ). t ++ s.2) s.3.1) in
    subst (λ t. Q false y t) spelled (each s.0 y s.2 s.4)

-- the other way
pub with_code : {A : Type 0} (own : ℕ) (value : A) (p : ℕ → Part A) (code : ℕ) (y : A) (t : List ℕ)
    → (p code).Spells y t
    → (followed (byte any) (λ code. either false (either (code == own) (makes value) refused) (p code))).Spells y
    (code ∷ t)
with_code own value p code y t s = (code, code ∷ [], t, (refl, refl), s, refl)

-- ---- operations

-- an operation that is sent, and its bytes
pub record SentOp (all : Bool) (op : Op) (text : List ℕ) : Type 0 where
  pub spelled : text ≡ op_spelling op
  pub fits : Fits op
  pub widths : HasWidths op
  pub update : is_update op ≡ true
  pub aimed : is_flush op ≡ all

-- after its code
abbrev Behind : ℕ → Op → List ℕ → Type 0
Behind code op text = SentOp false op (code ∷ text)

cas_from : (op : Op) (code : ℕ) (text : List ℕ) → (code == 6) ≡ true
    → (followed (number w32 any)
    (λ flags. followed (number w64 any)
    (λ unique. followed format.block (λ bytes. makes (Cas flags bytes unique))))).Spells op text
    → Behind code op text
cas_from op code text e s =
    let u = s.4 in
    let m = from_made format.block (λ bytes. Cas s.0 bytes u.0) op u.2 u.4 in
    let h = block_from m.0 u.2 m.1 in
    let behind : s.2 ≡ eight_bytes u.0 ++ block_spelling m.0 =
    joined s.2 u.1 u.2 (eight_bytes u.0) (block_spelling m.0) u.5 u.3.2 h.0 in
    let spelled : text ≡ four_bytes s.0 ++ (eight_bytes u.0 ++ block_spelling m.0) =
    joined text s.1 s.2 (four_bytes s.0) (eight_bytes u.0 ++ block_spelling m.0) s.5 s.3.2 behind in
    subst (λ c. Behind c op text) (sym (eqb-true code 6 e))
    (subst (λ op. Behind 6 op text) (sym m.2)
    (record {
      spelled = ap (λ (t : List ℕ). 6 ∷ t) spelled;
      fits = h.1;
      widths = (s.3.0, u.3.0);
      update = refl;
      aimed = refl;
    }))

key_operation_from : (code : ℕ) (op : Op) (text : List ℕ)
    → (format.key_operation code).Spells op text
    → Behind code op text
key_operation_from code op text s0 =
    elim (by_test (code == 1) _ _ op text s0) [
      | inl h ↦ by_part Behind format.flagged (λ x. Set x.0 x.1) 1 code op text h.0
          (λ x t s. let f = flagged_from x t s in
          record {
            spelled = ap (λ (t : List ℕ). 1 ∷ t) f.0;
            fits = f.2;
            widths = f.1;
            update = refl;
            aimed = refl;
          }) h.1
      | inr s1 ↦ elim (by_test (code == 2) _ _ op text s1.1) [
        | inl h ↦ by_part Behind format.flagged (λ x. Add x.0 x.1) 2 code op text h.0
            (λ x t s. let f = flagged_from x t s in
            record {
              spelled = ap (λ (t : List ℕ). 2 ∷ t) f.0;
              fits = f.2;
              widths = f.1;
              update = refl;
              aimed = refl;
            }) h.1
        | inr s2 ↦ elim (by_test (code == 3) _ _ op text s2.1) [
          | inl h ↦ by_part Behind format.flagged (λ x. Replace x.0 x.1) 3 code op text h.0
              (λ x t s. let f = flagged_from x t s in
              record {
                spelled = ap (λ (t : List ℕ). 3 ∷ t) f.0;
                fits = f.2;
                widths = f.1;
                update = refl;
                aimed = refl;
              }) h.1
          | inr s3 ↦ elim (by_test (code == 4) _ _ op text s3.1) [
            | inl h ↦ by_part Behind format.block Append 4 code op text h.0
                (λ x t s. let f = block_from x t s in
                record {
                  spelled = ap (λ (t : List ℕ). 4 ∷ t) f.0;
                  fits = f.1;
                  widths = tt;
                  update = refl;
                  aimed = refl;
                }) h.1
            | inr s4 ↦ elim (by_test (code == 5) _ _ op text s4.1) [
              | inl h ↦ by_part Behind format.block Prepend 5 code op text h.0
                  (λ x t s. let f = block_from x t s in
                  record {
                    spelled = ap (λ (t : List ℕ). 5 ∷ t) f.0;
                    fits = f.1;
                    widths = tt;
                    update = refl;
                    aimed = refl;
                  }) h.1
              | inr s5 ↦ elim (by_test (code == 6) _ _ op text s5.1) [
                | inl h ↦ cas_from op code text h.0 h.1
                | inr s6 ↦ elim (by_test (code == 7) _ _ op text s6.1) [
                  | inl h ↦ by_part Behind (number w64 any) Incr 7 code op text h.0
                      (λ x t s. record {
                        spelled = ap (λ (t : List ℕ). 7 ∷ t) s.2;
                        fits = tt;
                        widths = s.0;
                        update = refl;
                        aimed = refl;
                      }) h.1
                  | inr s7 ↦ elim (by_test (code == 8) _ _ op text s7.1) [
                    | inl h ↦ by_part Behind (number w64 any) Decr 8 code op text h.0
                        (λ x t s. record {
                          spelled = ap (λ (t : List ℕ). 8 ∷ t) s.2;
                          fits = tt;
                          widths = s.0;
                          update = refl;
                          aimed = refl;
                        }) h.1
                    | inr s8 ↦ elim (by_test (code == 9) _ _ op text s8.1) [
                      | inl h ↦ by_value Behind Delete 9 code op text h.0
                          (record { spelled = refl; fits = tt; widths = tt; update = refl; aimed = refl }) h.1
                      | inr s9 ↦ absurd s9.1
                    ]
                  ]
                ]
              ]
            ]
          ]
        ]
      ]
    ]

-- what the format spells as an operation is one that is sent, by its bytes
pub op_from : (all : Bool) (op : Op) (text : List ℕ) → (format.operation all).Spells op text → SentOp all op text
op_from all op text s =
    by_code all 10 Flush format.key_operation SentOp
    (record { spelled = refl; fits = tt; widths = tt; update = refl; aimed = refl }) key_operation_from op text s

-- a number of eight bytes makes a value
pub amount_to : {A : Type 0} (f : ℕ → A) (n : ℕ)
    → n < 2 ^ 64
    → (followed (number w64 any) (λ n. makes (f n))).Spells (f n) (eight_bytes n)
amount_to f n lt = to_made (number w64 any) f n (eight_bytes n) (lt, refl, refl)

-- the format spells each update that fits by its bytes
pub op_to : (op : Op)
    → Fits op
    → HasWidths op
    → is_update op ≡ true
    → (format.operation (is_flush op)).Spells op (op_spelling op)
op_to Read f w u = absurd cc
op_to (Set flags bytes) f w u =
    with_code 10 Flush format.key_operation 1 (Set flags bytes) (four_bytes flags ++ block_spelling bytes)
    (to_made format.flagged (λ x. Set x.0 x.1) (flags, bytes) _ (flagged_to (flags, bytes) w f))
op_to (Add flags bytes) f w u =
    with_code 10 Flush format.key_operation 2 (Add flags bytes) (four_bytes flags ++ block_spelling bytes)
    (to_made format.flagged (λ x. Add x.0 x.1) (flags, bytes) _ (flagged_to (flags, bytes) w f))
op_to (Replace flags bytes) f w u = with_code 10 Flush format.key_operation 3 (Replace flags bytes)
    (four_bytes flags ++ block_spelling bytes)
    (to_made format.flagged (λ x. Replace x.0 x.1) (flags, bytes) _ (flagged_to (flags, bytes) w f))
op_to (Append bytes) f w u = with_code 10 Flush format.key_operation 4 (Append bytes) (block_spelling bytes)
    (to_made format.block Append bytes _ (block_to bytes f))
op_to (Prepend bytes) f w u = with_code 10 Flush format.key_operation 5 (Prepend bytes) (block_spelling bytes)
    (to_made format.block Prepend bytes _ (block_to bytes f))
op_to (Cas flags bytes unique) f w u =
    with_code 10 Flush format.key_operation 6 (Cas flags bytes unique)
    (four_bytes flags ++ (eight_bytes unique ++ block_spelling bytes)) (
      flags,
      four_bytes flags,
      eight_bytes unique ++ block_spelling bytes,
      (w.0, refl, refl),
      (
        unique,
        eight_bytes unique,
        block_spelling bytes,
        (w.1, refl, refl),
        to_made format.block (λ bytes. Cas flags bytes unique) bytes _ (block_to bytes f),
        refl,
      ),
      refl,
    )
op_to (Incr amount) f w u =
    with_code 10 Flush format.key_operation 7 (Incr amount) (eight_bytes amount) (amount_to Incr amount w)
op_to (Decr amount) f w u =
    with_code 10 Flush format.key_operation 8 (Decr amount) (eight_bytes amount) (amount_to Decr amount w)
op_to Delete f w u = with_code 10 Flush format.key_operation 9 Delete [] (refl, refl)
op_to Flush f w u = (10, 10 ∷ [], [], (refl, refl), (refl, refl), refl)
