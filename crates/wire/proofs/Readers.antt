-- Readers: what reading gives is what a part of the format says. One law for each way of putting parts together.
use Rattle.std.proofs.Common.{◌≡◌, ◌⊎◌, ℕ, ◌+◌, ◌-◌, ◌<◌, ◌≤◌, Bool, true, false, cond, List, [], ◌++◌, length, get_or}
use Rattle.std.proofs.Common.{take, drop, Result, Ok, Err, refl, sym, ap, subst, ◌∙◌, append_assoc, arith, inl, inr}
use Rattle.std.proofs.Common.{length-take}
use Rattle.std.proofs.lemmas.Bool.{cases_lt}
use Rattle.std.proofs.lemmas.List.{drop_at, get_or-drop, get_or-take, get_or_past}
use Rattle.wire.specs.declared.fields.Stop.{Stop}
use Rattle.wire.specs.declared.fields.Stop.TheVariants.{Short, Malformed, Old}
use Rattle.wire.specs.Parts.{Part, followed, makes, refused, either}
use Rattle.wire.specs.Fronts.{Read, ◌>>=◌}

-- bytes are below 256
abbrev pub IsBytes : List ℕ → Type 0
IsBytes bytes = (i : ℕ) → get_or bytes i 0 < 256

-- bytes after a front are bytes
pub IsBytes-drop : (n : ℕ) (bytes : List ℕ) → IsBytes bytes → IsBytes (drop n bytes)
IsBytes-drop n bytes h i = rw get_or-drop (h (n + i))

-- bytes up to a place are bytes
pub IsBytes-take : (n : ℕ) (bytes : List ℕ) → IsBytes bytes → IsBytes (take n bytes)
IsBytes-take n bytes h i =
    elim (cases_lt i n) [
      | inl lt ↦ rw (get_or-take n bytes i 0 lt) (h i)
      | inr le ↦ rw (get_or_past (take n bytes) i 0 (omega (arith, length-take n bytes))) (omega arith)
    ]

-- the bytes after a front
pub bytes_behind : (front rest bytes : List ℕ) → bytes ≡ front ++ rest → IsBytes bytes → IsBytes rest
bytes_behind front rest bytes e h =
    subst IsBytes (drop_at front rest (length front) refl)
    (IsBytes-drop (length front) (front ++ rest) (subst IsBytes e h))

-- a reader reads a part of the format
pub record IsReader {A : Type 0} (read : List ℕ → Read A) (part : Part A) : Type 0 where
  -- what is read is spelled at the front
  pub takes : (bytes : List ℕ) (x : A) (rest : List ℕ)
      → IsBytes bytes
      → read bytes ≡ Ok (x, rest)
      → (text : List ℕ) × part.Spells x text × (bytes ≡ text ++ rest)
  -- what is spelled at the front is read
  pub again : (x : A) (text rest : List ℕ) → part.Spells x text → read (text ++ rest) ≡ Ok (x, rest)
  -- a field is out of range exactly if the format says so
  pub bad : (bytes : List ℕ) → IsBytes bytes → read bytes ≡ Err Malformed → part.Bad bytes
  pub refuses : (bytes : List ℕ) → part.Bad bytes → read bytes ≡ Err Malformed
  pub never_old : (bytes : List ℕ) → read bytes ≡ Err Old → ⊥
  -- what was read stays so when more bytes come
  pub stays : (bytes more : List ℕ) (x : A) (rest : List ℕ)
      → read bytes ≡ Ok (x, rest)
      → read (bytes ++ more) ≡ Ok (x, rest ++ more)
  pub stays_bad : (bytes more : List ℕ) → read bytes ≡ Err Malformed → read (bytes ++ more) ≡ Err Malformed
  -- nothing else can be told before as many bytes have come as were missing
  pub waits : (bytes more : List ℕ) (k : ℕ)
      → read bytes ≡ Err (Short k)
      → length more < k
      → read (bytes ++ more) ≡ Err (Short (k - length more))
  pub shrinks : (bytes : List ℕ) (x : A) (rest : List ℕ) → read bytes ≡ Ok (x, rest) → length rest ≤ length bytes

-- the value of a step that didn't stop
pub bind_ok : {A B : Type 0} (r : Result A Stop) (f : A → Result B Stop) (y : B)
    → (r >>= f) ≡ Ok y
    → (x : A) × (r ≡ Ok x) × (f x ≡ Ok y)
bind_ok (Ok x) f y e = (x, refl, e)
bind_ok (Err d) f y e = absurd cc

-- if two steps stop, the first one does, or the second
pub bind_err : {A B : Type 0} (r : Result A Stop) (f : A → Result B Stop) (s : Stop)
    → (r >>= f) ≡ Err s
    → (r ≡ Err s) ⊎ ((x : A) × (r ≡ Ok x) × (f x ≡ Err s))
bind_err (Ok x) f s e = inr (x, refl, e)
bind_err (Err d) f s e = inl cc

-- the first step's outcome decides
pub bind_at : {A B : Type 0} (r : Result A Stop) (f : A → Result B Stop) (x : A) (y : Result B Stop)
    → r ≡ Ok x
    → f x ≡ y
    → (r >>= f) ≡ y
bind_at r f x y e h = ap (λ r. r >>= f) e ∙ h

-- if the first step stops, nothing more is read
pub bind_stop : {A B : Type 0} (r : Result A Stop) (f : A → Result B Stop) (s : Stop) → r ≡ Err s → (r >>= f) ≡ Err s
bind_stop r f s e = ap (λ r. r >>= f) e

-- one part after another
pub in_turn : {A B : Type 0} (r : List ℕ → Read A) (p : Part A) (r2 : A → List ℕ → Read B) (p2 : A → Part B)
    → IsReader r p
    → ((x : A) → IsReader (r2 x) (p2 x))
    → IsReader (λ bytes. r bytes >>= λ x. r2 x.0 x.1) (followed p p2)
in_turn {A = A} {B = B} r p r2 p2 first second = record {
  takes = λ bytes y rest fits e.
      let a = bind_ok (r bytes) (λ x. r2 x.0 x.1) (y, rest) e in
      let s = first.takes bytes a.0.0 a.0.1 fits a.1 in
      let t = (second a.0.0).takes a.0.1 y rest (bytes_behind s.0 a.0.1 bytes s.2 fits) a.2 in (
        s.0 ++ t.0,
        (a.0.0, s.0, t.0, s.1, t.1, refl),
        s.2 ∙ ap (λ (rest : List ℕ). s.0 ++ rest) t.2
            ∙ sym (append_assoc s.0 t.0 rest),
      );
  again = λ y text rest s.
      let regrouped : text ++ rest ≡ s.1 ++ (s.2 ++ rest) =
      ap (λ (t : List ℕ). t ++ rest) s.5 ∙ append_assoc s.1 s.2 rest in
      bind_at (r (text ++ rest)) (λ x. r2 x.0 x.1) (s.0, s.2 ++ rest) (Ok (y, rest))
      (ap r regrouped ∙ first.again s.0 s.1 (s.2 ++ rest) s.3) ((second s.0).again y s.2 rest s.4);
  bad = λ bytes fits e.
      elim (bind_err (r bytes) (λ x. r2 x.0 x.1) Malformed e) [
        | inl stopped ↦ inl (first.bad bytes fits stopped)
        | inr went ↦
            let s = first.takes bytes went.0.0 went.0.1 fits went.1 in
            inr (
              went.0.0,
              s.0,
              went.0.1,
              s.1,
              s.2,
              (second went.0.0).bad went.0.1 (bytes_behind s.0 went.0.1 bytes s.2 fits) went.2,
            )
      ];
  refuses = λ bytes b.
      elim b [
        | inl here ↦ bind_stop (r bytes) (λ x. r2 x.0 x.1) Malformed (first.refuses bytes here)
        | inr behind ↦ bind_at (r bytes) (λ x. r2 x.0 x.1) (behind.0, behind.2) (Err Malformed)
            (ap r behind.4 ∙ first.again behind.0 behind.1 behind.2 behind.3)
            ((second behind.0).refuses behind.2 behind.5)
      ];
  never_old = λ bytes e.
      elim (bind_err (r bytes) (λ x. r2 x.0 x.1) Old e) [
        | inl stopped ↦ first.never_old bytes stopped
        | inr went ↦ (second went.0.0).never_old went.0.1 went.2
      ];
  stays = λ bytes more y rest e.
      let a = bind_ok (r bytes) (λ x. r2 x.0 x.1) (y, rest) e in
      bind_at (r (bytes ++ more)) (λ x. r2 x.0 x.1) (a.0.0, a.0.1 ++ more) (Ok (y, rest ++ more))
      (first.stays bytes more a.0.0 a.0.1 a.1) ((second a.0.0).stays a.0.1 more y rest a.2);
  stays_bad = λ bytes more e.
      elim (bind_err (r bytes) (λ x. r2 x.0 x.1) Malformed e) [
        | inl stopped ↦ bind_stop (r (bytes ++ more)) (λ x. r2 x.0 x.1) Malformed (first.stays_bad bytes more stopped)
        | inr went ↦ bind_at (r (bytes ++ more)) (λ x. r2 x.0 x.1) (went.0.0, went.0.1 ++ more) (Err Malformed)
            (first.stays bytes more went.0.0 went.0.1 went.1) ((second went.0.0).stays_bad went.0.1 more went.2)
      ];
  waits = λ bytes more k e few.
      elim (bind_err (r bytes) (λ x. r2 x.0 x.1) (Short k) e) [
        | inl stopped ↦ bind_stop (r (bytes ++ more)) (λ x. r2 x.0 x.1) (Short (k - length more))
            (first.waits bytes more k stopped few)
        | inr went ↦ bind_at (r (bytes ++ more)) (λ x. r2 x.0 x.1) (went.0.0, went.0.1 ++ more)
            (Err (Short (k - length more))) (first.stays bytes more went.0.0 went.0.1 went.1)
            ((second went.0.0).waits went.0.1 more k went.2 few)
      ];
  shrinks = λ bytes y rest e.
      let a = bind_ok (r bytes) (λ x. r2 x.0 x.1) (y, rest) e in
      let one = first.shrinks bytes a.0.0 a.0.1 a.1 in
      let two = (second a.0.0).shrinks a.0.1 y rest a.2 in
      omega arith;
}

-- nothing more
pub made : {A : Type 0} (value : A) → IsReader (λ bytes. Ok (value, bytes)) (makes value)
made {A = A} value = record {
  takes = λ bytes x rest fits e.
      let same = pair_is A value x bytes rest e in ([], (sym same.0, refl), same.1);
  again = λ x text rest s. rw (s.0, s.1) refl;
  bad = λ bytes fits e. absurd cc;
  refuses = λ bytes b. absurd b;
  never_old = λ bytes e. absurd cc;
  stays = λ bytes more x rest e. let same = pair_is A value x bytes rest e in rw (same.0, same.1) refl;
  stays_bad = λ bytes more e. absurd cc;
  waits = λ bytes more k e few. absurd cc;
  shrinks = λ bytes x rest e. let same = pair_is A value x bytes rest e in rw same.1 (omega arith);
}
  where
    pair_is : (A : Type 0) (value x : A) (bytes rest : List ℕ)
        → ◌≡◌ {A = Read A} (Ok (value, bytes)) (Ok (x, rest))
        → (value ≡ x) × (bytes ≡ rest)
    pair_is A value x bytes rest e = let pair : (value, bytes) ≡ (x, rest) =
        cc in (ap (λ (p : A × List ℕ). p.0) pair, ap (λ (p : A × List ℕ). p.1) pair)

-- out of range, whatever follows
pub refusing : {A : Type 0} → IsReader {A = A} (λ bytes. Err Malformed) refused
refusing {A = A} = record {
  takes = λ bytes x rest fits e. absurd cc;
  again = λ x text rest s. absurd s;
  bad = λ bytes fits e. tt;
  refuses = λ bytes b. refl;
  never_old = λ bytes e. absurd cc;
  stays = λ bytes more x rest e. absurd cc;
  stays_bad = λ bytes more e. refl;
  waits = λ bytes more k e few. absurd cc;
  shrinks = λ bytes x rest e. absurd cc;
}

-- one of two, by a test
pub chosen : {A : Type 0} (b : Bool) (r s : List ℕ → Read A) (p q : Part A)
    → IsReader r p
    → IsReader s q
    → IsReader (λ bytes. cond b (r bytes) (s bytes)) (either b p q)
chosen true r s p q first second = first
chosen false r s p q first second = second

-- a reader that gives the same
pub same_reader : {A : Type 0} (r s : List ℕ → Read A) (p : Part A)
    → ((bytes : List ℕ) → r bytes ≡ s bytes)
    → IsReader r p
    → IsReader s p
same_reader {A = A} r s p same h = record {
  takes = λ bytes x rest fits e. h.takes bytes x rest fits (same bytes ∙ e);
  again = λ x text rest spelled. sym (same (text ++ rest)) ∙ h.again x text rest spelled;
  bad = λ bytes fits e. h.bad bytes fits (same bytes ∙ e);
  refuses = λ bytes b. sym (same bytes) ∙ h.refuses bytes b;
  never_old = λ bytes e. h.never_old bytes (same bytes ∙ e);
  stays = λ bytes more x rest e. sym (same (bytes ++ more)) ∙ h.stays bytes more x rest (same bytes ∙ e);
  stays_bad = λ bytes more e. sym (same (bytes ++ more)) ∙ h.stays_bad bytes more (same bytes ∙ e);
  waits = λ bytes more k e few. sym (same (bytes ++ more)) ∙ h.waits bytes more k (same bytes ∙ e) few;
  shrinks = λ bytes x rest e. h.shrinks bytes x rest (same bytes ∙ e);
}
