-- What reading finds at the front of a stream is what the format says of it, and it stays so when more bytes come.
use Rattle.std.proofs.Common.{◌≡◌, ◌⊎◌, ℕ, zero, suc, ◌+◌, ◌-◌, ◌<◌, List, [], ◌∷◌, ◌++◌, length, drop, Result, Ok, Err}
use Rattle.std.proofs.Common.{refl, sym, ap, subst, ◌∙◌, arith, inl, inr, length-append}
use Rattle.std.specs.Prelude.{◌==◌, IsOk}
use Rattle.std.proofs.lemmas.List.{append-nil, drop_at}
use Rattle.std.proofs.lemmas.Bool.{cases_Bool, eqb-true, eqb-false}
use Rattle.wire.specs.declared.fields.Stop.{Stop}
use Rattle.wire.specs.declared.fields.Stop.TheVariants.{Short, Malformed, Old}
use Rattle.wire.specs.declared.frames.Frame.{Frame}
use Rattle.wire.specs.Spellings.{IsFrame, spelling}
use Rattle.wire.specs.Grammar.{any, HasFrame, IsFirst, IsMalformed, IsOld, IsPartial}
use Rattle.wire.specs.declared.reading.ReadFault.{ReadFault}
use Rattle.wire.specs.declared.reading.ReadFault.TheVariants.{Memory, Stopped}
use Rattle.wire.specs.Fronts.{Read, Fails, ◌>>=◌, byte_at, of_kind_at, front}
use Rattle.wire.specs.Streams.{IsMissing}
use Rattle.wire.proofs.Readers.{IsBytes, bind_ok}
use Rattle.wire.proofs.FieldReaders.{byte_takes}
use Rattle.wire.proofs.FormatReaders.{plain_front, plain_reader, behind_format_reader}
use Rattle.wire.proofs.SpelledFrames.{frame_from, frame_to}

-- an older server's format is told apart, and nothing else is
abbrev ByFormat : List ℕ → Type 0
ByFormat bytes = (IsOld bytes × (front bytes ≡ Err Old) × (plain_front bytes ≡ Err Malformed))
    ⊎ ((IsOld bytes → ⊥) × (front bytes ≡ plain_front bytes))

by_format : (bytes : List ℕ) → ByFormat bytes
unfolding front
by_format [] = inr (λ o. absurd (nothing o.0 o.1), refl)
  where
    nothing : (rest : List ℕ) → ◌≡◌ {A = List ℕ} [] (1 ∷ rest) → ⊥
    nothing rest e = cc
by_format (b ∷ rest) =
    elim (cases_Bool (b == 1)) [
      | inl e ↦
          let one : b ≡ 1 = eqb-true b 1 e in
          inl (
            (rest, ap (λ (b : ℕ). b ∷ rest) one),
            ap (λ (b : ℕ). front (b ∷ rest)) one,
            ap (λ (b : ℕ). plain_front (b ∷ rest)) one,
          )
      | inr e ↦ inr (λ o. eqb-false b 1 e (first_is b rest o.0 o.1), rw e refl)
    ]
  where
    first_is : (b : ℕ) (rest more : List ℕ) → b ∷ rest ≡ 1 ∷ more → b ≡ 1
    first_is b rest more e = cc

-- results of reading that can't be one
pub ok_not_err : {A : Type 0} (r : Result A Stop) (x : A) (s : Stop) → r ≡ Ok x → r ≡ Err s → ⊥
ok_not_err r x s e f = cc

bad_not_old : {A : Type 0} (r : Result A Stop) → r ≡ Err Malformed → r ≡ Err Old → ⊥
bad_not_old r e f = cc

short_not_old : {A : Type 0} (r : Result A Stop) (k : ℕ) → r ≡ Err (Short k) → r ≡ Err Old → ⊥
short_not_old r k e f = cc

short_not_bad : {A : Type 0} (r : Result A Stop) (k : ℕ) → r ≡ Err (Short k) → r ≡ Err Malformed → ⊥
short_not_bad r k e f = cc

-- what reads as this without telling formats apart reads so, unless an older server speaks
pub first_from : (bytes : List ℕ) (f : Frame) (rest : List ℕ)
    → IsBytes bytes
    → front bytes ≡ Ok (f, rest)
    → IsFirst f bytes rest
first_from bytes f rest fits e =
    elim (by_format bytes) [
      | inl old ↦ absurd (ok_not_err (front bytes) (f, rest) Old e old.1)
      | inr other ↦
          let t = plain_reader.takes bytes f rest fits (sym other.1 ∙ e) in
          let s = frame_from f t.0 t.1 in
          record { in_range = s.0; spelled = t.2 ∙ ap (λ (t : List ℕ). t ++ rest) s.1 }
    ]

-- a frame that stands at the front is read
pub first_to : (bytes : List ℕ) (f : Frame) (rest : List ℕ) → IsFirst f bytes rest → front bytes ≡ Ok (f, rest)
first_to bytes f rest h =
    let read : plain_front bytes ≡ Ok (f, rest) =
    ap plain_front h.spelled ∙ plain_reader.again f (spelling f) rest (frame_to f h.in_range) in
    elim (by_format bytes) [
      | inl old ↦ absurd (ok_not_err (plain_front bytes) (f, rest) Malformed read old.2)
      | inr other ↦ other.1 ∙ read
    ]

-- what is read as a bad front is one
pub malformed_from : (bytes : List ℕ) → IsBytes bytes → front bytes ≡ Err Malformed → IsMalformed bytes
malformed_from bytes fits e =
    elim (by_format bytes) [
      | inl old ↦ absurd (bad_not_old (front bytes) e old.1)
      | inr other ↦ record { bad = plain_reader.bad bytes fits (sym other.1 ∙ e); not_old = other.0 }
    ]

-- a bad front is read as one
pub malformed_to : (bytes : List ℕ) → IsMalformed bytes → front bytes ≡ Err Malformed
malformed_to bytes h =
    elim (by_format bytes) [
      | inl old ↦ absurd (h.not_old old.0)
      | inr other ↦ other.1 ∙ plain_reader.refuses bytes h.bad
    ]

-- what is read as an older server's front is one
pub old_from : (bytes : List ℕ) → front bytes ≡ Err Old → IsOld bytes
old_from bytes e =
    elim (by_format bytes) [
      | inl old ↦ old.0
      | inr other ↦ absurd (plain_reader.never_old bytes (sym other.1 ∙ e))
    ]

-- an older server's front is read as one
pub old_to : (bytes : List ℕ) → IsOld bytes → front bytes ≡ Err Old
old_to bytes h =
    elim (by_format bytes) [
      | inl old ↦ old.1
      | inr other ↦ absurd (other.0 h)
    ]

-- what waits for more bytes isn't whole
pub partial_from : (bytes : List ℕ) (k : ℕ) → front bytes ≡ Err (Short k) → IsPartial bytes
partial_from bytes k e = record {
  no_frame = λ h. ok_not_err (front bytes) (h.0, h.1) (Short k) (first_to bytes h.0 h.1 h.2) e;
  not_malformed = λ h. short_not_bad (front bytes) k e (malformed_to bytes h);
  not_old = λ h. short_not_old (front bytes) k e (old_to bytes h);
}

-- if more is waited for it is so too without telling formats apart
pub plain_short : (bytes : List ℕ) (k : ℕ) → front bytes ≡ Err (Short k) → plain_front bytes ≡ Err (Short k)
plain_short bytes k e =
    elim (by_format bytes) [
      | inl old ↦ absurd (short_not_old (front bytes) k e old.1)
      | inr other ↦ sym other.1 ∙ e
    ]

-- if a frame is read nothing else stands
pub frame_not_malformed : (bytes : List ℕ) (x : Frame × List ℕ) → front bytes ≡ Ok x → IsMalformed bytes → ⊥
frame_not_malformed bytes x e h = ok_not_err (front bytes) x Malformed e (malformed_to bytes h)

-- if a frame is read no older server speaks
pub frame_not_old : (bytes : List ℕ) (x : Frame × List ℕ) → front bytes ≡ Ok x → IsOld bytes → ⊥
frame_not_old bytes x e h = ok_not_err (front bytes) x Old e (old_to bytes h)

-- ---- more bytes

-- a frame that is read is read too when more bytes come
pub front_stays : (bytes more : List ℕ) (f : Frame) (rest : List ℕ)
    → front bytes ≡ Ok (f, rest)
    → front (bytes ++ more) ≡ Ok (f, rest ++ more)
front_stays bytes more f rest e =
    elim (by_format bytes) [
      | inl old ↦ absurd (ok_not_err (front bytes) (f, rest) Old e old.1)
      | inr other ↦
          let read = plain_reader.stays bytes more f rest (sym other.1 ∙ e) in
          elim (by_format (bytes ++ more)) [
            | inl old ↦ absurd (ok_not_err (plain_front (bytes ++ more)) (f, rest ++ more) Malformed read old.2)
            | inr same ↦ same.1 ∙ read
          ]
    ]

-- an older server's front stays so when more bytes come
pub old_stays : (bytes more : List ℕ) → front bytes ≡ Err Old → front (bytes ++ more) ≡ Err Old
old_stays bytes more e =
    let o = old_from bytes e in old_to (bytes ++ more) (o.0 ++ more, ap (λ (t : List ℕ). t ++ more) o.1)

-- the first byte is there already
old_before : (bytes more : List ℕ) → IsOld (bytes ++ more) → (bytes ≡ []) ⊎ IsOld bytes
old_before [] more o = inl refl
old_before (b ∷ bytes) more o = inr (bytes, ap (λ (b : ℕ). b ∷ bytes) (first_is b (bytes ++ more) o.0 o.1))
  where
    first_is : (b : ℕ) (rest more : List ℕ) → b ∷ rest ≡ 1 ∷ more → b ≡ 1
    first_is b rest more e = cc

-- with no bytes there, a byte is waited for
pub nothing_read : front [] ≡ Err (Short 1)
unfolding front
nothing_read = refl

-- a bad front stays so when more bytes come
pub malformed_stays : (bytes more : List ℕ) → front bytes ≡ Err Malformed → front (bytes ++ more) ≡ Err Malformed
malformed_stays bytes more e =
    elim (by_format bytes) [
      | inl old ↦ absurd (bad_not_old (front bytes) e old.1)
      | inr other ↦
          let read = plain_reader.stays_bad bytes more (sym other.1 ∙ e) in
          elim (by_format (bytes ++ more)) [
            | inl old ↦
                elim (old_before bytes more old.0) [
                  | inl none ↦ absurd (short_not_bad (front bytes) 1 (ap front none ∙ nothing_read) e)
                  | inr before ↦ absurd (other.0 before)
                ]
            | inr same ↦ same.1 ∙ read
          ]
    ]

-- a front that waits for more bytes than come waits for the others
pub front_waits : (bytes more : List ℕ) (k : ℕ)
    → front bytes ≡ Err (Short k)
    → length more < k
    → front (bytes ++ more) ≡ Err (Short (k - length more))
front_waits bytes more k e few =
    elim (by_format bytes) [
      | inl old ↦ absurd (short_not_old (front bytes) k e old.1)
      | inr other ↦
          let read = plain_reader.waits bytes more k (sym other.1 ∙ e) few in
          elim (by_format (bytes ++ more)) [
            | inl old ↦ absurd (short_not_bad (plain_front (bytes ++ more)) (k - length more) read old.2)
            | inr same ↦ same.1 ∙ read
          ]
    ]

-- a frame takes a byte at least
pub front_takes : (bytes : List ℕ) (f : Frame) (rest : List ℕ) → front bytes ≡ Ok (f, rest) → length rest < length bytes
front_takes bytes f rest e =
    elim (by_format bytes) [
      | inl old ↦ absurd (ok_not_err (front bytes) (f, rest) Old e old.1)
      | inr other ↦
          let a = bind_ok (byte_at (λ b. b == 2) bytes)
          (λ format. byte_at any format.1 >>= λ kind. of_kind_at kind.0 kind.1) (f, rest) (sym other.1 ∙ e) in
          let t = byte_takes (λ b. b == 2) bytes a.0.0 a.0.1 a.1 in
          let one : length bytes ≡ 1 + length a.0.1 =
          ap length (t.2 ∙ ap (λ (x : List ℕ). x ++ a.0.1) t.1.1) ∙ one_more a.0.0 a.0.1 in
          let less = behind_format_reader.shrinks a.0.1 f rest a.2 in
          omega arith
    ]
  where
    one_more : (n : ℕ) (rest : List ℕ) → length ((n ∷ []) ++ rest) ≡ 1 + length rest
    one_more n rest = omega arith

-- at most one frame stands at a front
pub one_frame : (f g : Frame) (bytes more others : List ℕ)
    → IsFirst f bytes more
    → IsFirst g bytes others
    → (f ≡ g) × (more ≡ others)
one_frame f g bytes more others h k = same (sym (first_to bytes f more h) ∙ first_to bytes g others k)
  where
    same : ◌≡◌ {A = Read Frame} (Ok (f, more)) (Ok (g, others)) → (f ≡ g) × (more ≡ others)
    same e = let pair : (f, more) ≡ (g, others) =
        cc in (ap (λ (p : Frame × List ℕ). p.0) pair, ap (λ (p : Frame × List ℕ). p.1) pair)

-- ---- beginnings

-- what is told of a front is told of all bytes; those of a whole frame are read as it
pub beginning_short : (f : Frame) (some rest : List ℕ)
    → IsFrame f
    → spelling f ≡ some ++ rest
    → 0 < length rest
    → (k : ℕ) × (front some ≡ Err (Short k))
beginning_short f some rest h e more = by_front (front some) refl
  where
    whole : front (some ++ rest) ≡ Ok (f, [])
    whole = first_to (some ++ rest) f [] (record { in_range = h; spelled = sym e ∙ sym (append-nil (spelling f)) })

    nothing_behind : (x : Frame × List ℕ) → ◌≡◌ {A = Read Frame} (Ok (x.0, x.1 ++ rest)) (Ok (f, [])) → ⊥
    nothing_behind x e =
        let pair : ◌≡◌ {A = Frame × List ℕ} (x.0, x.1 ++ rest) (f, []) = cc in
        let none : length (x.1 ++ rest) ≡ 0 = ap (λ (p : Frame × List ℕ). length p.1) pair in
        omega (arith, length-append x.1 rest)

    by_front : (r : Read Frame) → front some ≡ r → (k : ℕ) × (front some ≡ Err (Short k))
    by_front (Ok x) e = absurd (nothing_behind x (sym (front_stays some rest x.0 x.1 e) ∙ whole))
    by_front (Err (Short k)) e = (k, e)
    by_front (Err Malformed) e =
        absurd (ok_not_err (front (some ++ rest)) (f, []) Malformed whole (malformed_stays some rest e))
    by_front (Err Old) e = absurd (ok_not_err (front (some ++ rest)) (f, []) Old whole (old_stays some rest e))

-- a beginning of a frame that isn't all of it isn't whole
pub beginning_waits : (f : Frame) (some rest : List ℕ)
    → IsFrame f
    → spelling f ≡ some ++ rest
    → 0 < length rest
    → IsPartial some
beginning_waits f some rest h e more =
    let short = beginning_short f some rest h e more in partial_from some short.0 short.1

-- what a function failed with, by the fault
pub stopped_is : (fault : ReadFault) (stop other : Stop) (r : Read Frame)
    → fault ≡ Stopped stop
    → stop ≡ other
    → Fails fault r
    → r ≡ Err other
stopped_is fault stop other r e f h = subst (λ fault. Fails fault r) e h ∙ ap (λ (s : Stop). Err s) f

-- if memory was wanted a frame stands
no_error : (r : Read Frame) (s : Stop) → IsOk r → r ≡ Err s → ⊥
no_error (Ok x) s h e = cc
no_error (Err t) s h e = cc

-- who runs out of memory has met no bad front
pub wanted_not_malformed : (fault : ReadFault) (bytes : List ℕ)
    → fault ≡ Memory
    → Fails fault (front bytes)
    → IsMalformed bytes
    → ⊥
wanted_not_malformed fault bytes e h m =
    no_error (front bytes) Malformed (subst (λ fault. Fails fault (front bytes)) e h) (malformed_to bytes m)

-- who runs out of memory has met no older server
pub wanted_not_old : (fault : ReadFault) (bytes : List ℕ) → fault ≡ Memory → Fails fault (front bytes) → IsOld bytes → ⊥
wanted_not_old fault bytes e h o =
    no_error (front bytes) Old (subst (λ fault. Fails fault (front bytes)) e h) (old_to bytes o)

-- who runs out of memory has a frame at the front
pub wanted_frame : (fault : ReadFault) (bytes : List ℕ)
    → IsBytes bytes
    → fault ≡ Memory
    → Fails fault (front bytes)
    → HasFrame bytes
wanted_frame fault bytes fits e h = by_front (front bytes) refl (subst (λ fault. Fails fault (front bytes)) e h)
  where
    by_front : (r : Read Frame) → front bytes ≡ r → IsOk r → HasFrame bytes
    by_front (Ok x) read ok = (x.0, x.1, first_from bytes x.0 x.1 fits read)
    by_front (Err s) read ok = absurd cc

-- what stands after the frame
pub rest_behind : (bytes : List ℕ) (f : Frame) (rest : List ℕ)
    → IsFirst f bytes rest
    → drop (length bytes - length rest) bytes ≡ rest
rest_behind bytes f rest h =
    let e = h.spelled in
    let len : length (spelling f) ≡ length bytes - length rest =
    sym (ap (λ (t : List ℕ). length t - length rest) e
    ∙ (let all = length-append (spelling f) rest in omega arith)) in
    ap (λ (t : List ℕ). drop (length bytes - length rest) t) e
    ∙ drop_at (spelling f) rest (length bytes - length rest) len

-- ---- what a reader of frames keeps in mind

-- a front at which bytes are missing waits for as many
pub waiting : (k : ℕ) (bytes : List ℕ) → 0 < k → IsMissing k bytes → front bytes ≡ Err (Short k)
waiting zero bytes lt h = absurd (omega arith)
waiting (suc k) bytes lt h = h

-- with a piece more, as many bytes less are missing
pub missing_fed : (k : ℕ) (bytes piece : List ℕ) → IsMissing k bytes → IsMissing (k - length piece) (bytes ++ piece)
missing_fed k bytes piece h = by_left (k - length piece) refl
  where
    by_left : (j : ℕ) → k - length piece ≡ j → IsMissing j (bytes ++ piece)
    by_left zero e = tt
    by_left (suc j) e =
        front_waits bytes piece k (waiting k bytes (omega arith) h) (omega arith) ∙ ap (λ (j : ℕ). Err (Short j)) e
