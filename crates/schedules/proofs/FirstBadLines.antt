-- The first line that is not as stated is the only one, and is named.
use Rattle.std.proofs.Common.{◌≡◌, ℕ, ◌+◌, ◌<◌, ◌⊎◌, inl, inr, List, [], ◌∷◌, ◌++◌, length, refl, ap, sym, ◌∙◌, subst}
use Rattle.std.proofs.Common.{arith, append-nil, length-append}
use Rattle.std.specs.Prelude.{Result, Ok, Err, not}
use Rattle.std.proofs.lemmas.Bool.{cases_lt}
use Rattle.std.proofs.lemmas.List.Elements.{filter-append}
use Rattle.schedules.specs.Splits.{is_passed_over, lines}
use Rattle.schedules.specs.Schedules.{ScheduleShown, schedule_of}
use Rattle.schedules.specs.SpelledSchedules.{counted_lines, SpellsSchedule, AreAsStated, IsBadNext, IsFirstBad}
use Rattle.schedules.proofs.SplitLaws.{lines_read}
use Rattle.schedules.proofs.ScheduleLaws.{read_spelled, spelled_read}
use Rattle.schedules.proofs.StatedLines.{IsFirstOf, same_Err, regrouped, front_as_stated}
use Rattle.schedules.proofs.BadLineLaws.{bad_servers, named_first}

both_same : {X : Type 0} (x z : X) (us vs : List X) → x ≡ z → us ≡ vs → z ∷ us ≡ x ∷ vs
both_same x z us vs e f = rw (e, f) refl

-- a longer beginning of a list has the next element
begins : {X : Type 0} (xs ys zs ws : List X) (y : X)
    → xs ++ y ∷ ys ≡ zs ++ ws
    → length xs < length zs
    → (more : List X) × (zs ≡ (xs ++ y ∷ []) ++ more)
begins [] ys [] ws y e less = absurd (omega arith)
begins [] ys (z ∷ zs) ws y e less = let same : y ≡ z = cc in (zs, ap (λ x. x ∷ zs) (sym same))
begins (x ∷ xs) ys [] ws y e less = absurd (omega arith)
begins (x ∷ xs) ys (z ∷ zs) ws y e less =
    let same : x ≡ z = cc in
    let rest : xs ++ y ∷ ys ≡ zs ++ ws = cc in
    let (more, is) = begins xs ys zs ws y rest (omega arith) in
    (more, both_same x z zs ((xs ++ y ∷ []) ++ more) same is)

-- lines that are as stated have no bad line among them
none_bad : (before later : List (List ℕ)) (line : List ℕ)
    → AreAsStated (counted_lines ((before ++ line ∷ []) ++ later))
    → AreAsStated (counted_lines (before ++ line ∷ []))
none_bad before later line st =
    front_as_stated (counted_lines (before ++ line ∷ [])) (counted_lines later)
    (subst AreAsStated (filter-append (λ l. not (is_passed_over l)) (before ++ line ∷ []) later) st)

not_later : (all : List (List ℕ)) (m n : ℕ) → IsFirstOf all m → IsFirstOf all n → m < n → ⊥
not_later all m n f g less = by_others f.others f.split f.bad
  where
    by_others : (others : List (List ℕ)) → all ≡ f.before ++ others → IsBadNext f.before others → ⊥
    by_others [] split bad =
        let one = f.number in
        let two = g.number in
        let whole : length all ≡ length f.before = ap length (split ∙ append-nil f.before) in
        let part : length all ≡ length g.before + length g.others =
        ap length g.split ∙ length-append g.before g.others in
        absurd (omega arith)
    by_others (line ∷ later) split bad =
        let one = f.number in
        let two = g.number in
        let (more, is) = begins f.before later g.before g.others line (sym split ∙ g.split) (omega arith) in
        bad (none_bad f.before more line (subst (λ ls. AreAsStated (counted_lines ls)) is g.as_stated))

one_first : (all : List (List ℕ)) (m n : ℕ) → IsFirstOf all m → IsFirstOf all n → m ≡ n
one_first all m n f g = elim (cases_lt m n) [
  | inl less ↦ absurd (not_later all m n f g less)
  | inr least ↦ elim (cases_lt n m) [ inl more ↦ absurd (not_later all n m g f more) | inr most ↦ omega arith ]
]

-- what spells a schedule has no bad line
none_bad_spelled : (text : List ℕ) (s : ScheduleShown) (n : ℕ) → SpellsSchedule text s → IsFirstOf (lines text) n → ⊥
none_bad_spelled text s n h f = by_others f.others f.split f.bad
  where
    counted : counted_lines (lines text) ≡ h.first ∷ h.second ∷ h.further
    counted = ap counted_lines (lines_read h.all text h.lines) ∙ h.counted

    stated : AreAsStated (counted_lines (lines text))
    stated = rw counted (s.count, s.homes, h.said, h.servers, h.homes, h.each)

    by_others : (others : List (List ℕ)) → lines text ≡ f.before ++ others → IsBadNext f.before others → ⊥
    by_others [] split bad =
        let whole : length (counted_lines f.before) ≡ 2 + length h.further =
        ap (λ ls. length (counted_lines ls)) (sym (split ∙ append-nil f.before)) ∙ (ap length counted ∙ omega arith)
        in
        absurd (omega arith)
    by_others (line ∷ later) split bad =
        bad (none_bad f.before later line (subst (λ ls. AreAsStated (counted_lines ls))
        (regrouped (lines text) f.before later line split) stated))

-- the first bad line is named
pub first_named : (text : List ℕ) (n : ℕ) → IsFirstBad n text → schedule_of text ≡ Err n
first_named text n h = by_result (schedule_of text) refl
  where
    first : IsFirstOf (lines text) n
    first =
        record {
          before = h.before;
          others = h.others;
          split = lines_read (h.before ++ h.others) text h.lines;
          number = h.number;
          as_stated = h.as_stated;
          bad = h.bad;
        }

    by_result : (r : Result ScheduleShown ℕ) → schedule_of text ≡ r → r ≡ Err n
    by_result (Ok s) is = absurd (none_bad_spelled text s n (read_spelled text s is) first)
    by_result (Err m) is = ap Err (one_first (lines text) m n (bad_servers (lines text) m is) first)

-- a text has one first bad line at most
pub one_bad_line : (text : List ℕ) (m n : ℕ) → IsFirstBad m text → IsFirstBad n text → m ≡ n
one_bad_line text m n one two =
    same_Err {X = ScheduleShown} m n (sym (first_named text m one) ∙ first_named text n two)

-- and none if it spells a schedule
pub not_both : (text : List ℕ) (s : ScheduleShown) (n : ℕ) → SpellsSchedule text s → IsFirstBad n text → ⊥
not_both text s n spelled bad =
    let read : Ok s ≡ Err n = sym (spelled_read text s spelled) ∙ first_named text n bad in cc

-- it has one, or spells a schedule
pub some_meaning : (text : List ℕ) → ((s : ScheduleShown) × SpellsSchedule text s) ⊎ ((n : ℕ) × IsFirstBad n text)
some_meaning text = by_result (schedule_of text) refl
  where
    by_result : (r : Result ScheduleShown ℕ)
        → schedule_of text ≡ r
        → ((s : ScheduleShown) × SpellsSchedule text s) ⊎ ((n : ℕ) × IsFirstBad n text)
    by_result (Ok s) is = inl (s, read_spelled text s is)
    by_result (Err n) is = inr (n, named_first text n is)
