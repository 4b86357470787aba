-- Bytes that are written in two steps, and beginnings of them.
use Rattle.std.proofs.Common.{◌≡◌, ℕ, List, [], ◌++◌, take, drop, ap, sym, ◌∙◌, append_assoc, append-nil}
use Rattle.std.proofs.Common.{take-append-drop, Result, Ok, Err, OnErr}
use Rattle.ends.specs.Ends.{WritesBeginning}

-- bytes were written, and then more
pub written-then : (a b c xs ys : List ℕ) → b ≡ a ++ xs → c ≡ b ++ ys → c ≡ a ++ (xs ++ ys)
written-then a b c xs ys p q = q ∙ ap (λ zs. zs ++ ys) p ∙ append_assoc a xs ys

-- the first n of the bytes were written, and then nothing
pub begun-at : (a b c bytes : List ℕ) (n : ℕ) → b ≡ a ++ take n bytes → c ≡ b ++ [] → WritesBeginning a c bytes
begun-at a b c bytes n p q = (take n bytes, drop n bytes, sym (take-append-drop n bytes), q ∙ append-nil b ∙ p)

-- a beginning of the first part is one of the whole
pub begun-first : (a b xs ys : List ℕ) → WritesBeginning a b xs → WritesBeginning a b (xs ++ ys)
begun-first a b xs ys (front, rest, split, e) =
    (front, rest ++ ys, ap (λ zs. zs ++ ys) split ∙ append_assoc front rest ys, e)

-- the first part was written, and then a beginning of the second
pub begun-then : (a b c xs ys : List ℕ) → b ≡ a ++ xs → WritesBeginning b c ys → WritesBeginning a c (xs ++ ys)
begun-then a b c xs ys p (front, rest, split, e) =
    (xs ++ front, rest, ap (λ zs. xs ++ zs) split ∙ sym (append_assoc xs front rest), written-then a b c xs front p e)

-- what holds whatever is answered holds at an error
pub at-an-error : {T E P : Type 0} (r : Result T E) → P → OnErr r P
at-an-error (Ok x) p = tt
at-an-error (Err e) p = p
