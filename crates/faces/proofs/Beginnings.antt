-- Beginnings of one list, and of one log.
use Rattle.std.proofs.Common.{◌≡◌, ℕ, ◌+◌, ◌≤◌, nat_le, Bool, true, false, List, [], ◌∷◌, ◌++◌, length, drop, MatchBool}
use Rattle.std.proofs.Common.{refl, ap, sym, ◌∙◌, arith, append_assoc, append-nil, subst}
use mathlib.Core.List.{IsPrefix}
use Rattle.std.proofs.lemmas.Bool.{leb-true, leb-false}
use Rattle.logbook.specs.Pages.{Book}
use Rattle.node.specs.declared.messages.Input.{Input}
use Rattle.faces.specs.declared.logs.HistoryItem.{HistoryItem}
use Rattle.faces.specs.declared.logs.HistoryItem.TheVariants.{Began, Took}
use Rattle.faces.specs.Logs.{IsBegun, start_of, inputs_of}
use Rattle.faces.specs.Histories.{History, IsLater, with_next, history_of}

-- each list begins with itself
pub prefix_self : {A : Type 0} (xs : List A) → IsPrefix xs xs
prefix_self xs = ([], append-nil xs)

pub prefix_trans : {A : Type 0} (xs ys zs : List A) → IsPrefix xs ys → IsPrefix ys zs → IsPrefix xs zs
prefix_trans xs ys zs p q = (p.0 ++ q.0, sym (append_assoc xs p.0 q.0) ∙ (ap (λ w. w ++ q.0) p.1 ∙ q.1))

-- a history is no earlier than itself
pub later_same : (c : History) → IsLater c c
later_same c = record { instance = refl; inputs = prefix_self c.inputs }

-- what is later than a later history is later
pub later_then : (first second third : History) → IsLater first second → IsLater second third → IsLater first third
later_then first second third p q =
    record { instance = q.instance ∙ p.instance; inputs = prefix_trans _ _ _ p.inputs q.inputs }

-- of two beginnings of one list the shorter begins the longer
pub prefix_shorter : {A : Type 0} (xs ys zs : List A)
    → IsPrefix xs zs
    → IsPrefix ys zs
    → length xs ≤ length ys
    → IsPrefix xs ys
prefix_shorter [] ys zs p q le = (ys, refl)
prefix_shorter (x ∷ xs) [] zs p q le = absurd (omega arith)
prefix_shorter (x ∷ xs) (y ∷ ys) [] p q le = absurd (cc (p.1))
prefix_shorter (x ∷ xs) (y ∷ ys) (z ∷ zs) p q le =
    let heads : x ≡ y = cc (p.1, q.1) in
    let rest = prefix_shorter xs ys zs (p.0, cc (p.1)) (q.0, cc (q.1)) (omega arith) in
    (rest.0, cc (heads, rest.1))

-- a beginning as long as the whole is the whole
pub prefix_whole : {A : Type 0} (xs ys : List A) → IsPrefix xs ys → length ys ≤ length xs → xs ≡ ys
prefix_whole [] [] p le = refl
prefix_whole [] (y ∷ ys) p le = absurd (omega arith)
prefix_whole (x ∷ xs) [] p le = absurd (cc (p.1))
prefix_whole (x ∷ xs) (y ∷ ys) p le =
    let rest = prefix_whole xs ys (p.0, cc (p.1)) (omega arith) in cc (p.1, rest)

-- ---- logs

pub inputs_of-append : (xs ys : List HistoryItem) → inputs_of (xs ++ ys) ≡ inputs_of xs ++ inputs_of ys
inputs_of-append [] ys = refl
inputs_of-append (Began node ∷ xs) ys = inputs_of-append xs ys
inputs_of-append (Took input ∷ xs) ys = ap (λ l. input ∷ l) (inputs_of-append xs ys)

pub begun_length : (log : List HistoryItem) → IsBegun log → length log ≡ length (drop 1 log) + 1
begun_length [] b = absurd b
begun_length (Began node ∷ es) b = omega arith
begun_length (Took input ∷ es) b = absurd b

same_start : (xs ys : List HistoryItem) → IsBegun xs → start_of (xs ++ ys) ≡ start_of xs
same_start [] ys b = absurd b
same_start (Began node ∷ es) ys b = refl
same_start (Took input ∷ es) ys b = absurd b

pub still_begun : (xs ys : List HistoryItem) → IsBegun xs → IsBegun (xs ++ ys)
still_begun [] ys b = absurd b
still_begun (Began node ∷ es) ys b = tt
still_begun (Took input ∷ es) ys b = absurd b

-- the histories of a log and of its beginning
pub later_by : (book : Book) (xs ys : List HistoryItem)
    → IsBegun xs
    → IsPrefix xs ys
    → IsLater (history_of book xs) (history_of book ys)
later_by book xs ys b p = record {
  instance = ap (λ s. record { book = book; start = s }) (ap start_of (sym p.1) ∙ same_start xs p.0 b);
  inputs = (inputs_of p.0, sym (inputs_of-append xs p.0) ∙ ap inputs_of p.1);
}

-- an input more of the log is one more of the history
pub with_entry : (book : Book) (xs : List HistoryItem) (input : Input)
    → IsBegun xs
    → history_of book (xs ++ Took input ∷ []) ≡ with_next (history_of book xs) input
with_entry book xs input b = λ i. record {
  instance = record { book = book; start = same_start xs (Took input ∷ []) b i };
  inputs = inputs_of-append xs (Took input ∷ []) i;
}

ordered_by : (book : Book) (xs ys zs : List HistoryItem) (n m : ℕ) (t : Bool)
    → nat_le m n ≡ t
    → IsBegun xs
    → IsBegun ys
    → length (drop 1 xs) ≡ n
    → length (drop 1 ys) ≡ m
    → IsPrefix xs zs
    → IsPrefix ys zs
    → MatchBool t (IsLater (history_of book ys) (history_of book xs))
    (IsLater (history_of book xs) (history_of book ys))
ordered_by book xs ys zs n m true is bx by nx my p q =
    let le : length ys ≤ length xs = omega (arith, leb-true m n is, begun_length xs bx, begun_length ys by, nx, my) in
    later_by book ys xs by (prefix_shorter ys xs zs q p le)
ordered_by book xs ys zs n m false is bx by nx my p q =
    let le : length xs ≤ length ys = omega (arith, leb-false m n is, begun_length xs bx, begun_length ys by, nx, my) in
    later_by book xs ys bx (prefix_shorter xs ys zs p q le)

-- of two histories that were seen of one log, the shorter begins the longer
pub ordered : (a b : Book) (xs ys zs : List HistoryItem) (n m : ℕ)
    → b ≡ a
    → IsBegun xs
    → IsBegun ys
    → length (drop 1 xs) ≡ n
    → length (drop 1 ys) ≡ m
    → IsPrefix xs zs
    → IsPrefix ys zs
    → MatchBool (nat_le m n) (IsLater (history_of b ys) (history_of a xs)) (IsLater (history_of a xs) (history_of b ys))
ordered a b xs ys zs n m same bx by nx my p q =
    subst (λ (c : Book). MatchBool (nat_le m n) (IsLater (history_of c ys) (history_of a xs))
    (IsLater (history_of a xs) (history_of c ys))) (sym same)
    (ordered_by a xs ys zs n m (nat_le m n) refl bx by nx my p q)

pub longer_by : (a b : Book) (xs ys : List HistoryItem) (input : Input)
    → IsBegun xs
    → b ≡ a
    → ys ≡ xs ++ Took input ∷ []
    → history_of b ys ≡ with_next (history_of a xs) input
longer_by a b xs ys input begun same is = (λ i. history_of (same i) (is i)) ∙ with_entry a xs input begun
