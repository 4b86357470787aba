-- The requests of a stream, one after another: the one at the front, and those after it.
use Rattle.std.proofs.Common.{◌≡◌, ℕ, zero, suc, ◌+◌, ◌-◌, ◌≤◌, Bool, true, false, cond, List, [], ◌∷◌, ◌++◌, length}
use Rattle.std.proofs.Common.{drop, take, Option, None, Some, refl, sym, ap, subst, ◌∙◌, arith, nat_lt, length-append}
use Rattle.std.proofs.Common.{length-drop}
use Rattle.std.specs.Prelude.{◌==◌}
use Rattle.std.specs.List.{slice_range}
use Rattle.std.proofs.lemmas.Bool.Decides.{nat_tests}
use Rattle.std.proofs.lemmas.List.{drop-append-le, drop_all}
use Rattle.proto.specs.declared.skipped_blocks.SkippedBlock.{SkippedBlock}
use Rattle.proto.specs.declared.lines.Asked.{Asked}
use Rattle.proto.specs.declared.lines.Asked.TheVariants.{Whole, Behind}
use Rattle.proto.specs.declared.storage.Block.{Block}
use Rattle.proto.specs.declared.storage.Fate.{Fate}
use Rattle.proto.specs.declared.storage.Fate.TheVariants.{Put, Refuse}
use Rattle.proto.specs.declared.requests.Fault.{Fault}
use Rattle.proto.specs.declared.requests.Request.{Request}
use Rattle.proto.specs.declared.requests.Request.TheVariants.{Store, Get, Arith, Delete, Flush, Quit, Bad}
use Rattle.proto.specs.Words.{line_limit}
use Rattle.proto.specs.Requests.{asked_at}
use Rattle.proto.specs.Fronts.{Front, finished, by_asked, front, refused_by, refused_by_asked, refused_at, is_last}
use Rattle.proto.specs.Grammar.{Spells}
use Rattle.proto.specs.Sessions.{kept, passed}
use Rattle.proto.specs.Streams.{and_later, requests, requests_upto, unread_requests}
use Rattle.proto.proofs.GrammarLaws.{found_is_spelled, whole_stays_whole}
use Rattle.proto.proofs.LineLaws.{asked_kept}

-- a get reads a key at least
abbrev pub GetsSome : Request → Type 0
GetsSome (Get [] unique) = ⊥
GetsSome (Get (key ∷ keys) unique) = Unit {0}
GetsSome (Store key op silent) = Unit {0}
GetsSome (Arith key op silent) = Unit {0}
GetsSome (Delete key silent) = Unit {0}
GetsSome (Flush silent) = Unit {0}
GetsSome Quit = Unit {0}
GetsSome (Bad fault) = Unit {0}

gets_some : (request : Request) (bytes : List ℕ) → Spells request bytes → GetsSome request
gets_some (Get [] unique) bytes spelled = let some = spelled.1.some in absurd (omega arith)
gets_some (Get (key ∷ keys) unique) bytes spelled = tt
gets_some (Store key op silent) bytes spelled = tt
gets_some (Arith key op silent) bytes spelled = tt
gets_some (Delete key silent) bytes spelled = tt
gets_some (Flush silent) bytes spelled = tt
gets_some Quit bytes spelled = tt
gets_some (Bad fault) bytes spelled = tt

-- a request that was found takes some of the bytes
pub record Takes (bytes : List ℕ) (found : Request × ℕ) : Type 0 where
  pub least : 1 ≤ found.1
  pub most : found.1 ≤ length bytes
  pub gets : GetsSome found.0

-- a request that is found takes some of the bytes
pub takes : (bytes : List ℕ) (found : Request × ℕ) → front bytes ≡ Some found → Takes bytes found
takes bytes found is =
    let spelled = found_is_spelled bytes found is in
    record { least = spelled.1; most = spelled.0; gets = gets_some found.0 (take found.1 bytes) spelled.2 }

-- a count that reaches the end gives all requests
fuel : (k j : ℕ) (bytes : List ℕ) → length bytes ≤ k → length bytes ≤ j → requests_upto k bytes ≡ requests_upto j bytes
fuel zero zero bytes hk hj = refl
fuel zero (suc j) bytes hk hj = by_found (front bytes) refl
  where
    by_found : (r : Front) → front bytes ≡ r → [] ≡ and_later r (λ n. requests_upto j (drop n bytes))
    by_found None e = refl
    by_found (Some found) e = let s = takes bytes found e in let a = s.least in let b = s.most in absurd (omega arith)
fuel (suc k) zero bytes hk hj = by_found (front bytes) refl
  where
    by_found : (r : Front) → front bytes ≡ r → and_later r (λ n. requests_upto k (drop n bytes)) ≡ []
    by_found None e = refl
    by_found (Some found) e = let s = takes bytes found e in let a = s.least in let b = s.most in absurd (omega arith)
fuel (suc k) (suc j) bytes hk hj =
    by_found (front bytes) refl
    (λ n below low. fuel k j (drop n bytes) (omega (arith, length-drop n bytes))
    (omega (arith, length-drop n bytes)))
  where
    by_found : (r : Front)
        → front bytes ≡ r
        → ((n : ℕ) → 1 ≤ n → n ≤ length bytes → requests_upto k (drop n bytes) ≡ requests_upto j (drop n bytes))
        → and_later r (λ n. requests_upto k (drop n bytes)) ≡ and_later r (λ n. requests_upto j (drop n bytes))
    by_found None e ih = refl
    by_found (Some found) e ih = let s = takes bytes found e in ap (λ later. found.0 ∷ cond (is_last found.0) [] later)
        (ih found.1 s.least s.most)

-- a stream with no whole request at its front has no request
pub requests_none : (bytes : List ℕ) → front bytes ≡ None → requests bytes ≡ []
requests_none bytes e = by_length (length bytes)
  where
    by_length : (k : ℕ) → requests_upto k bytes ≡ []
    by_length zero = refl
    by_length (suc k) = rw e refl

-- the requests of a stream are the one at its front, and those after it
pub requests_some : (bytes : List ℕ) (found : Request × ℕ)
    → front bytes ≡ Some found
    → requests bytes ≡ found.0 ∷ cond (is_last found.0) [] (requests (drop found.1 bytes))
requests_some bytes found e = by_length (length bytes) refl
  where
    by_length : (k : ℕ)
        → length bytes ≡ k
        → requests_upto k bytes ≡ found.0 ∷ cond (is_last found.0) [] (requests (drop found.1 bytes))
    by_length zero is = let s = takes bytes found e in let a = s.least in let b = s.most in absurd (omega arith)
    by_length (suc k) is =
        let s = takes bytes found e in
        let a = s.least in
        let same = fuel k (length (drop found.1 bytes)) (drop found.1 bytes) (omega (arith, length-drop found.1 bytes))
        (omega arith) in
        rw (e, same) refl

-- what stands at the front stays there
pub requests_more : (bytes more : List ℕ) (found : Request × ℕ)
    → front bytes ≡ Some found
    → requests (bytes ++ more) ≡ found.0 ∷ cond (is_last found.0) [] (requests (drop found.1 bytes ++ more))
requests_more bytes more found e =
    let s = takes bytes found e in
    let cut = drop-append-le found.1 bytes more s.most in
    rw (← cut) (requests_some (bytes ++ more) found (whole_stays_whole bytes more found e))

-- what is left of two lists after the same number of first items
pub drop_two : (n : ℕ) (xs ys : List ℕ) → drop n (xs ++ ys) ≡ drop n xs ++ drop (n - length xs) ys
drop_two zero xs ys = let none : 0 - length xs ≡ 0 = omega arith in rw none refl
drop_two (suc n) [] ys = let all : suc n - 0 ≡ suc n = omega arith in rw all refl
drop_two (suc n) (x ∷ xs) ys =
    let rest : suc n - length (x ∷ xs) ≡ n - length xs = omega arith in rw rest (drop_two n xs ys)

-- a refused block that ends after some number of bytes, if this many have come
abbrev whole_at : ℕ → ℕ → Fault → Front
whole_at come end fault = cond (nat_lt come end) None (Some (Bad fault, end))

-- a refused block is whole as soon as it has come to its end
refused_front : (bytes : List ℕ) (block : Block) (n : ℕ) (fault : Fault)
    → asked_at bytes ≡ Some (Behind block, n)
    → block.fate ≡ Refuse fault
    → front bytes ≡ whole_at (length bytes) (n + block.size + 2) fault
refused_front bytes block n fault asked fate =
    ap (by_asked bytes) asked
    ∙ ap (λ f. cond (nat_lt (length bytes) (n + block.size + 2)) None
    (Some (
      finished f (slice_range bytes n (n + block.size))
          (slice_range bytes (n + block.size) (n + block.size + 2)),
      n + block.size + 2,
    ))) fate

not_whole : (come end : ℕ) (fault : Fault) → whole_at come end fault ≡ None → come ≤ end
not_whole come end fault e = by_test (nat_lt come end) refl e
  where
    by_test : (b : Bool) → nat_lt come end ≡ b → ◌≡◌ {A = Front} (cond b None (Some (Bad fault, end))) None → come ≤ end
    by_test true short e = grind (arith, nat_tests, short)
    by_test false long e = cc

-- the requests of bytes that begin with a refused block, by how much of it has still to come
refused_requests : (unread more : List ℕ) (fault : Fault) (end : ℕ) → length unread ≤ end
    → front (unread ++ more) ≡ whole_at (length (unread ++ more)) end fault
    → requests (unread ++ more)
    ≡ unread_requests (Some (record { fault = fault; left = end - length unread - length more }))
    (drop (end - length unread) more)
refused_requests unread more fault end within e = by_test (nat_lt (length (unread ++ more)) end) refl e
  where
    by_test : (b : Bool)
        → nat_lt (length (unread ++ more)) end ≡ b
        → front (unread ++ more) ≡ cond b None (Some (Bad fault, end))
        → requests (unread ++ more)
        ≡ unread_requests (Some (record { fault = fault; left = end - length unread - length more }))
        (drop (end - length unread) more)
    by_test true short is =
        let some : (end - length unread - length more == 0) ≡ false =
        grind (arith, nat_tests, length-append unread more, short) in
        rw some (requests_none (unread ++ more) is)
    by_test false long is =
        let all : (end - length unread - length more == 0) ≡ true =
        grind (arith, nat_tests, length-append unread more, long) in
        let rest : drop end (unread ++ more) ≡ drop (end - length unread) more =
        drop_two end unread more ∙ ap (λ xs. xs ++ drop (end - length unread) more) (drop_all end unread within) in
        rw (all, ← rest) (requests_some (unread ++ more) (Bad fault, end) is)

-- From a refused block on that isn't whole, passing over its bytes gives what reading them would.
pub refused_later : (unread more : List ℕ) (p : SkippedBlock)
    → front unread ≡ None
    → refused_at unread ≡ Some p
    → requests (unread ++ more) ≡ unread_requests (passed (Some p) more) (kept (Some p) more)
refused_later unread more p none refused = by_line (asked_at unread) refl refused
  where
    by_fate : (block : Block) (n : ℕ) (fate : Fate)
        → block.fate ≡ fate
        → asked_at unread ≡ Some (Behind block, n)
        → refused_by fate (n + block.size + 2 - length unread) ≡ Some p
        → requests (unread ++ more) ≡ unread_requests (passed (Some p) more) (kept (Some p) more)
    by_fate block n (Put key verb silent) is asked e = cc
    by_fate block n (Refuse fault) is asked e =
        let still = asked_kept line_limit unread more (Behind block, n) asked in
        let whole : whole_at (length unread) (n + block.size + 2) fault ≡ None =
        sym (refused_front unread block n fault asked is) ∙ none in
        let same : record { fault = fault; left = n + block.size + 2 - length unread } ≡ p = cc in
        subst (λ q. requests (unread ++ more) ≡ unread_requests (passed (Some q) more) (kept (Some q) more)) same
        (refused_requests unread more fault (n + block.size + 2)
        (not_whole (length unread) (n + block.size + 2) fault whole)
        (refused_front (unread ++ more) block n fault still is))

    by_line : (asked : Option (Asked × ℕ))
        → asked_at unread ≡ asked
        → refused_by_asked unread asked ≡ Some p
        → requests (unread ++ more) ≡ unread_requests (passed (Some p) more) (kept (Some p) more)
    by_line None asked e = cc
    by_line (Some (Whole request, n)) asked e = cc
    by_line (Some (Behind block, n)) asked e = by_fate block n block.fate refl asked e
