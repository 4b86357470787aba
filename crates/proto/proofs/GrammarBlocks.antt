-- A block after a line: which bytes it is, and what becomes of it.
use Rattle.std.proofs.Common.{◌≡◌, ◌≢◌, ℕ, ◌+◌, ◌-◌, ◌<◌, ◌≤◌, Bool, true, false, cond, List, ◌++◌, length, take, drop}
use Rattle.std.proofs.Common.{None, Some, refl, ap, sym, ◌∙◌, subst, arith, nat_lt, length-append, length-take}
use Rattle.std.proofs.Common.{length-drop, append_assoc, take_at, drop_at, take-add}
use Rattle.std.specs.List.{slice_range}
use Rattle.std.specs.Str.{bytes_eq}
use Rattle.std.proofs.lemmas.Bool.{ltb-true, ltb-false, lt-ltb, le-ltb, cond-true, cond-false, false_from_ne_true}
use Rattle.std.proofs.lemmas.Slice.Eq.{bytes_eq-Decides}
use Rattle.table.specs.Items.{limit}
use Rattle.proto.specs.Words.{crlf}
use Rattle.proto.specs.Verbs.{op_of}
use Rattle.proto.specs.declared.requests.Fault.TheVariants.{DataChunk, TooLarge, Expiry}
use Rattle.proto.specs.declared.requests.Request.{Request}
use Rattle.proto.specs.declared.requests.Request.TheVariants.{Store, Bad}
use Rattle.proto.specs.declared.storage.StorageLine.{StorageLine}
use Rattle.proto.specs.declared.lines.Asked.TheVariants.{Behind}
use Rattle.proto.specs.declared.storage.Block.{Block}
use Rattle.proto.specs.declared.storage.Fate.{Fate}
use Rattle.proto.specs.declared.storage.Fate.TheVariants.{Put, Refuse}
use Rattle.proto.specs.Requests.{fate_of}
use Rattle.proto.specs.Fronts.{finished, completed}
use Rattle.proto.specs.Grammar.{IsBlock, Spells}
use Rattle.proto.proofs.GrammarWords.{IsBehind}

-- what is made of a block of this line, if it is as large as the line says
abbrev made : List ℕ → StorageLine → List ℕ → List ℕ → Request
made key line block ends = finished (fate_of key line) block ends

-- it is refused for its size first, then for its expiry time, then for its ends
pub made_large : (key : List ℕ) (line : StorageLine) (block ends : List ℕ)
    → length block ≡ line.size
    → limit < length block
    → made key line block ends ≡ Bad TooLarge
made_large key line block ends same large =
    ap (λ f. finished f block ends) (cond-true _ _ _ (lt-ltb limit line.size (omega arith)))

made_small : (key : List ℕ) (line : StorageLine) (block ends : List ℕ)
    → length block ≡ line.size
    → length block ≤ limit
    → made key line block ends ≡ finished (cond line.expires (Refuse Expiry) (Put key line.verb line.silent)) block ends
made_small key line block ends same small =
    ap (λ f. finished f block ends) (cond-false _ _ _ (le-ltb limit line.size (omega arith)))

-- a block within the limit is refused for its expiry time, whatever its ends
pub made_expiry : (key : List ℕ) (line : StorageLine) (block ends : List ℕ)
    → length block ≡ line.size
    → length block ≤ limit
    → line.expires ≡ true
    → made key line block ends ≡ Bad Expiry
made_expiry key line block ends same small late =
    made_small key line block ends same small ∙ ap (λ f. finished f block ends) (cond-true _ _ _ late)

made_put : (key : List ℕ) (line : StorageLine) (block ends : List ℕ)
    → length block ≡ line.size
    → length block ≤ limit
    → line.expires ≡ false
    → made key line block ends ≡ cond (bytes_eq ends crlf) (Store key (op_of line.verb block) line.silent)
    (Bad DataChunk)
made_put key line block ends same small none =
    made_small key line block ends same small ∙ ap (λ f. finished f block ends) (cond-false _ _ _ none)

-- data that has no expiry time and is followed by CR LF is stored
pub made_store : (key : List ℕ) (line : StorageLine) (block : List ℕ)
    → length block ≡ line.size
    → length block ≤ limit
    → line.expires ≡ false
    → made key line block crlf ≡ Store key (op_of line.verb block) line.silent
made_store key line block same small none = made_put key line block crlf same small none

-- a block that isn't followed by CR LF is refused for its ends
pub made_chunk : (key : List ℕ) (line : StorageLine) (block ends : List ℕ)
    → length block ≡ line.size
    → length block ≤ limit
    → line.expires ≡ false
    → ends ≢ crlf
    → made key line block ends ≡ Bad DataChunk
made_chunk key line block ends same small none other = made_put key line block ends same small none
    ∙ cond-false _ _ _ (false_from_ne_true _ (λ is. other ((bytes_eq-Decides ends crlf).0 is)))

-- what is made of a block is what it spells
pub made_spelled : (key : List ℕ) (line : StorageLine) (block ends bytes : List ℕ)
    → IsBlock key line block ends bytes
    → Spells (made key line block ends) bytes
made_spelled key line block ends bytes h =
    by_tests (nat_lt limit (length block)) line.expires (bytes_eq ends crlf) refl refl refl
  where
    by_tests : (large late same : Bool)
        → nat_lt limit (length block) ≡ large
        → line.expires ≡ late
        → bytes_eq ends crlf ≡ same
        → Spells (made key line block ends) bytes
    by_tests true late same l x s =
        let over = ltb-true limit (length block) l in
        subst (λ r. Spells r bytes) (sym (made_large key line block ends h.size_is over))
        (key, line, block, ends, h, over)
    by_tests false true same l x s =
        let small = ltb-false limit (length block) l in
        subst (λ r. Spells r bytes) (sym (made_expiry key line block ends h.size_is small x))
        (key, line, block, ends, h, (small, x))
    by_tests false false true l x s =
        let small = ltb-false limit (length block) l in
        let is : ends ≡ crlf = (bytes_eq-Decides ends crlf).0 s in
        subst (λ r. Spells r bytes) (sym (made_put key line block ends h.size_is small x ∙ cond-true _ _ _ s))
        (line, block, subst (λ e. IsBlock key line block e bytes) is h, small, x, refl, refl)
    by_tests false false false l x s =
        let small = ltb-false limit (length block) l in
        let other : ends ≢ crlf =
        λ is. let same : bytes_eq ends crlf ≡ true = (bytes_eq-Decides ends crlf).1 is in cc in
        subst (λ r. Spells r bytes) (sym (made_put key line block ends h.size_is small x ∙ cond-false _ _ _ s))
        (key, line, block, ends, h, (small, x, other))

-- bytes n to n + size
range_is : (bytes : List ℕ) (n size : ℕ) → slice_range bytes n (n + size) ≡ take size (drop n bytes)
range_is bytes n size = let same : n + size - n ≡ size = omega arith in ap (λ k. take k (drop n bytes)) same

-- a line, a block of this size, and two bytes more
three_parts : (bytes : List ℕ) (n size : ℕ)
    → take (n + size + 2) bytes ≡ take n bytes ++ slice_range bytes n (n + size) ++ slice_range bytes (n + size)
    (n + size + 2)
three_parts bytes n size =
    let front : take (n + size) bytes ≡ take n bytes ++ slice_range bytes n (n + size) =
    take-add n size bytes ∙ ap (λ xs. take n bytes ++ xs) (sym (range_is bytes n size)) in
    let ends : slice_range bytes (n + size) (n + size + 2) ≡ take 2 (drop (n + size) bytes) =
    range_is bytes (n + size) 2 in
    take-add (n + size) 2 bytes
    ∙ (ap (λ xs. xs ++ take 2 (drop (n + size) bytes)) front
    ∙ ap (λ xs. take n bytes ++ slice_range bytes n (n + size) ++ xs) (sym ends))

length_range : (bytes : List ℕ) (n size : ℕ) → n + size ≤ length bytes → length (slice_range bytes n (n + size)) ≡ size
length_range bytes n size h =
    ap length (range_is bytes n size) ∙ omega (arith, length-take size (drop n bytes), length-drop n bytes)

-- the bytes up to the end of a block that has come
block_at : (bytes : List ℕ) (block : Block) (n : ℕ) (h : IsBehind (take n bytes) block)
    → n + h.line.size + 2 ≤ length bytes
    → IsBlock h.key h.line (slice_range bytes n (n + h.line.size))
    (slice_range bytes (n + h.line.size) (n + h.line.size + 2)) (take (n + h.line.size + 2) bytes)
block_at bytes block n h inside =
    record {
      storing = h.storing;
      fields = h.fields;
      text = take n bytes;
      is_line = h.is_line;
      are_storage = h.are_storage;
      size_is = length_range bytes n h.line.size (omega arith);
      two = length_range bytes (n + h.line.size) 2 inside;
      spelled = three_parts bytes n h.line.size;
    }

finished_at : (bytes : List ℕ) (block : Block) (n : ℕ)
    → n + block.size + 2 ≤ length bytes
    → IsBehind (take n bytes) block
    → Spells (finished block.fate (slice_range bytes n (n + block.size))
    (slice_range bytes (n + block.size) (n + block.size + 2))) (take (n + block.size + 2) bytes)
finished_at bytes block n inside h =
    subst (λ (b : Block). n + b.size + 2 ≤ length bytes
    → Spells (finished b.fate (slice_range bytes n (n + b.size))
    (slice_range bytes (n + b.size) (n + b.size + 2))) (take (n + b.size + 2) bytes)) h.block_is
    (λ come. made_spelled h.key h.line _ _ _ (block_at bytes block n h come)) inside

-- what is found is spelled by that number of bytes
pub record IsFound (bytes : List ℕ) (found : Request × ℕ) : Type 0 where
  pub inside : found.1 ≤ length bytes
  pub some : 1 ≤ found.1
  pub spelled : Spells found.0 (take found.1 bytes)

-- a block that has come is spelled by the bytes up to its end
pub completed_spelled : (bytes : List ℕ) (block : Block) (n : ℕ) (found : Request × ℕ)
    → IsBehind (take n bytes) block
    → completed bytes (Behind block) n ≡ Some found
    → IsFound bytes found
completed_spelled bytes block n found h e = by_length (nat_lt (length bytes) (n + block.size + 2)) refl e
  where
    by_length : (b : Bool) → nat_lt (length bytes) (n + block.size + 2) ≡ b
        → cond b None (Some (
          finished block.fate (slice_range bytes n (n + block.size))
              (slice_range bytes (n + block.size) (n + block.size + 2)),
          n + block.size + 2,
        )) ≡ Some found
        → IsFound bytes found
    by_length true short none = cc
    by_length false short is =
        let inside : n + block.size + 2 ≤ length bytes = ltb-false _ _ short in
        let same : (
          finished block.fate (slice_range bytes n (n + block.size))
              (slice_range bytes (n + block.size) (n + block.size + 2)),
          n + block.size + 2,
        ) ≡ found =
        cc in
        subst (IsFound bytes) same
        (record { inside = inside; some = omega arith; spelled = finished_at bytes block n inside h })

-- bytes between others
middle : (a b c : List ℕ) (n size : ℕ) → length a ≡ n → length b ≡ size → slice_range (a ++ b ++ c) n (n + size) ≡ b
middle a b c n size before count =
    range_is (a ++ b ++ c) n size
    ∙ (ap (λ w. take size (drop n w)) (append_assoc a b c)
    ∙ (ap (take size) (drop_at a (b ++ c) n before) ∙ take_at b c size count))

finished_again : (fate : Fate) (block ends line more : List ℕ) (n size : ℕ)
    → length line ≡ n
    → length block ≡ size
    → length ends ≡ 2
    → finished fate (slice_range (line ++ block ++ ends ++ more) n (n + size))
    (slice_range (line ++ block ++ ends ++ more) (n + size) (n + size + 2)) ≡ finished fate block ends
finished_again fate block ends line more n size first second two =
    let by_block : slice_range (line ++ block ++ ends ++ more) n (n + size) ≡ block =
    ap (λ w. slice_range w n (n + size)) (append_assoc (line ++ block) ends more)
    ∙ middle line block (ends ++ more) n size first second in
    let by_ends : slice_range (line ++ block ++ ends ++ more) (n + size) (n + size + 2) ≡ ends =
    middle (line ++ block) ends more (n + size) 2 (omega (arith, length-append line block)) two in
    rw (by_block, by_ends) refl

-- a block that is spelled has come, whatever follows
pub completed_again : (fate : Fate) (block ends line more : List ℕ) → length ends ≡ 2
    → completed (line ++ block ++ ends ++ more) (Behind (record { size = length block; fate = fate })) (length line)
    ≡ Some (finished fate block ends, length (line ++ block ++ ends))
completed_again fate block ends line more two =
    let count : length (line ++ block ++ ends) ≡ length line + length block + 2 =
    omega (arith, length-append (line ++ block) ends, length-append line block) in
    let long : nat_lt (length (line ++ block ++ ends ++ more)) (length line + length block + 2) ≡ false =
    le-ltb _ _ (omega (arith, length-append (line ++ block ++ ends) more)) in
    let made = finished_again fate block ends line more (length line) (length block) refl refl two in
    cond-false _ _ _ long
    ∙ (ap (λ r. Some (r, length line + length block + 2)) made ∙ ap (λ k. Some (finished fate block ends, k))
    (sym count))
