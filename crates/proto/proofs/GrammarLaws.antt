-- What stands at the front of a stream, and what the grammar says of it.
use Rattle.std.proofs.Common.{lit≤, ◌≡◌, ℕ, ◌+◌, ◌≤◌, inl, inr, Bool, true, false, cond, List, [], ◌∷◌, ◌++◌, length}
use Rattle.std.proofs.Common.{take, drop, Option, None, Some, refl, ap, sym, ◌∙◌, subst, arith, nat_le, length-append}
use Rattle.std.proofs.Common.{length-take, append_assoc, take-append-drop, take_at}
use Rattle.std.specs.Prelude.{not, IsTrue, ◌==◌}
use Rattle.std.specs.List.{join_with_byte}
use Rattle.std.proofs.lemmas.Bool.{and_parts, and_from, leb-true}
use Rattle.std.proofs.lemmas.List.Folds.{list_all-append}
use Rattle.table.specs.declared.operations.Op.TheVariants.{Read, Set, Add, Replace, Append, Prepend, Cas, Incr, Decr}
use Rattle.table.specs.declared.operations.Op.TheVariants.{Delete, Flush}
use Rattle.proto.specs.Words.{lf, cr, space, crlf, line_limit, first_lf, fields_of}
use Rattle.proto.specs.Verbs.{op_of}
use Rattle.proto.specs.declared.requests.Fault.TheVariants.{Command, Format, DataChunk, TooLarge, LineTooLong, Expiry}
use Rattle.proto.specs.declared.requests.Request.{Request}
use Rattle.proto.specs.declared.requests.Request.TheVariants as requests
use Rattle.proto.specs.declared.words.Word.{Word}
use Rattle.proto.specs.declared.words.Word.TheVariants as words
use Rattle.proto.specs.declared.storage.StorageLine.{StorageLine}
use Rattle.proto.specs.declared.lines.Asked.{Asked}
use Rattle.proto.specs.declared.lines.Asked.TheVariants.{Whole, Behind}
use Rattle.proto.specs.Requests.{fate_of, block_of, word_of, asked_of, or_misfit, by_word, by_fields, by_line, by_end}
use Rattle.proto.specs.Requests.{asked_at}
use Rattle.proto.specs.Fronts.{finished, by_asked, Front, front}
use Rattle.proto.specs.Grammar.{has_no_lf, IsLine, IsBlock, IsBareLine, spelling, get_word, noreply, Spells}
use Rattle.proto.proofs.GrammarLines.{FrontLine, line_at_first_lf, none_by_first_lf, asked_of_text, asked_of_long}
use Rattle.proto.proofs.GrammarLines.{by_cr, by_line_cr, by_line_bare}
use Rattle.proto.proofs.GrammarFields.{fields_of_joined, joined_fields, no_lf_in_joined, fields_are, some_field}
use Rattle.proto.proofs.GrammarWords.{Asks, asks_by_fields, word_found, unknown_asked, misfit_asked, get_asked}
use Rattle.proto.proofs.GrammarWords.{store_asked, incr_asked, decr_asked, delete_asked, flush_asked}
use Rattle.proto.proofs.GrammarBlocks.{IsFound, completed_spelled, completed_again, made_large, made_expiry, made_store}
use Rattle.proto.proofs.GrammarBlocks.{made_chunk}

-- a CR at the end of a text is no LF
no_lf_before_cr : (t : List ℕ) → IsTrue (has_no_lf (t ++ cr ∷ [])) → IsTrue (has_no_lf t)
no_lf_before_cr t h =
    (and_parts (has_no_lf t) (has_no_lf (cr ∷ [])) (sym (list_all-append (λ b. not (b == lf)) t (cr ∷ [])) ∙ h)).0

no_lf_with_cr : (t : List ℕ) → IsTrue (has_no_lf t) → IsTrue (has_no_lf (t ++ cr ∷ []))
no_lf_with_cr t h =
    list_all-append (λ b. not (b == lf)) t (cr ∷ []) ∙ and_from (has_no_lf t) (has_no_lf (cr ∷ [])) h refl

-- the line at the front asks for what its text asks for
text_asks : (bytes text : List ℕ) (n : ℕ) → FrontLine line_limit bytes text n → Asks (by_line text) (take n bytes)
text_asks bytes text n h =
    let count : length (take n bytes) ≤ line_limit = let a = h.short in omega (arith, length-take n bytes) in
    elim (by_cr text) [
      | inl found ↦
          let before = found.0 in
          let single : IsTrue (has_no_lf before) =
          no_lf_before_cr before (subst (λ t. IsTrue (has_no_lf t)) found.1 h.single) in
          let spelled : take n bytes ≡ join_with_byte space (fields_of before) ++ crlf =
          h.text_is ∙ (ap (λ t. t ++ lf ∷ []) found.1
          ∙ (append_assoc before (cr ∷ []) (lf ∷ []) ∙ ap (λ t. t ++ crlf) (sym (joined_fields before)))) in
          subst (λ a. Asks a (take n bytes)) (sym (ap by_line found.1 ∙ by_line_cr before))
          (asks_by_fields (fields_of before) (take n bytes) (some_field before)
          (record { spelled = spelled; separate = fields_are before single; short = count }))
      | inr bare ↦ subst (λ a. Asks a (take n bytes)) (sym bare.1)
          (inl (record { text = text; ends = h.text_is; single = h.single; bare = bare.0; short = count }))
    ]

-- this number of bytes, which are there, ask for this
pub record AsksAt (bytes : List ℕ) (line : Asked × ℕ) : Type 0 where
  pub inside : line.1 ≤ length bytes
  pub some : 1 ≤ line.1
  pub short : line.1 ≤ line_limit
  pub asks : Asks line.0 (take line.1 bytes)

some_limit : 1 ≤ line_limit
unfolding line_limit
some_limit = lit≤ tt

-- by the place of the first LF
asks_by_end : (bytes : List ℕ) (place : Option ℕ) (line : Asked × ℕ)
    → first_lf (take line_limit bytes) ≡ place
    → by_end line_limit bytes place ≡ Some line
    → AsksAt bytes line
asks_by_end bytes (Some i) line e is =
    let same : (by_line (take i bytes), i + 1) ≡ line = cc in
    let h = line_at_first_lf line_limit bytes i e in
    subst (AsksAt bytes) same
    (record {
      inside = h.inside;
      some = omega arith;
      short = h.short;
      asks = text_asks bytes (take i bytes) (i + 1) h;
    })
asks_by_end bytes None line e is = by_length (nat_le line_limit (length bytes)) refl is
  where
    by_length : (b : Bool)
        → nat_le line_limit (length bytes) ≡ b
        → cond b (Some (Whole (requests.Bad LineTooLong), line_limit)) None ≡ Some line
        → AsksAt bytes line
    by_length false long none = cc
    by_length true long found =
        let same : (Whole (requests.Bad LineTooLong), line_limit) ≡ line = cc in
        let enough : line_limit ≤ length bytes = leb-true line_limit (length bytes) long in
        subst (AsksAt bytes) same
        (record {
          inside = enough;
          some = some_limit;
          short = omega arith;
          asks = (omega (arith, length-take line_limit bytes), none_by_first_lf (take line_limit bytes) e);
        })

-- what the line at the front asks for, it says
pub asks_at : (bytes : List ℕ) (line : Asked × ℕ) → asked_at bytes ≡ Some line → AsksAt bytes line
asks_at bytes line e = asks_by_end bytes (first_lf (take line_limit bytes)) line refl e

-- by what the line at the front asks for
found_by_asked : (bytes : List ℕ) (asked : Option (Asked × ℕ)) (found : Request × ℕ)
    → asked_at bytes ≡ asked
    → by_asked bytes asked ≡ Some found
    → IsFound bytes found
found_by_asked bytes None found e is = cc
found_by_asked bytes (Some (Whole request, n)) found e is =
    let same : (request, n) ≡ found = cc in
    let h = asks_at bytes (Whole request, n) e in
    subst (IsFound bytes) same (record { inside = h.inside; some = h.some; spelled = h.asks })
found_by_asked bytes (Some (Behind block, n)) found e is =
    let h = asks_at bytes (Behind block, n) e in
    completed_spelled bytes block n found h.asks is

-- What is found at the front is spelled by exactly those bytes.
pub found_is_spelled : (bytes : List ℕ) (found : Request × ℕ)
    → front bytes ≡ Some found
    → (found.1 ≤ length bytes) × (1 ≤ found.1) × Spells found.0 (take found.1 bytes)
found_is_spelled bytes found e =
    let h = found_by_asked bytes (asked_at bytes) found refl e in (h.inside, h.some, h.spelled)

-- a line at the front asks for what its fields ask for, whatever follows
line_asked : (field : List ℕ) (fields : List (List ℕ)) (bytes more : List ℕ)
    → IsLine (field ∷ fields) bytes
    → asked_at (bytes ++ more) ≡ Some (by_fields (field ∷ fields), length bytes)
line_asked field fields bytes more h =
    let joined = join_with_byte space (field ∷ fields) in
    let is : bytes ≡ (joined ++ cr ∷ []) ++ lf ∷ [] = h.spelled ∙ sym (append_assoc joined (cr ∷ []) (lf ∷ [])) in
    let single : IsTrue (has_no_lf (joined ++ cr ∷ [])) =
    no_lf_with_cr joined (no_lf_in_joined (field ∷ fields) h.separate) in
    let count : length bytes ≡ length (joined ++ cr ∷ []) + 1 =
    ap length is ∙ length-append (joined ++ cr ∷ []) (lf ∷ []) in
    let short : length bytes ≤ line_limit = h.short in
    let asks : by_line (joined ++ cr ∷ []) ≡ by_fields (field ∷ fields) =
    by_line_cr joined ∙ ap by_fields (fields_of_joined field fields h.separate) in
    ap (λ b. asked_at (b ++ more)) is
    ∙ (asked_of_text line_limit (joined ++ cr ∷ []) more single (omega arith)
    ∙ (ap (λ a. Some (a, length (joined ++ cr ∷ []) + 1)) asks ∙ ap (λ k. Some (by_fields (field ∷ fields), k))
    (sym count)))

-- a line whose first field is a command word, or none
word_asked : (word : Option Word) (field : List ℕ) (fields : List (List ℕ)) (bytes more : List ℕ)
    → IsLine (field ∷ fields) bytes
    → word_of field ≡ word
    → asked_at (bytes ++ more) ≡ Some (by_word word fields, length bytes)
word_asked word field fields bytes more h is =
    line_asked field fields bytes more h ∙ ap (λ w. Some (by_word w fields, length bytes)) is

-- a command whose fields ask for this, or for nothing
command_asked : (word : Word) (fields : List (List ℕ)) (bytes more : List ℕ) (asked : Option Asked)
    → IsLine (spelling word ∷ fields) bytes
    → asked_of word fields ≡ asked
    → asked_at (bytes ++ more) ≡ Some (or_misfit asked, length bytes)
command_asked word fields bytes more asked h is =
    word_asked (Some word) (spelling word) fields bytes more h (word_found word)
    ∙ ap (λ a. Some (or_misfit a, length bytes)) is

-- a command that asks for a whole request
command_found : (word : Word) (fields : List (List ℕ)) (bytes more : List ℕ) (request : Request)
    → IsLine (spelling word ∷ fields) bytes
    → asked_of word fields ≡ Some (Whole request)
    → front (bytes ++ more) ≡ Some (request, length bytes)
command_found word fields bytes more request h is =
    ap (by_asked (bytes ++ more)) (command_asked word fields bytes more (Some (Whole request)) h is)

-- a storage line with a block after it
block_found : (key : List ℕ) (line : StorageLine) (block ends bytes more : List ℕ)
    → IsBlock key line block ends bytes
    → front (bytes ++ more) ≡ Some (finished (fate_of key line) block ends, length bytes)
block_found key line block ends bytes more h =
    let asked : asked_at (h.text ++ (block ++ ends ++ more)) ≡ Some (Behind (block_of key line), length h.text) =
    command_asked (words.Store h.storing) h.fields h.text (block ++ ends ++ more) (Some (Behind (block_of key line)))
    h.is_line (store_asked h.storing h.fields key line h.are_storage) in
    let sized : asked_at (h.text ++ (block ++ ends ++ more))
    ≡ Some (Behind (record { size = length block; fate = fate_of key line }), length h.text) =
    rw h.size_is asked in
    let regrouped : h.text ++ (block ++ ends ++ more) ≡ h.text ++ block ++ ends ++ more = simp append_assoc in
    let found : front (h.text ++ block ++ ends ++ more)
    ≡ Some (finished (fate_of key line) block ends, length (h.text ++ block ++ ends)) =
    ap (by_asked (h.text ++ block ++ ends ++ more)) (ap asked_at (sym regrouped) ∙ sized)
    ∙ completed_again (fate_of key line) block ends h.text more h.two in
    subst (λ b. front (b ++ more) ≡ Some (finished (fate_of key line) block ends, length b)) (sym h.spelled) found

-- a block that becomes this request
block_as : (key : List ℕ) (line : StorageLine) (block ends bytes more : List ℕ) (request : Request)
    → IsBlock key line block ends bytes
    → finished (fate_of key line) block ends ≡ request → front (bytes ++ more) ≡ Some (request, length bytes)
block_as key line block ends bytes more request h is =
    block_found key line block ends bytes more h ∙ ap (λ r. Some (r, length bytes)) is

-- a line feed with no CR before it
bare_found : (bytes more : List ℕ)
    → IsBareLine bytes
    → front (bytes ++ more) ≡ Some (requests.Bad Command, length bytes)
bare_found bytes more h =
    let count : length bytes ≡ length h.text + 1 = ap length h.ends ∙ length-append h.text (lf ∷ []) in
    let short : length bytes ≤ line_limit = h.short in
    let asked : asked_at (bytes ++ more) ≡ Some (Whole (requests.Bad Command), length h.text + 1) =
    ap (λ b. asked_at (b ++ more)) h.ends
    ∙ (asked_of_text line_limit h.text more h.single (omega arith)
    ∙ ap (λ a. Some (a, length h.text + 1)) (by_line_bare h.text h.bare)) in
    ap (by_asked (bytes ++ more)) asked ∙ ap (λ k. Some (requests.Bad Command, k)) (sym count)

-- What is spelled at the front is found, whatever follows.
pub spelled_is_found : (request : Request) (spelling more : List ℕ)
    → Spells request spelling
    → front (spelling ++ more) ≡ Some (request, length spelling)
spelled_is_found (requests.Get keys unique) spelling more s =
    command_found (get_word unique) keys spelling more _ s.0 (get_asked unique keys s.1)
spelled_is_found (requests.Store key op silent) spelling more s =
    let line = s.0 in
    let is : requests.Store key (op_of line.verb s.1) line.silent ≡ requests.Store key op silent = rw (s.5, s.6) refl in
    block_as key line s.1 crlf spelling more _ s.2 (made_store key line s.1 s.2.size_is s.3 s.4 ∙ is)
spelled_is_found (requests.Arith key (Incr amount) silent) spelling more s =
    command_found words.Incr s.0 spelling more _ s.1 (incr_asked s.0 key amount silent s.2)
spelled_is_found (requests.Arith key (Decr amount) silent) spelling more s =
    command_found words.Decr s.0 spelling more _ s.1 (decr_asked s.0 key amount silent s.2)
spelled_is_found (requests.Arith key Read silent) spelling more s = absurd s
spelled_is_found (requests.Arith key (Set flags block) silent) spelling more s = absurd s
spelled_is_found (requests.Arith key (Add flags block) silent) spelling more s = absurd s
spelled_is_found (requests.Arith key (Replace flags block) silent) spelling more s = absurd s
spelled_is_found (requests.Arith key (Append block) silent) spelling more s = absurd s
spelled_is_found (requests.Arith key (Prepend block) silent) spelling more s = absurd s
spelled_is_found (requests.Arith key (Cas flags block unique) silent) spelling more s = absurd s
spelled_is_found (requests.Arith key Delete silent) spelling more s = absurd s
spelled_is_found (requests.Arith key Flush silent) spelling more s = absurd s
spelled_is_found (requests.Delete key silent) spelling more s =
    command_found words.Delete s.0 spelling more _ s.1 (delete_asked s.0 key silent s.2)
spelled_is_found (requests.Flush silent) spelling more s =
    command_found words.FlushAll (noreply silent) spelling more _ s (flush_asked silent)
spelled_is_found requests.Quit spelling more s = command_found words.Quit [] spelling more _ s refl
spelled_is_found (requests.Bad Command) spelling more s = elim s [
  | inl bare ↦ bare_found spelling more bare
  | inr other ↦ ap (by_asked (spelling ++ more))
      (word_asked None other.0 other.1 spelling more other.2 (unknown_asked other.0 other.3))
]
spelled_is_found (requests.Bad Format) spelling more s =
    ap (by_asked (spelling ++ more)) (command_asked s.0 s.1 spelling more None s.2 (misfit_asked s.0 s.1 s.3))
spelled_is_found (requests.Bad TooLarge) spelling more s =
    block_as s.0 s.1 s.2 s.3 spelling more _ s.4 (made_large s.0 s.1 s.2 s.3 s.4.size_is s.5)
spelled_is_found (requests.Bad Expiry) spelling more s =
    block_as s.0 s.1 s.2 s.3 spelling more _ s.4 (made_expiry s.0 s.1 s.2 s.3 s.4.size_is s.5.0 s.5.1)
spelled_is_found (requests.Bad DataChunk) spelling more s =
    block_as s.0 s.1 s.2 s.3 spelling more _ s.4 (made_chunk s.0 s.1 s.2 s.3 s.4.size_is s.5.0 s.5.1 s.5.2)
spelled_is_found (requests.Bad LineTooLong) spelling more s =
    ap (by_asked (spelling ++ more)) (asked_of_long line_limit spelling more s.1 s.0)
    ∙ ap (λ k. Some (requests.Bad LineTooLong, k)) (sym s.0)

-- what one and the same find is
same_find : (r s : Request) (m n : ℕ) → ◌≡◌ {A = Front} (Some (r, m)) (Some (s, n)) → (r ≡ s) × (m ≡ n)
same_find r s m n e =
    let pair : ◌≡◌ {A = Request × ℕ} (r, m) (s, n) = cc in
    (ap (λ (p : Request × ℕ). p.0) pair, ap (λ (p : Request × ℕ). p.1) pair)

-- At most one request stands at a front.
pub one_request_at_a_front : (r s : Request) (x y more others : List ℕ)
    → Spells r x
    → Spells s y
    → x ++ more ≡ y ++ others
    → (r ≡ s) × (x ≡ y)
one_request_at_a_front r s x y more others hx hy e =
    let first : front (x ++ more) ≡ Some (r, length x) = spelled_is_found r x more hx in
    let second : front (y ++ others) ≡ Some (s, length y) = spelled_is_found s y others hy in
    let same = same_find r s (length x) (length y) (sym first ∙ (ap front e ∙ second)) in
    (same.0, sym (take_at x more (length x) refl) ∙ (ap (take (length x)) e ∙ take_at y others (length x) (sym same.1)))

-- What stands whole at the front stays there, whatever comes after it.
pub whole_stays_whole : (bytes more : List ℕ) (found : Request × ℕ)
    → front bytes ≡ Some found
    → front (bytes ++ more) ≡ Some found
whole_stays_whole bytes more found e =
    let h = found_is_spelled bytes found e in
    let cut : bytes ++ more ≡ take found.1 bytes ++ (drop found.1 bytes ++ more) =
    ap (λ b. b ++ more) (sym (take-append-drop found.1 bytes))
    ∙ append_assoc (take found.1 bytes) (drop found.1 bytes) more in
    let inside = h.0 in
    let count : length (take found.1 bytes) ≡ found.1 = omega (arith, length-take found.1 bytes) in
    ap front cut ∙ (spelled_is_found found.0 (take found.1 bytes) (drop found.1 bytes ++ more) h.2
    ∙ ap (λ n. Some (found.0, n)) count)
