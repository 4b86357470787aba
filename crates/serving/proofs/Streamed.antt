-- How serving a stream goes on, and what it comes to.
use Rattle.std.proofs.Common.{◌≡◌, ℕ, List, [], ◌∷◌, ◌++◌, length, suc, take, drop, map, refl, sym, ap, subst, ◌∙◌}
use Rattle.std.proofs.Common.{append_assoc, append-nil, Result, Ok, Err, IfErr, inl, inr}
use Rattle.table.specs.declared.operations.Call.{Call}
use Rattle.table.specs.declared.operations.Reply.{Reply}
use Rattle.proto.specs.Turns.{Turn, Faulty, Calls, Outcome, Replied, calls_of, fault_text, text}
use Rattle.proto.specs.Streams.{outcome_texts, texts, turns}
use Rattle.ends.specs.Ends.{WritesBeginning}
use Rattle.serving.specs.declared.endings.End.{End}
use Rattle.serving.specs.declared.endings.ServeFault.{ServeFault}
use Rattle.serving.specs.declared.endings.ServeFault.TheVariants.{Memory, Read, Write, Call as Called}
use Rattle.serving.specs.Serving.{is_closed}
use Rattle.serving.specs.Streams.{AreReplied, IsCut, IsLeft, IsServed}
use Rattle.serving.specs.Connections.{Connected, IsBegun, IsAnswered, HasOutcome, unused}
use Rattle.serving.proofs.Served.{first_or, others}

-- what a source gave, with one piece more
pub given_on : (before read piece now then : List ℕ) → now ≡ before ++ read → then ≡ now ++ piece
    → then ≡ before ++ (read ++ piece)
given_on before read piece now then e more = more ∙ (ap (λ bytes. bytes ++ piece) e ∙ append_assoc before read piece)

-- what holds of any fault holds of this one
pub by_fault : {T E : Type 0} {Q : E → Type 0} (r : Result T E) → ((fault : E) → Q fault) → IfErr r Q
by_fault (Ok value) q = tt
by_fault (Err fault) q = q fault

-- once the one call that waits has come to something none waits
pub has_idle : (c d : Connected) (call : Call) (outcome : Outcome) → c.waiting ≡ call ∷ [] → HasOutcome outcome c d
    → d.waiting ≡ []
has_idle c d call outcome waits has = ap (λ x. x.waiting) has.4 ∙ ap others (sym has.3 ∙ waits)

-- replies are what calls came to
abbrev replied : List Reply → List Outcome
replied replies = map (λ reply. Replied reply) replies

replied_more : (rs : List Reply) (r : Reply) → replied (rs ++ r ∷ []) ≡ replied rs ++ Replied r ∷ []
replied_more [] r = refl
replied_more (q ∷ rs) r = ap (λ os. Replied q ∷ os) (replied_more rs r)

replied_length : (rs : List Reply) → length (replied rs) ≡ length rs
replied_length [] = refl
replied_length (q ∷ rs) = ap suc (replied_length rs)

-- their texts are those of the replies
texts_are : (ts : List Turn) (rs : List Reply) → outcome_texts ts (replied rs) ≡ texts ts rs
texts_are [] rs = refl
texts_are (Faulty fault ∷ ts) rs = ap (λ out. fault_text fault ++ out) (texts_are ts rs)
texts_are (Calls call form ∷ ts) [] = refl
texts_are (Calls call form ∷ ts) (r ∷ rs) = ap (λ out. text form r ++ out) (texts_are ts rs)

module _ {V : Type 0} (answers : V → Call → Reply → V → Type 0) where
  -- one more call was replied to
  replied_next : (v u w : V) (cs : List Call) (rs : List Reply) (c : Call) (r : Reply)
      → AreReplied answers v cs rs u
      → answers u c r w
      → AreReplied answers v (cs ++ c ∷ []) (rs ++ r ∷ []) w
  replied_next v u w [] [] c r so by = (w, subst (λ x. answers x c r w) so by, refl)
  replied_next v u w [] (p ∷ rs) c r so by = absurd so
  replied_next v u w (d ∷ cs) [] c r so by = absurd so
  replied_next v u w (d ∷ cs) (p ∷ rs) c r so by = (so.0, so.1, replied_next so.0 u w cs rs c r so.2 by)

  -- a fault that came in no call leaves the caller as it was
  pub left_same : (fault : ServeFault) (u : V) (next : List Call) → IsLeft answers fault u next u
  left_same Memory u next = inl refl
  left_same Read u next = refl
  left_same Write u next = refl
  left_same Called u next = tt

  -- the call that was made is the first of those that come next
  pub left_next : (fault : ServeFault) (u w : V) (c : Call) (next : List Call) → take 1 next ≡ c ∷ []
      → IsLeft answers fault u (c ∷ []) w → IsLeft answers fault u next w
  left_next Memory u w c [] e (inl same) = inl same
  left_next Memory u w c [] e (inr by) = let no : [] ≡ c ∷ [] = e in absurd (cc)
  left_next Memory u w c (d ∷ next) e (inl same) = inl same
  left_next Memory u w c (d ∷ next) e (inr by) =
      inr (by.0, subst (λ x. answers u x by.0 w) (ap (λ cs. first_or c cs) (sym e)) by.1)
  left_next Read u w c next e same = same
  left_next Write u w c next e same = same
  left_next Called u w c next e any = tt

  module _ (first : V) (base : List ℕ) where
    -- Of a connection: its calls got these replies, and what it says was written was written.
    pub record Stands (c : Connected) (sent : List ℕ) (now : V) : Type 0 where
      pub replies : List Reply
      pub outcomes : c.outcomes ≡ replied replies
      pub calls : AreReplied answers first c.calls replies now
      pub written : sent ≡ base ++ c.written

    -- nothing was read
    pub stands_first : (c : Connected) → c ≡ unused → Stands c base first
    stands_first c e =
        subst (λ d. Stands d base first) (sym e)
        (record { replies = []; outcomes = refl; calls = refl; written = sym (append-nil base) })

    -- its calls, what they came to and the written bytes are the same
    pub stands_same : (c d : Connected) (sent : List ℕ) (now : V) → d.calls ≡ c.calls → d.outcomes ≡ c.outcomes
        → d.written ≡ c.written → Stands c sent now → Stands d sent now
    stands_same c d sent now calls outcomes written s =
        record {
          replies = s.replies;
          outcomes = outcomes ∙ s.outcomes;
          calls = subst (λ cs. AreReplied answers first cs s.replies now) (sym calls) s.calls;
          written = s.written ∙ ap (λ bytes. base ++ bytes) (sym written);
        }

    -- a call was replied to
    pub stands_answered : (c d : Connected) (call : Call) (reply : Reply) (sent : List ℕ) (before now : V)
        → c.waiting ≡ call ∷ [] → HasOutcome (Replied reply) c d → answers before call reply now → Stands c sent before
        → Stands d sent now
    stands_answered c d call reply sent before now waits has by s =
        let same : has.0 ≡ call = ap (λ cs. first_or call cs) (sym has.3 ∙ waits) in
        subst (λ x. Stands x sent now) (sym has.4) (record {
          replies = s.replies ++ reply ∷ [];
          outcomes = ap (λ os. os ++ Replied reply ∷ []) s.outcomes ∙ sym (replied_more s.replies reply);
          calls = replied_next first before now c.calls s.replies has.0 reply s.calls
              (subst (λ x. answers before x reply now) (sym same) by);
          written = s.written;
        })

    -- all that is due was written
    pub stands_written : (c d : Connected) (sent after : List ℕ) (now : V)
        → d ≡ record c { due = []; written = c.written ++ c.due } → after ≡ sent ++ c.due → Stands c sent now
        → Stands d after now
    stands_written c d sent after now e more s =
        subst (λ x. Stands x after now) (sym e) (record {
          replies = s.replies;
          outcomes = s.outcomes;
          calls = s.calls;
          written = more ∙ (ap (λ bytes. bytes ++ c.due) s.written ∙ append_assoc base c.written c.due);
        })

    -- a beginning of what is due was written, and no more: it is cut there
    pub cut : (fault : ServeFault) (c : Connected) (bytes sent after : List ℕ) (now last : V) → Stands c sent now
        → IsBegun c bytes
        → IsLeft answers fault now (drop (length c.outcomes) (calls_of (turns bytes))) last
        → WritesBeginning sent after c.due → IsCut answers fault bytes base after first last
    cut fault c bytes sent after now last s b left (front, rest, split, e) =
        let same : length c.outcomes ≡ length s.replies =
        ap (λ (os : List Outcome). length os) s.outcomes ∙ replied_length s.replies in
        let due : texts (turns bytes) s.replies ≡ outcome_texts (turns bytes) c.outcomes =
        sym (texts_are (turns bytes) s.replies) ∙ ap (outcome_texts (turns bytes)) (sym s.outcomes) in
        record {
          replies = s.replies;
          last = now;
          front = c.written ++ front;
          rest = rest ++ b.rest;
          calls = subst (λ cs. AreReplied answers first cs s.replies now)
              (b.calls ∙ ap (λ n. take n (calls_of (turns bytes))) same) s.calls;
          left = subst (λ n. IsLeft answers fault now (drop n (calls_of (turns bytes))) last) same left;
          written = e ∙ (ap (λ out. out ++ front) s.written ∙ append_assoc base c.written front);
          due = due ∙ (sym b.output
              ∙ (ap (λ out. (c.written ++ out) ++ b.rest) split
              ∙ (ap (λ out. out ++ b.rest) (sym (append_assoc c.written front rest))
              ∙ append_assoc (c.written ++ front) rest b.rest)));
        }

    -- the bytes that were read are all there is
    pub cut_now : (fault : ServeFault) (c : Connected) (sent after : List ℕ) (now : V) → Stands c sent now
        → ((more : List ℕ) → IsBegun c (c.read ++ more)) → WritesBeginning sent after c.due
        → IsCut answers fault c.read base after first now
    cut_now fault c sent after now s b wrote = subst (λ bytes. IsCut answers fault bytes base after first now)
        (append-nil c.read)
        (cut fault c (c.read ++ []) sent after now now s (b []) (left_same fault now _) wrote)

    -- nothing of it was written, and no further call was made
    pub cut_here : (fault : ServeFault) (c : Connected) (bytes sent : List ℕ) (now : V) → Stands c sent now
        → IsBegun c bytes → IsCut answers fault bytes base sent first now
    cut_here fault c bytes sent now s b =
        cut fault c bytes sent sent now now s b (left_same fault now _) ([], c.due, refl, sym (append-nil sent))

    pub cut_now_here : (fault : ServeFault) (c : Connected) (sent : List ℕ) (now : V) → Stands c sent now
        → ((more : List ℕ) → IsBegun c (c.read ++ more)) → IsCut answers fault c.read base sent first now
    cut_now_here fault c sent now s b = cut_now fault c sent sent now s b ([], c.due, refl, sym (append-nil sent))

    -- it is cut in the call that waits
    pub cut_in_call : (fault : ServeFault) (c : Connected) (call : Call) (sent : List ℕ) (now last : V)
        → Stands c sent now
        → ((more : List ℕ) → IsBegun c (c.read ++ more))
        → c.waiting ≡ call ∷ []
        → IsLeft answers fault now (call ∷ []) last
        → IsCut answers fault c.read base sent first last
    cut_in_call fault c call sent now last s b waits left =
        let next = drop (length c.outcomes) (calls_of (turns (c.read ++ []))) in
        let first_next : take 1 next ≡ call ∷ [] =
        sym (ap (λ (cs : List Call). take (length cs) next) waits) ∙ (sym (b []).waiting ∙ waits) in
        subst (λ bytes. IsCut answers fault bytes base sent first last) (append-nil c.read)
        (cut fault c (c.read ++ []) sent sent now last s (b []) (left_next fault now last call next first_next left)
        ([], c.due, refl, sym (append-nil sent)))

    -- nothing was read, and nothing is done
    pub cut_at_first : (fault : ServeFault) → IsCut answers fault [] base base first first
    cut_at_first fault = record {
      replies = [];
      last = first;
      front = [];
      rest = texts (turns []) [];
      calls = refl;
      left = left_same fault first _;
      written = sym (append-nil base);
      due = refl;
    }

    -- all is answered, and written: all is served
    pub served : (end : End) (c : Connected) (sent : List ℕ) (now : V) → Stands c sent now
        → IsAnswered (is_closed end) c → c.due ≡ [] → IsServed answers end c.read base sent first now
    served end c sent now s a out =
        record {
          replies = s.replies;
          calls = subst (λ cs. AreReplied answers first cs s.replies now) a.calls s.calls;
          written = s.written ∙ ap (λ bytes. base ++ bytes)
              (sym (append-nil c.written) ∙ (ap (λ bytes. c.written ++ bytes) (sym out) ∙ (a.output
              ∙ (ap (outcome_texts (turns c.read)) s.outcomes ∙ texts_are (turns c.read) s.replies))));
          closed = sym a.ends;
        }
