-- What a client got, by what each of its parts got and by what stood between them.
use Rattle.std.proofs.Common.{◌≡◌, ◌≢◌, ℕ, ◌<◌, ◌≤◌, List, [], ◌∷◌, ◌++◌, length, take, drop}
use Rattle.std.proofs.Common.{refl, arith, ap, sym, ◌∙◌, subst, inl, inr, append-nil, append_assoc}
use Rattle.std.proofs.Common.{length-append, take-append-drop}
use Rattle.std.proofs.lemmas.Bool.{cases_lt}
use Rattle.std.proofs.lemmas.List.{take_all}
use Rattle.table.specs.declared.operations.Call.{Call}
use Rattle.proto.specs.Turns.{calls_of}
use Rattle.proto.specs.Streams.{turns, outcome_texts}
use Rattle.proto.proofs.WriteLaws.{calls_of_more, fewer_outcomes_begin}
use Rattle.interleavings.specs.Connections.{Connection}
use Rattle.interleavings.specs.ServingMoves.{ServingChain}
use Rattle.interleavings.specs.Served.{unrefused, IsServed, HasAll}
use Rattle.interleavings.specs.Rows.{PartName, part_at, IsBefore, row_read, row_calls, row_replies, row_written}
use Rattle.interleavings.specs.Rows.{fates_of, row_fates, first_known, replies_in, not_refused, AreFates, AreWhole}
use Rattle.interleavings.specs.Rows.{HasAsked, HasNothingToWrite, HasNothingOpen, IsRowServed}
use Rattle.interleavings.proofs.served.Connected.{texts_stop}
use Rattle.interleavings.proofs.rows.WholeBytes.{turns_joined}
use Rattle.interleavings.proofs.rows.Fates.{outcomes_few, fates_are, same_refused, same_replies, fates_more}
use Rattle.interleavings.proofs.rows.Fates.{refused_more, replies_more, outcomes_first, outcomes_all, outcomes_stop}
use Rattle.interleavings.proofs.rows.Fates.{texts_joined}
use Rattle.interleavings.proofs.rows.Parts.{first_part, first_before, other_part, others_before, none_or_some}

-- What is needed of the parts of a row after a run.
pub record AreParts (s : ServingChain) (row : List PartName) : Type 0 where
  pub served : (p : PartName) → IsServed (part_at s p)
  pub whole : (p q : PartName) → IsBefore row p q → AreWhole (part_at s p).read
  pub asked : (p q : PartName)
      → IsBefore row p q
      → (part_at s q).calls ≢ []
      → HasAsked (part_at s p).read (part_at s p)
  pub written : (p q : PartName) → IsBefore row p q → (part_at s q).written ≢ [] → HasAll (part_at s p)

-- a list that is the front of another one, and what is behind it
pub behind : {X : Type 0} (xs ys : List X) → xs ≡ take (length xs) ys → ys ≡ xs ++ drop (length xs) ys
behind xs ys e = sym (take-append-drop (length xs) ys) ∙ ap (λ zs. zs ++ drop (length xs) ys) (sym e)

same_all : {X : Type 0} (xs ys : List X) → xs ≡ take (length xs) ys → length xs ≡ length ys → ys ≡ xs
same_all xs ys e n = sym (take_all (length xs) ys (omega (arith, n))) ∙ sym e

module _ (s : ServingChain) where
  -- the calls that a part's bytes spell
  abbrev spelled : PartName → List Call
  spelled p = calls_of (turns (part_at s p).read)

  abbrev row_spelled : List PartName → List Call
  row_spelled row = calls_of (turns (row_read s row))

  module _ (p : PartName) (ps : List PartName) (h : AreParts s (p ∷ ps)) where
    -- those after the first are so too
    others : AreParts s ps
    others = record {
      served = h.served;
      whole = λ q r b. h.whole q r (others_before p ps q r b);
      asked = λ q r b some. h.asked q r (others_before p ps q r b) some;
      written = λ q r b some. h.written q r (others_before p ps q r b) some;
    }

    k : Connection
    k = part_at s p

    few : length (part_at s p).outcomes ≤ length (spelled p)
    few = outcomes_few (spelled p) (part_at s p).outcomes (h.served p).outcomes

    -- the turns of the first part come first
    row_turns : turns (row_read s (p ∷ ps)) ≡ turns (part_at s p).read ++ turns (row_read s ps)
    row_turns = by ps h
      where
        by : (qs : List PartName)
            → AreParts s (p ∷ qs)
            → turns (row_read s (p ∷ qs)) ≡ turns (part_at s p).read ++ turns (row_read s qs)
        by [] g = ap turns (append-nil (part_at s p).read) ∙ sym (append-nil (turns (part_at s p).read))
        by (q ∷ qs) g =
            turns_joined (part_at s p).read (row_read s (q ∷ qs))
            (g.whole p q (first_before p (q ∷ qs) q (first_part q qs)))

    all_spelled : row_spelled (p ∷ ps) ≡ spelled p ++ row_spelled ps
    all_spelled = ap calls_of row_turns ∙ calls_of_more (turns (part_at s p).read) (turns (row_read s ps))

    -- ---- calls

    fates_then : AreFates (row_spelled ps) (row_fates s ps) → AreFates (row_spelled (p ∷ ps)) (row_fates s (p ∷ ps))
    fates_then rest =
        subst (λ cs. AreFates cs (row_fates s (p ∷ ps))) (sym all_spelled)
        (fates_more (spelled p) (row_spelled ps) (fates_of (spelled p) (part_at s p).outcomes) (row_fates s ps)
        (fates_are (spelled p) (part_at s p).outcomes (h.served p).outcomes) rest)

    -- the calls that weren't refused are those of the first part, and then the others
    unrefused_all : not_refused (row_spelled (p ∷ ps)) (row_fates s (p ∷ ps))
        ≡ unrefused (spelled p) (part_at s p).outcomes ++ not_refused (row_spelled ps) (row_fates s ps)
    unrefused_all =
        ap (λ cs. not_refused cs (row_fates s (p ∷ ps))) all_spelled
        ∙ refused_more (spelled p) (row_spelled ps) (fates_of (spelled p) (part_at s p).outcomes) (row_fates s ps)
        (fates_are (spelled p) (part_at s p).outcomes (h.served p).outcomes)
        ∙ ap (λ cs. cs ++ not_refused (row_spelled ps) (row_fates s ps))
        (same_refused (spelled p) (part_at s p).outcomes)

    calls_then : (later : List Call) × (not_refused (row_spelled ps) (row_fates s ps) ≡ row_calls s ps ++ later)
        → (later : List Call)
        × (not_refused (row_spelled (p ∷ ps)) (row_fates s (p ∷ ps)) ≡ row_calls s (p ∷ ps) ++ later)
    calls_then rest = elim (none_or_some (λ q. (part_at s q).calls) ps) [
      | inl none ↦
          let cs = (part_at s p).calls in
          let more = drop (length cs) (unrefused (spelled p) (part_at s p).outcomes) in
          let others = not_refused (row_spelled ps) (row_fates s ps) in (
            more ++ others,
            unrefused_all
                ∙ ap (λ xs. xs ++ others)
                (behind cs (unrefused (spelled p) (part_at s p).outcomes) (h.served p).calls)
                ∙ append_assoc cs more others
                ∙ ap (λ xs. xs ++ (more ++ others)) (sym (ap (λ xs. cs ++ xs) none ∙ append-nil cs)),
          )
      | inr some ↦
          let cs = (part_at s p).calls in
          let asked = h.asked p some.0 (first_before p ps some.0 some.1) some.2 in (
            rest.0,
            unrefused_all
                ∙ ap (λ xs. xs ++ not_refused (row_spelled ps) (row_fates s ps))
                (same_all cs (unrefused (spelled p) (part_at s p).outcomes) (h.served p).calls asked)
                ∙ ap (λ xs. cs ++ xs) rest.1
                ∙ sym (append_assoc cs (row_calls s ps) rest.0),
          )
    ]

    got_then : row_replies s ps ≡ replies_in (row_fates s ps)
        → row_replies s (p ∷ ps) ≡ replies_in (row_fates s (p ∷ ps))
    got_then rest =
        ap (λ rs. rs ++ row_replies s ps)
        ((h.served p).got ∙ sym (same_replies (spelled p) (part_at s p).outcomes few))
        ∙ ap (λ rs. replies_in (fates_of (spelled p) (part_at s p).outcomes) ++ rs) rest
        ∙ sym (replies_more (fates_of (spelled p) (part_at s p).outcomes) (row_fates s ps))

    -- ---- texts

    -- the texts of the first part are a beginning of all,
    texts_begin : (rest : List ℕ)
        × (outcome_texts (turns (row_read s (p ∷ ps))) (first_known (row_fates s (p ∷ ps)))
        ≡ outcome_texts (turns (part_at s p).read) (part_at s p).outcomes ++ rest)
    texts_begin =
        let os = (part_at s p).outcomes in
        let f = outcomes_first (spelled p) os (row_fates s ps) few in
        let t = fewer_outcomes_begin (turns (part_at s p).read) (turns (row_read s ps)) os f.0 in (
          t.0,
          ap (λ ts. outcome_texts ts (first_known (row_fates s (p ∷ ps)))) row_turns
              ∙ ap (outcome_texts (turns (part_at s p).read ++ turns (row_read s ps))) f.1
              ∙ t.1,
        )

    -- with those of the others behind them, if each of its calls has its outcome,
    texts_all : length (part_at s p).outcomes ≡ length (spelled p)
        → outcome_texts (turns (row_read s (p ∷ ps))) (first_known (row_fates s (p ∷ ps)))
        ≡ outcome_texts (turns (part_at s p).read) (part_at s p).outcomes
        ++ outcome_texts (turns (row_read s ps)) (first_known (row_fates s ps))
    texts_all all =
        ap (λ ts. outcome_texts ts (first_known (row_fates s (p ∷ ps)))) row_turns
        ∙ ap (outcome_texts (turns (part_at s p).read ++ turns (row_read s ps)))
        (outcomes_all (spelled p) (part_at s p).outcomes (row_fates s ps) all)
        ∙ texts_joined (turns (part_at s p).read) (turns (row_read s ps)) (part_at s p).outcomes
        (first_known (row_fates s ps)) all

    -- and all there is, if one of its calls has none
    texts_alone : length (part_at s p).outcomes < length (spelled p)
        → outcome_texts (turns (row_read s (p ∷ ps))) (first_known (row_fates s (p ∷ ps)))
        ≡ outcome_texts (turns (part_at s p).read) (part_at s p).outcomes
    texts_alone less =
        ap (λ ts. outcome_texts ts (first_known (row_fates s (p ∷ ps)))) row_turns
        ∙ ap (outcome_texts (turns (part_at s p).read ++ turns (row_read s ps)))
        (outcomes_stop (spelled p) (part_at s p).outcomes (row_fates s ps) less)
        ∙ texts_stop (turns (part_at s p).read) (turns (row_read s ps)) (part_at s p).outcomes less

    -- what was written to the first part is all that was written, if it is all written to the others
    abbrev Texts : List PartName → List ℕ
    Texts row = outcome_texts (turns (row_read s row)) (first_known (row_fates s row))

    written_then : (rest : List ℕ) × (Texts ps ≡ row_written s ps ++ rest)
        → (rest : List ℕ) × (Texts (p ∷ ps) ≡ row_written s (p ∷ ps) ++ rest)
    written_then rest = elim (none_or_some (λ q. (part_at s q).written) ps) [
      | inl none ↦
          let w = (part_at s p).written in
          let own = (h.served p).written in (
            own.0 ++ texts_begin.0,
            texts_begin.1
                ∙ ap (λ xs. xs ++ texts_begin.0) own.1
                ∙ append_assoc w own.0 texts_begin.0
                ∙ ap (λ xs. xs ++ (own.0 ++ texts_begin.0)) (sym (ap (λ xs. w ++ xs) none ∙ append-nil w)),
          )
      | inr some ↦
          let w = (part_at s p).written in
          let all = h.written p some.0 (first_before p ps some.0 some.1) some.2 in (
            rest.0,
            texts_all all.answered
                ∙ ap (λ xs. xs ++ Texts ps) (sym all.written)
                ∙ ap (λ xs. w ++ xs) rest.1
                ∙ sym (append_assoc w (row_written s ps) rest.0),
          )
    ]

    all_written_then : HasNothingToWrite (part_at s p)
        → row_written s ps ≡ Texts ps
        → row_written s (p ∷ ps) ≡ Texts (p ∷ ps)
    all_written_then idle rest = elim (cases_lt (length (part_at s p).outcomes) (length (spelled p))) [
      | inl less ↦ elim (none_or_some (λ q. (part_at s q).written) ps) [
        | inl none ↦ ap (λ xs. (part_at s p).written ++ xs) none ∙ append-nil (part_at s p).written
            ∙ (h.served p).all_written idle.out idle.turns ∙ sym (texts_alone less)
        | inr some ↦
            let all = (h.written p some.0 (first_before p ps some.0 some.1) some.2).answered in
            absurd (omega (arith, less, all))
      ]
      | inr past ↦
          let all : length (part_at s p).outcomes ≡ length (spelled p) = let f = few in omega (arith, f, past) in
          ap (λ xs. xs ++ row_written s ps) ((h.served p).all_written idle.out idle.turns)
          ∙ ap (λ xs. outcome_texts (turns (part_at s p).read) (part_at s p).outcomes ++ xs) rest
          ∙ sym (texts_all all)
    ]

    all_answered_then : HasNothingOpen (part_at s p)
        → length (first_known (row_fates s ps)) ≡ length (row_spelled ps)
        → length (first_known (row_fates s (p ∷ ps))) ≡ length (row_spelled (p ∷ ps))
    all_answered_then idle rest =
        let all : length (part_at s p).outcomes ≡ length (spelled p) =
        (h.served p).all_answered idle.asked idle.turns in
        let first = ap length (outcomes_all (spelled p) (part_at s p).outcomes (row_fates s ps) all) in
        let n = length-append (part_at s p).outcomes (first_known (row_fates s ps)) in
        let m = ap length all_spelled ∙ length-append (spelled p) (row_spelled ps) in
        omega (arith, all, first, n, m, rest)

  -- ---- all parts

  -- so their client got what its bytes ask for
  pub row_served : (row : List PartName) → AreParts s row → IsRowServed s row
  row_served [] h = record {
    fates = tt;
    calls = ([], refl);
    got = refl;
    replies = omega arith;
    few_open = omega arith;
    written = ([], refl);
    all_written = λ idle. refl;
    all_answered = λ idle. refl;
  }
  row_served (p ∷ ps) h =
      let r = row_served ps (others p ps h) in
      record {
        fates = fates_then p ps h r.fates;
        calls = calls_then p ps h r.calls;
        got = got_then p ps h r.got;
        replies =
            let n = length-append (part_at s p).replies (row_replies s ps) in
            let m = length-append (part_at s p).calls (row_calls s ps) in
            let a = (h.served p).replies in
            let b = r.replies in
            omega (arith, n, m, a, b);
        few_open =
            let n = length-append (part_at s p).replies (row_replies s ps) in
            let m = length-append (part_at s p).calls (row_calls s ps) in
            let a = (h.served p).one_open in
            let b = r.few_open in
            omega (arith, n, m, a, b);
        written = written_then p ps h r.written;
        all_written = λ idle.
            all_written_then p ps h (idle p (first_part p ps))
            (r.all_written (λ q there. idle q (other_part p ps q there)));
        all_answered = λ idle.
            all_answered_then p ps h (idle p (first_part p ps))
            (r.all_answered (λ q there. idle q (other_part p ps q there)));
      }
