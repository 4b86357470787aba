-- What is done with a connection is a run of its session: so what it asks and what it is written are its stream's turns
-- and their texts.
use Rattle.std.proofs.Common.{◌≡◌, ℕ, zero, suc, ◌+◌, ◌<◌, ◌≤◌, Bool, true, false, cond, List, [], ◌∷◌, ◌++◌, length}
use Rattle.std.proofs.Common.{take, drop, Option, None, Some, refl, arith, ap, sym, ◌∙◌, inl, inr, subst, append-nil}
use Rattle.std.proofs.Common.{append_assoc, length-append}
use Rattle.std.specs.Prelude.{not, ◌||◌, is_some, slice_get, IsSome}
use Rattle.std.proofs.lemmas.Bool.{cases_lt, ltb-true}
use Rattle.std.proofs.lemmas.List.{take_all}
use Rattle.std.proofs.lemmas.Option.{slice_get_within}
use Rattle.world.proofs.lists.Standing.{some_of}
use Rattle.table.specs.Operations.{is_value}
use Rattle.table.specs.declared.operations.Call.{Call}
use Rattle.table.specs.declared.operations.Reply.{Reply}
use Rattle.proto.specs.declared.texts.Form.{Form}
use Rattle.proto.specs.Turns.{Turn, Faulty, Calls, Outcome, call_of, calls_of, fault_text, outcome_text}
use Rattle.proto.specs.Sessions.{next_of, shows, CanAnswer}
use Rattle.proto.specs.Streams.{turns, outcome_texts, to_come}
use Rattle.proto.specs.Runs.{Feed, Next, Answer, Take, Run, IsRun, Opens, Acts, turn_given, open_calls}
use Rattle.proto.proofs.RunLaws.{any_cutting, gives_all}
use Rattle.proto.proofs.RunTexts.{output_is_texts, calls_have_outcomes}
use Rattle.proto.proofs.WriteLaws.{calls_of_more, fewer_outcomes_begin}
use Rattle.interleavings.specs.Connections.{Connection, opening_connection, heard, begun, made, answered, wrote, waits}
use Rattle.interleavings.specs.Connections.{may_have}
use Rattle.interleavings.specs.Served.{unrefused, replies_of, AreOutcomes, IsServed, IsRested, HasAll}
use Rattle.interleavings.proofs.relation.Transfer.{take_front}
use Rattle.interleavings.proofs.served.Outcomes.{replies_more, unrefused_more, unrefused_replied, unrefused_length}
use Rattle.interleavings.proofs.served.Outcomes.{outcomes_more, outcomes_replied}

-- the call that is to be made, as a list
abbrev pub as_list : Option Call → List Call
as_list None = []
as_list (Some call) = call ∷ []

-- the run of a connection whose session gave these turns
abbrev pub run_with : Connection → List Turn → Run
run_with k given =
    record { stream = k.read; given = given; outcomes = k.outcomes; taken = k.written; held = k.session }

-- What was done with the connection is a run, whose calls are those that were made, the one that is to be made, and
-- stores that were refused.
pub record IsConnected (k : Connection) : Type 0 where
  pub given : List Turn
  pub is : IsRun (run_with k given)
  pub calls : unrefused (calls_of given) k.outcomes ≡ k.calls ++ as_list k.due
  pub got : k.replies ≡ replies_of k.outcomes
  pub outcomes : AreOutcomes (calls_of given) k.outcomes
  pub few : length k.replies ≤ length k.calls

-- ---- what each move keeps

-- nothing was done
pub connected_opening : IsConnected opening_connection
connected_opening = record { given = []; is = Opens; calls = refl; got = refl; outcomes = tt; few = omega arith }

-- a piece was read
pub connected_heard : (piece : List ℕ) (k : Connection) → IsConnected k → IsConnected (heard piece k)
connected_heard piece k t = record {
  given = t.given;
  is = Acts (run_with k t.given) (Feed piece) t.is tt;
  calls = t.calls;
  got = t.got;
  outcomes = t.outcomes;
  few = t.few;
}

-- each call that was given has its outcome, save the open one
pub given_counted : (k : Connection) (t : IsConnected k)
    → length k.outcomes + open_calls k.session.asked ≡ length (calls_of t.given)
given_counted k t = calls_have_outcomes (run_with k t.given) t.is

pub outcomes_within : (k : Connection) (t : IsConnected k) → length k.outcomes ≤ length (calls_of t.given)
outcomes_within k t = let g = given_counted k t in omega (arith, g)

-- how many calls are made, answered, open
pub counted : (k : Connection) (t : IsConnected k)
    → length k.replies + open_calls k.session.asked ≡ length k.calls + length (as_list k.due)
counted k t =
    let g = given_counted k t in
    let n = unrefused_length (calls_of t.given) k.outcomes (outcomes_within k t) in
    let c = ap length t.calls ∙ length-append k.calls (as_list k.due) in
    let r = ap length t.got in
    omega (arith, g, n, c, r)

none_due : (due : Option Call) (r c : ℕ) → r + 0 ≡ c + length (as_list due) → r ≤ c → due ≡ None
none_due None r c e few = refl
none_due (Some call) r c e few = absurd (omega (arith, e, few))

-- if no call is open, none is to be made
pub nothing_due : (k : Connection) → IsConnected k → k.session.asked ≡ None → k.due ≡ None
nothing_due k t idle =
    none_due k.due (length k.replies) (length k.calls)
    (subst (λ a. length k.replies + open_calls a ≡ length k.calls + length (as_list k.due)) idle (counted k t)) t.few

one_call : (turn : Option Turn) → calls_of (turn_given turn) ≡ as_list (call_of turn)
one_call None = refl
one_call (Some (Faulty fault)) = refl
one_call (Some (Calls call form)) = refl

-- what a begin makes of a connection, by whether a call is open
abbrev begun_if : Connection → Bool → Connection
begun_if k b =
    cond b k (record k { session = (next_of k.session).1; due = call_of (next_of k.session).0 })

-- the next turn was given
pub connected_begun : (k : Connection) → IsConnected k → IsConnected (begun k)
connected_begun k t = by_asked k.session.asked refl
  where
    by_asked : (asked : Option Form) → k.session.asked ≡ asked → IsConnected (begun_if k (is_some asked))
    by_asked (Some form) e = t
    by_asked None e = record {
      given = t.given ++ turn_given (next_of k.session).0;
      is = Acts (run_with k t.given) Next t.is e;
      calls =
          ap (λ cs. unrefused cs k.outcomes) (calls_of_more t.given (turn_given (next_of k.session).0))
          ∙ unrefused_more (calls_of t.given) (calls_of (turn_given (next_of k.session).0)) k.outcomes
          (outcomes_within k t)
          ∙ ap (λ cs. cs ++ calls_of (turn_given (next_of k.session).0))
          (t.calls ∙ ap (λ d. k.calls ++ as_list d) (nothing_due k t e) ∙ append-nil k.calls)
          ∙ ap (λ cs. k.calls ++ cs) (one_call (next_of k.session).0);
      got = t.got;
      outcomes = subst (λ cs. AreOutcomes cs k.outcomes)
          (sym (calls_of_more t.given (turn_given (next_of k.session).0)))
          (outcomes_more (calls_of t.given) (calls_of (turn_given (next_of k.session).0)) k.outcomes t.outcomes);
      few = t.few;
    }

-- a call was made
pub connected_made : (call : Call) (k : Connection) → k.due ≡ Some call → IsConnected k → IsConnected (made call k)
connected_made call k e t = record {
  given = t.given;
  is = t.is;
  calls = t.calls ∙ ap (λ d. k.calls ++ as_list d) e ∙ sym (append-nil (k.calls ++ call ∷ []));
  got = t.got;
  outcomes = t.outcomes;
  few = let n = length-append k.calls (call ∷ []) in let f = t.few in omega (arith, n, f);
}

can_answer : (asked : Option Form) (reply : Reply) → may_have asked reply ≡ true → CanAnswer asked reply
can_answer None reply h = absurd (let no : false ≡ true = h in cc)
can_answer (Some form) reply h = by_kind (is_value reply) (shows form) h
  where
    by_kind : (v s : Bool) → cond s v (not v) ≡ true → v ≡ s
    by_kind true true h = refl
    by_kind true false h = absurd (let no : false ≡ true = h in cc)
    by_kind false true h = absurd (let no : false ≡ true = h in cc)
    by_kind false false h = refl

-- it was answered
pub connected_answered : (reply : Reply) (k : Connection)
    → waits k ≡ true
    → may_have k.session.asked reply ≡ true
    → IsConnected k
    → IsConnected (answered reply k)
connected_answered reply k wait may t = record {
  given = t.given;
  is = Acts (run_with k t.given) (Answer reply) t.is (can_answer k.session.asked reply may);
  calls = unrefused_replied (calls_of t.given) k.outcomes reply ∙ t.calls;
  got = ap (λ rs. rs ++ reply ∷ []) t.got ∙ sym (replies_more k.outcomes reply);
  outcomes = outcomes_replied (calls_of t.given) k.outcomes reply one_open t.outcomes;
  few =
      let n = length-append k.replies (reply ∷ []) in
      let l = less in
      omega (arith, n, l);
}
  where
    less : length k.replies < length k.calls
    less = ltb-true (length k.replies) (length k.calls) wait

    one_open : length k.outcomes < length (calls_of t.given)
    one_open =
        let l = less in
        let c = counted k t in
        let g = given_counted k t in
        omega (arith, l, c, g)

wrote_within : (n : ℕ) (k : Connection) → n ≤ length k.session.out → IsConnected k → IsConnected (wrote n k)
wrote_within n k within t = record {
  given = t.given;
  is = Acts (run_with k t.given) (Take n) t.is within;
  calls = t.calls;
  got = t.got;
  outcomes = t.outcomes;
  few = t.few;
}

drop_past : {X : Type 0} (xs : List X) (n : ℕ) → length xs ≤ n → drop n xs ≡ []
drop_past [] zero h = refl
drop_past [] (suc n) h = refl
drop_past (x ∷ xs) zero h = absurd (omega (arith, h))
drop_past (x ∷ xs) (suc n) h = drop_past xs n (omega (arith, h))

-- more than there is is all that there is
wrote_all : (n : ℕ) (k : Connection) → length k.session.out ≤ n → wrote n k ≡ wrote (length k.session.out) k
wrote_all n k past =
    let out = k.session.out in
    ap (λ (p : List ℕ × List ℕ). record k { session = record k.session { out = p.0 }; written = k.written ++ p.1 })
    (let d : drop n out ≡ drop (length out) out =
    drop_past out n past ∙ sym (drop_past out (length out) (omega arith)) in
    let u : take n out ≡ take (length out) out = take_all n out past ∙ sym (take_all (length out) out (omega arith)) in
    rw (d, u) refl)

-- output was written
pub connected_wrote : (n : ℕ) (k : Connection) → IsConnected k → IsConnected (wrote n k)
connected_wrote n k t = elim (cases_lt (length k.session.out) n) [
  | inl past ↦ subst IsConnected (sym (wrote_all n k (omega (arith, past))))
      (wrote_within (length k.session.out) k (omega arith) t)
  | inr within ↦ wrote_within n k (omega (arith, within)) t
]

some_within : {X : Type 0} (xs : List X) (p : ℕ) → p < length xs → IsSome (slice_get xs p)
some_within [] p h = absurd (omega (arith, h))
some_within (x ∷ xs) zero h = refl
some_within (x ∷ xs) (suc p) h = some_within xs p (omega (arith, h))

-- ---- what it comes to

-- the texts stop at the first call without an outcome
pub texts_stop : (ts us : List Turn) (os : List Outcome)
    → length os < length (calls_of ts)
    → outcome_texts (ts ++ us) os ≡ outcome_texts ts os
texts_stop [] us os h = absurd (omega (arith, h))
texts_stop (Faulty fault ∷ ts) us os h = ap (λ bytes. fault_text fault ++ bytes) (texts_stop ts us os h)
texts_stop (Calls call form ∷ ts) us [] h = refl
texts_stop (Calls call form ∷ ts) us (o ∷ os) h =
    ap (λ bytes. outcome_text form o ++ bytes) (texts_stop ts us os (omega (arith, h)))

module _ (k : Connection) (t : IsConnected k) where
  run : Run
  run = run_with k t.given

  -- the turns of its bytes
  all_turns : t.given ++ to_come k.session ≡ turns k.read
  all_turns = any_cutting (run_with k t.given) t.is

  -- their calls, and what they came to: those of which it is known, and then those that are to come
  all_calls : calls_of t.given ++ calls_of (to_come k.session) ≡ calls_of (turns k.read)
  all_calls = sym (calls_of_more t.given (to_come k.session)) ∙ ap calls_of all_turns

  of_first : AreOutcomes (calls_of (turns k.read)) k.outcomes
  of_first = subst (λ cs. AreOutcomes cs k.outcomes) all_calls
      (outcomes_more (calls_of t.given) (calls_of (to_come k.session)) k.outcomes t.outcomes)

  -- those that weren't refused begin with those that were made
  pub calls_spelled : unrefused (calls_of (turns k.read)) k.outcomes
      ≡ k.calls ++ (as_list k.due ++ calls_of (to_come k.session))
  calls_spelled =
      ap (λ cs. unrefused cs k.outcomes) (sym all_calls)
      ∙ unrefused_more (calls_of t.given) (calls_of (to_come k.session)) k.outcomes (outcomes_within k t)
      ∙ ap (λ cs. cs ++ calls_of (to_come k.session)) t.calls
      ∙ append_assoc k.calls (as_list k.due) (calls_of (to_come k.session))

  -- the calls that were made are the first of them
  pub first_calls : k.calls ≡ take (length k.calls) (unrefused (calls_of (turns k.read)) k.outcomes)
  first_calls =
      sym (take_front k.calls (as_list k.due ++ calls_of (to_come k.session)))
      ∙ ap (take (length k.calls)) (sym calls_spelled)

  one_at_most : (o : Option Form) (r c d : ℕ) → r + open_calls o ≡ c + d → c ≤ r + 1
  one_at_most None r c d e = omega (arith, e)
  one_at_most (Some form) r c d e = omega (arith, e)

  out_is : k.written ++ k.session.out ≡ outcome_texts t.given k.outcomes
  out_is = output_is_texts (run_with k t.given) t.is

  begins : (rest : List ℕ) × (outcome_texts (turns k.read) k.outcomes ≡ k.written ++ rest)
  begins =
      let f = fewer_outcomes_begin t.given (to_come k.session) k.outcomes [] in (
        k.session.out ++ f.0,
        ap (λ ts. outcome_texts ts k.outcomes) (sym all_turns)
            ∙ ap (λ os. outcome_texts (t.given ++ to_come k.session) os) (sym (append-nil k.outcomes))
            ∙ f.1
            ∙ ap (λ bytes. bytes ++ f.0) (sym out_is)
            ∙ append_assoc k.written k.session.out f.0,
      )

  all_out : k.session.out ≡ [] → k.written ≡ outcome_texts t.given k.outcomes
  all_out none = sym (append-nil k.written) ∙ ap (λ bytes. k.written ++ bytes) (sym none) ∙ out_is

  stops_there : (asked : Option Form)
      → k.session.asked ≡ asked
      → is_some asked ≡ true
      → outcome_texts (turns k.read) k.outcomes ≡ outcome_texts t.given k.outcomes
  stops_there None e h = absurd (let no : false ≡ true = h in cc)
  stops_there (Some form) e h =
      let c = given_counted k t in
      let d : length k.outcomes + 1 ≡ length (calls_of t.given) =
      subst (λ a. length k.outcomes + open_calls a ≡ length (calls_of t.given)) e c in
      ap (λ ts. outcome_texts ts k.outcomes) (sym all_turns) ∙ texts_stop t.given (to_come k.session) k.outcomes
      (omega (arith, d))

  none_next : (turn : Option Turn) → not (is_some turn) ≡ true → turn ≡ None
  none_next None h = refl
  none_next (Some turn) h = absurd (let no : false ≡ true = h in cc)

  texts_given : (b : Bool)
      → is_some k.session.asked ≡ b
      → (b || not (is_some (next_of k.session).0)) ≡ true
      → outcome_texts (turns k.read) k.outcomes ≡ outcome_texts t.given k.outcomes
  texts_given true e h = stops_there k.session.asked refl e
  texts_given false e h =
      ap (λ ts. outcome_texts ts k.outcomes)
      (sym (gives_all (run_with k t.given) t.is (none_next (next_of k.session).0 h)))

  answered_all : k.session.asked ≡ None
      → (next_of k.session).0 ≡ None
      → length k.outcomes ≡ length (calls_of (turns k.read))
  answered_all idle none =
      let c = given_counted k t in
      let d : length k.outcomes + 0 ≡ length (calls_of t.given) =
      subst (λ a. length k.outcomes + open_calls a ≡ length (calls_of t.given)) idle c in
      let e : length k.outcomes ≡ length (calls_of t.given) = omega (arith, d) in
      e ∙ ap (λ ts. length (calls_of ts)) (gives_all (run_with k t.given) t.is none)

  -- so it got what its bytes ask for
  pub is_served : IsServed k
  is_served = record {
    outcomes = of_first;
    calls = first_calls;
    got = t.got;
    replies = t.few;
    one_open = one_at_most k.session.asked (length k.replies) (length k.calls) (length (as_list k.due)) (counted k t);
    written = begins;
    all_written = λ none gives. all_out none ∙ sym (texts_given (is_some k.session.asked) refl gives);
    all_answered = answered_all;
  }

  no_more : (o : Option Form) (r c : ℕ) → r + open_calls o ≡ c + 0 → r ≡ c → o ≡ None
  no_more None r c e same = refl
  no_more (Some form) r c e same = absurd (omega (arith, e, same))

  -- if the first call without a reply would have one, and nothing is left to do, it has all
  pub has_all : (IsSome (slice_get k.calls (length k.replies)) → IsSome (slice_get k.replies (length k.replies)))
      → IsRested k
      → HasAll k
  has_all replied rested =
      let n : length k.replies + open_calls k.session.asked ≡ length k.calls + 0 =
      subst (λ d. length k.replies + open_calls k.session.asked ≡ length k.calls + length (as_list d)) rested.due
      (counted k t) in
      let idle = no_more k.session.asked (length k.replies) (length k.calls) n no_open in
      record {
        answered = answered_all idle rested.turns;
        written =
            all_out rested.out
            ∙ ap (λ ts. outcome_texts ts k.outcomes) (gives_all (run_with k t.given) t.is rested.turns);
      }
    where
      no_open : length k.replies ≡ length k.calls
      no_open = elim (cases_lt (length k.replies) (length k.calls)) [
        | inl less ↦
            let r = some_of _ (replied (some_within k.calls (length k.replies) less)) in
            let p = slice_get_within k.replies (length k.replies) r.0 r.1 in
            absurd (omega (arith, p))
        | inr past ↦ let f = t.few in omega (arith, f, past)
      ]
