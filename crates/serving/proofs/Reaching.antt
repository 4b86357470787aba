-- What a connection comes to, one action of its session after another.
use Rattle.std.proofs.Common.{◌≡◌, ℕ, ◌+◌, ◌≤◌, Bool, true, false, List, [], ◌∷◌, ◌++◌, length, take, drop, Option}
use Rattle.std.proofs.Common.{not, None, Some, refl, sym, ap, subst, ◌∙◌, arith, append-nil, length-append}
use Rattle.std.proofs.Common.{length-drop, length-take-le, take-append-drop}
use Rattle.std.proofs.lemmas.List.{take_all, take_at, take-append-le, drop-append-le}
use Rattle.table.specs.Operations.{is_update}
use Rattle.table.specs.declared.operations.Call.{Call}
use Rattle.table.specs.declared.operations.Op.{Op}
use Rattle.table.specs.declared.operations.Op.TheVariants.{Read, Set, Add, Replace, Append, Prepend, Cas, Incr, Decr}
use Rattle.table.specs.declared.operations.Op.TheVariants.{Delete, Flush}
use Rattle.table.specs.declared.operations.Reply.{Reply}
use Rattle.proto.specs.declared.texts.Form.{Form}
use Rattle.proto.specs.Turns.{Turn, Outcome, Replied, Refused, calls_of, is_store, outcome_text}
use Rattle.proto.specs.Sessions.{Held, CanAnswer, CanRefuse, fresh, fed, answered_by, refused_by}
use Rattle.proto.specs.Streams.{outcome_texts, to_come, turns}
use Rattle.proto.specs.Runs.{Run, IsRun, Opens, Acts, Feed, Answer, Refuse, Take, taken_from, open_calls}
use Rattle.proto.proofs.RunLaws.{any_cutting}
use Rattle.proto.proofs.RunTexts.{output_is_texts, calls_have_outcomes}
use Rattle.proto.proofs.WriteLaws.{answer_writes, answer_idle, refusal_writes, refusal_idle, fewer_outcomes_begin}
use Rattle.proto.proofs.WriteLaws.{calls_of_more}
use Rattle.serving.specs.Connections.{IsBegun, IsAsked, HasOutcome, MayHave, MayRefuse, IsReached, reached}

-- a run, by what has come of it
abbrev pub run_of : List ℕ → List Turn → List Outcome → List ℕ → Held → Run
run_of read given outcomes written held =
    record { stream = read; given = given; outcomes = outcomes; taken = written; held = held }

module _ (read : List ℕ) (given : List Turn) (outcomes : List Outcome) (written : List ℕ) (held : Held)
    (is : IsRun (run_of read given outcomes written held)) where
  pub count : length outcomes + open_calls held.asked ≡ length (calls_of given)
  count = calls_have_outcomes (run_of read given outcomes written held) is

  -- the calls that were given are the first ones
  pub all_calls : calls_of (turns read) ≡ calls_of given ++ calls_of (to_come held)
  all_calls =
      ap calls_of (sym (any_cutting (run_of read given outcomes written held) is)) ∙ calls_of_more given (to_come held)

  -- those with a reply
  pub calls_are : take (length outcomes) (calls_of (turns read)) ≡ take (length outcomes) (calls_of given)
  calls_are =
      ap (λ cs. take (length outcomes) cs) all_calls
      ∙ take-append-le (length outcomes) (calls_of given) (calls_of (to_come held)) (omega (arith, count))

  -- those that wait
  rest_are : drop (length outcomes) (calls_of (turns read))
      ≡ drop (length outcomes) (calls_of given) ++ calls_of (to_come held)
  rest_are =
      ap (λ cs. drop (length outcomes) cs) all_calls
      ∙ drop-append-le (length outcomes) (calls_of given) (calls_of (to_come held)) (omega (arith, count))

  pub rest_count : length (drop (length outcomes) (calls_of given)) ≡ open_calls held.asked
  rest_count = omega (arith, count, length-drop (length outcomes) (calls_of given))

  pub waiting_are : take (open_calls held.asked) (drop (length outcomes) (calls_of (turns read)))
      ≡ drop (length outcomes) (calls_of given)
  waiting_are =
      ap (λ cs. take (open_calls held.asked) cs) rest_are
      ∙ take_at (drop (length outcomes) (calls_of given)) (calls_of (to_come held)) (open_calls held.asked) rest_count

-- if none is open, none waits
pub none_waits : (asked : Option Form) (cs : List Call) → asked ≡ None → take (open_calls asked) cs ≡ []
none_waits asked cs idle = ap (λ o. take (open_calls o) cs) idle

-- if none waits, none is open
pub idle_asked : (read : List ℕ) (outcomes : List Outcome) (written : List ℕ) (held : Held)
    → IsReached read outcomes written held
    → take (open_calls held.asked) (drop (length outcomes) (calls_of (turns read))) ≡ []
    → held.asked ≡ None
idle_asked read outcomes written held r none = subst (λ cs. IsAsked cs held.asked) none r.asked

-- a run that leaves none open
pub idle_reached : (read : List ℕ) (given : List Turn) (outcomes : List Outcome) (written : List ℕ) (held : Held)
    → IsRun (run_of read given outcomes written held) → held.asked ≡ None → IsReached read outcomes written held
idle_reached read given outcomes written held is idle =
    record {
      given = given;
      is_run = is;
      asked = subst (λ cs. IsAsked cs held.asked)
          (sym (none_waits held.asked (drop (length outcomes) (calls_of (turns read))) idle)) idle;
    }

-- at first
pub reached_first : (held : Held) → held ≡ fresh → IsReached [] [] [] held
reached_first held e = subst (λ h. IsReached [] [] [] h) (sym e) (idle_reached [] [] [] [] fresh Opens refl)

fed_asked : (held : Held) (piece : List ℕ) → held.closed ≡ false → (fed held piece).asked ≡ held.asked
fed_asked held piece unclosed = rw unclosed refl

fed_out : (held : Held) (piece : List ℕ) → held.closed ≡ false → (fed held piece).out ≡ held.out
fed_out held piece unclosed = rw unclosed refl

fed_closed : (held : Held) (piece : List ℕ) → held.closed ≡ false → (fed held piece).closed ≡ held.closed
fed_closed held piece unclosed = rw unclosed refl

-- a piece was fed
pub reached_fed : (read piece : List ℕ) (outcomes : List Outcome) (written : List ℕ) (held left : Held)
    → IsReached read outcomes written held
    → take (open_calls held.asked) (drop (length outcomes) (calls_of (turns read))) ≡ []
    → held.closed ≡ false → left ≡ fed held piece
    → IsReached (read ++ piece) outcomes written left
reached_fed read piece outcomes written held left r none unclosed e =
    subst (λ h. IsReached (read ++ piece) outcomes written h) (sym e)
    (idle_reached (read ++ piece) r.given outcomes written (fed held piece)
    (Acts (run_of read r.given outcomes written held) (Feed piece) r.is_run tt)
    (fed_asked held piece unclosed ∙ idle_asked read outcomes written held r none))

pub seen_fed : (read piece : List ℕ) (outcomes : List Outcome) (written : List ℕ) (held left : Held)
    (ended failed : Bool)
    → IsReached read outcomes written held
    → take (open_calls held.asked) (drop (length outcomes) (calls_of (turns read))) ≡ []
    → held.closed ≡ false → left ≡ fed held piece
    → reached (read ++ piece) outcomes written left [] ended failed
    ≡ record (reached read outcomes written held [] ended failed) { read = read ++ piece }
seen_fed read piece outcomes written held left ended failed r none unclosed e =
    let is = Acts (run_of read r.given outcomes written held) (Feed piece) r.is_run tt in
    let idle : (fed held piece).asked ≡ None =
    fed_asked held piece unclosed ∙ idle_asked read outcomes written held r none in
    let calls = calls_are (read ++ piece) r.given outcomes written (fed held piece) is
    ∙ sym (calls_are read r.given outcomes written held r.is_run) in
    let waiting = none_waits (fed held piece).asked (drop (length outcomes) (calls_of (turns (read ++ piece)))) idle
    ∙ sym none in
    let out = fed_out held piece unclosed in
    let closed = fed_closed held piece unclosed in
    ap (λ h. reached (read ++ piece) outcomes written h [] ended failed) e
    ∙ (λ i. record {
      read = read ++ piece;
      calls = calls i;
      outcomes = outcomes;
      waiting = waiting i;
      due = out i;
      written = written;
      closed = closed i;
      ended = ended;
      failed = failed;
    })

-- a reply is had only by an open call
pub some_form : (asked : Option Form) (reply : Reply) → CanAnswer asked reply → (form : Form) × (asked ≡ Some form)
some_form None reply can = absurd can
some_form (Some form) reply can = (form, refl)

answered_closed : (asked : Option Form) (held : Held) (reply : Reply)
    → (answered_by asked held reply).closed ≡ held.closed
answered_closed None held reply = refl
answered_closed (Some form) held reply = refl

-- a reply that the waiting call may have is one that the open call can have
pub can_answer : (waiting : List Call) (asked : Option Form) (reply : Reply) → IsAsked waiting asked
    → MayHave waiting reply → CanAnswer asked reply
can_answer [] asked reply is may = absurd may
can_answer (call ∷ later) None reply is may = absurd is
can_answer (call ∷ later) (Some form) reply is may = may ∙ sym is

-- a list of one
one_left : {X : Type 0} (xs : List X) → length xs ≡ 1 → (x : X) × (xs ≡ x ∷ [])
one_left [] e = absurd (omega (arith, e))
one_left (x ∷ []) e = (x, refl)
one_left (x ∷ y ∷ xs) e = absurd (omega (arith, e))

-- a call that stores is an update
store_is_update : (op : Op) → is_store op ≡ true → is_update op ≡ true
store_is_update Read stores = absurd cc
store_is_update (Set flags bytes) stores = refl
store_is_update (Add flags bytes) stores = refl
store_is_update (Replace flags bytes) stores = refl
store_is_update (Append bytes) stores = refl
store_is_update (Prepend bytes) stores = refl
store_is_update (Cas flags bytes unique) stores = refl
store_is_update (Incr amount) stores = absurd cc
store_is_update (Decr amount) stores = absurd cc
store_is_update Delete stores = absurd cc
store_is_update Flush stores = absurd cc

-- if the waiting call may be refused, the open call can be
pub can_refuse : (waiting : List Call) (asked : Option Form) → IsAsked waiting asked → MayRefuse waiting
    → CanRefuse asked
can_refuse [] asked is may = absurd may
can_refuse (call ∷ later) None is may = absurd is
can_refuse (call ∷ later) (Some form) is may = is ∙ ap not (store_is_update call.op may)

-- a refusal is had only by an open call
pub some_refused : (asked : Option Form) → CanRefuse asked → (form : Form) × (asked ≡ Some form)
some_refused None can = absurd can
some_refused (Some form) can = (form, refl)

refused_closed : (asked : Option Form) (held : Held) → (refused_by asked held).closed ≡ held.closed
refused_closed None held = refl
refused_closed (Some form) held = refl

-- the open call came to this, and its text was written
seen_outcome : (read : List ℕ) (outcomes : List Outcome) (outcome : Outcome) (written : List ℕ) (held after : Held)
    (ended failed : Bool) (form : Form)
    → (r : IsReached read outcomes written held) → held.asked ≡ Some form
    → IsRun (run_of read r.given (outcomes ++ outcome ∷ []) written after) → after.asked ≡ None
    → after.out ≡ held.out ++ outcome_text form outcome → after.closed ≡ held.closed
    → HasOutcome outcome (reached read outcomes written held [] ended failed)
    (reached read (outcomes ++ outcome ∷ []) written after [] ended failed)
seen_outcome read outcomes outcome written held after ended failed form r asked is idle out closed =
    let more = outcomes ++ outcome ∷ [] in
    let one : open_calls held.asked ≡ 1 = ap open_calls asked in
    let n : length outcomes + open_calls held.asked ≡ length (calls_of r.given) =
    count read r.given outcomes written held r.is_run in
    let left_one = one_left (drop (length outcomes) (calls_of r.given))
    (rest_count read r.given outcomes written held r.is_run ∙ one) in
    let waits = waiting_are read r.given outcomes written held r.is_run ∙ left_one.1 in
    let long : length more ≡ length outcomes + 1 = length-append outcomes (outcome ∷ []) in
    let calls : take (length more) (calls_of (turns read))
    ≡ take (length outcomes) (calls_of (turns read)) ++ left_one.0 ∷ [] =
    calls_are read r.given more written after is
    ∙ (take_all (length more) (calls_of r.given) (omega (arith, n, one, long))
    ∙ (sym (take-append-drop (length outcomes) (calls_of r.given))
    ∙ (ap (λ cs. take (length outcomes) (calls_of r.given) ++ cs) left_one.1
    ∙ ap (λ cs. cs ++ left_one.0 ∷ []) (sym (calls_are read r.given outcomes written held r.is_run))))) in
    let none = none_waits after.asked (drop (length more) (calls_of (turns read))) idle in (
      left_one.0,
      [],
      outcome_text form outcome,
      waits,
      λ i. record {
        read = read;
        calls = calls i;
        outcomes = more;
        waiting = none i;
        due = out i;
        written = written;
        closed = closed i;
        ended = ended;
        failed = failed;
      },
    )

-- the open call was answered
pub reached_answered : (read : List ℕ) (outcomes : List Outcome) (reply : Reply) (written : List ℕ) (held left : Held)
    → IsReached read outcomes written held → CanAnswer held.asked reply → left ≡ answered_by held.asked held reply
    → IsReached read (outcomes ++ Replied reply ∷ []) written left
reached_answered read outcomes reply written held left r can e =
    subst (λ h. IsReached read (outcomes ++ Replied reply ∷ []) written h) (sym e)
    (idle_reached read r.given (outcomes ++ Replied reply ∷ []) written (answered_by held.asked held reply)
    (Acts (run_of read r.given outcomes written held) (Answer reply) r.is_run can) (answer_idle held reply))

pub seen_answered : (read : List ℕ) (outcomes : List Outcome) (reply : Reply) (written : List ℕ) (held left : Held)
    (ended failed : Bool)
    → IsReached read outcomes written held → CanAnswer held.asked reply → left ≡ answered_by held.asked held reply
    → HasOutcome (Replied reply) (reached read outcomes written held [] ended failed)
    (reached read (outcomes ++ Replied reply ∷ []) written left [] ended failed)
seen_answered read outcomes reply written held left ended failed r can e =
    let form = some_form held.asked reply can in
    subst (λ h. HasOutcome (Replied reply) (reached read outcomes written held [] ended failed)
    (reached read (outcomes ++ Replied reply ∷ []) written h [] ended failed)) (sym e)
    (seen_outcome read outcomes (Replied reply) written held (answered_by held.asked held reply) ended failed form.0 r
    form.1 (Acts (run_of read r.given outcomes written held) (Answer reply) r.is_run can) (answer_idle held reply)
    (answer_writes held form.0 reply form.1) (answered_closed held.asked held reply))

-- the open call was refused
pub reached_refused : (read : List ℕ) (outcomes : List Outcome) (written : List ℕ) (held left : Held)
    → IsReached read outcomes written held → CanRefuse held.asked → left ≡ refused_by held.asked held
    → IsReached read (outcomes ++ Refused ∷ []) written left
reached_refused read outcomes written held left r can e =
    subst (λ h. IsReached read (outcomes ++ Refused ∷ []) written h) (sym e)
    (idle_reached read r.given (outcomes ++ Refused ∷ []) written (refused_by held.asked held)
    (Acts (run_of read r.given outcomes written held) Refuse r.is_run can) (refusal_idle held))

pub seen_refused : (read : List ℕ) (outcomes : List Outcome) (written : List ℕ) (held left : Held)
    (ended failed : Bool)
    → IsReached read outcomes written held → CanRefuse held.asked → left ≡ refused_by held.asked held
    → HasOutcome Refused (reached read outcomes written held [] ended failed)
    (reached read (outcomes ++ Refused ∷ []) written left [] ended failed)
seen_refused read outcomes written held left ended failed r can e =
    let form = some_refused held.asked can in
    subst (λ h. HasOutcome Refused (reached read outcomes written held [] ended failed)
    (reached read (outcomes ++ Refused ∷ []) written h [] ended failed)) (sym e)
    (seen_outcome read outcomes Refused written held (refused_by held.asked held) ended failed form.0 r form.1
    (Acts (run_of read r.given outcomes written held) Refuse r.is_run can) (refusal_idle held)
    (refusal_writes held form.0 form.1) (refused_closed held.asked held))

-- output was taken away
pub reached_written : (read : List ℕ) (outcomes : List Outcome) (written : List ℕ) (held : Held) (n : ℕ)
    → IsReached read outcomes written held → n ≤ length held.out
    → IsReached read outcomes (written ++ take n held.out) (taken_from held n)
reached_written read outcomes written held n r within =
    record {
      given = r.given;
      is_run = Acts (run_of read r.given outcomes written held) (Take n) r.is_run within;
      asked = r.asked;
    }

-- whatever bytes may follow
pub begun : (read : List ℕ) (outcomes : List Outcome) (written : List ℕ) (held : Held) (ended failed : Bool)
    → IsReached read outcomes written held → (more : List ℕ)
    → IsBegun (reached read outcomes written held [] ended failed) (read ++ more)
begun read outcomes written held ended failed r more =
    let n : length outcomes + open_calls held.asked ≡ length (calls_of r.given) =
    count read r.given outcomes written held r.is_run in
    let after = fed held more in
    let is = Acts (run_of read r.given outcomes written held) (Feed more) r.is_run tt in
    let fewer = fewer_outcomes_begin r.given (to_come after) outcomes [] in
    let first = calls_are read r.given outcomes written held r.is_run in
    let waits = waiting_are read r.given outcomes written held r.is_run in
    let same : drop (length outcomes) (calls_of (turns (read ++ more)))
    ≡ drop (length outcomes) (calls_of r.given) ++ calls_of (to_come after) =
    ap (λ cs. drop (length outcomes) cs) (all_calls (read ++ more) r.given outcomes written after is)
    ∙ drop-append-le (length outcomes) (calls_of r.given) (calls_of (to_come after)) (omega (arith, n)) in
    let enough : take (length outcomes) (calls_of (turns (read ++ more))) ≡ take (length outcomes) (calls_of r.given) =
    ap (λ cs. take (length outcomes) cs) (all_calls (read ++ more) r.given outcomes written after is)
    ∙ take-append-le (length outcomes) (calls_of r.given) (calls_of (to_come after)) (omega (arith, n)) in
    record {
      rest = fewer.0;
      answered = ap length first ∙ length-take-le (length outcomes) (calls_of r.given) (omega (arith, n));
      calls = first ∙ sym enough;
      waiting = waits ∙ sym (ap (λ cs. take (length cs) (drop (length outcomes) (calls_of (turns
          (read ++ more))))) waits
          ∙ (ap (λ cs. take (length (drop (length outcomes) (calls_of r.given))) cs) same
          ∙ take_at (drop (length outcomes) (calls_of r.given)) (calls_of (to_come after))
          (length (drop (length outcomes) (calls_of r.given))) refl));
      output = ap (λ bytes. bytes ++ fewer.0) (output_is_texts (run_of read r.given outcomes written held) r.is_run)
          ∙ (sym fewer.1
          ∙ (ap (λ os. outcome_texts (r.given ++ to_come after) os) (append-nil outcomes)
          ∙ ap (λ ts. outcome_texts ts outcomes) (any_cutting (run_of
          (read ++ more) r.given outcomes written after) is)));
    }
