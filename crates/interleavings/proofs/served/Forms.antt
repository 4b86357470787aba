-- An open call is answered in the form of its operation: an item, or none, exactly if it is a read.
use Rattle.std.proofs.Common.{◌≡◌, ℕ, zero, suc, ◌+◌, ◌<◌, Bool, true, false, cond, List, [], ◌∷◌, ◌++◌, length, take}
use Rattle.std.proofs.Common.{drop, Option, None, Some, refl, arith, ap, sym, ◌∙◌, subst, append-nil, length-append}
use Rattle.std.specs.Prelude.{not, slice_get}
use Rattle.std.specs.List.{flat_map}
use Rattle.std.proofs.lemmas.Option.{same_Some}
use Rattle.table.specs.Operations.{is_update}
use Rattle.table.specs.declared.operations.Call.{Call}
use Rattle.table.specs.declared.operations.Op.TheVariants.{Read, Set, Add, Replace, Append, Prepend, Cas, Incr, Decr}
use Rattle.table.specs.declared.operations.Op.TheVariants.{Delete, Flush}
use Rattle.table.specs.declared.operations.Reply.{Reply}
use Rattle.node.proofs.Lists.{get_last}
use Rattle.proto.specs.declared.requests.Request.{Request}
use Rattle.proto.specs.declared.requests.Request.TheVariants as requests
use Rattle.proto.specs.declared.storage.Verb.{Verb}
use Rattle.proto.specs.declared.storage.Verb.TheVariants as verbs
use Rattle.proto.specs.declared.texts.Form.{Form}
use Rattle.proto.specs.Verbs.{op_of}
use Rattle.proto.specs.Grammar.{Spells}
use Rattle.proto.specs.Fronts.{Front, front, is_last}
use Rattle.proto.specs.Turns.{Turn, Faulty, Calls, calls_of, looks, turns_of, form_of}
use Rattle.proto.specs.Sessions.{Held, Given, Writes, fed, next_of, answered_by, refused_by, shows}
use Rattle.proto.specs.Streams.{and_later, requests_upto, to_come}
use Rattle.proto.specs.Runs.{Feed, Next, Answer, Refuse, Take, Run, IsRun, Opens, Acts, turn_given, open_calls}
use Rattle.proto.proofs.GrammarLaws.{found_is_spelled}
use Rattle.proto.proofs.RunLaws.{any_cutting}
use Rattle.proto.proofs.WriteLaws.{calls_of_more, next_writes}
use Rattle.interleavings.specs.Connections.{Connection}
use Rattle.interleavings.specs.Served.{unrefused}
use Rattle.interleavings.proofs.relation.Transfer.{take_front}
use Rattle.interleavings.proofs.served.Outcomes.{unrefused_more}
use Rattle.interleavings.proofs.served.Connected.{as_list, IsConnected, run_with, given_counted, counted}

-- ---- the forms of turns

-- each call's form shows an item exactly if it is a read
abbrev FitForms : List Turn → Type 0
FitForms [] = Unit {0}
FitForms (Faulty fault ∷ ts) = FitForms ts
FitForms (Calls call form ∷ ts) = (shows form ≡ not (is_update call.op)) × FitForms ts

both_fit : (ts us : List Turn) → FitForms ts → FitForms us → FitForms (ts ++ us)
both_fit [] us a b = b
both_fit (Faulty fault ∷ ts) us a b = both_fit ts us a b
both_fit (Calls call form ∷ ts) us a b = (a.0, both_fit ts us a.1 b)

first_fit : (ts us : List Turn) → FitForms (ts ++ us) → FitForms ts
first_fit [] us a = tt
first_fit (Faulty fault ∷ ts) us a = first_fit ts us a
first_fit (Calls call form ∷ ts) us a = (a.0, first_fit ts us a.1)

last_fits : (ts : List Turn) (call : Call) (form : Form)
    → FitForms (ts ++ Calls call form ∷ [])
    → shows form ≡ not (is_update call.op)
last_fits [] call form a = a.0
last_fits (Faulty fault ∷ ts) call form a = last_fits ts call form a
last_fits (Calls c f ∷ ts) call form a = last_fits ts call form a.1

line_shows : (silent : Bool) → shows (form_of silent) ≡ false
line_shows true = refl
line_shows false = refl

stores : (verb : Verb) (block : List ℕ) → is_update (op_of verb block) ≡ true
stores (verbs.Set flags) block = refl
stores (verbs.Add flags) block = refl
stores (verbs.Replace flags) block = refl
stores verbs.Append block = refl
stores verbs.Prepend block = refl
stores (verbs.Cas flags unique) block = refl

looks_fit : (keys : List (List ℕ)) (unique : Bool) → FitForms (looks keys unique)
looks_fit [] unique = tt
looks_fit (key ∷ keys) unique = (refl, looks_fit keys unique)

request_fits : (request : Request) (bytes : List ℕ) → Spells request bytes → FitForms (turns_of request)
request_fits (requests.Store key op silent) bytes s =
    (line_shows silent ∙ sym (ap not (ap is_update (sym s.5) ∙ stores s.0.verb s.1)), tt)
request_fits (requests.Get keys unique) bytes s = looks_fit keys unique
request_fits (requests.Arith key (Incr amount) silent) bytes s = (line_shows silent, tt)
request_fits (requests.Arith key (Decr amount) silent) bytes s = (line_shows silent, tt)
request_fits (requests.Arith key Read silent) bytes s = absurd s
request_fits (requests.Arith key (Set flags block) silent) bytes s = absurd s
request_fits (requests.Arith key (Add flags block) silent) bytes s = absurd s
request_fits (requests.Arith key (Replace flags block) silent) bytes s = absurd s
request_fits (requests.Arith key (Append block) silent) bytes s = absurd s
request_fits (requests.Arith key (Prepend block) silent) bytes s = absurd s
request_fits (requests.Arith key (Cas flags block unique) silent) bytes s = absurd s
request_fits (requests.Arith key Delete silent) bytes s = absurd s
request_fits (requests.Arith key Flush silent) bytes s = absurd s
request_fits (requests.Delete key silent) bytes s = (line_shows silent, tt)
request_fits (requests.Flush silent) bytes s = (line_shows silent, tt)
request_fits requests.Quit bytes s = tt
request_fits (requests.Bad fault) bytes s = tt

flat_more : (r : Request) (rs : List Request) → FitForms (turns_of r) → FitForms (flat_map turns_of rs)
    → FitForms (flat_map turns_of (r ∷ rs))
flat_more r rs a b = both_fit (turns_of r) (flat_map turns_of rs) a b

upto_fit : (n : ℕ) (bytes : List ℕ) → FitForms (flat_map turns_of (requests_upto n bytes))
upto_fit zero bytes = tt
upto_fit (suc k) bytes = by_front (front bytes) refl (λ n. upto_fit k (drop n bytes))
  where
    unless_last : (b : Bool) (later : List Request)
        → FitForms (flat_map turns_of later)
        → FitForms (flat_map turns_of (cond b [] later))
    unless_last true later a = tt
    unless_last false later a = a

    by_front : (f : Front)
        → front bytes ≡ f
        → ((n : ℕ) → FitForms (flat_map turns_of (requests_upto k (drop n bytes))))
        → FitForms (flat_map turns_of (and_later f (λ n. requests_upto k (drop n bytes))))
    by_front None e more = tt
    by_front (Some found) e more =
        flat_more found.0 (cond (is_last found.0) [] (requests_upto k (drop found.1 bytes)))
        (request_fits found.0 (take found.1 bytes) (found_is_spelled bytes found e).2)
        (unless_last (is_last found.0) (requests_upto k (drop found.1 bytes)) (more found.1))

-- ---- the open call

-- if a call is open, it is that of the last turn
abbrev IsLastTurn : Option Form → List Turn → Type 0
IsLastTurn None given = Unit {0}
IsLastTurn (Some form) given = (before : List Turn) × (call : Call) × (given ≡ before ++ Calls call form ∷ [])

next_last : (h : Held) (given : Given) (ts : List Turn)
    → h.asked ≡ None
    → Writes h given
    → IsLastTurn given.1.asked (ts ++ turn_given given.0)
next_last h (None, left) ts idle w = rw (w.1, idle) tt
next_last h (Some (Faulty fault), left) ts idle w = rw (w.1, idle) tt
next_last h (Some (Calls call form), left) ts idle w = rw w.1 (ts, call, refl)

fed_last : (h : Held) (piece : List ℕ) (ts : List Turn) → IsLastTurn h.asked ts → IsLastTurn (fed h piece).asked ts
fed_last h piece ts is = by_closed h.closed refl
  where
    by_closed : (b : Bool) → h.closed ≡ b → IsLastTurn (fed h piece).asked ts
    by_closed true e = rw e is
    by_closed false e = rw e is

answered_last : (h : Held) (asked : Option Form) (reply : Reply)
    (ts : List Turn)
    → h.asked ≡ asked
    → IsLastTurn (answered_by asked h reply).asked ts
answered_last h None reply ts e = rw e tt
answered_last h (Some form) reply ts e = tt

refused_last : (h : Held) (asked : Option Form) (ts : List Turn)
    → h.asked ≡ asked
    → IsLastTurn (refused_by asked h).asked ts
refused_last h None ts e = rw e tt
refused_last h (Some form) ts e = tt

last_turn : (run : Run) → IsRun run → IsLastTurn run.held.asked run.given
last_turn run Opens = tt
last_turn run (Acts earlier (Feed piece) is allowed) = fed_last earlier.held piece earlier.given (last_turn earlier is)
last_turn run (Acts earlier Next is allowed) =
    next_last earlier.held (next_of earlier.held) earlier.given allowed (next_writes earlier.held)
last_turn run (Acts earlier (Answer reply) is allowed) =
    answered_last earlier.held earlier.held.asked reply earlier.given refl
last_turn run (Acts earlier Refuse is allowed) =
    refused_last earlier.held earlier.held.asked earlier.given refl
last_turn run (Acts earlier (Take n) is allowed) = last_turn earlier is

given_fit : (k : Connection) (t : IsConnected k) (before : List Turn) (call : Call) (form : Form)
    → t.given ≡ before ++ Calls call form ∷ []
    → FitForms (before ++ Calls call form ∷ [])
given_fit k t before call form e =
    subst FitForms e
    (first_fit t.given (to_come k.session)
    (subst FitForms (sym (any_cutting (run_with k t.given) t.is)) (upto_fit (length k.read) k.read)))

-- ---- the call that is open, as the connection has it

last_same : {X : Type 0} (xs ys : List X) (x y : X) → xs ++ x ∷ [] ≡ ys ++ y ∷ [] → (xs ≡ ys) × (x ≡ y)
last_same xs ys x y e =
    let n = length-append xs (x ∷ []) in
    let m = length-append ys (y ∷ []) in
    let s = ap length e in
    let l : length xs ≡ length ys = omega (arith, n, m, s) in (
      sym (take_front xs (x ∷ [])) ∙ ap (take (length xs)) e
          ∙ ap (λ p. take p (ys ++ y ∷ [])) l ∙ take_front ys (y ∷ []),
      same_Some x y
          (sym (get_last xs x) ∙ ap (λ zs. slice_get zs (length xs)) e ∙ ap (slice_get (ys ++ y ∷ [])) l
          ∙ get_last ys y),
    )

-- An open call is that of the last turn. The calls before it have their outcomes, and those of them that weren't
-- refused were made; it was made itself, or is to be made.
pub record IsLastCall (k : Connection) (given : List Turn) (form : Form) : Type 0 where
  pub before : List Turn
  pub call : Call
  pub given_is : given ≡ before ++ Calls call form ∷ []
  pub known : length k.outcomes ≡ length (calls_of before)
  pub calls : k.calls ++ as_list k.due ≡ unrefused (calls_of before) k.outcomes ++ call ∷ []
  pub fits : shows form ≡ not (is_update call.op)

-- so it is
pub open_call : (k : Connection) (t : IsConnected k) (form : Form)
    → k.session.asked ≡ Some form
    → IsLastCall k t.given form
open_call k t form e = record {
  before = l.0;
  call = l.1;
  given_is = l.2;
  known = known;
  calls =
      sym t.calls
      ∙ ap (λ cs. unrefused cs k.outcomes) calls
      ∙ unrefused_more (calls_of l.0) (l.1 ∷ []) k.outcomes (let n = known in omega (arith, n));
  fits = last_fits l.0 l.1 form (given_fit k t l.0 l.1 form l.2);
}
  where
    l : IsLastTurn (Some form) t.given
    l = subst (λ a. IsLastTurn a t.given) e (last_turn (run_with k t.given) t.is)

    calls : calls_of t.given ≡ calls_of l.0 ++ l.1 ∷ []
    calls = ap calls_of l.2 ∙ calls_of_more l.0 (Calls l.1 form ∷ [])

    known : length k.outcomes ≡ length (calls_of l.0)
    known =
        let n : length k.outcomes + 1 ≡ length (calls_of t.given) =
        subst (λ a. length k.outcomes + open_calls a ≡ length (calls_of t.given)) e (given_counted k t) in
        let c = ap length calls ∙ length-append (calls_of l.0) (l.1 ∷ []) in
        omega (arith, n, c)

-- The call that a connection waits for is the last that it made, and the form of its answer is its operation's.
pub record IsWaiting (k : Connection) : Type 0 where
  pub form : Form
  pub call : Call
  pub asked : k.session.asked ≡ Some form
  pub made : slice_get k.calls (length k.replies) ≡ Some call
  pub fits : shows form ≡ not (is_update call.op)

-- so it is, if a call was made and has no reply
pub waiting : (k : Connection) → IsConnected k → length k.replies < length k.calls → IsWaiting k
waiting k t less = by_asked k.session.asked refl
  where
    by_due : (form : Form) (due : Option Call) → k.session.asked ≡ Some form → k.due ≡ due → IsWaiting k
    by_due form (Some call) e d =
        let n : length k.replies + open_calls k.session.asked ≡ length k.calls + 1 =
        subst (λ x. length k.replies + open_calls k.session.asked ≡ length k.calls + length (as_list x)) d (counted k t)
        in
        let m : length k.replies + 1 ≡ length k.calls + 1 =
        subst (λ a. length k.replies + open_calls a ≡ length k.calls + 1) e n in
        absurd (omega (arith, m, less))
    by_due form None e d =
        let o = open_call k t form e in
        let first = unrefused (calls_of o.before) k.outcomes in
        let calls : k.calls ≡ first ++ o.call ∷ [] =
        sym (append-nil k.calls) ∙ ap (λ x. k.calls ++ as_list x) (sym d) ∙ o.calls in
        let n : length k.replies + open_calls k.session.asked ≡ length k.calls + 0 =
        subst (λ x. length k.replies + open_calls k.session.asked ≡ length k.calls + length (as_list x)) d (counted k t)
        in
        let m : length k.replies + 1 ≡ length k.calls + 0 =
        subst (λ a. length k.replies + open_calls a ≡ length k.calls + 0) e n in
        let c = ap length calls ∙ length-append first (o.call ∷ []) in
        let there : length k.replies ≡ length first = omega (arith, m, c) in
        record {
          form = form;
          call = o.call;
          asked = e;
          made =
              ap (λ cs. slice_get cs (length k.replies)) calls
              ∙ ap (slice_get (first ++ o.call ∷ [])) there
              ∙ get_last first o.call;
          fits = o.fits;
        }

    by_asked : (asked : Option Form) → k.session.asked ≡ asked → IsWaiting k
    by_asked None e =
        let n : length k.replies + 0 ≡ length k.calls + length (as_list k.due) =
        subst (λ a. length k.replies + open_calls a ≡ length k.calls + length (as_list k.due)) e (counted k t) in
        absurd (omega (arith, n, less))
    by_asked (Some form) e = by_due form k.due e refl

-- The call that is to be made is open, after calls that were made or refused, and the form of its answer is its
-- operation's.
pub record IsDue (k : Connection) (given : List Turn) (call : Call) : Type 0 where
  pub form : Form
  pub asked : k.session.asked ≡ Some form
  pub before : List Turn
  pub given_is : given ≡ before ++ Calls call form ∷ []
  pub known : length k.outcomes ≡ length (calls_of before)
  pub calls : k.calls ≡ unrefused (calls_of before) k.outcomes
  pub fits : shows form ≡ not (is_update call.op)

-- so it is
pub due_form : (k : Connection) (t : IsConnected k) (call : Call) → k.due ≡ Some call → IsDue k t.given call
due_form k t call d = by_asked k.session.asked refl
  where
    by_asked : (asked : Option Form) → k.session.asked ≡ asked → IsDue k t.given call
    by_asked None e =
        let n : length k.replies + open_calls k.session.asked ≡ length k.calls + 1 =
        subst (λ x. length k.replies + open_calls k.session.asked ≡ length k.calls + length (as_list x)) d (counted k t)
        in
        let m : length k.replies + 0 ≡ length k.calls + 1 =
        subst (λ a. length k.replies + open_calls a ≡ length k.calls + 1) e n in
        let f = t.few in
        absurd (omega (arith, m, f))
    by_asked (Some form) e =
        let o = open_call k t form e in
        let same = last_same k.calls (unrefused (calls_of o.before) k.outcomes) call o.call
        (ap (λ x. k.calls ++ as_list x) (sym d) ∙ o.calls) in
        record {
          form = form;
          asked = e;
          before = o.before;
          given_is = o.given_is ∙ ap (λ (c : Call). o.before ++ Calls c form ∷ []) (sym same.1);
          known = o.known;
          calls = same.0;
          fits = o.fits ∙ ap (λ (c : Call). not (is_update c.op)) (sym same.1);
        }
