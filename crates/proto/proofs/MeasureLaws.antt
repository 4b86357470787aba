-- Each turn that a session gives takes a byte, a key or a refused block: so their number is bounded.
use Rattle.std.proofs.Common.{◌≡◌, ℕ, ◌+◌, ◌<◌, ◌≤◌, Bool, true, false, List, [], ◌∷◌, length, take, Option, None, Some}
use Rattle.std.proofs.Common.{refl, ap, ◌∙◌, arith, length-append, length-drop, length-take}
use Rattle.std.specs.Prelude.{◌==◌, Result, Ok, Err, IfOk, OnOk}
use Rattle.std.specs.List.{join_with_byte}
use Rattle.proto.specs.declared.skipped_blocks.SkippedBlock.{SkippedBlock}
use Rattle.proto.specs.declared.requests.Request.TheVariants.{Store, Get, Arith, Delete, Flush, Quit, Bad}
use Rattle.proto.specs.declared.sessions.Step.{Step}
use Rattle.proto.specs.declared.texts.Form.{Form}
use Rattle.proto.specs.Words.{space, crlf}
use Rattle.proto.specs.Grammar.{Spells, spelling, get_word}
use Rattle.proto.specs.Fronts.{Front, front, refused_at, found_of}
use Rattle.proto.specs.Turns.{Turn, Faulty, Calls}
use Rattle.proto.specs.Sessions.{Held, Given, Tells, by_found, by_skipped_block, next_of, step_of}
use Rattle.proto.specs.Streams.{most_turns, LeavesFewer}
use Rattle.proto.proofs.GrammarLaws.{found_is_spelled}
use Rattle.proto.proofs.RequestLaws.{takes}

-- joined fields have a byte between each two
joined_length : (fields : List (List ℕ)) → length fields ≤ length (join_with_byte space fields) + 1
joined_length [] = omega arith
joined_length (field ∷ []) = omega arith
joined_length (field ∷ next ∷ fields) =
    let rest = joined_length (next ∷ fields) in
    omega (arith, length-append field (space ∷ join_with_byte space (next ∷ fields)))

-- a get has fewer keys than bytes
keys_below : (keys : List (List ℕ)) (unique : Bool) (bytes : List ℕ)
    → Spells (Get keys unique) bytes
    → length keys < length bytes
keys_below keys unique bytes spelled =
    let fields = spelling (get_word unique) ∷ keys in
    let each = joined_length fields in
    let all : length bytes ≡ length (join_with_byte space fields) + 2 =
    ap length spelled.0.spelled ∙ length-append (join_with_byte space fields) crlf in
    omega arith

keys_found : (keys : List (List ℕ)) (unique : Bool) (bytes : List ℕ) (n : ℕ)
    → front bytes ≡ Some (Get keys unique, n)
    → length keys < n
keys_found keys unique bytes n e =
    let found = found_is_spelled bytes (Get keys unique, n) e in
    let below = keys_below keys unique (take n bytes) found.2 in
    omega (arith, length-take n bytes)

-- a turn was given, and fewer are left
abbrev Fewer : Held → Option Turn → Held → Type 0
Fewer h None left = Unit {0}
Fewer h (Some turn) left = most_turns left < most_turns h

-- by what stands at the front
by_front : (unread : List ℕ) (unique : Bool) (asked : Option Form) (out : List ℕ) (r : Front) (q : Option SkippedBlock)
    → front unread ≡ r
    → let h : Held = record
    { unread = unread; skipped_block = None; later = []; unique = unique; asked = asked; out = out; closed = false } in
    Fewer h (by_found (found_of r q) h).0 (by_found (found_of r q) h).1
by_front unread unique asked out None None e = tt
by_front unread unique asked out None (Some p) e = tt
by_front unread unique asked out (Some (Bad fault, n)) q e =
    let s = takes unread (Bad fault, n) e in let a = s.least in let b = s.most in omega (arith, length-drop n unread)
by_front unread unique asked out (Some (Get [] u, n)) q e = tt
by_front unread unique asked out (Some (Get (key ∷ keys) u, n)) q e =
    let s = takes unread (Get (key ∷ keys) u, n) e in let b = s.most in let k =
    keys_found (key ∷ keys) u unread n e in omega (arith, length-drop n unread)
by_front unread unique asked out (Some (Store key op silent, n)) q e =
    let s = takes unread (Store key op silent, n) e in let a = s.least in let b =
    s.most in omega (arith, length-drop n unread)
by_front unread unique asked out (Some (Arith key op silent, n)) q e =
    let s = takes unread (Arith key op silent, n) e in let a = s.least in let b =
    s.most in omega (arith, length-drop n unread)
by_front unread unique asked out (Some (Delete key silent, n)) q e =
    let s = takes unread (Delete key silent, n) e in let a = s.least in let b =
    s.most in omega (arith, length-drop n unread)
by_front unread unique asked out (Some (Flush silent, n)) q e =
    let s = takes unread (Flush silent, n) e in let a = s.least in let b = s.most in omega (arith, length-drop n unread)
by_front unread unique asked out (Some (Quit, n)) q e = tt

-- by the refused block that is passed over, or the front
by_skip : (unread : List ℕ) (skipped_block : Option SkippedBlock) (unique : Bool) (asked : Option Form) (out : List ℕ)
    → let h : Held = record {
      unread = unread;
      skipped_block = skipped_block;
      later = [];
      unique = unique;
      asked = asked;
      out = out;
      closed = false;
    } in
    Fewer h (by_skipped_block skipped_block h).0 (by_skipped_block skipped_block h).1
by_skip unread None unique asked out = by_front unread unique asked out (front unread) (refused_at unread) refl
by_skip unread (Some p) unique asked out = by_left (p.left == 0) refl
  where
    h : Held
    h = record {
      unread = unread;
      skipped_block = Some p;
      later = [];
      unique = unique;
      asked = asked;
      out = out;
      closed = false;
    }

    by_left : (b : Bool) → (p.left == 0) ≡ b → Fewer h (by_skipped_block (Some p) h).0 (by_skipped_block (Some p) h).1
    by_left true e = rw e (omega arith)
    by_left false e = rw e tt

by_fields : (unread : List ℕ) (skipped_block : Option SkippedBlock) (later : List (List ℕ)) (unique : Bool)
    (asked : Option Form)
    (out : List ℕ) (closed : Bool)
    → let h : Held = record {
      unread = unread;
      skipped_block = skipped_block;
      later = later;
      unique = unique;
      asked = asked;
      out = out;
      closed = closed;
    } in Fewer h (next_of h).0 (next_of h).1
by_fields unread skipped_block later unique asked out true = tt
by_fields unread skipped_block [] unique asked out false = by_skip unread skipped_block unique asked out
by_fields unread skipped_block (key ∷ keys) unique asked out false = omega arith

fewer : (h : Held) → Fewer h (next_of h).0 (next_of h).1
fewer h = by_fields h.unread h.skipped_block h.later h.unique h.asked h.out h.closed

-- what a step tells
told : (given : Given) → Tells (step_of given) given
told (None, left) = by_closed left.closed refl
  where
    by_closed : (b : Bool) → left.closed ≡ b → Tells (step_of (None, left)) (None, left)
    by_closed true e = rw e (refl, refl)
    by_closed false e = rw e (refl, refl)
told (Some (Faulty fault), left) = (fault, refl)
told (Some (Calls call form), left) = (form, refl)

-- so a step that is next tells it
pub tells_of : (step : Step) (h : Held) → step ≡ step_of (next_of h) → Tells step (next_of h)
tells_of step h is = rw is (told (next_of h))

-- a step that is returned tells which turn was given
pub told_by : {E : Type 0} (r : Result Step E) (h : Held)
    → IfOk r (λ step. step ≡ step_of (next_of h))
    → IfOk r (λ step. Tells step (next_of h))
told_by (Ok step) h is = rw is (told (next_of h))
told_by (Err e) h is = tt

left_fewer : (h : Held) (given : Given) → Fewer h given.0 given.1 → LeavesFewer (step_of given) h given.1
left_fewer h (None, left) few = by_closed left.closed refl
  where
    by_closed : (b : Bool) → left.closed ≡ b → LeavesFewer (step_of (None, left)) h left
    by_closed true e = rw e tt
    by_closed false e = rw e tt
left_fewer h (Some (Faulty fault), left) few = few
left_fewer h (Some (Calls call form), left) few = few

-- a step that gives a turn leaves fewer to come
step_leaves_fewer : (h : Held) → LeavesFewer (step_of (next_of h)) h (next_of h).1
step_leaves_fewer h = left_fewer h (next_of h) (fewer h)

-- a step that is returned leaves fewer turns
pub fewer_by : {E : Type 0} (r : Result Step E) (h left : Held)
    → IfOk r (λ step. step ≡ step_of (next_of h))
    → OnOk r (left ≡ (next_of h).1)
    → IfOk r (λ step. LeavesFewer step h left)
fewer_by (Ok step) h left is same = rw (is, same) (step_leaves_fewer h)
fewer_by (Err e) h left is same = tt
