-- Each step of a session gives the first of its turns, so the turns of a stream don't depend on how it was cut.
use Rattle.std.proofs.Common.{◌≡◌, ℕ, ◌-◌, ◌<◌, Bool, true, false, cond, List, [], ◌∷◌, ◌++◌, length, drop, Option}
use Rattle.std.proofs.Common.{None, Some, refl, sym, ap, ◌∙◌, arith, length-append, length-drop, append_assoc}
use Rattle.std.specs.Prelude.{◌==◌}
use Rattle.std.specs.List.{flat_map}
use Rattle.std.proofs.Math.Seq.{drop-nil}
use Rattle.std.proofs.lemmas.Bool.Decides.{nat_tests}
use Rattle.std.proofs.lemmas.List.{append-nil}
use Rattle.proto.specs.declared.skipped_blocks.SkippedBlock.{SkippedBlock}
use Rattle.proto.specs.declared.requests.Fault.{Fault}
use Rattle.proto.specs.declared.requests.Request.{Request}
use Rattle.proto.specs.declared.requests.Request.TheVariants.{Store, Get, Arith, Delete, Flush, Quit, Bad}
use Rattle.proto.specs.declared.texts.Form.{Form}
use Rattle.proto.specs.Fronts.{Front, front, refused_at, found_of, is_last}
use Rattle.proto.specs.Turns.{Faulty, turns_of, fault_text}
use Rattle.proto.specs.Sessions.{Held, kept, passed, fed, by_found, by_skipped_block, next_of}
use Rattle.proto.specs.Streams.{requests, turns, turns_before, unread_turns, to_come, GivesFirst, most_faults}
use Rattle.proto.specs.Streams.{unread_requests}
use Rattle.proto.proofs.RequestLaws.{takes, requests_none, requests_some, requests_more, drop_two, refused_later}

cond_turns : (b : Bool) (rs : List Request) → flat_map turns_of (cond b [] rs) ≡ cond b [] (flat_map turns_of rs)
cond_turns true rs = refl
cond_turns false rs = refl

-- what stands at the front stays there: its turns come first
pub turns_more : (bytes more : List ℕ) (found : Request × ℕ)
    → front bytes ≡ Some found
    → turns (bytes ++ more) ≡ turns_of found.0 ++ cond (is_last found.0) [] (turns (drop found.1 bytes ++ more))
turns_more bytes more found e =
    ap (flat_map turns_of) (requests_more bytes more found e)
    ∙ ap (λ ts. turns_of found.0 ++ ts) (cond_turns (is_last found.0) (requests (drop found.1 bytes ++ more)))

-- the turns of the requests that unread bytes still give
unread_turned : (skipped_block : Option SkippedBlock) (unread : List ℕ)
    → flat_map turns_of (unread_requests skipped_block unread) ≡ unread_turns skipped_block unread
unread_turned None unread = refl
unread_turned (Some p) unread = by_left (p.left == 0)
  where
    by_left : (b : Bool)
        → flat_map turns_of (cond b (Bad p.fault ∷ cond (is_last (Bad p.fault)) [] (requests unread)) [])
        ≡ cond b (turns_before (Bad p.fault) (turns unread)) []
    by_left true = ap (λ ts. Faulty p.fault ∷ ts) (cond_turns (is_last (Bad p.fault)) (requests unread))
    by_left false = refl

-- after a fault are the turns of what is left, unless the session is closed by it
behind_fault : (b : Bool) (unread : List ℕ) (unique : Bool) (asked : Option Form) (out more : List ℕ)
    → cond b [] (turns (unread ++ more))
    ≡ to_come (fed (record {
      unread = unread;
      skipped_block = None;
      later = [];
      unique = unique;
      asked = asked;
      out = out;
      closed = b;
    }) more)
behind_fault true unread unique asked out more = refl
behind_fault false unread unique asked out more = refl

-- by what stands at the front
by_front : (unread : List ℕ) (unique : Bool) (asked : Option Form) (out : List ℕ) (r : Front) (q : Option SkippedBlock)
    → front unread ≡ r
    → refused_at unread ≡ q
    → let h : Held = record
    { unread = unread; skipped_block = None; later = []; unique = unique; asked = asked; out = out; closed = false } in
    GivesFirst h (by_found (found_of r q) h).0 (by_found (found_of r q) h).1
by_front unread unique asked out None None e f =
    record { first = λ more. refl; none = λ given. ap (flat_map turns_of) (requests_none unread e) }
by_front unread unique asked out None (Some p) e f =
    record {
      first = λ more. ap (flat_map turns_of) (refused_later unread more p e f)
          ∙ unread_turned (passed (Some p) more) (kept (Some p) more);
      none =
          λ given. ap (flat_map turns_of) (requests_none unread e);
    }
by_front unread unique asked out (Some (Bad fault, n)) q e f = record {
  first = λ more. turns_more unread more (Bad fault, n) e
      ∙ ap (λ ts. Faulty fault ∷ ts)
      (behind_fault (is_last (Bad fault)) (drop n unread) unique asked (out ++ fault_text fault) more);
  none = λ given. cc;
}
by_front unread unique asked out (Some (Get [] u, n)) q e f = absurd (takes unread (Get [] u, n) e).gets
by_front unread unique asked out (Some (Get (key ∷ keys) u, n)) q e f =
    record { first = λ more. turns_more unread more (Get (key ∷ keys) u, n) e; none = λ given. cc }
by_front unread unique asked out (Some (Store key op silent, n)) q e f =
    record { first = λ more. turns_more unread more (Store key op silent, n) e; none = λ given. cc }
by_front unread unique asked out (Some (Arith key op silent, n)) q e f =
    record { first = λ more. turns_more unread more (Arith key op silent, n) e; none = λ given. cc }
by_front unread unique asked out (Some (Delete key silent, n)) q e f =
    record { first = λ more. turns_more unread more (Delete key silent, n) e; none = λ given. cc }
by_front unread unique asked out (Some (Flush silent, n)) q e f =
    record { first = λ more. turns_more unread more (Flush silent, n) e; none = λ given. cc }
by_front unread unique asked out (Some (Quit, n)) q e f =
    record {
      first = λ more. turns_more unread more (Quit, n) e;
      none = λ given. ap (flat_map turns_of) (requests_some unread (Quit, n) e);
    }

-- by the refused block that is passed over, or the front
by_skip : (unread : List ℕ) (skipped_block : Option SkippedBlock) (unique : Bool) (asked : Option Form) (out : List ℕ)
    → let h : Held = record {
      unread = unread;
      skipped_block = skipped_block;
      later = [];
      unique = unique;
      asked = asked;
      out = out;
      closed = false;
    } in
    GivesFirst h (by_skipped_block skipped_block h).0 (by_skipped_block skipped_block h).1
by_skip unread None unique asked out = by_front unread unique asked out (front unread) (refused_at unread) refl refl
by_skip unread (Some p) unique asked out = by_left (p.left == 0) refl
  where
    h : Held
    h = record {
      unread = unread;
      skipped_block = Some p;
      later = [];
      unique = unique;
      asked = asked;
      out = out;
      closed = false;
    }

    by_left : (b : Bool) → (p.left == 0) ≡ b
        → GivesFirst h (by_skipped_block (Some p) h).0 (by_skipped_block (Some p) h).1
    by_left true e = record {
      first = λ more.
          let all : (p.left - length more == 0) ≡ true = grind (arith, nat_tests, e) in
          let behind : drop p.left more ≡ more =
          (let zero_left : p.left ≡ 0 = grind (arith, nat_tests, e) in rw zero_left refl) in
          rw (e, all, behind)
          (ap (λ ts. Faulty p.fault ∷ ts)
          (behind_fault (is_last (Bad p.fault)) unread unique asked (out ++ fault_text p.fault) more));
      none = rw e (λ given. cc);
    }
    by_left false e = rw e (record { first = λ more. refl; none = λ given. rw e refl })

by_fields : (unread : List ℕ) (skipped_block : Option SkippedBlock) (later : List (List ℕ)) (unique : Bool)
    (asked : Option Form)
    (out : List ℕ) (closed : Bool)
    → let h : Held = record {
      unread = unread;
      skipped_block = skipped_block;
      later = later;
      unique = unique;
      asked = asked;
      out = out;
      closed = closed;
    } in GivesFirst h (next_of h).0 (next_of h).1
by_fields unread skipped_block later unique asked out true = record { first = λ more. refl; none = λ given. refl }
by_fields unread skipped_block [] unique asked out false = by_skip unread skipped_block unique asked out
by_fields unread skipped_block (key ∷ keys) unique asked out false = record { first = λ more. refl; none = λ given. cc }

-- a step gives the first turn and leaves the others
pub next_gives_first : (h : Held) → GivesFirst h (next_of h).0 (next_of h).1
next_gives_first h = by_fields h.unread h.skipped_block h.later h.unique h.asked h.out h.closed

-- the unread bytes of what is left after a fault at the front
fewer_behind : (unread : List ℕ) (unique : Bool) (asked : Option Form) (out : List ℕ) (r : Front)
    (q : Option SkippedBlock)
    (fault : Fault)
    → front unread ≡ r
    → let h : Held = record
    { unread = unread; skipped_block = None; later = []; unique = unique; asked = asked; out = out; closed = false } in
    (by_found (found_of r q) h).0 ≡ Some (Faulty fault) → most_faults (by_found (found_of r q) h).1 < most_faults h
fewer_behind unread unique asked out None None fault e is = cc
fewer_behind unread unique asked out None (Some p) fault e is = cc
fewer_behind unread unique asked out (Some (Bad other, n)) q fault e is =
    let s = takes unread (Bad other, n) e in let a = s.least in let b = s.most in omega (arith, length-drop n unread)
fewer_behind unread unique asked out (Some (Get [] u, n)) q fault e is = cc
fewer_behind unread unique asked out (Some (Get (key ∷ keys) u, n)) q fault e is = cc
fewer_behind unread unique asked out (Some (Store key op silent, n)) q fault e is = cc
fewer_behind unread unique asked out (Some (Arith key op silent, n)) q fault e is = cc
fewer_behind unread unique asked out (Some (Delete key silent, n)) q fault e is = cc
fewer_behind unread unique asked out (Some (Flush silent, n)) q fault e is = cc
fewer_behind unread unique asked out (Some (Quit, n)) q fault e is = cc

fewer_skipped : (unread : List ℕ) (skipped_block : Option SkippedBlock) (unique : Bool) (asked : Option Form)
    (out : List ℕ)
    (fault : Fault)
    → let h : Held = record {
      unread = unread;
      skipped_block = skipped_block;
      later = [];
      unique = unique;
      asked = asked;
      out = out;
      closed = false;
    } in
    (by_skipped_block skipped_block h).0 ≡ Some (Faulty fault)
    → most_faults (by_skipped_block skipped_block h).1 < most_faults h
fewer_skipped unread None unique asked out fault is =
    fewer_behind unread unique asked out (front unread) (refused_at unread) fault refl is
fewer_skipped unread (Some p) unique asked out fault is = by_left (p.left == 0) refl is
  where
    h : Held
    h = record {
      unread = unread;
      skipped_block = Some p;
      later = [];
      unique = unique;
      asked = asked;
      out = out;
      closed = false;
    }

    by_left : (b : Bool)
        → (p.left == 0) ≡ b
        → (by_skipped_block (Some p) h).0 ≡ Some (Faulty fault)
        → most_faults (by_skipped_block (Some p) h).1 < most_faults h
    by_left true e is = rw e (omega arith)
    by_left false e is = absurd (let none = rw e at is in cc)

fewer_fields : (unread : List ℕ) (skipped_block : Option SkippedBlock) (later : List (List ℕ)) (unique : Bool)
    (asked : Option Form) (out : List ℕ) (closed : Bool) (fault : Fault)
    → let h : Held = record {
      unread = unread;
      skipped_block = skipped_block;
      later = later;
      unique = unique;
      asked = asked;
      out = out;
      closed = closed;
    } in
    (next_of h).0 ≡ Some (Faulty fault) → most_faults (next_of h).1 < most_faults h
fewer_fields unread skipped_block later unique asked out true fault is = cc
fewer_fields unread skipped_block [] unique asked out false fault is =
    fewer_skipped unread skipped_block unique asked out fault is
fewer_fields unread skipped_block (key ∷ keys) unique asked out false fault is = cc

-- a fault takes a byte at least
pub faults_take_bytes : (h : Held) (fault : Fault)
    → (next_of h).0 ≡ Some (Faulty fault)
    → most_faults (next_of h).1 < most_faults h
faults_take_bytes h fault is = fewer_fields h.unread h.skipped_block h.later h.unique h.asked h.out h.closed fault is

-- pieces one after another are one piece
kept_none : (skipped_block : Option SkippedBlock) → kept skipped_block [] ≡ []
kept_none None = refl
kept_none (Some p) = drop-nil p.left

passed_none : (skipped_block : Option SkippedBlock) → passed skipped_block [] ≡ skipped_block
passed_none None = refl
passed_none (Some p) = let same : p.left - 0 ≡ p.left = omega arith in ap (λ left. Some (record p { left = left })) same

kept_twice : (skipped_block : Option SkippedBlock) (xs ys : List ℕ)
    → kept skipped_block xs ++ kept (passed skipped_block xs) ys ≡ kept skipped_block (xs ++ ys)
kept_twice None xs ys = refl
kept_twice (Some p) xs ys = sym (drop_two p.left xs ys)

passed_twice : (skipped_block : Option SkippedBlock) (xs ys : List ℕ)
    → passed (passed skipped_block xs) ys ≡ passed skipped_block (xs ++ ys)
passed_twice None xs ys = refl
passed_twice (Some p) xs ys =
    let same : p.left - length xs - length ys ≡ p.left - length (xs ++ ys) = omega (arith, length-append xs ys) in
    ap (λ left. Some (record p { left = left })) same

-- a piece without bytes changes nothing
pub fed_none : (h : Held) → fed h [] ≡ h
fed_none h = by_closed h.unread h.skipped_block h.later h.unique h.asked h.out h.closed
  where
    by_closed : (unread : List ℕ) (skipped_block : Option SkippedBlock) (later : List (List ℕ)) (unique : Bool)
        (asked : Option Form) (out : List ℕ) (closed : Bool)
        → let h : Held = record {
          unread = unread;
          skipped_block = skipped_block;
          later = later;
          unique = unique;
          asked = asked;
          out = out;
          closed = closed;
        } in fed h [] ≡ h
    by_closed unread skipped_block later unique asked out true = refl
    by_closed unread skipped_block later unique asked out false =
        rw (kept_none skipped_block, passed_none skipped_block, append-nil unread) refl

-- two pieces one after another are one piece
pub fed_twice : (h : Held) (xs ys : List ℕ) → fed (fed h xs) ys ≡ fed h (xs ++ ys)
fed_twice h xs ys = by_closed h.unread h.skipped_block h.later h.unique h.asked h.out h.closed
  where
    by_closed : (unread : List ℕ) (skipped_block : Option SkippedBlock) (later : List (List ℕ)) (unique : Bool)
        (asked : Option Form) (out : List ℕ) (closed : Bool)
        → let h : Held = record {
          unread = unread;
          skipped_block = skipped_block;
          later = later;
          unique = unique;
          asked = asked;
          out = out;
          closed = closed;
        } in fed (fed h xs) ys ≡ fed h (xs ++ ys)
    by_closed unread skipped_block later unique asked out true = refl
    by_closed unread skipped_block later unique asked out false =
        rw (
          append_assoc unread (kept skipped_block xs) (kept (passed skipped_block xs) ys),
          kept_twice skipped_block xs ys,
          passed_twice skipped_block xs ys,
        ) refl
