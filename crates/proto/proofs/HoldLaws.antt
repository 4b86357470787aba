-- A session that has no turn to give holds less than a line and a block of the largest size.
use Rattle.std.proofs.Common.{◌≡◌, ℕ, ◌+◌, ◌-◌, ◌<◌, ◌≤◌, Bool, true, false, cond, List, [], ◌∷◌, length, take, Option}
use Rattle.std.proofs.Common.{None, Some, refl, sym, ap, ◌∙◌, arith, nat_lt, nat_le}
use Rattle.std.specs.Prelude.{◌==◌}
use Rattle.std.proofs.lemmas.Bool.Decides.{nat_tests}
use Rattle.std.proofs.lemmas.List.{drop_all}
use Rattle.table.specs.Items.{limit}
use Rattle.proto.specs.declared.skipped_blocks.SkippedBlock.{SkippedBlock}
use Rattle.proto.specs.declared.front.Found.{Found}
use Rattle.proto.specs.declared.front.Found.TheVariants.{Request as Requested, Refused, Nothing}
use Rattle.proto.specs.declared.lines.Asked.{Asked}
use Rattle.proto.specs.declared.lines.Asked.TheVariants.{Whole, Behind}
use Rattle.proto.specs.declared.storage.Block.{Block}
use Rattle.proto.specs.declared.storage.Fate.{Fate}
use Rattle.proto.specs.declared.storage.Fate.TheVariants.{Put, Refuse}
use Rattle.proto.specs.declared.storage.StorageLine.{StorageLine}
use Rattle.proto.specs.declared.storage.Verb.{Verb}
use Rattle.proto.specs.declared.requests.Fault.TheVariants.{TooLarge, LineTooLong, Expiry}
use Rattle.proto.specs.declared.requests.Request.{Request}
use Rattle.proto.specs.declared.requests.Request.TheVariants.{Store, Get, Arith, Delete, Flush, Quit, Bad}
use Rattle.proto.specs.declared.texts.Form.{Form}
use Rattle.table.specs.declared.operations.Reply.{Reply}
use Rattle.proto.specs.Words.{line_limit, first_lf}
use Rattle.proto.specs.Requests.{asked_at, by_end, fate_of}
use Rattle.proto.specs.Fronts.{Front, front, refused_at, refused_by, found_of}
use Rattle.proto.specs.Sessions.{Held, Given, fed, by_found, by_skipped_block, by_later, next_of, answered_by}
use Rattle.proto.specs.Sessions.{refused_by as refusal_by}
use Rattle.proto.specs.Runs.{SessionCall, Feed, Next, Answer, Refuse as RefuseCall, Take, Run, IsRun, Opens, Acts}
use Rattle.proto.specs.Runs.{acted}
use Rattle.proto.proofs.GrammarLaws.{asks_at}
use Rattle.proto.proofs.RequestLaws.{takes}

-- a block that is to be put is within the limit
put_within : (key put : List ℕ) (line : StorageLine) (verb : Verb) (silent : Bool)
    → fate_of key line ≡ Put put verb silent
    → line.size ≤ limit
put_within key put line verb silent e = by_tests (nat_lt limit line.size) line.expires refl e
  where
    by_tests : (large late : Bool)
        → nat_lt limit line.size ≡ large
        → cond large (Refuse TooLarge) (cond late (Refuse Expiry) (Put key line.verb line.silent)) ≡ Put put verb silent
        → line.size ≤ limit
    by_tests true late l is = cc
    by_tests false late l is = grind (arith, nat_tests, l)

-- bytes without a whole line are fewer than a line may have
short_line : (bytes : List ℕ) → asked_at bytes ≡ None → length bytes < line_limit
short_line bytes e = by_place (first_lf (take line_limit bytes)) e
  where
    by_length : (b : Bool)
        → nat_le line_limit (length bytes) ≡ b
        → ◌≡◌ {A = Option (Asked × ℕ)} (cond b (Some (Whole (Bad LineTooLong), line_limit)) None) None
        → length bytes < line_limit
    by_length true long is = cc
    by_length false long is = grind (arith, nat_tests, long)

    by_place : (place : Option ℕ) → by_end line_limit bytes place ≡ None → length bytes < line_limit
    by_place None is = by_length (nat_le line_limit (length bytes)) refl is
    by_place (Some i) is = cc

-- a block of which not all has come, by what becomes of it: if it is to be put, it is within the limit
short_block : (come end size : ℕ) (fate : Fate) (request : Request)
    → ((key : List ℕ) (verb : Verb) (silent : Bool) → fate ≡ Put key verb silent → size ≤ limit)
    → ◌≡◌ {A = Front} (cond (nat_lt come end) None (Some (request, end))) None
    → refused_by fate (end - come) ≡ None
    → come < end × (size ≤ limit)
short_block come end size (Refuse fault) request within e none = cc
short_block come end size (Put key verb silent) request within e none = by_test (nat_lt come end) refl e
  where
    by_test : (b : Bool)
        → nat_lt come end ≡ b
        → ◌≡◌ {A = Front} (cond b None (Some (request, end))) None
        → come < end × (size ≤ limit)
    by_test true less is = (grind (arith, nat_tests, less), within key verb silent refl)
    by_test false less is = cc

-- if neither a request nor a refused block stands at the front, what stands there is short
short_front : (bytes : List ℕ) → front bytes ≡ None → refused_at bytes ≡ None → length bytes < line_limit + limit + 2
short_front bytes none refused = by_line (asked_at bytes) refl
  where
    by_line : (asked : Option (Asked × ℕ)) → asked_at bytes ≡ asked → length bytes < line_limit + limit + 2
    by_line None e = let short = short_line bytes e in omega arith
    by_line (Some (Whole request, n)) e = absurd (let found : front bytes ≡ Some (request, n) = rw e refl in cc)
    by_line (Some (Behind block, n)) e =
        let says = asks_at bytes (Behind block, n) e in
        let line = says.short in
        let behind = says.asks in
        let size : block.size ≡ behind.line.size = ap (λ (b : Block). b.size) (sym behind.block_is) in
        let fate : block.fate ≡ fate_of behind.key behind.line = ap (λ (b : Block). b.fate) (sym behind.block_is) in
        let short = short_block (length bytes) (n + block.size + 2) block.size block.fate _
        (λ key verb silent is. let small = put_within behind.key key behind.line verb silent (sym fate ∙ is) in
        omega arith)
        (rw e at none) (rw e at refused) in
        let less = short.0 in
        let small = short.1 in
        omega arith

-- while bytes of a refused block have still to come, none is unread
abbrev IsPassed : Option SkippedBlock → List ℕ → Type 0
IsPassed None unread = Unit {0}
IsPassed (Some p) unread = 1 ≤ p.left → unread ≡ []

fed_passed : (h : Held) (piece : List ℕ)
    → IsPassed h.skipped_block h.unread
    → IsPassed (fed h piece).skipped_block (fed h piece).unread
fed_passed h piece is = by_fields h.unread h.skipped_block h.later h.unique h.asked h.out h.closed is
  where
    by_fields : (unread : List ℕ) (skipped_block : Option SkippedBlock) (later : List (List ℕ)) (unique : Bool)
        (asked : Option Form) (out : List ℕ) (closed : Bool)
        → IsPassed skipped_block unread
        → let h : Held = record {
          unread = unread;
          skipped_block = skipped_block;
          later = later;
          unique = unique;
          asked = asked;
          out = out;
          closed = closed;
        } in
        IsPassed (fed h piece).skipped_block (fed h piece).unread
    by_fields unread skipped_block later unique asked out true is = is
    by_fields unread None later unique asked out false is = tt
    by_fields unread (Some p) later unique asked out false is = λ some.
        let still : 1 ≤ p.left = omega arith in
        rw (is still) (drop_all p.left piece (omega arith))

-- by what stands at the front
front_passed : (found : Found) (h : Held)
    → h.skipped_block ≡ None
    → IsPassed (by_found found h).1.skipped_block (by_found found h).1.unread
front_passed (Requested (Store key op silent) n) h e = rw e tt
front_passed (Requested (Get [] unique) n) h e = rw e tt
front_passed (Requested (Get (key ∷ keys) unique) n) h e = rw e tt
front_passed (Requested (Arith key op silent) n) h e = rw e tt
front_passed (Requested (Delete key silent) n) h e = rw e tt
front_passed (Requested (Flush silent) n) h e = rw e tt
front_passed (Requested Quit n) h e = rw e tt
front_passed (Requested (Bad fault) n) h e = rw e tt
front_passed (Refused skipped_block) h e = λ some. refl
front_passed Nothing h e = rw e tt

-- What a step leaves: nothing unread while a refused block is passed over; and little, if it is open and gave no turn.
record Leaves (given : Given) : Type 0 where
  passed : IsPassed given.1.skipped_block given.1.unread
  little : given.0 ≡ None → given.1.closed ≡ false → length given.1.unread < line_limit + limit + 2

by_front : (h : Held) (r : Front) (q : Option SkippedBlock)
    → front h.unread ≡ r
    → refused_at h.unread ≡ q
    → h.skipped_block ≡ None
    → Leaves (by_found (found_of r q) h)
by_front h None None e f none =
    record { passed = front_passed Nothing h none; little = λ given living. short_front h.unread e f }
by_front h None (Some p) e f none = record { passed = λ some. refl; little = λ given living. omega arith }
by_front h (Some (Store key op silent, n)) q e f none =
    record { passed = front_passed (Requested (Store key op silent) n) h none; little = λ given. cc }
by_front h (Some (Get [] unique, n)) q e f none =
    record {
      passed = front_passed (Requested (Get [] unique) n) h none;
      little = λ given living. absurd (takes h.unread (Get [] unique, n) e).gets;
    }
by_front h (Some (Get (key ∷ keys) unique, n)) q e f none =
    record { passed = front_passed (Requested (Get (key ∷ keys) unique) n) h none; little = λ given. cc }
by_front h (Some (Arith key op silent, n)) q e f none =
    record { passed = front_passed (Requested (Arith key op silent) n) h none; little = λ given. cc }
by_front h (Some (Delete key silent, n)) q e f none =
    record { passed = front_passed (Requested (Delete key silent) n) h none; little = λ given. cc }
by_front h (Some (Flush silent, n)) q e f none =
    record { passed = front_passed (Requested (Flush silent) n) h none; little = λ given. cc }
by_front h (Some (Quit, n)) q e f none =
    record {
      passed = front_passed (Requested Quit n) h none;
      little = λ given living. absurd (let no : true ≡ false = living in cc);
    }
by_front h (Some (Bad fault, n)) q e f none =
    record { passed = front_passed (Requested (Bad fault) n) h none; little = λ given. cc }

by_skip : (h : Held) (skipped_block : Option SkippedBlock)
    → h.skipped_block ≡ skipped_block
    → IsPassed skipped_block h.unread
    → Leaves (by_skipped_block skipped_block h)
by_skip h None e is = by_front h (front h.unread) (refused_at h.unread) refl refl e
by_skip h (Some p) e is = by_left (p.left == 0) refl
  where
    by_left : (b : Bool) → (p.left == 0) ≡ b → Leaves (by_skipped_block (Some p) h)
    by_left true zero = rw zero (record { passed = tt; little = λ given. cc })
    by_left false some =
        let still : 1 ≤ p.left = grind (arith, nat_tests, some) in
        let nothing : length h.unread ≡ 0 = ap length (is still) in
        rw some (record { passed = rw e is; little = λ given living. omega arith })

by_keys : (h : Held) (later : List (List ℕ)) → h.later ≡ later → IsPassed h.skipped_block h.unread
    → Leaves (by_later later h)
by_keys h [] e is = by_skip h h.skipped_block refl is
by_keys h (key ∷ keys) e is = record { passed = is; little = λ given. cc }

-- a step leaves little
next_leaves : (h : Held) → IsPassed h.skipped_block h.unread → Leaves (next_of h)
next_leaves h is = by_closed h.closed refl
  where
    by_closed : (b : Bool) → h.closed ≡ b → Leaves (cond b (None, h) (by_later h.later h))
    by_closed true e =
        record { passed = is; little = λ given living. absurd (let both : true ≡ false = sym e ∙ living in cc) }
    by_closed false e = by_keys h h.later refl is

answered_passed : (h : Held) (asked : Option Form) (reply : Reply)
    → IsPassed h.skipped_block h.unread
    → IsPassed (answered_by asked h reply).skipped_block (answered_by asked h reply).unread
answered_passed h None reply is = is
answered_passed h (Some form) reply is = is

refused_passed : (h : Held) (asked : Option Form)
    → IsPassed h.skipped_block h.unread
    → IsPassed (refusal_by asked h).skipped_block (refusal_by asked h).unread
refused_passed h None is = is
refused_passed h (Some form) is = is

acted_passed : (run : Run) (session_call : SessionCall)
    → IsPassed run.held.skipped_block run.held.unread
    → IsPassed (acted run session_call).held.skipped_block (acted run session_call).held.unread
acted_passed run (Feed piece) is = fed_passed run.held piece is
acted_passed run Next is = (next_leaves run.held is).passed
acted_passed run (Answer reply) is = answered_passed run.held run.held.asked reply is
acted_passed run RefuseCall is = refused_passed run.held run.held.asked is
acted_passed run (Take n) is = is

passed_along : (run : Run) → IsRun run → IsPassed run.held.skipped_block run.held.unread
passed_along run Opens = tt
passed_along run (Acts earlier session_call is allowed) = acted_passed earlier session_call (passed_along earlier is)

-- along every run an open session with no turn to give holds less than a line and the largest block
pub holds_little : (run : Run)
    → IsRun run
    → (next_of run.held).0 ≡ None
    → (next_of run.held).1.closed ≡ false
    → length (next_of run.held).1.unread < line_limit + limit + 2
holds_little run is = (next_leaves run.held (passed_along run is)).little
