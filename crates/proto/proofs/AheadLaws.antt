-- Updates that are taken ahead are the first turns of the bytes that spell them, whatever bytes follow.
use Rattle.std.proofs.Common.{◌≡◌, ℕ, suc, ◌≤◌, Bool, true, false, cond, List, [], ◌∷◌, ◌++◌, length, take, drop}
use Rattle.std.proofs.Common.{Option}
use Rattle.std.proofs.Common.{None, Some, refl, sym, ap, subst, ◌∙◌, arith, append-nil, length-take-le}
use Rattle.std.proofs.lemmas.List.{drop-append-le}
use Rattle.std.proofs.Math.ListN.{drop_of_length-le}
use Rattle.table.specs.Operations.{is_update}
use Rattle.table.specs.declared.operations.Call.{Call}
use Rattle.table.specs.declared.operations.Target.TheVariants.{One, All}
use Rattle.table.specs.declared.operations.Op.TheVariants.{Delete as DeleteOp, Flush as FlushOp}
use Rattle.proto.specs.declared.skipped_blocks.SkippedBlock.{SkippedBlock}
use Rattle.proto.specs.declared.front.Found.TheVariants.{Request as Requested}
use Rattle.proto.specs.declared.requests.Request.{Request}
use Rattle.proto.specs.declared.requests.Request.TheVariants.{Store, Get, Arith, Delete, Flush, Quit, Bad}
use Rattle.proto.specs.Fronts.{Front, front, refused_at, found_at, found_of, is_last}
use Rattle.proto.specs.Turns.{Calls, Turn, calls_of, form_of, turns_of}
use Rattle.proto.specs.Sessions.{Given, Held, by_found, by_later, by_request, by_skipped_block, next_of}
use Rattle.proto.specs.Streams.{turns, turns_before}
use Rattle.proto.specs.Ahead.{AreAhead, IsBetween, update_of}
use Rattle.proto.proofs.RequestLaws.{takes}
use Rattle.proto.proofs.GrammarLaws.{found_is_spelled, spelled_is_found, whole_stays_whole}
use Rattle.proto.proofs.StreamLaws.{turns_more}

-- what is found is the request at the front
found_front : (bytes : List ℕ) (request : Request) (n : ℕ) → found_at bytes ≡ Requested request n
    → front bytes ≡ Some (request, n)
found_front bytes request n e = by (front bytes) (refused_at bytes) e
  where
    by : (f : Front) (q : Option SkippedBlock) → found_of f q ≡ Requested request n → f ≡ Some (request, n)
    by (Some (r, m)) q is = cc
    by None (Some p) is = absurd cc
    by None None is = absurd cc

front_found : (bytes : List ℕ) (request : Request) (n : ℕ) → front bytes ≡ Some (request, n)
    → found_at bytes ≡ Requested request n
front_found bytes request n e = ap (λ f. found_of f (refused_at bytes)) e

-- it stays there, whatever bytes follow
found_stays : (bytes more : List ℕ) (request : Request) (n : ℕ) → found_at bytes ≡ Requested request n
    → found_at (bytes ++ more) ≡ Requested request n
found_stays bytes more request n e =
    front_found (bytes ++ more) request n (whole_stays_whole bytes more (request, n) (found_front bytes request n e))

-- the bytes that spell it are enough
found_alone : (bytes : List ℕ) (request : Request) (n : ℕ) → found_at bytes ≡ Requested request n
    → found_at (take n bytes) ≡ Requested request n
found_alone bytes request n e =
    let s = found_is_spelled bytes (request, n) (found_front bytes request n e) in
    let long : length (take n bytes) ≡ n = length-take-le n bytes s.0 in
    let at : front (take n bytes ++ []) ≡ Some (request, length (take n bytes)) =
    spelled_is_found request (take n bytes) [] s.2 in
    front_found (take n bytes) request n
    (ap front (sym (append-nil (take n bytes))) ∙ (at ∙ ap (λ m. Some (request, m)) long))

-- what one and the same update is
same_update : (c d : Call) (s t : Bool) → ◌≡◌ {A = Option (Call × Bool)} (Some (c, s)) (Some (d, t))
    → (c ≡ d) × (s ≡ t)
same_update c d s t e =
    let pair : ◌≡◌ {A = Call × Bool} (c, s) (d, t) = cc in
    (ap (λ (p : Call × Bool). p.0) pair, ap (λ (p : Call × Bool). p.1) pair)

as_turn : (c call : Call) (s silent : Bool) (later : List Turn)
    → ◌≡◌ {A = Option (Call × Bool)} (Some (c, s)) (Some (call, silent))
    → Calls c (form_of s) ∷ later ≡ Calls call (form_of silent) ∷ later
as_turn c call s silent later e =
    let same = same_update c call s silent e in
    ap (λ x. Calls x (form_of s) ∷ later) same.0 ∙ ap (λ b. Calls call (form_of b) ∷ later) same.1

as_given : (c call : Call) (s silent : Bool) (h : Held)
    → ◌≡◌ {A = Option (Call × Bool)} (Some (c, s)) (Some (call, silent))
    → ◌≡◌ {A = Given} (Some (Calls c (form_of s)), record h { asked = Some (form_of s) })
    (Some (Calls call (form_of silent)), record h { asked = Some (form_of silent) })
as_given c call s silent h e =
    let same = same_update c call s silent e in
    ap (λ x. (Some (Calls x (form_of s)), record h { asked = Some (form_of s) })) same.0
    ∙ ap (λ b. (Some (Calls call (form_of b)), record h { asked = Some (form_of b) })) same.1

-- an update is one turn, after which others may come
one_turn : (request : Request) (call : Call) (silent : Bool) (later : List Turn)
    → update_of request ≡ Some (call, silent)
    → turns_before request later ≡ Calls call (form_of silent) ∷ later
one_turn (Store key op s) call silent later e = as_turn (record { target = One key; op = op }) call s silent later e
one_turn (Get keys unique) call silent later e = absurd cc
one_turn (Arith key op s) call silent later e = as_turn (record { target = One key; op = op }) call s silent later e
one_turn (Delete key s) call silent later e = as_turn (record { target = One key; op = DeleteOp }) call s silent later e
one_turn (Flush s) call silent later e = as_turn (record { target = All; op = FlushOp }) call s silent later e
one_turn Quit call silent later e = absurd cc
one_turn (Bad fault) call silent later e = absurd cc

-- so it is the first call of the bytes
pub first_call : (bytes : List ℕ) (request : Request) (call : Call) (silent : Bool) (n : ℕ)
    → found_at bytes ≡ Requested request n → update_of request ≡ Some (call, silent)
    → calls_of (turns bytes) ≡ call ∷ calls_of (turns (drop n bytes))
first_call bytes request call silent n found is =
    ap (λ b. calls_of (turns b)) (sym (append-nil bytes))
    ∙ (ap calls_of (turns_more bytes [] (request, n) (found_front bytes request n found)
    ∙ one_turn request call silent (turns (drop n bytes ++ [])) is)
    ∙ ap (λ b. call ∷ calls_of (turns b)) (append-nil (drop n bytes)))

-- it is opened by a step of the session
by_update : (request : Request) (call : Call) (silent : Bool) (h : Held)
    → update_of request ≡ Some (call, silent)
    → by_request request h ≡ (Some (Calls call (form_of silent)), record h { asked = Some (form_of silent) })
by_update (Store key op s) call silent h e = as_given (record { target = One key; op = op }) call s silent h e
by_update (Get keys unique) call silent h e = absurd cc
by_update (Arith key op s) call silent h e = as_given (record { target = One key; op = op }) call s silent h e
by_update (Delete key s) call silent h e = as_given (record { target = One key; op = DeleteOp }) call s silent h e
by_update (Flush s) call silent h e = as_given (record { target = All; op = FlushOp }) call s silent h e
by_update Quit call silent h e = absurd cc
by_update (Bad fault) call silent h e = absurd cc

-- between two requests, what is found at the front comes next
next_between : (h : Held) (request : Request) (n : ℕ) → IsBetween h → found_at h.unread ≡ Requested request n
    → next_of h ≡ by_request request (record h { unread = drop n h.unread })
next_between h request n between at =
    ap (λ b. cond b (None, h) (by_later h.later h)) between.unclosed
    ∙ (ap (λ keys. by_later keys h) between.later
    ∙ (ap (λ q. by_skipped_block q h) between.skipped_block ∙ ap (λ f. by_found f h) at))

-- What a session gives next, if its unread bytes begin with those of updates that were taken ahead.
pub record GivesAhead (silent : Bool) (later : List Bool) (more : List ℕ) (h : Held) : Type 0 where
  pub call : Call
  pub bytes : List ℕ
  pub next : next_of h
      ≡ (Some (Calls call (form_of silent)), record h { unread = bytes ++ more; asked = Some (form_of silent) })
  pub update : is_update call.op ≡ true
  pub ahead : AreAhead later bytes

-- the oldest of the updates that were taken ahead is the next turn
pub next_ahead : (silent : Bool) (later : List Bool) (bytes more : List ℕ) (h : Held)
    → AreAhead (silent ∷ later) bytes → IsBetween h → h.unread ≡ bytes ++ more → GivesAhead silent later more h
next_ahead silent later bytes more h (request, call, n, found, is, update, ahead) between unread =
    let fits = takes bytes (request, n) (found_front bytes request n found) in
    let at : found_at h.unread ≡ Requested request n = ap found_at unread ∙ found_stays bytes more request n found in
    let left : drop n h.unread ≡ drop n bytes ++ more = ap (λ u. drop n u) unread
    ∙ drop-append-le n bytes more fits.most in
    record {
      call = call;
      bytes = drop n bytes;
      next = next_between h request n between at
          ∙ (by_update request call silent (record h { unread = drop n h.unread }) is
          ∙ ap (λ u. (
            Some (Calls call (form_of silent)),
            record h {
              unread = u;
              asked = Some
                  (form_of silent);
            },
          )) left);
      update = update;
      ahead = ahead;
    }

-- their calls are the first ones of all that is unread
pub calls_ahead : (silents : List Bool) (bytes : List ℕ) → AreAhead silents bytes
    → (calls : List Call) × (length calls ≡ length silents)
    × ((more : List ℕ) → calls_of (turns (bytes ++ more)) ≡ calls ++ calls_of (turns more))
calls_ahead [] bytes none = ([], refl, λ more. ap (λ b. calls_of (turns (b ++ more))) none)
calls_ahead (silent ∷ later) bytes (request, call, n, found, is, update, ahead) =
    let rest = calls_ahead later (drop n bytes) ahead in (
      call ∷ rest.0,
      ap suc rest.1,
      λ more. ap calls_of (turns_more bytes more (request, n) (found_front bytes request n found)
          ∙ one_turn request call silent (turns (drop n bytes ++ more)) is)
          ∙ ap (λ cs. call ∷ cs) (rest.2 more),
    )

-- one more update was taken from the front of what was left
pub one_more_ahead : (silents : List Bool) (bytes unread : List ℕ) (request : Request) (call : Call) (silent : Bool)
    (n : ℕ)
    → AreAhead silents bytes → found_at unread ≡ Requested request n → update_of request ≡ Some (call, silent)
    → is_update call.op ≡ true
    → AreAhead (silents ++ silent ∷ []) (bytes ++ take n unread)
one_more_ahead [] bytes unread request call silent n none found is update =
    let fits = takes unread (request, n) (found_front unread request n found) in
    subst (λ b. AreAhead (silent ∷ []) (b ++ take n unread)) (sym none) (
      request,
      call,
      n,
      found_alone unread request n found,
      is,
      update,
      drop_of_length-le (take n unread) (omega (arith, length-take-le n unread fits.most)),
    )
one_more_ahead (first ∷ later) bytes unread request call silent n (r, c, m, at, same, changes, ahead) found is update =
    let fits = takes bytes (r, m) (found_front bytes r m at) in (
      r,
      c,
      m,
      found_stays bytes (take n unread) r m at,
      same,
      changes,
      subst (AreAhead (later ++ silent ∷ [])) (sym (drop-append-le m bytes (take n unread) fits.most))
          (one_more_ahead later (drop m bytes) unread request call silent n ahead found is update),
    )
