-- A run in which servers whose steps are refused have failed: one event more, which happens or is refused.
use Rattle.std.proofs.Common.{◌≡◌, ℕ, zero, suc, ◌+◌, ◌<◌, ◌≤◌, Bool, true, false, not, ◌&&◌, cond, List, [], ◌∷◌, ◌++◌}
use Rattle.std.proofs.Common.{length, take, get_or, Option, None, Some, refl, sym, ap, subst, ◌∙◌, inl, inr, arith}
use Rattle.std.specs.Prelude.{slice_get, slice_set}
use Rattle.std.proofs.lemmas.Bool.{and_parts}
use Rattle.std.proofs.lemmas.List.{length-set, length-take-le, set-append_left, take-append-le}
use Rattle.std.proofs.lemmas.Option.{slice_get_within, same_Some}
use Rattle.table.specs.declared.operations.Call.{Call}
use Rattle.world.specs.declared.events.Event.{Event}
use Rattle.world.specs.declared.events.Event.TheVariants.{Piece, Begin, Work, Deliver, Fail, Tell, Hand}
use Rattle.world.specs.Connections.{Connection, to_work}
use Rattle.world.specs.Links.{is_empty}
use Rattle.world.specs.Worlds.{World, link, lives, has_failed, happens, run_from}
use Rattle.world.specs.Transcripts.{TranscriptShown, transcript_of}
use Rattle.world.specs.Refusals.{takes_call, works_at, steps_at, with_failures, RiseFrom, WouldStep}
use Rattle.world.specs.LivingParts.{living_part, Comes, IsFailingRun}
use Rattle.node.proofs.Lists.{get_front, get_last, pushed_cases}
use Rattle.world.proofs.moments.Moments.{run-append, taken_more}
use Rattle.world.proofs.failures.LivingLaws.{alike_happen, alike_step, alike_shown}

-- ---- who steps lives

home_steps : (home s : ℕ) (o : Option Call) → takes_call home o ≡ Some s → home ≡ s
home_steps home s None h = absurd cc
home_steps home s (Some call) h = same_Some home s h

tested : (b : Bool) (o : Option ℕ) (s : ℕ) → cond b o None ≡ Some s → (b ≡ true) × (o ≡ Some s)
tested true o s h = (refl, h)
tested false o s h = absurd cc

works_alive : (w : World) (o : Option Connection) (s : ℕ) → works_at w o ≡ Some s → lives w s ≡ true
works_alive w None s h = absurd cc
works_alive w (Some k) s h =
    let t = tested (lives w k.home) (takes_call k.home (to_work k.stage k)) s h in
    ap (lives w) (sym (home_steps k.home s (to_work k.stage k) t.1)) ∙ t.0

stepper_lives : (w : World) (e : Event) (s : ℕ) → steps_at w e ≡ Some s → lives w s ≡ true
stepper_lives w (Piece c bytes) s h = absurd cc
stepper_lives w (Begin c) s h = absurd cc
stepper_lives w (Work c) s h = works_alive w (slice_get w.connections c) s h
stepper_lives w (Deliver i j) s h =
    let t = tested (lives w j && not (is_empty (link w i j))) (Some j) s h in
    ap (lives w) (sym (same_Some j s t.1)) ∙ (and_parts (lives w j) (not (is_empty (link w i j))) t.0).0
stepper_lives w (Fail i) s h = absurd cc
stepper_lives w (Tell i j) s h =
    let t = tested (lives w i && has_failed w j) (Some i) s h in
    ap (lives w) (sym (same_Some i s t.1)) ∙ (and_parts (lives w i) (has_failed w j) t.0).0
stepper_lives w (Hand c) s h = absurd cc

-- ---- events with failures

-- with failures in place of some events there are as many events
pub length-failures : (es : List Event) (rs : List (ℕ × ℕ)) → length (with_failures es rs) ≡ length es
length-failures es [] = refl
length-failures es ((k, s) ∷ rs) = length-failures (slice_set es k (Fail s)) rs ∙ length-set es k (Fail s)

-- the named ordinals are below this one
abbrev Below : ℕ → List (ℕ × ℕ) → Type 0
Below n rs = (m : ℕ) (p : ℕ × ℕ) → slice_get rs m ≡ Some p → p.0 < n

one_event_more : (es : List Event) (e : Event) (rs : List (ℕ × ℕ)) → Below (length es) rs
    → with_failures (es ++ e ∷ []) rs ≡ with_failures es rs ++ e ∷ []
one_event_more es e [] below = refl
one_event_more es e ((k, s) ∷ rs) below =
    ap (λ fs. with_failures fs rs) (set-append_left es (e ∷ []) k (Fail s) (below 0 (k, s) refl))
    ∙ one_event_more (slice_set es k (Fail s)) e rs
    (λ m p h. let l = below (suc m) p h in omega (arith, l, length-set es k (Fail s)))

one_failure_more : (es : List Event) (k s : ℕ) (rs : List (ℕ × ℕ))
    → with_failures es (rs ++ (k, s) ∷ []) ≡ slice_set (with_failures es rs) k (Fail s)
one_failure_more es k s [] = refl
one_failure_more es k s ((j, i) ∷ rs) = one_failure_more (slice_set es j (Fail i)) k s rs

set_last : (es : List Event) (e f : Event) → slice_set (es ++ e ∷ []) (length es) f ≡ es ++ f ∷ []
set_last [] e f = refl
set_last (x ∷ es) e f = ap (λ fs. x ∷ fs) (set_last es e f)

rise_more : (least k s : ℕ) (rs : List (ℕ × ℕ)) → RiseFrom least rs → least ≤ k → Below k rs
    → RiseFrom least (rs ++ (k, s) ∷ [])
rise_more least k s [] rise low below = (low, tt)
rise_more least k s ((j, i) ∷ rs) rise low below = (
  rise.0,
  rise_more (j + 1) k s rs rise.1 (let l : j < k = below 0 (j, i) refl in omega arith)
      (λ m p h. below (suc m) p h),
)

take_front : (es : List Event) (f : Event) → take (length es) (es ++ f ∷ []) ≡ es
take_front [] f = refl
take_front (x ∷ es) f = ap (λ fs. x ∷ fs) (take_front es f)

-- ---- one event more

module _ (w : World) (past : List Event) (rs : List (ℕ × ℕ)) (u : World) (run : IsFailingRun w past rs u)
    (e : Event) where
  abbrev done : List Event
  done = with_failures past rs

  below : Below (length past) rs
  below m p h = let would = run.stepped m p h in slice_get_within past p.0 would.event would.here

  -- what was known of an earlier ordinal still is, whatever comes at the end
  along : (rs' : List (ℕ × ℕ)) (f : Event) → with_failures (past ++ e ∷ []) rs' ≡ done ++ f ∷ []
      → (p : ℕ × ℕ) → WouldStep w past rs p.0 p.1 → WouldStep w (past ++ e ∷ []) rs' p.0 p.1
  along rs' f is p would =
      let inside : p.0 ≤ length done = omega
      (arith, slice_get_within past p.0 would.event would.here, length-failures past rs) in
      let same = ap (take p.0) is ∙ take-append-le p.0 done (f ∷ []) inside in
      record {
        event = would.event;
        here = get_front past (e ∷ []) p.0 would.event would.here;
        steps = ap (λ (fs : List Event). steps_at (run_from w fs) would.event) same ∙ would.steps;
        lives = ap (λ (fs : List Event). lives (run_from w fs) p.1) same ∙ would.lives;
      }

  happened_more : with_failures (past ++ e ∷ []) rs ≡ done ++ e ∷ []
  happened_more = one_event_more past e rs below

  -- it happens
  pub happened : (v : World) → v ≡ happens u e → IsFailingRun w (past ++ e ∷ []) rs v
  happened v is = record {
    same =
        ap living_part is ∙ alike_happen u (run_from w done) e run.same
        ∙ ap living_part (sym (run-append done (e ∷ []) w))
        ∙ ap (λ (fs : List Event). living_part (run_from w fs)) (sym happened_more);
    rise = run.rise;
    stepped = λ m p h. along rs e happened_more p (run.stepped m p h);
  }

  abbrev with_this : ℕ → List (ℕ × ℕ)
  with_this s = rs ++ (length past, s) ∷ []

  refused_more : (s : ℕ) → with_failures (past ++ e ∷ []) (with_this s) ≡ done ++ Fail s ∷ []
  refused_more s =
      one_failure_more (past ++ e ∷ []) (length past) s rs
      ∙ ap (λ fs. slice_set fs (length past) (Fail s)) happened_more
      ∙ ap (λ n. slice_set (done ++ e ∷ []) n (Fail s)) (sym (length-failures past rs))
      ∙ set_last done e (Fail s)

  this : (s : ℕ) → steps_at u e ≡ Some s → WouldStep w (past ++ e ∷ []) (with_this s) (length past) s
  this s steps =
      let front = ap (take (length past)) (refused_more s)
      ∙ ap (λ n. take n (done ++ Fail s ∷ [])) (sym (length-failures past rs)) ∙ take_front done (Fail s) in
      let there = sym (alike_step u (run_from w done) e run.same) ∙ steps in
      record {
        event = e;
        here = get_last past e;
        steps = ap (λ (fs : List Event). steps_at (run_from w fs) e) front ∙ there;
        lives = ap (λ (fs : List Event). lives (run_from w fs) s) front ∙ stepper_lives (run_from w done) e s there;
      }

  -- its step is refused
  pub refused : (s : ℕ) (v : World) → steps_at u e ≡ Some s → living_part v ≡ living_part (happens u (Fail s))
      → IsFailingRun w (past ++ e ∷ []) (with_this s) v
  refused s v steps is = record {
    same =
        is ∙ alike_happen u (run_from w done) (Fail s) run.same
        ∙ ap living_part (sym (run-append done (Fail s ∷ []) w))
        ∙ ap (λ (fs : List Event). living_part (run_from w fs)) (sym (refused_more s));
    rise = rise_more 0 (length past) s rs run.rise (omega arith) below;
    stepped = λ m p h. elim (pushed_cases rs (length past, s) m p h) [
      | inl old ↦ along (with_this s) (Fail s) (refused_more s) p (run.stepped m p old)
      | inr new ↦ subst (λ (q : ℕ × ℕ). WouldStep w (past ++ e ∷ []) (with_this s) q.0 q.1) (sym new.1) (this s steps)
    ];
  }

-- no event yet
pub not_begun : (w : World) → IsFailingRun w [] [] w
not_begun w = record { same = refl; rise = tt; stepped = λ m p h. absurd cc }

-- the ordinals and servers so far, with this one
abbrev pub noted : ℕ → List (ℕ × ℕ) → Option ℕ → List (ℕ × ℕ)
noted k rs None = rs
noted k rs (Some s) = rs ++ (k, s) ∷ []

comes_more : (w : World) (past : List Event) (rs : List (ℕ × ℕ)) (u v : World) (e : Event) → IsFailingRun w past rs u
    → (r : Option ℕ) → Comes u e r v → IsFailingRun w (past ++ e ∷ []) (noted (length past) rs r) v
comes_more w past rs u v e run None is = happened w past rs u run e v is
comes_more w past rs u v e run (Some s) came = refused w past rs u run e s v came.0 came.1

-- the next event of these
pub one_more : (w : World) (es : List Event) (k : ℕ) (e : Event) (rs rs' : List (ℕ × ℕ)) (u v : World) (r : Option ℕ)
    → k < length es → e ≡ get_or es k e
    → IsFailingRun w (take k es) rs u → Comes u e r v → rs' ≡ noted k rs r → IsFailingRun w (take (k + 1) es) rs' v
one_more w es k e rs rs' u v r inside at run came is =
    let long : length (take k es) ≡ k = length-take-le k es (omega arith) in
    let all : take k es ++ e ∷ [] ≡ take (k + 1) es = sym (taken_more es k e (standing es k e inside at))
    ∙ ap (λ n. take n es) (let n : suc k ≡ k + 1 = omega arith in n) in
    subst (λ (past : List Event). IsFailingRun w past rs' v) all
    (subst (λ (rs : List (ℕ × ℕ)). IsFailingRun w (take k es ++ e ∷ []) rs v) (ap (λ n. noted n rs r) long ∙ sym is)
    (comes_more w (take k es) rs u v e run r came))
  where
    standing : (es : List Event) (k : ℕ) (e : Event) → k < length es → e ≡ get_or es k e → slice_get es k ≡ Some e
    standing [] k e inside at = absurd (omega arith)
    standing (x ∷ es) zero e inside at = ap Some (sym at)
    standing (x ∷ es) (suc k) e inside at = standing es k e (omega arith) at

-- what is shown of the world at the end
pub failing_shown : (w v : World) → v ≡ w → (es : List Event) (rs : List (ℕ × ℕ)) (u : World) (t : TranscriptShown)
    → IsFailingRun v es rs u → t ≡ transcript_of u
    → t ≡ transcript_of (run_from w (with_failures es rs))
failing_shown w v start es rs u t run is =
    is ∙ alike_shown u (run_from v (with_failures es rs)) run.same
    ∙ ap (λ (x : World). transcript_of (run_from x (with_failures es rs))) start
