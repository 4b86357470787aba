-- A schedule's moments: after its first k events stands a traced world, and each comes by moves of those before it.
use Rattle.std.proofs.Common.{◌≡◌, ℕ, zero, suc, ◌<◌, ◌≤◌, List, [], ◌∷◌, ◌++◌, take, Some, None, refl, arith, sym, ap}
use Rattle.std.proofs.Common.{◌∙◌, subst}
use Rattle.std.specs.Prelude.{slice_get}
use Rattle.std.proofs.lemmas.Option.{same_Some}
use Rattle.world.specs.declared.events.Event.{Event}
use Rattle.world.specs.Worlds.{World, happens, run_from}
use Rattle.world.proofs.trace.Traces.{Traced, outset}
use Rattle.world.proofs.trace.Layers.{Logged, Calling, Read, Lawful}
use Rattle.world.proofs.trace.Outsets.{count_outset, framed_outset, lawful_outset}
use Rattle.world.proofs.moments.Goings.{Laws, Goes, stays, goes_both}
use Rattle.world.proofs.moments.Happenings.{AllLawful, Reaches, happened}

-- a lawful world after each beginning of these events, each of which comes by moves of those before
pub record Moments (t : Traced) (events : List Event) : Type 0 where
  -- the traced world after the first k events
  pub at : ℕ → Traced
  pub start : at 0 ≡ t
  pub world : (k : ℕ) → (at k).world ≡ run_from t.world (take k events)
  pub lawful : (k : ℕ) → Lawful (at k)
  pub all : (k : ℕ) → AllLawful (at k).world
  pub goes : (j k : ℕ) → j ≤ k → Goes (at j) (at k)

-- t first, and then the others
abbrev first_then : Traced → (ℕ → Traced) → ℕ → Traced
first_then t at zero = t
first_then t at (suc k) = at k

world_then : (t : Traced) (e : Event) (es : List Event) (r : Reaches t (happens t.world e))
    (m : Moments r.after es) (k : ℕ)
    → (first_then t m.at k).world ≡ run_from t.world (take k (e ∷ es))
world_then t e es r m zero = refl
world_then t e es r m (suc k) = m.world k ∙ ap (λ w. run_from w (take k es)) r.world

lawful_then : (t : Traced) (e : Event) (es : List Event) (r : Reaches t (happens t.world e)) (m : Moments r.after es)
    → Lawful t
    → (k : ℕ)
    → Lawful (first_then t m.at k)
lawful_then t e es r m l zero = l
lawful_then t e es r m l (suc k) = m.lawful k

all_then : (t : Traced) (e : Event) (es : List Event) (r : Reaches t (happens t.world e)) (m : Moments r.after es)
    → AllLawful t.world
    → (k : ℕ)
    → AllLawful (first_then t m.at k).world
all_then t e es r m all zero = all
all_then t e es r m all (suc k) = m.all k

goes_on : (t : Traced) (e : Event) (es : List Event) (r : Reaches t (happens t.world e)) (m : Moments r.after es)
    → Lawful t
    → (j k : ℕ)
    → j ≤ k
    → Goes (first_then t m.at j) (first_then t m.at k)
goes_on t e es r m l zero zero h = stays t l
goes_on t e es r m l zero (suc k) h =
    goes_both t r.after (m.at k) r.goes (subst (λ u. Goes u (m.at k)) m.start (m.goes 0 k (omega arith)))
goes_on t e es r m l (suc j) zero h = absurd (omega (arith, h))
goes_on t e es r m l (suc j) (suc k) h = m.goes j k (omega (arith, h))

-- events from a lawful world on have their moments
pub moments : Laws → (events : List Event) (t : Traced) → Lawful t → AllLawful t.world → Moments t events
moments laws [] t l all =
    record {
      at = λ k. t;
      start = refl;
      world = λ k. (nothing_left k);
      lawful = λ k. l;
      all = λ k. all;
      goes = λ j k h. stays t l;
    }
  where
    nothing_left : (k : ℕ) → t.world ≡ run_from t.world (take k [])
    nothing_left zero = refl
    nothing_left (suc k) = refl
moments laws (e ∷ es) t l all =
    let r = happened laws t e l all in
    let m = moments laws es r.after (r.goes None).lawful (subst AllLawful (sym r.world) r.all) in
    record {
      at = first_then t m.at;
      start = refl;
      world = world_then t e es r m;
      lawful = lawful_then t e es r m l;
      all = all_then t e es r m all;
      goes = goes_on t e es r m l;
    }

-- ---- from moment to moment

-- a run of two lists of events is a run of the first, and then of the second
pub run-append : (es fs : List Event) (w : World) → run_from w (es ++ fs) ≡ run_from (run_from w es) fs
run-append [] fs w = refl
run-append (e ∷ es) fs w = run-append es fs (happens w e)

-- the first k + 1 events are the first k and the next one
pub taken_more : (es : List Event) (k : ℕ) (e : Event) → slice_get es k ≡ Some e → take (suc k) es ≡ take k es ++ e ∷ []
taken_more [] k e h = absurd cc
taken_more (x ∷ es) zero e h = ap (λ y. y ∷ []) (same_Some x e h)
taken_more (x ∷ es) (suc k) e h = ap (λ ys. x ∷ ys) (taken_more es k e h)

-- each event leads from moment to moment
pub next_world : (t : Traced) (events : List Event) (m : Moments t events) (k : ℕ) (e : Event)
    → slice_get events k ≡ Some e
    → (m.at (suc k)).world ≡ happens (m.at k).world e
next_world t events m k e at =
    m.world (suc k) ∙ ap (λ es. run_from t.world es) (taken_more events k e at)
    ∙ run-append (take k events) (e ∷ []) t.world ∙ ap (λ w. happens w e) (sym (m.world k))

-- ---- from the outset

-- each layer at the outset
pub record FirstLaws : Type 0 where
  pub logged : (n : ℕ) (homes : List ℕ) → n ≤ 16 → Logged (outset n homes)
  pub calling : (n : ℕ) (homes : List ℕ) → n ≤ 16 → Calling (outset n homes)
  pub read : (n : ℕ) (homes : List ℕ) → n ≤ 16 → Read (outset n homes)

-- by the laws of all layers a chain of at most 16 servers is lawful before any event
pub lawful_first : FirstLaws → (n : ℕ) (homes : List ℕ) → n ≤ 16 → Lawful (outset n homes)
lawful_first first n homes few =
    record {
      framed = framed_outset n homes few;
      logged = first.logged n homes few;
      calling = first.calling n homes few;
      read = first.read n homes few;
    }

-- by the laws of all layers each schedule has its moments
pub moments_of : Laws
    → FirstLaws
    → (n : ℕ) (homes : List ℕ) (events : List Event)
    → n ≤ 16
    → Moments (outset n homes) events
moments_of laws first n homes events few =
    moments laws events (outset n homes) (lawful_first first n homes few)
    (λ i l. lawful_outset n homes few i (subst (λ c. i < c) (count_outset n homes) l))
