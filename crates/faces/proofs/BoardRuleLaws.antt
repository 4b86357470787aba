-- Each step keeps the rule of the board.
use Rattle.std.proofs.Common.{◌≡◌, ◌≢◌, ℕ, true, true≢false, List, [], ◌∷◌, ◌++◌, set, sym, refl, ap, ◌∙◌, subst}
use Rattle.std.proofs.Common.{⊎_elim, fold}
use Rattle.std.proofs.Common.{Ok, Err, MatchResult}
use Rattle.std.proofs.lemmas.List.Elements.{All-nil, All-push, All-weaker}
use Rattle.std.specs.declared.result.Result.{Result}
use mathlib.Core.Option.{some, some-ne-none}
use lib.ListN.{get_elem?}
use Rattle.crossbeam_utils.specs.Register.{Admits, TurnsAt, Forks, Merges}
use Rattle.atomic_table.proofs.Lists.{at_set, at_snoc, set_again}
use Rattle.node.specs.declared.faces.FaceStep.{FaceStep}
use Rattle.node.specs.declared.faces.FaceStep.TheVariants as changes
use Rattle.node.specs.Faces.{face_changed, face_after_all, face_at, no_face}
use Rattle.faces.specs.declared.faces.Face.{Face}
use Rattle.faces.specs.declared.acts.Act.{Act}
use Rattle.faces.specs.declared.acts.Act.TheVariants.{Set, Clear}
use Rattle.faces.specs.declared.boards.BoardKnowledge.{BoardKnowledge}
use Rattle.faces.specs.Histories.{History, IsLater, shown_after}
use Rattle.faces.specs.Shown.{Shown, applied, acts_of, shown_first}
use Rattle.faces.specs.Boards.{newcomer, seated, IsShownBy, Fits, Keeps, Tells}
use Rattle.faces.proofs.Beginnings.{later_same, later_then}

-- this history fits each place
abbrev pub AllFit : History → List BoardKnowledge → Type 0
AllFit c views = (seat : ℕ) (v : BoardKnowledge) → get_elem? views seat ≡ some v → Fits c v

fit_set : (c : History) (views : List BoardKnowledge) (seat : ℕ) (w : BoardKnowledge)
    → Fits c w
    → AllFit c views
    → AllFit c (set views seat w)
fit_set c views seat w mine h j u e =
    ⊎_elim (λ (x : (j ≡ seat) × (w ≡ u)). subst (λ (y : BoardKnowledge). Fits c y) x.1 mine)
    (λ (x : (j ≢ seat) × (get_elem? views j ≡ some u)). h j u x.1) (at_set views seat j w u e)

fit_more : (c : History) (views : List BoardKnowledge) (w : BoardKnowledge)
    → Fits c w
    → AllFit c views
    → AllFit c (views ++ w ∷ [])
fit_more c views w new h j u e = ⊎_elim (λ (x : get_elem? views j ≡ some u). h j u x)
    (λ (is : w ≡ u). subst (λ (y : BoardKnowledge). Fits c y) is new) (at_snoc views w u j e)

fit_none : (c : History) → AllFit c []
fit_none c j u e = absurd (some-ne-none u (sym e))

-- a place that knows nothing, and one that has seen nothing
newcomer_fits : (c : History) → Fits c newcomer
newcomer_fits c = record { server = λ k. absurd (true≢false (sym k)); seen = All-nil (λ (d : History). IsLater d c) }

seated_fits : (c : History) (v : BoardKnowledge) → v.knows ≡ true → Fits c v → Fits c (seated v.instance)
seated_fits c v knows fits =
    record { server = λ k. fits.server knows; seen = All-nil (λ (d : History). IsLater d c) }

-- what fits a place still does once it is later
later_fits : (c d : History) (v : BoardKnowledge) → IsLater c d → Fits c v → Fits d v
later_fits c d v later fits = record {
  server = λ k. fits.server k ∙ sym later.instance;
  seen = All-weaker (λ (e : History). IsLater e c) (λ (e : History). IsLater e d)
      (λ (e : History) (before : IsLater e c). later_then e c d before later) v.histories fits.seen;
}

pub begins : (x : Face) → IsShownBy x → Keeps x (newcomer ∷ [])
begins x is = (is, fit_more x.history [] newcomer (newcomer_fits x.history) (fit_none x.history))

pub admits : Admits Keeps newcomer
admits x views h = (h.0, fit_more x.history views newcomer (newcomer_fits x.history) h.1)

-- the place has seen this history, once more
abbrev pub having_seen : BoardKnowledge → History → BoardKnowledge
having_seen v c = record { knows = true; instance = c.instance; histories = v.histories ++ c ∷ [] }

-- the face changes, to a later one of the same server
pub turns : (seat : ℕ) (v : BoardKnowledge) (x y : Face)
    → IsShownBy y
    → IsLater x.history y.history
    → TurnsAt Keeps seat v x y Tells
turns seat v x y shown later views h at =
    let c = y.history in
    let was : Fits c v = later_fits x.history c v later (h.1 seat v at) in
    let now : Fits c (having_seen v c) = record {
      server = λ k. refl;
      seen = All-push (λ (d : History). IsLater d c) v.histories c was.seen (later_same c);
    } in (
      having_seen v c,
      (
        shown,
        fit_set c views seat (having_seen v c) now (λ j u e. later_fits x.history c u later (h.1 j u e)),
      ),
      record { shown = shown; server = (refl, refl); same = was.server; histories = refl; later = was.seen },
    )

pub enters : (seat : ℕ) (v : BoardKnowledge) (x : Face) → TurnsAt Keeps seat v x x Tells
enters seat v x views h at = turns seat v x x h.0 (later_same x.history) views h at

pub forks : (seat : ℕ) (v : BoardKnowledge) → v.knows ≡ true → Forks Keeps seat v v (seated v.instance)
forks seat v knows x views h at =
    subst (λ (vs : List BoardKnowledge). Keeps x (vs ++ seated v.instance ∷ [])) (sym (set_again views seat v at))
    (h.0, fit_more x.history views (seated v.instance) (seated_fits x.history v knows (h.1 seat v at)) h.1)

pub merges : (seat : ℕ) (v : BoardKnowledge) (other : ℕ) (w : BoardKnowledge) → Merges Keeps seat v other w w newcomer
merges seat v other w x views h at apart there =
    let was : get_elem? views other ≡ some w =
    ⊎_elim (λ (t : (other ≡ seat) × (w ≡ w)). absurd (apart t.0))
    (λ (t : (other ≢ seat) × (get_elem? views other ≡ some w)). t.1) (at_set views seat other w w there) in (
      h.0,
      fit_set x.history (set views seat w) other newcomer (newcomer_fits x.history)
          (fit_set x.history views seat w (h.1 other w was) h.1),
    )

-- the acts of a change, one after another, do it
folded : (s : Shown) (steps : List FaceStep) (n : ℕ) (history : History)
    → fold applied s (acts_of steps n history)
    ≡ record { face = face_at n (face_after_all s.face steps); history = history }
folded s [] n history = refl
folded s (changes.Set key version ∷ xs) n history = folded (applied s (Set key version)) xs n history
folded s (changes.Clear number ∷ xs) n history = folded (applied s (Clear number)) xs n history

pub folded_by : (x : Face) (pending : List Act) (steps : List FaceStep) (n : ℕ) (history : History)
    → pending ≡ acts_of steps n history
    → fold applied x pending ≡ record { face = face_changed x.face steps n; history = history }
folded_by x pending steps n history acts = ap (fold applied x) acts ∙ folded x steps n history

-- the acts of a change make it of a face without versions
pub filled_by : (x : Shown) (acts : List Act) (steps : List FaceStep) (n : ℕ) (history : History)
    → x ≡ fold applied (record { face = no_face; history = history }) acts
    → acts ≡ acts_of steps n history
    → x ≡ shown_first steps n history
filled_by x acts steps n history is done =
    is ∙ (ap (fold applied (record { face = no_face; history = history })) done
    ∙ folded (record { face = no_face; history = history }) steps n history)

-- what is pending makes the face of the same server after the inputs that it says, no fewer than before
pub shows : (seat : ℕ) (v : BoardKnowledge) (x y : Face) (pending : List Act)
    → IsLater x.history (fold applied x pending).history
    → IsShownBy (fold applied x pending)
    → y ≡ fold applied x pending
    → TurnsAt Keeps seat v x y Tells
shows seat v x y pending later is next =
    turns seat v x y (subst (λ (z : Shown). IsShownBy z) (sym next) is)
    (subst (λ (z : Shown). IsLater x.history z.history) (sym next) later)

pub when_ok : {E T : Type 0} (r : Result T E) (t : T) (P : T → Type 0) (Q : E → Type 0)
    → r ≡ Ok t
    → MatchResult r P Q
    → P t
when_ok r t P Q is h = subst (λ s. MatchResult s P Q) is h

pub changed_face : (x z : Face) (pending : List Act) (steps : List FaceStep) (n : ℕ) (history : History)
    → x ≡ z
    → pending ≡ acts_of steps n history
    → face_changed z.face steps n ≡ shown_after history
    → IsShownBy (fold applied x pending)
changed_face x z pending steps n history same acts is =
    subst (λ (s : Shown). IsShownBy s) (sym (folded_by x pending steps n history acts))
    (ap (λ (y : Shown). face_changed y.face steps n) same ∙ is)

pub changed_later : (x z : Face) (pending : List Act) (steps : List FaceStep) (n : ℕ) (history : History)
    → x ≡ z
    → pending ≡ acts_of steps n history
    → IsLater z.history history
    → IsLater x.history (fold applied x pending).history
changed_later x z pending steps n history same acts later =
    subst (λ (s : Shown). IsLater x.history s.history) (sym (folded_by x pending steps n history acts))
    (subst (λ (s : Shown). IsLater s.history history) (sym same) later)

-- with nothing pending, what stands is no earlier
pub unchanged_later : (x : Face) (pending : List Act) → pending ≡ []
    → IsLater x.history (fold applied x pending).history
unchanged_later x pending none =
    subst (λ (acts : List Act). IsLater x.history (fold applied x acts).history) (sym none) (later_same x.history)

-- with the history that a publish was asked for
pub published_as : {E : Type 0} (r : Result History E) (F : History → Type 0) (b c : History)
    → b ≡ c
    → MatchResult r (λ p. F p × (p ≡ b)) (λ _. Unit {0})
    → MatchResult r (λ p. F p × (p ≡ c)) (λ _. Unit {0})
published_as (Ok p) F b c same h = (h.0, h.1 ∙ same)
published_as (Err e) F b c same h = tt

pub when_err : {E T : Type 0} (r : Result T E) (e : E) (P : T → Type 0) (Q : E → Type 0)
    → r ≡ Err e
    → MatchResult r P Q
    → Q e
when_err r e P Q is h = subst (λ s. MatchResult s P Q) is h
