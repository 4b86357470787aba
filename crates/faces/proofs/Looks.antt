-- What a look from a place tells, once the place was left.
use Rattle.std.proofs.Common.{◌≡◌, ◌∙◌, ap, sym, inl, inr, List, [], ◌∷◌, ◌++◌, IfOk, OnOk}
use Rattle.std.proofs.lemmas.Result.{IfOk-weaker}
use Rattle.std.specs.declared.result.Result.{Result}
use Rattle.node.specs.Faces.{FaceState}
use Rattle.faces.specs.declared.boards.BoardKnowledge.{BoardKnowledge}
use Rattle.faces.specs.Histories.{History, IsLater, shown_after}
use Rattle.faces.specs.Shown.{Shown}
use Rattle.faces.specs.Boards.{IsShownBy, Knows}
use Rattle.faces.specs.Readers.{HasLookedAtMostOnce}

-- it knows whose face it saw
pub knows_after : (w u : BoardKnowledge) (stood before after : History)
    → u ≡ w
    → Knows w stood.instance
    → stood.instance ≡ before.instance
    → IsLater before after
    → Knows u after.instance
knows_after w u stood before after left knows same later = (
  ap (λ (v : BoardKnowledge). v.knows) left ∙ knows.0,
  ap (λ (v : BoardKnowledge). v.instance) left ∙ (knows.1 ∙ (same ∙ sym later.instance)),
)

-- the answer is the look at the face that stood
pub found_after : {L E : Type 0} (r : Result L E) (look_in : FaceState → L) (face : Shown) (after : History)
    → IsShownBy face
    → IfOk r (λ look. (look ≡ look_in face.face) × (after ≡ face.history))
    → IfOk r (λ look. look ≡ look_in (shown_after after))
found_after r look_in face after shown found =
    IfOk-weaker r (λ look. (look ≡ look_in face.face) × (after ≡ face.history))
    (λ look. look ≡ look_in (shown_after after))
    (λ look h. h.0 ∙ (ap look_in shown ∙ ap (λ (c : History). look_in (shown_after c)) (sym h.1))) found

-- the place has seen one history more
pub seen_after : (old : List History) (w u : BoardKnowledge) (stood : History) (face : Shown)
    → u ≡ w
    → w.histories ≡ old ++ stood ∷ []
    → face.history ≡ stood
    → u.histories ≡ old ++ face.history ∷ []
seen_after old w u stood face left histories same =
    ap (λ (v : BoardKnowledge). v.histories) left ∙ (histories ∙ ap (λ (c : History). old ++ c ∷ []) (sym same))

-- and it is the one after which the answer is
pub looked_after : {L E : Type 0} (r : Result L E) (F : L → Type 0) (old : List History) (u : BoardKnowledge)
    (stood after : History)
    → u.histories ≡ old ++ stood ∷ []
    → IfOk r (λ look. F look × (after ≡ stood))
    → OnOk r (u.histories ≡ old ++ after ∷ [])
looked_after r F old u stood after histories found =
    IfOk-weaker r (λ look. F look × (after ≡ stood)) (λ _. u.histories ≡ old ++ after ∷ [])
    (λ look h. histories ∙ ap (λ (c : History). old ++ c ∷ []) (sym h.1)) found

-- a place that found no face has seen what it had
pub never_looked : (v w : BoardKnowledge) → w ≡ v → HasLookedAtMostOnce v.histories w.histories
never_looked v w same = inl (ap (λ (k : BoardKnowledge). k.histories) same)

-- one that found a face has seen one history more
pub once_looked : (old : List History) (w u : BoardKnowledge) (stood : History) → u ≡ w → w.histories ≡ old ++ stood ∷ []
    → HasLookedAtMostOnce old u.histories
once_looked old w u stood left histories = inr (stood, ap (λ (k : BoardKnowledge). k.histories) left ∙ histories)
