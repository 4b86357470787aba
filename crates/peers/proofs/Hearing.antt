-- How frames are heard, one after another.
use Rattle.std.proofs.Common.{◌≡◌, ℕ, List, [], ◌∷◌, ◌++◌, refl, sym, ap, subst, ◌∙◌, append_assoc}
use Rattle.std.proofs.Common.{append-nil}
use Rattle.wire.specs.declared.frames.Frame.{Frame}
use Rattle.peers.specs.Links.{AreHeard, HasHeard}

-- frames after others
are_heard : {V : Type 0} (hears : V → Frame → V → Type 0) (u v w : V) (fs gs : List Frame) → AreHeard hears u fs v
    → AreHeard hears v gs w → AreHeard hears u (fs ++ gs) w
are_heard hears u v w [] gs e h = subst (λ x. AreHeard hears x gs w) e h
are_heard hears u v w (f ∷ fs) gs t h = (t.0, t.1, are_heard hears t.0 v w fs gs t.2 h)

module _ {V : Type 0} (hears misses : V → Frame → V → Type 0) (taken : V → List Frame) where
  -- nothing was heard
  pub heard_none : (v : V) → HasHeard hears misses taken 0 v v
  heard_none v =
      record { frames = []; last = v; grown = sym (append-nil (taken v)); heard = refl; refused = refl }

  -- more was heard
  pub heard_on : (n : ℕ) (u v w : V) → HasHeard hears misses taken 0 u v → HasHeard hears misses taken n v w
      → HasHeard hears misses taken n u w
  heard_on n u v w a b = record {
    frames = a.frames ++ b.frames;
    last = b.last;
    grown = b.grown ∙ (ap (λ fs. fs ++ b.frames) a.grown ∙ append_assoc (taken u) a.frames b.frames);
    heard = are_heard hears u v b.last a.frames b.frames
        (subst (λ x. AreHeard hears u a.frames x) (sym a.refused) a.heard) b.heard;
    refused = b.refused;
  }

  -- a frame more was heard
  pub heard_one : (u v w : V) (f : Frame) → HasHeard hears misses taken 0 u v → taken w ≡ taken v ++ f ∷ []
      → hears v f w → HasHeard hears misses taken 0 u w
  heard_one u v w f a grown h = heard_on 0 u v w a
      (record { frames = f ∷ []; last = w; grown = grown; heard = (w, h, refl); refused = refl })

  -- a frame was refused, the last one
  pub heard_last : (n : ℕ) (u v w : V) (f : Frame) → n ≡ 1 → HasHeard hears misses taken 0 u v → taken w ≡ taken v
      → misses v f w → HasHeard hears misses taken n u w
  heard_last n u v w f one a same h =
      let last : HasHeard hears misses taken 1 v w =
      record { frames = []; last = v; grown = same ∙ sym (append-nil (taken v)); heard = refl; refused = (f, h) } in
      subst (λ m. HasHeard hears misses taken m u w) (sym one) (heard_on 1 u v w a last)

  -- no frame was refused, by what was answered
  pub heard_still : (n : ℕ) (u w : V) → n ≡ 0 → HasHeard hears misses taken 0 u w → HasHeard hears misses taken n u w
  heard_still n u w none a = subst (λ m. HasHeard hears misses taken m u w) (sym none) a
