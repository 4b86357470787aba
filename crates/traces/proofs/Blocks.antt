-- The blocks of events, one after another.
use Rattle.std.proofs.Common.{◌≡◌, ℕ, zero, suc, ◌+◌, List, [], ◌∷◌, ◌++◌, length, take, take_all, zip, None, Some}
use Rattle.std.proofs.Common.{Option, refl, ap, sym, ◌∙◌, arith, append_assoc, append-nil}
use Rattle.std.specs.Prelude.{flat_map, slice_get}
use Rattle.std.proofs.lemmas.Slice.Zip.{length-zip}
use Rattle.world.specs.declared.events.Event.{Event}
use Rattle.world.specs.declared.event_effects.EventEffect.{EventEffect}
use Rattle.traces.specs.Printing.{block, block_at}

-- without an effect there is no block
no_block : (count : ℕ) (event : Option Event) → block_at count event None ≡ []
unfolding block_at
no_block count None = refl
no_block count (Some event) = refl

-- what a further pair adds
one_more : (count : ℕ) (events : List Event) (event_effects : List EventEffect) (k : ℕ)
    → flat_map (block count) (take (suc k) (zip events event_effects))
    ≡ flat_map (block count) (take k (zip events event_effects))
    ++ block_at count (slice_get events k) (slice_get event_effects k)
unfolding block_at
one_more count [] event_effects zero = refl
one_more count [] event_effects (suc k) = refl
one_more count (e ∷ es) [] zero = refl
one_more count (e ∷ es) [] (suc k) = sym (no_block count (slice_get es k))
one_more count (e ∷ es) (d ∷ ds) zero = append-nil (block count (e, d))
one_more count (e ∷ es) (d ∷ ds) (suc k) =
    ap (λ rest. block count (e, d) ++ rest) (one_more count es ds k)
    ∙ sym (append_assoc (block count (e, d)) (flat_map (block count) (take k (zip es ds)))
    (block_at count (slice_get es k) (slice_get ds k)))

one_above : (k : ℕ) → k + 1 ≡ suc k
one_above k = omega arith

-- the same after a text
pub block_more : (front : List ℕ) (count : ℕ) (events : List Event) (event_effects : List EventEffect) (k : ℕ)
    → front ++ flat_map (block count) (take (k + 1) (zip events event_effects))
    ≡ (front ++ flat_map (block count) (take k (zip events event_effects)))
    ++ block_at count (slice_get events k) (slice_get event_effects k)
block_more front count events event_effects k =
    ap (λ n. front ++ flat_map (block count) (take n (zip events event_effects))) (one_above k)
    ∙ ap (λ text. front ++ text) (one_more count events event_effects k)
    ∙ sym (append_assoc front (flat_map (block count) (take k (zip events event_effects)))
    (block_at count (slice_get events k) (slice_get event_effects k)))

-- after the last event there are no more
pub all_blocks : (events : List Event) (event_effects : List EventEffect) (n : ℕ)
    → n ≡ length events
    → take n (zip events event_effects) ≡ zip events event_effects
all_blocks events event_effects n whole =
    take_all n (zip events event_effects) (omega (arith, length-zip events event_effects))

-- what a goal on the blocks of the first events may need
pub ruleset further = (block_more, all_blocks)
