use Rattle.std.proofs.Common.{◌*◌, suc, ap, sym, ◌∙◌}
use native.Mathlib.Nat.{pow-succ'}
use Rattle.hash_index.proofs.places.bucket_of.Goals as goal

-- twice a power of two is one
pub rest_of-at-requires : goal.rest_of-at-requires
rest_of-at-requires c =
    (suc c.requires.power.0, ap (λ n. 2 * n) c.requires.power.1 ∙ sym (pow-succ' 2 c.requires.power.0))
