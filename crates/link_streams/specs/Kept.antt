-- What a sender's end keeps of its stream.
use Rattle.std.specs.Prelude.{◌≡◌, ◌+◌, ◌≤◌, ◌<◌, ◌^◌, ℕ, List, length, drop}

-- Of the bytes that were put those are held that aren't confirmed. So many of them were taken by this connection, or
-- needn't be. Up to `most` some connection took them.
pub record IsKept (put held : List ℕ) (before n most : ℕ) : Type 0 where
  pub kept : held ≡ drop before put
  pub confirmed : before + length held ≡ length put
  pub taken : n ≤ length held
  pub reached : before + n ≤ most
  pub sent : most ≤ length put
  pub few : length put < 2 ^ 64
