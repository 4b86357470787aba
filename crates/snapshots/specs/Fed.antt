-- What a reader of frames has of the bytes that weren't read.
use Rattle.std.specs.Prelude.{◌≡◌, ◌⊎◌, ℕ, ◌+◌, ◌<◌, ◌≤◌, ◌^◌, List, length, take, drop, false}
use Rattle.wire.specs.Grammar.{IsMalformed, IsOld}
use Rattle.wire.specs.Streams.{Held}

-- no frame stands at the front, whatever comes
abbrev pub IsBad : List ℕ → Type 0
IsBad bytes = IsMalformed bytes ⊎ IsOld bytes

-- it was fed with the first `fed` of them, and has given the frame that the first `given` of these spell, if there are
-- any
pub record IsFed (frames : Held) (bytes : List ℕ) (fed given : ℕ) : Type 0 where
  pub has : frames ≡ record { unread = drop given (take fed bytes); closed = false }
  pub given_within : given ≤ fed
  pub fed_within : fed ≤ length bytes

-- so many bytes were read, the head first, if any; and those that have come are few enough to be counted
pub record IsPlaced (read unread : List ℕ) (place : ℕ) : Type 0 where
  pub counted : place ≡ length read
  pub few : length read + length unread < 2 ^ 63
