-- A server's lease, and the rule by which a master calls the server gone: whatever became of beats, each look that the
-- server still answered was taken before another server was told.
use Rattle.std.specs.Prelude.{◌≡◌, ℕ, ◌+◌, ◌≤◌, ◌<◌}
use Rattle.leases.specs.Clocks.{Clock, NeverFalls, passed, IsSurelyOver}

-- A beat that a server took: of a master's epoch, which is a number. It brought back the stamp of an answer, which is
-- what the server's own clock had shown.
pub record Beat : Type 0 where
  pub epoch : ℕ
  -- the instant at which the server read its clock for that answer
  pub stamped : ℕ
  -- the instant at which the master read its clock, once it had the answer
  pub heard : ℕ
  -- the instant at which the server took the beat, however late
  pub taken : ℕ

-- What a server answered by its lease: a look was taken, and later the clock was read. When its answer was written
-- doesn't matter. A reply or a message that the server put out is one too: it was made up, and later the clock was
-- read.
pub record LeasedAnswer : Type 0 where
  pub taken : ℕ
  pub read : ℕ

-- A notice that the server is gone, as another server took it, of a master's epoch.
pub record Notice : Type 0 where
  pub epoch : ℕ
  -- the instant at which the master read its clock when it had heard the server for the last time
  pub heard : ℕ
  -- the instant at which it read its clock and found the lease surely over
  pub decided : ℕ
  -- the instant at which the other server took the notice
  pub told : ℕ

-- A server that is watched, and another one. Each is in one epoch at a time.
pub record Pair : Type 0 where
  -- what the watched server's clock shows
  pub clock : Clock
  -- the epoch that it is in, at each instant
  pub epoch : ℕ → ℕ
  -- the epoch that the other one is in
  pub other : ℕ → ℕ
  -- from this instant on the other one does nothing any more, whatever it is told
  pub end : ℕ

-- what holds of both by themselves: a clock doesn't go back, and epochs don't either
pub record IsSound (pair : Pair) : Type 0 where
  pub clock : NeverFalls pair.clock
  pub epoch : NeverFalls pair.epoch
  pub other : NeverFalls pair.other

-- The rule of notices, for a master whose clock this is.
pub record IsNoticeByRule (pair : Pair) (term : ℕ) (clock : Clock) (notice : Notice) : Type 0 where
  -- When the master heard the server for the last time, that one was in its epoch,
  pub entered : (x : ℕ) × ((pair.epoch x ≡ notice.epoch) × (x ≤ notice.heard))
  -- since then enough has passed on the master's clock that the term is surely over,
  pub over : IsSurelyOver term (passed clock notice.heard notice.decided)
  pub decided : notice.decided ≤ notice.told
  -- and a server takes notices of the epoch that it is in, as long as it goes on.
  pub own : pair.other notice.told ≡ notice.epoch
  pub lives : notice.told < pair.end

-- A server answers a look by a beat: its clock, read after the look, shows less than the term more than the stamp.
pub record IsAnswered (clock : Clock) (term : ℕ) (beat : Beat) (look : LeasedAnswer) : Type 0 where
  pub after : look.taken ≤ look.read
  pub held : clock look.read < clock beat.stamped + term

-- The rule of beats, for whom a beat is sent and taken.
pub record IsBeat (pair : Pair) (notice : Notice) (beat : Beat) : Type 0 where
  -- It brings back a stamp that its master has heard,
  pub stamped : beat.stamped ≤ beat.heard
  pub heard : beat.heard ≤ beat.taken
  -- and not later than it last heard the server before it called it gone.
  pub last : beat.epoch ≡ notice.epoch → beat.heard ≤ notice.heard
  -- A server takes the beats of the epoch that it is in.
  pub own : pair.epoch beat.taken ≡ beat.epoch

-- The rule of beats, for when one may bring back a stamp: the other server
pub data IsBeatByRule (pair : Pair) (term : ℕ) (notice : Notice) : Beat → Type 0 where
  -- was in the beat's epoch at some instant, and hadn't been told by then;
  Entered : (beat : Beat) → IsBeat pair notice beat
      → (x : ℕ) → pair.other x ≡ beat.epoch → x ≤ notice.told
      → IsBeatByRule pair term notice beat
  -- or it had ended before the watched one answered some look, by an earlier beat.
  Ended : (beat earlier : Beat) → IsBeatByRule pair term notice earlier
      → (look : LeasedAnswer) → IsAnswered pair.clock term earlier look → pair.end ≤ look.taken
      → IsBeatByRule pair term notice beat
