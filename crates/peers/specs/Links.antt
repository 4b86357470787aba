-- Links between servers: what a taker is handed, which frames are taken of the bytes that are read, and which side
-- fails.
use Rattle.std.specs.Prelude.{◌≡◌, ℕ, zero, suc, List, [], ◌∷◌, ◌++◌, Result, Ok, Err}
use Rattle.node.specs.Lawful.{IsBody}
use Rattle.wire.specs.declared.ends.PeerEnd.{PeerEnd}
use Rattle.wire.specs.declared.frames.Frame.{Frame}
use Rattle.wire.specs.declared.frames.Frame.TheVariants.{Hello, Peer, Gone, Introduction, Accepted, Refused, Noted}
use Rattle.wire.specs.declared.frames.Frame.TheVariants.{Reign, Beat, Alive, Silent, Confirmed, Stalled}
use Rattle.wire.specs.Streams.{frames_in}
use Rattle.wire.specs.Ends.{AreFirst, end_in}
use Rattle.peers.specs.declared.faults.LinkFault.{LinkFault}
use Rattle.peers.specs.declared.faults.LinkFault.TheVariants.{Memory, Read, Write, Take}

-- a frame's message, if it is one, may be given to a server
abbrev pub MayCome : Frame → Type 0
MayCome (Hello id) = Unit {0}
MayCome (Peer peer) = IsBody peer.body
MayCome (Gone id) = Unit {0}
MayCome (Introduction opener) = Unit {0}
MayCome (Accepted answer) = Unit {0}
MayCome (Refused reason) = Unit {0}
MayCome (Noted id) = Unit {0}
MayCome (Reign epoch) = Unit {0}
MayCome (Beat beat) = Unit {0}
MayCome (Alive alive) = Unit {0}
MayCome (Silent silent) = Unit {0}
MayCome (Confirmed count) = Unit {0}
MayCome (Stalled servers) = Unit {0}

-- all frames that stand in these bytes were taken, in order, and the bytes end so
pub record TakesAll (end : PeerEnd) (read : List ℕ) (before after : List Frame) : Type 0 where
  pub taken : after ≡ before ++ frames_in read
  pub ends_so : end_in read ≡ end

-- the first of the frames that stand in these bytes were taken, in order, and no others
pub record TakesBeginning (read : List ℕ) (before after : List Frame) : Type 0 where
  pub handed : List Frame
  pub later : List Frame
  pub all : frames_in read ≡ handed ++ later
  pub taken : after ≡ before ++ handed

-- the frames at the front of these bytes were taken, in order, and the rest stands after them
pub record TakesFirst (bytes rest : List ℕ) (before after : List Frame) : Type 0 where
  pub handed : List Frame
  pub first : AreFirst handed bytes rest
  pub taken : after ≡ before ++ handed

-- These frames were heard, one after another, and made of a taker's first value its last one.
abbrev pub AreHeard : {V : Type 0} → (V → Frame → V → Type 0) → V → List Frame → V → Type 0
AreHeard hears v [] w = w ≡ v
AreHeard {V} hears v (f ∷ fs) w = (u : V) × hears v f u × AreHeard hears u fs w

-- no frame was refused; or one was, and made of a taker's value another one
abbrev pub IsRefused : {V : Type 0} → (V → Frame → V → Type 0) → ℕ → V → V → Type 0
IsRefused misses zero v w = w ≡ v
IsRefused misses (suc n) v w = (f : Frame) × misses v f w

-- What was taken was heard, in order, and nothing else but the frame that was refused, if one was.
pub record HasHeard {V : Type 0} (hears misses : V → Frame → V → Type 0) (taken : V → List Frame) (failed : ℕ)
    (v w : V) : Type 0 where
  pub frames : List Frame
  pub last : V
  pub grown : taken w ≡ taken v ++ frames
  pub heard : AreHeard hears v frames last
  pub refused : IsRefused misses failed last w

-- how many reads more have failed, by what is answered
abbrev pub failed_reads : {X : Type 0} → Result X LinkFault → ℕ
failed_reads (Ok x) = 0
failed_reads (Err Memory) = 0
failed_reads (Err Read) = 1
failed_reads (Err Write) = 0
failed_reads (Err Take) = 0

-- the same of writes
abbrev pub failed_writes : {X : Type 0} → Result X LinkFault → ℕ
failed_writes (Ok x) = 0
failed_writes (Err Memory) = 0
failed_writes (Err Read) = 0
failed_writes (Err Write) = 1
failed_writes (Err Take) = 0

-- and of frames that weren't taken
abbrev pub failed_takes : {X : Type 0} → Result X LinkFault → ℕ
failed_takes (Ok x) = 0
failed_takes (Err Memory) = 0
failed_takes (Err Read) = 0
failed_takes (Err Write) = 0
failed_takes (Err Take) = 1
