-- A peer that is read piece by piece.
use Rattle.std.specs.Prelude.{ℕ, List, [], Bool, true, false, ⊤}
use Rattle.wire.specs.declared.ends.PeerEnd.TheVariants.{Input}
use Rattle.wire.specs.Ends.{IsEnd}
use Rattle.peers.specs.declared.peer_readers.HandedOn.{HandedOn}
use Rattle.peers.specs.declared.peer_readers.HandedOn.TheVariants.{All, Part, End}

-- What has come of it and isn't handed on, and whether it goes on.
pub record Reading : Type 0 where
  pub unread : List ℕ
  pub goes_on : Bool

-- nothing has come
abbrev pub unread : Reading
unread = record { unread = []; goes_on = true }

-- where it stopped handing on, before these bytes
abbrev pub StopsAt : HandedOn → List ℕ → Type 0
StopsAt All rest = IsEnd rest Input
StopsAt Part rest = ⊤
StopsAt (End end) rest = IsEnd rest end

-- whether the peer may go on then
abbrev pub goes_on : HandedOn → Bool
goes_on All = true
goes_on Part = true
goes_on (End end) = false
