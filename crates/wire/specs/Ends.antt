-- What stands after the frames of a stream, and how it ends.
use Rattle.std.specs.Prelude.{◌≡◌, ℕ, zero, suc, List, [], ◌++◌, length, Ok, Err}
use Rattle.std.specs.List.{AllByRecursion, flat_map}
use Rattle.wire.specs.declared.ends.PeerEnd.{PeerEnd}
use Rattle.wire.specs.declared.ends.PeerEnd.TheVariants.{Input, Malformed, Old}
use Rattle.wire.specs.declared.fields.Stop.TheVariants as stops
use Rattle.wire.specs.declared.frames.Frame.{Frame}
use Rattle.wire.specs.Spellings.{IsFrame, spelling}
use Rattle.wire.specs.Fronts.{Read, front}
use Rattle.wire.specs.Streams.{frames_in}

-- these frames follow one another from the front, and the rest comes after them
pub record AreFirst (fs : List Frame) (bytes rest : List ℕ) : Type 0 where
  pub in_range : AllByRecursion IsFrame fs
  pub spelled : bytes ≡ flat_map spelling fs ++ rest

-- what stands after a frame at the front and those that follow it; with no frame there, all of it
abbrev pub behind : Read Frame → List ℕ → (List ℕ → List ℕ) → List ℕ
behind (Ok found) bytes later = later found.1
behind (Err stop) bytes later = bytes

-- what is left after the frames that follow one another from the front, at most n of them
abbrev pub rest_upto : ℕ → List ℕ → List ℕ
rest_upto zero bytes = bytes
rest_upto (suc k) bytes = behind (front bytes) bytes (rest_upto k)

-- what stands after the frames of a stream
abbrev pub rest_in : List ℕ → List ℕ
rest_in bytes = rest_upto (length bytes) bytes

-- what a front says of a stream that ends with it
abbrev pub end_at : Read Frame → PeerEnd
end_at (Ok found) = Input
end_at (Err (stops.Short more)) = Input
end_at (Err stops.Malformed) = Malformed
end_at (Err stops.Old) = Old

-- how a stream ends
abbrev pub end_in : List ℕ → PeerEnd
end_in bytes = end_at (front (rest_in bytes))

-- no frame stands at the front, and a stream that ends with these bytes ends so
pub record IsEnd (bytes : List ℕ) (end : PeerEnd) : Type 0 where
  pub no_frames : frames_in bytes ≡ []
  pub ends_so : end_in bytes ≡ end
