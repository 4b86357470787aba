-- What a connection has taken after a try.
use Rattle.std.specs.Prelude.{ℕ, List, [], take, Option, Some, None}

-- the bytes that it took, of those that it was given: as many of the first as it answers, and none if it has failed
abbrev pub taken_of : Option ℕ → List ℕ → List ℕ
taken_of (Some n) bytes = take n bytes
taken_of None bytes = []
