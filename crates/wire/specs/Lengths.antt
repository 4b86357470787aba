-- How long a frame may be (this project's rule).
use Rattle.std.specs.Prelude.{ℕ}

-- The longest frame is an entry that puts 1,048,576 bytes on a key of 250 bytes and answers a number: 4 bytes of
-- format, kind and view, 17 of number, origin and id, 251 of the key, 9 of the reply, 9 of the change's code, flags and
-- length, and the data.
abbrev pub longest : ℕ
longest = 1048866
