-- What is written of a line that waits.
use Rattle.std.specs.Prelude.{◌≡◌, ℕ, ◌==◌, List, [], ◌++◌, codes, decimal, if◌then◌else◌}

-- how many lines were dropped, in a line of its own if some were
abbrev pub note_of : ℕ → List ℕ
note_of n =
    if n == 0 then []
    else (if n == 1 then codes "craq: 1 line was dropped\n"
    else codes "craq: " ++ decimal n ++ codes " lines were dropped\n")
