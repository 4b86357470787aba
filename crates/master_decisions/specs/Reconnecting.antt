-- How long a watch waits before it connects to its server again (this project's rule).
use Rattle.std.specs.Prelude.{ℕ, ◌-◌, min, Option, None, Some}
use Rattle.master_decisions.specs.declared.reconnecting.TheConstants.{LONGEST_PAUSE}

-- what lies at least between two connections to a server: a beat, or the longest pause
abbrev pub pause_of_beat : ℕ → ℕ
pause_of_beat beat = min beat LONGEST_PAUSE

-- how long it waits; the second argument is for how long the last connection was accepted, if one was
abbrev pub pause_before : ℕ → Option ℕ → ℕ
pause_before beat None = 0
pause_before beat (Some passed) = pause_of_beat beat - passed
