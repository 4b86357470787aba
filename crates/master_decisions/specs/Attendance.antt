-- Whom a master that beats hears (this project's rule).
use Rattle.std.specs.Prelude.{ℕ, ◌-◌, max, nat_eq, nat_le, nat_lt, Bool, false, not, ◌&&◌, if◌then◌else◌}
use Rattle.std.specs.Prelude.{Option, None, Some}
use Rattle.master_decisions.specs.ServerSets.{and_one, is_among}
use Rattle.master_decisions.specs.declared.attendance.Attendance.{Attendance}

-- the master has another epoch
abbrev pub begun : Attendance → ℕ → ℕ → Attendance
begun a epoch now = record a { epoch = epoch; since = now; entered = 0; missed = 0 }

-- a server told that it is in this epoch
abbrev pub attended : Attendance → ℕ → ℕ → ℕ → Attendance
attended a i epoch now = record a {
  heard = max a.heard now;
  is_told = false;
  entered = (if nat_eq a.epoch epoch then and_one a.entered i else a.entered);
}

-- it told before that it is in this epoch, which is the master's
abbrev pub has_entered : Attendance → ℕ → ℕ → Bool
has_entered a i epoch = (nat_lt 0 epoch && nat_eq a.epoch epoch) && is_among a.entered i

-- the epoch has stood for so long, and this server didn't tell that it is in it
abbrev pub is_absent : Attendance → ℕ → ℕ → ℕ → Bool
is_absent a i patience now =
    (nat_lt 0 a.epoch && nat_le patience (now - a.since)) && not (is_among a.entered i)

-- nobody was heard for so long, and that wasn't told
abbrev pub is_quiet : Attendance → ℕ → ℕ → Bool
is_quiet a patience now = not a.is_told && nat_le patience (now - a.heard)

-- it looked for the last time so long ago: it stood still
abbrev pub is_late : Attendance → ℕ → ℕ → Bool
is_late a patience now = nat_le patience (now - a.looked)

-- for how long it stood still, if it did
abbrev pub pause_of : Attendance → ℕ → ℕ → Option ℕ
pause_of a patience now = if is_late a patience now then Some (now - a.looked) else None

-- it looks; if it stood still, the times for which it doesn't hear servers begin now
abbrev pub looked_at : Attendance → ℕ → ℕ → Attendance
looked_at a patience now = record a {
  since = (if is_late a patience now then max a.since now else a.since);
  heard = (if is_late a patience now then max a.heard now else a.heard);
  looked = now;
}
