-- When a link's connection is given up, and when a link that stands still is told of (this project's rule). Times are
-- nanoseconds of one clock, which never goes back.
use Rattle.std.specs.Prelude.{ℕ, ◌-◌, ◌/◌, Bool, true, false, not, ◌&&◌, ◌||◌, nat_le, nat_lt, nat_eq, if◌then◌else◌}
use Rattle.link_streams.specs.declared.watches.Standing.{Standing}
use Rattle.link_streams.specs.declared.watches.LinkDue.{LinkDue}
use Rattle.link_streams.specs.declared.watches.LinkDue.TheVariants.{Nothing, Reopen, Stalled, Goes, GiveUp}

-- What is known of a link: how long a connection may take nothing, how many bytes it may keep, until when it went on as
-- far as is known, when its connection was opened, how many bytes were confirmed, whether the last look found it quiet,
-- and whether it was told that it stands still.
pub record Watching : Type 0 where
  pub timeout : ℕ
  pub most : ℕ
  pub since : ℕ
  pub opened : ℕ
  pub confirmed : ℕ
  pub is_quiet : Bool
  pub is_told : Bool

-- a link whose connection stands since now
abbrev pub begun : ℕ → ℕ → ℕ → Watching
begun timeout most now = record {
  timeout = timeout;
  most = most;
  since = now;
  opened = now;
  confirmed = 0;
  is_quiet = true;
  is_told = false;
}

-- it is quiet: a connection stands, and took nothing that isn't confirmed
abbrev pub is_quiet : Standing → Bool
is_quiet link = link.stands && nat_eq link.taken 0

-- it goes on: it is quiet, or a connection stands and more is confirmed than before
abbrev pub goes : Watching → Standing → Bool
goes w link = is_quiet link || (link.stands && nat_lt w.confirmed link.confirmed)

-- until when it went on: a quiet link until now, whenever the last look was
abbrev pub until : Watching → ℕ → ℕ
until w now = if w.is_quiet then now else w.since

-- for how long it has stood still
abbrev pub still : Watching → ℕ → ℕ
still w now = now - until w now

-- it has stood still for twice the time that a connection may take nothing
abbrev pub is_stalled : Watching → ℕ → Bool
is_stalled w now = nat_le w.timeout (still w now / 2)

-- its connection takes nothing for too long
abbrev pub is_over : Watching → Standing → ℕ → Bool
is_over w link now = link.stands && (nat_le w.timeout (still w now) && nat_le w.timeout (now - w.opened))

-- what is due
abbrev pub due : Watching → Standing → ℕ → LinkDue
due w link now =
    if nat_lt w.most link.kept then GiveUp
    else if goes w link then (if w.is_told then Goes (still w now) else Nothing)
    else if not w.is_told && is_stalled w now then Stalled (still w now)
    else if is_over w link now then Reopen
    else Nothing

-- what is known then
abbrev pub looked : Watching → Standing → ℕ → Watching
looked w link now =
    if nat_lt w.most link.kept then w
    else if goes w link then record w {
      since = now;
      confirmed = link.confirmed;
      is_quiet = is_quiet link;
      is_told = false;
    }
    else record w {
      since = until w now;
      confirmed = link.confirmed;
      is_quiet = false;
      is_told = w.is_told || is_stalled w now;
    }
