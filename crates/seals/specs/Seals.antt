-- A member's seal: whether it begins updates, which markers have come, and when it is idle (this project's rule).
use Rattle.std.specs.Prelude.{ℕ, zero, suc, nat_eq, nat_lt, Bool, true, false, not, ◌&&◌, List, replicate}
use Rattle.std.specs.Prelude.{slice_index_or, slice_set, Option, None, Some, if◌then◌else◌}
use Rattle.leases.specs.Sets.{has}
use Rattle.successions.specs.declared.orders.Phase.{Phase}
use Rattle.successions.specs.declared.orders.Phase.TheVariants.{Started, Serving, Sealed, Switched}
use Rattle.successions.specs.declared.orders.Standing.{Standing}
use Rattle.successions.specs.Decisions.{is_member}
use Rattle.seals.specs.declared.markers.Numbers.{Numbers}
use Rattle.seals.specs.declared.markers.Table.{Table}
use Rattle.seals.specs.declared.markers.Marker.{Marker}
use Rattle.seals.specs.declared.holds.Hold.{Hold}
use Rattle.seals.specs.declared.holds.Hold.TheVariants.{Open, Held, Fenced}

-- What a member knows of its seal.
pub record SealState : Type 0 where
  pub generation : ℕ
  -- its own id, and who the members of its generation are, as a set of ids
  pub id : ℕ
  pub members : ℕ
  -- how many threads take its clients' updates, numbered from 0 on
  pub threads : ℕ
  -- the epoch of its seal, or of its last one; 0 before the first
  pub epoch : ℕ
  pub hold : Hold
  -- the newest marker of each peer in this seal, by its id
  pub marks : List (Option Numbers)
  -- the threads whose marker of this seal was taken
  pub passed : List Bool
  -- the marker that it gave last in this seal
  pub sent : Option Numbers

-- no marker has come
abbrev pub no_marks : List (Option Numbers)
no_marks = replicate 16 None

abbrev pub none_passed : List Bool
none_passed = replicate 16 false

-- a member that begins updates
abbrev pub serving : ℕ → ℕ → ℕ → ℕ → SealState
serving generation id members threads = record {
  generation = generation;
  id = id;
  members = members;
  threads = threads;
  epoch = 0;
  hold = Open;
  marks = no_marks;
  passed = none_passed;
  sent = None;
}

-- ---- the hold

-- it begins updates
abbrev pub begins : Hold → Bool
begins Open = true
begins Held = false
begins Fenced = false

-- the markers of its seal count
abbrev pub is_fenced : Hold → Bool
is_fenced Open = false
is_fenced Held = false
is_fenced Fenced = true

-- it is in the seal of this epoch
abbrev pub is_in : SealState → ℕ → Bool
is_in s epoch = is_fenced s.hold && nat_eq s.epoch epoch

-- It is told of a seal that it isn't in: a later one is a new one, in which no marker has come; so one that was left
-- never comes back. An earlier one only holds it.
abbrev pub changed : SealState → ℕ → SealState
changed s epoch =
    if nat_lt s.epoch epoch
    then record s { epoch = epoch; hold = Fenced; marks = no_marks; passed = none_passed; sent = None }
    else record s { hold = Held }

-- it is told of a seal: the one that it is in goes on
abbrev pub sealed : SealState → ℕ → SealState
sealed s epoch = if is_in s epoch then s else changed s epoch

-- it is at this phase of its generation
abbrev pub followed : SealState → Phase → SealState
followed s Started = record s { hold = Held }
followed s Serving = record s { hold = Open }
followed s (Sealed acceptance) = sealed s acceptance.epoch
followed s (Switched acceptance) = sealed s acceptance.epoch

-- ---- markers that come

-- it has taken the marker of a thread of its own: all that this one sent before is taken too
abbrev pub passed_by : SealState → ℕ → ℕ → SealState
passed_by s thread epoch = if is_in s epoch then record s { passed = slice_set s.passed thread true } else s

-- the marker is of its generation and of the seal that it is in
abbrev pub is_own : SealState → Marker → Bool
is_own s marker = nat_eq marker.generation s.generation && is_in s marker.epoch

-- it has taken a peer's marker: all that this one sent before is taken too
abbrev pub marked_by : SealState → ℕ → Marker → SealState
marked_by s from marker =
    if is_own s marker then record s { marks = slice_set s.marks from (Some marker.numbers) } else s

-- ---- what has come

-- it holds for each number below this one
unfoldable pub all_below : (ℕ → Bool) → ℕ → Bool
all_below holds zero = true
all_below holds (suc n) = all_below holds n && holds n

-- the marker of this thread has come
abbrev pub has_passed : List Bool → ℕ → Bool
has_passed passed thread = slice_index_or passed thread false

-- the newest marker of this peer
abbrev pub mark_at : List (Option Numbers) → ℕ → Option Numbers
mark_at marks i = slice_index_or marks i None

-- these are the same numbers
abbrev pub is_same : Numbers → Numbers → Bool
is_same one other =
    nat_eq one.view other.view && (nat_eq one.last other.last && nat_eq one.committed other.committed)

-- a marker is there, and names these numbers
abbrev pub names : Option Numbers → Numbers → Bool
names None numbers = false
names (Some mark) numbers = is_same mark numbers

-- this member is a peer, and isn't gone by this view: it is sent markers, and waited for
abbrev pub is_peer : SealState → ℕ → ℕ → Bool
is_peer s view i = is_member s.members i && (not (has view i) && not (nat_eq i s.id))

-- it needn't wait for this member: that is no peer that lives, or its newest marker says that it is as far
abbrev pub is_level : SealState → Numbers → ℕ → Bool
is_level s numbers i = if is_peer s numbers.view i then names (mark_at s.marks i) numbers else true

-- ---- what it tells

-- it has nothing unfinished: all that its threads sent before they held was taken, and its table isn't busy
abbrev pub is_at_rest : SealState → Table → Bool
is_at_rest s table = is_fenced s.hold && (not table.busy && all_below (has_passed s.passed) s.threads)

-- nothing is on its way to it: it has nothing unfinished, and each peer that lives was as far, with nothing unfinished
abbrev pub is_idle : SealState → Table → Bool
is_idle s table = is_at_rest s table && all_below (is_level s table.numbers) 16

-- what it reports
abbrev pub standing_of : SealState → Table → Standing
standing_of s table = record {
  view = table.numbers.view;
  last = table.numbers.last;
  committed = table.numbers.committed;
  idle = is_idle s table;
}

-- the marker that it may send to its peers
abbrev pub marker_of : SealState → Table → Option Marker
marker_of s table =
    if is_at_rest s table
    then Some (record { generation = s.generation; epoch = s.epoch; numbers = table.numbers })
    else None

-- the marker that is due to its peers: none if it gave the same one before in this seal
abbrev pub due : SealState → Table → Option Marker
due s table = if names s.sent table.numbers then None else marker_of s table

-- it has given what is due
abbrev pub after_due : SealState → Table → SealState
after_due s table = if is_at_rest s table then record s { sent = Some table.numbers } else s
