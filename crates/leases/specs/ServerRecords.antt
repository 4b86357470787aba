-- The master's side: all that it knows of one server, and what is due.
use Rattle.std.specs.Prelude.{◌≡◌, ℕ, ◌^◌, max, bit_or, Bool, true, false, ◌&&◌, nat_eq, nat_lt, List, [], ◌∷◌, ◌++◌}
use Rattle.std.specs.Prelude.{if◌then◌else◌}
use Rattle.leases.specs.declared.orders.Order.TheVariants as orders
use Rattle.leases.specs.declared.orders.Report.{Report}
use Rattle.leases.specs.declared.watches.WatchStanding.TheVariants.{Gone}
use Rattle.leases.specs.declared.watches.WatchDue.{WatchDue}
use Rattle.leases.specs.declared.watches.WatchDue.TheVariants.{Wait, Beat, TellServer, TellSilent, TellGone}
use Rattle.leases.specs.declared.server_records.Due.{Due}
use Rattle.leases.specs.declared.server_records.Due.TheVariants as dues
use Rattle.leases.specs.Sets.{has, is_apart}
use Rattle.leases.specs.Watching.{WatchState, idle_watch, begun_watch, spared_watch, due, done, answered, is_gone}
use Rattle.leases.specs.Rolls.{RollState, unentered, enters, knows, is_whole}

-- What a master knows of a server. Server i is the bit of value 2^i; times are what the master's clock shows.
pub record ServerRecordState : Type 0 where
  pub id : ℕ
  -- the server itself, and the other servers of the chain
  pub own : ℕ
  pub others : ℕ
  -- the time between two beats, and for how long it may be silent
  pub beat : ℕ
  pub after : ℕ
  -- the master's epoch, or 0 if it has none
  pub epoch : ℕ
  -- it is in that epoch
  pub is_in : Bool
  -- the others that are
  pub seen : ℕ
  -- when its lease ended, as far as it told
  pub end : ℕ
  pub watch : WatchState
  pub roll : RollState

-- nothing is known of it
abbrev pub unmet : ℕ → ℕ → ℕ → ℕ → ServerRecordState
unmet id others beat after = record {
  id = id;
  own = 2 ^ id;
  others = others;
  beat = beat;
  after = after;
  epoch = 0;
  is_in = false;
  seen = 0;
  end = 0;
  watch = idle_watch beat after;
  roll = unentered (2 ^ id) others;
}

-- another epoch begins; who is gone stays so
abbrev pub begun : ServerRecordState → ℕ → ServerRecordState
begun w epoch = record w {
  epoch = epoch;
  is_in = false;
  seen = 0;
  watch = (if is_gone w.watch.standing then w.watch else idle_watch w.beat w.after);
  roll = unentered w.own w.others;
}

-- it does nothing more
abbrev pub lost : ServerRecordState → ServerRecordState
lost w = record w { watch = record w.watch { standing = Gone } }

-- its master was cut off: it isn't called silent before it answers once more
abbrev pub spared : ServerRecordState → ServerRecordState
spared w = record w { watch = spared_watch w.watch }

-- a report names it as gone, or doesn't
abbrev pub named : ServerRecordState → Report → ServerRecordState
named w report = if is_apart report.gone w.own then w else lost w

-- who told that is in the master's epoch
abbrev pub is_of : ServerRecordState → Report → Bool
is_of w report = nat_lt 0 w.epoch && nat_eq report.epoch w.epoch

-- the watch over it once it is in the epoch
abbrev pub entered_watch : ServerRecordState → Report → ℕ → WatchState
entered_watch w report now =
    if is_gone w.watch.standing then w.watch else begun_watch report.term w.beat w.after report.stamp now

-- it told how it is, in the epoch
abbrev pub reported : ServerRecordState → Report → ℕ → ServerRecordState
reported w report now = record w {
  is_in = true;
  watch = (if w.is_in then answered w.watch report.stamp now else entered_watch w report now);
  roll = knows w.roll report.known;
}

-- it told how it is
abbrev pub heard_it : ServerRecordState → Report → ℕ → ServerRecordState
heard_it w report now =
    if is_of w report then reported (record w { end = max w.end report.end }) report now
    else record w { end = max w.end report.end }

-- another one told how that is: its first report in the epoch counts
abbrev pub heard_other : ServerRecordState → ℕ → Report → ServerRecordState
heard_other w from report =
    if is_of w report && is_apart w.seen (2 ^ from) then record w {
      seen = bit_or w.seen (2 ^ from);
      roll = enters w.roll (2 ^ from) report.gone;
    } else w

-- a server told how it is
abbrev pub heard_from : ServerRecordState → ℕ → Report → ℕ → ServerRecordState
heard_from w from report now =
    if nat_eq from w.id then heard_it (named w report) report now else heard_other (named w report) from report

-- what its watch finds due
abbrev pub watch_due_of : ServerRecordState → ℕ → WatchDue
watch_due_of w now = due w.watch (w.is_in && is_whole w.roll) now

-- what is sent for it, and to whom
abbrev pub due_for : ServerRecordState → WatchDue → Due
due_for w (Wait span) = dues.Wait span
due_for w (Beat stamp) = dues.Server (if w.is_in then orders.Beat w.epoch stamp else orders.Reign w.epoch)
due_for w TellServer = dues.Server (orders.Silent w.epoch w.id)
due_for w TellSilent = dues.Others (orders.Silent w.epoch w.id)
due_for w TellGone = dues.Others (orders.Gone w.id)

-- What a server record is told and asked in an epoch.
pub data Call : Type 0 where
  Hears : ℕ → Report → ℕ → Call
  Loses : Call
  Asks : ℕ → Call
  Spares : Call

-- what one of them does
abbrev pub called : ServerRecordState → Call → ServerRecordState
called w (Hears from report now) = heard_from w from report now
called w Loses = lost w
called w (Asks now) = record w { watch = done w.watch now (watch_due_of w now) }
called w Spares = spared w

-- what all of them do, in order
abbrev pub calls : ServerRecordState → List Call → ServerRecordState
calls w [] = w
calls w (x ∷ xs) = calls (called w x) xs

-- Another server told that it is in the epoch, and didn't know then that this one is gone.
pub record HasReported (own epoch : ℕ) (all : List Call) (id : ℕ) : Type 0 where
  pub before : List Call
  pub after : List Call
  pub from : ℕ
  pub report : Report
  pub now : ℕ
  pub came : all ≡ before ++ Hears from report now ∷ after
  pub same : has (2 ^ from) id ≡ true
  pub is_in : report.epoch ≡ epoch
  pub apart : is_apart report.gone own ≡ true

-- This one told that it knew that server to be gone while its lease held.
pub record HasKnown (me : ℕ) (all : List Call) (id : ℕ) : Type 0 where
  pub before : List Call
  pub after : List Call
  pub from : ℕ
  pub report : Report
  pub now : ℕ
  pub came : all ≡ before ++ Hears from report now ∷ after
  pub own : from ≡ me
  pub named : has report.known id ≡ true
