-- The master's side: what it knows of one server, and what is due.
use Rattle.std.specs.Prelude.{◌≡◌, ℕ, ◌-◌, ◌/◌, max, nat_le, Bool, true, false, not, ◌&&◌, List, [], ◌∷◌, ◌++◌}
use Rattle.std.specs.Prelude.{Option, None, Some, if◌then◌else◌}
use Rattle.leases.specs.declared.watches.WatchStanding.{WatchStanding}
use Rattle.leases.specs.declared.watches.WatchStanding.TheVariants.{Watched, Told, Over, Gone}
use Rattle.leases.specs.declared.watches.WatchDue.{WatchDue}
use Rattle.leases.specs.declared.watches.WatchDue.TheVariants.{Wait, Beat, TellServer, TellSilent, TellGone}
use Rattle.leases.specs.Clocks.{wait_for}

-- What a master knows of a server that is in its epoch. Times are what the master's clock shows.
pub record WatchState : Type 0 where
  -- the term of the server's lease, or none
  pub term : Option ℕ
  -- the time between two beats
  pub beat : ℕ
  -- a server that wasn't heard for so long is told that it is gone
  pub after : ℕ
  -- when it was heard for the last time
  pub heard : ℕ
  -- its silence counts from then on
  pub since : ℕ
  -- the stamp that it answered then
  pub stamp : ℕ
  -- when the last beat was sent
  pub sent : ℕ
  pub standing : WatchStanding
  -- it isn't called silent before it answers once more
  pub spared : Bool

-- the server has entered the epoch, and answered that with this stamp
abbrev pub begun_watch : Option ℕ → ℕ → ℕ → ℕ → ℕ → WatchState
begun_watch term beat after stamp now = record {
  term = term;
  beat = beat;
  after = after;
  heard = now;
  since = now;
  stamp = stamp;
  sent = now;
  standing = Watched;
  spared = false;
}

-- the server isn't in the epoch: a beat is due each time that a pace has passed, and nothing else
abbrev pub idle_watch : ℕ → ℕ → WatchState
idle_watch beat after = record {
  term = None;
  beat = beat;
  after = after;
  heard = 0;
  since = 0;
  stamp = 0;
  sent = 0;
  standing = Watched;
  spared = false;
}

-- it does nothing more
abbrev pub is_gone : WatchStanding → Bool
is_gone Watched = false
is_gone Told = false
is_gone Over = false
is_gone Gone = true

-- it gets beats: it wasn't called silent, and isn't gone
abbrev pub is_watched : WatchStanding → Bool
is_watched Watched = true
is_watched Told = false
is_watched Over = false
is_watched Gone = false

-- it wasn't heard for too long; without a lease that says nothing
abbrev pub is_silent : Option ℕ → ℕ → ℕ → Bool
is_silent None after silence = false
is_silent (Some term) after silence = nat_le after silence

-- The master is late with a beat: since the last one a pause has passed, and half of what a silence is longer
-- than that. Nobody answers beats that aren't sent.
abbrev pub is_late : WatchState → ℕ → Bool
is_late w pause = nat_le ((w.after - w.beat) / 2) (pause - w.beat)

-- it is called silent
abbrev pub gives_up : WatchState → ℕ → ℕ → Bool
gives_up w silence pause = (is_silent w.term w.after silence && not (is_late w pause)) && not w.spared

-- the stamp that a beat brings back, if the epoch is whole: if each other server that isn't gone has entered it
abbrev pub brought : Bool → ℕ → Option ℕ
brought true stamp = Some stamp
brought false stamp = None

-- what is due for a server that is watched, if it was silent for so long, and this much has passed since the last beat
abbrev pub watched_due : WatchState → Bool → ℕ → ℕ → WatchDue
watched_due w whole silence pause =
    if gives_up w silence pause then TellServer
    else (if nat_le w.beat pause then Beat (brought whole w.stamp) else Wait (w.beat - pause))

-- what is due for a server that was told
abbrev pub told_due : Option ℕ → ℕ → ℕ → WatchDue
told_due None beat silence = Wait beat
told_due (Some term) beat silence =
    if nat_le (wait_for term) silence then TellSilent else Wait (wait_for term - silence)

abbrev pub standing_due : WatchStanding → WatchState → Bool → ℕ → WatchDue
standing_due Watched w whole now = watched_due w whole (now - w.since) (now - w.sent)
standing_due Told w whole now = told_due w.term w.beat (now - w.heard)
standing_due Over w whole now = TellSilent
standing_due Gone w whole now = TellGone

-- what is due when the master's clock shows this
abbrev pub due : WatchState → Bool → ℕ → WatchDue
due w whole now = standing_due w.standing w whole now

-- from when on its silence counts once a beat is sent: from now on if the beat is late
abbrev pub since_beat : WatchState → ℕ → ℕ
since_beat w now = if is_late w (now - w.sent) then now else w.since

-- what it knows once that was done
abbrev pub done : WatchState → ℕ → WatchDue → WatchState
done w now (Wait span) = w
done w now (Beat stamp) = record w { since = since_beat w now; sent = now }
done w now TellServer = record w { standing = Told }
done w now TellSilent = record w { standing = Over }
done w now TellGone = w

-- an answer counts as long as the server is watched
abbrev pub heard_at : WatchStanding → WatchState → ℕ → ℕ → WatchState
heard_at Watched w stamp now = record w {
  heard = max w.heard now;
  since = max w.since now;
  stamp = stamp;
  spared = false;
}
heard_at Told w stamp now = w
heard_at Over w stamp now = w
heard_at Gone w stamp now = w

abbrev pub answered : WatchState → ℕ → ℕ → WatchState
answered w stamp now = heard_at w.standing w stamp now

-- its master was cut off: it isn't called silent before it answers once more
abbrev pub spared_watch : WatchState → WatchState
spared_watch w = record w { spared = true }

-- What a watch is told and asked.
pub data Happening : Type 0 where
  -- an answer with this stamp; then the clock shows this
  Answers : ℕ → ℕ → Happening
  -- a new connection was refused
  Refuses : Happening
  -- what is due is asked for, and done
  Asks : Bool → ℕ → Happening
  -- its master was cut off
  Spares : Happening

-- what one of them does
abbrev pub happen : WatchState → Happening → WatchState
happen w (Answers stamp now) = answered w stamp now
happen w Refuses = record w { standing = Gone }
happen w (Asks whole now) = done w now (due w whole now)
happen w Spares = spared_watch w

-- what all of them do, in order
abbrev pub happens : WatchState → List Happening → WatchState
happens w [] = w
happens w (x ∷ xs) = happens (happen w x) xs

-- A refusal that was told.
pub record IsRefused (happenings : List Happening) : Type 0 where
  pub before : List Happening
  pub after : List Happening
  pub came : happenings ≡ before ++ Refuses ∷ after
