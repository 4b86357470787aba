-- Schedules read line by line.
use Rattle.std.proofs.Common.{◌≡◌, ℕ, List, ◌∷◌, ◌++◌, Some, ap, append_assoc, refl}
use Rattle.std.specs.Prelude.{Result, Ok, Err, ok_or}
use Rattle.world.specs.declared.events.Event.{Event}
use Rattle.schedules.specs.declared.event_lines.EventLine.{EventLine}
use Rattle.schedules.specs.EventLines.{event_line, events_in}
use Rattle.schedules.specs.Schedules.{◌>>=◌, events_of}

-- earlier events in front of those of later lines
abbrev pub with_earlier : List Event → Result (List Event) ℕ → Result (List Event) ℕ
with_earlier earlier (Ok events) = Ok (earlier ++ events)
with_earlier earlier (Err bad) = Err bad

-- a line's events are added to the earlier ones
with_line : (earlier events : List Event) (n : ℕ) (later : Result (List Event) ℕ)
    → with_earlier (earlier ++ events) later
    ≡ with_earlier earlier (ok_or (Some events) n >>= (λ own. later >>= (λ more. Ok (own ++ more))))
with_line earlier events n (Ok more) = ap Ok (append_assoc earlier events more)
with_line earlier events n (Err bad) = refl

-- a line is read
pub line_read : (count connections n : ℕ) (line : List ℕ) (earlier : List Event) (said : EventLine)
    (all later : List (ℕ × List ℕ))
    → Some said ≡ event_line line
    → all ≡ (n, line) ∷ later
    → with_earlier (earlier ++ events_in count connections said) (events_of count connections later)
    ≡ with_earlier earlier (events_of count connections all)
line_read count connections n line earlier said all later is first =
    rw (first, ← is) (with_line earlier (events_in count connections said) n (events_of count connections later))
