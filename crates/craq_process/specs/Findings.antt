-- What a turn of a worker comes to, and what that says of the worker.
use Rattle.std.specs.Prelude.{◌≡◌, ℕ, true, false}
use Rattle.rail.specs.Workers.{WorkerState}
use Rattle.craq_process.specs.declared.workers_with_links.TurnOutcome.{TurnOutcome}
use Rattle.craq_process.specs.declared.workers_with_links.TurnOutcome.TheVariants.{Nothing, Message, Stopped, Refused}
use Rattle.craq_process.specs.declared.workers_with_links.TurnOutcome.TheVariants.{Closed, End}

-- What was found at the worker of this server, of its states before and after: a note of an end only if the worker has
-- stopped, and then the note is of this server; and one whenever a message was taken by a worker that doesn't go on
-- after it.
abbrev pub Finds : ℕ → WorkerState → WorkerState → TurnOutcome → Type 0
Finds id before after Nothing = after ≡ before
Finds id before after Message = after.goes ≡ true
Finds id before after (Stopped ended) = (after.goes ≡ false) × (ended ≡ id)
Finds id before after (Refused ended) = (before.goes ≡ true) × (after.goes ≡ false) × (ended ≡ id)
Finds id before after (Closed ended) = (after.taken ≡ before.taken) × (after.goes ≡ false) × (ended ≡ id)
Finds id before after End = after.goes ≡ before.goes
