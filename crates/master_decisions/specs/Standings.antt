-- A master that watches: how a server stands with it, and what is due if the server is seen so (this project's rule).
use Rattle.std.specs.Prelude.{ℕ, Bool, true, false, Option, None, Some, nat_eq}
use Rattle.master_decisions.specs.declared.standings.ReachStanding.{ReachStanding}
use Rattle.master_decisions.specs.declared.standings.ReachStanding.TheVariants.{Unmet, Watched, Lost, Gone}
use Rattle.master_decisions.specs.declared.standings.Observation.{Observation}
use Rattle.master_decisions.specs.declared.standings.Observation.TheVariants.{Stands, Accepted, Refused, Replaced, Unreached}
use Rattle.master_decisions.specs.declared.standings.Reaction.{Reaction}
use Rattle.master_decisions.specs.declared.standings.Reaction.TheVariants.{Wait, TellMet, TellLost, CallGone}

-- it was reached, and wasn't called gone
abbrev pub is_watched : ReachStanding → Bool
is_watched Unmet = false
is_watched Watched = true
is_watched Lost = true
is_watched Gone = false

-- the process that was reached has ended: nothing listens at its port, or another start does
abbrev pub has_ended : Observation → Bool
has_ended Stands = false
has_ended Accepted = false
has_ended Refused = true
has_ended Replaced = true
has_ended Unreached = false

-- what is due for a server that was never reached: it may not have been started yet
abbrev pub unmet_due : Observation → Reaction
unmet_due Stands = Wait
unmet_due Accepted = TellMet
unmet_due Refused = Wait
unmet_due Replaced = Wait
unmet_due Unreached = Wait

-- what is due for one that was reached; the argument is what is due if it isn't reached any more: that is told once
abbrev pub met_due : Reaction → Observation → Reaction
met_due unreached Stands = Wait
met_due unreached Accepted = TellMet
met_due unreached Refused = CallGone
met_due unreached Replaced = CallGone
met_due unreached Unreached = unreached

-- what is due
abbrev pub due : ReachStanding → Observation → Reaction
due Unmet observation = unmet_due observation
due Watched observation = met_due TellLost observation
due Lost observation = met_due Wait observation
due Gone observation = Wait

-- how the server stands once that was done
abbrev pub standing_after : ReachStanding → Reaction → ReachStanding
standing_after standing Wait = standing
standing_after standing TellMet = Watched
standing_after standing TellLost = Lost
standing_after standing CallGone = Gone

-- a server that is to be watched is, until it is gone
abbrev pub watches : Bool → ReachStanding → Bool
watches is_to_watch Unmet = is_to_watch
watches is_to_watch Watched = is_to_watch
watches is_to_watch Lost = is_to_watch
watches is_to_watch Gone = false

-- this start of a server is the one that is known, or the first one
abbrev pub is_same_start : Option ℕ → ℕ → Bool
is_same_start None start = true
is_same_start (Some known) start = nat_eq known start
