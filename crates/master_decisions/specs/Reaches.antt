-- What the thread of a server has decided about it (this project's rule).
use Rattle.std.specs.Prelude.{ℕ, Bool, true, false, Option, None, Some, unwrap_or, if◌then◌else◌}
use Rattle.master_decisions.specs.declared.news.News.{News}
use Rattle.master_decisions.specs.declared.news.News.TheVariants as news
use Rattle.master_decisions.specs.declared.news.Answered.{Answered}
use Rattle.master_decisions.specs.declared.notices.Answer.{Answer}
use Rattle.master_decisions.specs.declared.openings.Opening.{Opening}
use Rattle.master_decisions.specs.declared.openings.Opening.TheVariants as openings
use Rattle.master_decisions.specs.declared.reaches.Reach.{Reach}
use Rattle.master_decisions.specs.declared.standings.Observation.{Observation}
use Rattle.master_decisions.specs.declared.standings.Observation.TheVariants as observations
use Rattle.master_decisions.specs.declared.standings.ReachStanding.{ReachStanding}
use Rattle.master_decisions.specs.declared.standings.ReachStanding.TheVariants as standings
use Rattle.master_decisions.specs.declared.standings.Reaction.{Reaction}
use Rattle.master_decisions.specs.declared.standings.Reaction.TheVariants as reactions
use Rattle.master_decisions.specs.Standings.{due, is_same_start, watches}

-- a server that wasn't spoken to
abbrev pub unmet : Reach
unmet = record { standing = standings.Unmet; is_to_watch = false; start = None; gone = 0; has_lost = false }

-- how a server stands once it is watched: if it was reached before, that counts
abbrev pub standing_from : Option ℕ → ReachStanding → ReachStanding
standing_from None standing = standing
standing_from (Some start) standing = standings.Watched

-- it is watched from now on
abbrev pub watched : Reach → Reach
watched r = record r { is_to_watch = true; standing = standing_from r.start r.standing }

-- it is watched
abbrev pub is_watching : Reach → Bool
is_watching r = watches r.is_to_watch r.standing

-- it was reached, and nothing was told since
abbrev pub is_met : ReachStanding → Bool
is_met standings.Unmet = false
is_met standings.Watched = true
is_met standings.Lost = false
is_met standings.Gone = false

-- what it means that this start has accepted a connection, if that one is known
abbrev pub opening_by : Option ℕ → ℕ → Opening
opening_by known start = if is_same_start known start then openings.Accepted else openings.Anew

-- this start has; another one than is known is passed over
abbrev pub entered : Reach → ℕ → ℕ → Reach
entered r start gone = if is_same_start r.start start then record r { start = Some start; gone = gone } else r

-- the server has accepted a connection
abbrev pub is_accepted : Observation → Bool
is_accepted observations.Stands = false
is_accepted observations.Accepted = true
is_accepted observations.Refused = false
is_accepted observations.Replaced = false
is_accepted observations.Unreached = false

-- what is new of a server, if this is due
abbrev pub news_of : ℕ → Reach → Reaction → Option News
news_of id r reactions.Wait = None
news_of id r reactions.TellMet = Some (news.Met id (unwrap_or r.start 0) r.gone)
news_of id r reactions.TellLost = Some (news.Lost id)
news_of id r reactions.CallGone = Some (news.Ended id)

-- what is new if it is seen so
abbrev pub news_by : ℕ → Reach → Observation → Option News
news_by id r observation = news_of id r (due r.standing observation)

-- an answer, with what is known of the server
abbrev pub answered_with : Reach → ℕ → Answer → Answered
answered_with r round answer = record { round = round; answer = answer; start = r.start; gone = r.gone }
