use Rattle.world.proofs.shown.ShownCalls.{calls_are_shown, replies_are_shown}
use Rattle.world.proofs.laws.transcripts_show_the_calls.Goals as goal

-- a transcript shows each begun call under its name
pub returns-clause-call : goal.returns-clause-call
returns-clause-call c count homes events x = calls_are_shown count homes events x

-- a transcript shows the reply that a call got under the call's name
pub returns-clause-reply : goal.returns-clause-reply
returns-clause-reply c count homes events x = replies_are_shown count homes events x
