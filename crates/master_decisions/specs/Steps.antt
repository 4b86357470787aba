-- The steps of servers that a master that watches prints (this project's rule).
use Rattle.std.specs.Prelude.{ℕ, Option, None, Some}
use Rattle.node.specs.Views.{View}
use Rattle.master_decisions.specs.declared.news.News.{News}
use Rattle.master_decisions.specs.declared.news.News.TheVariants as news
use Rattle.master_decisions.specs.declared.steps.Step.{Step}
use Rattle.master_decisions.specs.declared.steps.Step.TheVariants.{Connected, ConnectionLost, NotReached, Ended}
use Rattle.master_decisions.specs.declared.steps.ToldSteps.{ToldSteps}
use Rattle.master_decisions.specs.ServerSets.{and_one}

-- the step of a server that is news, if it is one
abbrev pub step_of : News → Option (ℕ × Step)
step_of (news.Typed j) = None
step_of news.BadLine = None
step_of (news.Met i start gone) = Some (i, Connected)
step_of (news.Broken i) = Some (i, ConnectionLost)
step_of (news.Lost i) = Some (i, NotReached)
step_of (news.Ended i) = Some (i, Ended)
step_of (news.Told i reading) = None
step_of (news.Stalled i servers) = None
step_of (news.Answered i answered) = None
step_of (news.Fault fault) = None

-- none was told
abbrev pub none_told : ToldSteps
none_told = record { connected = 0; lost = 0; unreached = 0; ended = 0 }

-- of which servers that are gone this step was told
abbrev pub told_of : ToldSteps → Step → View
told_of told Connected = told.connected
told_of told ConnectionLost = told.lost
told_of told NotReached = told.unreached
told_of told Ended = told.ended

-- it was told of this one too
abbrev pub with_told : ToldSteps → Step → ℕ → ToldSteps
with_told told Connected i = record told { connected = and_one told.connected i }
with_told told ConnectionLost i = record told { lost = and_one told.lost i }
with_told told NotReached i = record told { unreached = and_one told.unreached i }
with_told told Ended i = record told { ended = and_one told.ended i }
