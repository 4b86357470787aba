-- What a master knows of its servers (this project's rule).
use Rattle.std.specs.Prelude.{ℕ, nat_lt, bit_or, Bool, false, not, ◌&&◌, List, length, slice_index_or, slice_set}
use Rattle.std.specs.Prelude.{None, Some, is_some, if◌then◌else◌}
use Rattle.node.specs.Views.{View, union}
use Rattle.master_decisions.specs.declared.decisions.Facts.{Facts}
use Rattle.master_decisions.specs.declared.knowledge.Known.{Known}
use Rattle.master_decisions.specs.declared.news.News.{News}
use Rattle.master_decisions.specs.declared.news.News.TheVariants as news
use Rattle.master_decisions.specs.Openings.{is_that}
use Rattle.master_decisions.specs.ServerSets.{and_one, is_among}
use Rattle.master_decisions.specs.Standings.{is_same_start}

-- What is known of all servers.
pub record KnowledgeState : Type 0 where
  -- those that are known to have failed
  pub gone : View
  -- each, by its id
  pub servers : List Known

-- nothing is known of a server
abbrev pub nothing : Known
nothing = record { start = None; gone = 0 }

-- what is known of this one: nothing of one that the chain hasn't
abbrev pub known_of : List Known → ℕ → Known
known_of servers i = slice_index_or servers i nothing

-- this start of it has accepted a connection, and told who has failed; another one than is known is passed over
abbrev pub met_by : Known → ℕ → View → Known
met_by known start gone =
    if is_same_start known.start start then record { start = Some start; gone = bit_or known.gone gone } else known

-- it told who has failed
abbrev pub told_by : Known → View → Known
told_by known gone = record { start = known.start; gone = bit_or known.gone gone }

-- it has noted that this one has
abbrev pub noted_by : Known → ℕ → Known
noted_by known j = record { start = known.start; gone = and_one known.gone j }

-- it was reached, and didn't say that it knows that this one has failed
abbrev pub has_not_said : Known → ℕ → Bool
has_not_said known j = is_some known.start && not (is_among known.gone j)

-- it is one of the chain, and isn't known to have failed
abbrev pub is_living : KnowledgeState → ℕ → Bool
is_living k i = nat_lt i (length k.servers) && not (is_among k.gone i)

-- it isn't known to have failed, was reached, and didn't say that it knows that the first one has
abbrev pub is_untold : KnowledgeState → ℕ → ℕ → Bool
is_untold k j i = not (is_among k.gone i) && has_not_said (known_of k.servers i) j

-- a server has failed
abbrev pub lost : KnowledgeState → ℕ → KnowledgeState
lost k j = record k { gone = and_one k.gone j }

-- this is known of a server: so it is known who has failed as far as that one says
abbrev pub learned : KnowledgeState → ℕ → Known → KnowledgeState
learned k i known = record {
  gone = (if nat_lt i (length k.servers) then union k.gone known.gone else k.gone);
  servers = slice_set k.servers i known;
}

-- the first server has noted that the second one has failed
abbrev pub with_noted : KnowledgeState → ℕ → ℕ → KnowledgeState
with_noted k i j = record k { servers = slice_set k.servers i (noted_by (known_of k.servers i) j) }

-- the news is that the start of a server has accepted a connection which is known
abbrev pub is_known_start : List Known → News → Bool
is_known_start servers (news.Typed j) = false
is_known_start servers news.BadLine = false
is_known_start servers (news.Met i start gone) = is_that (known_of servers i).start start
is_known_start servers (news.Broken i) = false
is_known_start servers (news.Lost i) = false
is_known_start servers (news.Ended i) = false
is_known_start servers (news.Told i reading) = false
is_known_start servers (news.Stalled i links) = false
is_known_start servers (news.Answered i answered) = false
is_known_start servers (news.Fault fault) = false

-- what a decision is told, of no news
abbrev pub facts_of : KnowledgeState → Bool → Facts
facts_of k watches = record { watches = watches; gone = k.gone; is_known_start = false }

-- the same when there is this news
abbrev pub facts_with : KnowledgeState → Bool → News → Facts
facts_with k watches heard =
    record { watches = watches; gone = k.gone; is_known_start = is_known_start k.servers heard }
