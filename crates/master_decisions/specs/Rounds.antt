-- Rounds in which a master wants something of its servers (this project's rule).
use Rattle.std.specs.Prelude.{ℕ, nat_eq, Bool, false, List, [], replicate, slice_set, if◌then◌else◌}
use Rattle.node.specs.Views.{View}
use Rattle.master_decisions.specs.declared.notices.Answer.{Answer}
use Rattle.master_decisions.specs.declared.notices.Answer.TheVariants.{Unasked}
use Rattle.master_decisions.specs.declared.rounds.Matter.{Matter}
use Rattle.master_decisions.specs.declared.rounds.Matter.TheVariants.{Greeting, Look, Notice}
use Rattle.master_decisions.specs.declared.rounds.Round.{Round}
use Rattle.master_decisions.specs.Openings.{is_that}
use Rattle.master_decisions.specs.Orders.{named_in}
use Rattle.master_decisions.specs.ServerSets.{and_one, without}

-- The rounds that are under way.
pub record RoundsState : Type 0 where
  -- the number of the next one
  pub next : ℕ
  pub under_way : List Round
  -- the servers of which the others are to be told once more after a notice that is under way
  pub again : View

-- these are under way
abbrev pub with_under_way : RoundsState → List Round → RoundsState
with_under_way r rounds = record { next = r.next; under_way = rounds; again = r.again }

-- none is under way
abbrev pub begun : RoundsState
begun = record { next = 1; under_way = []; again = 0 }

-- a round in which nothing was asked
abbrev pub opened : ℕ → Matter → Round
opened number matter = record {
  number = number;
  matter = matter;
  awaited = 0;
  answers = replicate 16 Unasked;
}

-- the round is about a notice of this server
abbrev pub names : Matter → ℕ → Bool
names Greeting j = false
names (Look i) j = false
names (Notice notice) j = is_that (named_in notice.order) j

-- the same of a round
abbrev pub is_about : ℕ → Round → Bool
is_about j round = names round.matter j

-- what it is about
abbrev pub matter_of : Round → Matter
matter_of round = round.matter

-- it has this number
abbrev pub has_number : ℕ → Round → Bool
has_number number round = nat_eq round.number number

-- each that was asked has answered
abbrev pub is_done : Round → Bool
is_done round = nat_eq round.awaited 0

-- a server has answered; the answer of the one that the notice names doesn't count
abbrev pub answered : ℕ → Answer → Round → Round
answered i answer round = record {
  number = round.number;
  matter = round.matter;
  awaited = without round.awaited i;
  answers = (if names round.matter i then round.answers else slice_set round.answers i answer);
}

-- the others are told once more of this one after a notice of it
abbrev pub waiting_to_tell : RoundsState → ℕ → RoundsState
waiting_to_tell r j = record r { again = and_one r.again j }
