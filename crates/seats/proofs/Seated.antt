-- What a reader has seen at the seats of its server grows.
use Rattle.std.proofs.Common.{◌∙◌, refl}
use Rattle.table.specs.declared.operations.Reply.{Reply}
use Rattle.faces.specs.Histories.{History, IsLater}
use Rattle.faces.proofs.Beginnings.{prefix_self, prefix_trans}
use Rattle.rail.specs.CallSenders.{SentCall}
use Rattle.rail.specs.Seats.{SeatState}
use Rattle.seats.specs.Replies.{IsSubmitted}

-- a history is no earlier than itself
pub later_same : (c : History) → IsLater c c
later_same c = record { instance = refl; inputs = prefix_self c.inputs }

-- what is later than a later history is later
pub later_then : (first second third : History) → IsLater first second → IsLater second third → IsLater first third
later_then first second third p q =
    record { instance = q.instance ∙ p.instance; inputs = prefix_trans _ _ _ p.inputs q.inputs }

-- the server has replied, after a look
pub submitted_then : (before looked after : History) (seat last : SeatState) (sent : SentCall) (reply : Reply)
    → IsLater before looked
    → IsSubmitted looked after seat last sent reply
    → IsSubmitted before after seat last sent reply
submitted_then before looked after seat last sent reply p s =
    record {
      replied = s.replied;
      server = s.server;
      told = s.told;
      later = later_then _ _ _ p s.later;
      learned = s.learned;
      put_out = s.put_out;
      exchange = s.exchange;
    }
