-- A set that is refused is never made, and a get after it finds nothing.
use Rattle.std.proofs.Common.{◌≡◌, ℕ, false, List, [], ◌∷◌, ◌++◌, take, drop, Option, None, refl, ap, ◌∙◌}
use Rattle.std.specs.Prelude.{codes}
use Rattle.std.specs.FinMap.{empty, get-empty}
use Rattle.table.specs.Keys.{key_cmp}
use Rattle.table.specs.Plain.{item_at}
use Rattle.table.specs.Items.{Item}
use Rattle.table.specs.declared.operations.Reply.TheVariants.{Value}
use Rattle.node.specs.Numbering.{left_open, replies, risen, appended, passed_on, take_update, entered}
use Rattle.node.specs.Reading.{answered as answered_there}
use Rattle.node.specs.Servers.{most}
use Rattle.node.specs.Steps.{trimmed}
use Rattle.node.specs.Views.{has, union, single, is_below, adds, next_from, predecessor}
use Rattle.proto.specs.Words.{line_limit}
use Rattle.proto.specs.Sessions.{fresh}
use Rattle.proto.specs.Turns.{Replied, Refused, item_text}
use Rattle.interleavings.specs.Chains.{with_at}
use Rattle.interleavings.specs.Moves.{read_of, done}
use Rattle.interleavings.specs.Connections.{Connection}
use Rattle.interleavings.specs.ServingMoves.{ServingChain, served}
use Rattle.interleavings.specs.WorkedRuns.{key}
use Rattle.interleavings.specs.WorkedServing.{talk_homes, refused_moves}

abbrev talked : ServingChain
talked = served done 2 talk_homes refused_moves

-- what is due, if the get found this
abbrev due_with : Option Item → List ℕ
due_with found =
    codes "SERVER_ERROR out of memory storing object\r\n" ++ item_text key false found ++ codes "END\r\n"

-- the connection then
abbrev talked_with : Option Item → Connection
talked_with found = record {
  read = codes "set a 0 0 1\r\np\r\nset a 0 0 1 noreply\r\nq\r\nget a\r\n";
  session = record fresh { out = drop 60 (due_with found) };
  due = None;
  calls = read_of key ∷ [];
  replies = Value found ∷ [];
  outcomes = Refused ∷ Refused ∷ Replied (Value found) ∷ [];
  written = take 60 (due_with found);
}

talked_computed : talked.connections 0 0 ≡ talked_with (item_at empty key)
unfolding refused_moves with_at line_limit has union single is_below adds next_from predecessor most appended entered
    trimmed left_open replies risen passed_on take_update answered_there
talked_computed = refl

-- it found nothing
talked_is : talked.connections 0 0 ≡ talked_with None
talked_is = talked_computed ∙ ap talked_with (get-empty key_cmp key)

-- what the three calls came to,
pub outcomes_are : ((served done 2 talk_homes refused_moves).connections 0 0).outcomes
    ≡ Refused ∷ Refused ∷ Replied (Value None) ∷ []
outcomes_are = ap (λ (k : Connection). k.outcomes) talked_is

-- the one that was made,
pub calls_are : ((served done 2 talk_homes refused_moves).connections 0 0).calls ≡ read_of key ∷ []
calls_are = ap (λ (k : Connection). k.calls) talked_is

-- and what the client was written
pub written_is : ((served done 2 talk_homes refused_moves).connections 0 0).written
    ≡ codes "SERVER_ERROR out of memory storing object\r\nEND\r\n"
written_is = ap (λ (k : Connection). k.written) talked_is
