-- A set and a get that come in two pieces are answered, and the next connection of the seat gets nothing of it.
use Rattle.std.proofs.Common.{◌≡◌, ℕ, List, arith, [], ◌∷◌, ◌++◌, take, Option, None, Some, false, refl, ap, ◌∙◌}
use Rattle.std.specs.Prelude.{codes, decimal}
use Rattle.std.proofs.lemmas.Fmt.{decimal_digit}
use Rattle.std.specs.Cmp.Lexicographic.{nat_list_cmp_total}
use Rattle.std.specs.FinMap.{empty, insert, get-insert}
use Rattle.table.specs.Plain.{item_at}
use Rattle.table.specs.Items.{Item}
use Rattle.table.specs.declared.operations.Reply.TheVariants.{Stored, Value}
use Rattle.node.specs.Numbering.{left_open, replies, risen, appended, passed_on, take_update, entered}
use Rattle.node.specs.Reading.{answered as answered_there}
use Rattle.node.specs.Servers.{most}
use Rattle.node.specs.Steps.{trimmed}
use Rattle.node.specs.Views.{has, union, single, is_below, adds, next_from, predecessor}
use Rattle.proto.specs.Words.{space, crlf, line_limit}
use Rattle.proto.specs.Sessions.{fresh}
use Rattle.proto.specs.Turns.{Replied, item_text}
use Rattle.interleavings.specs.Chains.{Chain, with_at}
use Rattle.interleavings.specs.Moves.{read_of, done}
use Rattle.interleavings.specs.Connections.{Connection, opening_connection}
use Rattle.interleavings.specs.ServingMoves.{ServingChain, served_from, opening_serving, served}
use Rattle.interleavings.specs.WorkedRuns.{key, set, item}
use Rattle.interleavings.specs.WorkedServing.{talk_homes, talk_moves, last_moves}
use Rattle.interleavings.proofs.served.Along.{served_from-append}

abbrev talked : ServingChain
talked = served done 2 talk_homes talk_moves

-- the first connection then, if the get found this
abbrev talked_with : Option Item → Connection
talked_with found = record {
  read = codes "set a 0 0 1\r\np\r\nget a\r\n";
  session = record fresh { out = codes "RED\r\n" ++ item_text key false found ++ codes "END\r\n" };
  due = None;
  calls = set ∷ read_of key ∷ [];
  replies = Stored ∷ Value found ∷ [];
  outcomes = Replied Stored ∷ Replied (Value found) ∷ [];
  written = codes "STO";
}

talked_computed : talked.connections 0 0 ≡ talked_with (item_at (insert empty key item) key)
unfolding talk_moves with_at line_limit has union single is_below adds next_from predecessor most appended entered
    trimmed left_open replies risen passed_on take_update answered_there
talked_computed = refl

-- what comes of it then
end_written : (l : Chain) (f : ℕ → ℕ → Connection) (k : Connection)
    → f 0 0 ≡ k
    → ((served_from done (record { chain = l; ended = λ c. 0; connections = f }) last_moves).connections 0 0).written
    ≡ k.written ++ take 40 k.session.out
unfolding last_moves with_at
end_written l f k e = ap (λ (x : Connection). x.written ++ take 40 x.session.out) e

next_written : (l : Chain) (f : ℕ → ℕ → Connection)
    → f 0 1 ≡ opening_connection
    → ((served_from done (record { chain = l; ended = λ c. 0; connections = f }) last_moves).connections 0 1).written
    ≡ codes "ERROR\r\n"
unfolding last_moves with_at line_limit
next_written l f e = rw e refl

none_ended : talked.ended ≡ (λ c. 0)
unfolding talk_moves with_at line_limit has union single is_below adds next_from predecessor most appended entered
    trimmed left_open replies risen passed_on take_update answered_there
none_ended = refl

next_fresh : talked.connections 0 1 ≡ opening_connection
unfolding talk_moves with_at line_limit has union single is_below adds next_from predecessor most appended entered
    trimmed left_open replies risen passed_on take_update answered_there
next_fresh = refl

in_two : served done 2 talk_homes (talk_moves ++ last_moves)
    ≡ served_from done (record { chain = talked.chain; ended = λ c. 0; connections = talked.connections }) last_moves
in_two =
    served_from-append (opening_serving 2 talk_homes) talk_moves last_moves
    ∙ ap (λ (e : ℕ → ℕ). served_from done (record { chain = talked.chain; ended = e; connections = talked.connections })
    last_moves) none_ended

-- the item's text, by the digits of its flags and of its length
abbrev item_with : List ℕ → List ℕ → List ℕ
item_with flags size =
    codes "STO"
    ++ take 40
    (codes "RED\r\n"
    ++ ((codes "VALUE " ++ key ++ (space ∷ flags) ++ (space ∷ size) ++ [] ++ crlf) ++ codes "p" ++ crlf)
    ++ codes "END\r\n")

-- the first client is written both answers,
pub written_to_first : ((served done 2 talk_homes (talk_moves ++ last_moves)).connections 0 0).written
    ≡ codes "STORED\r\nVALUE a 0 1\r\np\r\nEND\r\n"
written_to_first =
    ap (λ (s : ServingChain). (s.connections 0 0).written) in_two
    ∙ end_written talked.chain talked.connections (talked_with (Some item))
    (talked_computed ∙ ap talked_with (get-insert nat_list_cmp_total empty key item key))
    ∙ ap (λ zero. item_with zero (decimal 1)) (decimal_digit 0 (omega arith))
    ∙ ap (λ one. item_with (codes "0") one) (decimal_digit 1 (omega arith))

-- and the next one its own
pub written_to_next : ((served done 2 talk_homes (talk_moves ++ last_moves)).connections 0 1).written
    ≡ codes "ERROR\r\n"
written_to_next =
    ap (λ (s : ServingChain). (s.connections 0 1).written) in_two
    ∙ next_written talked.chain talked.connections next_fresh
