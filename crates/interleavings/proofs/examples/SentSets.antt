-- Two sets of one client, by one sender, and by two.
use Rattle.std.proofs.Common.{◌∷◌, [], ◌≡◌, ℕ, zero, suc, true, false, take, Option, None, Some, refl, subst, sym, ap}
use Rattle.std.proofs.Common.{arith}
use Rattle.std.proofs.Common.{◌∙◌}
use Rattle.std.proofs.Common.{lit<}
use Rattle.std.specs.Prelude.{slice_get, IsSome}
use Rattle.std.proofs.lemmas.Option.{same_Some}
use Rattle.node.specs.Numbering.{left_open, replies, risen, appended, passed_on, take_update, entered}
use Rattle.node.specs.Servers.{most}
use Rattle.node.specs.Steps.{trimmed}
use Rattle.node.specs.Views.{has, union, single, is_below, adds, next_from, predecessor}
use Rattle.proto.specs.Words.{line_limit}
use Rattle.interleavings.specs.Chains.{OfSeat, with_at, first_of}
use Rattle.interleavings.specs.Moves.{Takes}
use Rattle.interleavings.specs.Moves.{done}
use Rattle.interleavings.specs.ServingMoves.{ServingMove}
use Rattle.interleavings.specs.ServingMoves.{Runs, served}
use Rattle.interleavings.specs.Served.{IsMadeUpdate, is_call_published}
use Rattle.interleavings.specs.Rows.{IsPublishedInTurn}
use Rattle.interleavings.specs.Senders.{first_seat, AreTakenInOrder, HaveOneSender}
use Rattle.interleavings.specs.WorkedRuns.{flight_homes, set, other_set}
use Rattle.interleavings.specs.WorkedRows.{first_part, second_part, two_parts, first_call, second_call, pipelined_moves}
use Rattle.interleavings.specs.WorkedRows.{overtaken_moves, one_sender, two_senders, own_number, one_port_sender}
use Rattle.interleavings.specs.WorkedRows.{pooled_moves}
use Rattle.interleavings.specs.Pools.{PooledMove, Serves, pooled}
use Rattle.interleavings.specs.Senders.{AreTakenInPortOrder}

-- ---- one sender

-- the two parts have one
pub of_one : HaveOneSender one_sender two_parts
of_one = record { sender = 0; sends = λ p here. refl }

abbrev Taken : ℕ → ℕ → ℕ → Type 0
Taken k i c =
    first_seat one_sender 0 ((served done 1 flight_homes (take k pipelined_moves)).chain.servers i).inbox ≡ Some c

-- whose call a move takes, and at which server
abbrev server_of : Option ServingMove → ℕ
server_of None = 0
server_of (Some (Runs (Takes i (OfSeat c)))) = i
server_of (Some m) = 0

abbrev seat_of : Option ServingMove → ℕ
seat_of None = 0
seat_of (Some (Runs (Takes i (OfSeat c)))) = c
seat_of (Some m) = 0

first_taken : Taken 6 0 0
unfolding pipelined_moves with_at line_limit has union single is_below adds next_from predecessor most appended entered
    trimmed left_open replies risen passed_on take_update
first_taken = refl

second_taken : Taken 8 0 1
unfolding pipelined_moves with_at line_limit has union single is_below adds next_from predecessor most appended entered
    trimmed left_open replies risen passed_on take_update
second_taken = refl

-- a move that takes a call is the seventh or the ninth
taken_then : (k i c : ℕ) → slice_get pipelined_moves k ≡ Some (Runs (Takes i (OfSeat c))) → Taken k i c
unfolding pipelined_moves
taken_then zero i c e = absurd cc
taken_then (suc zero) i c e = absurd cc
taken_then (suc (suc zero)) i c e = absurd cc
taken_then (suc (suc (suc zero))) i c e = absurd cc
taken_then (suc (suc (suc (suc zero)))) i c e = absurd cc
taken_then (suc (suc (suc (suc (suc zero))))) i c e = absurd cc
taken_then (suc (suc (suc (suc (suc (suc zero)))))) i c e =
    subst (λ a. Taken 6 a c) (ap server_of e) (subst (λ b. Taken 6 0 b) (ap seat_of e) first_taken)
taken_then (suc (suc (suc (suc (suc (suc (suc zero))))))) i c e = absurd cc
taken_then (suc (suc (suc (suc (suc (suc (suc (suc zero)))))))) i c e =
    subst (λ a. Taken 8 a c) (ap server_of e) (subst (λ b. Taken 8 0 b) (ap seat_of e) second_taken)
taken_then (suc (suc (suc (suc (suc (suc (suc (suc (suc zero))))))))) i c e = absurd cc
taken_then (suc (suc (suc (suc (suc (suc (suc (suc (suc (suc zero)))))))))) i c e = absurd cc
taken_then (suc (suc (suc (suc (suc (suc (suc (suc (suc (suc (suc zero))))))))))) i c e = absurd cc
taken_then (suc (suc (suc (suc (suc (suc (suc (suc (suc (suc (suc (suc zero)))))))))))) i c e = absurd cc
taken_then (suc (suc (suc (suc (suc (suc (suc (suc (suc (suc (suc (suc (suc zero))))))))))))) i c e = absurd cc
taken_then (suc (suc (suc (suc (suc (suc (suc (suc (suc (suc (suc (suc (suc (suc zero)))))))))))))) i c e = absurd cc
taken_then (suc (suc (suc (suc (suc (suc (suc (suc (suc (suc (suc (suc (suc (suc (suc zero))))))))))))))) i c e =
    absurd cc
taken_then (suc (suc (suc (suc (suc (suc (suc (suc (suc (suc (suc (suc (suc (suc (suc (suc k)))))))))))))))) i c e =
    absurd cc

-- the two sets are taken in order,
pub in_order : AreTakenInOrder one_sender 1 flight_homes pipelined_moves
in_order = record { in_order = λ k i c e some. taken_then k i c e }

overtaker_first : first_seat one_sender 0 ((served done 1 flight_homes (take 6 overtaken_moves)).chain.servers 0).inbox
    ≡ Some 0
unfolding overtaken_moves with_at line_limit has union single is_below adds next_from predecessor most appended entered
    trimmed left_open replies risen passed_on take_update
overtaker_first = refl

overtaker_there : IsSome
    (first_of (OfSeat 1) ((served done 1 flight_homes (take 6 overtaken_moves)).chain.servers 0).inbox)
unfolding overtaken_moves with_at line_limit has union single is_below adds next_from predecessor most appended entered
    trimmed left_open replies risen passed_on take_update
overtaker_there = refl

seventh : slice_get overtaken_moves 6 ≡ Some (Runs (Takes 0 (OfSeat 1)))
unfolding overtaken_moves
seventh = refl

-- and not if the second one overtakes the first
pub not_in_order : AreTakenInOrder one_sender 1 flight_homes overtaken_moves → ⊥
not_in_order t =
    let no : Some 0 ≡ Some 1 = sym overtaker_first ∙ t.in_order 6 0 1 seventh overtaker_there in
    let same : 0 ≡ 1 = same_Some 0 1 no in
    omega (arith, same)

-- ---- two ports of one sender

abbrev From : ℕ → ℕ → ℕ → Type 0
From k i p =
    first_seat (one_port_sender i) 0
    ((pooled 1 flight_homes own_number (take k pooled_moves)).chain.servers i).inbox
    ≡ Some p

-- from which port a move takes a call, and at which server
abbrev pool_server : Option PooledMove → ℕ
pool_server None = 0
pool_server (Some (Serves (Runs (Takes i (OfSeat p))))) = i
pool_server (Some m) = 0

abbrev pool_port : Option PooledMove → ℕ
pool_port None = 0
pool_port (Some (Serves (Runs (Takes i (OfSeat p))))) = p
pool_port (Some m) = 0

first_from : From 6 0 0
unfolding pipelined_moves with_at line_limit has union single is_below adds next_from predecessor most appended entered
    trimmed left_open replies risen passed_on take_update
first_from = refl

second_from : From 8 0 1
unfolding pipelined_moves with_at line_limit has union single is_below adds next_from predecessor most appended entered
    trimmed left_open replies risen passed_on take_update
second_from = refl

from_then : (k i p : ℕ) → slice_get pooled_moves k ≡ Some (Serves (Runs (Takes i (OfSeat p)))) → From k i p
unfolding pipelined_moves
from_then zero i p e = absurd cc
from_then (suc zero) i p e = absurd cc
from_then (suc (suc zero)) i p e = absurd cc
from_then (suc (suc (suc zero))) i p e = absurd cc
from_then (suc (suc (suc (suc zero)))) i p e = absurd cc
from_then (suc (suc (suc (suc (suc zero))))) i p e = absurd cc
from_then (suc (suc (suc (suc (suc (suc zero)))))) i p e =
    subst (λ a. From 6 a p) (ap pool_server e) (subst (λ b. From 6 0 b) (ap pool_port e) first_from)
from_then (suc (suc (suc (suc (suc (suc (suc zero))))))) i p e = absurd cc
from_then (suc (suc (suc (suc (suc (suc (suc (suc zero)))))))) i p e =
    subst (λ a. From 8 a p) (ap pool_server e) (subst (λ b. From 8 0 b) (ap pool_port e) second_from)
from_then (suc (suc (suc (suc (suc (suc (suc (suc (suc zero))))))))) i p e = absurd cc
from_then (suc (suc (suc (suc (suc (suc (suc (suc (suc (suc zero)))))))))) i p e = absurd cc
from_then (suc (suc (suc (suc (suc (suc (suc (suc (suc (suc (suc zero))))))))))) i p e = absurd cc
from_then (suc (suc (suc (suc (suc (suc (suc (suc (suc (suc (suc (suc zero)))))))))))) i p e = absurd cc
from_then (suc (suc (suc (suc (suc (suc (suc (suc (suc (suc (suc (suc (suc zero))))))))))))) i p e = absurd cc
from_then (suc (suc (suc (suc (suc (suc (suc (suc (suc (suc (suc (suc (suc (suc zero)))))))))))))) i p e = absurd cc
from_then (suc (suc (suc (suc (suc (suc (suc (suc (suc (suc (suc (suc (suc (suc
    (suc zero))))))))))))))) i p e = absurd cc
from_then (suc (suc (suc (suc (suc (suc (suc (suc (suc (suc (suc (suc (suc (suc (suc
    (suc k)))))))))))))))) i p e = absurd cc

-- the calls are taken in order by their ports too
pub in_port_order : AreTakenInPortOrder one_port_sender own_number 1 flight_homes pooled_moves
in_port_order = record { in_order = λ k i p e some. from_then k i p e }

pub pooled_calls : ((pooled 1 flight_homes own_number pooled_moves).connections 1 0).calls ≡ other_set ∷ []
unfolding pipelined_moves with_at line_limit has union single is_below adds next_from predecessor most appended entered
    trimmed left_open replies risen passed_on take_update
pooled_calls = refl

-- ---- two senders

abbrev Alone : ℕ → ℕ → ℕ → Type 0
Alone k i c =
    first_seat two_senders (two_senders c) ((served done 1 flight_homes (take k overtaken_moves)).chain.servers i).inbox
    ≡ Some c

first_alone : Alone 6 0 1
unfolding overtaken_moves with_at line_limit has union single is_below adds next_from predecessor most appended entered
    trimmed left_open replies risen passed_on take_update
first_alone = refl

second_alone : Alone 8 0 0
unfolding overtaken_moves with_at line_limit has union single is_below adds next_from predecessor most appended entered
    trimmed left_open replies risen passed_on take_update
second_alone = refl

alone_then : (k i c : ℕ) → slice_get overtaken_moves k ≡ Some (Runs (Takes i (OfSeat c))) → Alone k i c
unfolding overtaken_moves
alone_then zero i c e = absurd cc
alone_then (suc zero) i c e = absurd cc
alone_then (suc (suc zero)) i c e = absurd cc
alone_then (suc (suc (suc zero))) i c e = absurd cc
alone_then (suc (suc (suc (suc zero)))) i c e = absurd cc
alone_then (suc (suc (suc (suc (suc zero))))) i c e = absurd cc
alone_then (suc (suc (suc (suc (suc (suc zero)))))) i c e =
    subst (λ a. Alone 6 a c) (ap server_of e) (subst (λ b. Alone 6 0 b) (ap seat_of e) first_alone)
alone_then (suc (suc (suc (suc (suc (suc (suc zero))))))) i c e = absurd cc
alone_then (suc (suc (suc (suc (suc (suc (suc (suc zero)))))))) i c e =
    subst (λ a. Alone 8 a c) (ap server_of e) (subst (λ b. Alone 8 0 b) (ap seat_of e) second_alone)
alone_then (suc (suc (suc (suc (suc (suc (suc (suc (suc zero))))))))) i c e = absurd cc
alone_then (suc (suc (suc (suc (suc (suc (suc (suc (suc (suc zero)))))))))) i c e = absurd cc
alone_then (suc (suc (suc (suc (suc (suc (suc (suc (suc (suc (suc zero))))))))))) i c e = absurd cc
alone_then (suc (suc (suc (suc (suc (suc (suc (suc (suc (suc (suc (suc zero)))))))))))) i c e = absurd cc
alone_then (suc (suc (suc (suc (suc (suc (suc (suc (suc (suc (suc (suc (suc zero))))))))))))) i c e = absurd cc
alone_then (suc (suc (suc (suc (suc (suc (suc (suc (suc (suc (suc (suc (suc (suc zero)))))))))))))) i c e = absurd cc
alone_then (suc (suc (suc (suc (suc (suc (suc (suc (suc (suc (suc (suc (suc (suc (suc zero))))))))))))))) i c e =
    absurd cc
alone_then (suc (suc (suc (suc (suc (suc (suc (suc (suc (suc (suc (suc (suc (suc (suc (suc k)))))))))))))))) i c e =
    absurd cc

-- each sender's calls are taken in order,
pub each_in_order : AreTakenInOrder two_senders 1 flight_homes overtaken_moves
each_in_order = record { in_order = λ k i c e some. alone_then k i c e }

second_false : is_call_published (λ c. c) (served done 1 flight_homes (take 7 overtaken_moves)) second_call ≡ false
unfolding overtaken_moves with_at line_limit has union single is_below adds next_from predecessor most appended entered
    trimmed left_open replies risen passed_on take_update
second_false = refl

second_true : is_call_published (λ c. c) (served done 1 flight_homes (take 8 overtaken_moves)) second_call ≡ true
unfolding overtaken_moves with_at line_limit has union single is_below adds next_from predecessor most appended entered
    trimmed left_open replies risen passed_on take_update
second_true = refl

first_false : is_call_published (λ c. c) (served done 1 flight_homes (take 7 overtaken_moves)) first_call ≡ false
unfolding overtaken_moves with_at line_limit has union single is_below adds next_from predecessor most appended entered
    trimmed left_open replies risen passed_on take_update
first_false = refl

both_updates : IsMadeUpdate (served done 1 flight_homes overtaken_moves) first_call
    × IsMadeUpdate (served done 1 flight_homes overtaken_moves) second_call
unfolding overtaken_moves with_at line_limit has union single is_below adds next_from predecessor most appended entered
    trimmed left_open replies risen passed_on take_update
both_updates = ((set, refl, refl), (other_set, refl, refl))

-- the parts have two senders,
pub of_two : HaveOneSender two_senders two_parts → ⊥
of_two one =
    let first = one.sends first_part (record { place = 0; here = refl }) in
    let second = one.sends second_part (record { place = 1; here = refl }) in
    omega (arith, first, second)

-- and their updates aren't published in turn
pub not_published_in_turn : IsPublishedInTurn done (λ c. c) 1 flight_homes overtaken_moves two_parts → ⊥
not_published_in_turn p =
    let now = p.published_in_turn first_call second_call 7
    (record { place = 0; later_place = 1; earlier = lit< tt; here = refl; there = refl }) both_updates.0 both_updates.1
    second_false second_true in
    absurd (let no : false ≡ true = sym first_false ∙ now in cc)
