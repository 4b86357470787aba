-- Seats whose calls go into their server's inbox by one sender, which keeps the order in which they were sent; and rows
-- all of whose calls do.
use Rattle.std.specs.Prelude.{◌≡◌, ℕ, ◌==◌, List, [], ◌∷◌, take, Option, None, Some, slice_get, IsSome}
use Rattle.std.specs.Prelude.{if◌then◌else◌}
use Rattle.node.specs.declared.messages.Input.{Input}
use Rattle.node.specs.declared.messages.Input.TheVariants.{Call as Called, From, Gone}
use Rattle.interleavings.specs.Chains.{OfSeat, first_of}
use Rattle.interleavings.specs.Moves.{Takes, done}
use Rattle.interleavings.specs.ServingMoves.{ServingMove, Runs, served}
use Rattle.interleavings.specs.Rows.{PartName, IsPart}
use Rattle.interleavings.specs.FreePorts.{PortChoice}
use Rattle.interleavings.specs.Pools.{PooledMove, Serves, pooled}

-- By which sender a seat sends its calls. Several seats may have one: in the code all seats of a thread's pool do.
abbrev pub Senders : Type 0
Senders = (c : ℕ) → ℕ

-- the seat of the first call of this sender among these inputs, if one stands there
abbrev pub first_seat : Senders → ℕ → List Input → Option ℕ
first_seat senders sender [] = None
first_seat senders sender (Called c call ∷ xs) =
    if senders c == sender then Some c else first_seat senders sender xs
first_seat senders sender (From j m ∷ xs) = first_seat senders sender xs
first_seat senders sender (Gone j ∷ xs) = first_seat senders sender xs

-- Each sender's calls are taken in the order in which they were sent: if the move after some first k takes a call of
-- seat c from an inbox, that is the first call there of its sender.
pub record AreTakenInOrder (senders : Senders) (count : ℕ) (homes : List ℕ) (moves : List ServingMove) : Type 0 where
  pub in_order : (k i c : ℕ)
      → slice_get moves k ≡ Some (Runs (Takes i (OfSeat c)))
      → IsSome (first_of (OfSeat c) ((served done count homes (take k moves)).chain.servers i).inbox)
      → first_seat senders (senders c) ((served done count homes (take k moves)).chain.servers i).inbox ≡ Some c

-- all seats of the row send by one sender
pub record HaveOneSender (senders : Senders) (row : List PartName) : Type 0 where
  pub sender : ℕ
  pub sends : (p : PartName) → IsPart row p → senders p.seat ≡ sender

-- ---- with free ports

-- By which sender calls are sent from each port of each server. In the code each port is of one pool, which has one
-- sender.
abbrev pub PortSenders : Type 0
PortSenders = (i port : ℕ) → ℕ

-- each seat sends all its calls from ports of its sender
abbrev pub AreOfSenders : PortSenders → Senders → PortChoice → List ℕ → Type 0
AreOfSenders port_senders senders ports homes =
    (c ordinal i : ℕ) → slice_get homes c ≡ Some i → port_senders i (ports c ordinal) ≡ senders c

-- Each sender's calls are taken in the order in which they were sent: if the move after some first k takes a call from
-- an inbox, that is the first call there from a port of its sender.
pub record AreTakenInPortOrder (port_senders : PortSenders) (ports : PortChoice) (count : ℕ) (homes : List ℕ)
    (moves : List PooledMove) : Type 0 where
  pub in_order : (k i port : ℕ)
      → slice_get moves k ≡ Some (Serves (Runs (Takes i (OfSeat port))))
      → IsSome (first_of (OfSeat port) ((pooled count homes ports (take k moves)).chain.servers i).inbox)
      → first_seat (port_senders i) (port_senders i port)
      ((pooled count homes ports (take k moves)).chain.servers i).inbox
      ≡ Some port
