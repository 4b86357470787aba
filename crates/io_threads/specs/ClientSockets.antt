-- What a read or a write of a socket that waits for nothing has passed on, and whether it has failed.
use Rattle.std.specs.Prelude.{◌<◌, ℕ, List, [], take}
use Rattle.io_threads.specs.declared.client_sockets.ReadOutcome.{ReadOutcome}
use Rattle.io_threads.specs.declared.client_sockets.ReadOutcome.TheVariants.{Bytes as Read, Nothing as NothingCame, End}
use Rattle.io_threads.specs.declared.client_sockets.ReadOutcome.TheVariants.{Fault as ReadFault}
use Rattle.io_threads.specs.declared.client_sockets.WriteOutcome.{WriteOutcome}
use Rattle.io_threads.specs.declared.client_sockets.WriteOutcome.TheVariants.{Bytes as Written, Nothing as NothingWent}
use Rattle.io_threads.specs.declared.client_sockets.WriteOutcome.TheVariants.{Fault as WriteFault}

-- how many bytes came
abbrev pub came : ReadOutcome → ℕ
came (Read n) = n
came NothingCame = 0
came End = 0
came ReadFault = 0

-- the bytes that came, at the front of this slice
abbrev pub came_in : ReadOutcome → List ℕ → List ℕ
came_in (Read n) piece = take n piece
came_in NothingCame piece = []
came_in End piece = []
came_in ReadFault piece = []

-- how many bytes went
abbrev pub went : WriteOutcome → ℕ
went (Written n) = n
went NothingWent = 0
went WriteFault = 0

-- if bytes went, at least one did
abbrev pub TakesSome : WriteOutcome → Type 0
TakesSome (Written n) = 0 < n
TakesSome NothingWent = Unit {0}
TakesSome WriteFault = Unit {0}

-- the bytes that went, of this slice
abbrev pub went_out : WriteOutcome → List ℕ → List ℕ
went_out (Written n) bytes = take n bytes
went_out NothingWent bytes = []
went_out WriteFault bytes = []

-- a read that failed
abbrev pub read_faults : ReadOutcome → ℕ
read_faults (Read n) = 0
read_faults NothingCame = 0
read_faults End = 0
read_faults ReadFault = 1

-- a write that failed
abbrev pub write_faults : WriteOutcome → ℕ
write_faults (Written n) = 0
write_faults NothingWent = 0
write_faults WriteFault = 1
