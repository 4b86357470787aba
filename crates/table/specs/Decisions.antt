-- What one operation answers and does: one line a case.
use Rattle.std.specs.Prelude.{ℕ, ◌+◌, ◌-◌, ◌^◌, ◌%◌, ◌==◌, nat_le, List, ◌++◌, length, Option, None, Some, decimal}
use Rattle.std.specs.Prelude.{if◌then◌else◌}
use Rattle.table.specs.Items.{limit, Item}
use Rattle.table.specs.Numbers.{counter_of}
use Rattle.table.specs.declared.operations.Op.{Op}
use Rattle.table.specs.declared.operations.Op.TheVariants.{Read, Set, Add, Replace, Append, Prepend, Cas, Incr, Decr}
use Rattle.table.specs.declared.operations.Op.TheVariants.{Delete, Flush}
use Rattle.table.specs.declared.operations.Reply.{Reply}
use Rattle.table.specs.declared.operations.Reply.TheVariants.{Stored, NotStored, Exists, NotFound, Deleted, Number}
use Rattle.table.specs.declared.operations.Reply.TheVariants.{Value, TooLarge, NotNumber, Flushed}
use Rattle.table.specs.declared.operations.Change.{Change}
use Rattle.table.specs.declared.operations.Change.TheVariants.{Keep, Put, Drop, Clear}

-- a reply, and a change
abbrev pub Decision : Type 0
Decision = Reply × Change

-- the item is put, with the operation's number as its unique
abbrev pub put : ℕ → List ℕ → ℕ → Change
put flags bytes number = Put (record { flags = flags; bytes = bytes; unique = number })

-- an item whose data grew: it keeps its flags, and is refused if it would exceed the size limit
abbrev pub grown : ℕ → List ℕ → ℕ → Decision
grown flags bytes number = if nat_le (length bytes) limit then (Stored, put flags bytes number) else (TooLarge, Keep)

-- a counter's new value, as decimal digits without padding: the item keeps its flags
abbrev pub counted : ℕ → ℕ → ℕ → Decision
counted flags value number = (Number value, put flags (decimal value) number)

-- more, wrapping at 2^64
abbrev pub raised : ℕ → Option ℕ → ℕ → ℕ → Decision
raised flags None amount number = (NotNumber, Keep)
raised flags (Some old) amount number = counted flags ((old + amount) % (2 ^ 64)) number

-- less, stopping at 0
abbrev pub lowered : ℕ → Option ℕ → ℕ → ℕ → Decision
lowered flags None amount number = (NotNumber, Keep)
lowered flags (Some old) amount number = counted flags (old - amount) number

-- the reply and the change of an operation at a key that has this item or none, under this number
-- (protocol.txt, "Storage commands", "Retrieval command", "Deletion", "Increment/Decrement", and "Other commands" on
-- flush_all;
-- that an item's unique is its number, and what counts as a counter, are this project's rules)
abbrev pub decision : Option Item → Op → ℕ → Decision
decision item Read number = (Value item, Keep)
decision item (Set flags bytes) number = (Stored, put flags bytes number)
decision None (Add flags bytes) number = (Stored, put flags bytes number)
decision (Some old) (Add flags bytes) number = (NotStored, Keep)
decision None (Replace flags bytes) number = (NotStored, Keep)
decision (Some old) (Replace flags bytes) number = (Stored, put flags bytes number)
decision None (Append bytes) number = (NotStored, Keep)
decision (Some old) (Append bytes) number = grown old.flags (old.bytes ++ bytes) number
decision None (Prepend bytes) number = (NotStored, Keep)
decision (Some old) (Prepend bytes) number = grown old.flags (bytes ++ old.bytes) number
decision None (Cas flags bytes unique) number = (NotFound, Keep)
decision (Some old) (Cas flags bytes unique) number =
    if old.unique == unique then (Stored, put flags bytes number) else (Exists, Keep)
decision None (Incr amount) number = (NotFound, Keep)
decision (Some old) (Incr amount) number = raised old.flags (counter_of old.bytes) amount number
decision None (Decr amount) number = (NotFound, Keep)
decision (Some old) (Decr amount) number = lowered old.flags (counter_of old.bytes) amount number
decision None Delete number = (NotFound, Keep)
decision (Some old) Delete number = (Deleted, Drop)
decision item Flush number = (Flushed, Clear)
