-- Which operations fit, where they aim, which take a number, and which replies they can have.
use Rattle.std.specs.Prelude.{◌≡◌, ◌≤◌, length, Bool, true, false}
use Rattle.table.specs.Items.{limit}
use Rattle.table.specs.declared.operations.Target.{Target}
use Rattle.table.specs.declared.operations.Target.TheVariants.{One, All}
use Rattle.table.specs.declared.operations.Op.{Op}
use Rattle.table.specs.declared.operations.Op.TheVariants.{Read, Set, Add, Replace, Append, Prepend, Cas, Incr, Decr}
use Rattle.table.specs.declared.operations.Op.TheVariants.{Delete, Flush}
use Rattle.table.specs.declared.operations.Reply.{Reply}
use Rattle.table.specs.declared.operations.Reply.TheVariants.{Value}

-- the operation's data is within the limit
abbrev pub Fits : Op → Type 0
Fits Read = Unit {0}
Fits (Set flags bytes) = length bytes ≤ limit
Fits (Add flags bytes) = length bytes ≤ limit
Fits (Replace flags bytes) = length bytes ≤ limit
Fits (Append bytes) = length bytes ≤ limit
Fits (Prepend bytes) = length bytes ≤ limit
Fits (Cas flags bytes unique) = length bytes ≤ limit
Fits (Incr amount) = Unit {0}
Fits (Decr amount) = Unit {0}
Fits Delete = Unit {0}
Fits Flush = Unit {0}

-- an operation on all keys at once, and not on one
abbrev pub is_flush : Op → Bool
is_flush Flush = true
is_flush op = false

-- the target is all keys
abbrev pub is_all : Target → Bool
is_all (One key) = false
is_all All = true

-- the operation aims at all keys exactly if it is a flush (this project's rule)
abbrev pub Suits : Target → Op → Type 0
Suits target op = is_flush op ≡ is_all target

-- an operation that takes a number: every one but a read (this project's rule)
abbrev pub is_update : Op → Bool
is_update Read = false
is_update op = true

-- a reply that shows a key's item, as a read has it and no other operation
abbrev pub is_value : Reply → Bool
is_value (Value item) = true
is_value reply = false
