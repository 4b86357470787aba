-- The bytes that a block holds.
use Rattle.std.specs.Prelude.{ℕ, List, take}
use Rattle.table.specs.declared.shared_bytes.Block.{Block}
use Rattle.table.specs.declared.shared_bytes.Block.TheVariants as blocks

-- the first ones of a row of fixed length, or all of a vector
abbrev pub bytes_in : Block → List ℕ
bytes_in (blocks.Few count places) = take count places
bytes_in (blocks.More bytes) = bytes.items
