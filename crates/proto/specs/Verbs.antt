-- What a storage line makes of its data block.
use Rattle.std.specs.Prelude.{ℕ, List}
use Rattle.table.specs.declared.operations.Op.{Op}
use Rattle.table.specs.declared.operations.Op.TheVariants as ops
use Rattle.proto.specs.declared.storage.Verb.{Verb}
use Rattle.proto.specs.declared.storage.Verb.TheVariants.{Set, Add, Replace, Append, Prepend, Cas}

-- the operation of a verb and its data
abbrev pub op_of : Verb → List ℕ → Op
op_of (Set flags) block = ops.Set flags block
op_of (Add flags) block = ops.Add flags block
op_of (Replace flags) block = ops.Replace flags block
op_of Append block = ops.Append block
op_of Prepend block = ops.Prepend block
op_of (Cas flags unique) block = ops.Cas flags block unique
