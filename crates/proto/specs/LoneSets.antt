-- A plain `set` at the front of a stream, which the code finds by a short way. (This serves the code; no public
-- contract needs it.)
use Rattle.std.specs.Prelude.{◌≡◌, ℕ, ◌^◌, ◌≤◌, Bool, if◌then◌else◌, List, ◌∷◌, ◌++◌, length, Some, codes}
use Rattle.std.specs.List.{join_with_byte}
use Rattle.table.specs.Items.{limit}
use Rattle.table.specs.Numbers.{number_of}
use Rattle.table.specs.declared.operations.Op.TheVariants as ops
use Rattle.proto.specs.declared.front.Found.TheVariants.{Request as Requested}
use Rattle.proto.specs.declared.requests.Request.TheVariants.{Store}
use Rattle.proto.specs.declared.lone_sets.LoneSet.{LoneSet}
use Rattle.proto.specs.Words.{space, crlf}
use Rattle.proto.specs.Grammar.{noreply}
use Rattle.proto.specs.Fronts.{found_at}

-- a number of at most ten digits stands at the front, then this text, and then these bytes
pub record IsNumberBefore (text bytes : List ℕ) (number : ℕ) (rest : List ℕ) : Type 0 where
  pub field : List ℕ
  pub bytes_are : bytes ≡ field ++ (text ++ rest)
  pub number_is : number_of (2 ^ 32) field ≡ Some number
  pub short : length field ≤ 10

-- what stands after the size in the line of a set
abbrev pub ending : Bool → List ℕ
ending silent = if silent then codes " noreply\r\n" else crlf

-- set <key> <flags> 0 <bytes> [noreply], a block of as many bytes, CR LF, and then these bytes. Whether the key is one
-- is left open.
pub record IsPlainSet (bytes key : List ℕ) (flags : ℕ) (silent : Bool) (block rest : List ℕ) : Type 0 where
  pub flags_field : List ℕ
  pub size_field : List ℕ
  pub bytes_are : bytes
      ≡ join_with_byte space (codes "set" ∷ key ∷ flags_field ∷ codes "0" ∷ size_field ∷ noreply silent) ++ crlf
      ++ block ++ crlf ++ rest
  pub flags_are : number_of (2 ^ 32) flags_field ≡ Some flags
  pub size_is : number_of (2 ^ 32) size_field ≡ Some (length block)
  pub few_flags : length flags_field ≤ 10
  pub few_sizes : length size_field ≤ 10
  pub fits : length block ≤ limit

-- this `set` stands whole at the front
pub record IsAtFront (set : LoneSet) (bytes : List ℕ) : Type 0 where
  pub found : found_at bytes ≡ Requested (Store set.key (ops.Set set.flags set.block) set.silent) set.end
  pub within : set.end ≤ length bytes
  pub fits : length set.block ≤ limit
