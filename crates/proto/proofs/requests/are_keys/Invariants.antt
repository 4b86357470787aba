use Rattle.std.proofs.Common.{◌≡◌, length}
use Rattle.std.specs.List.{list_all}
use Rattle.table.specs.Keys.{is_key}
use Rattle.proto.specs.Words.{fields_of}
use Rattle.proto.proofs.requests.are_keys.Given as goal

-- all fields are keys exactly if those that are left are
abbrev pub invariant-loop-field : goal.invariant-loop-field
invariant-loop-field l = list_all is_key l.fields ≡ list_all is_key (fields_of l.text)

-- each round one field less is left
abbrev pub decreases-loop-field : goal.decreases-loop-field
decreases-loop-field l = length l.fields
