use Rattle.std.specs.Prelude.{flat_map}
use Rattle.schedules.specs.Escapes.{escape}
use Rattle.schedules.proofs.EscapeLaws.{escaped_spells, spelled_bytes_read}
use Rattle.schedules.proofs.text_laws.escaped_bytes_are_read_back.Goals as goal

-- what a transcript shows for bytes is read back as them
pub returns : goal.returns
returns c bytes small = spelled_bytes_read bytes (flat_map escape bytes) (escaped_spells bytes small)
