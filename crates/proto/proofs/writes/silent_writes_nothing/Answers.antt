use Rattle.proto.proofs.WriteLaws.{silent_writes_nothing}
use Rattle.proto.proofs.writes.silent_writes_nothing.Goals as goal

-- a silent call writes nothing, whatever it came to
pub returns : goal.returns
returns c = silent_writes_nothing
