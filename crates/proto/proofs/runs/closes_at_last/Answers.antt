use Rattle.proto.proofs.RunLaws.{gives_all, closes_at_last}
use Rattle.proto.proofs.runs.closes_at_last.Goals as goal

-- a session with no turn to give has given all, and is closed exactly if the stream has come to its last request
pub returns : goal.returns
returns c = record { all = gives_all; closed = closes_at_last }
