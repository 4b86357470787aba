use Rattle.wire.proofs.FrontLaws.{first_to, front_takes}
use Rattle.wire.proofs.stream_laws.frame_takes_bytes.Goals as goal

-- a frame takes a byte at least
pub returns : goal.returns
returns c = λ f bytes rest h. front_takes bytes f rest (first_to bytes f rest h)
