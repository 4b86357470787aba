use Rattle.interleavings.proofs.asking.Spelling.{is_spelled}
use Rattle.interleavings.proofs.laws.asked_calls_are_spelled.Goals as goal

pub returns : goal.returns
returns c call asked = is_spelled call asked
