use Rattle.proto.proofs.RunTexts.{output_is_texts}
use Rattle.proto.proofs.runs.output_is_texts.Goals as goal

-- the output, taken and left, is the texts of the turns that were given, with what their calls came to
pub returns : goal.returns
returns c = output_is_texts
