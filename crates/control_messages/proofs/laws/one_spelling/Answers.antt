use Rattle.std.proofs.Common.{sym, ◌∙◌}
use Rattle.control_messages.proofs.laws.one_spelling.Goals as goal

-- both are the bytes of the message's numbers
pub returns : goal.returns
returns c = λ m bytes others s t. s.same ∙ sym t.same
