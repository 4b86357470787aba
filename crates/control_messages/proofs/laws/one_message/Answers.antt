use Rattle.control_messages.proofs.WholeMessages as messages
use Rattle.control_messages.proofs.laws.one_message.Goals as goal

-- no bytes spell two messages
pub returns : goal.returns
returns c = messages.one_message
