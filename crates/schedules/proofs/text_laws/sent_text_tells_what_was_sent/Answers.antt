use Rattle.schedules.proofs.SentTexts.{sent_text_tells}
use Rattle.schedules.proofs.text_laws.sent_text_tells_what_was_sent.Goals as goal

-- the lines that a transcript shows of what was sent are shown for no other bytes
pub returns : goal.returns
returns c = sent_text_tells
