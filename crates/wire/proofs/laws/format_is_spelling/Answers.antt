use Rattle.std.proofs.Common.{sym, subst}
use Rattle.wire.specs.Grammar.{frame}
use Rattle.wire.proofs.SpelledFrames.{frame_from, frame_to}
use Rattle.wire.proofs.laws.format_is_spelling.Goals as goal

-- the format spells each frame that is in range, by its one spelling, and nothing else
pub returns : goal.returns
returns c = λ f bytes. (frame_from f bytes, λ h. subst (λ text. frame.Spells f text) (sym h.1) (frame_to f h.0))
