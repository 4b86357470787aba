-- What faults come from.
use Rattle.std.proofs.Common.{◌≡◌, ◌∙◌, ◌+◌, true, ap, sym, subst}
use Rattle.serving.specs.Connections.{Connected}
use Rattle.serving.specs.declared.endings.ServeFault.{ServeFault}
use Rattle.serving.specs.declared.endings.ServeFault.TheVariants.{Memory, Read as Unread, Write as Unwritten}
use Rattle.serving.specs.declared.endings.ServeFault.TheVariants.{Call as NoReply}
use Rattle.seats.specs.ClientConnections.{HasCause}
use Rattle.seats.specs.SeatPools.{HasNoFault, HasOneFault, Pooling}

-- memory was refused to the connection
pub memory_caused : (fault : ServeFault) (c : Connected) (p q : Pooling) → fault ≡ Memory → c.failed ≡ true
    → HasCause fault c p q
memory_caused fault c p q e failed = subst (λ f. HasCause f c p q) (sym e) failed

-- one call more got no reply
pub reply_caused : (fault : ServeFault) (c : Connected) (p q : Pooling) → fault ≡ NoReply → HasOneFault p q
    → HasCause fault c p q
reply_caused fault c p q e one = subst (λ f. HasCause f c p q) (sym e) one

-- none had got none before
pub caused_after : (fault : ServeFault) (c : Connected) (p q r : Pooling) → HasNoFault p q → HasCause fault c q r
    → HasCause fault c p r
caused_after Memory c p q r same cause = cause
caused_after Unread c p q r same cause = cause
caused_after Unwritten c p q r same cause = cause
caused_after NoReply c p q r same cause = cause ∙ ap (λ n. n + 1) same

-- and none did after that
pub caused_then : (fault : ServeFault) (c : Connected) (p q r : Pooling) → HasCause fault c p q → HasNoFault q r
    → HasCause fault c p r
caused_then Memory c p q r cause same = cause
caused_then Unread c p q r cause same = cause
caused_then Unwritten c p q r cause same = cause
caused_then NoReply c p q r cause same = same ∙ cause
