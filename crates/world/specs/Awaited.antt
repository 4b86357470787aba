-- Replies that are awaited: none of them is without effect.
use Rattle.std.specs.Prelude.{◌≡◌, ℕ, true, List, [], ◌∷◌, Some, slice_get}
use Rattle.table.specs.declared.operations.Reply.{Reply}
use Rattle.node.specs.declared.messages.Output.{Output}
use Rattle.node.specs.declared.messages.Output.TheVariants.{To, Reply as Replied}
use Rattle.world.specs.declared.connections.Stage.TheVariants.{Asked}
use Rattle.world.specs.Connections.{Connection, open_call, may_have, replied, changed_at}

-- the c-th connection is at server i, its call is with that server, and may have this reply
pub record IsAwaited (ks : List Connection) (i c : ℕ) (reply : Reply) : Type 0 where
  pub connection : Connection
  pub here : slice_get ks c ≡ Some connection
  pub home : connection.home ≡ i
  pub stage : connection.stage ≡ Asked
  pub fits : may_have (open_call connection) reply ≡ true

-- so is each reply among these outputs of server i, if they are put out in order
abbrev pub AreAwaited : List Connection → ℕ → List Output → Type 0
AreAwaited ks i [] = Unit {0}
AreAwaited ks i (To j peer ∷ os) = AreAwaited ks i os
AreAwaited ks i (Replied c reply ∷ os) =
    IsAwaited ks i c reply × AreAwaited (changed_at ks c (λ k. replied k.stage reply k)) i os
