-- What calls come to, by whoever answers them, and how a stream is left.
use Rattle.std.specs.Prelude.{◌≡◌, Bool, true, false, List, [], ◌∷◌}
use Rattle.table.specs.declared.operations.Call.{Call}
use Rattle.table.specs.declared.operations.Reply.{Reply}
use Rattle.proto.specs.Turns.{Outcome, Replied, Refused, is_store}
use Rattle.serving.specs.declared.endings.End.{End}
use Rattle.serving.specs.declared.endings.End.TheVariants.{Input, Closed}

-- A call came to this, and made of the value of whoever answers calls another one: a reply, by what `answers` says of a
-- call, its reply, and the values before and after it; or it was refused: then it stores, and wasn't made, so the value
-- stays as it was.
abbrev pub CameTo : {V : Type 0} → (V → Call → Reply → V → Type 0) → V → Call → Outcome → V → Type 0
CameTo answers v c (Replied r) w = answers v c r w
CameTo answers v c Refused w = (is_store c.op ≡ true) × (w ≡ v)

-- These calls came to this, one after another, and made of the first value the last one.
abbrev pub AreAnswered : {V : Type 0} → (V → Call → Reply → V → Type 0) → V → List Call → List Outcome → V → Type 0
AreAnswered answers v [] [] w = w ≡ v
AreAnswered answers v [] (o ∷ os) w = ⊥
AreAnswered answers v (c ∷ cs) [] w = ⊥
AreAnswered {V} answers v (c ∷ cs) (o ∷ os) w = (u : V) × CameTo answers v c o u × AreAnswered answers u cs os w

-- how a stream is left: open at the input's end, or closed by a request after which there is none
abbrev pub is_closed : End → Bool
is_closed Input = false
is_closed Closed = true
