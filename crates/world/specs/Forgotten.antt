-- That no call is forgotten.
use Rattle.std.specs.Prelude.{◌≡◌, true}
use Rattle.world.specs.Worlds.{World}
use Rattle.world.specs.Calls.{CallId, IsBegun, IsAnswered, has_living_home}
use Rattle.world.specs.Quiet.{is_quiet}

-- if the world is quiet, each begun call at a living home is answered
abbrev pub NoneForgotten : World → Type 0
NoneForgotten w = is_quiet w ≡ true → (x : CallId) → IsBegun w x → has_living_home w x ≡ true → IsAnswered w x
