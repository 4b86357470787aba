-- The quiet world.
use Rattle.std.specs.Prelude.{ℕ, zero, suc, Bool, true, false, not, ◌&&◌, ◌||◌, ◌==◌, length}
use Rattle.std.specs.List.{list_all}
use Rattle.world.specs.declared.connections.Stage.{Stage}
use Rattle.world.specs.declared.connections.Stage.TheVariants.{Idle, Begun, Asked, Replied}
use Rattle.world.specs.Links.{is_empty}
use Rattle.world.specs.Worlds.{World, server, link, lives}

-- a begun call waits for its work, or a reply for its hand
abbrev pub waits : Stage → Bool
waits Idle = false
waits Begun = true
waits Asked = false
waits (Replied reply) = true

-- the test holds of each number below this one
abbrev pub all_below : ℕ → (ℕ → Bool) → Bool
all_below zero test = true
all_below (suc n) test = all_below n test && test n

-- no link to server j holds a message, and its view is the set of the failed servers
abbrev pub is_server_quiet : World → ℕ → Bool
is_server_quiet w j = all_below (length w.servers) (λ i. is_empty (link w i j)) && (server w j).view == w.failed

-- nothing waits at living servers: no message for them, no failure that they don't know, no call or reply at their
-- connections
abbrev pub is_quiet : World → Bool
is_quiet w =
    all_below (length w.servers) (λ j. not (lives w j) || is_server_quiet w j)
    && list_all (λ k. not (lives w k.home && waits k.stage)) w.connections
