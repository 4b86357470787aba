-- When a server confirms what links brought it (this project's rule). Times are nanoseconds of one clock.
use Rattle.std.specs.Prelude.{ℕ, ◌+◌, ◌-◌, ◌^◌, Option, None, Some, min, nat_le, nat_lt, nat_eq, if◌then◌else◌}
use Rattle.craq_server.specs.declared.confirmations.ConfirmationDue.{ConfirmationDue}
use Rattle.craq_server.specs.declared.confirmations.ConfirmationDue.TheVariants.{Nothing, At, Now}

-- what is due if little is unconfirmed: at the time that was set, else, if there is anything, after the delay
abbrev pub due_of_little : Option ℕ → ℕ → ℕ → ℕ → ConfirmationDue
due_of_little None unconfirmed delay now =
    if nat_eq unconfirmed 0 then Nothing else At (min (now + delay) (2 ^ 64 - 1))
due_of_little (Some at) unconfirmed delay now = if nat_lt now at then At at else Now

-- what is due: from 1 MiB on at once
abbrev pub due : Option ℕ → ℕ → ℕ → ℕ → ConfirmationDue
due at unconfirmed delay now =
    if nat_le 1048576 unconfirmed then Now else due_of_little at unconfirmed delay now
