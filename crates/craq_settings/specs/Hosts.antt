-- The hosts of a chain's servers, as words give them (docs/RUNNING.md).
use Rattle.std.specs.Prelude.{ℕ, nat_eq, List, map, replicate, Option, None, Some, String, string_bytes}
use Rattle.std.specs.Global.{Global}
use Rattle.std.specs.List.{slice_split}
use Rattle.command_line.specs.declared.processes.Hosts.{Hosts}

-- the bytes of texts
abbrev pub texts : List (String Global) → List (List ℕ)
texts hosts = map (λ host. string_bytes host) hosts

-- those of a list, in which commas stand between them
abbrev pub listed : List ℕ → List (List ℕ)
listed peers = slice_split (λ b. nat_eq b 44) peers

-- those of the list if there is one, else the address for each server
abbrev pub given : Option (String Global) → List ℕ → ℕ → List (List ℕ)
given None address servers = replicate servers address
given (Some peers) address servers = listed (string_bytes peers)

-- the host of each server, by its id
abbrev pub hosts_of : Hosts → ℕ → List (List ℕ)
hosts_of hosts servers = given hosts.peers (string_bytes hosts.address) servers
