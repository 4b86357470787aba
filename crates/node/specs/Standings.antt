-- Where a server stands, and the entries that a step appends.
use Rattle.std.specs.Prelude.{List}
use Rattle.versions.specs.Entries.{LogEntry}
use Rattle.versions.specs.Stores.{last_number, entries_after}
use Rattle.node.specs.declared.messages.Input.{Input}
use Rattle.node.specs.declared.standings.Standing.{Standing}
use Rattle.node.specs.Servers.{ServerState}
use Rattle.node.specs.Steps.{taken_in}

-- the servers that it knows to have failed, its last number, its commit number and its floor
abbrev pub standing : ServerState → Standing
standing s = record { view = s.view; last = last_number s.store; acked = s.store.acked; floor = s.store.floor }

-- the entries that a step appends, before the floor follows
abbrev pub entries_by : ServerState → Input → List LogEntry
entries_by s input = entries_after (taken_in s input).state.store (last_number s.store)
