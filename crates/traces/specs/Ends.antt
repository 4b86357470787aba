-- How a run ends, in lines (docs/FORMATS.md, "Trace").
use Rattle.std.specs.Prelude.{ℕ, ◌-◌, ◌^◌, Bool, List, ◌++◌, length, take, flat_map, slice_index_or}
use Rattle.std.specs.Prelude.{if◌then◌else◌, codes}
use Rattle.node.specs.declared.messages.Peer.{Peer}
use Rattle.node.specs.declared.servers.OpenUpdate.{OpenUpdate}
use Rattle.node.specs.declared.servers.OpenRead.{OpenRead}
use Rattle.node.specs.declared.standings.Standing.{Standing}
use Rattle.node.specs.Servers.{ServerState}
use Rattle.node.specs.Standings.{standing}
use Rattle.node.specs.Views.{View}
use Rattle.schedules.specs.Settling.{first_numbers}
use Rattle.world.specs.Worlds.{World, link, lives, nobody}
use Rattle.traces.specs.Words.{labelled, spelled, call_text, message_text, view_text}

-- the numbers of a server
abbrev pub numbers_text : Standing → List ℕ
numbers_text s =
    labelled (codes ", last ") s.last ++ labelled (codes ", acknowledged ") s.acked
    ++ labelled (codes ", floor ") s.floor

-- the servers that it knows to have failed
abbrev pub knows_text : View → List ℕ
knows_text view = codes ", knows failed" ++ view_text view ++ codes "\n"

-- whether it lives
abbrev pub life_text : Bool → List ℕ
life_text alive = if alive then codes " lives" else codes " has failed"

-- that, and where it stands
abbrev pub standing_line : ℕ → Bool → Standing → List ℕ
standing_line i alive s = labelled (codes "  server ") i ++ life_text alive ++ numbers_text s ++ knows_text s.view

-- an update call without a reply
unfoldable pub update_line : OpenUpdate → List ℕ
update_line update =
    labelled (codes "    open update ") update.id ++ labelled (codes " of connection ") update.port ++ codes ": "
    ++ call_text update.call ++ codes "\n"

-- a read that waits for the tail's answer
unfoldable pub read_line : OpenRead → List ℕ
read_line read =
    labelled (codes "    open read ") read.ask ++ labelled (codes " of connection ") read.port
    ++ spelled (codes ": ") read.key ++ labelled (codes ", asked at ") read.lower_bound ++ codes "\n"

-- a server, and its open calls
unfoldable pub server_lines : ℕ → Bool → ServerState → List ℕ
server_lines i alive s =
    standing_line i alive (standing s) ++ flat_map update_line s.pend ++ flat_map read_line s.asks

-- server i of a world
abbrev pub server_of : World → ℕ → List ℕ
server_of w i = server_lines i (lives w i) (slice_index_or w.servers i nobody)

-- the servers of a world that are below a count
unfoldable pub servers_below : World → ℕ → List ℕ
servers_below w count = flat_map (server_of w) (first_numbers count)

-- all of them
unfoldable pub servers_text : World → List ℕ
servers_text w = servers_below w (length w.servers)

-- a message that is on its way
unfoldable pub message_line : ℕ → ℕ → Peer → List ℕ
message_line i j message =
    labelled (codes "  link from server ") i ++ labelled (codes " to server ") j ++ codes ": " ++ message_text message
    ++ codes "\n"

-- the first messages, at most n, on the link from server i to server j
unfoldable pub link_lines : World → ℕ → ℕ → ℕ → List ℕ
link_lines w i j most = flat_map (message_line i j) (take most (link w i j))

-- more messages than any memory holds
abbrev pub most_messages : ℕ
most_messages = 2 ^ 64 - 1

-- all of them
abbrev pub link_of : World → ℕ → ℕ → List ℕ
link_of w i j = link_lines w i j most_messages

-- those from server i to the servers below a count
unfoldable pub links_below : World → ℕ → ℕ → List ℕ
links_below w count i = flat_map (link_of w i) (first_numbers count)

-- those from the servers below the second count to the servers below the first
unfoldable pub all_links_below : World → ℕ → ℕ → List ℕ
all_links_below w count froms = flat_map (links_below w count) (first_numbers froms)

-- those of all links
unfoldable pub links_text : World → List ℕ
links_text w = all_links_below w (length w.servers) (length w.servers)

-- a line for each server, one for each of its open calls, and one for each message that is on its way
unfoldable pub end_text : World → List ℕ
end_text w = codes "after the last event\n" ++ servers_text w ++ links_text w
