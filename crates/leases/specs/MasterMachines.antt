-- The master's side: all that it decides, by its claim to an epoch and a server record for each server.
use Rattle.std.specs.Prelude.{ℕ, ◌+◌, ◌-◌, ◌/◌, ◌^◌, max, bit_or, nat_le, Bool, true, false, not, ◌&&◌, if◌then◌else◌}
use Rattle.std.specs.Prelude.{List, map, slice_index_or, slice_set}
use Rattle.std.specs.List.{range_with_len}
use Rattle.leases.specs.declared.orders.Report.{Report}
use Rattle.leases.specs.declared.server_records.Due.{Due}
use Rattle.leases.specs.Sets.{has_all}
use Rattle.leases.specs.Watching.{done, is_watched}
use Rattle.leases.specs.ServerRecords.{ServerRecordState, unmet, begun, lost, spared, heard_from, watch_due_of, due_for}
use Rattle.leases.specs.Claims.{ClaimState, unclaimed, informed, is_reigning, is_due, claimed}

-- What a master knows. Server i is the bit of value 2^i; times are what the master's clock shows.
pub record MasterMachineState : Type 0 where
  pub claim : ClaimState
  -- one for each server, by its id
  pub server_records : List ServerRecordState
  -- all servers of the chain
  pub chain : ℕ
  -- those that told how they are, or are gone
  pub met : ℕ
  -- if nobody was heard for so long it is cut off
  pub patience : ℕ
  -- when anybody that wasn't called silent was heard for the last time, or it was late itself
  pub heard : ℕ
  -- when it asked for the last time what is due
  pub asked : ℕ

-- all servers of a chain of n servers
abbrev pub all_of : ℕ → ℕ
all_of servers = 2 ^ servers - 1

-- all of them but this one
abbrev pub others_of : ℕ → ℕ → ℕ
others_of servers id = all_of servers - 2 ^ id

-- what is known of a server of a chain of n servers at first: nothing
abbrev pub unmet_in : ℕ → ℕ → ℕ → ℕ → ServerRecordState
unmet_in servers beat after id = unmet id (others_of servers id) beat after

-- a server record for each of the n servers of the chain
abbrev pub unmet_below : ℕ → ℕ → ℕ → ℕ → List ServerRecordState
unmet_below servers beat after count = map (unmet_in servers beat after) (range_with_len 0 count)

-- for how long nobody is heard before it is cut off: a beat, and half of what a silence is longer than that
abbrev pub patience_of : ℕ → ℕ → ℕ
patience_of beat after = beat + (after - beat) / 2

-- it has just started
abbrev pub started : ℕ → ℕ → ℕ → ℕ → ℕ → MasterMachineState
started name servers beat after now = record {
  claim = unclaimed name after now;
  server_records = unmet_below servers beat after servers;
  chain = all_of servers;
  met = 0;
  patience = patience_of beat after;
  heard = now;
  asked = now;
}

-- what is known of a server that the chain hasn't
abbrev pub nobody : ServerRecordState
nobody = unmet 0 0 0 0

-- the server record of a server
abbrev pub server_record : List ServerRecordState → ℕ → ServerRecordState
server_record server_records id = slice_index_or server_records id nobody

-- each server record hears what a server told
abbrev pub all_heard : List ServerRecordState → ℕ → Report → ℕ → List ServerRecordState
all_heard server_records from report now = map (λ w. heard_from w from report now) server_records

-- in each server record another epoch begins
abbrev pub all_begun : List ServerRecordState → ℕ → List ServerRecordState
all_begun server_records epoch = map (λ w. begun w epoch) server_records

-- each server is spared: it isn't called silent before it answers once more
abbrev pub all_spared : List ServerRecordState → List ServerRecordState
all_spared server_records = map (λ w. spared w) server_records

-- it asked what is due too long ago, so beats went out too late
abbrev pub is_late : MasterMachineState → ℕ → Bool
is_late m now = nat_le m.patience (now - m.asked)

-- It is cut off: nobody was heard for too long, though beats went out in time.
abbrev pub is_cut_off : MasterMachineState → ℕ → Bool
is_cut_off m now = nat_le m.patience (now - m.heard) && not (is_late m now)

-- once it is cut off, it spares each server
abbrev pub sparing : MasterMachineState → ℕ → MasterMachineState
sparing m now =
    record m { server_records = (if is_cut_off m now then all_spared m.server_records else m.server_records) }

-- When anybody was heard for the last time, once this server told how it is. One that was called silent doesn't count:
-- it answers beats of before, and ends.
abbrev pub heard_then : MasterMachineState → ℕ → ℕ → ℕ
heard_then m from now =
    if is_watched (server_record m.server_records from).watch.standing then max m.heard now else m.heard

-- a server told how it is: the claim learns it by the end of the lease that was known before
abbrev pub heard_by : MasterMachineState → ℕ → Report → ℕ → MasterMachineState
heard_by m from report now = record m {
  claim = informed m.claim report (server_record m.server_records from).end now;
  server_records = all_heard m.server_records from report now;
  met = bit_or m.met (bit_or (2 ^ from) report.gone);
  heard = heard_then m from now;
}

-- another epoch has followed that of a master which reigned, or didn't, before it learned that
abbrev pub is_followed : Bool → ClaimState → Bool
is_followed reigned claim = reigned && not (is_reigning claim)

-- if it was followed, each server record begins anew, without an epoch
abbrev pub stood_down : MasterMachineState → Bool → MasterMachineState
stood_down m false = m
stood_down m true = record m { server_records = all_begun m.server_records 0 }

-- it was followed by what a server told
abbrev pub is_followed_by : MasterMachineState → ℕ → Report → ℕ → Bool
is_followed_by m from report now = is_followed (is_reigning m.claim) (heard_by m from report now).claim

-- a server told how it is, once each is spared if the master was cut off
abbrev pub told : MasterMachineState → ℕ → Report → ℕ → MasterMachineState
told m from report now =
    stood_down (heard_by (sparing m now) from report now) (is_followed_by (sparing m now) from report now)

-- it is to take a new epoch
abbrev pub may_claim : MasterMachineState → ℕ → Bool
may_claim m now = is_due m.claim (has_all m.met m.chain) now

-- it has taken this epoch, and each server record begins anew in it
abbrev pub epoch_taken : MasterMachineState → ℕ → ℕ → MasterMachineState
epoch_taken m epoch now = record m { claim = claimed m.claim epoch now; server_records = all_begun m.server_records epoch }

-- a server does nothing more
abbrev pub given_up : MasterMachineState → ℕ → MasterMachineState
given_up m id = record m {
  server_records = slice_set m.server_records id (lost (server_record m.server_records id));
  met = bit_or m.met (2 ^ id);
}

-- what is due for a server
abbrev pub due_at : List ServerRecordState → ℕ → ℕ → Due
due_at server_records id now =
    due_for (server_record server_records id) (watch_due_of (server_record server_records id) now)

-- it asks what is due; if that is late, the time for which nobody is heard counts from now on
abbrev pub attended : MasterMachineState → ℕ → MasterMachineState
attended m now = record m { heard = (if is_late m now then now else m.heard); asked = now }

-- it counts as done
abbrev pub asked : ServerRecordState → ℕ → ServerRecordState
asked w now = record w { watch = done w.watch now (watch_due_of w now) }

abbrev pub asked_at : List ServerRecordState → ℕ → ℕ → List ServerRecordState
asked_at server_records id now = slice_set server_records id (asked (server_record server_records id) now)

-- what it knows once it asked what is due for a server, each being spared if it is cut off
abbrev pub after_asking : MasterMachineState → ℕ → ℕ → MasterMachineState
after_asking m id now = record (attended m now) { server_records = asked_at (sparing m now).server_records id now }
