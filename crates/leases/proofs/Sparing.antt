-- A master that is cut off tells no server that it is gone for its silence.
use Rattle.std.proofs.Common.{◌≡◌, ◌≢◌, ℕ, ◌-◌, ◌<◌, nat_le, inl, inr, Bool, true, false, not, ◌&&◌, List, length, map}
use Rattle.std.proofs.Common.{get_or, Option, None, Some, if◌then◌else◌, refl, ap, sym, ◌∙◌}
use Rattle.std.proofs.lemmas.Bool.{cases_Bool}
use Rattle.std.proofs.lemmas.List.{length-map, get_or-map}
use Rattle.leases.specs.declared.orders.Order.TheVariants as orders
use Rattle.leases.specs.declared.watches.WatchStanding.{WatchStanding}
use Rattle.leases.specs.declared.watches.WatchStanding.TheVariants.{Watched, Told, Over, Gone}
use Rattle.leases.specs.declared.watches.WatchDue.{WatchDue}
use Rattle.leases.specs.declared.watches.WatchDue.TheVariants.{Wait, Beat, TellServer, TellSilent, TellGone}
use Rattle.leases.specs.declared.server_records.Due.TheVariants as dues
use Rattle.leases.specs.Clocks.{wait_for}
use Rattle.leases.specs.Watching.{WatchState, due, watched_due, told_due, standing_due, is_silent, is_late, gives_up}
use Rattle.leases.specs.Watching.{brought}
use Rattle.leases.specs.ServerRecords.{ServerRecordState, spared, watch_due_of, due_for}
use Rattle.leases.specs.MasterMachines.{MasterMachineState, is_cut_off, sparing, all_spared, server_record, nobody}
use Rattle.leases.specs.MasterMachines.{due_at}

-- who is cut off has as many server records as before
pub spared_count : (m : MasterMachineState) (now : ℕ) → length (sparing m now).server_records ≡ length m.server_records
spared_count m now = by_cut (is_cut_off m now)
  where
    by_cut : (cut : Bool) → length (if cut then all_spared m.server_records else m.server_records) ≡ length
        m.server_records
    by_cut true = length-map m.server_records (λ (w : ServerRecordState). spared w)
    by_cut false = refl

-- a server that is spared isn't called silent
not_given_up : (silent spared : Bool) → spared ≡ true → (silent && not spared) ≡ false
not_given_up true true is = refl
not_given_up false true is = refl
not_given_up true false is = absurd (let no : ⊥ = cc in no)
not_given_up false false is = refl

told_waits : (term : Option ℕ) (beat silence : ℕ) → told_due term beat silence ≡ TellServer → ⊥
told_waits None beat silence says = cc
told_waits (Some t) beat silence says =
    elim (cases_Bool (nat_le (wait_for t) silence)) [
      | inl waited ↦ (let wrong = rw waited at says in let no : ⊥ = cc in no)
      | inr early ↦ (let wrong = rw early at says in let no : ⊥ = cc in no)
    ]

watched_waits : (gives beats : Bool) (stamp : Option ℕ) (span : ℕ)
    → gives ≡ false
    → (if gives then TellServer else (if beats then Beat stamp else Wait span)) ≡ TellServer
    → ⊥
watched_waits true beats stamp span kept says = cc
watched_waits false true stamp span kept says = cc
watched_waits false false stamp span kept says = cc

pub spared_waits : (w : WatchState) (whole : Bool) (now : ℕ) → w.spared ≡ true → due w whole now ≢ TellServer
spared_waits w whole now is says = by_standing w.standing says
  where
    by_standing : (standing : WatchStanding) → standing_due standing w whole now ≡ TellServer → ⊥
    by_standing Watched says =
        watched_waits (gives_up w (now - w.since) (now - w.sent)) (nat_le w.beat (now - w.sent))
        (brought whole w.stamp) (w.beat - (now - w.sent))
        (not_given_up (is_silent w.term w.after (now - w.since) && not (is_late w (now - w.sent))) w.spared is) says
    by_standing Told says = told_waits w.term w.beat (now - w.heard) says
    by_standing Over says = cc
    by_standing Gone says = cc

-- only a server that is called silent is sent that it was
sent_silent : (w : ServerRecordState) (watch_due : WatchDue) (epoch id : ℕ)
    → due_for w watch_due ≡ dues.Server (orders.Silent epoch id)
    → watch_due ≡ TellServer
sent_silent w (Wait span) epoch id says = absurd (let no : ⊥ = cc in no)
sent_silent w (Beat stamp) epoch id says = absurd (by_in w.is_in says)
  where
    by_in : (is_in : Bool)
        → dues.Server (if is_in then orders.Beat w.epoch stamp else orders.Reign w.epoch)
        ≡ dues.Server (orders.Silent epoch id)
        → ⊥
    by_in true says = cc
    by_in false says = cc
sent_silent w TellServer epoch id says = refl
sent_silent w TellSilent epoch id says = absurd (let no : ⊥ = cc in no)
sent_silent w TellGone epoch id says = absurd (let no : ⊥ = cc in no)

pub spared_server_record_waits : (w : ServerRecordState) (now epoch id : ℕ)
    → due_for (spared w) (watch_due_of (spared w) now) ≢ dues.Server (orders.Silent epoch id)
spared_server_record_waits w now epoch id says =
    spared_waits (spared w).watch _ now refl (sent_silent (spared w) (watch_due_of (spared w) now) epoch id says)

-- so a master that is cut off sends that to nobody
pub cut_off_waits : (m : MasterMachineState) (id now epoch other : ℕ)
    → is_cut_off m now ≡ true
    → id < length m.server_records
    → due_at (sparing m now).server_records id now ≢ dues.Server (orders.Silent epoch other)
cut_off_waits m id now epoch other cut within says =
    spared_server_record_waits (server_record m.server_records id) now epoch other
    (sym (ap (λ w. due_for w (watch_due_of w now)) same) ∙ says)
  where
    by_cut : (cut : Bool) → cut ≡ true
        → server_record (if cut then all_spared m.server_records else m.server_records) id ≡ spared
        (server_record m.server_records id)
    by_cut true is = get_or-map (λ (w : ServerRecordState). spared w) m.server_records id nobody nobody within
    by_cut false is = absurd (let no : ⊥ = cc in no)

    same : server_record (sparing m now).server_records id ≡ spared (server_record m.server_records id)
    same = by_cut (is_cut_off m now) cut
