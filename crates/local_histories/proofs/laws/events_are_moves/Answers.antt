use Rattle.std.proofs.Common.{arith}
use Rattle.local_histories.proofs.Idle.{brought_leads, handed_back_leads, broke_leads, halted_leads}
use Rattle.local_histories.proofs.SeatEvents.{sent_leads, got_leads}
use Rattle.local_histories.proofs.Looking.{looked_leads}
use Rattle.local_histories.proofs.Outputs.{shown_leads, put_leads, answered_leads}
use Rattle.local_histories.proofs.Taking.{taken_leads}
use Rattle.local_histories.proofs.laws.events_are_moves.Goals as goal

pub returns-clause-sent : goal.returns-clause-sent
returns-clause-sent c s es i k port call opened of may =
    let below = opened.seated i of.0 in
    sent_leads s es i k port call of.0 (omega (arith, below, of.1)) may

pub returns-clause-brought : goal.returns-clause-brought
returns-clause-brought c s es i k message = brought_leads s es i k message

pub returns-clause-handed_back : goal.returns-clause-handed_back
returns-clause-handed_back c s es i port = handed_back_leads s es i port

pub returns-clause-got : goal.returns-clause-got
returns-clause-got c s es i reply opened of may =
    let below = opened.seated i of.0 in
    got_leads s es i reply of.0 (omega (arith, below, of.1)) may

pub returns-clause-halted : goal.returns-clause-halted
returns-clause-halted c s es i within = halted_leads s es i within

pub returns-clause-broke : goal.returns-clause-broke
returns-clause-broke c s es i to = broke_leads s es i to

pub returns-clause-taken : goal.returns-clause-taken
returns-clause-taken c s es i envelope of may = taken_leads s es i envelope of may

pub returns-clause-shown : goal.returns-clause-shown
returns-clause-shown c s es i input of may = shown_leads s es i input of.0 may.0 may.1

pub returns-clause-put : goal.returns-clause-put
returns-clause-put c s es i j peer of may = put_leads s es i j peer of may.0 may.1

pub returns-clause-answered : goal.returns-clause-answered
returns-clause-answered c s es i reply opened of may =
    let below = opened.seated i of.0 in
    answered_leads s es i reply of.0 (omega (arith, below, of.1)) may.0 may.1

pub returns-clause-looked : goal.returns-clause-looked
returns-clause-looked c s es i q key stood of may =
    looked_leads s es i q key stood of.0 of.1 may.0 may.1.0 may.1.1
