-- A connection's session at which no bytes wait gives the call of the one request that comes.
use Rattle.std.proofs.Common.{None, Some}
use Rattle.table.specs.declared.operations.Call.{Call}
use Rattle.proto.specs.declared.texts.Form.{Form}
use Rattle.proto.specs.Turns.{Calls, Faulty}
use Rattle.proto.specs.Sessions.{Held, Given, fed, next_of}
use Rattle.proto.proofs.RestedLaws.{IsRested, GivesRested, fed_rested, next_gives}
use Rattle.world.specs.Connections.{past_faults, behind}
use Rattle.interleavings.specs.Asked.{IsSpelled}

behind_call : (g later : Given) (call : Call) (form : Form)
    → GivesRested g call form
    → GivesRested (behind g later) call form
behind_call (None, left) later call form g = absurd (let no = g.turn in cc)
behind_call (Some (Faulty fault), left) later call form g = absurd (let no = g.turn in cc)
behind_call (Some (Calls other shape), left) later call form g = g

-- fed the bytes of one request, it gives that request's call
pub asks : (h : Held) (call : Call) (a : IsSpelled call)
    → IsRested h
    → GivesRested (past_faults (fed h a.bytes)) call a.form
asks h call a r =
    let f = fed_rested h a.bytes r in
    behind_call (next_of (fed h a.bytes)) _ call a.form
    (next_gives (fed h a.bytes) call a.request a.bytes a.form a.spelled a.alone f.0 f.1 f.2 f.3)
