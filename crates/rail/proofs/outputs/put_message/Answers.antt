use Rattle.std.proofs.Common.{◌≡◌, ◌<◌, refl, rules}
use Rattle.rail.proofs.Carrying.{carried_none, carried_one, carried_refused}
use Rattle.rail.proofs.Putting.{put_one, put_left}
use Rattle.rail.proofs.outputs.put_message.Goals as goal

pub returns-then-failed-clause-ok : goal.returns-then-failed-clause-ok
returns-then-failed-clause-ok g c =
    let l = g.L.Links.state c.args.links.now in
    let failed : 0 < l.failures c.args.to = search rules in
    put_left l l c.args.to c.args.peer failed refl

pub returns-then-failed-clause-carried : goal.returns-then-failed-clause-carried
returns-then-failed-clause-carried g c = carried_none (g.L.Links.state c.args.links.now)

pub returns-in-Ok-clause-ok : goal.returns-in-Ok-clause-ok
returns-in-Ok-clause-ok g c =
    let l = g.L.Links.state c.args.links.now in
    let up : l.failures c.args.to ≡ 0 = search rules in
    put_one l (g.L.Links.state c.put.new.self) c.args.to c.args.peer up c.in-Ok.ensures.ok

pub returns-in-Ok-clause-carried : goal.returns-in-Ok-clause-carried
returns-in-Ok-clause-carried g c =
    carried_one (g.L.Links.state c.args.links.now) (g.L.Links.state c.put.new.self) c.args.to c.args.peer
    c.put.ensures.failures c.put.ensures.elsewhere c.put.ensures.spelled c.in-Ok.ensures.ok c.in-Ok.ensures.carried

pub returns-in-Err-LinkDown-clause-ok : goal.returns-in-Err-LinkDown-clause-ok
returns-in-Err-LinkDown-clause-ok g c =
    let l' = g.L.Links.state c.put.new.self in
    let failed : 0 < l'.failures c.args.to = search rules in
    put_left (g.L.Links.state c.args.links.now) l' c.args.to c.args.peer failed c.in-Err-LinkDown.ensures.err

pub returns-in-Err-LinkDown-clause-carried : goal.returns-in-Err-LinkDown-clause-carried
returns-in-Err-LinkDown-clause-carried g c =
    carried_refused (g.L.Links.state c.args.links.now) (g.L.Links.state c.put.new.self) c.args.to c.args.peer
    c.put.ensures.failures c.put.ensures.elsewhere c.put.ensures.spelled c.in-Err-LinkDown.ensures.err
    c.in-Err-LinkDown.ensures.unput

pub returns-in-Err-clause-carried : goal.returns-in-Err-clause-carried
returns-in-Err-clause-carried g c =
    carried_refused (g.L.Links.state c.args.links.now) (g.L.Links.state c.put.new.self) c.args.to c.args.peer
    c.put.ensures.failures c.put.ensures.elsewhere c.put.ensures.spelled c.in-Err.ensures.err c.in-Err.ensures.unput
