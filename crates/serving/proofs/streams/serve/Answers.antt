use Rattle.std.proofs.Common.{◌++◌, sym, ap, subst, ◌∙◌, arith}
use Rattle.serving.specs.Wanted.{IsWanted}
use Rattle.serving.proofs.Streamed.{given_on, stands_same, stands_answered, has_idle, by_fault}
use Rattle.serving.proofs.Streamed.{cut_here, cut_in_call, cut_now, cut_now_here, served}
use Rattle.serving.proofs.streams.serve.Goals as goal

-- no call, output or input was had
pub returns-in_err-wants-clause-cut : goal.returns-in_err-wants-clause-cut
returns-in_err-wants-clause-cut g c =
    by_fault c.from_residual.result (λ fault. (
      c.loop.connection.read,
      c.loop.invariant.given,
      cut_now_here g.C.Caller.answers c.args.caller.now (g.W.Sink.written c.args.sink.now) fault c.loop.connection
          (g.W.Sink.written c.loop.sink) c.loop.caller c.loop.invariant.stands c.so_far.ensures.begun,
    ))

-- a call wasn't replied to, or memory for its reply was out
pub returns-in-Err-clause-cut : goal.returns-in-Err-clause-cut
returns-in-Err-clause-cut g c =
    let answers = g.C.Caller.answers in
    let first = c.args.caller.now in
    let base = g.W.Sink.written c.args.sink.now in
    let sent = g.W.Sink.written c.loop.sink in
    let wants = c.next-in-loop.new.self in
    let looked = c.in_ok-wants.ensures.looked in
    let asking = (subst (λ w. IsWanted w wants) c.in-Call.is c.in_ok-wants.ensures.wanted).0 in (
      wants.read,
      c.loop.invariant.given ∙ ap (λ bytes. g.S.Source.given c.args.source.now ++ bytes) (sym looked.read),
      cut_in_call answers first base c.in-Err.fault wants _ sent c.loop.caller c.ask-asked.new.caller
          (stands_same answers first base c.loop.connection wants sent c.loop.caller looked.calls looked.outcomes
          looked.written c.loop.invariant.stands) c.so_far-in-loop.ensures.begun asking.waiting
          c.in-Err.ensures.left,
    )

pub loop-preserved-in_default : goal.loop-preserved-in_default
loop-preserved-in_default g c =
    let answers = g.C.Caller.answers in
    let first = c.args.caller.now in
    let base = g.W.Sink.written c.args.sink.now in
    let sent = g.W.Sink.written c.loop.sink in
    let wants = c.next-in-loop.new.self in
    let looked = c.in_ok-wants.ensures.looked in
    let asking = (subst (λ w. IsWanted w wants) c.in-Call.is c.in_ok-wants.ensures.wanted).0 in
    let a = c.in_default.ensures.answered in
    record {
      goes_on = (tt, tt);
      some_room = c.loop.invariant.some_room;
      idle = has_idle wants c.ask-asked.new.connection _ _ asking.waiting a.2;
      given = c.loop.invariant.given
          ∙ ap (λ bytes. g.S.Source.given c.args.source.now ++ bytes) (sym (ap (λ x. x.read) a.2.4 ∙ looked.read));
      stands = stands_answered answers first base wants c.ask-asked.new.connection _ a.0 sent c.loop.caller
          c.ask-asked.new.caller asking.waiting a.2 a.1
          (stands_same answers first base c.loop.connection wants sent c.loop.caller looked.calls looked.outcomes
          looked.written c.loop.invariant.stands);
      ended = λ e. c.loop.invariant.ended (sym (ap (λ x. x.ended) a.2.4 ∙ looked.ended) ∙ e);
      reads = c.loop.invariant.reads;
      writes = c.loop.invariant.writes;
      calls = grind (arith, c.in_default.ensures.calls, c.loop.invariant.calls);
    }

pub returns-in_err-write-in-Write-clause-cut : goal.returns-in_err-write-in-Write-clause-cut
returns-in_err-write-in-Write-clause-cut g c =
    let answers = g.C.Caller.answers in
    let first = c.args.caller.now in
    let base = g.W.Sink.written c.args.sink.now in
    let sent = g.W.Sink.written c.loop.sink in
    let wants = c.next-in-loop.new.self in
    let looked = c.in_ok-wants.ensures.looked in
    by_fault c.from_residual-in_err-write-in-Write.result (λ fault. (
      wants.read,
      c.loop.invariant.given ∙ ap (λ bytes. g.S.Source.given c.args.source.now ++ bytes) (sym looked.read),
      cut_now answers first base fault wants sent (g.W.Sink.written c.write.new.sink) c.loop.caller
          (stands_same answers first base c.loop.connection wants sent c.loop.caller looked.calls looked.outcomes
          looked.written c.loop.invariant.stands) c.so_far-in-loop.ensures.begun c.in_err-write-in-Write.ensures.begun,
    ))

pub returns-in_err-read-in-Read-clause-cut : goal.returns-in_err-read-in-Read-clause-cut
returns-in_err-read-in-Read-clause-cut g c =
    let answers = g.C.Caller.answers in
    let first = c.args.caller.now in
    let base = g.W.Sink.written c.args.sink.now in
    let sent = g.W.Sink.written c.loop.sink in
    let wants = c.next-in-loop.new.self in
    let looked = c.in_ok-wants.ensures.looked in
    let more = c.in_err-read-in-Read.ensures.given in
    by_fault c.from_residual-in_err-read-in-Read.result (λ fault. (
      wants.read ++ more.0,
      given_on _ wants.read more.0 _ _
          (c.loop.invariant.given ∙ ap (λ bytes. g.S.Source.given c.args.source.now ++ bytes) (sym looked.read)) more.1,
      cut_here answers first base fault wants (wants.read ++ more.0) sent c.loop.caller
          (stands_same answers first base c.loop.connection wants sent c.loop.caller looked.calls looked.outcomes
          looked.written c.loop.invariant.stands) (c.so_far-in-loop.ensures.begun more.0),
    ))

pub returns-in-End-clause-served : goal.returns-in-End-clause-served
returns-in-End-clause-served g c =
    let answers = g.C.Caller.answers in
    let first = c.args.caller.now in
    let base = g.W.Sink.written c.args.sink.now in
    let sent = g.W.Sink.written c.loop.sink in
    let wants = c.next-in-loop.new.self in
    let looked = c.in_ok-wants.ensures.looked in
    let wanted = subst (λ w. IsWanted w wants) c.in-End.is c.in_ok-wants.ensures.wanted in (
      wants.read,
      c.loop.invariant.given ∙ ap (λ bytes. g.S.Source.given c.args.source.now ++ bytes) (sym looked.read),
      served answers first base c.in-End.end wants sent c.loop.caller
          (stands_same answers first base c.loop.connection wants sent c.loop.caller looked.calls looked.outcomes
          looked.written c.loop.invariant.stands) wanted.0 wanted.1,
    )
