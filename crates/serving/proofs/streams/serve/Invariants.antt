use Rattle.std.proofs.Common.{◌≡◌, ◌<◌, ◌++◌, [], true, length}
use Rattle.serving.proofs.Streamed.{Stands}
use Rattle.serving.proofs.streams.serve.Given as goal

abbrev pub invariant-loop : goal.invariant-loop
invariant-loop g l =
    record {
      goes_on : (goal.iterator-loop g).can_next l.iterator' × (goal.iterator-loop g).is_finite l.iterator';
      some_room : 0 < length l.piece;
      idle : l.connection.waiting ≡ [];
      given : g.S.Source.given l.source ≡ g.S.Source.given l.fn.source ++ l.connection.read;
      stands : Stands g.C.Caller.answers l.fn.caller (g.W.Sink.written l.fn.sink) l.connection
          (g.W.Sink.written l.sink) l.caller;
      ended : l.connection.ended ≡ true → g.S.Source.has_ended l.source ≡ true;
      reads : g.S.Source.failures l.source ≡ g.S.Source.failures l.fn.source;
      writes : g.W.Sink.failures l.sink ≡ g.W.Sink.failures l.fn.sink;
      calls : g.C.Caller.failures l.caller ≡ g.C.Caller.failures l.fn.caller;
    }
