use Rattle.std.proofs.Common.{[], sym, append-nil}
use Rattle.serving.proofs.Streamed.{cut_at_first, by_fault}
use Rattle.serving.proofs.streams.serve_stream.Goals as goal

pub returns-in_err-piece-clause-cut : goal.returns-in_err-piece-clause-cut
returns-in_err-piece-clause-cut g c =
    by_fault c.from_residual.result (λ fault. (
      [],
      sym (append-nil _),
      cut_at_first g.C.Caller.answers c.args.caller.now (g.W.Sink.written c.args.sink.now) fault,
    ))
