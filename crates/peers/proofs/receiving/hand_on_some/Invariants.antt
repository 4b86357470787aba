use Rattle.std.proofs.Common.{◌≡◌, false, length}
use Rattle.peers.specs.Links.{HasHeard, TakesFirst}
use Rattle.peers.proofs.receiving.hand_on_some.Given as goal

abbrev pub invariant-frames : goal.invariant-frames
invariant-frames g l =
    record {
      open_still : l.frames.closed ≡ false;
      stands : TakesFirst l.fn.frames.unread l.frames.unread (g.T.Taker.taken l.fn.taker) (g.T.Taker.taken l.taker);
      heard : HasHeard g.T.Taker.hears g.T.Taker.misses g.T.Taker.taken 0 l.fn.taker l.taker;
      takes : g.T.Taker.failures l.taker ≡ g.T.Taker.failures l.fn.taker;
    }
