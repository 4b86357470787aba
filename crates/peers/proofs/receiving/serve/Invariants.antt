use Rattle.std.proofs.Common.{◌≡◌, ◌<◌, ◌++◌, List, ℕ, length, false}
use Rattle.wire.specs.declared.ends.PeerEnd.TheVariants as ends
use Rattle.wire.specs.Ends.{IsEnd}
use Rattle.peers.specs.Links.{HasHeard, TakesFirst}
use Rattle.peers.proofs.receiving.serve.Given as goal

abbrev pub invariant-loop : goal.invariant-loop
invariant-loop g l =
    record {
      goes_on : (goal.iterator-loop g).can_next l.iterator' × (goal.iterator-loop g).is_finite l.iterator';
      some_room : 0 < length l.piece;
      open_still : l.frames.closed ≡ false;
      stands : (read : List ℕ) × (g.S.Source.given l.source ≡ g.S.Source.given l.fn.source ++ read)
          × TakesFirst read l.frames.unread (g.T.Taker.taken l.fn.taker) (g.T.Taker.taken l.taker);
      stops : IsEnd l.frames.unread ends.Input;
      heard : HasHeard g.T.Taker.hears g.T.Taker.misses g.T.Taker.taken 0 l.fn.taker l.taker;
      reads : g.S.Source.failures l.source ≡ g.S.Source.failures l.fn.source;
      takes : g.T.Taker.failures l.taker ≡ g.T.Taker.failures l.fn.taker;
    }
