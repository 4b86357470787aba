use Rattle.std.proofs.Common.{◌≡◌, rules, ◌++◌, ℕ, List, [], take, refl, sym, subst, append-nil}
use Rattle.wire.specs.declared.ends.PeerEnd.TheVariants as ends
use Rattle.wire.specs.Streams.{Held}
use Rattle.wire.specs.Ends.{IsEnd}
use Rattle.ends.proofs.Written.{at-an-error, written-then}
use Rattle.peers.specs.Links.{TakesFirst, HasHeard, failed_takes}
use Rattle.peers.proofs.Hearing.{heard_none, heard_on}
use Rattle.peers.proofs.Taking.{given_still, none_taken, nothing_ends}
use Rattle.peers.proofs.Taking.{taken_all, taken_beginning, piece_read, piece_taken}
use Rattle.peers.proofs.receiving.serve.Goals as goal

pub loop-init : goal.loop-init
loop-init g c =
    let taken = g.T.Taker.taken c.args.taker.now in
    record {
      goes_on = (tt, tt);
      some_room = c.requires.some_room;
      open_still = rw c.requires.fresh refl;
      stands = (
        [],
        sym (append-nil _),
        subst (λ (h : Held). TakesFirst [] h.unread taken taken) (sym c.requires.fresh) (none_taken taken),
      );
      stops = subst (λ (h : Held). IsEnd h.unread ends.Input) (sym c.requires.fresh) nothing_ends;
      heard = heard_none g.T.Taker.hears g.T.Taker.misses g.T.Taker.taken c.args.taker.now;
      reads = refl;
      takes = refl;
    }

pub returns-in-Ok-eq0-clause-served : goal.returns-in-Ok-eq0-clause-served
returns-in-Ok-eq0-clause-served g c =
    let s = c.loop.invariant.stands in (
      s.0,
      given_still _ s.0 _ _ s.1 (rw c.in-Ok-eq0.field-0-test at c.in-Ok-eq0.ensures.given),
      taken_all _ s.0 _ _ _ s.2 c.loop.invariant.stops,
    )

pub returns-in-Err-clause-cut : goal.returns-in-Err-clause-cut
returns-in-Err-clause-cut g c =
    let s = c.loop.invariant.stands in (
      s.0,
      given_still _ s.0 _ _ s.1 c.in-Err.ensures.given,
      taken_beginning s.0 _ _ _ s.2,
    )

pub returns-in_err-feed-clause-cut : goal.returns-in_err-feed-clause-cut
returns-in_err-feed-clause-cut g c =
    let s = c.loop.invariant.stands in
    let piece : List ℕ = take c.in-Ok.n c.read.new.bytes in
    at-an-error c.from_residual.result (
      s.0 ++ piece,
      written-then _ _ _ s.0 piece s.1 c.in-Ok.ensures.given,
      taken_beginning (s.0 ++ piece) _ _ _ (piece_read s.0 _ piece _ _ s.2),
    )

pub returns-in_err-end-clause-cut : goal.returns-in_err-end-clause-cut
returns-in_err-end-clause-cut g c =
    let s = c.loop.invariant.stands in
    let t = c.in_err-end.ensures.cut in
    let piece : List ℕ = take c.in-Ok.n c.read.new.bytes in
    at-an-error c.from_residual-in_err-end.result (
      s.0 ++ piece,
      written-then _ _ _ s.0 piece s.1 c.in-Ok.ensures.given,
      taken_beginning (s.0 ++ piece) t.0 _ _
          (piece_taken s.0 piece t.0 c.loop.frames c.feed.new.frames _ _ _ c.loop.invariant.open_still
          c.in_ok-feed.ensures.fed s.2 t.1),
    )

pub returns-in_default-clause-served : goal.returns-in_default-clause-served
returns-in_default-clause-served g c =
    let s = c.loop.invariant.stands in
    let piece : List ℕ = take c.in-Ok.n c.read.new.bytes in (
      s.0 ++ piece,
      written-then _ _ _ s.0 piece s.1 c.in-Ok.ensures.given,
      taken_all _ (s.0 ++ piece) _ _ _
          (piece_taken s.0 piece _ c.loop.frames c.feed.new.frames _ _ _ c.loop.invariant.open_still
          c.in_ok-feed.ensures.fed s.2 c.in_ok-end.ensures.first)
          c.in_ok-end.ensures.stops,
    )

pub returns-in_err-end-clause-heard : goal.returns-in_err-end-clause-heard
returns-in_err-end-clause-heard g c =
    let hears = g.T.Taker.hears in
    let misses = g.T.Taker.misses in
    let taken = g.T.Taker.taken in
    let told : failed_takes c.hand_on.result ≡ failed_takes c.from_residual-in_err-end.result = search rules in
    heard_on hears misses taken (failed_takes c.from_residual-in_err-end.result) c.args.taker.now c.loop.taker
    c.hand_on.new.taker c.loop.invariant.heard
    (subst (λ (n : ℕ). HasHeard hears misses taken n c.loop.taker c.hand_on.new.taker) told c.hand_on.ensures.heard)

pub loop-preserved : goal.loop-preserved
loop-preserved g c =
    let s = c.loop.invariant.stands in
    let piece : List ℕ = take c.in-Ok.n c.read.new.bytes in
    record {
      goes_on = (tt, tt);
      some_room = search rules;
      open_still = search rules;
      stands = (
        s.0 ++ piece,
        written-then _ _ _ s.0 piece s.1 c.in-Ok.ensures.given,
        piece_taken s.0 piece _ c.loop.frames c.feed.new.frames _ _ _ c.loop.invariant.open_still
            c.in_ok-feed.ensures.fed s.2 c.in_ok-end.ensures.first,
      );
      stops = search rules;
      heard = heard_on g.T.Taker.hears g.T.Taker.misses g.T.Taker.taken 0 c.args.taker.now c.loop.taker
          c.hand_on.new.taker c.loop.invariant.heard c.in_ok-end.ensures.heard;
      reads = search rules;
      takes = search rules;
    }

pub returns-in_default-clause-heard : goal.returns-in_default-clause-heard
returns-in_default-clause-heard g c =
    heard_on g.T.Taker.hears g.T.Taker.misses g.T.Taker.taken 0 c.args.taker.now c.loop.taker c.hand_on.new.taker
    c.loop.invariant.heard c.in_ok-end.ensures.heard
