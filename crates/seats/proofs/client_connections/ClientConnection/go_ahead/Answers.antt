use Rattle.std.proofs.Common.{◌∙◌, refl, subst, sym}
use Rattle.faces.specs.Histories.{History, IsLater}
use Rattle.seats.proofs.ClientConnectionLaws.{same_then}
use Rattle.seats.proofs.SentInTurn.{sent_still_on, sent_then}
use Rattle.seats.proofs.client_connections.ClientConnection.go_ahead.Goals as goal

pub loop-init : goal.loop-init
loop-init g c =
    record {
      sent = c.requires.sent;
      known = c.requires.known;
      same = record { connected = refl; heard = refl; first = refl; seen = refl };
      pool = (refl, refl);
      on = sent_still_on c.args.self.now c.args.pool.now c.requires.sent.0 c.requires.sent.1;
      unfailed = refl;
    }

pub returns-in_err-send_ahead-clause-on : goal.returns-in_err-send_ahead-clause-on
returns-in_err-send_ahead-clause-on g c =
    sent_then c.args.self.now c.loop.self c.send_ahead.new.self c.args.pool.now c.loop.pool c.send_ahead.new.pool
    c.loop.invariant.sent.0 c.loop.invariant.sent.1 c.loop.invariant.on c.send_ahead.ensures.on

pub returns-then-not-branch-clause-on : goal.returns-then-not-branch-clause-on
returns-then-not-branch-clause-on g c =
    sent_then c.args.self.now c.loop.self c.send_ahead.new.self c.args.pool.now c.loop.pool c.send_ahead.new.pool
    c.loop.invariant.sent.0 c.loop.invariant.sent.1 c.loop.invariant.on c.send_ahead.ensures.on

pub loop-preserved : goal.loop-preserved
loop-preserved g c =
    let next = c.send_ahead.ensures in
    record {
      sent = c.in_ok-send_ahead.ensures.sent;
      known = subst (λ (h : History). IsLater c.send_ahead.new.self.seen h) (sym next.pool.0)
          (subst (λ (h : History). IsLater h c.loop.pool.seen) (sym next.same.seen) c.loop.invariant.known);
      same = same_then c.args.self.now c.loop.self c.send_ahead.new.self c.loop.invariant.same next.same;
      pool = (next.pool.0 ∙ c.loop.invariant.pool.0, next.pool.1 ∙ c.loop.invariant.pool.1);
      on = sent_then c.args.self.now c.loop.self c.send_ahead.new.self c.args.pool.now c.loop.pool c.send_ahead.new.pool
          c.loop.invariant.sent.0 c.loop.invariant.sent.1 c.loop.invariant.on next.on;
      unfailed = c.in_ok-send_ahead.ensures.unfailed ∙ c.loop.invariant.unfailed;
    }
