use Rattle.std.proofs.Common.{◌∙◌, ap, refl, rules}
use Rattle.std.proofs.lemmas.Result.{MatchResult-from_err}
use Rattle.seats.specs.ClientConnections.{ClientConnectionState}
use Rattle.seats.proofs.Looked.{gone_sent, gone_then, looked_on_then, looked_same, looked_then}
use Rattle.seats.proofs.Seated.{later_same, later_then}
use Rattle.seats.proofs.ClientConnectionLaws.{further_as, further_same, further_then}
use Rattle.seats.proofs.SentInTurn.{idle_sent, none_if_idle, none_if_unsent, sent_from}
use Rattle.seats.proofs.client_connections.ClientConnection.make_calls.Goals as goal

pub loop-init : goal.loop-init
loop-init g c =
    record {
      idle = c.requires.idle;
      none = c.requires.none;
      known = c.requires.known;
      later = later_same _;
      first = refl;
      further = further_same _;
      unsent = refl;
      heard = refl;
      unfailed = refl;
      looked = looked_same _ _ _ refl refl;
    }

pub loop-preserved : goal.loop-preserved
loop-preserved g c =
    let found = rw c.in-None.is at c.in_ok-step.ensures in
    record {
      idle = found.went;
      none = found.rests;
      known = c.step.ensures.known;
      later = later_then _ _ _ c.loop.invariant.later c.step.ensures.later;
      first = c.step.ensures.first ∙ c.loop.invariant.first;
      further = further_then _ _ _ c.loop.invariant.further c.step.ensures.further;
      unsent = c.step.ensures.unsent ∙ c.loop.invariant.unsent;
      heard = c.step.ensures.heard ∙ c.loop.invariant.heard;
      unfailed = found.unfailed ∙ c.loop.invariant.unfailed;
      looked = looked_then _ _ _ _ _ _ c.loop.invariant.looked found.looked;
    }

pub returns-in-Some-Seat-clause-further : goal.returns-in-Some-Seat-clause-further
returns-in-Some-Seat-clause-further g c =
    further_then _ _ _ (further_then _ _ _ c.loop.invariant.further c.step.ensures.further)
    (further_as _ _ (ap (λ (t : ClientConnectionState). t.connected) c.send.ensures.same))

pub returns-in-Some-Seat-clause-looked : goal.returns-in-Some-Seat-clause-looked
returns-in-Some-Seat-clause-looked g c =
    let found = rw (c.in-Some-Seat.is, c.in-Some-Seat.field-0-is) at c.in_ok-step.ensures.looked in
    gone_sent c.send.result _ c.step.new.self.connected c.send.new.self.connected _ c.step.new.pool c.send.new.pool
    c.send.ensures.waits (looked_on_then _ _ _ _ _ _ c.loop.invariant.looked found)
    (ap (λ (t : ClientConnectionState). t.connected) c.send.ensures.same) c.send.ensures.pool.1

pub returns-in_err-step-clause-looked : goal.returns-in_err-step-clause-looked
returns-in_err-step-clause-looked g c =
    MatchResult-from_err c.from_residual.result _ _ (search rules)
    (λ e. looked_on_then _ _ _ _ _ _ c.loop.invariant.looked c.in_err-step.ensures.looked)

pub returns-in-Some : goal.returns-in-Some
returns-in-Some g c =
    let found = rw c.in-Some.is at c.in_ok-step.ensures in
    record {
      known = c.step.ensures.known;
      later = later_then _ _ _ c.loop.invariant.later c.step.ensures.later;
      first = c.step.ensures.first ∙ c.loop.invariant.first;
      further = further_then _ _ _ c.loop.invariant.further c.step.ensures.further;
      went = found.went;
      sent = sent_from c.args.self.now c.loop.self c.step.new.self c.args.pool.now c.loop.pool c.step.new.pool
          (none_if_idle c.args.self.now c.requires.idle) (none_if_idle c.loop.self c.loop.invariant.idle)
          c.loop.invariant.unsent c.step.ensures.sent;
      heard = c.step.ensures.heard ∙ c.loop.invariant.heard;
      unfailed = c.in_ok-step.ensures.unfailed ∙ c.loop.invariant.unfailed;
      cause = tt;
      looked = gone_then c.in-Some.went _ _ _ _ _ _ c.loop.invariant.looked found.looked;
      over = tt;
    }

pub returns-in-Some-Seat-clause-sent : goal.returns-in-Some-Seat-clause-sent
returns-in-Some-Seat-clause-sent g c =
    let waits = rw (c.in-Some-Seat.is, c.in-Some-Seat.field-0-is) at c.in_ok-step.ensures.went in
    sent_from c.args.self.now c.step.new.self c.send.new.self c.args.pool.now c.step.new.pool c.send.new.pool
    (none_if_idle c.args.self.now c.requires.idle) (none_if_unsent c.step.new.self waits.0 waits.1)
    (c.step.ensures.unsent ∙ c.loop.invariant.unsent) c.send.ensures.sent

pub returns-in_err-step-clause-sent : goal.returns-in_err-step-clause-sent
returns-in_err-step-clause-sent g c =
    sent_from c.args.self.now c.loop.self c.step.new.self c.args.pool.now c.loop.pool c.step.new.pool
    (none_if_idle c.args.self.now c.requires.idle) (none_if_idle c.loop.self c.loop.invariant.idle)
    c.loop.invariant.unsent c.step.ensures.sent

pub returns-clause-sent : goal.returns-clause-sent
returns-clause-sent g c =
    idle_sent c.args.self.now c.loop.self c.args.pool.now c.loop.pool (none_if_idle c.args.self.now c.requires.idle)
    c.loop.invariant.unsent c.loop.invariant.idle c.loop.invariant.none
