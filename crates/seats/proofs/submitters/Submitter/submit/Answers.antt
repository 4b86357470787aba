use Rattle.std.proofs.Common.{◌∙◌, ℕ, ap, refl}
use Rattle.rail.specs.CallSenders.{with_call}
use Rattle.seats.proofs.Submitted.{lost_stage, submit_lost, submit_opens, submit_instance, submit_port, submit_sent}
use Rattle.seats.proofs.submitters.Submitter.submit.Goals as goal

pub submit-requires : goal.submit-requires
submit-requires g c =
    record {
      call = c.requires.call;
      server = submit_instance c.self.inside.stage c.self.inside.seat _ c.self.view_is ∙ c.requires.server;
    }

pub returns-in-Err : goal.returns-in-Err
returns-in-Err g c =
    record {
      sent = tt;
      sender = tt;
      err = submit_lost c.self.inside.stage c.self.inside.seat c.submit.new.seat _ c.self.view_is c.self.invariant
          c.requires.free c.in-Err.ensures.seat;
      unsent = c.in-Err.ensures.sender.1;
      spent = λ _. refl;
    }

pub invariant_of-self : goal.invariant_of-self
invariant_of-self g c =
    submit_opens c.self.inside.stage c.stage_of-stage.result c.self.inside.seat c.submit.new.seat _
    c.args.call_sender.now c.args.call c.self.view_is c.self.invariant c.requires.free
    (submit_instance c.self.inside.stage c.self.inside.seat _ c.self.view_is ∙ c.requires.server)
    c.in_default.not-Lost c.stage_of-stage.ensures c.in-Ok.ensures.seat

pub returns-in-Ok : goal.returns-in-Ok
returns-in-Ok g c =
    record {
      sent = submit_sent c.self.inside.stage c.stage_of-stage.result c.self.inside.seat c.submit.new.seat _
          c.args.call_sender.now c.args.call c.self.view_is c.self.invariant c.requires.free c.in_default.not-Lost
          c.stage_of-stage.ensures c.in-Ok.ensures.seat;
      sender = c.in-Ok.ensures.sender
          ∙ ap (λ (port : ℕ). with_call c.args.call_sender.now port c.args.call)
          (submit_port c.self.inside.stage c.self.inside.seat _ c.self.view_is);
      err = tt;
      unsent = tt;
      spent = λ e. absurd (c.in_default.not-Lost (lost_stage _ _ _ c.self.view_is e));
    }
