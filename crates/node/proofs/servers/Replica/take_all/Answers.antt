use Rattle.std.proofs.Common.{◌≡◌, ◌≤◌, length, arith, sym, ap, ◌∙◌}
use Rattle.std.proofs.lemmas.List.{drop_all}
use Rattle.node.specs.Servers.{ServerState}
use Rattle.node.specs.Numbering.{taken}
use Rattle.node.proofs.Retaking.{call_at_is, no_call_at, waiting, pend-taken, taken_step, taken_end}
use Rattle.node.proofs.SoundLaws.{sound-taken}
use Rattle.node.proofs.servers.Replica.take_all.Goals as goal

-- no own call is at the place, so all are taken
pub returns-in_default : goal.returns-in_default
returns-in_default c =
    taken_end _ c.loop-i.self c.loop-i.i
    (no_call_at c.loop-i.self.pend c.loop-i.i (sym c.in_default.is ∙ c.in_ok-id.ensures)) c.loop-i.invariant.rest

-- an own open call fits, as taking it needs
pub take_quietly-taken-requires-clause-call : goal.take_quietly-taken-requires-clause-call
take_quietly-taken-requires-clause-call c =
    let at =
    call_at_is c.loop-i.self.pend c.loop-i.i c.in-Some.id c.in-Some.call (sym c.in-Some.is ∙ c.in_ok-id.ensures) in
    let waits = waiting 0 c.loop-i.self.pend c.loop-i.self.next_id c.loop-i.i at.update _
    c.loop-i.invariant.sound.updates at.rest in
    rw at.is_call waits.0

-- an own open call is an update, as taking it needs
pub take_quietly-taken-requires-clause-update : goal.take_quietly-taken-requires-clause-update
take_quietly-taken-requires-clause-update c =
    let at =
    call_at_is c.loop-i.self.pend c.loop-i.i c.in-Some.id c.in-Some.call (sym c.in-Some.is ∙ c.in_ok-id.ensures) in
    let waits = waiting 0 c.loop-i.self.pend c.loop-i.self.next_id c.loop-i.i at.update _
    c.loop-i.invariant.sound.updates at.rest in
    rw at.is_call waits.1

-- one own open call more was taken
pub loop-i-preserved : goal.loop-i-preserved
loop-i-preserved c =
    let s = c.loop-i.self in
    let sound = c.loop-i.invariant.sound in
    let at = call_at_is s.pend c.loop-i.i c.in-Some.id c.in-Some.call (sym c.in-Some.is ∙ c.in_ok-id.ensures) in
    let waits = waiting 0 s.pend s.next_id c.loop-i.i at.update _ sound.updates at.rest in
    let made : c.take_quietly-taken.new.self ≡ taken s s.id c.in-Some.id c.in-Some.call =
    c.in_ok-taken.ensures ∙ ap (λ n. taken s n c.in-Some.id c.in-Some.call)
    (ap (λ (t : ServerState). t.id) c.take_quietly.view_is) in
    record {
      rest = taken_step _ s c.take_quietly-taken.new.self c.loop-i.i c.in-Some.id c.in-Some.call at made
          c.loop-i.invariant.rest;
      pend = ap (λ (t : ServerState). t.pend) made ∙ pend-taken s s.id c.in-Some.id c.in-Some.call
          ∙ c.loop-i.invariant.pend;
      sound = rw made (sound-taken s s.id c.in-Some.id c.in-Some.call (omega (arith, sound.placed, sound.counted))
          (rw at.is_call waits.0) (rw at.is_call waits.1) sound);
    }

-- each place was looked at, so all own open calls are taken
pub returns : goal.returns
returns c =
    let calls : c.self.inside.pend.items ≡ c.args.self.now.pend = ap (λ (t : ServerState). t.pend) c.self.view_is in
    let few : length c.loop-i.self.pend ≤ c.loop-i.i =
    rw (c.loop-i.invariant.pend, ← calls)
    (omega (arith, c.loop-i-test.false, c.len-i-end.ensures, c.self.inside.pend.ok.0)) in
    taken_end _ c.loop-i.self c.loop-i.i (drop_all c.loop-i.i c.loop-i.self.pend few) c.loop-i.invariant.rest
