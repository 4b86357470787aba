use Rattle.std.proofs.Common.{◌∙◌, ◌<◌, ◌≤◌, ◌∷◌, [], subst, sym, refl, ap, take, drop, length, rules}
use Rattle.std.proofs.lemmas.List.{take-append-drop}
use Rattle.node.specs.declared.messages.Output.{Output}
use Rattle.node.specs.declared.messages.Output.TheVariants.{To}
use Rattle.faces.specs.Outputs.{IsAmong}
use Rattle.rail.specs.Turns.{messages_of}
use Rattle.rail.proofs.Carrying.{carried_none, carried_on}
use Rattle.rail.proofs.Putting.{among_at, fit_at, put_none, put_next, put_same, put_failing, on_err}
use Rattle.rail.proofs.Spending.{same_at, same_on, spent_all}
use Rattle.rail.proofs.outputs.put_messages.Goals.{in-Some+in_ok-put_message, in_default}
use Rattle.rail.proofs.outputs.put_messages.Goals as goal

pub loop-k-init : goal.loop-k-init
loop-k-init g c = record {
  put = put_none (g.L.Links.state c.args.links.now);
  carried = carried_none (g.L.Links.state c.args.links.now);
  outputs = refl;
}

pub put_message-requires-clause-step : goal.put_message-requires-clause-step
put_message-requires-clause-step g c =
    let outputs = c.args.outputs.now.items in
    let k = c.loop-k.k in
    let now = c.index_mut.result.now in
    let x : Output = To c.in-Some.message.to c.in-Some.message.peer in
    let within : k < length outputs = search rules in
    let is = sym (same_at k outputs c.loop-k.outputs.items now within c.loop-k.invariant.outputs
    c.index_mut.ensures.value) ∙ c.in-Some.ensures.message in
    subst (IsAmong x) c.requires.step (among_at x outputs k now within is)

pub put_message-requires-clause-fit : goal.put_message-requires-clause-fit
put_message-requires-clause-fit g c =
    let outputs = c.args.outputs.now.items in
    let k = c.loop-k.k in
    let now = c.index_mut.result.now in
    let x : Output = To c.in-Some.message.to c.in-Some.message.peer in
    let within : k < length outputs = search rules in
    let is = sym (same_at k outputs c.loop-k.outputs.items now within c.loop-k.invariant.outputs
    c.index_mut.ensures.value) ∙ c.in-Some.ensures.message in
    fit_at x outputs k now within is c.requires.fit

pub loop-k-preserved : goal.loop-k-preserved
loop-k-preserved g c =
    let state = g.L.Links.state in
    let outputs = c.args.outputs.now.items in
    let k = c.loop-k.k in
    let now = c.index_mut.result.now in
    let all = c.loop-k.invariant in
    let within : k < length outputs = search rules in
    let same = same_at k outputs c.loop-k.outputs.items now within all.outputs c.index_mut.ensures.value in
    let left = same_on k outputs c.loop-k.outputs.items now c.take_message.new.output within all.outputs
    c.index_mut.ensures.value c.take_message.ensures.spent in
    elim c.match-take_message.branch [
      | in-Some+in_ok-put_message w ↦ rw w.links-is
          record {
            put = put_next outputs k now w.in-Some.message.to w.in-Some.message.peer (state c.args.links.now)
                (state c.loop-k.links) (state w.put_message.new.links) within (sym same ∙ w.in-Some.ensures.message)
                all.carried w.put_message.ensures.carried all.put w.in_ok-put_message.ensures.ok;
            carried = carried_on (state c.args.links.now) (state c.loop-k.links) (state w.put_message.new.links)
                all.carried w.put_message.ensures.carried;
            outputs = left;
          }
      | in_default w ↦ rw w.links-is
          record {
            put = put_same outputs k now (state c.args.links.now) (state c.loop-k.links) within
                (ap (λ o. messages_of (o ∷ [])) (sym same) ∙ w.in_default.ensures.message) all.put;
            carried = all.carried;
            outputs = left;
          }
    ]

pub returns-in_err-put_message-clause-err : goal.returns-in_err-put_message-clause-err
returns-in_err-put_message-clause-err g c =
    let outputs = c.args.outputs.now.items in
    let k = c.loop-k.k in
    on_err c.from_residual.result _ (
      take k outputs,
      drop k outputs,
      sym (take-append-drop k outputs),
      put_failing (g.L.Links.state c.args.links.now) (g.L.Links.state c.loop-k.links)
          (g.L.Links.state c.put_message.new.links) c.put_message.ensures.carried.failures
          (messages_of (take k outputs)) c.in_err-put_message.ensures.err c.loop-k.invariant.put,
    )

pub returns-in_err-put_message-clause-carried : goal.returns-in_err-put_message-clause-carried
returns-in_err-put_message-clause-carried g c =
    carried_on (g.L.Links.state c.args.links.now) (g.L.Links.state c.loop-k.links)
    (g.L.Links.state c.put_message.new.links) c.loop-k.invariant.carried c.put_message.ensures.carried

pub returns-clause-replies : goal.returns-clause-replies
returns-clause-replies g c =
    let most : length c.args.outputs.now.items ≤ c.loop-k.k = search rules in
    c.loop-k.invariant.outputs ∙ spent_all c.loop-k.k c.args.outputs.now.items most
