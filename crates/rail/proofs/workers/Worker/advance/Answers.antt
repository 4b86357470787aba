use Rattle.std.proofs.Common.{◌≡◌, ◌∙◌, sym, ap, subst, refl, ℕ, length, [], ◌∷◌, List, Option, None, Some, is_some}
use Rattle.std.proofs.Common.{is_err, true, false, rules}
use Rattle.crossbeam_channel.specs.Claims.{view}
use Rattle.node.specs.declared.messages.Input.{Input}
use Rattle.node.specs.Lawful.{IsInput, HoldsEntry}
use Rattle.node.specs.Replies.{AreCallsBelow, AreOpenBelow}
use Rattle.faces.specs.Histories.{History, server_after, with_next}
use Rattle.faces.specs.Publishers.{Publishing}
use Rattle.rail.specs.NotedReplies.{ReplySenderState}
use Rattle.rail.specs.Turns.{HasReplied}
use Rattle.rail.specs.Workers.{WorkerState, IsGoing}
use Rattle.rail.proofs.Replying.{replied_none}
use Rattle.rail.proofs.Turning.{ok_by, err_by, stopped_worker, going_worker, cut_instance, gone}
use Rattle.rail.proofs.workers.Worker.advance.Goals as goal

pub returns-in_default-clause-did : goal.returns-in_default-clause-did
returns-in_default-clause-did g c =
    let none : c.self.inside.publisher ≡ None = search rules in
    rw (← c.self.view_is) (
      ap is_some none,
      record {
        stopped =
            record {
              published = refl;
              stopped = ap is_some none;
              replies = replied_none c.self.inside.told 0 c.self.inside.reply_senders.items;
              closed =
                  c.self.invariant.closed none;
            };
        messages = refl;
      },
    )

pub advance-done-requires-clause-open : goal.advance-done-requires-clause-open
advance-done-requires-clause-open g c =
    let me = c.self.inside in
    let some : me.publisher ≡ Some c.in-Some.publisher = search rules in
    let going =
    subst (λ (o : Option Publishing). IsGoing o me.told (view me.inbox.pass).ports) some c.self.invariant.going in
    subst (λ (n : ℕ). AreOpenBelow n (server_after c.in-Some.publisher.published)) (sym c.self.invariant.as_many) going.2

pub invariant_of-self-then-is_ok : goal.invariant_of-self-then-is_ok
invariant_of-self-then-is_ok g c =
    let me = c.self.inside in
    let done = c.advance-done in
    let some : me.publisher ≡ Some c.in-Some.publisher = search rules in
    let going =
    subst (λ (o : Option Publishing). IsGoing o me.told (view me.inbox.pass).ports) some c.self.invariant.going in
    let got = c.into_input-input.ensures in
    let back = sym c.self.view_is in
    let same = sym got.0 in
    let calls = subst (λ (x : ℕ × Input). AreCallsBelow x.0 (x.1 ∷ [])) (λ i. (length (back i).reply_senders, same i))
    c.requires.port in
    let ok : is_err done.result ≡ false = search rules in
    let next = ok_by done.result _ ok done.ensures.next in
    let goes = ok_by done.result _ ok done.ensures.goes in
    going_worker (Some done.new.publisher) c.in-Some.publisher done.new.publisher me.told done.new.told
    c.into_input-input.result me.reply_senders.items _ _ _
    refl going goes next.0 next.1 (ok_by done.result _ ok done.ensures.replies) c.self.invariant.placed
    c.self.invariant.as_many
    (subst IsInput same got.1) (subst HoldsEntry same got.2) calls

pub returns-then-is_ok-clause-did : goal.returns-then-is_ok-clause-did
returns-then-is_ok-clause-did g c =
    let me = c.self.inside in
    let done = c.advance-done in
    let some : me.publisher ≡ Some c.in-Some.publisher = search rules in
    let going =
    subst (λ (o : Option Publishing). IsGoing o me.told (view me.inbox.pass).ports) some c.self.invariant.going in
    let got = c.into_input-input.ensures in
    let calls = subst (λ (w : WorkerState). AreCallsBelow (length w.reply_senders) (c.args.input ∷ []))
    (sym c.self.view_is)
    c.requires.port in
    let ok : is_err done.result ≡ false = search rules in
    let next = ok_by done.result _ ok done.ensures.next in
    rw (← c.self.view_is)
    (gone _ _ (g.L.Links.state c.args.links.now) (g.L.Links.state done.new.links)
    c.in-Some.publisher done.new.publisher.published c.args.input _
    (ap is_some some) refl going next.1 (next.0 ∙ ap (with_next c.in-Some.publisher.published) got.0)
    (ok_by done.result _ ok done.ensures.messages) (ok_by done.result _ ok done.ensures.replies) got.1 got.2 calls
    c.self.invariant.as_many)

pub invariant_of-self-2 : goal.invariant_of-self-2
invariant_of-self-2 g c =
    let me = c.self.inside in
    let done = c.advance-done in
    let some : me.publisher ≡ Some c.in-Some.publisher = search rules in
    let going =
    subst (λ (o : Option Publishing). IsGoing o me.told (view me.inbox.pass).ports) some c.self.invariant.going in
    let after : c.take.new.self ≡ None = search rules in
    let refused : is_err done.result ≡ true = search rules in
    let told' = done.new.told in
    let instance = cut_instance _ _ c.in-Some.publisher.published told' c.into_input-input.result
    (err_by done.result _ refused done.ensures.cut) ∙ ap (λ (x : History). x.instance) going.0 in
    let closed = subst (λ (ps : List ReplySenderState). HasReplied told' 0 ps c.close_all.new.reply_senders.items [])
    (err_by done.result _ refused done.ensures.unreplied) (c.close_all.ensures.replies told') in
    stopped_worker c.take.new.self told' me.reply_senders.items _ _ me.told.instance after instance closed
    c.self.invariant.placed
    c.self.invariant.as_many c.close_all.ensures.closed
