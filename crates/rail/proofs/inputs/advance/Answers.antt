use Rattle.std.proofs.Common.{◌≡◌, ◌∙◌, sym, ap, subst, length, List, map, false, is_err, rules}
use Rattle.node.specs.declared.messages.Output.{Output}
use Rattle.node.specs.Replies.{AreRepliesBelow}
use Rattle.faces.specs.Histories.{History}
use Rattle.rail.specs.Spent.{ArePutOut, spent}
use Rattle.rail.specs.Turns.{HasPut, HasReplied, messages_of, outputs_after}
use Rattle.rail.proofs.Ports.{replies_next}
use Rattle.rail.proofs.Spending.{put_out_all, spent_below, spent_replied}
use Rattle.rail.proofs.Turning.{ok_by}
use Rattle.rail.proofs.inputs.advance.Goals as goal

-- the replies that are left are those that the step put out
pub put_replies-requires-clause-step : goal.put_replies-requires-clause-step
put_replies-requires-clause-step g c =
    let now = c.take.new.self.published in
    let ok : is_err c.put_messages.result ≡ false = search rules in
    let left = ok_by c.put_messages.result _ ok c.put_messages.ensures.replies in
    subst (λ (h : History). ArePutOut h c.put_messages.new.outputs.items) (sym c.published-3.ensures)
    (subst (ArePutOut now) (sym (left ∙ ap (map spent) c.in-Ok.ensures.outputs))
    (put_out_all now (outputs_after now) (λ o among. among)))

pub put_replies-requires-clause-ports : goal.put_replies-requires-clause-ports
put_replies-requires-clause-ports g c =
    let n = length c.args.reply_senders.now.items in
    let ok : is_err c.put_messages.result ≡ false = search rules in
    let left = ok_by c.put_messages.result _ ok c.put_messages.ensures.replies in
    subst (AreRepliesBelow n) (sym left)
    (spent_below n c.in-Ok.outputs.items
    (subst (AreRepliesBelow n) (sym (c.in-Ok.ensures.outputs ∙ ap outputs_after c.in-Ok.ensures.published))
    (replies_next c.args.publisher.now.published c.args.input n c.requires.input.0 c.requires.input.1 c.requires.lawful
    c.requires.«open» c.requires.calls)))

pub returns-clause-messages : goal.returns-clause-messages
returns-clause-messages g c =
    let ok : is_err c.put_messages.result ≡ false = search rules in
    subst (λ (os : List Output). HasPut (g.L.Links.state c.args.links.now) (g.L.Links.state c.put_messages.new.links)
    (messages_of os))
    c.in-Ok.ensures.outputs (ok_by c.put_messages.result _ ok c.put_messages.ensures.ok)

-- what is replied is replied of the outputs as they were
pub returns-clause-replies : goal.returns-clause-replies
returns-clause-replies g c =
    let now = c.take.new.self.published in
    let before = c.args.reply_senders.now.items in
    let after = c.put_replies.new.reply_senders.items in
    let ok : is_err c.put_messages.result ≡ false = search rules in
    let left = ok_by c.put_messages.result _ ok c.put_messages.ensures.replies in
    spent_replied now 0 before after (outputs_after now)
    (subst (HasReplied now 0 before after) (left ∙ ap (map spent) c.in-Ok.ensures.outputs)
    (subst (λ (h : History). HasReplied h 0 before after c.put_messages.new.outputs.items) c.published-3.ensures
    c.put_replies.ensures.put))
