use Rattle.std.proofs.Common.{◌∙◌, ◌+◌, sym, ap, subst, true, length, List, []}
use Rattle.atomic_table.specs.Seated.{TableId}
use Rattle.node.specs.declared.messages.Input.{Input}
use Rattle.node.specs.Replies.{AreOpenBelow}
use Rattle.node.specs.Runs.{after}
use Rattle.faces.specs.Publishers.{Publishing}
use Rattle.rail.specs.declared.inbox.InboxKnowledge.{InboxKnowledge}
use Rattle.rail.specs.Inlets.{inlets_from}
use Rattle.rail.specs.NotedReplies.{ReplySenderState}
use Rattle.rail.specs.Servers.{thread_handles_from}
use Rattle.rail.specs.Turns.{AreReplySenders}
use Rattle.rail.proofs.Opening.{are_opened, length_opened, idle_below}
use Rattle.rail.proofs.servers.«open».Goals as goal

pub new-worker-requires-clause-ports : goal.new-worker-requires-clause-ports
new-worker-requires-clause-ports g c =
    let made = c.in-Ok-beside.ensures in
    ap (λ (v : InboxKnowledge). v.ports) c.close.ensures.pass
    ∙ (made.inbox_builder.0
    ∙ sym (ap length made.reply_senders
    ∙ length_opened c.in-Ok.publisher.published.instance 0 (c.args.readers + c.args.more)))

pub new-worker-requires-clause-reply_senders : goal.new-worker-requires-clause-reply_senders
new-worker-requires-clause-reply_senders g c =
    let same = sym c.beside.ensures.publisher in
    let reply_senders = sym c.in-Ok-beside.ensures.reply_senders in
    subst (λ (x : Publishing × List ReplySenderState). AreReplySenders x.0.published.instance 0 x.1)
    (λ i. (same i, reply_senders i))
    (are_opened c.in-Ok.publisher.published.instance 0 (c.args.readers + c.args.more))

pub new-worker-requires-clause-open : goal.new-worker-requires-clause-open
new-worker-requires-clause-open g c =
    let same = c.beside.ensures.publisher in
    let start = ap (λ (x : Publishing). x.published.instance.start) same ∙ c.in-Ok.ensures.start in
    let none = ap (λ (x : Publishing). x.published.inputs) same ∙ c.in-Ok.ensures.inputs in
    let n = length c.in-Ok-beside.reply_senders.items in
    subst (λ (is : List Input). AreOpenBelow n (after c.beside.new.publisher.published.instance.start is)) (sym none)
    (subst (AreOpenBelow n) (sym start) (idle_below c.args.node n c.requires.idle))

pub returns-in-Ok-beside : goal.returns-in-Ok-beside
returns-in-Ok-beside g c =
    let same = c.beside.ensures.publisher in
    let made = c.in-Ok-beside.ensures in
    let none = ap (λ (x : Publishing). x.published.inputs) same ∙ c.in-Ok.ensures.inputs in
    let o = c.in-Ok.publisher.published.instance in
    let inbox = sym (c.close.ensures.inbox ∙ made.inbox) in
    record {
      instance = o;
      inbox = c.close.result.pass.table_id;
      start = c.in-Ok.ensures.start;
      worker = c.new-worker.ensures
          ∙ (λ i. record {
            inbox = c.close.result.pass.table_id;
            taken = [];
            published = record { instance = (same i).published.instance; inputs = none i };
            goes = true;
            reply_senders = made.reply_senders i;
          });
      thread_handles = made.thread_handles ∙ ap (λ (b : TableId). thread_handles_from o b 0 c.args.readers) inbox;
      seats = made.seats;
      brought_by = made.inlets ∙ ap (λ (b : TableId). inlets_from b c.args.readers c.args.inlets) inbox;
    }
