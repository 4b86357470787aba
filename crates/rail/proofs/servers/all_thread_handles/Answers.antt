use Rattle.std.proofs.Common.{◌≡◌, ◌∙◌, ◌+◌, sym, ap, ◌++◌, ◌∷◌, [], arith, rules}
use Rattle.faces.specs.Publishers.{Publishing}
use Rattle.rail.specs.declared.inbox.InboxKnowledge.{InboxKnowledge}
use Rattle.rail.specs.Inbox.{taker}
use Rattle.rail.specs.NotedReplies.{reply_sender_at}
use Rattle.rail.specs.Servers.{thread_handle_at}
use Rattle.rail.proofs.Opening.{more_reply_senders, more_thread_handles}
use Rattle.rail.proofs.servers.all_thread_handles.Goals as goal

pub loop-port-preserved : goal.loop-port-preserved
loop-port-preserved c =
    let at = c.loop-port.invariant in
    let k = c.loop-port.port in
    let o = c.args.publisher.now.published.instance in
    let b = c.args.inbox_builder.now.pass.table_id in
    let thread_handle = c.in_ok-thread_handle.ensures.thread_handle
    ∙ (λ i. thread_handle_at (at.publisher i).published.instance (at.inbox i) k) in
    let reply_sender = c.in_ok-thread_handle.ensures.reply_sender
    ∙ ap (λ (p : Publishing). reply_sender_at p.published.instance k) at.publisher in
    let pushed : c.push-in-loop-port.new.self.items ≡ c.loop-port.reply_senders.items
    ++ c.in_ok-thread_handle.reply_sender ∷ [] =
    search rules in
    record {
      publisher = c.one_thread_handle.ensures.publisher ∙ at.publisher;
      inbox_builder = c.in_ok-thread_handle.ensures.inbox_builder
          ∙ ap (λ (v : InboxKnowledge). taker (k + 1) v.ports []) at.inbox_builder;
      inbox = c.in_ok-thread_handle.ensures.inbox ∙ at.inbox;
      thread_handles =
          c.in_ok-push.ensures.items ∙ ((λ i. at.thread_handles i ++ thread_handle i ∷ [])
          ∙ sym (more_thread_handles o b 0 k k (omega arith)));
      reply_senders = pushed ∙ ((λ i. at.reply_senders i ++ reply_sender i ∷ [])
          ∙ sym (more_reply_senders o 0 k k (omega arith)));
    }
