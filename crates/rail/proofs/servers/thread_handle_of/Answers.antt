use Rattle.std.proofs.Common.{◌≡◌, ◌∙◌, ap, ℕ}
use Rattle.faces.specs.Readers.{yet_to_look}
use Rattle.rail.specs.CallSenders.{call_sender_at}
use Rattle.rail.specs.declared.inbox.InboxKnowledge.{InboxKnowledge}
use Rattle.rail.specs.Servers.{history_at}
use Rattle.rail.proofs.Opening.{is_thread_handle_at}
use Rattle.rail.proofs.servers.thread_handle_of.Goals as goal

pub returns-clause-thread_handle : goal.returns-clause-thread_handle
returns-clause-thread_handle c =
    let o = c.args.published.now.instance in
    let reader : c.args.reader ≡ yet_to_look (history_at o) =
    c.requires.reader ∙ (λ i. yet_to_look (record { instance = o; inputs = c.requires.first i })) in
    let made = ap (λ (v : InboxKnowledge). v.made) c.requires.inbox_builder in
    let b = c.args.inbox_builder.now.pass.table_id in
    is_thread_handle_at o b c.args.port _ reader c.in_ok-seat.ensures.seat
    (c.in_ok-call_sender.ensures.call_sender ∙ ap (λ (k : ℕ). call_sender_at o b k) made)
