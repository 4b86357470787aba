-- What a master that watches decides about a server (this project's rule).
use Rattle.std.specs.Prelude.{◌≡◌, ℕ, true, false, ◌&&◌, if◌then◌else◌, Option, None, Some, IfSome}
use Rattle.leases.specs.declared.orders.Order.{Order}
use Rattle.leases.specs.declared.orders.Order.TheVariants as orders
use Rattle.leases.specs.declared.server_records.Due.{Due}
use Rattle.leases.specs.declared.server_records.Due.TheVariants as dues
use Rattle.master_decisions.specs.declared.news.News.{News}
use Rattle.master_decisions.specs.declared.news.News.TheVariants as news
use Rattle.master_decisions.specs.declared.decisions.Facts.{Facts}
use Rattle.master_decisions.specs.declared.decisions.Notice.{Notice}
use Rattle.master_decisions.specs.declared.decisions.Sending.{Sending}
use Rattle.master_decisions.specs.declared.decisions.Decision.{Decision}
use Rattle.master_decisions.specs.ServerSets.{is_among}

-- Nothing.
abbrev pub nothing : Decision
nothing = record { given_up = None; sending = None; notice = None }

-- the other servers are given this notice
abbrev pub notifying : Order → Decision
notifying order = record {
  given_up = None;
  sending = None;
  notice = Some (record { order = order; is_typed = false });
}

-- this is sent to one server
abbrev pub sending_of : ℕ → Order → Decision
sending_of to order = record { given_up = None; sending = Some (record { to = to; order = order }); notice = None }

-- the notice that a server is gone, if that is news
abbrev pub news_of : Facts → ℕ → Option Notice
news_of facts j =
    if is_among facts.gone j then None else Some (record { order = orders.Gone j; is_typed = false })

-- a server has accepted a connection: it is told so if that start of it was called gone before
abbrev pub sent_to_one_met : Facts → ℕ → Decision
sent_to_one_met facts i =
    if facts.is_known_start && is_among facts.gone i then sending_of i (orders.Gone i) else nothing

-- what is done about a piece of news
abbrev pub decided_by_news : Facts → News → Decision
decided_by_news facts (news.Typed j) = record {
  given_up = Some j;
  sending = None;
  notice = Some (record { order = orders.Gone j; is_typed = true });
}
decided_by_news facts news.BadLine = nothing
decided_by_news facts (news.Met i start gone) = sent_to_one_met facts i
decided_by_news facts (news.Broken i) = nothing
decided_by_news facts (news.Lost i) = nothing
decided_by_news facts (news.Ended j) = record { given_up = Some j; sending = None; notice = news_of facts j }
decided_by_news facts (news.Told i reading) = nothing
decided_by_news facts (news.Stalled i servers) = nothing
decided_by_news facts (news.Answered i answered) = nothing
decided_by_news facts (news.Fault fault) = nothing

-- what is done about what the master machine has due for a server
abbrev pub decided_by_due : Facts → ℕ → Due → Decision
decided_by_due facts i (dues.Wait span) = nothing
decided_by_due facts i (dues.Server order) = sending_of i order
decided_by_due facts i (dues.Others (orders.Reign epoch)) = nothing
decided_by_due facts i (dues.Others (orders.Beat epoch stamp)) = nothing
decided_by_due facts i (dues.Others (orders.Silent epoch j)) = notifying (orders.Silent epoch j)
decided_by_due facts i (dues.Others (orders.Gone j)) = record {
  given_up = None;
  sending = None;
  notice = news_of facts j;
}

-- what is done if a server that was reached may not know that this one is gone
abbrev pub decided_by_lack : Facts → ℕ → Decision
decided_by_lack facts j = if facts.watches && is_among facts.gone j then notifying (orders.Gone j) else nothing

-- What there is to decide about: a piece of news; what the master machine has due for a server; or that a server which
-- was reached may not know that this one is gone.
pub data Matter : Type 0 where
  OfNews : News → Matter
  OfDue : ℕ → Due → Matter
  OfLack : ℕ → Matter

-- The server that does nothing more, as a person or its host says: a line of the input names it, or the process that
-- was reached has ended.
abbrev pub ended_by : Matter → Option ℕ
ended_by (OfNews (news.Typed j)) = Some j
ended_by (OfNews (news.Ended j)) = Some j
ended_by _ = None

-- The one notice that may be given about a matter: that a server is gone which a line of the input names, or whose
-- process has ended; what the master machine has due for the others, which is that a server was silent until its lease
-- was over, or that one is gone which was given up, or of which a server said so; or that one is gone which is known to.
abbrev pub grounded_notice : Facts → Matter → Option Order
grounded_notice facts (OfNews (news.Typed j)) = Some (orders.Gone j)
grounded_notice facts (OfNews (news.Ended j)) = Some (orders.Gone j)
grounded_notice facts (OfDue i (dues.Others order)) = Some order
grounded_notice facts (OfLack j) = if facts.watches && is_among facts.gone j then Some (orders.Gone j) else None
grounded_notice facts _ = None

-- What may be sent to one server alone: what the master machine has due for it; or, if it accepts a connection after it
-- was called gone, that it was.
abbrev pub grounded_sending : Facts → Matter → Option Sending
grounded_sending facts (OfDue i (dues.Server order)) = Some (record { to = i; order = order })
grounded_sending facts (OfNews (news.Met i start gone)) =
    if is_among facts.gone i then Some (record { to = i; order = orders.Gone i }) else None
grounded_sending facts _ = None

-- Whatever is done about a matter has its grounds.
pub record HasGrounds (facts : Facts) (matter : Matter) (decision : Decision) : Type 0 where
  pub notice : IfSome decision.notice (λ notice. grounded_notice facts matter ≡ Some notice.order)
  pub given_up : IfSome decision.given_up (λ j. ended_by matter ≡ Some j)
  pub sending : IfSome decision.sending (λ sending. grounded_sending facts matter ≡ Some sending)
