use Rattle.std.proofs.Common.{◌∙◌, ap}
use Rattle.faces.specs.Histories.{History}
use Rattle.faces.specs.Publishers.{Publishing}
use Rattle.rail.specs.Servers.{thread_handle_at}
use Rattle.rail.proofs.servers.one_thread_handle.Goals as goal

pub returns-clause-thread_handle : goal.returns-clause-thread_handle
returns-clause-thread_handle c =
    let same = c.published.ensures ∙ ap (λ (p : Publishing). p.published) c.one_reader.ensures.publisher in
    c.in_ok-made.ensures.thread_handle
    ∙ ap (λ (x : History). thread_handle_at x.instance c.args.inbox_builder.now.pass.table_id c.args.port) same
