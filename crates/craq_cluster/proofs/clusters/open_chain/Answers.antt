use Rattle.std.proofs.Common.{◌≡◌, ◌∙◌, ap, map, sym, vec_len}
use Rattle.craq_process.specs.Wiring.{Core}
use Rattle.craq_cluster.specs.Wiring.{numbers, openings, starts_of}
use Rattle.craq_cluster.proofs.Standing.{seated}
use Rattle.craq_cluster.proofs.clusters.open_chain.Goals as goal

pub all_parts-requires : goal.all_parts-requires
all_parts-requires g c =
    let same : starts_of c.all_links.new.servers.items ≡ starts_of c.in_ok-servers.servers.items =
    ap (λ cs. map (λ (x : Core). x.worker.published.instance.start) cs) c.all_links.ensures.cores in
    let size : vec_len c.all_links.new.servers ≡ c.args.count =
    c.all_links.ensures.servers ∙ c.in_ok-servers.ensures.count in
    record {
      workers = same ∙ (c.in_ok-servers.ensures.workers ∙ ap (λ n. openings n n) (sym size));
      links = c.in_ok-links.ensures.senders ∙ ap numbers (sym c.in_ok-links.ensures.count);
    }

pub returns-clause-all_server_parts : goal.returns-clause-all_server_parts
returns-clause-all_server_parts g c =
    seated c.args.count c.in_ok-servers.servers.items c.all_links.new.servers.items
    c.in_ok-scheduler.all_server_parts.items
    c.in_ok-servers.ensures.workers c.in_ok-servers.ensures.pools c.all_links.ensures.cores
    c.in_ok-scheduler.ensures.all_server_parts
