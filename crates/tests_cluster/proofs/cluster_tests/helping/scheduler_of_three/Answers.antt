use Rattle.std.proofs.Common.{◌≡◌, ◌∙◌, ap, map, sym, vec_len}
use Rattle.craq_process.specs.Wiring.{Core}
use Rattle.craq_cluster.specs.Wiring.{numbers, openings, starts_of}
use Rattle.tests_cluster.proofs.cluster_tests.helping.scheduler_of_three.Goals as goal

pub all_parts-requires : goal.all_parts-requires
all_parts-requires g c =
    let same : starts_of c.all_links.new.servers.items ≡ starts_of c.in_ok-servers.servers.items =
    ap (λ cs. map (λ (x : Core). x.worker.published.instance.start) cs) c.all_links.ensures.cores in
    let size : vec_len c.all_links.new.servers ≡ 3 =
    c.all_links.ensures.servers ∙ c.in_ok-servers.ensures.count in
    record {
      workers = same ∙ (c.in_ok-servers.ensures.workers ∙ ap (λ n. openings n n) (sym size));
      links = c.in_ok-links.ensures.senders ∙ ap numbers (sym c.in_ok-links.ensures.count);
    }
