use Rattle.command_line.proofs.Parsers.{changes_any}
use Rattle.command_line.specs.ClusterWords.{with_serving}
use Rattle.command_line.proofs.cluster_words.with_serving.Goals as goal

pub returns : goal.returns
returns c = changes_any c.args.parser _ with_serving (λ app reads.
    let seats = c.and_option-seats.ensures _ _ reads c.seats_option.ensures in
    let threads = c.and_option-threads.ensures _ _ seats c.threads_option.ensures in
    let connections = c.and_option-connections.ensures _ _ threads c.connections_option.ensures in
    let memory = c.and_option-memory.ensures _ _ connections c.memory_option.ensures in
    c.and_option.ensures _ _ memory c.quiet_option.ensures)
