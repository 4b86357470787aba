use Rattle.std.proofs.Common.{length}
use Rattle.traces.specs.Crossings.{puts_of, takes_of, row_after_all}
use Rattle.traces.specs.Arrows.{arrows_among, arrows_of, ways_of}
use Rattle.traces.proofs.ArrowLaws.{laid_from_puts}
use Rattle.traces.proofs.laws.each_put_has_its_arrow.Goals as goal

pub returns : goal.returns
unfolding arrows_of arrows_among
returns c = λ homes events trace.
    laid_from_puts (puts_of trace.event_effects) (takes_of homes events trace.event_effects)
    (row_after_all 0 trace.event_effects)
    (ways_of (length trace.world.servers) homes)
