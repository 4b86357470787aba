use Rattle.std.proofs.Common.{rules, tests, ◌∙◌}
use Rattle.std.proofs.lemmas.List.Sums.{length-filter}
use Rattle.std.proofs.lemmas.Iterator.{YieldsList-from_slice}
use Rattle.std.proofs.lemmas.Iterator.Consumers.{YieldsList-from_filter, count_from_yields_List}
use Rattle.master_decisions.specs.Notices.{is_done}
use Rattle.master_decisions.proofs.notices.done_in.Goals as goal

pub returns : goal.returns
returns c =
    count_from_yields_List c.filter.result c.count.result c.count.ensures.ran
    (YieldsList-from_filter _ is_done
    (YieldsList-from_slice c.args.answers.now (cc)) c.filter.ensures.closure (λ x b q h. search (rules, tests)))
    ∙ length-filter is_done c.args.answers.now
