use Rattle.std.proofs.Common.{rules, tests, ◌∙◌, is_some}
use Rattle.std.proofs.lemmas.List.Sums.{length-filter}
use Rattle.std.proofs.lemmas.Iterator.{YieldsList-from_slice}
use Rattle.std.proofs.lemmas.Iterator.Consumers.{YieldsList-from_filter, count_from_yields_List}
use Rattle.world.specs.declared.transcripts.CallTranscript.{CallTranscript}
use Rattle.schedules.proofs.printing.answered.Goals as goal

-- the calls that are counted are those with a reply
pub returns : goal.returns
returns c =
    count_from_yields_List c.filter.result c.count.result c.count.ensures.ran
    (YieldsList-from_filter _ (λ (call : CallTranscript). is_some call.reply)
    (YieldsList-from_slice c.args.calls.now (cc)) c.filter.ensures.closure (λ x b q h. search (rules, tests)))
    ∙ length-filter (λ (call : CallTranscript). is_some call.reply) c.args.calls.now
