use Rattle.std.proofs.Common.{rules, tests, ◌≡◌, ◌∙◌, count_by, nat_eq, arith}
use Rattle.std.proofs.lemmas.Bool.Decides.{nat_tests}
use Rattle.std.proofs.lemmas.List.Splits.{length-slice_split}
use Rattle.std.proofs.lemmas.List.Sums.{length-filter}
use Rattle.std.proofs.lemmas.Iterator.{YieldsList-from_slice}
use Rattle.std.proofs.lemmas.Iterator.Consumers.{YieldsList-from_filter, count_from_yields_List}
use Rattle.schedules.proofs.head_lines.fits.Goals as goal

-- a text has one field more than it has spaces
pub returns : goal.returns
returns c =
    let text = c.args.text.now in
    let spaces : c.count.result ≡ count_by (λ b. nat_eq b 32) text =
    count_from_yields_List c.filter.result c.count.result c.count.ensures.ran
    (YieldsList-from_filter _ (λ b. nat_eq b 32) (YieldsList-from_slice text cc) c.filter.ensures.closure
    (λ x b q h. search (rules, tests)))
    ∙ length-filter (λ b. nat_eq b 32) text in
    grind (arith, nat_tests, spaces, length-slice_split (λ b. nat_eq b 32) text)
