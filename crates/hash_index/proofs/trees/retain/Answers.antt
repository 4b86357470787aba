use Rattle.std.proofs.Common.{rules}
use Rattle.hash_index.proofs.RetainLaws.{from_pairs}
use Rattle.hash_index.proofs.trees.retain.Goals as goal

pub returns-clause-kept : goal.returns-clause-kept
returns-clause-kept g c =
    from_pairs g.R.Retain.outcome _ (λ f k v b w h t. search rules) c.args.tree.now.entries _ _
    c.retain.ensures.filtered
