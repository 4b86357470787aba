use Rattle.hash_index.proofs.RetainLaws.{swept_gone}
use Rattle.hash_index.proofs.hash_tables.retain_at.Goals as goal

pub returns-clause-gone : goal.returns-clause-gone
returns-clause-gone g c =
    swept_gone g.R.Retain.outcome c.args.rows.now c.swap-slots.new.self c.swap.new.self c.args.i c.new.result
    c.swap-slots.result c.retain-gone.new.self c.requires c.swap-slots.ensures.old c.swap-slots.ensures.new
    c.swap.ensures.new c.retain-gone.result c.retain-gone.ensures.gone
