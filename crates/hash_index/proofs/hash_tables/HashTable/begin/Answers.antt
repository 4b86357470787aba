use Rattle.std.proofs.Common.{subst}
use Rattle.hash_index.specs.Entries.{AreApart}
use Rattle.hash_index.specs.Tables.{joined}
use Rattle.hash_index.proofs.SplitLaws.{joined_apart}
use Rattle.hash_index.proofs.hash_tables.HashTable.begin.Goals as goal

pub returns-then-len-ne0-clause-apart : goal.returns-then-len-ne0-clause-apart
returns-then-len-ne0-clause-apart g c =
    subst (λ xs. AreApart (joined xs)) c.self.view_is (joined_apart c.self.inside.half c.self.inside.rows
    c.self.invariant)
