use Rattle.std.proofs.Common.{◌∙◌}
use Rattle.std.proofs.lemmas.Result.{on_ok_weaker}
use Rattle.versions.specs.Records.{numbers_in, record_at}
use Rattle.versions.proofs.Bases.{noted_key}
use Rattle.versions.proofs.changes.note.Goals as goal

-- the number of an entry that sets a key is added at this key
pub returns-in-Some-clause-numbers : goal.returns-in-Some-clause-numbers
returns-in-Some-clause-numbers c =
    let entry = c.args.entry.now in
    on_ok_weaker c.note.result
    (λ h q. rw (← c.number.ensures.number)
    (h q ∙ noted_key (λ x. numbers_in (record_at c.args.records.now.entries x)) c.number.result
    c.in-Some.key.now q entry.target entry.change c.in-Some.ensures)) c.note.ensures.numbers
