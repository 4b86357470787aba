use Rattle.std.proofs.Common.{ap, subst, sym, ◌∙◌, List}
use mathlib.Core.List.{IsPrefix}
use Rattle.faces.specs.Histories.{History}
use Rattle.faces.specs.declared.logs.HistoryItem.{HistoryItem}
use Rattle.faces.proofs.Beginnings.{ordered}
use Rattle.faces.proofs.log_positions.LogPosition.has_all_of.Goals as goal

pub returns : goal.returns
returns c =
    let mine = c.self.inside.seen in
    let theirs = c.other.inside.seen in
    let both = c.learn.new.self.log in
    let this : IsPrefix mine.log both =
    subst (λ (l : List HistoryItem). IsPrefix l both) (ap (λ s. s.log) c.again-both.ensures) c.learn.ensures.2 in
    let same = ap (λ (k : History). k.instance.book) c.other.view_is
    ∙ (c.requires.server ∙ sym (ap (λ (k : History). k.instance.book) c.self.view_is)) in
    rw (← c.self.view_is, ← c.other.view_is)
    (ordered mine.book theirs.book mine.log theirs.log both c.self.inside.count c.other.inside.count same
    c.self.invariant.1 c.other.invariant.1 c.self.invariant.0 c.other.invariant.0 this c.learn.ensures.3)
