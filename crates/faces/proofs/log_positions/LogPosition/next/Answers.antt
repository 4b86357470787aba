use Rattle.std.proofs.Common.{ap, ◌∙◌, ◌≡◌, List, ◌++◌, ◌∷◌, []}
use Rattle.faces.specs.declared.logs.HistoryItem.{HistoryItem}
use Rattle.faces.specs.declared.logs.HistoryItem.TheVariants.{Took}
use Rattle.faces.proofs.Beginnings.{longer_by}
use Rattle.faces.proofs.log_positions.LogPosition.next.Goals as goal

pub returns : goal.returns
returns c =
    let mine = c.self.inside.seen in
    let s = c.again-seen.ensures in
    let log = c.add.new.seen.log in
    let was : c.again-seen.result.log ≡ mine.log = ap (λ x. x.log) s in
    let is : log ≡ mine.log ++ Took c.args.input.now ∷ [] =
    c.if-not-add.ensures.added ∙ ap (λ (l : List HistoryItem). l ++ Took c.args.input.now ∷ []) was in
    rw (← c.self.view_is)
    (longer_by mine.book c.add.new.seen.book mine.log log c.args.input.now c.self.invariant.1
    (c.add.ensures.book ∙ ap (λ x. x.book) s) is)
