use Rattle.std.proofs.Common.{◌∙◌, ap}
use Rattle.faces.proofs.Adding.{adds_moves}
use Rattle.faces.proofs.logs.Log.add.Goals as goal

pub compare_exchange-requires : goal.compare_exchange-requires
compare_exchange-requires c =
    let h = c.args.self.now.head_is in
    let offer = c.plain-offer.ensures in
    let pen = c.no_pen-pen.ensures in (
      ap (λ w. w.tracked) h,
      c.requires.book,
      pen.0 ∙ c.requires.book,
      offer.0,
      rw (ap (λ w. w.key) h, pen.1, offer.1, offer.3)
          (adds_moves c.args.seen.now.log _ c.args.count c.requires.whole.0 c.requires.whole.1),
    )
