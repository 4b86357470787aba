use Rattle.lines.proofs.Appended.{appends_text}
use Rattle.lines.proofs.texts.TextWriter.write_fmt.Goals as goal

pub returns-in-Ok : goal.returns-in-Ok
returns-in-Ok g c =
    appends_text _ (λ t. g.W.Sink.written t.sink.now) (λ _ _ _ appended. appended) (g.D.Display.output c.args.value) _ _
    c.in-Ok.ensures.writes
