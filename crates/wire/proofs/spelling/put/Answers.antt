use Rattle.std.proofs.Common.{◌++◌, ◌∷◌, [], ap, sym, ◌∙◌}
use Rattle.wire.specs.Spellings.{acceptance_spelling, alive_spelling, beat_spelling, eight_bytes}
use Rattle.wire.specs.Spellings.{introduction_spelling, silent_spelling, spelling, two_bytes}
use Rattle.wire.proofs.Appends.{then_more}
use Rattle.wire.proofs.spelling.put.Goals as goal

-- an introduction is written by its spelling
pub returns-in-Introduction : goal.returns-in-Introduction
returns-in-Introduction c =
    let old = c.args.out.now.items in
    let marked = c.put_head-in-Introduction.new.out.items in
    let done = c.put_introduction.new.out.items in
    then_more old marked done (2 ∷ 7 ∷ []) (introduction_spelling c.in-Introduction.opener)
    c.put_head-in-Introduction.ensures.text c.put_introduction.ensures
    ∙ ap (λ frame. old ++ spelling frame) (sym c.in-Introduction.is)

-- an acceptance is written by its spelling
pub returns-in-Accepted : goal.returns-in-Accepted
returns-in-Accepted c =
    let old = c.args.out.now.items in
    let marked = c.put_head-in-Accepted.new.out.items in
    let done = c.put_acceptance.new.out.items in
    then_more old marked done (2 ∷ 8 ∷ []) (acceptance_spelling c.in-Accepted.answer)
    c.put_head-in-Accepted.ensures.text c.put_acceptance.ensures
    ∙ ap (λ frame. old ++ spelling frame) (sym c.in-Accepted.is)

-- a greeting in an epoch is written by its spelling
pub returns-in-Reign : goal.returns-in-Reign
returns-in-Reign c =
    let old = c.args.out.now.items in
    let marked = c.put_head-in-Reign.new.out.items in
    let done = c.put_epoch.new.out.items in
    then_more old marked done (2 ∷ 11 ∷ []) (eight_bytes c.in-Reign.epoch)
    c.put_head-in-Reign.ensures.text c.put_epoch.ensures
    ∙ ap (λ frame. old ++ spelling frame) (sym c.in-Reign.is)

-- a beat is written by its spelling
pub returns-in-Beat : goal.returns-in-Beat
returns-in-Beat c =
    let old = c.args.out.now.items in
    let marked = c.put_head-in-Beat.new.out.items in
    let done = c.put_beat.new.out.items in
    then_more old marked done (2 ∷ 12 ∷ []) (beat_spelling c.in-Beat.beat)
    c.put_head-in-Beat.ensures.text c.put_beat.ensures
    ∙ ap (λ frame. old ++ spelling frame) (sym c.in-Beat.is)

-- what answers a beat is written by its spelling
pub returns-in-Alive : goal.returns-in-Alive
returns-in-Alive c =
    let old = c.args.out.now.items in
    let marked = c.put_head-in-Alive.new.out.items in
    let done = c.put_alive.new.out.items in
    then_more old marked done (2 ∷ 13 ∷ []) (alive_spelling c.in-Alive.alive)
    c.put_head-in-Alive.ensures.text c.put_alive.ensures
    ∙ ap (λ frame. old ++ spelling frame) (sym c.in-Alive.is)

-- a notice of silence is written by its spelling
pub returns-in-Silent : goal.returns-in-Silent
returns-in-Silent c =
    let old = c.args.out.now.items in
    let marked = c.put_head-in-Silent.new.out.items in
    let done = c.put_silent.new.out.items in
    then_more old marked done (2 ∷ 14 ∷ []) (silent_spelling c.in-Silent.silent)
    c.put_head-in-Silent.ensures.text c.put_silent.ensures
    ∙ ap (λ frame. old ++ spelling frame) (sym c.in-Silent.is)

-- how far a link has come is written by its spelling
pub returns-in-Confirmed : goal.returns-in-Confirmed
returns-in-Confirmed c =
    let old = c.args.out.now.items in
    let marked = c.put_head-in-Confirmed.new.out.items in
    let done = c.put_count.new.out.items in
    then_more old marked done (2 ∷ 15 ∷ []) (eight_bytes c.in-Confirmed.count)
    c.put_head-in-Confirmed.ensures.text c.put_count.ensures
    ∙ ap (λ frame. old ++ spelling frame) (sym c.in-Confirmed.is)

-- which links stand still is written by its spelling
pub returns-in-Stalled : goal.returns-in-Stalled
returns-in-Stalled c =
    let old = c.args.out.now.items in
    let marked = c.put_head-in-Stalled.new.out.items in
    let done = c.put_servers.new.out.items in
    then_more old marked done (2 ∷ 16 ∷ []) (two_bytes c.in-Stalled.servers)
    c.put_head-in-Stalled.ensures.text c.put_servers.ensures
    ∙ ap (λ frame. old ++ spelling frame) (sym c.in-Stalled.is)
