use Rattle.std.proofs.Common.{◌≡◌, ◌∙◌, ◌-◌, ◌≤◌, ◌++◌, ap, length, subst, sym, take}
use Rattle.link_streams.specs.Streams.{unwritten}
use Rattle.links.proofs.Writing.{left_over, writes_more}
use Rattle.links.proofs.peer_links.write_some.Goals as goal

pub loop-left-preserved : goal.loop-left-preserved
loop-left-preserved g c =
    let taken = g.W.LinkSink.taken in
    let stream = c.loop-left.stream in
    let n = c.in-Some.n in
    let given : c.unwritten.result.now ≡ unwritten stream = c.unwritten.ensures.bytes in
    let most : n ≤ length (unwritten stream) = subst (λ xs. n ≤ length xs) given c.in-Some.ensures.bound in
    record {
      left =
          ap (λ k. k - n) c.loop-left.invariant.left
          ∙ sym (left_over stream n)
          ∙ ap (λ s. length (unwritten s)) (sym c.written.ensures);
      some = writes_more taken c.args.stream.now stream c.written.new.self c.args.sink.now c.loop-left.sink
          c.take_some.new.self n c.loop-left.invariant.some most c.written.ensures
          (c.in-Some.ensures.taken ∙ ap (λ xs. taken c.loop-left.sink ++ take n xs) given);
    }
