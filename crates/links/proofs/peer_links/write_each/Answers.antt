use Rattle.std.proofs.Common.{rules, ◌≡◌, ◌∙◌, ◌+◌, ◌<◌, ◌||◌, suc, ap, arith, length, slice_index_or}
use Rattle.std.proofs.Common.{slice_set, subst, sym, take}
use Rattle.links.specs.PeerLinks.{HasWritten, HaveWritten, some_waits}
use Rattle.links.proofs.Writing.{one_more_waits, one_more_written, same_length}
use Rattle.links.proofs.peer_links.write_each.Goals as goal

pub loop-place-preserved : goal.loop-place-preserved
loop-place-preserved g c =
    let taken = g.W.LinkSink.taken in
    let links = c.loop-place.links.items in
    let place = c.loop-place.place in
    let was = c.index_mut.result.now in
    let link = c.write_out.new.self in
    let within : place < length links = search rules in
    let at : was ≡ slice_index_or links place was = search rules in
    let one : HasWritten taken (slice_index_or links place was) link =
    subst (λ l. HasWritten taken l link) at c.write_out.ensures.written in
    let next : suc place ≡ place + 1 = omega arith in
    record {
      written = subst (λ k. HaveWritten taken k c.args.links.now.items (slice_set links place link)) next
          (one_more_written taken place c.args.links.now.items links was link c.loop-place.invariant.written within
          one);
      waits =
          c.either-waits.ensures
          ∙ ap (λ b. c.write_out.result || b) c.loop-place.invariant.waits
          ∙ ap (λ b. b || some_waits (take place links)) c.write_out.ensures.waits
          ∙ sym (one_more_waits place links link within)
          ∙ ap (λ k. some_waits (take k (slice_set links place link))) next;
      many = same_length place links link ∙ c.loop-place.invariant.many;
    }
