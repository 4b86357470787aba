-- A seat takes a reply from its queue.
use Rattle.std.proofs.Common.{◌≡◌, ℕ, List, [], ◌∷◌, ◌++◌, Option, None, Some, refl, ap, sym, ◌∙◌, subst, inl, inr}
use Rattle.std.proofs.Common.{append_assoc}
use Rattle.std.specs.Prelude.{slice_get}
use Rattle.std.proofs.lemmas.Bool.{cases_eq}
use Rattle.table.specs.declared.operations.Reply.{Reply}
use Rattle.world.specs.Connections.{Connection}
use Rattle.world.specs.Worlds.{World}
use Rattle.interleavings.specs.Chains.{Seat, Chain, with_at, with_seat}
use Rattle.interleavings.specs.Moves.{Receives, received, done}
use Rattle.interleavings.proofs.relation.StandsFor.{Sits, StandsFor, sits_still}
use Rattle.interleavings.proofs.lists.ChangedFunctions.{at_other, at_same}
use Rattle.interleavings.proofs.passing.Passes.{passes}

got_more : (l m : Chain) (w : World) (o : Option Connection) (s : Seat) (reply : Reply) (more : List Reply)
    → s.queued ≡ reply ∷ more
    → Sits l w o s
    → Sits m w o (record s { got = s.got ++ reply ∷ []; queued = more })
got_more l m w None s reply more first g = absurd (let no : reply ∷ more ≡ [] = sym first ∙ g.none.1 in cc)
got_more l m w (Some k) s reply more first g = record {
  home = g.home;
  replies = g.replies ∙ ap (λ rs. s.got ++ rs) first ∙ sym (append_assoc s.got (reply ∷ []) more);
  unheard = g.unheard;
  calls = g.calls;
  heard = g.heard;
  rested = g.rested;
  tallies = g.tallies;
}

received_stands : (l : Chain) (w : World) (c : ℕ)
    → StandsFor l w
    → (rs : List Reply)
    → (l.seats c).queued ≡ rs
    → StandsFor (received l c (l.seats c) rs) w
received_stands l w c h [] first = h
received_stands l w c h (reply ∷ more) first =
    let s : Seat = record (l.seats c) { got = (l.seats c).got ++ reply ∷ []; queued = more } in
    passes w l (with_seat l c s) h (record {
      count = refl;
      stopped = λ k. refl;
      node = λ k. refl;
      ways = λ x y. refl;
      calls = λ k d e. refl;
      replies = λ k d. refl;
      notices = λ k x g. inl g;
      seats = λ d g. elim (cases_eq d c) [
        | inl own ↦ subst (λ x. Sits (with_seat l c s) w (slice_get w.connections x) (with_at l.seats c s x)) (sym own)
            (subst (λ u. Sits (with_seat l c s) w (slice_get w.connections c) u) (sym (at_same l.seats c s))
            (got_more l (with_seat l c s) w (slice_get w.connections c) (l.seats c) reply more first
            (subst (λ x. Sits l w (slice_get w.connections x) (l.seats x)) own g)))
        | inr other ↦ subst (λ u. Sits (with_seat l c s) w (slice_get w.connections d) u)
            (sym (at_other l.seats c s d other))
            (sits_still w l (with_seat l c s) (λ k. refl) (slice_get w.connections d) (l.seats d) g)
      ];
    })

-- a reply is taken: no event
pub receives_stands : (l : Chain) (w : World) (c : ℕ) → StandsFor l w → StandsFor (done l (Receives c)) w
receives_stands l w c h = received_stands l w c h (l.seats c).queued refl
