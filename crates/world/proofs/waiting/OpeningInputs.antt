-- What is known of the message that a server takes: an own entry that comes is its next one, and an update that comes
-- is seen.
use Rattle.std.proofs.Common.{◌≡◌, ◌≢◌, ℕ, ◌+◌, ◌-◌, ◌<◌, ◌≤◌, true, false, List, length, take, sym, ap, subst, ◌∙◌}
use Rattle.std.proofs.Common.{arith, inl, inr}
use Rattle.std.specs.Prelude.{slice_index_or}
use Rattle.std.proofs.lemmas.Bool.{both_ways, cases_lt, false_from_ne_true}
use Rattle.std.proofs.lemmas.List.{take_all}
use Rattle.std.proofs.lemmas.Option.{same_Some, slice_get_within}
use Rattle.table.specs.declared.operations.Call.{Call}
use Rattle.versions.specs.Stores.{last_number}
use Rattle.node.specs.declared.messages.Body.TheVariants.{Op, Forward}
use Rattle.node.specs.declared.messages.Peer.{Peer}
use Rattle.node.specs.declared.messages.Input.TheVariants.{From}
use Rattle.node.specs.Views.{has}
use Rattle.node.specs.Servers.{most, seen_of, head_of, is_head}
use Rattle.node.specs.Steps.{step}
use Rattle.node.specs.Lawful.{IsSound, IsLawful}
use Rattle.world.specs.Worlds.{World, server, link}
use Rattle.node.proofs.Lists.{In}
use Rattle.world.proofs.trace.Traces.{Traced, log, issued_by, count}
use Rattle.world.proofs.trace.Layers.{Goes, Carries, Asks, IsAddressed, IsIssued, Lawful, entries_of}
use Rattle.node.proofs.Beginnings.{begins-take}
use Rattle.world.proofs.trace.IdLaws.{predecessor_found, head_from, is_itself}
use Rattle.node.specs.Actions.{IsTakenIn}
use Rattle.node.proofs.RuleLaws.{lawful-step}
use Rattle.node.proofs.DoneRules.{taken_from}
use Rattle.node.proofs.DoneSteps.{step_whole}
use Rattle.world.proofs.streams.StreamSteps.{last_is}
use Rattle.world.proofs.layers.Addressed.{sender_apart}
use Rattle.world.proofs.streams.StreamDeliveries.{is_heard_there}
use Rattle.world.proofs.waiting.OwnEntries.{IsExpected}
use Rattle.world.proofs.waiting.HeadTakes.{HasRoom}
use Rattle.world.proofs.waiting.OpenSteps.{Serves}

-- numbers are left for all updates that are issued and not yet seen
pub record HasRooms (w : World) : Type 0 where
  pub own : (i : ℕ) → i < length w.servers → HasRoom (server w i)
  pub more : (i j : ℕ)
      → i < length w.servers
      → j < length w.servers
      → i ≢ j
      → seen_of (server w i) j + 1 < (server w j).next_id
      → last_number (server w i).store + (server w i).next_id ≤ most + seen_of (server w i) (server w i).id

module _ (t : Traced) (l : Lawful t) (i a : ℕ) (m : Peer) (there : In m (link t.world i a)) where
  addressed : IsAddressed t i a m
  addressed = l.framed.sound i a m there

  -- ---- an entry

  -- an own entry that comes from the predecessor is the server's next one
  pub expected : IsExpected (server t.world a) (From i m)
  expected e is u grown same from number own =
      let s = server t.world a in
      let here = addressed.receiver in
      let p = predecessor_found u i from in
      let low : a < 16 = omega (arith, here, l.framed.most) in
      let id : u.id ≡ a = grown.id ∙ l.framed.id a here in
      let out : has s.view i ≡ false = false_from_ne_true _ (λ e. both_ways _ p.out (grown.view i e)) in
      let c : Carries t i m.view (Forward e) = subst (λ b. Carries t i m.view b) is (l.logged.carries i a m there) in
      let begins = l.logged.begins i a (omega (arith, p.below, id)) here out in
      let ordinal : e.number ≡ length (log t a) + 1 = omega (arith, number, same.last, last_is t l.logged a here) in
      let front : take (e.number - 1) (log t i) ≡ log t a =
      begins-take (e.number - 1) (log t a) (log t i) begins (omega (arith, ordinal))
      ∙ take_all (e.number - 1) (log t a) (omega (arith, ordinal)) in
      let origin : e.origin ≡ a = own ∙ id in
      let next = l.calling.ids i (e.number - 1) e c.1 in
      let counted : entries_of e.origin (take (e.number - 1) (log t i)) ≡ entries_of a (log t a) =
      ap (λ o. entries_of o (take (e.number - 1) (log t i))) origin ∙ ap (λ es. entries_of a es) front in
      let seen : seen_of u u.id ≡ seen_of s a =
      ap (λ o. seen_of u o) id ∙ ap (λ (ns : List ℕ). slice_index_or ns a 0) same.seen in
      let issued = (l.calling.decided i (e.number - 1) e c.1).issued in
      let within = slice_get_within (issued_by t e.origin) (e.id - 1) issued.name issued.issued in
      let all = ap (λ o. length (issued_by t o)) origin in (
        omega (arith, next, counted, seen, l.calling.seen a a here low),
        omega (arith, issued.low, within, all, grown.next_id, l.calling.next_id a here),
      )

  -- ---- an update

  -- the head sees an update that comes, if it doesn't know the sender to have failed
  pub seen_there : IsLawful (server t.world a)
      → (id : ℕ) (call : Call)
      → m.body ≡ Op id call
      → IsSound (server t.world i)
      → Serves (server t.world a) (From i m) (step (server t.world a) (From i m))
      → HasRooms t.world
      → id ≤ seen_of (server t.world a) i + 1
      → id < (server t.world i).next_id
      → has (step (server t.world a) (From i m)).state.view i ≡ false
      → id ≤ seen_of (step (server t.world a) (From i m)).state i
  seen_there lawful id call is from serves rooms next issued unaware =
      let s = server t.world a in
      let o = step s (From i m) in
      let u = o.state in
      let here = addressed.receiver in
      let known = (step_whole s (From i m) lawful addressed.fit addressed.entry).heeded
      (is_heard_there t i a m l.framed addressed from) in
      let after = lawful-step s (From i m) addressed.fit addressed.entry lawful in
      let low : i < 16 = omega (arith, addressed.sender, l.framed.most) in
      let sid = l.framed.id a here in
      let uid : u.id ≡ a = serves.id ∙ sid in
      let issue : IsIssued t i id call = subst (λ b. Asks t i b) is (l.calling.issues i a m there) in
      let g : Goes i a m.view (count t) (Op id call) = subst (λ b. Goes i a m.view (count t) b) is addressed.goes in
      let head : is_head u ≡ true = is_itself (head_of u) u.id (head_from u.view u.count u.id (record {
        within = after.sound.placed;
        out = after.sound.outside;
        below = λ x p. known.0 x (g.1 x (omega (arith, p, uid)));
      })) in
      let took : IsTakenIn i (Op id call) o = subst (λ b. IsTakenIn i b o) is (known.1 unaware) in
      let seen = serves.seen i low in
      elim (cases_lt (seen_of u i) id) [
        | inr held ↦ held
        | inl new ↦ (let more = rooms.more a i here addressed.sender (λ e. sender_apart t i a m addressed (sym e))
            (omega (arith, new, seen, issued)) in
            let room : last_number u.store < most = elim serves.longer [
              | inl few ↦ omega
                  (arith, few, more, serves.few, serves.own.issued, serves.own.high, ap (λ k. seen_of u k) serves.id)
              | inr (inl x) ↦ (let one : From i m ≡ From x.0 x.1 = same_Some _ _ x.4 in
                  let who : i ≡ x.0 = cc in
                  let message : m ≡ x.1 = cc in
                  let what : Op id call ≡ Op x.2 x.3 = sym is ∙ ap (λ (y : Peer). y.body) message ∙ x.5 in
                  let named : id ≡ x.2 = cc in
                  absurd (omega (arith, new, x.7, named, ap (λ k. seen_of u k) who)))
              | inr (inr x) ↦ absurd (let one : From i m ≡ From x.0 x.1 = same_Some _ _ x.3 in
                  let message : m ≡ x.1 = cc in
                  let what : Op id call ≡ Forward x.2 = sym is ∙ ap (λ (y : Peer). y.body) message ∙ x.4 in
                  cc)
            ] in
            absurd (both_ways _ (took head issue.update) (taken_from u i id (omega (arith, new, next, seen)) room)))
      ]
