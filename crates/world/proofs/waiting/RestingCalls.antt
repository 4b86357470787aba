-- If nothing is on its way between living servers and each knows who failed, no own call of a living server is open.
use Rattle.std.proofs.Common.{◌≡◌, ℕ, ◌+◌, ◌<◌, ◌≤◌, true, false, List, [], ◌∷◌, length, Option, Some, None, refl, sym}
use Rattle.std.proofs.Common.{ap, subst, ◌∙◌, arith, inl, inr}
use Rattle.std.proofs.lemmas.Bool.{cases_eq, both_ways}
use Rattle.std.proofs.lemmas.List.{drop_all}
use Rattle.versions.specs.Entries.{LogEntry}
use Rattle.node.specs.declared.servers.OpenUpdate.{OpenUpdate}
use Rattle.node.specs.declared.servers.OpenRead.{OpenRead}
use Rattle.node.specs.declared.messages.Peer.{Peer}
use Rattle.node.specs.Views.{has}
use Rattle.node.specs.Servers.{head_of, tail_of, seen_of}
use Rattle.node.specs.Lawful.{IsLawful}
use Rattle.world.specs.Worlds.{server, link, lives}
use Rattle.node.proofs.Lists.{In}
use Rattle.world.proofs.trace.Traces.{Traced, log, count}
use Rattle.world.proofs.trace.Layers.{Lawful, entries_of}
use Rattle.world.proofs.trace.Outsets.{nothing_in}
use Rattle.world.proofs.layers.HeldLogs.{held_after}
use Rattle.world.proofs.trace.IdLaws.{living_parts, living_from, head_of_is, tail_of_is, no_head, no_tail, is_itself}
use Rattle.world.proofs.streams.Streaming.{IsRun}
use Rattle.world.proofs.streams.ForwardRuns.{run_up}
use Rattle.world.proofs.streams.AtRest.{IsAtRest, IsLevel}
use Rattle.world.proofs.waiting.Opening.{ids, ids_of, unacked, op_ids, Opening}
use Rattle.world.proofs.waiting.Asking.{Asking}

module _ (t : Traced) (h : Lawful t) (rest : IsAtRest t.world)
    (servers : (i : ℕ) → i < count t → IsLawful (server t.world i)) where
  -- who lives is in no living server's view
  unaware : (i j : ℕ) → lives t.world i ≡ true → lives t.world j ≡ true → has (server t.world j).view i ≡ false
  unaware i j a b = (let p = living_parts t.world i a in rest.views j i b p.0 ∙ p.1)

  -- and who isn't lives
  alive : (i j : ℕ)
      → lives t.world i ≡ true
      → j < count t
      → has (server t.world i).view j ≡ false
      → lives t.world j ≡ true
  alive i j a l out = living_from t.world j l (sym (rest.views i j a l) ∙ out)

  some_tail : (i : ℕ)
      → lives t.world i ≡ true
      → (o : Option ℕ)
      → tail_of (server t.world i) ≡ o
      → (j : ℕ) × (o ≡ Some j)
  some_tail i a None e = absurd (let p = living_parts t.world i a in
      both_ways _ (unaware i i a a)
      (no_tail (server t.world i).view (server t.world i).count e i (omega (arith, p.0, h.framed.chain i p.0))))
  some_tail i a (Some j) e = (j, refl)

  some_head : (i : ℕ)
      → lives t.world i ≡ true
      → (o : Option ℕ)
      → head_of (server t.world i) ≡ o
      → (j : ℕ) × (o ≡ Some j)
  some_head i a None e = absurd (let p = living_parts t.world i a in
      both_ways _ (unaware i i a a)
      (no_head (server t.world i).view (server t.world i).count e i (omega (arith, p.0, h.framed.chain i p.0))))
  some_head i a (Some j) e = (j, refl)

  -- ---- reads

  nothing_there : (i j : ℕ) (m : Peer) → lives t.world i ≡ true → lives t.world j ≡ true → In m (link t.world i j) → ⊥
  nothing_there i j m a b there =
      nothing_in m (subst (λ ms. In m ms) (rest.links i j a b) there)

  -- at rest no read of a living server is open
  pub reads_closed : Asking t.world → (i : ℕ) (r : OpenRead) → lives t.world i ≡ true → In r (server t.world i).asks → ⊥
  reads_closed asking i r a waits =
      let here = (living_parts t.world i a).0 in
      let found = some_tail i a (tail_of (server t.world i)) refl in
      let j = found.0 in
      let is = tail_of_is (server t.world i) j found.1 in
      let inside : j < count t = omega (arith, is.below, h.framed.chain i here) in
      let b = alive i j a inside is.out in
      elim (cases_eq j i) [
        | inl same ↦ nothing_in r
            (subst (λ rs. In r rs)
            ((servers i here).settled
            (is_itself (tail_of (server t.world i)) (server t.world i).id
            (found.1 ∙ ap Some (same ∙ sym (h.framed.id i here))))).1 waits)
        | inr other ↦ elim
            (asking i j (record
            { here = here; inside = inside; tail = found.1; other = other; unaware = unaware i j a b })
            r waits) [
              | inl query ↦ nothing_there i j query.0 a b query.2
              | inr answer ↦ nothing_there j i answer.0 b a answer.2
            ]
      ]

  -- ---- updates

  none_left : (f n : ℕ) (us : List OpenUpdate) (u : OpenUpdate) → IsRun f n (ids us) → n ≤ f → In u us → ⊥
  none_left f n [] u run low i = nothing_in u i
  none_left f n (v ∷ us) u run low i = absurd (omega (arith, run_up (ids us) (f + 1) n run.1, low))

  all_acked : (i : ℕ) → i < count t → IsLevel t i → unacked (server t.world i).store ≡ []
  all_acked i l level =
      let holds = h.logged.holds i l in
      held_after (log t i) (server t.world i).store (server t.world i).store.acked holds holds.floor
      ∙ drop_all (server t.world i).store.acked (log t i)
      (omega (arith, level.acked, ap (λ (es : List LogEntry). length es) level.log))

  -- at rest no own update of a living server is open
  pub updates_closed : Opening t.world
      → ((i : ℕ) → lives t.world i ≡ true → IsLevel t i)
      → (i : ℕ) (u : OpenUpdate)
      → lives t.world i ≡ true
      → In u (server t.world i).pend
      → ⊥
  updates_closed opening level i u a waits =
      let here = (living_parts t.world i a).0 in
      let s = server t.world i in
      let own = opening.own i here in
      let taken : own.answered ≡ seen_of s s.id =
      subst (λ es. IsRun own.answered (seen_of s s.id) (ids_of s.id es)) (all_acked i here (level i a)) own.taken in
      let found = some_head i a (head_of s) refl in
      let j = found.0 in
      let is = head_of_is s j found.1 in
      let inside : j < count t = omega (arith, is.within, h.framed.chain i here) in
      let b = alive i j a inside is.out in
      elim (cases_eq j i) [
        | inl same ↦ (let first = opening.first i here
            (is_itself (head_of s) s.id (found.1 ∙ ap Some (same ∙ sym (h.framed.id i here)))) in
            none_left own.answered own.last s.pend u own.waiting (omega (arith, first, own.issued, taken)) waits)
        | inr other ↦ (let sends = opening.ops i j
            (record { here = here; inside = inside; head = found.1; other = other; unaware = unaware i j a b }) in
            let all : sends.from ≡ sends.last =
            subst (λ ms. IsRun sends.from sends.last (op_ids ms)) (rest.links i j a b) sends.run in
            let low : i < 16 = omega (arith, here, h.framed.most) in
            let there = h.calling.seen j i inside low in
            let at = h.calling.seen i i here low in
            let logs : entries_of i (log t j) ≡ entries_of i (log t i) =
            ap (λ es. entries_of i es) ((level j b).log ∙ sym (level i a).log) in
            let id = ap (λ o. seen_of s o) (h.framed.id i here) in
            none_left own.answered own.last s.pend u own.waiting
            (omega (arith, sends.seen, sends.issued, all, own.issued, taken, there, at, logs, id)) waits)
      ]
