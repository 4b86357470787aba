-- If nothing is on its way between living servers and each knows who failed, all have the same log, and have
-- acknowledged all of it.
use Rattle.std.proofs.Common.{◌≡◌, ◌==◌, ◌||◌, Bool, not, ℕ, zero, suc, ◌+◌, ◌<◌, ◌≤◌, true, false, List, [], ◌∷◌}
use Rattle.std.proofs.Common.{length, Option, Some, None, refl, sym, ap, ◌∙◌, arith, inl, inr}
use Rattle.std.specs.Prelude.{slice_get}
use Rattle.std.proofs.lemmas.Bool.{and_parts, cases_eq, eqb-true}
use Rattle.std.proofs.lemmas.Option.{none-some}
use Rattle.node.specs.declared.messages.Peer.{Peer}
use Rattle.node.specs.Views.{has, tail, predecessor, successor}
use Rattle.node.specs.Servers.{is_tail, predecessor_of}
use Rattle.node.specs.Lawful.{IsSettled}
use Rattle.world.specs.Links.{is_empty}
use Rattle.world.specs.Quiet.{all_below, is_server_quiet, is_quiet}
use Rattle.world.specs.Worlds.{World, server, link, lives}
use Rattle.world.proofs.trace.Traces.{Traced, log, count}
use Rattle.world.proofs.trace.Layers.{Lawful}
use Rattle.node.proofs.Beginnings.{begins-whole}
use Rattle.world.proofs.trace.IdLaws.{IsPredecessor, following_is, no_following, predecessor_from, is_itself, living_parts}
use Rattle.world.proofs.trace.IdLaws.{living_from}
use Rattle.world.proofs.streams.Streaming.{numbers, IsRun, IsTold, Streaming}
use Rattle.world.proofs.streams.StreamSteps.{last_is, next_in}

-- no message is on its way between living servers, and each knows exactly who failed; what failed servers have sent
-- may still lie on their links
pub record IsAtRest (w : World) : Type 0 where
  pub links : (i j : ℕ) → lives w i ≡ true → lives w j ≡ true → link w i j ≡ []
  pub views : (j k : ℕ) → lives w j ≡ true → k < length w.servers → has (server w j).view k ≡ has w.failed k

below_all : (n : ℕ) (test : ℕ → Bool) → all_below n test ≡ true → (k : ℕ) → k < n → test k ≡ true
below_all zero test h k l = absurd (omega arith)
below_all (suc n) test h k l =
    let parts = and_parts (all_below n test) (test n) h in
    elim (cases_eq k n) [ inl same ↦ rw same parts.1 | inr other ↦ below_all n test parts.0 k (omega arith) ]

none_there : (ms : List Peer) → is_empty ms ≡ true → ms ≡ []
none_there [] h = refl
none_there (m ∷ ms) h = absurd cc

not_living : (b c : Bool) → b ≡ true → (not b || c) ≡ true → c ≡ true
not_living true c e h = h
not_living false c e h = absurd cc

quiet_parts : (w : World) (j : ℕ)
    → is_server_quiet w j ≡ true
    → (all_below (length w.servers) (λ i. is_empty (link w i j)) ≡ true) × (((server w j).view == w.failed) ≡ true)
quiet_parts w j h =
    and_parts (all_below (length w.servers) (λ i. is_empty (link w i j))) ((server w j).view == w.failed) h

quiet_server : (w : World) → is_quiet w ≡ true → (j : ℕ) → lives w j ≡ true → is_server_quiet w j ≡ true
quiet_server w h j a =
    let all = (and_parts (all_below (length w.servers) (λ k. not (lives w k) || is_server_quiet w k)) _ h).0 in
    not_living (lives w j) (is_server_quiet w j) a
    (below_all (length w.servers) (λ k. not (lives w k) || is_server_quiet w k) all j (living_parts w j a).0)

-- so it is in a quiet world
pub at_rest : (w : World) → is_quiet w ≡ true → IsAtRest w
at_rest w h = record {
  links = λ i j b a. none_there (link w i j)
      (below_all (length w.servers) (λ k. is_empty (link w k j)) (quiet_parts w j (quiet_server w h j a)).0 i
      (living_parts w i b).0);
  views = λ j k a l. ap (λ v. has v k) (eqb-true _ _ (quiet_parts w j (quiet_server w h j a)).1);
}

-- its log is the committed entries, and it has acknowledged them all
pub record IsLevel (t : Traced) (i : ℕ) : Type 0 where
  pub log : log t i ≡ t.committed
  pub acked : (server t.world i).store.acked ≡ length t.committed

-- an empty link lacks nothing
none_left : (f n : ℕ) (ms : List Peer) → ms ≡ [] → IsRun f n (numbers ms) → n ≤ f
none_left f n ms e h = let same : f ≡ n = rw e at h in omega (arith, same)

not_more : (w : World) (x y : ℕ) → link w y x ≡ [] → IsTold w x y → (server w y).store.acked ≤ (server w x).store.acked
not_more w x y e (inl h) = h
not_more w x y e (inr g) = absurd (none-some g.0 (let k : slice_get [] g.2.0 ≡ Some g.0 = rw e at g.2.1 in k))

module _ (t : Traced) (h : Lawful t) (s : Streaming t.world) (rest : IsAtRest t.world)
    (settled : (i : ℕ) → lives t.world i ≡ true → IsSettled (server t.world i)) where
  -- a neighbour of a level server is level
  level_before : (i j : ℕ)
      → lives t.world i ≡ true
      → lives t.world j ≡ true
      → successor (server t.world i).view (count t) i ≡ Some j
      → IsLevel t j
      → IsLevel t i
  level_before i j a b n level =
      let here = living_parts t.world i a in
      let there = living_parts t.world j b in
      let f = following_is (server t.world i).view (count t) i j n in
      let unaware : has (server t.world j).view i ≡ false = rest.views j i b here.0 ∙ here.1 in
      let stream = s.forwards i j
      (record {
        here = here.0;
        inside = there.0;
        successor = next_in t h.framed i here.0 ∙ n;
        unaware = unaware;
        alive = there.1;
      }) in
      let whole = none_left _ _ (link t.world i j) (rest.links i j a b) stream.run in
      let same : log t j ≡ log t i = begins-whole (log t j) (log t i) (h.logged.begins i j f.above there.0 unaware)
      (omega (arith, stream.reached, whole, last_is t h.logged i here.0, last_is t h.logged j there.0)) in
      let before : predecessor_of (server t.world j) ≡ Some i =
      ap (λ x. predecessor (server t.world j).view x) (h.framed.id j there.0)
      ∙ predecessor_from (server t.world j).view j i
      (record {
        below = f.above;
        out = unaware;
        between = λ x p q. (let l : x < count t = omega (arith, q, there.0) in
            rest.views j x b l ∙ sym (rest.views i x a l) ∙ f.between x p q);
      }) in
      let told = not_more t.world i j (rest.links j i b a)
      (s.acks i j (record
      { here = here.0; inside = there.0; predecessor = before; unaware = f.out; alive = here.1 })) in
      record {
        log = sym same ∙ level.log;
        acked = omega (arith, told, h.logged.acks i j f.above there.0 f.out, level.acked);
      }

  level_last : (i : ℕ) → lives t.world i ≡ true → successor (server t.world i).view (count t) i ≡ None → IsLevel t i
  level_last i a n =
      let here = living_parts t.world i a in
      let last : IsPredecessor (server t.world i).view (count t) i =
      record {
        below = here.0;
        out = rest.views i i a here.0 ∙ here.1;
        between = no_following (server t.world i).view (count t) i n;
      } in
      let found = predecessor_from (server t.world i).view (count t) i last in
      let committed : t.committed ≡ log t i = h.logged.last i
      (predecessor_from t.world.failed (count t) i
      (record { below = here.0; out = here.1; between = λ x p q. sym (rest.views i x a q) ∙ last.between x p q })) in
      let is_last : is_tail (server t.world i) ≡ true =
      rw (h.framed.chain i here.0, h.framed.id i here.0)
      (is_itself (tail (server t.world i).view (count t)) i found) in
      record {
        log = sym committed;
        acked = (settled i a is_last).0 ∙ last_is t h.logged i here.0 ∙ ap (λ es. length es) (sym committed);
      }

  level_found : (many i : ℕ) (o : Option ℕ)
      → count t ≤ i + suc many
      → lives t.world i ≡ true
      → successor (server t.world i).view (count t) i ≡ o
      → ((j : ℕ) → lives t.world j ≡ true → i < j → IsLevel t j) → IsLevel t i
  level_found many i None l a n f = level_last i a n
  level_found many i (Some j) l a n f =
      let following = following_is (server t.world i).view (count t) i j n in
      let alive = living_from t.world j following.within (sym (rest.views i j a following.within) ∙ following.out) in
      level_before i j a alive n (f j alive following.above)

  level_from : (many i : ℕ) → count t ≤ i + many → lives t.world i ≡ true → IsLevel t i
  level_from zero i l a = absurd (omega (arith, l, (living_parts t.world i a).0))
  level_from (suc many) i l a = level_found many i (successor (server t.world i).view (count t) i) l a refl
      (λ j b above. level_from many j (omega (arith, l, above)) b)

  -- at rest each living server has the committed entries, and has acknowledged them all
  pub all_level : (i : ℕ) → lives t.world i ≡ true → IsLevel t i
  all_level i a = level_from (count t) i (omega arith) a
