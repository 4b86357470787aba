-- A chain at its outset.
use Rattle.std.proofs.Common.{◌≡◌, ℕ, zero, suc, ◌<◌, ◌≤◌, List, [], ◌∷◌, ◌++◌, length, map, replicate, get_or, Some}
use Rattle.std.proofs.Common.{refl, arith, ◌⊎◌, inl, inr, ap, sym, ◌∙◌, subst}
use Rattle.std.specs.Prelude.{slice_get}
use Rattle.std.proofs.lemmas.Bool.{both_ways, cases_eq}
use Rattle.std.proofs.lemmas.List.{length-append, length-replicate}
use Rattle.std.proofs.lemmas.Option.{same_Some, get_or_from_slice_get}
use Rattle.node.specs.declared.messages.Peer.{Peer}
use Rattle.node.specs.Servers.{ServerState, opening}
use Rattle.node.specs.Lawful.{IsLawful}
use Rattle.node.proofs.RuleLaws.{lawful-opening}
use Rattle.world.specs.Connections.{Connection, fresh}
use Rattle.world.specs.Worlds.{nobody, server, link, opening_servers}
use Rattle.node.proofs.Lists.{In, get_front, get_last}
use Rattle.world.proofs.trace.Traces.{log, issued_by, count, outset}
use Rattle.world.proofs.trace.Layers.{Framed}
use Rattle.world.proofs.trace.IdLaws.{nowhere}

-- there are as many opening servers as were asked for
pub length-opening_servers : (n k : ℕ) → length (opening_servers n k) ≡ k
length-opening_servers n zero = refl
length-opening_servers n (suc k) =
    length-append (opening_servers n k) (opening k n ∷ []) ∙ omega (arith, length-opening_servers n k)

opening_at : (n k i : ℕ) → i < k → slice_get (opening_servers n k) i ≡ Some (opening i n)
opening_at n zero i l = absurd (omega arith)
opening_at n (suc k) i l =
    elim (cases_eq i k) [
      | inl same ↦ rw same
          (subst (λ x. slice_get (opening_servers n k ++ opening k n ∷ []) x ≡ Some (opening k n))
          (length-opening_servers n k) (get_last (opening_servers n k) (opening k n)))
      | inr other ↦ get_front (opening_servers n k) (opening k n ∷ []) i (opening i n) (opening_at n k i (omega arith))
    ]

-- a chain at its outset has its n servers
pub count_outset : (n : ℕ) (homes : List ℕ) → count (outset n homes) ≡ n
count_outset n homes = length-opening_servers n n

-- each server at the outset is one before any input
pub server_outset : (n : ℕ) (homes : List ℕ) (i : ℕ) → i < n → server (outset n homes).world i ≡ opening i n
unfolding server
server_outset n homes i l = get_or_from_slice_get (opening_servers n n) i (opening i n) nobody (opening_at n n i l)

-- a list of equal elements has this one at every place, the default being the same
pub all_alike : {X : Type 0} (n i : ℕ) (x : X) → get_or (replicate n x) i x ≡ x
all_alike zero i x = refl
all_alike (suc n) zero x = refl
all_alike (suc n) (suc i) x = all_alike n i x

-- each log is empty at the outset
pub log_outset : (n : ℕ) (homes : List ℕ) (i : ℕ) → log (outset n homes) i ≡ []
unfolding log
log_outset n homes i = all_alike n i []

-- no update is issued at the outset
pub issued_outset : (n : ℕ) (homes : List ℕ) (i : ℕ) → issued_by (outset n homes) i ≡ []
unfolding issued_by
issued_outset n homes i = all_alike n i []

row_cases : (n i : ℕ) (row : List (List Peer))
    → (get_or (replicate n row) i [] ≡ row) ⊎ (get_or (replicate n row) i [] ≡ [])
row_cases zero i row = inr refl
row_cases (suc n) zero row = inl refl
row_cases (suc n) (suc i) row = row_cases n i row

-- each link is empty at the outset
pub link_outset : (n : ℕ) (homes : List ℕ) (i j : ℕ) → link (outset n homes).world i j ≡ []
unfolding link
link_outset n homes i j =
    elim (row_cases n i (replicate n [])) [
      | inl e ↦ ap (λ row. get_or row j []) e ∙ all_alike n j []
      | inr e ↦ ap (λ row. get_or row j []) e
    ]

row_at : {X : Type 0} (n i : ℕ) (x y : X) → slice_get (replicate n x) i ≡ Some y → y ≡ x
row_at zero i x y h = absurd cc
row_at (suc n) zero x y h = sym (same_Some x y h)
row_at (suc n) (suc i) x y h = row_at n i x y h

-- each connection is a fresh one
pub fresh_at : (homes : List ℕ) (c : ℕ) (k : Connection)
    → slice_get (map fresh homes) c ≡ Some k
    → (home : ℕ) × (slice_get homes c ≡ Some home) × (k ≡ fresh home)
fresh_at [] c k h = absurd cc
fresh_at (x ∷ homes) zero k h = (x, refl, sym (same_Some (fresh x) k h))
fresh_at (x ∷ homes) (suc c) k h = fresh_at homes c k h

-- nothing stands in an empty list
pub nothing_in : {X : Type 0} (x : X) → In x [] → ⊥
nothing_in x (k, h) = absurd cc

-- a chain of at most 16 servers has its shape at the outset
pub framed_outset : (n : ℕ) (homes : List ℕ) → n ≤ 16 → Framed (outset n homes)
framed_outset n homes few =
    let c = count_outset n homes in
    record {
      most = rw c few;
      rows = rw c (length-replicate n _);
      row = λ i ms h. rw (c, row_at n i (replicate n []) ms h) (length-replicate n _);
      logs = rw c (length-replicate n _);
      issued = rw c (length-replicate n _);
      id = λ i l. ap (λ (s : ServerState). s.id) (server_outset n homes i (rw c at l));
      chain = λ i l. rw (server_outset n homes i (rw c at l), c) refl;
      own = λ i l. rw (server_outset n homes i (rw c at l)) (nowhere i);
      known = λ i k l h. absurd (both_ways _ (nowhere k) (rw (server_outset n homes i (rw c at l)) at h));
      sound = λ i j m h. absurd (nothing_in m (rw (link_outset n homes i j) at h));
      calls = λ d p k call h g. absurd (let new = fresh_at homes d k h in nothing_in call (p, rw new.2 at g));
    }

-- and each server is lawful
pub lawful_outset : (n : ℕ) (homes : List ℕ) → n ≤ 16 → (i : ℕ) → i < n → IsLawful (server (outset n homes).world i)
lawful_outset n homes few i l = rw (server_outset n homes i l) (lawful-opening i n l few)
