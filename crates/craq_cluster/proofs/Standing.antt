-- Which server is whose: workers, links and seats stand at the places of their servers.
use Rattle.std.proofs.Common.{◌≡◌, ◌∙◌, ℕ, zero, suc, ◌+◌, ◌<◌, List, [], ◌∷◌, ◌++◌, Option, Some, None, IfSome}
use Rattle.std.proofs.Common.{IsSome, All, length, length-append, map, option_to_list, slice_index_or, slice_set}
use Rattle.std.proofs.Common.{append-nil, append_assoc, refl, ap, sym, subst, arith}
use Rattle.std.proofs.lemmas.List.Elements.{All-head, All-nil, All-push, All-tail, All-weaker}
use Rattle.node.specs.Nodes.{NodeState, fresh}
use Rattle.node.specs.Servers.{ServerState, opening}
use Rattle.faces.specs.Histories.{Instance}
use Rattle.seats.specs.SeatPools.{Pooling}
use Rattle.in_process_links.specs.declared.inbox_links.InProcessLinks.{InProcessLinks}
use Rattle.io_threads.specs.Pools.{BeginsAs}
use Rattle.io_threads.specs.declared.front_ends.FrontEndServer.{FrontEndServer}
use Rattle.craq_process.specs.declared.opened_servers.Opened.{Opened}
use Rattle.craq_cluster.specs.declared.server_parts.ServerParts.{ServerParts}
use Rattle.craq_process.specs.Wiring.{Core, HasOwnPools, core_of}
use Rattle.craq_cluster.specs.Wiring.{AreSeatedFrom, ArePartsOf, cores_of, numbers, openings, pools_in, senders}
use Rattle.craq_cluster.specs.Wiring.{starts_of}
use Rattle.craq_cluster.proofs.Dealt.{map_pushed, map_set}

-- what stands at a place is put there once more
set_same : {S A : Type 0} (f : S → A) (k : ℕ) (xs : List S) (d : S)
    → slice_set (map f xs) k (f (slice_index_or xs k d)) ≡ map f xs
set_same f k [] d = refl
set_same f zero (x ∷ xs) d = refl
set_same f (suc k) (x ∷ xs) d = ap (λ zs. f x ∷ zs) (set_same f k xs d)

-- one server has changed in nothing but its inlets
pub cores_kept : {R : Type 0} (j : ℕ) (before now after : List (Opened R)) (server server' : Opened R)
    → cores_of now ≡ cores_of before
    → server ≡ slice_index_or now j server
    → core_of server' ≡ core_of server
    → after ≡ slice_set now j server'
    → cores_of after ≡ cores_of before
cores_kept {R} j before now after server server' so_far at same put =
    let core : Opened R → Core = λ s. core_of s in
    ap cores_of put
    ∙ (map_set core j now server'
    ∙ (ap (λ c. slice_set (cores_of now) j c) (same ∙ ap core at)
    ∙ (set_same core j now server ∙ so_far)))

-- no server yet
pub starts_none : {R : Type 0} (count : ℕ) (servers : List (Opened R))
    → servers ≡ []
    → starts_of servers ≡ openings 0 count
starts_none {R} count servers none = ap starts_of none

pub own_none : {R : Type 0} (servers : List (Opened R)) → servers ≡ [] → All HasOwnPools (cores_of servers)
own_none {R} servers none =
    subst (λ (ss : List (Opened R)). All HasOwnPools (cores_of ss)) (sym none) (All-nil HasOwnPools)

-- one server more, which begins as its node
pub starts_more : {R : Type 0} (id count : ℕ) (servers more : List (Opened R)) (server : Opened R) (node : NodeState)
    → starts_of servers ≡ openings id count
    → node ≡ fresh id count
    → BeginsAs node server.pooled.worker
    → more ≡ servers ++ server ∷ []
    → starts_of more ≡ openings (id + 1) count
starts_more {R} id count servers more server node are is begins pushed =
    let one : server.pooled.worker.published.instance.start ≡ opening id count =
    begins.start ∙ ap (λ (n : NodeState). n.server) is in
    ap starts_of pushed
    ∙ (starts_pushed servers server
    ∙ (ap (λ ss. ss ++ server.pooled.worker.published.instance.start ∷ []) are
    ∙ (ap (λ s. openings id count ++ s ∷ []) one ∙ sym (openings_next id count))))
  where
    starts_pushed : {R : Type 0} (xs : List (Opened R)) (x : Opened R)
        → starts_of (xs ++ x ∷ []) ≡ starts_of xs ++ x.pooled.worker.published.instance.start ∷ []
    starts_pushed [] x = refl
    starts_pushed (y ∷ ys) x = ap (λ zs. y.pooled.worker.published.instance.start ∷ zs) (starts_pushed ys x)

    openings_next : (n count : ℕ) → openings (n + 1) count ≡ openings n count ++ opening n count ∷ []
    openings_next n count = let more : n + 1 ≡ suc n = omega arith in ap (λ k. openings k count) more

-- one server more, whose seats are its worker's server's
pub own_more : {R : Type 0} (servers more : List (Opened R)) (server : Opened R)
    → All HasOwnPools (cores_of servers)
    → HasOwnPools (core_of server)
    → more ≡ servers ++ server ∷ []
    → All HasOwnPools (cores_of more)
own_more {R} servers more server all own pushed =
    let core : Opened R → Core = λ s. core_of s in
    let cores : cores_of more ≡ cores_of servers ++ core_of server ∷ [] =
    ap cores_of pushed ∙ map_pushed core servers server in
    subst (All HasOwnPools) (sym cores) (All-push HasOwnPools (cores_of servers) (core_of server) all own)

-- these are k, k + 1 and so on
abbrev pub AreFrom : ℕ → List ℕ → Type 0
AreFrom k [] = Unit {0}
AreFrom k (n ∷ ns) = (n ≡ k) × AreFrom (suc k) ns

-- the servers of these workers
abbrev pub worker_ids : {R : Type 0} → List (Opened R) → List ℕ
worker_ids servers = map (λ server. server.pooled.worker.published.instance.start.id) servers

from_pushed : (k : ℕ) (ns : List ℕ) (n : ℕ) → AreFrom k ns → n ≡ k + length ns → AreFrom k (ns ++ n ∷ [])
from_pushed k [] n are is = (omega (arith, is), tt)
from_pushed k (m ∷ ms) n are is = (are.0, from_pushed (suc k) ms n are.1 (omega (arith, is)))

length_numbers : (n : ℕ) → length (numbers n) ≡ n
length_numbers zero = refl
length_numbers (suc n) = omega (arith, length-append (numbers n) (n ∷ []), length_numbers n)

numbers_from : (n : ℕ) → AreFrom 0 (numbers n)
numbers_from zero = tt
numbers_from (suc n) = from_pushed 0 (numbers n) n (numbers_from n) (omega (arith, length_numbers n))

ids_of_openings : (n count : ℕ) → map (λ (s : ServerState). s.id) (openings n count) ≡ numbers n
ids_of_openings zero count = refl
ids_of_openings (suc n) count =
    map_pushed (λ (s : ServerState). s.id) (openings n count) (opening n count)
    ∙ ap (λ ns. ns ++ n ∷ []) (ids_of_openings n count)

ids_of_starts : {R : Type 0} (servers : List (Opened R))
    → map (λ (s : ServerState). s.id) (starts_of servers) ≡ worker_ids servers
ids_of_starts [] = refl
ids_of_starts (s ∷ ss) = ap (λ ns. s.pooled.worker.published.instance.start.id ∷ ns) (ids_of_starts ss)

-- the workers of a whole chain are those of servers 0, 1 and so on
chain_from : {R : Type 0} (n : ℕ) (servers : List (Opened R)) → starts_of servers ≡ openings n n
    → AreFrom 0 (worker_ids servers)
chain_from n servers are =
    let same : worker_ids servers ≡ numbers n =
    sym (ids_of_starts servers) ∙ (ap (λ ss. map (λ (s : ServerState). s.id) ss) are ∙ ids_of_openings n n) in
    subst (AreFrom 0) (sym same) (numbers_from n)

-- and none stands in the scheduler yet
pub workers_first : {R : Type 0} (n k : ℕ) (all left : List (Opened R)) → starts_of all ≡ openings n n → left ≡ all
    → k ≡ 0
    → AreFrom k (worker_ids left)
workers_first n k all left are same none =
    subst (λ i. AreFrom i (worker_ids left)) (sym none)
    (subst (λ xs. AreFrom 0 (worker_ids xs)) (sym same) (chain_from n all are))

-- the next worker is that of the server of its place
pub worker_here : {R : Type 0} (k place : ℕ) (left rest : List (Opened R)) (server : Opened R)
    → AreFrom k (worker_ids left)
    → left ≡ server ∷ rest
    → place ≡ k
    → server.pooled.worker.published.instance.start.id ≡ place
worker_here k place left rest server are next at =
    (subst (λ xs. AreFrom k (worker_ids xs)) next are).0 ∙ sym at

-- and so are those after it
pub workers_next : {R : Type 0} (k more : ℕ) (left rest : List (Opened R)) (server : Opened R)
    → AreFrom k (worker_ids left)
    → left ≡ server ∷ rest
    → more ≡ k + 1
    → AreFrom more (worker_ids rest)
workers_next k more left rest server are next is =
    let after : suc k ≡ more = omega (arith, is) in
    subst (λ i. AreFrom i (worker_ids rest)) after (subst (λ xs. AreFrom k (worker_ids xs)) next are).1

-- the same of the links: none was handed out yet
pub senders_first : {R : Type 0} (n k : ℕ) (all left : List (InProcessLinks R)) → senders all ≡ numbers n → left ≡ all
    → k ≡ 0
    → AreFrom k (senders left)
senders_first n k all left are same none =
    subst (λ i. AreFrom i (senders left)) (sym none)
    (subst (λ xs. AreFrom 0 (senders xs)) (sym same) (subst (AreFrom 0) (sym are) (numbers_from n)))

-- the next ones, if there are any, are those of the server of their place
pub sender_here : {R : Type 0} (k place : ℕ) (left rest : List (InProcessLinks R)) (found : Option (InProcessLinks R))
    → AreFrom k (senders left)
    → left ≡ option_to_list found ++ rest
    → place ≡ k
    → IfSome found (λ links. links.id ≡ place)
sender_here k place left rest None are split at = tt
sender_here k place left rest (Some links) are split at =
    (subst (λ xs. AreFrom k (senders xs)) split are).0 ∙ sym at

-- and so are those after them
pub senders_next : {R : Type 0} (k more : ℕ) (left rest : List (InProcessLinks R)) (found : Option (InProcessLinks R))
    → AreFrom k (senders left)
    → left ≡ option_to_list found ++ rest
    → IsSome found
    → more ≡ k + 1
    → AreFrom more (senders rest)
senders_next k more left rest None are split some is = absurd (cc (some))
senders_next k more left rest (Some links) are split some is =
    let after : suc k ≡ more = omega (arith, is) in
    subst (λ i. AreFrom i (senders rest)) after (subst (λ xs. AreFrom k (senders xs)) split are).1

-- the seats of each server's parts are of the server of its place
seated_from : {R : Type 0} (k : ℕ) (servers : List (Opened R)) (all_server_parts : List ServerParts)
    → ArePartsOf servers all_server_parts
    → AreFrom k (worker_ids servers)
    → All HasOwnPools (cores_of servers)
    → AreSeatedFrom k all_server_parts
seated_from k [] [] are from own = tt
seated_from k [] (x ∷ xs) are from own = absurd (cc (are))
seated_from k (s ∷ ss) [] are from own = absurd are
seated_from k (s ∷ ss) (x ∷ xs) are from own = (
  All-weaker (λ (p : Pooling). p.seen.instance ≡ s.pooled.worker.published.instance)
      (λ (p : Pooling). p.seen.instance.start.id ≡ k)
      (λ p same. ap (λ (o : Instance). o.start.id) same ∙ from.0) x.pools.items
      (subst (All (λ (p : Pooling). p.seen.instance ≡ s.pooled.worker.published.instance)) (sym are.0.pools)
      (All-head HasOwnPools (core_of s) (cores_of ss) own)),
  seated_from (suc k) ss xs are.1 from.1 (All-tail HasOwnPools (core_of s) (cores_of ss) own),
)

-- so it is in a whole chain, once its links were made
pub seated : {R : Type 0} (n : ℕ) (first servers : List (Opened R)) (all_server_parts : List ServerParts)
    → starts_of first ≡ openings n n
    → All HasOwnPools (cores_of first)
    → cores_of servers ≡ cores_of first
    → ArePartsOf servers all_server_parts
    → AreSeatedFrom 0 all_server_parts
seated n first servers all_server_parts begun own same are =
    seated_from 0 servers all_server_parts are
    (chain_from n servers (ap (λ cs. map (λ (c : Core). c.worker.published.instance.start) cs) same ∙ begun))
    (subst (All HasOwnPools) (sym same) own)

-- what was made of those that were taken, in order, and what will be made of those that are left: one more was taken
pub taken_more : {S A : Type 0} (f : S → A) (whole made more : List A) (left rest : List S) (next : S)
    → whole ≡ made ++ map f left
    → left ≡ next ∷ rest
    → more ≡ made ++ f next ∷ []
    → whole ≡ more ++ map f rest
taken_more f whole made more left rest next so_far is pushed =
    so_far
    ∙ (ap (λ xs. made ++ map f xs) is
    ∙ (sym (append_assoc made (f next ∷ []) (map f rest)) ∙ ap (λ m. m ++ map f rest) (sym pushed)))

-- all were taken
pub taken_all : {S A : Type 0} (f : S → A) (whole made : List A) (left : List S) → whole ≡ made ++ map f left
    → length left ≡ 0
    → made ≡ whole
taken_all f whole made [] so_far none = sym (so_far ∙ append-nil made)
taken_all f whole made (x ∷ xs) so_far none = absurd (omega (arith, none))

-- one served server more
pub served_servers_pushed : (served_servers more : List FrontEndServer) (served_server : FrontEndServer)
    → more ≡ served_servers ++ served_server ∷ []
    → pools_in more ≡ pools_in served_servers ++ served_server.pools.items ∷ []
served_servers_pushed served_servers more served_server pushed =
    ap pools_in pushed ∙ map_pushed (λ (g : FrontEndServer). g.pools.items) served_servers served_server
