-- The servers of nodes, one of which makes a step.
use Rattle.std.proofs.Common.{◌≡◌, ℕ, suc, ◌+◌, ◌<◌, false, List, [], ◌∷◌, ◌++◌, All, subst, length, map, get_or, set}
use Rattle.std.proofs.Common.{sym, ◌∙◌, ap, arith}
use Rattle.std.specs.Prelude.{slice_set, slice_index_or}
use Rattle.std.proofs.lemmas.List.{map-set, map-append, set-set, get_or-map, length-map}
use Rattle.std.proofs.lemmas.List.Elements.{All-push}
use Rattle.node.specs.Servers.{ServerState, opening}
use Rattle.node.specs.Nodes.{NodeState, running, fresh}
use Rattle.world.specs.Worlds.{nobody, opening_servers}

-- what one of them holds
pub server_at : (ns : List NodeState) (ss : List ServerState) (i : ℕ) (old : NodeState) → i < length ss → map
    (λ n. n.server) ns ≡ ss → old ≡ get_or ns i old → old.server ≡ slice_index_or ss i nobody
server_at ns ss i old within same here =
    let inside : i < length ns = omega (arith, ap length same, length-map ns (λ (n : NodeState). n.server)) in
    ap (λ (n : NodeState). n.server) here ∙ sym (get_or-map (λ (n : NodeState). n.server) ns i old nobody inside) ∙ ap
    (λ xs. get_or xs i nobody) same

-- a step's node written back, as the step of that server
pub server_stepped : (act : ServerState → ServerState) (ns : List NodeState) (ss : List ServerState) (i : ℕ)
    (old new : NodeState) → i < length ss → map (λ n. n.server) ns ≡ ss → old ≡ get_or ns i old → new ≡ running
    (act old.server)
    → map (λ n. n.server) (set ns i new) ≡ slice_set ss i (act (slice_index_or ss i nobody))
server_stepped act ns ss i old new within same here is =
    map-set (λ (n : NodeState). n.server) ns i new ∙ ap (λ xs. set xs i new.server) same ∙ ap (set ss i)
    (ap (λ (n : NodeState). n.server) is ∙ ap act (server_at ns ss i old within same here))

-- a step's node replaced by a fresh one
pub server_lost : (ns : List NodeState) (ss : List ServerState) (i n : ℕ) (new next : NodeState) → map
    (λ n. n.server) ns ≡ ss → n ≡ length ss → next ≡ fresh i n
    → map (λ n. n.server) (set (set ns i new) i next) ≡ slice_set ss i (opening i (length ss))
server_lost ns ss i n new next same count is =
    ap (map (λ (n : NodeState). n.server)) (set-set ns i new next) ∙ map-set (λ (n : NodeState). n.server) ns i next
    ∙ ap (λ xs. set xs i next.server) same
    ∙ ap (set ss i) (ap (λ (n : NodeState). n.server) is ∙ ap (opening i) count)

-- one fresh node more
pub opened_more : (ns ms : List NodeState) (count id : ℕ) (new : NodeState) → map (λ n. n.server) ns
    ≡ opening_servers count id → new ≡ fresh id count → ms ≡ ns ++ new ∷ []
    → map (λ n. n.server) ms ≡ opening_servers count (id + 1)
opened_more ns ms count id new same is pushed =
    let e : id + 1 ≡ suc id = omega arith in
    ap (map (λ (n : NodeState). n.server)) pushed ∙ map-append (λ (n : NodeState). n.server) ns (new ∷ [])
    ∙ ap (λ ss. ss ++ new.server ∷ []) same ∙ ap (λ (s : ServerState). opening_servers count id ++ s ∷ [])
    (ap (λ (n : NodeState). n.server) is)
    ∙ ap (opening_servers count) (sym e)

-- none of them is stopped
pub running_more : (ns ms : List NodeState) (count id : ℕ) (new : NodeState) → All (λ n. n.stopped ≡ false) ns → new
    ≡ fresh id count → ms ≡ ns ++ new ∷ [] → All (λ n. n.stopped ≡ false) ms
running_more ns ms count id new all is pushed =
    subst (All (λ (n : NodeState). n.stopped ≡ false)) (sym pushed)
    (All-push (λ (n : NodeState). n.stopped ≡ false) ns new all (ap (λ (n : NodeState). n.stopped) is))
