-- Which parts of a process belong to which server.
use Rattle.std.proofs.Common.{◌≡◌, ◌≢◌, ℕ, zero, suc, ◌+◌, ◌<◌, List, [], ◌∷◌, ◌++◌, All, None, length}
use Rattle.std.proofs.Common.{slice_index_or, slice_set, refl, ap, sym, ◌∙◌, subst, append_assoc, append-nil, arith}
use Rattle.std.proofs.lemmas.List.Elements.{All-nil, All-push, All-same}
use Rattle.rail.specs.Inlets.{InletState}
use Rattle.in_process_links.specs.declared.inbox_links.InboxLink.{InboxLink}
use Rattle.in_process_links.specs.declared.inbox_links.InProcessLinks.{InProcessLinks}
use Rattle.craq_process.specs.declared.opened_servers.Opened.{Opened}
use Rattle.craq_cluster.specs.declared.server_parts.ServerParts.{ServerParts}
use Rattle.craq_process.specs.Wiring.{LeadsToOwnInbox, listed}
use Rattle.craq_cluster.specs.Wiring.{AreDealt, ArePartsOf, IsDealt, IsPartsOf, all_inlets_in, inlets_in, inlets_of}
use Rattle.craq_cluster.specs.Wiring.{list_at, numbers, senders}
use Rattle.craq_cluster.proofs.Dealt.{all_dealt_more, all_dealt_none, dealt_more, dealt_none, map_at, map_pushed}
use Rattle.craq_cluster.proofs.Dealt.{map_set}

-- no server yet
pub leads_none : {R : Type 0} (servers : List (Opened R)) → servers ≡ []
    → All (λ (s : Opened R). LeadsToOwnInbox s) servers
leads_none {R} servers none =
    All-same (λ (s : Opened R). LeadsToOwnInbox s) servers [] none (All-nil (λ (s : Opened R). LeadsToOwnInbox s))

-- one server more
pub leads_more : {R : Type 0} (before after : List (Opened R)) (server : Opened R)
    → All (λ (s : Opened R). LeadsToOwnInbox s) before
    → LeadsToOwnInbox server
    → after ≡ before ++ server ∷ []
    → All (λ (s : Opened R). LeadsToOwnInbox s) after
leads_more {R} before after server all control pushed =
    All-same (λ (s : Opened R). LeadsToOwnInbox s) after (before ++ server ∷ []) pushed
    (All-push (λ (s : Opened R). LeadsToOwnInbox s) before server all control)

-- no link yet
pub links_none : {R : Type 0} (id : ℕ) (servers : List (Opened R)) (links : List InboxLink) → links ≡ []
    → IsDealt id (inlets_of servers) (inlets_of servers) (inlets_in links)
links_none id servers [] none = dealt_none id (inlets_of servers)
links_none id servers (x ∷ xs) none = absurd (cc (none))

-- one link more
pub links_more : {R : Type 0} (id j : ℕ) (before now after : List (Opened R)) (links more : List InboxLink)
    (server server' : Opened R) (link : InboxLink)
    → IsDealt id (inlets_of before) (inlets_of now) (inlets_in links)
    → j ≡ length links
    → j < length now
    → server ≡ slice_index_or now j server
    → server.pooled.inlets.items ≡ server'.pooled.inlets.items ++ listed link.inlet
    → (j ≡ id → link.inlet ≡ None)
    → (j ≢ id → link.inlet ≡ None → server'.pooled.inlets.items ≡ [])
    → after ≡ slice_set now j server'
    → more ≡ links ++ link ∷ []
    → IsDealt id (inlets_of before) (inlets_of after) (inlets_in more)
links_more {R} id j before now after links more server server' link dealt is within at took own whole put pushed =
    let inlets : Opened R → List InletState = λ s. s.pooled.inlets.items in
    let as_many : j ≡ length (inlets_in links) = is ∙ sym (length_mapped links) in
    let here : list_at (inlets_of now) j ≡ server'.pooled.inlets.items ++ listed link.inlet =
    map_at inlets j now server within ∙ (ap inlets (sym at) ∙ took) in
    let there : inlets_of after ≡ slice_set (inlets_of now) j server'.pooled.inlets.items =
    ap inlets_of put ∙ map_set inlets j now server' in
    let all : inlets_in more ≡ inlets_in links ++ link.inlet ∷ [] =
    ap inlets_in pushed ∙ map_pushed (λ (l : InboxLink). l.inlet) links link in
    subst (λ xs. IsDealt id (inlets_of before) xs (inlets_in more)) (sym there)
    (subst (λ ys. IsDealt id (inlets_of before) (slice_set (inlets_of now) j server'.pooled.inlets.items) ys) (sym all)
    (dealt_more id j (inlets_of before) (inlets_of now) (inlets_in links) server'.pooled.inlets.items link.inlet dealt
    as_many (within_mapped j now within) here own whole))
  where
    length_mapped : (xs : List InboxLink) → length (inlets_in xs) ≡ length xs
    length_mapped [] = refl
    length_mapped (x ∷ xs) = ap suc (length_mapped xs)

    within_mapped : {R : Type 0} (k : ℕ) (xs : List (Opened R)) → k < length xs → k < length (inlets_of xs)
    within_mapped k [] within = within
    within_mapped zero (x ∷ xs) within = omega arith
    within_mapped (suc k) (x ∷ xs) within = let more = within_mapped k xs (omega (arith, within)) in omega (arith, more)

-- no server's links yet
pub all_none : {R : Type 0} (servers : List (Opened R)) (all : List (InProcessLinks R)) → all ≡ []
    → AreDealt (inlets_of servers) (inlets_of servers) (all_inlets_in all)
all_none servers [] none = all_dealt_none (inlets_of servers)
all_none servers (x ∷ xs) none = absurd (cc (none))

-- one server's links more
pub all_more : {R : Type 0} (id : ℕ) (before now next : List (Opened R)) (all more : List (InProcessLinks R))
    (links : List InboxLink) (made : InProcessLinks R)
    → AreDealt (inlets_of before) (inlets_of now) (all_inlets_in all)
    → IsDealt id (inlets_of now) (inlets_of next) (inlets_in links)
    → id ≡ length all
    → length links ≡ length now
    → length now ≡ length before
    → made.links.items ≡ links
    → more ≡ all ++ made ∷ []
    → AreDealt (inlets_of before) (inlets_of next) (all_inlets_in more)
all_more {R} id before now next all more links made dealt one is as_many size have pushed =
    let rows : all_inlets_in more ≡ all_inlets_in all ++ inlets_in links ∷ [] =
    ap all_inlets_in pushed
    ∙ (map_pushed (λ (l : InProcessLinks R). inlets_in l.links.items) all made
    ∙ ap (λ ls. all_inlets_in all ++ inlets_in ls ∷ []) have) in
    subst (AreDealt (inlets_of before) (inlets_of next)) (sym rows)
    (all_dealt_more id (inlets_of before) (inlets_of now) (inlets_of next) (all_inlets_in all) (inlets_in links)
    dealt one (is ∙ sym (length_all all)) (length_in links ∙ (as_many ∙ (size ∙ sym (length_of before)))))
  where
    length_all : {R : Type 0} (xs : List (InProcessLinks R)) → length (all_inlets_in xs) ≡ length xs
    length_all [] = refl
    length_all (x ∷ xs) = ap suc (length_all xs)

    length_in : (xs : List InboxLink) → length (inlets_in xs) ≡ length xs
    length_in [] = refl
    length_in (x ∷ xs) = ap suc (length_in xs)

    length_of : {R : Type 0} (xs : List (Opened R)) → length (inlets_of xs) ≡ length xs
    length_of [] = refl
    length_of (x ∷ xs) = ap suc (length_of xs)

-- one number more
pub numbers_next : (n : ℕ) → numbers (n + 1) ≡ numbers n ++ n ∷ []
numbers_next n = let more : n + 1 ≡ suc n = omega arith in ap numbers more

-- one sender more
pub senders_more : {R : Type 0} (id : ℕ) (all more : List (InProcessLinks R)) (made : InProcessLinks R)
    → senders all ≡ numbers id
    → made.id ≡ id
    → more ≡ all ++ made ∷ []
    → senders more ≡ numbers (id + 1)
senders_more {R} id all more made are is pushed =
    ap senders pushed
    ∙ (map_pushed (λ (l : InProcessLinks R). l.id) all made
    ∙ (ap (λ ns. ns ++ made.id ∷ []) are ∙ (ap (λ n. numbers id ++ n ∷ []) is ∙ sym (numbers_next id))))

-- of all servers but those that are left these are the parts
abbrev pub ArePartsSoFar : {R : Type 0} → List (Opened R) → List (Opened R) → List ServerParts → Type 0
ArePartsSoFar {R} all rest all_server_parts =
    (done : List (Opened R)) × (all ≡ done ++ rest) × ArePartsOf done all_server_parts

pub parts_none : {R : Type 0} (all rest : List (Opened R)) (all_server_parts : List ServerParts) → rest ≡ all
    → all_server_parts ≡ []
    → ArePartsSoFar all rest all_server_parts
parts_none all rest all_server_parts same none = ([], sym same, none)

parts_pushed : {R : Type 0} (done : List (Opened R)) (server : Opened R) (all_server_parts : List ServerParts)
    (parts : ServerParts)
    → ArePartsOf done all_server_parts
    → IsPartsOf server parts
    → ArePartsOf (done ++ server ∷ []) (all_server_parts ++ parts ∷ [])
parts_pushed [] server [] parts are is = (is, refl)
parts_pushed [] server (x ∷ xs) parts are is = absurd (cc (are))
parts_pushed (s ∷ ss) server [] parts are is = absurd are
parts_pushed (s ∷ ss) server (x ∷ xs) parts are is = (are.0, parts_pushed ss server xs parts are.1 is)

pub parts_more : {R : Type 0} (all left rest : List (Opened R)) (server : Opened R)
    (all_server_parts more : List ServerParts)
    (parts : ServerParts)
    → ArePartsSoFar all left all_server_parts
    → left ≡ server ∷ rest
    → IsPartsOf server parts
    → more ≡ all_server_parts ++ parts ∷ []
    → ArePartsSoFar all rest more
parts_more all left rest server all_server_parts more parts so_far next is pushed = (
  so_far.0 ++ server ∷ [],
  so_far.1 ∙ (ap (λ l. so_far.0 ++ l) next ∙ sym (append_assoc so_far.0 (server ∷ []) rest)),
  subst (ArePartsOf (so_far.0 ++ server ∷ [])) (sym pushed)
      (parts_pushed so_far.0 server all_server_parts parts so_far.2 is),
)

pub parts_all : {R : Type 0} (all rest : List (Opened R)) (all_server_parts : List ServerParts)
    → ArePartsSoFar all rest all_server_parts
    → length rest ≡ 0
    → ArePartsOf all all_server_parts
parts_all all [] all_server_parts so_far none =
    subst (λ xs. ArePartsOf xs all_server_parts) (sym (so_far.1 ∙ append-nil so_far.0)) so_far.2
parts_all all (x ∷ xs) all_server_parts so_far none = absurd (omega (arith, none))
