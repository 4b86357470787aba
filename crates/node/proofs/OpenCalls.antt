-- What is known of each own call and of each own read that waits.
use Rattle.std.proofs.Common.{◌≡◌, ℕ, zero, suc, ◌<◌, ◌≤◌, true, List, [], ◌∷◌, Some, ap, arith}
use Rattle.std.specs.Prelude.{slice_get}
use Rattle.std.proofs.lemmas.Option.{same_Some}
use Rattle.table.specs.Operations.{is_update}
use Rattle.node.specs.declared.servers.OpenUpdate.{OpenUpdate}
use Rattle.node.specs.declared.servers.OpenRead.{OpenRead}
use Rattle.node.specs.Lawful.{IsCall, AreUpdates, AreReads}
use Rattle.node.proofs.Lists.{In}

-- ---- own calls

update_step : (above : ℕ) (us : List OpenUpdate) (next_id : ℕ) (k : ℕ) (u : OpenUpdate)
    → AreUpdates above us next_id
    → slice_get us k ≡ Some u
    → IsCall u.call × (is_update u.call.op ≡ true)
update_step above [] next_id k u h e = absurd cc
update_step above (v ∷ us) next_id zero u h e = let same : v ≡ u = same_Some v u e in rw (← same) (h.1, h.2)
update_step above (v ∷ us) next_id (suc k) u h e = update_step v.id us next_id k u h.3 e

-- each is an update that may be handed in
pub update_in : (us : List OpenUpdate) (next_id : ℕ) (u : OpenUpdate)
    → AreUpdates 0 us next_id
    → In u us
    → IsCall u.call × (is_update u.call.op ≡ true)
update_in us next_id u h i = update_step 0 us next_id i.0 u h i.1

-- ---- own reads

read_above : (above lower_bound : ℕ) (rs : List OpenRead) (next_ask acked k : ℕ) (r : OpenRead)
    → AreReads above lower_bound rs next_ask acked
    → slice_get rs k ≡ Some r
    → above < r.ask
read_above above lower_bound [] next_ask acked k r h e = absurd cc
read_above above lower_bound (q ∷ rs) next_ask acked zero r h e =
    let same : q ≡ r = same_Some q r e in omega (arith, h.0, ap (λ (x : OpenRead). x.ask) same)
read_above above lower_bound (q ∷ rs) next_ask acked (suc k) r h e =
    omega (arith, h.0, read_above q.ask q.lower_bound rs next_ask acked k r h.2 e)

-- each ask is at least 1
pub asked_above : (lower_bound : ℕ) (rs : List OpenRead) (next_ask acked : ℕ) (r : OpenRead)
    → AreReads 0 lower_bound rs next_ask acked
    → In r rs
    → 1 ≤ r.ask
asked_above lower_bound rs next_ask acked r h i = omega (arith, read_above 0 lower_bound rs next_ask acked i.0 r h i.1)
