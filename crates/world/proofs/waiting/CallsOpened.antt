-- An own call that is taken in is open after the step, or answered by it, if numbers are left.
use Rattle.std.proofs.Common.{◌≡◌, ℕ, ◌<◌, Bool, true, false, not, List, [], ◌∷◌, None, refl, sym, subst, ◌⊎◌, inl, inr}
use Rattle.std.proofs.lemmas.Bool.{cond_both, both_ways, and_from, lt-ltb, or_right}
use Rattle.table.specs.Operations.{is_update, Suits}
use Rattle.table.specs.declared.operations.Call.{Call}
use Rattle.table.specs.declared.operations.Op.{Op}
use Rattle.table.specs.declared.operations.Op.TheVariants.{Read}
use Rattle.table.specs.declared.operations.Reply.TheVariants.{Value}
use Rattle.table.specs.declared.operations.Target.{Target}
use Rattle.table.specs.declared.operations.Target.TheVariants.{One, All}
use Rattle.versions.specs.Stores.{last_number, value_at, is_clean}
use Rattle.node.specs.declared.servers.OpenUpdate.{OpenUpdate}
use Rattle.node.specs.declared.servers.OpenRead.{OpenRead}
use Rattle.node.specs.declared.messages.Input.TheVariants.{Call as Called}
use Rattle.node.specs.Servers.{ServerState, RuleResult, most}
use Rattle.node.specs.Numbering.{entered, is_room_for_update, update}
use Rattle.node.specs.Reading.{dirty_read, read_of}
use Rattle.node.specs.Steps.{trimmed, step}
use Rattle.node.specs.Lawful.{IsCall, IsLawful}
use Rattle.node.proofs.RuleLaws.{good-entered, updated}
use Rattle.node.specs.Actions.{nothing_due}
use Rattle.node.proofs.Lists.{In}
use Rattle.node.proofs.DoneRules.{entered_in, clear_paid, clear_entered, rule_called}
use Rattle.node.proofs.DoneSteps.{asked_in, paid_nothing}
use Rattle.world.proofs.waiting.KeptOpen.{AnswersPort, open_done}

-- an own call of this port waits at the server
abbrev pub IsOpenAt : ServerState → ℕ → Type 0
IsOpenAt s c = ((u : OpenUpdate) × In u s.pend × (u.port ≡ c)) ⊎ ((r : OpenRead) × In r s.asks × (r.port ≡ c))

-- an id, a number and an ask are left
pub record HasRoom (s : ServerState) : Type 0 where
  pub id : s.next_id < most
  pub number : last_number s.store < most
  pub ask : s.next_ask < most

-- the call of a port waits, or has its reply
abbrev pub IsTakenIn : ℕ → Bool → RuleResult → Type 0
IsTakenIn c shows o = IsOpenAt o.state c ⊎ AnswersPort c shows o.outputs

-- the update of a port waits, or has its reply
abbrev pub IsUpdateIn : ℕ → RuleResult → Type 0
IsUpdateIn c o = ((u : OpenUpdate) × In u o.state.pend × (u.port ≡ c)) ⊎ AnswersPort c false o.outputs

update_taken : (s : ServerState) (port : ℕ) (made : Call)
    → IsLawful s
    → IsCall made
    → is_update made.op ≡ true
    → is_room_for_update s ≡ true
    → IsUpdateIn port (update s port made)
update_taken s port made h fit is may =
    let u : OpenUpdate = record { id = s.next_id; port = port; call = made } in
    let sound = (good-entered s port made fit is (record { sound = h.sound; settled = h.settled })).sound in
    let kept = open_done None (entered s port made) _
    (rule_called None (entered s port made) (record (nothing_due s) { unsent = u ∷ [] }) s.next_id port made sound
    (clear_entered s (nothing_due s) port made (u ∷ []) (clear_paid s (nothing_due s) (paid_nothing s h.settled))) fit
    is (entered_in s port made) refl).done in
    rw (updated s port made may) (elim (kept.updates u (entered_in s port made)) [
      | inl waits ↦ inl (u, waits, refl)
      | inr x ↦ inr x
    ])

taken_update : (s : ServerState) (port : ℕ) (made : Call)
    → IsLawful s
    → IsCall made
    → is_update made.op ≡ true
    → HasRoom s
    → IsTakenIn port false (update s port made)
taken_update s port made h fit is room =
    let may : is_room_for_update s ≡ true = and_from _ _ (lt-ltb _ _ room.id) (or_right _ _ (lt-ltb _ _ room.number)) in
    elim (update_taken s port made h fit is may) [ inl waits ↦ inl (inl waits) | inr x ↦ inr x ]

taken_dirty : (s : ServerState) (port : ℕ) (key : List ℕ) → HasRoom s → IsTakenIn port true (dirty_read s port key)
unfolding dirty_read
taken_dirty s port key room =
    rw (lt-ltb _ _ room.ask)
    (inl (inr (
      record { ask = s.next_ask; port = port; key = key; lower_bound = s.store.acked },
      asked_in s port key,
      refl,
    )))

-- who reads, reads one key
no_flush : (target : Target) (op : Op) → Suits target op → is_update op ≡ false → target ≡ All → ⊥
no_flush target Read suits is e = let s : false ≡ true = rw e at suits in cc
no_flush target op suits is e = absurd cc

taken_read : (s : ServerState) (port : ℕ) (target : Target)
    → (target ≡ All → ⊥)
    → HasRoom s
    → IsTakenIn port true (read_of s port target)
taken_read s port All other room = absurd (other refl)
taken_read s port (One key) other room =
    cond_both (is_clean s.store key) _ _ (λ (o : RuleResult). IsTakenIn port true o)
    (λ t. inr (Value (value_at s.store key (last_number s.store)), (0, refl), refl))
    (λ f. taken_dirty s port key room)

trimmed_open : (s : ServerState) (c : ℕ) → IsOpenAt s c → IsOpenAt (trimmed s) c
unfolding trimmed
trimmed_open s c h = h

-- so it is after the step
pub call_opened : (s : ServerState) (port : ℕ) (made : Call)
    → IsLawful s
    → IsCall made
    → HasRoom s
    → IsTakenIn port (not (is_update made.op)) (step s (Called port made))
call_opened s port made h fit room =
    elim (cond_both (is_update made.op) (update s port made) (read_of s port made.target)
    (λ (o : RuleResult). IsTakenIn port (not (is_update made.op)) o)
    (λ t. subst (λ b. IsTakenIn port (not b) (update s port made)) (sym t) (taken_update s port made h fit t room))
    (λ f. subst (λ b. IsTakenIn port (not b) (read_of s port made.target)) (sym f)
    (taken_read s port made.target (no_flush made.target made.op fit.1 f) room))) [
      | inl waits ↦ inl (trimmed_open _ port waits)
      | inr x ↦ inr x
    ]

trimmed_update : (s : ServerState) (c : ℕ)
    → (u : OpenUpdate) × In u s.pend × (u.port ≡ c)
    → (u : OpenUpdate) × In u (trimmed s).pend × (u.port ≡ c)
unfolding trimmed
trimmed_update s c h = h

-- an update that there is room for waits after the step, or has its reply
pub update_opened : (s : ServerState) (port : ℕ) (made : Call)
    → IsLawful s
    → IsCall made
    → is_update made.op ≡ true
    → is_room_for_update s ≡ true
    → IsUpdateIn port (step s (Called port made))
update_opened s port made h fit is may =
    elim (cond_both (is_update made.op) (update s port made) (read_of s port made.target)
    (λ (o : RuleResult). IsUpdateIn port o) (λ t. update_taken s port made h fit is may)
    (λ f. absurd (both_ways _ f is))) [
      | inl waits ↦ inl (trimmed_update _ port waits)
      | inr x ↦ inr x
    ]
