-- A read of a clean key is answered at once, and leaves the server as it was.
use Rattle.std.proofs.Common.{◌≡◌, ℕ, ◌-◌, true, cond, List, [], ◌∷◌, Option, refl, arith, ap, sym, ◌∙◌, inl, inr}
use Rattle.std.proofs.lemmas.Bool.{cases_Bool}
use Rattle.table.specs.Items.{Item}
use Rattle.table.specs.declared.operations.Op.TheVariants.{Read}
use Rattle.table.specs.declared.operations.Reply.TheVariants.{Value}
use Rattle.table.specs.declared.operations.Target.TheVariants.{One}
use Rattle.versions.specs.Stores.{StoreState, dropped_to, is_clean, value_at, last_number}
use Rattle.node.specs.declared.looks.Look.TheVariants.{Clean, Dirty}
use Rattle.node.specs.declared.messages.Input.TheVariants.{Call as Called}
use Rattle.node.specs.declared.messages.Output.TheVariants.{Reply as Replied}
use Rattle.node.specs.Servers.{ServerState, RuleResult, putting, reply_at}
use Rattle.node.specs.Lawful.{IsLawful}
use Rattle.node.specs.Reading.{read, dirty_read}
use Rattle.node.specs.Steps.{step, trimmed}
use Rattle.node.specs.Faces.{peeked}

dropped_same : (s : StoreState) → dropped_to s s.floor ≡ s
dropped_same s = let none : s.floor - s.floor ≡ 0 = omega arith in rw none refl

-- trimming a lawful server changes nothing
pub trimmed_same : (s : ServerState) → IsLawful s → trimmed s ≡ s
unfolding trimmed
trimmed_same s l = ap (λ n. record s { store = dropped_to s.store n }) (sym l.floored)
    ∙ ap (λ (t : StoreState). record s { store = t }) (dropped_same s.store)

clean_by : (s : ServerState) (key : List ℕ) (item : Option Item)
    → peeked s key ≡ Clean item
    → (is_clean s.store key ≡ true) × (value_at s.store key (last_number s.store) ≡ item)
clean_by s key item e = elim (cases_Bool (is_clean s.store key)) [
  | inl t ↦
      let shown : Clean (value_at s.store key (last_number s.store)) ≡ Clean item =
      sym (ap (λ b. cond b (Clean (value_at s.store key (last_number s.store))) Dirty) t) ∙ e in
      (t, let same : value_at s.store key (last_number s.store) ≡ item = cc in same)
  | inr f ↦ absurd (let no : Dirty ≡ Clean item =
      sym (ap (λ b. cond b (Clean (value_at s.store key (last_number s.store))) Dirty) f) ∙ e in cc)
]

-- a read of a clean key is a reply, and leaves a lawful server as it was
pub clean_step : (s : ServerState) (c : ℕ) (key : List ℕ) (item : Option Item)
    → IsLawful s
    → peeked s key ≡ Clean item
    → step s (Called c (record { target = One key; op = Read }))
    ≡ record { state = s; outputs = Replied c (Value item) ∷ [] }
clean_step s c key item l e =
    let f = clean_by s key item e in
    let answer : RuleResult = putting s (reply_at c (Value (value_at s.store key (last_number s.store)))) in
    let is : read s c key ≡ answer = ap (λ b. cond b answer (dirty_read s c key)) f.0 in
    ap (λ (a : RuleResult). record { state = trimmed a.state; outputs = a.outputs }) is
    ∙ ap (λ t. record { state = t; outputs = Replied c (Value (value_at s.store key (last_number s.store))) ∷ [] })
    (trimmed_same s l)
    ∙ ap (λ v. record { state = s; outputs = Replied c (Value v) ∷ [] }) f.1
