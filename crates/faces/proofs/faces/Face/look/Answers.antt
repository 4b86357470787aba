use Rattle.std.proofs.Common.{◌≡◌, ◌∙◌, ◌≤◌, ℕ, nat_le, Bool, true, true≢false, if◌then◌else◌, List}
use Rattle.std.proofs.Common.{Option, Some, None, IsSome, refl, ap, sym, subst, rules}
use Rattle.std.proofs.lemmas.Bool.{le-leb, lt-leb}
use Rattle.std.proofs.lemmas.Result.{MatchResult-from_err}
use Rattle.std.specs.FinMap as maps
use Rattle.table.specs.Items.{Item, Version}
use Rattle.node.specs.Faces.{FaceState, look_at_version}
use Rattle.node.specs.declared.looks.Look.TheVariants.{Clean, Dirty}
use Rattle.faces.specs.Readers.{ShowsItem}
use Rattle.faces.proofs.faces.Face.look.Goals as goal

clean_item : (o : Option Item) (b : Bool)
    → b ≡ true
    → IsSome o
    → (item : Item) × ((if b then Clean o else Dirty) ≡ Clean (Some item))
clean_item None b is has = absurd (true≢false (sym has))
clean_item (Some item) b is has = (item, ap (λ (t : Bool). if t then Clean (Some item) else Dirty) is)

item_shown : (f : FaceState) (key : List ℕ) (v : Version)
    → Some v ≡ maps.get f.versions key
    → v.number ≤ f.acked
    → IsSome v.item
    → ShowsItem f key
item_shown f key v is low has =
    let clean = clean_item v.item (nat_le v.number f.acked) (le-leb _ _ low) has in
    (clean.0, ap (look_at_version f.cleared f.acked) (sym is) ∙ clean.1)

pub returns-in_ok-item-in-Some : goal.returns-in_ok-item-in-Some
returns-in_ok-item-in-Some c =
    rw (
      ← c.self.view_is,
      ← c.in-Some.ensures,
      ← c.number.ensures,
      le-leb _ _ c.if-number-self.true,
      c.in_ok-item-in-Some.ensures,
    ) refl

pub returns-in_err-item-in-Some : goal.returns-in_err-item-in-Some
returns-in_err-item-in-Some c =
    let me = c.self.inside in
    let face : FaceState = record { versions = me.versions; cleared = me.cleared; acked = me.acked } in
    let low = subst (λ (n : ℕ). n ≤ me.acked) c.number.ensures c.if-number-self.true in
    let shown =
    item_shown face c.args.key.now c.in-Some.version.now c.in-Some.ensures low c.in_err-item-in-Some.ensures in
    MatchResult-from_err c.from_residual.result _ _ (search rules) (λ e. rw (← c.self.view_is) shown)

pub returns-else-number-self : goal.returns-else-number-self
returns-else-number-self c =
    rw (← c.self.view_is, ← c.in-Some.ensures, ← c.number.ensures, lt-leb _ _ c.if-number-self.false) refl

pub returns-then-self : goal.returns-then-self
returns-then-self c = rw (← c.self.view_is, ← c.in-None.ensures, le-leb _ _ c.if-self.true) refl

pub returns-else-self : goal.returns-else-self
returns-else-self c = rw (← c.self.view_is, ← c.in-None.ensures, lt-leb _ _ c.if-self.false) refl
