use Rattle.std.proofs.Common.{◌≡◌, ◌≢◌, ℕ, ◌<◌, length, slice_index, Contains, ap, sym, ◌∙◌, subst}
use Rattle.successions.specs.Decisions.{DecisionState}
use Rattle.successions.proofs.Rules.{are_accepted, free_iff, free_none, ended_all, ended_not}
use Rattle.successions.proofs.decisions.Decision.is_free.Goals as goal

pub returns-in-Some : goal.returns-in-Some
returns-in-Some c =
    let these : c.as_slice.result.now ≡ c.args.self.now.ended =
    c.as_slice.ensures.value ∙ ap (λ (d : DecisionState). d.ended) c.self.view_is in
    free_iff c.args.self.now c.in-Some.acceptance c.are_ended.result
    (c.looks_at_unswitched.ensures.0 c.if-not-looks_at_unswitched.false)
    (are_accepted c.args.self.now c.find.result (sym c.is_some.ensures ∙ c.if-is_some.false) c.find.ensures.none)
    (sym c.highest.ensures ∙ c.in-Some.is)
    (λ e. ended_all c.args.self.now.ended c.in-Some.acceptance.next
    (subst (λ xs. (k : ℕ) → k < length xs → slice_index xs k ≢ 0 → Contains c.args.self.now.ended (slice_index xs k))
    c.as_slice-in-Some.ensures
    (subst (λ ended. (k : ℕ) → k < length c.as_slice-in-Some.result.now
    → slice_index c.as_slice-in-Some.result.now k ≢ 0
    → Contains ended (slice_index c.as_slice-in-Some.result.now k))
    these (c.are_ended.ensures.all e))))
    (λ e. ended_not c.args.self.now.ended c.in-Some.acceptance.next
    (subst (λ xs. (k : ℕ) × (k < length xs) × (slice_index xs k ≢ 0)
    × (Contains c.args.self.now.ended (slice_index xs k) → ⊥))
    c.as_slice-in-Some.ensures
    (subst (λ ended. (k : ℕ) × (k < length c.as_slice-in-Some.result.now)
    × (slice_index c.as_slice-in-Some.result.now k ≢ 0)
    × (Contains ended (slice_index c.as_slice-in-Some.result.now k) → ⊥))
    these (c.are_ended.ensures.some e))))

pub returns-in-None : goal.returns-in-None
returns-in-None c =
    free_none c.args.self.now
    (are_accepted c.args.self.now c.find.result (sym c.is_some.ensures ∙ c.if-is_some.false) c.find.ensures.none)
    (sym c.highest.ensures ∙ c.in-None.is)
