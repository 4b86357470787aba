-- What a connection's calls come to, one after another.
use Rattle.std.proofs.Common.{◌≡◌, ℕ, List, [], ◌∷◌, ◌++◌, refl, sym, ap, subst, ◌∙◌}
use Rattle.table.specs.declared.operations.Call.{Call}
use Rattle.table.specs.declared.operations.Reply.{Reply}
use Rattle.proto.specs.Turns.{Outcome}
use Rattle.serving.specs.Serving.{AreAnswered, CameTo}
use Rattle.serving.specs.Connections.{Connected, HasOutcome}

-- the first call of a list, or this one
abbrev pub first_or : Call → List Call → Call
first_or d [] = d
first_or d (c ∷ cs) = c

-- the others
abbrev pub others : List Call → List Call
others [] = []
others (c ∷ cs) = cs

-- once the call that waits longest has come to something the others wait
pub has_left : (c d : Connected) (call : Call) (later : List Call) (outcome : Outcome) → c.waiting ≡ call ∷ later
    → HasOutcome outcome c d
    → d.waiting ≡ later
has_left c d call later outcome waits has = ap (λ x. x.waiting) has.4 ∙ ap others (sym has.3 ∙ waits)

module _ {V : Type 0} (answers : V → Call → Reply → V → Type 0) where
  -- one more call came to this
  answered_more : (v u w : V) (cs : List Call) (os : List Outcome) (c : Call) (o : Outcome)
      → AreAnswered answers v cs os u
      → CameTo answers u c o w
      → AreAnswered answers v (cs ++ c ∷ []) (os ++ o ∷ []) w
  answered_more v u w [] [] c o so by = (w, subst (λ x. CameTo answers x c o w) so by, refl)
  answered_more v u w [] (p ∷ os) c o so by = absurd so
  answered_more v u w (d ∷ cs) [] c o so by = absurd so
  answered_more v u w (d ∷ cs) (p ∷ os) c o so by = (so.0, so.1, answered_more so.0 u w cs os c o so.2 by)

  module _ (first : V) (base : List ℕ) where
    -- Of a connection: its calls came to what it says, and what it says was written was written.
    pub record Stands (c : Connected) (sent : List ℕ) (now : V) : Type 0 where
      pub calls : AreAnswered answers first c.calls c.outcomes now
      pub written : sent ≡ base ++ c.written

    -- a call came to this
    pub stands_answered : (c d : Connected) (call : Call) (later : List Call) (outcome : Outcome) (sent : List ℕ)
        (before now : V)
        → c.waiting ≡ call ∷ later → HasOutcome outcome c d → CameTo answers before call outcome now
        → Stands c sent before
        → Stands d sent now
    stands_answered c d call later outcome sent before now waits has by s =
        let same : has.0 ≡ call = ap (λ cs. first_or call cs) (sym has.3 ∙ waits) in
        subst (λ x. Stands x sent now) (sym has.4) (record {
          calls = answered_more first before now c.calls c.outcomes has.0 outcome s.calls
              (subst (λ x. CameTo answers before x outcome now) (sym same) by);
          written = s.written;
        })
