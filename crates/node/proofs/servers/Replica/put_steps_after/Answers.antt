use Rattle.std.proofs.Common.{rules, ◌≡◌, ◌++◌, List, [], ◌∷◌, length, Option, None, Some, refl, sym, ap, ◌∙◌, arith}
use Rattle.std.proofs.Common.{append_assoc, append-nil}
use Rattle.std.specs.List.{cons_option}
use Rattle.std.specs.VecDeque.Iter.{deque_iter_rest}
use Rattle.versions.specs.Entries.{LogEntry}
use Rattle.versions.specs.Stores.{entries_after}
use Rattle.node.specs.declared.faces.FaceStep.{FaceStep}
use Rattle.node.specs.Servers.{ServerState}
use Rattle.node.specs.Faces.{face_step, face_steps}
use Rattle.node.proofs.servers.Replica.put_steps_after.Goals as goal

one_first : (o : Option FaceStep) (xs : List FaceStep) → cons_option o xs ≡ cons_option o [] ++ xs
one_first None xs = refl
one_first (Some x) xs = refl

one_more : (rest es : List LogEntry) (e : LogEntry) (whole done after : List FaceStep)
    → rest ≡ e ∷ es
    → whole ≡ done ++ face_steps rest
    → after ≡ done ++ cons_option (face_step e.number e.target e.change) []
    → whole ≡ after ++ face_steps es
one_more rest es e whole done after is h put =
    h
    ∙ ap (λ r. done ++ face_steps r) is
    ∙ ap (λ r. done ++ r) (one_first (face_step e.number e.target e.change) (face_steps es))
    ∙ sym (append_assoc done (cons_option (face_step e.number e.target e.change) []) (face_steps es))
    ∙ ap (λ d. d ++ face_steps es) (sym put)

none_left : (rest : List LogEntry) → length rest ≡ 0 → face_steps rest ≡ []
none_left [] is = refl
none_left (e ∷ es) is = absurd (omega arith)

no_more : (rest : List LogEntry) (whole done : List FaceStep)
    → length rest ≡ 0
    → whole ≡ done ++ face_steps rest
    → done ≡ whole
no_more rest whole done none h = sym (h ∙ ap (λ r. done ++ r) (none_left rest none) ∙ append-nil done)

-- the step of one entry more was put
pub loop-entry-preserved : goal.loop-entry-preserved
loop-entry-preserved c =
    let e = c.in-Some.entry.now in
    let put : c.put_step.new.steps.items ≡ c.loop-entry.steps.items
    ++ cons_option (face_step e.number e.target e.change) [] =
    search rules in
    one_more (deque_iter_rest c.loop-entry.entry-iterator) (deque_iter_rest c.next.new.self) e _ _ _
    c.in-Some.ensures.steps c.loop-entry.invariant put

-- the steps of all entries above the number were put
pub returns : goal.returns
returns c =
    no_more (deque_iter_rest c.loop-entry.entry-iterator) _ _ c.in-None.ensures.steps.0 c.loop-entry.invariant
    ∙ ap (λ it. c.args.steps.now.items ++ face_steps (deque_iter_rest it))
    c.into_iter-entry-iterator.ensures.into_iter_gives
    ∙ ap (λ es. c.args.steps.now.items ++ face_steps es)
    (c.entries_after-entry-items.ensures.rest ∙ ap (λ (s : ServerState). entries_after s.store c.args.above)
    c.self.view_is)
