-- One input more.
use Rattle.std.proofs.Common.{◌≡◌, ◌∙◌, ap, sym, subst, refl, ℕ, List, [], ◌∷◌, ◌++◌}
use Rattle.node.specs.declared.messages.Input.{Input}
use Rattle.node.specs.declared.messages.Output.{Output}
use Rattle.node.specs.Servers.{ServerState}
use Rattle.node.specs.Steps.{step}
use Rattle.node.specs.Faces.{FaceState, face_of, face_changed}
use Rattle.node.specs.declared.faces.FaceStep.{FaceStep}
use Rattle.node.specs.Nodes.{NodeState, running}
use Rattle.faces.specs.Histories.{History, IsLater, after, server_after, shown_after, with_next}
use Rattle.faces.specs.Outputs.{last_outputs}

pub after_next : (s : ServerState) (is : List Input) (i : Input) → after s (is ++ i ∷ []) ≡ (step (after s is) i).state
after_next s [] i = refl
after_next s (j ∷ js) i = after_next (step s j).state js i

pub outputs_next : (s : ServerState) (is : List Input) (i : Input)
    → last_outputs s (is ++ i ∷ []) ≡ (step (after s is) i).outputs
outputs_next s [] i = refl
outputs_next s (j ∷ []) i = refl
outputs_next s (j ∷ (k ∷ ks)) i = outputs_next (step s j).state (k ∷ ks) i

pub server_next : (c : History) (i : Input) → server_after (with_next c i) ≡ (step (server_after c) i).state
server_next c i = after_next c.instance.start c.inputs i

-- a history with one input more is later
pub later_next : (c d f : History) (i : Input) → d ≡ c → f ≡ with_next c i → IsLater d f
later_next c d f i same next =
    subst (λ (x : History). IsLater d x) (sym next)
    (subst (λ (x : History). IsLater x (with_next c i)) (sym same)
    (record { instance = refl; inputs = (i ∷ [], refl) }))

pub face_next : (c f : History) (n : NodeState) (i : Input) (shown : FaceState) (steps : List FaceStep) (acked : ℕ)
    → n ≡ running (server_after c)
    → shown ≡ shown_after c
    → f ≡ with_next c i
    → face_changed (face_of n.server) steps acked ≡ face_of (step n.server i).state
    → face_changed shown steps acked ≡ shown_after f
face_next c f n i shown steps acked node stands log_position changed =
    let server : n.server ≡ server_after c = ap (λ (m : NodeState). m.server) node in
    ap (λ x. face_changed x steps acked) (stands ∙ sym (ap face_of server))
    ∙ (changed ∙ (ap (λ s. face_of (step s i).state) server
    ∙ (sym (ap face_of (server_next c i)) ∙ sym (ap shown_after log_position))))

pub node_next : (c p : History) (n n' : NodeState) (i : Input)
    → n ≡ running (server_after c)
    → p ≡ with_next c i
    → n' ≡ running (step n.server i).state
    → n' ≡ running (server_after p)
node_next c p n n' i node next state =
    state ∙ (ap (λ (m : NodeState). running (step m.server i).state) node
    ∙ (sym (ap running (server_next c i)) ∙ sym (ap (λ (x : History). running (server_after x)) next)))

pub outputs_of : (c p : History) (n : NodeState) (i : Input) (outputs : List Output)
    → n ≡ running (server_after c)
    → p ≡ with_next c i
    → outputs ≡ (step n.server i).outputs
    → outputs ≡ last_outputs p.instance.start p.inputs
outputs_of c p n i outputs node next out =
    out ∙ (ap (λ (m : NodeState). (step m.server i).outputs) node
    ∙ (sym (outputs_next c.instance.start c.inputs i)
    ∙ sym (ap (λ (x : History). last_outputs x.instance.start x.inputs) next)))
