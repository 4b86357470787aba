-- Whose links these are, by what they carry.
use Rattle.std.proofs.Common.{◌≡◌, ◌==◌, ◌∙◌, ap, true, ℕ, List, [], ◌∷◌}
use Rattle.node.specs.declared.messages.Body.TheVariants.{Ack}
use Rattle.node.specs.declared.messages.Input.TheVariants.{Call as Called, From, Gone}
use Rattle.node.specs.declared.messages.Peer.{Peer}
use Rattle.rail.specs.declared.inbox_messages.InboxMessage.{InboxMessage}
use Rattle.rail.specs.declared.inbox_messages.InboxMessage.TheVariants.{Took, Stop, End}

-- the server that brings this inbox message
brings : InboxMessage → ℕ
brings (Took (Called port call)) = 0
brings (Took (From i peer)) = i
brings (Took (Gone j)) = 0
brings Stop = 0
brings End = 0

brings_first : List InboxMessage → ℕ
brings_first [] = 0
brings_first (e ∷ es) = brings e

-- whose links these are shows in what they bring
pub same_sender : (i j : ℕ)
    → ◌≡◌ {A = Peer → List InboxMessage} (λ peer. Took (From i peer) ∷ []) (λ peer. Took (From j peer) ∷ [])
    → i ≡ j
unfolding brings_first brings
same_sender i j same = ap (λ (f : Peer → List InboxMessage). brings_first (f (record { view = 0; body = Ack 0 }))) same

-- so links that bring messages as others did are those of the same server
pub stays_own : (before after id : ℕ)
    → ◌≡◌ {A = Peer → List InboxMessage} (λ peer. Took (From after peer) ∷ []) (λ peer. Took (From before peer) ∷ [])
    → (before == id) ≡ true
    → (after == id) ≡ true
stays_own before after id same own = ap (λ i. i == id) (same_sender after before same) ∙ own
