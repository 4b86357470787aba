-- What one turn of a worker does.
use Rattle.std.specs.Prelude.{◌≡◌, ◌⊎◌, ◌<◌, ◌+◌, ◌==◌, ℕ, true, false, if◌then◌else◌, List, [], ◌∷◌, ◌++◌}
use Rattle.node.specs.declared.messages.Peer.{Peer}
use Rattle.node.specs.declared.messages.Output.{Output}
use Rattle.node.specs.declared.messages.Output.TheVariants.{To, Reply as Replied}
use Rattle.node.specs.declared.messages.Input.{Input}
use Rattle.faces.specs.Histories.{Instance, History, with_next}
use Rattle.faces.specs.Outputs.{last_outputs}
use Rattle.rail.specs.NotedReplies.{NotedReply, ReplySenderState}
use Rattle.rail.specs.Links.{LinksState, messages_to}

-- the messages among these, in order, each with its receiver
abbrev pub messages_of : List Output → List (ℕ × Peer)
messages_of [] = []
messages_of (To to peer ∷ os) = (to, peer) ∷ messages_of os
messages_of (Replied port reply ∷ os) = messages_of os

-- the replies among these to a port, in order, with a note of the history
abbrev pub noted_replies_to : History → ℕ → List Output → List NotedReply
noted_replies_to c p [] = []
noted_replies_to c p (To to peer ∷ os) = noted_replies_to c p os
noted_replies_to c p (Replied port reply ∷ os) =
    if port == p then (record { port = port; reply = reply; told = c }) ∷ noted_replies_to c p os else noted_replies_to
    c p os

-- the second list is the first, in order, without some of which this holds
abbrev pub IsLeft : {X : Type 0} → (X → Type 0) → List X → List X → Type 0
IsLeft may [] ys = ys ≡ []
IsLeft {X} may (x ∷ xs) ys = (may x × IsLeft may xs ys) ⊎ ((rest : List X) × (ys ≡ x ∷ rest) × IsLeft may xs rest)

module _ {C : Type 0} (l l' : LinksState C) where
  -- Of these messages, in order, some on failed links are left out, and all others were put: for each server a
  -- beginning of those to it, all of them if its link hasn't failed, and none if it had failed before.
  pub record HasPut (messages : List (ℕ × Peer)) : Type 0 where
    pub put : List (ℕ × Peer)
    pub list : l'.list ≡ l.list ++ put
    pub order : IsLeft (λ m. 0 < l'.failures m.0) messages put
    pub beginning : (j : ℕ) → (rest : List Peer) × (messages_to j messages ≡ messages_to j put ++ rest)
    pub whole : (j : ℕ) → l'.failures j ≡ 0 → messages_to j put ≡ messages_to j messages
    pub down : (j : ℕ) → 0 < l.failures j → messages_to j put ≡ []

  -- the same of the messages of some of the first ones of these outputs
  abbrev pub HasPutFirst : List Output → Type 0
  HasPutFirst outputs =
      (done : List Output) × (rest : List Output) × (outputs ≡ done ++ rest) × HasPut (messages_of done)

-- what the last step of a history put out
abbrev pub outputs_after : History → List Output
outputs_after c = last_outputs c.instance.start c.inputs

-- An input was refused: nothing was published or put; or the published history grew by it, and then some of the first
-- messages of its step were put.
abbrev pub IsCut : {C : Type 0} → LinksState C → LinksState C → History → History → Input → Type 0
IsCut l l' c c' input =
    ((c' ≡ c) × (l' ≡ l))
    ⊎ ((c' ≡ with_next c input) × HasPutFirst l l' (outputs_after (with_next c input)))

-- What was put for a seat goes on with these replies, save those that its queue handed back.
pub record HasPutReplies (before after : ReplySenderState) (noted_replies : List NotedReply) : Type 0 where
  pub address : after.address ≡ before.address
  pub more : List NotedReply
  pub put : after.put ≡ before.put ++ more
  pub left : IsLeft (λ noted_reply. after.gone ≡ true) noted_replies more
  pub gone : before.gone ≡ true → after.gone ≡ true

-- no end of these seats' replies is held
abbrev pub AreClosed : List ReplySenderState → Type 0
AreClosed [] = Unit {0}
AreClosed (p ∷ ps) = (p.held ≡ false) × AreClosed ps

-- each reply sender is this server's, at the port of its place
abbrev pub AreReplySenders : Instance → ℕ → List ReplySenderState → Type 0
AreReplySenders o k [] = Unit {0}
AreReplySenders o k (p ∷ ps) = (p.address ≡ record { instance = o; port = k }) × AreReplySenders o (k + 1) ps

-- What was put for each seat goes on with the replies among these to its port, save those that its queue handed back.
abbrev pub HasReplied : History → ℕ → List ReplySenderState → List ReplySenderState → List Output → Type 0
HasReplied c k [] after outputs = after ≡ []
HasReplied c k (p ∷ ps) [] outputs = ⊥
HasReplied c k (p ∷ ps) (q ∷ qs) outputs =
    HasPutReplies p q (noted_replies_to c k outputs) × HasReplied c (k + 1) ps qs outputs
