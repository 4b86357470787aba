-- Links between the servers of one process: which have failed, and what was put on them, in order.
use Rattle.std.specs.Prelude.{ℕ, zero, suc, List, [], ◌∷◌, ◌++◌, Option, Some, None, if◌then◌else◌}
use Rattle.atomic_table.specs.Seated.{TableId}
use Rattle.node.specs.declared.messages.Peer.{Peer}
use Rattle.node.specs.declared.messages.Input.{Input}
use Rattle.node.specs.declared.messages.Input.TheVariants.{Call as Called, From, Gone}
use Rattle.rail.specs.declared.inbox_messages.InboxMessage.{InboxMessage}
use Rattle.rail.specs.declared.inbox_messages.InboxMessage.TheVariants.{Took, Stop, End}
use Rattle.rail.specs.Inlets.{InletState}
use Rattle.in_process_links.specs.declared.inbox_links.InboxLink.{InboxLink}

-- whether each link has failed, as a count: the link to a server that isn't there has failed
abbrev pub failures_at : List InboxLink → ℕ → ℕ
failures_at [] j = 1
failures_at (x ∷ xs) zero = if x.has_failed then 1 else 0
failures_at (x ∷ xs) (suc j) = failures_at xs j

-- what an inlet sent, and nothing without one
abbrev pub sent_by : Option InletState → List InboxMessage
sent_by None = []
sent_by (Some inlet) = inlet.sent

-- where an inlet leads: its inbox, and its number there
abbrev pub leads : Option InletState → Option (TableId × ℕ)
leads None = None
leads (Some inlet) = Some (inlet.inbox, inlet.number)

-- where the inlet of each link leads
abbrev pub all_leads : List InboxLink → List (Option (TableId × ℕ))
all_leads [] = []
all_leads (x ∷ xs) = leads x.inlet ∷ all_leads xs

-- what each link's inlet sent
abbrev pub sent_on : List InboxLink → List (List InboxMessage)
sent_on [] = []
sent_on (x ∷ xs) = sent_by x.inlet ∷ sent_on xs

-- what the inlet at a place sent
abbrev pub sent_at : List (List InboxMessage) → ℕ → List InboxMessage
sent_at [] j = []
sent_at (es ∷ rest) zero = es
sent_at (es ∷ rest) (suc j) = sent_at rest j

-- these inbox messages without the last one
abbrev pub without_last : {A : Type 0} → List A → List A
without_last [] = []
without_last (e ∷ []) = []
without_last (e ∷ (f ∷ es)) = e ∷ without_last (f ∷ es)

-- the message that an input brings, if it brings one, with this receiver
abbrev pub brought_by : ℕ → Input → List (ℕ × Peer)
brought_by to (Called port call) = []
brought_by to (From i peer) = (to, peer) ∷ []
brought_by to (Gone j) = []

-- the same of an inbox message
abbrev pub brought : ℕ → InboxMessage → List (ℕ × Peer)
brought to (Took input) = brought_by to input
brought to Stop = []
brought to End = []

-- the message that the last of these inbox messages brings, with this receiver
abbrev pub last_brought : ℕ → List InboxMessage → List (ℕ × Peer)
last_brought to [] = []
last_brought to (e ∷ []) = brought to e
last_brought to (e ∷ (f ∷ es)) = last_brought to (f ∷ es)

-- the message that was put last, if its receiver is the server at this place
abbrev pub last_put : ℕ → ℕ → List (List InboxMessage) → List (ℕ × Peer)
last_put to place [] = []
last_put to zero (es ∷ rest) = last_brought to es
last_put to (suc place) (es ∷ rest) = last_put to place rest

-- what was sent before it
abbrev pub before_last : ℕ → List (List InboxMessage) → List (List InboxMessage)
before_last place [] = []
before_last zero (es ∷ rest) = without_last es ∷ rest
before_last (suc place) (es ∷ rest) = es ∷ before_last place rest

-- all messages in the order in which they were put, by their receivers, the last one first, and by what each link's
-- inlet sent
abbrev pub all_put : List ℕ → List (List InboxMessage) → List (ℕ × Peer)
all_put [] sent = []
all_put (to ∷ earlier) sent = all_put earlier (before_last to sent) ++ last_put to to sent
