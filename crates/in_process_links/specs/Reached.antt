-- The links of one server to the others of its process, and whom they were given something for.
use Rattle.std.specs.Prelude.{◌≡◌, ℕ, List}
use Rattle.node.specs.declared.messages.Peer.{Peer}
use Rattle.rail.specs.declared.inbox_messages.InboxMessage.{InboxMessage}
use Rattle.in_process_links.specs.declared.inbox_links.InProcessLinks.{InProcessLinks}
use Rattle.in_process_links.specs.declared.server_sets.ServerSet.{ServerSet}
use Rattle.in_process_links.specs.InProcessLinks.{all_put, failures_at, sent_at, sent_on}

module _ {R : Type 0} (links : InProcessLinks R) where
  -- whose links they are
  abbrev pub id_of : ℕ
  id_of = links.id

  -- what was put on them, in order, each message with its receiver
  abbrev pub put_on : List (ℕ × Peer)
  put_on = all_put links.receivers (sent_on links.links.items)

  -- what the link to a server was given
  abbrev pub given_to : ℕ → List InboxMessage
  given_to = sent_at (sent_on links.links.items)

  -- whether that link has failed, as a count
  abbrev pub failures_of : ℕ → ℕ
  failures_of = failures_at links.links.items

  -- the servers that were sent something since this was last asked for
  abbrev pub reached_of : ServerSet
  reached_of = links.reached

-- all but the servers that were sent something is as it was
abbrev pub HasSameLinks : {R : Type 0} → InProcessLinks R → InProcessLinks R → Type 0
HasSameLinks before after = after ≡ record before { reached = reached_of after }
