-- The running chain in which nothing is left to do, and that no call is forgotten there.
use Rattle.std.specs.Prelude.{◌≡◌, ℕ, Bool, true, not, ◌&&◌, nat_lt, [], None, IsSome}
use Rattle.node.specs.Views.{has}
use Rattle.world.specs.Calls.{CallId}
use Rattle.interleavings.specs.Chains.{Chain, messages_to, replies_to}
use Rattle.interleavings.specs.Moves.{has_stopped}
use Rattle.interleavings.specs.Orders.{begun_call, reply_to}

-- server i is of the chain, and goes on
abbrev pub goes_on : Chain → ℕ → Bool
goes_on l i = nat_lt i l.count && not (l.servers i).stopped

-- Nothing is left to do. What servers that have stopped left behind doesn't count: what they had taken and not
-- published, what they had published and not put, and what of theirs is still on a channel.
pub record IsQuiet (l : Chain) : Type 0 where
  -- Each server that goes on has taken all that its inbox held,
  pub inboxes : (i : ℕ) → goes_on l i ≡ true → (l.servers i).inbox ≡ []
  -- has published the step of each input that it took,
  pub all_published : (i : ℕ) → goes_on l i ≡ true → (l.servers i).unpublished ≡ None
  -- has put each message for a server that goes on,
  pub messages : (i j : ℕ) → goes_on l i ≡ true → goes_on l j ≡ true → messages_to j (l.servers i).outbox ≡ []
  -- and each reply,
  pub replies : (i c : ℕ) → goes_on l i ≡ true → replies_to c (l.servers i).outbox ≡ []
  -- and knows each server that has stopped.
  pub views : (i j : ℕ) → goes_on l i ≡ true → has_stopped l j ≡ true → has (l.servers i).node.view j ≡ true
  -- Nothing is on a channel between two of them.
  pub channels : (i j : ℕ) → goes_on l i ≡ true → goes_on l j ≡ true → l.channels i j ≡ []
  -- Each seat at one of them has taken all replies of its queue.
  pub queues : (c : ℕ) → goes_on l (l.seats c).home ≡ true → (l.seats c).queued ≡ []

-- each call of a seat whose server goes on has its reply
abbrev pub NoneForgotten : Chain → Type 0
NoneForgotten l =
    (x : CallId) → goes_on l (l.seats x.connection).home ≡ true → IsSome (begun_call l x) → IsSome (reply_to l x)
