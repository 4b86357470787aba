-- Replies on their way.
use Rattle.std.specs.Prelude.{ℕ, Bool, true, false, List, []}
use Rattle.table.specs.declared.operations.Reply.{Reply}
use Rattle.faces.specs.Histories.{Instance, History}

-- a reply at a port, and what the server had published by then
pub record NotedReply : Type 0 where
  pub port : ℕ
  pub reply : Reply
  pub told : History

-- whose replies, and at which port
pub record Address : Type 0 where
  pub instance : Instance
  pub port : ℕ

-- the worker's end of a seat's replies: whose they are, what was put, whether one was handed back, and whether the
-- worker holds an end of their queue, without which the seat waits no longer
pub record ReplySenderState : Type 0 where
  pub address : Address
  pub put : List NotedReply
  pub gone : Bool
  pub held : Bool

-- the reply sender of port k before any reply
abbrev pub reply_sender_at : Instance → ℕ → ReplySenderState
reply_sender_at o k = record { address = record { instance = o; port = k }; put = []; gone = false; held = true }
