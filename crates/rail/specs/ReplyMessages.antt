-- The rule of a seat's replies: one sends, one takes, and all of them are one server's, for one port.
use Rattle.std.specs.Prelude.{◌≡◌, ◌⊎◌, ℕ, Bool, true, false, List, [], ◌∷◌, ◌++◌}
use mathlib.Core.Option.{some}
use lib.ListN.{get_elem?}
use Rattle.faces.specs.Histories.{nowhere}
use Rattle.rail.specs.NotedReplies.{Address, NotedReply, ReplySenderState}
use Rattle.rail.specs.declared.reply_channels.ReplyKnowledge.{ReplyKnowledge}

-- the address of a reply
abbrev pub address_of : NotedReply → Address
address_of m = record { instance = m.told.instance; port = m.port }

-- a pass that knows nothing yet
abbrev pub unknowing : ReplyKnowledge
unknowing = record { whole = true; puts = false; instance = nowhere; port = 0; list = [] }

-- the sender's, with what it put, and the seat's, with what it took
abbrev pub putter : Address → List NotedReply → ReplyKnowledge
putter a list = record { whole = false; puts = true; instance = a.instance; port = a.port; list = list }

abbrev pub taker : Address → List NotedReply → ReplyKnowledge
taker a list = record { whole = false; puts = false; instance = a.instance; port = a.port; list = list }

-- whose replies a pass knows
abbrev pub address_in : ReplyKnowledge → Address
address_in v = record { instance = v.instance; port = v.port }

-- A pass is the sender's, or the seat's.
abbrev pub IsPutter : ReplyKnowledge → Type 0
IsPutter v = v ≡ putter (address_in v) v.list

abbrev pub IsTaker : ReplyKnowledge → Type 0
IsTaker v = v ≡ taker (address_in v) v.list

-- A seat's pass knows one reply more, which is of its server and for its port.
abbrev pub HasGot : ReplyKnowledge → ReplyKnowledge → NotedReply → Type 0
HasGot v v' m = (v' ≡ record v { list = v.list ++ m ∷ [] }) × (m.told.instance ≡ v.instance) × (m.port ≡ v.port)

-- what a worker's end shows of its pass
abbrev pub reply_sender_of : ReplyKnowledge → Bool → Bool → ReplySenderState
reply_sender_of v gone held = record { address = address_in v; put = v.list; gone = gone; held = held }

-- all are at this address
abbrev pub AllAt : Address → List NotedReply → Type 0
AllAt a [] = Unit {0}
AllAt a (m ∷ ms) = (address_of m ≡ a) × AllAt a ms

-- what was taken, and then what stands in the queue, is what was put
pub record DeliversReplies (items : List NotedReply) (views : List ReplyKnowledge) : Type 0 where
  pub address : Address
  pub put : List NotedReply
  pub taken : List NotedReply
  pub sender : ℕ
  pub receiver : ℕ
  pub order : taken ++ items ≡ put
  pub all : AllAt address items
  pub each : (pass : ℕ) (v : ReplyKnowledge)
      → get_elem? views pass ≡ some v
      → ((v ≡ putter address put) × (pass ≡ sender)) ⊎ ((v ≡ taker address taken) × (pass ≡ receiver))

-- the queue is new, or in use
abbrev pub IsReplyQueue : List NotedReply → List ReplyKnowledge → Type 0
IsReplyQueue items views = ((items ≡ []) × (views ≡ unknowing ∷ [])) ⊎ DeliversReplies items views
