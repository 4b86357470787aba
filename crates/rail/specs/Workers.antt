-- A worker, and what a turn of it does.
use Rattle.std.specs.Prelude.{◌≡◌, ◌≢◌, ◌⊎◌, ℕ, Bool, true, false, List, [], ◌∷◌, ◌++◌, length, Option, None, Some}
use Rattle.std.specs.declared.result.Result.{Result}
use Rattle.std.specs.declared.result.Result.TheVariants.{Ok, Err}
use Rattle.atomic_table.specs.Seated.{TableId}
use Rattle.node.specs.declared.messages.Input.{Input}
use Rattle.node.specs.Lawful.{IsLawful}
use Rattle.node.specs.Replies.{AreOpenBelow, AreRepliesBelow}
use Rattle.faces.specs.Histories.{History, server_after, with_next}
use Rattle.faces.specs.Publishers.{Publishing}
use Rattle.rail.specs.declared.faults.RailFault.{RailFault}
use Rattle.rail.specs.declared.faults.RailFault.TheVariants.{Memory, Closed, LinkDown, NoReader}
use Rattle.rail.specs.declared.inbox_messages.InboxMessage.TheVariants.{Took, Stop, End}
use Rattle.rail.specs.declared.inbox_messages.Envelope.{Envelope}
use Rattle.rail.specs.declared.workers.Turn.{Turn}
use Rattle.rail.specs.declared.workers.Turn.TheVariants.{Went, Stopped, End as Ended}
use Rattle.rail.specs.NotedReplies.{ReplySenderState}
use Rattle.rail.specs.Links.{LinksState}
use Rattle.rail.specs.Turns.{messages_of, outputs_after, HasPut, IsCut, AreReplySenders, AreClosed, HasReplied}

-- its inbox (`InletState`), and what it took there, in order; what it has published, and whether it goes on; and what
-- it put for each seat
pub record WorkerState : Type 0 where
  pub inbox : TableId
  pub taken : List Envelope
  pub published : History
  pub goes : Bool
  pub reply_senders : List ReplySenderState

-- a server that goes on has published just this, it is lawful, its open calls have ports below this number, and its
-- publisher goes on
abbrev pub IsGoing : Option Publishing → History → ℕ → Type 0
IsGoing None published ports = Unit {0}
IsGoing (Some publisher) published ports =
    (publisher.published ≡ published)
    × IsLawful (server_after publisher.published)
    × AreOpenBelow ports (server_after publisher.published)
    × (publisher.goes ≡ true)

-- what a worker keeps: there is a reply sender for each seat, no end of theirs is held once the server has stopped, and
-- what a server that goes on does
pub record IsWorker (publisher : Option Publishing) (published : History) (reply_senders : List ReplySenderState)
    (ports : ℕ)
    : Type 0 where
  pub placed : AreReplySenders published.instance 0 reply_senders
  pub as_many : length reply_senders ≡ ports
  pub closed : publisher ≡ None → AreClosed reply_senders
  pub going : IsGoing publisher published ports

-- The server is stopped from now on, nothing was replied, and no seat's end is held.
pub record IsStopped (w w' : WorkerState) : Type 0 where
  pub published : w'.published ≡ w.published
  pub stopped : w'.goes ≡ false
  pub replies : HasReplied w.published 0 w.reply_senders w'.reply_senders []
  pub closed : AreClosed w'.reply_senders

module _ {C : Type 0} (w w' : WorkerState) (l l' : LinksState C) where
  -- An input was given to a server that goes on: the published history grew by it, and then what its step put out was
  -- put: its messages save those on links that have failed, and its replies, each of which has a seat, save those that
  -- are handed back.
  pub record HasGone (input : Input) : Type 0 where
    pub going : w.goes ≡ true
    pub still : w'.goes ≡ true
    pub published : w'.published ≡ with_next w.published input
    pub messages : HasPut l l' (messages_of (outputs_after (with_next w.published input)))
    pub replies : HasReplied (with_next w.published input) 0 w.reply_senders w'.reply_senders
        (outputs_after (with_next w.published input))
    pub seated : AreRepliesBelow (length w.reply_senders) (outputs_after (with_next w.published input))

  -- The server is stopped from now on, and nothing was put out.
  pub record HasStopped : Type 0 where
    pub stopped : IsStopped w w'
    pub messages : l' ≡ l

  -- An input was refused, as memory was out, and the server is stopped from now on. Nothing was published or put; or
  -- the published history grew by the input, and then some of the first messages of its step were put. Nothing was
  -- replied, and no seat's end is held.
  pub record WasCut (input : Input) : Type 0 where
    pub going : w.goes ≡ true
    pub stopped : w'.goes ≡ false
    pub replies : HasReplied w.published 0 w.reply_senders w'.reply_senders []
    pub closed : AreClosed w'.reply_senders
    pub cut : IsCut l l' w.published w'.published input

  -- Nothing changed.
  pub record IsIdle : Type 0 where
    pub published : w'.published ≡ w.published
    pub goes : w'.goes ≡ w.goes
    pub reply_senders : w'.reply_senders ≡ w.reply_senders
    pub messages : l' ≡ l

  -- what came of an input, by the answer
  abbrev pub Advanced : Input → Result Turn RailFault → Type 0
  Advanced input (Ok Went) = HasGone input
  Advanced input (Ok Stopped) = (w.goes ≡ false) × HasStopped
  Advanced input (Ok Ended) = ⊥
  Advanced input (Err Memory) = WasCut input
  Advanced input (Err Closed) = ⊥
  Advanced input (Err LinkDown) = ⊥
  Advanced input (Err NoReader) = ⊥

  -- what a turn that took this message did, by its answer
  abbrev pub Did : Envelope → Result Turn RailFault → Type 0
  Did m (Ok Went) = (input : Input) × (m.inbox_message ≡ Took input) × HasGone input
  Did m (Ok Stopped) = ((m.inbox_message ≡ Stop) ⊎ ((w.goes ≡ false) × (m.inbox_message ≢ End))) × HasStopped
  Did m (Ok Ended) = (m.inbox_message ≡ End) × IsIdle
  Did m (Err Memory) = (input : Input) × (m.inbox_message ≡ Took input) × WasCut input
  Did m (Err Closed) = ⊥
  Did m (Err LinkDown) = ⊥
  Did m (Err NoReader) = ⊥

  -- It took this message, and then did what its answer says.
  pub record HasTaken (result : Result Turn RailFault) : Type 0 where
    pub message : Envelope
    pub taken : w'.taken ≡ w.taken ++ message ∷ []
    pub did : Did message result

  -- Nothing was taken, and the server is stopped from now on.
  pub record HasClosed : Type 0 where
    pub taken : w'.taken ≡ w.taken
    pub stopped : HasStopped

  -- what a turn did, by its answer
  abbrev pub IsTurn : Result Turn RailFault → Type 0
  IsTurn (Ok turn) = HasTaken (Ok turn)
  IsTurn (Err Memory) = HasTaken (Err Memory)
  IsTurn (Err Closed) = HasClosed
  IsTurn (Err LinkDown) = ⊥
  IsTurn (Err NoReader) = ⊥

  -- the same of a turn that may have found no message
  abbrev pub MayBeTurn : Result (Option Turn) RailFault → Type 0
  MayBeTurn (Ok None) = (w' ≡ w) × (l' ≡ l)
  MayBeTurn (Ok (Some turn)) = IsTurn (Ok turn)
  MayBeTurn (Err fault) = IsTurn (Err fault)
