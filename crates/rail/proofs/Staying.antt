-- A worker stays that of its server, whatever a turn of it does.
use Rattle.std.proofs.Common.{◌≡◌, inl, inr, ap, Option, Some, None, Ok, Err}
use Rattle.std.specs.declared.result.Result.{Result}
use Rattle.faces.specs.Histories.{History}
use Rattle.rail.specs.declared.inbox_messages.Envelope.{Envelope}
use Rattle.rail.specs.declared.faults.RailFault.{RailFault}
use Rattle.rail.specs.declared.faults.RailFault.TheVariants.{Memory, Closed, LinkDown, NoReader}
use Rattle.rail.specs.declared.workers.Turn.{Turn}
use Rattle.rail.specs.declared.workers.Turn.TheVariants.{Went, Stopped, End}
use Rattle.rail.specs.Links.{LinksState}
use Rattle.rail.specs.Workers.{Did, IsTurn, MayBeTurn, WorkerState}

module _ {C : Type 0} (w w' : WorkerState) (l l' : LinksState C) where
  -- once it took a message
  message_server : (m : Envelope) (result : Result Turn RailFault) → Did w w' l l' m result
      → w'.published.instance ≡ w.published.instance
  message_server m (Ok Went) did = ap (λ (c : History). c.instance) did.2.published
  message_server m (Ok Stopped) did = ap (λ (c : History). c.instance) did.1.stopped.published
  message_server m (Ok End) did = ap (λ (c : History). c.instance) did.1.published
  message_server m (Err Memory) did = elim did.2.cut [
    | inl same ↦ ap (λ (c : History). c.instance) same.0
    | inr more ↦ ap (λ (c : History). c.instance) more.0
  ]
  message_server m (Err Closed) did = absurd did
  message_server m (Err LinkDown) did = absurd did
  message_server m (Err NoReader) did = absurd did

  -- in a turn
  pub turn_server : (result : Result Turn RailFault) → IsTurn w w' l l' result
      → w'.published.instance ≡ w.published.instance
  turn_server (Ok turn) took = message_server took.message (Ok turn) took.did
  turn_server (Err Memory) took = message_server took.message (Err Memory) took.did
  turn_server (Err Closed) closed = ap (λ (c : History). c.instance) closed.stopped.stopped.published
  turn_server (Err LinkDown) took = absurd took
  turn_server (Err NoReader) took = absurd took

  -- in a turn that may have found no message
  pub any_server : (result : Result (Option Turn) RailFault) → MayBeTurn w w' l l' result
      → w'.published.instance ≡ w.published.instance
  any_server (Ok None) idle = ap (λ (v : WorkerState). v.published.instance) idle.0
  any_server (Ok (Some turn)) took = turn_server (Ok turn) took
  any_server (Err fault) took = turn_server (Err fault) took
