-- What is known of calls is known still, later on.
use Rattle.std.proofs.Common.{◌≡◌, ℕ, ◌-◌, List, take, inl, inr}
use Rattle.table.specs.declared.operations.Call.{Call}
use Rattle.table.specs.declared.operations.Reply.{Reply}
use Rattle.versions.specs.Entries.{LogEntry}
use Rattle.node.specs.declared.messages.Body.{Body}
use Rattle.node.specs.declared.messages.Body.TheVariants.{Op, Forward, Ack, Query, Answer}
use Rattle.world.specs.Calls.{CallId}
use Rattle.world.proofs.trace.Traces.{Traced}
use Rattle.world.proofs.trace.Layers.{Later, IsNamed, IsIssued, IsDecided, IsAnswer, Asks}

-- an entry of a call is that call's later on
pub named_later : (t u : Traced) (e : LogEntry) (x : CallId) → Later t u → IsNamed t e x → IsNamed u e x
named_later t u e x l h = (h.0, l.issued e.origin (e.id - 1) x h.1)

-- an issued update is an issued one later on
pub issued_later : (t u : Traced) (origin id : ℕ) (call : Call)
    → Later t u
    → IsIssued t origin id call
    → IsIssued u origin id call
issued_later t u origin id call l h = record {
  name = h.name;
  low = h.low;
  issued = l.issued origin (id - 1) h.name h.issued;
  begun = l.calls h.name call h.begun;
  update = h.update;
}

-- of another log with the same entries before this one
pub decided_as : (t : Traced) (es fs : List LogEntry) (k : ℕ) (e : LogEntry)
    → take k fs ≡ take k es
    → IsDecided t es k e
    → IsDecided t fs k e
decided_as t es fs k e same h =
    record { call = h.call; issued = h.issued; target = h.target; decided = rw same h.decided }

-- an entry that is what its call decides is what that decides later on
pub decided_later : (t u : Traced) (es : List LogEntry) (k : ℕ) (e : LogEntry)
    → Later t u
    → IsDecided t es k e
    → IsDecided u es k e
decided_later t u es k e l h =
    record {
      call = h.call;
      issued = issued_later t u e.origin e.id h.call l h.issued;
      target = h.target;
      decided = h.decided;
    }

-- what a call was answered is its answer later on
pub answer_later : (t u : Traced) (x : CallId) (reply : Reply) → Later t u → IsAnswer t x reply → IsAnswer u x reply
answer_later t u x reply l (inl h) = inl (h.0, h.1, l.committed h.0 h.1 h.2, named_later t u h.1 x l h.3, h.4)
answer_later t u x reply l (inr h) = inr (h.0, h.1, l.reads h.0 h.1 h.2, h.3, h.4)

-- what a message asks for was issued, also later on
pub asks_later : (t u : Traced) (i : ℕ) (b : Body) → Later t u → Asks t i b → Asks u i b
asks_later t u i (Op id call) l h = issued_later t u i id call l h
asks_later t u i (Forward e) l h = tt
asks_later t u i (Ack n) l h = tt
asks_later t u i (Query ask key) l h = tt
asks_later t u i (Answer ask n) l h = tt
