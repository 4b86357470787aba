-- A call at a seat that answers calls one after another.
use Rattle.std.proofs.Common.{◌≡◌, ◌∙◌, false, Result, Ok, Err, IfOk, inr, ap, sym, subst}
use Rattle.table.specs.declared.operations.Call.{Call}
use Rattle.table.specs.declared.operations.Reply.{Reply}
use Rattle.node.specs.declared.messages.Output.TheVariants.{Reply as Replied}
use Rattle.faces.specs.Histories.{History, IsLater}
use Rattle.faces.specs.Outputs.{PutsOut}
use Rattle.rail.specs.CallSenders.{CallSenderState, with_call}
use Rattle.rail.specs.Seats.{SeatState, with_reply, with_sent}
use Rattle.seats.specs.Replies.{HasAllReplies}
use Rattle.seats.specs.SeatCallers.{HasReplied, IsExchanged, SeatCalling}
use Rattle.seats.proofs.Seated.{submitted_then}

-- a call was sent, its reply was taken, and what came with it was learned
pub exchanged_now : (before after told : History) (seat mid last : SeatState) (sender next : CallSenderState)
    (call : Call) (reply : Reply) → HasAllReplies seat
    → seat.instance ≡ sender.instance
    → next ≡ with_call sender seat.port call
    → mid ≡ with_sent seat sender call
    → last ≡ with_reply mid reply told
    → IsLater before after
    → IsLater told after
    → PutsOut told (Replied mid.port reply)
    → IsExchanged before after seat last sender next call reply
exchanged_now before after told seat mid last sender next call reply all server sent e f later learned put =
    record {
      submitted = record {
        replied = all;
        server = sym server;
        told = told;
        later = later;
        learned = learned;
        put_out = subst (λ (m : SeatState). PutsOut told (Replied m.port reply)) e put;
        exchange = f ∙ ap (λ (m : SeatState). with_reply m reply told) e;
      };
      sent = sent;
    }

-- the server has replied, after a look
exchanged_then : (before looked after : History) (seat last : SeatState) (sender next : CallSenderState) (call : Call)
    (reply : Reply) → IsLater before looked
    → IsExchanged looked after seat last sender next call reply
    → IsExchanged before after seat last sender next call reply
exchanged_then before looked after seat last sender next call reply later e =
    record {
      submitted = submitted_then before looked after seat last (record { sender = sender; call = call }) reply later
          e.submitted;
      sent = e.sent;
    }

-- what the server has replied after a look is a reply
pub asked_then : {E : Type 0} (result : Result Reply E) (c looked d : SeatCalling) (call : Call)
    → looked.seat ≡ c.seat
    → looked.sender ≡ c.sender
    → looked.lost ≡ c.lost
    → IsLater c.seen looked.seen
    → IfOk result (λ reply. (looked.lost ≡ false)
    × IsExchanged looked.seen d.seen looked.seat d.seat looked.sender d.sender call reply)
    → IfOk result (λ reply. HasReplied c call reply d)
asked_then (Ok reply) c looked d call seat sender lost later e =
    inr (
      sym lost ∙ e.0,
      exchanged_then c.seen looked.seen d.seen c.seat d.seat c.sender d.sender call reply later
          (subst (λ s. IsExchanged looked.seen d.seen s d.seat c.sender d.sender call reply) seat
          (subst (λ s. IsExchanged looked.seen d.seen looked.seat d.seat s d.sender call reply) sender e.1)),
    )
asked_then (Err fault) c looked d call seat sender lost later e = tt
