-- What a response tells of a server, and of who speaks.
use Rattle.std.proofs.Common.{◌≡◌, ap, subst, Result, Ok, Err, OnOk}
use Rattle.leases.specs.declared.orders.Order.{Order}
use Rattle.leases.specs.declared.orders.Report.{Report}
use Rattle.leases.specs.declared.orders.Answer.{Answer}
use Rattle.leases.specs.declared.orders.Answer.TheVariants.{Tells}
use Rattle.wire.specs.declared.frames.Frame.TheVariants as frames
use Rattle.wire.specs.declared.watching.Alive.{Alive}
use Rattle.wire.specs.Spellings.{spelling}
use Rattle.links.specs.Orders.{IsAnswer, TellsHow, alive_of}

-- how a server is, as an answer to an order tells it
pub tells_how : (order : Order) (answer : Answer) (report : Report) (alive : Alive)
    → IsAnswer order answer
    → answer ≡ Tells report
    → alive ≡ alive_of report
    → TellsHow order (spelling (frames.Alive alive))
tells_how order answer report alive given same is = record {
  report = report;
  told = subst (λ a. IsAnswer order a) same given;
  spelled = ap (λ a. spelling (frames.Alive a)) is;
}

-- of a frame that names nobody there is nothing to say
pub any_frame : {T E : Type 0} (r : Result T E) → OnOk r (Unit {0})
any_frame (Ok x) = tt
any_frame (Err e) = tt
