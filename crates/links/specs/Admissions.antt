-- What contracts see of a server's admission.
use Rattle.std.specs.Prelude.{◌≡◌, ℕ}
use Rattle.leases.specs.declared.orders.Answer.{Answer}
use Rattle.leases.specs.declared.orders.Order.{Order}
use Rattle.leases.specs.Holding.{LeaseState, answer_to, heeded}
use Rattle.links.specs.declared.greeter_inlets.GreeterInlets.{GreeterInlets}
use Rattle.links.specs.Orders.{gone_after}

-- Who may still greet, which servers have failed, server i being the bit of value 2^i, and the server's lease.
pub record PeerAdmissionState : Type 0 where
  pub greeter_inlets : GreeterInlets
  pub gone : ℕ
  pub lease : LeaseState

-- An admission heard an order, and answered it so: by what the clock showed once it was known who is gone.
pub record HasHeard (before : PeerAdmissionState) (order : Order) (told : Answer) (after : PeerAdmissionState)
    : Type 0 where
  pub shown : ℕ
  pub answer : told ≡ answer_to before.lease order before.gone shown
  pub lease : after.lease ≡ heeded before.lease order before.gone shown
  pub gone : after.gone ≡ gone_after before.gone told
  pub greeter_inlets : after.greeter_inlets ≡ before.greeter_inlets
