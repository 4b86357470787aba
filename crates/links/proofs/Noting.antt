-- Which notices are taken.
use Rattle.std.proofs.Common.{◌≡◌, ◌∙◌, sym, ℕ, ◌<◌, Bool, true, false, Some, None, subst}
use Rattle.std.specs.Prelude.{nat_eq, if◌then◌else◌}
use Rattle.leases.specs.declared.orders.Order.{Order}
use Rattle.leases.specs.declared.orders.Order.TheVariants.{Reign, Beat, Silent, Gone}
use Rattle.leases.specs.declared.orders.Report.{Report}
use Rattle.leases.specs.declared.orders.Answer.{Answer}
use Rattle.leases.specs.declared.orders.Answer.TheVariants.{Notes}
use Rattle.leases.specs.Holding.{LeaseState, answer_to, answer_with, heeded, report_of}
use Rattle.links.specs.Admissions.{PeerAdmissionState, HasHeard}
use Rattle.links.specs.Orders.{IsAnswer, NamesServer}

same_id : (j id : ℕ) → Notes j ≡ Notes id → j ≡ id
same_id j id e = cc

-- what a notice is answered, by whether it is of the server's epoch
named_by : (own : Bool) (j id : ℕ) (report : Report)
    → j < 16
    → answer_with (if own then Some j else None) report ≡ Notes id
    → id < 16
named_by true j id report h e = subst (λ k. k < 16) (same_id j id e) h
named_by false j id report h e = absurd cc

-- whom an order's notice names, a set can have
pub noted_fits_set : (lease : LeaseState) (order : Order) (gone now id : ℕ)
    → NamesServer order
    → answer_to lease order gone now ≡ Notes id
    → id < 16
noted_fits_set lease (Reign epoch) gone now id h e = absurd cc
noted_fits_set lease (Beat epoch stamp) gone now id h e = absurd cc
noted_fits_set lease (Silent epoch j) gone now id h e =
    named_by (nat_eq epoch lease.epoch) j id (report_of (heeded lease (Silent epoch j) gone now) gone now) h e
noted_fits_set lease (Gone j) gone now id h e = subst (λ k. k < 16) (same_id j id e) h

silence_named : (own : Bool) (id j : ℕ) (report : Report)
    → answer_with (if own then Some id else None) report ≡ Notes j
    → id ≡ j
silence_named true id j report e = same_id id j e
silence_named false id j report e = absurd cc

-- what a notice of silence is answered names the server that the notice names, if it is taken
pub noted_is_named : (epoch id j : ℕ) (answer : Answer)
    → IsAnswer (Silent epoch id) answer
    → answer ≡ Notes j
    → id ≡ j
noted_is_named epoch id j answer a e =
    silence_named (nat_eq epoch a.lease.epoch) id j
    (report_of (heeded a.lease (Silent epoch id) a.gone a.now) a.gone a.now) (sym a.same ∙ e)

-- what an admission has heard it has answered
pub heard_is_answered : (before after : PeerAdmissionState) (order : Order) (answer : Answer)
    → HasHeard before order answer after
    → IsAnswer order answer
heard_is_answered before after order answer heard = record {
  lease = before.lease;
  gone = before.gone;
  now = heard.shown;
  same = heard.answer;
}
