-- Who is accepted, and who isn't, at an admission that no clause names.
use Rattle.std.proofs.Common.{◌≡◌, ℕ, Some, None, Result, Ok, Err, OnOk, IfOk, IfErr}
use Rattle.peers.specs.declared.identities.Identity.{Identity}
use Rattle.wire.specs.declared.greetings.Acceptance.{Acceptance}
use Rattle.wire.specs.declared.greetings.Introduction.{Introduction}
use Rattle.wire.specs.declared.greetings.Reason.{Reason}
use Rattle.links.specs.declared.speakers.Who.{Who}
use Rattle.links.specs.Admissions.{PeerAdmissionState}
use Rattle.links.specs.Greetings.{HasLink, IsAdmitted, IsRefused, refusal}

-- who is accepted at an admission is so at some admission
pub admitted_there : (r : Result (Who × Acceptance) Reason) (host : Identity) (admission : PeerAdmissionState) (id : ℕ)
    (opener : Introduction)
    → OnOk r (refusal host admission id opener ≡ None)
    → IfOk r (λ accepted. HasLink admission id opener.start accepted.0)
    → IfOk r (λ accepted. accepted.1.gone ≡ admission.gone)
    → IfOk r (λ accepted. IsAdmitted host id opener accepted.0 accepted.1)
admitted_there (Ok accepted) host admission id opener is_accepted link told =
    record { admission = admission; accepted = is_accepted; link = link; told = told }
admitted_there (Err reason) host admission id opener is_accepted link told = tt

-- the same of who isn't
pub refused_there : (r : Result (Who × Acceptance) Reason) (host : Identity) (admission : PeerAdmissionState) (id : ℕ)
    (opener : Introduction)
    → IfErr r (λ reason. refusal host admission id opener ≡ Some reason)
    → IfErr r (λ reason. IsRefused host id opener reason)
refused_there (Ok accepted) host admission id opener refused = tt
refused_there (Err reason) host admission id opener refused = record { admission = admission; refused = refused }
