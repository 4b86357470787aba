-- A step more of what goes over the servers in turn.
use Rattle.std.proofs.Common.{◌≡◌, ℕ, suc, ◌+◌, refl, ap, add-one, ◌∙◌, Option, Some, None, if◌then◌else◌}
use Rattle.chain_status.specs.Answers.{report_at}
use Rattle.chain_status.specs.Roles.{is_in, last_below}
use Rattle.chain_status.specs.Looks.{Look}
use Rattle.chain_status.specs.Faults.{with_found}
use Rattle.chain_status.specs.Checks.{first_of, version_below, server_checks, faults_below}

last_next : (gone n : ℕ) → last_below gone (suc n) ≡ (if is_in gone n then last_below gone n else Some n)
unfolding last_below
last_next gone n = refl

pub last_step : (gone n : ℕ) → last_below gone (n + 1) ≡ (if is_in gone n then last_below gone n else Some n)
last_step gone n = ap (last_below gone) (add-one n) ∙ last_next gone n

version_next : (look : Look) (n : ℕ)
    → version_below look (suc n) ≡ first_of (version_below look n) (report_at look.answers n)
unfolding version_below
version_next look n = refl

pub version_step : (look : Look) (n : ℕ)
    → version_below look (n + 1) ≡ first_of (version_below look n) (report_at look.answers n)
version_step look n = ap (version_below look) (add-one n) ∙ version_next look n

faults_next : (earlier look : Look) (n : ℕ)
    → faults_below earlier look (suc n) ≡ with_found (faults_below earlier look n) (server_checks earlier look n)
unfolding faults_below
faults_next earlier look n = refl

pub faults_step : (earlier look : Look) (n : ℕ)
    → faults_below earlier look (n + 1) ≡ with_found (faults_below earlier look n) (server_checks earlier look n)
faults_step earlier look n = ap (faults_below earlier look) (add-one n) ∙ faults_next earlier look n
