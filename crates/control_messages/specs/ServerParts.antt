-- A server's report in parts, as it is written.
use Rattle.std.specs.Prelude.{ℕ, List, [], ◌∷◌, ◌++◌}
use Rattle.chain_status.specs.declared.reports.ServerReport.{ServerReport}
use Rattle.control_messages.specs.Spellings.{calls_numbers, inbox_numbers, lease_numbers, optional, refused_numbers}

-- the kind, and its members up to its memory
abbrev pub head_numbers : ServerReport → List ℕ
head_numbers r =
    9 ∷ r.id ∷ r.servers ∷ r.version.major ∷ r.version.minor ∷ r.version.patch ∷ r.start ∷ r.uptime ∷ r.view
    ∷ r.stalled ∷ r.last ∷ r.committed ∷ []

-- its members from its calls on
abbrev pub work_numbers : ServerReport → List ℕ
work_numbers r =
    calls_numbers r.calls
    ++ (r.questions ∷ (inbox_numbers r.inbox ++ (optional lease_numbers r.lease ++ refused_numbers r.refused)))
