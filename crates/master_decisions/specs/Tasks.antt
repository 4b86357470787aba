-- What a master wants of its servers (this project's rule).
use Rattle.std.specs.Prelude.{ℕ, Bool, not, ◌&&◌, List, [], ◌∷◌, if◌then◌else◌}
use Rattle.leases.specs.declared.orders.Order.{Order}
use Rattle.master_decisions.specs.declared.decisions.Notice.{Notice}
use Rattle.master_decisions.specs.declared.tasks.Request.{Request}
use Rattle.master_decisions.specs.declared.tasks.Request.TheVariants as requests
use Rattle.master_decisions.specs.declared.tasks.TheConstants.{PATIENCE, OWN_PATIENCE}

-- what is wanted of the server that a notice names: if a line of the input asks for it, that it notes it within a second
abbrev pub own_request : Notice → ℕ → List (ℕ × Request)
own_request notice j = if notice.is_typed then (j, requests.Tell notice.order OWN_PATIENCE) ∷ [] else []

-- what is wanted of the receiver of a notice: that it notes it within five seconds
abbrev pub telling : Order → (ℕ × ℕ) → (ℕ × Request)
telling order given = (given.0, requests.Tell order PATIENCE)

-- before a line is done, the server that it names is asked whether it answers
abbrev pub looks_first : Bool → Bool → Bool
looks_first watches is_gone = not watches && not is_gone
