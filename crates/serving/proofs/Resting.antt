-- A connection rests: all that was read is answered.
use Rattle.std.proofs.Common.{◌≡◌, ◌∙◌, ℕ, Bool, true, false, List, ◌++◌, take, drop, ap}
use Rattle.std.proofs.Common.{append_assoc, take-append-drop}
use Rattle.proto.specs.Turns.{Outcome}
use Rattle.proto.specs.Sessions.{Held}
use Rattle.proto.specs.Runs.{taken_from}
use Rattle.serving.specs.Connections.{IsResting}

-- of none is it known
pub resting_none : (read : List ℕ) (outcomes : List Outcome) (written : List ℕ) (held : Held)
    (ahead : List Bool)
    → IsResting false read outcomes written held ahead
resting_none read outcomes written held ahead = λ e. absurd (let no : false ≡ true = e in cc)

-- it goes on to rest once output was taken away
pub resting_written : (rests : Bool) (read : List ℕ) (outcomes : List Outcome) (written : List ℕ) (held : Held)
    (ahead : List Bool) (n : ℕ)
    → IsResting rests read outcomes written held ahead
    → IsResting rests read outcomes (written ++ take n held.out) (taken_from held n) ahead
resting_written rests read outcomes written held ahead n r = λ e ended failed.
    let a = r e ended failed in
    record {
      waiting = a.waiting;
      calls = a.calls;
      output = append_assoc written (take n held.out) (drop n held.out)
          ∙ (ap (λ out. written ++ out) (take-append-drop n held.out) ∙ a.output);
      closed = a.closed;
      ends = a.ends;
    }
