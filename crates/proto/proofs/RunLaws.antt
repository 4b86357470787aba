-- Along a run the turns that were given and those that are to come are those of the whole stream, and so is its end.
use Rattle.std.proofs.Common.{◌≡◌, ℕ, List, [], ◌∷◌, ◌++◌, Option, None, Some, refl, sym, ap, ◌∙◌, append_assoc}
use Rattle.std.proofs.Common.{append-nil}
use Rattle.proto.specs.Turns.{Turn}
use Rattle.proto.specs.Sessions.{fed, next_of}
use Rattle.proto.specs.Streams.{turns, ends, to_come, will_close, with_turn}
use Rattle.proto.specs.Runs.{SessionCall, Feed, Next, Answer, Refuse, Take, Run, IsRun, Opens, Acts, acted, turn_given}
use Rattle.proto.proofs.StreamLaws.{next_gives_first, fed_none, fed_twice}
use Rattle.proto.proofs.EndLaws.{keeps_end}
use Rattle.proto.proofs.SameLaws.{answer_keeps_turns, refusal_keeps_turns, taken_keeps_turns}

-- The run tells its whole stream, whatever bytes may follow: its turns, and whether they come to an end.
record TellsAll (run : Run) : Type 0 where
  turns : (more : List ℕ) → run.given ++ to_come (fed run.held more) ≡ turns (run.stream ++ more)
  end : (more : List ℕ) → will_close (fed run.held more) ≡ ends (run.stream ++ more)

given_first : (given : List Turn) (turn : Option Turn) (later : List Turn)
    → (given ++ turn_given turn) ++ later ≡ given ++ with_turn turn later
given_first given None later = ap (λ ts. ts ++ later) (append-nil given)
given_first given (Some turn) later = append_assoc given (turn ∷ []) later

acted_tells : (run : Run) (session_call : SessionCall) → TellsAll run → TellsAll (acted run session_call)
acted_tells run (Feed piece) all = record {
  turns = λ more. ap (λ h. run.given ++ to_come h) (fed_twice run.held piece more)
      ∙ (all.turns (piece ++ more) ∙ ap turns (sym (append_assoc run.stream piece more)));
  end = λ more. ap will_close (fed_twice run.held piece more)
      ∙ (all.end (piece ++ more) ∙ ap ends (sym (append_assoc run.stream piece more)));
}
acted_tells run Next all = record {
  turns = λ more. given_first run.given (next_of run.held).0 (to_come (fed (next_of run.held).1 more))
      ∙ (ap (λ ts. run.given ++ ts) (sym ((next_gives_first run.held).first more)) ∙ all.turns more);
  end = λ more. sym ((keeps_end run.held).kept more) ∙ all.end more;
}
acted_tells run (Answer reply) all = record {
  turns = λ more. ap (λ ts. run.given ++ ts) ((answer_keeps_turns run.held reply).turns more) ∙ all.turns more;
  end = λ more. (answer_keeps_turns run.held reply).end more ∙ all.end more;
}
acted_tells run Refuse all = record {
  turns = λ more. ap (λ ts. run.given ++ ts) ((refusal_keeps_turns run.held).turns more) ∙ all.turns more;
  end = λ more. (refusal_keeps_turns run.held).end more ∙ all.end more;
}
acted_tells run (Take n) all = record {
  turns = λ more. ap (λ ts. run.given ++ ts) ((taken_keeps_turns run.held n).turns more) ∙ all.turns more;
  end = λ more. (taken_keeps_turns run.held n).end more ∙ all.end more;
}

tells_all : (run : Run) → IsRun run → TellsAll run
tells_all run Opens = record { turns = λ more. refl; end = λ more. refl }
tells_all run (Acts earlier session_call is allowed) = acted_tells earlier session_call (tells_all earlier is)

-- the turns that were given and those that are still to come are those of all the bytes
pub any_cutting : (run : Run) → IsRun run → run.given ++ to_come run.held ≡ turns run.stream
any_cutting run is =
    ap (λ h. run.given ++ to_come h) (sym (fed_none run.held))
    ∙ ((tells_all run is).turns [] ∙ ap turns (append-nil run.stream))

-- if none is to come, all were given
pub gives_all : (run : Run) → IsRun run → (next_of run.held).0 ≡ None → run.given ≡ turns run.stream
gives_all run is none =
    sym (append-nil run.given)
    ∙ (ap (λ ts. run.given ++ ts) (sym ((next_gives_first run.held).none none)) ∙ any_cutting run is)

-- if no turn is to come, the session is closed exactly if its stream has come to its last request
pub closes_at_last : (run : Run)
    → IsRun run
    → (next_of run.held).0 ≡ None
    → (next_of run.held).1.closed ≡ ends run.stream
closes_at_last run is none =
    (keeps_end run.held).come none
    ∙ (ap will_close (sym (fed_none run.held)) ∙ ((tells_all run is).end [] ∙ ap ends (append-nil run.stream)))
