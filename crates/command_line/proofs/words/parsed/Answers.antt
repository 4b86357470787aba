use Rattle.std.proofs.Common.{map}
use Rattle.command_line.proofs.Parsers.{parse_found, parse_refused, parse_served, parse_taken}
use Rattle.command_line.proofs.words.parsed.Goals as goal

pub returns-clause-taken : goal.returns-clause-taken
returns-clause-taken c =
    parse_taken _ (map (λ w. w.now) c.args.words.now) c.in_ok-parser.ensures _ c.try_get_matches_from.ensures.kinds

pub returns-clause-found : goal.returns-clause-found
returns-clause-found c =
    parse_found _ (map (λ w. w.now) c.args.words.now) c.in_ok-parser.ensures _ c.try_get_matches_from.ensures.matches

pub returns-clause-served : goal.returns-clause-served
returns-clause-served c =
    parse_served _ (map (λ w. w.now) c.args.words.now) c.in_ok-parser.ensures _ c.try_get_matches_from.ensures.passes

pub returns-clause-refused : goal.returns-clause-refused
returns-clause-refused c =
    parse_refused _ (map (λ w. w.now) c.args.words.now) c.in_ok-parser.ensures _ c.try_get_matches_from.ensures.kinds
