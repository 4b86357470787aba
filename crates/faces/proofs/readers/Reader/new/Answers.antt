use Rattle.std.proofs.Common.{ap}
use Rattle.faces.specs.declared.boards.BoardKnowledge.{BoardKnowledge}
use Rattle.faces.proofs.readers.Reader.new.Goals as goal

pub invariant_of-result : goal.invariant_of-result
invariant_of-result c =
    (ap (λ (v : BoardKnowledge). v.knows) c.requires.server, ap (λ (v : BoardKnowledge). v.instance) c.requires.server)

pub returns : goal.returns
returns c = ap (λ (v : BoardKnowledge). record { seen = c.args.log_position; looks = v.histories }) c.requires.server
