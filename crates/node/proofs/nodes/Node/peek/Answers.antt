use Rattle.std.proofs.Common.{sym, ◌∙◌}
use Rattle.node.proofs.FaceLaws.{look-face_of}
use Rattle.node.proofs.nodes.Node.peek.Goals as goal

-- while the node isn't stopped, a look at it is the look at its server's face
pub returns-clause-face : goal.returns-clause-face
returns-clause-face c = λ goes_on. c.look.ensures.newest
    ∙ sym (look-face_of c.args.self.now.server c.args.key.now (c.look.ensures.lawful goes_on).sound)
