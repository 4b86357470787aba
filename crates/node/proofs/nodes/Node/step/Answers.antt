use Rattle.node.proofs.nodes.Node.step.Goals as goal

-- a node that goes on has a lawful server after the step
pub invariant_of-self-2 : goal.invariant_of-self-2
invariant_of-self-2 c = λ goes_on. c.in_ok-outputs.ensures.lawful
