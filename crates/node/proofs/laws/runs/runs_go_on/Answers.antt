use Rattle.node.proofs.RunLaws.{after-append, put_out-append, inputs-append}
use Rattle.node.proofs.laws.runs.runs_go_on.Goals as goal

-- the server after two lists of inputs is that after the second, from that after the first
pub returns-clause-state : goal.returns-clause-state
returns-clause-state c = after-append

-- what is put out for two lists is that for the first, and then that for the second
pub returns-clause-outputs : goal.returns-clause-outputs
returns-clause-outputs c = put_out-append

-- if the inputs of two lists may be given, so may all of them together
pub returns-clause-inputs : goal.returns-clause-inputs
returns-clause-inputs c = inputs-append
