use Rattle.node.proofs.RunLaws.{lawful-after, id-after, count-after, others-after, fit-after}
use Rattle.node.proofs.laws.runs.runs_are_lawful.Goals as goal

-- after any inputs that may be given a lawful server is lawful
pub returns-clause-lawful : goal.returns-clause-lawful
returns-clause-lawful c s inputs h valid = lawful-after s inputs valid h

-- after any inputs a server has the same id
pub returns-clause-id : goal.returns-clause-id
returns-clause-id c s inputs h valid = id-after s inputs valid h

-- after any inputs a server is of a chain of as many servers
pub returns-clause-count : goal.returns-clause-count
returns-clause-count c s inputs h valid = count-after s inputs valid h

-- each message of a run goes to another server of the chain
pub returns-clause-addressed : goal.returns-clause-addressed
returns-clause-addressed c s inputs h valid = others-after s inputs valid h

-- each message of a run may be sent, and handed in where it goes
pub returns-clause-fit : goal.returns-clause-fit
returns-clause-fit c s inputs h valid = fit-after s inputs valid h
