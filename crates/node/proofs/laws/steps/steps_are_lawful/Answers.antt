use Rattle.node.proofs.RuleLaws.{lawful-opening, lawful-step}
use Rattle.node.proofs.Addresses.{others_taken_in}
use Rattle.node.proofs.Fitness.{fit_taken_in}
use Rattle.node.proofs.FaceChanges.{face-changed}
use Rattle.node.proofs.laws.steps.steps_are_lawful.Goals as goal

-- a server of a chain of at most 16 is lawful before any input
pub returns-clause-opening : goal.returns-clause-opening
returns-clause-opening c = lawful-opening

-- a step keeps a server lawful
pub returns-clause-lawful : goal.returns-clause-lawful
returns-clause-lawful c s input h fit valid = lawful-step s input fit valid h

-- the messages of a step go to other servers of the chain
pub returns-clause-addressed : goal.returns-clause-addressed
returns-clause-addressed c s input h = others_taken_in s input h.sound h.settled

-- the messages of a step may be sent, and handed in where they go
pub returns-clause-fit : goal.returns-clause-fit
returns-clause-fit c s input h fit valid = fit_taken_in s input fit valid h

-- the step's change of the face before it gives the face after it
pub returns-clause-face : goal.returns-clause-face
returns-clause-face c s input h fit valid = face-changed s input fit valid h
