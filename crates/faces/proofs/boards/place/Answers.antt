use Rattle.faces.proofs.BoardRuleLaws.{admits, forks, merges}
use Rattle.faces.proofs.boards.place.Goals as goal

pub reader-requires : goal.reader-requires
reader-requires c = admits

pub tell-requires : goal.tell-requires
tell-requires c = forks _ _ c.requires.knows

pub learn-requires-clause-rule : goal.learn-requires-clause-rule
learn-requires-clause-rule c = merges _ _ _ _
