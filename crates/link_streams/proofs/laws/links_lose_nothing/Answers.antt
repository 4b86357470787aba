use Rattle.link_streams.proofs.Sound.{first_ones, all_handed, all_healed, no_more_confirmed, goes_on, is_confirmed}
use Rattle.link_streams.proofs.laws.links_lose_nothing.Goals as goal

pub returns-clause-order : goal.returns-clause-order
returns-clause-order c start events = first_ones start events

pub returns-clause-all : goal.returns-clause-all
returns-clause-all c start events connection stands caught = all_handed start events connection stands caught

pub returns-clause-heals : goal.returns-clause-heals
returns-clause-heals c start events n enough = all_healed start events n enough

pub returns-clause-kept : goal.returns-clause-kept
returns-clause-kept c start events = no_more_confirmed start events

pub returns-clause-resumes : goal.returns-clause-resumes
returns-clause-resumes c start events = goes_on start events

pub returns-clause-confirms : goal.returns-clause-confirms
returns-clause-confirms c start events connection count later stands first =
    is_confirmed start events connection count later stands first
