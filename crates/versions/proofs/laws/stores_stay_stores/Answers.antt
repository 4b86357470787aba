use Rattle.versions.proofs.StoreLaws.{store-pushed, store-acked, store-dropped, last-dropped}
use Rattle.versions.proofs.laws.stores_stay_stores.Goals as goal

-- a store with its next entry is one
pub returns-clause-pushed : goal.returns-clause-pushed
returns-clause-pushed c = store-pushed

-- a store whose commit number rises up to the last one is one
pub returns-clause-acked : goal.returns-clause-acked
returns-clause-acked c = store-acked

-- a store whose floor rises up to the commit number is one
pub returns-clause-dropped : goal.returns-clause-dropped
returns-clause-dropped c = store-dropped

-- a floor that rises leaves the last number as it is
pub returns-clause-last : goal.returns-clause-last
returns-clause-last c = last-dropped
