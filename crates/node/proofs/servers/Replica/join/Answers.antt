use Rattle.std.proofs.Common.{arith, ap, ◌∙◌}
use Rattle.versions.specs.Stores.{last_number}
use Rattle.node.specs.Servers.{ServerState}
use Rattle.node.proofs.SoundLaws.{sound-widened, store-widened}
use Rattle.node.proofs.servers.Replica.join.Goals as goal

-- a server is sound with its view widened
pub rejoin-requires-clause-chain : goal.rejoin-requires-clause-chain
rejoin-requires-clause-chain c =
    rw c.widen.ensures (sound-widened c.args.self.now c.args.v c.requires.below c.requires.outside c.requires.chain)

-- the last number before the join is from the floor to the last number
pub rejoin-requires-clause-last_before : goal.rejoin-requires-clause-last_before
rejoin-requires-clause-last_before c =
    let same_store = ap (λ (s : ServerState). s.store) c.widen.ensures ∙ store-widened c.args.self.now c.args.v in
    let same_last = c.last-last_before.ensures.last ∙ ap (λ (s : ServerState). last_number s.store) c.self.view_is in
    rw (same_store, same_last)
    (omega (arith, c.requires.chain.store.floor_acked, c.requires.chain.store.acked_held), omega arith)
