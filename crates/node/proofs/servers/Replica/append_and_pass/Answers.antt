use Rattle.node.proofs.SoundLaws.{sound-appended}
use Rattle.node.proofs.servers.Replica.append_and_pass.Goals as goal

-- a server is sound with the entry appended, as the rise needs
pub rise-requires-clause-chain : goal.rise-requires-clause-chain
rise-requires-clause-chain c =
    rw c.in_ok-append.ensures
    (sound-appended c.args.self.now c.args.entry c.number-number.ensures.entry c.requires.next c.requires.chain)
