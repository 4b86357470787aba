use Rattle.std.proofs.Common.{IsSome, Option, refl, subst}
use Rattle.io_threads.specs.Clients.{ClientState}
use Rattle.io_threads.proofs.Knowing.{known_written}
use Rattle.io_threads.proofs.known_clients.receive_replies.Goals as goal

pub returns-in-Some : goal.returns-in-Some
returns-in-Some g c =
    record {
      known = known_written c.args.pool.now.seen c.receive_replies.new.pool.seen c.args.clients.now c.args.key _
          c.receive_replies.ensures.later c.requires.known
          (subst (λ (o : Option ClientState). IsSome o) c.in-Some.ensures.value refl) c.receive_replies.ensures.known;
    }
