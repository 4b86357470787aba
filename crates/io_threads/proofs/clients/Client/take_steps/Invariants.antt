use Rattle.std.proofs.Common.{◌≡◌, ◌≤◌, false}
use Rattle.faces.specs.Histories.{IsLater}
use Rattle.seats.specs.ClientConnections.{HasSentInTurn}
use Rattle.io_threads.specs.Clients.{HasGoneQuietly, HasPassed}
use Rattle.io_threads.proofs.clients.Client.take_steps.Given as goal

-- the reader knows all that the client was told of, and has seen no less; more may have passed, and nothing was sent
abbrev pub invariant-loop : goal.invariant-loop
invariant-loop g l =
    record {
      known : IsLater l.self.client_connection.seen l.pool.seen;
      later : IsLater l.fn.pool.seen l.pool.seen;
      whole : l.self.refused ≡ false;
      first : l.self.client_connection.first ≡ l.fn.self.client_connection.first;
      unheard : l.self.client_connection.heard ≡ l.fn.self.client_connection.heard;
      given : HasPassed l.fn.self.given l.self.given;
      taken : HasPassed l.fn.self.taken l.self.taken;
      gone : l.self.gone ≡ l.fn.self.gone;
      faults : l.fn.self.faults ≤ l.self.faults;
      quiet : HasGoneQuietly l.fn.self.client_connection l.self.client_connection l.fn.pool l.pool;
      sent : HasSentInTurn l.fn.self.client_connection l.self.client_connection l.fn.pool l.pool;
    }
