-- What a server says of itself.
use Rattle.std.proofs.Common.{ℕ, ◌^◌, List, Option, Some, None, refl}
use Rattle.chain_status.specs.declared.reports.Calls.{Calls}
use Rattle.chain_status.specs.declared.reports.Inbox.{Inbox}
use Rattle.chain_status.specs.declared.reports.LeaseState.{LeaseState}
use Rattle.chain_status.specs.declared.reports.Memory.{Memory}
use Rattle.chain_status.specs.declared.reports.Refused.{Refused}
use Rattle.chain_status.specs.declared.reports.ServerReport.{ServerReport}
use Rattle.chain_status.specs.declared.reports.Usage.{Usage}
use Rattle.chain_status.specs.declared.reports.Version.{Version}
use Rattle.control_messages.specs.Spellings.{HasServerWidths, HasVersionWidths, alone, calls_numbers, inbox_numbers}
use Rattle.control_messages.specs.Spellings.{lease_numbers, memory_numbers, optional, refused_numbers, server_numbers}
use Rattle.control_messages.specs.Spellings.{usage_numbers, version_numbers}
use Rattle.control_messages.specs.Readings.{Read, number_at, calls_at, inbox_at, lease_at, limit_at, maybe_lease_at}
use Rattle.control_messages.specs.Readings.{memory_at, optional_at, refused_at, server_at, usage_at, version_at}
use Rattle.control_messages.proofs.Formats.{IsFormat, Takes-as, both, made}
use Rattle.control_messages.proofs.Fields.{OfSome, maybe, narrow, number}

-- nothing is said
abbrev Any : {A : Type 0} → A → Type 0
Any x = Unit {0}

some_any : {A : Type 0} (x : Option A) → OfSome (Any {A = A}) x
some_any None = tt
some_any (Some x) = tt

-- what may be there, of which nothing is said
maybe_any : {A : Type 0} (r : List ℕ → Read A) (front : A → List ℕ)
    → IsFormat r front (Any {A = A})
    → IsFormat (optional_at r) (optional front) (Any {A = Option A})
maybe_any {A = A} r front format = record {
  takes = λ bytes x rest fits e.
      Takes-as (optional front x) (optional front x) (OfSome (Any {A = A}) x) (Unit {0}) bytes rest refl (λ h. tt)
      ((maybe r front (Any {A = A}) format).takes bytes x rest fits e);
  again = λ x rest each fits. (maybe r front (Any {A = A}) format).again x rest each (some_any x);
}

version : IsFormat version_at version_numbers HasVersionWidths
unfolding version_at
version =
    made {A = ℕ × (ℕ × ℕ)} {B = Version} _ _ _ (λ p. record { major = p.0; minor = p.1.0; patch = p.1.1 })
    (λ v. (v.major, (v.minor, v.patch))) version_numbers HasVersionWidths
    (both _ _ _ _ _ _ (narrow (2 ^ 16)) (both _ _ _ _ _ _ (narrow (2 ^ 16)) (narrow (2 ^ 16))))
    (λ p. refl) (λ v. refl) (λ p h. record { major = h.0; minor = h.1.0; patch = h.1.1 })
    (λ v h. (h.major, (h.minor, h.patch)))

limit : IsFormat limit_at (optional alone) (Any {A = Option ℕ})
unfolding limit_at
limit = maybe_any number_at alone number

memory : IsFormat memory_at memory_numbers (Any {A = Memory})
unfolding memory_at
memory =
    made {A = ℕ × (ℕ × Option ℕ)} {B = Memory} _ _ _ (λ p. record { items = p.0; estimate = p.1.0; limit = p.1.1 })
    (λ m. (m.items, (m.estimate, m.limit))) memory_numbers (Any {A = Memory})
    (both _ _ _ _ _ _ number (both _ _ _ _ _ _ number limit))
    (λ p. refl) (λ m. refl) (λ p h. tt) (λ m h. (tt, (tt, tt)))

usage : IsFormat usage_at usage_numbers (Any {A = Usage})
unfolding usage_at
usage =
    made {A = ℕ × ℕ} {B = Usage} _ _ _ (λ p. record { used = p.0; limit = p.1 }) (λ u. (u.used, u.limit)) usage_numbers
    (Any {A = Usage}) (both _ _ _ _ _ _ number number) (λ p. refl) (λ u. refl) (λ p h. tt) (λ u h. (tt, tt))

calls : IsFormat calls_at calls_numbers (Any {A = Calls})
unfolding calls_at
calls =
    made {A = ℕ × (ℕ × ℕ)} {B = Calls} _ _ _
    (λ p. record { clean_reads = p.0; dirty_reads = p.1.0; updates = p.1.1 })
    (λ c. (c.clean_reads, (c.dirty_reads, c.updates))) calls_numbers (Any {A = Calls})
    (both _ _ _ _ _ _ number (both _ _ _ _ _ _ number number))
    (λ p. refl) (λ c. refl) (λ p h. tt) (λ c h. (tt, (tt, tt)))

inbox : IsFormat inbox_at inbox_numbers (Any {A = Inbox})
unfolding inbox_at
inbox =
    made {A = ℕ × ℕ} {B = Inbox} _ _ _ (λ p. record { length = p.0; taken = p.1 }) (λ i. (i.length, i.taken))
    inbox_numbers (Any {A = Inbox}) (both _ _ _ _ _ _ number number) (λ p. refl) (λ i. refl) (λ p h. tt)
    (λ i h. (tt, tt))

lease : IsFormat lease_at lease_numbers (Any {A = LeaseState})
unfolding lease_at
lease =
    made {A = ℕ × ℕ} {B = LeaseState} _ _ _ (λ p. record { reign = p.0; left = p.1 }) (λ l. (l.reign, l.left))
    lease_numbers (Any {A = LeaseState}) (both _ _ _ _ _ _ number number) (λ p. refl) (λ l. refl) (λ p h. tt)
    (λ l h. (tt, tt))

maybe_lease : IsFormat maybe_lease_at (optional lease_numbers) (Any {A = Option LeaseState})
unfolding maybe_lease_at
maybe_lease = maybe_any lease_at lease_numbers lease

refused : IsFormat refused_at refused_numbers (Any {A = Refused})
unfolding refused_at
refused =
    made {A = ℕ × ℕ} {B = Refused} _ _ _ (λ p. record { connections = p.0; stores = p.1 })
    (λ r. (r.connections, r.stores)) refused_numbers (Any {A = Refused}) (both _ _ _ _ _ _ number number)
    (λ p. refl) (λ r. refl) (λ p h. tt) (λ r h. (tt, tt))

-- the members of a server's report, each with those after it
abbrev Ends : Type 0
Ends = Usage × (Calls × (ℕ × (Inbox × (Option LeaseState × Refused))))

abbrev Parts : Type 0
Parts = ℕ × (ℕ × (Version × (ℕ × (ℕ × (ℕ × (ℕ × (ℕ × (ℕ × (Memory × (Usage × Ends))))))))))

-- a server's report
pub server : IsFormat server_at server_numbers HasServerWidths
unfolding server_at
server =
    made {A = Parts} {B = ServerReport} _ _ _ (λ p. record {
      id = p.0;
      servers = p.1.0;
      version = p.1.1.0;
      start = p.1.1.1.0;
      uptime = p.1.1.1.1.0;
      view = p.1.1.1.1.1.0;
      stalled = p.1.1.1.1.1.1.0;
      last = p.1.1.1.1.1.1.1.0;
      committed = p.1.1.1.1.1.1.1.1.0;
      memory = p.1.1.1.1.1.1.1.1.1.0;
      connections = p.1.1.1.1.1.1.1.1.1.1.0;
      seats = p.1.1.1.1.1.1.1.1.1.1.1.0;
      calls = p.1.1.1.1.1.1.1.1.1.1.1.1.0;
      questions = p.1.1.1.1.1.1.1.1.1.1.1.1.1.0;
      inbox = p.1.1.1.1.1.1.1.1.1.1.1.1.1.1.0;
      lease = p.1.1.1.1.1.1.1.1.1.1.1.1.1.1.1.0;
      refused = p.1.1.1.1.1.1.1.1.1.1.1.1.1.1.1.1;
    }) (λ r. (
      r.id,
      (
        r.servers,
        (
          r.version,
          (
            r.start,
            (
              r.uptime,
              (
                r.view,
                (
                  r.stalled,
                  (
                    r.last,
                    (
                      r.committed,
                      (r.memory, (r.connections, (r.seats, (r.calls, (r.questions, (r.inbox, (r.lease, r.refused))))))),
                    ),
                  ),
                ),
              ),
            ),
          ),
        ),
      ),
    ))
    server_numbers HasServerWidths
    (both _ _ _ _ _ _ (narrow (2 ^ 8)) (both _ _ _ _ _ _ (narrow (2 ^ 8)) (both _ _ _ _ _ _ version
    (both _ _ _ _ _ _ number (both _ _ _ _ _ _ number (both _ _ _ _ _ _ (narrow (2 ^ 16))
    (both _ _ _ _ _ _ (narrow (2 ^ 16)) (both _ _ _ _ _ _ number (both _ _ _ _ _ _ number
    (both _ _ _ _ _ _ memory (both _ _ _ _ _ _ usage (both _ _ _ _ _ _ usage (both _ _ _ _ _ _ calls
    (both _ _ _ _ _ _ number (both _ _ _ _ _ _ inbox (both _ _ _ _ _ _ maybe_lease refused))))))))))))))))
    (λ p. refl) (λ r. refl)
    (λ p h. record {
      id = h.0;
      servers = h.1.0;
      version = h.1.1.0;
      view = h.1.1.1.1.1.0;
      stalled = h.1.1.1.1.1.1.0;
    })
    (λ r h. (
      h.id,
      (
        h.servers,
        (
          h.version,
          (
            tt,
            (
              tt,
              (
                h.view,
                (
                  h.stalled,
                  (
                    tt,
                    (
                      tt,
                      (
                        tt,
                        (
                          tt,
                          (
                            tt,
                            (
                              tt,
                              (
                                tt,
                                (
                                  tt,
                                  (tt, tt),
                                ),
                              ),
                            ),
                          ),
                        ),
                      ),
                    ),
                  ),
                ),
              ),
            ),
          ),
        ),
      ),
    ))
