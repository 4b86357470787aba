-- A client goes on, or pauses.
use Rattle.std.proofs.Common.{◌≡◌, ◌⊎◌, ◌∙◌, ◌≤◌, ◌<◌, ◌+◌, ◌++◌, ℕ, List, [], Option, Some, None, true}
use Rattle.std.proofs.Common.{◌≢◌, IfNone, IfSome, IsFalse, ap, append_assoc, append-nil, arith, inl, inr, subst, sym}
use Rattle.proto.specs.Streams.{ends, outcome_texts, turns}
use Rattle.proto.specs.Turns.{calls_of}
use Rattle.serving.specs.declared.connections.Wants.TheVariants.{End as Ends}
use Rattle.serving.specs.declared.endings.End.{End}
use Rattle.serving.specs.declared.endings.ServeFault.{ServeFault}
use Rattle.serving.specs.declared.endings.ServeFault.TheVariants.{Memory, Read as Unread, Write as Unwritten}
use Rattle.serving.specs.declared.endings.ServeFault.TheVariants.{Call as NoReply}
use Rattle.serving.specs.Connections.{Connected}
use Rattle.serving.specs.Wanted.{IsWanted}
use Rattle.seats.specs.SeatPools.{Pooling}
use Rattle.seats.specs.ClientConnections.{HasCause}
use Rattle.seats.specs.declared.client_connections.CallStanding.TheVariants.{Over as Spent}
use Rattle.seats.specs.declared.client_connections.Pause.{Pause}
use Rattle.seats.specs.declared.client_connections.Pause.TheVariants.{Input, Output, Lease, Seat, Reply, Turn, Over}
use Rattle.io_threads.specs.declared.clients.Progress.{Progress}
use Rattle.io_threads.specs.Clients.{ClientState, HasPassed, HasPaused, HasPausedAtSocket}
use Rattle.io_threads.specs.Clients.{IsBroken, Refused, Failed, HasGoneQuietly, IsPast}
use Rattle.io_threads.specs.Clients.{Broken, Gone, Fallen, Ended, without_call}

-- nothing more has passed
pub passed_none : (xs ys : List ℕ) → ys ≡ xs → HasPassed xs ys
passed_none xs ys e = record { more = []; is = e ∙ sym (append-nil xs) }

-- these bytes have passed
pub passed_more : (xs ys more : List ℕ) → ys ≡ xs ++ more → HasPassed xs ys
passed_more xs ys more e = record { more = more; is = e }

-- some have passed, and then some
pub passed_then : (xs ys zs : List ℕ) → HasPassed xs ys → HasPassed ys zs → HasPassed xs zs
passed_then xs ys zs p q =
    record { more = p.more ++ q.more; is = q.is ∙ (ap (λ w. w ++ q.more) p.is ∙ append_assoc xs p.more q.more) }

-- memory was refused
pub broken_by_refusal : (faults : ℕ) (v : ClientState) → v.refused ≡ true → IsBroken faults v
broken_by_refusal faults v e = Refused e

-- a read or a write has failed
pub broken_by_fault : (faults : ℕ) (v : ClientState) → faults < v.faults → IsBroken faults v
broken_by_fault faults v more = Failed more

-- what has failed since then has failed since earlier
broken_since : (few many : ℕ) (v : ClientState) → few ≤ many → IsBroken many v → IsBroken few v
broken_since few many v le (Refused e) = Refused e
broken_since few many v le (Failed more) = Failed (omega (arith, le, more))

-- memory was refused before
pub past_refusal : (u v : ClientState) (p q : Pooling) → v.refused ≡ true → IsPast u v p q
past_refusal u v p q e = Broken (Refused e)

-- nobody reads
pub past_leaving : (u v : ClientState) (p q : Pooling) → v.gone ≡ true → IsPast u v p q
past_leaving u v p q e = Gone e

-- no reply comes any more
pub past_loss : (u v : ClientState) (p q : Pooling) (fault : ServeFault)
    → v.client_connection.standing ≡ Spent
    → (u.client_connection.standing ≡ Spent) ⊎ HasCause fault v.client_connection.connected p q
    → IsPast u v p q
past_loss u v p q fault e cause = Fallen (record { standing = e; cause = by cause })
  where
    by : (u.client_connection.standing ≡ Spent) ⊎ HasCause fault v.client_connection.connected p q
        → (u.client_connection.standing ≡ Spent)
        ⊎ ((f : ServeFault) × HasCause f v.client_connection.connected p q)
    by (inl over) = inl over
    by (inr has) = inr (fault, has)

-- it is at its end
pub past_end : (u v : ClientState) (p q : Pooling) (end : End)
    → v.given ≡ v.client_connection.connected.read
    → v.taken ≡ v.client_connection.connected.written
    → IsWanted (Ends end) v.client_connection.connected
    → IsPast u v p q
past_end u v p q end given taken wanted =
    let c : Connected = v.client_connection.connected in
    Ended end (record {
      waiting = wanted.0.waiting;
      calls = wanted.0.calls ∙ ap (λ (bytes : List ℕ). calls_of (turns bytes)) (sym given);
      output = taken ∙ (sym (append-nil c.written) ∙ (ap (λ (due : List ℕ). c.written ++ due) (sym wanted.1)
          ∙ (wanted.0.output ∙ ap (λ (bytes : List ℕ). outcome_texts (turns bytes) c.outcomes) (sym given))));
      ends = ap ends given ∙ wanted.0.ends;
      ended = wanted.2;
    })

-- it paused at its socket
pub paused_at_socket : (pause : Pause) (u v : ClientState) (p q : Pooling) (faults : ℕ) → u.faults ≤ faults
    → HasPausedAtSocket pause faults v
    → HasPaused pause u v p q
paused_at_socket Input u v p q faults le paused = paused
paused_at_socket Output u v p q faults le paused = paused
paused_at_socket Turn u v p q faults le paused = absurd paused
paused_at_socket Seat u v p q faults le paused = absurd paused
paused_at_socket Reply u v p q faults le paused = absurd paused
paused_at_socket Lease u v p q faults le paused = paused
paused_at_socket Over u v p q faults le paused = Broken (broken_since u.faults faults v le paused)

-- what a fault comes from, if no call got no reply before
cause_since : (fault : ServeFault) (c : Connected) (p q r : Pooling) → q.faults ≡ p.faults → HasCause fault c q r
    → HasCause fault c p r
cause_since Memory c p q r same cause = cause
cause_since Unread c p q r same cause = cause
cause_since Unwritten c p q r same cause = cause
cause_since NoReply c p q r same cause = cause ∙ ap (λ (n : ℕ). n + 1) same

past_since : (s u v : ClientState) (p q r : Pooling) → s.faults ≤ u.faults
    → HasGoneQuietly s.client_connection u.client_connection p q
    → IsPast u v q r
    → IsPast s v p r
past_since s u v p q r le quiet (Broken broken) = Broken (broken_since s.faults u.faults v le broken)
past_since s u v p q r le quiet (Gone e) = Gone e
past_since s u v p q r le quiet (Fallen fallen) =
    Fallen (record { standing = fallen.standing; cause = by fallen.cause })
  where
    by : (u.client_connection.standing ≡ Spent)
        ⊎ ((fault : ServeFault) × HasCause fault v.client_connection.connected q r)
        → (s.client_connection.standing ≡ Spent)
        ⊎ ((fault : ServeFault) × HasCause fault v.client_connection.connected p r)
    by (inl over) = inl (quiet.fallen over)
    by (inr has) = inr (has.0, cause_since has.0 v.client_connection.connected p q r quiet.faults has.1)
past_since s u v p q r le quiet (Ended end served) = Ended end served

-- it went on, and paused then
pub paused_since : (pause : Pause) (s u v : ClientState) (p q r : Pooling) → s.faults ≤ u.faults
    → HasGoneQuietly s.client_connection u.client_connection p q
    → HasPaused pause u v q r
    → HasPaused pause s v p r
paused_since Turn s u v p q r le quiet paused = tt
paused_since Input s u v p q r le quiet paused = paused
paused_since Output s u v p q r le quiet paused = paused
paused_since Seat s u v p q r le quiet paused = paused
paused_since Reply s u v p q r le quiet paused = paused
paused_since Lease s u v p q r le quiet paused = paused
paused_since Over s u v p q r le quiet paused = past_since s u v p q r le quiet paused

-- so it paused at its socket, if it did, and sent no call,
pub paused_without_call : (o : Option Pause) (r : Option Progress) (u v : ClientState) (p q : Pooling) (faults : ℕ)
    → r ≡ without_call o
    → u.faults ≤ faults
    → IfSome o (λ pause. HasPausedAtSocket pause faults v)
    → IfSome r (λ progress. HasPaused progress.pause u v p q)
paused_without_call None r u v p q faults e le paused =
    subst (λ (x : Option Progress). IfSome x (λ progress. HasPaused progress.pause u v p q)) (sym e) tt
paused_without_call (Some pause) r u v p q faults e le paused =
    subst (λ (x : Option Progress). IfSome x (λ progress. HasPaused progress.pause u v p q)) (sym e)
    (paused_at_socket pause u v p q faults le paused)

-- and not for a lease if it didn't,
pub held_without_call : (o : Option Pause) (r : Option Progress) → r ≡ without_call o
    → IfSome o (λ pause. pause ≢ Lease)
    → IfSome r (λ progress. progress.pause ≢ Lease)
held_without_call None r e held =
    subst (λ (x : Option Progress). IfSome x (λ progress. progress.pause ≢ Lease)) (sym e) tt
held_without_call (Some pause) r e held =
    subst (λ (x : Option Progress). IfSome x (λ progress. progress.pause ≢ Lease)) (sym e) held

-- and what holds if it goes on holds then
pub none_without_call : (P : Type 0) (o : Option Pause) (r : Option Progress) → r ≡ without_call o → IfNone o P
    → IfNone r P
none_without_call P None r e holds = subst (λ (x : Option Progress). IfNone x P) (sym e) holds
none_without_call P (Some pause) r e holds = subst (λ (x : Option Progress). IfNone x P) (sym e) tt

-- it sent nothing, however far it went
pub unsent_without_call : (P : Type 0) (r : Option Progress) → P → IfSome r (λ progress. IsFalse progress.has_sent → P)
unsent_without_call P None holds = tt
unsent_without_call P (Some progress) holds = λ same. holds

-- what a goal on what has passed may need
pub ruleset passed = (passed_none, passed_more, passed_then)

-- what a goal of a client whose socket is broken may need
pub ruleset breaking = (broken_by_refusal, broken_by_fault)

-- what a goal of a client that goes no further may need
pub ruleset ending = (past_refusal, past_leaving, past_loss, paused_since, paused_without_call, held_without_call, none_without_call, unsent_without_call)
