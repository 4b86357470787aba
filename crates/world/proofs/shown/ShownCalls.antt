-- What a transcript shows of each call: the call as it was begun, and its reply.
use Rattle.std.proofs.Common.{◌≡◌, ℕ, zero, suc, ◌+◌, ◌≤◌, List, [], ◌∷◌, length, Some, None, refl, arith, map}
use Rattle.std.specs.Prelude.{slice_get}
use Rattle.std.specs.Option.{option_and_then, option_map}
use Rattle.table.specs.declared.operations.Call.{Call}
use Rattle.table.specs.declared.operations.Reply.{Reply}
use Rattle.world.specs.declared.events.Event.{Event}
use Rattle.world.specs.declared.connections.Stage.{Stage}
use Rattle.world.specs.declared.connections.Stage.TheVariants.{Idle, Begun, Asked, Replied}
use Rattle.world.specs.Connections.{Connection}
use Rattle.world.specs.Worlds.{World, happens, run_from, run_of, opening_world}
use Rattle.world.specs.Calls.{CallId, begun_call, reply_to}
use Rattle.world.specs.Transcripts.{ConnectionShown, calls_shown, connection_shown, transcript_of}
use Rattle.world.specs.Shown.{call_in, call_shown, reply_in, reply_shown}
use Rattle.world.proofs.waiting.InStep.{open_calls, AllInStep, in_step_happens, in_step_outset}

-- ---- open calls

in_step_from : (events : List Event) (w : World) → AllInStep w → AllInStep (run_from w events)
in_step_from [] w all = all
in_step_from (e ∷ es) w all = in_step_from es (happens w e) (in_step_happens w e all)

-- after each schedule each call of a connection but the open one has its reply
pub in_step : (count : ℕ) (homes : List ℕ) (events : List Event) → AllInStep (run_of count homes events)
in_step count homes events = in_step_from events (opening_world count homes) (in_step_outset count homes)

one_at_most : (s : Stage) → open_calls s ≤ 1
one_at_most Idle = omega arith
one_at_most Begun = omega arith
one_at_most Asked = omega arith
one_at_most (Replied reply) = omega arith

-- a connection has begun at most one call more than were answered
pub one_open : (count : ℕ) (homes : List ℕ) (events : List Event) (c : ℕ) (k : Connection)
    → slice_get (run_of count homes events).connections c ≡ Some k
    → length k.calls ≤ length k.replies + 1
one_open count homes events c k here = omega (arith, in_step count homes events c k here, one_at_most k.stage)

-- ---- what is shown

no_call_shown : (calls : List Call) (p : ℕ) → reply_in (slice_get (calls_shown calls []) p) ≡ None
no_call_shown [] p = refl
no_call_shown (call ∷ calls) zero = refl
no_call_shown (call ∷ calls) (suc p) = no_call_shown calls p

replies_at : (calls : List Call) (replies : List Reply) (p : ℕ)
    → length replies ≤ length calls
    → reply_in (slice_get (calls_shown calls replies) p) ≡ slice_get replies p
replies_at calls [] p few = no_call_shown calls p
replies_at [] (reply ∷ replies) p few = absurd (omega (arith, few))
replies_at (call ∷ calls) (reply ∷ replies) zero few = refl
replies_at (call ∷ calls) (reply ∷ replies) (suc p) few = replies_at calls replies p (omega (arith, few))

calls_at : (calls : List Call) (replies : List Reply) (p : ℕ)
    → option_map call_in (slice_get (calls_shown calls replies) p) ≡ slice_get calls p
calls_at [] replies p = refl
calls_at (call ∷ calls) [] zero = refl
calls_at (call ∷ calls) [] (suc p) = calls_at calls [] p
calls_at (call ∷ calls) (reply ∷ replies) zero = refl
calls_at (call ∷ calls) (reply ∷ replies) (suc p) = calls_at calls replies p

calls_among : (ks : List Connection) (c p : ℕ)
    → option_map call_in
    (option_and_then (λ (k : ConnectionShown). slice_get k.calls p) (slice_get (map connection_shown ks) c))
    ≡ option_and_then (λ (k : Connection). slice_get k.calls p) (slice_get ks c)
calls_among [] c p = refl
calls_among (k ∷ ks) zero p = calls_at k.calls k.replies p
calls_among (k ∷ ks) (suc c) p = calls_among ks c p

replies_among : (ks : List Connection) (c p : ℕ)
    → ((d : ℕ) (k : Connection) → slice_get ks d ≡ Some k → length k.replies ≤ length k.calls)
    → reply_in (option_and_then (λ (k : ConnectionShown). slice_get k.calls p) (slice_get (map connection_shown ks) c))
    ≡ option_and_then (λ (k : Connection). slice_get k.replies p) (slice_get ks c)
replies_among [] c p few = refl
replies_among (k ∷ ks) zero p few = replies_at k.calls k.replies p (few 0 k refl)
replies_among (k ∷ ks) (suc c) p few = replies_among ks c p (λ d. few (suc d))

-- each begun call is shown, as it was begun
pub calls_are_shown : (count : ℕ) (homes : List ℕ) (events : List Event) (x : CallId)
    → call_shown (transcript_of (run_of count homes events)) x ≡ begun_call (run_of count homes events) x
calls_are_shown count homes events x = calls_among (run_of count homes events).connections x.connection x.ordinal

-- so is the reply that it got
pub replies_are_shown : (count : ℕ) (homes : List ℕ) (events : List Event) (x : CallId)
    → reply_shown (transcript_of (run_of count homes events)) x ≡ reply_to (run_of count homes events) x
replies_are_shown count homes events x = replies_among (run_of count homes events).connections x.connection x.ordinal
    (λ c k here. omega (arith, in_step count homes events c k here))
