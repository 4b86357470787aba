-- Connections at their positions through a whole schedule.
use Rattle.std.proofs.Common.{◌≡◌, ◌≢◌, ℕ, zero, suc, Bool, cond, true, false, List, [], ◌∷◌, length, map, take, Option}
use Rattle.std.proofs.Common.{None, Some, refl, sym, ◌∙◌, arith, inl, inr, eq-eqb}
use Rattle.std.specs.Prelude.{slice_get, ◌==◌, ◌&&◌}
use Rattle.std.proofs.lemmas.Bool.{cond_both}
use Rattle.std.proofs.lemmas.Bool.Decides.{nat_tests}
use Rattle.table.specs.declared.operations.Call.{Call}
use Rattle.proto.specs.Streams.{turns}
use Rattle.node.specs.declared.messages.Peer.{Peer}
use Rattle.node.specs.declared.messages.Input.{Input}
use Rattle.node.specs.declared.messages.Input.TheVariants.{Call as Called, From, Gone}
use Rattle.node.specs.declared.messages.Output.{Output}
use Rattle.node.specs.declared.messages.Output.TheVariants.{To, Reply as Answers}
use Rattle.node.specs.Steps.{step}
use Rattle.world.specs.declared.events.Event.{Event}
use Rattle.world.specs.declared.events.Event.TheVariants.{Piece, Begin, Work, Deliver, Fail, Tell, Hand}
use Rattle.world.specs.declared.connections.Stage.{Stage}
use Rattle.world.specs.declared.connections.Stage.TheVariants.{Idle, Begun, Asked, Replied}
use Rattle.world.specs.Connections.{Connection, changed_at, came, begun, asked, open_call, to_work, handed, fresh}
use Rattle.world.specs.Worlds.{World, server, link, with_server, with_link, with_connection, lives, has_failed, put}
use Rattle.world.specs.Worlds.{put_all, takes, where_home_lives, sent_in, worked, delivered, happens, run_from, run_of}
use Rattle.world.specs.Worlds.{opening_world}
use Rattle.world.specs.Sent.{StreamPosition, outset, on_piece, on_begin, on_hand, position_after, position_at}
use Rattle.world.specs.Sent.{position_from}
use Rattle.world.specs.Sent.{position_of, sent_bytes, calls_of}
use Rattle.world.proofs.positions.FaultLaws.{FaultsTakeBytes}
use Rattle.world.proofs.lists.Standing.{changed_cases, stood_before}
use Rattle.world.proofs.positions.PositionsAlong.{SessionLaws, Along, along_piece, along_begin, along_hand, along_asked}
use Rattle.world.proofs.positions.PositionsAlong.{along_replied, sent_along, answered_along, begun_along}

-- the c-th connection, if there is one, is at this position
abbrev IsAlong : ℕ → World → StreamPosition → Type 0
IsAlong c w m = (k : Connection) → slice_get w.connections c ≡ Some k → Along k m

-- if there is a c-th connection after, there was one before, and it is at its position
record Goes (c : ℕ) (u w : World) (m : StreamPosition) : Type 0 where
  was : (new : Connection)
      → slice_get w.connections c ≡ Some new
      → (old : Connection) × (slice_get u.connections c ≡ Some old)
  along : IsAlong c w m

goes_on : (c : ℕ) (u v w : World) (m : StreamPosition) → Goes c u v m → (IsAlong c v m → Goes c v w m) → Goes c u w m
goes_on c u v w m a f =
    let b = f a.along in record { was = λ new is. (let mid = b.was new is in a.was mid.0 mid.1); along = b.along }

stays : (c : ℕ) (w : World) (m : StreamPosition) → IsAlong c w m → Goes c w w m
stays c w m all = record { was = λ new is. (new, is); along = all }

test_true : (c d : ℕ) → c ≡ d → (c == d) ≡ true
test_true c d e = eq-eqb c d e

test_false : (c d : ℕ) → c ≢ d → (c == d) ≡ false
test_false c d far = grind (arith, nat_tests)

-- a change of connection d, with the position of c going along
changed_along : (c d : ℕ) (w : World) (m : StreamPosition) (change : Connection → Connection)
    (goes : Connection → StreamPosition → StreamPosition) (after : Connection → StreamPosition)
    → ((k : Connection) → c ≡ d → after k ≡ goes k m) → ((k : Connection) → c ≢ d → after k ≡ m)
    → ((k : Connection) → slice_get w.connections d ≡ Some k → Along k m → Along (change k) (goes k m))
    → IsAlong c w m
    → (old new : Connection)
    → slice_get w.connections c ≡ Some old
    → slice_get (changed_at w.connections d change) c ≡ Some new
    → Along new (after old)
changed_along c d w m change goes after here elsewhere kept all old new at_c is =
    elim (changed_cases w.connections d c change new is) [
      | inl other ↦ rw (elsewhere old other.0) (all new other.1)
      | inr same ↦
          let one : old ≡ same.0 = let p = same.1 in let q = same.2 in cc in
          let at_old : slice_get w.connections c ≡ Some same.0 = rw same.1 same.2 in
          rw (here old same.1, one, ← same.3) (kept same.0 same.2 (all same.0 at_old))
    ]

-- a change that moves nobody on
connected : (c d : ℕ) (w : World) (m : StreamPosition) (change : Connection → Connection)
    → ((k : Connection) → slice_get w.connections d ≡ Some k → Along k m → Along (change k) m)
    → IsAlong c w m
    → Goes c w (with_connection w d change) m
unfolding with_connection
connected c d w m change kept all = record {
  was = λ new is. stood_before w.connections d c change new is;
  along = λ new is. elim (changed_cases w.connections d c change new is) [
    | inl other ↦ all new other.1
    | inr same ↦ rw (← same.3) (kept same.0 same.2 (all same.0 (rw same.1 same.2)))
  ];
}

put_along : (c i : ℕ) (w : World) (m : StreamPosition) (o : Output) → IsAlong c w m → Goes c w (put w i o) m
unfolding with_link
put_along c i w m (To j peer) all = record { was = λ new is. (new, is); along = all }
put_along c i w m (Answers d reply) all = connected c d w m _ (λ k here a. along_replied reply k.stage k m refl a) all

put_all_along : (c i : ℕ) (w : World) (m : StreamPosition) (os : List Output) → IsAlong c w m
    → Goes c w (put_all w i os) m
unfolding put_all
put_all_along c i w m [] all = stays c w m all
put_all_along c i w m (o ∷ os) all =
    goes_on c w (put w i o) _ m (put_along c i w m o all) (put_all_along c i (put w i o) m os)

served_along : (c i : ℕ) (w : World) (m : StreamPosition) (input : Input) → IsAlong c w m → Goes c w (takes w i input) m
unfolding with_server
served_along c i w m input all =
    let u = with_server w i (step (server w i) input).state in
    goes_on c w u _ m (record { was = λ new is. (new, is); along = all })
    (put_all_along c i u m (step (server w i) input).outputs)

delivered_along : (c i j : ℕ) (w : World) (m : StreamPosition) (ms : List Peer)
    → IsAlong c w m
    → Goes c w (delivered w i j ms) m
unfolding with_link
delivered_along c i j w m [] all = stays c w m all
delivered_along c i j w m (p ∷ ms) all =
    cond_both (lives w j) (takes (with_link w i j ms) j (From i p)) w (λ x. Goes c w x m)
    (λ t. goes_on c w (with_link w i j ms) _ m (record { was = λ new is. (new, is); along = all })
    (served_along c j (with_link w i j ms) m (From i p)))
    (λ t. stays c w m all)

sent_in_along : (c d : ℕ) (w : World) (m : StreamPosition) (k : Connection) (o : Option Call)
    → slice_get w.connections d ≡ Some k
    → k.stage ≡ Begun
    → IsAlong c w m
    → Goes c w (sent_in w d k.home o) m
sent_in_along c d w m k None at_d e all = stays c w m all
sent_in_along c d w m k (Some call) at_d e all =
    goes_on c w (with_connection w d asked) _ m
    (connected c d w m asked (λ x here a. (let one : x ≡ k = cc in along_asked x m (rw one e) a)) all)
    (served_along c k.home (with_connection w d asked) m (Called d call))

work_along : (c d : ℕ) (w : World) (m : StreamPosition) (o : Option Connection)
    → slice_get w.connections d ≡ o
    → IsAlong c w m
    → Goes c w (worked w d o) m
work_along c d w m None is all = stays c w m all
work_along c d w m (Some k) is all = cond_both (lives w k.home) (sent_in w d k.home (to_work k.stage k)) w
    (λ x. Goes c w x m) (λ t. by_stage k.stage refl) (λ t. stays c w m all)
  where
    by_stage : (s : Stage) → k.stage ≡ s → Goes c w (sent_in w d k.home (to_work s k)) m
    by_stage Idle e = stays c w m all
    by_stage Begun e = sent_in_along c d w m k (open_call k) is e all
    by_stage Asked e = stays c w m all
    by_stage (Replied reply) e = stays c w m all

-- an event at connection d, if its home lives, that moves its position on
at_living : (c d : ℕ) (w : World) (m : StreamPosition) (change : Connection → Connection)
    (goes : Connection → StreamPosition → StreamPosition)
    (after : Connection → StreamPosition)
    → ((k : Connection) → c ≡ d → after k ≡ goes k m) → ((k : Connection) → c ≢ d → after k ≡ m)
    → ((k : Connection) → Along k m → Along (change k) (goes k m))
    → IsAlong c w m
    → (old new : Connection)
    → slice_get w.connections c ≡ Some old
    → slice_get (with_connection w d (where_home_lives w change)).connections c ≡ Some new
    → Along new (cond (lives w old.home) (after old) m)
unfolding with_connection
at_living c d w m change goes after here elsewhere kept all old new at_c is =
    changed_along c d w m (where_home_lives w change) (λ k m. cond (lives w k.home) (goes k m) m)
    (λ k. cond (lives w k.home) (after k) m)
    (λ k e. cond_both (lives w k.home) (after k) m (λ x. x ≡ cond (lives w k.home) (goes k m) m) (λ t. rw t (here k e))
    (λ f. rw f refl))
    (λ k far. cond_both (lives w k.home) (after k) m (λ x. x ≡ m) (λ t. elsewhere k far) (λ f. refl))
    (λ k at_d a. by_life k (lives w k.home) a)
    all old new at_c is
  where
    by_life : (k : Connection) (b : Bool) → Along k m → Along (cond b (change k) k) (cond b (goes k m) m)
    by_life k true a = kept k a
    by_life k false a = a

failed_along : (c i : ℕ) (w : World) (m : StreamPosition) → IsAlong c w m → Goes c w (happens w (Fail i)) m
failed_along c i w m all =
    cond_both (lives w i) _ w (λ x. Goes c w x m) (λ t. record { was = λ new is. (new, is); along = all })
    (λ t. stays c w m all)

told_along : (c i j : ℕ) (w : World) (m : StreamPosition) → IsAlong c w m → Goes c w (happens w (Tell i j)) m
told_along c i j w m all = cond_both (lives w i && has_failed w j) _ w (λ x. Goes c w x m)
    (λ t. served_along c i w m (Gone j) all) (λ t. stays c w m all)

-- what stood at a place before an event
stood : (w : World) (c : ℕ) (m : StreamPosition) (e : Event)
    → IsAlong c w m
    → (new : Connection)
    → slice_get (happens w e).connections c ≡ Some new
    → (old : Connection) × (slice_get w.connections c ≡ Some old)
unfolding with_connection
stood w c m (Piece d bytes) all new is = stood_before w.connections d c _ new is
stood w c m (Begin d) all new is = stood_before w.connections d c _ new is
stood w c m (Hand d) all new is = stood_before w.connections d c _ new is
stood w c m (Work d) all new is = (work_along c d w m (slice_get w.connections d) refl all).was new is
stood w c m (Deliver i j) all new is = (delivered_along c i j w m (link w i j) all).was new is
stood w c m (Fail i) all new is = (failed_along c i w m all).was new is
stood w c m (Tell i j) all new is = (told_along c i j w m all).was new is

-- a position that no event moves on stays, whether the home lives or not
unmoved : (b : Bool) (m : StreamPosition) → cond b m m ≡ m
unmoved true m = refl
unmoved false m = refl

event_along : SessionLaws
    → FaultsTakeBytes
    → (c : ℕ) (w : World) (m : StreamPosition) (e : Event) (old : Connection)
    → slice_get w.connections c ≡ Some old
    → IsAlong c w m
    → IsAlong c (happens w e) (position_at w c (Some old) e m)
event_along law takes c w m (Piece d bytes) old at_c all = λ new is.
    at_living c d w m (came bytes) (λ k m. on_piece bytes k.session.closed m)
    (λ k. position_after c k (Piece d bytes) m)
    (λ k e. rw (test_true c d e) refl) (λ k far. rw (test_false c d far) refl) (λ k a. along_piece bytes k m a) all old
    new at_c is
event_along law takes c w m (Begin d) old at_c all = λ new is.
    at_living c d w m (λ k. begun k.stage k) (λ k m. on_begin k.stage m) (λ k. position_after c k (Begin d) m)
    (λ k e. rw (test_true c d e) refl) (λ k far. rw (test_false c d far) refl)
    (λ k a. along_begin law takes k.stage k m refl a) all old new at_c is
event_along law takes c w m (Hand d) old at_c all = λ new is.
    at_living c d w m (λ k. handed k.stage k) (λ k m. on_hand k.stage m) (λ k. position_after c k (Hand d) m)
    (λ k e. rw (test_true c d e) refl) (λ k far. rw (test_false c d far) refl)
    (λ k a. along_hand law k.stage k m refl a) all old new at_c is
event_along law takes c w m (Work d) old at_c all =
    rw (unmoved (lives w old.home) m) (work_along c d w m (slice_get w.connections d) refl all).along
event_along law takes c w m (Deliver i j) old at_c all =
    rw (unmoved (lives w old.home) m) (delivered_along c i j w m (link w i j) all).along
event_along law takes c w m (Fail i) old at_c all = rw (unmoved (lives w old.home) m) (failed_along c i w m all).along
event_along law takes c w m (Tell i j) old at_c all = rw (unmoved (lives w old.home) m) (told_along c i j w m all).along

run_along : SessionLaws
    → FaultsTakeBytes
    → (c : ℕ) (w : World) (m : StreamPosition) (es : List Event)
    → IsAlong c w m
    → IsAlong c (run_from w es) (position_from c w m es)
run_along law takes c w m [] all = all
run_along law takes c w m (e ∷ es) all =
    run_along law takes c (happens w e) (position_at w c (slice_get w.connections c) e m) es
    (by_old (slice_get w.connections c) refl)
  where
    by_old : (o : Option Connection) → slice_get w.connections c ≡ o → IsAlong c (happens w e) (position_at w c o e m)
    by_old None none =
        λ new is. let old = stood w c m e all new is in let no : None ≡ Some old.0 = sym none ∙ old.1 in cc
    by_old (Some old) at_c = event_along law takes c w m e old at_c all

along_fresh : (homes : List ℕ) (c : ℕ) (k : Connection) → slice_get (map fresh homes) c ≡ Some k → Along k outset
along_fresh [] c k is = cc
along_fresh (home ∷ homes) zero k is = let one : fresh home ≡ k =
    cc in rw (← one) (record {
      past = [];
      open_turn = [];
      ordinal = refl;
      said = refl;
      answered = refl;
      called = refl;
      opened = refl;
      split = λ more. refl;
      end = λ more. refl;
    })
along_fresh (home ∷ homes) (suc c) k is = along_fresh homes c k is

-- after each schedule each connection is at its position
pub along_run : SessionLaws
    → FaultsTakeBytes
    → (count : ℕ) (homes : List ℕ) (events : List Event) (c : ℕ) (k : Connection)
    → slice_get (run_of count homes events).connections c ≡ Some k
    → Along k (position_of count homes events c)
along_run law takes count homes events c k is =
    run_along law takes c (opening_world count homes) outset events (along_fresh homes c) k is

-- after each schedule a connection was sent the texts of the turns up to its ordinal
pub sent_is : SessionLaws
    → FaultsTakeBytes
    → (count : ℕ) (homes : List ℕ) (events : List Event) (c : ℕ) (k : Connection)
    → slice_get (run_of count homes events).connections c ≡ Some k
    → k.session.out ≡ sent_bytes (position_of count homes events c) k.replies
sent_is law takes count homes events c k is = sent_along k _ (along_run law takes count homes events c k is)

-- after each schedule a connection's begun calls are the first ones of its stream
pub begun_is : SessionLaws
    → FaultsTakeBytes
    → (count : ℕ) (homes : List ℕ) (events : List Event) (c : ℕ) (k : Connection)
    → slice_get (run_of count homes events).connections c ≡ Some k
    → k.calls ≡ take (length k.calls) (calls_of (turns (position_of count homes events c).stream))
begun_is law takes count homes events c k is = begun_along k _ (along_run law takes count homes events c k is)

-- after each schedule a connection has as many replies as there are calls up to its ordinal
pub answered_is : SessionLaws
    → FaultsTakeBytes
    → (count : ℕ) (homes : List ℕ) (events : List Event) (c : ℕ) (k : Connection)
    → slice_get (run_of count homes events).connections c ≡ Some k
    → length k.replies
    ≡ length (calls_of
    (take (position_of count homes events c).ordinal (turns (position_of count homes events c).stream)))
answered_is law takes count homes events c k is = answered_along k _ (along_run law takes count homes events c k is)
