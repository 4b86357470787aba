-- At a server that goes on the published calls of a seat are those that its connection has given to the server.
use Rattle.std.proofs.Common.{◌≡◌, ◌+◌, true, false, cond, [], length, Option, None, Some, refl, arith, ap}
use Rattle.std.proofs.Common.{sym, ◌∙◌, subst}
use Rattle.std.specs.Prelude.{slice_get, not}
use Rattle.std.proofs.lemmas.Bool.{eq-eqb, both_ways}
use Rattle.world.specs.declared.connections.Stage.{Stage}
use Rattle.world.specs.declared.connections.Stage.TheVariants.{Idle, Begun, Asked, Replied}
use Rattle.world.specs.Calls.{CallId, given_calls}
use Rattle.world.specs.Connections.{Connection, to_work}
use Rattle.world.specs.Worlds.{World, lives}
use Rattle.node.proofs.BegunLists.{found_below}
use Rattle.interleavings.specs.Chains.{Chain, listed}
use Rattle.interleavings.specs.Orders.{begun_call, waiting_calls, is_published}
use Rattle.interleavings.proofs.relation.Published.{is_stopped, same_less}
use Rattle.interleavings.proofs.relation.StandsFor.{Sits, StandsFor, Tallies, call_at}
use Rattle.interleavings.proofs.seats.Sending.{all_heard, away_stopped}
use Rattle.world.specs.Calls as world

one_begun : (k : Connection) → length k.calls ≡ length k.replies + 1 → length (listed (to_work Begun k)) ≡ 1
one_begun k e =
    let f = found_below k.calls (length k.replies) (omega (arith, e)) in
    ap (λ o. length (listed o)) f.1

-- a call that was begun was given, or waits
pub given_or_waits : (k : Connection) (stage : Stage)
    → Tallies stage (length k.calls) (length k.replies)
    → length k.calls ≡ (length k.replies + given_calls stage) + length (listed (to_work stage k))
given_or_waits k Idle e = omega (arith, e)
given_or_waits k Begun e = omega (arith, e, one_begun k e)
given_or_waits k Asked e = omega (arith, e)
given_or_waits k (Replied reply) e = omega (arith, e)

-- what a world that stands for a chain shows of a call whose server goes on
pub record ShowsCall (l : Chain) (w : World) (x : CallId) : Type 0 where
  pub given : world.is_given w x ≡ is_published l x
  pub begun : world.begun_call w x ≡ begun_call l x

module _ (l : Chain) (w : World) (x : CallId) (h : StandsFor l w) (going : is_stopped l x ≡ false) where
  shows_by : (o : Option Connection)
      → slice_get w.connections x.connection ≡ o
      → Sits l w o (l.seats x.connection)
      → ShowsCall l w x
  shows_by None e g = absurd (both_ways _ going (away_stopped l w (l.seats x.connection) None refl g))
  shows_by (Some k) e g =
      let i = (l.seats x.connection).home in
      let alive : lives w k.home ≡ true = subst (λ j. lives w j ≡ true) (sym g.home) (h.lives i ∙ ap not going) in
      let heard : (l.seats x.connection).calls ≡ k.calls = all_heard w k (l.seats x.connection) g alive in
      let waits : waiting_calls l x.connection ≡ listed (to_work k.stage k) =
      h.calls i x.connection going ∙ ap (call_at i) e
      ∙ ap (λ b. cond b (listed (to_work k.stage k)) []) (eq-eqb k.home i g.home) in
      let all : length (l.seats x.connection).calls
      ≡ (length k.replies + given_calls k.stage) + length (waiting_calls l x.connection) =
      ap (λ cs. length cs) heard ∙ given_or_waits k k.stage g.tallies
      ∙ ap (λ cs. (length k.replies + given_calls k.stage) + length cs) (sym waits) in
      record {
        given = ap (λ p. world.is_given_by p x.ordinal) e
            ∙ same_less x.ordinal (length k.replies + given_calls k.stage)
            (x.ordinal + length (waiting_calls l x.connection)) (length (l.seats x.connection).calls)
            (omega (arith, all));
        begun = ap (λ p. Rattle.std.specs.Option.option_and_then (λ (j : Connection). slice_get j.calls x.ordinal) p) e
            ∙ ap (λ cs. slice_get cs x.ordinal) (sym heard);
      }

  -- a world that stands for a chain shows so of it
  pub shows_call : ShowsCall l w x
  shows_call = shows_by (slice_get w.connections x.connection) refl (h.seats x.connection)
