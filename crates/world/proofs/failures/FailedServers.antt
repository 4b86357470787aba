-- A server of the chain lives exactly if no event has failed it.
use Rattle.std.proofs.Common.{◌≡◌, ℕ, Bool, true, false, not, ◌&&◌, ◌||◌, List, [], ◌∷◌, length, Option, Some, None}
use Rattle.std.proofs.Common.{refl, ap, ◌∙◌, arith, inl, inr, length-set, eq-eqb}
use Rattle.std.specs.Prelude.{slice_get, nat_lt, ◌==◌}
use Rattle.std.proofs.lemmas.Bool.{cond_both, cases_eq}
use Rattle.std.proofs.lemmas.Bool.Decides.{nat_tests}
use Rattle.std.proofs.lemmas.Nat.Bits.{bit_at-pow_same}
use Rattle.table.specs.declared.operations.Call.{Call}
use Rattle.node.specs.declared.messages.Peer.{Peer}
use Rattle.node.specs.declared.messages.Input.{Input}
use Rattle.node.specs.declared.messages.Input.TheVariants.{Call as Called, From, Gone}
use Rattle.node.specs.Views.{has, union, single}
use Rattle.node.specs.Steps.{step}
use Rattle.world.specs.declared.events.Event.{Event}
use Rattle.world.specs.declared.events.Event.TheVariants.{Piece, Begin, Work, Deliver, Fail, Tell, Hand}
use Rattle.world.specs.Connections.{Connection, asked, to_work}
use Rattle.world.specs.Worlds.{World, server, link, with_server, with_link, with_connection, lives, has_failed, takes}
use Rattle.world.specs.Worlds.{sent_in, worked, delivered, happens, run_from, run_of, opening_world}
use Rattle.world.specs.Failures.{is_failure, is_failed_by}
use Rattle.world.proofs.trace.WorldLaws.{servers-put_all, failed-put_all}
use Rattle.world.proofs.trace.IdLaws.{has-union, has-single_other, nowhere}
use Rattle.world.proofs.trace.Outsets.{count_outset}

-- the same servers live in both worlds
abbrev Alike : World → World → Type 0
Alike w v = (i : ℕ) → lives v i ≡ lives w i

alike : (w v : World) → length v.servers ≡ length w.servers → v.failed ≡ w.failed → Alike w v
alike w v count failed i = rw (count, failed) refl

alike_takes : (w : World) (i : ℕ) (input : Input) → Alike w (takes w i input)
unfolding with_server
alike_takes w i input =
    let outcome = step (server w i) input in
    let u = with_server w i outcome.state in
    alike w (takes w i input)
    (ap (λ ss. length ss) (servers-put_all u i outcome.outputs) ∙ length-set w.servers i outcome.state)
    (failed-put_all u i outcome.outputs)

alike_sent_in : (w : World) (c home : ℕ) (o : Option Call) → Alike w (sent_in w c home o)
unfolding with_connection
alike_sent_in w c home None i = refl
alike_sent_in w c home (Some call) i = alike_takes (with_connection w c asked) home (Called c call) i

alike_worked : (w : World) (c : ℕ) (o : Option Connection) → Alike w (worked w c o)
alike_worked w c None i = refl
alike_worked w c (Some k) i =
    cond_both (lives w k.home) (sent_in w c k.home (to_work k.stage k)) w (λ v. lives v i ≡ lives w i)
    (λ t. alike_sent_in w c k.home (to_work k.stage k) i) (λ t. refl)

alike_delivered : (w : World) (a b : ℕ) (ms : List Peer) → Alike w (delivered w a b ms)
unfolding with_link
alike_delivered w a b [] i = refl
alike_delivered w a b (m ∷ ms) i =
    cond_both (lives w b) (takes (with_link w a b ms) b (From a m)) w (λ v. lives v i ≡ lives w i)
    (λ t. alike_takes (with_link w a b ms) b (From a m) i) (λ t. refl)

alike_told : (w : World) (a b : ℕ) → Alike w (happens w (Tell a b))
alike_told w a b i =
    cond_both (lives w a && has_failed w b) (takes w a (Gone b)) w (λ v. lives v i ≡ lives w i)
    (λ t. alike_takes w a (Gone b) i) (λ t. refl)

and_true : (b : Bool) → b ≡ (b && not false)
and_true true = refl
and_true false = refl

names_itself : (j : ℕ) → has (single j) j ≡ true
unfolding has single
names_itself j = rw (bit_at-pow_same j) refl

-- a failure
failing : (w : World) (j i : ℕ)
    → lives (record w { failed = union w.failed (single j) }) i ≡ (lives w i && not (i == j))
failing w j i =
    elim (cases_eq i j) [
      | inl same ↦ rw (has-union w.failed (single j) i, same, names_itself j, eq-eqb j j refl)
          (none_left (nat_lt j (length w.servers)) (has w.failed j))
      | inr other ↦
          let apart : (i == j) ≡ false = grind (arith, nat_tests) in
          rw (has-union w.failed (single j) i, has-single_other j i other, apart)
          (same_left (nat_lt i (length w.servers)) (has w.failed i))
    ]
  where
    none_left : (a b : Bool) → (a && not (b || true)) ≡ ((a && not b) && not true)
    none_left true true = refl
    none_left true false = refl
    none_left false b = refl

    same_left : (a b : Bool) → (a && not (b || false)) ≡ ((a && not b) && not false)
    same_left true true = refl
    same_left true false = refl
    same_left false b = refl

failed_before : (w : World) (j i : ℕ) → lives w j ≡ false → lives w i ≡ (lives w i && not (i == j))
failed_before w j i dead =
    elim (cases_eq i j) [
      | inl same ↦ rw (same, dead) refl
      | inr other ↦ let apart : (i == j) ≡ false = grind (arith, nat_tests) in rw apart (and_true (lives w i))
    ]

lives_after : (w : World) (e : Event) (i : ℕ) → lives (happens w e) i ≡ (lives w i && not (is_failure e i))
unfolding with_connection
lives_after w (Piece c bytes) i = and_true (lives w i)
lives_after w (Begin c) i = and_true (lives w i)
lives_after w (Work c) i = alike_worked w c (slice_get w.connections c) i ∙ and_true (lives w i)
lives_after w (Deliver a b) i = alike_delivered w a b (link w a b) i ∙ and_true (lives w i)
lives_after w (Fail j) i =
    cond_both (lives w j) (record w { failed = union w.failed (single j) }) w
    (λ v. lives v i ≡ (lives w i && not (i == j)))
    (λ t. failing w j i) (λ dead. failed_before w j i dead)
lives_after w (Tell a b) i = alike_told w a b i ∙ and_true (lives w i)
lives_after w (Hand c) i = and_true (lives w i)

and_not : (a b c : Bool) → ((a && not b) && not c) ≡ (a && not (b || c))
and_not true true c = refl
and_not true false c = refl
and_not false b c = refl

lives_run : (w : World) (es : List Event) (i : ℕ) → lives (run_from w es) i ≡ (lives w i && not (is_failed_by es i))
lives_run w [] i = and_true (lives w i)
lives_run w (e ∷ es) i =
    lives_run (happens w e) es i ∙ ap (λ b. b && not (is_failed_by es i)) (lives_after w e i)
    ∙ and_not (lives w i) (is_failure e i) (is_failed_by es i)

-- after each schedule a server of the chain lives exactly if no event is its failure
pub lives_where_not_failed : (count : ℕ) (homes : List ℕ) (events : List Event) (i : ℕ)
    → lives (run_of count homes events) i ≡ (nat_lt i count && not (is_failed_by events i))
lives_where_not_failed count homes events i =
    lives_run (opening_world count homes) events i ∙ ap (λ b. b && not (is_failed_by events i)) opening
  where
    alive : (b : Bool) → (b && true) ≡ b
    alive true = refl
    alive false = refl

    opening : lives (opening_world count homes) i ≡ nat_lt i count
    opening = rw (count_outset count homes, nowhere i) (alive (nat_lt i count))
