-- A call of a connection that has its reply is published.
use Rattle.std.proofs.Common.{◌≡◌, ℕ, ◌<◌, ◌≤◌, true, List, map, Some, ap, sym, ◌∙◌, subst}
use Rattle.std.specs.Prelude.{slice_get, IsSome, is_some}
use Rattle.std.proofs.lemmas.Bool.{and_from}
use Rattle.world.proofs.lists.Standing.{some_of}
use Rattle.interleavings.specs.Moves.{moved, done}
use Rattle.interleavings.specs.OtherMoves.{is_published_from}
use Rattle.interleavings.specs.OwnPorts.{own_port, with_own_ports}
use Rattle.interleavings.specs.Orders.{reply_to, is_published}
use Rattle.interleavings.specs.ServingMoves.{ServingChain, ServingMove, served, opening_serving}
use Rattle.interleavings.specs.Served.{CallName, call_made, reply_got, id_at_seat, is_call_published}
use Rattle.interleavings.proofs.relation.Replied.{replied_published}
use Rattle.interleavings.proofs.runs.Simulating.{simulates}
use Rattle.interleavings.proofs.served.Along.{opening_order, made_along, order_along, chain_along, asked_along}
use Rattle.interleavings.proofs.served.Names.{ordinal_of, same_reply, made_if_answered, same_id}
use Rattle.interleavings.proofs.served.OwnPortServing.{as_other, got_same, published_alike}

module _ (count : ℕ) (homes : List ℕ) (moves : List ServingMove) (few : count ≤ 16) where
  abbrev last : ServingChain
  last = served done count homes moves

  -- of a run whose seats' numbers are their ports
  pub answered_published : (x : CallName)
      → IsSome (reply_got (served done count homes moves) x)
      → is_call_published (λ c. c) (served done count homes moves) x ≡ true
  answered_published x answered =
      let first = opening_serving count homes in
      let opens = opening_order count homes in
      let ordered = order_along moves first opens in
      let run = made_along moves first opens in
      let same = chain_along moves first opens in
      let r = some_of (reply_got last x) answered in
      let m = made_if_answered last ordered x r.0 r.1 in
      let there : reply_to (moved count homes run) (ordinal_of last x) ≡ Some r.0 =
      ap (λ l. reply_to l (ordinal_of last x)) (sym same) ∙ sym (same_reply last ordered x m.0 m.1) ∙ r.1 in
      let p = replied_published count homes (simulates count homes few) run (ordinal_of last x)
      (asked_along moves first opens) (Rattle.world.proofs.order.Since.is_some _ r.0 there) in
      and_from (is_some (call_made last x)) (is_published_from (λ c. c) last.chain (id_at_seat last x))
      (Rattle.world.proofs.order.Since.is_some _ m.0 m.1)
      (ap (is_published last.chain) (same_id last x) ∙ ap (λ l. is_published l (ordinal_of last x)) same ∙ p)

-- so it is if servers number their own seats
pub own_answered_published : (count : ℕ) (homes : List ℕ) (moves : List ServingMove) (x : CallName) (i : ℕ)
    → count ≤ 16
    → slice_get homes x.seat ≡ Some i
    → i < count
    → IsSome (reply_got (served (with_own_ports homes) count homes moves) x)
    → is_call_published (own_port count homes) (served (with_own_ports homes) count homes moves) x ≡ true
own_answered_published count homes moves x i few here within answered =
    sym (published_alike count homes moves x i here within)
    ∙ answered_published count homes (map (as_other count homes) moves) few x
    (subst (λ o. IsSome o) (sym (got_same count homes moves x)) answered)
