-- A tail that was called gone serves a connection: its session makes up an answer, which isn't written.
use Rattle.std.proofs.Common.{◌≡◌, ◌≢◌, ℕ, zero, suc, ◌<◌, Bool, true, false, List, [], ◌++◌, length, take}
use Rattle.std.proofs.Common.{Option, None, refl, arith}
use Rattle.std.proofs.Common.{ap, sym, ◌∙◌, subst, inl, inr}
use Rattle.std.specs.Prelude.{codes}
use Rattle.std.specs.FinMap.{empty, get-empty}
use Rattle.std.proofs.lemmas.Bool.{cases_eq}
use Rattle.std.proofs.lemmas.List.{take_all}
use Rattle.table.specs.Items.{Item}
use Rattle.table.specs.Keys.{key_cmp}
use Rattle.table.specs.Plain.{item_at}
use Rattle.table.specs.declared.operations.Reply.TheVariants.{Value}
use Rattle.node.specs.Joining.{widened, taken_all, sent_again, forwarded, replies_to, promoted_to_head}
use Rattle.node.specs.Joining.{promoted_to_tail, caught_up, acked_to_predecessor, asks_renewed}
use Rattle.node.specs.Numbering.{left_open, replies, risen, appended, passed_on, take_update, entered}
use Rattle.node.specs.Reading.{answered as answered_there}
use Rattle.node.specs.Servers.{most}
use Rattle.node.specs.Steps.{trimmed}
use Rattle.node.specs.Views.{has, union, single, is_below, adds, next_from, predecessor}
use Rattle.proto.specs.Words.{line_limit}
use Rattle.interleavings.specs.Chains.{with_at}
use Rattle.interleavings.specs.Moves.{read_of}
use Rattle.interleavings.specs.Connections.{Connection, opening_connection, heard, begun, made, answered}
use Rattle.interleavings.specs.Served.{ServedCall}
use Rattle.interleavings.specs.WorkedRuns.{key}
use Rattle.interleavings.specs.LeasedMoves.{home_of}
use Rattle.interleavings.specs.LeasedOrders.{IsBegunBy}
use Rattle.interleavings.specs.LeasedServing.{LeasedServing, leased_serving, made_up}
use Rattle.interleavings.specs.LeasedServing.{IsLeasedServing, IsOrderBeforeGone}
use Rattle.interleavings.specs.WorkedLeases.{serving_homes, head_serves, old_tail_serves, serving_moves}
use Rattle.interleavings.proofs.lists.ChangedFunctions.{at_same, at_other}
use Rattle.interleavings.proofs.leased.StoppedServing.{order_before_gone}

abbrev last : LeasedServing
last = leased_serving 2 serving_homes serving_moves

-- the connection of the old tail: its bytes are read, its session gives the get, that is made, and gets this reply
abbrev get_read : Connection
get_read = begun (heard (codes "get a\r\n") opening_connection)

abbrev get_made : Connection
get_made = made (read_of key) get_read

abbrev get_answered : Option Item → Connection
get_answered found = answered (Value found) get_made

-- who was called gone
called_are : last.called ≡ with_at (λ i. false) 1 true
unfolding serving_moves head_serves old_tail_serves with_at line_limit has union single is_below adds next_from
    predecessor most appended entered widened taken_all sent_again forwarded replies_to trimmed left_open replies risen
    passed_on take_update promoted_to_head promoted_to_tail caught_up acked_to_predecessor asks_renewed answered_there
called_are = refl

-- no message arrived
arrived_are : last.arrived ≡ (λ i j. 0)
unfolding serving_moves head_serves old_tail_serves with_at line_limit has union single is_below adds next_from
    predecessor most appended entered widened taken_all sent_again forwarded replies_to trimmed left_open replies risen
    passed_on take_update promoted_to_head promoted_to_tail caught_up acked_to_predecessor asks_renewed answered_there
arrived_are = refl

-- the connections of the seat there
tail_connections : last.serving.connections 1
    ≡ with_at
    (with_at
    (with_at (with_at (λ n. opening_connection) 0 (heard (codes "get a\r\n") opening_connection)) 0 get_read) 0
    get_made) 0 (get_answered (item_at empty key))
unfolding serving_moves head_serves old_tail_serves with_at line_limit has union single is_below adds next_from
    predecessor most appended entered widened taken_all sent_again forwarded replies_to trimmed left_open replies risen
    passed_on take_update promoted_to_head promoted_to_tail caught_up acked_to_predecessor asks_renewed answered_there
tail_connections = refl

-- the head's client is written that its set is stored,
pub head_written : (last.serving.connections 0 0).written ≡ codes "STORED\r\n"
unfolding serving_moves head_serves old_tail_serves with_at line_limit has union single is_below adds next_from
    predecessor most appended entered widened taken_all sent_again forwarded replies_to trimmed left_open replies risen
    passed_on take_update promoted_to_head promoted_to_tail caught_up acked_to_predecessor asks_renewed answered_there
head_written = refl

tail_connection : last.serving.connections 1 0 ≡ get_answered None
tail_connection =
    ap (λ (f : ℕ → Connection). f 0) tail_connections ∙ at_same _ 0 _ ∙ ap get_answered (get-empty key_cmp key)

end_made_up : made_up (get_answered None) ≡ codes "END\r\n"
unfolding line_limit
end_made_up = refl

-- the old tail's session makes up that there is nothing,
pub tail_made_up : made_up (last.serving.connections 1 0) ≡ codes "END\r\n"
tail_made_up = ap made_up tail_connection ∙ end_made_up

none_there : (get_answered None).written ≡ []
unfolding line_limit
none_there = refl

-- and nothing of it is written
pub tail_unwritten : (last.serving.connections 1 0).written ≡ []
tail_unwritten = ap (λ (k : Connection). k.written) tail_connection ∙ none_there

unwritten : (n : ℕ) → (last.serving.connections 1 n).written ≡ []
unwritten n = elim (cases_eq n 0) [
  | inl same ↦ rw same tail_unwritten
  | inr other ↦
      ap (λ (f : ℕ → Connection). (f n).written) tail_connections
      ∙ ap (λ (k : Connection). k.written) (at_other _ 0 _ n other ∙ at_other _ 0 _ n other ∙ at_other _ 0 _ n other
      ∙ at_other _ 0 _ n other)
]

whole : leased_serving 2 serving_homes (take (length serving_moves) serving_moves) ≡ last
whole = ap (leased_serving 2 serving_homes) (take_all (length serving_moves) serving_moves (omega arith))

below : (a b : ℕ) → a ≡ b → a < b → ⊥
below a b e l = omega (arith, e, l)

home_apart : (c : ℕ) → c ≢ 1 → home_of 2 serving_homes c ≢ 1
home_apart zero other = λ e. below 0 1 e (omega arith)
home_apart (suc zero) other = λ e. other refl
home_apart (suc (suc c)) other = λ e. below 1 2 (sym e) (omega arith)

-- so all that was put out was made up in time,
pub serving_leased : IsLeasedServing 2 serving_homes serving_moves
serving_leased = record {
  bytes = λ c n. elim (cases_eq c 1) [
    | inl same ↦ rw same (0, refl, record { more = []; all = sym (ap (λ bytes. bytes ++ []) (unwritten n)) })
    | inr other ↦ (
      length serving_moves,
      ap (λ (s : LeasedServing). s.called (home_of 2 serving_homes c)) whole
          ∙ ap (λ (f : ℕ → Bool). f (home_of 2 serving_homes c)) called_are
          ∙ at_other (λ i. false) 1 true (home_of 2 serving_homes c) (home_apart c other),
      subst (λ (s : LeasedServing).
          IsBegunBy (made_up (s.serving.connections c n)) (last.serving.connections c n).written)
          (sym whole)
          (record { more = (last.serving.connections c n).session.out; all = refl }),
    )
  ];
  messages = λ i j. (0, refl, (let e = ap (λ (f : ℕ → ℕ → ℕ). f i j) arrived_are in omega (arith, e)));
}

-- and there is an order
pub serving_order : (h : List ServedCall) × IsOrderBeforeGone 2 serving_homes serving_moves h
serving_order = order_before_gone 2 serving_homes serving_moves serving_leased (omega arith)
