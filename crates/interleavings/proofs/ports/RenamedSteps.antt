-- Joins and steps of a server under other ports.
use Rattle.std.proofs.Common.{◌≡◌, ℕ, List, [], ◌∷◌, ◌++◌, map, refl, ap, ◌∙◌}
use Rattle.std.specs.Prelude.{not, ◌&&◌, ◌==◌, nat_lt}
use Rattle.table.specs.Operations.{is_update}
use Rattle.table.specs.declared.operations.Call.{Call}
use Rattle.table.specs.declared.operations.Reply.TheVariants.{Value}
use Rattle.versions.specs.Entries.{LogEntry}
use Rattle.versions.specs.Stores.{dropped_to, last_number, value_at, entries_after}
use Rattle.node.specs.declared.messages.Body.{Body}
use Rattle.node.specs.declared.messages.Body.TheVariants.{Op, Forward, Ack, Query, Answer}
use Rattle.node.specs.declared.messages.Input.{Input}
use Rattle.node.specs.declared.messages.Input.TheVariants.{Call as Called, From, Gone}
use Rattle.node.specs.declared.messages.Peer.{Peer}
use Rattle.node.specs.declared.servers.OpenRead.{OpenRead}
use Rattle.node.specs.declared.servers.OpenUpdate.{OpenUpdate}
use Rattle.node.specs.Joining.{widened, taken_all, sent_again, promoted_to_head, promoted_to_tail, forwarded}
use Rattle.node.specs.Joining.{needed_above, caught_up, acked_to_predecessor, replies_to, asked_again, asks_renewed}
use Rattle.node.specs.Joining.{rejoined, join}
use Rattle.node.specs.Numbering.{taken, rise, update}
use Rattle.node.specs.Reading.{read_of}
use Rattle.node.specs.Servers.{ServerState, head_of, tail_of, is_head, is_tail, predecessor_of, successor_of, silent, putting}
use Rattle.node.specs.Servers.{and_then, message_to, reply_at}
use Rattle.node.specs.Steps.{call, gone, receive, received, is_heard, from_peer, taken_in, trimmed, step}
use Rattle.node.specs.Views.{View, has, single, adds, head, tail, predecessor, is_that, is_same}
use Rattle.interleavings.specs.Ports.{with_port, read_with_port, output_to, input_at, renamed, renamed_result}
use Rattle.interleavings.proofs.ports.OpenCalls.{both_renamed, least_open_renamed}
use Rattle.interleavings.proofs.ports.RenamedRules.{either_renamed, message_renamed, putting_renamed, then_renamed}
use Rattle.interleavings.proofs.ports.RenamedRules.{rise_renamed, taken_renamed, update_renamed, read_of_renamed}
use Rattle.interleavings.proofs.ports.RenamedRules.{receive_op_renamed, receive_forward_renamed, receive_ack_renamed}
use Rattle.interleavings.proofs.ports.RenamedRules.{receive_query_renamed, receive_answer_renamed}

module _ (f : ℕ → ℕ) where
  -- ---- the six steps of a join

  widened_renamed : (s : ServerState) (v : View) → widened (renamed f s) v ≡ renamed f (widened s v)
  unfolding widened
  widened_renamed s v = refl

  taken_all_renamed : (s : ServerState) (us : List OpenUpdate)
      → taken_all (renamed f s) (map (with_port f) us) ≡ renamed f (taken_all s us)
  unfolding taken_all
  taken_all_renamed s [] = refl
  taken_all_renamed s (u ∷ us) =
      ap (λ t. taken_all t (map (with_port f) us)) (taken_renamed f s s.id u.id u.call)
      ∙ taken_all_renamed (taken s s.id u.id u.call) us

  sent_again_renamed : (s : ServerState) (us : List OpenUpdate)
      → sent_again (renamed f s) (map (with_port f) us) ≡ map (output_to f) (sent_again s us)
  unfolding sent_again
  sent_again_renamed s [] = refl
  sent_again_renamed s (u ∷ us) =
      ap (λ os. os ++ sent_again (renamed f s) (map (with_port f) us))
      (message_renamed f s (head_of s) (Op u.id u.call))
      ∙ ap (λ os. map (output_to f) (message_to s (head_of s) (Op u.id u.call)) ++ os) (sent_again_renamed s us)
      ∙ both_renamed f (message_to s (head_of s) (Op u.id u.call)) (sent_again s us)

  to_head_renamed : (old : View) (s : ServerState)
      → promoted_to_head old (renamed f s) ≡ renamed_result f (promoted_to_head old s)
  unfolding promoted_to_head
  to_head_renamed old s =
      either_renamed f (is_head s) _ _ _ _
      (either_renamed f (is_that (head old s.count) s.id) (silent s) (silent (taken_all s s.pend)) _ _ refl
      (ap silent (taken_all_renamed s s.pend)))
      (either_renamed f (is_same (head old s.count) (head_of s)) (silent s) (putting s (sent_again s s.pend)) _ _ refl
      (putting_renamed f s (sent_again s s.pend) _ (sent_again_renamed s s.pend)))

  to_tail_renamed : (s : ServerState) → promoted_to_tail (renamed f s) ≡ renamed_result f (promoted_to_tail s)
  unfolding promoted_to_tail
  to_tail_renamed s =
      either_renamed f (is_tail s && nat_lt s.store.acked (last_number s.store)) (rise s (last_number s.store))
      (silent s) _ _ (rise_renamed f s (last_number s.store)) refl

  forwarded_renamed : (s : ServerState) (es : List LogEntry)
      → forwarded (renamed f s) es ≡ map (output_to f) (forwarded s es)
  unfolding forwarded
  forwarded_renamed s [] = refl
  forwarded_renamed s (e ∷ es) =
      ap (λ os. os ++ forwarded (renamed f s) es) (message_renamed f s (successor_of s) (Forward e))
      ∙ ap (λ os. map (output_to f) (message_to s (successor_of s) (Forward e)) ++ os) (forwarded_renamed s es)
      ∙ both_renamed f (message_to s (successor_of s) (Forward e)) (forwarded s es)

  caught_up_renamed : (old : View) (last : ℕ) (s : ServerState)
      → caught_up old last (renamed f s) ≡ renamed_result f (caught_up old last s)
  unfolding caught_up
  caught_up_renamed old last s =
      let es = entries_after s.store (needed_above old last s) in
      putting_renamed f s (forwarded s es) _ (forwarded_renamed s es)

  to_predecessor_renamed : (old : View) (acked : ℕ) (s : ServerState)
      → acked_to_predecessor old acked (renamed f s) ≡ renamed_result f (acked_to_predecessor old acked s)
  unfolding acked_to_predecessor
  to_predecessor_renamed old acked s =
      let ms = message_to s (predecessor_of s) (Ack s.store.acked) in
      either_renamed f (not (is_same (predecessor old s.id) (predecessor_of s)) && s.store.acked == acked) (putting s ms)
      (silent s) _ _ (putting_renamed f s ms _ (message_renamed f s (predecessor_of s) (Ack s.store.acked))) refl

  replies_to_renamed : (s : ServerState) (rs : List OpenRead)
      → replies_to (renamed f s) (map (read_with_port f) rs) ≡ map (output_to f) (replies_to s rs)
  unfolding replies_to
  replies_to_renamed s [] = refl
  replies_to_renamed s (r ∷ rs) =
      ap (λ os. reply_at (f r.port) (Value (value_at s.store r.key (last_number s.store))) ++ os)
      (replies_to_renamed s rs)

  asked_again_renamed : (s : ServerState) (rs : List OpenRead)
      → asked_again (renamed f s) (map (read_with_port f) rs) ≡ map (output_to f) (asked_again s rs)
  unfolding asked_again
  asked_again_renamed s [] = refl
  asked_again_renamed s (r ∷ rs) =
      ap (λ os. os ++ asked_again (renamed f s) (map (read_with_port f) rs))
      (message_renamed f s (tail_of s) (Query r.ask r.key))
      ∙ ap (λ os. map (output_to f) (message_to s (tail_of s) (Query r.ask r.key)) ++ os) (asked_again_renamed s rs)
      ∙ both_renamed f (message_to s (tail_of s) (Query r.ask r.key)) (asked_again s rs)

  asks_renewed_renamed : (old : View) (s : ServerState)
      → asks_renewed old (renamed f s) ≡ renamed_result f (asks_renewed old s)
  unfolding asks_renewed
  asks_renewed_renamed old s =
      either_renamed f (is_same (tail old s.count) (tail_of s)) (silent s) _ _ _ refl
      (either_renamed f (is_tail s) (record { state = record s { asks = [] }; outputs = replies_to s s.asks })
      (putting s (asked_again s s.asks)) _ _
      (ap (λ os. record { state = record (renamed f s) { asks = [] }; outputs = os }) (replies_to_renamed s s.asks))
      (putting_renamed f s (asked_again s s.asks) _ (asked_again_renamed s s.asks)))

  rejoined_renamed : (old : View) (last acked : ℕ) (s : ServerState)
      → rejoined old last acked (renamed f s) ≡ renamed_result f (rejoined old last acked s)
  rejoined_renamed old last acked s =
      then_renamed f _ _ (asks_renewed old) (asks_renewed old)
      (then_renamed f _ _ (acked_to_predecessor old acked) (acked_to_predecessor old acked)
      (then_renamed f _ _ (caught_up old last) (caught_up old last)
      (then_renamed f _ _ promoted_to_tail promoted_to_tail (to_head_renamed old s) to_tail_renamed)
      (caught_up_renamed old last)) (to_predecessor_renamed old acked)) (asks_renewed_renamed old)

  join_renamed : (s : ServerState) (v : View) → join (renamed f s) v ≡ renamed_result f (join s v)
  join_renamed s v =
      either_renamed f (not (adds s.view v)) (silent s)
      (rejoined s.view (last_number s.store) s.store.acked (widened s v)) _ _ refl
      (ap (rejoined s.view (last_number s.store) s.store.acked) (widened_renamed s v)
      ∙ rejoined_renamed s.view (last_number s.store) s.store.acked (widened s v))

  -- ---- steps

  call_renamed : (s : ServerState) (port : ℕ) (asked : Call)
      → call (renamed f s) (f port) asked ≡ renamed_result f (call s port asked)
  call_renamed s port asked =
      either_renamed f (is_update asked.op) (update s port asked) (read_of s port asked.target) _ _
      (update_renamed f s port asked) (read_of_renamed f s port asked.target)

  gone_renamed : (s : ServerState) (j : ℕ) → gone (renamed f s) j ≡ renamed_result f (gone s j)
  gone_renamed s j =
      either_renamed f (nat_lt j s.count && not (j == s.id)) (join s (single j)) (silent s) _ _
      (join_renamed s (single j)) refl

  receive_renamed : (s : ServerState) (i : ℕ) (body : Body)
      → receive (renamed f s) i body ≡ renamed_result f (receive s i body)
  receive_renamed s i (Op id asked) = receive_op_renamed f s i id asked
  receive_renamed s i (Forward e) = receive_forward_renamed f s i e
  receive_renamed s i (Ack n) = receive_ack_renamed f s i n
  receive_renamed s i (Query ask key) = receive_query_renamed f s i ask
  receive_renamed s i (Answer ask n) = receive_answer_renamed f s i ask n

  received_renamed : (i : ℕ) (body : Body) (s : ServerState)
      → received (renamed f s) i body ≡ renamed_result f (received s i body)
  received_renamed i body s =
      either_renamed f (has s.view i) (silent s) (receive s i body) _ _ refl (receive_renamed s i body)

  from_peer_renamed : (s : ServerState) (i : ℕ) (peer : Peer)
      → from_peer (renamed f s) i peer ≡ renamed_result f (from_peer s i peer)
  from_peer_renamed s i peer =
      either_renamed f (is_heard s i peer.view) (and_then (join s peer.view) (λ t. received t i peer.body))
      (silent s) _ _
      (then_renamed f (join s peer.view) _ (λ t. received t i peer.body) (λ t. received t i peer.body)
      (join_renamed s peer.view) (received_renamed i peer.body)) refl

  taken_in_renamed : (s : ServerState) (input : Input)
      → taken_in (renamed f s) (input_at f input) ≡ renamed_result f (taken_in s input)
  taken_in_renamed s (Called port asked) = call_renamed s port asked
  taken_in_renamed s (From i peer) = from_peer_renamed s i peer
  taken_in_renamed s (Gone j) = gone_renamed s j

  trimmed_renamed : (s : ServerState) → trimmed (renamed f s) ≡ renamed f (trimmed s)
  unfolding trimmed
  trimmed_renamed s =
      ap (λ n. record (renamed f s) { store = dropped_to s.store n }) (least_open_renamed f s.store.acked s.asks)

  -- a step of the renamed server, at the renamed input, is the step renamed
  pub step_renamed : (s : ServerState) (input : Input)
      → step (renamed f s) (input_at f input) ≡ renamed_result f (step s input)
  step_renamed s input =
      ap (λ a. record { state = trimmed a.state; outputs = a.outputs }) (taken_in_renamed s input)
      ∙ ap (λ t. record { state = t; outputs = map (output_to f) (taken_in s input).outputs })
      (trimmed_renamed (taken_in s input).state)
