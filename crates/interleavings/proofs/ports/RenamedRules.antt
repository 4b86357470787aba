-- The rules of a server under other ports: of updates and of reads. Each lemma says that the rule of the renamed server
-- gives what the rule gives, renamed.
use Rattle.std.proofs.Common.{◌≡◌, ℕ, ◌+◌, Bool, true, false, cond, List, [], ◌∷◌, ◌++◌, map, Option, None, Some, refl}
use Rattle.std.proofs.Common.{ap, ◌∙◌}
use Rattle.std.specs.Prelude.{◌&&◌, ◌==◌, nat_lt, nat_le, option_map}
use Rattle.table.specs.Operations.{is_update}
use Rattle.table.specs.declared.operations.Call.{Call}
use Rattle.table.specs.declared.operations.Reply.TheVariants.{Value}
use Rattle.table.specs.declared.operations.Target.{Target}
use Rattle.table.specs.declared.operations.Target.TheVariants.{One, All}
use Rattle.versions.specs.Entries.{LogEntry}
use Rattle.versions.specs.Stores.{acked_to, last_number, value_at, is_clean}
use Rattle.node.specs.declared.messages.Body.{Body}
use Rattle.node.specs.declared.messages.Body.TheVariants.{Op, Forward, Ack, Query, Answer}
use Rattle.node.specs.declared.messages.Output.{Output}
use Rattle.node.specs.declared.servers.OpenRead.{OpenRead}
use Rattle.node.specs.declared.servers.OpenUpdate.{OpenUpdate}
use Rattle.node.specs.Numbering.{replies, newly_acked, risen, rise, appended, passed_on, entry_of, is_taken}
use Rattle.node.specs.Numbering.{taken, take_update, entered, is_room_for_update, called, update, receive_op}
use Rattle.node.specs.Numbering.{receive_forward, receive_ack}
use Rattle.node.specs.Reading.{asked, dirty_read, read, read_of, receive_query, open_read, without_read, answered}
use Rattle.node.specs.Reading.{receive_answer}
use Rattle.node.specs.Servers.{ServerState, RuleResult, most, head_of, tail_of, is_head, is_tail, predecessor_of, successor_of}
use Rattle.node.specs.Servers.{silent}
use Rattle.node.specs.Servers.{putting, and_then, message_to, reply_at}
use Rattle.node.specs.Views.{is_that}
use Rattle.interleavings.specs.Ports.{with_port, read_with_port, output_to, renamed, renamed_result}
use Rattle.interleavings.proofs.ports.OpenCalls.{left_open_renamed, replies_renamed, both_renamed, open_read_renamed}
use Rattle.interleavings.proofs.ports.OpenCalls.{without_read_renamed}

module _ (f : ℕ → ℕ) where
  -- ---- what rules are made of

  -- either of two rules' results
  pub either_renamed : (b : Bool) (x y x' y' : RuleResult)
      → x' ≡ renamed_result f x
      → y' ≡ renamed_result f y
      → cond b x' y' ≡ renamed_result f (cond b x y)
  either_renamed true x y x' y' e g = e
  either_renamed false x y x' y' e g = g

  -- either of two servers
  pub either_server : (b : Bool) (x y x' y' : ServerState)
      → x' ≡ renamed f x
      → y' ≡ renamed f y
      → cond b x' y' ≡ renamed f (cond b x y)
  either_server true x y x' y' e g = e
  either_server false x y x' y' e g = g

  -- a message
  pub message_renamed : (s : ServerState) (to : Option ℕ) (body : Body)
      → message_to (renamed f s) to body ≡ map (output_to f) (message_to s to body)
  message_renamed s None body = refl
  message_renamed s (Some to) body = refl

  -- a server that puts out something
  pub putting_renamed : (s : ServerState) (os os' : List Output)
      → os' ≡ map (output_to f) os
      → putting (renamed f s) os' ≡ renamed_result f (putting s os)
  putting_renamed s os os' e = ap (putting (renamed f s)) e

  -- one rule after another
  pub then_renamed : (a a' : RuleResult) (rule rule' : ServerState → RuleResult)
      → a' ≡ renamed_result f a
      → ((s : ServerState) → rule' (renamed f s) ≡ renamed_result f (rule s))
      → and_then a' rule' ≡ renamed_result f (and_then a rule)
  then_renamed a a' rule rule' e g =
      ap (λ x. and_then x rule') e
      ∙ ap (λ (x : RuleResult). record { state = x.state; outputs = map (output_to f) a.outputs ++ x.outputs })
      (g a.state)
      ∙ ap (λ os. record { state = renamed f (rule a.state).state; outputs = os })
      (both_renamed f a.outputs (rule a.state).outputs)

  -- ---- updates

  -- a server that rises
  pub risen_renamed : (s : ServerState) (n : ℕ) → risen (renamed f s) n ≡ renamed f (risen s n)
  unfolding risen
  risen_renamed s n =
      ap (λ us. record (renamed f s) { store = acked_to s.store n; pend = us })
      (left_open_renamed f s.id s.pend (newly_acked s n))

  -- a rise, with what it puts out
  pub rise_renamed : (s : ServerState) (n : ℕ) → rise (renamed f s) n ≡ renamed_result f (rise s n)
  rise_renamed s n =
      let rs = replies s.id s.pend (newly_acked s n) in
      let ms = message_to s (predecessor_of s) (Ack n) in
      ap (λ t. record {
        state = t;
        outputs = replies s.id (map (with_port f) s.pend) (newly_acked s n)
            ++ message_to (renamed f s) (predecessor_of s) (Ack n);
      }) (risen_renamed s n)
      ∙ ap (λ os. record { state = renamed f (risen s n); outputs = os })
      (ap (λ os. os ++ message_to (renamed f s) (predecessor_of s) (Ack n)) (replies_renamed f s.id s.pend (newly_acked s n))
      ∙ ap (λ os. map (output_to f) rs ++ os) (message_renamed s (predecessor_of s) (Ack n))
      ∙ both_renamed f rs ms)

  -- an entry is appended
  pub appended_renamed : (s : ServerState) (e : LogEntry) → appended (renamed f s) e ≡ renamed f (appended s e)
  unfolding appended
  appended_renamed s e = refl

  -- an entry is passed on
  pub passed_on_renamed : (s : ServerState) (e : LogEntry)
      → passed_on (renamed f s) e ≡ renamed_result f (passed_on s e)
  unfolding passed_on
  passed_on_renamed s e =
      either_renamed (is_tail s) (rise s (last_number s.store)) (putting s (message_to s (successor_of s) (Forward e))) _ _
      (rise_renamed s (last_number s.store))
      (putting_renamed s (message_to s (successor_of s) (Forward e)) _ (message_renamed s (successor_of s) (Forward e)))

  -- an update is taken
  pub taken_renamed : (s : ServerState) (origin id : ℕ) (call : Call)
      → taken (renamed f s) origin id call ≡ renamed f (taken s origin id call)
  unfolding taken
  taken_renamed s origin id call =
      either_server (is_taken s origin id) (appended s (entry_of s origin id call)) s _ _
      (appended_renamed s (entry_of s origin id call)) refl

  -- an update is taken at the head, and passed on
  pub take_update_renamed : (s : ServerState) (origin id : ℕ) (call : Call)
      → take_update (renamed f s) origin id call ≡ renamed_result f (take_update s origin id call)
  unfolding take_update
  take_update_renamed s origin id call =
      let e = entry_of s origin id call in
      either_renamed (is_taken s origin id) (passed_on (appended s e) e) (silent s) _ _
      (ap (λ t. passed_on t e) (appended_renamed s e) ∙ passed_on_renamed (appended s e) e) refl

  one_more : (us : List OpenUpdate) (u : OpenUpdate)
      → map (with_port f) us ++ with_port f u ∷ [] ≡ map (with_port f) (us ++ u ∷ [])
  one_more [] u = refl
  one_more (x ∷ us) u = ap (λ vs. with_port f x ∷ vs) (one_more us u)

  -- a call enters the open ones, at its new port
  pub entered_renamed : (s : ServerState) (port : ℕ) (call : Call)
      → entered (renamed f s) (f port) call ≡ renamed f (entered s port call)
  unfolding entered
  entered_renamed s port call =
      ap (λ us. record (renamed f s) { pend = us; next_id = s.next_id + 1 })
      (one_more s.pend (record { id = s.next_id; port = port; call = call }))

  -- a call is taken or goes to the head
  pub called_renamed : (s : ServerState) (id : ℕ) (call : Call)
      → called (renamed f s) id call ≡ renamed_result f (called s id call)
  called_renamed s id call =
      either_renamed (is_head s) (take_update s s.id id call) (putting s (message_to s (head_of s) (Op id call))) _ _
      (take_update_renamed s s.id id call)
      (putting_renamed s (message_to s (head_of s) (Op id call)) _ (message_renamed s (head_of s) (Op id call)))

  -- an own update call
  pub update_renamed : (s : ServerState) (port : ℕ) (call : Call)
      → update (renamed f s) (f port) call ≡ renamed_result f (update s port call)
  update_renamed s port call =
      either_renamed (is_room_for_update s) (called (entered s port call) s.next_id call) (silent s) _ _
      (ap (λ t. called t s.next_id call) (entered_renamed s port call)
      ∙ called_renamed (entered s port call) s.next_id call) refl

  -- an op comes
  pub receive_op_renamed : (s : ServerState) (i id : ℕ) (call : Call)
      → receive_op (renamed f s) i id call ≡ renamed_result f (receive_op s i id call)
  receive_op_renamed s i id call =
      either_renamed (is_head s && is_update call.op) (take_update s i id call) (silent s) _ _
      (take_update_renamed s i id call) refl

  -- a forward comes
  pub receive_forward_renamed : (s : ServerState) (i : ℕ) (e : LogEntry)
      → receive_forward (renamed f s) i e ≡ renamed_result f (receive_forward s i e)
  receive_forward_renamed s i e =
      either_renamed (is_that (predecessor_of s) i && e.number == last_number s.store + 1) (passed_on (appended s e) e)
      (silent s) _ _ (ap (λ t. passed_on t e) (appended_renamed s e) ∙ passed_on_renamed (appended s e) e) refl

  -- an acknowledgement comes
  pub receive_ack_renamed : (s : ServerState) (i n : ℕ)
      → receive_ack (renamed f s) i n ≡ renamed_result f (receive_ack s i n)
  receive_ack_renamed s i n =
      either_renamed (is_that (successor_of s) i && nat_lt s.store.acked n && nat_le n (last_number s.store)) (rise s n)
      (silent s) _ _ (rise_renamed s n) refl

  -- ---- reads

  one_read_more : (rs : List OpenRead) (r : OpenRead)
      → map (read_with_port f) rs ++ read_with_port f r ∷ [] ≡ map (read_with_port f) (rs ++ r ∷ [])
  one_read_more [] r = refl
  one_read_more (x ∷ rs) r = ap (λ qs. read_with_port f x ∷ qs) (one_read_more rs r)

  -- a read waits, at its new port
  pub asked_renamed : (s : ServerState) (port : ℕ) (key : List ℕ)
      → asked (renamed f s) (f port) key ≡ renamed f (asked s port key)
  unfolding asked
  asked_renamed s port key =
      ap (λ rs. record (renamed f s) { asks = rs; next_ask = s.next_ask + 1 })
      (one_read_more s.asks (record { ask = s.next_ask; port = port; key = key; lower_bound = s.store.acked }))

  -- a read of a dirty key
  pub dirty_read_renamed : (s : ServerState) (port : ℕ) (key : List ℕ)
      → dirty_read (renamed f s) (f port) key ≡ renamed_result f (dirty_read s port key)
  unfolding dirty_read
  dirty_read_renamed s port key =
      let ms = message_to s (tail_of s) (Query s.next_ask key) in
      either_renamed (nat_lt s.next_ask most) (putting (asked s port key) ms) (silent s) _ _
      (ap (λ t. putting t (message_to (renamed f s) (tail_of s) (Query s.next_ask key))) (asked_renamed s port key)
      ∙ putting_renamed (asked s port key) ms _ (message_renamed s (tail_of s) (Query s.next_ask key))) refl

  -- a read of a key
  pub read_renamed : (s : ServerState) (port : ℕ) (key : List ℕ)
      → read (renamed f s) (f port) key ≡ renamed_result f (read s port key)
  read_renamed s port key =
      either_renamed (is_clean s.store key)
      (putting s (reply_at port (Value (value_at s.store key (last_number s.store))))) (dirty_read s port key) _ _ refl
      (dirty_read_renamed s port key)

  -- a read of a target
  pub read_of_renamed : (s : ServerState) (port : ℕ) (target : Target)
      → read_of (renamed f s) (f port) target ≡ renamed_result f (read_of s port target)
  read_of_renamed s port (One key) = read_renamed s port key
  read_of_renamed s port All = refl

  -- a query comes
  pub receive_query_renamed : (s : ServerState) (i ask : ℕ)
      → receive_query (renamed f s) i ask ≡ renamed_result f (receive_query s i ask)
  receive_query_renamed s i ask =
      let ms = message_to s (Some i) (Answer ask (last_number s.store)) in
      either_renamed (is_tail s) (putting s ms) (silent s) _ _ refl refl

  -- an open read is answered
  pub answered_renamed : (s : ServerState) (ask n : ℕ) (o : Option OpenRead)
      → answered (renamed f s) ask n (option_map (read_with_port f) o) ≡ renamed_result f (answered s ask n o)
  unfolding answered
  answered_renamed s ask n None = refl
  answered_renamed s ask n (Some r) =
      either_renamed (nat_le r.lower_bound n && nat_le n (last_number s.store))
      (record {
        state = record s { asks = without_read s.asks ask };
        outputs = reply_at r.port
            (Value (value_at s.store r.key n));
      })
      (silent s) _ _
      (ap (λ rs. record {
        state = record (renamed f s) { asks = rs };
        outputs = reply_at (f r.port) (Value (value_at s.store r.key n));
      }) (without_read_renamed f s.asks ask)) refl

  -- an answer comes
  pub receive_answer_renamed : (s : ServerState) (i ask n : ℕ)
      → receive_answer (renamed f s) i ask n ≡ renamed_result f (receive_answer s i ask n)
  receive_answer_renamed s i ask n =
      either_renamed (is_that (tail_of s) i) (answered s ask n (open_read s.asks ask)) (silent s) _ _
      (ap (answered (renamed f s) ask n) (open_read_renamed f s.asks ask)
      ∙ answered_renamed s ask n (open_read s.asks ask))
      refl
