-- How often a port stands at a server: in its open calls, and in replies. A step puts it nowhere else: the replies that
-- it puts out at the port, and the calls that are open there then, are together no more than those that were open there
-- and the input's own.
use Rattle.std.proofs.Common.{◌≡◌, ℕ, ◌+◌, ◌≤◌, Bool, true, false, cond, List, [], ◌∷◌, ◌++◌, length, Option, None}
use Rattle.std.proofs.Common.{Some}
use Rattle.std.proofs.Common.{refl, arith, ap, ◌∙◌, length-append}
use Rattle.std.specs.Prelude.{◌&&◌, ◌==◌, nat_lt, nat_le, not}
use Rattle.table.specs.Operations.{is_update}
use Rattle.table.specs.declared.operations.Call.{Call}
use Rattle.table.specs.declared.operations.Reply.{Reply}
use Rattle.table.specs.declared.operations.Reply.TheVariants.{Value}
use Rattle.table.specs.declared.operations.Target.{Target}
use Rattle.table.specs.declared.operations.Target.TheVariants.{One, All}
use Rattle.versions.specs.Entries.{LogEntry}
use Rattle.versions.specs.Stores.{last_number, value_at, is_clean, entries_after}
use Rattle.node.specs.declared.messages.Body.{Body}
use Rattle.node.specs.declared.messages.Body.TheVariants.{Op, Forward, Ack, Query, Answer}
use Rattle.node.specs.declared.messages.Input.{Input}
use Rattle.node.specs.declared.messages.Input.TheVariants.{Call as Called, From, Gone}
use Rattle.node.specs.declared.messages.Output.{Output}
use Rattle.node.specs.declared.messages.Peer.{Peer}
use Rattle.node.specs.declared.servers.OpenRead.{OpenRead}
use Rattle.node.specs.declared.servers.OpenUpdate.{OpenUpdate}
use Rattle.node.specs.Numbering.{left_open_by, left_open, open_update, without_update, replied, reply_to, replies}
use Rattle.node.specs.Numbering.{newly_acked, risen, rise, appended, passed_on, entry_of, is_taken, taken, take_update}
use Rattle.node.specs.Numbering.{entered, is_room_for_update, called, update, receive_op, receive_forward, receive_ack}
use Rattle.node.specs.Reading.{asked, dirty_read, read, read_of, receive_query, open_read, without_read, answered}
use Rattle.node.specs.Reading.{receive_answer}
use Rattle.node.specs.Servers.{ServerState, RuleResult, most, head_of, tail_of, is_head, is_tail, predecessor_of}
use Rattle.node.specs.Servers.{successor_of, silent, putting, and_then, message_to, reply_at}
use Rattle.node.specs.Joining.{widened, taken_all, sent_again, promoted_to_head, promoted_to_tail, forwarded}
use Rattle.node.specs.Joining.{needed_above, caught_up, acked_to_predecessor, asked_again, asks_renewed, rejoined, join}
use Rattle.node.specs.Joining.{replies_to as all_replies_to}
use Rattle.node.specs.Steps.{receive, received, is_heard, from_peer, taken_in, trimmed, step}
use Rattle.node.specs.Views.{View, adds, head, tail, predecessor, is_that, is_same, has, single}
use Rattle.interleavings.specs.Chains.{replies_to, calls_from}
use Rattle.interleavings.proofs.lists.Joined.{replies_to-append}

module _ (p : ℕ) where
  -- how many of these updates are open at the port,
  abbrev pub updates_there : List OpenUpdate → ℕ
  updates_there [] = 0
  updates_there (u ∷ us) = cond (u.port == p) 1 0 + updates_there us

  -- of these reads,
  abbrev pub reads_there : List OpenRead → ℕ
  reads_there [] = 0
  reads_there (r ∷ rs) = cond (r.port == p) 1 0 + reads_there rs

  -- of a server's calls;
  abbrev pub open_there : ServerState → ℕ
  open_there s = updates_there s.pend + reads_there s.asks

  -- and how many of these outputs are replies there
  abbrev pub replies_there : List Output → ℕ
  replies_there os = length (replies_to p os)

  -- What is open and replied to then is no more than n.
  abbrev pub IsWithin : ℕ → RuleResult → Type 0
  IsWithin n a = open_there a.state + replies_there a.outputs ≤ n

  both_there : (os ps : List Output) → replies_there (os ++ ps) ≡ replies_there os + replies_there ps
  both_there os ps = ap length (replies_to-append p os ps) ∙ length-append (replies_to p os) (replies_to p ps)

  -- ---- what rules are made of

  either : (b : Bool) (n : ℕ) (x y : RuleResult) → IsWithin n x → IsWithin n y → IsWithin n (cond b x y)
  either true n x y e f = e
  either false n x y e f = f

  message_none : (s : ServerState) (to : Option ℕ) (body : Body) → replies_there (message_to s to body) ≡ 0
  message_none s None body = refl
  message_none s (Some to) body = refl

  nothing : (s : ServerState) (n : ℕ) → open_there s ≤ n → IsWithin n (silent s)
  nothing s n h = omega (arith, h)

  sends : (s : ServerState) (n : ℕ) (to : Option ℕ) (body : Body)
      → open_there s ≤ n
      → IsWithin n (putting s (message_to s to body))
  sends s n to body h = omega (arith, h, message_none s to body)

  none_put : (s : ServerState) (n : ℕ) (os : List Output)
      → open_there s ≤ n
      → replies_there os ≡ 0
      → IsWithin n (putting s os)
  none_put s n os h none = omega (arith, h, none)

  -- one rule after another
  in_turn : (a : RuleResult) (rule : ServerState → RuleResult) (n : ℕ)
      → IsWithin n a
      → ((s : ServerState) → IsWithin (open_there s) (rule s))
      → IsWithin n (and_then a rule)
  in_turn a rule n h keeps =
      omega (arith, h, keeps a.state, both_there a.outputs (rule a.state).outputs)

  -- ---- updates

  -- the update of an id, if it is open, is replied to and open no longer
  one_closed : (us : List OpenUpdate) (id : ℕ) (reply : Reply)
      → updates_there (without_update us id) + replies_there (replied reply (open_update us id)) ≤ updates_there us
  one_closed [] id reply = omega arith
  one_closed (u ∷ us) id reply = by (u.id == id) (one_closed us id reply)
    where
      at : (b : Bool) → length (cond b (reply ∷ []) []) ≡ cond b 1 0
      at true = refl
      at false = refl

      by : (b : Bool)
          → updates_there (without_update us id) + replies_there (replied reply (open_update us id))
          ≤ updates_there us
          → updates_there (cond b us (u ∷ without_update us id))
          + replies_there (replied reply (cond b (Some u) (open_update us id)))
          ≤ cond (u.port == p) 1 0 + updates_there us
      by true h = omega (arith, at (u.port == p))
      by false h = omega (arith, h)

  entry_closed : (me : ℕ) (us : List OpenUpdate) (e : LogEntry)
      → updates_there (left_open_by me us e) + replies_there (reply_to me us e) ≤ updates_there us
  entry_closed me us e = by (e.origin == me)
    where
      by : (b : Bool)
          → updates_there (cond b (without_update us e.id) us)
          + replies_there (cond b (replied e.reply (open_update us e.id)) [])
          ≤ updates_there us
      by true = one_closed us e.id e.reply
      by false = omega arith

  entries_closed : (me : ℕ) (us : List OpenUpdate) (es : List LogEntry)
      → updates_there (left_open me us es) + replies_there (replies me us es) ≤ updates_there us
  unfolding left_open replies
  entries_closed me us [] = omega arith
  entries_closed me us (e ∷ es) =
      let vs = left_open_by me us e in
      omega (
        arith,
        entry_closed me us e,
        entries_closed me vs es,
        both_there (reply_to me us e) (replies me vs es),
      )

  rises : (s : ServerState) (n : ℕ) → IsWithin (open_there s) (rise s n)
  unfolding risen
  rises s n =
      let es = newly_acked s n in
      omega (
        arith,
        entries_closed s.id s.pend es,
        message_none s (predecessor_of s) (Ack n),
        both_there (replies s.id s.pend es) (message_to s (predecessor_of s) (Ack n)),
      )

  appends : (s : ServerState) (e : LogEntry) → open_there (appended s e) ≡ open_there s
  unfolding appended
  appends s e = refl

  passes_on : (s : ServerState) (e : LogEntry) → IsWithin (open_there s) (passed_on s e)
  unfolding passed_on
  passes_on s e =
      either (is_tail s) (open_there s) (rise s (last_number s.store))
      (putting s (message_to s (successor_of s) (Forward e))) (rises s (last_number s.store))
      (sends s (open_there s) (successor_of s) (Forward e) (omega arith))

  appends_on : (s : ServerState) (e : LogEntry) → IsWithin (open_there s) (passed_on (appended s e) e)
  appends_on s e = omega (arith, appends s e, passes_on (appended s e) e)

  takes : (s : ServerState) (origin id : ℕ) (asked : Call) → open_there (taken s origin id asked) ≡ open_there s
  unfolding taken
  takes s origin id asked = by (is_taken s origin id)
    where
      by : (b : Bool) → open_there (cond b (appended s (entry_of s origin id asked)) s) ≡ open_there s
      by true = appends s (entry_of s origin id asked)
      by false = refl

  takes_update : (s : ServerState) (origin id : ℕ) (asked : Call)
      → IsWithin (open_there s) (take_update s origin id asked)
  unfolding take_update
  takes_update s origin id asked =
      let e = entry_of s origin id asked in
      either (is_taken s origin id) (open_there s) (passed_on (appended s e) e) (silent s) (appends_on s e)
      (nothing s (open_there s) (omega arith))

  one_more : (us : List OpenUpdate) (u : OpenUpdate)
      → updates_there (us ++ u ∷ []) ≡ updates_there us + cond (u.port == p) 1 0
  one_more [] u = omega arith
  one_more (x ∷ us) u = omega (arith, one_more us u)

  enters : (s : ServerState) (port : ℕ) (asked : Call)
      → open_there (entered s port asked) ≡ open_there s + cond (port == p) 1 0
  unfolding entered
  enters s port asked = omega (arith, one_more s.pend (record { id = s.next_id; port = port; call = asked }))

  calls_head : (s : ServerState) (id : ℕ) (asked : Call) → IsWithin (open_there s) (called s id asked)
  calls_head s id asked =
      either (is_head s) (open_there s) (take_update s s.id id asked)
      (putting s (message_to s (head_of s) (Op id asked))) (takes_update s s.id id asked)
      (sends s (open_there s) (head_of s) (Op id asked) (omega arith))

  updates : (s : ServerState) (port : ℕ) (asked : Call)
      → IsWithin (open_there s + cond (port == p) 1 0) (update s port asked)
  updates s port asked =
      either (is_room_for_update s) (open_there s + cond (port == p) 1 0)
      (called (entered s port asked) s.next_id asked) (silent s)
      (omega (arith, calls_head (entered s port asked) s.next_id asked, enters s port asked))
      (nothing s (open_there s + cond (port == p) 1 0) (omega arith))

  receives_op : (s : ServerState) (i id : ℕ) (asked : Call) → IsWithin (open_there s) (receive_op s i id asked)
  receives_op s i id asked =
      either (is_head s && is_update asked.op) (open_there s) (take_update s i id asked) (silent s)
      (takes_update s i id asked) (nothing s (open_there s) (omega arith))

  receives_forward : (s : ServerState) (i : ℕ) (e : LogEntry) → IsWithin (open_there s) (receive_forward s i e)
  receives_forward s i e =
      either (is_that (predecessor_of s) i && e.number == last_number s.store + 1) (open_there s)
      (passed_on (appended s e) e) (silent s) (appends_on s e) (nothing s (open_there s) (omega arith))

  receives_ack : (s : ServerState) (i n : ℕ) → IsWithin (open_there s) (receive_ack s i n)
  receives_ack s i n =
      either (is_that (successor_of s) i && nat_lt s.store.acked n && nat_le n (last_number s.store)) (open_there s)
      (rise s n) (silent s) (rises s n) (nothing s (open_there s) (omega arith))

  -- ---- reads

  one_read_more : (rs : List OpenRead) (r : OpenRead)
      → reads_there (rs ++ r ∷ []) ≡ reads_there rs + cond (r.port == p) 1 0
  one_read_more [] r = omega arith
  one_read_more (x ∷ rs) r = omega (arith, one_read_more rs r)

  asks : (s : ServerState) (port : ℕ) (key : List ℕ)
      → open_there (asked s port key) ≡ open_there s + cond (port == p) 1 0
  unfolding asked
  asks s port key =
      omega (
        arith,
        one_read_more s.asks (record { ask = s.next_ask; port = port; key = key; lower_bound = s.store.acked }),
      )

  reads_dirty : (s : ServerState) (port : ℕ) (key : List ℕ)
      → IsWithin (open_there s + cond (port == p) 1 0) (dirty_read s port key)
  unfolding dirty_read
  reads_dirty s port key =
      let n = open_there s + cond (port == p) 1 0 in
      either (nat_lt s.next_ask most) n
      (putting (asked s port key) (message_to s (tail_of s) (Query s.next_ask key))) (silent s)
      (none_put (asked s port key) n (message_to s (tail_of s) (Query s.next_ask key))
      (omega (arith, asks s port key)) (message_none s (tail_of s) (Query s.next_ask key)))
      (nothing s n (omega arith))

  -- one reply counts at its port
  one_reply : (port : ℕ) (reply : Reply) → replies_there (reply_at port reply) ≡ cond (port == p) 1 0
  one_reply port reply = by (port == p)
    where
      by : (b : Bool) → length (cond b (reply ∷ []) []) ≡ cond b 1 0
      by true = refl
      by false = refl

  reads_key : (s : ServerState) (port : ℕ) (key : List ℕ)
      → IsWithin (open_there s + cond (port == p) 1 0) (read s port key)
  reads_key s port key =
      let n = open_there s + cond (port == p) 1 0 in
      let reply = Value (value_at s.store key (last_number s.store)) in
      either (is_clean s.store key) n (putting s (reply_at port reply)) (dirty_read s port key)
      (omega (arith, one_reply port reply)) (reads_dirty s port key)

  reads_target : (s : ServerState) (port : ℕ) (target : Target)
      → IsWithin (open_there s + cond (port == p) 1 0) (read_of s port target)
  reads_target s port (One key) = reads_key s port key
  reads_target s port All = nothing s (open_there s + cond (port == p) 1 0) (omega arith)

  receives_query : (s : ServerState) (i ask : ℕ) → IsWithin (open_there s) (receive_query s i ask)
  receives_query s i ask =
      either (is_tail s) (open_there s) (putting s (message_to s (Some i) (Answer ask (last_number s.store))))
      (silent s) (sends s (open_there s) (Some i) (Answer ask (last_number s.store)) (omega arith))
      (nothing s (open_there s) (omega arith))

  -- the read of an ask that is open is open no longer
  read_closed : (rs : List OpenRead) (ask : ℕ) (r : OpenRead)
      → open_read rs ask ≡ Some r
      → reads_there (without_read rs ask) + cond (r.port == p) 1 0 ≤ reads_there rs
  read_closed [] ask r e = absurd (let no : None ≡ Some r = e in cc)
  read_closed (x ∷ rs) ask r e = by (x.ask == ask) e (read_closed rs ask r)
    where
      by : (b : Bool)
          → cond b (Some x) (open_read rs ask) ≡ Some r
          → (open_read rs ask ≡ Some r
          → reads_there (without_read rs ask) + cond (r.port == p) 1 0 ≤ reads_there rs)
          → reads_there (cond b rs (x ∷ without_read rs ask)) + cond (r.port == p) 1 0
          ≤ cond (x.port == p) 1 0 + reads_there rs
      by true f h = (let same : x ≡ r = cc in
          omega (arith, ap (λ (q : OpenRead). reads_there (q ∷ [])) same))
      by false f h = omega (arith, h f)

  answers : (s : ServerState) (ask n : ℕ) (o : Option OpenRead)
      → open_read s.asks ask ≡ o
      → IsWithin (open_there s) (answered s ask n o)
  unfolding answered
  answers s ask n None e = nothing s (open_there s) (omega arith)
  answers s ask n (Some r) e =
      let reply = Value (value_at s.store r.key n) in
      either (nat_le r.lower_bound n && nat_le n (last_number s.store)) (open_there s)
      (record { state = record s { asks = without_read s.asks ask }; outputs = reply_at r.port reply }) (silent s)
      (omega (arith, read_closed s.asks ask r e, one_reply r.port reply)) (nothing s (open_there s) (omega arith))

  receives_answer : (s : ServerState) (i ask n : ℕ) → IsWithin (open_there s) (receive_answer s i ask n)
  receives_answer s i ask n =
      either (is_that (tail_of s) i) (open_there s) (answered s ask n (open_read s.asks ask)) (silent s)
      (answers s ask n (open_read s.asks ask) refl) (nothing s (open_there s) (omega arith))

  -- ---- joins

  takes_all : (s : ServerState) (us : List OpenUpdate) → open_there (taken_all s us) ≡ open_there s
  unfolding taken_all
  takes_all s [] = refl
  takes_all s (u ∷ us) = takes_all (taken s s.id u.id u.call) us ∙ takes s s.id u.id u.call

  again_none : (s : ServerState) (us : List OpenUpdate) → replies_there (sent_again s us) ≡ 0
  unfolding sent_again
  again_none s [] = refl
  again_none s (u ∷ us) =
      omega (
        arith,
        message_none s (head_of s) (Op u.id u.call),
        again_none s us,
        both_there (message_to s (head_of s) (Op u.id u.call)) (sent_again s us),
      )

  to_head : (old : View) (s : ServerState) → IsWithin (open_there s) (promoted_to_head old s)
  unfolding promoted_to_head
  to_head old s =
      let n = open_there s in
      either (is_head s) n _ _
      (either (is_that (head old s.count) s.id) n (silent s) (silent (taken_all s s.pend)) (nothing s n (omega arith))
      (nothing (taken_all s s.pend) n (omega (arith, takes_all s s.pend))))
      (either (is_same (head old s.count) (head_of s)) n (silent s) (putting s (sent_again s s.pend))
      (nothing s n (omega arith)) (none_put s n (sent_again s s.pend) (omega arith) (again_none s s.pend)))

  to_tail : (s : ServerState) → IsWithin (open_there s) (promoted_to_tail s)
  unfolding promoted_to_tail
  to_tail s =
      either (is_tail s && nat_lt s.store.acked (last_number s.store)) (open_there s) (rise s (last_number s.store))
      (silent s) (rises s (last_number s.store)) (nothing s (open_there s) (omega arith))

  forwarded_none : (s : ServerState) (es : List LogEntry) → replies_there (forwarded s es) ≡ 0
  unfolding forwarded
  forwarded_none s [] = refl
  forwarded_none s (e ∷ es) =
      omega (
        arith,
        message_none s (successor_of s) (Forward e),
        forwarded_none s es,
        both_there (message_to s (successor_of s) (Forward e)) (forwarded s es),
      )

  catches_up : (old : View) (last : ℕ) (s : ServerState) → IsWithin (open_there s) (caught_up old last s)
  unfolding caught_up
  catches_up old last s =
      let es = entries_after s.store (needed_above old last s) in
      none_put s (open_there s) (forwarded s es) (omega arith) (forwarded_none s es)

  to_predecessor : (old : View) (acked : ℕ) (s : ServerState)
      → IsWithin (open_there s) (acked_to_predecessor old acked s)
  unfolding acked_to_predecessor
  to_predecessor old acked s =
      either (not (is_same (predecessor old s.id) (predecessor_of s)) && s.store.acked == acked) (open_there s)
      (putting s (message_to s (predecessor_of s) (Ack s.store.acked))) (silent s)
      (sends s (open_there s) (predecessor_of s) (Ack s.store.acked) (omega arith))
      (nothing s (open_there s) (omega arith))

  all_answered : (s : ServerState) (rs : List OpenRead) → replies_there (all_replies_to s rs) ≡ reads_there rs
  unfolding all_replies_to
  all_answered s [] = refl
  all_answered s (r ∷ rs) =
      let reply = Value (value_at s.store r.key (last_number s.store)) in
      omega (
        arith,
        one_reply r.port reply,
        all_answered s rs,
        both_there (reply_at r.port reply) (all_replies_to s rs),
      )

  asked_none : (s : ServerState) (rs : List OpenRead) → replies_there (asked_again s rs) ≡ 0
  unfolding asked_again
  asked_none s [] = refl
  asked_none s (r ∷ rs) =
      omega (
        arith,
        message_none s (tail_of s) (Query r.ask r.key),
        asked_none s rs,
        both_there (message_to s (tail_of s) (Query r.ask r.key)) (asked_again s rs),
      )

  renews : (old : View) (s : ServerState) → IsWithin (open_there s) (asks_renewed old s)
  unfolding asks_renewed
  renews old s =
      let n = open_there s in
      either (is_same (tail old s.count) (tail_of s)) n (silent s) _ (nothing s n (omega arith))
      (either (is_tail s) n (record { state = record s { asks = [] }; outputs = all_replies_to s s.asks })
      (putting s (asked_again s s.asks)) (omega (arith, all_answered s s.asks))
      (none_put s n (asked_again s s.asks) (omega arith) (asked_none s s.asks)))

  widens : (s : ServerState) (v : View) → open_there (widened s v) ≡ open_there s
  unfolding widened
  widens s v = refl

  rejoins : (old : View) (last acked : ℕ) (s : ServerState) → IsWithin (open_there s) (rejoined old last acked s)
  rejoins old last acked s =
      let n = open_there s in
      let first = and_then (promoted_to_head old s) promoted_to_tail in
      let second = and_then first (caught_up old last) in
      let third = and_then second (acked_to_predecessor old acked) in
      in_turn third (asks_renewed old) n
      (in_turn second (acked_to_predecessor old acked) n
      (in_turn first (caught_up old last) n
      (in_turn (promoted_to_head old s) promoted_to_tail n (to_head old s) to_tail) (catches_up old last))
      (to_predecessor old acked)) (renews old)

  joins : (s : ServerState) (v : View) → IsWithin (open_there s) (join s v)
  joins s v =
      either (not (adds s.view v)) (open_there s) (silent s)
      (rejoined s.view (last_number s.store) s.store.acked (widened s v)) (nothing s (open_there s) (omega arith))
      (omega (arith, rejoins s.view (last_number s.store) s.store.acked (widened s v), widens s v))

  -- ---- steps

  receives : (s : ServerState) (i : ℕ) (body : Body) → IsWithin (open_there s) (receive s i body)
  receives s i (Op id asked) = receives_op s i id asked
  receives s i (Forward e) = receives_forward s i e
  receives s i (Ack n) = receives_ack s i n
  receives s i (Query ask key) = receives_query s i ask
  receives s i (Answer ask n) = receives_answer s i ask n

  hears : (i : ℕ) (body : Body) (s : ServerState) → IsWithin (open_there s) (received s i body)
  hears i body s =
      either (has s.view i) (open_there s) (silent s) (receive s i body) (nothing s (open_there s) (omega arith))
      (receives s i body)

  hears_peer : (s : ServerState) (i : ℕ) (peer : Peer) → IsWithin (open_there s) (from_peer s i peer)
  hears_peer s i peer =
      either (is_heard s i peer.view) (open_there s) (and_then (join s peer.view) (λ t. received t i peer.body))
      (silent s)
      (in_turn (join s peer.view) (λ t. received t i peer.body) (open_there s) (joins s peer.view)
      (hears i peer.body)) (nothing s (open_there s) (omega arith))

  own_call : (port : ℕ) (asked : Call) → length (calls_from p (Called port asked ∷ [])) ≡ cond (port == p) 1 0
  own_call port asked = by (port == p)
    where
      by : (b : Bool) → length (cond b (asked ∷ []) []) ≡ cond b 1 0
      by true = refl
      by false = refl

  takes_in : (s : ServerState) (input : Input)
      → IsWithin (open_there s + length (calls_from p (input ∷ []))) (taken_in s input)
  takes_in s (Called port asked) =
      let h = either (is_update asked.op) (open_there s + cond (port == p) 1 0) (update s port asked)
      (read_of s port asked.target) (updates s port asked) (reads_target s port asked.target) in
      omega (arith, h, own_call port asked)
  takes_in s (From i peer) = omega (arith, hears_peer s i peer)
  takes_in s (Gone j) =
      let h = either (nat_lt j s.count && not (j == s.id)) (open_there s) (join s (single j)) (silent s)
      (joins s (single j)) (nothing s (open_there s) (omega arith)) in
      omega (arith, h)

  trims : (s : ServerState) → open_there (trimmed s) ≡ open_there s
  unfolding trimmed
  trims s = refl

  -- what is open at a port after a step, and what the step replied there, was open there or came
  pub step_within : (s : ServerState) (input : Input)
      → open_there (step s input).state + replies_there (step s input).outputs
      ≤ open_there s + length (calls_from p (input ∷ []))
  step_within s input = omega (arith, takes_in s input, trims (taken_in s input).state)
