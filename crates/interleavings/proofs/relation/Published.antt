-- Which calls are published, along a run: no move publishes one at a server that has stopped. So if one call was
-- published while another of its server wasn't, then so it was at a moment at which this server went on.
use Rattle.std.proofs.Common.{◌≡◌, ℕ, zero, suc, ◌+◌, ◌<◌, ◌≤◌, Bool, true, false, cond, List, [], ◌∷◌, ◌++◌, length}
use Rattle.std.proofs.Common.{take, Option, None, Some, refl, arith, ap, sym, ◌∙◌, subst, ◌⊎◌, inl, inr, length-append}
use Rattle.std.specs.Prelude.{slice_get, slice_index_or, nat_lt, not, ◌&&◌, is_some}
use Rattle.std.proofs.lemmas.Bool.{cases_eq, cases_lt, cases_Bool, both_ways, lt-ltb, le-ltb, ltb-true, cond_both}
use Rattle.std.proofs.lemmas.Bool.{eq-eqb, ne_eqb, and_parts, not-true}
use Rattle.table.specs.Items.{Item}
use Rattle.table.specs.declared.operations.Call.{Call}
use Rattle.table.specs.declared.operations.Reply.{Reply}
use Rattle.table.specs.declared.operations.Reply.TheVariants.{Value}
use Rattle.node.specs.declared.looks.Look.{Look}
use Rattle.node.specs.declared.looks.Look.TheVariants.{Clean, Dirty}
use Rattle.node.specs.declared.messages.Input.{Input}
use Rattle.node.specs.declared.messages.Input.TheVariants.{Call as Called, From, Gone}
use Rattle.node.specs.declared.messages.Peer.{Peer}
use Rattle.node.specs.Faces.{face_of, look_at}
use Rattle.node.proofs.Lists.{get_front}
use Rattle.world.specs.Calls.{CallId}
use Rattle.interleavings.specs.Chains.{RunningServer, Seat, Chain, with_at, with_running, with_channel, with_seat}
use Rattle.interleavings.specs.Chains.{listed, queue, messages_to, without_message, calls_from, replies_to}
use Rattle.interleavings.specs.Chains.{without_reply, Sender, first_of, opening_chain}
use Rattle.interleavings.specs.Moves.{Move, Sends, Takes, Publishes, Puts, Arrives, Replies, Receives, Looks, Stops}
use Rattle.interleavings.specs.Moves.{Notices, is_free, brought, received, looked, read_of, took, taking, published}
use Rattle.interleavings.specs.Moves.{publishing, put, arrived, reply_put, has_stopped, done, moved_from, moved}
use Rattle.interleavings.specs.Orders.{begun_call, waiting_calls, is_published}
use Rattle.interleavings.proofs.lists.FirstOf.{calls_picked}
use Rattle.interleavings.proofs.lists.Joined.{calls_from-append}
use Rattle.interleavings.proofs.lists.ChangedFunctions.{at_other, at_same, kept_at}
use Rattle.interleavings.proofs.passing.Inboxes.{queue_brought, calls_brought}
use Rattle.interleavings.proofs.passing.Taking.{none_of}
use Rattle.interleavings.proofs.ports.RenamedServers.{publishing_stopped}

-- ---- what a move keeps of a seat

-- the seat stays at its server, its calls stay; and if the server has stopped, as many of them are published as before
pub record KeepsSeat (l m : Chain) (c : ℕ) : Type 0 where
  pub home : (m.seats c).home ≡ (l.seats c).home
  pub begun : (q : ℕ) (call : Call)
      → slice_get (l.seats c).calls q ≡ Some call
      → slice_get (m.seats c).calls q ≡ Some call
  pub calls : (m.servers (l.seats c).home).stopped ≡ true
      → length (m.seats c).calls + length (waiting_calls l c) ≡ length (l.seats c).calls + length (waiting_calls m c)

-- two tests of numbers that lie as far apart
pub same_less : (a b c d : ℕ) → b + c ≡ d + a → nat_lt a b ≡ nat_lt c d
same_less a b c d e = elim (cases_lt a b) [
  | inl less ↦ (let other : c < d = omega (arith, less, e) in lt-ltb a b less ∙ sym (lt-ltb c d other))
  | inr more ↦ (let other : d ≤ c = omega (arith, more, e) in le-ltb a b more ∙ sym (le-ltb c d other))
]

-- so which of them are is the same
pub same_published : (l m : Chain) (x : CallId)
    → KeepsSeat l m x.connection
    → (m.servers (l.seats x.connection).home).stopped ≡ true
    → is_published m x ≡ is_published l x
same_published l m x k over =
    same_less (x.ordinal + length (waiting_calls m x.connection)) (length (m.seats x.connection).calls)
    (x.ordinal + length (waiting_calls l x.connection)) (length (l.seats x.connection).calls)
    (omega (arith, k.calls over))

-- a seat that has the same calls, of which the same wait
keeps : (l m : Chain) (c : ℕ)
    → (m.seats c).home ≡ (l.seats c).home
    → (m.seats c).calls ≡ (l.seats c).calls
    → ((k : ℕ) → calls_from c (queue (m.servers k)) ≡ calls_from c (queue (l.servers k)))
    → KeepsSeat l m c
keeps l m c home calls waits = record {
  home = home;
  begun = λ q call e. ap (λ cs. slice_get cs q) calls ∙ e;
  calls = λ over.
      let same : waiting_calls m c ≡ waiting_calls l c =
      ap (λ k. calls_from c (queue (m.servers k))) home ∙ waits (l.seats c).home in
      omega (arith, ap (λ cs. length cs) calls, ap (λ cs. length cs) same);
}

keeps_all : (l : Chain) (c : ℕ) → KeepsSeat l l c
keeps_all l c = keeps l l c refl refl (λ k. refl)

-- ---- seats

module _ (l : Chain) (c : ℕ) where
  -- one more call is begun, and waits
  sent_keeps : (d : ℕ) (call : Call)
      → KeepsSeat l (brought (with_seat l d (record (l.seats d) { calls = (l.seats d).calls ++ call ∷ [] }))
      (l.seats d).home (Called d call)) c
  sent_keeps d call = elim (cases_eq c d) [
    | inl own ↦ subst (λ e. KeepsSeat l after e) (sym own) (record {
      home = ap (λ (t : Seat). t.home) there;
      begun = λ q asked e. ap (λ (t : Seat). slice_get t.calls q) there
          ∙ get_front (l.seats d).calls (call ∷ []) q asked e;
      calls = λ over.
          let same : waiting_calls after d ≡ waiting_calls l d ++ call ∷ [] =
          ap (λ (t : Seat). calls_from d (queue (after.servers t.home))) there
          ∙ ap (calls_from d) (queue_brought (with_seat l d more) (l.seats d).home (Called d call))
          ∙ calls_from-append d (queue (l.servers (l.seats d).home)) (Called d call ∷ [])
          ∙ ap (λ b. waiting_calls l d ++ cond b (call ∷ []) []) (eq-eqb d d refl) in
          omega (
            arith,
            ap (λ (t : Seat). length t.calls) there,
            ap (λ cs. length cs) same,
            length-append (l.seats d).calls (call ∷ []),
            length-append (waiting_calls l d) (call ∷ []),
          );
    })
    | inr other ↦ keeps l after c (ap (λ (t : Seat). t.home) (at_other l.seats d more c other))
        (ap (λ (t : Seat). t.calls) (at_other l.seats d more c other))
        (calls_brought (with_seat l d more) (l.seats d).home (Called d call) c
        (ap (λ b. cond b (call ∷ []) []) (ne_eqb d c (λ f. other (sym f)))))
  ]
    where
      more : Seat
      more = record (l.seats d) { calls = (l.seats d).calls ++ call ∷ [] }

      after : Chain
      after = brought (with_seat l d more) (l.seats d).home (Called d call)

      there : after.seats d ≡ more
      there = at_same l.seats d more

  -- a look begins a call only while the server goes on
  looked_keeps : (d : ℕ) (key : List ℕ) (look : Look Item)
      → (l.servers (l.seats d).home).stopped ≡ false
      → KeepsSeat l (looked l d (l.seats d) key look) c
  looked_keeps d key Dirty going = keeps_all l c
  looked_keeps d key (Clean item) going = elim (cases_eq c d) [
    | inl own ↦ subst (λ e. KeepsSeat l (with_seat l d more) e) (sym own) (record {
      home = ap (λ (t : Seat). t.home) (at_same l.seats d more);
      begun = λ q asked e. ap (λ (t : Seat). slice_get t.calls q) (at_same l.seats d more)
          ∙ get_front (l.seats d).calls (read_of key ∷ []) q asked e;
      calls = λ over. absurd (both_ways _ going over);
    })
    | inr other ↦ keeps l (with_seat l d more) c (ap (λ (t : Seat). t.home) (at_other l.seats d more c other))
        (ap (λ (t : Seat). t.calls) (at_other l.seats d more c other)) (λ k. refl)
  ]
    where
      more : Seat
      more = record (l.seats d) {
        calls = (l.seats d).calls ++ read_of key ∷ [];
        got = (l.seats d).got ++ Value item ∷ [];
      }

  received_keeps : (d : ℕ) (rs : List Reply) → KeepsSeat l (received l d (l.seats d) rs) c
  received_keeps d [] = keeps_all l c
  received_keeps d (reply ∷ more) =
      let s : Seat = record (l.seats d) { got = (l.seats d).got ++ reply ∷ []; queued = more } in
      keeps l (with_seat l d s) c (kept_at (λ (t : Seat). t.home) l.seats d s refl c)
      (kept_at (λ (t : Seat). t.calls) l.seats d s refl c) (λ k. refl)

  -- ---- servers

  -- a server that has the same calls in its queue
  server_keeps : (i : ℕ) (s : RunningServer)
      → calls_from c (queue s) ≡ calls_from c (queue (l.servers i))
      → KeepsSeat l (with_running l i s) c
  server_keeps i s same =
      keeps l (with_running l i s) c refl refl (kept_at (λ t. calls_from c (queue t)) l.servers i s same)

  took_same : (s : RunningServer) (sender : Sender)
      → s.unpublished ≡ None
      → (o : Option Input)
      → first_of sender s.inbox ≡ o
      → calls_from c (queue (took s sender o)) ≡ calls_from c (queue s)
  took_same s sender free None e = refl
  took_same s sender free (Some x) e = calls_picked sender c x s.inbox e
      ∙ ap (λ u. calls_from c (listed u ++ s.inbox)) (sym free)

  takes_keep : (i : ℕ) (sender : Sender) → KeepsSeat l (done l (Takes i sender)) c
  takes_keep i sender =
      let s = l.servers i in
      let t = took s sender (first_of sender s.inbox) in
      server_keeps i (taking s sender)
      (cond_both s.stopped s (cond (is_some s.unpublished) s t) (λ u. calls_from c (queue u) ≡ calls_from c (queue s))
      (λ over. refl)
      (λ going. cond_both (is_some s.unpublished) s t (λ u. calls_from c (queue u) ≡ calls_from c (queue s))
      (λ busy. refl)
      (λ free. took_same s sender (none_of s.unpublished free) (first_of sender s.inbox) refl)))

  -- a server that has stopped publishes nothing
  publishes_keep : (i : ℕ) → KeepsSeat l (done l (Publishes i)) c
  publishes_keep i = record {
    home = refl;
    begun = λ q call e. e;
    calls = λ over.
        let s = l.servers i in
        let h = (l.seats c).home in
        let same : waiting_calls (with_running l i (publishing s)) c ≡ waiting_calls l c =
        elim (cases_eq h i) [
          | inl own ↦
              let it : with_at l.servers i (publishing s) h ≡ publishing s =
              ap (with_at l.servers i (publishing s)) own ∙ at_same l.servers i (publishing s) in
              let stopped : s.stopped ≡ true =
              sym (publishing_stopped s) ∙ ap (λ (t : RunningServer). t.stopped) (sym it) ∙ over in
              ap (λ t. calls_from c (queue t))
              (it ∙ ap (λ b. cond b s (published s s.unpublished)) stopped ∙ ap l.servers (sym own))
          | inr other ↦ ap (λ t. calls_from c (queue t)) (at_other l.servers i (publishing s) h other)
        ] in
        omega (arith, ap (λ cs. length cs) same);
  }

  put_keeps : (i j : ℕ) (ms : List Peer) → KeepsSeat l (put l i j ms) c
  put_keeps i j [] = keeps_all l c
  put_keeps i j (m ∷ ms) =
      let s : RunningServer = record (l.servers i) { outbox = without_message j (l.servers i).outbox } in
      keeps l (put l i j (m ∷ ms)) c refl refl (kept_at (λ t. calls_from c (queue t)) l.servers i s refl)

  arrived_keeps : (i j : ℕ) (ms : List Peer) → KeepsSeat l (arrived l i j ms) c
  arrived_keeps i j [] = keeps_all l c
  arrived_keeps i j (m ∷ ms) =
      keeps l (arrived l i j (m ∷ ms)) c refl refl (calls_brought (with_channel l i j ms) j (From i m) c refl)

  reply_keeps : (i d : ℕ) (rs : List Reply) → KeepsSeat l (reply_put l i d (l.seats d) rs) c
  reply_keeps i d [] = keeps_all l c
  reply_keeps i d (reply ∷ more) =
      let s : RunningServer = record (l.servers i) { outbox = without_reply d (l.servers i).outbox } in
      let t : Seat = record (l.seats d) { queued = (l.seats d).queued ++ reply ∷ [] } in
      keeps l (reply_put l i d (l.seats d) (reply ∷ more)) c (kept_at (λ (u : Seat). u.home) l.seats d t refl c)
      (kept_at (λ (u : Seat). u.calls) l.seats d t refl c)
      (kept_at (λ u. calls_from c (queue u)) l.servers i s refl)

  -- ---- all moves

  -- each move keeps each seat
  pub each_keeps : (m : Move) → KeepsSeat l (done l m) c
  each_keeps (Sends d call) =
      let s : Seat = record (l.seats d) { calls = (l.seats d).calls ++ call ∷ [] } in
      cond_both (is_free (l.seats d)) (brought (with_seat l d s) (l.seats d).home (Called d call)) l
      (λ m. KeepsSeat l m c) (λ free. sent_keeps d call) (λ busy. keeps_all l c)
  each_keeps (Takes i sender) = takes_keep i sender
  each_keeps (Publishes i) = publishes_keep i
  each_keeps (Puts i j) =
      cond_both (l.servers i).stopped l (put l i j (messages_to j (l.servers i).outbox)) (λ m. KeepsSeat l m c)
      (λ over. keeps_all l c) (λ going. put_keeps i j (messages_to j (l.servers i).outbox))
  each_keeps (Arrives i j) = arrived_keeps i j (l.channels i j)
  each_keeps (Replies i d) =
      cond_both (l.servers i).stopped l (reply_put l i d (l.seats d) (replies_to d (l.servers i).outbox))
      (λ m. KeepsSeat l m c) (λ over. keeps_all l c) (λ going. reply_keeps i d (replies_to d (l.servers i).outbox))
  each_keeps (Receives d) = received_keeps d (l.seats d).queued
  each_keeps (Looks d key) =
      let s = l.seats d in
      let stopped = (l.servers s.home).stopped in
      let look = look_at (face_of (l.servers s.home).node) key in
      cond_both (is_free s && not stopped) (looked l d s key look) l (λ m. KeepsSeat l m c)
      (λ both. looked_keeps d key look (not-true _ (and_parts (is_free s) _ both).1)) (λ none. keeps_all l c)
  each_keeps (Stops i) = server_keeps i (record (l.servers i) { stopped = true }) refl
  each_keeps (Notices i j) =
      cond_both (has_stopped l j) (brought l i (Gone j)) l (λ m. KeepsSeat l m c)
      (λ over. keeps l (brought l i (Gone j)) c refl refl (calls_brought l i (Gone j) c refl)) (λ going. keeps_all l c)

-- ---- runs

-- a call that is begun stays begun
pub begun_still : (ms : List Move) (l : Chain) (x : CallId) (call : Call)
    → begun_call l x ≡ Some call
    → begun_call (moved_from l ms) x ≡ Some call
begun_still [] l x call e = e
begun_still (m ∷ ms) l x call e =
    begun_still ms (done l m) x call ((each_keeps l x.connection m).begun x.ordinal call e)

-- x is published, and y isn't
pub record IsBetween (l : Chain) (x y : CallId) : Type 0 where
  pub published : is_published l x ≡ true
  pub not_published : is_published l y ≡ false

-- the server of the call's seat has stopped
abbrev pub is_stopped : Chain → CallId → Bool
is_stopped l x = (l.servers (l.seats x.connection).home).stopped

-- x was published, and y wasn't, after some first k of these moves, when the server of both went on
pub record WasBetween (l : Chain) (moves : List Move) (x y : CallId) : Type 0 where
  pub k : ℕ
  pub within : k ≤ length moves
  pub between : IsBetween (moved_from l (take k moves)) x y
  pub going : is_stopped (moved_from l (take k moves)) x ≡ false
  pub one_home : ((moved_from l (take k moves)).seats x.connection).home
      ≡ ((moved_from l (take k moves)).seats y.connection).home

module _ (x y : CallId) where
  abbrev OneHome : Chain → Type 0
  OneHome l = (l.seats x.connection).home ≡ (l.seats y.connection).home

  -- so it was then, or it is so at the start, if their server has stopped
  abbrev Earlier : Chain → List Move → Type 0
  Earlier l moves = WasBetween l moves x y ⊎ ((is_stopped l x ≡ true) × IsBetween l x y)

  here : (l : Chain) (moves : List Move) → OneHome l → IsBetween l x y → Earlier l moves
  here l moves one b = elim (cases_Bool (is_stopped l x)) [
    | inl over ↦ inr (over, b)
    | inr going ↦ inl (record { k = 0; within = omega arith; between = b; going = going; one_home = one })
  ]

  earlier : (moves : List Move) (k : ℕ) (l : Chain)
      → OneHome l
      → IsBetween (moved_from l (take k moves)) x y
      → Earlier l moves
  earlier [] zero l one b = here l [] one b
  earlier [] (suc k) l one b = here l [] one b
  earlier (m ∷ ms) zero l one b = here l (m ∷ ms) one b
  earlier (m ∷ ms) (suc k) l one b =
      let first = each_keeps l x.connection m in
      let second = each_keeps l y.connection m in
      elim (earlier ms k (done l m) (first.home ∙ one ∙ sym second.home) b) [
        | inl w ↦ inl (record {
          k = suc w.k;
          within = omega (arith, w.within);
          between = w.between;
          going = w.going;
          one_home = w.one_home;
        })
        | inr past ↦
            let over : ((done l m).servers (l.seats x.connection).home).stopped ≡ true =
            ap (λ i. ((done l m).servers i).stopped) (sym first.home) ∙ past.0 in
            here l (m ∷ ms) one (record {
              published = sym (same_published l (done l m) x first over) ∙ past.1.published;
              not_published =
                  sym (same_published l (done l m) y second
                  (ap (λ i. ((done l m).servers i).stopped) (sym one) ∙ over)) ∙ past.1.not_published;
            })
      ]

-- nothing is published before any move
none_first : (count : ℕ) (homes : List ℕ) (x : CallId) → is_published (opening_chain count homes) x ≡ true → ⊥
none_first count homes x h =
    let no = ltb-true (x.ordinal + length (waiting_calls (opening_chain count homes) x.connection)) 0 h in
    omega (arith, no)

-- the home of a seat is read off the homes
home_of : (homes : List ℕ) (c d count : ℕ)
    → slice_get homes c ≡ slice_get homes d
    → slice_index_or homes c count ≡ slice_index_or homes d count
home_of homes c d count e = by homes c ∙ ap (λ o. or_count o) e ∙ sym (by homes d)
  where
    or_count : Option ℕ → ℕ
    or_count None = count
    or_count (Some i) = i

    by : (xs : List ℕ) (k : ℕ) → slice_index_or xs k count ≡ or_count (slice_get xs k)
    by [] k = refl
    by (i ∷ xs) zero = refl
    by (i ∷ xs) (suc k) = by xs k

-- If of two calls at one server one is published after a run's first k moves and the other isn't, then so it was at a
-- moment at which their server went on.
pub was_between : (count : ℕ) (homes : List ℕ) (moves : List Move) (x y : CallId) (k : ℕ)
    → slice_get homes x.connection ≡ slice_get homes y.connection
    → IsBetween (moved count homes (take k moves)) x y
    → WasBetween (opening_chain count homes) moves x y
was_between count homes moves x y k one b =
    elim (earlier x y moves k (opening_chain count homes) (home_of homes x.connection y.connection count one) b) [
      | inl was ↦ was
      | inr first ↦ absurd (none_first count homes x first.1.published)
    ]
