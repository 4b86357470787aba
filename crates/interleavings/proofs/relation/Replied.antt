-- A call that has its reply is published: the calls of a seat that wait at its server come after those that have their
-- replies, or whose replies stand in its queue.
use Rattle.std.proofs.Common.{◌≡◌, ◌≢◌, ℕ, ◌+◌, ◌≤◌, true, false, cond, List, [], ◌∷◌, ◌++◌, length, Option, None}
use Rattle.std.proofs.Common.{Some, refl, arith, ap, sym, ◌∙◌, subst, inl, inr, length-append}
use Rattle.std.specs.Prelude.{slice_get, not, ◌&&◌, IsSome}
use Rattle.std.proofs.lemmas.Bool.{cases_eq, cases_Bool, both_ways, cond_both, and_parts, not-true, eq-eqb, ne_eqb}
use Rattle.std.proofs.lemmas.Bool.{lt-ltb}
use Rattle.std.proofs.lemmas.Option.{slice_get_within}
use Rattle.table.specs.Items.{Item}
use Rattle.table.specs.declared.operations.Reply.{Reply}
use Rattle.table.specs.declared.operations.Reply.TheVariants.{Value}
use Rattle.node.specs.declared.looks.Look.{Look}
use Rattle.node.specs.declared.looks.Look.TheVariants.{Clean, Dirty}
use Rattle.node.specs.declared.messages.Input.TheVariants.{Call as Called, Gone}
use Rattle.node.specs.declared.messages.Peer.{Peer}
use Rattle.node.specs.Faces.{face_of, look_at}
use Rattle.world.specs.declared.events.Event.{Event}
use Rattle.world.specs.Connections.{Connection, to_work}
use Rattle.world.specs.Calls.{CallId}
use Rattle.world.specs.Waiting.{waiting_reply}
use Rattle.world.specs.Worlds.{World, lives, run_of}
use Rattle.world.proofs.lists.Standing.{some_of}
use Rattle.interleavings.specs.Chains.{RunningServer, Seat, Chain, with_seat, listed, messages_to, replies_to}
use Rattle.interleavings.specs.Chains.{without_reply, opening_chain}
use Rattle.interleavings.specs.Moves.{Move, Sends, Takes, Publishes, Puts, Arrives, Replies, Receives, Looks, Stops}
use Rattle.interleavings.specs.Moves.{Notices, is_free, read_of, brought, received, looked, put, arrived, reply_put}
use Rattle.interleavings.specs.Moves.{has_stopped, done, moved_from, moved}
use Rattle.interleavings.specs.Asked.{AreAsked}
use Rattle.interleavings.specs.Orders.{reply_to, waiting_calls, is_published}
use Rattle.interleavings.proofs.lists.ChangedFunctions.{kept_at, at_other}
use Rattle.interleavings.proofs.relation.Following.{Simulates}
use Rattle.interleavings.proofs.relation.Given.{given_or_waits}
use Rattle.interleavings.proofs.relation.Opening.{opens}
use Rattle.interleavings.proofs.relation.Published.{each_keeps}
use Rattle.interleavings.proofs.relation.StandsFor.{Sits, StandsFor, call_at, reply_at}
use Rattle.interleavings.proofs.seats.Sending.{all_heard, away_stopped}

-- how many replies a seat has, or has in its queue
abbrev replies_at : Seat → ℕ
replies_at s = length s.got + length s.queued

-- as many of its calls don't wait, at least
abbrev pub WaitsBehind : Chain → ℕ → Type 0
WaitsBehind l c = length (waiting_calls l c) + replies_at (l.seats c) ≤ length (l.seats c).calls

-- ---- at a server that goes on

by_connection : (l : Chain) (w : World) (c : ℕ) (o : Option Connection)
    → StandsFor l w
    → (l.servers (l.seats c).home).stopped ≡ false
    → slice_get w.connections c ≡ o
    → Sits l w o (l.seats c)
    → WaitsBehind l c
by_connection l w c None h going e g = absurd (both_ways _ going (away_stopped l w (l.seats c) None refl g))
by_connection l w c (Some k) h going e g =
    let i = (l.seats c).home in
    let alive : lives w k.home ≡ true = subst (λ j. lives w j ≡ true) (sym g.home) (h.lives i ∙ ap not going) in
    let heard = ap length (all_heard w k (l.seats c) g alive) in
    let waits : waiting_calls l c ≡ listed (to_work k.stage k) =
    h.calls i c going ∙ ap (call_at i) e
    ∙ ap (λ b. cond b (listed (to_work k.stage k)) []) (eq-eqb k.home i g.home) in
    let n = ap (λ cs. length cs) waits in
    let m = ap length g.replies ∙ length-append (l.seats c).got (l.seats c).queued in
    let all = given_or_waits k k.stage g.tallies in
    omega (arith, heard, n, m, all)

-- ---- at a server that has stopped

-- no reply comes to a seat from a server that isn't its own
none_from : (i : ℕ) (home : ℕ) (w : World) (l : Chain) (o : Option Connection) (s : Seat)
    → Sits l w o s
    → s.home ≡ home
    → home ≢ i
    → reply_at i o ≡ []
none_from i home w l None s g e other = refl
none_from i home w l (Some k) s g e other =
    let far : k.home ≢ i = λ same. other (sym e ∙ sym g.home ∙ same) in
    ap (λ b. cond b (listed (waiting_reply k.stage)) []) (ne_eqb k.home i far)

-- if a seat's server has stopped, no move brings it a reply
module _ (l : Chain) (w : World) (h : StandsFor l w) (c : ℕ) where
  abbrev Stays : Chain → Type 0
  Stays m = (m.servers (l.seats c).home).stopped ≡ true → replies_at (m.seats c) ≤ replies_at (l.seats c)

  as_before : Stays l
  as_before over = omega arith

  kept : (m : Chain) → replies_at (m.seats c) ≡ replies_at (l.seats c) → Stays m
  kept m e over = omega (arith, e)

  puts_stay : (i j : ℕ) (ms : List Peer) → Stays (put l i j ms)
  puts_stay i j [] = as_before
  puts_stay i j (m ∷ ms) = kept (put l i j (m ∷ ms)) refl

  arrives_stay : (i j : ℕ) (ms : List Peer) → Stays (arrived l i j ms)
  arrives_stay i j [] = as_before
  arrives_stay i j (m ∷ ms) = kept (arrived l i j (m ∷ ms)) refl

  receives_stay : (d : ℕ) (rs : List Reply) → (l.seats d).queued ≡ rs → Stays (received l d (l.seats d) rs)
  receives_stay d [] e = as_before
  receives_stay d (reply ∷ more) e =
      let s : Seat = record (l.seats d) { got = (l.seats d).got ++ reply ∷ []; queued = more } in
      let n = length-append (l.seats d).got (reply ∷ []) in
      let m = ap length e in
      kept (with_seat l d s) (kept_at replies_at l.seats d s (omega (arith, n, m)) c)

  looks_stay : (d : ℕ) (key : List ℕ) (look : Look Item)
      → (l.servers (l.seats d).home).stopped ≡ false
      → Stays (looked l d (l.seats d) key look)
  looks_stay d key Dirty going = as_before
  looks_stay d key (Clean item) going = elim (cases_eq c d) [
    | inl own ↦ λ over. absurd (both_ways _ going (ap (λ e. (l.servers (l.seats e).home).stopped) (sym own) ∙ over))
    | inr other ↦ kept (with_seat l d more) (ap replies_at (at_other l.seats d more c other))
  ]
    where
      more : Seat
      more = record (l.seats d) {
        calls = (l.seats d).calls ++ read_of key ∷ [];
        got = (l.seats d).got ++ Value item ∷ [];
      }

  -- a server that goes on isn't the one that has stopped
  replies_stay : (i d : ℕ) (rs : List Reply)
      → (l.servers i).stopped ≡ false
      → replies_to d (l.servers i).outbox ≡ rs
      → Stays (reply_put l i d (l.seats d) rs)
  replies_stay i d [] going e = as_before
  replies_stay i d (reply ∷ more) going e =
      let t : Seat = record (l.seats d) { queued = (l.seats d).queued ++ reply ∷ [] } in
      let r : RunningServer = record (l.servers i) { outbox = without_reply d (l.servers i).outbox } in
      λ over.
      elim (cases_eq c d) [
        | inl own ↦
            let home = (l.seats c).home in
            let stopped : (l.servers home).stopped ≡ true =
            sym (kept_at (λ (u : RunningServer). u.stopped) l.servers i r refl home) ∙ over in
            let far : home ≢ i =
            λ same. both_ways _ going (ap (λ j. (l.servers j).stopped) (sym same) ∙ stopped) in
            let none : replies_to d (l.servers i).outbox ≡ [] =
            h.replies i d going
            ∙ none_from i home w l (slice_get w.connections d) (l.seats d) (h.seats d)
            (ap (λ a. (l.seats a).home) (sym own)) far in
            absurd (let no : [] ≡ reply ∷ more = sym none ∙ e in cc)
        | inr other ↦ omega (arith, ap replies_at (at_other l.seats d t c other))
      ]

  -- each move
  each_stays : (m : Move) → Stays (done l m)
  each_stays (Sends d call) =
      let s : Seat = record (l.seats d) { calls = (l.seats d).calls ++ call ∷ [] } in
      let m = brought (with_seat l d s) (l.seats d).home (Called d call) in
      cond_both (is_free (l.seats d)) m l Stays (λ free. kept m (kept_at replies_at l.seats d s refl c))
      (λ busy. as_before)
  each_stays (Takes i sender) = kept (done l (Takes i sender)) refl
  each_stays (Publishes i) = kept (done l (Publishes i)) refl
  each_stays (Puts i j) =
      cond_both (l.servers i).stopped l (put l i j (messages_to j (l.servers i).outbox)) Stays (λ over. as_before)
      (λ going. puts_stay i j (messages_to j (l.servers i).outbox))
  each_stays (Arrives i j) = arrives_stay i j (l.channels i j)
  each_stays (Replies i d) =
      cond_both (l.servers i).stopped l (reply_put l i d (l.seats d) (replies_to d (l.servers i).outbox)) Stays
      (λ over. as_before) (λ going. replies_stay i d (replies_to d (l.servers i).outbox) going refl)
  each_stays (Receives d) = receives_stay d (l.seats d).queued refl
  each_stays (Looks d key) =
      let s = l.seats d in
      let stopped = (l.servers s.home).stopped in
      let look = look_at (face_of (l.servers s.home).node) key in
      cond_both (is_free s && not stopped) (looked l d s key look) l Stays
      (λ both. looks_stay d key look (not-true _ (and_parts (is_free s) _ both).1)) (λ none. as_before)
  each_stays (Stops i) = kept (done l (Stops i)) refl
  each_stays (Notices i j) =
      cond_both (has_stopped l j) (brought l i (Gone j)) l Stays (λ over. kept (brought l i (Gone j)) refl)
      (λ going. as_before)

  -- so its waiting calls still come after those that have replies
  still_behind : (m : Move)
      → WaitsBehind l c
      → ((done l m).servers (l.seats c).home).stopped ≡ true
      → WaitsBehind (done l m) c
  still_behind m b over =
      let k = (each_keeps l c m).calls over in
      let s = each_stays m over in
      omega (arith, b, k, s)

-- ---- runs

module _ (count : ℕ) (homes : List ℕ) (sim : Simulates count homes) where
  behind_then : (es : List Event) (l : Chain) (m : Move) (c : ℕ)
      → StandsFor l (run_of count homes es)
      → (fs : List Event) × (length fs ≤ 4) × StandsFor (done l m) (run_of count homes (es ++ fs))
      → WaitsBehind l c
      → WaitsBehind (done l m) c
  behind_then es l m c h one b =
      let n = done l m in
      elim (cases_Bool (n.servers (n.seats c).home).stopped) [
        | inl over ↦
            still_behind l (run_of count homes es) h c m b
            (ap (λ i. (n.servers i).stopped) (sym (each_keeps l c m).home) ∙ over)
        | inr going ↦
            let w = run_of count homes (es ++ one.0) in
            by_connection n w c (slice_get w.connections c) one.2 going refl (one.2.seats c)
      ]

  behind_from : (ms : List Move) (l : Chain) (es : List Event) (c : ℕ)
      → StandsFor l (run_of count homes es)
      → AreAsked ms
      → WaitsBehind l c
      → WaitsBehind (moved_from l ms) c
  behind_from [] l es c h asked b = b
  behind_from (m ∷ ms) l es c h asked b =
      let one = sim es l m h asked.0 in
      behind_from ms (done l m) (es ++ one.0) c one.2 asked.1 (behind_then es l m c h one b)

  -- after a run the calls of a seat that wait come after those that have replies
  pub waits_behind : (ms : List Move) (c : ℕ) → AreAsked ms → WaitsBehind (moved count homes ms) c
  waits_behind ms c asked =
      behind_from ms (opening_chain count homes) [] c (opens count homes) asked (omega arith)

  -- a call that has its reply is published
  pub replied_published : (ms : List Move) (x : CallId)
      → AreAsked ms
      → IsSome (reply_to (moved count homes ms) x)
      → is_published (moved count homes ms) x ≡ true
  replied_published ms x asked replied =
      let l = moved count homes ms in
      let s = l.seats x.connection in
      let first : WaitsBehind (opening_chain count homes) x.connection = first_behind x.connection in
      let b = behind_from ms (opening_chain count homes) [] x.connection (opens count homes) asked first in
      let r = some_of (reply_to l x) replied in
      let n = slice_get_within s.got x.ordinal r.0 r.1 in
      lt-ltb (x.ordinal + length (waiting_calls l x.connection)) (length s.calls) (omega (arith, b, n))
    where
      first_behind : (c : ℕ) → WaitsBehind (opening_chain count homes) c
      first_behind c = omega arith
