-- A clean look is four events: a piece, a begin, a work that leaves the server as it was, and a hand.
use Rattle.std.proofs.Common.{◌≡◌, ℕ, ◌+◌, true, false, cond, List, [], ◌∷◌, ◌++◌, length, Option, None, Some, refl}
use Rattle.std.proofs.Common.{arith, ap, sym, ◌∙◌, subst, append-nil}
use Rattle.std.specs.Prelude.{slice_get, not, ◌==◌, ◌&&◌}
use Rattle.std.proofs.lemmas.Bool.{cond_both, eqb-true, both_ways, and_parts, not-true}
use Rattle.std.proofs.lemmas.List.{length-append}
use Rattle.table.specs.Items.{Item}
use Rattle.table.specs.declared.operations.Reply.{Reply}
use Rattle.table.specs.declared.operations.Reply.TheVariants.{Value}
use Rattle.node.specs.declared.looks.Look.{Look}
use Rattle.node.specs.declared.looks.Look.TheVariants.{Clean, Dirty}
use Rattle.node.specs.declared.messages.Input.TheVariants.{Call as Called}
use Rattle.node.specs.declared.messages.Output.TheVariants.{Reply as Answered}
use Rattle.node.specs.Lawful.{IsLawful}
use Rattle.node.specs.Faces.{face_of, look_at, peeked}
use Rattle.node.specs.Steps.{step}
use Rattle.node.proofs.FaceLaws.{look-face_of}
use Rattle.world.specs.declared.connections.Stage.TheVariants.{Idle, Replied}
use Rattle.world.specs.declared.events.Event.TheVariants.{Piece, Begin, Work, Hand}
use Rattle.world.specs.Connections.{Connection, asked, replied, handed, open_call, may_have, to_work}
use Rattle.world.specs.Waiting.{waiting_reply}
use Rattle.world.specs.Worlds.{World, server, lives, with_connection, put_all, acted, sent_in, worked, where_home_lives}
use Rattle.world.specs.Worlds.{happens}
use Rattle.world.proofs.moments.WholeSteps.{set_same}
use Rattle.interleavings.specs.Asked.{IsSpelled}
use Rattle.interleavings.specs.Chains.{Seat, Chain, with_seat}
use Rattle.interleavings.specs.Moves.{Looks, is_free, read_of, looked, done}
use Rattle.interleavings.proofs.relation.StandsFor.{IsSeat, Reaches, Sits, StandsFor, call_at, listed, reply_at}
use Rattle.interleavings.proofs.seats.OneSeat.{Reconnects, WaitsFor, one_seat, reconnects, reconnects_twice}
use Rattle.interleavings.proofs.seats.Sending.{all_answered, all_heard, at_idle, away_stopped, begins_call, call_opened}
use Rattle.interleavings.proofs.seats.Sending.{rested_after, seat_lives, with_call}
use Rattle.interleavings.proofs.lists.ChangedFunctions.{at_self, same_both}
use Rattle.node.proofs.CleanReads.{clean_step}
use Rattle.proto.proofs.RestedLaws.{rested_answered}

-- a server that stays as it was, and replies
acted_same : (v : World) (j c : ℕ) (reply : Reply)
    → acted v j (record { state = server v j; outputs = Answered c reply ∷ [] })
    ≡ with_connection v c (λ x. replied x.stage reply x)
unfolding put_all
acted_same v j c reply = ap (λ u. with_connection u c (λ x. replied x.stage reply x)) (set_same v j)

nothing_more : (xs : List Reply) (n : ℕ) → n ≡ n + length xs → xs ≡ []
nothing_more [] n e = refl
nothing_more (x ∷ xs) n e = absurd (omega arith)

module _ (l : Chain) (w : World) (c : ℕ) (key : List ℕ) (item : Option Item) (a : IsSpelled (read_of key))
    (h : StandsFor l w)
    (free : is_free (l.seats c) ≡ true) (going : (l.servers (l.seats c).home).stopped ≡ false) (k : Connection)
    (here : slice_get w.connections c ≡ Some k) (g : IsSeat w k (l.seats c))
    (lawful : IsLawful (l.servers (l.seats c).home).node)
    (clean : look_at (face_of (l.servers (l.seats c).home).node) key ≡ Clean item) where
  abbrev i : ℕ
  i = (l.seats c).home

  alive : lives w k.home ≡ true
  alive = seat_lives l w c (read_of key) a h free going k here g

  idle : k.stage ≡ Idle
  idle = at_idle l w c (read_of key) a h free going k here g

  tally : length k.calls ≡ length k.replies
  tally = all_answered l w c (read_of key) a h free going k here g

  abbrev begun_one : Connection
  begun_one = with_call w c (read_of key) a k here alive idle (g.rested alive)

  abbrev v : World
  v = happens (happens w (Piece c a.bytes)) (Begin c)

  begins : Reconnects w v c begun_one
  begins = begins_call w c (read_of key) a k here alive idle (g.rested alive)

  opened : open_call begun_one ≡ Some (read_of key)
  opened = call_opened l w c (read_of key) a h free going k here g

  -- the work
  abbrev u : World
  u = with_connection v c asked

  asks_it : Reconnects v u c (asked begun_one)
  asks_it = reconnects v c asked begun_one begins.here

  own_server : server u k.home ≡ (l.servers i).node
  own_server = asks_it.servers k.home ∙ begins.servers k.home ∙ ap (server w) g.home ∙ h.servers i going

  step_is : step (server u k.home) (Called c (read_of key))
      ≡ record { state = server u k.home; outputs = Answered c (Value item) ∷ [] }
  step_is = clean_step (server u k.home) c key item (subst IsLawful (sym own_server) lawful)
      (subst (λ s. peeked s key ≡ Clean item) (sym own_server)
      (sym (look-face_of (l.servers i).node key lawful.sound) ∙ clean))

  work_is : happens v (Work c) ≡ with_connection u c (λ x. replied x.stage (Value item) x)
  work_is = ap (worked v c) begins.here
      ∙ ap (λ b. cond b (sent_in v c k.home (open_call begun_one)) v) (begins.lives k.home ∙ alive)
      ∙ ap (sent_in v c k.home) opened
      ∙ ap (acted u k.home) step_is ∙ acted_same u k.home c (Value item)

  abbrev answered_one : Connection
  answered_one = record begun_one { stage = Replied (Value item) }

  replies_it : Reconnects u (with_connection u c (λ x. replied x.stage (Value item) x)) c answered_one
  replies_it = subst (λ x. Reconnects u (with_connection u c (λ x. replied x.stage (Value item) x)) c x)
      (ap (λ o. cond (may_have o (Value item)) answered_one (asked begun_one)) opened)
      (reconnects u c (λ x. replied x.stage (Value item) x) (asked begun_one) asks_it.here)

  abbrev t : World
  t = with_connection u c (λ x. replied x.stage (Value item) x)

  all_three : Reconnects w t c answered_one
  all_three = reconnects_twice w u t c (asked begun_one) answered_one
      (reconnects_twice w v u c begun_one (asked begun_one) begins asks_it) replies_it

  abbrev last : Connection
  last = handed (Replied (Value item)) answered_one

  hands_it : Reconnects t (happens t (Hand c)) c last
  hands_it = subst (λ x. Reconnects t (happens t (Hand c)) c x)
      (ap (λ b. cond b (handed (Replied (Value item)) answered_one) answered_one) (all_three.lives k.home ∙ alive))
      (reconnects t c (where_home_lives t (λ x. handed x.stage x)) answered_one all_three.here)

  whole : Reconnects w (happens t (Hand c)) c last
  whole = reconnects_twice w t (happens t (Hand c)) c answered_one last all_three hands_it

  -- the seat
  abbrev new : Seat
  new = record (l.seats c) {
    calls = (l.seats c).calls ++ read_of key ∷ [];
    got = (l.seats c).got ++ Value item ∷ [];
  }

  no_mail : (l.seats c).queued ≡ []
  no_mail =
      let same : length (l.seats c).calls ≡ length (l.seats c).got = eqb-true _ _ free in
      let heard : length (l.seats c).calls ≡ length k.calls = ap length (all_heard w k (l.seats c) g alive) in
      let got : length k.replies ≡ length (l.seats c).got + length (l.seats c).queued =
      ap length g.replies ∙ length-append (l.seats c).got (l.seats c).queued in
      let sum : length (l.seats c).got ≡ length (l.seats c).got + length (l.seats c).queued =
      omega (arith, same, heard, got, tally) in
      nothing_more (l.seats c).queued (length (l.seats c).got) sum

  sits : IsSeat (happens t (Hand c)) last new
  sits = record {
    home = g.home;
    replies = ap (λ rs. rs ++ Value item ∷ []) (g.replies ∙ ap (λ ms. (l.seats c).got ++ ms) no_mail
        ∙ append-nil (l.seats c).got)
        ∙ sym (ap (λ ms. ((l.seats c).got ++ Value item ∷ []) ++ ms) no_mail
        ∙ append-nil ((l.seats c).got ++ Value item ∷ []));
    unheard = [];
    calls = ap (λ cs. cs ++ read_of key ∷ []) (all_heard w k (l.seats c) g alive)
        ∙ sym (append-nil (k.calls ++ read_of key ∷ []));
    heard = λ e. refl;
    rested = λ e. rested_answered begun_one.session.asked begun_one.session (Value item)
        (rested_after w c (read_of key) a k here alive idle (g.rested alive));
    tallies = omega (arith, tally, length-append k.calls (read_of key ∷ []), length-append k.replies (Value item ∷ []));
  }

  waits : WaitsFor i c last (l.servers i) (l.servers i)
  waits = record {
    node = refl;
    stopped = refl;
    from = λ x. refl;
    to = λ y. refl;
    calls = λ d other. refl;
    replies = λ d other. refl;
    own_calls = h.calls i c going ∙ ap (call_at i) here
        ∙ subst (λ s. cond (k.home == i) (listed (to_work s k)) [] ≡ []) (sym idle) (same_both (k.home == i) [])
        ∙ sym (same_both (k.home == i) []);
    own_replies = h.replies i c going ∙ ap (reply_at i) here
        ∙ subst (λ s. cond (k.home == i) (listed (waiting_reply s)) [] ≡ []) (sym idle) (same_both (k.home == i) [])
        ∙ sym (same_both (k.home == i) []);
    notices = λ j e. e;
  }

  looks_clean : Reaches w (with_seat l c new)
  looks_clean =
      let all =
      one_seat l w (happens t (Hand c)) c i k last (l.servers i) new h here g.home g.home whole waits sits in (
        Piece c a.bytes ∷ (Begin c ∷ (Work c ∷ (Hand c ∷ []))),
        omega arith,
        subst (λ x. StandsFor (with_seat l c new) (happens x (Hand c))) (sym work_is)
            (subst (λ f. StandsFor (with_seat (record l { servers = f }) c new) (happens t (Hand c)))
            (at_self l.servers i) all),
      )

-- ---- the move

looks_by : (l : Chain) (w : World) (c : ℕ) (key : List ℕ)
    → IsSpelled (read_of key)
    → StandsFor l w
    → is_free (l.seats c) ≡ true
    → (l.servers (l.seats c).home).stopped ≡ false
    → IsLawful (l.servers (l.seats c).home).node
    → (o : Option Connection)
    → slice_get w.connections c ≡ o
    → (look : Look Item)
    → look_at (face_of (l.servers (l.seats c).home).node) key ≡ look
    → Reaches w (looked l c (l.seats c) key look)
looks_by l w c key a h free going lawful o here Dirty shown = ([], omega arith, h)
looks_by l w c key a h free going lawful None here (Clean item) shown =
    absurd (both_ways _ going (away_stopped l w (l.seats c) _ here (h.seats c)))
looks_by l w c key a h free going lawful (Some k) here (Clean item) shown =
    looks_clean l w c key item a h free going k here (subst (λ o. Sits l w o (l.seats c)) here (h.seats c)) lawful shown

-- a look is a piece, a begin, a work and a hand, or nothing
pub looks_reach : (l : Chain) (w : World) (c : ℕ) (key : List ℕ)
    → IsSpelled (read_of key)
    → StandsFor l w
    → ((i : ℕ) → (l.servers i).stopped ≡ false → IsLawful (l.servers i).node)
    → Reaches w (done l (Looks c key))
looks_reach l w c key a h lawful =
    let i = (l.seats c).home in
    cond_both (is_free (l.seats c) && not (l.servers i).stopped)
    (looked l c (l.seats c) key (look_at (face_of (l.servers i).node) key)) l (λ m. Reaches w m)
    (λ both.
    let p = and_parts (is_free (l.seats c)) (not (l.servers i).stopped) both in
    let going = not-true _ p.1 in
    looks_by l w c key a h p.0 going (lawful i going) (slice_get w.connections c) refl
    (look_at (face_of (l.servers i).node) key) refl)
    (λ other. ([], omega arith, h))
