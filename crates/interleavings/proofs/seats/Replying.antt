-- A reply that is put into a seat's queue is a hand.
use Rattle.std.proofs.Common.{◌≡◌, ℕ, ◌+◌, Bool, true, false, cond, List, [], ◌∷◌, ◌++◌, length, Option, None, Some}
use Rattle.std.proofs.Common.{refl, arith, ap, sym, ◌∙◌, subst, append_assoc}
use Rattle.std.specs.Prelude.{slice_get, not, ◌==◌}
use Rattle.std.proofs.lemmas.Bool.{eqb-true, cond_both}
use Rattle.std.proofs.lemmas.List.{length-append}
use Rattle.table.specs.declared.operations.Reply.{Reply}
use Rattle.world.specs.declared.connections.Stage.{Stage}
use Rattle.world.specs.declared.connections.Stage.TheVariants.{Idle, Begun, Asked, Replied}
use Rattle.world.specs.declared.events.Event.TheVariants.{Hand}
use Rattle.world.specs.Connections.{Connection, handed, to_work}
use Rattle.world.specs.Waiting.{waiting_reply}
use Rattle.world.specs.Worlds.{World, lives, where_home_lives, happens}
use Rattle.interleavings.specs.Chains.{RunningServer, Seat, Chain, replies_to, without_reply}
use Rattle.interleavings.specs.Moves.{Replies, reply_put, done}
use Rattle.interleavings.proofs.relation.StandsFor.{IsSeat, Reaches, Sits, StandsFor, Tallies, call_at, listed}
use Rattle.interleavings.proofs.relation.StandsFor.{reply_at}
use Rattle.interleavings.proofs.seats.OneSeat.{Reconnects, WaitsFor, one_seat, reconnects}
use Rattle.interleavings.proofs.lists.Removed.{messages_without_reply, others_without_reply, replies_without_first}
use Rattle.proto.proofs.RestedLaws.{rested_answered}
use Rattle.interleavings.proofs.lists.ChangedFunctions.{same_both}

-- ---- the reply that waits

record Has (c i : ℕ) (reply : Reply) (o : Option Connection) : Type 0 where
  connection : Connection
  here : o ≡ Some connection
  home : connection.home ≡ i
  stage : connection.stage ≡ Replied reply

replied_stage : (s : Stage) (reply : Reply) (more : List Reply)
    → listed (waiting_reply s) ≡ reply ∷ more
    → (s ≡ Replied reply) × (more ≡ [])
replied_stage Idle reply more e = absurd cc
replied_stage Begun reply more e = absurd cc
replied_stage Asked reply more e = absurd cc
replied_stage (Replied other) reply more e =
    (let same : other ≡ reply = cc in ap Replied same, let none : more ≡ [] = cc in none)

has_by : (c i : ℕ) (reply : Reply) (more : List Reply) (k : Connection) (b : Bool)
    → (k.home == i) ≡ b
    → cond b (listed (waiting_reply k.stage)) [] ≡ reply ∷ more
    → Has c i reply (Some k) × (more ≡ [])
has_by c i reply more k true is e =
    let p = replied_stage k.stage reply more e in
    (record { connection = k; here = refl; home = eqb-true k.home i is; stage = p.0 }, p.1)
has_by c i reply more k false is e = absurd cc

has : (c i : ℕ) (reply : Reply) (more : List Reply) (o : Option Connection)
    → reply_at i o ≡ reply ∷ more
    → Has c i reply o × (more ≡ [])
has c i reply more None e = absurd cc
has c i reply more (Some k) e = has_by c i reply more k (k.home == i) refl e

-- ---- the move

module _ (l : Chain) (w : World) (i c : ℕ) (h : StandsFor l w) (going : (l.servers i).stopped ≡ false) where
  abbrev without : RunningServer
  without = record (l.servers i) { outbox = without_reply c (l.servers i).outbox }

  -- the connection after the hand
  handed_is : (reply : Reply) (k : Connection)
      → lives w k.home ≡ true
      → k.stage ≡ Replied reply
      → where_home_lives w (λ x. handed x.stage x) k ≡ handed (Replied reply) k
  handed_is reply k living stage = ap (λ b. cond b (handed k.stage k) k) living ∙ ap (λ s. handed s k) stage

  waits : (reply : Reply) (more : List Reply) (k : Connection)
      → replies_to c (l.servers i).outbox ≡ reply ∷ more
      → more ≡ []
      → slice_get w.connections c ≡ Some k
      → k.stage ≡ Replied reply
      → WaitsFor i c (handed (Replied reply) k) (l.servers i) without
  waits reply more k first none here stage = record {
    node = refl;
    stopped = refl;
    from = λ x. refl;
    to = λ y. messages_without_reply c y (l.servers i).outbox;
    calls = λ d other. refl;
    replies = λ d other. others_without_reply c d (l.servers i).outbox other;
    own_calls = h.calls i c going ∙ ap (call_at i) here
        ∙ subst (λ s. cond (k.home == i) (listed (to_work s k)) [] ≡ []) (sym stage) (same_both (k.home == i) [])
        ∙ sym (same_both (k.home == i) []);
    own_replies = replies_without_first c (l.servers i).outbox reply more first ∙ none
        ∙ sym (same_both (k.home == i) []);
    notices = λ j g. g;
  }

  sits : (reply : Reply) (k : Connection) (s : Seat) (v : World)
      → ((x : ℕ) → lives v x ≡ lives w x)
      → k.stage ≡ Replied reply
      → IsSeat w k s
      → IsSeat v (handed (Replied reply) k) (record s { queued = s.queued ++ reply ∷ [] })
  sits reply k s v same stage g = record {
    home = g.home;
    replies = ap (λ rs. rs ++ reply ∷ []) g.replies ∙ append_assoc s.got s.queued (reply ∷ []);
    unheard = g.unheard;
    calls = g.calls;
    heard = λ living. g.heard (sym (same k.home) ∙ living);
    rested = λ living. rested_answered k.session.asked k.session reply (g.rested (sym (same k.home) ∙ living));
    tallies =
        let one : length k.calls ≡ length k.replies + 1 =
        subst (λ x. Tallies x (length k.calls) (length k.replies)) stage g.tallies in
        omega (arith, one, length-append k.replies (reply ∷ []));
  }

  by_replies : (rs : List Reply)
      → replies_to c (l.servers i).outbox ≡ rs
      → Reaches w (reply_put l i c (l.seats c) rs)
  by_replies [] first = ([], omega arith, h)
  by_replies (reply ∷ more) first =
      let f = has c i reply more (slice_get w.connections c) (sym (h.replies i c going) ∙ first) in
      let k = f.0.connection in
      let living : lives w k.home ≡ true = subst (λ x. lives w x ≡ true) (sym f.0.home) (h.lives i ∙ ap not going) in
      let v = happens w (Hand c) in
      let r : Reconnects w v c (handed (Replied reply) k) =
      subst (λ x. Reconnects w v c x) (handed_is reply k living f.0.stage)
      (reconnects w c (where_home_lives w (λ x. handed x.stage x)) k f.0.here) in
      let seat : IsSeat w k (l.seats c) = subst (λ o. Sits l w o (l.seats c)) f.0.here (h.seats c) in (
        Hand c ∷ [],
        omega arith,
        one_seat l w v c i k (handed (Replied reply) k) without
            (record (l.seats c) { queued = (l.seats c).queued ++ reply ∷ [] }) h f.0.here f.0.home f.0.home r
            (waits reply more k first f.1 f.0.here f.0.stage) (sits reply k (l.seats c) v r.lives f.0.stage seat),
      )

-- a reply that is put is a hand
pub replies_reach : (l : Chain) (w : World) (i c : ℕ) → StandsFor l w → Reaches w (done l (Replies i c))
replies_reach l w i c h =
    cond_both (l.servers i).stopped l (reply_put l i c (l.seats c) (replies_to c (l.servers i).outbox))
    (λ m. Reaches w m) (λ t. ([], omega arith, h))
    (λ going. by_replies l w i c h going (replies_to c (l.servers i).outbox) refl)
