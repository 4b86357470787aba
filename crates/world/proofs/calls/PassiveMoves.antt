-- A move that isn't a server's action: servers and logs stay, links lose messages, and connections go on by one stage.
use Rattle.std.proofs.Common.{◌≡◌, ℕ, ◌<◌, List, [], ◌∷◌, ◌++◌, length, Some, refl, arith, inl, inr, ap, sym, ◌∙◌}
use Rattle.std.proofs.Common.{length-append}
use Rattle.std.specs.Prelude.{slice_get}
use Rattle.table.specs.declared.operations.Call.{Call}
use Rattle.table.specs.declared.operations.Reply.{Reply}
use Rattle.node.specs.declared.servers.OpenUpdate.{OpenUpdate}
use Rattle.node.specs.declared.messages.Peer.{Peer}
use Rattle.world.specs.declared.connections.Stage.TheVariants.{Idle, Begun, Asked, Replied}
use Rattle.world.specs.Connections.{Connection}
use Rattle.world.specs.Worlds.{server, link}
use Rattle.world.specs.Calls.{CallId, reply_to}
use Rattle.node.proofs.Lists.{In, pushed_cases}
use Rattle.world.proofs.trace.Traces.{Traced, AnsweredRead, log, issued_by, count, open_id}
use Rattle.world.proofs.trace.Layers.{Later, Lawful, IsWith, IsAnswer, Calling, Read, IsRead}
use Rattle.world.proofs.trace.LaterMoves.{reply_stands, reply_found}
use Rattle.world.proofs.calls.Kept.{decided_later, answer_later, asks_later}
use Rattle.world.proofs.calls.OpenIds.{open_id_is}
use Rattle.world.proofs.calls.CallsDone.{IsPending}
use Rattle.world.proofs.calls.ConnectionsDone.{IsOut, IsBegunAt}
use Rattle.world.proofs.calls.ReadDone.{IsOver, read_later}

-- ---- what an event makes of a connection

-- calls, replies and stage stay
pub record IsSame (k l : Connection) : Type 0 where
  pub home : l.home ≡ k.home
  pub calls : l.calls ≡ k.calls
  pub replies : l.replies ≡ k.replies
  pub stage : l.stage ≡ k.stage

-- its next call begins
pub record IsStarted (k l : Connection) : Type 0 where
  pub call : Call
  pub home : l.home ≡ k.home
  pub calls : l.calls ≡ k.calls ++ call ∷ []
  pub replies : l.replies ≡ k.replies
  pub before : k.stage ≡ Idle
  pub stage : l.stage ≡ Begun

-- its open call goes to its server
pub record IsWorked (k l : Connection) : Type 0 where
  pub home : l.home ≡ k.home
  pub calls : l.calls ≡ k.calls
  pub replies : l.replies ≡ k.replies
  pub before : k.stage ≡ Begun
  pub stage : l.stage ≡ Asked

-- its reply is handed over
pub record IsHanded (k l : Connection) : Type 0 where
  pub reply : Reply
  pub home : l.home ≡ k.home
  pub calls : l.calls ≡ k.calls
  pub replies : l.replies ≡ k.replies ++ reply ∷ []
  pub before : k.stage ≡ Replied reply
  pub stage : l.stage ≡ Idle

-- what becomes of a connection by a move that isn't a server's action
pub data Progress (k l : Connection) : Type 0 where
  Stays : (h : IsSame k l) → Progress k l
  Starts : (h : IsStarted k l) → Progress k l
  Works : (h : IsWorked k l) → Progress k l
  Hands : (h : IsHanded k l) → Progress k l

-- a connection may stay as it is
pub stays_self : (k : Connection) → Progress k k
stays_self k = Stays (record { home = refl; calls = refl; replies = refl; stage = refl })

-- ---- the move

-- u comes after t by a move that isn't a server's action
pub record IsPassive (t u : Traced) : Type 0 where
  pub later : Later t u
  pub server : (k : ℕ) → server u.world k ≡ server t.world k
  pub log : (k : ℕ) → log u k ≡ log t k
  pub issued : (k : ℕ) → issued_by u k ≡ issued_by t k
  pub reads : u.reads ≡ t.reads
  pub link : (x y : ℕ) (m : Peer) → In m (link u.world x y) → In m (link t.world x y)
  pub after : (c : ℕ) (k : Connection)
      → slice_get t.world.connections c ≡ Some k
      → (l : Connection) × (slice_get u.world.connections c ≡ Some l) × Progress k l
  pub before : (c : ℕ) (l : Connection)
      → slice_get u.world.connections c ≡ Some l
      → (k : Connection) × (slice_get t.world.connections c ≡ Some k) × Progress k l

-- ---- connections

progress_home : (k l : Connection) → Progress k l → l.home ≡ k.home
progress_home k l (Stays h) = h.home
progress_home k l (Starts h) = h.home
progress_home k l (Works h) = h.home
progress_home k l (Hands h) = h.home

-- what is out stays out
progress_out : (k l : Connection) (ordinal : ℕ) → Progress k l → IsOut ordinal k → IsOut ordinal l
progress_out k l ordinal (Stays h) o = rw (h.replies, h.stage) o
progress_out k l ordinal (Starts h) (inl less) = rw h.replies (inl less)
progress_out k l ordinal (Starts h) (inr (same, inl asked)) =
    let never : Idle ≡ Asked = sym h.before ∙ asked in absurd cc
progress_out k l ordinal (Starts h) (inr (same, inr waits)) =
    let never : Idle ≡ Replied waits.0 = sym h.before ∙ waits.1 in absurd cc
progress_out k l ordinal (Works h) (inl less) = rw h.replies (inl less)
progress_out k l ordinal (Works h) (inr (same, inl asked)) =
    let never : Begun ≡ Asked = sym h.before ∙ asked in absurd cc
progress_out k l ordinal (Works h) (inr (same, inr waits)) =
    let never : Begun ≡ Replied waits.0 = sym h.before ∙ waits.1 in absurd cc
progress_out k l ordinal (Hands h) (inl less) =
    let more = length-append k.replies (h.reply ∷ []) in rw h.replies (inl (omega (arith, more, less)))
progress_out k l ordinal (Hands h) (inr open_one) =
    let more = length-append k.replies (h.reply ∷ []) in rw h.replies (inl (omega (arith, more, open_one.0)))

-- and what is over stays over
progress_over : (k l : Connection) (ordinal : ℕ) → Progress k l → IsOver ordinal k → IsOver ordinal l
progress_over k l ordinal (Stays h) o = rw (h.replies, h.stage) o
progress_over k l ordinal (Starts h) (inl less) = rw h.replies (inl less)
progress_over k l ordinal (Starts h) (inr waits) =
    let never : Idle ≡ Replied waits.1 = sym h.before ∙ waits.2 in absurd cc
progress_over k l ordinal (Works h) (inl less) = rw h.replies (inl less)
progress_over k l ordinal (Works h) (inr waits) =
    let never : Begun ≡ Replied waits.1 = sym h.before ∙ waits.2 in absurd cc
progress_over k l ordinal (Hands h) (inl less) =
    let more = length-append k.replies (h.reply ∷ []) in rw h.replies (inl (omega (arith, more, less)))
progress_over k l ordinal (Hands h) (inr waits) =
    let more = length-append k.replies (h.reply ∷ []) in rw h.replies (inl (omega (arith, more, waits.0)))

-- a connection whose call is with its server stays
progress_asked : (k l : Connection) → Progress k l → k.stage ≡ Asked → IsSame k l
progress_asked k l (Stays h) asked = h
progress_asked k l (Starts h) asked = let never : Idle ≡ Asked = sym h.before ∙ asked in absurd cc
progress_asked k l (Works h) asked = let never : Begun ≡ Asked = sym h.before ∙ asked in absurd cc
progress_asked k l (Hands h) asked = let never : Replied h.reply ≡ Asked = sym h.before ∙ asked in absurd cc

-- one whose reply waits was so before
progress_waits : (k l : Connection) (reply : Reply) → Progress k l → l.stage ≡ Replied reply → IsSame k l
progress_waits k l reply (Stays h) waits = h
progress_waits k l reply (Starts h) waits = let never : Begun ≡ Replied reply = sym h.stage ∙ waits in absurd cc
progress_waits k l reply (Works h) waits = let never : Asked ≡ Replied reply = sym h.stage ∙ waits in absurd cc
progress_waits k l reply (Hands h) waits = let never : Idle ≡ Replied reply = sym h.stage ∙ waits in absurd cc

-- ---- what is known of calls

passive_begun : (t u : Traced) → IsPassive t u → (o : ℕ) (x : CallId) → IsBegunAt t o x → IsBegunAt u o x
passive_begun t u q o x h =
    let l = q.after x.connection h.1 h.4 in (
      h.0,
      l.0,
      q.later.calls x h.0 h.2,
      h.3,
      l.1,
      progress_home h.1 l.0 l.2
          ∙ h.5,
      progress_out h.1 l.0 x.ordinal l.2 h.6,
    )

passive_with : (t u : Traced) → IsPassive t u → (i c : ℕ) (call : Call) → IsWith t i c call → IsWith u i c call
passive_with t u q i c call h =
    let l = q.after c h.connection h.here in
    let s = progress_asked h.connection l.0 l.2 h.stage in
    record {
      connection = l.0;
      here = l.1;
      home = s.home ∙ h.home;
      stage = s.stage ∙ h.stage;
      asked = rw (s.calls, s.replies) h.asked;
    }

passive_name : (t u : Traced)
    → IsPassive t u
    → (i c : ℕ) (call : Call)
    → IsWith t i c call
    → open_id u.world c ≡ open_id t.world c
passive_name t u q i c call h =
    let l = q.after c h.connection h.here in
    let s = progress_asked h.connection l.0 l.2 h.stage in
    open_id_is u.world c l.0 l.1 ∙ ap (λ (rs : List Reply). record { connection = c; ordinal = length rs }) s.replies
    ∙ sym (open_id_is t.world c h.connection h.here)

passive_pending : (t u : Traced) → IsPassive t u → (i : ℕ) (v : OpenUpdate) → IsPending t i v → IsPending u i v
passive_pending t u q i v p =
    (p.0, rw (passive_name t u q i v.port v.call p.2, q.issued i) p.1, passive_with t u q i v.port v.call p.2)

handed_then : (t u : Traced) (x : CallId) (k l : Connection) (reply : Reply)
    → IsPassive t u
    → Lawful t
    → slice_get t.world.connections x.connection ≡ Some k
    → IsHanded k l
    → slice_get l.replies x.ordinal ≡ Some reply
    → IsAnswer u x reply
handed_then t u x k l reply q lawful here h at =
    let pushed : slice_get (k.replies ++ h.reply ∷ []) x.ordinal ≡ Some reply = rw h.replies at at in
    elim (pushed_cases k.replies h.reply x.ordinal reply pushed) [
      | inl old ↦ answer_later t u x reply q.later
          (lawful.calling.handed x reply (reply_found t.world x k reply here old))
      | inr new ↦
          let waits = lawful.calling.waiting x.connection k h.reply here h.before in
          let name : record { connection = x.connection; ordinal = length k.replies } ≡ x =
          ap (λ n. record { connection = x.connection; ordinal = n }) (sym new.0) in
          answer_later t u x reply q.later (rw (← name, new.1) waits)
    ]

progress_handed : (t u : Traced) (x : CallId) (k l : Connection) (reply : Reply)
    → IsPassive t u
    → Lawful t
    → slice_get t.world.connections x.connection ≡ Some k
    → Progress k l
    → slice_get l.replies x.ordinal ≡ Some reply
    → IsAnswer u x reply
progress_handed t u x k l reply q lawful here (Stays h) at =
    answer_later t u x reply q.later
    (lawful.calling.handed x reply (reply_found t.world x k reply here (rw h.replies at at)))
progress_handed t u x k l reply q lawful here (Starts h) at =
    answer_later t u x reply q.later
    (lawful.calling.handed x reply (reply_found t.world x k reply here (rw h.replies at at)))
progress_handed t u x k l reply q lawful here (Works h) at =
    answer_later t u x reply q.later
    (lawful.calling.handed x reply (reply_found t.world x k reply here (rw h.replies at at)))
progress_handed t u x k l reply q lawful here (Hands h) at = handed_then t u x k l reply q lawful here h at

passive_handed : (t u : Traced)
    → IsPassive t u
    → Lawful t
    → (x : CallId) (reply : Reply)
    → reply_to u.world x ≡ Some reply
    → IsAnswer u x reply
passive_handed t u q lawful x reply h =
    let l = reply_stands u.world x reply h in
    let k = q.before x.connection l.0 l.1 in
    progress_handed t u x k.0 l.0 reply q lawful k.1 k.2 l.2

passive_waiting : (t u : Traced)
    → IsPassive t u
    → Lawful t
    → (c : ℕ) (l : Connection) (reply : Reply)
    → slice_get u.world.connections c ≡ Some l
    → l.stage ≡ Replied reply
    → IsAnswer u (record { connection = c; ordinal = length l.replies }) reply
passive_waiting t u q lawful c l reply here stage =
    let k = q.before c l here in
    let s = progress_waits k.0 l reply k.2 stage in
    let was = lawful.calling.waiting c k.0 reply k.1 (sym s.stage ∙ stage) in
    rw s.replies (answer_later t u _ reply q.later was)

-- a move that isn't a server's action keeps what is known of calls
pub calling_passive : (t u : Traced) → IsPassive t u → Lawful t → Calling u
calling_passive t u q l =
    let few = λ (i : ℕ) (h : i < count u). (let h' : i < count t = rw (← q.later.count) h in h') in
    record {
      begun = λ o k x h. passive_begun t u q o x (l.calling.begun o k x (rw (q.issued o) at h));
      next_id = λ o h. rw (q.server o, q.issued o) (l.calling.next_id o (few o h));
      once = λ o p k n x h f. l.calling.once o p k n x (rw (q.issued o) at h) (rw (q.issued p) at f);
      ids = λ i k e h. rw (q.log i) (l.calling.ids i k e (rw (q.log i) at h));
      seen = λ i o h f. rw (q.server i, q.log i) (l.calling.seen i o (few i h) f);
      decided = λ i k e h. rw (q.log i)
          (decided_later t u (log t i) k e q.later (l.calling.decided i k e (rw (q.log i) at h)));
      pend = λ i v h f. passive_pending t u q i v (l.calling.pend i v (few i h) (rw (q.server i) at f));
      asks = λ i r h f.
          (let p = l.calling.asks i r (few i h) (rw (q.server i) at f) in
          (p.0, passive_with t u q i r.port p.0 p.1, p.2, p.3));
      alone = λ i r s h f g e. l.calling.alone i r s (few i h) (rw (q.server i) at f) (rw (q.server i) at g) e;
      handed = λ x reply h. passive_handed t u q l x reply h;
      waiting = λ c k reply h e. passive_waiting t u q l c k reply h e;
      issues = λ i j m h. asks_later t u i m.body q.later (l.calling.issues i j m (q.link i j m h));
    }

-- ---- what is known of answered reads

passive_read : (t u : Traced) → IsPassive t u → (r : AnsweredRead) → IsRead t r → IsRead u r
passive_read t u q r is =
    let l = q.after r.id.connection is.connection is.here in
    read_later t u r l.0 q.later is l.1 (progress_over is.connection l.0 r.id.ordinal l.2 is.over)

-- a move that isn't a server's action keeps what is known of answered reads
pub read_passive : (t u : Traced) → IsPassive t u → Lawful t → Read u
read_passive t u q l = record {
  reads = λ k r h. passive_read t u q r (l.read.reads k r (rw q.reads at h));
  once = λ j k r s h f e. l.read.once j k r s (rw q.reads at h) (rw q.reads at f) e;
}
