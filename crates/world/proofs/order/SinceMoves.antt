-- Each move keeps what holds with regard to an earlier moment.
use Rattle.std.proofs.Common.{◌≡◌, ℕ, zero, suc, ◌+◌, ◌-◌, ◌<◌, ◌≤◌, true, List, [], ◌∷◌, ◌++◌, length, Some, sym, ap}
use Rattle.std.proofs.Common.{◌∙◌, arith, subst, ◌⊎◌, inl, inr}
use Rattle.std.specs.Prelude.{slice_get, IsSome}
use Rattle.std.proofs.lemmas.Bool.{cases_eq}
use Rattle.std.proofs.lemmas.List.{append-nil}
use Rattle.std.proofs.lemmas.Option.{same_Some}
use Rattle.versions.specs.Entries.{LogEntry}
use Rattle.versions.specs.Stores.{last_number}
use Rattle.node.specs.declared.servers.OpenRead.{OpenRead}
use Rattle.node.specs.declared.messages.Body.{Body}
use Rattle.node.specs.declared.messages.Body.TheVariants.{Op, Forward, Ack, Query, Answer}
use Rattle.node.specs.declared.messages.Peer.{Peer}
use Rattle.node.specs.declared.messages.Input.TheVariants.{From}
use Rattle.node.specs.Servers.{is_tail}
use Rattle.node.specs.Lawful.{AreReads}
use Rattle.world.specs.Worlds.{server, link, lives}
use Rattle.world.specs.Calls.{CallId, begun_call}
use Rattle.node.proofs.Lists.{In, in_joined, pushed_cases}
use Rattle.node.proofs.Beginnings.{begins-length}
use Rattle.world.proofs.layers.HeldLogs.{held_last}
use Rattle.world.proofs.layers.LastLiving.{alive, last_found}
use Rattle.world.proofs.trace.IdLaws.{that_is, predecessor_is}
use Rattle.node.proofs.OpenLists.{reads_act}
use Rattle.node.specs.Actions.{Action, Widen, Append, Reach, Settle, Send, Finish, Trim, Enter, Ask, Show, Cause}
use Rattle.world.proofs.trace.Traces.{Traced, AnsweredRead, log, count, done}
use Rattle.world.proofs.trace.TraceLaws.{new_entries, new_reads, count_done, server_done, server_other, link_done}
use Rattle.world.proofs.trace.TraceLaws.{log_done, log_other, reads_done, open_id_done}
use Rattle.world.proofs.trace.Layers.{IsNamed, IsKnown, IsAddressed, Later, Lawful}
use Rattle.world.proofs.calls.StepInputs.{IsStep, within, known_of}
use Rattle.world.proofs.order.Since.{SaysSince, IsOldOrLater, Since, IsKnownSince, says_later}
use Rattle.node.proofs.SoundLaws.{reads_bound}

-- what was committed at a moment is no more than what a living server holds later
held_since : (t u : Traced) (i : ℕ)
    → Later t u
    → Lawful u
    → lives u.world i ≡ true
    → length t.committed ≤ length (log u i)
held_since t u i later l h =
    let a = begins-length _ _ later.committed in let b = begins-length _ _ (l.logged.living i h) in omega arith

committed_since : (t u : Traced) → Later t u → length t.committed ≤ length u.committed
committed_since t u later = begins-length _ _ later.committed

-- a living server that is the tail in its own view holds exactly the committed entries
pub tail_holds : (u : Traced) (i : ℕ)
    → Lawful u
    → lives u.world i ≡ true
    → is_tail (server u.world i) ≡ true
    → last_number (server u.world i).store ≡ length u.committed
tail_holds u i l h tail =
    let a = alive u.world i h in
    let p = predecessor_is _ _ _ (that_is _ _ tail) in
    let id = l.framed.id i a.within in
    let chain = l.framed.chain i a.within in
    let last = last_found u.world i a
    (λ x above below. l.framed.known i x a.within (p.between x (omega (arith, id)) (omega (arith, chain)))) in
    held_last _ _ (l.logged.holds i a.within) ∙ sym (ap length (l.logged.last i last))

-- an entry that a living server appends
appended_since : (t u : Traced) (i : ℕ) (cause : Cause) (e : LogEntry)
    → Later t u
    → Since t u
    → IsStep u i cause (Append e)
    → ((x : CallId) × IsNamed t e x) ⊎ (length t.committed ≤ length (log u i))
appended_since t u i cause e later s g = elim g.guard.1 [
  | inl made ↦ inr (held_since t u i later g.lawful g.lives)
  | inr passed ↦
      let k = known_of u i cause (Some (From passed.from passed.message)) passed.came g.known in
      forwarded passed.from passed.message passed.body k
      (passed.next ∙ ap (λ n. n + 1) (held_last _ _ (g.lawful.logged.holds i (within u i cause (Append e) g))))
]
  where
    forwarded : (j : ℕ) (m : Peer)
        → m.body ≡ Forward e
        → IsKnown u i (Some (From j m))
        → e.number ≡ length (log u i) + 1
        → ((x : CallId) × IsNamed t e x) ⊎ (length t.committed ≤ length (log u i))
    forwarded j m body k number =
        let c : Rattle.world.proofs.trace.Layers.Carries u j m.view (Forward e) = rw body at k.1 in
        let ordinal : e.number - 1 ≡ length (log u i) = omega (arith, number) in
        rw ordinal at (s.entries j (e.number - 1) e k.0.sender c.1)

-- ---- an action

one : {x y : AnsweredRead} → Some x ≡ Some y → y ≡ x
one {x} {y} h = sym (same_Some x y h)

entries_by : (t u : Traced) (i : ℕ) (cause : Cause) (a : Action)
    → Later t u
    → Since t u
    → IsStep u i cause a
    → (k : ℕ) (e : LogEntry)
    → slice_get (log u i ++ new_entries a) k ≡ Some e
    → ((x : CallId) × IsNamed t e x) ⊎ (length t.committed ≤ k)
entries_by t u i cause (Append x) later s g k e h = elim (pushed_cases (log u i) x k e h) [
  | inl old ↦ s.entries i k e (within u i cause (Append x) g) old
  | inr new ↦ rw (new.0, new.1) (appended_since t u i cause x later s g)
]
entries_by t u i cause (Widen v) later s g k e h = s.entries i k e (within u i cause (Widen v) g) (rw append-nil at h)
entries_by t u i cause (Reach n) later s g k e h = s.entries i k e (within u i cause (Reach n) g) (rw append-nil at h)
entries_by t u i cause (Settle x) later s g k e h = s.entries i k e (within u i cause (Settle x) g) (rw append-nil at h)
entries_by t u i cause (Send j body) later s g k e h =
    s.entries i k e (within u i cause (Send j body) g) (rw append-nil at h)
entries_by t u i cause (Finish r n) later s g k e h =
    s.entries i k e (within u i cause (Finish r n) g) (rw append-nil at h)
entries_by t u i cause Trim later s g k e h = s.entries i k e (within u i cause Trim g) (rw append-nil at h)
entries_by t u i cause (Enter port call) later s g k e h =
    s.entries i k e (within u i cause (Enter port call) g) (rw append-nil at h)
entries_by t u i cause (Ask port key) later s g k e h =
    s.entries i k e (within u i cause (Ask port key) g) (rw append-nil at h)
entries_by t u i cause (Show port key) later s g k e h =
    s.entries i k e (within u i cause (Show port key) g) (rw append-nil at h)

entries_done : (t u : Traced) (i : ℕ) (cause : Cause) (a : Action)
    → Later t u
    → Since t u
    → IsStep u i cause a
    → (x k : ℕ) (e : LogEntry)
    → x < count (done u i a)
    → slice_get (log (done u i a) x) k ≡ Some e
    → ((x : CallId) × IsNamed t e x) ⊎ (length t.committed ≤ k)
entries_done t u i cause a later s g x k e lt h = elim (cases_eq x i) [
  | inl same ↦ entries_by t u i cause a later s g k e
      (rw (same, log_done u i a (rw g.lawful.framed.logs (within u i cause a g))) at h)
  | inr other ↦ s.entries x k e (rw (count_done u i a) at lt) (rw (log_other u i a x other) at h)
]

-- the number that answers an open read, if that asks under a number that wasn't given at t
answered_since : (t u : Traced) (i : ℕ) (cause : Cause) (r : OpenRead) (n : ℕ)
    → Later t u
    → IsKnownSince t u i cause
    → IsStep u i cause (Finish r n)
    → (server t.world i).next_ask ≤ r.ask
    → length t.committed ≤ n
answered_since t u i cause r n later known g high = elim g.guard.4 [
  | inl tail ↦ (let e = tail_holds u i g.lawful g.lives tail.0 in let c = committed_since t u later in omega
      (arith, tail.1, e, c))
  | inr answer ↦
      let k : IsKnownSince t u i (Some (From answer.0 answer.1)) = subst (λ c. IsKnownSince t u i c) answer.2 known in
      let said : SaysSince t u answer.0 i (Answer r.ask n) = subst (λ b. SaysSince t u answer.0 i b) answer.3 k in
      elim said.1 [ inl low ↦ absurd (omega arith) | inr above ↦ above ]
]

reads_by : (t u : Traced) (i : ℕ) (cause : Cause) (a : Action)
    → Later t u
    → Since t u
    → IsKnownSince t u i cause
    → IsStep u i cause a
    → (r : AnsweredRead)
    → In r (new_reads u i a)
    → IsSome (begun_call t.world r.id) ⊎ (length t.committed ≤ r.number)
reads_by t u i cause (Finish q n) later s known g r (zero, h) =
    rw (one h) (elim (s.asks i q (within u i cause (Finish q n) g) g.guard.1) [
      | inl old ↦ inl old
      | inr high ↦ inr (answered_since t u i cause q n later known g high)
    ])
reads_by t u i cause (Finish q n) later s known g r (suc k, h) = absurd cc
reads_by t u i cause (Show port key) later s known g r (zero, h) = rw (one h) (inr (committed_since t u later))
reads_by t u i cause (Show port key) later s known g r (suc k, h) = absurd cc
reads_by t u i cause (Append x) later s known g r h = absurd cc
reads_by t u i cause (Widen v) later s known g r h = absurd cc
reads_by t u i cause (Reach n) later s known g r h = absurd cc
reads_by t u i cause (Settle x) later s known g r h = absurd cc
reads_by t u i cause (Send j body) later s known g r h = absurd cc
reads_by t u i cause Trim later s known g r h = absurd cc
reads_by t u i cause (Enter port call) later s known g r h = absurd cc
reads_by t u i cause (Ask port key) later s known g r h = absurd cc

answers_done : (t u : Traced) (i : ℕ) (cause : Cause) (a : Action)
    → Later t u
    → Since t u
    → IsKnownSince t u i cause
    → IsStep u i cause a
    → (k : ℕ) (r : AnsweredRead)
    → slice_get (done u i a).reads k ≡ Some r
    → IsSome (begun_call t.world r.id) ⊎ (length t.committed ≤ r.number)
answers_done t u i cause a later s known g k r h =
    elim (in_joined u.reads (new_reads u i a) r (k, rw (reads_done u i a) at h)) [
      | inl old ↦ s.answers old.0 r old.1
      | inr new ↦ reads_by t u i cause a later s known g r new
    ]

-- an open read's name stays as it is
asks_done : (t u : Traced) (i : ℕ) (cause : Cause) (a : Action)
    → Later t u
    → Since t u
    → IsStep u i cause a
    → (x : ℕ) (r : OpenRead)
    → x < count (done u i a)
    → In r (server (done u i a).world x).asks
    → IsOldOrLater t (done u i a) x r
asks_done t u i cause a later s g x r lt h =
    subst (λ (id : CallId). IsSome (begun_call t.world id) ⊎ ((server t.world x).next_ask ≤ r.ask))
    (sym (open_id_done u i a r.port)) (elim (cases_eq x i) [
      | inl same ↦ rw same
          (elim (reads_act (server u.world i) a r (rw (same, server_done u i a (within u i cause a g)) at h)) [
            | inl old ↦ s.asks i r (within u i cause a g) old
            | inr new ↦ inr (rw new.3 (later.asks i))
          ])
      | inr other ↦ s.asks x r (rw (count_done u i a) at lt) (rw (server_other u i a x other) at h)
    ])

-- an open read's number was given
ask_given : (above lower_bound : ℕ) (rs : List OpenRead) (next_ask acked : ℕ) (r : OpenRead)
    → AreReads above lower_bound rs next_ask acked
    → In r rs
    → r.ask < next_ask
ask_given above lower_bound [] next_ask acked r h at_r = absurd cc
ask_given above lower_bound (q ∷ rs) next_ask acked r h (zero, e) = let b =
    reads_bound q.ask q.lower_bound rs next_ask acked h.2 in let same =
    ap (λ (x : OpenRead). x.ask) (same_Some q r e) in omega (arith, b.0, same)
ask_given above lower_bound (q ∷ rs) next_ask acked r h (suc k, e) =
    ask_given q.ask q.lower_bound rs next_ask acked r h.2 (k, e)

sends_since : (t u : Traced) (i : ℕ) (cause : Cause) (y : ℕ) (b : Body)
    → Later t u
    → IsKnownSince t u i cause
    → IsStep u i cause (Send y b)
    → SaysSince t u i y b
sends_since t u i cause y (Op id call) later known g = tt
sends_since t u i cause y (Forward e) later known g = tt
sends_since t u i cause y (Ack n) later known g = tt
sends_since t u i cause y (Query ask key) later known g = let m = g.guard.0 in ask_given 0 _ _ _ _ _ g.sound.reads m.5
sends_since t u i cause y (Answer ask n) later known g =
    let m = g.guard.0 in
    let k : IsKnownSince t u i (Some (From y m.3)) = subst (λ c. IsKnownSince t u i c) m.5 known in
    let said : SaysSince t u y i (Query ask m.4) = subst (λ b. SaysSince t u y i b) m.6 k in
    let e = tail_holds u i g.lawful g.lives m.0 in
    let c = committed_since t u later in
    (said, inr (omega (arith, m.1, e, c)))

says_done : (t u : Traced) (i : ℕ) (cause : Cause) (a : Action)
    → Later t u
    → Since t u
    → IsKnownSince t u i cause
    → IsStep u i cause a
    → (x y : ℕ) (m : Peer)
    → In m (link (done u i a).world x y)
    → SaysSince t (done u i a) x y m.body
says_done t u i cause a later s known g x y m h =
    says_later t u (done u i a) x y m.body g.later.asks (elim (link_done u i a x y m h) [
      | inl old ↦ s.says x y m old
      | inr new ↦ rw (new.0, new.3) (sends_since t u i cause y new.1 later known (subst (λ b. IsStep u i cause b) new.2 g))
    ])

-- each action keeps what holds with regard to an earlier moment
pub since_done : (t u : Traced) (i : ℕ) (cause : Cause) (a : Action)
    → Later t u
    → Since t u
    → IsKnownSince t u i cause
    → IsStep u i cause a
    → Since t (done u i a)
since_done t u i cause a later s known g = record {
  entries = entries_done t u i cause a later s g;
  answers = answers_done t u i cause a later s known g;
  asks = asks_done t u i cause a later s g;
  says = says_done t u i cause a later s known g;
}
