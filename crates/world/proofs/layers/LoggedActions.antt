-- Each action keeps logs and commit numbers.
use Rattle.std.proofs.Common.{◌≡◌, ℕ, ◌+◌, ◌-◌, ◌<◌, ◌≤◌, true, false, [], ◌++◌, length, Some, refl, arith, inl, inr}
use Rattle.std.proofs.Common.{ap, sym, ◌∙◌, subst}
use Rattle.std.specs.Prelude.{slice_get}
use Rattle.std.proofs.lemmas.Bool.{cases_order, both_ways, false_from_ne_true, or_parts}
use Rattle.std.proofs.lemmas.List.{append-nil}
use Rattle.versions.specs.Entries.{LogEntry, IsEntry}
use Rattle.versions.specs.Stores.{last_number}
use Rattle.node.specs.declared.messages.Body.{Body}
use Rattle.node.specs.declared.messages.Body.TheVariants.{Op, Forward, Ack, Query, Answer}
use Rattle.node.specs.declared.messages.Peer.{Peer}
use Rattle.node.specs.declared.messages.Input.TheVariants.{From}
use Rattle.node.specs.Views.{View, has}
use Rattle.node.specs.Servers.{is_head, is_tail, successor_of}
use Rattle.node.specs.Numbering.{appended, entered}
use Rattle.node.specs.Reading.{asked}
use Rattle.node.specs.Joining.{widened}
use Rattle.node.specs.Steps.{least_open, trimmed}
use Rattle.node.specs.Lawful.{IsSound}
use Rattle.node.proofs.SoundLaws.{least_within}
use Rattle.world.specs.Worlds.{server, lives}
use Rattle.node.proofs.Beginnings.{begins_as, begins-push}
use Rattle.world.proofs.layers.HeldLogs.{held_last, holds-pushed, holds-acked_to, holds-dropped_to, held_entry}
use Rattle.node.specs.Actions.{Action, Widen, Append, Reach, Settle, Send, Finish, Trim, Enter, Ask, Show, act, Cause}
use Rattle.node.specs.Actions.{IsMade, IsPassed, IsReached, MaySend, Guard}
use Rattle.world.proofs.trace.Traces.{Traced, log, count, last_living, done}
use Rattle.world.proofs.trace.TraceLaws.{new_entries}
use Rattle.world.proofs.trace.Layers.{Later, Framed, Carries, Logged, Lawful, IsKnown}
use Rattle.world.proofs.trace.IdLaws.{has-union, at_head, at_tail, predecessor_found, successor_found}
use Rattle.world.proofs.layers.LastLiving.{alive, last_found}
use Rattle.world.proofs.layers.LoggedLaws.{IsFit, kept_done, logged_from}

-- ---- who is the tail, the head, a neighbour

-- above who is the tail in its own view, all are in that view
pub above_tail : (t : Traced) (i : ℕ)
    → Framed t
    → i < count t
    → is_tail (server t.world i) ≡ true
    → (k : ℕ)
    → i < k
    → k < count t
    → has (server t.world i).view k ≡ true
above_tail t i f lt h k more less =
    (at_tail (server t.world i) h).between k (rw (f.id i lt) more) (rw (f.chain i lt) less)

-- below who is the head in its own view, all are in that view
pub below_head : (t : Traced) (i : ℕ)
    → Framed t
    → i < count t
    → is_head (server t.world i) ≡ true
    → (k : ℕ)
    → k < i
    → has (server t.world i).view k ≡ true
below_head t i f lt h k less =
    (at_head (server t.world i) h).below k (rw (f.id i lt) less)

-- a living tail in its own view is the greatest living server: the committed entries are its log
pub tail_is_last : (t : Traced) (i : ℕ)
    → Framed t
    → lives t.world i ≡ true
    → is_tail (server t.world i) ≡ true
    → last_living t.world ≡ Some i
tail_is_last t i f h tail =
    let lt = (alive t.world i h).within in
    last_found t.world i (alive t.world i h) (λ k more less. f.known i k lt (above_tail t i f lt tail k more less))

-- the last number of a living tail, in its own view, is how many entries are committed
pub tail_log : (t : Traced) (i : ℕ)
    → Framed t
    → Logged t
    → lives t.world i ≡ true
    → is_tail (server t.world i) ≡ true
    → last_number (server t.world i).store ≡ length t.committed
tail_log t i f l h tail =
    let lt = (alive t.world i h).within in
    held_last (log t i) (server t.world i).store (l.holds i lt) ∙ ap length (sym (l.last i (tail_is_last t i f h tail)))

-- ---- if the store stays

fit_alike : (t : Traced) (i : ℕ) (a : Action) → Logged t → i < count t
    → (act (server t.world i) a).state.store ≡ (server t.world i).store
    → ((k : ℕ) → has (act (server t.world i) a).state.view k ≡ false → has (server t.world i).view k ≡ false)
    → new_entries a ≡ []
    → ((j : ℕ) (body : Body) → a ≡ Send j body → Carries t i (server t.world i).view body)
    → IsFit t i a
fit_alike t i a l lt store out none sent =
    let same : log t i ++ new_entries a ≡ log t i = rw (none, append-nil) refl in
    record {
      holds = rw (same, store) (l.holds i lt);
      begins = λ k less o. begins_as (log t i ++ new_entries a) (log t i) (log t k) (log t k) same
          (l.begins k i less lt (out k o)) refl;
      acks = λ k more less o. rw store (l.acks i k more less (out k o));
      within = rw store (l.within i lt);
      sent = sent;
    }

fit_widened : (t : Traced) (i : ℕ) (v : View) → Logged t → i < count t → IsFit t i (Widen v)
unfolding act widened
fit_widened t i v l lt =
    fit_alike t i (Widen v) l lt refl (λ k o. (or_parts _ _ (rw has-union at o)).0) refl (λ j b e. absurd cc)

-- ---- an entry is appended

-- one that each server below has at its place, unless it is known to have failed
fit_appended : (t : Traced) (i : ℕ) (e : LogEntry)
    → Logged t
    → i < count t
    → IsEntry e
    → e.number ≡ last_number (server t.world i).store + 1
    → ((k : ℕ) → k < i → has (server t.world i).view k ≡ false → slice_get (log t k) (length (log t i)) ≡ Some e)
    → IsFit t i (Append e)
unfolding act appended
fit_appended t i e l lt valid next f = record {
  holds = holds-pushed (log t i) (server t.world i).store e (l.holds i lt) valid next;
  begins = λ k less o. begins-push (log t i) (log t k) e (l.begins k i less lt o) (f k less o);
  acks = λ k more less o. l.acks i k more less o;
  within = l.within i lt;
  sent = λ j b h. absurd cc;
}

fit_made : (t : Traced) (i : ℕ) (cause : Cause) (e : LogEntry)
    → Framed t
    → Logged t
    → i < count t
    → IsEntry e
    → IsMade cause (server t.world i) e
    → IsFit t i (Append e)
fit_made t i cause e f l lt valid m =
    fit_appended t i e l lt valid (ap (λ (x : LogEntry). x.number) m.made)
    (λ k less o. absurd (both_ways _ o (below_head t i f lt m.head k less)))

-- what is known of the message that a step takes
record IsHeard (t : Traced) (i from : ℕ) (m : Peer) : Type 0 where
  sender : from < count t
  carries : Carries t from m.view m.body

heard : (t : Traced) (i : ℕ) (cause : Cause) (from : ℕ) (m : Peer)
    → IsKnown t i cause
    → cause ≡ Some (From from m)
    → IsHeard t i from m
heard t i cause from m known came =
    let k : IsKnown t i (Some (From from m)) = subst (λ c. IsKnown t i c) came known in
    record { sender = k.0.sender; carries = k.1 }

fit_passed : (t : Traced) (i : ℕ) (cause : Cause) (e : LogEntry)
    → Framed t
    → Logged t
    → i < count t
    → IsKnown t i cause
    → IsEntry e
    → IsPassed cause (server t.world i) e
    → IsFit t i (Append e)
fit_passed t i cause e f l lt known valid p =
    let s = server t.world i in
    let c : Carries t p.from p.message.view (Forward e) =
    subst (λ b. Carries t p.from p.message.view b) p.body (heard t i cause p.from p.message known p.came).carries in
    let above = predecessor_found s p.from p.predecessor in
    let last = held_last (log t i) s.store (l.holds i lt) in
    let ordinal : e.number - 1 ≡ length (log t i) = omega (arith, p.next, last) in
    let id = f.id i lt in
    fit_appended t i e l lt valid p.next (λ k less o. rw (← ordinal) (
    elim (cases_order k p.from) [
      | inl same ↦ rw same c.1
      | inr other ↦ elim other [
        | inl lower ↦ c.2 k lower (false_from_ne_true _ (λ h. both_ways _ o (p.joined k h)))
        | inr higher ↦ absurd (both_ways _ o (above.between k higher (rw id less)))
      ]
    ]))

-- ---- the commit number rises

fit_raised : (t : Traced) (i n : ℕ)
    → Logged t
    → i < count t
    → (server t.world i).store.acked < n
    → n ≤ last_number (server t.world i).store
    → ((k : ℕ) → i < k → k < count t → has (server t.world i).view k ≡ false → n ≤ (server t.world k).store.acked)
    → n ≤ length t.committed
    → IsFit t i (Reach n)
unfolding act
fit_raised t i n l lt low high acks within =
    let same : log t i ++ [] ≡ log t i = append-nil _ in
    record {
      holds = rw same (holds-acked_to (log t i) (server t.world i).store n (l.holds i lt) (omega arith) high);
      begins = λ k less o. begins_as (log t i ++ []) (log t i) (log t k) (log t k) same (l.begins k i less lt o) refl;
      acks = acks;
      within = within;
      sent = λ j b h. absurd cc;
    }

fit_reached : (t : Traced) (i : ℕ) (cause : Cause) (n : ℕ)
    → Framed t
    → Logged t
    → lives t.world i ≡ true
    → IsKnown t i cause
    → (server t.world i).store.acked < n
    → n ≤ last_number (server t.world i).store
    → IsReached cause (server t.world i) n
    → IsFit t i (Reach n)
fit_reached t i cause n f l h known low high (inl r) =
    let lt = (alive t.world i h).within in
    fit_raised t i n l lt low high (λ k more less o. absurd (both_ways _ o (above_tail t i f lt r.0 k more less)))
    (rw (r.1, tail_log t i f l h r.0) (omega arith))
fit_reached t i cause n f l h known low high (inr r) =
    let lt = (alive t.world i h).within in
    let s = server t.world i in
    let from = r.0 in
    let m = r.1 in
    let heard = heard t i cause from m known r.2 in
    let c : Carries t from m.view (Ack n) = subst (λ b. Carries t from m.view b) r.3 heard.carries in
    let below = successor_found s from r.4 in
    let id = f.id i lt in
    fit_raised t i n l lt low high (λ k more less o.
    elim (cases_order k from) [
      | inl same ↦ rw same c.0
      | inr other ↦ elim other [
        | inl lower ↦ absurd (both_ways _ o (below.between k (omega (arith, id)) lower))
        | inr higher ↦ c.1 k higher less (false_from_ne_true _ (λ g. both_ways _ o (r.5 k g)))
      ]
    ])
    (omega (arith, c.0, l.within from heard.sender))

-- ---- the floor follows

fit_trimmed : (t : Traced) (i : ℕ) → Logged t → i < count t → IsSound (server t.world i) → IsFit t i Trim
unfolding act trimmed
fit_trimmed t i l lt sound =
    let s = server t.world i in
    let same : log t i ++ [] ≡ log t i = append-nil _ in
    let n = least_within 0 s.store.floor s.asks s.next_ask s.store.acked sound.reads in
    record {
      holds = rw same (holds-dropped_to (log t i) s.store (least_open s.store.acked s.asks) (l.holds i lt) n.0 n.1);
      begins = λ k less o. begins_as (log t i ++ []) (log t i) (log t k) (log t k) same (l.begins k i less lt o) refl;
      acks = λ k more less o. l.acks i k more less o;
      within = l.within i lt;
      sent = λ j b h. absurd cc;
    }

-- ---- a message is put out

carried : (t : Traced) (i : ℕ) (cause : Cause) (j : ℕ) (b : Body)
    → Framed t
    → Logged t
    → lives t.world i ≡ true
    → MaySend cause (server t.world i) j b
    → Carries t i (server t.world i).view b
carried t i cause j (Op id call) f l h m = tt
carried t i cause j (Forward e) f l h m =
    let lt = (alive t.world i h).within in
    let e = held_entry (log t i) (server t.world i).store e (l.holds i lt) m.1 in
    (e.low, e.ordinal, λ k less o. l.begins k i less lt o _ _ e.ordinal)
carried t i cause j (Ack n) f l h m =
    let is : n ≡ (server t.world i).store.acked = m.1 in
    (omega arith, λ k more less o. rw is (l.acks i k more less o))
carried t i cause j (Query ask key) f l h m = tt
carried t i cause j (Answer ask n) f l h m = rw (m.1, tail_log t i f l h m.0) (omega arith)

fit_sent : (t : Traced) (i : ℕ) (cause : Cause) (j : ℕ) (b : Body)
    → Framed t
    → Logged t
    → lives t.world i ≡ true
    → MaySend cause (server t.world i) j b
    → IsFit t i (Send j b)
unfolding act
fit_sent t i cause j b f l h m =
    fit_alike t i (Send j b) l (alive t.world i h).within refl (λ k o. o) refl (λ x c e.
    let same : b ≡ c = cc in
    subst (λ c. Carries t i (server t.world i).view c) same (carried t i cause j b f l h m))

-- ---- all of them

fit : (t : Traced) (i : ℕ) (cause : Cause) (a : Action)
    → Framed t
    → Logged t
    → lives t.world i ≡ true
    → IsKnown t i cause
    → IsSound (server t.world i)
    → Guard cause (server t.world i) a
    → IsFit t i a
unfolding act entered asked
fit t i cause (Widen v) f l h known sound g = fit_widened t i v l (alive t.world i h).within
fit t i cause (Append e) f l h known sound g = elim g.1 [
  | inl made ↦ fit_made t i cause e f l (alive t.world i h).within g.0 made
  | inr passed ↦ fit_passed t i cause e f l (alive t.world i h).within known g.0 passed
]
fit t i cause (Reach n) f l h known sound g = fit_reached t i cause n f l h known g.0 g.1 g.2
fit t i cause (Settle e) f l h known sound g =
    fit_alike t i (Settle e) l (alive t.world i h).within refl (λ k o. o) refl (λ j b e. absurd cc)
fit t i cause (Send j b) f l h known sound g = fit_sent t i cause j b f l h g.0
fit t i cause (Finish r n) f l h known sound g =
    fit_alike t i (Finish r n) l (alive t.world i h).within refl (λ k o. o) refl (λ j b e. absurd cc)
fit t i cause Trim f l h known sound g = fit_trimmed t i l (alive t.world i h).within sound
fit t i cause (Enter port call) f l h known sound g =
    fit_alike t i (Enter port call) l (alive t.world i h).within refl (λ k o. o) refl (λ j b e. absurd cc)
fit t i cause (Ask port key) f l h known sound g =
    fit_alike t i (Ask port key) l (alive t.world i h).within refl (λ k o. o) refl (λ j b e. absurd cc)
fit t i cause (Show port key) f l h known sound g =
    fit_alike t i (Show port key) l (alive t.world i h).within refl (λ k o. o) refl (λ j b e. absurd cc)

-- an action of a living server keeps logs and commit numbers
pub logged_done : (t : Traced) (i : ℕ) (cause : Cause) (a : Action)
    → lives t.world i ≡ true
    → Lawful t
    → IsKnown t i cause
    → IsSound (server t.world i)
    → Guard cause (server t.world i) a
    → Later t (done t i a) → Framed (done t i a) → Logged (done t i a)
logged_done t i cause a h w known sound g later framed =
    let k = kept_done t i a w.framed w.logged later h (fit t i cause a w.framed w.logged h known sound g) in
    logged_from t (done t i a) w.logged later framed k
