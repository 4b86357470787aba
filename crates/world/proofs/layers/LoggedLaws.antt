-- Logs and commit numbers: what messages carry stays, and what a world must show to keep them.
use Rattle.std.proofs.Common.{◌≡◌, ◌≢◌, ℕ, ◌+◌, ◌-◌, ◌<◌, ◌≤◌, true, false, List, [], ◌++◌, length, Option, Some, None}
use Rattle.std.proofs.Common.{refl, arith, ◌⊎◌, inl, inr, ap, sym, ◌∙◌}
use Rattle.std.specs.Prelude.{slice_get}
use Rattle.std.proofs.lemmas.Bool.{cases_eq, both_ways, false_from_ne_true}
use Rattle.std.proofs.lemmas.Option.{none-some as none_some}
use Rattle.versions.specs.Entries.{LogEntry, IsEntry}
use Rattle.node.specs.declared.messages.Body.{Body}
use Rattle.node.specs.declared.messages.Body.TheVariants.{Op, Forward, Ack, Query, Answer}
use Rattle.node.specs.declared.messages.Peer.{Peer}
use Rattle.node.specs.Views.{View, has}
use Rattle.world.specs.Worlds.{server, link, lives}
use Rattle.node.proofs.Lists.{In, Begins}
use Rattle.node.proofs.Beginnings.{begins-length}
use Rattle.node.specs.Actions.{Action, Send, act}
use Rattle.world.proofs.trace.Traces.{Traced, log, count, last_living, done}
use Rattle.world.proofs.trace.TraceLaws.{new_entries, last_living_done, server_done, server_other, link_done, log_other}
use Rattle.world.proofs.trace.TraceLaws.{log_done, committed_done}
use Rattle.world.proofs.trace.Layers.{Later, Framed, Holds, Carries, Logged}
use Rattle.world.proofs.trace.IdLaws.{last_lives, has_last}
use Rattle.world.proofs.layers.LastLiving.{alive, living_begins}

-- a view that is known now was not known to name more before
pub still_out : (t u : Traced)
    → Later t u
    → (i k : ℕ)
    → has (server u.world i).view k ≡ false
    → has (server t.world i).view k ≡ false
still_out t u l i k o = false_from_ne_true _ (λ h. both_ways _ o (l.views i k h))

-- what a message carries, it carries later
pub carries_later : (t u : Traced) → Later t u → (i : ℕ) (v : View) (b : Body) → Carries t i v b → Carries u i v b
carries_later t u l i v (Op id call) c = tt
carries_later t u l i v (Forward e) c =
    (c.0, l.logs i (e.number - 1) e c.1, λ k less o. l.logs k (e.number - 1) e (c.2 k less o))
carries_later t u l i v (Ack n) c =
    (omega (arith, c.0, l.acks i), λ k more lt o. omega (arith, l.acks k, c.1 k more (rw (← l.count) lt) o))
carries_later t u l i v (Query ask key) c = tt
carries_later t u l i v (Answer ask n) c = omega (arith, begins-length t.committed u.committed l.committed)

numbered_by : (t u : Traced) (o : Option ℕ) → last_living u.world ≡ o → Logged t
    → ((i : ℕ) → i < count u → Holds (log u i) (server u.world i).store)
    → ((i : ℕ) → last_living u.world ≡ Some i → u.committed ≡ log u i)
    → (last_living u.world ≡ None → (u.committed ≡ t.committed) × ((k : ℕ) → log u k ≡ log t k))
    → (k : ℕ) (e : LogEntry) → slice_get u.committed k ≡ Some e → (e.number ≡ k + 1) × IsEntry e
numbered_by t u None h l holds last kept k e at =
    l.numbered k e (sym (ap (λ (es : List LogEntry). slice_get es k) (kept h).0) ∙ at)
numbered_by t u (Some i) h l holds last kept k e at =
    (holds i (alive u.world i (last_lives u.world i h)).within).numbered k e
    (sym (ap (λ (es : List LogEntry). slice_get es k) (last i h)) ∙ at)

source_by : (t u : Traced) (o : Option ℕ) → last_living u.world ≡ o → Logged t → Later t u
    → ((i : ℕ) → last_living u.world ≡ Some i → u.committed ≡ log u i)
    → (last_living u.world ≡ None → (u.committed ≡ t.committed) × ((k : ℕ) → log u k ≡ log t k))
    → (u.committed ≡ []) ⊎ ((i : ℕ) × (i < count u) × (u.committed ≡ log u i))
source_by t u None h l later last kept = elim l.source [
  | inl none ↦ inl ((kept h).0 ∙ none)
  | inr some ↦ inr (some.0, rw later.count some.1, (kept h).0 ∙ some.2 ∙ sym ((kept h).1 some.0))
]
source_by t u (Some i) h l later last kept = inr (i, (alive u.world i (last_lives u.world i h)).within, last i h)

-- what must be shown of a world after another
pub record IsKept (t u : Traced) : Type 0 where
  pub holds : (i : ℕ) → i < count u → Holds (log u i) (server u.world i).store
  pub begins : (i j : ℕ) → i < j → j < count u → has (server u.world j).view i ≡ false → Begins (log u j) (log u i)
  pub acks : (i j : ℕ)
      → i < j
      → j < count u
      → has (server u.world i).view j ≡ false
      → (server u.world i).store.acked ≤ (server u.world j).store.acked
  pub last : (i : ℕ) → last_living u.world ≡ Some i → u.committed ≡ log u i
  pub kept : last_living u.world ≡ None → (u.committed ≡ t.committed) × ((k : ℕ) → log u k ≡ log t k)
  pub within : (i : ℕ) → i < count u → (server u.world i).store.acked ≤ length u.committed
  pub sent : (i j : ℕ) (m : Peer) → In m (link u.world i j) → In m (link t.world i j) ⊎ Carries u i m.view m.body

-- logs and commit numbers hold in a later world of which all that `IsKept` asks is shown
pub logged_from : (t u : Traced) → Logged t → Later t u → Framed u → IsKept t u → Logged u
logged_from t u l later f k = record {
  holds = k.holds;
  begins = k.begins;
  acks = k.acks;
  last = k.last;
  within = k.within;
  living = living_begins u f k.begins k.last;
  source = source_by t u (last_living u.world) refl l later k.last k.kept;
  numbered = numbered_by t u (last_living u.world) refl l k.holds k.last k.kept;
  carries = λ i j m h. elim (k.sent i j m h)
      [ inl old ↦ carries_later t u later i m.view m.body (l.carries i j m old) | inr new ↦ new ];
}

-- if all servers and logs stay
pub kept_alike : (t u : Traced)
    → Logged t
    → Later t u
    → ((k : ℕ) → server u.world k ≡ server t.world k)
    → ((k : ℕ) → log u k ≡ log t k)
    → ((i : ℕ) → last_living u.world ≡ Some i → u.committed ≡ log t i)
    → (last_living u.world ≡ None → u.committed ≡ t.committed)
    → ((i j : ℕ) (m : Peer) → In m (link u.world i j) → In m (link t.world i j)) → IsKept t u
kept_alike t u l later servers logs last kept links = record {
  holds = λ i lt. rw (logs i, servers i) (l.holds i (rw later.count at lt));
  begins = λ i j less lt o. rw (logs i, logs j) (l.begins i j less (rw later.count at lt) (rw servers at o));
  acks = λ i j less lt o. rw (servers i, servers j) (l.acks i j less (rw later.count at lt) (rw servers at o));
  last = λ i h. last i h ∙ sym (logs i);
  kept = λ h. (kept h, logs);
  within = λ i lt. rw (servers i)
      (omega (arith, l.within i (rw later.count at lt), begins-length t.committed u.committed later.committed));
  sent = λ i j m h. inl (links i j m h);
}

-- what an action of server i must show
pub record IsFit (t : Traced) (i : ℕ) (a : Action) : Type 0 where
  pub holds : Holds (log t i ++ new_entries a) (act (server t.world i) a).state.store
  pub begins : (k : ℕ)
      → k < i
      → has (act (server t.world i) a).state.view k ≡ false
      → Begins (log t i ++ new_entries a) (log t k)
  pub acks : (k : ℕ)
      → i < k
      → k < count t
      → has (act (server t.world i) a).state.view k ≡ false
      → (act (server t.world i) a).state.store.acked ≤ (server t.world k).store.acked
  pub within : (act (server t.world i) a).state.store.acked ≤ length t.committed
  pub sent : (j : ℕ) (body : Body) → a ≡ Send j body → Carries t i (server t.world i).view body

-- an action of a living server that shows all that `IsFit` asks keeps logs and commit numbers
pub kept_done : (t : Traced) (i : ℕ) (a : Action)
    → Framed t
    → Logged t
    → Later t (done t i a)
    → lives t.world i ≡ true
    → IsFit t i a
    → IsKept t (done t i a)
kept_done t i a f l later h fit =
    let lt = (alive t.world i h).within in
    let last_one = has_last t.world i h in
    let u = done t i a in
    let mine = server_done t i a lt in
    let other = server_other t i a in
    let own = log_done t i a (rw f.logs lt) in
    let others = log_other t i a in
    let before : (k : ℕ) → k < count u → k < count t = λ k h. rw later.count at h in
    record {
      holds = λ k h. elim (cases_eq k i) [
        | inl same ↦ rw (same, mine, own) fit.holds
        | inr apart ↦ rw (other k apart, others k apart) (l.holds k (before k h))
      ];
      begins = λ x y less h o. elim (cases_eq y i) [
        | inl same ↦ (
            let apart : x ≢ i = λ e. absurd (omega arith) in
            rw (same, own, others x apart) (fit.begins x (omega arith) (rw (same, mine) at o)))
        | inr apart ↦ (λ k e g. later.logs x k e
            (l.begins x y less (before y h) (still_out t u later y x o) k e (rw (others y apart) at g)))
      ];
      acks = λ x y less h o. elim (cases_eq x i) [
        | inl same ↦ (
            let apart : y ≢ i = λ e. absurd (omega arith) in
            rw (same, mine, other y apart) (fit.acks y (omega arith) (before y h) (rw (same, mine) at o)))
        | inr apart ↦ (let h = l.acks x y less (before y h) (still_out t u later x y o) in rw (other x apart)
            (omega (arith, h, later.acks y)))
      ];
      last = λ k h. committed_done t i a k (sym (last_living_done t i a) ∙ h);
      kept = λ e. absurd (none_some last_one.0 (sym (sym (last_living_done t i a) ∙ e) ∙ last_one.1));
      within = λ k h. (
          let more = begins-length t.committed u.committed later.committed in
          elim (cases_eq k i) [
            | inl same ↦ rw (same, mine) (omega (arith, fit.within, more))
            | inr apart ↦ rw (other k apart) (omega (arith, l.within k (before k h), more))
          ]);
      sent = λ x y m h. elim (link_done t i a x y m h) [
        | inl old ↦ inl old
        | inr new ↦ inr (rw (new.0, new.3)
            (carries_later t u later i (server t.world i).view new.1 (fit.sent y new.1 new.2)))
      ];
    }
