-- What it takes that a chain of two servers is quiet.
use Rattle.std.proofs.Common.{◌≡◌, ℕ, zero, suc, ◌<◌, true, List, [], None, arith, ap, sym}
use Rattle.std.proofs.Common.{◌∙◌, subst, inl, inr}
use Rattle.std.specs.Prelude.{not, nat_lt}
use Rattle.std.proofs.lemmas.Bool.{and_parts, cases_eq, ltb-true}
use Rattle.node.specs.Views.{has}
use Rattle.interleavings.specs.Chains.{Seat, Chain, messages_to, replies_to}
use Rattle.interleavings.specs.Moves.{has_stopped}
use Rattle.interleavings.specs.Quiet.{goes_on, IsQuiet}
use Rattle.interleavings.proofs.examples.MissedSet.{served_seats, served_first, served_other}

-- server i has nothing left to do
pub record IsDone (l : Chain) (i : ℕ) : Type 0 where
  pub inbox : (l.servers i).inbox ≡ []
  pub unpublished : (l.servers i).unpublished ≡ None
  pub messages : (j : ℕ) → goes_on l j ≡ true → messages_to j (l.servers i).outbox ≡ []
  pub replies : (c : ℕ) → replies_to c (l.servers i).outbox ≡ []
  pub views : (j : ℕ) → has_stopped l j ≡ true → has (l.servers i).node.view j ≡ true
  pub channels : (j : ℕ) → goes_on l j ≡ true → l.channels i j ≡ []

-- what holds of both servers holds of each
pub by_two : (P : ℕ → Type 0) (i : ℕ) → i < 2 → P 0 → P 1 → P i
by_two P zero l a b = a
by_two P (suc zero) l a b = b
by_two P (suc (suc i)) l a b = absurd (omega (arith, l))

-- a server that goes on is one of the two
pub on_below : (l : Chain) (i : ℕ) → l.count ≡ 2 → goes_on l i ≡ true → i < 2
on_below l i two on =
    let below = ltb-true i l.count (and_parts (nat_lt i l.count) (not (l.servers i).stopped) on).0 in
    omega (arith, two, below)

-- and so is one that has stopped
pub stopped_below : (l : Chain) (i : ℕ) → l.count ≡ 2 → has_stopped l i ≡ true → i < 2
stopped_below l i two over =
    let below = ltb-true i l.count (and_parts (nat_lt i l.count) (l.servers i).stopped over).0 in
    omega (arith, two, below)

-- two servers with nothing left to do, and empty queues: the chain is quiet
pub quiet_pair : (l : Chain)
    → l.count ≡ 2
    → IsDone l 0
    → (goes_on l 1 ≡ true → IsDone l 1)
    → ((c : ℕ) → (l.seats c).queued ≡ [])
    → IsQuiet l
quiet_pair l two first last queued = record {
  inboxes = λ i on. (is_done i on).inbox;
  all_published = λ i on. (is_done i on).unpublished;
  messages = λ i j on there. (is_done i on).messages j there;
  replies = λ i c on. (is_done i on).replies c;
  views = λ i j on over. (is_done i on).views j over;
  channels = λ i j on there. (is_done i on).channels j there;
  queues = λ c on. queued c;
}
  where
    is_done : (i : ℕ) → goes_on l i ≡ true → IsDone l i
    is_done i on =
        by_two (λ k. goes_on l k ≡ true → IsDone l k) i (on_below l i two on) (λ e. first) last on

-- seats that were served have empty queues
pub served_quiet : (l : Chain) (homes : List ℕ) → l.seats ≡ served_seats 2 homes 0 → (c : ℕ) → (l.seats c).queued ≡ []
served_quiet l homes served c = ap (λ (ss : ℕ → Seat). (ss c).queued) served ∙ elim (cases_eq c 0) [
  | inl same ↦ subst (λ k. (served_seats 2 homes 0 k).queued ≡ []) (sym same)
      (ap (λ (s : Seat). s.queued) (served_first 2 homes 0))
  | inr other ↦ ap (λ (s : Seat). s.queued) (served_other 2 homes 0 c other)
]
