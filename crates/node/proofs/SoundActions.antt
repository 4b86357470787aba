-- Each single action keeps what every server keeps, and a server's place and count; and what a server knows only grows.
use Rattle.std.proofs.Common.{◌≡◌, ℕ, ◌+◌, ◌≤◌, true, ◌⊎◌, inl, inr, refl, ap, ◌∙◌, arith}
use Rattle.std.proofs.lemmas.Bool.{or_left}
use Rattle.versions.specs.Entries.{LogEntry}
use Rattle.versions.specs.Stores.{last_number}
use Rattle.node.specs.Views.{has}
use Rattle.node.specs.Servers.{ServerState}
use Rattle.node.specs.Numbering.{left_open_by, appended, entered}
use Rattle.node.specs.Reading.{asked, without_read}
use Rattle.node.specs.Joining.{widened}
use Rattle.node.specs.Steps.{trimmed}
use Rattle.node.specs.Lawful.{IsSound}
use Rattle.node.specs.Actions.{Action, Widen, Append, Reach, Settle, Send, Finish, Trim, Enter, Ask, Show, act, Cause}
use Rattle.node.specs.Actions.{IsMade, IsPassed, Guard}
use Rattle.node.proofs.ViewLaws.{has-union}
use Rattle.node.proofs.SoundLaws.{updates-left, reads-without, sound-widened, sound-appended, sound-acked}
use Rattle.node.proofs.SoundLaws.{sound-updates, sound-closed, sound-trimmed, sound-entered, sound-asked}

-- an entry that may be appended has the next number
pub appended_next : (c : Cause) (s : ServerState) (e : LogEntry)
    → IsMade c s e ⊎ IsPassed c s e
    → e.number ≡ last_number s.store + 1
appended_next c s e (inl m) = ap (λ (x : LogEntry). x.number) m.made
appended_next c s e (inr p) = p.next

-- an action that its guard lets a sound server do leaves it sound
pub sound_act : (c : Cause) (s : ServerState) (a : Action) → IsSound s → Guard c s a → IsSound (act s a).state
unfolding act
sound_act c s (Widen v) h g = sound-widened s v g.2 g.1 h
sound_act c s (Append e) h g = sound-appended s e g.0 (appended_next c s e g.1) h
sound_act c s (Reach n) h g = sound-acked s n (omega (arith, g.0)) g.1 h
sound_act c s (Settle e) h g =
    sound-updates s (left_open_by s.id s.pend e) s.next_id (updates-left s.id s.pend s.next_id e h.updates) h
sound_act c s (Send j body) h g = h
sound_act c s (Finish r n) h g =
    sound-closed s (without_read s.asks r.ask)
    (reads-without 0 s.store.floor s.asks s.next_ask s.store.acked r.ask h.reads) h
sound_act c s Trim h g = sound-trimmed s h
sound_act c s (Enter port call) h g = sound-entered s port call g.1 g.2 h
sound_act c s (Ask port key) h g = sound-asked s port key h
sound_act c s (Show port key) h g = h

-- where a server stands, and of how many
pub record IsSeatOf (s t : ServerState) : Type 0 where
  pub id : t.id ≡ s.id
  pub count : t.count ≡ s.count

-- an action leaves a server its id and the count of servers
pub seat_act : (s : ServerState) (a : Action) → IsSeatOf s (act s a).state
unfolding act widened appended trimmed entered asked
seat_act s (Widen v) = record { id = refl; count = refl }
seat_act s (Append e) = record { id = refl; count = refl }
seat_act s (Reach n) = record { id = refl; count = refl }
seat_act s (Settle e) = record { id = refl; count = refl }
seat_act s (Send j body) = record { id = refl; count = refl }
seat_act s (Finish r n) = record { id = refl; count = refl }
seat_act s Trim = record { id = refl; count = refl }
seat_act s (Enter port call) = record { id = refl; count = refl }
seat_act s (Ask port key) = record { id = refl; count = refl }
seat_act s (Show port key) = record { id = refl; count = refl }

-- what a server knows and has numbered only grows
pub record Grown (s t : ServerState) : Type 0 where
  pub id : t.id ≡ s.id
  pub count : t.count ≡ s.count
  pub view : (k : ℕ) → has s.view k ≡ true → has t.view k ≡ true
  pub acked : s.store.acked ≤ t.store.acked
  pub next_id : s.next_id ≤ t.next_id
  pub next_ask : s.next_ask ≤ t.next_ask

-- a server as it was knows and has numbered no less
pub grown_same : (s : ServerState) → Grown s s
grown_same s = record
    { id = refl; count = refl; view = λ k h. h; acked = omega arith; next_id = omega arith; next_ask = omega arith }

-- what only grows in two parts only grows in both together
pub grown_then : (s t u : ServerState) → Grown s t → Grown t u → Grown s u
grown_then s t u h g = record {
  id = g.id ∙ h.id;
  count = g.count ∙ h.count;
  view = λ k x. g.view k (h.view k x);
  acked = omega (arith, h.acked, g.acked);
  next_id = omega (arith, h.next_id, g.next_id);
  next_ask = omega (arith, h.next_ask, g.next_ask);
}

-- what leaves the view and the commit number takes nothing away
grown_kept : (s t : ServerState)
    → IsSeatOf s t
    → t.view ≡ s.view
    → t.store.acked ≡ s.store.acked
    → s.next_id ≤ t.next_id
    → s.next_ask ≤ t.next_ask
    → Grown s t
grown_kept s t seat view acked ids asks = record {
  id = seat.id;
  count = seat.count;
  view = λ k h. ap (λ v. has v k) view ∙ h;
  acked = omega (arith, acked);
  next_id = ids;
  next_ask = asks;
}

-- what a server knows and has numbered only grows by an action that its guard lets it do
pub grown_act : (cause : Cause) (s : ServerState) (a : Action) → Guard cause s a → Grown s (act s a).state
unfolding act widened appended entered asked trimmed
grown_act cause s (Widen v) g =
    record {
      id = refl;
      count = refl;
      view = λ k h. rw (has-union s.view v k) (or_left _ _ h);
      acked = omega arith;
      next_id = omega arith;
      next_ask = omega arith;
    }
grown_act cause s (Append e) g = grown_kept s _ (seat_act s (Append e)) refl refl (omega arith) (omega arith)
grown_act cause s (Reach n) g =
    record {
      id = refl;
      count = refl;
      view = λ k h. h;
      acked = omega (arith, g.0);
      next_id = omega arith;
      next_ask = omega arith;
    }
grown_act cause s (Settle e) g = grown_kept s _ (seat_act s (Settle e)) refl refl (omega arith) (omega arith)
grown_act cause s (Send j body) g = grown_same s
grown_act cause s (Finish r n) g = grown_kept s _ (seat_act s (Finish r n)) refl refl (omega arith) (omega arith)
grown_act cause s Trim g = grown_kept s _ (seat_act s Trim) refl refl (omega arith) (omega arith)
grown_act cause s (Enter port call) g =
    grown_kept s _ (seat_act s (Enter port call)) refl refl (omega arith) (omega arith)
grown_act cause s (Ask port key) g =
    grown_kept s _ (seat_act s (Ask port key)) refl refl (omega arith) (omega arith)
grown_act cause s (Show port key) g = grown_same s
