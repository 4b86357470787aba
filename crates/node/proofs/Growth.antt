-- Every action but the floor's adds entries to a server's log, and leaves its base and its floor.
use Rattle.std.proofs.Common.{◌≡◌, ◌+◌, ◌≤◌, Bool, true, false, List, [], ◌∷◌, ◌++◌, length, refl, sym, ap, ◌∙◌, arith}
use Rattle.std.proofs.Common.{length-append, append_assoc, append-nil}
use Rattle.versions.specs.Entries.{LogEntry}
use Rattle.versions.specs.Stores.{last_number}
use Rattle.node.specs.Servers.{ServerState}
use Rattle.node.specs.Numbering.{appended, entered}
use Rattle.node.specs.Reading.{asked}
use Rattle.node.specs.Joining.{widened}
use Rattle.node.specs.Actions.{Action, Widen, Append, Reach, Settle, Send, Finish, Trim, Enter, Ask, Show, act}

-- the floor follows
abbrev pub is_trim : Action → Bool
is_trim Trim = true
is_trim a = false

-- entries were added at the log's end, and base and floor stay
pub record Grows (s t : ServerState) : Type 0 where
  pub base : t.store.base ≡ s.store.base
  pub floor : t.store.floor ≡ s.store.floor
  pub more : List LogEntry
  pub rest : t.store.rest ≡ s.store.rest ++ more

grows_kept : (s t : ServerState)
    → t.store.base ≡ s.store.base
    → t.store.floor ≡ s.store.floor
    → t.store.rest ≡ s.store.rest
    → Grows s t
grows_kept s t base floor rest =
    record { base = base; floor = floor; more = []; rest = rest ∙ sym (append-nil s.store.rest) }

-- nothing was added
pub grows_self : (s : ServerState) → Grows s s
grows_self s = grows_kept s s refl refl refl

-- what grows twice has grown
pub grows_then : (s t u : ServerState) → Grows s t → Grows t u → Grows s u
grows_then s t u h g = record {
  base = g.base ∙ h.base;
  floor = g.floor ∙ h.floor;
  more = h.more ++ g.more;
  rest = g.rest ∙ ap (λ es. es ++ g.more) h.rest ∙ append_assoc s.store.rest h.more g.more;
}

-- what each action adds
pub grows_act : (s : ServerState) (a : Action) → is_trim a ≡ false → Grows s (act s a).state
unfolding act widened appended entered asked
grows_act s (Widen v) other = grows_kept s _ refl refl refl
grows_act s (Append e) other = record { base = refl; floor = refl; more = e ∷ []; rest = refl }
grows_act s (Reach n) other = grows_kept s _ refl refl refl
grows_act s (Settle e) other = grows_kept s _ refl refl refl
grows_act s (Send j body) other = grows_self s
grows_act s (Finish r n) other = grows_kept s _ refl refl refl
grows_act s Trim other = absurd cc
grows_act s (Enter port call) other = grows_kept s _ refl refl refl
grows_act s (Ask port key) other = grows_kept s _ refl refl refl
grows_act s (Show port key) other = grows_self s

-- the last number before is between the floor and the last number after
pub last-grown : (s t : ServerState)
    → Grows s t
    → (t.store.floor ≤ last_number s.store) × (last_number s.store ≤ last_number t.store)
last-grown s t g =
    let l : length t.store.rest ≡ length s.store.rest + length g.more =
    ap length g.rest ∙ length-append s.store.rest g.more in
    (omega (arith, g.floor), omega (arith, g.floor, l))
