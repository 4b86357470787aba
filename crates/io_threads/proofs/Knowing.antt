-- What the reader of a thread's seats knows of the thread's clients.
use Rattle.std.proofs.Common.{◌≡◌, ℕ, List, [], Option, Some, None, inl, inr, subst, sym, slice_index_or}
use Rattle.std.proofs.lemmas.Bool.{cases_eq}
use Rattle.faces.specs.Histories.{History, IsLater}
use Rattle.slab.specs.Slab.{Slab, get, Updates, ContainsKey, with_value}
use Rattle.slab.proofs.SlabLemmas.{Updates-with_value}
use Rattle.io_threads.specs.Clients.{ClientState}
use Rattle.io_threads.specs.KnownClients.{KnowsAll, IsKnownBy}
use Rattle.io_threads.proofs.Later.{later_same, later_then}

-- a later history knows as much
known_later : (c d : History) (o : Option ClientState) → IsLater c d → IsKnownBy c o → IsKnownBy d o
known_later c d None later known = known
known_later c d (Some g) later known = later_then _ _ _ known later

-- one client was changed, or came
pub known_updated : (c d : History) (s t : Slab ClientState) (key : ℕ) (o : Option ClientState)
    → IsLater c d → KnowsAll c s → IsKnownBy d o → Updates s t key o → KnowsAll d t
known_updated c d s t key o later known new updates = λ other.
    elim (cases_eq other key) [
      | inl same ↦ subst (λ (k : ℕ). IsKnownBy d (get t k)) (sym same)
          (subst (IsKnownBy d) (sym updates.changed) new)
      | inr differs ↦ subst (IsKnownBy d) (sym (updates.others other differs)) (known_later c d _ later (known other))
    ]

-- the same clients
pub as_known : (c d : History) (s t : Slab ClientState)
    → IsLater c d → KnowsAll c s → t.slots ≡ s.slots → KnowsAll d t
as_known c d s t later known same = λ other.
    known_later c d _ later
    (subst (λ (slots : List (Option ClientState)). IsKnownBy c (slice_index_or slots other None)) (sym same)
    (known other))

-- no client
pub none_known : (c : History) (s : Slab ClientState) → s.slots ≡ [] → KnowsAll c s
none_known c s none = λ other.
    subst (λ (slots : List (Option ClientState)). IsKnownBy c (slice_index_or slots other None)) (sym none) tt

-- one client was changed where it stands
pub known_written : (c d : History) (s : Slab ClientState) (key : ℕ) (g : ClientState)
    → IsLater c d → KnowsAll c s → ContainsKey s key → IsLater g.client_connection.seen d
    → KnowsAll d (with_value s key g)
known_written c d s key g later known present new =
    known_updated c d s (with_value s key g) key (Some g) later known new (Updates-with_value s key g present)

-- what a goal of a thread's clients may need
pub ruleset knowing = (later_same, known_updated, known_written, as_known)
