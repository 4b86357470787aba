-- The face of a server: what readers beside it see, and how a step changes it (this project's rule).
use Rattle.std.specs.Prelude.{◌≡◌, ◌≤◌, ◌⊎◌, ℕ, Bool, true, not, ◌&&◌, nat_le, List, [], ◌∷◌, map, filter_map, is_some}
use Rattle.std.specs.Prelude.{Option, Some, None, if◌then◌else◌}
use Rattle.std.specs.Option.{option_copied}
use Rattle.std.specs.Borrow.{Bor}
use Rattle.std.specs.FinMap as maps
use Rattle.table.specs.Keys.{key_cmp}
use Rattle.table.specs.Plain.{Items}
use Rattle.table.specs.Items.{Item, Version}
use Rattle.table.specs.declared.operations.Target.{Target}
use Rattle.table.specs.declared.operations.Target.TheVariants.{One, All}
use Rattle.table.specs.declared.operations.Change.{Change}
use Rattle.table.specs.declared.operations.Change.TheVariants.{Keep, Put, Drop, Clear}
use Rattle.versions.specs.Entries.{LogEntry}
use Rattle.versions.specs.Stores.{last_number, entries_after, value_at, is_clean}
use Rattle.node.specs.declared.faces.Tombstone.{Tombstone}
use Rattle.node.specs.declared.faces.FaceStep.{FaceStep}
use Rattle.node.specs.declared.faces.FaceStep.TheVariants.{Set, Clear as ClearAll}
use Rattle.node.specs.declared.messages.Input.{Input}
use Rattle.node.specs.declared.looks.Look.{Look}
use Rattle.node.specs.declared.looks.Look.TheVariants.{Clean, Dirty}
use Rattle.node.specs.Servers.{ServerState}
use Rattle.node.specs.Steps.{taken_in}

-- versions by their keys
abbrev pub Versions : Type 0
Versions = maps.FinMap key_cmp Version

-- A face: each key's newest version; the number of the last clear, which is a version without item of every key
-- that has no later one, or 0; and the commit number.
pub record FaceState : Type 0 where
  pub versions : Versions
  pub cleared : ℕ
  pub acked : ℕ

-- a look at a key: clean with its newest version's item if that version is acknowledged, clean without item if there
-- is no version, and dirty otherwise
abbrev pub look_at_version : ℕ → ℕ → Option Version → Look Item
look_at_version cleared acked None = if nat_le cleared acked then Clean None else Dirty
look_at_version cleared acked (Some v) = if nat_le v.number acked then Clean v.item else Dirty

-- a look at a key of a face
abbrev pub look_at : FaceState → List ℕ → Look Item
look_at f key = look_at_version f.cleared f.acked (maps.get f.versions key)

-- one change of the versions
abbrev pub face_after : FaceState → FaceStep → FaceState
face_after f (Set key version) = record f { versions = maps.insert f.versions key version }
face_after f (ClearAll number) = record f { versions = maps.empty; cleared = number }

-- these changes, one after another
abbrev pub face_after_all : FaceState → List FaceStep → FaceState
face_after_all f [] = f
face_after_all f (x ∷ xs) = face_after_all (face_after f x) xs

-- a version without item counts as none as soon as it is acknowledged: these are the versions that a rise to n removes
abbrev pub is_removed : ℕ → Option Version → Bool
is_removed n None = true
is_removed n (Some v) = not (is_some v.item) && nat_le v.number n

-- the face with n as its commit number: the versions without item up to n are taken away, and a clear up to n as
-- well
abbrev pub face_at : ℕ → FaceState → FaceState
face_at n f =
    record {
      versions = maps.retain_keys f.versions (λ key. not (is_removed n (maps.get f.versions key)));
      cleared = if nat_le f.cleared n then 0 else f.cleared;
      acked = n;
    }

-- A face finds what a rise removes without a search: a queue of tombstones stands for the versions without item. Their
-- numbers don't fall from this one on.
abbrev pub IsRising : ℕ → List Tombstone → Type 0
IsRising low [] = Unit {0}
IsRising low (t ∷ ts) = (low ≤ t.number) × IsRising t.number ts

-- the key waits there with this number
abbrev pub Waits : ℕ → List ℕ → List Tombstone → Type 0
Waits number key [] = ⊥
Waits number key (t ∷ ts) = ((t.number ≡ number) × (t.key ≡ key)) ⊎ Waits number key ts

-- Each version without item waits in the queue with its number. A tombstone whose version was replaced may stay there
-- until its turn comes, which then removes nothing.
pub record IsQueued (versions : Versions) (tombstones : List Tombstone) : Type 0 where
  pub rising : IsRising 0 tombstones
  pub waits : (key : List ℕ) (v : Version)
      → maps.get versions key ≡ Some v
      → v.item ≡ None
      → Waits v.number key tombstones

-- a change is done: its steps in order, and then the commit number
abbrev pub face_changed : FaceState → List FaceStep → ℕ → FaceState
face_changed f steps acked = face_at acked (face_after_all f steps)

-- the version that an entry makes of its key, or of every key
abbrev pub face_step : ℕ → Target → Change → Option FaceStep
face_step number (One key) Keep = None
face_step number (One key) (Put item) = Some (Set key (record { number = number; item = Some item }))
face_step number (One key) Drop = Some (Set key (record { number = number; item = None }))
face_step number (One key) Clear = Some (ClearAll number)
face_step number All Clear = Some (ClearAll number)
face_step number All change = None

-- the changes that these entries make, in order
abbrev pub face_steps : List LogEntry → List FaceStep
face_steps es = filter_map (λ e. face_step e.number e.target e.change) es

-- an item of the base is a version under the number that put it, which is its unique
abbrev pub versions_of : Items → Versions
versions_of items =
    maps.from_entries (map (λ e. (e.0, record { number = e.1.unique; item = Some e.1 })) (maps.entries items))

-- the change that sets it
abbrev pub base_step : List ℕ × Item → FaceStep
base_step e = Set e.0 (record { number = e.1.unique; item = Some e.1 })

-- the face of a server without any version
abbrev pub no_face : FaceState
no_face = record { versions = maps.empty; cleared = 0; acked = 0 }

-- the face of a server: the base's items, changed by the entries above the floor, at the commit number
abbrev pub face_of : ServerState → FaceState
face_of s =
    face_at s.store.acked
    (face_after_all (record { versions = versions_of s.store.base; cleared = 0; acked = s.store.floor })
    (face_steps s.store.rest))

-- how a step changes the face: by the entries that it appends, and to the commit number after it
abbrev pub steps_by : ServerState → Input → List FaceStep
steps_by s input = face_steps (entries_after (taken_in s input).state.store (last_number s.store))

-- the commit number after the step
abbrev pub acked_by : ServerState → Input → ℕ
acked_by s input = (taken_in s input).state.store.acked

-- what the server itself shows of a key: of a clean one its newest version
abbrev pub peeked : ServerState → List ℕ → Look Item
peeked s key = if is_clean s.store key then Clean (value_at s.store key (last_number s.store)) else Dirty

-- a look that shows a copy of the item
abbrev pub look_copied : {T : Type 0} → Look (Bor T) → Look T
look_copied (Clean item) = Clean (option_copied item)
look_copied Dirty = Dirty
