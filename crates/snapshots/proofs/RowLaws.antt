-- Rows and their frames.
use Rattle.std.proofs.Common.{◌≡◌, ℕ, ◌<◌, ◌≤◌, ◌^◌, List, length, refl, ap, sym, subst, ◌∙◌, arith, Bool, true, false}
use Rattle.std.proofs.Common.{◌++◌}
use Rattle.std.proofs.Common.{[], Option, Some, None, IfNone}
use Rattle.table.specs.Items.{Item}
use Rattle.table.specs.declared.operations.Target.{Target}
use Rattle.table.specs.declared.operations.Target.TheVariants.{One, All}
use Rattle.table.specs.declared.operations.Change.{Change}
use Rattle.table.specs.declared.operations.Change.TheVariants.{Put}
use Rattle.versions.specs.Entries.{IsEntry, LogEntry}
use Rattle.node.specs.declared.messages.Body.{Body}
use Rattle.node.specs.declared.messages.Body.TheVariants as bodies
use Rattle.node.specs.declared.messages.Peer as node
use Rattle.wire.specs.declared.frames.Frame.TheVariants.{Peer}
use Rattle.wire.specs.declared.frames.Frame.{Frame}
use Rattle.wire.specs.Spellings.{IsFrame, IsWireEntry, spelling}
use Rattle.wire.specs.Grammar.{IsFirst}
use Rattle.wire.proofs.FrontLaws.{one_frame}
use Rattle.snapshots.specs.Rows.{Row, IsRow, entry_of, frame_of, row_spelling}

-- a row's entry is one
pub row_entry : (row : Row) → IsRow row → IsEntry (entry_of row)
row_entry row h = record {
  numbered = h.numbered;
  served = omega arith;
  called = h.numbered;
  answered = refl;
  put = (refl, h.size);
  cleared = refl;
  flushed = refl;
}

-- a row's frame is one
pub row_frame : (row : Row) → IsRow row → IsFrame (frame_of row)
row_frame row h = (
  omega arith,
  record {
    entry = row_entry row h;
    number = h.fits;
    id = h.fits;
    target = h.key;
    reply = tt;
    change = h.flags;
  },
)

-- a frame that is a row's says so
pub frame_row : (row : Row) → IsFrame (frame_of row) → IsRow row
frame_row row h = record {
  key = h.1.target;
  flags = h.1.change;
  size = h.1.entry.put.1;
  numbered = h.1.entry.numbered;
  fits = h.1.number;
}

-- the bytes of a row are its frame's
pub row_text : (row : Row) → row_spelling row ≡ spelling (frame_of row)
unfolding row_spelling
row_text row = refl

-- the entry of a body, if it is a forward
abbrev entry_in : Body → LogEntry → LogEntry
entry_in (bodies.Forward e) other = e
entry_in body other = other

-- and of a frame
abbrev entry_of_frame : Frame → LogEntry → LogEntry
entry_of_frame (Peer peer) other = entry_in peer.body other
entry_of_frame frame other = other

-- the entry of a row's frame is the row's
pub entry_given : (peer : node.Peer) (entry : LogEntry) (row : Row)
    → peer.body ≡ bodies.Forward entry
    → Peer peer ≡ frame_of row
    → entry ≡ entry_of row
entry_given peer entry row body e =
    sym (ap (λ (b : Body). entry_in b entry) body) ∙ ap (λ (f : Frame). entry_of_frame f entry) e

-- what none says
pub if_none : {X : Type 0} (found : Option X) (A B : Type 0) → (A → B) → IfNone found A → IfNone found B
if_none (Some x) A B f h = h
if_none None A B f h = f h

-- the key of a target, and the item of a change
abbrev key_in : Target → List ℕ
key_in (One key) = key
key_in All = []

abbrev item_in : Item → Change → Item
item_in other (Put item) = item
item_in other change = other

-- rows are told apart by their frames
pub same_row : (row other : Row) → frame_of row ≡ frame_of other → row ≡ other
same_row row other e =
    let first = ap (λ (f : Frame). key_in (entry_of_frame f (entry_of row)).target) e in
    let second = ap (λ (f : Frame). item_in row.1 (entry_of_frame f (entry_of row)).change) e in
    both row.0 other.0 row.1 other.1 first second
  where
    both : (k l : List ℕ) (i j : Item) → k ≡ l → i ≡ j → ◌≡◌ {A = Row} (k, i) (l, j)
    both k l i j e f = cc
