-- Looks of the second seat of a worked run, which has begun no call before.
use Rattle.std.proofs.Common.{◌≡◌, ℕ, ◌<◌, ◌≤◌, false, cond, [], ◌∷◌, Option, None, ap, ◌∙◌}
use Rattle.std.specs.Prelude.{not}
use Rattle.std.specs.FinMap.{get-empty}
use Rattle.table.specs.Keys.{key_cmp}
use Rattle.table.specs.Items.{Item}
use Rattle.table.specs.declared.operations.Reply.TheVariants.{Value}
use Rattle.node.specs.Faces.{face_of, look_at}
use Rattle.node.specs.Servers.{ServerState, opening}
use Rattle.node.specs.declared.looks.Look.TheVariants.{Clean, Dirty}
use Rattle.node.proofs.FaceLaws.{look-face_of}
use Rattle.node.proofs.RuleLaws.{lawful-opening}
use Rattle.interleavings.specs.Chains.{Seat, Chain, with_seat, opening_seat}
use Rattle.interleavings.specs.Moves.{Looks, read_of, looked, looking, done}
use Rattle.interleavings.specs.WorkedRuns.{key}
use Rattle.interleavings.specs.WrongMoves.{with_older_looks, looking_back}

-- the seat of this home after a look that showed this
abbrev pub looked_seat : ℕ → Option Item → Seat
looked_seat home found =
    record { home = home; calls = read_of key ∷ []; got = Value found ∷ []; queued = [] }

-- the face with which a server opens shows nothing
pub opening_shows : (i n : ℕ) → i < n → n ≤ 16 → look_at (face_of (opening i n)) key ≡ Clean None
opening_shows i n within few =
    look-face_of (opening i n) key (lawful-opening i n within few).sound
    ∙ ap (λ found. Clean found) (get-empty key_cmp key)

-- a look at a server that goes on shows what its face shows of a clean key
pub look_shows : (l : Chain) (home : ℕ) (s : ServerState) (found : Option Item)
    → l.seats 1 ≡ opening_seat home
    → (l.servers home).stopped ≡ false
    → (l.servers home).node ≡ s
    → look_at (face_of s) key ≡ Clean found
    → done l (Looks 1 key) ≡ with_seat l 1 (looked_seat home found)
look_shows l home s found seat going node shown =
    ap (looking l 1 key) seat
    ∙ ap (λ b. cond (not b) (looked l 1 (opening_seat home) key (look_at (face_of (l.servers home).node) key)) l) going
    ∙ ap (λ n. looked l 1 (opening_seat home) key (look_at (face_of n) key)) node
    ∙ ap (looked l 1 (opening_seat home) key) shown

-- and nothing of a dirty one
pub look_passes : (l : Chain) (home : ℕ) (s : ServerState)
    → l.seats 1 ≡ opening_seat home
    → (l.servers home).stopped ≡ false
    → (l.servers home).node ≡ s
    → look_at (face_of s) key ≡ Dirty
    → done l (Looks 1 key) ≡ l
look_passes l home s seat going node shown =
    ap (looking l 1 key) seat
    ∙ ap (λ b. cond (not b) (looked l 1 (opening_seat home) key (look_at (face_of (l.servers home).node) key)) l) going
    ∙ ap (λ n. looked l 1 (opening_seat home) key (look_at (face_of n) key)) node
    ∙ ap (looked l 1 (opening_seat home) key) shown

-- a look at the face with which the server opened shows nothing
pub older_look_shows : (l : Chain) (home n : ℕ)
    → l.seats 1 ≡ opening_seat home
    → (l.servers home).stopped ≡ false
    → l.count ≡ n
    → home < n
    → n ≤ 16
    → with_older_looks l (Looks 1 key) ≡ with_seat l 1 (looked_seat home None)
older_look_shows l home n seat going many within few =
    ap (looking_back l 1 key) seat
    ∙ ap (λ b. cond (not b) (looked l 1 (opening_seat home) key (look_at (face_of (opening home l.count)) key)) l) going
    ∙ ap (λ k. looked l 1 (opening_seat home) key (look_at (face_of (opening home k)) key)) many
    ∙ ap (looked l 1 (opening_seat home) key) (opening_shows home n within few)
