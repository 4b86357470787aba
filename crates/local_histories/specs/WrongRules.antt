-- Rules without one of their parts; all that the part doesn't bear on is as in `Following.antt`.
use Rattle.std.specs.Prelude.{◌≡◌, ◌<◌, true, false, ℕ, List, [], ◌∷◌, ◌++◌, take, Some, slice_get}
use mathlib.Core.List.{IsPrefix}
use Rattle.node.specs.declared.messages.Input.TheVariants.{From, Gone}
use Rattle.node.specs.Runs.{put_out}
use Rattle.faces.specs.Histories.{IsLater}
use Rattle.rail.specs.declared.inbox_messages.InboxMessage.{InboxMessage}
use Rattle.rail.specs.declared.inbox_messages.InboxMessage.TheVariants.{Took}
use Rattle.rail.specs.Links as on_links
use Rattle.interleavings.specs.Chains.{messages_to}
use Rattle.local_histories.specs.Events.{Event, Brought, Taken, Put, Looked}
use Rattle.local_histories.specs.Objects.{OpenedChain, shown_by, has_halted, published_by, goes_on, put_by}
use Rattle.local_histories.specs.Objects.{brought_from}
use Rattle.local_histories.specs.LocalRules.{HasInbox, HasReplies, IsAtFreeSeat, TellsOfStopped, BringsNoCall}
use Rattle.local_histories.specs.LocalRules.{IsOfChain, HaveOneSender, AllBy, ShowsWhatStands}
use Rattle.local_histories.specs.Turns.{HasTurns}
use Rattle.local_histories.specs.Standing.{given_to}
use Rattle.local_histories.specs.Following.{GoesOnWith, IsNextMessage, MayFollow}

-- what says which event may follow others
abbrev pub Rule : Type 1
Rule = OpenedChain → List Event → Event → Type 0

-- each of these events may follow those before it, after these
abbrev pub AllFollow : Rule → OpenedChain → List Event → List Event → Type 0
AllFollow rule s before [] = Unit {0}
AllFollow rule s before (e ∷ es) = rule s before e × AllFollow rule s (before ++ e ∷ []) es

-- ---- Without boards: a look may find an older face than the one that stands.
abbrev pub FollowsWithoutBoards : Rule
FollowsWithoutBoards s es (Looked i q key stood) =
    IsAtFreeSeat es (Looked i q key stood) × IsLater stood (published_by s i es) × (goes_on s i es ≡ true)
FollowsWithoutBoards s es e = MayFollow s es e

-- the same of a look, object by object
abbrev pub ShowsAnyFace : OpenedChain → List Event → Event → Type 0
ShowsAnyFace s before (Looked i q key stood) = IsLater stood (published_by s i before) × (goes_on s i before ≡ true)
ShowsAnyFace s before e = Unit {0}

-- locally right, but for the boards
pub record AreRightWithoutBoards (s : OpenedChain) (es : List Event) : Type 0 where
  pub inboxes : (n i : ℕ) → i < s.count → HasInbox s i (take n es)
  pub replies : (n i p : ℕ) → i < s.count → p < s.ports i → HasReplies s i p (take n es)
  pub links : (n i j : ℕ) → IsPrefix (brought_from i j (take n es)) (on_links.messages_to j (put_by i (take n es)))
  pub seats : AllBy IsAtFreeSeat es
  pub boards : AllBy (ShowsAnyFace s) es
  pub notices : AllBy (TellsOfStopped s) es
  pub inlets : AllBy (λ before e. BringsNoCall e × IsOfChain s e) es
  pub senders : (m n : ℕ) (e f : Event) → slice_get es m ≡ Some e → slice_get es n ≡ Some f → HaveOneSender e f
  pub turns : (i : ℕ) → i < s.count → HasTurns s i es

-- ---- Without notices: a notice may come of a server that goes on.

-- what comes next, or a notice of any server of the chain
abbrev pub NextOrNotice : OpenedChain → ℕ → List Event → InboxMessage → Type 0
NextOrNotice s i es (Took (Gone j)) = j < s.count
NextOrNotice s i es m = IsNextMessage s i es m

abbrev pub FollowsWithoutNotices : Rule
FollowsWithoutNotices s es (Taken i envelope) =
    has_halted i es ≡ false → (given_to i es ≡ shown_by i es) × NextOrNotice s i es envelope.inbox_message
FollowsWithoutNotices s es e = MayFollow s es e

-- the same, object by object: a notice tells of a server of the chain
abbrev pub TellsOfAny : OpenedChain → List Event → Event → Type 0
TellsOfAny s before (Brought i k (Took (Gone j))) = j < s.count
TellsOfAny s before e = Unit {0}

-- locally right, but for the notices
pub record AreRightWithoutNotices (s : OpenedChain) (es : List Event) : Type 0 where
  pub inboxes : (n i : ℕ) → i < s.count → HasInbox s i (take n es)
  pub replies : (n i p : ℕ) → i < s.count → p < s.ports i → HasReplies s i p (take n es)
  pub links : (n i j : ℕ) → IsPrefix (brought_from i j (take n es)) (on_links.messages_to j (put_by i (take n es)))
  pub seats : AllBy IsAtFreeSeat es
  pub boards : AllBy (ShowsWhatStands s) es
  pub notices : AllBy (TellsOfAny s) es
  pub inlets : AllBy (λ before e. BringsNoCall e × IsOfChain s e) es
  pub senders : (m n : ℕ) (e f : Event) → slice_get es m ≡ Some e → slice_get es n ≡ Some f → HaveOneSender e f
  pub turns : (i : ℕ) → i < s.count → HasTurns s i es

-- ---- Without links: a message may come that wasn't put.

-- what comes next, or any message of a server of the chain
abbrev pub NextOrMessage : OpenedChain → ℕ → List Event → InboxMessage → Type 0
NextOrMessage s i es (Took (From j peer)) = j < s.count
NextOrMessage s i es m = IsNextMessage s i es m

abbrev pub FollowsWithoutLinks : Rule
FollowsWithoutLinks s es (Taken i envelope) =
    has_halted i es ≡ false → (given_to i es ≡ shown_by i es) × NextOrMessage s i es envelope.inbox_message
FollowsWithoutLinks s es e = MayFollow s es e

-- ---- Without turns: what a step puts out may be put before the face after it is shown.
abbrev pub FollowsWithoutTurns : Rule
FollowsWithoutTurns s es (Put i j peer) =
    (has_halted i es ≡ false)
    × GoesOnWith (on_links.messages_to j (put_by i es)) peer
    (messages_to j (put_out (s.instances i).start (given_to i es)))
FollowsWithoutTurns s es e = MayFollow s es e
