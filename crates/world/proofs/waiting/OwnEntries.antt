-- An own entry that comes or is made is the next one, and own updates stay numbered in order, one case an action.
use Rattle.std.proofs.Common.{◌≡◌, ℕ, zero, suc, ◌+◌, ◌<◌, ◌≤◌, true, List, [], ◌∷◌, Some, refl, arith, ◌⊎◌, inl, inr}
use Rattle.std.proofs.Common.{ap, sym, subst, ◌∙◌}
use Rattle.std.proofs.lemmas.Option.{same_Some}
use Rattle.versions.specs.Entries.{LogEntry}
use Rattle.versions.specs.Stores.{last_number}
use Rattle.node.specs.declared.servers.OpenUpdate.{OpenUpdate}
use Rattle.node.specs.declared.messages.Body.TheVariants.{Forward}
use Rattle.node.specs.declared.messages.Peer.{Peer}
use Rattle.node.specs.declared.messages.Input.{Input}
use Rattle.node.specs.declared.messages.Input.TheVariants.{Call as Called, From, Gone}
use Rattle.node.specs.Servers.{ServerState, seen_of, head_of, is_head, predecessor_of}
use Rattle.node.specs.Numbering.{appended, entered}
use Rattle.node.specs.Reading.{asked}
use Rattle.node.specs.Joining.{widened}
use Rattle.node.specs.Steps.{trimmed}
use Rattle.node.specs.Lawful.{AreUpdates, IsSound}
use Rattle.node.specs.Actions.{Action, Widen, Append, Reach, Settle, Send, Finish, Trim, Enter, Ask, Show, act, does}
use Rattle.node.specs.Actions.{Cause, left, IsMade, IsPassed, Guard, AreGuarded, Due, due, AreInTurn, due_in_the_end}
use Rattle.node.proofs.Lists.{In}
use Rattle.node.proofs.Neighbours.{is_itself, at_head, head_from}
use Rattle.node.proofs.SoundLaws.{updates_bound}
use Rattle.node.proofs.SoundActions.{Grown, grown_then, grown_act, sound_act}
use Rattle.node.proofs.DoneActions.{came_left}
use Rattle.node.proofs.DoneRules.{last_appended, seen_grows, may_take, not_first, nothing_in}
use Rattle.node.proofs.DoneSteps.{last_trimmed}
use Rattle.world.proofs.waiting.OwnIds.{IsNextOwn, OwnDue, own_act}
use Rattle.world.proofs.streams.StepTellings.{act_last}

-- ---- all along

-- it holds before each action, and at the end
abbrev pub Along : (Due → ServerState → Type 0) → Due → ServerState → List Action → Type 0
Along P d s [] = P d s
Along P d s (a ∷ later) = P d s × Along P (due d s a) (act s a).state later

-- what holds along actions holds after the last one
pub along_end : (P : Due → ServerState → Type 0) (actions : List Action) (d : Due) (s : ServerState)
    → Along P d s actions
    → P (due_in_the_end d s actions) (does s actions).state
unfolding does
along_end P [] d s h = h
along_end P (a ∷ later) d s h = along_end P later (due d s a) (act s a).state h.1

-- what holds along actions holds before the first one
pub along_now : (P : Due → ServerState → Type 0) (actions : List Action) (d : Due) (s : ServerState)
    → Along P d s actions
    → P d s
along_now P [] d s h = h
along_now P (a ∷ later) d s h = h.0

-- ---- what is seen

-- an action lowers no greatest id seen
pub act_seen : (s : ServerState) (a : Action) (o : ℕ) → IsSound s → o < 16 → seen_of s o ≤ seen_of (act s a).state o
unfolding act widened entered asked trimmed
act_seen s (Widen v) o h low = omega arith
act_seen s (Append e) o h low = seen_grows s e o h.seen low
act_seen s (Reach n) o h low = omega arith
act_seen s (Settle e) o h low = omega arith
act_seen s (Send j body) o h low = omega arith
act_seen s (Finish r n) o h low = omega arith
act_seen s Trim o h low = omega arith
act_seen s (Enter port call) o h low = omega arith
act_seen s (Ask port key) o h low = omega arith
act_seen s (Show port key) o h low = omega arith

-- actions, one after another, lower no greatest id seen
pub does_seen : (actions : List Action) (c : Cause) (s : ServerState) (o : ℕ)
    → AreGuarded c s actions
    → o < 16
    → seen_of s o ≤ seen_of (does s actions).state o
unfolding does
does_seen [] c s o g low = omega arith
does_seen (a ∷ later) c s o g low =
    omega (arith, act_seen s a o g.0 low, does_seen later (left c) (act s a).state o g.2 low)

-- ---- an entry that comes is the next one

-- the log is as it was
pub record IsSame (s u : ServerState) : Type 0 where
  pub last : last_number u.store ≡ last_number s.store
  pub seen : u.seen ≡ s.seen

-- an own entry that the predecessor forwards is this server's next one
abbrev pub IsExpected : ServerState → Input → Type 0
IsExpected s (Called port made) = Unit {0}
IsExpected s (From i m) =
    (e : LogEntry)
    → m.body ≡ Forward e
    → (u : ServerState)
    → Grown s u
    → IsSame s u
    → predecessor_of u ≡ Some i
    → e.number ≡ last_number u.store + 1
    → IsNextOwn u e
IsExpected s (Gone j) = Unit {0}

-- only the head adds entries before the predecessor's, and that is added once
abbrev pub Fresh : Cause → ServerState → ServerState → Type 0
Fresh c s u =
    (is_head u ≡ true)
    ⊎ IsSame s u
    ⊎ ((i : ℕ) × (m : Peer) × (e : LogEntry) × (c ≡ Some (From i m)) × (m.body ≡ Forward e)
    × (e.number ≤ last_number u.store))

head_stays : (u t : ServerState) → Grown u t → IsSound t → is_head u ≡ true → is_head t ≡ true
head_stays u t g h first =
    let was = at_head u first in
    is_itself (head_of t) t.id (head_from t.view t.count t.id (record {
      within = h.placed;
      out = h.outside;
      below = λ x l. g.view x (was.below x (omega (arith, l, g.id)));
    }))

-- an appended entry doesn't change whether a server is the head
pub head_appended : (u : ServerState) (e : LogEntry) → is_head (appended u e) ≡ is_head u
unfolding appended
head_appended u e = refl

seen_trimmed : (u : ServerState) → (trimmed u).seen ≡ u.seen
unfolding trimmed
seen_trimmed u = refl

-- an action that appends no entry leaves the log
pub same_act : (u : ServerState) (a : Action) → IsSound u → ((e : LogEntry) × (a ≡ Append e)) ⊎ IsSame u (act u a).state
unfolding act widened entered asked
same_act u (Widen v) h = inr (record { last = refl; seen = refl })
same_act u (Append e) h = inl (e, refl)
same_act u (Reach n) h = inr (record { last = refl; seen = refl })
same_act u (Settle e) h = inr (record { last = refl; seen = refl })
same_act u (Send j body) h = inr (record { last = refl; seen = refl })
same_act u (Finish r n) h = inr (record { last = refl; seen = refl })
same_act u Trim h = inr (record { last = last_trimmed u h; seen = seen_trimmed u })
same_act u (Enter port call) h = inr (record { last = refl; seen = refl })
same_act u (Ask port key) h = inr (record { last = refl; seen = refl })
same_act u (Show port key) h = inr (record { last = refl; seen = refl })

-- the cause is the input, or what is left of it
abbrev pub IsOf : Cause → Input → Type 0
IsOf c input = (x : Input) → c ≡ Some x → Some input ≡ Some x

passed_of : (c : Cause) (input : Input) (u : ServerState) (e : LogEntry)
    → IsOf c input
    → IsPassed c u e
    → IsPassed (Some input) u e
passed_of c input u e f p =
    record {
      from = p.from;
      message = p.message;
      came = f _ p.came;
      body = p.body;
      joined = p.joined;
      predecessor = p.predecessor;
      next = p.next;
    }

fresh_appended : (c : Cause) (input : Input) (s u : ServerState) (e : LogEntry)
    → IsOf c input
    → IsMade c u e ⊎ IsPassed c u e
    → Fresh (Some input) s (appended u e)
fresh_appended c input s u e f (inl m) = inl (head_appended u e ∙ m.head)
fresh_appended c input s u e f (inr p) =
    inr (inr (p.from, p.message, e, f _ p.came, p.body, omega (arith, p.next, last_appended u e)))

-- the action of appending appends
pub act_appended : (u : ServerState) (e : LogEntry) → (act u (Append e)).state ≡ appended u e
unfolding act
act_appended u e = refl

fresh_act : (c : Cause) (input : Input) (s u : ServerState) (a : Action)
    → IsOf c input
    → IsSound u
    → IsSound (act u a).state
    → Guard c u a
    → Fresh (Some input) s u
    → Fresh (Some input) s (act u a).state
fresh_act c input s u a f h k g (inl first) = inl (head_stays u (act u a).state (grown_act c u a g) k first)
fresh_act c input s u a f h k g (inr (inr x)) =
    inr (inr (x.0, x.1, x.2, x.3, x.4, omega (arith, x.5, act_last c u a h)))
fresh_act c input s u a f h k g (inr (inl same)) = elim (same_act u a h) [
  | inr more ↦ inr (inl (record { last = more.last ∙ same.last; seen = more.seen ∙ same.seen }))
  | inl new ↦ subst (λ x. Guard c u x → Fresh (Some input) s (act u x).state) (sym new.1)
      (λ g. subst (λ t. Fresh (Some input) s t) (sym (act_appended u new.0)) (fresh_appended c input s u new.0 f g.1)) g
]

update_below : (above : ℕ) (us : List OpenUpdate) (next_id : ℕ) (u : OpenUpdate)
    → AreUpdates above us next_id
    → In u us
    → u.id < next_id
update_below above [] next_id u h i = absurd (nothing_in u i)
update_below above (v ∷ us) next_id u h (zero, e) =
    let same : v ≡ u = same_Some v u e in rw (← same) (updates_bound v.id us next_id h.3)
update_below above (v ∷ us) next_id u h (suc k, e) = update_below v.id us next_id u h.3 (k, e)

-- an entry that is appended is the next own one, if it is an own one
pub made_next : (c : Cause) (u : ServerState) (e : LogEntry) → IsSound u → IsMade c u e → IsNextOwn u e
made_next c u e h m own =
    let may = may_take u m.origin m.id m.taken in
    let from : e.origin ≡ m.origin = ap (λ (x : LogEntry). x.origin) m.made in
    let named : e.id ≡ m.id = ap (λ (x : LogEntry). x.id) m.made in
    elim m.wanted [
      | inl mine ↦ (
        named ∙ may.next ∙ ap (λ o. seen_of u o + 1) mine.0,
        omega (arith, named, update_below 0 u.pend u.next_id _ h.updates mine.2),
      )
      | inr other ↦ absurd (other.4 (sym from ∙ own))
    ]

passed_next : (input : Input) (s u : ServerState) (e : LogEntry)
    → IsExpected s input
    → Grown s u
    → Fresh (Some input) s u
    → IsPassed (Some input) u e
    → IsNextOwn u e
passed_next input s u e expected g (inl first) p = absurd (not_first u p.from p.predecessor first)
passed_next input s u e expected g (inr (inl same)) p =
    let is : input ≡ From p.from p.message = same_Some input _ p.came in
    subst (λ x. IsExpected s x) is expected e p.body u g same p.predecessor p.next
passed_next input s u e expected g (inr (inr x)) p =
    let one : From x.0 x.1 ≡ From p.from p.message = same_Some _ _ (sym x.3 ∙ p.came) in
    let message : x.1 ≡ p.message = cc in
    let entry : x.2 ≡ e =
    (let b : Forward x.2 ≡ Forward e = sym x.4 ∙ ap (λ (m : Peer). m.body) message ∙ p.body in cc) in
    absurd (omega (arith, x.5, p.next, ap (λ (y : LogEntry). y.number) entry))

-- ---- own ids

-- own updates stay numbered in order along the actions of a step
pub own_along : (actions : List Action) (c : Cause) (input : Input) (s u : ServerState) (d : Due)
    → IsOf c input
    → IsExpected s input
    → Grown s u
    → Fresh (Some input) s u
    → AreGuarded c u actions
    → AreInTurn d u actions
    → OwnDue u d
    → Along (λ e t. OwnDue t e) d u actions
own_along [] c input s u d f expected grown fresh g t own = own
own_along (a ∷ later) c input s u d f expected grown fresh g t own =
    let k = sound_act c u a g.0 g.1 in (
      own,
      own_along later (left c) input s (act u a).state (due d u a) (λ x e. f x (came_left c x e)) expected
          (grown_then s u (act u a).state grown (grown_act c u a g.1))
          (fresh_act c input s u a f g.0 k g.1 fresh) g.2 t.1
          (own_act c d u a g.0 g.1 t.0 (λ e is. next_own e (subst (λ x. Guard c u x) is g.1)) own),
    )
  where
    next_own : (e : LogEntry) → Guard c u (Append e) → IsNextOwn u e
    next_own e x = elim x.1 [
      | inl m ↦ made_next c u e g.0 m
      | inr p ↦ passed_next input s u e expected grown fresh
          (passed_of c input u e f p)
    ]
