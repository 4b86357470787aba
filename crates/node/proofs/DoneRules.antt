-- Updates as lists of actions in turn: acknowledging, appending, taking, and the messages of updates.
use Rattle.std.proofs.Common.{◌≡◌, ◌≢◌, ℕ, suc, ◌+◌, ◌<◌, ◌≤◌, nat_lt, nat_le, ◌==◌, ◌&&◌, max, true, false, List, []}
use Rattle.std.proofs.Common.{◌∷◌, ◌++◌, length, Option, Some, None, inl, inr, refl, sym, ap, subst, ◌∙◌, arith}
use Rattle.std.proofs.Common.{length-append}
use Rattle.std.proofs.lemmas.Bool.{cond_both, cases_eq, and_parts, and_from, both_ways, eqb-true, eq-eqb, ne_eqb}
use Rattle.std.proofs.lemmas.Bool.{ltb-true, lt-ltb, leb-true, le-leb, cases_lt, false_from_ne_true}
use Rattle.std.proofs.lemmas.List.{get_or-set_same, get_or-set_other}
use Rattle.table.specs.Operations.{is_update}
use Rattle.table.specs.declared.operations.Call.{Call}
use Rattle.versions.specs.Entries.{LogEntry, IsEntry}
use Rattle.versions.specs.Stores.{last_number}
use Rattle.node.specs.declared.servers.OpenUpdate.{OpenUpdate}
use Rattle.node.specs.declared.messages.Body.{Body}
use Rattle.node.specs.declared.messages.Body.TheVariants.{Op, Forward, Ack}
use Rattle.node.specs.declared.messages.Peer.{Peer}
use Rattle.node.specs.declared.messages.Input.TheVariants.{Call as Called, From}
use Rattle.node.specs.declared.messages.Output.{Output}
use Rattle.node.specs.Views.{has, is_that}
use Rattle.node.specs.Servers.{ServerState, RuleResult, most, seen_of, head_of, is_head, is_tail, predecessor_of, successor_of}
use Rattle.node.specs.Servers.{putting}
use Rattle.node.specs.Servers.{message_to}
use Rattle.node.specs.Numbering.{left_open, replies, newly_acked, risen, rise, appended, passed_on, entry_of, is_taken}
use Rattle.node.specs.Numbering.{take_update, entered, is_room_for_update, called, update, receive_op, receive_forward}
use Rattle.node.specs.Numbering.{receive_ack}
use Rattle.node.specs.Lawful.{IsCall, IsSound}
use Rattle.node.specs.Actions.{Append, Reach, Settle, Enter, act, Cause, left, IsWanted, IsReached, Guard, Due, IsPaid}
use Rattle.node.specs.Actions.{but_first}
use Rattle.node.proofs.Lists.{In, get_last, in_more}
use Rattle.node.proofs.Neighbours.{that_is, is_itself, at_head, at_tail, successor_found, predecessor_found, no_head, predecessor_below}
use Rattle.node.proofs.Neighbours.{next_within, head_within, head_other}
use Rattle.node.proofs.StoreChanges.{held_between}
use Rattle.node.proofs.SoundActions.{appended_next}
use Rattle.node.proofs.DoneActions.{IsRule, rule_as, rule_so, rule_silent, rule_then, rule_first, rule_message}
use Rattle.node.proofs.SoundLaws.{entry_of-valid}

-- ---- places

-- who has a successor isn't the tail
pub not_last : (s : ServerState) (y : ℕ) → successor_of s ≡ Some y → is_tail s ≡ true → ⊥
not_last s y n t = let f = successor_found s y n in both_ways _ f.out ((at_tail s t).between y f.above f.within)

-- who has a predecessor isn't the head
pub not_first : (s : ServerState) (x : ℕ) → predecessor_of s ≡ Some x → is_head s ≡ true → ⊥
not_first s x p t = let f = predecessor_found s x p in both_ways _ f.out ((at_head s t).below x f.below)

-- there is a head
pub has_head : (s : ServerState) → IsSound s → head_of s ≡ None → ⊥
has_head s h none = both_ways _ h.outside (no_head s.view s.count none s.id h.placed)

-- ---- rising

-- what is due after a rise: the predecessor, if there is one, was told
pub record IsRisen (s : ServerState) (d e : Due) : Type 0 where
  pub forwarded : e.forwarded ≡ d.forwarded
  pub told : (j : ℕ) → predecessor_of s ≡ Some j → e.untold ≡ false
  pub settled : e.unsettled ≡ []
  pub unsent : e.unsent ≡ d.unsent
  pub unasked : e.unasked ≡ d.unasked

-- the entries' own calls are closed and answered, in order
abbrev settling : List LogEntry → ServerState → RuleResult
settling es t = record { state = record t { pend = left_open t.id t.pend es }; outputs = replies t.id t.pend es }

rule_settling : (es : List LogEntry) (c : Cause) (t : ServerState) (d : Due)
    → IsSound t
    → ((e : LogEntry) → In e es → In e t.store.rest × (e.number ≤ t.store.acked))
    → d.unsettled ≡ es
    → IsRule c t d (settling es t) (λ e. e ≡ record d { unsettled = [] })
unfolding left_open replies act
rule_settling [] c t d h f due = rule_silent c t d _ h (ap (λ (es : List LogEntry). record d { unsettled = es }) due)
rule_settling (e ∷ es) c t d h f due =
    rule_first c t d (Settle e) (settling es) _ refl h (f e (0, refl)) (es, due)
    (λ k. rule_settling es (left c) (act t (Settle e)).state (record d { unsettled = but_first d.unsettled }) k
    (λ x i. f x (suc i.0, i.1)) (ap (λ (xs : List LogEntry). but_first xs) due))

-- servers with the same view put out the same message
pub message_same : (s t : ServerState) (to : Option ℕ) (body : Body)
    → t.view ≡ s.view
    → message_to t to body ≡ message_to s to body
message_same s t None body e = refl
message_same s t (Some j) body e = rw e refl

-- a rise to a number that may be reached is a list of actions in turn
pub rule_rise : (c : Cause) (s : ServerState) (d : Due) (n : ℕ)
    → IsSound s
    → s.store.acked < n
    → n ≤ last_number s.store
    → IsReached c s n
    → d.unsettled ≡ []
    → IsRule c s d (rise s n) (IsRisen s d)
unfolding risen act
rule_rise c s d n h low high reached due =
    let es = newly_acked s n in
    let told = λ (t : ServerState). putting t (message_to t (predecessor_of t) (Ack n)) in
    let up = (act s (Reach n)).state in
    let d1 : Due = record d { untold = true; unsettled = es } in
    let d2 : Due = record d { untold = true; unsettled = [] } in
    let all = rule_first c s d (Reach n) (settling es) (λ e. e ≡ d2) refl h (low, high, reached) due
    (λ k. rule_settling es (left c) up d1 k (λ e i. held_between s.store n e h.store low i) refl) in
    let end = rule_then c s d _ told (λ e. e ≡ d2) (IsRisen s d) all
    (λ e is k. subst (λ x. IsRule (left c) (risen s n) x (told (risen s n)) (IsRisen s d)) (sym is)
    (rule_message (left c) (risen s n) d2 (predecessor_of s) (Ack n) (IsRisen s d) k
    (λ none. record {
      forwarded = refl;
      told = λ j p. absurd (let no = sym none ∙ p in cc);
      settled = refl;
      unsent = refl;
      unasked = refl;
    })
    (λ j p. (
      (p, refl),
      omega (arith, predecessor_below s j p, h.placed),
      refl,
      record { forwarded = refl; told = λ _ _. refl; settled = refl; unsent = refl; unasked = refl },
    )))) in
    rule_as c s d _ _ _
    (ap (λ (os : List Output). record { state = risen s n; outputs = replies s.id s.pend es ++ os })
    (sym (message_same s (risen s n) (predecessor_of s) (Ack n) refl))) end

-- ---- appending

-- an appended entry raises the last number by one
pub last_appended : (s : ServerState) (e : LogEntry) → last_number (appended s e).store ≡ last_number s.store + 1
unfolding appended
last_appended s e = let l : length (s.store.rest ++ e ∷ []) ≡ length s.store.rest + 1 =
    length-append s.store.rest (e ∷ []) in omega (arith, l)

-- after an entry the greatest id seen of its origin is its own, if that is greater
pub seen_same : (s : ServerState) (e : LogEntry)
    → e.origin < length s.seen
    → seen_of (appended s e) e.origin ≡ max (seen_of s e.origin) e.id
unfolding appended
seen_same s e l = get_or-set_same s.seen e.origin (max (seen_of s e.origin) e.id) 0 l

-- an entry leaves what was seen of other origins as it was
pub seen_other : (s : ServerState) (e : LogEntry) (o : ℕ) → o ≢ e.origin → seen_of (appended s e) o ≡ seen_of s o
unfolding appended
seen_other s e o other = get_or-set_other s.seen e.origin o _ 0 other

-- no greatest id seen falls by an entry
pub seen_grows : (s : ServerState) (e : LogEntry) (o : ℕ)
    → length s.seen ≡ 16
    → o < 16
    → seen_of s o ≤ seen_of (appended s e) o
seen_grows s e o all low = elim (cases_eq o e.origin) [
  | inl same ↦ (let new = seen_same s e (rw (all, ← same) low) in rw same (omega (arith, new)))
  | inr other ↦ omega (arith, seen_other s e o other)
]

-- the appended entry is the last
appended_in : (s : ServerState) (e : LogEntry) → In e (appended s e).store.rest
unfolding appended
appended_in s e = (length s.store.rest, get_last s.store.rest e)

-- an append leaves the place, the view and what isn't of the log
record IsPlaced (s t : ServerState) : Type 0 where
  id : t.id ≡ s.id
  head : is_head t ≡ is_head s
  tail : is_tail t ≡ is_tail s
  successor : successor_of t ≡ successor_of s
  predecessor : predecessor_of t ≡ predecessor_of s
  acked : t.store.acked ≡ s.store.acked
  same_asks : t.asks ≡ s.asks

placed_appended : (s : ServerState) (e : LogEntry) → IsPlaced s (appended s e)
unfolding appended
placed_appended s e =
    record { id = refl; head = refl; tail = refl; successor = refl; predecessor = refl; acked = refl; same_asks = refl }

-- ---- which updates may be taken

-- an update with another id than its origin's next one isn't taken
pub not_taken : (s : ServerState) (origin id : ℕ) → id ≢ seen_of s origin + 1 → is_taken s origin id ≡ false
not_taken s origin id other = rw (ne_eqb id (seen_of s origin + 1) other) refl

-- the update is the origin's next one, and a number is left for it
pub record MayTake (s : ServerState) (origin id : ℕ) : Type 0 where
  pub next : id ≡ seen_of s origin + 1
  pub room : last_number s.store < most

-- who takes an update knows it to be the origin's next one, and has a number left
pub may_take : (s : ServerState) (origin id : ℕ) → is_taken s origin id ≡ true → MayTake s origin id
may_take s origin id t =
    let parts = and_parts (id == seen_of s origin + 1) (nat_lt (last_number s.store) most) t in
    record { next = eqb-true _ _ parts.0; room = ltb-true _ _ parts.1 }

-- the origin's next update is taken as long as a number is left
pub taken_from : (s : ServerState) (origin id : ℕ)
    → id ≡ seen_of s origin + 1
    → last_number s.store < most
    → is_taken s origin id ≡ true
taken_from s origin id is room =
    and_from (id == seen_of s origin + 1) (nat_lt (last_number s.store) most) (eq-eqb id _ is) (lt-ltb _ _ room)

-- an update that was taken isn't taken again
pub taken_once : (s : ServerState) (e : LogEntry) (id : ℕ)
    → e.origin < length s.seen
    → id ≤ e.id
    → is_taken (appended s e) e.origin id ≡ false
taken_once s e id low le =
    let new = seen_same s e low in
    not_taken (appended s e) e.origin id (λ is. omega (arith, new, le, is))

-- one that can't be taken still can't, after an entry of another origin
pub still_untaken : (s : ServerState) (e : LogEntry) (origin id : ℕ)
    → origin ≢ e.origin
    → is_taken s origin id ≡ false
    → is_taken (appended s e) origin id ≡ false
still_untaken s e origin id other never =
    false_from_ne_true _ (λ t.
    let may = may_take (appended s e) origin id t in
    both_ways _ never
    (taken_from s origin id (omega (arith, may.next, seen_other s e origin other))
    (omega (arith, may.room, last_appended s e))))

-- ---- passing on

-- what is paid but for the own updates that the head is due
pub record IsClear (s : ServerState) (d : Due) : Type 0 where
  pub forwarded : (j : ℕ) → successor_of s ≡ Some j → d.forwarded ≡ last_number s.store
  pub told : (j : ℕ) → predecessor_of s ≡ Some j → d.untold ≡ false
  pub settled : d.unsettled ≡ []
  pub asked : is_tail s ≡ false → d.unasked ≡ []
  pub last : is_tail s ≡ true → (s.store.acked ≡ last_number s.store) × (s.asks ≡ [])

-- who has nothing left to do owes at most own updates to the head
pub clear_paid : (s : ServerState) (d : Due) → IsPaid s d → IsClear s d
clear_paid s d p =
    record { forwarded = p.forwarded; told = p.told; settled = p.settled; asked = p.asked; last = p.last }

-- a tail that has risen to its last number has paid
paid_risen : (s : ServerState) (d e : Due)
    → is_tail s ≡ true
    → s.asks ≡ []
    → (is_head s ≡ false → d.unsent ≡ [])
    → (is_head s ≡ true → (u : OpenUpdate) → In u d.unsent → is_taken s s.id u.id ≡ false)
    → IsRisen s d e
    → IsPaid (rise s (last_number s.store)).state e
unfolding risen
paid_risen s d e t none sent taken r = record {
  forwarded = λ j n. absurd (not_last s j n t);
  told = r.told;
  settled = r.settled;
  sent = λ f. r.unsent ∙ sent f;
  taken = λ f u i. taken f u (subst (λ us. In u us) r.unsent i);
  asked = λ f. absurd (both_ways _ f t);
  last = λ _. (refl, none);
}

-- nothing is lost as an entry is passed on
last_passed : (s : ServerState) (e : LogEntry) → last_number (passed_on s e).state.store ≡ last_number s.store
unfolding passed_on risen
last_passed s e =
    cond_both (is_tail s) _ _ (λ (a : RuleResult). last_number a.state.store ≡ last_number s.store) (λ t. refl)
    (λ f. refl)

acked_risen : (s : ServerState) (n : ℕ) → n ≤ (rise s n).state.store.acked
unfolding risen
acked_risen s n = omega arith

-- who has a successor and rises to what that has acknowledged has paid
paid_acked : (s : ServerState) (d e : Due) (n i : ℕ)
    → successor_of s ≡ Some i
    → IsPaid s d
    → IsRisen s d e
    → IsPaid (rise s n).state e
unfolding risen
paid_acked s d e n i to p r = record {
  forwarded = λ j k. r.forwarded ∙ p.forwarded j k;
  told = r.told;
  settled = r.settled;
  sent = λ f. r.unsent ∙ p.sent f;
  taken = λ t u k. p.taken t u (subst (λ us. In u us) r.unsent k);
  asked = λ f. r.unasked ∙ p.asked f;
  last = λ t. absurd (not_last s i to t);
}

-- the entry that was just appended goes on to the successor, or is acknowledged by the tail
pub rule_passed : (c : Cause) (s : ServerState) (d : Due) (e : LogEntry)
    → IsSound (appended s e)
    → IsClear s d
    → e.number ≡ last_number s.store + 1
    → (is_head s ≡ false → d.unsent ≡ [])
    → (is_head s ≡ true → (u : OpenUpdate) → In u d.unsent → is_taken (appended s e) s.id u.id ≡ false)
    → IsRule c (appended s e) d (passed_on (appended s e) e) (IsPaid (passed_on (appended s e) e).state)
unfolding passed_on
rule_passed c s d e k p number sent taken =
    let t = appended s e in
    let at = placed_appended s e in
    let more = last_appended s e in
    let sent2 = λ (f : is_head t ≡ false). sent (sym at.head ∙ f) in
    let taken2 : is_head t ≡ true → (u : OpenUpdate) → In u d.unsent → is_taken t t.id u.id ≡ false =
    λ f u i. ap (λ o. is_taken t o u.id) at.id ∙ taken (sym at.head ∙ f) u i in
    cond_both (is_tail t) _ _ (λ (a : RuleResult). IsRule c t d a (IsPaid a.state))
    (λ l. (let was = p.last (sym at.tail ∙ l) in
    rule_so c t d _ (IsRisen t d) _ (λ e2 r. paid_risen t d e2 l (at.same_asks ∙ was.1) sent2 taken2 r)
    (rule_rise c t d (last_number t.store) k (omega (arith, at.acked, was.0, more)) (omega arith) (inl (l, refl))
    p.settled)))
    (λ f. rule_message c t d (successor_of t) (Forward e) (IsPaid t) k
    (λ none. record {
      forwarded = λ j n. absurd (let no = sym none ∙ n in cc);
      told = λ j q. p.told j (sym at.predecessor ∙ q);
      settled = p.settled;
      sent = sent2;
      taken = taken2;
      asked = λ x. p.asked (sym at.tail ∙ x);
      last = λ x. absurd (both_ways _ f x);
    })
    (λ j n. (
      (n, appended_in s e),
      (next_within t j k.placed n).1,
      omega (arith, number, p.forwarded j (sym at.successor ∙ n)),
      record {
        forwarded = λ _ _. omega (arith, number, more);
        told = λ x q. p.told x (sym at.predecessor ∙ q);
        settled = p.settled;
        sent = sent2;
        taken = taken2;
        asked = λ x. p.asked (sym at.tail ∙ x);
        last = λ x. absurd (both_ways _ f x);
      },
    )))

-- an entry is appended and passed on
pub rule_appended : (c : Cause) (s : ServerState) (d : Due) (e : LogEntry)
    → IsSound s
    → IsClear s d
    → Guard c s (Append e)
    → (e.origin ≢ s.id → (u : OpenUpdate) → In u d.unsent → is_taken s s.id u.id ≡ false)
    → (is_head s ≡ false → d.unsent ≡ [])
    → (is_head s ≡ true → (u : OpenUpdate) → In u d.unsent → is_taken (appended s e) s.id u.id ≡ false)
    → IsRule c s d (passed_on (appended s e) e) (IsPaid (passed_on (appended s e) e).state)
unfolding act
rule_appended c s d e h p g first sent taken =
    rule_first c s d (Append e) (λ t. passed_on t e) _ refl h g first
    (λ k. rule_passed (left c) s d e k p (appended_next c s e g.1) sent taken)

-- ---- taking

-- the head may append the entry that it makes
pub made_guard : (c : Cause) (s : ServerState) (origin id : ℕ) (call : Call)
    → origin < 16
    → IsWanted c s origin id call
    → IsCall call
    → is_update call.op ≡ true
    → is_head s ≡ true
    → is_taken s origin id ≡ true
    → Guard c s (Append (entry_of s origin id call))
made_guard c s origin id call low wanted fit is first may = (
  entry_of-valid s origin id call low fit is may,
  inl (record {
    origin = origin;
    id = id;
    call = call;
    wanted = wanted;
    fits = fit;
    update = is;
    head = first;
    taken = may;
    made = refl;
  }),
)

-- what the head makes of an update: nothing is left to do, and the update can't be taken again
pub record IsTaken (s : ServerState) (origin id : ℕ) (e : Due) : Type 0 where
  pub paid : IsPaid s e
  pub once : is_taken s origin id ≡ false

-- what can be taken doesn't change as an entry is passed on
taken_passed : (s : ServerState) (e : LogEntry) (origin id : ℕ)
    → is_taken (passed_on s e).state origin id ≡ is_taken s origin id
unfolding passed_on risen
taken_passed s e origin id =
    cond_both (is_tail s) _ _ (λ (a : RuleResult). is_taken a.state origin id ≡ is_taken s origin id) (λ t. refl)
    (λ f. refl)

-- the head's taking of an update is a list of actions in turn
pub rule_take_update : (c : Cause) (s : ServerState) (d : Due) (origin id : ℕ) (call : Call)
    → IsSound s
    → IsClear s d
    → origin < 16
    → IsWanted c s origin id call
    → IsCall call
    → is_update call.op ≡ true
    → is_head s ≡ true
    → (origin ≢ s.id → (u : OpenUpdate) → In u d.unsent → is_taken s s.id u.id ≡ false)
    → ((e : LogEntry) → e.origin ≡ origin → e.id ≡ id → (u : OpenUpdate) → In u d.unsent
    → is_taken (appended s e) s.id u.id ≡ false)
    → (is_taken s origin id ≡ false → (u : OpenUpdate) → In u d.unsent → is_taken s s.id u.id ≡ false)
    → IsRule c s d (take_update s origin id call) (IsTaken (take_update s origin id call).state origin id)
unfolding take_update
rule_take_update c s d origin id call h p low wanted fit is first own after before =
    cond_both (is_taken s origin id) _ _ (λ (a : RuleResult). IsRule c s d a (IsTaken a.state origin id))
    (λ t. (let e = entry_of s origin id call in
    rule_so c s d _ _ _
    (λ x paid. record {
      paid = paid;
      once = taken_passed (appended s e) e origin id
          ∙ taken_once s e id (omega (arith, low, h.seen)) (omega arith);
    })
    (rule_appended c s d e h p (made_guard c s origin id call low wanted fit is first t) own
    (λ f. absurd (both_ways _ f first)) (λ _. after e refl refl))))
    (λ f. rule_silent c s d _ h (record {
      paid = record {
        forwarded = p.forwarded;
        told = p.told;
        settled = p.settled;
        sent = λ x. absurd (both_ways _ x first);
        taken = λ _. before f;
        asked = p.asked;
        last = p.last;
      };
      once = f;
    }))

-- ---- the inputs and messages of updates

-- an own update call that has entered is one of the open ones
pub entered_in : (s : ServerState) (port : ℕ) (call : Call)
    → In (record { id = s.next_id; port = port; call = call }) (entered s port call).pend
unfolding entered
entered_in s port call = (length s.pend, get_last s.pend (record { id = s.next_id; port = port; call = call }))

-- nothing but own updates becomes due by an own call that enters
pub clear_entered : (s : ServerState) (d : Due) (port : ℕ) (call : Call) (us : List OpenUpdate)
    → IsClear s d
    → IsClear (entered s port call) (record d { unsent = us })
unfolding entered
clear_entered s d port call us p =
    record { forwarded = p.forwarded; told = p.told; settled = p.settled; asked = p.asked; last = p.last }

-- nothing stands in an empty list
pub nothing_in : {X : Type 0} (x : X) → In x [] → ⊥
nothing_in x i = let none = i.1 in cc

one_in : (u v : OpenUpdate) → In v (u ∷ []) → v ≡ u
one_in u v i = elim (in_more u [] v i) [ inl same ↦ same | inr more ↦ absurd (let no = more.1 in cc) ]

-- an own update that is due is taken at the head or sent there, and nothing is left to do
pub rule_called : (c : Cause) (s : ServerState) (d : Due) (id port : ℕ) (call : Call)
    → IsSound s
    → IsClear s d
    → IsCall call
    → is_update call.op ≡ true
    → In (record { id = id; port = port; call = call }) s.pend
    → d.unsent ≡ record { id = id; port = port; call = call } ∷ []
    → IsRule c s d (called s id call) (IsPaid (called s id call).state)
rule_called c s d id port call h p fit is waits only =
    let u : OpenUpdate = record { id = id; port = port; call = call } in
    let own : (v : OpenUpdate) → In v d.unsent → v ≡ u = λ v i. one_in u v (subst (λ us. In v us) only i) in
    let low : s.id < 16 = omega (arith, h.placed, h.counted) in
    cond_both (is_head s) _ _ (λ (a : RuleResult). IsRule c s d a (IsPaid a.state))
    (λ t. rule_so c s d _ _ _ (λ e x. x.paid)
    (rule_take_update c s d s.id id call h p low (inl (refl, port, waits)) fit is t
    (λ other. absurd (other refl))
    (λ e from same v i. ap (λ (x : OpenUpdate). is_taken (appended s e) s.id x.id) (own v i)
    ∙ ap (λ o. is_taken (appended s e) o id) (sym from)
    ∙ taken_once s e id (omega (arith, from, low, h.seen)) (omega (arith, same)))
    (λ f v i. ap (λ (x : OpenUpdate). is_taken s s.id x.id) (own v i) ∙ f)))
    (λ f. rule_message c s d (head_of s) (Op id call) (IsPaid s) h
    (λ none. absurd (has_head s h none))
    (λ j e. (
      (e, head_other s j f e, is, fit, port, waits),
      head_within s j e,
      (port, [], only),
      record {
        forwarded = p.forwarded;
        told = p.told;
        settled = p.settled;
        sent = λ _. ap (λ (us : List OpenUpdate). but_first us) only;
        taken = λ t. absurd (both_ways _ f t);
        asked = p.asked;
        last = p.last;
      },
    )))

-- an own update call is a list of actions in turn: it enters if there is room, and is taken or sent
pub rule_update : (s : ServerState) (d : Due) (port : ℕ) (call : Call)
    → IsSound s
    → IsPaid s d
    → d.unsent ≡ []
    → IsCall call
    → is_update call.op ≡ true
    → IsRule (Some (Called port call)) s d (update s port call) (IsPaid (update s port call).state)
unfolding act
rule_update s d port call h p none fit is =
    let c = Some (Called port call) in
    let u : OpenUpdate = record { id = s.next_id; port = port; call = call } in
    cond_both (is_room_for_update s) _ _ (λ (a : RuleResult). IsRule c s d a (IsPaid a.state))
    (λ t. rule_first c s d (Enter port call) (λ v. called v s.next_id call) _ refl h (refl, fit, is, t) tt
    (λ k. rule_called None (entered s port call) (record d { unsent = d.unsent ++ u ∷ [] }) s.next_id port call k
    (clear_entered s d port call _ (clear_paid s d p)) fit is (entered_in s port call) (ap (λ us. us ++ u ∷ []) none)))
    (λ f. rule_silent c s d _ h p)

module _ (s : ServerState) (d : Due) (i : ℕ) (m : Peer) (h : IsSound s) (p : IsPaid s d) where
  -- an update that comes to the head is taken by actions in turn, if it can be
  pub rule_receive_op : (id : ℕ) (call : Call)
      → m.body ≡ Op id call
      → i < 16
      → i ≢ s.id
      → has s.view i ≡ false
      → IsCall call
      → IsRule (Some (From i m)) s d (receive_op s i id call) (λ e. IsPaid (receive_op s i id call).state e
      × (is_head (receive_op s i id call).state ≡ true → is_update call.op ≡ true
      → is_taken (receive_op s i id call).state i id ≡ false))
  rule_receive_op id call is low other lives fit =
      cond_both (is_head s && is_update call.op) _ _
      (λ (a : RuleResult). IsRule (Some (From i m)) s d a
      (λ e. IsPaid a.state e
      × (is_head a.state ≡ true → is_update call.op ≡ true → is_taken a.state i id ≡ false)))
      (λ t. (let parts = and_parts (is_head s) (is_update call.op) t in
      rule_so (Some (From i m)) s d _ _ _ (λ e x. (x.paid, λ _ _. x.once))
      (rule_take_update (Some (From i m)) s d i id call h (clear_paid s d p) low (inr (m, refl, is, lives, other)) fit
      parts.1 parts.0 (λ _. p.taken parts.0)
      (λ e from same u k. still_untaken s e s.id u.id (λ own. other (sym from ∙ sym own)) (p.taken parts.0 u k))
      (λ _. p.taken parts.0))))
      (λ f. rule_silent (Some (From i m)) s d _ h (p, λ t u. absurd (both_ways _ f (and_from _ _ t u))))

  -- an entry that comes from the predecessor is appended and passed on by actions in turn, if it is the next
  pub rule_receive_forward : (e : LogEntry)
      → m.body ≡ Forward e
      → IsEntry e
      → ((k : ℕ) → has m.view k ≡ true → has s.view k ≡ true)
      → IsRule (Some (From i m)) s d (receive_forward s i e) (λ x. IsPaid (receive_forward s i e).state x
      × (predecessor_of (receive_forward s i e).state ≡ Some i
      → e.number ≢ last_number (receive_forward s i e).state.store + 1))
  rule_receive_forward e is valid joined =
      cond_both (is_that (predecessor_of s) i && e.number == last_number s.store + 1) _ _
      (λ (a : RuleResult). IsRule (Some (From i m)) s d a
      (λ x. IsPaid a.state x × (predecessor_of a.state ≡ Some i → e.number ≢ last_number a.state.store + 1)))
      (λ t. (let parts = and_parts (is_that (predecessor_of s) i) (e.number == last_number s.store + 1) t in
      let from = that_is _ i parts.0 in
      let number = eqb-true _ _ parts.1 in
      rule_so (Some (From i m)) s d _ _ _
      (λ x paid. (paid, λ _ next. omega (arith, number, next, last_passed (appended s e) e, last_appended s e)))
      (rule_appended (Some (From i m)) s d e h (clear_paid s d p) (
        valid,
        inr (record
            { from = i; message = m; came = refl; body = is; joined = joined; predecessor = from; next = number }),
      )
      (λ _ u k. absurd (nothing_in u
      (subst (λ us. In u us) (p.sent (false_from_ne_true _ (λ first. not_first s i from first))) k))) p.sent
      (λ first. absurd (not_first s i from first)))))
      (λ f. rule_silent (Some (From i m)) s d _ h
      (p, λ from number. absurd (both_ways _ f (and_from _ _ (is_itself _ i from) (eq-eqb _ _ number)))))

  -- a number that comes from the successor is reached by actions in turn
  pub rule_receive_ack : (n : ℕ)
      → m.body ≡ Ack n
      → ((k : ℕ) → has m.view k ≡ true → has s.view k ≡ true)
      → IsRule (Some (From i m)) s d (receive_ack s i n) (λ e. IsPaid (receive_ack s i n).state e
      × (successor_of (receive_ack s i n).state ≡ Some i → n ≤ last_number (receive_ack s i n).state.store
      → n ≤ (receive_ack s i n).state.store.acked))
  rule_receive_ack n is joined =
      cond_both (is_that (successor_of s) i && nat_lt s.store.acked n && nat_le n (last_number s.store)) _ _
      (λ (a : RuleResult). IsRule (Some (From i m)) s d a
      (λ e. IsPaid a.state e
      × (successor_of a.state ≡ Some i → n ≤ last_number a.state.store → n ≤ a.state.store.acked)))
      (λ t. (let parts = and_parts (is_that (successor_of s) i && nat_lt s.store.acked n) (nat_le n (last_number s.store)) t in
      let first = and_parts (is_that (successor_of s) i) (nat_lt s.store.acked n) parts.0 in
      let to = that_is _ i first.0 in
      rule_so (Some (From i m)) s d _ (IsRisen s d) _ (λ e r. (paid_acked s d e n i to p r, λ _ _. acked_risen s n))
      (rule_rise (Some (From i m)) s d n h (ltb-true _ _ first.1) (leb-true _ _ parts.1)
      (inr (i, m, refl, is, to, joined)) p.settled)))
      (λ f. rule_silent (Some (From i m)) s d _ h (
        p,
        λ to high. elim (cases_lt s.store.acked n) [
          | inl low ↦ absurd
              (both_ways _ f (and_from _ _ (and_from _ _ (is_itself _ i to) (lt-ltb _ _ low)) (le-leb _ _ high)))
          | inr held ↦ held
        ],
      ))
