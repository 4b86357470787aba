-- Joining a view as a list of actions in turn, step by step.
use Rattle.std.proofs.Common.{◌≡◌, ℕ, suc, ◌+◌, ◌-◌, ◌<◌, ◌≤◌, nat_lt, ◌==◌, ◌&&◌, Bool, true, false, cond, not, List}
use Rattle.std.proofs.Common.{[], ◌∷◌, ◌++◌, length, Option, Some, None, ◌⊎◌, inl, inr, refl, sym, subst, ap, ◌∙◌}
use Rattle.std.proofs.Common.{arith}
use Rattle.std.proofs.lemmas.Bool.{cond_both, and_parts, and_from, both_ways, or_right, eq-eqb, eqb-true, ltb-true}
use Rattle.std.proofs.lemmas.Bool.{ltb-false, false_from_ne_true}
use Rattle.std.proofs.lemmas.List.{length-drop}
use Rattle.table.specs.declared.operations.Reply.TheVariants.{Value}
use Rattle.versions.specs.Entries.{LogEntry}
use Rattle.versions.specs.Stores.{IsLog, last_number, value_at, entries_after}
use Rattle.versions.proofs.Logs.{log-drop}
use Rattle.node.specs.declared.servers.OpenUpdate.{OpenUpdate}
use Rattle.node.specs.declared.servers.OpenRead.{OpenRead}
use Rattle.node.specs.declared.messages.Body.TheVariants.{Op, Forward, Ack, Query}
use Rattle.node.specs.declared.messages.Output.{Output}
use Rattle.node.specs.Views.{View, has, union, is_below, adds, head, tail, predecessor, successor, is_that, is_same}
use Rattle.node.specs.Servers.{ServerState, RuleResult, head_of, tail_of, is_head, is_tail, predecessor_of, successor_of, silent}
use Rattle.node.specs.Servers.{putting, message_to, reply_at}
use Rattle.node.specs.Numbering.{appended, entry_of, is_taken, taken, risen}
use Rattle.node.specs.Reading.{open_read, without_read}
use Rattle.node.specs.Joining.{widened, taken_all, sent_again, promoted_to_head, promoted_to_tail, forwarded}
use Rattle.node.specs.Joining.{needed_above, caught_up, acked_to_predecessor, replies_to, asked_again, asks_renewed}
use Rattle.node.specs.Joining.{rejoined, join}
use Rattle.node.specs.Lawful.{IsSound, AreUpdates}
use Rattle.node.specs.Actions.{Widen, Append, Finish, act, Cause, left, IsBrought, Due, IsPaid, nothing_due, due_to_new}
use Rattle.node.specs.Actions.{but_first}
use Rattle.node.proofs.Lists.{In, in_more}
use Rattle.node.proofs.ViewLaws.{has-union}
use Rattle.node.proofs.Neighbours.{that_is, same_is, predecessor_below, next_within, head_within, head_other, tail_within, no_tail}
use Rattle.node.proofs.OpenCalls.{update_in, asked_above}
use Rattle.node.proofs.StoreChanges.{held_after}
use Rattle.node.proofs.DoneActions.{IsRule, rule_as, rule_so, rule_silent, rule_then, rule_first, rule_message}
use Rattle.node.proofs.DoneActions.{sound_after, grown_after}
use Rattle.node.proofs.DoneRules.{IsRisen, not_last, has_head, rule_rise, made_guard, not_taken, taken_once, seen_same}
use Rattle.node.proofs.DoneRules.{nothing_in}
use Rattle.node.proofs.SoundLaws.{reads_bound, sound-taken}
use Rattle.node.proofs.Growth.{last-grown}

-- ---- what is due on the way

-- What holds between the steps of a join, if the successor is to be sent the entries above `from`, and `owed` says
-- what is known of the predecessor; who is the tail has acknowledged the `whole` log. `old` is the view before the
-- join.
pub record IsUnderway (old : View) (from : ℕ) (owed whole : Type 0) (s : ServerState) (d : Due) : Type 0 where
  pub forwarded : (j : ℕ) → successor_of s ≡ Some j → d.forwarded ≡ from
  pub told : (j : ℕ) → predecessor_of s ≡ Some j → owed
  pub settled : d.unsettled ≡ []
  pub sent : is_head s ≡ false → d.unsent ≡ []
  pub taken : is_head s ≡ true → (u : OpenUpdate) → In u d.unsent → is_taken s s.id u.id ≡ false
  pub asked : d.unasked ≡ cond (is_same (tail old s.count) (tail_of s)) [] s.asks
  pub none : is_that (tail old s.count) s.id ≡ true → s.asks ≡ []
  pub last : is_tail s ≡ true → whole

-- the predecessor is due the commit number if it is a new one, unless that rose, and was told already
abbrev IsOwed : View → ℕ → ServerState → Bool → Type 0
IsOwed old m s untold =
    ((untold ≡ not (is_same (predecessor old s.id) (predecessor_of s))) × (s.store.acked ≡ m))
    ⊎ ((untold ≡ false) × (m < s.store.acked))

-- ---- second: the own open calls

head_appended : (s : ServerState) (e : LogEntry) → is_head (appended s e) ≡ is_head s
unfolding appended
head_appended s e = refl

same_appended : (s : ServerState) (e : LogEntry) → ((appended s e).pend ≡ s.pend) × ((appended s e).id ≡ s.id)
unfolding appended
same_appended s e = (refl, refl)

rule_taken_all : (us : List OpenUpdate) (c : Cause) (s : ServerState) (d : Due)
    → IsSound s
    → is_head s ≡ true
    → ((u : OpenUpdate) → In u us → In u s.pend)
    → IsRule c s d (silent (taken_all s us)) (λ e. e ≡ d)
unfolding taken_all taken act
rule_taken_all [] c s d h first f = rule_silent c s d _ h refl
rule_taken_all (u ∷ us) c s d h first f =
    let waits = f u (0, refl) in
    let fit = update_in s.pend s.next_id u h.updates waits in
    let e = entry_of s s.id u.id u.call in
    cond_both (is_taken s s.id u.id) _ s (λ t. IsRule c s d (silent (taken_all t us)) (λ e. e ≡ d))
    (λ t. rule_first c s d (Append e) (λ v. silent (taken_all v us)) _ refl h
    (made_guard c s s.id u.id u.call (omega (arith, h.placed, h.counted)) (inl (refl, u.port, waits)) fit.0 fit.1 first
    t) (λ other. absurd (other refl))
    (λ k. rule_taken_all us (left c) (appended s e) d k (head_appended s e ∙ first)
    (λ v i. rw ((same_appended s e).0) (f v (suc i.0, i.1)))))
    (λ x. rule_taken_all us c s d h first (λ v i. f v (suc i.0, i.1)))

-- the same place in the same view, and the same reads and numbers: what taking own calls leaves
record IsPlacedAs (s t : ServerState) : Type 0 where
  id : t.id ≡ s.id
  count : t.count ≡ s.count
  view : t.view ≡ s.view
  acked : t.store.acked ≡ s.store.acked
  next_id : t.next_id ≡ s.next_id
  asks : t.asks ≡ s.asks

placed_self : (s : ServerState) → IsPlacedAs s s
placed_self s = record { id = refl; count = refl; view = refl; acked = refl; next_id = refl; asks = refl }

placed_then : (s t u : ServerState) → IsPlacedAs s t → IsPlacedAs t u → IsPlacedAs s u
placed_then s t u h g = record {
  id = g.id ∙ h.id;
  count = g.count ∙ h.count;
  view = g.view ∙ h.view;
  acked = g.acked ∙ h.acked;
  next_id = g.next_id ∙ h.next_id;
  asks = g.asks ∙ h.asks;
}

placed_taken : (s : ServerState) (u : OpenUpdate) → IsPlacedAs s (taken s s.id u.id u.call)
unfolding taken appended
placed_taken s u = cond_both (is_taken s s.id u.id) _ _ (λ (t : ServerState). IsPlacedAs s t)
    (λ t. record { id = refl; count = refl; view = refl; acked = refl; next_id = refl; asks = refl })
    (λ f. placed_self s)

placed_taken_all : (us : List OpenUpdate) (s : ServerState) → IsPlacedAs s (taken_all s us)
unfolding taken_all
placed_taken_all [] s = placed_self s
placed_taken_all (u ∷ us) s =
    placed_then s _ _ (placed_taken s u) (placed_taken_all us (taken s s.id u.id u.call))

placed_second : (old : View) (s : ServerState) → IsPlacedAs s (promoted_to_head old s).state
unfolding promoted_to_head
placed_second old s = cond_both (is_head s) _ _ (λ (a : RuleResult). IsPlacedAs s a.state)
    (λ t. cond_both (is_that (head old s.count) s.id) _ _ (λ (a : RuleResult). IsPlacedAs s a.state)
    (λ u. placed_self s) (λ u. placed_taken_all s.pend s))
    (λ f. cond_both (is_same (head old s.count) (head_of s)) _ _ (λ (a : RuleResult). IsPlacedAs s a.state)
    (λ u. placed_self s) (λ u. placed_self s))

-- what couldn't be taken still can't, as calls with greater ids are
untaken_then : (s : ServerState) (u : OpenUpdate) (id : ℕ)
    → s.id < length s.seen
    → id < u.id
    → is_taken s s.id id ≡ false
    → is_taken (taken s s.id u.id u.call) s.id id ≡ false
unfolding taken
untaken_then s u id low less never =
    cond_both (is_taken s s.id u.id) _ _ (λ (t : ServerState). is_taken t s.id id ≡ false)
    (λ t. (let e = entry_of s s.id u.id u.call in
    let new = seen_same s e low in
    not_taken (appended s e) s.id id (λ is. omega (arith, new, less, is))))
    (λ f. never)

-- what was taken can't be again
untaken_now : (s : ServerState) (u : OpenUpdate)
    → s.id < length s.seen
    → is_taken (taken s s.id u.id u.call) s.id u.id ≡ false
unfolding taken
untaken_now s u low = cond_both (is_taken s s.id u.id) _ _ (λ (t : ServerState). is_taken t s.id u.id ≡ false)
    (λ t. taken_once s (entry_of s s.id u.id u.call) u.id low (omega arith))
    (λ f. f)

-- the own calls in order: none can be taken again after all were
untaken_all : (us : List OpenUpdate) (s : ServerState) (above id : ℕ)
    → AreUpdates above us s.next_id
    → IsSound s
    → id ≤ above
    → is_taken s s.id id ≡ false
    → is_taken (taken_all s us) s.id id ≡ false
unfolding taken_all
untaken_all [] s above id calls h low never = never
untaken_all (u ∷ us) s above id calls h low never =
    let t = taken s s.id u.id u.call in
    let placed = placed_taken s u in
    let sound = sound-taken s s.id u.id u.call (omega (arith, h.placed, h.counted)) calls.1 calls.2 h in
    let here = untaken_then s u id (omega (arith, h.placed, h.counted, h.seen)) (omega (arith, low, calls.0)) never in
    subst (λ o. is_taken (taken_all t us) o id ≡ false) placed.id
    (untaken_all us t u.id id (subst (λ n. AreUpdates u.id us n) (sym placed.next_id) calls.3) sound
    (omega (arith, low, calls.0)) (subst (λ o. is_taken t o id ≡ false) (sym placed.id) here))

all_untaken : (us : List OpenUpdate) (s : ServerState) (above : ℕ)
    → AreUpdates above us s.next_id
    → IsSound s
    → (v : OpenUpdate)
    → In v us
    → is_taken (taken_all s us) s.id v.id ≡ false
unfolding taken_all
all_untaken [] s above calls h v i = absurd (let none = i.1 in cc)
all_untaken (u ∷ us) s above calls h v i =
    let t = taken s s.id u.id u.call in
    let placed = placed_taken s u in
    let calls2 : AreUpdates u.id us t.next_id = subst (λ n. AreUpdates u.id us n) (sym placed.next_id) calls.3 in
    let sound = sound-taken s s.id u.id u.call (omega (arith, h.placed, h.counted)) calls.1 calls.2 h in
    subst (λ o. is_taken (taken_all t us) o v.id ≡ false) placed.id
    (elim (in_more u us v i) [
      | inl same ↦ untaken_all us t u.id v.id calls2 sound (omega (arith, ap (λ (x : OpenUpdate). x.id) same))
          (subst (λ o. is_taken t o v.id ≡ false) (sym placed.id)
          (ap (λ (x : OpenUpdate). is_taken t s.id x.id) same
          ∙ untaken_now s u (omega (arith, h.placed, h.counted, h.seen))))
      | inr more ↦ all_untaken us t u.id calls2 sound v more
    ])

rule_sent_again : (us : List OpenUpdate) (c : Cause) (s : ServerState) (d : Due)
    → IsSound s
    → is_head s ≡ false
    → ((u : OpenUpdate) → In u us → In u s.pend)
    → d.unsent ≡ us
    → IsRule c s d (putting s (sent_again s us)) (λ e. e ≡ record d { unsent = [] })
unfolding sent_again
rule_sent_again [] c s d h other f due =
    rule_silent c s d _ h (ap (λ (us : List OpenUpdate). record d { unsent = us }) due)
rule_sent_again (u ∷ us) c s d h other f due =
    let waits = f u (0, refl) in
    let fit = update_in s.pend s.next_id u h.updates waits in
    let d2 : Due = record d { unsent = but_first d.unsent } in
    rule_then c s d (putting s (message_to s (head_of s) (Op u.id u.call))) (λ t. putting t (sent_again t us))
    (λ e. e ≡ d2) _
    (rule_message c s d (head_of s) (Op u.id u.call) (λ e. e ≡ d2) h
    (λ none. absurd (has_head s h none))
    (λ j e. ((e, head_other s j other e, fit.1, fit.0, u.port, waits), head_within s j e, (u.port, us, due), refl)))
    (λ e is k. subst (λ x. IsRule (left c) s x (putting s (sent_again s us))
    (λ e. e ≡ record d { unsent = [] })) (sym is)
    (rule_sent_again us (left c) s d2 k other (λ v i. f v (suc i.0, i.1))
    (ap (λ (xs : List OpenUpdate). but_first xs) due)))

-- what is due after the second step
record IsHeaded (s : ServerState) (d e : Due) : Type 0 where
  forwarded : e.forwarded ≡ d.forwarded
  untold : e.untold ≡ d.untold
  unsettled : e.unsettled ≡ d.unsettled
  unasked : e.unasked ≡ d.unasked
  sent : is_head s ≡ false → e.unsent ≡ []
  taken : is_head s ≡ true → (u : OpenUpdate) → In u e.unsent → is_taken s s.id u.id ≡ false

headed : (s : ServerState) (d e : Due) (us : List OpenUpdate)
    → e ≡ record d { unsent = us }
    → (is_head s ≡ false → us ≡ [])
    → (is_head s ≡ true → (u : OpenUpdate) → In u us → is_taken s s.id u.id ≡ false)
    → IsHeaded s d e
headed s d e us is sent taken = record {
  forwarded = ap (λ (x : Due). x.forwarded) is;
  untold = ap (λ (x : Due). x.untold) is;
  unsettled = ap (λ (x : Due). x.unsettled) is;
  unasked = ap (λ (x : Due). x.unasked) is;
  sent = λ f. ap (λ (x : Due). x.unsent) is ∙ sent f;
  taken = λ t u i. taken t u (subst (λ (x : Due). In u x.unsent) is i);
}

same_self : (a b : Option ℕ) (k : ℕ) → a ≡ Some k → b ≡ Some k → is_same a b ≡ true
same_self a b k e g = rw (e, g) (eq-eqb k k refl)

rule_promoted_to_head : (c : Cause) (old : View) (s : ServerState) (d : Due)
    → IsSound s
    → d.unsent ≡ cond (is_same (head old s.count) (head_of s)) [] s.pend
    → IsRule c s d (promoted_to_head old s) (IsHeaded (promoted_to_head old s).state d)
unfolding promoted_to_head
rule_promoted_to_head c old s d h due =
    cond_both (is_head s) _ _ (λ (a : RuleResult). IsRule c s d a (IsHeaded a.state d))
    (λ t. cond_both (is_that (head old s.count) s.id) _ _ (λ (a : RuleResult). IsRule c s d a (IsHeaded a.state d))
    (λ u. (let none : d.unsent ≡ [] = rw (same_self _ _ s.id (that_is _ s.id u) (that_is _ s.id t)) at due in
    rule_silent c s d _ h
    (headed s d d d.unsent refl (λ _. none) (λ _ v i. absurd (nothing_in v (subst (λ us. In v us) none i))))))
    (λ u. (let kept = placed_taken_all s.pend s in
    rule_so c s d _ (λ e. e ≡ d) _
    (λ e is. headed (taken_all s s.pend) d e d.unsent is
    (λ f. absurd (both_ways _ f (rw (kept.view, kept.count, kept.id) t)))
    (λ _ v i. ap (λ o. is_taken (taken_all s s.pend) o v.id) kept.id
    ∙ all_untaken s.pend s 0 h.updates h v (within v (subst (λ us. In v us) due i))))
    (rule_taken_all s.pend c s d h t (λ v i. i)))))
    (λ f. cond_both (is_same (head old s.count) (head_of s)) _ _
    (λ (a : RuleResult). IsRule c s d a (IsHeaded a.state d))
    (λ u. (let none : d.unsent ≡ [] = rw u at due in
    rule_silent c s d _ h (headed s d d d.unsent refl (λ _. none) (λ t. absurd (both_ways _ f t)))))
    (λ u. (let all : d.unsent ≡ s.pend = rw u at due in
    rule_so c s d _ (λ e. e ≡ record d { unsent = [] }) _
    (λ e is. headed s d e [] is (λ _. refl) (λ t. absurd (both_ways _ f t)))
    (rule_sent_again s.pend c s d h f (λ v i. i) all))))
  where
    within : (v : OpenUpdate) → In v (cond (is_same (head old s.count) (head_of s)) [] s.pend) → In v s.pend
    within v = cond_both (is_same (head old s.count) (head_of s)) [] s.pend
        (λ (us : List OpenUpdate). In v us → In v s.pend) (λ _ i. absurd (nothing_in v i)) (λ _ i. i)

-- what is due as the second step begins
record IsBegun (old : View) (n m : ℕ) (s : ServerState) (d : Due) : Type 0 where
  forwarded : d.forwarded ≡ needed_above old n s
  untold : d.untold ≡ not (is_same (predecessor old s.id) (predecessor_of s))
  settled : d.unsettled ≡ []
  unsent : d.unsent ≡ cond (is_same (head old s.count) (head_of s)) [] s.pend
  asked : d.unasked ≡ cond (is_same (tail old s.count) (tail_of s)) [] s.asks
  acked : s.store.acked ≡ m
  none : is_that (tail old s.count) s.id ≡ true → s.asks ≡ []

underway_as : (old : View) (n m : ℕ) (s t : ServerState) (d e : Due)
    → IsPlacedAs s t
    → IsBegun old n m s d
    → IsHeaded t d e
    → IsUnderway old (needed_above old n t) (IsOwed old m t e.untold) (Unit {0}) t e
underway_as old n m s t d e p b h =
    let next_same : successor_of t ≡ successor_of s = rw (p.view, p.count, p.id) refl in
    let needed : needed_above old n t ≡ needed_above old n s = rw (p.view, p.count, p.id, p.acked) refl in
    record {
      forwarded = λ j _. h.forwarded ∙ b.forwarded ∙ sym needed;
      told = λ j q. inl (h.untold ∙ b.untold ∙ rw (p.view, p.id) refl, p.acked ∙ b.acked);
      settled = h.unsettled ∙ b.settled;
      sent = h.sent;
      taken = h.taken;
      asked = h.unasked ∙ b.asked ∙ rw (p.view, p.count, p.asks) refl;
      none = λ x. p.asks ∙ b.none (rw (p.count, p.id) at x);
      last = λ x. tt;
    }

rule_second : (c : Cause) (old : View) (n m : ℕ) (s : ServerState) (d : Due)
    → IsSound s
    → IsBegun old n m s d
    → IsRule c s d (promoted_to_head old s)
    (λ e. IsUnderway old (needed_above old n (promoted_to_head old s).state)
    (IsOwed old m (promoted_to_head old s).state e.untold) (Unit {0}) (promoted_to_head old s).state e)
rule_second c old n m s d h b =
    rule_so c s d _ _ _
    (λ e p. underway_as old n m s (promoted_to_head old s).state d e (placed_second old s) b p)
    (rule_promoted_to_head c old s d h b.unsent)

-- ---- third: the tail

rule_promoted_to_tail : (c : Cause) (old : View) (n m : ℕ) (s : ServerState) (d : Due)
    → IsSound s
    → s.store.acked ≡ m
    → IsUnderway old (needed_above old n s) (IsOwed old m s d.untold) (Unit {0}) s d
    → IsRule c s d (promoted_to_tail s)
    (λ e. IsUnderway old (needed_above old n (promoted_to_tail s).state)
    (IsOwed old m (promoted_to_tail s).state e.untold)
    ((promoted_to_tail s).state.store.acked ≡ last_number (promoted_to_tail s).state.store)
    (promoted_to_tail s).state e)
unfolding promoted_to_tail risen
rule_promoted_to_tail c old n m s d h same p =
    cond_both (is_tail s && nat_lt s.store.acked (last_number s.store)) _ _
    (λ (a : RuleResult). IsRule c s d a
    (λ e. IsUnderway old (needed_above old n a.state) (IsOwed old m a.state e.untold)
    (a.state.store.acked ≡ last_number a.state.store) a.state e))
    (λ t. (let parts = and_parts (is_tail s) (nat_lt s.store.acked (last_number s.store)) t in
    let low = ltb-true _ _ parts.1 in
    rule_so c s d _ (IsRisen s d) _
    (λ e r. record {
      forwarded = λ j to. absurd (not_last s j to parts.0);
      told = λ j q. inr (r.told j q, omega (arith, low, same));
      settled = r.settled;
      sent = λ f. r.unsent ∙ p.sent f;
      taken = λ f u i. p.taken f u (subst (λ us. In u us) r.unsent i);
      asked = r.unasked ∙ p.asked;
      none = p.none;
      last = λ _. refl;
    })
    (rule_rise c s d (last_number s.store) h low (omega arith) (inl (parts.0, refl)) p.settled)))
    (λ f. rule_silent c s d _ h (record {
      forwarded = p.forwarded;
      told = p.told;
      settled = p.settled;
      sent = p.sent;
      taken = p.taken;
      asked = p.asked;
      none = p.none;
      last = λ (t : is_tail s ≡ true).
          (let over : nat_lt s.store.acked (last_number s.store)
          ≡ false = rw t at f in omega (arith, ltb-false _ _ over, h.store.acked_held));
    }))

-- ---- fourth: the successor

-- the successor was sent the entries up to `to`, and all else stays
record IsForwarded (s : ServerState) (d e : Due) (to : ℕ) : Type 0 where
  forwarded : (j : ℕ) → successor_of s ≡ Some j → e.forwarded ≡ to
  untold : e.untold ≡ d.untold
  unsettled : e.unsettled ≡ d.unsettled
  unsent : e.unsent ≡ d.unsent
  unasked : e.unasked ≡ d.unasked

rule_forwarded : (es : List LogEntry) (c : Cause) (s : ServerState) (d : Due) (from to : ℕ)
    → IsSound s
    → ((e : LogEntry) → In e es → In e s.store.rest)
    → IsLog from es
    → to ≡ from + length es
    → ((j : ℕ) → successor_of s ≡ Some j → d.forwarded ≡ from)
    → IsRule c s d (putting s (forwarded s es)) (λ e. IsForwarded s d e to)
unfolding forwarded
rule_forwarded [] c s d from to h f log high due =
    rule_silent c s d _ h
    (record {
      forwarded = λ j n. omega (arith, high, due j n);
      untold = refl;
      unsettled = refl;
      unsent = refl;
      unasked = refl;
    })
rule_forwarded (x ∷ es) c s d from to h f log high due =
    rule_then c s d (putting s (message_to s (successor_of s) (Forward x))) (λ t. putting t (forwarded t es))
    (λ e. IsForwarded s d e (from + 1)) _
    (rule_message c s d (successor_of s) (Forward x) (λ e. IsForwarded s d e (from + 1)) h
    (λ none. record {
      forwarded = λ j n. absurd (let no = sym none ∙ n in cc);
      untold = refl;
      unsettled = refl;
      unsent = refl;
      unasked = refl;
    })
    (λ j n. (
      (n, f x (0, refl)),
      (next_within s j h.placed n).1,
      omega (arith, log.1, due j n),
      record { forwarded = λ _ _. log.1; untold = refl; unsettled = refl; unsent = refl; unasked = refl },
    )))
    (λ e r k. rule_so (left c) s e _ (λ g. IsForwarded s e g to) _
    (λ g q. record {
      forwarded = q.forwarded;
      untold = q.untold ∙ r.untold;
      unsettled = q.unsettled ∙ r.unsettled;
      unsent = q.unsent ∙ r.unsent;
      unasked = q.unasked ∙ r.unasked;
    })
    (rule_forwarded es (left c) s e (from + 1) to k (λ y i. f y (suc i.0, i.1)) log.2 (omega (arith, high))
    r.forwarded))

needed_within : (old : View) (n : ℕ) (s : ServerState)
    → IsSound s
    → s.store.floor ≤ n
    → n ≤ last_number s.store
    → (s.store.floor ≤ needed_above old n s) × (needed_above old n s ≤ last_number s.store)
needed_within old n s h low high =
    cond_both (is_same (successor old s.count s.id) (successor_of s)) n s.store.acked
    (λ (k : ℕ). (s.store.floor ≤ k) × (k ≤ last_number s.store))
    (λ _. (low, high))
    (λ _. (h.store.floor_acked, h.store.acked_held))

rule_caught_up : (c : Cause) (old : View) (n m : ℕ) (s : ServerState) (d : Due)
    → IsSound s
    → s.store.floor ≤ n
    → n ≤ last_number s.store
    → IsUnderway old (needed_above old n s) (IsOwed old m s d.untold) (s.store.acked ≡ last_number s.store) s d
    → IsRule c s d (caught_up old n s)
    (λ e. IsUnderway old (last_number s.store) (IsOwed old m s e.untold) (s.store.acked ≡ last_number s.store) s e)
unfolding caught_up
rule_caught_up c old n m s d h low high p =
    let k = needed_above old n s in
    let within = needed_within old n s h low high in
    let es = entries_after s.store k in
    let log : IsLog k es =
    log-drop s.store.floor (k - s.store.floor) k s.store.rest (omega (arith, within.0)) h.store.log in
    let long = length-drop (k - s.store.floor) s.store.rest in
    rule_so c s d _ (λ e. IsForwarded s d e (last_number s.store)) _
    (λ e r. record {
      forwarded = r.forwarded;
      told = λ j q. subst (λ b. IsOwed old m s b) (sym r.untold) (p.told j q);
      settled = r.unsettled ∙ p.settled;
      sent = λ f. r.unsent ∙ p.sent f;
      taken = λ t u i. p.taken t u (subst (λ us. In u us) r.unsent i);
      asked = r.unasked ∙ p.asked;
      none = p.none;
      last = p.last;
    })
    (rule_forwarded es c s d k (last_number s.store) h (λ e i. held_after s.store k e i) log
    (omega (arith, long, within.0, within.1)) p.forwarded)

-- ---- fifth: the predecessor

rule_acked_to_predecessor : (c : Cause) (old : View) (m : ℕ) (s : ServerState) (d : Due)
    → IsSound s
    → IsUnderway old (last_number s.store) (IsOwed old m s d.untold) (s.store.acked ≡ last_number s.store) s d
    → IsRule c s d (acked_to_predecessor old m s)
    (λ e. IsUnderway old (last_number (acked_to_predecessor old m s).state.store) (e.untold ≡ false)
    ((acked_to_predecessor old m s).state.store.acked ≡ last_number (acked_to_predecessor old m s).state.store)
    (acked_to_predecessor old m s).state e)
unfolding acked_to_predecessor
rule_acked_to_predecessor c old m s d h p =
    cond_both (not (is_same (predecessor old s.id) (predecessor_of s)) && s.store.acked == m) _ _
    (λ (a : RuleResult). IsRule c s d a
    (λ e. IsUnderway old (last_number a.state.store) (e.untold ≡ false)
    (a.state.store.acked ≡ last_number a.state.store) a.state e))
    (λ t. (let parts = and_parts (not (is_same (predecessor old s.id) (predecessor_of s))) (s.store.acked == m) t in
    rule_message c s d (predecessor_of s) (Ack s.store.acked) _ h
    (λ none. record {
      forwarded = p.forwarded;
      told = λ j q. absurd (let no = sym none ∙ q in cc);
      settled = p.settled;
      sent = p.sent;
      taken = p.taken;
      asked = p.asked;
      none = p.none;
      last = p.last;
    })
    (λ j q. (
      (q, refl),
      omega (arith, predecessor_below s j q, h.placed),
      elim (p.told j q)
          [ inl x ↦ x.0 ∙ parts.0 | inr x ↦ absurd (let same = eqb-true _ _ parts.1 in omega (arith, x.1, same)) ],
      record {
        forwarded = p.forwarded;
        told = λ _ _. refl;
        settled = p.settled;
        sent = p.sent;
        taken = p.taken;
        asked = p.asked;
        none = p.none;
        last = p.last;
      },
    ))))
    (λ f. rule_silent c s d _ h (record {
      forwarded = p.forwarded;
      told = λ j q. elim (p.told j q) [
        | inl x ↦ false_from_ne_true d.untold (λ t. both_ways _ f (and_from _ _ (sym x.0 ∙ t) (eq-eqb _ _ x.1)))
        | inr x ↦ x.0
      ];
      settled = p.settled;
      sent = p.sent;
      taken = p.taken;
      asked = p.asked;
      none = p.none;
      last = p.last;
    }))

-- ---- sixth: the open reads

first_read : (r : OpenRead) (rs : List OpenRead) → open_read (r ∷ rs) r.ask ≡ Some r
first_read r rs = rw (eq-eqb r.ask r.ask refl) refl

without_first_read : (r : OpenRead) (rs : List OpenRead) → without_read (r ∷ rs) r.ask ≡ rs
without_first_read r rs = rw (eq-eqb r.ask r.ask refl) refl

replies_same : (s t : ServerState) (rs : List OpenRead) → t.store ≡ s.store → replies_to t rs ≡ replies_to s rs
unfolding replies_to
replies_same s t [] e = refl
replies_same s t (r ∷ rs) e = rw (e, replies_same s t rs e) refl

-- these reads, which are all that wait, are answered in order
abbrev closing : List OpenRead → ServerState → RuleResult
closing rs t = record { state = record t { asks = [] }; outputs = replies_to t rs }

rule_closing : (rs : List OpenRead) (c : Cause) (s : ServerState) (d : Due)
    → IsSound s
    → s.asks ≡ rs
    → is_tail s ≡ true
    → IsRule c s d (closing rs s) (λ e. e ≡ d)
unfolding replies_to act
rule_closing [] c s d h all last =
    rule_as c s d (silent s) _ _ (ap (λ (xs : List OpenRead). silent (record s { asks = xs })) (sym all))
    (rule_silent c s d _ h refl)
rule_closing (r ∷ rs) c s d h all last =
    let n = last_number s.store in
    let low : r.lower_bound ≤ s.store.acked = (reads_bound r.ask r.lower_bound rs s.next_ask s.store.acked
    (rw all at h.reads).2).1 in
    let t = (act s (Finish r n)).state in
    let rest : t.asks ≡ rs = rw all (without_first_read r rs) in
    let whole = rule_first c s d (Finish r n) (closing rs) (λ e. e ≡ d) refl h (
      rw all (first_read r rs),
      rw all (0, refl),
      omega (arith, low, h.store.acked_held),
      omega arith,
      inl (last, refl),
    ) tt
    (λ k. rule_closing rs (left c) t d k rest last) in
    rule_as c s d _ _ _
    (ap (λ (os : List Output).
    record {
      state = record s { asks = [] };
      outputs = reply_at r.port (Value (value_at s.store r.key n))
          ++ os;
    }) (sym (replies_same s t rs refl))) whole

-- there is a tail
pub has_tail : (s : ServerState) → IsSound s → tail_of s ≡ None → ⊥
has_tail s h none = both_ways _ h.outside (no_tail s.view s.count none s.id h.placed)

rule_asked_again : (rs : List OpenRead) (c : Cause) (s : ServerState) (d : Due)
    → IsSound s
    → is_tail s ≡ false
    → ((r : OpenRead) → In r rs → In r s.asks)
    → d.unasked ≡ rs
    → IsRule c s d (putting s (asked_again s rs)) (λ e. e ≡ record d { unasked = [] })
unfolding asked_again
rule_asked_again [] c s d h other f due =
    rule_silent c s d _ h (ap (λ (rs : List OpenRead). record d { unasked = rs }) due)
rule_asked_again (r ∷ rs) c s d h other f due =
    let waits = f r (0, refl) in
    let d2 : Due = record d { unasked = but_first d.unasked } in
    rule_then c s d (putting s (message_to s (tail_of s) (Query r.ask r.key))) (λ t. putting t (asked_again t rs))
    (λ e. e ≡ d2) _
    (rule_message c s d (tail_of s) (Query r.ask r.key) (λ e. e ≡ d2) h
    (λ none. absurd (has_tail s h none))
    (λ j e. (
      (
        e,
        other,
        asked_above s.store.floor s.asks s.next_ask s.store.acked r h.reads waits,
        r.port,
        r.lower_bound,
        waits,
      ),
      tail_within s j e,
      (r.port, r.lower_bound, rs, due),
      refl,
    )))
    (λ e is k. subst (λ x. IsRule (left c) s x (putting s (asked_again s rs))
    (λ e. e ≡ record d { unasked = [] })) (sym is)
    (rule_asked_again rs (left c) s d2 k other (λ q i. f q (suc i.0, i.1))
    (ap (λ (xs : List OpenRead). but_first xs) due)))

-- what was underway is paid, once the reads are
paid_asked : (old : View) (s : ServerState) (d e : Due)
    → IsUnderway old (last_number s.store) (d.untold ≡ false) (s.store.acked ≡ last_number s.store) s d
    → e ≡ record d { unasked = e.unasked }
    → (is_tail s ≡ false → e.unasked ≡ [])
    → (is_tail s ≡ true → s.asks ≡ [])
    → IsPaid s e
paid_asked old s d e p is asked none = record {
  forwarded = λ j n. ap (λ (x : Due). x.forwarded) is ∙ p.forwarded j n;
  told = λ j q. ap (λ (x : Due). x.untold) is ∙ p.told j q;
  settled = ap (λ (x : Due). x.unsettled) is ∙ p.settled;
  sent = λ f. ap (λ (x : Due). x.unsent) is ∙ p.sent f;
  taken = λ t u i. p.taken t u (subst (λ (x : Due). In u x.unsent) is i);
  asked = asked;
  last = λ t. (p.last t, none t);
}

rule_asks_renewed : (c : Cause) (old : View) (s : ServerState) (d : Due)
    → IsSound s
    → IsUnderway old (last_number s.store) (d.untold ≡ false) (s.store.acked ≡ last_number s.store) s d
    → IsRule c s d (asks_renewed old s) (IsPaid (asks_renewed old s).state)
unfolding asks_renewed
rule_asks_renewed c old s d h p =
    cond_both (is_same (tail old s.count) (tail_of s)) _ _ (λ (a : RuleResult). IsRule c s d a (IsPaid a.state))
    (λ t. rule_silent c s d _ h (paid_asked old s d d p refl
    (λ _. p.asked ∙ rw t refl)
    (λ l. p.none (ap (λ o. is_that o s.id) (same_is _ _ t) ∙ l))))
    (λ f. cond_both (is_tail s) _ _ (λ (a : RuleResult). IsRule c s d a (IsPaid a.state))
    (λ t. rule_so c s d _ (λ e. e ≡ d) _
    (λ e is. subst (λ x. IsPaid (record s { asks = [] }) x) (sym is) (record {
      forwarded = p.forwarded;
      told = p.told;
      settled = p.settled;
      sent = p.sent;
      taken = p.taken;
      asked = λ x. absurd (both_ways _ x t);
      last = λ x. (p.last x, refl);
    }))
    (rule_closing s.asks c s d h refl t))
    (λ u. rule_so c s d _ (λ e. e ≡ record d { unasked = [] }) _
    (λ e is. paid_asked old s d e p
    (is ∙ ap (λ (rs : List OpenRead). record d { unasked = rs }) (sym (ap (λ (x : Due). x.unasked) is)))
    (λ _. ap (λ (x : Due). x.unasked) is) (λ t. absurd (both_ways _ u t)))
    (rule_asked_again s.asks c s d h u (λ r i. i) (p.asked ∙ rw f refl))))

-- ---- all steps

-- what the fourth step asks of the last number before the join
pub record IsReady (old : View) (n : ℕ) (s : ServerState) : Type 0 where
  pub second : IsSound (promoted_to_head old s).state
  pub third : IsSound (promoted_to_tail (promoted_to_head old s).state).state
  pub low : (promoted_to_tail (promoted_to_head old s).state).state.store.floor ≤ n
  pub high : n ≤ last_number (promoted_to_tail (promoted_to_head old s).state).state.store

-- the third step, whatever is due
rule_third : (s : ServerState) → IsSound s → IsRule None s (nothing_due s) (promoted_to_tail s) (λ _. Unit {0})
unfolding promoted_to_tail
rule_third s h =
    cond_both (is_tail s && nat_lt s.store.acked (last_number s.store)) _ _
    (λ (a : RuleResult). IsRule None s (nothing_due s) a (λ _. Unit {0}))
    (λ t. (let parts = and_parts (is_tail s) (nat_lt s.store.acked (last_number s.store)) t in
    rule_so None s (nothing_due s) _ _ _ (λ _ _. tt)
    (rule_rise None s (nothing_due s) (last_number s.store) h (ltb-true _ _ parts.1) (omega arith) (inl (parts.0, refl))
    refl)))
    (λ f. rule_silent None s (nothing_due s) _ h tt)

-- a sound server comes to the fourth step so
pub ready : (old : View) (n : ℕ) (s : ServerState)
    → IsSound s
    → s.store.floor ≤ n
    → n ≤ last_number s.store
    → IsReady old n s
ready old n s h low high =
    let d : Due = record (nothing_due s) { unsent = cond (is_same (head old s.count) (head_of s)) [] s.pend } in
    let t = (promoted_to_head old s).state in
    let second = rule_promoted_to_head None old s d h refl in
    let sound = sound_after None s _ second.done in
    let third = rule_third t sound in
    let long = last-grown s t second.grows in
    let longer = last-grown t (promoted_to_tail t).state third.grows in
    record {
      second = sound;
      third = sound_after None t _ third.done;
      low = omega (arith, second.grows.floor, third.grows.floor, low);
      high = omega (arith, long.1, longer.1, high);
    }

rule_rejoined : (c : Cause) (old : View) (n m : ℕ) (s : ServerState) (d : Due)
    → IsSound s
    → IsBegun old n m s d
    → s.store.floor ≤ n
    → n ≤ last_number s.store
    → IsRule c s d (rejoined old n m s) (IsPaid (rejoined old n m s).state)
unfolding caught_up
rule_rejoined c old n m s d h b low high =
    let r = ready old n s h low high in
    let acked2 = (placed_second old s).acked ∙ b.acked in
    let second = rule_second c old n m s d h b in
    let third = rule_then c s d _ promoted_to_tail _ _ second
    (λ e p k. rule_promoted_to_tail (left c) old n m _ e k acked2 p) in
    let fourth =
    rule_then c s d _ (caught_up old n) _ _ third (λ e p k. rule_caught_up (left c) old n m _ e k r.low r.high p) in
    let fifth = rule_then c s d _ (acked_to_predecessor old m) _ _ fourth
    (λ e p k. rule_acked_to_predecessor (left c) old m _ e k p) in
    rule_then c s d _ (asks_renewed old) _ _ fifth (λ e p k. rule_asks_renewed (left c) old _ e k p)

twice_not : (b : Bool) → not (not b) ≡ true → b ≡ true
twice_not true h = refl
twice_not false h = absurd cc

-- a view that adds nothing was known
nothing_added : (u v : View) (k : ℕ) → not (adds u v) ≡ true → has v k ≡ true → has u k ≡ true
unfolding adds
nothing_added u v k h g =
    let same : union u v ≡ u = eqb-true (union u v) u (twice_not _ h) in
    subst (λ w. has w k ≡ true) same (rw (has-union u v k) (or_right _ _ g))

known_widened : (s : ServerState) (v : View) (k : ℕ) → has v k ≡ true → has (widened s v).view k ≡ true
unfolding widened
known_widened s v k h = rw (has-union s.view v k) (or_right _ _ h)

begun_widened : (s : ServerState) (v : View)
    → IsPaid s (nothing_due s)
    → IsBegun s.view (last_number s.store) s.store.acked (widened s v) (due_to_new s (widened s v))
unfolding widened
begun_widened s v p =
    record {
      forwarded = refl;
      untold = refl;
      settled = refl;
      unsent = refl;
      asked = refl;
      acked = refl;
      none = λ t. (p.last t).1;
    }

bounds_widened : (s : ServerState) (v : View)
    → IsSound s
    → ((widened s v).store.floor ≤ last_number s.store) × (last_number s.store ≤ last_number (widened s v).store)
unfolding widened
bounds_widened s v h = (omega arith, omega arith)

-- what a join leaves: nothing to do, and all that the view names is known
pub record IsJoined (s : ServerState) (v : View) (e : Due) : Type 0 where
  pub paid : IsPaid s e
  pub knows : (k : ℕ) → has v k ≡ true → has s.view k ≡ true

-- a join of the view that an input brings is a list of actions in turn, and leaves nothing to do
pub rule_join : (c : Cause) (s : ServerState) (v : View)
    → IsSound s
    → IsPaid s (nothing_due s)
    → IsBrought c v
    → has v s.id ≡ false
    → is_below v s.count ≡ true
    → IsRule c s (nothing_due s) (join s v) (IsJoined (join s v).state v)
unfolding act
rule_join c s v h p brought out below =
    cond_both (not (adds s.view v)) _ _ (λ (a : RuleResult). IsRule c s (nothing_due s) a (IsJoined a.state v))
    (λ t. rule_silent c s (nothing_due s) _ h (record { paid = p; knows = λ k. nothing_added s.view v k t }))
    (λ f. (let within = bounds_widened s v h in
    rule_first c s (nothing_due s) (Widen v) (rejoined s.view (last_number s.store) s.store.acked) _ refl h
    (brought, out, below) refl
    (λ k. (let rest = rule_rejoined (left c) s.view (last_number s.store) s.store.acked (widened s v)
    (due_to_new s (widened s v)) k (begun_widened s v p) within.0 within.1 in
    rule_so (left c) (widened s v) (due_to_new s (widened s v)) _ _ _
    (λ e paid. record {
      paid = paid;
      knows = λ x g. (grown_after (left c) (widened s v) _ rest.done).view x (known_widened s v x g);
    }) rest))))
