-- No message is addressed to its own sender, nor to one that isn't of the chain. A join is a list of actions, whose
-- guards say to whom they send. For the other rules it is shown of inputs that may not be given, too.
use Rattle.std.proofs.Common.{◌≡◌, ◌≢◌, ℕ, ◌+◌, ◌<◌, nat_lt, nat_le, ◌==◌, ◌&&◌, false, not, List, [], ◌∷◌, ◌++◌}
use Rattle.std.proofs.Common.{Option, Some, None, inl, refl, sym, subst, ap, ◌∙◌, arith}
use Rattle.std.proofs.lemmas.Bool.{cond_both, eqb-false}
use Rattle.table.specs.Operations.{is_update}
use Rattle.table.specs.declared.operations.Call.{Call}
use Rattle.table.specs.declared.operations.Target.{Target}
use Rattle.table.specs.declared.operations.Target.TheVariants.{One, All}
use Rattle.versions.specs.Entries.{LogEntry}
use Rattle.versions.specs.Stores.{last_number, is_clean}
use Rattle.node.specs.declared.servers.OpenUpdate.{OpenUpdate}
use Rattle.node.specs.declared.servers.OpenRead.{OpenRead}
use Rattle.node.specs.declared.messages.Body.{Body}
use Rattle.node.specs.declared.messages.Body.TheVariants.{Op, Forward, Ack, Query, Answer}
use Rattle.node.specs.declared.messages.Peer.{Peer}
use Rattle.node.specs.declared.messages.Input.{Input}
use Rattle.node.specs.declared.messages.Input.TheVariants.{Call as Called, From, Gone}
use Rattle.node.specs.declared.messages.Output.{Output}
use Rattle.node.specs.Views.{has, is_that}
use Rattle.node.specs.Servers.{ServerState, RuleResult, most, head_of, tail_of, is_head, is_tail, predecessor_of, successor_of}
use Rattle.node.specs.Servers.{message_to}
use Rattle.node.specs.Numbering.{left_open_by, reply_to, replies, newly_acked, rise, appended}
use Rattle.node.specs.Numbering.{passed_on, is_taken, entry_of, take_update, entered, is_room_for_update, called, update}
use Rattle.node.specs.Reading.{asked, dirty_read, read_of, open_read, answered}
use Rattle.node.specs.Joining.{join}
use Rattle.node.specs.Steps.{receive, is_heard, from_peer, taken_in}
use Rattle.node.specs.Lawful.{IsSound, IsSettled, AreToOthers}
use Rattle.node.specs.Actions.{Action, Widen, Append, Reach, Settle, Send, Finish, Trim, Enter, Ask, Show, act, does}
use Rattle.node.specs.Actions.{Cause, left, MaySend, Guard, AreGuarded, IsDone}
use Rattle.node.proofs.SoundActions.{IsSeatOf, seat_act}
use Rattle.node.proofs.Neighbours.{to_predecessor, to_next, to_head, to_tail}
use Rattle.node.proofs.Settling.{reply_all}
use Rattle.node.proofs.DoneActions.{came_left, seat_after}
use Rattle.node.proofs.DoneJoins.{rule_join}
use Rattle.node.proofs.DoneSteps.{dirty_elsewhere, paid_nothing, heard, rule_taken_in}

module _ (id count : ℕ) where
  -- two lists of messages to others are one
  pub others_append : (xs ys : List Output)
      → AreToOthers id count xs
      → AreToOthers id count ys
      → AreToOthers id count (xs ++ ys)
  others_append [] ys h g = g
  others_append (x ∷ xs) ys h g = (h.0, others_append xs ys h.1 g)

  others_to : (s : ServerState) (to : Option ℕ) (body : Body)
      → ((j : ℕ) → to ≡ Some j → (j < count) × (j ≢ id))
      → AreToOthers id count (message_to s to body)
  others_to s None body h = tt
  others_to s (Some j) body h = (h j refl, tt)

  -- ---- replies go to ports

  reply_others : (own : ℕ) (pend : List OpenUpdate) (e : LogEntry) → AreToOthers id count (reply_to own pend e)
  reply_others own pend e = reply_all (λ os. AreToOthers id count os) own pend e tt (λ port. (tt, tt))

  replies_others : (own : ℕ) (es : List LogEntry) (pend : List OpenUpdate) → AreToOthers id count (replies own pend es)
  unfolding replies
  replies_others own [] pend = tt
  replies_others own (e ∷ es) pend = others_append (reply_to own pend e) _ (reply_others own pend e)
      (replies_others own es (left_open_by own pend e))

-- what a rule makes of this server goes to others
abbrev Others : ServerState → RuleResult → Type 0
Others s a = AreToOthers s.id s.count a.outputs

-- the same of a server in its place
moved : (s t : ServerState) (os : List Output)
    → IsSeatOf s t
    → AreToOthers t.id t.count os
    → AreToOthers s.id s.count os
moved s t os seat h = rw (← seat.id, ← seat.count) h

-- ---- by actions

-- the message that is taken in, if it is one, comes from another server
abbrev IsOther : Cause → ℕ → Type 0
IsOther c id = (m : Peer) → c ≡ Some (From id m) → ⊥

to_other : (c : Cause) (s : ServerState) (j : ℕ) (body : Body)
    → IsSound s
    → IsOther c s.id
    → MaySend c s j body
    → j ≢ s.id
to_other c s j (Op id call) h other g = g.1
to_other c s j (Forward e) h other g = (to_next s j h.placed g.0).1
to_other c s j (Ack n) h other g = (to_predecessor s j h.placed g.0).1
to_other c s j (Query ask key) h other g = (to_tail s j g.1 g.0).1
to_other c s j (Answer ask n) h other g = λ same. other g.3 (g.5 ∙ ap (λ i. Some (From i g.3)) same)

others_act : (c : Cause) (s : ServerState) (a : Action)
    → IsSound s
    → IsOther c s.id
    → Guard c s a
    → Others s (act s a)
unfolding act
others_act c s (Widen v) h other g = tt
others_act c s (Append e) h other g = tt
others_act c s (Reach n) h other g = tt
others_act c s (Settle e) h other g = reply_others s.id s.count s.id s.pend e
others_act c s (Send j body) h other g = ((g.1, to_other c s j body h other g.0), tt)
others_act c s (Finish r n) h other g = (tt, tt)
others_act c s Trim h other g = tt
others_act c s (Enter port call) h other g = tt
others_act c s (Ask port key) h other g = tt
others_act c s (Show port key) h other g = (tt, tt)

others_does : (actions : List Action) (c : Cause) (s : ServerState)
    → IsOther c s.id
    → AreGuarded c s actions
    → Others s (does s actions)
unfolding does
others_does [] c s other g = tt
others_does (a ∷ later) c s other g =
    let t = (act s a).state in
    let seat = seat_act s a in
    others_append s.id s.count (act s a).outputs _ (others_act c s a g.0 other g.1)
    (moved s t _ seat (others_does later (left c) t
    (λ m e. other m (came_left c _ e ∙ ap (λ i. Some (From i m)) seat.id)) g.2))

others_done : (c : Cause) (s : ServerState) (a : RuleResult) → IsOther c s.id → IsDone c s a → Others s a
others_done c s a other d =
    subst (λ (o : RuleResult). Others s o) (sym d.same) (others_does d.actions c s other d.guarded)

-- ---- by the rules, for any call and any message

others_rise : (s : ServerState) (n : ℕ) → s.id < s.count → Others s (rise s n)
others_rise s n placed = others_append s.id s.count (replies s.id s.pend (newly_acked s n)) _
    (replies_others s.id s.count s.id (newly_acked s n) s.pend)
    (others_to s.id s.count s (predecessor_of s) (Ack n) (λ j e. to_predecessor s j placed e))

others_passed_on : (s : ServerState) (e : LogEntry) → s.id < s.count → Others s (passed_on s e)
unfolding passed_on
others_passed_on s e placed = cond_both (is_tail s) _ _ (λ (a : RuleResult). Others s a)
    (λ t. others_rise s (last_number s.store) placed)
    (λ f. others_to s.id s.count s (successor_of s) (Forward e) (λ j f. to_next s j placed f))

others_passed : (s : ServerState) (e : LogEntry) → s.id < s.count → Others s (passed_on (appended s e) e)
unfolding appended
others_passed s e placed = others_passed_on (appended s e) e placed

others_take_update : (s : ServerState) (origin id : ℕ) (made : Call)
    → s.id < s.count
    → Others s (take_update s origin id made)
unfolding take_update
others_take_update s origin id made placed = cond_both (is_taken s origin id) _ _ (λ (a : RuleResult). Others s a)
    (λ t. others_passed s (entry_of s origin id made) placed)
    (λ f. tt)

others_called : (s : ServerState) (id : ℕ) (made : Call) → s.id < s.count → Others s (called s id made)
others_called s id made placed = cond_both (is_head s) _ _ (λ (a : RuleResult). Others s a)
    (λ t. others_take_update s s.id id made placed)
    (λ f. others_to s.id s.count s (head_of s) (Op id made) (λ j e. to_head s j f e))

others_update : (s : ServerState) (port : ℕ) (made : Call) → s.id < s.count → Others s (update s port made)
unfolding entered
others_update s port made placed = cond_both (is_room_for_update s) _ _ (λ (a : RuleResult). Others s a)
    (λ t. others_called (entered s port made) s.next_id made placed)
    (λ f. tt)

others_dirty_read : (s : ServerState) (port : ℕ) (key : List ℕ) → is_tail s ≡ false → Others s (dirty_read s port key)
unfolding dirty_read asked
others_dirty_read s port key apart = cond_both (nat_lt s.next_ask most) _ _ (λ (a : RuleResult). Others s a)
    (λ t. others_to s.id s.count s (tail_of s) (Query s.next_ask key) (λ j e. to_tail s j apart e))
    (λ f. tt)

others_read_of : (s : ServerState) (port : ℕ) (target : Target) → IsSettled s → Others s (read_of s port target)
others_read_of s port (One key) settled = cond_both (is_clean s.store key) _ _ (λ (a : RuleResult). Others s a)
    (λ t. (tt, tt))
    (λ f. others_dirty_read s port key (dirty_elsewhere s key settled f))
others_read_of s port All settled = tt

others_answered : (s : ServerState) (ask n : ℕ) (r : Option OpenRead) → Others s (answered s ask n r)
unfolding answered
others_answered s ask n None = tt
others_answered s ask n (Some r) =
    cond_both (nat_le r.lower_bound n && nat_le n (last_number s.store)) _ _ (λ (a : RuleResult). Others s a)
    (λ t. (tt, tt)) (λ f. tt)

others_receive : (s : ServerState) (i : ℕ) (body : Body)
    → s.id < s.count
    → i < s.count
    → i ≢ s.id
    → Others s (receive s i body)
others_receive s i (Op id made) placed low other =
    cond_both (is_head s && is_update made.op) _ _ (λ (a : RuleResult). Others s a)
    (λ t. others_take_update s i id made placed) (λ f. tt)
others_receive s i (Forward e) placed low other =
    cond_both (is_that (predecessor_of s) i && e.number == last_number s.store + 1) _ _ (λ (a : RuleResult). Others s a)
    (λ t. others_passed s e placed) (λ f. tt)
others_receive s i (Ack n) placed low other =
    cond_both (is_that (successor_of s) i && nat_lt s.store.acked n && nat_le n (last_number s.store)) _ _
    (λ (a : RuleResult). Others s a) (λ t. others_rise s n placed) (λ f. tt)
others_receive s i (Query ask key) placed low other =
    cond_both (is_tail s) _ _ (λ (a : RuleResult). Others s a) (λ t. ((low, other), tt)) (λ f. tt)
others_receive s i (Answer ask n) placed low other =
    cond_both (is_that (tail_of s) i) _ _ (λ (a : RuleResult). Others s a)
    (λ t. others_answered s ask n (open_read s.asks ask)) (λ f. tt)

others_from_peer : (s : ServerState) (i : ℕ) (m : Peer) → IsSound s → IsSettled s → Others s (from_peer s i m)
others_from_peer s i m h settled = cond_both (is_heard s i m.view) _ _ (λ (a : RuleResult). Others s a)
    (λ t.
    let from = heard s i m.view t in
    let other = λ (e : i ≡ s.id). eqb-false i s.id from.other e in
    let c : Cause = Some (From i m) in
    let t = (join s m.view).state in
    let first =
    (rule_join c s m.view h (paid_nothing s settled) (inl (i, m, refl, refl)) from.outside from.below).done in
    let seat = seat_after c s _ first in
    others_append s.id s.count _ _
    (others_done c s _ (λ n e. (let same : i ≡ s.id = cc in other same)) first)
    (moved s t _ seat (cond_both (has t.view i) _ _ (λ (a : RuleResult). Others t a) (λ _. tt)
    (λ _. others_receive t i m.body (omega (arith, seat.id, seat.count, h.placed))
    (omega (arith, seat.count, from.placed)) (λ e. other (e ∙ seat.id))))))
    (λ f. tt)

-- what a step of a lawful server puts out
pub others_taken_in : (s : ServerState) (input : Input) → IsSound s → IsSettled s → Others s (taken_in s input)
others_taken_in s (Called port made) h settled = cond_both (is_update made.op) _ _ (λ (a : RuleResult). Others s a)
    (λ t. others_update s port made h.placed) (λ f. others_read_of s port made.target settled)
others_taken_in s (From i m) h settled = others_from_peer s i m h settled
others_taken_in s (Gone j) h settled =
    others_done (Some (Gone j)) s _ (λ m e. let no = e in cc) (rule_taken_in s (Gone j) h settled tt tt).done
