-- What a step sends to the head: the ids of the new own updates, or of all that wait if the head is a new one, in
-- order.
use Rattle.std.proofs.Common.{◌≡◌, ℕ, ◌+◌, ◌≤◌, ◌==◌, Bool, true, false, cond, List, [], ◌∷◌, ◌++◌, Option, Some, None}
use Rattle.std.proofs.Common.{refl, arith, inl, inr, ap, sym, subst, ◌∙◌, append_assoc}
use Rattle.std.proofs.lemmas.Bool.{cond_both, both_ways, eq-eqb, ne_eqb, false_from_ne_true}
use Rattle.std.proofs.lemmas.Option.{same_Some}
use Rattle.table.specs.declared.operations.Reply.{Reply}
use Rattle.versions.specs.Entries.{LogEntry}
use Rattle.node.specs.declared.servers.OpenUpdate.{OpenUpdate}
use Rattle.node.specs.declared.messages.Body.{Body}
use Rattle.node.specs.declared.messages.Body.TheVariants.{Op, Forward, Ack, Query, Answer}
use Rattle.node.specs.declared.messages.Peer.{Peer}
use Rattle.node.specs.declared.messages.Output.{Output}
use Rattle.node.specs.Views.{View, is_same}
use Rattle.node.specs.Servers.{ServerState, seen_of, head_of, message_to}
use Rattle.node.specs.Numbering.{open_update, replied, reply_to, appended, entered}
use Rattle.node.specs.Reading.{asked}
use Rattle.node.specs.Joining.{widened}
use Rattle.node.specs.Steps.{trimmed}
use Rattle.node.specs.Actions.{Action, Widen, Append, Reach, Settle, Send, Finish, Trim, Enter, Ask, Show, act, does}
use Rattle.node.specs.Actions.{Cause, left, MaySend, Guard, AreGuarded, Due, IsTurn, IsTurnOf, due, due_after}
use Rattle.node.specs.Actions.{AreInTurn, due_in_the_end, nothing_due, due_to_new, but_first}
use Rattle.node.proofs.Neighbours.{head_from, head_of_is}
use Rattle.node.proofs.SoundActions.{Grown, grown_act, sound_act}
use Rattle.node.proofs.DoneActions.{grown_does}
use Rattle.node.proofs.RuleLaws.{same_is}
use Rattle.world.proofs.streams.Streaming.{IsRun, sent_to}
use Rattle.world.proofs.streams.ForwardRuns.{run-append, run_up, brought_to, brought_to-append, none_brought}
use Rattle.world.proofs.streams.ForwardRuns.{closed_none}
use Rattle.world.proofs.waiting.Opening.{op_id, op_ids, ids}
use Rattle.world.proofs.waiting.OwnIds.{OwnDue, ids-append}
use Rattle.world.proofs.streams.StepTellings.{some_or_not, same_self}
use Rattle.world.proofs.waiting.OwnEntries.{Along, along_now, does_seen}

-- ---- what goes to the head

-- the ids of the updates that go to server y
abbrev pub ops_to : ℕ → List Output → List ℕ
ops_to y os = brought_to op_id y os

-- these ids went out, and those that are due follow them
pub record IsSent (m : ℕ) (sent : List ℕ) (us : List OpenUpdate) (next_id : ℕ) : Type 0 where
  pub middle : ℕ
  pub last : ℕ
  pub issued : next_id ≡ last + 1
  pub out : IsRun m middle sent
  pub due : IsRun middle last (ids us)

sent_more : (m : ℕ) (xs ys : List ℕ) (us vs : List OpenUpdate) (n k : ℕ) (h : IsSent m xs us n)
    → IsSent h.middle ys vs k
    → IsSent m (xs ++ ys) vs k
sent_more m xs ys us vs n k h g =
    record {
      middle = g.middle;
      last = g.last;
      issued = g.issued;
      out = run-append xs ys m h.middle g.middle h.out g.out;
      due = g.due;
    }

-- nothing goes out, and the same is due
sent_still : (m last : ℕ) (os : List ℕ) (us : List OpenUpdate) (n : ℕ)
    → os ≡ []
    → n ≡ last + 1
    → IsRun m last (ids us)
    → IsSent m os us n
sent_still m last os us n none issued run =
    record { middle = m; last = last; issued = issued; out = rw none refl; due = run }

sent_op : (c : Cause) (d : Due) (s : ServerState) (j : ℕ) (body : Body) (h m last : ℕ)
    → MaySend c s j body
    → IsTurnOf body d
    → head_of s ≡ Some h
    → s.next_id ≡ last + 1
    → IsRun m last (ids d.unsent)
    → IsSent m (ops_to h (message_to s (Some j) body)) (due_after body d).unsent s.next_id
sent_op c d s j (Op id call) h m last g t to issued run =
    let there : j ≡ h = same_Some j h (sym g.0 ∙ to) in
    let first : IsRun m last (id ∷ ids t.1) = subst (λ us. IsRun m last (ids us)) t.2 run in
    let out : ops_to h (message_to s (Some j) (Op id call)) ≡ id ∷ [] = rw (eq-eqb j h there) refl in
    record {
      middle = m + 1;
      last = last;
      issued = issued;
      out = rw out (first.0, refl);
      due = subst (λ us. IsRun (m + 1) last (ids us))
          (sym (ap (λ (us : List OpenUpdate). but_first us) t.2)) first.1;
    }
sent_op c d s j (Forward e) h m last g t to issued run =
    sent_still m last _ d.unsent s.next_id (none_brought op_id s h (Some j) (Forward e) refl) issued run
sent_op c d s j (Ack n) h m last g t to issued run =
    sent_still m last _ d.unsent s.next_id (none_brought op_id s h (Some j) (Ack n) refl) issued run
sent_op c d s j (Query ask key) h m last g t to issued run =
    sent_still m last _ d.unsent s.next_id (none_brought op_id s h (Some j) (Query ask key) refl) issued run
sent_op c d s j (Answer ask n) h m last g t to issued run =
    sent_still m last _ d.unsent s.next_id (none_brought op_id s h (Some j) (Answer ask n) refl) issued run

widened_op : (d : Due) (s : ServerState) (v : View) (h m last : ℕ)
    → d ≡ nothing_due s
    → head_of s ≡ Some h
    → head_of (widened s v) ≡ Some h
    → s.next_id ≡ last + 1
    → IsRun m last (ids d.unsent)
    → IsSent m [] (due_to_new s (widened s v)).unsent (widened s v).next_id
unfolding widened
widened_op d s v h m last t was is issued run =
    let none : (due_to_new s (widened s v)).unsent ≡ [] =
    rw (same_self (head_of s) (head_of (widened s v)) h was is) refl in
    sent_still m last [] _ s.next_id refl issued
    (subst (λ us. IsRun m last (ids us)) (sym none) (subst (λ (x : Due). IsRun m last (ids x.unsent)) t run))

act_op : (c : Cause) (d : Due) (s : ServerState) (a : Action) (h m last : ℕ)
    → Guard c s a
    → IsTurn d s a
    → head_of s ≡ Some h
    → head_of (act s a).state ≡ Some h
    → s.next_id ≡ last + 1
    → IsRun m last (ids d.unsent)
    → IsSent m (ops_to h (act s a).outputs) (due d s a).unsent (act s a).state.next_id
unfolding act appended entered asked trimmed
act_op c d s (Widen v) h m last g t was is issued run = widened_op d s v h m last t was is issued run
act_op c d s (Append e) h m last g t was is issued run = sent_still m last [] d.unsent s.next_id refl issued run
act_op c d s (Reach n) h m last g t was is issued run = sent_still m last [] d.unsent s.next_id refl issued run
act_op c d s (Settle e) h m last g t was is issued run =
    sent_still m last _ d.unsent s.next_id (closed_none op_id h s.id s.pend e) issued run
act_op c d s (Send j body) h m last g t was is issued run = sent_op c d s j body h m last g.0 t was issued run
act_op c d s (Finish r n) h m last g t was is issued run = sent_still m last [] d.unsent s.next_id refl issued run
act_op c d s Trim h m last g t was is issued run = sent_still m last [] d.unsent s.next_id refl issued run
act_op c d s (Enter port call) h m last g t was is issued run = record {
  middle = m;
  last = last + 1;
  issued = omega (arith, issued);
  out = refl;
  due = rw (ids-append d.unsent (record { id = s.next_id; port = port; call = call } ∷ []))
      (run-append (ids d.unsent) (s.next_id ∷ []) m last (last + 1) run (issued, refl));
}
act_op c d s (Ask port key) h m last g t was is issued run = sent_still m last [] d.unsent s.next_id refl issued run
act_op c d s (Show port key) h m last g t was is issued run = sent_still m last [] d.unsent s.next_id refl issued run

-- a server that is the head's at first and at last is so in between
head_between : (s u t : ServerState) (h : ℕ)
    → Grown s u
    → Grown u t
    → head_of s ≡ Some h
    → head_of t ≡ Some h
    → head_of u ≡ Some h
head_between s u t h g k was is =
    let first = head_of_is s h was in
    let last = head_of_is t h is in
    head_from u.view u.count h (record {
      within = omega (arith, first.within, g.count);
      out = false_from_ne_true _ (λ e. both_ways _ last.out (k.view h e));
      below = λ x l. g.view x (first.below x l);
    })

-- the actions of a step send a head that stays the ids that are due, in order
pub does_op : (actions : List Action) (c : Cause) (d : Due) (s : ServerState) (h m last : ℕ)
    → AreGuarded c s actions
    → AreInTurn d s actions
    → head_of s ≡ Some h
    → head_of (does s actions).state ≡ Some h
    → s.next_id ≡ last + 1
    → IsRun m last (ids d.unsent)
    → IsSent m (ops_to h (does s actions).outputs) (due_in_the_end d s actions).unsent (does s actions).state.next_id
unfolding does
does_op [] c d s h m last g t was is issued run = sent_still m last [] d.unsent s.next_id refl issued run
does_op (a ∷ later) c d s h m last g t was is issued run =
    let u = (act s a).state in
    let mid = head_between s u (does u later).state h (grown_act c s a g.1) (grown_does later (left c) u g.2) was is in
    let one = act_op c d s a h m last g.1 t.0 was mid issued run in
    rw (brought_to-append op_id h (act s a).outputs (does u later).outputs)
    (sent_more m (ops_to h (act s a).outputs) (ops_to h (does u later).outputs) (due d s a).unsent _ u.next_id _ one
    (does_op later (left c) (due d s a) u h one.middle one.last g.2 t.1 mid is one.issued one.due))

sent_no_op : (c : Cause) (s : ServerState) (j : ℕ) (body : Body) (h : ℕ)
    → MaySend c s j body
    → (head_of s ≡ Some h → ⊥)
    → ops_to h (message_to s (Some j) body) ≡ []
sent_no_op c s j (Op id call) h g other = rw (ne_eqb j h (λ same. other (g.0 ∙ ap Some same))) refl
sent_no_op c s j (Forward e) h g other = none_brought op_id s h (Some j) (Forward e) refl
sent_no_op c s j (Ack n) h g other = none_brought op_id s h (Some j) (Ack n) refl
sent_no_op c s j (Query ask key) h g other = none_brought op_id s h (Some j) (Query ask key) refl
sent_no_op c s j (Answer ask n) h g other = none_brought op_id s h (Some j) (Answer ask n) refl

act_no_op : (c : Cause) (s : ServerState) (a : Action) (h : ℕ)
    → Guard c s a
    → (head_of s ≡ Some h → ⊥)
    → ops_to h (act s a).outputs ≡ []
unfolding act
act_no_op c s (Widen v) h g other = refl
act_no_op c s (Append e) h g other = refl
act_no_op c s (Reach n) h g other = refl
act_no_op c s (Settle e) h g other = closed_none op_id h s.id s.pend e
act_no_op c s (Send j body) h g other = sent_no_op c s j body h g.0 other
act_no_op c s (Finish r n) h g other = refl
act_no_op c s Trim h g other = refl
act_no_op c s (Enter port call) h g other = refl
act_no_op c s (Ask port key) h g other = refl
act_no_op c s (Show port key) h g other = refl

-- a new head is due all own updates that wait
new_widened : (s : ServerState) (v : View) (h : ℕ)
    → (head_of s ≡ Some h → ⊥)
    → head_of (widened s v) ≡ Some h
    → (due_to_new s (widened s v)).unsent ≡ (widened s v).pend
unfolding widened
new_widened s v h other is = cond_both (is_same (head_of s) (head_of (widened s v))) [] s.pend
    (λ (us : List OpenUpdate). us ≡ s.pend) (λ t. absurd (other (same_is _ _ t ∙ is))) (λ f. refl)

act_new_head : (d : Due) (s : ServerState) (a : Action) (h : ℕ)
    → (head_of s ≡ Some h → ⊥)
    → head_of (act s a).state ≡ Some h
    → (due d s a).unsent ≡ (act s a).state.pend
unfolding act appended entered asked trimmed
act_new_head d s (Widen v) h other is = new_widened s v h other is
act_new_head d s (Append e) h other is = absurd (other is)
act_new_head d s (Reach n) h other is = absurd (other is)
act_new_head d s (Settle e) h other is = absurd (other is)
act_new_head d s (Send j body) h other is = absurd (other is)
act_new_head d s (Finish r n) h other is = absurd (other is)
act_new_head d s Trim h other is = absurd (other is)
act_new_head d s (Enter port call) h other is = absurd (other is)
act_new_head d s (Ask port key) h other is = absurd (other is)
act_new_head d s (Show port key) h other is = absurd (other is)

-- the actions of a step send a new head all ids after one that this server has seen
pub does_new_op : (actions : List Action) (c : Cause) (d : Due) (s : ServerState) (h : ℕ)
    → AreGuarded c s actions
    → AreInTurn d s actions
    → Along (λ e t. OwnDue t e) d s actions
    → (head_of s ≡ Some h → ⊥)
    → head_of (does s actions).state ≡ Some h
    → (m : ℕ) × (m ≤ seen_of (does s actions).state (does s actions).state.id)
    × IsSent m (ops_to h (does s actions).outputs) (due_in_the_end d s actions).unsent (does s actions).state.next_id
unfolding does
does_new_op [] c d s h g t own other is = absurd (other is)
does_new_op (a ∷ later) c d s h g t own other is =
    let u = (act s a).state in
    let none = act_no_op c s a h g.1 other in
    elim (some_or_not (head_of u) h) [
      | inl now ↦ (let mine = along_now (λ e t. OwnDue t e) later (due d s a) u own.1 in
          let grown = grown_does later (left c) u g.2 in
          let sound = sound_act c s a g.0 g.1 in
          let seen = does_seen later (left c) u u.id g.2 (omega (arith, sound.placed, sound.counted)) in (
            mine.answered,
            omega (arith, run_up _ mine.answered _ mine.taken, seen, ap (λ o. seen_of (does u later).state o) grown.id),
            rw (brought_to-append op_id h (act s a).outputs (does u later).outputs, none)
                (does_op later (left c) (due d s a) u h mine.answered mine.last g.2 t.1 now is mine.issued
                (subst (λ us. IsRun mine.answered mine.last (ids us)) (sym (act_new_head d s a h other now))
                mine.waiting)),
          ))
      | inr still ↦ (let r = does_new_op later (left c) (due d s a) u h g.2 t.1 own.1 still is in
          (r.0, r.1, rw (brought_to-append op_id h (act s a).outputs (does u later).outputs, none) r.2))
    ]
