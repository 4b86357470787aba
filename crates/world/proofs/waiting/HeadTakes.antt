-- Who is the head has taken all its own updates at the end of a step, as long as numbers are left.
use Rattle.std.proofs.Common.{◌≡◌, ◌≢◌, ℕ, suc, ◌+◌, ◌<◌, ◌≤◌, nat_lt, not, ◌||◌, max, true, false, List, [], ◌∷◌, ◌++◌}
use Rattle.std.proofs.Common.{length, Some, None, refl, arith, ◌⊎◌, inl, inr, ap, sym, subst, ◌∙◌}
use Rattle.std.proofs.lemmas.Bool.{cases_eq, cases_lt, cases_Bool, both_ways, and_parts, ltb-true}
use Rattle.std.proofs.lemmas.Option.{same_Some}
use Rattle.table.specs.declared.operations.Call.{Call}
use Rattle.versions.specs.Entries.{LogEntry}
use Rattle.versions.specs.Stores.{last_number}
use Rattle.node.specs.declared.servers.OpenUpdate.{OpenUpdate}
use Rattle.node.specs.declared.messages.Body.{Body}
use Rattle.node.specs.declared.messages.Body.TheVariants.{Op, Forward, Ack, Query, Answer}
use Rattle.node.specs.declared.messages.Input.TheVariants.{Call as Called, From, Gone}
use Rattle.node.specs.Views.{View, is_same, is_that}
use Rattle.node.specs.Servers.{ServerState, most, seen_of, head_of, is_head}
use Rattle.node.specs.Numbering.{appended, entered, is_taken}
use Rattle.node.specs.Reading.{asked}
use Rattle.node.specs.Joining.{widened}
use Rattle.node.specs.Steps.{trimmed}
use Rattle.node.specs.Lawful.{IsSound}
use Rattle.node.specs.Actions.{Action, Widen, Append, Reach, Settle, Send, Finish, Trim, Enter, Ask, Show, act, does}
use Rattle.node.specs.Actions.{Cause, left, IsMade, MaySend, Guard, AreGuarded, Due, IsPaid, IsTurn, due, due_after}
use Rattle.node.specs.Actions.{AreInTurn, due_in_the_end, nothing_due, due_to_new}
use Rattle.node.proofs.Lists.{In}
use Rattle.node.proofs.Neighbours.{that_is}
use Rattle.node.proofs.DoneRules.{last_appended, seen_same, seen_other, taken_from, not_first}
use Rattle.node.proofs.DoneSteps.{last_trimmed}
use Rattle.node.proofs.RuleLaws.{same_is}
use Rattle.world.proofs.streams.Streaming.{IsRun}
use Rattle.world.proofs.streams.ForwardRuns.{run-append, run_up}
use Rattle.world.proofs.waiting.Opening.{ids, HasSeen}
use Rattle.world.proofs.waiting.OwnIds.{OwnDue, ids-append}
use Rattle.world.proofs.waiting.OwnEntries.{Along, head_appended, made_next}

-- ---- the head

-- numbers are left for all own calls that wait
abbrev pub HasRoom : ServerState → Type 0
HasRoom s = last_number s.store + s.next_id ≤ most + seen_of s s.id + 1

-- a head is due its own updates from one that it has seen, and has numbers for them, or has seen them all
pub record Leads (s : ServerState) (d : Due) : Type 0 where
  pub from : ℕ
  pub last : ℕ
  pub low : from ≤ seen_of s s.id
  pub issued : s.next_id ≡ last + 1
  pub run : IsRun from last (ids d.unsent)
  pub room : HasRoom s ⊎ (s.next_id ≡ seen_of s s.id + 1)

-- what is due to a head within a step; before its own call comes in, it has seen all
pub record IsLed (c : Cause) (s : ServerState) (d : Due) : Type 0 where
  pub since : HasRoom d.since
  pub leads : is_head s ≡ true → Leads s d
  pub called : is_head s ≡ true → (port : ℕ) (made : Call) → c ≡ Some (Called port made) → s.next_id ≡ seen_of s s.id + 1

left_uncalled : (c : Cause) (port : ℕ) (made : Call) → left c ≡ Some (Called port made) → ⊥
left_uncalled None port made e = cc
left_uncalled (Some (Called p m)) port made e = cc
left_uncalled (Some (From i m)) port made e = cc
left_uncalled (Some (Gone j)) port made e = cc

-- an id of the run is that of an update
run_has : (us : List OpenUpdate) (from last k : ℕ)
    → IsRun from last (ids us)
    → from ≤ k
    → k < last
    → (u : OpenUpdate) × In u us × (u.id ≡ k + 1)
run_has [] from last k run low high = absurd (omega (arith, run, low, high))
run_has (u ∷ us) from last k run low high = elim (cases_lt from k) [
  | inl less ↦ (let r = run_has us (from + 1) last k run.1 (omega (arith, less)) high in (r.0, (suc r.1.0, r.1.1), r.2))
  | inr same ↦ (u, (0, refl), omega (arith, run.0, low, same))
]

-- who can't take any that is due has seen all
completes : (s : ServerState) (d : Due)
    → OwnDue s d
    → Leads s d
    → ((u : OpenUpdate) → In u d.unsent → is_taken s s.id u.id ≡ false)
    → s.next_id ≡ seen_of s s.id + 1
completes s d own l untaken = elim l.room [
  | inr all ↦ all
  | inl room ↦ elim (cases_lt (seen_of s s.id) l.last) [
    | inr high ↦ omega (arith, l.issued, own.issued, own.high, high)
    | inl less ↦ (let r = run_has d.unsent l.from l.last (seen_of s s.id) l.run l.low less in
        absurd (both_ways _ (untaken r.0 r.1) (taken_from s s.id r.0.id r.2 (omega (arith, room, l.issued, less)))))
  ]
]

-- the parts that a head's claims speak of
record IsAlike (s t : ServerState) : Type 0 where
  id : t.id ≡ s.id
  head : is_head t ≡ is_head s
  next_id : t.next_id ≡ s.next_id
  seen : seen_of t t.id ≡ seen_of s s.id
  last : last_number t.store ≡ last_number s.store

alike_self : (s : ServerState) → IsAlike s s
alike_self s = record { id = refl; head = refl; next_id = refl; seen = refl; last = refl }

led_alike : (c : Cause) (s t : ServerState) (d e : Due)
    → IsAlike s t
    → e.since ≡ d.since
    → e.unsent ≡ d.unsent
    → IsLed c s d
    → IsLed (left c) t e
led_alike c s t d e a since unsent h = record {
  since = subst (λ x. HasRoom x) (sym since) h.since;
  leads = λ f. (let l = h.leads (sym a.head ∙ f) in
      record {
        from = l.from;
        last = l.last;
        low = omega (arith, l.low, a.seen);
        issued = a.next_id ∙ l.issued;
        run = subst (λ us. IsRun l.from l.last (ids us)) (sym unsent) l.run;
        room = elim l.room [
          | inl r ↦ inl (omega (arith, r, a.next_id, a.seen, a.last))
          | inr r ↦ inr
              (omega (arith, r, a.next_id, a.seen))
        ];
      });
  called = λ f port made x. absurd (left_uncalled c port made x);
}

alike_widened : (s : ServerState) (v : View) → head_of s ≡ head_of (widened s v) → IsAlike s (widened s v)
unfolding widened
alike_widened s v same =
    record { id = refl; head = ap (λ o. is_that o s.id) (sym same); next_id = refl; seen = refl; last = refl }

-- a new head has numbers for all its own updates
leads_new : (s : ServerState) (v : View) (us : List OpenUpdate)
    → us ≡ s.pend
    → OwnDue s (nothing_due s)
    → HasRoom s
    → Leads (widened s v) (record (due_to_new s (widened s v)) { unsent = us })
unfolding widened
leads_new s v us is own room = record {
  from = own.answered;
  last = own.last;
  low = run_up _ own.answered _ own.taken;
  issued = own.issued;
  run = subst (λ xs. IsRun own.answered own.last (ids xs)) (sym is) own.waiting;
  room = inl room;
}

led_widened : (c : Cause) (d : Due) (s : ServerState) (v : View)
    → d ≡ nothing_due s
    → OwnDue s d
    → IsLed c s d
    → IsLed (left c) (widened s v) (due_to_new s (widened s v))
led_widened c d s v t own h =
    let since : d.since ≡ s = ap (λ (x : Due). x.since) t in
    elim (cases_Bool (is_same (head_of s) (head_of (widened s v)))) [
      | inl same ↦ led_alike c s (widened s v) d (due_to_new s (widened s v)) (alike_widened s v (same_is _ _ same))
          (sym since) (rw same (sym (ap (λ (x : Due). x.unsent) t))) h
      | inr other ↦ record {
        since = subst (λ x. HasRoom x) since h.since;
        leads = λ f. leads_new s v (due_to_new s (widened s v)).unsent (rw other refl)
            (subst (λ (x : Due). OwnDue s x) t own) (subst (λ x. HasRoom x) since h.since);
        called = λ f port made x. absurd (left_uncalled c port made x);
      }
    ]

appended_parts : (s : ServerState) (e : LogEntry) → ((appended s e).id ≡ s.id) × ((appended s e).next_id ≡ s.next_id)
unfolding appended
appended_parts s e = (refl, refl)

led_appended : (c : Cause) (d : Due) (s : ServerState) (e : LogEntry)
    → IsSound s
    → Guard c s (Append e)
    → IsTurn d s (Append e)
    → OwnDue s d
    → IsLed c s d
    → IsLed (left c) (appended s e) d
led_appended c d s e h g t own l = record {
  since = l.since;
  leads = λ f. leads_appended (sym (head_appended s e) ∙ f);
  called = λ f port made x. absurd (left_uncalled c port made x);
}
  where
    low : s.id < length s.seen
    low = omega (arith, h.placed, h.counted, h.seen)

    parts : ((appended s e).id ≡ s.id) × ((appended s e).next_id ≡ s.next_id)
    parts = appended_parts s e

    own_entry : Leads s d → e.origin ≡ s.id → IsMade c s e → Leads (appended s e) d
    own_entry k mine m =
        let next = made_next c s e h m mine in
        let seen : seen_of (appended s e) (appended s e).id ≡ seen_of s s.id + 1 =
        ap (λ o. seen_of (appended s e) o) (parts.0 ∙ sym mine)
        ∙ seen_same s e (subst (λ o. o < length s.seen) (sym mine) low) ∙ ap (λ o. max (seen_of s o) e.id) mine
        ∙ omega (arith, next.0) in
        record {
          from = k.from;
          last = k.last;
          low = omega (arith, k.low, seen);
          issued = parts.1 ∙ k.issued;
          run = k.run;
          room = elim k.room [
            | inl r ↦ inl (omega (arith, r, seen, parts.1, last_appended s e))
            | inr r ↦ absurd
                (omega (arith, r, next.0, next.1))
          ];
        }

    other_entry : Leads s d → e.origin ≢ s.id → Leads (appended s e) d
    other_entry k other =
        let seen : seen_of (appended s e) (appended s e).id ≡ seen_of s s.id =
        ap (λ o. seen_of (appended s e) o) parts.0 ∙ seen_other s e s.id (λ is. other (sym is)) in
        let all = completes s d own k (t other) in
        record {
          from = k.from;
          last = k.last;
          low = omega (arith, k.low, seen);
          issued = parts.1 ∙ k.issued;
          run = k.run;
          room = inr (omega (arith, all, seen, parts.1));
        }

    leads_appended : is_head s ≡ true → Leads (appended s e) d
    leads_appended f = elim g.1 [
      | inr p ↦ absurd (not_first s p.from p.predecessor f)
      | inl m ↦ elim (cases_eq e.origin s.id)
          [ inl mine ↦ own_entry (l.leads f) mine m | inr other ↦ other_entry (l.leads f) other ]
    ]

alike_trimmed : (s : ServerState) → IsSound s → IsAlike s (trimmed s)
unfolding trimmed
alike_trimmed s h = record { id = refl; head = refl; next_id = refl; seen = refl; last = last_trimmed s h }

led_entered : (c : Cause) (d : Due) (s : ServerState) (port : ℕ) (call : Call)
    → Guard c s (Enter port call)
    → IsLed c s d
    → IsLed (left c) (entered s port call)
    (record d { unsent = d.unsent ++ record { id = s.next_id; port = port; call = call } ∷ [] })
unfolding entered
led_entered c d s port call g l = record {
  since = l.since;
  leads = λ (f : is_head s ≡ true). (let k = l.leads f in
      let all = l.called f port call g.0 in
      let two = (and_parts (nat_lt s.next_id most) (not (is_head s) || nat_lt (last_number s.store) most) g.3).1 in
      let room : nat_lt (last_number s.store) most ≡ true = rw f at two in
      record {
        from = k.from;
        last = k.last + 1;
        low = k.low;
        issued = omega (arith, k.issued);
        run = rw (ids-append d.unsent (record { id = s.next_id; port = port; call = call } ∷ []))
            (run-append (ids d.unsent) (s.next_id ∷ []) k.from k.last (k.last + 1) k.run (k.issued, refl));
        room = inl (omega (arith, all, ltb-true _ _ room));
      });
  called = λ f port made x. absurd (left_uncalled c port made x);
}

led_sent : (c : Cause) (d : Due) (s : ServerState) (j : ℕ) (body : Body)
    → MaySend c s j body
    → IsLed c s d
    → IsLed (left c) s (due_after body d)
led_sent c d s j (Op id call) g l = record {
  since = l.since;
  leads = λ f. absurd (g.1 (same_Some j s.id (sym g.0 ∙ that_is _ s.id f)));
  called = λ f port made x. absurd (left_uncalled c port made x);
}
led_sent c d s j (Forward e) g l = led_alike c s s d _ (alike_self s) refl refl l
led_sent c d s j (Ack n) g l = led_alike c s s d _ (alike_self s) refl refl l
led_sent c d s j (Query ask key) g l = led_alike c s s d _ (alike_self s) refl refl l
led_sent c d s j (Answer ask n) g l = led_alike c s s d _ (alike_self s) refl refl l

led_act : (c : Cause) (d : Due) (s : ServerState) (a : Action)
    → IsSound s
    → Guard c s a
    → IsTurn d s a
    → OwnDue s d
    → IsLed c s d
    → IsLed (left c) (act s a).state (due d s a)
unfolding act asked
led_act c d s (Widen v) h g t own l = led_widened c d s v t own l
led_act c d s (Append e) h g t own l = led_appended c d s e h g t own l
led_act c d s (Reach n) h g t own l =
    led_alike c s _ d _ (record { id = refl; head = refl; next_id = refl; seen = refl; last = refl }) refl refl l
led_act c d s (Settle e) h g t own l =
    led_alike c s _ d _ (record { id = refl; head = refl; next_id = refl; seen = refl; last = refl }) refl refl l
led_act c d s (Send j body) h g t own l = led_sent c d s j body g.0 l
led_act c d s (Finish r n) h g t own l =
    led_alike c s _ d _ (record { id = refl; head = refl; next_id = refl; seen = refl; last = refl }) refl refl l
led_act c d s Trim h g t own l = led_alike c s (trimmed s) d d (alike_trimmed s h) refl refl l
led_act c d s (Enter port call) h g t own l = led_entered c d s port call g l
led_act c d s (Ask port key) h g t own l =
    led_alike c s _ d _ (record { id = refl; head = refl; next_id = refl; seen = refl; last = refl }) refl refl l
led_act c d s (Show port key) h g t own l = led_alike c s s d d (alike_self s) refl refl l

-- a head has seen all its own ids at the end
pub does_led : (actions : List Action) (c : Cause) (d : Due) (s : ServerState)
    → AreGuarded c s actions
    → AreInTurn d s actions
    → Along (λ e t. OwnDue t e) d s actions
    → IsLed c s d
    → IsPaid (does s actions).state (due_in_the_end d s actions)
    → HasSeen (does s actions).state
unfolding does
does_led [] c d s g t own l p = λ f. completes s d own (l.leads f) (p.taken f)
does_led (a ∷ later) c d s g t own l p =
    does_led later (left c) (due d s a) (act s a).state g.2 t.1 own.1 (led_act c d s a g.0 g.1 t.0 own.0 l) p
