-- What every server keeps between steps: joins, messages and inputs are lists of actions, each of which keeps a server
-- sound, and after which nothing is left to do.
use Rattle.std.proofs.Common.{◌≡◌, ℕ, ◌+◌, ◌<◌, ◌≤◌, ◌==◌, ◌&&◌, true, false, Some, None, inl, refl, sym}
use Rattle.std.proofs.Common.{◌∙◌, arith, subst}
use Rattle.std.specs.Prelude.{Result, Ok, OnOk}
use Rattle.std.proofs.lemmas.Bool.{cond_both, and_parts, eqb-true, both_ways}
use Rattle.std.specs.FinMap.{get-empty}
use Rattle.table.specs.Keys.{key_cmp}
use Rattle.table.specs.Operations.{is_update}
use Rattle.table.specs.declared.operations.Call.{Call}
use Rattle.versions.specs.Entries.{LogEntry, IsEntry}
use Rattle.versions.specs.Stores.{last_number}
use Rattle.node.specs.declared.messages.Body.{Body}
use Rattle.node.specs.declared.messages.Body.TheVariants.{Op, Forward, Ack, Query, Answer}
use Rattle.node.specs.declared.messages.Peer.{Peer}
use Rattle.node.specs.declared.messages.Input.{Input}
use Rattle.node.specs.declared.messages.Input.TheVariants.{From}
use Rattle.node.specs.Views.{View, has, is_below, is_that}
use Rattle.node.specs.Servers.{ServerState, opening, RuleResult, is_head, is_tail, predecessor_of}
use Rattle.node.specs.Numbering.{appended, passed_on, entry_of, is_taken, take_update, entered, is_room_for_update}
use Rattle.node.specs.Numbering.{called, update}
use Rattle.node.specs.Joining.{join}
use Rattle.node.specs.Steps.{receive, received, taken_in, least_open, trimmed, step}
use Rattle.node.specs.Lawful.{IsCall, IsBody, IsInput, HasEntry, HoldsEntry, IsSound, IsSettled, IsLawful}
use Rattle.node.specs.Actions.{Cause, Due, IsDone, IsPaid, nothing_due}
use Rattle.node.proofs.ViewLaws.{below-empty, nowhere}
use Rattle.node.proofs.SoundLaws.{sound-appended, sound-entered, entry_of-valid}
pub use Rattle.node.proofs.Neighbours.{same_is}
use Rattle.node.proofs.DoneActions.{sound_after}
use Rattle.node.proofs.DoneRules.{nothing_in, clear_paid, rule_passed, rule_receive_ack}
use Rattle.node.proofs.DoneJoins.{rule_join}
use Rattle.node.proofs.DoneSteps.{paid_nothing, rule_receive_answer, rule_taken_in, step_whole}

-- what holds between the rules of a step, and after all but the floor
pub record IsGood (s : ServerState) : Type 0 where
  pub sound : IsSound s
  pub settled : IsSettled s

-- a list of actions after which nothing is left to do leaves a good server
good-done : (c : Cause) (s : ServerState) (a : RuleResult) (e : Due) → IsDone c s a → IsPaid a.state e → IsGood a.state
good-done c s a e d p = record { sound = sound_after c s a d; settled = p.last }

-- a message that brings no news
abbrev plain : Body → Peer
plain body = record { view = 0; body = body }

no_news : (s : ServerState) (body : Body) (k : ℕ) → has (plain body).view k ≡ true → has s.view k ≡ true
no_news s body k h = absurd (both_ways _ (nowhere k) h)

-- ---- own calls

-- an own call that enters leaves a good server
pub good-entered : (s : ServerState) (port : ℕ) (made : Call)
    → IsCall made
    → is_update made.op ≡ true
    → IsGood s
    → IsGood (entered s port made)
unfolding entered
good-entered s port made fit is g = record { sound = sound-entered s port made fit is g.sound; settled = g.settled }

-- an own update call for which there is room enters, and is taken or sent
pub updated : (s : ServerState) (port : ℕ) (made : Call)
    → is_room_for_update s ≡ true
    → update s port made ≡ called (entered s port made) s.next_id made
updated s port made room = rw room refl

-- ---- messages

-- an entry that is appended and passed on
good-passed : (s : ServerState) (e : LogEntry)
    → IsEntry e
    → e.number ≡ last_number s.store + 1
    → IsGood s
    → IsGood (passed_on (appended s e) e).state
good-passed s e valid next g =
    let r = rule_passed None s (nothing_due s) e (sound-appended s e valid next g.sound)
    (clear_paid s (nothing_due s) (paid_nothing s g.settled)) next (λ _. refl) (λ _ u i. absurd (nothing_in u i)) in
    good-done None (appended s e) _ _ r.done r.after

good-take_update : (s : ServerState) (origin id : ℕ) (made : Call)
    → origin < 16
    → IsCall made
    → is_update made.op ≡ true
    → IsGood s
    → IsGood (take_update s origin id made).state
unfolding take_update
good-take_update s origin id made low fit is g =
    cond_both (is_taken s origin id) _ _ (λ (a : RuleResult). IsGood a.state)
    (λ t. good-passed s (entry_of s origin id made) (entry_of-valid s origin id made low fit is t) refl g)
    (λ f. g)

good-receive : (s : ServerState) (i : ℕ) (body : Body)
    → i < 16
    → IsBody body
    → HasEntry body
    → IsGood s
    → IsGood (receive s i body).state
good-receive s i (Op id made) low fit valid g =
    cond_both (is_head s && is_update made.op) _ _ (λ (a : RuleResult). IsGood a.state)
    (λ t. good-take_update s i id made low fit (and_parts (is_head s) (is_update made.op) t).1 g)
    (λ f. g)
good-receive s i (Forward e) low fit valid g =
    cond_both (is_that (predecessor_of s) i && e.number == last_number s.store + 1) _ _ (λ (a : RuleResult). IsGood a.state)
    (λ t. good-passed s e valid
    (eqb-true _ _ (and_parts (is_that (predecessor_of s) i) (e.number == last_number s.store + 1) t).1) g)
    (λ f. g)
good-receive s i (Ack n) low fit valid g =
    let r = rule_receive_ack s (nothing_due s) i (plain (Ack n)) g.sound (paid_nothing s g.settled) n refl
    (no_news s (Ack n)) in
    good-done (Some (From i (plain (Ack n)))) s _ _ r.done r.after.0
good-receive s i (Query ask key) low fit valid g =
    cond_both (is_tail s) _ _ (λ (a : RuleResult). IsGood a.state) (λ t. g) (λ f. g)
good-receive s i (Answer ask n) low fit valid g =
    let r = rule_receive_answer s (nothing_due s) i (plain (Answer ask n)) g.sound (paid_nothing s g.settled) ask n
    refl in
    good-done (Some (From i (plain (Answer ask n)))) s _ _ r.done r.after.0

-- a message of any server, be it of the chain or not
pub good-received : (s : ServerState) (i : ℕ) (body : Body)
    → i < 16
    → IsBody body
    → HasEntry body
    → IsGood s
    → IsGood (received s i body).state
good-received s i body low fit valid g =
    cond_both (has s.view i) _ _ (λ (a : RuleResult). IsGood a.state) (λ t. g)
    (λ f. good-receive s i body low fit valid g)

-- ---- joins and inputs

-- a view that is joined
pub good-join : (s : ServerState) (v : View)
    → is_below v s.count ≡ true
    → has v s.id ≡ false
    → IsGood s
    → IsGood (join s v).state
good-join s v below out g =
    let m : Peer = record { view = v; body = Ack 0 } in
    let r = rule_join (Some (From 0 m)) s v g.sound (paid_nothing s g.settled) (inl (0, m, refl, refl)) out below in
    good-done (Some (From 0 m)) s _ _ r.done r.after.paid

-- whatever comes in
pub good-taken_in : (s : ServerState) (input : Input)
    → IsInput input
    → HoldsEntry input
    → IsGood s
    → IsGood (taken_in s input).state
good-taken_in s input fit valid g =
    let r = rule_taken_in s input g.sound g.settled fit valid in good-done (Some input) s _ _ r.done r.after.0

-- ---- steps

floored-trimmed : (s : ServerState)
    → (trimmed s).store.floor ≡ least_open (trimmed s).store.acked (trimmed s).asks
unfolding trimmed
floored-trimmed s = refl

-- a step keeps a server lawful
pub lawful-step : (s : ServerState) (input : Input)
    → IsInput input
    → HoldsEntry input
    → IsLawful s
    → IsLawful (step s input).state
lawful-step s input fit valid h =
    let w = step_whole s input h fit valid in
    record {
      sound = sound_after (Some input) s _ w.done;
      settled = w.paid.last;
      floored = floored-trimmed (taken_in s input).state;
    }

-- a server before any input is lawful
pub lawful-opening : (id count : ℕ) → id < count → count ≤ 16 → IsLawful (opening id count)
lawful-opening id count placed counted = record {
  sound = record {
    placed = placed;
    counted = counted;
    outside = nowhere id;
    within = below-empty count;
    store = record { log = tt; floor_acked = omega arith; acked_held = omega arith };
    based = λ key item e. (let none = sym (get-empty key_cmp key) ∙ e in absurd cc);
    seen = refl;
    updates = omega arith;
    reads = (omega arith, omega arith);
  };
  settled = λ t. (refl, refl);
  floored = refl;
}

-- what an answer tells if it is Ok, of one that is Ok
pub when_ok : {T E : Type 0} (r : Result T E) (t : T) (P : Type 0)
    → r ≡ Ok t
    → OnOk r P
    → P
when_ok r t P is h = subst (λ s. OnOk s P) is h
