-- Each reply of a step closes an open call of its port and kind, or answers the input's own call.
use Rattle.std.proofs.Common.{◌≡◌, ℕ, ◌+◌, nat_lt, ◌==◌, Bool, true, false, cond, List, [], ◌∷◌}
use Rattle.std.proofs.Common.{Some, None, refl, sym, ap, ◌∙◌, arith}
use Rattle.std.specs.Bool.{beq}
use Rattle.std.proofs.lemmas.Bool.{cond_both}
use Rattle.table.specs.declared.operations.Call.{Call}
use Rattle.table.specs.declared.operations.Target.{Target}
use Rattle.table.specs.declared.operations.Target.TheVariants.{One, All}
use Rattle.table.specs.declared.operations.Reply.TheVariants.{Value}
use Rattle.table.specs.Operations.{is_update}
use Rattle.versions.specs.Stores.{last_number, value_at, is_clean}
use Rattle.node.specs.declared.servers.OpenUpdate.{OpenUpdate}
use Rattle.node.specs.declared.servers.OpenRead.{OpenRead}
use Rattle.node.specs.declared.messages.Body.TheVariants.{Query}
use Rattle.node.specs.declared.messages.Input.{Input}
use Rattle.node.specs.declared.messages.Input.TheVariants.{Call as Called, From, Gone}
use Rattle.node.specs.Servers.{ServerState, RuleResult, most, tail_of, silent}
use Rattle.node.specs.Servers.{putting, message_to, reply_at}
use Rattle.node.specs.Numbering.{entered, is_room_for_update, called, update}
use Rattle.node.specs.Reading.{asked, dirty_read, read_of}
use Rattle.node.specs.Steps.{call, taken_in, trimmed, step}
use Rattle.node.specs.Lawful.{IsCall, IsInput, HoldsEntry, IsLawful}
use Rattle.node.specs.Replies.{replies_at, open_at, opened_at, is_room_for_read}
use Rattle.node.specs.Actions.{nothing_due}
use Rattle.node.proofs.SoundLaws.{sound-entered}
use Rattle.node.proofs.Counts.{count-push, counted, none_in-message, one-reply}
use Rattle.node.proofs.DoneRules.{entered_in, clear_paid, clear_entered, rule_called}
use Rattle.node.proofs.DoneSteps.{paid_nothing, rule_taken_in}
use Rattle.node.proofs.Closing.{Closes, closes-done}

-- ---- own calls

-- the same server, and with the calls that are open then, the replies are those that were open and the input's own
pub record Answers (s : ServerState) (input : Input) (a : RuleResult) : Type 0 where
  pub id : a.state.id ≡ s.id
  pub count : a.state.count ≡ s.count
  pub calls : (port : ℕ) (reads : Bool)
      → open_at port reads a.state + replies_at port reads a.outputs
      ≡ open_at port reads s + opened_at port reads s input

-- what an own call opens, by its kind
opened-update : (s : ServerState) (p : ℕ) (made : Call) (port : ℕ) (reads : Bool)
    → is_update made.op ≡ true
    → is_room_for_update s ≡ true
    → opened_at port reads s (Called p made) ≡ cond (beq reads false) (cond (p == port) 1 0) 0
opened-update s p made port reads is room = rw (is, room) (counted (p == port) (beq reads false))

opened-no_update : (s : ServerState) (p : ℕ) (made : Call) (port : ℕ) (reads : Bool)
    → is_update made.op ≡ true
    → is_room_for_update s ≡ false
    → opened_at port reads s (Called p made) ≡ 0
opened-no_update s p made port reads is full = rw (is, full) refl

opened-read : (s : ServerState) (p : ℕ) (made : Call) (port : ℕ) (reads : Bool)
    → is_update made.op ≡ false
    → is_room_for_read s made.target ≡ true
    → opened_at port reads s (Called p made) ≡ cond (beq reads true) (cond (p == port) 1 0) 0
opened-read s p made port reads is room = rw (is, room) (counted (p == port) (beq reads true))

opened-no_read : (s : ServerState) (p : ℕ) (made : Call) (port : ℕ) (reads : Bool)
    → is_update made.op ≡ false
    → is_room_for_read s made.target ≡ false
    → opened_at port reads s (Called p made) ≡ 0
opened-no_read s p made port reads is full = rw (is, full) refl

-- ---- updates

open-entered : (s : ServerState) (p : ℕ) (made : Call) (port : ℕ) (reads : Bool)
    → open_at port reads (entered s p made) ≡ open_at port reads s + cond (beq reads false) (cond (p == port) 1 0) 0
unfolding entered
open-entered s p made port true = omega arith
open-entered s p made port false =
    count-push (λ (u : OpenUpdate). u.port == port) s.pend (record { id = s.next_id; port = p; call = made })

place-entered : (s : ServerState) (p : ℕ) (made : Call)
    → ((entered s p made).id ≡ s.id) × ((entered s p made).count ≡ s.count)
unfolding entered
place-entered s p made = (refl, refl)

closes-called : (s : ServerState) (port : ℕ) (made : Call)
    → IsCall made
    → is_update made.op ≡ true
    → IsLawful s
    → Closes (entered s port made) (called (entered s port made) s.next_id made)
closes-called s port made fit is h =
    let u : OpenUpdate = record { id = s.next_id; port = port; call = made } in
    closes-done None (entered s port made) _ (λ p x e. let none = e in cc)
    (rule_called None (entered s port made) (record (nothing_due s) { unsent = u ∷ [] }) s.next_id port made
    (sound-entered s port made fit is h.sound)
    (clear_entered s (nothing_due s) port made (u ∷ []) (clear_paid s (nothing_due s) (paid_nothing s h.settled))) fit
    is (entered_in s port made) refl).done

answers-entered : (s : ServerState) (p : ℕ) (made : Call) (a : RuleResult)
    → is_update made.op ≡ true
    → is_room_for_update s ≡ true
    → Closes (entered s p made) a
    → Answers s (Called p made) a
answers-entered s p made a is room g = record {
  id = g.id ∙ (place-entered s p made).0;
  count = g.count ∙ (place-entered s p made).1;
  calls = λ port reads. g.calls port reads ∙ open-entered s p made port reads
      ∙ ap (λ n. open_at port reads s + n) (sym (opened-update s p made port reads is room));
}

-- nothing happens, and nothing is opened
answers-silent : (s : ServerState) (input : Input)
    → ((port : ℕ) (reads : Bool) → opened_at port reads s input ≡ 0)
    → Answers s input (silent s)
answers-silent s input none =
    record { id = refl; count = refl; calls = λ port reads. ap (λ n. open_at port reads s + n) (sym (none port reads)) }

answers-update : (s : ServerState) (p : ℕ) (made : Call)
    → IsCall made
    → is_update made.op ≡ true
    → IsLawful s
    → Answers s (Called p made) (update s p made)
answers-update s p made fit is h =
    cond_both (is_room_for_update s) _ _ (λ (a : RuleResult). Answers s (Called p made) a)
    (λ t. answers-entered s p made _ is t (closes-called s p made fit is h))
    (λ f. answers-silent s (Called p made) (λ port reads. opened-no_update s p made port reads is f))

-- ---- reads

answers-clean : (s : ServerState) (p : ℕ) (made : Call) (key : List ℕ)
    → made.target ≡ One key
    → is_update made.op ≡ false
    → is_clean s.store key ≡ true
    → Answers s (Called p made) (putting s (reply_at p (Value (value_at s.store key (last_number s.store)))))
answers-clean s p made key on is clean =
    let room : is_room_for_read s made.target ≡ true = rw (on, clean) refl in
    record {
      id = refl;
      count = refl;
      calls = λ port reads. ap (λ n. open_at port reads s + n)
          (one-reply port reads p (Value (value_at s.store key (last_number s.store)))
          ∙ sym (opened-read s p made port reads is room));
    }

open-asked : (s : ServerState) (p : ℕ) (key : List ℕ) (port : ℕ) (reads : Bool)
    → open_at port reads (asked s p key) ≡ open_at port reads s + cond (beq reads true) (cond (p == port) 1 0) 0
unfolding asked
open-asked s p key port true =
    count-push (λ (r : OpenRead). r.port == port) s.asks
    (record { ask = s.next_ask; port = p; key = key; lower_bound = s.store.acked })
open-asked s p key port false = omega arith

place-asked : (s : ServerState) (p : ℕ) (key : List ℕ) → ((asked s p key).id ≡ s.id) × ((asked s p key).count ≡ s.count)
unfolding asked
place-asked s p key = (refl, refl)

answers-asked : (s : ServerState) (p : ℕ) (made : Call) (key : List ℕ)
    → is_update made.op ≡ false
    → is_room_for_read s made.target ≡ true
    → Answers s (Called p made) (putting (asked s p key) (message_to s (tail_of s) (Query s.next_ask key)))
answers-asked s p made key is room = record {
  id = (place-asked s p key).0;
  count = (place-asked s p key).1;
  calls = λ port reads. omega (
    arith,
    open-asked s p key port reads,
    none_in-message port reads s (tail_of s) (Query s.next_ask key),
    opened-read s p made port reads is room,
  );
}

answers-dirty : (s : ServerState) (p : ℕ) (made : Call) (key : List ℕ)
    → made.target ≡ One key
    → is_update made.op ≡ false
    → is_clean s.store key ≡ false
    → Answers s (Called p made) (dirty_read s p key)
unfolding dirty_read
answers-dirty s p made key on is dirty =
    cond_both (nat_lt s.next_ask most) _ _ (λ (a : RuleResult). Answers s (Called p made) a)
    (λ t. answers-asked s p made key is (rw (on, dirty, t) refl))
    (λ f. answers-silent s (Called p made)
    (λ port reads. opened-no_read s p made port reads is (rw (on, dirty, f) refl)))

answers-read_of : (s : ServerState) (p : ℕ) (made : Call) (target : Target)
    → made.target ≡ target
    → is_update made.op ≡ false
    → Answers s (Called p made) (read_of s p target)
answers-read_of s p made (One key) on is =
    cond_both (is_clean s.store key) _ _ (λ (a : RuleResult). Answers s (Called p made) a)
    (λ t. answers-clean s p made key on is t)
    (λ f. answers-dirty s p made key on is f)
answers-read_of s p made All on is =
    answers-silent s (Called p made) (λ port reads. opened-no_read s p made port reads is (rw on refl))

-- ---- steps

answers-call : (s : ServerState) (p : ℕ) (made : Call)
    → IsCall made
    → IsLawful s
    → Answers s (Called p made) (call s p made)
answers-call s p made fit h = cond_both (is_update made.op) _ _ (λ (a : RuleResult). Answers s (Called p made) a)
    (λ t. answers-update s p made fit t h)
    (λ f. answers-read_of s p made made.target refl f)

-- an input that is no call opens none
answers-closed : (s : ServerState) (input : Input) (a : RuleResult)
    → ((port : ℕ) (reads : Bool) → opened_at port reads s input ≡ 0)
    → Closes s a
    → Answers s input a
answers-closed s input a none g =
    record { id = g.id; count = g.count; calls = λ port reads. omega (arith, g.calls port reads, none port reads) }

answers-taken_in : (s : ServerState) (input : Input)
    → IsInput input
    → HoldsEntry input
    → IsLawful s
    → Answers s input (taken_in s input)
answers-taken_in s (Called p made) fit valid h = answers-call s p made fit h
answers-taken_in s (From i peer) fit valid h =
    answers-closed s (From i peer) _ (λ port reads. refl)
    (closes-done (Some (From i peer)) s _ (λ p made e. let no = e in cc)
    (rule_taken_in s (From i peer) h.sound h.settled fit valid).done)
answers-taken_in s (Gone j) fit valid h =
    answers-closed s (Gone j) _ (λ port reads. refl)
    (closes-done (Some (Gone j)) s _ (λ p made e. let no = e in cc) (rule_taken_in s (Gone j) h.sound h.settled fit valid).done)

trimmed_answers : (s : ServerState) (input : Input) (a : RuleResult)
    → Answers s input a
    → Answers s input (record { state = trimmed a.state; outputs = a.outputs })
unfolding trimmed
trimmed_answers s input a h = record { id = h.id; count = h.count; calls = h.calls }

-- what a step of a lawful server closes and answers
pub answers-step : (s : ServerState) (input : Input)
    → IsInput input
    → HoldsEntry input
    → IsLawful s
    → Answers s input (step s input)
answers-step s input fit valid h = trimmed_answers s input (taken_in s input) (answers-taken_in s input fit valid h)
