-- What one replayed update does at each server of a chain, a step at a time.
use Rattle.std.proofs.Common.{◌≡◌, ◌≢◌, ℕ, zero, suc, ◌+◌, ◌-◌, ◌<◌, max, Bool, true, false, cond, List, [], ◌∷◌, ◌++◌}
use Rattle.std.proofs.Common.{take, drop, replicate, None, Some, Option, refl, arith, ap, sym, ◌∙◌, add-zero}
use Rattle.std.specs.Prelude.{not, ◌&&◌, ◌||◌, ◌==◌, nat_lt, nat_le}
use Rattle.std.proofs.lemmas.Bool.{eq-eqb, ne_eqb, lt-ltb, le-leb, and_from}
use Rattle.table.specs.Operations.{is_update}
use Rattle.table.specs.Decisions.{decision}
use Rattle.table.specs.Items.{Item}
use Rattle.table.specs.Plain.{PlainTable, item_of, changed, apply}
use Rattle.table.specs.declared.operations.Call.{Call}
use Rattle.table.specs.declared.operations.Target.{Target}
use Rattle.table.specs.declared.operations.Target.TheVariants.{One, All}
use Rattle.versions.specs.Entries.{LogEntry}
use Rattle.versions.specs.Stores.{last_number, items_after}
use Rattle.node.specs.declared.servers.OpenUpdate.{OpenUpdate}
use Rattle.node.specs.declared.messages.Body.{Body}
use Rattle.node.specs.declared.messages.Body.TheVariants.{Op, Forward, Ack}
use Rattle.node.specs.declared.messages.Input.TheVariants.{Call as Called, From}
use Rattle.node.specs.declared.messages.Output.{Output}
use Rattle.node.specs.declared.messages.Output.TheVariants.{To, Reply as Replied}
use Rattle.node.specs.Views.{has, union, adds, head, tail, predecessor, successor, is_that}
use Rattle.node.specs.Servers.{ServerState, RuleResult, most, opening, is_head, silent, and_then, message_to}
use Rattle.node.specs.Servers.{successor_of, head_of, putting}
use Rattle.node.specs.Numbering.{left_open, replies, replied, open_update, without_update, newly_acked, risen, rise}
use Rattle.node.specs.Numbering.{appended, passed_on, newest, entry_of, take_update, entered, is_room_for_update}
use Rattle.node.specs.Numbering.{called, update, receive_ack}
use Rattle.node.specs.Joining.{join}
use Rattle.node.specs.Reading.{read_of}
use Rattle.node.specs.Steps.{receive, received, is_heard, from_peer, taken_in, trimmed, step}
use Rattle.node.proofs.ViewLaws.{nowhere, below-empty}
use Rattle.node.proofs.Neighbours.{head_from, following_from, predecessor_from, is_itself}
use Rattle.interleavings.specs.Restored.{restored}

-- ---- the update

-- the entry that server 0 makes of it
abbrev pub entry : PlainTable → Call → LogEntry
entry t made =
    record {
      number = t.count + 1;
      origin = 0;
      id = t.count + 1;
      target = made.target;
      reply = (decision (item_of t.items made.target) made.op (t.count + 1)).0;
      change = (decision (item_of t.items made.target) made.op (t.count + 1)).1;
    }

-- the table after it
abbrev pub table_with : PlainTable → Call → PlainTable
table_with t made = record { items = changed t.items made.target (entry t made).change; count = t.count + 1 }

-- what the plain table makes of an update
pub applied : (t : PlainTable) (made : Call)
    → is_update made.op ≡ true
    → (apply t made.target made.op).1 ≡ table_with t made
applied t made is =
    ap (λ b. record { items = changed t.items made.target (entry t made).change; count = cond b (t.count + 1) t.count })
    is

-- a server that has the entry, and doesn't know it to be committed
abbrev pub noted : ℕ → ℕ → PlainTable → List OpenUpdate → Call → ServerState
noted id count t waiting made =
    record (opening id count) {
      store = record { base = t.items; floor = t.count; rest = entry t made ∷ []; acked = t.count };
      seen = (t.count + 1) ∷ replicate 15 0;
      pend = waiting;
      next_id = cond (id == 0) (t.count + 1 + 1) 1;
    }

-- the update waits at server 0
abbrev pub waits_at : ℕ → PlainTable → Call → OpenUpdate
waits_at port t made = record { id = t.count + 1; port = port; call = made }

-- ---- parts

take_none : {X : Type 0} (n : ℕ) → ◌≡◌ {A = List X} (take n []) []
take_none zero = refl
take_none (suc n) = refl

newest_is : (t : PlainTable) (target : Target)
    → newest (record { base = t.items; floor = t.count; rest = []; acked = t.count }) target ≡ item_of t.items target
newest_is t (One key) = ap (λ es. item_of (items_after t.items es) (One key)) (take_none (t.count + 0 - t.count))
newest_is t All = refl

entry_is : (count port : ℕ) (t : PlainTable) (made : Call) (id : ℕ)
    → id ≡ t.count + 1
    → entry_of (entered (restored 0 count t) port made) 0 id made ≡ entry t made
unfolding entered
entry_is count port t made id is =
    ap (λ (i : Option Item).
    (let decided = decision i made.op (t.count + 0 + 1) in
    record {
      number = t.count + 0 + 1;
      origin = 0;
      id = id;
      target = made.target;
      reply = decided.0;
      change = decided.1;
    }))
    (newest_is t made.target)
    ∙ ap (λ n. (let decided = decision (item_of t.items made.target) made.op (n + 1) in
    record { number = n + 1; origin = 0; id = id; target = made.target; reply = decided.0; change = decided.1 }))
    (add-zero t.count)
    ∙ ap (λ n. record (entry t made) { id = n }) is

-- ---- neighbours, if nobody has failed

first_is : (count : ℕ) → 0 < count → head 0 count ≡ Some 0
first_is count l = head_from 0 count 0 (record { within = l; out = nowhere 0; below = λ x less. absurd (omega arith) })

last_is : (count : ℕ) → 0 < count → tail 0 count ≡ Some (count - 1)
last_is count l = predecessor_from 0 count (count - 1) (record {
  below = omega arith;
  out = nowhere (count - 1);
  between = λ x a less. absurd (omega arith);
})

before_is : (id : ℕ) → predecessor 0 (suc id) ≡ Some id
before_is id = predecessor_from 0 (suc id) id (record {
  below = omega arith;
  out = nowhere id;
  between = λ x a less. absurd (omega arith);
})

none_before : predecessor 0 0 ≡ None
unfolding predecessor
none_before = refl

after_is : (count id : ℕ) → suc id < count → successor 0 count id ≡ Some (suc id)
after_is count id l = following_from 0 count id (suc id) (record {
  above = omega arith;
  within = l;
  out = nowhere (suc id);
  between = λ x a less. absurd (omega arith);
})

at_head : (count : ℕ) → 0 < count → is_that (head 0 count) 0 ≡ true
at_head count l = is_itself (head 0 count) 0 (first_is count l)

at_tail : (count id : ℕ) → suc id ≡ count → is_that (tail 0 count) id ≡ true
at_tail count id e = is_itself (tail 0 count) id (last_is count (omega arith) ∙ ap Some (let f : count - 1 ≡ id = omega
    arith in f))

before_tail : (count id : ℕ) → suc id < count → is_that (tail 0 count) id ≡ false
before_tail count id l =
    ap (λ o. is_that o id) (last_is count (omega arith))
    ∙ ne_eqb (count - 1) id (λ e. omega (arith, e))

-- ---- messages that bring no view

none_added : adds 0 0 ≡ false
unfolding adds union
none_added = refl

plain_join : (s : ServerState) → s.view ≡ 0 → join s 0 ≡ silent s
plain_join s e = rw (ap (λ v. adds v 0) e ∙ none_added) refl

heard : (s : ServerState) (i : ℕ) → i < s.count → i ≢ s.id → is_heard s i 0 ≡ true
heard s i l other = rw (lt-ltb i s.count l, ne_eqb i s.id other, below-empty s.count, nowhere s.id) refl

-- its body is received
pub brought : (s : ServerState) (i : ℕ) (body : Body)
    → s.view ≡ 0
    → i < s.count
    → i ≢ s.id
    → from_peer s i (record { view = 0; body = body }) ≡ receive s i body
brought s i body e l other =
    ap (λ b. cond b (and_then (join s 0) (λ t. received t i body)) (silent s)) (heard s i l other)
    ∙ ap (λ (a : RuleResult). and_then a (λ t. received t i body)) (plain_join s e)
    ∙ ap (λ b. cond b (silent s) (receive s i body)) (ap (λ v. has v i) e ∙ nowhere i)

-- ---- floors

-- a server that doesn't know the entry to be committed keeps its floor
trimmed_noted : (id count : ℕ) (t : PlainTable) (waiting : List OpenUpdate) (made : Call)
    → trimmed (noted id count t waiting made) ≡ noted id count t waiting made
unfolding trimmed
trimmed_noted id count t waiting made =
    let none : t.count - t.count ≡ 0 = omega arith in
    ap (λ n. record (noted id count t waiting made) {
      store = record {
        base = items_after t.items (take n (entry t made ∷ []));
        floor = t.count;
        rest = drop n (entry t made ∷ []);
        acked = t.count;
      };
    }) none

newly_noted : (id count : ℕ) (t : PlainTable) (waiting : List OpenUpdate) (made : Call)
    → newly_acked (noted id count t waiting made) (t.count + 1) ≡ entry t made ∷ []
newly_noted id count t waiting made =
    let none : t.count - t.count ≡ 0 = omega arith in
    let one : t.count + 1 - t.count ≡ 1 = omega arith in
    ap (λ n. take n (drop (t.count - t.count) (entry t made ∷ []))) one ∙ ap (λ n. take 1 (drop n (entry t made ∷ [])))
    none

-- a server that rises to it folds it
trimmed_risen : (id count : ℕ) (t : PlainTable) (waiting : List OpenUpdate) (made : Call)
    → trimmed (risen (noted id count t waiting made) (t.count + 1))
    ≡ record (restored id count (table_with t made)) { pend = left_open id waiting (entry t made ∷ []) }
unfolding trimmed risen
trimmed_risen id count t waiting made =
    let one : t.count + 1 - t.count ≡ 1 = omega arith in
    ap (λ n. record (noted id count t (left_open id waiting
    (newly_acked (noted id count t waiting made) (t.count + 1))) made) {
      store = record {
        base = items_after t.items (take n (entry t made ∷ []));
        floor = t.count + 1;
        rest = drop n (entry t made ∷ []);
        acked = t.count + 1;
      };
    }) one
    ∙ ap (λ es. record (restored id count (table_with t made)) { pend = left_open id waiting es })
    (newly_noted id count t waiting made)

-- nothing waits at a server but the first one,
none_left : (id : ℕ) (e : LogEntry) → left_open id [] (e ∷ []) ≡ []
unfolding left_open
none_left id e = both (e.origin == id)
  where
    both : (b : Bool) → ◌≡◌ {A = List OpenUpdate} (cond b (without_update [] e.id) []) []
    both true = refl
    both false = refl

none_told : (id : ℕ) (e : LogEntry) → replies id [] (e ∷ []) ≡ []
unfolding replies
none_told id e = both (e.origin == id)
  where
    both : (b : Bool) → ◌≡◌ {A = List Output} (cond b (replied e.reply (open_update [] e.id)) [] ++ []) []
    both true = refl
    both false = refl

abbrev cond_of : OpenUpdate → Bool → List OpenUpdate
cond_of u b = cond b [] (u ∷ [])

-- and the update that waits there is answered
first_left : (port : ℕ) (t : PlainTable) (made : Call)
    → left_open 0 (waits_at port t made ∷ []) (entry t made ∷ []) ≡ []
unfolding left_open
first_left port t made =
    ap (cond_of (waits_at port t made)) (eq-eqb (t.count + 1) (t.count + 1) refl)

first_told : (port : ℕ) (t : PlainTable) (made : Call)
    → replies 0 (waits_at port t made ∷ []) (entry t made ∷ []) ≡ Replied port (entry t made).reply ∷ []
unfolding replies
first_told port t made =
    ap (λ b. replied (entry t made).reply (cond b (Some (waits_at port t made)) None) ++ [])
    (eq-eqb (t.count + 1) (t.count + 1) refl)

-- ---- rises

abbrev trimmed_result : RuleResult → RuleResult
trimmed_result a = record { state = trimmed a.state; outputs = a.outputs }

-- a server that has the entry rises to it,
risen_by : (id count : ℕ) (t : PlainTable) (waiting : List OpenUpdate) (made : Call) (outputs : List Output)
    → replies id waiting (entry t made ∷ []) ≡ outputs
    → left_open id waiting (entry t made ∷ []) ≡ []
    → (os : List Output)
    → message_to (noted id count t waiting made) (predecessor 0 id) (Ack (t.count + 1)) ≡ os
    → (a : RuleResult)
    → a ≡ rise (noted id count t waiting made) (t.count + 1)
    → trimmed_result a ≡ record { state = restored id count (table_with t made); outputs = outputs ++ os }
risen_by id count t waiting made outputs told left os on a is =
    ap trimmed_result is
    ∙ ap (λ s. record {
      state = s;
      outputs = replies id waiting (newly_acked (noted id count t waiting made) (t.count + 1))
          ++ message_to (noted id count t waiting made) (predecessor 0 id) (Ack (t.count + 1));
    }) (trimmed_risen id count t waiting made ∙ ap (λ us. record (restored id count (table_with t made)) { pend = us })
    left)
    ∙ ap (λ es. record {
      state = restored id count (table_with t made);
      outputs = replies id waiting es
          ++ message_to (noted id count t waiting made) (predecessor 0 id) (Ack (t.count + 1));
    }) (newly_noted id count t waiting made)
    ∙ ap (λ rs. record {
      state = restored id count (table_with t made);
      outputs = rs ++ message_to (noted id count t waiting made) (predecessor 0 id) (Ack (t.count + 1));
    }) told
    ∙ ap (λ ms. record { state = restored id count (table_with t made); outputs = outputs ++ ms }) on

-- what a server tells its predecessor
to_predecessor : (id count : ℕ) (t : PlainTable) (waiting : List OpenUpdate) (made : Call)
    → message_to (noted (suc id) count t waiting made) (predecessor 0 (suc id)) (Ack (t.count + 1))
    ≡ To id (record { view = 0; body = Ack (t.count + 1) }) ∷ []
to_predecessor id count t waiting made =
    ap (λ o. message_to (noted (suc id) count t waiting made) o (Ack (t.count + 1))) (before_is id)

to_none : (count : ℕ) (t : PlainTable) (waiting : List OpenUpdate) (made : Call)
    → message_to (noted 0 count t waiting made) (predecessor 0 0) (Ack (t.count + 1)) ≡ []
to_none count t waiting made = ap (λ o. message_to (noted 0 count t waiting made) o (Ack (t.count + 1))) none_before

-- an acknowledgement of the entry is received
ack_received : (id count : ℕ) (t : PlainTable) (waiting : List OpenUpdate) (made : Call)
    → suc id < count
    → receive_ack (noted id count t waiting made) (suc id) (t.count + 1)
    ≡ rise (noted id count t waiting made) (t.count + 1)
ack_received id count t waiting made l =
    let s = noted id count t waiting made in
    ap (λ b. cond (b && nat_lt t.count (t.count + 1) && nat_le (t.count + 1) (t.count + 1)) (rise s (t.count + 1))
    (silent s))
    (is_itself (successor 0 count id) (suc id) (after_is count id l))
    ∙ ap (λ b. cond (b && nat_le (t.count + 1) (t.count + 1)) (rise s (t.count + 1)) (silent s))
    (lt-ltb t.count (t.count + 1) (omega arith))
    ∙ ap (λ b. cond b (rise s (t.count + 1)) (silent s)) (le-leb (t.count + 1) (t.count + 1) (omega arith))

-- ---- a server takes the entry

greater : (n : ℕ) → max n (n + 1) ≡ n + 1
greater n = omega arith

noted_first : (count port : ℕ) (t : PlainTable) (made : Call)
    → appended (entered (restored 0 count t) port made) (entry t made) ≡ noted 0 count t (waits_at port t made ∷ [])
    made
unfolding appended entered
noted_first count port t made =
    ap (λ n. record (noted 0 count t (waits_at port t made ∷ []) made) { seen = n ∷ replicate 15 0 }) (greater t.count)

noted_after : (id count : ℕ) (t : PlainTable) (made : Call)
    → id ≢ 0
    → appended (restored id count t) (entry t made) ≡ noted id count t [] made
unfolding appended
noted_after id count t made other =
    ap (λ n. record (noted id count t [] made) { seen = n ∷ replicate 15 0; next_id = cond (id == 0) (t.count + 1) 1 })
    (greater t.count)
    ∙ ap (λ b. record (noted id count t [] made) { next_id = cond b (t.count + 1) 1 }) (ne_eqb id 0 other)
    ∙ sym (ap (λ b. record (noted id count t [] made) { next_id = cond b (t.count + 1 + 1) 1 }) (ne_eqb id 0 other))

or_true : (b : Bool) → (b || true) ≡ true
or_true true = refl
or_true false = refl

room : (count : ℕ) (t : PlainTable) → t.count + 1 < most → is_room_for_update (restored 0 count t) ≡ true
room count t few =
    and_from (nat_lt (t.count + 1) most) (not (is_head (restored 0 count t)) || nat_lt (t.count + 0) most)
    (lt-ltb (t.count + 1) most few)
    (ap (λ b. not (is_head (restored 0 count t)) || b) (lt-ltb (t.count + 0) most (omega (arith, few)))
    ∙ or_true (not (is_head (restored 0 count t))))

is_next : (t : PlainTable) → t.count + 1 < most → ((t.count + 1 == t.count + 1) && nat_lt (t.count + 0) most) ≡ true
is_next t few =
    and_from (t.count + 1 == t.count + 1) (nat_lt (t.count + 0) most) (eq-eqb (t.count + 1) (t.count + 1) refl)
    (lt-ltb (t.count + 0) most (omega (arith, few)))

-- server 0 takes an update of its own
first_called : (count port : ℕ) (t : PlainTable) (made : Call)
    → 0 < count
    → is_update made.op ≡ true
    → t.count + 1 < most
    → taken_in (restored 0 count t) (Called port made)
    ≡ passed_on (noted 0 count t (waits_at port t made ∷ []) made) (entry t made)
unfolding entered take_update
first_called count port t made l is few =
    let s = restored 0 count t in
    let u = entered s port made in
    let e = entry_of u 0 (t.count + 1) made in
    ap (λ b. cond b (update s port made) (read_of s port made.target)) is
    ∙ ap (λ b. cond b (called u (t.count + 1) made) (silent s)) (room count t few)
    ∙ ap (λ b. cond b (take_update u 0 (t.count + 1) made)
    (putting u (message_to u (head_of u) (Op (t.count + 1) made)))) (at_head count l)
    ∙ ap (λ b. cond b (passed_on (appended u e) e) (silent u)) (is_next t few)
    ∙ ap (λ x. passed_on (appended u x) x) (entry_is count port t made (t.count + 1) refl)
    ∙ ap (λ x. passed_on x (entry t made)) (noted_first count port t made)

-- any other one takes it from the one before
next_received : (id count : ℕ) (t : PlainTable) (made : Call)
    → suc id < count
    → taken_in (restored (suc id) count t) (From id (record { view = 0; body = Forward (entry t made) }))
    ≡ passed_on (noted (suc id) count t [] made) (entry t made)
next_received id count t made l =
    let s = restored (suc id) count t in
    let e = entry t made in
    brought s id (Forward e) refl (omega (arith, l)) (λ same. omega (arith, same))
    ∙ ap (λ b. cond (b && (t.count + 1 == t.count + 0 + 1)) (passed_on (appended s e) e) (silent s))
    (is_itself (predecessor 0 (suc id)) id (before_is id))
    ∙ ap (λ b. cond b (passed_on (appended s e) e) (silent s)) (eq-eqb (t.count + 1) (t.count + 0 + 1) (omega arith))
    ∙ ap (λ x. passed_on x e) (noted_after (suc id) count t made (λ same. omega (arith, same)))

-- who isn't the last one passes it on,
passed_noted : (id count : ℕ) (t : PlainTable) (waiting : List OpenUpdate) (made : Call)
    → suc id < count
    → passed_on (noted id count t waiting made) (entry t made)
    ≡ putting (noted id count t waiting made) (To (suc id) (record { view = 0; body = Forward (entry t made) }) ∷ [])
unfolding passed_on
passed_noted id count t waiting made l =
    let s = noted id count t waiting made in
    ap (λ b. cond b (rise s (last_number s.store)) (putting s (message_to s (successor_of s) (Forward (entry t made)))))
    (before_tail count id l)
    ∙ ap (λ o. putting s (message_to s o (Forward (entry t made)))) (after_is count id l)

-- and the last one rises
passed_last : (id count : ℕ) (t : PlainTable) (waiting : List OpenUpdate) (made : Call)
    → suc id ≡ count
    → passed_on (noted id count t waiting made) (entry t made) ≡ rise (noted id count t waiting made) (t.count + 1)
unfolding passed_on
passed_last id count t waiting made e =
    let s = noted id count t waiting made in
    ap (λ b. cond b (rise s (t.count + 1)) (putting s (message_to s (successor_of s) (Forward (entry t made)))))
    (at_tail count id e)

-- ---- steps

keeps_floor : (id count : ℕ) (t : PlainTable) (waiting : List OpenUpdate) (made : Call) (os : List Output)
    → trimmed_result (putting (noted id count t waiting made) os)
    ≡ record { state = noted id count t waiting made; outputs = os }
keeps_floor id count t waiting made os = ap (λ s. record { state = s; outputs = os }) (trimmed_noted id count t waiting
    made)

-- server 0 takes the update of a port, and passes its entry on
pub step_first : (count port : ℕ) (t : PlainTable) (made : Call)
    → 1 < count
    → is_update made.op ≡ true
    → t.count + 1 < most
    → step (restored 0 count t) (Called port made)
    ≡ record {
      state = noted 0 count t (waits_at port t made ∷ []) made;
      outputs = To 1 (record { view = 0; body = Forward (entry t made) }) ∷ [];
    }
step_first count port t made l is few =
    ap trimmed_result (first_called count port t made (omega (arith, l)) is few
    ∙ passed_noted 0 count t (waits_at port t made ∷ []) made l)
    ∙ keeps_floor 0 count t (waits_at port t made ∷ []) made _

-- server 0 is alone: it commits the update, and answers
pub step_alone : (count port : ℕ) (t : PlainTable) (made : Call)
    → count ≡ 1
    → is_update made.op ≡ true
    → t.count + 1 < most
    → step (restored 0 count t) (Called port made)
    ≡ record { state = restored 0 count (table_with t made); outputs = Replied port (entry t made).reply ∷ [] }
step_alone count port t made one is few =
    risen_by 0 count t (waits_at port t made ∷ []) made (Replied port (entry t made).reply ∷ []) (first_told port t
    made)
    (first_left port t made) [] (to_none count t (waits_at port t made ∷ []) made)
    (taken_in (restored 0 count t) (Called port made))
    (first_called count port t made (omega (arith, one)) is few
    ∙ passed_last 0 count t (waits_at port t made ∷ []) made (sym one))

-- a server after it takes the entry, and passes it on
pub step_middle : (id count : ℕ) (t : PlainTable) (made : Call)
    → suc (suc id) < count
    → step (restored (suc id) count t) (From id (record { view = 0; body = Forward (entry t made) }))
    ≡ record {
      state = noted (suc id) count t [] made;
      outputs = To (suc (suc id)) (record { view = 0; body = Forward (entry t made) }) ∷ [];
    }
step_middle id count t made l =
    ap trimmed_result (next_received id count t made (omega (arith, l)) ∙ passed_noted (suc id) count t [] made l)
    ∙ keeps_floor (suc id) count t [] made _

-- the last one commits it, and acknowledges it
pub step_last : (id count : ℕ) (t : PlainTable) (made : Call)
    → suc (suc id) ≡ count
    → step (restored (suc id) count t) (From id (record { view = 0; body = Forward (entry t made) }))
    ≡ record {
      state = restored (suc id) count (table_with t made);
      outputs = To id (record { view = 0; body = Ack (t.count + 1) }) ∷ [];
    }
step_last id count t made e =
    risen_by (suc id) count t [] made [] (none_told (suc id) (entry t made)) (none_left (suc id) (entry t made))
    (To id (record { view = 0; body = Ack (t.count + 1) }) ∷ []) (to_predecessor id count t [] made)
    (taken_in (restored (suc id) count t) (From id (record { view = 0; body = Forward (entry t made) })))
    (next_received id count t made (omega (arith, e)) ∙ passed_last (suc id) count t [] made e)

ack_brought : (id count : ℕ) (t : PlainTable) (waiting : List OpenUpdate) (made : Call)
    → suc id < count
    → taken_in (noted id count t waiting made) (From (suc id) (record { view = 0; body = Ack (t.count + 1) }))
    ≡ rise (noted id count t waiting made) (t.count + 1)
ack_brought id count t waiting made l =
    brought (noted id count t waiting made) (suc id) (Ack (t.count + 1)) refl l (λ same. omega (arith, same))
    ∙ ack_received id count t waiting made l

-- the one before it commits it too,
pub step_back : (id count : ℕ) (t : PlainTable) (made : Call)
    → suc (suc id) < count
    → step (noted (suc id) count t [] made) (From (suc (suc id)) (record { view = 0; body = Ack (t.count + 1) }))
    ≡ record {
      state = restored (suc id) count (table_with t made);
      outputs = To id (record { view = 0; body = Ack (t.count + 1) }) ∷ [];
    }
step_back id count t made l =
    risen_by (suc id) count t [] made [] (none_told (suc id) (entry t made)) (none_left (suc id) (entry t made))
    (To id (record { view = 0; body = Ack (t.count + 1) }) ∷ []) (to_predecessor id count t [] made)
    (taken_in (noted (suc id) count t [] made) (From (suc (suc id)) (record { view = 0; body = Ack (t.count + 1) })))
    (ack_brought (suc id) count t [] made l)

-- and server 0 answers
pub step_home : (count port : ℕ) (t : PlainTable) (made : Call)
    → 1 < count
    → step (noted 0 count t (waits_at port t made ∷ []) made) (From 1 (record { view = 0; body = Ack (t.count + 1) }))
    ≡ record { state = restored 0 count (table_with t made); outputs = Replied port (entry t made).reply ∷ [] }
step_home count port t made l =
    risen_by 0 count t (waits_at port t made ∷ []) made (Replied port (entry t made).reply ∷ []) (first_told port t
    made)
    (first_left port t made) [] (to_none count t (waits_at port t made ∷ []) made)
    (taken_in (noted 0 count t (waits_at port t made ∷ []) made)
    (From 1 (record { view = 0; body = Ack (t.count + 1) })))
    (ack_brought 0 count t (waits_at port t made ∷ []) made l)
