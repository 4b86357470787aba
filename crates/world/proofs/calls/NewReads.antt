-- A read that an action answers: which call it is, its number and its item.
use Rattle.std.proofs.Common.{◌≡◌, ℕ, ◌≤◌, true, false, List, [], ◌∷◌, length, take, drop, Some, refl, arith, inl, inr}
use Rattle.std.proofs.Common.{ap, sym, ◌∙◌, subst}
use Rattle.std.specs.List.{list_any}
use Rattle.std.proofs.lemmas.Bool.{not-true}
use Rattle.std.proofs.lemmas.List.{take_all, take-append-drop}
use Rattle.table.specs.Operations.{is_update}
use Rattle.table.specs.Plain.{item_at, opening as opening_table}
use Rattle.table.specs.declared.operations.Call.{Call}
use Rattle.table.specs.declared.operations.Reply.TheVariants.{Value}
use Rattle.table.specs.declared.operations.Target.TheVariants.{One}
use Rattle.versions.specs.Entries.{LogEntry}
use Rattle.versions.specs.Stores.{StoreState, last_number, value_at, items_after, touches, is_clean}
use Rattle.versions.proofs.Holding.{items_after-append}
use Rattle.node.specs.declared.servers.OpenRead.{OpenRead}
use Rattle.node.specs.declared.messages.Input.TheVariants.{Call as Called, From}
use Rattle.node.specs.Servers.{reply_at}
use Rattle.world.specs.Worlds.{server, lives}
use Rattle.node.proofs.Lists.{Begins}
use Rattle.node.specs.Actions.{Action, Widen, Append, Reach, Settle, Send, Finish, Trim, Enter, Ask, Show, act, Cause}
use Rattle.node.specs.Actions.{IsAnswered}
use Rattle.world.proofs.trace.Traces.{Traced, AnsweredRead, log, open_id}
use Rattle.world.proofs.trace.Layers.{Holds, Lawful, IsWith, Carries}
use Rattle.world.proofs.trace.TraceLaws.{new_reads}
use Rattle.node.proofs.Beginnings.{begins-take, begins-length}
use Rattle.world.proofs.layers.HeldLogs.{held_last, held_value, held_after}
use Rattle.world.proofs.layers.LastLiving.{alive}
use Rattle.world.proofs.layers.LoggedActions.{tail_log}
use Rattle.node.proofs.OpenLists.{read_above}
use Rattle.world.proofs.calls.Untouched.{untouched, untouched_later}
use Rattle.world.proofs.calls.StepInputs.{IsStep, within, known_of}

-- a read that is answered: its call is with the server, it shows committed entries, and its reply is put out
pub record IsNewRead (t : Traced) (i : ℕ) (a : Action) (r : AnsweredRead) : Type 0 where
  pub port : ℕ
  pub call : Call
  pub asked : IsWith t i port call
  pub name : r.id ≡ open_id t.world port
  pub read : is_update call.op ≡ false
  pub target : call.target ≡ One r.key
  pub number : r.number ≤ length t.committed
  pub item : r.item ≡ item_at (items_after opening_table.items (take r.number t.committed)) r.key
  pub put : (act (server t.world i) a).outputs ≡ reply_at port (Value r.item)

-- the number that answers a read is one of a committed entry
answered_within : (t : Traced) (i : ℕ) (cause : Cause) (r : OpenRead) (n : ℕ)
    → IsStep t i cause (Finish r n)
    → IsAnswered cause (server t.world i) r.ask n
    → n ≤ length t.committed
answered_within t i cause r n g (inl tail) =
    let last = tail_log t i g.lawful.framed g.lawful.logged g.lives tail.0 in
    omega (arith, last, tail.1)
answered_within t i cause r n g (inr answer) =
    let k = known_of t i cause (Some (From answer.0 answer.1)) answer.2 g.known in
    subst (λ b. Carries t answer.0 answer.1.view b) answer.3 k.1

-- the item at such a number
value_committed : (t : Traced) (i : ℕ) (key : List ℕ) (n : ℕ)
    → Lawful t
    → lives t.world i ≡ true
    → (server t.world i).store.floor ≤ n
    → n ≤ length t.committed
    → value_at (server t.world i).store key n ≡ item_at (items_after opening_table.items (take n t.committed)) key
value_committed t i key n l h low high =
    held_value (log t i) (server t.world i).store key n (l.logged.holds i (alive t.world i h).within) low
    ∙ ap (λ es. item_at (items_after opening_table.items es) key)
    (begins-take n t.committed (log t i) (l.logged.living i h) high)

finished_read : (t : Traced) (i : ℕ) (cause : Cause) (r : OpenRead) (n : ℕ) (q : AnsweredRead)
    → IsStep t i cause (Finish r n)
    → q ≡ record {
      id = open_id t.world r.port;
      key = r.key;
      number = n;
      item = value_at (server t.world i).store r.key n;
    }
    → IsNewRead t i (Finish r n) q
unfolding act
finished_read t i cause r n q g is =
    let lt = within t i cause (Finish r n) g in
    let w = g.lawful.calling.asks i r lt g.guard.1 in
    let high = answered_within t i cause r n g g.guard.4 in
    let low = (read_above 0 _ _ _ _ r g.sound.reads g.guard.1).1 in
    let value = value_committed t i r.key n g.lawful g.lives (omega (arith, low, g.guard.2)) high in
    rw is (record {
      port = r.port;
      call = w.0;
      asked = w.1;
      name = refl;
      read = w.3;
      target = w.2;
      number = high;
      item = value;
      put = refl;
    })

-- a clean key's newest item is that after the committed entries
clean_committed : (key : List ℕ) (es fs : List LogEntry) (s : StoreState)
    → Holds es s
    → Begins fs es
    → s.acked ≤ length fs
    → is_clean s key ≡ true
    → value_at s key (last_number s) ≡ item_at (items_after opening_table.items fs) key
clean_committed key es fs s h b acked clean =
    let c = length fs in
    let none : list_any (touches key) (drop s.acked es) ≡ false =
    ap (λ xs. list_any (touches key) xs) (sym (held_after es s s.acked h h.floor)) ∙ not-true _ clean in
    let last = held_last es s h in
    let more = begins-length fs es b in
    let front : take c es ≡ fs = begins-take c fs es b (omega arith) ∙ take_all c fs (omega arith) in
    held_value es s key (last_number s) h (omega arith)
    ∙ ap (λ xs. item_at (items_after opening_table.items xs) key)
    (take_all (last_number s) es (omega (arith, last)) ∙ sym (take-append-drop c es))
    ∙ ap (λ items. item_at items key) (items_after-append opening_table.items (take c es) (drop c es))
    ∙ untouched (items_after opening_table.items (take c es)) key (drop c es)
    (untouched_later key s.acked c es acked none)
    ∙ ap (λ xs. item_at (items_after opening_table.items xs) key) front

shown_read : (t : Traced) (i : ℕ) (cause : Cause) (port : ℕ) (key : List ℕ) (q : AnsweredRead)
    → IsStep t i cause (Show port key)
    → q ≡ record {
      id = open_id t.world port;
      key = key;
      number = length t.committed;
      item = value_at (server t.world i).store key (last_number (server t.world i).store);
    }
    → IsNewRead t i (Show port key) q
unfolding act
shown_read t i cause port key q g is =
    let l = g.lawful in
    let lt = within t i cause (Show port key) g in
    let k = known_of t i cause (Some (Called port g.guard.0)) g.guard.1 g.known in
    let value = clean_committed key (log t i) t.committed (server t.world i).store (l.logged.holds i lt)
    (l.logged.living i g.lives) (l.logged.within i lt) g.guard.4 in
    let all : take (length t.committed) t.committed ≡ t.committed =
    take_all (length t.committed) t.committed (omega arith) in
    rw is (record {
      port = port;
      call = g.guard.0;
      asked = k.1;
      name = refl;
      read = g.guard.2;
      target = g.guard.3;
      number = omega arith;
      item = value ∙ ap (λ es. item_at (items_after opening_table.items es) key) (sym all);
      put = refl;
    })

one_same : (r q : AnsweredRead) → r ∷ [] ≡ q ∷ [] → q ≡ r
one_same r q h = cc

-- each read that a step answers is of a call that is with the server, and shows committed entries
pub new_read : (t : Traced) (i : ℕ) (cause : Cause) (a : Action) (r : AnsweredRead)
    → IsStep t i cause a
    → new_reads t i a ≡ r ∷ []
    → IsNewRead t i a r
new_read t i cause (Widen v) r g h = absurd cc
new_read t i cause (Append e) r g h = absurd cc
new_read t i cause (Reach n) r g h = absurd cc
new_read t i cause (Settle e) r g h = absurd cc
new_read t i cause (Send j body) r g h = absurd cc
new_read t i cause (Finish q n) r g h = finished_read t i cause q n r g (one_same _ r h)
new_read t i cause Trim r g h = absurd cc
new_read t i cause (Enter port call) r g h = absurd cc
new_read t i cause (Ask port key) r g h = absurd cc
new_read t i cause (Show port key) r g h = shown_read t i cause port key r g (one_same _ r h)
