-- What every server keeps within a step: each change of a server keeps it.
use Rattle.std.proofs.Common.{◌≡◌, ℕ, ◌+◌, ◌-◌, ◌<◌, ◌≤◌, nat_lt, ◌==◌, Bool, true, false, cond, List, [], ◌∷◌, ◌++◌, length}
use Rattle.std.proofs.Common.{take, get_or, Option, Some, None, refl, sym, ◌∙◌, arith, length-set, length-take-le}
use Rattle.std.specs.List.{find}
use Rattle.std.proofs.lemmas.Option.{same_Some}
use Rattle.std.proofs.lemmas.Bool.{cond_both, and_parts, eqb-true}
use Rattle.table.specs.Operations.{is_update}
use Rattle.std.specs.FinMap.{get-insert, get-remove, get-empty}
use Rattle.std.specs.Cmp.Lexicographic.{nat_list_cmp_total}
use Rattle.table.specs.Keys.{key_cmp}
use Rattle.table.specs.Plain.{Items, item_at, changed}
use Rattle.table.specs.Items.{Item}
use Rattle.table.specs.declared.operations.Call.{Call}
use Rattle.table.specs.declared.operations.Target.{Target}
use Rattle.table.specs.declared.operations.Target.TheVariants.{One, All}
use Rattle.table.specs.declared.operations.Change.{Change}
use Rattle.table.specs.declared.operations.Change.TheVariants.{Keep, Put, Drop, Clear}
use Rattle.versions.specs.Entries.{LogEntry, IsEntry, PutsOwn}
use Rattle.versions.specs.Stores.{StoreState, IsLog, IsStore, last_number, acked_to, items_after, items_at}
use Rattle.node.specs.declared.servers.OpenUpdate.{OpenUpdate}
use Rattle.node.specs.declared.servers.OpenRead.{OpenRead}
use Rattle.node.specs.Views.{View, has, is_below}
use Rattle.node.specs.Servers.{ServerState, most, seen_of}
use Rattle.node.specs.Numbering.{left_open, left_open_by, without_update, newly_acked, risen, newest, appended, entry_of}
use Rattle.node.specs.Numbering.{is_taken, taken, entered}
use Rattle.node.specs.Reading.{asked, without_read}
use Rattle.node.specs.Joining.{widened}
use Rattle.node.specs.Steps.{least_open, trimmed}
use Rattle.node.specs.Lawful.{IsCall, AreUpdates, AreReads, IsSound}
use Rattle.node.proofs.ViewLaws.{has-union, below-union}
use Rattle.node.proofs.DecisionLaws.{decided}
use Rattle.versions.proofs.Logs.{log-take}
use Rattle.versions.proofs.StoreLaws.{store-pushed, store-acked, store-dropped}

-- ---- own calls

-- the bound of the ids that wait is below the next id
pub updates_bound : (above : ℕ) (us : List OpenUpdate) (next_id : ℕ) → AreUpdates above us next_id → above < next_id
updates_bound above [] next_id h = h
updates_bound above (u ∷ us) next_id h = omega (arith, h.0, updates_bound u.id us next_id h.3)

lower_updates : (low above : ℕ) (us : List OpenUpdate) (next_id : ℕ)
    → low ≤ above
    → AreUpdates above us next_id
    → AreUpdates low us next_id
lower_updates low above [] next_id le h = omega (arith, h)
lower_updates low above (u ∷ us) next_id le h = (omega (arith, h.0), h.1, h.2, h.3)

kept_step : (b : Bool) (above : ℕ) (u : OpenUpdate) (us rest : List OpenUpdate) (next_id : ℕ)
    → AreUpdates above (u ∷ us) next_id
    → AreUpdates u.id rest next_id
    → AreUpdates above (cond b us (u ∷ rest)) next_id
kept_step true above u us rest next_id h g = lower_updates above u.id us next_id (omega (arith, h.0)) h.3
kept_step false above u us rest next_id h g = (h.0, h.1, h.2, g)

-- fewer own calls wait
pub updates-without : (above : ℕ) (us : List OpenUpdate) (next_id id : ℕ)
    → AreUpdates above us next_id
    → AreUpdates above (without_update us id) next_id
updates-without above [] next_id id h = h
updates-without above (u ∷ us) next_id id h =
    kept_step _ above u us _ next_id h (updates-without u.id us next_id id h.3)

left_step : (b : Bool) (us : List OpenUpdate) (next_id id : ℕ)
    → AreUpdates 0 us next_id
    → AreUpdates 0 (cond b (without_update us id) us) next_id
left_step true us next_id id h = updates-without 0 us next_id id h
left_step false us next_id id h = h

-- an acknowledged entry may close one
pub updates-left : (id : ℕ) (us : List OpenUpdate) (next_id : ℕ) (e : LogEntry)
    → AreUpdates 0 us next_id
    → AreUpdates 0 (left_open_by id us e) next_id
updates-left id us next_id e h = left_step _ us next_id e.id h

-- own calls that acknowledged entries leave open wait in order
pub updates-left_open : (id : ℕ) (es : List LogEntry) (us : List OpenUpdate) (next_id : ℕ)
    → AreUpdates 0 us next_id
    → AreUpdates 0 (left_open id us es) next_id
unfolding left_open
updates-left_open id [] us next_id h = h
updates-left_open id (e ∷ es) us next_id h =
    updates-left_open id es (left_open_by id us e) next_id (updates-left id us next_id e h)

-- one more waits, under the next id
pub updates-push : (above : ℕ) (us : List OpenUpdate) (u : OpenUpdate)
    → IsCall u.call
    → is_update u.call.op ≡ true
    → AreUpdates above us u.id
    → AreUpdates above (us ++ u ∷ []) (u.id + 1)
updates-push above [] u call is h = (h, call, is, omega arith)
updates-push above (v ∷ us) u call is h = (h.0, h.1, h.2, updates-push v.id us u call is h.3)

-- ---- own reads

-- the bounds of the reads that wait: one below the next ask, one at most the commit number
pub reads_bound : (above lower_bound : ℕ) (rs : List OpenRead) (next_ask acked : ℕ)
    → AreReads above lower_bound rs next_ask acked
    → (above < next_ask) × (lower_bound ≤ acked)
reads_bound above lower_bound [] next_ask acked h = h
reads_bound above lower_bound (r ∷ rs) next_ask acked h =
    let g = reads_bound r.ask r.lower_bound rs next_ask acked h.2 in (omega (arith, h.0, g.0), omega (arith, h.1, g.1))

lower_reads : (a b m n : ℕ) (rs : List OpenRead) (next_ask acked : ℕ)
    → a ≤ b
    → m ≤ n
    → AreReads b n rs next_ask acked
    → AreReads a m rs next_ask acked
lower_reads a b m n [] next_ask acked le leq h = (omega (arith, h.0), omega (arith, h.1))
lower_reads a b m n (r ∷ rs) next_ask acked le leq h = (omega (arith, h.0), omega (arith, h.1), h.2)

-- the commit number may rise
pub reads-acked : (above lower_bound : ℕ) (rs : List OpenRead) (next_ask acked n : ℕ)
    → acked ≤ n
    → AreReads above lower_bound rs next_ask acked
    → AreReads above lower_bound rs next_ask n
reads-acked above lower_bound [] next_ask acked n le h = (h.0, omega (arith, h.1))
reads-acked above lower_bound (r ∷ rs) next_ask acked n le h =
    (h.0, h.1, reads-acked r.ask r.lower_bound rs next_ask acked n le h.2)

read_step : (b : Bool) (above lower_bound : ℕ) (r : OpenRead) (rs rest : List OpenRead) (next_ask acked : ℕ)
    → AreReads above lower_bound (r ∷ rs) next_ask acked
    → AreReads r.ask r.lower_bound rest next_ask acked
    → AreReads above lower_bound (cond b rs (r ∷ rest)) next_ask acked
read_step true above lower_bound r rs rest next_ask acked h g =
    lower_reads above r.ask lower_bound r.lower_bound rs next_ask acked (omega (arith, h.0)) h.1 h.2
read_step false above lower_bound r rs rest next_ask acked h g = (h.0, h.1, g)

-- the reads that are left without that of an ask wait in order
pub reads-without : (above lower_bound : ℕ) (rs : List OpenRead) (next_ask acked ask : ℕ)
    → AreReads above lower_bound rs next_ask acked
    → AreReads above lower_bound (without_read rs ask) next_ask acked
reads-without above lower_bound [] next_ask acked ask h = h
reads-without above lower_bound (r ∷ rs) next_ask acked ask h =
    read_step _ above lower_bound r rs _ next_ask acked h (reads-without r.ask r.lower_bound rs next_ask acked ask h.2)

-- one more read waits, under the next ask and with the commit number as its lower bound
pub reads-push : (above lower_bound : ℕ) (rs : List OpenRead) (r : OpenRead)
    → AreReads above lower_bound rs r.ask r.lower_bound
    → AreReads above lower_bound (rs ++ r ∷ []) (r.ask + 1) r.lower_bound
reads-push above lower_bound [] r h = (h.0, h.1, (omega arith, omega arith))
reads-push above lower_bound (q ∷ rs) r h = (h.0, h.1, reads-push q.ask q.lower_bound rs r h.2)

-- the open read of an ask is among them: its lower bound is between the floor and the commit number
found_step : (b : Bool) (r q : OpenRead) (rest : Option OpenRead) (lower_bound acked : ℕ)
    → (lower_bound ≤ r.lower_bound)
    → (r.lower_bound ≤ acked)
    → (rest ≡ Some q → (lower_bound ≤ q.lower_bound) × (q.lower_bound ≤ acked))
    → cond b (Some r) rest ≡ Some q
    → (lower_bound ≤ q.lower_bound) × (q.lower_bound ≤ acked)
found_step true r q rest lower_bound acked low high f h = let same : r ≡ q = same_Some r q h in rw (← same) (low, high)
found_step false r q rest lower_bound acked low high f h = f h

-- an open read that is found has a lower bound from the bound of the list to the commit number
pub read-found : (above lower_bound : ℕ) (rs : List OpenRead) (next_ask acked ask : ℕ) (q : OpenRead)
    → AreReads above lower_bound rs next_ask acked
    → find (λ r. r.ask == ask) rs ≡ Some q
    → (lower_bound ≤ q.lower_bound) × (q.lower_bound ≤ acked)
read-found above lower_bound [] next_ask acked ask q h e = absurd cc
read-found above lower_bound (r ∷ rs) next_ask acked ask q h e =
    found_step _ r q _ lower_bound acked h.1 (reads_bound r.ask r.lower_bound rs next_ask acked h.2).1
    (λ g. let k = read-found r.ask r.lower_bound rs next_ask acked ask q h.2 g in (omega (arith, k.0, h.1), k.1)) e

-- the least of the commit number and the lower bounds is the first lower bound, or the commit number
pub least_first : (above lower_bound : ℕ) (r : OpenRead) (rs : List OpenRead) (next_ask acked : ℕ)
    → AreReads above lower_bound (r ∷ rs) next_ask acked
    → least_open acked (r ∷ rs) ≡ r.lower_bound
least_first above lower_bound r [] next_ask acked h = omega (arith, h.2)
least_first above lower_bound r (q ∷ rs) next_ask acked h =
    omega (arith, h.2.1, least_first r.ask r.lower_bound q rs next_ask acked h.2)

-- the least of the commit number and the lower bounds is from the bound of the list to the commit number
pub least_within : (above lower_bound : ℕ) (rs : List OpenRead) (next_ask acked : ℕ)
    → AreReads above lower_bound rs next_ask acked
    → (lower_bound ≤ least_open acked rs) × (least_open acked rs ≤ acked)
least_within above lower_bound [] next_ask acked h = (h.1, omega arith)
least_within above lower_bound (r ∷ rs) next_ask acked h =
    let g = least_within r.ask r.lower_bound rs next_ask acked h.2 in (omega (arith, g.0, h.1), omega (arith, g.1))

-- the first open read has it
pub least_at_front : (above lower_bound : ℕ) (rs : List OpenRead) (next_ask acked : ℕ) (r : OpenRead)
    → AreReads above lower_bound rs next_ask acked
    → 0 < length rs
    → r ≡ get_or rs 0 r
    → (r.lower_bound ≡ least_open acked rs) × (r.lower_bound ≤ acked)
least_at_front above lower_bound [] next_ask acked r h some is = absurd (omega arith)
least_at_front above lower_bound (q ∷ rs) next_ask acked r h some is =
    rw is (
      sym (least_first above lower_bound q rs next_ask acked h),
      (reads_bound q.ask q.lower_bound rs next_ask acked h.2).1,
    )

-- the floor may rise to it
pub reads-least : (above lower_bound : ℕ) (rs : List OpenRead) (next_ask acked : ℕ)
    → AreReads above lower_bound rs next_ask acked
    → AreReads above (least_open acked rs) rs next_ask acked
reads-least above lower_bound [] next_ask acked h = (h.0, omega arith)
reads-least above lower_bound (r ∷ rs) next_ask acked h = (h.0, omega arith, h.2)

-- ---- entries and items

-- each item was put under a number up to this one
abbrev IsPutBy : Items → ℕ → Type 0
IsPutBy items n = (key : List ℕ) (item : Item) → item_at items key ≡ Some item → item.unique ≤ n

found_put : (b : Bool) (new item : Item) (old : Option Item) (n : ℕ)
    → new.unique ≤ n
    → (old ≡ Some item → item.unique ≤ n)
    → cond b (Some new) old ≡ Some item
    → item.unique ≤ n
found_put true new item old n low f h = let same : new ≡ item = same_Some new item h in rw (← same) low
found_put false new item old n low f h = f h

found_left : (b : Bool) (item : Item) (old : Option Item) (n : ℕ)
    → (old ≡ Some item → item.unique ≤ n)
    → cond b None old ≡ Some item
    → item.unique ≤ n
found_left true item old n f h = absurd cc
found_left false item old n f h = f h

put-changed : (items : Items) (target : Target) (change : Change) (floor number : ℕ)
    → number ≡ floor + 1
    → PutsOwn number change
    → IsPutBy items floor
    → IsPutBy (changed items target change) (floor + 1)
put-changed items (One k) Keep floor number is own h key item e = omega (arith, h key item e)
put-changed items (One k) (Put new) floor number is own h key item e =
    found_put _ new item _ (floor + 1) (omega (arith, own.0))
    (λ (f : item_at items key ≡ Some item). omega (arith, h key item f))
    (sym (get-insert nat_list_cmp_total items k new key) ∙ e)
put-changed items (One k) Drop floor number is own h key item e =
    found_left _ item _ (floor + 1) (λ (f : item_at items key ≡ Some item). omega (arith, h key item f))
    (sym (get-remove nat_list_cmp_total items k key) ∙ e)
put-changed items (One k) Clear floor number is own h key item e =
    let none = sym (get-empty key_cmp key) ∙ e in absurd cc
put-changed items All Keep floor number is own h key item e = omega (arith, h key item e)
put-changed items All (Put new) floor number is own h key item e = omega (arith, h key item e)
put-changed items All Drop floor number is own h key item e = omega (arith, h key item e)
put-changed items All Clear floor number is own h key item e = let none = sym (get-empty key_cmp key) ∙ e in absurd cc

put-after : (floor n : ℕ) (es : List LogEntry) (items : Items)
    → n ≡ floor + length es
    → IsLog floor es
    → IsPutBy items floor
    → IsPutBy (items_after items es) n
put-after floor n [] items is log h = λ key item e. omega (arith, h key item e)
put-after floor n (e ∷ es) items is log h = put-after (floor + 1) n es (changed items e.target e.change) (omega arith)
    log.2 (put-changed items e.target e.change floor e.number log.1 log.0.put h)

-- at a number up to the last, each item was put under a number up to it
pub put-at : (s : StoreState) (n : ℕ)
    → s.floor ≤ n
    → n ≤ last_number s
    → IsStore s
    → IsPutBy s.base s.floor
    → IsPutBy (items_at s n) n
put-at s n low high h put =
    let l : length (take (n - s.floor) s.rest) ≡ n - s.floor = length-take-le (n - s.floor) s.rest (omega arith) in
    put-after s.floor n (take (n - s.floor) s.rest) s.base (omega (arith, l))
    (log-take s.floor (n - s.floor) s.rest h.log) put

-- ---- the changes of a server

-- a server stays sound as its view grows by other servers of the chain
pub sound-widened : (s : ServerState) (v : View)
    → is_below v s.count ≡ true
    → has v s.id ≡ false
    → IsSound s
    → IsSound (widened s v)
unfolding widened
sound-widened s v below out h = record {
  placed = h.placed;
  counted = h.counted;
  outside = has-union s.view v s.id ∙ rw (h.outside, out) refl;
  within = below-union s.view v s.count h.within below;
  store = h.store;
  based = h.based;
  seen = h.seen;
  updates = h.updates;
  reads = h.reads;
}

-- a wider view leaves the store as it is
pub store-widened : (s : ServerState) (v : View) → (widened s v).store ≡ s.store
unfolding widened
store-widened s v = refl

-- a server stays sound as an entry with the next number is appended
pub sound-appended : (s : ServerState) (e : LogEntry)
    → IsEntry e
    → e.number ≡ last_number s.store + 1
    → IsSound s
    → IsSound (appended s e)
unfolding appended
sound-appended s e valid next h = record {
  placed = h.placed;
  counted = h.counted;
  outside = h.outside;
  within = h.within;
  store = store-pushed s.store e valid next h.store;
  based = h.based;
  seen = length-set s.seen e.origin _ ∙ h.seen;
  updates = h.updates;
  reads = h.reads;
}

-- other own calls wait
pub sound-updates : (s : ServerState) (us : List OpenUpdate) (next_id : ℕ)
    → AreUpdates 0 us next_id
    → IsSound s
    → IsSound (record s { pend = us; next_id = next_id })
sound-updates s us next_id updates h = record {
  placed = h.placed;
  counted = h.counted;
  outside = h.outside;
  within = h.within;
  store = h.store;
  based = h.based;
  seen = h.seen;
  updates = updates;
  reads = h.reads;
}

-- other own reads wait
pub sound-reads : (s : ServerState) (rs : List OpenRead) (next_ask : ℕ)
    → AreReads 0 s.store.floor rs next_ask s.store.acked
    → IsSound s
    → IsSound (record s { asks = rs; next_ask = next_ask })
sound-reads s rs next_ask reads h = record {
  placed = h.placed;
  counted = h.counted;
  outside = h.outside;
  within = h.within;
  store = h.store;
  based = h.based;
  seen = h.seen;
  updates = h.updates;
  reads = reads;
}

-- a server stays sound as its commit number rises up to the last one
pub sound-acked : (s : ServerState) (n : ℕ)
    → s.store.acked ≤ n
    → n ≤ last_number s.store
    → IsSound s
    → IsSound (record s { store = acked_to s.store n })
sound-acked s n low high h = record {
  placed = h.placed;
  counted = h.counted;
  outside = h.outside;
  within = h.within;
  store = store-acked s.store n low high h.store;
  based = h.based;
  seen = h.seen;
  updates = h.updates;
  reads = reads-acked 0 s.store.floor s.asks s.next_ask s.store.acked n low h.reads;
}

-- a server stays sound as it rises up to its last number, and closes own calls by it
pub sound-risen : (s : ServerState) (n : ℕ)
    → s.store.acked ≤ n
    → n ≤ last_number s.store
    → IsSound s
    → IsSound (risen s n)
unfolding risen
sound-risen s n low high h =
    sound-updates (record s { store = acked_to s.store n }) (left_open s.id s.pend (newly_acked s n)) s.next_id
    (updates-left_open s.id (newly_acked s n) s.pend s.next_id h.updates) (sound-acked s n low high h)

-- a server stays sound as an own update call enters
pub sound-entered : (s : ServerState) (port : ℕ) (call : Call)
    → IsCall call
    → is_update call.op ≡ true
    → IsSound s
    → IsSound (entered s port call)
unfolding entered
sound-entered s port call fit is h =
    let u : OpenUpdate = record { id = s.next_id; port = port; call = call } in
    sound-updates s (s.pend ++ u ∷ []) (s.next_id + 1) (updates-push 0 s.pend u fit is h.updates) h

-- a server stays sound as a read waits under the next ask
pub sound-asked : (s : ServerState) (port : ℕ) (key : List ℕ) → IsSound s → IsSound (asked s port key)
unfolding asked
sound-asked s port key h =
    let r : OpenRead = record { ask = s.next_ask; port = port; key = key; lower_bound = s.store.acked } in
    sound-reads s (s.asks ++ r ∷ []) (s.next_ask + 1) (reads-push 0 s.store.floor s.asks r h.reads) h

-- fewer reads wait
pub sound-closed : (s : ServerState) (asks : List OpenRead)
    → AreReads 0 s.store.floor asks s.next_ask s.store.acked
    → IsSound s
    → IsSound (record s { asks = asks })
sound-closed s asks reads h = sound-reads s asks s.next_ask reads h

-- a server stays sound as the floor follows
pub sound-trimmed : (s : ServerState) → IsSound s → IsSound (trimmed s)
unfolding trimmed
sound-trimmed s h =
    let between = least_within 0 s.store.floor s.asks s.next_ask s.store.acked h.reads in
    record {
      placed = h.placed;
      counted = h.counted;
      outside = h.outside;
      within = h.within;
      store = store-dropped s.store (least_open s.store.acked s.asks) between.0 between.1 h.store;
      based = put-at s.store (least_open s.store.acked s.asks) between.0 (omega (arith, between.1, h.store.acked_held))
          h.store h.based;
      seen = h.seen;
      updates = h.updates;
      reads = reads-least 0 s.store.floor s.asks s.next_ask s.store.acked h.reads;
    }

-- ---- taking

-- what the head makes of an update that it takes is an entry
pub entry_of-valid : (s : ServerState) (origin id : ℕ) (made : Call)
    → origin < 16
    → IsCall made
    → is_update made.op ≡ true
    → is_taken s origin id ≡ true
    → IsEntry (entry_of s origin id made)
entry_of-valid s origin id made low fit is may =
    let d = decided (newest s.store made.target) made.op (last_number s.store + 1) fit.0 is in
    let next = eqb-true _ _ (and_parts (id == seen_of s origin + 1) (nat_lt (last_number s.store) most) may).0 in
    record {
      numbered = omega arith;
      served = low;
      called = omega (arith, next);
      answered = d.answered;
      put = d.put;
      cleared = d.cleared ∙ fit.1;
      flushed = d.flushed ∙ fit.1;
    }

-- a server stays sound as an update is taken
pub sound-taken : (s : ServerState) (origin id : ℕ) (made : Call)
    → origin < 16
    → IsCall made
    → is_update made.op ≡ true
    → IsSound s
    → IsSound (taken s origin id made)
unfolding taken
sound-taken s origin id made low fit is h = cond_both (is_taken s origin id) _ _ (λ t. IsSound t)
    (λ t. sound-appended s (entry_of s origin id made) (entry_of-valid s origin id made low fit is t) refl h)
    (λ f. h)
