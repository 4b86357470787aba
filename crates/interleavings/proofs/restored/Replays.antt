-- A replay: updates that one seat of server 0 asks one after another, each of which passes down the chain and back
-- before the next begins. It leaves a chain that begins with their table.
use Rattle.std.proofs.Common.{◌≡◌, ◌≢◌, ℕ, zero, suc, ◌+◌, ◌<◌, ◌≤◌, true, cond, List, [], ◌∷◌, ◌++◌, length, refl}
use Rattle.std.proofs.Common.{arith, ap, sym, ◌∙◌, inl, inr, append_assoc, length-append, append-nil}
use Rattle.std.specs.Prelude.{◌==◌, nat_lt}
use Rattle.std.proofs.lemmas.Bool.{cases_eq, cases_lt, eq-eqb, ne_eqb, lt-ltb}
use borrow.Author.Tests.{le-ltb}
use mathlib.Core.Path.{fun_ext}
use Rattle.table.specs.Operations.{is_update}
use Rattle.table.specs.Plain.{PlainTable}
use Rattle.table.specs.declared.operations.Call.{Call}
use Rattle.table.specs.declared.operations.Reply.{Reply}
use Rattle.node.specs.declared.messages.Body.TheVariants.{Forward, Ack}
use Rattle.node.specs.declared.messages.Peer.{Peer}
use Rattle.node.specs.declared.messages.Output.TheVariants.{To, Reply as Replied}
use Rattle.node.specs.Servers.{ServerState, most}
use Rattle.interleavings.specs.Chains.{RunningServer, Seat, with_at, OfSeat, opening_running}
use Rattle.interleavings.specs.Moves.{Move, Sends, Takes, Publishes, Replies, Receives, moved_from}
use Rattle.interleavings.specs.Restored.{table_after, replies_from, AreAskedUpdates, restored, restored_running}
use Rattle.interleavings.proofs.lists.ChangedFunctions.{at_same, at_other, at_self, at_twice}
use Rattle.interleavings.proofs.lists.TwoParts.{moved_from-append as parts}
use Rattle.interleavings.proofs.restored.NodeSteps.{entry, table_with, applied, noted, waits_at, step_first, step_alone}
use Rattle.interleavings.proofs.restored.NodeSteps.{step_middle, step_last, step_back, step_home}
use Rattle.interleavings.proofs.restored.Hops.{running, calm, hop, hops, asking, asks, is_told}

-- ---- the servers before a place, the one there, and those after it

abbrev along : ℕ → (ℕ → RunningServer) → RunningServer → (ℕ → RunningServer) → ℕ → RunningServer
along k f x g i = cond (nat_lt i k) (f i) (cond (i == k) x (g i))

module _ (k : ℕ) (f : ℕ → RunningServer) (x : RunningServer) (g : ℕ → RunningServer) where
  before : (i : ℕ) → i < k → along k f x g i ≡ f i
  before i l = ap (λ b. cond b (f i) (cond (i == k) x (g i))) (lt-ltb i k l)

  at_place : along k f x g k ≡ x
  at_place =
      ap (λ b. cond b (f k) (cond (k == k) x (g k))) (le-ltb k k (omega arith))
      ∙ ap (λ b. cond b x (g k)) (eq-eqb k k refl)

  after : (i : ℕ) → k < i → along k f x g i ≡ g i
  after i l =
      ap (λ b. cond b (f i) (cond (i == k) x (g i))) (le-ltb i k (omega (arith, l)))
      ∙ ap (λ b. cond b x (g i)) (ne_eqb i k (λ e. omega (arith, e, l)))

-- the next place
along_next : (k : ℕ) (f g : ℕ → RunningServer) (x y : RunningServer)
    → with_at (with_at (along k f x g) k (f k)) (suc k) y ≡ along (suc k) f y g
along_next k f g x y = fun_ext (λ i. elim (cases_eq i (suc k)) [
  | inl same ↦ rw same (at_same (with_at (along k f x g) k (f k)) (suc k) y ∙ sym (at_place (suc k) f y g))
  | inr other ↦ at_other (with_at (along k f x g) k (f k)) (suc k) y i other ∙ elim (cases_eq i k) [
    | inl same ↦ rw same (at_same (along k f x g) k (f k) ∙ sym (before (suc k) f y g k (omega arith)))
    | inr apart ↦ at_other (along k f x g) k (f k) i apart ∙ elim (cases_lt i k) [
      | inl less ↦ before k f x g i less ∙ sym (before (suc k) f y g i (omega (arith, less)))
      | inr more ↦ after k f x g i (past k i more apart)
          ∙ sym (after (suc k) f y g i (past_next k i more apart other))
    ]
  ]
])
  where
    past : (k i : ℕ) → k ≤ i → i ≢ k → k < i
    past k i l other = omega (arith, l, other)

    past_next : (k i : ℕ) → k ≤ i → i ≢ k → i ≢ suc k → suc k < i
    past_next k i l other apart = omega (arith, l, other, apart)

-- the place before
along_back : (k : ℕ) (f g : ℕ → RunningServer) (x y : RunningServer)
    → with_at (with_at (along (suc k) f x g) (suc k) (g (suc k))) k y ≡ along k f y g
along_back k f g x y = fun_ext (λ i. elim (cases_eq i k) [
  | inl same ↦ rw same (at_same (with_at (along (suc k) f x g) (suc k) (g (suc k))) k y ∙ sym (at_place k f y g))
  | inr other ↦ at_other (with_at (along (suc k) f x g) (suc k) (g (suc k))) k y i other ∙ elim (cases_eq i (suc k)) [
    | inl same ↦ rw same (at_same (along (suc k) f x g) (suc k) (g (suc k)) ∙ sym (after k f y g (suc k) (omega arith)))
    | inr apart ↦ at_other (along (suc k) f x g) (suc k) (g (suc k)) i apart ∙ elim (cases_lt i k) [
      | inl less ↦ before (suc k) f x g i (omega (arith, less)) ∙ sym (before k f y g i less)
      | inr more ↦ after (suc k) f x g i (past_next k i more other apart) ∙ sym (after k f y g i (past k i more other))
    ]
  ]
])
  where
    past : (k i : ℕ) → k ≤ i → i ≢ k → k < i
    past k i l other = omega (arith, l, other)

    past_next : (k i : ℕ) → k ≤ i → i ≢ k → i ≢ suc k → suc k < i
    past_next k i l other apart = omega (arith, l, other, apart)

-- who is first becomes another
along_first : (f g : ℕ → RunningServer) (y : RunningServer) → with_at g 0 y ≡ along 0 f y g
along_first f g y = fun_ext (λ i. elim (cases_eq i 0) [
  | inl same ↦ rw same (at_same g 0 y ∙ sym (at_place 0 f y g))
  | inr other ↦ at_other g 0 y i other ∙ sym (after 0 f y g i (above i other))
])
  where
    above : (i : ℕ) → i ≢ 0 → 0 < i
    above i other = omega (arith, other)

-- ---- one update, in a chain of at least two servers

-- down the chain from server k, n times
abbrev pub down : ℕ → ℕ → List Move
down k zero = []
down k (suc n) = hop k (suc k) ++ down (suc k) n

-- up from server k
abbrev pub up : ℕ → List Move
up zero = []
up (suc k) = hop (suc k) k ++ up k

-- a server of a chain that begins with a table
pub within : (count : ℕ) (t : PlainTable) (i : ℕ) → i < count → restored_running count t i ≡ running (restored i count
    t) []
within count t i l = ap (λ b. cond b (running (restored i count t) []) (opening_running count i)) (lt-ltb i count l)

pub beyond : (count : ℕ) (t : PlainTable) (i : ℕ) → count ≤ i → restored_running count t i ≡ opening_running count i
beyond count t i l = ap (λ b. cond b (running (restored i count t) []) (opening_running count i)) (le-ltb i count l)

module _ (last c : ℕ) (t : PlainTable) (made : Call) where
  abbrev count : ℕ
  count = suc (suc last)

  -- a server that has the entry, and doesn't know it to be committed
  abbrev noted_at : ℕ → ServerState
  noted_at zero = noted 0 count t (waits_at c t made ∷ []) made
  noted_at (suc id) = noted (suc id) count t [] made

  abbrev holding : ℕ → RunningServer
  holding i = running (noted_at i) []

  abbrev forward : Peer
  forward = record { view = 0; body = Forward (entry t made) }

  abbrev told : Peer
  told = record { view = 0; body = Ack (t.count + 1) }

  abbrev passing : ℕ → RunningServer
  passing k = running (noted_at k) (To (suc k) forward ∷ [])

  abbrev acknowledging : ℕ → RunningServer
  acknowledging k = running (restored (suc k) count (table_with t made)) (To k told ∷ [])

  abbrev answering : RunningServer
  answering = running (restored 0 count (table_with t made)) (Replied c (entry t made).reply ∷ [])

  module _ (seats : ℕ → Seat) where
    goes_down : (n k : ℕ)
        → k + n ≡ last
        → moved_from (calm count (along k holding (passing k) (restored_running count t)) seats) (down k (suc n))
        ≡ calm count (along (suc last) holding (acknowledging last) (restored_running count t)) seats
    goes_down zero k e =
        let rest = restored_running count t in
        let same : k ≡ last = omega (arith, e) in
        hops count seats (along k holding (passing k) rest) k (suc k) (noted_at k) (restored (suc k) count t) forward
        (record { state = restored (suc k) count (table_with t made); outputs = To k told ∷ [] })
        (λ f. omega (arith, f)) (at_place k holding (passing k) rest)
        (after k holding (passing k) rest (suc k) (omega arith) ∙ within count t (suc k) (omega (arith, same)))
        (step_last k count t made (omega (arith, same)))
        ∙ ap (λ ss. calm count ss seats) (along_next k holding rest (passing k) (acknowledging k))
        ∙ ap (λ p. calm count (along (suc p) holding (acknowledging p) rest) seats) same
    goes_down (suc n) k e =
        let rest = restored_running count t in
        parts (calm count (along k holding (passing k) rest) seats) (hop k (suc k)) (down (suc k) (suc n))
        ∙ ap (λ l. moved_from l (down (suc k) (suc n)))
        (hops count seats (along k holding (passing k) rest) k (suc k) (noted_at k) (restored (suc k) count t) forward
        (record { state = noted_at (suc k); outputs = To (suc (suc k)) forward ∷ [] })
        (λ f. omega (arith, f)) (at_place k holding (passing k) rest)
        (after k holding (passing k) rest (suc k) (omega arith) ∙ within count t (suc k) (omega (arith, e)))
        (step_middle k count t made (omega (arith, e)))
        ∙ ap (λ ss. calm count ss seats) (along_next k holding rest (passing k) (passing (suc k))))
        ∙ goes_down n (suc k) (omega (arith, e))

    comes_up : (k : ℕ)
        → k ≤ last
        → moved_from
        (calm count (along (suc k) holding (acknowledging k) (restored_running count (table_with t made))) seats) (up
        (suc k))
        ≡ calm count (along 0 holding answering (restored_running count (table_with t made))) seats
    comes_up zero l =
        let rest = restored_running count (table_with t made) in
        hops count seats (along 1 holding (acknowledging 0) rest) 1 0 (restored 1 count (table_with t made)) (noted_at
        0)
        told (record { state = restored 0 count (table_with t made); outputs = Replied c (entry t made).reply ∷ [] })
        (λ f. omega (arith, f)) (at_place 1 holding (acknowledging 0) rest)
        (before 1 holding (acknowledging 0) rest 0 (omega arith)) (step_home count c t made (omega arith))
        ∙ ap (λ s. calm count (with_at (with_at (along 1 holding (acknowledging 0) rest) 1 s) 0 answering) seats)
        (sym (within count (table_with t made) 1 (omega arith)))
        ∙ ap (λ ss. calm count ss seats) (along_back 0 holding rest (acknowledging 0) answering)
    comes_up (suc k) l =
        let rest = restored_running count (table_with t made) in
        let x = acknowledging (suc k) in
        parts (calm count (along (suc (suc k)) holding x rest) seats) (hop (suc (suc k)) (suc k)) (up (suc k))
        ∙ ap (λ m. moved_from m (up (suc k)))
        (hops count seats (along (suc (suc k)) holding x rest) (suc (suc k)) (suc k)
        (restored (suc (suc k)) count (table_with t made)) (noted_at (suc k)) told
        (record { state = restored (suc k) count (table_with t made); outputs = To k told ∷ [] })
        (λ f. omega (arith, f)) (at_place (suc (suc k)) holding x rest)
        (before (suc (suc k)) holding x rest (suc k) (omega arith)) (step_back k count t made (omega (arith, l)))
        ∙ ap (λ s. calm count (with_at (with_at (along (suc (suc k)) holding x rest) (suc (suc k)) s) (suc k)
        (acknowledging k)) seats)
        (sym (within count (table_with t made) (suc (suc k)) (omega (arith, l))))
        ∙ ap (λ ss. calm count ss seats) (along_back (suc k) holding rest x (acknowledging k)))
        ∙ comes_up k (omega (arith, l))

  -- those after the last one are none of the chain
  no_more : along (suc last) holding (acknowledging last) (restored_running count t)
      ≡ along (suc last) holding (acknowledging last) (restored_running count (table_with t made))
  no_more = fun_ext (λ i. elim (cases_lt (suc last) i) [
    | inl past ↦ after (suc last) holding (acknowledging last) (restored_running count t) i past
        ∙ beyond count t i (omega (arith, past))
        ∙ sym (after (suc last) holding (acknowledging last) (restored_running count (table_with t made)) i past
        ∙ beyond count (table_with t made) i (omega (arith, past)))
    | inr low ↦ by_place i low
  ])
    where
      by_place : (i : ℕ) → i ≤ suc last
          → along (suc last) holding (acknowledging last) (restored_running count t) i
          ≡ along (suc last) holding (acknowledging last) (restored_running count (table_with t made)) i
      by_place i low = elim (cases_eq i (suc last)) [
        | inl same ↦ rw same (at_place (suc last) holding (acknowledging last) (restored_running count t)
            ∙ sym (at_place (suc last) holding (acknowledging last) (restored_running count (table_with t made))))
        | inr other ↦ (let less : i < suc last = omega (arith, low, other) in
            before (suc last) holding (acknowledging last) (restored_running count t) i less
            ∙ sym (before (suc last) holding (acknowledging last) (restored_running count (table_with t made)) i less))
      ]

-- those before the first one are none
along_none : (f g : ℕ → RunningServer) (x : RunningServer) → with_at (along 0 f x g) 0 (g 0) ≡ g
along_none f g x = fun_ext (λ i. elim (cases_eq i 0) [
  | inl same ↦ rw same (at_same (along 0 f x g) 0 (g 0))
  | inr other ↦ at_other (along 0 f x g) 0 (g 0) i other ∙ after 0 f x g i (above i other)
])
  where
    above : (i : ℕ) → i ≢ 0 → 0 < i
    above i other = omega (arith, other)

-- ---- one update

-- the moves by which seat c asks an update in a chain of n servers after the first one, and has its reply
abbrev pub replay_of : ℕ → ℕ → Call → List Move
replay_of n c made =
    Sends c made ∷ Takes 0 (OfSeat c) ∷ Publishes 0 ∷ (down 0 n ++ (up n ++ Replies 0 c ∷ Receives c ∷ []))

module _ (c : ℕ) (t : PlainTable) (made : Call) (seats : ℕ → Seat) (calls : List Call) (got : List Reply)
    (here : seats c ≡ asking calls got) (free : length calls ≡ length got) (is : is_update made.op ≡ true)
    (few : t.count + 1 < most) where
  abbrev asked : ℕ → Seat
  asked = with_at seats c (asking (calls ++ made ∷ []) got)

  abbrev answered : ℕ → Seat
  answered = with_at seats c (asking (calls ++ made ∷ []) (got ++ (entry t made).reply ∷ []))

  -- its reply comes to it
  is_answered : (count : ℕ) (servers : ℕ → RunningServer) (a : ServerState)
      → servers 0 ≡ running a (Replied c (entry t made).reply ∷ [])
      → moved_from (calm count servers asked) (Replies 0 c ∷ Receives c ∷ [])
      ≡ calm count (with_at servers 0 (running a [])) answered
  is_answered count servers a first =
      is_told count asked servers c (calls ++ made ∷ []) got (at_same seats c (asking (calls ++ made ∷ []) got))
      (entry t made).reply a first
      ∙ ap (calm count (with_at servers 0 (running a [])))
      (at_twice seats c (asking (calls ++ made ∷ []) got)
      (asking (calls ++ made ∷ []) (got ++ (entry t made).reply ∷ [])))

  alone : moved_from (calm 1 (restored_running 1 t) seats) (replay_of 0 c made)
      ≡ calm 1 (restored_running 1 (table_with t made)) answered
  alone =
      let y = running (restored 0 1 (table_with t made)) (Replied c (entry t made).reply ∷ []) in
      let servers = with_at (restored_running 1 t) 0 y in
      parts (calm 1 (restored_running 1 t) seats) (Sends c made ∷ Takes 0 (OfSeat c) ∷ Publishes 0 ∷ [])
      (Replies 0 c ∷ Receives c ∷ [])
      ∙ ap (λ l. moved_from l (Replies 0 c ∷ Receives c ∷ []))
      (asks 1 seats (restored_running 1 t) c calls got here made (restored 0 1 t)
      (record { state = restored 0 1 (table_with t made); outputs = Replied c (entry t made).reply ∷ [] }) free
      (within 1 t 0 (omega arith)) (step_alone 1 c t made refl is few))
      ∙ is_answered 1 servers (restored 0 1 (table_with t made)) (at_same (restored_running 1 t) 0 y)
      ∙ ap (λ ss. calm 1 ss answered)
      (at_twice (restored_running 1 t) 0 y (running (restored 0 1 (table_with t made)) [])
      ∙ fun_ext (λ i. elim (cases_eq i 0) [
        | inl same ↦ rw same (at_same (restored_running 1 t) 0 (running (restored 0 1 (table_with t made)) [])
            ∙ sym (within 1 (table_with t made) 0 (omega arith)))
        | inr other ↦ at_other (restored_running 1 t) 0 (running (restored 0 1 (table_with t made)) []) i other
            ∙ beyond 1 t i (past i other) ∙ sym (beyond 1 (table_with t made) i (past i other))
      ]))
    where
      past : (i : ℕ) → i ≢ 0 → 1 ≤ i
      past i other = omega (arith, other)

  among : (last : ℕ)
      → moved_from (calm (suc (suc last)) (restored_running (suc (suc last)) t) seats) (replay_of (suc last) c made)
      ≡ calm (suc (suc last)) (restored_running (suc (suc last)) (table_with t made)) answered
  among last =
      let count = suc (suc last) in
      let rest = restored_running count t in
      let after_it = restored_running count (table_with t made) in
      let first = holding last c t made in
      let back = Replies 0 c ∷ Receives c ∷ [] in
      let rise = up (suc last) ++ back in
      parts (calm count rest seats) (Sends c made ∷ Takes 0 (OfSeat c) ∷ Publishes 0 ∷ []) (down 0 (suc last) ++ rise)
      ∙ ap (λ l. moved_from l (down 0 (suc last) ++ rise))
      (asks count seats rest c calls got here made (restored 0 count t)
      (record { state = noted_at last c t made 0; outputs = To 1 (forward last c t made) ∷ [] }) free
      (within count t 0 (omega arith)) (step_first count c t made (omega arith) is few)
      ∙ ap (λ ss. calm count ss asked) (along_first first rest (passing last c t made 0)))
      ∙ parts (calm count (along 0 first (passing last c t made 0) rest) asked) (down 0 (suc last)) rise
      ∙ ap (λ l. moved_from l rise)
      (goes_down last c t made asked last 0 (omega arith) ∙ ap (λ ss. calm count ss asked) (no_more last c t made))
      ∙ parts (calm count (along (suc last) first (acknowledging last c t made last) after_it) asked) (up (suc last))
      back
      ∙ ap (λ l. moved_from l back) (comes_up last c t made asked last (omega arith))
      ∙ is_answered count (along 0 first (answering last c t made) after_it) (restored 0 count (table_with t made))
      (at_place 0 first (answering last c t made) after_it)
      ∙ ap (λ s. calm count (with_at (along 0 first (answering last c t made) after_it) 0 s) answered)
      (sym (within count (table_with t made) 0 (omega arith)))
      ∙ ap (λ ss. calm count ss answered) (along_none first after_it (answering last c t made))

  -- the chain begins with the table after it
  pub replayed_one : (n : ℕ)
      → moved_from (calm (suc n) (restored_running (suc n) t) seats) (replay_of n c made)
      ≡ calm (suc n) (restored_running (suc n) (table_with t made)) answered
  replayed_one zero = alone
  replayed_one (suc last) = among last

-- ---- all of them

-- those of these updates, one after another
abbrev pub replay : ℕ → ℕ → List Call → List Move
replay n c [] = []
replay n c (made ∷ more) = replay_of n c made ++ replay n c more

-- the chain begins with the table after them
pub replayed : (n c : ℕ) (us : List Call) (t : PlainTable) (seats : ℕ → Seat) (calls : List Call) (got : List Reply)
    → seats c ≡ asking calls got
    → length calls ≡ length got
    → AreAskedUpdates us
    → t.count + length us < most
    → moved_from (calm (suc n) (restored_running (suc n) t) seats) (replay n c us)
    ≡ calm (suc n) (restored_running (suc n) (table_after t us))
    (with_at seats c (asking (calls ++ us) (got ++ replies_from t us)))
replayed n c [] t seats calls got here free updates few =
    ap (calm (suc n) (restored_running (suc n) t))
    (sym (at_self seats c)
    ∙ ap (with_at seats c) (here ∙ ap (λ cs. asking cs got) (sym (append-nil calls))
    ∙ ap (asking (calls ++ [])) (sym (append-nil got))))
replayed n c (made ∷ us) t seats calls got here free updates few =
    let reply = (entry t made).reply in
    let seat = asking (calls ++ made ∷ []) (got ++ reply ∷ []) in
    let next = table_with t made in
    parts (calm (suc n) (restored_running (suc n) t) seats) (replay_of n c made) (replay n c us)
    ∙ ap (λ l. moved_from l (replay n c us))
    (replayed_one c t made seats calls got here free updates.1 (omega (arith, few)) n)
    ∙ replayed n c us next (with_at seats c seat) (calls ++ made ∷ []) (got ++ reply ∷ []) (at_same seats c seat)
    (length-append calls (made ∷ []) ∙ ap (λ k. k + 1) free ∙ sym (length-append got (reply ∷ []))) updates.2
    (omega (arith, few))
    ∙ ap (calm (suc n) (restored_running (suc n) (table_after next us)))
    (at_twice seats c seat (asking ((calls ++ made ∷ []) ++ us) ((got ++ reply ∷ []) ++ replies_from next us))
    ∙ ap (λ cs. with_at seats c (asking cs ((got ++ reply ∷ []) ++ replies_from next us)))
    (append_assoc calls (made ∷ []) us)
    ∙ ap (λ rs. with_at seats c (asking (calls ++ made ∷ us) rs)) (append_assoc got (reply ∷ []) (replies_from next
    us)))
    ∙ ap (λ (u : PlainTable). calm (suc n) (restored_running (suc n) (table_after u us))
    (with_at seats c (asking (calls ++ made ∷ us) (got ++ reply ∷ replies_from u us))))
    (sym (applied t made updates.1))
