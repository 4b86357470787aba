-- What stands of one sender's calls in a server's queue: each move leaves it, or sends one more, at the end, or
-- publishes the first one. That holds if the sender's calls are taken in order.
use Rattle.std.proofs.Common.{◌≡◌, ◌≢◌, ℕ, ◌+◌, Bool, true, false, cond, List, [], ◌∷◌, ◌++◌, length, Option}
use Rattle.std.proofs.Common.{None, Some, refl, arith, ap, sym, ◌∙◌, subst, ◌⊎◌, inl, inr, eq-eqb, append_assoc}
use Rattle.std.proofs.Common.{append-nil}
use Rattle.std.specs.Prelude.{not, ◌&&◌, ◌==◌, is_some, IsSome}
use Rattle.std.proofs.lemmas.Bool.{cases_eq, ne_eqb, eqb-true, cond_both}
use Rattle.std.proofs.lemmas.Option.{same_Some}
use Rattle.table.specs.Items.{Item}
use Rattle.table.specs.declared.operations.Call.{Call}
use Rattle.table.specs.declared.operations.Reply.{Reply}
use Rattle.node.specs.Faces.{face_of, look_at}
use Rattle.node.specs.declared.looks.Look.{Look}
use Rattle.node.specs.declared.looks.Look.TheVariants.{Clean, Dirty}
use Rattle.node.specs.declared.messages.Input.{Input}
use Rattle.node.specs.declared.messages.Input.TheVariants.{Call as Called, From, Gone}
use Rattle.node.specs.declared.messages.Peer.{Peer}
use Rattle.interleavings.specs.Chains.{RunningServer, Chain, with_at, with_channel, listed}
use Rattle.interleavings.specs.Chains.{queue, messages_to, without_message, calls_from, replies_to, without_reply}
use Rattle.interleavings.specs.Chains.{Sender, OfSeat, OfServer, OfNotices, is_of, first_of, without_first_of}
use Rattle.interleavings.specs.Moves.{Move, Sends, Takes, Publishes, Puts, Arrives, Replies, Receives, Looks, Stops}
use Rattle.interleavings.specs.Moves.{Notices, brought, took, taking, published, publishing, put, arrived, reply_put}
use Rattle.interleavings.specs.Moves.{is_free, has_stopped, done, received, looked}
use Rattle.interleavings.specs.Senders.{Senders, first_seat}
use Rattle.interleavings.proofs.lists.ChangedFunctions.{at_other, at_same, kept_at}
use Rattle.interleavings.proofs.passing.Taking.{none_of}

module _ (senders : Senders) (g : ℕ) where
  -- the seats of this sender's calls among these inputs, in order
  abbrev pub seats_of : List Input → List ℕ
  seats_of [] = []
  seats_of (Called c call ∷ xs) = cond (senders c == g) (c ∷ seats_of xs) (seats_of xs)
  seats_of (From j m ∷ xs) = seats_of xs
  seats_of (Gone j ∷ xs) = seats_of xs

  one_more : (b : Bool) (c : ℕ) (xs ys zs : List ℕ)
      → zs ≡ xs ++ ys
      → cond b (c ∷ zs) zs ≡ cond b (c ∷ xs) xs ++ ys
  one_more true c xs ys zs e = ap (λ us. c ∷ us) e
  one_more false c xs ys zs e = e

  seats_joined : (xs ys : List Input) → seats_of (xs ++ ys) ≡ seats_of xs ++ seats_of ys
  seats_joined [] ys = refl
  seats_joined (Called c call ∷ xs) ys = one_more (senders c == g) c _ _ _ (seats_joined xs ys)
  seats_joined (From j m ∷ xs) ys = seats_joined xs ys
  seats_joined (Gone j ∷ xs) ys = seats_joined xs ys

  -- an input that is no call of the sender is taken out
  other_out : (s : Sender) (xs : List Input)
      → ((c : ℕ) → s ≡ OfSeat c → (senders c == g) ≡ false)
      → seats_of (without_first_of s xs) ≡ seats_of xs
  other_out s [] h = refl
  other_out s (x ∷ xs) h = by x (is_of s x) refl (other_out s xs h)
    where
      none : (x : Input) → is_of s x ≡ true → (ys : List Input) → seats_of (x ∷ ys) ≡ seats_of ys
      none (From j m) e ys = refl
      none (Gone j) e ys = refl
      none (Called c call) e ys = ap (λ b. cond b (c ∷ seats_of ys) (seats_of ys)) (away s e h)
        where
          away : (s : Sender)
              → is_of s (Called c call) ≡ true
              → ((d : ℕ) → s ≡ OfSeat d → (senders d == g) ≡ false)
              → (senders c == g) ≡ false
          away (OfSeat d) e h = ap (λ q. senders q == g) (eqb-true c d e) ∙ h d refl
          away (OfServer j) e h = absurd (let no : false ≡ true = e in cc)
          away OfNotices e h = absurd (let no : false ≡ true = e in cc)

      kept : (x : Input) (ys zs : List Input) → seats_of ys ≡ seats_of zs → seats_of (x ∷ ys) ≡ seats_of (x ∷ zs)
      kept (Called c call) ys zs e = ap (λ cs. cond (senders c == g) (c ∷ cs) cs) e
      kept (From j m) ys zs e = e
      kept (Gone j) ys zs e = e

      by : (x : Input) (b : Bool)
          → is_of s x ≡ b
          → seats_of (without_first_of s xs) ≡ seats_of xs
          → seats_of (cond b xs (x ∷ without_first_of s xs)) ≡ seats_of (x ∷ xs)
      by x true e f = sym (none x e xs)
      by x false e f = kept x (without_first_of s xs) xs f

  -- the first call of the sender is taken out, and put in front
  first_out : (c : ℕ) (xs : List Input)
      → (senders c == g) ≡ true
      → first_seat senders g xs ≡ Some c
      → c ∷ seats_of (without_first_of (OfSeat c) xs) ≡ seats_of xs
  first_out c [] own e = absurd (let no : None ≡ Some c = e in cc)
  first_out c (From j m ∷ xs) own e = first_out c xs own e
  first_out c (Gone j ∷ xs) own e = first_out c xs own e
  first_out c (Called d call ∷ xs) own e = by (senders d == g) refl e (first_out c xs own)
    where
      by : (b : Bool)
          → (senders d == g) ≡ b
          → cond b (Some d) (first_seat senders g xs) ≡ Some c
          → (first_seat senders g xs ≡ Some c → c ∷ seats_of (without_first_of (OfSeat c) xs) ≡ seats_of xs)
          → c ∷ seats_of (cond (d == c) xs (Called d call ∷ without_first_of (OfSeat c) xs))
          ≡ cond b (d ∷ seats_of xs) (seats_of xs)
      by true is f h =
          let same : d ≡ c = same_Some d c f in
          ap (λ b. c ∷ seats_of (cond b xs (Called d call ∷ without_first_of (OfSeat c) xs))) (eq-eqb d c same)
          ∙ ap (λ q. q ∷ seats_of xs) (sym same)
      by false is f h =
          let other : (d == c) ≡ false =
          ne_eqb d c (λ same. absurd (let no : false ≡ true = sym is ∙ ap (λ q. senders q == g) same ∙ own in cc)) in
          ap (λ b. c ∷ seats_of (cond b xs (Called d call ∷ without_first_of (OfSeat c) xs))) other
          ∙ ap (λ b. c ∷ cond b (d ∷ seats_of (without_first_of (OfSeat c) xs))
          (seats_of (without_first_of (OfSeat c) xs))) is ∙ h f

  -- a taken input is one of its sender
  first_is : (c : ℕ) (x : Input) (xs : List Input)
      → first_of (OfSeat c) xs ≡ Some x
      → (ys : List Input)
      → seats_of (x ∷ ys) ≡ cond (senders c == g) (c ∷ seats_of ys) (seats_of ys)
  first_is c x [] e ys = absurd (let no : None ≡ Some x = e in cc)
  first_is c x (y ∷ xs) e ys = by y (is_of (OfSeat c) y) refl e (first_is c x xs)
    where
      own : (y : Input)
          → is_of (OfSeat c) y ≡ true
          → seats_of (y ∷ ys) ≡ cond (senders c == g) (c ∷ seats_of ys) (seats_of ys)
      own (Called d call) is =
          ap (λ q. cond (senders q == g) (q ∷ seats_of ys) (seats_of ys)) (eqb-true d c is)
      own (From j m) is = absurd (let no : false ≡ true = is in cc)
      own (Gone j) is = absurd (let no : false ≡ true = is in cc)

      by : (y : Input) (b : Bool)
          → is_of (OfSeat c) y ≡ b
          → cond b (Some y) (first_of (OfSeat c) xs) ≡ Some x
          → (first_of (OfSeat c) xs ≡ Some x
          → (zs : List Input)
          → seats_of (x ∷ zs) ≡ cond (senders c == g) (c ∷ seats_of zs) (seats_of zs))
          → seats_of (x ∷ ys) ≡ cond (senders c == g) (c ∷ seats_of ys) (seats_of ys)
      by y true is f h = ap (λ z. seats_of (z ∷ ys)) (sym (same_Some y x f)) ∙ own y is
      by y false is f h = h f ys

  -- an input that is no call
  other_first : (s : Sender) (x : Input) (xs : List Input)
      → ((c : ℕ) → s ≡ OfSeat c → ⊥)
      → first_of s xs ≡ Some x
      → (ys : List Input)
      → seats_of (x ∷ ys) ≡ seats_of ys
  other_first s x [] none e ys = absurd (let no : None ≡ Some x = e in cc)
  other_first s x (y ∷ xs) none e ys = by (is_of s y) refl e (other_first s x xs none)
    where
      own : (s : Sender) (y : Input)
          → ((c : ℕ) → s ≡ OfSeat c → ⊥)
          → is_of s y ≡ true
          → seats_of (y ∷ ys) ≡ seats_of ys
      own (OfSeat c) y none is = absurd (none c refl)
      own (OfServer j) (Called d call) none is = absurd (let no : false ≡ true = is in cc)
      own (OfServer j) (From k m) none is = refl
      own (OfServer j) (Gone k) none is = refl
      own OfNotices (Called d call) none is = absurd (let no : false ≡ true = is in cc)
      own OfNotices (From k m) none is = refl
      own OfNotices (Gone k) none is = refl

      by : (b : Bool)
          → is_of s y ≡ b
          → cond b (Some y) (first_of s xs) ≡ Some x
          → (first_of s xs ≡ Some x → (zs : List Input) → seats_of (x ∷ zs) ≡ seats_of zs)
          → seats_of (x ∷ ys) ≡ seats_of ys
      by true is f h = ap (λ z. seats_of (z ∷ ys)) (sym (same_Some y x f)) ∙ own s y none is
      by false is f h = h f ys

  -- ---- one server

  -- the first call of the sender is taken, or another input: the calls of the sender stay in order
  took_in_order : (s : RunningServer) (x : Sender) (o : Option Input)
      → first_of x s.inbox ≡ o
      → s.unpublished ≡ None
      → ((c : ℕ) → x ≡ OfSeat c → IsSome (first_of (OfSeat c) s.inbox) → first_seat senders (senders c) s.inbox
      ≡ Some c)
      → seats_of (queue (took s x o)) ≡ seats_of (queue s)
  took_in_order s x None e free order = refl
  took_in_order s (OfServer j) (Some input) e free order =
      other_first (OfServer j) input s.inbox (λ c f. (let no : OfServer j ≡ OfSeat c = f in absurd cc)) e
      (without_first_of (OfServer j) s.inbox)
      ∙ other_out (OfServer j) s.inbox (λ c f. (let no : OfServer j ≡ OfSeat c = f in absurd cc))
      ∙ ap (λ u. seats_of (listed u ++ s.inbox)) (sym free)
  took_in_order s OfNotices (Some input) e free order =
      other_first OfNotices input s.inbox (λ c f. (let no : OfNotices ≡ OfSeat c = f in absurd cc)) e
      (without_first_of OfNotices s.inbox)
      ∙ other_out OfNotices s.inbox (λ c f. (let no : OfNotices ≡ OfSeat c = f in absurd cc))
      ∙ ap (λ u. seats_of (listed u ++ s.inbox)) (sym free)
  took_in_order s (OfSeat c) (Some input) e free order =
      first_is c input s.inbox e (without_first_of (OfSeat c) s.inbox)
      ∙ by (senders c == g) refl ∙ ap (λ u. seats_of (listed u ++ s.inbox)) (sym free)
    where
      by : (b : Bool)
          → (senders c == g) ≡ b
          → cond b (c ∷ seats_of (without_first_of (OfSeat c) s.inbox)) (seats_of (without_first_of (OfSeat c) s.inbox))
          ≡ seats_of s.inbox
      by true own =
          let first = order c refl (Rattle.world.proofs.order.Since.is_some _ input e) in
          first_out c s.inbox own (ap (λ q. first_seat senders q s.inbox) (sym (eqb-true (senders c) g own)) ∙ first)
      by false other =
          other_out (OfSeat c) s.inbox (λ d f. ap (λ q. senders q == g) (sym (same_seat c d f)) ∙ other)
        where
          seat_or : Sender → ℕ
          seat_or (OfSeat d) = d
          seat_or (OfServer j) = 0
          seat_or OfNotices = 0

          same_seat : (c d : ℕ) → OfSeat c ≡ OfSeat d → c ≡ d
          same_seat c d f = ap seat_or f

  pub taking_in_order : (s : RunningServer) (x : Sender)
      → ((c : ℕ) → x ≡ OfSeat c → IsSome (first_of (OfSeat c) s.inbox) → first_seat senders (senders c) s.inbox
      ≡ Some c)
      → seats_of (queue (taking s x)) ≡ seats_of (queue s)
  taking_in_order s x order =
      let t = took s x (first_of x s.inbox) in
      cond_both s.stopped s (cond (is_some s.unpublished) s t) (λ u. seats_of (queue u) ≡ seats_of (queue s))
      (λ over. refl)
      (λ going. cond_both (is_some s.unpublished) s t (λ u. seats_of (queue u) ≡ seats_of (queue s))
      (λ busy. refl)
      (λ free. took_in_order s x (first_of x s.inbox) refl (none_of s.unpublished free) order))

  -- A server's queue after a move: the sender's calls are as they were, or without the first one, which is published.
  pub data Less (before after : List ℕ) : Type 0 where
    AsBefore : after ≡ before → Less before after
    FirstOut : (c : ℕ) → before ≡ c ∷ after → Less before after

  publishing_less : (s : RunningServer) → Less (seats_of (queue s)) (seats_of (queue (publishing s)))
  publishing_less s = by s.stopped s.unpublished refl
    where
      out : (x : Input) → Less (seats_of (x ∷ s.inbox)) (seats_of s.inbox)
      out (From j m) = AsBefore refl
      out (Gone j) = AsBefore refl
      out (Called c call) = own (senders c == g)
        where
          own : (b : Bool) → Less (cond b (c ∷ seats_of s.inbox) (seats_of s.inbox)) (seats_of s.inbox)
          own true = FirstOut c refl
          own false = AsBefore refl

      by : (b : Bool) (o : Option Input)
          → s.unpublished ≡ o
          → Less (seats_of (queue s)) (seats_of (queue (cond b s (published s s.unpublished))))
      by true o f = AsBefore refl
      by false None f = AsBefore (ap (λ u. seats_of (queue (published s u))) f)
      by false (Some x) f =
          subst (λ u. Less (seats_of (listed u ++ s.inbox)) (seats_of (queue (published s u)))) (sym f) (out x)

  -- ---- a chain

  -- the sender's calls in the queue of server i
  abbrev pub sent_at : Chain → ℕ → List ℕ
  sent_at l i = seats_of (queue (l.servers i))

  -- no call of the sender comes in
  brought_none : (l : Chain) (j : ℕ) (x : Input) (i : ℕ)
      → seats_of (x ∷ []) ≡ []
      → sent_at (brought l j x) i ≡ sent_at l i
  brought_none l j x i none =
      let s = l.servers j in
      kept_at (λ (t : RunningServer). seats_of (queue t)) l.servers j (record s { inbox = s.inbox ++ x ∷ [] })
      (ap seats_of (sym (append_assoc (listed s.unpublished) s.inbox (x ∷ []))) ∙ seats_joined (queue s) (x ∷ [])
      ∙ ap (λ us. seats_of (queue s) ++ us) none ∙ append-nil (seats_of (queue s))) i

  -- a call that is sent comes last
  pub sent_last : (l : Chain) (i e : ℕ) (call : Call)
      → senders e ≡ g
      → sent_at (brought l i (Called e call)) i ≡ sent_at l i ++ e ∷ []
  sent_last l i e call own =
      let s = l.servers i in
      ap (λ t. seats_of (queue t)) (at_same l.servers i (record s { inbox = s.inbox ++ Called e call ∷ [] }))
      ∙ ap seats_of (sym (append_assoc (listed s.unpublished) s.inbox (Called e call ∷ [])))
      ∙ seats_joined (queue s) (Called e call ∷ [])
      ∙ ap (λ b. seats_of (queue s) ++ cond b (e ∷ []) []) (eq-eqb (senders e) g own)

  -- it comes last, or isn't of the sender or of this server
  pub sent_or_not : (l : Chain) (j i e : ℕ) (call : Call)
      → (sent_at (brought l j (Called e call)) i ≡ sent_at l i ++ e ∷ [])
      ⊎ (sent_at (brought l j (Called e call)) i ≡ sent_at l i)
  sent_or_not l j i e call = elim (cases_eq (senders e) g) [
    | inr other ↦ inr (brought_none l j (Called e call) i
        (ap (λ b. cond b (e ∷ []) []) (ne_eqb (senders e) g other)))
    | inl own ↦ elim (cases_eq i j) [
      | inl same ↦ inl (subst
          (λ k. sent_at (brought l j (Called e call)) k ≡ sent_at l k ++ e ∷ []) (sym same) (sent_last l j e call own))
      | inr away ↦
          let s = l.servers j in
          inr (ap (λ t. seats_of (queue t))
          (at_other l.servers j (record s { inbox = s.inbox ++ Called e call ∷ [] }) i away))
    ]
  ]

  -- the move takes the first call of its sender, if it takes one
  abbrev pub TakesFirst : Chain → Move → Type 0
  TakesFirst l m =
      (i c : ℕ)
      → m ≡ Takes i (OfSeat c)
      → IsSome (first_of (OfSeat c) (l.servers i).inbox)
      → first_seat senders (senders c) (l.servers i).inbox ≡ Some c

  -- Any move but a send leaves the sender's calls, or publishes the first one.
  pub each_less : (l : Chain) (m : Move) (i : ℕ)
      → TakesFirst l m
      → ((c : ℕ) (call : Call) → m ≡ Sends c call → ⊥)
      → Less (sent_at l i) (sent_at (done l m) i)
  each_less l (Sends c call) i first none = absurd (none c call refl)
  each_less l (Takes j x) i first none =
      AsBefore (kept_at (λ (t : RunningServer). seats_of (queue t)) l.servers j (taking (l.servers j) x)
      (taking_in_order (l.servers j) x (λ c same. first j c (ap (Takes j) same))) i)
  each_less l (Publishes j) i first none = elim (cases_eq i j) [
    | inl same ↦
        subst (λ k. Less (sent_at l k) (seats_of (queue (with_at l.servers j (publishing (l.servers j)) k)))) (sym same)
        (subst (λ t. Less (sent_at l j) (seats_of (queue t)))
        (sym (at_same l.servers j (publishing (l.servers j)))) (publishing_less (l.servers j)))
    | inr other ↦ AsBefore (ap (λ t. seats_of (queue t))
        (at_other l.servers j (publishing (l.servers j)) i other))
  ]
  each_less l (Puts j k) i first none = AsBefore (by (l.servers j).stopped (messages_to k (l.servers j).outbox))
    where
      by : (b : Bool) (ms : List Peer) → sent_at (cond b l (put l j k ms)) i ≡ sent_at l i
      by true ms = refl
      by false [] = refl
      by false (m ∷ ms) =
          kept_at (λ (t : RunningServer). seats_of (queue t)) l.servers j
          (record (l.servers j) { outbox = without_message k (l.servers j).outbox }) refl i
  each_less l (Arrives j k) i first none = AsBefore (by (l.channels j k))
    where
      by : (ms : List Peer) → sent_at (arrived l j k ms) i ≡ sent_at l i
      by [] = refl
      by (m ∷ ms) = brought_none (with_channel l j k ms) k (From j m) i refl
  each_less l (Replies j c) i first none =
      AsBefore (by (l.servers j).stopped (replies_to c (l.servers j).outbox))
    where
      by : (b : Bool) (rs : List Reply) → sent_at (cond b l (reply_put l j c (l.seats c) rs)) i ≡ sent_at l i
      by true rs = refl
      by false [] = refl
      by false (r ∷ rs) =
          kept_at (λ (t : RunningServer). seats_of (queue t)) l.servers j
          (record (l.servers j) { outbox = without_reply c (l.servers j).outbox }) refl i
  each_less l (Receives c) i first none = AsBefore (by (l.seats c).queued)
    where
      by : (rs : List Reply) → sent_at (received l c (l.seats c) rs) i ≡ sent_at l i
      by [] = refl
      by (r ∷ rs) = refl
  each_less l (Looks c key) i first none =
      AsBefore (by (is_free (l.seats c) && not (l.servers (l.seats c).home).stopped)
      (look_at (face_of (l.servers (l.seats c).home).node) key))
    where
      by : (b : Bool) (look : Look Item) → sent_at (cond b (looked l c (l.seats c) key look) l) i ≡ sent_at l i
      by true (Clean item) = refl
      by true Dirty = refl
      by false look = refl
  each_less l (Stops j) i first none =
      AsBefore (kept_at (λ (t : RunningServer). seats_of (queue t)) l.servers j
      (record (l.servers j) { stopped = true }) refl i)
  each_less l (Notices j k) i first none = AsBefore (by (has_stopped l k))
    where
      by : (b : Bool) → sent_at (cond b (brought l j (Gone k)) l) i ≡ sent_at l i
      by true = brought_none l j (Gone k) i refl
      by false = refl

  -- ---- how many of a seat

  -- how often a seat stands there
  abbrev pub times : ℕ → List ℕ → ℕ
  times c [] = 0
  times c (e ∷ us) = cond (e == c) 1 0 + times c us

  -- as often as its calls wait
  pub waits_there : (c : ℕ) (xs : List Input) → senders c ≡ g → length (calls_from c xs) ≡ times c (seats_of xs)
  waits_there c [] own = refl
  waits_there c (From j m ∷ xs) own = waits_there c xs own
  waits_there c (Gone j ∷ xs) own = waits_there c xs own
  waits_there c (Called d call ∷ xs) own = by (cases_eq d c) (waits_there c xs own)
    where
      counted : (b : Bool) (cs : List Call) → length (cond b (call ∷ cs) cs) ≡ cond b 1 0 + length cs
      counted true cs = omega arith
      counted false cs = omega arith

      away : (b : Bool)
          → (d == c) ≡ false
          → cond (d == c) 1 0 + times c (seats_of xs) ≡ times c (cond b (d ∷ seats_of xs) (seats_of xs))
      away true f = refl
      away false f = ap (λ t. cond t 1 0 + times c (seats_of xs)) f ∙ omega arith

      by : ((d ≡ c) ⊎ (d ≢ c))
          → length (calls_from c xs) ≡ times c (seats_of xs)
          → length (cond (d == c) (call ∷ calls_from c xs) (calls_from c xs))
          ≡ times c (cond (senders d == g) (d ∷ seats_of xs) (seats_of xs))
      by (inl same) h =
          counted (d == c) (calls_from c xs) ∙ ap (λ n. cond (d == c) 1 0 + n) h
          ∙ sym (ap (λ b. times c (cond b (d ∷ seats_of xs) (seats_of xs)))
          (eq-eqb (senders d) g (ap senders same ∙ own)))
      by (inr other) h =
          counted (d == c) (calls_from c xs) ∙ ap (λ n. cond (d == c) 1 0 + n) h
          ∙ away (senders d == g) (ne_eqb d c other)
