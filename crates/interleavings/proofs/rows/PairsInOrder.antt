-- Two calls of two seats that send by one sender: while the earlier one isn't published, it stands before the later one
-- in their server's queue. So it is published when the later one is.
use Rattle.std.proofs.Common.{◌≡◌, ◌≢◌, ℕ, ◌+◌, ◌<◌, ◌≤◌, Bool, true, false, cond, List, [], ◌∷◌, ◌++◌, length}
use Rattle.std.proofs.Common.{refl, arith, ap, sym, ◌∙◌, subst, ◌⊎◌, inl, inr, length-append}
use Rattle.std.specs.Prelude.{not, ◌&&◌, ◌==◌}
use Rattle.std.proofs.lemmas.Bool.{cases_eq, cases_lt, ne_eqb, eq-eqb}
use Rattle.table.specs.Items.{Item}
use Rattle.table.specs.declared.operations.Call.{Call}
use Rattle.table.specs.declared.operations.Reply.{Reply}
use Rattle.table.specs.declared.operations.Reply.TheVariants.{Value}
use Rattle.node.specs.Faces.{face_of, look_at}
use Rattle.node.specs.declared.looks.Look.{Look}
use Rattle.node.specs.declared.looks.Look.TheVariants.{Clean, Dirty}
use Rattle.node.specs.declared.messages.Input.TheVariants.{Call as Called, Gone}
use Rattle.node.specs.declared.messages.Peer.{Peer}
use Rattle.interleavings.specs.Chains.{Seat, Chain, with_at, with_seat, messages_to, replies_to}
use Rattle.interleavings.specs.Moves.{Move, Sends, Takes, Publishes, Puts, Arrives, Replies, Receives, Looks, Stops}
use Rattle.interleavings.specs.Moves.{Notices, brought, put, arrived, reply_put, received, looked, is_free, read_of}
use Rattle.interleavings.specs.Moves.{has_stopped, done}
use Rattle.interleavings.specs.Senders.{Senders}
use Rattle.interleavings.proofs.lists.ChangedFunctions.{at_other, at_same, kept_at}
use Rattle.interleavings.proofs.rows.SentInOrder.{Less, AsBefore, FirstOut, sent_at, sent_last, sent_or_not, TakesFirst}
use Rattle.interleavings.proofs.rows.SentInOrder.{each_less, times}

-- ---- what a move does with a seat's calls

-- None is begun; or the seat sends one; or it looks, which begins a read.
pub data CallsChange (l : Chain) (m : Move) (c : ℕ) : Type 0 where
  NoneBegun : ((done l m).seats c).calls ≡ (l.seats c).calls → CallsChange l m c
  OneSent : (call : Call)
      → m ≡ Sends c call
      → is_free (l.seats c) ≡ true
      → ((done l m).seats c).calls ≡ (l.seats c).calls ++ call ∷ []
      → CallsChange l m c
  OneLooked : (key : List ℕ)
      → m ≡ Looks c key
      → is_free (l.seats c) ≡ true
      → ((done l m).seats c).calls ≡ (l.seats c).calls ++ read_of key ∷ []
      → CallsChange l m c

module _ (l : Chain) (c : ℕ) where
  sends_change : (d : ℕ) (call : Call) → CallsChange l (Sends d call) c
  sends_change d call = by (is_free (l.seats d)) refl
    where
      chosen : (b : Bool) → is_free (l.seats d) ≡ b
          → done l (Sends d call)
          ≡ cond b
          (brought (with_seat l d (record (l.seats d) { calls = (l.seats d).calls ++ call ∷ [] })) (l.seats d).home
          (Called d call)) l
      chosen b e = ap (λ f. cond f
          (brought (with_seat l d (record (l.seats d) { calls = (l.seats d).calls ++ call ∷ [] })) (l.seats d).home
          (Called d call)) l) e

      by : (b : Bool) → is_free (l.seats d) ≡ b → CallsChange l (Sends d call) c
      by false e = NoneBegun (ap (λ (k : Chain). (k.seats c).calls) (chosen false e))
      by true e = elim (cases_eq c d) [
        | inl same ↦ OneSent call (ap (λ i. Sends i call) (sym same)) (ap (λ i. is_free (l.seats i)) same ∙ e)
            (ap (λ (k : Chain). (k.seats c).calls) (chosen true e)
            ∙ ap (λ i. (with_at l.seats d (record (l.seats d) { calls = (l.seats d).calls ++ call ∷ [] }) i).calls) same
            ∙ ap (λ (t : Seat). t.calls)
            (at_same l.seats d (record (l.seats d) { calls = (l.seats d).calls ++ call ∷ [] }))
            ∙ ap (λ i. (l.seats i).calls ++ call ∷ []) (sym same))
        | inr other ↦ NoneBegun (ap (λ (k : Chain). (k.seats c).calls) (chosen true e)
            ∙ ap (λ (t : Seat). t.calls)
            (at_other l.seats d (record (l.seats d) { calls = (l.seats d).calls ++ call ∷ [] }) c other))
      ]

  looks_change : (d : ℕ) (key : List ℕ) → CallsChange l (Looks d key) c
  looks_change d key =
      by (is_free (l.seats d)) (not (l.servers (l.seats d).home).stopped)
      (look_at (face_of (l.servers (l.seats d).home).node) key) refl refl refl
    where
      by : (f b : Bool) (look : Look Item)
          → is_free (l.seats d) ≡ f
          → not (l.servers (l.seats d).home).stopped ≡ b
          → look_at (face_of (l.servers (l.seats d).home).node) key ≡ look
          → CallsChange l (Looks d key) c
      by f b look e g k = at f b look e (ap (λ t. cond (t && not (l.servers (l.seats d).home).stopped)
          (looked l d (l.seats d) key (look_at (face_of (l.servers (l.seats d).home).node) key)) l) e
          ∙ ap (λ t. cond (f && t)
          (looked l d (l.seats d) key (look_at (face_of (l.servers (l.seats d).home).node) key)) l) g
          ∙ ap (λ t. cond (f && b) (looked l d (l.seats d) key t) l) k)
        where
          at : (f b : Bool) (look : Look Item)
              → is_free (l.seats d) ≡ f
              → done l (Looks d key) ≡ cond (f && b) (looked l d (l.seats d) key look) l
              → CallsChange l (Looks d key) c
          at true true (Clean item) e is =
              let s : Seat = record (l.seats d) {
                calls = (l.seats d).calls ++ read_of key ∷ [];
                got = (l.seats d).got ++ Value item ∷ [];
              } in
              elim (cases_eq c d) [
                | inl same ↦ OneLooked key (ap (λ i. Looks i key) (sym same)) (ap (λ i. is_free (l.seats i)) same ∙ e)
                    (ap (λ (k : Chain). (k.seats c).calls) is
                    ∙ ap (λ i. (with_at l.seats d s i).calls) same
                    ∙ ap (λ (t : Seat). t.calls) (at_same l.seats d s)
                    ∙ ap (λ i. (l.seats i).calls ++ read_of key ∷ []) (sym same))
                | inr other ↦ NoneBegun (ap (λ (k : Chain). (k.seats c).calls) is
                    ∙ ap (λ (t : Seat). t.calls) (at_other l.seats d s c other))
              ]
          at true true Dirty e is = NoneBegun (ap (λ (k : Chain). (k.seats c).calls) is)
          at true false look e is = NoneBegun (ap (λ (k : Chain). (k.seats c).calls) is)
          at false b look e is = NoneBegun (ap (λ (k : Chain). (k.seats c).calls) is)

  pub calls_change : (m : Move) → CallsChange l m c
  calls_change (Sends d call) = sends_change d call
  calls_change (Takes i sender) = NoneBegun refl
  calls_change (Publishes i) = NoneBegun refl
  calls_change (Puts i j) = NoneBegun (by (l.servers i).stopped (messages_to j (l.servers i).outbox))
    where
      by : (b : Bool) (ms : List Peer) → ((cond b l (put l i j ms)).seats c).calls ≡ (l.seats c).calls
      by true ms = refl
      by false [] = refl
      by false (m ∷ ms) = refl
  calls_change (Arrives i j) = NoneBegun (by (l.channels i j))
    where
      by : (ms : List Peer) → ((arrived l i j ms).seats c).calls ≡ (l.seats c).calls
      by [] = refl
      by (m ∷ ms) = refl
  calls_change (Replies i d) = NoneBegun (by (l.servers i).stopped (replies_to d (l.servers i).outbox))
    where
      by : (b : Bool) (rs : List Reply)
          → ((cond b l (reply_put l i d (l.seats d) rs)).seats c).calls ≡ (l.seats c).calls
      by true rs = refl
      by false [] = refl
      by false (r ∷ rs) =
          kept_at (λ (t : Seat). t.calls) l.seats d (record (l.seats d) {
            queued =
                (l.seats d).queued ++ r ∷ [];
          }) refl c
  calls_change (Receives d) = NoneBegun (by (l.seats d).queued)
    where
      by : (rs : List Reply) → ((received l d (l.seats d) rs).seats c).calls ≡ (l.seats c).calls
      by [] = refl
      by (r ∷ rs) =
          kept_at (λ (t : Seat). t.calls) l.seats d
          (record (l.seats d) { got = (l.seats d).got ++ r ∷ []; queued = rs }) refl c
  calls_change (Looks d key) = looks_change d key
  calls_change (Stops i) = NoneBegun refl
  calls_change (Notices i j) = NoneBegun (by (has_stopped l j))
    where
      by : (b : Bool) → ((cond b (brought l i (Gone j)) l).seats c).calls ≡ (l.seats c).calls
      by true = refl
      by false = refl

-- ---- two seats of one sender

module _ (senders : Senders) (g : ℕ) (c d : ℕ) where
  -- of the two, c stands first
  abbrev pub leads : List ℕ → Bool
  leads [] = false
  leads (e ∷ us) = cond (e == c) true (cond (e == d) false (leads us))

  leads_on : (us vs : List ℕ) → leads us ≡ true → leads (us ++ vs) ≡ true
  leads_on [] vs h = absurd (let no : false ≡ true = h in cc)
  leads_on (e ∷ us) vs h = by (e == c) (e == d) h (leads_on us vs)
    where
      by : (a b : Bool)
          → cond a true (cond b false (leads us)) ≡ true
          → (leads us ≡ true → leads (us ++ vs) ≡ true)
          → cond a true (cond b false (leads (us ++ vs))) ≡ true
      by true b f k = refl
      by false true f k = absurd (let no : false ≡ true = f in cc)
      by false false f k = k f

  leads_first : (us vs : List ℕ)
      → 1 ≤ times senders g c us
      → times senders g d us ≡ 0
      → leads (us ++ vs) ≡ true
  leads_first [] vs some none = absurd (omega (arith, some))
  leads_first (e ∷ us) vs some none = by (e == c) (e == d) some none (leads_first us vs)
    where
      by : (a b : Bool)
          → 1 ≤ cond a 1 0 + times senders g c us
          → cond b 1 0 + times senders g d us ≡ 0
          → (1 ≤ times senders g c us → times senders g d us ≡ 0 → leads (us ++ vs) ≡ true)
          → cond a true (cond b false (leads (us ++ vs))) ≡ true
      by true b f n k = refl
      by false true f n k = absurd (omega (arith, n))
      by false false f n k = k (omega (arith, f)) (omega (arith, n))

  leads_out : (e : ℕ) (us : List ℕ) → leads (e ∷ us) ≡ true → (e ≡ c) ⊎ ((e ≢ d) × (leads us ≡ true))
  leads_out e us h = elim (cases_eq e c) [
    | inl same ↦ inl same
    | inr other ↦ elim (cases_eq e d) [
      | inl same ↦ absurd (let no : false ≡ true =
          sym (ap (λ b. cond b true (cond (e == d) false (leads us))) (ne_eqb e c other)
          ∙ ap (λ b. cond b false (leads us)) (eq-eqb e d same)) ∙ h in cc)
      | inr away ↦ inr (
        away,
        sym (ap (λ b. cond b true (cond (e == d) false (leads us))) (ne_eqb e c other)
            ∙ ap (λ b. cond b false (leads us)) (ne_eqb e d away)) ∙ h,
      )
    ]
  ]

  once_more : (f e : ℕ) (us : List ℕ)
      → times senders g f (us ++ e ∷ []) ≡ times senders g f us + cond (e == f) 1 0
  once_more f e [] = omega arith
  once_more f e (u ∷ us) = omega (arith, once_more f e us)

  abbrev as_number : Bool → ℕ
  as_number b = cond b 1 0

  one_if : (e f : ℕ) → e ≡ f → ◌≡◌ {A = ℕ} (cond (e == f) 1 0) 1
  one_if e f same = ap (λ b. as_number b) (eq-eqb e f same)

  none_if : (e f : ℕ) → e ≢ f → ◌≡◌ {A = ℕ} (cond (e == f) 1 0) 0
  none_if e f other = ap (λ b. as_number b) (ne_eqb e f other)

  module _ (i X Y : ℕ) (l : Chain) (m : Move) where
    abbrev after : Chain
    after = done l m

    abbrev begun : Chain → ℕ → ℕ
    begun k e = length (k.seats e).calls

    abbrev there : Chain → List ℕ
    there k = sent_at senders g k i

    -- the call X of seat c is published, or of the two seats' calls one of c stands first
    abbrev pub Passed : Chain → Type 0
    Passed k = (X + times senders g c (there k) < begun k c) ⊎ (leads (there k) ≡ true)

    -- What holds before the move: the seats' server and sender; that a seat that is free waits for nothing, and one
    -- call of a seat waits at most; that the first call of a sender is taken; that X is begun before Y; and that Y is
    -- no read.
    pub record Ready : Type 0 where
      pub own : senders d ≡ g
      pub home : (l.seats d).home ≡ i
      pub first : TakesFirst senders g l m
      pub idle : is_free (l.seats d) ≡ true → times senders g d (there l) ≡ 0
      pub one : times senders g c (there l) ≤ 1
      pub earlier : Y < begun after d → X < begun l c
      pub apart : c ≡ d → X < Y
      pub no_read : (key : List ℕ) → m ≡ Looks d key → Y < begun after d → Y < begun l d

    module _ (r : Ready) where
      grows : (e : ℕ) → begun l e ≤ begun after e
      grows e = by (calls_change l e m)
        where
          by : CallsChange l m e → length (l.seats e).calls ≤ length ((done l m).seats e).calls
          by (NoneBegun same) = (let n = ap (λ cs. length cs) same in omega (arith, n))
          by (OneSent call is free same) =
              let n = ap (λ cs. length cs) same ∙ length-append (l.seats e).calls (call ∷ []) in omega (arith, n)
          by (OneLooked key is free same) =
              let n = ap (λ cs. length cs) same ∙ length-append (l.seats e).calls (read_of key ∷ []) in omega (arith, n)

      -- a move that sends nothing
      less_passed : Less senders g (there l) (there after)
          → X < begun l c
          → Passed l
          → Passed after
      less_passed (AsBefore same) early (inl p) =
          let n = ap (times senders g c) same in
          let more = grows c in
          inl (omega (arith, p, n, more))
      less_passed (AsBefore same) early (inr p) = inr (ap leads same ∙ p)
      less_passed (FirstOut e out) early (inl p) =
          let n = ap (times senders g c) out in
          let more = grows c in
          inl (omega (arith, p, n, more))
      less_passed (FirstOut e out) early (inr p) = by (leads_out e (there after) (sym (ap leads out) ∙ p))
        where
          by : (e ≡ c) ⊎ ((e ≢ d) × (leads (sent_at senders g (done l m) i) ≡ true)) → Passed (done l m)
          by (inl same) =
              let n = ap (times senders g c) out in
              let some = one_if e c same in
              let few = r.one in
              let more = grows c in
              inl (omega (arith, early, n, some, few, more))
          by (inr other) = inr other.1

      -- ---- a send

      -- what a free seat's send makes of the chain
      sent_is : (e : ℕ) (call : Call)
          → is_free (l.seats e) ≡ true
          → done l (Sends e call)
          ≡ brought (with_seat l e (record (l.seats e) { calls = (l.seats e).calls ++ call ∷ [] })) (l.seats e).home
          (Called e call)
      sent_is e call free =
          ap (λ b. cond b
          (brought (with_seat l e (record (l.seats e) { calls = (l.seats e).calls ++ call ∷ [] })) (l.seats e).home
          (Called e call)) l) free

      sent_calls : (e : ℕ) (call : Call)
          → m ≡ Sends e call
          → is_free (l.seats e) ≡ true
          → begun after e ≡ begun l e + 1
      sent_calls e call is free =
          ap (λ k. length ((done l k).seats e).calls) is
          ∙ ap (λ (k : Chain). length (k.seats e).calls) (sent_is e call free)
          ∙ ap (λ (t : Seat). length t.calls)
          (at_same l.seats e (record (l.seats e) { calls = (l.seats e).calls ++ call ∷ [] }))
          ∙ length-append (l.seats e).calls (call ∷ [])

      sent_there : (call : Call)
          → m ≡ Sends d call
          → is_free (l.seats d) ≡ true
          → there after ≡ there l ++ d ∷ []
      sent_there call is free =
          let x = with_seat l d (record (l.seats d) { calls = (l.seats d).calls ++ call ∷ [] }) in
          ap (λ k. sent_at senders g (done l k) i) is ∙ ap (λ k. sent_at senders g k i) (sent_is d call free)
          ∙ ap (λ j. sent_at senders g (brought x j (Called d call)) i) r.home
          ∙ sent_last senders g x i d call r.own

      -- the sender's calls are kept, or the first is published, or one comes last
      data QueueChange : Type 0 where
        Kept : Less senders g (there l) (there after) → QueueChange
        Last : (e : ℕ) (call : Call)
            → m ≡ Sends e call
            → is_free (l.seats e) ≡ true
            → there after ≡ there l ++ e ∷ []
            → QueueChange

      queue_change : (k : Move) → m ≡ k → QueueChange
      queue_change (Sends e call) is = by (is_free (l.seats e)) refl
        where
          chain_is : (b : Bool)
              → is_free (l.seats e) ≡ b
              → done l m
              ≡ cond b
              (brought (with_seat l e (record (l.seats e) { calls = (l.seats e).calls ++ call ∷ [] })) (l.seats e).home
              (Called e call)) l
          chain_is b f = ap (done l) is ∙ ap (λ t. cond t
              (brought (with_seat l e (record (l.seats e) { calls = (l.seats e).calls ++ call ∷ [] })) (l.seats e).home
              (Called e call)) l) f

          by : (b : Bool) → is_free (l.seats e) ≡ b → QueueChange
          by false f = Kept (AsBefore (ap (λ k. sent_at senders g k i) (chain_is false f)))
          by true f =
              let x = with_seat l e (record (l.seats e) { calls = (l.seats e).calls ++ call ∷ [] }) in
              elim (sent_or_not senders g x (l.seats e).home i e call) [
                | inl last ↦ Last e call is f (ap (λ k. sent_at senders g k i) (chain_is true f) ∙ last)
                | inr none ↦ Kept (AsBefore (ap (λ k. sent_at senders g k i) (chain_is true f) ∙ none))
              ]
      queue_change (Takes j x) is =
          Kept (each_less senders g l m i r.first (λ e call f. (let no : Takes j x ≡ Sends e call = sym is
          ∙ f in absurd cc)))
      queue_change (Publishes j) is =
          Kept (each_less senders g l m i r.first
          (λ e call f. (let no : Publishes j ≡ Sends e call = sym is ∙ f in absurd cc)))
      queue_change (Puts j k) is =
          Kept (each_less senders g l m i r.first (λ e call f. (let no : Puts j k ≡ Sends e call = sym is
          ∙ f in absurd cc)))
      queue_change (Arrives j k) is =
          Kept (each_less senders g l m i r.first
          (λ e call f. (let no : Arrives j k ≡ Sends e call = sym is ∙ f in absurd cc)))
      queue_change (Replies j k) is =
          Kept (each_less senders g l m i r.first
          (λ e call f. (let no : Replies j k ≡ Sends e call = sym is ∙ f in absurd cc)))
      queue_change (Receives j) is =
          Kept (each_less senders g l m i r.first
          (λ e call f. (let no : Receives j ≡ Sends e call = sym is ∙ f in absurd cc)))
      queue_change (Looks j key) is =
          Kept (each_less senders g l m i r.first
          (λ e call f. (let no : Looks j key ≡ Sends e call = sym is ∙ f in absurd cc)))
      queue_change (Stops j) is =
          Kept (each_less senders g l m i r.first (λ e call f. (let no : Stops j ≡ Sends e call = sym is
          ∙ f in absurd cc)))
      queue_change (Notices j k) is =
          Kept (each_less senders g l m i r.first
          (λ e call f. (let no : Notices j k ≡ Sends e call = sym is ∙ f in absurd cc)))

      last_passed : (e : ℕ) (call : Call)
          → m ≡ Sends e call
          → is_free (l.seats e) ≡ true
          → there after ≡ there l ++ e ∷ []
          → Passed l
          → Passed after
      last_passed e call is free last (inr p) = inr (ap leads last ∙ leads_on (there l) (e ∷ []) p)
      last_passed e call is free last (inl p) =
          let n = ap (times senders g c) last ∙ once_more c e (there l) in
          elim (cases_eq e c) [
            | inl same ↦
                let more = subst (λ x. length ((done l m).seats x).calls ≡ length (l.seats x).calls + 1) same
                (sent_calls e call is free) in
                let one = one_if e c same in
                inl (omega (arith, p, n, more, one))
            | inr other ↦
                let none = none_if e c other in
                let more = grows c in
                inl (omega (arith, p, n, more, none))
          ]

      -- the call Y is sent now
      new_passed : (call : Call)
          → m ≡ Sends d call
          → is_free (l.seats d) ≡ true
          → X < begun l c
          → Passed after
      new_passed call is free early =
          let last = sent_there call is free in
          let n = ap (times senders g c) last ∙ once_more c d (there l) in
          let none = r.idle free in
          elim (cases_eq d c) [
            | inl same ↦
                let more = subst (λ x. length ((done l m).seats x).calls ≡ length (l.seats x).calls + 1) same
                (sent_calls d call is free) in
                let one = one_if d c same in
                let no = subst (λ x. times senders g x (sent_at senders g l i) ≡ 0) same none in
                inl (omega (arith, early, n, more, one, no))
            | inr other ↦ elim (cases_lt 0 (times senders g c (there l))) [
              | inl some ↦ inr (ap leads last ∙ leads_first (there l) (d ∷ []) (omega (arith, some)) none)
              | inr few ↦
                  let away = none_if d c other in
                  let more = grows c in
                  inl (omega (arith, early, n, more, away, few))
            ]
          ]

      -- so it is after the move, if Y is begun then
      pub passed_then : (Y < begun l d → Passed l) → Y < begun after d → Passed after
      passed_then before now = by (calls_change l d m)
        where
          old : Y < length (l.seats d).calls → Passed (done l m)
          old h = of (queue_change m refl)
            where
              of : QueueChange → Passed (done l m)
              of (Kept less) = less_passed less (r.earlier now) (before h)
              of (Last e call is free last) = last_passed e call is free last (before h)

          by : CallsChange l m d → Passed (done l m)
          by (NoneBegun same) = old (let n = ap (λ cs. length cs) same in omega (arith, n, now))
          by (OneLooked key is free same) = old (r.no_read key is now)
          by (OneSent call is free same) = elim (cases_lt Y (length (l.seats d).calls)) [
            | inl h ↦ old h
            | inr new ↦ new_passed call is free (r.earlier now)
          ]

      -- and if the move publishes Y, X is published before
      pub published_before : (Y < begun l d → Passed l)
          → begun l d ≤ Y + times senders g d (there l)
          → Y + times senders g d (there after) < begun after d
          → X + times senders g c (there l) < begun l c
      published_before before none now = by (calls_change l d m)
        where
          first_out : (e : ℕ)
              → sent_at senders g l i ≡ e ∷ sent_at senders g (done l m) i
              → length ((done l m).seats d).calls ≡ length (l.seats d).calls
              → leads (sent_at senders g l i) ≡ true
              → X + times senders g c (sent_at senders g l i) < length (l.seats c).calls
          first_out e out same p = elim (cases_eq e d) [
            | inr other ↦
                let n = ap (times senders g d) out in
                let away = none_if e d other in
                absurd (omega (arith, none, now, n, away, same))
            | inl own ↦ elim (leads_out e (sent_at senders g (done l m) i) (sym (ap leads out) ∙ p)) [
              | inr away ↦ absurd (away.0 own)
              | inl first ↦
                  let both : c ≡ d = sym first ∙ own in
                  let less = r.apart both in
                  let few = r.one in
                  let calls = ap (λ x. length (l.seats x).calls) both in
                  omega (arith, less, few, calls, now, same)
            ]
          ]

          kept : length ((done l m).seats d).calls ≡ length (l.seats d).calls
              → leads (sent_at senders g l i) ≡ true
              → QueueChange
              → X + times senders g c (sent_at senders g l i) < length (l.seats c).calls
          kept same p (Kept (AsBefore still)) =
              let n = ap (times senders g d) still in absurd (omega (arith, none, now, n, same))
          kept same p (Kept (FirstOut e out)) = first_out e out same p
          kept same p (Last e call is free last) =
              let n = ap (times senders g d) last ∙ once_more d e (sent_at senders g l i) in
              absurd (omega (arith, none, now, n, same))

          by : CallsChange l m d → X + times senders g c (sent_at senders g l i) < length (l.seats c).calls
          by (NoneBegun same) =
              let n = ap (λ cs. length cs) same in
              of (before (omega (arith, n, now))) n
            where
              of : Passed l
                  → length ((done l m).seats d).calls ≡ length (l.seats d).calls
                  → X + times senders g c (sent_at senders g l i) < length (l.seats c).calls
              of (inl p) n = p
              of (inr p) n = kept n p (queue_change m refl)
          by (OneLooked key is free same) =
              let idle = r.idle free in
              let early = r.no_read key is (omega (arith, now)) in
              absurd (omega (arith, none, idle, early))
          by (OneSent call is free same) =
              let n = ap (times senders g d) (sent_there call is free) ∙ once_more d d (sent_at senders g l i) in
              let one = one_if d d refl in
              let more = sent_calls d call is free in
              absurd (omega (arith, none, now, n, one, more))
