-- Each move keeps the rule of the inbox.
use Rattle.std.proofs.Common.{◌≡◌, ◌≢◌, ℕ, ◌+◌, ◌<◌, ◌≤◌, ◌==◌, if◌then◌else◌, zero, suc, Bool, true, false, true≢false}
use Rattle.std.proofs.Common.{List, [], ◌∷◌, ◌++◌, length, set, sym, refl, ap, ◌∙◌, ◌⊎◌, inl, inr, subst, ⊎_elim}
use Rattle.std.proofs.Common.{append_assoc, arith}
use mathlib.Core.Option.{Option, some, none, some-injective, some-ne-none}
use lib.ListN.{get_elem?}
use Rattle.std.proofs.lemmas.Bool.Decides.{nat_tests}
use Rattle.crossbeam_channel.specs.Fifo.{Pushes, Pops, Forks}
use Rattle.atomic_table.proofs.Lists.{at_set}
use Rattle.rail.specs.declared.inbox_messages.InboxMessage.{InboxMessage}
use Rattle.rail.specs.declared.inbox_messages.Envelope.{Envelope}
use Rattle.rail.specs.declared.inbox.InboxKnowledge.{InboxKnowledge}
use Rattle.rail.specs.declared.inbox_messages.InboxMessage.TheVariants.{Took, Stop, End}
use Rattle.node.specs.Replies.{AreCallsBelow}
use Rattle.rail.specs.InboxMessages.{IsBelow, AreBelow}
use Rattle.rail.specs.Inbox.{nobody, sender, taker, of, Fits, Delivers}
use Rattle.node.specs.declared.messages.Input.{Input}
use Rattle.node.specs.declared.messages.Input.TheVariants.{Call as Called, From, Gone}

at_end : (l : List InboxKnowledge) (a b : InboxKnowledge) (j : ℕ)
    → get_elem? l j ≢ some b
    → get_elem? (l ++ a ∷ []) j ≡ some b
    → j ≡ length l
at_end [] a b zero n e = refl
at_end [] a b (suc j) n e = absurd (some-ne-none b (sym e))
at_end (x ∷ xs) a b zero n e = absurd (n e)
at_end (x ∷ xs) a b (suc j) n e = ap suc (at_end xs a b j n e)

beyond : (l : List InboxKnowledge) (b : InboxKnowledge) → get_elem? l (length l) ≢ some b
beyond [] b e = some-ne-none b (sym e)
beyond (x ∷ xs) b e = beyond xs b e

abbrev All : (ℕ → InboxKnowledge → Type 0) → List InboxKnowledge → Type 0
All F views = (port : ℕ) (v : InboxKnowledge) → get_elem? views port ≡ some v → F port v

all_set : (F : ℕ → InboxKnowledge → Type 0) (views : List InboxKnowledge) (port : ℕ) (w : InboxKnowledge)
    → F port w
    → ((j : ℕ) (u : InboxKnowledge) → j ≢ port → get_elem? views j ≡ some u → F j u)
    → All F (set views port w)
all_set F views port w mine others j u e =
    ⊎_elim (λ (x : (j ≡ port) × (w ≡ u)). subst (λ (y : ℕ × InboxKnowledge). F y.0 y.1) (λ i. (sym x.0 i, x.1 i)) mine)
    (λ (x : (j ≢ port) × (get_elem? views j ≡ some u)). others j u x.0 x.1) (at_set views port j w u e)

swap : (a b : Bool) (xs : List InboxMessage) (i j : InboxMessage)
    → (if a then i ∷ (if b then xs ++ j ∷ [] else xs) else (if b then xs ++ j ∷ [] else xs))
    ≡ (if b then (if a then i ∷ xs else xs) ++ j ∷ [] else (if a then i ∷ xs else xs))
swap true true xs i j = refl
swap true false xs i j = refl
swap false true xs i j = refl
swap false false xs i j = refl

of_snoc : (p : ℕ) (ms : List Envelope) (m : Envelope)
    → of p (ms ++ m ∷ []) ≡ (if p == m.from then of p ms ++ m.inbox_message ∷ [] else of p ms)
of_snoc p [] m = refl
of_snoc p (x ∷ xs) m = ap (λ (l : List InboxMessage). if p == x.from then x.inbox_message ∷ l else l) (of_snoc p xs m)
    ∙ swap (p == x.from) (p == m.from) (of p xs) x.inbox_message m.inbox_message

-- what was sent, with one input more of this sender
abbrev put_at : (ℕ → List InboxMessage) → ℕ → InboxMessage → ℕ → List InboxMessage
put_at sent from x p = if p == from then sent p ++ x ∷ [] else sent p

same : (p : ℕ) → (p == p) ≡ true
same p = grind (arith, nat_tests)

other : (p q : ℕ) → p ≢ q → (p == q) ≡ false
other p q n = grind (arith, nat_tests, n)

here : (sent : ℕ → List InboxMessage) (from : ℕ) (x : InboxMessage) → put_at sent from x from ≡ sent from ++ x ∷ []
here sent from x = ap (λ (b : Bool). if b then sent from ++ x ∷ [] else sent from) (same from)

there : (sent : ℕ → List InboxMessage) (from : ℕ) (x : InboxMessage) (p : ℕ) → p ≢ from → put_at sent from x p ≡ sent p
there sent from x p n = ap (λ (b : Bool). if b then sent p ++ x ∷ [] else sent p) (other p from n)

at_new : (l : List InboxKnowledge) (a b : InboxKnowledge) (j : ℕ)
    → get_elem? (l ++ a ∷ []) j ≡ some b
    → ((get_elem? l j ≡ some b) × (j < length l)) ⊎ ((a ≡ b) × (j ≡ length l))
at_new [] a b zero e = inr (some-injective a b e, refl)
at_new [] a b (suc j) e = absurd (some-ne-none b (sym e))
at_new (x ∷ xs) a b zero e = inl (e, omega arith)
at_new (x ∷ xs) a b (suc j) e =
    ⊎_elim (λ t. let n = t.1 in inl (t.0, omega arith)) (λ t. inr (t.0, ap suc t.1)) (at_new xs a b j e)

pub begins : Delivers [] (taker 0 0 [] ∷ [])
begins = record {
  reader = 0;
  seat = λ _. none;
  sent = λ _. [];
  got = [];
  ports = 0;
  order = λ p. refl;
  below = tt;
  each = all_set (Fits 0 (λ _. none) (λ _. []) [] 0) (taker 0 0 [] ∷ []) 0 (taker 0 0 [])
      ((λ s. absurd (true≢false (sym s))), λ _. (refl, refl, refl, λ p _. (refl, refl)))
      (λ j u n e. absurd (n (at_end [] _ u j (λ x. some-ne-none u (sym x)) e)));
}

-- ---- ports

input_more : (a b : ℕ) (i : Input) → a ≤ b → AreCallsBelow a (i ∷ []) → AreCallsBelow b (i ∷ [])
input_more a b (Called port call) le h = (omega (arith, le, h.0), tt)
input_more a b (From i peer) le h = tt
input_more a b (Gone j) le h = tt

below_more : (a b : ℕ) (e : InboxMessage) → a ≤ b → IsBelow a e → IsBelow b e
below_more a b (Took input) le h = input_more a b input le h
below_more a b Stop le h = tt
below_more a b End le h = tt

are_more : (a b : ℕ) (ms : List Envelope) → a ≤ b → AreBelow a ms → AreBelow b ms
are_more a b [] le h = tt
are_more a b (m ∷ ms) le h = (below_more a b m.inbox_message le h.0, are_more a b ms le h.1)

below_snoc : (ports : ℕ) (ms : List Envelope) (x : Envelope)
    → AreBelow ports ms
    → IsBelow ports x.inbox_message
    → AreBelow ports (ms ++ x ∷ [])
below_snoc ports [] x h e = (e, tt)
below_snoc ports (m ∷ ms) x h e = (h.0, below_snoc ports ms x h.1 e)

-- ---- the moves

pub sends : (n pass from ports : ℕ) (put : List InboxMessage) (x : Envelope) → x.from ≡ from
    → IsBelow ports x.inbox_message
    → Pushes Delivers n pass (sender from ports put) x (λ w. w ≡ sender from ports (put ++ x.inbox_message ∷ []))
sends n pass from ports put x is port items views _ h at =
    let mine = (h.each pass (sender from ports put) at).0 refl in
    let sent' : ℕ → List InboxMessage = put_at h.sent from x.inbox_message in
    let w : InboxKnowledge = sender from ports (put ++ x.inbox_message ∷ []) in (
      w,
      record {
        reader = h.reader;
        seat = h.seat;
        sent = sent';
        got = h.got;
        ports = h.ports;
        order = λ p.
            ap (of p) (sym (append_assoc h.got items (x ∷ []))) ∙ of_snoc p (h.got ++ items) x
            ∙ (ap (λ (k : ℕ). if p == k then of p (h.got ++ items) ++ x.inbox_message ∷ [] else of p (h.got ++ items))
            is
            ∙ ap (λ (l : List InboxMessage). if p == from then l ++ x.inbox_message ∷ [] else l) (h.order p));
        below = below_snoc h.ports items x h.below (below_more ports h.ports x.inbox_message mine.2 port);
        each = all_set (Fits h.reader h.seat sent' h.got h.ports) views pass w (
          (λ _. (
            mine.0,
            ap (λ (l : List InboxMessage). l ++ x.inbox_message ∷ []) mine.1 ∙ sym (here h.sent from x.inbox_message),
            mine.2,
          )),
          λ g. absurd (true≢false (sym g)),
        )
            (λ j u apart e.
            let old = h.each j u e in (
              (λ s.
                  let o = old.0 s in (
                    o.0,
                    o.1 ∙ sym (there h.sent from x.inbox_message u.from
                        (λ same. apart (some-injective j pass (sym o.0 ∙ (ap h.seat same ∙ mine.0))))),
                    o.2,
                  )),
              (λ g.
                  let o = old.1 g in (
                    o.0,
                    o.1,
                    o.2,
                    λ p le. let q = o.3 p le in (
                      q.0,
                      there h.sent from x.inbox_message p
                          (λ same. some-ne-none pass (sym mine.0 ∙ (ap h.seat (sym same) ∙ q.0))) ∙ q.1,
                    ),
                  )),
            ));
      },
      refl,
    )

pub takes : (pass made ports : ℕ) (got : List Envelope)
    → Pops Delivers pass (taker made ports got) (λ x w. (w ≡ taker made ports (got ++ x ∷ []))
    × IsBelow ports x.inbox_message)
takes pass made ports got x items views h at =
    let mine = (h.each pass (taker made ports got) at).1 refl in
    let got' = h.got ++ x ∷ [] in
    let w : InboxKnowledge = taker made ports (got ++ x ∷ []) in (
      w,
      record {
        reader = h.reader;
        seat = h.seat;
        sent = h.sent;
        got = got';
        ports = h.ports;
        order = λ p. ap (of p) (append_assoc h.got (x ∷ []) items) ∙ h.order p;
        below = h.below.1;
        each = all_set (Fits h.reader h.seat h.sent got' h.ports) views pass w (
          (λ s. absurd (true≢false (sym s))),
          λ _. (mine.0, ap (λ (l : List Envelope). l ++ x ∷ []) mine.1, mine.2, mine.3),
        )
            (λ j u apart e. let old = h.each j u e in (old.0, λ g. absurd (apart ((old.1 g).0 ∙ sym mine.0))));
      },
      (refl, subst (λ (n : ℕ). IsBelow n x.inbox_message) (sym mine.2) h.below.0),
    )

-- the seats, with one more
abbrev seat_at : (ℕ → Option ℕ) → ℕ → ℕ → ℕ → Option ℕ
seat_at seat made pass p = if p == made then some pass else seat p

pub makes : (pass made ports own more : ℕ) (got : List Envelope) → ports ≤ more → own ≤ more
    → Forks Delivers pass (taker made ports got) (taker (made + 1) more got) (sender made own [])
makes pass made ports own more got up owned items views h at =
    let mine = (h.each pass (taker made ports got) at).1 refl in
    let vs : List InboxKnowledge = set views pass (taker (made + 1) more got) in
    let seat' : ℕ → Option ℕ = seat_at h.seat made (length vs) in
    let fresh = mine.3 made (omega arith) in
    let rise : h.ports ≤ more = omega (arith, up, mine.2) in
    let keeps : (p : ℕ) → p ≢ made → seat' p ≡ h.seat p =
    λ p n. ap (λ (b : Bool). if b then some (length vs) else h.seat p) (other p made n) in
    let old : All (Fits h.reader seat' h.sent h.got more) vs =
    all_set (Fits h.reader seat' h.sent h.got more) views pass (taker (made + 1) more got) (
      (λ s. absurd (true≢false (sym s))),
      λ _. (
        mine.0,
        mine.1,
        refl,
        λ p le. let q = mine.3 p (omega arith) in (keeps p (λ e. omega (arith, e, le)) ∙ q.0, q.1),
      ),
    )
    (λ j u apart e.
    let o = h.each j u e in (
      (λ s. let m = o.0 s in (
        keeps u.from (λ is. some-ne-none j (sym m.0 ∙ (ap h.seat is ∙ fresh.0))) ∙ m.0,
        m.1,
        omega (arith, m.2, rise),
      )),
      λ g. absurd (apart ((o.1 g).0 ∙ sym mine.0)),
    )) in record {
      reader = h.reader;
      seat = seat';
      sent = h.sent;
      got = h.got;
      ports = more;
      order = h.order;
      below = are_more h.ports more items rise h.below;
      each = λ j u e.
          ⊎_elim (λ (t : (get_elem? vs j ≡ some u) × (j < length vs)). old j u t.0)
          (λ (t : (sender made own [] ≡ u) × (j ≡ length vs)). subst
          (λ (y : InboxKnowledge). Fits h.reader seat' h.sent h.got more j y) t.0 (
            (λ _. (
              ap (λ (b : Bool). if b then some (length vs) else h.seat made) (same made) ∙ ap some (sym t.1),
              sym fresh.1,
              owned,
            )),
            λ g. absurd (true≢false (sym g)),
          ))
          (at_new vs (sender made own []) u j e);
    }

-- one more port
pub adds_port : (pass made ports : ℕ) (got : List Envelope)
    → Forks Delivers pass (taker made ports got) (taker made (ports + 1) got) nobody
adds_port pass made ports got items views h at =
    let mine = (h.each pass (taker made ports got) at).1 refl in
    let more = ports + 1 in
    let vs : List InboxKnowledge = set views pass (taker made more got) in
    let rise : h.ports ≤ more = omega (arith, mine.2) in
    let old : All (Fits h.reader h.seat h.sent h.got more) vs =
    all_set (Fits h.reader h.seat h.sent h.got more) views pass (taker made more got) (
      (λ s. absurd (true≢false (sym s))),
      λ _. (mine.0, mine.1, refl, mine.3),
    )
    (λ j u apart e.
    let o = h.each j u e in (
      (λ s. let m = o.0 s in (m.0, m.1, omega (arith, m.2, rise))),
      λ g. absurd (apart ((o.1 g).0 ∙ sym mine.0)),
    )) in record {
      reader = h.reader;
      seat = h.seat;
      sent = h.sent;
      got = h.got;
      ports = more;
      order = h.order;
      below = are_more h.ports more items rise h.below;
      each = λ j u e.
          ⊎_elim (λ (t : (get_elem? vs j ≡ some u) × (j < length vs)). old j u t.0)
          (λ (t : (nobody ≡ u) × (j ≡ length vs)). subst
          (λ (y : InboxKnowledge). Fits h.reader h.seat h.sent h.got more j y) t.0 (
            (λ s. absurd (true≢false (sym s))),
            λ g. absurd (true≢false (sym g)),
          ))
          (at_new vs nobody u j e);
    }
