-- One server's step is a list of actions, each done by a sound server that knows what the action needs, and in its
-- turn; nothing is left to do after it, and what its input says is taken in.
use Rattle.std.proofs.Common.{◌≡◌, ◌≢◌, ℕ, zero, suc, ◌+◌, ◌<◌, ◌≤◌, nat_lt, nat_le, ◌==◌, ◌&&◌, Bool, true, false}
use Rattle.std.proofs.Common.{cond, not, List, [], ◌∷◌, ◌++◌, length, Option, Some, None, inl, inr, refl, sym, ap}
use Rattle.std.proofs.Common.{subst, ◌∙◌, arith, append-nil}
use Rattle.std.proofs.lemmas.Bool.{cond_both, and_parts, and_from, both_ways, eq-eqb, eqb-true, eqb-false, ltb-true}
use Rattle.std.proofs.lemmas.Bool.{lt-ltb, leb-true, le-leb, ne_eqb, not-true, not_from_false, false_from_ne_true}
use Rattle.std.proofs.lemmas.Option.{same_Some}
use Rattle.table.specs.Operations.{is_update}
use Rattle.table.specs.declared.operations.Call.{Call}
use Rattle.table.specs.declared.operations.Target.{Target}
use Rattle.table.specs.declared.operations.Target.TheVariants.{One, All}
use Rattle.versions.specs.Stores.{last_number, is_clean}
use Rattle.node.specs.declared.servers.OpenRead.{OpenRead}
use Rattle.node.specs.declared.messages.Body.{Body}
use Rattle.node.specs.declared.messages.Body.TheVariants.{Op, Forward, Ack, Query, Answer}
use Rattle.node.specs.declared.messages.Peer.{Peer}
use Rattle.node.specs.declared.messages.Input.{Input}
use Rattle.node.specs.declared.messages.Input.TheVariants.{Call as Called, From, Gone}
use Rattle.node.specs.declared.messages.Output.{Output}
use Rattle.node.specs.declared.messages.Output.TheVariants.{To}
use Rattle.node.specs.Views.{View, has, single, is_below, is_that}
use Rattle.node.specs.Servers.{ServerState, RuleResult, most, seen_of, tail_of, is_tail, silent, putting, message_to}
use Rattle.node.specs.Numbering.{is_taken}
use Rattle.node.specs.Reading.{asked, dirty_read, read_of, receive_query, open_read, without_read, answered}
use Rattle.node.specs.Reading.{receive_answer}
use Rattle.node.specs.Joining.{join}
use Rattle.node.specs.Steps.{call, gone, receive, received, is_heard, from_peer, taken_in, least_open, trimmed, step}
use Rattle.node.specs.Lawful.{AreReads, IsCall, IsBody, IsInput, HasEntry, HoldsEntry, IsSound, IsSettled, IsLawful}
use Rattle.node.proofs.Lists.{In, get_last, in_behind}
use Rattle.node.specs.Actions.{Send, Finish, Trim, Ask, Show, act, does, Cause, left, IsDone, Due, IsPaid, IsTakenIn}
use Rattle.node.specs.Actions.{IsHeeded, IsWhole, nothing_due, but_first, due_in_the_end}
use Rattle.node.proofs.ViewLaws.{has-single_other, has-single_itself, below-single}
use Rattle.node.proofs.Neighbours.{that_is, is_itself, tail_within}
use Rattle.node.proofs.DoneActions.{IsRule, rule_as, rule_so, rule_silent, rule_one, rule_then, rule_first}
use Rattle.node.proofs.DoneActions.{rule_message, sound_after, seat_after, grown_after, turned_then}
use Rattle.node.proofs.OpenLists.{read_above, read_apart}
use Rattle.node.proofs.DoneRules.{message_same, rule_update, rule_receive_op, rule_receive_forward, rule_receive_ack}
use Rattle.node.proofs.DoneJoins.{rule_join, has_tail}
use Rattle.node.proofs.SoundLaws.{reads_bound, least_within}
use Rattle.node.proofs.StoreChanges.{clean_at_last}
use Rattle.versions.proofs.StoreLaws.{last-dropped}
use Rattle.node.proofs.SoundActions.{sound_act}

-- ---- own reads

-- who finds a key dirty between two steps isn't the tail
pub dirty_elsewhere : (s : ServerState) (key : List ℕ) → IsSettled s → is_clean s.store key ≡ false → is_tail s ≡ false
dirty_elsewhere s key settled dirty =
    false_from_ne_true (is_tail s) (λ t. both_ways _ dirty (clean_at_last s key (settled t).0))

-- a read that has just asked the tail is one of the open ones
pub asked_in : (s : ServerState) (port : ℕ) (key : List ℕ)
    → In (record { ask = s.next_ask; port = port; key = key; lower_bound = s.store.acked }) (asked s port key).asks
unfolding asked
asked_in s port key =
    (length s.asks, get_last s.asks (record { ask = s.next_ask; port = port; key = key; lower_bound = s.store.acked }))

view_asked : (s : ServerState) (port : ℕ) (key : List ℕ) → (asked s port key).view ≡ s.view
unfolding asked
view_asked s port key = refl

seat_asked : (s : ServerState) (port : ℕ) (key : List ℕ)
    → (is_tail (asked s port key) ≡ is_tail s) × (tail_of (asked s port key) ≡ tail_of s)
unfolding asked
seat_asked s port key = (refl, refl)

-- the read was asked for, and nothing else is left to do
paid_query : (s : ServerState) (d : Due) (port : ℕ) (key : List ℕ) (rs : List OpenRead)
    → is_tail s ≡ false
    → IsPaid s d
    → rs ≡ []
    → IsPaid (asked s port key) (record d { unasked = rs })
unfolding asked
paid_query s d port key rs other p none = record {
  forwarded = p.forwarded;
  told = p.told;
  settled = p.settled;
  sent = p.sent;
  taken = p.taken;
  asked = λ _. none;
  last = λ t. absurd (both_ways _ other t);
}

rule_query : (c : Cause) (s : ServerState) (d : Due) (port : ℕ) (key : List ℕ)
    → 1 ≤ s.next_ask
    → is_tail s ≡ false
    → IsPaid s d
    → IsSound (asked s port key)
    → IsRule c (asked s port key)
    (record d {
      unasked = d.unasked
          ++ record { ask = s.next_ask; port = port; key = key; lower_bound = s.store.acked } ∷ [];
    })
    (putting (asked s port key) (message_to s (tail_of s) (Query s.next_ask key))) (IsPaid (asked s port key))
rule_query c s d port key low other p h =
    let t = asked s port key in
    let seat = seat_asked s port key in
    let r : OpenRead = record { ask = s.next_ask; port = port; key = key; lower_bound = s.store.acked } in
    let only : d.unasked ++ r ∷ [] ≡ r ∷ [] = ap (λ (rs : List OpenRead). rs ++ r ∷ []) (p.asked other) in
    rule_as c t _ _ _ _
    (ap (λ (os : List Output). putting t os)
    (sym (message_same s t (tail_of s) (Query s.next_ask key) (view_asked s port key))))
    (rule_message c t _ (tail_of s) (Query s.next_ask key) (IsPaid t) h
    (λ none. absurd (has_tail t h (seat.1 ∙ none)))
    (λ j e. (
      (seat.1 ∙ e, seat.0 ∙ other, low, port, s.store.acked, asked_in s port key),
      tail_within t j (seat.1 ∙ e),
      (port, s.store.acked, [], only),
      paid_query s d port key _ other p (ap (λ (rs : List OpenRead). but_first rs) only),
    )))

module _ (s : ServerState) (d : Due) (port : ℕ) (asked_call : Call) (h : IsSound s) (p : IsPaid s d)
    (is : is_update asked_call.op ≡ false) where
  rule_dirty_read : (key : List ℕ)
      → asked_call.target ≡ One key
      → is_clean s.store key ≡ false
      → IsRule (Some (Called port asked_call)) s d (dirty_read s port key) (IsPaid (dirty_read s port key).state)
  unfolding dirty_read act
  rule_dirty_read key one dirty =
      cond_both (nat_lt s.next_ask most) _ _
      (λ (a : RuleResult). IsRule (Some (Called port asked_call)) s d a (IsPaid a.state))
      (λ t. (let low = (reads_bound 0 s.store.floor s.asks s.next_ask s.store.acked h.reads).0 in
      rule_first (Some (Called port asked_call)) s d (Ask port key)
      (λ u. putting u (message_to s (tail_of s) (Query s.next_ask key))) _ refl h
      (asked_call, refl, is, one, dirty, t) tt
      (λ k. rule_query None s d port key low (dirty_elsewhere s key p.last dirty) p k)))
      (λ f. rule_silent (Some (Called port asked_call)) s d _ h p)

  rule_read_of : (target : Target)
      → asked_call.target ≡ target
      → IsRule (Some (Called port asked_call)) s d (read_of s port target) (IsPaid (read_of s port target).state)
  unfolding act
  rule_read_of (One key) one =
      cond_both (is_clean s.store key) _ _
      (λ (a : RuleResult). IsRule (Some (Called port asked_call)) s d a (IsPaid a.state))
      (λ t. rule_one (Some (Called port asked_call)) s d (Show port key) _ refl h (asked_call, refl, is, one, t) tt p)
      (λ f. rule_dirty_read key one f)
  rule_read_of All one = rule_silent (Some (Called port asked_call)) s d _ h p

rule_call : (s : ServerState) (d : Due) (port : ℕ) (made : Call)
    → IsSound s
    → IsPaid s d
    → d.unsent ≡ []
    → IsCall made
    → IsRule (Some (Called port made)) s d (call s port made) (IsPaid (call s port made).state)
rule_call s d port made h p none fit =
    cond_both (is_update made.op) _ _ (λ (a : RuleResult). IsRule (Some (Called port made)) s d a (IsPaid a.state))
    (λ t. rule_update s d port made h p none fit t)
    (λ f. rule_read_of s d port made h p f made.target refl)

-- ---- messages of reads

found_step : (b : Bool) (r q : OpenRead) (rest : Option OpenRead) (ask : ℕ) (rs : List OpenRead)
    → (r.ask == ask) ≡ b
    → (rest ≡ Some q → (q.ask ≡ ask) × In q rs)
    → cond b (Some r) rest ≡ Some q
    → (q.ask ≡ ask) × In q (r ∷ rs)
found_step true r q rest ask rs e f h =
    let same : r ≡ q = same_Some r q h in (rw (← same) (eqb-true r.ask ask e), (0, ap Some same))
found_step false r q rest ask rs e f h = let g = f h in (g.0, (suc g.1.0, g.1.1))

-- the open read of an ask has it, and waits
found_read : (rs : List OpenRead) (ask : ℕ) (q : OpenRead) → open_read rs ask ≡ Some q → (q.ask ≡ ask) × In q rs
found_read [] ask q h = absurd cc
found_read (r ∷ rs) ask q h = found_step _ r q _ ask rs refl (λ g. found_read rs ask q g) h

-- an open read is found under its ask
found_itself : (above lower_bound : ℕ) (rs : List OpenRead) (next_ask acked : ℕ) (r : OpenRead)
    → AreReads above lower_bound rs next_ask acked
    → In r rs
    → open_read rs r.ask ≡ Some r
found_itself above lower_bound [] next_ask acked r h i = absurd (let none = i.1 in cc)
found_itself above lower_bound (q ∷ rs) next_ask acked r h (zero, i) =
    let same : q ≡ r = same_Some q r i in rw (same, eq-eqb r.ask r.ask refl) refl
found_itself above lower_bound (q ∷ rs) next_ask acked r h (suc k, i) =
    let more = read_above q.ask q.lower_bound rs next_ask acked r h.2 (k, i) in
    rw (ne_eqb q.ask r.ask (λ e. omega (arith, more.0, e)))
    (found_itself q.ask q.lower_bound rs next_ask acked r h.2 (k, i))

-- after a read is closed, it isn't open
gone_read : (s : ServerState) (ask : ℕ) (r : OpenRead) → IsSound s → In r (without_read s.asks ask) → r.ask ≡ ask → ⊥
gone_read s ask r h i same = read_apart 0 s.store.floor s.asks s.next_ask s.store.acked ask r h.reads i same

module _ (s : ServerState) (d : Due) (i : ℕ) (m : Peer) (h : IsSound s) (p : IsPaid s d) where
  -- what an answered read leaves
  Answers : ℕ → ℕ → RuleResult → Due → Type 0
  Answers ask n a e =
      IsPaid a.state e ×
      ((r : OpenRead) → In r a.state.asks → r.ask ≡ ask → r.lower_bound ≤ n → n ≤ last_number a.state.store → ⊥)

  rule_finished : (n : ℕ) (r : OpenRead)
      → m.body ≡ Answer r.ask n
      → tail_of s ≡ Some i
      → open_read s.asks r.ask ≡ Some r
      → In r s.asks
      → IsRule (Some (From i m)) s d (answered s r.ask n (Some r)) (Answers r.ask n (answered s r.ask n (Some r)))
  unfolding answered act Answers
  rule_finished n r is from found waits = cond_both (nat_le r.lower_bound n && nat_le n (last_number s.store)) _ _
      (λ (a : RuleResult). IsRule (Some (From i m)) s d a (Answers r.ask n a))
      (λ t. (let parts = and_parts (nat_le r.lower_bound n) (nat_le n (last_number s.store)) t in
      rule_one (Some (From i m)) s d (Finish r n) _ refl h
      (found, waits, leb-true _ _ parts.0, leb-true _ _ parts.1, inr (i, m, refl, is, from)) tt (
        record {
          forwarded = p.forwarded;
          told = p.told;
          settled = p.settled;
          sent = p.sent;
          taken = p.taken;
          asked = p.asked;
          last = λ l. ((p.last l).0, ap (λ asks. without_read asks r.ask) (p.last l).1);
        },
        λ q k same _ _. gone_read s r.ask q h k same,
      )))
      (λ f. rule_silent (Some (From i m)) s d _ h (
        p,
        λ q k same low high.
            let one : q ≡ r =
            same_Some q r (sym (found_itself 0 s.store.floor s.asks s.next_ask s.store.acked q h.reads k)
            ∙ ap (λ x. open_read s.asks x) same ∙ found) in
            both_ways _ f (and_from _ _ (le-leb _ _ (subst (λ (x : OpenRead). x.lower_bound ≤ n) one low))
            (le-leb _ _ high)),
      ))

  rule_answered : (ask n : ℕ) (r : Option OpenRead)
      → m.body ≡ Answer ask n
      → tail_of s ≡ Some i
      → open_read s.asks ask ≡ r
      → IsRule (Some (From i m)) s d (answered s ask n r) (Answers ask n (answered s ask n r))
  unfolding answered Answers
  rule_answered ask n None is from found = rule_silent (Some (From i m)) s d _ h (
    p,
    λ q k same _ _.
        (let there = found_itself 0 s.store.floor s.asks s.next_ask s.store.acked q h.reads k in
        let none : Some q ≡ None = sym there ∙ ap (λ x. open_read s.asks x) same ∙ found in
        cc),
  )
  rule_answered ask n (Some r) is from found =
      let q = found_read s.asks ask r found in
      subst (λ (x : ℕ). IsRule (Some (From i m)) s d (answered s x n (Some r))
      (Answers x n (answered s x n (Some r)))) q.0
      (rule_finished n r (subst (λ (x : ℕ). m.body ≡ Answer x n) (sym q.0) is) from
      (subst (λ (x : ℕ). open_read s.asks x ≡ Some r) (sym q.0) found) q.1)

  -- an answer that comes from the tail closes its read by actions in turn, if it is in range
  pub rule_receive_answer : (ask n : ℕ)
      → m.body ≡ Answer ask n
      → IsRule (Some (From i m)) s d (receive_answer s i ask n)
      (λ e. IsPaid (receive_answer s i ask n).state e × IsTakenIn i (Answer ask n) (receive_answer s i ask n))
  unfolding Answers
  rule_receive_answer ask n is =
      cond_both (is_that (tail_of s) i) _ _
      (λ (a : RuleResult). IsRule (Some (From i m)) s d a (λ e. IsPaid a.state e × IsTakenIn i (Answer ask n) a))
      (λ t. rule_so (Some (From i m)) s d _ _ _ (λ e x. (x.0, λ _. x.1))
      (rule_answered ask n (open_read s.asks ask) is (that_is _ i t) refl))
      (λ f. rule_silent (Some (From i m)) s d _ h (p, λ from. absurd (both_ways _ f (is_itself _ i from))))

  rule_receive_query : (ask : ℕ) (key : List ℕ)
      → m.body ≡ Query ask key
      → i < s.count
      → has s.view i ≡ false
      → IsRule (Some (From i m)) s d (receive_query s i ask)
      (λ e. IsPaid (receive_query s i ask).state e × IsTakenIn i (Query ask key) (receive_query s i ask))
  unfolding act
  rule_receive_query ask key is low lives =
      cond_both (is_tail s) _ _
      (λ (a : RuleResult). IsRule (Some (From i m)) s d a (λ e. IsPaid a.state e × IsTakenIn i (Query ask key) a))
      (λ t. rule_one (Some (From i m)) s d (Send i (Answer ask (last_number s.store))) _ refl h
      ((t, refl, lives, m, key, refl, is), low) tt
      (p, λ _. (record { view = s.view; body = Answer ask (last_number s.store) }, (0, refl), refl)))
      (λ f. rule_silent (Some (From i m)) s d _ h (p, λ t. absurd (both_ways _ f t)))

-- ---- inputs

-- what a heard message keeps to
pub record Hears (s : ServerState) (i : ℕ) (v : View) : Type 0 where
  pub placed : i < s.count
  pub other : (i == s.id) ≡ false
  pub below : is_below v s.count ≡ true
  pub outside : has v s.id ≡ false

-- a message that passes the test is of another server of the chain, and its view doesn't name this one
pub heard : (s : ServerState) (i : ℕ) (v : View) → is_heard s i v ≡ true → Hears s i v
heard s i v h =
    let last_part = and_parts (nat_lt i s.count && not (i == s.id) && is_below v s.count) (not (has v s.id)) h in
    let third_part = and_parts (nat_lt i s.count && not (i == s.id)) (is_below v s.count) last_part.0 in
    let first_part = and_parts (nat_lt i s.count) (not (i == s.id)) third_part.0 in
    record {
      placed = ltb-true _ _ first_part.0;
      other = not-true _ first_part.1;
      below = third_part.1;
      outside = not-true _ last_part.1;
    }

rule_receive : (s : ServerState) (d : Due) (i : ℕ) (m : Peer) (body : Body)
    → m.body ≡ body
    → IsSound s
    → IsPaid s d
    → i < s.count
    → i ≢ s.id
    → has s.view i ≡ false
    → IsBody body
    → HasEntry body
    → ((k : ℕ) → has m.view k ≡ true → has s.view k ≡ true)
    → IsRule (Some (From i m)) s d (receive s i body)
    (λ e. IsPaid (receive s i body).state e × IsTakenIn i body (receive s i body))
rule_receive s d i m (Op id made) is h p low other lives fit valid joined =
    rule_receive_op s d i m h p id made is (omega (arith, low, h.counted)) other lives fit
rule_receive s d i m (Forward e) is h p low other lives fit valid joined =
    rule_receive_forward s d i m h p e is valid joined
rule_receive s d i m (Ack n) is h p low other lives fit valid joined = rule_receive_ack s d i m h p n is joined
rule_receive s d i m (Query ask key) is h p low other lives fit valid joined =
    rule_receive_query s d i m h p ask key is low lives
rule_receive s d i m (Answer ask n) is h p low other lives fit valid joined = rule_receive_answer s d i m h p ask n is

-- what a message's body does, once its view was joined, is a list of actions in turn that take it in
pub rule_received : (s : ServerState) (d : Due) (i : ℕ) (m : Peer)
    → IsSound s
    → IsPaid s d
    → i < s.count
    → i ≢ s.id
    → IsBody m.body
    → HasEntry m.body
    → ((k : ℕ) → has m.view k ≡ true → has s.view k ≡ true)
    → IsRule (Some (From i m)) s d (received s i m.body)
    (λ e. IsPaid (received s i m.body).state e × (has s.view i ≡ false → IsTakenIn i m.body (received s i m.body)))
rule_received s d i m h p low other fit valid joined =
    cond_both (has s.view i) _ _
    (λ (a : RuleResult). IsRule (Some (From i m)) s d a
    (λ e. IsPaid a.state e × (has s.view i ≡ false → IsTakenIn i m.body a)))
    (λ t. rule_silent (Some (From i m)) s d _ h (p, λ f. absurd (both_ways _ f t)))
    (λ f. rule_so (Some (From i m)) s d _ _ _ (λ e x. (x.0, λ _. x.1))
    (rule_receive s d i m m.body refl h p low other f fit valid joined))

-- what is taken in stays so, whatever was put out before
taken_behind : (i : ℕ) (body : Body) (a b : RuleResult)
    → IsTakenIn i body b
    → IsTakenIn i body (record { state = b.state; outputs = a.outputs ++ b.outputs })
taken_behind i (Op id made) a b h = h
taken_behind i (Forward e) a b h = h
taken_behind i (Ack n) a b h = h
taken_behind i (Query ask key) a b h = λ t. (let x = h t in (x.0, in_behind a.outputs b.outputs (To i x.0) x.1, x.2))
taken_behind i (Answer ask n) a b h = h

-- nothing is due, and nothing is left to do
pub paid_nothing : (s : ServerState) → IsSettled s → IsPaid s (nothing_due s)
paid_nothing s settled = record {
  forwarded = λ _ _. refl;
  told = λ _ _. refl;
  settled = refl;
  sent = λ _. refl;
  taken = λ _ u i. absurd (let none = i.1 in cc);
  asked = λ _. refl;
  last = settled;
}

rule_from_peer : (s : ServerState) (i : ℕ) (m : Peer)
    → IsSound s
    → IsSettled s
    → IsBody m.body
    → HasEntry m.body
    → IsRule (Some (From i m)) s (nothing_due s) (from_peer s i m)
    (λ e. IsPaid (from_peer s i m).state e × IsHeeded (From i m) s (from_peer s i m))
rule_from_peer s i m h settled fit valid =
    let c : Cause = Some (From i m) in
    let d = nothing_due s in
    cond_both (is_heard s i m.view) _ _
    (λ (a : RuleResult). IsRule c s d a (λ e. IsPaid a.state e × IsHeeded (From i m) s a))
    (λ t. (let hears = heard s i m.view t in
    let first = rule_join c s m.view h (paid_nothing s settled) (inl (i, m, refl, refl)) hears.outside hears.below in
    let seat = seat_after c s _ first.done in
    let mid = (join s m.view).state in
    rule_then c s d (join s m.view) (λ u. received u i m.body) _ _ first
    (λ e j k. (let rest = rule_received mid e i m k j.paid (omega (arith, hears.placed, seat.count))
    (λ same. eqb-false i s.id hears.other (same ∙ seat.id)) fit valid j.knows in
    rule_so c mid e _ _ _
    (λ g x. (
      x.0,
      λ _. (
        λ n y. (grown_after c mid _ rest.done).view n (j.knows n y),
        λ out. taken_behind i m.body (join s m.view) (received mid i m.body)
            (x.1 (false_from_ne_true _ (λ y. both_ways _ out ((grown_after c mid _ rest.done).view i y)))),
      ),
    )) rest))))
    (λ f. rule_silent c s d _ h (paid_nothing s settled, λ t. absurd (both_ways _ f t)))

rule_gone : (s : ServerState) (j : ℕ)
    → IsSound s
    → IsSettled s
    → IsRule (Some (Gone j)) s (nothing_due s) (gone s j)
    (λ e. IsPaid (gone s j).state e × IsHeeded (Gone j) s (gone s j))
rule_gone s j h settled =
    cond_both (nat_lt j s.count && not (j == s.id)) _ _
    (λ (a : RuleResult). IsRule (Some (Gone j)) s (nothing_due s) a (λ e. IsPaid a.state e × IsHeeded (Gone j) s a))
    (λ t. (let parts = and_parts (nat_lt j s.count) (not (j == s.id)) t in
    rule_so (Some (Gone j)) s (nothing_due s) _ _ _ (λ e x. (x.paid, λ _ _. x.knows j (has-single_itself j)))
    (rule_join (Some (Gone j)) s (single j) h (paid_nothing s settled) (inr (j, refl, refl))
    (has-single_other j s.id (λ same. eqb-false j s.id (not-true _ parts.1) (sym same)))
    (below-single j s.count (ltb-true _ _ parts.0)))))
    (λ f. rule_silent (Some (Gone j)) s (nothing_due s) _ h (
      paid_nothing s settled,
      λ low other. absurd
          (both_ways _ f (and_from _ _ (lt-ltb _ _ low) (not_from_false _ (ne_eqb j s.id other)))),
    ))

-- what an input does, before the floor follows, is a list of actions in turn that heed it
pub rule_taken_in : (s : ServerState) (input : Input)
    → IsSound s
    → IsSettled s
    → IsInput input
    → HoldsEntry input
    → IsRule (Some input) s (nothing_due s) (taken_in s input)
    (λ e. IsPaid (taken_in s input).state e × IsHeeded input s (taken_in s input))
rule_taken_in s (Called port made) h settled fit valid =
    rule_so _ s _ _ _ _ (λ e x. (x, tt))
    (rule_call s (nothing_due s) port made h (paid_nothing s settled) refl fit)
rule_taken_in s (From i m) h settled fit valid = rule_from_peer s i m h settled fit valid
rule_taken_in s (Gone j) h settled fit valid = rule_gone s j h settled

-- ---- the floor

-- the floor may rise, and the last number stays
pub last_trimmed : (s : ServerState) → IsSound s → last_number (trimmed s).store ≡ last_number s.store
unfolding trimmed
last_trimmed s h =
    let between = least_within 0 s.store.floor s.asks s.next_ask s.store.acked h.reads in
    last-dropped s.store (least_open s.store.acked s.asks) between.0 (omega (arith, between.1, h.store.acked_held))

taken_trimmed : (s : ServerState) (origin id : ℕ) → IsSound s → is_taken (trimmed s) origin id ≡ is_taken s origin id
unfolding trimmed
taken_trimmed s origin id h = ap (λ n. id == seen_of s origin + 1 && nat_lt n most) (last_trimmed s h)

paid_trimmed : (s : ServerState) (d : Due) → IsSound s → IsPaid s d → IsPaid (trimmed s) d
unfolding trimmed
paid_trimmed s d h p =
    let last = last_trimmed s h in
    record {
      forwarded = λ j n. p.forwarded j n ∙ sym last;
      told = p.told;
      settled = p.settled;
      sent = p.sent;
      taken = λ t u i. taken_trimmed s s.id u.id h ∙ p.taken t u i;
      asked = p.asked;
      last = λ t. ((p.last t).0 ∙ sym last, (p.last t).1);
    }

taken_in_trimmed : (s : ServerState) (i : ℕ) (body : Body) (os : List Output)
    → IsSound s
    → IsTakenIn i body (record { state = s; outputs = os })
    → IsTakenIn i body (record { state = trimmed s; outputs = os })
unfolding trimmed
taken_in_trimmed s i (Op id made) os h x = λ t u. taken_trimmed s i id h ∙ x t u
taken_in_trimmed s i (Forward e) os h x = λ from is. x from (omega (arith, is, last_trimmed s h))
taken_in_trimmed s i (Ack n) os h x = λ to high. x to (omega (arith, high, last_trimmed s h))
taken_in_trimmed s i (Query ask key) os h x =
    λ t. (let g = x t in (g.0, g.1, g.2 ∙ ap (λ n. Answer ask n) (sym (last_trimmed s h))))
taken_in_trimmed s i (Answer ask n) os h x =
    λ from r waits same low high. x from r waits same low (omega (arith, high, last_trimmed s h))

heeded_trimmed : (s : ServerState) (input : Input) (a : RuleResult)
    → IsSound a.state
    → IsHeeded input s a
    → IsHeeded input s (record { state = trimmed a.state; outputs = a.outputs })
unfolding trimmed
heeded_trimmed s (Called port made) a h x = tt
heeded_trimmed s (From i m) a h x =
    λ t. (let g = x t in (g.0, λ out. taken_in_trimmed a.state i m.body a.outputs h (g.1 out)))
heeded_trimmed s (Gone j) a h x = x

-- a step is such a list, and the floor's is the last of it
pub step_whole : (s : ServerState) (input : Input)
    → IsLawful s
    → IsInput input
    → HoldsEntry input
    → IsWhole input s (step s input)
unfolding act does
step_whole s input h fit valid =
    let a = taken_in s input in
    let d = nothing_due s in
    let c : Cause = Some input in
    let first = rule_taken_in s input h.sound h.settled fit valid in
    let k = sound_after c s a first.done in
    let e = due_in_the_end d s first.done.actions in
    let floor : IsDone (left c) a.state (silent (trimmed a.state)) =
    record { actions = Trim ∷ []; guarded = (k, tt, sound_act (left c) a.state Trim k tt); same = refl } in
    let whole = turned_then c s d a (λ t. silent (trimmed t))
    (λ x. IsPaid (trimmed a.state) x × IsHeeded input s (step s input)) first.done first.turns floor (tt, tt)
    (paid_trimmed a.state e k first.after.0, heeded_trimmed s input a k first.after.1) in
    record {
      done = record {
        actions = whole.done.actions;
        guarded = whole.done.guarded;
        same = ap (λ (os : List Output). record { state = trimmed a.state; outputs = os }) (sym (append-nil a.outputs))
            ∙ whole.done.same;
      };
      turns = whole.turns;
      paid = whole.after.0;
      heeded = whole.after.1;
    }

-- a step of a lawful server is a list of guarded actions
pub step_done : (s : ServerState) (input : Input)
    → IsLawful s
    → IsInput input
    → HoldsEntry input
    → IsDone (Some input) s (step s input)
step_done s input h fit valid = (step_whole s input h fit valid).done
