-- Whatever happens, all of it still holds.
use Rattle.std.proofs.Common.{◌≡◌, ℕ, suc, ◌+◌, ◌<◌, ◌≤◌, inl, inr, Bool, true, false, not, nat_eq, nat_lt}
use Rattle.std.proofs.Common.{◌&&◌}
use Rattle.std.proofs.Common.{List, [], ◌∷◌, ◌++◌, None, Some, refl, ap, sym, ◌∙◌, subst, arith}
use Rattle.std.proofs.Common.{if◌then◌else◌}
use Rattle.std.proofs.lemmas.Bool.{cases_Bool, cases_order, and_parts, and_from}
use Rattle.std.proofs.lemmas.Bool.{false≢true, true≢false, ltb-true, not_from_false}
use Rattle.leases.specs.Sets.{has}
use Rattle.successions.specs.Decisions.{is_member}
use Rattle.successions.specs.Lists.{with_at}
use Rattle.successions.proofs.Basics.{changed, changed_at}
use Rattle.seals.specs.declared.markers.Numbers.{Numbers}
use Rattle.seals.specs.declared.markers.Marker.{Marker}
use Rattle.seals.specs.Seals.{SealState, begins, is_fenced, is_in, followed, passed_by, marked_by, is_peer}
use Rattle.seals.specs.Seals.{all_below, has_passed, mark_at, names, is_level, is_at_rest, marker_of, standing_of}
use Rattle.seals.specs.Runs.{reach, Sending, Begun, Passed, Item, Update, Mark, Work, Flag, Sent, Run, begun, with_both}
use Rattle.seals.specs.Runs.{IsMoved, IsUnmoved, IsFurther, May, Follows, Sees, Begins, Holds, Takes, Passes, Works}
use Rattle.seals.specs.Runs.{Reads}
use Rattle.seals.specs.Runs.{Sends, Hears, Drops, Learns, Marks, Reaches, Reports, IsReached, At_first, Goes_on}
use Rattle.seals.specs.Runs.{has_begun}
use Rattle.seals.proofs.Soundness.{Updates, Marked, Ordered, limit_of, IsSoundWork, IsSoundSeal}
use Rattle.seals.proofs.Soundness.{IsSoundThread, IsSentBy, IsSoundLink, numbers_in, IsSoundReport, IsSound}
use Rattle.seals.proofs.Lanes.{updates_more, updates_update, updates_mark, marked_more, marked_update, marked_mark}
use Rattle.seals.proofs.Lanes.{ordered_update, ordered_mark, holding_more, holding_begun, holding_passed, behind_none}
use Rattle.seals.proofs.Lanes.{behind_begun, begun_passed, behind_passed, none_passed_at, no_mark_at, below_at, named}
use Rattle.seals.proofs.Phases.{in_parts, in_from, fenced_holds, Turns, Stays, Leaves, Anew, turns, IsSame}
use Rattle.seals.proofs.Phases.{same_followed}
use Rattle.seals.proofs.Phases.{same_passed, same_marked, IsPassedBy, is_passed_by, IsMarkedBy, is_marked_by}

-- ---- functions that are changed at two places

both_at : {X : Type 0} (P : ℕ → ℕ → X → Type 0) (f : ℕ → ℕ → X) (i j : ℕ) (x : X)
    → P i j x → ((k l : ℕ) → P k l (f k l)) → (k l : ℕ) → P k l (with_both f i j x k l)
both_at P f i j x here there k l =
    changed (λ a g. P a l (g l)) f i (with_at (f i) j x)
    (changed (λ b y. P i b y) (f i) j x here (there i) l)
    (λ a. there a l) k

pub both_one : {X : Type 0} (P : X → Type 0) (f : ℕ → ℕ → X) (i j : ℕ) (x : X) (k l : ℕ)
    → (k ≡ i → l ≡ j → P x) → P (f k l) → P (with_both f i j x k l)
both_one P f i j x k l here there =
    changed_at (λ g. P (g l)) f i (with_at (f i) j x) k
    (λ e. changed_at P (f i) j x l (here e) (subst (λ a. P (f a l)) e there))
    there

-- ---- a server

-- How a server goes on: what of it grows.
pub record IsOnward (old new : Work) : Type 0 where
  pub sound : IsSoundWork new
  pub rested : old.rested ≤ new.rested
  pub limit : limit_of old.active old.rested ≤ limit_of new.active new.rested
  pub view : old.table.numbers.view ≤ new.table.numbers.view
  pub last : old.table.numbers.last ≤ new.table.numbers.last
  pub committed : old.table.numbers.committed ≤ new.table.numbers.committed

limit_most : (active : Bool) (rested : ℕ) → limit_of active rested ≤ suc rested
limit_most true rested = omega arith
limit_most false rested = omega arith

limit_true : (work : Work) → work.active ≡ true → limit_of work.active work.rested ≡ suc work.rested
limit_true work e = ap (λ b. limit_of b work.rested) e

limit_false : (work : Work) → work.active ≡ false → limit_of work.active work.rested ≡ work.rested
limit_false work e = ap (λ b. limit_of b work.rested) e

sums : (a b c x y z : ℕ) → a ≤ x → b ≤ y → c ≤ z → a + (b + c) ≤ x + (y + z)
sums a b c x y z p q r = omega (arith, p, q, r)

no_further : (a b c : ℕ) → a ≡ b → b ≤ c → a ≤ c
no_further a b c same less = omega (arith, same, less)

pub grows : (old new : Work) → IsMoved old new → reach old.table.numbers ≤ reach new.table.numbers
grows old new m = sums _ _ _ _ _ _ m.view m.last m.committed

pub onward : (old new : Work) → IsSoundWork old → IsMoved old new → IsOnward old new
onward old new sound m = elim (cases_Bool new.active) [
  | inl active ↦ on active
  | inr resting ↦ elim (m.rests resting) [ inl same ↦ unmoved resting same | inr more ↦ further resting more ]
]
  where
    on : new.active ≡ true → IsOnward old new
    on active = let same : new.rested ≡ old.rested = m.goes_on active in record {
      sound = record {
        rest = λ resting. absurd (true≢false (sym active ∙ resting));
        least = let old_least = sound.least in let more = grows old new m in omega (arith, same, old_least, more);
        busy = m.busy;
      };
      rested = omega (arith, same);
      limit = let is = limit_true new active in let most = limit_most old.active old.rested in
          omega (arith, is, most, same);
      view = m.view;
      last = m.last;
      committed = m.committed;
    }

    unmoved : new.active ≡ false → IsUnmoved old new → IsOnward old new
    unmoved resting same = let rested = same.rested in record {
      sound = record {
        rest = λ r. same.rested ∙ sound.rest same.before ∙ ap reach (sym same.numbers);
        least = let old_least = sound.least in let more = grows old new m in omega (arith, rested, old_least, more);
        busy = m.busy;
      };
      rested = omega (arith, rested);
      limit = let one = limit_false old same.before in let other = limit_false new resting in
          omega (arith, one, other, rested);
      view = m.view;
      last = m.last;
      committed = m.committed;
    }

    further : new.active ≡ false → IsFurther old new → IsOnward old new
    further resting more = let rested = more.rested in let far = more.further in record {
      sound = record { rest = λ r. more.rested; least = omega (arith, rested); busy = m.busy };
      rested = omega (arith, rested, far);
      limit = let is = limit_false new resting in let most = limit_most old.active old.rested in
          omega (arith, is, most, rested, far);
      view = m.view;
      last = m.last;
      committed = m.committed;
    }

reads_onward : (work : Work) (busy : Bool) → IsSoundWork work → work.active ≡ false
    → IsOnward work (record work { table = record work.table { busy = busy } })
reads_onward work busy sound resting = record {
  sound = record { rest = sound.rest; least = sound.least; busy = λ e. resting };
  rested = omega arith;
  limit = omega arith;
  view = omega arith;
  last = omega arith;
  committed = omega arith;
}

link_onward : (members i j : ℕ) (old new : Work) (seal : SealState) (link : List Item) → IsOnward old new
    → IsSoundLink members i j old seal link → IsSoundLink members i j new seal link
link_onward members i j old new seal link more sound = record {
  sent = updates_more (IsSentBy members i j old) (IsSentBy members i j new) link (λ n by. record {
    member = by.member;
    other = by.other;
    below = let below = by.below in let limit = more.limit in omega (arith, below, limit);
  }) sound.sent;
  marked = marked_more link old.rested new.rested more.rested sound.marked;
  ordered = sound.ordered;
  mark = λ numbers is. let it = sound.mark numbers is in
      (it.0, let low = it.1 in let high = more.rested in omega (arith, low, high));
}

-- what is at least so much stays so
at_least : (f : ℕ → Work) (i : ℕ) (work : Work) (k : ℕ) (measure : Work → ℕ) (n : ℕ) → measure (f i) ≤ measure work
    → n ≤ measure (f k) → n ≤ measure (with_at f i work k)
at_least f i work k measure n more is = changed_at (λ x. n ≤ measure x) f i work k
    (λ e. let here : n ≤ measure (f i) = subst (λ j. n ≤ measure (f j)) e is in omega (arith, here, more)) is

pub works_on : (members threads : ℕ) (w : Run) (i : ℕ) (work : Work) → IsSound members threads w
    → IsOnward (w.works i) work → IsSound members threads (record w { works = with_at w.works i work })
works_on members threads w i work sound more = record {
  works = changed (λ k x. IsSoundWork x) w.works i work more.sound sound.works;
  seals = sound.seals;
  threads_are = sound.threads_are;
  links = λ k j. changed_at (λ x. IsSoundLink members k j x (w.seals j) (w.links k j)) w.works i work k
      (λ e. link_onward members k j (w.works i) work (w.seals j) (w.links k j) more
      (subst (λ a. IsSoundLink members k j (w.works a) (w.seals j) (w.links k j)) e (sound.links k j)))
      (sound.links k j);
  reports = λ s among idle. let old = sound.reports s among idle in record {
    rested = at_least w.works i work s.from (λ x. x.rested) (reach (numbers_in s.standing)) more.rested old.rested;
    view = at_least w.works i work s.from (λ x. x.table.numbers.view) s.standing.view more.view old.view;
    last = at_least w.works i work s.from (λ x. x.table.numbers.last) s.standing.last more.last old.last;
    committed = at_least w.works i work s.from (λ x. x.table.numbers.committed) s.standing.committed more.committed
        old.committed;
    epoch_is = old.epoch_is;
    passed = old.passed;
    peers = λ k member out other. let it = old.peers k member out other in
        (it.0, at_least w.works i work k (λ x. x.rested) (reach (numbers_in s.standing)) more.rested it.1);
  };
}

-- ---- links

-- all that is sound of links and of what reports say of them
links_change : (members threads : ℕ) (w : Run) (i j : ℕ) (link : List Item) → IsSound members threads w
    → IsSoundLink members i j (w.works i) (w.seals j) link
    → ((n : ℕ) → n ≤ (w.works i).rested → Updates (λ k. n ≤ k) (w.links i j) → Updates (λ k. n ≤ k) link)
    → IsSound members threads (record w { links = with_both w.links i j link })
links_change members threads w i j link sound here keeps = record {
  works = sound.works;
  seals = sound.seals;
  threads_are = sound.threads_are;
  links = both_at (λ k l x. IsSoundLink members k l (w.works k) (w.seals l) x) w.links i j link here sound.links;
  reports = λ s among idle. let old = sound.reports s among idle in record {
    rested = old.rested;
    view = old.view;
    last = old.last;
    committed = old.committed;
    epoch_is = old.epoch_is;
    passed = old.passed;
    peers = λ k member out other. let it = old.peers k member out other in (
      both_one (Updates (λ n. reach (numbers_in s.standing) ≤ n)) w.links i j link k s.from
          (λ e f. keeps (reach (numbers_in s.standing))
          (subst (λ a. reach (numbers_in s.standing) ≤ (w.works a).rested) e it.1)
          (subst (λ b. Updates (λ n. reach (numbers_in s.standing) ≤ n) (w.links i b)) f
          (subst (λ a. Updates (λ n. reach (numbers_in s.standing) ≤ n) (w.links a s.from)) e it.0)))
          it.0,
      it.1,
    );
  };
}

updates_rest : (P : ℕ → Type 0) (item : Item) (rest : List Item) → Updates P (item ∷ rest) → Updates P rest
updates_rest P (Update n) rest all = all.1
updates_rest P (Mark m) rest all = all

marked_rest : (most : ℕ) (item : Item) (rest : List Item) → Marked most (item ∷ rest) → Marked most rest
marked_rest most (Update n) rest all = all
marked_rest most (Mark m) rest all = all.1

ordered_rest : (item : Item) (rest : List Item) → Ordered (item ∷ rest) → Ordered rest
ordered_rest (Update n) rest all = all
ordered_rest (Mark m) rest all = all.1

link_taken : (members threads : ℕ) (w : Run) (i j : ℕ) (item : Item) (rest : List Item) → IsSound members threads w
    → w.links i j ≡ item ∷ rest → IsSound members threads (record w { links = with_both w.links i j rest })
link_taken members threads w i j item rest sound is = links_change members threads w i j rest sound
    (record {
      sent = updates_rest (IsSentBy members i j (w.works i)) item rest old.sent;
      marked = marked_rest (w.works i).rested item rest old.marked;
      ordered = ordered_rest item rest old.ordered;
      mark = λ numbers at. let it = old.mark numbers at in
          (updates_rest (λ n. reach numbers ≤ n) item rest it.0, it.1);
    })
    (λ n low all. updates_rest (λ k. n ≤ k) item rest (subst (Updates (λ k. n ≤ k)) is all))
  where
    old : IsSoundLink members i j (w.works i) (w.seals j) (item ∷ rest)
    old = subst (IsSoundLink members i j (w.works i) (w.seals j)) is (sound.links i j)

update_sent : (members threads : ℕ) (w : Run) (i j : ℕ) → IsSound members threads w → is_member members i ≡ true
    → nat_eq i j ≡ false → (w.works i).active ≡ true
    → IsSound members threads (record w {
      links = with_both w.links i j (w.links i j ++ Update (w.works i).rested ∷ []);
    })
update_sent members threads w i j sound member other active =
    links_change members threads w i j (w.links i j ++ Update (w.works i).rested ∷ []) sound
    (record {
      sent = updates_update (IsSentBy members i j (w.works i)) (w.links i j) (w.works i).rested
          (record {
            member = member;
            other = other;
            below = let is = limit_true (w.works i) active in omega (arith, is);
          }) old.sent;
      marked = marked_update (w.links i j) (w.works i).rested (w.works i).rested old.marked;
      ordered = ordered_update (w.links i j) (w.works i).rested old.marked old.ordered;
      mark = λ numbers at. let it = old.mark numbers at in
          (updates_update (λ n. reach numbers ≤ n) (w.links i j) (w.works i).rested it.1 it.0, it.1);
    })
    (λ n low all. updates_update (λ k. n ≤ k) (w.links i j) (w.works i).rested low all)
  where
    old : IsSoundLink members i j (w.works i) (w.seals j) (w.links i j)
    old = sound.links i j

-- whoever is at rest has come as far as it rested
pub at_rest : (s : SealState) (work : Work) → IsSoundWork work → is_at_rest s work.table ≡ true
    → (work.active ≡ false) × (work.rested ≡ reach work.table.numbers)
at_rest s work sound is =
    let parts = and_parts _ _ is in
    let more = and_parts _ _ parts.1 in
    let resting : work.active ≡ false = sound.busy (not_busy work.table.busy more.0) in
    (resting, sound.rest resting)
  where
    not_busy : (b : Bool) → not b ≡ true → b ≡ false
    not_busy true e = sym e
    not_busy false e = refl

some_if : {A : Type 0} (b : Bool) (x m : A) → (if b then Some x else None) ≡ Some m → (b ≡ true) × (x ≡ m)
some_if true x m e = (refl, let h : Some x ≡ Some m = e in cc)
some_if false x m e = absurd (let h : None ≡ Some m = e in cc)

-- what is asked only if b holds
of_true : (b x : Bool) → b ≡ true → (if b then x else true) ≡ true → x ≡ true
of_true true x e is = is
of_true false x e is = absurd (false≢true e)

mark_sent : (members threads : ℕ) (w : Run) (i j : ℕ) (m : Marker) → IsSound members threads w
    → marker_of (w.seals i) (w.works i).table ≡ Some m
    → IsSound members threads (record w { links = with_both w.links i j (w.links i j ++ Mark m ∷ []) })
mark_sent members threads w i j m sound is =
    links_change members threads w i j (w.links i j ++ Mark m ∷ []) sound
    (record {
      sent = updates_mark (IsSentBy members i j (w.works i)) (w.links i j) m old.sent;
      marked = marked_mark (w.links i j) (w.works i).rested m far old.marked;
      ordered = ordered_mark (w.links i j) m old.ordered;
      mark = λ numbers at. let it = old.mark numbers at in
          (updates_mark (λ n. reach numbers ≤ n) (w.links i j) m it.0, it.1);
    })
    (λ n low all. updates_mark (λ k. n ≤ k) (w.links i j) m all)
  where
    old : IsSoundLink members i j (w.works i) (w.seals j) (w.links i j)
    old = sound.links i j

    far : reach m.numbers ≤ (w.works i).rested
    far = let it = some_if (is_at_rest (w.seals i) (w.works i).table) _ m is in
        let rested = (at_rest (w.seals i) (w.works i) (sound.works i) it.0).1 in
        let same : reach (w.works i).table.numbers ≡ reach m.numbers = ap (λ (x : Marker). reach x.numbers) it.1 in
        omega (arith, rested, same)

-- ---- threads

-- all that is sound of an inlet
inlet_changes : (members threads : ℕ) (w : Run) (i thread : ℕ) (inlet : List Sending) → IsSound members threads w
    → IsSoundThread threads thread (w.seals i) (w.flags i thread) inlet
    → IsSound members threads (record w { inlets = with_both w.inlets i thread inlet })
inlet_changes members threads w i thread inlet sound here = record {
  works = sound.works;
  seals = sound.seals;
  threads_are = both_at (λ k t x. IsSoundThread threads t (w.seals k) (w.flags k t) x) w.inlets i thread inlet here
      sound.threads_are;
  links = sound.links;
  reports = sound.reports;
}

flag_changes : (members threads : ℕ) (w : Run) (i thread : ℕ) (flag : Flag) → IsSound members threads w
    → IsSoundThread threads thread (w.seals i) flag (w.inlets i thread)
    → IsSound members threads (record w { flags = with_both w.flags i thread flag })
flag_changes members threads w i thread flag sound here = record {
  works = sound.works;
  seals = sound.seals;
  threads_are = both_at (λ k t x. IsSoundThread threads t (w.seals k) x (w.inlets k t)) w.flags i thread flag here
      sound.threads_are;
  links = sound.links;
  reports = sound.reports;
}

sees : (threads thread : ℕ) (seal : SealState) (flag : Flag) (inlet : List Sending)
    → IsSoundThread threads thread seal flag inlet
    → IsSoundThread threads thread seal (record { begins = begins seal.hold; epoch = seal.epoch }) inlet
sees threads thread seal flag inlet old = record {
  real = old.real;
  seen = omega arith;
  holding = holding_more inlet flag.epoch seal.epoch old.seen old.holding;
  holds = λ is. fenced_holds seal.hold (in_parts seal seal.epoch is).0;
  behind = old.behind;
  passed = λ fenced is. (refl, (old.passed fenced is).1);
}

-- a thread that begins has seen no seal that its member is in
begins_before : (threads thread : ℕ) (seal : SealState) (flag : Flag) (inlet : List Sending) (epoch : ℕ)
    → IsSoundThread threads thread seal flag inlet → flag.begins ≡ true → is_in seal epoch ≡ true → flag.epoch < epoch
begins_before threads thread seal flag inlet epoch old begins is = elim (cases_order flag.epoch epoch) [
  | inl same ↦ absurd (false≢true (sym (old.holds (subst (λ e. is_in seal e ≡ true) (sym same) is)) ∙ begins))
  | inr either ↦ elim either [
    | inl less ↦ less
    | inr above ↦ let seen = old.seen in let at = (in_parts seal epoch is).1 in absurd (omega (arith, seen, at, above))
  ]
]

begins_soundly : (threads thread : ℕ) (seal : SealState) (flag : Flag) (inlet : List Sending) → thread < threads
    → flag.begins ≡ true → IsSoundThread threads thread seal flag inlet
    → IsSoundThread threads thread seal flag (inlet ++ Begun ∷ [])
begins_soundly threads thread seal flag inlet real begins old = record {
  real = λ e. real;
  seen = old.seen;
  holding = holding_begun inlet flag.epoch old.holding;
  holds = old.holds;
  behind = λ epoch is. behind_begun inlet flag.epoch epoch
      (begins_before threads thread seal flag inlet epoch old begins is) old.holding;
  passed = λ fenced is. let same = (old.passed fenced is).0 in
      let less = begins_before threads thread seal flag inlet seal.epoch old begins (in_from seal fenced) in
      absurd (omega (arith, same, less));
}

holds_soundly : (threads thread : ℕ) (seal : SealState) (flag : Flag) (inlet : List Sending)
    → IsSoundThread threads thread seal flag inlet
    → IsSoundThread threads thread seal flag (inlet ++ Passed flag.epoch ∷ [])
holds_soundly threads thread seal flag inlet old = record {
  real = λ e. old.real (sym (begun_passed inlet flag.epoch) ∙ e);
  seen = old.seen;
  holding = holding_passed inlet flag.epoch old.holding;
  holds = old.holds;
  behind = λ epoch is. behind_passed inlet epoch flag.epoch (old.behind epoch is);
  passed = λ fenced is. ((old.passed fenced is).0, begun_passed inlet flag.epoch ∙ (old.passed fenced is).1);
}

takes_soundly : (threads thread : ℕ) (seal : SealState) (flag : Flag) (rest : List Sending) → thread < threads
    → IsSoundThread threads thread seal flag (Begun ∷ rest) → IsSoundThread threads thread seal flag rest
takes_soundly threads thread seal flag rest real old = record {
  real = λ e. real;
  seen = old.seen;
  holding = old.holding;
  holds = old.holds;
  behind = old.behind;
  passed = λ fenced is. absurd (true≢false (old.passed fenced is).1);
}

passes_soundly : (threads thread epoch : ℕ) (seal : SealState) (flag : Flag) (rest : List Sending)
    → IsSoundThread threads thread seal flag (Passed epoch ∷ rest) → IsSoundThread threads thread seal flag rest
passes_soundly threads thread epoch seal flag rest old = record {
  real = old.real;
  seen = old.seen;
  holding = old.holding.1;
  holds = old.holds;
  behind = λ e is. (old.behind e is).1;
  passed = old.passed;
}

-- ---- seals

-- What may become of a member's seal.
record IsSealStep (members threads : ℕ) (w : Run) (i : ℕ) (new : SealState) : Type 0 where
  pub sound : IsSoundSeal members threads i new
  pub threads_are : (t : ℕ) → IsSoundThread threads t new (w.flags i t) (w.inlets i t)
  pub links : (k : ℕ) → IsSoundLink members k i (w.works k) new (w.links k i)
  pub later : (w.seals i).epoch ≤ new.epoch
  pub was_in : (epoch : ℕ) → epoch ≤ (w.seals i).epoch → is_in new epoch ≡ true → is_in (w.seals i) epoch ≡ true
  pub passed : (epoch : ℕ) → epoch ≤ (w.seals i).epoch → is_in new epoch ≡ true
      → (t : ℕ) → has_passed (w.seals i).passed t ≡ true → has_passed new.passed t ≡ true

seal_changes : (members threads : ℕ) (w : Run) (i : ℕ) (new : SealState) → IsSound members threads w
    → IsSealStep members threads w i new → IsSound members threads (record w { seals = with_at w.seals i new })
seal_changes members threads w i new sound step = record {
  works = sound.works;
  seals = changed (λ k x. IsSoundSeal members threads k x) w.seals i new step.sound sound.seals;
  threads_are = changed (λ k x. (t : ℕ) → IsSoundThread threads t x (w.flags k t) (w.inlets k t)) w.seals i new
      step.threads_are sound.threads_are;
  links = λ k. changed (λ j x. IsSoundLink members k j (w.works k) x (w.links k j)) w.seals i new (step.links k)
      (sound.links k);
  reports = λ s among idle. changed_at (λ x. IsSoundReport members threads x (w.works s.from) w.works
      (λ k. w.links k s.from) s) w.seals i new s.from
      (λ e. report s (subst (λ k. IsSoundReport members threads (w.seals k) (w.works s.from) w.works
      (λ k. w.links k s.from) s) e (sound.reports s among idle)))
      (sound.reports s among idle);
}
  where
    report : (s : Sent)
        → IsSoundReport members threads (w.seals i) (w.works s.from) w.works (λ k. w.links k s.from) s
        → IsSoundReport members threads new (w.works s.from) w.works (λ k. w.links k s.from) s
    report s old = record {
      rested = old.rested;
      view = old.view;
      last = old.last;
      committed = old.committed;
      epoch_is = let before = old.epoch_is in let later = step.later in omega (arith, before, later);
      passed = λ is t less. step.passed s.epoch old.epoch_is is t
          (old.passed (step.was_in s.epoch old.epoch_is is) t less);
      peers = old.peers;
    }

same_seal : (members threads : ℕ) (i : ℕ) (old new : SealState) → IsSame old new → IsSoundSeal members threads i old
    → IsSoundSeal members threads i new
same_seal members threads i old new same sound = record {
  id = same.id ∙ sound.id;
  members_are = same.members ∙ sound.members_are;
  threads_are = same.threads ∙ sound.threads_are;
}

-- a link whose receiver knows of no more markers
link_kept : (members i j : ℕ) (work : Work) (old new : SealState) (link : List Item)
    → ((numbers : Numbers) → mark_at new.marks i ≡ Some numbers → mark_at old.marks i ≡ Some numbers)
    → IsSoundLink members i j work old link → IsSoundLink members i j work new link
link_kept members i j work old new link fewer sound = record {
  sent = sound.sent;
  marked = sound.marked;
  ordered = sound.ordered;
  mark = λ numbers is. sound.mark numbers (fewer numbers is);
}

seal_follows : (members threads : ℕ) (w : Run) (i : ℕ) (new : SealState) → IsSound members threads w
    → IsSame (w.seals i) new → Turns (w.seals i) new → IsSealStep members threads w i new
seal_follows members threads w i new sound same (Stays is) = subst (IsSealStep members threads w i) (sym is) (record {
  sound = sound.seals i;
  threads_are = sound.threads_are i;
  links = λ k. sound.links k i;
  later = omega arith;
  was_in = λ epoch low is. is;
  passed = λ epoch low is t has. has;
})
seal_follows members threads w i new sound same (Leaves epoch_is unfenced marks) = record {
  sound = same_seal members threads i (w.seals i) new same (sound.seals i);
  threads_are = λ t. let old = sound.threads_are i t in record {
    real = old.real;
    seen = let seen = old.seen in omega (arith, seen, epoch_is);
    holding = old.holding;
    holds = λ is. absurd (not_in (w.flags i t).epoch is);
    behind = λ epoch is. absurd (not_in epoch is);
    passed = λ fenced has. absurd (true≢false (sym fenced ∙ unfenced));
  };
  links = λ k. link_kept members k i (w.works k) (w.seals i) new (w.links k i)
      (λ numbers is. subst (λ m. mark_at m k ≡ Some numbers) marks is) (sound.links k i);
  later = omega (arith, epoch_is);
  was_in = λ epoch low is. absurd (not_in epoch is);
  passed = λ epoch low is t has. absurd (not_in epoch is);
}
  where
    not_in : (epoch : ℕ) → is_in new epoch ≡ true → ⊥
    not_in epoch is = true≢false (sym (in_parts new epoch is).0 ∙ unfenced)
seal_follows members threads w i new sound same (Anew later marks passed) = record {
  sound = same_seal members threads i (w.seals i) new same (sound.seals i);
  threads_are = λ t. let old = sound.threads_are i t in record {
    real = old.real;
    seen = let seen = old.seen in omega (arith, seen, later);
    holding = old.holding;
    holds = λ is. let seen = old.seen in let at = (in_parts new (w.flags i t).epoch is).1 in
        absurd (omega (arith, seen, at, later));
    behind = λ epoch is. behind_none (w.inlets i t) (w.flags i t).epoch epoch
        (let seen = old.seen in let at = (in_parts new epoch is).1 in omega (arith, seen, at, later)) old.holding;
    passed = λ fenced has. absurd (none_passed_at t (subst (λ p. has_passed p t ≡ true) passed has));
  };
  links = λ k. link_kept members k i (w.works k) (w.seals i) new (w.links k i)
      (λ numbers is. absurd (no_mark_at k numbers (subst (λ m. mark_at m k ≡ Some numbers) marks is)))
      (sound.links k i);
  later = omega (arith, later);
  was_in = λ epoch low is. absurd (not_in epoch low is);
  passed = λ epoch low is t has. absurd (not_in epoch low is);
}
  where
    not_in : (epoch : ℕ) → epoch ≤ (w.seals i).epoch → is_in new epoch ≡ true → ⊥
    not_in epoch low is = let at = (in_parts new epoch is).1 in omega (arith, low, at, later)

-- two seals that are in the same ones
pub same_in : (old new : SealState) → new.hold ≡ old.hold → new.epoch ≡ old.epoch → (epoch : ℕ) → is_in new epoch ≡ true
    → is_in old epoch ≡ true
same_in old new hold epoch_is epoch is =
    subst (λ h. (is_fenced h && nat_eq old.epoch epoch) ≡ true) hold
    (subst (λ e. (is_fenced new.hold && nat_eq e epoch) ≡ true) epoch_is is)

seal_passes : (members threads : ℕ) (w : Run) (i thread epoch : ℕ) (rest : List Sending) (new : SealState)
    → IsSound members threads w → w.inlets i thread ≡ Passed epoch ∷ rest → IsSame (w.seals i) new
    → IsPassedBy thread epoch (w.seals i) new → IsSealStep members threads w i new
seal_passes members threads w i thread epoch rest new sound at same by = record {
  sound = same_seal members threads i (w.seals i) new same (sound.seals i);
  threads_are = λ t. let old = sound.threads_are i t in record {
    real = old.real;
    seen = let seen = old.seen in let e = by.epoch_is in omega (arith, seen, e);
    holding = old.holding;
    holds = λ is. old.holds (was (w.flags i t).epoch is);
    behind = λ e is. old.behind e (was e is);
    passed = λ fenced has. elim (by.after t has) [
      | inl now ↦ here t now.0 now.1
      | inr before ↦ let it = old.passed (subst (λ h. is_fenced h ≡ true) by.hold fenced) before in
          (it.0 ∙ sym by.epoch_is, it.1)
    ];
  };
  links = λ k. link_kept members k i (w.works k) (w.seals i) new (w.links k i)
      (λ numbers is. subst (λ m. mark_at m k ≡ Some numbers) by.marks is) (sound.links k i);
  later = let e = by.epoch_is in omega (arith, e);
  was_in = λ e low is. was e is;
  passed = λ e low is t has. by.stays t has;
}
  where
    was : (e : ℕ) → is_in new e ≡ true → is_in (w.seals i) e ≡ true
    was = same_in (w.seals i) new by.hold by.epoch_is

    mine : IsSoundThread threads thread (w.seals i) (w.flags i thread) (Passed epoch ∷ rest)
    mine = subst (IsSoundThread threads thread (w.seals i) (w.flags i thread)) at (sound.threads_are i thread)

    now_here : is_in (w.seals i) epoch ≡ true
        → ((w.flags i thread).epoch ≡ new.epoch) × (has_begun (w.inlets i thread) ≡ false)
    now_here is =
        let it = (in_parts (w.seals i) epoch is).1 in
        let low = mine.holding.0 in
        let seen = mine.seen in
        let e = by.epoch_is in
        let same_epoch : (w.flags i thread).epoch ≡ new.epoch = omega (arith, it, low, seen, e) in
        (same_epoch, ap has_begun at ∙ (mine.behind epoch is).0 refl)

    here : (t : ℕ) → t ≡ thread → is_in (w.seals i) epoch ≡ true
        → ((w.flags i t).epoch ≡ new.epoch) × (has_begun (w.inlets i t) ≡ false)
    here t same_thread is =
        subst (λ k. ((w.flags i k).epoch ≡ new.epoch) × (has_begun (w.inlets i k) ≡ false)) (sym same_thread)
        (now_here is)

seal_reached : (members threads : ℕ) (w : Run) (i j : ℕ) (m : Marker) (rest : List Item) (new : SealState)
    → IsSound members threads w → w.links i j ≡ Mark m ∷ rest → IsSame (w.seals j) new
    → IsMarkedBy i m (w.seals j) new → IsSealStep members threads w j new
seal_reached members threads w i j m rest new sound at same by = record {
  sound = same_seal members threads j (w.seals j) new same (sound.seals j);
  threads_are = λ t. let old = sound.threads_are j t in record {
    real = old.real;
    seen = let seen = old.seen in let e = by.epoch_is in omega (arith, seen, e);
    holding = old.holding;
    holds = λ is. old.holds (was (w.flags j t).epoch is);
    behind = λ e is. old.behind e (was e is);
    passed = λ fenced has.
        let it = old.passed (subst (λ h. is_fenced h ≡ true) by.hold fenced)
        (subst (λ p. has_passed p t ≡ true) by.passed has) in
        (it.0 ∙ sym by.epoch_is, it.1);
  };
  links = λ k. let old = sound.links k j in record {
    sent = old.sent;
    marked = old.marked;
    ordered = old.ordered;
    mark = λ numbers is. elim (by.after k numbers is) [
      | inl before ↦ old.mark numbers before
      | inr now ↦ here k numbers now.0 now.1
    ];
  };
  later = let e = by.epoch_is in omega (arith, e);
  was_in = λ e low is. was e is;
  passed = λ e low is t has. subst (λ p. has_passed p t ≡ true) (sym by.passed) has;
}
  where
    was : (e : ℕ) → is_in new e ≡ true → is_in (w.seals j) e ≡ true
    was = same_in (w.seals j) new by.hold by.epoch_is

    mine : IsSoundLink members i j (w.works i) (w.seals j) (Mark m ∷ rest)
    mine = subst (IsSoundLink members i j (w.works i) (w.seals j)) at (sound.links i j)

    it_is : Updates (λ n. reach m.numbers ≤ n) (w.links i j) × (reach m.numbers ≤ (w.works i).rested)
    it_is = (subst (Updates (λ n. reach m.numbers ≤ n)) (sym at) mine.ordered.0, mine.marked.0)

    here : (k : ℕ) (numbers : Numbers) → k ≡ i → m.numbers ≡ numbers
        → Updates (λ n. reach numbers ≤ n) (w.links k j) × (reach numbers ≤ (w.works k).rested)
    here k numbers same_member same_numbers =
        subst (λ a. Updates (λ n. reach numbers ≤ n) (w.links a j) × (reach numbers ≤ (w.works a).rested))
        (sym same_member)
        (subst (λ x. Updates (λ n. reach x ≤ n) (w.links i j) × (reach x ≤ (w.works i).rested)) same_numbers it_is)

-- ---- reports

report_added : (members threads : ℕ) (w : Run) (i : ℕ) → IsSound members threads w
    → IsSound members threads (record w {
      reports = record {
        from = i;
        epoch = (w.seals i).epoch;
        standing = standing_of (w.seals i) (w.works i).table;
      } ∷ w.reports;
    })
report_added members threads w i sound = record {
  works = sound.works;
  seals = sound.seals;
  threads_are = sound.threads_are;
  links = sound.links;
  reports = λ s among idle. elim among [
    | inl is ↦ subst (λ x. x.standing.idle ≡ true
        → IsSoundReport members threads (w.seals x.from) (w.works x.from) w.works (λ k. w.links k x.from) x)
        (sym is) new idle
    | inr old ↦ sound.reports s old idle
  ];
}
  where
    s : Sent
    s = record { from = i; epoch = (w.seals i).epoch; standing = standing_of (w.seals i) (w.works i).table }

    new : s.standing.idle ≡ true
        → IsSoundReport members threads (w.seals i) (w.works i) w.works (λ k. w.links k i) s
    new idle =
        let parts = and_parts (is_at_rest (w.seals i) (w.works i).table)
        (all_below (is_level (w.seals i) (w.works i).table.numbers) 16) idle in
        let rest = at_rest (w.seals i) (w.works i) (sound.works i) parts.0 in
        let rested = rest.1 in
        record {
          rested = omega (arith, rested);
          view = omega arith;
          last = omega arith;
          committed = omega arith;
          epoch_is = omega arith;
          passed = λ is thread less.
              let first = and_parts (is_fenced (w.seals i).hold)
              (not (w.works i).table.busy && all_below (has_passed (w.seals i).passed) (w.seals i).threads) parts.0 in
              let second = and_parts (not (w.works i).table.busy)
              (all_below (has_passed (w.seals i).passed) (w.seals i).threads) first.1 in
              below_at (has_passed (w.seals i).passed) (w.seals i).threads thread second.1
              (let same = (sound.seals i).threads_are in omega (arith, less, same));
          peers = λ k member out other. (sound.links k i).mark (w.works i).table.numbers
              (named (mark_at (w.seals i).marks k) (w.works i).table.numbers
              (level k member out other
              (below_at (is_level (w.seals i) (w.works i).table.numbers) 16 k parts.1 (below_16 k member))));
        }
      where
        below_16 : (k : ℕ) → is_member members k ≡ true → k < 16
        below_16 k member = ltb-true k 16 (and_parts (nat_lt k 16) (has members k) member).0

        peer : (k : ℕ) → is_member members k ≡ true → has (w.works i).table.numbers.view k ≡ false
            → nat_eq k i ≡ false → is_peer (w.seals i) (w.works i).table.numbers.view k ≡ true
        peer k member out other = and_from (is_member (w.seals i).members k)
            (not (has (w.works i).table.numbers.view k) && not (nat_eq k (w.seals i).id))
            (subst (λ m. is_member m k ≡ true) (sym (sound.seals i).members_are) member)
            (and_from (not (has (w.works i).table.numbers.view k)) (not (nat_eq k (w.seals i).id))
            (not_from_false _ out)
            (not_from_false (nat_eq k (w.seals i).id) (subst (λ x. nat_eq k x ≡ false) (sym (sound.seals i).id) other)))

        level : (k : ℕ) → is_member members k ≡ true → has (w.works i).table.numbers.view k ≡ false
            → nat_eq k i ≡ false → is_level (w.seals i) (w.works i).table.numbers k ≡ true
            → names (mark_at (w.seals i).marks k) (w.works i).table.numbers ≡ true
        level k member out other is =
            of_true (is_peer (w.seals i) (w.works i).table.numbers.view k)
            (names (mark_at (w.seals i).marks k) (w.works i).table.numbers) (peer k member out other) is

-- ---- all that may happen

pub keeps : (members threads : ℕ) (w next : Run) → IsSound members threads w → May members threads w next
    → IsSound members threads next
keeps members threads w next sound (Follows i phase) =
    seal_changes members threads w i (followed (w.seals i) phase) sound
    (seal_follows members threads w i (followed (w.seals i) phase) sound (same_followed (w.seals i) phase)
    (turns (w.seals i) phase))
keeps members threads w next sound (Sees i thread) =
    flag_changes members threads w i thread (record { begins = begins (w.seals i).hold; epoch = (w.seals i).epoch })
    sound
    (sees threads thread (w.seals i) (w.flags i thread) (w.inlets i thread) (sound.threads_are i thread))
keeps members threads w next sound (Begins i thread real begins_it) =
    inlet_changes members threads w i thread (w.inlets i thread ++ Begun ∷ []) sound
    (begins_soundly threads thread (w.seals i) (w.flags i thread) (w.inlets i thread) real begins_it
    (sound.threads_are i thread))
keeps members threads w next sound (Holds i thread holds_it) =
    inlet_changes members threads w i thread (w.inlets i thread ++ Passed (w.flags i thread).epoch ∷ []) sound
    (holds_soundly threads thread (w.seals i) (w.flags i thread) (w.inlets i thread) (sound.threads_are i thread))
keeps members threads w next sound (Takes i thread rest work at m) =
    inlet_changes members threads (record w { works = with_at w.works i work }) i thread rest
    (works_on members threads w i work sound (onward (w.works i) work (sound.works i) m))
    (takes_soundly threads thread (w.seals i) (w.flags i thread) rest
    ((sound.threads_are i thread).real (ap has_begun at))
    (subst (IsSoundThread threads thread (w.seals i) (w.flags i thread)) at (sound.threads_are i thread)))
keeps members threads w next sound (Passes i thread epoch rest at) =
    inlet_changes members threads (record w { seals = with_at w.seals i new }) i thread rest after
    (passes_soundly threads thread epoch _ (w.flags i thread) rest
    (subst (IsSoundThread threads thread _ (w.flags i thread)) at (after.threads_are i thread)))
  where
    new : SealState
    new = passed_by (w.seals i) thread epoch

    after : IsSound members threads (record w { seals = with_at w.seals i new })
    after = seal_changes members threads w i new sound
        (seal_passes members threads w i thread epoch rest new sound at (same_passed (w.seals i) thread epoch)
        (is_passed_by (w.seals i) thread epoch))
keeps members threads w next sound (Works i work active m) =
    works_on members threads w i work sound (onward (w.works i) work (sound.works i) m)
keeps members threads w next sound (Reads i busy resting) =
    works_on members threads w i (record (w.works i) { table = record (w.works i).table { busy = busy } }) sound
    (reads_onward (w.works i) busy (sound.works i) resting)
keeps members threads w next sound (Sends i j member other active) =
    update_sent members threads w i j sound member other active
keeps members threads w next sound (Hears i j rested rest work at known m) =
    link_taken members threads (record w { works = with_at w.works j work }) i j (Update rested) rest
    (works_on members threads w j work sound (onward (w.works j) work (sound.works j) m)) at
keeps members threads w next sound (Drops i j item rest at known) =
    link_taken members threads w i j item rest sound at
keeps members threads w next sound (Learns i work more m) =
    works_on members threads w i work sound (onward (w.works i) work (sound.works i) m)
keeps members threads w next sound (Marks i j marker is) =
    mark_sent members threads w i j marker sound is
keeps members threads w next sound (Reaches i j marker rest at known) =
    link_taken members threads (record w { seals = with_at w.seals j (marked_by (w.seals j) i marker) }) i j
    (Mark marker) rest
    (seal_changes members threads w j (marked_by (w.seals j) i marker) sound
    (seal_reached members threads w i j marker rest (marked_by (w.seals j) i marker) sound at
    (same_marked (w.seals j) i marker) (is_marked_by (w.seals j) i marker)))
    at
keeps members threads w next sound (Reports i) = report_added members threads w i sound

-- at first
at_first : (members generation threads : ℕ) → IsSound members threads (begun members generation threads)
at_first members generation threads = record {
  works = λ i. record { rest = λ r. refl; least = omega arith; busy = λ e. refl };
  seals = λ i. record { id = refl; members_are = refl; threads_are = refl };
  threads_are = λ i thread. record {
    real = λ e. absurd (false≢true e);
    seen = omega arith;
    holding = tt;
    holds = λ is. absurd (false≢true is);
    behind = λ epoch is. tt;
    passed = λ fenced has. absurd (false≢true fenced);
  };
  links = λ i j. record {
    sent = tt;
    marked = tt;
    ordered = tt;
    mark = λ numbers is. absurd (no_mark_at i numbers is);
  };
  reports = λ s among idle. absurd among;
}

pub is_sound : (members generation threads : ℕ) (w : Run) → IsReached members generation threads w
    → IsSound members threads w
is_sound members generation threads w At_first = at_first members generation threads
is_sound members generation threads w (Goes_on before next reached may) =
    keeps members threads before next (is_sound members generation threads before reached) may
