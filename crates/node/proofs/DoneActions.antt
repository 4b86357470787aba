-- Lists of actions done one after another: what is known at their end, and how rules that are such lists follow each
-- other.
use Rattle.std.proofs.Common.{◌≡◌, ℕ, ◌<◌, false, List, [], ◌∷◌, ◌++◌, Option, Some, None, inl, inr, refl, sym, ap}
use Rattle.std.proofs.Common.{subst, ◌∙◌, append_assoc, append-nil}
use Rattle.versions.specs.Entries.{LogEntry}
use Rattle.node.specs.declared.messages.Body.{Body}
use Rattle.node.specs.declared.messages.Body.TheVariants.{Op, Forward, Ack, Query, Answer}
use Rattle.node.specs.declared.messages.Input.{Input}
use Rattle.node.specs.declared.messages.Input.TheVariants.{Call as Called, From, Gone}
use Rattle.node.specs.declared.messages.Output.{Output}
use Rattle.node.specs.Views.{has}
use Rattle.node.specs.Servers.{ServerState, RuleResult, silent, putting, and_then, message_to}
use Rattle.node.specs.Lawful.{IsSound}
use Rattle.node.specs.Actions.{Action, Widen, Append, Reach, Settle, Send, Finish, Trim, Enter, Ask, Show, act, does}
use Rattle.node.specs.Actions.{Cause, left, IsMade, IsPassed, MaySend, Guard, AreGuarded, IsDone, Due, IsTurn, IsTurnOf}
use Rattle.node.specs.Actions.{due, due_after, AreInTurn, due_in_the_end}
use Rattle.node.proofs.SoundActions.{sound_act, IsSeatOf, seat_act, Grown, grown_same, grown_then, grown_act}
use Rattle.node.proofs.Growth.{is_trim, Grows, grows_self, grows_then, grows_act}

-- ---- a list after a list

-- two lists of actions, one after the other, do what the first and then the second does
pub does-append : (s : ServerState) (xs ys : List Action) → does s (xs ++ ys) ≡ and_then (does s xs) (λ t. does t ys)
unfolding does
does-append s [] ys = refl
does-append s (a ∷ xs) ys =
    let t = (act s a).state in
    ap (λ (r : RuleResult). and_then (act s a) (λ _. r)) (does-append t xs ys)
    ∙ ap (λ (os : List Output). record { state = (does (does t xs).state ys).state; outputs = os })
    (sym (append_assoc (act s a).outputs (does t xs).outputs _))

-- ---- what is left of a cause allows no more than the cause

-- an input that an action leaves is the one that came
pub came_left : (c : Cause) (input : Input) → left c ≡ Some input → c ≡ Some input
came_left None input h = h
came_left (Some (Called port call)) input h = absurd cc
came_left (Some (From i m)) input h = h
came_left (Some (Gone j)) input h = h

left_twice : (c : Cause) → left (left c) ≡ left c
left_twice None = refl
left_twice (Some (Called port call)) = refl
left_twice (Some (From i m)) = refl
left_twice (Some (Gone j)) = refl

made_left : (c : Cause) (s : ServerState) (e : LogEntry) → IsMade (left c) s e → IsMade c s e
made_left c s e h = record {
  origin = h.origin;
  id = h.id;
  call = h.call;
  wanted = elim h.wanted [ inl own ↦ inl own | inr g ↦ inr (g.0, came_left c _ g.1, g.2, g.3, g.4) ];
  fits = h.fits;
  update = h.update;
  head = h.head;
  taken = h.taken;
  made = h.made;
}

passed_left : (c : Cause) (s : ServerState) (e : LogEntry) → IsPassed (left c) s e → IsPassed c s e
passed_left c s e h =
    record {
      from = h.from;
      message = h.message;
      came = came_left c _ h.came;
      body = h.body;
      joined = h.joined;
      predecessor = h.predecessor;
      next = h.next;
    }

may_left : (c : Cause) (s : ServerState) (j : ℕ) (body : Body) → MaySend (left c) s j body → MaySend c s j body
may_left c s j (Op id call) h = h
may_left c s j (Forward e) h = h
may_left c s j (Ack n) h = h
may_left c s j (Query ask key) h = h
may_left c s j (Answer ask n) h = (h.0, h.1, h.2, h.3, h.4, came_left c _ h.5, h.6)

-- an action that is allowed by what is left of an input is allowed by the whole input
pub guard_left : (c : Cause) (s : ServerState) (a : Action) → Guard (left c) s a → Guard c s a
guard_left c s (Widen v) h =
    (elim h.0 [ inl g ↦ inl (g.0, g.1, came_left c _ g.2, g.3) | inr g ↦ inr (g.0, came_left c _ g.1, g.2) ], h.1, h.2)
guard_left c s (Append e) h = (h.0, elim h.1 [ inl m ↦ inl (made_left c s e m) | inr p ↦ inr (passed_left c s e p) ])
guard_left c s (Reach n) h =
    (h.0, h.1, elim h.2 [ inl g ↦ inl g | inr g ↦ inr (g.0, g.1, came_left c _ g.2, g.3, g.4, g.5) ])
guard_left c s (Settle e) h = h
guard_left c s (Send j body) h = (may_left c s j body h.0, h.1)
guard_left c s (Finish r n) h =
    (h.0, h.1, h.2, h.3, elim h.4 [ inl g ↦ inl g | inr g ↦ inr (g.0, g.1, came_left c _ g.2, g.3, g.4) ])
guard_left c s Trim h = tt
guard_left c s (Enter port call) h = (came_left c _ h.0, h.1, h.2, h.3)
guard_left c s (Ask port key) h = (h.0, came_left c _ h.1, h.2, h.3, h.4, h.5)
guard_left c s (Show port key) h = (h.0, came_left c _ h.1, h.2, h.3, h.4)

guarded_left : (ys : List Action) (c : Cause) (s : ServerState) → AreGuarded (left c) s ys → AreGuarded c s ys
guarded_left [] c s h = h
guarded_left (a ∷ ys) c s h = (h.0, guard_left c s a h.1, guarded_left ys (left c) (act s a).state h.2)

guarded_end : (xs : List Action) (c : Cause) (s : ServerState) → AreGuarded c s xs → IsSound (does s xs).state
unfolding does
guarded_end [] c s h = h
guarded_end (a ∷ xs) c s h = guarded_end xs (left c) (act s a).state h.2

guarded_then : (xs ys : List Action) (c : Cause) (s : ServerState)
    → AreGuarded c s xs
    → AreGuarded (left c) (does s xs).state ys
    → AreGuarded c s (xs ++ ys)
unfolding does
guarded_then [] ys c s h g = guarded_left ys c s g
guarded_then (a ∷ xs) ys c s h g = (
  h.0,
  h.1,
  guarded_then xs ys (left c) (act s a).state h.2
      (subst (λ (d : Cause). AreGuarded d (does (act s a).state xs).state ys) (sym (left_twice c)) g),
)

seat_does : (xs : List Action) (s : ServerState) → IsSeatOf s (does s xs).state
unfolding does
seat_does [] s = record { id = refl; count = refl }
seat_does (a ∷ xs) s =
    let first = seat_act s a in
    let rest = seat_does xs (act s a).state in
    record { id = rest.id ∙ first.id; count = rest.count ∙ first.count }

-- what a server knows and has numbered only grows
pub grown_does : (actions : List Action) (c : Cause) (s : ServerState)
    → AreGuarded c s actions
    → Grown s (does s actions).state
unfolding does
grown_does [] c s g = grown_same s
grown_does (a ∷ later) c s g =
    grown_then s (act s a).state _ (grown_act c s a g.1) (grown_does later (left c) (act s a).state g.2)

-- ---- rules that are lists of actions

-- what such a rule leaves is sound, in its place, and knows no less
pub sound_after : (c : Cause) (s : ServerState) (a : RuleResult) → IsDone c s a → IsSound a.state
sound_after c s a h = subst (λ (r : RuleResult). IsSound r.state) (sym h.same) (guarded_end h.actions c s h.guarded)

-- a rule that is a list of guarded actions leaves a server its id and the count of servers
pub seat_after : (c : Cause) (s : ServerState) (a : RuleResult) → IsDone c s a → IsSeatOf s a.state
seat_after c s a h = subst (λ (r : RuleResult). IsSeatOf s r.state) (sym h.same) (seat_does h.actions s)

-- what a server knows and has numbered only grows by a rule that is a list of guarded actions
pub grown_after : (c : Cause) (s : ServerState) (a : RuleResult) → IsDone c s a → Grown s a.state
grown_after c s a h = subst (λ (r : RuleResult). Grown s r.state) (sym h.same) (grown_does h.actions c s h.guarded)

-- ---- rules that are lists of actions in turn

turns_then : (xs ys : List Action) (d : Due) (s : ServerState)
    → AreInTurn d s xs
    → AreInTurn (due_in_the_end d s xs) (does s xs).state ys
    → AreInTurn d s (xs ++ ys)
unfolding does
turns_then [] ys d s h g = g
turns_then (a ∷ xs) ys d s h g = (h.0, turns_then xs ys (due d s a) (act s a).state h.1 g)

due_then : (xs ys : List Action) (d : Due) (s : ServerState)
    → due_in_the_end d s (xs ++ ys) ≡ due_in_the_end (due_in_the_end d s xs) (does s xs).state ys
unfolding does
due_then [] ys d s = refl
due_then (a ∷ xs) ys d s = due_then xs ys (due d s a) (act s a).state

-- a list of actions in turn, and P holds of what is due after them
pub record IsTurned (c : Cause) (s : ServerState) (d : Due) (a : RuleResult) (P : Due → Type 0) : Type 0 where
  pub done : IsDone c s a
  pub turns : AreInTurn d s done.actions
  pub after : P (due_in_the_end d s done.actions)

-- one list in turn, and then another
pub turned_then : (c : Cause) (s : ServerState) (d : Due) (a : RuleResult) (rule : ServerState → RuleResult)
    (Q : Due → Type 0)
    (h : IsDone c s a)
    → AreInTurn d s h.actions
    → (g : IsDone (left c) a.state (rule a.state))
    → AreInTurn (due_in_the_end d s h.actions) a.state g.actions
    → Q (due_in_the_end (due_in_the_end d s h.actions) a.state g.actions)
    → IsTurned c s d (and_then a rule) Q
turned_then c s d a rule Q h first g second q =
    let xs = h.actions in
    let ys = g.actions in
    let e = due_in_the_end d s xs in
    record {
      done = record {
        actions = xs ++ ys;
        guarded = guarded_then xs ys c s h.guarded
            (subst (λ (r : RuleResult). AreGuarded (left c) r.state ys) h.same g.guarded);
        same = ap (λ (r : RuleResult). and_then a (λ _. r)) g.same
            ∙ ap (λ (r : RuleResult). and_then r (λ t. does t ys))
            h.same ∙ sym (does-append s xs ys);
      };
      turns = turns_then xs ys d s first (subst (λ (r : RuleResult). AreInTurn e r.state ys) h.same second);
      after = subst Q (sym (due_then xs ys d s))
          (subst (λ (r : RuleResult). Q (due_in_the_end e r.state ys)) h.same q);
    }

-- A rule is a list of actions in turn, and P holds of what is due after them. None of them moves the floor.
pub record IsRule (c : Cause) (s : ServerState) (d : Due) (a : RuleResult) (P : Due → Type 0) : Type 0 where
  pub done : IsDone c s a
  pub turns : AreInTurn d s done.actions
  pub after : P (due_in_the_end d s done.actions)
  pub grows : Grows s a.state

-- a result that equals a rule's is that rule's
pub rule_as : (c : Cause) (s : ServerState) (d : Due) (a b : RuleResult) (P : Due → Type 0)
    → b ≡ a
    → IsRule c s d a P
    → IsRule c s d b P
rule_as c s d a b P e h = record {
  done = record { actions = h.done.actions; guarded = h.done.guarded; same = e ∙ h.done.same };
  turns = h.turns;
  after = h.after;
  grows = subst (λ (r : RuleResult). Grows s r.state) (sym e) h.grows;
}

-- what follows from what P says of the things due holds after the rule as well
pub rule_so : (c : Cause) (s : ServerState) (d : Due) (a : RuleResult) (P Q : Due → Type 0)
    → ((e : Due) → P e → Q e)
    → IsRule c s d a P
    → IsRule c s d a Q
rule_so c s d a P Q f h = record { done = h.done; turns = h.turns; after = f _ h.after; grows = h.grows }

-- who does nothing does an empty list of actions
pub rule_silent : (c : Cause) (s : ServerState) (d : Due) (P : Due → Type 0)
    → IsSound s
    → P d
    → IsRule c s d (silent s) P
unfolding does
rule_silent c s d P h p = record {
  done = record { actions = []; guarded = h; same = refl };
  turns = tt;
  after = p;
  grows = grows_self s;
}

-- one guarded action whose turn has come is a rule, unless it moves the floor
pub rule_one : (c : Cause) (s : ServerState) (d : Due) (a : Action) (P : Due → Type 0)
    → is_trim a ≡ false
    → IsSound s
    → Guard c s a
    → IsTurn d s a
    → P (due d s a)
    → IsRule c s d (act s a) P
unfolding does
rule_one c s d a P other h g turn p = record {
  done = record {
    actions = a ∷ [];
    guarded = (h, g, sound_act c s a h g);
    same = ap (λ (os : List Output). record { state = (act s a).state; outputs = os })
        (sym (append-nil (act s a).outputs));
  };
  turns = (turn, tt);
  after = p;
  grows = grows_act s a other;
}

-- one rule, and then another
pub rule_then : (c : Cause) (s : ServerState) (d : Due) (a : RuleResult) (rule : ServerState → RuleResult)
    (P Q : Due → Type 0)
    → IsRule c s d a P
    → ((e : Due) → P e → IsSound a.state → IsRule (left c) a.state e (rule a.state) Q)
    → IsRule c s d (and_then a rule) Q
rule_then c s d a rule P Q h f =
    let g = f _ h.after (sound_after c s a h.done) in
    let both = turned_then c s d a rule Q h.done h.turns g.done g.turns g.after in
    record {
      done = both.done;
      turns = both.turns;
      after = both.after;
      grows = grows_then s a.state (rule a.state).state h.grows g.grows;
    }

-- one action, and then a rule
pub rule_first : (c : Cause) (s : ServerState) (d : Due) (a : Action) (rule : ServerState → RuleResult)
    (Q : Due → Type 0)
    → is_trim a ≡ false
    → IsSound s
    → Guard c s a
    → IsTurn d s a
    → (IsSound (act s a).state → IsRule (left c) (act s a).state (due d s a) (rule (act s a).state) Q)
    → IsRule c s d (and_then (act s a) rule) Q
rule_first c s d a rule Q other h g turn f =
    rule_then c s d (act s a) rule (λ e. e ≡ due d s a) Q
    (rule_one c s d a (λ e. e ≡ due d s a) other h g turn refl)
    (λ e is sound. subst (λ x. IsRule (left c) (act s a).state x (rule (act s a).state) Q) (sym is) (f sound))

-- a message to this server, if it is one
pub rule_message : (c : Cause) (s : ServerState) (d : Due) (to : Option ℕ) (body : Body) (P : Due → Type 0)
    → IsSound s
    → (to ≡ None → P d)
    → ((j : ℕ) → to ≡ Some j → MaySend c s j body × (j < s.count) × IsTurnOf body d × P (due_after body d))
    → IsRule c s d (putting s (message_to s to body)) P
unfolding act
rule_message c s d None body P h p f = rule_silent c s d P h (p refl)
rule_message c s d (Some j) body P h p f =
    let g = f j refl in rule_one c s d (Send j body) P refl h (g.0, g.1) g.2 g.3
