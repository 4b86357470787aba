-- One running server under other ports: what it takes, publishes and has left to put is the same under these.
use Rattle.std.proofs.Common.{◌≡◌, ℕ, Bool, true, false, cond, List, [], ◌∷◌, ◌++◌, map, Option, None, Some, refl, ap}
use Rattle.std.proofs.Common.{sym, ◌∙◌, inl, inr, eq-eqb}
use Rattle.std.specs.Prelude.{◌==◌, option_map, is_some}
use Rattle.std.proofs.lemmas.Bool.{cases_eq, ne_eqb}
use Rattle.std.proofs.lemmas.List.{map-append}
use Rattle.node.specs.declared.messages.Input.{Input}
use Rattle.node.specs.declared.messages.Input.TheVariants.{Call as Called, From, Gone}
use Rattle.node.specs.declared.messages.Output.{Output}
use Rattle.node.specs.declared.messages.Output.TheVariants.{To, Reply as Replied}
use Rattle.node.specs.Servers.{RuleResult}
use Rattle.node.specs.Steps.{step}
use Rattle.interleavings.specs.Chains.{RunningServer, messages_to, without_message, replies_to, without_reply, Sender}
use Rattle.interleavings.specs.Chains.{OfSeat, OfServer, OfNotices, is_of, first_of, without_first_of}
use Rattle.interleavings.specs.Moves.{took, taking, published, publishing}
use Rattle.interleavings.specs.Ports.{output_to, input_at, renamed}
use Rattle.interleavings.proofs.ports.RenamedSteps.{step_renamed}

-- a running server whose ports have these names
abbrev pub running_renamed : (ℕ → ℕ) → RunningServer → RunningServer
running_renamed f s =
    record {
      node = renamed f s.node;
      inbox = map (input_at f) s.inbox;
      unpublished = option_map (input_at f) s.unpublished;
      outbox = map (output_to f) s.outbox;
      stopped = s.stopped;
    }

-- a sender whose port has its name
abbrev pub sender_at : (ℕ → ℕ) → Sender → Sender
sender_at f (OfSeat p) = OfSeat (f p)
sender_at f (OfServer j) = OfServer j
sender_at f OfNotices = OfNotices

-- a function of one of two is one of two
pub cond_under : {A B : Type 0} (g : A → B) (b : Bool) (x y : A) → cond b (g x) (g y) ≡ g (cond b x y)
cond_under g true x y = refl
cond_under g false x y = refl

some_map : (f : ℕ → ℕ) (o : Option Input) → is_some (option_map (input_at f) o) ≡ is_some o
some_map f None = refl
some_map f (Some input) = refl

-- messages are the same,
pub messages_renamed : (f : ℕ → ℕ) (j : ℕ) (os : List Output) → messages_to j (map (output_to f) os) ≡ messages_to j os
messages_renamed f j [] = refl
messages_renamed f j (To to m ∷ os) = ap (λ ms. cond (to == j) (m ∷ ms) ms) (messages_renamed f j os)
messages_renamed f j (Replied d reply ∷ os) = messages_renamed f j os

-- and so is what is left without one
pub without_message_renamed : (f : ℕ → ℕ) (j : ℕ) (os : List Output)
    → without_message j (map (output_to f) os) ≡ map (output_to f) (without_message j os)
without_message_renamed f j [] = refl
without_message_renamed f j (To to m ∷ os) =
    ap (λ ps. cond (to == j) (map (output_to f) os) (To to m ∷ ps)) (without_message_renamed f j os)
    ∙ cond_under (map (output_to f)) (to == j) os (To to m ∷ without_message j os)
without_message_renamed f j (Replied d reply ∷ os) =
    ap (λ ps. Replied (f d) reply ∷ ps) (without_message_renamed f j os)

module _ (f : ℕ → ℕ) (apart : (p q : ℕ) → f p ≡ f q → p ≡ q) where
  -- names of ports are equal exactly if the ports are
  pub same_test : (d p : ℕ) → (f d == f p) ≡ (d == p)
  same_test d p = elim (cases_eq d p) [
    | inl same ↦ eq-eqb (f d) (f p) (ap f same) ∙ sym (eq-eqb d p same)
    | inr other ↦ ne_eqb (f d) (f p) (λ e. other (apart d p e)) ∙ sym (ne_eqb d p other)
  ]

  -- ---- replies

  -- those to a port,
  pub replies_renamed : (p : ℕ) (os : List Output) → replies_to (f p) (map (output_to f) os) ≡ replies_to p os
  replies_renamed p [] = refl
  replies_renamed p (To to m ∷ os) = replies_renamed p os
  replies_renamed p (Replied d reply ∷ os) =
      ap (λ rs. cond (f d == f p) (reply ∷ rs) rs) (replies_renamed p os)
      ∙ ap (λ b. cond b (reply ∷ replies_to p os) (replies_to p os)) (same_test d p)

  -- and what is left without one
  pub without_reply_renamed : (p : ℕ) (os : List Output)
      → without_reply (f p) (map (output_to f) os) ≡ map (output_to f) (without_reply p os)
  without_reply_renamed p [] = refl
  without_reply_renamed p (To to m ∷ os) = ap (λ ps. To to m ∷ ps) (without_reply_renamed p os)
  without_reply_renamed p (Replied d reply ∷ os) =
      ap (λ ps. cond (f d == f p) (map (output_to f) os) (Replied (f d) reply ∷ ps)) (without_reply_renamed p os)
      ∙ ap (λ b. cond b (map (output_to f) os) (Replied (f d) reply ∷ map (output_to f) (without_reply p os)))
      (same_test d p)
      ∙ cond_under (map (output_to f)) (d == p) os (Replied d reply ∷ without_reply p os)

  -- ---- inputs

  is_of_renamed : (s : Sender) (x : Input) → is_of (sender_at f s) (input_at f x) ≡ is_of s x
  is_of_renamed (OfSeat c) (Called d call) = same_test d c
  is_of_renamed (OfSeat c) (From j m) = refl
  is_of_renamed (OfSeat c) (Gone j) = refl
  is_of_renamed (OfServer j) (Called d call) = refl
  is_of_renamed (OfServer j) (From k m) = refl
  is_of_renamed (OfServer j) (Gone k) = refl
  is_of_renamed OfNotices (Called d call) = refl
  is_of_renamed OfNotices (From k m) = refl
  is_of_renamed OfNotices (Gone k) = refl

  pub first_renamed : (s : Sender) (xs : List Input)
      → first_of (sender_at f s) (map (input_at f) xs) ≡ option_map (input_at f) (first_of s xs)
  first_renamed s [] = refl
  first_renamed s (x ∷ xs) =
      ap (λ o. cond (is_of (sender_at f s) (input_at f x)) (Some (input_at f x)) o) (first_renamed s xs)
      ∙ ap (λ b. cond b (Some (input_at f x)) (option_map (input_at f) (first_of s xs))) (is_of_renamed s x)
      ∙ cond_under (option_map (input_at f)) (is_of s x) (Some x) (first_of s xs)

  without_first_renamed : (s : Sender) (xs : List Input)
      → without_first_of (sender_at f s) (map (input_at f) xs) ≡ map (input_at f) (without_first_of s xs)
  without_first_renamed s [] = refl
  without_first_renamed s (x ∷ xs) =
      ap (λ ys. cond (is_of (sender_at f s) (input_at f x)) (map (input_at f) xs) (input_at f x ∷ ys))
      (without_first_renamed s xs)
      ∙ ap (λ b. cond b (map (input_at f) xs) (input_at f x ∷ map (input_at f) (without_first_of s xs)))
      (is_of_renamed s x)
      ∙ cond_under (map (input_at f)) (is_of s x) xs (x ∷ without_first_of s xs)

  took_renamed : (s : RunningServer) (x : Sender) (o : Option Input)
      → took (running_renamed f s) (sender_at f x) (option_map (input_at f) o) ≡ running_renamed f (took s x o)
  took_renamed s x None = refl
  took_renamed s x (Some input) =
      ap (λ xs. record (running_renamed f s) { inbox = xs; unpublished = Some (input_at f input) })
      (without_first_renamed x s.inbox)

  -- what it takes
  pub taking_renamed : (s : RunningServer) (x : Sender)
      → taking (running_renamed f s) (sender_at f x) ≡ running_renamed f (taking s x)
  taking_renamed s x =
      let r = running_renamed f s in
      let t = took s x (first_of x s.inbox) in
      ap (λ o. cond s.stopped r (cond (is_some (option_map (input_at f) s.unpublished)) r (took r (sender_at f x) o)))
      (first_renamed x s.inbox)
      ∙ ap (λ u. cond s.stopped r (cond (is_some (option_map (input_at f) s.unpublished)) r u))
      (took_renamed s x (first_of x s.inbox))
      ∙ ap (λ b. cond s.stopped r (cond b r (running_renamed f t))) (some_map f s.unpublished)
      ∙ ap (λ u. cond s.stopped r u) (cond_under (running_renamed f) (is_some s.unpublished) s t)
      ∙ cond_under (running_renamed f) s.stopped s (cond (is_some s.unpublished) s t)

-- ---- a publish

published_renamed : (f : ℕ → ℕ) (s : RunningServer) (o : Option Input)
    → published (running_renamed f s) (option_map (input_at f) o) ≡ running_renamed f (published s o)
published_renamed f s None = refl
published_renamed f s (Some input) =
    let r = running_renamed f s in
    ap (λ (a : RuleResult). record r { node = a.state; unpublished = None; outbox = r.outbox ++ a.outputs })
    (step_renamed f s.node input)
    ∙ ap (λ os. record r { node = renamed f (step s.node input).state; unpublished = None; outbox = os })
    (sym (map-append (output_to f) s.outbox (step s.node input).outputs))

-- what it publishes
pub publishing_renamed : (f : ℕ → ℕ) (s : RunningServer)
    → publishing (running_renamed f s) ≡ running_renamed f (publishing s)
publishing_renamed f s =
    ap (λ u. cond s.stopped (running_renamed f s) u) (published_renamed f s s.unpublished)
    ∙ cond_under (running_renamed f) s.stopped s (published s s.unpublished)

-- ---- who has stopped

-- taking leaves it,
pub taking_stopped : (s : RunningServer) (x : Sender) → (taking s x).stopped ≡ s.stopped
taking_stopped s x = by s.stopped (is_some s.unpublished) (first_of x s.inbox)
  where
    by : (b c : Bool) (o : Option Input) → (cond b s (cond c s (took s x o))).stopped ≡ s.stopped
    by true c o = refl
    by false true o = refl
    by false false None = refl
    by false false (Some input) = refl

-- and so does publishing
pub publishing_stopped : (s : RunningServer) → (publishing s).stopped ≡ s.stopped
publishing_stopped s = by s.stopped s.unpublished
  where
    by : (b : Bool) (o : Option Input) → (cond b s (published s o)).stopped ≡ s.stopped
    by true o = refl
    by false None = refl
    by false (Some input) = refl
