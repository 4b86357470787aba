-- A server's replies are for its own seats: its calls and its replies keep their ports, if each port that isn't one of
-- its seats' gets another name.
use Rattle.std.proofs.Common.{◌≡◌, ◌≢◌, ℕ, suc, Bool, true, false, cond, List, [], ◌∷◌, ◌++◌, Option, None, Some, map}
use Rattle.std.proofs.Common.{refl, arith, ap, sym, ◌∙◌, inl, inr}
use Rattle.std.specs.Prelude.{◌==◌, is_some, if◌then◌else◌}
use Rattle.std.proofs.lemmas.Bool.{cases_eq, eq-eqb, ne_eqb}
use Rattle.node.specs.declared.messages.Input.{Input}
use Rattle.node.specs.declared.messages.Output.{Output}
use Rattle.node.specs.declared.messages.Output.TheVariants.{To, Reply as Replied}
use Rattle.node.specs.Servers.{RuleResult}
use Rattle.node.specs.Steps.{step}
use Rattle.interleavings.specs.Chains.{RunningServer, Sender, is_of, first_of, without_first_of, without_message}
use Rattle.interleavings.specs.Chains.{replies_to, without_reply}
use Rattle.interleavings.specs.Moves.{took, taking, published, publishing}
use Rattle.interleavings.specs.Ports.{output_to, input_at, renamed, renamed_result}
use Rattle.interleavings.proofs.ports.RenamedSteps.{step_renamed}

-- another name for each port that isn't that of a seat of server i
abbrev pub at_home : (ℕ → ℕ) → ℕ → ℕ → ℕ
at_home home i c = if home c == i then c else suc c

-- a seat of it keeps its port
pub home_keeps : (home : ℕ → ℕ) (i c : ℕ) → home c ≡ i → at_home home i c ≡ c
home_keeps home i c e = ap (λ b. cond b c (suc c)) (eq-eqb (home c) i e)

-- no other does
pub kept_home : (home : ℕ → ℕ) (i c : ℕ) → at_home home i c ≡ c → home c ≡ i
kept_home home i c e = elim (cases_eq (home c) i) [
  | inl same ↦ same
  | inr other ↦ absurd (
      let changed : suc c ≡ c = sym (ap (λ b. cond b c (suc c)) (ne_eqb (home c) i other)) ∙ e in
      omega (arith, changed)
      )
]

-- ---- what keeps its ports

-- each of these inputs does
abbrev pub AreAt : (ℕ → ℕ) → List Input → Type 0
AreAt f [] = Unit {0}
AreAt f (x ∷ xs) = (input_at f x ≡ x) × AreAt f xs

-- the one there is does
abbrev pub IsAt : (ℕ → ℕ) → Option Input → Type 0
IsAt f None = Unit {0}
IsAt f (Some x) = input_at f x ≡ x

-- each of these outputs does
abbrev pub AreTo : (ℕ → ℕ) → List Output → Type 0
AreTo f [] = Unit {0}
AreTo f (o ∷ os) = (output_to f o ≡ o) × AreTo f os

-- The server's open calls, inputs and outputs do.
pub record Owns (f : ℕ → ℕ) (s : RunningServer) : Type 0 where
  pub node : renamed f s.node ≡ s.node
  pub inbox : AreAt f s.inbox
  pub unpublished : IsAt f s.unpublished
  pub outbox : AreTo f s.outbox

-- ---- lists

module _ (f : ℕ → ℕ) where
  pub one_more_at : (xs : List Input) (x : Input) → AreAt f xs → input_at f x ≡ x → AreAt f (xs ++ x ∷ [])
  one_more_at [] x h e = (e, tt)
  one_more_at (y ∷ ys) x h e = (h.0, one_more_at ys x h.1 e)

  first_at : (sender : Sender) (xs : List Input) → AreAt f xs → IsAt f (first_of sender xs)
  first_at sender [] h = tt
  first_at sender (x ∷ xs) h = by (is_of sender x) (first_at sender xs h.1)
    where
      by : (b : Bool) → IsAt f (first_of sender xs) → IsAt f (cond b (Some x) (first_of sender xs))
      by true g = h.0
      by false g = g

  without_first_at : (sender : Sender) (xs : List Input) → AreAt f xs → AreAt f (without_first_of sender xs)
  without_first_at sender [] h = tt
  without_first_at sender (x ∷ xs) h = by (is_of sender x) (without_first_at sender xs h.1)
    where
      by : (b : Bool) → AreAt f (without_first_of sender xs) → AreAt f (cond b xs (x ∷ without_first_of sender xs))
      by true g = h.1
      by false g = (h.0, g)

  both_to : (os ps : List Output) → AreTo f os → AreTo f ps → AreTo f (os ++ ps)
  both_to [] ps h g = g
  both_to (o ∷ os) ps h g = (h.0, both_to os ps h.1 g)

  mapped_to : (os : List Output) → map (output_to f) os ≡ os → AreTo f os
  mapped_to [] e = tt
  mapped_to (o ∷ os) e = (cc, mapped_to os cc)

  pub without_message_to : (j : ℕ) (os : List Output) → AreTo f os → AreTo f (without_message j os)
  without_message_to j [] h = tt
  without_message_to j (To to m ∷ os) h = by (to == j) (without_message_to j os h.1)
    where
      by : (b : Bool) → AreTo f (without_message j os) → AreTo f (cond b os (To to m ∷ without_message j os))
      by true g = h.1
      by false g = (h.0, g)
  without_message_to j (Replied d reply ∷ os) h = (h.0, without_message_to j os h.1)

  pub without_reply_to : (c : ℕ) (os : List Output) → AreTo f os → AreTo f (without_reply c os)
  without_reply_to c [] h = tt
  without_reply_to c (To to m ∷ os) h = (h.0, without_reply_to c os h.1)
  without_reply_to c (Replied d reply ∷ os) h = by (d == c) (without_reply_to c os h.1)
    where
      by : (b : Bool) → AreTo f (without_reply c os) → AreTo f (cond b os (Replied d reply ∷ without_reply c os))
      by true g = h.1
      by false g = (h.0, g)

  -- ---- what a server does

  took_owns : (s : RunningServer) (sender : Sender) (o : Option Input)
      → Owns f s
      → IsAt f o
      → Owns f (took s sender o)
  took_owns s sender None h g = h
  took_owns s sender (Some input) h g = record {
    node = h.node;
    inbox = without_first_at sender s.inbox h.inbox;
    unpublished = g;
    outbox = h.outbox;
  }

  pub taking_owns : (s : RunningServer) (sender : Sender) → Owns f s → Owns f (taking s sender)
  taking_owns s sender h =
      by s.stopped (is_some s.unpublished)
      (took_owns s sender (first_of sender s.inbox) h (first_at sender s.inbox h.inbox))
    where
      by : (b c : Bool)
          → Owns f (took s sender (first_of sender s.inbox))
          → Owns f (cond b s (cond c s (took s sender (first_of sender s.inbox))))
      by true c g = h
      by false true g = h
      by false false g = g

  published_owns : (s : RunningServer) (o : Option Input) → Owns f s → IsAt f o → Owns f (published s o)
  published_owns s None h g = h
  published_owns s (Some input) h g =
      let fixed : renamed_result f (step s.node input) ≡ step s.node input =
      sym (step_renamed f s.node input) ∙ ap (λ t. step t (input_at f input)) h.node ∙ ap (step s.node) g in
      record {
        node = ap (λ (a : RuleResult). a.state) fixed;
        inbox = h.inbox;
        unpublished = tt;
        outbox = both_to s.outbox (step s.node input).outputs h.outbox
            (mapped_to (step s.node input).outputs (ap (λ (a : RuleResult). a.outputs) fixed));
      }

  pub publishing_owns : (s : RunningServer) → Owns f s → Owns f (publishing s)
  publishing_owns s h = by s.stopped (published_owns s s.unpublished h h.unpublished)
    where
      by : (b : Bool) → Owns f (published s s.unpublished) → Owns f (cond b s (published s s.unpublished))
      by true g = h
      by false g = g

-- it has no reply for a seat of another server
pub none_for_others : (home : ℕ → ℕ) (i c : ℕ) (os : List Output)
    → AreTo (at_home home i) os
    → home c ≢ i
    → replies_to c os ≡ []
none_for_others home i c [] h other = refl
none_for_others home i c (To to m ∷ os) h other = none_for_others home i c os h.1 other
none_for_others home i c (Replied d reply ∷ os) h other =
    let e : Replied (at_home home i d) reply ≡ Replied d reply = h.0 in
    let stays : at_home home i d ≡ d = cc in
    let apart : d ≢ c = λ same. other (ap home (sym same) ∙ kept_home home i d stays) in
    ap (λ b. cond b (reply ∷ replies_to c os) (replies_to c os)) (ne_eqb d c apart)
    ∙ none_for_others home i c os h.1 other
