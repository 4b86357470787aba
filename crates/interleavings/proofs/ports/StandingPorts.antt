-- How often a port stands at a running server; and that names of ports may differ where the ports don't stand.
use Rattle.std.proofs.Common.{◌≡◌, ℕ, ◌+◌, ◌≤◌, Bool, cond, List, [], ◌∷◌, ◌++◌, length, map, Option, None}
use Rattle.std.proofs.Common.{Some, true, false, refl, arith, ap, sym, ◌∙◌, length-append, eq-eqb}
use Rattle.std.specs.Prelude.{◌==◌, option_map, is_some}
use Rattle.table.specs.declared.operations.Reply.{Reply}
use Rattle.node.specs.declared.messages.Input.{Input}
use Rattle.node.specs.declared.messages.Input.TheVariants.{Call as Called, From, Gone}
use Rattle.node.specs.declared.messages.Output.{Output}
use Rattle.node.specs.declared.messages.Output.TheVariants.{To, Reply as Replied}
use Rattle.node.specs.declared.servers.OpenRead.{OpenRead}
use Rattle.node.specs.declared.servers.OpenUpdate.{OpenUpdate}
use Rattle.node.specs.Steps.{step}
use Rattle.interleavings.specs.Chains.{RunningServer, listed, queue, calls_from, replies_to, without_reply}
use Rattle.interleavings.specs.Chains.{without_message, Sender, first_of, without_first_of}
use Rattle.interleavings.specs.Moves.{took, taking, published, publishing}
use Rattle.interleavings.specs.Ports.{with_port, read_with_port, output_to, input_at, renamed}
use Rattle.interleavings.proofs.lists.FirstOf.{calls_picked}
use Rattle.interleavings.proofs.lists.Joined.{calls_from-append, replies_to-append}
use Rattle.interleavings.proofs.lists.Removed.{replies_without_message, others_without_reply, replies_without_first}
use Rattle.interleavings.proofs.ports.OpenPorts.{updates_there, reads_there, open_there, replies_there, step_within}
use Rattle.interleavings.proofs.ports.RenamedServers.{running_renamed}

-- in its queue, in its open calls, and in what it has left to put
abbrev pub standing : ℕ → RunningServer → ℕ
standing p s = length (calls_from p (queue s)) + open_there p s.node + replies_there p s.outbox

-- ---- names that agree where ports stand

-- a number counts at itself
at_itself : (p : ℕ) (n : ℕ) → 1 ≤ cond (p == p) 1 0 + n
at_itself p n = rw (eq-eqb p p refl) (omega arith)

more : (b : Bool) (n : ℕ) → 1 ≤ n → 1 ≤ cond b 1 0 + n
more b n h = omega (arith, h)

one_or_none : {X : Type 0} (b : Bool) (x : X) (xs : List X) → length (cond b (x ∷ xs) xs) ≡ cond b 1 0 + length xs
one_or_none true x xs = omega arith
one_or_none false x xs = omega arith

module _ (f g : ℕ → ℕ) where
  updates_agree : (us : List OpenUpdate)
      → ((p : ℕ) → 1 ≤ updates_there p us → f p ≡ g p)
      → map (with_port f) us ≡ map (with_port g) us
  updates_agree [] h = refl
  updates_agree (u ∷ us) h =
      ap (λ q. record u { port = q } ∷ map (with_port f) us) (h u.port (at_itself u.port (updates_there u.port us)))
      ∙ ap (λ vs. with_port g u ∷ vs)
      (updates_agree us (λ p e. h p (more (u.port == p) (updates_there p us) e)))

  reads_agree : (rs : List OpenRead)
      → ((p : ℕ) → 1 ≤ reads_there p rs → f p ≡ g p)
      → map (read_with_port f) rs ≡ map (read_with_port g) rs
  reads_agree [] h = refl
  reads_agree (r ∷ rs) h =
      ap (λ q. record r { port = q } ∷ map (read_with_port f) rs) (h r.port (at_itself r.port (reads_there r.port rs)))
      ∙ ap (λ qs. read_with_port g r ∷ qs)
      (reads_agree rs (λ p e. h p (more (r.port == p) (reads_there p rs) e)))

  outputs_agree : (os : List Output)
      → ((p : ℕ) → 1 ≤ replies_there p os → f p ≡ g p)
      → map (output_to f) os ≡ map (output_to g) os
  outputs_agree [] h = refl
  outputs_agree (To to m ∷ os) h = ap (λ ps. To to m ∷ ps) (outputs_agree os h)
  outputs_agree (Replied d reply ∷ os) h =
      ap (λ q. Replied q reply ∷ map (output_to f) os)
      (h d (omega (
        arith,
        at_itself d (length (replies_to d os)),
        one_or_none (d == d) reply (replies_to d os),
      )))
      ∙ ap (λ ps. Replied (g d) reply ∷ ps)
      (outputs_agree os (λ p e. h p (omega (
        arith,
        more (d == p) (length (replies_to p os)) e,
        one_or_none (d == p) reply (replies_to p os),
      ))))

  inputs_agree : (xs : List Input)
      → ((p : ℕ) → 1 ≤ length (calls_from p xs) → f p ≡ g p)
      → map (input_at f) xs ≡ map (input_at g) xs
  inputs_agree [] h = refl
  inputs_agree (From j m ∷ xs) h = ap (λ ys. From j m ∷ ys) (inputs_agree xs h)
  inputs_agree (Gone j ∷ xs) h = ap (λ ys. Gone j ∷ ys) (inputs_agree xs h)
  inputs_agree (Called d call ∷ xs) h =
      ap (λ q. Called q call ∷ map (input_at f) xs)
      (h d (omega (
        arith,
        at_itself d (length (calls_from d xs)),
        one_or_none (d == d) call (calls_from d xs),
      )))
      ∙ ap (λ ys. Called (g d) call ∷ ys)
      (inputs_agree xs (λ p e. h p (omega (
        arith,
        more (d == p) (length (calls_from p xs)) e,
        one_or_none (d == p) call (calls_from p xs),
      ))))

  taken_agrees : (o : Option Input)
      → ((p : ℕ) → 1 ≤ length (calls_from p (listed o)) → f p ≡ g p)
      → option_map (input_at f) o ≡ option_map (input_at g) o
  taken_agrees None h = refl
  taken_agrees (Some (From j m)) h = refl
  taken_agrees (Some (Gone j)) h = refl
  taken_agrees (Some (Called d call)) h =
      ap (λ q. Some (Called q call))
      (h d (omega (arith, at_itself d 0, one_or_none (d == d) call [])))

  -- a server whose ports have these names, or those, is the same
  pub names_agree : (s : RunningServer)
      → ((p : ℕ) → 1 ≤ standing p s → f p ≡ g p)
      → running_renamed f s ≡ running_renamed g s
  names_agree s h =
      let queued : (p : ℕ)
      → length (calls_from p (queue s))
      ≡ length (calls_from p (listed s.unpublished)) + length (calls_from p s.inbox) = λ p.
      ap length (calls_from-append p (listed s.unpublished) s.inbox)
      ∙ length-append (calls_from p (listed s.unpublished)) (calls_from p s.inbox) in
      ap (λ us. record (running_renamed f s) {
        node = record s.node {
          pend = us;
          asks = map
              (read_with_port f) s.node.asks;
        };
      })
      (updates_agree s.node.pend (λ p e. h p (omega (arith, e))))
      ∙ ap (λ rs. record (running_renamed f s) {
        node = record s.node {
          pend = map
              (with_port g) s.node.pend;
          asks = rs;
        };
      })
      (reads_agree s.node.asks (λ p e. h p (omega (arith, e))))
      ∙ ap (λ xs. record (running_renamed f s) { node = renamed g s.node; inbox = xs })
      (inputs_agree s.inbox (λ p e. h p (omega (arith, e, queued p))))
      ∙ ap (λ o. record (running_renamed f s) {
        node = renamed g s.node;
        inbox = map (input_at g) s.inbox;
        unpublished = o;
      }) (taken_agrees s.unpublished (λ p e. h p (omega (arith, e, queued p))))
      ∙ ap (λ os. record (running_renamed g s) { outbox = os }) (outputs_agree s.outbox (λ p e. h p (omega (arith, e))))

-- ---- what moves of a server leave of a port

module _ (p : ℕ) where
  took_standing : (s : RunningServer) (x : Sender) (o : Option Input)
      → first_of x s.inbox ≡ o
      → s.unpublished ≡ None
      → standing p (took s x o) ≡ standing p s
  took_standing s x None e free = refl
  took_standing s x (Some input) e free =
      let same : calls_from p (input ∷ without_first_of x s.inbox) ≡ calls_from p (listed s.unpublished ++ s.inbox) =
      calls_picked x p input s.inbox e ∙ ap (λ (u : Option Input). calls_from p (listed u ++ s.inbox)) (sym free) in
      ap (λ cs. length cs + open_there p s.node + replies_there p s.outbox) same

  -- what it takes it had in its inbox,
  pub taking_standing : (s : RunningServer) (x : Sender) → standing p (taking s x) ≡ standing p s
  taking_standing s x = by s.stopped (is_some s.unpublished) refl
    where
      none : (o : Option Input) → is_some o ≡ false → o ≡ None
      none None e = refl
      none (Some input) e = absurd (let no : true ≡ false = e in cc)

      by : (b busy : Bool)
          → is_some s.unpublished ≡ busy
          → standing p (cond b s (cond busy s (took s x (first_of x s.inbox)))) ≡ standing p s
      by true busy e = refl
      by false true e = refl
      by false false e = took_standing s x (first_of x s.inbox) refl (none s.unpublished e)

  published_standing : (s : RunningServer) (o : Option Input)
      → s.unpublished ≡ o
      → standing p (published s o) ≤ standing p s
  published_standing s None e = omega arith
  published_standing s (Some input) e =
      let a = step s.node input in
      let before : length (calls_from p (queue s))
      ≡ length (calls_from p (input ∷ [])) + length (calls_from p s.inbox) =
      ap (λ (u : Option Input). length (calls_from p (listed u ++ s.inbox))) e
      ∙ ap length (calls_from-append p (input ∷ []) s.inbox)
      ∙ length-append (calls_from p (input ∷ [])) (calls_from p s.inbox) in
      let put : replies_there p (s.outbox ++ a.outputs) ≡ replies_there p s.outbox + replies_there p a.outputs =
      ap length (replies_to-append p s.outbox a.outputs)
      ∙ length-append (replies_to p s.outbox) (replies_to p a.outputs) in
      omega (arith, step_within p s.node input, before, put)

  -- and what it publishes was open there, or came
  pub publishing_standing : (s : RunningServer) → standing p (publishing s) ≤ standing p s
  publishing_standing s = by s.stopped
    where
      by : (b : Bool) → standing p (cond b s (published s s.unpublished)) ≤ standing p s
      by true = omega arith
      by false = published_standing s s.unpublished refl

  -- a message is no call,
  pub message_standing : (s : RunningServer) (j : ℕ)
      → standing p (record s { outbox = without_message j s.outbox }) ≡ standing p s
  message_standing s j =
      ap (λ rs. length (calls_from p (queue s)) + open_there p s.node + length rs)
      (replies_without_message j p s.outbox)

  -- nor is an input that comes in, unless it is one from this port
  pub input_standing : (s : RunningServer) (x : Input)
      → standing p (record s { inbox = s.inbox ++ x ∷ [] }) ≡ standing p s + length (calls_from p (x ∷ []))
  input_standing s x =
      let joined : length (calls_from p (listed s.unpublished ++ (s.inbox ++ x ∷ [])))
      ≡ length (calls_from p (queue s)) + length (calls_from p (x ∷ [])) =
      ap length (calls_from-append p (listed s.unpublished) (s.inbox ++ x ∷ []))
      ∙ length-append (calls_from p (listed s.unpublished)) (calls_from p (s.inbox ++ x ∷ []))
      ∙ ap (λ n. length (calls_from p (listed s.unpublished)) + n)
      (ap length (calls_from-append p s.inbox (x ∷ []))
      ∙ length-append (calls_from p s.inbox) (calls_from p (x ∷ [])))
      ∙ regrouped (length (calls_from p (listed s.unpublished))) (length (calls_from p s.inbox))
      (length (calls_from p (x ∷ [])))
      ∙ ap (λ n. n + length (calls_from p (x ∷ [])))
      (sym (ap length (calls_from-append p (listed s.unpublished) s.inbox)
      ∙ length-append (calls_from p (listed s.unpublished)) (calls_from p s.inbox))) in
      omega (arith, joined)
    where
      regrouped : (a b c : ℕ) → a + (b + c) ≡ a + b + c
      regrouped a b c = omega arith

  -- a reply that is put stands there no longer
  pub reply_standing : (s : RunningServer) (reply : Reply) (more : List Reply)
      → replies_to p s.outbox ≡ reply ∷ more
      → standing p (record s { outbox = without_reply p s.outbox }) + 1 ≤ standing p s
  reply_standing s reply more e =
      omega (arith, ap (λ rs. length rs) (replies_without_first p s.outbox reply more e), ap (λ rs. length rs) e)

  -- at any other port the replies are the same
  pub other_standing : (q : ℕ) (s : RunningServer)
      → (p ≡ q → ⊥)
      → standing p (record s { outbox = without_reply q s.outbox }) ≡ standing p s
  other_standing q s apart =
      ap (λ rs. length (calls_from p (queue s)) + open_there p s.node + length rs)
      (others_without_reply q p s.outbox apart)
