-- The calls that are published are the same under the seats' own ports.
use Rattle.std.proofs.Common.{◌≡◌, ℕ, ◌+◌, ◌<◌, cond, List, [], ◌∷◌, ◌++◌, length, map, Option, None, Some, refl, ap}
use Rattle.std.proofs.Common.{sym, ◌∙◌}
use Rattle.std.specs.Prelude.{nat_lt, option_map, ◌==◌}
use Rattle.node.specs.declared.messages.Input.{Input}
use Rattle.node.specs.declared.messages.Input.TheVariants.{Call as Called, From, Gone}
use Rattle.world.specs.Calls.{CallId}
use Rattle.interleavings.specs.Chains.{RunningServer, Seat, Chain, listed, queue, calls_from}
use Rattle.interleavings.specs.Orders.{waiting_calls, is_published}
use Rattle.interleavings.specs.OtherMoves.{is_published_from}
use Rattle.interleavings.specs.OwnPorts.{port_at, own_port}
use Rattle.interleavings.specs.Ports.{input_at}
use Rattle.interleavings.proofs.ports.RenamedChains.{Same, seat_there}
use Rattle.interleavings.proofs.ports.RenamedServers.{running_renamed, same_test}
use Rattle.interleavings.proofs.ports.SeatNames.{seat_in, seat_named, seat_apart}

module _ (f : ℕ → ℕ) (apart : (p q : ℕ) → f p ≡ f q → p ≡ q) where
  -- the calls of a port under its name
  pub calls_renamed : (p : ℕ) (xs : List Input) → calls_from (f p) (map (input_at f) xs) ≡ calls_from p xs
  calls_renamed p [] = refl
  calls_renamed p (Called d call ∷ xs) =
      ap (λ cs. cond (f d == f p) (call ∷ cs) cs) (calls_renamed p xs)
      ∙ ap (λ b. cond b (call ∷ calls_from p xs) (calls_from p xs)) (same_test f apart d p)
  calls_renamed p (From j m ∷ xs) = calls_renamed p xs
  calls_renamed p (Gone j ∷ xs) = calls_renamed p xs

pub queue_renamed : (f : ℕ → ℕ) (s : RunningServer) → queue (running_renamed f s) ≡ map (input_at f) (queue s)
queue_renamed f s = by s.unpublished
  where
    by : (o : Option Input)
        → listed (option_map (input_at f) o) ++ map (input_at f) s.inbox ≡ map (input_at f) (listed o ++ s.inbox)
    by None = refl
    by (Some x) = refl

module _ (n : ℕ) (homes : List ℕ) (l g : Chain) (h : Same n homes l g) where
  waits_same : (c : ℕ)
      → (l.seats c).home < n
      → waiting_calls g c ≡ calls_from (own_port n homes c) (queue (l.servers (l.seats c).home))
  waits_same c within =
      let i = (l.seats c).home in
      let f = seat_in homes i in
      let port = port_at homes c i in
      let is : f port ≡ c = seat_named homes c i (seat_there n homes l g h c within) in
      ap (λ (ss : ℕ → Seat). calls_from c (queue (g.servers (ss c).home))) h.seats
      ∙ ap (λ s. calls_from c (queue s)) (h.servers i within)
      ∙ ap (calls_from c) (queue_renamed f (l.servers i))
      ∙ ap (λ d. calls_from d (map (input_at f) (queue (l.servers i)))) (sym is)
      ∙ calls_renamed f (seat_apart homes i) port (queue (l.servers i))
      ∙ ap (λ j. calls_from (port_at homes c j) (queue (l.servers i))) (h.sits c)

  -- so which calls are published is the same
  pub published_same : (x : CallId)
      → (l.seats x.connection).home < n
      → is_published g x ≡ is_published_from (own_port n homes) l x
  published_same x within =
      ap (λ cs. nat_lt (x.ordinal + length cs) (length (g.seats x.connection).calls)) (waits_same x.connection within)
      ∙ ap (λ (ss : ℕ → Seat).
      nat_lt
      (x.ordinal
      + length (calls_from (own_port n homes x.connection) (queue (l.servers (l.seats x.connection).home))))
      (length (ss x.connection).calls))
      h.seats
