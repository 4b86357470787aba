-- Which refusals a turn has, and when.
use Rattle.std.proofs.Common.{◌≡◌, ◌≢◌, ◌∙◌, ◌⊎◌, ◌↔◌, inl, inr, sym, ap, refl, arith, true, false, List, [], ◌∷◌, ◌++◌}
use Rattle.std.proofs.Common.{length, length-append, Option, Ok, Err, IfErr, OnErr, IsErrOf}
use Rattle.std.specs.declared.result.Result.{Result}
use Rattle.rail.specs.declared.faults.RailFault.{RailFault}
use Rattle.rail.specs.declared.faults.RailFault.TheVariants.{Memory, Closed, LinkDown, NoReader}
use Rattle.rail.specs.declared.workers.Turn.{Turn}
use Rattle.rail.specs.Links.{LinksState}
use Rattle.rail.specs.Workers.{WorkerState, IsTurn, MayBeTurn}

-- a list with one more at its end is another
longer : {X : Type 0} (xs : List X) (x : X) → xs ++ x ∷ [] ≢ xs
longer {X} xs x is = omega (arith, length-append xs (x ∷ []), ap (λ (ys : List X). length ys) is)

module _ {C : Type 0} (w w' : WorkerState) (l l' : LinksState C) where
  -- a turn is refused with these alone
  pub turn_fault : (r : Result Turn RailFault)
      → IsTurn w w' l l' r
      → IfErr r (λ fault. (fault ≡ Memory) ⊎ (fault ≡ Closed))
  turn_fault (Ok turn) t = tt
  turn_fault (Err Memory) t = inl refl
  turn_fault (Err Closed) t = inr refl
  turn_fault (Err LinkDown) t = absurd t
  turn_fault (Err NoReader) t = absurd t

  -- a turn is refused with Closed exactly if it took nothing
  pub turn_closed : (r : Result Turn RailFault) → IsTurn w w' l l' r → IsErrOf r Closed ↔ (w'.taken ≡ w.taken)
  turn_closed (Ok turn) t =
      (λ is. absurd (cc (is)), λ same. absurd (longer w.taken t.message (sym t.taken ∙ same)))
  turn_closed (Err Memory) t =
      (λ is. absurd (cc (is)), λ same. absurd (longer w.taken t.message (sym t.taken ∙ same)))
  turn_closed (Err Closed) t = (λ is. t.taken, λ same. refl)
  turn_closed (Err LinkDown) t = absurd t
  turn_closed (Err NoReader) t = absurd t

  -- and with Memory only if the server went on before
  pub turn_memory : (r : Result Turn RailFault) → IsTurn w w' l l' r → IsErrOf r Memory → w.goes ≡ true
  turn_memory (Ok turn) t is = absurd (cc (is))
  turn_memory (Err Memory) t is = t.did.2.going
  turn_memory (Err Closed) t is = absurd (cc (is))
  turn_memory (Err LinkDown) t is = absurd t
  turn_memory (Err NoReader) t is = absurd t

  -- after a refusal the server is stopped
  pub turn_stops : (r : Result Turn RailFault) → IsTurn w w' l l' r → OnErr r (w'.goes ≡ false)
  turn_stops (Ok turn) t = tt
  turn_stops (Err Memory) t = t.did.2.stopped
  turn_stops (Err Closed) t = t.stopped.stopped.stopped
  turn_stops (Err LinkDown) t = absurd t
  turn_stops (Err NoReader) t = absurd t

  -- the same of a turn that may have found no message
  pub any_fault : (r : Result (Option Turn) RailFault)
      → MayBeTurn w w' l l' r
      → IfErr r (λ fault. (fault ≡ Memory) ⊎ (fault ≡ Closed))
  any_fault (Ok found) t = tt
  any_fault (Err Memory) t = inl refl
  any_fault (Err Closed) t = inr refl
  any_fault (Err LinkDown) t = absurd t
  any_fault (Err NoReader) t = absurd t

  -- with Closed it took nothing
  pub any_closed : (r : Result (Option Turn) RailFault)
      → MayBeTurn w w' l l' r
      → IsErrOf r Closed
      → w'.taken ≡ w.taken
  any_closed (Ok found) t is = absurd (cc (is))
  any_closed (Err Memory) t is = absurd (cc (is))
  any_closed (Err Closed) t is = t.taken
  any_closed (Err LinkDown) t is = absurd t
  any_closed (Err NoReader) t is = absurd t

  -- with Memory the server went on before
  pub any_memory : (r : Result (Option Turn) RailFault) → MayBeTurn w w' l l' r → IsErrOf r Memory → w.goes ≡ true
  any_memory (Ok found) t is = absurd (cc (is))
  any_memory (Err Memory) t is = t.did.2.going
  any_memory (Err Closed) t is = absurd (cc (is))
  any_memory (Err LinkDown) t is = absurd t
  any_memory (Err NoReader) t is = absurd t

  -- after either the server is stopped
  pub any_stops : (r : Result (Option Turn) RailFault) → MayBeTurn w w' l l' r → OnErr r (w'.goes ≡ false)
  any_stops (Ok found) t = tt
  any_stops (Err Memory) t = t.did.2.stopped
  any_stops (Err Closed) t = t.stopped.stopped.stopped
  any_stops (Err LinkDown) t = absurd t
  any_stops (Err NoReader) t = absurd t
