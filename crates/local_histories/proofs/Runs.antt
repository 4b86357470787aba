-- Events each of which may follow those before it are a run of moves.
use Rattle.std.proofs.Common.{◌≡◌, ℕ, zero, suc, Bool, true, false, cond, List, [], ◌∷◌, ◌++◌, take, Some}
use Rattle.std.proofs.Common.{◌⊎◌, inl, inr, refl, ap, sym, ◌∙◌, subst, append_assoc, arith}
use Rattle.std.specs.Prelude.{slice_get, not}
use Rattle.std.proofs.lemmas.Bool.{lt-ltb}
use Rattle.std.proofs.lemmas.List.{append-nil}
use Rattle.std.proofs.lemmas.Option.{same_Some}
use mathlib.Core.List.{IsPrefix}
use Rattle.node.specs.declared.messages.Input.TheVariants.{Call as Called, From, Gone}
use Rattle.rail.specs.declared.inbox_messages.InboxMessage.{InboxMessage}
use Rattle.rail.specs.declared.inbox_messages.InboxMessage.TheVariants.{Took, Stop, End}
use Rattle.interleavings.specs.Asked.{AreAsked}
use Rattle.interleavings.specs.Chains.{Chain, opening_chain}
use Rattle.interleavings.specs.OtherMoves.{moved_by}
use Rattle.interleavings.specs.OwnPorts.{with_own_ports}
use Rattle.interleavings.proofs.examples.InTwoParts.{moved_from_by-append}
use Rattle.interleavings.proofs.served.Along.{both_asked}
use Rattle.local_histories.specs.Events.{Event, Sent, Brought, Taken, Shown, Put, Answered, HandedBack, Got, Looked}
use Rattle.local_histories.specs.Events.{Halted, Broke}
use Rattle.local_histories.specs.Objects.{OpenedChain, has_halted}
use Rattle.local_histories.specs.LocalRules.{IsOpened, IsOf, AreOf}
use Rattle.local_histories.specs.Standing.{StandsForChain, moves_of, moves_of_taking, all_moves_after, all_moves}
use Rattle.local_histories.specs.Following.{MayFollow, EachMayFollow, Leads, AreRun}
use Rattle.local_histories.proofs.Idle.{brought_leads, handed_back_leads, broke_leads, halted_leads}
use Rattle.local_histories.proofs.SeatEvents.{sent_leads, got_leads}
use Rattle.local_histories.proofs.Looking.{looked_leads}
use Rattle.local_histories.proofs.Outputs.{shown_leads, put_leads, answered_leads}
use Rattle.local_histories.proofs.Taking.{taken_leads}

-- an event that may follow others leads from what stands before it to what stands after it
pub leads : (s : OpenedChain) (es : List Event) (e : Event) → IsOpened s → IsOf s e → MayFollow s es e → Leads s es e
leads s es (Sent i k port call) opened of may =
    let below = opened.seated i of.0 in
    sent_leads s es i k port call of.0 (omega (arith, below, of.1)) may
leads s es (Brought i k message) opened of may = brought_leads s es i k message
leads s es (Taken i envelope) opened of may = taken_leads s es i envelope of may
leads s es (Shown i input) opened of may = shown_leads s es i input of.0 may.0 may.1
leads s es (Put i j peer) opened of may = put_leads s es i j peer of may.0 may.1
leads s es (Answered i reply) opened of may =
    let below = opened.seated i of.0 in
    answered_leads s es i reply of.0 (omega (arith, below, of.1)) may.0 may.1
leads s es (HandedBack i port) opened of may = handed_back_leads s es i port
leads s es (Got i reply) opened of may =
    let below = opened.seated i of.0 in
    got_leads s es i reply of.0 (omega (arith, below, of.1)) may
leads s es (Looked i q key stood) opened of may =
    looked_leads s es i q key stood of.0 of.1 may.0 may.1.0 may.1.1
leads s es (Halted i) opened of may = halted_leads s es i of
leads s es (Broke i j) opened of may = broke_leads s es i j

-- ---- the moves of events, one after another

moves_more : (s : OpenedChain) (before es : List Event) (e : Event)
    → all_moves_after s before (es ++ e ∷ []) ≡ all_moves_after s before es ++ moves_of s (before ++ es) e
moves_more s before [] e = append-nil (moves_of s before e)
    ∙ ap (λ fs. moves_of s fs e) (sym (append-nil before))
moves_more s before (x ∷ xs) e =
    ap (λ ms. moves_of s before x ++ ms) (moves_more s (before ++ x ∷ []) xs e)
    ∙ ap (λ fs. moves_of s before x ++ (all_moves_after s (before ++ x ∷ []) xs ++ moves_of s fs e))
    (append_assoc before (x ∷ []) xs)
    ∙ sym (append_assoc (moves_of s before x) (all_moves_after s (before ++ x ∷ []) xs)
    (moves_of s (before ++ x ∷ xs) e))

-- the moves of a beginning, and then those of the rest
pub moves_in_two : (s : OpenedChain) (before es fs : List Event)
    → all_moves_after s before (es ++ fs)
    ≡ all_moves_after s before es ++ all_moves_after s (before ++ es) fs
moves_in_two s before [] fs = ap (λ gs. all_moves_after s gs fs) (sym (append-nil before))
moves_in_two s before (x ∷ xs) fs =
    ap (λ ms. moves_of s before x ++ ms) (moves_in_two s (before ++ x ∷ []) xs fs)
    ∙ ap (λ gs. moves_of s before x ++ (all_moves_after s (before ++ x ∷ []) xs ++ all_moves_after s gs fs))
    (append_assoc before (x ∷ []) xs)
    ∙ sym (append_assoc (moves_of s before x) (all_moves_after s (before ++ x ∷ []) xs)
    (all_moves_after s (before ++ x ∷ xs) fs))

-- one event more, or none
abbrev pub Next : List Event → ℕ → Type 0
Next es n = (take (suc n) es ≡ take n es)
    ⊎ ((e : Event) × (slice_get es n ≡ Some e) × (take (suc n) es ≡ take n es ++ e ∷ []))

pub next : (es : List Event) (n : ℕ) → Next es n
next [] zero = inl refl
next [] (suc n) = inl refl
next (x ∷ xs) zero = inr (x, refl, refl)
next (x ∷ xs) (suc n) = elim (next xs n) [
  | inl same ↦ inl (ap (λ ys. x ∷ ys) same)
  | inr more ↦ inr (more.0, more.1, ap (λ ys. x ∷ ys) more.2)
]

pub of_each : (s : OpenedChain) (es : List Event) (n : ℕ) (e : Event)
    → AreOf s es
    → slice_get es n ≡ Some e
    → IsOf s e
of_each s [] n e of here = absurd cc
of_each s (x ∷ xs) zero e of here = subst (IsOf s) (same_Some x e here) of.0
of_each s (x ∷ xs) (suc n) e of here = of_each s xs n e of.1 here

-- ---- the start

stands_at_first : (s : OpenedChain) → IsOpened s → StandsForChain s [] (opening_chain s.count s.homes)
stands_at_first s opened = record {
  count = refl;
  servers = λ i within. record {
    node = sym (opened.start i within);
    only_calls = tt;
    calls = λ p. refl;
    unpublished = refl;
    messages = λ j. refl;
    replies = λ p. refl;
    stopped = ap not (lt-ltb i s.count within);
  };
  channels = λ i j here there. refl;
  seats = λ c. record { home = refl; calls = refl; got = refl; queued = refl };
}

-- ---- what clients can ask

taking_asked : (i : ℕ) (m : InboxMessage) → AreAsked (moves_of_taking i m)
taking_asked i (Took (Called port call)) = (tt, tt)
taking_asked i (Took (From j peer)) = (tt, (tt, tt))
taking_asked i (Took (Gone j)) = (tt, (tt, tt))
taking_asked i Stop = tt
taking_asked i End = tt

moves_asked : (s : OpenedChain) (before : List Event) (e : Event) → IsOf s e → AreAsked (moves_of s before e)
moves_asked s before (Sent i k port call) of = (of.2, tt)
moves_asked s before (Brought i k message) of = tt
moves_asked s before (Taken i envelope) of = by (has_halted i before)
  where
    by : (b : Bool) → AreAsked (cond b [] (moves_of_taking i envelope.inbox_message))
    by true = tt
    by false = taking_asked i envelope.inbox_message
moves_asked s before (Shown i input) of = (tt, tt)
moves_asked s before (Put i j peer) of = (tt, tt)
moves_asked s before (Answered i reply) of = (tt, tt)
moves_asked s before (HandedBack i port) of = tt
moves_asked s before (Got i reply) of = (tt, tt)
moves_asked s before (Looked i q key stood) of = (of.2, tt)
moves_asked s before (Halted i) of = (tt, tt)
moves_asked s before (Broke i j) of = tt

-- ---- the run

module _ (s : OpenedChain) (es : List Event) (opened : IsOpened s) (of : AreOf s es) (each : EachMayFollow s es) where
  abbrev chain : List Event → Chain
  chain fs = moved_by (with_own_ports s.homes) s.count s.homes (all_moves s fs)

  one_more : (n : ℕ) (e : Event)
      → slice_get es n ≡ Some e
      → StandsForChain s (take n es) (chain (take n es))
      → StandsForChain s (take n es ++ e ∷ []) (chain (take n es ++ e ∷ []))
  one_more n e here stands =
      let fs = take n es in
      subst (λ l. StandsForChain s (fs ++ e ∷ []) l)
      (sym (ap (moved_by (with_own_ports s.homes) s.count s.homes) (moves_more s [] fs e)
      ∙ moved_from_by-append (with_own_ports s.homes) (opening_chain s.count s.homes) (all_moves s fs)
      (moves_of s fs e)))
      (leads s fs e opened (of_each s es n e of here) (each n e here) (chain fs) stands)

  all_stand : (n : ℕ) → StandsForChain s (take n es) (chain (take n es))
  all_stand zero = stands_at_first s opened
  all_stand (suc n) = by (next es n) (all_stand n)
    where
      by : Next es n
          → StandsForChain s (take n es) (chain (take n es))
          → StandsForChain s (take (suc n) es) (chain (take (suc n) es))
      by (inl same) h = subst (λ fs. StandsForChain s fs (chain fs)) (sym same) h
      by (inr more) h = subst (λ fs. StandsForChain s fs (chain fs)) (sym more.2) (one_more n more.0 more.1 h)

  all_asked : (n : ℕ) → AreAsked (all_moves s (take n es))
  all_asked zero = tt
  all_asked (suc n) = by (next es n) (all_asked n)
    where
      by : Next es n → AreAsked (all_moves s (take n es)) → AreAsked (all_moves s (take (suc n) es))
      by (inl same) h = subst (λ fs. AreAsked (all_moves s fs)) (sym same) h
      by (inr more) h = subst (λ fs. AreAsked (all_moves s fs)) (sym more.2)
          (subst AreAsked (sym (moves_more s [] (take n es) more.0))
          (both_asked (all_moves s (take n es)) (moves_of s (take n es) more.0) h
          (moves_asked s (take n es) more.0 (of_each s es n more.0 of more.1))))

  all_further : (n : ℕ) → IsPrefix (all_moves s (take n es)) (all_moves s (take (suc n) es))
  all_further n = by (next es n)
    where
      by : Next es n → IsPrefix (all_moves s (take n es)) (all_moves s (take (suc n) es))
      by (inl same) = ([], append-nil (all_moves s (take n es)) ∙ ap (all_moves s) (sym same))
      by (inr more) = (
        moves_of s (take n es) more.0,
        sym (moves_more s [] (take n es) more.0) ∙ ap (all_moves s) (sym more.2),
      )

  pub are_run : AreRun s es
  are_run = record { stands = all_stand; asked = all_asked; further = all_further }
