-- A chain with a queue for each port is one with a queue for each seat: while a seat holds a port, the two are the
-- same.
use Rattle.std.proofs.Common.{◌≡◌, ◌≢◌, ℕ, zero, suc, ◌+◌, ◌<◌, ◌≤◌, Bool, true, false, cond, List, [], ◌∷◌, ◌++◌}
use Rattle.std.proofs.Common.{length}
use Rattle.std.proofs.Common.{take, Option, None, Some, refl, arith, ap, sym, ◌∙◌, subst, ◌⊎◌, inl, inr, eq-eqb}
use Rattle.std.proofs.Common.{length-append}
use Rattle.std.specs.Prelude.{◌&&◌, not, ◌==◌}
use Rattle.std.proofs.lemmas.Bool.{cases_eq, cases_Bool, cases_lt, both_ways, and_parts, not-true, eqb-true, ne_eqb}
use Rattle.std.proofs.lemmas.Bool.{ltb-true}
use Rattle.std.proofs.lemmas.Option.{slice_get_within}
use Rattle.table.specs.Items.{Item}
use Rattle.table.specs.declared.operations.Call.{Call}
use Rattle.table.specs.declared.operations.Reply.{Reply}
use Rattle.table.specs.declared.operations.Reply.TheVariants.{Value}
use Rattle.node.specs.declared.looks.Look.{Look}
use Rattle.node.specs.declared.looks.Look.TheVariants.{Clean, Dirty}
use Rattle.node.specs.declared.messages.Input.TheVariants.{Call as Called, Gone}
use Rattle.node.specs.declared.messages.Peer.{Peer}
use Rattle.node.specs.Faces.{face_of, look_at}
use Rattle.interleavings.specs.Chains.{RunningServer, Seat, Chain, with_at, with_running, with_seat}
use Rattle.interleavings.specs.Chains.{messages_to, replies_to, without_reply}
use Rattle.interleavings.specs.Moves.{Move, Sends, Takes, Publishes, Puts, Arrives, Replies, Receives, Looks, Stops}
use Rattle.interleavings.specs.Moves.{Notices, is_free, read_of, brought, looked, put, arrived, has_stopped}
use Rattle.interleavings.specs.Moves.{received, done}
use Rattle.interleavings.specs.OwnPorts.{sent_from, reply_put_from, replying_from}
use Rattle.interleavings.specs.FreePorts.{PortChoice, port_now, awaits_reply, with_free_ports}
use Rattle.proto.specs.Turns.{is_store}
use Rattle.interleavings.specs.Connections.{made, answered, refused, waits, may_have}
use Rattle.interleavings.specs.ServingMoves.{ServingChain, ServingMove, Reads, Begins, Asks, Peeks, Refuses, Answers}
use Rattle.interleavings.specs.ServingMoves.{Writes, Ends, Runs, served_at, with_served, refusing, key_due, look_reply}
use Rattle.interleavings.specs.ServingMoves.{opening_serving, asking, peeked, peeking, answering, served_by}
use Rattle.interleavings.specs.Pools.{PooledServing, PooledMove, Serves, Collects, holds_port, none_holds, may_ask}
use Rattle.interleavings.specs.Pools.{collecting, pooled_by, pooled_from, opening_pooled}
use Rattle.interleavings.specs.PortQueues.{QueuedServing, with_queue, asking_from, answering_from, collecting_from}
use Rattle.interleavings.specs.PortQueues.{replying_to, serving_with, queued_by, queued_from, opening_queued, queued}
use Rattle.interleavings.specs.PortQueues.{IsWithSeatQueues}
use Rattle.interleavings.proofs.lists.ChangedFunctions.{at_other, at_same, at_self, kept_at}
use Rattle.interleavings.proofs.served.ChainMoves.{looks_seats}
use Rattle.interleavings.proofs.served.PooledRuns.{SamePooled, goes_on, opening_same, none_awaits}
use Rattle.interleavings.proofs.served.Steps.{view_at}
use Rattle.interleavings.proofs.ports.RenamedChains.{of_chain, seat_there}

-- ---- queues of ports

queue_same : (qs : ℕ → ℕ → List Reply) (i p : ℕ) (rs : List Reply) → with_queue qs i p rs i p ≡ rs
queue_same qs i p rs =
    ap (λ (f : ℕ → List Reply). f p) (at_same qs i (with_at (qs i) p rs)) ∙ at_same (qs i) p rs

queue_other : (qs : ℕ → ℕ → List Reply) (i p : ℕ) (rs : List Reply) (j q : ℕ)
    → (j ≡ i → q ≢ p)
    → with_queue qs i p rs j q ≡ qs j q
queue_other qs i p rs j q away = elim (cases_eq j i) [
  | inl same ↦ subst (λ k. with_queue qs i p rs k q ≡ qs k q) (sym same)
      (ap (λ (f : ℕ → List Reply). f q) (at_same qs i (with_at (qs i) p rs)) ∙ at_other (qs i) p rs q (away same))
  | inr other ↦ ap (λ (f : ℕ → List Reply). f q) (at_other qs i (with_at (qs i) p rs) j other)
]

-- a call of the seat is open, and wasn't collected
abbrev holding : (ℕ → Seat) → (ℕ → Bool) → ℕ → Bool
holding ss b c = not (is_free (ss c)) && not (b c)

module _ (n : ℕ) (ports : PortChoice) where
  abbrev port_of : (ℕ → Seat) → ℕ → ℕ
  port_of ss c = ports c (length (ss c).got)

  -- The queue of each seat that holds a port is the port's; no two hold one, and the queue of a port that nobody holds
  -- is empty.
  record Rest (ss : ℕ → Seat) (b : ℕ → Bool) (qs : ℕ → ℕ → List Reply) : Type 0 where
    queued : (c : ℕ) → holding ss b c ≡ true → (ss c).queued ≡ qs (ss c).home (port_of ss c)
    none : (i p : ℕ)
        → i < n
        → ((c : ℕ) → holding ss b c ≡ true → (ss c).home ≡ i → port_of ss c ≢ p)
        → qs i p ≡ []
    over : (i p : ℕ) → n ≤ i → qs i p ≡ []
    alone : (c d : ℕ)
        → holding ss b c ≡ true
        → holding ss b d ≡ true
        → (ss c).home ≡ (ss d).home
        → (ss c).home < n
        → port_of ss c ≡ port_of ss d
        → c ≡ d

  module _ (ss : ℕ → Seat) (b : ℕ → Bool) (qs : ℕ → ℕ → List Reply) (h : Rest ss b qs) (c : ℕ) where
    -- a seat holds no port from now on, and nothing else of seats changes
    ceases : (ss' : ℕ → Seat) (b' : ℕ → Bool) (qs' : ℕ → ℕ → List Reply)
        → ((d : ℕ) → d ≢ c → ss' d ≡ ss d)
        → ((d : ℕ) → d ≢ c → b' d ≡ b d)
        → holding ss' b' c ≡ false
        → (holding ss b c ≡ true → (ss c).home < n)
        → (holding ss b c ≡ true → qs' (ss c).home (port_of ss c) ≡ [])
        → ((i p : ℕ) → (holding ss b c ≡ true → i ≡ (ss c).home → p ≢ port_of ss c) → qs' i p ≡ qs i p)
        → Rest ss' b' qs'
    ceases ss' b' qs' seats flags gone within empty same = record {
      queued = λ d held.
          let o = other d held in
          let was = before d held in
          ap (λ (s : Seat). s.queued) (seats d o) ∙ h.queued d was
          ∙ sym (ap (λ (s : Seat). qs' s.home (ports d (length s.got))) (seats d o)
          ∙ same (ss d).home (port_of ss d)
          (λ holds at port. o (h.alone d c was holds at (subst (λ k. k < n) (sym at) (within holds)) port)));
      none = λ i p inside no. elim (cases_Bool (holding ss b c)) [
        | inl holds ↦ elim (cases_eq i (ss c).home) [
          | inl at ↦ elim (cases_eq p (port_of ss c)) [
            | inl port ↦ ap (λ k. qs' k p) at ∙ ap (qs' (ss c).home) port ∙ empty holds
            | inr away ↦ same i p (λ _ _. away) ∙ h.none i p inside (λ d held there port. elim (cases_eq d c) [
              | inl own ↦ away (sym port ∙ ap (port_of ss) own)
              | inr o ↦ no d (after d o held) (ap (λ (s : Seat). s.home) (seats d o) ∙ there)
                  (ap (λ (s : Seat). ports d (length s.got)) (seats d o) ∙ port)
            ])
          ]
          | inr away ↦ same i p (λ _ at _. away at) ∙ h.none i p inside (λ d held there port. elim (cases_eq d c) [
            | inl own ↦ away (sym there ∙ ap (λ x. (ss x).home) own)
            | inr o ↦ no d (after d o held) (ap (λ (s : Seat). s.home) (seats d o) ∙ there)
                (ap (λ (s : Seat). ports d (length s.got)) (seats d o) ∙ port)
          ])
        ]
        | inr free ↦ same i p (λ holds _ _. both_ways _ free holds)
            ∙ h.none i p inside (λ d held there port. elim (cases_eq d c) [
              | inl own ↦ both_ways _ free (ap (holding ss b) (sym own) ∙ held)
              | inr o ↦ no d (after d o held) (ap (λ (s : Seat). s.home) (seats d o) ∙ there)
                  (ap (λ (s : Seat). ports d (length s.got)) (seats d o) ∙ port)
            ])
      ];
      over = λ i p out. elim (cases_Bool (holding ss b c)) [
        | inl holds ↦ (let inside = within holds in
            same i p (λ _ at _. (let m = at in omega (arith, out, inside, m))) ∙ h.over i p out)
        | inr free ↦ same i p (λ holds _ _. both_ways _ free holds) ∙ h.over i p out
      ];
      alone = λ d e hd he at inside port.
          let od = other d hd in
          let oe = other e he in
          h.alone d e (before d hd) (before e he)
          (ap (λ (s : Seat). s.home) (sym (seats d od)) ∙ at ∙ ap (λ (s : Seat). s.home) (seats e oe))
          (subst (λ (s : Seat). s.home < n) (seats d od) inside)
          (ap (λ (s : Seat). ports d (length s.got)) (sym (seats d od)) ∙ port
          ∙ ap (λ (s : Seat). ports e (length s.got)) (seats e oe));
    }
      where
        other : (d : ℕ) → holding ss' b' d ≡ true → d ≢ c
        other d held own = both_ways _ (ap (holding ss' b') own ∙ gone) held

        like : (d : ℕ) → d ≢ c → holding ss' b' d ≡ holding ss b d
        like d o = ap (λ (s : Seat). not (is_free s) && not (b' d)) (seats d o)
            ∙ ap (λ f. not (is_free (ss d)) && not f) (flags d o)

        before : (d : ℕ) → holding ss' b' d ≡ true → holding ss b d ≡ true
        before d held = sym (like d (λ own. both_ways _ (ap (holding ss' b') own ∙ gone) held)) ∙ held

        after : (d : ℕ) → d ≢ c → holding ss b d ≡ true → holding ss' b' d ≡ true
        after d o held = like d o ∙ held

    -- the seat sends a call from a port that nobody holds
    sends : (call : Call)
        → is_free (ss c) ≡ true
        → (ss c).queued ≡ []
        → ((ss c).home < n
        → (d : ℕ)
        → holding ss b d ≡ true
        → (ss d).home ≡ (ss c).home
        → port_of ss d ≢ port_of ss c)
        → Rest (with_at ss c (record (ss c) { calls = (ss c).calls ++ call ∷ [] })) (with_at b c false) qs
    sends call free empty nobody = record {
      queued = λ d held. elim (cases_eq d c) [
        | inl own ↦ subst (λ x. ((with_at ss c (record (ss c) { calls = (ss c).calls ++ call ∷ [] })) x).queued ≡ qs
            ((with_at ss c (record (ss c) { calls = (ss c).calls ++ call ∷ [] })) x).home (port_of (with_at ss c
            (record (ss c) { calls = (ss c).calls ++ call ∷ [] })) x)) (sym own)
            (subst (λ (s : Seat). s.queued ≡ qs s.home (ports c (length s.got))) (sym here) (empty ∙ sym unused))
        | inr o ↦ subst (λ (s : Seat). s.queued ≡ qs s.home (ports d (length s.got))) (sym (there d o))
            (h.queued d (before d o held))
      ];
      none = λ i p inside no. h.none i p inside (λ d held at port.
          let o : d ≢ c = λ own. both_ways _ not_held (ap (holding ss b) (sym own) ∙ held) in
          no d (like d o ∙ held) (ap (λ (s : Seat). s.home) (there d o) ∙ at)
          (ap (λ (s : Seat). ports d (length s.got)) (there d o) ∙ port));
      over = h.over;
      alone = λ d e hd he at inside port. one d e hd he at inside port (cases_eq d c) (cases_eq e c);
    }
      where
        here : with_at ss c (record (ss c) { calls = (ss c).calls ++ call ∷ [] }) c
            ≡ record (ss c) { calls = (ss c).calls ++ call ∷ [] }
        here = at_same ss c (record (ss c) { calls = (ss c).calls ++ call ∷ [] })

        there : (d : ℕ) → d ≢ c → with_at ss c (record (ss c) { calls = (ss c).calls ++ call ∷ [] }) d ≡ ss d
        there d o = at_other ss c (record (ss c) { calls = (ss c).calls ++ call ∷ [] }) d o

        not_held : holding ss b c ≡ false
        not_held = ap (λ f. not f && not (b c)) free

        like : (d : ℕ)
            → d ≢ c
            → holding (with_at ss c (record (ss c) { calls = (ss c).calls ++ call ∷ [] })) (with_at b c false) d
            ≡ holding ss b d
        like d o = ap (λ (s : Seat). not (is_free s) && not (with_at b c false d)) (there d o)
            ∙ ap (λ f. not (is_free (ss d)) && not f) (at_other b c false d o)

        before : (d : ℕ)
            → d ≢ c
            → holding (with_at ss c (record (ss c) { calls = (ss c).calls ++ call ∷ [] })) (with_at b c false) d ≡ true
            → holding ss b d ≡ true
        before d o held = sym (like d o) ∙ held

        -- the port's queue is empty
        unused : qs (ss c).home (port_of ss c) ≡ []
        unused = elim (cases_lt (ss c).home n) [
          | inl inside ↦ h.none (ss c).home (port_of ss c) inside (λ d held at port. nobody inside d held at port)
          | inr out ↦ h.over (ss c).home (port_of ss c) out
        ]

        home_now : (x : ℕ) → (with_at ss c (record (ss c) { calls = (ss c).calls ++ call ∷ [] }) x).home ≡ (ss x).home
        home_now x = elim (cases_eq x c) [
          | inl own ↦ subst
              (λ y. (with_at ss c (record (ss c) { calls = (ss c).calls ++ call ∷ [] }) y).home ≡ (ss y).home) (sym own)
              (ap (λ (s : Seat). s.home) here)
          | inr o ↦ ap (λ (s : Seat). s.home) (there x o)
        ]

        port_then : (x : ℕ)
            → ports x (length (with_at ss c (record (ss c) { calls = (ss c).calls ++ call ∷ [] }) x).got)
            ≡ port_of ss x
        port_then x = elim (cases_eq x c) [
          | inl own ↦ subst
              (λ y. ports y (length (with_at ss c (record (ss c) { calls = (ss c).calls ++ call ∷ [] }) y).got)
              ≡ port_of ss y) (sym own) (ap (λ (s : Seat). ports c (length s.got)) here)
          | inr o ↦ ap (λ (s : Seat). ports x (length s.got)) (there x o)
        ]

        clash : (d : ℕ)
            → d ≢ c
            → holding (with_at ss c (record (ss c) { calls = (ss c).calls ++ call ∷ [] })) (with_at b c false) d ≡ true
            → (ss d).home ≡ (ss c).home
            → (ss c).home < n
            → port_of ss d ≡ port_of ss c
            → ⊥
        clash d o held at inside port = nobody inside d (before d o held) at port

        one : (d e : ℕ)
            → holding (with_at ss c (record (ss c) { calls = (ss c).calls ++ call ∷ [] })) (with_at b c false) d ≡ true
            → holding (with_at ss c (record (ss c) { calls = (ss c).calls ++ call ∷ [] })) (with_at b c false) e ≡ true
            → (with_at ss c (record (ss c) { calls = (ss c).calls ++ call ∷ [] }) d).home
            ≡ (with_at ss c (record (ss c) { calls = (ss c).calls ++ call ∷ [] }) e).home
            → (with_at ss c (record (ss c) { calls = (ss c).calls ++ call ∷ [] }) d).home < n
            → ports d (length (with_at ss c (record (ss c) { calls = (ss c).calls ++ call ∷ [] }) d).got)
            ≡ ports e (length (with_at ss c (record (ss c) { calls = (ss c).calls ++ call ∷ [] }) e).got)
            → ((d ≡ c) ⊎ (d ≢ c))
            → ((e ≡ c) ⊎ (e ≢ c))
            → d ≡ e
        one d e hd he at inside port (inl own) (inl too) = own ∙ sym too
        one d e hd he at inside port (inr od) (inr oe) =
            h.alone d e (before d od hd) (before e oe he) (sym (home_now d) ∙ at ∙ home_now e)
            (subst (λ k. k < n) (home_now d) inside) (sym (port_then d) ∙ port ∙ port_then e)
        one d e hd he at inside port (inl own) (inr oe) =
            absurd (clash e oe he (sym (home_now e) ∙ sym at ∙ home_now d ∙ ap (λ x. (ss x).home) own)
            (subst (λ k. k < n) (home_now d ∙ ap (λ x. (ss x).home) own) inside)
            (sym (port_then e) ∙ sym port ∙ port_then d ∙ ap (port_of ss) own))
        one d e hd he at inside port (inr od) (inl too) =
            absurd (clash d od hd (sym (home_now d) ∙ at ∙ home_now e ∙ ap (λ x. (ss x).home) too)
            (subst (λ k. k < n) (at ∙ home_now e ∙ ap (λ x. (ss x).home) too) inside)
            (sym (port_then d) ∙ port ∙ port_then e ∙ ap (port_of ss) too))

    -- a reply is put for the port that the seat holds
    replied : (reply : Reply)
        → holding ss b c ≡ true
        → (ss c).home < n
        → Rest (with_at ss c (record (ss c) { queued = (ss c).queued ++ reply ∷ [] })) b
        (with_queue qs (ss c).home (port_of ss c) (qs (ss c).home (port_of ss c) ++ reply ∷ []))
    replied reply holds within = record {
      queued = λ d held. elim (cases_eq d c) [
        | inl own ↦ subst (λ x. ((with_at ss c (record (ss c) { queued = (ss c).queued ++ reply ∷ [] })) x).queued ≡
            (with_queue qs (ss c).home (port_of ss c) (qs (ss c).home (port_of ss c) ++ reply ∷ [])) ((with_at ss c
            (record (ss c) { queued = (ss c).queued ++ reply ∷ [] })) x).home (port_of (with_at ss c (record
            (ss c) { queued = (ss c).queued ++ reply ∷ [] })) x)) (sym own)
            (subst (λ (s : Seat). s.queued ≡ (with_queue qs (ss c).home (port_of ss c) (qs (ss c).home
            (port_of ss c) ++ reply ∷ [])) s.home (ports c (length s.got))) (sym here)
            (ap (λ rs. rs ++ reply ∷ []) (h.queued c holds)
            ∙ sym (queue_same qs (ss c).home (port_of ss c) (qs (ss c).home (port_of ss c) ++ reply ∷ []))))
        | inr o ↦ subst (λ (s : Seat). s.queued ≡ (with_queue qs (ss c).home (port_of ss c) (qs (ss c).home
            (port_of ss c) ++ reply ∷ [])) s.home (ports d (length s.got))) (sym (there d o))
            (h.queued d (sym (like d) ∙ held)
            ∙ sym (elsewhere (ss d).home (port_of ss d)
            (λ at port. o (h.alone d c (sym (like d) ∙ held) holds at (subst (λ k. k < n) (sym at) within) port))))
      ];
      none = λ i p inside no.
          let away : i ≡ (ss c).home → p ≢ port_of ss c = λ at port.
          no c (like c ∙ holds) (ap (λ (s : Seat). s.home) here ∙ sym at)
          (ap (λ (s : Seat). ports c (length s.got)) here ∙ sym port) in
          elsewhere i p away ∙ h.none i p inside (λ d held at port. no d (like d ∙ held) (home_now d ∙ at)
          (port_then d ∙ port));
      over = λ i p out. elsewhere i p (λ at _. (let m = at in omega (arith, out, within, m))) ∙ h.over i p out;
      alone = λ d e hd he at inside port.
          h.alone d e (sym (like d) ∙ hd) (sym (like e) ∙ he) (sym (home_now d) ∙ at ∙ home_now e)
          (subst (λ k. k < n) (home_now d) inside) (sym (port_then d) ∙ port ∙ port_then e);
    }
      where
        here : (with_at ss c (record (ss c) { queued = (ss c).queued ++ reply ∷ [] })) c ≡ record (ss c) {
          queued =
              (ss c).queued ++ reply ∷ [];
        }
        here = at_same ss c (record (ss c) { queued = (ss c).queued ++ reply ∷ [] })

        there : (d : ℕ) → d ≢ c → (with_at ss c (record (ss c) { queued = (ss c).queued ++ reply ∷ [] })) d ≡ ss d
        there d o = at_other ss c (record (ss c) { queued = (ss c).queued ++ reply ∷ [] }) d o

        elsewhere : (i p : ℕ) → (i ≡ (ss c).home → p ≢ port_of ss c) → (with_queue qs (ss c).home (port_of ss c) (qs
            (ss c).home (port_of ss c) ++ reply ∷ [])) i p ≡ qs i p
        elsewhere i p away =
            queue_other qs (ss c).home (port_of ss c) (qs (ss c).home (port_of ss c) ++ reply ∷ []) i p away

        like : (d : ℕ) → holding (with_at ss c (record (ss c) { queued = (ss c).queued ++ reply ∷ [] })) b d
            ≡ holding ss b d
        like d =
            ap (λ f. f && not (b d))
            (kept_at (λ (s : Seat). not (is_free s)) ss c (record (ss c) {
              queued =
                  (ss c).queued ++ reply ∷ [];
            }) refl d)

        home_now : (d : ℕ) → ((with_at ss c (record (ss c) { queued = (ss c).queued ++ reply ∷ [] })) d).home ≡
            (ss d).home
        home_now d = kept_at (λ (s : Seat). s.home) ss c (record (ss c) { queued = (ss c).queued ++ reply ∷ [] }) refl d

        port_then : (d : ℕ) → ports d (length ((with_at ss c (record (ss c) {
          queued =
              (ss c).queued ++ reply ∷ [];
        })) d).got) ≡ port_of ss d
        port_then d =
            kept_at (λ (s : Seat). ports d (length s.got)) ss c
            (record (ss c) { queued = (ss c).queued ++ reply ∷ [] }) refl d

-- ---- the chain with queues of ports, by the one with queues of seats

-- the seats without their queues
abbrev bare_seat : Seat → Seat
bare_seat s = record s { queued = [] }

abbrev bare : Chain → Chain
bare l = record l { seats = λ c. bare_seat (l.seats c) }

abbrev bare_serving : ServingChain → ServingChain
bare_serving v = record v { chain = bare v.chain }

abbrev bare_pooled : PooledServing → PooledServing
bare_pooled t = record t { serving = bare_serving t.serving }

-- a seat changes
bare_at : (ss : ℕ → Seat) (c : ℕ) (s : Seat)
    → with_at (λ d. bare_seat (ss d)) c (bare_seat s) ≡ (λ d. bare_seat (with_at ss c s d))
bare_at ss c s = sym (view_at bare_seat ss c s)

module _ (n : ℕ) (homes : List ℕ) (ports : PortChoice) where
  abbrev own : Chain → Move → Chain
  own = with_free_ports homes ports

  -- what stands for a chain with queues of ports
  record Shows (s : QueuedServing) (t : PooledServing) : Type 0 where
    pooled : s.pooled ≡ bare_pooled t
    rest : Rest n ports t.serving.chain.seats t.collected s.queues

  -- some move makes of t what stands for s
  record Does (s : QueuedServing) (t : PooledServing) : Type 0 where
    move : PooledMove
    shows : Shows s (pooled_by homes ports t move)

  none_bare : (t : PooledServing) (i p m : ℕ)
      → none_holds ports (bare_pooled t) i p m ≡ none_holds ports t i p m
  none_bare t i p zero = refl
  none_bare t i p (suc m) = ap (λ b. not (holds_port ports t i p m) && b) (none_bare t i p m)

  -- a port that nobody holds
  nobody_holds : (t : PooledServing) (i p m : ℕ)
      → none_holds ports t i p m ≡ true
      → (d : ℕ)
      → d < m
      → holding t.serving.chain.seats t.collected d ≡ true
      → (t.serving.chain.seats d).home ≡ i
      → port_now ports t.serving.chain d ≡ p
      → ⊥
  nobody_holds t i p zero none d below held at port = omega (arith, below)
  nobody_holds t i p (suc m) none d below held at port =
      let both = and_parts (not (holds_port ports t i p m)) (none_holds ports t i p m) none in
      elim (cases_eq d m) [
        | inl last ↦
            let l = t.serving.chain in
            let parts = and_parts (not (is_free (l.seats d))) (not (t.collected d)) held in
            let has : holds_port ports t i p d ≡ true =
            rw (
              eq-eqb (l.seats d).home i at,
              not-true _ parts.0,
              not-true _ parts.1,
              eq-eqb (port_now ports l d) p port,
            ) refl in
            both_ways _ (ap (holds_port ports t i p) last ∙ not-true (holds_port ports t i p m) both.0) has
        | inr other ↦ nobody_holds t i p m both.1 d (omega (arith, below, other)) held at port
      ]

  module _ (t : PooledServing) (u : ServingChain) (f : SamePooled n homes ports t u) (qs : ℕ → ℕ → List Reply)
      (h : Rest n ports t.serving.chain.seats t.collected qs) where
    abbrev l : Chain
    l = t.serving.chain

    -- the chain with queues of ports
    abbrev s : QueuedServing
    s = record { pooled = bare_pooled t; queues = qs }

    nothing : Does s t
    nothing = record { move = Serves (Runs (Receives 0)); shows = record { pooled = refl; rest = h } }

    -- the chain's seats and queues stay
    as_before : (v w : ServingChain)
        → v ≡ bare_serving w
        → w.chain.seats ≡ l.seats
        → Shows (record { pooled = record { serving = v; collected = t.collected }; queues = qs })
        (record t { serving = w })
    as_before v w e seats = record {
      pooled = ap (λ (x : ServingChain). record { serving = x; collected = t.collected }) e;
      rest = subst (λ (ss : ℕ → Seat). Rest n ports ss t.collected qs) (sym seats) h;
    }

    either : (b : Bool) (x y v w : ServingChain)
        → Shows (record { pooled = record { serving = x; collected = t.collected }; queues = qs })
        (record t { serving = v })
        → Shows (record { pooled = record { serving = y; collected = t.collected }; queues = qs })
        (record t { serving = w })
        → Shows (record { pooled = record { serving = cond b x y; collected = t.collected }; queues = qs })
        (record t { serving = cond b v w })
    either true x y v w e f = e
    either false x y v w e f = f

    still : Shows s t
    still = record { pooled = refl; rest = h }

    -- ---- refusals, looks

    refuses : (c : ℕ) (due : Option Call)
        → Shows
        (record {
          pooled = record { serving = refusing (bare_serving t.serving) c due; collected = t.collected };
          queues = qs;
        })
        (record t { serving = refusing t.serving c due })
    refuses c None = still
    refuses c (Some call) =
        let k = refused (served_at t.serving c) in
        either (is_store call.op) (with_served (bare_serving t.serving) c k) (bare_serving t.serving)
        (with_served t.serving c k) t.serving
        (as_before (with_served (bare_serving t.serving) c k) (with_served t.serving c k) refl refl) still

    looked_same : (c : ℕ) (key : List ℕ) (b : Bool) (look : Look Item)
        → cond b (looked (bare l) c (bare_seat (l.seats c)) key look) (bare l)
        ≡ bare (cond b (looked l c (l.seats c) key look) l)
    looked_same c key true (Clean item) =
        ap (λ (ss : ℕ → Seat). record l { seats = ss })
        (bare_at l.seats c
        (record (l.seats c) {
          calls = (l.seats c).calls ++ read_of key ∷ [];
          got = (l.seats c).got ++ Value item ∷ [];
        }))
    looked_same c key true Dirty = refl
    looked_same c key false look = refl

    peeked_shows : (c : ℕ) (key : List ℕ) (reply : Option Reply)
        → look_reply l c key ≡ reply
        → Shows
        (record {
          pooled = record { serving = peeked done (bare_serving t.serving) c key reply; collected = t.collected };
          queues = qs;
        })
        (record t { serving = peeked own t.serving c key reply })
    peeked_shows c key None e = still
    peeked_shows c key (Some reply) e =
        let k = l.seats c in
        let looks = looks_seats l c key reply e in
        let x : Seat = record k { calls = k.calls ++ read_of key ∷ []; got = k.got ++ reply ∷ [] } in
        let level : length k.calls ≡ length k.got = eqb-true _ _ looks.0 in
        let more_calls = length-append k.calls (read_of key ∷ []) in
        let more_got = length-append k.got (reply ∷ []) in
        let free : is_free x ≡ true =
        eq-eqb (length x.calls) (length x.got) (omega (arith, level, more_calls, more_got)) in
        record {
          pooled = ap (λ (g : Chain). record {
            serving = with_served (record t.serving { chain = g }) c
                (answered reply (made (read_of key) (served_at t.serving c)));
            collected = t.collected;
          })
              (looked_same c key (is_free k && not (l.servers k.home).stopped)
              (look_at (face_of (l.servers k.home).node) key));
          rest = subst (λ (ss : ℕ → Seat). Rest n ports ss t.collected qs) (sym looks.1)
              (ceases n ports l.seats t.collected qs h c (with_at l.seats c x) t.collected qs
              (λ d o. at_other l.seats c x d o) (λ d o. refl)
              (ap (λ (y : Seat). not (is_free y) && not (t.collected c)) (at_same l.seats c x)
              ∙ ap (λ b. not b && not (t.collected c)) free)
              (λ held. absurd (both_ways _ (ap (λ b. not b && not (t.collected c)) looks.0) held))
              (λ held. absurd (both_ways _ (ap (λ b. not b && not (t.collected c)) looks.0) held))
              (λ i p away. refl));
        }

    peeks : (c : ℕ) (key : Option (List ℕ))
        → Shows
        (record {
          pooled = record { serving = peeking done (bare_serving t.serving) c key; collected = t.collected };
          queues = qs;
        })
        (record t { serving = peeking own t.serving c key })
    peeks c None = still
    peeks c (Some key) = peeked_shows c key (look_reply l c key) refl

    -- ---- a call that is sent

    none_left : (rs : List Reply) → length rs ≤ 0 → rs ≡ []
    none_left [] e = refl
    none_left (r ∷ rs) e = absurd (omega (arith, e))

    abbrev port_at : ℕ → ℕ
    port_at c = port_now ports t.serving.chain c

    abbrev waiting : ℕ → Call → Seat
    waiting c call = record (t.serving.chain.seats c) { calls = (t.serving.chain.seats c).calls ++ call ∷ [] }

    -- the chain with queues of seats after a send
    abbrev sent_chain : ℕ → Call → Chain
    sent_chain c call =
        brought (with_seat t.serving.chain c (waiting c call)) (t.serving.chain.seats c).home (Called (port_at c) call)

    abbrev sent_pooled : ℕ → Call → PooledServing
    sent_pooled c call = record {
      serving = with_served (record t.serving { chain = sent_chain c call }) c (made call (served_at t.serving c));
      collected = with_at t.collected c false;
    }

    sent_is : (c : ℕ) (call : Call)
        → may_ask homes ports t c ≡ true
        → (served_at t.serving c).due ≡ Some call
        → is_free (t.serving.chain.seats c) ≡ true
        → pooled_by homes ports t (Serves (Asks c)) ≡ sent_pooled c call
    sent_is c call may due free =
        let unused = none_awaits ports t (t.serving.chain.seats c).home (port_at c) (length homes) f.put may in
        ap (λ b. cond b
        (record t {
          serving = asking own t.serving c (served_at t.serving c).due;
          collected = with_at t.collected c
              false;
        })
        t) may
        ∙ ap (λ d. record t { serving = asking own t.serving c d; collected = with_at t.collected c false }) due
        ∙ ap (λ b. record t {
          serving = cond b
              (with_served (record t.serving { chain = own t.serving.chain (Sends c call) }) c
              (made call (served_at t.serving c))) t.serving;
          collected = with_at t.collected c false;
        }) free
        ∙ ap (λ (g : Chain). record t {
          serving = with_served (record t.serving { chain = g }) c (made call (served_at t.serving c));
          collected = with_at t.collected c false;
        })
        (ap (λ b. cond b
        (sent_from (port_at c) t.serving.chain c call (t.serving.chain.seats c)) t.serving.chain) unused
        ∙ ap (λ b. cond b (sent_chain c call) t.serving.chain) free)

    bare_sent : (c : ℕ) (call : Call)
        → brought
        (with_seat (bare t.serving.chain) c
        (record (bare_seat (t.serving.chain.seats c)) { calls = (t.serving.chain.seats c).calls ++ call ∷ [] }))
        (t.serving.chain.seats c).home (Called (port_at c) call)
        ≡ bare (sent_chain c call)
    bare_sent c call =
        ap (λ (ss : ℕ → Seat). record (sent_chain c call) { seats = ss })
        (bare_at t.serving.chain.seats c (waiting c call))

    sent_then : (c : ℕ) (call : Call)
        → is_free (t.serving.chain.seats c) ≡ true
        → asking_from ports s c (Some call) ≡ record { pooled = bare_pooled (sent_pooled c call); queues = qs }
    sent_then c call free =
        ap (λ b. cond b
        (record {
          pooled = record {
            serving = with_served
                (record (bare_serving t.serving) {
                  chain = sent_from (port_at c) (bare t.serving.chain) c call (bare_seat (t.serving.chain.seats c));
                }) c (made call (served_at t.serving c));
            collected = with_at t.collected c false;
          };
          queues = qs;
        }) s) free
        ∙ ap (λ (g : Chain). record {
          pooled = record {
            serving = with_served (record t.serving { chain = g }) c (made call (served_at t.serving c));
            collected = with_at t.collected c false;
          };
          queues = qs;
        })
        (ap (λ b. cond b
        (brought
        (with_seat (bare t.serving.chain) c
        (record (bare_seat (t.serving.chain.seats c)) { calls = (t.serving.chain.seats c).calls ++ call ∷ [] }))
        (t.serving.chain.seats c).home (Called (port_at c) call)) (bare t.serving.chain)) free
        ∙ bare_sent c call)

    sent : (c : ℕ) (call : Call)
        → may_ask homes ports t c ≡ true
        → (served_at t.serving c).due ≡ Some call
        → is_free (t.serving.chain.seats c) ≡ true
        → Does (asking_from ports s c (Some call)) t
    sent c call may due free =
        let k = t.serving.chain.seats c in
        let level : length k.calls ≡ length k.got = eqb-true _ _ free in
        let least = (f.chains.holds.counts c).0 in
        record {
          move = Serves (Asks c);
          shows = subst (λ z. Shows (asking_from ports s c (Some call)) z) (sym (sent_is c call may due free))
              (subst (λ z. Shows z (sent_pooled c call)) (sym (sent_then c call free)) (record {
                pooled = refl;
                rest = sends n ports t.serving.chain.seats t.collected qs h c call free
                    (none_left k.queued (omega (arith, least, level)))
                    (λ inside d held at port.
                    nobody_holds t k.home (port_at c) (length homes) may d
                    (slice_get_within homes d (t.serving.chain.seats d).home
                    (seat_there n homes t.serving.chain u.chain f.chains.same d
                    (subst (λ j. j < n) (sym at) inside))) held at port);
              }));
        }

    asks : (c : ℕ) → Does (serving_with homes ports s (Asks c)) t
    asks c =
        subst (λ b. Does (cond b (asking_from ports s c (served_at t.serving c).due) s) t)
        (sym (none_bare t (t.serving.chain.seats c).home (port_at c) (length homes)))
        (by (may_ask homes ports t c) refl (served_at t.serving c).due refl (λ call. is_free (t.serving.chain.seats c)))
      where
        to_send : (call : Call) (b : Bool)
            → may_ask homes ports t c ≡ true
            → (served_at t.serving c).due ≡ Some call
            → is_free (t.serving.chain.seats c) ≡ b
            → Does (asking_from ports s c (Some call)) t
        to_send call true may due free = sent c call may due free
        to_send call false may due free =
            subst (λ z. Does z t)
            (sym (ap (λ b. cond b
            (record {
              pooled = record {
                serving = with_served
                    (record (bare_serving t.serving) {
                      chain = sent_from (port_at c) (bare t.serving.chain) c call (bare_seat (t.serving.chain.seats c));
                    }) c (made call (served_at t.serving c));
                collected = with_at t.collected c false;
              };
              queues = qs;
            }) s) free)) nothing

        by : (b : Bool)
            → may_ask homes ports t c ≡ b
            → (due : Option Call)
            → (served_at t.serving c).due ≡ due
            → (Call → Bool)
            → Does (cond b (asking_from ports s c due) s) t
        by false may due e g = nothing
        by true may None e g = nothing
        by true may (Some call) e g = to_send call (is_free (t.serving.chain.seats c)) may e refl

    -- ---- a reply that is taken, by its connection or for nobody

    -- a seat that holds a port with a reply is at a server of the chain, and has just this one
    one_reply : (c : ℕ) (reply : Reply) (more : List Reply)
        → holding t.serving.chain.seats t.collected c ≡ true
        → (t.serving.chain.seats c).queued ≡ reply ∷ more
        → ((t.serving.chain.seats c).home < n) × (more ≡ [])
        × (length (t.serving.chain.seats c).calls ≡ length (t.serving.chain.seats c).got + 1)
    one_reply c reply more held e =
        let k = t.serving.chain.seats c in
        let least = (f.chains.holds.counts c).0 in
        let most = (f.chains.holds.counts c).1 in
        let all = ap (λ rs. length rs) e in (
          elim (cases_lt k.home n) [
            | inl inside ↦ inside
            | inr out ↦
                let no : reply ∷ more ≡ [] = sym e ∙ h.queued c held ∙ h.over k.home (port_at c) out in absurd (cc)
          ],
          none_left more (omega (arith, least, most, all)),
          omega (arith, least, most, all),
        )

    abbrev taken_queues : ℕ → List Reply → ℕ → ℕ → List Reply
    taken_queues c more = with_queue qs (t.serving.chain.seats c).home (port_at c) more

    abbrev having : ℕ → Reply → List Reply → Seat
    having c reply more =
        record (t.serving.chain.seats c) { got = (t.serving.chain.seats c).got ++ reply ∷ []; queued = more }

    abbrev answered_pooled : ℕ → Reply → List Reply → PooledServing
    answered_pooled c reply more = record t {
      serving = with_served
          (record t.serving { chain = with_seat t.serving.chain c (having c reply more) }) c
          (answered reply (served_at t.serving c));
    }

    answered_is : (c : ℕ) (reply : Reply) (more : List Reply)
        → (t.serving.chain.seats c).queued ≡ reply ∷ more
        → (waits (served_at t.serving c) && may_have (served_at t.serving c).session.asked reply) ≡ true
        → pooled_by homes ports t (Serves (Answers c)) ≡ answered_pooled c reply more
    answered_is c reply more e both =
        ap (λ rs. record t { serving = answering own t.serving c rs }) e
        ∙ ap (λ b. record t {
          serving = cond b
              (with_served (record t.serving { chain = own t.serving.chain (Receives c) }) c
              (answered reply (served_at t.serving c))) t.serving;
        }) both
        ∙ ap (λ rs. record t {
          serving = with_served
              (record t.serving { chain = received t.serving.chain c (t.serving.chain.seats c) rs }) c
              (answered reply (served_at t.serving c));
        }) e

    -- the chain with queues of ports then
    abbrev answered_queued : ℕ → Reply → List Reply → QueuedServing
    answered_queued c reply more = record {
      pooled = record (bare_pooled t) {
        serving = with_served
            (record (bare_serving t.serving) {
              chain = with_seat (bare t.serving.chain) c
                  (record (bare_seat (t.serving.chain.seats c)) { got = (t.serving.chain.seats c).got ++ reply ∷ [] });
            }) c (answered reply (served_at t.serving c));
      };
      queues = taken_queues c more;
    }

    abbrev collected_queued : ℕ → List Reply → QueuedServing
    collected_queued c more = record {
      pooled = record (bare_pooled t) { collected = with_at t.collected c true };
      queues = taken_queues c more;
    }

    answers_one : (c : ℕ) (reply : Reply) (more : List Reply) (b : Bool)
        → holding t.serving.chain.seats t.collected c ≡ true
        → (t.serving.chain.seats c).queued ≡ reply ∷ more
        → (waits (served_at t.serving c) && may_have (served_at t.serving c).session.asked reply) ≡ b
        → Does
        (cond b
        (record {
          pooled = record (bare_pooled t) {
            serving = with_served
                (record (bare_serving t.serving) {
                  chain = with_seat (bare t.serving.chain) c
                      (record (bare_seat (t.serving.chain.seats c)) {
                        got = (t.serving.chain.seats c).got ++ reply ∷ [];
                      });
                }) c (answered reply (served_at t.serving c));
          };
          queues = taken_queues c more;
        }) s) t
    answers_one c reply more false held e both = nothing
    answers_one c reply more true held e both =
        let one = one_reply c reply more held e in
        let x = having c reply more in
        let longer = length-append (t.serving.chain.seats c).got (reply ∷ []) in
        let level = one.2 in
        let free : is_free x ≡ true = eq-eqb (length x.calls) (length x.got) (omega (arith, level, longer)) in
        record {
          move = Serves (Answers c);
          shows = subst (λ z. Shows (answered_queued c reply more) z) (sym (answered_is c reply more e both)) (record {
            pooled = ap (λ (ss : ℕ → Seat). record t {
              serving = with_served (record t.serving { chain = record t.serving.chain { seats = ss } }) c
                  (answered reply (served_at t.serving c));
            }) (bare_at t.serving.chain.seats c x);
            rest = ceases n ports t.serving.chain.seats t.collected qs h c
                (with_at t.serving.chain.seats c x) t.collected (taken_queues c more)
                (λ d o. at_other t.serving.chain.seats c x d o) (λ d o. refl)
                (ap (λ (y : Seat). not (is_free y) && not (t.collected c)) (at_same t.serving.chain.seats c x)
                ∙ ap (λ b. not b && not (t.collected c)) free)
                (λ _. one.0)
                (λ _. queue_same qs (t.serving.chain.seats c).home (port_at c) more ∙ one.1)
                (λ i p away. queue_other qs (t.serving.chain.seats c).home (port_at c) more i p (away held));
          });
        }

    answers : (c : ℕ) → Does (serving_with homes ports s (Answers c)) t
    answers c = by (holding t.serving.chain.seats t.collected c) refl
      where
        of : (rs : List Reply)
            → holding t.serving.chain.seats t.collected c ≡ true
            → (t.serving.chain.seats c).queued ≡ rs
            → Does (answering_from ports s c rs) t
        of [] held e = nothing
        of (reply ∷ more) held e =
            answers_one c reply more
            (waits (served_at t.serving c) && may_have (served_at t.serving c).session.asked reply) held e refl

        by : (b : Bool)
            → holding t.serving.chain.seats t.collected c ≡ b
            → Does (cond b (answering_from ports s c (qs (t.serving.chain.seats c).home (port_at c))) s) t
        by false held = nothing
        by true held = of (qs (t.serving.chain.seats c).home (port_at c)) held (h.queued c held)

    collects_one : (c : ℕ) (reply : Reply) (more : List Reply) (b : Bool)
        → holding t.serving.chain.seats t.collected c ≡ true
        → (t.serving.chain.seats c).queued ≡ reply ∷ more
        → waits (served_at t.serving c) ≡ b
        → Does
        (cond b s
        (record {
          pooled = record (bare_pooled t) { collected = with_at t.collected c true };
          queues = taken_queues c more;
        })) t
    collects_one c reply more true held e wait = nothing
    collects_one c reply more false held e wait =
        let one = one_reply c reply more held e in
        record {
          move = Collects c;
          shows = subst (λ z. Shows (collected_queued c more) z)
              (sym (ap (λ rs. collecting t c rs) e
              ∙ ap (λ b. cond b t (record t { collected = with_at t.collected c true })) wait)) (record {
                pooled = refl;
                rest = ceases n ports t.serving.chain.seats t.collected qs h c t.serving.chain.seats
                    (with_at t.collected c true) (taken_queues c more) (λ d o. refl)
                    (λ d o. at_other t.collected c true d o)
                    (ap (λ b. not (is_free (t.serving.chain.seats c)) && not b) (at_same t.collected c true)
                    ∙ no_more (not (is_free (t.serving.chain.seats c))))
                    (λ _. one.0)
                    (λ _. queue_same qs (t.serving.chain.seats c).home (port_at c) more ∙ one.1)
                    (λ i p away. queue_other qs (t.serving.chain.seats c).home (port_at c) more i p (away held));
              });
        }
      where
        no_more : (b : Bool) → (b && false) ≡ false
        no_more true = refl
        no_more false = refl

    collects : (c : ℕ) → Does (queued_by homes ports s (Collects c)) t
    collects c = by (holding t.serving.chain.seats t.collected c) refl
      where
        of : (rs : List Reply)
            → holding t.serving.chain.seats t.collected c ≡ true
            → (t.serving.chain.seats c).queued ≡ rs
            → Does (collecting_from ports s c rs) t
        of [] held e = nothing
        of (reply ∷ more) held e = collects_one c reply more (waits (served_at t.serving c)) held e refl

        by : (b : Bool)
            → holding t.serving.chain.seats t.collected c ≡ b
            → Does (cond b (collecting_from ports s c (qs (t.serving.chain.seats c).home (port_at c))) s) t
        by false held = nothing
        by true held = of (qs (t.serving.chain.seats c).home (port_at c)) held (h.queued c held)

    -- ---- moves of servers, channels and queues

    -- of the chain with other seats' queues
    runs_as : (m : Move) (x y : Chain)
        → x ≡ bare y
        → y.seats ≡ l.seats
        → Shows
        (record {
          pooled = record { serving = record t.serving { chain = x }; collected = t.collected };
          queues = qs;
        })
        (record t { serving = record t.serving { chain = y } })
    runs_as m x y e seats =
        as_before (record t.serving { chain = x }) (record t.serving { chain = y })
        (ap (λ (g : Chain). record t.serving { chain = g }) e) seats

    puts_bare : (i j : ℕ) (b : Bool) (ms : List Peer)
        → (cond b (bare l) (put (bare l) i j ms) ≡ bare (cond b l (put l i j ms)))
        × ((cond b l (put l i j ms)).seats ≡ l.seats)
    puts_bare i j true ms = (refl, refl)
    puts_bare i j false [] = (refl, refl)
    puts_bare i j false (m ∷ ms) = (refl, refl)

    arrives_bare : (i j : ℕ) (ms : List Peer)
        → (arrived (bare l) i j ms ≡ bare (arrived l i j ms)) × ((arrived l i j ms).seats ≡ l.seats)
    arrives_bare i j [] = (refl, refl)
    arrives_bare i j (m ∷ ms) = (refl, refl)

    notices_bare : (i j : ℕ) (b : Bool)
        → (cond b (brought (bare l) i (Gone j)) (bare l) ≡ bare (cond b (brought l i (Gone j)) l))
        × ((cond b (brought l i (Gone j)) l).seats ≡ l.seats)
    notices_bare i j true = (refl, refl)
    notices_bare i j false = (refl, refl)

    -- a reply is put: its port is that of a seat, whose call awaits it
    abbrev lighter : ℕ → ℕ → RunningServer
    lighter i p =
        record (t.serving.chain.servers i) { outbox = without_reply p (t.serving.chain.servers i).outbox }

    abbrev with_reply : ℕ → Reply → Seat
    with_reply c reply = record (t.serving.chain.seats c) { queued = (t.serving.chain.seats c).queued ++ reply ∷ [] }

    replied_is : (i p c : ℕ) (reply : Reply) (more : List Reply)
        → (t.serving.chain.servers i).stopped ≡ false
        → replies_to p (t.serving.chain.servers i).outbox ≡ reply ∷ more
        → (t.serving.chain.seats c).home ≡ i
        → awaits_reply (t.serving.chain.seats c) ≡ true
        → port_now ports t.serving.chain c ≡ p
        → own t.serving.chain (Replies i c)
        ≡ with_seat (with_running t.serving.chain i (lighter i p)) c (with_reply c reply)
    replied_is i p c reply more going e home awaits port =
        let k = t.serving.chain.seats c in
        ap (λ b. cond b (replying_from (port_at c) t.serving.chain i c k) t.serving.chain) awaits
        ∙ ap (λ q. cond (k.home == i && not (t.serving.chain.servers i).stopped)
        (reply_put_from q t.serving.chain i c k (replies_to q (t.serving.chain.servers i).outbox)) t.serving.chain) port
        ∙ ap (λ b. cond (b && not (t.serving.chain.servers i).stopped)
        (reply_put_from p t.serving.chain i c k (replies_to p (t.serving.chain.servers i).outbox)) t.serving.chain)
        (eq-eqb k.home i home)
        ∙ ap (λ b. cond (true && not b)
        (reply_put_from p t.serving.chain i c k (replies_to p
        (t.serving.chain.servers i).outbox)) t.serving.chain) going
        ∙ ap (λ rs. reply_put_from p t.serving.chain i c k rs) e

    awaits_held : (c : ℕ)
        → awaits_reply (t.serving.chain.seats c) ≡ true
        → holding t.serving.chain.seats t.collected c ≡ true
    awaits_held c awaits =
        let k = t.serving.chain.seats c in
        let waited = ltb-true (length k.got + length k.queued) (length k.calls) awaits in
        let busy : is_free k ≡ false =
        ne_eqb (length k.calls) (length k.got) (λ e. omega (arith, waited, e)) in
        let kept : t.collected c ≡ false = elim (cases_Bool (t.collected c)) [
          | inl taken ↦ absurd (both_ways _ (f.put c taken) awaits)
          | inr kept ↦ kept
        ] in
        rw (busy, kept) refl

    replies_one : (i p : ℕ) (reply : Reply) (more : List Reply)
        → (t.serving.chain.servers i).stopped ≡ false
        → replies_to p (t.serving.chain.servers i).outbox ≡ reply ∷ more
        → Does (replying_to s i p (reply ∷ more)) t
    replies_one i p reply more going e =
        let inside = of_chain n homes t.serving.chain u.chain f.chains.same i going in
        let count = ap (λ rs. length rs) e in
        let w = f.chains.holds.held i p inside (omega (arith, count)) in
        let c = w.seat in
        let held = awaits_held c w.awaits in
        let within : (t.serving.chain.seats c).home < n = subst (λ j. j < n) (sym w.home) inside in
        record {
          move = Serves (Runs (Replies i c));
          shows = subst (λ (g : Chain). Shows (replying_to s i p (reply ∷ more)) (record t {
            serving = record t.serving { chain = g };
          })) (sym (replied_is i p c reply more going e w.home w.awaits w.port)) (record {
            pooled = ap (λ (ss : ℕ → Seat). record t {
              serving = record t.serving {
                chain = record (with_running t.serving.chain i (lighter i p)) { seats = ss };
              };
            }) (sym (at_self (λ d. bare_seat (t.serving.chain.seats d)) c)
                ∙ bare_at t.serving.chain.seats c (with_reply c reply));
            rest = subst (λ j. Rest n ports (with_at t.serving.chain.seats c (with_reply c reply)) t.collected
                (with_queue qs j p (qs j p ++ reply ∷ []))) w.home
                (subst (λ q. Rest n ports (with_at t.serving.chain.seats c (with_reply c reply)) t.collected
                (with_queue qs (t.serving.chain.seats c).home q
                (qs (t.serving.chain.seats c).home q ++ reply ∷ []))) w.port
                (replied n ports t.serving.chain.seats t.collected qs h c reply held within));
          });
        }

    replies_do : (i p : ℕ) → Does (serving_with homes ports s (Runs (Replies i p))) t
    replies_do i p = by (t.serving.chain.servers i).stopped refl (replies_to p (t.serving.chain.servers i).outbox) refl
      where
        by : (b : Bool)
            → (t.serving.chain.servers i).stopped ≡ b
            → (rs : List Reply)
            → replies_to p (t.serving.chain.servers i).outbox ≡ rs
            → Does (cond b s (replying_to s i p rs)) t
        by true e rs g = nothing
        by false e [] g = nothing
        by false e (reply ∷ more) g = replies_one i p reply more e g

    runs : (m : Move) → Does (serving_with homes ports s (Runs m)) t
    runs (Sends c call) = nothing
    runs (Takes i x) = record {
      move = Serves (Runs (Takes i x));
      shows = runs_as (Takes i x) (done (bare l) (Takes i x)) (done l (Takes i x)) refl refl;
    }
    runs (Publishes i) = record {
      move = Serves (Runs (Publishes i));
      shows = runs_as (Publishes i) (done (bare l) (Publishes i)) (done l (Publishes i)) refl refl;
    }
    runs (Puts i j) =
        let e = puts_bare i j (l.servers i).stopped (messages_to j (l.servers i).outbox) in
        record {
          move = Serves (Runs (Puts i j));
          shows = runs_as (Puts i j) (done (bare l) (Puts i j)) (done l (Puts i j)) e.0 e.1;
        }
    runs (Arrives i j) =
        let e = arrives_bare i j (l.channels i j) in
        record {
          move = Serves (Runs (Arrives i j));
          shows = runs_as (Arrives i j) (done (bare l) (Arrives i j)) (done l (Arrives i j)) e.0 e.1;
        }
    runs (Replies i p) = replies_do i p
    runs (Receives c) = nothing
    runs (Looks c key) = nothing
    runs (Stops i) = record {
      move = Serves (Runs (Stops i));
      shows = runs_as (Stops i) (done (bare l) (Stops i)) (done l (Stops i)) refl refl;
    }
    runs (Notices i j) =
        let e = notices_bare i j (has_stopped l j) in
        record {
          move = Serves (Runs (Notices i j));
          shows = runs_as (Notices i j) (done (bare l) (Notices i j)) (done l (Notices i j)) e.0 e.1;
        }

    serving_does : (m : ServingMove) → Does (serving_with homes ports s m) t
    serving_does (Reads c piece) = record { move = Serves (Reads c piece); shows = record { pooled = refl; rest = h } }
    serving_does (Begins c) = record { move = Serves (Begins c); shows = record { pooled = refl; rest = h } }
    serving_does (Asks c) = asks c
    serving_does (Peeks c) =
        record { move = Serves (Peeks c); shows = peeks c (key_due (served_at t.serving c).due) }
    serving_does (Refuses c) = record { move = Serves (Refuses c); shows = refuses c (served_at t.serving c).due }
    serving_does (Answers c) = answers c
    serving_does (Writes c k) = record { move = Serves (Writes c k); shows = record { pooled = refl; rest = h } }
    serving_does (Ends c) = record { move = Serves (Ends c); shows = record { pooled = refl; rest = h } }
    serving_does (Runs m) = runs m

    does : (m : PooledMove) → Does (queued_by homes ports s m) t
    does (Serves m) = serving_does m
    does (Collects c) = collects c

  -- ---- runs

  shown : (s : QueuedServing) (t : PooledServing) → Shows s t → IsWithSeatQueues ports s t
  shown s t h =
      let e = sym h.pooled in
      record {
        connections = ap (λ (q : PooledServing). q.serving.connections) e;
        ended = ap (λ (q : PooledServing). q.serving.ended) e;
        collected = ap (λ (q : PooledServing). q.collected) e;
        servers = ap (λ (q : PooledServing). q.serving.chain.servers) e;
        channels = ap (λ (q : PooledServing). q.serving.chain.channels) e;
        home = λ c. ap (λ (q : PooledServing). (q.serving.chain.seats c).home) e;
        calls = λ c. ap (λ (q : PooledServing). (q.serving.chain.seats c).calls) e;
        got = λ c. ap (λ (q : PooledServing). (q.serving.chain.seats c).got) e;
        queued = subst (λ (q : PooledServing). (c : ℕ)
            → (not (is_free (q.serving.chain.seats c)) && not (q.collected c)) ≡ true
            → (t.serving.chain.seats c).queued
            ≡ s.queues (q.serving.chain.seats c).home (port_now ports q.serving.chain c)) e h.rest.queued;
      }

  -- a chain with queues of seats, of as many moves, that stands for the other one after each of its moves
  record Behind (s : QueuedServing) (t : PooledServing) (ms : List PooledMove) : Type 0 where
    moves : List PooledMove
    long : length moves ≡ length ms
    stands : (k : ℕ)
        → IsWithSeatQueues ports (queued_from homes ports s (take k ms)) (pooled_from homes ports t (take k moves))

  behind : (ms : List PooledMove) (s : QueuedServing) (t : PooledServing) (u : ServingChain)
      → Shows s t
      → SamePooled n homes ports t u
      → Behind s t ms
  behind [] s t u h f = record { moves = []; long = refl; stands = none }
    where
      none : (k : ℕ)
          → IsWithSeatQueues ports (queued_from homes ports s (take k [])) (pooled_from homes ports t (take k []))
      none zero = shown s t h
      none (suc k) = shown s t h
  behind (m ∷ ms) s t u h f =
      let d : Does (queued_by homes ports s m) t =
      subst (λ (q : PooledServing). Does (queued_by homes ports (record { pooled = q; queues = s.queues }) m) t)
      (sym h.pooled) (does t u f s.queues h.rest m) in
      let g = goes_on n homes ports d.move t u f in
      let b = behind ms (queued_by homes ports s m) (pooled_by homes ports t d.move) (served_by done u g.move) d.shows
      g.same in
      record { moves = d.move ∷ b.moves; long = ap suc b.long; stands = first_then d.move b.moves b.stands }
    where
      first_then : (o : PooledMove) (os : List PooledMove)
          → ((k : ℕ)
          → IsWithSeatQueues ports (queued_from homes ports (queued_by homes ports s m) (take k ms))
          (pooled_from homes ports (pooled_by homes ports t o) (take k os)))
          → (k : ℕ)
          → IsWithSeatQueues ports (queued_from homes ports s (take k (m ∷ ms)))
          (pooled_from homes ports t (take k (o ∷ os)))
      first_then o os stands zero = shown s t h
      first_then o os stands (suc k) = stands k

  -- each run with queues of ports is one with queues of seats
  pub port_queues_are : (moves : List PooledMove)
      → (others : List PooledMove) × (length others ≡ length moves)
      × ((k : ℕ)
      → IsWithSeatQueues ports (queued n homes ports (take k moves))
      (pooled_from homes ports (opening_pooled n homes) (take k others)))
  port_queues_are moves =
      let b = behind moves (opening_queued n homes) (opening_pooled n homes) (opening_serving n homes)
      (record {
        pooled = refl;
        rest = record {
          queued = λ c held. refl;
          none = λ i p inside no. refl;
          over = λ i p out. refl;
          alone = λ c d held too at inside port. absurd (let no : false ≡ true = held in cc);
        };
      }) (opening_same n homes ports) in
      (b.moves, b.long, b.stands)
