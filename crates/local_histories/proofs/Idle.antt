-- Events that are no move, and a halt.
use Rattle.std.proofs.Common.{◌≡◌, ℕ, ◌<◌, true, List, [], ◌∷◌, ◌++◌, refl, ap, sym, ◌∙◌, eq-eqb}
use Rattle.std.proofs.lemmas.Bool.{or_right}
use Rattle.node.specs.Runs.{after, put_out}
use Rattle.rail.specs.declared.inbox_messages.InboxMessage.{InboxMessage}
use Rattle.rail.specs.Links as links
use Rattle.interleavings.specs.Chains.{RunningServer, listed, calls_from, messages_to, replies_to}
use Rattle.local_histories.specs.Events.{Event, Brought, HandedBack, Halted, Broke}
use Rattle.local_histories.specs.Objects.{OpenedChain, sends_from, all_messages_from, shows, answers, puts, has_halted}
use Rattle.local_histories.specs.Objects.{is_halt}
use Rattle.local_histories.specs.Standing.{replies_in, StandsForServer, home_of, port_of}
use Rattle.local_histories.specs.Following.{Leads}
use Rattle.local_histories.proofs.Gathering.{gathered_same, given_same, halted_more}
use Rattle.local_histories.proofs.Keeping.{quiet, quiet_at, elsewhere, all_kept, one_server, seat_kept}

-- something is brought
pub brought_leads : (s : OpenedChain) (es : List Event) (i k : ℕ) (message : InboxMessage)
    → Leads s es (Brought i k message)
brought_leads s es i k message l h =
    let e = Brought i k message in
    all_kept s es e l h (λ j. quiet j es e (λ p. refl) refl refl refl (λ p. refl) refl)
    (λ j p. quiet_at j p es e refl refl refl refl)

-- a reply is handed back
pub handed_back_leads : (s : OpenedChain) (es : List Event) (i port : ℕ) → Leads s es (HandedBack i port)
handed_back_leads s es i port l h =
    let e = HandedBack i port in
    all_kept s es e l h (λ j. quiet j es e (λ p. refl) refl refl refl (λ p. refl) refl)
    (λ j p. quiet_at j p es e refl refl refl refl)

-- a link fails
pub broke_leads : (s : OpenedChain) (es : List Event) (i to : ℕ) → Leads s es (Broke i to)
broke_leads s es i to l h =
    let e = Broke i to in
    all_kept s es e l h (λ j. quiet j es e (λ p. refl) refl refl refl (λ p. refl) refl)
    (λ j p. quiet_at j p es e refl refl refl refl)

-- a server halts
pub halted_leads : (s : OpenedChain) (es : List Event) (i : ℕ) → i < s.count → Leads s es (Halted i)
halted_leads s es i within l h =
    let e = Halted i in
    let r : RunningServer = record (l.servers i) { stopped = true } in
    let here = h.servers i within in
    let now : has_halted i (es ++ e ∷ []) ≡ true =
    halted_more i es e ∙ or_right (has_halted i es) (is_halt i e) (eq-eqb i i refl) in
    let server : StandsForServer s i (es ++ e ∷ []) r = record {
      node = here.node ∙ ap (λ xs. after (s.instances i).start xs) (sym (gathered_same (shows i) es e refl));
      only_calls = here.only_calls;
      calls = λ p. gathered_same (sends_from i p) es e refl ∙ here.calls p
          ∙ ap (λ xs. calls_from p xs ++ calls_from p r.inbox) (sym (given_same i es e refl));
      unpublished = given_same i es e refl ∙ here.unpublished
          ∙ ap (λ xs. xs ++ listed r.unpublished) (sym (gathered_same (shows i) es e refl));
      messages = λ j. ap (λ xs. messages_to j (put_out (s.instances i).start xs)) (gathered_same (shows i) es e refl)
          ∙ here.messages j
          ∙ ap (λ ms. links.messages_to j ms ++ messages_to j r.outbox) (sym (gathered_same (puts i) es e refl));
      replies = λ p. ap (λ xs. replies_to p (put_out (s.instances i).start xs)) (gathered_same (shows i) es e refl)
          ∙ here.replies p
          ∙ ap (λ rs. replies_in rs ++ replies_to p r.outbox) (sym (gathered_same (answers i p) es e refl));
      stopped = sym now;
    } in
    record {
      count = h.count;
      servers = one_server s es e l h i r (λ k other. elsewhere k es e other) server;
      channels = λ a b from to. ap (λ ms. links.messages_to b ms) (gathered_same (puts a) es e refl)
          ∙ h.channels a b from to
          ∙ ap (λ xs. all_messages_from a xs ++ l.channels a b) (sym (given_same b es e refl));
      seats = λ c. seat_kept (home_of s c) (port_of s c) es e (l.seats c)
          (quiet_at (home_of s c) (port_of s c) es e refl refl refl refl) (h.seats c);
    }
