-- What an event leaves as it was.
use Rattle.std.proofs.Common.{◌≡◌, ◌≢◌, ℕ, ◌<◌, false, cond, List, [], ◌∷◌, ◌++◌, refl, ap, sym, ◌∙◌, subst}
use Rattle.std.proofs.Common.{inl, inr}
use Rattle.std.specs.Prelude.{◌==◌, ◌&&◌}
use Rattle.std.proofs.lemmas.Bool.{cases_eq, ne_eqb}
use Rattle.node.specs.Runs.{after, put_out}
use Rattle.rail.specs.Links as links
use Rattle.interleavings.specs.Chains.{RunningServer, Seat, Chain, with_at, listed, calls_from, messages_to, replies_to}
use Rattle.interleavings.proofs.lists.ChangedFunctions.{at_same, at_other}
use Rattle.local_histories.specs.Events.{Event, Sent, Brought, Taken, Shown, Put, Answered, HandedBack, Got, Looked}
use Rattle.local_histories.specs.Events.{Halted, Broke}
use Rattle.local_histories.specs.Objects.{OpenedChain, only_if, sends_from, sent_from, all_messages_from, inputs_in}
use Rattle.local_histories.specs.Objects.{shows, shown_by, is_halt, has_halted, answers, answered_at, gets, got_at}
use Rattle.local_histories.specs.Objects.{puts, put_by}
use Rattle.local_histories.specs.Standing.{begins, begun_at, ends, ended_at, replies_in, takes_input, given_to}
use Rattle.local_histories.specs.Standing.{StandsForServer, StandsForSeat, StandsForChain, home_of, port_of}
use Rattle.local_histories.proofs.Gathering.{gathered_same, halted_same, given_same}

-- ---- servers

-- all that tells of server i is as it was before the event
pub record KeepsServer (i : ℕ) (es : List Event) (e : Event) : Type 0 where
  pub sent : (p : ℕ) → sent_from i p (es ++ e ∷ []) ≡ sent_from i p es
  pub given : given_to i (es ++ e ∷ []) ≡ given_to i es
  pub shown : shown_by i (es ++ e ∷ []) ≡ shown_by i es
  pub put : put_by i (es ++ e ∷ []) ≡ put_by i es
  pub answered : (p : ℕ) → answered_at i p (es ++ e ∷ []) ≡ answered_at i p es
  pub halted : has_halted i (es ++ e ∷ []) ≡ has_halted i es

-- so it stands for what it stood for
pub server_kept : (s : OpenedChain) (i : ℕ) (es : List Event) (e : Event) (r : RunningServer)
    → KeepsServer i es e
    → StandsForServer s i es r
    → StandsForServer s i (es ++ e ∷ []) r
server_kept s i es e r k h = record {
  node = h.node ∙ ap (λ xs. after (s.instances i).start xs) (sym k.shown);
  only_calls = h.only_calls;
  calls = λ p. k.sent p ∙ h.calls p ∙ ap (λ xs. calls_from p xs ++ calls_from p r.inbox) (sym k.given);
  unpublished = k.given ∙ h.unpublished ∙ ap (λ xs. xs ++ listed r.unpublished) (sym k.shown);
  messages = λ j. ap (λ xs. messages_to j (put_out (s.instances i).start xs)) k.shown ∙ h.messages j
      ∙ ap (λ ms. links.messages_to j ms ++ messages_to j r.outbox) (sym k.put);
  replies = λ p. ap (λ xs. replies_to p (put_out (s.instances i).start xs)) k.shown ∙ h.replies p
      ∙ ap (λ rs. replies_in rs ++ replies_to p r.outbox) (sym (k.answered p));
  stopped = h.stopped ∙ sym k.halted;
}

-- an event that adds nothing
pub quiet : (i : ℕ) (es : List Event) (e : Event)
    → ((p : ℕ) → sends_from i p e ≡ [])
    → takes_input i e ≡ []
    → shows i e ≡ []
    → puts i e ≡ []
    → ((p : ℕ) → answers i p e ≡ [])
    → is_halt i e ≡ false
    → KeepsServer i es e
quiet i es e sends takes shown put answered halts = record {
  sent = λ p. gathered_same (sends_from i p) es e (sends p);
  given = given_same i es e takes;
  shown = gathered_same (shows i) es e shown;
  put = gathered_same (puts i) es e put;
  answered = λ p. gathered_same (answers i p) es e (answered p);
  halted = halted_same i es e halts;
}

-- the server that an event is of
abbrev pub server_of : Event → ℕ
server_of (Sent i k port call) = i
server_of (Brought i k message) = i
server_of (Taken i envelope) = i
server_of (Shown i input) = i
server_of (Put i j peer) = i
server_of (Answered i reply) = i
server_of (HandedBack i port) = i
server_of (Got i reply) = i
server_of (Looked i q key stood) = i
server_of (Halted i) = i
server_of (Broke i j) = i

-- an event leaves all other servers as they were
pub elsewhere : (i : ℕ) (es : List Event) (e : Event) → server_of e ≢ i → KeepsServer i es e
elsewhere i es (Sent h k port call) n =
    quiet i es (Sent h k port call) (λ p. ap (λ b. only_if (b && port == p) call) (ne_eqb h i n)) refl refl refl
    (λ p. refl) refl
elsewhere i es (Brought h k message) n = quiet i es (Brought h k message) (λ p. refl) refl refl refl (λ p. refl) refl
elsewhere i es (Taken h envelope) n =
    quiet i es (Taken h envelope) (λ p. refl)
    (ap (λ b. cond b (inputs_in envelope.inbox_message) []) (ne_eqb h i n)) refl refl (λ p. refl) refl
elsewhere i es (Shown h input) n =
    quiet i es (Shown h input) (λ p. refl) refl (ap (λ b. only_if b input) (ne_eqb h i n)) refl (λ p. refl) refl
elsewhere i es (Put h j peer) n =
    quiet i es (Put h j peer) (λ p. refl) refl refl (ap (λ b. only_if b (j, peer)) (ne_eqb h i n)) (λ p. refl) refl
elsewhere i es (Answered h reply) n =
    quiet i es (Answered h reply) (λ p. refl) refl refl refl
    (λ p. ap (λ b. only_if (b && reply.port == p) reply) (ne_eqb h i n)) refl
elsewhere i es (HandedBack h port) n = quiet i es (HandedBack h port) (λ p. refl) refl refl refl (λ p. refl) refl
elsewhere i es (Got h reply) n = quiet i es (Got h reply) (λ p. refl) refl refl refl (λ p. refl) refl
elsewhere i es (Looked h q key stood) n =
    quiet i es (Looked h q key stood) (λ p. refl) refl refl refl (λ p. refl) refl
elsewhere i es (Halted h) n = quiet i es (Halted h) (λ p. refl) refl refl refl (λ p. refl) (ne_eqb h i n)
elsewhere i es (Broke h j) n = quiet i es (Broke h j) (λ p. refl) refl refl refl (λ p. refl) refl

-- ---- seats

-- all that tells of the seat of server i at port p is as it was
pub record KeepsSeat (i p : ℕ) (es : List Event) (e : Event) : Type 0 where
  pub begun : begun_at i p (es ++ e ∷ []) ≡ begun_at i p es
  pub ended : ended_at i p (es ++ e ∷ []) ≡ ended_at i p es
  pub answered : answered_at i p (es ++ e ∷ []) ≡ answered_at i p es
  pub got : got_at i p (es ++ e ∷ []) ≡ got_at i p es

-- so it stands for what it stood for
pub seat_kept : (i p : ℕ) (es : List Event) (e : Event) (t : Seat)
    → KeepsSeat i p es e
    → StandsForSeat i p es t
    → StandsForSeat i p (es ++ e ∷ []) t
seat_kept i p es e t k h = record {
  home = h.home;
  calls = h.calls ∙ sym k.begun;
  got = h.got ∙ sym k.ended;
  queued = ap replies_in k.answered ∙ h.queued ∙ ap (λ rs. replies_in rs ++ t.queued) (sym k.got);
}

-- an event that adds nothing
pub quiet_at : (i p : ℕ) (es : List Event) (e : Event)
    → begins i p e ≡ []
    → ends i p e ≡ []
    → answers i p e ≡ []
    → gets i p e ≡ []
    → KeepsSeat i p es e
quiet_at i p es e begun ended answered got = record {
  begun = gathered_same (begins i p) es e begun;
  ended = gathered_same (ends i p) es e ended;
  answered = gathered_same (answers i p) es e answered;
  got = gathered_same (gets i p) es e got;
}

-- ---- chains

module _ (s : OpenedChain) (es : List Event) (e : Event) (l : Chain) (h : StandsForChain s es l) where
  -- an event that leaves everything as it was
  pub all_kept : ((i : ℕ) → KeepsServer i es e)
      → ((i p : ℕ) → KeepsSeat i p es e)
      → StandsForChain s (es ++ e ∷ []) l
  all_kept servers seats = record {
    count = h.count;
    servers = λ i within. server_kept s i es e (l.servers i) (servers i) (h.servers i within);
    channels = λ i j here there. ap (λ ms. links.messages_to j ms) (servers i).put ∙ h.channels i j here there
        ∙ ap (λ xs. all_messages_from i xs ++ l.channels i j) (sym (servers j).given);
    seats = λ c. seat_kept (home_of s c) (port_of s c) es e (l.seats c) (seats (home_of s c) (port_of s c)) (h.seats c);
  }

  -- an event that leaves all servers as they were, and all that tells of channels
  pub servers_kept : ((i : ℕ) → KeepsServer i es e)
      → (i : ℕ)
      → i < s.count
      → StandsForServer s i (es ++ e ∷ []) (l.servers i)
  servers_kept servers i within = server_kept s i es e (l.servers i) (servers i) (h.servers i within)

  pub channels_kept : ((i : ℕ) → put_by i (es ++ e ∷ []) ≡ put_by i es)
      → ((i : ℕ) → given_to i (es ++ e ∷ []) ≡ given_to i es)
      → (i j : ℕ)
      → i < s.count
      → j < s.count
      → links.messages_to j (put_by i (es ++ e ∷ []))
      ≡ all_messages_from i (given_to j (es ++ e ∷ [])) ++ l.channels i j
  channels_kept put given i j here there = ap (λ ms. links.messages_to j ms) (put i) ∙ h.channels i j here there
      ∙ ap (λ xs. all_messages_from i xs ++ l.channels i j) (sym (given j))

  -- one server changes
  pub one_server : (i : ℕ) (r : RunningServer)
      → ((k : ℕ) → i ≢ k → KeepsServer k es e)
      → StandsForServer s i (es ++ e ∷ []) r
      → (k : ℕ)
      → k < s.count
      → StandsForServer s k (es ++ e ∷ []) (with_at l.servers i r k)
  one_server i r others new k within = elim (cases_eq i k) [
    | inl same ↦ subst (λ x. StandsForServer s x (es ++ e ∷ []) (with_at l.servers i r x)) same
        (subst (λ y. StandsForServer s i (es ++ e ∷ []) y) (sym (at_same l.servers i r)) new)
    | inr other ↦ subst (λ y. StandsForServer s k (es ++ e ∷ []) y)
        (sym (at_other l.servers i r k (λ f. other (sym f))))
        (server_kept s k es e (l.servers k) (others k other) (h.servers k within))
  ]

  -- one seat changes
  pub one_seat : (c : ℕ) (t : Seat)
      → ((d : ℕ) → c ≢ d → KeepsSeat (home_of s d) (port_of s d) es e)
      → StandsForSeat (home_of s c) (port_of s c) (es ++ e ∷ []) t
      → (d : ℕ)
      → StandsForSeat (home_of s d) (port_of s d) (es ++ e ∷ []) (with_at l.seats c t d)
  one_seat c t others new d = elim (cases_eq c d) [
    | inl same ↦ subst
        (λ x. StandsForSeat (home_of s x) (port_of s x) (es ++ e ∷ []) (with_at l.seats c t x)) same
        (subst (λ y. StandsForSeat (home_of s c) (port_of s c) (es ++ e ∷ []) y) (sym (at_same l.seats c t)) new)
    | inr other ↦ subst (λ y. StandsForSeat (home_of s d) (port_of s d) (es ++ e ∷ []) y)
        (sym (at_other l.seats c t d (λ f. other (sym f))))
        (seat_kept (home_of s d) (port_of s d) es e (l.seats d) (others d other) (h.seats d))
  ]
