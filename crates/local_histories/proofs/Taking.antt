-- A worker takes what comes next; one that has stopped drains its inbox.
use Rattle.std.proofs.Common.{◌≡◌, ℕ, ◌<◌, Bool, true, false, cond, List, [], ◌∷◌, ◌++◌, Option, None, Some, refl, ap}
use Rattle.std.proofs.Common.{sym, ◌∙◌, subst, inl, inr, append_assoc, eq-eqb}
use Rattle.std.specs.Prelude.{◌==◌, ◌&&◌, nat_lt, is_some}
use Rattle.std.proofs.lemmas.Bool.{cases_eq, ne_eqb, and_from, eqb-true, lt-ltb}
use Rattle.std.proofs.lemmas.List.{append_cancel_left, append-nil}
use Rattle.table.specs.declared.operations.Call.{Call}
use Rattle.node.specs.declared.messages.Input.{Input}
use Rattle.node.specs.declared.messages.Input.TheVariants.{Call as Called, From, Gone}
use Rattle.node.specs.declared.messages.Peer.{Peer}
use Rattle.node.specs.Runs.{after, put_out}
use Rattle.rail.specs.declared.inbox_messages.Envelope.{Envelope}
use Rattle.rail.specs.declared.inbox_messages.InboxMessage.{InboxMessage}
use Rattle.rail.specs.declared.inbox_messages.InboxMessage.TheVariants.{Took, Stop, End}
use Rattle.rail.specs.Links as links
use Rattle.interleavings.specs.Chains.{RunningServer, Chain, with_at, with_running, with_channel, listed, calls_from}
use Rattle.interleavings.specs.Chains.{messages_to, replies_to, Sender, OfSeat, OfServer, OfNotices, is_of, first_of}
use Rattle.interleavings.specs.Chains.{without_first_of}
use Rattle.interleavings.specs.Moves.{Move, took, taking, brought, arrived}
use Rattle.interleavings.specs.OtherMoves.{moved_from_by}
use Rattle.interleavings.specs.OwnPorts.{with_own_ports}
use Rattle.interleavings.proofs.lists.ChangedFunctions.{at_same, at_other, at_twice}
use Rattle.interleavings.proofs.lists.FirstOf.{calls_picked}
use Rattle.interleavings.proofs.lists.Joined.{calls_from-append}
use Rattle.local_histories.specs.Events.{Event, Taken}
use Rattle.local_histories.specs.Objects.{OpenedChain, only_if, sends_from, sent_from, all_messages_from, message_from}
use Rattle.local_histories.specs.Objects.{inputs_in, shows, shown_by, has_halted, answers, puts, put_by}
use Rattle.local_histories.specs.Standing.{replies_in, given_to, AreCalls, StandsForServer, StandsForChain}
use Rattle.local_histories.specs.Standing.{home_of, port_of, moves_of_taking}
use Rattle.local_histories.specs.Following.{GoesOnWith, IsNextMessage, Leads}
use Rattle.local_histories.proofs.Gathering.{gathered_same, given_more, given_same, given_no_more, halted_same}
use Rattle.local_histories.proofs.Keeping.{KeepsServer, quiet_at, elsewhere, all_kept, one_server, seat_kept}

-- ---- lists

none_of : (o : Option Input) → listed o ≡ [] → o ≡ None
none_of None e = refl
none_of (Some x) e = absurd cc

-- the messages from a server, with one input more
messages_more : (j : ℕ) (xs : List Input) (x : Input)
    → all_messages_from j (xs ++ x ∷ []) ≡ all_messages_from j xs ++ message_from j x
messages_more j [] x = append-nil (message_from j x)
messages_more j (y ∷ ys) x = ap (λ ms. message_from j y ++ ms) (messages_more j ys x)
    ∙ sym (append_assoc (message_from j y) (all_messages_from j ys) (message_from j x))

-- the first call of a port
first_call : (xs : List Input) (p : ℕ) (call : Call) (rest : List Call)
    → AreCalls xs
    → calls_from p xs ≡ call ∷ rest
    → first_of (OfSeat p) xs ≡ Some (Called p call)
first_call [] p call rest calls e = absurd cc
first_call (Called q other ∷ xs) p call rest calls e = by (q == p) refl e (first_call xs p call rest calls)
  where
    by : (b : Bool) → (q == p) ≡ b → cond b (other ∷ calls_from p xs) (calls_from p xs) ≡ call ∷ rest
        → (calls_from p xs ≡ call ∷ rest → first_of (OfSeat p) xs ≡ Some (Called p call))
        → cond b (Some (Called q other)) (first_of (OfSeat p) xs) ≡ Some (Called p call)
    by true is g f =
        let port : q ≡ p = eqb-true q p is in
        let same : other ≡ call = cc in
        ap (λ n. Some (Called n other)) port ∙ ap (λ x. Some (Called p x)) same
    by false is g f = f g
first_call (From j peer ∷ xs) p call rest calls e = absurd calls
first_call (Gone j ∷ xs) p call rest calls e = absurd calls

-- without one they are calls still
calls_without : (z : Sender) (xs : List Input) → AreCalls xs → AreCalls (without_first_of z xs)
calls_without z [] h = tt
calls_without z (Called q other ∷ xs) h = by (is_of z (Called q other)) (calls_without z xs h)
  where
    by : (b : Bool) → AreCalls (without_first_of z xs)
        → AreCalls (cond b xs (Called q other ∷ without_first_of z xs))
    by true f = h
    by false f = f
calls_without z (From j peer ∷ xs) h = absurd h
calls_without z (Gone j ∷ xs) h = absurd h

-- what came last behind calls, and isn't one, is the first of its sender
module _ (z : Sender) (x : Input) (none : (q : ℕ) (call : Call) → is_of z (Called q call) ≡ false)
    (own : is_of z x ≡ true) where
  last_is_first : (xs : List Input) → AreCalls xs → first_of z (xs ++ x ∷ []) ≡ Some x
  last_is_first [] h = ap (λ b. cond b (Some x) None) own
  last_is_first (Called q call ∷ xs) h =
      ap (λ b. cond b (Some (Called q call)) (first_of z (xs ++ x ∷ []))) (none q call) ∙ last_is_first xs h
  last_is_first (From j peer ∷ xs) h = absurd h
  last_is_first (Gone j ∷ xs) h = absurd h

  rest_is_calls : (xs : List Input) → AreCalls xs → without_first_of z (xs ++ x ∷ []) ≡ xs
  rest_is_calls [] h = ap (λ b. cond b [] (x ∷ [])) own
  rest_is_calls (Called q call ∷ xs) h =
      ap (λ b. cond b (xs ++ x ∷ []) (Called q call ∷ without_first_of z (xs ++ x ∷ []))) (none q call)
      ∙ ap (λ ys. Called q call ∷ ys) (rest_is_calls xs h)
  rest_is_calls (From j peer ∷ xs) h = absurd h
  rest_is_calls (Gone j ∷ xs) h = absurd h

-- ---- nothing comes of what is taken

module _ (s : OpenedChain) (es : List Event) (i : ℕ) (envelope : Envelope) where
  abbrev e : Event
  e = Taken i envelope

  -- the server is given nothing
  passes : given_to i (es ++ e ∷ []) ≡ given_to i es
      → (l : Chain)
      → StandsForChain s es l
      → StandsForChain s (es ++ e ∷ []) l
  passes same l h = all_kept s es e l h
      (λ k. elim (cases_eq i k) [
        | inl here ↦ subst (λ x. KeepsServer x es e) here (record {
          sent = λ p. gathered_same (sends_from i p) es e refl;
          given = same;
          shown = gathered_same (shows i) es e refl;
          put = gathered_same (puts i) es e refl;
          answered = λ p. gathered_same (answers i p) es e refl;
          halted = halted_same i es e refl;
        })
        | inr other ↦ elsewhere k es e other
      ])
      (λ j p. quiet_at j p es e refl refl refl refl)

  -- ---- it is given an input

  module _ (x : Input) (is : envelope.inbox_message ≡ Took x) (going : has_halted i es ≡ false) where
    given_now : given_to i (es ++ e ∷ []) ≡ given_to i es ++ x ∷ []
    given_now = given_more i es e going refl
        ∙ ap (λ b. given_to i es ++ cond b (inputs_in envelope.inbox_message) []) (eq-eqb i i refl)
        ∙ ap (λ m. given_to i es ++ inputs_in m) is

    -- the server that has taken it
    server_took : (r : RunningServer) (left : List Input)
        → StandsForServer s i es r
        → given_to i es ≡ shown_by i es
        → ((p : ℕ) → calls_from p (x ∷ left) ≡ calls_from p r.inbox)
        → AreCalls left
        → StandsForServer s i (es ++ e ∷ []) (record r { inbox = left; unpublished = Some x })
    server_took r left here all picked calls = record {
      node = here.node ∙ ap (λ xs. after (s.instances i).start xs) (sym (gathered_same (shows i) es e refl));
      only_calls = calls;
      calls = λ p. gathered_same (sends_from i p) es e refl ∙ here.calls p
          ∙ ap (λ cs. calls_from p (given_to i es) ++ cs) (sym (picked p) ∙ calls_from-append p (x ∷ []) left)
          ∙ sym (append_assoc (calls_from p (given_to i es)) (calls_from p (x ∷ [])) (calls_from p left))
          ∙ ap (λ cs. cs ++ calls_from p left)
          (sym (ap (calls_from p) given_now ∙ calls_from-append p (given_to i es) (x ∷ [])));
      unpublished = given_now ∙ ap (λ xs. xs ++ x ∷ []) (all ∙ sym (gathered_same (shows i) es e refl));
      messages = λ j. ap (λ xs. messages_to j (put_out (s.instances i).start xs)) (gathered_same (shows i) es e refl)
          ∙ here.messages j
          ∙ ap (λ ms. links.messages_to j ms ++ messages_to j r.outbox) (sym (gathered_same (puts i) es e refl));
      replies = λ p. ap (λ xs. replies_to p (put_out (s.instances i).start xs)) (gathered_same (shows i) es e refl)
          ∙ here.replies p
          ∙ ap (λ rs. replies_in rs ++ replies_to p r.outbox) (sym (gathered_same (answers i p) es e refl));
      stopped = here.stopped ∙ sym (halted_same i es e refl);
    }

    -- nothing that it took is unpublished
    none_waits : (r : RunningServer)
        → StandsForServer s i es r
        → given_to i es ≡ shown_by i es
        → r.unpublished ≡ None
    none_waits r here all = none_of r.unpublished
        (append_cancel_left (shown_by i es) (listed r.unpublished) []
        (sym here.unpublished ∙ all ∙ sym (append-nil (shown_by i es))))

    -- a chain in which this server has taken it, and whose channels to it lack it if it was a message
    chain_took : (l : Chain) (channels : ℕ → ℕ → List Peer) (left : List Input)
        → StandsForChain s es l
        → i < s.count
        → given_to i es ≡ shown_by i es
        → ((p : ℕ) → calls_from p (x ∷ left) ≡ calls_from p (l.servers i).inbox)
        → AreCalls left
        → ((a b : ℕ) → l.channels a b ≡ cond (i == b) (message_from a x) [] ++ channels a b)
        → StandsForChain s (es ++ e ∷ []) (record l {
          servers = with_at l.servers i (record (l.servers i) { inbox = left; unpublished = Some x });
          channels = channels;
        })
    chain_took l channels left h within all picked calls lacks = record {
      count = h.count;
      servers = one_server s es e l h i (record (l.servers i) { inbox = left; unpublished = Some x })
          (λ k other. elsewhere k es e other)
          (server_took (l.servers i) left (h.servers i within) all picked calls);
      channels = λ a b from to. ap (links.messages_to b) (gathered_same (puts a) es e refl) ∙ h.channels a b from to
          ∙ ap (λ ms. all_messages_from a (given_to b es) ++ ms) (lacks a b)
          ∙ elim (cases_eq i b) [
            | inl same ↦ subst (λ y. all_messages_from a (given_to y es) ++ (cond (i == y) (message_from a x) []
                ++ channels a y) ≡ all_messages_from a (given_to y (es ++ e ∷ [])) ++ channels a y) same
                (ap (λ t. all_messages_from a (given_to i es) ++ (cond t (message_from a x) [] ++ channels a i))
                (eq-eqb i i refl)
                ∙ sym (append_assoc (all_messages_from a (given_to i es)) (message_from a x) (channels a i))
                ∙ ap (λ ms. ms ++ channels a i)
                (sym (ap (all_messages_from a) given_now ∙ messages_more a (given_to i es) x)))
            | inr other ↦ ap (λ t. all_messages_from a (given_to b es) ++ (cond t (message_from a x) []
                ++ channels a b)) (ne_eqb i b other)
                ∙ ap (λ xs. all_messages_from a xs ++ channels a b) (sym (elsewhere b es e other).given)
          ];
      seats = λ c. seat_kept (home_of s c) (port_of s c) es e (l.seats c)
          (quiet_at (home_of s c) (port_of s c) es e refl refl refl refl) (h.seats c);
    }

nothing_more : (b : Bool) (xs : List Peer) → xs ≡ cond b [] [] ++ xs
nothing_more true xs = refl
nothing_more false xs = refl

module _ (s : OpenedChain) (es : List Event) (i : ℕ) (envelope : Envelope) (within : i < s.count)
    (going : has_halted i es ≡ false) (all : given_to i es ≡ shown_by i es)
    (l : Chain) (h : StandsForChain s es l) where
  abbrev now : List Event
  now = es ++ Taken i envelope ∷ []

  abbrev does : Chain → List Move → Chain
  does = moved_from_by (with_own_ports s.homes)

  -- a server takes this input as the first one of its sender, of an inbox
  takes : (g : Chain) (z : Sender) (x : Input) (inbox : List Input)
      → g.servers i ≡ record (l.servers i) { inbox = inbox }
      → first_of z inbox ≡ Some x
      → (l.servers i).unpublished ≡ None
      → with_running g i (taking (g.servers i) z)
      ≡ with_running g i (record (l.servers i) { inbox = without_first_of z inbox; unpublished = Some x })
  takes g z x inbox is first free =
      let r : RunningServer = record (l.servers i) { inbox = inbox } in
      let stopped : r.stopped ≡ false = (h.servers i within).stopped ∙ going in
      ap (λ t. with_running g i (taking t z)) is
      ∙ ap (λ b. with_running g i (cond b r (cond (is_some r.unpublished) r (took r z (first_of z inbox))))) stopped
      ∙ ap (λ (o : Option Input). with_running g i (cond (is_some o) r (took r z (first_of z inbox)))) free
      ∙ ap (λ o. with_running g i (took r z o)) first

  took_call : (port : ℕ) (call : Call)
      → envelope.inbox_message ≡ Took (Called port call)
      → GoesOnWith (calls_from port (given_to i es)) call (sent_from i port es)
      → StandsForChain s now (does l (moves_of_taking i (Took (Called port call))))
  took_call port call is next =
      let x = Called port call in
      let r = l.servers i in
      let here = h.servers i within in
      let waits : calls_from port r.inbox ≡ call ∷ next.0 =
      append_cancel_left (calls_from port (given_to i es)) (calls_from port r.inbox) (call ∷ next.0)
      (sym (here.calls port) ∙ next.1) in
      let first : first_of (OfSeat port) r.inbox ≡ Some x = first_call r.inbox port call next.0 here.only_calls waits in
      subst (λ g. StandsForChain s now g)
      (sym (takes l (OfSeat port) x r.inbox refl first (none_waits s es i envelope x is going r here all)))
      (chain_took s es i envelope x is going l l.channels (without_first_of (OfSeat port) r.inbox) h within all
      (λ p. calls_picked (OfSeat port) p x r.inbox first)
      (calls_without (OfSeat port) r.inbox here.only_calls)
      (λ a b. nothing_more (i == b) (l.channels a b)))

  -- a server is brought this, and takes it
  comes : (g : Chain) (z : Sender) (x : Input)
      → ((q : ℕ) (call : Call) → is_of z (Called q call) ≡ false)
      → is_of z x ≡ true
      → ((p : ℕ) → calls_from p (x ∷ []) ≡ [])
      → envelope.inbox_message ≡ Took x
      → g.servers ≡ l.servers
      → with_running (brought g i x) i (taking ((brought g i x).servers i) z)
      ≡ with_running g i (record (l.servers i) { unpublished = Some x })
  comes g z x none own no_call is same =
      let r = l.servers i in
      let here = h.servers i within in
      let fuller : RunningServer = record r { inbox = r.inbox ++ x ∷ [] } in
      let g1 = with_running g i fuller in
      ap (λ (ss : ℕ → RunningServer). with_running (with_running g i (record (ss i) { inbox = (ss i).inbox ++ x ∷ [] }))
      i (taking (with_at g.servers i (record (ss i) { inbox = (ss i).inbox ++ x ∷ [] }) i) z)) same
      ∙ takes g1 z x (r.inbox ++ x ∷ []) (at_same g.servers i fuller)
      (last_is_first z x none own r.inbox here.only_calls)
      (none_waits s es i envelope x is going r here all)
      ∙ ap (λ xs. with_running g1 i (record r { inbox = xs; unpublished = Some x }))
      (rest_is_calls z x none own r.inbox here.only_calls)
      ∙ ap (λ ss. record g { servers = ss }) (at_twice g.servers i fuller (record r { unpublished = Some x }))

  took_message : (j : ℕ) (peer : Peer)
      → envelope.inbox_message ≡ Took (From j peer)
      → j < s.count
      → GoesOnWith (all_messages_from j (given_to i es)) peer (links.messages_to i (put_by j es))
      → StandsForChain s now (does l (moves_of_taking i (Took (From j peer))))
  took_message j peer is there next =
      let x = From j peer in
      let r = l.servers i in
      let here = h.servers i within in
      let on : l.channels j i ≡ peer ∷ next.0 =
      append_cancel_left (all_messages_from j (given_to i es)) (l.channels j i) (peer ∷ next.0)
      (sym (h.channels j i there within) ∙ next.1) in
      let row = with_at (l.channels j) i next.0 in
      let channels = with_at l.channels j row in
      let g = with_channel l j i next.0 in
      let lacks : (a b : ℕ) → l.channels a b ≡ cond (i == b) (only_if (j == a) peer) [] ++ channels a b =
      λ (a b : ℕ). elim (cases_eq j a) [
        | inr other ↦
            ap (λ (f : ℕ → List Peer). f b) (sym (at_other l.channels j row a (λ f. other (sym f))))
            ∙ nothing_more (i == b) (channels a b)
            ∙ ap (λ t. cond (i == b) (only_if t peer) [] ++ channels a b) (sym (ne_eqb j a other))
        | inl same ↦ subst
            (λ y. l.channels y b ≡ cond (i == b) (only_if (j == y) peer) [] ++ channels y b) same
            (elim (cases_eq i b) [
              | inr other ↦
                  sym (at_other (l.channels j) i next.0 b (λ f. other (sym f)))
                  ∙ ap (λ (f : ℕ → List Peer). f b) (sym (at_same l.channels j row))
                  ∙ ap (λ t. cond t (only_if (j == j) peer) [] ++ channels j b) (sym (ne_eqb i b other))
              | inl alike ↦ subst
                  (λ y. l.channels j y ≡ cond (i == y) (only_if (j == j) peer) [] ++ channels j y) alike
                  (on ∙ ap (λ ms. peer ∷ ms) (sym (at_same (l.channels j) i next.0)
                  ∙ ap (λ (f : ℕ → List Peer). f i) (sym (at_same l.channels j row)))
                  ∙ ap (λ t. cond t (peer ∷ []) [] ++ channels j i) (sym (eq-eqb i i refl))
                  ∙ ap (λ t. cond (i == i) (only_if t peer) [] ++ channels j i) (sym (eq-eqb j j refl)))
            ])
      ] in
      subst (λ ms. StandsForChain s now (with_running (arrived l j i ms) i (taking ((arrived l j i ms).servers i)
      (OfServer j)))) (sym on)
      (subst (λ k. StandsForChain s now k)
      (sym (comes g (OfServer j) x (λ q call. refl) (eq-eqb j j refl) (λ p. refl) is refl))
      (chain_took s es i envelope x is going l channels r.inbox h within all (λ p. refl) here.only_calls lacks))

  took_notice : (j : ℕ)
      → envelope.inbox_message ≡ Took (Gone j)
      → j < s.count
      → has_halted j es ≡ true
      → StandsForChain s now (does l (moves_of_taking i (Took (Gone j))))
  took_notice j is there halted =
      let x = Gone j in
      let r = l.servers i in
      let here = h.servers i within in
      let stopped : (nat_lt j l.count && (l.servers j).stopped) ≡ true =
      and_from (nat_lt j l.count) (l.servers j).stopped
      (ap (nat_lt j) h.count ∙ lt-ltb j s.count there) ((h.servers j there).stopped ∙ halted) in
      subst (λ b. StandsForChain s now (with_running (cond b (brought l i x) l) i
      (taking ((cond b (brought l i x) l).servers i) OfNotices))) (sym stopped)
      (subst (λ k. StandsForChain s now k)
      (sym (comes l OfNotices x (λ q call. refl) refl (λ p. refl) is refl))
      (chain_took s es i envelope x is going l l.channels r.inbox h within all (λ p. refl) here.only_calls
      (λ a b. nothing_more (i == b) (l.channels a b))))

  took_any : (m : InboxMessage)
      → envelope.inbox_message ≡ m
      → IsNextMessage s i es m
      → StandsForChain s now (does l (moves_of_taking i m))
  took_any (Took (Called port call)) is next = took_call port call is next
  took_any (Took (From j peer)) is next = took_message j peer is next.0 next.1
  took_any (Took (Gone j)) is next = took_notice j is next.0 next.1
  took_any Stop is next = passes s es i envelope (given_same i es (Taken i envelope)
      (ap (λ b. cond b (inputs_in envelope.inbox_message) []) (eq-eqb i i refl) ∙ ap inputs_in is)) l h
  took_any End is next = passes s es i envelope (given_same i es (Taken i envelope)
      (ap (λ b. cond b (inputs_in envelope.inbox_message) []) (eq-eqb i i refl) ∙ ap inputs_in is)) l h

pub taken_leads : (s : OpenedChain) (es : List Event) (i : ℕ) (envelope : Envelope)
    → i < s.count
    → (has_halted i es ≡ false
    → (given_to i es ≡ shown_by i es) × IsNextMessage s i es envelope.inbox_message)
    → Leads s es (Taken i envelope)
taken_leads s es i envelope within may l h = by (has_halted i es) refl
  where
    by : (b : Bool) → has_halted i es ≡ b
        → StandsForChain s (es ++ Taken i envelope ∷ []) (moved_from_by (with_own_ports s.homes) l
        (cond b [] (moves_of_taking i envelope.inbox_message)))
    by true halted = passes s es i envelope (given_no_more i es (Taken i envelope) halted) l h
    by false going = took_any s es i envelope within going (may going).0 l h envelope.inbox_message refl (may going).1
