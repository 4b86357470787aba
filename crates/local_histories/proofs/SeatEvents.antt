-- A call is sent, and a reply is taken.
use Rattle.std.proofs.Common.{◌≡◌, ℕ, ◌+◌, ◌<◌, Bool, true, false, cond, List, [], ◌∷◌, ◌++◌, length, refl}
use Rattle.std.proofs.Common.{arith, ap, sym, ◌∙◌, subst, append_assoc, eq-eqb, length-append}
use Rattle.std.specs.Prelude.{◌==◌, ◌&&◌}
use Rattle.std.proofs.lemmas.Bool.{and_from}
use Rattle.std.proofs.lemmas.List.{append_cancel_left}
use Rattle.table.specs.Items.{Item}
use Rattle.table.specs.declared.operations.Call.{Call}
use Rattle.table.specs.declared.operations.Reply.{Reply}
use Rattle.node.specs.Faces.{look_at}
use Rattle.node.specs.declared.looks.Look.{Look}
use Rattle.node.specs.declared.looks.Look.TheVariants.{Clean, Dirty}
use Rattle.node.specs.declared.messages.Input.{Input}
use Rattle.node.specs.declared.messages.Input.TheVariants.{Call as Called, From, Gone}
use Rattle.node.specs.Runs.{after, put_out}
use Rattle.faces.specs.Histories.{shown_after}
use Rattle.rail.specs.Links as links
use Rattle.rail.specs.NotedReplies.{NotedReply}
use Rattle.interleavings.specs.Chains.{RunningServer, Seat, Chain, with_seat, listed, calls_from, messages_to}
use Rattle.interleavings.specs.Chains.{replies_to}
use Rattle.interleavings.specs.Moves.{is_free, brought, received}
use Rattle.interleavings.specs.OwnPorts.{seats_at, port_at}
use Rattle.interleavings.proofs.lists.Joined.{calls_from-append}
use Rattle.local_histories.specs.Events.{Event, Sent, Brought, Taken, Shown, Put, Answered, HandedBack, Got, Looked}
use Rattle.local_histories.specs.Events.{Halted, Broke}
use Rattle.local_histories.specs.Objects.{OpenedChain, only_if, sends_from, sent_from, shows, puts, answers}
use Rattle.local_histories.specs.Objects.{answered_at}
use Rattle.local_histories.specs.Objects.{gets, got_at}
use Rattle.local_histories.specs.LocalRules.{HasAllReplies}
use Rattle.local_histories.specs.Standing.{read_by, read_reply, begins, begun_at, ends, ended_at, replies_in, given_to}
use Rattle.local_histories.specs.Standing.{AreCalls, StandsForServer, StandsForSeat, StandsForChain, home_of, port_of}
use Rattle.local_histories.specs.Standing.{seat_in}
use Rattle.local_histories.specs.Following.{GoesOnWith, Leads}
use Rattle.local_histories.proofs.Gathering.{gathered_more, gathered_same, given_same, halted_same}
use Rattle.local_histories.proofs.Keeping.{quiet, quiet_at, elsewhere, one_server, one_seat, servers_kept}
use Rattle.local_histories.proofs.Keeping.{channels_kept}
use Rattle.local_histories.proofs.SeatPlaces.{home_there, port_there, not_there, seat_has}

-- ---- lists

pub replies_in-append : (xs ys : List NotedReply) → replies_in (xs ++ ys) ≡ replies_in xs ++ replies_in ys
replies_in-append [] ys = refl
replies_in-append (x ∷ xs) ys = ap (λ rs. x.reply ∷ rs) (replies_in-append xs ys)

-- one call more
pub calls_and_call : (xs : List Input) (p : ℕ) (call : Call) → AreCalls xs → AreCalls (xs ++ Called p call ∷ [])
calls_and_call [] p call h = tt
calls_and_call (Called q other ∷ xs) p call h = calls_and_call xs p call h
calls_and_call (From j peer ∷ xs) p call h = absurd h
calls_and_call (Gone j ∷ xs) p call h = absurd h

-- ---- a seat that has a reply to each call that it sent has one to each call

-- how many calls a look is
looks : ℕ → ℕ → Event → ℕ
looks i p (Looked h q key stood) = length (begins i p (Looked h q key stood))
looks i p e = 0

one_of : {X Y : Type 0} (b : Bool) (x : X) (y : Y) → length (only_if b x) ≡ length (only_if b y)
one_of true x y = refl
one_of false x y = refl

same_many : (b : Bool) (key : List ℕ) (look : Look Item)
    → length (cond b (read_reply look) []) ≡ length (cond b (read_by key look) [])
same_many true key (Clean item) = refl
same_many true key Dirty = refl
same_many false key look = refl

begins_many : (i p : ℕ) (e : Event) → length (begins i p e) ≡ length (sends_from i p e) + looks i p e
unfolding looks
begins_many i p (Sent h k port call) = omega arith
begins_many i p (Brought h k message) = refl
begins_many i p (Taken h envelope) = refl
begins_many i p (Shown h input) = refl
begins_many i p (Put h j peer) = refl
begins_many i p (Answered h reply) = refl
begins_many i p (HandedBack h port) = refl
begins_many i p (Got h reply) = refl
begins_many i p (Looked h q key stood) = omega arith
begins_many i p (Halted h) = refl
begins_many i p (Broke h j) = refl

ends_many : (i p : ℕ) (e : Event) → length (ends i p e) ≡ length (gets i p e) + looks i p e
unfolding looks
ends_many i p (Sent h k port call) = refl
ends_many i p (Brought h k message) = refl
ends_many i p (Taken h envelope) = refl
ends_many i p (Shown h input) = refl
ends_many i p (Put h j peer) = refl
ends_many i p (Answered h reply) = refl
ends_many i p (HandedBack h port) = refl
ends_many i p (Got h reply) =
    let e = one_of (h == i && reply.port == p) reply.reply reply in
    omega (arith, e)
ends_many i p (Looked h q key stood) =
    let e = same_many (h == i && q == p) key (look_at (shown_after stood) key) in
    omega (arith, e)
ends_many i p (Halted h) = refl
ends_many i p (Broke h j) = refl

-- how many calls the looks among these are
all_looks : ℕ → ℕ → List Event → ℕ
all_looks i p [] = 0
all_looks i p (e ∷ es) = looks i p e + all_looks i p es

begun_many : (i p : ℕ) (es : List Event) → length (begun_at i p es) ≡ length (sent_from i p es) + all_looks i p es
unfolding all_looks
begun_many i p [] = refl
begun_many i p (e ∷ es) =
    let here = begins_many i p e in
    let rest = begun_many i p es in
    let first = length-append (begins i p e) (begun_at i p es) in
    let second = length-append (sends_from i p e) (sent_from i p es) in
    omega (arith, here, rest, first, second)

ended_many : (i p : ℕ) (es : List Event) → length (ended_at i p es) ≡ length (got_at i p es) + all_looks i p es
unfolding all_looks
ended_many i p [] = refl
ended_many i p (e ∷ es) =
    let here = ends_many i p e in
    let rest = ended_many i p es in
    let first = length-append (ends i p e) (ended_at i p es) in
    let second = length-append (gets i p e) (got_at i p es) in
    omega (arith, here, rest, first, second)

pub free_seat : (i p : ℕ) (es : List Event) (t : Seat)
    → StandsForSeat i p es t
    → HasAllReplies i p es
    → is_free t ≡ true
free_seat i p es t h free =
    let begun = begun_many i p es in
    let ended = ended_many i p es in
    let calls : length t.calls ≡ length (begun_at i p es) = ap (λ xs. length xs) h.calls in
    let got : length t.got ≡ length (ended_at i p es) = ap (λ xs. length xs) h.got in
    eq-eqb (length t.calls) (length t.got) (omega (arith, begun, ended, calls, got, free))

-- ---- one seat of a server of the chain

module _ (s : OpenedChain) (es : List Event) (i p : ℕ) (within : i < s.count) (below : p < seats_at s.homes i)
    (l : Chain) (h : StandsForChain s es l) where
  abbrev c : ℕ
  c = seat_in s.homes i p

  -- what it stands for
  pub seat_here : StandsForSeat i p es (l.seats c)
  seat_here =
      subst (λ j. StandsForSeat j p es (l.seats c)) (home_there s i p within below)
      (subst (λ q. StandsForSeat (home_of s c) q es (l.seats c)) (port_there s i p within below) (h.seats c))

  -- and what it comes to stand for
  pub seat_back : (fs : List Event) (t : Seat) → StandsForSeat i p fs t → StandsForSeat (home_of s c) (port_of s c) fs t
  seat_back fs t new =
      subst (λ q. StandsForSeat (home_of s c) q fs t) (sym (port_there s i p within below))
      (subst (λ j. StandsForSeat j p fs t) (sym (home_there s i p within below)) new)

pub both_same : (i p : ℕ) → (i == i && p == p) ≡ true
both_same i p = and_from (i == i) (p == p) (eq-eqb i i refl) (eq-eqb p p refl)

-- ---- a reply is taken

pub got_leads : (s : OpenedChain) (es : List Event) (i : ℕ) (reply : NotedReply)
    → i < s.count
    → reply.port < seats_at s.homes i
    → GoesOnWith (replies_in (got_at i reply.port es)) reply.reply (replies_in (answered_at i reply.port es))
    → Leads s es (Got i reply)
got_leads s es i reply within below next l h =
    let e = Got i reply in
    let p = reply.port in
    let c = seat_in s.homes i p in
    let t = l.seats c in
    let here : StandsForSeat i p es t = seat_here s es i p within below l h in
    let rest : List Reply = next.0 in
    let stands : t.queued ≡ reply.reply ∷ rest =
    append_cancel_left (replies_in (got_at i p es)) t.queued (reply.reply ∷ rest) (sym here.queued ∙ next.1) in
    let new : Seat = record t { got = t.got ++ reply.reply ∷ []; queued = rest } in
    let got_now : got_at i p (es ++ e ∷ []) ≡ got_at i p es ++ reply ∷ [] =
    gathered_more (gets i p) es e ∙ ap (λ b. got_at i p es ++ only_if b reply) (both_same i p) in
    let ended_now : ended_at i p (es ++ e ∷ []) ≡ ended_at i p es ++ reply.reply ∷ [] =
    gathered_more (ends i p) es e ∙ ap (λ b. ended_at i p es ++ only_if b reply.reply) (both_same i p) in
    let seat : StandsForSeat i p (es ++ e ∷ []) new = record {
      home = here.home;
      calls = here.calls ∙ sym (gathered_same (begins i p) es e refl);
      got = ap (λ rs. rs ++ reply.reply ∷ []) here.got ∙ sym ended_now;
      queued = ap replies_in (gathered_same (answers i p) es e refl) ∙ next.1
          ∙ sym (ap (λ rs. replies_in rs ++ rest) got_now
          ∙ ap (λ rs. rs ++ rest) (replies_in-append (got_at i p es) (reply ∷ []))
          ∙ append_assoc (replies_in (got_at i p es)) (reply.reply ∷ []) rest);
    } in
    subst (λ q. StandsForChain s (es ++ e ∷ []) (received l c t q)) (sym stands) (record {
      count = h.count;
      servers = servers_kept s es e l h (λ k. quiet k es e (λ q. refl) refl refl refl (λ q. refl) refl);
      channels = channels_kept s es e l h (λ k. gathered_same (puts k) es e refl) (λ k. given_same k es e refl);
      seats = one_seat s es e l h c new
          (λ d other.
          let away = not_there s i p within below d other in
          quiet_at (home_of s d) (port_of s d) es e refl (ap (λ b. only_if b reply.reply) away) refl
          (ap (λ b. only_if b reply) away))
          (seat_back s es i p within below l h (es ++ e ∷ []) new seat);
    })

-- ---- a call is sent

pub sent_leads : (s : OpenedChain) (es : List Event) (i k p : ℕ) (call : Call)
    → i < s.count
    → p < seats_at s.homes i
    → HasAllReplies i p es
    → Leads s es (Sent i k p call)
sent_leads s es i k p call within below all l h =
    let e = Sent i k p call in
    let c = seat_in s.homes i p in
    let t = l.seats c in
    let r = l.servers i in
    let here : StandsForSeat i p es t = seat_here s es i p within below l h in
    let server = h.servers i within in
    let new : Seat = record t { calls = t.calls ++ call ∷ [] } in
    let fuller : RunningServer = record r { inbox = r.inbox ++ Called p call ∷ [] } in
    let begun_now : begun_at i p (es ++ e ∷ []) ≡ begun_at i p es ++ call ∷ [] =
    gathered_more (begins i p) es e ∙ ap (λ b. begun_at i p es ++ only_if b call) (both_same i p) in
    let seat : StandsForSeat i p (es ++ e ∷ []) new = record {
      home = here.home;
      calls = ap (λ cs. cs ++ call ∷ []) here.calls ∙ sym begun_now;
      got = here.got ∙ sym (gathered_same (ends i p) es e refl);
      queued = ap replies_in (gathered_same (answers i p) es e refl) ∙ here.queued
          ∙ ap (λ rs. replies_in rs ++ t.queued) (sym (gathered_same (gets i p) es e refl));
    } in
    let comes : StandsForServer s i (es ++ e ∷ []) fuller = record {
      node = server.node ∙ ap (λ xs. after (s.instances i).start xs) (sym (gathered_same (shows i) es e refl));
      only_calls = calls_and_call r.inbox p call server.only_calls;
      calls = λ q. gathered_more (sends_from i q) es e
          ∙ ap (λ b. sent_from i q es ++ only_if (b && p == q) call) (eq-eqb i i refl)
          ∙ ap (λ cs. cs ++ only_if (p == q) call) (server.calls q)
          ∙ append_assoc (calls_from q (given_to i es)) (calls_from q r.inbox) (only_if (p == q) call)
          ∙ ap (λ cs. calls_from q (given_to i es) ++ cs) (sym (calls_from-append q r.inbox (Called p call ∷ [])))
          ∙ ap (λ xs. calls_from q xs ++ calls_from q fuller.inbox) (sym (given_same i es e refl));
      unpublished = given_same i es e refl ∙ server.unpublished
          ∙ ap (λ xs. xs ++ listed r.unpublished) (sym (gathered_same (shows i) es e refl));
      messages = λ j. ap (λ xs. messages_to j (put_out (s.instances i).start xs)) (gathered_same (shows i) es e refl)
          ∙ server.messages j
          ∙ ap (λ ms. links.messages_to j ms ++ messages_to j r.outbox) (sym (gathered_same (puts i) es e refl));
      replies = λ q. ap (λ xs. replies_to q (put_out (s.instances i).start xs)) (gathered_same (shows i) es e refl)
          ∙ server.replies q
          ∙ ap (λ rs. replies_in rs ++ replies_to q r.outbox) (sym (gathered_same (answers i q) es e refl));
      stopped = server.stopped ∙ sym (halted_same i es e refl);
    } in
    subst (λ b. StandsForChain s (es ++ e ∷ [])
    (cond b (brought (with_seat l c new) t.home (Called (port_at s.homes c t.home) call)) l))
    (sym (free_seat i p es t here all))
    (subst (λ m. StandsForChain s (es ++ e ∷ []) (brought (with_seat l c new) m (Called (port_at s.homes c m) call)))
    (sym here.home)
    (subst (λ q. StandsForChain s (es ++ e ∷ []) (brought (with_seat l c new) i (Called q call)))
    (sym (seat_has s.homes i p below).1)
    (record {
      count = h.count;
      servers = one_server s es e l h i fuller (λ m other. elsewhere m es e other) comes;
      channels = channels_kept s es e l h (λ m. gathered_same (puts m) es e refl) (λ m. given_same m es e refl);
      seats = one_seat s es e l h c new
          (λ d other.
          let away = not_there s i p within below d other in
          quiet_at (home_of s d) (port_of s d) es e (ap (λ b. only_if b call) away) refl refl refl)
          (seat_back s es i p within below l h (es ++ e ∷ []) new seat);
    })))
