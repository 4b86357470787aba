-- What steps put out: the face is shown, messages are put, replies are put.
use Rattle.std.proofs.Common.{◌≡◌, ℕ, ◌<◌, Bool, true, false, cond, List, [], ◌∷◌, ◌++◌, Option, None, Some, refl, ap}
use Rattle.std.proofs.Common.{sym, ◌∙◌, subst, inl, inr, append_assoc, eq-eqb}
use Rattle.std.specs.Prelude.{◌==◌, ◌&&◌, not}
use Rattle.std.proofs.lemmas.Bool.{cases_eq, ne_eqb, and_from}
use Rattle.std.proofs.lemmas.List.{append_cancel_left, append-nil}
use Rattle.table.specs.declared.operations.Reply.{Reply}
use Rattle.node.specs.declared.messages.Input.{Input}
use Rattle.node.specs.declared.messages.Output.{Output}
use Rattle.node.specs.declared.messages.Peer.{Peer}
use Rattle.node.specs.Runs.{after, put_out}
use Rattle.node.specs.Servers.{ServerState}
use Rattle.node.specs.Steps.{step}
use Rattle.rail.specs.Links as links
use Rattle.rail.specs.NotedReplies.{NotedReply}
use Rattle.interleavings.specs.Chains.{RunningServer, Seat, with_at, with_running, listed, calls_from}
use Rattle.interleavings.specs.Chains.{messages_to, without_message, replies_to, without_reply}
use Rattle.interleavings.specs.Moves.{published, put}
use Rattle.interleavings.specs.OwnPorts.{seats_at, port_at, reply_put_from}
use Rattle.interleavings.proofs.lists.ChangedFunctions.{at_same, at_other}
use Rattle.interleavings.proofs.lists.Joined.{messages_to-append, replies_to-append}
use Rattle.interleavings.proofs.lists.Removed.{others_without_message, messages_without_first, replies_without_message}
use Rattle.interleavings.proofs.lists.Removed.{messages_without_reply, others_without_reply, replies_without_first}
use Rattle.local_histories.specs.Events.{Event, Shown, Put, Answered}
use Rattle.local_histories.specs.Objects.{OpenedChain, only_if, sends_from, shows, shown_by, has_halted, answers}
use Rattle.local_histories.specs.Objects.{answered_at, gets, got_at, puts, put_by, all_messages_from}
use Rattle.local_histories.specs.Standing.{begins, ends, replies_in, given_to, StandsForServer, StandsForSeat}
use Rattle.local_histories.specs.Standing.{StandsForChain, home_of, port_of, seat_in}
use Rattle.local_histories.specs.Following.{GoesOnWith, outputs_of, Leads}
use Rattle.local_histories.proofs.Gathering.{gathered_more, gathered_same, given_same, halted_same}
use Rattle.local_histories.proofs.Keeping.{quiet_at, elsewhere, one_server, one_seat, seat_kept, channels_kept}
use Rattle.local_histories.proofs.SeatPlaces.{not_there, seat_has}
use Rattle.local_histories.proofs.SeatEvents.{replies_in-append, seat_here, seat_back}

-- ---- runs of a server with one input more

after_more : (n : ServerState) (xs : List Input) (x : Input) → after n (xs ++ x ∷ []) ≡ (step (after n xs) x).state
after_more n [] x = refl
after_more n (y ∷ ys) x = after_more (step n y).state ys x

pub put_out_more : (n : ServerState) (xs : List Input) (x : Input)
    → put_out n (xs ++ x ∷ []) ≡ put_out n xs ++ (step (after n xs) x).outputs
put_out_more n [] x = append-nil (step n x).outputs
put_out_more n (y ∷ ys) x = ap (λ os. (step n y).outputs ++ os) (put_out_more (step n y).state ys x)
    ∙ sym (append_assoc (step n y).outputs (put_out (step n y).state ys) (step (after (step n y).state ys) x).outputs)

-- the one that there is
some_of : (o : Option Input) (x : Input) → listed o ≡ x ∷ [] → o ≡ Some x
some_of None x e = absurd cc
some_of (Some y) x e = (let same : y ≡ x = cc in ap (λ z. Some z) same)

-- ---- the face is shown

pub shown_leads : (s : OpenedChain) (es : List Event) (i : ℕ) (input : Input)
    → i < s.count
    → has_halted i es ≡ false
    → given_to i es ≡ shown_by i es ++ input ∷ []
    → Leads s es (Shown i input)
shown_leads s es i input within going given l h =
    let e = Shown i input in
    let r = l.servers i in
    let here = h.servers i within in
    let start = (s.instances i).start in
    let before = shown_by i es in
    let n = after start before in
    let outs = (step n input).outputs in
    let waits : r.unpublished ≡ Some input =
    some_of r.unpublished input
    (append_cancel_left before (listed r.unpublished) (input ∷ []) (sym here.unpublished ∙ given)) in
    let new : RunningServer =
    record r { node = (step n input).state; unpublished = None; outbox = r.outbox ++ outs } in
    let shown_now : shown_by i (es ++ e ∷ []) ≡ before ++ input ∷ [] =
    gathered_more (shows i) es e ∙ ap (λ b. before ++ only_if b input) (eq-eqb i i refl) in
    let outputs_now : put_out start (shown_by i (es ++ e ∷ [])) ≡ put_out start before ++ outs =
    ap (put_out start) shown_now ∙ put_out_more start before input in
    let server : StandsForServer s i (es ++ e ∷ []) new = record {
      node = sym (ap (after start) shown_now ∙ after_more start before input);
      only_calls = here.only_calls;
      calls = λ p. gathered_same (sends_from i p) es e refl ∙ here.calls p
          ∙ ap (λ xs. calls_from p xs ++ calls_from p r.inbox) (sym (given_same i es e refl));
      unpublished = given_same i es e refl ∙ given ∙ sym shown_now ∙ sym (append-nil (shown_by i (es ++ e ∷ [])));
      messages = λ j. ap (messages_to j) outputs_now ∙ messages_to-append j (put_out start before) outs
          ∙ ap (λ ms. ms ++ messages_to j outs) (here.messages j)
          ∙ append_assoc (links.messages_to j (put_by i es)) (messages_to j r.outbox) (messages_to j outs)
          ∙ ap (λ ms. links.messages_to j (put_by i es) ++ ms) (sym (messages_to-append j r.outbox outs))
          ∙ ap (λ ms. links.messages_to j ms ++ messages_to j new.outbox) (sym (gathered_same (puts i) es e refl));
      replies = λ p. ap (replies_to p) outputs_now ∙ replies_to-append p (put_out start before) outs
          ∙ ap (λ rs. rs ++ replies_to p outs) (here.replies p)
          ∙ append_assoc (replies_in (answered_at i p es)) (replies_to p r.outbox) (replies_to p outs)
          ∙ ap (λ rs. replies_in (answered_at i p es) ++ rs) (sym (replies_to-append p r.outbox outs))
          ∙ ap (λ rs. replies_in rs ++ replies_to p new.outbox) (sym (gathered_same (answers i p) es e refl));
      stopped = here.stopped ∙ sym (halted_same i es e refl);
    } in
    subst (λ b. StandsForChain s (es ++ e ∷ []) (with_running l i (cond b r (published r r.unpublished))))
    (sym (here.stopped ∙ going))
    (subst (λ o. StandsForChain s (es ++ e ∷ []) (with_running l i (published r o))) (sym waits)
    (subst (λ (m : ServerState). StandsForChain s (es ++ e ∷ []) (with_running l i
    (record r { node = (step m input).state; unpublished = None; outbox = r.outbox ++ (step m input).outputs })))
    (sym here.node)
    (record {
      count = h.count;
      servers = one_server s es e l h i new (λ k other. elsewhere k es e other) server;
      channels = channels_kept s es e l h (λ k. gathered_same (puts k) es e refl) (λ k. given_same k es e refl);
      seats = λ c. seat_kept (home_of s c) (port_of s c) es e (l.seats c)
          (quiet_at (home_of s c) (port_of s c) es e refl refl refl refl) (h.seats c);
    })))

-- ---- a message is put

-- what is put with one message more, by receivers
pub linked_more : (k j : ℕ) (peer : Peer) (xs : List (ℕ × Peer))
    → links.messages_to k (xs ++ (j, peer) ∷ []) ≡ links.messages_to k xs ++ only_if (j == k) peer
linked_more k j peer [] = refl
linked_more k j peer (x ∷ xs) = by (x.0 == k) (linked_more k j peer xs)
  where
    by : (b : Bool) → links.messages_to k (xs ++ (j, peer) ∷ []) ≡ links.messages_to k xs ++ only_if (j == k) peer
        → cond b (x.1 ∷ links.messages_to k (xs ++ (j, peer) ∷ [])) (links.messages_to k (xs ++ (j, peer) ∷ []))
        ≡ cond b (x.1 ∷ links.messages_to k xs) (links.messages_to k xs) ++ only_if (j == k) peer
    by true f = ap (λ ms. x.1 ∷ ms) f
    by false f = f

-- the outbox is the first message for a server, and what is left without it
message_left : (j k : ℕ) (peer : Peer) (rest : List Peer) (os : List Output)
    → messages_to j os ≡ peer ∷ rest
    → messages_to k os ≡ only_if (j == k) peer ++ messages_to k (without_message j os)
message_left j k peer rest os first = elim (cases_eq j k) [
  | inl same ↦
      subst (λ x. messages_to x os ≡ only_if (j == x) peer ++ messages_to x (without_message j os)) same
      (subst (λ b. messages_to j os ≡ only_if b peer ++ messages_to j (without_message j os)) (sym (eq-eqb j j refl))
      (first ∙ ap (λ ms. peer ∷ ms) (sym (messages_without_first j os peer rest first))))
  | inr other ↦
      subst (λ b. messages_to k os ≡ only_if b peer ++ messages_to k (without_message j os)) (sym (ne_eqb j k other))
      (sym (others_without_message j k os (λ f. other (sym f))))
]

pub put_leads : (s : OpenedChain) (es : List Event) (i j : ℕ) (peer : Peer)
    → i < s.count
    → has_halted i es ≡ false
    → GoesOnWith (links.messages_to j (put_by i es)) peer (messages_to j (outputs_of s i es))
    → Leads s es (Put i j peer)
put_leads s es i j peer within going next l h =
    let e = Put i j peer in
    let r = l.servers i in
    let here = h.servers i within in
    let rest : List Peer = next.0 in
    let first : messages_to j r.outbox ≡ peer ∷ rest =
    append_cancel_left (links.messages_to j (put_by i es)) (messages_to j r.outbox) (peer ∷ rest)
    (sym (here.messages j) ∙ next.1) in
    let new : RunningServer = record r { outbox = without_message j r.outbox } in
    let put_now : put_by i (es ++ e ∷ []) ≡ put_by i es ++ (j, peer) ∷ [] =
    gathered_more (puts i) es e ∙ ap (λ b. put_by i es ++ only_if b (j, peer)) (eq-eqb i i refl) in
    let server : StandsForServer s i (es ++ e ∷ []) new = record {
      node = here.node ∙ ap (λ xs. after (s.instances i).start xs) (sym (gathered_same (shows i) es e refl));
      only_calls = here.only_calls;
      calls = λ p. gathered_same (sends_from i p) es e refl ∙ here.calls p
          ∙ ap (λ xs. calls_from p xs ++ calls_from p r.inbox) (sym (given_same i es e refl));
      unpublished = given_same i es e refl ∙ here.unpublished
          ∙ ap (λ xs. xs ++ listed r.unpublished) (sym (gathered_same (shows i) es e refl));
      messages = λ k. ap (λ xs. messages_to k (put_out (s.instances i).start xs)) (gathered_same (shows i) es e refl)
          ∙ here.messages k
          ∙ ap (λ ms. links.messages_to k (put_by i es) ++ ms) (message_left j k peer rest r.outbox first)
          ∙ sym (append_assoc (links.messages_to k (put_by i es)) (only_if (j == k) peer) (messages_to k new.outbox))
          ∙ ap (λ ms. ms ++ messages_to k new.outbox)
          (sym (ap (links.messages_to k) put_now ∙ linked_more k j peer (put_by i es)));
      replies = λ p. ap (λ xs. replies_to p (put_out (s.instances i).start xs)) (gathered_same (shows i) es e refl)
          ∙ here.replies p
          ∙ ap (λ rs. replies_in (answered_at i p es) ++ rs) (sym (replies_without_message j p r.outbox))
          ∙ ap (λ rs. replies_in rs ++ replies_to p new.outbox) (sym (gathered_same (answers i p) es e refl));
      stopped = here.stopped ∙ sym (halted_same i es e refl);
    } in
    let on = l.channels i j ++ peer ∷ [] in
    let row = with_at (l.channels i) j on in
    let row_is : (b : ℕ) → row b ≡ l.channels i b ++ only_if (j == b) peer =
    λ (b : ℕ). elim (cases_eq j b) [
      | inl same ↦ subst (λ x. row x ≡ l.channels i x ++ only_if (j == x) peer) same
          (at_same (l.channels i) j on ∙ ap (λ t. l.channels i j ++ only_if t peer) (sym (eq-eqb j j refl)))
      | inr other ↦ at_other (l.channels i) j on b (λ f. other (sym f)) ∙ sym (append-nil (l.channels i b))
          ∙ ap (λ t. l.channels i b ++ only_if t peer) (sym (ne_eqb j b other))
    ] in
    subst (λ b. StandsForChain s (es ++ e ∷ []) (cond b l (put l i j (messages_to j r.outbox))))
    (sym (here.stopped ∙ going))
    (subst (λ ms. StandsForChain s (es ++ e ∷ []) (put l i j ms)) (sym first) (record {
      count = h.count;
      servers = one_server s es e l h i new (λ k other. elsewhere k es e other) server;
      channels = λ a b from to. elim (cases_eq i a) [
        | inl same ↦
            subst (λ x. links.messages_to b (put_by x (es ++ e ∷ []))
            ≡ all_messages_from x (given_to b (es ++ e ∷ [])) ++ with_at l.channels i row x b) same
            (ap (links.messages_to b) put_now ∙ linked_more b j peer (put_by i es)
            ∙ ap (λ ms. ms ++ only_if (j == b) peer) (h.channels i b within to)
            ∙ append_assoc (all_messages_from i (given_to b es)) (l.channels i b) (only_if (j == b) peer)
            ∙ ap (λ ms. all_messages_from i (given_to b es) ++ ms) (sym (row_is b))
            ∙ ap (λ xs. all_messages_from i xs ++ row b) (sym (given_same b es e refl))
            ∙ ap (λ (f : ℕ → List Peer). all_messages_from i (given_to b (es ++ e ∷ [])) ++ f b)
            (sym (at_same l.channels i row)))
        | inr other ↦
            ap (links.messages_to b) ((elsewhere a es e other).put) ∙ h.channels a b from to
            ∙ ap (λ xs. all_messages_from a xs ++ l.channels a b) (sym (given_same b es e refl))
            ∙ ap (λ (f : ℕ → List Peer). all_messages_from a (given_to b (es ++ e ∷ [])) ++ f b)
            (sym (at_other l.channels i row a (λ f. other (sym f))))
      ];
      seats = λ c. seat_kept (home_of s c) (port_of s c) es e (l.seats c)
          (quiet_at (home_of s c) (port_of s c) es e refl refl refl refl) (h.seats c);
    }))

-- ---- a reply is put

-- the outbox is the first reply for a port, and what is left without it
reply_left : (p q : ℕ) (reply : Reply) (rest : List Reply) (os : List Output)
    → replies_to p os ≡ reply ∷ rest
    → replies_to q os ≡ only_if (p == q) reply ++ replies_to q (without_reply p os)
reply_left p q reply rest os first = elim (cases_eq p q) [
  | inl same ↦
      subst (λ x. replies_to x os ≡ only_if (p == x) reply ++ replies_to x (without_reply p os)) same
      (subst (λ b. replies_to p os ≡ only_if b reply ++ replies_to p (without_reply p os)) (sym (eq-eqb p p refl))
      (first ∙ ap (λ rs. reply ∷ rs) (sym (replies_without_first p os reply rest first))))
  | inr other ↦
      subst (λ b. replies_to q os ≡ only_if b reply ++ replies_to q (without_reply p os)) (sym (ne_eqb p q other))
      (sym (others_without_reply p q os (λ f. other (sym f))))
]

noted_if : (b : Bool) (reply : NotedReply) → replies_in (only_if b reply) ≡ only_if b reply.reply
noted_if true reply = refl
noted_if false reply = refl

pub answered_leads : (s : OpenedChain) (es : List Event) (i : ℕ) (reply : NotedReply)
    → i < s.count
    → reply.port < seats_at s.homes i
    → has_halted i es ≡ false
    → GoesOnWith (replies_in (answered_at i reply.port es)) reply.reply (replies_to reply.port (outputs_of s i es))
    → Leads s es (Answered i reply)
answered_leads s es i reply within below going next l h =
    let e = Answered i reply in
    let p = reply.port in
    let c = seat_in s.homes i p in
    let t = l.seats c in
    let r = l.servers i in
    let here = h.servers i within in
    let sits : StandsForSeat i p es t = seat_here s es i p within below l h in
    let rest : List Reply = next.0 in
    let first : replies_to p r.outbox ≡ reply.reply ∷ rest =
    append_cancel_left (replies_in (answered_at i p es)) (replies_to p r.outbox) (reply.reply ∷ rest)
    (sym (here.replies p) ∙ next.1) in
    let new : RunningServer = record r { outbox = without_reply p r.outbox } in
    let fuller : Seat = record t { queued = t.queued ++ reply.reply ∷ [] } in
    let answered_now : (q : ℕ) → replies_in (answered_at i q (es ++ e ∷ []))
    ≡ replies_in (answered_at i q es) ++ only_if (p == q) reply.reply =
    λ (q : ℕ). ap replies_in (gathered_more (answers i q) es e)
    ∙ ap (λ b. replies_in (answered_at i q es ++ only_if (b && p == q) reply)) (eq-eqb i i refl)
    ∙ replies_in-append (answered_at i q es) (only_if (p == q) reply)
    ∙ ap (λ rs. replies_in (answered_at i q es) ++ rs) (noted_if (p == q) reply) in
    let server : StandsForServer s i (es ++ e ∷ []) new = record {
      node = here.node ∙ ap (λ xs. after (s.instances i).start xs) (sym (gathered_same (shows i) es e refl));
      only_calls = here.only_calls;
      calls = λ q. gathered_same (sends_from i q) es e refl ∙ here.calls q
          ∙ ap (λ xs. calls_from q xs ++ calls_from q r.inbox) (sym (given_same i es e refl));
      unpublished = given_same i es e refl ∙ here.unpublished
          ∙ ap (λ xs. xs ++ listed r.unpublished) (sym (gathered_same (shows i) es e refl));
      messages = λ k. ap (λ xs. messages_to k (put_out (s.instances i).start xs)) (gathered_same (shows i) es e refl)
          ∙ here.messages k
          ∙ ap (λ ms. links.messages_to k (put_by i es) ++ ms) (sym (messages_without_reply p k r.outbox))
          ∙ ap (λ ms. links.messages_to k ms ++ messages_to k new.outbox) (sym (gathered_same (puts i) es e refl));
      replies = λ q. ap (λ xs. replies_to q (put_out (s.instances i).start xs)) (gathered_same (shows i) es e refl)
          ∙ here.replies q
          ∙ ap (λ rs. replies_in (answered_at i q es) ++ rs) (reply_left p q reply.reply rest r.outbox first)
          ∙ sym (append_assoc (replies_in (answered_at i q es)) (only_if (p == q) reply.reply)
          (replies_to q new.outbox))
          ∙ ap (λ rs. rs ++ replies_to q new.outbox) (sym (answered_now q));
      stopped = here.stopped ∙ sym (halted_same i es e refl);
    } in
    let seat : StandsForSeat i p (es ++ e ∷ []) fuller = record {
      home = sits.home;
      calls = sits.calls ∙ sym (gathered_same (begins i p) es e refl);
      got = sits.got ∙ sym (gathered_same (ends i p) es e refl);
      queued = answered_now p
          ∙ ap (λ b. replies_in (answered_at i p es) ++ only_if b reply.reply) (eq-eqb p p refl)
          ∙ ap (λ rs. rs ++ reply.reply ∷ []) sits.queued
          ∙ append_assoc (replies_in (got_at i p es)) t.queued (reply.reply ∷ [])
          ∙ ap (λ rs. replies_in rs ++ fuller.queued) (sym (gathered_same (gets i p) es e refl));
    } in
    subst (λ b. StandsForChain s (es ++ e ∷ []) (cond b (reply_put_from (port_at s.homes c t.home) l i c t
    (replies_to (port_at s.homes c t.home) r.outbox)) l))
    (sym (and_from (t.home == i) (not r.stopped) (eq-eqb t.home i sits.home) (ap not (here.stopped ∙ going))))
    (subst (λ q. StandsForChain s (es ++ e ∷ []) (reply_put_from q l i c t (replies_to q r.outbox)))
    (sym (ap (port_at s.homes c) sits.home ∙ (seat_has s.homes i p below).1))
    (subst (λ rs. StandsForChain s (es ++ e ∷ []) (reply_put_from p l i c t rs)) (sym first) (record {
      count = h.count;
      servers = one_server s es e l h i new (λ k other. elsewhere k es e other) server;
      channels = channels_kept s es e l h (λ k. gathered_same (puts k) es e refl) (λ k. given_same k es e refl);
      seats = one_seat s es e l h c fuller
          (λ d other.
          let away = not_there s i p within below d other in
          quiet_at (home_of s d) (port_of s d) es e refl refl (ap (λ b. only_if b reply) away) refl)
          (seat_back s es i p within below l h (es ++ e ∷ []) fuller seat);
    })))
