-- What a client sends while it goes on.
use Rattle.std.proofs.Common.{◌≡◌, ◌⊎◌, ◌∙◌, ◌+◌, ◌++◌, ◌∷◌, ℕ, suc, List, [], Option, None, Some, MatchOption, inl, inr}
use Rattle.std.proofs.Common.{ap, append-nil, arith, length, length-append, refl, subst, sym}
use Rattle.table.specs.declared.operations.Call.{Call}
use Rattle.faces.specs.Histories.{Instance}
use Rattle.rail.specs.CallSenders.{CallSenderState}
use Rattle.seats.specs.SeatPools.{HasNoFault, HasSentNothing, Pooling}
use Rattle.seats.specs.Submitters.{Submitting}
use Rattle.seats.specs.ClientConnections.{AreSentBy, AreUnsent, ClientConnectionState, HasSentInTurn, calls_open}
use Rattle.seats.specs.ClientConnections.{StandsAt, seats_open}
use Rattle.seats.specs.declared.client_connections.CallStanding.TheVariants.{Idle, Reading, Sent, Over as Spent}
use Rattle.seats.proofs.SentInTurn.{sent_still}
use Rattle.io_threads.specs.Clients.{HasGoneQuietly, IsAtRest}

-- nothing is sent while nothing is done
pub nothing_yet : (t : ClientConnectionState) (o : Instance) → StandsAt t.standing t.ahead t.connected o
    → (p : Pooling) → HasSentInTurn t t p p
nothing_yet t o stands = λ p. sent_still t.standing t.ahead t.connected o t p refl refl stands

-- a list that is none has no front, and no rest
front_none : {A : Type 0} (xs more : List A) → [] ≡ xs ++ more → xs ≡ []
front_none [] more e = refl
front_none {A} (x ∷ xs) more e = let no : 0 ≡ suc (length (xs ++ more)) = ap length e in absurd (omega (arith, no))

rest_none : {A : Type 0} (xs more : List A) → [] ≡ xs ++ more → more ≡ []
rest_none [] more e = sym e
rest_none {A} (x ∷ xs) more e = let no : 0 ≡ suc (length (xs ++ more)) = ap length e in absurd (omega (arith, no))

none_of_length : {A : Type 0} (xs : List A) → length xs ≡ 0 → xs ≡ []
none_of_length [] e = refl
none_of_length (x ∷ xs) e = absurd (omega (arith, e))

-- without a seat no call was sent
sent_at_none : (s then : CallSenderState) (more : List Submitting) (calls : List Call) → more ≡ []
    → AreSentBy s more calls then → then ≡ s
sent_at_none s then [] [] e sent = sent
sent_at_none s then [] (call ∷ calls) e sent = absurd sent
sent_at_none s then (x ∷ more) calls e sent =
    let no : suc (length more) ≡ 0 = ap length e in absurd (omega (arith, no))

-- a client at rest has no seat, and none of its calls was sent; it isn't over
rest_seats : (t : ClientConnectionState) → IsAtRest t → seats_open t.standing t.ahead ≡ []
rest_seats t rest = by rest.standing
  where
    by : (t.standing ≡ Idle) ⊎ (t.standing ≡ Reading) → seats_open t.standing t.ahead ≡ []
    by (inl e) = ap (λ x. seats_open x t.ahead) e
    by (inr e) = ap (λ x. seats_open x t.ahead) e

rest_calls : (t : ClientConnectionState) → IsAtRest t → calls_open t.standing t.connected.waiting ≡ []
rest_calls t rest = by rest.standing
  where
    by : (t.standing ≡ Idle) ⊎ (t.standing ≡ Reading) → calls_open t.standing t.connected.waiting ≡ []
    by (inl e) = ap (λ x. calls_open x t.connected.waiting) e
    by (inr e) = ap (λ x. calls_open x t.connected.waiting) e

rest_unsent : (t : ClientConnectionState) → IsAtRest t → AreUnsent t.standing []
rest_unsent t rest = by rest.standing
  where
    by : (t.standing ≡ Idle) ⊎ (t.standing ≡ Reading) → AreUnsent t.standing []
    by (inl e) = subst (λ x. AreUnsent x []) (sym e) refl
    by (inr e) = subst (λ x. AreUnsent x []) (sym e) refl

rest_goes : (t : ClientConnectionState) → IsAtRest t → t.standing ≡ Spent → ⊥
rest_goes t rest over = by rest.standing
  where
    by : (t.standing ≡ Idle) ⊎ (t.standing ≡ Reading) → ⊥
    by (inl e) = let both : Idle ≡ Spent = sym e ∙ over in absurd cc
    by (inr e) = let both : Reading ≡ Spent = sym e ∙ over in absurd cc

-- it is at rest,
pub rests_idle : (t : ClientConnectionState) → t.connected.waiting ≡ [] → t.standing ≡ Idle → IsAtRest t
rests_idle t none e = record { waiting = none; standing = inl e }

-- also if it wants input
pub rests_reading : (t : ClientConnectionState) → t.connected.waiting ≡ [] → t.standing ≡ Reading → IsAtRest t
rests_reading t none e = record { waiting = none; standing = inr e }

-- a client that goes on has a seat for each call that was sent: without a seat nothing was
pub sent_nothing : (t u : ClientConnectionState) (p q : Pooling) → HasSentInTurn t u p q
    → (u.standing ≡ Spent → ⊥)
    → seats_open u.standing u.ahead ≡ []
    → HasSentNothing p q
sent_nothing t u p q sent goes none = by sent.open_at
  where
    by : (u.standing ≡ Spent) ⊎ (seats_open u.standing u.ahead ≡ seats_open t.standing t.ahead ++ sent.more)
        → HasSentNothing p q
    by (inl over) = absurd (goes over)
    by (inr now) =
        sent_at_none p.sender q.sender sent.more sent.calls
        (rest_none (seats_open t.standing t.ahead) sent.more (sym none ∙ now)) sent.sent

-- it went on until it rested
pub gone_quietly : (t u : ClientConnectionState) (p q : Pooling) → HasSentInTurn t u p q → HasNoFault p q
    → IsAtRest u
    → HasGoneQuietly t u p q
gone_quietly t u p q sent unfailed rest =
    record {
      sender = sent_nothing t u p q sent (rest_goes u rest) (rest_seats u rest);
      faults = unfailed;
      seats = by sent.open_at;
      calls = rest_calls u rest ∙ sym (front_none (calls_open t.standing t.connected.waiting)
          (sent.calls ++ sent.unsent) (sym rest.waiting ∙ sent.waiting));
      fallen = λ over. absurd (rest_goes u rest over);
    }
  where
    by : (u.standing ≡ Spent) ⊎ (seats_open u.standing u.ahead ≡ seats_open t.standing t.ahead ++ sent.more)
        → seats_open u.standing u.ahead ≡ seats_open t.standing t.ahead
    by (inl over) = absurd (rest_goes u rest over)
    by (inr now) =
        rest_seats u rest
        ∙ sym (front_none (seats_open t.standing t.ahead) sent.more (sym (rest_seats u rest) ∙ now))

-- it read or wrote, and rests
pub still_quiet : (t m u : ClientConnectionState) (p q : Pooling) → HasGoneQuietly t m p q → IsAtRest m → IsAtRest u
    → HasGoneQuietly t u p q
still_quiet t m u p q quiet rested rests =
    record {
      sender = quiet.sender;
      faults = quiet.faults;
      seats = rest_seats u rests ∙ (sym (rest_seats m rested) ∙ quiet.seats);
      calls = rest_calls u rests ∙ (sym (rest_calls m rested) ∙ quiet.calls);
      fallen = λ over. absurd (rest_goes u rests over);
    }

-- nothing was done
pub quiet_same : (t : ClientConnectionState) (p : Pooling) → HasGoneQuietly t t p p
quiet_same t p = record { sender = refl; faults = refl; seats = refl; calls = refl; fallen = λ over. over }

-- one after the other
pub quiet_then : (s t u : ClientConnectionState) (p q r : Pooling) → HasGoneQuietly s t p q → HasGoneQuietly t u q r
    → HasGoneQuietly s u p r
quiet_then s t u p q r first then =
    record {
      sender = then.sender ∙ first.sender;
      faults = then.faults ∙ first.faults;
      seats = then.seats ∙ first.seats;
      calls = then.calls ∙ first.calls;
      fallen = λ over. first.fallen (then.fallen over);
    }

-- it sent nothing, and rests
pub rest_sent : (t u : ClientConnectionState) (p q : Pooling) → HasGoneQuietly t u p q → IsAtRest u
    → HasSentInTurn t u p q
rest_sent t u p q quiet rests =
    let none : calls_open t.standing t.connected.waiting ≡ [] = sym quiet.calls ∙ rest_calls u rests in
    record {
      more = [];
      calls = [];
      unsent = [];
      sent = quiet.sender;
      waiting = rests.waiting ∙ ap (λ (cs : List Call). cs ++ []) (sym none);
      are_unsent = rest_unsent u rests;
      open_at = inr (quiet.seats ∙ sym (append-nil (seats_open t.standing t.ahead)));
    }

-- it sent nothing, and then this
pub sent_since : (s t u : ClientConnectionState) (p q r : Pooling) → HasGoneQuietly s t p q → HasSentInTurn t u q r
    → HasSentInTurn s u p r
sent_since s t u p q r quiet then =
    record {
      more = then.more;
      calls = then.calls;
      unsent = then.unsent;
      sent = subst (λ (x : CallSenderState). AreSentBy x then.more then.calls r.sender) quiet.sender then.sent;
      waiting = then.waiting ∙ ap (λ (cs : List Call). cs ++ (then.calls ++ then.unsent)) quiet.calls;
      are_unsent = then.are_unsent;
      open_at = by then.open_at;
    }
  where
    by : (u.standing ≡ Spent) ⊎ (seats_open u.standing u.ahead ≡ seats_open t.standing t.ahead ++ then.more)
        → (u.standing ≡ Spent) ⊎ (seats_open u.standing u.ahead ≡ seats_open s.standing s.ahead ++ then.more)
    by (inl over) = inl over
    by (inr now) = inr (now ∙ ap (λ (ss : List Submitting). ss ++ then.more) quiet.seats)

-- how many seats there are, by the answer that counts them
flight : Option ℕ → ℕ
flight None = 0
flight (Some n) = suc n

counted : (found : Option ℕ) (ss : List Submitting) → MatchOption found (ss ≡ []) (λ n. length ss ≡ suc n)
    → length ss ≡ flight found
unfolding flight
counted None ss e = ap length e
counted (Some n) ss e = e

-- it has as many seats as before, so nothing was sent
pub same_in_flight : (t u : ClientConnectionState) (p q : Pooling) (before after : Option ℕ) (s : Submitting)
    → HasSentInTurn t u p q
    → u.standing ≡ Sent s
    → MatchOption before (seats_open t.standing t.ahead ≡ []) (λ n. length (seats_open t.standing t.ahead) ≡ suc n)
    → MatchOption after (seats_open u.standing u.ahead ≡ []) (λ n. length (seats_open u.standing u.ahead) ≡ suc n)
    → after ≡ before
    → HasSentNothing p q
same_in_flight t u p q before after s sent e were are same = by sent.open_at
  where
    ss : List Submitting
    ss = seats_open t.standing t.ahead

    as_many : length (seats_open u.standing u.ahead) ≡ length ss
    as_many = counted after (seats_open u.standing u.ahead) are ∙ (ap flight same ∙ sym (counted before ss were))

    by : (u.standing ≡ Spent) ⊎ (seats_open u.standing u.ahead ≡ ss ++ sent.more) → HasSentNothing p q
    by (inl over) = let both : Sent s ≡ Spent = sym e ∙ over in absurd cc
    by (inr now) =
        let longer : length ss ≡ length ss + length sent.more =
        sym as_many ∙ (ap length now ∙ length-append ss sent.more) in
        sent_at_none p.sender q.sender sent.more sent.calls
        (none_of_length sent.more (omega (arith, longer))) sent.sent

-- what a goal of a client at rest may need
pub ruleset resting = (rests_idle, rests_reading)

-- what a goal on what was sent may need
pub ruleset sending =
    (gone_quietly, still_quiet, quiet_same, quiet_then, rest_sent, sent_since, sent_nothing, same_in_flight)
