-- What a pool's sender sends for a connection.
use Rattle.std.proofs.Common.{◌≡◌, ◌⊎◌, ◌≤◌, ◌∙◌, ℕ, [], ◌∷◌, ◌++◌, List, Some, inl, inr, refl, ap}
use Rattle.std.proofs.Common.{sym, subst, arith, Bool, true, false, append_assoc, append-nil, MatchBool, length}
use Rattle.std.proofs.Common.{Option, None, Result, Ok, Err, IfNone, IfOk, MatchOption, OnErr}
use Rattle.table.specs.declared.operations.Call.{Call}
use Rattle.faces.specs.Histories.{History, Instance}
use Rattle.proto.specs.Turns.{Outcome}
use Rattle.rail.specs.CallSenders.{CallSenderState, with_call}
use Rattle.serving.specs.Connections.{Connected, HasOutcome}
use Rattle.serving.specs.Serving.{CameTo}
use Rattle.serving.specs.declared.endings.ServeFault.{ServeFault}
use Rattle.serving.proofs.Served.{has_left}
use Rattle.seats.specs.Submitters.{Submitting}
use Rattle.seats.specs.ClientConnections.{AreSentBy, AreUnsent, ClientConnectionState, HasLostAhead, HasSentAhead}
use Rattle.seats.specs.ClientConnections.{HasSentInTurn, IsPeeked, StandsAt, calls_open, seats_open}
use Rattle.seats.specs.SeatPools.{HasSentNothing, Pooling, with_sent_call}
use Rattle.seats.specs.declared.client_connections.CallStanding.{CallStanding}
use Rattle.seats.specs.declared.client_connections.CallStanding.TheVariants.{Idle, Over, Reading, Sent, Unsent}
use Rattle.seats.specs.declared.client_connections.Pause.{Pause}
use Rattle.seats.specs.declared.client_connections.Pause.TheVariants.{Seat}

-- no call that was sent waits
abbrev pub HasNoneOpen : ClientConnectionState → Type 0
HasNoneOpen t = (calls_open t.standing t.connected.waiting ≡ []) × (seats_open t.standing t.ahead ≡ [])

pub none_if_idle : (t : ClientConnectionState) → t.standing ≡ Idle → HasNoneOpen t
none_if_idle t e = (ap (λ x. calls_open x t.connected.waiting) e, ap (λ x. seats_open x t.ahead) e)

pub none_if_unsent : (t : ClientConnectionState) (call : Call) → t.standing ≡ Unsent call → HasNoneOpen t
none_if_unsent t call e = (ap (λ x. calls_open x t.connected.waiting) e, ap (λ x. seats_open x t.ahead) e)

-- none waited for its reply, and nothing was sent: so it is now
pub none_sent : (t u : ClientConnectionState) (p q : Pooling) → HasNoneOpen t → HasSentNothing p q
    → AreUnsent u.standing u.connected.waiting
    → (u.standing ≡ Over) ⊎ (seats_open u.standing u.ahead ≡ [])
    → HasSentInTurn t u p q
none_sent t u p q none same are seats =
    record {
      more = [];
      calls = [];
      unsent = u.connected.waiting;
      sent = same;
      waiting = ap (λ cs. cs ++ u.connected.waiting) (sym none.0);
      are_unsent = are;
      open_at = by seats;
    }
  where
    by : (u.standing ≡ Over) ⊎ (seats_open u.standing u.ahead ≡ [])
        → (u.standing ≡ Over) ⊎ (seats_open u.standing u.ahead ≡ seats_open t.standing t.ahead ++ [])
    by (inl over) = inl over
    by (inr now) = inr (now ∙ ap (λ ss. ss ++ []) (sym none.1))

-- it is idle,
pub idle_sent : (t u : ClientConnectionState) (p q : Pooling) → HasNoneOpen t → HasSentNothing p q
    → u.standing ≡ Idle
    → u.connected.waiting ≡ []
    → HasSentInTurn t u p q
idle_sent t u p q none same e waits =
    none_sent t u p q none same (subst (λ x. AreUnsent x u.connected.waiting) (sym e) waits)
    (inr (ap (λ x. seats_open x u.ahead) e))

-- or wants input,
pub reading_sent : (t u : ClientConnectionState) (p q : Pooling) → HasNoneOpen t → HasSentNothing p q
    → u.standing ≡ Reading
    → u.connected.waiting ≡ []
    → HasSentInTurn t u p q
reading_sent t u p q none same e waits =
    none_sent t u p q none same (subst (λ x. AreUnsent x u.connected.waiting) (sym e) waits)
    (inr (ap (λ x. seats_open x u.ahead) e))

-- or a call waits for a seat,
pub unsent_sent : (t u : ClientConnectionState) (p q : Pooling) (call : Call) → HasNoneOpen t → HasSentNothing p q
    → u.standing ≡ Unsent call
    → u.connected.waiting ≡ call ∷ []
    → HasSentInTurn t u p q
unsent_sent t u p q call none same e waits =
    none_sent t u p q none same (subst (λ x. AreUnsent x u.connected.waiting) (sym e) waits)
    (inr (ap (λ x. seats_open x u.ahead) e))

-- or a fault came
pub over_sent : (t u : ClientConnectionState) (p q : Pooling) → HasNoneOpen t → HasSentNothing p q
    → u.standing ≡ Over
    → length u.connected.waiting ≤ 1
    → HasSentInTurn t u p q
over_sent t u p q none same e few =
    none_sent t u p q none same (subst (λ x. AreUnsent x u.connected.waiting) (sym e) few) (inl e)

-- nothing was sent, and then this
pub sent_from : (s t u : ClientConnectionState) (p q r : Pooling) → HasNoneOpen s → HasNoneOpen t
    → HasSentNothing p q
    → HasSentInTurn t u q r
    → HasSentInTurn s u p r
sent_from s t u p q r before none same then =
    record {
      more = then.more;
      calls = then.calls;
      unsent = then.unsent;
      sent = subst (λ (x : CallSenderState). AreSentBy x then.more then.calls r.sender) same then.sent;
      waiting = then.waiting ∙ ap (λ cs. cs ++ (then.calls ++ then.unsent)) (none.0 ∙ sym before.0);
      are_unsent = then.are_unsent;
      open_at = by then.open_at;
    }
  where
    by : (u.standing ≡ Over) ⊎ (seats_open u.standing u.ahead ≡ seats_open t.standing t.ahead ++ then.more)
        → (u.standing ≡ Over) ⊎ (seats_open u.standing u.ahead ≡ seats_open s.standing s.ahead ++ then.more)
    by (inl over) = inl over
    by (inr now) = inr (now ∙ ap (λ ss. ss ++ then.more) (none.1 ∙ sym before.1))

-- nothing was done while calls wait for their replies
pub sent_still_on : (t : ClientConnectionState) (p : Pooling) (s : Submitting) → t.standing ≡ Sent s
    → HasSentInTurn t t p p
sent_still_on t p s e =
    record {
      more = [];
      calls = [];
      unsent = [];
      sent = refl;
      waiting = sym (append-nil t.connected.waiting) ∙ ap (λ x. calls_open x t.connected.waiting ++ []) (sym e);
      are_unsent = subst (λ x. AreUnsent x []) (sym e) refl;
      open_at = inr (sym (append-nil (seats_open t.standing t.ahead)));
    }

-- nothing was done, wherever it stands
pub sent_still : (standing : CallStanding) (ahead : List Submitting) (c : Connected) (o : Instance)
    (t : ClientConnectionState) (p : Pooling)
    → t.standing ≡ standing
    → t.connected ≡ c
    → StandsAt standing ahead c o
    → HasSentInTurn t t p p
sent_still Idle ahead c o t p e same stands =
    idle_sent t t p p (none_if_idle t e) refl e (ap (λ x. x.waiting) same ∙ stands.0)
sent_still Reading ahead c o t p e same stands =
    reading_sent t t p p
    (ap (λ x. calls_open x t.connected.waiting) e, ap (λ x. seats_open x t.ahead) e) refl e
    (ap (λ x. x.waiting) same ∙ stands.0.0.waiting)
sent_still (Unsent call) ahead c o t p e same stands =
    unsent_sent t t p p call (none_if_unsent t call e) refl e (ap (λ x. x.waiting) same ∙ stands.0)
sent_still (Sent s) ahead c o t p e same stands = sent_still_on t p s e
sent_still Over ahead c o t p e same stands =
    record {
      more = [];
      calls = [];
      unsent = [];
      sent = refl;
      waiting = sym (append-nil t.connected.waiting) ∙ ap (λ x. calls_open x t.connected.waiting ++ []) (sym e);
      are_unsent = subst (λ x. AreUnsent x []) (sym e) (omega arith);
      open_at = inl e;
    }

-- the call was sent at this seat, and none was sent ahead
pub sent_one : (t u : ClientConnectionState) (p q r : Pooling) (s x : Submitting) (call : Call) → HasNoneOpen t
    → HasSentNothing p q
    → u.standing ≡ Sent x
    → u.ahead ≡ []
    → u.connected.waiting ≡ call ∷ []
    → x ≡ record s { waiting = Some (record { sender = q.sender; call = call }) }
    → r ≡ with_sent_call q s.seat.port call
    → HasSentInTurn t u p r
sent_one t u p q r s x call none same e alone waits shown sent =
    record {
      more = x ∷ [];
      calls = call ∷ [];
      unsent = [];
      sent = subst (λ (y : CallSenderState). AreSentBy y (x ∷ []) (call ∷ []) r.sender) same (
        ap (λ (y : Submitting). y.waiting) shown,
        ap (λ (y : Pooling). y.sender) sent
            ∙ ap (λ (port : ℕ). with_call q.sender port call) (sym (ap (λ (y : Submitting). y.seat.port) shown)),
      );
      waiting = waits ∙ ap (λ cs. cs ++ call ∷ []) (sym none.0);
      are_unsent = subst (λ y. AreUnsent y []) (sym e) refl;
      open_at = inr (ap (λ y. seats_open y u.ahead) e ∙ (ap (λ (a : List Submitting). x ∷ a) alone
          ∙ ap (λ ss. ss ++ x ∷ []) (sym none.1)));
    }

-- the same, one list after the other
sent_both : (x y z : CallSenderState) (ss ts : List Submitting) (cs ds : List Call) → AreSentBy x ss cs y
    → AreSentBy y ts ds z
    → AreSentBy x (ss ++ ts) (cs ++ ds) z
sent_both x y z [] ts [] ds a b = subst (λ (w : CallSenderState). AreSentBy w ts ds z) a b
sent_both x y z [] ts (c ∷ cs) ds a b = absurd a
sent_both x y z (s ∷ ss) ts [] ds a b = absurd a
sent_both x y z (s ∷ ss) ts (c ∷ cs) ds a b = (a.0, sent_both (with_call x s.seat.port c) y z ss ts cs ds a.1 b)

-- it stands at a sent call, so it goes on
pub not_over : (standing : CallStanding) (s : Submitting) → standing ≡ Sent s → standing ≡ Over → ⊥
not_over standing s e over = let both : Sent s ≡ Over = sym e ∙ over in absurd cc

-- what is open was sent in turn, and then more was
pub sent_then : (s t u : ClientConnectionState) (p q r : Pooling) (x : Submitting) → t.standing ≡ Sent x
    → HasSentInTurn s t p q
    → HasSentInTurn t u q r
    → HasSentInTurn s u p r
sent_then s t u p q r x e first then =
    record {
      more = first.more ++ then.more;
      calls = first.calls ++ then.calls;
      unsent = then.unsent;
      sent = sent_both p.sender q.sender r.sender first.more then.more first.calls then.calls first.sent then.sent;
      waiting = then.waiting ∙ (ap (λ y. calls_open y t.connected.waiting ++ (then.calls ++ then.unsent)) e
          ∙ (ap (λ cs. cs ++ (then.calls ++ then.unsent)) waited ∙ joined));
      are_unsent = then.are_unsent;
      open_at = by first.open_at then.open_at;
    }
  where
    were : List Call
    were = calls_open s.standing s.connected.waiting

    none : first.unsent ≡ []
    none = subst (λ y. AreUnsent y first.unsent) e first.are_unsent

    waited : t.connected.waiting ≡ were ++ first.calls
    waited = first.waiting ∙ ap (λ cs. were ++ cs)
        (ap (λ cs. first.calls ++ cs) none ∙ append-nil first.calls)

    joined : (were ++ first.calls) ++ (then.calls ++ then.unsent)
        ≡ were ++ ((first.calls ++ then.calls) ++ then.unsent)
    joined = append_assoc were first.calls (then.calls ++ then.unsent)
        ∙ ap (λ cs. were ++ cs) (sym (append_assoc first.calls then.calls then.unsent))

    by : (t.standing ≡ Over) ⊎ (seats_open t.standing t.ahead ≡ seats_open s.standing s.ahead ++ first.more)
        → (u.standing ≡ Over) ⊎ (seats_open u.standing u.ahead ≡ seats_open t.standing t.ahead ++ then.more)
        → (u.standing ≡ Over)
        ⊎ (seats_open u.standing u.ahead ≡ seats_open s.standing s.ahead ++ (first.more ++ then.more))
    by (inl over) now = absurd (not_over t.standing x e over)
    by (inr was) (inl over) = inl over
    by (inr was) (inr now) =
        inr (now ∙ (ap (λ (xs : List Submitting). xs ++ then.more) was
        ∙ append_assoc (seats_open s.standing s.ahead) first.more then.more))

-- one more update was sent ahead, or none
pub sent_ahead : (b : Bool) (t u : ClientConnectionState) (c d : Connected) (ahead longer : List Submitting)
    (p q : Pooling) (s : Submitting)
    → t.standing ≡ Sent s → u.standing ≡ t.standing → t.connected ≡ c → u.connected ≡ d → t.ahead ≡ ahead
    → u.ahead ≡ longer
    → MatchBool b (HasSentAhead p q c d ahead longer)
    ((d ≡ record c { failed = d.failed }) × (longer ≡ ahead) × HasSentNothing p q)
    → HasSentInTurn t u p q
sent_ahead true t u c d ahead longer p q s e same from to was is has =
    record {
      more = has.s ∷ [];
      calls = has.call ∷ [];
      unsent = [];
      sent = (has.waiting, has.sent);
      waiting = ap (λ x. x.waiting) (to ∙ has.waits) ∙ (ap (λ x. x.waiting ++ has.call ∷ []) (sym from)
          ∙ ap (λ x. calls_open x t.connected.waiting ++ has.call ∷ []) (sym e));
      are_unsent = subst (λ x. AreUnsent x []) (sym (same ∙ e)) refl;
      open_at = inr (ap (λ x. seats_open x u.ahead) (same ∙ e)
          ∙ (ap (λ (a : List Submitting). s ∷ a)
          (is ∙ (has.seats ∙ ap (λ (a : List Submitting). a ++ has.s ∷ []) (sym was)))
          ∙ ap (λ x. seats_open x t.ahead ++ has.s ∷ []) (sym e)));
    }
sent_ahead false t u c d ahead longer p q s e same from to was is has =
    record {
      more = [];
      calls = [];
      unsent = [];
      sent = has.2;
      waiting = ap (λ x. x.waiting) (to ∙ has.0) ∙ (ap (λ x. x.waiting) (sym from)
          ∙ (sym (append-nil t.connected.waiting)
          ∙ ap (λ x. calls_open x t.connected.waiting ++ []) (sym e)));
      are_unsent = subst (λ x. AreUnsent x []) (sym (same ∙ e)) refl;
      open_at = inr (ap (λ x. seats_open x u.ahead) same
          ∙ (ap (λ (a : List Submitting). seats_open t.standing a) (is ∙ (has.1 ∙ sym was))
          ∙ sym (append-nil (seats_open t.standing t.ahead))));
    }

-- it couldn't be sent
pub lost_ahead : (t u : ClientConnectionState) (c d : Connected) (p q : Pooling) (s : Submitting)
    → t.standing ≡ Sent s → u.standing ≡ Over → t.connected ≡ c → u.connected ≡ d
    → HasLostAhead c d
    → HasSentNothing p q
    → HasSentInTurn t u p q
lost_ahead t u c d p q s e over from to lost same =
    record {
      more = [];
      calls = [];
      unsent = lost.0 ∷ [];
      sent = same;
      waiting = ap (λ x. x.waiting) (to ∙ lost.1) ∙ (ap (λ x. x.waiting ++ lost.0 ∷ []) (sym from)
          ∙ ap (λ x. calls_open x t.connected.waiting ++ lost.0 ∷ []) (sym e));
      are_unsent = subst (λ x. AreUnsent x (lost.0 ∷ [])) (sym over) (omega arith);
      open_at = inl over;
    }

-- A call was asked for: it came to something at once, or it waits for a seat, or there was a fault.
module _ (r : Result (Option Pause) ServeFault) (d e : Connected) (next : CallStanding) (seen then : History)
    (call : Call) (waits : d.waiting ≡ call ∷ [])
    (ok : IfOk r (λ found. MatchOption found
    ((outcome : Outcome) × CameTo IsPeeked seen call outcome then × HasOutcome outcome d e × (next ≡ Idle))
    (λ went. (went ≡ Seat) × (next ≡ Unsent call) × (e ≡ d) × (then ≡ seen))))
    (err : OnErr r ((next ≡ Over) × (then ≡ seen) × (e ≡ record d { failed = e.failed }))) where
  pub asked_sent : (t u : ClientConnectionState) (p q : Pooling) → HasNoneOpen t → HasSentNothing p q
      → u.connected ≡ e
      → u.standing ≡ next
      → HasSentInTurn t u p q
  asked_sent t u p q none same to stands = by r ok err
    where
      by : (s : Result (Option Pause) ServeFault)
          → IfOk s (λ found. MatchOption found
          ((outcome : Outcome) × CameTo IsPeeked seen call outcome then × HasOutcome outcome d e × (next ≡ Idle))
          (λ went. (went ≡ Seat) × (next ≡ Unsent call) × (e ≡ d) × (then ≡ seen)))
          → OnErr s ((next ≡ Over) × (then ≡ seen) × (e ≡ record d { failed = e.failed }))
          → HasSentInTurn t u p q
      by (Ok None) a b =
          idle_sent t u p q none same (stands ∙ a.3)
          (ap (λ (c : Connected). c.waiting) to ∙ has_left d e call [] a.0 waits a.2)
      by (Ok (Some went)) a b =
          unsent_sent t u p q call none same (stands ∙ a.1)
          (ap (λ (c : Connected). c.waiting) to ∙ (ap (λ (c : Connected). c.waiting) a.2 ∙ waits))
      by (Err fault) a b =
          over_sent t u p q none same (stands ∙ b.0)
          (omega (
            arith,
            ap (λ (c : Connected). length c.waiting) to,
            ap (λ (c : Connected). length c.waiting) b.2,
            ap (λ (cs : List Call). length cs) waits,
          ))

  pub asked_rests : IfOk r (λ found. IfNone found (e.waiting ≡ []))
  asked_rests = by r ok
    where
      by : (s : Result (Option Pause) ServeFault)
          → IfOk s (λ found. MatchOption found
          ((outcome : Outcome) × CameTo IsPeeked seen call outcome then × HasOutcome outcome d e × (next ≡ Idle))
          (λ went. (went ≡ Seat) × (next ≡ Unsent call) × (e ≡ d) × (then ≡ seen)))
          → IfOk s (λ found. IfNone found (e.waiting ≡ []))
      by (Ok None) a = has_left d e call [] a.0 waits a.2
      by (Ok (Some went)) a = tt
      by (Err fault) a = tt
