-- A connection at its position: what it has begun, has answered and has been sent are its stream's turns.
use Rattle.std.proofs.Common.{◌≡◌, ℕ, zero, suc, ◌+◌, ◌<◌, Bool, true, false, List, [], ◌∷◌, ◌++◌, length, take, drop}
use Rattle.std.proofs.Common.{Option, None, Some, refl, sym, ap, ◌∙◌, arith, append_assoc, append-nil, length-append}
use Rattle.std.proofs.lemmas.Bool.{cond_both}
use Rattle.std.proofs.Math.Seq.{take-append_seam, drop-append_seam}
use Rattle.table.specs.declared.operations.Call.{Call}
use Rattle.table.specs.declared.operations.Reply.{Reply}
use Rattle.proto.specs.declared.requests.Fault.{Fault}
use Rattle.proto.specs.declared.texts.Form.{Form}
use Rattle.proto.specs.Turns.{Turn, Faulty, Calls, fault_text, text}
use Rattle.proto.specs.Sessions.{Held, Given, fed, next_of, answered_by}
use Rattle.proto.specs.Streams.{turns, texts, ends, to_come, will_close, most_faults, GivesFirst, KeepsEnd, SameToCome}
use Rattle.world.specs.declared.connections.Stage.{Stage}
use Rattle.world.specs.declared.connections.Stage.TheVariants.{Idle, Begun, Asked, Replied}
use Rattle.world.specs.Connections.{Connection, came, behind, past_faults_upto, begun_by, begun, open_call, may_have}
use Rattle.world.specs.Connections.{asked, replied, handed}
use Rattle.world.specs.Sent.{StreamPosition, faults_next, on_piece, on_begin, on_hand, sent_bytes, calls_of}
use Rattle.world.proofs.positions.FaultLaws.{FaultsTakeBytes}
use Rattle.world.proofs.positions.TurnLists.{calls_of_more, texts_fault, texts_call, Writes, next_writes, fed_closed}
use Rattle.world.proofs.positions.TurnLists.{fed_out, fed_asked, answered_out, answered_to_come}
use Rattle.proto.proofs.StreamLaws.{fed_none, fed_twice}

-- what is known of sessions: each step gives the first of the turns that are to come, and leaves the end of the stream
-- where it is; so does an answer
pub record SessionLaws : Type 0 where
  pub first : (h : Held) → GivesFirst h (next_of h).0 (next_of h).1
  pub keeps : (h : Held) → KeepsEnd h (next_of h).0 (next_of h).1
  pub answers : (h : Held) (reply : Reply) → SameToCome h (answered_by h.asked h reply)

-- the open call is this one turn
abbrev pub IsOpenTurn : Option Form → List Turn → Type 0
IsOpenTurn asked ts = (call : Call) × (form : Form) × (ts ≡ Calls call form ∷ []) × (asked ≡ Some form)

-- the open turns at a stage: none if no call is open, and otherwise one
abbrev pub IsOpen : Stage → Option Form → List Turn → Type 0
IsOpen Idle asked ts = ts ≡ []
IsOpen Begun asked ts = IsOpenTurn asked ts
IsOpen Asked asked ts = IsOpenTurn asked ts
IsOpen (Replied reply) asked ts = IsOpenTurn asked ts

-- a connection at its position: the turns that are past, the open one, and those to come
pub record Along (k : Connection) (m : StreamPosition) : Type 0 where
  pub past : List Turn
  pub open_turn : List Turn
  pub ordinal : length past ≡ m.ordinal
  pub said : k.session.out ≡ texts past k.replies
  pub answered : length k.replies ≡ length (calls_of past)
  pub called : k.calls ≡ calls_of past ++ calls_of open_turn
  pub opened : IsOpen k.stage k.session.asked open_turn
  pub split : (more : List ℕ) → turns (m.stream ++ more) ≡ past ++ (open_turn ++ to_come (fed k.session more))
  pub end : (more : List ℕ) → will_close (fed k.session more) ≡ ends (m.stream ++ more)

-- a piece keeps a connection at its position
pub along_piece : (bytes : List ℕ) (k : Connection) (m : StreamPosition)
    → Along k m
    → Along (came bytes k) (on_piece bytes k.session.closed m)
along_piece bytes k m a = by_closed k.session.closed refl
  where
    by_closed : (b : Bool) → k.session.closed ≡ b → Along (came bytes k) (on_piece bytes b m)
    by_closed true e = rw (fed_closed k.session bytes e) a
    by_closed false e = record {
      past = a.past;
      open_turn = a.open_turn;
      ordinal = a.ordinal;
      said = fed_out k.session bytes ∙ a.said;
      answered = a.answered;
      called = a.called;
      opened = rw (fed_asked k.session bytes) a.opened;
      split = λ more. rw (append_assoc m.stream bytes more, fed_twice k.session bytes more) (a.split (bytes ++ more));
      end = λ more. rw (append_assoc m.stream bytes more, fed_twice k.session bytes more) (a.end (bytes ++ more));
    }

-- what stands open after a step
abbrev Opens : Given → List Turn → Type 0
Opens (None, left) ts = ts ≡ []
Opens (Some (Faulty fault), left) ts = ts ≡ []
Opens (Some (Calls call form), left) ts = (ts ≡ Calls call form ∷ []) × (left.asked ≡ Some form)

-- faults were passed, and then came this step
record Passed (stream : List ℕ) (rs : List Reply) (before : List Turn) (count : ℕ) (r : Given) : Type 0 where
  past : List Turn
  open_turn : List Turn
  ordinal : length past ≡ length before + count
  said : r.1.out ≡ texts past rs
  same : calls_of past ≡ calls_of before
  opened : Opens r open_turn
  split : (more : List ℕ) → turns (stream ++ more) ≡ past ++ (open_turn ++ to_come (fed r.1 more))

-- the turns of a stream are those before, and those that a session has still to give
abbrev Splits : List ℕ → List Turn → Held → Type 0
Splits stream before h = (more : List ℕ) → turns (stream ++ more) ≡ before ++ to_come (fed h more)

-- what is to come begins with the turn that was given
given_first : (h left : Held) (turn : Turn) → GivesFirst h (Some turn) left → to_come h ≡ turn ∷ to_come left
given_first h left turn first =
    ap to_come (sym (fed_none h)) ∙ first.first [] ∙ ap (λ l. turn ∷ to_come l) (fed_none left)

more_calls : (fault : Fault) (before : List Turn) → calls_of (before ++ Faulty fault ∷ []) ≡ calls_of before
more_calls fault before = calls_of_more before (Faulty fault ∷ []) ∙ append-nil (calls_of before)

by_turn : (stream : List ℕ) (rs : List Reply) (before : List Turn) (h : Held) (r later : Given)
    → GivesFirst h r.0 r.1
    → Writes h.out r
    → ((fault : Fault) → r.0 ≡ Some (Faulty fault) → most_faults r.1 < most_faults h)
    → h.out ≡ texts before rs → length rs ≡ length (calls_of before) → Splits stream before h
    → ((past : List Turn) → most_faults r.1 < most_faults h → r.1.out ≡ texts past rs → length rs
    ≡ length (calls_of past) → Splits stream past r.1 → Passed stream rs past (faults_next (to_come r.1)) later)
    → Passed stream rs before (faults_next (to_come h)) (behind r later)
by_turn stream rs before h (None, left) later first writes shorter said answered split ih = record {
  past = before;
  open_turn = [];
  ordinal = rw (first.none refl) (omega arith);
  said = writes ∙ said;
  same = refl;
  opened = refl;
  split = λ more. split more ∙ ap (λ ts. before ++ ts) (first.first more);
}
by_turn stream rs before h (Some (Faulty fault), left) later first writes shorter said answered split ih =
    let calls = more_calls fault before in
    let further = ih (before ++ Faulty fault ∷ []) (shorter fault refl)
    (writes ∙ ap (λ out. out ++ fault_text fault) said ∙ sym (texts_fault fault before rs answered))
    (answered ∙ ap length (sym calls))
    (λ more. rw (append_assoc before (Faulty fault ∷ []) (to_come (fed left more)))
    (split more ∙ ap (λ ts. before ++ ts) (first.first more))) in
    record {
      past = further.past;
      open_turn = further.open_turn;
      ordinal = rw (given_first h left (Faulty fault) first)
          (omega (arith, further.ordinal, length-append before (Faulty fault ∷ [])));
      said = further.said;
      same = further.same ∙ calls;
      opened = further.opened;
      split = further.split;
    }
by_turn stream rs before h (Some (Calls call form), left) later first writes shorter said answered split ih = record {
  past = before;
  open_turn = Calls call form ∷ [];
  ordinal = rw (given_first h left (Calls call form) first) (omega arith);
  said = writes.0 ∙ said;
  same = refl;
  opened = (refl, writes.1);
  split = λ more. split more ∙ ap (λ ts. before ++ ts) (first.first more);
}

passed : SessionLaws
    → FaultsTakeBytes
    → (stream : List ℕ) (rs : List Reply) (n : ℕ) (before : List Turn) (h : Held)
    → most_faults h < n
    → h.out ≡ texts before rs
    → length rs ≡ length (calls_of before)
    → Splits stream before h
    → Passed stream rs before (faults_next (to_come h)) (past_faults_upto n h)
passed law takes stream rs zero before h enough said answered split = absurd (omega arith)
passed law takes stream rs (suc n) before h enough said answered split =
    by_turn stream rs before h (next_of h) (past_faults_upto n (next_of h).1) (law.first h) (next_writes h) (takes h)
    said answered split
    (λ past shorter said2 answered2 split2. passed law takes stream rs n past (next_of h).1 (omega arith) said2
    answered2 split2)

-- the faults that are passed leave the end where it is
passed_end : SessionLaws → (n : ℕ) (h : Held) (more : List ℕ)
    → will_close (fed (past_faults_upto n h).1 more) ≡ will_close (fed h more)
passed_end law zero h more = refl
passed_end law (suc n) h more =
    by_given (next_of h) (sym ((law.keeps h).kept more)) (passed_end law n (next_of h).1 more)
  where
    by_given : (r : Given)
        → will_close (fed r.1 more) ≡ will_close (fed h more)
        → will_close (fed (past_faults_upto n r.1).1 more) ≡ will_close (fed r.1 more)
        → will_close (fed (behind r (past_faults_upto n r.1)).1 more) ≡ will_close (fed h more)
    by_given (None, left) here later = here
    by_given (Some (Faulty fault), left) here later = later ∙ here
    by_given (Some (Calls call form), left) here later = here

by_step : (m : StreamPosition) (k : Connection) (before : List Turn) (r : Given)
    → ((more : List ℕ) → will_close (fed r.1 more) ≡ ends (m.stream ++ more))
    → k.stage ≡ Idle
    → Passed m.stream k.replies before (faults_next (drop m.ordinal (turns m.stream))) r
    → length before ≡ m.ordinal
    → length k.replies ≡ length (calls_of before)
    → k.calls ≡ calls_of before
    → Along (begun_by r k) (on_begin Idle m)
by_step m k before (None, left) end e p is answered called = record {
  past = p.past;
  open_turn = p.open_turn;
  ordinal = omega (arith, p.ordinal);
  said = p.said;
  answered = answered ∙ ap length (sym p.same);
  called = rw (p.opened, p.same) (called ∙ sym (append-nil (calls_of before)));
  opened = rw e p.opened;
  split = p.split;
  end = end;
}
by_step m k before (Some (Faulty fault), left) end e p is answered called = record {
  past = p.past;
  open_turn = p.open_turn;
  ordinal = omega (arith, p.ordinal);
  said = p.said;
  answered = answered ∙ ap length (sym p.same);
  called = rw (p.opened, p.same) (called ∙ sym (append-nil (calls_of before)));
  opened = rw e p.opened;
  split = p.split;
  end = end;
}
by_step m k before (Some (Calls call form), left) end e p is answered called = record {
  past = p.past;
  open_turn = p.open_turn;
  ordinal = omega (arith, p.ordinal);
  said = p.said;
  answered = answered ∙ ap length (sym p.same);
  called = rw (p.opened.0, p.same) (ap (λ calls. calls ++ call ∷ []) called);
  opened = (call, form, p.opened.0, p.opened.1);
  split = p.split;
  end = end;
}

-- a begin keeps a connection at its position
pub along_begin : SessionLaws
    → FaultsTakeBytes
    → (s : Stage) (k : Connection) (m : StreamPosition)
    → k.stage ≡ s
    → Along k m
    → Along (begun s k) (on_begin s m)
along_begin law takes Idle k m e a =
    let none : a.open_turn ≡ [] = rw e at a.opened in
    let split : Splits m.stream a.past k.session =
    λ more. a.split more ∙ ap (λ ts. a.past ++ (ts ++ to_come (fed k.session more))) none in
    let whole : turns m.stream ≡ a.past ++ to_come k.session =
    ap turns (sym (append-nil m.stream)) ∙ split [] ∙ ap (λ h. a.past ++ to_come h) (fed_none k.session) in
    let ahead : drop m.ordinal (turns m.stream) ≡ to_come k.session =
    rw (← a.ordinal, whole) (drop-append_seam a.past (to_come k.session)) in
    let called : k.calls ≡ calls_of a.past =
    a.called ∙ ap (λ ts. calls_of a.past ++ calls_of ts) none ∙ append-nil (calls_of a.past) in
    let end = λ (more : List ℕ). passed_end law (suc (most_faults k.session)) k.session more ∙ a.end more in
    by_step m k a.past _ end e
    (rw ahead (passed law takes m.stream k.replies (suc (most_faults k.session)) a.past k.session (omega arith)
    a.said a.answered split)) a.ordinal a.answered called
along_begin law takes Begun k m e a = a
along_begin law takes Asked k m e a = a
along_begin law takes (Replied reply) k m e a = a

-- the open call is answered
along_answer : SessionLaws
    → (reply : Reply) (call : Call) (form : Form) (k : Connection) (m : StreamPosition) (a : Along k m)
    → a.open_turn ≡ Calls call form ∷ []
    → k.session.asked ≡ Some form
    → Along (handed (Replied reply) k) (on_hand (Replied reply) m)
along_answer law reply call form k m a one asked =
    let calls : calls_of (a.past ++ Calls call form ∷ []) ≡ calls_of a.past ++ call ∷ [] =
    calls_of_more a.past (Calls call form ∷ []) in
    record {
      past = a.past ++ Calls call form ∷ [];
      open_turn = [];
      ordinal = rw length-append (omega (arith, a.ordinal));
      said = answered_out k.session.asked form k.session reply asked ∙ ap (λ out. out ++ text form reply) a.said
          ∙ sym (texts_call call form reply a.past k.replies a.answered);
      answered = length-append k.replies (reply ∷ []) ∙ ap (λ n. n + 1) a.answered
          ∙ sym (length-append (calls_of a.past) (call ∷ [])) ∙ ap length (sym calls);
      called = a.called ∙ ap (λ ts. calls_of a.past ++ calls_of ts) one ∙ sym calls
          ∙ sym (append-nil (calls_of (a.past ++ Calls call form ∷ [])));
      opened = refl;
      split = λ more. rw (
        answered_to_come k.session.asked k.session reply more,
        append_assoc a.past (Calls call form ∷ []) (to_come (fed k.session more)),
      )
          (a.split more ∙ ap (λ ts. a.past ++ (ts ++ to_come (fed k.session more))) one);
      end = λ more. (law.answers k.session reply).end more ∙ a.end more;
    }

-- a hand keeps a connection at its position
pub along_hand : SessionLaws
    → (s : Stage) (k : Connection) (m : StreamPosition)
    → k.stage ≡ s
    → Along k m
    → Along (handed s k) (on_hand s m)
along_hand law Idle k m e a = a
along_hand law Begun k m e a = a
along_hand law Asked k m e a = a
along_hand law (Replied reply) k m e a =
    let o : IsOpenTurn k.session.asked a.open_turn = rw e at a.opened in
    along_answer law reply o.0 o.1 k m a o.2 o.3

-- another stage in which the same turn is open
along_stage : (stage : Stage) (k : Connection) (m : StreamPosition) (a : Along k m)
    → IsOpen stage k.session.asked a.open_turn
    → Along (record k { stage = stage }) m
along_stage stage k m a o =
    record {
      past = a.past;
      open_turn = a.open_turn;
      ordinal = a.ordinal;
      said = a.said;
      answered = a.answered;
      called = a.called;
      opened = o;
      split = a.split;
      end = a.end;
    }

-- a call that goes to its server leaves the connection where it is at its position
pub along_asked : (k : Connection) (m : StreamPosition) → k.stage ≡ Begun → Along k m → Along (asked k) m
along_asked k m e a = along_stage Asked k m a (rw e at a.opened)

-- a reply that waits leaves the connection where it is at its position
pub along_replied : (reply : Reply) (s : Stage) (k : Connection) (m : StreamPosition)
    → k.stage ≡ s
    → Along k m
    → Along (replied s reply k) m
along_replied reply Idle k m e a = a
along_replied reply Begun k m e a = a
along_replied reply Asked k m e a = cond_both (may_have (open_call k) reply) (record k { stage = Replied reply }) k
    (λ x. Along x m) (λ t. along_stage (Replied reply) k m a (rw e at a.opened)) (λ t. a)
along_replied reply (Replied first) k m e a = a

-- the turns of the stream are the past ones, and then the others
pub whole_of : (k : Connection) (m : StreamPosition) (a : Along k m)
    → turns m.stream ≡ a.past ++ (a.open_turn ++ to_come (fed k.session []))
whole_of k m a = ap turns (sym (append-nil m.stream)) ∙ a.split []

-- the past turns are those of the stream up to the ordinal
pub past_of : (k : Connection) (m : StreamPosition) (a : Along k m) → take m.ordinal (turns m.stream) ≡ a.past
past_of k m a = rw (← a.ordinal, whole_of k m a) (take-append_seam a.past _)

-- a connection at its position was sent the texts of the past turns
pub sent_along : (k : Connection) (m : StreamPosition) → Along k m → k.session.out ≡ sent_bytes m k.replies
sent_along k m a = rw (past_of k m a) a.said

-- a connection at its position has as many replies as calls are among the past turns
pub answered_along : (k : Connection) (m : StreamPosition)
    → Along k m
    → length k.replies ≡ length (calls_of (take m.ordinal (turns m.stream)))
answered_along k m a = rw (past_of k m a) a.answered

-- the begun calls of a connection at its position are the first of the stream's turns
pub begun_along : (k : Connection) (m : StreamPosition)
    → Along k m
    → k.calls ≡ take (length k.calls) (calls_of (turns m.stream))
begun_along k m a =
    let later : List Turn = to_come (fed k.session []) in
    let calls : calls_of (turns m.stream) ≡ k.calls ++ calls_of later =
    ap calls_of (whole_of k m a ∙ sym (append_assoc a.past a.open_turn later))
    ∙ calls_of_more (a.past ++ a.open_turn) later
    ∙ ap (λ cs. cs ++ calls_of later) (calls_of_more a.past a.open_turn ∙ sym a.called) in
    rw calls (sym (take-append_seam k.calls (calls_of later)))
