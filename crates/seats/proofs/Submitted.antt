-- Calls at a seat, one stage after another.
use Rattle.std.proofs.Common.{◌≡◌, ◌∙◌, ◌∷◌, ◌++◌, [], List, Bool, true, false, not, if◌then◌else◌, Option, Some, None}
use Rattle.std.proofs.Common.{IsSome, length, suc, refl, ap, sym, subst}
use Rattle.table.specs.Operations.{is_update, is_value}
use Rattle.table.specs.declared.operations.Call.{Call}
use Rattle.table.specs.declared.operations.Reply.{Reply}
use Rattle.node.specs.declared.messages.Output.TheVariants.{Reply as Replied}
use Rattle.faces.specs.Histories.{History, IsLater}
use Rattle.faces.specs.Outputs.{PutsOut}
use Rattle.rail.specs.CallSenders.{CallSenderState, SentCall}
use Rattle.rail.specs.Seats.{SeatState, with_reply, with_sent}
use Rattle.seats.specs.Replies.{HasAllReplies, IsSubmitted}
use Rattle.seats.specs.Submitters.{Submitting, IsAnswered, IsLastCall, IsOpen, IsReplyAt, all_sent, last_sent}
use Rattle.seats.specs.Submitters.{open_at, stage_of, submitting, unused, without_last}
use Rattle.seats.specs.declared.submitters.SubmitterStage.{SubmitterStage}
use Rattle.seats.specs.declared.submitters.SubmitterStage.TheVariants.{Free, Read, Update, Lost}

-- the last call
last_of : (e : SentCall) (es : List SentCall) → last_sent (es ++ e ∷ []) ≡ Some e
last_of e [] = refl
last_of e (f ∷ []) = refl
last_of e (f ∷ (h ∷ es)) = last_of e (h ∷ es)

-- and the others
without : (e : SentCall) (es : List SentCall) → without_last (es ++ e ∷ []) ≡ es
without e [] = refl
without e (f ∷ []) = refl
without e (f ∷ (h ∷ es)) = ap (λ w. f ∷ w) (without e (h ∷ es))

-- a seat with this open call
abbrev opened : SeatState → List SentCall → Option SentCall → Submitting
opened seat es sent = record { seat = record seat { calls = es }; waiting = sent; lost = false }

-- a seat at which this call was sent last
pub opened_at : (seat : SeatState) (es : List SentCall) (sent : SentCall)
    → seat.calls ≡ es ++ sent ∷ []
    → open_at seat ≡ record { seat = record seat { calls = es }; waiting = Some sent; lost = false }
opened_at seat es sent calls =
    let before : without_last seat.calls ≡ es = ap without_last calls ∙ without sent es in
    let last : last_sent seat.calls ≡ Some sent = ap last_sent calls ∙ last_of sent es in
    ap (λ bs. opened seat bs (last_sent seat.calls)) before ∙ ap (λ o. opened seat es o) last

-- a call that is open isn't none
not_none : {P : Type 0} (seat : SeatState) (u : Bool) → IsLastCall seat u → (open_at seat).waiting ≡ None → P
not_none seat u l e =
    let is : (open_at seat).waiting ≡ Some l.sent = ap (λ s. s.waiting) (opened_at seat l.before l.sent l.calls) in
    let no : Some l.sent ≡ None = sym is ∙ e in
    absurd (cc)

opens_as : (seat : SeatState) (sender : CallSenderState) (call : Call) (u : Bool) → is_update call.op ≡ u
    → seat.instance ≡ sender.instance
    → HasAllReplies seat
    → IsOpen (if u then Update else Read) (with_sent seat sender call)
opens_as seat sender call true e server all =
    record {
      before = seat.calls;
      sent = record { sender = sender; call = call };
      calls = refl;
      kind = e;
      server = sym server;
      replied = all;
    }
opens_as seat sender call false e server all =
    record {
      before = seat.calls;
      sent = record { sender = sender; call = call };
      calls = refl;
      kind = e;
      server = sym server;
      replied = all;
    }

-- a call that was sent is open
pub opens : (seat : SeatState) (sender : CallSenderState) (call : Call) → seat.instance ≡ sender.instance
    → HasAllReplies seat
    → IsOpen (stage_of call) (with_sent seat sender call)
opens seat sender call server all = opens_as seat sender call (is_update call.op) refl server all

-- a seat at which none is open has all replies
replied_free : (stage : SubmitterStage) (seat : SeatState) → IsOpen stage seat → (submitting stage seat).waiting ≡ None
    → (stage ≡ Lost → ⊥)
    → HasAllReplies seat
replied_free Free seat is free unlost = is
replied_free Read seat is free unlost = not_none seat false is free
replied_free Update seat is free unlost = not_none seat true is free
replied_free Lost seat is free unlost = absurd (unlost refl)

-- one more
one_longer : {A : Type 0} (xs : List A) (x : A) → length (xs ++ x ∷ []) ≡ suc (length xs)
one_longer [] x = refl
one_longer (y ∷ xs) x = ap suc (one_longer xs x)

-- and so has one that took the reply to its open call
replied_last : (seat : SeatState) (reply : Reply) (told : History) (u : Bool) → IsLastCall seat u
    → HasAllReplies (with_reply seat reply told)
replied_last seat reply told u l =
    ap (λ (es : List SentCall). length es) l.calls ∙ (one_longer l.before l.sent
    ∙ (ap suc l.replied ∙ sym (one_longer seat.got (record { port = seat.port; reply = reply; told = told }))))

at_stage : (seat : SeatState) (u : Bool) → submitting (if u then Update else Read) seat ≡ open_at seat
at_stage seat true = refl
at_stage seat false = refl

-- and shows so
pub sent_now : (stage : SubmitterStage) (seat : SeatState) (sender : CallSenderState) (call : Call) → IsOpen stage seat
    → (submitting stage seat).waiting ≡ None
    → (submitting stage seat).lost ≡ false
    → submitting (stage_of call) (with_sent seat sender call)
    ≡ record (submitting stage seat) { waiting = Some (record { sender = sender; call = call }) }
sent_now Free seat sender call is free unlost =
    at_stage (with_sent seat sender call) (is_update call.op)
    ∙ opened_at (with_sent seat sender call) seat.calls (record { sender = sender; call = call }) refl
sent_now Read seat sender call is free unlost = not_none seat false is free
sent_now Update seat sender call is free unlost = not_none seat true is free
sent_now Lost seat sender call is free unlost = let no : true ≡ false = unlost in cc

-- it is lost, and no call was open
pub lost_now : (stage : SubmitterStage) (seat : SeatState) → IsOpen stage seat → (submitting stage seat).waiting ≡ None
    → submitting Lost seat ≡ record (submitting stage seat) { lost = true }
lost_now Free seat is free = refl
lost_now Read seat is free = not_none seat false is free
lost_now Update seat is free = not_none seat true is free
lost_now Lost seat is free = refl

-- all that was sent
pub sent_at : (stage : SubmitterStage) (seat : SeatState) → IsOpen stage seat
    → all_sent (submitting stage seat) ≡ seat.calls
sent_at Free seat is = refl
sent_at Read seat is = ap all_sent (opened_at seat is.before is.sent is.calls) ∙ sym is.calls
sent_at Update seat is = ap all_sent (opened_at seat is.before is.sent is.calls) ∙ sym is.calls
sent_at Lost seat is = refl

-- the open call has its reply
module _ (before after told : History) (seat : SeatState) (reply : Reply) (later : IsLater before after)
    (learned : IsLater told after) (put_out : PutsOut told (Replied seat.port reply)) where
  answered_last : (u : Bool) → IsLastCall seat u → is_value reply ≡ not u
      → IsAnswered before after (open_at seat) (unused (with_reply seat reply told)) reply
  answered_last u l kind =
      subst (λ s. IsAnswered before after s (unused (with_reply seat reply told)) reply)
      (sym (opened_at seat l.before l.sent l.calls))
      (record {
        sent = l.sent;
        waits = refl;
        submitted = record {
          replied = l.replied;
          server = l.server;
          told = told;
          later = later;
          learned = learned;
          put_out = put_out;
          exchange = ap (λ (es : List SentCall). record seat {
            calls = es;
            got = seat.got ++ record { port = seat.port; reply = reply; told = told } ∷ [];
          }) l.calls;
        };
        kind = kind ∙ ap not (sym l.kind);
        free = refl;
        lost = (refl, refl);
      })

  pub answered : (stage : SubmitterStage) → IsOpen stage seat → IsReplyAt stage reply
      → IsAnswered before after (submitting stage seat) (submitting Free (with_reply seat reply told)) reply
  answered Free is kind = let no : false ≡ true = kind in cc
  answered Read is kind = answered_last false is kind
  answered Update is kind = answered_last true is (negated (is_value reply) kind)
    where
      negated : (b : Bool) → not b ≡ true → b ≡ false
      negated true e = sym e
      negated false e = refl
  answered Lost is kind = let no : false ≡ true = kind in cc

-- The call that was open has its reply.
abbrev sent_or : SentCall → Option SentCall → SentCall
sent_or d None = d
sent_or d (Some c) = c

pub same_call : (before after : History) (s t : Submitting) (sent : SentCall) (reply : Reply) → s.waiting ≡ Some sent
    → (a : IsAnswered before after s t reply)
    → a.sent ≡ sent
same_call before after s t sent reply waits a =
    let same : Some a.sent ≡ Some sent = sym a.waits ∙ waits in
    ap (λ o. sent_or sent o) same

pub answers_to : (before after : History) (s t : Submitting) (sent : SentCall) (reply : Reply) → s.waiting ≡ Some sent
    → IsAnswered before after s t reply
    → IsSubmitted before after s.seat t.seat sent reply
answers_to before after s t sent reply waits a =
    subst (λ c. IsSubmitted before after s.seat t.seat c reply) (same_call before after s t sent reply waits a)
    a.submitted

-- a call that was sent waits
waits_last : (seat : SeatState) (u : Bool) → IsLastCall seat u → IsSome (open_at seat).waiting
waits_last seat u l =
    subst (λ (s : Submitting). IsSome s.waiting) (sym (opened_at seat l.before l.sent l.calls)) refl

-- a read waits
pub read_waits : (stage : SubmitterStage) (seat : SeatState) (s : Submitting) → stage ≡ Read → IsOpen stage seat
    → submitting stage seat ≡ s
    → IsSome s.waiting
read_waits stage seat s e is view =
    subst (λ (t : Submitting). IsSome t.waiting) (ap (λ x. submitting x seat) (sym e) ∙ view)
    (waits_last seat false (subst (λ x. IsOpen x seat) e is))

-- an update waits
pub update_waits : (stage : SubmitterStage) (seat : SeatState) (s : Submitting) → stage ≡ Update → IsOpen stage seat
    → submitting stage seat ≡ s
    → IsSome s.waiting
update_waits stage seat s e is view =
    subst (λ (t : Submitting). IsSome t.waiting) (ap (λ x. submitting x seat) (sym e) ∙ view)
    (waits_last seat true (subst (λ x. IsOpen x seat) e is))

-- a call was sent at a seat with this value
pub submit_sent : (stage next : SubmitterStage) (seat last : SeatState) (s : Submitting) (sender : CallSenderState)
    (call : Call) → submitting stage seat ≡ s
    → IsOpen stage seat
    → s.waiting ≡ None
    → (stage ≡ Lost → ⊥)
    → next ≡ stage_of call
    → last ≡ with_sent seat sender call
    → submitting next last ≡ record s { waiting = Some (record { sender = sender; call = call }) }
submit_sent stage next seat last s sender call view is free unlost e f =
    ap (λ x. submitting x last) e ∙ (ap (λ l. submitting (stage_of call) l) f
    ∙ (sent_at_stage stage seat is (ap (λ (t : Submitting). t.waiting) view ∙ free) unlost
    ∙ ap (λ (t : Submitting). record t { waiting = Some (record { sender = sender; call = call }) }) view))
  where
    sent_at_stage : (stage : SubmitterStage) (seat : SeatState) → IsOpen stage seat
        → (submitting stage seat).waiting ≡ None
        → (stage ≡ Lost → ⊥)
        → submitting (stage_of call) (with_sent seat sender call)
        ≡ record (submitting stage seat) { waiting = Some (record { sender = sender; call = call }) }
    sent_at_stage Free seat is free unlost = sent_now Free seat sender call is free refl
    sent_at_stage Read seat is free unlost = not_none seat false is free
    sent_at_stage Update seat is free unlost = not_none seat true is free
    sent_at_stage Lost seat is free unlost = absurd (unlost refl)

pub submit_opens : (stage next : SubmitterStage) (seat last : SeatState) (s : Submitting) (sender : CallSenderState)
    (call : Call) → submitting stage seat ≡ s
    → IsOpen stage seat
    → s.waiting ≡ None
    → seat.instance ≡ sender.instance
    → (stage ≡ Lost → ⊥)
    → next ≡ stage_of call
    → last ≡ with_sent seat sender call
    → IsOpen next last
submit_opens stage next seat last s sender call view is free server unlost e f =
    subst (λ x. IsOpen x last) (sym e)
    (subst (λ l. IsOpen (stage_of call) l) (sym f)
    (opens seat sender call server
    (replied_free stage seat is (ap (λ (t : Submitting). t.waiting) view ∙ free) unlost)))

-- whose seat it is, at any stage
pub submit_instance : (stage : SubmitterStage) (seat : SeatState) (s : Submitting) → submitting stage seat ≡ s
    → seat.instance ≡ s.seat.instance
submit_instance stage seat s view = by stage ∙ ap (λ (t : Submitting). t.seat.instance) view
  where
    by : (stage : SubmitterStage) → seat.instance ≡ (submitting stage seat).seat.instance
    by Free = refl
    by Read = refl
    by Update = refl
    by Lost = refl

-- and its port
pub submit_port : (stage : SubmitterStage) (seat : SeatState) (s : Submitting) → submitting stage seat ≡ s
    → seat.port ≡ s.seat.port
submit_port stage seat s view = by stage ∙ ap (λ (t : Submitting). t.seat.port) view
  where
    by : (stage : SubmitterStage) → seat.port ≡ (submitting stage seat).seat.port
    by Free = refl
    by Read = refl
    by Update = refl
    by Lost = refl

-- a call wasn't sent
pub submit_lost : (stage : SubmitterStage) (seat last : SeatState) (s : Submitting) → submitting stage seat ≡ s
    → IsOpen stage seat
    → s.waiting ≡ None
    → last ≡ seat
    → submitting Lost last ≡ record s { lost = true }
submit_lost stage seat last s view is free e =
    ap (λ l. submitting Lost l) e
    ∙ (lost_now stage seat is (ap (λ (t : Submitting). t.waiting) view ∙ free)
    ∙ ap (λ (t : Submitting). record t { lost = true }) view)

-- a reply was taken
pub take_answered : (before after told : History) (stage next : SubmitterStage) (seat last : SeatState) (s : Submitting)
    (reply given : Reply) → submitting stage seat ≡ s → IsOpen stage seat → next ≡ Free
    → last ≡ with_reply seat reply told
    → given ≡ reply
    → IsReplyAt stage reply
    → IsLater before after
    → IsLater told after
    → PutsOut told (Replied seat.port reply)
    → IsAnswered before after s (submitting next last) given
take_answered before after told stage next seat last s reply given view is e f same kind later learned put =
    subst (λ t. IsAnswered before after t (submitting next last) given) view
    (subst (λ x. IsAnswered before after (submitting stage seat) (submitting x last) given) (sym e)
    (subst (λ l. IsAnswered before after (submitting stage seat) (submitting Free l) given) (sym f)
    (subst (λ r. IsAnswered before after (submitting stage seat) (submitting Free (with_reply seat reply told)) r)
    (sym same)
    (answered before after told seat reply later learned put stage is kind))))

-- nothing more was sent
pub take_unsent : (stage next : SubmitterStage) (seat last : SeatState) (s : Submitting) → submitting stage seat ≡ s
    → IsOpen stage seat
    → all_sent (submitting next last) ≡ last.calls
    → last.calls ≡ seat.calls
    → all_sent (submitting next last) ≡ all_sent s
take_unsent stage next seat last s view is shown same =
    shown ∙ (same ∙ (sym (sent_at stage seat is) ∙ ap all_sent view))

-- a seat at which none is open shows what it sent
pub free_sent : (next : SubmitterStage) (seat : SeatState) → next ≡ Free → all_sent (submitting next seat) ≡ seat.calls
free_sent next seat e = ap (λ x. all_sent (submitting x seat)) e

pub lost_sent : (next : SubmitterStage) (seat : SeatState) → next ≡ Lost → all_sent (submitting next seat) ≡ seat.calls
lost_sent next seat e = ap (λ x. all_sent (submitting x seat)) e

-- it took the reply to its open call
pub take_replied : (stage next : SubmitterStage) (seat last : SeatState) (reply : Reply) (told : History)
    → IsOpen stage seat
    → next ≡ Free
    → last ≡ with_reply seat reply told
    → IsReplyAt stage reply
    → IsOpen next last
take_replied stage next seat last reply told is e f kind =
    subst (λ x. IsOpen x last) (sym e) (subst HasAllReplies (sym f) (by stage is kind))
  where
    by : (stage : SubmitterStage) → IsOpen stage seat → IsReplyAt stage reply
        → HasAllReplies (with_reply seat reply told)
    by Free is kind = let no : false ≡ true = kind in cc
    by Read is kind = replied_last seat reply told false is
    by Update is kind = replied_last seat reply told true is
    by Lost is kind = let no : false ≡ true = kind in cc

-- a seat that shows so is lost
pub lost_stage : (stage : SubmitterStage) (seat : SeatState) (s : Submitting)
    → submitting stage seat ≡ s
    → s.lost ≡ true
    → stage ≡ Lost
lost_stage Free seat s view lost = let no : false ≡ true = ap (λ (t : Submitting). t.lost) view ∙ lost in cc
lost_stage Read seat s view lost = let no : false ≡ true = ap (λ (t : Submitting). t.lost) view ∙ lost in cc
lost_stage Update seat s view lost = let no : false ≡ true = ap (λ (t : Submitting). t.lost) view ∙ lost in cc
lost_stage Lost seat s view lost = refl
