-- What one sender alone sends: the calls of a port, and the messages of a server.
use Rattle.std.proofs.Common.{◌≡◌, ◌≢◌, ℕ, zero, suc, Bool, true, false, cond, List, [], ◌∷◌, ◌++◌, Some, refl, ap}
use Rattle.std.proofs.Common.{sym, ◌∙◌, inl, inr, ◌⊎◌, eq-eqb}
use Rattle.std.specs.Prelude.{◌==◌, ◌&&◌, ◌||◌, slice_get, take}
use Rattle.std.proofs.lemmas.Bool.{cases_eq, ne_eqb, eqb-true, and_from, and_right, false≢true}
use Rattle.std.proofs.lemmas.List.{append-nil}
use Rattle.std.proofs.lemmas.Option.{same_Some}
use Rattle.table.specs.declared.operations.Call.{Call}
use Rattle.node.specs.declared.messages.Input.TheVariants.{Call as Called, From, Gone}
use Rattle.node.specs.declared.messages.Peer.{Peer}
use Rattle.rail.specs.declared.inbox_messages.InboxMessage.{InboxMessage}
use Rattle.rail.specs.declared.inbox_messages.InboxMessage.TheVariants.{Took, Stop, End}
use Rattle.interleavings.specs.Chains.{calls_from}
use Rattle.interleavings.proofs.lists.Joined.{calls_from-append}
use Rattle.local_histories.specs.Events.{Event, Sent, Brought, Taken, Shown, Put, Answered, HandedBack, Got, Looked}
use Rattle.local_histories.specs.Events.{Halted, Broke}
use Rattle.local_histories.specs.Objects.{gathered, only_if, sends, sent_by, sends_from, sent_from, inputs_in, brings}
use Rattle.local_histories.specs.Objects.{all_messages_from, brought_from, is_halt, has_halted}
use Rattle.local_histories.specs.LocalRules.{BringsNoCall}
use Rattle.local_histories.proofs.Inboxes.{all_inputs, all_inputs-append, all_messages_from-append}

-- ---- events in lists

-- this holds of each of these
abbrev pub AllOf : (Event → Type 0) → List Event → Type 0
AllOf P [] = Unit {0}
AllOf P (e ∷ es) = P e × AllOf P es

pub all_of : (P : Event → Type 0) (es : List Event)
    → ((n : ℕ) (e : Event) → slice_get es n ≡ Some e → P e)
    → AllOf P es
all_of P [] h = tt
all_of P (e ∷ es) h = (h 0 e refl, all_of P es (λ n f g. h (suc n) f g))

-- it stands among these
abbrev pub Has : {X : Type 0} → X → List X → Type 0
Has x [] = ⊥
Has x (y ∷ ys) = (y ≡ x) ⊎ Has x ys

pub has_behind : {X : Type 0} (xs : List X) (x : X) (ys : List X) → Has x (xs ++ x ∷ ys)
has_behind [] x ys = inl refl
has_behind (z ∷ zs) x ys = inr (has_behind zs x ys)

has_either : {X : Type 0} (x : X) (xs ys : List X) → Has x (xs ++ ys) → Has x xs ⊎ Has x ys
has_either x [] ys h = inr h
has_either x (z ∷ zs) ys (inl e) = inl (inl e)
has_either x (z ∷ zs) ys (inr h) = elim (has_either x zs ys h) [
  | inl a ↦ inl (inr a)
  | inr b ↦ inr b
]

-- what was gathered, an event added
pub found : {X : Type 0} (adds : Event → List X) (es : List Event) (x : X)
    → Has x (gathered adds es)
    → (n : ℕ) × (e : Event) × (slice_get es n ≡ Some e) × Has x (adds e)
found adds [] x h = absurd h
found adds (e ∷ es) x h = elim (has_either x (adds e) (gathered adds es) h) [
  | inl here ↦ (0, e, refl, here)
  | inr there ↦ (let r = found adds es x there in (suc r.0, r.1, r.2, r.3))
]

pub has_only : {X : Type 0} (b : Bool) (x y : X) → Has x (only_if b y) → (b ≡ true) × (y ≡ x)
has_only true x y (inl e) = (refl, e)
has_only true x y (inr h) = absurd h
has_only false x y h = absurd h

-- what stands in a beginning stands in the whole
pub take_get : (es : List Event) (n m : ℕ) (e : Event) → slice_get (take n es) m ≡ Some e → slice_get es m ≡ Some e
take_get [] zero m e h = absurd cc
take_get [] (suc n) m e h = absurd cc
take_get (x ∷ xs) zero m e h = absurd cc
take_get (x ∷ xs) (suc n) zero e h = h
take_get (x ∷ xs) (suc n) (suc m) e h = take_get xs n m e h

-- a beginning with the event after it
pub take_next : (es : List Event) (n : ℕ) (e : Event) → slice_get es n ≡ Some e → take (suc n) es ≡ take n es ++ e ∷ []
take_next [] n e h = absurd cc
take_next (x ∷ xs) zero e h = ap (λ y. y ∷ []) (same_Some x e h)
take_next (x ∷ xs) (suc n) e h = ap (λ ys. x ∷ ys) (take_next xs n e h)

-- who has halted stays so
pub halted_later : (es : List Event) (j n m : ℕ) (e : Event)
    → slice_get (take n es) m ≡ Some e
    → has_halted j (take m es) ≡ true
    → has_halted j (take n es) ≡ true
halted_later [] j zero m e h g = absurd cc
halted_later [] j (suc n) m e h g = absurd cc
halted_later (x ∷ xs) j zero m e h g = absurd cc
halted_later (x ∷ xs) j (suc n) zero e h g = absurd (false≢true g)
halted_later (x ∷ xs) j (suc n) (suc m) e h g = by (is_halt j x) g (halted_later xs j n m e h)
  where
    by : (b : Bool) → (b || has_halted j (take m xs)) ≡ true
        → (has_halted j (take m xs) ≡ true → has_halted j (take n xs) ≡ true)
        → (b || has_halted j (take n xs)) ≡ true
    by true g f = refl
    by false g f = f g

-- ---- calls of a port

-- a call from port p of server i is sent by sender k0; nothing that is brought is a call
abbrev pub SendsBy : ℕ → ℕ → ℕ → Event → Type 0
SendsBy i p k0 (Sent h k q call) = i ≡ h → p ≡ q → k0 ≡ k
SendsBy i p k0 (Brought h k message) = BringsNoCall (Brought h k message)
SendsBy i p k0 e = Unit {0}

no_call_in : (b : Bool) (p h k : ℕ) (m : InboxMessage)
    → BringsNoCall (Brought h k m)
    → calls_from p (all_inputs (only_if b m)) ≡ []
no_call_in false p h k m none = refl
no_call_in true p h k (Took (Called q call)) none = absurd none
no_call_in true p h k (Took (From a x)) none = refl
no_call_in true p h k (Took (Gone a)) none = refl
no_call_in true p h k Stop none = refl
no_call_in true p h k End none = refl

-- the call, if the port is this one
call_if : (b : Bool) (p q : ℕ) (call : Call)
    → calls_from p (all_inputs (only_if b (Took (Called q call)))) ≡ only_if (b && q == p) call
call_if true p q call = refl
call_if false p q call = refl

not_both : (a b c : Bool) → (a ≡ true → b ≡ true → c ≡ true → ⊥) → ((a && b) && c) ≡ false
not_both true true true f = absurd (f refl refl refl)
not_both true true false f = refl
not_both true false c f = refl
not_both false b c f = refl

calls_sent_once : (i p k0 : ℕ) (e : Event)
    → SendsBy i p k0 e
    → sends_from i p e ≡ calls_from p (all_inputs (sends i k0 e))
calls_sent_once i p k0 (Sent h k q call) by = elim (cases_eq h i) [
  | inr away ↦
      ap (λ b. only_if (b && q == p) call) (ne_eqb h i away)
      ∙ sym (ap (λ b. calls_from p (all_inputs (only_if (b && k == k0) (Took (Called q call))))) (ne_eqb h i away))
  | inl here ↦ elim (cases_eq q p) [
    | inr off ↦
        ap (λ b. only_if b call) (and_right (h == i) (q == p) (ne_eqb q p off))
        ∙ sym (call_if (h == i && k == k0) p q call
        ∙ ap (λ b. only_if b call) (and_right (h == i && k == k0) (q == p) (ne_eqb q p off)))
    | inl at ↦
        let same : k0 ≡ k = by (sym here) (sym at) in
        ap (λ b. only_if b call)
        (and_from (h == i) (q == p) (eq-eqb h i here) (eq-eqb q p at))
        ∙ sym (call_if (h == i && k == k0) p q call
        ∙ ap (λ b. only_if b call)
        (and_from (h == i && k == k0) (q == p)
        (and_from (h == i) (k == k0) (eq-eqb h i here) (eq-eqb k k0 (sym same))) (eq-eqb q p at)))
  ]
]
calls_sent_once i p k0 (Brought h k message) by = sym (no_call_in (h == i && k == k0) p h k message by)
calls_sent_once i p k0 (Taken h envelope) by = refl
calls_sent_once i p k0 (Shown h input) by = refl
calls_sent_once i p k0 (Put h j peer) by = refl
calls_sent_once i p k0 (Answered h reply) by = refl
calls_sent_once i p k0 (HandedBack h port) by = refl
calls_sent_once i p k0 (Got h reply) by = refl
calls_sent_once i p k0 (Looked h q key stood) by = refl
calls_sent_once i p k0 (Halted h) by = refl
calls_sent_once i p k0 (Broke h j) by = refl

no_calls_once : (i p k0 k : ℕ) (e : Event)
    → k0 ≢ k
    → SendsBy i p k0 e
    → calls_from p (all_inputs (sends i k e)) ≡ []
no_calls_once i p k0 k (Sent h m q call) other by =
    call_if (h == i && m == k) p q call
    ∙ ap (λ b. only_if b call) (not_both (h == i) (m == k) (q == p)
    (λ a b c. other (by (sym (eqb-true h i a)) (sym (eqb-true q p c)) ∙ eqb-true m k b)))
no_calls_once i p k0 k (Brought h m message) other by = no_call_in (h == i && m == k) p h m message by
no_calls_once i p k0 k (Taken h envelope) other by = refl
no_calls_once i p k0 k (Shown h input) other by = refl
no_calls_once i p k0 k (Put h j peer) other by = refl
no_calls_once i p k0 k (Answered h reply) other by = refl
no_calls_once i p k0 k (HandedBack h port) other by = refl
no_calls_once i p k0 k (Got h reply) other by = refl
no_calls_once i p k0 k (Looked h q key stood) other by = refl
no_calls_once i p k0 k (Halted h) other by = refl
no_calls_once i p k0 k (Broke h j) other by = refl

-- the calls of the port are those that the sender sent from it
pub calls_sent : (i p k0 : ℕ) (es : List Event)
    → AllOf (SendsBy i p k0) es
    → sent_from i p es ≡ calls_from p (all_inputs (sent_by i k0 es))
calls_sent i p k0 [] by = refl
calls_sent i p k0 (e ∷ es) by =
    ap (λ cs. cs ++ sent_from i p es) (calls_sent_once i p k0 e by.0)
    ∙ ap (λ cs. calls_from p (all_inputs (sends i k0 e)) ++ cs) (calls_sent i p k0 es by.1)
    ∙ sym (calls_from-append p (all_inputs (sends i k0 e)) (all_inputs (sent_by i k0 es)))
    ∙ ap (calls_from p) (sym (all_inputs-append (sends i k0 e) (sent_by i k0 es)))

-- and no other sender sends one
pub no_calls_sent : (i p k0 k : ℕ) (es : List Event)
    → k0 ≢ k
    → AllOf (SendsBy i p k0) es
    → calls_from p (all_inputs (sent_by i k es)) ≡ []
no_calls_sent i p k0 k [] other by = refl
no_calls_sent i p k0 k (e ∷ es) other by =
    ap (calls_from p) (all_inputs-append (sends i k e) (sent_by i k es))
    ∙ calls_from-append p (all_inputs (sends i k e)) (all_inputs (sent_by i k es))
    ∙ ap (λ cs. cs ++ calls_from p (all_inputs (sent_by i k es))) (no_calls_once i p k0 k e other by.0)
    ∙ no_calls_sent i p k0 k es other by.1

-- ---- messages of a server

-- a message from server j that is brought to server i is brought by inlet k0
abbrev pub BringsBy : ℕ → ℕ → ℕ → Event → Type 0
BringsBy i j k0 (Brought h k (Took (From a peer))) = i ≡ h → j ≡ a → k0 ≡ k
BringsBy i j k0 e = Unit {0}

message_if : (b : Bool) (j a : ℕ) (peer : Peer)
    → all_messages_from j (all_inputs (only_if b (Took (From a peer)))) ≡ only_if (b && a == j) peer
message_if true j a peer = append-nil (only_if (a == j) peer)
message_if false j a peer = refl

pub brought_if : (b : Bool) (j a : ℕ) (peer : Peer)
    → all_messages_from j (cond b (inputs_in (Took (From a peer))) []) ≡ only_if (b && a == j) peer
brought_if true j a peer = append-nil (only_if (a == j) peer)
brought_if false j a peer = refl

-- what brings no message brings none by any inlet
none_here : (b : Bool) (j : ℕ) (m : InboxMessage)
    → all_messages_from j (inputs_in m) ≡ []
    → all_messages_from j (all_inputs (only_if b m)) ≡ []
none_here true j m e = ap (all_messages_from j) (append-nil (inputs_in m)) ∙ e
none_here false j m e = refl

none_there : (b : Bool) (j : ℕ) (m : InboxMessage)
    → all_messages_from j (inputs_in m) ≡ []
    → all_messages_from j (cond b (inputs_in m) []) ≡ []
none_there true j m e = e
none_there false j m e = refl

brought_once : (i j k0 : ℕ) (e : Event)
    → BringsBy i j k0 e
    → all_messages_from j (brings i e) ≡ all_messages_from j (all_inputs (sends i k0 e))
brought_once i j k0 (Sent h k q call) by = sym (none_here (h == i && k == k0) j (Took (Called q call)) refl)
brought_once i j k0 (Brought h k (Took (From a peer))) by = elim (cases_eq h i) [
  | inr away ↦
      ap (λ b. all_messages_from j (cond b (inputs_in (Took (From a peer))) [])) (ne_eqb h i away)
      ∙ sym (ap (λ b. all_messages_from j (all_inputs (only_if (b && k == k0) (Took (From a peer)))))
      (ne_eqb h i away))
  | inl here ↦ elim (cases_eq a j) [
    | inr off ↦
        brought_if (h == i) j a peer
        ∙ ap (λ b. only_if b peer) (and_right (h == i) (a == j) (ne_eqb a j off))
        ∙ sym (message_if (h == i && k == k0) j a peer
        ∙ ap (λ b. only_if b peer) (and_right (h == i && k == k0) (a == j) (ne_eqb a j off)))
    | inl at ↦
        let same : k0 ≡ k = by (sym here) (sym at) in
        brought_if (h == i) j a peer
        ∙ ap (λ b. only_if b peer) (and_from (h == i) (a == j) (eq-eqb h i here) (eq-eqb a j at))
        ∙ sym (message_if (h == i && k == k0) j a peer
        ∙ ap (λ b. only_if b peer)
        (and_from (h == i && k == k0) (a == j)
        (and_from (h == i) (k == k0) (eq-eqb h i here) (eq-eqb k k0 (sym same))) (eq-eqb a j at)))
  ]
]
brought_once i j k0 (Brought h k (Took (Called q call))) by =
    none_there (h == i) j (Took (Called q call)) refl
    ∙ sym (none_here (h == i && k == k0) j (Took (Called q call)) refl)
brought_once i j k0 (Brought h k (Took (Gone a))) by =
    none_there (h == i) j (Took (Gone a)) refl ∙ sym (none_here (h == i && k == k0) j (Took (Gone a)) refl)
brought_once i j k0 (Brought h k Stop) by =
    none_there (h == i) j Stop refl ∙ sym (none_here (h == i && k == k0) j Stop refl)
brought_once i j k0 (Brought h k End) by =
    none_there (h == i) j End refl ∙ sym (none_here (h == i && k == k0) j End refl)
brought_once i j k0 (Taken h envelope) by = refl
brought_once i j k0 (Shown h input) by = refl
brought_once i j k0 (Put h a peer) by = refl
brought_once i j k0 (Answered h reply) by = refl
brought_once i j k0 (HandedBack h port) by = refl
brought_once i j k0 (Got h reply) by = refl
brought_once i j k0 (Looked h q key stood) by = refl
brought_once i j k0 (Halted h) by = refl
brought_once i j k0 (Broke h a) by = refl

none_once : (i j k0 k : ℕ) (e : Event)
    → k0 ≢ k
    → BringsBy i j k0 e
    → all_messages_from j (all_inputs (sends i k e)) ≡ []
none_once i j k0 k (Sent h m q call) other by = none_here (h == i && m == k) j (Took (Called q call)) refl
none_once i j k0 k (Brought h m (Took (From a peer))) other by =
    message_if (h == i && m == k) j a peer
    ∙ ap (λ b. only_if b peer) (not_both (h == i) (m == k) (a == j)
    (λ x y z. other (by (sym (eqb-true h i x)) (sym (eqb-true a j z)) ∙ eqb-true m k y)))
none_once i j k0 k (Brought h m (Took (Called q call))) other by =
    none_here (h == i && m == k) j (Took (Called q call)) refl
none_once i j k0 k (Brought h m (Took (Gone a))) other by = none_here (h == i && m == k) j (Took (Gone a)) refl
none_once i j k0 k (Brought h m Stop) other by = none_here (h == i && m == k) j Stop refl
none_once i j k0 k (Brought h m End) other by = none_here (h == i && m == k) j End refl
none_once i j k0 k (Taken h envelope) other by = refl
none_once i j k0 k (Shown h input) other by = refl
none_once i j k0 k (Put h a peer) other by = refl
none_once i j k0 k (Answered h reply) other by = refl
none_once i j k0 k (HandedBack h port) other by = refl
none_once i j k0 k (Got h reply) other by = refl
none_once i j k0 k (Looked h q key stood) other by = refl
none_once i j k0 k (Halted h) other by = refl
none_once i j k0 k (Broke h a) other by = refl

-- the messages of the server are those that the inlet brought from it
pub messages_brought : (i j k0 : ℕ) (es : List Event)
    → AllOf (BringsBy i j k0) es
    → brought_from j i es ≡ all_messages_from j (all_inputs (sent_by i k0 es))
messages_brought i j k0 [] by = refl
messages_brought i j k0 (e ∷ es) by =
    all_messages_from-append j (brings i e) (gathered (brings i) es)
    ∙ ap (λ ms. ms ++ brought_from j i es) (brought_once i j k0 e by.0)
    ∙ ap (λ ms. all_messages_from j (all_inputs (sends i k0 e)) ++ ms) (messages_brought i j k0 es by.1)
    ∙ sym (all_messages_from-append j (all_inputs (sends i k0 e)) (all_inputs (sent_by i k0 es)))
    ∙ ap (all_messages_from j) (sym (all_inputs-append (sends i k0 e) (sent_by i k0 es)))

-- and no other sender brings one
pub no_messages_brought : (i j k0 k : ℕ) (es : List Event)
    → k0 ≢ k
    → AllOf (BringsBy i j k0) es
    → all_messages_from j (all_inputs (sent_by i k es)) ≡ []
no_messages_brought i j k0 k [] other by = refl
no_messages_brought i j k0 k (e ∷ es) other by =
    ap (all_messages_from j) (all_inputs-append (sends i k e) (sent_by i k es))
    ∙ all_messages_from-append j (all_inputs (sends i k e)) (all_inputs (sent_by i k es))
    ∙ ap (λ ms. ms ++ all_messages_from j (all_inputs (sent_by i k es))) (none_once i j k0 k e other by.0)
    ∙ no_messages_brought i j k0 k es other by.1
