-- The same of replies, changes, bodies and whole frames.
use Rattle.std.proofs.Common.{◌≡◌, ℕ, ◌≤◌, Bool, true, false, List, [], ◌∷◌, ◌++◌, refl, sym, ap, subst, ◌∙◌, arith}
use Rattle.std.proofs.Common.{inl, inr}
use Rattle.std.specs.Prelude.{nat_lt, ◌==◌}
use Rattle.std.specs.Int.{w16, w64, to_be_bytes}
use Rattle.std.proofs.lemmas.Bool.{ltb-false, lt-ltb, leb-true, le-leb, eqb-true, eqb-false}
use Rattle.table.specs.Operations.{is_all, is_value}
use Rattle.table.specs.declared.operations.Reply.{Reply}
use Rattle.table.specs.declared.operations.Reply.TheVariants.{Stored, NotStored, Exists, NotFound, Deleted, Number}
use Rattle.table.specs.declared.operations.Reply.TheVariants.{Value, TooLarge, NotNumber, Flushed}
use Rattle.table.specs.declared.operations.Change.{Change}
use Rattle.table.specs.declared.operations.Change.TheVariants.{Keep, Put, Drop, Clear}
use Rattle.versions.specs.Entries.{PutsOwn, is_clear, is_flushed}
use Rattle.node.specs.declared.messages.Body.{Body}
use Rattle.node.specs.declared.messages.Body.TheVariants as bodies
use Rattle.wire.specs.declared.frames.Frame.{Frame}
use Rattle.wire.specs.declared.frames.Frame.TheVariants.{Hello, Peer, Gone, Accepted, Refused, Noted, Reign}
use Rattle.wire.specs.declared.frames.Frame.TheVariants.{Confirmed, Stalled}
use Rattle.wire.specs.declared.frames.Frame.TheVariants as frames
use Rattle.wire.specs.Spellings.{four_bytes, eight_bytes, key_spelling, target_spelling, block_spelling, op_spelling}
use Rattle.wire.specs.Spellings.{reply_spelling, change_spelling, body_spelling, kind_of, spelling, HasReplyWidth}
use Rattle.wire.specs.Spellings.{HasChangeWidth, IsBody, IsFrame, introduction_spelling, acceptance_spelling, code_of}
use Rattle.wire.specs.Spellings.{beat_spelling, alive_spelling, silent_spelling, two_bytes}
use Rattle.wire.specs.Parts.{followed, makes, byte, number}
use Rattle.wire.specs.Grammar as format
use Rattle.wire.specs.Grammar.{any, positive, at_most, below}
use Rattle.wire.proofs.Spelled.{by_test, from_made, to_made, at_most_is, below_is, joined, key_from, key_to}
use Rattle.wire.proofs.Spelled.{target_from, target_to, flagged_from, flagged_to, by_part, by_value, by_code, with_code}
use Rattle.wire.proofs.Spelled.{op_from, op_to, amount_to}
use Rattle.wire.proofs.SpelledWatching.{SentFrame, beat_to, alive_to, silence_to}
use Rattle.wire.proofs.SpelledGreetings.{greeting_from, introduction_to, acceptance_to, refusal_to}

-- ---- replies

-- a reply that is sent, and its bytes
pub record SentReply (all : Bool) (told : Reply) (text : List ℕ) : Type 0 where
  pub spelled : text ≡ reply_spelling told
  pub width : HasReplyWidth told
  pub no_item : is_value told ≡ false
  pub aimed : is_flushed told ≡ all

abbrev Told : ℕ → Reply → List ℕ → Type 0
Told code told text = SentReply false told (code ∷ text)

key_reply_from : (code : ℕ) (told : Reply) (text : List ℕ)
    → (format.key_reply code).Spells told text
    → Told code told text
key_reply_from code told text s0 =
    elim (by_test (code == 1) _ _ told text s0) [
      | inl h ↦ by_value Told Stored 1 code told text h.0
          (record { spelled = refl; width = tt; no_item = refl; aimed = refl }) h.1
      | inr s1 ↦ elim (by_test (code == 2) _ _ told text s1.1) [
        | inl h ↦ by_value Told NotStored 2 code told text h.0
            (record { spelled = refl; width = tt; no_item = refl; aimed = refl }) h.1
        | inr s2 ↦ elim (by_test (code == 3) _ _ told text s2.1) [
          | inl h ↦ by_value Told Exists 3 code told text h.0
              (record { spelled = refl; width = tt; no_item = refl; aimed = refl }) h.1
          | inr s3 ↦ elim (by_test (code == 4) _ _ told text s3.1) [
            | inl h ↦ by_value Told NotFound 4 code told text h.0
                (record { spelled = refl; width = tt; no_item = refl; aimed = refl }) h.1
            | inr s4 ↦ elim (by_test (code == 5) _ _ told text s4.1) [
              | inl h ↦ by_value Told Deleted 5 code told text h.0
                  (record { spelled = refl; width = tt; no_item = refl; aimed = refl }) h.1
              | inr s5 ↦ elim (by_test (code == 6) _ _ told text s5.1) [
                | inl h ↦ by_part Told (number w64 any) Number 6 code told text h.0
                    (λ n t s. record {
                      spelled = ap (λ (t : List ℕ). 6 ∷ t) s.2;
                      width = s.0;
                      no_item = refl;
                      aimed = refl;
                    }) h.1
                | inr s6 ↦ elim (by_test (code == 8) _ _ told text s6.1) [
                  | inl h ↦ by_value Told TooLarge 8 code told text h.0
                      (record { spelled = refl; width = tt; no_item = refl; aimed = refl }) h.1
                  | inr s7 ↦ elim (by_test (code == 9) _ _ told text s7.1) [
                    | inl h ↦ by_value Told NotNumber 9 code told text h.0
                        (record { spelled = refl; width = tt; no_item = refl; aimed = refl }) h.1
                    | inr s8 ↦ absurd s8.1
                  ]
                ]
              ]
            ]
          ]
        ]
      ]
    ]

reply_from : (all : Bool) (told : Reply) (text : List ℕ) → (format.reply all).Spells told text → SentReply all told text
reply_from all told text s =
    by_code all 10 Flushed format.key_reply SentReply
    (record { spelled = refl; width = tt; no_item = refl; aimed = refl }) key_reply_from told text s

reply_to : (told : Reply)
    → HasReplyWidth told
    → is_value told ≡ false
    → (format.reply (is_flushed told)).Spells told (reply_spelling told)
reply_to Stored w v = with_code 10 Flushed format.key_reply 1 Stored [] (refl, refl)
reply_to NotStored w v = with_code 10 Flushed format.key_reply 2 NotStored [] (refl, refl)
reply_to Exists w v = with_code 10 Flushed format.key_reply 3 Exists [] (refl, refl)
reply_to NotFound w v = with_code 10 Flushed format.key_reply 4 NotFound [] (refl, refl)
reply_to Deleted w v = with_code 10 Flushed format.key_reply 5 Deleted [] (refl, refl)
reply_to (Number n) w v = with_code 10 Flushed format.key_reply 6 (Number n) (eight_bytes n) (amount_to Number n w)
reply_to (Value item) w v = absurd cc
reply_to TooLarge w v = with_code 10 Flushed format.key_reply 8 TooLarge [] (refl, refl)
reply_to NotNumber w v = with_code 10 Flushed format.key_reply 9 NotNumber [] (refl, refl)
reply_to Flushed w v = (10, 10 ∷ [], [], (refl, refl), (refl, refl), refl)

-- ---- changes

-- a change that is sent, and its bytes
pub record SentChange (number : ℕ) (all : Bool) (done : Change) (text : List ℕ) : Type 0 where
  pub spelled : text ≡ change_spelling done
  pub width : HasChangeWidth done
  pub put : PutsOwn number done
  pub aimed : is_clear done ≡ all

abbrev Done : ℕ → ℕ → Change → List ℕ → Type 0
Done entry code done text = SentChange entry false done (code ∷ text)

-- what an entry of this number puts
abbrev item_of : ℕ → ℕ × List ℕ → Change
item_of entry x = Put (record { flags = x.0; bytes = x.1; unique = entry })

key_change_from : (entry code : ℕ) (done : Change) (text : List ℕ)
    → (format.key_change entry code).Spells done text
    → Done entry code done text
key_change_from entry code done text s0 =
    elim (by_test (code == 0) _ _ done text s0) [
      | inl h ↦ by_value (Done entry) Keep 0 code done text h.0
          (record { spelled = refl; width = tt; put = tt; aimed = refl }) h.1
      | inr s1 ↦ elim (by_test (code == 1) _ _ done text s1.1) [
        | inl h ↦ by_part (Done entry) format.flagged (item_of entry) 1 code done text h.0
            (λ x t s. let f = flagged_from x t s in
            record { spelled = ap (λ (t : List ℕ). 1 ∷ t) f.0; width = f.1; put = (refl, f.2); aimed = refl }) h.1
        | inr s2 ↦ elim (by_test (code == 2) _ _ done text s2.1) [
          | inl h ↦ by_value (Done entry) Drop 2 code done text h.0
              (record { spelled = refl; width = tt; put = tt; aimed = refl }) h.1
          | inr s3 ↦ absurd s3.1
        ]
      ]
    ]

change_from : (all : Bool) (entry : ℕ) (done : Change) (text : List ℕ)
    → (format.change all entry).Spells done text
    → SentChange entry all done text
change_from all entry done text s = by_code all 3 Clear (format.key_change entry) (SentChange entry)
    (record { spelled = refl; width = tt; put = tt; aimed = refl }) (key_change_from entry) done text s

change_to : (entry : ℕ) (done : Change)
    → HasChangeWidth done
    → PutsOwn entry done
    → (format.change (is_clear done) entry).Spells done (change_spelling done)
change_to entry Keep w p = with_code 3 Clear (format.key_change entry) 0 Keep [] (refl, refl)
change_to entry (Put item) w p =
    with_code 3 Clear (format.key_change entry) 1 (Put item) (four_bytes item.flags ++ block_spelling item.bytes)
    (subst (λ (u : ℕ). (followed format.flagged (λ x. makes (item_of u x))).Spells (Put item)
    (four_bytes item.flags ++ block_spelling item.bytes)) p.0
    (to_made format.flagged (item_of item.unique) (item.flags, item.bytes) _
    (flagged_to (item.flags, item.bytes) w p.1)))
change_to entry Drop w p = with_code 3 Clear (format.key_change entry) 2 Drop [] (refl, refl)
change_to entry Clear w p = (3, 3 ∷ [], [], (refl, refl), (refl, refl), refl)

-- ---- bodies

-- a body of a kind, and its bytes
pub record SentBody (kind : ℕ) (says : Body) (text : List ℕ) : Type 0 where
  pub spelled : text ≡ body_spelling says
  pub whole : IsBody says
  pub kind_is : kind_of says ≡ kind

positive_is : (n : ℕ) → positive n ≡ true → 1 ≤ n
positive_is n e = leb-true 1 n e

positive_to : (n : ℕ) → 1 ≤ n → positive n ≡ true
positive_to n h = le-leb 1 n h

op_body_from : (says : Body) (text : List ℕ) → format.op_body.Spells says text → SentBody 1 says text
op_body_from says text s =
    let on = s.4 in
    let m = from_made (format.operation (is_all on.0)) (λ op. bodies.Op s.0 (record { target = on.0; op = op })) says
    on.2 on.4 in
    let t = target_from on.0 on.1 on.3 in
    let o = op_from (is_all on.0) m.0 on.2 m.1 in
    let behind : s.2 ≡ target_spelling on.0 ++ op_spelling m.0 =
    joined s.2 on.1 on.2 (target_spelling on.0) (op_spelling m.0) on.5 t.0 o.spelled in
    subst (λ says. SentBody 1 says text) (sym m.2)
    (record {
      spelled = joined text s.1 s.2 (eight_bytes s.0) (target_spelling on.0 ++ op_spelling m.0) s.5 s.3.2 behind;
      whole = (positive_is s.0 s.3.1, s.3.0, t.1, (o.fits, o.aimed), o.update, o.widths);
      kind_is = refl;
    })

forward_body_from : (says : Body) (text : List ℕ) → format.forward_body.Spells says text → SentBody 2 says text
forward_body_from says text s =
    let origin = s.4 in
    let id = origin.4 in
    let on = id.4 in
    let told = on.4 in
    let m = from_made (format.change (is_all on.0) s.0)
    (λ done. bodies.Forward
    (record { number = s.0; origin = origin.0; id = id.0; target = on.0; reply = told.0; change = done })) says
    told.2 told.4 in
    let t = target_from on.0 on.1 on.3 in
    let r = reply_from (is_all on.0) told.0 told.1 told.3 in
    let c = change_from (is_all on.0) s.0 m.0 told.2 m.1 in
    let e4 : on.2 ≡ reply_spelling told.0 ++ change_spelling m.0 =
    joined on.2 told.1 told.2 (reply_spelling told.0) (change_spelling m.0) told.5 r.spelled c.spelled in
    let e3 : id.2 ≡ target_spelling on.0 ++ (reply_spelling told.0 ++ change_spelling m.0) =
    joined id.2 on.1 on.2 (target_spelling on.0) _ on.5 t.0 e4 in
    let e2 : origin.2 ≡ eight_bytes id.0 ++ (target_spelling on.0 ++ (reply_spelling told.0 ++ change_spelling m.0)) =
    joined origin.2 id.1 id.2 (eight_bytes id.0) _ id.5 id.3.2 e3 in
    let e1 : s.2 ≡ origin.0
    ∷ (eight_bytes id.0 ++ (target_spelling on.0 ++ (reply_spelling told.0 ++ change_spelling m.0))) =
    joined s.2 origin.1 origin.2 (origin.0 ∷ []) _ origin.5 origin.3.1 e2 in
    subst (λ says. SentBody 2 says text) (sym m.2)
    (record {
      spelled = joined text s.1 s.2 (eight_bytes s.0) _ s.5 s.3.2 e1;
      whole = record {
        entry = record {
          numbered = positive_is s.0 s.3.1;
          served = below_is 16 origin.0 origin.3.0;
          called = positive_is id.0 id.3.1;
          answered = r.no_item;
          put = c.put;
          cleared = c.aimed;
          flushed =
              r.aimed;
        };
        number = s.3.0;
        id = id.3.0;
        target = t.1;
        reply = r.width;
        change = c.width;
      };
      kind_is = refl;
    })

query_body_from : (says : Body) (text : List ℕ) → format.query_body.Spells says text → SentBody 4 says text
query_body_from says text s =
    let m = from_made format.key (bodies.Query s.0) says s.2 s.4 in
    let k = key_from m.0 s.2 m.1 in
    subst (λ says. SentBody 4 says text) (sym m.2)
    (record {
      spelled = joined text s.1 s.2 (eight_bytes s.0) (key_spelling m.0) s.5 s.3.2 k.0;
      whole = (positive_is s.0 s.3.1, s.3.0, k.1);
      kind_is = refl;
    })

ack_body_from : (says : Body) (text : List ℕ) → format.ack_body.Spells says text → SentBody 3 says text
ack_body_from says text s =
    let m = from_made (number w64 any) bodies.Ack says text s in
    subst (λ says. SentBody 3 says text) (sym m.2) (record { spelled = m.1.2; whole = m.1.0; kind_is = refl })

answer_body_from : (says : Body) (text : List ℕ) → format.answer_body.Spells says text → SentBody 5 says text
answer_body_from says text s =
    let m = from_made (number w64 any) (bodies.Answer s.0) says s.2 s.4 in
    subst (λ says. SentBody 5 says text) (sym m.2)
    (record {
      spelled = joined text s.1 s.2 (eight_bytes s.0) (eight_bytes m.0) s.5 s.3.2 m.1.2;
      whole = (positive_is s.0 s.3.1, s.3.0, m.1.0);
      kind_is = refl;
    })

-- kinds of messages
record IsKind (kind : ℕ) : Type 0 where
  some : 1 ≤ kind
  most : kind ≤ 5

at_kind : (n kind : ℕ) (says : Body) (text : List ℕ)
    → (kind == n) ≡ true
    → SentBody n says text
    → SentBody kind says text
at_kind n kind says text e h = subst (λ k. SentBody k says text) (sym (eqb-true kind n e)) h

body_from : (kind : ℕ) (says : Body) (text : List ℕ)
    → IsKind kind
    → (format.body kind).Spells says text
    → SentBody kind says text
body_from kind says text k s0 =
    elim (by_test (kind == 1) format.op_body _ says text s0) [
      | inl h ↦ at_kind 1 kind says text h.0 (op_body_from says text h.1)
      | inr s1 ↦ elim (by_test (kind == 2) format.forward_body _ says text s1.1) [
        | inl h ↦ at_kind 2 kind says text h.0 (forward_body_from says text h.1)
        | inr s2 ↦ elim (by_test (kind == 3) format.ack_body _ says text s2.1) [
          | inl h ↦ at_kind 3 kind says text h.0 (ack_body_from says text h.1)
          | inr s3 ↦ elim (by_test (kind == 4) format.query_body format.answer_body says text s3.1) [
            | inl h ↦ at_kind 4 kind says text h.0 (query_body_from says text h.1)
            | inr s4 ↦
                let n1 = eqb-false kind 1 s1.0 in
                let n2 = eqb-false kind 2 s2.0 in
                let n3 = eqb-false kind 3 s3.0 in
                let n4 = eqb-false kind 4 s4.0 in
                let low = k.some in
                let high = k.most in
                let five : kind ≡ 5 = last kind low high n1 n2 n3 n4 in
                subst (λ k. SentBody k says text) (sym five) (answer_body_from says text s4.1)
          ]
        ]
      ]
    ]
  where
    last : (kind : ℕ)
        → 1 ≤ kind
        → kind ≤ 5
        → (kind ≡ 1 → ⊥)
        → (kind ≡ 2 → ⊥)
        → (kind ≡ 3 → ⊥)
        → (kind ≡ 4 → ⊥)
        → kind ≡ 5
    last kind low high n1 n2 n3 n4 = omega arith

body_to : (says : Body) → IsBody says → (format.body (kind_of says)).Spells says (body_spelling says)
body_to (bodies.Op id call) h =
    let o = subst (λ all. (format.operation all).Spells call.op (op_spelling call.op)) h.3.1
    (op_to call.op h.3.0 h.5 h.4) in (
      id,
      eight_bytes id,
      target_spelling call.target ++ op_spelling call.op,
      (h.1, positive_to id h.0, refl),
      (
        call.target,
        target_spelling call.target,
        op_spelling call.op,
        target_to call.target h.2,
        to_made (format.operation (is_all call.target)) (λ op. bodies.Op id (record { target = call.target; op = op }))
            call.op (op_spelling call.op) o,
        refl,
      ),
      refl,
    )
body_to (bodies.Forward e) h =
    let entry = h.entry in
    let r = subst (λ all. (format.reply all).Spells e.reply (reply_spelling e.reply)) entry.flushed
    (reply_to e.reply h.reply entry.answered) in
    let c = subst (λ all. (format.change all e.number).Spells e.change (change_spelling e.change)) entry.cleared
    (change_to e.number e.change h.change entry.put) in (
      e.number,
      eight_bytes e.number,
      _,
      (h.number, positive_to e.number entry.numbered, refl),
      (
        e.origin,
        e.origin ∷ [],
        _,
        (lt-ltb e.origin 16 entry.served, refl),
        (
          e.id,
          eight_bytes e.id,
          _,
          (h.id, positive_to e.id entry.called, refl),
          (
            e.target,
            target_spelling e.target,
            _,
            target_to e.target h.target,
            (
              e.reply,
              reply_spelling e.reply,
              change_spelling e.change,
              r,
              to_made (format.change (is_all e.target) e.number)
                  (λ done. bodies.Forward
                  (record {
                    number = e.number;
                    origin = e.origin;
                    id = e.id;
                    target = e.target;
                    reply = e.reply;
                    change = done;
                  })) e.change (change_spelling e.change) c,
              refl,
            ),
            refl,
          ),
          refl,
        ),
        refl,
      ),
      refl,
    )
body_to (bodies.Ack n) h = amount_to bodies.Ack n h
body_to (bodies.Query ask key) h = (
  ask,
  eight_bytes ask,
  key_spelling key,
  (h.1, positive_to ask h.0, refl),
  to_made format.key (bodies.Query ask) key (key_spelling key) (key_to key h.2),
  refl,
)
body_to (bodies.Answer ask n) h =
    (ask, eight_bytes ask, eight_bytes n, (h.1, positive_to ask h.0, refl), amount_to (bodies.Answer ask) n h.2, refl)

-- ---- frames

message_from : (kind : ℕ) (f : Frame) (text : List ℕ)
    → IsKind kind
    → (format.message kind).Spells f text
    → SentFrame kind f text
message_from kind f text k s =
    let m = from_made (format.body kind) (λ says. Peer (record { view = s.0; body = says })) f s.2 s.4 in
    let b = body_from kind m.0 s.2 k m.1 in
    let spelled : text ≡ to_be_bytes w16 s.0 ++ body_spelling m.0 =
    joined text s.1 s.2 (to_be_bytes w16 s.0) (body_spelling m.0) s.5 s.3.2 b.spelled in
    subst (λ f. SentFrame kind f text) (sym m.2) (
      (s.3.0, b.whole),
      ap (λ (t : List ℕ). 2 ∷ kind ∷ t) spelled
          ∙ ap (λ (k : ℕ). 2 ∷ k ∷ (to_be_bytes w16 s.0 ++ body_spelling m.0)) (sym b.kind_is),
    )

of_kind_from : (kind : ℕ) (f : Frame) (text : List ℕ) → (format.of_kind kind).Spells f text → SentFrame kind f text
of_kind_from kind f text s0 =
    elim (by_test (kind == 0) _ _ f text s0) [
      | inl h ↦
          let m = from_made (byte (at_most 16)) Hello f text h.1 in
          subst (λ f. SentFrame kind f text) (sym m.2) (
            at_most_is 16 m.0 m.1.0,
            ap (λ (k : ℕ). 2 ∷ k ∷ text) (eqb-true kind 0 h.0)
                ∙ ap (λ (t : List ℕ). 2 ∷ 0 ∷ t) m.1.1,
          )
      | inr s1 ↦ elim (by_test (kind == 6) _ _ f text s1.1) [
        | inl h ↦
            let m = from_made (byte (below 16)) Gone f text h.1 in
            subst (λ f. SentFrame kind f text) (sym m.2) (
              below_is 16 m.0 m.1.0,
              ap (λ (k : ℕ). 2 ∷ k ∷ text) (eqb-true kind 6 h.0)
                  ∙ ap (λ (t : List ℕ). 2 ∷ 6 ∷ t) m.1.1,
            )
        | inr s2 ↦ elim (by_test (nat_lt 6 kind) (format.greeting kind) (format.message kind) f text s2.1) [
          | inl h ↦ greeting_from kind f text h.1
          | inr s3 ↦ message_from kind f text
              (kind_is kind (eqb-false kind 0 s1.0) (eqb-false kind 6 s2.0) (ltb-false 6 kind s3.0)) s3.1
        ]
      ]
    ]
  where
    kind_is : (kind : ℕ) → (kind ≡ 0 → ⊥) → (kind ≡ 6 → ⊥) → kind ≤ 6 → IsKind kind
    kind_is kind n0 n6 most = record { some = omega arith; most = omega arith }

-- what the format spells is a frame in range, by its spelling
pub frame_from : (f : Frame) (text : List ℕ) → format.frame.Spells f text → IsFrame f × (text ≡ spelling f)
frame_from f text s =
    let kind = s.4 in
    let h = of_kind_from kind.0 f kind.2 kind.4 in
    let behind : s.2 ≡ kind.0 ∷ kind.2 = joined s.2 kind.1 kind.2 (kind.0 ∷ []) kind.2 kind.5 kind.3.1 refl in
    let two : s.1 ≡ 2 ∷ [] = s.3.1 ∙ ap (λ (n : ℕ). n ∷ []) (eqb-true s.0 2 s.3.0) in
    (h.0, joined text s.1 s.2 (2 ∷ []) (kind.0 ∷ kind.2) s.5 two behind ∙ h.1)

of_kind_to : (f : Frame)
    → IsFrame f
    → (kind : ℕ) × (text : List ℕ) × (format.of_kind kind).Spells f text × (spelling f ≡ 2 ∷ kind ∷ text)
of_kind_to (Hello id) h = (0, id ∷ [], to_made (byte (at_most 16)) Hello id (id ∷ []) (le-leb id 16 h, refl), refl)
of_kind_to (Gone id) h = (6, id ∷ [], to_made (byte (below 16)) Gone id (id ∷ []) (lt-ltb id 16 h, refl), refl)
of_kind_to (frames.Introduction opener) h = (7, introduction_spelling opener, introduction_to opener h, refl)
of_kind_to (Accepted answer) h = (8, acceptance_spelling answer, acceptance_to answer h, refl)
of_kind_to (Refused reason) h = (9, code_of reason ∷ [], refusal_to reason, refl)
of_kind_to (Noted id) h = (10, id ∷ [], to_made (byte (below 16)) Noted id (id ∷ []) (lt-ltb id 16 h, refl), refl)
of_kind_to (Reign epoch) h = (11, eight_bytes epoch, amount_to Reign epoch h, refl)
of_kind_to (frames.Beat beat) h = (12, beat_spelling beat, beat_to beat h, refl)
of_kind_to (frames.Alive alive) h = (13, alive_spelling alive, alive_to alive h, refl)
of_kind_to (frames.Silent silent) h = (14, silent_spelling silent, silence_to silent h, refl)
of_kind_to (Confirmed count) h = (15, eight_bytes count, amount_to Confirmed count h, refl)
of_kind_to (Stalled servers) h =
    (16, two_bytes servers, to_made (number w16 any) Stalled servers (two_bytes servers) (h, refl, refl), refl)
of_kind_to (Peer peer) h =
    let s : (format.message (kind_of peer.body)).Spells (Peer peer)
    (to_be_bytes w16 peer.view ++ body_spelling peer.body) = (
      peer.view,
      to_be_bytes w16 peer.view,
      body_spelling peer.body,
      (h.0, refl, refl),
      to_made (format.body (kind_of peer.body)) (λ says. Peer (record { view = peer.view; body = says }))
          peer.body (body_spelling peer.body) (body_to peer.body h.1),
      refl,
    ) in (
      kind_of peer.body,
      to_be_bytes w16 peer.view ++ body_spelling peer.body,
      of_message peer.body (Peer peer) _ s,
      refl,
    )
  where
    of_message : (says : Body) (f : Frame) (text : List ℕ)
        → (format.message (kind_of says)).Spells f text
        → (format.of_kind (kind_of says)).Spells f text
    of_message (bodies.Op id call) f text s = s
    of_message (bodies.Forward e) f text s = s
    of_message (bodies.Ack n) f text s = s
    of_message (bodies.Query ask key) f text s = s
    of_message (bodies.Answer ask n) f text s = s

-- the format spells each frame that is in range
pub frame_to : (f : Frame) → IsFrame f → format.frame.Spells f (spelling f)
frame_to f h =
    let k = of_kind_to f h in
    (2, 2 ∷ [], k.0 ∷ k.1, (refl, refl), (k.0, k.0 ∷ [], k.1, (refl, refl), k.2, refl), k.3)
