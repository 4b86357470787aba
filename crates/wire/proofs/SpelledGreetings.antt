-- The same of the frames of greetings.
use Rattle.std.proofs.Common.{◌≡◌, ℕ, List, [], ◌∷◌, ◌++◌, refl, sym, ap, subst, ◌∙◌, inl, inr}
use Rattle.std.specs.Prelude.{nat_le, ◌==◌}
use Rattle.std.specs.Int.{w16, to_be_bytes}
use Rattle.std.proofs.lemmas.Bool.{leb-true, le-leb, and_parts, and_from}
use Rattle.wire.specs.declared.frames.Frame.{Frame}
use Rattle.wire.specs.declared.frames.Frame.TheVariants.{Accepted, Refused, Noted}
use Rattle.wire.specs.declared.frames.Frame.TheVariants as frames
use Rattle.wire.specs.declared.greetings.Introduction.{Introduction}
use Rattle.wire.specs.declared.greetings.Acceptance.{Acceptance}
use Rattle.wire.specs.declared.greetings.Reason.{Reason}
use Rattle.wire.specs.declared.greetings.Reason.TheVariants as reasons
use Rattle.wire.specs.Spellings.{eight_bytes, key_spelling, introduction_spelling, acceptance_spelling, code_of}
use Rattle.wire.specs.Spellings.{IsIntroduction, IsAcceptance}
use Rattle.wire.specs.Parts.{followed, makes, byte, number}
use Rattle.wire.specs.Grammar as format
use Rattle.wire.specs.Grammar.{any, below}
use Rattle.wire.proofs.Spelled.{by_test, from_made, to_made, below_is, joined, key_from, key_to, by_value}
use Rattle.wire.proofs.SpelledWatching.{SentFrame, at_kind, watching_from}

-- ---- the opener

introduction_from : (f : Frame) (text : List ℕ) → format.introduction.Spells f text → SentFrame 7 f text
introduction_from f text s =
    let start = s.4 in
    let m = from_made format.key
    (λ chain. frames.Introduction (record { servers = s.0; start = start.0; chain = chain })) f start.2 start.4 in
    let chain = key_from m.0 start.2 m.1 in
    let count = and_parts (nat_le 1 s.0) (nat_le s.0 16) s.3.0 in
    let behind : s.2 ≡ eight_bytes start.0 ++ key_spelling m.0 =
    joined s.2 start.1 start.2 (eight_bytes start.0) (key_spelling m.0) start.5 start.3.2 chain.0 in
    subst (λ f. SentFrame 7 f text) (sym m.2) (
      (leb-true 1 s.0 count.0, leb-true s.0 16 count.1, start.3.0, chain.1),
      ap (λ (t : List ℕ). 2 ∷ 7 ∷ t)
          (joined text s.1 s.2 (s.0 ∷ []) (eight_bytes start.0 ++ key_spelling m.0) s.5 s.3.1 behind),
    )

-- the format spells each introduction that is in range by its bytes
pub introduction_to : (opener : Introduction)
    → IsIntroduction opener
    → format.introduction.Spells (frames.Introduction opener) (introduction_spelling opener)
introduction_to opener h = (
  opener.servers,
  opener.servers ∷ [],
  eight_bytes opener.start ++ key_spelling opener.chain,
  (
    and_from (nat_le 1 opener.servers) (nat_le opener.servers 16) (le-leb 1 opener.servers h.0)
        (le-leb opener.servers 16 h.1),
    refl,
  ),
  (
    opener.start,
    eight_bytes opener.start,
    key_spelling opener.chain,
    (h.2, refl, refl),
    to_made format.key
        (λ chain. frames.Introduction
        (record { servers = opener.servers; start = opener.start; chain = chain })) opener.chain
        (key_spelling opener.chain) (key_to opener.chain h.3),
    refl,
  ),
  refl,
)

-- ---- the answers

acceptance_from : (f : Frame) (text : List ℕ) → format.acceptance.Spells f text → SentFrame 8 f text
acceptance_from f text s =
    let m = from_made (number w16 any) (λ gone. Accepted (record { start = s.0; gone = gone })) f s.2 s.4 in
    subst (λ f. SentFrame 8 f text) (sym m.2) (
      (s.3.0, m.1.0),
      ap (λ (t : List ℕ). 2 ∷ 8 ∷ t)
          (joined text s.1 s.2 (eight_bytes s.0) (to_be_bytes w16 m.0) s.5 s.3.2 m.1.2),
    )

-- the format spells each acceptance that is in range by its bytes
pub acceptance_to : (answer : Acceptance)
    → IsAcceptance answer
    → format.acceptance.Spells (Accepted answer) (acceptance_spelling answer)
acceptance_to answer h = (
  answer.start,
  eight_bytes answer.start,
  to_be_bytes w16 answer.gone,
  (h.0, refl, refl),
  to_made (number w16 any) (λ gone. Accepted (record { start = answer.start; gone = gone })) answer.gone
      (to_be_bytes w16 answer.gone) (h.1, refl, refl),
  refl,
)

-- after its code
abbrev Refusal : ℕ → Frame → List ℕ → Type 0
Refusal code f text = SentFrame 9 f (code ∷ text)

refusal_of_from : (code : ℕ) (f : Frame) (text : List ℕ)
    → (format.refusal_of code).Spells f text
    → Refusal code f text
refusal_of_from code f text s0 =
    elim (by_test (code == 1) _ _ f text s0) [
      | inl h ↦ by_value Refusal (Refused reasons.Servers) 1 code f text h.0 (tt, refl) h.1
      | inr s1 ↦ elim (by_test (code == 2) _ _ f text s1.1) [
        | inl h ↦ by_value Refusal (Refused reasons.Chain) 2 code f text h.0 (tt, refl) h.1
        | inr s2 ↦ elim (by_test (code == 3) _ _ f text s2.1) [
          | inl h ↦ by_value Refusal (Refused reasons.Taken) 3 code f text h.0 (tt, refl) h.1
          | inr s3 ↦ elim (by_test (code == 4) _ _ f text s3.1) [
            | inl h ↦ by_value Refusal (Refused reasons.Gone) 4 code f text h.0 (tt, refl) h.1
            | inr s4 ↦ elim (by_test (code == 5) _ _ f text s4.1) [
              | inl h ↦ by_value Refusal (Refused reasons.Format) 5 code f text h.0 (tt, refl) h.1
              | inr s5 ↦ absurd s5.1
            ]
          ]
        ]
      ]
    ]

refusal_from : (f : Frame) (text : List ℕ) → format.refusal.Spells f text → SentFrame 9 f text
refusal_from f text s =
    let spelled : s.0 ∷ s.2 ≡ text = sym (s.5 ∙ ap (λ (t : List ℕ). t ++ s.2) s.3.1) in
    subst (λ t. SentFrame 9 f t) spelled (refusal_of_from s.0 f s.2 s.4)

-- the format spells each refusal by its code
pub refusal_to : (reason : Reason) → format.refusal.Spells (Refused reason) (code_of reason ∷ [])
refusal_to reasons.Servers = (1, 1 ∷ [], [], (refl, refl), (refl, refl), refl)
refusal_to reasons.Chain = (2, 2 ∷ [], [], (refl, refl), (refl, refl), refl)
refusal_to reasons.Taken = (3, 3 ∷ [], [], (refl, refl), (refl, refl), refl)
refusal_to reasons.Gone = (4, 4 ∷ [], [], (refl, refl), (refl, refl), refl)
refusal_to reasons.Format = (5, 5 ∷ [], [], (refl, refl), (refl, refl), refl)

noted_from : (f : Frame) (text : List ℕ)
    → (followed (byte (below 16)) (λ id. makes (Noted id))).Spells f text
    → SentFrame 10 f text
noted_from f text s =
    let m = from_made (byte (below 16)) Noted f text s in
    subst (λ f. SentFrame 10 f text) (sym m.2) (below_is 16 m.0 m.1.0, ap (λ (t : List ℕ). 2 ∷ 10 ∷ t) m.1.1)

-- ---- by kinds

-- what the format spells from kind 7 on is a frame of that kind, by its bytes
pub greeting_from : (kind : ℕ) (f : Frame) (text : List ℕ)
    → (format.greeting kind).Spells f text
    → SentFrame kind f text
greeting_from kind f text s0 =
    elim (by_test (kind == 7) format.introduction _ f text s0) [
      | inl h ↦ at_kind 7 kind f text h.0 (introduction_from f text h.1)
      | inr s1 ↦ elim (by_test (kind == 8) format.acceptance _ f text s1.1) [
        | inl h ↦ at_kind 8 kind f text h.0 (acceptance_from f text h.1)
        | inr s2 ↦ elim (by_test (kind == 9) format.refusal _ f text s2.1) [
          | inl h ↦ at_kind 9 kind f text h.0 (refusal_from f text h.1)
          | inr s3 ↦ elim (by_test (kind == 10) _ (format.watching kind) f text s3.1) [
            | inl h ↦ at_kind 10 kind f text h.0 (noted_from f text h.1)
            | inr s4 ↦ watching_from kind f text s4.1
          ]
        ]
      ]
    ]
