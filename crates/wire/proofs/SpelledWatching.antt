-- The same of the frames of watching, and of those of links.
use Rattle.std.proofs.Common.{◌≡◌, ℕ, true, List, [], ◌∷◌, refl, sym, ap, subst, ◌++◌, inl, inr}
use Rattle.std.specs.Prelude.{◌==◌}
use Rattle.std.specs.Int.{w16, w64, to_be_bytes}
use Rattle.std.proofs.lemmas.Bool.{lt-ltb, eqb-true}
use Rattle.wire.specs.declared.frames.Frame.{Frame}
use Rattle.wire.specs.declared.frames.Frame.TheVariants.{Reign, Confirmed, Stalled}
use Rattle.wire.specs.declared.frames.Frame.TheVariants as frames
use Rattle.wire.specs.declared.watching.Beat.{Beat}
use Rattle.wire.specs.declared.watching.Alive.{Alive}
use Rattle.wire.specs.declared.watching.Silent.{Silent}
use Rattle.wire.specs.Spellings.{eight_bytes, beat_spelling, alive_spelling, silent_spelling, spelling}
use Rattle.wire.specs.Spellings.{IsBeat, IsAlive, IsSilent, IsFrame}
use Rattle.wire.specs.Parts.{followed, makes, byte, number}
use Rattle.wire.specs.Grammar as format
use Rattle.wire.specs.Grammar.{any, below}
use Rattle.wire.proofs.Spelled.{by_test, from_made, to_made, below_is, joined, amount_to}

-- a frame in its ranges, and what stands after its kind
abbrev pub SentFrame : ℕ → Frame → List ℕ → Type 0
SentFrame kind f text = IsFrame f × (2 ∷ kind ∷ text ≡ spelling f)

-- what is sent by one kind, if the kind is this one
pub at_kind : (n kind : ℕ) (f : Frame) (text : List ℕ)
    → (kind == n) ≡ true
    → SentFrame n f text
    → SentFrame kind f text
at_kind n kind f text e h = subst (λ k. SentFrame k f text) (sym (eqb-true kind n e)) h

-- ---- what masters send

epoch_from : (f : Frame) (text : List ℕ)
    → (followed (number w64 any) (λ epoch. makes (Reign epoch))).Spells f text
    → SentFrame 11 f text
epoch_from f text s =
    let m = from_made (number w64 any) Reign f text s in
    subst (λ f. SentFrame 11 f text) (sym m.2) (m.1.0, ap (λ (t : List ℕ). 2 ∷ 11 ∷ t) m.1.2)

beat_from : (f : Frame) (text : List ℕ) → format.beat.Spells f text → SentFrame 12 f text
beat_from f text s =
    let m = from_made (number w64 any) (λ stamp. frames.Beat (record { epoch = s.0; stamp = stamp })) f s.2 s.4 in
    subst (λ f. SentFrame 12 f text) (sym m.2) (
      (s.3.0, m.1.0),
      ap (λ (t : List ℕ). 2 ∷ 12 ∷ t) (joined text s.1 s.2 (eight_bytes s.0) (eight_bytes m.0) s.5 s.3.2 m.1.2),
    )

-- a beat in range is spelled by the format
pub beat_to : (beat : Beat) → IsBeat beat → format.beat.Spells (frames.Beat beat) (beat_spelling beat)
beat_to beat h = (
  beat.epoch,
  eight_bytes beat.epoch,
  eight_bytes beat.stamp,
  (h.0, refl, refl),
  amount_to (λ stamp. frames.Beat (record { epoch = beat.epoch; stamp = stamp })) beat.stamp h.1,
  refl,
)

silence_from : (f : Frame) (text : List ℕ) → format.silence.Spells f text → SentFrame 14 f text
silence_from f text s =
    let m = from_made (byte (below 16)) (λ id. frames.Silent (record { epoch = s.0; id = id })) f s.2 s.4 in
    subst (λ f. SentFrame 14 f text) (sym m.2) (
      (s.3.0, below_is 16 m.0 m.1.0),
      ap (λ (t : List ℕ). 2 ∷ 14 ∷ t) (joined text s.1 s.2 (eight_bytes s.0) (m.0 ∷ []) s.5 s.3.2 m.1.1),
    )

-- so is a notice of silence
pub silence_to : (silent : Silent)
    → IsSilent silent
    → format.silence.Spells (frames.Silent silent) (silent_spelling silent)
silence_to silent h = (
  silent.epoch,
  eight_bytes silent.epoch,
  silent.id ∷ [],
  (h.0, refl, refl),
  to_made (byte (below 16)) (λ id. frames.Silent (record { epoch = silent.epoch; id = id })) silent.id
      (silent.id ∷ []) (lt-ltb silent.id 16 h.1, refl),
  refl,
)

-- ---- what servers answer

alive_from : (f : Frame) (text : List ℕ) → format.alive.Spells f text → SentFrame 13 f text
alive_from f text s =
    let stamp = s.4 in
    let end = stamp.4 in
    let term = end.4 in
    let gone = term.4 in
    let m = from_made (number w16 any)
    (λ known. frames.Alive
    (record { epoch = s.0; stamp = stamp.0; end = end.0; term = term.0; gone = gone.0; known = known })) f
    gone.2 gone.4 in
    let e4 : term.2 ≡ to_be_bytes w16 gone.0 ++ to_be_bytes w16 m.0 =
    joined term.2 gone.1 gone.2 (to_be_bytes w16 gone.0) (to_be_bytes w16 m.0) gone.5 gone.3.2 m.1.2 in
    let e3 : end.2 ≡ eight_bytes term.0 ++ (to_be_bytes w16 gone.0 ++ to_be_bytes w16 m.0) =
    joined end.2 term.1 term.2 (eight_bytes term.0) _ term.5 term.3.2 e4 in
    let e2 : stamp.2 ≡ eight_bytes end.0
    ++ (eight_bytes term.0 ++ (to_be_bytes w16 gone.0 ++ to_be_bytes w16 m.0)) =
    joined stamp.2 end.1 end.2 (eight_bytes end.0) _ end.5 end.3.2 e3 in
    let e1 : s.2 ≡ eight_bytes stamp.0
    ++ (eight_bytes end.0 ++ (eight_bytes term.0 ++ (to_be_bytes w16 gone.0 ++ to_be_bytes w16 m.0))) =
    joined s.2 stamp.1 stamp.2 (eight_bytes stamp.0) _ stamp.5 stamp.3.2 e2 in
    subst (λ f. SentFrame 13 f text) (sym m.2) (
      (s.3.0, stamp.3.0, end.3.0, term.3.0, gone.3.0, m.1.0),
      ap (λ (t : List ℕ). 2 ∷ 13 ∷ t) (joined text s.1 s.2 (eight_bytes s.0) _ s.5 s.3.2 e1),
    )

-- and how a server is
pub alive_to : (alive : Alive) → IsAlive alive → format.alive.Spells (frames.Alive alive) (alive_spelling alive)
alive_to alive h = (
  alive.epoch,
  eight_bytes alive.epoch,
  _,
  (h.0, refl, refl),
  (
    alive.stamp,
    eight_bytes alive.stamp,
    _,
    (h.1, refl, refl),
    (
      alive.end,
      eight_bytes alive.end,
      _,
      (h.2, refl, refl),
      (
        alive.term,
        eight_bytes alive.term,
        _,
        (h.3, refl, refl),
        (
          alive.gone,
          to_be_bytes w16 alive.gone,
          to_be_bytes w16 alive.known,
          (h.4, refl, refl),
          to_made (number w16 any)
              (λ known. frames.Alive
              (record {
                epoch = alive.epoch;
                stamp = alive.stamp;
                end = alive.end;
                term = alive.term;
                gone = alive.gone;
                known = known;
              })) alive.known (to_be_bytes w16 alive.known) (h.5, refl, refl),
          refl,
        ),
        refl,
      ),
      refl,
    ),
    refl,
  ),
  refl,
)

-- ---- what is told of links

count_from : (f : Frame) (text : List ℕ)
    → (followed (number w64 any) (λ count. makes (Confirmed count))).Spells f text
    → SentFrame 15 f text
count_from f text s =
    let m = from_made (number w64 any) Confirmed f text s in
    subst (λ f. SentFrame 15 f text) (sym m.2) (m.1.0, ap (λ (t : List ℕ). 2 ∷ 15 ∷ t) m.1.2)

stalled_from : (f : Frame) (text : List ℕ)
    → (followed (number w16 any) (λ servers. makes (Stalled servers))).Spells f text
    → SentFrame 16 f text
stalled_from f text s =
    let m = from_made (number w16 any) Stalled f text s in
    subst (λ f. SentFrame 16 f text) (sym m.2) (m.1.0, ap (λ (t : List ℕ). 2 ∷ 16 ∷ t) m.1.2)

-- ---- by kinds

-- what stands after a kind from 15 on is sent by it
link_from : (kind : ℕ) (f : Frame) (text : List ℕ) → (format.link kind).Spells f text → SentFrame kind f text
link_from kind f text s0 =
    elim (by_test (kind == 15) _ _ f text s0) [
      | inl h ↦ at_kind 15 kind f text h.0 (count_from f text h.1)
      | inr s1 ↦ elim (by_test (kind == 16) _ _ f text s1.1) [
        | inl h ↦ at_kind 16 kind f text h.0 (stalled_from f text h.1)
        | inr s2 ↦ absurd s2.1
      ]
    ]

-- what stands after a kind from 11 on is sent by it
pub watching_from : (kind : ℕ) (f : Frame) (text : List ℕ)
    → (format.watching kind).Spells f text
    → SentFrame kind f text
watching_from kind f text s0 =
    elim (by_test (kind == 11) _ _ f text s0) [
      | inl h ↦ at_kind 11 kind f text h.0 (epoch_from f text h.1)
      | inr s1 ↦ elim (by_test (kind == 12) format.beat _ f text s1.1) [
        | inl h ↦ at_kind 12 kind f text h.0 (beat_from f text h.1)
        | inr s2 ↦ elim (by_test (kind == 13) format.alive _ f text s2.1) [
          | inl h ↦ at_kind 13 kind f text h.0 (alive_from f text h.1)
          | inr s3 ↦ elim (by_test (kind == 14) format.silence (format.link kind) f text s3.1) [
            | inl h ↦ at_kind 14 kind f text h.0 (silence_from f text h.1)
            | inr s4 ↦ link_from kind f text s4.1
          ]
        ]
      ]
    ]
