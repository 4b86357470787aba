-- The frames of a stream don't depend on how it was cut, and what was written is read again.
use Rattle.std.proofs.Common.{◌≡◌, ℕ, zero, suc, ◌≤◌, Bool, true, false, List, [], ◌∷◌, ◌++◌, length, Ok, Err, refl}
use Rattle.std.proofs.Common.{sym, ap, subst, ◌∙◌, append_assoc, arith}
use Rattle.std.specs.List.{flat_map, AllByRecursion}
use Rattle.std.proofs.lemmas.List.{append-nil}
use Rattle.std.proofs.lemmas.List.Concat.{flat_map-cons}
use Rattle.wire.specs.declared.fields.Stop.{Stop}
use Rattle.wire.specs.declared.fields.Stop.TheVariants.{Short, Malformed, Old}
use Rattle.wire.specs.declared.frames.Frame.{Frame}
use Rattle.wire.specs.Spellings.{spelling, IsFrame}
use Rattle.wire.specs.Grammar.{IsFirst, IsMalformed}
use Rattle.wire.specs.Fronts.{Read, front}
use Rattle.wire.specs.Streams.{Held, fresh, fed, taken, ReaderCall, Feed, Next, with_frame, driven, stream_of}
use Rattle.wire.specs.Streams.{and_later}
use Rattle.wire.specs.Streams.{frames_upto, frames_in}
use Rattle.wire.proofs.FrontLaws.{first_to, malformed_to, front_takes, front_stays, malformed_stays, old_stays}

-- a count that reaches the end gives all frames
fuel : (k j : ℕ) (bytes : List ℕ) → length bytes ≤ k → length bytes ≤ j → frames_upto k bytes ≡ frames_upto j bytes
fuel zero zero bytes hk hj = refl
fuel zero (suc j) bytes hk hj = by_front (front bytes) refl
  where
    by_front : (r : Read Frame) → front bytes ≡ r → [] ≡ and_later r (frames_upto j)
    by_front (Err s) e = refl
    by_front (Ok x) e = let less = front_takes bytes x.0 x.1 e in absurd (omega arith)
fuel (suc k) zero bytes hk hj = by_front (front bytes) refl
  where
    by_front : (r : Read Frame) → front bytes ≡ r → and_later r (frames_upto k) ≡ []
    by_front (Err s) e = refl
    by_front (Ok x) e = let less = front_takes bytes x.0 x.1 e in absurd (omega arith)
fuel (suc k) (suc j) bytes hk hj = by_front (front bytes) refl (λ rest below low. fuel k j rest below low)
  where
    by_front : (r : Read Frame)
        → front bytes ≡ r
        → ((rest : List ℕ) → length rest ≤ k → length rest ≤ j → frames_upto k rest ≡ frames_upto j rest)
        → and_later r (frames_upto k) ≡ and_later r (frames_upto j)
    by_front (Err s) e ih = refl
    by_front (Ok x) e ih = let less = front_takes bytes x.0 x.1 e in ap (λ (fs : List Frame). x.0 ∷ fs)
        (ih x.1 (omega arith) (omega arith))

-- nothing is read if reading stops
pub frames_none : (bytes : List ℕ) (s : Stop) → front bytes ≡ Err s → frames_in bytes ≡ []
frames_none bytes s e = by_length (length bytes)
  where
    by_length : (k : ℕ) → frames_upto k bytes ≡ []
    by_length zero = refl
    by_length (suc k) = ap (λ r. and_later r (frames_upto k)) e

-- the frame at the front, and those after it
pub frames_some : (bytes : List ℕ) (f : Frame) (rest : List ℕ)
    → front bytes ≡ Ok (f, rest)
    → frames_in bytes ≡ f ∷ frames_in rest
frames_some bytes f rest e = by_length (length bytes) refl
  where
    by_length : (k : ℕ) → length bytes ≡ k → frames_upto k bytes ≡ f ∷ frames_in rest
    by_length zero is = let less = front_takes bytes f rest e in absurd (omega arith)
    by_length (suc k) is =
        let less = front_takes bytes f rest e in
        ap (λ r. and_later r (frames_upto k)) e
        ∙ ap (λ (fs : List Frame). f ∷ fs) (fuel k (length rest) rest (omega arith) (omega arith))

-- a front that no more bytes can change
record IsEnded (bytes : List ℕ) : Type 0 where
  stop : Stop
  stays : (more : List ℕ) → front (bytes ++ more) ≡ Err stop

-- a closed reader's front is one
abbrev IsSound : Held → Type 0
IsSound h = h.closed ≡ true → IsEnded h.unread

-- the frames from now on, whatever follows
abbrev Follows : Held → List ReaderCall → Type 0
Follows h reader_calls =
    (driven h reader_calls).0 ++ frames_in (driven h reader_calls).1.unread ≡ frames_in
    (h.unread ++ stream_of reader_calls)

-- the same by what was read at the front
abbrev After : Held → List ReaderCall → Read Frame → Type 0
After h reader_calls r = with_frame (taken h r).0 (driven (taken h r).1 reader_calls).0
    ++ frames_in (driven (taken h r).1 reader_calls).1.unread ≡ frames_in (h.unread ++ stream_of reader_calls)

ended_none : (bytes more : List ℕ) → IsEnded bytes → frames_in (bytes ++ more) ≡ []
ended_none bytes more e = frames_none (bytes ++ more) e.stop (e.stays more)

ended_not_ok : (bytes : List ℕ) (x : Frame × List ℕ) → IsEnded bytes → front bytes ≡ Ok x → ⊥
ended_not_ok bytes x e ok = let read : front bytes ≡ Err e.stop = ap front (sym (append-nil bytes)) ∙ e.stays [] in cc

-- what holds of the calls that are left, at any reader
abbrev Later : List ReaderCall → Type 0
Later reader_calls = (h : Held) → IsSound h → Follows h reader_calls

after_piece : (piece : List ℕ) (reader_calls : List ReaderCall) (h : Held)
    → IsSound h
    → Later reader_calls
    → (b : Bool)
    → h.closed ≡ b
    → Follows h (Feed piece ∷ reader_calls)
after_piece piece reader_calls h sound later true e =
    let same : fed h piece ≡ h = rw e refl in
    let ended = sound e in
    subst (λ (g : Held). (driven g reader_calls).0 ++ frames_in (driven g reader_calls).1.unread
    ≡ frames_in (h.unread ++ (piece ++ stream_of reader_calls))) (sym same)
    (later h sound ∙ ended_none h.unread (stream_of reader_calls) ended
    ∙ sym (ended_none h.unread (piece ++ stream_of reader_calls) ended))
after_piece piece reader_calls h sound later false e =
    let longer : Held = record h { unread = h.unread ++ piece } in
    let same : fed h piece ≡ longer = rw e refl in
    subst (λ (g : Held). (driven g reader_calls).0 ++ frames_in (driven g reader_calls).1.unread
    ≡ frames_in (h.unread ++ (piece ++ stream_of reader_calls))) (sym same)
    (later longer (λ closed. absurd (never h.closed closed e))
    ∙ ap frames_in (append_assoc h.unread piece (stream_of reader_calls)))
  where
    never : (b : Bool) → b ≡ true → b ≡ false → ⊥
    never b closed e = cc

after_next : (reader_calls : List ReaderCall) (h : Held)
    → IsSound h
    → Later reader_calls
    → (r : Read Frame)
    → front h.unread ≡ r
    → Follows h (Next ∷ reader_calls)
after_next reader_calls h sound later (Ok x) e =
    subst (After h reader_calls) (sym e)
    (ap (λ (fs : List Frame). x.0 ∷ fs)
    (later (record h { unread = x.1 }) (λ closed. absurd (ended_not_ok h.unread x (sound closed) e)))
    ∙ sym (frames_some (h.unread ++ stream_of reader_calls) x.0 (x.1 ++ stream_of reader_calls)
    (front_stays h.unread (stream_of reader_calls) x.0 x.1 e)))
after_next reader_calls h sound later (Err (Short k)) e = subst (After h reader_calls) (sym e) (later h sound)
after_next reader_calls h sound later (Err Malformed) e =
    subst (After h reader_calls) (sym e)
    (later (record h { closed = true })
    (λ closed. record { stop = Malformed; stays = λ more. malformed_stays h.unread more e }))
after_next reader_calls h sound later (Err Old) e =
    subst (After h reader_calls) (sym e)
    (later (record h { closed = true })
    (λ closed. record { stop = Old; stays = λ more. old_stays h.unread more e }))

follows : (reader_calls : List ReaderCall) → Later reader_calls
follows [] h sound = ap frames_in (sym (append-nil h.unread))
follows (Feed piece ∷ reader_calls) h sound =
    after_piece piece reader_calls h sound (follows reader_calls) h.closed refl
follows (Next ∷ reader_calls) h sound = after_next reader_calls h sound (follows reader_calls) (front h.unread) refl

-- the frames that a reader gave, and has still to give, are those of all its bytes as one stream
pub any_cutting : (reader_calls : List ReaderCall)
    → (driven fresh reader_calls).0
    ++ frames_in (driven fresh reader_calls).1.unread ≡ frames_in (stream_of reader_calls)
any_cutting reader_calls = follows reader_calls fresh sound
  where
    sound : IsSound fresh
    sound closed = absurd cc

-- frames that were written are read again, and then what follows
pub written_again : (fs : List Frame) (more : List ℕ)
    → AllByRecursion IsFrame fs
    → frames_in (flat_map spelling fs ++ more) ≡ fs ++ frames_in more
written_again [] more h = refl
written_again (f ∷ fs) more h =
    let regrouped : flat_map spelling (f ∷ fs) ++ more ≡ spelling f ++ (flat_map spelling fs ++ more) =
    ap (λ (t : List ℕ). t ++ more) (flat_map-cons spelling f fs)
    ∙ append_assoc (spelling f) (flat_map spelling fs) more in
    frames_some (flat_map spelling (f ∷ fs) ++ more) f (flat_map spelling fs ++ more)
    (first_to (flat_map spelling (f ∷ fs) ++ more) f (flat_map spelling fs ++ more)
    (record { in_range = h.0; spelled = regrouped }))
    ∙ ap (λ (fs : List Frame). f ∷ fs) (written_again fs more h.1)

-- what was written is read again, whatever follows it, and however all of it is cut
pub written_is_read : (reader_calls : List ReaderCall) (fs : List Frame) (more : List ℕ)
    → AllByRecursion IsFrame fs
    → stream_of reader_calls ≡ flat_map spelling fs ++ more
    → (driven fresh reader_calls).0 ++ frames_in (driven fresh reader_calls).1.unread ≡ fs ++ frames_in more
written_is_read reader_calls fs more h e = any_cutting reader_calls ∙ ap frames_in e ∙ written_again fs more h

-- after a bad front nothing is read
pub bad_is_final : (f : Frame) (bytes more rest : List ℕ) → IsMalformed bytes → IsFirst f (bytes ++ more) rest → ⊥
bad_is_final f bytes more rest m h =
    both (front (bytes ++ more)) (malformed_stays bytes more (malformed_to bytes m)) (first_to (bytes ++ more) f rest h)
  where
    both : (r : Read Frame) → r ≡ Err Malformed → r ≡ Ok (f, rest) → ⊥
    both r e ok = cc
