-- What stands after the frames of a stream, how it ends, and that what was written in turn is read in turn.
use Rattle.std.proofs.Common.{◌≡◌, ℕ, zero, suc, ◌<◌, ◌≤◌, List, [], ◌∷◌, ◌++◌, length, take, drop, Ok, Err, refl, sym}
use Rattle.std.proofs.Common.{ap, ◌∙◌, append_assoc, arith, inl, inr, length-drop}
use Rattle.std.specs.List.{flat_map, AllByRecursion}
use Rattle.std.proofs.lemmas.Bool.{cases_lt}
use Rattle.std.proofs.lemmas.List.{take_at, drop_at, take-append-drop, take-append-le, drop-append-le}
use Rattle.std.proofs.lemmas.List.Concat.{flat_map-cons, flat_map-append}
use Rattle.wire.specs.declared.ends.PeerEnd.TheVariants as ends
use Rattle.wire.specs.declared.fields.Stop.{Stop}
use Rattle.wire.specs.declared.fields.Stop.TheVariants.{Short, Malformed, Old}
use Rattle.wire.specs.declared.frames.Frame.{Frame}
use Rattle.wire.specs.Spellings.{IsFrame, spelling}
use Rattle.wire.specs.Grammar.{HasFrame, IsFirst, IsMalformed, IsOld, IsPartial}
use Rattle.wire.specs.Fronts.{Read, front}
use Rattle.wire.specs.Streams.{and_later, frames_upto, frames_in}
use Rattle.wire.specs.Ends.{AreFirst, IsEnd, behind, rest_upto, rest_in, end_at, end_in}
use Rattle.wire.proofs.Readers.{IsBytes, bytes_behind}
use Rattle.wire.proofs.FrontLaws.{first_from, first_to, malformed_from, malformed_to, old_from, old_to, partial_from}
use Rattle.wire.proofs.FrontLaws.{front_takes, ok_not_err, nothing_read, beginning_short}
use Rattle.wire.proofs.StreamLaws.{frames_none, frames_some, written_again}

-- ---- what stands after

-- a count that reaches the end leaves the same
rest_fuel : (k j : ℕ) (bytes : List ℕ) → length bytes ≤ k → length bytes ≤ j → rest_upto k bytes ≡ rest_upto j bytes
rest_fuel zero zero bytes hk hj = refl
rest_fuel zero (suc j) bytes hk hj = by_front (front bytes) refl
  where
    by_front : (r : Read Frame) → front bytes ≡ r → bytes ≡ behind r bytes (rest_upto j)
    by_front (Err s) e = refl
    by_front (Ok x) e = let less = front_takes bytes x.0 x.1 e in absurd (omega arith)
rest_fuel (suc k) zero bytes hk hj = by_front (front bytes) refl
  where
    by_front : (r : Read Frame) → front bytes ≡ r → behind r bytes (rest_upto k) ≡ bytes
    by_front (Err s) e = refl
    by_front (Ok x) e = let less = front_takes bytes x.0 x.1 e in absurd (omega arith)
rest_fuel (suc k) (suc j) bytes hk hj = by_front (front bytes) refl (λ rest below low. rest_fuel k j rest below low)
  where
    by_front : (r : Read Frame)
        → front bytes ≡ r
        → ((rest : List ℕ) → length rest ≤ k → length rest ≤ j → rest_upto k rest ≡ rest_upto j rest)
        → behind r bytes (rest_upto k) ≡ behind r bytes (rest_upto j)
    by_front (Err s) e ih = refl
    by_front (Ok x) e ih = let less = front_takes bytes x.0 x.1 e in ih x.1 (omega arith) (omega arith)

-- with no frame at the front, all of it
rest_none : (bytes : List ℕ) (s : Stop) → front bytes ≡ Err s → rest_in bytes ≡ bytes
rest_none bytes s e = by_length (length bytes)
  where
    by_length : (k : ℕ) → rest_upto k bytes ≡ bytes
    by_length zero = refl
    by_length (suc k) = ap (λ r. behind r bytes (rest_upto k)) e

rest_some : (bytes : List ℕ) (f : Frame) (rest : List ℕ) → front bytes ≡ Ok (f, rest) → rest_in bytes ≡ rest_in rest
rest_some bytes f rest e = by_length (length bytes) refl
  where
    by_length : (k : ℕ) → length bytes ≡ k → rest_upto k bytes ≡ rest_in rest
    by_length zero is = let less = front_takes bytes f rest e in absurd (omega arith)
    by_length (suc k) is =
        let less = front_takes bytes f rest e in
        ap (λ r. behind r bytes (rest_upto k)) e ∙ rest_fuel k (length rest) rest (omega arith) (omega arith)

-- ---- ends

end_some : (bytes : List ℕ) (f : Frame) (rest : List ℕ) → front bytes ≡ Ok (f, rest) → end_in bytes ≡ end_in rest
end_some bytes f rest e = ap (λ (r : List ℕ). end_at (front r)) (rest_some bytes f rest e)

-- if reading stops the stream ends so
pub ends_there : (bytes : List ℕ) (s : Stop) → front bytes ≡ Err s → IsEnd bytes (end_at (Err s))
ends_there bytes s e = record {
  no_frames = frames_none bytes s e;
  ends_so = ap (λ (r : List ℕ). end_at (front r)) (rest_none bytes s e) ∙ ap end_at e;
}

-- at a bad front no frame is left, and a stream ends so
pub malformed_ends : (bytes : List ℕ) → IsMalformed bytes → IsEnd bytes ends.Malformed
malformed_ends bytes h = ends_there bytes Malformed (malformed_to bytes h)

-- at an older server's front no frame is left, and a stream ends so
pub old_ends : (bytes : List ℕ) → IsOld bytes → IsEnd bytes ends.Old
old_ends bytes h = ends_there bytes Old (old_to bytes h)

-- reading stops after the frames
rest_stops : (bytes : List ℕ) → (s : Stop) × (front (rest_in bytes) ≡ Err s)
rest_stops bytes = by_length (length bytes) bytes (omega arith)
  where
    by_length : (k : ℕ) (bytes : List ℕ) → length bytes ≤ k → (s : Stop) × (front (rest_upto k bytes) ≡ Err s)
    by_length zero bytes le = by_front (front bytes) refl
      where
        by_front : (r : Read Frame) → front bytes ≡ r → (s : Stop) × (front bytes ≡ Err s)
        by_front (Err s) e = (s, e)
        by_front (Ok x) e = let less = front_takes bytes x.0 x.1 e in absurd (omega arith)
    by_length (suc k) bytes le = by_front (front bytes) refl (λ rest low. by_length k rest low)
      where
        by_front : (r : Read Frame)
            → front bytes ≡ r
            → ((rest : List ℕ) → length rest ≤ k → (s : Stop) × (front (rest_upto k rest) ≡ Err s))
            → (s : Stop) × (front (behind r bytes (rest_upto k)) ≡ Err s)
        by_front (Err s) e ih = (s, e)
        by_front (Ok x) e ih = let less = front_takes bytes x.0 x.1 e in ih x.1 (omega arith)

-- no frame stands after the frames of a stream
pub no_more : (bytes : List ℕ) → HasFrame (rest_in bytes) → ⊥
no_more bytes h =
    let stop = rest_stops bytes in
    ok_not_err (front (rest_in bytes)) (h.0, h.1) stop.0 (first_to (rest_in bytes) h.0 h.1 h.2) stop.1

-- ---- frames in turn

-- a frame, and those after it
first_and_later : (f : Frame) (fs : List Frame) (bytes rest more : List ℕ)
    → IsFirst f bytes rest
    → AreFirst fs rest more
    → AreFirst (f ∷ fs) bytes more
first_and_later f fs bytes rest more first later = record {
  in_range = (first.in_range, later.in_range);
  spelled =
      first.spelled ∙ ap (λ (t : List ℕ). spelling f ++ t) later.spelled
      ∙ sym (append_assoc (spelling f) (flat_map spelling fs) more)
      ∙ ap (λ (t : List ℕ). t ++ more) (sym (flat_map-cons spelling f fs));
}

-- the frames of a stream follow one another from its front
pub frames_are_first : (bytes : List ℕ) → IsBytes bytes → AreFirst (frames_in bytes) bytes (rest_in bytes)
frames_are_first bytes fits = by_length (length bytes) bytes fits
  where
    by_length : (k : ℕ) (bytes : List ℕ) → IsBytes bytes → AreFirst (frames_upto k bytes) bytes (rest_upto k bytes)
    by_length zero bytes fits = record { in_range = tt; spelled = refl }
    by_length (suc k) bytes fits = by_front (front bytes) refl (λ rest fits. by_length k rest fits)
      where
        by_front : (r : Read Frame)
            → front bytes ≡ r
            → ((rest : List ℕ) → IsBytes rest → AreFirst (frames_upto k rest) rest (rest_upto k rest))
            → AreFirst (and_later r (frames_upto k)) bytes (behind r bytes (rest_upto k))
        by_front (Err s) e ih = record { in_range = tt; spelled = refl }
        by_front (Ok x) e ih =
            let first = first_from bytes x.0 x.1 fits e in
            first_and_later x.0 (frames_upto k x.1) bytes x.1 (rest_upto k x.1) first
            (ih x.1 (bytes_behind (spelling x.0) x.1 bytes first.spelled fits))

-- frames that follow one another from the front are the first ones of the stream
pub frames_behind : (fs : List Frame) (bytes rest : List ℕ)
    → AreFirst fs bytes rest
    → frames_in bytes ≡ fs ++ frames_in rest
frames_behind fs bytes rest h = ap frames_in h.spelled ∙ written_again fs rest h.in_range

-- the end of a stream is that of the bytes after frames that follow one another from its front
pub end_behind : (fs : List Frame) (bytes rest : List ℕ) → AreFirst fs bytes rest → end_in bytes ≡ end_in rest
end_behind fs bytes rest h = ap end_in h.spelled ∙ again fs h.in_range
  where
    again : (fs : List Frame) → AllByRecursion IsFrame fs → end_in (flat_map spelling fs ++ rest) ≡ end_in rest
    again [] h = refl
    again (f ∷ fs) h =
        let regrouped : flat_map spelling (f ∷ fs) ++ rest ≡ spelling f ++ (flat_map spelling fs ++ rest) =
        ap (λ (t : List ℕ). t ++ rest) (flat_map-cons spelling f fs)
        ∙ append_assoc (spelling f) (flat_map spelling fs) rest in
        end_some (flat_map spelling (f ∷ fs) ++ rest) f (flat_map spelling fs ++ rest)
        (first_to (flat_map spelling (f ∷ fs) ++ rest) f (flat_map spelling fs ++ rest)
        (record { in_range = h.0; spelled = regrouped }))
        ∙ again fs h.1

-- at first no frame has been handed on
pub none_yet : (bytes : List ℕ) → AreFirst [] bytes bytes
none_yet bytes = record { in_range = tt; spelled = refl }

-- frames, and those after them
all_in_range : (fs gs : List Frame)
    → AllByRecursion IsFrame fs
    → AllByRecursion IsFrame gs
    → AllByRecursion IsFrame (fs ++ gs)
all_in_range [] gs h g = g
all_in_range (f ∷ fs) gs h g = (h.0, all_in_range fs gs h.1 g)

-- several frames more from the front of the unread bytes are handed on
pub then_frames : (fs gs : List Frame) (bytes unread rest : List ℕ)
    → AreFirst fs bytes unread
    → AreFirst gs unread rest
    → AreFirst (fs ++ gs) bytes rest
then_frames fs gs bytes unread rest h g = record {
  in_range = all_in_range fs gs h.in_range g.in_range;
  spelled =
      h.spelled ∙ ap (λ (t : List ℕ). flat_map spelling fs ++ t) g.spelled
      ∙ sym (append_assoc (flat_map spelling fs) (flat_map spelling gs) rest)
      ∙ ap (λ (t : List ℕ). t ++ rest) (sym (flat_map-append spelling fs gs));
}

one_first : (f : Frame) (bytes rest : List ℕ) → IsFirst f bytes rest → AreFirst (f ∷ []) bytes rest
one_first f bytes rest first = first_and_later f [] bytes rest rest first (none_yet rest)

-- one frame more from the front of the unread bytes is handed on
pub one_more : (fs : List Frame) (f : Frame) (bytes unread rest : List ℕ)
    → AreFirst fs bytes unread
    → IsFirst f unread rest
    → AreFirst (fs ++ f ∷ []) bytes rest
one_more fs f bytes unread rest h first = then_frames fs (f ∷ []) bytes unread rest h (one_first f unread rest first)

-- a piece more comes after the unread bytes
pub more_behind : (fs : List Frame) (bytes unread piece : List ℕ)
    → AreFirst fs bytes unread
    → AreFirst fs (bytes ++ piece) (unread ++ piece)
more_behind fs bytes unread piece h = record {
  in_range = h.in_range;
  spelled = ap (λ (t : List ℕ). t ++ piece) h.spelled ∙ append_assoc (flat_map spelling fs) unread piece;
}

-- ---- what was written in turn

-- the shorter of two fronts begins the longer one
front_begins : (xs ys read more : List ℕ)
    → xs ++ ys ≡ read ++ more
    → length read ≤ length xs
    → xs ≡ read ++ drop (length read) xs
front_begins xs ys read more e le =
    let n = length read in
    let same : take n xs ≡ read = sym (take-append-le n xs ys le) ∙ ap (take n) e ∙ take_at read more n refl in
    sym (take-append-drop n xs) ∙ ap (λ (t : List ℕ). t ++ drop n xs) same

behind_fronts : (xs ys read more : List ℕ)
    → xs ++ ys ≡ read ++ more
    → length xs ≤ length read
    → ys ≡ drop (length xs) read ++ more
behind_fronts xs ys read more e le =
    let n = length xs in
    sym (drop_at xs ys n refl) ∙ ap (drop n) e ∙ drop-append-le n read more le

-- how much of some frames has come: the first of them, and no bad front
abbrev pub Come : List Frame → List ℕ → Type 0
Come fs read = (later : List Frame) × (fs ≡ frames_in read ++ later) × (end_in read ≡ ends.Input)

none_come : (fs : List Frame) (read : List ℕ) (k : ℕ) → front read ≡ Err (Short k) → Come fs read
none_come fs read k e =
    let end = ends_there read (Short k) e in (fs, ap (λ (gs : List Frame). gs ++ fs) (sym end.no_frames), end.ends_so)

first_come : (f : Frame) (fs : List Frame) (read rest : List ℕ)
    → IsFirst f read rest
    → Come fs rest
    → Come (f ∷ fs) read
first_come f fs read rest first h =
    let e = first_to read f rest first in (
      h.0,
      ap (λ (gs : List Frame). f ∷ gs) h.1 ∙ ap (λ (gs : List Frame). gs ++ h.0) (sym (frames_some read f rest e)),
      end_some read f rest e ∙ h.2,
    )

-- whatever has come of frames that were written, its frames are the first of these, and no front is bad
pub read_in_order : (fs : List Frame) (read more : List ℕ)
    → AllByRecursion IsFrame fs
    → flat_map spelling fs ≡ read ++ more
    → Come fs read
read_in_order [] [] more h e = none_come [] [] 1 nothing_read
read_in_order [] (b ∷ read) more h e = absurd cc
read_in_order (f ∷ fs) read more h e =
    let whole : spelling f ++ flat_map spelling fs ≡ read ++ more = sym (flat_map-cons spelling f fs) ∙ e in
    elim (cases_lt (length read) (length (spelling f))) [
      | inl lt ↦
          let left : 0 < length (drop (length read) (spelling f)) =
          omega (arith, length-drop (length read) (spelling f)) in
          let short = beginning_short f read (drop (length read) (spelling f)) h.0
          (front_begins (spelling f) (flat_map spelling fs) read more whole (omega arith)) left in
          none_come (f ∷ fs) read short.0 short.1
      | inr le ↦
          let rest = drop (length (spelling f)) read in
          first_come f fs read rest
          (record {
            in_range = h.0;
            spelled = front_begins read more (spelling f) (flat_map spelling fs)
                (sym whole) le;
          })
          (read_in_order fs rest more h.1 (behind_fronts (spelling f) (flat_map spelling fs) read more whole le))
    ]

-- ---- which front tells which end

-- if a stream ends with its input, what stands after its frames isn't whole
pub input_is : (bytes : List ℕ) → IsBytes bytes → end_in bytes ≡ ends.Input → IsPartial (rest_in bytes)
input_is bytes fits e = by_stop (rest_stops bytes).0 (rest_stops bytes).1
  where
    fits_behind : IsBytes (rest_in bytes)
    fits_behind = bytes_behind (flat_map spelling (frames_in bytes)) (rest_in bytes) bytes
        (frames_are_first bytes fits).spelled fits

    by_stop : (s : Stop) → front (rest_in bytes) ≡ Err s → IsPartial (rest_in bytes)
    by_stop (Short k) stopped = partial_from (rest_in bytes) k stopped
    by_stop Malformed stopped = let is : end_in bytes ≡ ends.Malformed = ap end_at stopped in absurd cc
    by_stop Old stopped = let is : end_in bytes ≡ ends.Old = ap end_at stopped in absurd cc

-- if what stands after its frames isn't whole, a stream ends with its input
pub is_input : (bytes : List ℕ) → IsBytes bytes → IsPartial (rest_in bytes) → end_in bytes ≡ ends.Input
is_input bytes fits h = by_stop (rest_stops bytes).0 (rest_stops bytes).1
  where
    fits_behind : IsBytes (rest_in bytes)
    fits_behind = bytes_behind (flat_map spelling (frames_in bytes)) (rest_in bytes) bytes
        (frames_are_first bytes fits).spelled fits

    by_stop : (s : Stop) → front (rest_in bytes) ≡ Err s → end_in bytes ≡ ends.Input
    by_stop (Short k) stopped = ap end_at stopped
    by_stop Malformed stopped = absurd (h.not_malformed (malformed_from (rest_in bytes) fits_behind stopped))
    by_stop Old stopped = absurd (h.not_old (old_from (rest_in bytes) stopped))

-- if a stream ends in a bad front, one stands after its frames
pub malformed_is : (bytes : List ℕ) → IsBytes bytes → end_in bytes ≡ ends.Malformed → IsMalformed (rest_in bytes)
malformed_is bytes fits e = by_stop (rest_stops bytes).0 (rest_stops bytes).1
  where
    fits_behind : IsBytes (rest_in bytes)
    fits_behind = bytes_behind (flat_map spelling (frames_in bytes)) (rest_in bytes) bytes
        (frames_are_first bytes fits).spelled fits

    by_stop : (s : Stop) → front (rest_in bytes) ≡ Err s → IsMalformed (rest_in bytes)
    by_stop (Short k) stopped = let is : end_in bytes ≡ ends.Input = ap end_at stopped in absurd cc
    by_stop Malformed stopped = malformed_from (rest_in bytes) fits_behind stopped
    by_stop Old stopped = let is : end_in bytes ≡ ends.Old = ap end_at stopped in absurd cc

-- if a bad front stands after its frames, a stream ends so
pub is_malformed : (bytes : List ℕ) → IsMalformed (rest_in bytes) → end_in bytes ≡ ends.Malformed
is_malformed bytes h = ap end_at (malformed_to (rest_in bytes) h)

-- if a stream ends in an older server's front, one stands after its frames
pub old_is : (bytes : List ℕ) → end_in bytes ≡ ends.Old → IsOld (rest_in bytes)
old_is bytes e = by_stop (rest_stops bytes).0 (rest_stops bytes).1
  where
    by_stop : (s : Stop) → front (rest_in bytes) ≡ Err s → IsOld (rest_in bytes)
    by_stop (Short k) stopped = let is : end_in bytes ≡ ends.Input = ap end_at stopped in absurd cc
    by_stop Malformed stopped = let is : end_in bytes ≡ ends.Malformed = ap end_at stopped in absurd cc
    by_stop Old stopped = old_from (rest_in bytes) stopped

-- if an older server's front stands after its frames, a stream ends so
pub is_old : (bytes : List ℕ) → IsOld (rest_in bytes) → end_in bytes ≡ ends.Old
is_old bytes h = ap end_at (old_to (rest_in bytes) h)
