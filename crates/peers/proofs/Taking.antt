-- How the frames of a stream are taken, one read after another.
use Rattle.std.proofs.Common.{◌≡◌, ℕ, false, List, [], ◌∷◌, ◌++◌, refl, sym, ap, subst, ◌∙◌, append_assoc, append-nil}
use Rattle.std.proofs.Common.{Result, Ok, Err, OnErr}
use Rattle.wire.specs.declared.ends.PeerEnd.{PeerEnd}
use Rattle.wire.specs.declared.ends.PeerEnd.TheVariants as ends
use Rattle.wire.specs.declared.frames.Frame.{Frame}
use Rattle.wire.specs.Spellings.{IsFrame, spelling}
use Rattle.wire.specs.Grammar.{IsFirst}
use Rattle.wire.specs.Streams.{Held, fed, frames_in}
use Rattle.wire.specs.Ends.{AreFirst, IsEnd}
use Rattle.wire.proofs.FrontLaws.{nothing_read}
use Rattle.wire.proofs.EndLaws.{ends_there, none_yet, one_more, more_behind, then_frames, frames_behind, end_behind}
use Rattle.wire.specs.declared.fields.Stop.TheVariants.{Short}
use Rattle.peers.specs.Links.{TakesAll, TakesBeginning, TakesFirst}

-- a source gave nothing more
pub given_still : (before read now then : List ℕ) → now ≡ before ++ read → then ≡ now ++ [] → then ≡ before ++ read
given_still before read now then e none = none ∙ append-nil now ∙ e

-- nothing was read, and nothing was taken
pub none_taken : (before : List Frame) → TakesFirst [] [] before before
none_taken before = record { handed = []; first = none_yet []; taken = sym (append-nil before) }

-- a stream that ends before its first byte ends by its input
pub nothing_ends : IsEnd [] ends.Input
nothing_ends = ends_there [] (Short 1) nothing_read

-- a frame that is refused leaves those that were taken
pub none_more : {X E : Type 0} (r : Result X E) (bytes rest : List ℕ) (before now after : List Frame)
    → TakesFirst bytes rest before now
    → after ≡ now
    → OnErr r ((left : List ℕ) × TakesFirst bytes left before after)
none_more (Ok x) bytes rest before now after t same = tt
none_more (Err e) bytes rest before now after t same =
    (rest, record { handed = t.handed; first = t.first; taken = same ∙ t.taken })

-- no frame is left
pub taken_all : (end : PeerEnd) (read rest : List ℕ) (before after : List Frame) → TakesFirst read rest before after
    → IsEnd rest end → TakesAll end read before after
taken_all end read rest before after t stops =
    let all : frames_in read ≡ t.handed =
    frames_behind t.handed read rest t.first ∙ ap (λ (fs : List Frame). t.handed ++ fs) stops.no_frames
    ∙ append-nil t.handed in
    record {
      taken = t.taken ∙ ap (λ (fs : List Frame). before ++ fs) (sym all);
      ends_so = end_behind t.handed read rest t.first ∙ stops.ends_so;
    }

-- frames may be left
pub taken_beginning : (read rest : List ℕ) (before after : List Frame) → TakesFirst read rest before after
    → TakesBeginning read before after
taken_beginning read rest before after t = record {
  handed = t.handed;
  later = frames_in rest;
  all = frames_behind t.handed read rest t.first;
  taken = t.taken;
}

-- more frames are taken
then_taken : (read rest left : List ℕ) (before between after : List Frame) → TakesFirst read rest before between
    → TakesFirst rest left between after → TakesFirst read left before after
then_taken read rest left before between after s t = record {
  handed = s.handed ++ t.handed;
  first = then_frames s.handed t.handed read rest left s.first t.first;
  taken = t.taken ∙ ap (λ (fs : List Frame). fs ++ t.handed) s.taken ∙ append_assoc before s.handed t.handed;
}

-- an open reader takes a piece, and stays open
fed_unread : (held : Held) (piece : List ℕ) → held.closed ≡ false → (fed held piece).unread ≡ held.unread ++ piece
fed_unread held piece unclosed = rw unclosed refl

-- a piece more was read
pub piece_read : (read rest piece : List ℕ) (before after : List Frame) → TakesFirst read rest before after
    → TakesFirst (read ++ piece) (rest ++ piece) before after
piece_read read rest piece before after t = record {
  handed = t.handed;
  first = more_behind t.handed read rest piece t.first;
  taken = t.taken;
}

-- a piece more was read and fed, and frames of it were taken
pub piece_taken : (read piece left : List ℕ) (held more : Held) (before between after : List Frame)
    → held.closed ≡ false
    → more ≡ fed held piece
    → TakesFirst read held.unread before between
    → TakesFirst more.unread left between after
    → TakesFirst (read ++ piece) left before after
piece_taken read piece left held more before between after unclosed e s t =
    let unread : more.unread ≡ held.unread ++ piece = ap (λ (h : Held). h.unread) e ∙ fed_unread held piece unclosed in
    then_taken (read ++ piece) (held.unread ++ piece) left before between after
    (piece_read read held.unread piece before between s)
    (subst (λ bytes. TakesFirst bytes left between after) unread t)

-- frames and nothing after them
frames_whole : (fs : List Frame) (bytes : List ℕ) → AreFirst fs bytes [] → frames_in bytes ≡ fs
frames_whole fs bytes h = frames_behind fs bytes [] h ∙ append-nil fs

-- a history of frames is longer by one
module _ (old new : List ℕ) (f : Frame) (h : AreFirst (frames_in old) old []) (in_range : IsFrame f)
    (e : new ≡ old ++ spelling f)
  where
    longer_by_one : AreFirst (frames_in old ++ f ∷ []) new []
    longer_by_one =
        let first : IsFirst f (spelling f) [] =
        record { in_range = in_range; spelled = sym (append-nil (spelling f)) }
        in
        subst (λ (bytes : List ℕ). AreFirst (frames_in old ++ f ∷ []) bytes []) (sym e)
        (one_more (frames_in old) f (old ++ spelling f) (spelling f) []
        (more_behind (frames_in old) old [] (spelling f) h) first)

    pub history_grows : frames_in new ≡ frames_in old ++ f ∷ []
    history_grows = frames_whole (frames_in old ++ f ∷ []) new longer_by_one

    pub history_stays_whole : AreFirst (frames_in new) new []
    history_stays_whole = subst (λ (fs : List Frame). AreFirst fs new []) (sym history_grows) longer_by_one
