-- What a reader of frames has of the bytes that weren't read.
use Rattle.std.proofs.Common.{◌≡◌, ℕ, ◌+◌, ◌≤◌, List, ◌++◌, length, take, drop, refl, ap}
use Rattle.std.proofs.Common.{sym, ◌∙◌, arith, Bool, true, false}
use Rattle.std.proofs.Common.{Option, Some, None, Result, Ok, Err}
use Rattle.std.proofs.Common.{◌-◌, length-drop}
use Rattle.std.proofs.lemmas.List.{drop-take}
use Rattle.node.specs.Lawful.{IsSendable}
use Rattle.node.specs.declared.messages.Body.{Body}
use Rattle.node.specs.declared.messages.Body.TheVariants as bodies
use Rattle.wire.specs.declared.frames.Frame.{Frame}
use Rattle.wire.specs.declared.frames.Frame.TheVariants as frames
use Rattle.wire.specs.Spellings.{IsBody, IsFrame, IsInRange, spelling}
use Rattle.wire.specs.Streams.{Held}
use Rattle.snapshots.specs.Fed.{IsFed}

-- a body in its ranges may be sent
body_sendable : (body : Body) → IsBody body → IsSendable body
body_sendable (bodies.Op id call) h = (h.0, h.3, h.4)
body_sendable (bodies.Forward e) h = h.entry
body_sendable (bodies.Ack n) h = tt
body_sendable (bodies.Query ask key) h = h.0
body_sendable (bodies.Answer ask n) h = h.0

-- a frame all of whose fields are in their ranges has those that no type keeps in them
pub frame_in_range : (f : Frame) → IsFrame f → IsInRange f
frame_in_range (frames.Hello id) h = h
frame_in_range (frames.Peer peer) h = body_sendable peer.body h.1
frame_in_range (frames.Gone id) h = h
frame_in_range (frames.Introduction opener) h = (h.0, h.1)
frame_in_range (frames.Accepted answer) h = tt
frame_in_range (frames.Refused reason) h = tt
frame_in_range (frames.Noted id) h = h
frame_in_range (frames.Reign epoch) h = tt
frame_in_range (frames.Beat beat) h = tt
frame_in_range (frames.Alive alive) h = tt
frame_in_range (frames.Silent silent) h = h.1
frame_in_range (frames.Confirmed count) h = tt
frame_in_range (frames.Stalled servers) h = tt

-- what stands behind the frame that was given
pub behind_given : (fed given : ℕ) (xs : List ℕ)
    → given ≤ fed
    → drop given (take fed xs) ≡ take (fed - given) (drop given xs)
behind_given fed given xs le =
    let e : given + (fed - given) ≡ fed = omega arith in
    ap (λ (k : ℕ). drop given (take k xs)) (sym e) ∙ drop-take given (fed - given) xs

-- with the first n bytes read, which are those of the frame that was given
pub taken_off : (frames : Held) (bytes left : List ℕ) (fed given n : ℕ)
    → IsFed frames bytes fed given
    → n ≡ given
    → left ≡ drop n bytes
    → IsFed frames left (fed - n) 0
taken_off frames bytes left fed given n h same is =
    rw is (rw same (record {
      has = h.has ∙ ap (λ (xs : List ℕ). held_open xs) (behind_given fed given bytes h.given_within);
      given_within = omega arith;
      fed_within = omega (arith, h.fed_within, length-drop given bytes);
    }))
  where
    held_open : List ℕ → Held
    held_open xs = record { unread = xs; closed = false }
