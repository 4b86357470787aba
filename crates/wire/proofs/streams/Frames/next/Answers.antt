use Rattle.std.proofs.Common.{◌≡◌, ◌-◌, ◌<◌, ℕ, length, drop, Ok, Err, refl, ap, sym, subst, ◌∙◌, arith}
use Rattle.wire.specs.declared.fields.Stop.TheVariants.{Short, Malformed, Old}
use Rattle.wire.specs.Grammar.{HasFrame, IsFirst, IsMalformed, IsOld, IsPartial}
use Rattle.wire.specs.Lengths.{longest}
use Rattle.wire.specs.Fronts.{front}
use Rattle.wire.specs.Streams.{Held, next_of, taken}
use Rattle.wire.proofs.Readers.{IsBytes}
use Rattle.wire.proofs.FrontLaws.{first_from, malformed_from, old_from, partial_from, frame_not_malformed}
use Rattle.wire.proofs.FrontLaws.{frame_not_old, front_takes, rest_behind, waiting, stopped_is, wanted_frame}
use Rattle.wire.proofs.FrontLaws.{wanted_not_malformed, wanted_not_old}
use Rattle.wire.proofs.FrameLengths.{short_front}
use Rattle.wire.proofs.EndLaws.{ends_there}
use Rattle.wire.proofs.streams.Frames.next.Goals as goal

waited_short : (c : goal.Then-self-gt0) → front c.args.self.now.unread ≡ Err (Short c.self.inside.missing)
waited_short c =
    ap (λ (h : Held). front h.unread) (sym c.self.view_is) ∙ waiting c.self.inside.missing c.self.inside.unread.items
    c.if-self-gt0.true c.self.invariant

waited : (c : goal.Then-self-gt0) → IsPartial c.args.self.now.unread
waited c = partial_from c.args.self.now.unread c.self.inside.missing (waited_short c)

-- while bytes are missing, what is unread is shorter than the longest frame
pub returns-then-self-gt0-clause-short : goal.returns-then-self-gt0-clause-short
returns-then-self-gt0-clause-short c = short_front c.args.self.now.unread c.self.inside.missing (waited_short c)

-- while bytes are missing, no frame is left if no more come
pub returns-then-self-gt0-clause-end : goal.returns-then-self-gt0-clause-end
returns-then-self-gt0-clause-end c = ends_there c.args.self.now.unread (Short c.self.inside.missing) (waited_short c)

-- while bytes are missing, the front isn't whole
pub returns-then-self-gt0-clause-none : goal.returns-then-self-gt0-clause-none
returns-then-self-gt0-clause-none c = waited c

-- while bytes are missing, no bad front is met
pub returns-then-self-gt0-clause-malformed : goal.returns-then-self-gt0-clause-malformed
returns-then-self-gt0-clause-malformed c = (λ e. absurd cc, λ m. absurd ((waited c).not_malformed m))

-- while bytes are missing, no older server is met
pub returns-then-self-gt0-clause-old_format : goal.returns-then-self-gt0-clause-old_format
returns-then-self-gt0-clause-old_format c = (λ e. absurd cc, λ o. absurd ((waited c).not_old o))

-- what stands after the frame is no longer than what was unread
pub overflow_sub-taken : goal.overflow_sub-taken
overflow_sub-taken c =
    let less = front_takes c.as_slice.result.now c.in-Ok.frame c.in-Ok.rest.now c.in-Ok.ensures.gives in
    let same = ap length c.as_slice.ensures in
    let len = c.len.ensures.value in
    omega arith

-- the frame that was read, of the bytes as they lie
first : (c : goal.After-advance) → IsFirst c.in-Ok.frame c.self.inside.unread.items c.in-Ok.rest.now
first c =
    first_from c.self.inside.unread.items c.in-Ok.frame c.in-Ok.rest.now
    (subst IsBytes c.as_slice.ensures c.front.ensures.bytes)
    (ap front (sym c.as_slice.ensures) ∙ c.in-Ok.ensures.gives)

-- what is left
left_is : (c : goal.After-advance) → c.advance.new.self.items ≡ c.in-Ok.rest.now
left_is c =
    c.advance.ensures.items ∙ ap (λ (n : ℕ). drop (n - length c.in-Ok.rest.now) c.self.inside.unread.items)
    c.len.ensures.value
    ∙ rest_behind c.self.inside.unread.items c.in-Ok.frame c.in-Ok.rest.now (first c)

-- the frame that is read stood at the front, and is taken off
pub returns-in-Ok-clause-frame : goal.returns-in-Ok-clause-frame
returns-in-Ok-clause-frame c =
    subst (λ (h : Held). IsFirst c.in-Ok.frame h.unread c.advance.new.self.items) c.self.view_is
    (subst (λ rest. IsFirst c.in-Ok.frame c.self.inside.unread.items rest) (sym (left_is c)) (first c))

-- with a frame read, what is held is as the definition says
pub returns-in-Ok-clause-left : goal.returns-in-Ok-clause-left
returns-in-Ok-clause-left c = λ _.
    let view : Held = record { unread = c.self.inside.unread.items; closed = c.self.inside.closed } in
    ap (λ rest. record view { unread = rest }) (left_is c)
    ∙ ap (λ r. (taken view r).1) (sym (ap front (sym c.as_slice.ensures) ∙ c.in-Ok.ensures.gives))
    ∙ ap (λ (h : Held). (next_of h).1) c.self.view_is

read_ok : (c : goal.After-advance) → front c.args.self.now.unread ≡ Ok (c.in-Ok.frame, c.in-Ok.rest.now)
read_ok c =
    ap (λ (h : Held). front h.unread) (sym c.self.view_is) ∙ ap front (sym c.as_slice.ensures) ∙ c.in-Ok.ensures.gives

-- with a frame read, no bad front is met
pub returns-in-Ok-clause-malformed : goal.returns-in-Ok-clause-malformed
returns-in-Ok-clause-malformed c = (λ e. absurd cc, λ m. absurd (frame_not_malformed _ _ (read_ok c) m))

-- with a frame read, no older server is met
pub returns-in-Ok-clause-old_format : goal.returns-in-Ok-clause-old_format
returns-in-Ok-clause-old_format c = (λ e. absurd cc, λ o. absurd (frame_not_old _ _ (read_ok c) o))

held_bytes : (c : goal.In-Err-Memory) → c.as_slice.result.now ≡ c.args.self.now.unread
held_bytes c = c.as_slice.ensures ∙ ap (λ (h : Held). h.unread) c.self.view_is

-- who runs out of memory has met no bad front
pub returns-in-Err-Memory-clause-malformed : goal.returns-in-Err-Memory-clause-malformed
returns-in-Err-Memory-clause-malformed c = (
  λ e. absurd cc,
  λ m. absurd
      (wanted_not_malformed _ _ c.in-Err-Memory.field-0-is c.in-Err-Memory.ensures.gives
      (subst IsMalformed (sym (held_bytes c)) m)),
)

-- who runs out of memory has met no older server
pub returns-in-Err-Memory-clause-old_format : goal.returns-in-Err-Memory-clause-old_format
returns-in-Err-Memory-clause-old_format c = (
  λ e. absurd cc,
  λ o. absurd
      (wanted_not_old _ _ c.in-Err-Memory.field-0-is c.in-Err-Memory.ensures.gives
      (subst IsOld (sym (held_bytes c)) o)),
)

-- who runs out of memory has a frame at the front
pub returns-in-Err-Memory-clause-wanted : goal.returns-in-Err-Memory-clause-wanted
returns-in-Err-Memory-clause-wanted c =
    λ _. subst HasFrame (held_bytes c)
    (wanted_frame _ _ c.front.ensures.bytes c.in-Err-Memory.field-0-is c.in-Err-Memory.ensures.gives)

read_short : (c : goal.After-self-1) → front c.args.self.now.unread ≡ Err (Short c.in-Err-Stopped-Short.missing)
read_short c = ap (λ (h : Held). front h.unread) (sym c.self.view_is) ∙ ap front (sym c.as_slice.ensures)
    ∙ stopped_is _ _ (Short c.in-Err-Stopped-Short.missing) _ c.in-Err-Stopped-Short.field-0-is
    c.in-Err-Stopped-Short.field-0-0-is c.in-Err-Stopped-Short.ensures.gives

-- if more bytes are waited for, the front isn't whole
pub returns-in-Err-Stopped-Short-clause-none : goal.returns-in-Err-Stopped-Short-clause-none
returns-in-Err-Stopped-Short-clause-none c =
    partial_from c.args.self.now.unread c.in-Err-Stopped-Short.missing (read_short c)

-- if more bytes are waited for, no bad front is met
pub returns-in-Err-Stopped-Short-clause-malformed : goal.returns-in-Err-Stopped-Short-clause-malformed
returns-in-Err-Stopped-Short-clause-malformed c = (
  λ e. absurd cc,
  λ m. absurd
      ((partial_from c.args.self.now.unread c.in-Err-Stopped-Short.missing (read_short c)).not_malformed m),
)

-- if more bytes are waited for, no older server is met
pub returns-in-Err-Stopped-Short-clause-old_format : goal.returns-in-Err-Stopped-Short-clause-old_format
returns-in-Err-Stopped-Short-clause-old_format c = (
  λ e. absurd cc,
  λ o. absurd
      ((partial_from c.args.self.now.unread c.in-Err-Stopped-Short.missing (read_short c)).not_old o),
)

-- if more bytes are waited for, what is unread is shorter than the longest frame
pub returns-in-Err-Stopped-Short-clause-short : goal.returns-in-Err-Stopped-Short-clause-short
returns-in-Err-Stopped-Short-clause-short c =
    subst (λ (h : Held). length h.unread < longest) (sym c.self.view_is)
    (short_front c.args.self.now.unread c.in-Err-Stopped-Short.missing (read_short c))

-- if more bytes are waited for, no frame is left if none come
pub returns-in-Err-Stopped-Short-clause-end : goal.returns-in-Err-Stopped-Short-clause-end
returns-in-Err-Stopped-Short-clause-end c =
    ends_there c.args.self.now.unread (Short c.in-Err-Stopped-Short.missing) (read_short c)

bad_is : (c : goal.After-self-in-Err-Stopped-Malformed-1) → IsMalformed c.args.self.now.unread
bad_is c =
    subst (λ (h : Held). IsMalformed h.unread) c.self.view_is
    (malformed_from c.self.inside.unread.items (subst IsBytes c.as_slice.ensures c.front.ensures.bytes)
    (ap front (sym c.as_slice.ensures) ∙ stopped_is _ _ Malformed _ c.in-Err-Stopped-Malformed.field-0-is
    c.in-Err-Stopped-Malformed.field-0-0-is c.in-Err-Stopped-Malformed.ensures.gives))

-- a bad front is told exactly if one stands there
pub returns-in-Err-Stopped-Malformed-clause-malformed : goal.returns-in-Err-Stopped-Malformed-clause-malformed
returns-in-Err-Stopped-Malformed-clause-malformed c = (λ e. bad_is c, λ m. refl)

-- at a bad front no older server is met
pub returns-in-Err-Stopped-Malformed-clause-old_format : goal.returns-in-Err-Stopped-Malformed-clause-old_format
returns-in-Err-Stopped-Malformed-clause-old_format c = (λ e. absurd cc, λ o. absurd ((bad_is c).not_old o))

old_is : (c : goal.After-self-in-Err-Stopped-Old-1) → IsOld c.args.self.now.unread
old_is c =
    subst (λ (h : Held). IsOld h.unread) c.self.view_is
    (old_from c.self.inside.unread.items
    (ap front (sym c.as_slice.ensures) ∙ stopped_is _ _ Old _ c.in-Err-Stopped-Old.field-0-is
    c.in-Err-Stopped-Old.field-0-0-is c.in-Err-Stopped-Old.ensures.gives))

-- at an older server's front no bad front is met
pub returns-in-Err-Stopped-Old-clause-malformed : goal.returns-in-Err-Stopped-Old-clause-malformed
returns-in-Err-Stopped-Old-clause-malformed c = (λ e. absurd cc, λ m. absurd (m.not_old (old_is c)))

-- an older server is told exactly if one speaks there
pub returns-in-Err-Stopped-Old-clause-old_format : goal.returns-in-Err-Stopped-Old-clause-old_format
returns-in-Err-Stopped-Old-clause-old_format c = (λ e. old_is c, λ o. refl)
