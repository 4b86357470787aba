-- An answer, a refusal, and output that is taken, keep what is to come.
use Rattle.std.proofs.Common.{ℕ, Bool, true, false, List, ◌++◌, Option, None, Some, refl, drop}
use Rattle.table.specs.declared.operations.Reply.{Reply}
use Rattle.proto.specs.declared.skipped_blocks.SkippedBlock.{SkippedBlock}
use Rattle.proto.specs.declared.texts.Form.{Form}
use Rattle.proto.specs.Turns.{text, refusal_text}
use Rattle.proto.specs.Sessions.{Held, answered_by, refused_by}
use Rattle.proto.specs.Streams.{SameToCome}
use Rattle.proto.specs.Runs.{taken_from}

-- the open call and the output have no part in what is to come
same_to_come : (h : Held) (asked : Option Form) (out : List ℕ) → SameToCome h (record h { asked = asked; out = out })
same_to_come h asked out = by_closed h.unread h.skipped_block h.later h.unique h.asked h.out h.closed
  where
    by_closed : (unread : List ℕ) (skipped_block : Option SkippedBlock) (later : List (List ℕ)) (unique : Bool)
        (was : Option Form)
        (had : List ℕ) (closed : Bool)
        → let h : Held = record {
          unread = unread;
          skipped_block = skipped_block;
          later = later;
          unique = unique;
          asked = was;
          out = had;
          closed = closed;
        } in
        SameToCome h (record h { asked = asked; out = out })
    by_closed unread skipped_block later unique was had true =
        record { turns = λ more. refl; end = λ more. refl; most = refl }
    by_closed unread skipped_block later unique was had false =
        record { turns = λ more. refl; end = λ more. refl; most = refl }

answered_same : (h : Held) (asked : Option Form) (reply : Reply) → SameToCome h (answered_by asked h reply)
answered_same h None reply = record { turns = λ more. refl; end = λ more. refl; most = refl }
answered_same h (Some form) reply = same_to_come h None (h.out ++ text form reply)

-- an answer keeps the turns to come
pub answer_keeps_turns : (h : Held) (reply : Reply) → SameToCome h (answered_by h.asked h reply)
answer_keeps_turns h reply = answered_same h h.asked reply

refused_same : (h : Held) (asked : Option Form) → SameToCome h (refused_by asked h)
refused_same h None = record { turns = λ more. refl; end = λ more. refl; most = refl }
refused_same h (Some form) = same_to_come h None (h.out ++ refusal_text form)

-- a refusal keeps the turns to come
pub refusal_keeps_turns : (h : Held) → SameToCome h (refused_by h.asked h)
refusal_keeps_turns h = refused_same h h.asked

-- output that is taken away keeps the turns to come
pub taken_keeps_turns : (h : Held) (n : ℕ) → SameToCome h (taken_from h n)
taken_keeps_turns h n = same_to_come h h.asked (drop n h.out)
