-- Streams that are served: which calls are made of the bytes that are read, what each is replied, and what is written.
use Rattle.std.specs.Prelude.{◌≡◌, ◌⊎◌, ℕ, List, [], ◌∷◌, ◌++◌, length, take, drop, Result, Ok, Err}
use Rattle.table.specs.declared.operations.Call.{Call}
use Rattle.table.specs.declared.operations.Reply.{Reply}
use Rattle.proto.specs.Turns.{calls_of}
use Rattle.proto.specs.Streams.{ends, texts, turns}
use Rattle.serving.specs.Serving.{is_closed}
use Rattle.serving.specs.declared.endings.End.{End}
use Rattle.serving.specs.declared.endings.ServeFault.{ServeFault}
use Rattle.serving.specs.declared.endings.ServeFault.TheVariants.{Memory, Read, Write, Call as Called}

module _ {V : Type 0} (answers : V → Call → Reply → V → Type 0) where
  -- These calls got these replies, one after another, by what `answers` says of a call, its reply, and a caller's
  -- values before and after it; they made of the caller's first value the last one.
  abbrev pub AreReplied : V → List Call → List Reply → V → Type 0
  AreReplied v [] [] w = w ≡ v
  AreReplied v [] (r ∷ rs) w = ⊥
  AreReplied v (c ∷ cs) [] w = ⊥
  AreReplied v (c ∷ cs) (r ∷ rs) w = (u : V) × answers v c r u × AreReplied u cs rs w

  -- All of these bytes were served: their calls were made, in order, each once, and all that is due was written, which
  -- is the texts of their turns, each call's with its reply. It ended as they end.
  pub record IsServed (end : End) (read before after : List ℕ) (v w : V) : Type 0 where
    pub replies : List Reply
    pub calls : AreReplied v (calls_of (turns read)) replies w
    pub written : after ≡ before ++ texts (turns read) replies
    pub closed : is_closed end ≡ ends read

  -- the first of these calls was made too, and had a reply
  abbrev pub IsNextReplied : V → List Call → V → Type 0
  IsNextReplied u [] w = ⊥
  IsNextReplied u (c ∷ cs) w = (reply : Reply) × answers u c reply w

  -- Where a fault leaves the caller, if some calls have made this of it and these come next: no other call was made;
  -- but if memory was out, the next one may have been, and its reply wasn't handed on. What a call that failed has made
  -- of the caller isn't said.
  abbrev pub IsLeft : ServeFault → V → List Call → V → Type 0
  IsLeft Memory u next w = (w ≡ u) ⊎ IsNextReplied u next w
  IsLeft Read u next w = w ≡ u
  IsLeft Write u next w = w ≡ u
  IsLeft Called u next w = Unit {0}

  -- The first calls of these bytes were made, in order, each once, and a beginning of the texts of their turns, up to
  -- the first call that wasn't replied to, was written.
  pub record IsCut (fault : ServeFault) (read before after : List ℕ) (v w : V) : Type 0 where
    pub replies : List Reply
    pub last : V
    pub front : List ℕ
    pub rest : List ℕ
    pub calls : AreReplied v (take (length replies) (calls_of (turns read))) replies last
    pub left : IsLeft fault last (drop (length replies) (calls_of (turns read))) w
    pub written : after ≡ before ++ front
    pub due : texts (turns read) replies ≡ front ++ rest

-- how many reads more have failed, by what serving answers
abbrev pub failed_reads : {X : Type 0} → Result X ServeFault → ℕ
failed_reads (Ok x) = 0
failed_reads (Err Memory) = 0
failed_reads (Err Read) = 1
failed_reads (Err Write) = 0
failed_reads (Err Called) = 0

-- the same of writes
abbrev pub failed_writes : {X : Type 0} → Result X ServeFault → ℕ
failed_writes (Ok x) = 0
failed_writes (Err Memory) = 0
failed_writes (Err Read) = 0
failed_writes (Err Write) = 1
failed_writes (Err Called) = 0

-- and of calls
abbrev pub failed_calls : {X : Type 0} → Result X ServeFault → ℕ
failed_calls (Ok x) = 0
failed_calls (Err Memory) = 0
failed_calls (Err Read) = 0
failed_calls (Err Write) = 0
failed_calls (Err Called) = 1
