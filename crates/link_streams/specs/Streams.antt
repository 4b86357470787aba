-- The two ends of a link's stream, and what is made of them. Counts are counts of bytes, from the first byte of the
-- stream on. This project's rule.
use Rattle.std.specs.Prelude.{ℕ, ◌+◌, max, Bool, ◌&&◌, nat_eq, nat_le, List, [], ◌++◌, drop, Option, Some, None}
use Rattle.std.specs.Prelude.{if◌then◌else◌}

-- The sender's end.
pub record Sending : Type 0 where
  -- the start of the receiver's process
  pub start : ℕ
  -- all bytes that were put
  pub put : List ℕ
  -- so many of these the receiver has handed on, as it says: they are no longer kept
  pub confirmed : ℕ
  -- up to here the connection took them, or needn't take them
  pub reached : ℕ
  -- up to here some connection took them
  pub sent : ℕ

-- at first: nothing was put
abbrev pub unsent_to : ℕ → Sending
unsent_to start = record { start = start; put = []; confirmed = 0; reached = 0; sent = 0 }

-- these bytes were put after the others
abbrev pub with_bytes : Sending → List ℕ → Sending
with_bytes s bytes = record s { put = s.put ++ bytes }

-- what the connection has still to take
abbrev pub unwritten : Sending → List ℕ
unwritten s = drop s.reached s.put

-- it took so many of them
abbrev pub written : Sending → ℕ → Sending
written s n = record s { reached = s.reached + n; sent = max s.sent (s.reached + n) }

-- a receiver may confirm what the connection took, or needn't take
abbrev pub may_confirm : Sending → ℕ → Bool
may_confirm s count = nat_le count s.reached

-- it has confirmed so many: fewer than before says nothing
abbrev pub confirmed_to : Sending → ℕ → Sending
confirmed_to s count = record s { confirmed = max s.confirmed count }

-- what is made of a confirmation
abbrev pub heard : Sending → ℕ → Sending
heard s count = if may_confirm s count then confirmed_to s count else s

-- a receiver may go on at a byte that is kept, and after none that no connection took
abbrev pub may_resume : Sending → ℕ → Bool
may_resume s count = nat_le s.confirmed count && nat_le count s.sent

-- a new connection, over which the receiver goes on there; so it has handed on all before
abbrev pub resumed_at : Sending → ℕ → Sending
resumed_at s count = record s { confirmed = count; reached = count }

-- The receiver's end.
pub record Receiving : Type 0 where
  -- the start of the sender's process
  pub start : ℕ
  -- so many bytes were handed on, in whole frames
  pub handed : ℕ

-- at first: none
abbrev pub unheard_of : ℕ → Receiving
unheard_of start = record { start = start; handed = 0 }

-- a frame of so many bytes was handed on
abbrev pub handed_on : Receiving → ℕ → Receiving
handed_on r n = record r { handed = r.handed + n }

-- where a connection of this start goes on, unless it is another start
abbrev pub resumes : Receiving → ℕ → Option ℕ
resumes r start = if nat_eq start r.start then Some r.handed else None
