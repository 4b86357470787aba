-- A link: both ends of its stream, and the connection between them, which may break at any byte. This project's rule;
-- a connection is one of TCP: it gives the bytes that it took, in order, until it breaks.
use Rattle.std.specs.Prelude.{◌≡◌, ℕ, List, [], ◌∷◌, ◌++◌, length, take, drop, Option, Some, None, if◌then◌else◌}
use Rattle.link_streams.specs.Streams.{Sending, unsent_to, with_bytes, unwritten, written, heard, may_resume}
use Rattle.link_streams.specs.Streams.{resumed_at}

-- A connection.
pub record Connection : Type 0 where
  -- the bytes that it took, and that the receiver hasn't read
  pub coming : List ℕ
  -- those that the receiver has read and not handed on
  pub unread : List ℕ
  -- the confirmations on their way back, the oldest first
  pub confirmations : List ℕ

-- nothing is on its way
abbrev pub idle : Connection
idle = record { coming = []; unread = []; confirmations = [] }

-- Both ends, and the connection, if one stands.
pub record Link : Type 0 where
  pub sending : Sending
  -- the bytes that the receiver has handed on
  pub handed : List ℕ
  pub connection : Option Connection

-- at first
abbrev pub fresh : ℕ → Link
fresh start = record { sending = unsent_to start; handed = []; connection = None }

-- What may happen to a link. What can't happen changes nothing.
pub data Event : Type 0 where
  -- the sender puts a frame of these bytes
  Put : List ℕ → Event
  -- the connection takes so many bytes, or all that are unwritten
  Write : ℕ → Event
  -- the receiver reads so many, or all that are coming
  Read : ℕ → Event
  -- the receiver hands on a frame of so many, or all that are unread
  HandOn : ℕ → Event
  -- the receiver confirms what it has handed on
  Confirm : Event
  -- the sender hears the oldest confirmation
  Hear : Event
  -- the connection breaks, and with it goes what was on its way, both ways, and what was read and not handed on
  Break : Event
  -- a new connection stands: the receiver says how much it has handed on
  Connect : Event

-- a connection takes these bytes
abbrev pub took : Link → Connection → List ℕ → Link
took link c bytes = record link {
  sending = written link.sending (length bytes);
  connection = Some (record c { coming = c.coming ++ bytes });
}

abbrev pub write : Link → ℕ → Option Connection → Link
write link n None = link
write link n (Some c) = took link c (take n (unwritten link.sending))

abbrev pub read : Link → ℕ → Option Connection → Link
read link n None = link
read link n (Some c) = record link {
  connection = Some (record c { coming = drop n c.coming; unread = c.unread ++ take n c.coming });
}

abbrev pub hand_on : Link → ℕ → Option Connection → Link
hand_on link n None = link
hand_on link n (Some c) = record link {
  handed = link.handed ++ take n c.unread;
  connection = Some (record c { unread = drop n c.unread });
}

abbrev pub confirm : Link → Option Connection → Link
confirm link None = link
confirm link (Some c) = record link {
  connection = Some (record c { confirmations = c.confirmations ++ length link.handed ∷ [] });
}

abbrev pub hear_first : Link → Connection → List ℕ → Link
hear_first link c [] = link
hear_first link c (count ∷ later) = record link {
  sending = heard link.sending count;
  connection = Some (record c { confirmations = later });
}

abbrev pub hear : Link → Option Connection → Link
hear link None = link
hear link (Some c) = hear_first link c c.confirmations

abbrev pub connect : Link → Option Connection → Link
connect link None =
    if may_resume link.sending (length link.handed)
    then record link { sending = resumed_at link.sending (length link.handed); connection = Some idle }
    else link
connect link (Some c) = link

-- what an event makes of a link
abbrev pub step : Link → Event → Link
step link (Put bytes) = record link { sending = with_bytes link.sending bytes }
step link (Write n) = write link n link.connection
step link (Read n) = read link n link.connection
step link (HandOn n) = hand_on link n link.connection
step link Confirm = confirm link link.connection
step link Hear = hear link link.connection
step link Break = record link { connection = None }
step link Connect = connect link link.connection

-- what events make of it, one after another
abbrev pub run : Link → List Event → Link
run link [] = link
run link (event ∷ events) = run (step link event) events

-- the connection breaks, a new one stands, and each end does what it can, so many bytes at a time at most
abbrev pub talk : ℕ → List Event
talk n = Break ∷ Connect ∷ Write n ∷ Read n ∷ HandOn n ∷ []

-- nothing is on its way over the connection, and nothing is unwritten
pub record IsCaughtUp (link : Link) (c : Connection) : Type 0 where
  pub written : unwritten link.sending ≡ []
  pub coming : c.coming ≡ []
  pub unread : c.unread ≡ []
