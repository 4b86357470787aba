-- Reading from left to right: a value and the bytes after it, or why there is none.
use Rattle.std.specs.Prelude.{◌≡◌, ℕ, ◌-◌, Bool, not, nat_lt, ◌==◌, List, [], ◌∷◌, length, take, drop, Option, None}
use Rattle.std.specs.Prelude.{Some, Result, Ok, Err, IsOk, if◌then◌else◌}
use Rattle.std.specs.List.{list_all}
use Rattle.std.specs.Int.{Width, w16, w32, w64, byte_len, from_be_bytes}
use Rattle.table.specs.Items.{limit}
use Rattle.table.specs.Keys.{is_key_byte}
use Rattle.table.specs.Operations.{is_all}
use Rattle.table.specs.declared.operations.Target.{Target}
use Rattle.table.specs.declared.operations.Target.TheVariants.{One, All}
use Rattle.table.specs.declared.operations.Op.{Op}
use Rattle.table.specs.declared.operations.Op.TheVariants.{Set, Add, Replace, Append, Prepend, Cas, Incr, Decr, Delete}
use Rattle.table.specs.declared.operations.Op.TheVariants.{Flush}
use Rattle.table.specs.declared.operations.Reply.{Reply}
use Rattle.table.specs.declared.operations.Reply.TheVariants.{Stored, NotStored, Exists, NotFound, Deleted, Number}
use Rattle.table.specs.declared.operations.Reply.TheVariants.{TooLarge, NotNumber, Flushed}
use Rattle.table.specs.declared.operations.Change.{Change}
use Rattle.table.specs.declared.operations.Change.TheVariants.{Keep, Put, Drop, Clear}
use Rattle.node.specs.declared.messages.Body.{Body}
use Rattle.node.specs.declared.messages.Body.TheVariants as bodies
use Rattle.wire.specs.declared.fields.Stop.{Stop}
use Rattle.wire.specs.declared.fields.Stop.TheVariants.{Short, Malformed, Old}
use Rattle.wire.specs.declared.reading.ReadFault.{ReadFault}
use Rattle.wire.specs.declared.reading.ReadFault.TheVariants as faults
use Rattle.wire.specs.declared.frames.Frame.{Frame}
use Rattle.wire.specs.declared.frames.Frame.TheVariants.{Hello, Peer, Gone, Accepted, Refused, Noted, Reign}
use Rattle.wire.specs.declared.frames.Frame.TheVariants.{Confirmed, Stalled}
use Rattle.wire.specs.declared.frames.Frame.TheVariants as frames
use Rattle.wire.specs.declared.greetings.Reason.TheVariants as reasons
use Rattle.wire.specs.Grammar.{any, positive, at_most, below, is_key_length, is_server_count}

-- a value and the bytes after it, or why reading stops
abbrev pub Read : Type 0 → Type 0
Read A = Result (A × List ℕ) Stop

infixl 10 ◌>>=◌
-- what was read is handed to what follows; if reading stops, it stops there
abbrev pub ◌>>=◌ : {A B : Type 0} → Result A Stop → (A → Result B Stop) → Result B Stop
(Ok x) >>= f = f x
(Err e) >>= f = Err e

-- What a function returned, seen by view, is what reading gives.
abbrev pub Gives : {X Y : Type 0} → (X → Y) → Result X Stop → Result Y Stop → Type 0
Gives view (Ok x) read = read ≡ Ok (view x)
Gives view (Err e) read = read ≡ Err e

-- Why a reader that may run out of memory gives nothing: it runs out of memory only if there is a value.
abbrev pub Fails : {Y : Type 0} → ReadFault → Result Y Stop → Type 0
Fails faults.Memory read = IsOk read
Fails (faults.Stopped stop) read = read ≡ Err stop

-- What such a reader returned, seen by view, is what reading gives.
abbrev pub GivesOwned : {X Y : Type 0} → (X → Y) → Result X ReadFault → Result Y Stop → Type 0
GivesOwned view (Ok x) read = read ≡ Ok (view x)
GivesOwned view (Err e) read = Fails e read

-- a value that is in range, or a field that isn't
abbrev pub within : {A : Type 0} → Bool → A → Result A Stop
within ok x = if ok then Ok x else Err Malformed

-- a byte in a range
abbrev pub byte_at : (ℕ → Bool) → List ℕ → Read ℕ
byte_at range [] = Err (Short 1)
byte_at range (b ∷ rest) = within (range b) (b, rest)

-- a number of several bytes in a range
abbrev pub number_at : Width → (ℕ → Bool) → List ℕ → Read ℕ
number_at w range bytes =
    if nat_lt (length bytes) (byte_len w) then Err (Short (byte_len w - length bytes))
    else within (range (from_be_bytes w (take (byte_len w) bytes)))
    (from_be_bytes w (take (byte_len w) bytes), drop (byte_len w) bytes)

-- n bytes
abbrev pub bytes_at : ℕ → List ℕ → Read (List ℕ)
bytes_at n bytes = if nat_lt (length bytes) n then Err (Short (n - length bytes)) else Ok (take n bytes, drop n bytes)

-- n bytes of a key: each is judged as it comes
abbrev pub text_at : ℕ → List ℕ → Read (List ℕ)
text_at n bytes =
    if not (list_all is_key_byte (take n bytes)) then Err Malformed
    else if nat_lt (length bytes) n then Err (Short 1)
    else Ok (take n bytes, drop n bytes)

-- a key
unfoldable pub key_at : List ℕ → Read (List ℕ)
key_at bytes = do
  n ← byte_at is_key_length bytes
  text_at n.0 n.1

-- a key, or none for all keys
abbrev pub named : Option (List ℕ) → Target
named None = All
named (Some key) = One key

-- a target
unfoldable pub target_at : List ℕ → Read Target
target_at bytes = do
  n ← byte_at (at_most 250) bytes
  if n.0 == 0 then Ok (All, n.1) else (text_at n.0 n.1 >>= λ k. Ok (One k.0, k.1))

-- an item's data
unfoldable pub block_at : List ℕ → Read (List ℕ)
block_at bytes = do
  n ← number_at w32 (at_most limit) bytes
  bytes_at n.0 n.1

-- flags and data
unfoldable pub flagged_at : List ℕ → Read (ℕ × List ℕ)
flagged_at bytes = do
  flags ← number_at w32 any bytes
  block ← block_at flags.1
  Ok ((flags.0, block.0), block.1)

-- what stands after the code of an operation on a key
unfoldable pub key_operation_at : ℕ → List ℕ → Read Op
key_operation_at code bytes =
    if code == 1 then (flagged_at bytes >>= λ x. Ok (Set x.0.0 x.0.1, x.1))
    else if code == 2 then (flagged_at bytes >>= λ x. Ok (Add x.0.0 x.0.1, x.1))
    else if code == 3 then (flagged_at bytes >>= λ x. Ok (Replace x.0.0 x.0.1, x.1))
    else if code == 4 then (block_at bytes >>= λ x. Ok (Append x.0, x.1))
    else if code == 5 then (block_at bytes >>= λ x. Ok (Prepend x.0, x.1))
    else if code == 6 then
    (number_at w32 any bytes >>= λ flags. number_at w64 any flags.1 >>= λ unique. block_at unique.1 >>= λ x. Ok
    (Cas flags.0 x.0 unique.0, x.1))
    else if code == 7 then (number_at w64 any bytes >>= λ n. Ok (Incr n.0, n.1))
    else if code == 8 then (number_at w64 any bytes >>= λ n. Ok (Decr n.0, n.1))
    else if code == 9 then Ok (Delete, bytes)
    else Err Malformed

-- an operation
unfoldable pub op_at : Bool → List ℕ → Read Op
op_at all bytes = do
  code ← byte_at any bytes
  if all then (if code.0 == 10 then Ok (Flush, code.1) else Err Malformed) else key_operation_at code.0 code.1

-- what stands after the code of a reply to an operation on a key
unfoldable pub key_reply_at : ℕ → List ℕ → Read Reply
key_reply_at code bytes =
    if code == 1 then Ok (Stored, bytes)
    else if code == 2 then Ok (NotStored, bytes)
    else if code == 3 then Ok (Exists, bytes)
    else if code == 4 then Ok (NotFound, bytes)
    else if code == 5 then Ok (Deleted, bytes)
    else if code == 6 then (number_at w64 any bytes >>= λ n. Ok (Number n.0, n.1))
    else if code == 8 then Ok (TooLarge, bytes)
    else if code == 9 then Ok (NotNumber, bytes)
    else Err Malformed

-- a reply
unfoldable pub reply_at : Bool → List ℕ → Read Reply
reply_at all bytes = do
  code ← byte_at any bytes
  if all then (if code.0 == 10 then Ok (Flushed, code.1) else Err Malformed) else key_reply_at code.0 code.1

-- what stands after the code of a change at a key
unfoldable pub key_change_at : ℕ → ℕ → List ℕ → Read Change
key_change_at number code bytes =
    if code == 0 then Ok (Keep, bytes)
    else if code == 1 then
    (flagged_at bytes >>= λ x. Ok (Put (record { flags = x.0.0; bytes = x.0.1; unique = number }), x.1))
    else if code == 2 then Ok (Drop, bytes)
    else Err Malformed

-- a change
unfoldable pub change_at : Bool → ℕ → List ℕ → Read Change
change_at all number bytes = do
  code ← byte_at any bytes
  if all then (if code.0 == 3 then Ok (Clear, code.1) else Err Malformed) else key_change_at number code.0 code.1

-- an update call
unfoldable pub op_body_at : List ℕ → Read Body
op_body_at bytes = do
  id ← number_at w64 positive bytes
  on ← target_at id.1
  op ← op_at (is_all on.0) on.1
  Ok (bodies.Op id.0 (record { target = on.0; op = op.0 }), op.1)

-- an entry
unfoldable pub forward_body_at : List ℕ → Read Body
forward_body_at bytes = do
  number ← number_at w64 positive bytes
  origin ← byte_at (below 16) number.1
  id ← number_at w64 positive origin.1
  on ← target_at id.1
  told ← reply_at (is_all on.0) on.1
  done ← change_at (is_all on.0) number.0 told.1
  Ok (
    bodies.Forward
        (record {
          number = number.0;
          origin = origin.0;
          id = id.0;
          target = on.0;
          reply = told.0;
          change = done.0;
        }),
    done.1,
  )

-- a commit number
unfoldable pub ack_body_at : List ℕ → Read Body
ack_body_at bytes = do
  n ← number_at w64 any bytes
  Ok (bodies.Ack n.0, n.1)

-- an ask for a key
unfoldable pub query_body_at : List ℕ → Read Body
query_body_at bytes = do
  ask ← number_at w64 positive bytes
  on ← key_at ask.1
  Ok (bodies.Query ask.0 on.0, on.1)

-- an ask, and the number that answers it
unfoldable pub answer_body_at : List ℕ → Read Body
answer_body_at bytes = do
  ask ← number_at w64 positive bytes
  n ← number_at w64 any ask.1
  Ok (bodies.Answer ask.0 n.0, n.1)

-- the body of a kind
unfoldable pub body_at : ℕ → List ℕ → Read Body
body_at kind bytes =
    if kind == 1 then op_body_at bytes
    else if kind == 2 then forward_body_at bytes
    else if kind == 3 then ack_body_at bytes
    else if kind == 4 then query_body_at bytes
    else answer_body_at bytes

-- a message of a kind
unfoldable pub message_at : ℕ → List ℕ → Read Frame
message_at kind bytes = do
  view ← number_at w16 any bytes
  says ← body_at kind view.1
  Ok (Peer (record { view = view.0; body = says.0 }), says.1)

-- what the opener tells of its chain
unfoldable pub introduction_at : List ℕ → Read Frame
introduction_at bytes = do
  servers ← byte_at is_server_count bytes
  start ← number_at w64 any servers.1
  chain ← key_at start.1
  Ok (frames.Introduction (record { servers = servers.0; start = start.0; chain = chain.0 }), chain.1)

-- what the acceptor tells of itself
unfoldable pub acceptance_at : List ℕ → Read Frame
acceptance_at bytes = do
  start ← number_at w64 any bytes
  gone ← number_at w16 any start.1
  Ok (Accepted (record { start = start.0; gone = gone.0 }), gone.1)

-- the reason of a code
unfoldable pub refusal_of_at : ℕ → List ℕ → Read Frame
refusal_of_at code bytes =
    if code == 1 then Ok (Refused reasons.Servers, bytes)
    else if code == 2 then Ok (Refused reasons.Chain, bytes)
    else if code == 3 then Ok (Refused reasons.Taken, bytes)
    else if code == 4 then Ok (Refused reasons.Gone, bytes)
    else if code == 5 then Ok (Refused reasons.Format, bytes)
    else Err Malformed

-- why the acceptor doesn't take a connection
unfoldable pub refusal_at : List ℕ → Read Frame
refusal_at bytes = do
  code ← byte_at any bytes
  refusal_of_at code.0 code.1

-- a beat
unfoldable pub beat_at : List ℕ → Read Frame
beat_at bytes = do
  epoch ← number_at w64 any bytes
  stamp ← number_at w64 any epoch.1
  Ok (frames.Beat (record { epoch = epoch.0; stamp = stamp.0 }), stamp.1)

-- how a server is
unfoldable pub alive_at : List ℕ → Read Frame
alive_at bytes = do
  epoch ← number_at w64 any bytes
  stamp ← number_at w64 any epoch.1
  end ← number_at w64 any stamp.1
  term ← number_at w64 any end.1
  gone ← number_at w16 any term.1
  known ← number_at w16 any gone.1
  Ok (
    frames.Alive
        (record {
          epoch = epoch.0;
          stamp = stamp.0;
          end = end.0;
          term = term.0;
          gone = gone.0;
          known = known.0;
        }),
    known.1,
  )

-- a notice of silence
unfoldable pub silence_at : List ℕ → Read Frame
silence_at bytes = do
  epoch ← number_at w64 any bytes
  id ← byte_at (below 16) epoch.1
  Ok (frames.Silent (record { epoch = epoch.0; id = id.0 }), id.1)

-- what is read after a kind from 15 on
unfoldable pub link_at : ℕ → List ℕ → Read Frame
link_at kind bytes =
    if kind == 15 then (number_at w64 any bytes >>= λ count. Ok (Confirmed count.0, count.1))
    else if kind == 16 then (number_at w16 any bytes >>= λ servers. Ok (Stalled servers.0, servers.1))
    else Err Malformed

-- what is read after a kind from 11 on
unfoldable pub watching_at : ℕ → List ℕ → Read Frame
watching_at kind bytes =
    if kind == 11 then (number_at w64 any bytes >>= λ epoch. Ok (Reign epoch.0, epoch.1))
    else if kind == 12 then beat_at bytes
    else if kind == 13 then alive_at bytes
    else if kind == 14 then silence_at bytes
    else link_at kind bytes

-- what is read after a kind from 7 on
unfoldable pub greeting_at : ℕ → List ℕ → Read Frame
greeting_at kind bytes =
    if kind == 7 then introduction_at bytes
    else if kind == 8 then acceptance_at bytes
    else if kind == 9 then refusal_at bytes
    else if kind == 10 then (byte_at (below 16) bytes >>= λ id. Ok (Noted id.0, id.1))
    else watching_at kind bytes

-- what is read after a kind
unfoldable pub of_kind_at : ℕ → List ℕ → Read Frame
of_kind_at kind bytes =
    if kind == 0 then (byte_at (at_most 16) bytes >>= λ id. Ok (Hello id.0, id.1))
    else if kind == 6 then (byte_at (below 16) bytes >>= λ id. Ok (Gone id.0, id.1))
    else if nat_lt 6 kind then greeting_at kind bytes
    else message_at kind bytes

-- the format's byte: an older server's is told apart
abbrev pub format_at : List ℕ → Read ℕ
format_at bytes = do
  format ← byte_at any bytes
  if format.0 == 1 then Err Old else within (format.0 == 2) format

-- the frame at the front
unfoldable pub front : List ℕ → Read Frame
front bytes = do
  format ← format_at bytes
  kind ← byte_at any format.1
  of_kind_at kind.0 kind.1
