-- Readers of the parts of the format, from keys to whole frames.
use Rattle.std.proofs.Common.{ℕ, Bool, cond, List, Ok, Err}
use Rattle.std.specs.Prelude.{nat_lt, ◌==◌}
use Rattle.std.specs.Int.{w16, w32, w64}
use Rattle.table.specs.Items.{limit}
use Rattle.table.specs.Keys.{is_key_byte}
use Rattle.table.specs.Operations.{is_all}
use Rattle.table.specs.declared.operations.Target.{Target}
use Rattle.table.specs.declared.operations.Target.TheVariants.{One, All}
use Rattle.table.specs.declared.operations.Op.TheVariants.{Set, Add, Replace, Append, Prepend, Cas, Incr, Decr, Delete}
use Rattle.table.specs.declared.operations.Op.TheVariants.{Flush}
use Rattle.table.specs.declared.operations.Reply.{Reply}
use Rattle.table.specs.declared.operations.Reply.TheVariants.{Stored, NotStored, Exists, NotFound, Deleted, Number}
use Rattle.table.specs.declared.operations.Reply.TheVariants.{TooLarge, NotNumber, Flushed}
use Rattle.table.specs.declared.operations.Change.{Change}
use Rattle.table.specs.declared.operations.Change.TheVariants.{Keep, Put, Drop, Clear}
use Rattle.node.specs.declared.messages.Body.{Body}
use Rattle.node.specs.declared.messages.Body.TheVariants as bodies
use Rattle.wire.specs.declared.fields.Stop.TheVariants.{Malformed}
use Rattle.wire.specs.declared.frames.Frame.{Frame}
use Rattle.wire.specs.declared.frames.Frame.TheVariants.{Hello, Peer, Gone, Accepted, Refused, Noted, Reign}
use Rattle.wire.specs.declared.frames.Frame.TheVariants.{Confirmed, Stalled}
use Rattle.wire.specs.declared.frames.Frame.TheVariants as frames
use Rattle.wire.specs.declared.greetings.Reason.TheVariants as reasons
use Rattle.wire.specs.Parts.{Part, followed, makes, refused, either, byte, number, bytes_of, text_of}
use Rattle.wire.specs.Grammar as format
use Rattle.wire.specs.Grammar.{any, positive, at_most, below, is_key_length, is_server_count}
use Rattle.wire.specs.Fronts.{Read, ◌>>=◌, byte_at, number_at, bytes_at, text_at, key_at, target_at, block_at}
use Rattle.wire.specs.Fronts.{flagged_at, key_operation_at, op_at, key_reply_at, reply_at, key_change_at, change_at}
use Rattle.wire.specs.Fronts.{op_body_at, forward_body_at, ack_body_at, query_body_at, answer_body_at, body_at}
use Rattle.wire.specs.Fronts.{message_at, introduction_at, acceptance_at, refusal_of_at, refusal_at, beat_at, alive_at}
use Rattle.wire.specs.Fronts.{silence_at, link_at, watching_at, greeting_at, of_kind_at}
use Rattle.wire.proofs.Readers.{IsReader, in_turn, made, refusing, chosen}
use Rattle.wire.proofs.FieldReaders.{byte_reader, number_reader, bytes_reader, text_reader, wide16, wide32, wide64}

-- a part, and a value made of it
pub mapped : {A B : Type 0} (r : List ℕ → Read A) (p : Part A) (f : A → B)
    → IsReader r p
    → IsReader (λ bytes. r bytes >>= λ x. Ok (f x.0, x.1)) (followed p (λ x. makes (f x)))
mapped r p f reader = in_turn r p (λ x rest. Ok (f x, rest)) (λ x. makes (f x)) reader (λ x. made (f x))

key_reader : IsReader key_at format.key
unfolding key_at
key_reader = in_turn (byte_at is_key_length) (byte is_key_length) text_at (text_of is_key_byte)
    (byte_reader is_key_length) text_reader

target_reader : IsReader target_at format.target
unfolding target_at
target_reader =
    in_turn (byte_at (at_most 250)) (byte (at_most 250))
    (λ n rest. cond (n == 0) (Ok (All, rest)) (text_at n rest >>= λ k. Ok (One k.0, k.1)))
    (λ n. either (n == 0) (makes All) (followed (text_of is_key_byte n) (λ k. makes (One k))))
    (byte_reader (at_most 250))
    (λ n. chosen (n == 0) (λ rest. Ok (All, rest)) (λ rest. text_at n rest >>= λ k. Ok (One k.0, k.1)) (makes All)
    (followed (text_of is_key_byte n) (λ k. makes (One k)))
    (made All) (mapped (text_at n) (text_of is_key_byte n) One (text_reader n)))

block_reader : IsReader block_at format.block
unfolding block_at
block_reader = in_turn (number_at w32 (at_most limit)) (number w32 (at_most limit)) bytes_at bytes_of
    (number_reader w32 (at_most limit) wide32) bytes_reader

flagged_reader : IsReader flagged_at format.flagged
unfolding flagged_at
flagged_reader =
    in_turn (number_at w32 any) (number w32 any) (λ flags rest. block_at rest >>= λ b. Ok ((flags, b.0), b.1))
    (λ flags. followed format.block (λ b. makes (flags, b)))
    (number_reader w32 any wide32)
    (λ flags. mapped block_at format.block (λ b. (flags, b)) block_reader)

amount_reader : {A : Type 0} (f : ℕ → A)
    → IsReader (λ bytes. number_at w64 any bytes >>= λ n. Ok (f n.0, n.1))
    (followed (number w64 any) (λ n. makes (f n)))
amount_reader f = mapped (number_at w64 any) (number w64 any) f (number_reader w64 any wide64)

cas_reader : IsReader
    (λ bytes. number_at w32 any bytes >>= λ flags. number_at w64 any flags.1 >>= λ unique. block_at unique.1 >>= λ x. Ok
    (Cas flags.0 x.0 unique.0, x.1))
    (followed (number w32 any)
    (λ flags. followed (number w64 any)
    (λ unique. followed format.block (λ bytes. makes (Cas flags bytes unique)))))
cas_reader =
    in_turn (number_at w32 any) (number w32 any)
    (λ flags rest. number_at w64 any rest >>= λ unique. block_at unique.1 >>= λ x. Ok (Cas flags x.0 unique.0, x.1))
    (λ flags. followed (number w64 any) (λ unique. followed format.block (λ bytes. makes (Cas flags bytes unique))))
    (number_reader w32 any wide32)
    (λ flags. in_turn (number_at w64 any) (number w64 any)
    (λ unique rest. block_at rest >>= λ x. Ok (Cas flags x.0 unique, x.1))
    (λ unique. followed format.block (λ bytes. makes (Cas flags bytes unique)))
    (number_reader w64 any wide64)
    (λ unique. mapped block_at format.block (λ bytes. Cas flags bytes unique) block_reader))

key_operation_reader : (code : ℕ) → IsReader (key_operation_at code) (format.key_operation code)
unfolding key_operation_at
key_operation_reader code =
    chosen (code == 1) _ _ _ _ (mapped flagged_at format.flagged (λ x. Set x.0 x.1) flagged_reader)
    (chosen (code == 2) _ _ _ _ (mapped flagged_at format.flagged (λ x. Add x.0 x.1) flagged_reader)
    (chosen (code == 3) _ _ _ _ (mapped flagged_at format.flagged (λ x. Replace x.0 x.1) flagged_reader)
    (chosen (code == 4) _ _ _ _ (mapped block_at format.block Append block_reader)
    (chosen (code == 5) _ _ _ _ (mapped block_at format.block Prepend block_reader)
    (chosen (code == 6) _ _ _ _ cas_reader
    (chosen (code == 7) _ _ _ _ (amount_reader Incr)
    (chosen (code == 8) _ _ _ _ (amount_reader Decr)
    (chosen (code == 9) _ _ _ _ (made Delete) refusing))))))))

-- a code, and by it one value for all keys, or what stands after it for one key
by_code : {A : Type 0} (all : Bool) (own : ℕ) (value : A) (r : ℕ → List ℕ → Read A) (p : ℕ → Part A)
    → ((code : ℕ) → IsReader (r code) (p code))
    → IsReader (λ bytes. byte_at any bytes >>= λ code. cond all
    (cond (code.0 == own) (Ok (value, code.1)) (Err Malformed)) (r code.0 code.1))
    (followed (byte any) (λ code. either all (either (code == own) (makes value) refused) (p code)))
by_code all own value r p readers =
    in_turn (byte_at any) (byte any)
    (λ code rest. cond all (cond (code == own) (Ok (value, rest)) (Err Malformed)) (r code rest))
    (λ code. either all (either (code == own) (makes value) refused) (p code))
    (byte_reader any)
    (λ code. chosen all (λ rest. cond (code == own) (Ok (value, rest)) (Err Malformed)) (r code)
    (either (code == own) (makes value) refused) (p code)
    (chosen (code == own) (λ rest. Ok (value, rest)) (λ rest. Err Malformed) (makes value) refused
    (made value) refusing)
    (readers code))

op_reader : (all : Bool) → IsReader (op_at all) (format.operation all)
unfolding op_at
op_reader all = by_code all 10 Flush key_operation_at format.key_operation key_operation_reader

key_reply_reader : (code : ℕ) → IsReader (key_reply_at code) (format.key_reply code)
unfolding key_reply_at
key_reply_reader code =
    chosen (code == 1) _ _ _ _ (made Stored)
    (chosen (code == 2) _ _ _ _ (made NotStored)
    (chosen (code == 3) _ _ _ _ (made Exists)
    (chosen (code == 4) _ _ _ _ (made NotFound)
    (chosen (code == 5) _ _ _ _ (made Deleted)
    (chosen (code == 6) _ _ _ _ (amount_reader Number)
    (chosen (code == 8) _ _ _ _ (made TooLarge)
    (chosen (code == 9) _ _ _ _ (made NotNumber) refusing)))))))

reply_reader : (all : Bool) → IsReader (reply_at all) (format.reply all)
unfolding reply_at
reply_reader all = by_code all 10 Flushed key_reply_at format.key_reply key_reply_reader

key_change_reader : (number code : ℕ) → IsReader (key_change_at number code) (format.key_change number code)
unfolding key_change_at
key_change_reader number code =
    chosen (code == 0) _ _ _ _ (made Keep)
    (chosen (code == 1) _ _ _ _
    (mapped flagged_at format.flagged (λ x. Put (record { flags = x.0; bytes = x.1; unique = number }))
    flagged_reader)
    (chosen (code == 2) _ _ _ _ (made Drop) refusing))

change_reader : (all : Bool) (number : ℕ) → IsReader (change_at all number) (format.change all number)
unfolding change_at
change_reader all number =
    by_code all 3 Clear (key_change_at number) (format.key_change number) (key_change_reader number)

positive_reader : IsReader (number_at w64 positive) (number w64 positive)
positive_reader = number_reader w64 positive wide64

op_body_reader : IsReader op_body_at format.op_body
unfolding op_body_at
op_body_reader =
    in_turn (number_at w64 positive) (number w64 positive)
    (λ id rest. target_at rest >>= λ on. op_at (is_all on.0) on.1 >>= λ op. Ok
    (bodies.Op id (record { target = on.0; op = op.0 }), op.1))
    (λ id. followed format.target
    (λ on. followed (format.operation (is_all on))
    (λ op. makes (bodies.Op id (record { target = on; op = op })))))
    positive_reader
    (λ id. in_turn target_at format.target
    (λ on rest. op_at (is_all on) rest >>= λ op. Ok (bodies.Op id (record { target = on; op = op.0 }), op.1))
    (λ on. followed (format.operation (is_all on)) (λ op. makes (bodies.Op id (record { target = on; op = op }))))
    target_reader
    (λ on. mapped (op_at (is_all on)) (format.operation (is_all on))
    (λ op. bodies.Op id (record { target = on; op = op })) (op_reader (is_all on))))

-- the fields of an entry after its number, one by one
entry_made : ℕ → ℕ → ℕ → Target → Reply → Change → Body
entry_made entry origin id on told done =
    bodies.Forward (record { number = entry; origin = origin; id = id; target = on; reply = told; change = done })

forward_body_reader : IsReader forward_body_at format.forward_body
unfolding forward_body_at entry_made
forward_body_reader =
    in_turn (number_at w64 positive) (number w64 positive) _ _ positive_reader
    (λ entry. in_turn (byte_at (below 16)) (byte (below 16)) _ _ (byte_reader (below 16))
    (λ origin. in_turn (number_at w64 positive) (number w64 positive) _ _ positive_reader
    (λ id. in_turn target_at format.target _ _ target_reader
    (λ on. in_turn (reply_at (is_all on)) (format.reply (is_all on)) _ _ (reply_reader (is_all on))
    (λ told. mapped (change_at (is_all on) entry) (format.change (is_all on) entry) (entry_made entry origin id on told)
    (change_reader (is_all on) entry))))))

ack_body_reader : IsReader ack_body_at format.ack_body
unfolding ack_body_at
ack_body_reader = amount_reader bodies.Ack

query_body_reader : IsReader query_body_at format.query_body
unfolding query_body_at
query_body_reader = in_turn (number_at w64 positive) (number w64 positive) _ _ positive_reader
    (λ ask. mapped key_at format.key (bodies.Query ask) key_reader)

answer_body_reader : IsReader answer_body_at format.answer_body
unfolding answer_body_at
answer_body_reader = in_turn (number_at w64 positive) (number w64 positive) _ _ positive_reader
    (λ ask. amount_reader (bodies.Answer ask))

body_reader : (kind : ℕ) → IsReader (body_at kind) (format.body kind)
unfolding body_at
body_reader kind =
    chosen (kind == 1) op_body_at _ format.op_body _ op_body_reader
    (chosen (kind == 2) forward_body_at _ format.forward_body _ forward_body_reader
    (chosen (kind == 3) ack_body_at _ format.ack_body _ ack_body_reader
    (chosen (kind == 4) query_body_at answer_body_at format.query_body format.answer_body query_body_reader
    answer_body_reader)))

message_reader : (kind : ℕ) → IsReader (message_at kind) (format.message kind)
unfolding message_at
message_reader kind =
    in_turn (number_at w16 any) (number w16 any) _ _ (number_reader w16 any wide16)
    (λ view. mapped (body_at kind) (format.body kind) (λ says. Peer (record { view = view; body = says }))
    (body_reader kind))

introduction_reader : IsReader introduction_at format.introduction
unfolding introduction_at
introduction_reader =
    in_turn (byte_at is_server_count) (byte is_server_count) _ _ (byte_reader is_server_count)
    (λ servers. in_turn (number_at w64 any) (number w64 any) _ _ (number_reader w64 any wide64)
    (λ start. mapped key_at format.key
    (λ chain. frames.Introduction (record { servers = servers; start = start; chain = chain })) key_reader))

acceptance_reader : IsReader acceptance_at format.acceptance
unfolding acceptance_at
acceptance_reader =
    in_turn (number_at w64 any) (number w64 any) _ _ (number_reader w64 any wide64)
    (λ start. mapped (number_at w16 any) (number w16 any) (λ gone. Accepted (record { start = start; gone = gone }))
    (number_reader w16 any wide16))

refusal_of_reader : (code : ℕ) → IsReader (refusal_of_at code) (format.refusal_of code)
unfolding refusal_of_at
refusal_of_reader code =
    chosen (code == 1) _ _ _ _ (made (Refused reasons.Servers))
    (chosen (code == 2) _ _ _ _ (made (Refused reasons.Chain))
    (chosen (code == 3) _ _ _ _ (made (Refused reasons.Taken))
    (chosen (code == 4) _ _ _ _ (made (Refused reasons.Gone))
    (chosen (code == 5) _ _ _ _ (made (Refused reasons.Format)) refusing))))

refusal_reader : IsReader refusal_at format.refusal
unfolding refusal_at
refusal_reader = in_turn (byte_at any) (byte any) refusal_of_at format.refusal_of (byte_reader any) refusal_of_reader

any64_reader : IsReader (number_at w64 any) (number w64 any)
any64_reader = number_reader w64 any wide64

any16_reader : IsReader (number_at w16 any) (number w16 any)
any16_reader = number_reader w16 any wide16

beat_reader : IsReader beat_at format.beat
unfolding beat_at
beat_reader = in_turn (number_at w64 any) (number w64 any) _ _ any64_reader
    (λ epoch. amount_reader (λ stamp. frames.Beat (record { epoch = epoch; stamp = stamp })))

alive_reader : IsReader alive_at format.alive
unfolding alive_at
alive_reader =
    in_turn (number_at w64 any) (number w64 any) _ _ any64_reader
    (λ epoch. in_turn (number_at w64 any) (number w64 any) _ _ any64_reader
    (λ stamp. in_turn (number_at w64 any) (number w64 any) _ _ any64_reader
    (λ end. in_turn (number_at w64 any) (number w64 any) _ _ any64_reader
    (λ term. in_turn (number_at w16 any) (number w16 any) _ _ any16_reader
    (λ gone. mapped (number_at w16 any) (number w16 any)
    (λ known. frames.Alive
    (record { epoch = epoch; stamp = stamp; end = end; term = term; gone = gone; known = known })) any16_reader)))))

silence_reader : IsReader silence_at format.silence
unfolding silence_at
silence_reader = in_turn (number_at w64 any) (number w64 any) _ _ any64_reader
    (λ epoch. mapped (byte_at (below 16)) (byte (below 16)) (λ id. frames.Silent (record { epoch = epoch; id = id }))
    (byte_reader (below 16)))

link_reader : (kind : ℕ) → IsReader (link_at kind) (format.link kind)
unfolding link_at
link_reader kind =
    chosen (kind == 15) _ _ _ _ (amount_reader Confirmed)
    (chosen (kind == 16) _ _ _ _ (mapped (number_at w16 any) (number w16 any) Stalled any16_reader) refusing)

watching_reader : (kind : ℕ) → IsReader (watching_at kind) (format.watching kind)
unfolding watching_at
watching_reader kind =
    chosen (kind == 11) _ _ _ _ (amount_reader Reign)
    (chosen (kind == 12) beat_at _ format.beat _ beat_reader
    (chosen (kind == 13) alive_at _ format.alive _ alive_reader
    (chosen (kind == 14) silence_at (link_at kind) format.silence (format.link kind) silence_reader
    (link_reader kind))))

greeting_reader : (kind : ℕ) → IsReader (greeting_at kind) (format.greeting kind)
unfolding greeting_at
greeting_reader kind =
    chosen (kind == 7) introduction_at _ format.introduction _ introduction_reader
    (chosen (kind == 8) acceptance_at _ format.acceptance _ acceptance_reader
    (chosen (kind == 9) refusal_at _ format.refusal _ refusal_reader
    (chosen (kind == 10) _ (watching_at kind) _ (format.watching kind)
    (mapped (byte_at (below 16)) (byte (below 16)) Noted (byte_reader (below 16))) (watching_reader kind))))

of_kind_reader : (kind : ℕ) → IsReader (of_kind_at kind) (format.of_kind kind)
unfolding of_kind_at
of_kind_reader kind =
    chosen (kind == 0) _ _ _ _ (mapped (byte_at (at_most 16)) (byte (at_most 16)) Hello (byte_reader (at_most 16)))
    (chosen (kind == 6) _ _ _ _ (mapped (byte_at (below 16)) (byte (below 16)) Gone (byte_reader (below 16)))
    (chosen (nat_lt 6 kind) (greeting_at kind) (message_at kind) (format.greeting kind) (format.message kind)
    (greeting_reader kind) (message_reader kind)))

-- reading that doesn't tell an older server's format apart
abbrev pub plain_front : List ℕ → Read Frame
plain_front bytes = byte_at (λ b. b == 2) bytes >>= λ format. byte_at any format.1 >>= λ kind. of_kind_at kind.0 kind.1

-- after the format's byte
pub behind_format_reader : IsReader (λ bytes. byte_at any bytes >>= λ kind. of_kind_at kind.0 kind.1)
    (followed (byte any) format.of_kind)
behind_format_reader = in_turn (byte_at any) (byte any) of_kind_at format.of_kind (byte_reader any) of_kind_reader

-- a whole frame is read as the format says, if older servers aren't told apart
pub plain_reader : IsReader plain_front format.frame
plain_reader =
    in_turn (byte_at (λ b. b == 2)) (byte (λ b. b == 2))
    (λ b rest. byte_at any rest >>= λ kind. of_kind_at kind.0 kind.1) (λ b. followed (byte any) format.of_kind)
    (byte_reader (λ b. b == 2))
    (λ b. behind_format_reader)
