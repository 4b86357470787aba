-- How long a frame may be, and how long a front that waits.
use Rattle.std.proofs.Common.{◌≡◌, ℕ, ◌+◌, ◌<◌, ◌≤◌, Bool, true, cond, List, [], ◌++◌, length, take, drop, replicate}
use Rattle.std.proofs.Common.{Ok, Err, refl, sym, ap, arith, length-append, length-drop, length-take}
use Rattle.std.specs.Prelude.{nat_lt, nat_le, ◌==◌}
use Rattle.std.specs.Int.{w16, w32, w64, from_be_bytes}
use Rattle.std.proofs.lemmas.Bool.{leb-true, and_parts}
use Rattle.std.proofs.lemmas.List.{take-append-drop, length-replicate}
use Rattle.table.specs.Items.{limit}
use Rattle.table.specs.Keys.{IsKey}
use Rattle.table.specs.Operations.{is_all}
use Rattle.table.specs.declared.operations.Target.{Target}
use Rattle.table.specs.declared.operations.Target.TheVariants.{One, All}
use Rattle.table.specs.declared.operations.Op.TheVariants.{Set, Add, Replace, Append, Prepend, Cas, Incr, Decr, Delete}
use Rattle.table.specs.declared.operations.Op.TheVariants.{Flush}
use Rattle.table.specs.declared.operations.Reply.{Reply}
use Rattle.table.specs.declared.operations.Reply.TheVariants.{Stored, NotStored, Exists, NotFound, Deleted, Number}
use Rattle.table.specs.declared.operations.Reply.TheVariants.{TooLarge, NotNumber, Flushed}
use Rattle.table.specs.declared.operations.Change.{Change}
use Rattle.table.specs.declared.operations.Change.TheVariants.{Keep, Put, Drop, Clear}
use Rattle.node.specs.declared.messages.Body.{Body}
use Rattle.node.specs.declared.messages.Body.TheVariants as bodies
use Rattle.wire.specs.declared.fields.Stop.TheVariants.{Short, Malformed, Old}
use Rattle.wire.specs.declared.frames.Frame.{Frame}
use Rattle.wire.specs.declared.frames.Frame.TheVariants.{Hello, Peer, Gone, Accepted, Refused, Noted, Reign}
use Rattle.wire.specs.declared.frames.Frame.TheVariants.{Confirmed, Stalled}
use Rattle.wire.specs.declared.frames.Frame.TheVariants as frames
use Rattle.wire.specs.declared.greetings.Reason.TheVariants as reasons
use Rattle.wire.specs.Spellings.{IsFrame, spelling}
use Rattle.wire.specs.Lengths.{longest}
use Rattle.wire.specs.Grammar.{IsPartial, any, positive, at_most, below, is_key_length, is_server_count}
use Rattle.wire.specs.Fronts.{Read, ◌>>=◌, byte_at, number_at, bytes_at, text_at, key_at, target_at, block_at}
use Rattle.wire.specs.Fronts.{flagged_at, key_operation_at, op_at, key_reply_at, reply_at, key_change_at, change_at}
use Rattle.wire.specs.Fronts.{op_body_at, forward_body_at, ack_body_at, query_body_at, answer_body_at, body_at}
use Rattle.wire.specs.Fronts.{message_at, introduction_at, acceptance_at, refusal_of_at, refusal_at, beat_at, alive_at}
use Rattle.wire.specs.Fronts.{silence_at, link_at, watching_at, greeting_at, of_kind_at, front}
use Rattle.wire.proofs.Readers.{IsBytes}
use Rattle.wire.proofs.FieldReaders.{byte_takes, judged, counted_ok, within_ok}
use Rattle.wire.proofs.FormatReaders.{plain_front, plain_reader}
use Rattle.wire.proofs.SpelledFrames.{frame_to}
use Rattle.wire.proofs.FrontLaws.{plain_short, first_from, malformed_from, old_from, beginning_waits}
use Rattle.wire.proofs.Lengths.{IsWithin, wider, within_turn, within_made, within_mapped, within_refusing}
use Rattle.wire.proofs.Lengths.{within_chosen, within_byte, within_number, within_bytes, within_text}

-- a number that was read is in its range
byte_range : (range : ℕ → Bool) (bytes : List ℕ) (n : ℕ) (rest : List ℕ)
    → byte_at range bytes ≡ Ok (n, rest)
    → range n ≡ true
byte_range range bytes n rest e = (byte_takes range bytes n rest e).1.0

key_length : (n : ℕ) → is_key_length n ≡ true → n ≤ 250
key_length n e = leb-true n 250 (and_parts (nat_le 1 n) (nat_le n 250) e).1

within_key : IsWithin 251 key_at
unfolding key_at
within_key = within_turn 1 250 (byte_at is_key_length) text_at (within_byte is_key_length)
    (λ n bytes rest e. wider n 250 (text_at n) (key_length n (byte_range is_key_length bytes n rest e)) (within_text n))

within_target : IsWithin 251 target_at
unfolding target_at
within_target = within_turn 1 250 (byte_at (at_most 250))
    (λ n rest. cond (n == 0) (Ok (All, rest)) (text_at n rest >>= λ k. Ok (One k.0, k.1))) (within_byte (at_most 250))
    (λ n bytes rest e. within_chosen 250 (n == 0) (λ rest. Ok (All, rest))
    (λ rest. text_at n rest >>= λ k. Ok (One k.0, k.1))
    (wider 0 250 _ (omega arith) (within_made All))
    (wider n 250 _ (leb-true n 250 (byte_range (at_most 250) bytes n rest e))
    (within_mapped n (text_at n) One (within_text n))))

within_block : IsWithin (4 + limit) block_at
unfolding block_at
within_block = within_turn 4 limit (number_at w32 (at_most limit)) bytes_at (within_number w32 (at_most limit))
    (λ n bytes rest e. wider n limit (bytes_at n) (at_limit n bytes rest e) (within_bytes n))
  where
    at_limit : (n : ℕ) (bytes rest : List ℕ) → number_at w32 (at_most limit) bytes ≡ Ok (n, rest) → n ≤ limit
    at_limit n bytes rest e =
        let c = counted_ok 4 (judged w32 (at_most limit)) bytes (n, rest) e in
        let k = within_ok (at_most limit (from_be_bytes w32 (take 4 bytes)))
        (from_be_bytes w32 (take 4 bytes), drop 4 bytes) (n, rest) c.1 in
        let same : from_be_bytes w32 (take 4 bytes) ≡ n = ap (λ (p : ℕ × List ℕ). p.0) k.1 in
        rw (← same) (leb-true (from_be_bytes w32 (take 4 bytes)) limit k.0)

within_flagged : IsWithin (8 + limit) flagged_at
unfolding flagged_at
within_flagged = within_turn 4 (4 + limit) (number_at w32 any)
    (λ flags rest. block_at rest >>= λ b. Ok ((flags, b.0), b.1)) (within_number w32 any)
    (λ flags bytes rest e. within_mapped (4 + limit) block_at (λ b. (flags, b)) within_block)

-- numbers, and what is made of one
within_amount : {A : Type 0} (f : ℕ → A) → IsWithin 8 (λ bytes. number_at w64 any bytes >>= λ n. Ok (f n.0, n.1))
within_amount f = within_mapped 8 (number_at w64 any) f (within_number w64 any)

within_cas : IsWithin (16 + limit)
    (λ bytes. number_at w32 any bytes >>= λ flags. number_at w64 any flags.1 >>= λ unique. block_at unique.1 >>= λ x. Ok
    (Cas flags.0 x.0 unique.0, x.1))
within_cas =
    within_turn 4 (12 + limit) (number_at w32 any)
    (λ flags rest. number_at w64 any rest >>= λ unique. block_at unique.1 >>= λ x. Ok (Cas flags x.0 unique.0, x.1))
    (within_number w32 any)
    (λ flags bytes rest e. within_turn 8 (4 + limit) (number_at w64 any)
    (λ unique rest. block_at rest >>= λ x. Ok (Cas flags x.0 unique, x.1)) (within_number w64 any)
    (λ unique bytes rest e. within_mapped (4 + limit) block_at (λ b. Cas flags b unique) within_block))

within_key_operation : (code : ℕ) → IsWithin (16 + limit) (key_operation_at code)
unfolding key_operation_at
within_key_operation code =
    within_chosen _ (code == 1) _ _
    (wider (8 + limit) _ _ (omega arith) (within_mapped _ flagged_at (λ x. Set x.0 x.1) within_flagged))
    (within_chosen _ (code == 2) _ _
    (wider (8 + limit) _ _ (omega arith) (within_mapped _ flagged_at (λ x. Add x.0 x.1) within_flagged))
    (within_chosen _ (code == 3) _ _
    (wider (8 + limit) _ _ (omega arith) (within_mapped _ flagged_at (λ x. Replace x.0 x.1) within_flagged))
    (within_chosen _ (code == 4) _ _
    (wider (4 + limit) _ _ (omega arith) (within_mapped _ block_at Append within_block))
    (within_chosen _ (code == 5) _ _
    (wider (4 + limit) _ _ (omega arith) (within_mapped _ block_at Prepend within_block))
    (within_chosen _ (code == 6) _ _ within_cas
    (within_chosen _ (code == 7) _ _ (wider 8 _ _ (omega arith) (within_amount Incr))
    (within_chosen _ (code == 8) _ _ (wider 8 _ _ (omega arith) (within_amount Decr))
    (within_chosen _ (code == 9) _ _ (wider 0 _ _ (omega arith) (within_made Delete)) (within_refusing _)))))))))

-- a code, and what stands after it
within_code : {A : Type 0} (most : ℕ) (all : Bool) (own : ℕ) (value : A) (r : ℕ → List ℕ → Read A)
    → ((code : ℕ) → IsWithin most (r code))
    → IsWithin (1 + most)
    (λ bytes. byte_at any bytes >>= λ code. cond all (cond (code.0 == own) (Ok (value, code.1)) (Err Malformed))
    (r code.0 code.1))
within_code most all own value r within =
    within_turn 1 most (byte_at any)
    (λ code rest. cond all (cond (code == own) (Ok (value, rest)) (Err Malformed)) (r code rest)) (within_byte any)
    (λ code bytes rest e. within_chosen most all
    (λ rest. cond (code == own) (Ok (value, rest)) (Err Malformed)) (r code)
    (within_chosen most (code == own) (λ rest. Ok (value, rest)) (λ rest. Err Malformed)
    (wider 0 most _ (omega arith) (within_made value)) (within_refusing most))
    (within code))

within_op : (all : Bool) → IsWithin (17 + limit) (op_at all)
unfolding op_at
within_op all = within_code (16 + limit) all 10 Flush key_operation_at within_key_operation

within_key_reply : (code : ℕ) → IsWithin 8 (key_reply_at code)
unfolding key_reply_at
within_key_reply code =
    within_chosen 8 (code == 1) _ _ (wider 0 8 _ (omega arith) (within_made Stored))
    (within_chosen 8 (code == 2) _ _ (wider 0 8 _ (omega arith) (within_made NotStored))
    (within_chosen 8 (code == 3) _ _ (wider 0 8 _ (omega arith) (within_made Exists))
    (within_chosen 8 (code == 4) _ _ (wider 0 8 _ (omega arith) (within_made NotFound))
    (within_chosen 8 (code == 5) _ _ (wider 0 8 _ (omega arith) (within_made Deleted))
    (within_chosen 8 (code == 6) _ _ (within_amount Number)
    (within_chosen 8 (code == 8) _ _ (wider 0 8 _ (omega arith) (within_made TooLarge))
    (within_chosen 8 (code == 9) _ _ (wider 0 8 _ (omega arith) (within_made NotNumber)) (within_refusing 8))))))))

within_reply : (all : Bool) → IsWithin 9 (reply_at all)
unfolding reply_at
within_reply all = within_code 8 all 10 Flushed key_reply_at within_key_reply

within_key_change : (number code : ℕ) → IsWithin (8 + limit) (key_change_at number code)
unfolding key_change_at
within_key_change number code =
    within_chosen (8 + limit) (code == 0) _ _ (wider 0 (8 + limit) _ (omega arith) (within_made Keep))
    (within_chosen (8 + limit) (code == 1) _ _
    (within_mapped (8 + limit) flagged_at (λ x. Put (record { flags = x.0; bytes = x.1; unique = number }))
    within_flagged)
    (within_chosen (8 + limit) (code == 2) _ _ (wider 0 (8 + limit) _ (omega arith) (within_made Drop))
    (within_refusing (8 + limit))))

within_change : (all : Bool) (number : ℕ) → IsWithin (9 + limit) (change_at all number)
unfolding change_at
within_change all number = within_code (8 + limit) all 3 Clear (key_change_at number) (within_key_change number)

-- ---- bodies

within_op_body : IsWithin (276 + limit) op_body_at
unfolding op_body_at
within_op_body =
    within_turn 8 (268 + limit) (number_at w64 positive)
    (λ id rest. target_at rest >>= λ on. op_at (is_all on.0) on.1 >>= λ op. Ok
    (bodies.Op id (record { target = on.0; op = op.0 }), op.1)) (within_number w64 positive)
    (λ id bytes rest e. within_turn 251 (17 + limit) target_at
    (λ on rest. op_at (is_all on) rest >>= λ op. Ok (bodies.Op id (record { target = on; op = op.0 }), op.1))
    within_target
    (λ on bytes rest e. within_mapped (17 + limit) (op_at (is_all on))
    (λ op. bodies.Op id (record { target = on; op = op })) (within_op (is_all on))))

-- the fields of an entry after its number, one by one
entry_made : ℕ → ℕ → ℕ → Target → Reply → Change → Body
entry_made entry origin id on told done =
    bodies.Forward (record { number = entry; origin = origin; id = id; target = on; reply = told; change = done })

within_forward_body : IsWithin (286 + limit) forward_body_at
unfolding forward_body_at entry_made
within_forward_body =
    within_turn 8 (278 + limit) (number_at w64 positive) _ (within_number w64 positive)
    (λ entry bytes rest e. within_turn 1 (277 + limit) (byte_at (below 16)) _ (within_byte (below 16))
    (λ origin bytes rest e. within_turn 8 (269 + limit) (number_at w64 positive) _ (within_number w64 positive)
    (λ id bytes rest e. within_turn 251 (18 + limit) target_at _ within_target
    (λ on bytes rest e. within_turn 9 (9 + limit) (reply_at (is_all on)) _ (within_reply (is_all on))
    (λ told bytes rest e. within_mapped (9 + limit) (change_at (is_all on) entry) (entry_made entry origin id on told)
    (within_change (is_all on) entry))))))

within_query_body : IsWithin 259 query_body_at
unfolding query_body_at
within_query_body = within_turn 8 251 (number_at w64 positive) _ (within_number w64 positive)
    (λ ask bytes rest e. within_mapped 251 key_at (bodies.Query ask) within_key)

within_answer_body : IsWithin 16 answer_body_at
unfolding answer_body_at
within_answer_body = within_turn 8 8 (number_at w64 positive) _ (within_number w64 positive)
    (λ ask bytes rest e. within_amount (bodies.Answer ask))

within_ack_body : IsWithin 8 ack_body_at
unfolding ack_body_at
within_ack_body = within_amount bodies.Ack

within_body : (kind : ℕ) → IsWithin (286 + limit) (body_at kind)
unfolding body_at
within_body kind =
    within_chosen (286 + limit) (kind == 1) op_body_at _
    (wider (276 + limit) (286 + limit) op_body_at (omega arith) within_op_body)
    (within_chosen (286 + limit) (kind == 2) forward_body_at _ within_forward_body
    (within_chosen (286 + limit) (kind == 3) ack_body_at _
    (wider 8 (286 + limit) ack_body_at (omega arith) within_ack_body)
    (within_chosen (286 + limit) (kind == 4) query_body_at answer_body_at
    (wider 259 (286 + limit) query_body_at (omega arith) within_query_body)
    (wider 16 (286 + limit) answer_body_at (omega arith) within_answer_body))))

-- ---- greetings

within_introduction : IsWithin 260 introduction_at
unfolding introduction_at
within_introduction =
    within_turn 1 259 (byte_at is_server_count) _ (within_byte is_server_count)
    (λ servers bytes rest e. within_turn 8 251 (number_at w64 any) _ (within_number w64 any)
    (λ start bytes rest e. within_mapped 251 key_at
    (λ chain. frames.Introduction (record { servers = servers; start = start; chain = chain })) within_key))

within_acceptance : IsWithin 10 acceptance_at
unfolding acceptance_at
within_acceptance =
    within_turn 8 2 (number_at w64 any) _ (within_number w64 any)
    (λ start bytes rest e. within_mapped 2 (number_at w16 any) (λ gone. Accepted (record { start = start; gone = gone }))
    (within_number w16 any))

within_refusal_of : (code : ℕ) → IsWithin 0 (refusal_of_at code)
unfolding refusal_of_at
within_refusal_of code =
    within_chosen 0 (code == 1) _ _ (within_made (Refused reasons.Servers))
    (within_chosen 0 (code == 2) _ _ (within_made (Refused reasons.Chain))
    (within_chosen 0 (code == 3) _ _ (within_made (Refused reasons.Taken))
    (within_chosen 0 (code == 4) _ _ (within_made (Refused reasons.Gone))
    (within_chosen 0 (code == 5) _ _ (within_made (Refused reasons.Format)) (within_refusing 0)))))

within_refusal : IsWithin 1 refusal_at
unfolding refusal_at
within_refusal =
    within_turn 1 0 (byte_at any) refusal_of_at (within_byte any) (λ code bytes rest e. within_refusal_of code)

within_beat : IsWithin 16 beat_at
unfolding beat_at
within_beat = within_turn 8 8 (number_at w64 any) _ (within_number w64 any)
    (λ epoch bytes rest e. within_amount (λ stamp. frames.Beat (record { epoch = epoch; stamp = stamp })))

within_alive : IsWithin 36 alive_at
unfolding alive_at
within_alive =
    within_turn 8 28 (number_at w64 any) _ (within_number w64 any)
    (λ epoch bytes rest e. within_turn 8 20 (number_at w64 any) _ (within_number w64 any)
    (λ stamp bytes rest e. within_turn 8 12 (number_at w64 any) _ (within_number w64 any)
    (λ end bytes rest e. within_turn 8 4 (number_at w64 any) _ (within_number w64 any)
    (λ term bytes rest e. within_turn 2 2 (number_at w16 any) _ (within_number w16 any)
    (λ gone bytes rest e. within_mapped 2 (number_at w16 any)
    (λ known. frames.Alive
    (record { epoch = epoch; stamp = stamp; end = end; term = term; gone = gone; known = known }))
    (within_number w16 any))))))

within_silence : IsWithin 9 silence_at
unfolding silence_at
within_silence = within_turn 8 1 (number_at w64 any) _ (within_number w64 any)
    (λ epoch bytes rest e. within_mapped 1 (byte_at (below 16))
    (λ id. frames.Silent (record { epoch = epoch; id = id })) (within_byte (below 16)))

within_link : (kind : ℕ) → IsWithin 8 (link_at kind)
unfolding link_at
within_link kind =
    within_chosen 8 (kind == 15) _ _ (within_amount Confirmed)
    (within_chosen 8 (kind == 16) _ _
    (wider 2 8 _ (omega arith) (within_mapped 2 (number_at w16 any) Stalled (within_number w16 any)))
    (within_refusing 8))

within_watching : (kind : ℕ) → IsWithin 36 (watching_at kind)
unfolding watching_at
within_watching kind =
    within_chosen 36 (kind == 11) _ _ (wider 8 36 _ (omega arith) (within_amount Reign))
    (within_chosen 36 (kind == 12) beat_at _ (wider 16 36 beat_at (omega arith) within_beat)
    (within_chosen 36 (kind == 13) alive_at _ within_alive
    (within_chosen 36 (kind == 14) silence_at (link_at kind) (wider 9 36 silence_at (omega arith) within_silence)
    (wider 8 36 (link_at kind) (omega arith) (within_link kind)))))

within_greeting : (kind : ℕ) → IsWithin 260 (greeting_at kind)
unfolding greeting_at
within_greeting kind =
    within_chosen 260 (kind == 7) introduction_at _ within_introduction
    (within_chosen 260 (kind == 8) acceptance_at _ (wider 10 260 acceptance_at (omega arith) within_acceptance)
    (within_chosen 260 (kind == 9) refusal_at _ (wider 1 260 refusal_at (omega arith) within_refusal)
    (within_chosen 260 (kind == 10) _ (watching_at kind)
    (wider 1 260 _ (omega arith) (within_mapped 1 (byte_at (below 16)) Noted (within_byte (below 16))))
    (wider 36 260 (watching_at kind) (omega arith) (within_watching kind)))))

-- ---- frames

within_message : (kind : ℕ) → IsWithin (288 + limit) (message_at kind)
unfolding message_at
within_message kind =
    within_turn 2 (286 + limit) (number_at w16 any) _ (within_number w16 any)
    (λ view bytes rest e. within_mapped (286 + limit) (body_at kind)
    (λ says. Peer (record { view = view; body = says })) (within_body kind))

within_kind : (kind : ℕ) → IsWithin (288 + limit) (of_kind_at kind)
unfolding of_kind_at
within_kind kind =
    within_chosen (288 + limit) (kind == 0) _ _
    (wider 1 (288 + limit) _ (omega arith)
    (within_mapped 1 (byte_at (at_most 16)) Hello (within_byte (at_most 16))))
    (within_chosen (288 + limit) (kind == 6) _ _
    (wider 1 (288 + limit) _ (omega arith) (within_mapped 1 (byte_at (below 16)) Gone (within_byte (below 16))))
    (within_chosen (288 + limit) (nat_lt 6 kind) (greeting_at kind) (message_at kind)
    (wider 260 (288 + limit) (greeting_at kind) (omega arith) (within_greeting kind)) (within_message kind)))

-- reading that doesn't tell formats apart takes no more than the longest frame, and waits only at fewer
within_frame : IsWithin longest plain_front
within_frame =
    within_turn 1 (289 + limit) (byte_at (λ b. b == 2))
    (λ b rest. byte_at any rest >>= λ kind. of_kind_at kind.0 kind.1) (within_byte (λ b. b == 2))
    (λ b bytes rest e. within_turn 1 (288 + limit) (byte_at any) of_kind_at (within_byte any)
    (λ kind bytes rest e. within_kind kind))

-- if more bytes are missing
pub short_front : (bytes : List ℕ) (k : ℕ) → front bytes ≡ Err (Short k) → length bytes < longest
short_front bytes k e = within_frame.waits bytes k (plain_short bytes k e)

-- a front that is neither a frame nor bad nor an older server's waits
pub partial_is_short : (bytes : List ℕ) → IsBytes bytes → IsPartial bytes → length bytes < longest
partial_is_short bytes fits h = by_front (front bytes) refl
  where
    by_front : (r : Read Frame) → front bytes ≡ r → length bytes < longest
    by_front (Ok x) e = absurd (h.no_frame (x.0, x.1, first_from bytes x.0 x.1 fits e))
    by_front (Err (Short k)) e = short_front bytes k e
    by_front (Err Malformed) e = absurd (h.not_malformed (malformed_from bytes fits e))
    by_front (Err Old) e = absurd (h.not_old (old_from bytes e))

-- no frame is longer than the longest
pub frame_is_within : (f : Frame) → IsFrame f → length (spelling f) ≤ longest
frame_is_within f h =
    let read : plain_front (spelling f ++ []) ≡ Ok (f, []) = plain_reader.again f (spelling f) [] (frame_to f h) in
    let within = within_frame.takes (spelling f ++ []) f [] read in
    omega (arith, length-append (spelling f) [])

-- ---- the longest frame

-- an entry that puts these bytes on this key, and answers a number
putting : List ℕ → List ℕ → Frame
putting key block =
    Peer (record {
      view = 0;
      body = bodies.Forward
          (record {
            number = 1;
            origin = 0;
            id = 1;
            target = One key;
            reply = Number 0;
            change = Put (record { flags = 0; bytes = block; unique = 1 });
          });
    })

putting_is : (key block : List ℕ)
    → IsKey key
    → length key ≡ 250
    → length block ≡ limit
    → IsFrame (putting key block) × (length (spelling (putting key block)) ≡ longest)
unfolding putting
putting_is key block is_key full most = (
  (
    omega arith,
    record {
      entry = record {
        numbered = omega arith;
        served = omega arith;
        called = omega arith;
        answered = refl;
        put = (refl, omega arith);
        cleared = refl;
        flushed = refl;
      };
      number = omega arith;
      id = omega arith;
      target = is_key;
      reply = omega arith;
      change = omega arith;
    },
  ),
  simp length-append (omega arith),
)

-- a key of 250 bytes, and any n bytes
long_key : (key : List ℕ) × IsKey key × (length key ≡ 250)
long_key = (replicate 250 97, refl, refl)

so_many : (n : ℕ) → (block : List ℕ) × (length block ≡ n)
so_many n = (replicate n 0, length-replicate n 0)

-- some frame is as long as the longest
pub longest_there : (f : Frame) × IsFrame f × (length (spelling f) ≡ longest)
longest_there =
    let key = long_key in
    let block = so_many limit in
    let is = putting_is key.0 block.0 key.1 key.2 block.1 in
    (putting key.0 block.0, is.0, is.1)

-- a spelling without its last byte
all_but_one : (f : Frame) (n : ℕ)
    → IsFrame f
    → length (spelling f) ≡ n + 1
    → (bytes : List ℕ) × IsPartial bytes × (length bytes + 1 ≡ n + 1)
all_but_one f n h long =
    let left : 0 < length (drop n (spelling f)) = omega (arith, length-drop n (spelling f)) in (
      take n (spelling f),
      beginning_waits f (take n (spelling f)) (drop n (spelling f)) h
          (sym (take-append-drop n (spelling f))) left,
      omega (arith, length-take n (spelling f)),
    )

-- some front that waits is shorter than the longest frame by one byte alone
pub short_by_one : (bytes : List ℕ) × IsPartial bytes × (length bytes + 1 ≡ longest)
short_by_one = all_but_one longest_there.0 1048865 longest_there.1 longest_there.2
