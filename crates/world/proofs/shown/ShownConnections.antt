-- What a transcript shows of each connection: its calls and their replies, the bytes that it was sent, and that no
-- call is forgotten.
use Rattle.std.proofs.Common.{◌≡◌, ℕ, zero, suc, ◌+◌, ◌<◌, ◌≤◌, Bool, true, false, List, [], ◌∷◌, length, take, drop}
use Rattle.std.proofs.Common.{map, Some, None, refl, sym, ap, subst, ◌∙◌, arith}
use Rattle.std.specs.Prelude.{slice_get, IsSome, ◌↔◌, nat_le}
use Rattle.std.proofs.lemmas.Bool.{and_parts}
use Rattle.std.proofs.lemmas.Bool.Decides.{nat_tests}
use Rattle.std.proofs.lemmas.List.{drop_all}
use Rattle.std.proofs.lemmas.Option.{slice_get_within}
use Rattle.table.specs.declared.operations.Call.{Call}
use Rattle.table.specs.declared.operations.Reply.{Reply}
use Rattle.proto.specs.Streams.{turns}
use Rattle.world.specs.declared.transcripts.CallTranscript.{CallTranscript}
use Rattle.world.specs.declared.events.Event.{Event}
use Rattle.world.specs.Connections.{Connection}
use Rattle.world.specs.Worlds.{World, lives, run_from, run_of}
use Rattle.world.specs.Calls.{CallId, IsBegun, IsAnswered, has_living_home}
use Rattle.world.specs.Forgotten.{NoneForgotten}
use Rattle.world.specs.Transcripts.{ConnectionShown, TranscriptShown, calls_shown, connection_shown, transcript_of}
use Rattle.world.specs.Shown.{calls_in, replies_in}
use Rattle.world.specs.Sent.{position_of, sent_bytes, calls_of}
use Rattle.world.specs.Progress.{past}
use Rattle.world.specs.Scenes.{is_count}
use Rattle.world.proofs.lists.Standing.{get_within, some_of}
use Rattle.world.proofs.shown.ShownCalls.{in_step}

-- ---- the calls of one connection

-- of the calls that are shown with replies the calls are those that were begun
pub calls_are : (calls : List Call) (replies : List Reply) → calls_in (calls_shown calls replies) ≡ calls
calls_are [] replies = refl
calls_are (call ∷ calls) [] = ap (λ cs. call ∷ cs) (calls_are calls [])
calls_are (call ∷ calls) (reply ∷ replies) = ap (λ cs. call ∷ cs) (calls_are calls replies)

-- as many calls are shown as were begun
pub length-shown : (calls : List Call) (replies : List Reply) → length (calls_shown calls replies) ≡ length calls
length-shown [] replies = refl
length-shown (call ∷ calls) [] = omega (arith, length-shown calls [])
length-shown (call ∷ calls) (reply ∷ replies) = omega (arith, length-shown calls replies)

no_replies : (calls : List Call) → replies_in (calls_shown calls []) ≡ []
no_replies [] = refl
no_replies (call ∷ calls) = no_replies calls

-- the replies that are shown are those that were given, if there are no more of them than calls
pub replies_are : (calls : List Call) (replies : List Reply)
    → length replies ≤ length calls
    → replies_in (calls_shown calls replies) ≡ replies
replies_are calls [] few = no_replies calls
replies_are [] (reply ∷ replies) few = absurd (omega (arith, few))
replies_are (call ∷ calls) (reply ∷ replies) few =
    ap (λ rs. reply ∷ rs) (replies_are calls replies (omega (arith, few)))

-- a call that is shown has a reply exactly if it is one of the first
has_reply : (calls : List Call) (replies : List Reply) (p : ℕ) (s : CallTranscript)
    → slice_get (calls_shown calls replies) p ≡ Some s
    → IsSome s.reply ↔ p < length replies
has_reply [] replies p s here = absurd cc
has_reply (call ∷ calls) [] zero s here =
    let one : None ≡ s.reply = cc in rw (← one) (λ h. absurd cc, λ l. absurd (omega (arith, l)))
has_reply (call ∷ calls) [] (suc p) s here =
    let later = has_reply calls [] p s here in (λ h. absurd (omega (arith, later.0 h)), λ l. absurd (omega (arith, l)))
has_reply (call ∷ calls) (reply ∷ replies) zero s here =
    let one : Some reply ≡ s.reply = cc in rw (← one) (λ h. omega arith, λ l. refl)
has_reply (call ∷ calls) (reply ∷ replies) (suc p) s here =
    let later = has_reply calls replies p s here in (λ h. omega (arith, later.0 h), λ l. later.1 (omega (arith, l)))

-- ---- the connections of a transcript

-- what is shown in a place is shown of the connection there
pub record IsShown (ks : List Connection) (c : ℕ) (shown : ConnectionShown) : Type 0 where
  pub connection : Connection
  pub here : slice_get ks c ≡ Some connection
  pub same : connection_shown connection ≡ shown

-- what is shown in a place is shown of a connection that stands there
pub is_shown : (ks : List Connection) (c : ℕ) (shown : ConnectionShown)
    → slice_get (map connection_shown ks) c ≡ Some shown
    → IsShown ks c shown
is_shown [] c shown here = absurd cc
is_shown (k ∷ ks) zero shown here = record { connection = k; here = refl; same = cc }
is_shown (k ∷ ks) (suc c) shown here =
    let r = is_shown ks c shown here in record { connection = r.connection; here = r.here; same = r.same }

-- it holds of each connection of a run, and of each that a transcript shows
abbrev Each : ℕ → List ℕ → List Event → (ℕ → Connection → Type 0) → Type 0
Each count homes events P =
    (c : ℕ) (k : Connection) → slice_get (run_of count homes events).connections c ≡ Some k → P c k

abbrev EachShown : TranscriptShown → (ℕ → ConnectionShown → Type 0) → Type 0
EachShown t P = (c : ℕ) (k : ConnectionShown) → slice_get t.connections c ≡ Some k → P c k

module _ (count : ℕ) (homes : List ℕ) (events : List Event) (t : TranscriptShown)
    (is : t ≡ transcript_of (run_of count homes events)) where
  abbrev Of : ℕ → ConnectionShown → Type 0
  Of c k = IsShown (run_of count homes events).connections c k

  of : EachShown t Of
  of c k here =
      let there = ap (λ (t : TranscriptShown). slice_get t.connections c) (sym is) ∙ here in
      is_shown (run_of count homes events).connections c k there

  calls_of_shown : (c : ℕ) (k : ConnectionShown) (s : Of c k) → calls_in k.calls ≡ s.connection.calls
  calls_of_shown c k s =
      ap (λ (k : ConnectionShown). calls_in k.calls) (sym s.same) ∙ calls_are s.connection.calls s.connection.replies

  few : (c : ℕ) (k : ConnectionShown) (s : Of c k) → length s.connection.replies ≤ length s.connection.calls
  few c k s = omega (arith, in_step count homes events c s.connection s.here)

  replies_of_shown : (c : ℕ) (k : ConnectionShown) (s : Of c k) → replies_in k.calls ≡ s.connection.replies
  replies_of_shown c k s =
      ap (λ (k : ConnectionShown). replies_in k.calls) (sym s.same)
      ∙ replies_are s.connection.calls s.connection.replies (few c k s)

  length_of_shown : (c : ℕ) (k : ConnectionShown) (s : Of c k) → length k.calls ≡ length s.connection.calls
  length_of_shown c k s =
      ap (λ (k : ConnectionShown). length k.calls) (sym s.same) ∙ length-shown s.connection.calls s.connection.replies

  has_reply_there : (c p : ℕ) (k : ConnectionShown) (call : CallTranscript)
      → slice_get k.calls p ≡ Some call
      → (s : Of c k)
      → IsSome call.reply ↔ p < length s.connection.replies
  has_reply_there c p k call there s =
      let shown = ap (λ (k : ConnectionShown). slice_get k.calls p) s.same ∙ there in
      has_reply s.connection.calls s.connection.replies p call shown

  -- it has been sent the texts of the turns up to its ordinal
  pub sent_shown : Each count homes events
      (λ c k. k.session.out ≡ sent_bytes (position_of count homes events c) k.replies)
      → EachShown t (λ c k. k.sent ≡ sent_bytes (position_of count homes events c) (replies_in k.calls))
  sent_shown law c k here =
      let s = of c k here in
      ap (λ (k : ConnectionShown). k.sent) (sym s.same) ∙ law c s.connection s.here
      ∙ ap (sent_bytes (position_of count homes events c)) (sym (replies_of_shown c k s))

  -- its calls are the first of its stream
  abbrev stream_calls : ℕ → List Call
  stream_calls c = calls_of (turns (position_of count homes events c).stream)

  -- if each connection's begun calls are the first of its stream, so are those that are shown
  pub begun_shown : Each count homes events (λ c k. k.calls ≡ take (length k.calls) (stream_calls c))
      → EachShown t (λ c k. calls_in k.calls ≡ take (length k.calls) (stream_calls c))
  begun_shown law c k here =
      let s = of c k here in
      calls_of_shown c k s ∙ law c s.connection s.here
      ∙ ap (λ n. take n (stream_calls c)) (sym (length_of_shown c k s))

  -- those up to its ordinal have replies
  abbrev answered_calls : ℕ → ℕ
  answered_calls c = length (calls_of (past (position_of count homes events c)))

  -- if each connection has as many replies as calls were answered, as many are shown
  pub answered_shown : Each count homes events (λ c k. length k.replies ≡ answered_calls c)
      → EachShown t (λ c k. length (replies_in k.calls) ≡ answered_calls c)
  answered_shown law c k here =
      let s = of c k here in ap length (replies_of_shown c k s) ∙ law c s.connection s.here

  -- and they are the first
  pub in_turn_shown : EachShown t (λ c k. (p : ℕ) (call : CallTranscript) → slice_get k.calls p ≡ Some call
      → IsSome call.reply ↔ p < length (replies_in k.calls))
  in_turn_shown c k here p call there =
      let s = of c k here in
      subst (λ n. IsSome call.reply ↔ p < n) (ap length (sym (replies_of_shown c k s)))
      (has_reply_there c p k call there s)

  -- if at most one call of each connection is open, at most one is shown without a reply
  pub one_open_shown : Each count homes events (λ c k. length k.calls ≤ length k.replies + 1)
      → EachShown t (λ c k. length k.calls ≤ length (replies_in k.calls) + 1)
  one_open_shown law c k here =
      let s = of c k here in
      omega (arith, law c s.connection s.here, length_of_shown c k s, ap length (replies_of_shown c k s))

  -- a call that is shown was begun, and is answered if its reply is shown
  begun_there : (c p : ℕ) (k : ConnectionShown) (call : CallTranscript)
      → slice_get k.calls p ≡ Some call
      → Of c k
      → IsBegun (run_of count homes events) (record { connection = c; ordinal = p })
  begun_there c p k call there s =
      let within = slice_get_within k.calls p call there in
      rw s.here (get_within s.connection.calls p (omega (arith, length_of_shown c k s, within)))

  home_there : (c p : ℕ) (k : ConnectionShown)
      → Of c k
      → lives (run_of count homes events) k.home ≡ true
      → has_living_home (run_of count homes events) (record { connection = c; ordinal = p }) ≡ true
  home_there c p k s alive =
      rw s.here (ap (λ (k : ConnectionShown). lives (run_of count homes events) k.home) s.same ∙ alive)

  answered_there : (c p : ℕ) (k : ConnectionShown) (call : CallTranscript)
      → slice_get k.calls p ≡ Some call
      → Of c k
      → IsAnswered (run_of count homes events) (record { connection = c; ordinal = p })
      → IsSome call.reply
  answered_there c p k call there s answered =
      let reply = some_of (slice_get s.connection.replies p) (rw s.here at answered) in
      let within = slice_get_within s.connection.replies p reply.0 reply.1 in
      (has_reply_there c p k call there s).1 within

  -- if it says quiet, each call that it shows at a living home has its reply
  pub none_forgotten_shown : NoneForgotten (run_of count homes events)
      → t.quiet ≡ true
      → EachShown t (λ c k. lives (run_of count homes events) k.home ≡ true
      → (p : ℕ) (call : CallTranscript)
      → slice_get k.calls p ≡ Some call
      → IsSome call.reply)
  none_forgotten_shown law quiet c k here alive p call there =
      let s = of c k here in
      let x : CallId = record { connection = c; ordinal = p } in
      let quiet = ap (λ (t : TranscriptShown). t.quiet) (sym is) ∙ quiet in
      answered_there c p k call there s (law quiet x (begun_there c p k call there s) (home_there c p k s alive))

-- ---- the end of a run

-- what is shown of the world in which no event is left is shown of the run
pub run_shown : (w v : World) (es : List Event) (i : ℕ) (t : TranscriptShown)
    → run_from w (drop i es) ≡ v
    → length es ≤ i
    → t ≡ transcript_of w
    → t ≡ transcript_of v
run_shown w v es i t rest all is =
    is ∙ ap (λ w. transcript_of w) (ap (λ (es : List Event). run_from w es) (sym (drop_all i es all)) ∙ rest)

-- a chain whose count was taken has at most 16 servers
pub taken_count : (count : ℕ) → (is_count count ≡ false → ⊥) → count ≤ 16
taken_count count taken = by_test (is_count count) refl
  where
    by_test : (b : Bool) → is_count count ≡ b → count ≤ 16
    by_test true e = let parts = and_parts (nat_le 1 count) (nat_le count 16) e in grind (arith, nat_tests, parts.1)
    by_test false e = absurd (taken e)
