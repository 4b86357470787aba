-- A worked schedule: the head fails before anyone has its entry of an incr. The incr is sent again to the next head,
-- and acts there.
use Rattle.std.proofs.Common.{◌≡◌, refl, ℕ, false, List, [], ◌∷◌, ◌++◌, Option, Some, None, ap, ◌∙◌, arith}
use Rattle.std.specs.Prelude.{codes, decimal, replicate}
use Rattle.std.proofs.lemmas.Fmt.{decimal_digit}
use Rattle.std.specs.FinMap.{empty, insert, get-insert}
use Rattle.std.specs.Cmp.Lexicographic.{nat_list_cmp_total}
use Rattle.table.specs.Plain.{Items, item_at}
use Rattle.table.specs.Decisions.{decision}
use Rattle.table.specs.Items.{Item}
use Rattle.table.specs.declared.operations.Call.{Call}
use Rattle.table.specs.declared.operations.Reply.TheVariants.{Stored, Number, Value}
use Rattle.table.specs.declared.operations.Op.TheVariants.{Read, Set, Incr}
use Rattle.table.specs.declared.operations.Target.TheVariants.{One}
use Rattle.versions.specs.Entries.{LogEntry}
use Rattle.proto.specs.declared.texts.Form.TheVariants.{Status}
use Rattle.proto.specs.Turns.{item_text}
use Rattle.node.specs.declared.servers.OpenUpdate.{OpenUpdate}
use Rattle.node.specs.declared.messages.Peer.{Peer}
use Rattle.node.specs.declared.messages.Body.TheVariants.{Op, Forward}
use Rattle.node.specs.Servers.{ServerState}
use Rattle.proto.specs.Words.{line_limit}
use Rattle.node.specs.Views.{has, union, single, is_below, adds, next_from, predecessor}
use Rattle.node.specs.Servers.{most}
use Rattle.node.specs.Numbering.{left_open, replies, risen, appended, passed_on, take_update, entered}
use Rattle.node.specs.Joining.{widened, taken_all, sent_again, forwarded, promoted_to_head, promoted_to_tail, caught_up}
use Rattle.node.specs.Joining.{acked_to_predecessor, asks_renewed}
use Rattle.node.specs.Steps.{trimmed}
use Rattle.world.specs.declared.events.Event.{Event}
use Rattle.world.specs.declared.events.Event.TheVariants.{Deliver}
use Rattle.world.specs.declared.connections.Stage.TheVariants.{Asked}
use Rattle.world.specs.Worlds.{World, server, link, with_server, with_link, with_connection, put_all, opening_world}
use Rattle.world.specs.Worlds.{happens, run_from, run_of}
use Rattle.world.specs.Transcripts.{TranscriptShown, transcript_of}
use Rattle.world.specs.WorkedSchedules.{set_of, incr_of, get_of, resent_homes, resent_before, resent_behind}
use Rattle.world.specs.WorkedSchedules.{resent_events, resent_transcript}
use Rattle.world.proofs.examples.WorkedOrders.{calls_in, replies_in}

-- the key of the counter
abbrev pub key : List ℕ
key = codes "n"

-- the set that puts 7 there
abbrev pub set : Call
set = set_of key (codes "7")

-- the incr by 1, which is sent again
abbrev pub incr : Call
incr = incr_of key

-- the get after it
abbrev pub get : Call
get = get_of key

-- the items that the set and the incr put
abbrev pub seven : Item
seven = record { flags = 0; bytes = codes "7"; unique = 1 }

-- the item that the incr puts, with these digits
abbrev pub eight_with : List ℕ → Item
eight_with digits = record { flags = 0; bytes = digits; unique = 2 }

-- the item that the incr puts, with the digits of 8
abbrev pub eight : Item
eight = eight_with (decimal 8)

-- the items after the set
abbrev pub one_put : Items
one_put = insert empty key seven

-- a head's entry of the incr, if it finds this
abbrev pub entry_on : Option Item → LogEntry
entry_on found = record {
  number = 2;
  origin = 2;
  id = 2;
  target = One key;
  reply = (decision found (Incr 1) 2).0;
  change = (decision found (Incr 1) 2).1;
}

-- a server of the chain that has acknowledged the set, and has these other parts
abbrev pub acting : ℕ → ℕ → List LogEntry → ℕ → List OpenUpdate → ℕ → ServerState
acting id view rest seen pend next_id = record {
  id = id;
  count = 3;
  view = view;
  store = record { base = one_put; floor = 1; rest = rest; acked = 1 };
  seen = 0 ∷ 0 ∷ seen ∷ replicate 13 0;
  pend = pend;
  next_id = next_id;
  asks = [];
  next_ask = 1;
}

-- the world after the head's entry: what server 1 holds, and the links from it and from server 2 to it, are still to
-- be said
abbrev pub middle : LogEntry → List LogEntry → ℕ → List Peer → List Peer → World
middle first rest seen down up = record {
  servers = acting 0 0 (first ∷ []) 2 [] 1 ∷ acting 1 1 rest seen [] 1 ∷ acting 2 1 [] 1
      (record { id = 2; port = 0; call = incr } ∷ []) 3 ∷ [];
  failed = 1;
  links =
      ([] ∷ (record { view = 0; body = Forward first } ∷ []) ∷ [] ∷ [])
      ∷ ([] ∷ [] ∷ down ∷ [])
      ∷ ([] ∷ up ∷ [] ∷ [])
      ∷ [];
  connections =
      record {
        home = 2;
        session = record {
          unread = codes "get n\r\n";
          skipped_block = None;
          later = [];
          unique = false;
          asked = Some Status;
          out = codes "STORED\r\n";
          closed = false;
        };
        calls = set ∷ incr ∷ [];
        replies = Stored ∷ [];
        stage = Asked;
      } ∷ [];
}

-- the entry that the first head made of the incr
abbrev pub first : LogEntry
first = entry_on (item_at one_put key)

abbrev asked_twice : World
asked_twice = middle first [] 1 [] (record { view = 1; body = Op 2 incr } ∷ [])

-- the world after the next head's entry e of the incr: it is forwarded to the tail
abbrev pub taken_twice : LogEntry → World
taken_twice e = middle first (e ∷ []) 2 (record { view = 1; body = Forward e } ∷ []) []

sent : run_of 3 resent_homes resent_before ≡ asked_twice
unfolding resent_before line_limit has union single is_below adds next_from predecessor most appended entered widened
    taken_all sent_again forwarded trimmed left_open replies risen passed_on take_update promoted_to_head
    promoted_to_tail caught_up acked_to_predecessor asks_renewed server link with_server with_link
    with_connection put_all
sent = refl

acts : happens asked_twice (Deliver 2 1) ≡ taken_twice (entry_on (item_at one_put key))
unfolding line_limit has union single is_below adds next_from predecessor most appended entered widened taken_all
    sent_again forwarded trimmed left_open replies risen passed_on take_update promoted_to_head promoted_to_tail
    caught_up acked_to_predecessor asks_renewed server link with_server with_link with_connection put_all
acts = refl

run_on : (w : World) (es fs : List Event) → run_from w (es ++ fs) ≡ run_from (run_from w es) fs
run_on w [] fs = refl
run_on w (e ∷ es) fs = run_on (happens w e) es fs

-- after the set the counter is 7
pub found_seven : item_at one_put key ≡ Some seven
found_seven = get-insert nat_list_cmp_total empty key seven key

-- after the incr the counter is 8
pub found_eight : item_at (insert one_put key eight) key ≡ Some eight
found_eight = get-insert nat_list_cmp_total one_put key eight key

abbrev last : World
last = run_from (taken_twice (entry_on (Some seven))) resent_behind

-- if the next head takes it, and these events follow
pub ends_with : (es : List Event)
    → run_of 3 resent_homes (resent_before ++ Deliver 2 1 ∷ es) ≡ run_from (taken_twice (entry_on (Some seven))) es
ends_with es =
    run_on (opening_world 3 resent_homes) resent_before (Deliver 2 1 ∷ es)
    ∙ ap (λ w. run_from (happens w (Deliver 2 1)) es) sent
    ∙ ap (λ w. run_from w es) (acts ∙ ap (λ found. taken_twice (entry_on found)) found_seven)

ends : run_of 3 resent_homes resent_events ≡ last
ends = ends_with resent_behind

-- what is shown, if the get found this
abbrev shown_with : List ℕ → Option Item → List ℕ → TranscriptShown
shown_with digits found text = record {
  connections =
      record {
        home = 2;
        calls =
            record { target = One key; op = Set 0 (codes "7"); reply = Some Stored }
            ∷ record { target = One key; op = Incr 1; reply = Some (Number 8) }
            ∷ record { target = One key; op = Read; reply = Some (Value found) }
            ∷ [];
        sent = codes "STORED\r\n" ++ (digits ++ codes "\r\n") ++ (text ++ codes "END\r\n");
      } ∷ [];
  quiet = false;
}

shown_last : transcript_of last ≡ shown_with (decimal 8) (item_at (insert one_put key eight) key)
    (item_text key false (item_at (insert one_put key eight) key))
unfolding resent_behind line_limit has union single is_below adds next_from predecessor most appended entered widened
    taken_all sent_again forwarded trimmed left_open replies risen passed_on take_update promoted_to_head
    promoted_to_tail caught_up acked_to_predecessor asks_renewed server link with_server with_link
    with_connection put_all
shown_last = refl

text_eight : item_text key false (Some eight) ≡ codes "VALUE n 0 1\r\n8\r\n"
text_eight = rw (decimal_digit 8 (omega arith), decimal_digit 0 (omega arith), decimal_digit 1 (omega arith)) refl

-- the incr that is sent again acts once: the get shows 8
pub resent_call_acts : transcript_of (run_of 3 resent_homes resent_events) ≡ resent_transcript
resent_call_acts =
    ap transcript_of ends ∙ shown_last
    ∙ ap (λ found. shown_with (decimal 8) found (item_text key false found)) found_eight
    ∙ ap (shown_with (decimal 8) (Some eight)) text_eight
    ∙ ap (λ digits. shown_with digits (Some (eight_with digits)) (codes "VALUE n 0 1\r\n8\r\n"))
    (decimal_digit 8 (omega arith))

called_last : calls_in last ≡ (set ∷ incr ∷ get ∷ []) ∷ []
unfolding resent_behind line_limit has union single is_below adds next_from predecessor most appended entered widened
    taken_all sent_again forwarded trimmed left_open replies risen passed_on take_update promoted_to_head
    promoted_to_tail caught_up acked_to_predecessor asks_renewed server link with_server with_link
    with_connection put_all
called_last = refl

-- after the schedule the set, the incr and the get are begun
pub called : calls_in (run_of 3 resent_homes resent_events) ≡ (set ∷ incr ∷ get ∷ []) ∷ []
called = ap calls_in ends ∙ called_last

replied_last : replies_in last ≡ (Stored ∷ Number 8 ∷ Value (item_at (insert one_put key eight) key) ∷ []) ∷ []
unfolding resent_behind line_limit has union single is_below adds next_from predecessor most appended entered widened
    taken_all sent_again forwarded trimmed left_open replies risen passed_on take_update promoted_to_head
    promoted_to_tail caught_up acked_to_predecessor asks_renewed server link with_server with_link
    with_connection put_all
replied_last = refl

-- after the schedule all three are answered, the get with 8
pub replied : replies_in (run_of 3 resent_homes resent_events) ≡ (Stored ∷ Number 8 ∷ Value (Some eight) ∷ []) ∷ []
replied = ap replies_in ends ∙ replied_last ∙ ap (λ found. (Stored ∷ Number 8 ∷ Value found ∷ []) ∷ []) found_eight
