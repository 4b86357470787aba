-- A worked schedule: a read of a dirty key asks the tail, and shows nothing of the set that is not committed yet.
use Rattle.std.proofs.Common.{◌≡◌, refl, ℕ, false, List, [], ◌∷◌, ◌++◌, Option, Some, None, ap, ◌∙◌}
use Rattle.std.specs.Prelude.{codes}
use Rattle.std.specs.FinMap.{empty, get-empty}
use Rattle.table.specs.Keys.{key_cmp}
use Rattle.table.specs.Plain.{item_at}
use Rattle.table.specs.Items.{Item}
use Rattle.table.specs.declared.operations.Call.{Call}
use Rattle.table.specs.declared.operations.Reply.TheVariants.{Value}
use Rattle.table.specs.declared.operations.Op.TheVariants.{Read, Set}
use Rattle.table.specs.declared.operations.Target.TheVariants.{One}
use Rattle.proto.specs.Turns.{item_text}
use Rattle.proto.specs.Words.{line_limit}
use Rattle.node.specs.Views.{has, union, single, is_below, adds, next_from, predecessor}
use Rattle.node.specs.Servers.{most}
use Rattle.node.specs.Numbering.{appended, passed_on, take_update, entered}
use Rattle.node.specs.Reading.{asked, dirty_read, answered}
use Rattle.node.specs.Steps.{trimmed}
use Rattle.world.specs.Worlds.{server, link, with_server, with_link, with_connection, put_all, run_of}
use Rattle.world.specs.Transcripts.{TranscriptShown, transcript_of}
use Rattle.world.specs.WorkedSchedules.{set_of, get_of, dirty_homes, dirty_events, dirty_transcript}
use Rattle.world.proofs.examples.WorkedOrders.{calls_in, replies_in}

-- what is shown, if the read found this
abbrev shown_with : Option Item → TranscriptShown
shown_with found = record {
  connections =
      record {
        home = 0;
        calls = record { target = One (codes "a"); op = Set 0 (codes "p"); reply = None } ∷ [];
        sent = [];
      }
      ∷ record {
        home = 0;
        calls = record { target = One (codes "a"); op = Read; reply = Some (Value found) } ∷ [];
        sent = item_text (codes "a") false found ++ codes "END\r\n";
      }
      ∷ [];
  quiet = false;
}

shown_computed : transcript_of (run_of 3 dirty_homes dirty_events) ≡ shown_with (item_at empty (codes "a"))
unfolding dirty_events line_limit has union single is_below adds next_from predecessor most appended entered asked
    trimmed passed_on take_update dirty_read answered server link with_server with_link with_connection put_all
shown_computed = refl

-- the read of the dirty key finds nothing, while the set has no reply yet
pub dirty_read_before_commit : transcript_of (run_of 3 dirty_homes dirty_events) ≡ dirty_transcript
dirty_read_before_commit = rw (shown_computed, get-empty key_cmp (codes "a")) refl

-- the key that is set and read
abbrev pub key : List ℕ
key = codes "a"

-- the first client's set
abbrev pub set : Call
set = set_of key (codes "p")

-- the second client's get
abbrev pub get : Call
get = get_of key

-- after the schedule both calls are begun
pub called : calls_in (run_of 3 dirty_homes dirty_events) ≡ (set ∷ []) ∷ (get ∷ []) ∷ []
unfolding dirty_events line_limit has union single is_below adds next_from predecessor most appended entered asked
    trimmed passed_on take_update dirty_read answered server link with_server with_link with_connection put_all
called = refl

replies_computed : replies_in (run_of 3 dirty_homes dirty_events) ≡ [] ∷ (Value (item_at empty key) ∷ []) ∷ []
unfolding dirty_events line_limit has union single is_below adds next_from predecessor most appended entered asked
    trimmed passed_on take_update dirty_read answered server link with_server with_link with_connection put_all
replies_computed = refl

-- the set has no reply, and the get found nothing
pub replied : replies_in (run_of 3 dirty_homes dirty_events) ≡ [] ∷ (Value None ∷ []) ∷ []
replied = replies_computed ∙ ap (λ found. [] ∷ (Value found ∷ []) ∷ []) (get-empty key_cmp key)
