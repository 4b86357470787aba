-- Worlds in which a call is forgotten: quiet ones, with a begun call at a living home that has no reply.
use Rattle.std.specs.Prelude.{ℕ, true, List, [], ◌∷◌, Some, None, codes}
use Rattle.table.specs.declared.operations.Op.TheVariants.{Set}
use Rattle.table.specs.declared.operations.Target.TheVariants.{One}
use Rattle.proto.specs.declared.texts.Form.TheVariants.{Status}
use Rattle.proto.specs.Sessions.{fresh}
use Rattle.node.specs.Servers.{opening}
use Rattle.world.specs.declared.connections.Stage.TheVariants.{Asked}
use Rattle.world.specs.declared.events.Event.{Event}
use Rattle.world.specs.declared.events.Event.TheVariants.{Piece, Begin, Work, Deliver, Fail, Tell}
use Rattle.world.specs.Worlds.{World}
use Rattle.world.specs.Transcripts.{TranscriptShown}
use Rattle.world.specs.WorkedSchedules.{set_of}

-- a server alone that knows nothing of the call that its client waits for
abbrev pub stuck : World
stuck = record {
  servers = opening 0 1 ∷ [];
  failed = 0;
  links = ([] ∷ []) ∷ [];
  connections =
      record {
        home = 0;
        session = record fresh { asked = Some Status };
        calls = set_of (codes "a") (codes "p") ∷ [];
        replies = [];
        stage = Asked;
      } ∷ [];
}

-- one client, of the head
abbrev pub head_homes : List ℕ
head_homes = 0 ∷ []

-- it sets a key, and the head takes the set
abbrev pub set_taken : List Event → List Event
set_taken later = Piece 0 (codes "set a 0 0 1\r\np\r\n") ∷ Begin 0 ∷ Work 0 ∷ later

-- two servers
unfoldable pub set_taken_events : List Event
set_taken_events = set_taken []

-- two servers, the second of which fails before the set's entry comes
unfoldable pub new_tail_events : List Event
new_tail_events = set_taken (Fail 1 ∷ Tell 0 1 ∷ [])

-- three servers, the second of which fails before the set's entry comes; the third acknowledges nothing to the first
unfoldable pub new_successor_events : List Event
new_successor_events = set_taken (Fail 1 ∷ Tell 0 1 ∷ Tell 2 1 ∷ Deliver 2 0 ∷ [])

-- nothing waits, and the set has no reply
abbrev pub forgotten_transcript : TranscriptShown
forgotten_transcript = record {
  connections =
      record {
        home = 0;
        calls = record { target = One (codes "a"); op = Set 0 (codes "p"); reply = None } ∷ [];
        sent = [];
      } ∷ [];
  quiet = true;
}
