-- Serves a field of the code; no public contract needs it. The entry of a block's parts.
use Rattle.versions.specs.declared.entries.Parts.{Parts}
use Rattle.versions.specs.Entries.{LogEntry}

-- the entry that has these parts
abbrev pub entry_of : Parts → LogEntry
entry_of p =
    record {
      number = p.number;
      origin = p.origin;
      id = p.id;
      target = p.target;
      reply = p.reply;
      change = p.change;
    }
