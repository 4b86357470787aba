-- A code for what calls came to, as a field that only contracts see needs it.
use Rattle.std.specs.Prelude.{◌≡◌, ℕ, ◌==◌, Option, None, Some, List, cond, refl}
use Rattle.std.specs.Coded.{Coded, code_by, coded×, coded_ℕ, coded_list, coded_option}
use Rattle.table.specs.Items.{coded_item, Item}
use Rattle.table.specs.declared.operations.Reply.{Reply}
use Rattle.table.specs.declared.operations.Reply.TheVariants.{Stored, NotStored, Exists, NotFound, Deleted, Number}
use Rattle.table.specs.declared.operations.Reply.TheVariants.{Value, TooLarge, NotNumber, Flushed}
use Rattle.proto.specs.Turns.{Outcome, Replied, Refused}

-- a reply as the place of its variant, its number, and its item
abbrev Parts : Type 0
Parts = ℕ × (ℕ × Option Item)

abbrev to_parts : Reply → Parts
to_parts Stored = (0, (0, None))
to_parts NotStored = (1, (0, None))
to_parts Exists = (2, (0, None))
to_parts NotFound = (3, (0, None))
to_parts Deleted = (4, (0, None))
to_parts (Number n) = (5, (n, None))
to_parts (Value item) = (6, (0, item))
to_parts TooLarge = (7, (0, None))
to_parts NotNumber = (8, (0, None))
to_parts Flushed = (9, (0, None))

abbrev from_parts : Parts → Reply
from_parts p =
    cond (p.0 == 0) Stored (cond (p.0 == 1) NotStored (cond (p.0 == 2) Exists (cond (p.0 == 3) NotFound
    (cond (p.0 == 4) Deleted (cond (p.0 == 5) (Number p.1.0) (cond (p.0 == 6) (Value p.1.1) (cond (p.0 == 7) TooLarge
    (cond (p.0 == 8) NotNumber Flushed))))))))

pub from_parts-to_parts : (r : Reply) → from_parts (to_parts r) ≡ r
from_parts-to_parts Stored = refl
from_parts-to_parts NotStored = refl
from_parts-to_parts Exists = refl
from_parts-to_parts NotFound = refl
from_parts-to_parts Deleted = refl
from_parts-to_parts (Number n) = refl
from_parts-to_parts (Value item) = refl
from_parts-to_parts TooLarge = refl
from_parts-to_parts NotNumber = refl
from_parts-to_parts Flushed = refl

abbrev coded_reply : Coded Reply
coded_reply =
    code_by Parts (coded× coded_ℕ (coded× coded_ℕ (coded_option coded_item))) to_parts from_parts from_parts-to_parts

-- what a call came to, as its reply if it has one
abbrev to_reply : Outcome → Option Reply
to_reply (Replied reply) = Some reply
to_reply Refused = None

abbrev from_reply : Option Reply → Outcome
from_reply None = Refused
from_reply (Some reply) = Replied reply

pub from_reply-to_reply : (o : Outcome) → from_reply (to_reply o) ≡ o
from_reply-to_reply (Replied reply) = refl
from_reply-to_reply Refused = refl

-- the code of lists of what calls came to
abbrev pub coded_outcomes : Coded (List Outcome)
coded_outcomes =
    coded_list (code_by (Option Reply) (coded_option coded_reply) to_reply from_reply from_reply-to_reply)
