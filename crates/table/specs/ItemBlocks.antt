-- Serves the fields of the code; no public contract needs it. What the block of an item or of a version holds.
use Rattle.std.specs.Prelude.{ℕ, [], Bool, true, false, Option, Some, None}
use Rattle.table.specs.Items.{Item, Version}
use Rattle.table.specs.declared.items.Block.{Block}
use Rattle.table.specs.declared.items.Content.{Content}
use Rattle.table.specs.declared.items.Content.TheVariants as contents

-- the item of this number whose parts these are, or none
abbrev pub item_in : ℕ → Content → Option Item
item_in number (contents.Item flags bytes) = Some (record { flags = flags; bytes = bytes; unique = number })
item_in number contents.Nothing = None

-- the same as an item, of no flags and no data if there is none
abbrev pub item_or_empty : ℕ → Content → Item
item_or_empty number (contents.Item flags bytes) = record { flags = flags; bytes = bytes; unique = number }
item_or_empty number contents.Nothing = record { flags = 0; bytes = []; unique = number }

-- the content is an item
abbrev pub is_item : Content → Bool
is_item (contents.Item flags bytes) = true
is_item contents.Nothing = false

-- the item of a block
abbrev pub item_of : Block → Item
item_of b = item_or_empty b.number b.content

-- a block has an item
abbrev pub has_item : Block → Bool
has_item b = is_item b.content

-- the version of a block
abbrev pub version_of : Block → Version
version_of b = record { number = b.number; item = item_in b.number b.content }
