-- Versions as they are stored.
use Rattle.std.specs.Coded.{Coded, coded_ℕ, coded_list}
use Rattle.std.specs.FinMap as maps
use Rattle.table.specs.Items.{coded_version}
use Rattle.node.specs.Faces.{Versions}

-- versions are stored as their entries
abbrev pub coded_versions : Coded Versions
coded_versions = maps.code (coded_list coded_ℕ) coded_version
