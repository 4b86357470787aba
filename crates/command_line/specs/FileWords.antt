-- The words of the commands that take a FILE, by clap's own account of what a parser finds in words.
use Rattle.std.specs.Prelude.{◌≡◌, ℕ, List, codes, Option, Some}
use Rattle.clap.specs.Words.{App, Row, Text, first_of, new_app, with_rule}
use Rattle.command_line.specs.Options.{file_rule}

-- a command of this name with a FILE
abbrev pub file_app : List ℕ → App
file_app name = with_rule (new_app name) file_rule

-- the command that was found has this name and this FILE
pub record NamesFile (name : List ℕ) (found : Option (Text × List Row)) (file : List ℕ) : Type 0 where
  pub rows : List Row
  pub named : found ≡ Some (name, rows)
  pub given : first_of (codes "FILE") rows ≡ Some file
