-- Which links between servers stand still, by whose word (this project's rule).
use Rattle.std.specs.Prelude.{ℕ, nat_eq, Bool, not, ◌&&◌, List, slice_index_or, slice_set, if◌then◌else◌}
use Rattle.node.specs.Views.{View}
use Rattle.master_decisions.specs.declared.stalled_links.StalledLinks.{StalledLinks}
use Rattle.master_decisions.specs.ServerSets.{and_one, is_among, without}

-- what stands at the place of a server
abbrev pub row_of : List ℕ → ℕ → View
row_of rows i = slice_index_or rows i 0

-- the first server says that its link to the second one stands still
abbrev pub says : List ℕ → ℕ → ℕ → Bool
says said i j = is_among (row_of said i) j

-- a server says that its links to these stand still
abbrev pub says_anew : StalledLinks → ℕ → View → ℕ → StalledLinks
says_anew s i servers now = record s {
  said = slice_set s.said i servers;
  changed = (if nat_eq (row_of s.said i) servers then s.changed else now);
}

-- it has answered: if it hasn't said anything since its answer before, none of its links stands still
abbrev pub answering : StalledLinks → ℕ → ℕ → StalledLinks
answering s i now =
    if is_among s.fresh i then record s { fresh = without s.fresh i } else says_anew s i 0 now

-- both differ
abbrev pub differ : Bool → Bool → Bool
differ a b = if a then not b else b

-- both ends of the link from the first server to the second live, and a person was told otherwise of it than the first
-- one says
abbrev pub is_news : StalledLinks → View → ℕ → ℕ → Bool
is_news s living i j =
    (not (nat_eq i j) && (is_among living i && is_among living j)) && differ (says s.said i j) (says s.told i j)

-- a person is told that it stands still, or that it goes on
abbrev pub telling : StalledLinks → ℕ → ℕ → Bool → StalledLinks
telling s i j stands_still = record s {
  told = slice_set s.told i (if stands_still then and_one (row_of s.told i) j else without (row_of s.told i) j);
}
