-- How lately a master that watches has heard a server (this project's rule).
use Rattle.std.specs.Prelude.{ℕ, ◌-◌, ◌*◌, nat_le, Bool, false, List, slice_index_or, slice_set, Option, None, Some}
use Rattle.master_decisions.specs.declared.news.News.{News}
use Rattle.master_decisions.specs.declared.news.News.TheVariants as news
use Rattle.master_decisions.specs.declared.presence.TheConstants.{BEATS}

-- when a server was heard for the last time, if a connection to it stands
abbrev pub heard_at : List (Option ℕ) → ℕ → Option ℕ
heard_at heard i = slice_index_or heard i None

-- the same of all servers, once this is new at that time: one that tells something is heard then, and one whose
-- connection has ended, or that isn't reached, has none that stands
abbrev pub attended : List (Option ℕ) → ℕ → News → List (Option ℕ)
attended heard time (news.Typed j) = heard
attended heard time news.BadLine = heard
attended heard time (news.Met i start gone) = slice_set heard i (Some time)
attended heard time (news.Broken i) = slice_set heard i None
attended heard time (news.Lost i) = slice_set heard i None
attended heard time (news.Ended i) = slice_set heard i None
attended heard time (news.Told i reading) = slice_set heard i (Some time)
attended heard time (news.Stalled i servers) = heard
attended heard time (news.Answered i answered) = heard
attended heard time (news.Fault fault) = heard

-- it was heard within the last beats, on a connection that stands
abbrev pub answers : Option ℕ → ℕ → ℕ → Bool
answers None now beat = false
answers (Some heard) now beat = nat_le (now - heard) (beat * BEATS)

-- the same of this server
abbrev pub answers_at : List (Option ℕ) → ℕ → ℕ → ℕ → Bool
answers_at heard now beat i = answers (heard_at heard i) now beat
