-- Links to other servers: which have failed, what was put on each, and what is made of them.
use Rattle.std.specs.Prelude.{◌≡◌, ◌≤◌, ℕ, zero, suc, Bool, true, false, not, ◌&&◌, ◌||◌, nat_lt, nat_eq}
use Rattle.std.specs.Prelude.{List, [], ◌∷◌, ◌++◌, length, take, drop, Option, Some, None, is_some, if◌then◌else◌, ⊤}
use Rattle.link_streams.specs.Streams.{Sending, may_resume, resumed_at, confirmed_to, unsent_to, unwritten}
use Rattle.link_streams.specs.Streams.{written}
use Rattle.links.specs.declared.peer_links.PeerLink.{PeerLink}
use Rattle.links.specs.declared.peer_links.PeerLinks.{PeerLinks}

-- whether each link has failed, as a count: the link to a server outside the chain has failed
abbrev pub failures_at : {W : Type 0} → List (PeerLink W) → ℕ → ℕ
failures_at [] j = 1
failures_at (x ∷ xs) zero = if x.has_failed then 1 else 0
failures_at (x ∷ xs) (suc j) = failures_at xs j

-- the same of the links of one server
abbrev pub failures_of : {W : Type 0} → PeerLinks W → ℕ → ℕ
failures_of links = failures_at links.links.items

-- the bytes that a link was given: all that were put, whether they are written or not
abbrev pub given_by : {W : Type 0} → PeerLink W → List ℕ
given_by link = link.stream.put

-- the bytes that the link to each server was given
abbrev pub given_at : {W : Type 0} → List (PeerLink W) → ℕ → List ℕ
given_at [] j = []
given_at (x ∷ xs) zero = given_by x
given_at (x ∷ xs) (suc j) = given_at xs j

-- the bytes that a link keeps, since they aren't confirmed
abbrev pub kept_by : {W : Type 0} → PeerLink W → List ℕ
kept_by link = drop link.stream.confirmed link.stream.put

-- how many bytes the link to each server keeps
abbrev pub kept_at : {W : Type 0} → List (PeerLink W) → ℕ → ℕ
kept_at [] j = 0
kept_at (x ∷ xs) zero = length (kept_by x)
kept_at (x ∷ xs) (suc j) = kept_at xs j

-- how many of these bytes no connection has taken yet
abbrev pub unwritten_at : {W : Type 0} → List (PeerLink W) → ℕ → ℕ
unwritten_at [] j = 0
unwritten_at (x ∷ xs) zero = length (unwritten x.stream)
unwritten_at (x ∷ xs) (suc j) = unwritten_at xs j

-- whether something waits for a connection that stands, until it takes more
abbrev pub waits : {W : Type 0} → PeerLink W → Bool
waits link = is_some link.sink && nat_lt 0 (length (unwritten link.stream))

-- whether one of these links waits so
abbrev pub some_waits : {W : Type 0} → List (PeerLink W) → Bool
some_waits [] = false
some_waits (x ∷ xs) = waits x || some_waits xs

-- a link has a new connection, over which its receiver goes on after so many bytes
abbrev pub connected : {W : Type 0} → W → ℕ → PeerLink W → PeerLink W
connected sink count link = record link { stream = resumed_at link.stream count; sink = Some sink }

-- it has none
abbrev pub disconnected : {W : Type 0} → PeerLink W → PeerLink W
disconnected link = record link { sink = None }

-- its receiver has confirmed so many bytes
abbrev pub confirmed : {W : Type 0} → ℕ → PeerLink W → PeerLink W
confirmed count link = record link { stream = confirmed_to link.stream count }

-- it has failed for good
abbrev pub ended : {W : Type 0} → PeerLink W → PeerLink W
ended link = record { stream = unsent_to link.stream.start; sink = None; has_failed = true }

-- a connection is refused to a link that has failed, and if its receiver may not go on there
abbrev pub may_connect : {W : Type 0} → ℕ → ℕ → PeerLink W → Bool
may_connect start count link =
    not link.has_failed && (nat_eq start link.stream.start && may_resume link.stream count)

-- the links, of which one is changed so; there may be none to this server
abbrev pub changed_at : {W : Type 0} → (PeerLink W → PeerLink W) → List (PeerLink W) → ℕ → List (PeerLink W)
changed_at change [] j = []
changed_at change (x ∷ xs) zero = change x ∷ xs
changed_at change (x ∷ xs) (suc j) = x ∷ changed_at change xs j

-- whether the link to a server meets a test: none does outside the chain
abbrev pub meets_at : {W : Type 0} → (PeerLink W → Bool) → List (PeerLink W) → ℕ → Bool
meets_at test [] j = false
meets_at test (x ∷ xs) zero = test x
meets_at test (x ∷ xs) (suc j) = meets_at test xs j

module _ {W : Type 0} (taken : W → List ℕ) where
  -- A connection took the first n of the bytes of a stream that were unwritten, and nothing else has changed.
  pub record WritesSome (before after : Sending) (sink now : W) : Type 0 where
    pub n : ℕ
    pub most : n ≤ length (unwritten before)
    pub stream : after ≡ written before n
    pub bytes : taken now ≡ taken sink ++ take n (unwritten before)

  -- A connection took these bytes, if it still stands; if there was none, there are no such bytes.
  abbrev pub TakesBytes : List ℕ → Option W → Option W → Type 0
  TakesBytes bytes (Some sink) (Some now) = taken now ≡ taken sink ++ bytes
  TakesBytes bytes (Some sink) None = ⊤
  TakesBytes bytes None (Some now) = ⊥
  TakesBytes bytes None None = bytes ≡ []

  -- The first n of the bytes that were unwritten on a link are written, and nothing else has changed, except that a
  -- connection that failed is gone.
  pub record HasWritten (before after : PeerLink W) : Type 0 where
    pub n : ℕ
    pub most : n ≤ length (unwritten before.stream)
    pub stream : after.stream ≡ written before.stream n
    pub bytes : TakesBytes (take n (unwritten before.stream)) before.sink after.sink
    pub same : after.has_failed ≡ before.has_failed

  -- This holds of each link below place k, and those from there on are as they were.
  abbrev pub HaveWritten : ℕ → List (PeerLink W) → List (PeerLink W) → Type 0
  HaveWritten zero before after = after ≡ before
  HaveWritten (suc k) [] after = ⊥
  HaveWritten (suc k) (x ∷ xs) [] = ⊥
  HaveWritten (suc k) (x ∷ xs) (y ∷ ys) = HasWritten x y × HaveWritten k xs ys
