-- What holds of a world with regard to an earlier moment: entries and answers of calls that came later have numbers
-- above it.
use Rattle.std.proofs.Common.{◌≡◌, ℕ, ◌<◌, ◌≤◌, length, Option, Some, None, refl, arith, ◌⊎◌, inl, inr}
use Rattle.std.specs.Prelude.{slice_get, IsSome}
use Rattle.versions.specs.Entries.{LogEntry}
use Rattle.node.specs.declared.servers.OpenRead.{OpenRead}
use Rattle.node.specs.declared.messages.Body.{Body}
use Rattle.node.specs.declared.messages.Body.TheVariants.{Op, Forward, Ack, Query, Answer}
use Rattle.node.specs.declared.messages.Peer.{Peer}
use Rattle.node.specs.declared.messages.Input.TheVariants.{Call as Called, From, Gone}
use Rattle.world.specs.Worlds.{server, link}
use Rattle.world.specs.Calls.{CallId, begun_call}
use Rattle.node.proofs.Lists.{In}
use Rattle.node.specs.Actions.{Cause}
use Rattle.world.proofs.trace.Traces.{Traced, AnsweredRead, log, count, open_id}
use Rattle.world.proofs.trace.Layers.{IsNamed, Newer, Lawful}
use Rattle.world.proofs.order.Linear.{nothing_there}

-- what a message on the link from i to j says of reads: its ask is one that was made, and an answer to a later read has
-- no lower number
abbrev pub SaysSince : Traced → Traced → ℕ → ℕ → Body → Type 0
SaysSince t u i j (Op id call) = Unit {0}
SaysSince t u i j (Forward e) = Unit {0}
SaysSince t u i j (Ack n) = Unit {0}
SaysSince t u i j (Query ask key) = ask < (server u.world i).next_ask
SaysSince t u i j (Answer ask n) =
    (ask < (server u.world j).next_ask) × ((ask < (server t.world j).next_ask) ⊎ (length t.committed ≤ n))

-- the read was begun at t, or asks under a number that wasn't given then
abbrev pub IsOldOrLater : Traced → Traced → ℕ → OpenRead → Type 0
IsOldOrLater t u i r = IsSome (begun_call t.world (open_id u.world r.port)) ⊎ ((server t.world i).next_ask ≤ r.ask)

-- u is later than t: the entries of calls that weren't begun at t stand after those committed at t, and so with reads
pub record Since (t u : Traced) : Type 0 where
  pub entries : (i k : ℕ) (e : LogEntry)
      → i < count u
      → slice_get (log u i) k ≡ Some e
      → ((x : CallId) × IsNamed t e x) ⊎ (length t.committed ≤ k)
  pub answers : (k : ℕ) (r : AnsweredRead)
      → slice_get u.reads k ≡ Some r
      → IsSome (begun_call t.world r.id) ⊎ (length t.committed ≤ r.number)
  pub asks : (i : ℕ) (r : OpenRead) → i < count u → In r (server u.world i).asks → IsOldOrLater t u i r
  pub says : (i j : ℕ) (m : Peer) → In m (link u.world i j) → SaysSince t u i j m.body

-- what is known of a step's input
abbrev pub IsKnownSince : Traced → Traced → ℕ → Cause → Type 0
IsKnownSince t u i None = Unit {0}
IsKnownSince t u i (Some (Called port call)) = Unit {0}
IsKnownSince t u i (Some (From j m)) = SaysSince t u j i m.body
IsKnownSince t u i (Some (Gone j)) = Unit {0}

-- what holds with regard to an earlier moment gives what is said of entries and answers
pub newer : (t u : Traced) → Lawful u → Since t u → Newer t u
newer t u l s = record {
  entries = λ k e h. elim l.logged.source [
    | inl none ↦ absurd (nothing_there u.committed none k e h)
    | inr one ↦ s.entries one.0 k e one.1 (rw (one.2) at h)
  ];
  answers = s.answers;
}

-- what is said of a message with regard to an earlier moment is so later, as no next ask falls
pub says_later : (t u v : Traced) (i j : ℕ) (b : Body)
    → ((k : ℕ) → (server u.world k).next_ask ≤ (server v.world k).next_ask)
    → SaysSince t u i j b
    → SaysSince t v i j b
says_later t u v i j (Op id call) f h = tt
says_later t u v i j (Forward e) f h = tt
says_later t u v i j (Ack n) f h = tt
says_later t u v i j (Query ask key) f h = let g = f i in omega (arith, h, g)
says_later t u v i j (Answer ask n) f h = (let g = f j in omega (arith, h.0, g), h.1)

-- an option that holds something isn't empty
pub is_some : {X : Type 0} (o : Option X) (x : X) → o ≡ Some x → IsSome o
is_some None x e = absurd cc
is_some (Some y) x e = refl

-- a moment is later than itself
pub since_itself : (z t : Traced)
    → Lawful t
    → Since z t
    → ((i : ℕ) (r : OpenRead) → i < count t → In r (server t.world i).asks
    → IsSome (begun_call t.world (open_id t.world r.port)))
    → Since t t
since_itself z t l s open_begun = record {
  entries = λ i k e lt h. (let d = l.calling.decided i k e h in inl (d.issued.name, (d.issued.low, d.issued.issued)));
  answers = λ k r h. (let f = l.read.reads k r h in inl (is_some _ f.call f.begun));
  asks = λ i r lt h. inl (open_begun i r lt h);
  says = λ i j m h. itself i j m.body (s.says i j m h);
}
  where
    itself : (i j : ℕ) (b : Body) → SaysSince z t i j b → SaysSince t t i j b
    itself i j (Op id call) h = tt
    itself i j (Forward e) h = tt
    itself i j (Ack n) h = tt
    itself i j (Query ask key) h = h
    itself i j (Answer ask n) h = (h.0, inl h.0)
