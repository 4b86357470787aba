-- What holds with regard to an earlier moment holds at every later one of a schedule.
use Rattle.std.proofs.Common.{ℕ, ◌<◌, Some, None, refl, subst}
use Rattle.std.specs.Prelude.{IsSome}
use Rattle.node.specs.declared.messages.Input.TheVariants.{Call as Called, From, Gone}
use Rattle.node.specs.declared.servers.OpenRead.{OpenRead}
use Rattle.world.specs.Worlds.{server}
use Rattle.world.specs.Calls.{begun_call}
use Rattle.node.proofs.Lists.{In}
use Rattle.node.specs.Actions.{Cause}
use Rattle.world.proofs.trace.Traces.{Traced, count, open_id, unlinked}
use Rattle.world.proofs.trace.Layers.{Later, Lawful}
use Rattle.world.proofs.trace.LaterLaws.{later_same, later_on}
use Rattle.world.proofs.trace.Moves.{Move, Does, Comes, Starts, Works, Hands, Takes, Fails, moved, IsMove, Memory}
use Rattle.world.proofs.trace.Moves.{recalled, IsOf, Recalls}
use Rattle.world.proofs.moments.Goings.{Laws, Goes, kept_on}
use Rattle.world.proofs.calls.OpenIds.{with_begun}
use Rattle.world.proofs.order.Since.{SaysSince, Since, IsKnownSince, says_later, since_itself}
use Rattle.world.proofs.order.SinceEvents.{IsMoveSince, since_moved}

-- what is recalled of the message that was taken off last
abbrev pub RecallsSince : Traced → Memory → Traced → Type 0
RecallsSince z None t = Unit {0}
RecallsSince z (Some m) t = SaysSince z t m.from m.to m.message.body

recalls_later : (z t u : Traced) (before : Memory) → Later t u → RecallsSince z before t → RecallsSince z before u
recalls_later z t u None l h = tt
recalls_later z t u (Some m) l h = says_later z t u m.from m.to m.message.body l.asks h

known_of : (z t : Traced) (before : Memory) (i : ℕ) (cause : Cause)
    → IsOf before i cause
    → RecallsSince z before t
    → IsKnownSince z t i cause
known_of z t before i None of h = tt
known_of z t before i (Some (Called port call)) of h = tt
known_of z t before i (Some (From j m)) of h = subst (λ b. RecallsSince z b t) of h
known_of z t before i (Some (Gone j)) of h = tt

move_of : (z t : Traced) (before : Memory) (m : Move) → Recalls before m → RecallsSince z before t → IsMoveSince z t m
move_of z t before (Does i cause a) of h = known_of z t before i cause of h
move_of z t before (Comes c bytes) of h = tt
move_of z t before (Starts c) of h = tt
move_of z t before (Works c) of h = tt
move_of z t before (Hands c) of h = tt
move_of z t before (Takes i j ms) of h = tt
move_of z t before (Fails i) of h = tt

recalled_since : (z t : Traced) (before : Memory) (m : Move) (g : IsMove t m)
    → Later t (moved t m)
    → Since z t
    → RecallsSince z before t
    → RecallsSince z (recalled t m g before) (moved t m)
recalled_since z t before (Does i cause a) g l s h = recalls_later z t _ before l h
recalled_since z t before (Comes c bytes) g l s h = recalls_later z t _ before l h
recalled_since z t before (Starts c) g l s h = recalls_later z t _ before l h
recalled_since z t before (Works c) g l s h = recalls_later z t _ before l h
recalled_since z t before (Hands c) g l s h = recalls_later z t _ before l h
recalled_since z t before (Takes i j ms) g l s h =
    says_later z t (unlinked t i j ms) i j g.message.body l.asks (s.says i j g.message (rw g.here (0, refl)))
recalled_since z t before (Fails i) g l s h = recalls_later z t _ before l h

-- what is kept from z on
record Held (z : Traced) (before : Memory) (t : Traced) : Type 0 where
  later : Later z t
  since : Since z t
  recalls : RecallsSince z before t

held_moved : (z : Traced) (before : Memory) (t : Traced) (m : Move) (g : IsMove t m)
    → Recalls before m
    → Lawful t
    → Later t (moved t m)
    → Lawful (moved t m)
    → Held z before t
    → Held z (recalled t m g before) (moved t m)
held_moved z before t m g r l next lawful h = record {
  later = later_on z t (moved t m) h.later next;
  since = since_moved z t m g l h.later next (move_of z t before m r h.recalls) h.since;
  recalls = recalled_since z t before m g next h.since h.recalls;
}

-- what holds with regard to a moment holds of each world that comes by moves later on
pub since_on : Laws → (z t u : Traced) → Goes t u → Lawful t → Later z t → Since z t → Since z u
since_on laws z t u goes l later s =
    (kept_on laws (Held z) (held_moved z) None t u (goes None) l
    (record { later = later; since = s; recalls = tt })).since

-- an open read's call is begun
open_begun : (t : Traced)
    → Lawful t
    → (i : ℕ) (r : OpenRead)
    → i < count t
    → In r (server t.world i).asks
    → IsSome (begun_call t.world (open_id t.world r.port))
open_begun t l i r low h = let w = l.calling.asks i r low h in rw (with_begun t i r.port w.0 w.1) refl

-- from any moment on, if the outset was one
pub since_moment : Laws → (z t : Traced) → Goes z t → Lawful z → Lawful t → Since z z → Since t t
since_moment laws z t goes l lawful s =
    since_itself z t lawful (since_on laws z z t goes l (later_same z) s) (open_begun t lawful)
