-- All actions of a step, one after another, make of the world what the step makes of it.
use Rattle.std.proofs.Common.{◌≡◌, ℕ, ◌<◌, List, [], ◌∷◌, ◌++◌, refl, ap, sym, ◌∙◌, arith}
use Rattle.std.proofs.lemmas.List.{set-set, set-get_or}
use Rattle.node.specs.declared.messages.Output.{Output}
use Rattle.node.specs.declared.messages.Output.TheVariants.{To, Reply as Answered}
use Rattle.node.specs.Servers.{ServerState}
use Rattle.world.specs.Worlds.{World, nobody, server, link, with_server, with_link, with_connection, put, put_all}
use Rattle.world.specs.Worlds.{acted}
use Rattle.node.specs.Actions.{Action, act, does}
use Rattle.world.proofs.trace.Traces.{Traced, count, done, all_done}
use Rattle.world.proofs.trace.TraceLaws.{count_done, server_done}

-- a server that is put where it stands changes nothing
pub set_same : (w : World) (i : ℕ) → with_server w i (server w i) ≡ w
unfolding with_server server
set_same w i = ap (λ ss. record w { servers = ss }) (set-get_or w.servers i nobody)

-- of two servers that are put at one place the second one stays
pub set_twice : (w : World) (i : ℕ) (s t : ServerState) → with_server (with_server w i s) i t ≡ with_server w i t
unfolding with_server
set_twice w i s t = ap (λ ss. record w { servers = ss }) (set-set w.servers i s t)

-- a server may be put in its place before outputs go their ways, or after
pub set_before : (w : World) (i k : ℕ) (s : ServerState) (os : List Output)
    → with_server (put_all w i os) k s ≡ put_all (with_server w k s) i os
unfolding put_all with_server with_link with_connection link
set_before w i k s [] = refl
set_before w i k s (To j peer ∷ os) = set_before (put w i (To j peer)) i k s os
set_before w i k s (Answered c reply ∷ os) = set_before (put w i (Answered c reply)) i k s os

-- outputs of two lists go their ways one list after the other
pub put-append : (w : World) (i : ℕ) (os ps : List Output) → put_all w i (os ++ ps) ≡ put_all (put_all w i os) i ps
unfolding put_all
put-append w i [] ps = refl
put-append w i (o ∷ os) ps = put-append (put w i o) i os ps

-- what one rule made of the server, and then what another did
acted_twice : (w : World) (i : ℕ) (s t : ServerState) (os ps : List Output)
    → put_all (with_server (put_all (with_server w i s) i os) i t) i ps ≡ put_all (with_server w i t) i (os ++ ps)
acted_twice w i s t os ps =
    ap (λ u. put_all u i ps) (set_before (with_server w i s) i i t os ∙ ap (λ u. put_all u i os) (set_twice w i s t))
    ∙ sym (put-append (with_server w i t) i os ps)

-- actions, one by one, make of the world what all together make of it
pub world_of_all : (t : Traced) (i : ℕ) (actions : List Action)
    → i < count t
    → (all_done t i actions).world ≡ acted t.world i (does (server t.world i) actions)
unfolding all_done done does put_all
world_of_all t i [] l = sym (set_same t.world i)
world_of_all t i (a ∷ later) l =
    let s = (act (server t.world i) a).state in
    let rest = world_of_all (done t i a) i later (omega (arith, count_done t i a, l)) in
    rest ∙ ap (λ u. acted (done t i a).world i (does u later)) (server_done t i a l)
    ∙ acted_twice t.world i s (does s later).state (act (server t.world i) a).outputs (does s later).outputs
