-- What events do, if they apply and if they don't.
use Rattle.std.proofs.Common.{◌≡◌, ℕ, Bool, true, cond, List, [], ◌∷◌, get_or, Option, None, Some, refl, sym, ◌∙◌, ap}
use Rattle.std.proofs.Common.{subst}
use Rattle.std.specs.Prelude.{slice_get}
use Rattle.table.specs.declared.operations.Call.{Call}
use Rattle.node.specs.declared.messages.Peer.{Peer}
use Rattle.node.specs.declared.messages.Input.{Input}
use Rattle.node.specs.declared.messages.Input.TheVariants.{Call as Called, From}
use Rattle.world.specs.declared.event_effects.EventEffect.{EventEffect}
use Rattle.world.specs.declared.event_effects.EventEffect.TheVariants.{Nothing}
use Rattle.world.specs.Connections.{Connection, to_work}
use Rattle.world.specs.Links.{messages_between}
use Rattle.world.specs.Worlds.{World, server, lives, home_lives, link}
use Rattle.world.specs.EventEffects.{event_effect_at, took, call_event_effect, work_event_effect, deliver_event_effect}
use Rattle.world.proofs.bodies.ConnectionLists.{served_at}

event_effect_of_one : (w : World) (does : Connection → EventEffect) (found : Option Connection) (k : Connection)
    → found ≡ Some k
    → home_lives w found ≡ true
    → event_effect_at w does found ≡ does k
event_effect_of_one w does None k here served = cc
event_effect_of_one w does (Some j) k here served =
    let same : j ≡ k = cc in
    ap (λ (b : Bool). cond b (does j) Nothing) served ∙ ap does same

-- a served connection does its own
pub served_event_effect : (v w : World)
    → v ≡ w
    → (c : ℕ) (does : Connection → EventEffect) (old : Connection)
    → home_lives w (slice_get w.connections c) ≡ true
    → old ≡ get_or v.connections c old
    → does old ≡ event_effect_at w does (slice_get w.connections c)
served_event_effect v w same c does old served at_c =
    sym (event_effect_of_one w does (slice_get w.connections c) old
    (served_at w w.connections c old served
    (subst (λ (x : World). old ≡ get_or x.connections c old) same at_c)) served)

work_of_one : (w : World) (c : ℕ) (found : Option Connection) (k : Connection)
    → found ≡ Some k
    → home_lives w found ≡ true
    → work_event_effect w c found ≡ call_event_effect w c k.home (to_work k.stage k)
work_of_one w c None k here served = cc
work_of_one w c (Some j) k here served =
    let same : j ≡ k = cc in
    ap (λ (b : Bool). cond b (call_event_effect w c j.home (to_work j.stage j)) Nothing) served
    ∙ ap (λ (x : Connection). call_event_effect w c x.home (to_work x.stage x)) same

-- what waits at a served connection is worked
pub served_work : (v w : World)
    → v ≡ w
    → (c : ℕ) (old : Connection)
    → home_lives w (slice_get w.connections c) ≡ true
    → old ≡ get_or v.connections c old
    → work_event_effect w c (slice_get w.connections c) ≡ call_event_effect w c old.home (to_work old.stage old)
served_work v w same c old served at_c =
    work_of_one w c (slice_get w.connections c) old
    (served_at w w.connections c old served
    (subst (λ (x : World). old ≡ get_or x.connections c old) same at_c)) served

taken_by : (v w : World) (ks : List Connection)
    → v ≡ w
    → (i : ℕ) (input : Input)
    → took (record v { connections = ks }) i input ≡ took w i input
unfolding server
taken_by v w ks same i input = ap (λ (x : World). took x i input) same

-- a call that waits at a served connection is taken by its home
pub called_event_effect : (v w : World)
    → v ≡ w
    → (c home : ℕ) (old : Connection) (call : Call) (ks : List Connection)
    → home_lives w (slice_get w.connections c) ≡ true
    → old ≡ get_or v.connections c old
    → home ≡ old.home
    → Some call ≡ to_work old.stage old
    → took (record v { connections = ks }) home (Called c call) ≡ work_event_effect w c (slice_get w.connections c)
called_event_effect v w same c home old call ks served at_c home_is call_is =
    taken_by v w ks same home (Called c call)
    ∙ ap (λ (h : ℕ). took w h (Called c call)) home_is
    ∙ ap (call_event_effect w c old.home) call_is
    ∙ sym (served_work v w same c old served at_c)

delivered_first : (w : World) (i j : ℕ) (ms : List Peer) (m : Peer)
    → lives w j ≡ true
    → Some m ≡ slice_get ms 0
    → took w j (From i m) ≡ deliver_event_effect w i j ms
delivered_first w i j [] m alive here = cc
delivered_first w i j (x ∷ ms) m alive here =
    let same : m ≡ x = cc in
    ap (λ (n : Peer). took w j (From i n)) same ∙ ap (λ (b : Bool). cond b (took w j (From i x)) Nothing) (sym alive)

delivered_none : (w : World) (i j : ℕ) (ms : List Peer) → None ≡ slice_get ms 0
    → Nothing ≡ deliver_event_effect w i j ms
delivered_none w i j [] none = refl
delivered_none w i j (x ∷ ms) none = cc

left_by : (v w : World) (left : List (List (List Peer)))
    → v ≡ w
    → (i : ℕ) (input : Input)
    → took (record v { links = left }) i input ≡ took w i input
unfolding server
left_by v w left same i input = ap (λ (x : World). took x i input) same

-- the first message of a link to a server that lives
pub message_event_effect : (v w : World)
    → v ≡ w
    → (i j : ℕ) (m : Peer) (left : List (List (List Peer)))
    → lives w j ≡ true
    → Some m ≡ slice_get (messages_between v.links i j) 0
    → took (record v { links = left }) j (From i m) ≡ deliver_event_effect w i j (link w i j)
unfolding link
message_event_effect v w same i j m left alive here =
    left_by v w left same j (From i m)
    ∙ delivered_first w i j (messages_between w.links i j) m alive
    (subst (λ (x : World). Some m ≡ slice_get (messages_between x.links i j) 0) same here)

-- a link without messages
pub no_message_event_effect : (v w : World)
    → v ≡ w
    → (i j : ℕ)
    → None ≡ slice_get (messages_between v.links i j) 0
    → Nothing ≡ deliver_event_effect w i j (link w i j)
unfolding link
no_message_event_effect v w same i j none =
    delivered_none w i j (messages_between w.links i j)
    (subst (λ (x : World). None ≡ slice_get (messages_between x.links i j) 0) same none)
