-- A step that is refused: the server is lost, which is its failure, as far as that counts.
use Rattle.std.proofs.Common.{◌≡◌, ℕ, Bool, true, false, not, ◌&&◌, ◌||◌, cond, List, [], ◌∷◌, drop, length, set}
use Rattle.std.proofs.Common.{get_or, Option, None, Some, refl, sym, ap, subst, ◌∙◌}
use Rattle.std.specs.Prelude.{slice_get, slice_set, slice_index_or}
use Rattle.std.proofs.lemmas.Option.{same_Some}
use Rattle.table.specs.declared.operations.Call.{Call}
use Rattle.node.specs.declared.messages.Peer.{Peer}
use Rattle.node.specs.declared.messages.Input.TheVariants.{Call as Called, From, Gone}
use Rattle.node.specs.declared.messages.Output.{Output}
use Rattle.node.specs.Views.{View, has, union, single}
use Rattle.node.specs.Servers.{ServerState, opening}
use Rattle.node.specs.Steps.{step}
use Rattle.world.specs.declared.events.Event.TheVariants.{Work, Deliver, Fail, Tell}
use Rattle.world.specs.Connections.{Connection, to_work, asked}
use Rattle.world.specs.Links.{messages_between, with_messages, is_empty}
use Rattle.world.specs.Worlds.{World, nobody, server, link, with_server, lives, home_lives, has_failed, happens, takes}
use Rattle.world.specs.Worlds.{put_all, sent_in, worked}
use Rattle.world.specs.Refusals.{takes_call, works_at, steps_at}
use Rattle.world.specs.LivingParts.{Takes, Comes, blanked, lost, living_part}
use Rattle.node.proofs.ViewLaws.{has-union, has-single_itself}
use Rattle.world.proofs.bodies.ConnectionLists.{served_at, worked_one, call_worked}
use Rattle.world.proofs.bodies.LinkLists.{message_delivered}
use Rattle.world.proofs.failures.LivingLaws.{Rows, blank_links, blanked-unseen, links-unseen}

or_true : (b : Bool) → (b || true) ≡ true
or_true true = refl
or_true false = refl

failed_there : (f : View) (j : ℕ) → has (union f (single j)) j ≡ true
failed_there f j = has-union f (single j) j ∙ ap (λ b. has f j || b) (has-single_itself j) ∙ or_true (has f j)

fails_as : (w : World) (j : ℕ) → lives w j ≡ true → record w { failed = union w.failed (single j) } ≡ happens w (Fail j)
fails_as w j h = ap (λ b. cond b (record w { failed = union w.failed (single j) }) w) (sym h)

-- the loss of a server is its failure, whatever stands on a link to it
lost_linked : (w : World) (i j : ℕ) (ms : List Peer) → lives w j ≡ true
    → living_part (lost (record w { links = with_messages w.links i j ms }) j) ≡ living_part (happens w (Fail j))
lost_linked w i j ms h =
    let f = union w.failed (single j) in
    let rows = blank_links (has f) (with_messages w.links i j ms) in
    ap (λ (ss : List ServerState). record w { servers = ss; failed = f; links = rows })
    (blanked-unseen nobody (has f) w.servers j (opening j (length w.servers)) (failed_there w.failed j))
    ∙ ap (λ (rs : Rows). record w { servers = blanked nobody (has f) w.servers; failed = f; links = rs })
    (links-unseen (has f) w.links i j ms (failed_there w.failed j))
    ∙ ap living_part (fails_as w j h)

lost_here : (w : World) (j : ℕ) → lives w j ≡ true → living_part (lost w j) ≡ living_part (happens w (Fail j))
lost_here w j h =
    let f = union w.failed (single j) in
    ap (λ (ss : List ServerState). record w { servers = ss; failed = f; links = blank_links (has f) w.links })
    (blanked-unseen nobody (has f) w.servers j (opening j (length w.servers)) (failed_there w.failed j))
    ∙ ap living_part (fails_as w j h)

-- ---- a notice

-- what comes of a notice that a living server takes, refused or not, is what comes of its event
pub told_comes : (w : World) (i j : ℕ) → lives w i ≡ true → has_failed w j ≡ true
    → (r : Option ℕ) (v : World) → Takes w i (Gone j) r v → Comes w (Tell i j) r v
told_comes w i j alive gone None v is =
    is ∙ ap (λ b. cond b (takes w i (Gone j)) w) (sym (both alive gone))
  where
    both : lives w i ≡ true → has_failed w j ≡ true → (lives w i && has_failed w j) ≡ true
    both a g = ap (λ b. b && has_failed w j) a ∙ g
told_comes w i j alive gone (Some s) v is = (
  ap (λ b. cond b (Some i) None) (ap (λ b. b && has_failed w j) alive ∙ gone) ∙ ap Some (sym is.0),
  ap living_part is.1 ∙ lost_here w i alive ∙ ap (λ k. living_part (happens w (Fail k))) (sym is.0),
)

-- ---- a message

not_empty : (ms : List Peer) (m : Peer) → Some m ≡ slice_get ms 0 → is_empty ms ≡ false
not_empty [] m here = absurd cc
not_empty (x ∷ ms) m here = refl

link_there : (w : World) (i j : ℕ) → link w i j ≡ messages_between w.links i j
unfolding link
link_there w i j = refl

delivers_there : (w : World) (i j : ℕ) (m : Peer) → lives w j ≡ true
    → Some m ≡ slice_get (messages_between w.links i j) 0 → steps_at w (Deliver i j) ≡ Some j
delivers_there w i j m alive here =
    ap (λ b. cond (b && not (is_empty (link w i j))) (Some j) None) alive
    ∙ ap (λ ms. cond (not (is_empty ms)) (Some j) None) (link_there w i j)
    ∙ ap (λ b. cond (not b) (Some j) None) (not_empty (messages_between w.links i j) m here)

lost_delivered : (w : World) (i j : ℕ) (m : Peer) (left : Rows) → lives w j ≡ true
    → Some m ≡ slice_get (messages_between w.links i j) 0
    → left ≡ with_messages w.links i j (drop 1 (messages_between w.links i j))
    → (s : ℕ) (x : World) → s ≡ j → x ≡ lost (record w { links = left }) j → Comes w (Deliver i j) (Some s) x
lost_delivered w i j m left alive here is s x same gone = (
  delivers_there w i j m alive here ∙ ap Some (sym same),
  ap living_part gone
      ∙ ap (λ (rows : Rows). living_part (lost (record w { links = rows }) j)) is
      ∙ lost_linked w i j (drop 1 (messages_between w.links i j)) alive
      ∙ ap (λ k. living_part (happens w (Fail k))) (sym same),
)

-- what comes of a message that a living server takes, refused or not, is what comes of its event
pub delivered_comes : (v w : World) → v ≡ w → (i j : ℕ) (m : Peer) (left : Rows) → lives w j ≡ true
    → Some m ≡ slice_get (messages_between v.links i j) 0
    → left ≡ with_messages v.links i j (drop 1 (messages_between v.links i j))
    → (r : Option ℕ) (x : World) → Takes (record v { links = left }) j (From i m) r x → Comes w (Deliver i j) r x
delivered_comes v w same i j m left alive here is None x taken = taken
    ∙ message_delivered v w same i j m left alive here is
delivered_comes v w same i j m left alive here is (Some s) x taken =
    subst (λ (u : World). lives u j ≡ true → Comes u (Deliver i j) (Some s) x) same
    (λ alive. lost_delivered v i j m left alive here is s x taken.0 taken.1) alive

-- ---- a call

as_one : (v : World) (c home : ℕ) (new : Connection) (call : Call) (ss : List ServerState) (outputs : List Output)
    → ss ≡ slice_set v.servers home (step (slice_index_or v.servers home nobody) (Called c call)).state
    → outputs ≡ (step (slice_index_or v.servers home nobody) (Called c call)).outputs
    → put_all (record v { servers = ss; connections = set v.connections c new }) home outputs ≡ takes
    (record v { connections = set v.connections c new }) home (Called c call)
unfolding server with_server
as_one v c home new call ss outputs state put =
    ap (λ (ss : List ServerState). put_all
    (record v { servers = ss; connections = set v.connections c new }) home outputs) state
    ∙ ap (λ os. put_all (record v {
      servers = slice_set v.servers home
          (step (slice_index_or v.servers home nobody) (Called c call)).state;
      connections = set v.connections c new;
    })
    home os) put

-- a call that waits at a served connection, its server's step, and what that puts out
pub worked_comes : (v w : World) → v ≡ w
    → (c home : ℕ) (old new : Connection) (call : Call) (ss : List ServerState) (outputs : List Output)
    → home_lives w (slice_get w.connections c) ≡ true → old ≡ get_or v.connections c old → home ≡ old.home
    → Some call ≡ to_work old.stage old → new ≡ asked old
    → ss ≡ slice_set v.servers home (step (slice_index_or v.servers home nobody) (Called c call)).state
    → outputs ≡ (step (slice_index_or v.servers home nobody) (Called c call)).outputs
    → put_all (record v { servers = ss; connections = set v.connections c new }) home outputs ≡ worked w c
    (slice_get w.connections c)
worked_comes v w same c home old new call ss outputs served at_c home_is call_is is state put =
    as_one v c home new call ss outputs state put
    ∙ call_worked v w same c home old new call served at_c home_is call_is is

-- what is read twice is the same
pub read_twice : (v w : World) → v ≡ w → (c : ℕ) (x y : Connection) → home_lives w (slice_get w.connections c) ≡ true
    → x ≡ get_or v.connections c x → y ≡ get_or v.connections c y → x ≡ y
read_twice v w same c x y served at_x at_y =
    let there = λ (k : Connection) (at : k ≡ get_or v.connections c k). served_at w w.connections c k served
    (at ∙ ap (λ (u : World). get_or u.connections c k) same) in
    same_Some x y (sym (there x at_x) ∙ there y at_y)

works_there : (w : World) (o : Option Connection) (k : Connection) (call : Call) → o ≡ Some k → home_lives w o ≡ true
    → Some call ≡ to_work k.stage k → works_at w o ≡ Some k.home
works_there w None k call here served is = absurd cc
works_there w (Some j) k call here served is =
    let same : j ≡ k = cc in
    ap (λ b. cond b (takes_call j.home (to_work j.stage j)) None) served
    ∙ ap (λ (x : Connection). takes_call x.home (to_work x.stage x)) same
    ∙ ap (takes_call k.home) (sym is)

home_alive : (w : World) (o : Option Connection) (k : Connection) → o ≡ Some k → home_lives w o ≡ true
    → lives w k.home ≡ true
home_alive w None k here served = absurd cc
home_alive w (Some j) k here served = let same : j ≡ k = cc in ap (λ (x : Connection). lives w x.home) (sym same)
    ∙ served

one_lost : (w : World) (c home : ℕ) (old : Connection) (call : Call) (ss : List ServerState)
    → home_lives w (slice_get w.connections c) ≡ true → old ≡ get_or w.connections c old → home ≡ old.home
    → Some call ≡ to_work old.stage old
    → ss ≡ slice_set w.servers home (opening home (length w.servers))
    → Comes w (Work c) (Some home) (record w { servers = ss; failed = union w.failed (single home) })
one_lost w c home old call ss served at_c home_is call_is state =
    let here = served_at w w.connections c old served at_c in (
      works_there w (slice_get w.connections c) old call here served call_is ∙ ap Some (sym home_is),
      ap (λ (ss : List ServerState). living_part (record w { servers = ss; failed = union w.failed (single home) }))
          state
          ∙ lost_here w home (ap (lives w) home_is ∙ home_alive w (slice_get w.connections c) old here served),
    )

-- the same, if the step is refused
pub worked_lost : (v w : World) → v ≡ w → (c home : ℕ) (old : Connection) (call : Call) (ss : List ServerState)
    → home_lives w (slice_get w.connections c) ≡ true → old ≡ get_or v.connections c old → home ≡ old.home
    → Some call ≡ to_work old.stage old
    → ss ≡ slice_set v.servers home (opening home (length v.servers))
    → Comes w (Work c) (Some home) (record v { servers = ss; failed = union v.failed (single home) })
worked_lost v w same c home old call ss served at_c home_is call_is state =
    subst (λ (u : World). home_lives u (slice_get u.connections c) ≡ true → Comes u (Work c) (Some home)
    (record v { servers = ss; failed = union v.failed (single home) })) same
    (λ served. one_lost v c home old call ss served at_c home_is call_is state) served

-- if none waits, none is worked
pub unworked : (v w : World) → v ≡ w → (c : ℕ) (old : Connection) → home_lives w (slice_get w.connections c) ≡ true
    → old ≡ get_or v.connections c old → None ≡ to_work old.stage old
    → w ≡ worked w c (slice_get w.connections c)
unworked v w same c old served at_c none =
    let at = at_c ∙ ap (λ (u : World). get_or u.connections c old) same in
    ap (sent_in w c old.home) none
    ∙ sym (worked_one w c (slice_get w.connections c) old (served_at w w.connections c old served at) served)
