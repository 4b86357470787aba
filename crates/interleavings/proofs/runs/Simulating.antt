-- Each move has its events: in the world of a schedule that stands for the chain they make what stands for it then.
use Rattle.std.proofs.Common.{◌≡◌, ℕ, ◌<◌, ◌≤◌, true, false, cond, List, [], ◌∷◌, length, Option, None, Some, refl}
use Rattle.std.proofs.Common.{arith, ap, sym, ◌∙◌, subst, inl, inr}
use Rattle.std.specs.Prelude.{slice_get, not}
use Rattle.std.proofs.lemmas.Bool.{cases_Bool}
use Rattle.std.proofs.lemmas.List.{take_all}
use Rattle.table.specs.declared.operations.Call.{Call}
use Rattle.node.specs.declared.messages.Peer.{Peer}
use Rattle.node.specs.declared.messages.Input.{Input}
use Rattle.node.specs.declared.messages.Input.TheVariants.{Call as Called, From, Gone}
use Rattle.node.specs.Lawful.{IsLawful}
use Rattle.node.specs.Steps.{step}
use Rattle.node.specs.Views.{has}
use Rattle.world.specs.declared.events.Event.{Event}
use Rattle.world.specs.declared.events.Event.TheVariants.{Work, Deliver, Tell}
use Rattle.world.specs.Awaited.{AreAwaited}
use Rattle.world.specs.Connections.{Connection, asked, to_work}
use Rattle.world.specs.Worlds.{World, server, link, lives, has_failed, with_connection, run_of, opening_world}
use Rattle.world.proofs.moments.Moments.{run-append}
use Rattle.world.proofs.order.OneOrder.{all}
use Rattle.world.proofs.shown.Awaiting.{works_awaited, delivers_awaited, tells_awaited}
use Rattle.world.proofs.streams.ForwardRuns.{HasLink}
use Rattle.world.proofs.streams.Stepped.{has_link}
use Rattle.world.proofs.trace.IdLaws.{living_parts}
use Rattle.world.proofs.trace.Traces.{Traced}
use Rattle.interleavings.specs.Asked.{IsAskedBy}
use Rattle.interleavings.specs.Chains.{Chain}
use Rattle.interleavings.specs.Moves.{Move, Sends, Takes, Publishes, Puts, Arrives, Replies, Receives, Looks, Stops}
use Rattle.interleavings.specs.Moves.{Notices, published, publishing, read_of, done}
use Rattle.interleavings.proofs.asking.Spelling.{is_spelled}
use Rattle.interleavings.proofs.passing.Alike.{IsAlike, alike_itself, alike_stands}
use Rattle.interleavings.proofs.relation.StandsFor.{Reaches, StandsFor, lives_on}
use Rattle.interleavings.proofs.relation.Following.{Simulates}
use Rattle.interleavings.proofs.passing.Arriving.{arrives_stands}
use Rattle.interleavings.proofs.seats.Looking.{looks_reach}
use Rattle.interleavings.proofs.steps.NoticeSteps.{named_failed, publishes_notice}
use Rattle.interleavings.proofs.passing.Noticing.{notices_stands}
use Rattle.interleavings.proofs.steps.CallSteps.{publishes_call}
use Rattle.interleavings.proofs.steps.MessageSteps.{publishes_message, way_first}
use Rattle.interleavings.proofs.passing.Putting.{puts_stands}
use Rattle.interleavings.proofs.passing.Receiving.{receives_stands}
use Rattle.interleavings.proofs.seats.Replying.{replies_reach}
use Rattle.interleavings.proofs.seats.Sending.{sends_reach}
use Rattle.interleavings.proofs.steps.Stopping.{stops_reach}
use Rattle.interleavings.proofs.passing.Taking.{takes_stands}

-- what `world` has proved of each schedule's world
pub record Known (w : World) : Type 0 where
  pub lawful : (i : ℕ) → i < length w.servers → IsLawful (server w i)
  pub named : (i k : ℕ) → i < length w.servers → has (server w i).view k ≡ true → has w.failed k ≡ true
  pub joined : (i j : ℕ) → lives w i ≡ true → lives w j ≡ true → HasLink w i j
  pub carried : (i j : ℕ) (m : Peer) (ms : List Peer) → link w i j ≡ m ∷ ms → HasLink w i j
  pub works : (c : ℕ) (k : Connection) (call : Call) → slice_get w.connections c ≡ Some k → lives w k.home ≡ true
      → to_work k.stage k ≡ Some call
      → AreAwaited (with_connection w c asked).connections k.home
      (step (server (with_connection w c asked) k.home) (Called c call)).outputs
  pub delivers : (i j : ℕ) (m : Peer) (ms : List Peer) → link w i j ≡ m ∷ ms → lives w j ≡ true
      → AreAwaited w.connections j (step (server w j) (From i m)).outputs
  pub tells : (i j : ℕ) → lives w i ≡ true → has_failed w j ≡ true
      → AreAwaited w.connections i (step (server w i) (Gone j)).outputs

module _ (n : ℕ) (homes : List ℕ) (events : List Event) (few : n ≤ 16) where
  abbrev last : Traced
  last = (all n homes events few).at (length events)

  world : last.world ≡ run_of n homes events
  world = (all n homes events few).world (length events)
      ∙ ap (run_of n homes) (take_all (length events) events (omega arith))

  abbrev Linked : World → Type 0
  Linked w = (i j : ℕ) → lives w i ≡ true → lives w j ≡ true → HasLink w i j

  abbrev Carried : World → Type 0
  Carried w = (i j : ℕ) (m : Peer) (ms : List Peer) → link w i j ≡ m ∷ ms → HasLink w i j

  abbrev Lawfuls : World → Type 0
  Lawfuls w = (i : ℕ) → i < length w.servers → IsLawful (server w i)

  abbrev Named : World → Type 0
  Named w = (i k : ℕ) → i < length w.servers → has (server w i).view k ≡ true → has w.failed k ≡ true

  -- all of it holds of each schedule's world
  pub known : Known (run_of n homes events)
  known =
      let framed = ((all n homes events few).lawful (length events)).framed in
      record {
        lawful = subst Lawfuls world ((all n homes events few).all (length events));
        named = subst Named world framed.known;
        joined = subst Linked world (λ i j a b.
            has_link last framed i j (living_parts last.world i a).0 (living_parts last.world j b).0);
        carried = subst Carried world (λ i j m ms e.
            (let s = framed.sound i j m (rw e (0, refl)) in has_link last framed i j s.sender s.receiver));
        works = works_awaited n homes events few;
        delivers = delivers_awaited n homes events few;
        tells = tells_awaited n homes events few;
      }

-- ---- a publish

publishing_reaches : (l : Chain) (w : World) (i : ℕ) (input : Input)
    → Known w
    → StandsFor l w
    → (l.servers i).stopped ≡ false
    → (l.servers i).unpublished ≡ Some input
    → Reaches w (done l (Publishes i))
publishing_reaches l w i (Called c call) f h going unpublished = (
  Work c ∷ [],
  omega arith,
  publishes_call l w i (Called c call) h going unpublished c call refl
      (λ y e. f.joined i y (lives_on l w i h going) e)
      (λ k here home work. subst (λ x. AreAwaited (with_connection w c asked).connections x
      (step (server (with_connection w c asked) x) (Called c call)).outputs) home
      (f.works c k call here (subst (λ x. lives w x ≡ true) (sym home) (lives_on l w i h going)) work)),
)
publishing_reaches l w i (From j m) f h going unpublished =
    let first = h.links j i going ∙ way_first l w i (From j m) h going unpublished j m refl in
    let alive = lives_on l w i h going in (
      Deliver j i ∷ [],
      omega arith,
      publishes_message l w i (From j m) h going unpublished j m refl (f.carried j i m _ first)
          (λ y e. f.joined i y alive e) (f.delivers j i m _ first alive),
    )
publishing_reaches l w i (Gone j) f h going unpublished =
    let alive = lives_on l w i h going in (
      Tell i j ∷ [],
      omega arith,
      publishes_notice l w i (Gone j) h going unpublished j refl (λ y e. f.joined i y alive e)
          (f.tells i j alive (named_failed l w i (Gone j) h going unpublished j refl)),
    )

still : (l : Chain) (w : World) (i : ℕ)
    → StandsFor l w
    → publishing (l.servers i) ≡ l.servers i
    → Reaches w (done l (Publishes i))
still l w i h same = (
  [],
  omega arith,
  alike_stands l w i (publishing (l.servers i)) h
      (subst (λ s. IsAlike (l.servers i) s) (sym same) (alike_itself (l.servers i))),
)

publishes_by : (l : Chain) (w : World) (i : ℕ)
    → Known w
    → StandsFor l w
    → (l.servers i).stopped ≡ false
    → (o : Option Input)
    → (l.servers i).unpublished ≡ o
    → Reaches w (done l (Publishes i))
publishes_by l w i f h going None e = still l w i h
    (ap (λ b. cond b (l.servers i) (published (l.servers i) (l.servers i).unpublished)) going
    ∙ ap (published (l.servers i)) e)
publishes_by l w i f h going (Some input) e = publishing_reaches l w i input f h going e

publishes_reach : (l : Chain) (w : World) (i : ℕ) → Known w → StandsFor l w → Reaches w (done l (Publishes i))
publishes_reach l w i f h = elim (cases_Bool (l.servers i).stopped) [
  | inl over ↦ still l w i h (ap (λ b. cond b (l.servers i) (published (l.servers i) (l.servers i).unpublished)) over)
  | inr going ↦ publishes_by l w i f h going (l.servers i).unpublished refl
]

-- ---- all moves

lawful_nodes : (l : Chain) (w : World) → Known w → StandsFor l w
    → (i : ℕ)
    → (l.servers i).stopped ≡ false
    → IsLawful (l.servers i).node
lawful_nodes l w f h i going = subst IsLawful (h.servers i going)
    (f.lawful i (living_parts w i (h.lives i ∙ ap not going)).0)

reaches : (l : Chain) (w : World) (m : Move) → Known w → StandsFor l w → IsAskedBy m → Reaches w (done l m)
reaches l w (Sends c call) f h a = sends_reach l w c call (is_spelled call a) h
reaches l w (Takes i sender) f h a = ([], omega arith, takes_stands l w i sender h)
reaches l w (Publishes i) f h a = publishes_reach l w i f h
reaches l w (Puts i j) f h a = ([], omega arith, puts_stands l w i j h)
reaches l w (Arrives i j) f h a = ([], omega arith, arrives_stands l w i j h)
reaches l w (Replies i c) f h a = replies_reach l w i c h
reaches l w (Receives c) f h a = ([], omega arith, receives_stands l w c h)
reaches l w (Looks c key) f h a = looks_reach l w c key (is_spelled (read_of key) a) h (lawful_nodes l w f h)
reaches l w (Stops i) f h a = stops_reach l w i h
reaches l w (Notices i j) f h a = ([], omega arith, notices_stands l w i j h)

-- each move has its events
pub simulates : (count : ℕ) (homes : List ℕ) → count ≤ 16 → Simulates count homes
simulates count homes few es l m h a =
    let r = reaches l (run_of count homes es) m (known count homes es few) h a in
    (r.0, r.1, subst (λ w. StandsFor (done l m) w) (sym (run-append es r.0 (opening_world count homes))) r.2)
