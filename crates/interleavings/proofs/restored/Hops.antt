-- A call is sent and taken, a message passes from one server to another, and a reply comes to its seat: what each
-- leaves of a chain on whose channels nothing is.
use Rattle.std.proofs.Common.{◌≡◌, ◌≢◌, ℕ, true, false, cond, List, [], ◌∷◌, ◌++◌, length, None, Some, refl, ap, ◌∙◌}
use Rattle.std.proofs.Common.{inl, inr}
use Rattle.std.proofs.lemmas.Bool.{cases_eq, eq-eqb}
use mathlib.Core.Path.{fun_ext}
use Rattle.table.specs.declared.operations.Call.{Call}
use Rattle.table.specs.declared.operations.Reply.{Reply}
use Rattle.node.specs.declared.messages.Peer.{Peer}
use Rattle.node.specs.declared.messages.Input.{Input}
use Rattle.node.specs.declared.messages.Input.TheVariants.{Call as Called, From}
use Rattle.node.specs.declared.messages.Output.{Output}
use Rattle.node.specs.declared.messages.Output.TheVariants.{To, Reply as Replied}
use Rattle.node.specs.Servers.{ServerState, RuleResult}
use Rattle.node.specs.Steps.{step}
use Rattle.interleavings.specs.Chains.{RunningServer, Seat, Chain, with_at, with_running, with_channel, with_seat}
use Rattle.interleavings.specs.Chains.{messages_to, without_message, replies_to, without_reply, Sender, OfSeat}
use Rattle.interleavings.specs.Chains.{OfServer, is_of}
use Rattle.interleavings.specs.Moves.{Move, Sends, Takes, Publishes, Puts, Arrives, Replies, Receives, brought, sent}
use Rattle.interleavings.specs.Moves.{received, took, taking, publishing, put, arrived, reply_put, done, moved_from}
use Rattle.interleavings.proofs.lists.ChangedFunctions.{at_same, at_other, at_twice}

-- a server with this node, which has nothing to do but to put these
abbrev pub running : ServerState → List Output → RunningServer
running node outbox = record { node = node; inbox = []; unpublished = None; outbox = outbox; stopped = false }

-- a chain on whose channels nothing is
abbrev pub calm : ℕ → (ℕ → RunningServer) → (ℕ → Seat) → Chain
calm count servers seats = record { count = count; servers = servers; channels = λ i j. []; seats = seats }

-- ---- a server does something

module _ (count : ℕ) (seats : ℕ → Seat) (servers : ℕ → RunningServer) (j : ℕ) where
  -- what changes the server alone
  changed : (f : RunningServer → RunningServer) (s t : RunningServer)
      → f s ≡ t
      → with_running (calm count (with_at servers j s) seats) j (f (with_at servers j s j))
      ≡ calm count (with_at servers j t) seats
  changed f s t e =
      ap (λ x. calm count (with_at (with_at servers j s) j (f x)) seats) (at_same servers j s)
      ∙ ap (λ ss. calm count ss seats) (at_twice servers j s (f s))
      ∙ ap (λ x. calm count (with_at servers j x) seats) e

  -- it takes an input, and publishes its step
  pub works : (b : ServerState) (sender : Sender) (input : Input) (r : RuleResult)
      → is_of sender input ≡ true
      → step b input ≡ r
      → moved_from (calm count (with_at servers j (record (running b []) { inbox = input ∷ [] })) seats)
      (Takes j sender ∷ Publishes j ∷ [])
      ≡ calm count (with_at servers j (running r.state r.outputs)) seats
  works b sender input r of is =
      let full : RunningServer = record (running b []) { inbox = input ∷ [] } in
      let taken : RunningServer = record (running b []) { unpublished = Some input } in
      ap (λ l. done l (Publishes j))
      (changed (λ s. taking s sender) full taken
      (ap (λ c. took full sender (cond c (Some input) None)) of
      ∙ ap (λ c. record full { inbox = cond c [] (input ∷ []); unpublished = Some input }) of))
      ∙ changed publishing taken (running r.state r.outputs) (ap (λ (a : RuleResult). running a.state a.outputs) is)

-- ---- a message passes

-- what was put onto a channel is off it
nothing_left : (i j : ℕ) (ms : List Peer)
    → ◌≡◌ {A = ℕ → ℕ → List Peer} (with_at (with_at (λ x y. []) i (with_at (λ y. []) j ms)) i
    (with_at (with_at (λ x y. []) i (with_at (λ y. []) j ms) i) j [])) (λ x y. [])
nothing_left i j ms =
    at_twice (λ x y. []) i (with_at (λ y. []) j ms) (with_at (with_at (λ x y. []) i (with_at (λ y. []) j ms) i) j [])
    ∙ ap (λ row. with_at (λ x y. []) i (with_at row j [])) (at_same (λ x y. []) i (with_at (λ y. []) j ms))
    ∙ ap (λ row. with_at (λ x y. []) i row) (at_twice (λ y. []) j ms [])
    ∙ fun_ext (λ x. fun_ext (λ y. elim (cases_eq x i) [
      | inl same ↦ rw same (ap (λ row. row y) (at_same (λ x y. []) i (with_at (λ y. []) j [])) ∙ empty_row y)
      | inr other ↦ ap (λ row. row y) (at_other (λ x y. []) i (with_at (λ y. []) j []) x other)
    ]))
  where
    empty_row : (y : ℕ) → ◌≡◌ {A = List Peer} (with_at (λ x. []) j [] y) []
    empty_row y = elim (cases_eq y j) [
      | inl same ↦ rw same (at_same (λ y. []) j [])
      | inr other ↦ at_other (λ y. []) j [] y other
    ]

-- the moves by which a server's message comes to another, which publishes its step
abbrev pub hop : ℕ → ℕ → List Move
hop i j = Puts i j ∷ Arrives i j ∷ Takes j (OfServer i) ∷ Publishes j ∷ []

module _ (count : ℕ) (seats : ℕ → Seat) (servers : ℕ → RunningServer) (i j : ℕ) (a b : ServerState) (m : Peer)
    (r : RuleResult) (other : j ≢ i) (here : servers i ≡ running a (To j m ∷ [])) (there : servers j ≡ running b [])
    (is : step b (From i m) ≡ r) where
  abbrev start : Chain
  start = calm count servers seats

  abbrev emptied : ℕ → RunningServer
  emptied = with_at servers i (running a [])

  abbrev on_channel : Chain
  on_channel = record start {
    servers = emptied;
    channels = with_at (λ x y. []) i (with_at (λ y. []) j (m ∷ []));
  }

  abbrev there_with : Chain
  there_with = calm count (with_at emptied j (record (running b []) { inbox = From i m ∷ [] })) seats

  it_puts : done start (Puts i j) ≡ on_channel
  it_puts =
      ap (λ (s : RunningServer). cond s.stopped start (put start i j (messages_to j s.outbox))) here
      ∙ ap (λ c. put start i j (cond c (m ∷ []) [])) (eq-eqb j j refl)
      ∙ ap (λ (s : RunningServer).
      with_channel (with_running start i (record s { outbox = without_message j s.outbox })) i j (m ∷ [])) here
      ∙ ap (λ c. with_channel (with_running start i (running a (cond c [] (To j m ∷ [])))) i j (m ∷ [])) (eq-eqb j j
      refl)

  on_it : on_channel.channels i j ≡ m ∷ []
  on_it =
      ap (λ row. row j) (at_same (λ x y. []) i (with_at (λ y. []) j (m ∷ [])))
      ∙ at_same (λ y. []) j (m ∷ [])

  it_arrives : done on_channel (Arrives i j) ≡ there_with
  it_arrives =
      ap (arrived on_channel i j) on_it
      ∙ ap (λ (s : RunningServer).
      with_running (with_channel on_channel i j []) j (record s { inbox = s.inbox ++ From i m ∷ [] }))
      (at_other servers i (running a []) j other ∙ there)
      ∙ ap (λ cs. record there_with { channels = cs }) (nothing_left i j (m ∷ []))

  -- its sender has nothing left to put, and the other server what its step puts out
  pub hops : moved_from start (hop i j) ≡ calm count (with_at emptied j (running r.state r.outputs)) seats
  hops =
      ap (λ l. moved_from l (Arrives i j ∷ Takes j (OfServer i) ∷ Publishes j ∷ [])) it_puts
      ∙ ap (λ l. moved_from l (Takes j (OfServer i) ∷ Publishes j ∷ [])) it_arrives
      ∙ works count seats emptied j b (OfServer i) (From i m) r (eq-eqb i i refl) is

-- ---- a seat asks, and is answered

-- a seat at server 0 with these calls and replies
abbrev pub asking : List Call → List Reply → Seat
asking calls got = record { home = 0; calls = calls; got = got; queued = [] }

module _ (count : ℕ) (seats : ℕ → Seat) (servers : ℕ → RunningServer) (c : ℕ) (calls : List Call) (got : List Reply)
    (here : seats c ≡ asking calls got) where
  abbrev begun : Call → ℕ → Seat
  begun call = with_at seats c (asking (calls ++ call ∷ []) got)

  -- its call is sent to server 0, which publishes the step
  pub asks : (call : Call) (a : ServerState) (r : RuleResult)
      → length calls ≡ length got
      → servers 0 ≡ running a []
      → step a (Called c call) ≡ r
      → moved_from (calm count servers seats) (Sends c call ∷ Takes 0 (OfSeat c) ∷ Publishes 0 ∷ [])
      ≡ calm count (with_at servers 0 (running r.state r.outputs)) (begun call)
  asks call a r free first is =
      let start = calm count servers seats in
      ap (λ l. moved_from l (Takes 0 (OfSeat c) ∷ Publishes 0 ∷ []))
      (ap (sent start c call) here
      ∙ ap (λ x. cond x (brought (with_seat start c (asking (calls ++ call ∷ []) got)) 0 (Called c call)) start)
      (eq-eqb (length calls) (length got) free)
      ∙ ap (λ (s : RunningServer).
      calm count (with_at servers 0 (record s { inbox = s.inbox ++ Called c call ∷ [] })) (begun call)) first)
      ∙ works count (begun call) servers 0 a (OfSeat c) (Called c call) r (eq-eqb c c refl) is

  -- its reply is put into its queue, and it takes it
  pub is_told : (reply : Reply) (a : ServerState)
      → servers 0 ≡ running a (Replied c reply ∷ [])
      → moved_from (calm count servers seats) (Replies 0 c ∷ Receives c ∷ [])
      ≡ calm count (with_at servers 0 (running a [])) (with_at seats c (asking calls (got ++ reply ∷ [])))
  is_told reply a first =
      let start = calm count servers seats in
      let waiting : Seat = record (asking calls got) { queued = reply ∷ [] } in
      let put_there : Chain = calm count (with_at servers 0 (running a [])) (with_at seats c waiting) in
      ap (λ l. done l (Receives c))
      (ap (λ (s : RunningServer). cond s.stopped start (reply_put start 0 c (seats c) (replies_to c s.outbox))) first
      ∙ ap (λ x. reply_put start 0 c (seats c) (cond x (reply ∷ []) [])) (eq-eqb c c refl)
      ∙ ap (λ (s : RunningServer). with_seat (with_running start 0 (record s { outbox = without_reply c s.outbox })) c
      (record (seats c) { queued = (seats c).queued ++ reply ∷ [] })) first
      ∙ ap (λ x. with_seat (with_running start 0 (running a (cond x [] (Replied c reply ∷ [])))) c
      (record (seats c) { queued = (seats c).queued ++ reply ∷ [] })) (eq-eqb c c refl)
      ∙ ap (λ (s : Seat). with_seat (with_running start 0 (running a [])) c
      (record s { queued = s.queued ++ reply ∷ [] })) here)
      ∙ ap (λ (s : Seat). received put_there c s s.queued) (at_same seats c waiting)
      ∙ ap (λ ss. calm count (with_at servers 0 (running a [])) ss)
      (at_twice seats c waiting (asking calls (got ++ reply ∷ [])))
