-- A step of a world: one server takes one input, the others stand, and what it puts out goes onto its links. Each event
-- is such a step of a living server, or changes no server and no link.
use Rattle.std.proofs.Common.{◌≡◌, ◌≢◌, ℕ, ◌<◌, true, List, [], ◌∷◌, ◌++◌, length, get_or, Some, refl, arith, sym, ap}
use Rattle.std.proofs.Common.{◌∙◌, ◌⊎◌, inl, inr}
use Rattle.std.specs.Prelude.{slice_get}
use Rattle.std.proofs.lemmas.Bool.{or_left}
use Rattle.std.proofs.lemmas.List.{length-set}
use Rattle.std.proofs.lemmas.Option.{slice_get-get_or}
use Rattle.node.specs.declared.messages.Peer.{Peer}
use Rattle.node.specs.declared.messages.Input.{Input}
use Rattle.node.specs.declared.messages.Input.TheVariants.{Call as Called, From, Gone}
use Rattle.node.specs.Views.{has, union, single}
use Rattle.node.specs.Servers.{ServerState, RuleResult}
use Rattle.node.specs.Steps.{step}
use Rattle.node.specs.Lawful.{IsInput, HoldsEntry, IsLawful}
use Rattle.world.specs.declared.connections.Stage.TheVariants.{Begun}
use Rattle.world.specs.Connections.{Connection, asked}
use Rattle.world.specs.Worlds.{World, server, link, lives, acted, takes, with_server, with_link, with_connection}
use Rattle.node.proofs.Lists.{In}
use Rattle.world.proofs.trace.Traces.{Traced, count}
use Rattle.world.proofs.trace.Layers.{Later, Framed, Lawful}
use Rattle.world.proofs.trace.WorldLaws.{link_cases, link-with_connection, server_same, server_apart, servers-put_all}
use Rattle.world.proofs.trace.WorldLaws.{server-put_all, failed-put_all}
use Rattle.world.proofs.trace.IdLaws.{has-union, living_parts}
use Rattle.world.proofs.layers.Addressed.{sender_apart}
use Rattle.world.proofs.streams.Streaming.{sent_to}
use Rattle.world.proofs.streams.ForwardRuns.{HasLink, has_link-with_link, has_link-with_connection, link-put_all_to}
use Rattle.world.proofs.streams.ForwardRuns.{link-put_all_from}
use Rattle.world.proofs.streams.Ways.{servers_connected, servers_linked, Working, Delivering, Telling, Way, Stays}
use Rattle.world.proofs.streams.Ways.{Comes, Starts, Hands, Fails, Works, Delivers, Tells}

-- ---- what changes no server and no link

-- servers and links stay, and who has failed has failed still
pub record IsStill (w u : World) : Type 0 where
  pub servers : (x : ℕ) → server u x ≡ server w x
  pub count : length u.servers ≡ length w.servers
  pub links : (x y : ℕ) → link u x y ≡ link w x y
  pub failed : (k : ℕ) → has w.failed k ≡ true → has u.failed k ≡ true

still_connection : (w : World) (c : ℕ) (change : Connection → Connection) → IsStill w (with_connection w c change)
unfolding with_connection server link
still_connection w c change = record { servers = λ x. refl; count = refl; links = λ x y. refl; failed = λ k h. h }

still_failing : (w : World) (i : ℕ) → IsStill w (record w { failed = union w.failed (single i) })
unfolding server link
still_failing w i =
    record {
      servers = λ x. refl;
      count = refl;
      links = λ x y. refl;
      failed = λ k h. has-union w.failed (single i) k
          ∙ or_left _ _ h;
    }

-- ---- what a step leaves

-- server a did this, and each other is as it was
record IsActed (w u : World) (a : ℕ) (o : RuleResult) : Type 0 where
  own : server u a ≡ o.state
  others : (x : ℕ) → x ≢ a → server u x ≡ server w x
  count : length u.servers ≡ length w.servers
  failed : u.failed ≡ w.failed
  sent : (y : ℕ) → HasLink w a y → link u a y ≡ link w a y ++ sent_to y o.outputs
  links : (x y : ℕ) → x ≢ a → link u x y ≡ link w x y

has_link-with_server : (w : World) (i : ℕ) (s : ServerState) (x y : ℕ) → HasLink w x y → HasLink (with_server w i s) x y
unfolding with_server
has_link-with_server w i s x y h = record { row = h.row; ordinal = h.ordinal }

link-with_server : (w : World) (i : ℕ) (s : ServerState) (x y : ℕ) → link (with_server w i s) x y ≡ link w x y
unfolding link with_server
link-with_server w i s x y = refl

count-with_server : (w : World) (i : ℕ) (s : ServerState) → length (with_server w i s).servers ≡ length w.servers
unfolding with_server
count-with_server w i s = length-set w.servers i s

failed-with_server : (w : World) (i : ℕ) (s : ServerState) → (with_server w i s).failed ≡ w.failed
unfolding with_server
failed-with_server w i s = refl

acted_is : (w : World) (a : ℕ) (o : RuleResult) → a < length w.servers → IsActed w (acted w a o) a o
acted_is w a o l =
    let w1 = with_server w a o.state in
    record {
      own = server-put_all w1 a o.outputs a ∙ server_same w a o.state l;
      others = λ x other. server-put_all w1 a o.outputs x ∙ server_apart w a x o.state other;
      count =
          ap (λ (ss : List ServerState). length ss) (servers-put_all w1 a o.outputs) ∙ count-with_server w a o.state;
      failed = failed-put_all w1 a o.outputs ∙ failed-with_server w a o.state;
      sent = λ y h. link-put_all_to w1 a o.outputs y (has_link-with_server w a o.state a y h)
          ∙ ap (λ ms. ms ++ sent_to y o.outputs) (link-with_server w a o.state a y);
      links = λ x y other. link-put_all_from w1 a o.outputs x y other ∙ link-with_server w a o.state x y;
    }

-- where an input comes from: a call from a connection that has begun it, a message from its link
abbrev pub HasCome : World → ℕ → Input → Type 0
HasCome w a (Called c call) = (k : Connection) × (slice_get w.connections c ≡ Some k) × (k.stage ≡ Begun)
HasCome w a (From i m) = In m (link w i a)
HasCome w a (Gone j) = Unit {0}

-- the living server a took this input, which it may be given
pub record Stepped (w u : World) (a : ℕ) (input : Input) : Type 0 where
  pub alive : lives w a ≡ true
  pub here : a < length w.servers
  pub fit : IsInput input
  pub valid : HoldsEntry input
  pub came : HasCome w a input
  pub own : server u a ≡ (step (server w a) input).state
  pub others : (x : ℕ) → x ≢ a → server u x ≡ server w x
  pub count : length u.servers ≡ length w.servers
  pub failed : u.failed ≡ w.failed
  pub sent : (y : ℕ) → y < length w.servers → link u a y ≡ link w a y ++ sent_to y (step (server w a) input).outputs
  -- another's link is as it was, but for the message that was taken off it
  pub links : (x y : ℕ)
      → x ≢ a
      → (link u x y ≡ link w x y) ⊎ ((y ≡ a) × (m : Peer) × (link w x a ≡ m ∷ link u x a) × (input ≡ From x m))

-- the world just before the step
record IsReady (w v : World) (a : ℕ) (input : Input) : Type 0 where
  alive : lives w a ≡ true
  fit : IsInput input
  valid : HoldsEntry input
  came : HasCome w a input
  servers : (x : ℕ) → server v x ≡ server w x
  count : length v.servers ≡ length w.servers
  failed : v.failed ≡ w.failed
  own : (y : ℕ) → y < length w.servers → HasLink v a y × (link v a y ≡ link w a y)
  links : (x y : ℕ)
      → x ≢ a
      → (link v x y ≡ link w x y) ⊎ ((y ≡ a) × (m : Peer) × (link w x a ≡ m ∷ link v x a) × (input ≡ From x m))

stepped : (w v : World) (a : ℕ) (input : Input) → IsReady w v a input → Stepped w (takes v a input) a input
stepped w v a input r =
    let l = (living_parts w a r.alive).0 in
    let p = acted_is v a (step (server v a) input) (rw r.count l) in
    let same = r.servers a in
    record {
      alive = r.alive;
      here = l;
      fit = r.fit;
      valid = r.valid;
      came = r.came;
      own = p.own ∙ ap (λ s. (step s input).state) same;
      others = λ x other. p.others x other ∙ r.servers x;
      count = p.count ∙ r.count;
      failed = p.failed ∙ r.failed;
      sent = λ y i. (let k = r.own y i in p.sent y k.0 ∙ ap (λ ms. ms ++ sent_to y (step (server v a) input).outputs)
          k.1 ∙ ap (λ s. link w a y ++ sent_to y (step s input).outputs) same);
      links = λ x y other. elim (r.links x y other) [
        | inl still ↦ inl (p.links x y other ∙ still)
        | inr took ↦ inr
            (took.0, took.1, took.2 ∙ ap (λ ms. took.1 ∷ ms) (sym (p.links x a other)), took.3)
      ];
    }

-- ---- each event

-- in a world of this shape there is a link from each server of the chain to each
pub has_link : (t : Traced) → Framed t → (i j : ℕ) → i < count t → j < count t → HasLink t.world i j
has_link t f i j a b =
    let within : i < length t.world.links = omega (arith, f.rows, a) in
    record {
      row = within;
      ordinal = omega (arith, f.row i (get_or t.world.links i []) (slice_get-get_or t.world.links i [] within), b);
    }

-- what an event makes of servers and links: nothing, or a step of a living server
pub data Effect (w u : World) : Type 0 where
  Stands : IsStill w u → Effect w u
  Steps : (a : ℕ) (input : Input) → Stepped w u a input → Effect w u

module _ (t : Traced) (h : Lawful t) where
  tells : (u : World) (r : Telling t.world u) → Stepped t.world (takes t.world r.i (Gone r.j)) r.i (Gone r.j)
  tells u r = stepped t.world t.world r.i (Gone r.j) (record {
    alive = r.lives;
    fit = tt;
    valid = tt;
    came = tt;
    servers = λ x. refl;
    count = refl;
    failed = refl;
    own = λ y m. (has_link t h.framed r.i y (living_parts t.world r.i r.lives).0 m, refl);
    links = λ x y p. inl refl;
  })

  works : (u : World) (r : Working t.world u)
      → Stepped t.world (takes (with_connection t.world r.c asked) r.connection.home (Called r.c r.call))
      r.connection.home (Called r.c r.call)
  unfolding with_connection
  works u r =
      let a = r.connection.home in
      let l = (living_parts t.world a r.lives).0 in
      let links = link-with_connection t.world r.c asked in
      stepped t.world (with_connection t.world r.c asked) a (Called r.c r.call) (record {
        alive = r.lives;
        fit = h.framed.calls r.c (length r.connection.replies) r.connection r.call r.here r.called;
        valid = tt;
        came = (r.connection, r.here, r.stage);
        servers = (servers_connected t.world r.c asked).1;
        count = refl;
        failed = refl;
        own = λ y m. (has_link-with_connection t.world r.c asked a y (has_link t h.framed a y l m), links a y);
        links = λ x y p. inl (links x y);
      })

  delivers : (u : World) (r : Delivering t.world u)
      → Stepped t.world (takes (with_link t.world r.i r.j r.later) r.j (From r.i r.message)) r.j (From r.i r.message)
  unfolding with_link
  delivers u r =
      let a = r.j in
      let v = with_link t.world r.i a r.later in
      let came : In r.message (link t.world r.i a) = rw r.first (0, refl) in
      let addressed = h.framed.sound r.i a r.message came in
      let apart = sender_apart t r.i a r.message addressed in
      stepped t.world v a (From r.i r.message) (record {
        alive = r.lives;
        fit = addressed.fit;
        valid = addressed.entry;
        came = came;
        servers = (servers_linked t.world r.i a r.later).1;
        count = refl;
        failed = refl;
        own = λ y m. (
          has_link-with_link t.world r.i a a y r.later (has_link t h.framed a y addressed.receiver m),
          elim (link_cases t.world r.i a a y r.later) [ inl c ↦ absurd (apart (sym c.0)) | inr e ↦ e ],
        );
        links = λ x y p. elim (link_cases t.world r.i a x y r.later) [
          | inr e ↦ inl e
          | inl c ↦ inr (
            c.1,
            r.message,
            ap (λ k. link t.world k a) c.0 ∙ r.first
                ∙ ap (λ ms. r.message ∷ ms) (sym (ap (λ k. link v x k) (sym c.1) ∙ c.2)),
            ap (λ k. From k r.message) (sym c.0),
          )
        ];
      })

  -- each event has such an effect
  pub effect : (u : World) → Way t.world u → Effect t.world u
  effect u (Stays e) = rw e
      (Stands (record { servers = λ x. refl; count = refl; links = λ x y. refl; failed = λ k f. f }))
  effect u (Comes c bytes e) = rw e (Stands (still_connection t.world c _))
  effect u (Starts c e) = rw e (Stands (still_connection t.world c _))
  effect u (Hands c e) = rw e (Stands (still_connection t.world c _))
  effect u (Fails i e) = rw e (Stands (still_failing t.world i))
  effect u (Works r) = rw r.world (Steps r.connection.home (Called r.c r.call) (works u r))
  effect u (Delivers r) = rw r.world (Steps r.j (From r.i r.message) (delivers u r))
  effect u (Tells r) = rw r.world (Steps r.i (Gone r.j) (tells u r))

-- ---- two moments

-- what is known of two moments, the later one after the earlier
pub record Follows (t u : Traced) : Type 0 where
  pub before : Lawful t
  pub after : Lawful u
  pub later : Later t u
  pub servers : (k : ℕ) → k < count t → IsLawful (server t.world k)
