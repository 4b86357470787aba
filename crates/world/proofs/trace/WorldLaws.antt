-- What a change of one server, one link or one connection leaves, and what outputs leave.
use Rattle.std.proofs.Common.{◌≡◌, ◌≢◌, ℕ, zero, suc, ◌<◌, true, List, [], ◌∷◌, ◌++◌, length, set, get_or, Some, refl}
use Rattle.std.proofs.Common.{arith, ◌⊎◌, inl, inr, ap, sym, ◌∙◌}
use Rattle.std.specs.Prelude.{slice_get}
use Rattle.std.proofs.lemmas.Bool.{cases_Bool}
use Rattle.std.proofs.lemmas.List.{get_or-set_same, get_or-set_other}
use Rattle.std.proofs.lemmas.Option.{same_Some}
use Rattle.table.specs.declared.operations.Reply.{Reply}
use Rattle.node.specs.declared.messages.Peer.{Peer}
use Rattle.node.specs.declared.messages.Output.{Output}
use Rattle.node.specs.declared.messages.Output.TheVariants.{To, Reply as Answered}
use Rattle.node.specs.Servers.{ServerState}
use Rattle.world.specs.declared.connections.Stage.{Stage}
use Rattle.world.specs.declared.connections.Stage.TheVariants.{Idle, Begun, Asked, Replied}
use Rattle.world.specs.Connections.{Connection, open_call, may_have, replied, changed_at}
use Rattle.world.specs.Worlds.{World, nobody, server, link, with_server, with_link, with_connection, put, put_all}
use Rattle.node.proofs.Lists.{In, in_pushed}

-- ---- one server, one link

-- at a place of a list, after one was set, is the new element or what was there
pub set_cases : {X : Type 0} (xs : List X) (i k : ℕ) (x d : X)
    → ((k ≡ i) × (get_or (set xs i x) k d ≡ x)) ⊎ (get_or (set xs i x) k d ≡ get_or xs k d)
set_cases [] i k x d = inr refl
set_cases (y ∷ xs) zero zero x d = inl (refl, refl)
set_cases (y ∷ xs) zero (suc k) x d = inr refl
set_cases (y ∷ xs) (suc i) zero x d = inr refl
set_cases (y ∷ xs) (suc i) (suc k) x d = let h = set_cases xs i k x d in grind arith

-- a server that was put in its place is there
pub server_same : (w : World) (i : ℕ) (s : ServerState) → i < length w.servers → server (with_server w i s) i ≡ s
unfolding server with_server
server_same w i s l = get_or-set_same w.servers i s nobody l

-- another server than the one that was put in its place is as it was
pub server_apart : (w : World) (i k : ℕ) (s : ServerState) → k ≢ i → server (with_server w i s) k ≡ server w k
unfolding server with_server
server_apart w i k s other = get_or-set_other w.servers i k s nobody other

-- a link, after one was changed, has the new messages or those that it had
pub link_cases : (w : World) (i j a b : ℕ) (ms : List Peer)
    → ((a ≡ i) × (b ≡ j) × (link (with_link w i j ms) a b ≡ ms)) ⊎ (link (with_link w i j ms) a b ≡ link w a b)
unfolding link with_link
link_cases w i j a b ms =
    elim (set_cases w.links i a (set (get_or w.links i []) j ms) []) [
      | inl h ↦ elim (set_cases (get_or w.links i []) j b ms []) [
        | inl g ↦ inl (h.0, g.0, ap (λ row. get_or row b []) h.1 ∙ g.1)
        | inr g ↦ inr (ap (λ row. get_or row b []) h.1 ∙ g ∙ ap (λ x. get_or (get_or w.links x []) b []) (sym h.0))
      ]
      | inr h ↦ inr (ap (λ row. get_or row b []) h)
    ]

-- ---- one connection

-- the c-th changes so, and the others don't
abbrev pub Changes : ℕ → (Connection → Connection) → ℕ → Connection → Connection → Type 0
Changes c change d k k' = ((d ≡ c) × (k' ≡ change k)) ⊎ ((d ≢ c) × (k' ≡ k))

-- a connection that is in a list is there after a change of one, with that change or without
pub changed_one : (ks : List Connection) (c : ℕ) (change : Connection → Connection) (d : ℕ) (k : Connection)
    → slice_get ks d ≡ Some k
    → (k' : Connection) × (slice_get (changed_at ks c change) d ≡ Some k') × Changes c change d k k'
changed_one [] c change d k h = absurd cc
changed_one (x ∷ ks) zero change zero k h = (change x, refl, inl (refl, ap change (same_Some x k h)))
changed_one (x ∷ ks) zero change (suc d) k h = (k, h, inr (λ e. omega arith, refl))
changed_one (x ∷ ks) (suc c) change zero k h = (k, h, inr (λ e. omega arith, refl))
changed_one (x ∷ ks) (suc c) change (suc d) k h =
    let r = changed_one ks c change d k h in
    (r.0, r.1, elim r.2 [ inl g ↦ inl (ap suc g.0, g.1) | inr g ↦ inr (λ e. g.0 (omega arith), g.1) ])

-- a connection that is in a list after a change of one was there before it
pub unchanged_one : (ks : List Connection) (c : ℕ) (change : Connection → Connection) (d : ℕ) (k' : Connection)
    → slice_get (changed_at ks c change) d ≡ Some k'
    → (k : Connection) × (slice_get ks d ≡ Some k) × Changes c change d k k'
unchanged_one [] c change d k' h = absurd cc
unchanged_one (x ∷ ks) zero change zero k' h = (x, refl, inl (refl, sym (same_Some (change x) k' h)))
unchanged_one (x ∷ ks) zero change (suc d) k' h = (k', h, inr (λ e. omega arith, refl))
unchanged_one (x ∷ ks) (suc c) change zero k' h = (k', h, inr (λ e. omega arith, refl))
unchanged_one (x ∷ ks) (suc c) change (suc d) k' h =
    let r = unchanged_one ks c change d k' h in
    (r.0, r.1, elim r.2 [ inl g ↦ inl (ap suc g.0, g.1) | inr g ↦ inr (λ e. g.0 (omega arith), g.1) ])

-- ---- outputs

-- outputs leave the servers as they are
pub servers-put_all : (w : World) (i : ℕ) (os : List Output) → (put_all w i os).servers ≡ w.servers
unfolding put_all with_link with_connection
servers-put_all w i [] = refl
servers-put_all w i (To j peer ∷ os) = servers-put_all (put w i (To j peer)) i os
servers-put_all w i (Answered c reply ∷ os) = servers-put_all (put w i (Answered c reply)) i os

-- outputs fail no server
pub failed-put_all : (w : World) (i : ℕ) (os : List Output) → (put_all w i os).failed ≡ w.failed
unfolding put_all with_link with_connection
failed-put_all w i [] = refl
failed-put_all w i (To j peer ∷ os) = failed-put_all (put w i (To j peer)) i os
failed-put_all w i (Answered c reply ∷ os) = failed-put_all (put w i (Answered c reply)) i os

-- outputs leave each server as it is
pub server-put_all : (w : World) (i : ℕ) (os : List Output) (k : ℕ) → server (put_all w i os) k ≡ server w k
unfolding server
server-put_all w i os k = ap (λ ss. get_or ss k nobody) (servers-put_all w i os)

-- a message goes onto a link
put_to : (w : World) (i j x y : ℕ) (peer m : Peer)
    → In m (link (with_link w i j (link w i j ++ peer ∷ [])) x y)
    → In m (link w x y) ⊎ ((x ≡ i) × (y ≡ j) × (m ≡ peer))
put_to w i j x y peer m h =
    elim (link_cases w i j x y (link w i j ++ peer ∷ [])) [
      | inl c ↦ elim (in_pushed (link w i j) peer m (rw c.2 at h))
          [ inl old ↦ inl (rw (c.0, c.1) old) | inr new ↦ inr (c.0, c.1, new) ]
      | inr e ↦ inl (rw e at h)
    ]

-- a change of a connection leaves the links as they are
pub link-with_connection : (w : World) (c : ℕ) (change : Connection → Connection) (x y : ℕ)
    → link (with_connection w c change) x y ≡ link w x y
unfolding link with_connection
link-with_connection w c change x y = refl

-- a message on a link after outputs stood there before, or is one of them
pub link-put_all : (w : World) (i : ℕ) (os : List Output) (x y : ℕ) (m : Peer)
    → In m (link (put_all w i os) x y)
    → In m (link w x y) ⊎ ((x ≡ i) × In (To y m) os)
unfolding put_all
link-put_all w i [] x y m h = inl h
link-put_all w i (To j peer ∷ os) x y m h =
    elim (link-put_all (put w i (To j peer)) i os x y m h) [
      | inl old ↦ elim (put_to w i j x y peer m old) [ inl g ↦ inl g | inr g ↦ inr (g.0, (0, rw (g.1, g.2) refl)) ]
      | inr new ↦ inr (new.0, (suc new.1.0, new.1.1))
    ]
link-put_all w i (Answered c reply ∷ os) x y m h =
    elim (link-put_all (put w i (Answered c reply)) i os x y m h) [
      | inl old ↦ inl (rw (link-with_connection w c (λ k. replied k.stage reply k) x y) at old)
      | inr new ↦ inr (new.0, (suc new.1.0, new.1.1))
    ]

-- a connection after these outputs of a server: as it was, or its open call has its reply
abbrev pub Answers : List Output → ℕ → Connection → Connection → Type 0
Answers os c k k' =
    (k' ≡ k)
    ⊎ ((reply : Reply) × In (Answered c reply) os × (k.stage ≡ Asked) × (may_have (open_call k) reply ≡ true)
    × (k' ≡ record k { stage = Replied reply }))

replied_cases : (stage : Stage) (reply : Reply) (k : Connection) → k.stage ≡ stage
    → (replied stage reply k ≡ k)
    ⊎ ((k.stage ≡ Asked) × (may_have (open_call k) reply ≡ true)
    × (replied stage reply k ≡ record k { stage = Replied reply }))
replied_cases Idle reply k e = inl refl
replied_cases Begun reply k e = inl refl
replied_cases Asked reply k e =
    elim (cases_Bool (may_have (open_call k) reply)) [
      | inl t ↦ inr (e, t, rw t refl)
      | inr f ↦ inl (rw f refl)
    ]
replied_cases (Replied first) reply k e = inl refl

-- one output, and those after it
pub answers_one : (c d : ℕ) (reply : Reply) (k k' : Connection)
    → Changes d (λ x. replied x.stage reply x) c k k'
    → Answers (Answered d reply ∷ []) c k k'
answers_one c d reply k k' (inr h) = inl h.1
answers_one c d reply k k' (inl h) =
    elim (replied_cases k.stage reply k refl) [
      | inl same ↦ inl (h.1 ∙ same)
      | inr new ↦ inr (reply, (0, rw h.0 refl), new.0, new.1, h.1 ∙ new.2)
    ]

in_first : (o p : Output) (os : List Output) → In p (o ∷ []) → In p (o ∷ os)
in_first o p os (zero, h) = (0, h)
in_first o p os (suc n, h) = absurd cc

answers_then : (o : Output) (os : List Output) (c : ℕ) (k x y : Connection)
    → Answers (o ∷ []) c k x
    → Answers os c x y
    → Answers (o ∷ os) c k y
answers_then o os c k x y (inl e) (inl f) = inl (f ∙ e)
answers_then o os c k x y (inl e) (inr g) = inr (g.0, (suc g.1.0, g.1.1), rw e at g.2, rw e at g.3, rw e at g.4)
answers_then o os c k x y (inr g) (inl f) = inr (g.0, in_first o (Answered c g.0) os g.1, g.2, g.3, f ∙ g.4)
answers_then o os c k x y (inr g) (inr f) = absurd (let e : Replied g.0 ≡ Asked = rw g.4 at f.2 in cc)

behind_first : (o : Output) (os : List Output) (c : ℕ) (k k' : Connection) → Answers os c k k' → Answers (o ∷ os) c k k'
behind_first o os c k k' (inl e) = inl e
behind_first o os c k k' (inr g) = inr (g.0, (suc g.1.0, g.1.1), g.2, g.3, g.4)

-- what becomes of a connection after the outputs of a server
pub connection-put_all : (w : World) (i : ℕ) (os : List Output) (c : ℕ) (k : Connection)
    → slice_get w.connections c ≡ Some k
    → (k' : Connection) × (slice_get (put_all w i os).connections c ≡ Some k') × Answers os c k k'
unfolding put_all with_link with_connection
connection-put_all w i [] c k h = (k, h, inl refl)
connection-put_all w i (To j peer ∷ os) c k h =
    let r = connection-put_all (put w i (To j peer)) i os c k h in
    (r.0, r.1, behind_first (To j peer) os c k r.0 r.2)
connection-put_all w i (Answered d reply ∷ os) c k h =
    let one = changed_one w.connections d (λ x. replied x.stage reply x) c k h in
    let r = connection-put_all (put w i (Answered d reply)) i os c one.0 one.1 in
    (r.0, r.1, answers_then (Answered d reply) os c k one.0 r.0 (answers_one c d reply k one.0 one.2) r.2)

-- a connection after outputs is what became of one before them
pub connection-before_all : (w : World) (i : ℕ) (os : List Output) (c : ℕ) (k' : Connection)
    → slice_get (put_all w i os).connections c ≡ Some k'
    → (k : Connection) × (slice_get w.connections c ≡ Some k) × Answers os c k k'
unfolding put_all with_link with_connection
connection-before_all w i [] c k' h = (k', h, inl refl)
connection-before_all w i (To j peer ∷ os) c k' h =
    let r = connection-before_all (put w i (To j peer)) i os c k' h in
    (r.0, r.1, behind_first (To j peer) os c r.0 k' r.2)
connection-before_all w i (Answered d reply ∷ os) c k' h =
    let r = connection-before_all (put w i (Answered d reply)) i os c k' h in
    let one = unchanged_one w.connections d (λ x. replied x.stage reply x) c r.0 r.1 in
    (one.0, one.1, answers_then (Answered d reply) os c one.0 r.0 k' (answers_one c d reply one.0 r.0 one.2) r.2)
