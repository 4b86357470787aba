-- What of a world counts decides what each event does to it, as far as that counts, what it shows, and which server
-- steps.
use Rattle.std.proofs.Common.{◌≡◌, ℕ, zero, suc, Bool, true, false, not, ◌&&◌, ◌||◌, cond, List, [], ◌∷◌, ◌++◌, length}
use Rattle.std.proofs.Common.{map, set, get_or, Option, None, Some, refl, sym, ap, ◌∙◌, inl, inr}
use Rattle.std.specs.Prelude.{slice_get, nat_lt, ◌==◌}
use Rattle.std.specs.List.{list_all}
use Rattle.std.proofs.lemmas.Bool.{cases_Bool, and_parts}
use Rattle.std.proofs.lemmas.List.{map-set, set-get_or}
use Rattle.table.specs.declared.operations.Call.{Call}
use Rattle.node.specs.declared.messages.Peer.{Peer}
use Rattle.node.specs.declared.messages.Input.{Input}
use Rattle.node.specs.declared.messages.Input.TheVariants.{Call as Called, From, Gone}
use Rattle.node.specs.declared.messages.Output.{Output}
use Rattle.node.specs.declared.messages.Output.TheVariants.{To, Reply as Answered}
use Rattle.node.specs.Views.{View, has, union, single}
use Rattle.node.specs.Servers.{ServerState}
use Rattle.node.specs.Steps.{step}
use Rattle.world.specs.declared.events.Event.{Event}
use Rattle.world.specs.declared.events.Event.TheVariants.{Piece, Begin, Work, Deliver, Fail, Tell, Hand}
use Rattle.world.specs.Connections.{Connection, came, begun, handed, asked, replied, to_work}
use Rattle.world.specs.Links.{messages_between, with_messages, is_empty}
use Rattle.world.specs.Worlds.{World, nobody, server, link, with_server, with_link, with_connection, lives, has_failed}
use Rattle.world.specs.Worlds.{put, put_all, acted, takes, where_home_lives, sent_in, worked, delivered, happens}
use Rattle.world.specs.Quiet.{all_below, is_server_quiet, is_quiet, waits}
use Rattle.world.specs.Transcripts.{connection_shown, transcript_of, TranscriptShown}
use Rattle.world.specs.Refusals.{takes_call, works_at, steps_at}
use Rattle.world.specs.LivingParts.{blanked, living_part}
use Rattle.world.proofs.trace.IdLaws.{has-union}

-- ---- lists with some places blanked

length-blanked : {X : Type 0} (x : X) (t : ℕ → Bool) (ys : List X) → length (blanked x t ys) ≡ length ys
length-blanked x t [] = refl
length-blanked x t (y ∷ ys) = ap suc (length-blanked x (λ i. t (suc i)) ys)

cond_same : {X : Type 0} (b : Bool) (x : X) → cond b x x ≡ x
cond_same true x = refl
cond_same false x = refl

get-blanked : {X : Type 0} (x : X) (t : ℕ → Bool) (ys : List X) (i : ℕ)
    → get_or (blanked x t ys) i x ≡ cond (t i) x (get_or ys i x)
get-blanked x t [] i = sym (cond_same (t i) x)
get-blanked x t (y ∷ ys) zero = refl
get-blanked x t (y ∷ ys) (suc i) = get-blanked x (λ i. t (suc i)) ys i

-- the first test passes if the second does
abbrev Within : (ℕ → Bool) → (ℕ → Bool) → Type 0
Within u t = (i : ℕ) → u i ≡ true → t i ≡ true

blank_twice : {X : Type 0} (a b : Bool) (x y : X) → (b ≡ true → a ≡ true) → cond a x (cond b x y) ≡ cond a x y
blank_twice true b x y h = refl
blank_twice false true x y h = absurd (let e : false ≡ true = h refl in cc)
blank_twice false false x y h = refl

blanked_again : {X : Type 0} (x : X) (t u : ℕ → Bool) (ys : List X) → Within u t
    → blanked x t (blanked x u ys) ≡ blanked x t ys
blanked_again x t u [] h = refl
blanked_again x t u (y ∷ ys) h =
    ap (λ z. z ∷ blanked x (λ i. t (suc i)) (blanked x (λ i. u (suc i)) ys))
    (blank_twice (t zero) (u zero) x y (h zero))
    ∙ ap (λ zs. cond (t zero) x y ∷ zs) (blanked_again x (λ i. t (suc i)) (λ i. u (suc i)) ys (λ i. h (suc i)))

blanked_twice : {X : Type 0} (x : X) (t : ℕ → Bool) (ys : List X) → blanked x t (blanked x t ys) ≡ blanked x t ys
blanked_twice x t ys = blanked_again x t t ys (λ i h. h)

-- an element written into a list, some places of which are blanked
blanked-set : {X : Type 0} (x : X) (t : ℕ → Bool) (ys : List X) (i : ℕ) (y : X)
    → blanked x t (set (blanked x t ys) i y) ≡ blanked x t (set ys i y)
blanked-set x t [] i y = refl
blanked-set x t (z ∷ ys) zero y = ap (λ zs. cond (t zero) x y ∷ zs) (blanked_twice x (λ i. t (suc i)) ys)
blanked-set x t (z ∷ ys) (suc i) y =
    ap (λ a. a ∷ blanked x (λ i. t (suc i)) (set (blanked x (λ i. t (suc i)) ys) i y))
    (blank_twice (t zero) (t zero) x z (λ h. h))
    ∙ ap (λ zs. cond (t zero) x z ∷ zs) (blanked-set x (λ i. t (suc i)) ys i y)

-- an element written into a place that is blanked
pub blanked-unseen : {X : Type 0} (x : X) (t : ℕ → Bool) (ys : List X) (i : ℕ) (y : X) → t i ≡ true
    → blanked x t (set ys i y) ≡ blanked x t ys
blanked-unseen x t [] i y h = refl
blanked-unseen x t (z ∷ ys) zero y h = rw h refl
blanked-unseen x t (z ∷ ys) (suc i) y h = ap (λ zs. cond (t zero) x z ∷ zs) (blanked-unseen x (λ i. t (suc i)) ys i y h)

-- ---- links with those to some servers blanked

-- the links of a world, a row for each sender
abbrev pub Rows : Type 0
Rows = List (List (List Peer))

-- these links with nothing on those to servers that pass a test
abbrev pub blank_links : (ℕ → Bool) → Rows → Rows
blank_links t rows = map (blanked [] t) rows

get-row : (t : ℕ → Bool) (rows : Rows) (i : ℕ) → get_or (blank_links t rows) i [] ≡ blanked [] t (get_or rows i [])
get-row t [] i = refl
get-row t (row ∷ rows) zero = refl
get-row t (row ∷ rows) (suc i) = get-row t rows i

links_again : (t u : ℕ → Bool) (rows : Rows) → Within u t → blank_links t (blank_links u rows) ≡ blank_links t rows
links_again t u [] h = refl
links_again t u (row ∷ rows) h =
    ap (λ r. r ∷ blank_links t (blank_links u rows)) (blanked_again [] t u row h)
    ∙ ap (λ rs. blanked [] t row ∷ rs) (links_again t u rows h)

links_twice : (t : ℕ → Bool) (rows : Rows) → blank_links t (blank_links t rows) ≡ blank_links t rows
links_twice t rows = links_again t t rows (λ i h. h)

messages-blanked : (t : ℕ → Bool) (rows : Rows) (i j : ℕ)
    → messages_between (blank_links t rows) i j ≡ cond (t j) [] (messages_between rows i j)
messages-blanked t rows i j = ap (λ row. get_or row j []) (get-row t rows i) ∙ get-blanked [] t (get_or rows i []) j

links_with : (t : ℕ → Bool) (rows : Rows) (i j : ℕ) (ms : List Peer)
    → blank_links t (with_messages rows i j ms) ≡ set (blank_links t rows) i
    (blanked [] t (set (get_or rows i []) j ms))
links_with t rows i j ms = map-set (blanked [] t) rows i (set (get_or rows i []) j ms)

-- messages written onto a link, some of which are blanked
links-set : (t : ℕ → Bool) (rows : Rows) (i j : ℕ) (ms : List Peer)
    → blank_links t (with_messages (blank_links t rows) i j ms) ≡ blank_links t (with_messages rows i j ms)
links-set t rows i j ms =
    links_with t (blank_links t rows) i j ms
    ∙ ap (λ rs. set rs i (blanked [] t (set (get_or (blank_links t rows) i []) j ms))) (links_twice t rows)
    ∙ ap (λ row. set (blank_links t rows) i (blanked [] t (set row j ms))) (get-row t rows i)
    ∙ ap (λ row. set (blank_links t rows) i row) (blanked-set [] t (get_or rows i []) j ms)
    ∙ sym (links_with t rows i j ms)

-- messages written onto a link that is blanked
pub links-unseen : (t : ℕ → Bool) (rows : Rows) (i j : ℕ) (ms : List Peer) → t j ≡ true
    → blank_links t (with_messages rows i j ms) ≡ blank_links t rows
links-unseen t rows i j ms h =
    links_with t rows i j ms
    ∙ ap (λ row. set (blank_links t rows) i row)
    (blanked-unseen [] t (get_or rows i []) j ms h ∙ sym (get-row t rows i))
    ∙ set-get_or (blank_links t rows) i []

-- ---- the living part of a world

-- what is left out once is left out
part_twice : (w : World) → living_part (living_part w) ≡ living_part w
part_twice w =
    ap (λ (ss : List ServerState). record w
    { servers = ss; links = blank_links (has w.failed) (blank_links (has w.failed) w.links) })
    (blanked_twice nobody (has w.failed) w.servers)
    ∙ ap (λ (rows : Rows). record w { servers = blanked nobody (has w.failed) w.servers; links = rows })
    (links_twice (has w.failed) w.links)

count_same : (w : World) → length (living_part w).servers ≡ length w.servers
count_same w = length-blanked nobody (has w.failed) w.servers

-- what of a world counts has the same servers living
pub lives_same : (w : World) (i : ℕ) → lives (living_part w) i ≡ lives w i
lives_same w i = ap (λ n. nat_lt i n && not (has w.failed i)) (count_same w)

failed_same : (w : World) (i : ℕ) → has_failed (living_part w) i ≡ has_failed w i
failed_same w i = ap (λ n. nat_lt i n && has w.failed i) (count_same w)

unfailed : (w : World) (i : ℕ) → lives w i ≡ true → has w.failed i ≡ false
unfailed w i h = by (has w.failed i) (and_parts (nat_lt i (length w.servers)) (not (has w.failed i)) h).1
  where
    by : (b : Bool) → not b ≡ true → b ≡ false
    by true e = cc
    by false e = refl

server_same : (w : World) (i : ℕ) → lives w i ≡ true → server (living_part w) i ≡ server w i
unfolding server
server_same w i h = get-blanked nobody (has w.failed) w.servers i
    ∙ ap (λ b. cond b nobody (get_or w.servers i nobody)) (unfailed w i h)

link_blank : (w : World) (i j : ℕ) → link (living_part w) i j ≡ cond (has w.failed j) [] (link w i j)
unfolding link
link_blank w i j = messages-blanked (has w.failed) w.links i j

link_same : (w : World) (i j : ℕ) → lives w j ≡ true → link (living_part w) i j ≡ link w i j
link_same w i j h = link_blank w i j ∙ ap (λ b. cond b [] (link w i j)) (unfailed w j h)

-- ---- changes

part-server : (w : World) (i : ℕ) (s : ServerState)
    → living_part (with_server (living_part w) i s) ≡ living_part (with_server w i s)
unfolding with_server
part-server w i s =
    ap (λ (ss : List ServerState). record w
    { servers = ss; links = blank_links (has w.failed) (blank_links (has w.failed) w.links) })
    (blanked-set nobody (has w.failed) w.servers i s)
    ∙ ap (λ (rows : Rows). record w { servers = blanked nobody (has w.failed) (set w.servers i s); links = rows })
    (links_twice (has w.failed) w.links)

part-link : (w : World) (i j : ℕ) (ms : List Peer)
    → living_part (with_link (living_part w) i j ms) ≡ living_part (with_link w i j ms)
unfolding with_link
part-link w i j ms =
    ap (λ (ss : List ServerState). record w {
      servers = ss;
      links = blank_links (has w.failed)
          (with_messages (blank_links (has w.failed) w.links) i j ms);
    }) (blanked_twice nobody (has w.failed) w.servers)
    ∙ ap (λ (rows : Rows). record w { servers = blanked nobody (has w.failed) w.servers; links = rows })
    (links-set (has w.failed) w.links i j ms)

part-unseen : (w : World) (i j : ℕ) (ms : List Peer) → has w.failed j ≡ true
    → living_part (with_link w i j ms) ≡ living_part w
unfolding with_link
part-unseen w i j ms h = ap (λ (rows : Rows). record w
    { servers = blanked nobody (has w.failed) w.servers; links = rows }) (links-unseen (has w.failed) w.links i j ms h)

part-connection : (w : World) (c : ℕ) (change : Connection → Connection)
    → with_connection (living_part w) c change ≡ living_part (with_connection w c change)
unfolding with_connection
part-connection w c change = refl

-- ---- outputs

part-to : (w : World) (i j : ℕ) (peer : Peer)
    → living_part (put (living_part w) i (To j peer)) ≡ living_part (put w i (To j peer))
part-to w i j peer =
    elim (cases_Bool (has w.failed j)) [
      | inl t ↦ part-unseen (living_part w) i j (link (living_part w) i j ++ peer ∷ []) t ∙ part_twice w
          ∙ sym (part-unseen w i j (link w i j ++ peer ∷ []) t)
      | inr f ↦
          part-link w i j (link (living_part w) i j ++ peer ∷ [])
          ∙ ap (λ ms. living_part (with_link w i j (ms ++ peer ∷ [])))
          (link_blank w i j ∙ ap (λ b. cond b [] (link w i j)) f)
    ]

part-put : (w : World) (i : ℕ) (o : Output) → living_part (put (living_part w) i o) ≡ living_part (put w i o)
part-put w i (To j peer) = part-to w i j peer
part-put w i (Answered c reply) =
    ap living_part (part-connection w c (λ k. replied k.stage reply k))
    ∙ part_twice (with_connection w c (λ k. replied k.stage reply k))

part-put_all : (w : World) (i : ℕ) (os : List Output)
    → living_part (put_all (living_part w) i os) ≡ living_part (put_all w i os)
unfolding put_all
part-put_all w i [] = part_twice w
part-put_all w i (o ∷ os) =
    sym (part-put_all (put (living_part w) i o) i os)
    ∙ ap (λ u. living_part (put_all u i os)) (part-put w i o)
    ∙ part-put_all (put w i o) i os

-- ---- steps

-- alike worlds stay so if the same server, which lives, takes the same input
part-takes : (w : World) (i : ℕ) (input : Input) → lives w i ≡ true
    → living_part (takes (living_part w) i input) ≡ living_part (takes w i input)
part-takes w i input h =
    let a = step (server w i) input in
    ap (λ s. living_part (acted (living_part w) i (step s input))) (server_same w i h)
    ∙ sym (part-put_all (with_server (living_part w) i a.state) i a.outputs)
    ∙ ap (λ u. living_part (put_all u i a.outputs)) (part-server w i a.state)
    ∙ part-put_all (with_server w i a.state) i a.outputs

lives_linked : (w : World) (i j k : ℕ) (ms : List Peer) → lives (with_link w i j ms) k ≡ lives w k
unfolding with_link
lives_linked w i j k ms = refl

lives_connected : (w : World) (c k : ℕ) (change : Connection → Connection)
    → lives (with_connection w c change) k ≡ lives w k
unfolding with_connection
lives_connected w c k change = refl

part-taken : (u v : World) (i : ℕ) (input : Input) → lives u i ≡ true → lives v i ≡ true
    → living_part u ≡ living_part v → living_part (takes u i input) ≡ living_part (takes v i input)
part-taken u v i input a b same =
    sym (part-takes u i input a) ∙ ap (λ x. living_part (takes x i input)) same ∙ part-takes v i input b

part-sent_in : (w : World) (c home : ℕ) (o : Option Call) → lives w home ≡ true
    → living_part (sent_in (living_part w) c home o) ≡ living_part (sent_in w c home o)
part-sent_in w c home None h = part_twice w
part-sent_in w c home (Some call) h =
    ap (λ u. living_part (takes u home (Called c call))) (part-connection w c asked)
    ∙ part-takes (with_connection w c asked) home (Called c call) (lives_connected w c home asked ∙ h)

part-worked : (w : World) (c : ℕ) (o : Option Connection)
    → living_part (worked (living_part w) c o) ≡ living_part (worked w c o)
part-worked w c None = part_twice w
part-worked w c (Some k) =
    elim (cases_Bool (lives w k.home)) [
      | inl t ↦
          ap (λ b. living_part (cond b (sent_in (living_part w) c k.home (to_work k.stage k)) (living_part w)))
          (lives_same w k.home ∙ t)
          ∙ part-sent_in w c k.home (to_work k.stage k) t
          ∙ ap (λ b. living_part (cond b (sent_in w c k.home (to_work k.stage k)) w)) (sym t)
      | inr f ↦
          ap (λ b. living_part (cond b (sent_in (living_part w) c k.home (to_work k.stage k)) (living_part w)))
          (lives_same w k.home ∙ f)
          ∙ part_twice w
          ∙ ap (λ b. living_part (cond b (sent_in w c k.home (to_work k.stage k)) w)) (sym f)
    ]

delivered_dead : (w : World) (i j : ℕ) (ms : List Peer) → lives w j ≡ false → delivered w i j ms ≡ w
delivered_dead w i j [] f = refl
delivered_dead w i j (m ∷ ms) f = ap (λ b. cond b (takes (with_link w i j ms) j (From i m)) w) f

part-delivered_of : (w : World) (i j : ℕ) (ms : List Peer) → lives w j ≡ true
    → living_part (delivered (living_part w) i j ms) ≡ living_part (delivered w i j ms)
part-delivered_of w i j [] t = part_twice w
part-delivered_of w i j (m ∷ ms) t =
    ap (λ b. living_part (cond b (takes (with_link (living_part w) i j ms) j (From i m)) (living_part w)))
    (lives_same w j ∙ t)
    ∙ part-taken (with_link (living_part w) i j ms) (with_link w i j ms) j (From i m)
    (lives_linked (living_part w) i j j ms ∙ lives_same w j ∙ t) (lives_linked w i j j ms ∙ t) (part-link w i j ms)
    ∙ ap (λ b. living_part (cond b (takes (with_link w i j ms) j (From i m)) w)) (sym t)

part-delivered : (w : World) (i j : ℕ)
    → living_part (delivered (living_part w) i j (link (living_part w) i j)) ≡ living_part
    (delivered w i j (link w i j))
part-delivered w i j =
    elim (cases_Bool (lives w j)) [
      | inl t ↦ ap (λ ms. living_part (delivered (living_part w) i j ms)) (link_same w i j t)
          ∙ part-delivered_of w i j (link w i j) t
      | inr f ↦
          ap living_part (delivered_dead (living_part w) i j (link (living_part w) i j) (lives_same w j ∙ f))
          ∙ part_twice w ∙ ap living_part (sym (delivered_dead w i j (link w i j) f))
    ]

-- ---- a failure

within_union : (f : View) (i : ℕ) → Within (has f) (has (union f (single i)))
within_union f i k h = has-union f (single i) k ∙ ap (λ b. b || has (single i) k) h

part-failed : (w : World) (i : ℕ)
    → living_part (record (living_part w) { failed = union w.failed (single i) }) ≡ living_part
    (record w { failed = union w.failed (single i) })
part-failed w i =
    let f = union w.failed (single i) in
    let rows = blank_links (has f) (blank_links (has w.failed) w.links) in
    ap (λ (ss : List ServerState). record w { servers = ss; failed = f; links = rows })
    (blanked_again nobody (has f) (has w.failed) w.servers (within_union w.failed i))
    ∙ ap (λ (rs : Rows). record w { servers = blanked nobody (has f) w.servers; failed = f; links = rs })
    (links_again (has f) (has w.failed) w.links (within_union w.failed i))

part-fail : (w : World) (i : ℕ) → living_part (happens (living_part w) (Fail i)) ≡ living_part (happens w (Fail i))
part-fail w i =
    elim (cases_Bool (lives w i)) [
      | inl t ↦
          ap (λ b. living_part (cond b (record (living_part w) { failed = union w.failed (single i) })
          (living_part w))) (lives_same w i ∙ t)
          ∙ part-failed w i
          ∙ ap (λ b. living_part (cond b (record w { failed = union w.failed (single i) }) w)) (sym t)
      | inr f ↦
          ap (λ b. living_part (cond b (record (living_part w) { failed = union w.failed (single i) })
          (living_part w))) (lives_same w i ∙ f)
          ∙ part_twice w
          ∙ ap (λ b. living_part (cond b (record w { failed = union w.failed (single i) }) w)) (sym f)
    ]

-- ---- a notice

told_same : (w : World) (i j : ℕ)
    → (lives (living_part w) i && has_failed (living_part w) j) ≡ (lives w i && has_failed w j)
told_same w i j = ap (λ b. b && has_failed (living_part w) j) (lives_same w i)
    ∙ ap (λ b. lives w i && b) (failed_same w j)

part-tell : (w : World) (i j : ℕ)
    → living_part (happens (living_part w) (Tell i j)) ≡ living_part (happens w (Tell i j))
part-tell w i j =
    elim (cases_Bool (lives w i && has_failed w j)) [
      | inl t ↦
          ap (λ b. living_part (cond b (takes (living_part w) i (Gone j)) (living_part w))) (told_same w i j ∙ t)
          ∙ part-takes w i (Gone j) (and_parts (lives w i) (has_failed w j) t).0
          ∙ ap (λ b. living_part (cond b (takes w i (Gone j)) w)) (sym t)
      | inr f ↦
          ap (λ b. living_part (cond b (takes (living_part w) i (Gone j)) (living_part w))) (told_same w i j ∙ f)
          ∙ part_twice w
          ∙ ap (λ b. living_part (cond b (takes w i (Gone j)) w)) (sym f)
    ]

-- ---- events of connections

part-served : (w : World) (c : ℕ) (change : Connection → Connection)
    → living_part (with_connection (living_part w) c (where_home_lives (living_part w) change)) ≡ living_part
    (with_connection w c (where_home_lives w change))
part-served w c change =
    ap (λ n. living_part (with_connection (living_part w) c
    (λ k. cond (nat_lt k.home n && not (has w.failed k.home)) (change k) k))) (count_same w)
    ∙ ap living_part (part-connection w c (where_home_lives w change))
    ∙ part_twice (with_connection w c (where_home_lives w change))

-- an event does the same to a world and to its living part, as far as that counts
part-happens : (w : World) (e : Event) → living_part (happens (living_part w) e) ≡ living_part (happens w e)
part-happens w (Piece c bytes) = part-served w c (came bytes)
part-happens w (Begin c) = part-served w c (λ k. begun k.stage k)
part-happens w (Work c) = part-worked w c (slice_get w.connections c)
part-happens w (Deliver i j) = part-delivered w i j
part-happens w (Fail i) = part-fail w i
part-happens w (Tell i j) = part-tell w i j
part-happens w (Hand c) = part-served w c (λ k. handed k.stage k)

-- alike worlds stay so
pub alike_happen : (u v : World) (e : Event) → living_part u ≡ living_part v
    → living_part (happens u e) ≡ living_part (happens v e)
alike_happen u v e same = sym (part-happens u e) ∙ ap (λ x. living_part (happens x e)) same ∙ part-happens v e

-- ---- which server steps

part-works : (w : World) (o : Option Connection) → works_at (living_part w) o ≡ works_at w o
part-works w None = refl
part-works w (Some k) = ap (λ b. cond b (takes_call k.home (to_work k.stage k)) None) (lives_same w k.home)

delivers_same : (w : World) (i j : ℕ)
    → (lives (living_part w) j && not (is_empty (link (living_part w) i j))) ≡
    (lives w j && not (is_empty (link w i j)))
delivers_same w i j =
    elim (cases_Bool (lives w j)) [
      | inl t ↦
          ap (λ b. b && not (is_empty (link (living_part w) i j))) (lives_same w j)
          ∙ ap (λ ms. lives w j && not (is_empty ms)) (link_same w i j t)
      | inr f ↦
          ap (λ b. b && not (is_empty (link (living_part w) i j))) (lives_same w j ∙ f)
          ∙ ap (λ b. b && not (is_empty (link w i j))) (sym f)
    ]

part-steps : (w : World) (e : Event) → steps_at (living_part w) e ≡ steps_at w e
part-steps w (Piece c bytes) = refl
part-steps w (Begin c) = refl
part-steps w (Work c) = part-works w (slice_get w.connections c)
part-steps w (Deliver i j) = ap (λ b. cond b (Some j) None) (delivers_same w i j)
part-steps w (Fail i) = refl
part-steps w (Tell i j) = ap (λ b. cond b (Some i) None) (told_same w i j)
part-steps w (Hand c) = refl

-- in alike worlds the same server steps
pub alike_step : (u v : World) (e : Event) → living_part u ≡ living_part v → steps_at u e ≡ steps_at v e
alike_step u v e same = sym (part-steps u e) ∙ ap (λ x. steps_at x e) same ∙ part-steps v e

-- ---- what is shown

below_same : (n : ℕ) (f g : ℕ → Bool) → ((i : ℕ) → f i ≡ g i) → all_below n f ≡ all_below n g
below_same zero f g h = refl
below_same (suc n) f g h = ap (λ b. b && f n) (below_same n f g h) ∙ ap (λ b. all_below n g && b) (h n)

quiet_server : (w : World) (j : ℕ) → lives w j ≡ true → is_server_quiet (living_part w) j ≡ is_server_quiet w j
quiet_server w j h =
    ap (λ b. b && (server (living_part w) j).view == w.failed)
    (ap (λ n. all_below n (λ i. is_empty (link (living_part w) i j))) (count_same w)
    ∙ below_same (length w.servers) (λ i. is_empty (link (living_part w) i j)) (λ i. is_empty (link w i j))
    (λ i. ap is_empty (link_same w i j h)))
    ∙ ap (λ (s : ServerState). all_below (length w.servers) (λ i. is_empty (link w i j)) && s.view == w.failed)
    (server_same w j h)

quiet_one : (w : World) (j : ℕ)
    → (not (lives (living_part w) j) || is_server_quiet (living_part w) j) ≡ (not (lives w j) || is_server_quiet w j)
quiet_one w j =
    elim (cases_Bool (lives w j)) [
      | inl t ↦ ap (λ b. not b || is_server_quiet (living_part w) j) (lives_same w j)
          ∙ ap (λ b. not (lives w j) || b) (quiet_server w j t)
      | inr f ↦
          ap (λ b. not b || is_server_quiet (living_part w) j) (lives_same w j ∙ f)
          ∙ ap (λ b. not b || is_server_quiet w j) (sym f)
    ]

part-quiet : (w : World) → is_quiet (living_part w) ≡ is_quiet w
part-quiet w =
    let waiting = λ (n : ℕ). list_all
    (λ (k : Connection). not ((nat_lt k.home n && not (has w.failed k.home)) && waits k.stage)) w.connections in
    ap (λ n. all_below n (λ j. not (lives (living_part w) j) || is_server_quiet (living_part w) j) && waiting n)
    (count_same w)
    ∙ ap (λ b. b && waiting (length w.servers))
    (below_same (length w.servers) (λ j. not (lives (living_part w) j) || is_server_quiet (living_part w) j)
    (λ j. not (lives w j) || is_server_quiet w j) (quiet_one w))

-- alike worlds show the same
pub alike_shown : (u v : World) → living_part u ≡ living_part v → transcript_of u ≡ transcript_of v
alike_shown u v same = sym (shown u) ∙ ap transcript_of same ∙ shown v
  where
    shown : (w : World) → transcript_of (living_part w) ≡ transcript_of w
    shown w = ap (λ (b : Bool). let t : TranscriptShown = record
        { connections = map connection_shown w.connections; quiet = b } in t) (part-quiet w)
