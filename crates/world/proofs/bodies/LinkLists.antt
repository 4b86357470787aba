-- Messages on a link: one more at its end, and the first of them delivered.
use Rattle.std.proofs.Common.{◌≡◌, ℕ, Bool, true, cond, List, [], ◌∷◌, ◌++◌, drop, get_or, set, None, Some, refl, sym}
use Rattle.std.proofs.Common.{◌∙◌, ap, subst}
use Rattle.std.specs.Prelude.{slice_get}
use Rattle.std.proofs.lemmas.List.{set-get_or}
use Rattle.node.specs.declared.messages.Peer.{Peer}
use Rattle.node.specs.declared.messages.Input.TheVariants.{From}
use Rattle.node.specs.Lawful.{IsBody}
use Rattle.world.specs.Links.{AreMessages, messages_between, with_messages}
use Rattle.world.specs.Worlds.{World, lives, link, with_link, takes, delivered}

-- messages that may be given to a server, with one more at the end that may be
pub messages_more : (ms : List Peer) (m : Peer) → AreMessages ms → IsBody m.body → AreMessages (ms ++ m ∷ [])
messages_more [] m are is = (is, tt)
messages_more (x ∷ ms) m are is = (are.0, messages_more ms m are.1 is)

first_delivered : (w : World) (i j : ℕ) (ms : List Peer) (m : Peer)
    → lives w j ≡ true
    → Some m ≡ slice_get ms 0
    → takes (with_link w i j (drop 1 ms)) j (From i m) ≡ delivered w i j ms
first_delivered w i j [] m alive here = cc
first_delivered w i j (x ∷ ms) m alive here =
    let same : m ≡ x = cc in
    ap (λ (n : Peer). takes (with_link w i j ms) j (From i n)) same
    ∙ ap (λ (b : Bool). cond b (takes (with_link w i j ms) j (From i x)) w) (sym alive)

link_left : (w : World) (i j : ℕ)
    → record w { links = with_messages w.links i j (drop 1 (messages_between w.links i j)) }
    ≡ with_link w i j (drop 1 (link w i j))
unfolding with_link link
link_left w i j = refl

link_between : (w : World) (i j : ℕ) → messages_between w.links i j ≡ link w i j
unfolding link
link_between w i j = refl

one_delivered : (w : World) (i j : ℕ) (m : Peer) (left : List (List (List Peer)))
    → lives w j ≡ true
    → Some m ≡ slice_get (messages_between w.links i j) 0
    → left ≡ with_messages w.links i j (drop 1 (messages_between w.links i j))
    → takes (record w { links = left }) j (From i m) ≡ delivered w i j (link w i j)
one_delivered w i j m left alive here is =
    ap (λ (ls : List (List (List Peer))). takes (record w { links = ls }) j (From i m)) is
    ∙ ap (λ (u : World). takes u j (From i m)) (link_left w i j)
    ∙ first_delivered w i j (link w i j) m alive (here ∙ ap (λ ms. slice_get ms 0) (link_between w i j))

-- the first message of a link, taken off and given to a server that lives
pub message_delivered : (v w : World)
    → v ≡ w
    → (i j : ℕ) (m : Peer) (left : List (List (List Peer)))
    → lives w j ≡ true
    → Some m ≡ slice_get (messages_between v.links i j) 0
    → left ≡ with_messages v.links i j (drop 1 (messages_between v.links i j))
    → takes (record v { links = left }) j (From i m) ≡ delivered w i j (link w i j)
message_delivered v w same i j m left alive here is =
    subst (λ (x : World). lives x j ≡ true → takes (record v { links = left }) j (From i m)
    ≡ delivered x i j (link x i j)) same
    (λ alive. one_delivered v i j m left alive here is) alive

none_left : (ms : List Peer) → None ≡ slice_get ms 0 → ms ≡ []
none_left [] none = refl
none_left (m ∷ ms) none = cc

nothing_delivered : (w : World) (i j : ℕ) (left : List (List (List Peer)))
    → None ≡ slice_get (messages_between w.links i j) 0
    → left ≡ with_messages w.links i j (drop 1 (messages_between w.links i j))
    → record w { links = left } ≡ delivered w i j (link w i j)
nothing_delivered w i j left none is =
    let empty = none_left (messages_between w.links i j) none in
    let same : drop 1 (messages_between w.links i j) ≡ messages_between w.links i j = ap (drop 1) empty ∙ sym empty in
    let row : set (get_or w.links i []) j (messages_between w.links i j) ≡ get_or w.links i [] =
    set-get_or (get_or w.links i []) j [] in
    let kept : with_messages w.links i j (messages_between w.links i j) ≡ w.links =
    ap (set w.links i) row ∙ set-get_or w.links i [] in
    ap (λ (ls : List (List (List Peer))). record w { links = ls }) (is ∙ ap (with_messages w.links i j) same ∙ kept)
    ∙ ap (delivered w i j) (sym empty ∙ link_between w i j)

-- from a link without messages nothing is delivered
pub none_delivered : (v w : World)
    → v ≡ w
    → (i j : ℕ) (left : List (List (List Peer)))
    → None ≡ slice_get (messages_between v.links i j) 0
    → left ≡ with_messages v.links i j (drop 1 (messages_between v.links i j))
    → record v { links = left } ≡ delivered w i j (link w i j)
none_delivered v w same i j left none is =
    subst (λ (x : World). record v { links = left } ≡ delivered x i j (link x i j)) same
    (nothing_delivered v i j left none is)
