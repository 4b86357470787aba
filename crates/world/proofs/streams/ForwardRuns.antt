-- Runs of numbers, and what outputs put onto links.
use Rattle.std.proofs.Common.{◌≡◌, ◌≢◌, ℕ, zero, suc, ◌+◌, ◌<◌, ◌≤◌, Bool, true, false, List, [], ◌∷◌, ◌++◌, length}
use Rattle.std.proofs.Common.{map, drop, set, get_or, Option, Some, None, refl, arith, inl, inr, ap, sym, ◌∙◌, cond}
use Rattle.std.proofs.Common.{append_assoc}
use Rattle.std.specs.Prelude.{◌==◌, slice_get}
use Rattle.std.proofs.lemmas.Bool.{cond_both, cases_eq, eq-eqb, ne_eqb}
use Rattle.std.proofs.lemmas.List.{length-set, get_or-set_same, get_or-set_other, append-nil}
use Rattle.table.specs.declared.operations.Reply.{Reply}
use Rattle.versions.specs.Entries.{LogEntry}
use Rattle.versions.specs.Stores.{IsLog}
use Rattle.node.specs.declared.servers.OpenUpdate.{OpenUpdate}
use Rattle.node.specs.declared.messages.Body.{Body}
use Rattle.node.specs.declared.messages.Body.TheVariants.{Forward}
use Rattle.node.specs.declared.messages.Peer.{Peer}
use Rattle.node.specs.declared.messages.Output.{Output}
use Rattle.node.specs.declared.messages.Output.TheVariants.{To, Reply as Replied}
use Rattle.node.specs.Servers.{ServerState, message_to}
use Rattle.node.specs.Numbering.{open_update, replied, reply_to}
use Rattle.world.specs.Connections.{Connection}
use Rattle.world.specs.Worlds.{World, link, with_link, with_connection, put, put_all}
use Rattle.node.proofs.Lists.{In}
use Rattle.world.proofs.trace.WorldLaws.{link_cases, link-with_connection}
use Rattle.world.proofs.streams.Streaming.{forwarded_number, brought, IsRun, sent_to}

-- ---- runs

-- a run up to a number and one from there on are one run
pub run-append : (xs ys : List ℕ) (f m n : ℕ) → IsRun f m xs → IsRun m n ys → IsRun f n (xs ++ ys)
run-append [] ys f m n h g = rw h g
run-append (x ∷ xs) ys f m n h g = (h.0, run-append xs ys (f + 1) m n h.1 g)

-- the same run under other names
pub run_as : (f g n m : ℕ) (xs ys : List ℕ) → f ≡ g → m ≡ n → ys ≡ xs → IsRun f n xs → IsRun g m ys
run_as f g n m xs ys a b c h = rw (← a, b, c) h

-- a run doesn't fall
pub run_up : (xs : List ℕ) (f n : ℕ) → IsRun f n xs → f ≤ n
run_up [] f n h = omega (arith, h)
run_up (x ∷ xs) f n h = omega (arith, run_up xs (f + 1) n h.1)

-- ---- what messages and outputs bring

-- two lists of messages bring what the first brings, and then what the second does
pub brought-append : (picked : Body → List ℕ) (ms ns : List Peer)
    → brought picked (ms ++ ns) ≡ brought picked ms ++ brought picked ns
brought-append picked [] ns = refl
brought-append picked (m ∷ ms) ns = ap (λ ks. picked m.body ++ ks) (brought-append picked ms ns)
    ∙ sym (append_assoc (picked m.body) (brought picked ms) (brought picked ns))

sent_step : (b : Bool) (m : Peer) (ms ns all : List Peer)
    → all ≡ ms ++ ns
    → cond b (m ∷ all) all ≡ cond b (m ∷ ms) ms ++ ns
sent_step true m ms ns all h = ap (λ rest. m ∷ rest) h
sent_step false m ms ns all h = h

-- of two lists of outputs there goes to server y what goes of the first, and then of the second
pub sent_to-append : (y : ℕ) (os ps : List Output) → sent_to y (os ++ ps) ≡ sent_to y os ++ sent_to y ps
sent_to-append y [] ps = refl
sent_to-append y (To j m ∷ os) ps = sent_step (j == y) m (sent_to y os) (sent_to y ps) _ (sent_to-append y os ps)
sent_to-append y (Replied c reply ∷ os) ps = sent_to-append y os ps

-- what these outputs bring to server y
abbrev pub brought_to : (Body → List ℕ) → ℕ → List Output → List ℕ
brought_to picked y os = brought picked (sent_to y os)

-- two lists of outputs bring to server y what the first brings, and then what the second does
pub brought_to-append : (picked : Body → List ℕ) (y : ℕ) (os ps : List Output)
    → brought_to picked y (os ++ ps) ≡ brought_to picked y os ++ brought_to picked y ps
brought_to-append picked y os ps =
    ap (λ ms. brought picked ms) (sent_to-append y os ps) ∙ brought-append picked (sent_to y os) (sent_to y ps)

none_step : (picked : Body → List ℕ) (b : Bool) (m : Peer)
    → picked m.body ≡ []
    → brought picked (cond b (m ∷ []) []) ≡ []
none_step picked true m h = rw h refl
none_step picked false m h = refl

-- a message of another kind brings nothing
pub none_brought : (picked : Body → List ℕ) (s : ServerState) (y : ℕ) (o : Option ℕ) (body : Body)
    → picked body ≡ []
    → brought_to picked y (message_to s o body) ≡ []
none_brought picked s y None body h = refl
none_brought picked s y (Some j) body h = none_step picked (j == y) (record { view = s.view; body = body }) h

-- and so does a reply
reply_none : (picked : Body → List ℕ) (y : ℕ) (reply : Reply) (u : Option OpenUpdate)
    → brought_to picked y (replied reply u) ≡ []
reply_none picked y reply None = refl
reply_none picked y reply (Some u) = refl

-- the reply to a closed call brings no server anything
pub closed_none : (picked : Body → List ℕ) (y id : ℕ) (pend : List OpenUpdate) (e : LogEntry)
    → brought_to picked y (reply_to id pend e) ≡ []
closed_none picked y id pend e =
    cond_both (e.origin == id) _ _ (λ (os : List Output). brought_to picked y os ≡ [])
    (λ t. reply_none picked y e.reply (open_update pend e.id)) (λ f. refl)

-- the numbers of the entries that go to server y
abbrev pub numbers_to : ℕ → List Output → List ℕ
numbers_to y os = brought_to forwarded_number y os

-- a forward to server y brings it the entry's number
pub number_there : (s : ServerState) (y : ℕ) (o : Option ℕ) (e : LogEntry)
    → o ≡ Some y
    → numbers_to y (message_to s o (Forward e)) ≡ e.number ∷ []
number_there s y o e h = rw (h, eq-eqb y y refl) refl

-- what goes out to y is among what is sent to it
in_step : (b : Bool) (m n : Peer) (ms : List Peer) → In m ms → In m (cond b (n ∷ ms) ms)
in_step true m n ms h = (suc h.0, h.1)
in_step false m n ms h = h

-- a message to server y that is put out is among those that go to it
pub in_sent : (y : ℕ) (m : Peer) (os : List Output) (k : ℕ) → slice_get os k ≡ Some (To y m) → In m (sent_to y os)
in_sent y m [] k h = absurd cc
in_sent y m (To j n ∷ os) zero h =
    let to : j ≡ y = cc in let same : n ≡ m = cc in rw (to, same, eq-eqb y y refl) (0, refl)
in_sent y m (To j n ∷ os) (suc k) h = in_step (j == y) m n _ (in_sent y m os k h)
in_sent y m (Replied c reply ∷ os) zero h = absurd cc
in_sent y m (Replied c reply ∷ os) (suc k) h = in_sent y m os k h

-- ---- links

-- there is a link from i to j
pub record HasLink (w : World) (i j : ℕ) : Type 0 where
  pub row : i < length w.links
  pub ordinal : j < length (get_or w.links i [])

-- a link that is there holds the messages that are put on it
pub same_link : (w : World) (i j : ℕ) (ms : List Peer) → HasLink w i j → link (with_link w i j ms) i j ≡ ms
unfolding link with_link
same_link w i j ms h =
    rw (get_or-set_same w.links i _ [] h.row) (get_or-set_same (get_or w.links i []) j ms [] h.ordinal)

-- the row of a server after a change of one of its links
abbrev set_row : World → ℕ → ℕ → List Peer → List (List Peer)
set_row w i j ms = set (get_or w.links i []) j ms

other_link : (w : World) (i j y : ℕ) (ms : List Peer) → y ≢ j → link (with_link w i j ms) i y ≡ link w i y
other_link w i j y ms other = elim (link_cases w i j i y ms) [ inl c ↦ absurd (other c.1) | inr e ↦ e ]

-- other messages on a link leave each link where it is
pub has_link-with_link : (w : World) (i j x y : ℕ) (ms : List Peer) → HasLink w x y → HasLink (with_link w i j ms) x y
unfolding with_link
has_link-with_link w i j x y ms h = record {
  row = rw (length-set w.links i (set_row w i j ms)) h.row;
  ordinal = elim (cases_eq x i) [
    | inl same ↦ rw (
      same,
      get_or-set_same w.links i (set_row w i j ms) [] (rw same at h.row),
      length-set (get_or w.links i []) j ms,
    ) (rw same at h.ordinal)
    | inr other ↦ rw (get_or-set_other w.links i x (set_row w i j ms) [] other) h.ordinal
  ];
}

put_one : (w : World) (i j y : ℕ) (m : Peer)
    → HasLink w i y
    → link (put w i (To j m)) i y ≡ link w i y ++ cond (j == y) (m ∷ []) []
put_one w i j y m h = elim (cases_eq j y) [
  | inl same ↦ rw (same, eq-eqb y y refl) (same_link w i y (link w i y ++ m ∷ []) h)
  | inr other ↦ rw (ne_eqb j y other) (other_link w i j y _ (λ e. other (sym e)) ∙ sym (append-nil (link w i y)))
]

first_step : (b : Bool) (m : Peer) (old ms : List Peer) → (old ++ cond b (m ∷ []) []) ++ ms ≡ old ++ cond b (m ∷ ms) ms
first_step true m old ms = append_assoc old (m ∷ []) ms
first_step false m old ms = append_assoc old [] ms

-- a changed connection leaves each link where it is
pub has_link-with_connection : (w : World) (c : ℕ) (change : Connection → Connection) (x y : ℕ)
    → HasLink w x y
    → HasLink (with_connection w c change) x y
unfolding with_connection
has_link-with_connection w c change x y h = record { row = h.row; ordinal = h.ordinal }

-- what a server puts out to y goes after what stands on its link to y
pub link-put_all_to : (w : World) (i : ℕ) (os : List Output) (y : ℕ)
    → HasLink w i y
    → link (put_all w i os) i y ≡ link w i y ++ sent_to y os
unfolding put_all
link-put_all_to w i [] y h = sym (append-nil (link w i y))
link-put_all_to w i (To j m ∷ os) y h =
    link-put_all_to (put w i (To j m)) i os y (has_link-with_link w i j i y _ h)
    ∙ ap (λ ms. ms ++ sent_to y os) (put_one w i j y m h) ∙ first_step (j == y) m (link w i y) (sent_to y os)
link-put_all_to w i (Replied c reply ∷ os) y h =
    link-put_all_to (put w i (Replied c reply)) i os y (has_link-with_connection w c _ i y h)
    ∙ ap (λ ms. ms ++ sent_to y os) (link-with_connection w c _ i y)

-- and the links from others stay
pub link-put_all_from : (w : World) (i : ℕ) (os : List Output) (x y : ℕ)
    → x ≢ i
    → link (put_all w i os) x y ≡ link w x y
unfolding put_all
link-put_all_from w i [] x y other = refl
link-put_all_from w i (To j m ∷ os) x y other = link-put_all_from (put w i (To j m)) i os x y other
    ∙ elim (link_cases w i j x y (link w i j ++ m ∷ [])) [ inl c ↦ absurd (other c.0) | inr e ↦ e ]
link-put_all_from w i (Replied c reply ∷ os) x y other =
    link-put_all_from (put w i (Replied c reply)) i os x y other ∙ link-with_connection w c _ x y
