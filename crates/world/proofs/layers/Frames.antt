-- Each move keeps a world's shape: how many servers, links, logs there are, what servers know to have failed, where
-- messages go, and that calls fit.
use Rattle.std.proofs.Common.{◌≡◌, ℕ, zero, suc, ◌<◌, true, false, List, [], ◌∷◌, ◌++◌, length, set, get_or, Some, refl}
use Rattle.std.proofs.Common.{arith, ◌⊎◌, inl, inr, ap, sym, ◌∙◌, subst}
use Rattle.std.specs.Prelude.{slice_get}
use Rattle.std.proofs.lemmas.Bool.{both_ways, cases_eq, or_cases, false_from_ne_true}
use Rattle.std.proofs.lemmas.List.{length-set}
use Rattle.std.proofs.lemmas.Option.{same_Some, slice_get-get_or}
use Rattle.table.specs.declared.operations.Call.{Call}
use Rattle.versions.specs.Entries.{LogEntry}
use Rattle.node.specs.declared.messages.Peer.{Peer}
use Rattle.node.specs.declared.messages.Input.TheVariants.{From, Gone}
use Rattle.node.specs.declared.messages.Output.{Output}
use Rattle.node.specs.declared.messages.Output.TheVariants.{To, Reply as Answered}
use Rattle.node.specs.Views.{View, has}
use Rattle.node.specs.Servers.{ServerState}
use Rattle.node.specs.Numbering.{appended, entered}
use Rattle.node.specs.Reading.{asked as asking}
use Rattle.node.specs.Joining.{widened}
use Rattle.node.specs.Steps.{trimmed}
use Rattle.node.specs.Lawful.{IsCall}
use Rattle.world.specs.Connections.{Connection}
use Rattle.world.specs.Worlds.{World, server, link, with_server, with_link, with_connection, put, put_all}
use Rattle.node.proofs.Lists.{In}
use Rattle.node.specs.Actions.{Action, Widen, Append, Reach, Settle, Send, Finish, Trim, Enter, Ask, Show, Cause, Guard}
use Rattle.node.specs.Actions.{IsBrought, act}
use Rattle.world.proofs.trace.Traces.{Traced, count, done}
use Rattle.world.proofs.trace.Layers.{Later, IsAddressed, Framed, IsKnown}
use Rattle.world.proofs.trace.IdLaws.{has-union, has_single, living_parts}
use Rattle.world.proofs.trace.LaterLaws.{grown_done}
use Rattle.world.proofs.layers.Addressed.{addressed_later, addressed_sent}
use Rattle.world.proofs.trace.Moves.{CanDo}
use Rattle.world.proofs.trace.TraceLaws.{appends, enters, same_calls, count_done, failed_done, server_done}
use Rattle.world.proofs.trace.TraceLaws.{server_other, link_done, connection_before}

-- ---- the rows of links

-- a row of links is an old one, or the one that was set
get_set : {X : Type 0} (xs : List X) (i k : ℕ) (y x : X)
    → slice_get (set xs i y) k ≡ Some x
    → (slice_get xs k ≡ Some x) ⊎ ((i < length xs) × (x ≡ y))
get_set [] i k y x h = absurd cc
get_set (z ∷ xs) zero zero y x h = inr (omega arith, sym (same_Some y x h))
get_set (z ∷ xs) zero (suc k) y x h = inl h
get_set (z ∷ xs) (suc i) zero y x h = inl h
get_set (z ∷ xs) (suc i) (suc k) y x h =
    elim (get_set xs i k y x h) [ inl g ↦ inl g | inr g ↦ inr (omega (arith, g.0), g.1) ]

-- as many rows as servers, and as many links in each
pub record IsSquare (links : List (List (List Peer))) (n : ℕ) : Type 0 where
  pub rows : length links ≡ n
  pub row : (i : ℕ) (ms : List (List Peer)) → slice_get links i ≡ Some ms → length ms ≡ n

square_set : (links : List (List (List Peer))) (n i j : ℕ) (ms : List Peer)
    → IsSquare links n
    → IsSquare (set links i (set (get_or links i []) j ms)) n
square_set links n i j ms h = record {
  rows = length-set links i _ ∙ h.rows;
  row = λ k row e. elim (get_set links i k _ row e) [
    | inl old ↦ h.row k row old
    | inr new ↦ ap (λ (r : List (List Peer)). length r) new.1 ∙ length-set (get_or links i []) j ms
        ∙ h.row i (get_or links i []) (slice_get-get_or links i [] new.0)
  ];
}

-- other messages on a link leave as many rows, and as many links in each
pub square-with_link : (w : World) (n i j : ℕ) (ms : List Peer)
    → IsSquare w.links n
    → IsSquare (with_link w i j ms).links n
unfolding with_link
square-with_link w n i j ms h = square_set w.links n i j ms h

square-put_all : (w : World) (n i : ℕ) (os : List Output) → IsSquare w.links n → IsSquare (put_all w i os).links n
unfolding put_all with_connection
square-put_all w n i [] h = h
square-put_all w n i (To j peer ∷ os) h =
    square-put_all (put w i (To j peer)) n i os (square-with_link w n i j (link w i j ++ peer ∷ []) h)
square-put_all w n i (Answered c reply ∷ os) h = square-put_all (put w i (Answered c reply)) n i os h

square_done : (t : Traced) (n i : ℕ) (a : Action) → IsSquare t.world.links n → IsSquare (done t i a).world.links n
unfolding done with_server
square_done t n i a h =
    square-put_all (with_server t.world i (act (server t.world i) a).state) n i (act (server t.world i) a).outputs h

-- a world of this shape has as many rows as servers, and as many links in each
pub square : (t : Traced) → Framed t → IsSquare t.world.links (count t)
square t f = record { rows = f.rows; row = f.row }

-- ---- a server's action

length-logs_done : (t : Traced) (i : ℕ) (a : Action) → length (done t i a).logs ≡ length t.logs
unfolding done
length-logs_done t i a = elim (appends a) [
  | inl new ↦ rw new.1 (length-set t.logs i _)
  | inr old ↦ ap (λ (logs : List (List LogEntry)). length logs) (old.1 t i)
]

length-issued_done : (t : Traced) (i : ℕ) (a : Action) → length (done t i a).issued ≡ length t.issued
unfolding done
length-issued_done t i a = elim (enters a) [
  | inl new ↦ rw new.2 (length-set t.issued i _)
  | inr old ↦ ap length ((old t).1 i)
]

-- whom a server knows to have failed after an action: who was known, or was brought by the input
view_act : (cause : Cause) (s : ServerState) (a : Action) (k : ℕ) → Guard cause s a → has (act s a).state.view k ≡ true
    → (has s.view k ≡ true) ⊎ ((v : View) × IsBrought cause v × (has v s.id ≡ false) × (has v k ≡ true))
unfolding act widened appended entered asking trimmed
view_act cause s (Widen v) k g h = elim (or_cases (has s.view k) (has v k) (rw (has-union s.view v k) at h))
    [ inl old ↦ inl old | inr new ↦ inr (v, g.0, g.1, new) ]
view_act cause s (Append e) k g h = inl h
view_act cause s (Reach n) k g h = inl h
view_act cause s (Settle e) k g h = inl h
view_act cause s (Send j body) k g h = inl h
view_act cause s (Finish r n) k g h = inl h
view_act cause s Trim k g h = inl h
view_act cause s (Enter port call) k g h = inl h
view_act cause s (Ask port key) k g h = inl h
view_act cause s (Show port key) k g h = inl h

-- what an input brings has failed
pub brought_failed : (t : Traced) (i : ℕ) (cause : Cause) (v : View) (k : ℕ)
    → Framed t
    → IsKnown t i cause
    → IsBrought cause v
    → has v k ≡ true
    → has t.world.failed k ≡ true
brought_failed t i cause v k f known (inl h) g =
    let from : IsKnown t i (Some (From h.0 h.1)) = rw h.2 at known in
    f.known h.0 k from.0.sender (from.0.part k (rw h.3 at g))
brought_failed t i cause v k f known (inr h) g =
    let gone : IsKnown t i (Some (Gone h.0)) = rw h.1 at known in
    rw (has_single h.0 k (rw h.2 at g)) gone.0

own_done : (t : Traced) (i : ℕ) (cause : Cause) (a : Action)
    → Framed t
    → CanDo t i cause a
    → (k : ℕ)
    → k < count t
    → has (server (done t i a).world k).view k ≡ false
own_done t i cause a f g k l =
    let low = (living_parts t.world i g.lives).0 in
    elim (cases_eq k i) [
      | inl same ↦ rw (same, server_done t i a low)
          (false_from_ne_true _ (λ h. elim (view_act cause (server t.world i) a i g.guard h) [
            | inl old ↦ both_ways _ (f.own i low) old
            | inr new ↦ both_ways _ (rw (f.id i low) at new.2) new.3
          ]))
      | inr other ↦ rw (server_other t i a k other) (f.own k l)
    ]

known_done : (t : Traced) (i : ℕ) (cause : Cause) (a : Action)
    → Framed t
    → CanDo t i cause a
    → (j k : ℕ)
    → j < count t
    → has (server (done t i a).world j).view k ≡ true
    → has t.world.failed k ≡ true
known_done t i cause a f g j k l h =
    let low = (living_parts t.world i g.lives).0 in
    elim (cases_eq j i) [
      | inl same ↦ elim (view_act cause (server t.world i) a k g.guard (rw (same, server_done t i a low) at h)) [
        | inl old ↦ f.known i k low old
        | inr new ↦ brought_failed t i cause new.0 k f g.known new.1 new.3
      ]
      | inr other ↦ f.known j k l (rw (server_other t i a j other) at h)
    ]

sound_done : (t : Traced) (i : ℕ) (cause : Cause) (a : Action)
    → Framed t
    → CanDo t i cause a
    → Later t (done t i a)
    → (x y : ℕ) (m : Peer)
    → In m (link (done t i a).world x y)
    → IsAddressed (done t i a) x y m
sound_done t i cause a f g later x y m h =
    elim (link_done t i a x y m h) [
      | inl old ↦ addressed_later t (done t i a) later x y m (f.sound x y m old)
      | inr new ↦ rw (new.0, new.3)
          (addressed_later t (done t i a) later i y _
          (addressed_sent t i y cause new.1 f (subst (λ b. CanDo t i cause b) new.2 g)))
    ]

calls_done : (t : Traced) (i : ℕ) (a : Action)
    → Framed t
    → (c p : ℕ) (k : Connection) (call : Call)
    → slice_get (done t i a).world.connections c ≡ Some k
    → slice_get k.calls p ≡ Some call
    → IsCall call
calls_done t i a f c p k call h g =
    let old = connection_before t i a c k h in
    let same =
    same_calls (λ (x : Connection). x.calls) (λ x stage. refl) (act (server t.world i) a).outputs c old.0 k old.2 in
    f.calls c p old.0 call old.1 (rw same at g)

-- the shape is kept by an action that its server may do
pub framed_done : (t : Traced) (i : ℕ) (cause : Cause) (a : Action)
    → Framed t
    → CanDo t i cause a
    → Later t (done t i a)
    → Framed (done t i a)
framed_done t i cause a f g later =
    let n = count_done t i a in
    let q = square_done t (count t) i a (square t f) in
    let low = (living_parts t.world i g.lives).0 in
    let grown = grown_done t i cause a low g.guard in
    record {
      most = rw n f.most;
      rows = rw n q.rows;
      row = λ k ms h. rw n (q.row k ms h);
      logs = rw n (length-logs_done t i a ∙ f.logs);
      issued = rw n (length-issued_done t i a ∙ f.issued);
      id = λ k l. (grown k).id ∙ f.id k (rw n at l);
      chain = λ k l. rw n ((grown k).count ∙ f.chain k (rw n at l));
      own = λ k l. own_done t i cause a f g k (rw n at l);
      known = λ j k l h. rw (failed_done t i a) (known_done t i cause a f g j k (rw n at l) h);
      sound = sound_done t i cause a f g later;
      calls = calls_done t i a f;
    }
