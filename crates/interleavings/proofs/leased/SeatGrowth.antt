-- A seat stays at its server, and its calls and replies only grow, whatever moves do.
use Rattle.std.proofs.Common.{◌≡◌, ℕ, Bool, true, false, cond, List, [], ◌∷◌, ◌++◌, refl, ap, sym, ◌∙◌}
use Rattle.std.proofs.Common.{subst, append-nil, append_assoc, inl, inr}
use Rattle.std.specs.Prelude.{not, ◌&&◌}
use Rattle.std.proofs.lemmas.Bool.{cases_eq}
use Rattle.table.specs.Items.{Item}
use Rattle.table.specs.declared.operations.Reply.{Reply}
use Rattle.node.specs.declared.looks.Look.{Look}
use Rattle.node.specs.declared.looks.Look.TheVariants.{Clean, Dirty}
use Rattle.node.specs.declared.messages.Peer.{Peer}
use Rattle.node.specs.Faces.{face_of, look_at}
use Rattle.interleavings.specs.Chains.{Seat, Chain, with_at, messages_to, replies_to}
use Rattle.interleavings.specs.Moves.{Move, Sends, Takes, Publishes, Puts, Arrives, Replies, Receives, Looks, Stops}
use Rattle.interleavings.specs.Moves.{Notices, is_free, received, looked, put, arrived, reply_put, done, moved_from}
use Rattle.interleavings.specs.LeasedMoves.{with_leases}
use Rattle.interleavings.specs.LeasedOrders.{IsBegunBy}
use Rattle.interleavings.proofs.lists.ChangedFunctions.{at_same, at_other}

-- ---- lists that begin others

pub begun_same : {X : Type 0} (xs : List X) → IsBegunBy xs xs
begun_same xs = record { more = []; all = sym (append-nil xs) }

pub begun_more : {X : Type 0} (xs more : List X) → IsBegunBy (xs ++ more) xs
begun_more xs more = record { more = more; all = refl }

pub begun_then : {X : Type 0} (xs ys zs : List X) → IsBegunBy xs ys → IsBegunBy ys zs → IsBegunBy xs zs
begun_then xs ys zs a b = record {
  more = b.more ++ a.more;
  all = a.all ∙ ap (λ us. us ++ a.more) b.all ∙ append_assoc zs b.more a.more;
}

-- ---- seats

-- The seat t is what s has become.
pub record SeatGrows (s t : Seat) : Type 0 where
  pub home : t.home ≡ s.home
  pub calls : IsBegunBy t.calls s.calls
  pub got : IsBegunBy t.got s.got

pub seat_same : (s : Seat) → SeatGrows s s
seat_same s = record { home = refl; calls = begun_same s.calls; got = begun_same s.got }

pub seat_then : (s t u : Seat) → SeatGrows s t → SeatGrows t u → SeatGrows s u
seat_then s t u a b = record {
  home = b.home ∙ a.home;
  calls = begun_then u.calls t.calls s.calls b.calls a.calls;
  got = begun_then u.got t.got s.got b.got a.got;
}

-- all seats of the chain l have grown to those of k
abbrev pub AllGrow : Chain → Chain → Type 0
AllGrow l k = (c : ℕ) → SeatGrows (l.seats c) (k.seats c)

-- ---- what a move does

module _ (l : Chain) where
  all_same : AllGrow l l
  all_same c = seat_same (l.seats c)

  by_test : (b : Bool) (k : Chain) → AllGrow l k → AllGrow l (cond b k l)
  by_test true k g = g
  by_test false k g = all_same

  by_other_test : (b : Bool) (k : Chain) → AllGrow l k → AllGrow l (cond b l k)
  by_other_test true k g = all_same
  by_other_test false k g = g

  -- one seat has become this one
  pub one_grows : (c : ℕ) (t : Seat)
      → SeatGrows (l.seats c) t
      → (d : ℕ)
      → SeatGrows (l.seats d) (with_at l.seats c t d)
  one_grows c t g d = elim (cases_eq d c) [
    | inl same ↦ rw same (subst (λ u. SeatGrows (l.seats c) u) (sym (at_same l.seats c t)) g)
    | inr other ↦ subst (λ u. SeatGrows (l.seats d) u) (sym (at_other l.seats c t d other)) (seat_same (l.seats d))
  ]

  received_grows : (c : ℕ) (rs : List Reply) → AllGrow l (received l c (l.seats c) rs)
  received_grows c [] = all_same
  received_grows c (reply ∷ more) =
      let s = l.seats c in
      one_grows c (record s { got = s.got ++ reply ∷ []; queued = more })
      (record { home = refl; calls = begun_same s.calls; got = begun_more s.got (reply ∷ []) })

  looked_grows : (c : ℕ) (key : List ℕ) (look : Look Item) → AllGrow l (looked l c (l.seats c) key look)
  looked_grows c key (Clean item) =
      one_grows c _ (record {
        home = refl;
        calls = begun_more (l.seats c).calls _;
        got = begun_more (l.seats c).got _;
      })
  looked_grows c key Dirty = all_same

  put_grows : (i j : ℕ) (ms : List Peer) → AllGrow l (put l i j ms)
  put_grows i j [] = all_same
  put_grows i j (m ∷ ms) = all_same

  arrived_grows : (i j : ℕ) (ms : List Peer) → AllGrow l (arrived l i j ms)
  arrived_grows i j [] = all_same
  arrived_grows i j (m ∷ ms) = all_same

  reply_put_grows : (i c : ℕ) (rs : List Reply) → AllGrow l (reply_put l i c (l.seats c) rs)
  reply_put_grows i c [] = all_same
  reply_put_grows i c (reply ∷ more) =
      let s = l.seats c in
      one_grows c (record s { queued = s.queued ++ reply ∷ [] })
      (record { home = refl; calls = begun_same s.calls; got = begun_same s.got })

  pub done_grows : (m : Move) → AllGrow l (done l m)
  done_grows (Sends c call) =
      let s = l.seats c in
      by_test (is_free s) _ (one_grows c (record s { calls = s.calls ++ call ∷ [] })
      (record { home = refl; calls = begun_more s.calls (call ∷ []); got = begun_same s.got }))
  done_grows (Takes i sender) = all_same
  done_grows (Publishes i) = all_same
  done_grows (Puts i j) =
      by_other_test (l.servers i).stopped _ (put_grows i j (messages_to j (l.servers i).outbox))
  done_grows (Arrives i j) = arrived_grows i j (l.channels i j)
  done_grows (Replies i c) =
      by_other_test (l.servers i).stopped _ (reply_put_grows i c (replies_to c (l.servers i).outbox))
  done_grows (Receives c) = received_grows c (l.seats c).queued
  done_grows (Looks c key) =
      let s = l.seats c in
      by_test (is_free s && not (l.servers s.home).stopped) _
      (looked_grows c key (look_at (face_of (l.servers s.home).node) key))
  done_grows (Stops i) = all_same
  done_grows (Notices i j) = by_test _ _ all_same

  -- and so with leases
  pub leased_grows : (called : ℕ → Bool) (m : Move) → AllGrow l (with_leases called l m)
  leased_grows called (Sends c call) = done_grows (Sends c call)
  leased_grows called (Takes i sender) = done_grows (Takes i sender)
  leased_grows called (Publishes i) = done_grows (Publishes i)
  leased_grows called (Puts i j) = done_grows (Puts i j)
  leased_grows called (Arrives i j) = done_grows (Arrives i j)
  leased_grows called (Replies i c) = done_grows (Replies i c)
  leased_grows called (Receives c) = done_grows (Receives c)
  leased_grows called (Looks c key) = done_grows (Looks c key)
  leased_grows called (Stops i) = done_grows (Stops i)
  leased_grows called (Notices i j) = by_test _ _ all_same

-- ---- runs

pub moved_grows : (ms : List Move) (l : Chain) → AllGrow l (moved_from l ms)
moved_grows [] l c = seat_same (l.seats c)
moved_grows (m ∷ ms) l c =
    seat_then (l.seats c) ((done l m).seats c) ((moved_from (done l m) ms).seats c) (done_grows l m c)
    (moved_grows ms (done l m) c)
