-- A look at what stands.
use Rattle.std.proofs.Common.{◌≡◌, ℕ, ◌<◌, Bool, true, false, cond, List, [], ◌∷◌, ◌++◌, Option, refl, ap, sym, ◌∙◌}
use Rattle.std.proofs.Common.{subst}
use Rattle.std.specs.Prelude.{◌==◌, ◌&&◌, not, nat_lt}
use Rattle.std.proofs.lemmas.Bool.{and_from, and_parts}
use Rattle.table.specs.Items.{Item}
use Rattle.table.specs.declared.operations.Reply.TheVariants.{Value}
use Rattle.node.specs.Faces.{face_of, look_at}
use Rattle.node.specs.declared.looks.Look.{Look}
use Rattle.node.specs.declared.looks.Look.TheVariants.{Clean, Dirty}
use Rattle.faces.specs.Histories.{History, shown_after}
use Rattle.interleavings.specs.Chains.{Seat, Chain}
use Rattle.interleavings.specs.Moves.{is_free, read_of, looked}
use Rattle.interleavings.specs.OwnPorts.{seats_at}
use Rattle.local_histories.specs.Events.{Event, Looked}
use Rattle.local_histories.specs.Objects.{OpenedChain, answers, gets, puts, published_by, goes_on, has_halted}
use Rattle.local_histories.specs.LocalRules.{HasAllReplies}
use Rattle.local_histories.specs.Standing.{read_by, read_reply, begins, begun_at, ends, ended_at, replies_in, seat_in}
use Rattle.local_histories.specs.Standing.{StandsForSeat, StandsForChain, home_of, port_of}
use Rattle.local_histories.specs.Following.{Leads}
use Rattle.local_histories.proofs.Gathering.{gathered_more, gathered_same, given_same}
use Rattle.local_histories.proofs.Keeping.{quiet, quiet_at, all_kept, one_seat, servers_kept, channels_kept}
use Rattle.local_histories.proofs.SeatPlaces.{not_there}
use Rattle.local_histories.proofs.SeatEvents.{free_seat, seat_here, seat_back, both_same}

nothing_either : {X : Type 0} (b : Bool) (xs : List X) → xs ≡ [] → cond b xs [] ≡ []
nothing_either true xs e = e
nothing_either false xs e = refl

module _ (s : OpenedChain) (es : List Event) (i q : ℕ) (key : List ℕ) (stood : History) (within : i < s.count)
    (below : q < seats_at s.homes i) (l : Chain) (h : StandsForChain s es l) where
  abbrev e : Event
  e = Looked i q key stood

  abbrev c : ℕ
  c = seat_in s.homes i q

  abbrev shown : Look Item
  shown = look_at (shown_after stood) key

  -- of a clean key it is a call with its reply
  clean : (item : Option Item)
      → shown ≡ Clean item
      → StandsForChain s (es ++ e ∷ []) (looked l c (l.seats c) key (Clean item))
  clean item is =
      let t = l.seats c in
      let here : StandsForSeat i q es t = seat_here s es i q within below l h in
      let new : Seat = record t { calls = t.calls ++ read_of key ∷ []; got = t.got ++ Value item ∷ [] } in
      let begun_now : begun_at i q (es ++ e ∷ []) ≡ begun_at i q es ++ read_of key ∷ [] =
      gathered_more (begins i q) es e ∙ ap (λ b. begun_at i q es ++ cond b (read_by key shown) []) (both_same i q)
      ∙ ap (λ x. begun_at i q es ++ read_by key x) is in
      let ended_now : ended_at i q (es ++ e ∷ []) ≡ ended_at i q es ++ Value item ∷ [] =
      gathered_more (ends i q) es e ∙ ap (λ b. ended_at i q es ++ cond b (read_reply shown) []) (both_same i q)
      ∙ ap (λ x. ended_at i q es ++ read_reply x) is in
      let seat : StandsForSeat i q (es ++ e ∷ []) new = record {
        home = here.home;
        calls = ap (λ cs. cs ++ read_of key ∷ []) here.calls ∙ sym begun_now;
        got = ap (λ rs. rs ++ Value item ∷ []) here.got ∙ sym ended_now;
        queued = ap replies_in (gathered_same (answers i q) es e refl) ∙ here.queued
            ∙ ap (λ rs. replies_in rs ++ t.queued) (sym (gathered_same (gets i q) es e refl));
      } in
      record {
        count = h.count;
        servers = servers_kept s es e l h (λ k. quiet k es e (λ p. refl) refl refl refl (λ p. refl) refl);
        channels = channels_kept s es e l h (λ k. gathered_same (puts k) es e refl) (λ k. given_same k es e refl);
        seats = one_seat s es e l h c new
            (λ d other.
            let away = not_there s i q within below d other in
            quiet_at (home_of s d) (port_of s d) es e (ap (λ b. cond b (read_by key shown) []) away)
            (ap (λ b. cond b (read_reply shown) []) away) refl refl)
            (seat_back s es i q within below l h (es ++ e ∷ []) new seat);
      }

  -- of a dirty one it is none
  dirty : shown ≡ Dirty → StandsForChain s (es ++ e ∷ []) l
  dirty is = all_kept s es e l h (λ k. quiet k es e (λ p. refl) refl refl refl (λ p. refl) refl)
      (λ j p. quiet_at j p es e
      (nothing_either (i == j && q == p) (read_by key shown) (ap (read_by key) is))
      (nothing_either (i == j && q == p) (read_reply shown) (ap read_reply is)) refl refl)

  either : (look : Look Item) → shown ≡ look → StandsForChain s (es ++ e ∷ []) (looked l c (l.seats c) key look)
  either (Clean item) is = clean item is
  either Dirty is = dirty is

pub looked_leads : (s : OpenedChain) (es : List Event) (i q : ℕ) (key : List ℕ) (stood : History)
    → i < s.count
    → q < seats_at s.homes i
    → HasAllReplies i q es
    → stood ≡ published_by s i es
    → goes_on s i es ≡ true
    → Leads s es (Looked i q key stood)
looked_leads s es i q key stood within below all is goes l h =
    let t = l.seats (seat_in s.homes i q) in
    let here : StandsForSeat i q es t = seat_here s es i q within below l h in
    let server = h.servers i within in
    let found : look_at (face_of (l.servers i).node) key ≡ look_at (shown_after stood) key =
    ap (λ n. look_at (face_of n) key) server.node ∙ ap (λ c. look_at (shown_after c) key) (sym is) in
    let going : not (l.servers i).stopped ≡ true =
    ap not server.stopped ∙ (and_parts (nat_lt i s.count) (not (has_halted i es)) goes).1 in
    subst (λ m. StandsForChain s (es ++ Looked i q key stood ∷ [])
    (cond (is_free t && not (l.servers m).stopped)
    (looked l (seat_in s.homes i q) t key (look_at (face_of (l.servers m).node) key)) l))
    (sym here.home)
    (subst (λ b. StandsForChain s (es ++ Looked i q key stood ∷ [])
    (cond b (looked l (seat_in s.homes i q) t key (look_at (face_of (l.servers i).node) key)) l))
    (sym (and_from (is_free t) (not (l.servers i).stopped) (free_seat i q es t here all) going))
    (subst (λ look. StandsForChain s (es ++ Looked i q key stood ∷ [])
    (looked l (seat_in s.homes i q) t key look))
    (sym found)
    (either s es i q key stood within below l h (look_at (shown_after stood) key) refl)))
