-- Messages go where their own views say.
use Rattle.std.proofs.Common.{◌≡◌, ◌≢◌, ℕ, zero, suc, ◌+◌, false, List, [], ◌∷◌, Some, arith, inl, inr, sym, ◌∙◌, subst}
use Rattle.std.specs.Prelude.{slice_get}
use Rattle.std.proofs.lemmas.Bool.{both_ways, cases_order}
use Rattle.std.proofs.lemmas.Option.{same_Some}
use Rattle.versions.specs.Entries.{LogEntry, IsEntry}
use Rattle.versions.specs.Stores.{IsLog}
use Rattle.node.specs.declared.messages.Body.{Body}
use Rattle.node.specs.declared.messages.Body.TheVariants.{Op, Forward, Ack, Query, Answer}
use Rattle.node.specs.declared.messages.Peer.{Peer}
use Rattle.node.specs.declared.messages.Input.TheVariants.{From}
use Rattle.node.specs.Views.{View, has}
use Rattle.node.specs.Servers.{ServerState}
use Rattle.node.specs.Lawful.{IsBody, HasEntry, IsSound}
use Rattle.world.specs.Worlds.{server}
use Rattle.node.specs.Actions.{Send, Cause, MaySend}
use Rattle.world.proofs.trace.Traces.{Traced, count}
use Rattle.world.proofs.trace.Layers.{Later, Goes, IsAddressed, Framed, IsKnown}
use Rattle.world.proofs.trace.IdLaws.{head_of_is, tail_of_is, at_tail, predecessor_found, successor_found, living_parts}
use Rattle.world.proofs.trace.Moves.{CanDo}
use Rattle.node.proofs.Neighbours.{tail_other}

-- a message stays addressed
pub addressed_later : (t u : Traced) → Later t u → (i j : ℕ) (m : Peer) → IsAddressed t i j m → IsAddressed u i j m
addressed_later t u l i j m a = record {
  sender = rw l.count a.sender;
  receiver = rw l.count a.receiver;
  part = λ k h. l.views i k (a.part k h);
  apart = a.apart;
  to = a.to;
  goes = rw l.count a.goes;
  fit = a.fit;
  entry = a.entry;
}

-- what is said of a body that server i sends to j, by its view
pub record IsAimed (v : View) (i j n : ℕ) (body : Body) : Type 0 where
  pub to : has v j ≡ false
  pub goes : Goes i j v n body
  pub fit : IsBody body
  pub entry : HasEntry body

-- an entry of a log is one
pub entry_in : (before : ℕ) (es : List LogEntry) (k : ℕ) (e : LogEntry)
    → IsLog before es
    → slice_get es k ≡ Some e
    → IsEntry e
entry_in before [] k e h g = absurd cc
entry_in before (d ∷ es) zero e h g = subst (λ x. IsEntry x) (same_Some d e g) h.0
entry_in before (d ∷ es) (suc k) e h g = entry_in (before + 1) es k e h.2 g

-- what may be sent goes where its view says
aimed : (t : Traced) (i j : ℕ) (cause : Cause) (body : Body) (s : ServerState)
    → s.id ≡ i
    → s.count ≡ count t
    → has s.view i ≡ false
    → IsSound s
    → IsKnown t i cause
    → MaySend cause s j body
    → IsAimed s.view i j (count t) body
aimed t i j cause (Op id call) s is n own sound known (head, other, update, fit, port, here) =
    let h = head_of_is s j head in
    record {
      to = h.out;
      goes = (
        elim (cases_order i j) [
          | inl same ↦ absurd (other (sym same ∙ sym is))
          | inr apart ↦ elim apart [ inl less ↦ absurd (both_ways _ own (h.below i less)) | inr greater ↦ greater ]
        ],
        h.below,
      );
      fit = fit;
      entry = tt;
    }
aimed t i j cause (Forward e) s is n own sound known (to_next, here) =
    let h = successor_found s j to_next in
    record {
      to = h.out;
      goes = (rw is at h.above, λ x a l. h.between x (omega (arith, is)) l);
      fit = tt;
      entry = entry_in s.store.floor s.store.rest here.0 e sound.store.log here.1;
    }
aimed t i j cause (Ack m) s is n own sound known (back, acked) =
    let h = predecessor_found s j back in
    record { to = h.out; goes = (rw is at h.below, λ x a l. h.between x a (omega (arith, is))); fit = tt; entry = tt }
aimed t i j cause (Query ask key) s is n own sound known (to_tail, apart, low, port, lower_bound, here) =
    let h = tail_of_is s j to_tail in
    record {
      to = h.out;
      goes = (
        elim (cases_order i j) [
          | inl same ↦ absurd (tail_other s j apart to_tail (sym (is ∙ same)))
          | inr other ↦ elim other [
            | inl less ↦ less
            | inr greater ↦ absurd (both_ways _ own (h.between i greater (omega (arith, n, is, sound.placed))))
          ]
        ],
        λ x a l. h.between x a (omega (arith, n)),
      );
      fit = low;
      entry = tt;
    }
aimed t i j cause (Answer ask m) s is n own sound known (tail, last, out, peer, key, came, asked) =
    let h = at_tail s tail in
    let from : IsKnown t i (Some (From j peer)) = rw came at known in
    let goes : Goes j i peer.view (count t) (Query ask key) = rw asked at (from.0.goes) in
    record {
      to = out;
      goes = (goes.0, λ x a l. h.between x (omega (arith, is)) (omega (arith, n)));
      fit = tt;
      entry = tt;
    }

-- what a server sends is addressed
pub addressed_sent : (t : Traced) (i j : ℕ) (cause : Cause) (body : Body)
    → Framed t
    → CanDo t i cause (Send j body)
    → IsAddressed t i j (record { view = (server t.world i).view; body = body })
addressed_sent t i j cause body f g =
    let low = (living_parts t.world i g.lives).0 in
    let a = aimed t i j cause body (server t.world i) (f.id i low) (f.chain i low) (f.own i low) g.sound g.known
    g.guard.0 in
    record {
      sender = low;
      receiver = omega (arith, g.guard.1, f.chain i low);
      part = λ k h. h;
      apart = f.own i low;
      to = a.to;
      goes = a.goes;
      fit = a.fit;
      entry = a.entry;
    }

-- ---- who receives

-- who sends isn't who receives
goes_apart : (i j n : ℕ) (v : View) (b : Body) → Goes i j v n b → i ≢ j
goes_apart i j n v (Op id call) g e = omega (arith, g.0, e)
goes_apart i j n v (Forward x) g e = omega (arith, g.0, e)
goes_apart i j n v (Ack m) g e = omega (arith, g.0, e)
goes_apart i j n v (Query ask key) g e = omega (arith, g.0, e)
goes_apart i j n v (Answer ask m) g e = omega (arith, g.0, e)

-- no message goes to its own sender
pub sender_apart : (t : Traced) (i a : ℕ) (m : Peer) → IsAddressed t i a m → i ≢ a
sender_apart t i a m h = goes_apart i a (count t) m.view m.body h.goes
