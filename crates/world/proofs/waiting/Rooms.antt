-- Numbers are left as long as fewer updates were issued, of all servers together.
use Rattle.std.proofs.Common.{◌≡◌, ℕ, zero, suc, ◌+◌, ◌-◌, ◌<◌, ◌≤◌, List, [], ◌∷◌, ◌++◌, length, take, get_or, Some}
use Rattle.std.proofs.Common.{refl, arith, inl, inr, ap, sym, ◌∙◌}
use Rattle.std.specs.Prelude.{slice_get}
use Rattle.std.proofs.lemmas.Bool.{cases_eq, cases_lt}
use Rattle.std.proofs.lemmas.Option.{slice_get-get_or, slice_get_within}
use Rattle.std.proofs.lemmas.List.{take_all}
use Rattle.versions.specs.Entries.{LogEntry}
use Rattle.node.specs.Servers.{most, seen_of}
use Rattle.world.specs.Worlds.{World, server}
use Rattle.world.proofs.trace.Traces.{Traced, log, issued_by, count}
use Rattle.world.proofs.trace.Layers.{Lawful, entries_of}
use Rattle.world.proofs.calls.EntryCounts.{entries-own, entries-other, entries-none}
use Rattle.node.proofs.BegunLists.{found_below}
use Rattle.world.proofs.streams.StreamSteps.{last_is}
use Rattle.world.proofs.waiting.OpeningInputs.{HasRooms}
use Rattle.world.proofs.waiting.Totals.{total, total_one, total_two, entries_total}

-- how many updates a server issued
abbrev pub issued_at : World → ℕ → ℕ
issued_at w o = (server w o).next_id - 1

-- how many all servers issued
abbrev pub issued_in : World → ℕ
issued_in w = total (issued_at w) (length w.servers)

-- ids that count from 1 are as many as the greatest
pub taken_more : {X : Type 0} (xs : List X) (k : ℕ) (x : X)
    → slice_get xs k ≡ Some x
    → take (suc k) xs ≡ take k xs ++ x ∷ []
taken_more [] k x h = absurd cc
taken_more (y ∷ xs) zero x h = ap (λ z. z ∷ []) (Rattle.std.proofs.lemmas.Option.same_Some y x h)
taken_more (y ∷ xs) (suc k) x h = ap (λ ys. y ∷ ys) (taken_more xs k x h)

up_to : (o b : ℕ) (es : List LogEntry) (k : ℕ)
    → ((j : ℕ) (e : LogEntry) → slice_get es j ≡ Some e → e.origin ≡ o → (e.id ≡ entries_of o (take j es) + 1)
    × (e.id ≤ b))
    → k ≤ length es
    → entries_of o (take k es) ≤ b
up_to o b es zero h le = omega (arith, entries-none o)
up_to o b es (suc k) h le =
    let f = found_below es k (omega (arith, le)) in
    let e = f.0 in
    let more = ap (λ fs. entries_of o fs) (taken_more es k e f.1) in
    elim (cases_eq e.origin o) [
      | inl same ↦ (let g = h k e f.1 same in let own = ap (λ p. entries_of p (take k es ++ e ∷ [])) (sym same)
          ∙ entries-own (take k es) e ∙ ap (λ p. entries_of p (take k es) + 1) same in omega
          (arith, more, own, g.0, g.1))
      | inr other ↦ omega (arith, more, entries-other o (take k es) e other, up_to o b es k h (omega (arith, le)))
    ]

-- each server has entries of issued updates alone
pub issued_bound : (t : Traced)
    → Lawful t
    → (i o : ℕ)
    → i < count t
    → o < count t
    → entries_of o (log t i) ≤ issued_at t.world o
issued_bound t l i o here there =
    let all : take (length (log t i)) (log t i) ≡ log t i = take_all (length (log t i)) (log t i) (omega arith) in
    let next = l.calling.next_id o there in
    let g = up_to o (length (issued_by t o)) (log t i) (length (log t i)) (λ j e at same.
    let issued = (l.calling.decided i j e at).issued in
    let within = slice_get_within (issued_by t e.origin) (e.id - 1) issued.name issued.issued in (
      l.calling.ids i j e at ∙ ap (λ p. entries_of p (take j (log t i)) + 1) same,
      omega (arith, within, issued.low, ap (λ p. length (issued_by t p)) same),
    )) (omega arith) in
    omega (arith, g, next, ap (λ es. entries_of o es) all)

absent : {X : Type 0} (xs : List X) (i : ℕ) (d : X) → length xs ≤ i → get_or xs i d ≡ d
absent [] i d h = refl
absent (x ∷ xs) zero d h = absurd (omega (arith, h))
absent (x ∷ xs) (suc i) d h = absent xs i d (omega (arith, h))

none_issued : (t : Traced) → Lawful t → (o : ℕ) → count t ≤ o → issued_by t o ≡ []
unfolding issued_by
none_issued t l o h = absent t.issued o [] (omega (arith, h, l.framed.issued))

-- origins are servers of the chain
pub origin_bound : (t : Traced)
    → Lawful t
    → (i k : ℕ) (e : LogEntry)
    → slice_get (log t i) k ≡ Some e
    → e.origin < count t
origin_bound t l i k e at = elim (cases_lt e.origin (count t)) [
  | inl low ↦ low
  | inr high ↦
      let issued = (l.calling.decided i k e at).issued in
      let within = slice_get_within (issued_by t e.origin) (e.id - 1) issued.name issued.issued in
      absurd (omega (arith, within, ap (λ xs. length xs) (none_issued t l e.origin high)))
]

-- as long as no more updates were issued than there are numbers, every server has numbers left
pub has_rooms : (t : Traced) → Lawful t → issued_in t.world ≤ most → HasRooms t.world
has_rooms t l few = record {
  own = λ i here.
      let id = l.framed.id i here in
      let one = total_one (λ o. entries_of o (log t i)) (issued_at t.world) (count t) i here
      (λ o there. issued_bound t l i o here there) in
      let seen = ap (λ o. seen_of (server t.world i) o) id in
      omega (
        arith,
        one,
        few,
        last_is t l.logged i here,
        entries_total (log t i) (count t) (origin_bound t l i),
        l.calling.seen i i here (omega (arith, here, l.framed.most)),
        seen,
        l.calling.next_id i here,
      );
  more = λ i j here there apart new.
      let id = l.framed.id i here in
      let two = total_two (λ o. entries_of o (log t i)) (issued_at t.world) (count t) i j apart here there
      (λ o inside. issued_bound t l i o here inside) in
      let seen = ap (λ o. seen_of (server t.world i) o) id in
      omega (
        arith,
        two,
        few,
        last_is t l.logged i here,
        entries_total (log t i) (count t) (origin_bound t l i),
        l.calling.seen i i here (omega (arith, here, l.framed.most)),
        l.calling.seen i j here (omega (arith, there, l.framed.most)),
        seen,
        l.calling.next_id i here,
        l.calling.next_id j there,
        new,
      );
}
