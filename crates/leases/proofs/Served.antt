-- Beats that server records have sent come about by the rule of beats.
use Rattle.std.proofs.Common.{◌≡◌, ℕ, zero, suc, ◌+◌, ◌≤◌, ◌<◌, inl, inr, true, length, List, [], ◌∷◌, ◌++◌}
use Rattle.std.proofs.Common.{Some, refl, ap, sym, ◌∙◌, arith, append_assoc, length-append}
use Rattle.leases.specs.declared.orders.Order.{Order}
use Rattle.leases.specs.declared.orders.Order.TheVariants as orders
use Rattle.leases.specs.Clocks.{Clock}
use Rattle.leases.specs.Leases.{Beat, Pair, Notice, IsBeat, IsBeatByRule, Entered, Ended}
use Rattle.leases.specs.Sets.{has}
use Rattle.leases.specs.Holding.{LeaseState, unheld, holds, holds_until, learned, obeyed, heeded, Hearing, hears}
use Rattle.leases.specs.Holding.{IsHeldBy, IsLearnedBy}
use Rattle.leases.specs.Runs.{TimedOrder, At, timed_orders_by, lease_after, IsRun, IsBrought}
use Rattle.leases.specs.Serving.{HasToldOf, IsSent, IsServed}
use Rattle.leases.proofs.Holders.{held_by_a_beat, learned_while_held, term-learned, end-learned}
use Rattle.leases.proofs.Runs.{Placed, placed, before_its_end}
use Rattle.leases.proofs.Recording.{told_for_beat}

-- one timed order more
one_more : (clock : Clock) (es : List TimedOrder) (x : ℕ) (order : Order) (gone : ℕ) (lease : LeaseState)
    → hears lease (timed_orders_by clock (es ++ At x order gone ∷ []))
    ≡ heeded (hears lease (timed_orders_by clock es)) order gone (clock x)
one_more clock [] x order gone lease = refl
one_more clock (At y other these ∷ es) x order gone lease =
    one_more clock es x order gone (heeded lease other these (clock y))

-- what is learned doesn't change whether the lease holds
holds-learned : (lease : LeaseState) (gone now : ℕ) → holds (learned lease gone now) now ≡ holds lease now
holds-learned lease gone now =
    ap (λ t. holds_until t (learned lease gone now).end now) (term-learned lease gone now)
    ∙ ap (λ e. holds_until lease.term e now) (end-learned lease gone now)

-- a timed order among the first ones stands among all
among : (timed_orders before front back after pf pb : List TimedOrder) (e x : TimedOrder)
    → timed_orders ≡ before ++ x ∷ after
    → before ≡ front ++ back
    → front ≡ pf ++ e ∷ pb
    → timed_orders ≡ pf ++ e ∷ (pb ++ (back ++ x ∷ after))
among timed_orders before front back after pf pb e x all first second =
    all
    ∙ ap (λ ys. ys ++ x ∷ after) (first ∙ ap (λ ys. ys ++ back) second ∙ append_assoc pf (e ∷ pb) back)
    ∙ append_assoc pf ((e ∷ pb) ++ back) (x ∷ after)
    ∙ ap (λ ys. pf ++ e ∷ ys) (append_assoc pb back (x ∷ after))

-- and so does one among those up to it
among_first : (timed_orders pf rest qf qb : List TimedOrder) (e y : TimedOrder)
    → timed_orders ≡ pf ++ e ∷ rest
    → pf ++ e ∷ [] ≡ qf ++ y ∷ qb
    → timed_orders ≡ qf ++ y ∷ (qb ++ rest)
among_first timed_orders pf rest qf qb e y all first =
    all
    ∙ sym (append_assoc pf (e ∷ []) rest)
    ∙ ap (λ ys. ys ++ rest) first
    ∙ append_assoc qf (y ∷ qb) rest

-- a timed order among the first ones has fewer before it
fewer : (before front back pf pb : List TimedOrder) (e : TimedOrder) (n : ℕ)
    → before ≡ front ++ back
    → front ≡ pf ++ e ∷ pb
    → length before < suc n
    → length pf < n
fewer before front back pf pb e n first second short =
    lengths (length before) (length front) (length back) (length pf) (length pb) n
    (ap length first ∙ length-append front back) (ap length second ∙ length-append pf (e ∷ pb)) short
  where
    lengths : (before front back pf pb n : ℕ)
        → before ≡ front + back
        → front ≡ pf + suc pb
        → before < suc n
        → pf < n
    lengths before front back pf pb n one two short = omega arith

no_more : (pf qf qb : List TimedOrder) (e y : TimedOrder) (n : ℕ)
    → pf ++ e ∷ [] ≡ qf ++ y ∷ qb
    → length pf < n
    → length qf < n
no_more pf qf qb e y n same short =
    lengths (length pf) (length qf) (length qb) n
    (sym (length-append pf (e ∷ [])) ∙ ap length same ∙ length-append qf (y ∷ qb)) short
  where
    lengths : (pf qf qb n : ℕ) → pf + suc zero ≡ qf + suc qb → pf < n → qf < n
    lengths pf qf qb n one short = omega arith

-- the lease held when the server had heard one timed order more, if it held when it learned
held_then : (clock : Clock) (term : ℕ) (es : List TimedOrder) (heard : List Hearing) (x : ℕ) (order : Order)
    (gone read : ℕ)
    → timed_orders_by clock es ≡ heard
    → clock x ≡ read
    → holds (obeyed (hears (unheld (Some term)) heard) order read) read ≡ true
    → holds (lease_after clock term (es ++ At x order gone ∷ [])) (clock x) ≡ true
held_then clock term es heard x order gone read same reads held =
    ap (λ l. holds l (clock x)) (one_more clock es x order gone (unheld (Some term)))
    ∙ holds-learned (obeyed (hears (unheld (Some term)) (timed_orders_by clock es)) order (clock x)) gone (clock x)
    ∙ ap (λ hs. holds (obeyed (hears (unheld (Some term)) hs) order (clock x)) (clock x)) same
    ∙ ap (λ r. holds (obeyed (hears (unheld (Some term)) heard) order r) r) reads
    ∙ held

-- that the beats which were taken before the n-th timed order came about by the rule
abbrev AreBrought : ℕ → Pair → ℕ → Notice → List TimedOrder → Type 0
AreBrought n pair term notice timed_orders =
    (before after : List TimedOrder) (x epoch stamp gone : ℕ)
    → timed_orders ≡ before ++ At x (orders.Beat epoch (Some stamp)) gone ∷ after
    → pair.epoch x ≡ epoch
    → length before < n
    → IsBrought pair term notice x epoch stamp

-- a beat after these
module _ (n : ℕ) (pair : Pair) (term other : ℕ) (notice : Notice) (timed_orders : List TimedOrder)
    (served : IsServed pair term other notice timed_orders) (earlier : AreBrought n pair term notice timed_orders)
    (before after : List TimedOrder) (x epoch stamp gone : ℕ)
    (all : timed_orders ≡ before ++ At x (orders.Beat epoch (Some stamp)) gone ∷ after)
    (own : pair.epoch x ≡ epoch) (short : length before < suc n) where
  abbrev beat_of : IsSent pair term other notice before x epoch stamp → Beat
  beat_of sent = record { epoch = epoch; stamped = sent.stamped; heard = sent.heard; taken = x }

  is_beat : (sent : IsSent pair term other notice before x epoch stamp) → IsBeat pair notice (beat_of sent)
  is_beat sent = record { stamped = sent.order; heard = sent.late; last = sent.last; own = own }

  brought : (sent : IsSent pair term other notice before x epoch stamp)
      → IsBeatByRule pair term notice (beat_of sent)
      → IsBrought pair term notice x epoch stamp
  brought sent by_rule = record {
    beat = beat_of sent;
    taken = refl;
    epoch = refl;
    shown = sent.shown;
    by_rule = by_rule;
  }

  -- the other one had ended when the lease held, by an earlier beat
  by_earlier : (sent : IsSent pair term other notice before x epoch stamp) (y z r s : ℕ)
      → pair.end ≤ y
      → pair.clock y < s + term
      → IsBrought pair term notice z r s
      → IsBrought pair term notice x epoch stamp
  by_earlier sent y z r s ended held first = brought sent
      (Ended (beat_of sent) first.beat first.by_rule (record { taken = y; read = y })
      (record {
        after = omega arith;
        held = before_its_end (pair.clock y) (pair.clock first.beat.stamped) s term first.shown held;
      })
      ended)

  -- by the beat that stands there among the timed orders up to one, of which there are fewer
  by_place : (sent : IsSent pair term other notice before x epoch stamp) (pf rest : List TimedOrder) (e : TimedOrder)
      (y : ℕ)
      (heard : List Hearing) (r s these read : ℕ)
      → timed_orders ≡ pf ++ e ∷ rest
      → length pf < n
      → pair.end ≤ y
      → pair.clock y < s + term
      → (hears (unheld (Some term)) heard).epoch ≡ r
      → Placed pair.clock (pf ++ e ∷ []) heard (orders.Beat r (Some s)) these read
      → IsBrought pair term notice x epoch stamp
  by_place sent pf rest e y heard r s these read place few ended held owned spot =
      let there : timed_orders ≡ spot.front ++ At spot.instant (orders.Beat r (Some s)) these ∷ (spot.back ++ rest)
      = among_first timed_orders pf rest spot.front spot.back e (At spot.instant (orders.Beat r (Some s)) these) place
      spot.came in
      let mine : pair.epoch spot.instant ≡ r
      = served.epoch spot.front (spot.back ++ rest) spot.instant r s these there
      ∙ (ap (λ hs. (hears (unheld (Some term)) hs).epoch) spot.same ∙ owned) in
      by_earlier sent y spot.instant r s ended held
      (earlier spot.front (spot.back ++ rest) spot.instant r s these there mine
      (no_more pf spot.front spot.back e (At spot.instant (orders.Beat r (Some s)) these) n spot.came few))

  by_hold : (sent : IsSent pair term other notice before x epoch stamp) (pf rest : List TimedOrder) (e : TimedOrder)
      (y : ℕ)
      → timed_orders ≡ pf ++ e ∷ rest
      → length pf < n
      → pair.end ≤ y
      → IsHeldBy (unheld (Some term)) term (timed_orders_by pair.clock (pf ++ e ∷ [])) (pair.clock y)
      → IsBrought pair term notice x epoch stamp
  by_hold sent pf rest e y place few ended by =
      by_place sent pf rest e y by.before by.epoch by.stamp by.gone by.read place few ended by.held by.own
      (placed pair.clock (pf ++ e ∷ []) by.before by.after (orders.Beat by.epoch (Some by.stamp)) by.gone by.read
      by.came)

  -- the server learned that the other one is gone
  by_timed_order : (sent : IsSent pair term other notice before x epoch stamp) (front back : List TimedOrder)
      (heard : List Hearing) (order : Order) (these read : ℕ)
      → before ≡ front ++ back
      → has these other ≡ true
      → holds (obeyed (hears (unheld (Some term)) heard) order read) read ≡ true
      → Placed pair.clock front heard order these read
      → IsBrought pair term notice x epoch stamp
  by_timed_order sent front back heard order these read first named held spot =
      let place : timed_orders
      ≡ spot.front ++ At spot.instant order these
      ∷ (spot.back ++ (back ++ At x (orders.Beat epoch (Some stamp)) gone ∷ after))
      = among timed_orders before front back after spot.front spot.back (At spot.instant order these)
      (At x (orders.Beat epoch (Some stamp)) gone) all first spot.came in
      by_hold sent spot.front (spot.back ++ (back ++ At x (orders.Beat epoch (Some stamp)) gone ∷ after))
      (At spot.instant order these) spot.instant place
      (fewer before front back spot.front spot.back (At spot.instant order these) n first spot.came short)
      (served.gone spot.front (spot.back ++ (back ++ At x (orders.Beat epoch (Some stamp)) gone ∷ after))
      spot.instant these order place named)
      (held_by_a_beat term (timed_orders_by pair.clock (spot.front ++ At spot.instant order these ∷ []))
      (pair.clock spot.instant)
      (held_then pair.clock term spot.front heard spot.instant order these read spot.same spot.reads held))

  by_learned : (sent : IsSent pair term other notice before x epoch stamp) (front back : List TimedOrder)
      → before ≡ front ++ back
      → IsLearnedBy (unheld (Some term)) (timed_orders_by pair.clock front) other
      → IsBrought pair term notice x epoch stamp
  by_learned sent front back first by =
      by_timed_order sent front back by.before by.order by.gone by.read first by.named by.held
      (placed pair.clock front by.before by.after by.order by.gone by.read by.came)

  by_server_record : IsSent pair term other notice before x epoch stamp → IsBrought pair term notice x epoch stamp
  by_server_record sent =
      elim (told_for_beat sent.server_record epoch sent.all sent.now stamp other sent.says sent.chain) [
        | inl reported ↦ by_entry (sent.entered reported)
        | inr known ↦ by_told (sent.known known)
      ]
    where
      by_entry : (y : ℕ) × ((pair.other y ≡ epoch) × (y ≤ notice.told)) → IsBrought pair term notice x epoch stamp
      by_entry spot = brought sent (Entered (beat_of sent) (is_beat sent) spot.0 spot.1.0 spot.1.1)

      by_told : HasToldOf pair.clock term other before → IsBrought pair term notice x epoch stamp
      by_told told =
          by_learned sent told.front told.back told.whole
          (learned_while_held (Some term) (timed_orders_by pair.clock told.front) other told.named)

brought_within : (n : ℕ) (pair : Pair) (term other : ℕ) (notice : Notice) (timed_orders : List TimedOrder)
    → IsServed pair term other notice timed_orders
    → AreBrought n pair term notice timed_orders
brought_within zero pair term other notice timed_orders served before after x epoch stamp gone all own short =
    absurd (let no : ⊥ = omega arith in no)
brought_within (suc n) pair term other notice timed_orders served before after x epoch stamp gone all own short =
    by_server_record n pair term other notice timed_orders served
    (brought_within n pair term other notice timed_orders served) before after
    x epoch stamp gone all own short
    (served.sent before after x epoch stamp gone all own)

-- so what such a server heard came of masters that keep to the rule
pub run_of_served : (pair : Pair) (term other : ℕ) (notice : Notice) (timed_orders : List TimedOrder)
    → IsServed pair term other notice timed_orders
    → IsRun pair term notice timed_orders
run_of_served pair term other notice timed_orders served = record {
  epoch = served.epoch;
  brought = (λ before after x epoch stamp gone all own.
      brought_within (suc (length before)) pair term other notice timed_orders served before after x epoch stamp gone
      all own
      (omega arith));
}
