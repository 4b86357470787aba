-- A look that a server answers by its lease, as the machines have it, was taken before another server was told.
use Rattle.std.proofs.Common.{◌≡◌, ◌≢◌, ℕ, ◌+◌, ◌-◌, ◌*◌, ◌≤◌, ◌<◌, inl, inr, max, Bool, true, List, [], ◌∷◌, ◌++◌}
use Rattle.std.proofs.Common.{Some, refl, ap, sym, ◌∙◌, arith}
use Rattle.std.proofs.lemmas.Bool.{cases_lt}
use Rattle.leases.specs.declared.orders.Order.{Order}
use Rattle.leases.specs.declared.orders.Order.TheVariants as orders
use Rattle.leases.specs.declared.watches.WatchStanding.{WatchStanding}
use Rattle.leases.specs.declared.watches.WatchStanding.TheVariants.{Watched, Told, Over, Gone}
use Rattle.leases.specs.declared.watches.WatchDue.{WatchDue}
use Rattle.leases.specs.declared.watches.WatchDue.TheVariants.{Wait, Beat, TellServer, TellSilent, TellGone}
use Rattle.leases.specs.declared.terms.TheConstants.{GRAIN}
use Rattle.leases.specs.Clocks.{Clock, NeverFalls, passed, IsHardlyFaster, IsSurelyOver}
use Rattle.leases.specs.Leases.{LeasedAnswer, Notice, Pair, IsSound, IsNoticeByRule}
use Rattle.leases.specs.Holding.{unheld, holds, Hearing, Hears, hears, IsHeldBy}
use Rattle.leases.specs.Watching.{WatchState, done, due, heard_at, happen}
use Rattle.leases.specs.Runs.{TimedOrder, At, timed_orders_by, lease_after, IsRun, IsBrought}
use Rattle.leases.specs.Runs.{Doing, Answered, Refused, Asked, Spared, doing_by, watch_after}
use Rattle.leases.specs.Runs.{counted, heard_by, heard_after, SaysSilent, IsCalledSilent}
use Rattle.leases.proofs.Looks.{look_before_telling}
use Rattle.leases.proofs.Holders.{held_by_a_beat}
use Rattle.leases.proofs.Tellings.{tells_by_rule}

nil_cons : (x : Hearing) (xs : List Hearing) → [] ≡ x ∷ xs → ⊥
nil_cons x xs e = cc

first_is : (x y : Hearing) (xs ys : List Hearing) → x ∷ xs ≡ y ∷ ys → x ≡ y
first_is x y xs ys e = cc

rest_is : (x y : Hearing) (xs ys : List Hearing) → x ∷ xs ≡ y ∷ ys → xs ≡ ys
rest_is x y xs ys e = cc

-- if what was heard stands among the timed orders
pub record Placed (clock : Clock) (es : List TimedOrder) (before : List Hearing) (order : Order) (gone read : ℕ)
    : Type 0 where
  pub front : List TimedOrder
  pub back : List TimedOrder
  pub instant : ℕ
  pub came : es ≡ front ++ At instant order gone ∷ back
  pub same : timed_orders_by clock front ≡ before
  pub reads : clock instant ≡ read

pub placed : (clock : Clock) (es : List TimedOrder) (before after : List Hearing) (order : Order) (gone read : ℕ)
    → timed_orders_by clock es ≡ before ++ Hears order gone read ∷ after
    → Placed clock es before order gone read
placed clock [] [] after order gone read e = absurd (nil_cons (Hears order gone read) after e)
placed clock [] (b ∷ bs) after order gone read e = absurd (nil_cons b (bs ++ Hears order gone read ∷ after) e)
placed clock (At x given these ∷ es) [] after order gone read e =
    here clock x given these es order gone read
    (first_is (Hears given these (clock x)) (Hears order gone read) (timed_orders_by clock es) after e)
  where
    here : (clock : Clock) (x : ℕ) (given : Order) (these : ℕ) (es : List TimedOrder) (order : Order) (gone read : ℕ)
        → Hears given these (clock x) ≡ Hears order gone read
        → Placed clock (At x given these ∷ es) [] order gone read
    here clock x given these es order gone read first =
        let one : given ≡ order = cc in
        let two : these ≡ gone = cc in
        let three : clock x ≡ read = cc in
        record {
          front = [];
          back = es;
          instant = x;
          came = (let whole : (At x given these ∷ es) ≡ (At x order gone ∷ es) = cc in whole);
          same = refl;
          reads = three;
        }
placed clock (At x given these ∷ es) (b ∷ bs) after order gone read e =
    later clock x given these es b bs order gone read
    (first_is (Hears given these (clock x)) b (timed_orders_by clock es) (bs ++ Hears order gone read ∷ after) e)
    (placed clock es bs after order gone read
    (rest_is (Hears given these (clock x)) b (timed_orders_by clock es) (bs ++ Hears order gone read ∷ after) e))
  where
    later : (clock : Clock) (x : ℕ) (given : Order) (these : ℕ) (es : List TimedOrder) (b : Hearing) (bs : List Hearing)
        (order : Order) (gone read : ℕ)
        → Hears given these (clock x) ≡ b
        → Placed clock es bs order gone read
        → Placed clock (At x given these ∷ es) (b ∷ bs) order gone read
    later clock x given these es b bs order gone read first by = record {
      front = At x given these ∷ by.front;
      back = by.back;
      instant = by.instant;
      came = ap (λ ys. At x given these ∷ ys) by.came;
      same = (let tail : timed_orders_by clock by.front ≡ bs = by.same in
          let whole : (Hears given these (clock x) ∷ timed_orders_by clock by.front) ≡ (b ∷ bs) = cc in whole);
      reads = by.reads;
    }

pub before_its_end : (read stamped stamp term : ℕ) → stamped ≡ stamp → read < stamp + term → read < stamped + term
before_its_end read stamped stamp term is held = omega arith

-- the law
pub look_of_run : (pair : Pair) (term : ℕ) (clock : Clock) (notice : Notice) (timed_orders : List TimedOrder)
    (look : LeasedAnswer)
    → IsSound pair
    → NeverFalls clock
    → IsHardlyFaster clock pair.clock
    → IsNoticeByRule pair term clock notice
    → IsRun pair term notice timed_orders
    → look.taken ≤ look.read
    → holds (lease_after pair.clock term timed_orders) (pair.clock look.read) ≡ true
    → look.taken < notice.told
look_of_run pair term clock notice timed_orders look sound falls pace by_rule run after held =
    by_held (held_by_a_beat term (timed_orders_by pair.clock timed_orders) (pair.clock look.read) held)
  where
    by_beat : (epoch stamp : ℕ) (x : ℕ) → pair.clock look.read < stamp + term
        → IsBrought pair term notice x epoch stamp → look.taken < notice.told
    by_beat epoch stamp x held brought =
        look_before_telling pair term clock notice sound falls pace by_rule brought.beat brought.by_rule look
        (record {
          after = after;
          held = before_its_end (pair.clock look.read) (pair.clock brought.beat.stamped) stamp term brought.shown held;
        })

    by_place : (before : List Hearing) (epoch stamp gone read : ℕ)
        → (hears (unheld (Some term)) before).epoch ≡ epoch
        → pair.clock look.read < stamp + term
        → Placed pair.clock timed_orders before (orders.Beat epoch (Some stamp)) gone read
        → look.taken < notice.told
    by_place before epoch stamp gone read own held by =
        by_beat epoch stamp by.instant held
        (run.brought by.front by.back by.instant epoch stamp gone by.came
        (run.epoch by.front by.back by.instant epoch stamp gone by.came
        ∙ (ap (λ hs. (hears (unheld (Some term)) hs).epoch) by.same ∙ own)))

    by_held : IsHeldBy (unheld (Some term)) term (timed_orders_by pair.clock timed_orders) (pair.clock look.read)
        → look.taken < notice.told
    by_held by =
        by_place by.before by.epoch by.stamp by.gone by.read by.own by.held
        (placed pair.clock timed_orders by.before by.after (orders.Beat by.epoch (Some by.stamp)) by.gone by.read
        by.came)

-- what a watch does leaves its term as it is
term-done : (w : WatchState) (now : ℕ) (watch_due : WatchDue) → (done w now watch_due).term ≡ w.term
term-done w now (Wait span) = refl
term-done w now (Beat stamp) = refl
term-done w now TellServer = refl
term-done w now TellSilent = refl
term-done w now TellGone = refl

term-heard : (standing : WatchStanding) (w : WatchState) (stamp now : ℕ) → (heard_at standing w stamp now).term ≡ w.term
term-heard Watched w stamp now = refl
term-heard Told w stamp now = refl
term-heard Over w stamp now = refl
term-heard Gone w stamp now = refl

term-does : (clock : Clock) (w : WatchState) (d : Doing) → (happen w (doing_by clock d)).term ≡ w.term
term-does clock w (Answered x stamp) = term-heard w.standing w stamp (clock x)
term-does clock w Refused = refl
term-does clock w (Asked x whole) = term-done w (clock x) (due w whole (clock x))
term-does clock w Spared = refl

term-after : (clock : Clock) (ds : List Doing) (w : WatchState) → (watch_after clock w ds).term ≡ w.term
term-after clock [] w = refl
term-after clock (d ∷ ds) w = term-after clock ds (happen w (doing_by clock d)) ∙ term-does clock w d

-- a watch counts from the instant of the last answer that counted
max-clock : (clock : Clock) (a b : ℕ) → NeverFalls clock → max (clock a) (clock b) ≡ clock (max a b)
max-clock clock a b falls =
    elim (cases_lt a b) [
      | inl below ↦ (let rises : clock a ≤ clock b = falls a b (omega arith) in
          let is : max a b ≡ b = omega arith in
          let last : max (clock a) (clock b) ≡ clock b = omega arith in
          last ∙ ap clock (sym is))
      | inr above ↦ (let rises : clock b ≤ clock a = falls b a above in
          let is : max a b ≡ a = omega arith in
          let last : max (clock a) (clock b) ≡ clock a = omega arith in
          last ∙ ap clock (sym is))
    ]

heard-counts : (clock : Clock) (standing : WatchStanding) (w : WatchState) (heard x stamp : ℕ)
    → NeverFalls clock
    → w.heard ≡ clock heard
    → (heard_at standing w stamp (clock x)).heard ≡ clock (counted standing heard x)
heard-counts clock Watched w heard x stamp falls is =
    ap (λ h. max h (clock x)) is ∙ max-clock clock heard x falls
heard-counts clock Told w heard x stamp falls is = is
heard-counts clock Over w heard x stamp falls is = is
heard-counts clock Gone w heard x stamp falls is = is

heard-done : (w : WatchState) (now : ℕ) (watch_due : WatchDue) → (done w now watch_due).heard ≡ w.heard
heard-done w now (Wait span) = refl
heard-done w now (Beat stamp) = refl
heard-done w now TellServer = refl
heard-done w now TellSilent = refl
heard-done w now TellGone = refl

heard-does : (clock : Clock) (w : WatchState) (heard : ℕ) (d : Doing)
    → NeverFalls clock
    → w.heard ≡ clock heard
    → (happen w (doing_by clock d)).heard ≡ clock (heard_by w.standing heard d)
heard-does clock w heard (Answered x stamp) falls is = heard-counts clock w.standing w heard x stamp falls is
heard-does clock w heard Refused falls is = is
heard-does clock w heard (Asked x whole) falls is = heard-done w (clock x) (due w whole (clock x)) ∙ is
heard-does clock w heard Spared falls is = is

heard-after : (clock : Clock) (ds : List Doing) (w : WatchState) (heard : ℕ)
    → NeverFalls clock
    → w.heard ≡ clock heard
    → (watch_after clock w ds).heard ≡ clock (heard_after clock w heard ds)
heard-after clock [] w heard falls is = is
heard-after clock (d ∷ ds) w heard falls is =
    heard-after clock ds (happen w (doing_by clock d)) (heard_by w.standing heard d) falls
    (heard-does clock w heard d falls is)

moved : (term t grain heard h decided : ℕ)
    → t ≡ term
    → heard ≡ h
    → 11 * (t + grain) ≤ 10 * (decided - heard)
    → 11 * (term + grain) ≤ 10 * (decided - h)
moved term t grain heard h decided same is over = omega arith

-- so if it says that the others are told, the lease is surely over
pub over_of_run : (clock : Clock) (term begun : ℕ) (w : WatchState) (ds : List Doing) (whole : Bool) (decided : ℕ)
    → NeverFalls clock
    → SaysSilent clock term begun w ds whole decided
    → IsSurelyOver term (passed clock (heard_after clock w begun ds) decided)
over_of_run clock term begun w ds whole decided falls says =
    by_term (tells_by_rule (watch_after clock w ds) whole (clock decided) not_over says.says)
  where
    not_over : (watch_after clock w ds).standing ≢ Over
    not_over is = let told : (watch_after clock w ds).standing ≡ Told = says.going in let no : ⊥ = cc in no

    by_term : (t : ℕ) × (((watch_after clock w ds).term ≡ Some t)
        × IsSurelyOver t (clock decided - (watch_after clock w ds).heard))
        → IsSurelyOver term (passed clock (heard_after clock w begun ds) decided)
    by_term by =
        let given : (watch_after clock w ds).term ≡ Some term = term-after clock ds w ∙ says.begins.term in
        let found : (watch_after clock w ds).term ≡ Some by.0 = by.1.0 in
        let same : by.0 ≡ term = cc in
        let heard : (watch_after clock w ds).heard ≡ clock (heard_after clock w begun ds)
        = heard-after clock ds w begun falls says.begins.heard in
        let over : IsSurelyOver by.0 (clock decided - (watch_after clock w ds).heard) = by.1.1 in
        moved term by.0 GRAIN (watch_after clock w ds).heard (clock (heard_after clock w begun ds)) (clock decided)
        same heard over

-- and the notice is one by the rule
pub notice_of_run : (pair : Pair) (term : ℕ) (clock : Clock) (begun : ℕ) (w : WatchState) (ds : List Doing)
    (whole : Bool) (notice : Notice)
    → NeverFalls clock
    → IsCalledSilent pair term clock begun w ds whole notice
    → IsNoticeByRule pair term clock notice
notice_of_run pair term clock begun w ds whole notice falls called = record {
  entered = called.entered;
  over = (rw called.heard (over_of_run clock term begun w ds whole notice.decided falls called.says));
  decided = called.decided;
  own = called.own;
  lives = called.lives;
}
