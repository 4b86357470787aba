-- A look that a server answered by its lease was taken before another server was told.
use Rattle.std.proofs.Common.{◌≡◌, ℕ, ◌+◌, ◌-◌, ◌*◌, ◌≤◌, ◌<◌, inl, inr, arith, lit<}
use Rattle.std.proofs.lemmas.Bool.{cases_lt, cases_order}
use Rattle.leases.specs.declared.terms.TheConstants.{GRAIN}
use Rattle.leases.specs.Clocks.{Clock, NeverFalls, passed, IsHardlyFaster}
use Rattle.leases.specs.Leases.{Beat, LeasedAnswer, Notice, Pair, IsSound, IsNoticeByRule, IsAnswered, IsBeat}
use Rattle.leases.specs.Leases.{IsBeatByRule}
use Rattle.leases.specs.Leases.{Entered, Ended}

-- if x comes after y, the term has passed on the slower clock
pub term_has_passed : (term grain fast slow : ℕ)
    → 11 * (term + grain) ≤ 10 * fast
    → 10 * fast ≤ 11 * (slow + grain)
    → term ≤ slow
term_has_passed term grain fast slow over pace = omega arith

-- nothing has passed between an instant and one that isn't later
pub something_passed : (term grain a b : ℕ) → 0 < grain → b ≤ a → 11 * (term + grain) ≤ 10 * (b - a) → ⊥
something_passed term grain a b positive back over = omega arith

-- The stamp of a beat whose epoch the other server had entered is of an answer which the master had heard by its last
-- one: by the order of epochs.
pub stamped_before : (pair : Pair) (term : ℕ) (clock : Clock) (notice : Notice) (beat : Beat) (x : ℕ)
    → IsSound pair
    → IsNoticeByRule pair term clock notice
    → IsBeat pair notice beat
    → pair.other x ≡ beat.epoch
    → x ≤ notice.told
    → beat.stamped ≤ notice.heard
stamped_before pair term clock notice beat x sound by_rule beaten is by =
    elim (cases_order beat.epoch notice.epoch) [
      | inl same ↦ (let heard : beat.heard ≤ notice.heard = beaten.last same in
          let stamped : beat.stamped ≤ beat.heard = beaten.stamped in
          omega arith)
      | inr other ↦ elim other [
        | inl below ↦ entered_later by_rule.entered.0 by_rule.entered.1.0 by_rule.entered.1.1 below
        | inr above ↦ absurd (not_told above)
      ]
    ]
  where
    -- a beat of an earlier epoch was taken before the server entered the notice's
    entered_later : (y : ℕ) → pair.epoch y ≡ notice.epoch → y ≤ notice.heard → beat.epoch < notice.epoch
        → beat.stamped ≤ notice.heard
    entered_later y entered early below =
        let own : pair.epoch beat.taken ≡ beat.epoch = beaten.own in
        let stamped : beat.stamped ≤ beat.heard = beaten.stamped in
        let heard : beat.heard ≤ beat.taken = beaten.heard in
        elim (cases_lt beat.taken y) [
          | inl before ↦ omega arith
          | inr after ↦ (let rises : pair.epoch y ≤ pair.epoch beat.taken = sound.epoch y beat.taken after in
              absurd (let no : ⊥ = omega arith in no))
        ]

    -- no beat is of a later epoch: the other server would have entered it before it was told
    not_told : notice.epoch < beat.epoch → ⊥
    not_told above =
        let own : pair.other notice.told ≡ notice.epoch = by_rule.own in
        let rises : pair.other x ≤ pair.other notice.told = sound.other x notice.told by in
        omega arith

-- a clock that shows less than the term more than the stamp does so of any later reading
pub stale : (clock : Clock) (term stamped heard read : ℕ)
    → NeverFalls clock
    → clock read < clock stamped + term
    → stamped ≤ heard
    → clock read < clock heard + term
stale clock term stamped heard read falls held before =
    let rises : clock stamped ≤ clock heard = falls stamped heard before in
    omega arith

-- and it can't, if the look was taken after the other server was told
pub too_late : (master server : Clock) (term grain heard decided taken read : ℕ)
    → 0 < grain
    → NeverFalls master
    → NeverFalls server
    → ((a b : ℕ) → a ≤ b → 10 * passed master a b ≤ 11 * (passed server a b + grain))
    → 11 * (term + grain) ≤ 10 * passed master heard decided
    → decided ≤ taken
    → taken ≤ read
    → server read < server heard + term
    → ⊥
too_late master server term grain heard decided taken read positive falls rises pace over told after held =
    elim (cases_lt decided heard) [
      | inl back ↦ (let back_by : decided ≤ heard = omega arith in
          something_passed term grain (master heard) (master decided) positive (falls decided heard back_by) over)
      | inr forth ↦ (let full : term ≤ server decided - server heard
          = term_has_passed term grain (passed master heard decided) (passed server heard decided) over
          (pace heard decided forth) in
          let by : decided ≤ read = omega arith in
          let start : server heard ≤ server decided = rises heard decided forth in
          let shown : server decided ≤ server read = rises decided read by in
          omega arith)
    ]

-- a look that was answered by a beat for which the other server had entered the epoch
pub look_before : (pair : Pair) (term : ℕ) (clock : Clock) (notice : Notice) (beat : Beat) (x : ℕ) (look : LeasedAnswer)
    → IsSound pair
    → NeverFalls clock
    → IsHardlyFaster clock pair.clock
    → IsNoticeByRule pair term clock notice
    → IsBeat pair notice beat
    → pair.other x ≡ beat.epoch
    → x ≤ notice.told
    → IsAnswered pair.clock term beat look
    → look.taken < notice.told
look_before pair term clock notice beat x look sound falls pace by_rule beaten is by answered =
    elim (cases_lt look.taken notice.told) [
      | inl before ↦ before
      | inr after ↦ absurd (too_late clock pair.clock term GRAIN notice.heard notice.decided look.taken look.read
          (lit< tt) falls sound.clock pace by_rule.over
          (later notice.decided notice.told look.taken by_rule.decided after)
          answered.after
          (stale pair.clock term beat.stamped notice.heard look.read sound.clock answered.held
          (stamped_before pair term clock notice beat x sound by_rule beaten is by)))
    ]
  where
    later : (a b c : ℕ) → a ≤ b → b ≤ c → a ≤ c
    later a b c first second = omega arith

-- the law
pub look_before_telling : (pair : Pair) (term : ℕ) (clock : Clock) (notice : Notice)
    → IsSound pair
    → NeverFalls clock
    → IsHardlyFaster clock pair.clock
    → IsNoticeByRule pair term clock notice
    → (beat : Beat)
    → IsBeatByRule pair term notice beat
    → (look : LeasedAnswer)
    → IsAnswered pair.clock term beat look
    → look.taken < notice.told
look_before_telling pair term clock notice sound falls pace by_rule any (Entered beat beaten x is by) look answered =
    look_before pair term clock notice beat x look sound falls pace by_rule beaten is by answered
look_before_telling pair term clock notice sound falls pace by_rule any (Ended beat earlier before seen shown ended)
    look answered =
    absurd (too_early pair.end notice.told seen.taken by_rule.lives ended
    (look_before_telling pair term clock notice sound falls pace by_rule earlier before seen shown))
  where
    too_early : (end told taken : ℕ) → told < end → end ≤ taken → taken < told → ⊥
    too_early end told taken lives ended before = omega arith
