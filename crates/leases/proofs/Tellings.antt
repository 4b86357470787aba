-- A watch tells the others by the rule.
use Rattle.std.proofs.Common.{◌≡◌, ◌≢◌, ℕ, ◌+◌, ◌-◌, ◌*◌, ◌/◌, ◌≤◌, inl, inr, nat_le, Bool, true, false}
use Rattle.std.proofs.Common.{List, [], ◌∷◌, Option, None, Some, if◌then◌else◌, refl, ap, arith}
use Rattle.std.proofs.lemmas.Bool.{cases_Bool, leb-true}
use Rattle.leases.specs.declared.terms.TheConstants.{GRAIN}
use Rattle.leases.specs.declared.watches.WatchStanding.{WatchStanding}
use Rattle.leases.specs.declared.watches.WatchStanding.TheVariants.{Watched, Told, Over, Gone}
use Rattle.leases.specs.declared.watches.WatchDue.{WatchDue}
use Rattle.leases.specs.declared.watches.WatchDue.TheVariants.{Wait, Beat, TellServer, TellSilent, TellGone}
use Rattle.leases.specs.Clocks.{IsSurelyOver, wait_for}
use Rattle.leases.specs.Watching.{WatchState, due, done, watched_due, told_due, standing_due, gives_up, brought}
use Rattle.leases.specs.Watching.{heard_at, answered, spared_watch, happen, happens}
use Rattle.leases.specs.Watching.{Happening, Answers, Refuses, Asks, Spares, IsRefused}

-- who waits so long has waited long enough
pub over_after : (term silence : ℕ) → wait_for term ≤ silence → IsSurelyOver term silence
over_after term silence waited = tenth (term + GRAIN) silence waited
  where
    tenth : (n m : ℕ) → n + n / 10 + 1 ≤ m → 11 * n ≤ 10 * m
    tenth n m waited = omega arith

-- something due by which others are told of nobody
data IsQuiet : WatchDue → Type 0 where
  Waits : (span : ℕ) → IsQuiet (Wait span)
  Beats : (stamp : Option ℕ) → IsQuiet (Beat stamp)
  TellsServer : IsQuiet TellServer

quiet_not_silent : (watch_due : WatchDue) → IsQuiet watch_due → watch_due ≡ TellSilent → ⊥
quiet_not_silent any (Waits span) says = cc
quiet_not_silent any (Beats stamp) says = cc
quiet_not_silent any TellsServer says = cc

quiet_not_gone : (watch_due : WatchDue) → IsQuiet watch_due → watch_due ≡ TellGone → ⊥
quiet_not_gone any (Waits span) says = cc
quiet_not_gone any (Beats stamp) says = cc
quiet_not_gone any TellsServer says = cc

-- of a server that is watched others are told nothing
watched_quiet : (w : WatchState) (whole : Bool) (silence pause : ℕ) → IsQuiet (watched_due w whole silence pause)
watched_quiet w whole silence pause =
    by_tests (gives_up w silence pause) (nat_le w.beat pause) (brought whole w.stamp) (w.beat - pause)
  where
    by_tests : (silent beats : Bool) (stamp : Option ℕ) (span : ℕ)
        → IsQuiet (if silent then TellServer else (if beats then Beat stamp else Wait span))
    by_tests true beats stamp span = TellsServer
    by_tests false true stamp span = Beats stamp
    by_tests false false stamp span = Waits span

-- one that was told is called silent to others once it has a lease that is over
told_others : (term : Option ℕ) (beat silence : ℕ)
    → told_due term beat silence ≡ TellSilent
    → (t : ℕ) × ((term ≡ Some t) × IsSurelyOver t silence)
told_others None beat silence says = absurd (let no : ⊥ = cc in no)
told_others (Some t) beat silence says =
    elim (cases_Bool (nat_le (wait_for t) silence)) [
      | inl waited ↦ (t, (refl, over_after t silence (leb-true (wait_for t) silence waited)))
      | inr early ↦ absurd (let wrong = rw early at says in let no : ⊥ = cc in no)
    ]

-- and it isn't called gone by that
told_not_gone : (term : Option ℕ) (beat silence : ℕ) → told_due term beat silence ≡ TellGone → ⊥
told_not_gone None beat silence says = cc
told_not_gone (Some t) beat silence says =
    elim (cases_Bool (nat_le (wait_for t) silence)) [
      | inl waited ↦ (let wrong = rw waited at says in let no : ⊥ = cc in no)
      | inr early ↦ (let wrong = rw early at says in let no : ⊥ = cc in no)
    ]

-- others are told that it was silent by the rule
pub tells_by_rule : (w : WatchState) (whole : Bool) (now : ℕ)
    → w.standing ≢ Over
    → due w whole now ≡ TellSilent
    → (t : ℕ) × ((w.term ≡ Some t) × IsSurelyOver t (now - w.heard))
tells_by_rule w whole now = by_standing w.standing w whole now
  where
    by_standing : (standing : WatchStanding) (w : WatchState) (whole : Bool) (now : ℕ)
        → standing ≢ Over
        → standing_due standing w whole now ≡ TellSilent
        → (t : ℕ) × ((w.term ≡ Some t) × IsSurelyOver t (now - w.heard))
    by_standing Watched w whole now going says =
        absurd (quiet_not_silent (watched_due w whole (now - w.since) (now - w.sent))
        (watched_quiet w whole (now - w.since) (now - w.sent)) says)
    by_standing Told w whole now going says = told_others w.term w.beat (now - w.heard) says
    by_standing Over w whole now going says = absurd (going refl)
    by_standing Gone w whole now going says = absurd (let no : ⊥ = cc in no)

-- others are told that it does nothing more if it is gone
gone_if_told : (standing : WatchStanding) (w : WatchState) (whole : Bool) (now : ℕ)
    → standing_due standing w whole now ≡ TellGone
    → standing ≡ Gone
gone_if_told Watched w whole now says =
    absurd (quiet_not_gone (watched_due w whole (now - w.since) (now - w.sent))
    (watched_quiet w whole (now - w.since) (now - w.sent)) says)
gone_if_told Told w whole now says = absurd (told_not_gone w.term w.beat (now - w.heard) says)
gone_if_told Over w whole now says = absurd (let no : ⊥ = cc in no)
gone_if_told Gone w whole now says = refl

-- nothing but a refusal makes it gone
going_done : (w : WatchState) (now : ℕ) (watch_due : WatchDue) → w.standing ≢ Gone
    → (done w now watch_due).standing ≢ Gone
going_done w now (Wait span) going = going
going_done w now (Beat stamp) going = going
going_done w now TellServer going = λ same. let no : ⊥ = cc in no
going_done w now TellSilent going = λ same. let no : ⊥ = cc in no
going_done w now TellGone going = going

going_answered : (standing : WatchStanding) (w : WatchState) (stamp now : ℕ)
    → w.standing ≢ Gone → (heard_at standing w stamp now).standing ≢ Gone
going_answered Watched w stamp now going = going
going_answered Told w stamp now going = going
going_answered Over w stamp now going = going
going_answered Gone w stamp now going = going

refused_later : (x : Happening) (xs : List Happening) → IsRefused xs → IsRefused (x ∷ xs)
refused_later x xs by = record { before = x ∷ by.before; after = by.after; came = ap (λ ys. x ∷ ys) by.came }

gone_by_refusal : (xs : List Happening) (w : WatchState)
    → w.standing ≢ Gone
    → (happens w xs).standing ≡ Gone
    → IsRefused xs
gone_by_refusal [] w going is = absurd (going is)
gone_by_refusal (Answers stamp now ∷ xs) w going is =
    refused_later (Answers stamp now) xs
    (gone_by_refusal xs (answered w stamp now) (going_answered w.standing w stamp now going) is)
gone_by_refusal (Refuses ∷ xs) w going is = record { before = []; after = xs; came = refl }
gone_by_refusal (Asks whole now ∷ xs) w going is =
    refused_later (Asks whole now) xs
    (gone_by_refusal xs (done w now (due w whole now)) (going_done w now (due w whole now) going) is)
gone_by_refusal (Spares ∷ xs) w going is =
    refused_later Spares xs (gone_by_refusal xs (spared_watch w) going is)

pub tells_after_refusal : (w : WatchState) (xs : List Happening) (whole : Bool) (now : ℕ)
    → w.standing ≢ Gone
    → due (happens w xs) whole now ≡ TellGone
    → IsRefused xs
tells_after_refusal w xs whole now going says =
    gone_by_refusal xs w going (gone_if_told (happens w xs).standing (happens w xs) whole now says)

-- what was heard later isn't before what was heard
heard-done : (w : WatchState) (now : ℕ) (watch_due : WatchDue) → (done w now watch_due).heard ≡ w.heard
heard-done w now (Wait span) = refl
heard-done w now (Beat stamp) = refl
heard-done w now TellServer = refl
heard-done w now TellSilent = refl
heard-done w now TellGone = refl

heard_grows : (w : WatchState) (x : Happening) → w.heard ≤ (happen w x).heard
heard_grows w (Answers stamp now) = by_standing w.standing w stamp now
  where
    by_standing : (standing : WatchStanding) (w : WatchState) (stamp now : ℕ)
        → w.heard ≤ (heard_at standing w stamp now).heard
    by_standing Watched w stamp now = omega arith
    by_standing Told w stamp now = omega arith
    by_standing Over w stamp now = omega arith
    by_standing Gone w stamp now = omega arith
heard_grows w Refuses = omega arith
heard_grows w (Asks whole now) =
    let same : (done w now (due w whole now)).heard ≡ w.heard = heard-done w now (due w whole now) in omega arith
heard_grows w Spares = omega arith

pub heard_rises : (w : WatchState) (xs : List Happening) → w.heard ≤ (happens w xs).heard
heard_rises w [] = omega arith
heard_rises w (x ∷ xs) =
    let first : w.heard ≤ (happen w x).heard = heard_grows w x in
    let rest : (happen w x).heard ≤ (happens (happen w x) xs).heard = heard_rises (happen w x) xs in
    omega arith

-- who isn't watched any more is never watched again
stays_done : (w : WatchState) (now : ℕ) (watch_due : WatchDue) → w.standing ≢ Watched
    → (done w now watch_due).standing ≢ Watched
stays_done w now (Wait span) left = left
stays_done w now (Beat stamp) left = left
stays_done w now TellServer left = λ same. let no : ⊥ = cc in no
stays_done w now TellSilent left = λ same. let no : ⊥ = cc in no
stays_done w now TellGone left = left

stays_once : (w : WatchState) (x : Happening) → w.standing ≢ Watched → (happen w x).standing ≢ Watched
stays_once w (Answers stamp now) left = by_standing w.standing w stamp now left
  where
    by_standing : (standing : WatchStanding) (w : WatchState) (stamp now : ℕ)
        → w.standing ≢ Watched → (heard_at standing w stamp now).standing ≢ Watched
    by_standing Watched w stamp now left = left
    by_standing Told w stamp now left = left
    by_standing Over w stamp now left = left
    by_standing Gone w stamp now left = left
stays_once w Refuses left = λ same. let no : ⊥ = cc in no
stays_once w (Asks whole now) left = stays_done w now (due w whole now) left
stays_once w Spares left = left

stays_left : (w : WatchState) (xs : List Happening) → w.standing ≢ Watched → (happens w xs).standing ≢ Watched
stays_left w [] left = left
stays_left w (x ∷ xs) left = stays_left (happen w x) xs (stays_once w x left)

-- and gets no beat any more
no_beat : (standing : WatchStanding) (w : WatchState) (whole : Bool) (now : ℕ) (stamp : Option ℕ)
    → standing ≢ Watched
    → standing_due standing w whole now ≡ Beat stamp
    → ⊥
no_beat Watched w whole now stamp left says = left refl
no_beat Told w whole now stamp left says = no_beat_told w.term w.beat (now - w.heard) stamp says
  where
    no_beat_told : (term : Option ℕ) (beat silence : ℕ) (stamp : Option ℕ)
        → told_due term beat silence ≡ Beat stamp → ⊥
    no_beat_told None beat silence stamp says = cc
    no_beat_told (Some t) beat silence stamp says =
        elim (cases_Bool (nat_le (wait_for t) silence)) [
          | inl waited ↦ (let wrong = rw waited at says in let no : ⊥ = cc in no)
          | inr early ↦ (let wrong = rw early at says in let no : ⊥ = cc in no)
        ]
no_beat Over w whole now stamp left says = cc
no_beat Gone w whole now stamp left says = cc

pub no_beat_later : (w : WatchState) (xs : List Happening) (whole : Bool) (now : ℕ) (stamp : Option ℕ)
    → w.standing ≢ Watched
    → due (happens w xs) whole now ≢ Beat stamp
no_beat_later w xs whole now stamp left says =
    no_beat (happens w xs).standing (happens w xs) whole now stamp (stays_left w xs left) says

-- a beat brings back the stamp that was heard last, and that only in a whole epoch
pub brings_last : (w : WatchState) (whole : Bool) (now stamp : ℕ)
    → due w whole now ≡ Beat (Some stamp)
    → (whole ≡ true) × (stamp ≡ w.stamp)
brings_last w whole now stamp = by_standing w.standing w whole now stamp
  where
    by_whole : (whole : Bool) (last stamp : ℕ)
        → brought whole last ≡ Some stamp → (whole ≡ true) × (stamp ≡ last)
    by_whole true last stamp same = (refl, let is : stamp ≡ last = cc in is)
    by_whole false last stamp same = absurd (let no : ⊥ = cc in no)

    by_tests : (silent beats whole : Bool) (last stamp span : ℕ)
        → (if silent then TellServer else (if beats then Beat (brought whole last) else Wait span)) ≡ Beat (Some stamp)
        → (whole ≡ true) × (stamp ≡ last)
    by_tests true beats whole last stamp span says = absurd (let no : ⊥ = cc in no)
    by_tests false true whole last stamp span says =
        by_whole whole last stamp (let same : brought whole last ≡ Some stamp = cc in same)
    by_tests false false whole last stamp span says = absurd (let no : ⊥ = cc in no)

    by_standing : (standing : WatchStanding) (w : WatchState) (whole : Bool) (now stamp : ℕ)
        → standing_due standing w whole now ≡ Beat (Some stamp)
        → (whole ≡ true) × (stamp ≡ w.stamp)
    by_standing Watched w whole now stamp says =
        by_tests (gives_up w (now - w.since) (now - w.sent)) (nat_le w.beat (now - w.sent)) whole w.stamp stamp
        (w.beat - (now - w.sent)) says
    by_standing Told w whole now stamp says =
        absurd (no_beat Told w whole now (Some stamp) (λ same. let no : ⊥ = cc in no) says)
    by_standing Over w whole now stamp says = absurd (let no : ⊥ = cc in no)
    by_standing Gone w whole now stamp says = absurd (let no : ⊥ = cc in no)
