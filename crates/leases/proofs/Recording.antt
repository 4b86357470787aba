-- A server record has a stamp brought back only in a whole epoch: what it was told of the others says so.
use Rattle.std.proofs.Common.{◌≡◌, ℕ, ◌^◌, ◌⊎◌, inl, inr, max, Bool, true, false, ◌&&◌, nat_eq, nat_lt, bit_or}
use Rattle.std.proofs.Common.{List, [], ◌∷◌, Some, if◌then◌else◌, refl, ap, sym, ◌∙◌}
use Rattle.std.proofs.lemmas.Bool.{and_parts, eqb-true}
use Rattle.leases.specs.declared.orders.Report.{Report}
use Rattle.leases.specs.declared.watches.WatchDue.TheVariants.{Beat}
use Rattle.leases.specs.Sets.{has, is_apart}
use Rattle.leases.specs.Watching.{done}
use Rattle.leases.specs.Rolls.{RollState, enters, is_whole}
use Rattle.leases.specs.ServerRecords.{ServerRecordState, begun, lost, spared, named, is_of, reported, heard_it}
use Rattle.leases.specs.ServerRecords.{heard_other}
use Rattle.leases.specs.ServerRecords.{heard_from, watch_due_of, Call, Hears, Loses, Asks, Spares, called, calls}
use Rattle.leases.specs.ServerRecords.{HasReported, HasKnown}
use Rattle.leases.proofs.Bits.{either_has, none_has}
use Rattle.leases.proofs.Whole.{own-enters, others-enters, known-enters, one_of}
use Rattle.leases.proofs.Tellings.{brings_last}

-- what nothing changes
kept : (f : ServerRecordState → ℕ)
    → ((w : ServerRecordState) → f (lost w) ≡ f w)
    → ((w : ServerRecordState) (report : Report) (now : ℕ) → f (heard_it w report now) ≡ f w)
    → ((w : ServerRecordState) (from : ℕ) (report : Report) → f (heard_other w from report) ≡ f w)
    → ((w : ServerRecordState) (now : ℕ) → f (record w { watch = done w.watch now (watch_due_of w now) }) ≡ f w)
    → ((w : ServerRecordState) → f (spared w) ≡ f w)
    → (w : ServerRecordState) (x : Call) → f (called w x) ≡ f w
kept f loses it other asks spares w (Hears from report now) = hears w from report now
  where
    by_name : (apart : Bool) (w : ServerRecordState) → f (if apart then w else lost w) ≡ f w
    by_name true w = refl
    by_name false w = loses w

    by_mine : (mine : Bool) (n : ServerRecordState) (from : ℕ) (report : Report) (now : ℕ)
        → f (if mine then heard_it n report now else heard_other n from report) ≡ f n
    by_mine true n from report now = it n report now
    by_mine false n from report now = other n from report

    hears : (w : ServerRecordState) (from : ℕ) (report : Report) (now : ℕ) → f (heard_from w from report now) ≡ f w
    hears w from report now =
        by_mine (nat_eq from w.id) (named w report) from report now ∙ by_name (is_apart report.gone w.own) w
kept f loses it other asks spares w Loses = loses w
kept f loses it other asks spares w (Asks now) = asks w now
kept f loses it other asks spares w Spares = spares w

-- a report of the server itself changes of the roll only whom it knew
roll_it : (f : RollState → ℕ)
    → ((roll : RollState) (known : ℕ) → f (record roll { known = bit_or roll.known known }) ≡ f roll)
    → (n : ServerRecordState) (report : Report) (now : ℕ) → f (heard_it n report now).roll ≡ f n.roll
roll_it f same n report now = by_epoch (is_of n report)
  where
    by_epoch : (of : Bool)
        → f (if of then reported (record n { end = max n.end report.end }) report now
        else record n { end = max n.end report.end }).roll ≡ f n.roll
    by_epoch true = same n.roll report.known
    by_epoch false = refl

-- that of another one changes of it only who has entered
roll_other : (f : RollState → ℕ)
    → ((roll : RollState) (other gone : ℕ) → f (enters roll other gone) ≡ f roll)
    → (n : ServerRecordState) (from : ℕ) (report : Report) → f (heard_other n from report).roll ≡ f n.roll
roll_other f same n from report = by_first (is_of n report && is_apart n.seen (2 ^ from))
  where
    by_first : (first : Bool)
        → f (if first then record n {
          seen = bit_or n.seen (2 ^ from);
          roll = enters n.roll (2 ^ from) report.gone;
        } else n).roll ≡ f n.roll
    by_first true = same n.roll (2 ^ from) report.gone
    by_first false = refl

field_it : (f : ServerRecordState → ℕ)
    → ((w : ServerRecordState) (report : Report) (now : ℕ) → f (reported w report now) ≡ f w)
    → ((w : ServerRecordState) (end : ℕ) → f (record w { end = end }) ≡ f w)
    → (n : ServerRecordState) (report : Report) (now : ℕ) → f (heard_it n report now) ≡ f n
field_it f tells ends n report now = by_epoch (is_of n report)
  where
    by_epoch : (of : Bool)
        → f (if of then reported (record n { end = max n.end report.end }) report now
        else record n { end = max n.end report.end }) ≡ f n
    by_epoch true = tells (record n { end = max n.end report.end }) report now ∙ ends n (max n.end report.end)
    by_epoch false = ends n (max n.end report.end)

field_other : (f : ServerRecordState → ℕ)
    → ((w : ServerRecordState) (seen : ℕ) (roll : RollState) → f (record w { seen = seen; roll = roll }) ≡ f w)
    → (n : ServerRecordState) (from : ℕ) (report : Report) → f (heard_other n from report) ≡ f n
field_other f same n from report = by_first (is_of n report && is_apart n.seen (2 ^ from))
  where
    by_first : (first : Bool)
        → f (if first then record n {
          seen = bit_or n.seen (2 ^ from);
          roll = enters n.roll (2 ^ from) report.gone;
        } else n) ≡ f n
    by_first true = same n (bit_or n.seen (2 ^ from)) (enters n.roll (2 ^ from) report.gone)
    by_first false = refl

id-called : (w : ServerRecordState) (x : Call) → (called w x).id ≡ w.id
id-called =
    kept (λ w. w.id) (λ w. refl) (field_it (λ w. w.id) (λ w report now. refl) (λ w end. refl))
    (field_other (λ w. w.id) (λ w seen roll. refl)) (λ w now. refl) (λ w. refl)

epoch-called : (w : ServerRecordState) (x : Call) → (called w x).epoch ≡ w.epoch
epoch-called =
    kept (λ w. w.epoch) (λ w. refl) (field_it (λ w. w.epoch) (λ w report now. refl) (λ w end. refl))
    (field_other (λ w. w.epoch) (λ w seen roll. refl)) (λ w now. refl) (λ w. refl)

own-called : (w : ServerRecordState) (x : Call) → (called w x).roll.own ≡ w.roll.own
own-called =
    kept (λ w. w.roll.own) (λ w. refl) (roll_it (λ r. r.own) (λ roll known. refl))
    (roll_other (λ r. r.own) own-enters) (λ w now. refl) (λ w. refl)

others-called : (w : ServerRecordState) (x : Call) → (called w x).roll.others ≡ w.roll.others
others-called =
    kept (λ w. w.roll.others) (λ w. refl) (roll_it (λ r. r.others) (λ roll known. refl))
    (roll_other (λ r. r.others) others-enters) (λ w now. refl) (λ w. refl)

others-calls : (xs : List Call) (w : ServerRecordState) → (calls w xs).roll.others ≡ w.roll.others
others-calls [] w = refl
others-calls (x ∷ xs) w = others-calls xs (called w x) ∙ others-called w x

-- another one that has entered, had entered before, or does so by this report
other_enters : (n : ServerRecordState) (own epoch id from : ℕ) (report : Report) (now : ℕ) (xs : List Call)
    → n.roll.own ≡ own
    → n.epoch ≡ epoch
    → has (heard_other n from report).roll.entered id ≡ true
    → (has n.roll.entered id ≡ true) ⊎ HasReported own epoch (Hears from report now ∷ xs) id
other_enters n own epoch id from report now xs is_own is_epoch entered =
    by_first (is_of n report && is_apart n.seen (2 ^ from)) refl entered
  where
    by_gone : (apart : Bool)
        → report.epoch ≡ n.epoch
        → is_apart report.gone n.roll.own ≡ apart
        → has (if apart then record n.roll { entered = bit_or n.roll.entered (2 ^ from) } else n.roll).entered id ≡ true
        → (has n.roll.entered id ≡ true) ⊎ HasReported own epoch (Hears from report now ∷ xs) id
    by_gone true same apart entered =
        elim (either_has n.roll.entered (2 ^ from) id entered) [
          | inl before ↦ inl before
          | inr new ↦ inr record {
            before = [];
            after = xs;
            from = from;
            report = report;
            now = now;
            came = refl;
            same = new;
            is_in = same ∙ is_epoch;
            apart = sym (ap (λ s. is_apart report.gone s) is_own) ∙ apart;
          }
        ]
    by_gone false same knew entered = inl entered

    by_first : (first : Bool)
        → (is_of n report && is_apart n.seen (2 ^ from)) ≡ first
        → has (if first then record n {
          seen = bit_or n.seen (2 ^ from);
          roll = enters n.roll (2 ^ from) report.gone;
        } else n).roll.entered id ≡ true
        → (has n.roll.entered id ≡ true) ⊎ HasReported own epoch (Hears from report now ∷ xs) id
    by_first true is entered =
        by_gone (is_apart report.gone n.roll.own)
        (eqb-true report.epoch n.epoch (and_parts (nat_lt 0 n.epoch) (nat_eq report.epoch n.epoch)
        (and_parts (is_of n report) (is_apart n.seen (2 ^ from)) is).0).1)
        refl entered
    by_first false is entered = inl entered

entered_at_first : (w : ServerRecordState) (own epoch id : ℕ) (x : Call) (xs : List Call)
    → w.roll.own ≡ own
    → w.epoch ≡ epoch
    → has (called w x).roll.entered id ≡ true
    → (has w.roll.entered id ≡ true) ⊎ HasReported own epoch (x ∷ xs) id
entered_at_first w own epoch id Loses xs is_own is_epoch entered = inl entered
entered_at_first w own epoch id (Asks now) xs is_own is_epoch entered = inl entered
entered_at_first w own epoch id Spares xs is_own is_epoch entered = inl entered
entered_at_first w own epoch id (Hears from report now) xs is_own is_epoch entered =
    by_name (is_apart report.gone w.own) (nat_eq from w.id) entered
  where
    by_mine : (mine : Bool) (n : ServerRecordState)
        → n.roll.own ≡ own
        → n.epoch ≡ epoch
        → has (if mine then heard_it n report now else heard_other n from report).roll.entered id ≡ true
        → (has n.roll.entered id ≡ true) ⊎ HasReported own epoch (Hears from report now ∷ xs) id
    by_mine true n owns epochs entered =
        inl (sym (ap (λ s. has s id) (roll_it (λ r. r.entered) (λ roll known. refl) n report now)) ∙ entered)
    by_mine false n owns epochs entered = other_enters n own epoch id from report now xs owns epochs entered

    by_name : (apart mine : Bool)
        → has (if mine then heard_it (if apart then w else lost w) report now
        else heard_other (if apart then w else lost w) from report).roll.entered id ≡ true
        → (has w.roll.entered id ≡ true) ⊎ HasReported own epoch (Hears from report now ∷ xs) id
    by_name true mine entered = by_mine mine w is_own is_epoch entered
    by_name false mine entered = by_mine mine (lost w) is_own is_epoch entered

entered_at_one : (xs : List Call) (w : ServerRecordState) (own epoch id : ℕ)
    → w.roll.own ≡ own
    → w.epoch ≡ epoch
    → has (calls w xs).roll.entered id ≡ true
    → (has w.roll.entered id ≡ true) ⊎ HasReported own epoch xs id
entered_at_one [] w own epoch id is_own is_epoch entered = inl entered
entered_at_one (x ∷ xs) w own epoch id is_own is_epoch entered =
    elim (entered_at_one xs (called w x) own epoch id (own-called w x ∙ is_own) (epoch-called w x ∙ is_epoch) entered) [
      | inl early ↦ entered_at_first w own epoch id x xs is_own is_epoch early
      | inr by ↦ inr record {
        before = x ∷ by.before;
        after = by.after;
        from = by.from;
        report = by.report;
        now = by.now;
        came = ap (λ ys. x ∷ ys) by.came;
        same = by.same;
        is_in = by.is_in;
        apart = by.apart;
      }
    ]

-- whom it knew to be gone, it told before, or does so by this report
it_knows : (n : ServerRecordState) (me id from : ℕ) (report : Report) (now : ℕ) (xs : List Call)
    → from ≡ me
    → has (heard_it n report now).roll.known id ≡ true
    → (has n.roll.known id ≡ true) ⊎ HasKnown me (Hears from report now ∷ xs) id
it_knows n me id from report now xs is known = by_epoch (is_of n report) known
  where
    by_epoch : (of : Bool)
        → has (if of then reported (record n { end = max n.end report.end }) report now
        else record n { end = max n.end report.end }).roll.known id ≡ true
        → (has n.roll.known id ≡ true) ⊎ HasKnown me (Hears from report now ∷ xs) id
    by_epoch true known =
        elim (either_has n.roll.known report.known id known) [
          | inl before ↦ inl before
          | inr new ↦ inr record {
            before = [];
            after = xs;
            from = from;
            report = report;
            now = now;
            came = refl;
            own = is;
            named = new;
          }
        ]
    by_epoch false known = inl known

known_at_first : (w : ServerRecordState) (me id : ℕ) (x : Call) (xs : List Call)
    → w.id ≡ me
    → has (called w x).roll.known id ≡ true
    → (has w.roll.known id ≡ true) ⊎ HasKnown me (x ∷ xs) id
known_at_first w me id Loses xs is known = inl known
known_at_first w me id (Asks now) xs is known = inl known
known_at_first w me id Spares xs is known = inl known
known_at_first w me id (Hears from report now) xs is known =
    by_name (is_apart report.gone w.own) (nat_eq from w.id) refl known
  where
    by_mine : (mine : Bool) (n : ServerRecordState)
        → nat_eq from w.id ≡ mine
        → has (if mine then heard_it n report now else heard_other n from report).roll.known id ≡ true
        → (has n.roll.known id ≡ true) ⊎ HasKnown me (Hears from report now ∷ xs) id
    by_mine true n mine known = it_knows n me id from report now xs (eqb-true from w.id mine ∙ is) known
    by_mine false n mine known =
        inl (sym (ap (λ s. has s id) (roll_other (λ r. r.known) known-enters n from report)) ∙ known)

    by_name : (apart mine : Bool)
        → nat_eq from w.id ≡ mine
        → has (if mine then heard_it (if apart then w else lost w) report now
        else heard_other (if apart then w else lost w) from report).roll.known id ≡ true
        → (has w.roll.known id ≡ true) ⊎ HasKnown me (Hears from report now ∷ xs) id
    by_name true mine own known = by_mine mine w own known
    by_name false mine own known = by_mine mine (lost w) own known

known_at_one : (xs : List Call) (w : ServerRecordState) (me id : ℕ)
    → w.id ≡ me
    → has (calls w xs).roll.known id ≡ true
    → (has w.roll.known id ≡ true) ⊎ HasKnown me xs id
known_at_one [] w me id is known = inl known
known_at_one (x ∷ xs) w me id is known =
    elim (known_at_one xs (called w x) me id (id-called w x ∙ is) known) [
      | inl early ↦ known_at_first w me id x xs is early
      | inr by ↦ inr record {
        before = x ∷ by.before;
        after = by.after;
        from = by.from;
        report = by.report;
        now = by.now;
        came = ap (λ ys. x ∷ ys) by.came;
        own = by.own;
        named = by.named;
      }
    ]

-- a beat brings back a stamp only to a server in the epoch, and only if the epoch is whole
pub whole_for_beat : (w : ServerRecordState) (now stamp : ℕ)
    → watch_due_of w now ≡ Beat (Some stamp)
    → (w.is_in ≡ true) × (is_whole w.roll ≡ true)
whole_for_beat w now stamp says =
    and_parts w.is_in (is_whole w.roll) (brings_last w.watch (w.is_in && is_whole w.roll) now stamp says).0

-- so each other server has told that it is in it, and didn't know that this one is gone, or this one knew that of it
pub told_for_beat : (w : ServerRecordState) (epoch : ℕ) (xs : List Call) (now stamp id : ℕ)
    → watch_due_of (calls (begun w epoch) xs) now ≡ Beat (Some stamp)
    → has w.others id ≡ true
    → HasReported w.own epoch xs id ⊎ HasKnown w.id xs id
told_for_beat w epoch xs now stamp id says other =
    elim (one_of (calls (begun w epoch) xs).roll id
    (whole_for_beat (calls (begun w epoch) xs) now stamp says).1
    (ap (λ s. has s id) (others-calls xs (begun w epoch)) ∙ other)) [
      | inl entered ↦ elim (entered_at_one xs (begun w epoch) w.own epoch id refl refl entered) [
        | inl early ↦ absurd (none_has id early)
        | inr by ↦ inl by
      ]
      | inr known ↦ elim (known_at_one xs (begun w epoch) w.id id refl known) [
        | inl early ↦ absurd (none_has id early)
        | inr by ↦ inr by
      ]
    ]
