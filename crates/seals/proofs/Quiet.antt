-- What is quiet stays so.
use Rattle.std.proofs.Common.{◌≡◌, ℕ, true, false, ◌∷◌, ◌++◌, [], ap, sym, ◌∙◌, subst, arith}
use Rattle.std.proofs.lemmas.Bool.{true≢false}
use Rattle.leases.specs.Sets.{has}
use Rattle.successions.proofs.Basics.{changed_at, at_same}
use Rattle.seals.specs.declared.markers.Numbers.{Numbers}
use Rattle.seals.specs.Seals.{begins}
use Rattle.seals.specs.Runs.{Begun, Passed, Update, Mark, Work, Flag, Run, has_begun, has_update}
use Rattle.seals.specs.Runs.{May, Follows, Sees, Begins, Holds, Takes, Passes, Works, Reads, Sends, Hears, Drops}
use Rattle.seals.specs.Runs.{Learns, Marks, Reaches, Reports, counts, AreHeld, AreQuiet}
use Rattle.seals.proofs.Lanes.{begun_passed, update_mark, none_in_rest}
use Rattle.seals.proofs.Keeps.{both_one}

pub stays : (members threads : ℕ) (numbers : Numbers) (w next : Run) → AreQuiet members threads numbers w
    → May members threads w next → AreHeld members numbers.view next → AreQuiet members threads numbers next
stays members threads numbers w next q (Follows i phase) held = record {
  held = held.held;
  flags = q.flags;
  inlets = q.inlets;
  links = q.links;
  tables = q.tables;
  resting = q.resting;
}
stays members threads numbers w next q (Sees i thread) held = record {
  held = held.held;
  flags = λ k t counting less. both_one (λ (f : Flag). f.begins ≡ false) w.flags i thread
      (record { begins = begins (w.seals i).hold; epoch = (w.seals i).epoch }) k t
      (λ e f. subst (λ a. begins (w.seals a).hold ≡ false) e (held.held k counting)) (q.flags k t counting less);
  inlets = q.inlets;
  links = q.links;
  tables = q.tables;
  resting = q.resting;
}
stays members threads numbers w next q (Begins i thread real begins_it) held = record {
  held = held.held;
  flags = q.flags;
  inlets = λ k t counting. both_one (λ x. has_begun x ≡ false) w.inlets i thread
      (w.inlets i thread ++ Begun ∷ []) k t
      (λ e f. absurd (true≢false (sym begins_it
      ∙ q.flags i thread (subst (counts members numbers.view) e counting) real)))
      (q.inlets k t counting);
  links = q.links;
  tables = q.tables;
  resting = q.resting;
}
stays members threads numbers w next q (Holds i thread holds_it) held = record {
  held = held.held;
  flags = q.flags;
  inlets = λ k t counting. both_one (λ x. has_begun x ≡ false) w.inlets i thread
      (w.inlets i thread ++ Passed (w.flags i thread).epoch ∷ []) k t
      (λ e f. begun_passed (w.inlets i thread) (w.flags i thread).epoch
      ∙ q.inlets i thread (subst (counts members numbers.view) e counting))
      (q.inlets k t counting);
  links = q.links;
  tables = q.tables;
  resting = q.resting;
}
stays members threads numbers w next q (Takes i thread rest work at m) held = record {
  held = held.held;
  flags = q.flags;
  inlets = λ k t counting. both_one (λ x. has_begun x ≡ false) w.inlets i thread rest k t
      (λ e f. absurd (none k e counting)) (q.inlets k t counting);
  links = q.links;
  tables = λ k counting. changed_at (λ (x : Work). x.table.numbers ≡ numbers) w.works i work k
      (λ e. absurd (none k e counting)) (q.tables k counting);
  resting = λ k counting. changed_at (λ (x : Work). x.active ≡ false) w.works i work k
      (λ e. absurd (none k e counting)) (q.resting k counting);
}
  where
    none : (k : ℕ) → k ≡ i → counts members numbers.view k → ⊥
    none k e counting =
        true≢false (sym (ap has_begun at) ∙ q.inlets i thread (subst (counts members numbers.view) e counting))
stays members threads numbers w next q (Passes i thread epoch rest at) held = record {
  held = held.held;
  flags = q.flags;
  inlets = λ k t counting. both_one (λ x. has_begun x ≡ false) w.inlets i thread rest k t
      (λ e f. sym (ap has_begun at) ∙ q.inlets i thread (subst (counts members numbers.view) e counting))
      (q.inlets k t counting);
  links = q.links;
  tables = q.tables;
  resting = q.resting;
}
stays members threads numbers w next q (Works i work active m) held = record {
  held = held.held;
  flags = q.flags;
  inlets = q.inlets;
  links = q.links;
  tables = λ k counting. changed_at (λ (x : Work). x.table.numbers ≡ numbers) w.works i work k
      (λ e. absurd (none k e counting)) (q.tables k counting);
  resting = λ k counting. changed_at (λ (x : Work). x.active ≡ false) w.works i work k
      (λ e. absurd (none k e counting)) (q.resting k counting);
}
  where
    none : (k : ℕ) → k ≡ i → counts members numbers.view k → ⊥
    none k e counting = true≢false (sym active ∙ q.resting i (subst (counts members numbers.view) e counting))
stays members threads numbers w next q (Reads i busy rests) held = record {
  held = held.held;
  flags = q.flags;
  inlets = q.inlets;
  links = q.links;
  tables = λ k counting. changed_at (λ (x : Work). x.table.numbers ≡ numbers) w.works i new k
      (λ e. q.tables i (subst (counts members numbers.view) e counting)) (q.tables k counting);
  resting = λ k counting. changed_at (λ (x : Work). x.active ≡ false) w.works i new k (λ e. rests)
      (q.resting k counting);
}
  where
    new : Work
    new = record (w.works i) { table = record (w.works i).table { busy = busy } }
stays members threads numbers w next q (Sends i j member other active) held = record {
  held = held.held;
  flags = q.flags;
  inlets = q.inlets;
  links = λ k l out to. both_one (λ x. has_update x ≡ false) w.links i j
      (w.links i j ++ Update (w.works i).rested ∷ []) k l
      (λ e f. absurd (true≢false (sym active ∙ q.resting i (member, subst (λ a. has numbers.view a ≡ false) e out))))
      (q.links k l out to);
  tables = q.tables;
  resting = q.resting;
}
stays members threads numbers w next q (Hears i j rested rest work at known m) held = record {
  held = held.held;
  flags = q.flags;
  inlets = q.inlets;
  links = λ k l out to. both_one (λ x. has_update x ≡ false) w.links i j rest k l
      (λ e f. absurd (none l f to)) (q.links k l out to);
  tables = λ k counting. changed_at (λ (x : Work). x.table.numbers ≡ numbers) w.works j work k
      (λ e. absurd (none k e counting)) (q.tables k counting);
  resting = λ k counting. changed_at (λ (x : Work). x.active ≡ false) w.works j work k
      (λ e. absurd (none k e counting)) (q.resting k counting);
}
  where
    none : (k : ℕ) → k ≡ j → counts members numbers.view k → ⊥
    none k e counting =
        let to = (subst (counts members numbers.view) e counting) in
        let out : has numbers.view i ≡ false =
        subst (λ (u : Numbers). has u.view i ≡ false) (q.tables j to) known in
        true≢false (sym (ap has_update at) ∙ q.links i j out to)
stays members threads numbers w next q (Drops i j item rest at known) held = record {
  held = held.held;
  flags = q.flags;
  inlets = q.inlets;
  links = λ k l out to. both_one (λ x. has_update x ≡ false) w.links i j rest k l
      (λ e f. none_in_rest item rest (sym (ap has_update at)
      ∙ q.links i j (subst (λ a. has numbers.view a ≡ false) e out) (subst (counts members numbers.view) f to)))
      (q.links k l out to);
  tables = q.tables;
  resting = q.resting;
}
stays members threads numbers w next q (Learns i work more m) held = record {
  held = held.held;
  flags = q.flags;
  inlets = q.inlets;
  links = q.links;
  tables = λ k counting. changed_at (λ (x : Work). x.table.numbers ≡ numbers) w.works i work k
      (λ e. absurd (none k e counting)) (q.tables k counting);
  resting = λ k counting. changed_at (λ (x : Work). x.active ≡ false) w.works i work k
      (λ e. absurd (none k e counting)) (q.resting k counting);
}
  where
    none : (k : ℕ) → k ≡ i → counts members numbers.view k → ⊥
    none k e counting =
        let me = (subst (counts members numbers.view) e counting) in
        let now : work.table.numbers.view ≡ numbers.view =
        subst (λ (x : Work). x.table.numbers.view ≡ numbers.view) (at_same w.works i work) (held.same i me) in
        let was : (w.works i).table.numbers.view ≡ numbers.view = ap (λ (u : Numbers). u.view) (q.tables i me) in
        omega (arith, more, now, was)
stays members threads numbers w next q (Marks i j marker is) held = record {
  held = held.held;
  flags = q.flags;
  inlets = q.inlets;
  links = λ k l out to. both_one (λ x. has_update x ≡ false) w.links i j
      (w.links i j ++ Mark marker ∷ []) k l
      (λ e f. update_mark (w.links i j) marker
      ∙ q.links i j (subst (λ a. has numbers.view a ≡ false) e out) (subst (counts members numbers.view) f to))
      (q.links k l out to);
  tables = q.tables;
  resting = q.resting;
}
stays members threads numbers w next q (Reaches i j marker rest at known) held = record {
  held = held.held;
  flags = q.flags;
  inlets = q.inlets;
  links = λ k l out to. both_one (λ x. has_update x ≡ false) w.links i j rest k l
      (λ e f. sym (ap has_update at)
      ∙ q.links i j (subst (λ a. has numbers.view a ≡ false) e out) (subst (counts members numbers.view) f to))
      (q.links k l out to);
  tables = q.tables;
  resting = q.resting;
}
stays members threads numbers w next q (Reports i) held = record {
  held = held.held;
  flags = q.flags;
  inlets = q.inlets;
  links = q.links;
  tables = q.tables;
  resting = q.resting;
}
