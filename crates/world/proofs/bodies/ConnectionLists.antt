-- Connections in a list, one of which changes.
use Rattle.std.proofs.Common.{◌≡◌, ℕ, zero, suc, ◌<◌, ◌≤◌, Bool, true, false, cond, List, [], ◌∷◌, length, Option, None}
use Rattle.std.proofs.Common.{Some, refl, sym, ◌∙◌, get_or, set, ap, subst, arith}
use Rattle.std.proofs.lemmas.List.{set-get_or}
use Rattle.std.proofs.lemmas.Option.{slice_get_within, get_or_from_slice_get}
use Rattle.std.specs.Prelude.{slice_get}
use Rattle.table.specs.declared.operations.Call.{Call}
use Rattle.node.specs.declared.messages.Input.TheVariants.{Call as Called}
use Rattle.world.specs.Connections.{Connection, changed_at, to_work, asked}
use Rattle.world.specs.Worlds.{World, home_lives, where_home_lives, with_connection, takes, sent_in, worked}

-- a change written back, as the change of that place
pub set_changed : (ks : List Connection) (c : ℕ) (change : Connection → Connection) (old new : Connection)
    → c < length ks
    → old ≡ get_or ks c old
    → new ≡ change old
    → set ks c new ≡ changed_at ks c change
set_changed [] c change old new below at_c is = absurd (omega arith)
set_changed (k ∷ ks) zero change old new below at_c is =
    let one : new ≡ change k = is ∙ ap change at_c in ap (λ x. x ∷ ks) one
set_changed (k ∷ ks) (suc c) change old new below at_c is =
    ap (λ xs. k ∷ xs) (set_changed ks c change old new (omega arith) at_c is)

-- past the end nothing changes
pub past_changed : (ks : List Connection) (c : ℕ) (change : Connection → Connection)
    → length ks ≤ c
    → changed_at ks c change ≡ ks
past_changed [] c change past = refl
past_changed (k ∷ ks) zero change past = absurd (omega arith)
past_changed (k ∷ ks) (suc c) change past = ap (λ xs. k ∷ xs) (past_changed ks c change (omega arith))

-- the same of a connection whose home lives
written_served : (w : World) (ks : List Connection) (c : ℕ) (change : Connection → Connection) (old new : Connection)
    → home_lives w (slice_get ks c) ≡ true
    → old ≡ get_or ks c old
    → new ≡ change old
    → set ks c new ≡ changed_at ks c (where_home_lives w change)
written_served w [] c change old new served at_c is = cc
written_served w (k ∷ ks) zero change old new served at_c is =
    let one : new ≡ change k = is ∙ ap change at_c in rw served (ap (λ x. x ∷ ks) one)
written_served w (k ∷ ks) (suc c) change old new served at_c is =
    ap (λ xs. k ∷ xs) (written_served w ks c change old new served at_c is)

-- any other stays as it is
kept_unserved : (w : World) (ks : List Connection) (c : ℕ) (change : Connection → Connection)
    → home_lives w (slice_get ks c) ≡ false
    → ks ≡ changed_at ks c (where_home_lives w change)
kept_unserved w [] c change unserved = refl
kept_unserved w (k ∷ ks) zero change unserved = rw unserved refl
kept_unserved w (k ∷ ks) (suc c) change unserved = ap (λ xs. k ∷ xs) (kept_unserved w ks c change unserved)

-- the world with a served connection's change written back
pub served_changed : (v w : World)
    → v ≡ w
    → (c : ℕ) (change : Connection → Connection) (old new : Connection)
    → home_lives w (slice_get w.connections c) ≡ true
    → old ≡ get_or v.connections c old
    → new ≡ change old
    → record v { connections = set v.connections c new } ≡ with_connection w c (where_home_lives w change)
unfolding with_connection
served_changed v w same c change old new served at_c is =
    rw (← same) (ap (λ ks. record v { connections = ks })
    (written_served v v.connections c change old new (rw (← same) at served) at_c is))

-- the world with no change, if the connection isn't served
pub unserved_kept : (w : World) (c : ℕ) (change : Connection → Connection)
    → home_lives w (slice_get w.connections c) ≡ false
    → w ≡ with_connection w c (where_home_lives w change)
unfolding with_connection
unserved_kept w c change unserved =
    ap (λ ks. record w { connections = ks }) (kept_unserved w w.connections c change unserved)

-- a served connection is the one that is read
pub served_at : (w : World) (ks : List Connection) (c : ℕ) (old : Connection)
    → home_lives w (slice_get ks c) ≡ true
    → old ≡ get_or ks c old
    → slice_get ks c ≡ Some old
served_at w [] c old served at_c = cc
served_at w (k ∷ ks) zero old served at_c = ap Some (sym at_c)
served_at w (k ∷ ks) (suc c) old served at_c = served_at w ks c old served at_c

-- at a connection that is there, and whose home lives, `work` gives its begun call to the home
pub worked_one : (w : World) (c : ℕ) (o : Option Connection) (k : Connection)
    → o ≡ Some k
    → home_lives w o ≡ true
    → worked w c o ≡ sent_in w c k.home (to_work k.stage k)
worked_one w c None k here served = cc
worked_one w c (Some j) k here served = let same : j ≡ k = cc in
    ap (λ (b : Bool). cond b (sent_in w c j.home (to_work j.stage j)) w) served
    ∙ ap (λ (x : Connection). sent_in w c x.home (to_work x.stage x)) same

asked_written : (w : World) (c : ℕ) (old new : Connection)
    → slice_get w.connections c ≡ Some old
    → new ≡ asked old
    → record w { connections = set w.connections c new } ≡ with_connection w c asked
unfolding with_connection
asked_written w c old new here is =
    let below = slice_get_within w.connections c old here in
    let at_c = sym (get_or_from_slice_get w.connections c old old here) in
    ap (λ ks. record w { connections = ks }) (set_changed w.connections c asked old new below at_c is)

one_worked : (w : World) (c home : ℕ) (old new : Connection) (call : Call)
    → home_lives w (slice_get w.connections c) ≡ true
    → old ≡ get_or w.connections c old
    → home ≡ old.home
    → Some call ≡ to_work old.stage old
    → new ≡ asked old
    → takes (record w { connections = set w.connections c new }) home (Called c call)
    ≡ worked w c (slice_get w.connections c)
one_worked w c home old new call served at_c home_is call_is is =
    let here = served_at w w.connections c old served at_c in
    ap (λ (u : World). takes u home (Called c call)) (asked_written w c old new here is)
    ∙ ap (λ (h : ℕ). takes (with_connection w c asked) h (Called c call)) home_is
    ∙ ap (sent_in w c old.home) call_is
    ∙ sym (worked_one w c (slice_get w.connections c) old here served)

-- a call that waits at a served connection is worked
pub call_worked : (v w : World)
    → v ≡ w
    → (c home : ℕ) (old new : Connection) (call : Call)
    → home_lives w (slice_get w.connections c) ≡ true
    → old ≡ get_or v.connections c old
    → home ≡ old.home
    → Some call ≡ to_work old.stage old
    → new ≡ asked old
    → takes (record v { connections = set v.connections c new }) home (Called c call)
    ≡ worked w c (slice_get w.connections c)
call_worked v w same c home old new call served at_c home_is call_is is =
    subst (λ (x : World). home_lives x (slice_get x.connections c) ≡ true
    → takes (record v { connections = set v.connections c new }) home (Called c call)
    ≡ worked x c (slice_get x.connections c)) same
    (λ here. one_worked v c home old new call here at_c home_is call_is is) served

one_unworked : (w : World) (c : ℕ) (old new : Connection)
    → home_lives w (slice_get w.connections c) ≡ true
    → old ≡ get_or w.connections c old
    → None ≡ to_work old.stage old
    → new ≡ old
    → record w { connections = set w.connections c new } ≡ worked w c (slice_get w.connections c)
one_unworked w c old new served at_c none is =
    let kept : set w.connections c new ≡ w.connections =
    ap (set w.connections c) (is ∙ at_c) ∙ set-get_or w.connections c old in
    ap (λ ks. record w { connections = ks }) kept ∙ ap (sent_in w c old.home) none
    ∙ sym (worked_one w c (slice_get w.connections c) old (served_at w w.connections c old served at_c) served)

-- if none waits, none is worked
pub none_worked : (v w : World)
    → v ≡ w
    → (c : ℕ) (old new : Connection)
    → home_lives w (slice_get w.connections c) ≡ true
    → old ≡ get_or v.connections c old
    → None ≡ to_work old.stage old
    → new ≡ old
    → record v { connections = set v.connections c new } ≡ worked w c (slice_get w.connections c)
none_worked v w same c old new served at_c none is =
    subst (λ (x : World). home_lives x (slice_get x.connections c) ≡ true
    → record v { connections = set v.connections c new } ≡ worked x c (slice_get x.connections c)) same
    (λ here. one_unworked v c old new here at_c none is) served
