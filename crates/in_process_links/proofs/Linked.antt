-- What is put on the links between the servers of one process.
use Rattle.std.proofs.Common.{◌≡◌, ◌≢◌, ℕ, zero, suc, ◌<◌, ◌≤◌, Bool, true, false, if◌then◌else◌, List, [], ◌∷◌, ◌++◌}
use Rattle.std.proofs.Common.{length, slice_index_or, slice_set, nat_lt, refl, ap, sym, arith}
use Rattle.node.specs.declared.messages.Peer.{Peer}
use Rattle.node.specs.declared.messages.Input.TheVariants.{From}
use Rattle.rail.specs.declared.inbox_messages.InboxMessage.{InboxMessage}
use Rattle.rail.specs.declared.inbox_messages.InboxMessage.TheVariants.{Took}
use Rattle.in_process_links.specs.declared.inbox_links.InboxLink.{InboxLink}
use Rattle.in_process_links.specs.InProcessLinks.{before_last, failures_at, last_brought, last_put, sent_at, sent_by}
use Rattle.in_process_links.specs.InProcessLinks.{all_leads, leads, sent_on, without_last}

-- after one inbox message more the last one is that
last_of : (to : ℕ) (i : ℕ) (peer : Peer) (es : List InboxMessage)
    → last_brought to (es ++ Took (From i peer) ∷ []) ≡ (to, peer) ∷ []
last_of to i peer [] = refl
last_of to i peer (e ∷ []) = refl
last_of to i peer (e ∷ (f ∷ es)) = last_of to i peer (f ∷ es)

without : {A : Type 0} (e : A) (es : List A) → without_last (es ++ e ∷ []) ≡ es
without e [] = refl
without e (f ∷ []) = refl
without e (f ∷ (h ∷ es)) = ap (λ w. f ∷ w) (without e (h ∷ es))

-- the link at a place was given a message: it is the last one there
pub put_at : (to i place : ℕ) (peer : Peer) (ls : List InboxLink) (d x : InboxLink) → place < length ls
    → sent_by x.inlet ≡ sent_by (slice_index_or ls place d).inlet ++ Took (From i peer) ∷ []
    → last_put to place (sent_on (slice_set ls place x)) ≡ (to, peer) ∷ []
put_at to i place peer [] d x within more = absurd (omega (arith, within))
put_at to i zero peer (l ∷ ls) d x within more = rw more (last_of to i peer (sent_by l.inlet))
put_at to i (suc place) peer (l ∷ ls) d x within more = put_at to i place peer ls d x (omega (arith, within)) more

-- and what was sent before it is what was sent
pub before_at : (i place : ℕ) (peer : Peer) (ls : List InboxLink) (d x : InboxLink) → place < length ls
    → sent_by x.inlet ≡ sent_by (slice_index_or ls place d).inlet ++ Took (From i peer) ∷ []
    → before_last place (sent_on (slice_set ls place x)) ≡ sent_on ls
before_at i place peer [] d x within more = absurd (omega (arith, within))
before_at i zero peer (l ∷ ls) d x within more =
    let last : without_last (sent_by x.inlet) ≡ sent_by l.inlet =
    rw more (without (Took (From i peer)) (sent_by l.inlet)) in
    ap (λ es. es ∷ sent_on ls) last
before_at i (suc place) peer (l ∷ ls) d x within more =
    ap (λ rest. sent_by l.inlet ∷ rest) (before_at i place peer ls d x (omega (arith, within)) more)

-- it was given just this
pub given_at : (i place : ℕ) (peer : Peer) (ls : List InboxLink) (d x : InboxLink) → place < length ls
    → sent_by x.inlet ≡ sent_by (slice_index_or ls place d).inlet ++ Took (From i peer) ∷ []
    → sent_at (sent_on (slice_set ls place x)) place ≡ sent_at (sent_on ls) place ++ Took (From i peer) ∷ []
given_at i place peer [] d x within more = absurd (omega (arith, within))
given_at i zero peer (l ∷ ls) d x within more = more
given_at i (suc place) peer (l ∷ ls) d x within more = given_at i place peer ls d x (omega (arith, within)) more

-- and the others nothing
pub others_at : (place : ℕ) (ls : List InboxLink) (x : InboxLink) (j : ℕ)
    → j ≢ place
    → sent_at (sent_on (slice_set ls place x)) j ≡ sent_at (sent_on ls) j
others_at place [] x j other = refl
others_at zero (l ∷ ls) x zero other = absurd (other refl)
others_at zero (l ∷ ls) x (suc j) other = refl
others_at (suc place) (l ∷ ls) x zero other = refl
others_at (suc place) (l ∷ ls) x (suc j) other = others_at place ls x j (λ same. other (ap suc same))

-- the link at a place was given nothing
pub unsent_at : (place : ℕ) (ls : List InboxLink) (d x : InboxLink) → place < length ls
    → sent_by x.inlet ≡ sent_by (slice_index_or ls place d).inlet
    → sent_on (slice_set ls place x) ≡ sent_on ls
unsent_at place [] d x within same = absurd (omega (arith, within))
unsent_at zero (l ∷ ls) d x within same = ap (λ es. es ∷ sent_on ls) same
unsent_at (suc place) (l ∷ ls) d x within same =
    ap (λ rest. sent_by l.inlet ∷ rest) (unsent_at place ls d x (omega (arith, within)) same)

-- a link whose inlet leads where it led
pub same_leads : (place : ℕ) (ls : List InboxLink) (d x : InboxLink) → place < length ls
    → leads x.inlet ≡ leads (slice_index_or ls place d).inlet
    → all_leads (slice_set ls place x) ≡ all_leads ls
same_leads place [] d x within same = absurd (omega (arith, within))
same_leads zero (l ∷ ls) d x within same = ap (λ lead. lead ∷ all_leads ls) same
same_leads (suc place) (l ∷ ls) d x within same =
    ap (λ rest. leads l.inlet ∷ rest) (same_leads place ls d x (omega (arith, within)) same)

-- a link that has failed has failures
pub failed_at : (place : ℕ) (ls : List InboxLink) (x : InboxLink)
    → place < length ls
    → x.has_failed ≡ true
    → 0 < failures_at (slice_set ls place x) place
failed_at place [] x within bad = absurd (omega (arith, within))
failed_at zero (l ∷ ls) x within bad = rw bad omega arith
failed_at (suc place) (l ∷ ls) x within bad = failed_at place ls x (omega (arith, within)) bad

at_most : (b : Bool) → (if b then 1 else 0) ≤ 1
at_most true = omega arith
at_most false = omega arith

-- and none has fewer
pub more_failed : (place : ℕ) (ls : List InboxLink) (x : InboxLink) (j : ℕ) → place < length ls → x.has_failed ≡ true
    → failures_at ls j ≤ failures_at (slice_set ls place x) j
more_failed place [] x j within bad = absurd (omega (arith, within))
more_failed zero (l ∷ ls) x zero within bad = rw bad (at_most l.has_failed)
more_failed zero (l ∷ ls) x (suc j) within bad = omega arith
more_failed (suc place) (l ∷ ls) x zero within bad = omega arith
more_failed (suc place) (l ∷ ls) x (suc j) within bad = more_failed place ls x j (omega (arith, within)) bad

-- a link that is as it was has as many
pub as_failed : (place : ℕ) (ls : List InboxLink) (d x : InboxLink) (j : ℕ) → place < length ls
    → x.has_failed ≡ (slice_index_or ls place d).has_failed
    → failures_at ls j ≤ failures_at (slice_set ls place x) j
as_failed place [] d x j within same = absurd (omega (arith, within))
as_failed zero (l ∷ ls) d x zero within same = rw same omega arith
as_failed zero (l ∷ ls) d x (suc j) within same = omega arith
as_failed (suc place) (l ∷ ls) d x zero within same = omega arith
as_failed (suc place) (l ∷ ls) d x (suc j) within same = as_failed place ls d x j (omega (arith, within)) same

-- beyond the last link each has failed
pub beyond : (place : ℕ) (ls : List InboxLink) → length ls ≤ place → failures_at ls place ≡ 1
beyond place [] out = refl
beyond zero (l ∷ ls) out = absurd (omega (arith, out))
beyond (suc place) (l ∷ ls) out = beyond place ls (omega (arith, out))

counts : (b : Bool) → nat_lt 0 (if b then 1 else 0) ≡ b
counts true = refl
counts false = refl

-- a link has failures exactly if it has failed
pub tells_failed : (place : ℕ) (ls : List InboxLink) (d : InboxLink)
    → place < length ls
    → (slice_index_or ls place d).has_failed ≡ nat_lt 0 (failures_at ls place)
tells_failed place [] d within = absurd (omega (arith, within))
tells_failed zero (l ∷ ls) d within = sym (counts l.has_failed)
tells_failed (suc place) (l ∷ ls) d within = tells_failed place ls d (omega (arith, within))

-- beyond the last link each has
pub tells_beyond : (place : ℕ) (ls : List InboxLink) → length ls ≤ place → true ≡ nat_lt 0 (failures_at ls place)
tells_beyond place ls out = rw (beyond place ls out) refl

-- what a message that is put on a link changes
pub ruleset putting =
    (put_at, before_at, given_at, others_at, unsent_at, same_leads, failed_at, more_failed, as_failed, beyond)
