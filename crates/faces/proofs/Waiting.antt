-- The queue of versions without item.
use Rattle.std.proofs.Common.{◌≡◌, ◌≢◌, ◌⊎◌, inl, inr, ⊎_elim, ℕ, ◌+◌, ◌-◌, ◌≤◌, ◌<◌, zero, suc, nat_le, Bool, true}
use Rattle.std.proofs.Common.{false, true≢false, not, cond, ◌&&◌, if◌then◌else◌, List, [], ◌∷◌, ◌++◌, length}
use Rattle.std.proofs.Common.{slice_index_or, Option, Some, None, is_some, refl, ap, sym, ◌∙◌, subst, arith}
use Rattle.std.proofs.Common.{Ok, Err, OnOk, OnErr}
use Rattle.std.specs.declared.result.Result.{Result}
use Rattle.std.specs.FinMap as maps
use Rattle.std.specs.FinMap.{get-insert, get-remove, get-retain_keys, get_tied, get-empty, same_map}
use Rattle.std.specs.Ordering.{eq_by_cmp}
use Rattle.std.specs.Cmp.Lexicographic.{nat_list_cmp_total}
use Rattle.std.proofs.lemmas.Map.Lookups.{exact_bytes}
use Rattle.std.proofs.lemmas.Map.Views.{tells_apart}
use Rattle.std.specs.Cmp.{eq_by_cmp_equiv}
use Rattle.std.proofs.lemmas.Bool.{le-leb, lt-leb}
use Rattle.table.specs.Keys.{key_cmp}
use Rattle.table.specs.Items.{Item, Version}
use Rattle.node.specs.Faces.{Versions, is_removed}
use Rattle.node.specs.declared.faces.Tombstone.{Tombstone}
use Rattle.node.specs.Faces.{IsRising, Waits, IsQueued}
use Rattle.faces.specs.Tombstones.{without_removed, taken_at}

-- ---- the queue

lower : (low : ℕ) (bs : List Tombstone) (d : Tombstone) (k : ℕ)
    → k < length bs
    → IsRising low bs
    → low ≤ (slice_index_or bs k d).number
lower low [] d k within r = absurd (omega (arith, within))
lower low (b ∷ bs) d zero within r = r.0
lower low (b ∷ bs) d (suc k) within r = omega (arith, r.0, lower b.number bs d k (omega (arith, within)) r.1)

rising_on : (low : ℕ) (bs : List Tombstone) (b d : Tombstone) (k : ℕ)
    → IsRising low bs
    → low ≤ b.number
    → length bs ≡ suc k
    → (slice_index_or bs k d).number ≤ b.number
    → IsRising low (bs ++ b ∷ [])
rising_on low [] b d k r le len last = absurd (omega (arith, len))
rising_on low (c ∷ []) b d zero r le len last = (r.0, (last, tt))
rising_on low (c ∷ []) b d (suc k) r le len last = absurd (omega (arith, len))
rising_on low (c ∷ (e ∷ es)) b d zero r le len last = absurd (omega (arith, len))
rising_on low (c ∷ (e ∷ es)) b d (suc k) r le len last =
    let above = lower c.number (e ∷ es) d k (omega (arith, len)) r.1 in
    (r.0, rising_on c.number (e ∷ es) b d k r.1 (omega (arith, above, last)) (omega (arith, len)) last)

-- a number joins that isn't below the last one
pub rising_more : (bs : List Tombstone) (b d : Tombstone)
    → IsRising 0 bs
    → (0 < length bs → (slice_index_or bs (length bs - 1) d).number ≤ b.number)
    → IsRising 0 (bs ++ b ∷ [])
rising_more [] b d r last = (omega arith, tt)
rising_more (c ∷ cs) b d r last =
    let len : length (c ∷ cs) - 1 ≡ length cs = omega arith in
    rising_on 0 (c ∷ cs) b d (length cs) r (omega arith) (omega arith)
    (subst (λ (k : ℕ). (slice_index_or (c ∷ cs) k d).number ≤ b.number) len (last (omega arith)))

waits_longer : (n : ℕ) (key : List ℕ) (bs : List Tombstone) (b : Tombstone)
    → Waits n key bs
    → Waits n key (bs ++ b ∷ [])
waits_longer n key [] b w = absurd w
waits_longer n key (c ∷ cs) b w = ⊎_elim inl (λ v. inr (waits_longer n key cs b v)) w

waits_last : (bs : List Tombstone) (b : Tombstone) → Waits b.number b.key (bs ++ b ∷ [])
waits_last [] b = inl (refl, refl)
waits_last (c ∷ cs) b = inr (waits_last cs b)

some_injective : (a b : Version) → Some a ≡ Some b → a ≡ b
some_injective a b e = cc (e)

-- of a key that is set, its new version
set_apart : (t : Bool) (v w : Version) (o : Option Version) → cond t (Some v) o ≡ Some w → (v ≡ w) ⊎ (o ≡ Some w)
set_apart true v w o e = inl (some_injective v w e)
set_apart false v w o e = inr e

apart : (t : Bool) (v w : Version) (k q : List ℕ) (o : Option Version)
    → (t ≡ true → q ≡ k)
    → cond t (Some v) o ≡ Some w
    → ((v ≡ w) × (q ≡ k)) ⊎ (o ≡ Some w)
apart true v w k q o same e = inl (some_injective v w e, same refl)
apart false v w k q o same e = inr e

same_key : (q k : List ℕ) → eq_by_cmp key_cmp q k ≡ true → q ≡ k
same_key q k e = tells_apart exact_bytes q k e

-- a version joins, which waits if it has no item
pub queued_set : (m : Versions) (bs : List Tombstone) (k : List ℕ) (v : Version)
    → IsQueued m bs
    → (v.item ≡ None → Waits v.number k bs)
    → IsQueued (maps.insert m k v) bs
queued_set m bs k v h new = record {
  rising = h.rising;
  waits = λ q w e none.
      ⊎_elim (λ (t : (v ≡ w) × (q ≡ k)). subst (λ (x : Version × List ℕ). Waits x.0.number x.1 bs)
      (λ i. (t.0 i, sym t.1 i)) (new (ap (λ (x : Version). x.item) t.0 ∙ none)))
      (λ (old : maps.get m q ≡ Some w). h.waits q w old none)
      (apart (eq_by_cmp key_cmp q k) v w k q (maps.get m q) (same_key q k)
      (sym (get-insert nat_list_cmp_total m k v q) ∙ e));
}

pub queued_more : (m : Versions) (bs : List Tombstone) (b : Tombstone)
    → IsQueued m bs
    → IsRising 0 (bs ++ b ∷ [])
    → IsQueued m (bs ++ b ∷ [])
queued_more m bs b h rising =
    record { rising = rising; waits = λ q w e none. waits_longer w.number q bs b (h.waits q w e none) }

pub queued_note : (m : Versions) (bs : List Tombstone) (k : List ℕ) (v : Version)
    → IsQueued m bs
    → IsRising 0 (bs ++ (record { number = v.number; key = k }) ∷ [])
    → IsQueued (maps.insert m k v) (bs ++ (record { number = v.number; key = k }) ∷ [])
queued_note m bs k v h rising =
    let b : Tombstone = record { number = v.number; key = k } in
    queued_set m (bs ++ b ∷ []) k v (queued_more m bs b h rising) (λ none. waits_last bs b)

none_there : (v : Version) → None ≢ Some v
none_there v e = cc (e)

-- no version, nothing waits
pub queued_none : IsQueued maps.empty []
queued_none = record { rising = tt; waits = λ q w e none. absurd (none_there w (sym (get-empty key_cmp q) ∙ e)) }

-- ---- the versions that go

-- each key has its version or, if that one is to go, none
abbrev pub IsBetween : ℕ → Versions → Versions → Type 0
IsBetween n before now = (q : List ℕ) → (maps.get now q ≡ maps.get before q)
    ⊎ ((maps.get now q ≡ None) × (is_removed n (maps.get before q) ≡ true))

removed_from : (n : ℕ) (t : Bool) (q k : List ℕ) (o p : Option Version)
    → (t ≡ true → q ≡ k)
    → (q ≡ k → is_removed n p ≡ true)
    → o ≡ p
    → (cond t None o ≡ p) ⊎ ((cond t None o ≡ None) × (is_removed n p ≡ true))
removed_from n true q k o p same gone e = inr (refl, gone (same refl))
removed_from n false q k o p same gone e = inl e

removed_again : (n : ℕ) (t : Bool) (o p : Option Version)
    → o ≡ None
    → is_removed n p ≡ true
    → (cond t None o ≡ p) ⊎ ((cond t None o ≡ None) × (is_removed n p ≡ true))
removed_again n true o p e gone = inr (refl, gone)
removed_again n false o p e gone = inr (e, gone)

taken_step : (n : ℕ) (before now : Versions) (k : List ℕ) (t : Bool)
    → is_removed n (maps.get now k) ≡ t
    → IsBetween n before now
    → IsBetween n before (if t then maps.remove now k else now)
taken_step n before now k true is h q =
    subst (λ (o : Option Version). (o ≡ maps.get before q) ⊎ ((o ≡ None) × (is_removed n (maps.get before q) ≡ true)))
    (sym (get-remove nat_list_cmp_total now k q))
    (⊎_elim (λ (e : maps.get now q ≡ maps.get before q). removed_from n (eq_by_cmp key_cmp q k) q k (maps.get now q)
    (maps.get before q) (same_key q k)
    (λ (s : q ≡ k). ap (is_removed n) (sym e ∙ ap (maps.get now) s) ∙ is) e)
    (λ (r : (maps.get now q ≡ None) × (is_removed n (maps.get before q) ≡ true)). removed_again n
    (eq_by_cmp key_cmp q k) (maps.get now q) (maps.get before q) r.0 r.1)
    (h q))
taken_step n before now k false is h q = h q

rising_low : (a b : ℕ) (bs : List Tombstone) → a ≤ b → IsRising b bs → IsRising a bs
rising_low a b [] le r = tt
rising_low a b (c ∷ cs) le r = (omega (arith, r.0), r.1)

still_there : (t : Bool) (o : Option Version) (w : Version) → cond t None o ≡ Some w → (t ≡ false) × (o ≡ Some w)
still_there true o w e = absurd (none_there w e)
still_there false o w e = (refl, e)

bare_removed : (n number : ℕ) (w : Version)
    → w.item ≡ None
    → w.number ≡ number
    → number ≤ n
    → is_removed n (Some w) ≡ true
bare_removed n number w none is le =
    ap (λ o. not (is_some o) && nat_le w.number n) none ∙ le-leb w.number n (omega (arith, is, le))

taken_waits : (n : ℕ) (m : Versions) (b : Tombstone) (bs : List Tombstone) (t : Bool)
    → is_removed n (maps.get m b.key) ≡ t
    → b.number ≤ n
    → IsQueued m (b ∷ bs)
    → (q : List ℕ) (w : Version)
    → maps.get (if t then maps.remove m b.key else m) q ≡ Some w
    → w.item ≡ None
    → Waits w.number q bs
taken_waits n m b bs true is le h q w e none =
    let there =
    still_there (eq_by_cmp key_cmp q b.key) (maps.get m q) w (sym (get-remove nat_list_cmp_total m b.key q) ∙ e) in
    ⊎_elim (λ (x : (b.number ≡ w.number) × (b.key ≡ q)). absurd
    (true≢false (sym (ap (λ k. eq_by_cmp key_cmp q k) x.1 ∙ (eq_by_cmp_equiv nat_list_cmp_total).refl q)
    ∙ there.0))) (λ (x : Waits w.number q bs). x) (h.waits q w there.1 none)
taken_waits n m b bs false is le h q w e none =
    ⊎_elim (λ (x : (b.number ≡ w.number) × (b.key ≡ q)). absurd
    (true≢false (sym (ap (λ k. is_removed n (maps.get m k)) x.1
    ∙ (ap (is_removed n) e ∙ bare_removed n b.number w none (sym x.0) le)) ∙ is)))
    (λ (x : Waits w.number q bs). x) (h.waits q w e none)

pub taken_queued : (n : ℕ) (m : Versions) (b : Tombstone) (bs : List Tombstone)
    → b.number ≤ n
    → IsQueued m (b ∷ bs)
    → IsQueued (taken_at n b.key m) bs
taken_queued n m b bs le h = record {
  rising = rising_low 0 b.number bs (omega arith) h.rising.1;
  waits = taken_waits n m b bs (is_removed n (maps.get m b.key)) refl le h;
}

pub taken_between : (n : ℕ) (before now : Versions) (k : List ℕ)
    → IsBetween n before now
    → IsBetween n before (taken_at n k now)
taken_between n before now k h = taken_step n before now k (is_removed n (maps.get now k)) refl h

waits_above : (n number : ℕ) (q : List ℕ) (bs : List Tombstone) → IsRising n bs → Waits number q bs → n ≤ number
waits_above n number q [] r w = absurd w
waits_above n number q (b ∷ bs) r w =
    ⊎_elim (λ (x : (b.number ≡ number) × (b.key ≡ q)). omega (arith, r.0, x.0))
    (λ (v : Waits number q bs). omega (arith, r.0, waits_above b.number number q bs r.1 v)) w

stays_by : (n : ℕ) (v : Version) (o : Option Item)
    → v.item ≡ o
    → (v.item ≡ None → n < v.number)
    → is_removed n (Some v) ≡ false
stays_by n v None is above = ap (λ o. not (is_some o) && nat_le v.number n) is ∙ lt-leb v.number n (above is)
stays_by n v (Some i) is above = ap (λ o. not (is_some o) && nat_le v.number n) is

stays : (n : ℕ) (m : Versions) (bs : List Tombstone) (q : List ℕ) (v : Version)
    → IsQueued m bs
    → IsRising (n + 1) bs
    → maps.get m q ≡ Some v
    → is_removed n (Some v) ≡ false
stays n m bs q v h above e =
    stays_by n v v.item refl (λ none. omega (arith, waits_above (n + 1) v.number q bs above (h.waits q v e none)))

kept_version : (n : ℕ) (o p : Option Version)
    → o ≡ p
    → ((v : Version) → o ≡ Some v → is_removed n (Some v) ≡ false)
    → o ≡ cond (not (is_removed n p)) p None
kept_version n o None e h = e
kept_version n o (Some v) e h = e ∙ sym (ap (λ b. cond (not b) (Some v) None) (h v e))

gone_version : (n : ℕ) (o p : Option Version)
    → o ≡ None
    → is_removed n p ≡ true
    → o ≡ cond (not (is_removed n p)) p None
gone_version n o p e gone = e ∙ sym (ap (λ b. cond (not b) p None) gone)

-- nothing is left that is to go
pub all_taken : (n : ℕ) (before now : Versions) (bs : List Tombstone)
    → IsBetween n before now
    → IsQueued now bs
    → IsRising (n + 1) bs
    → now ≡ without_removed n before
all_taken n before now bs h queued above = same_map nat_list_cmp_total exact_bytes now (without_removed n before) (λ q.
    ⊎_elim (λ (e : maps.get now q ≡ maps.get before q). kept_version n (maps.get now q) (maps.get before q) e
    (λ v is. stays n now bs q v queued above is))
    (λ (r : (maps.get now q ≡ None) × (is_removed n (maps.get before q) ≡ true)). gone_version n (maps.get now q)
    (maps.get before q) r.0 r.1)
    (h q)
    ∙ sym (get-retain_keys before (λ key. not (is_removed n (maps.get before key))) q
    (λ x t. ap (λ o. not (is_removed n o)) (get_tied nat_list_cmp_total before q x t))))

pub between_same : (n : ℕ) (m : Versions) → IsBetween n m m
between_same n m q = inl refl

-- whether it was set or not
pub queued_after : {E : Type 0} (r : Result (Unit {0}) E) (m now : Versions) (k : List ℕ) (v : Version)
    (bs : List Tombstone)
    → OnOk r (now ≡ maps.insert m k v)
    → OnErr r (now ≡ m)
    → IsQueued (maps.insert m k v) bs
    → IsQueued m bs
    → IsQueued now bs
queued_after (Ok x) m now k v bs ok err set old = subst (λ (n : Versions). IsQueued n bs) (sym ok) set
queued_after (Err x) m now k v bs ok err set old = subst (λ (n : Versions). IsQueued n bs) (sym err) old

-- the first of the queue is above the number, or there is none
pub rising_from : (n : ℕ) (b : Tombstone) (bs : List Tombstone)
    → n < b.number
    → IsRising 0 (b ∷ bs)
    → IsRising (n + 1) (b ∷ bs)
rising_from n b bs above r = (omega (arith, above), r.1)

pub above_by : (n : ℕ) (bs : List Tombstone) (d : Tombstone)
    → (0 < length bs → n < (slice_index_or bs 0 d).number)
    → IsRising 0 bs
    → IsRising (n + 1) bs
above_by n [] d above r = tt
above_by n (b ∷ bs) d above r = (omega (arith, above (omega arith)), r.1)

-- the first of the queue goes
pub first_taken : (n : ℕ) (before now now' : Versions) (bs bs' : List Tombstone) (b d : Tombstone)
    → bs ≡ b ∷ bs'
    → d ≡ slice_index_or bs 0 d
    → d.number ≤ n
    → now' ≡ taken_at n b.key now
    → IsQueued now bs
    → IsBetween n before now
    → IsQueued now' bs' × IsBetween n before now'
first_taken n before now now' bs bs' b d pop log_position le took queued between =
    let here : d ≡ b = log_position ∙ ap (λ (l : List Tombstone). slice_index_or l 0 d) pop in
    let low : b.number ≤ n = subst (λ (x : Tombstone). x.number ≤ n) here le in
    subst (λ (m : Versions). IsQueued m bs' × IsBetween n before m) (sym took)
    (taken_queued n now b bs' low (subst (IsQueued now) pop queued), taken_between n before now b.key between)

-- the loop ends at a number above
pub ends_above : (n : ℕ) (before now : Versions) (bs : List Tombstone) (d : Tombstone)
    → d ≡ slice_index_or bs 0 d
    → n < d.number
    → IsQueued now bs
    → IsBetween n before now
    → now ≡ without_removed n before
ends_above n before now bs d log_position above queued between =
    all_taken n before now bs between queued
    (above_by n bs d (λ some. subst (λ (x : Tombstone). n < x.number) log_position above) queued.rising)

-- or if the queue is empty
pub ends_empty : (n : ℕ) (before now : Versions) (bs : List Tombstone)
    → length bs ≡ 0
    → IsQueued now bs
    → IsBetween n before now
    → now ≡ without_removed n before
ends_empty n before now bs none queued between =
    all_taken n before now bs between queued
    (above_by n bs (record { number = 0; key = [] }) (λ some. absurd (omega (arith, none, some))) queued.rising)

pub none_by : (n : ℕ) → (0 < n → false ≡ true) → n ≡ 0
none_by zero h = refl
none_by (suc n) h = absurd (true≢false (sym (h (omega arith))))
