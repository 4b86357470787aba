-- What links write over the connections that stand.
use Rattle.std.proofs.Common.{◌≡◌, ap, ℕ, zero, suc, ◌+◌, ◌-◌, ◌<◌, ◌≤◌, max, Bool, true, false, ◌||◌, if◌then◌else◌}
use Rattle.std.proofs.Common.{List, [], ◌∷◌, ◌++◌, length, take, drop, slice_index_or, slice_set, Option, Some, None}
use Rattle.std.proofs.Common.{◌∙◌, subst, refl, sym, arith, append_assoc, append-nil, length-drop, drop-drop}
use Rattle.std.proofs.Math.Seq.{take-add}
use Rattle.link_streams.specs.Streams.{Sending, unwritten, written}
use Rattle.links.specs.declared.peer_links.PeerLink.{PeerLink}
use Rattle.links.specs.PeerLinks.{HasWritten, HaveWritten, TakesBytes, WritesSome, failures_at, given_at}
use Rattle.links.specs.PeerLinks.{some_waits, waits}

abbrev reaching : Sending → ℕ → ℕ → Sending
reaching s reached sent = record s { reached = reached; sent = sent }

-- nothing is written
pub none_written : (s : Sending) → s.reached ≤ s.sent → s ≡ written s 0
none_written s most =
    ap (λ r. reaching s r s.sent) (plus s.reached)
    ∙ ap (λ n. reaching s (s.reached + 0) n) (larger s.reached s.sent most)
  where
    plus : (n : ℕ) → n ≡ n + 0
    plus n = omega arith

    larger : (n m : ℕ) → n ≤ m → m ≡ max m (n + 0)
    larger n m most = omega (arith, most)

-- what is written one after the other
pub both_written : (s : Sending) (n m : ℕ) → written (written s n) m ≡ written s (n + m)
both_written s n m =
    ap (λ r. reaching s r (max (max s.sent (s.reached + n)) r)) (sums s.reached n m)
    ∙ ap (λ k. reaching s (s.reached + (n + m)) k) (largest s.sent s.reached n m)
  where
    sums : (r n m : ℕ) → (r + n) + m ≡ r + (n + m)
    sums r n m = omega arith

    largest : (k r n m : ℕ) → max (max k (r + n)) (r + (n + m)) ≡ max k (r + (n + m))
    largest k r n m = omega arith

-- what is left then
pub left_over : (s : Sending) (n : ℕ) → length (unwritten (written s n)) ≡ length (unwritten s) - n
left_over s n = ap length (sym (drop-drop n s.reached s.put)) ∙ length-drop n (unwritten s)

module _ {W : Type 0} (taken : W → List ℕ) where
  -- at first
  pub writes_none : (s : Sending) (sink : W) → s.reached ≤ s.sent → WritesSome taken s s sink sink
  writes_none s sink most = record {
    n = 0;
    most = omega arith;
    stream = none_written s most;
    bytes = sym (append-nil (taken sink));
  }

  -- then some more
  pub writes_more : (first s t : Sending) (sink now later : W) (m : ℕ)
      → WritesSome taken first s sink now
      → m ≤ length (unwritten s)
      → t ≡ written s m
      → taken later ≡ taken now ++ take m (unwritten s)
      → WritesSome taken first t sink later
  writes_more first s t sink now later m some most is bytes = record {
    n = some.n + m;
    most = within (length (unwritten first)) some.n m some.most (subst (λ k. m ≤ k) lengths most);
    stream = is ∙ ap (λ s. written s m) some.stream ∙ both_written first some.n m;
    bytes =
        bytes
        ∙ ap (λ xs. xs ++ take m (unwritten s)) some.bytes
        ∙ append_assoc (taken sink) (take some.n (unwritten first)) (take m (unwritten s))
        ∙ ap (λ xs. taken sink ++ (take some.n (unwritten first) ++ take m xs)) left
        ∙ ap (λ xs. taken sink ++ xs) (sym (take-add some.n m (unwritten first)));
  }
    where
      left : unwritten s ≡ drop some.n (unwritten first)
      left = ap unwritten some.stream ∙ sym (drop-drop some.n first.reached first.put)

      lengths : length (unwritten s) ≡ length (unwritten first) - some.n
      lengths = ap length left ∙ length-drop some.n (unwritten first)

      within : (all n m : ℕ) → n ≤ all → m ≤ all - n → n + m ≤ all
      within all n m one two = omega (arith, one, two)

  takes_none : (sink : Option W) → TakesBytes taken [] sink sink
  takes_none None = refl
  takes_none (Some sink) = sym (append-nil (taken sink))

  -- a link without a connection, or on which all is written
  pub has_written_none : (link : PeerLink W) (same : PeerLink W)
      → same ≡ link
      → link.stream.reached ≤ link.stream.sent
      → HasWritten taken link same
  has_written_none link same is most = subst (λ l. HasWritten taken link l) (sym is) record {
    n = 0;
    most = omega arith;
    stream = none_written link.stream most;
    bytes = takes_none link.sink;
    same = refl;
  }

  -- one link more has written
  pub one_more_written : (k : ℕ) (before now : List (PeerLink W)) (d x : PeerLink W)
      → HaveWritten taken k before now
      → k < length now
      → HasWritten taken (slice_index_or now k d) x
      → HaveWritten taken (suc k) before (slice_set now k x)
  one_more_written k before [] d x are within one = absurd (omega (arith, within))
  one_more_written zero before (y ∷ ys) d x are within one =
      subst (λ xs. HaveWritten taken 1 xs (x ∷ ys)) are (one, refl)
  one_more_written (suc k) [] (y ∷ ys) d x are within one = absurd are
  one_more_written (suc k) (b ∷ bs) (y ∷ ys) d x are within one =
      (are.0, one_more_written k bs ys d x are.1 (omega (arith, within)) one)

  -- what was put on each is as it was
  pub same_put : (k : ℕ) (before now : List (PeerLink W)) (j : ℕ)
      → HaveWritten taken k before now
      → given_at now j ≡ given_at before j
  same_put zero before now j are = ap (λ ls. given_at ls j) are
  same_put (suc k) [] now j are = absurd are
  same_put (suc k) (b ∷ bs) [] j are = absurd are
  same_put (suc k) (b ∷ bs) (y ∷ ys) zero are = ap (λ s. s.put) are.0.stream
  same_put (suc k) (b ∷ bs) (y ∷ ys) (suc j) are = same_put k bs ys j are.1

  -- and none has failed by it
  pub same_down : (k : ℕ) (before now : List (PeerLink W)) (j : ℕ)
      → HaveWritten taken k before now
      → failures_at now j ≡ failures_at before j
  same_down zero before now j are = ap (λ ls. failures_at ls j) are
  same_down (suc k) [] now j are = absurd are
  same_down (suc k) (b ∷ bs) [] j are = absurd are
  same_down (suc k) (b ∷ bs) (y ∷ ys) zero are = ap (λ b. if b then 1 else 0) are.0.same
  same_down (suc k) (b ∷ bs) (y ∷ ys) (suc j) are = same_down k bs ys j are.1

pub same_length : {W : Type 0} (place : ℕ) (ls : List (PeerLink W)) (x : PeerLink W)
    → length (slice_set ls place x) ≡ length ls
same_length place [] x = refl
same_length zero (l ∷ ls) x = refl
same_length (suc place) (l ∷ ls) x = ap suc (same_length place ls x)

or_third : (a b c : Bool) → (a || (b || c)) ≡ (b || (a || c))
or_third true true c = refl
or_third true false c = refl
or_third false b c = refl

-- whether one of the first links waits, and of one more
pub one_more_waits : {W : Type 0} (k : ℕ) (ls : List (PeerLink W)) (x : PeerLink W) → k < length ls
    → some_waits (take (suc k) (slice_set ls k x)) ≡ (waits x || some_waits (take k ls))
one_more_waits k [] x within = absurd (omega (arith, within))
one_more_waits zero (l ∷ ls) x within = refl
one_more_waits (suc k) (l ∷ ls) x within =
    ap (λ b. waits l || b) (one_more_waits k ls x (omega (arith, within)))
    ∙ or_third (waits l) (waits x) (some_waits (take k ls))
