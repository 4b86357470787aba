-- Where the bytes of a link are, whatever happens to it.
use Rattle.std.proofs.Common.{◌≡◌, ◌∙◌, ℕ, ◌+◌, ◌≤◌, max, true, refl, sym, ap, arith}
use Rattle.std.proofs.Common.{List, [], ◌∷◌, ◌++◌, length, take, drop, Option, Some, None, append_assoc, append-nil}
use Rattle.std.proofs.Common.{length-append, nat_le, ◌&&◌, subst, if◌then◌else◌}
use Rattle.std.proofs.lemmas.List.{length-take, take-append-drop, drop-append-le, drop-drop, drop_at, drop_min}
use Rattle.std.proofs.lemmas.List.{take_all}
use Rattle.std.proofs.lemmas.Bool.{le-leb}
use Rattle.link_streams.specs.Streams.{Sending, with_bytes, unwritten, written, may_confirm}
use Rattle.link_streams.specs.Streams.{may_resume, resumed_at, confirmed_to}
use Rattle.link_streams.specs.Links.{Connection, Link, Event, IsCaughtUp, fresh, idle, run, step, talk}
use Rattle.link_streams.specs.Links.{write, read, hand_on, confirm, hear, hear_first, connect}
use Rattle.link_streams.specs.Links.Event.{Put, Write, Read, HandOn, Confirm, Hear, Break, Connect}

-- each of these counts is n at most
abbrev AreAtMost : ℕ → List ℕ → Type 0
AreAtMost n [] = Unit {0}
AreAtMost n (x ∷ xs) = (x ≤ n) × AreAtMost n xs

at_most_more : (n m : ℕ) (xs : List ℕ) → n ≤ m → AreAtMost n xs → AreAtMost m xs
at_most_more n m [] more are = tt
at_most_more n m (x ∷ xs) more are = (omega (arith, more, are.0), at_most_more n m xs more are.1)

at_most_push : (n : ℕ) (xs : List ℕ) → AreAtMost n xs → AreAtMost n (xs ++ n ∷ [])
at_most_push n [] are = (omega arith, tt)
at_most_push n (x ∷ xs) are = (are.0, at_most_push n xs are.1)

-- what was put is what was handed on, what the receiver has read, what is coming, and what is unwritten
record IsOnItsWay (s : Sending) (handed : List ℕ) (c : Connection) : Type 0 where
  bytes : s.put ≡ handed ++ (c.unread ++ (c.coming ++ unwritten s))
  count : s.reached ≡ length handed + (length c.unread + length c.coming)
  most : s.reached ≤ s.sent
  confirmations : AreAtMost (length handed) c.confirmations

abbrev IsCarried : Sending → List ℕ → Option Connection → Type 0
IsCarried s handed None = Unit {0}
IsCarried s handed (Some c) = IsOnItsWay s handed c

-- what was handed on is what was put first, and neither more than was sent nor less than was confirmed
record IsSound (link : Link) : Type 0 where
  later : List ℕ
  order : link.sending.put ≡ link.handed ++ later
  kept : link.sending.confirmed ≤ length link.handed
  sent : length link.handed ≤ link.sending.sent
  carried : IsCarried link.sending link.handed link.connection

-- lists
lengths : (xs ys zs ws put : List ℕ)
    → put ≡ xs ++ (ys ++ (zs ++ ws))
    → length put ≡ length xs + (length ys + (length zs + length ws))
lengths xs ys zs ws put is =
    ap length is
    ∙ length-append xs (ys ++ (zs ++ ws))
    ∙ ap (λ n. length xs + n) (length-append ys (zs ++ ws))
    ∙ ap (λ n. length xs + (length ys + n)) (length-append zs ws)

-- what was taken, and what is left
taken_and_left : (n : ℕ) (xs : List ℕ) → take n xs ++ drop (length (take n xs)) xs ≡ xs
taken_and_left n xs =
    ap (λ k. take n xs ++ drop k xs) (length-take n xs)
    ∙ ap (λ ys. take n xs ++ ys) (drop_min n xs)
    ∙ take-append-drop n xs

-- a part of the second list moved to the end of the first
moved : (n : ℕ) (xs ys zs : List ℕ) → (xs ++ take n ys) ++ (drop n ys ++ zs) ≡ xs ++ (ys ++ zs)
moved n xs ys zs =
    append_assoc xs (take n ys) (drop n ys ++ zs)
    ∙ ap (λ ws. xs ++ ws) (sym (append_assoc (take n ys) (drop n ys) zs))
    ∙ ap (λ ws. xs ++ (ws ++ zs)) (take-append-drop n ys)

lengths_moved : (n : ℕ) (xs ys : List ℕ)
    → length (xs ++ take n ys) + length (drop n ys) ≡ length xs + length ys
lengths_moved n xs ys =
    sym (length-append (xs ++ take n ys) (drop n ys))
    ∙ ap length (append_assoc xs (take n ys) (drop n ys) ∙ ap (λ ws. xs ++ ws) (take-append-drop n ys))
    ∙ length-append xs ys

-- the sender's end
module _ (s : Sending) (handed : List ℕ) (c : Connection) (way : IsOnItsWay s handed c) where
  is_within : s.reached ≤ length s.put
  is_within = omega (arith, way.count, lengths handed c.unread c.coming (unwritten s) s.put way.bytes)

  on_its_way_put : (bytes : List ℕ) → IsOnItsWay (with_bytes s bytes) handed c
  on_its_way_put bytes = record {
    bytes =
        ap (λ xs. xs ++ bytes) way.bytes
        ∙ append_assoc handed (c.unread ++ (c.coming ++ unwritten s)) bytes
        ∙ ap (λ xs. handed ++ xs) (append_assoc c.unread (c.coming ++ unwritten s) bytes)
        ∙ ap (λ xs. handed ++ (c.unread ++ xs)) (append_assoc c.coming (unwritten s) bytes)
        ∙ ap (λ xs. handed ++ (c.unread ++ (c.coming ++ xs))) (sym (drop-append-le s.reached s.put bytes is_within));
    count = way.count;
    most = way.most;
    confirmations = way.confirmations;
  }

  on_its_way_write : (n : ℕ)
      → IsOnItsWay
      (written s (length (take n (unwritten s)))) handed
      (record c { coming = c.coming ++ take n (unwritten s) })
  on_its_way_write n = record {
    bytes =
        way.bytes
        ∙ ap (λ xs. handed ++ (c.unread ++ (c.coming ++ xs))) (sym (taken_and_left n (unwritten s)))
        ∙ ap (λ xs. handed ++ (c.unread ++ xs))
        (sym (append_assoc c.coming (take n (unwritten s)) (drop (length (take n (unwritten s))) (unwritten s))))
        ∙ ap (λ xs. handed ++ (c.unread ++ ((c.coming ++ take n (unwritten s)) ++ xs)))
        (drop-drop (length (take n (unwritten s))) s.reached s.put);
    count =
        counted s.reached (length handed) (length c.unread) (length c.coming) (length (take n (unwritten s)))
        (length (c.coming ++ take n (unwritten s))) way.count (length-append c.coming (take n (unwritten s)));
    most = below_max s.sent (s.reached + length (take n (unwritten s)));
    confirmations = way.confirmations;
  }
    where
      counted : (reached handed unread coming more all : ℕ)
          → reached ≡ handed + (unread + coming)
          → all ≡ coming + more
          → reached + more ≡ handed + (unread + all)
      counted reached handed unread coming more all is sum = omega arith

      below_max : (a b : ℕ) → b ≤ max a b
      below_max a b = omega arith

  on_its_way_read : (n : ℕ)
      → IsOnItsWay s handed (record c { coming = drop n c.coming; unread = c.unread ++ take n c.coming })
  on_its_way_read n = record {
    bytes = way.bytes ∙ ap (λ xs. handed ++ xs) (sym (moved n c.unread c.coming (unwritten s)));
    count = way.count ∙ ap (λ k. length handed + k) (sym (lengths_moved n c.unread c.coming));
    most = way.most;
    confirmations = way.confirmations;
  }

  longer : (n : ℕ) → length handed ≤ length (handed ++ take n c.unread)
  longer n = by_sum (length handed) (length (take n c.unread)) (length (handed ++ take n c.unread))
      (length-append handed (take n c.unread))
    where
      by_sum : (a b all : ℕ) → all ≡ a + b → a ≤ all
      by_sum a b all is = omega arith

  on_its_way_handed : (n : ℕ)
      → IsOnItsWay s (handed ++ take n c.unread) (record c { unread = drop n c.unread })
  on_its_way_handed n = record {
    bytes = way.bytes ∙ sym (moved n handed c.unread (c.coming ++ unwritten s));
    count =
        counted s.reached (length handed) (length c.unread) (length c.coming) (length (handed ++ take n c.unread))
        (length (drop n c.unread)) way.count (lengths_moved n handed c.unread);
    most = way.most;
    confirmations =
        at_most_more (length handed) (length (handed ++ take n c.unread)) c.confirmations (longer n) way.confirmations;
  }
    where
      counted : (reached handed unread coming now left : ℕ)
          → reached ≡ handed + (unread + coming)
          → now + left ≡ handed + unread
          → reached ≡ now + (left + coming)
      counted reached handed unread coming now left is sum = omega arith

  on_its_way_confirm :
      IsOnItsWay s handed (record c { confirmations = c.confirmations ++ length handed ∷ [] })
  on_its_way_confirm = record {
    bytes = way.bytes;
    count = way.count;
    most = way.most;
    confirmations = at_most_push (length handed) c.confirmations way.confirmations;
  }

  handed_is_sent : length handed ≤ s.sent
  handed_is_sent = omega (arith, way.count, way.most)

  handed_is_taken : length handed ≤ s.reached
  handed_is_taken = omega (arith, way.count)

-- each event
sound_put : (link : Link) (bytes : List ℕ) → IsSound link → IsSound (step link (Put bytes))
sound_put link bytes is = record {
  later = is.later ++ bytes;
  order = ap (λ xs. xs ++ bytes) is.order ∙ append_assoc link.handed is.later bytes;
  kept = is.kept;
  sent = is.sent;
  carried = carried link.connection is.carried;
}
  where
    carried : (c : Option Connection)
        → IsCarried link.sending link.handed c
        → IsCarried (with_bytes link.sending bytes) link.handed c
    carried None way = tt
    carried (Some c) way = on_its_way_put link.sending link.handed c way bytes

module _ (s : Sending) (handed later : List ℕ) (order : s.put ≡ handed ++ later)
    (kept : s.confirmed ≤ length handed) (sent : length handed ≤ s.sent) where
  abbrev link_with : Option Connection → Link
  link_with connection = record { sending = s; handed = handed; connection = connection }

  the_same : (connection : Option Connection) → IsCarried s handed connection → IsSound (link_with connection)
  the_same connection way = record { later = later; order = order; kept = kept; sent = sent; carried = way }

  sound_write : (n : ℕ) (connection : Option Connection) → IsCarried s handed connection
      → IsSound (write (link_with connection) n connection)
  sound_write n None way = the_same None way
  sound_write n (Some c) way = record {
    later = later;
    order = order;
    kept = kept;
    sent = more (length handed) s.sent (s.reached + length (take n (unwritten s))) sent;
    carried = on_its_way_write s handed c way n;
  }
    where
      more : (a b c : ℕ) → a ≤ b → a ≤ max b c
      more a b c is = omega arith

  sound_read : (n : ℕ) (connection : Option Connection) → IsCarried s handed connection
      → IsSound (read (link_with connection) n connection)
  sound_read n None way = the_same None way
  sound_read n (Some c) way = record {
    later = later;
    order = order;
    kept = kept;
    sent = sent;
    carried = on_its_way_read s handed c way n;
  }

  sound_hand_on : (n : ℕ) (connection : Option Connection) → IsCarried s handed connection
      → IsSound (hand_on (link_with connection) n connection)
  sound_hand_on n None way = the_same None way
  sound_hand_on n (Some c) way = record {
    later = drop n c.unread ++ (c.coming ++ unwritten s);
    order = now.bytes;
    kept = omega (arith, kept, longer s handed c way n);
    sent = handed_is_sent s (handed ++ take n c.unread) (record c { unread = drop n c.unread }) now;
    carried = now;
  }
    where
      now : IsOnItsWay s (handed ++ take n c.unread) (record c { unread = drop n c.unread })
      now = on_its_way_handed s handed c way n

  sound_confirm : (connection : Option Connection) → IsCarried s handed connection
      → IsSound (confirm (link_with connection) connection)
  sound_confirm None way = the_same None way
  sound_confirm (Some c) way = record {
    later = later;
    order = order;
    kept = kept;
    sent = sent;
    carried = on_its_way_confirm s handed c way;
  }

  may_go_on : may_resume s (length handed) ≡ true
  may_go_on = ap (λ b. b && nat_le (length handed) s.sent) (le-leb s.confirmed (length handed) kept)
      ∙ le-leb (length handed) s.sent sent

  on_its_way_anew : IsOnItsWay (resumed_at s (length handed)) handed idle
  on_its_way_anew = record {
    bytes =
        order
        ∙ ap (λ xs. handed ++ xs)
        (sym (drop_at handed later (length handed) refl) ∙ ap (λ xs. drop (length handed) xs) (sym order));
    count = plus_none (length handed);
    most = sent;
    confirmations = tt;
  }
    where
      plus_none : (n : ℕ) → n ≡ n + (0 + 0)
      plus_none n = omega arith

  anew : connect (link_with None) None
      ≡ record { sending = resumed_at s (length handed); handed = handed; connection = Some idle }
  anew = ap
      (λ b. if b
      then record { sending = resumed_at s (length handed); handed = handed; connection = Some idle }
      else link_with None)
      may_go_on

  sound_connect : (connection : Option Connection) → IsCarried s handed connection
      → IsSound (connect (link_with connection) connection)
  sound_connect None way = subst IsSound (sym anew) record {
    later = later;
    order = order;
    kept = omega arith;
    sent = sent;
    carried = on_its_way_anew;
  }
  sound_connect (Some c) way = the_same (Some c) way

  may_be_confirmed : (c : Connection) (count : ℕ) (others : List ℕ) → IsOnItsWay s handed c
      → c.confirmations ≡ count ∷ others
      → (count ≤ length handed) × (AreAtMost (length handed) others × (may_confirm s count ≡ true))
  may_be_confirmed c count others way is =
      let all : (count ≤ length handed) × AreAtMost (length handed) others
      = subst (λ xs. AreAtMost (length handed) xs) is way.confirmations in
      (all.0, (all.1, le-leb count s.reached (omega (arith, all.0, handed_is_taken s handed c way))))

  sound_hear_first : (c : Connection) (counts : List ℕ) → IsOnItsWay s handed c → c.confirmations ≡ counts
      → IsSound (hear_first (link_with (Some c)) c counts)
  sound_hear_first c [] way is = the_same (Some c) way
  sound_hear_first c (count ∷ others) way is =
      let may : (count ≤ length handed) × (AreAtMost (length handed) others × (may_confirm s count ≡ true))
      = may_be_confirmed c count others way is in
      subst
      (λ t. IsSound
      (record { sending = t; handed = handed; connection = Some (record c { confirmations = others }) }))
      (sym (ap (λ b. if b then confirmed_to s count else s) may.1.1))
      record {
        later = later;
        order = order;
        kept = most s.confirmed count (length handed) kept may.0;
        sent = sent;
        carried = record {
          bytes = way.bytes;
          count = way.count;
          most = way.most;
          confirmations = may.1.0;
        };
      }
    where
      most : (a b n : ℕ) → a ≤ n → b ≤ n → max a b ≤ n
      most a b n one two = omega arith

  sound_hear : (connection : Option Connection) → IsCarried s handed connection
      → IsSound (hear (link_with connection) connection)
  sound_hear None way = the_same None way
  sound_hear (Some c) way = sound_hear_first c c.confirmations way refl

sound_step : (link : Link) (event : Event) → IsSound link → IsSound (step link event)
sound_step link (Put bytes) is = sound_put link bytes is
sound_step link (Write n) is =
    sound_write link.sending link.handed is.later is.order is.kept is.sent n link.connection is.carried
sound_step link (Read n) is =
    sound_read link.sending link.handed is.later is.order is.kept is.sent n link.connection is.carried
sound_step link (HandOn n) is =
    sound_hand_on link.sending link.handed is.later is.order is.kept is.sent n link.connection is.carried
sound_step link Confirm is =
    sound_confirm link.sending link.handed is.later is.order is.kept is.sent link.connection is.carried
sound_step link Hear is =
    sound_hear link.sending link.handed is.later is.order is.kept is.sent link.connection is.carried
sound_step link Break is =
    the_same link.sending link.handed is.later is.order is.kept is.sent None tt
sound_step link Connect is =
    sound_connect link.sending link.handed is.later is.order is.kept is.sent link.connection is.carried

sound_run : (link : Link) (events : List Event) → IsSound link → IsSound (run link events)
sound_run link [] is = is
sound_run link (event ∷ events) is = sound_run (step link event) events (sound_step link event is)

sound : (start : ℕ) (events : List Event) → IsSound (run (fresh start) events)
sound start events = sound_run (fresh start) events record {
  later = [];
  order = refl;
  kept = omega arith;
  sent = omega arith;
  carried = tt;
}

way_of : (s : Sending) (handed : List ℕ) (connection : Option Connection) (c : Connection)
    → connection ≡ Some c
    → IsCarried s handed connection
    → IsOnItsWay s handed c
way_of s handed connection c is way = subst (λ o. IsCarried s handed o) is way

module _ (link : Link) (is : IsSound link) where
  -- nothing is on its way
  handed_whole : (c : Connection) → link.connection ≡ Some c → IsCaughtUp link c → link.handed ≡ link.sending.put
  handed_whole c stands caught =
      sym
      ((way_of link.sending link.handed link.connection c stands is.carried).bytes
      ∙ ap (λ xs. link.handed ++ (xs ++ (c.coming ++ unwritten link.sending))) caught.unread
      ∙ ap (λ xs. link.handed ++ (xs ++ unwritten link.sending)) caught.coming
      ∙ ap (λ xs. link.handed ++ xs) caught.written
      ∙ append-nil link.handed)

  confirmable : (c : Connection) (count : ℕ) (later : List ℕ)
      → link.connection ≡ Some c
      → c.confirmations ≡ count ∷ later
      → may_confirm link.sending count ≡ true
  confirmable c count later stands first =
      (may_be_confirmed link.sending link.handed is.later is.order is.kept is.sent c count later
      (way_of link.sending link.handed link.connection c stands is.carried) first).1.1

  -- a new connection
  healed : (n : ℕ) → length link.sending.put ≤ n → (run link (talk n)).handed ≡ link.sending.put
  healed n enough =
      ap (λ l. (run l (Write n ∷ Read n ∷ HandOn n ∷ [])).handed)
      (anew link.sending link.handed is.later is.order is.kept is.sent)
      ∙ ap (λ xs. link.handed ++ take n (take n (take n xs))) behind
      ∙ ap (λ xs. link.handed ++ take n (take n xs)) (take_all n is.later short)
      ∙ ap (λ xs. link.handed ++ take n xs) (take_all n is.later short)
      ∙ ap (λ xs. link.handed ++ xs) (take_all n is.later short)
      ∙ sym is.order
    where
      behind : drop (length link.handed) link.sending.put ≡ is.later
      behind = ap (λ xs. drop (length link.handed) xs) is.order
          ∙ drop_at link.handed is.later (length link.handed) refl

      short : length is.later ≤ n
      short = below (length link.handed) (length is.later) (length link.sending.put) n
          (ap length is.order ∙ length-append link.handed is.later) enough
        where
          below : (a b all n : ℕ) → all ≡ a + b → all ≤ n → b ≤ n
          below a b all n is most = omega arith

-- what the law says
pub first_ones : (start : ℕ) (events : List Event)
    → (later : List ℕ)
    × ((run (fresh start) events).sending.put ≡ (run (fresh start) events).handed ++ later)
first_ones start events = ((sound start events).later, (sound start events).order)

pub all_handed : (start : ℕ) (events : List Event) (c : Connection)
    → (run (fresh start) events).connection ≡ Some c
    → IsCaughtUp (run (fresh start) events) c
    → (run (fresh start) events).handed ≡ (run (fresh start) events).sending.put
all_handed start events c stands caught =
    handed_whole (run (fresh start) events) (sound start events) c stands caught

pub all_healed : (start : ℕ) (events : List Event) (n : ℕ)
    → length (run (fresh start) events).sending.put ≤ n
    → (run (run (fresh start) events) (talk n)).handed ≡ (run (fresh start) events).sending.put
all_healed start events n enough = healed (run (fresh start) events) (sound start events) n enough

pub no_more_confirmed : (start : ℕ) (events : List Event)
    → (run (fresh start) events).sending.confirmed ≤ length (run (fresh start) events).handed
no_more_confirmed start events = (sound start events).kept

pub goes_on : (start : ℕ) (events : List Event)
    → may_resume (run (fresh start) events).sending (length (run (fresh start) events).handed) ≡ true
goes_on start events =
    may_go_on
    (run (fresh start) events).sending
    (run (fresh start) events).handed
    (sound start events).later
    (sound start events).order
    (sound start events).kept
    (sound start events).sent

pub is_confirmed : (start : ℕ) (events : List Event) (c : Connection) (count : ℕ) (later : List ℕ)
    → (run (fresh start) events).connection ≡ Some c
    → c.confirmations ≡ count ∷ later
    → may_confirm (run (fresh start) events).sending count ≡ true
is_confirmed start events c count later stands first =
    confirmable (run (fresh start) events) (sound start events) c count later stands first
