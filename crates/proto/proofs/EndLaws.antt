-- A session closes at the request after which its stream has none, however the stream was cut.
use Rattle.std.proofs.Common.{◌≡◌, ℕ, ◌-◌, Bool, true, false, cond, ◌||◌, List, [], ◌∷◌, ◌++◌, length, drop, Option}
use Rattle.std.proofs.Common.{None, Some, refl, sym, ap, ◌∙◌, arith}
use Rattle.std.specs.Prelude.{◌==◌}
use Rattle.std.specs.List.{list_any}
use Rattle.std.proofs.lemmas.Bool.Decides.{nat_tests}
use Rattle.proto.specs.declared.skipped_blocks.SkippedBlock.{SkippedBlock}
use Rattle.proto.specs.declared.requests.Request.TheVariants.{Store, Get, Arith, Delete, Flush, Quit, Bad}
use Rattle.proto.specs.declared.texts.Form.{Form}
use Rattle.proto.specs.Fronts.{Front, front, refused_at, found_of, is_last}
use Rattle.proto.specs.Turns.{fault_text}
use Rattle.proto.specs.Sessions.{Held, fed, by_found, by_skipped_block, next_of}
use Rattle.proto.specs.Streams.{requests, will_close, KeepsEnd}
use Rattle.proto.proofs.RequestLaws.{takes, requests_none, requests_some, requests_more, refused_later}

-- after a fault the end is that of what is left, unless the session is closed by it
behind_fault : (b : Bool) (unread : List ℕ) (unique : Bool) (asked : Option Form) (out more : List ℕ)
    → (b || list_any is_last (cond b [] (requests (unread ++ more))))
    ≡ will_close (fed
    (record {
      unread = unread;
      skipped_block = None;
      later = [];
      unique = unique;
      asked = asked;
      out = out;
      closed = b;
    }) more)
behind_fault true unread unique asked out more = refl
behind_fault false unread unique asked out more = refl

-- by what stands at the front
by_front : (unread : List ℕ) (unique : Bool) (asked : Option Form) (out : List ℕ) (r : Front) (q : Option SkippedBlock)
    → front unread ≡ r
    → refused_at unread ≡ q
    → let h : Held = record
    { unread = unread; skipped_block = None; later = []; unique = unique; asked = asked; out = out; closed = false } in
    KeepsEnd h (by_found (found_of r q) h).0 (by_found (found_of r q) h).1
by_front unread unique asked out None None e f =
    record { kept = λ more. refl; come = λ given. sym (ap (list_any is_last) (requests_none unread e)) }
by_front unread unique asked out None (Some p) e f = record {
  kept = λ more. ap (list_any is_last) (refused_later unread more p e f);
  come = λ given. sym (ap (list_any is_last) (requests_none unread e));
}
by_front unread unique asked out (Some (Bad fault, n)) q e f = record {
  kept = λ more. ap (list_any is_last) (requests_more unread more (Bad fault, n) e)
      ∙ behind_fault (is_last (Bad fault)) (drop n unread) unique asked (out ++ fault_text fault) more;
  come = λ given. cc;
}
by_front unread unique asked out (Some (Get [] u, n)) q e f = absurd (takes unread (Get [] u, n) e).gets
by_front unread unique asked out (Some (Get (key ∷ keys) u, n)) q e f =
    record {
      kept = λ more. ap (list_any is_last) (requests_more unread more (Get (key ∷ keys) u, n) e);
      come = λ given. cc;
    }
by_front unread unique asked out (Some (Store key op silent, n)) q e f =
    record {
      kept = λ more. ap (list_any is_last) (requests_more unread more (Store key op silent, n) e);
      come = λ given. cc;
    }
by_front unread unique asked out (Some (Arith key op silent, n)) q e f =
    record {
      kept = λ more. ap (list_any is_last) (requests_more unread more (Arith key op silent, n) e);
      come = λ given. cc;
    }
by_front unread unique asked out (Some (Delete key silent, n)) q e f =
    record {
      kept = λ more. ap (list_any is_last) (requests_more unread more (Delete key silent, n) e);
      come = λ given. cc;
    }
by_front unread unique asked out (Some (Flush silent, n)) q e f =
    record { kept = λ more. ap (list_any is_last) (requests_more unread more (Flush silent, n) e); come = λ given. cc }
by_front unread unique asked out (Some (Quit, n)) q e f = record {
  kept = λ more. ap (list_any is_last) (requests_more unread more (Quit, n) e);
  come = λ given. sym (ap (list_any is_last) (requests_some unread (Quit, n) e));
}

-- by the refused block that is passed over, or the front
by_skip : (unread : List ℕ) (skipped_block : Option SkippedBlock) (unique : Bool) (asked : Option Form) (out : List ℕ)
    → let h : Held = record {
      unread = unread;
      skipped_block = skipped_block;
      later = [];
      unique = unique;
      asked = asked;
      out = out;
      closed = false;
    } in
    KeepsEnd h (by_skipped_block skipped_block h).0 (by_skipped_block skipped_block h).1
by_skip unread None unique asked out = by_front unread unique asked out (front unread) (refused_at unread) refl refl
by_skip unread (Some p) unique asked out = by_left (p.left == 0) refl
  where
    h : Held
    h = record {
      unread = unread;
      skipped_block = Some p;
      later = [];
      unique = unique;
      asked = asked;
      out = out;
      closed = false;
    }

    by_left : (b : Bool) → (p.left == 0) ≡ b
        → KeepsEnd h (by_skipped_block (Some p) h).0 (by_skipped_block (Some p) h).1
    by_left true e = record {
      kept = λ more.
          let all : (p.left - length more == 0) ≡ true = grind (arith, nat_tests, e) in
          let behind : drop p.left more ≡ more =
          (let zero_left : p.left ≡ 0 = grind (arith, nat_tests, e) in rw zero_left refl) in
          rw (e, all, behind)
          (behind_fault (is_last (Bad p.fault)) unread unique asked (out ++ fault_text p.fault) more);
      come = rw e (λ given. cc);
    }
    by_left false e = rw e (record { kept = λ more. refl; come = λ given. rw e refl })

by_fields : (unread : List ℕ) (skipped_block : Option SkippedBlock) (later : List (List ℕ)) (unique : Bool)
    (asked : Option Form)
    (out : List ℕ) (closed : Bool)
    → let h : Held = record {
      unread = unread;
      skipped_block = skipped_block;
      later = later;
      unique = unique;
      asked = asked;
      out = out;
      closed = closed;
    } in KeepsEnd h (next_of h).0 (next_of h).1
by_fields unread skipped_block later unique asked out true = record { kept = λ more. refl; come = λ given. refl }
by_fields unread skipped_block [] unique asked out false = by_skip unread skipped_block unique asked out
by_fields unread skipped_block (key ∷ keys) unique asked out false = record { kept = λ more. refl; come = λ given. cc }

-- a step keeps where the stream ends
pub keeps_end : (h : Held) → KeepsEnd h (next_of h).0 (next_of h).1
keeps_end h = by_fields h.unread h.skipped_block h.later h.unique h.asked h.out h.closed
