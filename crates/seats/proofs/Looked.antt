-- What is looked at for calls that come to something at once.
use Rattle.std.proofs.Common.{◌≡◌, ◌∙◌, [], ◌∷◌, ◌++◌, Bool, List, Option, Some, None, refl, ap, sym, subst}
use Rattle.std.proofs.Common.{ℕ, true, false, IsSome, map, append_assoc, append-nil, inl, Result, Ok, Err, IfOk, OnErr, MatchOption, MatchResult}
use Rattle.table.specs.declared.operations.Call.{Call}
use Rattle.proto.specs.Turns.{Outcome, Refused, Replied}
use Rattle.faces.specs.Histories.{History}
use Rattle.faces.specs.Readers.{HasLookedAtMostOnce}
use Rattle.serving.specs.Connections.{Connected, HasOutcome, IsLooked}
use Rattle.serving.specs.declared.endings.ServeFault.{ServeFault}
use Rattle.seats.specs.Replies.{ShowsReply}
use Rattle.seats.specs.SeatPools.{Pooling}
use Rattle.seats.specs.ClientConnections.{AreLookedFor, HasGoneByLooks, HasLooked, HasLookedFor, HasLookedOn}
use Rattle.seats.specs.ClientConnections.{HasRefusedNone, LeavesCall}
use Rattle.table.specs.declared.operations.Reply.{Reply as ReplyOf}
use Rattle.seats.specs.declared.client_connections.Pause.{Pause}
use Rattle.seats.specs.declared.client_connections.Pause.TheVariants.{Input, Output, Lease, Seat, Reply, Turn, Over}

-- no call came to anything, and nothing was looked at
pub looked_same : (c d : Connected) (p : Pooling) → d.calls ≡ c.calls → d.outcomes ≡ c.outcomes → HasLooked c d p p
looked_same c d p calls outcomes =
    record {
      more = [];
      came = [];
      faces = [];
      calls = calls ∙ sym (append-nil c.calls);
      outcomes = outcomes ∙ sym (append-nil c.outcomes);
      looks = sym (append-nil p.looks);
      each = refl;
      limit = refl;
    }

-- these calls, and then those
looked_more : (limit : Option ℕ) (cs ds : List Call) (os ps : List Outcome) (ls ms : List History)
    → AreLookedFor limit cs os ls
    → AreLookedFor limit ds ps ms
    → AreLookedFor limit (cs ++ ds) (os ++ ps) (ls ++ ms)
looked_more limit [] ds [] ps ls ms a b = subst (λ xs. AreLookedFor limit ds ps (xs ++ ms)) (sym a) b
looked_more limit [] ds (o ∷ os) ps ls ms a b = absurd a
looked_more limit (c ∷ cs) ds [] ps ls ms a b = absurd a
looked_more limit (c ∷ cs) ds (Refused ∷ os) ps ls ms a b = (a.0, looked_more limit cs ds os ps ls ms a.1 b)
looked_more limit (c ∷ cs) ds (Replied r ∷ os) ps [] ms a b = absurd a
looked_more limit (c ∷ cs) ds (Replied r ∷ os) ps (l ∷ ls) ms a b = (a.0, looked_more limit cs ds os ps ls ms a.1 b)

-- some calls came to something, and then some
pub looked_then : (c d e : Connected) (p q r : Pooling) → HasLooked c d p q → HasLooked d e q r → HasLooked c e p r
looked_then c d e p q r a b =
    record {
      more = a.more ++ b.more;
      came = a.came ++ b.came;
      faces = a.faces ++ b.faces;
      calls = b.calls ∙ (ap (λ xs. xs ++ b.more) a.calls ∙ append_assoc c.calls a.more b.more);
      outcomes = b.outcomes ∙ (ap (λ xs. xs ++ b.came) a.outcomes ∙ append_assoc c.outcomes a.came b.came);
      looks = b.looks ∙ (ap (λ xs. xs ++ b.faces) a.looks ∙ append_assoc p.looks a.faces b.faces);
      each = looked_more p.limit a.more b.more a.came b.came a.faces b.faces a.each
          (subst (λ (x : Option ℕ). AreLookedFor x b.more b.came b.faces) a.limit b.each);
      limit = b.limit ∙ a.limit;
    }

-- nothing more was looked at
pub looked_on : (c d : Connected) (p q : Pooling) → HasLooked c d p q → HasLookedOn c d p q
looked_on c d p q a = record { between = q; looked = a; once = inl refl }

-- some calls came to something, and then it went on
pub looked_on_then : (c d e : Connected) (p q r : Pooling) → HasLooked c d p q → HasLookedOn d e q r
    → HasLookedOn c e p r
looked_on_then c d e p q r a b =
    record { between = b.between; looked = looked_then c d e p q b.between a b.looked; once = b.once }

-- and then nothing was looked at
pub looked_on_as : (c d e : Connected) (p q r : Pooling) → HasLookedOn c d p q → e ≡ d → r.looks ≡ q.looks
    → HasLookedOn c e p r
looked_on_as c d e p q r a same looks =
    record {
      between = a.between;
      looked = subst (λ x. HasLooked c x p a.between) (sym same) a.looked;
      once = subst (λ ls. HasLookedAtMostOnce a.between.looks ls) (sym looks) a.once;
    }

-- the same if no more calls came to anything
pub looked_on_still : (c d e : Connected) (p q r : Pooling) → HasLookedOn c d p q → e.calls ≡ d.calls
    → e.outcomes ≡ d.outcomes
    → r.looks ≡ q.looks
    → HasLookedOn c e p r
looked_on_still c d e p q r a calls outcomes looks =
    record {
      between = a.between;
      looked = looked_then c d e p a.between a.between a.looked (looked_same d e a.between calls outcomes);
      once = subst (λ ls. HasLookedAtMostOnce a.between.looks ls) (sym looks) a.once;
    }

-- and it went so far
pub gone_then : (went : Pause) (c d e : Connected) (p q r : Pooling) → HasLooked c d p q
    → HasGoneByLooks went d e q r
    → HasGoneByLooks went c e p r
gone_then Input c d e p q r a b = looked_then c d e p q r a b
gone_then Output c d e p q r a b = looked_then c d e p q r a b
gone_then Lease c d e p q r a b = looked_then c d e p q r a b
gone_then Seat c d e p q r a b = looked_on_then c d e p q r a b
gone_then Reply c d e p q r a b = looked_on_then c d e p q r a b
gone_then Turn c d e p q r a b = looked_then c d e p q r a b
gone_then Over c d e p q r a b = looked_then c d e p q r a b

-- then it left a call that waits, or a fault came, and nothing was looked at
pub gone_sent : (found : Result Pause ServeFault) (c d e : Connected) (p q r : Pooling)
    → IfOk found (λ went. LeavesCall went)
    → HasLookedOn c d p q
    → e ≡ d
    → r.looks ≡ q.looks
    → MatchResult found (λ went. HasGoneByLooks went c e p r) (λ _. HasLookedOn c e p r)
gone_sent found c d e p q r leaves looked same looks = by found leaves
  where
    now : HasLookedOn c e p r
    now = looked_on_as c d e p q r looked same looks

    by : (f : Result Pause ServeFault)
        → IfOk f (λ went. LeavesCall went)
        → MatchResult f (λ went. HasGoneByLooks went c e p r) (λ _. HasLookedOn c e p r)
    by (Ok Input) bad = absurd bad
    by (Ok Output) bad = absurd bad
    by (Ok Lease) bad = absurd bad
    by (Ok Seat) leaves = now
    by (Ok Reply) leaves = now
    by (Ok Turn) bad = absurd bad
    by (Ok Over) bad = absurd bad
    by (Err fault) leaves = now

abbrev head_or : Call → List Call → Call
head_or d [] = d
head_or d (c ∷ cs) = c

-- the call that waits came to something at once
pub looked_one : (c d : Connected) (call : Call) (outcome : Outcome) (p q : Pooling) → c.waiting ≡ call ∷ []
    → HasOutcome outcome c d
    → HasLookedFor call outcome p q
    → HasLooked c d p q
looked_one c d call Refused p q waits has looked =
    record {
      more = has.0 ∷ [];
      came = Refused ∷ [];
      faces = [];
      calls = ap (λ x. x.calls) has.4;
      outcomes = ap (λ x. x.outcomes) has.4;
      looks = ap (λ (x : Pooling). x.looks) looked.0 ∙ sym (append-nil p.looks);
      each = (looked.1, refl);
      limit = ap (λ (x : Pooling). x.limit) looked.0;
    }
looked_one c d call (Replied reply) p q waits has looked =
    let same : has.0 ≡ call = ap (head_or call) (sym has.3 ∙ waits) in
    record {
      more = has.0 ∷ [];
      came = Replied reply ∷ [];
      faces = q.seen ∷ [];
      calls = ap (λ x. x.calls) has.4;
      outcomes = ap (λ x. x.outcomes) has.4;
      looks = looked.0;
      each = (subst (λ x. ShowsReply q.seen x reply) (sym same) looked.1, refl);
      limit = looked.2;
    }

-- the call that waits was refused, and then it went so far
pub refused_then : (found : Result Pause ServeFault) (shown c d e : Connected) (p q : Pooling) → c ≡ shown
    → IsSome p.limit
    → HasOutcome Refused c d
    → MatchResult found (λ went. HasGoneByLooks went d e p q) (λ _. HasLookedOn d e p q)
    → MatchResult found (λ went. HasGoneByLooks went shown e p q) (λ _. HasLookedOn shown e p q)
refused_then found shown c d e p q view limited has gone = by found gone
  where
    refused : HasLooked c d p p
    refused =
        record {
          more = has.0 ∷ [];
          came = Refused ∷ [];
          faces = [];
          calls = ap (λ x. x.calls) has.4;
          outcomes = ap (λ x. x.outcomes) has.4;
          looks = sym (append-nil p.looks);
          each = (limited, refl);
          limit = refl;
        }

    now : HasLooked shown d p p
    now = subst (λ x. HasLooked x d p p) view refused

    by : (f : Result Pause ServeFault)
        → MatchResult f (λ went. HasGoneByLooks went d e p q) (λ _. HasLookedOn d e p q)
        → MatchResult f (λ went. HasGoneByLooks went shown e p q) (λ _. HasLookedOn shown e p q)
    by (Ok went) g = gone_then went shown d e p p q now g
    by (Err fault) g = looked_on_then shown d e p p q now g

-- memory was refused to it, and nothing was looked at
pub failed_same : (shown c d : Connected) (b : Bool) (p : Pooling) → c ≡ shown → d ≡ record c { failed = b }
    → HasLookedOn shown d p p
failed_same shown c d b p view e =
    subst (λ x. HasLookedOn x d p p) view
    (looked_on c d p p (looked_same c d p (ap (λ x. x.calls) e) (ap (λ x. x.outcomes) e)))

-- it was asked what it wants, and nothing was looked at
pub asked_same : (shown c d : Connected) (p : Pooling) → c ≡ shown → IsLooked c d → HasLooked shown d p p
asked_same shown c d p view looked =
    subst (λ x. HasLooked x d p p) view (looked_same c d p looked.calls looked.outcomes)

-- It was asked what it wants, and the call that it wants came to something at once, or waits for a seat, or there was
-- a fault: then it was looked for at most once.
module _ (shown c d e : Connected) (call : Call) (p q : Pooling) (view : c ≡ shown) (looked : IsLooked c d)
    (waits : d.waiting ≡ call ∷ []) (once : HasLookedAtMostOnce p.looks q.looks) where
  in_vain : (b : Bool) → e ≡ record d { failed = b } → HasLookedOn shown e p q
  in_vain b same =
      record {
        between = p;
        looked = looked_then shown d e p p p (asked_same shown c d p view looked)
            (looked_same d e p (ap (λ x. x.calls) same) (ap (λ x. x.outcomes) same));
        once = once;
      }

  pub asked_looked : (S T : Type 0) (found : Result (Option Pause) ServeFault)
      → IfOk found (λ f. MatchOption f
      ((outcome : Outcome) × HasOutcome outcome d e × HasLookedFor call outcome p q)
      (λ went. (went ≡ Seat) × (e ≡ d)))
      → OnErr found (S × T × (e ≡ record d { failed = e.failed }))
      → MatchResult found (λ f. MatchOption f (HasLooked shown e p q) (λ went. HasGoneByLooks went shown e p q))
      (λ _. HasLookedOn shown e p q)
  asked_looked S T (Ok None) one err =
      looked_then shown d e p p q (asked_same shown c d p view looked)
      (looked_one d e call one.0 p q waits one.1 one.2)
  asked_looked S T (Ok (Some went)) seat err =
      subst (λ w. HasGoneByLooks w shown e p q) (sym seat.0) (in_vain d.failed seat.1)
  asked_looked S T (Err fault) one err = in_vain e.failed err.2

-- without a limit all that calls came to are replies
none_refused : (calls : List Call) (came : List Outcome) (looks : List History) → AreLookedFor None calls came looks
    → (replies : List ReplyOf) × (came ≡ map Replied replies)
none_refused [] [] looks a = ([], refl)
none_refused [] (o ∷ os) looks a = absurd a
none_refused (c ∷ cs) [] looks a = absurd a
none_refused (c ∷ cs) (Refused ∷ os) looks a = let no : false ≡ true = a.0 in absurd cc
none_refused (c ∷ cs) (Replied r ∷ os) [] a = absurd a
none_refused (c ∷ cs) (Replied r ∷ os) (l ∷ ls) a =
    let later = none_refused cs os ls a.1 in
    (r ∷ later.0, ap (λ (xs : List Outcome). Replied r ∷ xs) later.1)

pub unlimited : (c d : Connected) (p q : Pooling) → p.limit ≡ None → HasLooked c d p q → HasRefusedNone c d
unlimited c d p q none a =
    let came = none_refused a.more a.came a.faces
    (subst (λ (x : Option ℕ). AreLookedFor x a.more a.came a.faces) none a.each) in
    record { replies = came.0; outcomes = a.outcomes ∙ ap (λ xs. c.outcomes ++ xs) came.1 }

pub looked_unlimited : (c d : Connected) (p q : Pooling) → HasLookedOn c d p q → p.limit ≡ None → HasRefusedNone c d
looked_unlimited c d p q a none = unlimited c d p a.between none a.looked

-- however far it went
pub none_if_unlimited : (found : Result Pause ServeFault) (c d : Connected) (p q : Pooling)
    → MatchResult found (λ went. HasGoneByLooks went c d p q) (λ _. HasLookedOn c d p q)
    → p.limit ≡ None
    → HasRefusedNone c d
none_if_unlimited (Ok Input) c d p q a none = unlimited c d p q none a
none_if_unlimited (Ok Output) c d p q a none = unlimited c d p q none a
none_if_unlimited (Ok Lease) c d p q a none = unlimited c d p q none a
none_if_unlimited (Ok Seat) c d p q a none = unlimited c d p a.between none a.looked
none_if_unlimited (Ok Reply) c d p q a none = unlimited c d p a.between none a.looked
none_if_unlimited (Ok Turn) c d p q a none = unlimited c d p q none a
none_if_unlimited (Ok Over) c d p q a none = unlimited c d p q none a
none_if_unlimited (Err fault) c d p q a none = unlimited c d p a.between none a.looked
