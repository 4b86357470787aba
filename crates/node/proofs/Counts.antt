-- Counting calls and replies at a port, in single outputs and in lists of open calls.
use Rattle.std.proofs.Common.{◌≡◌, ℕ, ◌+◌, ◌==◌, ◌&&◌, Bool, true, false, cond, List, [], ◌∷◌, ◌++◌, Option, None, Some}
use Rattle.std.proofs.Common.{refl, ap, ◌∙◌, arith}
use Rattle.std.specs.Bool.{beq}
use Rattle.std.specs.List.{count_by}
use Rattle.std.proofs.lemmas.Bool.{cond_both}
use Rattle.std.proofs.lemmas.List.Sums.{sum_by-append, sum_by-cons}
use Rattle.table.specs.Operations.{is_value}
use Rattle.table.specs.declared.operations.Reply.{Reply}
use Rattle.table.specs.declared.operations.Reply.TheVariants.{Value}
use Rattle.table.specs.Items.{Item}
use Rattle.versions.specs.Entries.{LogEntry}
use Rattle.node.specs.declared.servers.OpenUpdate.{OpenUpdate}
use Rattle.node.specs.declared.servers.OpenRead.{OpenRead}
use Rattle.node.specs.declared.messages.Body.{Body}
use Rattle.node.specs.declared.messages.Output.{Output}
use Rattle.node.specs.Servers.{ServerState, message_to, reply_at}
use Rattle.node.specs.Numbering.{open_update, without_update, left_open_by, replied, reply_to, replies}
use Rattle.node.specs.Reading.{open_read, without_read}
use Rattle.node.specs.Replies.{replies_at}

-- a first element counts one if it passes the test, and the others count as without it
pub count-cons : {X : Type 0} (test : X → Bool) (x : X) (xs : List X)
    → count_by test (x ∷ xs) ≡ cond (test x) 1 0 + count_by test xs
count-cons test x xs = sum_by-cons (λ y. cond (test y) 1 0) x xs

-- two joined lists count what each of them counts
pub count-append : {X : Type 0} (test : X → Bool) (xs ys : List X)
    → count_by test (xs ++ ys) ≡ count_by test xs + count_by test ys
count-append test xs ys = sum_by-append (λ y. cond (test y) 1 0) xs ys

-- one more at the end
pub count-push : {X : Type 0} (test : X → Bool) (xs : List X) (x : X)
    → count_by test (xs ++ x ∷ []) ≡ count_by test xs + cond (test x) 1 0
count-push test xs x = omega (arith, count-append test xs (x ∷ []), count-cons test x [])

-- a message is no reply
pub none_in-message : (port : ℕ) (reads : Bool) (s : ServerState) (to : Option ℕ) (body : Body)
    → replies_at port reads (message_to s to body) ≡ 0
none_in-message port reads s None body = refl
none_in-message port reads s (Some j) body = refl

-- one reply counts at its port, and by its kind
pub counted : (here kind : Bool) → 0 + cond (here && kind) 1 0 ≡ cond kind (cond here 1 0) 0
counted true true = refl
counted true false = refl
counted false true = refl
counted false false = refl

-- a reply counts at a port exactly if it is given there and is of the kind asked for
pub one-reply : (port : ℕ) (reads : Bool) (p : ℕ) (reply : Reply)
    → replies_at port reads (reply_at p reply) ≡ cond (beq reads (is_value reply)) (cond (p == port) 1 0) 0
one-reply port reads p reply = counted (p == port) (beq reads (is_value reply))

-- a shown item never counts as the reply to an update
pub no-update : (port p : ℕ) (item : Option Item) → replies_at port false (reply_at p (Value item)) ≡ 0
no-update port p item = one-reply port false p (Value item)

-- a shown item counts as the reply to a read, at its own port
pub one-read : (port p : ℕ) (item : Option Item) → replies_at port true (reply_at p (Value item)) ≡ cond (p == port) 1 0
one-read port p item = one-reply port true p (Value item)

-- ---- updates

module _ (port : ℕ) where
  -- how many of these updates are of this port
  abbrev pub updates_of : List OpenUpdate → ℕ
  updates_of us = count_by (λ (u : OpenUpdate). u.port == port) us

  -- the first one of an id is replied to, and stays no longer
  first_closed : (b : Bool) (u : OpenUpdate) (us rest : List OpenUpdate) (found : Option OpenUpdate) (reply : Reply)
      → is_value reply ≡ false
      → updates_of rest + replies_at port false (replied reply found) ≡ updates_of us
      → updates_of (cond b us (u ∷ rest)) + replies_at port false (replied reply (cond b (Some u) found))
      ≡ updates_of (u ∷ us)
  first_closed true u us rest found reply no_item h =
      let one : replies_at port false (reply_at u.port reply) ≡ cond (u.port == port) 1 0 =
      one-reply port false u.port reply ∙ ap (λ k. cond (beq false k) (cond (u.port == port) 1 0) 0) no_item in
      omega (arith, one, count-cons (λ (u : OpenUpdate). u.port == port) u us)
  first_closed false u us rest found reply no_item h =
      omega (
        arith,
        h,
        count-cons (λ (u : OpenUpdate). u.port == port) u us,
        count-cons (λ (u : OpenUpdate). u.port == port) u rest,
      )

  closed : (us : List OpenUpdate) (id : ℕ) (reply : Reply)
      → is_value reply ≡ false
      → updates_of (without_update us id) + replies_at port false (replied reply (open_update us id)) ≡ updates_of us
  closed [] id reply no_item = refl
  closed (u ∷ us) id reply no_item = first_closed (u.id == id) u us (without_update us id) (open_update us id) reply
      no_item (closed us id reply no_item)

  -- an entry's reply closes what is open no longer
  pub closed_by : (own : ℕ) (us : List OpenUpdate) (e : LogEntry)
      → is_value e.reply ≡ false
      → updates_of (left_open_by own us e) + replies_at port false (reply_to own us e) ≡ updates_of us
  closed_by own us e no_item = own_or_not (e.origin == own)
    where
      own_or_not : (b : Bool)
          → updates_of (cond b (without_update us e.id) us) + replies_at port false
          (cond b (replied e.reply (open_update us e.id)) []) ≡ updates_of us
      own_or_not true = closed us e.id e.reply no_item
      own_or_not false = omega arith

  -- it answers no read
  no_item : (reply : Reply) (found : Option OpenUpdate)
      → is_value reply ≡ false
      → replies_at port true (replied reply found) ≡ 0
  no_item reply None h = refl
  no_item reply (Some u) h =
      one-reply port true u.port reply ∙ ap (λ k. cond (beq true k) (cond (u.port == port) 1 0) 0) h

  -- the reply to an entry is none to a read
  pub no_read_closed : (own : ℕ) (us : List OpenUpdate) (e : LogEntry)
      → is_value e.reply ≡ false
      → replies_at port true (reply_to own us e) ≡ 0
  no_read_closed own us e plain = cond_both (e.origin == own) _ _ (λ (os : List Output). replies_at port true os ≡ 0)
      (λ t. no_item e.reply (open_update us e.id) plain) (λ f. refl)

  -- ---- reads

  -- how many of these reads are of this port
  abbrev pub reads_of : List OpenRead → ℕ
  reads_of rs = count_by (λ (r : OpenRead). r.port == port) rs

  first_answered : (b : Bool) (r q : OpenRead) (rs rest : List OpenRead) (found : Option OpenRead)
      → (found ≡ Some q → reads_of rest + cond (q.port == port) 1 0 ≡ reads_of rs)
      → cond b (Some r) found ≡ Some q → reads_of (cond b rs (r ∷ rest)) + cond (q.port == port) 1 0 ≡ reads_of (r ∷ rs)
  first_answered true r q rs rest found h is =
      let same : ◌≡◌ {A = ℕ} (cond (r.port == port) 1 0) (cond (q.port == port) 1 0) = cc in
      omega (arith, same, count-cons (λ (r : OpenRead). r.port == port) r rs)
  first_answered false r q rs rest found h is =
      omega (
        arith,
        h is,
        count-cons (λ (r : OpenRead). r.port == port) r rs,
        count-cons (λ (r : OpenRead). r.port == port) r rest,
      )

  -- the read that is answered is open no longer
  pub read_closed : (rs : List OpenRead) (ask : ℕ) (q : OpenRead)
      → open_read rs ask ≡ Some q
      → reads_of (without_read rs ask) + cond (q.port == port) 1 0 ≡ reads_of rs
  read_closed [] ask q is = absurd cc
  read_closed (r ∷ rs) ask q is =
      first_answered (r.ask == ask) r q rs (without_read rs ask) (open_read rs ask) (read_closed rs ask q) is
