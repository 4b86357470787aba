-- What of a linearization is settled by the calls and the replies of the schedule's last world.
use Rattle.std.proofs.Common.{◌≡◌, ℕ, zero, suc, List, [], ◌∷◌, map, Option, Some, refl, sym, ap, ◌∙◌}
use Rattle.std.specs.Prelude.{slice_get}
use Rattle.std.specs.Option.{option_and_then}
use Rattle.std.proofs.lemmas.Option.{same_Some}
use Rattle.table.specs.declared.operations.Call.{Call}
use Rattle.table.specs.declared.operations.Reply.{Reply}
use Rattle.world.specs.declared.events.Event.{Event}
use Rattle.world.specs.Connections.{Connection}
use Rattle.world.specs.Worlds.{World, run_of}
use Rattle.world.specs.Calls.{CallId, begun_call, reply_to}
use Rattle.world.specs.Orders.{OrderedCall, StandsAt, IsLinearization}

-- the calls of each connection, and its replies
abbrev pub calls_in : World → List (List Call)
calls_in w = map (λ k. k.calls) w.connections

-- the replies of each connection
abbrev pub replies_in : World → List (List Reply)
replies_in w = map (λ k. k.replies) w.connections

-- what stands under a call's name
abbrev pub under : {X : Type 0} → List (List X) → CallId → Option X
under rows x = option_and_then (λ row. slice_get row x.ordinal) (slice_get rows x.connection)

-- a call with its reply
abbrev pub said : OrderedCall → Call × Reply
said e = (e.call, e.reply)

by_rows : {X : Type 0} (f : Connection → List X) (ks : List Connection) (c p : ℕ)
    → option_and_then (λ k. slice_get (f k) p) (slice_get ks c) ≡ option_and_then (λ row. slice_get row p)
    (slice_get (map f ks) c)
by_rows f [] c p = refl
by_rows f (k ∷ ks) zero p = refl
by_rows f (k ∷ ks) (suc c) p = by_rows f ks c p

-- a call that is begun, and a reply that was given, by these rows
pub calls_under : (count : ℕ) (homes : List ℕ) (events : List Event) (calls : List (List Call))
    → calls_in (run_of count homes events) ≡ calls
    → (x : CallId) → begun_call (run_of count homes events) x ≡ under calls x
calls_under count homes events calls same x =
    by_rows (λ k. k.calls) (run_of count homes events).connections x.connection x.ordinal
    ∙ ap (λ rows. under rows x) same

-- a call's reply is the one that these rows of replies have under its name
pub replies_under : (count : ℕ) (homes : List ℕ) (events : List Event) (replies : List (List Reply))
    → replies_in (run_of count homes events) ≡ replies
    → (x : CallId) → reply_to (run_of count homes events) x ≡ under replies x
replies_under count homes events replies same x = by_rows (λ k. k.replies) (run_of count homes events).connections
    x.connection x.ordinal ∙ ap (λ rows. under rows x) same

module _ (count : ℕ) (homes : List ℕ) (events : List Event) (h : List OrderedCall)
    (order : IsLinearization count homes events h) where
  -- a call of the order is the one that was begun under its name
  pub call_there : (calls : List (List Call))
      → calls_in (run_of count homes events) ≡ calls
      → (i : ℕ) (e : OrderedCall)
      → slice_get h i ≡ Some e
      → under calls e.id ≡ Some e.call
  call_there calls same i e here =
      ap (λ rows. under rows e.id) (sym same)
      ∙ sym (by_rows (λ k. k.calls) (run_of count homes events).connections e.id.connection e.id.ordinal)
      ∙ order.begun i e here

  -- a call of the order that was answered has the reply that it got
  pub reply_there : (replies : List (List Reply))
      → replies_in (run_of count homes events) ≡ replies
      → (i : ℕ) (e : OrderedCall)
      → slice_get h i ≡ Some e
      → (reply : Reply) → under replies e.id ≡ Some reply → e.reply ≡ reply
  reply_there replies same i e here reply got =
      let found = order.answered e.id reply
      (by_rows (λ k. k.replies) (run_of count homes events).connections e.id.connection e.id.ordinal
      ∙ ap (λ rows. under rows e.id) same ∙ got) in
      let ordinal : found.0 ≡ i = order.once found.0 i e.id found.1 (record { entry = e; here = here; same = refl }) in
      let one : e ≡ found.1.entry = same_Some _ _ (sym here ∙ ap (slice_get h) (sym ordinal) ∙ found.1.here) in
      ap (λ (x : OrderedCall). x.reply) one ∙ found.2

  -- an answered call stands somewhere
  pub stands : (replies : List (List Reply))
      → replies_in (run_of count homes events) ≡ replies
      → (x : CallId) (reply : Reply)
      → under replies x ≡ Some reply
      → (i : ℕ) × StandsAt h i x
  stands replies same x reply got =
      let found = order.answered x reply
      (by_rows (λ k. k.replies) (run_of count homes events).connections x.connection x.ordinal
      ∙ ap (λ rows. under rows x) same ∙ got) in
      (found.0, found.1)

  -- two calls of the order with one name are one
  pub read_twice : (i j : ℕ) (e f : OrderedCall) → slice_get h i ≡ Some e → slice_get h j ≡ Some f → e.id ≡ f.id
      → i ≡ j
  read_twice i j e f here there same = order.once i j f.id (record { entry = e; here = here; same = same })
      (record { entry = f; here = there; same = refl })
