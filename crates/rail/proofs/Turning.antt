-- What a turn leaves of a worker.
use Rattle.std.proofs.Common.{◌≡◌, ◌∙◌, ⊎_elim, ap, sym, subst, ℕ, true, false, length, [], ◌∷◌, List, Option}
use Rattle.std.proofs.Common.{None, Some, Ok, Err, OnOk, OnErr, is_err, true≢false}
use Rattle.std.specs.declared.result.Result.{Result}
use Rattle.node.specs.declared.messages.Input.{Input}
use Rattle.node.specs.declared.messages.Output.{Output}
use Rattle.node.specs.Lawful.{IsInput, HoldsEntry, IsLawful}
use Rattle.node.specs.Replies.{AreCallsBelow, AreRepliesBelow, AreOpenBelow}
use Rattle.faces.specs.Histories.{History, Instance, server_after, with_next}
use Rattle.faces.specs.Publishers.{Publishing}
use Rattle.rail.specs.NotedReplies.{ReplySenderState}
use Rattle.rail.specs.Links.{LinksState}
use Rattle.rail.specs.Turns.{AreClosed, AreReplySenders, HasPut, HasPutFirst, HasReplied, IsCut, messages_of}
use Rattle.rail.specs.Turns.{outputs_after}
use Rattle.rail.specs.Workers.{WorkerState, IsGoing, IsWorker, HasGone}
use Rattle.rail.proofs.Replying.{are_replied, length_replied}
use Rattle.rail.proofs.Ports.{lawful_next, open_next, replies_next}

pub ok_by : {T E : Type 0} (r : Result T E) (P : Type 0) → is_err r ≡ false → OnOk r P → P
ok_by (Ok x) P is p = p
ok_by (Err e) P is p = absurd (true≢false is)

pub err_by : {T E : Type 0} (r : Result T E) (P : Type 0) → is_err r ≡ true → OnErr r P → P
err_by (Ok x) P is p = absurd (true≢false (sym is))
err_by (Err e) P is p = p

-- a worker whose server is stopped
pub stopped_worker : (now : Option Publishing) (told' : History) (reply_senders reply_senders' : List ReplySenderState)
    (ports : ℕ) (o : Instance)
    → now ≡ None
    → told'.instance ≡ o
    → HasReplied told' 0 reply_senders reply_senders' []
    → AreReplySenders o 0 reply_senders
    → length reply_senders ≡ ports
    → AreClosed reply_senders'
    → IsWorker now told' reply_senders' ports
stopped_worker now told' reply_senders reply_senders' ports o none same closed placed as_many shut = record {
  placed = subst (λ (p : Instance). AreReplySenders p 0 reply_senders') (sym same)
      (are_replied o told' 0 reply_senders reply_senders' [] closed placed);
  as_many = length_replied told' 0 reply_senders reply_senders' [] closed ∙ as_many;
  closed = λ _. shut;
  going = subst (λ (n : Option Publishing). IsGoing n told' ports) (sym none) tt;
}

-- a worker whose server goes on after an input
pub going_worker : (now : Option Publishing) (c p : Publishing) (told told' : History) (i : Input)
    (reply_senders reply_senders' : List ReplySenderState) (ports : ℕ) (outputs : List Output)
    → now ≡ Some p
    → IsGoing (Some c) told ports
    → p.goes ≡ true
    → p.published ≡ with_next c.published i
    → told' ≡ p.published
    → HasReplied p.published 0 reply_senders reply_senders' outputs
    → AreReplySenders told.instance 0 reply_senders
    → length reply_senders ≡ ports
    → IsInput i → HoldsEntry i → AreCallsBelow (length reply_senders) (i ∷ []) → IsWorker now told' reply_senders' ports
going_worker now c p told told' i reply_senders reply_senders' ports outputs is going goes next at replied placed
    as_many fit valid
    calls =
    let same : told'.instance ≡ told.instance =
    ap (λ (x : History). x.instance) (at ∙ next) ∙ ap (λ (x : History). x.instance) going.0 in
    let below : AreCallsBelow ports (i ∷ []) = subst (λ (n : ℕ). AreCallsBelow n (i ∷ [])) as_many calls in
    let lawful : IsLawful (server_after p.published) =
    subst (λ (x : History). IsLawful (server_after x)) (sym next) (lawful_next c.published i fit valid going.1) in
    let waits : AreOpenBelow ports (server_after p.published) =
    subst (λ (x : History). AreOpenBelow ports (server_after x)) (sym next)
    (open_next c.published i ports fit valid going.1 going.2 below) in
    record {
      placed = subst (λ (q : Instance). AreReplySenders q 0 reply_senders') (sym same)
          (are_replied told.instance p.published 0 reply_senders reply_senders' outputs replied placed);
      as_many = length_replied p.published 0 reply_senders reply_senders' outputs replied ∙ as_many;
      closed = λ none. absurd (cc (is, none));
      going = subst (λ (n : Option Publishing). IsGoing n told' ports) (sym is) (sym at, lawful, waits, goes);
    }

-- a refused input leaves the server's instance
pub cut_instance : {C : Type 0} (l l' : LinksState C) (c c' : History) (i : Input)
    → IsCut l l' c c' i
    → c'.instance ≡ c.instance
cut_instance l l' c c' i cut =
    ⊎_elim (λ (same : (c' ≡ c) × (l' ≡ l)). ap (λ (x : History). x.instance) same.0)
    (λ (grown : (c' ≡ with_next c i) × HasPutFirst l l' (outputs_after (with_next c i))).
    ap (λ (x : History). x.instance) grown.0)
    cut

-- an input was given to a server that goes on
pub gone : {C : Type 0} (w w' : WorkerState) (l l' : LinksState C) (c : Publishing) (p : History) (i : Input)
    (ports : ℕ)
    → w.goes ≡ true → w'.goes ≡ true → IsGoing (Some c) w.published ports → w'.published ≡ p
    → p ≡ with_next c.published i
    → HasPut l l' (messages_of (outputs_after p)) → HasReplied p 0 w.reply_senders w'.reply_senders (outputs_after p)
    → IsInput i
    → HoldsEntry i
    → AreCallsBelow (length w.reply_senders) (i ∷ [])
    → length w.reply_senders ≡ ports
    → HasGone w w' l l' i
gone w w' l l' c p i ports goes still going at next messages replies fit valid calls as_many =
    let n : p ≡ with_next w.published i = next ∙ ap (λ (x : History). with_next x i) going.0 in
    let below : AreCallsBelow ports (i ∷ []) = subst (λ (n : ℕ). AreCallsBelow n (i ∷ [])) as_many calls in
    record {
      going = goes;
      still = still;
      published = at ∙ n;
      messages = subst (λ (x : History). HasPut l l' (messages_of (outputs_after x))) n messages;
      replies = subst (λ (x : History). HasReplied x 0 w.reply_senders w'.reply_senders (outputs_after x)) n replies;
      seated = subst (λ (m : ℕ). AreRepliesBelow m (outputs_after (with_next w.published i))) (sym as_many)
          (subst (λ (x : History). AreRepliesBelow ports (outputs_after (with_next x i))) going.0
          (replies_next c.published i ports fit valid going.1 going.2 below));
    }
