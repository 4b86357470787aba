-- What a server's action leaves of a traced world: its servers, links, connections, logs, issued updates and answered
-- reads.
use Rattle.std.proofs.Common.{◌≡◌, ◌≢◌, ℕ, zero, suc, ◌<◌, List, [], ◌∷◌, ◌++◌, length, get_or, Option, Some, None}
use Rattle.std.proofs.Common.{refl, ◌⊎◌, inl, inr, ap, sym, ◌∙◌}
use Rattle.std.specs.Prelude.{slice_get, ◌==◌}
use Rattle.std.specs.Option.{option_and_then}
use Rattle.std.proofs.lemmas.Bool.{cases_Bool}
use Rattle.std.proofs.lemmas.Option.{same_Some, none-some}
use Rattle.std.proofs.lemmas.List.{length-set, get_or-set_same, get_or-set_other, append-nil}
use Rattle.table.specs.declared.operations.Call.{Call}
use Rattle.table.specs.declared.operations.Reply.{Reply}
use Rattle.versions.specs.Entries.{LogEntry}
use Rattle.versions.specs.Stores.{last_number, value_at}
use Rattle.node.specs.declared.servers.OpenUpdate.{OpenUpdate}
use Rattle.node.specs.declared.messages.Body.{Body}
use Rattle.node.specs.declared.messages.Peer.{Peer}
use Rattle.node.specs.declared.messages.Output.{Output}
use Rattle.node.specs.declared.messages.Output.TheVariants.{To}
use Rattle.node.specs.Servers.{ServerState}
use Rattle.node.specs.Numbering.{open_update, replied as answered}
use Rattle.world.specs.declared.connections.Stage.{Stage}
use Rattle.world.specs.declared.connections.Stage.TheVariants.{Replied}
use Rattle.world.specs.Connections.{Connection}
use Rattle.world.specs.Worlds.{World, server, link, lives, with_server}
use Rattle.world.specs.Calls.{CallId, begun_call, reply_to}
use Rattle.node.proofs.Lists.{In}
use Rattle.world.proofs.trace.WorldLaws.{server_same, server_apart, Answers, servers-put_all, failed-put_all}
use Rattle.world.proofs.trace.WorldLaws.{server-put_all, link-put_all, connection-put_all, connection-before_all}
use Rattle.node.specs.Actions.{Action, Widen, Append, Reach, Settle, Send, Finish, Trim, Enter, Ask, Show, act}
use Rattle.world.proofs.trace.Traces.{AnsweredRead, Traced, log, issued_by, count, last_living, open_id, open_ordinal}
use Rattle.world.proofs.trace.Traces.{logs_after, issued_after, done}

-- ---- what an action adds

-- what an action adds to its server's log
abbrev pub new_entries : Action → List LogEntry
new_entries (Append e) = e ∷ []
new_entries a = []

-- what an action adds to its server's issued updates
abbrev pub new_issued : Traced → Action → List CallId
new_issued t (Enter port call) = open_id t.world port ∷ []
new_issued t a = []

-- what an action adds to the answered reads
abbrev pub new_reads : Traced → ℕ → Action → List AnsweredRead
new_reads t i (Finish r n) =
    record {
      id = open_id t.world r.port;
      key = r.key;
      number = n;
      item = value_at (server t.world i).store r.key n;
    } ∷ []
new_reads t i (Show port key) =
    record {
      id = open_id t.world port;
      key = key;
      number = length t.committed;
      item = value_at (server t.world i).store key (last_number (server t.world i).store);
    } ∷ []
new_reads t i a = []

-- what becomes of a connection
abbrev pub Reconnected : Traced → ℕ → Action → ℕ → Connection → Connection → Type 0
Reconnected t i a c k k' = Answers (act (server t.world i) a).outputs c k k'

-- ---- an action of server i

-- an action leaves the count of servers as it is
pub count_done : (t : Traced) (i : ℕ) (a : Action) → count (done t i a) ≡ count t
unfolding done with_server
count_done t i a = ap (λ (ss : List ServerState). length ss) (servers-put_all _ i _) ∙ length-set t.world.servers i _

-- an action fails no server
pub failed_done : (t : Traced) (i : ℕ) (a : Action) → (done t i a).world.failed ≡ t.world.failed
unfolding done with_server
failed_done t i a = failed-put_all _ i _

-- the same servers live before an action and after it
pub lives_done : (t : Traced) (i : ℕ) (a : Action) (k : ℕ) → lives (done t i a).world k ≡ lives t.world k
lives_done t i a k = rw (count_done t i a, failed_done t i a) refl

-- the last living server is the same before an action and after it
pub last_living_done : (t : Traced) (i : ℕ) (a : Action) → last_living (done t i a).world ≡ last_living t.world
last_living_done t i a = rw (count_done t i a, failed_done t i a) refl

-- the server that acts is what its action made of it
pub server_done : (t : Traced) (i : ℕ) (a : Action)
    → i < count t
    → server (done t i a).world i ≡ (act (server t.world i) a).state
unfolding done
server_done t i a l = server-put_all _ i _ i ∙ server_same t.world i _ l

-- the other servers stay as they were
pub server_other : (t : Traced) (i : ℕ) (a : Action) (k : ℕ) → k ≢ i → server (done t i a).world k ≡ server t.world k
unfolding done
server_other t i a k other = server-put_all _ i _ k ∙ server_apart t.world i k _ other

-- what an action puts out is a message only if it is sent
no_message : (reply : Reply) (o : Option OpenUpdate) (j : ℕ) (m : Peer) → In (To j m) (answered reply o) → ⊥
no_message reply None j m (k, h) = absurd cc
no_message reply (Some u) j m (zero, h) = absurd cc
no_message reply (Some u) j m (suc k, h) = absurd cc

message_put : (s : ServerState) (a : Action) (j : ℕ) (m : Peer)
    → In (To j m) (act s a).outputs
    → (body : Body) × (a ≡ Send j body) × (m ≡ record { view = s.view; body = body })
unfolding act
message_put s (Widen v) j m (k, h) = absurd cc
message_put s (Append e) j m (k, h) = absurd cc
message_put s (Reach n) j m (k, h) = absurd cc
message_put s (Settle e) j m h =
    absurd (elim (cases_Bool (e.origin == s.id)) [
      | inl t ↦ no_message e.reply (open_update s.pend e.id) j m (rw t at h)
      | inr f ↦ (let g : In (To j m) [] = rw f at h in let never : None ≡ Some (To j m) = g.1 in cc)
    ])
message_put s (Send x body) j m (zero, h) =
    let e = same_Some (To x (record { view = s.view; body = body })) (To j m) h in (body, cc, cc)
message_put s (Send x body) j m (suc k, h) = absurd cc
message_put s (Finish r n) j m (zero, h) = absurd cc
message_put s (Finish r n) j m (suc k, h) = absurd cc
message_put s Trim j m (k, h) = absurd cc
message_put s (Enter port call) j m (k, h) = absurd cc
message_put s (Ask port key) j m (k, h) = absurd cc
message_put s (Show port key) j m (zero, h) = absurd cc
message_put s (Show port key) j m (suc k, h) = absurd cc

link-with_server : (w : World) (i x y : ℕ) (s : ServerState) → link (with_server w i s) x y ≡ link w x y
unfolding link with_server
link-with_server w i x y s = refl

-- each message on a link stood there, or is what was sent
pub link_done : (t : Traced) (i : ℕ) (a : Action) (x y : ℕ) (m : Peer) → In m (link (done t i a).world x y)
    → In m (link t.world x y)
    ⊎ ((x ≡ i) × (body : Body) × (a ≡ Send y body) × (m ≡ record { view = (server t.world i).view; body = body }))
unfolding done
link_done t i a x y m h =
    elim (link-put_all (with_server t.world i (act (server t.world i) a).state) i (act (server t.world i) a).outputs
    x y m h) [
      | inl old ↦ inl (rw (link-with_server t.world i x y (act (server t.world i) a).state) at old)
      | inr new ↦ (let sent = message_put (server t.world i) a y m new.1 in inr (new.0, sent.0, sent.1, sent.2))
    ]

-- an action that appends, and any other
pub appends : (a : Action)
    → ((e : LogEntry) × (a ≡ Append e)) ⊎ ((new_entries a ≡ []) × ((t : Traced) (i : ℕ) → logs_after t i a ≡ t.logs))
appends (Widen v) = inr (refl, λ t i. refl)
appends (Append e) = inl (e, refl)
appends (Reach n) = inr (refl, λ t i. refl)
appends (Settle e) = inr (refl, λ t i. refl)
appends (Send j body) = inr (refl, λ t i. refl)
appends (Finish r n) = inr (refl, λ t i. refl)
appends Trim = inr (refl, λ t i. refl)
appends (Enter port call) = inr (refl, λ t i. refl)
appends (Ask port key) = inr (refl, λ t i. refl)
appends (Show port key) = inr (refl, λ t i. refl)

-- an action that enters a call, and any other
pub enters : (a : Action)
    → ((port : ℕ) × (call : Call) × (a ≡ Enter port call))
    ⊎ ((t : Traced) → (new_issued t a ≡ []) × ((i : ℕ) → issued_after t i a ≡ t.issued))
enters (Widen v) = inr (λ t. (refl, λ i. refl))
enters (Append e) = inr (λ t. (refl, λ i. refl))
enters (Reach n) = inr (λ t. (refl, λ i. refl))
enters (Settle e) = inr (λ t. (refl, λ i. refl))
enters (Send j body) = inr (λ t. (refl, λ i. refl))
enters (Finish r n) = inr (λ t. (refl, λ i. refl))
enters Trim = inr (λ t. (refl, λ i. refl))
enters (Enter port call) = inl (port, call, refl)
enters (Ask port key) = inr (λ t. (refl, λ i. refl))
enters (Show port key) = inr (λ t. (refl, λ i. refl))

-- the logs of other servers stay as they were
pub log_other : (t : Traced) (i : ℕ) (a : Action) (k : ℕ) → k ≢ i → log (done t i a) k ≡ log t k
unfolding log done
log_other t i a k other =
    elim (appends a) [
      | inl new ↦ rw new.1 (get_or-set_other t.logs i k _ [] other)
      | inr old ↦ ap (λ logs. get_or logs k []) (old.1 t i)
    ]

-- the log of the server that acts gains the action's entries
pub log_done : (t : Traced) (i : ℕ) (a : Action) → i < length t.logs → log (done t i a) i ≡ log t i ++ new_entries a
unfolding log done
log_done t i a l =
    elim (appends a) [
      | inl new ↦ rw new.1 (get_or-set_same t.logs i _ [] l)
      | inr old ↦ ap (λ logs. get_or logs i []) (old.1 t i)
          ∙ sym (ap (λ es. log t i ++ es) old.0 ∙ append-nil (log t i))
    ]

-- the issued updates of other servers stay as they were
pub issued_other : (t : Traced) (i : ℕ) (a : Action) (k : ℕ) → k ≢ i → issued_by (done t i a) k ≡ issued_by t k
unfolding issued_by done
issued_other t i a k other =
    elim (enters a) [
      | inl new ↦ rw new.2 (get_or-set_other t.issued i k _ [] other)
      | inr old ↦ ap (λ all. get_or all k []) ((old t).1 i)
    ]

-- the issued updates of the server that acts gain those of the action
pub issued_done : (t : Traced) (i : ℕ) (a : Action)
    → i < length t.issued
    → issued_by (done t i a) i ≡ issued_by t i ++ new_issued t a
unfolding issued_by done
issued_done t i a l =
    elim (enters a) [
      | inl new ↦ rw new.2 (get_or-set_same t.issued i _ [] l)
      | inr old ↦ ap (λ all. get_or all i []) ((old t).1 i)
          ∙ sym (ap (λ xs. issued_by t i ++ xs) (old t).0 ∙ append-nil (issued_by t i))
    ]

-- the answered reads gain those of the action
pub reads_done : (t : Traced) (i : ℕ) (a : Action) → (done t i a).reads ≡ t.reads ++ new_reads t i a
unfolding done
reads_done t i (Widen v) = sym (append-nil t.reads)
reads_done t i (Append e) = sym (append-nil t.reads)
reads_done t i (Reach n) = sym (append-nil t.reads)
reads_done t i (Settle e) = sym (append-nil t.reads)
reads_done t i (Send j body) = sym (append-nil t.reads)
reads_done t i (Finish r n) = refl
reads_done t i Trim = sym (append-nil t.reads)
reads_done t i (Enter port call) = sym (append-nil t.reads)
reads_done t i (Ask port key) = sym (append-nil t.reads)
reads_done t i (Show port key) = refl

-- if servers live, the committed entries are the log of the last of them, as it is then; if none lives, what they
-- were
pub committed_done : (t : Traced) (i : ℕ) (a : Action) (k : ℕ)
    → last_living t.world ≡ Some k
    → (done t i a).committed ≡ log (done t i a) k
unfolding done log
committed_done t i a k h = rw h refl

-- what becomes of a connection by an action
pub connection_done : (t : Traced) (i : ℕ) (a : Action) (c : ℕ) (k : Connection)
    → slice_get t.world.connections c ≡ Some k
    → (k' : Connection) × (slice_get (done t i a).world.connections c ≡ Some k') × Reconnected t i a c k k'
unfolding done with_server
connection_done t i a c k h = connection-put_all _ i _ c k h

-- a connection after an action is what became of one before it
pub connection_before : (t : Traced) (i : ℕ) (a : Action) (c : ℕ) (k' : Connection)
    → slice_get (done t i a).world.connections c ≡ Some k'
    → (k : Connection) × (slice_get t.world.connections c ≡ Some k) × Reconnected t i a c k k'
unfolding done with_server
connection_before t i a c k' h = connection-before_all _ i _ c k' h

-- what no reply changes of a connection stays
kept_by_done : {X : Type 0} (f : Option Connection → X) (t : Traced) (i : ℕ) (a : Action) (c : ℕ)
    → ((k k' : Connection) → Reconnected t i a c k k' → f (Some k') ≡ f (Some k))
    → (o p : Option Connection)
    → slice_get t.world.connections c ≡ o
    → slice_get (done t i a).world.connections c ≡ p
    → f p ≡ f o
kept_by_done f t i a c h None None e g = refl
kept_by_done f t i a c h None (Some k') e g =
    absurd (let r = connection_before t i a c k' g in none-some r.0 (sym e ∙ r.1))
kept_by_done f t i a c h (Some k) p e g = let r = connection_done t i a c k e in ap f (sym g ∙ r.1) ∙ h k r.0 r.2

-- a reply that waits changes the stage alone
pub same_calls : {X : Type 0} (f : Connection → X)
    → ((k : Connection) (stage : Stage) → f (record k { stage = stage }) ≡ f k)
    → (os : List Output) (c : ℕ) (k k' : Connection)
    → Answers os c k k'
    → f k' ≡ f k
same_calls f h os c k k' (inl e) = ap f e
same_calls f h os c k k' (inr g) = ap f g.4 ∙ h k (Replied g.0)

-- calls stay begun as they were, and get no reply before it is handed
pub begun_done : (t : Traced) (i : ℕ) (a : Action) (x : CallId) → begun_call (done t i a).world x ≡ begun_call t.world x
begun_done t i a x =
    kept_by_done (λ o. option_and_then (λ k. slice_get k.calls x.ordinal) o) t i a x.connection
    (λ k k' r. ap (λ calls. slice_get calls x.ordinal)
    (same_calls (λ k. k.calls) (λ k stage. refl) (act (server t.world i) a).outputs x.connection k k' r)) _
    _ refl refl

-- an action hands over no reply
pub replied_done : (t : Traced) (i : ℕ) (a : Action) (x : CallId) → reply_to (done t i a).world x ≡ reply_to t.world x
replied_done t i a x =
    kept_by_done (λ o. option_and_then (λ k. slice_get k.replies x.ordinal) o) t i a x.connection
    (λ k k' r. ap (λ replies. slice_get replies x.ordinal)
    (same_calls (λ k. k.replies) (λ k stage. refl) (act (server t.world i) a).outputs x.connection k k' r)) _
    _ refl refl

-- the name of a connection's open call stays through an action
pub open_id_done : (t : Traced) (i : ℕ) (a : Action) (c : ℕ) → open_id (done t i a).world c ≡ open_id t.world c
open_id_done t i a c =
    kept_by_done (λ o. record { connection = c; ordinal = open_ordinal o }) t i a c
    (λ k k' r. ap (λ (rs : List Reply). record { connection = c; ordinal = length rs })
    (same_calls (λ k. k.replies) (λ k stage. refl) (act (server t.world i) a).outputs c k k' r)) _ _ refl refl
