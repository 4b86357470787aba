-- Logs and commit numbers hold before any event, and after a changed connection, a message taken off and a
-- failure.
use Rattle.std.proofs.Common.{◌≡◌, ℕ, ◌<◌, List, [], ◌∷◌, length, refl, arith, inl, ap, sym, ◌∙◌}
use Rattle.std.proofs.lemmas.Option.{none-some as none_some}
use Rattle.versions.specs.Stores.{opening_store}
use Rattle.node.specs.declared.messages.Peer.{Peer}
use Rattle.node.specs.Servers.{ServerState}
use Rattle.world.specs.Connections.{Connection}
use Rattle.world.specs.Worlds.{World, server, link}
use Rattle.node.proofs.Beginnings.{begins_as, begins_nil}
use Rattle.world.proofs.layers.HeldLogs.{holds_opening}
use Rattle.world.proofs.trace.Traces.{Traced, log, count, last_living, reconnected, unlinked, failing, outset}
use Rattle.world.proofs.trace.ChangeLaws.{count_reconnected, failed_reconnected, server_reconnected, link_reconnected}
use Rattle.world.proofs.trace.ChangeLaws.{log_reconnected, committed_reconnected, count_unlinked, failed_unlinked}
use Rattle.world.proofs.trace.ChangeLaws.{server_unlinked, link_unlinked, log_unlinked, committed_unlinked}
use Rattle.world.proofs.trace.ChangeLaws.{server_failing, link_failing, log_failing, committed_failing, committed_left}
use Rattle.world.proofs.trace.Outsets.{count_outset, server_outset, log_outset, link_outset, nothing_in}
use Rattle.world.proofs.trace.Layers.{Later, Framed, Logged, Lawful}
use Rattle.world.proofs.layers.LoggedLaws.{logged_from, kept_alike}

last_alike : (v w : World) → w.failed ≡ v.failed → length w.servers ≡ length v.servers → last_living w ≡ last_living v
last_alike v w failed servers = rw (failed, servers) refl

-- logs and commit numbers hold after a changed connection
pub logged_reconnected : (t : Traced) (c : ℕ) (change : Connection → Connection)
    → Lawful t
    → Later t (reconnected t c change)
    → Framed (reconnected t c change)
    → Logged (reconnected t c change)
logged_reconnected t c change w later framed =
    let l = w.logged in
    let u = reconnected t c change in
    let kept = committed_reconnected t c change in
    let same = last_alike t.world u.world (failed_reconnected t c change) (count_reconnected t c change) in
    logged_from t u l later framed (kept_alike t u l later (server_reconnected t c change) (log_reconnected t c change)
    (λ i h. kept ∙ l.last i (sym same ∙ h)) (λ h. kept) (λ i j m h. rw (link_reconnected t c change i j) at h))

-- logs and commit numbers hold after a message that was taken off a link
pub logged_unlinked : (t : Traced) (i j : ℕ) (m : Peer) (ms : List Peer)
    → link t.world i j ≡ m ∷ ms
    → Lawful t
    → Later t (unlinked t i j ms)
    → Framed (unlinked t i j ms)
    → Logged (unlinked t i j ms)
logged_unlinked t i j m ms e w later framed =
    let l = w.logged in
    let u = unlinked t i j ms in
    let kept = committed_unlinked t i j ms in
    let same = last_alike t.world u.world (failed_unlinked t i j ms) (count_unlinked t i j ms) in
    logged_from t u l later framed (kept_alike t u l later (server_unlinked t i j ms) (log_unlinked t i j ms)
    (λ k h. kept ∙ l.last k (sym same ∙ h)) (λ h. kept) (link_unlinked t i j m ms e))

-- logs and commit numbers hold after a failure
pub logged_failing : (t : Traced) (i : ℕ)
    → Lawful t
    → Later t (failing t i)
    → Framed (failing t i)
    → Logged (failing t i)
logged_failing t i w later framed =
    logged_from t (failing t i) w.logged later framed
    (kept_alike t (failing t i) w.logged later (server_failing t i) (log_failing t i)
    (committed_failing t i) (committed_left t i) (λ x y m h. rw (link_failing t i x y) at h))

-- ---- before any event

-- logs and commit numbers hold before any event
pub logged_outset : (n : ℕ) (homes : List ℕ) → Logged (outset n homes)
logged_outset n homes =
    let t = outset n homes in
    let none = log_outset n homes in
    let store : (i : ℕ) → i < count t → (server t.world i).store ≡ opening_store =
    λ i lt. ap (λ (s : ServerState). s.store) (server_outset n homes i (rw (count_outset n homes) at lt)) in
    record {
      holds = λ i lt. rw (none i, store i lt) holds_opening;
      begins = λ i j less lt o. begins_as (log t j) [] (log t i) (log t i) (none j) (begins_nil (log t i)) refl;
      acks = λ i j less lt o. rw (store i (omega (arith, less, lt)), store j lt) (omega arith);
      last = λ i h. sym (none i);
      within = λ i lt. rw (store i lt) (omega arith);
      living = λ i h. begins_nil (log t i);
      numbered = λ k e h. absurd (none_some e h);
      source = inl refl;
      carries = λ i j m h. absurd (nothing_in m (rw (link_outset n homes i j) at h));
    }
