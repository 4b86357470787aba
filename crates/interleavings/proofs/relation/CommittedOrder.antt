-- The order of a schedule's calls whose updates are the committed entries. It is that of the law `one_order` of
-- `world`, which doesn't say how it is made.
use Rattle.std.proofs.Common.{◌≡◌, ℕ, zero, suc, ◌<◌, ◌≤◌, List, length, take, None, arith, inl, inr, sym, ap, ◌∙◌}
use Rattle.std.proofs.Common.{subst}
use Rattle.std.proofs.lemmas.Bool.{cases_lt}
use Rattle.std.proofs.lemmas.List.{take_all}
use Rattle.world.specs.declared.events.Event.{Event}
use Rattle.world.specs.Worlds.{run_of}
use Rattle.world.specs.Orders.{OrderedCall, IsLinearization}
use Rattle.world.proofs.trace.Traces.{Traced, outset}
use Rattle.world.proofs.trace.Outsets.{count_outset, server_outset, log_outset, link_outset, nothing_in}
use Rattle.node.proofs.BegunLists.{found_below}
use Rattle.world.proofs.moments.Moments.{Moments, next_world}
use Rattle.world.proofs.moments.AllLaws.{laws, all_moments}
use Rattle.world.proofs.trace.LaterLaws.{later_same}
use Rattle.world.proofs.streams.Stepped.{Follows}
use Rattle.world.proofs.streams.Ways.{Way, way}
use Rattle.world.proofs.order.AtHomes.{AtHomes, homes_on, homes_first}
use Rattle.world.proofs.order.Spent.{none_issued}
use Rattle.world.proofs.order.Given.{AllIssued, issued_way, issued_first}
use Rattle.world.proofs.order.Since.{Since, newer}
use Rattle.world.proofs.order.SinceRuns.{since_on, since_moment}
use Rattle.world.proofs.order.Linear.{order_of}
use Rattle.world.proofs.order.Linearization.{Moment, linearization}

since_outset : (n : ℕ) (homes : List ℕ) → Since (outset n homes) (outset n homes)
since_outset n homes = record {
  entries = λ i k e l h. absurd (nothing_in e (k, rw (log_outset n homes i) at h));
  answers = λ k r h. absurd cc;
  asks = λ i r l h. absurd
      (nothing_in r (h.0, rw (server_outset n homes i (subst (λ c. i < c) (count_outset n homes) l)) at h.1));
  says = λ i j m h. absurd (nothing_in m (rw (link_outset n homes i j) at h));
}

module _ (n : ℕ) (homes : List ℕ) (events : List Event) (few : n ≤ 16) where
  -- the moments of the schedule
  pub all : Moments (outset n homes) events
  all = all_moments n homes events few

  -- the traced world after all events
  abbrev pub last : Traced
  last = all.at (length events)

  -- after the first k events, if there are no more than k
  run_all : (k : ℕ) → length events ≤ k → run_of n homes (take k events) ≡ run_of n homes events
  run_all k l = ap (run_of n homes) (take_all k events l)

  pub last_world : last.world ≡ run_of n homes events
  last_world = all.world (length events) ∙ run_all (length events) (omega arith)

  since_there : (k : ℕ) → Since (all.at k) (all.at k)
  since_there k =
      let first : Since (all.at 0) (all.at 0) = rw all.start (since_outset n homes) in
      since_moment laws (all.at 0) (all.at k) (all.goes 0 k (omega arith)) (all.lawful 0) (all.lawful k) first

  homes_there : (k : ℕ) → AtHomes homes (all.at k)
  homes_there k =
      let first = subst (λ t. AtHomes homes t) (sym all.start) (homes_first n homes) in
      homes_on laws homes (all.at 0) (all.at k) (all.goes 0 k (omega arith)) (all.lawful 0) first

  follows : (k : ℕ) → Follows (all.at k) (all.at (suc k))
  follows k = record {
    before = all.lawful k;
    after = all.lawful (suc k);
    later = (all.goes k (suc k) (omega arith) None).later;
    servers = all.all k;
  }

  issued_there : (k : ℕ) → k ≤ length events → AllIssued (all.at k)
  issued_there zero l = subst (λ t. AllIssued t) (sym all.start) (issued_first n homes)
  issued_there (suc k) l =
      let e = found_below events k (omega (arith, l)) in
      let next = next_world (outset n homes) events all k e.0 e.1 in
      issued_way (all.at k) (all.at (suc k)) (follows k)
      (subst (λ w. Way (all.at k).world w) (sym next) (way (all.at k).world e.0)) (issued_there k (omega (arith, l)))

  -- the k-th moment is one of the past of the last
  moment_within : (k : ℕ) → k ≤ length events → Moment n homes events last k
  moment_within k l =
      let goes = all.goes k (length events) l in
      record {
        past = all.at k;
        same = all.world k;
        lawful = all.lawful k;
        later = (goes None).later;
        newer = newer (all.at k) last (all.lawful (length events))
            (since_on laws (all.at k) (all.at k) last goes (all.lawful k) (later_same (all.at k)) (since_there k));
        at_homes = homes_there k;
        issued = issued_there k l;
        spent = λ i full. none_issued laws (all.at k) last i goes (all.lawful k) full;
      }

  moment : (k : ℕ) → Moment n homes events last k
  moment k = elim (cases_lt k (length events)) [
    | inl within ↦ moment_within k (omega (arith, within))
    | inr past ↦ (let m = moment_within (length events) (omega arith) in
        record {
          past = m.past;
          same = m.same ∙ run_all (length events) (omega arith)
              ∙ sym (run_all k (omega (arith, past)));
          lawful = m.lawful;
          later = m.later;
          newer = m.newer;
          at_homes = m.at_homes;
          issued = m.issued;
          spent = m.spent;
        })
  ]

  -- the order of the last world
  abbrev pub committed_order : List OrderedCall
  committed_order = order_of last

  -- is a linearization of the schedule
  pub is_committed_order : IsLinearization n homes events committed_order
  is_committed_order =
      linearization n homes events last last_world (all.lawful (length events)) (homes_there (length events)) moment
