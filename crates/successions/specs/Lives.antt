-- A generation of a chain, the masters of all epochs, and the processes of the next one: whatever is sent may come at
-- any time, again and again, or never; each may end at any time (this project's model).
use Rattle.std.specs.Prelude.{◌≡◌, ◌≢◌, ℕ, ◌+◌, ◌⊎◌, Bool, true, false, List, [], ◌∷◌, Contains, Option, None}
use Rattle.std.specs.Prelude.{Some}
use Rattle.leases.specs.Sets.{has}
use Rattle.successions.specs.declared.members.Members.{Members}
use Rattle.successions.specs.declared.members.Acceptance.{Acceptance}
use Rattle.successions.specs.declared.orders.Phase.TheVariants.{Switched}
use Rattle.successions.specs.declared.orders.Standing.{Standing}
use Rattle.successions.specs.declared.orders.Report.{Report}
use Rattle.successions.specs.declared.orders.Order.{Order}
use Rattle.successions.specs.declared.orders.Order.TheVariants.{Switch, Open}
use Rattle.successions.specs.declared.stages.Stage.TheVariants.{Resuming, Proposing, Switching, Finishing}
use Rattle.successions.specs.Lists.{Among, with_at}
use Rattle.successions.specs.Successions.{SuccessionState, serving, acceptance_of, entered, obeyed, counted, report_of}
use Rattle.successions.specs.Decisions.{DecisionState, looking, heard, without, after_end, is_member, order_of}
use Rattle.successions.specs.Decisions.{IsFree, MayPropose, IsDecided, IsBegun, MayOpen}

-- A report, and the member that sent it.
pub record Sent : Type 0 where
  pub from : ℕ
  pub report : Report

-- A generation, and what comes of it.
pub record Life : Type 0 where
  -- the members by their ids: what each knows of its generation,
  pub members : ℕ → SuccessionState
  -- whom it knows to be gone,
  pub views : ℕ → ℕ
  -- and whether it is gone: its process has ended, or its lease is surely over, so that it does nothing any more
  pub gone : ℕ → Bool
  -- the masters by their epochs
  pub masters : ℕ → DecisionState
  -- all orders and reports that were ever sent
  pub orders : List Order
  pub reports : List Sent
  -- the processes by their numbers: as a member of which next generation each has started, whether it was ever open,
  -- and whether it has ended
  pub started : ℕ → Option Members
  pub opened : ℕ → Bool
  pub ended : ℕ → Bool

-- nobody has sent anything, and each member serves
abbrev pub begun : ℕ → ℕ → Members → Life
begun members generation own = record {
  members = λ i. serving generation own;
  views = λ i. 0;
  gone = λ i. false;
  masters = λ epoch. looking epoch generation members;
  orders = [];
  reports = [];
  started = λ process. None;
  opened = λ process. false;
  ended = λ process. false;
}

-- how the table of a member is, if that is all that is known of it
abbrev pub standing_of : Life → ℕ → ℕ → ℕ → Bool → Standing
standing_of w i last committed idle =
    record { view = w.views i; last = last; committed = committed; idle = idle }

-- What may happen next, and what it leads to.
pub data May (members : ℕ) (w : Life) : Life → Type 0 where
  -- a member is gone from now on
  Goes : (i : ℕ) → May members w (record w { gone = with_at w.gone i true })
  -- a member learns who is gone, and forgets nobody
  Learns : (i view : ℕ) → w.gone i ≡ false
      → ((j : ℕ) → has view j ≡ true → w.gone j ≡ true)
      → ((j : ℕ) → has (w.views i) j ≡ true → has view j ≡ true)
      → May members w (record w { views = with_at w.views i view })
  -- a master of some epoch greets a member
  Enters : (i epoch : ℕ) → w.gone i ≡ false
      → May members w (record w { members = with_at w.members i (entered (w.members i) epoch) })
  -- an order comes to a member
  Obeys : (i : ℕ) (order : Order) (last committed : ℕ) (idle : Bool) → w.gone i ≡ false → is_member members i ≡ true
      → Among order w.orders
      → May members w (record w {
        members = with_at w.members i (obeyed (w.members i) order (standing_of w i last committed idle));
      })
  -- a member reports
  Reports : (i last committed : ℕ) (idle : Bool) → w.gone i ≡ false → is_member members i ≡ true
      → May members w (record w {
        members = with_at w.members i (counted (w.members i));
        reports = record {
          from = i;
          report = report_of (counted (w.members i)) (standing_of w i last committed idle);
        } ∷ w.reports;
      })
  -- a report comes to a master
  Hears : (epoch : ℕ) (sent : Sent) → Among sent w.reports
      → May members w (record w { masters = with_at w.masters epoch (heard (w.masters epoch) sent.from sent.report) })
  -- a master learns who is gone
  Loses : (epoch gone : ℕ) → ((j : ℕ) → has gone j ≡ true → w.gone j ≡ true)
      → May members w (record w { masters = with_at w.masters epoch (without (w.masters epoch) gone) })
  -- a master learns that a process has ended
  Finds : (epoch process : ℕ) → w.ended process ≡ true
      → May members w (record w { masters = with_at w.masters epoch (after_end (w.masters epoch) process) })
  -- a master decides: that the members go on,
  Resumes : (epoch : ℕ) → IsFree (w.masters epoch)
      → May members w (record w { masters = with_at w.masters epoch (record (w.masters epoch) { stage = Resuming }) })
  -- who is to be accepted,
  Proposes : (epoch : ℕ) (next : Members) → MayPropose (w.masters epoch) next
      → May members w (record w {
        masters = with_at w.masters epoch (record (w.masters epoch) {
          stage =
              Proposing next;
        });
      })
  -- that what was accepted is switched to,
  Decides : (epoch : ℕ) (next : Members) (count : ℕ) → IsDecided (w.masters epoch) next count
      → May members w (record w {
        masters = with_at w.masters epoch (record (w.masters epoch) { stage = Switching next count });
      })
  -- or that a switch goes on which was begun
  Finishes : (epoch : ℕ) (next : Members) (count : ℕ) → IsBegun (w.masters epoch) next count
      → May members w (record w {
        masters = with_at w.masters epoch (record (w.masters epoch) { stage = Finishing next count });
      })
  -- a master sends the order of its stage
  Sends : (epoch : ℕ)
      → May members w (record w { orders = order_of (w.masters epoch) (w.masters epoch).stage ∷ w.orders })
  -- a master has the next generation opened
  SendsOpen : (epoch : ℕ) (next : Members) → MayOpen (w.masters epoch) next
      → May members w (record w {
        orders = Open epoch ((w.masters epoch).generation + 1) next ∷ w.orders;
      })
  -- a process starts as a member of the next generation, by an order to switch
  Starts : (process : ℕ) (epoch generation : ℕ) (next : Members) (count : ℕ)
      → w.ended process ≡ false → w.started process ≡ None
      → process ≢ 0 → Contains next.processes process → Among (Switch epoch generation next count) w.orders
      → May members w (record w { started = with_at w.started process (Some next) })
  -- it begins updates, by an order to open
  Opens : (process : ℕ) (epoch generation : ℕ) (next : Members)
      → w.ended process ≡ false → w.started process ≡ Some next → Among (Open epoch generation next) w.orders
      → May members w (record w { opened = with_at w.opened process true })
  -- it ends
  Ends : (process : ℕ) → May members w (record w { ended = with_at w.ended process true })

-- What may come of a generation.
pub data IsReached (members generation : ℕ) (own : Members) : Life → Type 0 where
  Begins : IsReached members generation own (begun members generation own)
  Goes_on : (w next : Life) → IsReached members generation own w → May members w next
      → IsReached members generation own next

-- A process has started with these as the next members, and it lives, or was open before it ended.
pub record Follows (w : Life) (process : ℕ) (next : Members) : Type 0 where
  pub started : w.started process ≡ Some next
  pub lives : (w.ended process ≡ false) ⊎ (w.opened process ≡ true)

-- A member has switched to these, or it is gone.
abbrev pub HasLeft : Life → ℕ → Members → Type 0
HasLeft w i next = (w.gone i ≡ true) ⊎ ((a : Acceptance) × ((w.members i).phase ≡ Switched a) × (a.next ≡ next))

-- A member has accepted just these as the next ones. So it begins no update.
abbrev pub HasAccepted : Life → ℕ → Members → Type 0
HasAccepted w i next = (a : Acceptance) × (acceptance_of (w.members i).phase ≡ Some a) × (a.next ≡ next)
