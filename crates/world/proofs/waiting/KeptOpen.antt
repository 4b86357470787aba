-- A step leaves each own call open, or puts out a reply to it that it may have.
use Rattle.std.proofs.Common.{◌≡◌, ℕ, Bool, true, false, ◌==◌, List, [], ◌∷◌, ◌++◌, find, Some, refl, sym, subst, ◌∙◌}
use Rattle.std.proofs.Common.{◌⊎◌, inl, inr}
use Rattle.std.proofs.lemmas.Bool.{cases_Bool}
use Rattle.std.proofs.lemmas.Option.{same_Some}
use Rattle.table.specs.Operations.{is_value}
use Rattle.table.specs.declared.operations.Reply.{Reply}
use Rattle.table.specs.declared.operations.Reply.TheVariants.{Value}
use Rattle.versions.specs.Entries.{LogEntry}
use Rattle.versions.specs.Stores.{value_at}
use Rattle.node.specs.declared.servers.OpenUpdate.{OpenUpdate}
use Rattle.node.specs.declared.servers.OpenRead.{OpenRead}
use Rattle.node.specs.declared.messages.Output.{Output}
use Rattle.node.specs.declared.messages.Output.TheVariants.{Reply as Answered}
use Rattle.node.specs.Servers.{ServerState, RuleResult, and_then}
use Rattle.node.specs.Numbering.{appended, entered, left_open_by, reply_to}
use Rattle.node.specs.Reading.{asked}
use Rattle.node.specs.Joining.{widened}
use Rattle.node.specs.Steps.{trimmed}
use Rattle.node.specs.Lawful.{IsSound}
use Rattle.node.proofs.Lists.{In, in_front, in_behind}
use Rattle.world.proofs.layers.Addressed.{entry_in}
use Rattle.node.specs.Actions.{Action, Widen, Append, Reach, Settle, Send, Finish, Trim, Enter, Ask, Show, act, does}
use Rattle.node.specs.Actions.{Cause, left, Guard, AreGuarded, IsDone}
use Rattle.world.proofs.waiting.StaysOpen.{out_or_in}

-- these outputs answer the call of a port, with an item or with none
abbrev pub AnswersPort : ℕ → Bool → List Output → Type 0
AnswersPort c shows os = (reply : Reply) × In (Answered c reply) os × (is_value reply ≡ shows)

-- each own call that was open is so still, or has a reply of its kind put out
pub record KeepsOpen (s : ServerState) (o : RuleResult) : Type 0 where
  pub updates : (u : OpenUpdate) → In u s.pend → In u o.state.pend ⊎ AnswersPort u.port false o.outputs
  pub reads : (r : OpenRead) → In r s.asks → In r o.state.asks ⊎ AnswersPort r.port true o.outputs

answers_front : (c : ℕ) (shows : Bool) (os ps : List Output) → AnswersPort c shows os → AnswersPort c shows (os ++ ps)
answers_front c shows os ps x = (x.0, in_front os ps (Answered c x.0) x.1, x.2)

answers_behind : (c : ℕ) (shows : Bool) (os ps : List Output) → AnswersPort c shows ps → AnswersPort c shows (os ++ ps)
answers_behind c shows os ps x = (x.0, in_behind os ps (Answered c x.0) x.1, x.2)

-- two rules that leave each own call open or answer it do so one after the other
pub open_then : (s : ServerState) (a : RuleResult) (rule : ServerState → RuleResult)
    → KeepsOpen s a
    → KeepsOpen a.state (rule a.state)
    → KeepsOpen s (and_then a rule)
open_then s a rule h g =
    record {
      updates = λ u i. elim (h.updates u i) [
        | inr x ↦ inr (answers_front u.port false a.outputs _ x)
        | inl j ↦ elim (g.updates u j) [ inl k ↦ inl k | inr x ↦ inr (answers_behind u.port false a.outputs _ x) ]
      ];
      reads = λ r i. elim (h.reads r i) [
        | inr x ↦ inr (answers_front r.port true a.outputs _ x)
        | inl j ↦ elim (g.reads r j) [ inl k ↦ inl k | inr x ↦ inr (answers_behind r.port true a.outputs _ x) ]
      ];
    }

-- a rule that closes no own call leaves each open
pub open_still : (s : ServerState) (o : RuleResult)
    → ((u : OpenUpdate) → In u s.pend → In u o.state.pend)
    → ((r : OpenRead) → In r s.asks → In r o.state.asks)
    → KeepsOpen s o
open_still s o f g = record { updates = λ u i. inl (f u i); reads = λ r i. inl (g r i) }

-- ---- actions

settled : (s : ServerState) (e : LogEntry) (u : OpenUpdate)
    → is_value e.reply ≡ false
    → In u s.pend
    → In u (left_open_by s.id s.pend e) ⊎ AnswersPort u.port false (reply_to s.id s.pend e)
settled s e u plain i = elim (cases_Bool (e.origin == s.id)) [
  | inl t ↦ elim (out_or_in (λ (x : OpenUpdate). x.id == e.id) s.pend u i) [
    | inl k ↦ inl (rw t k)
    | inr k ↦ inr (rw (t, k) (e.reply, (0, refl), plain))
  ]
  | inr f ↦ inl (rw f i)
]

finished : (s : ServerState) (q : OpenRead) (n : ℕ) (r : OpenRead)
    → find (λ (x : OpenRead). x.ask == q.ask) s.asks ≡ Some q
    → In r s.asks
    → In r (act s (Finish q n)).state.asks ⊎ AnswersPort r.port true (act s (Finish q n)).outputs
unfolding act
finished s q n r found i = elim (out_or_in (λ (x : OpenRead). x.ask == q.ask) s.asks r i) [
  | inl k ↦ inl k
  | inr k ↦ (let same : q ≡ r = same_Some q r (sym found ∙ k) in inr
      (Value (value_at s.store q.key n), (0, rw same refl), refl))
]

open_act : (c : Cause) (s : ServerState) (a : Action) → IsSound s → Guard c s a → KeepsOpen s (act s a)
unfolding act widened appended entered asked trimmed
open_act c s (Widen v) h g = open_still s _ (λ u i. i) (λ r i. i)
open_act c s (Append e) h g = open_still s _ (λ u i. i) (λ r i. i)
open_act c s (Reach n) h g = open_still s _ (λ u i. i) (λ r i. i)
open_act c s (Settle e) h g =
    record {
      updates = λ u i. settled s e u (entry_in s.store.floor s.store.rest g.0.0 e h.store.log g.0.1).answered i;
      reads = λ r i. inl i;
    }
open_act c s (Send j body) h g = open_still s _ (λ u i. i) (λ r i. i)
open_act c s (Finish q n) h g = record { updates = λ u i. inl i; reads = λ r i. finished s q n r g.0 i }
open_act c s Trim h g = open_still s _ (λ u i. i) (λ r i. i)
open_act c s (Enter port call) h g = open_still s _ (λ u i. in_front s.pend _ u i) (λ r i. i)
open_act c s (Ask port key) h g = open_still s _ (λ u i. i) (λ r i. in_front s.asks _ r i)
open_act c s (Show port key) h g = open_still s _ (λ u i. i) (λ r i. i)

open_all : (actions : List Action) (c : Cause) (s : ServerState) → AreGuarded c s actions → KeepsOpen s (does s actions)
unfolding does
open_all [] c s g = open_still s _ (λ u i. i) (λ r i. i)
open_all (a ∷ later) c s g =
    open_then s (act s a) (λ t. does t later) (open_act c s a g.0 g.1) (open_all later (left c) (act s a).state g.2)

-- a rule that is a list of guarded actions leaves each own call open, or answers it
pub open_done : (c : Cause) (s : ServerState) (o : RuleResult) → IsDone c s o → KeepsOpen s o
open_done c s o d = subst (λ x. KeepsOpen s x) (sym d.same) (open_all d.actions c s d.guarded)
